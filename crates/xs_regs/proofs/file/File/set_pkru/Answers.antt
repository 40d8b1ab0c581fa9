-- PKRU has other bytes, and the file stays a file.
use Rattle.std.proofs.Common.{◌≡◌, List, ℕ, ◌&&◌, not, ◌++◌, ◌<◌, length, ap, ◌∙◌, arith}
use Rattle.std.specs.Int.{to_le_bytes, w32}
use Rattle.std.specs.Str.{bytes_eq}
use Rattle.xs_base.specs.Bytes.{zeros}
use Rattle.xs_base.specs.Component.{component_count, initial_part}
use Rattle.xs_base.specs.Layout.{has_row}
use Rattle.xs_base.proofs.ComponentLemmas.{pkru_size}
use Rattle.xs_regs.proofs.InUse.{used_with}
use Rattle.xs_regs.proofs.Parts.{shown_file}
use Rattle.xs_base.proofs.FileLemmas.{splice_whole, pkru_is_file, pkru_length}
use Rattle.xs_regs.proofs.Loads.{vector_size, vector_len, vector_written}
use Rattle.xs_regs.proofs.file.File.set_pkru.Goals as goal

pub put_register-used-requires-clause-size : goal.put_register-used-requires-clause-size
put_register-used-requires-clause-size c =
    ap length c.deref_mut.ensures.value ∙ vector_size c.self.inside.layout c.self.inside.parts.items c.self.inside.mxcsr 9 c.index_mut.result.now (omega arith) c.self.invariant.0 c.index_mut.ensures.value

pub put_register-used-requires-clause-fits : goal.put_register-used-requires-clause-fits
put_register-used-requires-clause-fits c =
    let size = vector_size c.self.inside.layout c.self.inside.parts.items c.self.inside.mxcsr 9 c.index_mut.result.now (omega arith) c.self.invariant.0 c.index_mut.ensures.value in
    omega (arith, pkru_size, ap length c.deref_mut.ensures.value, ap length c.pkru_bytes.ensures, pkru_length c.args.value)

pub invariant_of-self : goal.invariant_of-self
invariant_of-self c =
    let file = shown_file c.self.inside.layout c.self.inside.parts.items c.self.inside.mxcsr in
    let bytes = to_le_bytes w32 c.args.value ++ zeros 4 in
    let small : 9 < component_count = omega arith in
    let size = vector_size c.self.inside.layout c.self.inside.parts.items c.self.inside.mxcsr 9 c.index_mut.result.now small c.self.invariant.0 c.index_mut.ensures.value in
    let whole : length c.pkru_bytes.result ≡ length c.deref_mut.result.now = omega (arith, pkru_size, ap length c.deref_mut.ensures.value, ap length c.pkru_bytes.ensures, pkru_length c.args.value) in
    let is : c.put_register-used.new.out ≡ bytes = c.put_register-used.ensures.written ∙ splice_whole c.pkru_bytes.result c.deref_mut.result.now whole ∙ c.pkru_bytes.ensures in
    let len = vector_len c.self.inside.layout c.self.inside.parts.items c.self.inside.mxcsr 9 c.index_mut.result.now small c.self.invariant.0 c.index_mut.ensures.value c.deref_mut.result.now c.put_register-used.new.out c.deref_mut.ensures.value c.deref_mut.ensures.len (ap length is ∙ pkru_length c.args.value) in
    let used = ap (λ b. has_row c.self.inside.layout 9 && b) (c.put_register-used.ensures.used ∙ ap (λ bs. not (bytes_eq bs (initial_part 9))) is) in
    rw (vector_written c.self.inside.layout c.self.inside.parts.items c.self.inside.mxcsr 9 c.index_mut.result.now small c.self.invariant.0 c.index_mut.ensures.value c.put_register-used.new.out len, is) (
      pkru_is_file file c.args.value c.self.invariant.0,
      used_with file 9 c.self.inside.used.0 c.with_row-self-inside.result.0 bytes (has_row c.self.inside.layout 9 && c.put_register-used.result) c.self.invariant.0 small c.self.invariant.1 used c.with_row-self-inside.ensures,
    )

pub returns : goal.returns
returns c =
    let small : 9 < component_count = omega arith in
    let size = vector_size c.self.inside.layout c.self.inside.parts.items c.self.inside.mxcsr 9 c.index_mut.result.now small c.self.invariant.0 c.index_mut.ensures.value in
    let whole : length c.pkru_bytes.result ≡ length c.deref_mut.result.now = omega (arith, pkru_size, ap length c.deref_mut.ensures.value, ap length c.pkru_bytes.ensures, pkru_length c.args.value) in
    let is : c.put_register-used.new.out ≡ to_le_bytes w32 c.args.value ++ zeros 4 = c.put_register-used.ensures.written ∙ splice_whole c.pkru_bytes.result c.deref_mut.result.now whole ∙ c.pkru_bytes.ensures in
    let len = vector_len c.self.inside.layout c.self.inside.parts.items c.self.inside.mxcsr 9 c.index_mut.result.now small c.self.invariant.0 c.index_mut.ensures.value c.deref_mut.result.now c.put_register-used.new.out c.deref_mut.ensures.value c.deref_mut.ensures.len (ap length is ∙ pkru_length c.args.value) in
    let written = vector_written c.self.inside.layout c.self.inside.parts.items c.self.inside.mxcsr 9 c.index_mut.result.now small c.self.invariant.0 c.index_mut.ensures.value c.put_register-used.new.out len in
    rw (← c.self.view_is, ← is) (ap (λ (parts : List (List ℕ)). record { rows = c.self.inside.layout; parts = parts; mxcsr = c.self.inside.mxcsr }) written)
