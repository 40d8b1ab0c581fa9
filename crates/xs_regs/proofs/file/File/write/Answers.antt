-- The register's component has other bytes of the register, and the file stays a file.
use Rattle.std.proofs.Common.{◌≡◌, false, not, List, ℕ, length, sym, ap, ◌∙◌}
use Rattle.std.specs.Str.{bytes_eq}
use Rattle.xs_base.specs.Bytes.{splice}
use Rattle.xs_base.specs.Component.{initial_part}
use Rattle.xs_base.specs.File.{is_mxcsr, part}
use Rattle.xs_base.specs.Layout.{has_row}
use Rattle.xs_base.proofs.FileLemmas.{write_is_file}
use Rattle.xs_base.proofs.Registers.{place_component}
use Rattle.xs_regs.proofs.InUse.{used_with, changed_there}
use Rattle.xs_regs.proofs.Parts.{shown_file, register_fits, register_size, register_part, register_spliced}
use Rattle.xs_regs.proofs.file.File.write.Goals as goal

pub put_register-used-requires-clause-size : goal.put_register-used-requires-clause-size
put_register-used-requires-clause-size c =
    let register = rw (← c.self.view_is) at c.requires.register in
    register_size c.self.inside.layout c.self.inside.parts.items c.self.inside.mxcsr c.args.place c.index_mut.result.now c.as_slice-bytes.result.now c.deref_mut.result.now register c.self.invariant.0 c.index_mut.ensures.value c.deref_mut.ensures.value

pub put_register-used-requires-clause-fits : goal.put_register-used-requires-clause-fits
put_register-used-requires-clause-fits c =
    let register = rw (← c.self.view_is) at c.requires.register in
    let apart : is_mxcsr c.args.place ≡ false = sym c.is_mxcsr.ensures ∙ c.if-is_mxcsr.false in
    let len : length c.as_slice-bytes.result.now ≡ c.args.place.len = ap length c.as_slice-bytes.ensures.bytes ∙ c.requires.len in
    (register_fits c.self.inside.layout c.self.inside.parts.items c.self.inside.mxcsr c.args.place c.index_mut.result.now c.as_slice-bytes.result.now c.deref_mut.result.now register c.self.invariant.0 apart len c.index_mut.ensures.value c.deref_mut.ensures.value).1

pub invariant_of-self-else-is_mxcsr : goal.invariant_of-self-else-is_mxcsr
invariant_of-self-else-is_mxcsr c =
    let file = shown_file c.self.inside.layout c.self.inside.parts.items c.self.inside.mxcsr in
    let place = c.args.place in
    let register = rw (← c.self.view_is) at c.requires.register in
    let apart : is_mxcsr place ≡ false = sym c.is_mxcsr.ensures ∙ c.if-is_mxcsr.false in
    let len : length c.as_slice-bytes.result.now ≡ place.len = ap length c.as_slice-bytes.ensures.bytes ∙ c.requires.len in
    let spliced = register_spliced c.self.inside.layout c.self.inside.parts.items c.self.inside.mxcsr place c.index_mut.result.now c.as_slice-bytes.result.now c.deref_mut.result.now register c.put_register-used.new.out c.self.invariant.0 apart len c.index_mut.ensures.value c.deref_mut.ensures.value c.deref_mut.ensures.len c.put_register-used.ensures.written in
    let bytes = splice place.offset c.as_slice-bytes.result.now (part file place.comp.0) in
    let out : c.put_register-used.new.out ≡ bytes = register_part c.self.inside.layout c.self.inside.parts.items c.self.inside.mxcsr place c.index_mut.result.now c.as_slice-bytes.result.now c.deref_mut.result.now register c.put_register-used.new.out c.self.invariant.0 c.index_mut.ensures.value c.deref_mut.ensures.value c.put_register-used.ensures.written in
    let used = changed_there (has_row c.self.inside.layout place.comp.0) (not (bytes_eq bytes (initial_part place.comp.0))) c.put_register-used.result register.1.1 (c.put_register-used.ensures.used ∙ ap (λ bs. not (bytes_eq bs (initial_part place.comp.0))) out) in
    rw spliced (
      write_is_file file register.0 place c.as_slice-bytes.result.now c.self.invariant.0 register.1 len apart,
      used_with file place.comp.0 c.self.inside.used.0 c.with-self-inside.result.0 bytes c.put_register-used.result c.self.invariant.0 (place_component register.0 place register.1.0) c.self.invariant.1 used c.with-self-inside.ensures,
    )

pub returns-else-is_mxcsr-clause-written : goal.returns-else-is_mxcsr-clause-written
returns-else-is_mxcsr-clause-written c =
    let register = rw (← c.self.view_is) at c.requires.register in
    let apart : is_mxcsr c.args.place ≡ false = sym c.is_mxcsr.ensures ∙ c.if-is_mxcsr.false in
    let len : length c.as_slice-bytes.result.now ≡ c.args.place.len = ap length c.as_slice-bytes.ensures.bytes ∙ c.requires.len in
    let spliced = register_spliced c.self.inside.layout c.self.inside.parts.items c.self.inside.mxcsr c.args.place c.index_mut.result.now c.as_slice-bytes.result.now c.deref_mut.result.now register c.put_register-used.new.out c.self.invariant.0 apart len c.index_mut.ensures.value c.deref_mut.ensures.value c.deref_mut.ensures.len c.put_register-used.ensures.written in
    rw (apart, ← c.self.view_is, ← c.as_slice-bytes.ensures.bytes) (ap (λ (parts : List (List ℕ)). record { rows = c.self.inside.layout; parts = parts; mxcsr = c.self.inside.mxcsr }) spliced)
