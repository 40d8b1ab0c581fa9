-- The component has the bytes, and the file stays a file.
use Rattle.std.proofs.Common.{◌≡◌, true, not, sym, ◌∙◌}
use Rattle.std.proofs.lemmas.Bool.{false≢true}
use Rattle.std.specs.Str.{bytes_eq}
use Rattle.xs_base.specs.Component.{initial_part}
use Rattle.xs_base.specs.Layout.{has_row}
use Rattle.xs_regs.proofs.InUse.{used_with, changed_there}
use Rattle.xs_regs.proofs.Parts.{shown_file}
use Rattle.xs_base.proofs.FileLemmas.{other_is_file}
use Rattle.xs_regs.proofs.Loads.{vector_len, vector_written, loaded}
use Rattle.xs_regs.proofs.file.File.load.Goals as goal

pub invariant_of-self : goal.invariant_of-self
invariant_of-self c =
    let file = shown_file c.self.inside.layout c.self.inside.parts.items c.self.inside.mxcsr in
    let out = c.put_cleaned-used.new.out in
    let there : has_row c.self.inside.layout c.args.c.0 ≡ true = rw (← c.self.view_is) at c.requires.there in
    let copy = c.put_cleaned-used.ensures.copy in
    let len = vector_len c.self.inside.layout c.self.inside.parts.items c.self.inside.mxcsr c.args.c.0 c.index_mut.result.now c.requires.number c.self.invariant.0 c.index_mut.ensures.value c.deref_mut.result.now out c.deref_mut.ensures.value c.deref_mut.ensures.len copy.len in
    let used = changed_there (has_row c.self.inside.layout c.args.c.0) (not (bytes_eq out (initial_part c.args.c.0))) c.put_cleaned-used.result there c.put_cleaned-used.ensures.used in
    rw (vector_written c.self.inside.layout c.self.inside.parts.items c.self.inside.mxcsr c.args.c.0 c.index_mut.result.now c.requires.number c.self.invariant.0 c.index_mut.ensures.value out len) (
      other_is_file file c.args.c.0 out c.requires.number copy.len copy.clean (λ gone other. absurd (false≢true (sym gone ∙ there))) c.self.invariant.0,
      used_with file c.args.c.0 c.self.inside.used.0 c.with-self-inside.result.0 out c.put_cleaned-used.result c.self.invariant.0 c.requires.number c.self.invariant.1 used c.with-self-inside.ensures,
    )

pub returns : goal.returns
returns c =
    let out = c.put_cleaned-used.new.out in
    let copy = c.put_cleaned-used.ensures.copy in
    let len = vector_len c.self.inside.layout c.self.inside.parts.items c.self.inside.mxcsr c.args.c.0 c.index_mut.result.now c.requires.number c.self.invariant.0 c.index_mut.ensures.value c.deref_mut.result.now out c.deref_mut.ensures.value c.deref_mut.ensures.len copy.len in
    rw (← c.self.view_is, vector_written c.self.inside.layout c.self.inside.parts.items c.self.inside.mxcsr c.args.c.0 c.index_mut.result.now c.requires.number c.self.invariant.0 c.index_mut.ensures.value out len) (loaded (shown_file c.self.inside.layout c.self.inside.parts.items c.self.inside.mxcsr) c.args.c.0 c.args.bytes.now out c.requires.number c.self.invariant.0 copy)
