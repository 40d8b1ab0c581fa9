-- The component is initial, and the file stays a file.
use Rattle.std.proofs.Common.{◌≡◌, List, ℕ, Bool, true, false, not, ◌==◌, length, refl, sym, ap, ◌∙◌}
use Rattle.std.proofs.lemmas.Bool.{eqb-false}
use Rattle.xs_base.specs.Component.{initial_part}
use Rattle.xs_base.specs.Layout.{has_row}
use Rattle.xs_base.proofs.ComponentLemmas.{length_initial}
use Rattle.xs_regs.proofs.InUse.{used_with, unchanged, reset_unused}
use Rattle.xs_regs.proofs.Parts.{shown_file}
use Rattle.xs_regs.proofs.Loads.{vector_len, vector_written, reset_is_file}
use Rattle.xs_regs.proofs.file.File.reset.Goals as goal

pub invariant_of-self : goal.invariant_of-self
invariant_of-self c =
    let file = shown_file c.self.inside.layout c.self.inside.parts.items c.self.inside.mxcsr in
    let is = c.put_initial_part.ensures in
    let len = vector_len c.self.inside.layout c.self.inside.parts.items c.self.inside.mxcsr c.args.c.0 c.index_mut.result.now c.requires c.self.invariant.0 c.index_mut.ensures.value c.deref_mut.result.now c.put_initial_part.new.out c.deref_mut.ensures.value c.deref_mut.ensures.len (ap length is ∙ length_initial c.args.c.0) in
    let unused = sym (unchanged c.args.c.0 (initial_part c.args.c.0) (has_row c.self.inside.layout c.args.c.0) refl) in
    rw (vector_written c.self.inside.layout c.self.inside.parts.items c.self.inside.mxcsr c.args.c.0 c.index_mut.result.now c.requires c.self.invariant.0 c.index_mut.ensures.value c.put_initial_part.new.out len, is) (
      reset_is_file file c.args.c.0 c.requires c.self.invariant.0,
      used_with file c.args.c.0 c.self.inside.used.0 c.with-self-inside.result.0 (initial_part c.args.c.0) false c.self.invariant.0 c.requires c.self.invariant.1 unused c.with-self-inside.ensures,
    )

pub returns-clause-written : goal.returns-clause-written
returns-clause-written c =
    let is = c.put_initial_part.ensures in
    let len = vector_len c.self.inside.layout c.self.inside.parts.items c.self.inside.mxcsr c.args.c.0 c.index_mut.result.now c.requires c.self.invariant.0 c.index_mut.ensures.value c.deref_mut.result.now c.put_initial_part.new.out c.deref_mut.ensures.value c.deref_mut.ensures.len (ap length is ∙ length_initial c.args.c.0) in
    let written = vector_written c.self.inside.layout c.self.inside.parts.items c.self.inside.mxcsr c.args.c.0 c.index_mut.result.now c.requires c.self.invariant.0 c.index_mut.ensures.value c.put_initial_part.new.out len in
    rw (← c.self.view_is, ← is) (ap (λ (parts : List (List ℕ)). record { rows = c.self.inside.layout; parts = parts; mxcsr = c.self.inside.mxcsr }) written)

pub returns-clause-file : goal.returns-clause-file
returns-clause-file c =
    let is = c.put_initial_part.ensures in
    let len = vector_len c.self.inside.layout c.self.inside.parts.items c.self.inside.mxcsr c.args.c.0 c.index_mut.result.now c.requires c.self.invariant.0 c.index_mut.ensures.value c.deref_mut.result.now c.put_initial_part.new.out c.deref_mut.ensures.value c.deref_mut.ensures.len (ap length is ∙ length_initial c.args.c.0) in
    rw (vector_written c.self.inside.layout c.self.inside.parts.items c.self.inside.mxcsr c.args.c.0 c.index_mut.result.now c.requires c.self.invariant.0 c.index_mut.ensures.value c.put_initial_part.new.out len, is) (reset_is_file (shown_file c.self.inside.layout c.self.inside.parts.items c.self.inside.mxcsr) c.args.c.0 c.requires c.self.invariant.0)

off : (b : Bool) → not b ≡ true → b ≡ false
off true h = sym h
off false h = refl

pub returns-then-ne-clause-written : goal.returns-then-ne-clause-written
returns-then-ne-clause-written c =
    let file = shown_file c.self.inside.layout c.self.inside.parts.items c.self.inside.mxcsr in
    let other = eqb-false c.args.c.0 9 (off (c.args.c.0 == 9) (sym c.ne.ensures ∙ c.if-ne.true)) in
    rw (← c.self.view_is) (reset_unused file c.args.c.0 c.has.result c.self.invariant.0 c.requires (c.has.ensures ∙ c.self.invariant.1.each c.args.c.0) c.if-not-has.true other)
