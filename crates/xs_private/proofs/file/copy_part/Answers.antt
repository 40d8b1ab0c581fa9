-- A component of the machine was loaded; one that it lacks is initial in both files.
use Rattle.std.proofs.Common.{◌≡◌, ℕ, false, not, List, get_or, sym, ap, ◌∙◌, inl, inr}
use Rattle.std.proofs.lemmas.Bool.{false≢true, ne_eqb, cases_eq}
use Rattle.xs_base.specs.declared.component.Row.{Row}
use Rattle.xs_base.specs.File.{File}
use Rattle.xs_base.specs.Layout.{has_row}
use Rattle.xs_private.proofs.FileLemmas.{same_part}
use Rattle.xs_private.proofs.file.copy_part.Goals as goal
use Rattle.xs_private.proofs.file.copy_part.Goals.{then-ne+then-has_row, else-ne, else-ne-via-then-ne+else-has_row, else-ne-via-else-ne}

pub returns-clause-copied : goal.returns-clause-copied
returns-clause-copied c = λ apart. elim c.if-ne.branch [
  | then-ne+then-has_row w ↦ same_part c.args.from.now c.if-ne.to c.args.c.0 w.layout.ensures.file c.layout-2.ensures.file c.requires.number
      (λ k own. rw w.to-is (w.load.ensures.own k own ∙ ap (λ (bytes : List ℕ). get_or bytes k 0) w.part.ensures.bytes))
  | else-ne w ↦ elim w.else-ne.branch [
    | else-ne-via-then-ne+else-has_row x ↦
        let here : has_row c.args.from.now.rows c.args.c.0 ≡ false = ap (λ (rs : List Row). has_row rs c.args.c.0) (sym x.layout.ensures.rows) ∙ sym x.has_row.ensures ∙ x.if-has_row.false in
        let there : has_row c.if-ne.to.rows c.args.c.0 ≡ false = ap (λ (rs : List Row). has_row rs c.args.c.0) (ap (λ (f : File). f.rows) w.to-is ∙ c.requires.machine) ∙ here in
        c.layout-2.ensures.file.absent c.args.c.0 c.requires.number there apart ∙ sym (x.layout.ensures.file.absent c.args.c.0 c.requires.number here apart)
    | else-ne-via-else-ne x ↦ elim (cases_eq c.args.c.0 9) [
      | inl nine ↦ absurd (apart nine)
      | inr other ↦ absurd (false≢true (sym x.if-ne.false ∙ c.ne.ensures ∙ ap not (ne_eqb c.args.c.0 9 other)))
    ]
  ]
]
