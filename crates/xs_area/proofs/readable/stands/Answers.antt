use Rattle.std.proofs.Common.{◌<◌, ◌==◌, ℕ, get_or, bit_and, sym, ap, ◌∙◌, rules}
use Rattle.std.proofs.lemmas.Bool.{false≢true}
use Rattle.xs_base.specs.Layout.{features}
use Rattle.xs_base.proofs.AreaLemmas.{control_small}
use Rattle.xs_area.proofs.ReadableLemmas.{readable_from, readable_known, readable_rows, readable_room}
use Rattle.xs_area.proofs.readable.stands.Goals as goal

pub returns-then-not-is_of_machine-clause-readable : goal.returns-then-not-is_of_machine-clause-readable
returns-then-not-is_of_machine-clause-readable c = (
  λ no. absurd (false≢true no),
  λ able.
      let known = rw (← c.as_slice-bytes.ensures.value) at (readable_known c.args.layout.now c.args.area.now.bytes.items able) in
      c.if-not-is_of_machine.ensures ∙ ap (λ x. bit_and x (features c.args.layout.now) == x) c.xstate_bv.ensures ∙ known,
)

pub returns-clause-readable : goal.returns-clause-readable
returns-clause-readable c =
    let small : (i : ℕ) → get_or c.as_slice-bytes.result.now i 0 < 256 = search rules in
    let known = sym (c.if-not-is_of_machine.ensures) in (
      λ yes. rw (← c.as_slice-bytes.ensures.value) (readable_from c.args.layout.now c.as_slice-bytes.result.now c.has_rows.ensures.layout c.if-bytes-lt576.false (control_small c.as_slice-bytes.result.now small) (rw c.xstate_bv.ensures at known) (c.has_rows.ensures.rows.0 yes)),
      λ able. c.has_rows.ensures.rows.1 (rw c.as_slice-bytes.ensures.value (readable_rows c.args.layout.now c.args.area.now.bytes.items able)),
    )

pub returns-clause-room : goal.returns-clause-room
returns-clause-room c on n named = readable_room c.args.layout.now c.args.area.now.bytes.items ((returns-clause-readable c).0 on) n named
