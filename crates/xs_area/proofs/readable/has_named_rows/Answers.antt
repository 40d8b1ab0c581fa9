use Rattle.std.proofs.Common.{◌≡◌, refl, sym, ap, ◌∙◌, arith}
use Rattle.std.proofs.lemmas.Bool.{false≢true}
use Rattle.xs_base.specs.declared.component.Features.{Features}
use Rattle.xs_base.specs.Compact.{place}
use Rattle.xs_base.specs.Header.{xcomp_bv}
use Rattle.xs_base.specs.Sets.{has}
use Rattle.xs_area.proofs.ReadableLemmas.{named_first, named_more, named_missing, named_all}
use Rattle.xs_area.proofs.readable.has_named_rows.Goals as goal
use Rattle.xs_area.proofs.readable.has_named_rows.Goals.{else-has-via-then-has+else-at-row, else-has-via-else-has}

pub each-init : goal.each-init
each-init c = record {
  names = ap (λ (n : Features). n.0) c.new-cursor.ensures.names ∙ c.xcomp_bv.ensures;
  before = c.new-cursor.ensures.before c.args.layout.now;
  named = named_first c.args.layout.now c.args.bytes.now;
}

pub returns-then-at-row : goal.returns-then-at-row
returns-then-at-row c =
    let rows = c.args.layout.now in
    let row = c.pass-at.result.0 in
    let placed : c.pass-at.result.1 ≡ place rows (xcomp_bv c.args.bytes.now) row = c.pass-at.ensures.place ∙ ap (λ n. place rows n row) c.each.invariant.names in
    let named = ap (λ x. has x row.comp.0) (sym c.xcomp_bv.ensures) ∙ sym c.if-has.ensures in (
      λ no. absurd (false≢true no),
      λ all. absurd (named_missing rows c.args.bytes.now c.each.i row (omega arith) c.pass-at.ensures.row named (omega (arith, placed)) all),
    )

pub each-preserved : goal.each-preserved
each-preserved c =
    let rows = c.args.layout.now in
    let row = c.pass-at.result.0 in
    let placed : c.pass-at.result.1 ≡ place rows (xcomp_bv c.args.bytes.now) row = c.pass-at.ensures.place ∙ ap (λ n. place rows n row) c.each.invariant.names in
    record {
      names = ap (λ (n : Features). n.0) c.pass-at.ensures.names ∙ c.each.invariant.names;
      before = c.pass-at.ensures.before;
      named =
          named_more rows c.args.bytes.now c.each.i row c.pass-at.ensures.row
          (elim c.else-has.branch [
            | else-has-via-then-has+else-at-row w ↦ λ named. let inside = w.if-at-row.false in omega (arith, placed)
            | else-has-via-else-has w ↦ λ named. absurd (false≢true (w.if-has.ensures ∙ ap (λ x. has x row.comp.0) c.xcomp_bv.ensures ∙ named))
          ]) c.each.invariant.named;
    }

pub returns : goal.returns
returns c = (λ yes. named_all c.args.layout.now c.args.bytes.now c.each.i (omega arith) c.each.invariant.named, λ all. refl)
