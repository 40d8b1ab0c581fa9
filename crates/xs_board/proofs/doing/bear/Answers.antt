-- The child's task is made of its parent's.
use Rattle.std.proofs.Common.{◌≡◌, refl, sym, ap, ◌∙◌, subst}
use Rattle.std.proofs.lemmas.Option.{same_Some}
use Rattle.xs_task.specs.declared.task.Task.{Task}
use Rattle.xs_board.specs.Home.{IsClear}
use Rattle.xs_board.proofs.doing.bear.Goals as goal

pub returns : goal.returns
returns c before is =
    let same : c.in-Some.child ≡ before = same_Some c.in-Some.child before (sym c.in-Some.is ∙ is) in
    let known = c.requires.child in
    let other : known.0 ≡ c.in-Some.child = same_Some known.0 c.in-Some.child (sym known.1 ∙ c.in-Some.is) in
    let clear : IsClear c.in-Some.child = subst IsClear other known.2.clear in (
      c.inherit.new.child,
      refl,
      record {
        whole = c.inherit.ensures.whole;
        stands = λ p parked marks. c.inherit.ensures.parked p parked marks clear.frame clear.buffer;
        name = c.inherit.ensures.name ∙ ap (λ (t : Task). t.name) same;
        last = c.inherit.ensures.last;
      },
    )
