-- The slot of a fork's child has a task, which becomes the child.
use Rattle.std.proofs.Common.{◌≡◌, ap, ◌∙◌}
use Rattle.std.proofs.lemmas.List.{get_or_default}
use Rattle.std.specs.Prelude.{Some, None, slice_set}
use Rattle.xs_board.proofs.doing.fork.Goals as goal

-- the task that is there
there : (c : goal.After-index_mut) → c.index_mut.result.now ≡ Some (c.requires.child).0
there c = c.index_mut.ensures.value ∙ get_or_default c.args.tasks.now.items c.args.child c.index_mut.result.now None c.requires.known ∙ (c.requires.child).1

pub bear-requires-clause-child : goal.bear-requires-clause-child
bear-requires-clause-child c = (c.requires.child.0, there c, c.requires.child.2)

pub returns-clause-home : goal.returns-clause-home
returns-clause-home c =
    let had = c.requires.child in
    let born = c.bear.ensures had.0 (c.index_mut.ensures.value ∙ get_or_default c.args.tasks.now.items c.args.child c.index_mut.result.now None c.requires.known ∙ had.1) in
    (had.0, born.0, had.1, ap (slice_set c.args.tasks.now.items c.args.child) born.1, born.2)
