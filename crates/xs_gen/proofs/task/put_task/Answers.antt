-- The lines of a task stand behind one another.
use Rattle.std.proofs.Common.{rules}
use Rattle.std.proofs.lemmas.Result.{IfOk-equal}
use Rattle.xs_gen.proofs.TextLemmas.{task_text}
use Rattle.xs_gen.proofs.task.put_task.Goals as goal

pub returns-clause-text : goal.returns-clause-text
returns-clause-text c =
    let rounds = c.in_ok-put_rounds.ensures in
    IfOk-equal _ _ _ _ (search rules)
    (task_text c.args.task c.args.source.now.state c.put_rounds.new.source.state c.args.text.now.items c.put_task_name.new.text.items c.extend_from_slice.new.self.items c.put_rounds.new.text.items c.put_tile.new.text.items rounds.state c.in_ok-put_task_name.ensures c.in_ok-extend_from_slice.ensures.items rounds.text c.in_ok-put_tile.ensures.text)
