-- The block at its line runs it.
use Rattle.std.proofs.Common.{Some, slice_set, sym, ap, ◌∙◌}
use Rattle.std.proofs.lemmas.Option.{slice_get_within}
use Rattle.std.specs.Prelude.{Option}
use Rattle.xs_model.specs.declared.script.Command.{Command}
use Rattle.xs_model.specs.Machine.{ran_line}
use Rattle.xs_model.specs.State.{changed}
use Rattle.xs_legal.proofs.Places.{changed_read}
use Rattle.xs_legal.proofs.effects.run_in.Goals as goal

pub returns : goal.returns
returns c line local =
    let script = c.args.script.now in
    let blocks = c.args.blocks.now in
    let command = c.command_of-command.result.now in
    let within = slice_get_within blocks c.args.t local.here.block local.here.state in
    let is = c.command_of-command.ensures line local.here in
    ap (slice_set blocks c.args.t) c.run.ensures
    ∙ changed_read (ran_line script (Some command)) blocks c.args.t c.index-blocks-t.result within
    ∙ ap (λ (o : Option Command). changed c.args.t (ran_line script o) blocks) (sym is)
