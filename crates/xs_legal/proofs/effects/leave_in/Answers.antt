-- The block leaves its turn after what its line reaches.
use Rattle.std.proofs.Common.{◌≡◌, ◌<◌, List, length, Some, get_or, slice_get, slice_set, sym, ap, ◌∙◌, subst, arith}
use Rattle.std.proofs.lemmas.Option.{same_Some, slice_get_within}
use Rattle.std.specs.Prelude.{Option}
use Rattle.xs_model.specs.declared.script.Command.{Command}
use Rattle.xs_model.specs.Outer.{outer_own, outer_reach, reach_of}
use Rattle.xs_model.specs.State.{BlockState, changed}
use Rattle.xs_legal.specs.Step.{CanReach}
use Rattle.xs_legal.proofs.Places.{changed_read, read_at}
use Rattle.xs_legal.proofs.Reaching.{IsPlaced, reached_place}
use Rattle.xs_legal.proofs.effects.leave_in.Goals as goal

pub leave-requires-clause-place : goal.leave-requires-clause-place
leave-requires-clause-place c =
    let script = c.args.script.now in
    let blocks = c.args.blocks.now in
    let t = c.args.t in
    let command = c.command_of-command.result.now in
    let outer = c.requires.line.1 in
    let is = sym outer.here.command ∙ c.command_of-command.ensures c.requires.line.0 outer.here in
    let same = same_Some outer.here.order.command command is in
    let can = subst (λ (o : Command). CanReach script blocks t o c.args.reply.now) same outer.reach in
    let placed : IsPlaced (reach_of script t command c.args.reply.now blocks) t outer.here.block.task.place = reached_place script blocks t outer.here.block outer.here.state command c.args.reply.now can in
    let here = ap (λ (bs : List BlockState). slice_get bs t) c.reach.ensures ∙ placed.here in
    let place : (get_or c.reach.new.blocks t c.index-blocks-t.result).task.place ≡ outer.here.block.task.place = ap (λ (b : BlockState). b.task.place) (read_at c.reach.new.blocks t placed.block c.index-blocks-t.result here) ∙ placed.place_is in
    let small = outer.here.place in
    omega arith

pub returns : goal.returns
returns c line outer =
    let script = c.args.script.now in
    let blocks = c.args.blocks.now in
    let t = c.args.t in
    let reply = c.args.reply.now in
    let command = c.command_of-command.result.now in
    let reached = c.reach.new.blocks in
    let is = c.command_of-command.ensures line outer.here in
    let known = slice_get_within blocks t outer.here.block outer.here.state in
    let long = c.reach.auto.blocks in
    let within : t < length reached = omega arith in
    ap (slice_set reached t) c.leave.ensures
    ∙ changed_read (outer_own script (Some command) reply) reached t c.index-blocks-t.result within
    ∙ ap (changed t (outer_own script (Some command) reply)) c.reach.ensures
    ∙ ap (λ (o : Option Command). changed t (outer_own script o reply) (outer_reach script t o reply blocks)) (sym is)
