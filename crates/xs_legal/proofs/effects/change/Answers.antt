-- The block of a step is there, and each effect is that of its event.
use Rattle.std.proofs.Common.{◌<◌, length, get_or, slice_set, ap, ◌∙◌, subst, arith}
use Rattle.std.proofs.lemmas.Option.{slice_get-get_or}
use Rattle.xs_base.specs.Task.{IsPrivateTask}
use Rattle.xs_model.specs.Line.{killed}
use Rattle.xs_model.specs.Machine.{ended_with, grew, started}
use Rattle.xs_model.specs.State.{BlockState, changed}
use Rattle.xs_legal.specs.Step.{IsNext}
use Rattle.xs_legal.proofs.Lines.{each_of}
use Rattle.xs_legal.proofs.Places.{changed_read}
use Rattle.xs_legal.proofs.effects.change.Goals as goal

pub start-requires : goal.start-requires
start-requires c =
    let script = c.args.script.now in
    let blocks = c.args.blocks.now in
    let within : c.in-Start.task < length blocks = rw c.in-Start.is at (c.steps_told.ensures.within script blocks c.args.event.now c.requires) in
    let d = c.index-blocks-task.result in
    (script.layout, each_of (λ (b : BlockState). IsPrivateTask script.layout b.task) blocks c.in-Start.task (get_or blocks c.in-Start.task d) (c.steps_told.ensures.valid script blocks c.args.event.now c.requires) (slice_get-get_or blocks c.in-Start.task d within))

pub run_in-requires : goal.run_in-requires
run_in-requires c = (c.in-Local.line, c.steps_told.ensures.local c.args.script.now c.args.blocks.now c.in-Local.task c.in-Local.line c.in-Local.reply (subst (IsNext c.args.script.now c.args.blocks.now) c.in-Local.is c.requires))

pub leave_in-requires-clause-line : goal.leave_in-requires-clause-line
leave_in-requires-clause-line c = (c.in-Outer.line, c.steps_told.ensures.outer c.args.script.now c.args.blocks.now c.in-Outer.task c.in-Outer.line c.in-Outer.reply (subst (IsNext c.args.script.now c.args.blocks.now) c.in-Outer.is c.requires))

pub bounds-blocks-task-in-Grow : goal.bounds-blocks-task-in-Grow
bounds-blocks-task-in-Grow c = rw c.in-Grow.is at (c.steps_told.ensures.within c.args.script.now c.args.blocks.now c.args.event.now c.requires)

pub bounds-blocks-task-in-Kill : goal.bounds-blocks-task-in-Kill
bounds-blocks-task-in-Kill c =
    let within : c.in-Kill.task < length c.args.blocks.now = rw c.in-Kill.is at (c.steps_told.ensures.within c.args.script.now c.args.blocks.now c.args.event.now c.requires) in
    let long = c.free_all.auto.blocks in
    omega arith

pub bounds-blocks-task-in-End : goal.bounds-blocks-task-in-End
bounds-blocks-task-in-End c =
    let within : c.in-End.task < length c.args.blocks.now = rw c.in-End.is at (c.steps_told.ensures.within c.args.script.now c.args.blocks.now c.args.event.now c.requires) in
    let long = c.free_all-in-End.auto.blocks in
    omega arith

pub returns-in-Start : goal.returns-in-Start
returns-in-Start c =
    let blocks = c.args.blocks.now in
    let t = c.in-Start.task in
    let within : t < length blocks = rw c.in-Start.is at (c.steps_told.ensures.within c.args.script.now blocks c.args.event.now c.requires) in
    rw c.in-Start.is (ap (slice_set blocks t) c.start.ensures ∙ changed_read (started c.in-Start.cpu c.in-Start.signal) blocks t c.index-blocks-task.result within)

pub returns-in-Local : goal.returns-in-Local
returns-in-Local c =
    rw c.in-Local.is (c.run_in.ensures c.in-Local.line (c.steps_told.ensures.local c.args.script.now c.args.blocks.now c.in-Local.task c.in-Local.line c.in-Local.reply (subst (IsNext c.args.script.now c.args.blocks.now) c.in-Local.is c.requires)))

pub returns-in-Outer : goal.returns-in-Outer
returns-in-Outer c =
    rw c.in-Outer.is (c.leave_in.ensures c.in-Outer.line (c.steps_told.ensures.outer c.args.script.now c.args.blocks.now c.in-Outer.task c.in-Outer.line c.in-Outer.reply (subst (IsNext c.args.script.now c.args.blocks.now) c.in-Outer.is c.requires)))

pub returns-in-Grow : goal.returns-in-Grow
returns-in-Grow c =
    let blocks = c.args.blocks.now in
    let t = c.in-Grow.task in
    let within : t < length blocks = rw c.in-Grow.is at (c.steps_told.ensures.within c.args.script.now blocks c.args.event.now c.requires) in
    rw c.in-Grow.is (ap (slice_set blocks t) c.grow.ensures ∙ changed_read grew blocks t c.index-blocks-task-in-Grow.result within)

pub returns-in-Kill : goal.returns-in-Kill
returns-in-Kill c =
    let blocks = c.free_all.new.blocks in
    let t = c.in-Kill.task in
    let known : t < length c.args.blocks.now = rw c.in-Kill.is at (c.steps_told.ensures.within c.args.script.now c.args.blocks.now c.args.event.now c.requires) in
    let long = c.free_all.auto.blocks in
    let within : t < length blocks = omega arith in
    let f = λ (b : BlockState). ended_with (killed c.in-Kill.why b.task) b in
    rw c.in-Kill.is (ap (slice_set blocks t) c.kill.ensures ∙ changed_read f blocks t c.index-blocks-task-in-Kill.result within ∙ ap (changed t f) c.free_all.ensures)

pub returns-in-End : goal.returns-in-End
returns-in-End c =
    let blocks = c.free_all-in-End.new.blocks in
    let t = c.in-End.task in
    let known : t < length c.args.blocks.now = rw c.in-End.is at (c.steps_told.ensures.within c.args.script.now c.args.blocks.now c.args.event.now c.requires) in
    let long = c.free_all-in-End.auto.blocks in
    let within : t < length blocks = omega arith in
    let f = λ (b : BlockState). ended_with b.task b in
    rw c.in-End.is (ap (slice_set blocks t) c.end.ensures ∙ changed_read f blocks t c.index-blocks-task-in-End.result within ∙ ap (changed t f) c.free_all-in-End.ensures)
