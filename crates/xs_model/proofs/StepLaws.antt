-- Which events are steps, and what they make of the blocks.
use Rattle.std.proofs.Common.{◌≡◌, ℕ, zero, suc, ◌<◌, Bool, true, false, not, List, [], ◌∷◌, map, refl, ap, ◌∙◌}
use Rattle.std.proofs.lemmas.Bool.{lt-ltb, ne_eqb}
use Rattle.std.specs.Prelude.{Option, Some, None, slice_get, nat_lt, if◌then◌else◌}
use Rattle.std.specs.Option.{option_map}
use Rattle.xs_base.specs.Task.{PrivateTask}
use Rattle.xs_model.specs.declared.script.Command.{Command}
use Rattle.xs_model.specs.declared.script.Command.TheVariants as commands
use Rattle.xs_model.specs.declared.script.Block.{Block}
use Rattle.xs_model.specs.declared.script.Script.{Script}
use Rattle.xs_model.specs.declared.event.Reply.{Reply}
use Rattle.xs_model.specs.declared.event.Why.{Why}
use Rattle.xs_model.specs.declared.event.Why.TheVariants as whys
use Rattle.xs_model.specs.declared.event.Event.{Event}
use Rattle.xs_model.specs.declared.event.Event.TheVariants.{Start, Local, Outer, Grow, Kill, End}
use Rattle.xs_model.specs.Script.{is_outer, command_at, is_user}
use Rattle.xs_model.specs.Line.{traps, refusal}
use Rattle.xs_model.specs.Note.{task_of}
use Rattle.xs_model.specs.Held.{held}
use Rattle.xs_model.specs.State.{BlockState, Machine, turn_cpu, is_on_cpu, changed}
use Rattle.xs_model.specs.Outer.{freed, outer_reply, reach_of, outer_reach, outer_own}
use Rattle.xs_model.specs.Due.{illegal, violation, large_count, trap_event, how_of, signal_of, due, start_due}
use Rattle.xs_model.specs.Machine.{started, ran_line, grew, own, may_act, foreseen, machine}
use Rattle.xs_model.specs.Laws.{MachineKnown, StartIsStep, LocalIsStep, OuterIsStep, RefusalIsStep, TrapIsStep, EndIsStep, FreeTells, FreeFound}
use Rattle.xs_model.specs.Effects.{StartedBlock, RanBlock, EndedBlock, KilledBlock, GrewBlock, StartOthers, LocalOthers, GrowOthers, EndOthers, KilledOthers}
use Rattle.xs_model.proofs.LegalTurns.{machine_script, machine_past, none_else}
use Rattle.xs_model.proofs.MachineShape.{many_blocks}
use Rattle.xs_model.proofs.EventTurns.{changed_same, changed_other}

-- the script, the past and the number of blocks
pub machine_known : MachineKnown
machine_known script past = (machine_script script past, machine_past script past, many_blocks script past)

-- ---- steps

-- the quantum of the machine's script
within_quantum : (script : Script) (past : List Event) (ran : ℕ) → ran < script.quantum → nat_lt ran (machine script past).script.quantum ≡ true
within_quantum script past ran within = ap (λ (s : Script). nat_lt ran s.quantum) (machine_script script past) ∙ lt-ltb ran script.quantum within

-- the lines of the machine's script
lines_there : (script : Script) (past : List Event) (t : ℕ) (lines : Block) → slice_get script.blocks t ≡ Some lines → slice_get (machine script past).script.blocks t ≡ Some lines
lines_there script past t lines known = ap (λ (s : Script). slice_get s.blocks t) (machine_script script past) ∙ known

-- how the registers come by the machine's script and past
how_there : (script : Script) (past : List Event) (t cpu : ℕ) → how_of (is_user (machine script past).script t) (held (machine script past).script (machine script past).past cpu t) ≡ how_of (is_user script t) (held script past cpu t)
how_there script past t cpu =
    ap (λ (s : Script). how_of (is_user s t) (held s (machine script past).past cpu t)) (machine_script script past)
    ∙ ap (λ (p : List Event). how_of (is_user script t) (held script p cpu t)) (machine_past script past)

-- a Start is a step
pub start_is_step : StartIsStep
start_is_step script past t cpu block acts here ready within free =
    let m = machine script past in
    let processor : nat_lt cpu m.script.cpus ≡ true = ap (λ (s : Script). nat_lt cpu s.cpus) (machine_script script past) ∙ lt-ltb cpu script.cpus within in
    let is : start_due m t cpu ≡ Some (Start t cpu (how_of (is_user m.script t) (held m.script m.past cpu t)) (signal_of block)) = rw (here, ready, processor, free) refl in
    record { acts = acts; is_due = is ∙ ap (λ how. Some (Start t cpu how (signal_of block))) (how_there script past t cpu) }

-- a local line is a step
pub local_is_step : LocalIsStep
local_is_step script past t cpu ran block lines order acts turn within at inner quiet whole =
    let here = turn.state in
    let known = lines_there script past t lines turn.lines_are in
    let stage = turn.stage in
    let more = within_quantum script past ran within in
    record { acts = acts; is_due = rw (here, known, stage, at, inner, quiet, whole, more) refl }

-- an end is a step
pub end_is_step : EndIsStep
end_is_step script past t cpu ran block lines acts turn within at outside =
    let here = turn.state in
    let known = lines_there script past t lines turn.lines_are in
    let stage = turn.stage in
    let more = within_quantum script past ran within in
    record { acts = acts; is_due = rw (here, known, stage, at, more, outside) refl }

-- an outer line is a step
pub outer_is_step : OuterIsStep
outer_is_step script past t cpu ran block lines order acts turn at outer =
    let m = machine script past in
    let here = turn.state in
    let known = lines_there script past t lines turn.lines_are in
    let stage = turn.stage in
    let is : due m t ≡ Some (Outer t order.number (outer_reply m.script m.blocks t order.command)) = rw (here, known, stage, at, outer) refl in
    record { acts = acts; is_due = is ∙ ap (λ (s : Script). Some (Outer t order.number (outer_reply s m.blocks t order.command))) (machine_script script past) }

-- a line that is refused is neither outer nor one that traps
refused_inner : (task : PrivateTask) (command : Command) (why : Why) → refusal task command ≡ Some why → (is_outer command ≡ false) × (traps task command ≡ false)
refused_inner task commands.Sigreturn why is = (refl, refl)
refused_inner task other why is = absurd (cc)

-- the kill by a return that is refused is a step
pub refusal_is_step : RefusalIsStep
refusal_is_step script past t cpu ran block lines order why acts turn at refused =
    let here = turn.state in
    let known = lines_there script past t lines turn.lines_are in
    let stage = turn.stage in
    let both = refused_inner block.task order.command why refused in
    let inner = both.0 in
    let quiet = both.1 in
    record { acts = acts; is_due = rw (here, known, stage, at, inner, quiet, refused) refl }

-- a line that traps isn't outer
trap_inner : (task : PrivateTask) (command : Command) → traps task command ≡ true → is_outer command ≡ false
trap_inner task (commands.Get reg) trap = refl
trap_inner task (commands.Set reg bytes) trap = refl
trap_inner task other trap = absurd (cc)

-- its event is one of the block
trap_acts : (may free : Bool) (t : ℕ) → task_of (if not may then Kill t illegal whys.Permission else (if free then Grow t else Kill t violation whys.Area)) ≡ t
trap_acts false free t = refl
trap_acts true true t = refl
trap_acts true false t = refl

-- and is foreseen where it is due
trap_foreseen : (m : Machine) (may free : Bool) (t : ℕ) → foreseen m (if not may then Kill t illegal whys.Permission else (if free then Grow t else Kill t violation whys.Area)) ≡ due m t
trap_foreseen m false free t = refl
trap_foreseen m true true t = refl
trap_foreseen m true false t = refl

-- the event of a line that traps is a step
pub trap_is_step : TrapIsStep
trap_is_step script past t cpu ran block lines order acts turn at trap =
    let m = machine script past in
    let here = turn.state in
    let known = lines_there script past t lines turn.lines_are in
    let stage = turn.stage in
    let inner = trap_inner block.task order.command trap in
    let is : due m t ≡ Some (trap_event m t block.task) = rw (here, known, stage, at, inner, trap) refl in
    let free = nat_lt (large_count m.blocks) m.script.large in
    record { acts = ap (may_act m.committing) (trap_acts block.task.permitted free t) ∙ acts; is_due = trap_foreseen m block.task.permitted free t ∙ is }

-- ---- free processors

-- a free processor has no block's turn
pub free_tells : FreeTells
free_tells blocks cpu t free at = none_else blocks cpu t free at

-- a turn that isn't there is on no processor
off_cpu : (cpu : ℕ) (turn : Option ℕ) → (turn ≡ Some cpu → ⊥) → is_on_cpu cpu turn ≡ false
off_cpu cpu None off = refl
off_cpu cpu (Some c) off = ne_eqb c cpu (λ (same : c ≡ cpu). off (ap Some same))

-- a processor of no block's turn is free
pub free_found : FreeFound
free_found [] cpu off = refl
free_found (block ∷ blocks) cpu off =
    let here = off_cpu cpu (turn_cpu block.stage) (off 0) in
    rw here (free_found blocks cpu (λ t. off (suc t)))

-- ---- the blocks after an event

-- a Start's own block
pub started_block : StartedBlock
started_block script past t cpu how signal block here = changed_same t (started cpu signal) (machine script past).blocks ∙ ap (option_map (started cpu signal)) here

-- a local line's own block
pub ran_block : RanBlock
ran_block script past t line reply block here =
    let m = machine script past in
    changed_same t (own m.script (Local t line reply)) m.blocks ∙ ap (option_map (own m.script (Local t line reply))) here
    ∙ ap (λ (s : Script). Some (ran_line s (command_at s t line) block)) (machine_script script past)

-- a Grow's own block
pub grew_block : GrewBlock
grew_block script past t block here = changed_same t grew (machine script past).blocks ∙ ap (option_map grew) here

-- the blocks after an outer line
pub after_outer : (script : Script) (past : List Event) (t line : ℕ) (reply : Reply) (command : Command) → command_at script t line ≡ Some command
    → (machine script (Outer t line reply ∷ past)).blocks ≡ changed t (outer_own script (Some command) reply) (reach_of script t command reply (machine script past).blocks)
after_outer script past t line reply command at =
    let blocks = (machine script past).blocks in
    ap (λ (s : Script). changed t (outer_own s (command_at s t line) reply) (outer_reach s t (command_at s t line) reply blocks)) (machine_script script past)
    ∙ ap (λ (found : Option Command). changed t (outer_own script found reply) (outer_reach script t found reply blocks)) at

-- the place of a block in a changed list
pub map_at : (f : BlockState → BlockState) (blocks : List BlockState) (t : ℕ) (block : BlockState) → slice_get blocks t ≡ Some block → slice_get (map f blocks) t ≡ Some (f block)
map_at f [] t block at = absurd (cc)
map_at f (b ∷ blocks) zero block at = ap (option_map f) at
map_at f (b ∷ blocks) (suc t) block at = map_at f blocks t block at

-- an end's own block
pub ended_block : EndedBlock
ended_block script past t block here =
    let m = machine script past in
    changed_same t (own m.script (End t)) (map (freed t) m.blocks) ∙ ap (option_map (own m.script (End t))) (map_at (freed t) m.blocks t block here)

-- a kill's own block
pub killed_block : KilledBlock
killed_block script past t signo why block here =
    let m = machine script past in
    let f = own m.script (Kill t signo why) in
    changed_same t f (map (freed t) m.blocks) ∙ ap (option_map f) (map_at (freed t) m.blocks t block here)

-- a Start leaves the others
pub start_others : StartOthers
start_others script past t cpu v how signal other = changed_other t v (started cpu signal) (machine script past).blocks other

-- a local line leaves the others
pub local_others : LocalOthers
local_others script past t line v reply other = let m = machine script past in changed_other t v (own m.script (Local t line reply)) m.blocks other

-- a Grow leaves the others
pub grow_others : GrowOthers
grow_others script past t v other = changed_other t v grew (machine script past).blocks other

-- an end frees the others
pub end_others : EndOthers
end_others script past t u block other here =
    let m = machine script past in
    changed_other t u (own m.script (End t)) (map (freed t) m.blocks) other ∙ map_at (freed t) m.blocks u block here

-- so does a kill
pub killed_others : KilledOthers
killed_others script past t u signo why block other here =
    let m = machine script past in
    changed_other t u (own m.script (Kill t signo why)) (map (freed t) m.blocks) other ∙ map_at (freed t) m.blocks u block here
