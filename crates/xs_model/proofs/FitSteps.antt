-- Each step keeps the blocks fit, so that a block in a turn has a next event.
use Rattle.std.proofs.Common.{◌≡◌, ℕ, zero, suc, ◌<◌, Bool, true, false, List, [], ◌∷◌, length, map, refl, sym, ap, ◌∙◌, subst, inl, ⊎_elim}
use Rattle.std.proofs.lemmas.Bool.{cases_eq, both_ways}
use Rattle.std.proofs.lemmas.Option.{slice_get-map}
use Rattle.std.specs.Prelude.{Option, Some, None, if◌then◌else◌, slice_get, nat_lt}
use Rattle.std.specs.Option.{option_map}
use Rattle.xs_base.specs.declared.component.Row.{Row}
use Rattle.xs_base.specs.declared.words.Signo.{Signo}
use Rattle.xs_base.specs.Task.{PrivateTask, root_task}
use Rattle.xs_base.specs.Frame.{refused_file}
use Rattle.xs_model.specs.declared.script.Command.{Command}
use Rattle.xs_model.specs.declared.script.Command.TheVariants as commands
use Rattle.xs_model.specs.declared.script.Block.{Block}
use Rattle.xs_model.specs.declared.script.Order.{Order}
use Rattle.xs_model.specs.declared.script.Script.{Script}
use Rattle.xs_model.specs.declared.event.Reply.{Reply}
use Rattle.xs_model.specs.declared.event.Why.{Why}
use Rattle.xs_model.specs.declared.event.Event.{Event}
use Rattle.xs_model.specs.declared.event.Event.TheVariants.{Start, Local, Outer, Grow, Kill, End}
use Rattle.xs_model.specs.declared.stage.Stage.{Stage}
use Rattle.xs_model.specs.declared.stage.Stage.TheVariants.{Unborn, Ready, Turn, Stopped, Waiting, Ended}
use Rattle.xs_model.specs.Script.{is_handler, IsValid, command_at}
use Rattle.xs_model.specs.Line.{line_at, next_line, is_frame_cause}
use Rattle.xs_model.specs.State.{BlockState, Machine, opening_block, turn_cpu, stage_of, stage_at, changed}
use Rattle.xs_model.specs.Outer.{freed, is_blocked, task_left, outer_own, outer_reach}
use Rattle.xs_model.specs.Due.{due}
use Rattle.xs_model.specs.Machine.{started, ran_in, ran_line, own, blocks_after, IsStep, machine, IsLegalPast}
use Rattle.xs_model.specs.Runs.{NeverIdle}
use Rattle.xs_model.proofs.LineNumbers.{AreLinesFound, lines_found}
use Rattle.xs_model.proofs.NameLaws.{IsHandled, line_named, named_handled}
use Rattle.xs_model.proofs.MachineShape.{many_blocks}
use Rattle.xs_model.proofs.Touched.{Touched, Stays, Wakes, Frees, Continues, Signals, Takes, Fills, Bears, Both, alike_at, reach_touches}
use Rattle.xs_model.proofs.EventTurns.{changed_same, changed_other}
use Rattle.xs_model.proofs.DuePlaces.{due_inverse, start_inverse}
use Rattle.xs_model.proofs.DueOrders.{local_line, outer_at}
use Rattle.xs_model.proofs.LegalTurns.{machine_script}
use Rattle.xs_model.proofs.ReachCosts.{set_keeps_place, filled_place}
use Rattle.xs_model.proofs.StepCosts.{lines_there}
use Rattle.xs_model.proofs.OuterCosts.{turning_born}
use Rattle.xs_model.proofs.EventBound.{AreHandlersLocal, handlers_local, body_at, in_body}
use Rattle.xs_model.proofs.ShortTurns.{turns_within}
use Rattle.xs_model.proofs.TurnFits.{IsFit, Fits, fit_map, freed_fit, started_fit, ran_fit, reach_fit, turn_goes}

-- Every block is fit.
abbrev pub AllFit : Script → List BlockState → Type 0
AllFit script blocks = (v : ℕ) → Fits (slice_get script.blocks v) (slice_get blocks v)

-- What the steps need of a script: its lines are found, its handlers are local and end with their return, and the signals
-- that its bodies send are handled.
pub record IsTidy (script : Script) : Type 0 where
  pub found : AreLinesFound script
  pub inner : AreHandlersLocal script
  pub returns : (t : ℕ) (lines : Block) → slice_get script.blocks t ≡ Some lines → is_handler lines.handler ≡ true
  pub handled : (t i : ℕ) (lines : Block) (order : Order) → slice_get script.blocks t ≡ Some lines → slice_get lines.body i ≡ Some order → IsHandled script order.command

-- ---- one block changed

-- the block at a place, where both are there
pub fit_at : (lines : Option Block) (block : Option BlockState) (l : Block) (b : BlockState) → lines ≡ Some l → block ≡ Some b → Fits lines block → IsFit l b
fit_at None block l b known at fit = absurd (cc)
fit_at (Some lines) None l b known at fit = absurd (cc)
fit_at (Some lines) (Some block) l b known at fit =
    let one : lines ≡ l = cc in
    let two : block ≡ b = cc in
    subst (λ (x : Block). IsFit x b) one (subst (λ (x : BlockState). IsFit lines x) two fit)

-- a change that leaves its block fit
fit_own : (script : Script) (t : ℕ) (f : BlockState → BlockState) (mid : List BlockState) (b : BlockState) (l : Block) → slice_get mid t ≡ Some b → slice_get script.blocks t ≡ Some l → IsFit l (f b) → AllFit script mid → AllFit script (changed t f mid)
fit_own script t f mid b l at known fit all v = ⊎_elim
    (λ (same : t ≡ v).
    let new : slice_get (changed t f mid) t ≡ Some (f b) = changed_same t f mid ∙ ap (option_map f) at in
    let here : Fits (slice_get script.blocks t) (slice_get (changed t f mid) t) =
    subst (λ (x : Option BlockState). Fits (slice_get script.blocks t) x) (sym new) (subst (λ (x : Option Block). Fits x (Some (f b))) (sym known) fit) in
    subst (λ (x : ℕ). Fits (slice_get script.blocks x) (slice_get (changed t f mid) x)) same here)
    (λ (other : t ≡ v → ⊥). subst (λ (x : Option BlockState). Fits (slice_get script.blocks v) x) (sym (changed_other t v f mid other)) (all v))
    (cases_eq t v)

-- ---- an outer event

-- what an event does to a block in a turn, beside its own effect, leaves it outside of a handler
touched_off : (blocks : List BlockState) (old new : BlockState) (cpu ran : ℕ) → Touched blocks old new → old.stage ≡ Turn cpu ran → new.task.handling ≡ old.task.handling
touched_off blocks old new cpu ran (Stays is) stage = ap (λ (b : BlockState). b.task.handling) is
touched_off blocks old new cpu ran (Wakes t is) stage = ap (λ (b : BlockState). b.task.handling) is
touched_off blocks old new cpu ran (Frees t is) stage = ap (λ (b : BlockState). b.task.handling) is
touched_off blocks old new cpu ran (Continues is) stage = ap (λ (b : BlockState). b.task.handling) is
touched_off blocks old new cpu ran (Signals signo is) stage = ap (λ (b : BlockState). b.task.handling) is
touched_off blocks old new cpu ran (Takes set count t is) stage = ap (λ (b : BlockState). b.task.handling) is ∙ (set_keeps_place set _ old.task).handling
touched_off blocks old new cpu ran (Fills set child is) stage = ap (λ (b : BlockState). b.task.handling) is ∙ (filled_place set (slice_get blocks child) old).handling
touched_off blocks old new cpu ran (Bears t is) stage = ap (λ (b : BlockState). b.task.handling) (is ∙ turning_born t (slice_get blocks t) old cpu ran stage)

-- The block is still there, outside of a handler.
record StillOutside (block : Option BlockState) : Type 0 where
  pub state : BlockState
  pub at : block ≡ Some state
  pub off : state.task.handling ≡ false

-- so is a block that is touched
still_outside : (blocks : List BlockState) (old : BlockState) (cpu ran : ℕ) (now : Option BlockState) → old.stage ≡ Turn cpu ran → old.task.handling ≡ false → Both (Touched blocks) (Some old) now → StillOutside now
still_outside blocks old cpu ran None stage off touched = absurd touched
still_outside blocks old cpu ran (Some new) stage off touched = record { state = new; at = refl; off = touched_off blocks old new cpu ran touched stage ∙ off }

-- an outer command doesn't enter a handler
left_handling : (command : Command) (reply : Reply) (task : PrivateTask) → (task_left command reply task).handling ≡ task.handling
left_handling (commands.Wait name) reply task = by_test (is_blocked reply)
  where
    by_test : (b : Bool) → (if b then task else next_line task).handling ≡ task.handling
    by_test true = refl
    by_test false = refl
left_handling other reply task = refl

-- an outer event
outer_fit : (m : Machine) (t line : ℕ) (reply : Reply) → IsTidy m.script → due m t ≡ Some (Outer t line reply) → AllFit m.script m.blocks → AllFit m.script (blocks_after m.script (Outer t line reply) m.blocks)
outer_fit m t line reply tidy is all =
    let d = due_inverse m t (Outer t line reply) is in
    let o = outer_at m t d.ran t line reply d.lines d.state.task (line_at d.lines d.state.task) refl d.is in
    let command : command_at m.script t line ≡ Some o.order.command = ap (command_at m.script t) o.number ∙ tidy.found t d.lines d.state.task o.order d.known o.here in
    let body = in_body d.lines d.state.task o.order (λ i at. tidy.inner t i d.lines o.order d.known at) o.here o.outer d.state.task.handling refl in
    let mid = outer_reach m.script t (command_at m.script t line) reply m.blocks in
    let touched = alike_at (Touched m.blocks) m.blocks mid (reach_touches m.script (Outer t line reply) m.blocks) t in
    let still = still_outside m.blocks d.state d.cpu d.ran (slice_get mid t) d.stage body.0 (subst (λ (x : Option BlockState). Both (Touched m.blocks) x (slice_get mid t)) d.at touched) in
    let by_command : AllFit m.script (outer_reach m.script t (Some o.order.command) reply m.blocks) =
    λ v. reach_fit m.script t o.order.command (tidy.handled t d.state.task.place d.lines o.order d.known body.1) reply m.blocks v (all v) in
    let mid_fit : AllFit m.script mid = subst (λ (c : Option Command). AllFit m.script (outer_reach m.script t c reply m.blocks)) (sym command) by_command in
    let here = fit_at (slice_get m.script.blocks t) (slice_get mid t) d.lines still.state d.known still.at (mid_fit t) in
    let off : (task_left o.order.command reply still.state.task).handling ≡ false = left_handling o.order.command reply still.state.task ∙ still.off in
    let known_fit : IsFit d.lines (outer_own m.script (Some o.order.command) reply still.state) = record {
      handler = λ handling. absurd (both_ways (task_left o.order.command reply still.state.task).handling off handling);
      pending = here.pending;
    } in
    fit_own m.script t (own m.script (Outer t line reply)) mid still.state d.lines still.at d.known
    (subst (λ (c : Option Command). IsFit d.lines (outer_own m.script c reply still.state)) (sym command) known_fit) mid_fit

-- ---- the other events

-- an end
end_fit : (m : Machine) (t : ℕ) (event : Event) (f : BlockState → BlockState) → ((l : Block) (b : BlockState) → IsFit l b → IsFit l (f b)) → due m t ≡ Some event → AllFit m.script m.blocks → AllFit m.script (changed t f (map (freed t) m.blocks))
end_fit m t event f keeps is all =
    let d = due_inverse m t event is in
    let mid = map (freed t) m.blocks in
    let at : slice_get mid t ≡ Some (freed t d.state) = slice_get-map (freed t) m.blocks t ∙ ap (option_map (freed t)) d.at in
    let before = fit_at (slice_get m.script.blocks t) (slice_get m.blocks t) d.lines d.state d.known d.at (all t) in
    fit_own m.script t f mid (freed t d.state) d.lines at d.known (keeps d.lines (freed t d.state) (freed_fit t d.lines d.state before))
    (λ v. fit_map (freed t) (slice_get m.script.blocks v) m.blocks v (λ l b there one. freed_fit t l b one) (all v))

-- each step keeps the blocks fit
step_fit : (m : Machine) (event : Event) → length m.blocks ≡ length m.script.blocks → IsTidy m.script → IsStep m event → AllFit m.script m.blocks → AllFit m.script (blocks_after m.script event m.blocks)
step_fit m (Start t cpu how signal) many tidy step all =
    let s = start_inverse m t cpu how signal (slice_get m.blocks t) step.is_due in
    let l = lines_there m.script.blocks m.blocks t s.state many s.here in
    let before = fit_at (slice_get m.script.blocks t) (slice_get m.blocks t) l.0 s.state l.1 s.here (all t) in
    fit_own m.script t (started cpu signal) m.blocks s.state l.0 s.here l.1 (started_fit cpu l.0 s.state signal s.signal_is before) all
step_fit m (Local t line reply) many tidy step all =
    let d = due_inverse m t (Local t line reply) step.is_due in
    let o = local_line m t d.ran t line reply d.lines d.state.task (line_at d.lines d.state.task) refl d.is in
    let command : command_at m.script t line ≡ Some o.order.command = ap (command_at m.script t) o.number ∙ tidy.found t d.lines d.state.task o.order d.known o.here in
    let before = fit_at (slice_get m.script.blocks t) (slice_get m.blocks t) d.lines d.state d.known d.at (all t) in
    let good = ran_fit m.script d.lines d.state o.order d.cpu d.ran (tidy.returns t d.lines d.known) o.here o.whole before in
    let effect : ran_line m.script (command_at m.script t line) d.state ≡ ran_in m.script o.order.command (Turn d.cpu d.ran) d.state =
    ap (λ (c : Option Command). ran_line m.script c d.state) command ∙ ap (λ (x : Stage). ran_in m.script o.order.command x d.state) d.stage in
    fit_own m.script t (ran_line m.script (command_at m.script t line)) m.blocks d.state d.lines d.at d.known (subst (λ (b : BlockState). IsFit d.lines b) (sym effect) good) all
step_fit m (Outer t line reply) many tidy step all = outer_fit m t line reply tidy step.is_due all
step_fit m (Grow t) many tidy step all =
    let d = due_inverse m t (Grow t) step.is_due in
    let before = fit_at (slice_get m.script.blocks t) (slice_get m.blocks t) d.lines d.state d.known d.at (all t) in
    fit_own m.script t (own m.script (Grow t)) m.blocks d.state d.lines d.at d.known (record { handler = before.handler; pending = before.pending }) all
step_fit m (Kill t signo why) many tidy step all = end_fit m t (Kill t signo why) (own m.script (Kill t signo why)) (λ l b fit. killed_fit signo why l b fit) step.is_due all
  where
    same_file : (cause : Bool) (task new : PrivateTask) → new.handling ≡ task.handling → new.place ≡ task.place → ((if cause then new else task).handling ≡ task.handling) × ((if cause then new else task).place ≡ task.place)
    same_file true task new one two = (one, two)
    same_file false task new one two = (refl, refl)

    killed_fit : (signo : Signo) (why : Why) (l : Block) (b : BlockState) → IsFit l b → IsFit l (own m.script (Kill t signo why) b)
    killed_fit signo why l b fit =
        let same = same_file (is_frame_cause why) b.task (record b.task { file = refused_file b.task }) refl refl in
        record { handler = λ handling. subst (λ (n : ℕ). n < length l.handler) (sym same.1) (fit.handler (sym same.0 ∙ handling)); pending = inl refl }
step_fit m (End t) many tidy step all = end_fit m t (End t) (own m.script (End t)) (λ l b fit. record { handler = fit.handler; pending = inl refl }) step.is_due all

-- ---- legal pasts

-- a task that no fork has made begins outside of a handler
root_off : (rows : List Row) → (root_task rows).handling ≡ false
unfolding root_task
root_off rows = refl

-- the blocks open fit
opening_fit : (rows : List Row) (blocks : List Block) (v : ℕ) → Fits (slice_get blocks v) (slice_get (map (opening_block rows) blocks) v)
opening_fit rows [] v = tt
opening_fit rows (block ∷ blocks) zero = record { handler = λ is. absurd (both_ways (root_task rows).handling (root_off rows) is); pending = inl refl }
opening_fit rows (block ∷ blocks) (suc v) = opening_fit rows blocks v

-- after each legal past they are fit
pub all_fit : (script : Script) (past : List Event) → IsTidy script → IsLegalPast script past → AllFit script (machine script past).blocks
all_fit script [] tidy legal = opening_fit script.layout script.blocks
all_fit script (event ∷ past) tidy legal =
    let m = machine script past in
    let same : m.script ≡ script = machine_script script past in
    let before : AllFit m.script m.blocks = subst (λ (s : Script). AllFit s m.blocks) (sym same) (all_fit script past tidy legal.0) in
    let next = step_fit m event (many_blocks script past ∙ ap (λ (s : Script). length s.blocks) (sym same)) (subst IsTidy (sym same) tidy) legal.1 before in
    subst (λ (s : Script). AllFit s (blocks_after m.script event m.blocks)) same next

-- a valid script
pub tidy_of : (script : Script) → IsValid script → IsTidy script
tidy_of script valid = record {
  found = lines_found script valid;
  inner = handlers_local script valid;
  returns = λ t lines known. (body_at script.layout script.blocks valid.bodies t lines known).returns;
  handled = λ t i lines order known at. let named = line_named script t i lines order valid known at in named_handled script named.0 order.command named.1;
}

-- a stage with a processor is a turn
turn_is : (s : Stage) (cpu : ℕ) → turn_cpu s ≡ Some cpu → (ran : ℕ) × (s ≡ Turn cpu ran)
turn_is Unborn cpu is = absurd (cc)
turn_is Ready cpu is = absurd (cc)
turn_is (Turn c ran) cpu is = let same : c ≡ cpu = cc in (ran, ap (λ (x : ℕ). Turn x ran) same)
turn_is Stopped cpu is = absurd (cc)
turn_is (Waiting child) cpu is = absurd (cc)
turn_is Ended cpu is = absurd (cc)

-- a block with a turn is there
block_there : (block : Option BlockState) (cpu : ℕ) → turn_cpu (stage_of block) ≡ Some cpu → (state : BlockState) × (block ≡ Some state)
block_there None cpu is = absurd (cc)
block_there (Some state) cpu is = (state, refl)

-- the law
pub never_idle : NeverIdle
never_idle script past t cpu valid legal at =
    let m = machine script past in
    let same : m.script ≡ script = machine_script script past in
    let b = block_there (slice_get m.blocks t) cpu at in
    let s = turn_is (stage_at m.blocks t) cpu at in
    let l = lines_there script.blocks m.blocks t b.0 (many_blocks script past) b.1 in
    let fit = fit_at (slice_get script.blocks t) (slice_get m.blocks t) l.0 b.0 l.1 b.1 (all_fit script past (tidy_of script valid) legal t) in
    let stage : b.0.stage ≡ Turn cpu s.0 = sym (ap stage_of b.1) ∙ s.1 in
    let within : nat_lt s.0 m.script.quantum ≡ true = ap (λ (x : Script). nat_lt s.0 x.quantum) same ∙ turns_within script past valid.quantum.0 t cpu s.0 s.1 in
    turn_goes m t cpu s.0 b.0 l.0 b.1 (ap (λ (x : Script). slice_get x.blocks t) same ∙ l.1) stage within fit
