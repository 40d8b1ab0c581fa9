-- Another block's private task stays, unless its registers are set, and so does its turn.
use Rattle.std.proofs.Common.{◌≡◌, ℕ, ◌==◌, Bool, true, false, List, ◌∷◌, map, refl, sym, ap, ◌∙◌, eq-eqb, ne_eqb, ⊎_elim}
use Rattle.std.proofs.lemmas.Bool.{cases_eq, both_ways}
use Rattle.std.proofs.lemmas.Option.{slice_get-map}
use Rattle.std.specs.Prelude.{Option, Some, None, if◌then◌else◌, slice_get}
use Rattle.std.specs.Option.{option_map}
use Rattle.xs_base.specs.Task.{PrivateTask}
use Rattle.xs_model.specs.declared.script.Command.{Command}
use Rattle.xs_model.specs.declared.script.Command.TheVariants as commands
use Rattle.xs_model.specs.declared.script.Script.{Script}
use Rattle.xs_model.specs.declared.event.Reply.{Reply}
use Rattle.xs_model.specs.declared.event.Event.{Event}
use Rattle.xs_model.specs.declared.event.Event.TheVariants.{Start, Local, Outer, Grow, Kill, End}
use Rattle.xs_model.specs.declared.stage.Stage.{Stage}
use Rattle.xs_model.specs.declared.stage.Stage.TheVariants.{Unborn, Turn}
use Rattle.xs_model.specs.Script.{block_named, command_at}
use Rattle.xs_model.specs.Note.{Act, Starts, Section, Grows, Sets, Plain, is_count, set_act, set_target, task_of, act_of, last_after, last}
use Rattle.xs_model.specs.State.{BlockState, stage_of, stage_at, task_of_state, task_at, is_parent, changed}
use Rattle.xs_model.specs.Outer.{is_held, wake, woken, let_go, continued, freed, born, signalled, buffer_of, registers_set, buffer_filled, reach_of, outer_reach}
use Rattle.xs_model.specs.Machine.{own, reach, blocks_after, machine}
use Rattle.xs_model.specs.Laws.{HasTask, TaskStays, OthersKeep}
use Rattle.xs_model.proofs.Touched.{Touched, Stays, Wakes, Frees, Continues, Signals, Takes, Fills, Bears, Both, alike_at, reach_touches}
use Rattle.xs_model.proofs.EventTurns.{changed_same, changed_other, filled_stage}
use Rattle.xs_model.proofs.LegalTurns.{machine_script}
use Rattle.xs_model.proofs.FamilySteps.{born_old}
use Rattle.xs_model.proofs.Bearing.{unborn_unseen}

-- the block as it is
same_here : (blocks : List BlockState) (v : ℕ) (b : BlockState) → slice_get blocks v ≡ Some b → HasTask blocks v b.task
same_here blocks v b at = record { block = b; here = at; task_is = refl }

-- where each block changes and keeps its task
same_map : (f : BlockState → BlockState) → ((b : BlockState) → (f b).task ≡ b.task) → (blocks : List BlockState) (v : ℕ) (b : BlockState) → slice_get blocks v ≡ Some b → HasTask (map f blocks) v b.task
same_map f keeps blocks v b at = record { block = f b; here = slice_get-map f blocks v ∙ ap (option_map f) at; task_is = keeps b }

-- where one block changes, and keeps its task if it is this one
same_changed : (i : ℕ) (f : BlockState → BlockState) (blocks : List BlockState) (v : ℕ) (b : BlockState) → (i ≡ v → (f b).task ≡ b.task) → slice_get blocks v ≡ Some b → HasTask (changed i f blocks) v b.task
same_changed i f blocks v b keeps at = ⊎_elim
    (λ (same : i ≡ v). record { block = f b; here = ap (λ (x : ℕ). slice_get (changed x f blocks) v) same ∙ changed_same v f blocks ∙ ap (option_map f) at; task_is = keeps same })
    (λ (other : i ≡ v → ⊥). record { block = b; here = changed_other i v f blocks other ∙ at; task_is = refl })
    (cases_eq i v)

-- changed or not
same_if : (test : Bool) (old new : List BlockState) (v : ℕ) (task : PrivateTask) → (test ≡ true → HasTask new v task) → HasTask old v task → HasTask (if test then new else old) v task
same_if true old new v task one two = one refl
same_if false old new v task one two = two

-- the same where one changes, if it changes
same_one : (test : Bool) (i : ℕ) (f : BlockState → BlockState) (blocks : List BlockState) (v : ℕ) (b : BlockState) → (test ≡ true → i ≡ v → (f b).task ≡ b.task) → slice_get blocks v ≡ Some b → HasTask (if test then changed i f blocks else blocks) v b.task
same_one test i f blocks v b keeps at = same_if test blocks (changed i f blocks) v b.task (λ is. same_changed i f blocks v b (keeps is) at) (same_here blocks v b at)

-- after an outer command of another block
same_reach : (script : Script) (t : ℕ) (command : Command) (reply : Reply) (blocks : List BlockState) (v : ℕ) (b : BlockState) → (t ≡ v → ⊥) → slice_get blocks v ≡ Some b → (b.stage ≡ Unborn → ⊥) → (set_act (set_target script (Some command)) (is_count reply) ≡ Sets v → ⊥) → HasTask (reach_of script t command reply blocks) v b.task
same_reach script t (commands.Fork name) reply blocks v b other at old unset = same_changed (block_named script name) (born t (slice_get blocks t)) blocks v b (λ same. ap (λ (x : BlockState). x.task) (born_old t (slice_get blocks t) b.stage b refl old)) at
same_reach script t (commands.Kill name signo) reply blocks v b other at old unset = same_one (is_count reply) (block_named script name) (signalled signo) blocks v b (λ is same. refl) at
same_reach script t commands.Stop reply blocks v b other at old unset = same_if (is_held reply) blocks (map (woken t) blocks) v b.task (λ is. same_map (woken t) (λ x. refl) blocks v b at) (same_here blocks v b at)
same_reach script t (commands.Getregs name set) reply blocks v b other at old unset =
    same_one (is_count reply) t (buffer_filled set (slice_get blocks (block_named script name))) blocks v b (λ is (same : t ≡ v). absurd (other same)) at
same_reach script t (commands.Setregs name set count) reply blocks v b other at old unset =
    same_one (is_count reply) (block_named script name) (registers_set set count (buffer_of (slice_get blocks t))) blocks v b
    (λ is (same : block_named script name ≡ v). absurd (unset (ap (set_act (Some (block_named script name))) is ∙ ap Sets same))) at
same_reach script t (commands.Cont name) reply blocks v b other at old unset = same_one (is_count reply) (block_named script name) continued blocks v b (λ is same. refl) at
same_reach script t rest reply blocks v b other at old unset = same_here blocks v b at

-- after another block's event, but for what that does to its own
same_all : (script : Script) (event : Event) (blocks : List BlockState) (v : ℕ) (b : BlockState) → (task_of event ≡ v → ⊥) → slice_get blocks v ≡ Some b → (b.stage ≡ Unborn → ⊥) → (act_of script event ≡ Sets v → ⊥) → HasTask (reach script event blocks) v b.task
same_all script (Start t cpu how signal) blocks v b other at old unset = same_here blocks v b at
same_all script (Local t line reply) blocks v b other at old unset = same_here blocks v b at
same_all script (Outer t line reply) blocks v b other at old unset = by_command (command_at script t line) unset
  where
    by_command : (command : Option Command) → (set_act (set_target script command) (is_count reply) ≡ Sets v → ⊥) → HasTask (outer_reach script t command reply blocks) v b.task
    by_command None unset = same_here blocks v b at
    by_command (Some command) unset = same_reach script t command reply blocks v b other at old unset
same_all script (Grow t) blocks v b other at old unset = same_here blocks v b at
same_all script (Kill t signo why) blocks v b other at old unset = same_map (freed t) (λ x. refl) blocks v b at
same_all script (End t) blocks v b other at old unset = same_map (freed t) (λ x. refl) blocks v b at

-- another block's private task stays
pub task_stays : TaskStays
task_stays script past event v b other unset at old =
    let m = machine script past in
    let same = same_all m.script event m.blocks v b other at old (λ (sets_it : act_of m.script event ≡ Sets v). unset (ap (λ (s : Script). act_of s event) (sym (machine_script script past)) ∙ sets_it)) in
    record { block = same.block; here = changed_other (task_of event) v (own m.script event) (reach m.script event m.blocks) other ∙ same.here; task_is = same.task_is }

-- ---- another block's turn

-- a block in a turn that is touched stays in it
touched_there : (blocks : List BlockState) (old new : BlockState) (cpu ran : ℕ) → Touched blocks old new → old.stage ≡ Turn cpu ran → new.stage ≡ Turn cpu ran
touched_there blocks old new cpu ran (Stays is) at = ap (λ (b : BlockState). b.stage) is ∙ at
touched_there blocks old new cpu ran (Wakes t is) at = ap (λ (b : BlockState). b.stage) is ∙ ap (wake t) at
touched_there blocks old new cpu ran (Frees t is) at = ap (λ (b : BlockState). b.stage) is ∙ ap (λ (s : Stage). let_go (is_parent old.parent t) (wake t s)) at
touched_there blocks old new cpu ran (Continues is) at = ap (λ (b : BlockState). b.stage) is ∙ ap (let_go true) at
touched_there blocks old new cpu ran (Signals signo is) at = ap (λ (b : BlockState). b.stage) is ∙ at
touched_there blocks old new cpu ran (Takes set count t is) at = ap (λ (b : BlockState). b.stage) is ∙ at
touched_there blocks old new cpu ran (Fills set child is) at = ap (λ (b : BlockState). b.stage) is ∙ filled_stage set (slice_get blocks child) old ∙ at
touched_there blocks old new cpu ran (Bears t is) at =
    ap (λ (b : BlockState). b.stage) (is ∙ born_old t (slice_get blocks t) old.stage old refl (λ (e : old.stage ≡ Unborn). let clash : Turn cpu ran ≡ Unborn = sym at ∙ e in cc)) ∙ at

-- the same of two blocks that may not be there
both_there : (blocks : List BlockState) (old new : Option BlockState) (cpu ran : ℕ) → Both (Touched blocks) old new → stage_of old ≡ Turn cpu ran → stage_of new ≡ Turn cpu ran
both_there blocks None None cpu ran both at = absurd (cc)
both_there blocks (Some x) None cpu ran both at = absurd both
both_there blocks None (Some y) cpu ran both at = absurd both
both_there blocks (Some x) (Some y) cpu ran both at = touched_there blocks x y cpu ran both at

-- another block's event leaves the turn
turn_stays : (script : Script) (event : Event) (blocks : List BlockState) (v cpu ran : ℕ) → (task_of event ≡ v → ⊥) → stage_at blocks v ≡ Turn cpu ran → stage_at (blocks_after script event blocks) v ≡ Turn cpu ran
turn_stays script event blocks v cpu ran other at =
    let mid = reach script event blocks in
    ap stage_of (changed_other (task_of event) v (own script event) mid other)
    ∙ both_there blocks (slice_get blocks v) (slice_get mid v) cpu ran (alike_at (Touched blocks) blocks mid (reach_touches script event blocks) v) at

-- ---- what another block keeps

-- A last processor that a block has after another block's event it had before, and its registers weren't set.
record KeptLast (act : Act) (v cpu : ℕ) (older : Option ℕ) : Type 0 where
  before : older ≡ Some cpu
  unset : act ≡ Sets v → ⊥

-- so it is, by the act
last_kept : (task v cpu : ℕ) (act : Act) (older : Option ℕ) → (task == v) ≡ false → last_after task act v older ≡ Some cpu → KeptLast act v cpu older
last_kept task v cpu (Starts c) older other is = record { before = ap (λ (b : Bool). if b then Some c else older) (sym other) ∙ is; unset = λ (e : Starts c ≡ Sets v). cc }
last_kept task v cpu Section older other is = record { before = is; unset = λ (e : Section ≡ Sets v). cc }
last_kept task v cpu Grows older other is = record { before = ap (λ (b : Bool). if b then None else older) (sym other) ∙ is; unset = λ (e : Grows ≡ Sets v). cc }
last_kept task v cpu (Sets u) older other is = by_test (u == v) refl is
  where
    by_test : (b : Bool) → (u == v) ≡ b → (if b then None else older) ≡ Some cpu → KeptLast (Sets u) v cpu older
    by_test true test is = absurd (cc)
    by_test false test is = record { before = is; unset = λ (e : Sets u ≡ Sets v). let same : u ≡ v = cc in both_ways (u == v) test (eq-eqb u v same) }
last_kept task v cpu Plain older other is = record { before = is; unset = λ (e : Plain ≡ Sets v). cc }

-- the task of a block that is there, after another's event
task_kept : (script : Script) (past : List Event) (event : Event) (v : ℕ) (block : Option BlockState) → slice_get (machine script past).blocks v ≡ block → (task_of event ≡ v → ⊥) → (act_of script event ≡ Sets v → ⊥) → (stage_of block ≡ Unborn → ⊥)
    → task_at (machine script (event ∷ past)).blocks v ≡ task_of_state block
task_kept script past event v None at other unset old = absurd (old refl)
task_kept script past event v (Some b) at other unset old =
    let stays = task_stays script past event v b other unset at old in
    ap task_of_state stays.here ∙ stays.task_is

-- every block but the one whose event it is keeps its turn, and where it is held its task
pub others_keep : OthersKeep
others_keep script past event v valid legal other = record {
  turn = λ cpu ran at. turn_stays (machine script past).script event (machine script past).blocks v cpu ran other at;
  held = λ cpu is.
      let kept = last_kept (task_of event) v cpu (act_of script event) (last script past v) (ne_eqb (task_of event) v other) is in
      let old : stage_at (machine script past).blocks v ≡ Unborn → ⊥ = λ (off : stage_at (machine script past).blocks v ≡ Unborn).
      let none = (unborn_unseen script past v valid legal.0 off).last in
      let clash : Some cpu ≡ None = sym kept.before ∙ none in cc in
      (kept.before, task_kept script past event v (slice_get (machine script past).blocks v) refl other kept.unset old);
}
