-- A block is born by a fork alone, and one that isn't born had no turn.
use Rattle.std.proofs.Common.{◌≡◌, ℕ, zero, suc, ◌==◌, Bool, true, false, List, [], ◌∷◌, map, refl, sym, ap, ◌∙◌, subst, ne_eqb, ⊎_elim}
use Rattle.std.proofs.lemmas.Bool.{cases_eq, cases_Bool}
use Rattle.std.specs.Prelude.{Option, Some, None, if◌then◌else◌, slice_get}
use Rattle.xs_model.specs.declared.script.Command.{Command}
use Rattle.xs_model.specs.declared.script.Command.TheVariants as commands
use Rattle.xs_model.specs.declared.script.Script.{Script}
use Rattle.xs_model.specs.declared.event.Reply.{Reply}
use Rattle.xs_model.specs.declared.event.Event.{Event}
use Rattle.xs_model.specs.declared.event.Event.TheVariants.{Start, Local, Outer, Grow, Kill, End}
use Rattle.xs_model.specs.declared.stage.Stage.{Stage}
use Rattle.xs_model.specs.declared.stage.Stage.TheVariants.{Unborn}
use Rattle.xs_model.specs.Script.{block_named, command_at, is_user}
use Rattle.xs_model.specs.Note.{Act, Starts, Section, Grows, Sets, Plain, task_of, act_of, note_of, notes_of, is_count, is_at, is_on, mark_after, last_after, mark, last}
use Rattle.xs_model.specs.State.{BlockState, Machine, stage_of, stage_at, is_parent, changed}
use Rattle.xs_model.specs.Outer.{is_held, wake, let_go, woken, continued, freed, born, signalled, registers_set, buffer_of, buffer_filled, reach_of, outer_reach}
use Rattle.xs_model.specs.Due.{due}
use Rattle.xs_model.specs.Machine.{own, reach, blocks_after, IsStep, machine}
use Rattle.xs_model.specs.Laws.{IsForkOf, BornByFork, HadNoTurn, UnbornUnseen}
use Rattle.xs_model.proofs.LineNumbers.{AreLinesFound, lines_found}
use Rattle.xs_model.proofs.LegalTurns.{machine_script}
use Rattle.xs_model.proofs.EventTurns.{changed_other, filled_stage}
use Rattle.xs_model.proofs.DuePlaces.{due_inverse}
use Rattle.xs_model.proofs.DueTurns.{starting_of}
use Rattle.xs_model.proofs.StepCosts.{ready_is}
use Rattle.xs_model.proofs.Family.{is_born}
use Rattle.xs_model.proofs.BirthPlaces.{not_unborn, unborn_is, step_onward}

-- ---- who acts was born

-- The block is there, and was born.
record ActsBorn (block : Option BlockState) : Type 0 where
  pub state : BlockState
  pub here : block ≡ Some state
  pub born : is_born state.stage ≡ true

-- a block in a turn
due_born : (m : Machine) (t : ℕ) (event : Event) → due m t ≡ Some event → ActsBorn (slice_get m.blocks t)
due_born m t event is = let d = due_inverse m t event is in record { state = d.state; here = d.at; born = ap is_born d.stage }

-- the block of a step
step_born : (m : Machine) (event : Event) → IsStep m event → ActsBorn (slice_get m.blocks (task_of event))
step_born m (Start t cpu how signal) step =
    let s = starting_of m t cpu (slice_get m.blocks t) (Start t cpu how signal) step.is_due in
    record { state = s.state; here = s.here; born = ap is_born (ready_is s.state.stage s.ready) }
step_born m (Local t line reply) step = due_born m t (Local t line reply) step.is_due
step_born m (Outer t line reply) step = due_born m t (Outer t line reply) step.is_due
step_born m (Grow t) step = due_born m t (Grow t) step.is_due
step_born m (Kill t signo why) step = due_born m t (Kill t signo why) step.is_due
step_born m (End t) step = due_born m t (End t) step.is_due

-- a block that was born is there
born_there : (blocks : List BlockState) (v : ℕ) → is_born (stage_at blocks v) ≡ true → ActsBorn (slice_get blocks v)
born_there blocks v born = by_block (slice_get blocks v) born
  where
    by_block : (block : Option BlockState) → is_born (stage_of block) ≡ true → ActsBorn block
    by_block None born = absurd (cc)
    by_block (Some state) born = record { state = state; here = refl; born = born }

-- who was born stays so
stays_born : (m : Machine) (event : Event) (v : ℕ) → AreLinesFound m.script → IsStep m event → is_born (stage_at m.blocks v) ≡ true → is_born (stage_at (blocks_after m.script event m.blocks) v) ≡ true
stays_born m event v found step born =
    let b = born_there m.blocks v born in
    let next = step_onward m event v b.state found step b.here b.born in
    ap (λ (block : Option BlockState). is_born (stage_of block)) next.1 ∙ next.2.stage

-- ---- a block is born by a fork alone

-- An effect on one block leaves who isn't born.
abbrev KeepsUnborn : (BlockState → BlockState) → Type 0
KeepsUnborn f = (b : BlockState) → b.stage ≡ Unborn → (f b).stage ≡ Unborn

-- at a place, where one is changed
unborn_changed : (i v : ℕ) (f : BlockState → BlockState) (blocks : List BlockState) → KeepsUnborn f → stage_at blocks v ≡ Unborn → stage_at (changed i f blocks) v ≡ Unborn
unborn_changed i v f [] keeps off = off
unborn_changed zero zero f (b ∷ blocks) keeps off = keeps b off
unborn_changed zero (suc v) f (b ∷ blocks) keeps off = off
unborn_changed (suc i) zero f (b ∷ blocks) keeps off = off
unborn_changed (suc i) (suc v) f (b ∷ blocks) keeps off = unborn_changed i v f blocks keeps off

-- where each is changed
unborn_map : (v : ℕ) (f : BlockState → BlockState) (blocks : List BlockState) → KeepsUnborn f → stage_at blocks v ≡ Unborn → stage_at (map f blocks) v ≡ Unborn
unborn_map v f [] keeps off = off
unborn_map zero f (b ∷ blocks) keeps off = keeps b off
unborn_map (suc v) f (b ∷ blocks) keeps off = unborn_map v f blocks keeps off

-- by a test
unborn_if : (test : Bool) (v : ℕ) (new old : List BlockState) → stage_at new v ≡ Unborn → stage_at old v ≡ Unborn → stage_at (if test then new else old) v ≡ Unborn
unborn_if true v new old one two = one
unborn_if false v new old one two = two

-- the command is a fork
abbrev is_fork : Command → Bool
is_fork (commands.Fork name) = true
is_fork other = false

-- a command that is no fork
reach_unborn : (script : Script) (t : ℕ) (command : Command) (reply : Reply) (blocks : List BlockState) (v : ℕ) → is_fork command ≡ false → stage_at blocks v ≡ Unborn → stage_at (reach_of script t command reply blocks) v ≡ Unborn
reach_unborn script t (commands.Fork name) reply blocks v unlike off = absurd (cc)
reach_unborn script t (commands.Kill name signo) reply blocks v unlike off = unborn_if (is_count reply) v _ blocks (unborn_changed (block_named script name) v (signalled signo) blocks (λ b is. is) off) off
reach_unborn script t commands.Stop reply blocks v unlike off = unborn_if (is_held reply) v _ blocks (unborn_map v (woken t) blocks (λ b is. ap (wake t) is) off) off
reach_unborn script t (commands.Getregs name set) reply blocks v unlike off =
    let child = slice_get blocks (block_named script name) in
    unborn_if (is_count reply) v _ blocks (unborn_changed t v (buffer_filled set child) blocks (λ b is. filled_stage set child b ∙ is) off) off
reach_unborn script t (commands.Setregs name set count) reply blocks v unlike off =
    unborn_if (is_count reply) v _ blocks (unborn_changed (block_named script name) v (registers_set set count (buffer_of (slice_get blocks t))) blocks (λ b is. is) off) off
reach_unborn script t (commands.Cont name) reply blocks v unlike off = unborn_if (is_count reply) v _ blocks (unborn_changed (block_named script name) v continued blocks (λ b is. ap (let_go true) is) off) off
reach_unborn script t other reply blocks v unlike off = off

-- An event bears v only as a fork of it.
abbrev MayBear : Script → Event → List BlockState → ℕ → Type 0
MayBear script event blocks v = stage_at blocks v ≡ Unborn → (stage_at (reach script event blocks) v ≡ Unborn → ⊥) → IsForkOf script event v

-- by the command
command_bears : (script : Script) (t line : ℕ) (reply : Reply) (blocks : List BlockState) (v : ℕ) (command : Option Command) → command_at script t line ≡ command → stage_at blocks v ≡ Unborn → (stage_at (outer_reach script t command reply blocks) v ≡ Unborn → ⊥) → IsForkOf script (Outer t line reply) v
command_bears script t line reply blocks v None is off on = absurd (on off)
command_bears script t line reply blocks v (Some (commands.Fork name)) is off on = ⊎_elim
    (λ (same : block_named script name ≡ v). record { parent = t; line = line; reply = reply; name = name; is = refl; command = is; child = same })
    (λ (other : block_named script name ≡ v → ⊥). absurd (on (ap stage_of (changed_other (block_named script name) v (born t (slice_get blocks t)) blocks other) ∙ off)))
    (cases_eq (block_named script name) v)
command_bears script t line reply blocks v (Some other) is off on = absurd (on (reach_unborn script t other reply blocks v refl off))

-- by the event
event_bears : (script : Script) (event : Event) (blocks : List BlockState) (v : ℕ) → MayBear script event blocks v
event_bears script (Start t cpu how signal) blocks v off on = absurd (on off)
event_bears script (Local t line reply) blocks v off on = absurd (on off)
event_bears script (Outer t line reply) blocks v off on = command_bears script t line reply blocks v (command_at script t line) refl off on
event_bears script (Grow t) blocks v off on = absurd (on off)
event_bears script (Kill t signo why) blocks v off on = absurd (on (unborn_map v (freed t) blocks (λ b is. ap (λ (s : Stage). let_go (is_parent b.parent t) (wake t s)) is) off))
event_bears script (End t) blocks v off on = absurd (on (unborn_map v (freed t) blocks (λ b is. ap (λ (s : Stage). let_go (is_parent b.parent t) (wake t s)) is) off))

-- who isn't born doesn't act
unborn_other : (m : Machine) (event : Event) (v : ℕ) → IsStep m event → stage_at m.blocks v ≡ Unborn → task_of event ≡ v → ⊥
unborn_other m event v step off same =
    let b = step_born m event step in
    let on : is_born (stage_at m.blocks v) ≡ true = ap (λ (x : ℕ). is_born (stage_at m.blocks x)) (sym same) ∙ ap (λ (block : Option BlockState). is_born (stage_of block)) b.here ∙ b.born in
    not_unborn (stage_at m.blocks v) on off

-- a step
pub step_bears : (m : Machine) (event : Event) (v : ℕ) → IsStep m event → stage_at m.blocks v ≡ Unborn → (stage_at (blocks_after m.script event m.blocks) v ≡ Unborn → ⊥) → IsForkOf m.script event v
step_bears m event v step off on =
    let other = unborn_other m event v step off in
    event_bears m.script event m.blocks v off
    (λ is. on (ap stage_of (changed_other (task_of event) v (own m.script event) (reach m.script event m.blocks) other) ∙ is))

-- the law
pub born_by_fork : BornByFork
born_by_fork script past event v valid legal off on =
    subst (λ (s : Script). IsForkOf s event v) (machine_script script past) (step_bears (machine script past) event v legal.1 off on)

-- ---- who isn't born had no turn

-- who isn't born after a step wasn't born before it
was_unborn : (m : Machine) (event : Event) (v : ℕ) → AreLinesFound m.script → IsStep m event → stage_at (blocks_after m.script event m.blocks) v ≡ Unborn → stage_at m.blocks v ≡ Unborn
was_unborn m event v found step off = ⊎_elim
    (λ (born : is_born (stage_at m.blocks v) ≡ true). absurd (not_unborn (stage_at (blocks_after m.script event m.blocks) v) (stays_born m event v found step born) off))
    (λ (unborn : is_born (stage_at m.blocks v) ≡ false). unborn_is (stage_at m.blocks v) unborn)
    (cases_Bool (is_born (stage_at m.blocks v)))

-- another block's event gives no last processor
last_none : (task v : ℕ) (act : Act) (older : Option ℕ) → (task == v) ≡ false → older ≡ None → last_after task act v older ≡ None
last_none task v (Starts c) older other before = rw other before
last_none task v Section older other before = before
last_none task v Grows older other before = rw other before
last_none task v (Sets u) older other before = by_test (u == v)
  where
    by_test : (b : Bool) → (if b then None else older) ≡ None
    by_test true = refl
    by_test false = before
last_none task v Plain older other before = before

-- nor a mark
mark_off : (user : Bool) (task v : ℕ) (act : Act) (older : Option ℕ) → (task == v) ≡ false → is_at older v ≡ false → is_at (mark_after user task act older) v ≡ false
mark_off user task v Section older other before = refl
mark_off true task v (Starts c) older other before = other
mark_off true task v Grows older other before = other
mark_off true task v (Sets u) older other before = other
mark_off true task v Plain older other before = other
mark_off false task v (Starts c) older other before = before
mark_off false task v Grows older other before = before
mark_off false task v (Sets u) older other before = before
mark_off false task v Plain older other before = before

-- one event more
no_turn_on : (script : Script) (event : Event) (past : List Event) (v : ℕ) → (task_of event == v) ≡ false → HadNoTurn script past v → HadNoTurn script (event ∷ past) v
no_turn_on script event past v other before = record {
  cpu = rw other before.cpu;
  last = last_none (task_of event) v (act_of script event) (last script past v) other before.last;
  unmarked = λ c. by_test c (is_on (notes_of script past) (note_of script event) c);
}
  where
    by_test : (c : ℕ) (b : Bool) → is_at (if b then mark_after (is_user script (task_of event)) (task_of event) (act_of script event) (mark script past c) else mark script past c) v ≡ false
    by_test c true = mark_off (is_user script (task_of event)) (task_of event) v (act_of script event) (mark script past c) other (before.unmarked c)
    by_test c false = before.unmarked c

-- the law
pub unborn_unseen : UnbornUnseen
unborn_unseen script [] v valid legal off = record { cpu = refl; last = refl; unmarked = λ c. refl }
unborn_unseen script (event ∷ past) v valid legal off =
    let m = machine script past in
    let found : AreLinesFound m.script = subst AreLinesFound (sym (machine_script script past)) (lines_found script valid) in
    let before = was_unborn m event v found legal.1 off in
    no_turn_on script event past v (ne_eqb (task_of event) v (unborn_other m event v legal.1 before)) (unborn_unseen script past v valid legal.0 before)
