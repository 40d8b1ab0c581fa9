-- A block that isn't born, or has ended, has no pending signal: a signal is sent to the living alone.
use Rattle.std.proofs.Common.{◌≡◌, ℕ, zero, suc, Bool, true, false, List, [], ◌∷◌, map, refl, sym, ap, ◌∙◌, subst}
use Rattle.std.proofs.lemmas.Bool.{both_ways}
use Rattle.std.specs.Prelude.{Option, Some, None, if◌then◌else◌, slice_get}
use Rattle.std.specs.List.{AllByRecursion}
use Rattle.xs_base.specs.declared.component.Row.{Row}
use Rattle.xs_base.specs.declared.words.Set.{Set}
use Rattle.xs_base.specs.declared.words.Signo.{Signo}
use Rattle.xs_base.specs.Task.{PrivateTask}
use Rattle.xs_model.specs.declared.script.Command.{Command}
use Rattle.xs_model.specs.declared.script.Command.TheVariants as commands
use Rattle.xs_model.specs.declared.script.Block.{Block}
use Rattle.xs_model.specs.declared.script.Script.{Script}
use Rattle.xs_model.specs.declared.event.Reply.{Reply}
use Rattle.xs_model.specs.declared.event.Reply.TheVariants as replies
use Rattle.xs_model.specs.declared.event.Event.{Event}
use Rattle.xs_model.specs.declared.event.Event.TheVariants.{Start, Local, Outer, Grow, Kill, End}
use Rattle.xs_model.specs.declared.stage.Stage.{Stage}
use Rattle.xs_model.specs.declared.stage.Stage.TheVariants.{Unborn, Ready, Turn, Stopped, Waiting, Ended}
use Rattle.xs_model.specs.Script.{block_named, command_at}
use Rattle.xs_model.specs.Line.{line_at}
use Rattle.xs_model.specs.Note.{is_count, task_of}
use Rattle.xs_model.specs.State.{BlockState, Machine, opening_block, lives, stage_of, stage_at, is_parent, changed}
use Rattle.xs_model.specs.Outer.{no_block, outer_reply, is_held, is_blocked, wake, woken, let_go, continued, freed, bear, born, signalled, buffer_of, registers_set, buffer_filled, reach_of, outer_reach, stage_left, outer_own}
use Rattle.xs_model.specs.Machine.{goes_on, ran_in, ran_line, own, reach, IsStep, machine, IsLegalPast}
use Rattle.xs_model.specs.Laws.{QuietUnlessAlive}
use Rattle.xs_model.proofs.LineNumbers.{AreLinesFound, lines_found}
use Rattle.xs_model.proofs.LegalTurns.{machine_script}
use Rattle.xs_model.proofs.DuePlaces.{due_inverse}
use Rattle.xs_model.proofs.DueOrders.{outer_at}
use Rattle.xs_model.proofs.EventTurns.{filled_stage, started_stage}
use Rattle.xs_model.proofs.EachBlock.{all_at, all_changed, all_map}
use Rattle.xs_model.proofs.PendingLaws.{filled_pending}

-- who doesn't live has no pending signal
abbrev IsQuiet : BlockState → Type 0
IsQuiet block = lives block.stage ≡ false → block.pending ≡ []

-- who lives is quiet
living_quiet : (block : BlockState) → lives block.stage ≡ true → IsQuiet block
living_quiet block living = λ over. absurd (both_ways (lives block.stage) over living)

-- who lives as before, with the signals as before, is quiet as before
still_quiet : (old new : BlockState) → lives new.stage ≡ lives old.stage → new.pending ≡ old.pending → IsQuiet old → IsQuiet new
still_quiet old new life same quiet = λ over. same ∙ quiet (sym life ∙ over)

-- ---- the block of the event

-- the stage in which an outer command leaves its block
left_lives : (script : Script) (command : Command) (reply : Reply) → lives (stage_left script command reply) ≡ true
left_lives script commands.Stop reply = by_test (is_held reply)
  where
    by_test : (b : Bool) → lives (if b then Stopped else Ready) ≡ true
    by_test true = refl
    by_test false = refl
left_lives script (commands.Wait name) reply = by_test (is_blocked reply)
  where
    by_test : (b : Bool) → lives (if b then Waiting (block_named script name) else Ready) ≡ true
    by_test true = refl
    by_test false = refl
left_lives script other reply = refl

-- after an outer line
outer_quiet : (script : Script) (command : Option Command) (reply : Reply) (block : BlockState) → IsQuiet (outer_own script command reply block)
outer_quiet script None reply block = λ over. absurd (cc)
outer_quiet script (Some command) reply block = living_quiet (outer_own script (Some command) reply block) (left_lives script command reply)

-- whichever way a test goes
either_lives : (test : Bool) (one other : BlockState) → lives one.stage ≡ true → lives other.stage ≡ true → lives (if test then one else other).stage ≡ true
either_lives true one other a b = a
either_lives false one other a b = b

-- after a local line, by the stage
ran_quiet : (script : Script) (command : Command) (s : Stage) (block : BlockState) → IsQuiet block → IsQuiet (ran_in script command s block)
ran_quiet script command (Turn cpu ran) block quiet = living_quiet (ran_in script command (Turn cpu ran) block) (either_lives (goes_on script command ran) _ _ refl refl)
ran_quiet script command Unborn block quiet = quiet
ran_quiet script command Ready block quiet = quiet
ran_quiet script command Stopped block quiet = quiet
ran_quiet script command (Waiting child) block quiet = quiet
ran_quiet script command Ended block quiet = quiet

-- after a local line, which may not be there
line_quiet : (script : Script) (command : Option Command) (block : BlockState) → IsQuiet block → IsQuiet (ran_line script command block)
line_quiet script None block quiet = quiet
line_quiet script (Some command) block quiet = ran_quiet script command block.stage block quiet

-- after its event
own_quiet : (script : Script) (event : Event) (block : BlockState) → IsQuiet block → IsQuiet (own script event block)
own_quiet script (Start t cpu how signal) block quiet = living_quiet (own script (Start t cpu how signal) block) (ap lives (started_stage cpu signal block))
own_quiet script (Local t line reply) block quiet = line_quiet script (command_at script t line) block quiet
own_quiet script (Outer t line reply) block quiet = outer_quiet script (command_at script t line) reply block
own_quiet script (Grow t) block quiet = λ over. absurd (cc)
own_quiet script (Kill t signo why) block quiet = λ over. refl
own_quiet script (End t) block quiet = λ over. refl

-- ---- another block

-- whichever way a test goes
one_life : (test : Bool) (s : Stage) → lives s ≡ true → lives (if test then Ready else s) ≡ true
one_life true s living = refl
one_life false s living = living

-- a wake
wake_life : (t : ℕ) (s : Stage) → lives (wake t s) ≡ lives s
wake_life t Unborn = refl
wake_life t Ready = refl
wake_life t (Turn cpu ran) = refl
wake_life t Stopped = refl
wake_life t (Waiting child) = one_life _ (Waiting child) refl
wake_life t Ended = refl

-- to go on
let_go_life : (may : Bool) (s : Stage) → lives (let_go may s) ≡ lives s
let_go_life may Unborn = refl
let_go_life may Ready = refl
let_go_life may (Turn cpu ran) = refl
let_go_life may Stopped = one_life may Stopped refl
let_go_life may (Waiting child) = refl
let_go_life may Ended = refl

-- another's end
freed_quiet : (t : ℕ) (block : BlockState) → IsQuiet block → IsQuiet (freed t block)
freed_quiet t block quiet = still_quiet block (freed t block) (let_go_life (is_parent block.parent t) (wake t block.stage) ∙ wake_life t block.stage) refl quiet

-- a birth by the stage
bear_quiet : (t : ℕ) (parent : PrivateTask) (s : Stage) (block : BlockState) → IsQuiet block → IsQuiet (bear t parent s block)
bear_quiet t parent Unborn block quiet = λ over. refl
bear_quiet t parent Ready block quiet = quiet
bear_quiet t parent (Turn cpu ran) block quiet = quiet
bear_quiet t parent Stopped block quiet = quiet
bear_quiet t parent (Waiting child) block quiet = quiet
bear_quiet t parent Ended block quiet = quiet

-- a birth of a parent that may not be there
born_quiet : (t : ℕ) (parent : Option BlockState) (block : BlockState) → IsQuiet block → IsQuiet (born t parent block)
born_quiet t None block quiet = quiet
born_quiet t (Some parent) block quiet = bear_quiet t parent.task block.stage block quiet

-- a buffer that is filled
filled_quiet : (set : Set) (child : Option BlockState) (block : BlockState) → IsQuiet block → IsQuiet (buffer_filled set child block)
filled_quiet set child block quiet = still_quiet block (buffer_filled set child block) (ap lives (filled_stage set child block)) (filled_pending set child block) quiet

-- it holds of all, one of them changed, where the change keeps it there
changed_where : {A : Type 0} (P : A → Type 0) (f : A → A) (i : ℕ) (xs : List A) → ((x : A) → slice_get xs i ≡ Some x → P (f x)) → AllByRecursion P xs → AllByRecursion P (changed i f xs)
changed_where P f i [] each all = tt
changed_where P f zero (x ∷ xs) each all = (each x refl, all.1)
changed_where P f (suc i) (x ∷ xs) each all = (all.0, changed_where P f i xs each all.1)

-- whichever way a test goes
if_quiet : (test : Bool) (old new : List BlockState) → (test ≡ true → AllByRecursion IsQuiet new) → AllByRecursion IsQuiet old → AllByRecursion IsQuiet (if test then new else old)
if_quiet true old new one two = one refl
if_quiet false old new one two = two

-- a count answers a signal that reaches the living
count_lives : (living : Bool) → is_count (if living then replies.Count 0 else no_block) ≡ true → living ≡ true
count_lives true is = refl
count_lives false is = absurd (cc)

-- a signal that is sent
sent_quiet : (script : Script) (t : ℕ) (name : List ℕ) (signo : Signo) (reply : Reply) (blocks : List BlockState) → reply ≡ outer_reply script blocks t (commands.Kill name signo) → AllByRecursion IsQuiet blocks
    → AllByRecursion IsQuiet (reach_of script t (commands.Kill name signo) reply blocks)
sent_quiet script t name signo reply blocks replied all =
    let c = block_named script name in
    if_quiet (is_count reply) blocks (changed c (signalled signo) blocks)
    (λ (is : is_count reply ≡ true).
    let living = count_lives (lives (stage_at blocks c)) (sym (ap is_count replied) ∙ is) in
    changed_where IsQuiet (signalled signo) c blocks (λ block here. living_quiet (signalled signo block) (sym (ap (λ (b : Option BlockState). lives (stage_of b)) here) ∙ living)) all) all

-- after what an outer command does to other blocks
reach_of_quiet : (script : Script) (t : ℕ) (command : Command) (reply : Reply) (blocks : List BlockState) → reply ≡ outer_reply script blocks t command → AllByRecursion IsQuiet blocks → AllByRecursion IsQuiet (reach_of script t command reply blocks)
reach_of_quiet script t (commands.Fork name) reply blocks replied all = all_changed IsQuiet (born t (slice_get blocks t)) (born_quiet t (slice_get blocks t)) (block_named script name) blocks all
reach_of_quiet script t (commands.Kill name signo) reply blocks replied all = sent_quiet script t name signo reply blocks replied all
reach_of_quiet script t commands.Stop reply blocks replied all =
    if_quiet (is_held reply) blocks (map (woken t) blocks) (λ is. all_map IsQuiet (woken t) (λ block. still_quiet block (woken t block) (wake_life t block.stage) refl) blocks all) all
reach_of_quiet script t (commands.Getregs name set) reply blocks replied all =
    let f = buffer_filled set (slice_get blocks (block_named script name)) in
    if_quiet (is_count reply) blocks (changed t f blocks) (λ is. all_changed IsQuiet f (filled_quiet set (slice_get blocks (block_named script name))) t blocks all) all
reach_of_quiet script t (commands.Setregs name set count) reply blocks replied all =
    let f = registers_set set count (buffer_of (slice_get blocks t)) in
    if_quiet (is_count reply) blocks (changed (block_named script name) f blocks) (λ is. all_changed IsQuiet f (λ block. still_quiet block (f block) refl refl) (block_named script name) blocks all) all
reach_of_quiet script t (commands.Cont name) reply blocks replied all =
    if_quiet (is_count reply) blocks (changed (block_named script name) continued blocks) (λ is. all_changed IsQuiet continued (λ block. still_quiet block (continued block) (let_go_life true block.stage) refl) (block_named script name) blocks all) all
reach_of_quiet script t other reply blocks replied all = all

-- after what an outer event does to them
outer_reach_quiet : (m : Machine) (t line : ℕ) (reply : Reply) → AreLinesFound m.script → IsStep m (Outer t line reply) → AllByRecursion IsQuiet m.blocks → AllByRecursion IsQuiet (reach m.script (Outer t line reply) m.blocks)
outer_reach_quiet m t line reply found step all =
    let d = due_inverse m t (Outer t line reply) step.is_due in
    let o = outer_at m t d.ran t line reply d.lines d.state.task (line_at d.lines d.state.task) refl d.is in
    let command : command_at m.script t line ≡ Some o.order.command = ap (command_at m.script t) o.number ∙ found t d.lines d.state.task o.order d.known o.here in
    subst (λ (c : Option Command). AllByRecursion IsQuiet (outer_reach m.script t c reply m.blocks)) (sym command) (reach_of_quiet m.script t o.order.command reply m.blocks o.replied all)

-- after what a step does to them
reach_quiet : (m : Machine) (event : Event) → AreLinesFound m.script → IsStep m event → AllByRecursion IsQuiet m.blocks → AllByRecursion IsQuiet (reach m.script event m.blocks)
reach_quiet m (Start t cpu how signal) found step all = all
reach_quiet m (Local t line reply) found step all = all
reach_quiet m (Outer t line reply) found step all = outer_reach_quiet m t line reply found step all
reach_quiet m (Grow t) found step all = all
reach_quiet m (Kill t signo why) found step all = all_map IsQuiet (freed t) (freed_quiet t) m.blocks all
reach_quiet m (End t) found step all = all_map IsQuiet (freed t) (freed_quiet t) m.blocks all

-- ---- legal pasts

-- before the first event
opening_quiet : (rows : List Row) (blocks : List Block) → AllByRecursion IsQuiet (map (opening_block rows) blocks)
opening_quiet rows [] = tt
opening_quiet rows (block ∷ blocks) = (λ over. refl, opening_quiet rows blocks)

-- in a legal past
all_quiet : (script : Script) (past : List Event) → AreLinesFound script → IsLegalPast script past → AllByRecursion IsQuiet (machine script past).blocks
all_quiet script [] found legal = opening_quiet script.layout script.blocks
all_quiet script (event ∷ past) found legal =
    let m = machine script past in
    let found_there : AreLinesFound m.script = subst AreLinesFound (sym (machine_script script past)) found in
    all_changed IsQuiet (own m.script event) (own_quiet m.script event) (task_of event) (reach m.script event m.blocks) (reach_quiet m event found_there legal.1 (all_quiet script past found legal.0))

-- the law
pub quiet_unless_alive : QuietUnlessAlive
quiet_unless_alive script past t block valid legal here = all_at IsQuiet (machine script past).blocks t block (all_quiet script past (lines_found script valid) legal) here
