-- While a turn lasts, its Local events are fewer than the quantum.
use Rattle.std.proofs.Common.{◌≡◌, ℕ, zero, suc, ◌+◌, ◌<◌, ◌==◌, Bool, true, false, not, List, [], ◌∷◌, map, refl, sym, ap, ◌∙◌, subst}
use Rattle.std.proofs.lemmas.Bool.{and_parts, lt-ltb, ltb-true}
use Rattle.std.specs.Prelude.{Option, Some, None, if◌then◌else◌, slice_get, nat_lt}
use Rattle.std.specs.List.{AllByRecursion}
use Rattle.xs_base.specs.Task.{PrivateTask}
use Rattle.xs_base.specs.declared.words.Signo.{Signo}
use Rattle.xs_model.specs.declared.script.BlockKind.{BlockKind}
use Rattle.xs_model.specs.declared.script.BlockKind.TheVariants.{Task, Child, Kthread}
use Rattle.xs_model.specs.declared.script.Command.{Command}
use Rattle.xs_model.specs.declared.script.Command.TheVariants as commands
use Rattle.xs_model.specs.declared.script.Block.{Block}
use Rattle.xs_model.specs.declared.script.Script.{Script}
use Rattle.xs_model.specs.declared.event.Reply.{Reply}
use Rattle.xs_model.specs.declared.event.Event.{Event}
use Rattle.xs_model.specs.declared.event.Event.TheVariants.{Start, Local, Outer, Grow, Kill, End}
use Rattle.xs_model.specs.declared.stage.Stage.{Stage}
use Rattle.xs_model.specs.declared.stage.Stage.TheVariants.{Unborn, Ready, Turn, Stopped, Waiting, Ended}
use Rattle.xs_model.specs.Script.{block_named, command_at, is_yield}
use Rattle.xs_model.specs.Note.{task_of}
use Rattle.xs_model.specs.State.{BlockState, opening_stage, opening_block, is_parent, stage_at, changed}
use Rattle.xs_model.specs.Outer.{is_held, is_blocked, wake, let_go, bear, born, stage_left, outer_own}
use Rattle.xs_model.specs.Machine.{started, goes_on, ran_in, ran_line, own, reach, blocks_after, machine}
use Rattle.xs_model.specs.Runs.{TurnsShort}
use Rattle.xs_model.proofs.Touched.{Touched, Stays, Wakes, Frees, Continues, Signals, Takes, Fills, Bears, Alike, reach_touches}
use Rattle.xs_model.proofs.EventTurns.{filled_stage}
use Rattle.xs_model.proofs.LegalTurns.{machine_script}

-- Where the stage is a turn, it made fewer Local events.
abbrev is_short : ℕ → Stage → Bool
is_short quantum Unborn = true
is_short quantum Ready = true
is_short quantum (Turn cpu ran) = nat_lt ran quantum
is_short quantum Stopped = true
is_short quantum (Waiting child) = true
is_short quantum Ended = true

-- Every block is such.
abbrev AreShort : ℕ → List BlockState → Type 0
AreShort quantum blocks = AllByRecursion (λ (block : BlockState). is_short quantum block.stage ≡ true) blocks

-- ---- the effects on other blocks

-- ready or as before
if_short : (quantum : ℕ) (b : Bool) (s : Stage) → is_short quantum s ≡ true → is_short quantum (if b then Ready else s) ≡ true
if_short quantum true s is = refl
if_short quantum false s is = is

-- to wake
wake_short : (quantum t : ℕ) (s : Stage) → is_short quantum s ≡ true → is_short quantum (wake t s) ≡ true
wake_short quantum t Unborn is = is
wake_short quantum t Ready is = is
wake_short quantum t (Turn cpu ran) is = is
wake_short quantum t Stopped is = is
wake_short quantum t (Waiting child) is = if_short quantum (child == t) (Waiting child) refl
wake_short quantum t Ended is = is

-- to let go
let_go_short : (quantum : ℕ) (may : Bool) (s : Stage) → is_short quantum s ≡ true → is_short quantum (let_go may s) ≡ true
let_go_short quantum may Unborn is = is
let_go_short quantum may Ready is = is
let_go_short quantum may (Turn cpu ran) is = is
let_go_short quantum may Stopped is = if_short quantum may Stopped refl
let_go_short quantum may (Waiting child) is = is
let_go_short quantum may Ended is = is

-- a birth by the stage
bear_short : (quantum t : ℕ) (parent : PrivateTask) (s : Stage) (block : BlockState) → is_short quantum block.stage ≡ true → is_short quantum (bear t parent s block).stage ≡ true
bear_short quantum t parent Unborn block is = refl
bear_short quantum t parent Ready block is = is
bear_short quantum t parent (Turn cpu ran) block is = is
bear_short quantum t parent Stopped block is = is
bear_short quantum t parent (Waiting child) block is = is
bear_short quantum t parent Ended block is = is

-- a birth
born_short : (quantum t : ℕ) (parent : Option BlockState) (block : BlockState) → is_short quantum block.stage ≡ true → is_short quantum (born t parent block).stage ≡ true
born_short quantum t None block is = is
born_short quantum t (Some parent) block is = bear_short quantum t parent.task block.stage block is

-- a block that is touched stays short
touched_short : (quantum : ℕ) (blocks : List BlockState) (old new : BlockState) → Touched blocks old new → is_short quantum old.stage ≡ true → is_short quantum new.stage ≡ true
touched_short quantum blocks old new (Stays is) short = ap (λ (b : BlockState). is_short quantum b.stage) is ∙ short
touched_short quantum blocks old new (Wakes t is) short = ap (λ (b : BlockState). is_short quantum b.stage) is ∙ wake_short quantum t old.stage short
touched_short quantum blocks old new (Frees t is) short = ap (λ (b : BlockState). is_short quantum b.stage) is ∙ let_go_short quantum (is_parent old.parent t) (wake t old.stage) (wake_short quantum t old.stage short)
touched_short quantum blocks old new (Continues is) short = ap (λ (b : BlockState). is_short quantum b.stage) is ∙ let_go_short quantum true old.stage short
touched_short quantum blocks old new (Signals signo is) short = ap (λ (b : BlockState). is_short quantum b.stage) is ∙ short
touched_short quantum blocks old new (Takes set count t is) short = ap (λ (b : BlockState). is_short quantum b.stage) is ∙ short
touched_short quantum blocks old new (Fills set child is) short = ap (λ (b : BlockState). is_short quantum b.stage) is ∙ ap (is_short quantum) (filled_stage set (slice_get blocks child) old) ∙ short
touched_short quantum blocks old new (Bears t is) short = ap (λ (b : BlockState). is_short quantum b.stage) is ∙ born_short quantum t (slice_get blocks t) old short

-- all of them
alike_short : (quantum : ℕ) (blocks old new : List BlockState) → Alike (Touched blocks) old new → AreShort quantum old → AreShort quantum new
alike_short quantum blocks [] [] alike short = tt
alike_short quantum blocks (x ∷ old) [] alike short = absurd alike
alike_short quantum blocks [] (y ∷ new) alike short = absurd alike
alike_short quantum blocks (x ∷ old) (y ∷ new) alike short = (touched_short quantum blocks x y alike.0 short.0, alike_short quantum blocks old new alike.1 short.1)

-- one block changed
changed_short : (quantum t : ℕ) (f : BlockState → BlockState) → ((b : BlockState) → is_short quantum b.stage ≡ true → is_short quantum (f b).stage ≡ true) → (blocks : List BlockState) → AreShort quantum blocks → AreShort quantum (changed t f blocks)
changed_short quantum t f keeps [] short = tt
changed_short quantum zero f keeps (b ∷ blocks) short = (keeps b short.0, short.1)
changed_short quantum (suc t) f keeps (b ∷ blocks) short = (short.0, changed_short quantum t f keeps blocks short.1)

-- ---- the block's own turn

-- a turn that begins
started_short : (quantum cpu : ℕ) (signal : Option Signo) (b : BlockState) → nat_lt 0 quantum ≡ true → is_short quantum (started cpu signal b).stage ≡ true
started_short quantum cpu None b some = some
started_short quantum cpu (Some signo) b some = some

-- a local line goes on within the quantum, or ends the turn
ran_by : (quantum : ℕ) (test : Bool) (x y : BlockState) → (test ≡ true → is_short quantum x.stage ≡ true) → is_short quantum y.stage ≡ true → is_short quantum (if test then x else y).stage ≡ true
ran_by quantum true x y one two = one refl
ran_by quantum false x y one two = two

-- a local line by the stage
ran_short : (script : Script) (command : Command) (s : Stage) (b : BlockState) → is_short script.quantum b.stage ≡ true → is_short script.quantum (ran_in script command s b).stage ≡ true
ran_short script command Unborn b is = is
ran_short script command Ready b is = is
ran_short script command (Turn cpu ran) b is = ran_by script.quantum (goes_on script command ran) _ _ (λ test. (and_parts (not (is_yield command)) (nat_lt (ran + 1) script.quantum) test).1) refl
ran_short script command Stopped b is = is
ran_short script command (Waiting child) b is = is
ran_short script command Ended b is = is

-- a local line
line_short : (script : Script) (command : Option Command) (b : BlockState) → is_short script.quantum b.stage ≡ true → is_short script.quantum (ran_line script command b).stage ≡ true
line_short script None b is = is
line_short script (Some command) b is = ran_short script command b.stage b is

-- an outer command leaves no turn
left_short : (quantum : ℕ) (script : Script) (command : Command) (reply : Reply) → is_short quantum (stage_left script command reply) ≡ true
left_short quantum script commands.Stop reply = cases (is_held reply)
  where
    cases : (b : Bool) → is_short quantum (if b then Stopped else Ready) ≡ true
    cases true = refl
    cases false = refl
left_short quantum script (commands.Wait name) reply = cases (is_blocked reply)
  where
    cases : (b : Bool) → is_short quantum (if b then Waiting (block_named script name) else Ready) ≡ true
    cases true = refl
    cases false = refl
left_short quantum script other reply = refl

-- so does an outer event
outer_short : (quantum : ℕ) (script : Script) (command : Option Command) (reply : Reply) (b : BlockState) → is_short quantum (outer_own script command reply b).stage ≡ true
outer_short quantum script None reply b = refl
outer_short quantum script (Some command) reply b = left_short quantum script command reply

-- what an event does to its own block
own_short : (script : Script) (event : Event) → nat_lt 0 script.quantum ≡ true → (b : BlockState) → is_short script.quantum b.stage ≡ true → is_short script.quantum (own script event b).stage ≡ true
own_short script (Start t cpu how signal) some b is = started_short script.quantum cpu signal b some
own_short script (Local t line reply) some b is = line_short script (command_at script t line) b is
own_short script (Outer t line reply) some b is = outer_short script.quantum script (command_at script t line) reply b
own_short script (Grow t) some b is = refl
own_short script (Kill t signo why) some b is = refl
own_short script (End t) some b is = refl

-- ---- every past

-- an event
after_short : (script : Script) (event : Event) (blocks : List BlockState) → nat_lt 0 script.quantum ≡ true → AreShort script.quantum blocks → AreShort script.quantum (blocks_after script event blocks)
after_short script event blocks some short =
    changed_short script.quantum (task_of event) (own script event) (own_short script event some) (reach script event blocks)
    (alike_short script.quantum blocks blocks (reach script event blocks) (reach_touches script event blocks) short)

-- no block opens in a turn
kind_short : (quantum : ℕ) (kind : BlockKind) → is_short quantum (opening_stage kind) ≡ true
kind_short quantum Task = refl
kind_short quantum Child = refl
kind_short quantum Kthread = refl

-- nor does any of them
opening_short : (quantum : ℕ) (script : Script) (blocks : List Block) → AreShort quantum (map (opening_block script.layout) blocks)
opening_short quantum script [] = tt
opening_short quantum script (block ∷ blocks) = (kind_short quantum block.kind, opening_short quantum script blocks)

-- after every past
all_short : (script : Script) (past : List Event) → nat_lt 0 script.quantum ≡ true → AreShort script.quantum (machine script past).blocks
all_short script [] some = opening_short script.quantum script script.blocks
all_short script (event ∷ past) some =
    let m = machine script past in
    let same : m.script ≡ script = machine_script script past in
    subst (λ (s : Script). AreShort script.quantum (blocks_after s event m.blocks)) (sym same) (after_short script event m.blocks some (all_short script past some))

-- the block at a place
short_at : (quantum : ℕ) (blocks : List BlockState) → AreShort quantum blocks → (t cpu ran : ℕ) → stage_at blocks t ≡ Turn cpu ran → nat_lt ran quantum ≡ true
short_at quantum [] short t cpu ran is = absurd (cc)
short_at quantum (b ∷ blocks) short zero cpu ran is = sym (ap (is_short quantum) is) ∙ short.0
short_at quantum (b ∷ blocks) short (suc t) cpu ran is = short_at quantum blocks short.1 t cpu ran is

-- the same as a test
pub turns_within : (script : Script) (past : List Event) → 0 < script.quantum → (t cpu ran : ℕ) → stage_at (machine script past).blocks t ≡ Turn cpu ran → nat_lt ran script.quantum ≡ true
turns_within script past some t cpu ran is = short_at script.quantum (machine script past).blocks (all_short script past (lt-ltb 0 script.quantum some)) t cpu ran is

-- the law
pub turns_short : TurnsShort
turns_short script past t cpu ran valid is = ltb-true ran script.quantum (turns_within script past valid.quantum.0 t cpu ran is)
