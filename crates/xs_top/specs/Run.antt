-- A run: which script a command plays, and what is said of its history and of the processors that it leaves. This project's
-- own.
use Rattle.std.specs.Prelude.{◌≡◌, ◌⊎◌, ℕ, ◌<◌, ◌^◌, List, [], ◌∷◌, codes, decimal, drop, slice_get, Some}
use Rattle.xs_bank.specs.Bank.{Bank, HasCountedNothing}
use Rattle.xs_machine.specs.declared.proc.Proc.{Proc}
use Rattle.xs_machine.specs.Processors.{HaveRun}
use Rattle.xs_model.specs.declared.script.Script.{Script}
use Rattle.xs_model.specs.declared.event.Event.{Event}
use Rattle.xs_model.specs.History.{IsWhole}
use Rattle.xs_model.specs.Replay.{IsReplay}
use Rattle.xs_top.specs.declared.play.Play.{Play}
use Rattle.xs_top.specs.declared.play.Play.TheVariants.{Run, Replay}

-- ---- commands that play a script

-- the command's words, without the program's name
abbrev pub play_words : Play → List (List ℕ)
play_words Run = codes "run" ∷ []
play_words Replay = codes "replay" ∷ []

-- The words are such a command.
abbrev pub IsPlayLine : List (List ℕ) → Type 0
IsPlayLine words = (play : Play) × (words ≡ play_words play)

-- ---- the command that writes the generator's script of a number

abbrev pub gen_words : ℕ → List (List ℕ)
gen_words number = codes "gen" ∷ decimal number ∷ []

-- The words are this command, with a number of 32 bits in its one spelling.
abbrev pub IsGenLine : List (List ℕ) → Type 0
IsGenLine words = (number : ℕ) × (number < 2 ^ 32) × (words ≡ gen_words number)

-- ---- the command that runs it

abbrev pub demo_words : ℕ → List (List ℕ)
demo_words number = codes "demo" ∷ decimal number ∷ []

abbrev pub IsDemoLine : List (List ℕ) → Type 0
IsDemoLine words = (number : ℕ) × (number < 2 ^ 32) × (words ≡ demo_words number)

-- ---- the command that checks a history

abbrev pub check_words : List (List ℕ)
check_words = codes "check" ∷ []

abbrev pub IsCheckLine : List (List ℕ) → Type 0
IsCheckLine words = words ≡ check_words

-- The words are one of the command lines of this version.
abbrev pub IsCommandLine : List (List ℕ) → Type 0
IsCommandLine words = IsPlayLine words ⊎ IsGenLine words ⊎ IsDemoLine words ⊎ IsCheckLine words

-- Which of a script's whole histories a command may write: `replay` the one of its schedule; `run` that of any order of its processors'
-- steps, so that with one processor it is the same.
abbrev pub IsPlayed : Play → Script → List Event → Type 0
IsPlayed Run script history = script.cpus ≡ 1 → IsReplay script history
IsPlayed Replay script history = IsReplay script history

-- ---- processors

-- The processors have the numbers 0, 1, 2 and so on, in order.
abbrev pub AreNumbered : {B : Type 0} → List (Proc B) → Type 0
AreNumbered {B = B} procs = (i : ℕ) (proc : Proc B) → slice_get procs i ≡ Some proc → proc.cpu.number ≡ i

-- No bank has counted anything.
abbrev pub AreUncounted : {B : Type 0} → (B → Bank) → List (Proc B) → Type 0
AreUncounted {B = B} state procs = (i : ℕ) (proc : Proc B) → slice_get procs i ≡ Some proc → HasCountedNothing (state proc.cpu.bank)

-- The script's processors have its machine.
abbrev pub HaveMachineOf : {B : Type 0} → Script → List (Proc B) → Type 0
HaveMachineOf {B = B} script procs = (i : ℕ) (proc : Proc B) → i < script.cpus → slice_get procs i ≡ Some proc → proc.cpu.layout ≡ script.layout

-- ---- a run

-- The history is a whole one of the script, and one that the command may write. Each bank has counted what the history tells of it, and
-- has the file that the history leaves in it, PKRU aside. The script's processors have its machine and the owner marks that the history
-- gives them, and no other processor changed.
pub record IsRunOf {B : Type 0} (state : B → Bank) (play : Play) (script : Script) (history : List Event) (old new : List (Proc B)) : Type 0 where
  pub whole : IsWhole script history
  pub played : IsPlayed play script history
  pub banks : HaveRun state script history new
  pub machine : HaveMachineOf script new
  pub others : drop script.cpus new ≡ drop script.cpus old
