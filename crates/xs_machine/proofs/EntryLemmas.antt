-- An entry of the schedule: what its turn leaves.
use Rattle.std.proofs.Common.{◌≡◌, ℕ, Bool, true, false, List, [], ◌∷◌, ◌++◌, ◌<◌, length, reverse, Option, Some, None, if◌then◌else◌, is_none, not, nat_lt, slice_get, refl, sym, ap, ◌∙◌, inl, inr, subst}
use Rattle.std.proofs.lemmas.Bool.{cases_Bool}
use Rattle.std.proofs.lemmas.List.{reverse-append}
use Rattle.xs_base.specs.declared.component.Row.{Row}
use Rattle.xs_base.specs.declared.words.How.TheVariants as hows
use Rattle.xs_base.specs.declared.words.Set.{Set}
use Rattle.xs_base.specs.Frame.{refused_file}
use Rattle.xs_base.specs.Task.{PrivateTask, parked, root_task}
use Rattle.xs_bank.specs.declared.cpu.Cpu.{Cpu}
use Rattle.xs_bank.specs.Bank as banks
use Rattle.xs_model.specs.declared.event.Event.{Event}
use Rattle.xs_model.specs.declared.event.Event.TheVariants as events
use Rattle.xs_model.specs.declared.event.Reply.{Reply}
use Rattle.xs_model.specs.declared.event.Why.{Why}
use Rattle.xs_model.specs.declared.event.Why.TheVariants.{Permission, Area}
use Rattle.xs_model.specs.declared.script.Command.{Command}
use Rattle.xs_model.specs.declared.script.Command.TheVariants as commands
use Rattle.xs_model.specs.declared.script.Script.{Script}
use Rattle.xs_model.specs.declared.stage.Stage.TheVariants as stages
use Rattle.xs_model.specs.Counts as told
use Rattle.xs_model.specs.Due.{large_count}
use Rattle.xs_model.specs.History.{IsLegal}
use Rattle.xs_model.specs.Laws.{KeepsBlock, OthersKeep, ThreadsQuiet}
use Rattle.xs_model.specs.Line.{next_line}
use Rattle.xs_model.specs.Runs.{NeverIdle}
use Rattle.xs_model.specs.Machine.{IsLegalPast, machine}
use Rattle.xs_model.specs.Note.{is_count, last}
use Rattle.xs_model.specs.Outer.{is_blocked, task_left, with_registers}
use Rattle.xs_model.specs.Script.{IsValid, block_named, command_at, is_user}
use Rattle.xs_model.specs.State.{BlockState, stage_at, task_of_state}
use Rattle.xs_task.specs.declared.task.Task.{Task}
use Rattle.xs_board.specs.declared.turn.Close.{Close}
use Rattle.xs_board.specs.declared.turn.Close.TheVariants as closes
use Rattle.xs_board.specs.declared.turn.Entry.{Entry}
use Rattle.xs_board.specs.declared.turn.Turn.{Turn}
use Rattle.xs_board.specs.Board.{Board, past_of, machine_in, stage_in, private_in, private_with, private_after, private_closed, answer_in, blocks_with, turn_on, OthersKept, KeepsTurns}
use Rattle.xs_board.specs.Board as boards
use Rattle.xs_board.specs.Home.{IsHome}
use Rattle.xs_board.specs.Taken.{is_user_how, IsTurnOf}
use Rattle.xs_board.specs.Turn.{Answer, AreLines, filled_by, line_closed, past_with, task_after, task_closed, task_handed, trap_closed, trap_end, trap_fate, turn_events}
use Rattle.xs_machine.specs.Line.{Halted, KeepsCpu}
use Rattle.xs_machine.specs.Processors.{KeepsProcessor}
use Rattle.xs_machine.specs.Running.{IsRun, IsAt, MayBegin, Begun}
use Rattle.xs_machine.specs.Turn.{HasLeft, SomeRunning, may_be_fate, past_after}
use Rattle.xs_machine.proofs.Histories.{last_grown}
use Rattle.xs_machine.proofs.LineLemmas.{past_trap}
use Rattle.xs_machine.proofs.BoardLemmas.{LeavesBlocks, came_home, begun_at, start_running}
use Rattle.xs_machine.proofs.ScriptLemmas.{turn_known}

-- ---- the processor stays

-- one that keeps it, and then another
pub keeps_more : {B : Type 0} (old mid new : Cpu B) → KeepsProcessor old mid → KeepsProcessor mid new → KeepsProcessor old new
keeps_more old mid new a b = record { number = b.number ∙ a.number; layout = b.layout ∙ a.layout; initial = b.initial ∙ a.initial }

-- another bank and another mark alone
pub keeps_cpu : {B : Type 0} (old new : Cpu B) → KeepsCpu old new → KeepsProcessor old new
keeps_cpu {B} old new keeps = record {
  number = ap (λ (x : Cpu B). x.number) keeps;
  layout = ap (λ (x : Cpu B). x.layout) keeps;
  initial = ap (λ (x : Cpu B). x.initial) keeps;
}

-- another bank alone
pub keeps_bank : {B : Type 0} (old new : Cpu B) → new ≡ record old { bank = new.bank } → KeepsProcessor old new
keeps_bank {B} old new keeps = record {
  number = ap (λ (x : Cpu B). x.number) keeps;
  layout = ap (λ (x : Cpu B). x.layout) keeps;
  initial = ap (λ (x : Cpu B). x.initial) keeps;
}

-- where a line didn't run
pub keeps_halted : {B : Type 0} (user : Bool) (command : Command) (close : Close) (old new : Task) (before after : Cpu B) (bank_before bank_after : banks.Bank) → Halted user command close old new before after bank_before bank_after → KeepsProcessor before after
keeps_halted user command (closes.Refused error) old new before after bank_before bank_after halted = keeps_cpu before after halted.cpu
keeps_halted user command closes.Trap old new before after bank_before bank_after halted = keeps_bank before after halted.cpu
keeps_halted user command other old new before after bank_before bank_after halted = absurd halted

-- ---- a turn comes back

-- the first of a turn's lines may run
pub some_running : {B : Type 0} (script : Script) (board : Board) (turn : Turn) (cpu : Cpu B) (bank : banks.Bank) → IsRun script board → NeverIdle → IsAt script board turn.cpu (Some turn) cpu bank → SomeRunning script [] turn.task cpu bank
some_running script board turn cpu bank run idle at = record {
  t = turn.task.name;
  c = turn.cpu;
  first = past_of board;
  before = bank;
  start = private_in board turn.task.name;
  private = private_in board turn.task.name;
  running = start_running script board turn.cpu turn cpu bank run idle at;
}

-- the block of the turn is one of the script's
pub known_home : {B : Type 0} (script : Script) (board : Board) (turn : Turn) (cpu : Cpu B) (bank : banks.Bank) → IsRun script board → IsAt script board turn.cpu (Some turn) cpu bank
    → length (machine script (past_of board)).blocks ≡ length script.blocks → (name : ℕ) → name ≡ turn.task.name → name < length script.blocks
known_home script board turn cpu bank run at count name is =
    let stage : stage_at (machine script (past_of board)).blocks turn.task.name ≡ stages.Turn turn.cpu 0 = rw (sym run.script_is) at.turn.stage in
    let known = turn_known script (past_of board) turn.task.name turn.cpu 0 count stage in
    subst (λ (u : ℕ). u < length script.blocks) (sym is) known

-- what a close leaves of a private task's registers is what was handed over, and its room too where it doesn't grow
record KeepsRegisters (grows : Bool) (new old : PrivateTask) : Type 0 where
  file : new.file ≡ old.file
  large : grows ≡ false → new.large ≡ old.large

same_registers : (p : PrivateTask) → KeepsRegisters false p p
same_registers p = record { file = refl; large = λ _. refl }

-- also where it puts a register set into its buffer, and where it waits
left_registers : (command : Command) (reply : Reply) (p : PrivateTask) → KeepsRegisters false (task_left command reply p) p
left_registers (commands.Wait name) reply p = by_blocked (is_blocked reply)
  where
    by_blocked : (b : Bool) → KeepsRegisters false (if b then p else next_line p) p
    by_blocked true = record { file = refl; large = λ _. refl }
    by_blocked false = record { file = refl; large = λ _. refl }
left_registers other reply p = record { file = refl; large = λ _. refl }

with_same : (set : Set) (child : Option BlockState) (p : PrivateTask) → KeepsRegisters false (with_registers set child p) p
with_same set None p = same_registers p
with_same set (Some child) p = record { file = refl; large = λ _. refl }

filled_registers : (script : Script) (blocks : List BlockState) (command : Command) (reply : Reply) (p : PrivateTask) → KeepsRegisters false (filled_by script blocks command reply p) p
filled_registers script blocks (commands.Getregs name set) reply p = by_count (is_count reply)
  where
    by_count : (b : Bool) → KeepsRegisters false (if b then with_registers set (slice_get blocks (block_named script name)) p else p) p
    by_count true = with_same set (slice_get blocks (block_named script name)) p
    by_count false = same_registers p
filled_registers script blocks other reply p = same_registers p

line_registers : (script : Script) (blocks : List BlockState) (command : Option Command) (reply : Reply) (p : PrivateTask) → KeepsRegisters false (line_closed script blocks command reply p) p
line_registers script blocks None reply p = same_registers p
line_registers script blocks (Some command) reply p =
    let filled = filled_registers script blocks command reply p in
    let left = left_registers command reply (filled_by script blocks command reply p) in
    record { file = left.file ∙ filled.file; large = λ same. left.large same ∙ filled.large same }

-- a line that traps makes the task grow, where it doesn't kill it
abbrev grows_by : Close → Option Why → Bool
grows_by closes.Trap fate = is_none fate
grows_by other fate = false

trap_registers : (fate : Option Why) (p : PrivateTask) → KeepsRegisters (is_none fate) (trap_closed fate p) p
trap_registers None p = record { file = refl; large = λ no. absurd (cc) }
trap_registers (Some why) p = record { file = refl; large = λ _. refl }

closed_registers : (script : Script) (blocks : List BlockState) (t : ℕ) (close : Close) (answer : Answer) (p : PrivateTask) → KeepsRegisters (grows_by close answer.fate) (task_closed script blocks t close answer p) (task_handed close p)
closed_registers script blocks t closes.Quantum answer p = same_registers p
closed_registers script blocks t closes.Yield answer p = same_registers p
closed_registers script blocks t (closes.Outer line) answer p = line_registers script blocks (command_at script t line) answer.reply p
closed_registers script blocks t (closes.Refused error) answer p = same_registers (record p { file = refused_file p })
closed_registers script blocks t closes.Trap answer p = trap_registers answer.fate p
closed_registers script blocks t closes.End answer p = same_registers p

-- After a Grow the block has no last processor.
grown_home : (script : Script) (t : ℕ) (items : List Entry) (close : Close) (answer : Answer) (past : List Event) (i : ℕ) → grows_by close answer.fate ≡ true → last script (past_after t items close answer past) t ≡ Some i → ⊥
grown_home script t items closes.Trap answer past i grows home = by_fate answer.fate grows (ap (λ (told_events : List Event). last script told_events t) (sym (past_trap t items answer past)) ∙ home)
  where
    by_fate : (fate : Option Why) → is_none fate ≡ true → last script (trap_end t fate ∷ past_with t items past) t ≡ Some i → ⊥
    by_fate None grows home = let no : Some i ≡ None = sym home ∙ last_grown script (past_with t items past) t in cc no
    by_fate (Some why) grows home = cc grows
grown_home script t items other answer past i grows home = cc grows

-- What the board answers to a trap is no frame's kill.
pub fate_fits : (script : Script) (blocks : List BlockState) (p : PrivateTask) → may_be_fate (trap_fate script blocks p) ≡ true
fate_fits script blocks p = by_two (not p.permitted) (nat_lt (large_count blocks) script.large)
  where
    by_two : (a b : Bool) → may_be_fate (if a then Some Permission else if b then None else Some Area) ≡ true
    by_two true b = refl
    by_two false true = refl
    by_two false false = refl

-- a board that goes on is one of the same run
pub run_more : (script : Script) (old new : Board) → IsRun script old → new.script ≡ old.script → IsLegal new.script new.history → IsRun script new
run_more script old new run same legal = record {
  valid = run.valid;
  script_is = same ∙ run.script_is;
  legal = subst (λ (s : Script). IsLegal s new.history) (same ∙ run.script_is) legal;
}

module _ {B : Type 0} (script : Script) (old : Board) (turn : Turn) (task : Task) (cpu new_cpu : Cpu B) (bank new_bank : banks.Bank) (items : List Entry) (close : Close)
    (run : IsRun script old) (at : IsAt script old turn.cpu (Some turn) cpu bank)
    (lines : AreLines script turn.task.name (private_in old turn.task.name) 0 items close)
    (left : HasLeft script turn.task.name turn.cpu (past_of old) (past_after turn.task.name items close (answer_in old turn.task.name items close) (past_of old)) bank (task_handed close (task_after script turn.task.name (private_in old turn.task.name) items)) task new_cpu new_bank) where
  -- what the board asks of a turn that comes back
  pub stage_home : stage_in old task.name ≡ stages.Turn turn.cpu 0
  stage_home = ap (stage_in old) left.name ∙ at.turn.stage

  pub lines_home : AreLines old.script task.name (private_in old task.name) 0 items close
  lines_home =
      subst (λ (s : Script). AreLines s task.name (private_in old task.name) 0 items close) (sym run.script_is)
      (subst (λ (u : ℕ). AreLines script u (private_in old u) 0 items close) (sym left.name) lines)

  pub task_home : IsHome (is_user old.script task.name) old.script.layout task (private_after old task.name items close)
  task_home =
      subst (λ (s : Script). IsHome (is_user s task.name) s.layout task (parked (task_handed close (task_after s task.name (private_in old task.name) items)))) (sym run.script_is)
      (subst (λ (u : ℕ). IsHome (is_user script u) script.layout task (parked (task_handed close (task_after script u (private_in old u) items)))) (sym left.name) left.home)

  pub last_home : is_user old.script task.name ≡ true → task.last ≡ Some turn.cpu
  last_home user = left.last_is (ap (is_user script) (sym left.name) ∙ ap (λ (s : Script). is_user s task.name) (sym run.script_is) ∙ user)

  module _ (new : Board) (script_same : new.script ≡ old.script) (history : new.history ≡ old.history ++ turn_events task.name items close (answer_in old task.name items close)) (legal : IsLegal new.script new.history)
      (private : private_in new task.name ≡ private_closed old task.name items close) (free : turn_on new turn.cpu ≡ None)
      (others : OthersKept task.name old new) where
    -- what the board then is
    script_new : new.script ≡ script
    script_new = script_same ∙ run.script_is

    past_new : past_of new ≡ past_after turn.task.name items close (answer_in old turn.task.name items close) (past_of old)
    past_new =
        ap (λ (told_events : List Event). reverse told_events) history
        ∙ reverse-append old.history (turn_events task.name items close (answer_in old task.name items close))
        ∙ ap (λ (u : ℕ). reverse (turn_events u items close (answer_in old u items close)) ++ past_of old) left.name

    left_new : HasLeft script turn.task.name turn.cpu (past_of old) (past_of new) bank (task_handed close (task_after script turn.task.name (private_in old turn.task.name) items)) task new_cpu new_bank
    left_new = subst (λ (past : List Event). HasLeft script turn.task.name turn.cpu (past_of old) past bank (task_handed close (task_after script turn.task.name (private_in old turn.task.name) items)) task new_cpu new_bank) (sym past_new) left

    leaves : LeavesBlocks script turn.task.name old new
    leaves u ne = subst (λ (s : Script). KeepsBlock s (past_of old) (past_of new) u) run.script_is (others u (λ e. ne (e ∙ left.name)))

    -- the registers of its private task
    private_new : private_in new turn.task.name ≡ private_closed old turn.task.name items close
    private_new = ap (private_in new) (sym left.name) ∙ private ∙ ap (λ (u : ℕ). private_closed old u items close) left.name

    registers_new : KeepsRegisters (grows_by close (answer_in old turn.task.name items close).fate) (private_in new turn.task.name) (task_handed close (task_after script turn.task.name (private_in old turn.task.name) items))
    registers_new =
        let closed = closed_registers old.script (blocks_with old turn.task.name items) turn.task.name close (answer_in old turn.task.name items close) (private_with old turn.task.name items) in
        let handed = ap (λ (s : Script). task_handed close (task_after s turn.task.name (private_in old turn.task.name) items)) run.script_is in
        record {
          file = ap (λ (p : PrivateTask). p.file) private_new ∙ closed.file ∙ ap (λ (p : PrivateTask). p.file) handed;
          large = λ same. ap (λ (p : PrivateTask). p.large) private_new ∙ closed.large same ∙ ap (λ (p : PrivateTask). p.large) handed;
        }

    -- and its room, where the processor is still its last one
    class_new : last script (past_of new) turn.task.name ≡ Some turn.cpu → (private_in new turn.task.name).large ≡ (task_handed close (task_after script turn.task.name (private_in old turn.task.name) items)).large
    class_new home = elim (cases_Bool (grows_by close (answer_in old turn.task.name items close).fate)) [
      | inl grows ↦ absurd (grown_home script turn.task.name items close (answer_in old turn.task.name items close) (past_of old) turn.cpu grows (ap (λ (past : List Event). last script past turn.task.name) (sym past_new) ∙ home))
      | inr stays ↦ registers_new.large stays
    ]

    -- it is still one of a run
    pub run_home : IsRun script new
    run_home = run_more script old new run script_same legal

    -- the processor without its turn
    pub at_home : IsAt script new turn.cpu None new_cpu new_bank
    at_home =
        came_home script turn.cpu turn.task.name old new (task_handed close (task_after script turn.task.name (private_in old turn.task.name) items)) task new_cpu bank new_bank
        left_new run.script_is script_new leaves registers_new.file class_new
        (left_new.latest ∙ ap (λ (s : Script). told.file_of (slice_get (machine s (past_of new)).blocks turn.task.name)) (sym script_new))
        at.told_is at.processor.holds free

-- ---- a turn begins

-- no handler runs in a kernel thread
root_outside : (rows : List Row) → (root_task rows).handling ≡ false
unfolding root_task
root_outside rows = refl

thread_outside : (script : Script) (past : List Event) (t : ℕ) → ThreadsQuiet → IsValid script → IsLegalPast script past → is_user script t ≡ false → (p : PrivateTask) → p ≡ task_of_state (slice_get (machine script past).blocks t) → p.handling ≡ false
thread_outside script past t threads valid legal kernel p is = by_state (slice_get (machine script past).blocks t) refl is
  where
    by_state : (block : Option BlockState) → slice_get (machine script past).blocks t ≡ block → p ≡ task_of_state block → p.handling ≡ false
    by_state None at is = ap (λ (q : PrivateTask). q.handling) is ∙ root_outside []
    by_state (Some block) at is = ap (λ (q : PrivateTask). q.handling) is ∙ (threads script past t block valid legal kernel at).1

module _ {B : Type 0} (script : Script) (old : Board) (i : ℕ) (turn : Turn) (cpu : Cpu B) (bank : banks.Bank)
    (run : IsRun script old) (threads : ThreadsQuiet) (at : IsAt script old i None cpu bank) (is : IsTurnOf old i turn) (skip : turn.how ≡ hows.Skip → (cpu.mark ≡ Some turn.task.name) × (turn.task.last ≡ Some i)) where
  -- whether it is a user task's
  user_how : is_user_how turn.how ≡ is_user script turn.task.name
  user_how = is.user ∙ ap (λ (s : Script). is_user s turn.task.name) run.script_is

  -- the task that the board handed out may begin
  pub may_begin : MayBegin cpu.layout turn bank (private_in old turn.task.name)
  may_begin = record {
    home =
        subst (λ (b : Bool). IsHome b cpu.layout turn.task (private_in old turn.task.name)) (sym is.user)
        (subst (λ (rows : List Row). IsHome (is_user old.script turn.task.name) rows turn.task (private_in old turn.task.name)) (ap (λ (s : Script). s.layout) run.script_is ∙ sym at.processor.layout) is.task.stands);
    outside = λ kernel. thread_outside script (past_of old) turn.task.name threads run.valid run.legal (sym user_how ∙ kernel) (private_in old turn.task.name) (ap (λ (s : Script). task_of_state (slice_get (machine s (past_of old)).blocks turn.task.name)) run.script_is);
    held = λ skips.
        let user : is_user old.script turn.task.name ≡ true = sym is.user ∙ ap is_user_how skips in
        at.processor.holds turn.task.name (sym at.processor.mark_is ∙ (skip skips).0)
        (ap (λ (s : Script). last s (past_of old) turn.task.name) (sym run.script_is) ∙ sym (is.task.last user) ∙ (skip skips).1);
  }

  module _ (new : Board) (begun_turn : Turn) (new_cpu : Cpu B) (new_bank : banks.Bank) (begun : Begun turn begun_turn cpu new_cpu bank new_bank)
      (keeps : OthersKeep) (script_same : new.script ≡ old.script) (history : new.history ≡ old.history ++ events.Start turn.task.name i turn.how turn.signal ∷ []) (legal : IsLegal new.script new.history)
      (stage : stage_in new turn.task.name ≡ stages.Turn i 0) (private : private_in new turn.task.name ≡ boards.begun turn.signal (private_in old turn.task.name)) (busy : turn_on new i ≡ Some turn.task.name) where
    -- the Start joins the past
    past_begun : past_of new ≡ events.Start turn.task.name i turn.how turn.signal ∷ past_of old
    past_begun = ap (λ (told_events : List Event). reverse told_events) history ∙ reverse-append old.history (events.Start turn.task.name i turn.how turn.signal ∷ [])

    run_begun : IsRun script new
    run_begun = run_more script old new run script_same legal

    leaves_begun : LeavesBlocks script turn.task.name old new
    leaves_begun u ne =
        let legal_start : IsLegalPast script (events.Start turn.task.name i turn.how turn.signal ∷ past_of old) = subst (IsLegalPast script) past_begun run_begun.legal in
        subst (λ (past : List Event). KeepsBlock script (past_of old) past u) (sym past_begun) (keeps script (past_of old) (events.Start turn.task.name i turn.how turn.signal) u run.valid legal_start (λ e. ne (sym e)))

    -- the processor with its turn
    pub at_begun : IsAt script new i (Some begun_turn) new_cpu new_bank
    at_begun =
        begun_at script i old new turn begun_turn cpu new_cpu bank new_bank at past_begun user_how may_begin begun run.script_is run_begun.script_is leaves_begun private stage busy is.cpu_is
