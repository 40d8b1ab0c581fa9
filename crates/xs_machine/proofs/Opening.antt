-- Before the first round, and after the last one.
use Rattle.std.proofs.Common.{◌≡◌, ℕ, zero, suc, ◌+◌, ◌-◌, ◌<◌, ◌≤◌, false, true, List, [], ◌∷◌, map, reverse, slice_index_or, Option, Some, None, slice_get, refl, sym, ap, subst, ◌∙◌, arith}
use Rattle.std.specs.List.{AllByRecursion}
use Rattle.xs_base.specs.declared.component.Row.{Row}
use Rattle.xs_base.specs.File.{File}
use Rattle.xs_bank.specs.Bank as banks
use Rattle.xs_bank.specs.Bank.{counts_of}
use Rattle.xs_board.specs.Board.{Board, past_of, machine_in, turn_on}
use Rattle.xs_board.specs.declared.turn.Turn.{Turn}
use Rattle.xs_machine.specs.declared.proc.Proc.{Proc}
use Rattle.xs_machine.specs.Processors.{AreSetUp, HasRun, HaveRun}
use Rattle.xs_machine.specs.Running.{AreAt, IsAt, IsRun, IsTold, KeepsToSchedule}
use Rattle.xs_model.specs.Counts as told
use Rattle.xs_model.specs.declared.event.Event.{Event}
use Rattle.xs_model.specs.declared.script.Block.{Block}
use Rattle.xs_model.specs.declared.script.BlockKind.{BlockKind}
use Rattle.xs_model.specs.declared.script.BlockKind.TheVariants as kinds
use Rattle.xs_model.specs.declared.script.Script.{Script}
use Rattle.xs_model.specs.History.{IsLegal, machine_of}
use Rattle.xs_model.specs.Machine.{machine}
use Rattle.xs_model.specs.Note.{mark, last}
use Rattle.xs_model.specs.Replay.{IsReplay, entries, rounds, runner, schedule_of}
use Rattle.xs_model.specs.Script.{IsValid}
use Rattle.xs_model.specs.State.{Machine, is_on_cpu, none_lives, opening, opening_block, opening_stage, turn_cpu}

-- a number is below a bound or not
pub compare : (X : Type 0) (i n : ℕ) → (i < n → X) → (n ≤ i → X) → X
compare X i zero below above = above (omega arith)
compare X zero (suc n) below above = below (omega arith)
compare X (suc i) (suc n) below above = compare X i n (λ (l : i < n). below (omega arith)) (λ (l : n ≤ i). above (omega arith))

-- no block is in a turn at the opening
off : (kind : BlockKind) (c : ℕ) → is_on_cpu c (turn_cpu (opening_stage kind)) ≡ false
off kinds.Task c = refl
off kinds.Child c = refl
off kinds.Kthread c = refl

free_opening : (rows : List Row) (blocks : List Block) (c i : ℕ) → runner c i (map (opening_block rows) blocks) ≡ None
free_opening rows [] c i = refl
free_opening rows (block ∷ blocks) c i = rw (off block.kind c) (free_opening rows blocks c (i + 1))

-- an empty list of turns has none at any place
none_at : (turns : List (Option Turn)) (i : ℕ) → AllByRecursion (λ (slot : Option Turn). slot ≡ None) turns → slice_index_or turns i None ≡ None
none_at [] i none = refl
none_at (slot ∷ turns) zero none = none.0
none_at (slot ∷ turns) (suc i) none = none_at turns i none.1

-- the counts of a bank that has counted nothing
no_counts : (script : Script) (i : ℕ) (bank : banks.Bank) → banks.HasCountedNothing bank → told.counts_of script [] i ≡ counts_of bank
no_counts script i bank none = rw (none.execs, none.loads, none.saves) refl

-- a board before the first event
module _ (script : Script) (board : Board) (script_is : board.script ≡ script) (new : board.history ≡ []) where
  past : past_of board ≡ []
  past = ap reverse new

  opened : machine_in board ≡ opening script
  opened = ap (λ (s : Script). machine_of s board.history) script_is ∙ ap (λ (h : List Event). machine_of script h) new

  pub run_opened : IsValid script → IsRun script board
  run_opened valid = record {
    valid = valid;
    script_is = script_is;
    legal = subst (IsLegal script) (sym new) tt;
  }

  free_opened : (c : ℕ) → turn_on board c ≡ None
  free_opened c = ap (λ (m : Machine). runner c 0 m.blocks) opened ∙ free_opening script.layout script.blocks c 0

  pub schedule_opened : KeepsToSchedule script board
  schedule_opened c without = free_opened c

  pub told_opened : (i : ℕ) (bank : banks.Bank) → banks.HasCountedNothing bank → IsTold script board i bank
  told_opened i bank none = record {
    counts = ap (λ (p : List Event). told.counts_of script p i) past ∙ no_counts script i bank none;
    file = λ (file : File) (is : told.remains script (past_of board) i ≡ Some file). let e : told.remains script (past_of board) i ≡ None = ap (λ (p : List Event). told.remains script p i) past in absurd (cc (e, is));
  }

  pub at_opened : {B : Type 0} (state : B → banks.Bank) (turns : List (Option Turn)) (procs : List (Proc B)) → AllByRecursion (λ (slot : Option Turn). slot ≡ None) turns → AreSetUp state script procs → AreAt state script board turns procs
  at_opened {B} state turns procs none set_up = record {
    script_has = mine;
    beyond = λ i proc above is. told_opened i (state proc.cpu.bank) (set_up.counts i proc is);
  }
    where
      mine : (i : ℕ) (proc : Proc B) → i < script.cpus → slice_get procs i ≡ Some proc → IsAt script board i (slice_index_or turns i None) proc.cpu (state proc.cpu.bank)
      mine i proc below is =
          let up = set_up.set_up i proc below is in
          let unmarked : mark script (past_of board) i ≡ None = ap (λ (p : List Event). mark script p i) past in
          subst (λ (slot : Option Turn). IsAt script board i slot proc.cpu (state proc.cpu.bank)) (sym (none_at turns i none)) (record {
            told_is = told_opened i (state proc.cpu.bank) (set_up.counts i proc is);
            processor = record {
              number = up.number_is;
              layout = up.layout;
              set_up = up.set_up;
              mark_is = up.unmarked ∙ sym unmarked;
              holds = λ (u : ℕ) (own : mark script (past_of board) i ≡ Some u) (home : last script (past_of board) u ≡ Some i). absurd (cc (unmarked, own));
            };
            turn = free_opened i;
          })

-- no round yet, and one more
pub rounds_none : (script : Script) → [] ≡ rounds script 0
unfolding rounds
rounds_none script = refl

pub rounds_more : (script : Script) (n : ℕ) → entries script (rounds script n) (schedule_of script.cpus script.sched) ≡ rounds script (suc n)
unfolding rounds
rounds_more script n = refl

pub replay_opened : (script : Script) (board : Board) → board.history ≡ [] → past_of board ≡ rounds script 0
replay_opened script board new = ap reverse new ∙ rounds_none script

-- with one event more at least fewer are left
pub fewer_left : (most old new : ℕ) → old < new → new ≤ most → most - new < most - old
fewer_left most old new more few = omega arith

-- where no block lives after a round, the history is the replay
pub replay_over : (script : Script) (board : Board) (history : List Event) (n : ℕ) → history ≡ board.history → IsRun script board → past_of board ≡ rounds script n → none_lives (machine_in board) ≡ true → IsReplay script history
replay_over script board history n same run past none = record {
  count = n;
  is = ap reverse same ∙ past;
  ended = subst (λ (p : List Event). none_lives (machine script p) ≡ true) past (subst (λ (s : Script). none_lives (machine s (past_of board)) ≡ true) run.script_is none);
}

-- what the history tells of each bank
pub banks_over : {B : Type 0} (state : B → banks.Bank) (script : Script) (board : Board) (history : List Event) (turns : List (Option Turn)) (procs : List (Proc B)) → history ≡ board.history → AreAt state script board turns procs → HaveRun state script history procs
banks_over {B} state script board history turns procs same at i proc is =
    subst (λ (h : List Event). HasRun script h i proc.cpu (state proc.cpu.bank)) (sym same)
    (compare (HasRun script board.history i proc.cpu (state proc.cpu.bank)) i script.cpus (λ (below : i < script.cpus). mine (at.script_has i proc below is)) (λ (above : script.cpus ≤ i). beyond above (at.beyond i proc above is)))
  where
    mine : IsAt script board i (slice_index_or turns i None) proc.cpu (state proc.cpu.bank) → HasRun script board.history i proc.cpu (state proc.cpu.bank)
    mine here = record { counts = sym here.told_is.counts; file = here.told_is.file; mark_is = λ below. here.processor.mark_is }

    beyond : script.cpus ≤ i → IsTold script board i (state proc.cpu.bank) → HasRun script board.history i proc.cpu (state proc.cpu.bank)
    beyond above here = record { counts = sym here.counts; file = here.file; mark_is = λ below. absurd (omega (arith, above, below)) }
