-- A processor while others have the board: what holds of it by the board that it last saw holds by the one that it finds.
use Rattle.std.proofs.Common.{◌≡◌, ℕ, Bool, true, false, ◌&&◌, ◌==◌, List, [], ◌∷◌, ◌++◌, Option, Some, None, if◌then◌else◌, slice_get, refl, sym, ap, ◌∙◌, subst}
use Rattle.xs_base.specs.Task.{PrivateTask}
use Rattle.xs_bank.specs.declared.cpu.Cpu.{Cpu}
use Rattle.xs_bank.specs.Bank as banks
use Rattle.xs_model.specs.declared.event.Event.{Event}
use Rattle.xs_model.specs.declared.script.Script.{Script}
use Rattle.xs_model.specs.declared.stage.Stage.TheVariants as stages
use Rattle.xs_model.specs.Counts as told
use Rattle.xs_model.specs.Counts.{in_section}
use Rattle.xs_model.specs.Laws.{AreElsewhere, CountsUnseen, MarkUnseen, RemainsUnseen, TurnsKnown}
use Rattle.xs_model.specs.Machine.{machine}
use Rattle.xs_model.specs.Note.{mark, last, task_of}
use Rattle.xs_model.specs.State.{BlockState, stage_at, stage_of, task_of_state, turn_cpu}
use Rattle.xs_board.specs.declared.turn.Turn.{Turn}
use Rattle.xs_board.specs.Board.{Board, past_of, machine_in}
use Rattle.xs_board.specs.Follows.{Follows, Next, last_in, section_in}
use Rattle.xs_machine.specs.Running.{IsRun, IsTold, IsProcessor, IsTurnHeld, HasTurn, IsAt, LeavesOthers}

-- a block that is in a turn is there, and has a file
turn_there : (block : Option BlockState) (c ran : ℕ) → stage_of block ≡ stages.Turn c ran → told.file_of block ≡ Some (task_of_state block).file
turn_there None c ran is = absurd (cc)
turn_there (Some block) c ran is = refl

-- the file that a block had after its latest event on the processor
never : {A : Type 0} (b : Bool) (x y : A) → (if b && false then x else y) ≡ y
never true x y = refl
never false x y = refl

file_unseen : (script : Script) (newer past : List Event) (c t : ℕ) → AreElsewhere script newer past c → told.file_after script (newer ++ past) c t ≡ told.file_after script past c t
file_unseen script [] past c t off = refl
file_unseen script (event ∷ newer) past c t off =
    let is_off = off.1 in
    rw is_off (never (task_of event == t) _ (told.file_after script (newer ++ past) c t) ∙ file_unseen script newer past c t off.0)

module _ (script : Script) (c : ℕ) (old new : Board) (known : TurnsKnown) (counts : CountsUnseen) (marks : MarkUnseen) (remains : RemainsUnseen) (old_run : IsRun script old) (new_run : IsRun script new) (follows : Follows c old new) where
  -- no newer event is on it
  off : AreElsewhere script follows.newer (past_of old) c
  off = subst (λ (s : Script). AreElsewhere s follows.newer (past_of old) c) old_run.script_is follows.elsewhere

  -- its mark
  pub mark_kept : mark script (past_of new) c ≡ mark script (past_of old) c
  mark_kept = ap (λ (past : List Event). mark script past c) follows.past ∙ marks script follows.newer (past_of old) c off

  -- what its bank has counted and holds
  pub told_kept : (bank : banks.Bank) → IsTold script old c bank → IsTold script new c bank
  told_kept bank was = record {
    counts = ap (λ (past : List Event). told.counts_of script past c) follows.past ∙ counts script follows.newer (past_of old) c off ∙ was.counts;
    file = λ file is. was.file file (sym (ap (λ (past : List Event). told.remains script past c) follows.past ∙ remains script follows.newer (past_of old) c off) ∙ is);
  }

  -- a block's last processor, by the script of the run
  last_new : (u d : ℕ) → last script (past_of new) u ≡ Some d → last_in new u ≡ Some d
  last_new u d is = ap (λ (s : Script). last s (past_of new) u) new_run.script_is ∙ is

  last_old : (u d : ℕ) → last_in old u ≡ Some d → last script (past_of old) u ≡ Some d
  last_old u d is = ap (λ (s : Script). last s (past_of old) u) (sym old_run.script_is) ∙ is

  section_kept : (u : ℕ) → section_in new u ≡ section_in old u → in_section script (past_of new) u ≡ in_section script (past_of old) u
  section_kept u same =
      ap (λ (s : Script). in_section s (past_of new) u) (sym new_run.script_is)
      ∙ same
      ∙ ap (λ (s : Script). in_section s (past_of old) u) old_run.script_is

  -- the processor
  processor_kept : {B : Type 0} (cpu : Cpu B) (bank : banks.Bank) → IsProcessor script old c cpu bank → IsProcessor script new c cpu bank
  processor_kept cpu bank was = record {
    number = was.number;
    layout = was.layout;
    set_up = was.set_up;
    mark_is = was.mark_is ∙ sym mark_kept;
    holds = λ u is home. let parked = follows.parked u (last_new u c home) in rw parked.task (was.holds u (sym mark_kept ∙ is) (last_old u c parked.last_is));
  }

  -- its turn
  held_kept : {B : Type 0} (turn : Turn) (cpu : Cpu B) (bank : banks.Bank) → IsTurnHeld script old c turn cpu bank → IsTurnHeld script new c turn cpu bank
  held_kept turn cpu bank was =
      let u = turn.task.name in
      let keeps = follows.in_turn u 0 was.stage in
      let two = known script (past_of new) c u new_run.valid new_run.legal (ap turn_cpu (ap (λ (s : Script). stage_at (machine s (past_of new)).blocks u) (sym new_run.script_is) ∙ keeps.stage)) in
      let file = turn_there (slice_get (machine_in old).blocks u) c 0 was.stage ∙ ap (λ (p : PrivateTask). Some p.file) (sym keeps.task) ∙ sym (turn_there (slice_get (machine_in new).blocks u) c 0 keeps.stage) in
      record {
        cpu_is = was.cpu_is;
        stage = keeps.stage;
        busy = follows.turn ∙ was.busy;
        here = two.0;
        home = two.1;
        latest = ap (λ (past : List Event). told.file_after script past c u) follows.past ∙ file_unseen script follows.newer (past_of old) c u off ∙ was.latest ∙ file;
        fresh = section_kept u keeps.section ∙ was.fresh;
        on = rw keeps.task was.on;
        flag = was.flag;
        own = λ user. mark_kept ∙ was.own user;
      }

  turn_kept : {B : Type 0} (slot : Option Turn) (cpu : Cpu B) (bank : banks.Bank) → HasTurn script old c slot cpu bank → HasTurn script new c slot cpu bank
  turn_kept None cpu bank was = follows.turn ∙ was
  turn_kept (Some turn) cpu bank was = held_kept turn cpu bank was

  pub at_kept : {B : Type 0} (slot : Option Turn) (cpu : Cpu B) (bank : banks.Bank) → IsAt script old c slot cpu bank → IsAt script new c slot cpu bank
  at_kept slot cpu bank was = record { told_is = told_kept bank was.told_is; processor = processor_kept cpu bank was.processor; turn = turn_kept slot cpu bank was.turn }

-- What a processor made of the board leaves the others.
pub leaves_others : (B : Type 0) (script : Script) (i : ℕ) (old new : Board) → TurnsKnown → CountsUnseen → MarkUnseen → RemainsUnseen → IsRun script old → IsRun script new → Next i old new → LeavesOthers B script i old new
leaves_others B script i old new known counts marks remains old_run new_run next = record {
  at = λ d slot cpu bank other was. at_kept script d old new known counts marks remains old_run new_run (next d (λ (same : i ≡ d). other (sym same))) slot cpu bank was;
  told_is = λ d bank other was. told_kept script d old new known counts marks remains old_run new_run (next d (λ (same : i ≡ d). other (sym same))) bank was;
}
