-- An entry that takes a turn from the board.
use Rattle.std.proofs.Common.{◌≡◌, ℕ, Bool, true, false, ◌==◌, List, [], ◌∷◌, Option, Some, None, if◌then◌else◌, slice_get, refl, sym, ap, ◌∙◌, inl, inr, subst}
use Rattle.std.proofs.lemmas.Bool.{cases_Bool, eq-eqb}
use Rattle.xs_base.specs.Counts.{Counts, after_start}
use Rattle.xs_base.specs.File.{File, AreSameButPkru, pkru_bytes, pkru_of}
use Rattle.xs_base.specs.Task.{PrivateTask, start_pkru}
use Rattle.xs_base.proofs.FileLemmas.{part_other}
use Rattle.xs_bank.specs.declared.cpu.Cpu.{Cpu}
use Rattle.xs_bank.specs.Bank as banks
use Rattle.xs_bank.specs.Bank.{counts_of}
use Rattle.xs_bank.specs.Holds.{Holds}
use Rattle.xs_model.specs.declared.event.Event.{Event}
use Rattle.xs_model.specs.declared.event.Event.TheVariants as events
use Rattle.xs_model.specs.declared.script.Script.{Script}
use Rattle.xs_model.specs.declared.stage.Stage.TheVariants as stages
use Rattle.xs_model.specs.Counts as told
use Rattle.xs_model.specs.Counts.{in_section}
use Rattle.xs_model.specs.Laws.{KeepsBlock}
use Rattle.xs_model.specs.Runs.{NeverIdle}
use Rattle.xs_model.specs.Machine.{machine}
use Rattle.xs_model.specs.Note.{cpu_of, notes_of, mark, mark_after, last, Starts}
use Rattle.xs_model.specs.Script.{is_user}
use Rattle.xs_model.specs.State.{BlockState, stage_at, task_at, task_of_state, turn_cpu}
use Rattle.xs_switch.specs.Pkru.{given_pkru}
use Rattle.xs_task.specs.declared.task.Task.{Task}
use Rattle.xs_board.specs.declared.turn.Turn.{Turn}
use Rattle.xs_board.specs.Board.{Board, past_of, machine_in, private_in, stage_in, turn_on, KeepsTurns}
use Rattle.xs_board.specs.Board as boards
use Rattle.xs_board.specs.Taken.{is_user_how}
use Rattle.xs_board.specs.Turn.{line_of}
use Rattle.xs_machine.specs.Line.{IsOn}
use Rattle.xs_machine.specs.Running.{IsRun, IsTold, IsAt, MayBegin, Begun}
use Rattle.xs_machine.specs.Turn.{AreRunning, Continues, HasLeft}
use Rattle.xs_machine.proofs.Histories.{one_event, counts_here, mark_here, section_here, file_here, mark_user}
use Rattle.xs_machine.proofs.ScriptLemmas.{handler_stands}

-- ---- boards

-- a block that has a file is there
file_there : (block : Option BlockState) (file : File) → told.file_of block ≡ Some file → file ≡ (task_of_state block).file
file_there None file is = absurd (cc)
file_there (Some block) file is = cc

-- Each block but one stays in its turn, and a last processor that it has it had before, with the same private task.
abbrev pub LeavesBlocks : Script → ℕ → Board → Board → Type 0
LeavesBlocks script t old new = (u : ℕ) → (u ≡ t → ⊥) → KeepsBlock script (past_of old) (past_of new) u

module _ (script : Script) (t : ℕ) (old new : Board) (old_is : old.script ≡ script) (new_is : new.script ≡ script) (leaves : LeavesBlocks script t old new) where
  pub private_kept : (d u : ℕ) → (u ≡ t → ⊥) → last script (past_of new) u ≡ Some d → private_in new u ≡ private_in old u
  private_kept d u ne home =
      ap (λ (s : Script). task_at (machine s (past_of new)).blocks u) new_is
      ∙ ((leaves u ne).held d home).1
      ∙ sym (ap (λ (s : Script). task_at (machine s (past_of old)).blocks u) old_is)

-- ---- what remains

pub remains_at : (script : Script) (past : List Event) (d u : ℕ) → mark script past d ≡ Some u → told.remains script past d ≡ told.file_after script past d u
remains_at script past d u is = ap (told.remaining script past d) is

pub remains_none : (script : Script) (past : List Event) (d : ℕ) (file : File) → mark script past d ≡ None → told.remains script past d ≡ Some file → ⊥
remains_none script past d file is some = let none : told.remains script past d ≡ None = ap (told.remaining script past d) is in cc

-- ---- the processor itself

-- what a block's file is, where the latest event of the block on the processor was its latest
file_known : (script : Script) (new : Board) (i t : ℕ) (file : File) → told.file_after script (past_of new) i t ≡ told.file_of (slice_get (machine_in new).blocks t)
    → mark script (past_of new) i ≡ Some t → told.remains script (past_of new) i ≡ Some file → file ≡ (private_in new t).file
file_known script new i t file latest is some = file_there (slice_get (machine_in new).blocks t) file (sym latest ∙ sym (remains_at script (past_of new) i t is) ∙ some)

-- a kernel thread is no mark
no_mark : (script : Script) (past : List Event) (i t u : ℕ) → is_user script t ≡ false → mark script past i ≡ Some u → u ≡ t → ⊥
no_mark script past i t u kernel is same = let user = mark_user script past i u is in let h : is_user script t ≡ true = rw (sym same) user in cc

held_same : (old new : banks.Bank) (p q : PrivateTask) → new.file ≡ old.file → new.armed ≡ old.armed → q ≡ p → Holds old p → Holds new q
held_same old new p q file armed same held = rw same (record { file = rw file held.file; armed = armed ∙ held.armed })

-- ---- a turn comes back

module _ {B : Type 0} (script : Script) (i t : ℕ) (old new : Board) (p : PrivateTask) (task : Task) (cpu : Cpu B) (before bank : banks.Bank)
    (left : HasLeft script t i (past_of old) (past_of new) before p task cpu bank)
    (old_is : old.script ≡ script) (new_is : new.script ≡ script) (leaves : LeavesBlocks script t old new) (same_file : (private_in new t).file ≡ p.file) (same_class : last script (past_of new) t ≡ Some i → (private_in new t).large ≡ p.large)
    (latest : told.file_after script (past_of new) i t ≡ told.file_of (slice_get (machine_in new).blocks t))
    (was : IsTold script old i before)
    (held : (u : ℕ) → mark script (past_of old) i ≡ Some u → last script (past_of old) u ≡ Some i → Holds before (private_in old u)) where
  file_home : (u : ℕ) (file : File) → mark script (past_of new) i ≡ Some u → told.remains script (past_of new) i ≡ Some file → AreSameButPkru file bank.file
  file_home u file is some = elim (cases_Bool (is_user script t)) [
    | inl user ↦
        let own = left.own user u is in
        let mine : mark script (past_of new) i ≡ Some t = is ∙ ap Some own.0 in
        let f : file ≡ p.file = file_known script new i t file latest mine some ∙ same_file in
        rw f own.1.file
    | inr kernel ↦
        let alien = left.alien kernel u is in
        let ne = no_mark script (past_of new) i t u kernel is in
        let then_file = sym (remains_at script (past_of old) i u alien.0 ∙ sym (left.follows.others i u ne) ∙ sym (remains_at script (past_of new) i u is)) in
        rw alien.1 (was.file file (sym then_file ∙ some))
  ]

  holds_home : (u : ℕ) → mark script (past_of new) i ≡ Some u → last script (past_of new) u ≡ Some i → Holds bank (private_in new u)
  holds_home u is last = elim (cases_Bool (is_user script t)) [
    | inl user ↦
        let own = left.own user u is in
        let class = same_class (rw own.0 at last) in
        rw own.0 (record { file = rw same_file own.1.file; armed = rw (same_file, class) own.1.armed })
    | inr kernel ↦
        let alien = left.alien kernel u is in
        let ne = no_mark script (past_of new) i t u kernel is in
        held_same before bank (private_in old u) (private_in new u) alien.1 alien.2 (private_kept script t old new old_is new_is leaves i u ne last) (held u alien.0 ((leaves u ne).held i last).0)
  ]

  file_told : (m : Option ℕ) → mark script (past_of new) i ≡ m → (file : File) → told.remains script (past_of new) i ≡ Some file → AreSameButPkru file bank.file
  file_told None is file some = absurd (remains_none script (past_of new) i file is some)
  file_told (Some u) is file some = file_home u file is some

  pub came_home : turn_on new i ≡ None → IsAt script new i None cpu bank
  came_home free = record {
    told_is = record { counts = left.counts; file = file_told (mark script (past_of new) i) refl };
    processor = record { number = left.number; layout = left.layout; set_up = left.set_up; mark_is = left.mark_is; holds = holds_home };
    turn = free;
  }

-- ---- a turn begins

-- a bank that was given another PKRU
given_file : (file : File) (old new : banks.Bank) → new ≡ given_pkru old start_pkru → AreSameButPkru file old.file → AreSameButPkru file new.file
given_file file old new is same = elim (cases_Bool (pkru_of old.file == start_pkru)) [
  | inl has ↦ rw (is, has) same
  | inr other ↦ rw (is, other) (record { rows_are = same.rows_are; parts = λ c apart. part_other old.file 9 c (pkru_bytes start_pkru) apart ∙ same.parts c apart; control = same.control })
]

given_armed : (old new : banks.Bank) → new ≡ given_pkru old start_pkru → new.armed ≡ old.armed
given_armed old new is = elim (cases_Bool (pkru_of old.file == start_pkru)) [ inl has ↦ rw (is, has) refl | inr other ↦ rw (is, other) refl ]

module _ {B : Type 0} (script : Script) (i : ℕ) (old new : Board) (turn begun_turn : Turn) (cpu new_cpu : Cpu B) (before bank : banks.Bank)
    (at : IsAt script old i None cpu before)
    (past : past_of new ≡ events.Start turn.task.name i turn.how turn.signal ∷ past_of old)
    (user : is_user_how turn.how ≡ is_user script turn.task.name) (may : MayBegin cpu.layout turn before (private_in old turn.task.name))
    (begun : Begun turn begun_turn cpu new_cpu before bank)
    (old_is : old.script ≡ script) (script_is : new.script ≡ script) (leaves : LeavesBlocks script turn.task.name old new) (private : private_in new turn.task.name ≡ boards.begun turn.signal (private_in old turn.task.name)) where
  t : ℕ
  t = turn.task.name

  start : Event
  start = events.Start turn.task.name i turn.how turn.signal

  start_home : last script (events.Start turn.task.name i turn.how turn.signal ∷ past_of old) turn.task.name ≡ Some i
  start_home = rw (eq-eqb turn.task.name turn.task.name refl) refl

  pub start_continues : Continues script turn.task.name i (past_of old) (past_of new)
  start_continues = rw past (one_event script (past_of old) (events.Start turn.task.name i turn.how turn.signal) turn.task.name i refl refl)

  mark_new : mark script (past_of new) i ≡ mark_after (is_user script turn.task.name) turn.task.name (Starts i) (mark script (past_of old) i)
  mark_new = rw past (mark_here script (past_of old) (events.Start turn.task.name i turn.how turn.signal) turn.task.name i refl refl)

  latest : told.file_after script (past_of new) i turn.task.name ≡ told.file_of (slice_get (machine_in new).blocks turn.task.name)
  latest = rw (script_is, past) (file_here script (past_of old) (events.Start turn.task.name i turn.how turn.signal) turn.task.name i refl refl)

  counts_new : told.counts_of script (past_of new) i ≡ counts_of bank
  counts_new =
      ap (λ ps. told.counts_of script ps i) past
      ∙ counts_here script (past_of old) (events.Start turn.task.name i turn.how turn.signal) turn.task.name i refl refl
      ∙ ap (λ (n : Counts). told.delivery turn.signal (after_start turn.how n)) at.told_is.counts ∙ sym begun.counts

  own_mark : is_user script turn.task.name ≡ true → mark script (past_of new) i ≡ Some turn.task.name
  own_mark known = mark_new ∙ ap (λ u. mark_after u turn.task.name (Starts i) (mark script (past_of old) i)) known

  old_mark : is_user script turn.task.name ≡ false → mark script (past_of new) i ≡ mark script (past_of old) i
  old_mark kernel = mark_new ∙ ap (λ u. mark_after u turn.task.name (Starts i) (mark script (past_of old) i)) kernel

  held_new : is_user script turn.task.name ≡ true → Holds bank (private_in new turn.task.name)
  held_new known = rw private (begun.holds (user ∙ known) (private_in old turn.task.name) may)

  file_begun : (u : ℕ) (file : File) → mark script (past_of new) i ≡ Some u → told.remains script (past_of new) i ≡ Some file → AreSameButPkru file bank.file
  file_begun u file is some = elim (cases_Bool (is_user script turn.task.name)) [
    | inl known ↦ rw (file_known script new i turn.task.name file latest (own_mark known) some) (held_new known).file
    | inr kernel ↦
        let ne = no_mark script (past_of new) i turn.task.name u kernel is in
        let was = sym (old_mark kernel) ∙ is in
        let then_file = remains_at script (past_of new) i u is ∙ start_continues.others i u ne ∙ sym (remains_at script (past_of old) i u was) in
        given_file file before bank (begun.kernel (user ∙ kernel)) (at.told_is.file file (sym then_file ∙ some))
  ]

  file_told_begun : (m : Option ℕ) → mark script (past_of new) i ≡ m → (file : File) → told.remains script (past_of new) i ≡ Some file → AreSameButPkru file bank.file
  file_told_begun None is file some = absurd (remains_none script (past_of new) i file is some)
  file_told_begun (Some u) is file some = file_begun u file is some

  holds_begun : (u : ℕ) → mark script (past_of new) i ≡ Some u → last script (past_of new) u ≡ Some i → Holds bank (private_in new u)
  holds_begun u is last = elim (cases_Bool (is_user script turn.task.name)) [
    | inl known ↦ let e : Some turn.task.name ≡ Some u = sym (own_mark known) ∙ is in let same : turn.task.name ≡ u = cc in rw (sym same) (held_new known)
    | inr kernel ↦
        let ne = no_mark script (past_of new) i turn.task.name u kernel is in
        let same = begun.kernel (user ∙ kernel) in
        let held = at.processor.holds u (sym (old_mark kernel) ∙ is) ((leaves u ne).held i last).0 in
        rw (private_kept script turn.task.name old new old_is script_is leaves i u ne last) (record { file = given_file (private_in old u).file before bank same held.file; armed = given_armed before bank same ∙ held.armed })
  ]

  begun_mark : (b : Bool) → is_user script turn.task.name ≡ b → new_cpu.mark ≡ mark script (past_of new) i
  begun_mark true known = begun.mark ∙ rw (user ∙ known) (sym (own_mark known))
  begun_mark false kernel = begun.mark ∙ rw (user ∙ kernel) (at.processor.mark_is ∙ sym (old_mark kernel))

  layout_begun : new_cpu.layout ≡ script.layout
  layout_begun = ap (λ (x : Cpu B). x.layout) begun.cpu ∙ at.processor.layout

  on_begun : IsOn (is_user script begun_turn.task.name) script.layout begun_turn.task bank (private_in new begun_turn.task.name)
  on_begun =
      let P : ℕ → Type 0 = λ u. IsOn (is_user script u) script.layout begun_turn.task bank (private_in new u) in
      subst P (sym begun.name) (rw private (rw (user, at.processor.layout) at (begun.on (private_in old turn.task.name) may)))

  pub begun_at : stage_in new turn.task.name ≡ stages.Turn i 0 → turn_on new i ≡ Some turn.task.name → turn.cpu ≡ i → IsAt script new i (Some begun_turn) new_cpu bank
  begun_at stage busy cpu_is = record {
    told_is = record { counts = counts_new; file = file_told_begun (mark script (past_of new) i) refl };
    processor = record {
      number = ap (λ (x : Cpu B). x.number) begun.cpu ∙ at.processor.number;
      layout = layout_begun;
      set_up = rw at.processor.layout at begun.set_up;
      mark_is = begun_mark (is_user script turn.task.name) refl;
      holds = holds_begun;
    };
    turn = record {
      cpu_is = begun.cpu_is ∙ cpu_is;
      stage = ap (stage_in new) begun.name ∙ stage;
      busy = busy ∙ ap Some (sym begun.name);
      here = ap (cpu_of (notes_of script (past_of new))) begun.name ∙ start_continues.here;
      home = ap (last script (past_of new)) begun.name ∙ ap (λ (told_events : List Event). last script told_events turn.task.name) past ∙ start_home;
      latest = ap (told.file_after script (past_of new) i) begun.name ∙ latest ∙ ap (λ u. told.file_of (slice_get (machine_in new).blocks u)) (sym begun.name);
      fresh = ap (in_section script (past_of new)) begun.name ∙ ap (λ ps. in_section script ps turn.task.name) past ∙ section_here script (past_of old) (events.Start turn.task.name i turn.how turn.signal) turn.task.name i refl refl;
      on = on_begun;
      flag = λ known. begun.loaded (user ∙ ap (is_user script) (sym begun.name) ∙ known);
      own = λ known. own_mark (ap (is_user script) (sym begun.name) ∙ known) ∙ ap Some (sym begun.name);
    };
  }

-- ---- a turn that is kept runs

pub start_running : {B : Type 0} (script : Script) (board : Board) (i : ℕ) (turn : Turn) (cpu : Cpu B) (bank : banks.Bank) → IsRun script board → NeverIdle → IsAt script board i (Some turn) cpu bank
    → AreRunning script turn.task.name i (past_of board) bank (private_in board turn.task.name) [] (private_in board turn.task.name) turn.task cpu bank
start_running script board i turn cpu bank run idle at = record {
  run = record { task_is = refl; follow = λ more close lines. lines };
  few = run.valid.quantum.0;
  inside = λ on none.
      let stage : stage_at (machine script (past_of board)).blocks turn.task.name ≡ stages.Turn i 0 = rw (sym run.script_is) at.turn.stage in
      let handling : (task_of_state (slice_get (machine script (past_of board)).blocks turn.task.name)).handling ≡ true = rw (sym run.script_is) on in
      let last : line_of script turn.task.name (task_of_state (slice_get (machine script (past_of board)).blocks turn.task.name)) ≡ None = ap (λ (s : Script). line_of script turn.task.name (task_of_state (slice_get (machine s (past_of board)).blocks turn.task.name))) (sym run.script_is) ∙ none in
      handler_stands script (past_of board) turn.task.name i 0 (idle script (past_of board) turn.task.name i run.valid run.legal (ap turn_cpu stage)) stage handling last;
  turning = record {
    follows = record { others = λ d u apart. refl; here = at.turn.here };
    stage = λ _. rw (sym run.script_is) at.turn.stage;
    number = at.processor.number;
    layout = at.processor.layout;
    set_up = at.processor.set_up;
    name = refl;
    on = at.turn.on;
    flag = λ user. at.turn.flag user ∙ sym at.turn.fresh;
    mark_is = at.processor.mark_is;
    own = λ user. at.turn.own user ∙ ap (λ b. if b then None else Some turn.task.name) (sym at.turn.fresh);
    holds = λ user plain. at.processor.holds turn.task.name (at.turn.own user) at.turn.home;
    alien = λ kernel u is. (is, refl, refl);
    latest = at.turn.latest ∙ ap (λ s. told.file_of (slice_get (machine s (past_of board)).blocks turn.task.name)) run.script_is;
    counts = at.told_is.counts;
  };
}
