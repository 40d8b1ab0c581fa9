-- The end of a run on threads: every worker saw the whole history.
use Rattle.std.proofs.Common.{◌≡◌, ℕ, zero, suc, ◌<◌, ◌≤◌, true, List, [], ◌∷◌, ◌++◌, length, reverse, slice_index_or, slice_get, Option, Some, None, MatchOption, refl, sym, ap, ◌∙◌, subst, arith}
use Rattle.atomic_table.specs.Seated.{TableId}
use Rattle.xs_bank.specs.declared.cpu.Cpu.{Cpu}
use Rattle.xs_bank.specs.Bank as banks
use Rattle.xs_share.specs.declared.pass.Pass.{Pass}
use Rattle.xs_share.specs.Passes.{view, mark_word, EachPass, IsIdle, IsNew}
use Rattle.xs_model.specs.declared.event.Event.{Event}
use Rattle.xs_model.specs.declared.script.Script.{Script}
use Rattle.xs_model.specs.History.{IsWhole}
use Rattle.xs_model.specs.Laws.{CountsUnseen, MarkUnseen, RemainsUnseen, TurnsKnown}
use Rattle.xs_model.specs.Machine.{machine}
use Rattle.xs_model.specs.Replay.{IsReplay}
use Rattle.xs_model.specs.Script.{IsValid}
use Rattle.xs_model.specs.State.{none_lives}
use Rattle.xs_board.specs.Board.{Board, IsBoard, past_of}
use Rattle.xs_board.specs.Follows.{Follows}
use Rattle.xs_machine.specs.declared.proc.Proc.{Proc}
use Rattle.xs_machine.specs.Processors.{AreSetUp, HasRun, HaveRun, IsSetUpProc, KeepProcessors}
use Rattle.xs_machine.specs.Running.{IsAt, IsRun}
use Rattle.xs_machine.specs.Threads.{EachProc, IsDone, IsEntered, IsOver, IsReady, KeepEach, Stands}
use Rattle.xs_machine.proofs.Alone.{is_replay}
use Rattle.xs_machine.proofs.Ended.{nothing_follows}
use Rattle.xs_machine.proofs.Following.{at_kept, told_kept}
use Rattle.xs_machine.proofs.Opening.{at_opened, run_opened, told_opened}
use Rattle.xs_machine.proofs.ScriptLemmas.{get_within}
use Rattle.xs_machine.proofs.Takings.{newer_legal, run_found, stands_by}

-- ---- lists

pub get_here : {A : Type 0} (xs : List A) (i : ℕ) (d : A) → i < length xs → slice_get xs i ≡ Some (slice_index_or xs i d)
get_here [] i d within = absurd (omega (arith, within))
get_here (x ∷ xs) zero d within = refl
get_here (x ∷ xs) (suc i) d within = get_here xs i d (omega (arith, within))

pub here_is : {A : Type 0} (xs : List A) (i : ℕ) (x : A) → slice_get xs i ≡ Some x → slice_index_or xs i x ≡ x
here_is [] i x at = absurd (cc at)
here_is (y ∷ xs) zero x at = cc at
here_is (y ∷ xs) (suc i) x at = here_is xs i x at

pub head_of : {A : Type 0} (xs : List A) → 0 < length xs → A
head_of [] some = absurd (omega (arith, some))
head_of (x ∷ xs) some = x

-- ---- one worker

module _ {B : Type 0} (name : TableId) (script : Script) (known : TurnsKnown) (counts : CountsUnseen) (marks : MarkUnseen) (remains : RemainsUnseen) (result : Board) (board : IsBoard result) where
  -- What a worker whose block's turns are over knows of the board that came back.
  pub record Knows (c : ℕ) (cpu : Cpu B) (bank : banks.Bank) : Type 0 where
    pub run : IsRun script result
    pub at : IsAt script result c None cpu bank
    pub none : none_lives (machine script (past_of result)) ≡ true
    pub entered_is : IsEntered script (past_of result)

  knows : (c : ℕ) (pass : Pass Board) (cpu : Cpu B) (bank : banks.Bank) → cpu.number ≡ c → IsOver name script pass cpu bank → Follows c (view pass).last result → Knows c cpu bank
  knows c pass cpu bank number over follows =
      let s = over.stands in
      let last = (view pass).last in
      let run : IsRun script result = run_found script c last result s.run follows board in
      let none : none_lives (machine script (past_of last)) ≡ true = subst (λ (x : Script). none_lives (machine x (past_of last)) ≡ true) s.run.script_is over.none in
      let newer : follows.newer ≡ [] = nothing_follows script follows.newer (past_of last) none (newer_legal script c last result follows run) in
      let same : past_of result ≡ past_of last = follows.past ∙ ap (λ (events : List Event). events ++ past_of last) newer in
      record {
        run = run;
        at = at_kept script c last result known counts marks remains s.run run follows None cpu bank (subst (λ (n : ℕ). IsAt script last n None cpu bank) number s.at);
        none = subst (λ (past : List Event). none_lives (machine script past) ≡ true) (sym same) none;
        entered_is = subst (IsEntered script) (sym same) s.entered_is;
      }

  pub whole : (c : ℕ) (cpu : Cpu B) (bank : banks.Bank) → Knows c cpu bank → IsWhole script result.history
  whole c cpu bank k = record { legal = k.run.legal; ended = k.none }

  pub alone : (c : ℕ) (cpu : Cpu B) (bank : banks.Bank) → Knows c cpu bank → script.cpus ≡ 1 → IsReplay script result.history
  alone c cpu bank k one = is_replay script one k.run.valid known result.history k.entered_is k.none

  pub has_run : (c : ℕ) (cpu : Cpu B) (bank : banks.Bank) → Knows c cpu bank → HasRun script result.history c cpu bank
  has_run c cpu bank k = record { counts = sym k.at.told_is.counts; file = k.at.told_is.file; mark_is = λ below. k.at.processor.mark_is }

  -- ---- all of them

  done_slot : (c : ℕ) (cpu : Cpu B) (bank : banks.Bank) (slot : Option (Pass Board)) → cpu.number ≡ c → MatchOption slot ⊥ (λ pass. IsOver name script pass cpu bank) → MatchOption slot ⊥ (λ pass. Follows c (view pass).last result) → Knows c cpu bank
  done_slot c cpu bank None number done follows = absurd done
  done_slot c cpu bank (Some pass) number done follows = knows c pass cpu bank number done follows

  module _ (state : B → banks.Bank) (procs : List (Proc B)) (list : List (Option (Pass Board))) (count : length list ≡ length procs)
      (numbers : EachProc (λ c proc. proc.cpu.number ≡ c) procs) (done : EachProc (λ c proc. IsDone name script state proc) procs)
      (given : EachProc (λ c proc. slice_index_or list c None ≡ proc.pass) procs) (closed : EachPass (λ c pass. Follows c (view pass).last result) list) where
    pub each_knows : (c : ℕ) (d : Proc B) → c < length procs → Knows c (slice_index_or procs c d).cpu (state (slice_index_or procs c d).cpu.bank)
    each_knows c d within =
        let proc = slice_index_or procs c d in
        done_slot c proc.cpu (state proc.cpu.bank) proc.pass (numbers c d within) (done c d within)
        (subst (λ (slot : Option (Pass Board)). MatchOption slot ⊥ (λ pass. Follows c (view pass).last result)) (given c d within) (closed c (omega (arith, count, within))))

-- ---- the passes are back

idle_slot : {B : Type 0} (name : TableId) (script : Script) (c : ℕ) (cpu : Cpu B) (bank : banks.Bank) (slot : Option (Pass Board)) → cpu.number ≡ c → MatchOption slot ⊥ (λ pass. IsOver name script pass cpu bank) → MatchOption slot ⊥ (IsIdle name c)
idle_slot name script c cpu bank None number done = done
idle_slot name script c cpu bank (Some pass) number done = subst (λ (n : ℕ). IsIdle name n pass) number done.stands.pass_is.idle

pub all_idle : {B : Type 0} (name : TableId) (script : Script) (state : B → banks.Bank) (some : Proc B) (procs : List (Proc B)) (list : List (Option (Pass Board))) → length list ≡ length procs
    → EachProc (λ c proc. proc.cpu.number ≡ c) procs → EachProc (λ c proc. IsDone name script state proc) procs → EachProc (λ c proc. slice_index_or list c None ≡ proc.pass) procs → EachPass (IsIdle name) list
all_idle name script state some procs list count numbers done given c within =
    let inside : c < length procs = omega (arith, count, within) in
    let proc = slice_index_or procs c some in
    subst (λ (slot : Option (Pass Board)). MatchOption slot ⊥ (IsIdle name c)) (sym (given c some inside)) (idle_slot name script c proc.cpu (state proc.cpu.bank) proc.pass (numbers c some inside) (done c some inside))

-- ---- before the run

module _ {B : Type 0} (name : TableId) (script : Script) (opened : Board) (valid : IsValid script) (script_is : opened.script ≡ script) (new : opened.history ≡ []) where
  ready_slot : (c : ℕ) (cpu : Cpu B) (bank : banks.Bank) (slot : Option (Pass Board)) → c < script.cpus → IsSetUpProc script.layout c cpu bank → IsAt script opened c None cpu bank → MatchOption slot ⊥ (IsNew name opened c) → MatchOption slot ⊥ (λ pass. Stands name script None pass cpu bank)
  ready_slot c cpu bank None below up at has = has
  ready_slot c cpu bank (Some pass) below up at has =
      stands_by name script None c opened pass cpu bank up.number_is
      (record { idle = has.idle; last = has.last; word = has.mark ∙ ap mark_word (sym up.unmarked) })
      below (run_opened script opened script_is new valid) at (λ one. (0, ap (λ (history : List Event). reverse history) new))

  module _ (state : B → banks.Bank) (procs seated : List (Proc B)) (list : List (Option (Pass Board))) (many : length procs ≡ script.cpus) (count : length list ≡ script.cpus) (set_up : AreSetUp state script procs) (fresh : EachPass (IsNew name opened) list)
      (seats : (c : ℕ) (d : Proc B) → c < length procs → slice_index_or seated c d ≡ record (slice_index_or procs c d) { pass = slice_index_or list c None }) (as_many : length seated ≡ length procs) where
    pub all_ready : EachProc (λ c proc. IsReady name script state proc) seated
    all_ready c d within =
        let inside : c < length procs = omega (arith, as_many, within) in
        let below : c < script.cpus = omega (arith, many, inside) in
        let proc = slice_index_or procs c d in
        let at = get_here procs c d inside in
        let here = (at_opened script opened script_is new state [] procs tt set_up).script_has c proc below at in
        subst (IsReady name script state) (sym (seats c d inside)) (ready_slot c proc.cpu (state proc.cpu.bank) (slice_index_or list c None) below (set_up.set_up c proc below at) here (fresh c (omega (arith, count, below))))

    -- their numbers stay
    module _ (worked : List (Proc B)) (worked_many : length worked ≡ length seated) (keeps : KeepEach seated worked) where
      pub all_numbered : EachProc (λ c proc. proc.cpu.number ≡ c) worked
      all_numbered c d within =
          let there : c < length seated = omega (arith, worked_many, within) in
          let inside : c < length procs = omega (arith, as_many, there) in
          let below : c < script.cpus = omega (arith, many, inside) in
          (keeps c d there).number ∙ ap (λ (proc : Proc B). proc.cpu.number) (seats c d inside) ∙ (set_up.set_up c (slice_index_or procs c d) below (get_here procs c d inside)).number_is

      pub all_kept : (left : List (Proc B)) → ((c : ℕ) (d : Proc B) → c < length worked → slice_index_or left c d ≡ record (slice_index_or worked c d) { pass = None }) → KeepProcessors procs left
      all_kept left collected c before after old now =
          let inside = get_within procs c before old in
          let there : c < length seated = omega (arith, as_many, inside) in
          let within : c < length worked = omega (arith, worked_many, there) in
          let kept = keeps c after there in
          let before_is : slice_index_or procs c after ≡ before = let at : Some (slice_index_or procs c after) ≡ Some before = sym (get_here procs c after inside) ∙ old in cc at in
          let seat = seats c after inside in
          let from : (slice_index_or seated c after).cpu ≡ before.cpu = ap (λ (proc : Proc B). proc.cpu) seat ∙ ap (λ (proc : Proc B). proc.cpu) before_is in
          let to : (slice_index_or worked c after).cpu ≡ after.cpu = ap (λ (proc : Proc B). proc.cpu) (sym (collected c after within)) ∙ ap (λ (proc : Proc B). proc.cpu) (here_is left c after now) in
          record {
            number = ap (λ (cpu : Cpu B). cpu.number) (sym to) ∙ kept.number ∙ ap (λ (cpu : Cpu B). cpu.number) from;
            layout = ap (λ (cpu : Cpu B). cpu.layout) (sym to) ∙ kept.layout ∙ ap (λ (cpu : Cpu B). cpu.layout) from;
            initial = ap (λ (cpu : Cpu B). cpu.initial) (sym to) ∙ kept.initial ∙ ap (λ (cpu : Cpu B). cpu.initial) from;
          }

  -- what is told of a processor that the script hasn't
  pub none_run : TurnsKnown → CountsUnseen → MarkUnseen → RemainsUnseen → (result : Board) → IsBoard result → (c : ℕ) (cpu : Cpu B) (bank : banks.Bank) → script.cpus ≤ c → banks.HasCountedNothing bank → Follows c opened result → HasRun script result.history c cpu bank
  none_run known counts marks remains result board c cpu bank above none follows =
      let run = run_opened script opened script_is new valid in
      let told = told_kept script c opened result known counts marks remains run (run_found script c opened result run follows board) follows bank (told_opened script opened script_is new c bank none) in
      record { counts = sym told.counts; file = told.file; mark_is = λ below. absurd (omega (arith, above, below)) }

-- what the processors have after the passes are back
pub banks_run : {B : Type 0} (state : B → banks.Bank) (script : Script) (history : List Event) (worked left : List (Proc B)) → length left ≡ length worked
    → ((c : ℕ) (d : Proc B) → c < length worked → slice_index_or left c d ≡ record (slice_index_or worked c d) { pass = None })
    → EachProc (λ c proc. HasRun script history c proc.cpu (state proc.cpu.bank)) worked → HaveRun state script history left
banks_run {B} state script history worked left many collected each c proc is =
    let within : c < length worked = omega (arith, many, get_within left c proc is) in
    let same : (slice_index_or worked c proc).cpu ≡ proc.cpu = ap (λ (x : Proc B). x.cpu) (sym (collected c proc within)) ∙ ap (λ (x : Proc B). x.cpu) (here_is left c proc is) in
    subst (λ (cpu : Cpu B). HasRun script history c cpu (state cpu.bank)) same (each c proc within)
