-- What a worker finds of the board, and what it leaves there.
use Rattle.std.proofs.Common.{◌≡◌, ℕ, ◌<◌, List, ◌++◌, Option, sym, ap, ◌∙◌, subst}
use Rattle.atomic_table.specs.Seated.{TableId}
use Rattle.xs_bank.specs.declared.cpu.Cpu.{Cpu}
use Rattle.xs_bank.specs.Bank as banks
use Rattle.xs_share.specs.declared.pass.Pass.{Pass}
use Rattle.xs_share.specs.Passes.{view}
use Rattle.xs_model.specs.declared.event.Event.{Event}
use Rattle.xs_model.specs.declared.script.Script.{Script}
use Rattle.xs_model.specs.History.{IsLegal}
use Rattle.xs_model.specs.Laws.{AreElsewhere, CountsUnseen, MarkUnseen, RemainsUnseen, TurnsKnown}
use Rattle.xs_model.specs.Machine.{IsLegalPast}
use Rattle.xs_board.specs.declared.turn.Turn.{Turn}
use Rattle.xs_board.specs.Board.{Board, IsBoard, past_of}
use Rattle.xs_board.specs.Follows.{Follows}
use Rattle.xs_machine.specs.Running.{IsAt, IsRun}
use Rattle.xs_machine.specs.Threads.{HasPass, IsEntered, Stands}
use Rattle.xs_machine.proofs.Alone.{no_others}
use Rattle.xs_machine.proofs.Following.{at_kept}
use Rattle.xs_machine.proofs.Marks.{own_board}

-- a board that follows one of the run is one of the run
pub run_found : (script : Script) (c : ℕ) (last found : Board) → IsRun script last → Follows c last found → IsBoard found → IsRun script found
run_found script c last found run follows board = record {
  valid = run.valid;
  script_is = follows.script ∙ run.script_is;
  legal = subst (λ (s : Script). IsLegal s found.history) (follows.script ∙ run.script_is) board.legal;
}

-- the newer events that it has
pub newer_legal : (script : Script) (c : ℕ) (last found : Board) → (follows : Follows c last found) → IsRun script found → IsLegalPast script (follows.newer ++ past_of last)
newer_legal script c last found follows run = subst (IsLegalPast script) follows.past run.legal

module _ {B : Type 0} (name : TableId) (script : Script) (slot : Option Turn) (pass : Pass Board) (cpu : Cpu B) (bank : banks.Bank)
    (known : TurnsKnown) (counts : CountsUnseen) (marks : MarkUnseen) (remains : RemainsUnseen) (s : Stands name script slot pass cpu bank)
    (found : Board) (since : Follows (view pass).number (view pass).last found) (board : IsBoard found) where
  follows : Follows cpu.number (view pass).last found
  follows = subst (λ (c : ℕ). Follows c (view pass).last found) s.pass_is.idle.number since

  pub found_run : IsRun script found
  found_run = run_found script cpu.number (view pass).last found s.run follows board

  pub found_at : IsAt script found cpu.number slot cpu bank
  found_at = at_kept script cpu.number (view pass).last found known counts marks remains s.run found_run follows slot cpu bank s.at

  pub found_entered : IsEntered script (past_of found)
  found_entered one =
      let elsewhere : AreElsewhere script follows.newer (past_of (view pass).last) cpu.number = subst (λ (x : Script). AreElsewhere x follows.newer (past_of (view pass).last) cpu.number) s.run.script_is follows.elsewhere in
      let none = no_others script one s.run.valid known follows.newer (past_of (view pass).last) cpu.number s.known (newer_legal script cpu.number (view pass).last found follows found_run) elsewhere in
      let before = s.entered_is one in
      (before.0, follows.past ∙ ap (λ (newer : List Event). newer ++ past_of (view pass).last) none ∙ before.1)

-- a worker stands by the board that it gave
pub stands_by : {B : Type 0} (name : TableId) (script : Script) (slot : Option Turn) (c : ℕ) (board : Board) (pass : Pass Board) (cpu : Cpu B) (bank : banks.Bank)
    → cpu.number ≡ c → HasPass name c board cpu.mark pass → c < script.cpus → IsRun script board → IsAt script board c slot cpu bank → IsEntered script (past_of board) → Stands name script slot pass cpu bank
stands_by {B} name script slot c board pass cpu bank number has below run at entered_is = record {
  pass_is = subst (λ (n : ℕ). HasPass name n (view pass).last cpu.mark pass) (sym number) (own_board name c board cpu.mark pass has);
  known = subst (λ (n : ℕ). n < script.cpus) (sym number) below;
  run = subst (IsRun script) (sym has.last) run;
  at = subst (λ (b : Board). IsAt script b cpu.number slot cpu bank) (sym has.last) (subst (λ (n : ℕ). IsAt script board n slot cpu bank) (sym number) at);
  entered_is = subst (λ (b : Board). IsEntered script (past_of b)) (sym has.last) entered_is;
}

-- A board that follows what the pass last gave, also after its marks were stored.
pub since_first : (name : TableId) (c : ℕ) (first pass : Pass Board) (mark new_mark : Option ℕ) (found : Board) → HasPass name c (view first).last mark first → HasPass name c (view first).last new_mark pass
    → Follows (view pass).number (view pass).last found → Follows (view first).number (view first).last found
since_first name c first pass mark new_mark found was has since =
    subst (λ (n : ℕ). Follows n (view first).last found) (has.idle.number ∙ sym was.idle.number) (subst (λ (board : Board). Follows (view pass).number board found) has.last since)
