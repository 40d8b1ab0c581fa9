-- What a processor gets that asks for a turn.
use Rattle.std.specs.Prelude.{◌≡◌, ℕ, Bool, true, false, Some, None}
use Rattle.xs_base.specs.declared.words.How.{How}
use Rattle.xs_base.specs.declared.words.How.TheVariants.{Load, Skip, Kern}
use Rattle.xs_model.specs.Due.{how_of}
use Rattle.xs_model.specs.Held.{held}
use Rattle.xs_model.specs.Script.{is_user}
use Rattle.xs_board.specs.declared.turn.Turn.{Turn}
use Rattle.xs_board.specs.declared.turn.Taken.{Taken}
use Rattle.xs_board.specs.declared.turn.Taken.TheVariants as answers
use Rattle.xs_board.specs.Board.{Board, past_of, ready_of, turn_on, signal_in, IsTaskOf}
use Rattle.xs_board.specs.Starts.{IsFirst}

abbrev pub IfTurn : Taken → (Turn → Type 0) → Type 0
IfTurn (answers.Turn turn) Holds = Holds turn
IfTurn answers.Nothing Holds = Unit {0}
IfTurn answers.Done Holds = Unit {0}

abbrev pub OnNothing : Taken → Type 0 → Type 0
OnNothing (answers.Turn turn) Holds = Unit {0}
OnNothing answers.Nothing Holds = Holds
OnNothing answers.Done Holds = Unit {0}

abbrev pub OnDone : Taken → Type 0 → Type 0
OnDone (answers.Turn turn) Holds = Unit {0}
OnDone answers.Nothing Holds = Unit {0}
OnDone answers.Done Holds = Holds

-- Another processor has a turn.
pub record HasOther (board : Board) (cpu : ℕ) : Type 0 where
  pub other : ℕ
  pub apart : other ≡ cpu → ⊥
  pub task : ℕ
  pub turn : turn_on board other ≡ Some task

abbrev pub is_user_how : How → Bool
is_user_how Load = true
is_user_how Skip = true
is_user_how Kern = false

-- The turn is that of the first ready block, on this processor, with the lowest pending signal of its task where no handler runs. Its
-- task stands for the private task that the history gave it, and comes with the last processor that the history gave it. A kernel
-- thread gets no signal.
pub record IsTurnOf (old : Board) (cpu : ℕ) (turn : Turn) : Type 0 where
  pub first : IsFirst turn.task.name (ready_of old)
  pub task : IsTaskOf old turn.task.name turn.task
  pub cpu_is : turn.cpu ≡ cpu
  pub how : turn.how ≡ how_of (is_user old.script turn.task.name) (held old.script (past_of old) cpu turn.task.name)
  pub user : is_user_how turn.how ≡ is_user old.script turn.task.name
  pub signal : turn.signal ≡ signal_in old turn.task.name
  pub quiet : is_user old.script turn.task.name ≡ false → turn.signal ≡ None
