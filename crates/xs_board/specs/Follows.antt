-- What one processor finds of a board that others had since: they add events of their own, and leave its mark, its counts, its
-- turn and the tasks that it parked. This project's own. A past has its latest event first.
use Rattle.std.specs.Prelude.{◌≡◌, ◌≢◌, ℕ, Bool, true, List, [], ◌++◌, Option, Some}
use Rattle.xs_model.specs.declared.event.Event.{Event}
use Rattle.xs_model.specs.declared.script.Named.TheVariants.{Amx}
use Rattle.xs_model.specs.declared.stage.Stage.TheVariants.{Turn}
use Rattle.xs_model.specs.Counts.{in_section}
use Rattle.xs_model.specs.Laws.{AreElsewhere}
use Rattle.xs_model.specs.Note.{last}
use Rattle.xs_model.specs.Script.{is_user}
use Rattle.xs_board.specs.Board.{Board, past_of, stage_in, private_in, turn_on}

-- the last processor of a block
abbrev pub last_in : Board → ℕ → Option ℕ
last_in board t = last board.script (past_of board) t

-- the block's latest event is a section
abbrev pub section_in : Board → ℕ → Bool
section_in board t = in_section board.script (past_of board) t

-- The block in a turn on the processor is in it still, with the same private task.
pub record KeepsTurn (c : ℕ) (old new : Board) (t ran : ℕ) : Type 0 where
  pub stage : stage_in new t ≡ Turn c ran
  pub task : private_in new t ≡ private_in old t
  pub section : section_in new t ≡ section_in old t

-- A block whose last processor this is had it before, with the same private task.
pub record WasParked (c : ℕ) (old new : Board) (t : ℕ) : Type 0 where
  pub last_is : last_in old t ≡ Some c
  pub task : private_in new t ≡ private_in old t

-- To processor c, which saw the old board, the new one follows. The script is the same, and the history goes on with events of
-- other processors. It has the turn that it had, or none. So it finds its own turn as it left it, and what its bank may hold.
pub record Follows (c : ℕ) (old new : Board) : Type 0 where
  pub script : new.script ≡ old.script
  pub newer : List Event
  pub past : past_of new ≡ newer ++ past_of old
  pub elsewhere : AreElsewhere old.script newer (past_of old) c
  pub turn : turn_on new c ≡ turn_on old c
  pub in_turn : (t ran : ℕ) → stage_in old t ≡ Turn c ran → KeepsTurn c old new t ran
  pub parked : (t : ℕ) → last_in new t ≡ Some c → WasParked c old new t

-- Processor d may make the new board of the old one: to each other processor it follows.
abbrev pub Next : ℕ → Board → Board → Type 0
Next d old new = (c : ℕ) → d ≢ c → Follows c old new

-- The user task has its turn on the processor.
pub record Runs (c : ℕ) (board : Board) (t : ℕ) : Type 0 where
  pub turn : turn_on board c ≡ Some t
  pub user : is_user board.script t ≡ true

-- Some board: it stands where nothing is known of one.
abbrev pub blank : Board
blank = record {
  script = record { machine = Amx; layout = []; cpus = 0; quantum = 0; large = 0; sched = []; blocks = [] };
  history = [];
  home = [];
  pool = record { rows = []; small = record { out = 0; capacity = 0 }; large = record { out = 0; capacity = 0 }; given = 0 };
  room = 0;
}
