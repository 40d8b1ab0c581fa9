-- What a close leaves as it was of another block: its stage but for waits, stops and births, and its private task but for a birth and
-- a write of its registers.
use Rattle.std.proofs.Common.{◌≡◌, ℕ, ◌==◌, Bool, true, false, ◌&&◌, List, refl, sym, ap, ◌∙◌}
use Rattle.std.proofs.lemmas.Bool.{eqb-true}
use Rattle.std.specs.Prelude.{Option, Some, None, if◌then◌else◌, slice_get}
use Rattle.xs_base.specs.Task.{PrivateTask}
use Rattle.xs_model.specs.declared.event.Reply.{Reply}
use Rattle.xs_model.specs.declared.script.Command.{Command}
use Rattle.xs_model.specs.declared.script.Command.TheVariants.{Fork, Kill, Stop, Getregs, Setregs, Cont}
use Rattle.xs_model.specs.declared.script.Script.{Script}
use Rattle.xs_model.specs.declared.stage.Stage.{Stage}
use Rattle.xs_model.specs.declared.stage.Stage.TheVariants.{Unborn, Ready, Turn, Stopped, Waiting, Ended}
use Rattle.xs_model.specs.Effects.{reached}
use Rattle.xs_model.specs.Note.{is_count}
use Rattle.xs_model.specs.Outer as outers
use Rattle.xs_model.specs.Outer.{bear, born, freed, let_go, wake}
use Rattle.xs_model.specs.Script.{block_named}
use Rattle.xs_model.specs.State.{BlockState, is_parent}
use Rattle.xs_board.specs.declared.turn.Close.{Close}
use Rattle.xs_board.specs.declared.turn.Close.TheVariants.{Quantum, Yield, Outer, Refused, Trap, End}
use Rattle.xs_board.specs.Deed.{deed_by, deed_of, newborn}
use Rattle.xs_board.specs.Putting.{kills}
use Rattle.xs_board.specs.Turn.{Answer, close_command}
use Rattle.xs_board.proofs.Leaving.{others_by, reached_by}

-- ---- a fact of stages that doesn't tell a block that waits or is stopped from one that is ready

module _ {X : Type 0} (f : Stage → X) (waiting : (child : ℕ) → f (Waiting child) ≡ f Ready) (stopped : f Stopped ≡ f Ready) where
  wake_same : (t : ℕ) (s : Stage) → f (wake t s) ≡ f s
  wake_same t Unborn = refl
  wake_same t Ready = refl
  wake_same t (Turn cpu ran) = refl
  wake_same t Stopped = refl
  wake_same t (Waiting child) = by_test (child == t)
    where
      by_test : (b : Bool) → f (if b then Ready else Waiting child) ≡ f (Waiting child)
      by_test true = sym (waiting child)
      by_test false = refl
  wake_same t Ended = refl

  let_same : (may : Bool) (s : Stage) → f (let_go may s) ≡ f s
  let_same may Unborn = refl
  let_same may Ready = refl
  let_same may (Turn cpu ran) = refl
  let_same true Stopped = sym stopped
  let_same false Stopped = refl
  let_same may (Waiting child) = refl
  let_same may Ended = refl

  bear_same : (t : ℕ) (parent : PrivateTask) (b : BlockState) → f Unborn ≡ f Ready → f (bear t parent b.stage b).stage ≡ f b.stage
  bear_same t parent b unborn = by_stage b.stage refl
    where
      by_stage : (s : Stage) → b.stage ≡ s → f (bear t parent s b).stage ≡ f s
      by_stage Unborn is = sym unborn
      by_stage Ready is = ap f is
      by_stage (Turn cpu ran) is = ap f is
      by_stage Stopped is = ap f is
      by_stage (Waiting child) is = ap f is
      by_stage Ended is = ap f is

  born_same : (t : ℕ) (parent : Option BlockState) (b : BlockState) → f Unborn ≡ f Ready → f (born t parent b).stage ≡ f b.stage
  born_same t None b unborn = refl
  born_same t (Some parent) b unborn = bear_same t parent.task b unborn

  -- what a line leaves, where it doesn't bear the block or the fact doesn't tell
  pub reached_stage : (script : Script) (blocks : List BlockState) (t : ℕ) (command : Command) (reply : Reply) (u : ℕ) (b : BlockState) → (newborn (deed_of script command) ≡ Some u → f Unborn ≡ f Ready) → f (reached script blocks t command reply u b).stage ≡ f b.stage
  reached_stage script blocks t (Fork name) reply u b unborn = by_test (block_named script name == u) refl
    where
      by_test : (x : Bool) → (block_named script name == u) ≡ x → f (if x then born t (slice_get blocks t) b else b).stage ≡ f b.stage
      by_test true is = born_same t (slice_get blocks t) b (unborn (ap Some (eqb-true (block_named script name) u is)))
      by_test false is = refl
  reached_stage script blocks t (Kill name signo) reply u b unborn = by_test (is_count reply && (block_named script name == u))
    where
      by_test : (x : Bool) → f (if x then outers.signalled signo b else b).stage ≡ f b.stage
      by_test true = refl
      by_test false = refl
  reached_stage script blocks t Stop reply u b unborn = by_test (outers.is_held reply)
    where
      by_test : (x : Bool) → f (if x then outers.woken t b else b).stage ≡ f b.stage
      by_test true = wake_same t b.stage
      by_test false = refl
  reached_stage script blocks t (Getregs name set) reply u b unborn = by_test (is_count reply && (t == u))
    where
      by_test : (x : Bool) → f (if x then outers.buffer_filled set (slice_get blocks (block_named script name)) b else b).stage ≡ f b.stage
      by_test true = refl
      by_test false = refl
  reached_stage script blocks t (Setregs name set count) reply u b unborn = by_test (is_count reply && (block_named script name == u))
    where
      by_test : (x : Bool) → f (if x then outers.registers_set set count (outers.buffer_of (slice_get blocks t)) b else b).stage ≡ f b.stage
      by_test true = refl
      by_test false = refl
  reached_stage script blocks t (Cont name) reply u b unborn = by_test (is_count reply && (block_named script name == u))
    where
      by_test : (x : Bool) → f (if x then outers.continued b else b).stage ≡ f b.stage
      by_test true = let_same true b.stage
      by_test false = refl
  reached_stage script blocks t other reply u b unborn = refl

  -- and what a close leaves
  pub others_stage : (script : Script) (blocks : List BlockState) (t : ℕ) (close : Close) (answer : Answer) (u : ℕ) (b : BlockState) → (newborn (deed_by script (close_command script t close)) ≡ Some u → f Unborn ≡ f Ready) → f (others_by script blocks t close answer u b).stage ≡ f b.stage
  others_stage script blocks t Quantum answer u b unborn = refl
  others_stage script blocks t Yield answer u b unborn = refl
  others_stage script blocks t (Outer line) answer u b unborn = by_command (close_command script t (Outer line)) unborn
    where
      by_command : (c : Option Command) → (newborn (deed_by script c) ≡ Some u → f Unborn ≡ f Ready) → f (reached_by script blocks t c answer.reply u b).stage ≡ f b.stage
      by_command None unborn = refl
      by_command (Some command) unborn = reached_stage script blocks t command answer.reply u b unborn
  others_stage script blocks t (Refused error) answer u b unborn = let_same (is_parent b.parent t) (wake t b.stage) ∙ wake_same t b.stage
  others_stage script blocks t Trap answer u b unborn = by_fate (kills answer.fate)
    where
      by_fate : (killed : Bool) → f (if killed then freed t b else b).stage ≡ f b.stage
      by_fate true = let_same (is_parent b.parent t) (wake t b.stage) ∙ wake_same t b.stage
      by_fate false = refl
  others_stage script blocks t End answer u b unborn = let_same (is_parent b.parent t) (wake t b.stage) ∙ wake_same t b.stage

-- ---- its private task

-- the task of the child that a line bears
pub born_task : (t : ℕ) (parent : Option BlockState) (b : BlockState) → (b.stage ≡ Unborn → ⊥) → (born t parent b).task ≡ b.task
born_task t None b no_birth = refl
born_task t (Some parent) b no_birth = by_stage b.stage refl
  where
    by_stage : (s : Stage) → b.stage ≡ s → (bear t parent.task s b).task ≡ b.task
    by_stage Unborn is = absurd (no_birth is)
    by_stage Ready is = refl
    by_stage (Turn cpu ran) is = refl
    by_stage Stopped is = refl
    by_stage (Waiting child) is = refl
    by_stage Ended is = refl
