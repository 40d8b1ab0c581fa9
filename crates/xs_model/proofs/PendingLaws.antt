-- Pending signals stand in the order of their numbers, each once.
use Rattle.std.proofs.Common.{◌≡◌, ℕ, ◌<◌, ◌≤◌, ◌==◌, Bool, true, false, List, [], ◌∷◌, map, refl, sym, subst, arith}
use Rattle.std.proofs.lemmas.Bool.{ltb-true, ltb-false, eqb-false}
use Rattle.std.specs.Prelude.{Option, Some, None, if◌then◌else◌, slice_get, nat_lt}
use Rattle.std.specs.List.{AllByRecursion}
use Rattle.xs_base.specs.declared.component.Row.{Row}
use Rattle.xs_base.specs.declared.words.Set.{Set}
use Rattle.xs_base.specs.declared.words.Signo.{Signo}
use Rattle.xs_base.specs.Task.{PrivateTask}
use Rattle.xs_model.specs.declared.script.Command.{Command}
use Rattle.xs_model.specs.declared.script.Block.{Block}
use Rattle.xs_model.specs.declared.script.Script.{Script}
use Rattle.xs_model.specs.declared.event.Event.{Event}
use Rattle.xs_model.specs.declared.event.Event.TheVariants.{Start, Local, Outer, Grow, Kill, End}
use Rattle.xs_model.specs.declared.stage.Stage.{Stage}
use Rattle.xs_model.specs.declared.stage.Stage.TheVariants.{Unborn, Ready, Turn, Stopped, Waiting, Ended}
use Rattle.xs_model.specs.Script.{command_at}
use Rattle.xs_model.specs.Note.{task_of}
use Rattle.xs_model.specs.State.{BlockState, opening_block}
use Rattle.xs_model.specs.Outer.{bear, born, insert, buffer_filled, outer_own}
use Rattle.xs_model.specs.Machine.{later_signals, goes_on, ran_in, ran_line, own, reach, machine}
use Rattle.xs_model.specs.Laws.{ArePending, PendingRise}
use Rattle.xs_model.proofs.Touched.{Touched, Stays, Wakes, Frees, Continues, Signals, Takes, Fills, Bears, Alike, reach_touches}
use Rattle.xs_model.proofs.EachBlock.{all_at, all_changed}

-- ---- the order of pending signals

-- from a lower number on
lower : (low high : ℕ) (pending : List Signo) → low ≤ high → ArePending high pending → ArePending low pending
lower low high [] below rising = tt
lower low high (signo ∷ pending) below rising = let above = rising.0 in (omega arith, rising.1)

-- a signal joins at its place
pub joined : (last : ℕ) (signo : Signo) (pending : List Signo) → last < signo.number → ArePending last pending → ArePending last (insert signo pending)
joined last signo [] above rising = (above, tt)
joined last signo (other ∷ pending) above rising =
    by_place (nat_lt signo.number other.number) (signo.number == other.number) refl refl (λ (beyond : other.number < signo.number). joined other.number signo pending beyond rising.1)
  where
    by_place : (below same : Bool) → nat_lt signo.number other.number ≡ below → (signo.number == other.number) ≡ same → (other.number < signo.number → ArePending other.number (insert signo pending))
        → ArePending last (if below then signo ∷ other ∷ pending else (if same then other ∷ pending else other ∷ insert signo pending))
    by_place true same is equal rest = (above, (ltb-true signo.number other.number is, rising.1))
    by_place false true is equal rest = rising
    by_place false false is equal rest =
        let least = ltb-false signo.number other.number is in
        let apart = eqb-false signo.number other.number equal in
        (rising.0, rest (omega arith))

-- without the first
rest_rises : (pending : List Signo) → ArePending 0 pending → ArePending 0 (later_signals pending)
rest_rises [] rising = tt
rest_rises (signo ∷ pending) rising = lower 0 signo.number pending (omega arith) rising.1

-- the block's pending signals stand in order
abbrev IsRising : BlockState → Type 0
IsRising block = ArePending 0 block.pending

-- whichever way a test goes
either_rising : (test : Bool) (one other : BlockState) → IsRising one → IsRising other → IsRising (if test then one else other)
either_rising true one other a b = a
either_rising false one other a b = b

-- after a local line, by the stage
ran_rising : (script : Script) (command : Command) (s : Stage) (block : BlockState) → IsRising block → IsRising (ran_in script command s block)
ran_rising script command (Turn cpu ran) block h = either_rising (goes_on script command ran) _ _ h h
ran_rising script command Unborn block h = h
ran_rising script command Ready block h = h
ran_rising script command Stopped block h = h
ran_rising script command (Waiting child) block h = h
ran_rising script command Ended block h = h

-- the block of the event
own_rising : (script : Script) (event : Event) (block : BlockState) → IsRising block → IsRising (own script event block)
own_rising script (Start t cpu how None) block h = h
own_rising script (Start t cpu how (Some signo)) block h = rest_rises block.pending h
own_rising script (Local t line reply) block h = by_command (command_at script t line)
  where
    by_command : (command : Option Command) → IsRising (ran_line script command block)
    by_command None = h
    by_command (Some command) = ran_rising script command block.stage block h
own_rising script (Outer t line reply) block h = by_command (command_at script t line)
  where
    by_command : (command : Option Command) → IsRising (outer_own script command reply block)
    by_command None = h
    by_command (Some command) = h
own_rising script (Grow t) block h = h
own_rising script (Kill t signo why) block h = tt
own_rising script (End t) block h = tt

-- a birth by the stage
bear_rising : (t : ℕ) (parent : PrivateTask) (s : Stage) (block : BlockState) → IsRising block → IsRising (bear t parent s block)
bear_rising t parent Unborn block h = tt
bear_rising t parent Ready block h = h
bear_rising t parent (Turn cpu ran) block h = h
bear_rising t parent Stopped block h = h
bear_rising t parent (Waiting child) block h = h
bear_rising t parent Ended block h = h

-- a birth of a parent that may not be there
born_rising : (t : ℕ) (parent : Option BlockState) (block : BlockState) → IsRising block → IsRising (born t parent block)
born_rising t None block h = h
born_rising t (Some parent) block h = bear_rising t parent.task block.stage block h

-- a buffer that is filled
pub filled_pending : (set : Set) (child : Option BlockState) (block : BlockState) → (buffer_filled set child block).pending ≡ block.pending
filled_pending set None block = refl
filled_pending set (Some child) block = refl

-- a block that is touched
touched_rising : (blocks : List BlockState) (old new : BlockState) → Touched blocks old new → IsRising old → IsRising new
touched_rising blocks old new (Stays is) h = subst IsRising (sym is) h
touched_rising blocks old new (Wakes t is) h = subst IsRising (sym is) h
touched_rising blocks old new (Frees t is) h = subst IsRising (sym is) h
touched_rising blocks old new (Continues is) h = subst IsRising (sym is) h
touched_rising blocks old new (Signals signo is) h = let least = signo.in_range.0 in subst IsRising (sym is) (joined 0 signo old.pending (omega arith) h)
touched_rising blocks old new (Takes set count t is) h = subst IsRising (sym is) h
touched_rising blocks old new (Fills set child is) h = subst IsRising (sym is) (subst (λ (pending : List Signo). ArePending 0 pending) (sym (filled_pending set (slice_get blocks child) old)) h)
touched_rising blocks old new (Bears t is) h = subst IsRising (sym is) (born_rising t (slice_get blocks t) old h)

-- so is each of them
alike_rising : (blocks xs ys : List BlockState) → Alike (Touched blocks) xs ys → AllByRecursion IsRising xs → AllByRecursion IsRising ys
alike_rising blocks [] [] alike h = tt
alike_rising blocks (x ∷ xs) [] alike h = absurd alike
alike_rising blocks [] (y ∷ ys) alike h = absurd alike
alike_rising blocks (x ∷ xs) (y ∷ ys) alike h = (touched_rising blocks x y alike.0 h.0, alike_rising blocks xs ys alike.1 h.1)

-- before the first event
opening_rising : (rows : List Row) (blocks : List Block) → AllByRecursion IsRising (map (opening_block rows) blocks)
opening_rising rows [] = tt
opening_rising rows (block ∷ blocks) = (tt, opening_rising rows blocks)

-- after each past
all_rising : (script : Script) (past : List Event) → AllByRecursion IsRising (machine script past).blocks
all_rising script [] = opening_rising script.layout script.blocks
all_rising script (event ∷ past) =
    let m = machine script past in
    let mid = reach m.script event m.blocks in
    all_changed IsRising (own m.script event) (own_rising m.script event) (task_of event) mid (alike_rising m.blocks m.blocks mid (reach_touches m.script event m.blocks) (all_rising script past))

-- the law
pub pending_rise : PendingRise
pending_rise script past t block here = all_at IsRising (machine script past).blocks t block (all_rising script past) here
