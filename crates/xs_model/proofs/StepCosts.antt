-- What a step costs that reaches no other block but by its end: a local line, a Grow, an end and a Start.
use Rattle.std.proofs.Common.{◌≡◌, ℕ, zero, suc, ◌+◌, ◌≤◌, max, Bool, true, false, List, [], ◌∷◌, map, length, refl, sym, ap, ◌∙◌, subst, arith}
use Rattle.std.proofs.lemmas.Option.{slice_get-map}
use Rattle.std.specs.Prelude.{Option, Some, None, if◌then◌else◌, slice_get, nat_lt, not, ◌&&◌}
use Rattle.std.specs.Option.{option_map}
use Rattle.xs_base.specs.declared.words.How.{How}
use Rattle.xs_base.specs.declared.words.Signo.{Signo}
use Rattle.xs_base.specs.Task.{PrivateTask}
use Rattle.xs_base.specs.Frame.{delivered}
use Rattle.xs_model.specs.declared.script.Command.{Command}
use Rattle.xs_model.specs.declared.script.Block.{Block}
use Rattle.xs_model.specs.declared.event.Reply.{Reply}
use Rattle.xs_model.specs.declared.event.Event.{Event}
use Rattle.xs_model.specs.declared.event.Event.TheVariants.{Start, Local, Grow}
use Rattle.xs_model.specs.declared.stage.Stage.{Stage}
use Rattle.xs_model.specs.declared.stage.Stage.TheVariants.{Unborn, Ready, Turn, Stopped, Waiting, Ended}
use Rattle.xs_model.specs.Script.{command_at, is_user}
use Rattle.xs_model.specs.Line.{line_at}
use Rattle.xs_model.specs.Held.{held}
use Rattle.xs_model.specs.State.{BlockState, Machine, is_ready, is_parent, has_turn, changed}
use Rattle.xs_model.specs.Outer.{wake, let_go, freed}
use Rattle.xs_model.specs.Due.{due, how_of, first_signal, signal_of, block_start, start_due}
use Rattle.xs_model.specs.Machine.{later_signals, started, goes_on, ran_in, ran_line, own, blocks_after}
use Rattle.xs_model.specs.Bound.{longest_handler}
use Rattle.xs_model.proofs.Bookkeeping.{running, work_by, work, total, is_waiting, waiters}
use Rattle.xs_model.proofs.LineNumbers.{AreLinesFound}
use Rattle.xs_model.proofs.LineCosts.{ran_work}
use Rattle.xs_model.proofs.DuePlaces.{due_inverse}
use Rattle.xs_model.proofs.DueOrders.{local_line, grow_small}
use Rattle.xs_model.proofs.DueTurns.{starting_of}
use Rattle.xs_model.proofs.BlockSums.{total_changed, total_map, waiters_changed, waiters_map, OneWaits}
use Rattle.xs_model.proofs.ReachCosts.{freed_cost, freed_wakes}

-- An event besides a Start is paid by the blocks' work, or by one waiter more.
abbrev pub Pays : ℕ → List Block → List BlockState → List BlockState → Type 0
Pays h rest old new = total h rest new + waiters old + 1 ≤ total h rest old + waiters new

-- ---- a local line

-- none waits, whichever way a test goes
quiet_if : (b : Bool) (x y : BlockState) → is_waiting x.stage ≡ 0 → is_waiting y.stage ≡ 0 → is_waiting (if b then x else y).stage ≡ 0
quiet_if true x y one two = one
quiet_if false x y one two = two

-- a local event that is due
pub local_pays : (h : ℕ) (m : Machine) (t line : ℕ) (reply : Reply) → AreLinesFound m.script → due m t ≡ Some (Local t line reply) → Pays h m.script.blocks m.blocks (blocks_after m.script (Local t line reply) m.blocks)
local_pays h m t line reply found is =
    let d = due_inverse m t (Local t line reply) is in
    let l = local_line m t d.ran t line reply d.lines d.state.task (line_at d.lines d.state.task) refl d.is in
    let command : command_at m.script t line ≡ Some l.order.command = ap (command_at m.script t) l.number ∙ found t d.lines d.state.task l.order d.known l.here in
    let f = ran_line m.script (command_at m.script t line) in
    let effect : f d.state ≡ ran_in m.script l.order.command (Turn d.cpu d.ran) d.state =
    ap (λ (c : Option Command). ran_line m.script c d.state) command ∙ ap (λ (s : Stage). ran_in m.script l.order.command s d.state) d.stage in
    let sum = total_changed h t f m.script.blocks m.blocks d.lines d.state d.known d.at in
    let wait = waiters_changed t f m.blocks d.state d.at in
    let spent = ran_work h m.script d.lines d.state l.order d.cpu d.ran d.stage l.here l.whole in
    let before : work h d.lines d.state ≡ work_by h d.lines d.state.task d.state.pending (Turn d.cpu d.ran) = ap (work_by h d.lines d.state.task d.state.pending) d.stage in
    let after : work h d.lines (f d.state) ≡ work h d.lines (ran_in m.script l.order.command (Turn d.cpu d.ran) d.state) = ap (work h d.lines) effect in
    let still : is_waiting d.state.stage ≡ 0 = ap is_waiting d.stage in
    let quiet : is_waiting (f d.state).stage ≡ 0 = ap (λ (b : BlockState). is_waiting b.stage) effect ∙ quiet_if (goes_on m.script l.order.command d.ran) _ _ refl refl in
    omega arith

-- ---- Grow

-- what a test leaves that fails
second : (b : Bool) (x y : ℕ) → b ≡ false → (if b then x else y) ≡ y
second true x y is = absurd (cc)
second false x y is = refl

-- a Grow that is due
pub grow_pays : (h : ℕ) (m : Machine) (t : ℕ) → due m t ≡ Some (Grow t) → Pays h m.script.blocks m.blocks (blocks_after m.script (Grow t) m.blocks)
grow_pays h m t is =
    let d = due_inverse m t (Grow t) is in
    let f = own m.script (Grow t) in
    let tiny : d.state.task.large ≡ false = grow_small m t d.ran t d.state.task (line_at d.lines d.state.task) d.is in
    let sum = total_changed h t f m.script.blocks m.blocks d.lines d.state d.known d.at in
    let wait = waiters_changed t f m.blocks d.state d.at in
    let before : work h d.lines d.state ≡ running h d.lines d.state.task d.state.pending = ap (work_by h d.lines d.state.task d.state.pending) d.stage in
    let one = second d.state.task.large 0 1 tiny in
    let still : is_waiting d.state.stage ≡ 0 = ap is_waiting d.stage in
    omega arith

-- ---- an end

-- an event that is due and ends its block
pub end_pays : (h : ℕ) (m : Machine) (t : ℕ) (event : Event) (f : BlockState → BlockState) → ((b : BlockState) → (f b).stage ≡ Ended) → due m t ≡ Some event → OneWaits m.blocks t → Pays h m.script.blocks m.blocks (changed t f (map (freed t) m.blocks))
end_pays h m t event f ends is alone =
    let d = due_inverse m t event is in
    let mid = map (freed t) m.blocks in
    let at : slice_get mid t ≡ Some (freed t d.state) = slice_get-map (freed t) m.blocks t ∙ ap (option_map (freed t)) d.at in
    let stage : (freed t d.state).stage ≡ Turn d.cpu d.ran = ap (λ (s : Stage). let_go (is_parent d.state.parent t) (wake t s)) d.stage in
    let less = total_map h (freed t) (freed_cost h t) m.script.blocks m.blocks in
    let sum = total_changed h t f m.script.blocks mid d.lines (freed t d.state) d.known at in
    let wait = waiters_changed t f mid (freed t d.state) at in
    let woke = waiters_map t (freed t) (freed_wakes t) m.blocks alone in
    let before : work h d.lines (freed t d.state) ≡ running h d.lines d.state.task d.state.pending = ap (work_by h d.lines d.state.task d.state.pending) stage in
    let gone : work h d.lines (f (freed t d.state)) ≡ 0 = ap (work_by h d.lines (f (freed t d.state)).task (f (freed t d.state)).pending) (ends (freed t d.state)) in
    let quiet : is_waiting (f (freed t d.state)).stage ≡ 0 = ap is_waiting (ends (freed t d.state)) in
    let still : is_waiting (freed t d.state).stage ≡ 0 = ap is_waiting stage in
    omega arith

-- ---- a Start costs nothing

-- a handler is no longer than the longest one
longest_at : (blocks : List Block) (t : ℕ) (lines : Block) → slice_get blocks t ≡ Some lines → length lines.handler ≤ longest_handler blocks
longest_at [] t lines at = absurd (cc)
longest_at (block ∷ blocks) zero lines at = let same : block ≡ lines = cc in subst (λ (b : Block). length b.handler ≤ max (length block.handler) (longest_handler blocks)) same (omega arith)
longest_at (block ∷ blocks) (suc t) lines at = let rest = longest_at blocks t lines at in omega arith

-- a delivery is paid by its signal
signal_pays : (h : ℕ) (lines : Block) (task : PrivateTask) (pending : List Signo) (signo : Signo) → length lines.handler ≤ h → (handling : Bool) → task.handling ≡ handling → (if handling then None else first_signal pending) ≡ Some signo → running h lines (delivered task) (later_signals pending) ≤ running h lines task pending
signal_pays h lines task pending signo short true is from = absurd (cc)
signal_pays h lines task [] signo short false is from = absurd (cc)
signal_pays h lines task (first ∷ pending) signo short false is from = rw is (omega arith)

-- by the signal that it carries
started_cost : (h cpu : ℕ) (lines : Block) (state : BlockState) (signal : Option Signo) → length lines.handler ≤ h → state.stage ≡ Ready → signal ≡ signal_of state → work h lines (started cpu signal state) ≤ work h lines state
started_cost h cpu lines state None short ready is = let before = ap (work_by h lines state.task state.pending) ready in omega arith
started_cost h cpu lines state (Some signo) short ready is =
    let before = ap (work_by h lines state.task state.pending) ready in
    let less = signal_pays h lines state.task state.pending signo short state.task.handling refl (sym is) in
    omega arith

-- the signal of a Start that is due
start_signal : (t cpu : ℕ) (how : How) (signal : Option Signo) (state : BlockState) (may : Bool) (real : How) → (if may then Some (Start t cpu real (signal_of state)) else None) ≡ Some (Start t cpu how signal) → signal ≡ signal_of state
start_signal t cpu how signal state true real is = cc
start_signal t cpu how signal state false real is = absurd (cc)

-- a ready stage
pub ready_is : (s : Stage) → is_ready s ≡ true → s ≡ Ready
ready_is Unborn is = absurd (cc)
ready_is Ready is = refl
ready_is (Turn cpu ran) is = absurd (cc)
ready_is Stopped is = absurd (cc)
ready_is (Waiting child) is = absurd (cc)
ready_is Ended is = absurd (cc)

-- the stage after a Start
pub started_stage : (cpu : ℕ) (signal : Option Signo) (state : BlockState) → (started cpu signal state).stage ≡ Turn cpu 0
started_stage cpu None state = refl
started_stage cpu (Some signo) state = refl

-- a block that is there has its lines
pub lines_there : (rest : List Block) (blocks : List BlockState) (t : ℕ) (state : BlockState) → length blocks ≡ length rest → slice_get blocks t ≡ Some state → (lines : Block) × (slice_get rest t ≡ Some lines)
lines_there [] [] t state many at = absurd (cc)
lines_there (l ∷ rest) [] t state many at = absurd (cc)
lines_there [] (b ∷ blocks) t state many at = absurd (omega arith)
lines_there (l ∷ rest) (b ∷ blocks) zero state many at = (l, refl)
lines_there (l ∷ rest) (b ∷ blocks) (suc t) state many at = lines_there rest blocks t state (omega arith) at

-- What a Start leaves: no more work, and as many waiters.
pub record StartCost (h : ℕ) (rest : List Block) (old new : List BlockState) : Type 0 where
  pub work : total h rest new ≤ total h rest old
  pub waiters : waiters new ≡ waiters old

-- a Start that is due
pub start_free : (h : ℕ) (m : Machine) (t cpu : ℕ) (how : How) (signal : Option Signo) → longest_handler m.script.blocks ≤ h → length m.blocks ≡ length m.script.blocks → start_due m t cpu ≡ Some (Start t cpu how signal) → StartCost h m.script.blocks m.blocks (blocks_after m.script (Start t cpu how signal) m.blocks)
start_free h m t cpu how signal short many is =
    let s = starting_of m t cpu (slice_get m.blocks t) (Start t cpu how signal) is in
    let ready = ready_is s.state.stage s.ready in
    let l = lines_there m.script.blocks m.blocks t s.state many s.here in
    let here : block_start m t cpu (Some s.state) ≡ Some (Start t cpu how signal) = ap (block_start m t cpu) (sym s.here) ∙ is in
    let from = start_signal t cpu how signal s.state (is_ready s.state.stage && nat_lt cpu m.script.cpus && not (has_turn m.blocks cpu)) (how_of (is_user m.script t) (held m.script m.past cpu t)) here in
    let low = longest_at m.script.blocks t l.0 l.1 in
    let less = started_cost h cpu l.0 s.state signal (omega arith) ready from in
    let f = started cpu signal in
    let sum = total_changed h t f m.script.blocks m.blocks l.0 s.state l.1 s.here in
    let wait = waiters_changed t f m.blocks s.state s.here in
    let was : is_waiting s.state.stage ≡ 0 = ap is_waiting ready in
    let now : is_waiting (f s.state).stage ≡ 0 = ap is_waiting (started_stage cpu signal s.state) in
    record { work = omega arith; waiters = omega arith }
