-- What a block needs so that its turn goes on, and which effects keep it.
use Rattle.std.proofs.Common.{◌≡◌, ℕ, zero, suc, ◌+◌, ◌<◌, Bool, true, false, not, ◌&&◌, List, [], ◌∷◌, length, map, refl, sym, ap, ◌∙◌, subst, inl, inr, ◌⊎◌, ⊎_elim, arith}
use Rattle.std.proofs.lemmas.Bool.{cases_eq, both_ways, cases_Bool, and_parts}
use Rattle.std.proofs.lemmas.Option.{slice_get-map}
use Rattle.std.specs.Prelude.{Option, Some, None, if◌then◌else◌, slice_get, nat_lt, take}
use Rattle.std.specs.Option.{option_map}
use Rattle.xs_base.specs.declared.words.Set.{Set}
use Rattle.xs_base.specs.declared.words.Signo.{Signo}
use Rattle.xs_base.specs.Task.{PrivateTask, child_of}
use Rattle.xs_base.specs.Frame.{Return, Full, LegacyOnly, Refused, return_of, after_return}
use Rattle.xs_base.specs.Tile.{feature_error}
use Rattle.xs_base.specs.declared.words.Errno.{Errno}
use Rattle.xs_model.specs.declared.script.Command.{Command}
use Rattle.xs_model.specs.declared.script.Command.TheVariants as commands
use Rattle.xs_model.specs.declared.script.Block.{Block}
use Rattle.xs_model.specs.declared.script.Order.{Order}
use Rattle.xs_model.specs.declared.script.Script.{Script}
use Rattle.xs_model.specs.declared.event.Why.{Why}
use Rattle.xs_model.specs.declared.event.Reply.{Reply}
use Rattle.xs_model.specs.declared.event.Event.{Event}
use Rattle.xs_model.specs.declared.event.Event.TheVariants.{Local, Outer, End}
use Rattle.xs_model.specs.declared.stage.Stage.{Stage}
use Rattle.xs_model.specs.declared.stage.Stage.TheVariants.{Unborn, Ready, Turn, Stopped, Waiting, Ended}
use Rattle.xs_model.specs.Script.{is_outer, is_return, is_handler_from, is_handler, block_named}
use Rattle.xs_model.specs.Line.{line_at, local_reply, next_line, asked, local_after, traps, return_cause, refusal}
use Rattle.xs_model.specs.Note.{is_count}
use Rattle.xs_model.specs.State.{BlockState, Machine, changed}
use Rattle.xs_model.specs.Outer.{is_held, woken, continued, freed, bear, born, signalled, buffer_of, registers_set, buffer_filled, outer_reply, reach_of}
use Rattle.xs_model.specs.Due.{first_signal, signal_of, trap_event, local_event, place_event, due}
use Rattle.xs_model.specs.Machine.{started, goes_on, ran_in}
use Rattle.xs_model.proofs.NameLaws.{IsHandled}
use Rattle.xs_model.proofs.EventTurns.{changed_same, changed_other}
use Rattle.xs_model.proofs.ReachCosts.{SamePlace, set_keeps_place, filled_place}

-- A handler that runs has a line at the task's place, and a signal that is pending has a handler.
pub record IsFit (lines : Block) (block : BlockState) : Type 0 where
  pub handler : block.task.handling ≡ true → block.task.place < length lines.handler
  pub pending : (block.pending ≡ []) ⊎ (0 < length lines.handler)

-- ---- a fit block in a turn has a next event

-- a list has an element at each place within it
some_at : {A : Type 0} (xs : List A) (i : ℕ) → i < length xs → (x : A) × (slice_get xs i ≡ Some x)
some_at [] i within = absurd (omega arith)
some_at (x ∷ xs) zero within = (x, refl)
some_at (x ∷ xs) (suc i) within = some_at xs i (omega arith)

-- the event of a local line
local_some : (m : Machine) (t ran : ℕ) (task : PrivateTask) (order : Order) (why : Option Why) → nat_lt ran m.script.quantum ≡ true → (event : Event) × (local_event m t ran task order why ≡ Some event)
local_some m t ran task order (Some why) within = (_, refl)
local_some m t ran task order None within = (Local t order.number (local_reply task order.command), rw within refl)

-- the event of a line
line_some : (m : Machine) (t ran : ℕ) (task : PrivateTask) (order : Order) → nat_lt ran m.script.quantum ≡ true → (outer trap : Bool)
    → (event : Event) × ((if outer then Some (Outer t order.number (outer_reply m.script m.blocks t order.command)) else (if trap then Some (trap_event m t task) else local_event m t ran task order (refusal task order.command))) ≡ Some event)
line_some m t ran task order within true trap = (Outer t order.number (outer_reply m.script m.blocks t order.command), refl)
line_some m t ran task order within false true = (trap_event m t task, refl)
line_some m t ran task order within false false = local_some m t ran task order (refusal task order.command) within

-- the event at a place
place_some : (m : Machine) (t ran : ℕ) (lines : Block) (task : PrivateTask) → nat_lt ran m.script.quantum ≡ true → (task.handling ≡ true → task.place < length lines.handler) → (order : Option Order) → line_at lines task ≡ order → (event : Event) × (place_event m t ran task order ≡ Some event)
place_some m t ran lines task within inside None here = ⊎_elim
    (λ (handling : task.handling ≡ true).
    let at = some_at lines.handler task.place (inside handling) in
    let nowhere : slice_get lines.handler task.place ≡ None = rw handling at here in
    absurd (cc))
    (λ (outside : task.handling ≡ false). (End t, rw (within, outside) refl))
    (cases_Bool task.handling)
place_some m t ran lines task within inside (Some order) here = line_some m t ran task order within (is_outer order.command) (traps task order.command)

-- the event of a fit block
pub turn_goes : (m : Machine) (t cpu ran : ℕ) (state : BlockState) (lines : Block) → slice_get m.blocks t ≡ Some state → slice_get m.script.blocks t ≡ Some lines → state.stage ≡ Turn cpu ran → nat_lt ran m.script.quantum ≡ true → IsFit lines state → (event : Event) × (due m t ≡ Some event)
turn_goes m t cpu ran state lines at known stage within fit =
    let next = place_some m t ran lines state.task within fit.handler (line_at lines state.task) refl in
    (next.0, rw (at, known, stage) next.1)

-- ---- a Start and a local line keep a block fit

-- a Start
pub started_fit : (cpu : ℕ) (lines : Block) (state : BlockState) (signal : Option Signo) → signal ≡ signal_of state → IsFit lines state → IsFit lines (started cpu signal state)
started_fit cpu lines state None from fit = record { handler = fit.handler; pending = fit.pending }
started_fit cpu lines state (Some signo) from fit =
    let handler_is = has_handler state.task.handling state.pending (sym from) fit.pending in
    record { handler = λ is. handler_is; pending = inr handler_is }
  where
    has_handler : (handling : Bool) (pending : List Signo) → (if handling then None else first_signal pending) ≡ Some signo → (pending ≡ []) ⊎ (0 < length lines.handler) → 0 < length lines.handler
    has_handler true pending is or = absurd (cc)
    has_handler false [] is or = absurd (cc)
    has_handler false (first ∷ pending) is or = ⊎_elim (λ (empty : first ∷ pending ≡ []). absurd (cc)) (λ (short : 0 < length lines.handler). short) or

-- the lines of a handler from one on: after each that is no return there is another
from_more : (first : Order) (orders : List Order) → is_handler_from first orders ≡ true → (i : ℕ) (order : Order) → slice_get (first ∷ orders) i ≡ Some order → is_return order.command ≡ false → i + 1 < length (first ∷ orders)
from_more first [] is zero order at other = let same : first ≡ order = cc in absurd (both_ways (is_return order.command) other (subst (λ (o : Order). is_return o.command ≡ true) same is))
from_more first [] is (suc i) order at other = absurd (cc)
from_more first (next ∷ orders) is zero order at other = omega arith
from_more first (next ∷ orders) is (suc i) order at other =
    let parts = and_parts (not (is_outer first.command) && not (is_return first.command)) (is_handler_from next orders) is in
    let more = from_more next orders parts.1 i order at other in
    omega arith

-- so it is with all of them
pub handler_more : (handler : List Order) → is_handler handler ≡ true → (i : ℕ) (order : Order) → slice_get handler i ≡ Some order → is_return order.command ≡ false → i + 1 < length handler
handler_more [] is i order at other = absurd (cc)
handler_more (first ∷ orders) is i order at other = from_more first orders is i order at other

-- a return that isn't refused leaves the handler
return_off : (task : PrivateTask) (taken : Return) → return_cause taken ≡ None → (after_return task taken).handling ≡ false
return_off task (Full file) whole = refl
return_off task (LegacyOnly file) whole = refl
return_off task (Refused error) whole = absurd (cc)

-- so does one outside of a handler
returned_off : (task : PrivateTask) → return_cause (return_of task) ≡ None → (handling : Bool) → task.handling ≡ handling → (if handling then after_return task (return_of task) else next_line task).handling ≡ false
returned_off task whole true is = return_off task (return_of task) whole
returned_off task whole false is = is

-- a request for leave keeps the place
pub asked_same : (error : Option Errno) (task : PrivateTask) → SamePlace task (asked error task)
asked_same None task = record { handling = refl; place = refl; back = refl; large = refl }
asked_same (Some error) task = record { handling = refl; place = refl; back = refl; large = refl }

-- a local line leaves the place inside the handler
local_fit : (lines : Block) (task : PrivateTask) (command : Command) → refusal task command ≡ None → (is_return command ≡ false → task.handling ≡ true → task.place + 1 < length lines.handler) → (local_after task command).handling ≡ true → (local_after task command).place < length lines.handler
local_fit lines task commands.Sigreturn whole more handling = absurd (both_ways (local_after task commands.Sigreturn).handling (returned_off task whole task.handling refl) handling)
local_fit lines task (commands.Perm feature) whole more handling =
    let same = asked_same (feature_error task.file.rows feature) task in
    let inside = more refl (sym same.handling ∙ handling) in
    let there = same.place in
    omega arith
local_fit lines task other whole more handling = more refl handling

-- whichever way a test goes
either_fit : (l : Block) (b : Bool) (x y : BlockState) → IsFit l x → IsFit l y → IsFit l (if b then x else y)
either_fit l true x y one two = one
either_fit l false x y one two = two

-- a local line
pub ran_fit : (script : Script) (lines : Block) (state : BlockState) (order : Order) (cpu ran : ℕ) → is_handler lines.handler ≡ true → line_at lines state.task ≡ Some order → refusal state.task order.command ≡ None → IsFit lines state → IsFit lines (ran_in script order.command (Turn cpu ran) state)
ran_fit script lines state order cpu ran returns here whole fit =
    let inside = local_fit lines state.task order.command whole (λ not_return handling.
    let at : slice_get lines.handler state.task.place ≡ Some order = rw handling at here in
    handler_more lines.handler returns state.task.place order at not_return) in
    either_fit lines (goes_on script order.command ran) _ _ (record { handler = inside; pending = fit.pending }) (record { handler = inside; pending = fit.pending })

-- ---- the blocks at a place

-- fit, where there is such a block
abbrev pub Fits : Option Block → Option BlockState → Type 0
Fits None block = Unit {0}
Fits (Some lines) None = Unit {0}
Fits (Some lines) (Some block) = IsFit lines block

-- an effect keeps a block fit
abbrev KeepsFit : Option Block → (BlockState → BlockState) → Type 0
KeepsFit lines f = (l : Block) (b : BlockState) → lines ≡ Some l → IsFit l b → IsFit l (f b)

-- of a block that may not be there
fit_option : (f : BlockState → BlockState) (lines : Option Block) (block : Option BlockState) → KeepsFit lines f → Fits lines block → Fits lines (option_map f block)
fit_option f None block keeps fit = tt
fit_option f (Some lines) None keeps fit = tt
fit_option f (Some lines) (Some block) keeps fit = keeps lines block refl fit

-- an effect on each block
pub fit_map : (f : BlockState → BlockState) (lines : Option Block) (blocks : List BlockState) (v : ℕ) → KeepsFit lines f → Fits lines (slice_get blocks v) → Fits lines (slice_get (map f blocks) v)
fit_map f lines blocks v keeps fit = subst (λ (b : Option BlockState). Fits lines b) (sym (slice_get-map f blocks v)) (fit_option f lines (slice_get blocks v) keeps fit)

-- an effect on one
fit_changed : (i : ℕ) (f : BlockState → BlockState) (lines : Option Block) (blocks : List BlockState) (v : ℕ) → (i ≡ v → KeepsFit lines f) → Fits lines (slice_get blocks v) → Fits lines (slice_get (changed i f blocks) v)
fit_changed i f lines blocks v keeps fit = ⊎_elim
    (λ (same : i ≡ v).
    let at : slice_get (changed i f blocks) v ≡ option_map f (slice_get blocks v) = ap (λ (x : ℕ). slice_get (changed x f blocks) v) same ∙ changed_same v f blocks in
    subst (λ (b : Option BlockState). Fits lines b) (sym at) (fit_option f lines (slice_get blocks v) (keeps same) fit))
    (λ (other : i ≡ v → ⊥). subst (λ (b : Option BlockState). Fits lines b) (sym (changed_other i v f blocks other)) fit)
    (cases_eq i v)

-- an effect by a test
fit_if : (test : Bool) (lines : Option Block) (old new : List BlockState) (v : ℕ) → Fits lines (slice_get new v) → Fits lines (slice_get old v) → Fits lines (slice_get (if test then new else old) v)
fit_if true lines old new v one two = one
fit_if false lines old new v one two = two

-- ---- the effects on other blocks

-- who is woken
woken_fit : (t : ℕ) (l : Block) (b : BlockState) → IsFit l b → IsFit l (woken t b)
woken_fit t l b fit = record { handler = fit.handler; pending = fit.pending }

-- who is freed
pub freed_fit : (t : ℕ) (l : Block) (b : BlockState) → IsFit l b → IsFit l (freed t b)
freed_fit t l b fit = record { handler = fit.handler; pending = fit.pending }

-- who goes on
continued_fit : (l : Block) (b : BlockState) → IsFit l b → IsFit l (continued b)
continued_fit l b fit = record { handler = fit.handler; pending = fit.pending }

-- who is signalled, with a handler
signalled_fit : (signo : Signo) (l : Block) (b : BlockState) → 0 < length l.handler → IsFit l b → IsFit l (signalled signo b)
signalled_fit signo l b handled fit = record { handler = fit.handler; pending = inr handled }

-- a child begins outside of a handler
child_off : (parent : PrivateTask) → (child_of parent).handling ≡ false
unfolding child_of
child_off parent = refl

-- a birth by the stage
bear_fit : (t : ℕ) (l : Block) (parent : PrivateTask) (s : Stage) (b : BlockState) → IsFit l b → IsFit l (bear t parent s b)
bear_fit t l parent Unborn b fit = record { handler = λ is. absurd (both_ways (child_of parent).handling (child_off parent) is); pending = inl refl }
bear_fit t l parent Ready b fit = fit
bear_fit t l parent (Turn cpu ran) b fit = fit
bear_fit t l parent Stopped b fit = fit
bear_fit t l parent (Waiting child) b fit = fit
bear_fit t l parent Ended b fit = fit

-- a birth
born_fit : (t : ℕ) (l : Block) (parent : Option BlockState) (b : BlockState) → IsFit l b → IsFit l (born t parent b)
born_fit t l None b fit = fit
born_fit t l (Some parent) b fit = bear_fit t l parent.task b.stage b fit

-- a task that stays at its place
place_fit : (l : Block) (b : BlockState) (new : PrivateTask) → SamePlace b.task new → IsFit l b → IsFit l (record b { task = new })
place_fit l b new same fit = record { handler = λ is. let inside = fit.handler (sym same.handling ∙ is) in let there = same.place in omega arith; pending = fit.pending }

-- whose registers are set
set_fit : (count : ℕ) (set : Set) (buffer : List ℕ) (l : Block) (b : BlockState) → IsFit l b → IsFit l (registers_set set count buffer b)
set_fit count set buffer l b fit = place_fit l b _ (set_keeps_place set (take count buffer) b.task) fit

-- whose buffer is filled
filled_fit : (set : Set) (child : Option BlockState) (l : Block) (b : BlockState) → IsFit l b → IsFit l (buffer_filled set child b)
filled_fit set None l b fit = fit
filled_fit set (Some child) l b fit = place_fit l b (buffer_filled set (Some child) b).task (filled_place set (Some child) b) fit

-- the effects of an outer line that is handled
pub reach_fit : (script : Script) (t : ℕ) (command : Command) → IsHandled script command → (reply : Reply) (blocks : List BlockState) (v : ℕ) → Fits (slice_get script.blocks v) (slice_get blocks v) → Fits (slice_get script.blocks v) (slice_get (reach_of script t command reply blocks) v)
reach_fit script t (commands.Fork name) handled reply blocks v fit =
    fit_changed (block_named script name) (born t (slice_get blocks t)) (slice_get script.blocks v) blocks v (λ same l b there one. born_fit t l (slice_get blocks t) b one) fit
reach_fit script t (commands.Kill name signo) handled reply blocks v fit = fit_if (is_count reply) (slice_get script.blocks v) blocks _ v
    (fit_changed (block_named script name) (signalled signo) (slice_get script.blocks v) blocks v
    (λ same l b there one. signalled_fit signo l b (handled l (ap (slice_get script.blocks) same ∙ there)) one) fit)
    fit
reach_fit script t commands.Stop handled reply blocks v fit = fit_if (is_held reply) (slice_get script.blocks v) blocks _ v
    (fit_map (woken t) (slice_get script.blocks v) blocks v (λ l b there one. woken_fit t l b one) fit) fit
reach_fit script t (commands.Getregs name set) handled reply blocks v fit =
    let child = slice_get blocks (block_named script name) in
    fit_if (is_count reply) (slice_get script.blocks v) blocks _ v
    (fit_changed t (buffer_filled set child) (slice_get script.blocks v) blocks v (λ same l b there one. filled_fit set child l b one) fit) fit
reach_fit script t (commands.Setregs name set count) handled reply blocks v fit =
    let buffer = buffer_of (slice_get blocks t) in
    fit_if (is_count reply) (slice_get script.blocks v) blocks _ v
    (fit_changed (block_named script name) (registers_set set count buffer) (slice_get script.blocks v) blocks v (λ same l b there one. set_fit count set buffer l b one) fit) fit
reach_fit script t (commands.Cont name) handled reply blocks v fit = fit_if (is_count reply) (slice_get script.blocks v) blocks _ v
    (fit_changed (block_named script name) continued (slice_get script.blocks v) blocks v (λ same l b there one. continued_fit l b one) fit) fit
reach_fit script t other handled reply blocks v fit = fit
