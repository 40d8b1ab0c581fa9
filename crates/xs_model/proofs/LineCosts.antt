-- What a line costs: the work that its block has left falls with it.
use Rattle.std.proofs.Common.{◌≡◌, ℕ, zero, suc, ◌+◌, ◌≤◌, Bool, true, false, List, [], ◌∷◌, length, drop, refl, ap, ◌∙◌, arith}
use Rattle.std.specs.Prelude.{Option, Some, None, if◌then◌else◌, slice_get}
use Rattle.xs_base.specs.declared.words.Signo.{Signo}
use Rattle.xs_base.specs.declared.words.Errno.{Errno}
use Rattle.xs_base.specs.Task.{PrivateTask}
use Rattle.xs_base.specs.Tile.{feature_error}
use Rattle.xs_base.specs.Frame.{Return, Full, LegacyOnly, Refused, return_of, after_return}
use Rattle.xs_model.specs.declared.script.Command.{Command}
use Rattle.xs_model.specs.declared.script.Command.TheVariants as commands
use Rattle.xs_model.specs.declared.script.Block.{Block}
use Rattle.xs_model.specs.declared.script.Order.{Order}
use Rattle.xs_model.specs.declared.script.Script.{Script}
use Rattle.xs_model.specs.declared.stage.Stage.TheVariants.{Turn}
use Rattle.xs_model.specs.Line.{line_at, next_line, local_after, return_cause, refusal, asked}
use Rattle.xs_model.specs.State.{BlockState}
use Rattle.xs_model.specs.Machine.{goes_on, ran_in}
use Rattle.xs_model.proofs.Bookkeeping.{weight, weights, running, work_by, work}

-- a list from a place on begins with the element there
pub drop_at : {A : Type 0} (xs : List A) (i : ℕ) (x : A) → slice_get xs i ≡ Some x → drop i xs ≡ x ∷ drop (i + 1) xs
drop_at [] i x at = absurd (cc)
drop_at (y ∷ xs) zero x at = let same : y ≡ x = cc in ap (λ z. z ∷ xs) same
drop_at (y ∷ xs) (suc i) x at =
    let shift : suc (i + 1) ≡ suc i + 1 = omega arith in
    drop_at xs i x at ∙ ap (λ (j : ℕ). x ∷ drop j (y ∷ xs)) shift

-- each line weighs two at least
pub weight_two : (h : ℕ) (command : Command) → 2 ≤ weight h command
weight_two h (commands.Kill name signo) = omega arith
weight_two h other = omega arith

-- a line of the body
pub body_spent : (h : ℕ) (lines : Block) (task : PrivateTask) (pending : List Signo) (order : Order) → task.handling ≡ false → slice_get lines.body task.place ≡ Some order → running h lines task pending ≡ running h lines (next_line task) pending + weight h order.command
body_spent h lines task pending order outside at =
    let cut = ap (weights h) (drop_at lines.body task.place order at) in
    rw outside (omega arith)

-- a line of the handler
handler_spent : (h : ℕ) (lines : Block) (task : PrivateTask) (pending : List Signo) (order : Order) → task.handling ≡ true → slice_get lines.handler task.place ≡ Some order → running h lines task pending ≡ running h lines (next_line task) pending + 1
handler_spent h lines task pending order inside at =
    let cut = ap (length {A = Order}) (drop_at lines.handler task.place order at) in
    rw inside (omega arith)

-- a line after which the next one comes
line_spent : (h : ℕ) (lines : Block) (task : PrivateTask) (pending : List Signo) (order : Order) → line_at lines task ≡ Some order → running h lines (next_line task) pending + 1 ≤ running h lines task pending
line_spent h lines task pending order at = by_handling task.handling refl
  where
    by_handling : (handling : Bool) → task.handling ≡ handling → running h lines (next_line task) pending + 1 ≤ running h lines task pending
    by_handling true is =
        let here : slice_get lines.handler task.place ≡ Some order = rw is at at in
        let spent = handler_spent h lines task pending order is here in
        omega arith
    by_handling false is =
        let here : slice_get lines.body task.place ≡ Some order = rw is at at in
        let spent = body_spent h lines task pending order is here in
        let two = weight_two h order.command in
        omega arith

-- a return from the handler, by what is taken of the frame
return_spent : (h : ℕ) (lines : Block) (task : PrivateTask) (pending : List Signo) (order : Order) → line_at lines task ≡ Some order → task.handling ≡ true → (taken : Return) → return_cause taken ≡ None → running h lines (after_return task taken) pending + 1 ≤ running h lines task pending
return_spent h lines task pending order at is (Full file) whole =
    let here : slice_get lines.handler task.place ≡ Some order = rw is at at in
    let cut = ap (length {A = Order}) (drop_at lines.handler task.place order here) in
    rw is (omega arith)
return_spent h lines task pending order at is (LegacyOnly file) whole =
    let here : slice_get lines.handler task.place ≡ Some order = rw is at at in
    let cut = ap (length {A = Order}) (drop_at lines.handler task.place order here) in
    rw is (omega arith)
return_spent h lines task pending order at is (Refused error) whole = absurd (cc)

-- a line that is a return
returned : (h : ℕ) (lines : Block) (task : PrivateTask) (pending : List Signo) (order : Order) → line_at lines task ≡ Some order → return_cause (return_of task) ≡ None → (handling : Bool) → task.handling ≡ handling → running h lines (if handling then after_return task (return_of task) else next_line task) pending + 1 ≤ running h lines task pending
returned h lines task pending order at whole true is = return_spent h lines task pending order at is (return_of task) whole
returned h lines task pending order at whole false is = line_spent h lines task pending order at

-- a request for leave keeps the place
asked_place : (h : ℕ) (lines : Block) (task : PrivateTask) (pending : List Signo) (error : Option Errno) → running h lines (next_line (asked error task)) pending ≡ running h lines (next_line task) pending
asked_place h lines task pending None = refl
asked_place h lines task pending (Some error) = refl

-- a local line that isn't refused
local_spent : (h : ℕ) (lines : Block) (task : PrivateTask) (pending : List Signo) (order : Order) (command : Command) → line_at lines task ≡ Some order → refusal task command ≡ None → running h lines (local_after task command) pending + 1 ≤ running h lines task pending
local_spent h lines task pending order commands.Sigreturn at whole = returned h lines task pending order at whole task.handling refl
local_spent h lines task pending order (commands.Perm feature) at whole =
    let same = asked_place h lines task pending (feature_error task.file.rows feature) in
    let less = line_spent h lines task pending order at in
    omega arith
local_spent h lines task pending order other at whole = line_spent h lines task pending order at

-- what both ways of a test leave
either_work : (h : ℕ) (lines : Block) (b : Bool) (x y : BlockState) (n : ℕ) → work h lines x + 1 ≤ n → work h lines y + 1 ≤ n → work h lines (if b then x else y) + 1 ≤ n
either_work h lines true x y n one two = one
either_work h lines false x y n one two = two

-- a local line in a turn
pub ran_work : (h : ℕ) (script : Script) (lines : Block) (state : BlockState) (order : Order) (cpu ran : ℕ) → state.stage ≡ Turn cpu ran → line_at lines state.task ≡ Some order → refusal state.task order.command ≡ None → work h lines (ran_in script order.command (Turn cpu ran) state) + 1 ≤ work_by h lines state.task state.pending (Turn cpu ran)
ran_work h script lines state order cpu ran stage at whole =
    let spent = local_spent h lines state.task state.pending order order.command at whole in
    either_work h lines (goes_on script order.command ran) _ _ (work_by h lines state.task state.pending (Turn cpu ran)) spent spent
