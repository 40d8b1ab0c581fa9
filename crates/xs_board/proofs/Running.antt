-- The lines of a turn as they run, one at the end.
use Rattle.std.proofs.Common.{◌≡◌, ℕ, ◌+◌, Bool, true, false, List, [], ◌∷◌, ◌++◌, refl, ap, ◌∙◌, subst, append_assoc}
use Rattle.std.specs.Prelude.{None}
use Rattle.xs_base.specs.declared.header.HeaderError.{HeaderError}
use Rattle.xs_base.specs.Task.{PrivateTask}
use Rattle.xs_model.specs.declared.script.Command.{Command}
use Rattle.xs_model.specs.declared.script.Order.{Order}
use Rattle.xs_model.specs.declared.script.Script.{Script}
use Rattle.xs_model.specs.Line.{local_after}
use Rattle.xs_model.specs.Machine.{goes_on}
use Rattle.xs_board.specs.declared.turn.Entry.{Entry}
use Rattle.xs_board.specs.declared.turn.Close.{Close}
use Rattle.xs_board.specs.declared.turn.Close.TheVariants.{End, Outer, Refused, Trap}
use Rattle.std.proofs.lemmas.List.{append-nil}
use Rattle.xs_board.specs.Turn.{AreAfter, AreLines, HaveRun, IsEntry, IsOuterLine, IsRefusedReturn, IsTrapLine, after_line, closed_by, line_of, task_after}

-- the task after two parts of a turn
task_append : (script : Script) (t : ℕ) (task : PrivateTask) (xs ys : List Entry) → task_after script t task (xs ++ ys) ≡ task_after script t (task_after script t task xs) ys
task_append script t task [] ys = refl
task_append script t task (x ∷ xs) ys = task_append script t (after_line task (line_of script t task)) xs ys

-- the turn goes on after the line
pub onward : (b : Bool) (command : Command) (entries : List Entry) (close : Close) (Lines : Type 0) → b ≡ true → Lines → AreAfter b command entries close Lines
onward true command entries close Lines on lines = lines
onward false command entries close Lines on lines = absurd (cc on)

-- it was the last one
pub over : (b : Bool) (command : Command) (Lines : Type 0) → b ≡ false → AreAfter b command [] (closed_by command) Lines
over true command Lines off = absurd (cc off)
over false command Lines off = (refl, refl)

-- the task after one line more
pub one_more_task : (script : Script) (t : ℕ) (first : PrivateTask) (entries : List Entry) (task : PrivateTask) (ran : ℕ) (entry : Entry) (order : Order) → HaveRun script t first entries task ran → IsEntry script t task entry order → task_after script t first (entries ++ entry ∷ []) ≡ local_after task order.command
one_more_task script t first entries task ran entry order run is =
    task_append script t first entries (entry ∷ []) ∙ ap (λ (x : PrivateTask). task_after script t x (entry ∷ [])) run.task_is ∙ ap (after_line task) is.at

-- one line more, and the turn goes on
pub one_more : (script : Script) (t : ℕ) (first : PrivateTask) (entries : List Entry) (task : PrivateTask) (ran : ℕ) (entry : Entry) (order : Order) → HaveRun script t first entries task ran → IsEntry script t task entry order → goes_on script order.command ran ≡ true → HaveRun script t first (entries ++ entry ∷ []) (local_after task order.command) (ran + 1)
one_more script t first entries task ran entry order run is on = record {
  task_is = one_more_task script t first entries task ran entry order run is;
  follow = λ more close are. rw (append_assoc entries (entry ∷ []) more) (run.follow (entry ∷ more) close (order, is, onward (goes_on script order.command ran) order.command more close (AreLines script t (local_after task order.command) (ran + 1) more close) on are));
}

-- one line more, the last
pub last_one : (script : Script) (t : ℕ) (first : PrivateTask) (entries : List Entry) (task : PrivateTask) (ran : ℕ) (entry : Entry) (order : Order) → HaveRun script t first entries task ran → IsEntry script t task entry order → goes_on script order.command ran ≡ false → AreLines script t first 0 (entries ++ entry ∷ []) (closed_by order.command)
last_one script t first entries task ran entry order run is off =
    run.follow (entry ∷ []) (closed_by order.command) (order, is, over (goes_on script order.command ran) order.command (AreLines script t (local_after task order.command) (ran + 1) [] (closed_by order.command)) off)

-- the next line is outer
pub at_outer : (script : Script) (t : ℕ) (first : PrivateTask) (entries : List Entry) (task : PrivateTask) (ran line : ℕ) (order : Order) → HaveRun script t first entries task ran → IsOuterLine script t task line order → AreLines script t first 0 entries (Outer line)
at_outer script t first entries task ran line order run is =
    subst (λ (all : List Entry). AreLines script t first 0 all (Outer line)) (append-nil entries) (run.follow [] (Outer line) (order, is))

-- the next line is a return that is refused
pub at_refused : (script : Script) (t : ℕ) (first : PrivateTask) (entries : List Entry) (task : PrivateTask) (ran : ℕ) (error : HeaderError) (order : Order) → HaveRun script t first entries task ran → IsRefusedReturn script t task error order → AreLines script t first 0 entries (Refused error)
at_refused script t first entries task ran error order run is =
    subst (λ (all : List Entry). AreLines script t first 0 all (Refused error)) (append-nil entries) (run.follow [] (Refused error) (order, is))

-- the next line traps
pub at_trap : (script : Script) (t : ℕ) (first : PrivateTask) (entries : List Entry) (task : PrivateTask) (ran : ℕ) (order : Order) → HaveRun script t first entries task ran → IsTrapLine script t task order → AreLines script t first 0 entries Trap
at_trap script t first entries task ran order run is =
    subst (λ (all : List Entry). AreLines script t first 0 all Trap) (append-nil entries) (run.follow [] Trap (order, is))

-- no line is left
pub at_end : (script : Script) (t : ℕ) (first : PrivateTask) (entries : List Entry) (task : PrivateTask) (ran : ℕ) → HaveRun script t first entries task ran → line_of script t task ≡ None → task.handling ≡ false → AreLines script t first 0 entries End
at_end script t first entries task ran run none outside =
    subst (λ (all : List Entry). AreLines script t first 0 all End) (append-nil entries) (run.follow [] End (none, outside))
