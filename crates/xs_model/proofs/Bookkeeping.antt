-- What a block can still do, counted: the bookkeeping behind the bound on the events of a history. Each event but a Start
-- is paid by the work that its block has left, and a wait that blocks by one waiter more.
use Rattle.std.specs.Prelude.{ℕ, zero, suc, ◌+◌, List, [], ◌∷◌, length, drop, if◌then◌else◌}
use Rattle.xs_base.specs.declared.words.Signo.{Signo}
use Rattle.xs_base.specs.Task.{PrivateTask}
use Rattle.xs_model.specs.declared.script.Command.{Command}
use Rattle.xs_model.specs.declared.script.Command.TheVariants as commands
use Rattle.xs_model.specs.declared.script.Order.{Order}
use Rattle.xs_model.specs.declared.script.Block.{Block}
use Rattle.xs_model.specs.declared.event.Event.{Event}
use Rattle.xs_model.specs.declared.event.Event.TheVariants.{Start, Local, Outer, Grow, Kill, End}
use Rattle.xs_model.specs.declared.stage.Stage.{Stage}
use Rattle.xs_model.specs.declared.stage.Stage.TheVariants.{Unborn, Ready, Turn, Stopped, Waiting, Ended}
use Rattle.xs_model.specs.State.{BlockState}

-- ---- the work of a block

-- the most events besides Starts that a line makes, where a signal makes at most h
abbrev pub weight : ℕ → Command → ℕ
weight h (commands.Kill name signo) = 2 + h
weight h other = 2

-- those of several lines
abbrev pub weights : ℕ → List Order → ℕ
weights h [] = 0
weights h (order ∷ orders) = weight h order.command + weights h orders

-- h for each pending signal
abbrev pub times : ℕ → List Signo → ℕ
times h [] = 0
times h (signo ∷ pending) = h + times h pending

-- the task's place in its body
abbrev pub body_place : PrivateTask → ℕ
body_place task = if task.handling then task.back else task.place

-- the lines that a running handler has left
abbrev pub handler_left : Block → PrivateTask → ℕ
handler_left lines task = if task.handling then length (drop task.place lines.handler) else 0

-- the most events besides Starts that a living block still makes
abbrev pub running : ℕ → Block → PrivateTask → List Signo → ℕ
running h lines task pending = weights h (drop (body_place task) lines.body) + times h pending + handler_left lines task + (if task.large then 0 else 1) + 2

-- the most events besides Starts that a block still makes, by its stage
abbrev pub work_by : ℕ → Block → PrivateTask → List Signo → Stage → ℕ
work_by h lines task pending Unborn = weights h lines.body + 3
work_by h lines task pending Ready = running h lines task pending
work_by h lines task pending (Turn cpu ran) = running h lines task pending
work_by h lines task pending Stopped = running h lines task pending
work_by h lines task pending (Waiting child) = running h lines task pending
work_by h lines task pending Ended = 0

-- that of a block
abbrev pub work : ℕ → Block → BlockState → ℕ
work h lines block = work_by h lines block.task block.pending block.stage

-- the work of all blocks
abbrev pub total : ℕ → List Block → List BlockState → ℕ
total h [] blocks = 0
total h (lines ∷ rest) [] = 0
total h (lines ∷ rest) (block ∷ blocks) = work h lines block + total h rest blocks

-- the work of all blocks before the first event
abbrev pub budget : ℕ → List Block → ℕ
budget h [] = 0
budget h (block ∷ blocks) = weights h block.body + 3 + budget h blocks

-- ---- waiting and fresh blocks

-- one for a block that waits
abbrev pub is_waiting : Stage → ℕ
is_waiting Unborn = 0
is_waiting Ready = 0
is_waiting (Turn cpu ran) = 0
is_waiting Stopped = 0
is_waiting (Waiting child) = 1
is_waiting Ended = 0

-- how many blocks wait
abbrev pub waiters : List BlockState → ℕ
waiters [] = 0
waiters (block ∷ blocks) = is_waiting block.stage + waiters blocks

-- one for a turn that has made no Local event
abbrev pub is_fresh : Stage → ℕ
is_fresh Unborn = 0
is_fresh Ready = 0
is_fresh (Turn cpu zero) = 1
is_fresh (Turn cpu (suc ran)) = 0
is_fresh Stopped = 0
is_fresh (Waiting child) = 0
is_fresh Ended = 0

-- how many turns have made no Local event
abbrev pub fresh : List BlockState → ℕ
fresh [] = 0
fresh (block ∷ blocks) = is_fresh block.stage + fresh blocks

-- ---- events

-- one for an event that is no Start
abbrev pub is_deed : Event → ℕ
is_deed (Start t cpu how signal) = 0
is_deed (Local t line reply) = 1
is_deed (Outer t line reply) = 1
is_deed (Grow t) = 1
is_deed (Kill t signo why) = 1
is_deed (End t) = 1

-- the events besides Starts
abbrev pub deeds : List Event → ℕ
deeds [] = 0
deeds (event ∷ past) = is_deed event + deeds past
