-- What the events of a history mean for the banks. A past is a history with the latest event first. Two numbers follow
-- from it, as Linux keeps them: a processor's owner mark, and a task's last processor (Linux 6.6,
-- arch/x86/kernel/fpu/context.h, fpregs_state_valid: fpu_fpregs_owner_ctx and fpu.last_cpu). That a kernel section clears
-- the mark follows arch/x86/kernel/fpu/core.c, kernel_fpu_begin_mask.
use Rattle.std.specs.Prelude.{ℕ, Bool, true, false, ◌==◌, List, [], ◌∷◌, map, Option, Some, None, if◌then◌else◌}
use Rattle.xs_model.specs.declared.script.Command.{Command}
use Rattle.xs_model.specs.declared.script.Command.TheVariants as commands
use Rattle.xs_model.specs.declared.script.Script.{Script}
use Rattle.xs_model.specs.declared.event.Reply.{Reply}
use Rattle.xs_model.specs.declared.event.Reply.TheVariants as replies
use Rattle.xs_model.specs.declared.event.Event.{Event}
use Rattle.xs_model.specs.declared.event.Event.TheVariants.{Start, Local, Outer, Grow, Kill, End}
use Rattle.xs_model.specs.Script.{block_named, command_at, is_user}

-- What an event does that a bank sees: a turn starts on a processor, the kernel uses the registers, the task moves to
-- another area, the registers of a block are set from outside, or nothing of these.
pub data Act : Type 0 where
  Starts : ℕ → Act
  Section : Act
  Grows : Act
  Sets : ℕ → Act
  Plain : Act

pub record Note : Type 0 where
  pub task : ℕ
  pub act : Act

-- ---- the note of an event

abbrev pub is_section : Option Command → Bool
is_section (Some (commands.Ksec byte)) = true
is_section other = false

-- the block whose registers the command sets
abbrev pub set_target : Script → Option Command → Option ℕ
set_target script (Some (commands.Setregs name set count)) = Some (block_named script name)
set_target script other = None

abbrev pub is_count : Reply → Bool
is_count (replies.Count n) = true
is_count other = false

-- an accepted set of a block's registers is one
abbrev pub set_act : Option ℕ → Bool → Act
set_act None accepted = Plain
set_act (Some u) true = Sets u
set_act (Some u) false = Plain

-- the block whose event it is
abbrev pub task_of : Event → ℕ
task_of (Start t cpu how signal) = t
task_of (Local t line reply) = t
task_of (Outer t line reply) = t
task_of (Grow t) = t
task_of (Kill t signo why) = t
task_of (End t) = t

abbrev pub act_of : Script → Event → Act
act_of script (Start t cpu how signal) = Starts cpu
act_of script (Local t line reply) = if is_section (command_at script t line) then Section else Plain
act_of script (Outer t line reply) = set_act (set_target script (command_at script t line)) (is_count reply)
act_of script (Grow t) = Grows
act_of script (Kill t signo why) = Plain
act_of script (End t) = Plain

abbrev pub note_of : Script → Event → Note
note_of script event = record { task = task_of event; act = act_of script event }

abbrev pub notes_of : Script → List Event → List Note
notes_of script past = map (note_of script) past

-- ---- the processor of an event

-- the number is the one that is known
abbrev pub is_at : Option ℕ → ℕ → Bool
is_at None x = false
is_at (Some y) x = y == x

-- the processor after an act of the block, where it was `older` before
abbrev pub start_cpu : Act → Option ℕ → Option ℕ
start_cpu (Starts c) older = Some c
start_cpu Section older = older
start_cpu Grows older = older
start_cpu (Sets u) older = older
start_cpu Plain older = older

-- the processor of a block's latest Start
abbrev pub cpu_of : List Note → ℕ → Option ℕ
cpu_of [] t = None
cpu_of (n ∷ past) t = if n.task == t then start_cpu n.act (cpu_of past t) else cpu_of past t

-- The note's event is on the processor: that of its block's latest Start.
abbrev pub is_on : List Note → Note → ℕ → Bool
is_on past n c = is_at (start_cpu n.act (cpu_of past n.task)) c

-- ---- the two numbers

-- A processor's mark after an event on it, of a user task or of a kernel thread: a section leaves none, and another event
-- of a user task leaves that task.
abbrev pub mark_after : Bool → ℕ → Act → Option ℕ → Option ℕ
mark_after user t Section older = None
mark_after true t (Starts c) older = Some t
mark_after true t Grows older = Some t
mark_after true t (Sets u) older = Some t
mark_after true t Plain older = Some t
mark_after false t (Starts c) older = older
mark_after false t Grows older = older
mark_after false t (Sets u) older = older
mark_after false t Plain older = older

-- the mark of processor c, where `user` tells the user tasks
abbrev pub mark_of : (ℕ → Bool) → List Note → ℕ → Option ℕ
mark_of user [] c = None
mark_of user (n ∷ past) c = if is_on past n c then mark_after (user n.task) n.task n.act (mark_of user past c) else mark_of user past c

-- A block's last processor after an event: a Start of the block gives it, and Grow of the block or a set of its registers
-- takes it away.
abbrev pub last_after : ℕ → Act → ℕ → Option ℕ → Option ℕ
last_after task (Starts c) t older = if task == t then Some c else older
last_after task Section t older = older
last_after task Grows t older = if task == t then None else older
last_after task (Sets u) t older = if u == t then None else older
last_after task Plain t older = older

-- the last processor of block t
abbrev pub last_of : List Note → ℕ → Option ℕ
last_of [] t = None
last_of (n ∷ past) t = last_after n.task n.act t (last_of past t)

-- the mark that a past gives a processor
abbrev pub mark : Script → List Event → ℕ → Option ℕ
mark script past cpu = mark_of (is_user script) (notes_of script past) cpu

-- the last processor that a past gives a block
abbrev pub last : Script → List Event → ℕ → Option ℕ
last script past task = last_of (notes_of script past) task
