-- What a line does to the task in a turn and to its processor. Both a user task and a kernel thread may be the task.
use Rattle.std.specs.Prelude.{◌≡◌, ℕ, Bool, true, false, ◌&&◌, List, slice_get, Option, Some, None, if◌then◌else◌}
use Rattle.std.specs.Int.{from_le_bytes, w32}
use Rattle.xs_base.specs.declared.component.Place.{Place}
use Rattle.xs_base.specs.declared.component.Row.{Row}
use Rattle.xs_base.specs.declared.header.HeaderError.{HeaderError}
use Rattle.xs_base.specs.Counts.{load_if, one_load, save_if}
use Rattle.xs_base.specs.Component.{pkru_number}
use Rattle.xs_base.specs.File.{part, pkru_bytes}
use Rattle.xs_base.specs.Frame.{refused_file}
use Rattle.xs_base.specs.Task.{PrivateTask, start_pkru}
use Rattle.xs_bank.specs.declared.cpu.Cpu.{Cpu}
use Rattle.xs_bank.specs.Bank as banks
use Rattle.xs_bank.specs.Bank.{counts_of}
use Rattle.xs_bank.specs.Holds.{Holds}
use Rattle.xs_bank.specs.SetUp.{WasSetUp}
use Rattle.xs_image.specs.declared.image.Restored.{Restored}
use Rattle.xs_image.specs.declared.image.Restored.TheVariants as answers
use Rattle.xs_model.specs.declared.event.Reply.{Reply}
use Rattle.xs_model.specs.declared.event.Reply.TheVariants as replies
use Rattle.xs_model.specs.declared.script.Block.{Block}
use Rattle.xs_model.specs.declared.script.Command.{Command}
use Rattle.xs_model.specs.declared.script.Order.{Order}
use Rattle.xs_model.specs.declared.script.Script.{Script}
use Rattle.xs_model.specs.Counts.{exec_of, numbers_of, is_pkru}
use Rattle.xs_model.specs.Line.{frame_cause, local_after, local_reply, order_at, refusal, traps}
use Rattle.xs_model.specs.Note.{is_section}
use Rattle.xs_model.specs.Script.{is_return, is_user}
use Rattle.xs_task.specs.declared.task.Task.{Task}
use Rattle.xs_task.specs.TaskArea.{IsTask}
use Rattle.xs_switch.specs.Running.{CanSave, IsRunning}
use Rattle.xs_board.specs.declared.turn.Close.{Close}
use Rattle.xs_board.specs.declared.turn.Close.TheVariants as closes
use Rattle.xs_board.specs.Home.{IsThreadHome}

-- The bank after a task set a register, and after it read one. Of PKRU that's WRPKRU and RDPKRU (SDM volume 2), which aren't counted.
abbrev pub after_set : banks.Bank → Place → List ℕ → banks.Bank
after_set bank place bytes = if is_pkru place then banks.after_wrpkru bank (from_le_bytes w32 bytes) else banks.after_write bank place bytes

abbrev pub after_get : banks.Bank → Place → List ℕ → banks.Bank
after_get bank place bytes = if is_pkru place then bank else banks.after_read bank place bytes

-- A user task in a turn: it is whole, and it is this private task.
pub record IsUserOn (rows : List Row) (task : Task) (bank : banks.Bank) (private : PrivateTask) : Type 0 where
  pub whole : IsTask rows task
  pub ready : CanSave rows task bank
  pub running : IsRunning rows task bank private

-- A kernel thread in a turn: it has its place and no handler runs, and the bank has the PKRU of kernel threads, which is that of a
-- task's start.
pub record IsThreadOn (task : Task) (bank : banks.Bank) (private : PrivateTask) : Type 0 where
  pub home : IsThreadHome task private
  pub outside : private.handling ≡ false
  pub pkru : part bank.file pkru_number ≡ pkru_bytes start_pkru

-- The task of a user block, or else of a kernel thread, stands for the private task in a turn.
abbrev pub IsOn : Bool → List Row → Task → banks.Bank → PrivateTask → Type 0
IsOn true rows task bank private = IsUserOn rows task bank private
IsOn false rows task bank private = IsThreadOn task bank private

-- The processor is the same one but for its bank and its mark.
abbrev pub KeepsCpu : {B : Type 0} → Cpu B → Cpu B → Type 0
KeepsCpu old new = new ≡ record old { bank = new.bank; mark = new.mark }

-- A user task's registers came back to the bank where they were in its area. A kernel thread has none.
pub record CameBack {B : Type 0} (user : Bool) (old new : Task) (before after : Cpu B) (bank_before bank_after : banks.Bank) : Type 0 where
  pub set_up : WasSetUp before.layout bank_after after.initial
  pub cpu : KeepsCpu before after
  pub mark : after.mark ≡ (if user && old.need_load then Some old.name else before.mark)
  pub name : new.name ≡ old.name
  pub place : new.place ≡ old.place
  pub handling : new.handling ≡ old.handling
  pub loaded : user ≡ true → new.need_load ≡ false
  pub on : (p : PrivateTask) → IsOn user before.layout old bank_before p → IsOn user before.layout new bank_after p
  pub holds : user ≡ true → (p : PrivateTask) → IsOn user before.layout old bank_before p → Holds bank_after p
  pub counts : counts_of bank_after ≡ load_if (user && old.need_load) (counts_of bank_before)
  pub still : user ≡ false → bank_after ≡ bank_before

-- the private task after a local command, before it goes on to the next line
abbrev pub in_place : PrivateTask → Command → PrivateTask
in_place private command = record (local_after private command) { place = private.place }

-- A command of the task's line ran, which is no return from a handler. The task is still at its line. A section leaves the registers
-- in the area.
pub record Ran {B : Type 0} (user : Bool) (command : Command) (reply : Reply) (old new : Task) (before after : Cpu B) (bank_before bank_after : banks.Bank) : Type 0 where
  pub set_up : WasSetUp before.layout bank_after after.initial
  pub cpu : KeepsCpu before after
  pub mark : after.mark ≡ (if is_section (Some command) then None else before.mark)
  pub name : new.name ≡ old.name
  pub place : new.place ≡ old.place
  pub loaded : user ≡ true → new.need_load ≡ is_section (Some command)
  pub on : (p : PrivateTask) → IsOn user before.layout old bank_before p → IsOn user before.layout new bank_after (in_place p command)
  pub free : (p : PrivateTask) → IsOn user before.layout old bank_before p → traps p command ≡ false
  pub reply_is : (p : PrivateTask) → IsOn user before.layout old bank_before p → reply ≡ local_reply p command
  pub holds : user ≡ true → is_section (Some command) ≡ false → (p : PrivateTask) → IsOn user before.layout old bank_before p → Holds bank_before p → Holds bank_after (in_place p command)
  pub counts : (script : Script) → script.layout ≡ before.layout → counts_of bank_after ≡ exec_of (numbers_of script (Some command) reply) (save_if (user && is_section (Some command)) (counts_of bank_before))
  pub still : user ≡ false → is_section (Some command) ≡ false → bank_after ≡ bank_before

-- what a return from a handler answers
abbrev pub restored_reply : Restored → Reply
restored_reply answers.Full = replies.Full
restored_reply answers.LegacyOnly = replies.Legacy

-- The line at the task's place ran: its command is local and doesn't trap, and the task came to its next place. A return from a
-- handler loads the registers that it took of the frame.
pub record RanLine {B : Type 0} (user : Bool) (command : Command) (reply : Reply) (old new : Task) (before after : Cpu B) (bank_before bank_after : banks.Bank) : Type 0 where
  pub set_up : WasSetUp before.layout bank_after after.initial
  pub cpu : KeepsCpu before after
  pub mark : after.mark ≡ (if is_section (Some command) then None else before.mark)
  pub name : new.name ≡ old.name
  pub loaded : user ≡ true → new.need_load ≡ is_section (Some command)
  pub on : (p : PrivateTask) → IsOn user before.layout old bank_before p → IsOn user before.layout new bank_after (local_after p command)
  pub free : (p : PrivateTask) → IsOn user before.layout old bank_before p → traps p command ≡ false
  pub whole : (p : PrivateTask) → IsOn user before.layout old bank_before p → refusal p command ≡ None
  pub reply_is : (p : PrivateTask) → IsOn user before.layout old bank_before p → reply ≡ local_reply p command
  pub holds : user ≡ true → is_section (Some command) ≡ false → (p : PrivateTask) → IsOn user before.layout old bank_before p → Holds bank_before p → Holds bank_after (local_after p command)
  pub counts : (script : Script) → script.layout ≡ before.layout → counts_of bank_after ≡ exec_of (numbers_of script (Some command) reply) (save_if (user && is_section (Some command)) (load_if (is_return command) (counts_of bank_before)))
  pub still : user ≡ false → is_section (Some command) ≡ false → bank_after ≡ bank_before

-- A user task's return from its handler was refused with this error: the task stays at its line, and has no registers left.
pub record WasRefused {B : Type 0} (user : Bool) (command : Command) (error : HeaderError) (old new : Task) (before after : Cpu B) (bank_before bank_after : banks.Bank) : Type 0 where
  pub known : user ≡ true
  pub set_up : WasSetUp before.layout bank_after after.initial
  pub cpu : KeepsCpu before after
  pub mark : after.mark ≡ before.mark
  pub name : new.name ≡ old.name
  pub loaded : new.need_load ≡ false
  pub on : (p : PrivateTask) → IsOn user before.layout old bank_before p → IsOn user before.layout new bank_after (record p { file = refused_file p })
  pub why : (p : PrivateTask) → IsOn user before.layout old bank_before p → refusal p command ≡ Some (frame_cause error)
  pub holds : (p : PrivateTask) → IsOn user before.layout old bank_before p → Holds bank_after (record p { file = refused_file p })
  pub counts : counts_of bank_after ≡ one_load (counts_of bank_before)

-- The command trapped: it uses tiles for which the task has no room. Nothing has changed.
pub record WasTrapped {B : Type 0} (user : Bool) (command : Command) (old new : Task) (before after : Cpu B) (bank_before bank_after : banks.Bank) : Type 0 where
  pub task : new ≡ old
  pub cpu : after ≡ record before { bank = after.bank }
  pub bank : bank_after ≡ bank_before
  pub why : (p : PrivateTask) → IsOn user before.layout old bank_before p → traps p command ≡ true

-- A line didn't run, and its turn closes so: a return was refused, or the line trapped.
abbrev pub Halted : {B : Type 0} → Bool → Command → Close → Task → Task → Cpu B → Cpu B → banks.Bank → banks.Bank → Type 0
Halted user command (closes.Refused error) old new before after bank_before bank_after = WasRefused user command error old new before after bank_before bank_after
Halted user command closes.Trap old new before after bank_before bank_after = WasTrapped user command old new before after bank_before bank_after
Halted user command other old new before after bank_before bank_after = ⊥

-- The private task is at the task's place: one of its handler where a user task runs that, and else one of its body.
pub record StandsAt (user : Bool) (task : Task) (private : PrivateTask) : Type 0 where
  pub inside : private.handling ≡ (user && task.handling)
  pub place : task.place ≡ private.place

-- ---- the owner mark (Linux 6.6, arch/x86/kernel/fpu/context.h, fpregs_restore_userregs, and core.c, kernel_fpu_begin_mask)

-- the line of a block at a place: one of the handler while that runs
abbrev pub order_in : Option Block → Bool → ℕ → Option Order
order_in None handling place = None
order_in (Some lines) handling place = order_at lines handling place

abbrev pub next_order : Script → Task → Option Order
next_order script task = order_in (slice_get script.blocks task.name) (is_user script task.name && task.handling) task.place

abbrev pub is_section_order : Option Order → Bool
is_section_order None = false
is_section_order (Some order) = is_section (Some order.command)

-- the next line of the task is a kernel section
abbrev pub is_next_section : Script → Task → Bool
is_next_section script task = is_section_order (next_order script task)

-- The processor's mark after the task's next line, or where none is left: none after a section, and else a user task, whose registers
-- came back for it. A kernel thread leaves it.
abbrev pub line_mark : Script → Task → Option ℕ → Option ℕ
line_mark script task mark = if is_next_section script task then None else if is_user script task.name then Some task.name else mark
