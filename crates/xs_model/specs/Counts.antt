-- What a history makes of each bank: its counts with the trail, and the file that remains in it. Linux saves and restores
-- at the same events (Linux 6.6, arch/x86/kernel/process_64.c, __switch_to; arch/x86/kernel/fpu/core.c,
-- kernel_fpu_begin_mask; arch/x86/kernel/fpu/signal.c); that they are counted, and the trail, is this project's own.
use Rattle.std.specs.Prelude.{ℕ, Bool, true, false, ◌&&◌, ◌||◌, ◌==◌, List, [], ◌∷◌, slice_get, Option, Some, None, is_none, if◌then◌else◌}
use Rattle.xs_base.specs.declared.component.Place.{Place}
use Rattle.xs_base.specs.declared.words.Signo.{Signo}
use Rattle.xs_base.specs.Component.{pkru_number, tiledata_number}
use Rattle.xs_base.specs.File.{File}
use Rattle.xs_base.specs.Layout.{has_row}
use Rattle.xs_base.specs.Trail.{read_numbers, write_numbers, release_numbers}
use Rattle.xs_base.specs.Register.{place_of}
use Rattle.xs_base.specs.Counts.{Counts, one_load, one_save, one_exec, after_start, load_if, save_if, xmm0, section_bytes}
use Rattle.xs_model.specs.declared.script.Command.{Command}
use Rattle.xs_model.specs.declared.script.Command.TheVariants as commands
use Rattle.xs_model.specs.declared.script.Script.{Script}
use Rattle.xs_model.specs.declared.event.Reply.{Reply}
use Rattle.xs_model.specs.declared.event.Reply.TheVariants as replies
use Rattle.xs_model.specs.declared.event.Event.{Event}
use Rattle.xs_model.specs.declared.event.Event.TheVariants.{Start, Local, Outer, Grow, Kill, End}
use Rattle.xs_model.specs.Script.{command_at, is_user, is_return}
use Rattle.xs_model.specs.Line.{is_frame_cause}
use Rattle.xs_model.specs.Note.{Act, Starts, Section, Grows, Sets, Plain, is_on, task_of, act_of, note_of, notes_of, mark}
use Rattle.xs_model.specs.State.{BlockState, turn_of}
use Rattle.xs_model.specs.Machine.{machine}

-- ---- instructions

abbrev pub is_pkru : Place → Bool
is_pkru place = place.comp.0 == pkru_number

-- The numbers that a Local event mixes into the trail, where its line makes an instruction that is counted: a read or a
-- write of a register other than PKRU, a release of the tiles, or the write of a kernel section.
abbrev pub numbers_of : Script → Option Command → Reply → Option (List ℕ)
numbers_of script (Some (commands.Get reg)) (replies.Bytes bytes) = if is_pkru (place_of reg) then None else Some (read_numbers (place_of reg) bytes)
numbers_of script (Some (commands.Set reg bytes)) reply = if is_pkru (place_of reg) then None else Some (write_numbers (place_of reg) bytes)
numbers_of script (Some commands.Tilerelease) reply = if has_row script.layout tiledata_number then Some release_numbers else None
numbers_of script (Some (commands.Ksec byte)) reply = Some (write_numbers xmm0 (section_bytes byte))
numbers_of script other reply = None

abbrev pub exec_of : Option (List ℕ) → Counts → Counts
exec_of None counts = counts
exec_of (Some numbers) counts = one_exec numbers counts

-- ---- loads and saves

abbrev pub is_section_act : Act → Bool
is_section_act (Starts c) = false
is_section_act Section = true
is_section_act Grows = false
is_section_act (Sets u) = false
is_section_act Plain = false

-- the block's latest event is a section
abbrev pub in_section : Script → List Event → ℕ → Bool
in_section script [] t = false
in_section script (event ∷ past) t = if task_of event == t then is_section_act (act_of script event) else in_section script past t

-- A user task goes on in its turn after a section: its registers are loaded again.
abbrev pub reloads : Script → List Event → ℕ → Bool
reloads script past t = is_user script t && in_section script past t

-- the event is the last one of its turn
abbrev pub ends_turn : Script → List Event → Event → Bool
ends_turn script past event = is_none (turn_of (machine script (event ∷ past)).blocks (task_of event))

-- A user task's registers are saved: at a section, and at the end of a turn whose last event is none.
abbrev pub saves : Script → List Event → Event → Bool
saves script past event = is_user script (task_of event) && (is_section_act (act_of script event) || ends_turn script past event)

-- a signal is delivered with a save and a load
abbrev pub delivery : Option Signo → Counts → Counts
delivery None counts = counts
delivery (Some signo) counts = one_load (one_save counts)

abbrev pub is_return_line : Option Command → Bool
is_return_line None = false
is_return_line (Some command) = is_return command

-- the counts of the event's bank after it
abbrev pub counted_by : Script → List Event → Event → Counts → Counts
counted_by script past (Start t cpu how signal) counts = delivery signal (after_start how counts)
counted_by script past (Local t line reply) counts =
    save_if (saves script past (Local t line reply))
    (exec_of (numbers_of script (command_at script t line) reply)
    (load_if (is_return_line (command_at script t line))
    (load_if (reloads script past t) counts)))
counted_by script past (Outer t line reply) counts = save_if (saves script past (Outer t line reply)) (load_if (reloads script past t) counts)
counted_by script past (Grow t) counts = save_if (saves script past (Grow t)) (load_if (reloads script past t) counts)
counted_by script past (Kill t signo why) counts =
    save_if (saves script past (Kill t signo why)) (load_if (is_frame_cause why) (load_if (reloads script past t) counts))
counted_by script past (End t) counts = save_if (saves script past (End t)) (load_if (reloads script past t) counts)

-- the event is on processor c
abbrev pub is_event_on : Script → List Event → Event → ℕ → Bool
is_event_on script past event c = is_on (notes_of script past) (note_of script event) c

-- the counts of bank c after a past
abbrev pub counts_of : Script → List Event → ℕ → Counts
counts_of script [] c = record { execs = 0; trail = 0; loads = 0; saves = 0 }
counts_of script (event ∷ past) c = if is_event_on script past event c then counted_by script past event (counts_of script past c) else counts_of script past c

-- ---- what remains

abbrev pub file_of : Option BlockState → Option File
file_of None = None
file_of (Some block) = Some block.task.file

-- the file that the task had after its latest event on the processor
abbrev pub file_after : Script → List Event → ℕ → ℕ → Option File
file_after script [] c t = None
file_after script (event ∷ past) c t =
    if (task_of event == t) && is_event_on script past event c then file_of (slice_get (machine script (event ∷ past)).blocks t)
    else file_after script past c t

abbrev pub remaining : Script → List Event → ℕ → Option ℕ → Option File
remaining script past c None = None
remaining script past c (Some t) = file_after script past c t

-- The file, apart from PKRU, that remains in bank c: where the processor's mark is a task, the file that this task had at
-- the end of its latest turn there.
abbrev pub remains : Script → List Event → ℕ → Option File
remains script past c = remaining script past c (mark script past c)
