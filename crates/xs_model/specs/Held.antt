-- Held: the bank of a processor still holds a task's current state. It is said by looking back through the past, and knows
-- no owner mark and no last processor, by which Linux decides the same (Linux 6.6, arch/x86/kernel/fpu/context.h,
-- fpregs_state_valid).
use Rattle.std.specs.Prelude.{ℕ, Bool, true, false, not, ◌&&◌, ◌==◌, List, [], ◌∷◌, if◌then◌else◌}
use Rattle.xs_model.specs.declared.script.Script.{Script}
use Rattle.xs_model.specs.declared.event.Event.{Event}
use Rattle.xs_model.specs.Script.{is_user}
use Rattle.xs_model.specs.Note.{Act, Starts, Section, Grows, Sets, Plain, Note, notes_of, is_at, cpu_of, is_on}

-- A turn that ends with this act leaves the task's state in the bank.
abbrev pub keeps : Act → Bool
keeps (Starts c) = true
keeps Section = false
keeps Grows = false
keeps (Sets u) = true
keeps Plain = true

abbrev pub sets_block : Act → ℕ → Bool
sets_block (Starts c) t = false
sets_block Section t = false
sets_block Grows t = false
sets_block (Sets u) t = u == t
sets_block Plain t = false

-- The block's latest event is neither a section nor Grow, and after it nobody set the block's registers.
abbrev pub is_current : List Note → ℕ → Bool
is_current [] t = false
is_current (n ∷ past) t = if n.task == t then keeps n.act else not (sets_block n.act t) && is_current past t

abbrev pub is_start : Act → Bool
is_start (Starts c) = true
is_start Section = false
is_start Grows = false
is_start (Sets u) = false
is_start Plain = false

-- The act overwrites the registers of another task: a user task starts, or a kernel thread has a section.
abbrev pub displaces : Bool → Act → Bool
displaces true (Starts c) = true
displaces true Section = false
displaces true Grows = false
displaces true (Sets u) = false
displaces true Plain = false
displaces false (Starts c) = false
displaces false Section = true
displaces false Grows = false
displaces false (Sets u) = false
displaces false Plain = false

-- the note is of another block than t, on processor c, and overwrites the registers there
abbrev pub is_displacing : (ℕ → Bool) → List Note → Note → ℕ → ℕ → Bool
is_displacing user past n c t = not (n.task == t) && is_on past n c && displaces (user n.task) n.act

-- After the block's latest Start no other user task started on the processor, and no kernel thread had a section there.
abbrev pub is_calm : (ℕ → Bool) → List Note → ℕ → ℕ → Bool
is_calm user [] c t = true
is_calm user (n ∷ past) c t = if n.task == t && is_start n.act then true else not (is_displacing user past n c t) && is_calm user past c t

-- The block had a turn, the latest one was on the processor, and since then nothing came between.
abbrev pub held_by : (ℕ → Bool) → List Note → ℕ → ℕ → Bool
held_by user past c t = is_at (cpu_of past t) c && is_current past t && is_calm user past c t

-- the bank of processor `cpu` holds the current state of the user task
abbrev pub held : Script → List Event → ℕ → ℕ → Bool
held script past cpu task = held_by (is_user script) (notes_of script past) cpu task
