-- A local line of a valid script leaves a valid private task, and so does all else that becomes of a task.
use Rattle.std.proofs.Common.{◌≡◌, ℕ, ◌+◌, ◌≤◌, ◌==◌, Bool, true, false, not, ◌&&◌, List, [], length, Option, Some, None, if◌then◌else◌, refl, sym, ap, subst, ◌∙◌}
use Rattle.std.proofs.lemmas.Bool.{and_parts, eq-eqb, leb-true, true≢false}
use Rattle.std.specs.Prelude.{nat_le}
use Rattle.xs_base.specs.declared.component.Row.{Row}
use Rattle.xs_base.specs.declared.component.Place.{Place}
use Rattle.xs_base.specs.declared.words.Errno.{Errno}
use Rattle.xs_base.specs.Component.{initial_part, tiledata_number}
use Rattle.xs_base.specs.File.{File, part, write_place}
use Rattle.xs_base.specs.Frame.{refused_file}
use Rattle.xs_base.specs.Layout.{IsLayout, has_row}
use Rattle.xs_base.specs.Register.{IsRegister, place_of}
use Rattle.xs_base.specs.Task.{PrivateTask, IsFileOf, IsPrivateTask, frame_length, buffer_length}
use Rattle.xs_base.specs.Tile.{feature_error, is_of_tiles, raises_nm}
use Rattle.xs_base.proofs.AcceptedLemmas.{return_is_private}
use Rattle.xs_base.proofs.Registers.{named_place}
use Rattle.xs_base.proofs.TaskLemmas.{start_is_valid, start_tiles}
use Rattle.xs_base.proofs.ValidLemmas.{permitted_is_private, released_is_private, frame_poked_is_private, buffer_poked_is_private}
use Rattle.xs_model.specs.declared.script.Command.{Command}
use Rattle.xs_model.specs.declared.script.Command.TheVariants as commands
use Rattle.xs_model.specs.declared.event.Reply.{Reply}
use Rattle.xs_model.specs.declared.event.Why.{Why}
use Rattle.xs_model.specs.Script.{IsCommand, fits_memory}
use Rattle.xs_model.specs.Line.{next_line, asked, local_after, traps, is_frame_cause, killed}
use Rattle.xs_model.specs.Outer.{is_blocked, task_left}
use Rattle.xs_model.proofs.TaskWrites.{byte_at_place, written, write_leaves}

-- ---- parts of a task

-- the task at another place
pub next_valid : (rows : List Row) (task : PrivateTask) → IsPrivateTask rows task → IsPrivateTask rows (next_line task)
next_valid rows task h = record { file = h.file; tiles_are = h.tiles_are; frame_size = h.frame_size; frame_bytes = h.frame_bytes; buffer_size = h.buffer_size; buffer_bytes = h.buffer_bytes }

-- the task with another file
file_valid : (rows : List Row) (task : PrivateTask) (file : File) → IsPrivateTask rows task → IsFileOf rows file → (task.large ≡ false → part file tiledata_number ≡ initial_part tiledata_number) → IsPrivateTask rows (record task { file = file })
file_valid rows task file h good tiles = record { file = good; tiles_are = tiles; frame_size = h.frame_size; frame_bytes = h.frame_bytes; buffer_size = h.buffer_size; buffer_bytes = h.buffer_bytes }

-- a memory's bound
memory_bound : (size at len : ℕ) → fits_memory size at len ≡ true → at + len ≤ size
memory_bound size at len fits = leb-true (at + len) size (and_parts (nat_le 1 len && nat_le len 64) (nat_le (at + len) size) fits).1

-- ---- a set of a register

-- what doesn't trap without room isn't of the tiles
not_of_tiles : (row large tiles : Bool) → (row && not large && tiles) ≡ false → row ≡ true → large ≡ false → tiles ≡ false
not_of_tiles true false tiles off row small = off
not_of_tiles true true tiles off row small = absurd (cc)
not_of_tiles false large tiles off row small = absurd (cc)

-- nor is its place TILEDATA's
apart_of_tiles : (place : Place) → is_of_tiles place true ≡ false → place.comp.0 ≡ tiledata_number → ⊥
apart_of_tiles place off is =
    let on : (place.comp.0 == tiledata_number) ≡ true = eq-eqb place.comp.0 tiledata_number is in
    true≢false (sym (rw on refl) ∙ off)

-- a task without room that sets a register that doesn't trap leaves TILEDATA
set_apart : (rows : List Row) (task : PrivateTask) (reg : List ℕ) (place : Place) → IsPrivateTask rows task → IsRegister rows reg place → traps task (commands.Set reg []) ≡ false → task.large ≡ false → place.comp.0 ≡ tiledata_number → ⊥
set_apart rows task reg place h register quiet small is =
    let here : place_of reg ≡ place = named_place reg place register.0 in
    let quiet_here : raises_nm task place true ≡ false = sym (ap (λ (p : Place). raises_nm task p true) here) ∙ quiet in
    let row : has_row task.file.rows tiledata_number ≡ true = ap (λ (rs : List Row). has_row rs tiledata_number) h.file.rows_are ∙ ap (has_row rows) (sym is) ∙ register.1 in
    apart_of_tiles place (not_of_tiles (has_row task.file.rows tiledata_number) task.large (is_of_tiles place true) quiet_here row small) is

-- the task with a register set
set_valid : (rows : List Row) (task : PrivateTask) (reg bytes : List ℕ) → IsPrivateTask rows task → IsCommand rows (commands.Set reg bytes) → traps task (commands.Set reg bytes) ≡ false → IsPrivateTask rows (record task { file = write_place task.file (place_of reg) bytes })
set_valid rows task reg bytes h fits quiet =
    let place = fits.0 in
    let here : place_of reg ≡ place = named_place reg place fits.1.0 in
    let valid = file_valid rows task (write_place task.file place bytes) h (written rows task.file reg place bytes h.file fits.1 fits.2 fits.3)
    (λ small. write_leaves task.file place bytes (set_apart rows task reg place h fits.1 quiet small) ∙ h.tiles_are small) in
    subst (λ (p : Place). IsPrivateTask rows (record task { file = write_place task.file p bytes })) (sym here) valid

-- ---- a local line

-- a request for a permission
asked_valid : (rows : List Row) (error : Option Errno) (task : PrivateTask) → IsPrivateTask rows task → IsPrivateTask rows (asked error task)
asked_valid rows None task h = permitted_is_private rows task h
asked_valid rows (Some error) task h = h

-- one of two
either_valid : (rows : List Row) (test : Bool) (one other : PrivateTask) → IsPrivateTask rows one → IsPrivateTask rows other → IsPrivateTask rows (if test then one else other)
either_valid rows true one other a b = a
either_valid rows false one other a b = b

-- a local line that doesn't trap
pub local_valid : (rows : List Row) (task : PrivateTask) (command : Command) → IsLayout rows → IsPrivateTask rows task → IsCommand rows command → traps task command ≡ false → IsPrivateTask rows (local_after task command)
local_valid rows task (commands.Set reg bytes) table h fits quiet = next_valid rows _ (set_valid rows task reg bytes h fits quiet)
local_valid rows task commands.Tilerelease table h fits quiet = next_valid rows _ (released_is_private rows task h)
local_valid rows task (commands.Perm feature) table h fits quiet = next_valid rows _ (asked_valid rows (feature_error task.file.rows feature) task h)
local_valid rows task (commands.Poke at bytes) table h fits quiet =
    next_valid rows _ (frame_poked_is_private rows task at bytes (memory_bound frame_length at (length bytes) fits.0) (λ k. byte_at_place bytes k fits.1) h)
local_valid rows task (commands.Bpoke at bytes) table h fits quiet =
    next_valid rows _ (buffer_poked_is_private rows task at bytes (memory_bound buffer_length at (length bytes) fits.0) (λ k. byte_at_place bytes k fits.1) h)
local_valid rows task commands.Sigreturn table h fits quiet =
    either_valid rows task.handling _ _ (return_is_private rows task table h) (next_valid rows task h)
local_valid rows task other table h fits quiet = next_valid rows task h

-- ---- other changes

-- an outer line
pub left_valid : (rows : List Row) (task : PrivateTask) (command : Command) (reply : Reply) → IsPrivateTask rows task → IsPrivateTask rows (task_left command reply task)
left_valid rows task (commands.Wait name) reply h = either_valid rows (is_blocked reply) task (next_line task) h (next_valid rows task h)
left_valid rows task other reply h = next_valid rows task h

-- a kill
pub killed_valid : (rows : List Row) (task : PrivateTask) (why : Why) → IsLayout rows → IsPrivateTask rows task → IsPrivateTask rows (killed why task)
killed_valid rows task why table h =
    either_valid rows (is_frame_cause why) (record task { file = refused_file task }) task
    (file_valid rows task (refused_file task) h (rw h.file.rows_are (start_is_valid rows table)) (λ small. start_tiles task.file.rows)) h
