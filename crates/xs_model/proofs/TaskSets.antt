-- A register set that a tracer writes leaves a valid task.
use Rattle.std.proofs.Common.{◌≡◌, ℕ, ◌<◌, ◌^◌, ◌==◌, Bool, true, false, not, ◌&&◌, List, length, Option, Some, None, if◌then◌else◌, refl, ap, subst, ◌∙◌, arith, lit<}
use Rattle.std.proofs.lemmas.Bool.{true≢false, ltb-false, and_parts}
use Rattle.xs_base.specs.declared.component.Row.{Row}
use Rattle.xs_base.specs.declared.header.HeaderError.{HeaderError}
use Rattle.xs_base.specs.declared.header.HeaderError.TheVariants as errors
use Rattle.xs_base.specs.declared.header.Origin.TheVariants.{Regset}
use Rattle.xs_base.specs.declared.words.Set.{Set}
use Rattle.xs_base.specs.declared.words.Set.TheVariants.{Xstate, Fx}
use Rattle.xs_base.specs.Component.{component_count, initial_part, x87_number, sse_number, tiledata_number}
use Rattle.xs_base.specs.File.{File, part, with_part, initial_file}
use Rattle.xs_base.specs.Header.{mxcsr}
use Rattle.xs_base.specs.HeaderCheck.{is_wrong_mxcsr, parts_in}
use Rattle.xs_base.specs.Image.{taken_part, image_file}
use Rattle.xs_base.specs.Layout.{IsLayout, has_row, features, default_features, lacks_legacy, table_error}
use Rattle.xs_base.specs.RegisterSet.{set_size, set_error, after_set, fx_file, wrong_count, set_by, set_result}
use Rattle.xs_base.specs.Sets.{has}
use Rattle.xs_base.specs.Task.{PrivateTask, IsFileOf, IsPrivateTask, user_features}
use Rattle.xs_base.proofs.AcceptedLemmas.{accepted_control, accepted_bits}
use Rattle.xs_base.proofs.ByteRangeLemmas.{AreBytes}
use Rattle.xs_base.proofs.FeatureLemmas.{has_default}
use Rattle.xs_base.proofs.FileLemmas.{part_is_file, part_other, with_control}
use Rattle.xs_base.proofs.ImageLemmas.{length_taken, taken_clean}
use Rattle.xs_base.proofs.LayoutLemmas.{layout_parts, else_none}
use Rattle.xs_base.proofs.TaskLemmas.{with_part_bytes}
use Rattle.xs_base.proofs.ValidLemmas.{taken_are, image_is_valid, image_tiles}
use Rattle.xs_model.specs.Outer.{set_task}

-- a machine has x87 and SSE
has_legacy : (rows : List Row) → IsLayout rows → (has_row rows x87_number ≡ true) × (has_row rows sse_number ≡ true)
unfolding table_error
has_legacy rows table =
    let there = not_not (has_row rows x87_number && has_row rows sse_number) ((else_none (lacks_legacy rows) _ _ (layout_parts rows table).1).0) in
    and_parts (has_row rows x87_number) (has_row rows sse_number) there
  where
    not_not : (b : Bool) → not b ≡ false → b ≡ true
    not_not true e = refl
    not_not false e = absurd (true≢false e)

-- a file with x87 or SSE taken from bytes
taken_valid : (rows : List Row) (file : File) (bytes : List ℕ) (at c : ℕ) → AreBytes bytes → c < component_count → has_row rows c ≡ true → IsFileOf rows file → IsFileOf rows (with_part file c (taken_part bytes at c))
taken_valid rows file bytes at c small lt there good = record {
  is_file = part_is_file file c (taken_part bytes at c) lt (length_taken bytes at c) (taken_clean bytes at c) (ap (λ (rs : List Row). has_row rs c) good.rows_are ∙ there) good.is_file;
  rows_are = good.rows_are;
  bytes = with_part_bytes file c (taken_part bytes at c) (omega (arith, good.is_file.count)) (taken_are bytes small at c) good.bytes;
  control = good.control;
}

-- MXCSR that is right
right_control : (value : ℕ) → is_wrong_mxcsr value ≡ false → value < 2 ^ 16
right_control value right = omega (arith, ltb-false 0xFFFF value right)

-- the file of an Fx set
fx_valid : (rows : List Row) (file : File) (bytes : List ℕ) → AreBytes bytes → is_wrong_mxcsr (mxcsr bytes) ≡ false → IsFileOf rows file → IsFileOf rows (fx_file file bytes)
fx_valid rows file bytes small right good =
    let legacy = has_legacy rows (subst IsLayout good.rows_are good.is_file.layout) in
    let one = taken_valid rows file bytes 0 x87_number small (lit< tt) legacy.0 good in
    let two = taken_valid rows (with_part file x87_number (taken_part bytes 0 x87_number)) bytes 160 sse_number small (lit< tt) legacy.1 one in
    let below = right_control (mxcsr bytes) right in
    record {
      is_file = with_control (with_part (with_part file x87_number (taken_part bytes 0 x87_number)) sse_number (taken_part bytes 160 sse_number)) (mxcsr bytes) (omega (arith, below)) two.is_file;
      rows_are = two.rows_are;
      bytes = two.bytes;
      control = below;
    }

-- it leaves TILEDATA
fx_tiles : (file : File) (bytes : List ℕ) → part (fx_file file bytes) tiledata_number ≡ part file tiledata_number
fx_tiles file bytes =
    part_other (with_part file x87_number (taken_part bytes 0 x87_number)) sse_number tiledata_number (taken_part bytes 160 sse_number) (λ e. absurd (cc e))
    ∙ part_other file x87_number tiledata_number (taken_part bytes 0 x87_number) (λ e. absurd (cc e))

-- a task without room for TILEDATA may not use it
no_tiles : (rows : List Row) (large : Bool) → large ≡ false → has (if large then features rows else default_features rows) 18 ≡ false
no_tiles rows true small = absurd (true≢false small)
no_tiles rows false small = has_default rows 18 ∙ never (has (features rows) 18)
  where
    never : (b : Bool) → (b && false) ≡ false
    never true = refl
    never false = refl

-- the task with this file
with_valid : (rows : List Row) (task : PrivateTask) (file : File) (marks : ℕ) → IsPrivateTask rows task → IsFileOf rows file → (task.large ≡ false → part file 18 ≡ initial_part 18) → IsPrivateTask rows (record task { file = file; marks = marks })
with_valid rows task file marks h good tiles = record { file = good; tiles_are = tiles; frame_size = h.frame_size; frame_bytes = h.frame_bytes; buffer_size = h.buffer_size; buffer_bytes = h.buffer_bytes }

-- a set that is accepted leaves a valid task
accepted_valid : (rows : List Row) (task : PrivateTask) (set : Set) (bytes : List ℕ) → IsPrivateTask rows task → AreBytes bytes → set_error task set bytes ≡ None → IsPrivateTask rows (after_set task set bytes)
accepted_valid rows task Xstate bytes h small passes =
    let parts = parts_in task.file.rows Regset bytes in
    let valid : IsFileOf task.file.rows (image_file (initial_file task.file.rows) bytes parts) = image_is_valid bytes small task.file.rows parts h.file.is_file.layout (accepted_control Regset (user_features task) bytes passes) in
    with_valid rows task (image_file (initial_file task.file.rows) bytes parts) _ h (subst (λ (rs : List Row). IsFileOf rs (image_file (initial_file task.file.rows) bytes parts)) h.file.rows_are valid)
    (λ less. image_tiles task.file.rows bytes parts (accepted_bits Regset (user_features task) bytes passes 18 (no_tiles task.file.rows task.large less)))
accepted_valid rows task Fx bytes h small passes =
    with_valid rows task (fx_file task.file bytes) _ h (fx_valid rows task.file bytes small (not_wrong (is_wrong_mxcsr (mxcsr bytes)) passes) h.file)
    (λ less. fx_tiles task.file bytes ∙ h.tiles_are less)
  where
    not_wrong : (b : Bool) → (if b then Some errors.Mxcsr else None) ≡ None → b ≡ false
    not_wrong true e = absurd (cc e)
    not_wrong false e = refl

-- a set, accepted or not
pub set_valid : (rows : List Row) (task : PrivateTask) (set : Set) (bytes : List ℕ) → IsPrivateTask rows task → AreBytes bytes → IsPrivateTask rows (set_task (set_result task set bytes) task)
set_valid rows task set bytes h small = by_count (length bytes == set_size task set)
  where
    by_error : (error : Option HeaderError) → set_error task set bytes ≡ error → IsPrivateTask rows (set_task (set_by error (after_set task set bytes)) task)
    by_error None passes = accepted_valid rows task set bytes h small passes
    by_error (Some error) fails = h

    wrong : (s : Set) → IsPrivateTask rows (set_task (wrong_count s) task)
    wrong Xstate = h
    wrong Fx = h

    by_count : (right : Bool) → IsPrivateTask rows (set_task (if not right then wrong_count set else set_by (set_error task set bytes) (after_set task set bytes)) task)
    by_count true = by_error (set_error task set bytes) refl
    by_count false = wrong set
