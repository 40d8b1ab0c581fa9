-- What a return from a signal and a register set take leaves a valid private task: the tests that the bytes passed see to it.
use Rattle.std.proofs.Common.{◌≡◌, ℕ, ◌<◌, ◌^◌, ◌==◌, Bool, true, false, not, ◌&&◌, ◌||◌, List, Option, Some, None, if◌then◌else◌, bit_and, refl, sym, ap, subst, ◌∙◌, inl, inr, arith, lit<}
use Rattle.std.proofs.lemmas.Bool.{cases_Bool, eqb-true, false≢true, true≢false}
use Rattle.std.proofs.lemmas.Bool.Decides.{nat_tests}
use Rattle.xs_base.specs.declared.component.Row.{Row}
use Rattle.xs_base.specs.declared.header.HeaderError.{HeaderError}
use Rattle.xs_base.specs.declared.header.HeaderError.TheVariants as errors
use Rattle.xs_base.specs.declared.header.Origin.{Origin}
use Rattle.xs_base.specs.declared.header.Origin.TheVariants.{Frame, Regset}
use Rattle.xs_base.specs.declared.words.Set.{Set}
use Rattle.xs_base.specs.declared.words.Set.TheVariants.{Xstate, Fx}
use Rattle.xs_base.specs.Component.{initial_part, initial_mxcsr}
use Rattle.xs_base.specs.File.{File, IsFile, part, with_part, initial_file}
use Rattle.xs_base.specs.Frame.{frame_error, frame_file, frame_parts, legacy_parts, from_frame, is_legacy_only, after_return, return_by, return_of, xfeatures}
use Rattle.xs_base.specs.Header.{xstate_bv, xcomp_bv, mxcsr}
use Rattle.xs_base.specs.HeaderCheck.{header_error, is_wrong_mxcsr, mxcsr_in, takes_mxcsr, checks_mxcsr, has_outside, has_reserved, parts_in}
use Rattle.xs_base.specs.Image.{taken_part, image_file}
use Rattle.xs_base.specs.Layout.{IsLayout, features, default_features}
use Rattle.xs_base.specs.RegisterSet.{set_error, after_set, fx_file}
use Rattle.xs_base.specs.Sets.{has}
use Rattle.xs_base.specs.Task.{PrivateTask, IsFileOf, IsPrivateTask, user_features, user_size}
use Rattle.xs_base.proofs.ByteRangeLemmas.{AreBytes}
use Rattle.xs_base.proofs.FeatureLemmas.{has_default}
use Rattle.xs_base.proofs.FileLemmas.{part_is_file, part_other, with_control}
use Rattle.xs_base.proofs.ImageLemmas.{length_taken, taken_clean}
use Rattle.xs_base.proofs.LayoutLemmas.{else_none}
use Rattle.xs_base.proofs.RowLemmas.{has_x87, has_sse}
use Rattle.xs_base.proofs.SetLemmas.{has_and, within_set}
use Rattle.xs_base.proofs.TaskLemmas.{start_is_valid, start_tiles, with_part_bytes}
use Rattle.xs_base.proofs.ValidLemmas.{taken_are, image_is_valid, image_tiles}

-- ---- an accepted header

right_mxcsr : (value : ℕ) → is_wrong_mxcsr value ≡ false → value < 2 ^ 16
right_mxcsr value h = grind (arith, nat_tests, h)

passed : (origin : Origin) (allowed : ℕ) (bytes : List ℕ) → header_error origin allowed bytes ≡ None → (has_outside (xstate_bv bytes) allowed ≡ false) × ((checks_mxcsr origin (xstate_bv bytes) && is_wrong_mxcsr (mxcsr bytes)) ≡ false)
unfolding header_error
passed origin allowed bytes h =
    let last : Option HeaderError = if checks_mxcsr origin (xstate_bv bytes) && is_wrong_mxcsr (mxcsr bytes) then Some errors.Mxcsr else None in
    let third : Option HeaderError = if has_reserved bytes then Some errors.Reserved else last in
    let second : Option HeaderError = if not (xcomp_bv bytes == 0) then Some errors.Compacted else third in
    let one = else_none (has_outside (xstate_bv bytes) allowed) errors.Features second h in
    let two = else_none (not (xcomp_bv bytes == 0)) errors.Compacted third one.1 in
    let three = else_none (has_reserved bytes) errors.Reserved last two.1 in
    let four = else_none (checks_mxcsr origin (xstate_bv bytes) && is_wrong_mxcsr (mxcsr bytes)) errors.Mxcsr None three.1 in
    (one.0, four.0)

-- what is taken as MXCSR was looked at
takes_checked : (origin : Origin) (bits : ℕ) → takes_mxcsr origin bits ≡ true → checks_mxcsr origin bits ≡ true
takes_checked (Frame wanted) bits h = h
takes_checked Regset bits h = choose (has bits 0) (has bits 1) (has bits 2) h
  where
    choose : (a b c : Bool) → (b || c) ≡ true → (a || b || c) ≡ true
    choose true true c h = refl
    choose true false c h = refl
    choose false b c h = h

pub accepted_control : (origin : Origin) (allowed : ℕ) (bytes : List ℕ) → header_error origin allowed bytes ≡ None → mxcsr_in origin bytes < 2 ^ 16
accepted_control origin allowed bytes h = choose (takes_mxcsr origin (xstate_bv bytes)) (takes_checked origin (xstate_bv bytes))
  where
    right : (a b : Bool) → a ≡ true → (a && b) ≡ false → b ≡ false
    right true b on off = off
    right false b on off = absurd (false≢true on)

    choose : (takes : Bool) → (takes ≡ true → checks_mxcsr origin (xstate_bv bytes) ≡ true) → (if takes then mxcsr bytes else initial_mxcsr) < 2 ^ 16
    choose true checked = right_mxcsr (mxcsr bytes) (right (checks_mxcsr origin (xstate_bv bytes)) (is_wrong_mxcsr (mxcsr bytes)) (checked refl) ((passed origin allowed bytes h).1))
    choose false checked = lit< tt

-- XSTATE_BV lies within what is allowed
pub accepted_bits : (origin : Origin) (allowed : ℕ) (bytes : List ℕ) → header_error origin allowed bytes ≡ None → (c : ℕ) → has allowed c ≡ false → has (xstate_bv bytes) c ≡ false
accepted_bits origin allowed bytes h c off = elim (cases_Bool (has (xstate_bv bytes) c)) [
  | inl on ↦ absurd (false≢true (sym off ∙ within_set (xstate_bv bytes) allowed within c on))
  | inr none ↦ none
]
  where
    outside : (b : Bool) → not b ≡ false → b ≡ true
    outside true e = refl
    outside false e = absurd (true≢false e)

    within : bit_and (xstate_bv bytes) allowed ≡ xstate_bv bytes
    within = eqb-true (bit_and (xstate_bv bytes) allowed) (xstate_bv bytes) (outside (bit_and (xstate_bv bytes) allowed == xstate_bv bytes) ((passed origin allowed bytes h).0))

-- a task without room for TILEDATA may not use it
no_tiles : (rows : List Row) (large : Bool) → large ≡ false → has (if large then features rows else default_features rows) 18 ≡ false
no_tiles rows true small = absurd (true≢false small)
no_tiles rows false small = has_default rows 18 ∙ none (has (features rows) 18)
  where
    none : (b : Bool) → (b && false) ≡ false
    none true = refl
    none false = refl

second_off : (a b c : ℕ) → has b c ≡ false → has (bit_and a b) c ≡ false
second_off a b c off = has_and a b c ∙ ap (λ x. has a c && x) off ∙ none (has a c)
  where
    none : (b : Bool) → (b && false) ≡ false
    none true = refl
    none false = refl

first_off : (a b c : ℕ) → has a c ≡ false → has (bit_and a b) c ≡ false
first_off a b c off = has_and a b c ∙ ap (λ x. x && has b c) off

-- ---- a return

frame_control : (rows : List Row) (user size : ℕ) (frame : List ℕ) → frame_error user size frame ≡ None → (frame_parts rows user size frame).mxcsr < 2 ^ 16
frame_control rows user size frame = choose (is_legacy_only size frame)
  where
    small : (b : Bool) → (if b then Some errors.Mxcsr else None) ≡ None → b ≡ false
    small true e = absurd (cc e)
    small false e = refl

    choose : (legacy : Bool) → (if legacy then (if is_wrong_mxcsr (mxcsr frame) then Some errors.Mxcsr else None) else header_error (from_frame user frame) user frame) ≡ None → (if legacy then legacy_parts frame else parts_in rows (from_frame user frame) frame).mxcsr < 2 ^ 16
    choose true e = right_mxcsr (mxcsr frame) (small (is_wrong_mxcsr (mxcsr frame)) e)
    choose false e = accepted_control (from_frame user frame) user frame e

frame_tiles : (rows : List Row) (user size : ℕ) (frame : List ℕ) → has user 18 ≡ false → has (frame_parts rows user size frame).bits.0 18 ≡ false
frame_tiles rows user size frame off = choose (is_legacy_only size frame)
  where
    choose : (legacy : Bool) → has (if legacy then legacy_parts frame else parts_in rows (from_frame user frame) frame).bits.0 18 ≡ false
    choose true = refl
    choose false = first_off (bit_and (xfeatures frame) user) (xstate_bv frame) 18 (second_off (xfeatures frame) user 18 off)

module _ (rows : List Row) (task : PrivateTask) (table : IsLayout rows) (h : IsPrivateTask rows task) where
  -- the task with this file
  with_valid : (file : File) → IsFileOf rows file → (task.large ≡ false → part file 18 ≡ initial_part 18) → IsPrivateTask rows (record task { file = file })
  with_valid file valid tiles = record { file = valid; tiles_are = tiles; frame_size = h.frame_size; frame_bytes = h.frame_bytes; buffer_size = h.buffer_size; buffer_bytes = h.buffer_bytes }

  frame_valid : frame_error (user_features task) (user_size task) task.frame ≡ None → IsPrivateTask rows (record task { file = frame_file task.file.rows (user_features task) (user_size task) task.frame })
  frame_valid passes =
      let parts = frame_parts task.file.rows (user_features task) (user_size task) task.frame in
      let valid : IsFileOf task.file.rows (image_file (initial_file task.file.rows) task.frame parts) = image_is_valid task.frame h.frame_bytes task.file.rows parts h.file.is_file.layout (frame_control task.file.rows (user_features task) (user_size task) task.frame passes) in
      with_valid (image_file (initial_file task.file.rows) task.frame parts) (subst (λ rs. IsFileOf rs (image_file (initial_file task.file.rows) task.frame parts)) h.file.rows_are valid)
      (λ small. image_tiles task.file.rows task.frame parts (frame_tiles task.file.rows (user_features task) (user_size task) task.frame (no_tiles task.file.rows task.large small)))

  -- A return leaves a valid task, refused or not.
  pub return_is_private : IsPrivateTask rows (after_return task (return_of task))
  return_is_private = choose (frame_error (user_features task) (user_size task) task.frame) (is_legacy_only (user_size task) task.frame) frame_valid
    where
      file : File
      file = frame_file task.file.rows (user_features task) (user_size task) task.frame

      choose : (e : Option HeaderError) (legacy : Bool) → (e ≡ None → IsPrivateTask rows (record task { file = frame_file task.file.rows (user_features task) (user_size task) task.frame })) → IsPrivateTask rows (after_return task (return_by e legacy (frame_file task.file.rows (user_features task) (user_size task) task.frame)))
      choose (Some error) legacy valid = with_valid _ (rw h.file.rows_are (start_is_valid rows table)) (λ small. start_tiles task.file.rows)
      choose None true valid = let v = valid refl in record { file = v.file; tiles_are = v.tiles_are; frame_size = v.frame_size; frame_bytes = v.frame_bytes; buffer_size = v.buffer_size; buffer_bytes = v.buffer_bytes }
      choose None false valid = let v = valid refl in record { file = v.file; tiles_are = v.tiles_are; frame_size = v.frame_size; frame_bytes = v.frame_bytes; buffer_size = v.buffer_size; buffer_bytes = v.buffer_bytes }

  -- ---- a register set

  xstate_valid : (bytes : List ℕ) → AreBytes bytes → set_error task Xstate bytes ≡ None → IsPrivateTask rows (after_set task Xstate bytes)
  xstate_valid bytes small passes =
      let parts = parts_in task.file.rows Regset bytes in
      let valid : IsFileOf task.file.rows (image_file (initial_file task.file.rows) bytes parts) = image_is_valid bytes small task.file.rows parts h.file.is_file.layout (accepted_control Regset (user_features task) bytes passes) in
      let v = with_valid (image_file (initial_file task.file.rows) bytes parts) (subst (λ rs. IsFileOf rs (image_file (initial_file task.file.rows) bytes parts)) h.file.rows_are valid)
      (λ less. image_tiles task.file.rows bytes parts (accepted_bits Regset (user_features task) bytes passes 18 (no_tiles task.file.rows task.large less))) in
      record { file = v.file; tiles_are = v.tiles_are; frame_size = v.frame_size; frame_bytes = v.frame_bytes; buffer_size = v.buffer_size; buffer_bytes = v.buffer_bytes }

  fx_valid : (bytes : List ℕ) → AreBytes bytes → set_error task Fx bytes ≡ None → IsPrivateTask rows (after_set task Fx bytes)
  fx_valid bytes small passes =
      let x87 = taken_part bytes 0 0 in
      let xmm = taken_part bytes 160 1 in
      let file = h.file.is_file in
      let first = with_part task.file 0 x87 in
      let both = with_part first 1 xmm in
      let control : mxcsr bytes < 2 ^ 16 = right_mxcsr (mxcsr bytes) (none_of (is_wrong_mxcsr (mxcsr bytes)) passes) in
      let one : IsFile first = part_is_file task.file 0 x87 (lit< tt) (length_taken bytes 0 0) (taken_clean bytes 0 0) (has_x87 task.file.rows file.layout) file in
      let two : IsFile both = part_is_file first 1 xmm (lit< tt) (length_taken bytes 160 1) (taken_clean bytes 160 1) (has_sse task.file.rows file.layout) one in
      let first_bytes = with_part_bytes task.file 0 x87 (omega (arith, file.count)) (taken_are bytes small 0 0) h.file.bytes in
      let v = with_valid (fx_file task.file bytes)
      (record {
        is_file = with_control both (mxcsr bytes) (omega arith) two;
        rows_are = h.file.rows_are;
        bytes = with_part_bytes first 1 xmm (omega (arith, one.count)) (taken_are bytes small 160 1) first_bytes;
        control = control;
      })
      (λ less. part_other first 1 18 xmm (λ e. absurd (cc e)) ∙ part_other task.file 0 18 x87 (λ e. absurd (cc e)) ∙ h.tiles_are less) in
      record { file = v.file; tiles_are = v.tiles_are; frame_size = v.frame_size; frame_bytes = v.frame_bytes; buffer_size = v.buffer_size; buffer_bytes = v.buffer_bytes }
    where
      none_of : (b : Bool) → (if b then Some errors.Mxcsr else None) ≡ None → b ≡ false
      none_of true e = absurd (cc e)
      none_of false e = refl

  -- A set that is accepted leaves a valid task.
  pub set_is_private : (set : Set) (bytes : List ℕ) → AreBytes bytes → set_error task set bytes ≡ None → IsPrivateTask rows (after_set task set bytes)
  set_is_private Xstate bytes small passes = xstate_valid bytes small passes
  set_is_private Fx bytes small passes = fx_valid bytes small passes
