-- A command of a user task whose registers are in the bank.
use Rattle.std.proofs.Common.{◌≡◌, ℕ, zero, suc, ◌+◌, ◌<◌, ◌≤◌, ◌^◌, Bool, true, false, not, ◌&&◌, ◌||◌, ◌==◌, nat_le, List, [], ◌∷◌, length, Option, Some, None, if◌then◌else◌, refl, sym, ap, subst, ◌∙◌, inl, inr, arith}
use Rattle.std.proofs.lemmas.Bool.{and_parts, cases_Bool, cases_eq, cases_lt, leb-true}
use Rattle.std.proofs.lemmas.List.{get_or_past}
use Rattle.std.proofs.Math.ListN.{length-set}
use Rattle.std.specs.Prelude.{slice_index, slice_set as set_at}
use Rattle.std.specs.Int.{from_le_bytes, w32}
use Rattle.std.specs.List.{AllByRecursion}
use Rattle.xs_base.specs.declared.component.Row.{Row}
use Rattle.xs_base.specs.declared.component.Place.{Place}
use Rattle.xs_base.specs.Bytes.{splice}
use Rattle.xs_base.specs.File.{File, IsFile, is_mxcsr, part, with_part, write_place}
use Rattle.xs_base.specs.declared.words.Errno.{Errno}
use Rattle.xs_base.specs.Layout.{has_row}
use Rattle.xs_base.specs.Register.{IsNamed, IsRegister, place_of}
use Rattle.xs_base.specs.Tile.{released_file}
use Rattle.xs_base.proofs.ValidLemmas.{permitted_is_private, released_is_private}
use Rattle.xs_base.specs.Task.{PrivateTask, IsPrivateTask, frame_length, buffer_length}
use Rattle.xs_base.specs.Trail.{read_numbers, write_numbers}
use Rattle.xs_base.proofs.FileLemmas.{part_here, part_other, with_control, write_is_file}
use Rattle.xs_base.proofs.ByteRangeLemmas.{AreBytes, splice_are}
use Rattle.xs_bank.specs.Bank as banks
use Rattle.xs_bank.specs.Bank.{IsReady, counts_of}
use Rattle.xs_bank.specs.Holds.{Holds}
use Rattle.xs_model.specs.declared.script.Command.TheVariants as commands
use Rattle.xs_model.specs.Counts.{exec_of, is_pkru}
use Rattle.xs_model.specs.Line.{asked, next_line, traps}
use Rattle.xs_model.specs.Script.{IsCommand, fits_memory}
use Rattle.xs_task.specs.declared.task.Task.{Task}
use Rattle.xs_task.specs.Private.{HasForm, private_of}
use Rattle.xs_machine.specs.Line.{IsOn, IsUserOn, after_get, after_set, in_place}
use Rattle.xs_machine.proofs.RegisterLemmas.{pkru_place, pkru_written, register_of, set_length, set_control}

-- ---- the file after a write

byte_at : (bytes : List ℕ) → AllByRecursion (λ byte. byte < 256) bytes → (i : ℕ) → slice_index bytes i < 256
byte_at [] fits i = omega arith
byte_at (b ∷ bytes) fits zero = fits.0
byte_at (b ∷ bytes) fits (suc i) = byte_at bytes fits.1 i

small_control : (bytes : List ℕ) → AllByRecursion (λ byte. byte < 256) bytes → slice_index bytes 2 ≡ 0 → slice_index bytes 3 ≡ 0 → from_le_bytes w32 bytes < 2 ^ 16
small_control bytes fits second third = omega (arith, second, third, byte_at bytes fits 0, byte_at bytes fits 1)

pub write_rows : (file : File) (place : Place) (bytes : List ℕ) → (write_place file place bytes).rows ≡ file.rows
write_rows file place bytes = elim (cases_Bool (is_mxcsr place)) [ inl on ↦ rw on refl | inr off ↦ rw off refl ]

part_bytes : (file : File) (c : ℕ) (bytes : List ℕ) → AreBytes bytes → ((d k : ℕ) → slice_index (part file d) k < 256) → (d k : ℕ) → slice_index (part (with_part file c bytes) d) k < 256
part_bytes file c bytes small all d k = elim (cases_eq d c) [
  | inr apart ↦ rw (part_other file c d bytes apart) (all d k)
  | inl here ↦ elim (cases_lt c (length file.parts)) [
    | inl lt ↦ rw (here, part_here file c bytes lt) (small k)
    | inr past ↦ rw (here, get_or_past (set_at file.parts c bytes) c [] (rw length-set past)) (omega arith)
  ]
]

-- A task whose register is set to bytes that fit it stays a valid one.
module _ (rows : List Row) (task : PrivateTask) (reg bytes : List ℕ) (valid : IsPrivateTask rows task) (known : IsCommand rows (commands.Set reg bytes)) (free : traps task (commands.Set reg bytes) ≡ false) where
  -- without room for TILEDATA it isn't a register of it
  not_tiles : task.large ≡ false → (place_of reg).comp.0 ≡ 18 → ⊥
  not_tiles small is =
      let row : has_row task.file.rows 18 ≡ true = rw valid.file.rows_are (subst (λ (c : ℕ). has_row rows c ≡ true) is (register_of rows reg known.0 (known.1.0, known.1.1)).1) in
      let plain : (has_row task.file.rows 18 && not task.large && (((place_of reg).comp.0 == 18) || (true && ((place_of reg).comp.0 == 17)))) ≡ false = free in
      let no : true ≡ false = rw (row, small, is) at plain in
      cc no

  file_bytes : AreBytes bytes
  file_bytes = byte_at bytes known.3

  pub set_is_private : IsPrivateTask rows (record task { file = write_place task.file (place_of reg) bytes })
  set_is_private = elim (cases_Bool (is_mxcsr (place_of reg))) [
    | inl control ↦
        let zero = set_control rows reg bytes known control in
        let small = small_control bytes known.3 zero.0 zero.1 in
        rw control (record {
          file = record {
            is_file = with_control task.file (from_le_bytes w32 bytes) (omega (arith, small)) valid.file.is_file;
            rows_are = valid.file.rows_are;
            bytes = valid.file.bytes;
            control = small;
          };
          tiles_are = valid.tiles_are;
          frame_size = valid.frame_size;
          frame_bytes = valid.frame_bytes;
          buffer_size = valid.buffer_size;
          buffer_bytes = valid.buffer_bytes;
        })
    | inr plain ↦
        let here : IsRegister task.file.rows reg (place_of reg) = rw valid.file.rows_are (register_of rows reg known.0 (known.1.0, known.1.1)) in
        rw plain (record {
          file = record {
            is_file = write_is_file task.file reg (place_of reg) bytes valid.file.is_file here (set_length rows reg bytes known) plain;
            rows_are = valid.file.rows_are;
            bytes = part_bytes task.file (place_of reg).comp.0 (splice (place_of reg).offset bytes (part task.file (place_of reg).comp.0)) (splice_are (place_of reg).offset bytes (part task.file (place_of reg).comp.0) file_bytes (valid.file.bytes (place_of reg).comp.0)) valid.file.bytes;
            control = valid.file.control;
          };
          tiles_are = λ small. part_other task.file (place_of reg).comp.0 18 (splice (place_of reg).offset bytes (part task.file (place_of reg).comp.0)) (λ e. not_tiles small (sym e)) ∙ valid.tiles_are small;
          frame_size = valid.frame_size;
          frame_bytes = valid.frame_bytes;
          buffer_size = valid.buffer_size;
          buffer_bytes = valid.buffer_bytes;
        })
  ]

-- ---- the instruction of a line

-- what the instruction that sets a register leaves
module _ (old new : banks.Bank) (reg bytes : List ℕ) (after : new ≡ after_set old (place_of reg) bytes) where
  pub set_rows : new.file.rows ≡ old.file.rows
  set_rows = elim (cases_Bool (is_pkru (place_of reg))) [ inl nine ↦ rw (after, nine) refl | inr other ↦ rw (after, other) (write_rows old.file (place_of reg) bytes) ]

  set_armed : new.armed ≡ old.armed
  set_armed = elim (cases_Bool (is_pkru (place_of reg))) [ inl nine ↦ rw (after, nine) refl | inr other ↦ rw (after, other) refl ]

  set_file : IsFile old.file → (place : Place) → IsNamed reg place → length bytes ≡ (place_of reg).len → AreBytes bytes → new.file ≡ write_place old.file (place_of reg) bytes
  set_file good place named len small = elim (cases_Bool (is_pkru (place_of reg))) [
    | inl nine ↦
        let four : length bytes ≡ 4 = len ∙ ap (λ (p : Place). p.len) (pkru_place reg place named nine) in
        rw (after, nine) (pkru_written old.file reg bytes good place named nine four small)
    | inr other ↦ rw (after, other) refl
  ]

  -- that of PKRU isn't counted
  pub set_counts : counts_of new ≡ exec_of (if is_pkru (place_of reg) then None else Some (write_numbers (place_of reg) bytes)) (counts_of old)
  set_counts = elim (cases_Bool (is_pkru (place_of reg))) [ inl nine ↦ rw (after, nine) refl | inr other ↦ rw (after, other) refl ]

-- what the instruction that reads a register leaves
module _ (old new : banks.Bank) (reg bytes : List ℕ) (after : new ≡ after_get old (place_of reg) bytes) where
  pub get_rows : new.file.rows ≡ old.file.rows
  get_rows = elim (cases_Bool (is_pkru (place_of reg))) [ inl nine ↦ rw (after, nine) refl | inr other ↦ rw (after, other) refl ]

  pub get_counts : counts_of new ≡ exec_of (if is_pkru (place_of reg) then None else Some (read_numbers (place_of reg) bytes)) (counts_of old)
  get_counts = elim (cases_Bool (is_pkru (place_of reg))) [ inl nine ↦ rw (after, nine) refl | inr other ↦ rw (after, other) refl ]

-- ---- what a line leaves of the task

-- The task at the next line is a task in the same bank.
pub next_on : (rows : List Row) (task : Task) (bank : banks.Bank) (private : PrivateTask) (new : Task) → new ≡ record task { place = task.place + 1 } → IsUserOn rows task bank private → IsUserOn rows new bank (next_line private)
next_on rows task bank private new is on =
    rw is (record {
      whole = record { frame = on.whole.frame; buffer = on.whole.buffer; some = on.whole.some; area = on.whole.area };
      ready = on.ready;
      running = record {
        valid = record { file = on.running.valid.file; tiles_are = on.running.valid.tiles_are; frame_size = on.running.valid.frame_size; frame_bytes = on.running.valid.frame_bytes; buffer_size = on.running.valid.buffer_size; buffer_bytes = on.running.valid.buffer_bytes };
        form = ap next_line on.running.form;
        pkru = on.running.pkru;
        saved = on.running.saved;
        whole = on.running.whole;
      };
    })

-- the task behind its line
pub advanced : (user : Bool) (rows : List Row) (task : Task) (bank : banks.Bank) (p : PrivateTask) → IsOn user rows task bank p → IsOn user rows (record task { place = task.place + 1 }) bank (next_line p)
advanced true rows task bank p on = next_on rows task bank p (record task { place = task.place + 1 }) refl on
advanced false rows task bank p on = record { home = record { lease = on.home.lease; frame = on.home.frame; buffer = on.home.buffer; place = ap (λ n. n + 1) on.home.place }; outside = on.outside; pkru = on.pkru }

-- The file of the task in the bank has changed, as the bank's has.
module _ (rows : List Row) (task : Task) (old new : banks.Bank) (file : File) (loaded : task.need_load ≡ false)
    (file_is : new.file ≡ file) (armed_is : new.armed ≡ old.armed) (ready : (id m : ℕ) (area : List ℕ) → IsReady old id m area → IsReady new id m area)
    (p : PrivateTask) (on : IsUserOn rows task old p) where
  changed_on : IsPrivateTask rows (record p { file = file }) → IsUserOn rows task new (record p { file = file })
  changed_on valid = record {
    whole = on.whole;
    ready = λ _ lease is. record { armed = armed_is ∙ (on.ready loaded lease is).armed; ready = ready _ _ _ (on.ready loaded lease is).ready };
    running = record {
      valid = valid;
      form = ap (λ (q : PrivateTask). record q { file = file }) on.running.form;
      pkru = ap (λ f. part f 9) file_is;
      saved = λ needs. absurd (cc);
      whole = λ _. file_is;
    };
  }

  changed_holds : file.rows ≡ p.file.rows → Holds old p → Holds new (record p { file = file })
  changed_holds same holds = record {
    file = rw file_is (record { rows_are = refl; parts = λ c apart. refl; control = refl });
    armed = rw (armed_is, same) holds.armed;
  }

-- A register of the task in the bank is set.
module _ (rows : List Row) (task : Task) (old new : banks.Bank) (reg bytes : List ℕ) (known : IsCommand rows (commands.Set reg bytes)) (loaded : task.need_load ≡ false)
    (after : new ≡ after_set old (place_of reg) bytes)
    (ready : (id m : ℕ) (area : List ℕ) → IsReady old id m area → IsReady new id m area)
    (p : PrivateTask) (on : IsUserOn rows task old p) where
  file_is : new.file ≡ write_place p.file (place_of reg) bytes
  file_is =
      let was : old.file ≡ p.file = on.running.whole loaded in
      set_file old new reg bytes after (rw was on.running.valid.file.is_file) known.0 known.1.0 (set_length rows reg bytes known) (byte_at bytes known.3) ∙ ap (λ f. write_place f (place_of reg) bytes) was

  pub set_on : traps p (commands.Set reg bytes) ≡ false → IsUserOn rows task new (in_place p (commands.Set reg bytes))
  set_on free =
      changed_on rows task old new (write_place p.file (place_of reg) bytes) loaded file_is (set_armed old new reg bytes after) ready p on (set_is_private rows p reg bytes on.running.valid known free)

  pub set_holds : Holds old p → Holds new (in_place p (commands.Set reg bytes))
  set_holds =
      changed_holds rows task old new (write_place p.file (place_of reg) bytes) loaded file_is (set_armed old new reg bytes after) ready p on (write_rows p.file (place_of reg) bytes)

-- The tiles of the task in the bank are released.
module _ (rows : List Row) (task : Task) (old new : banks.Bank) (loaded : task.need_load ≡ false)
    (file : new.file ≡ released_file old.file) (armed : new.armed ≡ old.armed) (ready : (id m : ℕ) (area : List ℕ) → IsReady old id m area → IsReady new id m area)
    (p : PrivateTask) (on : IsUserOn rows task old p) where
  released_is : new.file ≡ released_file p.file
  released_is = file ∙ ap released_file (on.running.whole loaded)

  pub release_on : IsUserOn rows task new (in_place p commands.Tilerelease)
  release_on = changed_on rows task old new (released_file p.file) loaded released_is armed ready p on (released_is_private rows p on.running.valid)

  pub release_holds : Holds old p → Holds new (in_place p commands.Tilerelease)
  release_holds = changed_holds rows task old new (released_file p.file) loaded released_is armed ready p on refl

-- A register of the task in the bank is read.
module _ (rows : List Row) (task : Task) (old new : banks.Bank) (reg bytes : List ℕ) (loaded : task.need_load ≡ false)
    (after : new ≡ after_get old (place_of reg) bytes)
    (p : PrivateTask) (on : IsUserOn rows task old p) where
  pub read_on : IsUserOn rows task new p
  read_on = elim (cases_Bool (is_pkru (place_of reg))) [
    | inl nine ↦ rw (after, nine) on
    | inr other ↦
        rw (after, other) (record {
          whole = on.whole;
          ready = λ off lease is. record { armed = (on.ready off lease is).armed; ready = (on.ready off lease is).ready };
          running = record {
            valid = on.running.valid;
            form = on.running.form;
            pkru = on.running.pkru;
            saved = on.running.saved;
            whole = on.running.whole;
          };
        })
  ]

  pub read_holds : Holds old p → Holds new p
  read_holds holds = elim (cases_Bool (is_pkru (place_of reg))) [
    | inl nine ↦ rw (after, nine) (record { file = holds.file; armed = holds.armed })
    | inr other ↦ rw (after, other) (record { file = holds.file; armed = holds.armed })
  ]

-- ---- leave to use TILEDATA

-- a request leaves the place, the handler, the registers and the room
pub asked_same : (error : Option Errno) (p : PrivateTask) → ((asked error p).place ≡ p.place) × ((asked error p).handling ≡ p.handling) × ((asked error p).file ≡ p.file) × ((asked error p).large ≡ p.large)
asked_same None p = (refl, refl, refl, refl)
asked_same (Some error) p = (refl, refl, refl, refl)

asked_valid : (rows : List Row) (error : Option Errno) (p : PrivateTask) → IsPrivateTask rows p → IsPrivateTask rows (asked error p)
asked_valid rows None p valid = permitted_is_private rows p valid
asked_valid rows (Some error) p valid = valid

-- The task in the bank has asked.
pub ask_on : (rows : List Row) (task new_task : Task) (bank : banks.Bank) (error : Option Errno) (p : PrivateTask) → new_task ≡ record task { permitted = new_task.permitted } → HasForm new_task (asked error p) → IsUserOn rows task bank p
    → IsUserOn rows new_task bank (asked error p)
ask_on rows task new_task bank error p rest form on =
    let same = asked_same error p in
    let lease : new_task.lease ≡ task.lease = ap (λ (x : Task). x.lease) rest in
    let flag : new_task.need_load ≡ task.need_load = ap (λ (x : Task). x.need_load) rest in
    record {
      whole = record {
        frame = ap (λ (x : Task). length x.frame.items) rest ∙ on.whole.frame;
        buffer = ap (λ (x : Task). length x.buffer.items) rest ∙ on.whole.buffer;
        some = λ none. on.whole.some (sym lease ∙ none);
        area = λ area is. on.whole.area area (sym lease ∙ is);
      };
      ready = λ off area is. on.ready (sym flag ∙ off) area (sym lease ∙ is);
      running = record {
        valid = asked_valid rows error p on.running.valid;
        form = form;
        pkru = on.running.pkru ∙ ap (λ f. part f 9) (sym same.2);
        saved = λ off area is. rw same.2 (on.running.saved (sym flag ∙ off) area (sym lease ∙ is));
        whole = λ off. on.running.whole (sym flag ∙ off) ∙ sym same.2;
      };
    }

-- ---- the two memories

-- Bytes from a place on lie within so many.
pub fits_within : (size at len : ℕ) → fits_memory size at len ≡ true → (at + len ≤ size) × (len ≤ 64)
fits_within size at len fits =
    let high = and_parts (nat_le 1 len && nat_le len 64) (nat_le (at + len) size) fits in
    let low = and_parts (nat_le 1 len) (nat_le len 64) high.0 in
    (leb-true (at + len) size high.1, leb-true len 64 low.1)

-- The memories of the task in the bank have other bytes.
module _ (rows : List Row) (task new_task : Task) (bank : banks.Bank) (frame buffer : List ℕ)
    (others : new_task ≡ record task { frame = new_task.frame; buffer = new_task.buffer }) (frame_is : new_task.frame.items ≡ frame) (buffer_is : new_task.buffer.items ≡ buffer)
    (frame_size : length new_task.frame.items ≡ frame_length) (buffer_size : length new_task.buffer.items ≡ buffer_length) (frame_bytes : AreBytes frame) (buffer_bytes : AreBytes buffer)
    (p : PrivateTask) (on : IsUserOn rows task bank p) where
  lease_is : new_task.lease ≡ task.lease
  lease_is = ap (λ (x : Task). x.lease) others

  flag_is : new_task.need_load ≡ task.need_load
  flag_is = ap (λ (x : Task). x.need_load) others

  memories_form : record p { frame = frame; buffer = buffer } ≡ private_of new_task p.file p.marks
  memories_form =
      ap (λ (q : PrivateTask). record q { frame = frame; buffer = buffer }) on.running.form
      ∙ ap (λ (f : List ℕ). record (private_of task p.file p.marks) { frame = f; buffer = buffer }) (sym frame_is)
      ∙ ap (λ (b : List ℕ). record (private_of task p.file p.marks) { frame = new_task.frame.items; buffer = b }) (sym buffer_is)
      ∙ sym (ap (λ (x : Task). private_of x p.file p.marks) others)

  memories_on : IsUserOn rows new_task bank (record p { frame = frame; buffer = buffer })
  memories_on = record {
    whole = record {
      frame = frame_size;
      buffer = buffer_size;
      some = λ none. on.whole.some (sym lease_is ∙ none);
      area = λ lease is. on.whole.area lease (sym lease_is ∙ is);
    };
    ready = λ off lease is. on.ready (sym flag_is ∙ off) lease (sym lease_is ∙ is);
    running = record {
      valid = record {
        file = on.running.valid.file;
        tiles_are = on.running.valid.tiles_are;
        frame_size = sym (ap length frame_is) ∙ frame_size;
        frame_bytes = frame_bytes;
        buffer_size = sym (ap length buffer_is) ∙ buffer_size;
        buffer_bytes = buffer_bytes;
      };
      form = memories_form;
      pkru = on.running.pkru;
      saved = λ off lease is. on.running.saved (sym flag_is ∙ off) lease (sym lease_is ∙ is);
      whole = λ off. on.running.whole (sym flag_is ∙ off);
    };
  }

-- Bytes of the frame are written, or bytes of the buffer.
module _ (rows : List Row) (task new_task : Task) (bank : banks.Bank) (at : ℕ) (bytes : List ℕ) (p : PrivateTask) (on : IsUserOn rows task bank p) where
  frame_was : task.frame.items ≡ p.frame
  frame_was = sym (ap (λ (q : PrivateTask). q.frame) on.running.form)

  buffer_was : task.buffer.items ≡ p.buffer
  buffer_was = sym (ap (λ (q : PrivateTask). q.buffer) on.running.form)

  pub poke_on : IsCommand rows (commands.Poke at bytes) → new_task ≡ record task { frame = new_task.frame } → new_task.frame.items ≡ splice at bytes task.frame.items → length new_task.frame.items ≡ length task.frame.items
      → IsUserOn rows new_task bank (in_place p (commands.Poke at bytes))
  poke_on known others written len =
      let kept = ap (λ (x : Task). x.buffer) others in
      memories_on rows task new_task bank (splice at bytes p.frame) p.buffer
      (others ∙ ap (λ b. record task { frame = new_task.frame; buffer = b }) (sym kept)) (written ∙ ap (splice at bytes) frame_was) (ap (λ b. b.items) kept ∙ buffer_was)
      (len ∙ on.whole.frame) (ap (λ b. length b.items) kept ∙ on.whole.buffer) (splice_are at bytes p.frame (byte_at bytes known.1) on.running.valid.frame_bytes) on.running.valid.buffer_bytes p on

  pub bpoke_on : IsCommand rows (commands.Bpoke at bytes) → new_task ≡ record task { buffer = new_task.buffer } → new_task.buffer.items ≡ splice at bytes task.buffer.items → length new_task.buffer.items ≡ length task.buffer.items
      → IsUserOn rows new_task bank (in_place p (commands.Bpoke at bytes))
  bpoke_on known others written len =
      let kept = ap (λ (x : Task). x.frame) others in
      memories_on rows task new_task bank p.frame (splice at bytes p.buffer)
      (others ∙ ap (λ f. record task { frame = f; buffer = new_task.buffer }) (sym kept)) (ap (λ f. f.items) kept ∙ frame_was) (written ∙ ap (splice at bytes) buffer_was)
      (ap (λ f. length f.items) kept ∙ on.whole.frame) (len ∙ on.whole.buffer) on.running.valid.frame_bytes (splice_are at bytes p.buffer (byte_at bytes known.1) on.running.valid.buffer_bytes) p on
