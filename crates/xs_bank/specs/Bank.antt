-- A bank: the extended registers of one processor, and what its instructions do (SDM volume 1, chapter 13). The counts and
-- the trail are this project's own, as is that a trap changes nothing.
use Rattle.std.specs.Prelude.{◌≡◌, ℕ, ◌^◌, Bool, true, false, not, ◌&&◌, ◌||◌, ◌==◌, List, slice_get, Option, Some, None, if◌then◌else◌, bit_or}
use Rattle.xs_base.specs.declared.component.Row.{Row}
use Rattle.xs_base.specs.declared.component.Place.{Place}
use Rattle.xs_bank.specs.declared.instruction.Trap.{Trap}
use Rattle.xs_bank.specs.declared.instruction.Trap.TheVariants.{Nm}
use Rattle.xs_bank.specs.declared.instruction.Execs.{Execs}
use Rattle.xs_base.specs.Sets.{has}
use Rattle.xs_base.specs.Component.{component_numbers, initial_part, sse_number, pkru_number, tilecfg_number, tiledata_number}
use Rattle.xs_base.specs.Layout.{has_row, set_of}
use Rattle.xs_base.specs.Compact.{place, is_compacted, compacted}
use Rattle.xs_base.specs.File.{File, part, with_part, with_pkru, initial_file, write_place, in_use, is_saved}
use Rattle.xs_base.specs.Header.{xstate_bv, xcomp_bv}
use Rattle.xs_base.specs.Area.{StandsAt, control_in}
use Rattle.xs_base.specs.Counts.{Counts}
use Rattle.xs_base.specs.Tile.{released_file}
use Rattle.xs_base.specs.Trail.{mixed, read_numbers, write_numbers, release_numbers, counted}
use Rattle.xs_bank.specs.Load.{tiles}
use Rattle.xs_bank.specs.Save.{IsStandardSave, IsCompactedSave}

-- The area that was loaded last: its number, its XCOMP_BV, and the components that were changed since.
pub record Tracked : Type 0 where
  pub id : ℕ
  pub names : ℕ
  pub modified : ℕ

-- `armed` is the set of IA32_XFD.
pub record Bank : Type 0 where
  pub file : File
  pub armed : ℕ
  pub tracked : Option Tracked
  pub execs : Execs
  pub loads : ℕ
  pub saves : ℕ

-- The bank has counted no instruction, no load and no save.
pub record HasCountedNothing (bank : Bank) : Type 0 where
  pub execs : bank.execs ≡ record { count = 0; trail = 0 }
  pub loads : bank.loads ≡ 0
  pub saves : bank.saves ≡ 0

-- the counts alone
abbrev pub counts_of : Bank → Counts
counts_of bank = record { execs = bank.execs.count; trail = bank.execs.trail; loads = bank.loads; saves = bank.saves }

-- ---- what instructions leave

-- the bank after an instruction of these numbers
abbrev pub executed : Bank → List ℕ → Bank
executed bank numbers = record bank { execs = record { count = counted bank.execs.count; trail = mixed bank.execs.trail numbers } }

abbrev pub touch : ℕ → Option Tracked → Option Tracked
touch set None = None
touch set (Some t) = Some (record t { modified = bit_or t.modified set })

-- the bank with this file, of which these components were changed
abbrev pub changed : Bank → File → ℕ → Bank
changed bank file set = record bank { file = file; tracked = touch set bank.tracked }

abbrev pub after_read : Bank → Place → List ℕ → Bank
after_read bank place bytes = executed bank (read_numbers place bytes)

abbrev pub after_write : Bank → Place → List ℕ → Bank
after_write bank place bytes = executed (changed bank (write_place bank.file place bytes) (2 ^ place.comp.0)) (write_numbers place bytes)

-- TILECFG and TILEDATA are initial.
abbrev pub after_release : Bank → Bank
after_release bank = executed (changed bank (released_file bank.file) 0x60000) release_numbers

abbrev pub after_wrpkru : Bank → ℕ → Bank
after_wrpkru bank value = changed bank (with_pkru bank.file value) (2 ^ pkru_number)

-- Arming TILEDATA makes it initial: this is the project's own.
abbrev pub disarmed_file : File → ℕ → File
disarmed_file file armed = if has armed tiledata_number then with_part file tiledata_number (initial_part tiledata_number) else file

abbrev pub after_xfd : Bank → ℕ → Bank
after_xfd bank armed = record (changed bank (disarmed_file bank.file armed) armed) { armed = armed }

-- the bank set up for the machine with these rows: the counts stay
abbrev pub set_up : Bank → List Row → Bank
set_up bank rows = record bank { file = initial_file rows; armed = if has_row rows tiledata_number then tiles else 0; tracked = None }

-- ---- #NM of an instruction on registers where these components are armed (SDM volume 1, 13.14; that a write of TILECFG
-- traps is this project's own)

abbrev pub read_trap : ℕ → Place → Option Trap
read_trap armed place = if has armed tiledata_number && (place.comp.0 == tiledata_number) then Some (Nm (record { 0 = tiles })) else None

abbrev pub write_trap : ℕ → Place → Option Trap
write_trap armed place = if has armed tiledata_number && ((place.comp.0 == tilecfg_number) || (place.comp.0 == tiledata_number)) then Some (Nm (record { 0 = tiles })) else None

-- ---- the tracked area (SDM volume 1, 13.6: XRSTOR_INFO and XMODIFIED; that an area is known by its number, and not by its
-- address, is this project's own)

-- A load tracks its area. The components outside its mask count as changed.
abbrev pub loaded_from : List Row → ℕ → ℕ → List ℕ → Tracked
loaded_from rows id mask area = record { id = id; names = xcomp_bv area; modified = set_of (λ c. has_row rows c && not (has mask c)) component_numbers }

-- The bank tracks an area of this number and this XCOMP_BV, and component c wasn't changed since.
abbrev pub is_unmodified : Option Tracked → ℕ → ℕ → ℕ → Bool
is_unmodified None id names c = false
is_unmodified (Some t) id names c = (t.id == id) && (t.names == names) && not (has t.modified c)

-- The row's component stands in the area for the file's: at its place, or initial without its bit. In the compacted format
-- MXCSR goes with SSE; in the standard format it is of no component, and every save of SSE writes it.
pub record IsKept (file : File) (area : List ℕ) (r : Row) : Type 0 where
  pub present : has (xstate_bv area) r.comp.0 ≡ true → StandsAt area (place file.rows (xcomp_bv area) r) file r.comp.0
  pub absent : has (xstate_bv area) r.comp.0 ≡ false → part file r.comp.0 ≡ initial_part r.comp.0
  pub control : r.comp.0 ≡ sse_number → is_compacted (xcomp_bv area) ≡ true → file.mxcsr ≡ control_in area

-- Each component of the mask that wasn't changed since this area was loaded stands in it for the file's.
abbrev pub StandsUnmodified : File → Option Tracked → ℕ → ℕ → List ℕ → Type 0
StandsUnmodified file tracked id mask area = (i : ℕ) (r : Row) → slice_get file.rows i ≡ Some r → has mask r.comp.0 ≡ true → is_unmodified tracked id (xcomp_bv area) r.comp.0 ≡ true → IsKept file area r

-- What a save may rely on.
abbrev pub IsReady : Bank → ℕ → ℕ → List ℕ → Type 0
IsReady bank id mask area = StandsUnmodified bank.file bank.tracked id mask area

-- ---- saves with a free choice

-- XSAVEOPT: it writes each component of the mask that is in use, but may leave out those that weren't changed since the
-- area was loaded.
pub record SavesStandard (bank : Bank) (id mask : ℕ) (before after : List ℕ) : Type 0 where
  pub written : ℕ
  pub within : (c : ℕ) → has written c ≡ true → has mask c ≡ true
  pub left : (c : ℕ) → has mask c ≡ true → in_use bank.file c ≡ true → has written c ≡ false → is_unmodified bank.tracked id (xcomp_bv before) c ≡ true
  pub saved : IsStandardSave bank.file mask written before after

-- XSAVES: the same, where the area keeps its XCOMP_BV.
pub record SavesCompacted (bank : Bank) (id mask : ℕ) (before after : List ℕ) : Type 0 where
  pub written : ℕ
  pub within : (c : ℕ) → has written c ≡ true → has mask c ≡ true
  pub left : (c : ℕ) → has mask c ≡ true → is_saved bank.file c ≡ true → has written c ≡ false → (is_unmodified bank.tracked id (xcomp_bv before) c ≡ true) × (xcomp_bv before ≡ compacted mask)
  pub saved : IsCompactedSave bank.file mask written before after
