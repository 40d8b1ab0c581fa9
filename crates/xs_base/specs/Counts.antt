-- The counts of a bank, as four numbers: what each call adds is a function of them. This project's own.
use Rattle.std.specs.Prelude.{ℕ, Bool, List, replicate, if◌then◌else◌}
use Rattle.xs_base.specs.declared.component.Place.{Place}
use Rattle.xs_base.specs.declared.words.How.{How}
use Rattle.xs_base.specs.declared.words.How.TheVariants.{Load, Skip, Kern}
use Rattle.xs_base.specs.Component.{sse_number}
use Rattle.xs_base.specs.Register.{place_at}
use Rattle.xs_base.specs.Trail.{mixed, counted, write_numbers}

pub record Counts : Type 0 where
  pub execs : ℕ
  pub trail : ℕ
  pub loads : ℕ
  pub saves : ℕ

abbrev pub one_load : Counts → Counts
one_load counts = record counts { loads = counted counts.loads }

abbrev pub one_save : Counts → Counts
one_save counts = record counts { saves = counted counts.saves }

-- one instruction of these numbers
abbrev pub one_exec : List ℕ → Counts → Counts
one_exec numbers counts = record counts { execs = counted counts.execs; trail = mixed counts.trail numbers }

-- A turn starts: its registers come by a load, or they are there, or a kernel thread has none.
abbrev pub after_start : How → Counts → Counts
after_start Load counts = one_load counts
after_start Skip counts = counts
after_start Kern counts = counts

-- a load where the registers aren't in the bank, and a save where they are
abbrev pub load_if : Bool → Counts → Counts
load_if needed counts = if needed then one_load counts else counts

abbrev pub save_if : Bool → Counts → Counts
save_if in_bank counts = if in_bank then one_save counts else counts

abbrev pub xmm0 : Place
xmm0 = place_at sse_number 0 16

-- the bytes that a kernel section writes to XMM0
unfoldable pub section_bytes : ℕ → List ℕ
section_bytes byte = replicate 16 byte

-- the write of a kernel section
abbrev pub one_section : ℕ → Counts → Counts
one_section byte counts = one_exec (write_numbers xmm0 (section_bytes byte)) counts
