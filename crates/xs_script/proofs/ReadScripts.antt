-- The script that lines are which pass: its schedule, its numbers and its machine.
use Rattle.std.proofs.Common.{◌≡◌, ℕ, ◌+◌, ◌<◌, ◌≤◌, Bool, true, false, ◌&&◌, nat_le, List, [], ◌∷◌, ◌++◌, length, map, Option, Some, None, Ok, Err, refl, sym, ◌∙◌, ap, subst, arith, length-append}
use Rattle.std.specs.Prelude.{if◌then◌else◌}
use Rattle.std.specs.List.{AllByRecursion}
use Rattle.std.proofs.lemmas.Bool.{and_parts}
use Rattle.std.proofs.lemmas.Bool.Decides.{nat_tests}
use Rattle.std.proofs.lemmas.List.{append_assoc, append-nil}
use Rattle.xs_base.specs.declared.component.Row.{Row}
use Rattle.xs_base.specs.declared.layout_error.LayoutError.{LayoutError}
use Rattle.xs_base.specs.Layout.{IsLayout, row_error, table_error, first_row_fault, layout_fault}
use Rattle.xs_base.proofs.LayoutLemmas.{amx_is_layout, avx_is_layout}
use Rattle.xs_model.specs.declared.script.Named.{Named}
use Rattle.xs_model.specs.declared.script.Named.TheVariants.{Amx, Avx, Rows}
use Rattle.xs_model.specs.Script.{IsTableOf}
use Rattle.xs_script.specs.declared.line.Line.{Line}
use Rattle.xs_script.specs.declared.line.Line.TheVariants as lines
use Rattle.xs_script.specs.declared.refusal.Kind.TheVariants.{Limit}
use Rattle.xs_script.specs.declared.refusal.LimitName.{LimitName}
use Rattle.xs_script.specs.declared.refusal.LimitName.TheVariants as limits
use Rattle.xs_script.specs.Grammar.{row_lines, sched_lines}
use Rattle.xs_script.specs.LineOrder.{Stand, AtVersion, AtMachine, AtRow, AtCpus, AtQuantum, AtLarge, AtSched, AtBlock, may_end, fits_sched, next, after_row, after_rows, Leads}
use Rattle.xs_script.proofs.BlockParts.{all_join}
use Rattle.xs_script.proofs.EntryTests.{joined, within_parts}
use Rattle.xs_script.proofs.ReadBlocks.{not_over}

-- ---- the schedule

-- The lines are those of a schedule, and blocks, where so many entries came.
pub record IsSched (cpus count : ℕ) (ls : List Line) (end : Stand) : Type 0 where
  pub groups : List (List ℕ)
  pub later : List Line
  pub split : ls ≡ sched_lines groups ++ later
  pub below : AllByRecursion (λ entry. entry < cpus) (joined groups)
  pub few : count + length (joined groups) ≤ 4096
  pub leads : Leads (AtBlock []) later end

sched_parts : (cpus count : ℕ) (entries : List ℕ) (b : Bool) (mid : Stand) → b ≡ fits_sched cpus count entries → (if b then Ok (AtSched cpus (count + length entries)) else Err (Limit limits.Sched)) ≡ Ok mid → AllByRecursion (λ entry. entry < cpus) entries × (count + length entries ≤ 4096) × (AtSched cpus (count + length entries) ≡ mid)
sched_parts cpus count entries false mid is h = absurd (cc h)
sched_parts cpus count entries true mid is h =
    let parts = within_parts cpus count entries (sym is) in
    (parts.0, parts.1, cc h)

sched_read : (cpus count : ℕ) (ls : List Line) (end : Stand) → count ≤ 4096 → Leads (AtSched cpus count) ls end → may_end end ≡ true → IsSched cpus count ls end
sched_read cpus count [] end few leads whole = absurd (not_over (AtSched cpus count) end refl leads whole)
sched_read cpus count (lines.Sched entries ∷ ls) end few (mid, step, leads) whole =
    let parts = sched_parts cpus count entries (fits_sched cpus count entries) mid refl step in
    let r = sched_read cpus (count + length entries) ls end parts.1 (subst (λ (s : Stand). Leads s ls end) (sym parts.2) leads) whole in
    let long : length (entries ++ joined r.groups) ≡ length entries + length (joined r.groups) = length-append entries (joined r.groups) in
    record {
      groups = entries ∷ r.groups;
      later = r.later;
      split = ap (λ (xs : List Line). lines.Sched entries ∷ xs) r.split;
      below = all_join (λ entry. entry < cpus) entries (joined r.groups) parts.0 r.below;
      few = omega (arith, long, r.few);
      leads = r.leads;
    }
sched_read cpus count (lines.Begin kind name ∷ ls) end few (mid, step, leads) whole = record {
  groups = [];
  later = lines.Begin kind name ∷ ls;
  split = refl;
  below = tt;
  few = omega arith;
  leads = (mid, step, leads);
}
sched_read cpus count (l ∷ ls) end few (mid, step, leads) whole = absurd (cc step)

-- ---- the numbers

-- The lines after the machine: its processors, the quantum, the Large areas, the schedule, and blocks.
pub record AreNumbers (ls : List Line) (end : Stand) : Type 0 where
  pub cpus : ℕ
  pub quantum : ℕ
  pub large : ℕ
  pub after : List Line
  pub split : ls ≡ lines.Cpus cpus ∷ lines.Quantum quantum ∷ lines.Large large ∷ after
  pub cpus_fits : (0 < cpus) × (cpus ≤ 16)
  pub quantum_fits : (0 < quantum) × (quantum ≤ 32)
  pub large_fits : large ≤ 64
  pub sched : IsSched cpus 0 after end

-- a number between two bounds, by its test
between : (n high : ℕ) → (nat_le 1 n && nat_le n high) ≡ true → (0 < n) × (n ≤ high)
between n high h =
    let parts = and_parts (nat_le 1 n) (nat_le n high) h in
    (low n parts.0, top n high parts.1)
  where
    low : (n : ℕ) → nat_le 1 n ≡ true → 0 < n
    low n h = grind (arith, nat_tests)

    top : (n high : ℕ) → nat_le n high ≡ true → n ≤ high
    top n high h = grind (arith, nat_tests)

-- what a number leads to, by its test
number_parts : (test : Bool) (to mid : Stand) (limit : LimitName) → (if test then Ok to else Err (Limit limit)) ≡ Ok mid → (test ≡ true) × (to ≡ mid)
number_parts true to mid limit h = (refl, cc h)
number_parts false to mid limit h = absurd (cc h)

-- the line of the Large areas
pub record IsLarge (cpus : ℕ) (ls : List Line) (end : Stand) : Type 0 where
  pub large : ℕ
  pub later : List Line
  pub split : ls ≡ lines.Large large ∷ later
  pub fits : large ≤ 64
  pub sched : IsSched cpus 0 later end

large_read : (cpus : ℕ) (ls : List Line) (end : Stand) → Leads (AtLarge cpus) ls end → may_end end ≡ true → IsLarge cpus ls end
large_read cpus [] end leads whole = absurd (not_over (AtLarge cpus) end refl leads whole)
large_read cpus (lines.Large n ∷ ls) end (mid, step, leads) whole =
    let parts = number_parts (nat_le n 64) (AtSched cpus 0) mid limits.Large step in
    let few : n ≤ 64 = high n parts.0 in
    record { large = n; later = ls; split = refl; fits = few; sched = sched_read cpus 0 ls end (omega arith) (subst (λ (s : Stand). Leads s ls end) (sym parts.1) leads) whole }
  where
    high : (n : ℕ) → nat_le n 64 ≡ true → n ≤ 64
    high n h = grind (arith, nat_tests)
large_read cpus (l ∷ ls) end (mid, step, leads) whole = absurd (cc step)

-- the quantum's line, and the next
numbers_read : (cpus : ℕ) (ls : List Line) (end : Stand) → (0 < cpus) × (cpus ≤ 16) → Leads (AtQuantum cpus) ls end → may_end end ≡ true → AreNumbers (lines.Cpus cpus ∷ ls) end
numbers_read cpus [] end fits leads whole = absurd (not_over (AtQuantum cpus) end refl leads whole)
numbers_read cpus (lines.Quantum n ∷ ls) end fits (mid, step, leads) whole =
    let parts = number_parts (nat_le 1 n && nat_le n 32) (AtLarge cpus) mid limits.Quantum step in
    let r = large_read cpus ls end (subst (λ (s : Stand). Leads s ls end) (sym parts.1) leads) whole in
    record { cpus = cpus; quantum = n; large = r.large; after = r.later; split = ap (λ (xs : List Line). lines.Cpus cpus ∷ lines.Quantum n ∷ xs) r.split; cpus_fits = fits; quantum_fits = between n 32 parts.0; large_fits = r.fits; sched = r.sched }
numbers_read cpus (l ∷ ls) end fits (mid, step, leads) whole = absurd (cc step)

after_cpus_read : (n : ℕ) (mid end : Stand) (ls : List Line) → next AtCpus (lines.Cpus n) ≡ Ok mid → Leads mid ls end → may_end end ≡ true → AreNumbers (lines.Cpus n ∷ ls) end
after_cpus_read n mid end ls step leads whole =
    let parts = number_parts (nat_le 1 n && nat_le n 16) (AtQuantum n) mid limits.Cpus step in
    numbers_read n ls end (between n 16 parts.0) (subst (λ (s : Stand). Leads s ls end) (sym parts.1) leads) whole

cpus_read : (ls : List Line) (end : Stand) → Leads AtCpus ls end → may_end end ≡ true → AreNumbers ls end
cpus_read [] end leads whole = absurd (not_over AtCpus end refl leads whole)
cpus_read (lines.Cpus n ∷ ls) end (mid, step, leads) whole = after_cpus_read n mid end ls step leads whole
cpus_read (l ∷ ls) end (mid, step, leads) whole = absurd (cc step)

-- ---- the machine

-- The lines after the rows so far: rows, and the numbers.
pub record AreRows (done : List Row) (ls : List Line) (end : Stand) : Type 0 where
  pub rows : List Row
  pub later : List Line
  pub split : ls ≡ map lines.Row rows ++ later
  pub each : first_row_fault done rows ≡ None
  pub whole : table_error (done ++ rows) ≡ None
  pub numbers : AreNumbers later end

row_parts : (rows : List Row) (r : Row) (e : Option LayoutError) (mid : Stand) → e ≡ row_error rows r → after_row rows r e ≡ Ok mid → (row_error rows r ≡ None) × (AtRow (rows ++ r ∷ []) ≡ mid)
row_parts rows r None mid is h = (sym is, cc h)
row_parts rows r (Some e) mid is h = absurd (cc h)

cpus_parts : (rows : List Row) (n : ℕ) (e : Option LayoutError) (mid : Stand) → e ≡ table_error rows → after_rows n e ≡ Ok mid → (table_error rows ≡ None) × (next AtCpus (lines.Cpus n) ≡ Ok mid)
cpus_parts rows n None mid is h = (sym is, h)
cpus_parts rows n (Some e) mid is h = absurd (cc h)

one_row_first : (done : List Row) (r : Row) (rows : List Row) → row_error done r ≡ None → first_row_fault (done ++ r ∷ []) rows ≡ None → first_row_fault done (r ∷ rows) ≡ None
unfolding first_row_fault
one_row_first done r rows h g = rw (h, g) refl

no_row_fails : (done : List Row) → first_row_fault done [] ≡ None
unfolding first_row_fault
no_row_fails done = refl

rows_read : (done : List Row) (ls : List Line) (end : Stand) → Leads (AtRow done) ls end → may_end end ≡ true → AreRows done ls end
rows_read done [] end leads whole = absurd (not_over (AtRow done) end refl leads whole)
rows_read done (lines.Row r ∷ ls) end (mid, step, leads) whole =
    let parts = row_parts done r (row_error done r) mid refl step in
    let more = rows_read (done ++ r ∷ []) ls end (subst (λ (s : Stand). Leads s ls end) (sym parts.1) leads) whole in
    record {
      rows = r ∷ more.rows;
      later = more.later;
      split = ap (λ (xs : List Line). lines.Row r ∷ xs) more.split;
      each = one_row_first done r more.rows parts.0 more.each;
      whole = ap table_error (sym (append_assoc done (r ∷ []) more.rows)) ∙ more.whole;
      numbers = more.numbers;
    }
rows_read done (lines.Cpus n ∷ ls) end (mid, step, leads) whole =
    let parts = cpus_parts done n (table_error done) mid refl step in
    record {
      rows = [];
      later = lines.Cpus n ∷ ls;
      split = refl;
      each = no_row_fails done;
      whole = ap table_error (append-nil done) ∙ parts.0;
      numbers = after_cpus_read n mid end ls parts.1 leads whole;
    }
rows_read done (l ∷ ls) end (mid, step, leads) whole = absurd (cc step)

is_layout : (rows : List Row) → first_row_fault [] rows ≡ None → table_error rows ≡ None → IsLayout rows
unfolding layout_fault
is_layout rows h g = rw (h, g) refl

-- The lines are a machine, its numbers, and blocks.
pub record IsMachine (ls : List Line) (end : Stand) : Type 0 where
  pub machine : Named
  pub layout : List Row
  pub after : List Line
  pub split : ls ≡ lines.Version ∷ lines.Machine machine ∷ (row_lines machine layout ++ after)
  pub is_table : IsTableOf machine layout
  pub layout_fits : IsLayout layout
  pub numbers : AreNumbers after end

machine_read : (ls : List Line) (end : Stand) → Leads AtMachine ls end → may_end end ≡ true → IsMachine (lines.Version ∷ ls) end
machine_read [] end leads whole = absurd (not_over AtMachine end refl leads whole)
machine_read (lines.Machine Amx ∷ ls) end (mid, step, leads) whole =
    let same : AtCpus ≡ mid = cc step in
    record { machine = Amx; layout = _; after = ls; split = refl; is_table = refl; layout_fits = amx_is_layout; numbers = cpus_read ls end (subst (λ (s : Stand). Leads s ls end) (sym same) leads) whole }
machine_read (lines.Machine Avx ∷ ls) end (mid, step, leads) whole =
    let same : AtCpus ≡ mid = cc step in
    record { machine = Avx; layout = _; after = ls; split = refl; is_table = refl; layout_fits = avx_is_layout; numbers = cpus_read ls end (subst (λ (s : Stand). Leads s ls end) (sym same) leads) whole }
machine_read (lines.Machine Rows ∷ ls) end (mid, step, leads) whole =
    let same : AtRow [] ≡ mid = cc step in
    let r = rows_read [] ls end (subst (λ (s : Stand). Leads s ls end) (sym same) leads) whole in
    let fits = is_layout r.rows r.each r.whole in
    record { machine = Rows; layout = r.rows; after = r.later; split = ap (λ (xs : List Line). lines.Version ∷ lines.Machine Rows ∷ xs) r.split; is_table = fits; layout_fits = fits; numbers = r.numbers }
machine_read (l ∷ ls) end (mid, step, leads) whole = absurd (cc step)

pub script_read : (ls : List Line) (end : Stand) → Leads AtVersion ls end → may_end end ≡ true → IsMachine ls end
script_read [] end leads whole = absurd (not_over AtVersion end refl leads whole)
script_read (lines.Version ∷ ls) end (mid, step, leads) whole =
    let same : AtMachine ≡ mid = cc step in
    machine_read ls end (subst (λ (s : Stand). Leads s ls end) (sym same) leads) whole
script_read (l ∷ ls) end (mid, step, leads) whole = absurd (cc step)
