use Rattle.std.proofs.Common.{refl, ◌∙◌}
use Rattle.xs_base.proofs.LayoutLemmas.{layout_parts}
use Rattle.xs_script.proofs.HeadRows.{table_fails, table_over, rows_over}
use Rattle.xs_script.proofs.head.Head.close_rows.Goals as goal

pub returns-in-Err-clause-refused : goal.returns-in-Err-clause-refused
returns-in-Err-clause-refused c =
    let rows = c.args.self.now.rows.items in
    let fault = rw c.as_slice.ensures.value at c.in-Err.ensures.refused in
    rw c.requires.stage (table_over rows c.args.n _ (table_fails rows c.in-Err.fault c.requires.head.rows fault))

pub returns-in-Ok-check_cpus-clause-taken : goal.returns-in-Ok-check_cpus-clause-taken
returns-in-Ok-check_cpus-clause-taken c =
    let rows = c.args.self.now.rows.items in
    let is = rw c.as_slice.ensures.value at c.in-Ok.ensures.rows in
    let fits = rw c.as_slice.ensures.value at c.in-Ok.ensures.accepted in
    rw (c.requires.stage, is) record {
      leads = rows_over rows c.args.n (layout_parts rows fits).1 ∙ c.in-Ok-check_cpus.ensures.taken;
      came = refl;
      fits = record { early = tt; rows = c.requires.head.rows; layout = fits; machine = fits; cpus = c.in-Ok-check_cpus.ensures.few; quantum = c.requires.head.quantum; large = c.requires.head.large };
    }

pub returns-in-Err-check_cpus-clause-refused : goal.returns-in-Err-check_cpus-clause-refused
returns-in-Err-check_cpus-clause-refused c =
    let rows = c.args.self.now.rows.items in
    let fits = rw c.as_slice.ensures.value at c.in-Ok.ensures.accepted in
    rw c.requires.stage (rows_over rows c.args.n (layout_parts rows fits).1 ∙ c.in-Err-check_cpus.ensures.refused)
