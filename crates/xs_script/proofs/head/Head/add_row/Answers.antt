use Rattle.std.proofs.Common.{List, [], ◌∷◌, ap, arith, length-append, sym, ◌∙◌, lit<}
use Rattle.xs_model.specs.declared.script.Named.TheVariants.{Rows}
use Rattle.xs_script.specs.declared.line.Line.{Line}
use Rattle.xs_script.specs.declared.line.Line.TheVariants as lines
use Rattle.std.proofs.lemmas.List.{map-append}
use Rattle.xs_base.proofs.FaultLemmas.{rows_push}
use Rattle.xs_script.proofs.HeadRows.{rows_few, row_fails, row_leads}
use Rattle.xs_script.proofs.head.Head.add_row.Goals as goal

pub returns-in-Some-clause-refused : goal.returns-in-Some-clause-refused
returns-in-Some-clause-refused c =
    rw c.requires.stage (row_fails c.args.self.now.rows.items c.args.row c.in-Some.error (sym c.row_error.ensures ∙ c.in-Some.is))

pub push-requires : goal.push-requires
push-requires c =
    let few = rows_few _ (rows_push c.args.self.now.rows.items c.args.row c.requires.head.rows (sym c.row_error.ensures ∙ c.in-None.is)) in
    (lit< tt, omega (arith, simp length-append at few))

pub returns-in-None-clause-taken : goal.returns-in-None-clause-taken
returns-in-None-clause-taken c =
    let none = sym c.row_error.ensures ∙ c.in-None.is in
    let rows = c.args.self.now.rows.items in
    rw (c.requires.stage, c.push.ensures.items) record {
      leads = row_leads rows c.args.row none;
      came = ap (λ (ls : List Line). lines.Version ∷ lines.Machine Rows ∷ ls) (map-append lines.Row rows (c.args.row ∷ []));
      fits = record { early = tt; rows = rows_push rows c.args.row c.requires.head.rows none; layout = c.requires.head.layout; machine = c.requires.head.machine; cpus = c.requires.head.cpus; quantum = c.requires.head.quantum; large = c.requires.head.large };
    }
