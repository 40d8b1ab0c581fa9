-- Rows of other components are passed over.
use Rattle.std.proofs.Common.{◌≡◌, ℕ, ◌<◌, ◌≤◌, true, length, subst, sym, ◌∙◌, arith}
use Rattle.xs_base.specs.Layout.{has_row}
use Rattle.xs_base.proofs.LayoutLemmas.{has_row_at}
use Rattle.xs_base.proofs.FeatureLemmas.{row_skip, row_none}
use Rattle.xs_base.proofs.RowLemmas.{row_of_more, row_of_here, row_of_all}
use Rattle.xs_layout.proofs.layout.Layout.row.Goals as goal

pub returns-then-row-c-clause-is : goal.returns-then-row-c-clause-is
returns-then-row-c-clause-is c =
    let lt : c.each.i < length c.args.self.now = omega arith in
    sym (row_of_here c.args.self.now c.args.c.0 c.each.i c.row_at-row.result lt c.row_at-row.ensures.at c.if-row-c.true) ∙ c.each.invariant.1

pub returns-then-row-c-clause-there : goal.returns-then-row-c-clause-there
returns-then-row-c-clause-there c =
    let lt : c.each.i < length c.args.self.now = omega arith in
    let P : ℕ → Type 0 = λ n. has_row c.args.self.now n ≡ true in
    subst P c.if-row-c.true (has_row_at c.args.self.now c.each.i c.row_at-row.result lt c.row_at-row.ensures.at)

pub each-preserved : goal.each-preserved
each-preserved c =
    let lt : c.each.i < length c.args.self.now = omega arith in
    let row = c.row_at-row.result in
    let is = c.row_at-row.ensures.at in (
      row_skip c.args.self.now c.each.i row c.args.c.0 lt is c.if-row-c.false ∙ c.each.invariant.0,
      row_of_more c.args.self.now c.args.c.0 c.each.i row lt is c.if-row-c.false ∙ c.each.invariant.1,
    )

pub returns-clause-row : goal.returns-clause-row
returns-clause-row c =
    let le : length c.args.self.now ≤ c.each.i = omega arith in
    sym c.each.invariant.0 ∙ row_none c.args.self.now c.each.i c.args.c.0 le

pub returns-clause-is : goal.returns-clause-is
returns-clause-is c =
    let le : length c.args.self.now ≤ c.each.i = omega arith in
    sym (row_of_all c.args.self.now c.args.c.0 c.each.i le) ∙ c.each.invariant.1
