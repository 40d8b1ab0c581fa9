-- The block's name is compared byte by byte.
use Rattle.std.proofs.Common.{◌≡◌, ℕ, sym, ◌∙◌, arith}
use borrow.Author.Count.{below_more}
use Rattle.xs_text.specs.Text.{name_of}
use Rattle.xs_text.proofs.WordReads.{same_bytes, other_bytes}
use Rattle.xs_text.proofs.word_reader.find_task.Goals as goal

pub returns-then-eq : goal.returns-then-eq
returns-then-eq c = (omega arith, sym (same_bytes c.name_of.result.now c.args.name.now c.eq.result c.eq.ensures c.if-eq.true) ∙ c.name_of.ensures.name)

pub tasks-preserved : goal.tasks-preserved
tasks-preserved c = below_more (λ (k : ℕ). c.args.name.now ≡ name_of c.args.script.now k → ⊥) c.tasks.task c.tasks.invariant
    (λ e. other_bytes c.name_of.result.now c.args.name.now c.eq.result c.eq.ensures c.if-eq.false (c.name_of.ensures.name ∙ sym e))
