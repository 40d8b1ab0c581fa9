use Rattle.std.proofs.Common.{◌++◌, codes, ap, refl, List, ℕ}
use Rattle.xs_model.specs.declared.script.Named.TheVariants.{Amx, Avx, Rows}
use Rattle.xs_script.specs.declared.line.Line.TheVariants as lines
use Rattle.xs_script.proofs.Readings.{word_is}
use Rattle.xs_script.proofs.line_reader.read_machine.Goals as goal

pub returns-then-eq : goal.returns-then-eq
returns-then-eq c = (lines.Machine Amx, tt, ap (λ (t : List ℕ). codes "machine " ++ t) (word_is c.args.name.now c.as_slice.result.now (codes "amx") c.eq.result c.eq.ensures c.as_slice.ensures c.if-eq.true), refl)

pub returns-then-eq-2 : goal.returns-then-eq-2
returns-then-eq-2 c = (lines.Machine Avx, tt, ap (λ (t : List ℕ). codes "machine " ++ t) (word_is c.args.name.now c.as_slice-2.result.now (codes "avx") c.eq-2.result c.eq-2.ensures c.as_slice-2.ensures c.if-eq-2.true), refl)

pub returns-then-eq-3 : goal.returns-then-eq-3
returns-then-eq-3 c = (lines.Machine Rows, tt, ap (λ (t : List ℕ). codes "machine " ++ t) (word_is c.args.name.now c.as_slice-3.result.now (codes "rows") c.eq-3.result c.eq-3.ensures c.as_slice-3.ensures c.if-eq-3.true), refl)
