use Rattle.std.proofs.Common.{ap, ◌∙◌, length, arith}
use Rattle.xs_base.specs.Header.{xstate_bv, xcomp_bv}
use Rattle.xs_bench.proofs.Changes.{changed_bits, changed_names}
use Rattle.xs_bench.proofs.repeats.change.Goals as goal

pub returns-clause-bits : goal.returns-clause-bits
returns-clause-bits c = ap xstate_bv c.put.ensures.written ∙ changed_bits c.to_le_bytes.result c.args.bytes.now (ap length c.to_le_bytes.ensures) c.requires

pub returns-clause-names : goal.returns-clause-names
returns-clause-names c = ap xcomp_bv c.put.ensures.written ∙ changed_names 160 c.to_le_bytes.result c.args.bytes.now (ap length c.to_le_bytes.ensures) c.requires (omega arith)
