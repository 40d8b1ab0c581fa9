use Rattle.std.proofs.Common.{ap, ◌∙◌, refl, arith}
use Rattle.std.specs.Int.{to_le_bytes, w64}
use Rattle.xs_base.specs.Header.{xcomp_bv}
use Rattle.xs_bench.proofs.Changes.{changed_names}
use Rattle.xs_bench.proofs.repeats.put_state.Goals as goal

pub returns-clause-names : goal.returns-clause-names
returns-clause-names c = ap xcomp_bv c.put_number.ensures.written ∙ changed_names 512 (to_le_bytes w64 c.args.bits.0) c.args.bytes.now refl c.requires (omega arith)
