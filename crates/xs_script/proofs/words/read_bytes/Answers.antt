use Rattle.std.proofs.Common.{length, sym, ◌∙◌, eqb-true, arith}
use Rattle.std.proofs.lemmas.Bool.{eqb-false}
use Rattle.xs_script.proofs.Readings.{no_bytes, reads_short, reads_long, reads_other}
use Rattle.xs_script.proofs.words.read_bytes.Goals.{then-is_empty-via-then-is_empty, then-is_empty-via-else-is_empty+then-not-is_hex_text}
use Rattle.xs_script.proofs.words.read_bytes.Goals as goal

pub returns-then-is_empty : goal.returns-then-is_empty
returns-then-is_empty c = elim c.then-is_empty.branch [
  | then-is_empty-via-then-is_empty w ↦ no_bytes c.args.text.now (eqb-true (length c.args.text.now) 0 (sym c.is_empty.ensures ∙ w.if-is_empty.true))
  | then-is_empty-via-else-is_empty+then-not-is_hex_text w ↦ λ x. reads_other c.args.text.now x (sym w.is_hex_text.ensures ∙ w.if-not-is_hex_text.true)
]

pub returns-then-text-le128 : goal.returns-then-text-le128
returns-then-text-le128 c =
    let some = eqb-false (length c.args.text.now) 0 (sym c.is_empty.ensures ∙ c.if-is_empty.false) in
    reads_short c.args.text.now c.decode.result (omega arith) (omega arith) c.decode.ensures

pub returns-else-text-le128 : goal.returns-else-text-le128
returns-else-text-le128 c = rw c.from_slice.ensures (reads_long c.args.text.now c.if-text-le128.false (sym c.is_hex_text.ensures ∙ c.if-not-is_hex_text.false))
