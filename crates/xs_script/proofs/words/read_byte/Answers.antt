use Rattle.std.proofs.Common.{sym, ◌∙◌}
use Rattle.xs_script.proofs.Readings.{byte_read, no_byte, two_digits}
use Rattle.xs_script.proofs.words.read_byte.Goals.{else-text-eq2-via-then-text-eq2+else-is_hex_text, else-text-eq2-via-else-text-eq2}
use Rattle.xs_script.proofs.words.read_byte.Goals as goal

pub returns-then-is_hex_text : goal.returns-then-is_hex_text
returns-then-is_hex_text c =
    byte_read c.args.text.now c.digit_value.result c.digit_value-then-is_hex_text.result c.if-text-eq2.true (sym c.is_hex_text.ensures ∙ c.if-is_hex_text.true) c.digit_value.ensures.value c.digit_value-then-is_hex_text.ensures.value

pub returns-else-text-eq2 : goal.returns-else-text-eq2
returns-else-text-eq2 c = elim c.else-text-eq2.branch [
  | else-text-eq2-via-then-text-eq2+else-is_hex_text w ↦ λ x. no_byte c.args.text.now x (sym w.is_hex_text.ensures ∙ w.if-is_hex_text.false)
  | else-text-eq2-via-else-text-eq2 w ↦ λ x fits. two_digits c.args.text.now x w.if-text-eq2.false
]
