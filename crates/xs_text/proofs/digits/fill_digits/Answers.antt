-- Each step writes the two digits of one byte more.
use Rattle.std.proofs.Common.{ℕ, ◌∙◌, arith, slice_index, ap}
use Rattle.std.proofs.lemmas.Nat.{and_mask}
use Rattle.hex.specs.Hex.{lower_digits}
use Rattle.hex.proofs.Pairs.{encode_step, encode_done}
use Rattle.xs_text.proofs.digits.fill_digits.Goals as goal

pub loop-i-preserved : goal.loop-i-preserved
loop-i-preserved c =
    let bytes = c.args.bytes.now in
    let byte : ℕ = slice_index bytes c.loop-i.i in
    let low = c.hex_digit-in-loop-i.ensures ∙ ap (λ (k : ℕ). slice_index lower_digits k) (and_mask byte 4) in
    encode_step lower_digits bytes c.loop-i.digits c.loop-i.i _ _ (omega arith) (omega arith) c.hex_digit.ensures low c.loop-i.invariant

pub returns : goal.returns
returns c = encode_done lower_digits c.args.bytes.now c.loop-i.digits c.loop-i.i (omega arith) (omega arith) c.loop-i.invariant
