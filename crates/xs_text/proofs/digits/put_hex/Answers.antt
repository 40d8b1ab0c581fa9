-- The digits so far and those of the rest are those of all bytes.
use Rattle.std.proofs.Common.{ℕ, length, ap, ◌∙◌, arith, slice_index, length-append}
use Rattle.std.proofs.lemmas.Nat.{and_mask}
use Rattle.hex.specs.Hex.{encode_lower, lower_digits}
use Rattle.hex.proofs.HexLemmas.{length-encode_with}
use Rattle.xs_text.proofs.HexDigits.{piece_more, piece_room, byte_more, byte_room, bytes_done}
use Rattle.xs_text.proofs.digits.put_hex.Goals as goal

pub loop-rest-preserved : goal.loop-rest-preserved
loop-rest-preserved c =
    let l = c.loop-rest in
    let rest = l.rest.now in
    let digits = c.fill_digits.new.digits in
    let new = c.put.new.self in (
      piece_more 16 l.line digits rest _ new c.put.ensures c.fill_digits.ensures l.invariant.0,
      piece_room 16 l.line digits rest new c.put.ensures c.fill_digits.ensures c.loop-rest-test.true l.invariant.1,
    )

pub loop-byte-preserved : goal.loop-byte-preserved
loop-byte-preserved c =
    let l = c.loop-byte in
    let rest = c.loop-rest.rest.now in
    let byte : ℕ = slice_index rest l.byte-index in
    let low = c.hex_digit-in-loop-byte.ensures ∙ ap (λ (k : ℕ). slice_index lower_digits k) (and_mask byte 4) in
    let new = c.put-in-loop-byte.new.self in (
      byte_more l.line rest _ new l.byte-index _ _ c.put-in-loop-byte.ensures c.loop-byte-test.true c.hex_digit.ensures low l.invariant.0,
      byte_room l.line rest new l.byte-index _ _ c.put-in-loop-byte.ensures c.loop-byte-test.true l.invariant.1,
    )

pub returns-clause-items : goal.returns-clause-items
returns-clause-items c = bytes_done c.loop-byte.line c.loop-rest.rest.now _ c.loop-byte.byte-index c.loop-byte-test.false c.loop-byte.invariant.0

pub returns-clause-len : goal.returns-clause-len
returns-clause-len c =
    omega (arith, ap length (bytes_done c.loop-byte.line c.loop-rest.rest.now _ c.loop-byte.byte-index c.loop-byte-test.false c.loop-byte.invariant.0), length-append c.args.line.now (encode_lower c.args.bytes.now), length-encode_with lower_digits c.args.bytes.now)
