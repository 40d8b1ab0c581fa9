-- Each two digits more are those of one byte, up to the line feed.
use Rattle.std.proofs.Common.{◌≡◌, ◌∙◌, [], ℕ, take, refl, ap, arith, length-set, length-take-le}
use Rattle.hex.specs.Hex.{encode_with}
use Rattle.xs_text.proofs.LaneText.{too_many, no_bytes, not_ended, byte_read, bytes_more}
use Rattle.xs_text.proofs.reply_reader.read_lane.Goals as goal

pub bytes-init : goal.bytes-init
unfolding encode_with
bytes-init c = record { long = refl; few = omega arith; fits = tt; parts = refl }

pub bytes-preserved : goal.bytes-preserved
bytes-preserved c =
    let inv = c.bytes.invariant in
    record {
      long = length-set c.bytes.values c.bytes.len _ ∙ inv.long;
      few = omega arith;
      fits = bytes_more c.bytes.values c.bytes.len c.in-Some.byte (omega arith) inv.fits c.in-Some.ensures.0;
      parts = byte_read c.args.bytes.now c.bytes.values c.bytes.left.now c.in-Some.rest.now c.bytes.len c.in-Some.byte (omega arith) inv.parts c.in-Some.ensures.1;
    }

pub returns-then-len-eq64 : goal.returns-then-len-eq64
returns-then-len-eq64 c =
    let inv = c.bytes.invariant in
    let long = length-take-le c.bytes.len c.bytes.values (omega arith) in
    too_many c.args.bytes.now (take c.bytes.len c.bytes.values) c.bytes.left.now c.in-Some.rest.now c.in-Some.byte inv.fits (omega (arith, long)) c.in-Some.ensures.0 inv.parts c.in-Some.ensures.1

pub returns-then-len-eq0 : goal.returns-then-len-eq0
returns-then-len-eq0 c =
    let none : take c.bytes.len c.bytes.values ≡ [] = ap (λ (n : ℕ). take n c.bytes.values) c.if-len-eq0.true in
    no_bytes c.args.bytes.now (take c.bytes.len c.bytes.values) c.bytes.left.now none c.bytes.invariant.parts c.in_default.ensures

pub returns-in_err-rest : goal.returns-in_err-rest
returns-in_err-rest c = rw c.from_residual.ensures (not_ended c.args.bytes.now (take c.bytes.len c.bytes.values) c.bytes.left.now c.bytes.invariant.fits c.bytes.invariant.parts c.in_default.ensures c.in_err-rest.ensures)
