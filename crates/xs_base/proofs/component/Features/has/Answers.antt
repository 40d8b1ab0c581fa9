-- A number below 2 ^ 64 has no bit from 64 on.
use Rattle.std.proofs.Common.{◌<◌, ◌^◌, refl, arith}
use Rattle.std.proofs.lemmas.Nat.Bits.{bit_at_above}
use Rattle.xs_base.proofs.component.Features.has.Goals as goal

pub returns-then-c-ge64 : goal.returns-then-c-ge64
returns-then-c-ge64 c =
    let small : c.args.self.now.0 < 2 ^ 64 = omega arith in
    rw (bit_at_above c.args.self.now.0 64 c.args.c.0 small c.if-c-ge64.true) refl
