-- What follows the stem is a number of the family, or the name is none of its.
use Rattle.std.proofs.Common.{◌≡◌, decimal, ◌+◌, ◌-◌, ◌<◌, ◌≤◌, arith}
use Rattle.xs_regs.proofs.Members.{member_at, member_index, one_index}
use Rattle.xs_regs.specs.Names.{family_of}
use Rattle.xs_regs.proofs.register.find_member.Goals as goal
use Rattle.xs_regs.proofs.register.find_member.Goals.{else-from-number-via-then-from-number+else-number-from, else-from-number-via-else-from-number}

pub returns-in_err-digits : goal.returns-in_err-digits
returns-in_err-digits c =
    rw c.from_residual.ensures (λ place m. c.in_err-digits.ensures (decimal (c.args.family.now.from + m.index)) m.spelled)

pub returns-in_err-number : goal.returns-in_err-number
returns-in_err-number c =
    let small = c.requires in
    rw c.from_residual-in_err-number.ensures (λ place m.
    let n = member_index c.args.name.now c.in_ok-digits.digits.now (family_of c.args.family.now) place small c.in_ok-digits.ensures m in
    c.in_err-number.ensures n.0 n.1)

pub returns-then-number-from : goal.returns-then-number-from
returns-then-number-from c =
    let from : c.args.family.now.from ≤ c.in_ok-number.number = omega arith in
    let count : c.in_ok-number.number - c.args.family.now.from < c.args.family.now.count = omega arith in
    let m = member_at c.args.name.now c.in_ok-digits.digits.now (family_of c.args.family.now) c.in_ok-number.number c.in_ok-digits.ensures c.in_ok-number.ensures from count in
    rw (c.from-stride.ensures, c.from-from.ensures, c.from.ensures, c.from-then-number-from.ensures) m

pub returns-else-from-number : goal.returns-else-from-number
returns-else-from-number c = λ place m.
    let small = c.requires in
    let n = member_index c.args.name.now c.in_ok-digits.digits.now (family_of c.args.family.now) place small c.in_ok-digits.ensures m in
    let same : c.in_ok-number.number ≡ n.0 = one_index c.in_ok-digits.digits.now c.in_ok-number.number n.0 c.in_ok-number.ensures n.1 in
    let from : c.args.family.now.from ≤ n.0 = n.2 in
    let count : n.0 - c.args.family.now.from < c.args.family.now.count = n.3 in
    elim c.else-from-number.branch [
      | else-from-number-via-then-from-number+else-number-from w ↦ omega arith
      | else-from-number-via-else-from-number w ↦ omega arith
    ]
