-- Names that are a stem and a number.
use Rattle.std.proofs.Common.{◌≡◌, ℕ, ◌+◌, ◌-◌, ◌*◌, ◌<◌, ◌≤◌, List, ◌++◌, refl, sym, ap, ◌∙◌, arith, decimal}
use Rattle.std.proofs.lemmas.List.{append_cancel_left}
use Rattle.std.proofs.lemmas.Fmt.{decimal_injective}
use Rattle.xs_base.specs.declared.component.Place.{Place}
use Rattle.xs_base.specs.Register.{Family, IsMember, place_at}
use Rattle.xs_regs.proofs.Numbers.{IsIndex}

-- the register of a number of the family
pub member_at : (name digits : List ℕ) (f : Family) (n : ℕ) → name ≡ f.stem ++ digits → IsIndex digits n → f.from ≤ n → n - f.from < f.count → IsMember name (place_at f.component (f.offset + f.stride * (n - f.from)) f.len) f
member_at name digits f n e is from count =
    let same : n ≡ f.from + (n - f.from) = omega arith in
    record {
      index = n - f.from;
      within = count;
      spelled = e ∙ ap (λ ds. f.stem ++ ds) (is.1 ∙ ap decimal same);
      placed = refl;
    }

-- What follows the stem is the number.
pub member_index : (name digits : List ℕ) (f : Family) (place : Place) → f.from + f.count ≤ 100 → name ≡ f.stem ++ digits → IsMember name place f → (n : ℕ) × IsIndex digits n × (f.from ≤ n) × (n - f.from < f.count)
member_index name digits f place small e m =
    let less = m.within in
    (f.from + m.index, (omega arith, append_cancel_left f.stem digits (decimal (f.from + m.index)) (sym e ∙ m.spelled)), omega arith, omega arith)

-- a number has one value
pub one_index : (digits : List ℕ) (m n : ℕ) → IsIndex digits m → IsIndex digits n → m ≡ n
one_index digits m n hm hn =
    decimal_injective m n (omega (arith, hm.0)) (omega (arith, hn.0)) (sym hm.1 ∙ hn.1)
