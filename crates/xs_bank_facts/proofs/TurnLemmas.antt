-- An area that a bank doesn't track.
use Rattle.std.proofs.Common.{◌≡◌, ℕ, false, List, Some, refl, sym, ap, ◌∙◌}
use Rattle.std.proofs.lemmas.Bool.{false≢true, ne_eqb}
use Rattle.xs_base.specs.Header.{xcomp_bv}
use Rattle.xs_bank.specs.Bank.{Bank, Tracked, IsReady, is_unmodified}

-- a bank that tracks another area
pub ready_other : (bank : Bank) (t : Tracked) (id mask : ℕ) (area : List ℕ) → bank.tracked ≡ Some t → (id ≡ t.id → ⊥) → IsReady bank id mask area
ready_other bank t id mask area some other i r row wanted unmodified = absurd (false≢true (sym off ∙ ap (λ x. is_unmodified x id (xcomp_bv area) r.comp.0) (sym some) ∙ unmodified))
  where
    off : is_unmodified (Some t) id (xcomp_bv area) r.comp.0 ≡ false
    off = rw (ne_eqb t.id id (λ same. other (sym same))) refl
