-- An area of a class has room for what is taken of an image by a task with such an area.
use Rattle.std.proofs.Common.{◌≡◌, ◌⊎◌, inl, inr, ℕ, ◌==◌, true, List, None, sym, ap, ◌∙◌, arith, lit<}
use Rattle.std.proofs.lemmas.Bool.{false≢true, and_parts, cases_Bool, cases_eq, cases_lt}
use Rattle.std.proofs.lemmas.Nat.Bits.{bit_at_above}
use Rattle.xs_base.specs.declared.class.Class.{Class}
use Rattle.xs_base.specs.declared.component.Row.{Row}
use Rattle.xs_base.specs.declared.header.Origin.{Origin}
use Rattle.xs_base.specs.declared.header.Origin.TheVariants.{Frame, Regset}
use Rattle.xs_base.specs.declared.header.Parts.{Parts}
use Rattle.xs_base.specs.Header.{xstate_bv}
use Rattle.xs_base.specs.HeaderCheck.{bits_in, header_error, parts_in}
use Rattle.xs_base.specs.KernelArea.{class_features}
use Rattle.xs_base.specs.Layout.{IsLayout}
use Rattle.xs_base.specs.Sets.{has}
use Rattle.xs_base.proofs.AcceptedLemmas.{accepted_bits}
use Rattle.xs_base.proofs.SetLemmas.{has_and}
use Rattle.xs_image.specs.Parts.{AreOf}
use Rattle.xs_image.specs.User.{user_features}
use Rattle.xs_image.proofs.ClassLemmas.{user_x87, user_sse, user_class}

-- what is taken of an image is in its XSTATE_BV
named : (origin : Origin) (bytes : List ℕ) (c : ℕ) → has (bits_in origin bytes) c ≡ true → has (xstate_bv bytes) c ≡ true
named (Frame wanted) bytes c on = (and_parts (has wanted.0 c) (has (xstate_bv bytes) c) (sym (has_and wanted.0 (xstate_bv bytes) c) ∙ on)).1
named Regset bytes c on = on

-- an image that passes
pub passed_room : (rows : List Row) (class : Class) (user : ℕ) (origin : Origin) (bytes : List ℕ) → IsLayout rows → user ≡ user_features rows class → header_error origin user bytes ≡ None → AreOf (parts_in rows origin bytes) (class_features rows class)
passed_room rows class user origin bytes table is passes = λ c other on. elim (cases_Bool (has user c)) [
  | inl may ↦ user_class rows class c table other (sym (ap (λ m. has m c) is) ∙ may)
  | inr not_may ↦ absurd (false≢true (sym (accepted_bits origin user bytes passes c not_may) ∙ named origin bytes c on))
]

-- x87 and SSE alone
legacy_bits : (c : ℕ) → has 3 c ≡ true → (c ≡ 0) ⊎ (c ≡ 1)
legacy_bits c on = elim (cases_lt c 2) [
  | inl low ↦ elim (cases_eq c 0) [ inl is ↦ inl is | inr other ↦ inr (omega arith) ]
  | inr high ↦ absurd (false≢true (sym (ap (λ n. n == 1) (bit_at_above 3 2 c (lit< tt) high)) ∙ on))
]

pub legacy_room : (rows : List Row) (class : Class) (parts : Parts) → IsLayout rows → parts.bits.0 ≡ 3 → AreOf parts (class_features rows class)
legacy_room rows class parts table is = λ c other on. user_class rows class c table other (elim (legacy_bits c (rw is at on)) [
  | inl x87 ↦ rw x87 (user_x87 rows class table)
  | inr sse ↦ rw sse (user_sse rows class table)
])
