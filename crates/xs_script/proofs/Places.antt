-- Whether a register has a place on a machine is decided.
use Rattle.std.proofs.Common.{◌≡◌, ◌⊎◌, ℕ, zero, suc, ◌+◌, ◌*◌, ◌<◌, true, List, [], ◌∷◌, ◌++◌, length, slice_index_or, inl, inr, refl, sym, subst, arith, codes, decimal}
use Rattle.std.specs.Prelude.{Any}
use Rattle.xs_base.specs.declared.component.Row.{Row}
use Rattle.xs_base.specs.declared.component.Place.{Place}
use Rattle.xs_base.specs.Component.{tiledata_number}
use Rattle.xs_base.specs.Layout.{has_row}
use Rattle.xs_base.specs.Register.{Single, Family, singles, families, place_at, IsNamed, Alone, Member, TileRow, IsRegister}
use Rattle.xs_base.proofs.Registers.{one_place}
use Rattle.xs_script.proofs.Decisions.{IsDecided, is_true, same_bytes, some_below}

-- one of a list's members is such a member, or none is
any_or_none : {X : Type 0} (P : X → Type 0) → ((x : X) → IsDecided (P x)) → (xs : List X) → IsDecided (Any P xs)
any_or_none P decide [] = inr (λ h. let lt = h.2 in absurd (omega (arith, lt)))
any_or_none {X} P decide (x ∷ xs) = elim (decide x) [
  | inl p ↦ inl (0, x, omega arith, refl, p)
  | inr other ↦ elim (any_or_none P decide xs) [
    | inl h ↦ let lt = h.2 in inl (suc h.0, h.1, omega (arith, lt), h.3, h.4)
    | inr none ↦ inr (λ h. neither h.0 h.1 other none h.2 h.3 h.4)
  ]
]
  where
    neither : (k : ℕ) (y : X) → (P x → ⊥) → (Any P xs → ⊥) → k < length (x ∷ xs) → slice_index_or (x ∷ xs) k y ≡ y → P y → ⊥
    neither zero y other none lt is p = other (subst P (sym is) p)
    neither (suc k) y other none lt is p = none (k, y, omega (arith, lt), is, p)

-- the name of a family's register
abbrev IsMemberName : List ℕ → Family → Type 0
IsMemberName name f = (i : ℕ) × (i < f.count) × (name ≡ f.stem ++ decimal (f.from + i))

-- the name of a row of the tile
abbrev IsTileName : List ℕ → ℕ → Type 0
IsTileName name tile = (row : ℕ) × (row < 16) × (name ≡ codes "tmm" ++ (decimal tile ++ codes "." ++ decimal row))

-- a name that is none of the three kinds has no place
no_place : (name : List ℕ) → (Any (λ (s : Single). name ≡ s.name) singles → ⊥) → (Any (IsMemberName name) families → ⊥) → ((tile : ℕ) × (tile < 8) × IsTileName name tile → ⊥) → (place : Place) → IsNamed name place → ⊥
no_place name alone member tiles place (Alone (k, s, lt, is, p)) = alone (k, s, lt, is, p.0)
no_place name alone member tiles place (Member (k, f, lt, is, m)) = member (k, f, lt, is, (m.index, m.within, m.spelled))
no_place name alone member tiles place (TileRow h) = tiles (h.tile, h.tiles, (h.row, h.rows, h.spelled))

-- a name has a place, or none
named_or_none : (name : List ℕ) → ((place : Place) × IsNamed name place) ⊎ ((place : Place) → IsNamed name place → ⊥)
named_or_none name = elim (any_or_none (λ (s : Single). name ≡ s.name) (λ s. same_bytes name s.name) singles) [
  | inl h ↦ inl (h.1.place, Alone (h.0, h.1, h.2, h.3, (h.4, refl)))
  | inr alone ↦ elim (any_or_none (IsMemberName name) (λ f. some_below (λ i. name ≡ f.stem ++ decimal (f.from + i)) (λ i. same_bytes name (f.stem ++ decimal (f.from + i))) f.count) families) [
    | inl h ↦ inl (place_at h.1.component (h.1.offset + h.1.stride * h.4.0) h.1.len, Member (h.0, h.1, h.2, h.3, record { index = h.4.0; within = h.4.1; spelled = h.4.2; placed = refl }))
    | inr member ↦ elim (some_below (IsTileName name) (λ tile. some_below (λ row. name ≡ codes "tmm" ++ (decimal tile ++ codes "." ++ decimal row)) (λ row. same_bytes name (codes "tmm" ++ (decimal tile ++ codes "." ++ decimal row))) 16) 8) [
      | inl h ↦ inl (place_at tiledata_number (1024 * h.0 + 64 * h.2.0) 64, TileRow (record { tile = h.0; row = h.2.0; tiles = h.1; rows = h.2.1; spelled = h.2.2; placed = refl }))
      | inr tiles ↦ inr (no_place name alone member tiles)
    ]
  ]
]

-- A register has a place on the machine, or none.
pub place_or_none : (rows : List Row) (name : List ℕ) → ((place : Place) × IsRegister rows name place) ⊎ ((place : Place) → IsRegister rows name place → ⊥)
place_or_none rows name = elim (named_or_none name) [
  | inr none ↦ inr (λ place h. none place h.0)
  | inl p ↦ elim (is_true (has_row rows p.0.comp.0)) [
    | inl t ↦ inl (p.0, (p.1, t))
    | inr other ↦ inr (λ place h. other (subst (λ (q : Place). has_row rows q.comp.0 ≡ true) (one_place name place p.0 h.0 p.1) h.1))
  ]
]
