-- The parts of a file as its vectors keep them.
use Rattle.std.proofs.Common.{◌≡◌, ℕ, ◌+◌, ◌<◌, ◌≤◌, List, [], length, map, get_or, set, slice_index_or, Vec, Global, false, sym, ap, ◌∙◌, arith}
use Rattle.std.specs.Vec.{with_items}
use Rattle.xs_base.specs.declared.component.Row.{Row}
use Rattle.xs_base.specs.declared.component.Place.{Place}
use Rattle.xs_base.specs.Bytes.{splice}
use Rattle.xs_base.specs.Component.{component_count, component_size}
use Rattle.xs_base.specs.File.{File, part, is_mxcsr, IsFile}
use Rattle.xs_base.specs.Register.{IsRegister}
use Rattle.xs_base.proofs.Registers.{place_component, place_within}
use Rattle.xs_base.proofs.ByteLemmas.{length_splice}
use Rattle.std.proofs.lemmas.List.{get_or-map, map-set, length-map, with_items_is}

-- what each vector shows
abbrev pub shown : List (Vec ℕ Global) → List (List ℕ)
shown parts = map (λ p. p.items) parts

pub shown_at : (parts : List (Vec ℕ Global)) (c : ℕ) (v : Vec ℕ Global) → c < length parts → v ≡ get_or parts c v → slice_index_or (shown parts) c [] ≡ v.items
shown_at parts c v lt is =
    get_or-map (λ p. p.items) parts c v [] lt ∙ ap (λ (p : Vec ℕ Global). p.items) (sym is)

-- Other bytes, as many as before, in one vector are another part.
pub shown_written : (parts : List (Vec ℕ Global)) (c : ℕ) (v : Vec ℕ Global) (bytes : List ℕ) → length bytes ≡ v.len → shown (set parts c (with_items v bytes)) ≡ set (shown parts) c bytes
shown_written parts c v bytes len =
    map-set (λ p. p.items) parts c (with_items v bytes) ∙ ap (λ bs. set (shown parts) c bs) (with_items_is v bytes len)

pub shown_spliced : (parts : List (Vec ℕ Global)) (c at : ℕ) (v : Vec ℕ Global) (bytes old out : List ℕ) → c < length parts → v ≡ get_or parts c v → old ≡ v.items → length old ≡ v.len → at + length bytes ≤ length old → out ≡ splice at bytes old → shown (set parts c (with_items v out)) ≡ set (shown parts) c (splice at bytes (slice_index_or (shown parts) c []))
shown_spliced parts c at v bytes old out lt is items len fits written =
    let here : old ≡ slice_index_or (shown parts) c [] = items ∙ sym (shown_at parts c v lt is) in
    let whole : length out ≡ v.len = ap length written ∙ length_splice at bytes old fits ∙ len in
    shown_written parts c v out whole ∙ ap (λ bs. set (shown parts) c bs) (written ∙ ap (λ bs. splice at bytes bs) here)

-- ---- a register in one of them

module _ (rows : List Row) (parts : List (Vec ℕ Global)) (mxcsr : ℕ) where
  abbrev pub shown_file : File
  shown_file = record { rows = rows; parts = shown parts; mxcsr = mxcsr }

  module _ (place : Place) (v : Vec ℕ Global) (bytes old : List ℕ) (register : (name : List ℕ) × IsRegister rows name place) where
    register_inside : IsFile shown_file → place.comp.0 < length parts
    register_inside h =
        let number : place.comp.0 < component_count = place_component register.0 place register.1.0 in
        omega (arith, h.count, length-map parts (λ p. p.items))

    pub register_size : IsFile shown_file → v ≡ get_or parts place.comp.0 v → old ≡ v.items → length old ≡ component_size place.comp.0
    register_size h is items =
        ap length items ∙ ap length (sym (shown_at parts place.comp.0 v (register_inside h) is)) ∙ h.sizes place.comp.0 (place_component register.0 place register.1.0)

    pub register_fits : IsFile shown_file → is_mxcsr place ≡ false → length bytes ≡ place.len → v ≡ get_or parts place.comp.0 v → old ≡ v.items → (place.comp.0 < length parts) × (place.offset + length bytes ≤ length old)
    register_fits h apart len is items =
        let inside = register_inside h in
        let within = place_within register.0 place register.1.0 apart in
        let size = register_size h is items in
        (inside, omega arith)

    -- the vector with a register written over it
    pub register_part : (out : List ℕ) → IsFile shown_file → v ≡ get_or parts place.comp.0 v → old ≡ v.items → out ≡ splice place.offset bytes old → out ≡ splice place.offset bytes (part shown_file place.comp.0)
    register_part out h is items written = written ∙ ap (λ bs. splice place.offset bytes bs) (items ∙ sym (shown_at parts place.comp.0 v (register_inside h) is))

    pub register_spliced : (out : List ℕ) → IsFile shown_file → is_mxcsr place ≡ false → length bytes ≡ place.len → v ≡ get_or parts place.comp.0 v → old ≡ v.items → length old ≡ v.len → out ≡ splice place.offset bytes old → shown (set parts place.comp.0 (with_items v out)) ≡ set (shown parts) place.comp.0 (splice place.offset bytes (part shown_file place.comp.0))
    register_spliced out h apart len is items whole written =
        let fits = register_fits h apart len is items in
        shown_spliced parts place.comp.0 place.offset v bytes old out fits.0 is items whole fits.1 written
