-- Names of the rows of tiles.
use Rattle.std.proofs.Common.{◌≡◌, ℕ, ◌+◌, ◌*◌, ◌<◌, List, ◌∷◌, ◌++◌, refl, sym, ◌∙◌, arith, codes, decimal}
use Rattle.std.proofs.lemmas.List.{append_cancel_left}
use Rattle.std.proofs.lemmas.Fmt.{decimal_digit}
use Rattle.xs_base.specs.declared.component.Place.{Place}
use Rattle.xs_base.specs.Register.{IsTileRow, place_at}
use Rattle.xs_regs.proofs.Numbers.{IsIndex}

-- a name by the byte of its tile and the text of its row
abbrev pub tile_name : ℕ → List ℕ → List ℕ
tile_name tile row = codes "tmm" ++ tile ∷ codes "." ++ row

pub tile_row_at : (digit : ℕ) (text : List ℕ) (tile row : ℕ) → (tile < 10) × (digit ≡ 48 + tile) → IsIndex text row → tile < 8 → row < 16 → IsTileRow (tile_name digit text) (place_at 18 (1024 * tile + 64 * row) 64)
tile_row_at digit text tile row t r tiles rows = record {
  tile = tile;
  row = row;
  tiles = tiles;
  rows = rows;
  spelled = rw (t.1, r.1, decimal_digit tile t.0) refl;
  placed = refl;
}

-- The bytes after the stem are the digit of the tile, a point, and the text of the row.
pub tile_row_text : (name rest : List ℕ) (place : Place) → name ≡ codes "tmm" ++ rest → (t : IsTileRow name place) → rest ≡ (48 + t.tile) ∷ 46 ∷ decimal t.row
tile_row_text name rest place e t =
    let one = decimal_digit t.tile (omega (arith, t.tiles)) in
    let whole : codes "tmm" ++ rest ≡ codes "tmm" ++ (48 + t.tile) ∷ 46 ∷ decimal t.row = sym e ∙ rw one at t.spelled in
    append_cancel_left (codes "tmm") rest ((48 + t.tile) ∷ 46 ∷ decimal t.row) whole

pub tile_row_parts : (digit : ℕ) (text : List ℕ) (place : Place) → (t : IsTileRow (tile_name digit text) place) → (digit ≡ 48 + t.tile) × IsIndex text t.row
tile_row_parts digit text place t =
    let e : digit ∷ 46 ∷ text ≡ (48 + t.tile) ∷ 46 ∷ decimal t.row = tile_row_text (tile_name digit text) (digit ∷ 46 ∷ text) place refl t in
    let d : digit ≡ 48 + t.tile = cc in
    let r : text ≡ decimal t.row = cc in
    (d, (omega (arith, t.rows), r))
