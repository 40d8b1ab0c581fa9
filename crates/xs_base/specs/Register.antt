-- The names of registers and where each stands in its component. The names are this project's, the places are those
-- of SDM volume 1, 10.5.1, 13.4 and 13.5, and of its chapter on AMX. That MXCSR is named by a place of its own behind the
-- XMM registers is this project's own.
use Rattle.std.specs.Prelude.{◌≡◌, ℕ, ◌+◌, ◌*◌, ◌/◌, ◌%◌, ◌<◌, true, nat_lt, List, [], ◌∷◌, ◌++◌, map, codes, decimal, Any, Option, Some, None, if◌then◌else◌}
use Rattle.std.specs.List.{range_with_len}
use Rattle.std.specs.Str.{bytes_eq}
use Rattle.xs_base.specs.declared.component.Row.{Row}
use Rattle.xs_base.specs.declared.component.Place.{Place}
use Rattle.xs_base.specs.Component.{tiledata_number}
use Rattle.xs_base.specs.Layout.{has_row}

abbrev pub place_at : ℕ → ℕ → ℕ → Place
place_at component offset len = record { comp = record { 0 = component }; offset = offset; len = len }

-- a register with a name of its own
pub record Single : Type 0 where
  pub name : List ℕ
  pub place : Place

abbrev pub single : List ℕ → ℕ → ℕ → ℕ → Single
single name component offset len = record { name = name; place = place_at component offset len }

abbrev pub singles : List Single
singles =
    single (codes "fcw") 0 0 2 ∷ single (codes "fsw") 0 2 2 ∷ single (codes "ftw") 0 4 1 ∷ single (codes "fop") 0 6 2
    ∷ single (codes "fip") 0 8 8 ∷ single (codes "fdp") 0 16 8 ∷ single (codes "mxcsr") 1 256 4
    ∷ single (codes "pkru") 9 0 4 ∷ single (codes "tilecfg") 17 0 64 ∷ []

-- A run of registers whose names are a stem and a number: the first has the number `from` and stands at `offset`, and
-- each next one stands `stride` bytes further.
pub record Family : Type 0 where
  pub stem : List ℕ
  pub from : ℕ
  pub count : ℕ
  pub component : ℕ
  pub offset : ℕ
  pub stride : ℕ
  pub len : ℕ

abbrev pub family : List ℕ → ℕ → ℕ → ℕ → ℕ → ℕ → ℕ → Family
family stem from count component offset stride len = record { stem = stem; from = from; count = count; component = component; offset = offset; stride = stride; len = len }

-- st0 to st7, xmm0 to xmm15, ymmh0 to ymmh15, k0 to k7, zmmh0 to zmmh15, zmm16 to zmm31
abbrev pub families : List Family
families =
    family (codes "st") 0 8 0 32 16 10 ∷ family (codes "xmm") 0 16 1 0 16 16 ∷ family (codes "ymmh") 0 16 2 0 16 16
    ∷ family (codes "k") 0 8 5 0 8 8 ∷ family (codes "zmmh") 0 16 6 0 32 32 ∷ family (codes "zmm") 16 16 7 0 64 64 ∷ []

-- The name is that of the family's register of this number, which stands at this place.
pub record IsMember (name : List ℕ) (place : Place) (family : Family) : Type 0 where
  pub index : ℕ
  pub within : index < family.count
  pub spelled : name ≡ family.stem ++ decimal (family.from + index)
  pub placed : place ≡ place_at family.component (family.offset + family.stride * index) family.len

-- The name is that of row `row` of tile `tile`: tmm0.0 to tmm7.15.
pub record IsTileRow (name : List ℕ) (place : Place) : Type 0 where
  pub tile : ℕ
  pub row : ℕ
  pub tiles : tile < 8
  pub rows : row < 16
  pub spelled : name ≡ codes "tmm" ++ (decimal tile ++ codes "." ++ decimal row)
  pub placed : place ≡ place_at tiledata_number (1024 * tile + 64 * row) 64

-- The name names a register, which stands at this place.
pub data IsNamed (name : List ℕ) (place : Place) : Type 0 where
  Alone : Any (λ (s : Single). (name ≡ s.name) × (place ≡ s.place)) singles → IsNamed name place
  Member : Any (IsMember name place) families → IsNamed name place
  TileRow : IsTileRow name place → IsNamed name place

-- The name is that of a register of the machine, which stands at this place: a machine has the registers of its
-- components.
abbrev pub IsRegister : List Row → List ℕ → Place → Type 0
IsRegister rows name place = IsNamed name place × (has_row rows place.comp.0 ≡ true)

-- ---- the place as a function of the name

-- an index below 100 in decimal
abbrev pub index_text : ℕ → List ℕ
index_text n = if nat_lt n 10 then (48 + n) ∷ [] else (48 + n / 10) ∷ (48 + n % 10) ∷ []

-- the family's register of this index
abbrev pub member : Family → ℕ → Single
member f i = record { name = f.stem ++ index_text (f.from + i); place = place_at f.component (f.offset + f.stride * i) f.len }

abbrev pub members_of : List Family → List Single
members_of [] = []
members_of (f ∷ fs) = map (member f) (range_with_len 0 f.count) ++ members_of fs

-- this row of this tile
abbrev pub tile_row : ℕ → ℕ → Single
tile_row tile row = record { name = codes "tmm" ++ (index_text tile ++ codes "." ++ index_text row); place = place_at tiledata_number (1024 * tile + 64 * row) 64 }

-- every register, each with its name
unfoldable pub registers : List Single
registers = singles ++ (members_of families ++ map (λ n. tile_row (n / 16) (n % 16)) (range_with_len 0 128))

-- the place of the first register of this name
abbrev pub place_among : List Single → List ℕ → Option Place
place_among [] name = None
place_among (s ∷ ss) name = if bytes_eq s.name name then Some s.place else place_among ss name

-- the place, and that of no byte where there is none
abbrev pub place_or_none : Option Place → Place
place_or_none (Some place) = place
place_or_none None = place_at 0 0 0

-- The place of the register of this name: where none has it, a place of no byte.
unfoldable pub place_of : List ℕ → Place
place_of name = place_or_none (place_among registers name)
