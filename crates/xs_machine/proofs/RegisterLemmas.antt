-- The registers of a machine: where they are, and what fits them.
use Rattle.std.proofs.Common.{◌≡◌, ℕ, ◌+◌, ◌-◌, ◌<◌, Bool, true, not, ◌&&◌, ◌||◌, ◌==◌, List, [], ◌∷◌, ◌++◌, length, drop, get_or, refl, sym, ap, ◌∙◌, subst, arith}
use Rattle.std.proofs.lemmas.Bool.{and_parts, eqb-true, le-ltb}
use Rattle.std.proofs.lemmas.List.{ext_get_or, length-drop, get_or-drop}
use Rattle.std.proofs.lemmas.Nat.{le_bytes_4}
use Rattle.std.specs.Prelude.{slice_index}
use Rattle.std.specs.Int.{from_le_bytes, to_le_bytes, w32}
use Rattle.std.specs.List.{list_all}
use Rattle.xs_base.specs.declared.component.Row.{Row}
use Rattle.xs_base.specs.declared.component.Place.{Place}
use Rattle.xs_base.specs.Bytes.{splice, zeros}
use Rattle.xs_base.specs.File.{File, IsFile, is_mxcsr, part, with_part, with_pkru, write_place}
use Rattle.xs_base.proofs.ComponentLemmas.{length_zeros, zero_at, pkru_size}
use Rattle.xs_base.specs.Register.{IsNamed, IsRegister, place_at, place_of}
use Rattle.xs_base.proofs.Registers.{each_register, named_place}
use Rattle.xs_model.specs.declared.script.Command.TheVariants as commands
use Rattle.xs_model.specs.Counts.{is_pkru}
use Rattle.xs_model.specs.Script.{IsCommand, fits_register}

-- ---- places

-- the place of a register of the machine
pub register_of : (rows : List Row) (reg : List ℕ) (place : Place) → IsRegister rows reg place → IsRegister rows reg (place_of reg)
register_of rows reg place register = let P : Place → Type 0 = λ p. IsRegister rows reg p in subst P (sym (named_place reg place register.0)) register

-- ---- PKRU

-- PKRU's component has one register, its first four bytes
pub pkru_place : (reg : List ℕ) (place : Place) → IsNamed reg place → is_pkru (place_of reg) ≡ true → place_of reg ≡ place_at 9 0 4
pkru_place reg place named nine =
    let here : Place = place_of reg in
    let named_here : IsNamed reg (place_of reg) = rw (named_place reg place named) named in
    let either = each_register (λ s. not (is_pkru s.place) || ((s.place.offset == 0) && (s.place.len == 4))) reg (place_of reg) refl named_here in
    let both = and_parts (here.offset == 0) (here.len == 4) (rw nine at either) in
    let c = eqb-true here.comp.0 9 nine in
    let o = eqb-true here.offset 0 both.0 in
    let n = eqb-true here.len 4 both.1 in
    rw (c, o, n) refl

-- its four bytes in their component, whose upper ones are zero
pub pkru_spliced : (bytes old : List ℕ) → length bytes ≡ 4 → ((i : ℕ) → slice_index bytes i < 256) → length old ≡ 8 → ((k : ℕ) → get_or old (4 + k) 0 ≡ 0) → to_le_bytes w32 (from_le_bytes w32 bytes) ++ zeros 4 ≡ splice 0 bytes old
unfolding splice
pkru_spliced bytes old len small size clean =
    let four : to_le_bytes w32 (from_le_bytes w32 bytes) ≡ bytes = le_bytes_4 bytes (from_le_bytes w32 bytes) len small refl in
    let after : length (drop 4 old) ≡ 4 = length-drop 4 old ∙ ap (λ n. n - 4) size in
    let rest : zeros 4 ≡ drop 4 old = ext_get_or 0 (zeros 4) (drop 4 old) (length_zeros 4 ∙ sym after) (λ i lt. zero_at 4 i ∙ sym (get_or-drop 4 old i 0 ∙ clean i)) in
    let behind : 4 ≡ 0 + length bytes = omega (arith, len) in
    ap (λ (bs : List ℕ). bs ++ zeros 4) four ∙ ap (λ (bs : List ℕ). bytes ++ bs) (rest ∙ ap (λ n. drop n old) behind)

-- a file with this PKRU is the one with these bytes in PKRU's register
pub pkru_written : (file : File) (reg bytes : List ℕ) → IsFile file → (place : Place) → IsNamed reg place → is_pkru (place_of reg) ≡ true → length bytes ≡ 4 → ((i : ℕ) → slice_index bytes i < 256) → with_pkru file (from_le_bytes w32 bytes) ≡ write_place file (place_of reg) bytes
pkru_written file reg bytes good place named nine len small =
    rw (pkru_place reg place named nine) (ap (λ (bs : List ℕ). with_part file 9 bs)
    (pkru_spliced bytes (part file 9) len small (good.sizes 9 (omega arith) ∙ pkru_size) (λ k. good.clean 9 (4 + k) (le-ltb (4 + k) 4 (omega arith)))))

-- ---- values

-- the value of a command fits its register
set_fits : (rows : List Row) (reg bytes : List ℕ) → IsCommand rows (commands.Set reg bytes) → fits_register (place_of reg) bytes ≡ true
set_fits rows reg bytes command = rw (named_place reg command.0 command.1.0) command.2

-- so it has as many bytes
pub set_length : (rows : List Row) (reg bytes : List ℕ) → IsCommand rows (commands.Set reg bytes) → length bytes ≡ (place_of reg).len
set_length rows reg bytes command =
    let place : Place = place_of reg in
    let upper : Bool = list_all (λ byte. byte == 0) (drop 2 bytes) in
    eqb-true (length bytes) place.len (and_parts (length bytes == place.len) (not (is_mxcsr place) || upper) (set_fits rows reg bytes command)).0

upper_at : (bytes : List ℕ) → list_all (λ byte. byte == 0) (drop 2 bytes) ≡ true → (slice_index bytes 2 ≡ 0) × (slice_index bytes 3 ≡ 0)
upper_at [] zero = (refl, refl)
upper_at (a ∷ []) zero = (refl, refl)
upper_at (a ∷ (b ∷ [])) zero = (refl, refl)
upper_at (a ∷ (b ∷ (c ∷ []))) zero = (eqb-true c 0 (and_parts (c == 0) true zero).0, refl)
upper_at (a ∷ (b ∷ (c ∷ (d ∷ bytes)))) zero =
    let rest = list_all (λ byte. byte == 0) bytes in
    let parts = and_parts (c == 0) ((d == 0) && rest) zero in
    (eqb-true c 0 parts.0, eqb-true d 0 (and_parts (d == 0) rest parts.1).0)

upper_zero : (place : Place) (bytes : List ℕ) → fits_register place bytes ≡ true → is_mxcsr place ≡ true → (slice_index bytes 2 ≡ 0) × (slice_index bytes 3 ≡ 0)
upper_zero place bytes fits control =
    let upper = list_all (λ byte. byte == 0) (drop 2 bytes) in
    let parts = and_parts (length bytes == place.len) (not (is_mxcsr place) || upper) fits in
    upper_at bytes (rw control at parts.1)

-- and in MXCSR its bytes 2 and 3 are zero
pub set_control : (rows : List Row) (reg bytes : List ℕ) → IsCommand rows (commands.Set reg bytes) → is_mxcsr (place_of reg) ≡ true → (slice_index bytes 2 ≡ 0) × (slice_index bytes 3 ≡ 0)
set_control rows reg bytes command control = upper_zero (place_of reg) bytes (set_fits rows reg bytes command) control
