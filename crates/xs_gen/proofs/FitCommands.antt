-- The commands of a generated script are commands of the machine, stand in a body, and name no block.
use Rattle.std.proofs.Common.{◌≡◌, ℕ, zero, suc, ◌+◌, ◌*◌, ◌/◌, ◌%◌, ◌^◌, ◌<◌, Bool, true, false, not, ◌==◌, List, [], ◌∷◌, ◌++◌, length, codes, decimal, refl, sym, ap, arith, lit<, length-append}
use Rattle.std.specs.Prelude.{if◌then◌else◌}
use Rattle.std.specs.List.{AllByRecursion}
use Rattle.std.specs.Fmt.{digits}
use Rattle.std.proofs.lemmas.Bool.{ne_eqb, eq-eqb}
use Rattle.xs_base.specs.declared.component.Place.{Place}
use Rattle.xs_base.specs.File.{is_mxcsr}
use Rattle.xs_base.specs.Layout.{amx_rows, has_row}
use Rattle.xs_base.specs.Register.{place_at, family, single, IsMember, IsTileRow, Alone, Member, TileRow, IsRegister}
use Rattle.xs_model.specs.declared.script.Command.{Command}
use Rattle.xs_model.specs.declared.script.Command.TheVariants as commands
use Rattle.xs_model.specs.declared.script.Order.{Order}
use Rattle.xs_model.specs.declared.script.Block.{Block}
use Rattle.xs_model.specs.Bound.{one_if_kill}
use Rattle.xs_model.specs.Names.{NamesBlock, forked_name}
use Rattle.xs_model.specs.Script.{IsCommand, fits_register, is_return}
use Rattle.xs_script.specs.Grammar.{HasNumber}
use Rattle.xs_gen.specs.Generated.{after, after_round, after_rounds, drawn, draws, next, round_lines, rounds, task_lines, third_line, tile_lines, xmm_name}

-- ---- draws are bytes

high_bits : (x : ℕ) → x % 2 ^ 64 / 2 ^ 56 < 256
high_bits x = omega arith

pub drawn_small : (s : ℕ) → drawn s < 256
drawn_small s = high_bits (s * 6364136223846793005 + 1442695040888963407)

pub draws_small : (n s : ℕ) → AllByRecursion (λ byte. byte < 256) (draws n s)
unfolding draws
draws_small zero s = tt
draws_small (suc n) s = (drawn_small s, draws_small n (next s))

pub length-draws : (n s : ℕ) → length (draws n s) ≡ n
unfolding draws
length-draws zero s = refl
length-draws (suc n) s = ap suc (length-draws n (next s))

-- ---- registers of the machine

machine_has : (has_row amx_rows 1 ≡ true) × (has_row amx_rows 5 ≡ true) × (has_row amx_rows 9 ≡ true) × (has_row amx_rows 18 ≡ true)
unfolding has_row amx_rows
machine_has = (refl, refl, refl, refl)

abbrev xmm_place : ℕ → Place
xmm_place byte = place_at 1 (0 + 16 * (byte % 16)) 16

xmm_register : (byte : ℕ) → IsRegister amx_rows (xmm_name byte) (xmm_place byte)
xmm_register byte =
    let index : 0 + byte % 16 ≡ byte % 16 = omega arith in
    let member : IsMember (xmm_name byte) (xmm_place byte) (family (codes "xmm") 0 16 1 0 16 16) = record {
      index = byte % 16;
      within = omega arith;
      spelled = ap (λ (n : ℕ). codes "xmm" ++ decimal n) (sym index);
      placed = refl;
    } in (Member (1, family (codes "xmm") 0 16 1 0 16 16, lit< tt, refl, member), machine_has.0)

mask_register : IsRegister amx_rows (codes "k0") (place_at 5 0 8)
unfolding digits
mask_register =
    let member : IsMember (codes "k0") (place_at 5 0 8) (family (codes "k") 0 8 5 0 8 8) = record { index = 0; within = lit< tt; spelled = refl; placed = refl } in
    (Member (3, family (codes "k") 0 8 5 0 8 8, lit< tt, refl, member), machine_has.1)

rights_register : IsRegister amx_rows (codes "pkru") (place_at 9 0 4)
rights_register = (Alone (7, single (codes "pkru") 9 0 4, lit< tt, refl, (refl, refl)), machine_has.2)

tile_register : IsRegister amx_rows (codes "tmm0.0") (place_at 18 0 64)
unfolding digits
tile_register =
    let row : IsTileRow (codes "tmm0.0") (place_at 18 0 64) = record { tile = 0; row = 0; tiles = lit< tt; rows = lit< tt; spelled = refl; placed = refl } in
    (TileRow row, machine_has.3)

-- ---- commands

-- What a script asks of a command of a body that names no block.
pub record IsFit (command : Command) : Type 0 where
  pub known : IsCommand amx_rows command
  pub inside : not (is_return command) ≡ true
  pub number : HasNumber command
  pub names : (blocks : List Block) (earlier : List Order) → NamesBlock blocks earlier command
  pub forks : forked_name command ≡ []
  pub kills : one_if_kill command ≡ 0

set_fits : (name bytes : List ℕ) (place : Place) → IsRegister amx_rows name place → length bytes ≡ place.len → is_mxcsr place ≡ false → AllByRecursion (λ byte. byte < 256) bytes → IsFit (commands.Set name bytes)
set_fits name bytes place register long other small =
    let fits : fits_register place bytes ≡ true = rw (eq-eqb _ _ long, other) refl in
    record { known = (place, register, fits, small); inside = refl; number = tt; names = λ blocks earlier. tt; forks = refl; kills = refl }

get_fits : (name : List ℕ) (place : Place) → IsRegister amx_rows name place → IsFit (commands.Get name)
get_fits name place register =
    record { known = (place, register); inside = refl; number = tt; names = λ blocks earlier. tt; forks = refl; kills = refl }

ksec_fits : (byte : ℕ) → byte < 256 → IsFit (commands.Ksec byte)
ksec_fits byte small =
    record { known = small; inside = refl; number = tt; names = λ blocks earlier. tt; forks = refl; kills = refl }

yield_fits : IsFit commands.Yield
yield_fits = record { known = tt; inside = refl; number = tt; names = λ blocks earlier. tt; forks = refl; kills = refl }

perm_fits : IsFit (commands.Perm 18)
perm_fits = record { known = tt; inside = refl; number = lit< tt; names = λ blocks earlier. tt; forks = refl; kills = refl }

-- ---- the lines of a task

abbrev pub AreFit : List Command → Type 0
AreFit cs = AllByRecursion IsFit cs

pub all-append : {X : Type 0} (P : X → Type 0) (xs ys : List X) → AllByRecursion P xs → AllByRecursion P ys → AllByRecursion P (xs ++ ys)
all-append P [] ys here there = there
all-append P (x ∷ xs) ys here there = (here.0, all-append P xs ys here.1 there)

either_fits : (b : Bool) (x y : Command) → IsFit x → IsFit y → IsFit (if b then x else y)
either_fits true x y here there = here
either_fits false x y here there = there

third_fits : (r s : ℕ) → IsFit (third_line r s)
third_fits r s =
    let mask = set_fits (codes "k0") (draws 8 s) (place_at 5 0 8) mask_register (length-draws 8 s) refl (draws_small 8 s) in
    let rights = get_fits (codes "pkru") (place_at 9 0 4) rights_register in
    either_fits (r % 4 == 0) _ _ yield_fits
    (either_fits (r % 4 == 1) _ _ (ksec_fits (drawn s) (drawn_small s)) (either_fits (r % 4 == 2) _ _ mask rights))

xmm_apart : (byte : ℕ) → is_mxcsr (xmm_place byte) ≡ false
xmm_apart byte = ne_eqb (0 + 16 * (byte % 16)) 256 (λ e. omega arith)

round_fits : (r s : ℕ) → AreFit (round_lines r s)
round_fits r s =
    let byte = drawn s in (
      set_fits (xmm_name byte) (draws 16 (next s)) (xmm_place byte) (xmm_register byte) (length-draws 16 (next s)) (xmm_apart byte) (draws_small 16 (next s)),
      (get_fits (xmm_name byte) (xmm_place byte) (xmm_register byte), (third_fits r (after 17 s), tt)),
    )

rounds_fit : (n r s : ℕ) → AreFit (rounds n r s)
unfolding rounds
rounds_fit zero r s = tt
rounds_fit (suc n) r s = all-append IsFit (round_lines r s) (rounds n (r + 1) (after_round r s)) (round_fits r s) (rounds_fit n (r + 1) (after_round r s))

tile_fits : (s : ℕ) → AreFit (tile_lines s)
tile_fits s = (
  set_fits (codes "tmm0.0") (draws 64 s) (place_at 18 0 64) tile_register (length-draws 64 s) refl (draws_small 64 s),
  (get_fits (codes "tmm0.0") (place_at 18 0 64) tile_register, tt),
)

pub task_fits : (s : ℕ) → AreFit (task_lines s)
task_fits s = (perm_fits, all-append IsFit (rounds 104 0 s) (tile_lines (after_rounds 104 0 s)) (rounds_fit 104 0 s) (tile_fits (after_rounds 104 0 s)))

-- ---- how many lines

length-rounds : (n r s : ℕ) → length (rounds n r s) ≡ 3 * n
unfolding rounds
length-rounds zero r s = refl
length-rounds (suc n) r s = let rest = length-rounds n (r + 1) (after_round r s) in omega (arith, rest)

pub length-task : (s : ℕ) → length (task_lines s) ≡ 315
length-task s =
    let tiles = tile_lines (after_rounds 104 0 s) in
    omega (arith, length-append (rounds 104 0 s) tiles, length-rounds 104 0 s)
