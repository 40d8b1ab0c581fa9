-- How long a generated text is.
use Rattle.std.proofs.Common.{◌≡◌, ℕ, zero, suc, ◌+◌, ◌*◌, ◌%◌, ◌<◌, ◌≤◌, Bool, true, false, ◌==◌, List, [], ◌∷◌, ◌++◌, length, map, codes, decimal, refl, ap, arith, lit≤, length-append}
use Rattle.std.specs.Prelude.{if◌then◌else◌}
use Rattle.std.specs.Fmt.{digits}
use Rattle.std.proofs.lemmas.Fmt.{length-decimal-le}
use Rattle.hex.specs.Hex.{encode_lower, lower_digits}
use Rattle.hex.proofs.HexLemmas.{length-encode_with}
use Rattle.xs_model.specs.declared.script.Command.{Command}
use Rattle.xs_model.specs.declared.script.Command.TheVariants as commands
use Rattle.xs_script.specs.declared.line.Line.TheVariants as lines
use Rattle.xs_script.specs.Grammar.{lines_text}
use Rattle.xs_gen.specs.Generated.{after, after_round, after_rounds, after_task, drawn, draws, generated_text, next, round_lines, rounds, task_block, task_blocks, task_lines, third_line, tile_lines, xmm_name}
use Rattle.xs_gen.specs.Written.{order_text, orders_text}
use Rattle.xs_gen.proofs.FitCommands.{length-draws}
use Rattle.xs_gen.proofs.TextLemmas.{head_text, lines_text-append, orders_text-append}

-- ---- single lines

length-set : (name bytes : List ℕ) → length (order_text (commands.Set name bytes)) ≡ length name + 2 * length bytes + 6
length-set name bytes =
    let hex = encode_lower bytes in
    omega (arith, length-append name (32 ∷ hex), length-append (name ++ 32 ∷ hex) (10 ∷ []), length-encode_with lower_digits bytes)

length-get : (name : List ℕ) → length (order_text (commands.Get name)) ≡ length name + 5
length-get name = omega (arith, length-append name (10 ∷ []))

length-ksec : (byte : ℕ) → length (order_text (commands.Ksec byte)) ≡ 8
length-ksec byte = omega (arith, length-append (encode_lower (byte ∷ [])) (10 ∷ []), length-encode_with lower_digits (byte ∷ []))

either_short : (most : ℕ) (b : Bool) (x y : Command) → length (order_text x) ≤ most → length (order_text y) ≤ most → length (order_text (if b then x else y)) ≤ most
either_short most true x y here there = here
either_short most false x y here there = there

third_short : (r s : ℕ) → length (order_text (third_line r s)) ≤ 24
third_short r s =
    let mask : length (order_text (commands.Set (codes "k0") (draws 8 s))) ≤ 24 = omega (arith, length-set (codes "k0") (draws 8 s), length-draws 8 s) in
    let section : length (order_text (commands.Ksec (drawn s))) ≤ 24 = omega (arith, length-ksec (drawn s)) in
    either_short 24 (r % 4 == 0) _ _ (lit≤ tt) (either_short 24 (r % 4 == 1) _ _ section (either_short 24 (r % 4 == 2) _ _ mask (lit≤ tt)))

-- ---- rounds

xmm_short : (byte : ℕ) → length (xmm_name byte) ≤ 5
xmm_short byte = omega (arith, length-decimal-le 2 (byte % 16) (omega arith) (omega arith) (omega arith))

round_short : (r s : ℕ) → length (orders_text (round_lines r s)) ≤ 77
round_short r s =
    let name = xmm_name (drawn s) in
    let set = commands.Set name (draws 16 (next s)) in
    let get = commands.Get name in
    let third = third_line r (after 17 s) in
    let behind = order_text third ++ [] in
    omega (
      arith,
      length-append (order_text set) (order_text get ++ behind),
      length-append (order_text get) behind,
      length-append (order_text third) [],
      length-set name (draws 16 (next s)),
      length-draws 16 (next s),
      length-get name,
      xmm_short (drawn s),
      third_short r (after 17 s),
    )

rounds_short : (n r s : ℕ) → length (orders_text (rounds n r s)) ≤ 77 * n
unfolding rounds
rounds_short zero r s = lit≤ tt
rounds_short (suc n) r s =
    let rest = rounds n (r + 1) (after_round r s) in
    let joined = ap (λ (t : List ℕ). length t) (orders_text-append (round_lines r s) rest) in
    omega (arith, joined, length-append (orders_text (round_lines r s)) (orders_text rest), round_short r s, rounds_short n (r + 1) (after_round r s))

-- ---- tasks

tile_short : (s : ℕ) → length (orders_text (tile_lines s)) ≤ 151
tile_short s =
    let set = order_text (commands.Set (codes "tmm0.0") (draws 64 s)) in
    let get = order_text (commands.Get (codes "tmm0.0")) in
    omega (arith, length-append set (get ++ []), length-append get [], length-set (codes "tmm0.0") (draws 64 s), length-draws 64 s, length-get (codes "tmm0.0"))

perm_short : length (order_text (commands.Perm 18)) ≡ 8
unfolding digits
perm_short = refl

-- the lines of a task but its first and its last
body_short : (s : ℕ) → length (orders_text (task_lines s)) ≤ 8167
body_short s =
    let tiles = tile_lines (after_rounds 104 0 s) in
    let asked = order_text (commands.Perm 18) in
    let some = orders_text (rounds 104 0 s ++ tiles) in
    let joined = ap (λ (t : List ℕ). length t) (orders_text-append (rounds 104 0 s) tiles) in
    omega (arith, length-append asked some, perm_short, joined, length-append (orders_text (rounds 104 0 s)) (orders_text tiles), rounds_short 104 0 s, tile_short (after_rounds 104 0 s))

task_short : (j s : ℕ) → j < 64 → length (lines_text (task_block j s)) ≤ 8180
task_short j s few =
    let first = (codes "task t" ++ decimal j) ++ 10 ∷ [] in
    let body = map lines.Order (task_lines s) in
    let last = lines.End ∷ [] in
    let joined = ap (λ (t : List ℕ). length t) (lines_text-append body last) in
    omega (
      arith,
      length-append first (lines_text (body ++ last)),
      length-append (codes "task t" ++ decimal j) (10 ∷ []),
      length-decimal-le 2 j (omega arith) (omega arith) (omega arith),
      joined,
      length-append (lines_text body) (lines_text last),
      body_short s,
    )

tasks_short : (n j s : ℕ) → j + n ≤ 64 → length (lines_text (task_blocks n j s)) ≤ 8180 * n
unfolding task_blocks
tasks_short zero j s few = lit≤ tt
tasks_short (suc n) j s few =
    let rest = task_blocks n (j + 1) (after_task s) in
    let joined = ap (λ (t : List ℕ). length t) (lines_text-append (task_block j s) rest) in
    omega (arith, joined, length-append (lines_text (task_block j s)) (lines_text rest), task_short j s (omega arith), tasks_short n (j + 1) (after_task s) (omega arith))

-- ---- the text

pub generated_short : (number : ℕ) → length (generated_text number) ≤ 1048576
generated_short number =
    let head = codes "xstate 1\nmachine amx\ncpus 8\nquantum 8\nlarge 64\n" in
    let blocks = lines_text (task_blocks 64 0 number) in
    let joined = ap (λ (t : List ℕ). length t) (head_text number) in
    omega (arith, joined, length-append head blocks, tasks_short 64 0 number (lit≤ tt))
