-- The tasks of a generated script as blocks.
use Rattle.std.proofs.Common.{◌≡◌, ℕ, zero, suc, ◌+◌, ◌*◌, ◌^◌, ◌<◌, ◌≤◌, true, List, [], ◌∷◌, ◌++◌, length, map, refl, sym, ap, subst, ◌∙◌, arith}
use Rattle.std.specs.List.{AllByRecursion, flat_map}
use Rattle.std.proofs.lemmas.List.{append-nil}
use Rattle.xs_base.specs.Layout.{amx_rows}
use Rattle.xs_model.specs.declared.script.BlockKind.TheVariants as kinds
use Rattle.xs_model.specs.declared.script.Order.{Order}
use Rattle.xs_model.specs.declared.script.Block.{Block}
use Rattle.xs_model.specs.Bound.{all_kill_lines, body_lines}
use Rattle.xs_model.specs.Names.{AreNamed, all_forked_names}
use Rattle.xs_model.specs.Script.{AreBlocksNumbered, AreDistinct, AreRising, IsBody, is_name, lines_of, order_numbers}
use Rattle.xs_script.specs.declared.line.Line.{Line}
use Rattle.xs_script.specs.declared.line.Line.TheVariants as lines
use Rattle.xs_script.specs.Grammar.{HaveNumbers, block_lines}
use Rattle.xs_gen.specs.Generated.{after_task, task_block, task_blocks, task_lines}
use Rattle.xs_gen.proofs.FitCommands.{length-task, task_fits}
use Rattle.xs_gen.proofs.NumberedOrders.{orders_from, length-orders_from, order_lines-orders_from, orders_numbered, orders_rise, orders_known, orders_inside, orders_have_numbers, orders_named, orders_fork_none, orders_kill_none}
use Rattle.xs_gen.proofs.TaskNames.{task_name, task_is_named, task_name_injective}

-- task j, whose first line has the number `first`
abbrev pub block_at : ℕ → ℕ → ℕ → Block
block_at j first s = record { kind = kinds.Task; name = task_name j; body = orders_from (first + 1) (task_lines s); handler = [] }

-- So many tasks from task j on. Each has 317 lines: 315 of its body, its first and its last.
unfoldable pub blocks_from : ℕ → ℕ → ℕ → ℕ → List Block
blocks_from zero j first s = []
blocks_from (suc n) j first s = block_at j first s ∷ blocks_from n (j + 1) (first + 317) (after_task s)

pub length-blocks_from : (n j first s : ℕ) → length (blocks_from n j first s) ≡ n
unfolding blocks_from
length-blocks_from zero j first s = refl
length-blocks_from (suc n) j first s = ap suc (length-blocks_from n (j + 1) (first + 317) (after_task s))

length-body : (number s : ℕ) → length (orders_from number (task_lines s)) ≡ 315
length-body number s = length-orders_from number (task_lines s) ∙ length-task s

-- ---- the lines

block_lines-block_at : (j first s : ℕ) → block_lines (block_at j first s) ≡ task_block j s
block_lines-block_at j first s =
    ap (λ (ls : List Line). lines.Begin kinds.Task (task_name j) ∷ (ls ++ lines.End ∷ [])) (order_lines-orders_from (first + 1) (task_lines s))

pub blocks_spelled : (n j first s : ℕ) → flat_map block_lines (blocks_from n j first s) ≡ task_blocks n j s
unfolding blocks_from task_blocks
blocks_spelled zero j first s = refl
blocks_spelled (suc n) j first s =
    ap (λ (ls : List Line). ls ++ flat_map block_lines (blocks_from n (j + 1) (first + 317) (after_task s))) (block_lines-block_at j first s)
    ∙ ap (λ (ls : List Line). task_block j s ++ ls) (blocks_spelled n (j + 1) (first + 317) (after_task s))

-- ---- the numbers of lines

pub blocks_numbered : (n j first s : ℕ) → first + 317 * n ≤ 2 ^ 32 → AreBlocksNumbered first (blocks_from n j first s)
unfolding blocks_from
blocks_numbered zero j first s room = tt
blocks_numbered (suc n) j first s room =
    let body = length-body (first + 1) s in
    let rest : first + 317 ≡ first + length (orders_from (first + 1) (task_lines s)) + 0 + 2 = omega (arith, body) in (
      orders_numbered (first + 1) (task_lines s) (omega (arith, length-task s)),
      tt,
      subst (λ (at : ℕ). AreBlocksNumbered at (blocks_from n (j + 1) (first + 317) (after_task s))) rest (blocks_numbered n (j + 1) (first + 317) (after_task s) (omega arith)),
    )

pub blocks_rise : (n j first s last : ℕ) → last ≤ first → first + 317 * n ≤ 2 ^ 32 → AreRising last (order_numbers (blocks_from n j first s))
unfolding blocks_from
blocks_rise zero j first s last below room = tt
blocks_rise (suc n) j first s last below room =
    let rest = order_numbers (blocks_from n (j + 1) (first + 317) (after_task s)) in
    let long = length-task s in
    let one : AreRising last (map (λ (order : Order). order.number) (orders_from (first + 1) (task_lines s)) ++ rest) =
    orders_rise last (first + 1) (task_lines s) rest (omega arith) (omega arith)
    (λ later under. blocks_rise n (j + 1) (first + 317) (after_task s) later (omega arith) (omega arith)) in
    subst (λ (orders : List Order). AreRising last (map (λ (order : Order). order.number) orders ++ rest)) (sym (append-nil (orders_from (first + 1) (task_lines s)))) one

-- ---- names

pub blocks_are_named : (n j first s : ℕ) → j + n ≤ 64 → AllByRecursion (λ (block : Block). is_name block.name ≡ true) (blocks_from n j first s)
unfolding blocks_from
blocks_are_named zero j first s few = tt
blocks_are_named (suc n) j first s few = (task_is_named j (omega arith), blocks_are_named n (j + 1) (first + 317) (after_task s) (omega arith))

-- Later tasks have other names.
names_differ : (n j k first s : ℕ) → j < k → k + n ≤ 64 → AllByRecursion (λ other. other ≡ task_name j → ⊥) (map (λ (block : Block). block.name) (blocks_from n k first s))
unfolding blocks_from
names_differ zero j k first s less few = tt
names_differ (suc n) j k first s less few =
    (λ e. let same = task_name_injective k j (omega arith) (omega arith) e in omega arith, names_differ n j (k + 1) (first + 317) (after_task s) (omega arith) (omega arith))

pub blocks_distinct : (n j first s : ℕ) → j + n ≤ 64 → AreDistinct (map (λ (block : Block). block.name) (blocks_from n j first s))
unfolding blocks_from
blocks_distinct zero j first s few = tt
blocks_distinct (suc n) j first s few =
    (names_differ n j (j + 1) (first + 317) (after_task s) (omega arith) (omega arith), blocks_distinct n (j + 1) (first + 317) (after_task s) (omega arith))

-- ---- bodies

block_fits : (j first s : ℕ) → IsBody amx_rows (block_at j first s)
block_fits j first s = record {
  body = orders_known (first + 1) (task_lines s) (task_fits s);
  handler = tt;
  inside = orders_inside (first + 1) (task_lines s) (task_fits s);
  returns = refl;
  kind = refl;
}

pub blocks_fit : (n j first s : ℕ) → AllByRecursion (λ (block : Block). IsBody amx_rows block) (blocks_from n j first s)
unfolding blocks_from
blocks_fit zero j first s = tt
blocks_fit (suc n) j first s = (block_fits j first s, blocks_fit n (j + 1) (first + 317) (after_task s))

pub blocks_have_numbers : (n j first s : ℕ) → AllByRecursion (λ (block : Block). HaveNumbers (lines_of block)) (blocks_from n j first s)
unfolding blocks_from
blocks_have_numbers zero j first s = tt
blocks_have_numbers (suc n) j first s =
    let body = orders_from (first + 1) (task_lines s) in
    (subst HaveNumbers (sym (append-nil body)) (orders_have_numbers (first + 1) (task_lines s) (task_fits s)), blocks_have_numbers n (j + 1) (first + 317) (after_task s))

pub blocks_name_blocks : (all : List Block) (n j first s : ℕ) → AllByRecursion (λ (block : Block). AreNamed all block.body) (blocks_from n j first s)
unfolding blocks_from
blocks_name_blocks all zero j first s = tt
blocks_name_blocks all (suc n) j first s =
    (orders_named all [] (first + 1) (task_lines s) (task_fits s), blocks_name_blocks all n (j + 1) (first + 317) (after_task s))

pub blocks_fork_none : (n j first s : ℕ) → all_forked_names (blocks_from n j first s) ≡ []
unfolding blocks_from
blocks_fork_none zero j first s = refl
blocks_fork_none (suc n) j first s =
    rw (orders_fork_none (first + 1) (task_lines s) (task_fits s), blocks_fork_none n (j + 1) (first + 317) (after_task s)) refl

-- ---- how many events

pub body_lines-blocks_from : (n j first s : ℕ) → body_lines (blocks_from n j first s) ≡ 315 * n
unfolding blocks_from
body_lines-blocks_from zero j first s = refl
body_lines-blocks_from (suc n) j first s =
    let rest = body_lines-blocks_from n (j + 1) (first + 317) (after_task s) in omega (arith, rest, length-body (first + 1) s)

pub blocks_kill_none : (n j first s : ℕ) → all_kill_lines (blocks_from n j first s) ≡ 0
unfolding blocks_from
blocks_kill_none zero j first s = refl
blocks_kill_none (suc n) j first s =
    let rest = blocks_kill_none n (j + 1) (first + 317) (after_task s) in omega (arith, rest, orders_kill_none (first + 1) (task_lines s) (task_fits s))
