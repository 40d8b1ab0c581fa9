-- The numbers of lines in a row rise.
use Rattle.std.proofs.Common.{ℕ, ◌+◌, ◌<◌, ◌≤◌, ◌≡◌, List, [], ◌∷◌, ◌++◌, length, map, sym, ◌∙◌, ap, subst, arith}
use Rattle.std.proofs.lemmas.List.{append_assoc, map-append}
use Rattle.xs_model.specs.declared.script.Order.{Order}
use Rattle.xs_model.specs.declared.script.Block.{Block}
use Rattle.xs_model.specs.Script.{AreNumbered, AreBlocksNumbered, AreRising, handler_span, lines_of, order_numbers}

-- the numbers of some orders, and what comes after them
orders_rise : (last number : ℕ) (orders : List Order) (rest : List ℕ) → last < number → AreNumbered number orders → ((later : ℕ) → later < number + length orders → AreRising later rest) → AreRising last (map (λ (order : Order). order.number) orders ++ rest)
orders_rise last number [] rest below h more = more last (omega arith)
orders_rise last number (order ∷ orders) rest below h more =
    (omega (arith, h.0), orders_rise order.number (number + 1) orders rest (omega (arith, h.0)) h.1 (λ later under. more later (omega arith)))

pub span_long : (orders : List Order) → length orders ≤ handler_span orders
span_long [] = omega arith
span_long (order ∷ orders) = omega arith

-- the numbers of all blocks
pub blocks_rise : (last first : ℕ) (blocks : List Block) → last ≤ first → AreBlocksNumbered first blocks → AreRising last (order_numbers blocks)
blocks_rise last first [] below h = tt
blocks_rise last first (block ∷ blocks) below h =
    let numbers = λ (orders : List Order). map (λ (order : Order). order.number) orders in
    let span = span_long block.handler in
    let parted : numbers (lines_of block) ++ order_numbers blocks ≡ numbers block.body ++ (numbers block.handler ++ order_numbers blocks) =
    ap (λ (ns : List ℕ). ns ++ order_numbers blocks) (map-append (λ (order : Order). order.number) block.body block.handler)
    ∙ append_assoc (numbers block.body) (numbers block.handler) (order_numbers blocks) in
    subst (AreRising last) (sym parted)
    (orders_rise last (first + 1) block.body (numbers block.handler ++ order_numbers blocks) (omega arith) h.0
    (λ later under. orders_rise later (first + length block.body + 2) block.handler (order_numbers blocks) (omega arith) h.1
    (λ last_one below_it. blocks_rise last_one (first + length block.body + handler_span block.handler + 2) blocks (omega (arith, span, below_it)) h.2)))
