-- Commands as the orders of lines in a row.
use Rattle.std.proofs.Common.{◌≡◌, ℕ, suc, ◌+◌, ◌%◌, ◌^◌, ◌<◌, ◌≤◌, true, not, List, [], ◌∷◌, ◌++◌, length, map, refl, ap, arith}
use Rattle.std.specs.List.{AllByRecursion, list_all}
use Rattle.xs_base.specs.Layout.{amx_rows}
use Rattle.xs_model.specs.declared.script.Command.{Command}
use Rattle.xs_model.specs.declared.script.Order.{Order}
use Rattle.xs_model.specs.declared.script.Block.{Block}
use Rattle.xs_model.specs.Bound.{kill_lines}
use Rattle.xs_model.specs.Names.{AreNamedAfter, forked_names}
use Rattle.xs_model.specs.Script.{IsCommand, AreNumbered, AreRising, is_return}
use Rattle.xs_script.specs.declared.line.Line.{Line}
use Rattle.xs_script.specs.declared.line.Line.TheVariants as lines
use Rattle.xs_script.specs.Grammar.{HaveNumbers, order_lines}
use Rattle.xs_gen.proofs.FitCommands.{AreFit}

pub within : (number : ℕ) → number % 2 ^ 32 < 2 ^ 32
within number = omega arith

-- A command on the line of this number. The number of an order has 32 bits, as every line's of a generated script.
abbrev pub order_at : ℕ → Command → Order
order_at number command = record { number = number % 2 ^ 32; command = command; in_range = within number }

-- commands on lines in a row, from the line of this number on
unfoldable pub orders_from : ℕ → List Command → List Order
orders_from number [] = []
orders_from number (command ∷ cs) = order_at number command ∷ orders_from (number + 1) cs

pub length-orders_from : (number : ℕ) (cs : List Command) → length (orders_from number cs) ≡ length cs
unfolding orders_from
length-orders_from number [] = refl
length-orders_from number (command ∷ cs) = ap suc (length-orders_from (number + 1) cs)

-- Their lines are those of the commands.
pub order_lines-orders_from : (number : ℕ) (cs : List Command) → order_lines (orders_from number cs) ≡ map lines.Order cs
unfolding orders_from
order_lines-orders_from number [] = refl
order_lines-orders_from number (command ∷ cs) = ap (λ (ls : List Line). lines.Order command ∷ ls) (order_lines-orders_from (number + 1) cs)

-- ---- numbers

pub orders_numbered : (number : ℕ) (cs : List Command) → number + length cs ≤ 2 ^ 32 → AreNumbered number (orders_from number cs)
unfolding orders_from
orders_numbered number [] room = tt
orders_numbered number (command ∷ cs) room = (omega arith, orders_numbered (number + 1) cs (omega arith))

-- They rise, where what comes after them does.
pub orders_rise : (last number : ℕ) (cs : List Command) (rest : List ℕ) → last < number → number + length cs ≤ 2 ^ 32 → ((later : ℕ) → later < number + length cs → AreRising later rest) → AreRising last (map (λ (order : Order). order.number) (orders_from number cs) ++ rest)
unfolding orders_from
orders_rise last number [] rest below room more = more last (omega arith)
orders_rise last number (command ∷ cs) rest below room more =
    (omega arith, orders_rise (number % 2 ^ 32) (number + 1) cs rest (omega arith) (omega arith) (λ later under. more later (omega arith)))

-- ---- what fit commands are as orders

pub orders_known : (number : ℕ) (cs : List Command) → AreFit cs → AllByRecursion (λ (order : Order). IsCommand amx_rows order.command) (orders_from number cs)
unfolding orders_from
orders_known number [] fit = tt
orders_known number (command ∷ cs) fit = (fit.0.known, orders_known (number + 1) cs fit.1)

pub orders_inside : (number : ℕ) (cs : List Command) → AreFit cs → list_all (λ (order : Order). not (is_return order.command)) (orders_from number cs) ≡ true
unfolding orders_from
orders_inside number [] fit = refl
orders_inside number (command ∷ cs) fit = rw (fit.0.inside, orders_inside (number + 1) cs fit.1) refl

pub orders_have_numbers : (number : ℕ) (cs : List Command) → AreFit cs → HaveNumbers (orders_from number cs)
unfolding orders_from
orders_have_numbers number [] fit = tt
orders_have_numbers number (command ∷ cs) fit = (fit.0.number, orders_have_numbers (number + 1) cs fit.1)

pub orders_named : (blocks : List Block) (earlier : List Order) (number : ℕ) (cs : List Command) → AreFit cs → AreNamedAfter blocks earlier (orders_from number cs)
unfolding orders_from
orders_named blocks earlier number [] fit = tt
orders_named blocks earlier number (command ∷ cs) fit =
    (fit.0.names blocks earlier, orders_named blocks (order_at number command ∷ earlier) (number + 1) cs fit.1)

pub orders_fork_none : (number : ℕ) (cs : List Command) → AreFit cs → forked_names (orders_from number cs) ≡ []
unfolding orders_from
orders_fork_none number [] fit = refl
orders_fork_none number (command ∷ cs) fit = rw (fit.0.forks, orders_fork_none (number + 1) cs fit.1) refl

pub orders_kill_none : (number : ℕ) (cs : List Command) → AreFit cs → kill_lines (orders_from number cs) ≡ 0
unfolding orders_from
orders_kill_none number [] fit = refl
orders_kill_none number (command ∷ cs) fit = rw (fit.0.kills, orders_kill_none (number + 1) cs fit.1) refl
