-- Children that the commands of a body wait for and reach, by the lines of the text and by the orders of the body.
use Rattle.std.proofs.Common.{◌≡◌, ℕ, Bool, true, false, ◌||◌, List, [], ◌∷◌, ◌++◌, map, refl, sym, ◌∙◌, ap, subst}
use Rattle.std.specs.Prelude.{if◌then◌else◌}
use Rattle.std.specs.List.{AllByRecursion, flat_map}
use Rattle.xs_base.specs.declared.component.Row.{Row}
use Rattle.xs_model.specs.declared.script.Command.{Command}
use Rattle.xs_model.specs.declared.script.Command.TheVariants as commands
use Rattle.xs_model.specs.declared.script.Order.{Order}
use Rattle.xs_model.specs.declared.script.Block.{Block}
use Rattle.xs_model.specs.Names.{is_fork_of, is_wait_for, is_cont_of, is_forked, is_awaited, NamesBlock, AreNamedAfter, AreNamed}
use Rattle.xs_model.specs.Script.{is_outer, AreDistinct, IsBody}
use Rattle.xs_script.specs.declared.line.Line.{Line}
use Rattle.xs_script.specs.declared.line.Line.TheVariants as lines
use Rattle.xs_script.specs.Grammar.{order_lines, handler_lines, block_lines}
use Rattle.xs_script.specs.Before.{earlier_with, earlier_after, forks_child, awaits_child}
use Rattle.xs_script.specs.Refusal.{NamesOne, ReachesOwn, LineReachesOwn, AreReaching}
use Rattle.xs_script.specs.Body.{names_of}
use Rattle.xs_script.proofs.BlockParts.{block_row}
use Rattle.xs_script.proofs.Children.{IsFrontLine, HasNoNames, block_scope, fork_named, kill_named, handler_local}

-- ---- the lines before the blocks

front_earlier : (earlier : List Command) (l : Line) → IsFrontLine l → earlier_with earlier l ≡ earlier
front_earlier earlier (lines.Begin kind name) h = absurd h
front_earlier earlier (lines.Order command) h = absurd h
front_earlier earlier lines.End h = absurd h
front_earlier earlier other h = refl

front_reaches : (own awaited : List ℕ → Bool) (l : Line) → IsFrontLine l → LineReachesOwn own awaited l
front_reaches own awaited (lines.Order command) h = absurd h
front_reaches own awaited other h = tt

pub no_earlier : (earlier : List Command) (a b : List Line) → HasNoNames a → earlier_after earlier (a ++ b) ≡ earlier_after earlier b
no_earlier earlier [] b h = refl
no_earlier earlier (l ∷ a) b h = ap (λ (so_far : List Command). earlier_after so_far (a ++ b)) (front_earlier earlier l h.0) ∙ no_earlier earlier a b h.1

pub front_reaching : (earlier : List Command) (a b : List Line) → HasNoNames a → AreReaching earlier b → AreReaching earlier (a ++ b)
front_reaching earlier [] b h reaching = reaching
front_reaching earlier (l ∷ a) b h reaching = (front_reaches (forks_child earlier) (awaits_child earlier) l h.0, rw (front_earlier earlier l h.0) (front_reaching earlier a b h.1 reaching))

pub reaching_front : (earlier : List Command) (a b : List Line) → HasNoNames a → AreReaching earlier (a ++ b) → AreReaching earlier b
reaching_front earlier [] b h reaching = reaching
reaching_front earlier (l ∷ a) b h reaching = reaching_front earlier a b h.1 (rw (front_earlier earlier l h.0) at reaching.1)

-- ---- the orders of a body

abbrev commands_of : List Order → List Command
commands_of orders = map (λ (order : Order). order.command) orders

forks_orders : (earlier : List Order) (name : List ℕ) → forks_child (commands_of earlier) name ≡ is_forked earlier name
forks_orders [] name = refl
forks_orders (o ∷ earlier) name = ap (λ (t : Bool). is_fork_of name o.command || t) (forks_orders earlier name)

awaits_orders : (earlier : List Order) (name : List ℕ) → awaits_child (commands_of earlier) name ≡ is_awaited earlier name
awaits_orders [] name = refl
awaits_orders (o ∷ earlier) name =
    ap (λ (t : Bool). if is_wait_for name o.command then true else if is_cont_of name o.command then false else t) (awaits_orders earlier name)

module _ (blocks : List Block) (earlier : List Order) where
  -- a command that has the names that it may have reaches children of its own body
  named_reaches : (command : Command) → NamesBlock blocks earlier command → ReachesOwn (forks_child (commands_of earlier)) (awaits_child (commands_of earlier)) command
  named_reaches (commands.Wait name) h = forks_orders earlier name ∙ h
  named_reaches (commands.Getregs name set) h = (forks_orders earlier name ∙ h.0, awaits_orders earlier name ∙ h.1)
  named_reaches (commands.Setregs name set count) h = (forks_orders earlier name ∙ h.0, awaits_orders earlier name ∙ h.1)
  named_reaches (commands.Cont name) h = (forks_orders earlier name ∙ h.0, awaits_orders earlier name ∙ h.1)
  named_reaches other h = tt

  -- and the other way round
  reaches_named : (rows : List Row) (command : Command) → AreDistinct (names_of blocks) → NamesOne (block_scope rows blocks) command → ReachesOwn (forks_child (commands_of earlier)) (awaits_child (commands_of earlier)) command → NamesBlock blocks earlier command
  reaches_named rows (commands.Wait name) d named h = sym (forks_orders earlier name) ∙ h
  reaches_named rows (commands.Getregs name set) d named h = (sym (forks_orders earlier name) ∙ h.0, sym (awaits_orders earlier name) ∙ h.1)
  reaches_named rows (commands.Setregs name set count) d named h = (sym (forks_orders earlier name) ∙ h.0, sym (awaits_orders earlier name) ∙ h.1)
  reaches_named rows (commands.Cont name) d named h = (sym (forks_orders earlier name) ∙ h.0, sym (awaits_orders earlier name) ∙ h.1)
  reaches_named rows (commands.Fork name) d named h = fork_named blocks name d named
  reaches_named rows (commands.Kill name signo) d named h = kill_named blocks name d named
  reaches_named rows other d named h = tt

-- a local command reaches none
local_reaches : (own awaited : List ℕ → Bool) (command : Command) → is_outer command ≡ false → ReachesOwn own awaited command
local_reaches own awaited (commands.Wait name) h = absurd (cc h)
local_reaches own awaited (commands.Getregs name set) h = absurd (cc h)
local_reaches own awaited (commands.Setregs name set count) h = absurd (cc h)
local_reaches own awaited (commands.Cont name) h = absurd (cc h)
local_reaches own awaited other h = tt

-- ---- the lines of blocks, which have the names that they may have

body_reaching : (blocks : List Block) (earlier orders : List Order) (rest : List Line) → AreNamedAfter blocks earlier orders → ((so_far : List Command) → AreReaching so_far rest) → AreReaching (commands_of earlier) (order_lines orders ++ rest)
body_reaching blocks earlier [] rest h later = later (commands_of earlier)
body_reaching blocks earlier (o ∷ orders) rest h later = (named_reaches blocks earlier o.command h.0, body_reaching blocks (o ∷ earlier) orders rest h.1 later)

local_reaching : (orders : List Order) (rest : List Line) → AllByRecursion (λ (order : Order). is_outer order.command ≡ false) orders → ((so_far : List Command) → AreReaching so_far rest) → (earlier : List Command) → AreReaching earlier (order_lines orders ++ rest)
local_reaching [] rest local later earlier = later earlier
local_reaching (o ∷ orders) rest local later earlier =
    (local_reaches (forks_child earlier) (awaits_child earlier) o.command local.0, local_reaching orders rest local.1 later (o.command ∷ earlier))

handler_reaching : (orders : List Order) (rest : List Line) → AllByRecursion (λ (order : Order). is_outer order.command ≡ false) orders → AreReaching [] rest → (earlier : List Command) → AreReaching earlier (handler_lines orders ++ lines.End ∷ rest)
handler_reaching [] rest local reaching earlier = (tt, reaching)
handler_reaching (o ∷ orders) rest local reaching earlier = (tt, local_reaching (o ∷ orders) (lines.End ∷ rest) local (λ so_far. (tt, reaching)) earlier)

pub blocks_reaching : (rows : List Row) (all blocks : List Block) → AllByRecursion (λ (b : Block). IsBody rows b) blocks → AllByRecursion (λ (b : Block). AreNamed all b.body) blocks → AreReaching [] (flat_map block_lines blocks)
blocks_reaching rows all [] h named = tt
blocks_reaching rows all (b ∷ blocks) h named =
    let rest = flat_map block_lines blocks in
    subst (AreReaching []) (sym (block_row b rest))
    (tt, body_reaching all [] b.body (handler_lines b.handler ++ lines.End ∷ rest) named.0 (handler_reaching b.handler rest (handler_local b.handler h.0.returns) (blocks_reaching rows all blocks h.1 named.1)))

-- ---- blocks whose lines reach children of their own bodies alone

-- what lines after others reach
reaching_rest : (earlier : List Command) (orders : List Order) (rest : List Line) → AreReaching earlier (order_lines orders ++ rest) → (so_far : List Command) × AreReaching so_far rest
reaching_rest earlier [] rest h = (earlier, h)
reaching_rest earlier (o ∷ orders) rest h = reaching_rest (o.command ∷ earlier) orders rest h.1

reaching_later : (earlier : List Command) (orders : List Order) (rest : List Line) → AreReaching earlier (handler_lines orders ++ lines.End ∷ rest) → AreReaching [] rest
reaching_later earlier [] rest h = h.1
reaching_later earlier (o ∷ orders) rest h = (reaching_rest earlier (o ∷ orders) (lines.End ∷ rest) h.1).1.1

orders_named : (rows : List Row) (blocks : List Block) (earlier orders : List Order) (rest : List Line) → AreDistinct (names_of blocks) → AllByRecursion (λ (order : Order). NamesOne (block_scope rows blocks) order.command) orders → AreReaching (commands_of earlier) (order_lines orders ++ rest) → AreNamedAfter blocks earlier orders
orders_named rows blocks earlier [] rest d named h = tt
orders_named rows blocks earlier (o ∷ orders) rest d named h =
    (reaches_named blocks earlier rows o.command d named.0 h.0, orders_named rows blocks (o ∷ earlier) orders rest d named.1 h.1)

pub blocks_named : (rows : List Row) (all blocks : List Block) → AreDistinct (names_of all) → AllByRecursion (λ (block : Block). AllByRecursion (λ (order : Order). NamesOne (block_scope rows all) order.command) block.body) blocks → AreReaching [] (flat_map block_lines blocks) → AllByRecursion (λ (block : Block). AreNamed all block.body) blocks
blocks_named rows all [] d named h = tt
blocks_named rows all (b ∷ blocks) d named h =
    let rest = flat_map block_lines blocks in
    let after = handler_lines b.handler ++ lines.End ∷ rest in
    let row = subst (AreReaching []) (block_row b rest) h in
    let later = reaching_rest [] b.body after row.1 in
    (orders_named rows all [] b.body after d named.0 row.1, blocks_named rows all blocks d named.1 (reaching_later later.0 b.handler rest later.1))
