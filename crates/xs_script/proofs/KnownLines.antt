-- The lines of blocks, of which the second pass has what was kept.
use Rattle.std.proofs.Common.{◌≡◌, ℕ, Bool, true, false, not, nat_le, List, [], ◌∷◌, length, Some, None, refl, ◌∙◌, ap, subst}
use Rattle.std.specs.Prelude.{if◌then◌else◌}
use Rattle.std.specs.List.{AllByRecursion, flat_map, list_all}
use Rattle.xs_base.specs.Task.{frame_length, buffer_length}
use Rattle.xs_model.specs.declared.script.Command.{Command}
use Rattle.xs_model.specs.declared.script.Command.TheVariants as commands
use Rattle.xs_model.specs.declared.script.Order.{Order}
use Rattle.xs_model.specs.declared.script.Block.{Block}
use Rattle.xs_model.specs.Names.{forked_names}
use Rattle.xs_model.specs.Script.{is_name, fits_register, fits_memory, is_caught, IsCommand, is_return, is_handler, fits_kind, IsBody, lines_of}
use Rattle.xs_script.specs.declared.commands.Scope.{Scope}
use Rattle.xs_script.specs.declared.refusal.Kind.{Kind}
use Rattle.xs_script.specs.declared.refusal.Kind.TheVariants.{Repeated, UnknownName}
use Rattle.xs_script.specs.ScriptLine.{IsLine, IsCommandLine, kept_command}
use Rattle.xs_script.specs.Grammar.{HasNumber, HaveNumbers, order_lines, block_lines}
use Rattle.xs_script.specs.declared.line.Line.TheVariants as lines
use Rattle.xs_script.specs.declared.refusal.LimitName.{LimitName}
use Rattle.xs_script.specs.declared.refusal.LimitName.TheVariants as limits
use Rattle.xs_script.specs.LineOrder.{limit_unless, command_limit}
use Rattle.xs_script.specs.Before.{Before}
use Rattle.xs_script.specs.Refusal.{AreLines, is_among, outer_fault, wait_fault, reach_fault, NamesOne, IsKnown, IsKnownCommand, CommandFails, Unknown, Misfit, Misnamed}
use Rattle.xs_script.specs.Commands.{PassesCommand}
use Rattle.xs_script.proofs.Kept.{kept_fits, kept_whole_bytes}
use Rattle.xs_script.proofs.CommandFaults.{kept_whole, kept_misfit}
use Rattle.xs_script.proofs.EntryTests.{at_most}
use Rattle.xs_script.proofs.RightLines.{IsRightLine, local_right, outer_right, fork_right}
use Rattle.xs_script.proofs.BlockParts.{all_join, block_parts, handler_orders}
use Rattle.xs_script.proofs.Children.{handler_local, handler_no_forks}

-- ---- one line

-- what a limit that isn't exceeded tells
pub within_limit : (name : LimitName) (b : Bool) → limit_unless name b ≡ None → b ≡ true
within_limit name true h = refl
within_limit name false h = absurd (cc h)

-- what is known of a fork, of a signal and of a stop with which nothing is wrong
pub fork_parts : (child again inside : Bool) → (if child then (if again then Some Repeated else outer_fault inside) else Some UnknownName) ≡ None → (child ≡ true) × (again ≡ false) × (inside ≡ false)
fork_parts true false false h = (refl, refl, refl)
fork_parts true false true h = absurd (cc h)
fork_parts true true inside h = absurd (cc h)
fork_parts false again inside h = absurd (cc h)

kill_parts : (handled inside : Bool) → (if handled then outer_fault inside else Some UnknownName) ≡ None → (handled ≡ true) × (inside ≡ false)
kill_parts true false h = (refl, refl)
kill_parts true true h = absurd (cc h)
kill_parts false inside h = absurd (cc h)

stop_parts : (inside : Bool) → outer_fault inside ≡ None → inside ≡ false
stop_parts true h = absurd (cc h)
stop_parts false h = refl

-- and of a wait and of a command that reaches a child
wait_parts : (inside own : Bool) → wait_fault inside own ≡ None → (own ≡ true) × (inside ≡ false)
wait_parts true own h = absurd (cc h)
wait_parts false true h = (refl, refl)
wait_parts false false h = absurd (cc h)

reach_parts : (inside own awaited : Bool) → reach_fault inside own awaited ≡ None → (own ≡ true) × (awaited ≡ true) × (inside ≡ false)
reach_parts true own awaited h = absurd (cc h)
reach_parts false true true h = (refl, refl, refl)
reach_parts false true false h = absurd (cc h)
reach_parts false false awaited h = absurd (cc h)

-- What is kept of a command with nothing wrong is the command, and nothing is wrong with that.
pub known_command : (scope : Scope) (before : Before) (command : Command) → IsCommandLine command → command_limit command ≡ None → PassesCommand scope before (kept_command command) → (kept_command command ≡ command) × IsRightLine scope before (lines.Order command)
known_command scope before (commands.Set reg bytes) spelled limit (place, found, fits) =
    let whole = kept_whole scope.layout reg bytes place found fits in
    let known : IsKnownCommand scope (commands.Set reg bytes) = ((place, found, subst (λ (bs : List ℕ). fits_register place bs ≡ true) whole fits, spelled.2), tt) in
    (ap (λ (bs : List ℕ). commands.Set reg bs) whole, local_right scope before (lines.Order (commands.Set reg bytes)) known refl refl tt)
known_command scope before (commands.Get reg) spelled limit (place, found) = (refl, local_right scope before (lines.Order (commands.Get reg)) ((place, found), tt) refl refl tt)
known_command scope before (commands.Ksec byte) spelled limit found = (refl, local_right scope before (lines.Order (commands.Ksec byte)) (spelled, tt) refl refl tt)
known_command scope before commands.Tilerelease spelled limit found = (refl, local_right scope before (lines.Order commands.Tilerelease) (tt, tt) refl refl tt)
known_command scope before (commands.Perm feature) spelled limit found = (refl, local_right scope before (lines.Order (commands.Perm feature)) (tt, tt) refl refl tt)
known_command scope before commands.Yield spelled limit found = (refl, local_right scope before (lines.Order commands.Yield) (tt, tt) refl refl tt)
known_command scope before (commands.Peek at len) spelled limit found =
    (refl, local_right scope before (lines.Order (commands.Peek at len)) (within_limit limits.Frame (fits_memory frame_length at len) limit, tt) refl refl tt)
known_command scope before (commands.Poke at bytes) spelled limit found =
    let fits = within_limit limits.Frame (fits_memory frame_length at (length bytes)) limit in
    let whole = kept_whole_bytes frame_length at bytes (kept_fits frame_length at bytes ∙ fits) in
    (ap (λ (bs : List ℕ). commands.Poke at bs) whole, local_right scope before (lines.Order (commands.Poke at bytes)) ((fits, spelled.2), tt) refl refl tt)
known_command scope before (commands.Bpeek at len) spelled limit found =
    (refl, local_right scope before (lines.Order (commands.Bpeek at len)) (within_limit limits.Buffer (fits_memory buffer_length at len) limit, tt) refl refl tt)
known_command scope before (commands.Bpoke at bytes) spelled limit found =
    let fits = within_limit limits.Buffer (fits_memory buffer_length at (length bytes)) limit in
    let whole = kept_whole_bytes buffer_length at bytes (kept_fits buffer_length at bytes ∙ fits) in
    (ap (λ (bs : List ℕ). commands.Bpoke at bs) whole, local_right scope before (lines.Order (commands.Bpoke at bytes)) ((fits, spelled.2), tt) refl refl tt)
known_command scope before commands.Sigreturn spelled limit found = (refl, local_right scope before (lines.Order commands.Sigreturn) (tt, tt) refl refl tt)
known_command scope before (commands.Fork name) spelled limit found =
    let parts = fork_parts (is_among name scope.children) (is_among name before.forked) before.inside found in
    (refl, fork_right scope before name parts.0 parts.1 parts.2)
known_command scope before (commands.Kill name signo) spelled limit found =
    let parts = kill_parts (is_among name scope.handled) before.inside found in
    (refl, outer_right scope before (commands.Kill name signo) (within_limit limits.Signal (is_caught signo.number) limit, parts.0) refl parts.1 tt)
known_command scope before commands.Stop spelled limit found = (refl, outer_right scope before commands.Stop (tt, tt) refl (stop_parts before.inside found) tt)
known_command scope before (commands.Wait name) spelled limit found =
    let parts = wait_parts before.inside (before.own name) found in
    (refl, outer_right scope before (commands.Wait name) (tt, tt) refl parts.1 parts.0)
known_command scope before (commands.Getregs name set) spelled limit found =
    let parts = reach_parts before.inside (before.own name) (before.awaited name) found in
    (refl, outer_right scope before (commands.Getregs name set) (tt, tt) refl parts.2 (parts.0, parts.1))
known_command scope before (commands.Setregs name set count) spelled limit found =
    let parts = reach_parts before.inside (before.own name) (before.awaited name) found in
    let few = at_most count buffer_length (within_limit limits.Count (nat_le count buffer_length) limit) in
    (refl, outer_right scope before (commands.Setregs name set count) (few, tt) refl parts.2 (parts.0, parts.1))
known_command scope before (commands.Cont name) spelled limit found =
    let parts = reach_parts before.inside (before.own name) (before.awaited name) found in
    (refl, outer_right scope before (commands.Cont name) (tt, tt) refl parts.2 (parts.0, parts.1))

-- a command that fails by what was kept of it fails
pub kept_fails : (scope : Scope) (before : Before) (command : Command) (kind : Kind) → CommandFails scope before (kept_command command) kind → CommandFails scope before command kind
kept_fails scope before (commands.Set reg bytes) _ (Unknown _ word named none) = Unknown (commands.Set reg bytes) word named none
kept_fails scope before (commands.Set reg bytes) _ (Misfit _ _ place here wrong) = Misfit reg bytes place here (kept_misfit scope.layout reg bytes place here wrong)
kept_fails scope before (commands.Set reg bytes) _ (Misnamed _ kind why) = Misnamed (commands.Set reg bytes) kind why
kept_fails scope before (commands.Poke at bytes) _ (Unknown _ word named none) = Unknown (commands.Poke at bytes) word named none
kept_fails scope before (commands.Poke at bytes) _ (Misnamed _ kind why) = Misnamed (commands.Poke at bytes) kind why
kept_fails scope before (commands.Bpoke at bytes) _ (Unknown _ word named none) = Unknown (commands.Bpoke at bytes) word named none
kept_fails scope before (commands.Bpoke at bytes) _ (Misnamed _ kind why) = Misnamed (commands.Bpoke at bytes) kind why
kept_fails scope before other kind fails = fails

-- ---- lines of blocks

-- what lines of blocks that fit say of the blocks
pub names_fit : (blocks : List Block) → AreLines (flat_map block_lines blocks) → AllByRecursion (λ (block : Block). is_name block.name ≡ true) blocks
names_fit [] h = tt
names_fit (b ∷ blocks) h =
    let parts = block_parts IsLine b (flat_map block_lines blocks) h in
    (parts.0.begins, names_fit blocks parts.1)

-- and of the numbers of their commands
command_number : (command : Command) → IsCommandLine command → HasNumber command
command_number (commands.Perm feature) fits = fits
command_number other fits = tt

orders_number : (orders : List Order) → AllByRecursion IsLine (order_lines orders) → HaveNumbers orders
orders_number [] h = tt
orders_number (o ∷ orders) h = (command_number o.command h.0, orders_number orders h.1)

pub numbers_fit : (blocks : List Block) → AreLines (flat_map block_lines blocks) → AllByRecursion (λ (block : Block). HaveNumbers (lines_of block)) blocks
numbers_fit [] h = tt
numbers_fit (b ∷ blocks) h =
    let parts = block_parts IsLine b (flat_map block_lines blocks) h in
    let handler = orders_number b.handler (handler_orders IsLine b.handler parts.0.handler) in
    (all_join (λ (order : Order). HasNumber order.command) b.body b.handler (orders_number b.body parts.0.body) handler, numbers_fit blocks parts.1)

-- The lines of a block stand in their order: its kind may have them, and a handler ends with the return.
pub record IsOrdered (block : Block) : Type 0 where
  pub kind : fits_kind block.kind block.body block.handler ≡ true
  pub inside : list_all (λ (order : Order). not (is_return order.command)) block.body ≡ true
  pub returns : is_handler block.handler ≡ true

-- so their handlers fork nothing
pub ordered_forks : (blocks : List Block) → AllByRecursion IsOrdered blocks → AllByRecursion (λ (block : Block). forked_names block.handler ≡ []) blocks
ordered_forks [] h = tt
ordered_forks (b ∷ blocks) h = (handler_no_forks b.handler (handler_local b.handler h.0.returns), ordered_forks blocks h.1)

-- of each order what a script asks of it
pub record AreKnownOrders (scope : Scope) (orders : List Order) : Type 0 where
  pub commands : AllByRecursion (λ (order : Order). IsCommand scope.layout order.command) orders
  pub named : AllByRecursion (λ (order : Order). NamesOne scope order.command) orders

orders_known : (scope : Scope) (orders : List Order) → AllByRecursion (IsKnown scope) (order_lines orders) → AreKnownOrders scope orders
orders_known scope [] h = record { commands = tt; named = tt }
orders_known scope (o ∷ orders) h =
    let r = orders_known scope orders h.1 in
    record { commands = (h.0.0, r.commands); named = (h.0.1, r.named) }

-- of each block what a script asks of it
pub record AreKnownBlocks (scope : Scope) (blocks : List Block) : Type 0 where
  pub bodies : AllByRecursion (λ (block : Block). IsBody scope.layout block) blocks
  pub named : AllByRecursion (λ (block : Block). AllByRecursion (λ (order : Order). NamesOne scope order.command) block.body) blocks

pub blocks_known : (scope : Scope) (blocks : List Block) → AllByRecursion IsOrdered blocks → AllByRecursion (IsKnown scope) (flat_map block_lines blocks) → AreKnownBlocks scope blocks
blocks_known scope [] ordered h = record { bodies = tt; named = tt }
blocks_known scope (b ∷ blocks) ordered h =
    let parts = block_parts (IsKnown scope) b (flat_map block_lines blocks) h in
    let body = orders_known scope b.body parts.0.body in
    let handler = orders_known scope b.handler (handler_orders (IsKnown scope) b.handler parts.0.handler) in
    let rest = blocks_known scope blocks ordered.1 parts.1 in
    let whole : IsBody scope.layout b = record { body = body.commands; handler = handler.commands; inside = ordered.0.inside; returns = ordered.0.returns; kind = ordered.0.kind } in
    record { bodies = (whole, rest.bodies); named = (body.named, rest.named) }
