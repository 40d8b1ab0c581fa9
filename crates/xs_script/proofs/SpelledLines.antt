-- The lines of a script that a text spells.
use Rattle.std.proofs.Common.{◌≡◌, ℕ, ◌+◌, ◌<◌, ◌≤◌, Bool, true, false, not, ◌&&◌, ◌||◌, ◌==◌, nat_le, nat_lt, List, [], ◌∷◌, ◌++◌, length, map, None, Ok, refl, sym, ◌∙◌, ap, subst, arith, length-append}
use Rattle.std.specs.Prelude.{bytes_eq}
use Rattle.std.specs.List.{AllByRecursion, flat_map, list_any, list_all}
use Rattle.std.proofs.lemmas.Bool.{lt-leb, le-leb, lt-ltb, and_parts, eqb-true}
use Rattle.std.proofs.lemmas.List.{append_assoc, append-nil}
use Rattle.std.proofs.lemmas.Slice.Eq.{bytes_eq-Decides}
use Rattle.xs_base.specs.declared.component.Row.{Row}
use Rattle.xs_base.specs.declared.component.Place.{Place}
use Rattle.xs_base.specs.Layout.{IsSound, IsLayout, first_row_fault}
use Rattle.xs_base.specs.Register.{IsNamed}
use Rattle.xs_base.specs.Task.{frame_length, buffer_length}
use Rattle.xs_base.proofs.LayoutLemmas.{row_fault_none, layout_parts, passes, passes_sound}
use Rattle.xs_base.proofs.Registers.{place_length, name_length, name_spelled, is_name_byte}
use Rattle.xs_model.specs.declared.script.Named.{Named}
use Rattle.xs_model.specs.declared.script.Named.TheVariants.{Amx, Avx, Rows}
use Rattle.xs_model.specs.declared.script.BlockKind.{BlockKind}
use Rattle.xs_model.specs.declared.script.BlockKind.TheVariants as kinds
use Rattle.xs_model.specs.declared.script.Command.{Command}
use Rattle.xs_model.specs.declared.script.Command.TheVariants as commands
use Rattle.xs_model.specs.declared.script.Order.{Order}
use Rattle.xs_model.specs.declared.script.Block.{Block}
use Rattle.xs_model.specs.declared.script.Script.{Script}
use Rattle.xs_model.specs.Names.{is_fork_of, is_forked, NamesBlock, AreNamedAfter, AreNamed, forked_names, all_forked_names}
use Rattle.xs_model.specs.Script.{IsValid, IsCommand, IsBody, lines_of, fits_memory, is_outer, is_return, is_handler, is_handler_from, is_user_kind, is_kernel_command, fits_kind, AreDistinct, is_name, is_letter}
use Rattle.xs_script.specs.declared.block_part.BlockPart.TheVariants as places
use Rattle.xs_script.specs.declared.commands.Scope.{Scope}
use Rattle.xs_script.specs.declared.line.Line.{Line}
use Rattle.xs_script.specs.declared.line.Line.TheVariants as lines
use Rattle.xs_script.specs.ScriptLine.{IsNumber, IsLine, IsCommandLine, is_register_byte, is_register_word}
use Rattle.xs_script.specs.Grammar.{HasNumber, HaveNumbers, order_lines, handler_lines, lines_text, block_lines, row_lines, head_lines, sched_lines, script_lines, Spells}
use Rattle.xs_script.specs.LineOrder.{Stand, AtVersion, AtMachine, AtRow, AtCpus, AtQuantum, AtLarge, AtSched, AtBlock, InBlock, may_have, command_limit, next, after_machine, Leads}
use Rattle.xs_script.specs.Before.{forks_of}
use Rattle.xs_script.specs.Refusal.{AreLines, Passes, IsKnown, AreOutside, AreReaching, IsScriptOf}
use Rattle.xs_script.specs.Body.{names_of}
use Rattle.xs_script.specs.Front.{IsFront}
use Rattle.xs_script.proofs.CommandFaults.{fits_length}
use Rattle.xs_script.proofs.HeadRows.{row_leads, rows_over}
use Rattle.xs_script.proofs.Fronts.{leads_join}
use Rattle.xs_script.proofs.BlockParts.{all_join, all_parts, block_row, block_join, handler_all}
use Rattle.xs_script.proofs.BodyLines.{another}
use Rattle.xs_script.proofs.Children.{block_scope, child_is_name, handled_is_name, names_one, local_names, handler_local, handler_no_forks, no_forks, front_outside, front_no_names, blocks_forks}
use Rattle.xs_script.proofs.Reaching.{front_reaching, blocks_reaching}
use Rattle.xs_script.proofs.WholeScripts.{parted_lines, script_scope, head_known, sched_known, some_lines, may_end_some}
use Rattle.xs_script.proofs.ScheduleLines.{front_after}
use Rattle.xs_script.proofs.EntryTests.{at_most, joined, within_test}

-- ---- each has a spelling

-- the numbers of a row that passes
row_fits : (r : Row) → IsSound r → IsLine (lines.Row r)
row_fits r h = (omega (arith, h.number), omega (arith, h.ends), omega (arith, h.ends), omega (arith, h.flags))

rows_fit : (before rows : List Row) → first_row_fault before rows ≡ None → AreLines (map lines.Row rows)
rows_fit before [] h = tt
rows_fit before (r ∷ rows) h =
    let parts = row_fault_none before r rows h in
    (row_fits r (passes_sound before r (passes before r parts.0)), rows_fit (before ++ r ∷ []) rows parts.1)

machine_fits : (machine : Named) (layout : List Row) → IsLayout layout → AreLines (row_lines machine layout)
machine_fits Amx layout h = tt
machine_fits Avx layout h = tt
machine_fits Rows layout h = rows_fit [] layout (layout_parts layout h).0

or_assoc : (a b c : Bool) → (a || b) || c ≡ a || (b || c)
or_assoc true b c = refl
or_assoc false b c = refl

name_bytes : (word : List ℕ) → list_all is_name_byte word ≡ list_all is_register_byte word
name_bytes [] = refl
name_bytes (b ∷ word) =
    ap (λ (t : Bool). t && list_all is_name_byte word) (sym (or_assoc (is_letter b) (nat_le 48 b && nat_le b 57) (b == 46)))
    ∙ ap (λ (t : Bool). is_register_byte b && t) (name_bytes word)

-- a register's name is the word of a register
register_word : (reg : List ℕ) (place : Place) → IsNamed reg place → is_register_word reg ≡ true
register_word reg place named =
    let size = name_length reg place named in
    let bytes : list_all is_register_byte reg ≡ true = sym (name_bytes reg) ∙ name_spelled reg place named in
    let some : nat_lt 0 (length reg) ≡ true = lt-ltb 0 (length reg) size.0 in
    let few : nat_le (length reg) 16 ≡ true = le-leb (length reg) 16 size.1 in
    rw (bytes, some, few) refl

-- what lies within a memory
memory_parts : (size at len : ℕ) → fits_memory size at len ≡ true → (1 ≤ len) × (len ≤ 64) × (at + len ≤ size)
memory_parts size at len h =
    let outer = and_parts (nat_le 1 len && nat_le len 64) (nat_le (at + len) size) h in
    let inner = and_parts (nat_le 1 len) (nat_le len 64) outer.0 in
    (at_most 1 len inner.0, at_most len 64 inner.1, at_most (at + len) size outer.1)

-- the name of a child that an earlier line forks
fork_is_name : (command : Command) (name : List ℕ) → IsCommandLine command → is_fork_of name command ≡ true → is_name name ≡ true
fork_is_name (commands.Fork child) name fits h = subst (λ (n : List ℕ). is_name n ≡ true) ((bytes_eq-Decides child name).0 h) fits
fork_is_name other name fits h = absurd (cc h)

forked_is_name : (earlier : List Order) (name : List ℕ) → AreLines (order_lines earlier) → is_forked earlier name ≡ true → is_name name ≡ true
forked_is_name [] name fit h = absurd (cc h)
forked_is_name (o ∷ earlier) name fit h = by_test (is_fork_of name o.command) refl h (forked_is_name earlier name fit.1)
  where
    by_test : (t : Bool) → t ≡ is_fork_of name o.command → (t || is_forked earlier name) ≡ true → (is_forked earlier name ≡ true → is_name name ≡ true) → is_name name ≡ true
    by_test true is h more = fork_is_name o.command name fit.0 (sym is)
    by_test false is h more = more h

-- a script's commands, which have names of blocks
module _ (rows : List Row) (all : List Block) (names : AllByRecursion (λ (b : Block). is_name b.name ≡ true) all) where
  command_fits : (earlier : List Order) (command : Command) → IsCommand rows command → HasNumber command → NamesBlock all earlier command → AreLines (order_lines earlier) → IsCommandLine command
  command_fits earlier (commands.Set reg bytes) (place, here, fits, bytes_are) small named fit =
      let size = place_length reg place here.0 in
      let len = fits_length place bytes fits in
      (register_word reg place here.0, omega (arith, size.0, len), bytes_are)
  command_fits earlier (commands.Get reg) (place, here) small named fit = register_word reg place here.0
  command_fits earlier (commands.Ksec byte) fits small named fit = fits
  command_fits earlier commands.Tilerelease fits small named fit = tt
  command_fits earlier (commands.Perm feature) fits small named fit = small
  command_fits earlier commands.Yield fits small named fit = tt
  command_fits earlier (commands.Peek at len) fits small named fit = let parts = memory_parts frame_length at len fits in (omega (arith, parts.2), omega (arith, parts.1))
  command_fits earlier (commands.Poke at bytes) fits small named fit = let parts = memory_parts frame_length at (length bytes) fits.0 in (omega (arith, parts.2), omega (arith, parts.0), fits.1)
  command_fits earlier (commands.Bpeek at len) fits small named fit = let parts = memory_parts buffer_length at len fits in (omega (arith, parts.2), omega (arith, parts.1))
  command_fits earlier (commands.Bpoke at bytes) fits small named fit = let parts = memory_parts buffer_length at (length bytes) fits.0 in (omega (arith, parts.2), omega (arith, parts.0), fits.1)
  command_fits earlier commands.Sigreturn fits small named fit = tt
  command_fits earlier (commands.Kill name signo) fits small named fit = handled_is_name all name names named
  command_fits earlier (commands.Fork name) fits small named fit = child_is_name all name names named
  command_fits earlier commands.Stop fits small named fit = tt
  command_fits earlier (commands.Wait name) fits small named fit = forked_is_name earlier name fit named
  command_fits earlier (commands.Getregs name set) fits small named fit = forked_is_name earlier name fit named.0
  command_fits earlier (commands.Setregs name set count) fits small named fit = (forked_is_name earlier name fit named.0, omega (arith, fits))
  command_fits earlier (commands.Cont name) fits small named fit = forked_is_name earlier name fit named.0

  orders_fit : (earlier orders : List Order) → AllByRecursion (λ (order : Order). IsCommand rows order.command) orders → HaveNumbers orders → AreNamedAfter all earlier orders → AreLines (order_lines earlier) → AreLines (order_lines orders)
  orders_fit earlier [] h g n fit = tt
  orders_fit earlier (o ∷ orders) h g n fit =
      let here = command_fits earlier o.command h.0 g.0 n.0 fit in
      (here, orders_fit (o ∷ earlier) orders h.1 g.1 n.1 (here, fit))

  -- those of a handler are local
  local_fit : (orders : List Order) → AllByRecursion (λ (order : Order). IsCommand rows order.command) orders → HaveNumbers orders → AllByRecursion (λ (order : Order). is_outer order.command ≡ false) orders → AreLines (order_lines orders)
  local_fit [] h g local = tt
  local_fit (o ∷ orders) h g local = (command_fits [] o.command h.0 g.0 (local_names all [] o.command local.0) tt, local_fit orders h.1 g.1 local.1)

  pub blocks_fit : (blocks : List Block) → AllByRecursion (λ (b : Block). is_name b.name ≡ true) blocks → AllByRecursion (λ (b : Block). IsBody rows b) blocks → AllByRecursion (λ (b : Block). HaveNumbers (lines_of b)) blocks → AllByRecursion (λ (b : Block). AreNamed all b.body) blocks → AreLines (flat_map block_lines blocks)
  blocks_fit [] spelled bodies numbers named = tt
  blocks_fit (b ∷ blocks) spelled bodies numbers named =
      let small = all_parts (λ (o : Order). HasNumber o.command) b.body b.handler numbers.0 in
      let handler = handler_all IsLine b.handler tt (local_fit b.handler bodies.0.handler small.1 (handler_local b.handler bodies.0.returns)) in
      block_join IsLine b (flat_map block_lines blocks) (record { begins = spelled.0; body = orders_fit [] b.body bodies.0.body small.0 named.0 tt; handler = handler; ends = tt }) (blocks_fit blocks spelled.1 bodies.1 numbers.1 named.1)

-- the lines of its blocks
script_fits : (script : Script) → IsValid script → AllByRecursion (λ (b : Block). HaveNumbers (lines_of b)) script.blocks → AreLines (flat_map block_lines script.blocks)
script_fits script valid numbers = blocks_fit script.layout script.blocks valid.names script.blocks valid.names valid.bodies numbers valid.named

-- the lines of a schedule, whose entries are processors
sched_fits : (groups : List (List ℕ)) (cpus : ℕ) → cpus ≤ 16 → AllByRecursion (λ group. 0 < length group) groups → AllByRecursion (λ entry. entry < cpus) (joined groups) → AreLines (sched_lines groups)
sched_fits [] cpus few some below = tt
sched_fits (g ∷ groups) cpus few some below =
    let parts = all_parts (λ entry. entry < cpus) g (joined groups) below in
    ((some.0, numbers g parts.0), sched_fits groups cpus few some.1 parts.1)
  where
    numbers : (entries : List ℕ) → AllByRecursion (λ entry. entry < cpus) entries → AllByRecursion IsNumber entries
    numbers [] h = tt
    numbers (n ∷ entries) h = let lt = h.0 in (omega (arith, lt), numbers entries h.1)

abbrev pub number_lines : Script → List Line
number_lines script = lines.Cpus script.cpus ∷ lines.Quantum script.quantum ∷ lines.Large script.large ∷ []

head_fits : (script : Script) → IsValid script → AreLines (head_lines script)
head_fits script h =
    (tt, (tt, all_join IsLine (row_lines script.machine script.layout) (number_lines script) (machine_fits script.machine script.layout h.layout) (omega (arith, h.cpus.1), (omega (arith, h.quantum.1), (omega (arith, h.large), tt)))))

-- ---- each leads on

rows_lead : (done rows : List Row) → first_row_fault done rows ≡ None → Leads (AtRow done) (map lines.Row rows) (AtRow (done ++ rows))
rows_lead done [] h = ap AtRow (append-nil done)
rows_lead done (r ∷ rows) h =
    let parts = row_fault_none done r rows h in
    let later = rows_lead (done ++ r ∷ []) rows parts.1 in
    (AtRow (done ++ r ∷ []), row_leads done r parts.0, subst (λ (rs : List Row). Leads (AtRow (done ++ r ∷ [])) (map lines.Row rows) (AtRow rs)) (append_assoc done (r ∷ []) rows) later)

cpus_lead : (n : ℕ) → 0 < n → n ≤ 16 → next AtCpus (lines.Cpus n) ≡ Ok (AtQuantum n)
cpus_lead n some few =
    let low : nat_le 1 n ≡ true = le-leb 1 n (omega arith) in
    let high : nat_le n 16 ≡ true = le-leb n 16 few in
    rw (low, high) refl

-- A machine's lines lead to where the processors may be given.
machine_leads : (machine : Named) (layout : List Row) (cpus : ℕ) → IsLayout layout → (0 < cpus) × (cpus ≤ 16) → (stand : Stand) × Leads (after_machine machine) (row_lines machine layout) stand × (next stand (lines.Cpus cpus) ≡ Ok (AtQuantum cpus))
machine_leads Amx layout cpus h fits = (AtCpus, refl, cpus_lead cpus fits.0 fits.1)
machine_leads Avx layout cpus h fits = (AtCpus, refl, cpus_lead cpus fits.0 fits.1)
machine_leads Rows layout cpus h fits =
    let parts = layout_parts layout h in
    (AtRow layout, rows_lead [] layout parts.0, rows_over layout cpus parts.1 ∙ cpus_lead cpus fits.0 fits.1)

quantum_leads : (cpus n : ℕ) → 0 < n → n ≤ 32 → next (AtQuantum cpus) (lines.Quantum n) ≡ Ok (AtLarge cpus)
quantum_leads cpus n some few =
    let low : nat_le 1 n ≡ true = le-leb 1 n (omega arith) in
    let high : nat_le n 32 ≡ true = le-leb n 32 few in
    rw (low, high) refl

large_leads : (cpus n : ℕ) → n ≤ 64 → next (AtLarge cpus) (lines.Large n) ≡ Ok (AtSched cpus 0)
large_leads cpus n few = let high : nat_le n 64 ≡ true = le-leb n 64 few in rw high refl

head_leads : (script : Script) → IsValid script → Leads AtVersion (head_lines script) (AtSched script.cpus 0)
head_leads script h =
    let (stand, leads, cpus) = machine_leads script.machine script.layout script.cpus h.layout h.cpus in
    let numbers : Leads stand (number_lines script) (AtSched script.cpus 0) = (AtQuantum script.cpus, cpus, (AtLarge script.cpus, quantum_leads script.cpus script.quantum h.quantum.0 h.quantum.1, (AtSched script.cpus 0, large_leads script.cpus script.large h.large, refl))) in
    (AtMachine, refl, (after_machine script.machine, refl, leads_join (after_machine script.machine) stand (AtSched script.cpus 0) (row_lines script.machine script.layout) (number_lines script) leads numbers))

sched_leads_on : (cpus count : ℕ) (groups : List (List ℕ)) → AllByRecursion (λ entry. entry < cpus) (joined groups) → count + length (joined groups) ≤ 4096 → Leads (AtSched cpus count) (sched_lines groups) (AtSched cpus (count + length (joined groups)))
sched_leads_on cpus count [] below few = ap (AtSched cpus) (same count)
  where
    same : (n : ℕ) → n + 0 ≡ n
    same n = omega arith
sched_leads_on cpus count (g ∷ groups) below few =
    let parts = all_parts (λ entry. entry < cpus) g (joined groups) below in
    let long : length (g ++ joined groups) ≡ length g + length (joined groups) = length-append g (joined groups) in
    let within = within_test cpus count g parts.0 (omega (arith, long, few)) in
    let all : count + length g + length (joined groups) ≡ count + length (g ++ joined groups) = omega (arith, long) in
    let later = sched_leads_on cpus (count + length g) groups parts.1 (omega (arith, long, few)) in
    (AtSched cpus (count + length g), rw within refl, subst (λ (n : ℕ). Leads (AtSched cpus (count + length g)) (sched_lines groups) (AtSched cpus n)) all later)

-- a script's commands are within their limits
no_limit : (rows : List Row) (command : Command) → IsCommand rows command → command_limit command ≡ None
no_limit rows (commands.Peek at len) h = rw h refl
no_limit rows (commands.Poke at bytes) h = rw h.0 refl
no_limit rows (commands.Bpeek at len) h = rw h refl
no_limit rows (commands.Bpoke at bytes) h = rw h.0 refl
no_limit rows (commands.Kill name signo) h = rw h refl
no_limit rows (commands.Setregs name set count) h = let few : nat_le count buffer_length ≡ true = le-leb count buffer_length h in rw few refl
no_limit rows other h = refl

-- the lines of a body
orders_lead : (rows : List Row) (kind : BlockKind) (names : List (List ℕ)) (orders handler : List Order) → fits_kind kind orders handler ≡ true → list_all (λ (order : Order). not (is_return order.command)) orders ≡ true → AllByRecursion (λ (order : Order). IsCommand rows order.command) orders → Leads (InBlock places.Body kind names) (order_lines orders) (InBlock places.Body kind names)
orders_lead rows kind names [] handler fits stay h = refl
orders_lead rows kind names (o ∷ orders) handler fits stay h =
    let stays = and_parts (not (is_return o.command)) (list_all (λ (order : Order). not (is_return order.command)) orders) stay in
    let parts = order_may kind o orders handler fits stays.0 in
    (InBlock places.Body kind names, rw (parts.0, no_limit rows o.command h.0) refl, orders_lead rows kind names orders handler parts.1 stays.1 h.1)
  where
    order_may : (kind : BlockKind) (order : Order) (orders handler : List Order) → fits_kind kind (order ∷ orders) handler ≡ true → not (is_return order.command) ≡ true → (may_have places.Body kind order.command ≡ true) × (fits_kind kind orders handler ≡ true)
    order_may kinds.Task order orders handler fits stays = (stays, refl)
    order_may kinds.Child order orders handler fits stays = (stays, refl)
    order_may kinds.Kthread order orders handler fits stays =
        let outer = and_parts (is_kernel_command order.command && list_all (λ (o : Order). is_kernel_command o.command) orders) (length handler == 0) fits in
        let parts = and_parts (is_kernel_command order.command) (list_all (λ (o : Order). is_kernel_command o.command) orders) outer.0 in
        (parts.0, rw (parts.1, outer.1) refl)

-- the lines of a handler
handler_leads : (rows : List Row) (kind : BlockKind) (names : List (List ℕ)) (o : Order) (orders : List Order) → is_handler_from o orders ≡ true → AllByRecursion (λ (order : Order). IsCommand rows order.command) (o ∷ orders) → Leads (InBlock places.Handler kind names) (order_lines (o ∷ orders)) (InBlock places.Returned kind names)
handler_leads rows kind names o [] returns h = (InBlock places.Returned kind names, rw (no_limit rows o.command h.0, returns) refl, refl)
handler_leads rows kind names o (p ∷ orders) returns h =
    let outer = and_parts (not (is_outer o.command) && not (is_return o.command)) (is_handler_from p orders) returns in
    let here = and_parts (not (is_outer o.command)) (not (is_return o.command)) outer.0 in
    let stays = not_true (is_return o.command) here.1 in
    (InBlock places.Handler kind names, rw (no_limit rows o.command h.0, stays) refl, handler_leads rows kind names p orders outer.1 h.1)
  where
    not_true : (b : Bool) → not b ≡ true → b ≡ false
    not_true true h = absurd (cc h)
    not_true false h = refl

-- a handler is that of a task or a child
handler_user : (kind : BlockKind) (body : List Order) (o : Order) (orders : List Order) → fits_kind kind body (o ∷ orders) ≡ true → is_user_kind kind ≡ true
handler_user kinds.Task body o orders fits = refl
handler_user kinds.Child body o orders fits = refl
handler_user kinds.Kthread body o orders fits =
    let outer = and_parts (list_all (λ (order : Order). is_kernel_command order.command) body) (length (o ∷ orders) == 0) fits in
    let none = eqb-true (length (o ∷ orders)) 0 outer.1 in
    absurd (omega (arith, none))

-- the lines after a body
tail_leads : (rows : List Row) (kind : BlockKind) (names : List (List ℕ)) (body handler : List Order) → fits_kind kind body handler ≡ true → is_handler handler ≡ true → AllByRecursion (λ (order : Order). IsCommand rows order.command) handler → Leads (InBlock places.Body kind names) (handler_lines handler ++ lines.End ∷ []) (AtBlock names)
tail_leads rows kind names body [] fits returns h = (AtBlock names, refl, refl)
tail_leads rows kind names body (o ∷ orders) fits returns h = (
  InBlock places.Handler kind names,
  rw (handler_user kind body o orders fits) refl,
  leads_join (InBlock places.Handler kind names) (InBlock places.Returned kind names) (AtBlock names) (order_lines (o ∷ orders)) (lines.End ∷ []) (handler_leads rows kind names o orders returns h) (AtBlock names, refl, refl),
)

begin_leads : (kind : BlockKind) (names : List (List ℕ)) (name : List ℕ) → length names < 64 → list_any (λ other. bytes_eq other name) names ≡ false → next (AtBlock names) (lines.Begin kind name) ≡ Ok (InBlock places.Body kind (names ++ name ∷ []))
begin_leads kind names name few new =
    let fewer : nat_le 64 (length names) ≡ false = lt-leb 64 (length names) few in
    rw (fewer, new) refl

block_leads : (rows : List Row) (names : List (List ℕ)) (b : Block) → length names < 64 → list_any (λ other. bytes_eq other b.name) names ≡ false → IsBody rows b → Leads (AtBlock names) (block_lines b) (AtBlock (names ++ b.name ∷ []))
block_leads rows names b few new h =
    let more = names ++ b.name ∷ [] in
    let inside = InBlock places.Body b.kind more in
    (inside, begin_leads b.kind names b.name few new, leads_join inside inside (AtBlock more) (order_lines b.body) (handler_lines b.handler ++ lines.End ∷ []) (orders_lead rows b.kind more b.body b.handler h.kind h.inside h.body) (tail_leads rows b.kind more b.body b.handler h.kind h.returns h.handler))

blocks_lead : (rows : List Row) (names : List (List ℕ)) (blocks : List Block) → length names + length blocks ≤ 64 → AreDistinct (names ++ names_of blocks) → AllByRecursion (λ (b : Block). IsBody rows b) blocks → Leads (AtBlock names) (flat_map block_lines blocks) (AtBlock (names ++ names_of blocks))
blocks_lead rows names [] few h bodies = ap AtBlock (append-nil names)
blocks_lead rows names (b ∷ blocks) few h bodies =
    let more = names ++ b.name ∷ [] in
    let all : more ++ names_of blocks ≡ names ++ b.name ∷ names_of blocks = append_assoc names (b.name ∷ []) (names_of blocks) in
    let long : length more ≡ length names + 1 = length-append names (b.name ∷ []) in
    let later = blocks_lead rows more blocks (omega (arith, few, long)) (subst AreDistinct (sym all) h) bodies.1 in
    leads_join (AtBlock names) (AtBlock more) (AtBlock (names ++ names_of (b ∷ blocks))) (block_lines b) (flat_map block_lines blocks)
    (block_leads rows names b (omega (arith, few)) (another names (names_of blocks) b.name h) bodies.0)
    (subst (λ (ns : List (List ℕ)). Leads (AtBlock more) (flat_map block_lines blocks) (AtBlock ns)) all later)

-- ---- a text that spells a script

-- the lines of its blocks, after a schedule
blocks_after : (cpus count : ℕ) (script : Script) → IsValid script → AllByRecursion (λ (b : Block). HaveNumbers (lines_of b)) script.blocks → Leads (AtSched cpus count) (flat_map block_lines script.blocks) (AtBlock (names_of script.blocks))
blocks_after cpus count script valid numbers =
    let few : 0 + length script.blocks ≤ 64 = omega (arith, valid.few) in
    let fit = script_fits script valid numbers in
    let text = lines_text (flat_map block_lines script.blocks) in
    let front : IsFront (AtBlock []) text (flat_map block_lines script.blocks) (AtBlock (names_of script.blocks)) [] = record { lines_fit = fit; parts = sym (append-nil text); leads = blocks_lead script.layout [] script.blocks few valid.distinct valid.bodies } in
    (front_after cpus count text [] (flat_map block_lines script.blocks) (AtBlock (names_of script.blocks)) (some_lines script.blocks valid.some) front).leads

pub spelled_passes : (text : List ℕ) (script : Script) (h : Spells text script) → Passes text (script_lines script h.groups)
spelled_passes text script h =
    let entries = subst (λ (xs : List ℕ). AllByRecursion (λ entry. entry < script.cpus) xs) h.grouped.joined h.valid.entries in
    let long : length script.sched ≡ length (joined h.groups) = ap length h.grouped.joined in
    let end = AtBlock (names_of script.blocks) in
    let after = AtSched script.cpus (0 + length (joined h.groups)) in
    record {
      lines_fit = all_join IsLine (head_lines script) (sched_lines h.groups ++ flat_map block_lines script.blocks) (head_fits script h.valid)
          (all_join IsLine (sched_lines h.groups) (flat_map block_lines script.blocks) (sched_fits h.groups script.cpus h.valid.cpus.1 h.grouped.some entries) (script_fits script h.valid h.numbers));
      spelled = h.spelled;
      stand = end;
      leads = leads_join AtVersion (AtSched script.cpus 0) end (head_lines script) (sched_lines h.groups ++ flat_map block_lines script.blocks) (head_leads script h.valid)
          (leads_join (AtSched script.cpus 0) after end (sched_lines h.groups) (flat_map block_lines script.blocks) (sched_leads_on script.cpus 0 h.groups entries (omega (arith, long, h.valid.schedule))) (blocks_after script.cpus (0 + length (joined h.groups)) script h.valid h.numbers));
      whole = may_end_some script.blocks h.valid.some;
    }

module _ (rows : List Row) (all : List Block) where
  orders_are_known : (earlier orders : List Order) → AllByRecursion (λ (order : Order). IsCommand rows order.command) orders → AreNamedAfter all earlier orders → AllByRecursion (IsKnown (block_scope rows all)) (order_lines orders)
  orders_are_known earlier [] h n = tt
  orders_are_known earlier (o ∷ orders) h n = ((h.0, names_one rows all earlier o.command n.0), orders_are_known (o ∷ earlier) orders h.1 n.1)

  local_are_known : (orders : List Order) → AllByRecursion (λ (order : Order). IsCommand rows order.command) orders → AllByRecursion (λ (order : Order). is_outer order.command ≡ false) orders → AllByRecursion (IsKnown (block_scope rows all)) (order_lines orders)
  local_are_known [] h local = tt
  local_are_known (o ∷ orders) h local = ((h.0, names_one rows all [] o.command (local_names all [] o.command local.0)), local_are_known orders h.1 local.1)

  pub blocks_are_known : (blocks : List Block) → AllByRecursion (λ (b : Block). IsBody rows b) blocks → AllByRecursion (λ (b : Block). AreNamed all b.body) blocks → AllByRecursion (IsKnown (block_scope rows all)) (flat_map block_lines blocks)
  blocks_are_known [] h n = tt
  blocks_are_known (b ∷ blocks) h n =
      let scope = block_scope rows all in
      let handler = handler_all (IsKnown scope) b.handler tt (local_are_known b.handler h.0.handler (handler_local b.handler h.0.returns)) in
      block_join (IsKnown scope) b (flat_map block_lines blocks) (record { begins = tt; body = orders_are_known [] b.body h.0.body n.0; handler = handler; ends = tt }) (blocks_are_known blocks h.1 n.1)

-- ---- outer commands

body_outside : (orders : List Order) (rest : List Line) → AreOutside false rest → AreOutside false (order_lines orders ++ rest)
body_outside [] rest out = out
body_outside (o ∷ orders) rest out = (refl, body_outside orders rest out)

local_outside : (orders : List Order) (rest : List Line) → AllByRecursion (λ (order : Order). is_outer order.command ≡ false) orders → AreOutside true rest → AreOutside true (order_lines orders ++ rest)
local_outside [] rest local out = out
local_outside (o ∷ orders) rest local out = (local.0, local_outside orders rest local.1 out)

handler_outside : (orders : List Order) (rest : List Line) → AllByRecursion (λ (order : Order). is_outer order.command ≡ false) orders → AreOutside false rest → AreOutside false (handler_lines orders ++ lines.End ∷ rest)
handler_outside [] rest local out = (refl, out)
handler_outside (o ∷ orders) rest local out = (refl, local_outside (o ∷ orders) (lines.End ∷ rest) local (refl, out))

blocks_outside : (rows : List Row) (blocks : List Block) → AllByRecursion (λ (b : Block). IsBody rows b) blocks → AreOutside false (flat_map block_lines blocks)
blocks_outside rows [] h = tt
blocks_outside rows (b ∷ blocks) h =
    let rest = flat_map block_lines blocks in
    subst (AreOutside false) (sym (block_row b rest))
    (refl, body_outside b.body (handler_lines b.handler ++ lines.End ∷ rest) (handler_outside b.handler rest (handler_local b.handler h.0.returns) (blocks_outside rows blocks h.1)))

body_forks : (rows : List Row) (blocks : List Block) → AllByRecursion (λ (b : Block). IsBody rows b) blocks → AllByRecursion (λ (block : Block). forked_names block.handler ≡ []) blocks
body_forks rows [] h = tt
body_forks rows (b ∷ blocks) h = (handler_no_forks b.handler (handler_local b.handler h.0.returns), body_forks rows blocks h.1)

-- ---- what is read

-- A text that spells a script is that of it.
pub spelled_read : (text : List ℕ) (script : Script) → Spells text script → IsScriptOf text script
spelled_read text script h =
    let bodies = flat_map block_lines script.blocks in
    let before = head_lines script ++ sched_lines h.groups in
    let lined = script_lines script h.groups in
    let scope = block_scope script.layout script.blocks in
    let bare = front_no_names script h.groups in
    let parted = parted_lines script h.groups in
    let scope_is = script_scope script h.groups h.valid.machine in
    let known = all_join (IsKnown scope) before bodies (all_join (IsKnown scope) (head_lines script) (sched_lines h.groups) (head_known scope script) (sched_known scope h.groups)) (blocks_are_known script.layout script.blocks script.blocks h.valid.bodies h.valid.named) in
    let forks : forks_of lined ≡ all_forked_names script.blocks = ap forks_of parted ∙ no_forks before bodies bare ∙ blocks_forks script.blocks (body_forks script.layout script.blocks h.valid.bodies) in
    record {
      groups = h.groups;
      grouped = h.grouped;
      table = h.valid.machine;
      numbered = h.numbered;
      passes = spelled_passes text script h;
      known = record {
        each = subst (λ (x : Scope). AllByRecursion (IsKnown x) lined) (sym scope_is) (subst (AllByRecursion (IsKnown scope)) (sym parted) known);
        once = subst AreDistinct (sym forks) h.valid.forked;
        outside = subst (AreOutside false) (sym parted) (front_outside before bodies bare (blocks_outside script.layout script.blocks h.valid.bodies));
        reaching = subst (AreReaching []) (sym parted) (front_reaching [] before bodies bare (blocks_reaching script.layout script.blocks script.blocks h.valid.bodies h.valid.named));
      };
    }
