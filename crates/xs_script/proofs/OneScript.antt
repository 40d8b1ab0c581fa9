-- A text spells one script at most.
use Rattle.std.proofs.Common.{◌≡◌, ℕ, ◌+◌, ◌<◌, ◌^◌, List, [], ◌∷◌, ◌++◌, length, refl, sym, ◌∙◌, ap, subst}
use Rattle.std.specs.List.{flat_map}
use Rattle.std.proofs.lemmas.List.{append_assoc, append_cancel_left}
use Rattle.std.proofs.Props.{props}
use Rattle.xs_base.specs.declared.component.Row.{Row}
use Rattle.xs_model.specs.declared.script.Named.{Named}
use Rattle.xs_model.specs.declared.script.BlockKind.{BlockKind}
use Rattle.xs_model.specs.declared.script.Command.{Command}
use Rattle.xs_model.specs.declared.script.Order.{Order}
use Rattle.xs_model.specs.declared.script.Block.{Block}
use Rattle.xs_model.specs.declared.script.Script.{Script}
use Rattle.xs_model.specs.Script.{AreNumbered, AreBlocksNumbered, handler_span}
use Rattle.xs_script.specs.declared.commands.Scope.{Scope}
use Rattle.xs_script.specs.declared.line.Line.{Line}
use Rattle.xs_script.specs.declared.line.Line.TheVariants as lines
use Rattle.xs_script.specs.Grammar.{order_lines, handler_lines, block_lines, row_lines, head_lines, sched_lines, script_lines, Spells}
use Rattle.xs_script.specs.Refusal.{table_of, IsScriptOf}
use Rattle.xs_script.proofs.EntryTests.{joined}
use Rattle.xs_script.proofs.OneRefusal.{one_lines}
use Rattle.xs_script.proofs.BlockParts.{row_of, block_row}
use Rattle.xs_script.proofs.WholeScripts.{script_scope}
use Rattle.xs_script.proofs.SpelledLines.{number_lines, spelled_read}

-- Orders of one number and one command are the same: that the number is in its range has one proof.
abbrev order_of : (n : ℕ) → n < 2 ^ 32 → Command → Order
order_of n small command = record { number = n; command = command; in_range = small }

one_proof : (n : ℕ) → IsProp (n < 2 ^ 32)
one_proof n = Prim.hlevel props

same_order : (a b : Order) → a.number ≡ b.number → a.command ≡ b.command → a ≡ b
same_order a b en ec =
    subst (λ n. (small : n < 2 ^ 32) → a ≡ order_of n small b.command) en
    (λ small. ap (λ (h : a.number < 2 ^ 32). order_of a.number h a.command) (one_proof a.number a.in_range small) ∙ ap (order_of a.number small) ec) b.in_range

-- no order comes next
abbrev BeginsNoOrder : List Line → Type 0
BeginsNoOrder [] = Unit {0}
BeginsNoOrder (lines.Order command ∷ ls) = ⊥
BeginsNoOrder (other ∷ ls) = Unit {0}

same_orders : (number : ℕ) (x y : List Order) (r s : List Line) → AreNumbered number x → AreNumbered number y → BeginsNoOrder r → BeginsNoOrder s → order_lines x ++ r ≡ order_lines y ++ s → (x ≡ y) × (r ≡ s)
same_orders number [] [] r s hx hy nr ns e = (refl, e)
same_orders number [] (o ∷ y) r s hx hy nr ns e = absurd (subst BeginsNoOrder e nr)
same_orders number (o ∷ x) [] r s hx hy nr ns e = absurd (subst BeginsNoOrder (sym e) ns)
same_orders number (o ∷ x) (p ∷ y) r s hx hy nr ns e =
    let command : o.command ≡ p.command = cc e in
    let later : order_lines x ++ r ≡ order_lines y ++ s = cc e in
    let rest = same_orders (number + 1) x y r s hx.1 hy.1 nr ns later in
    let first = same_order o p (hx.0 ∙ sym hy.0) command in
    (cc (first, rest.0), rest.1)

-- after a body no order comes next
tail_begins : (handler : List Order) (rest : List Line) → BeginsNoOrder (handler_lines handler ++ lines.End ∷ rest)
tail_begins [] rest = tt
tail_begins (o ∷ orders) rest = tt

same_handler : (number : ℕ) (x y : List Order) (r s : List Line) → AreNumbered number x → AreNumbered number y → handler_lines x ++ lines.End ∷ r ≡ handler_lines y ++ lines.End ∷ s → (x ≡ y) × (r ≡ s)
same_handler number [] [] r s hx hy e = (refl, cc e)
same_handler number [] (p ∷ y) r s hx hy e = absurd (cc e)
same_handler number (o ∷ x) [] r s hx hy e = absurd (cc e)
same_handler number (o ∷ x) (p ∷ y) r s hx hy e =
    let later : order_lines (o ∷ x) ++ lines.End ∷ r ≡ order_lines (p ∷ y) ++ lines.End ∷ s = cc e in
    let same = same_orders number (o ∷ x) (p ∷ y) (lines.End ∷ r) (lines.End ∷ s) hx hy tt tt later in
    let rest = same.1 in
    (same.0, cc rest)

same_block : (a b : Block) → a.kind ≡ b.kind → a.name ≡ b.name → a.body ≡ b.body → a.handler ≡ b.handler → a ≡ b
same_block a b ek en eb eh =
    ap (λ (k : BlockKind). record { kind = k; name = a.name; body = a.body; handler = a.handler }) ek
    ∙ ap (λ (n : List ℕ). record { kind = b.kind; name = n; body = a.body; handler = a.handler }) en
    ∙ ap (λ (os : List Order). record { kind = b.kind; name = b.name; body = os; handler = a.handler }) eb
    ∙ ap (λ (os : List Order). record { kind = b.kind; name = b.name; body = b.body; handler = os }) eh

same_blocks : (first : ℕ) (x y : List Block) → AreBlocksNumbered first x → AreBlocksNumbered first y → flat_map block_lines x ≡ flat_map block_lines y → x ≡ y
same_blocks first [] [] nx ny e = refl
same_blocks first [] (c ∷ y) nx ny e = absurd (cc e)
same_blocks first (b ∷ x) [] nx ny e = absurd (cc e)
same_blocks first (b ∷ x) (c ∷ y) nx ny e =
    let mine = flat_map block_lines x in
    let yours = flat_map block_lines y in
    let rows : row_of b mine ≡ row_of c yours = sym (block_row b mine) ∙ e ∙ block_row c yours in
    let kind : b.kind ≡ c.kind = cc rows in
    let name : b.name ≡ c.name = cc rows in
    let tail : order_lines b.body ++ (handler_lines b.handler ++ lines.End ∷ mine) ≡ order_lines c.body ++ (handler_lines c.handler ++ lines.End ∷ yours) = cc rows in
    let body = same_orders (first + 1) b.body c.body (handler_lines b.handler ++ lines.End ∷ mine) (handler_lines c.handler ++ lines.End ∷ yours) nx.0 ny.0 (tail_begins b.handler mine) (tail_begins c.handler yours) tail in
    let handled : AreNumbered (first + length b.body + 2) c.handler = subst (λ (os : List Order). AreNumbered (first + length os + 2) c.handler) (sym body.0) ny.1 in
    let handler = same_handler (first + length b.body + 2) b.handler c.handler mine yours nx.1 handled body.1 in
    let here = same_block b c kind name body.0 handler.0 in
    let later : AreBlocksNumbered (first + length b.body + handler_span b.handler + 2) y =
    subst (λ (os : List Order). AreBlocksNumbered (first + length b.body + handler_span os + 2) y) (sym handler.0)
    (subst (λ (os : List Order). AreBlocksNumbered (first + length os + handler_span c.handler + 2) y) (sym body.0) ny.2) in
    let rest = same_blocks (first + length b.body + handler_span b.handler + 2) x y nx.2 later handler.1 in
    cc (here, rest)

same_script : (a b : Script) → a.machine ≡ b.machine → a.layout ≡ b.layout → a.cpus ≡ b.cpus → a.quantum ≡ b.quantum → a.large ≡ b.large → a.sched ≡ b.sched → a.blocks ≡ b.blocks → a ≡ b
same_script a b em et ec eq el es eb =
    ap (λ (m : Named). record { machine = m; layout = a.layout; cpus = a.cpus; quantum = a.quantum; large = a.large; sched = a.sched; blocks = a.blocks }) em
    ∙ ap (λ (t : List Row). record { machine = b.machine; layout = t; cpus = a.cpus; quantum = a.quantum; large = a.large; sched = a.sched; blocks = a.blocks }) et
    ∙ ap (λ (n : ℕ). record { machine = b.machine; layout = b.layout; cpus = n; quantum = a.quantum; large = a.large; sched = a.sched; blocks = a.blocks }) ec
    ∙ ap (λ (n : ℕ). record { machine = b.machine; layout = b.layout; cpus = b.cpus; quantum = n; large = a.large; sched = a.sched; blocks = a.blocks }) eq
    ∙ ap (λ (n : ℕ). record { machine = b.machine; layout = b.layout; cpus = b.cpus; quantum = b.quantum; large = n; sched = a.sched; blocks = a.blocks }) el
    ∙ ap (λ (s : List ℕ). record { machine = b.machine; layout = b.layout; cpus = b.cpus; quantum = b.quantum; large = b.large; sched = s; blocks = a.blocks }) es
    ∙ ap (λ (bs : List Block). record { machine = b.machine; layout = b.layout; cpus = b.cpus; quantum = b.quantum; large = b.large; sched = b.sched; blocks = bs }) eb

-- before blocks the lines of two schedules are of the same groups
same_groups : (a b : List (List ℕ)) (x y : List Block) → sched_lines a ++ flat_map block_lines x ≡ sched_lines b ++ flat_map block_lines y → (a ≡ b) × (flat_map block_lines x ≡ flat_map block_lines y)
same_groups [] [] x y e = (refl, e)
same_groups [] (g ∷ b) [] y e = absurd (cc e)
same_groups [] (g ∷ b) (c ∷ x) y e = absurd (cc e)
same_groups (g ∷ a) [] x [] e = absurd (cc e)
same_groups (g ∷ a) [] x (c ∷ y) e = absurd (cc e)
same_groups (g ∷ a) (k ∷ b) x y e =
    let first : g ≡ k = cc e in
    let tail : sched_lines a ++ flat_map block_lines x ≡ sched_lines b ++ flat_map block_lines y = cc e in
    let rest = same_groups a b x y tail in
    (cc (first, rest.0), rest.1)

-- what scripts of the same lines have alike
record IsAlike (a b : Script) (ga gb : List (List ℕ)) : Type 0 where
  cpus : a.cpus ≡ b.cpus
  quantum : a.quantum ≡ b.quantum
  large : a.large ≡ b.large
  groups : ga ≡ gb
  blocks : flat_map block_lines a.blocks ≡ flat_map block_lines b.blocks

alike : (a b : Script) (ga gb : List (List ℕ)) → a.machine ≡ b.machine → a.layout ≡ b.layout → script_lines a ga ≡ script_lines b gb → IsAlike a b ga gb
alike a b ga gb em et e =
    let front = row_lines a.machine a.layout in
    let later_a = sched_lines ga ++ flat_map block_lines a.blocks in
    let later_b = sched_lines gb ++ flat_map block_lines b.blocks in
    let both : (front ++ number_lines a) ++ later_a ≡ (row_lines b.machine b.layout ++ number_lines b) ++ later_b = cc e in
    let fronts : row_lines b.machine b.layout ≡ front = rw (em, et) refl in
    let joined : front ++ (number_lines a ++ later_a) ≡ front ++ (number_lines b ++ later_b) =
    sym (append_assoc front (number_lines a) later_a) ∙ both
    ∙ append_assoc (row_lines b.machine b.layout) (number_lines b) later_b
    ∙ ap (λ (ls : List Line). ls ++ (number_lines b ++ later_b)) fronts in
    let tail = append_cancel_left front (number_lines a ++ later_a) (number_lines b ++ later_b) joined in
    let later : later_a ≡ later_b = cc tail in
    let rest = same_groups ga gb a.blocks b.blocks later in
    record { cpus = cc tail; quantum = cc tail; large = cc tail; groups = rest.0; blocks = rest.1 }

-- A text is that of one script at most.
pub one_script_of : (text : List ℕ) (a b : Script) → IsScriptOf text a → IsScriptOf text b → a ≡ b
one_script_of text a b ha hb =
    let same : script_lines a ha.groups ≡ script_lines b hb.groups = one_lines (script_lines a ha.groups) (script_lines b hb.groups) ha.passes.lines_fit hb.passes.lines_fit (sym ha.passes.spelled ∙ hb.passes.spelled) in
    let machine : a.machine ≡ b.machine = cc same in
    let mine : table_of (script_lines a ha.groups) ≡ a.layout = ap (λ (x : Scope). x.layout) (script_scope a ha.groups ha.table) in
    let yours : table_of (script_lines b hb.groups) ≡ b.layout = ap (λ (x : Scope). x.layout) (script_scope b hb.groups hb.table) in
    let layout : a.layout ≡ b.layout = sym mine ∙ ap table_of same ∙ yours in
    let like = alike a b ha.groups hb.groups machine layout same in
    let heads : head_lines b ≡ head_lines a = rw (machine, layout, like.cpus, like.quantum, like.large) refl in
    let at : length (head_lines b) + length hb.groups + 1 ≡ length (head_lines a) + length ha.groups + 1 = ap (λ (ls : List Line). length ls + length hb.groups + 1) heads ∙ ap (λ (gs : List (List ℕ)). length (head_lines a) + length gs + 1) (sym like.groups) in
    let numbered : AreBlocksNumbered (length (head_lines a) + length ha.groups + 1) b.blocks = subst (λ (n : ℕ). AreBlocksNumbered n b.blocks) at hb.numbered in
    let blocks = same_blocks (length (head_lines a) + length ha.groups + 1) a.blocks b.blocks ha.numbered numbered like.blocks in
    let sched : a.sched ≡ b.sched = ha.grouped.joined ∙ ap joined like.groups ∙ sym hb.grouped.joined in
    same_script a b machine layout like.cpus like.quantum like.large sched blocks

-- It spells one at most.
pub one_script : (text : List ℕ) (a b : Script) → Spells text a → Spells text b → a ≡ b
one_script text a b ha hb = one_script_of text a b (spelled_read text a ha) (spelled_read text b hb)
