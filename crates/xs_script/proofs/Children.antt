-- The blocks of a script that commands name, by the lines of the text: the child blocks, the lines that fork them, and the blocks
-- with a handler.
use Rattle.std.proofs.Common.{◌≡◌, ℕ, Bool, true, false, not, ◌&&◌, nat_lt, List, [], ◌∷◌, ◌++◌, length, map, Option, Some, None, refl, sym, ◌∙◌, ap, subst, arith}
use Rattle.std.specs.List.{AllByRecursion, flat_map}
use Rattle.std.proofs.lemmas.Bool.{and_parts, lt-ltb}
use Rattle.std.proofs.lemmas.List.{append_assoc, append-nil}
use Rattle.std.proofs.lemmas.List.Concat.{flat_map-append}
use Rattle.xs_base.specs.declared.component.Row.{Row}
use Rattle.xs_model.specs.declared.script.Named.{Named}
use Rattle.xs_model.specs.declared.script.Named.TheVariants.{Amx, Avx, Rows}
use Rattle.xs_model.specs.declared.script.BlockKind.{BlockKind}
use Rattle.xs_model.specs.declared.script.BlockKind.TheVariants as kinds
use Rattle.xs_model.specs.declared.script.Command.{Command}
use Rattle.xs_model.specs.declared.script.Command.TheVariants as commands
use Rattle.xs_model.specs.declared.script.Order.{Order}
use Rattle.xs_model.specs.declared.script.Block.{Block}
use Rattle.xs_model.specs.declared.script.Script.{Script}
use Rattle.xs_model.specs.Names.{block_of, is_child_kind, is_child, has_handler, NamesBlock, forked_name, forked_names, all_forked_names}
use Rattle.xs_model.specs.Script.{is_name, is_outer, is_return, is_handler, is_handler_from, AreDistinct}
use Rattle.xs_script.specs.declared.commands.Scope.{Scope}
use Rattle.xs_script.specs.declared.line.Line.{Line}
use Rattle.xs_script.specs.declared.line.Line.TheVariants as lines
use Rattle.xs_script.specs.ScriptLine.{kept_line}
use Rattle.xs_script.specs.Grammar.{order_lines, handler_lines, block_lines, row_lines, head_lines, sched_lines}
use Rattle.xs_script.specs.Before.{in_handler, in_handler_after, fork_of_line, forks_of}
use Rattle.xs_script.specs.Refusal.{child_name, child_of_line, children_of, last_name, last_name_of, handled_name, handled_after, is_among, AreOutside, NamesOne}
use Rattle.xs_script.specs.Body.{names_of}
use Rattle.xs_script.proofs.BlockParts.{all_join, block_row}
use Rattle.xs_script.proofs.NamedBlocks.{name_where, names_where, passes, where_passes, passes_where, passes_name}

-- ---- lines after lines

pub children_join : (a b : List Line) → children_of (a ++ b) ≡ children_of a ++ children_of b
children_join a b = flat_map-append child_of_line a b

pub forks_join : (a b : List Line) → forks_of (a ++ b) ≡ forks_of a ++ forks_of b
forks_join a b = flat_map-append fork_of_line a b

pub children_push : (ls : List Line) (l : Line) → children_of (ls ++ l ∷ []) ≡ children_of ls ++ child_of_line l
children_push ls l = children_join ls (l ∷ []) ∙ ap (λ (names : List (List ℕ)). children_of ls ++ names) (append-nil (child_of_line l))

pub forks_push : (ls : List Line) (l : Line) → forks_of (ls ++ l ∷ []) ≡ forks_of ls ++ fork_of_line l
forks_push ls l = forks_join ls (l ∷ []) ∙ ap (λ (names : List (List ℕ)). forks_of ls ++ names) (append-nil (fork_of_line l))

-- what is kept of a line begins the same child
pub kept_child : (l : Line) → child_of_line (kept_line l) ≡ child_of_line l
kept_child lines.Version = refl
kept_child (lines.Machine named) = refl
kept_child (lines.Row r) = refl
kept_child (lines.Cpus n) = refl
kept_child (lines.Quantum n) = refl
kept_child (lines.Large n) = refl
kept_child (lines.Sched entries) = refl
kept_child (lines.Begin kind name) = refl
kept_child (lines.Order command) = refl
kept_child (lines.NoSignal name number) = refl
kept_child lines.Handler = refl
kept_child lines.End = refl

-- nor does it end the name of the last block, or begin another handler
pub kept_last : (name : List ℕ) (l : Line) → last_name name (kept_line l) ≡ last_name name l
kept_last name lines.Version = refl
kept_last name (lines.Machine named) = refl
kept_last name (lines.Row r) = refl
kept_last name (lines.Cpus n) = refl
kept_last name (lines.Quantum n) = refl
kept_last name (lines.Large n) = refl
kept_last name (lines.Sched entries) = refl
kept_last name (lines.Begin kind other) = refl
kept_last name (lines.Order command) = refl
kept_last name (lines.NoSignal other number) = refl
kept_last name lines.Handler = refl
kept_last name lines.End = refl

pub kept_handled : (name : List ℕ) (l : Line) → handled_name name (kept_line l) ≡ handled_name name l
kept_handled name lines.Version = refl
kept_handled name (lines.Machine named) = refl
kept_handled name (lines.Row r) = refl
kept_handled name (lines.Cpus n) = refl
kept_handled name (lines.Quantum n) = refl
kept_handled name (lines.Large n) = refl
kept_handled name (lines.Sched entries) = refl
kept_handled name (lines.Begin kind other) = refl
kept_handled name (lines.Order command) = refl
kept_handled name (lines.NoSignal other number) = refl
kept_handled name lines.Handler = refl
kept_handled name lines.End = refl

-- one line more
pub last_push : (name : List ℕ) (ls : List Line) (l : Line) → last_name_of name (ls ++ l ∷ []) ≡ last_name (last_name_of name ls) l
last_push name [] l = refl
last_push name (x ∷ ls) l = last_push (last_name name x) ls l

pub handled_push : (name : List ℕ) (ls : List Line) (l : Line) → handled_after name (ls ++ l ∷ []) ≡ handled_after name ls ++ handled_name (last_name_of name ls) l
handled_push name [] l = append-nil (handled_name name l)
handled_push name (x ∷ ls) l =
    ap (λ (names : List (List ℕ)). handled_name name x ++ names) (handled_push (last_name name x) ls l)
    ∙ sym (append_assoc (handled_name name x) (handled_after (last_name name x) ls) (handled_name (last_name_of (last_name name x) ls) l))

-- ---- the lines before the blocks

-- a line that is none of a block
abbrev pub IsFrontLine : Line → Type 0
IsFrontLine (lines.Begin kind name) = ⊥
IsFrontLine (lines.Order command) = ⊥
IsFrontLine (lines.NoSignal name number) = ⊥
IsFrontLine lines.Handler = ⊥
IsFrontLine lines.End = ⊥
IsFrontLine other = Unit {0}

-- lines that begin no child and fork none
abbrev pub HasNoNames : List Line → Type 0
HasNoNames ls = AllByRecursion IsFrontLine ls

front_child : (l : Line) → IsFrontLine l → child_of_line l ≡ []
front_child (lines.Begin kind name) h = absurd h
front_child other h = refl

front_fork : (l : Line) → IsFrontLine l → fork_of_line l ≡ []
front_fork (lines.Order command) h = absurd h
front_fork other h = refl

front_last : (name : List ℕ) (l : Line) → IsFrontLine l → last_name name l ≡ name
front_last name (lines.Begin kind other) h = absurd h
front_last name other h = refl

front_handled : (name : List ℕ) (l : Line) → IsFrontLine l → handled_name name l ≡ []
front_handled name lines.Handler h = absurd h
front_handled name other h = refl

front_inside : (inside : Bool) (l : Line) → IsFrontLine l → in_handler inside l ≡ inside
front_inside inside lines.Handler h = absurd h
front_inside inside lines.End h = absurd h
front_inside inside other h = refl

pub no_children : (a b : List Line) → HasNoNames a → children_of (a ++ b) ≡ children_of b
no_children [] b h = refl
no_children (l ∷ a) b h = rw (front_child l h.0) (no_children a b h.1)

pub no_forks : (a b : List Line) → HasNoNames a → forks_of (a ++ b) ≡ forks_of b
no_forks [] b h = refl
no_forks (l ∷ a) b h = rw (front_fork l h.0) (no_forks a b h.1)

pub no_handled : (name : List ℕ) (a b : List Line) → HasNoNames a → handled_after name (a ++ b) ≡ handled_after name b
no_handled name [] b h = refl
no_handled name (l ∷ a) b h = rw (front_handled name l h.0, front_last name l h.0) (no_handled name a b h.1)

pub no_inside : (inside : Bool) (a b : List Line) → HasNoNames a → in_handler_after inside (a ++ b) ≡ in_handler_after inside b
no_inside inside [] b h = refl
no_inside inside (l ∷ a) b h = ap (λ (t : Bool). in_handler_after t (a ++ b)) (front_inside inside l h.0) ∙ no_inside inside a b h.1

pub front_outside : (a b : List Line) → HasNoNames a → AreOutside false b → AreOutside false (a ++ b)
front_outside [] b h out = out
front_outside (l ∷ a) b h out = (refl, subst (λ (t : Bool). AreOutside t (a ++ b)) (sym (front_inside false l h.0)) (front_outside a b h.1 out))

pub outside_front : (a b : List Line) → HasNoNames a → AreOutside false (a ++ b) → AreOutside false b
outside_front [] b h out = out
outside_front (l ∷ a) b h out = outside_front a b h.1 (subst (λ (t : Bool). AreOutside t (a ++ b)) (front_inside false l h.0) out.1)

rows_no_names : (rows : List Row) → HasNoNames (map lines.Row rows)
rows_no_names [] = tt
rows_no_names (r ∷ rows) = (tt, rows_no_names rows)

machine_no_names : (machine : Named) (layout : List Row) → HasNoNames (row_lines machine layout)
machine_no_names Amx layout = tt
machine_no_names Avx layout = tt
machine_no_names Rows layout = rows_no_names layout

sched_no_names : (groups : List (List ℕ)) → HasNoNames (sched_lines groups)
sched_no_names [] = tt
sched_no_names (g ∷ groups) = (tt, sched_no_names groups)

head_no_names : (script : Script) → HasNoNames (head_lines script)
head_no_names script =
    (tt, (tt, all_join IsFrontLine (row_lines script.machine script.layout) (lines.Cpus script.cpus ∷ lines.Quantum script.quantum ∷ lines.Large script.large ∷ []) (machine_no_names script.machine script.layout) (tt, (tt, (tt, tt)))))

pub front_no_names : (script : Script) (groups : List (List ℕ)) → HasNoNames (head_lines script ++ sched_lines groups)
front_no_names script groups = all_join IsFrontLine (head_lines script) (sched_lines groups) (head_no_names script) (sched_no_names groups)

-- ---- the lines of blocks

orders_children : (orders : List Order) (rest : List Line) → children_of (order_lines orders ++ rest) ≡ children_of rest
orders_children [] rest = refl
orders_children (o ∷ orders) rest = orders_children orders rest

handler_children : (orders : List Order) (rest : List Line) → children_of (handler_lines orders ++ rest) ≡ children_of rest
handler_children [] rest = refl
handler_children (o ∷ orders) rest = orders_children (o ∷ orders) rest

abbrev pub is_child_block : Block → Bool
is_child_block block = is_child_kind block.kind

abbrev pub is_handled_block : Block → Bool
is_handled_block block = nat_lt 0 (length block.handler)

-- the names of the child blocks, and of the blocks with a handler
abbrev pub child_names : List Block → List (List ℕ)
child_names blocks = names_where is_child_block blocks

abbrev pub handled_names : List Block → List (List ℕ)
handled_names blocks = names_where is_handled_block blocks

child_where : (kind : BlockKind) (name : List ℕ) → child_name kind name ≡ name_where (is_child_kind kind) name
child_where kinds.Task name = refl
child_where kinds.Child name = refl
child_where kinds.Kthread name = refl

pub blocks_children : (blocks : List Block) → children_of (flat_map block_lines blocks) ≡ child_names blocks
blocks_children [] = refl
blocks_children (b ∷ blocks) =
    let rest = flat_map block_lines blocks in
    let own = child_name b.kind b.name in
    ap children_of (block_row b rest)
    ∙ ap (λ (names : List (List ℕ)). own ++ names) (orders_children b.body (handler_lines b.handler ++ lines.End ∷ rest) ∙ handler_children b.handler (lines.End ∷ rest) ∙ blocks_children blocks)
    ∙ ap (λ (names : List (List ℕ)). names ++ child_names blocks) (child_where b.kind b.name)

orders_handled : (name : List ℕ) (orders : List Order) (rest : List Line) → handled_after name (order_lines orders ++ rest) ≡ handled_after name rest
orders_handled name [] rest = refl
orders_handled name (o ∷ orders) rest = orders_handled name orders rest

some_handled : (order : Order) (orders : List Order) → nat_lt 0 (length (order ∷ orders)) ≡ true
some_handled order orders = lt-ltb 0 (length (order ∷ orders)) (omega arith)

handler_handled : (name : List ℕ) (orders : List Order) (rest : List Line) → handled_after name (handler_lines orders ++ rest) ≡ name_where (nat_lt 0 (length orders)) name ++ handled_after name rest
handler_handled name [] rest = refl
handler_handled name (o ∷ orders) rest =
    ap (λ (names : List (List ℕ)). name ∷ names) (orders_handled name (o ∷ orders) rest)
    ∙ ap (λ (t : Bool). name_where t name ++ handled_after name rest) (sym (some_handled o orders))

pub blocks_handled : (name : List ℕ) (blocks : List Block) → handled_after name (flat_map block_lines blocks) ≡ handled_names blocks
blocks_handled name [] = refl
blocks_handled name (b ∷ blocks) =
    let rest = flat_map block_lines blocks in
    ap (handled_after name) (block_row b rest)
    ∙ orders_handled b.name b.body (handler_lines b.handler ++ lines.End ∷ rest)
    ∙ handler_handled b.name b.handler (lines.End ∷ rest)
    ∙ ap (λ (names : List (List ℕ)). name_where (is_handled_block b) b.name ++ names) (blocks_handled b.name blocks)

orders_forks : (orders : List Order) (rest : List Line) → forks_of (order_lines orders ++ rest) ≡ forked_names orders ++ forks_of rest
orders_forks [] rest = refl
orders_forks (o ∷ orders) rest =
    ap (λ (names : List (List ℕ)). forked_name o.command ++ names) (orders_forks orders rest)
    ∙ sym (append_assoc (forked_name o.command) (forked_names orders) (forks_of rest))

-- a handler that forks nothing
handler_forks : (orders : List Order) (rest : List Line) → forked_names orders ≡ [] → forks_of (handler_lines orders ++ rest) ≡ forks_of rest
handler_forks [] rest none = refl
handler_forks (o ∷ orders) rest none = orders_forks (o ∷ orders) rest ∙ ap (λ (names : List (List ℕ)). names ++ forks_of rest) none

-- the names in the fork lines of blocks whose handlers have none
pub blocks_forks : (blocks : List Block) → AllByRecursion (λ (block : Block). forked_names block.handler ≡ []) blocks → forks_of (flat_map block_lines blocks) ≡ all_forked_names blocks
blocks_forks [] none = refl
blocks_forks (b ∷ blocks) none =
    let rest = flat_map block_lines blocks in
    ap forks_of (block_row b rest)
    ∙ orders_forks b.body (handler_lines b.handler ++ lines.End ∷ rest)
    ∙ ap (λ (names : List (List ℕ)). forked_names b.body ++ names) (handler_forks b.handler (lines.End ∷ rest) none.0 ∙ blocks_forks blocks none.1)

-- ---- handlers

-- a local command forks nothing
local_forks : (command : Command) → is_outer command ≡ false → forked_name command ≡ []
local_forks (commands.Fork name) h = absurd (cc h)
local_forks other h = refl

-- the return from a handler is local
return_local : (command : Command) → is_return command ≡ true → is_outer command ≡ false
return_local commands.Sigreturn h = refl
return_local other h = absurd (cc h)

-- the lines of a handler are local
pub handler_local : (orders : List Order) → is_handler orders ≡ true → AllByRecursion (λ (order : Order). is_outer order.command ≡ false) orders
handler_local [] h = tt
handler_local (o ∷ orders) h = from o orders h
  where
    not_true : (b : Bool) → not b ≡ true → b ≡ false
    not_true true h = absurd (cc h)
    not_true false h = refl

    from : (o : Order) (orders : List Order) → is_handler_from o orders ≡ true → AllByRecursion (λ (order : Order). is_outer order.command ≡ false) (o ∷ orders)
    from o [] h = (return_local o.command h, tt)
    from o (p ∷ orders) h =
        let outer = and_parts (not (is_outer o.command) && not (is_return o.command)) (is_handler_from p orders) h in
        let here = and_parts (not (is_outer o.command)) (not (is_return o.command)) outer.0 in
        (not_true (is_outer o.command) here.0, from p orders outer.1)

pub handler_no_forks : (orders : List Order) → AllByRecursion (λ (order : Order). is_outer order.command ≡ false) orders → forked_names orders ≡ []
handler_no_forks [] h = refl
handler_no_forks (o ∷ orders) h = rw (local_forks o.command h.0) (handler_no_forks orders h.1)

-- ---- the commands of blocks

-- what the commands of these blocks may name
abbrev pub block_scope : List Row → List Block → Scope
block_scope rows blocks = record { layout = rows; children = child_names blocks; handled = handled_names blocks }

child_passes : (block : Option Block) → is_child block ≡ passes is_child_block block
child_passes None = refl
child_passes (Some b) = refl

handled_passes : (block : Option Block) → has_handler block ≡ passes is_handled_block block
handled_passes None = refl
handled_passes (Some b) = refl

-- a fork and a signal that name a block that they may name do so wherever they stand
pub fork_named : (blocks : List Block) (name : List ℕ) → AreDistinct (names_of blocks) → is_among name (child_names blocks) ≡ true → is_child (block_of blocks name) ≡ true
fork_named blocks name d named = child_passes (block_of blocks name) ∙ where_passes is_child_block blocks name d named

pub kill_named : (blocks : List Block) (name : List ℕ) → AreDistinct (names_of blocks) → is_among name (handled_names blocks) ≡ true → has_handler (block_of blocks name) ≡ true
kill_named blocks name d named = handled_passes (block_of blocks name) ∙ where_passes is_handled_block blocks name d named

-- and the other way round
pub names_one : (rows : List Row) (blocks : List Block) (earlier : List Order) (command : Command) → NamesBlock blocks earlier command → NamesOne (block_scope rows blocks) command
names_one rows blocks earlier (commands.Fork name) named = passes_where is_child_block blocks name (sym (child_passes (block_of blocks name)) ∙ named)
names_one rows blocks earlier (commands.Kill name signo) named = passes_where is_handled_block blocks name (sym (handled_passes (block_of blocks name)) ∙ named)
names_one rows blocks earlier other named = tt

-- a local command names none
pub local_names : (blocks : List Block) (earlier : List Order) (command : Command) → is_outer command ≡ false → NamesBlock blocks earlier command
local_names blocks earlier (commands.Fork name) h = absurd (cc h)
local_names blocks earlier (commands.Kill name signo) h = absurd (cc h)
local_names blocks earlier (commands.Wait name) h = absurd (cc h)
local_names blocks earlier (commands.Getregs name set) h = absurd (cc h)
local_names blocks earlier (commands.Setregs name set count) h = absurd (cc h)
local_names blocks earlier (commands.Cont name) h = absurd (cc h)
local_names blocks earlier other h = tt

-- the name of a block that a command names is spelled as one
pub child_is_name : (blocks : List Block) (name : List ℕ) → AllByRecursion (λ (block : Block). is_name block.name ≡ true) blocks → is_child (block_of blocks name) ≡ true → is_name name ≡ true
child_is_name blocks name names h = passes_name is_child_block blocks name names (sym (child_passes (block_of blocks name)) ∙ h)

pub handled_is_name : (blocks : List Block) (name : List ℕ) → AllByRecursion (λ (block : Block). is_name block.name ≡ true) blocks → has_handler (block_of blocks name) ≡ true → is_name name ≡ true
handled_is_name blocks name names h = passes_name is_handled_block blocks name names (sym (handled_passes (block_of blocks name)) ∙ h)
