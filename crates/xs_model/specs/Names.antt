-- The names that commands have for other blocks. A fork names a child block of the script; a parent waits for a child that
-- it forks on an earlier line, and reaches the registers of a child that it has waited for (Linux 6.6, kernel/ptrace.c,
-- ptrace_check_attach: the task that is reached is stopped). That this is known by the lines alone is this project's own.
use Rattle.std.specs.Prelude.{◌≡◌, Bool, true, false, nat_lt, ℕ, List, [], ◌∷◌, length, bytes_eq, Option, Some, None, if◌then◌else◌}
use Rattle.std.specs.List.{list_any, find, flat_map}
use Rattle.xs_model.specs.declared.script.BlockKind.{BlockKind}
use Rattle.xs_model.specs.declared.script.BlockKind.TheVariants.{Task, Child, Kthread}
use Rattle.xs_model.specs.declared.script.Command.{Command}
use Rattle.xs_model.specs.declared.script.Command.TheVariants.{Fork, Kill, Wait, Getregs, Setregs, Cont}
use Rattle.xs_model.specs.declared.script.Order.{Order}
use Rattle.xs_model.specs.declared.script.Block.{Block}

-- ---- the block of a name

-- the block that has the name
abbrev pub block_of : List Block → List ℕ → Option Block
block_of blocks name = find (λ (block : Block). bytes_eq block.name name) blocks

abbrev pub is_child_kind : BlockKind → Bool
is_child_kind Task = false
is_child_kind Child = true
is_child_kind Kthread = false

abbrev pub is_child : Option Block → Bool
is_child None = false
is_child (Some block) = is_child_kind block.kind

abbrev pub has_handler : Option Block → Bool
has_handler None = false
has_handler (Some block) = nat_lt 0 (length block.handler)

-- the name of the block that a command names
abbrev pub named_block : Command → Option (List ℕ)
named_block (Fork name) = Some name
named_block (Kill name signo) = Some name
named_block (Wait name) = Some name
named_block (Getregs name set) = Some name
named_block (Setregs name set count) = Some name
named_block (Cont name) = Some name
named_block other = None

-- ---- lines that name a child

abbrev pub is_fork_of : List ℕ → Command → Bool
is_fork_of name (Fork child) = bytes_eq child name
is_fork_of name other = false

abbrev pub is_wait_for : List ℕ → Command → Bool
is_wait_for name (Wait child) = bytes_eq child name
is_wait_for name other = false

abbrev pub is_cont_of : List ℕ → Command → Bool
is_cont_of name (Cont child) = bytes_eq child name
is_cont_of name other = false

-- One of the earlier lines forks the child.
abbrev pub is_forked : List Order → List ℕ → Bool
is_forked earlier name = list_any (λ (order : Order). is_fork_of name order.command) earlier

-- Of the earlier lines, the latest first, the latest that waits for the child or lets it go on is a wait.
abbrev pub is_awaited : List Order → List ℕ → Bool
is_awaited [] name = false
is_awaited (order ∷ earlier) name =
    if is_wait_for name order.command then true
    else if is_cont_of name order.command then false
    else is_awaited earlier name

-- The command has the name of a block that it may have, after the earlier lines of its body, the latest first.
abbrev pub NamesBlock : List Block → List Order → Command → Type 0
NamesBlock blocks earlier (Fork name) = is_child (block_of blocks name) ≡ true
NamesBlock blocks earlier (Kill name signo) = has_handler (block_of blocks name) ≡ true
NamesBlock blocks earlier (Wait name) = is_forked earlier name ≡ true
NamesBlock blocks earlier (Getregs name set) = (is_forked earlier name ≡ true) × (is_awaited earlier name ≡ true)
NamesBlock blocks earlier (Setregs name set count) = (is_forked earlier name ≡ true) × (is_awaited earlier name ≡ true)
NamesBlock blocks earlier (Cont name) = (is_forked earlier name ≡ true) × (is_awaited earlier name ≡ true)
NamesBlock blocks earlier other = Unit {0}

-- So have the commands of these lines, which follow the earlier ones.
abbrev pub AreNamedAfter : List Block → List Order → List Order → Type 0
AreNamedAfter blocks earlier [] = Unit {0}
AreNamedAfter blocks earlier (order ∷ orders) = NamesBlock blocks earlier order.command × AreNamedAfter blocks (order ∷ earlier) orders

-- The commands of a body have the names of blocks that they may have.
abbrev pub AreNamed : List Block → List Order → Type 0
AreNamed blocks body = AreNamedAfter blocks [] body

-- ---- the children that lines fork

abbrev pub forked_name : Command → List (List ℕ)
forked_name (Fork name) = name ∷ []
forked_name other = []

-- the names in the fork lines, in order
abbrev pub forked_names : List Order → List (List ℕ)
forked_names orders = flat_map (λ (order : Order). forked_name order.command) orders

-- those of all bodies
abbrev pub all_forked_names : List Block → List (List ℕ)
all_forked_names blocks = flat_map (λ (block : Block). forked_names block.body) blocks
