-- What is known of the blocks that commands name.
use Rattle.std.proofs.Common.{◌≡◌, ℕ, zero, suc, ◌<◌, Bool, true, false, List, [], ◌∷◌, ◌++◌, length, refl, sym, ap, ◌∙◌, subst, ltb-true, ⊎_elim}
use Rattle.std.proofs.lemmas.Bool.{or_cases}
use Rattle.std.proofs.lemmas.List.Folds.{find_at}
use Rattle.std.proofs.lemmas.Slice.Eq.{bytes_eq-Decides}
use Rattle.std.specs.Prelude.{Some, slice_get, bytes_eq, if◌then◌else◌}
use Rattle.std.specs.List.{find, AllByRecursion}
use Rattle.xs_model.specs.declared.script.Command.{Command}
use Rattle.xs_model.specs.declared.script.Command.TheVariants as commands
use Rattle.xs_model.specs.declared.script.Block.{Block}
use Rattle.xs_model.specs.declared.script.Order.{Order}
use Rattle.xs_model.specs.declared.script.Script.{Script}
use Rattle.xs_model.specs.Names.{block_of, is_child, has_handler, is_fork_of, is_forked, NamesBlock, AreNamedAfter, AreNamed, forked_name, forked_names, all_forked_names}
use Rattle.xs_model.specs.Script.{AreDistinct, IsValid, block_named}
use Rattle.xs_model.proofs.EachBlock.{all_at}
use Rattle.xs_model.proofs.LineNumbers.{in_first, in_second}

-- ---- the block of a name

-- the block of a name is the one at its number
pub block_by_name : (script : Script) (name : List ℕ) → block_of script.blocks name ≡ slice_get script.blocks (block_named script name)
block_by_name script name = find_at (λ (block : Block). bytes_eq block.name name) script.blocks

-- what is found passes the test
found_test : {A : Type 0} (test : A → Bool) (xs : List A) (x : A) → find test xs ≡ Some x → test x ≡ true
found_test test [] x at = absurd (cc)
found_test {A = A} test (y ∷ xs) x at = by_test (test y) refl at (λ (later : find test xs ≡ Some x). found_test test xs x later)
  where
    by_test : (b : Bool) → test y ≡ b → (if b then Some y else find test xs) ≡ Some x → (find test xs ≡ Some x → test x ≡ true) → test x ≡ true
    by_test true holds at rest = let same : y ≡ x = cc in subst (λ (z : A). test z ≡ true) same holds
    by_test false fails at rest = rest at

-- two names of one block are the same
pub one_name : (script : Script) (one other : List ℕ) (block : Block) → block_of script.blocks one ≡ Some block → block_named script other ≡ block_named script one → other ≡ one
one_name script one other block at same =
    let there : block_of script.blocks other ≡ Some block = block_by_name script other ∙ ap (slice_get script.blocks) same ∙ sym (block_by_name script one) ∙ at in
    let first : block.name ≡ one = (bytes_eq-Decides block.name one).0 (found_test (λ (b : Block). bytes_eq b.name one) script.blocks block at) in
    let second : block.name ≡ other = (bytes_eq-Decides block.name other).0 (found_test (λ (b : Block). bytes_eq b.name other) script.blocks block there) in
    sym second ∙ first

-- ---- the names of a valid script

-- A fork names a child.
abbrev NamesChild : List Block → Command → Type 0
NamesChild blocks (commands.Fork name) = is_child (block_of blocks name) ≡ true
NamesChild blocks other = Unit {0}

-- So do the forks of these lines.
abbrev pub AreChildren : List Block → List Order → Type 0
AreChildren blocks orders = AllByRecursion (λ (order : Order). NamesChild blocks order.command) orders

-- a fork's name is one that it may have
names_child : (blocks : List Block) (earlier : List Order) (command : Command) → NamesBlock blocks earlier command → NamesChild blocks command
names_child blocks earlier (commands.Fork name) named = named
names_child blocks earlier other named = tt

-- A command has the name of a block that it may have, after lines whose forks name children.
abbrev pub NamedAfter : List Block → Command → Type 0
NamedAfter blocks command = (before : List Order) × NamesBlock blocks before command × AreChildren blocks before

-- a line among those that follow earlier ones
named_after : (blocks : List Block) (earlier orders : List Order) (i : ℕ) (order : Order) → AreChildren blocks earlier → AreNamedAfter blocks earlier orders → slice_get orders i ≡ Some order → NamedAfter blocks order.command
named_after blocks earlier [] i order children named at = absurd (cc)
named_after blocks earlier (first ∷ orders) zero order children named at = let same : first ≡ order = cc in (earlier, subst (λ (o : Order). NamesBlock blocks earlier o.command) same named.0, children)
named_after blocks earlier (first ∷ orders) (suc i) order children named at = named_after blocks (first ∷ earlier) orders i order (names_child blocks earlier first.command named.0, children) named.1 at

-- a line of a body
pub line_named : (script : Script) (t i : ℕ) (lines : Block) (order : Order) → IsValid script → slice_get script.blocks t ≡ Some lines → slice_get lines.body i ≡ Some order → NamedAfter script.blocks order.command
line_named script t i lines order valid known at = named_after script.blocks [] lines.body i order tt (all_at (λ (block : Block). AreNamed script.blocks block.body) script.blocks t lines valid.named known) at

-- the name of a fork, where this is one of the child
fork_child : (blocks : List Block) (name : List ℕ) (command : Command) → NamesChild blocks command → is_fork_of name command ≡ true → is_child (block_of blocks name) ≡ true
fork_child blocks name (commands.Fork child) named is = subst (λ (n : List ℕ). is_child (block_of blocks n) ≡ true) ((bytes_eq-Decides child name).0 is) named
fork_child blocks name other named is = absurd (cc)

-- what one of these lines forks is a child
pub forked_child : (blocks : List Block) (earlier : List Order) (name : List ℕ) → AreChildren blocks earlier → is_forked earlier name ≡ true → is_child (block_of blocks name) ≡ true
forked_child blocks [] name children is = absurd (cc)
forked_child blocks (order ∷ earlier) name children is = ⊎_elim
    (λ (here : is_fork_of name order.command ≡ true). fork_child blocks name order.command children.0 here)
    (λ (later : is_forked earlier name ≡ true). forked_child blocks earlier name children.1 later)
    (or_cases (is_fork_of name order.command) (is_forked earlier name) is)

-- A signal that the line sends is for a block with a handler.
abbrev pub IsHandled : Script → Command → Type 0
IsHandled script (commands.Kill name signo) = (other : Block) → slice_get script.blocks (block_named script name) ≡ Some other → 0 < length other.handler
IsHandled script other = Unit {0}

-- so it is, by its name
pub named_handled : (script : Script) (before : List Order) (command : Command) → NamesBlock script.blocks before command → IsHandled script command
named_handled script before (commands.Kill name signo) named = λ other at.
    let there : block_of script.blocks name ≡ Some other = block_by_name script name ∙ at in
    ltb-true 0 (length other.handler) (sym (ap has_handler there) ∙ named)
named_handled script before other named = tt

-- ---- each child is forked by one line

-- The list has the name.
abbrev pub Has : List (List ℕ) → List ℕ → Type 0
Has names name = (k : ℕ) × (slice_get names k ≡ Some name)

-- so has a longer one
has_first : (xs ys : List (List ℕ)) (name : List ℕ) → Has xs name → Has (xs ++ ys) name
has_first xs ys name has = (has.0, in_first xs ys has.0 name has.1)

has_second : (xs ys : List (List ℕ)) (name : List ℕ) → Has ys name → Has (xs ++ ys) name
has_second xs ys name has = in_second xs ys has.0 name has.1

-- a fork line's own name
own_name : (order one : Order) (name : List ℕ) → order ≡ one → one.command ≡ commands.Fork name → Has (forked_name order.command) name
own_name order one name same is =
    let here : forked_name order.command ≡ name ∷ [] = ap (λ (o : Order). forked_name o.command) same ∙ ap forked_name is in
    subst (λ (names : List (List ℕ)). Has names name) (sym here) (0, refl)

-- the name of a fork line is among those of its body
pub has_fork : (orders : List Order) (i : ℕ) (order : Order) (name : List ℕ) → slice_get orders i ≡ Some order → order.command ≡ commands.Fork name → Has (forked_names orders) name
has_fork [] i order name at is = absurd (cc)
has_fork (first ∷ orders) zero order name at is =
    has_first (forked_name first.command) (forked_names orders) name (own_name first order name (cc) is)
has_fork (first ∷ orders) (suc i) order name at is = has_second (forked_name first.command) (forked_names orders) name (has_fork orders i order name at is)

-- and among those of all bodies
has_all : (blocks : List Block) (t : ℕ) (lines : Block) (name : List ℕ) → slice_get blocks t ≡ Some lines → Has (forked_names lines.body) name → Has (all_forked_names blocks) name
has_all [] t lines name known has = absurd (cc)
has_all (block ∷ blocks) zero lines name known has =
    let same : block ≡ lines = cc in
    has_first (forked_names block.body) (all_forked_names blocks) name (subst (λ (b : Block). Has (forked_names b.body) name) (sym same) has)
has_all (block ∷ blocks) (suc t) lines name known has = has_second (forked_names block.body) (all_forked_names blocks) name (has_all blocks t lines name known has)

-- distinct names in two lists: the lists are distinct, and none is in both
distinct_first : (xs ys : List (List ℕ)) → AreDistinct (xs ++ ys) → AreDistinct xs
distinct_first [] ys distinct = tt
distinct_first (x ∷ xs) ys distinct = (fewer xs distinct.0, distinct_first xs ys distinct.1)
  where
    fewer : (zs : List (List ℕ)) → AllByRecursion (λ other. other ≡ x → ⊥) (zs ++ ys) → AllByRecursion (λ other. other ≡ x → ⊥) zs
    fewer [] all = tt
    fewer (z ∷ zs) all = (all.0, fewer zs all.1)

distinct_second : (xs ys : List (List ℕ)) → AreDistinct (xs ++ ys) → AreDistinct ys
distinct_second [] ys distinct = distinct
distinct_second (x ∷ xs) ys distinct = distinct_second xs ys distinct.1

-- a name that none of the list is isn't in it
not_in : (x : List ℕ) (xs : List (List ℕ)) → AllByRecursion (λ other. other ≡ x → ⊥) xs → Has xs x → ⊥
not_in x xs all has = all_at (λ other. other ≡ x → ⊥) xs has.0 x all has.1 refl

not_both_at : (xs ys : List (List ℕ)) (name : List ℕ) (k : ℕ) → AreDistinct (xs ++ ys) → slice_get xs k ≡ Some name → Has ys name → ⊥
not_both_at [] ys name k distinct at two = absurd (cc)
not_both_at (x ∷ xs) ys name zero distinct at two = let same : x ≡ name = cc in not_in x (xs ++ ys) distinct.0 (subst (λ (n : List ℕ). Has (xs ++ ys) n) (sym same) (has_second xs ys name two))
not_both_at (x ∷ xs) ys name (suc k) distinct at two = not_both_at xs ys name k distinct.1 at two

not_both : (xs ys : List (List ℕ)) (name : List ℕ) → AreDistinct (xs ++ ys) → Has xs name → Has ys name → ⊥
not_both xs ys name distinct one two = not_both_at xs ys name one.0 distinct one.1 two

-- two blocks that fork one child are the same
pub one_parent : (blocks : List Block) (t u : ℕ) (one two : Block) (name : List ℕ) → AreDistinct (all_forked_names blocks) → slice_get blocks t ≡ Some one → slice_get blocks u ≡ Some two → Has (forked_names one.body) name → Has (forked_names two.body) name → t ≡ u
one_parent [] t u one two name distinct at there first second = absurd (cc)
one_parent (block ∷ blocks) zero zero one two name distinct at there first second = refl
one_parent (block ∷ blocks) zero (suc u) one two name distinct at there first second =
    let same : block ≡ one = cc in
    absurd (not_both (forked_names block.body) (all_forked_names blocks) name distinct (subst (λ (b : Block). Has (forked_names b.body) name) (sym same) first) (has_all blocks u two name there second))
one_parent (block ∷ blocks) (suc t) zero one two name distinct at there first second =
    let same : block ≡ two = cc in
    absurd (not_both (forked_names block.body) (all_forked_names blocks) name distinct (subst (λ (b : Block). Has (forked_names b.body) name) (sym same) second) (has_all blocks t one name at first))
one_parent (block ∷ blocks) (suc t) (suc u) one two name distinct at there first second =
    ap suc (one_parent blocks t u one two name (distinct_second (forked_names block.body) (all_forked_names blocks) distinct) at there first second)

-- the names of one body are distinct
pub body_distinct : (blocks : List Block) (t : ℕ) (lines : Block) → AreDistinct (all_forked_names blocks) → slice_get blocks t ≡ Some lines → AreDistinct (forked_names lines.body)
body_distinct [] t lines distinct known = absurd (cc)
body_distinct (block ∷ blocks) zero lines distinct known =
    let same : block ≡ lines = cc in
    subst (λ (b : Block). AreDistinct (forked_names b.body)) same (distinct_first (forked_names block.body) (all_forked_names blocks) distinct)
body_distinct (block ∷ blocks) (suc t) lines distinct known = body_distinct blocks t lines (distinct_second (forked_names block.body) (all_forked_names blocks) distinct) known

-- two lines of one body that fork one child are the same
pub one_line : (orders : List Order) (i j : ℕ) (one two : Order) (name : List ℕ) → AreDistinct (forked_names orders) → slice_get orders i ≡ Some one → slice_get orders j ≡ Some two → one.command ≡ commands.Fork name → two.command ≡ commands.Fork name → i ≡ j
one_line [] i j one two name distinct at there first second = absurd (cc)
one_line (order ∷ orders) zero zero one two name distinct at there first second = refl
one_line (order ∷ orders) zero (suc j) one two name distinct at there first second =
    absurd (not_both (forked_name order.command) (forked_names orders) name distinct (own_name order one name (cc) first) (has_fork orders j two name there second))
one_line (order ∷ orders) (suc i) zero one two name distinct at there first second =
    absurd (not_both (forked_name order.command) (forked_names orders) name distinct (own_name order two name (cc) second) (has_fork orders i one name at first))
one_line (order ∷ orders) (suc i) (suc j) one two name distinct at there first second =
    ap suc (one_line orders i j one two name (distinct_second (forked_name order.command) (forked_names orders) distinct) at there first second)
