-- One line more of the blocks, and names among others.
use Rattle.std.proofs.Common.{◌≡◌, ℕ, ◌+◌, ◌<◌, Bool, true, false, ◌||◌, nat_le, List, [], ◌∷◌, ◌++◌, length, Option, Some, None, Ok, Err, refl, sym, ◌∙◌, ap, subst, arith, length-append}
use Rattle.std.specs.Prelude.{if◌then◌else◌}
use Rattle.std.proofs.lemmas.Bool.{lt-leb, or_from, false_from_ne_true}
use Rattle.std.proofs.lemmas.List.{append_assoc, append-nil, map-append, length-map}
use Rattle.std.proofs.lemmas.List.Concat.{flat_map-append}
use Rattle.std.proofs.lemmas.Slice.Eq.{bytes_eq-Decides}
use Rattle.std.specs.List.{AllByRecursion, flat_map, list_any}
use Rattle.std.specs.Option.{is_some}
use Rattle.std.specs.Str.{bytes_eq}
use Rattle.xs_model.specs.declared.script.BlockKind.{BlockKind}
use Rattle.xs_model.specs.declared.script.Command.{Command}
use Rattle.xs_model.specs.declared.script.Order.{Order}
use Rattle.xs_model.specs.declared.script.Block.{Block}
use Rattle.xs_model.specs.Script.{is_return, AreDistinct, AreNumbered, AreBlocksNumbered, handler_span}
use Rattle.xs_script.specs.declared.block_part.BlockPart.{BlockPart}
use Rattle.xs_script.specs.declared.block_part.BlockPart.TheVariants as places
use Rattle.xs_script.specs.declared.line.Line.{Line}
use Rattle.xs_script.specs.declared.line.Line.TheVariants as lines
use Rattle.xs_script.specs.declared.begun.Tail.{Tail}
use Rattle.xs_script.specs.declared.begun.Tail.TheVariants as tails
use Rattle.xs_script.specs.declared.begun.Begun.{Begun}
use Rattle.xs_script.specs.declared.body.Body.{Body}
use Rattle.xs_script.specs.declared.refusal.Kind.TheVariants.{BadLine, Repeated}
use Rattle.xs_script.specs.Grammar.{order_lines, handler_lines, block_lines}
use Rattle.xs_script.specs.LineOrder.{AtBlock, InBlock, takes_sched, order_fault, part_after, may_handle, may_close, may_end, next}
use Rattle.xs_script.specs.Refusal.{Early, table_fault, Fails, Here}
use Rattle.xs_script.specs.Body.{names_of, tail_part, tail_orders, tail_lines, tail_with, body_with, IsPushed, block_of_begun, begun_stand, body_stand, TakesLine}
use Rattle.xs_script.proofs.BlockParts.{all_parts, length_orders, length_block}

-- ---- lists

-- what holds of one more
pub all_push : {A : Type 0} (P : A → Type 0) (xs : List A) (x : A) → AllByRecursion P xs → P x → AllByRecursion P (xs ++ x ∷ [])
all_push P [] x h p = (p, tt)
all_push P (y ∷ xs) x h p = (h.0, all_push P xs x h.1 p)

parts_or : (a b : Bool) → (a || b) ≡ false → (a ≡ false) × (b ≡ false)
parts_or true b h = cc h
parts_or false b h = (refl, h)

-- a name among the blocks is one of their names
pub any_name : (name : List ℕ) (blocks : List Block) → list_any (λ other. bytes_eq other name) (names_of blocks) ≡ list_any (λ (block : Block). bytes_eq block.name name) blocks
any_name name [] = refl
any_name name (b ∷ blocks) = ap (λ (r : Bool). bytes_eq b.name name || r) (any_name name blocks)

-- one more distinct name
pub distinct_push : (names : List (List ℕ)) (name : List ℕ) → AreDistinct names → list_any (λ other. bytes_eq other name) names ≡ false → AreDistinct (names ++ name ∷ [])
distinct_push [] name h none = (tt, tt)
distinct_push (n ∷ names) name h none =
    let parts = parts_or (bytes_eq n name) (list_any (λ other. bytes_eq other name) names) none in
    (all_push (λ other. other ≡ n → ⊥) names name h.0 (λ e. let t = (bytes_eq-Decides n name).1 (sym e) in cc (sym t ∙ parts.0)), distinct_push names name h.1 parts.1)

-- and a name after others is another
pub another : (names rest : List (List ℕ)) (name : List ℕ) → AreDistinct (names ++ name ∷ rest) → list_any (λ other. bytes_eq other name) names ≡ false
another [] rest name h = refl
another (n ∷ names) rest name h =
    let here = (all_parts (λ other. other ≡ n → ⊥) names (name ∷ rest) h.0).1 in
    or_from (bytes_eq n name) (list_any (λ other. bytes_eq other name) names) (false_from_ne_true (bytes_eq n name) (λ t. here.0 (sym ((bytes_eq-Decides n name).0 t)))) (another names rest name h.1)

-- the first of distinct names are distinct
pub distinct_front : (names rest : List (List ℕ)) → AreDistinct (names ++ rest) → AreDistinct names
distinct_front [] rest h = tt
distinct_front (n ∷ names) rest h = ((all_parts (λ other. other ≡ n → ⊥) names rest h.0).0, distinct_front names rest h.1)

-- ---- names and numbers

-- the names of blocks and of one more
pub names_push : (blocks : List Block) (b : Block) → names_of (blocks ++ b ∷ []) ≡ names_of blocks ++ b.name ∷ []
names_push blocks b = map-append (λ (block : Block). block.name) blocks (b ∷ [])

numbered_push : (number : ℕ) (orders : List Order) (order : Order) → AreNumbered number orders → order.number ≡ number + length orders → AreNumbered number (orders ++ order ∷ [])
numbered_push number [] order h e = (omega (arith, e), tt)
numbered_push number (o ∷ orders) order h e =
    let next : order.number ≡ number + 1 + length orders = omega (arith, e) in
    (h.0, numbered_push (number + 1) orders order h.1 next)

-- one block more, after the others
numbered_block : (first : ℕ) (blocks : List Block) (b : Block) → AreBlocksNumbered first blocks → AreNumbered (first + length (flat_map block_lines blocks) + 1) b.body → AreNumbered (first + length (flat_map block_lines blocks) + length b.body + 2) b.handler → AreBlocksNumbered first (blocks ++ b ∷ [])
numbered_block first [] b h body handler =
    (subst (λ (n : ℕ). AreNumbered n b.body) (same_body first) body, subst (λ (n : ℕ). AreNumbered n b.handler) (same_handler first (length b.body)) handler, tt)
  where
    same_body : (n : ℕ) → n + 0 + 1 ≡ n + 1
    same_body n = omega arith

    same_handler : (n m : ℕ) → n + 0 + m + 2 ≡ n + m + 2
    same_handler n m = omega arith
numbered_block first (x ∷ blocks) b h body handler =
    let len : length (block_lines x ++ flat_map block_lines blocks) ≡ length (block_lines x) + length (flat_map block_lines blocks) = length-append (block_lines x) (flat_map block_lines blocks) in
    let span = length_block x in
    let next = first + length x.body + handler_span x.handler + 2 in
    let at : first + length (block_lines x ++ flat_map block_lines blocks) + 1 ≡ next + length (flat_map block_lines blocks) + 1 = omega (arith, len, span) in
    let past : first + length (block_lines x ++ flat_map block_lines blocks) + length b.body + 2 ≡ next + length (flat_map block_lines blocks) + length b.body + 2 = omega (arith, len, span) in
    (h.0, h.1, numbered_block next blocks b h.2 (subst (λ (n : ℕ). AreNumbered n b.body) at body) (subst (λ (n : ℕ). AreNumbered n b.handler) past handler))

-- ---- one line more

-- the lines of one order more
orders_push : (orders : List Order) (order : Order) → order_lines (orders ++ order ∷ []) ≡ order_lines orders ++ lines.Order order.command ∷ []
orders_push orders order = map-append (λ (o : Order). lines.Order o.command) orders (order ∷ [])

-- a handler with one order more has its first line
handler_push : (orders : List Order) (order : Order) → handler_lines (orders ++ order ∷ []) ≡ lines.Handler ∷ order_lines (orders ++ order ∷ [])
handler_push [] order = refl
handler_push (o ∷ orders) order = refl

-- what holds of the handler with one order more
with_part : (t : Bool) (orders : List Order) → tail_part (if t then tails.Returned orders else tails.Handler orders) ≡ (if t then places.Returned else places.Handler)
with_part true orders = refl
with_part false orders = refl

with_lines : (t : Bool) (orders : List Order) (order : Order) → tail_lines (if t then tails.Returned (orders ++ order ∷ []) else tails.Handler (orders ++ order ∷ [])) ≡ lines.Handler ∷ order_lines (orders ++ order ∷ [])
with_lines true orders order = handler_push orders order
with_lines false orders order = refl

with_orders : (t : Bool) (orders : List Order) → tail_orders (if t then tails.Returned orders else tails.Handler orders) ≡ orders
with_orders true orders = refl
with_orders false orders = refl

-- what is refused after the return
returned_fault : (kind : BlockKind) (command : Command) → order_fault places.Returned kind command ≡ None → ⊥
returned_fault kind command h = cc h

-- the part of the block after one order more
pushed_part : (tail : Tail) (kind : BlockKind) (order : Order) → order_fault (tail_part tail) kind order.command ≡ None → tail_part (tail_with tail order) ≡ part_after (tail_part tail) order.command
pushed_part tails.Body kind order h = refl
pushed_part (tails.Handler orders) kind order h = with_part (is_return order.command) (orders ++ order ∷ [])
pushed_part (tails.Returned orders) kind order h = refl

-- its lines
pushed_lines : (body : List Order) (tail : Tail) (kind : BlockKind) (order : Order) → order_fault (tail_part tail) kind order.command ≡ None → order_lines (body_with body tail order) ++ tail_lines (tail_with tail order) ≡ (order_lines body ++ tail_lines tail) ++ lines.Order order.command ∷ []
pushed_lines body tails.Body kind order h =
    append-nil (order_lines (body ++ order ∷ [])) ∙ orders_push body order ∙ ap (λ (ls : List Line). ls ++ lines.Order order.command ∷ []) (sym (append-nil (order_lines body)))
pushed_lines body (tails.Handler orders) kind order h =
    ap (λ (ls : List Line). order_lines body ++ ls) (with_lines (is_return order.command) orders order ∙ ap (λ (ls : List Line). lines.Handler ∷ ls) (orders_push orders order))
    ∙ sym (append_assoc (order_lines body) (lines.Handler ∷ order_lines orders) (lines.Order order.command ∷ []))
pushed_lines body (tails.Returned orders) kind order h = absurd (returned_fault kind order.command h)

-- and its numbers
pushed_numbers : (first : ℕ) (body : List Order) (tail : Tail) (kind : BlockKind) (order : Order) → order_fault (tail_part tail) kind order.command ≡ None → order.number ≡ first + 1 + length (order_lines body ++ tail_lines tail) → AreNumbered (first + 1) body → AreNumbered (first + length body + 2) (tail_orders tail) → AreNumbered (first + 1) (body_with body tail order) × AreNumbered (first + length (body_with body tail order) + 2) (tail_orders (tail_with tail order))
pushed_numbers first body tails.Body kind order h at nb nt =
    let long = length_orders body in
    let bare : length (order_lines body ++ []) ≡ length (order_lines body) + 0 = length-append (order_lines body) [] in
    (numbered_push (first + 1) body order nb (omega (arith, at, long, bare)), tt)
pushed_numbers first body (tails.Handler orders) kind order h at nb nt =
    let long = length_orders body in
    let more = length_orders orders in
    let both : length (order_lines body ++ lines.Handler ∷ order_lines orders) ≡ length (order_lines body) + length (lines.Handler ∷ order_lines orders) = length-append (order_lines body) (lines.Handler ∷ order_lines orders) in
    let numbered = numbered_push (first + length body + 2) orders order nt (omega (arith, at, long, more, both)) in
    (nb, subst (λ (os : List Order). AreNumbered (first + length body + 2) os) (sym (with_orders (is_return order.command) (orders ++ order ∷ []))) numbered)
pushed_numbers first body (tails.Returned orders) kind order h at nb nt = absurd (returned_fault kind order.command h)

-- one line more of the block that has begun
begun_came : (front : List Line) (first : Line) (ls : List Line) (l : Line) → front ++ first ∷ (ls ++ l ∷ []) ≡ (front ++ first ∷ ls) ++ l ∷ []
begun_came front first ls l = sym (append_assoc front (first ∷ ls) (l ∷ []))

begun_long : (front : List Line) (first : Line) (ls : List Line) → length (front ++ first ∷ ls) ≡ length front + 1 + length ls
begun_long front first ls = let both : length (front ++ first ∷ ls) ≡ length front + length (first ∷ ls) = length-append front (first ∷ ls) in omega (arith, both)

-- an order, where a block has begun
pub order_taken : (number : ℕ) (body after : Body) (b c : Begun) (order : Order) → body.begun ≡ Some b → after.begun ≡ Some c → after.blocks ≡ body.blocks → order.number ≡ number → order_fault (tail_part b.tail) b.kind order.command ≡ None → IsPushed b order c → TakesLine number body (lines.Order order.command) after
order_taken number body after b c order was is same at fits pushed =
    let front = flat_map block_lines body.blocks in
    let names = names_of body.blocks ++ b.name ∷ [] in
    let lined = begun_long front (lines.Begin b.kind b.name) (order_lines b.body ++ tail_lines b.tail) in
    let part = pushed_part b.tail b.kind order fits in
    rw (was, is, same, pushed.kind, pushed.name, pushed.body, pushed.tail) record {
      leads = rw fits (ap (λ (p : BlockPart). Ok (InBlock p b.kind names)) (sym part));
      came =
          ap (λ (ls : List Line). front ++ lines.Begin b.kind b.name ∷ ls) (pushed_lines b.body b.tail b.kind order fits)
          ∙ begun_came front (lines.Begin b.kind b.name) (order_lines b.body ++ tail_lines b.tail) (lines.Order order.command);
      own = pushed.own;
      numbered = λ first here h. record {
        whole = h.whole;
        begun = pushed_numbers (first + length front) b.body b.tail b.kind order fits (omega (arith, at, here, lined)) h.begun.0 h.begun.1;
      };
    }

-- the first line of a block, where none has begun
pub begin_taken : (number : ℕ) (body after : Body) (b : Begun) → body.begun ≡ None → after.begun ≡ Some b → after.blocks ≡ body.blocks → b.body ≡ [] → b.tail ≡ tails.Body → b.own ≡ [] → length body.blocks < 64 → list_any (λ (block : Block). bytes_eq block.name b.name) body.blocks ≡ false → TakesLine number body (lines.Begin b.kind b.name) after
begin_taken number body after b was is same none tail bare few new =
    let blocks = body.blocks in
    let count : length (names_of blocks) ≡ length blocks = length-map blocks (λ (block : Block). block.name) in
    let fewer : nat_le 64 (length (names_of blocks)) ≡ false = lt-leb _ _ (omega (arith, count)) in
    let other : list_any (λ other. bytes_eq other b.name) (names_of blocks) ≡ false = any_name b.name blocks ∙ new in
    rw (was, is, same, none, tail) record {
      leads = rw (fewer, other) refl;
      came = ap (λ (ls : List Line). ls ++ lines.Begin b.kind b.name ∷ []) (sym (append-nil (flat_map block_lines blocks)));
      own = bare;
      numbered = λ first here h. record { whole = h.whole; begun = (tt, tt) };
    }

-- a handler may begin in a body alone
handles_body : (tail : Tail) (kind : BlockKind) → may_handle (tail_part tail) kind ≡ true → tail ≡ tails.Body
handles_body tails.Body kind h = refl
handles_body (tails.Handler orders) kind h = absurd (cc h)
handles_body (tails.Returned orders) kind h = absurd (cc h)

-- the first line of a handler
pub handler_taken : (number : ℕ) (body after : Body) (b c : Begun) → body.begun ≡ Some b → after.begun ≡ Some c → after.blocks ≡ body.blocks → may_handle (tail_part b.tail) b.kind ≡ true → c.kind ≡ b.kind → c.name ≡ b.name → c.body ≡ b.body → c.tail ≡ tails.Handler [] → c.own ≡ b.own → TakesLine number body lines.Handler after
handler_taken number body after b c was is same may kind name orders tail own =
    let front = flat_map block_lines body.blocks in
    let at = handles_body b.tail b.kind may in
    let here : may_handle places.Body b.kind ≡ true = rw at at may in
    rw (was, is, same, kind, name, orders, tail, at) record {
      leads = rw here refl;
      came =
          ap (λ (ls : List Line). front ++ lines.Begin b.kind b.name ∷ (ls ++ lines.Handler ∷ [])) (sym (append-nil (order_lines b.body)))
          ∙ begun_came front (lines.Begin b.kind b.name) (order_lines b.body ++ []) lines.Handler;
      own = own;
      numbered = λ first here h. record { whole = h.whole; begun = (h.begun.0, tt) };
    }

-- what closes a block adds to its lines
closed_lines : (tail : Tail) → may_close (tail_part tail) ≡ true → tail_lines tail ≡ handler_lines (tail_orders tail)
closed_lines tails.Body h = refl
closed_lines (tails.Handler orders) h = absurd (cc h)
closed_lines (tails.Returned orders) h = refl

-- the last line of a block
pub close_taken : (number : ℕ) (body after : Body) (b : Begun) (block : Block) → body.begun ≡ Some b → after.begun ≡ None → after.blocks ≡ body.blocks ++ block ∷ [] → may_close (tail_part b.tail) ≡ true → block ≡ block_of_begun b → TakesLine number body lines.End after
close_taken number body after b block was is pushed may whole =
    let blocks = body.blocks in
    let front = flat_map block_lines blocks in
    let last = block_of_begun b in
    let opened = order_lines b.body ++ tail_lines b.tail in
    let own : block_lines last ≡ lines.Begin b.kind b.name ∷ (opened ++ lines.End ∷ []) =
    ap (λ (ls : List Line). lines.Begin b.kind b.name ∷ (order_lines b.body ++ (ls ++ lines.End ∷ []))) (sym (closed_lines b.tail may))
    ∙ ap (λ (ls : List Line). lines.Begin b.kind b.name ∷ ls) (sym (append_assoc (order_lines b.body) (tail_lines b.tail) (lines.End ∷ []))) in
    let all : flat_map block_lines (blocks ++ last ∷ []) ≡ front ++ block_lines last = flat_map-append block_lines blocks (last ∷ []) ∙ ap (λ (ls : List Line). front ++ ls) (append-nil (block_lines last)) in
    rw (was, is, pushed, whole) record {
      leads = rw may (ap (λ (ns : List (List ℕ)). Ok (AtBlock ns)) (sym (names_push blocks last)));
      came =
          append-nil (flat_map block_lines (blocks ++ last ∷ [])) ∙ all ∙ ap (λ (ls : List Line). front ++ ls) own
          ∙ begun_came front (lines.Begin b.kind b.name) opened lines.End;
      own = refl;
      numbered = λ first here h. record { whole = numbered_block first blocks last h.whole h.begun.0 h.begun.1; begun = tt };
    }

-- a block of an earlier name
pub begin_repeats : (body : Body) (kind : BlockKind) (name : List ℕ) → body.begun ≡ None → length body.blocks < 64 → list_any (λ (block : Block). bytes_eq block.name name) body.blocks ≡ true → next (body_stand body) (lines.Begin kind name) ≡ Err Repeated
begin_repeats body kind name none few found =
    let blocks = body.blocks in
    let count : length (names_of blocks) ≡ length blocks = length-map blocks (λ (block : Block). block.name) in
    let fewer : nat_le 64 (length (names_of blocks)) ≡ false = lt-leb _ _ (omega (arith, count)) in
    let other : list_any (λ other. bytes_eq other name) (names_of blocks) ≡ true = any_name name blocks ∙ found in
    rw (none, fewer, other) refl

-- ---- refusals

-- among the blocks there is no table to test
pub no_table : (blocks : List Block) (begun : Option Begun) (text : List ℕ) → table_fault (begun_stand blocks begun) text ≡ None
no_table blocks None text = refl
no_table blocks (Some b) text = refl

-- nor may a schedule come
pub no_sched_here : (blocks : List Block) (begun : Option Begun) → takes_sched (begun_stand blocks begun) ≡ false
no_sched_here blocks None = refl
no_sched_here blocks (Some b) = refl

-- A text may not end there.
pub ends_early : (number : ℕ) (body : Body) → may_end (body_stand body) ≡ false → Fails (body_stand body) number [] number BadLine
ends_early number body h = Here BadLine (no_table body.blocks body.begun []) (Early refl h)

-- a block that has begun isn't over
pub begun_early : (blocks : List Block) (begun : Option Begun) → is_some begun ≡ true → may_end (begun_stand blocks begun) ≡ false
begun_early blocks None h = cc h
begun_early blocks (Some b) h = refl

-- there is a block at least
pub none_early : (blocks : List Block) (begun : Option Begun) → is_some begun ≡ false → blocks ≡ [] → may_end (begun_stand blocks begun) ≡ false
none_early blocks None h none = rw none refl
none_early blocks (Some b) h none = cc h

-- what a test for a block that has begun tells
pub none_begun : (begun : Option Begun) → is_some begun ≡ false → begun ≡ None
none_begun None h = refl
none_begun (Some b) h = cc h
