-- The lines of one block before other lines: its first one, those of its body, those of its handler, and its last one.
use Rattle.std.proofs.Common.{◌≡◌, ◌+◌, List, [], ◌∷◌, ◌++◌, length, refl, ◌∙◌, ap, subst, arith, length-append}
use Rattle.std.specs.List.{AllByRecursion}
use Rattle.std.proofs.lemmas.List.{append_assoc, length-map}
use Rattle.xs_model.specs.declared.script.Order.{Order}
use Rattle.xs_model.specs.declared.script.Block.{Block}
use Rattle.xs_model.specs.Script.{handler_span}
use Rattle.xs_script.specs.declared.line.Line.{Line}
use Rattle.xs_script.specs.declared.line.Line.TheVariants as lines
use Rattle.xs_script.specs.Grammar.{order_lines, handler_lines, block_lines}

-- what holds of the elements of two lists
pub all_join : {A : Type 0} (P : A → Type 0) (xs ys : List A) → AllByRecursion P xs → AllByRecursion P ys → AllByRecursion P (xs ++ ys)
all_join P [] ys h g = g
all_join P (x ∷ xs) ys h g = (h.0, all_join P xs ys h.1 g)

-- what holds of two parts
pub all_parts : {A : Type 0} (P : A → Type 0) (xs ys : List A) → AllByRecursion P (xs ++ ys) → AllByRecursion P xs × AllByRecursion P ys
all_parts P [] ys h = (tt, h)
all_parts P (x ∷ xs) ys h = let r = all_parts P xs ys h.1 in ((h.0, r.0), r.1)

-- the lines of a block and others in a row
abbrev pub row_of : Block → List Line → List Line
row_of b rest = lines.Begin b.kind b.name ∷ (order_lines b.body ++ (handler_lines b.handler ++ lines.End ∷ rest))

pub block_row : (b : Block) (rest : List Line) → block_lines b ++ rest ≡ row_of b rest
block_row b rest =
    ap (λ (ls : List Line). lines.Begin b.kind b.name ∷ ls)
    (append_assoc (order_lines b.body) (handler_lines b.handler ++ lines.End ∷ []) rest
    ∙ ap (λ (ls : List Line). order_lines b.body ++ ls) (append_assoc (handler_lines b.handler) (lines.End ∷ []) rest))

-- what holds of the lines of a block
pub record HasLines (P : Line → Type 0) (b : Block) : Type 0 where
  pub begins : P (lines.Begin b.kind b.name)
  pub body : AllByRecursion P (order_lines b.body)
  pub handler : AllByRecursion P (handler_lines b.handler)
  pub ends : P lines.End

pub block_parts : (P : Line → Type 0) (b : Block) (rest : List Line) → AllByRecursion P (block_lines b ++ rest) → HasLines P b × AllByRecursion P rest
block_parts P b rest h =
    let row = subst (AllByRecursion P) (block_row b rest) h in
    let body = all_parts P (order_lines b.body) (handler_lines b.handler ++ lines.End ∷ rest) row.1 in
    let handler = all_parts P (handler_lines b.handler) (lines.End ∷ rest) body.1 in
    (record { begins = row.0; body = body.0; handler = handler.0; ends = handler.1.0 }, handler.1.1)

pub block_join : (P : Line → Type 0) (b : Block) (rest : List Line) → HasLines P b → AllByRecursion P rest → AllByRecursion P (block_lines b ++ rest)
block_join P b rest h more =
    all_join P (block_lines b) rest (h.begins, all_join P (order_lines b.body) (handler_lines b.handler ++ lines.End ∷ []) h.body (all_join P (handler_lines b.handler) (lines.End ∷ []) h.handler (h.ends, tt))) more

-- what holds of the orders of a handler holds of its lines, as of the line that begins it
pub handler_all : (P : Line → Type 0) (orders : List Order) → P lines.Handler → AllByRecursion P (order_lines orders) → AllByRecursion P (handler_lines orders)
handler_all P [] first h = tt
handler_all P (o ∷ orders) first h = (first, h)

pub handler_orders : (P : Line → Type 0) (orders : List Order) → AllByRecursion P (handler_lines orders) → AllByRecursion P (order_lines orders)
handler_orders P [] h = tt
handler_orders P (o ∷ orders) h = h.1

-- ---- how many they are

pub length_orders : (orders : List Order) → length (order_lines orders) ≡ length orders
length_orders orders = length-map orders (λ (order : Order). lines.Order order.command)

pub length_handler : (orders : List Order) → length (handler_lines orders) ≡ handler_span orders
length_handler [] = refl
length_handler (o ∷ orders) = let more = length_orders orders in omega (arith, more)

pub length_block : (b : Block) → length (block_lines b) ≡ length b.body + handler_span b.handler + 2
length_block b =
    let body = length_orders b.body in
    let handler = length_handler b.handler in
    let tail : length (handler_lines b.handler ++ lines.End ∷ []) ≡ length (handler_lines b.handler) + 1 = length-append (handler_lines b.handler) (lines.End ∷ []) in
    let all : length (order_lines b.body ++ (handler_lines b.handler ++ lines.End ∷ [])) ≡ length (order_lines b.body) + length (handler_lines b.handler ++ lines.End ∷ []) = length-append (order_lines b.body) (handler_lines b.handler ++ lines.End ∷ []) in
    omega (arith, body, handler, tail, all)
