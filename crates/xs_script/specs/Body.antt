-- What a reader keeps of the blocks, and what its second pass finds in them.
use Rattle.std.specs.Prelude.{◌≡◌, ◌⊎◌, ℕ, ◌+◌, ◌<◌, Bool, true, false, List, [], ◌∷◌, ◌++◌, length, map, Option, Some, None, Ok, Err, if◌then◌else◌}
use Rattle.std.specs.List.{flat_map}
use Rattle.xs_model.specs.declared.script.Order.{Order}
use Rattle.xs_model.specs.declared.script.Block.{Block}
use Rattle.xs_model.specs.declared.script.Command.{Command}
use Rattle.xs_model.specs.Names.{forked_name}
use Rattle.xs_model.specs.Script.{is_return, AreNumbered, AreBlocksNumbered}
use Rattle.xs_script.specs.declared.block_part.BlockPart.{BlockPart}
use Rattle.xs_script.specs.declared.block_part.BlockPart.TheVariants as parts
use Rattle.xs_script.specs.declared.line.Line.{Line}
use Rattle.xs_script.specs.declared.line.Line.TheVariants as lines
use Rattle.xs_script.specs.declared.begun.Tail.{Tail}
use Rattle.xs_script.specs.declared.begun.Tail.TheVariants as tails
use Rattle.xs_script.specs.declared.begun.Begun.{Begun}
use Rattle.xs_script.specs.declared.body.Body.{Body}
use Rattle.xs_script.specs.declared.commands.Scope.{Scope}
use Rattle.xs_script.specs.declared.own_child.OwnChild.{OwnChild}
use Rattle.xs_script.specs.declared.refusal.Kind.{Kind}
use Rattle.xs_script.specs.declared.refusal.ScriptError.{ScriptError}
use Rattle.xs_script.specs.declared.refusal.ScriptError.TheVariants as errors
use Rattle.xs_script.specs.ScriptLine.{IsLine, line_text, kept_line}
use Rattle.xs_script.specs.Grammar.{order_lines, handler_lines, block_lines}
use Rattle.xs_script.specs.LineOrder.{Stand, AtBlock, InBlock, may_end, next}
use Rattle.xs_script.specs.Before.{Before, forks_of, earlier_after, forks_child, awaits_child, before_of}
use Rattle.xs_script.specs.Refusal.{Fails, CommandFails, children_of, handled_of, AreKnown}
use Rattle.xs_script.specs.Front.{IsFront, RefusesFrom}
use Rattle.xs_script.specs.Commands.{is_own, is_own_awaited, own_after, known_before, PassesCommand}

abbrev pub names_of : List Block → List (List ℕ)
names_of blocks = map (λ (block : Block). block.name) blocks

-- the part of the block in which a reader stands
abbrev pub tail_part : Tail → BlockPart
tail_part tails.Body = parts.Body
tail_part (tails.Handler orders) = parts.Handler
tail_part (tails.Returned orders) = parts.Returned

-- in a handler, to its end
abbrev pub tail_inside : Tail → Bool
tail_inside tails.Body = false
tail_inside (tails.Handler orders) = true
tail_inside (tails.Returned orders) = true

-- the orders of the handler so far
abbrev pub tail_orders : Tail → List Order
tail_orders tails.Body = []
tail_orders (tails.Handler orders) = orders
tail_orders (tails.Returned orders) = orders

-- the lines from the one that begins the handler on
abbrev pub tail_lines : Tail → List Line
tail_lines tails.Body = []
tail_lines (tails.Handler orders) = lines.Handler ∷ order_lines orders
tail_lines (tails.Returned orders) = handler_lines orders

-- the handler with one order more, which ends it where it is the return
abbrev pub handler_with : List Order → Order → Tail
handler_with orders order = if is_return order.command then tails.Returned (orders ++ order ∷ []) else tails.Handler (orders ++ order ∷ [])

-- One order more, in the body or in the handler.
abbrev pub tail_with : Tail → Order → Tail
tail_with tails.Body order = tails.Body
tail_with (tails.Handler orders) order = handler_with orders order
tail_with (tails.Returned orders) order = tails.Returned orders

abbrev pub body_with : List Order → Tail → Order → List Order
body_with orders tails.Body order = orders ++ order ∷ []
body_with orders (tails.Handler handler) order = orders
body_with orders (tails.Returned handler) order = orders

pub record IsPushed (begun : Begun) (order : Order) (after : Begun) : Type 0 where
  pub kind : after.kind ≡ begun.kind
  pub name : after.name ≡ begun.name
  pub body : after.body ≡ body_with begun.body begun.tail order
  pub tail : after.tail ≡ tail_with begun.tail order
  pub own : after.own ≡ own_after begun.own order.command

-- the whole block
abbrev pub block_of_begun : Begun → Block
block_of_begun begun = record { kind = begun.kind; name = begun.name; body = begun.body; handler = tail_orders begun.tail }

-- where a reader stands with it
abbrev pub begun_stand : List Block → Option Begun → Stand
begun_stand blocks None = AtBlock (names_of blocks)
begun_stand blocks (Some begun) = InBlock (tail_part begun.tail) begun.kind (names_of blocks ++ begun.name ∷ [])

abbrev pub body_stand : Body → Stand
body_stand body = begun_stand body.blocks body.begun

abbrev pub begun_inside : Option Begun → Bool
begun_inside None = false
begun_inside (Some begun) = tail_inside begun.tail

-- the children that it forks
abbrev pub begun_own : Option Begun → List OwnChild
begun_own None = []
begun_own (Some begun) = begun.own

-- those of the body in which a line leaves a reader
abbrev pub own_with : List OwnChild → Line → List OwnChild
own_with own (lines.Begin kind name) = []
own_with own (lines.Order command) = own_after own command
own_with own lines.End = []
own_with own other = own

-- what is known before the next command
abbrev pub body_before : Body → Before
body_before body = known_before (begun_inside body.begun) body.forked (begun_own body.begun)

-- the lines that came
abbrev pub begun_lines : Option Begun → List Line
begun_lines None = []
begun_lines (Some begun) = lines.Begin begun.kind begun.name ∷ (order_lines begun.body ++ tail_lines begun.tail)

abbrev pub lines_of_body : Body → List Line
lines_of_body body = flat_map block_lines body.blocks ++ begun_lines body.begun

-- The orders of a block that has begun have the numbers of their lines, where line `first` is its first.
abbrev pub IsBegunNumbered : ℕ → Option Begun → Type 0
IsBegunNumbered first None = Unit {0}
IsBegunNumbered first (Some begun) = AreNumbered (first + 1) begun.body × AreNumbered (first + length begun.body + 2) (tail_orders begun.tail)

-- So have all orders, where line `first` is the first of all.
pub record IsNumbered (first : ℕ) (body : Body) : Type 0 where
  pub whole : AreBlocksNumbered first body.blocks
  pub begun : IsBegunNumbered (first + length (flat_map block_lines body.blocks)) body.begun

-- It takes one line more, which is line `number`.
pub record TakesLine (number : ℕ) (body : Body) (line : Line) (after : Body) : Type 0 where
  pub leads : next (body_stand body) line ≡ Ok (body_stand after)
  pub came : lines_of_body after ≡ lines_of_body body ++ line ∷ []
  pub own : begun_own after.begun ≡ own_with (begun_own body.begun) line
  pub numbered : (first : ℕ) → number ≡ first + length (lines_of_body body) → IsNumbered first body → IsNumbered first after

-- Nothing is wrong with what a line names, by what the lines before it tell and by the children that are forked after it.
abbrev pub PassesLine : Scope → Before → Line → List (List ℕ) → Type 0
PassesLine scope before (lines.Order command) after = PassesCommand scope before command × (after ≡ before.forked ++ forked_name command)
PassesLine scope before line after = after ≡ before.forked

-- It takes a line with which nothing is wrong, which is line `number`.
pub record Adds (scope : Scope) (number : ℕ) (body : Body) (line : Line) (after : Body) : Type 0 where
  pub taken : TakesLine number body line after
  pub passes : PassesLine scope (body_before body) line after.forked

-- It takes what is kept of the text's first line, and the rest comes after that line.
pub record ReadsLine (scope : Scope) (number : ℕ) (body : Body) (text : List ℕ) (after : Body) (rest : List ℕ) : Type 0 where
  pub line : Line
  pub fits : IsLine line
  pub spelled : text ≡ line_text line ++ 10 ∷ rest
  pub adds : Adds scope number body (kept_line line) after

-- ---- refusals

-- what a line is refused with by what it names
abbrev pub LineNames : Scope → Before → Line → Kind → Type 0
LineNames scope before (lines.Order command) kind = CommandFails scope before command kind
LineNames scope before line kind = ⊥

-- what line `number` is refused with: by its place, or by what it names
abbrev pub ExplainsAdded : Scope → Body → ℕ → Line → ScriptError → Type 0
ExplainsAdded scope body number line (errors.Refused at kind) = (at ≡ number) × ((next (body_stand body) line ≡ Err kind) ⊎ LineNames scope (body_before body) line kind)
ExplainsAdded scope body number line errors.Memory = Unit {0}

-- The text's first line is a command that fails.
pub record FailsHere (scope : Scope) (before : Before) (text : List ℕ) (kind : Kind) : Type 0 where
  pub command : Command
  pub rest : List ℕ
  pub fits : IsLine (lines.Order command)
  pub spelled : text ≡ line_text (lines.Order command) ++ 10 ∷ rest
  pub fails : CommandFails scope before command kind

-- what the text's first line, which is line `number`, is refused with
abbrev pub ExplainsBody : Scope → Body → ℕ → List ℕ → ScriptError → Type 0
ExplainsBody scope body number text (errors.Refused at kind) = Fails (body_stand body) number text at kind ⊎ ((at ≡ number) × FailsHere scope (body_before body) text kind)
ExplainsBody scope body number text errors.Memory = Unit {0}

-- Nothing is wrong with what the lines before a command name, and it fails. Line `first` is the first of them.
pub record FirstFault (scope : Scope) (first : ℕ) (ls : List Line) (number : ℕ) (kind : Kind) : Type 0 where
  pub done : List Line
  pub command : Command
  pub later : List Line
  pub split : ls ≡ done ++ lines.Order command ∷ later
  pub known : AreKnown scope done
  pub fails : CommandFails scope (before_of done) command kind
  pub number_is : number ≡ first + length done

-- What blocks are refused with: by a line, or else by the first command that fails.
pub data RefusesBlocks (scope : Scope) (first : ℕ) (text : List ℕ) (number : ℕ) (kind : Kind) : Type 0 where
  ByBlockLine : RefusesFrom (AtBlock []) first text number kind → RefusesBlocks scope first text number kind
  ByBlockCommand : (ls : List Line) (stand : Stand) → IsFront (AtBlock []) text ls stand [] → may_end stand ≡ true → scope.children ≡ children_of ls → scope.handled ≡ handled_of ls → FirstFault scope first ls number kind → RefusesBlocks scope first text number kind

abbrev pub ExplainsBlocks : Scope → ℕ → List ℕ → ScriptError → Type 0
ExplainsBlocks scope first text (errors.Refused line kind) = RefusesBlocks scope first text line kind
ExplainsBlocks scope first text errors.Memory = Unit {0}

-- ---- what was read

-- A reader knows of the children of a body what its earlier commands tell, the latest first.
abbrev pub AreOwn : List OwnChild → List Command → Type 0
AreOwn own earlier = (name : List ℕ) → (is_own own name ≡ forks_child earlier name) × (is_own_awaited own name ≡ awaits_child earlier name)

-- What a reader keeps is that of the lines so far, with which nothing is wrong. Line `first` is the first of them, and line
-- `number` the next.
pub record IsReadSoFar (scope : Scope) (first : ℕ) (text : List ℕ) (body : Body) (number : ℕ) (rest : List ℕ) : Type 0 where
  pub numbered : IsNumbered first body
  pub front : IsFront (AtBlock []) text (lines_of_body body) (body_stand body) rest
  pub known : AreKnown scope (lines_of_body body)
  pub forked_is : body.forked ≡ forks_of (lines_of_body body)
  pub own : AreOwn (begun_own body.begun) (earlier_after [] (lines_of_body body))
  pub next : number ≡ first + length (lines_of_body body)

-- The text is the lines of these blocks, of which there is one at least, and nothing is wrong with them.
pub record AreBlocksOf (scope : Scope) (first : ℕ) (text : List ℕ) (blocks : List Block) : Type 0 where
  pub numbered : AreBlocksNumbered first blocks
  pub some : 0 < length blocks
  pub front : IsFront (AtBlock []) text (flat_map block_lines blocks) (AtBlock (names_of blocks)) []
  pub known : AreKnown scope (flat_map block_lines blocks)
