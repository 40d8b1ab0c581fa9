-- What a reader's first pass keeps of the blocks of a text.
use Rattle.std.specs.Prelude.{◌≡◌, ℕ, true, List, [], ◌∷◌, ◌++◌, length, ◌+◌, Option, Some, None, Ok}
use Rattle.xs_script.specs.declared.outline.Opened.{Opened}
use Rattle.xs_script.specs.declared.line.Line.{Line}
use Rattle.xs_script.specs.declared.outline.Outline.{Outline}
use Rattle.xs_script.specs.ScriptLine.{IsLine, line_text, kept_line}
use Rattle.xs_script.specs.LineOrder.{Stand, AtBlock, InBlock, may_end, next}
use Rattle.xs_script.specs.Refusal.{child_of_line, children_of, last_name, last_name_of, handled_name, handled_of}
use Rattle.xs_script.specs.Front.{IsFront}

-- where a reader stands with the names of the blocks, in a block or between two
abbrev pub block_stand : Option Opened → List (List ℕ) → Stand
block_stand (Some opened) names = InBlock opened.part opened.kind names
block_stand None names = AtBlock names

abbrev pub outline_stand : Outline → Stand
outline_stand outline = block_stand outline.begun outline.names

-- The names are those of before.
pub record HasSameNames (outline after : Outline) : Type 0 where
  pub children : after.children ≡ outline.children
  pub handled : after.handled ≡ outline.handled
  pub last : after.last ≡ outline.last

-- It takes one line more.
pub record Looks (outline : Outline) (line : Line) (after : Outline) : Type 0 where
  pub leads : next (outline_stand outline) line ≡ Ok (outline_stand after)
  pub children : after.children ≡ outline.children ++ child_of_line line
  pub handled : after.handled ≡ outline.handled ++ handled_name outline.last line
  pub last : after.last ≡ last_name outline.last line

-- It takes what is kept of the text's first line, and the rest comes after that line.
pub record LooksOn (outline : Outline) (text : List ℕ) (after : Outline) (rest : List ℕ) : Type 0 where
  pub line : Line
  pub fits : IsLine line
  pub spelled : text ≡ line_text line ++ 10 ∷ rest
  pub taken : Looks outline (kept_line line) after

-- What the outline has is that of the lines so far, of which line `first` is the first and line `number` the next.
pub record IsLooked (first : ℕ) (text : List ℕ) (outline : Outline) (number : ℕ) (rest : List ℕ) : Type 0 where
  pub lines : List Line
  pub front : IsFront (AtBlock []) text lines (outline_stand outline) rest
  pub children : outline.children ≡ children_of lines
  pub handled : outline.handled ≡ handled_of lines
  pub last : outline.last ≡ last_name_of [] lines
  pub number_is : number ≡ first + length lines

-- The text is whole blocks, and these are the names of the child blocks among them and of those with a handler.
pub record AreWholeBlocks (text : List ℕ) (children handled : List (List ℕ)) : Type 0 where
  pub lines : List Line
  pub stand : Stand
  pub front : IsFront (AtBlock []) text lines stand []
  pub ends : may_end stand ≡ true
  pub children_are : children ≡ children_of lines
  pub handled_are : handled ≡ handled_of lines
