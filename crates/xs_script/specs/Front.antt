-- What a reader has read of a text so far, and what it keeps of it.
use Rattle.std.specs.Prelude.{◌≡◌, ℕ, ◌+◌, List, ◌∷◌, ◌++◌, length, Result, Err}
use Rattle.xs_script.specs.declared.line.Line.{Line}
use Rattle.xs_script.specs.declared.refusal.Kind.{Kind}
use Rattle.xs_script.specs.declared.refusal.ScriptError.{ScriptError}
use Rattle.xs_script.specs.declared.refusal.ScriptError.TheVariants as errors
use Rattle.xs_script.specs.ScriptLine.{IsLine, line_text, kept_line}
use Rattle.xs_script.specs.Grammar.{lines_text}
use Rattle.xs_script.specs.LineOrder.{Stand, Leads}
use Rattle.xs_script.specs.Refusal.{AreLines, Fails}

-- The text begins with these lines, which lead from one stand to another, and the rest comes after them.
pub record IsFront (from : Stand) (text : List ℕ) (ls : List Line) (to : Stand) (rest : List ℕ) : Type 0 where
  pub lines_fit : AreLines ls
  pub parts : text ≡ lines_text ls ++ rest
  pub leads : Leads from ls to

-- What a text is refused with by its lines, where line `first` is its first and a reader stands so before it.
pub record RefusesFrom (from : Stand) (first : ℕ) (text : List ℕ) (number : ℕ) (kind : Kind) : Type 0 where
  pub done : List Line
  pub rest : List ℕ
  pub stand : Stand
  pub front : IsFront from text done stand rest
  pub fails : Fails stand (first + length done) rest number kind

abbrev pub ExplainsFrom : Stand → ℕ → List ℕ → ScriptError → Type 0
ExplainsFrom from first text (errors.Refused line kind) = RefusesFrom from first text line kind
ExplainsFrom from first text errors.Memory = Unit {0}

-- The text has a first line. This is kept of it, and the rest comes after its line feed.
pub record IsNext (text : List ℕ) (kept : Line) (rest : List ℕ) : Type 0 where
  pub line : Line
  pub fits : IsLine line
  pub spelled : text ≡ line_text line ++ 10 ∷ rest
  pub kept_is : kept ≡ kept_line line

-- What the text's first line, which is line `number`, is refused with.
abbrev pub ExplainsLine : Stand → ℕ → List ℕ → ScriptError → Type 0
ExplainsLine stand number text (errors.Refused line kind) = Fails stand number text line kind
ExplainsLine stand number text errors.Memory = Unit {0}

-- what line `number` is refused with, where a line leads to this
abbrev pub ExplainsNext : Result Stand Kind → ℕ → ScriptError → Type 0
ExplainsNext to number (errors.Refused line kind) = (line ≡ number) × (to ≡ Err kind)
ExplainsNext to number errors.Memory = Unit {0}
