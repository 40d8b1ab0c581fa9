-- The first line of a text and its first word, where it is a line.
use Rattle.std.proofs.Common.{◌≡◌, ℕ, Bool, true, false, List, ◌∷◌, ◌++◌, codes, refl, ◌∙◌, ap}
use Rattle.std.specs.Prelude.{bytes_eq}
use Rattle.xs_model.specs.declared.script.BlockKind.TheVariants as blocks
use Rattle.xs_model.specs.declared.script.Command.TheVariants as commands
use Rattle.xs_script.specs.declared.line.Line.{Line}
use Rattle.xs_script.specs.declared.line.Line.TheVariants as lines
use Rattle.xs_script.specs.ScriptLine.{line_text, IsLine}
use Rattle.xs_script.specs.Refusal.{first_line, first_word, before}
use Rattle.xs_script.proofs.Cuts.{before_cut}
use Rattle.xs_script.proofs.Spellings.{Lacks_line}

-- the line is a row
abbrev pub is_row_line : Line → Bool
is_row_line lines.Version = false
is_row_line (lines.Machine named) = false
is_row_line (lines.Row r) = true
is_row_line (lines.Cpus n) = false
is_row_line (lines.Quantum n) = false
is_row_line (lines.Large n) = false
is_row_line (lines.Sched entries) = false
is_row_line (lines.Begin kind name) = false
is_row_line (lines.Order command) = false
is_row_line (lines.NoSignal name number) = false
is_row_line lines.Handler = false
is_row_line lines.End = false

-- the first line of a text that begins with a line is that line
pub first_line_is : (l : Line) (text rest : List ℕ) → IsLine l → text ≡ line_text l ++ 10 ∷ rest → first_line text ≡ line_text l
first_line_is l text rest fits e = ap first_line e ∙ before_cut 10 (line_text l) rest (Lacks_line l fits)

-- a row's first word
row_word : (l : Line) → bytes_eq (before 32 (line_text l)) (codes "row") ≡ is_row_line l
row_word lines.Version = refl
row_word (lines.Machine named) = refl
row_word (lines.Row r) = refl
row_word (lines.Cpus n) = refl
row_word (lines.Quantum n) = refl
row_word (lines.Large n) = refl
row_word (lines.Sched entries) = refl
row_word (lines.Begin blocks.Task name) = refl
row_word (lines.Begin blocks.Child name) = refl
row_word (lines.Begin blocks.Kthread name) = refl
row_word (lines.Order (commands.Set reg bytes)) = refl
row_word (lines.Order (commands.Get reg)) = refl
row_word (lines.Order (commands.Ksec byte)) = refl
row_word (lines.Order commands.Yield) = refl
row_word (lines.Order (commands.Fork name)) = refl
row_word (lines.Order (commands.Peek at len)) = refl
row_word (lines.Order (commands.Poke at bytes)) = refl
row_word (lines.Order commands.Sigreturn) = refl
row_word (lines.Order (commands.Kill name signo)) = refl
row_word (lines.Order (commands.Bpeek at len)) = refl
row_word (lines.Order (commands.Bpoke at bytes)) = refl
row_word (lines.Order commands.Stop) = refl
row_word (lines.Order (commands.Wait name)) = refl
row_word (lines.Order (commands.Getregs name set)) = refl
row_word (lines.Order (commands.Setregs name set count)) = refl
row_word (lines.Order (commands.Cont name)) = refl
row_word (lines.Order commands.Tilerelease) = refl
row_word (lines.Order (commands.Perm feature)) = refl
row_word (lines.NoSignal name number) = refl
row_word lines.Handler = refl
row_word lines.End = refl

-- a row begins with the word, and no other line does
pub row_begins : (l : Line) (text rest : List ℕ) → IsLine l → text ≡ line_text l ++ 10 ∷ rest → bytes_eq (first_word text) (codes "row") ≡ is_row_line l
row_begins l text rest fits e = ap (λ (line : List ℕ). bytes_eq (before 32 line) (codes "row")) (first_line_is l text rest fits e) ∙ row_word l
