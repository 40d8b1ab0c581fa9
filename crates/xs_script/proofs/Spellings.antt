-- One spelling for each line, and a line has no line feed in it.
use Rattle.std.proofs.Common.{◌≡◌, ℕ, ◌+◌, ◌*◌, true, List, [], ◌∷◌, ◌++◌, refl, sym, ◌∙◌, ap, subst, arith, codes, decimal}
use Rattle.std.specs.Prelude.{if◌then◌else◌}
use Rattle.std.proofs.lemmas.List.{append_cancel_left}
use Rattle.xs_base.specs.declared.component.Row.{Row}
use Rattle.xs_base.specs.declared.words.Signo.{Signo}
use Rattle.xs_base.specs.Layout.{row}
use Rattle.xs_model.specs.declared.script.Named.{Named}
use Rattle.xs_model.specs.declared.script.Named.TheVariants as machines
use Rattle.xs_model.specs.declared.script.BlockKind.{BlockKind}
use Rattle.xs_model.specs.declared.script.BlockKind.TheVariants as blocks
use Rattle.xs_model.specs.declared.script.Command.TheVariants as commands
use Rattle.xs_model.specs.Script.{is_name}
use Rattle.xs_script.specs.declared.line.Line.{Line}
use Rattle.xs_script.specs.declared.line.Line.TheVariants as lines
use Rattle.xs_script.specs.ScriptLine.{line_text, IsLine, IsNumber, IsSignal, row_text, kill_text, machine_name, block_word, entries_text}
use Rattle.xs_base.specs.Bytes.{Lacks}
use Rattle.xs_base.proofs.Cuts.{one_cut}
use Rattle.xs_script.proofs.Cuts.{Lacks-append, Lacks-name}
use Rattle.xs_script.proofs.Entries.{lacks_feed, one_pair, lacks_entries, one_entries}
use Rattle.xs_script.proofs.CommandSpellings.{lacks_word, lacks_both, lacks_kill, signal_number, lacks_command, begins, command_kind, command_kind_of, one_number, one_kill, one_command}

-- ---- no line has a line feed in it

-- a number's text behind a word
lacks_number : (word : List ℕ) (n : ℕ) → Lacks 10 word → IsNumber n → Lacks 10 (word ++ decimal n)
lacks_number word n w fits = Lacks-append 10 word (decimal n) w (lacks_feed n fits)

lacks_row : (r : Row) → IsLine (lines.Row r) → Lacks 10 (row_text r)
lacks_row r fits =
    lacks_both (decimal r.comp.0) (decimal r.size ++ 32 ∷ (decimal r.offset ++ 32 ∷ decimal r.flags)) (lacks_feed r.comp.0 fits.0)
    (lacks_both (decimal r.size) (decimal r.offset ++ 32 ∷ decimal r.flags) (lacks_feed r.size fits.1)
    (lacks_both (decimal r.offset) (decimal r.flags) (lacks_feed r.offset fits.2) (lacks_feed r.flags fits.3)))

lacks_block_word : (kind : BlockKind) → Lacks 10 (block_word kind)
lacks_block_word blocks.Task = lacks_word (codes "task ") refl
lacks_block_word blocks.Child = lacks_word (codes "child ") refl
lacks_block_word blocks.Kthread = lacks_word (codes "kthread ") refl

-- no line has a line feed in it
pub Lacks_line : (l : Line) → IsLine l → Lacks 10 (line_text l)
Lacks_line lines.Version fits = lacks_word (codes "xstate 1") refl
Lacks_line (lines.Machine machines.Amx) fits = lacks_word (codes "machine amx") refl
Lacks_line (lines.Machine machines.Avx) fits = lacks_word (codes "machine avx") refl
Lacks_line (lines.Machine machines.Rows) fits = lacks_word (codes "machine rows") refl
Lacks_line (lines.Row r) fits = Lacks-append 10 (codes "row ") (row_text r) (lacks_word (codes "row ") refl) (lacks_row r fits)
Lacks_line (lines.Cpus n) fits = lacks_number (codes "cpus ") n (lacks_word (codes "cpus ") refl) fits
Lacks_line (lines.Quantum n) fits = lacks_number (codes "quantum ") n (lacks_word (codes "quantum ") refl) fits
Lacks_line (lines.Large n) fits = lacks_number (codes "large ") n (lacks_word (codes "large ") refl) fits
Lacks_line (lines.Sched entries) fits = Lacks-append 10 (codes "sched") (entries_text entries) (lacks_word (codes "sched") refl) (lacks_entries entries fits.1)
Lacks_line (lines.Begin kind name) fits = Lacks-append 10 (block_word kind) name (lacks_block_word kind) (Lacks-name 10 name refl refl fits)
Lacks_line (lines.Order command) fits = lacks_command command fits
Lacks_line (lines.NoSignal name number) fits = lacks_kill name number fits.0 fits.1
Lacks_line lines.Handler fits = lacks_word (codes "handler") refl
Lacks_line lines.End fits = lacks_word (codes "end") refl

-- ---- lines of one text are of one kind

-- a number for each kind of block
abbrev pub block_kind : BlockKind → ℕ
block_kind blocks.Task = 0
block_kind blocks.Child = 1
block_kind blocks.Kthread = 2

-- a number for each kind of line: odd from 9 on for the first line of a block, even from 10 on for a command, and for the
-- number of no signal that of the command with one
abbrev pub kind : Line → ℕ
kind lines.Version = 0
kind (lines.Machine named) = 1
kind (lines.Row r) = 2
kind (lines.Cpus n) = 3
kind (lines.Quantum n) = 4
kind (lines.Large n) = 5
kind (lines.Sched entries) = 6
kind lines.End = 7
kind lines.Handler = 8
kind (lines.NoSignal name number) = 26
kind (lines.Begin block name) = 9 + 2 * block_kind block
kind (lines.Order command) = 10 + 2 * command_kind command

-- the kind, read from the first word
abbrev pub kind_of : List ℕ → ℕ
kind_of bs =
    if begins (codes "xstate ") bs then 0
    else if begins (codes "machine ") bs then 1
    else if begins (codes "row ") bs then 2
    else if begins (codes "cpus ") bs then 3
    else if begins (codes "quantum ") bs then 4
    else if begins (codes "large ") bs then 5
    else if begins (codes "sched") bs then 6
    else if begins (codes "end") bs then 7
    else if begins (codes "handler") bs then 8
    else if begins (codes "task ") bs then 9
    else if begins (codes "child ") bs then 11
    else if begins (codes "kthread ") bs then 13
    else 10 + 2 * command_kind_of bs

-- a line's first word is that of its kind
pub kind_is : (l : Line) → kind_of (line_text l) ≡ kind l
kind_is lines.Version = refl
kind_is (lines.Machine named) = refl
kind_is (lines.Row r) = refl
kind_is (lines.Cpus n) = refl
kind_is (lines.Quantum n) = refl
kind_is (lines.Large n) = refl
kind_is (lines.Sched entries) = refl
kind_is (lines.Begin blocks.Task name) = refl
kind_is (lines.Begin blocks.Child name) = refl
kind_is (lines.Begin blocks.Kthread name) = refl
kind_is (lines.Order (commands.Set reg bytes)) = refl
kind_is (lines.Order (commands.Get reg)) = refl
kind_is (lines.Order (commands.Ksec byte)) = refl
kind_is (lines.Order commands.Yield) = refl
kind_is (lines.Order (commands.Fork name)) = refl
kind_is (lines.Order (commands.Peek at len)) = refl
kind_is (lines.Order (commands.Poke at bytes)) = refl
kind_is (lines.Order commands.Sigreturn) = refl
kind_is (lines.Order (commands.Kill name signo)) = refl
kind_is (lines.Order (commands.Bpeek at len)) = refl
kind_is (lines.Order (commands.Bpoke at bytes)) = refl
kind_is (lines.Order commands.Stop) = refl
kind_is (lines.Order (commands.Wait name)) = refl
kind_is (lines.Order (commands.Getregs name set)) = refl
kind_is (lines.Order (commands.Setregs name set count)) = refl
kind_is (lines.Order (commands.Cont name)) = refl
kind_is (lines.Order commands.Tilerelease) = refl
kind_is (lines.Order (commands.Perm feature)) = refl
kind_is (lines.NoSignal name number) = refl
kind_is lines.Handler = refl
kind_is lines.End = refl

-- lines of one text are of one kind
same_kind : (a b : Line) → line_text a ≡ line_text b → kind a ≡ kind b
same_kind a b e = sym (kind_is a) ∙ ap kind_of e ∙ kind_is b

-- ---- lines of one text are equal

-- a number for each machine
abbrev machine_kind : Named → ℕ
machine_kind machines.Amx = 0
machine_kind machines.Avx = 1
machine_kind machines.Rows = 2

-- the same, read from its name
abbrev machine_kind_of : List ℕ → ℕ
machine_kind_of bs = if begins (codes "am") bs then 0 else if begins (codes "av") bs then 1 else 2

machine_kind_is : (named : Named) → machine_kind_of (machine_name named) ≡ machine_kind named
machine_kind_is machines.Amx = refl
machine_kind_is machines.Avx = refl
machine_kind_is machines.Rows = refl

same_machine_kind : (a b : Named) → machine_name a ≡ machine_name b → machine_kind a ≡ machine_kind b
same_machine_kind a b e = sym (machine_kind_is a) ∙ ap machine_kind_of e ∙ machine_kind_is b

-- machines of one name are equal
pub one_machine : (a b : Named) → machine_name a ≡ machine_name b → a ≡ b
one_machine machines.Amx machines.Amx e = refl
one_machine machines.Avx machines.Avx e = refl
one_machine machines.Rows machines.Rows e = refl
one_machine a b e = let k = same_machine_kind a b e in absurd (omega arith)

-- rows of the same numbers are equal
pub same_row : (r s : Row) → r.comp.0 ≡ s.comp.0 → r.size ≡ s.size → r.offset ≡ s.offset → r.flags ≡ s.flags → r ≡ s
same_row r s number size offset flags =
    let whole : row r.comp.0 r.size r.offset r.flags ≡ row s.comp.0 s.size s.offset s.flags = cc in
    whole

-- rows of one text are equal
pub one_row : (r s : Row) → IsLine (lines.Row r) → IsLine (lines.Row s) → row_text r ≡ row_text s → r ≡ s
one_row r s f g e =
    let number = one_pair r.comp.0 s.comp.0 (decimal r.size ++ 32 ∷ (decimal r.offset ++ 32 ∷ decimal r.flags)) (decimal s.size ++ 32 ∷ (decimal s.offset ++ 32 ∷ decimal s.flags)) f.0 g.0 e in
    let size = one_pair r.size s.size (decimal r.offset ++ 32 ∷ decimal r.flags) (decimal s.offset ++ 32 ∷ decimal s.flags) f.1 g.1 number.1 in
    let offset = one_pair r.offset s.offset (decimal r.flags) (decimal s.flags) f.2 g.2 size.1 in
    same_row r s number.0 size.0 offset.0 (one_number [] r.flags s.flags f.3 g.3 offset.1)

-- the number of a signal isn't that of none
no_signal : (name other : List ℕ) (signo : Signo) (number : ℕ) → is_name name ≡ true → is_name other ≡ true → IsNumber number → (IsSignal number → ⊥) → kill_text name signo.number ≡ kill_text other number → ⊥
no_signal name other signo number fa fb small none e =
    none (subst IsSignal (one_kill name other signo.number number fa fb (signal_number signo) small e).1 signo.in_range)

-- lines of one text are equal
pub one_line : (a b : Line) → IsLine a → IsLine b → line_text a ≡ line_text b → a ≡ b
one_line lines.Version lines.Version f g e = refl
one_line (lines.Machine a) (lines.Machine b) f g e = ap lines.Machine (one_machine a b (append_cancel_left (codes "machine ") (machine_name a) (machine_name b) e))
one_line (lines.Row r) (lines.Row s) f g e = ap lines.Row (one_row r s f g (append_cancel_left (codes "row ") (row_text r) (row_text s) e))
one_line (lines.Cpus m) (lines.Cpus n) f g e = ap lines.Cpus (one_number (codes "cpus ") m n f g e)
one_line (lines.Quantum m) (lines.Quantum n) f g e = ap lines.Quantum (one_number (codes "quantum ") m n f g e)
one_line (lines.Large m) (lines.Large n) f g e = ap lines.Large (one_number (codes "large ") m n f g e)
one_line (lines.Sched a) (lines.Sched b) f g e = ap lines.Sched (one_entries a b f.1 g.1 (append_cancel_left (codes "sched") (entries_text a) (entries_text b) e))
one_line (lines.Begin blocks.Task x) (lines.Begin blocks.Task y) f g e = ap (lines.Begin blocks.Task) (append_cancel_left (codes "task ") x y e)
one_line (lines.Begin blocks.Child x) (lines.Begin blocks.Child y) f g e = ap (lines.Begin blocks.Child) (append_cancel_left (codes "child ") x y e)
one_line (lines.Begin blocks.Kthread x) (lines.Begin blocks.Kthread y) f g e = ap (lines.Begin blocks.Kthread) (append_cancel_left (codes "kthread ") x y e)
one_line (lines.Order a) (lines.Order b) f g e = ap lines.Order (one_command a b f g e)
one_line (lines.Order (commands.Kill a s)) (lines.NoSignal b n) f g e = absurd (no_signal a b s n f g.0 g.1 g.2 e)
one_line (lines.NoSignal a m) (lines.Order (commands.Kill b s)) f g e = absurd (no_signal b a s m g f.0 f.1 f.2 (sym e))
one_line (lines.NoSignal a m) (lines.NoSignal b n) f g e =
    let cut = one_kill a b m n f.0 g.0 f.1 g.1 e in
    let ea = cut.0 in
    let en = cut.1 in
    cc
one_line lines.Handler lines.Handler f g e = refl
one_line lines.End lines.End f g e = refl
one_line a b f g e = let k = same_kind a b e in absurd (omega arith)

-- The first line of a text is one line, and so is the rest.
pub one_first_line : (a b : Line) (x y : List ℕ) → IsLine a → IsLine b → line_text a ++ 10 ∷ x ≡ line_text b ++ 10 ∷ y → (a ≡ b) × (x ≡ y)
one_first_line a b x y f g e =
    let cut = one_cut 10 (line_text a) (line_text b) x y (Lacks_line a f) (Lacks_line b g) e in
    (one_line a b f g cut.0, cut.1)
