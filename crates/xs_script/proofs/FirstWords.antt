-- A line by its first word: what the words after it have to be.
use Rattle.std.proofs.Common.{◌≡◌, ℕ, ◌<◌, true, List, [], ◌∷◌, ◌++◌, ◌∙◌, ap, arith, codes, decimal}
use Rattle.std.proofs.lemmas.List.{append_cancel_left}
use Rattle.hex.specs.Hex.{encode_lower}
use Rattle.xs_base.specs.declared.component.Row.{Row}
use Rattle.xs_base.specs.declared.words.Set.{Set}
use Rattle.xs_model.specs.declared.script.BlockKind.{BlockKind}
use Rattle.xs_model.specs.declared.script.BlockKind.TheVariants as blocks
use Rattle.xs_model.specs.declared.script.Command.TheVariants as commands
use Rattle.xs_model.specs.Script.{is_name}
use Rattle.xs_script.specs.declared.line.Line.{Line}
use Rattle.xs_script.specs.declared.line.Line.TheVariants as lines
use Rattle.xs_script.specs.ScriptLine.{line_text, IsLine, IsNumber, row_text, set_word, entries_text, block_word, is_register_word}
use Rattle.xs_script.specs.Parts.{IsValue, IsBlockLine, IsSignalLine, IsTraceLine, IsHeadLine}
use Rattle.xs_script.proofs.CommandSpellings.{signal_number}
use Rattle.xs_script.proofs.Spellings.{kind_of, kind_is}

-- The words after a first word, where they are those of no line of its kind. Then the whole is no line.
pub no_get : (words : List ℕ) → ((reg : List ℕ) → is_register_word reg ≡ true → words ≡ reg → ⊥) → (l : Line) → IsBlockLine l → codes "get " ++ words ≡ line_text l → ⊥
no_get words none (lines.Order (commands.Get reg)) fits e = none reg fits (append_cancel_left (codes "get ") words reg e)
no_get words none l fits e = let k = ap kind_of e ∙ kind_is l in omega arith

pub no_set : (words : List ℕ) → ((reg bytes : List ℕ) → is_register_word reg ≡ true → IsValue bytes → words ≡ reg ++ 32 ∷ encode_lower bytes → ⊥) → (l : Line) → IsBlockLine l → codes "set " ++ words ≡ line_text l → ⊥
no_set words none (lines.Order (commands.Set reg bytes)) fits e = none reg bytes fits.0 (fits.1, fits.2) (append_cancel_left (codes "set ") words (reg ++ 32 ∷ encode_lower bytes) e)
no_set words none l fits e = let k = ap kind_of e ∙ kind_is l in omega arith

pub no_ksec : (words : List ℕ) → ((byte : ℕ) → byte < 256 → words ≡ encode_lower (byte ∷ []) → ⊥) → (l : Line) → IsBlockLine l → codes "ksec " ++ words ≡ line_text l → ⊥
no_ksec words none (lines.Order (commands.Ksec byte)) fits e = none byte fits (append_cancel_left (codes "ksec ") words (encode_lower (byte ∷ [])) e)
no_ksec words none l fits e = let k = ap kind_of e ∙ kind_is l in omega arith

pub no_perm : (words : List ℕ) → ((n : ℕ) → IsNumber n → words ≡ decimal n → ⊥) → (l : Line) → IsBlockLine l → codes "perm " ++ words ≡ line_text l → ⊥
no_perm words none (lines.Order (commands.Perm feature)) fits e = none feature fits (append_cancel_left (codes "perm ") words (decimal feature) e)
no_perm words none l fits e = let k = ap kind_of e ∙ kind_is l in omega arith

pub no_fork : (words : List ℕ) → ((name : List ℕ) → is_name name ≡ true → words ≡ name → ⊥) → (l : Line) → IsBlockLine l → codes "fork " ++ words ≡ line_text l → ⊥
no_fork words none (lines.Order (commands.Fork name)) fits e = none name fits (append_cancel_left (codes "fork ") words name e)
no_fork words none l fits e = let k = ap kind_of e ∙ kind_is l in omega arith

pub no_peek : (words : List ℕ) → ((at len : ℕ) → IsNumber at → IsNumber len → words ≡ decimal at ++ 32 ∷ decimal len → ⊥) → (l : Line) → IsSignalLine l → codes "peek " ++ words ≡ line_text l → ⊥
no_peek words none (lines.Order (commands.Peek at len)) fits e = none at len fits.0 fits.1 (append_cancel_left (codes "peek ") words (decimal at ++ 32 ∷ decimal len) e)
no_peek words none l fits e = let k = ap kind_of e ∙ kind_is l in omega arith

pub no_poke : (words : List ℕ) → ((at : ℕ) (bytes : List ℕ) → IsNumber at → IsValue bytes → words ≡ decimal at ++ 32 ∷ encode_lower bytes → ⊥) → (l : Line) → IsSignalLine l → codes "poke " ++ words ≡ line_text l → ⊥
no_poke words none (lines.Order (commands.Poke at bytes)) fits e = none at bytes fits.0 (fits.1, fits.2) (append_cancel_left (codes "poke ") words (decimal at ++ 32 ∷ encode_lower bytes) e)
no_poke words none l fits e = let k = ap kind_of e ∙ kind_is l in omega arith

pub no_kill : (words : List ℕ) → ((name : List ℕ) (number : ℕ) → is_name name ≡ true → IsNumber number → words ≡ name ++ 32 ∷ decimal number → ⊥) → (l : Line) → IsSignalLine l → codes "kill " ++ words ≡ line_text l → ⊥
no_kill words none (lines.Order (commands.Kill name signo)) fits e = none name signo.number fits (signal_number signo) (append_cancel_left (codes "kill ") words (name ++ 32 ∷ decimal signo.number) e)
no_kill words none (lines.NoSignal name number) fits e = none name number fits.0 fits.1 (append_cancel_left (codes "kill ") words (name ++ 32 ∷ decimal number) e)
no_kill words none l fits e = let k = ap kind_of e ∙ kind_is l in omega arith

pub no_bpeek : (words : List ℕ) → ((at len : ℕ) → IsNumber at → IsNumber len → words ≡ decimal at ++ 32 ∷ decimal len → ⊥) → (l : Line) → IsTraceLine l → codes "bpeek " ++ words ≡ line_text l → ⊥
no_bpeek words none (lines.Order (commands.Bpeek at len)) fits e = none at len fits.0 fits.1 (append_cancel_left (codes "bpeek ") words (decimal at ++ 32 ∷ decimal len) e)
no_bpeek words none l fits e = let k = ap kind_of e ∙ kind_is l in omega arith

pub no_bpoke : (words : List ℕ) → ((at : ℕ) (bytes : List ℕ) → IsNumber at → IsValue bytes → words ≡ decimal at ++ 32 ∷ encode_lower bytes → ⊥) → (l : Line) → IsTraceLine l → codes "bpoke " ++ words ≡ line_text l → ⊥
no_bpoke words none (lines.Order (commands.Bpoke at bytes)) fits e = none at bytes fits.0 (fits.1, fits.2) (append_cancel_left (codes "bpoke ") words (decimal at ++ 32 ∷ encode_lower bytes) e)
no_bpoke words none l fits e = let k = ap kind_of e ∙ kind_is l in omega arith

pub no_wait : (words : List ℕ) → ((name : List ℕ) → is_name name ≡ true → words ≡ name → ⊥) → (l : Line) → IsTraceLine l → codes "wait " ++ words ≡ line_text l → ⊥
no_wait words none (lines.Order (commands.Wait name)) fits e = none name fits (append_cancel_left (codes "wait ") words name e)
no_wait words none l fits e = let k = ap kind_of e ∙ kind_is l in omega arith

pub no_cont : (words : List ℕ) → ((name : List ℕ) → is_name name ≡ true → words ≡ name → ⊥) → (l : Line) → IsTraceLine l → codes "cont " ++ words ≡ line_text l → ⊥
no_cont words none (lines.Order (commands.Cont name)) fits e = none name fits (append_cancel_left (codes "cont ") words name e)
no_cont words none l fits e = let k = ap kind_of e ∙ kind_is l in omega arith

pub no_getregs : (words : List ℕ) → ((name : List ℕ) (set : Set) → is_name name ≡ true → words ≡ name ++ 32 ∷ set_word set → ⊥) → (l : Line) → IsTraceLine l → codes "getregs " ++ words ≡ line_text l → ⊥
no_getregs words none (lines.Order (commands.Getregs name set)) fits e = none name set fits (append_cancel_left (codes "getregs ") words (name ++ 32 ∷ set_word set) e)
no_getregs words none l fits e = let k = ap kind_of e ∙ kind_is l in omega arith

pub no_setregs : (words : List ℕ) → ((name : List ℕ) (set : Set) (count : ℕ) → is_name name ≡ true → IsNumber count → words ≡ name ++ 32 ∷ (set_word set ++ 32 ∷ decimal count) → ⊥) → (l : Line) → IsTraceLine l → codes "setregs " ++ words ≡ line_text l → ⊥
no_setregs words none (lines.Order (commands.Setregs name set count)) fits e = none name set count fits.0 fits.1 (append_cancel_left (codes "setregs ") words (name ++ 32 ∷ (set_word set ++ 32 ∷ decimal count)) e)
no_setregs words none l fits e = let k = ap kind_of e ∙ kind_is l in omega arith

no_task : (words : List ℕ) → ((name : List ℕ) → is_name name ≡ true → words ≡ name → ⊥) → (l : Line) → IsBlockLine l → codes "task " ++ words ≡ line_text l → ⊥
no_task words none (lines.Begin blocks.Task name) fits e = none name fits (append_cancel_left (codes "task ") words name e)
no_task words none l fits e = let k = ap kind_of e ∙ kind_is l in omega arith

no_child : (words : List ℕ) → ((name : List ℕ) → is_name name ≡ true → words ≡ name → ⊥) → (l : Line) → IsBlockLine l → codes "child " ++ words ≡ line_text l → ⊥
no_child words none (lines.Begin blocks.Child name) fits e = none name fits (append_cancel_left (codes "child ") words name e)
no_child words none l fits e = let k = ap kind_of e ∙ kind_is l in omega arith

no_kthread : (words : List ℕ) → ((name : List ℕ) → is_name name ≡ true → words ≡ name → ⊥) → (l : Line) → IsBlockLine l → codes "kthread " ++ words ≡ line_text l → ⊥
no_kthread words none (lines.Begin blocks.Kthread name) fits e = none name fits (append_cancel_left (codes "kthread ") words name e)
no_kthread words none l fits e = let k = ap kind_of e ∙ kind_is l in omega arith

pub no_begin : (kind : BlockKind) (words : List ℕ) → ((name : List ℕ) → is_name name ≡ true → words ≡ name → ⊥) → (l : Line) → IsBlockLine l → block_word kind ++ words ≡ line_text l → ⊥
no_begin blocks.Task words none l fits e = no_task words none l fits e
no_begin blocks.Child words none l fits e = no_child words none l fits e
no_begin blocks.Kthread words none l fits e = no_kthread words none l fits e

pub no_sched : (words : List ℕ) → ((entries : List ℕ) → IsLine (lines.Sched entries) → 32 ∷ words ≡ entries_text entries → ⊥) → (l : Line) → IsLine l → codes "sched " ++ words ≡ line_text l → ⊥
no_sched words none (lines.Sched entries) fits e = none entries fits (append_cancel_left (codes "sched") (32 ∷ words) (entries_text entries) e)
no_sched words none l fits e = let k = ap kind_of e ∙ kind_is l in omega arith

pub no_row : (words : List ℕ) → ((r : Row) → IsLine (lines.Row r) → words ≡ row_text r → ⊥) → (l : Line) → IsHeadLine l → codes "row " ++ words ≡ line_text l → ⊥
no_row words none (lines.Row r) fits e = none r fits (append_cancel_left (codes "row ") words (row_text r) e)
no_row words none l fits e = let k = ap kind_of e ∙ kind_is l in omega arith

pub no_cpus : (words : List ℕ) → ((n : ℕ) → IsNumber n → words ≡ decimal n → ⊥) → (l : Line) → IsHeadLine l → codes "cpus " ++ words ≡ line_text l → ⊥
no_cpus words none (lines.Cpus n) fits e = none n fits (append_cancel_left (codes "cpus ") words (decimal n) e)
no_cpus words none l fits e = let k = ap kind_of e ∙ kind_is l in omega arith

pub no_quantum : (words : List ℕ) → ((n : ℕ) → IsNumber n → words ≡ decimal n → ⊥) → (l : Line) → IsHeadLine l → codes "quantum " ++ words ≡ line_text l → ⊥
no_quantum words none (lines.Quantum n) fits e = none n fits (append_cancel_left (codes "quantum ") words (decimal n) e)
no_quantum words none l fits e = let k = ap kind_of e ∙ kind_is l in omega arith

pub no_large : (words : List ℕ) → ((n : ℕ) → IsNumber n → words ≡ decimal n → ⊥) → (l : Line) → IsHeadLine l → codes "large " ++ words ≡ line_text l → ⊥
no_large words none (lines.Large n) fits e = none n fits (append_cancel_left (codes "large ") words (decimal n) e)
no_large words none l fits e = let k = ap kind_of e ∙ kind_is l in omega arith
