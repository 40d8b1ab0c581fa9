-- Readers of one line, part by part.
use Rattle.std.proofs.Common.{◌≡◌, ℕ, ◌+◌, ◌<◌, ◌≤◌, ◌*◌, ◌%◌, ◌==◌, Bool, true, false, List, [], ◌∷◌, ◌++◌, length, slice_index, Some, refl, sym, ◌∙◌, ap, arith, codes, decimal}
use Rattle.std.specs.Prelude.{nat_eq}
use Rattle.std.specs.List.{list_all}
use Rattle.std.proofs.lemmas.Bool.{and_parts}
use Rattle.std.specs.Cmp.Lexicographic.{pointwise}
use Rattle.std.proofs.lemmas.Bool.Decides.{Decides-eqb}
use Rattle.std.proofs.lemmas.Slice.Eq.{slice_eq-Decides}
use Rattle.hex.specs.Hex.{encode_lower, lower_digits}
use Rattle.hex.proofs.HexLemmas.{length-encode_with}
use Rattle.xs_base.specs.declared.component.Row.{Row}
use Rattle.xs_base.specs.declared.words.Set.{Set}
use Rattle.xs_base.specs.Layout.{row}
use Rattle.xs_model.specs.declared.script.Command.TheVariants as commands
use Rattle.xs_model.specs.Script.{is_name}
use Rattle.xs_script.specs.declared.line.Line.{Line}
use Rattle.xs_script.specs.declared.line.Line.TheVariants as lines
use Rattle.xs_script.specs.ScriptLine.{set_word, line_text, IsLine, IsNumber, row_text, kept_bytes, kept_line, is_register_word}
use Rattle.xs_base.specs.Bytes.{Lacks}
use Rattle.xs_script.specs.Reads.{ReadsAs}
use Rattle.xs_script.specs.Refusal.{NoLine}
use Rattle.xs_script.specs.Parts.{IsValue, IsSpelledBy, is_lower_digit, digit_value, is_hex_text, IsPlainLine, IsSignalLine, IsKillLine, NoPlainLine}
use Rattle.xs_base.proofs.Cuts.{one_cut, no_cut}
use Rattle.xs_script.proofs.Cuts.{Lacks-name, Lacks-register, Lacks-set}
use Rattle.xs_script.proofs.HexText.{AreDecoded, decoded, hex_text, hex_text_bytes}
use Rattle.xs_script.proofs.Kept.{kept_same_bytes, kept_long}
use Rattle.xs_script.proofs.Entries.{lacks_space, one_pair}
use Rattle.xs_script.proofs.Spellings.{Lacks_line}

-- ---- hex

-- hex text has two digits a byte
pub length_hex : (bytes text : List ℕ) → text ≡ encode_lower bytes → length text ≡ 2 * length bytes
length_hex bytes text e = ap length e ∙ length-encode_with lower_digits bytes

-- no text is that of no bytes
pub no_bytes : (text : List ℕ) → length text ≡ 0 → (x : List ℕ) → IsValue x → text ≡ encode_lower x → ⊥
no_bytes text none x fits e =
    let some = fits.0 in
    let long = length_hex x text e in
    omega arith

-- what is decoded of hex text is what the text spells
pub reads_short : (text bytes : List ℕ) → 0 < length text → length text ≤ 128 → IsSpelledBy bytes text → ReadsAs encode_lower IsValue kept_bytes (Some bytes) text
reads_short text bytes some short h =
    let long = length_hex bytes text h.spelled in
    (bytes, (omega arith, h.fits), h.spelled, sym (kept_same_bytes bytes (omega arith)))

-- of a longer text nothing is kept
pub reads_long : (text : List ℕ) → 128 < length text → is_hex_text text ≡ true → ReadsAs encode_lower IsValue kept_bytes (Some []) text
reads_long text many h =
    let bytes = hex_text_bytes text h in
    let long = length_hex bytes.0 text bytes.2 in
    (bytes.0, (omega arith, bytes.1), bytes.2, sym (kept_long bytes.0 (omega arith)))

-- other text is that of no bytes
pub reads_other : (text x : List ℕ) → is_hex_text text ≡ false → IsValue x → text ≡ encode_lower x → ⊥
reads_other text x other fits e = let t = hex_text x fits.1 in cc (sym other ∙ ap is_hex_text e ∙ t)

-- two hex digits are the text of a byte
pub byte_read : (text : List ℕ) (high low : ℕ) → length text ≡ 2 → is_hex_text text ≡ true → high ≡ digit_value (slice_index text 0) → low ≡ digit_value (slice_index text 1) → (16 * high + low < 256) × (text ≡ encode_lower ((16 * high + low) ∷ []))
byte_read text high low two hex first second =
    let digits = (and_parts (list_all is_lower_digit text) (length text % 2 == 0) hex).0 in
    let r = decoded text ((16 * high + low) ∷ []) digits two one in
    (r.fits.0, r.spelled)
  where
    one : AreDecoded ((16 * high + low) ∷ []) text
    one k below =
        let here : k ≡ 0 = omega arith in
        rw here (rw (first, second) refl)

-- and no other text is that of one
pub no_byte : (text : List ℕ) (x : ℕ) → is_hex_text text ≡ false → x < 256 → text ≡ encode_lower (x ∷ []) → ⊥
no_byte text x other small e = let t = hex_text (x ∷ []) (small, tt) in cc (sym other ∙ ap is_hex_text e ∙ t)

pub two_digits : (text : List ℕ) (x : ℕ) → (length text ≡ 2 → ⊥) → text ≡ encode_lower (x ∷ []) → ⊥
two_digits text x other e = other (length_hex (x ∷ []) text e)

-- ---- the words of a row and of a command that sets

-- no number stands before the first space
pub no_number : (words front rest : List ℕ) → words ≡ front ++ 32 ∷ rest → Lacks 32 front → ((n : ℕ) → IsNumber n → front ≡ decimal n → ⊥) → (n : ℕ) (more : List ℕ) → IsNumber n → words ≡ decimal n ++ 32 ∷ more → ⊥
no_number words front rest cut lacks none n more fits e = none n fits (one_cut 32 front (decimal n) rest more lacks (lacks_space n fits) (sym cut ∙ e)).0

-- the words after one number and the next
pub next_words : (m n : ℕ) (words x y : List ℕ) → IsNumber m → IsNumber n → words ≡ decimal m ++ 32 ∷ x → words ≡ decimal n ++ 32 ∷ y → x ≡ y
next_words m n words x y fm fn e spelled = (one_pair m n x y fm fn (sym e ∙ spelled)).1

-- the words after the first number of a row, the second and the third
pub size_words : (words w : List ℕ) (n : ℕ) (r : Row) → IsNumber n → words ≡ decimal n ++ 32 ∷ w → IsLine (lines.Row r) → words ≡ row_text r → w ≡ decimal r.size ++ 32 ∷ (decimal r.offset ++ 32 ∷ decimal r.flags)
size_words words w n r fn cut fits spelled = next_words n r.comp.0 words w _ fn fits.0 cut spelled

pub offset_words : (words w v : List ℕ) (n m : ℕ) (r : Row) → IsNumber n → words ≡ decimal n ++ 32 ∷ w → IsNumber m → w ≡ decimal m ++ 32 ∷ v → IsLine (lines.Row r) → words ≡ row_text r → v ≡ decimal r.offset ++ 32 ∷ decimal r.flags
offset_words words w v n m r fn cut fm again fits spelled = next_words m r.size w v _ fm fits.1 again (size_words words w n r fn cut fits spelled)

pub flag_words : (words w v u : List ℕ) (n m o : ℕ) (r : Row) → IsNumber n → words ≡ decimal n ++ 32 ∷ w → IsNumber m → w ≡ decimal m ++ 32 ∷ v → IsNumber o → v ≡ decimal o ++ 32 ∷ u → IsLine (lines.Row r) → words ≡ row_text r → u ≡ decimal r.flags
flag_words words w v u n m o r fn cut fm again fo once fits spelled = next_words o r.offset v u _ fo fits.2 once (offset_words words w v n m r fn cut fm again fits spelled)

-- four numbers with a space between each two
pub row_joined : (words w v u : List ℕ) (n m o f : ℕ) → words ≡ decimal n ++ 32 ∷ w → w ≡ decimal m ++ 32 ∷ v → v ≡ decimal o ++ 32 ∷ u → u ≡ decimal f → words ≡ row_text (row n m o f)
row_joined words w v u n m o f b c d e = cc

-- no name of a block stands before the first space, or no word of a register set
pub no_name : (words front rest : List ℕ) → words ≡ front ++ 32 ∷ rest → Lacks 32 front → ((name : List ℕ) → is_name name ≡ true → front ≡ name → ⊥) → (name more : List ℕ) → is_name name ≡ true → words ≡ name ++ 32 ∷ more → ⊥
no_name words front rest cut lacks none name more fits e = none name fits (one_cut 32 front name rest more lacks (Lacks-name 32 name refl refl fits) (sym cut ∙ e)).0

pub no_set_word : (words front rest : List ℕ) → words ≡ front ++ 32 ∷ rest → Lacks 32 front → ((set : Set) → Unit {0} → front ≡ set_word set → ⊥) → (set : Set) (more : List ℕ) → words ≡ set_word set ++ 32 ∷ more → ⊥
no_set_word words front rest cut lacks none set more e = none set tt (one_cut 32 front (set_word set) rest more lacks (Lacks-set 32 set refl refl) (sym cut ∙ e)).0

-- the words after a name, and after a register set
pub after_name : (a b words x y : List ℕ) → is_name a ≡ true → is_name b ≡ true → words ≡ a ++ 32 ∷ x → words ≡ b ++ 32 ∷ y → x ≡ y
after_name a b words x y fa fb e spelled = (one_cut 32 a b x y (Lacks-name 32 a refl refl fa) (Lacks-name 32 b refl refl fb) (sym e ∙ spelled)).1

pub after_set : (a b : Set) (words x y : List ℕ) → words ≡ set_word a ++ 32 ∷ x → words ≡ set_word b ++ 32 ∷ y → x ≡ y
after_set a b words x y e spelled = (one_cut 32 (set_word a) (set_word b) x y (Lacks-set 32 a refl refl) (Lacks-set 32 b refl refl) (sym e ∙ spelled)).1

-- the register and the digits of a command that sets
pub set_parts : (words reg digits name bytes : List ℕ) → words ≡ reg ++ 32 ∷ digits → Lacks 32 reg → is_register_word name ≡ true → words ≡ name ++ 32 ∷ encode_lower bytes → (reg ≡ name) × (digits ≡ encode_lower bytes)
set_parts words reg digits name bytes cut lacks fits spelled =
    one_cut 32 reg name digits (encode_lower bytes) lacks (Lacks-register 32 name refl fits) (sym cut ∙ spelled)

-- the number and the digits of a line with a number before its last word
pub first_number_parts : (words rest more : List ℕ) (n m : ℕ) → IsNumber n → words ≡ decimal n ++ 32 ∷ rest → IsNumber m → words ≡ decimal m ++ 32 ∷ more → rest ≡ more
first_number_parts words rest more n m fn cut fm spelled = next_words n m words rest more fn fm cut spelled

-- the name and the number of a line that sends a signal
pub kill_parts : (words front digits name : List ℕ) (number : ℕ) → words ≡ front ++ 32 ∷ digits → Lacks 32 front → is_name name ≡ true → words ≡ name ++ 32 ∷ decimal number → (front ≡ name) × (digits ≡ decimal number)
kill_parts words front digits name number cut lacks fits spelled =
    one_cut 32 front name digits (decimal number) lacks (Lacks-name 32 name refl refl fits) (sym cut ∙ spelled)

-- the line of a name and a number
pub kill_read : (words name digits : List ℕ) (number : ℕ) (l : Line) → words ≡ name ++ 32 ∷ digits → is_name name ≡ true → IsNumber number → digits ≡ decimal number → IsKillLine name number l → ReadsAs line_text IsSignalLine kept_line (Some l) (codes "kill " ++ words)
kill_read words name digits number (lines.Order (commands.Kill to signo)) cut fits small is h =
    let at = h.0 in
    let same = h.1 in
    (lines.Order (commands.Kill to signo), rw at fits, rw (cut, is, at, same) refl, refl)
kill_read words name digits number (lines.NoSignal to other) cut fits small is h =
    let at = h.0 in
    let same = h.1 in
    (lines.NoSignal to other, (rw at fits, rw same small, rw same h.2), rw (cut, is, at, same) refl, refl)
kill_read words name digits number l cut fits small is h = absurd h

-- ---- the first line of a text

-- a text with no line feed has no first line
pub no_line : (text : List ℕ) → Lacks 10 text → NoLine text
no_line text lacks l rest fits e = no_cut 10 text (line_text l) rest lacks e

-- nor has one whose first line is the text of no line
pub other_line : (text line rest : List ℕ) → Lacks 10 line → text ≡ line ++ 10 ∷ rest → ((l : Line) → IsLine l → line ≡ line_text l → ⊥) → NoLine text
other_line text line rest here cut none l more fits e =
    none l fits (one_cut 10 line (line_text l) rest more here (Lacks_line l fits) (sym cut ∙ e)).0

-- a line that is none of a schedule is a line
pub plain_is_line : (l : Line) → IsPlainLine l → IsLine l
plain_is_line (lines.Sched entries) fits = absurd fits
plain_is_line lines.Version fits = fits
plain_is_line (lines.Machine named) fits = fits
plain_is_line (lines.Row r) fits = fits
plain_is_line (lines.Cpus n) fits = fits
plain_is_line (lines.Quantum n) fits = fits
plain_is_line (lines.Large n) fits = fits
plain_is_line (lines.Begin kind name) fits = fits
plain_is_line (lines.Order command) fits = fits
plain_is_line (lines.NoSignal name number) fits = fits
plain_is_line lines.Handler fits = fits
plain_is_line lines.End fits = fits

-- A text without a line feed has no such first line, and none where its first line is no such line.
pub no_plain_line : (text : List ℕ) → Lacks 10 text → NoPlainLine text
no_plain_line text lacks l rest fits e = no_line text lacks l rest (plain_is_line l fits) e

pub other_plain_line : (text line rest : List ℕ) → Lacks 10 line → text ≡ line ++ 10 ∷ rest → ((l : Line) → IsPlainLine l → line ≡ line_text l → ⊥) → NoPlainLine text
other_plain_line text line rest here cut none l more fits e =
    none l fits (one_cut 10 line (line_text l) rest more here (Lacks_line l (plain_is_line l fits)) (sym cut ∙ e)).0

-- what the comparison of a line with a word tells, where it is true
pub word_is : (line word text : List ℕ) (b : Bool) → b ≡ pointwise nat_eq line word → word ≡ text → b ≡ true → line ≡ text
word_is line word text b h same t = (slice_eq-Decides Decides-eqb line word b h).0 t ∙ same
