-- The words of a line, each read by its bytes.
use Rattle.std.proofs.Common.{◌≡◌, ℕ, ◌<◌, ◌≤◌, List, ◌∷◌, ◌++◌, length, codes, decimal, refl, sym, ap, ◌∙◌, arith}
use Rattle.std.specs.Prelude.{Bool, true, false, nat_eq}
use Rattle.std.specs.Cmp.Lexicographic.{pointwise}
use Rattle.std.proofs.lemmas.Bool.Decides.{Decides-eqb}
use Rattle.std.proofs.lemmas.Slice.Eq.{slice_eq-Decides}
use Rattle.std.proofs.lemmas.Fmt.{decimal_injective}
use Rattle.hex.specs.Hex.{encode_lower}
use Rattle.xs_base.specs.declared.words.Signo.{Signo}
use Rattle.xs_model.specs.declared.script.Script.{Script}
use Rattle.xs_model.specs.declared.event.Reply.{Reply}
use Rattle.xs_model.specs.declared.event.Reply.TheVariants as replies
use Rattle.xs_model.specs.declared.event.Why.TheVariants as causes
use Rattle.xs_model.specs.Script.{IsValid}
use Rattle.xs_text.specs.Text.{reply_word, cause_word, name_of, IsReply}
use Rattle.xs_base.specs.Bytes.{Lacks}
use Rattle.xs_text.specs.Reading.{IsRead, NoneRead, Any, IsNumber}
use Rattle.xs_text.proofs.SpacedWords.{above_decimal}
use Rattle.xs_text.proofs.EventWords.{first_byte, below_2_64, reply_letter}
use Rattle.xs_text.proofs.OneSpelling.{above_task}
use Rattle.xs_base.proofs.Cuts.{no_cut, one_cut}
use Rattle.xs_text.proofs.Cuts.{lacks_above, next_words}

-- bytes that are compared with others and found the same
pub same_bytes : (a b : List ℕ) (t : Bool) → t ≡ pointwise nat_eq a b → t ≡ true → a ≡ b
same_bytes a b t is same = (slice_eq-Decides Decides-eqb a b t is).0 same

-- and found others
pub other_bytes : (a b : List ℕ) (t : Bool) → t ≡ pointwise nat_eq a b → t ≡ false → a ≡ b → ⊥
other_bytes a b t is other e = let same = (slice_eq-Decides Decides-eqb a b t is).1 e in cc

-- the text doesn't begin so
abbrev pub NotAfter : List ℕ → List ℕ → Type 0
NotAfter word bytes = (rest : List ℕ) → bytes ≡ word ++ rest → ⊥

-- a text that begins with the word of no cause, and a line feed
pub no_cause : (bytes : List ℕ) → NotAfter (codes "permission\n") bytes → NotAfter (codes "area\n") bytes → NotAfter (codes "frame-features\n") bytes → NotAfter (codes "frame-compacted\n") bytes
    → NotAfter (codes "frame-reserved\n") bytes → NotAfter (codes "frame-mxcsr\n") bytes → NoneRead cause_word Any 10 bytes
no_cause bytes permission area features compacted reserved mxcsr causes.Permission rest fits e = permission rest e
no_cause bytes permission area features compacted reserved mxcsr causes.Area rest fits e = area rest e
no_cause bytes permission area features compacted reserved mxcsr causes.FrameFeatures rest fits e = features rest e
no_cause bytes permission area features compacted reserved mxcsr causes.FrameCompacted rest fits e = compacted rest e
no_cause bytes permission area features compacted reserved mxcsr causes.FrameReserved rest fits e = reserved rest e
no_cause bytes permission area features compacted reserved mxcsr causes.FrameMxcsr rest fits e = mxcsr rest e

-- ---- signals

-- the text of a signal's number
abbrev pub signo_word : Signo → List ℕ
signo_word signo = decimal signo.number

-- a number that is none of a signal
pub other_signo : (end n : ℕ) (bytes rest : List ℕ) → end ≤ 32 → IsRead decimal IsNumber end bytes n rest → ((1 ≤ n) × (n ≤ 31) → ⊥) → NoneRead signo_word Any end bytes
other_signo end n bytes rest low read none signo more fits e =
    let small = read.0 in
    let range = signo.in_range in
    let cut = next_words end 47 bytes (decimal n) (decimal signo.number) rest more (omega arith) (above_decimal n (omega arith)) (above_decimal signo.number (below_2_64 signo)) read.1 e in
    let same = decimal_injective n signo.number (omega arith) (below_2_64 signo) cut.0 in
    none (omega (arith, same, range.0), omega (arith, same, range.1))

-- ---- tasks

-- the number of a block
abbrev pub IsTask : Script → ℕ → Type 0
IsTask script task = task < length script.blocks

-- a text that isn't cut at the byte begins with no task's name
pub no_cut_task : (script : Script) (end : ℕ) (bytes : List ℕ) → Lacks end bytes → NoneRead (name_of script) (IsTask script) end bytes
no_cut_task script end bytes lacks task more fits e = no_cut end bytes (name_of script task) more lacks e

-- nor does one whose first word is no task's
pub no_task : (script : Script) (end : ℕ) (bytes name rest : List ℕ) → IsValid script → end ≤ 32 → Lacks end name → bytes ≡ name ++ end ∷ rest
    → ((task : ℕ) → task < length script.blocks → name ≡ name_of script task → ⊥) → NoneRead (name_of script) (IsTask script) end bytes
no_task script end bytes name rest valid low lacks cut none task more fits e =
    none task fits (one_cut end name (name_of script task) rest more lacks (lacks_above end 32 (name_of script task) low (above_task script valid task fits)) (sym cut ∙ e)).0

-- ---- replies

-- a text that begins with a reply's word has its first byte
byte_is : (reply : Reply) (rest : List ℕ) → first_byte (reply_word reply ++ rest) ≡ reply_letter reply
unfolding reply_letter
byte_is replies.Done rest = refl
byte_is (replies.Bytes bytes) rest = refl
byte_is (replies.Count n) rest = refl
byte_is (replies.Error n) rest = refl
byte_is replies.Blocked rest = refl
byte_is replies.Stopped rest = refl
byte_is replies.Ended rest = refl
byte_is replies.Held rest = refl
byte_is replies.Full rest = refl
byte_is replies.Legacy rest = refl

-- After `=` come the digits of bytes, or no reply is there.
pub bytes_only : (digits : List ℕ) → NoneRead encode_lower (λ lane. IsReply (replies.Bytes lane)) 10 digits → NoneRead reply_word IsReply 10 (codes "=" ++ digits)
unfolding reply_letter
bytes_only digits none (replies.Bytes bytes) rest fits e = none bytes rest fits cc
bytes_only digits none other rest fits e =
    let first : 61 ≡ reply_letter other = ap first_byte e ∙ byte_is other (10 ∷ rest) in
    absurd (omega arith)
