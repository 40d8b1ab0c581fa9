-- The words of events' lines: their bytes are above the space, and what they spell is one value.
use Rattle.std.proofs.Common.{◌≡◌, ℕ, zero, suc, ◌<◌, ◌≤◌, ◌^◌, true, List, [], ◌∷◌, length, refl, sym, ap, subst, ◌∙◌, arith}
use Rattle.std.specs.Prelude.{◌&&◌, ◌/◌, ◌%◌, map, codes, decimal, nat_le, slice_index, slice_index_or, Option, Some, None}
use Rattle.std.specs.List.{AllByRecursion, list_all}
use Rattle.std.proofs.lemmas.Bool.{and_parts}
use Rattle.std.proofs.lemmas.Bool.Decides.{nat_tests}
use Rattle.std.proofs.lemmas.Fmt.{decimal_injective}
use Rattle.std.proofs.Props.{props}
use Rattle.hex.specs.Hex.{IsBytes, encode_lower, encode_with, lower_digits}
use Rattle.hex.proofs.HexLemmas.{decode_of-encode_lower, decode_of-same}
use Rattle.xs_base.specs.declared.words.How.{How}
use Rattle.xs_base.specs.declared.words.How.TheVariants as hows
use Rattle.xs_base.specs.declared.words.Signo.{Signo}
use Rattle.xs_model.specs.declared.script.Block.{Block}
use Rattle.xs_model.specs.declared.event.Reply.{Reply}
use Rattle.xs_model.specs.declared.event.Reply.TheVariants as replies
use Rattle.xs_model.specs.declared.event.Why.{Why}
use Rattle.xs_model.specs.declared.event.Why.TheVariants as causes
use Rattle.xs_model.specs.Script.{AreDistinct, is_name, is_letter, is_letter_or_digit}
use Rattle.xs_text.specs.Text.{how_word, signal_word, reply_word, cause_word, IsReply}
use Rattle.xs_text.proofs.SpacedWords.{AllAbove, above_less, above_literal, above_decimal}

-- the first byte, or 0 where there is none
abbrev pub first_byte : List ℕ → ℕ
first_byte [] = 0
first_byte (x ∷ xs) = x

-- ---- names

-- a letter is above the space
letter_above : (c : ℕ) → is_letter c ≡ true → 32 < c
letter_above c h = grind (arith, nat_tests)

-- so is a letter or digit
letter_or_digit_above : (c : ℕ) → is_letter_or_digit c ≡ true → 32 < c
letter_or_digit_above c h = grind (arith, nat_tests)

-- so are letters and digits
above_letters : (bytes : List ℕ) → list_all is_letter_or_digit bytes ≡ true → AllAbove 32 bytes
above_letters [] h = tt
above_letters (c ∷ cs) h =
    let parts = and_parts (is_letter_or_digit c) (list_all is_letter_or_digit cs) h in
    (letter_or_digit_above c parts.0, above_letters cs parts.1)

-- the bytes of a name
above_name : (bytes : List ℕ) → is_name bytes ≡ true → AllAbove 32 bytes
above_name [] h = cc
above_name (c ∷ cs) h =
    let whole = and_parts (is_letter c && list_all is_letter_or_digit cs) (nat_le (length cs) 15) h in
    let parts = and_parts (is_letter c) (list_all is_letter_or_digit cs) whole.0 in
    (letter_above c parts.0, above_letters cs parts.1)

-- the names of blocks
abbrev pub names_of : List Block → List (List ℕ)
names_of blocks = map (λ (block : Block). block.name) blocks

-- the bytes of the name at a place
pub above_name_at : (blocks : List Block) (i : ℕ) → AllByRecursion (λ (block : Block). is_name block.name ≡ true) blocks → i < length blocks
    → AllAbove 32 (slice_index_or (names_of blocks) i [])
above_name_at [] i h lt = absurd (omega arith)
above_name_at (b ∷ bs) zero h lt = above_name b.name h.0
above_name_at (b ∷ bs) (suc i) h lt = above_name_at bs i h.1 (omega arith)

-- A name that differs from each of the others is at none of their places.
other_name : (name : List ℕ) (blocks : List Block) (i : ℕ) → AllByRecursion (λ other. other ≡ name → ⊥) (names_of blocks) → i < length blocks
    → slice_index_or (names_of blocks) i [] ≡ name → ⊥
other_name name [] i h lt e = absurd (omega arith)
other_name name (b ∷ bs) zero h lt e = h.0 e
other_name name (b ∷ bs) (suc i) h lt e = other_name name bs i h.1 (omega arith) e

-- Blocks with one name are one block.
pub same_block : (blocks : List Block) (i j : ℕ) → AreDistinct (names_of blocks) → i < length blocks → j < length blocks
    → slice_index_or (names_of blocks) i [] ≡ slice_index_or (names_of blocks) j [] → i ≡ j
same_block [] i j h li lj e = absurd (omega arith)
same_block (b ∷ bs) zero zero h li lj e = refl
same_block (b ∷ bs) zero (suc j) h li lj e = absurd (other_name b.name bs j h.0 (omega arith) (sym e))
same_block (b ∷ bs) (suc i) zero h li lj e = absurd (other_name b.name bs i h.0 (omega arith) e)
same_block (b ∷ bs) (suc i) (suc j) h li lj e = ap suc (same_block bs i j h.1 (omega arith) (omega arith) e)

-- ---- words

-- a number's digits are above the space
pub above_number : (n : ℕ) → n < 2 ^ 64 → AllAbove 32 (decimal n)
above_number n h = above_less 32 47 (decimal n) (omega arith) (above_decimal n h)

-- the bytes of a restore's word
pub above_how : (how : How) → AllAbove 32 (how_word how)
above_how hows.Load = above_literal 32 (codes "load") refl
above_how hows.Skip = above_literal 32 (codes "skip") refl
above_how hows.Kern = above_literal 32 (codes "kern") refl

-- the first byte of the word of a restore, which no two share
how_letter : How → ℕ
how_letter hows.Load = 108
how_letter hows.Skip = 115
how_letter hows.Kern = 107

-- the word has that byte
how_letter_is : (how : How) → first_byte (how_word how) ≡ how_letter how
unfolding how_letter
how_letter_is hows.Load = refl
how_letter_is hows.Skip = refl
how_letter_is hows.Kern = refl

-- Restores with one word are the same.
pub same_how : (a b : How) → how_word a ≡ how_word b → a ≡ b
unfolding how_letter
same_how hows.Load hows.Load e = refl
same_how hows.Skip hows.Skip e = refl
same_how hows.Kern hows.Kern e = refl
same_how a b e =
    let letters : how_letter a ≡ how_letter b = sym (how_letter_is a) ∙ ap first_byte e ∙ how_letter_is b in
    absurd (omega arith)

-- a signal's number has 64 bits
pub below_2_64 : (signo : Signo) → signo.number < 2 ^ 64
below_2_64 signo = omega (arith, signo.in_range.1)

-- the bytes of a signal's word
pub above_signal : (signal : Option Signo) → AllAbove 32 (signal_word signal)
above_signal None = above_literal 32 (codes "-") refl
above_signal (Some signo) = above_number signo.number (below_2_64 signo)

-- no number is spelled as a dash
not_dash : (n : ℕ) → n < 2 ^ 64 → codes "-" ≡ decimal n → ⊥
not_dash n h e =
    let dash : AllAbove 47 (codes "-") = subst (AllAbove 47) (sym e) (above_decimal n h) in
    omega (arith, dash.0)

-- the range of signals' numbers, which has one proof
abbrev IsInRange : ℕ → Type 0
IsInRange n = (1 ≤ n) × (n ≤ 31)

one_proof : (n : ℕ) → IsProp (IsInRange n)
one_proof n = Prim.hlevel props

-- the signal of a number in the range
abbrev signo_of : (n : ℕ) → IsInRange n → Signo
signo_of n h = record { number = n; in_range = h }

-- Signals of one number are the same.
pub same_signo : (a b : Signo) → a.number ≡ b.number → a ≡ b
same_signo a b e =
    subst (λ m. (k : IsInRange m) → a ≡ signo_of m k) e (λ k. ap (signo_of a.number) (one_proof a.number a.in_range k)) b.in_range

-- Signals with one word are the same.
pub same_signal : (a b : Option Signo) → signal_word a ≡ signal_word b → a ≡ b
same_signal None None e = refl
same_signal None (Some s) e = absurd (not_dash s.number (below_2_64 s) e)
same_signal (Some s) None e = absurd (not_dash s.number (below_2_64 s) (sym e))
same_signal (Some s) (Some r) e = ap Some (same_signo s r (decimal_injective s.number r.number (below_2_64 s) (below_2_64 r) e))

-- the bytes of a cause's word
pub above_cause : (why : Why) → AllAbove 32 (cause_word why)
above_cause causes.Permission = above_literal 32 (codes "permission") refl
above_cause causes.Area = above_literal 32 (codes "area") refl
above_cause causes.FrameFeatures = above_literal 32 (codes "frame-features") refl
above_cause causes.FrameCompacted = above_literal 32 (codes "frame-compacted") refl
above_cause causes.FrameReserved = above_literal 32 (codes "frame-reserved") refl
above_cause causes.FrameMxcsr = above_literal 32 (codes "frame-mxcsr") refl

-- the byte at place 6 of the word of a cause, which no two share
cause_letter : Why → ℕ
cause_letter causes.Permission = 115
cause_letter causes.Area = 0
cause_letter causes.FrameFeatures = 102
cause_letter causes.FrameCompacted = 99
cause_letter causes.FrameReserved = 114
cause_letter causes.FrameMxcsr = 109

-- the word has that byte
cause_letter_is : (why : Why) → slice_index (cause_word why) 6 ≡ cause_letter why
unfolding cause_letter
cause_letter_is causes.Permission = refl
cause_letter_is causes.Area = refl
cause_letter_is causes.FrameFeatures = refl
cause_letter_is causes.FrameCompacted = refl
cause_letter_is causes.FrameReserved = refl
cause_letter_is causes.FrameMxcsr = refl

-- Causes with one word are the same.
pub same_cause : (a b : Why) → cause_word a ≡ cause_word b → a ≡ b
unfolding cause_letter
same_cause causes.Permission causes.Permission e = refl
same_cause causes.Area causes.Area e = refl
same_cause causes.FrameFeatures causes.FrameFeatures e = refl
same_cause causes.FrameCompacted causes.FrameCompacted e = refl
same_cause causes.FrameReserved causes.FrameReserved e = refl
same_cause causes.FrameMxcsr causes.FrameMxcsr e = refl
same_cause a b e =
    let letters : cause_letter a ≡ cause_letter b = sym (cause_letter_is a) ∙ ap (λ word. slice_index word 6) e ∙ cause_letter_is b in
    absurd (omega arith)

-- ---- replies

-- each of some bytes is below 256, place by place
byte_at : (bytes : List ℕ) → AllByRecursion (λ byte. byte < 256) bytes → IsBytes bytes
byte_at [] h i = omega arith
byte_at (b ∷ bs) h zero = h.0
byte_at (b ∷ bs) h (suc i) = byte_at bs h.1 i

-- a byte at a place of bytes above c is above c
above_at : (c : ℕ) (bytes : List ℕ) (i : ℕ) → AllAbove c bytes → i < length bytes → c < slice_index bytes i
above_at c [] i h lt = absurd (omega arith)
above_at c (b ∷ bs) zero h lt = h.0
above_at c (b ∷ bs) (suc i) h lt = above_at c bs i h.1 (omega arith)

-- a digit of the table is above the space
pub above_hex_digit : (d : ℕ) → d < 16 → 32 < slice_index lower_digits d
above_hex_digit d lt = above_at 32 lower_digits d (above_literal 32 lower_digits refl) lt

-- so are the digits of bytes
above_hex : (bytes : List ℕ) → AllByRecursion (λ byte. byte < 256) bytes → AllAbove 32 (encode_lower bytes)
unfolding encode_with
above_hex [] h = tt
above_hex (b ∷ bs) h =
    let fits : b < 256 = h.0 in
    (above_hex_digit (b / 16) (omega arith), (above_hex_digit (b % 16) (omega arith), above_hex bs h.1))

-- the bytes of a reply's word
pub above_reply : (reply : Reply) → IsReply reply → AllAbove 32 (reply_word reply)
above_reply replies.Done h = above_literal 32 (codes "-") refl
above_reply (replies.Bytes bytes) h = (omega arith, above_hex bytes h.2)
above_reply (replies.Count n) h = (omega arith, above_number n (omega arith))
above_reply (replies.Error n) h = (omega arith, above_number n (omega arith))
above_reply replies.Blocked h = above_literal 32 (codes "blocked") refl
above_reply replies.Stopped h = above_literal 32 (codes "stopped") refl
above_reply replies.Ended h = above_literal 32 (codes "ended") refl
above_reply replies.Held h = above_literal 32 (codes "held") refl
above_reply replies.Full h = above_literal 32 (codes "full") refl
above_reply replies.Legacy h = above_literal 32 (codes "legacy") refl

-- the first byte of the word of a reply, which no two kinds share
unfoldable pub reply_letter : Reply → ℕ
reply_letter replies.Done = 45
reply_letter (replies.Bytes bytes) = 61
reply_letter (replies.Count n) = 43
reply_letter (replies.Error n) = 33
reply_letter replies.Blocked = 98
reply_letter replies.Stopped = 115
reply_letter replies.Ended = 101
reply_letter replies.Held = 104
reply_letter replies.Full = 102
reply_letter replies.Legacy = 108

-- the word has that byte
reply_letter_is : (reply : Reply) → first_byte (reply_word reply) ≡ reply_letter reply
unfolding reply_letter
reply_letter_is replies.Done = refl
reply_letter_is (replies.Bytes bytes) = refl
reply_letter_is (replies.Count n) = refl
reply_letter_is (replies.Error n) = refl
reply_letter_is replies.Blocked = refl
reply_letter_is replies.Stopped = refl
reply_letter_is replies.Ended = refl
reply_letter_is replies.Held = refl
reply_letter_is replies.Full = refl
reply_letter_is replies.Legacy = refl

-- Bytes with the same digits are the same.
same_bytes : (a b : List ℕ) → AllByRecursion (λ byte. byte < 256) a → AllByRecursion (λ byte. byte < 256) b → encode_lower a ≡ encode_lower b → a ≡ b
same_bytes a b h k e =
    let read = decode_of-encode_lower a (byte_at a h) in
    decode_of-same (encode_lower b) a b (rw e at read) (decode_of-encode_lower b (byte_at b k))

-- Replies with one word are the same.
pub same_reply : (a b : Reply) → IsReply a → IsReply b → reply_word a ≡ reply_word b → a ≡ b
unfolding reply_letter
same_reply replies.Done replies.Done h k e = refl
same_reply (replies.Bytes a) (replies.Bytes b) h k e = ap replies.Bytes (same_bytes a b h.2 k.2 cc)
same_reply (replies.Count m) (replies.Count n) h k e = ap replies.Count (decimal_injective m n (omega arith) (omega arith) cc)
same_reply (replies.Error m) (replies.Error n) h k e = ap replies.Error (decimal_injective m n (omega arith) (omega arith) cc)
same_reply replies.Blocked replies.Blocked h k e = refl
same_reply replies.Stopped replies.Stopped h k e = refl
same_reply replies.Ended replies.Ended h k e = refl
same_reply replies.Held replies.Held h k e = refl
same_reply replies.Full replies.Full h k e = refl
same_reply replies.Legacy replies.Legacy h k e = refl
same_reply a b h k e =
    let letters : reply_letter a ≡ reply_letter b = sym (reply_letter_is a) ∙ ap first_byte e ∙ reply_letter_is b in
    absurd (omega arith)
