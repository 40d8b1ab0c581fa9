-- The hex digits of bytes, read two by two.
use Rattle.std.proofs.Common.{◌≡◌, ℕ, ◌+◌, ◌/◌, ◌<◌, ◌≤◌, List, [], ◌∷◌, ◌++◌, length, slice_index, slice_set, take, refl, sym, ap, ◌∙◌, arith}
use Rattle.std.specs.List.{AllByRecursion}
use Rattle.std.proofs.lemmas.List.{append_assoc, take_more_set}
use Rattle.hex.specs.Hex.{encode_lower, encode_with, lower_digits}
use Rattle.xs_model.specs.declared.event.Reply.TheVariants as replies
use Rattle.xs_text.specs.Text.{IsReply}
use Rattle.xs_text.specs.Reading.{NoneRead, with_byte}
use Rattle.xs_text.proofs.EventWords.{above_hex_digit}
use Rattle.xs_text.proofs.HexDigits.{encode_append}

-- each number is that of a byte
abbrev pub AreBytes : List ℕ → Type 0
AreBytes bytes = AllByRecursion (λ byte. byte < 256) bytes

-- no byte's two digits are the first of the text
abbrev pub NoByte : List ℕ → Type 0
NoByte text = (byte : ℕ) (rest : List ℕ) → byte < 256 → text ≡ with_byte byte rest → ⊥

-- the text of a byte and more
encode_more : (byte : ℕ) (bytes rest : List ℕ) → encode_lower (byte ∷ bytes) ++ rest ≡ with_byte byte (encode_lower bytes ++ rest)
unfolding encode_with
encode_more byte bytes rest = refl

-- the text of bytes and one more
encode_push : (bytes : List ℕ) (byte : ℕ) (rest : List ℕ) → encode_lower (bytes ++ byte ∷ []) ++ rest ≡ encode_lower bytes ++ with_byte byte rest
unfolding encode_with
encode_push bytes byte rest =
    ap (λ (t : List ℕ). t ++ rest) (encode_append lower_digits bytes (byte ∷ []))
    ∙ append_assoc (encode_lower bytes) (encode_lower (byte ∷ [])) rest

-- A text that begins with the digits of bytes begins with a front of another's bytes.
hex_front : (cs bs left more : List ℕ) → AreBytes cs → AreBytes bs → encode_lower cs ++ left ≡ encode_lower bs ++ 10 ∷ more
    → (ys : List ℕ) × AreBytes ys × (length bs ≡ length cs + length ys) × (left ≡ encode_lower ys ++ 10 ∷ more)
unfolding encode_with
hex_front [] bs left more fc fb e = (bs, fb, omega arith, e)
hex_front (c ∷ cs) [] left more fc fb e =
    let above = above_hex_digit (c / 16) (omega (arith, fc.0)) in
    let same : slice_index lower_digits (c / 16) ≡ 10 = cc in
    absurd (omega (arith, above, same))
hex_front (c ∷ cs) (b ∷ bs) left more fc fb e =
    let tails : encode_lower cs ++ left ≡ encode_lower bs ++ 10 ∷ more = cc in
    let (ys, fits, long, back) = hex_front cs bs left more fc.1 fb.1 tails in
    (ys, fits, omega (arith, long), back)

-- what comes after some bytes' digits, where no further byte's do
pub after_bytes : (text cs bs left more : List ℕ) → AreBytes cs → IsReply (replies.Bytes bs) → text ≡ encode_lower cs ++ left → NoByte left → text ≡ encode_lower bs ++ 10 ∷ more
    → (left ≡ 10 ∷ more) × (length bs ≡ length cs)
unfolding encode_with
after_bytes text cs bs left more fc fits e none g =
    let (ys, fy, long, back) = hex_front cs bs left more fc fits.2 (sym e ∙ g) in
    by_rest ys fy long back
  where
    by_rest : (ys : List ℕ) → AreBytes ys → length bs ≡ length cs + length ys → left ≡ encode_lower ys ++ 10 ∷ more → (left ≡ 10 ∷ more) × (length bs ≡ length cs)
    by_rest [] fy long back = (back, omega (arith, long))
    by_rest (y ∷ ys) fy long back = absurd (none y (encode_lower ys ++ 10 ∷ more) fy.0 (back ∙ encode_more y ys (10 ∷ more)))

-- Where the digits of a byte come after those of 64 bytes, no lane is there.
pub too_many : (text cs left rest : List ℕ) (byte : ℕ) → AreBytes cs → 64 ≤ length cs → byte < 256 → text ≡ encode_lower cs ++ left → left ≡ with_byte byte rest
    → NoneRead encode_lower (λ lane. IsReply (replies.Bytes lane)) 10 text
unfolding encode_with
too_many text cs left rest byte fc many small e f bs more fits g =
    let (ys, fy, long, back) = hex_front cs bs left more fc fits.2 (sym e ∙ g) in
    by_rest ys long back
  where
    by_rest : (ys : List ℕ) → length bs ≡ length cs + length ys → left ≡ encode_lower ys ++ 10 ∷ more → ⊥
    by_rest [] long back =
        let above = above_hex_digit (byte / 16) (omega arith) in
        let both : with_byte byte rest ≡ 10 ∷ more = sym f ∙ back in
        let same : slice_index lower_digits (byte / 16) ≡ 10 = cc in
        omega (arith, above, same)
    by_rest (y ∷ ys) long back = let short = fits.1 in omega (arith, long, short)

-- one byte more is read
pub byte_read : (text values left rest : List ℕ) (len byte : ℕ) → len < length values → text ≡ encode_lower (take len values) ++ left → left ≡ with_byte byte rest
    → text ≡ encode_lower (take (len + 1) (slice_set values len byte)) ++ rest
byte_read text values left rest len byte room e f =
    e ∙ ap (λ (t : List ℕ). encode_lower (take len values) ++ t) f ∙ sym (encode_push (take len values) byte rest)
    ∙ ap (λ (bs : List ℕ). encode_lower bs ++ rest) (sym (take_more_set values len byte room))

-- each of some bytes and of one more is one
bytes_push : (bytes : List ℕ) (byte : ℕ) → AreBytes bytes → byte < 256 → AreBytes (bytes ++ byte ∷ [])
bytes_push [] byte h small = (small, tt)
bytes_push (b ∷ bytes) byte h small = (h.0, bytes_push bytes byte h.1 small)

-- so are those that are read
pub bytes_more : (values : List ℕ) (len byte : ℕ) → len < length values → AreBytes (take len values) → byte < 256 → AreBytes (take (len + 1) (slice_set values len byte))
bytes_more values len byte room h small = rw (take_more_set values len byte room) (bytes_push (take len values) byte h small)

-- no bytes are no lane
pub no_bytes : (text cs left : List ℕ) → cs ≡ [] → text ≡ encode_lower cs ++ left → NoByte left → NoneRead encode_lower (λ lane. IsReply (replies.Bytes lane)) 10 text
no_bytes text [] left empty e none bs more fits g =
    let after = after_bytes text [] bs left more tt fits e none g in
    omega (arith, after.1, fits.0)
no_bytes text (c ∷ cs) left empty e none bs more fits g = cc

-- bytes that no line feed ends are no lane
pub not_ended : (text cs left : List ℕ) → AreBytes cs → text ≡ encode_lower cs ++ left → NoByte left → ((rest : List ℕ) → left ≡ 10 ∷ rest → ⊥) → NoneRead encode_lower (λ lane. IsReply (replies.Bytes lane)) 10 text
not_ended text cs left fc e none last bs more fits g = last more (after_bytes text cs bs left more fc fits e none g).0
