-- The words of a frame as a return reads them, and the bytes beside them.
use Rattle.std.proofs.Common.{◌≡◌, ◌⊎◌, inl, inr, ℕ, ◌+◌, ◌<◌, ◌≤◌, ◌^◌, List, length, get_or, refl, ap, ◌∙◌, arith, lit<}
use Rattle.std.proofs.lemmas.Nat.{from_le_bytes-to_le_bytes_4, from_le_bytes-to_le_bytes_8}
use Rattle.std.specs.Int.{from_le_bytes, w32, w64}
use Rattle.std.specs.Prelude.{slice_range}
use Rattle.xs_base.specs.Bytes.{splice}
use Rattle.xs_base.specs.Frame.{word, long, magic1, magic2, with_words, word_at, xfeatures}
use Rattle.xs_base.specs.Header.{xstate_bv}
use Rattle.xs_base.proofs.ByteLemmas.{length_splice, splice_below, splice_above, range_splice}
use Rattle.xs_base.proofs.FrameLemmas.{range_apart, second_magic, header_bits}

-- a byte beside what is written over
beside : (at : ℕ) (new old : List ℕ) (i : ℕ) → at + length new ≤ length old → (i < at) ⊎ (at + length new ≤ i) → get_or (splice at new old) i 0 ≡ get_or old i 0
beside at new old i fits (inl below) = splice_below at new old i fits below
beside at new old i fits (inr above) = splice_above at new old i fits above

module _ (user size bits : ℕ) (bytes : List ℕ) (low : 576 ≤ size) (room : size + 4 ≤ length bytes) where
  one : List ℕ
  one = splice 464 (word magic1) bytes

  two : List ℕ
  two = splice 468 (word (size + 4)) one

  three : List ℕ
  three = splice 472 (long user) two

  four : List ℕ
  four = splice 480 (word size) three

  five : List ℕ
  five = splice 512 (long bits) four

  len_one : length one ≡ length bytes
  unfolding word one
  len_one = length_splice 464 (word magic1) bytes (omega arith)

  len_two : length two ≡ length bytes
  unfolding word two
  len_two = length_splice 468 (word (size + 4)) one (omega (arith, len_one)) ∙ len_one

  len_three : length three ≡ length bytes
  unfolding long three
  len_three = length_splice 472 (long user) two (omega (arith, len_two)) ∙ len_two

  len_four : length four ≡ length bytes
  unfolding word four
  len_four = length_splice 480 (word size) three (omega (arith, len_three)) ∙ len_three

  len_five : length five ≡ length bytes
  unfolding long five
  len_five = length_splice 512 (long bits) four (omega (arith, len_four)) ∙ len_four

  -- ---- the words

  -- a range below XSTATE_BV is that of the words before it
  lower : (from to : ℕ) → to ≤ 512 → slice_range (with_words user size bits bytes) from to ≡ slice_range four from to
  unfolding with_words word long one two three four five
  lower from to small =
      range_apart from to size (word magic2) five (omega (arith, len_five)) (omega (arith, len_five)) (inl (omega arith))
      ∙ range_apart from to 512 (long bits) four (omega (arith, len_four)) (omega (arith, len_four)) (inl small)

  pub reads_magic1 : word_at 464 (with_words user size bits bytes) ≡ magic1
  unfolding word_at word long one two three four
  reads_magic1 =
      ap (from_le_bytes w32) (
      lower 464 468 (omega arith)
      ∙ range_apart 464 468 480 (word size) three (omega (arith, len_three)) (omega (arith, len_three)) (inl (omega arith))
      ∙ range_apart 464 468 472 (long user) two (omega (arith, len_two)) (omega (arith, len_two)) (inl (omega arith))
      ∙ range_apart 464 468 468 (word (size + 4)) one (omega (arith, len_one)) (omega (arith, len_one)) (inl (omega arith))
      ∙ range_splice 464 468 (word magic1) bytes (omega arith) refl)
      ∙ from_le_bytes-to_le_bytes_4 magic1 (lit< tt)

  pub reads_extended : size + 4 < 2 ^ 32 → word_at 468 (with_words user size bits bytes) ≡ size + 4
  unfolding word_at word long one two three four
  reads_extended small =
      ap (from_le_bytes w32) (
      lower 468 472 (omega arith)
      ∙ range_apart 468 472 480 (word size) three (omega (arith, len_three)) (omega (arith, len_three)) (inl (omega arith))
      ∙ range_apart 468 472 472 (long user) two (omega (arith, len_two)) (omega (arith, len_two)) (inl (omega arith))
      ∙ range_splice 468 472 (word (size + 4)) one (omega (arith, len_one)) refl)
      ∙ from_le_bytes-to_le_bytes_4 (size + 4) small

  pub reads_user : user < 2 ^ 64 → xfeatures (with_words user size bits bytes) ≡ user
  unfolding xfeatures word long one two three four
  reads_user small =
      ap (from_le_bytes w64) (
      lower 472 480 (omega arith)
      ∙ range_apart 472 480 480 (word size) three (omega (arith, len_three)) (omega (arith, len_three)) (inl (omega arith))
      ∙ range_splice 472 480 (long user) two (omega (arith, len_two)) refl)
      ∙ from_le_bytes-to_le_bytes_8 user small

  pub reads_size : size < 2 ^ 32 → word_at 480 (with_words user size bits bytes) ≡ size
  unfolding word_at word long one two three four
  reads_size small =
      ap (from_le_bytes w32) (
      lower 480 484 (omega arith)
      ∙ range_splice 480 484 (word size) three (omega (arith, len_three)) refl)
      ∙ from_le_bytes-to_le_bytes_4 size small

  pub reads_magic2 : word_at size (with_words user size bits bytes) ≡ magic2
  unfolding word_at word
  reads_magic2 = ap (from_le_bytes w32) (second_magic user size bits bytes low room) ∙ from_le_bytes-to_le_bytes_4 magic2 (lit< tt)

  pub reads_bits : bits < 2 ^ 64 → xstate_bv (with_words user size bits bytes) ≡ bits
  unfolding xstate_bv long
  reads_bits small = ap (from_le_bytes w64) (header_bits user size bits bytes low room) ∙ from_le_bytes-to_le_bytes_8 bits small

  -- ---- the bytes beside them

  pub kept_byte : (i : ℕ) → (i < 464) ⊎ (520 ≤ i) → i < size → get_or (with_words user size bits bytes) i 0 ≡ get_or bytes i 0
  unfolding with_words word long one two three four five
  kept_byte i (inl below) inside =
      beside size (word magic2) five i (omega (arith, len_five)) (inl inside)
      ∙ beside 512 (long bits) four i (omega (arith, len_four)) (inl (omega arith))
      ∙ beside 480 (word size) three i (omega (arith, len_three)) (inl (omega arith))
      ∙ beside 472 (long user) two i (omega (arith, len_two)) (inl (omega arith))
      ∙ beside 468 (word (size + 4)) one i (omega (arith, len_one)) (inl (omega arith))
      ∙ beside 464 (word magic1) bytes i (omega arith) (inl below)
  kept_byte i (inr above) inside =
      beside size (word magic2) five i (omega (arith, len_five)) (inl inside)
      ∙ beside 512 (long bits) four i (omega (arith, len_four)) (inr above)
      ∙ beside 480 (word size) three i (omega (arith, len_three)) (inr (omega arith))
      ∙ beside 472 (long user) two i (omega (arith, len_two)) (inr (omega arith))
      ∙ beside 468 (word (size + 4)) one i (omega (arith, len_one)) (inr (omega arith))
      ∙ beside 464 (word magic1) bytes i (omega arith) (inr (omega arith))
