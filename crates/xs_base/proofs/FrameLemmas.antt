-- The bytes of a signal frame: they are a list that code may write word by word, and what a return reads of them.
use Rattle.std.proofs.Common.{◌≡◌, ◌⊎◌, inl, inr, ℕ, ◌+◌, ◌<◌, ◌≤◌, List, length, get_or, refl, sym, ap, ◌∙◌, arith}
use Rattle.std.proofs.lemmas.Grind.{same_number_lists}
use Rattle.std.proofs.lemmas.List.FromFn.{length-map-range_with_len, get_or-map-range_with_len}
use Rattle.std.specs.Prelude.{slice_range}
use Rattle.xs_base.specs.Bytes.{splice, zeros}
use Rattle.xs_base.specs.File.{File}
use Rattle.xs_base.specs.Frame.{word, long, magic1, magic2, frame_bytes, frame_bits, with_words}
use Rattle.xs_base.specs.Standard.{IsStandard, standard_byte, standard_bytes}
use Rattle.xs_base.specs.Task.{frame_length}
use Rattle.xs_base.proofs.ByteLemmas.{length_splice, splice_below, splice_above, range_splice, range_same}

-- ---- the standard bytes as a list

pub standard_length : (file : File) (mask : ℕ) (base : List ℕ) → length (standard_bytes file mask base) ≡ length base
unfolding standard_bytes
standard_length file mask base = length-map-range_with_len (standard_byte file mask base) 0 (length base)

-- each byte
pub standard_at : (file : File) (mask : ℕ) (base : List ℕ) (k : ℕ) → k < length base → get_or (standard_bytes file mask base) k 0 ≡ standard_byte file mask base k
unfolding standard_bytes
standard_at file mask base k lt = get_or-map-range_with_len (standard_byte file mask base) 0 (length base) k k 0 lt (omega arith)

-- Bytes that are the standard ones are this list.
pub standard_is : (file : File) (mask : ℕ) (base out : List ℕ) → IsStandard file mask base out → out ≡ standard_bytes file mask base
standard_is file mask base out h =
    same_number_lists out (standard_bytes file mask base) (h.len ∙ sym (standard_length file mask base))
    (λ k lt.
    let small : k < length base = omega (arith, h.len) in
    h.each k small ∙ sym (standard_at file mask base k small))

-- ---- the words of a frame

-- a frame of these bytes and words
pub frame_is : (file : File) (user size bits : ℕ) (old out : List ℕ) → IsStandard file user (zeros frame_length) old → bits ≡ frame_bits file user → out ≡ with_words user size bits old → out ≡ frame_bytes file user size
unfolding frame_bytes
frame_is file user size bits old out standard bits_are is =
    is ∙ ap (λ n. with_words user size n old) bits_are ∙ ap (with_words user size (frame_bits file user)) (standard_is file user (zeros frame_length) old standard)

-- a part beside what is written over
pub range_apart : (from to at : ℕ) (new old : List ℕ) → at + length new ≤ length old → to ≤ length old → (to ≤ at) ⊎ (at + length new ≤ from) → slice_range (splice at new old) from to ≡ slice_range old from to
range_apart from to at new old fits long (inl before) =
    range_same from to (splice at new old) old (omega (arith, length_splice at new old fits)) long
    (λ k low high. splice_below at new old k fits (omega arith))
range_apart from to at new old fits long (inr behind) =
    range_same from to (splice at new old) old (omega (arith, length_splice at new old fits)) long
    (λ k low high. splice_above at new old k fits (omega arith))

module _ (user size bits : ℕ) (bytes : List ℕ) (low : 576 ≤ size) (room : size + 4 ≤ length bytes) where
  one : List ℕ
  one = splice 464 (word magic1) bytes

  two : List ℕ
  two = splice 468 (word (size + 4)) one

  three : List ℕ
  three = splice 472 (long user) two

  four : List ℕ
  four = splice 480 (word size) three

  five : List ℕ
  five = splice 512 (long bits) four

  len_one : length one ≡ length bytes
  unfolding word one
  len_one = length_splice 464 (word magic1) bytes (omega arith)

  len_two : length two ≡ length bytes
  unfolding word two
  len_two = length_splice 468 (word (size + 4)) one (omega (arith, len_one)) ∙ len_one

  len_three : length three ≡ length bytes
  unfolding long three
  len_three = length_splice 472 (long user) two (omega (arith, len_two)) ∙ len_two

  len_four : length four ≡ length bytes
  unfolding word four
  len_four = length_splice 480 (word size) three (omega (arith, len_three)) ∙ len_three

  len_five : length five ≡ length bytes
  unfolding long five
  len_five = length_splice 512 (long bits) four (omega (arith, len_four)) ∙ len_four

  pub words_length : length (with_words user size bits bytes) ≡ length bytes
  unfolding with_words word one two three four five
  words_length = length_splice size (word magic2) five (omega (arith, len_five)) ∙ len_five

  -- magic2 stands behind the standard bytes
  pub second_magic : slice_range (with_words user size bits bytes) size (size + 4) ≡ word magic2
  unfolding with_words word one two three four five
  second_magic = range_splice size (size + 4) (word magic2) five (omega (arith, len_five)) refl

  -- XSTATE_BV
  pub header_bits : slice_range (with_words user size bits bytes) 512 520 ≡ long bits
  unfolding with_words word long one two three four five
  header_bits =
      range_apart 512 520 size (word magic2) five (omega (arith, len_five)) (omega (arith, len_five)) (inl (omega arith))
      ∙ range_splice 512 520 (long bits) four (omega (arith, len_four)) refl
