-- Draws one at a time.
use Rattle.std.proofs.Common.{◌≡◌, ℕ, zero, suc, ◌+◌, ◌-◌, ◌<◌, ◌≤◌, List, [], ◌∷◌, ◌++◌, length, take, set, ap, sym, ◌∙◌, arith, length-set, refl}
use Rattle.std.proofs.lemmas.List.{append_assoc, append-nil, take_more_set, take_all}
use Rattle.xs_gen.specs.Generated.{after, drawn, draws, next, third_draws}

-- the first of some draws, and the others
draws_first : (n s : ℕ) → 0 < n → draws n s ≡ drawn s ∷ draws (n - 1) (next s)
unfolding draws
draws_first zero s h = absurd (omega arith)
draws_first (suc n) s h = let e : n ≡ suc n - 1 = omega arith in ap (λ k. drawn s ∷ draws k (next s)) e

after_first : (n s : ℕ) → 0 < n → after n s ≡ after (n - 1) (next s)
unfolding after
after_first zero s h = absurd (omega arith)
after_first (suc n) s h = let e : n ≡ suc n - 1 = omega arith in ap (λ k. after k (next s)) e

-- one draw
pub after_one : (s : ℕ) → after 1 s ≡ next s
unfolding after
after_one s = refl

-- no draw
pub draws_none : (s : ℕ) → draws 0 s ≡ []
unfolding draws
draws_none s = refl

pub after_none : (s : ℕ) → after 0 s ≡ s
unfolding after
after_none s = refl

-- Of a run of bytes that are drawn in turn, one more is drawn.
pub draws_more : (bytes all : List ℕ) (i s : ℕ) → i < length bytes → take i bytes ++ draws (length bytes - i) s ≡ all → take (i + 1) (set bytes i (drawn s)) ++ draws (length (set bytes i (drawn s)) - (i + 1)) (next s) ≡ all
draws_more bytes all i s lt h =
    let more : 0 < length bytes - i = omega arith in
    let count : length bytes - i - 1 ≡ length (set bytes i (drawn s)) - (i + 1) = omega (arith, length-set bytes i (drawn s)) in
    rw (take_more_set bytes i (drawn s) lt, append_assoc, ← count, ← draws_first (length bytes - i) s more) h

pub after_more : (bytes : List ℕ) (i s last : ℕ) → i < length bytes → after (length bytes - i) s ≡ last → after (length (set bytes i (drawn s)) - (i + 1)) (next s) ≡ last
after_more bytes i s last lt h =
    let more : 0 < length bytes - i = omega arith in
    let count : length bytes - i - 1 ≡ length (set bytes i (drawn s)) - (i + 1) = omega (arith, length-set bytes i (drawn s)) in
    rw (← count, ← after_first (length bytes - i) s more) h

-- All are drawn.
pub draws_done : (bytes all : List ℕ) (i s : ℕ) → length bytes ≤ i → take i bytes ++ draws (length bytes - i) s ≡ all → bytes ≡ all
draws_done bytes all i s ge h =
    let none : length bytes - i ≡ 0 = omega arith in
    sym (append-nil bytes) ∙ ap (λ (bs : List ℕ). bs ++ []) (sym (take_all i bytes ge)) ∙ rw (none, draws_none) at h

pub after_done : (bytes : List ℕ) (i s last : ℕ) → length bytes ≤ i → after (length bytes - i) s ≡ last → s ≡ last
after_done bytes i s last ge h = let none : length bytes - i ≡ 0 = omega arith in rw (none, after_none) at h

-- ---- the draws of a round

after_add : (m n s : ℕ) → after (m + n) s ≡ after n (after m s)
unfolding after
after_add zero n s = let e : zero + n ≡ n = omega arith in ap (λ k. after k s) e
after_add (suc m) n s = let e : suc m + n ≡ suc (m + n) = omega arith in ap (λ k. after k s) e ∙ after_add m n (next s)

-- one draw, and sixteen
pub after_seventeen : (s : ℕ) → after 17 s ≡ after 16 (next s)
after_seventeen s = after_first 17 s (omega arith)

-- those of the third line behind them
pub after_round_is : (r s : ℕ) → after (17 + third_draws r) s ≡ after (third_draws r) (after 16 (next s))
after_round_is r s = after_add 17 (third_draws r) s ∙ ap (λ t. after (third_draws r) t) (after_seventeen s)
