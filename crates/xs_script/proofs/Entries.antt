-- Texts of numbers, and of the entries of a schedule.
use Rattle.std.proofs.Common.{◌≡◌, ℕ, List, [], ◌∷◌, ◌++◌, refl, sym, ◌∙◌, arith, decimal}
use Rattle.std.proofs.lemmas.List.{append-nil, append_assoc}
use Rattle.std.proofs.lemmas.Fmt.{decimal_injective}
use Rattle.std.specs.List.{AllByRecursion}
use Rattle.xs_script.specs.ScriptLine.{IsNumber, entries_text}
use Rattle.xs_base.specs.Bytes.{Lacks}
use Rattle.xs_base.proofs.Cuts.{one_cut, no_cut}
use Rattle.xs_script.proofs.Cuts.{Lacks-append, Lacks-decimal}

-- a number's digits lack the space and the line feed
pub lacks_space : (n : ℕ) → IsNumber n → Lacks 32 (decimal n)
lacks_space n fits = Lacks-decimal 32 n (omega arith) (omega arith)

pub lacks_feed : (n : ℕ) → IsNumber n → Lacks 10 (decimal n)
lacks_feed n fits = Lacks-decimal 10 n (omega arith) (omega arith)

-- two numbers are cut at the space between them
pub one_pair : (m n : ℕ) (x y : List ℕ) → IsNumber m → IsNumber n → decimal m ++ 32 ∷ x ≡ decimal n ++ 32 ∷ y → (m ≡ n) × (x ≡ y)
one_pair m n x y fm fn e =
    let cut = one_cut 32 (decimal m) (decimal n) x y (lacks_space m fm) (lacks_space n fn) e in
    (decimal_injective m n (omega arith) (omega arith) cut.0, cut.1)

-- entries have no line feed in their text
pub lacks_entries : (entries : List ℕ) → AllByRecursion IsNumber entries → Lacks 10 (entries_text entries)
lacks_entries [] fits = tt
lacks_entries (n ∷ entries) fits = Lacks-append 10 (32 ∷ decimal n) (entries_text entries) (λ e. omega arith, lacks_feed n fits.0) (lacks_entries entries fits.1)

-- nothing, or a space and more
abbrev pub IsSpaced : List ℕ → Type 0
IsSpaced [] = Unit {0}
IsSpaced (b ∷ bs) = b ≡ 32

pub spaced_entries : (entries : List ℕ) → IsSpaced (entries_text entries)
spaced_entries [] = tt
spaced_entries (n ∷ entries) = refl

-- a number before such a text is cut in one way
pub cut_number : (m n : ℕ) (x y : List ℕ) → IsNumber m → IsNumber n → IsSpaced x → IsSpaced y → decimal m ++ x ≡ decimal n ++ y → (m ≡ n) × (x ≡ y)
cut_number m n [] [] fm fn sx sy e = (decimal_injective m n (omega arith) (omega arith) (sym (append-nil (decimal m)) ∙ e ∙ append-nil (decimal n)), refl)
cut_number m n [] (b ∷ y) fm fn sx sy e =
    let whole : decimal m ≡ decimal n ++ 32 ∷ y = rw sy at (sym (append-nil (decimal m)) ∙ e) in
    absurd (no_cut 32 (decimal m) (decimal n) y (lacks_space m fm) whole)
cut_number m n (b ∷ x) [] fm fn sx sy e =
    let whole : decimal n ≡ decimal m ++ 32 ∷ x = rw sx at (sym (append-nil (decimal n)) ∙ sym e) in
    absurd (no_cut 32 (decimal n) (decimal m) x (lacks_space n fn) whole)
cut_number m n (b ∷ x) (c ∷ y) fm fn sx sy e =
    let both : decimal m ++ 32 ∷ x ≡ decimal n ++ 32 ∷ y = rw (sx, sy) at e in
    let cut = one_pair m n x y fm fn both in
    (cut.0, cc (sx, sy, cut.1))

-- one entry more
pub entries_more : (n : ℕ) (entries : List ℕ) (rest : List ℕ) → entries_text (n ∷ entries) ++ rest ≡ 32 ∷ (decimal n ++ (entries_text entries ++ rest))
entries_more n entries rest = append_assoc (32 ∷ decimal n) (entries_text entries) rest

-- a text is that of one list of entries
pub one_entries : (a b : List ℕ) → AllByRecursion IsNumber a → AllByRecursion IsNumber b → entries_text a ≡ entries_text b → a ≡ b
one_entries [] [] fa fb e = refl
one_entries [] (n ∷ b) fa fb e = absurd (cc e)
one_entries (m ∷ a) [] fa fb e = absurd (cc e)
one_entries (m ∷ a) (n ∷ b) fa fb e =
    let tail : decimal m ++ entries_text a ≡ decimal n ++ entries_text b = cc e in
    let cut = cut_number m n (entries_text a) (entries_text b) fa.0 fb.0 (spaced_entries a) (spaced_entries b) tail in
    cc (cut.0, one_entries a b fa.1 fb.1 cut.1)

-- Where entries come first and no entry next, a text is that of no entries.
pub no_entries : (done entries : List ℕ) (left : List ℕ) → AllByRecursion IsNumber done → AllByRecursion IsNumber entries → ((n : ℕ) (more : List ℕ) → IsNumber n → left ≡ decimal n ++ entries_text more → ⊥) → entries_text done ++ 32 ∷ left ≡ entries_text entries → ⊥
no_entries [] [] left fd fe none e = cc e
no_entries [] (n ∷ entries) left fd fe none e = none n entries fe.0 (cc e)
no_entries (m ∷ done) [] left fd fe none e = cc (sym (entries_more m done (32 ∷ left)) ∙ e)
no_entries (m ∷ done) (n ∷ entries) left fd fe none e =
    let whole : 32 ∷ (decimal m ++ (entries_text done ++ 32 ∷ left)) ≡ 32 ∷ (decimal n ++ entries_text entries) = sym (entries_more m done (32 ∷ left)) ∙ e in
    let tail : decimal m ++ (entries_text done ++ 32 ∷ left) ≡ decimal n ++ entries_text entries = cc whole in
    let cut = cut_number m n (entries_text done ++ 32 ∷ left) (entries_text entries) fd.0 fe.0 (spaced done left) (spaced_entries entries) tail in
    no_entries done entries left fd.1 fe.1 none cut.1
  where
    spaced : (done left : List ℕ) → IsSpaced (entries_text done ++ 32 ∷ left)
    spaced [] left = refl
    spaced (n ∷ done) left = refl
