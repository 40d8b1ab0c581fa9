-- The names of the blocks that pass a test, and the block of a name.
use Rattle.std.proofs.Common.{◌≡◌, ℕ, Bool, true, false, List, [], ◌∷◌, ◌++◌, Option, Some, None, refl, sym, ◌∙◌, subst}
use Rattle.std.specs.Prelude.{bytes_eq, if◌then◌else◌}
use Rattle.std.specs.List.{AllByRecursion}
use Rattle.std.proofs.lemmas.Bool.{or_right, false_from_ne_true, or_from}
use Rattle.std.proofs.lemmas.Slice.Eq.{bytes_eq-Decides}
use Rattle.xs_model.specs.declared.script.Block.{Block}
use Rattle.xs_model.specs.Names.{block_of}
use Rattle.xs_model.specs.Script.{is_name, AreDistinct}
use Rattle.xs_script.specs.Refusal.{is_among}
use Rattle.xs_script.specs.Body.{names_of}

-- a name, where a test passes
abbrev pub name_where : Bool → List ℕ → List (List ℕ)
name_where true name = name ∷ []
name_where false name = []

-- the names of the blocks that pass
abbrev pub names_where : (Block → Bool) → List Block → List (List ℕ)
names_where test [] = []
names_where test (b ∷ blocks) = name_where (test b) b.name ++ names_where test blocks

-- there is a block, and it passes
abbrev pub passes : (Block → Bool) → Option Block → Bool
passes test None = false
passes test (Some block) = test block

-- a name from which all others differ isn't among them
not_among : (names : List (List ℕ)) (name : List ℕ) → AllByRecursion (λ other. other ≡ name → ⊥) names → is_among name names ≡ false
not_among [] name h = refl
not_among (n ∷ names) name h =
    or_from (bytes_eq n name) (is_among name names) (false_from_ne_true (bytes_eq n name) (λ t. h.0 ((bytes_eq-Decides n name).0 t))) (not_among names name h.1)

module _ (test : Block → Bool) where
  -- the name of a block that passes is one of a block
  where_among : (blocks : List Block) (name : List ℕ) → is_among name (names_where test blocks) ≡ true → is_among name (names_of blocks) ≡ true
  where_among [] name h = absurd (cc h)
  where_among (b ∷ blocks) name h = by_test (test b) (bytes_eq b.name name) refl h (where_among blocks name)
    where
      by_test : (p t : Bool) → t ≡ bytes_eq b.name name → is_among name (name_where p b.name ++ names_where test blocks) ≡ true → (is_among name (names_where test blocks) ≡ true → is_among name (names_of blocks) ≡ true) → is_among name (names_of (b ∷ blocks)) ≡ true
      by_test p true is h more = rw (sym is) refl
      by_test false false is h more = rw (sym is) (more h)
      by_test true false is h more = let later : is_among name (names_where test blocks) ≡ true = rw (sym is) at h in rw (sym is) (more later)

  -- a name among those is that of a block that passes, where each block has another name
  pub where_passes : (blocks : List Block) (name : List ℕ) → AreDistinct (names_of blocks) → is_among name (names_where test blocks) ≡ true → passes test (block_of blocks name) ≡ true
  where_passes [] name d h = absurd (cc h)
  where_passes (b ∷ blocks) name d h = by_test (test b) refl (bytes_eq b.name name) refl h (where_passes blocks name d.1)
    where
      no_later : bytes_eq b.name name ≡ true → is_among name (names_where test blocks) ≡ true → ⊥
      no_later t h =
          let same : b.name ≡ name = (bytes_eq-Decides b.name name).0 t in
          let other = not_among (names_of blocks) name (subst (λ (n : List ℕ). AllByRecursion (λ other. other ≡ n → ⊥) (names_of blocks)) same d.0) in
          cc (sym (where_among blocks name h) ∙ other)

      by_test : (p : Bool) → p ≡ test b → (t : Bool) → t ≡ bytes_eq b.name name → is_among name (name_where p b.name ++ names_where test blocks) ≡ true → (is_among name (names_where test blocks) ≡ true → passes test (block_of blocks name) ≡ true) → passes test (block_of (b ∷ blocks) name) ≡ true
      by_test false k true is h more = absurd (no_later (sym is) h)
      by_test true k true is h more = rw (sym is) (sym k)
      by_test false k false is h more = rw (sym is) (more h)
      by_test true k false is h more = let later : is_among name (names_where test blocks) ≡ true = rw (sym is) at h in rw (sym is) (more later)

  -- the name of a block that passes is among those
  pub passes_where : (blocks : List Block) (name : List ℕ) → passes test (block_of blocks name) ≡ true → is_among name (names_where test blocks) ≡ true
  passes_where [] name h = absurd (cc h)
  passes_where (b ∷ blocks) name h = by_test (bytes_eq b.name name) refl h (passes_where blocks name)
    where
      first : (p : Bool) → p ≡ true → bytes_eq b.name name ≡ true → is_among name (name_where p b.name ++ names_where test blocks) ≡ true
      first true k t = rw t refl
      first false k t = absurd (cc k)

      later : (p : Bool) → is_among name (names_where test blocks) ≡ true → is_among name (name_where p b.name ++ names_where test blocks) ≡ true
      later true h = or_right (bytes_eq b.name name) (is_among name (names_where test blocks)) h
      later false h = h

      by_test : (t : Bool) → t ≡ bytes_eq b.name name → passes test (if t then Some b else block_of blocks name) ≡ true → (passes test (block_of blocks name) ≡ true → is_among name (names_where test blocks) ≡ true) → is_among name (name_where (test b) b.name ++ names_where test blocks) ≡ true
      by_test true is h more = first (test b) h (sym is)
      by_test false is h more = later (test b) (more h)

  -- and it is spelled as the name of a block
  pub passes_name : (blocks : List Block) (name : List ℕ) → AllByRecursion (λ (block : Block). is_name block.name ≡ true) blocks → passes test (block_of blocks name) ≡ true → is_name name ≡ true
  passes_name [] name names h = absurd (cc h)
  passes_name (b ∷ blocks) name names h = by_test (bytes_eq b.name name) refl h (passes_name blocks name names.1)
    where
      by_test : (t : Bool) → t ≡ bytes_eq b.name name → passes test (if t then Some b else block_of blocks name) ≡ true → (passes test (block_of blocks name) ≡ true → is_name name ≡ true) → is_name name ≡ true
      by_test true is h more = subst (λ (n : List ℕ). is_name n ≡ true) ((bytes_eq-Decides b.name name).0 (sym is)) names.0
      by_test false is h more = more h
