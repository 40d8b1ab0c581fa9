-- Passes go to the processors at their places, from the last place on, and come back from the first place on.
use Rattle.std.proofs.Common.{◌≡◌, ℕ, ◌+◌, ◌<◌, ◌≤◌, List, [], ◌∷◌, ◌++◌, length, get_or, slice_index_or, slice_set, Option, None, sym, ap, ◌∙◌, arith, length-append, ⊎_elim}
use Rattle.std.proofs.lemmas.Bool.{cases_lt}
use Rattle.std.proofs.lemmas.List.{get_or_default, get_or-set_same, get_or-set_other, get_or_append_left, length-set}
use Rattle.std.proofs.Math.Seq.{get_or-append_seam}
use Rattle.xs_share.specs.declared.pass.Pass.{Pass}
use Rattle.xs_board.specs.Board.{Board}
use Rattle.xs_machine.specs.declared.proc.Proc.{Proc}

abbrev pub Slots : Type 0
Slots = List (Option (Pass Board))

module _ {B : Type 0} where
  -- the processor with another pass
  abbrev pub seated : Proc B → Option (Pass Board) → Proc B
  seated proc pass = record proc { pass = pass }

  -- the processors from the length of the list on have their passes
  pub record AreSeated (first_list list : Slots) (first procs : List (Proc B)) : Type 0 where
    pub many : length procs ≡ length first
    pub fewer : length list ≤ length first_list
    pub left : (c : ℕ) → c < length list → slice_index_or list c None ≡ slice_index_or first_list c None
    pub below : (c : ℕ) (d : Proc B) → c < length list → slice_index_or procs c d ≡ slice_index_or first c d
    pub above : (c : ℕ) (d : Proc B) → length list ≤ c → c < length first → slice_index_or procs c d ≡ seated (slice_index_or first c d) (slice_index_or first_list c None)

  module _ (first_list list rest : Slots) (first procs : List (Proc B)) (pass : Option (Pass Board)) (are : AreSeated first_list list first procs) (as_many : length first ≡ length first_list) (parts : list ≡ rest ++ pass ∷ []) where
    one_less : length list ≡ length rest + 1
    one_less = ap length parts ∙ length-append rest (pass ∷ [])

    inside : length rest < length procs
    inside = let n = one_less in let f = are.fewer in let m = are.many in omega (arith, as_many)

    pub seat_more : (here default : Proc B) → here ≡ seated (slice_index_or procs (length rest) default) pass → AreSeated first_list rest first (slice_set procs (length rest) here)
    seat_more here default is = record {
      many = length-set procs (length rest) here ∙ are.many;
      fewer = let n = one_less in let f = are.fewer in omega arith;
      left = λ c l. sym (get_or_append_left rest (pass ∷ []) None c l) ∙ (ap (λ (xs : Slots). get_or xs c None) (sym parts) ∙ are.left c (let n = one_less in omega (arith, l)));
      below = λ c d l. get_or-set_other procs (length rest) c here d (λ e. absurd (omega (arith, l, e))) ∙ are.below c d (let n = one_less in omega (arith, l));
      above = λ c d least within. ⊎_elim
          (λ (this : c < length rest + 1). at_seam c d (omega (arith, least, this)))
          (λ (later : length rest + 1 ≤ c). get_or-set_other procs (length rest) c here d (λ e. absurd (omega (arith, later, e))) ∙ are.above c d (let n = one_less in omega (arith, later)) within)
          (cases_lt c (length rest + 1));
    }
      where
        at_seam : (c : ℕ) (d : Proc B) → c ≡ length rest → slice_index_or (slice_set procs (length rest) here) c d ≡ seated (slice_index_or first c d) (slice_index_or first_list c None)
        at_seam c d same =
            let n = one_less in
            let old : slice_index_or procs (length rest) default ≡ slice_index_or first (length rest) default = are.below (length rest) default (omega arith) in
            let slot : pass ≡ slice_index_or first_list (length rest) None = sym (get_or-append_seam rest pass [] None) ∙ ap (λ (xs : Slots). get_or xs (length rest) None) (sym parts) ∙ are.left (length rest) (omega arith) in
            let m = are.many in
            let any : slice_index_or first (length rest) default ≡ slice_index_or first (length rest) d = get_or_default first (length rest) default d (omega (arith, inside, m)) in
            rw same (get_or-set_same procs (length rest) here d inside ∙ is ∙ ap (λ (proc : Proc B). seated proc pass) (old ∙ any) ∙ ap (seated (slice_index_or first (length rest) d)) slot)

  -- the processors below the place gave theirs
  pub record AreCollected (list : Slots) (first procs : List (Proc B)) (place : ℕ) : Type 0 where
    pub many : length procs ≡ length first
    pub count : length list ≡ place
    pub given : (c : ℕ) (d : Proc B) → c < place → slice_index_or list c None ≡ (slice_index_or first c d).pass
    pub below : (c : ℕ) (d : Proc B) → c < place → slice_index_or procs c d ≡ seated (slice_index_or first c d) None
    pub above : (c : ℕ) (d : Proc B) → place ≤ c → c < length first → slice_index_or procs c d ≡ slice_index_or first c d

  module _ (list : Slots) (first procs : List (Proc B)) (place : ℕ) (are : AreCollected list first procs place) (within : place < length procs) where
    pub collect_more : (old here : Proc B) → old ≡ slice_index_or procs place old → here ≡ seated old None → AreCollected (list ++ old.pass ∷ []) first (slice_set procs place here) (place + 1)
    collect_more old here at is = record {
      many = length-set procs place here ∙ are.many;
      count = length-append list (old.pass ∷ []) ∙ ap (λ (n : ℕ). n + 1) are.count;
      given = λ c d l. ⊎_elim
          (λ (before : c < place). let n = are.count in get_or_append_left list (old.pass ∷ []) None c (omega (arith, before)) ∙ are.given c d before)
          (λ (now : place ≤ c). let same : c ≡ place = omega (arith, l, now) in rw same (given_here d))
          (cases_lt c place);
      below = λ c d l. ⊎_elim
          (λ (before : c < place). get_or-set_other procs place c here d (λ e. absurd (omega (arith, before, e))) ∙ are.below c d before)
          (λ (now : place ≤ c). let same : c ≡ place = omega (arith, l, now) in rw same (get_or-set_same procs place here d within ∙ is ∙ ap (λ (proc : Proc B). seated proc None) (old_is d)))
          (cases_lt c place);
      above = λ c d least inside. get_or-set_other procs place c here d (λ e. absurd (omega (arith, least, e))) ∙ are.above c d (omega (arith, least)) inside;
    }
      where
        old_is : (d : Proc B) → old ≡ slice_index_or first place d
        old_is d = let m = are.many in at ∙ get_or_default procs place old d within ∙ are.above place d (omega arith) (omega (arith, within))

        given_here : (d : Proc B) → slice_index_or (list ++ old.pass ∷ []) place None ≡ (slice_index_or first place d).pass
        given_here d = ap (λ (i : ℕ). slice_index_or (list ++ old.pass ∷ []) i None) (sym are.count) ∙ get_or-append_seam list old.pass [] None ∙ ap (λ (proc : Proc B). proc.pass) (old_is d)
