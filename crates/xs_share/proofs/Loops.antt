-- What the loops of `open` and `close` keep, and what the passes know at the end.
use Rattle.std.proofs.Common.{◌≡◌, ℕ, ◌+◌, ◌<◌, ◌≤◌, true, false, List, [], ◌∷◌, ◌++◌, length, slice_index_or, get_or, All, Contains, Option, Some, None, MatchOption, sym, ap, ◌∙◌, subst, ⊎_elim, suc, arith, length-append}
use Rattle.std.proofs.lemmas.Bool.{cases_lt}
use Rattle.std.proofs.lemmas.List.{get_or_append_left}
use Rattle.std.proofs.Math.Seq.{get_or-append_seam}
use mathlib.Core.Option.{some, some-injective}
use lib.ListN.{get_elem?}
use Rattle.atomic_table.specs.Table.{Final, Seen}
use Rattle.atomic_table.specs.Seated.{TableId}
use Rattle.atomic_table.specs.declared.shared.Seat.{Seat}
use Rattle.xs_share.specs.declared.rule.View.{View}
use Rattle.xs_share.specs.declared.pass.Pass.{Pass}
use Rattle.xs_share.specs.declared.pass.Passes.{Passes}
use Rattle.xs_share.specs.Rule.{Ruled, with_pass, new_pass, without_pass}
use Rattle.xs_share.specs.Passes.{home_of, view, opened, EachPass, HasAll, IsIdle, IsNew}
use Rattle.xs_share.proofs.Keeper.{comes_back}

module _ {K : Type 0} where
  -- the keeper of that shared value, opened with k, has made the passes of the list
  pub record HasMade (name : TableId) (k : K) (list : List (Option (Pass K))) (keeper : Seat (Option K) (View K)) : Type 0 where
    pub table : keeper.table_id ≡ name
    pub hand : keeper.me.1 ≡ []
    pub keeps : (keeper.me.0.keeps ≡ true) × (keeper.me.0.works ≡ false)
    pub counts : (keeper.me.0.made ≡ length list) × (keeper.me.0.out ≡ length list)
    pub none_ended : keeper.me.0.ended ≡ []
    pub opened : keeper.me.0.first ≡ k
    pub new : EachPass (IsNew name k) list

  -- of all passes, the keeper has taken back those that are no longer in the list
  pub record HasBack (ps : Passes K) (list : List (Option (Pass K))) (keeper : Seat (Option K) (View K)) : Type 0 where
    pub table : keeper.table_id ≡ ps.keeper.table_id
    pub hand : keeper.me.1 ≡ []
    pub keeps : (keeper.me.0.keeps ≡ true) × (keeper.me.0.works ≡ false)
    pub counts : (keeper.me.0.made ≡ ps.keeper.me.0.made) × (keeper.me.0.out ≡ length list)
    pub opened : keeper.me.0.first ≡ ps.keeper.me.0.first
    pub fewer : length list ≤ length ps.list.items
    pub left : (c : ℕ) → c < length list → slice_index_or list c None ≡ slice_index_or ps.list.items c None
    pub ended : (c : ℕ) → length list ≤ c → c < length ps.list.items → MatchOption (slice_index_or ps.list.items c None) ⊥ (λ p. Contains keeper.me.0.ended (c, (view p).last))

  longer : (list : List (Option (Pass K))) (p : Pass K) → length (list ++ Some p ∷ []) ≡ length list + 1
  longer list p = length-append list (Some p ∷ [])

  -- the keeper makes one more pass
  pub makes_one : (name : TableId) (k : K) (list : List (Option (Pass K))) (keeper keeper' : Seat (Option K) (View K)) (p : Pass K) → HasMade name k list keeper → keeper'.table_id ≡ keeper.table_id
      → keeper'.me ≡ (with_pass keeper.me.0, keeper.me.1) → home_of p ≡ name → view p ≡ new_pass keeper.me.0 → HasMade name k (list ++ Some p ∷ []) keeper'
  makes_one name k list keeper keeper' p h same now home sees = record {
    table = same ∙ h.table;
    hand = ap (λ m. m.1) now ∙ h.hand;
    keeps = (ap (λ m. m.0.keeps) now ∙ h.keeps.0, ap (λ m. m.0.works) now ∙ h.keeps.1);
    counts = (ap (λ m. m.0.made) now ∙ (ap (λ (n : ℕ). n + 1) h.counts.0 ∙ sym (longer list p)), ap (λ m. m.0.out) now ∙ (ap (λ (n : ℕ). n + 1) h.counts.1 ∙ sym (longer list p)));
    none_ended = ap (λ m. m.0.ended) now ∙ h.none_ended;
    opened = ap (λ m. m.0.first) now ∙ h.opened;
    new = λ c l. ⊎_elim (λ (before : c < length list). subst (λ slot. MatchOption slot ⊥ (IsNew name k c)) (sym (get_or_append_left list (Some p ∷ []) None c before)) (h.new c before))
        (λ (last : length list ≤ c). let here : length list ≡ c = let n = longer list p in omega arith in
        subst (λ (i : ℕ). MatchOption (get_or (list ++ Some p ∷ []) i None) ⊥ (IsNew name k i)) here
        (subst (λ slot. MatchOption slot ⊥ (IsNew name k (length list))) (sym (get_or-append_seam list (Some p) [] None)) made))
        (cases_lt c (length list));
  }
    where
      made : IsNew name k (length list) p
      made = record {
        idle = record { home = home; number = ap (λ v. v.number) sees ∙ h.counts.0; turn = ap (λ v. v.turn) sees };
        last = ap (λ v. v.last) sees ∙ h.opened;
        mark = ap (λ v. v.mark) sees;
      }

  -- the keeper takes the last pass of the list back
  pub takes_one_back : (ps : Passes K) (list rest : List (Option (Pass K))) (keeper keeper' : Seat (Option K) (View K)) (p : Pass K) → HasBack ps list keeper → list ≡ rest ++ Some p ∷ []
      → (view p).number ≡ length rest → keeper'.table_id ≡ keeper.table_id → keeper'.me ≡ (without_pass keeper.me.0 (view p), keeper.me.1) → HasBack ps rest keeper'
  takes_one_back ps list rest keeper keeper' p h parts number same now = record {
    table = same ∙ h.table;
    hand = ap (λ m. m.1) now ∙ h.hand;
    keeps = (ap (λ m. m.0.keeps) now ∙ h.keeps.0, ap (λ m. m.0.works) now ∙ h.keeps.1);
    counts = (ap (λ m. m.0.made) now ∙ h.counts.0, ap (λ m. m.0.out) now ∙ number);
    opened = ap (λ m. m.0.first) now ∙ h.opened;
    fewer = let n = one_less in let f = h.fewer in omega arith;
    left = λ c l. sym (get_or_append_left rest (Some p ∷ []) None c l) ∙ (ap (λ xs. get_or xs c None) (sym parts) ∙ h.left c (let n = one_less in omega arith));
    ended = λ c l within. ⊎_elim
        (λ (now_back : c < length rest + 1). let here : length rest ≡ c = omega arith in subst (λ (i : ℕ). MatchOption (slice_index_or ps.list.items i None) ⊥ (λ q. Contains keeper'.me.0.ended (i, (view q).last))) here this)
        (λ (before : length rest + 1 ≤ c). more c (slice_index_or ps.list.items c None) (h.ended c (let n = one_less in omega arith) within))
        (cases_lt c (length rest + 1));
  }
    where
      one_less : length list ≡ length rest + 1
      one_less = ap length parts ∙ longer rest p

      ended_is : keeper'.me.0.ended ≡ ((view p).number, (view p).last) ∷ keeper.me.0.ended
      ended_is = ap (λ m. m.0.ended) now

      more : (c : ℕ) (slot : Option (Pass K)) → MatchOption slot ⊥ (λ q. Contains keeper.me.0.ended (c, (view q).last)) → MatchOption slot ⊥ (λ q. Contains keeper'.me.0.ended (c, (view q).last))
      more c None has = has
      more c (Some q) has = subst (λ xs. Contains xs (c, (view q).last)) (sym ended_is) (suc has.0, (let l = has.1 in omega arith), has.2)

      this : MatchOption (slice_index_or ps.list.items (length rest) None) ⊥ (λ q. Contains keeper'.me.0.ended (length rest, (view q).last))
      this = let at : get_or list (length rest) None ≡ Some p = ap (λ xs. get_or xs (length rest) None) parts ∙ get_or-append_seam rest (Some p) [] None in
          let there = sym (h.left (length rest) (let n = one_less in omega arith)) ∙ at in
          subst (λ slot. MatchOption slot ⊥ (λ q. Contains keeper'.me.0.ended (length rest, (view q).last))) (sym there)
          (subst (λ xs. Contains xs (length rest, (view p).last)) (sym ended_is) (0, (omega arith), (λ i. (number i, (view p).last))))

  pub last_is_idle : (ps : Passes K) (list rest : List (Option (Pass K))) (keeper : Seat (Option K) (View K)) (p : Pass K) (name : TableId) → HasBack ps list keeper → list ≡ rest ++ Some p ∷ []
      → EachPass (IsIdle name) ps.list.items → IsIdle name (length rest) p
  last_is_idle ps list rest keeper p name h parts idle = let n = ap length parts ∙ longer rest p in let within : length rest < length list = omega arith in
      let there : slice_index_or ps.list.items (length rest) None ≡ Some p = sym (h.left (length rest) within) ∙ (ap (λ xs. get_or xs (length rest) None) parts ∙ get_or-append_seam rest (Some p) [] None) in
      subst (λ slot. MatchOption slot ⊥ (IsIdle name (length rest))) there (idle (length rest) (let f = h.fewer in omega arith))

module _ {K : Type 0} (follows : ℕ → K → K → Type 0) where
  -- to the processor of each pass that was taken back the value follows what that pass last took or gave
  all_follow : (ended : List (ℕ × K)) (k : K) → All (λ p. follows p.0 p.1 k) ended → (c : ℕ) (slot : Option (Pass K)) → MatchOption slot ⊥ (λ p. Contains ended (c, (view p).last))
      → MatchOption slot ⊥ (λ p. follows c (view p).last k)
  all_follow ended k all c None has = has
  all_follow ended k all c (Some p) has = subst (λ (x : ℕ × K). follows x.0 x.1 k) has.2 (all has.0 (c, (view p).last) has.1)

  -- what lies in the slot once all passes are back
  pub comes_home : (name : TableId) (ps : Passes K) (list : List (Option (Pass K))) (keeper : Seat (Option K) (View K)) (words : List ℕ) (slots : List (Option K)) (slot : Option K) → HasAll name ps → HasBack ps list keeper → length list ≡ 0
      → Final (Seen (Ruled follows) keeper.id keeper.me.0) words slots → get_elem? slots 0 ≡ some slot
      → (k : K) × (slot ≡ Some k) × EachPass (λ c p. follows c (view p).last k) ps.list.items × ((c : ℕ) → length ps.list.items ≤ c → follows c (opened ps) k)
  comes_home name ps list keeper words slots slot whole h all final at = let back = comes_back follows keeper.id keeper.me.0 words slots h.keeps.0 (h.counts.1 ∙ all) final in (
    back.0,
    some-injective slot (Some back.0) (sym at ∙ back.1),
    (λ c l. all_follow keeper.me.0.ended back.0 back.2 c (slice_index_or ps.list.items c None) (h.ended c (omega arith) l)),
    (λ c l. subst (λ x. follows c x back.0) h.opened (back.3 c (let made = h.counts.0 in let count = whole.count in omega arith))),
  )
