-- The table at its opening, and what the keeper does, keep the rule of the table.
use Rattle.std.proofs.Common.{◌≡◌, ◌≢◌, ℕ, zero, suc, ◌+◌, ◌<◌, ◌≤◌, true, false, List, [], ◌∷◌, length, replicate, get_or, set, All, Option, Some, sym, refl, ap, ◌∙◌, subst, ⊎_elim, arith, length-set, length-append}
use Rattle.std.proofs.lemmas.Bool.{false≢true, cases_lt}
use mathlib.Core.Option.{some, some-injective, some-ne-none}
use mathlib.Core.Logic.{dite}
use native.Mathlib.Decide.{ℕ_discrete}
use lib.ListN.{get_elem?, get_or-replicate}
use Rattle.atomic_table.specs.Table.{State, Splits, Joins, opening, Final, Seen}
use Rattle.atomic_table.proofs.Lists.{set_else, at_longer}
use Rattle.xs_share.specs.declared.rule.View.{View}
use Rattle.xs_share.specs.Rule.{keeper, with_pass, new_pass, without_pass, spent, Knows, Ruled}
use Rattle.xs_share.proofs.Views.{at_longer_by, at_same, each_set}

module _ {K : Type 0} (follows : ℕ → K → K → Type 0) where
  abbrev Table : Type 0
  Table = State (Option K) (View K)

  abbrev Rule : Table → Type 0
  Rule = Ruled follows

  abbrev KnowsAt : K → List ℕ → ℕ → ℕ → ℕ → View K → Type 0
  KnowsAt = Knows follows

  -- The table as `open` makes it
  pub begins : (same : (c : ℕ) (k : K) → follows c k k) (k : K) → Rule (opening (replicate 17 0) (Some k ∷ []) (keeper k))
  begins same k = record {
    last = k;
    made = 0;
    out = 0;
    order = (omega arith, omega arith);
    count = refl;
    wide = refl;
    deep = refl;
    home = λ _. refl;
    away = λ other. absurd (other refl);
    unmarked = λ c _ l. get_or-replicate 17 (c + 1) 0 0 (omega arith);
    each = λ j v e. the_keeper j v e;
  }
    where
      own : KnowsAt k (replicate 17 0) 0 0 0 (keeper k)
      own = record {
        keeper = λ _. (refl, refl, refl);
        unmade = λ _ c _. same c k;
        ended = λ _ p d l. absurd (omega arith);
        seat = λ e. absurd (false≢true e);
        since = λ e. absurd (false≢true e);
        turn = λ e. absurd (false≢true e);
        mark = λ e. absurd (false≢true e);
      }

      the_keeper : (j : ℕ) (v : View K) → get_elem? (keeper k ∷ []) j ≡ some v → KnowsAt k (replicate 17 0) 0 0 j v
      the_keeper zero v e = subst (KnowsAt k (replicate 17 0) 0 0 0) (some-injective (keeper k) v e) own
      the_keeper (suc j) v e = absurd (some-ne-none v (sym e))

  pub begins_as : (same : (c : ℕ) (k : K) → follows c k k) (k first : K) (slots : List (Option K)) → slots ≡ Some k ∷ [] → first ≡ k → Rule (opening (replicate 17 0) slots (keeper first))
  begins_as same k first slots at_home is = subst (λ (x : List (Option K) × K). Rule (opening (replicate 17 0) x.0 (keeper x.1))) (λ i. (sym at_home i, sym is i)) (begins same k)

  -- the keeper makes one more pass, which saw what was opened
  pub can_make : (id : ℕ) (v : View K) → v.keeps ≡ true → v.works ≡ false → v.out ≡ v.made → v.ended ≡ [] → v.made < 16 → Splits Rule id v (with_pass v) (new_pass v)
  can_make id v kept idle all none_ended room s r at = record {
    last = r.last;
    made = r.made + 1;
    out = r.out + 1;
    order = (let o = r.order.0 in omega arith, let m = (own.keeper kept).1 in omega arith);
    count = length-append vs (new_pass v ∷ []) ∙ ap (λ (n : ℕ). n + 1) (length-set s.views id (with_pass v) ∙ r.count);
    wide = r.wide;
    deep = r.deep;
    home = r.home;
    away = λ z. let a = r.away z in (a.0, at_longer vs (new_pass v ∷ []) _ a.0 (set_else s.views id _ (with_pass v) (λ here. not_here a.0 (ap (get_elem? s.views) (sym here) ∙ a.1) a.2) ∙ a.1), a.2, a.3);
    unmarked = λ c h l. r.unmarked c (omega arith) l;
    each = λ j b e. ⊎_elim (λ t. each_set (KnowsAt r.last s.words (r.made + 1) (r.out + 1)) s.views id (with_pass v) mine others j b t)
        (λ (t : (j ≡ length vs) × (new_pass v ≡ b)). subst (λ (x : ℕ × View K). KnowsAt r.last s.words (r.made + 1) (r.out + 1) x.0 x.1) (λ k. (sym t.0 k, t.1 k)) new) (at_longer_by vs (new_pass v) b j e);
  }
    where
      own : KnowsAt r.last s.words r.made r.out id v
      own = r.each id v at

      vs : List (View K)
      vs = set s.views id (with_pass v)

      not_here : (b : View K) → get_elem? s.views id ≡ some b → b.works ≡ true → ⊥
      not_here b e w = false≢true (sym idle ∙ (ap (λ (x : View K). x.works) (at_same s.views id v b at e) ∙ w))

      mine : KnowsAt r.last s.words (r.made + 1) (r.out + 1) id (with_pass v)
      mine = record {
        keeper = λ e. let k = own.keeper e in (k.0, ap (λ (n : ℕ). n + 1) k.1, ap (λ (n : ℕ). n + 1) k.2);
        unmade = λ e c l. own.unmade e c (omega arith);
        ended = λ _ i d l. absurd (let none_yet = ap length none_ended in omega arith);
        seat = λ w. absurd (false≢true (sym idle ∙ w));
        since = λ w. absurd (false≢true (sym idle ∙ w));
        turn = λ w. absurd (false≢true (sym idle ∙ w));
        mark = λ w. absurd (false≢true (sym idle ∙ w));
      }

      others : (j : ℕ) (b : View K) → j ≢ id → get_elem? s.views j ≡ some b → KnowsAt r.last s.words (r.made + 1) (r.out + 1) j b
      others j b other e = let knows = r.each j b e in record {
        keeper = λ k. absurd (other ((knows.keeper k).0 ∙ sym (own.keeper kept).0));
        unmade = λ k. absurd (other ((knows.keeper k).0 ∙ sym (own.keeper kept).0));
        ended = λ k. absurd (other ((knows.keeper k).0 ∙ sym (own.keeper kept).0));
        seat = λ w. let k = knows.seat w in (k.0, let l = k.1 in omega arith);
        since = knows.since;
        turn = knows.turn;
        mark = knows.mark;
      }

      new : KnowsAt r.last s.words (r.made + 1) (r.out + 1) (length vs) (new_pass v)
      new = let made = (own.keeper kept).1 in let out = (own.keeper kept).2 in record {
        keeper = λ e. absurd (false≢true e);
        unmade = λ e. absurd (false≢true e);
        ended = λ e. absurd (false≢true e);
        seat = λ _. (length-set s.views id (with_pass v) ∙ (r.count ∙ ap (λ (n : ℕ). n + 1) (sym made)), omega arith);
        since = λ _. own.unmade kept v.made (omega arith);
        turn = λ _ t. absurd (false≢true t);
        mark = λ _. r.unmarked v.made (omega arith) room;
      }

  -- the keeper takes the last pass back
  pub can_take_back : (blank : K) (id : ℕ) (v : View K) (other : ℕ) (w : View K) → v.keeps ≡ true → v.works ≡ false → w.works ≡ true → w.turn ≡ false → w.number + 1 ≡ v.out
      → Joins Rule id v other w (without_pass v w) (spent blank)
  can_take_back blank id v other w kept idle works done next s r at apart there = record {
    last = r.last;
    made = r.made;
    out = w.number;
    order = (let o = r.order.0 in let k = (own.keeper kept).2 in omega arith, r.order.1);
    count = length-set vs other (spent blank) ∙ (length-set s.views id (without_pass v w) ∙ r.count);
    wide = r.wide;
    deep = r.deep;
    home = r.home;
    away = λ z. let a = r.away z in (
      a.0,
      set_else vs other _ (spent blank) (λ here. not_other a.0 (ap (get_elem? s.views) (sym here) ∙ a.1) a.3)
          ∙ (set_else s.views id _ (without_pass v w) (λ here. not_here a.0 (ap (get_elem? s.views) (sym here) ∙ a.1) a.2) ∙ a.1),
      a.2,
      a.3,
    );
    unmarked = r.unmarked;
    each = each_set (KnowsAt r.last s.words r.made w.number) vs other (spent blank) nothing
        (λ j b not_it e. each_set (λ i c. i ≢ other → KnowsAt r.last s.words r.made w.number i c) s.views id (without_pass v w) (λ _. mine) others j b e not_it);
  }
    where
      own : KnowsAt r.last s.words r.made r.out id v
      own = r.each id v at

      vs : List (View K)
      vs = set s.views id (without_pass v w)

      was : get_elem? s.views other ≡ some w
      was = sym (set_else s.views id other (without_pass v w) apart) ∙ there

      gone : KnowsAt r.last s.words r.made r.out other w
      gone = r.each other w was

      not_here : (b : View K) → get_elem? s.views id ≡ some b → b.works ≡ true → ⊥
      not_here b e work = false≢true (sym idle ∙ (ap (λ (x : View K). x.works) (at_same s.views id v b at e) ∙ work))

      not_other : (b : View K) → get_elem? s.views other ≡ some b → b.turn ≡ true → ⊥
      not_other b e turn = false≢true (sym done ∙ (ap (λ (x : View K). x.turn) (at_same s.views other w b was e) ∙ turn))

      nothing : KnowsAt r.last s.words r.made w.number other (spent blank)
      nothing = record {
        keeper = λ e. absurd (false≢true e);
        unmade = λ e. absurd (false≢true e);
        ended = λ e. absurd (false≢true e);
        seat = λ e. absurd (false≢true e);
        since = λ e. absurd (false≢true e);
        turn = λ e. absurd (false≢true e);
        mark = λ e. absurd (false≢true e);
      }

      before : (i : ℕ) (d : ℕ × K) → i < length ((w.number, w.last) ∷ v.ended) → (w.number ≤ (get_or ((w.number, w.last) ∷ v.ended) i d).0) × follows (get_or ((w.number, w.last) ∷ v.ended) i d).0 (get_or ((w.number, w.last) ∷ v.ended) i d).1 r.last
      before zero d l = (omega arith, gone.since works)
      before (suc i) d l = let p = own.ended kept i d (omega arith) in let o = (own.keeper kept).2 in let q = p.0 in (omega arith, p.1)

      mine : KnowsAt r.last s.words r.made w.number id (without_pass v w)
      mine = record {
        keeper = λ e. let k = own.keeper e in (k.0, k.1, refl);
        unmade = own.unmade;
        ended = λ _. before;
        seat = λ e. absurd (false≢true (sym idle ∙ e));
        since = λ e. absurd (false≢true (sym idle ∙ e));
        turn = λ e. absurd (false≢true (sym idle ∙ e));
        mark = λ e. absurd (false≢true (sym idle ∙ e));
      }

      others : (j : ℕ) (b : View K) → j ≢ id → get_elem? s.views j ≡ some b → j ≢ other → KnowsAt r.last s.words r.made w.number j b
      others j b not_id e not_it = let knows = r.each j b e in record {
        keeper = λ k. absurd (not_id ((knows.keeper k).0 ∙ sym (own.keeper kept).0));
        unmade = knows.unmade;
        ended = λ k. absurd (not_id ((knows.keeper k).0 ∙ sym (own.keeper kept).0));
        seat = λ work. let k = knows.seat work in let g = gone.seat works in let o = (own.keeper kept).2 in let l = k.1 in let p = k.0 in let q = g.0 in
            (p, ⊎_elim (λ (below : b.number < w.number). below) (λ (above : w.number ≤ b.number). absurd (not_it (omega arith))) (cases_lt b.number w.number));
        since = knows.since;
        turn = knows.turn;
        mark = knows.mark;
      }

  -- Once all passes are back, the value is at home
  pub comes_back : (id : ℕ) (v : View K) (words : List ℕ) (slots : List (Option K)) → v.keeps ≡ true → v.out ≡ 0 → Final (Seen Rule id v) words slots
      → (k : K) × (get_elem? slots 0 ≡ some (Some k)) × All (λ p. follows p.0 p.1 k) v.ended × ((c : ℕ) → v.made ≤ c → follows c v.first k)
  comes_back id v words slots kept all_back h = (r.last, at_home_kept 0 (Some r.last) (r.home at_home), (λ i d l. (own.ended kept i d l).1), (λ c l. own.unmade kept c (subst (λ (n : ℕ). n ≤ c) (own.keeper kept).1 l)))
    where
      s : Table
      s = h.0

      r : Rule s
      r = h.1.0

      at_home_kept : (k : ℕ) (y : Option K) → get_elem? s.homes k ≡ some (some y) → get_elem? slots k ≡ some y
      at_home_kept = h.4

      own : KnowsAt r.last s.words r.made r.out id v
      own = r.each id v h.1.1

      at_home : get_or s.words 0 0 ≡ 0
      at_home = dite (ℕ_discrete (get_or s.words 0 0) 0) (λ e. e) (λ other. absurd (let a = r.away other in let k = (r.each _ a.0 a.1).seat a.2 in let l = k.1 in let o = (own.keeper kept).2 in omega arith))
