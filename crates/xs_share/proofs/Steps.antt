-- Each step of a pass keeps the rule of the table.
use Rattle.std.proofs.Common.{◌≡◌, ◌≢◌, ℕ, ◌+◌, ◌==◌, true, List, [], ◌∷◌, get_or, set, Option, Some, None, sym, refl, ap, ◌∙◌, subst, arith, length-set, get_or-set_other, get_or-set_same}
use Rattle.std.proofs.lemmas.Bool.{false≢true}
use mathlib.Core.Option.{none, some}
use mathlib.Core.Logic.{dite}
use native.Mathlib.Decide.{ℕ_discrete}
use lib.ListN.{get_elem?}
use lib.Seq.{set-get_or}
use prog.Atomic.{either}
use Rattle.atomic_table.specs.Table.{State, Me, Act, keeps, takes, gives, Valid, carried_after, step, stepped, Allows}
use Rattle.atomic_table.proofs.Lists.{set_here, set_else, set_again, exchanged}
use Rattle.xs_share.specs.declared.rule.View.{View}
use Rattle.xs_share.specs.Rule.{took, gave, marked, Took, Gave, Marked, Knows, Ruled}
use Rattle.xs_share.proofs.Views.{at_within, at_same, each_set}

module _ {K : Type 0} (follows : ℕ → K → K → Type 0) where
  abbrev Table : Type 0
  Table = State (Option K) (View K)

  abbrev Rule : Table → Type 0
  Rule = Ruled follows

  abbrev KnowsAt : K → List ℕ → ℕ → ℕ → ℕ → View K → Type 0
  KnowsAt = Knows follows

  -- a step that changes nothing
  unmoved : (s : Table) (r : Rule s) (i id : ℕ) (v : View K) → get_elem? s.views id ≡ some v → Rule record { words = set s.words i (get_or s.words i 0); homes = s.homes; views = set s.views id v }
  unmoved s r i id v at = subst (λ (z : List ℕ × List (View K)). Rule record { words = z.0; homes = s.homes; views = z.1 }) (λ k. (sym (set-get_or s.words i 0) k, sym (set_again s.views id v at) k)) r

  -- what the steps of others leave of what a view knows, while the last kept value stays
  turn_moves : (last : K) (words words' : List ℕ) (made out j : ℕ) (v : View K) → (v.works ≡ true → v.turn ≡ true → get_or words 0 0 ≡ v.number + 1 → get_or words' 0 0 ≡ v.number + 1)
      → (v.works ≡ true → get_or words' (v.number + 1) 0 ≡ get_or words (v.number + 1) 0) → KnowsAt last words made out j v → KnowsAt last words' made out j v
  turn_moves last words words' made out j v turn mark knows = record {
    keeper = knows.keeper;
    unmade = knows.unmade;
    ended = knows.ended;
    seat = knows.seat;
    since = knows.since;
    turn = λ w t. let k = knows.turn w t in (turn w t k.0, k.1);
    mark = λ w. mark w ∙ knows.mark w;
  }

  -- a free turn is taken: the value goes out, and the turn word names the pass
  pub can_take : (same : (c : ℕ) (k : K) → follows c k k) (slots id : ℕ) (v : View K) (hand : List (ℕ × Option K)) → v.works ≡ true
      → Allows Rule slots id (v, hand) 0 (λ n. either (n == 0) (v.number + 1) n) (Took follows (step slots 0 0 (v.number + 1) none) (v, hand))
  can_take same slots id v hand works s r deep at small = exchanged (get_or s.words 0 0) 0 (v.number + 1)
      (λ x. (w : View K) × (a : Act (Option K)) × Valid s.homes hand a × Rule (stepped s 0 x id hand w a) × Took follows (step slots 0 0 (v.number + 1) none) (v, hand) (get_or s.words 0 0) (w, carried_after hand a))
      (λ free. (took v r.last, takes 0 (Some r.last), r.home free, taken free, ((λ _. (r.last, refl, own.since works)), (λ other. absurd (other free)))))
      (λ other. (v, keeps, tt, unmoved s r 0 id v at, ((λ e. absurd (other e)), (λ _. refl))))
    where
      own : KnowsAt r.last s.words r.made r.out id v
      own = r.each id v at

      ws : List ℕ
      ws = set s.words 0 (v.number + 1)

      word : get_or ws 0 0 ≡ v.number + 1
      word = let wide = r.wide in get_or-set_same s.words 0 (v.number + 1) 0 (omega arith)

      others : get_or s.words 0 0 ≡ 0 → (j : ℕ) (b : View K) → j ≢ id → get_elem? s.views j ≡ some b → KnowsAt r.last ws r.made r.out j b
      others free j b other e = turn_moves r.last s.words ws r.made r.out j b (λ w t k. absurd (omega arith)) (λ w. get_or-set_other s.words 0 (b.number + 1) (v.number + 1) 0 (λ z. omega arith)) (r.each j b e)

      mine : KnowsAt r.last ws r.made r.out id (took v r.last)
      mine = record {
        keeper = own.keeper;
        unmade = own.unmade;
        ended = own.ended;
        seat = own.seat;
        since = λ _. same v.number r.last;
        turn = λ _ _. (word, refl);
        mark = λ w. get_or-set_other s.words 0 (v.number + 1) (v.number + 1) 0 (λ z. omega arith) ∙ own.mark w;
      }

      taken : get_or s.words 0 0 ≡ 0 → Rule (stepped s 0 (v.number + 1) id hand (took v r.last) (takes 0 (Some r.last)))
      taken free = record {
        last = r.last;
        made = r.made;
        out = r.out;
        order = r.order;
        count = length-set s.views id (took v r.last) ∙ r.count;
        wide = length-set s.words 0 (v.number + 1) ∙ r.wide;
        deep = length-set s.homes 0 none ∙ r.deep;
        home = λ z. absurd (let w = word in omega arith);
        away = λ _. (took v r.last, ap (λ i. get_elem? (set s.views id (took v r.last)) i) (word ∙ sym (own.seat works).0) ∙ set_here s.views id (took v r.last) (at_within s.views id v at), works, refl);
        unmarked = λ c h l. get_or-set_other s.words 0 (c + 1) (v.number + 1) 0 (λ z. omega arith) ∙ r.unmarked c h l;
        each = each_set (KnowsAt r.last ws r.made r.out) s.views id (took v r.last) mine (others free);
      }

  pub can_take_by : (same : (c : ℕ) (k : K) → follows c k k) (slots id : ℕ) (v : View K) (hand : List (ℕ × Option K)) (word : ℕ) → word ≡ v.number + 1 → v.works ≡ true
      → Allows Rule slots id (v, hand) 0 (λ n. either (n == 0) word n) (Took follows (step slots 0 0 word none) (v, hand))
  can_take_by same slots id v hand word is works = subst (λ (x : ℕ). Allows Rule slots id (v, hand) 0 (λ n. either (n == 0) x n) (Took follows (step slots 0 0 x none) (v, hand))) (sym is) (can_take same slots id v hand works)

  -- the turn is given: the last kept value goes on, as the pass may make of it
  pub can_give : (same : (c : ℕ) (k : K) → follows c k k) (next : ℕ → K → K → Type 0) (later : (c d : ℕ) (x y z : K) → follows c x y → next d y z → d ≢ c → follows c x z)
      (slots id : ℕ) (v : View K) (k : K) (hand : List (ℕ × Option K)) → v.works ≡ true → v.turn ≡ true → hand ≡ (0, Some k) ∷ [] → next v.number v.last k
      → Allows Rule slots id (v, hand) 0 (λ _. 0) (λ _. Gave (step slots 0 0 0 none) (v, hand) 0)
  can_give same next later slots id v k hand works turn is may s r deep at small = (gave v k, gives, tt, subst (λ h. Rule (stepped s 0 0 id h (gave v k) gives)) (sym is) given, told)
    where
      own : KnowsAt r.last s.words r.made r.out id v
      own = r.each id v at

      ws : List ℕ
      ws = set s.words 0 0

      word : get_or ws 0 0 ≡ 0
      word = let wide = r.wide in get_or-set_same s.words 0 0 0 (omega arith)

      onward : (c : ℕ) (x : K) → v.number ≢ c → follows c x r.last → follows c x k
      onward c x other f = later c v.number x r.last k f (subst (λ y. next v.number y k) (own.turn works turn).1 may) other

      goes_on : (j : ℕ) (b : View K) → (b.works ≡ true → follows b.number b.last k) → (b.works ≡ true → b.turn ≡ true → ⊥) → KnowsAt r.last s.words r.made r.out j b → KnowsAt k ws r.made r.out j b
      goes_on j b since no_turn knows = record {
        keeper = knows.keeper;
        unmade = λ e c l. onward c b.first (λ z. let n = (own.seat works).1 in let o = r.order.0 in omega arith) (knows.unmade e c l);
        ended = λ e i d l. let p = knows.ended e i d l in (p.0, onward _ _ (λ z. let n = (own.seat works).1 in let o = p.0 in omega arith) p.1);
        seat = knows.seat;
        since = since;
        turn = λ w t. absurd (no_turn w t);
        mark = λ w. get_or-set_other s.words 0 (b.number + 1) 0 0 (λ z. omega arith) ∙ knows.mark w;
      }

      mine : KnowsAt k ws r.made r.out id (gave v k)
      mine = record {
        keeper = own.keeper;
        unmade = λ e c l. onward c v.first (λ z. let n = (own.seat works).1 in let o = r.order.0 in omega arith) (own.unmade e c l);
        ended = λ e i d l. let p = own.ended e i d l in (p.0, onward _ _ (λ z. let n = (own.seat works).1 in let o = p.0 in omega arith) p.1);
        seat = own.seat;
        since = λ _. same v.number k;
        turn = λ _ t. absurd (false≢true t);
        mark = λ w. get_or-set_other s.words 0 (v.number + 1) 0 0 (λ z. omega arith) ∙ own.mark w;
      }

      others : (j : ℕ) (b : View K) → j ≢ id → get_elem? s.views j ≡ some b → KnowsAt k ws r.made r.out j b
      others j b other e = let knows = r.each j b e in goes_on j b
          (λ w. onward b.number b.last (λ z. other (let p = (knows.seat w).0 in let q = (own.seat works).0 in omega arith)) (knows.since w))
          (λ w t. other (let p = (knows.seat w).0 in let q = (own.seat works).0 in let x = (knows.turn w t).0 in let y = (own.turn works turn).0 in omega arith)) knows

      told : (k' : K) → hand ≡ (0, Some k') ∷ [] → ◌≡◌ {A = Me (Option K) (View K)} (gave v k, carried_after hand gives) (gave v k', [])
      told k' e = let pair : Some k ≡ Some k' = ap (λ (l : List (ℕ × Option K)). (get_or l 0 (0, None)).1) (sym is ∙ e) in
          let one : k ≡ k' = cc pair in (λ i. (gave v (one i), carried_after (is i) gives))

      given : Rule (stepped s 0 0 id ((0, Some k) ∷ []) (gave v k) gives)
      given = record {
        last = k;
        made = r.made;
        out = r.out;
        order = r.order;
        count = length-set s.views id (gave v k) ∙ r.count;
        wide = length-set s.words 0 0 ∙ r.wide;
        deep = length-set s.homes 0 (some (Some k)) ∙ r.deep;
        home = λ _. let d = r.deep in set_here s.homes 0 (some (Some k)) (omega arith);
        away = λ other. absurd (other word);
        unmarked = λ c h l. get_or-set_other s.words 0 (c + 1) 0 0 (λ z. omega arith) ∙ r.unmarked c h l;
        each = each_set (KnowsAt k ws r.made r.out) s.views id (gave v k) mine others;
      }

  -- the mark of the pass's own processor is stored
  pub can_mark : (slots id : ℕ) (v : View K) (hand : List (ℕ × Option K)) (n : ℕ) → v.works ≡ true
      → Allows Rule slots id (v, hand) (v.number + 1) (λ _. n) (λ _. Marked (step slots (v.number + 1) n 0 none) (v, hand) n)
  can_mark slots id v hand n works s r deep at small = (marked v n, keeps, tt, stored, refl)
    where
      own : KnowsAt r.last s.words r.made r.out id v
      own = r.each id v at

      ws : List ℕ
      ws = set s.words (v.number + 1) n

      vs : List (View K)
      vs = set s.views id (marked v n)

      word : get_or ws 0 0 ≡ get_or s.words 0 0
      word = get_or-set_other s.words (v.number + 1) 0 n 0 (λ z. omega arith)

      others : (j : ℕ) (b : View K) → j ≢ id → get_elem? s.views j ≡ some b → KnowsAt r.last ws r.made r.out j b
      others j b other e = let knows = r.each j b e in turn_moves r.last s.words ws r.made r.out j b (λ w t k. word ∙ k)
          (λ w. get_or-set_other s.words (v.number + 1) (b.number + 1) n 0 (λ z. other (let p = (knows.seat w).0 in let q = (own.seat works).0 in omega arith))) knows

      mine : KnowsAt r.last ws r.made r.out id (marked v n)
      mine = record {
        keeper = own.keeper;
        unmade = own.unmade;
        ended = own.ended;
        seat = own.seat;
        since = own.since;
        turn = λ w t. let k = own.turn w t in (word ∙ k.0, k.1);
        mark = λ w. let wide = r.wide in let o = r.order in let l = (own.seat works).1 in get_or-set_same s.words (v.number + 1) n 0 (omega arith);
      }

      held : (i : ℕ) (b : View K) → get_elem? s.views i ≡ some b → b.works ≡ true → b.turn ≡ true → (c : View K) × (get_elem? vs i ≡ some c) × (c.works ≡ true) × (c.turn ≡ true)
      held i b e w t = dite (ℕ_discrete i id)
          (λ here. (
            marked v n,
            ap (get_elem? vs) here ∙ set_here s.views id (marked v n) (at_within s.views id v at),
            works,
            ap (λ (x : View K). x.turn) (at_same s.views id v b at (ap (get_elem? s.views) (sym here) ∙ e)) ∙ t,
          ))
          (λ other. (b, set_else s.views id i (marked v n) other ∙ e, w, t))

      stored : Rule (stepped s (v.number + 1) n id hand (marked v n) keeps)
      stored = record {
        last = r.last;
        made = r.made;
        out = r.out;
        order = r.order;
        count = length-set s.views id (marked v n) ∙ r.count;
        wide = length-set s.words (v.number + 1) n ∙ r.wide;
        deep = r.deep;
        home = λ z. r.home (sym word ∙ z);
        away = λ z. let a = r.away (λ e. z (word ∙ e)) in subst (λ i. (c : View K) × (get_elem? vs i ≡ some c) × (c.works ≡ true) × (c.turn ≡ true)) (sym word) (held _ a.0 a.1 a.2 a.3);
        unmarked = λ c h l. get_or-set_other s.words (v.number + 1) (c + 1) n 0 (λ z. let o = r.order in let p = (own.seat works).1 in omega arith) ∙ r.unmarked c h l;
        each = each_set (KnowsAt r.last ws r.made r.out) s.views id (marked v n) mine others;
      }

  pub can_mark_at : (slots id : ℕ) (v : View K) (hand : List (ℕ × Option K)) (place n : ℕ) → place ≡ v.number + 1 → v.works ≡ true
      → Allows Rule slots id (v, hand) place (λ _. n) (λ _. Marked (step slots place n 0 none) (v, hand) n)
  can_mark_at slots id v hand place n is works = subst (λ (x : ℕ). Allows Rule slots id (v, hand) x (λ _. n) (λ _. Marked (step slots x n 0 none) (v, hand) n)) (sym is) (can_mark slots id v hand n works)
