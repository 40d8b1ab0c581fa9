-- While the turns go on in order, the law of two numbers is kept.
use Rattle.std.proofs.Common.{◌≡◌, ℕ, ◌==◌, Bool, true, false, List, [], ◌∷◌, refl, sym, ap, ◌∙◌, subst, ⊎_elim, eq-eqb, ne_eqb}
use Rattle.std.proofs.lemmas.Bool.{cases_eq, both_ways}
use Rattle.std.specs.Prelude.{Option, Some, None}
use Rattle.xs_model.specs.Note.{Act, Starts, Section, Grows, Sets, Plain, Note, is_at, cpu_of, is_on, last_after, last_of}
use Rattle.xs_model.proofs.TurnOrder.{note, Orderly, Turning, IsKept}
use Rattle.xs_model.proofs.NoteLaws.{itself, Law, own_start, own_section, own_grow, own_plain, own_set, other_start, other_section, other_grow, other_plain, other_set}

-- a block in no turn isn't one that is in a turn
not_set : (old : ℕ → Option ℕ) (w t at : ℕ) → old w ≡ None → old t ≡ Some at → (w == t) ≡ false
not_set old w t at none some = ne_eqb w t (λ (same : w ≡ t). let moved : old t ≡ None = subst (λ (x : ℕ). old x ≡ None) same none in (cc))

-- the law for the block of the event
law_same : (user : ℕ → Bool) (past : List Note) (old new : ℕ → Option ℕ) (c t : ℕ) (act : Act) → user t ≡ true → IsKept user past old → Orderly old (note t act) new → Law user (note t act ∷ past) c t
law_same user past old new c t (Starts d) is_user kept orderly = own_start user past c t d is_user
law_same user past old new c t Section is_user kept orderly = let g = orderly.going refl in own_section user past c t g.0 (kept.turning t g.0 g.1)
law_same user past old new c t Grows is_user kept orderly = own_grow user past c t
law_same user past old new c t Plain is_user kept orderly = let g = orderly.going refl in own_plain user past c t g.0 is_user (kept.turning t g.0 g.1)
law_same user past old new c t (Sets w) is_user kept orderly =
    let g = orderly.going refl in
    own_set user past c t g.0 w is_user (kept.turning t g.0 g.1) (not_set old w t g.0 (orderly.setting w refl) g.1)

-- the law for another block
law_other : (user : ℕ → Bool) (past : List Note) (old new : ℕ → Option ℕ) (c t u : ℕ) (act : Act) → (u == t) ≡ false → Law user past c t → IsKept user past old → Orderly old (note u act) new → Law user (note u act ∷ past) c t
law_other user past old new c t u (Starts d) other law kept orderly = other_start user past c t u d other law
law_other user past old new c t u Section other law kept orderly = let g = orderly.going refl in other_section user past c t u g.0 other (kept.turning u g.0 g.1) law
law_other user past old new c t u Grows other law kept orderly = let g = orderly.going refl in other_grow user past c t u g.0 other (kept.turning u g.0 g.1) law
law_other user past old new c t u Plain other law kept orderly = let g = orderly.going refl in other_plain user past c t u g.0 other (kept.turning u g.0 g.1) law
law_other user past old new c t u (Sets w) other law kept orderly = let g = orderly.going refl in other_set user past c t u g.0 w other (kept.turning u g.0 g.1) law

-- the law after an event
law_next : (user : ℕ → Bool) (past : List Note) (old new : ℕ → Option ℕ) (c t u : ℕ) (act : Act) → user t ≡ true → IsKept user past old → Orderly old (note u act) new → Law user (note u act ∷ past) c t
law_next user past old new c t u act is_user kept orderly = ⊎_elim
    (λ (same : u ≡ t). subst (λ (x : ℕ). Law user (note x act ∷ past) c t) (sym same) (law_same user past old new c t act is_user kept (subst (λ (x : ℕ). Orderly old (note x act) new) same orderly)))
    (λ (other : u ≡ t → ⊥). law_other user past old new c t u act (ne_eqb u t other) (kept.law c t is_user) kept orderly)
    (cases_eq u t)

-- ---- a block in a turn

-- what the notes know of the turn of the event's block
turn_same : (user : ℕ → Bool) (past : List Note) (old new : ℕ → Option ℕ) (u at : ℕ) (act : Act) → IsKept user past old → Orderly old (note u act) new → new u ≡ Some at → Turning user (note u act ∷ past) u at
turn_same user past old new u at (Starts d) kept orderly now =
    let o = orderly.starting d refl in
    let same : d ≡ at = cc (o.1, now) in
    subst (λ (x : ℕ). Turning user (note u (Starts d) ∷ past) u x) same (record {
      cpu = rw (itself u) refl;
      last = rw (itself u) refl;
      calm = λ is_user. rw (itself u) refl;
      mark = λ is_user t other. rw (itself d, is_user) other;
    })
turn_same user past old new u at Section kept orderly now =
    let g = orderly.going refl in
    let same : at ≡ g.0 = g.2 at now in
    let turn = kept.turning u g.0 g.1 in
    subst (λ (x : ℕ). Turning user (note u Section ∷ past) u x) (sym same) (record {
      cpu = rw (itself u) turn.cpu;
      last = turn.last;
      calm = λ is_user. rw (itself u) (turn.calm is_user);
      mark = λ is_user t other. rw (turn.cpu, itself g.0) refl;
    })
turn_same user past old new u at Grows kept orderly now = absurd (cc (orderly.growing refl, now))
turn_same user past old new u at Plain kept orderly now =
    let g = orderly.going refl in
    let same : at ≡ g.0 = g.2 at now in
    let turn = kept.turning u g.0 g.1 in
    subst (λ (x : ℕ). Turning user (note u Plain ∷ past) u x) (sym same) (record {
      cpu = rw (itself u) turn.cpu;
      last = turn.last;
      calm = λ is_user. rw (itself u) (turn.calm is_user);
      mark = λ is_user t other. rw (turn.cpu, itself g.0, is_user) other;
    })
turn_same user past old new u at (Sets w) kept orderly now =
    let g = orderly.going refl in
    let same : at ≡ g.0 = g.2 at now in
    let turn = kept.turning u g.0 g.1 in
    let unset = not_set old w u g.0 (orderly.setting w refl) g.1 in
    subst (λ (x : ℕ). Turning user (note u (Sets w) ∷ past) u x) (sym same) (record {
      cpu = rw (itself u) turn.cpu;
      last = rw unset turn.last;
      calm = λ is_user. rw (itself u) (turn.calm is_user);
      mark = λ is_user t other. rw (turn.cpu, itself g.0, is_user) other;
    })

-- the event is on another processor than that of another block's turn
elsewhere : (user : ℕ → Bool) (past : List Note) (old : ℕ → Option ℕ) (u v c at : ℕ) → (u == v) ≡ false → IsKept user past old → old u ≡ Some c → old v ≡ Some at → is_at (cpu_of past u) at ≡ false
elsewhere user past old u v c at other kept mine before =
    let turn = kept.turning u c mine in
    rw turn.cpu (ne_eqb c at (λ (same : c ≡ at). both_ways (u == v) other (kept.alone u v at (mine ∙ ap Some same) before)))

-- the event is elsewhere, by its act
not_there : (user : ℕ → Bool) (past : List Note) (old new : ℕ → Option ℕ) (u v at : ℕ) (act : Act) → (u == v) ≡ false → IsKept user past old → Orderly old (note u act) new → old v ≡ Some at → is_on past (note u act) at ≡ false
not_there user past old new u v at (Starts d) other kept orderly before = ne_eqb d at (λ (same : d ≡ at). (orderly.starting d refl).2 v (before ∙ ap Some (sym same)))
not_there user past old new u v at Section other kept orderly before = let g = orderly.going refl in elsewhere user past old u v g.0 at other kept g.1 before
not_there user past old new u v at Grows other kept orderly before = let g = orderly.going refl in elsewhere user past old u v g.0 at other kept g.1 before
not_there user past old new u v at Plain other kept orderly before = let g = orderly.going refl in elsewhere user past old u v g.0 at other kept g.1 before
not_there user past old new u v at (Sets w) other kept orderly before = let g = orderly.going refl in elsewhere user past old u v g.0 at other kept g.1 before

-- the last processor of another block in a turn stays
last_stays : (past : List Note) (old new : ℕ → Option ℕ) (u v at : ℕ) (act : Act) → (u == v) ≡ false → Orderly old (note u act) new → old v ≡ Some at → last_after u act v (last_of past v) ≡ last_of past v
last_stays past old new u v at (Starts d) other orderly before = rw other refl
last_stays past old new u v at Section other orderly before = refl
last_stays past old new u v at Grows other orderly before = rw other refl
last_stays past old new u v at Plain other orderly before = refl
last_stays past old new u v at (Sets w) other orderly before = rw (not_set old w v at (orderly.setting w refl) before) refl

-- what the notes know of another block's turn
turn_other : (user : ℕ → Bool) (past : List Note) (old new : ℕ → Option ℕ) (u v at : ℕ) (act : Act) → (u == v) ≡ false → IsKept user past old → Orderly old (note u act) new → old v ≡ Some at → Turning user (note u act ∷ past) v at
turn_other user past old new u v at act other kept orderly before =
    let turn = kept.turning v at before in
    let off = not_there user past old new u v at act other kept orderly before in
    record {
      cpu = rw other turn.cpu;
      last = last_stays past old new u v at act other orderly before ∙ turn.last;
      calm = λ is_user. rw (other, off) (turn.calm is_user);
      mark = λ is_user t apart. rw off (turn.mark is_user t apart);
    }

-- what they know of each turn after an event
turn_next : (user : ℕ → Bool) (past : List Note) (old new : ℕ → Option ℕ) (u v at : ℕ) (act : Act) → IsKept user past old → Orderly old (note u act) new → new v ≡ Some at → Turning user (note u act ∷ past) v at
turn_next user past old new u v at act kept orderly now = ⊎_elim
    (λ (same : u ≡ v). subst (λ (x : ℕ). Turning user (note u act ∷ past) x at) same (turn_same user past old new u at act kept orderly (ap new same ∙ now)))
    (λ (other : u ≡ v → ⊥).
    let apart = ne_eqb u v other in
    turn_other user past old new u v at act apart kept orderly (sym (orderly.others v apart) ∙ now))
    (cases_eq u v)

-- no other block has a turn where this one has it
none_there : (user : ℕ → Bool) (past : List Note) (old new : ℕ → Option ℕ) (u v c : ℕ) (act : Act) → (u == v) ≡ false → IsKept user past old → Orderly old (note u act) new → new u ≡ Some c → old v ≡ Some c → ⊥
none_there user past old new u v c (Starts d) other kept orderly now before =
    let o = orderly.starting d refl in
    let same : d ≡ c = cc (o.1, now) in
    o.2 v (before ∙ ap Some (sym same))
none_there user past old new u v c Section other kept orderly now before = let g = orderly.going refl in both_ways (u == v) other (kept.alone u v c (g.1 ∙ ap Some (sym (g.2 c now))) before)
none_there user past old new u v c Grows other kept orderly now before = let g = orderly.going refl in both_ways (u == v) other (kept.alone u v c (g.1 ∙ ap Some (sym (g.2 c now))) before)
none_there user past old new u v c Plain other kept orderly now before = let g = orderly.going refl in both_ways (u == v) other (kept.alone u v c (g.1 ∙ ap Some (sym (g.2 c now))) before)
none_there user past old new u v c (Sets w) other kept orderly now before = let g = orderly.going refl in both_ways (u == v) other (kept.alone u v c (g.1 ∙ ap Some (sym (g.2 c now))) before)

-- after an event too a processor has one turn at most
alone_next : (user : ℕ → Bool) (past : List Note) (old new : ℕ → Option ℕ) (u v w c : ℕ) (act : Act) → IsKept user past old → Orderly old (note u act) new → new v ≡ Some c → new w ≡ Some c → (v == w) ≡ true
alone_next user past old new u v w c act kept orderly mine yours = ⊎_elim
    (λ (same : u ≡ v). ⊎_elim
    (λ (too : u ≡ w). eq-eqb v w (sym same ∙ too))
    (λ (other : u ≡ w → ⊥).
    let apart = ne_eqb u w other in
    absurd (none_there user past old new u w c act apart kept orderly (ap new same ∙ mine) (sym (orderly.others w apart) ∙ yours)))
    (cases_eq u w))
    (λ (other : u ≡ v → ⊥).
    let apart = ne_eqb u v other in
    ⊎_elim
    (λ (too : u ≡ w). absurd (none_there user past old new u v c act apart kept orderly (ap new too ∙ yours) (sym (orderly.others v apart) ∙ mine)))
    (λ (both : u ≡ w → ⊥).
    let far = ne_eqb u w both in
    kept.alone v w c (sym (orderly.others v apart) ∙ mine) (sym (orderly.others w far) ∙ yours))
    (cases_eq u w))
    (cases_eq u v)

-- while the turns go on in order, all is kept
pub kept_next : (user : ℕ → Bool) (past : List Note) (old new : ℕ → Option ℕ) (u : ℕ) (act : Act) → IsKept user past old → Orderly old (note u act) new → IsKept user (note u act ∷ past) new
kept_next user past old new u act kept orderly = record {
  turning = λ v c now. turn_next user past old new u v c act kept orderly now;
  alone = λ v w c mine yours. alone_next user past old new u v w c act kept orderly mine yours;
  law = λ c t is_user. law_next user past old new c t u act is_user kept orderly;
}

-- before the first event
pub kept_first : (user : ℕ → Bool) (turns : ℕ → Option ℕ) → ((v : ℕ) → turns v ≡ None) → IsKept user [] turns
kept_first user turns none = record {
  turning = λ v c now. absurd (let at = none v in cc);
  alone = λ v w c mine yours. absurd (let at = none v in cc);
  law = λ c t is_user. refl;
}
