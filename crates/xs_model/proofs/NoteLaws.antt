-- The law of two numbers, event by event.
use Rattle.std.proofs.Common.{◌≡◌, ℕ, ◌==◌, Bool, true, false, not, ◌&&◌, List, ◌∷◌, refl, sym, ap, ◌∙◌, subst, eq-eqb, eqb-true}
use Rattle.std.specs.Prelude.{Some, None, if◌then◌else◌}
use Rattle.xs_model.specs.Note.{Starts, Section, Grows, Sets, Plain, Note, is_at, cpu_of, is_on, mark_after, mark_of, last_of}
use Rattle.xs_model.specs.Held.{is_current, displaces, is_calm, held_by}
use Rattle.xs_model.proofs.TurnOrder.{note, two_numbers, Turning}

-- a number is itself
pub itself : (t : ℕ) → (t == t) ≡ true
itself t = eq-eqb t t refl

-- a test and one that fails
and_false : (x : Bool) → (x && false) ≡ false
and_false true = refl
and_false false = refl

-- the last of three tests fails
last_false : (x y : Bool) → (x && y && false) ≡ false
last_false true true = refl
last_false true false = refl
last_false false y = refl

-- the second of three tests fails
middle_false : (x y : Bool) → (x && false && y) ≡ false
middle_false true y = refl
middle_false false y = refl

-- ---- an event of the task itself

-- its Start
pub own_start : (user : ℕ → Bool) (past : List Note) (c t d : ℕ) → user t ≡ true → held_by user (note t (Starts d) ∷ past) c t ≡ two_numbers user (note t (Starts d) ∷ past) c t
own_start user past c t d is_user = rw (itself t, is_user) (cases (d == c))
  where
    cases : (here : Bool) → (here && true && true) ≡ (is_at (if here then Some t else mark_of user past c) t && here)
    cases true = rw (itself t) refl
    cases false = sym (and_false (is_at (mark_of user past c) t))

-- its section, in a turn on processor `at`
pub own_section : (user : ℕ → Bool) (past : List Note) (c t at : ℕ) → Turning user past t at → held_by user (note t Section ∷ past) c t ≡ two_numbers user (note t Section ∷ past) c t
own_section user past c t at turn = rw (itself t, turn.cpu, turn.last) (cases (at == c))
  where
    cases : (here : Bool) → (here && false && is_calm user past c t) ≡ (is_at (if here then None else mark_of user past c) t && here)
    cases true = refl
    cases false = sym (and_false (is_at (mark_of user past c) t))

-- its Grow
pub own_grow : (user : ℕ → Bool) (past : List Note) (c t : ℕ) → held_by user (note t Grows ∷ past) c t ≡ two_numbers user (note t Grows ∷ past) c t
own_grow user past c t = rw (itself t) (middle_false (is_at (cpu_of past t) c) (is_calm user past c t) ∙ sym (and_false (is_at (if is_on past (note t Grows) c then mark_after (user t) t Grows (mark_of user past c) else mark_of user past c) t)))

-- a user task in a turn is calm on its processor
calm_here : (user : ℕ → Bool) (past : List Note) (t at c : ℕ) → user t ≡ true → Turning user past t at → (at == c) ≡ true → is_calm user past c t ≡ true
calm_here user past t at c is_user turn here =
    let same : at ≡ c = eqb-true at c here in
    subst (λ (d : ℕ). is_calm user past d t ≡ true) same (turn.calm is_user)

-- an event of it that no bank sees
pub own_plain : (user : ℕ → Bool) (past : List Note) (c t at : ℕ) → user t ≡ true → Turning user past t at → held_by user (note t Plain ∷ past) c t ≡ two_numbers user (note t Plain ∷ past) c t
own_plain user past c t at is_user turn = rw (itself t, turn.cpu, turn.last, is_user) (cases (at == c) refl)
  where
    cases : (here : Bool) → (at == c) ≡ here → (here && true && is_calm user past c t) ≡ (is_at (if here then Some t else mark_of user past c) t && here)
    cases true here = rw (itself t, calm_here user past t at c is_user turn here) refl
    cases false here = sym (and_false (is_at (mark_of user past c) t))

-- its set of another block's registers
pub own_set : (user : ℕ → Bool) (past : List Note) (c t at u : ℕ) → user t ≡ true → Turning user past t at → (u == t) ≡ false → held_by user (note t (Sets u) ∷ past) c t ≡ two_numbers user (note t (Sets u) ∷ past) c t
own_set user past c t at u is_user turn other = rw (itself t, turn.cpu, other, turn.last, is_user) (cases (at == c) refl)
  where
    cases : (here : Bool) → (at == c) ≡ here → (here && true && is_calm user past c t) ≡ (is_at (if here then Some t else mark_of user past c) t && here)
    cases true here = rw (itself t, calm_here user past t at c is_user turn here) refl
    cases false here = sym (and_false (is_at (mark_of user past c) t))

-- ---- an event of another block, u

-- the law for c and t
abbrev pub Law : (ℕ → Bool) → List Note → ℕ → ℕ → Type 0
Law user past c t = held_by user past c t ≡ two_numbers user past c t

-- a Start of u
pub other_start : (user : ℕ → Bool) (past : List Note) (c t u d : ℕ) → (u == t) ≡ false → Law user past c t → Law user (note u (Starts d) ∷ past) c t
other_start user past c t u d other law = rw other (cases (d == c) (user u))
  where
    cases : (here is_user : Bool) → (is_at (cpu_of past t) c && is_current past t && (not (here && displaces is_user (Starts d)) && is_calm user past c t)) ≡ (is_at (if here then mark_after is_user u (Starts d) (mark_of user past c) else mark_of user past c) t && is_at (last_of past t) c)
    cases true true = rw other (last_false (is_at (cpu_of past t) c) (is_current past t))
    cases true false = law
    cases false true = law
    cases false false = law

-- where the mark is another's, the task is not held
not_held : (user : ℕ → Bool) (past : List Note) (c t : ℕ) → is_at (mark_of user past c) t ≡ false → Law user past c t → held_by user past c t ≡ false
not_held user past c t marked law = law ∙ ap (λ x. x && is_at (last_of past t) c) marked

-- a set of the registers too leaves a task that isn't held
still_not : (x y z s : Bool) → (x && y && z) ≡ false → (x && (not s && y) && z) ≡ false
still_not true true true true not_all = refl
still_not true true true false not_all = not_all
still_not true true false true not_all = refl
still_not true true false false not_all = refl
still_not true false z true not_all = refl
still_not true false z false not_all = refl
still_not false y z s not_all = refl

-- while u is in a turn on the processor, the mark there is no other task
foreign_mark : (user : ℕ → Bool) (past : List Note) (c t u at : ℕ) → (u == t) ≡ false → user u ≡ true → Turning user past u at → (at == c) ≡ true → is_at (mark_of user past c) t ≡ false
foreign_mark user past c t u at other is_user turn here =
    let same : at ≡ c = eqb-true at c here in
    subst (λ (d : ℕ). is_at (mark_of user past d) t ≡ false) same (turn.mark is_user t other)

-- a section of u, a user task or not, here or elsewhere
pub other_section : (user : ℕ → Bool) (past : List Note) (c t u at : ℕ) → (u == t) ≡ false → Turning user past u at → Law user past c t → Law user (note u Section ∷ past) c t
other_section user past c t u at other turn law = rw (other, turn.cpu) (cases (at == c) (user u) refl refl)
  where
    cases : (here is_user : Bool) → (at == c) ≡ here → user u ≡ is_user
        → (is_at (cpu_of past t) c && is_current past t && (not (here && displaces is_user Section) && is_calm user past c t)) ≡ (is_at (if here then None else mark_of user past c) t && is_at (last_of past t) c)
    cases true true here is_user = not_held user past c t (foreign_mark user past c t u at other is_user turn here) law
    cases true false here is_user = last_false (is_at (cpu_of past t) c) (is_current past t)
    cases false true here is_user = law
    cases false false here is_user = law

-- a Grow of u
pub other_grow : (user : ℕ → Bool) (past : List Note) (c t u at : ℕ) → (u == t) ≡ false → Turning user past u at → Law user past c t → Law user (note u Grows ∷ past) c t
other_grow user past c t u at other turn law = rw (other, turn.cpu) (cases (at == c) (user u) refl refl)
  where
    cases : (here is_user : Bool) → (at == c) ≡ here → user u ≡ is_user
        → (is_at (cpu_of past t) c && is_current past t && (not (here && displaces is_user Grows) && is_calm user past c t)) ≡ (is_at (if here then mark_after is_user u Grows (mark_of user past c) else mark_of user past c) t && is_at (last_of past t) c)
    cases true true here is_user = rw other (not_held user past c t (foreign_mark user past c t u at other is_user turn here) law)
    cases true false here is_user = law
    cases false true here is_user = law
    cases false false here is_user = law

-- an event of u that no bank sees
pub other_plain : (user : ℕ → Bool) (past : List Note) (c t u at : ℕ) → (u == t) ≡ false → Turning user past u at → Law user past c t → Law user (note u Plain ∷ past) c t
other_plain user past c t u at other turn law = rw (other, turn.cpu) (cases (at == c) (user u) refl refl)
  where
    cases : (here is_user : Bool) → (at == c) ≡ here → user u ≡ is_user
        → (is_at (cpu_of past t) c && is_current past t && (not (here && displaces is_user Plain) && is_calm user past c t)) ≡ (is_at (if here then mark_after is_user u Plain (mark_of user past c) else mark_of user past c) t && is_at (last_of past t) c)
    cases true true here is_user = rw other (not_held user past c t (foreign_mark user past c t u at other is_user turn here) law)
    cases true false here is_user = law
    cases false true here is_user = law
    cases false false here is_user = law

-- a set by u of the registers of w
pub other_set : (user : ℕ → Bool) (past : List Note) (c t u at w : ℕ) → (u == t) ≡ false → Turning user past u at → Law user past c t → Law user (note u (Sets w) ∷ past) c t
other_set user past c t u at w other turn law = rw (other, turn.cpu) (cases (at == c) (user u) (w == t) refl refl)
  where
    cases : (here is_user set : Bool) → (at == c) ≡ here → user u ≡ is_user
        → (is_at (cpu_of past t) c && (not set && is_current past t) && (not (here && displaces is_user (Sets w)) && is_calm user past c t)) ≡ (is_at (if here then mark_after is_user u (Sets w) (mark_of user past c) else mark_of user past c) t && is_at (if set then None else last_of past t) c)
    cases true true set here is_user = rw other (still_not (is_at (cpu_of past t) c) (is_current past t) (is_calm user past c t) set (not_held user past c t (foreign_mark user past c t u at other is_user turn here) law))
    cases true false true here is_user = middle_false (is_at (cpu_of past t) c) (is_calm user past c t) ∙ sym (and_false (is_at (mark_of user past c) t))
    cases true false false here is_user = law
    cases false true true here is_user = middle_false (is_at (cpu_of past t) c) (is_calm user past c t) ∙ sym (and_false (is_at (mark_of user past c) t))
    cases false true false here is_user = law
    cases false false true here is_user = middle_false (is_at (cpu_of past t) c) (is_calm user past c t) ∙ sym (and_false (is_at (mark_of user past c) t))
    cases false false false here is_user = law
