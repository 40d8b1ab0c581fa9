-- What a reader keeps of the children of a body tells what the earlier commands of the body do.
use Rattle.std.proofs.Common.{◌≡◌, ℕ, Bool, true, false, ◌&&◌, ◌||◌, List, [], ◌∷◌, ◌++◌, map, refl, sym, ◌∙◌, ap, subst}
use Rattle.std.specs.Prelude.{bytes_eq, if◌then◌else◌}
use Rattle.std.proofs.lemmas.Slice.Eq.{bytes_eq-Decides}
use Rattle.xs_model.specs.declared.script.Command.{Command}
use Rattle.xs_model.specs.declared.script.Command.TheVariants as commands
use Rattle.xs_script.specs.declared.line.Line.{Line}
use Rattle.xs_script.specs.declared.line.Line.TheVariants as lines
use Rattle.xs_script.specs.declared.own_child.OwnChild.{OwnChild}
use Rattle.xs_script.specs.Before.{earlier_with, forks_child, awaits_child, told}
use Rattle.xs_script.specs.Refusal.{LineReachesOwn}
use Rattle.xs_script.specs.Commands.{is_own, is_own_awaited, own_child, marked, own_after, known_before}
use Rattle.xs_script.specs.Body.{own_with, AreOwn}

-- ---- one child more

or_swap : (a b c : Bool) → (a || (b || c)) ≡ (b || (a || c))
or_swap true true c = refl
or_swap true false c = refl
or_swap false b c = refl

and_false : (a : Bool) → (a && false) ≡ false
and_false true = refl
and_false false = refl

own_push : (own : List OwnChild) (child name : List ℕ) → is_own (own ++ own_child child false ∷ []) name ≡ (bytes_eq child name || is_own own name)
own_push [] child name = refl
own_push (c ∷ own) child name =
    ap (λ (t : Bool). bytes_eq c.name name || t) (own_push own child name) ∙ or_swap (bytes_eq c.name name) (bytes_eq child name) (is_own own name)

awaited_push : (own : List OwnChild) (child name : List ℕ) → is_own_awaited (own ++ own_child child false ∷ []) name ≡ is_own_awaited own name
awaited_push [] child name = ap (λ (t : Bool). t || false) (and_false (bytes_eq child name))
awaited_push (c ∷ own) child name = ap (λ (t : Bool). (bytes_eq c.name name && c.awaited) || t) (awaited_push own child name)

-- ---- a child that is marked

own_marked : (child : List ℕ) (b : Bool) (own : List OwnChild) (name : List ℕ) → is_own (map (marked child b) own) name ≡ is_own own name
own_marked child b [] name = refl
own_marked child b (c ∷ own) name = ap (λ (t : Bool). bytes_eq c.name name || t) (own_marked child b own name)

-- It is awaited from there on, or isn't.
awaited_marked : (child : List ℕ) (b : Bool) (own : List OwnChild) → is_own_awaited (map (marked child b) own) child ≡ (is_own own child && b)
awaited_marked child b [] = refl
awaited_marked child b (c ∷ own) =
    ap (λ (t : Bool). (bytes_eq c.name child && (if bytes_eq c.name child then b else c.awaited)) || t) (awaited_marked child b own)
    ∙ by_test (bytes_eq c.name child) c.awaited b (is_own own child)
  where
    by_test : (t a b x : Bool) → ((t && (if t then b else a)) || (x && b)) ≡ ((t || x) && b)
    by_test true a true x = refl
    by_test true a false x = and_false x
    by_test false a b x = refl

-- For any other it says what it said before.
other_marked : (child : List ℕ) (b : Bool) (own : List OwnChild) (name : List ℕ) → bytes_eq child name ≡ false → is_own_awaited (map (marked child b) own) name ≡ is_own_awaited own name
other_marked child b [] name other = refl
other_marked child b (c ∷ own) name other =
    ap (λ (t : Bool). (bytes_eq c.name name && (if bytes_eq c.name child then b else c.awaited)) || t) (other_marked child b own name other)
    ∙ ap (λ (t : Bool). t || is_own_awaited own name) (by_test (bytes_eq c.name name) (bytes_eq c.name child) c.awaited refl refl)
  where
    by_test : (t u a : Bool) → t ≡ bytes_eq c.name name → u ≡ bytes_eq c.name child → (t && (if u then b else a)) ≡ (t && a)
    by_test false u a is there = refl
    by_test true false a is there = refl
    by_test true true a is there =
        let here : child ≡ name = sym ((bytes_eq-Decides c.name child).0 (sym there)) ∙ (bytes_eq-Decides c.name name).0 (sym is) in
        absurd (cc (sym ((bytes_eq-Decides child name).1 here) ∙ other))

-- ---- one command more

-- a wait is for one of the children
abbrev pub WaitsForOwn : List OwnChild → Command → Type 0
WaitsForOwn own (commands.Wait name) = is_own own name ≡ true
WaitsForOwn own other = Unit {0}

wait_step : (child : List ℕ) (own : List OwnChild) (earlier : List Command) (name : List ℕ) (t : Bool) → t ≡ bytes_eq child name → is_own own child ≡ true → is_own_awaited own name ≡ awaits_child earlier name → is_own_awaited (map (marked child true) own) name ≡ (if t then true else awaits_child earlier name)
wait_step child own earlier name true is known h =
    subst (λ (n : List ℕ). is_own_awaited (map (marked child true) own) n ≡ true) ((bytes_eq-Decides child name).0 (sym is)) (awaited_marked child true own ∙ rw known refl)
wait_step child own earlier name false is known h = other_marked child true own name (sym is) ∙ h

cont_step : (child : List ℕ) (own : List OwnChild) (earlier : List Command) (name : List ℕ) (t : Bool) → t ≡ bytes_eq child name → is_own_awaited own name ≡ awaits_child earlier name → is_own_awaited (map (marked child false) own) name ≡ (if t then false else awaits_child earlier name)
cont_step child own earlier name true is h =
    subst (λ (n : List ℕ). is_own_awaited (map (marked child false) own) n ≡ false) ((bytes_eq-Decides child name).0 (sym is)) (awaited_marked child false own ∙ and_false (is_own own child))
cont_step child own earlier name false is h = other_marked child false own name (sym is) ∙ h

own_step : (own : List OwnChild) (earlier : List Command) (command : Command) → AreOwn own earlier → WaitsForOwn own command → AreOwn (own_after own command) (command ∷ earlier)
own_step own earlier (commands.Fork child) h known name = (own_push own child name ∙ ap (λ (t : Bool). bytes_eq child name || t) (h name).0, awaited_push own child name ∙ (h name).1)
own_step own earlier (commands.Wait child) h known name = (own_marked child true own name ∙ (h name).0, wait_step child own earlier name (bytes_eq child name) refl known (h name).1)
own_step own earlier (commands.Cont child) h known name = (own_marked child false own name ∙ (h name).0, cont_step child own earlier name (bytes_eq child name) refl (h name).1)
own_step own earlier other h known name = h name

-- one line more, with which nothing is wrong
pub own_line : (own : List OwnChild) (earlier : List Command) (l : Line) → AreOwn own earlier → LineReachesOwn (forks_child earlier) (awaits_child earlier) l → AreOwn (own_with own l) (earlier_with earlier l)
own_line own earlier (lines.Begin kind name) h reaches = λ name. (refl, refl)
own_line own earlier (lines.Order command) h reaches = own_step own earlier command h (waits command reaches)
  where
    waits : (command : Command) → LineReachesOwn (forks_child earlier) (awaits_child earlier) (lines.Order command) → WaitsForOwn own command
    waits (commands.Wait name) reaches = (h name).0 ∙ reaches
    waits other reaches = tt
own_line own earlier lines.End h reaches = λ name. (refl, refl)
own_line own earlier line h reaches = h

-- ---- what is known before a command

-- A reader knows what the lines tell.
pub same_before : (inside there : Bool) (forked names : List (List ℕ)) (own : List OwnChild) (earlier : List Command) → inside ≡ there → forked ≡ names → AreOwn own earlier → known_before inside forked own ≡ told there names earlier
same_before inside there forked names own earlier ei en h = λ i. record { inside = ei i; forked = en i; own = λ name. (h name).0 i; awaited = λ name. (h name).1 i }
