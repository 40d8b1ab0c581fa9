-- What an entry on one processor leaves of all.
use Rattle.std.proofs.Common.{◌≡◌, ℕ, zero, suc, ◌<◌, ◌≤◌, List, [], ◌∷◌, length, get_or, slice_set, slice_index_or, Option, Some, None, slice_get, refl, sym, ap, subst, ◌∙◌, arith, get_or-set_same, get_or-set_other}
use Rattle.std.proofs.lemmas.Option.{get_or_from_slice_get, slice_get-get_or}
use Rattle.xs_bank.specs.declared.cpu.Cpu.{Cpu}
use Rattle.xs_bank.specs.Bank as banks
use Rattle.xs_board.specs.Board.{Board}
use Rattle.xs_share.specs.declared.pass.Pass.{Pass}
use Rattle.xs_board.specs.declared.turn.Turn.{Turn}
use Rattle.xs_machine.specs.declared.proc.Proc.{Proc}
use Rattle.xs_machine.specs.Processors.{KeepsProcessor, KeepProcessors}
use Rattle.xs_machine.specs.Running.{AreAt, IsAt, IsTold, LeavesOthers}
use Rattle.xs_model.specs.declared.script.Script.{Script}

-- two numbers are the same or they aren't
pub split : (X : Type 0) (i j : ℕ) → (i ≡ j → X) → ((i ≡ j → ⊥) → X) → X
split X zero zero same apart = same refl
split X zero (suc j) same apart = apart (λ (e : zero ≡ suc j). absurd (cc e))
split X (suc i) zero same apart = apart (λ (e : suc i ≡ zero). absurd (cc e))
split X (suc i) (suc j) same apart = split X i j (λ (e : i ≡ j). same (ap suc e)) (λ (other : i ≡ j → ⊥). apart (λ (e : suc i ≡ suc j). other (omega arith)))

-- within a list any default reads the same
pub read_any : {X : Type 0} (xs : List X) (i : ℕ) (d e : X) → i < length xs → get_or xs i d ≡ get_or xs i e
read_any xs i d e within = get_or_from_slice_get xs i (get_or xs i e) d (slice_get-get_or xs i e within)

-- what stands where an element was set
pub set_here : {X : Type 0} (xs : List X) (i : ℕ) (y z : X) → slice_get (slice_set xs i y) i ≡ Some z → y ≡ z
set_here [] i y z at = absurd (cc)
set_here (x ∷ xs) zero y z at = cc
set_here (x ∷ xs) (suc i) y z at = set_here xs i y z at

-- what stands elsewhere
pub set_there : {X : Type 0} (xs : List X) (i j : ℕ) (y : X) → (j ≡ i → ⊥) → slice_get (slice_set xs i y) j ≡ slice_get xs j
set_there [] i j y other = refl
set_there (x ∷ xs) zero zero y other = absurd (other refl)
set_there (x ∷ xs) zero (suc j) y other = refl
set_there (x ∷ xs) (suc i) zero y other = refl
set_there (x ∷ xs) (suc i) (suc j) y other = set_there xs i j y (λ (e : j ≡ i). other (ap suc e))

-- the processor of an entry, with its turn
pub at_entry : {B : Type 0} (state : B → banks.Bank) (script : Script) (board : Board) (turns : List (Option Turn)) (procs : List (Proc B)) (i : ℕ) (slot : Option Turn) (proc : Proc B)
    → AreAt state script board turns procs → i < script.cpus → i < length turns → i < length procs
    → IsAt script board i (slice_index_or turns i slot) (slice_index_or procs i proc).cpu (state (slice_index_or procs i proc).cpu.bank)
at_entry state script board turns procs i slot proc at known room many =
    subst (λ (s : Option Turn). IsAt script board i s (slice_index_or procs i proc).cpu (state (slice_index_or procs i proc).cpu.bank)) (read_any turns i None slot room)
    (at.script_has i (slice_index_or procs i proc) known (slice_get-get_or procs i proc many))

-- after an entry on one processor all are as the board tells
pub at_after : {B : Type 0} (state : B → banks.Bank) (script : Script) (old new : Board) (turns : List (Option Turn)) (procs : List (Proc B)) (i : ℕ) (slot : Option Turn) (cpu : Cpu B) (pass : Option (Pass Board))
    → AreAt state script old turns procs → i < script.cpus → i < length turns → IsAt script new i slot cpu (state cpu.bank) → LeavesOthers B script i old new
    → AreAt state script new (slice_set turns i slot) (slice_set procs i (record { cpu = cpu; pass = pass }))
at_after {B} state script old new turns procs i slot cpu pass at known room here others = record { script_has = mine; beyond = rest }
  where
    proc : Proc B
    proc = record { cpu = cpu; pass = pass }

    mine : (j : ℕ) (p : Proc B) → j < script.cpus → slice_get (slice_set procs i proc) j ≡ Some p → IsAt script new j (slice_index_or (slice_set turns i slot) j None) p.cpu (state p.cpu.bank)
    mine j p below is = split (IsAt script new j (slice_index_or (slice_set turns i slot) j None) p.cpu (state p.cpu.bank)) j i same apart
      where
        same : j ≡ i → IsAt script new j (slice_index_or (slice_set turns i slot) j None) p.cpu (state p.cpu.bank)
        same e =
            let put : proc ≡ p = set_here procs i proc p (subst (λ (n : ℕ). slice_get (slice_set procs i proc) n ≡ Some p) e is) in
            let slot_is : slot ≡ slice_index_or (slice_set turns i slot) i None = sym (get_or-set_same turns i slot None room) in
            subst (λ (n : ℕ). IsAt script new n (slice_index_or (slice_set turns i slot) n None) p.cpu (state p.cpu.bank)) (sym e)
            (subst (λ (q : Proc B). IsAt script new i (slice_index_or (slice_set turns i slot) i None) q.cpu (state q.cpu.bank)) put
            (subst (λ (s : Option Turn). IsAt script new i s cpu (state cpu.bank)) slot_is here))

        apart : (j ≡ i → ⊥) → IsAt script new j (slice_index_or (slice_set turns i slot) j None) p.cpu (state p.cpu.bank)
        apart other =
            subst (λ (s : Option Turn). IsAt script new j s p.cpu (state p.cpu.bank)) (sym (get_or-set_other turns i j slot None other))
            (others.at j (slice_index_or turns j None) p.cpu (state p.cpu.bank) other (at.script_has j p below (sym (set_there procs i j proc other) ∙ is)))

    rest : (j : ℕ) (p : Proc B) → script.cpus ≤ j → slice_get (slice_set procs i proc) j ≡ Some p → IsTold script new j (state p.cpu.bank)
    rest j p above is =
        let other : j ≡ i → ⊥ = λ (e : j ≡ i). omega (arith, e) in
        others.told_is j (state p.cpu.bank) other (at.beyond j p above (sym (set_there procs i j proc other) ∙ is))

-- a processor that was set is the one that it was
pub kept_after : {B : Type 0} (procs : List (Proc B)) (i : ℕ) (proc : Proc B) (cpu : Cpu B) (pass : Option (Pass Board)) → KeepsProcessor (slice_index_or procs i proc).cpu cpu → KeepProcessors procs (slice_set procs i (record { cpu = cpu; pass = pass }))
kept_after {B} procs i proc cpu pass kept j before after was is = split (KeepsProcessor before.cpu after.cpu) j i same apart
  where
    set : Proc B
    set = record { cpu = cpu; pass = pass }

    same : j ≡ i → KeepsProcessor before.cpu after.cpu
    same e =
        let put : set ≡ after = set_here procs i set after (subst (λ (n : ℕ). slice_get (slice_set procs i set) n ≡ Some after) e is) in
        let first : get_or procs i proc ≡ before = get_or_from_slice_get procs i before proc (subst (λ (n : ℕ). slice_get procs n ≡ Some before) e was) in
        subst (λ (q : Proc B). KeepsProcessor before.cpu q.cpu) put (subst (λ (q : Proc B). KeepsProcessor q.cpu cpu) first kept)

    apart : (j ≡ i → ⊥) → KeepsProcessor before.cpu after.cpu
    apart other =
        let there = set_there procs i j set other in
        let e : before ≡ after = grind (arith, was, is, there) in
        subst (λ (q : Proc B). KeepsProcessor before.cpu q.cpu) e (record { number = refl; layout = refl; initial = refl })

-- what two steps keep, both keep
pub kept_twice : {B : Type 0} (old mid new : List (Proc B)) → length mid ≡ length old → KeepProcessors old mid → KeepProcessors mid new → KeepProcessors old new
kept_twice {B} old mid new many one two j before after was is = by_middle (slice_get mid j) refl
  where
    by_middle : (o : Option (Proc B)) → slice_get mid j ≡ o → KeepsProcessor before.cpu after.cpu
    by_middle (Some p) there = record { number = (two j p after there is).number ∙ (one j before p was there).number; layout = (two j p after there is).layout ∙ (one j before p was there).layout; initial = (two j p after there is).initial ∙ (one j before p was there).initial }
    by_middle None there =
        let here : j < length mid = omega (arith, many, within old j before was) in
        absurd (cc (there, slice_get-get_or mid j before here))
      where
        within : (ps : List (Proc B)) (k : ℕ) (p : Proc B) → slice_get ps k ≡ Some p → k < length ps
        within [] k p at = absurd (cc)
        within (q ∷ ps) zero p at = omega arith
        within (q ∷ ps) (suc k) p at = let rest = within ps k p at in omega arith
