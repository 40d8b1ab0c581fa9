-- The processors of a script, and those behind them.
use Rattle.std.proofs.Common.{◌≡◌, ℕ, zero, suc, ◌-◌, ◌<◌, ◌≤◌, List, [], ◌∷◌, ◌++◌, length, drop, slice_get, Some, refl, sym, ap, ◌∙◌, subst, arith}
use Rattle.xs_bank.specs.declared.cpu.Cpu.{Cpu}
use Rattle.xs_bank.specs.Bank as banks
use Rattle.xs_model.specs.declared.event.Event.{Event}
use Rattle.xs_model.specs.declared.script.Script.{Script}
use Rattle.xs_machine.specs.declared.proc.Proc.{Proc}
use Rattle.xs_machine.specs.Processors.{AreSetUp, HasRun, HaveRun, KeepProcessors, KeepsProcessor}
use Rattle.xs_machine.proofs.Opening.{compare}

-- ---- lists in two parts

pub in_front : {A : Type 0} (xs ys : List A) (i : ℕ) → i < length xs → slice_get (xs ++ ys) i ≡ slice_get xs i
in_front [] ys i within = absurd (omega (arith, within))
in_front (x ∷ xs) ys zero within = refl
in_front (x ∷ xs) ys (suc i) within = in_front xs ys i (omega (arith, within))

pub behind : {A : Type 0} (xs ys : List A) (i : ℕ) → length xs ≤ i → slice_get (xs ++ ys) i ≡ slice_get ys (i - length xs)
behind [] ys i beyond = ap (slice_get ys) (omega arith)
behind (x ∷ xs) ys zero beyond = absurd (omega (arith, beyond))
behind (x ∷ xs) ys (suc i) beyond = behind xs ys i (omega (arith, beyond)) ∙ ap (slice_get ys) (omega arith)

pub drop_front : {A : Type 0} (xs ys : List A) (n : ℕ) → length xs ≡ n → drop n (xs ++ ys) ≡ ys
drop_front [] ys n is = ap (λ (m : ℕ). drop m ys) (sym is)
drop_front (x ∷ xs) ys zero is = absurd (omega (arith, is))
drop_front (x ∷ xs) ys (suc n) is = drop_front xs ys n (omega (arith, is))

module _ {B : Type 0} (state : B → banks.Bank) (script : Script) (front back : List (Proc B)) (many : length front ≡ script.cpus) (set_up : AreSetUp state script (front ++ back)) where
  -- the script's processors are set up
  pub front_set_up : AreSetUp state script front
  front_set_up = record {
    set_up = λ i proc below is. set_up.set_up i proc below (in_front front back i (omega (arith, many, below)) ∙ is);
    counts = λ i proc is. set_up.counts i proc (in_front front back i (within front i proc is) ∙ is);
  }
    where
      within : (xs : List (Proc B)) (i : ℕ) (proc : Proc B) → slice_get xs i ≡ Some proc → i < length xs
      within [] i proc is = absurd (cc is)
      within (x ∷ xs) zero proc is = omega arith
      within (x ∷ xs) (suc i) proc is = let rest = within xs i proc is in omega (arith, rest)

  module _ (new : List (Proc B)) (as_many : length new ≡ length front) where
    pub all_run : (history : List Event) → HaveRun state script history new → ((c : ℕ) (cpu : Cpu B) (bank : banks.Bank) → script.cpus ≤ c → banks.HasCountedNothing bank → HasRun script history c cpu bank) → HaveRun state script history (new ++ back)
    all_run history run beyond i proc is =
        compare (HasRun script history i proc.cpu (state proc.cpu.bank)) i (length new)
        (λ below. run i proc (sym (in_front new back i below) ∙ is))
        (λ above.
        let old : slice_get (front ++ back) i ≡ Some proc = behind front back i (omega (arith, as_many, above)) ∙ ap (λ (n : ℕ). slice_get back (i - n)) (sym as_many) ∙ sym (behind new back i above) ∙ is in
        beyond i proc.cpu (state proc.cpu.bank) (omega (arith, as_many, many, above)) (set_up.counts i proc old))

    pub all_keep : KeepProcessors front new → KeepProcessors (front ++ back) (new ++ back)
    all_keep keeps i before after old now =
        compare (KeepsProcessor before.cpu after.cpu) i (length new)
        (λ below. keeps i before after (sym (in_front front back i (omega (arith, as_many, below))) ∙ old) (sym (in_front new back i below) ∙ now))
        (λ above.
        let there : slice_get (front ++ back) i ≡ slice_get (new ++ back) i = behind front back i (omega (arith, as_many, above)) ∙ ap (λ (n : ℕ). slice_get back (i - n)) (sym as_many) ∙ sym (behind new back i above) in
        let same : Some before ≡ Some after = sym old ∙ there ∙ now in
        let is : before ≡ after = cc same in
        subst (λ (proc : Proc B). KeepsProcessor before.cpu proc.cpu) is (record { number = refl; layout = refl; initial = refl }))
