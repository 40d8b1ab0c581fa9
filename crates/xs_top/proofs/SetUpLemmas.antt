-- Processors that are set up one after another.
use Rattle.std.proofs.Common.{◌≡◌, ℕ, zero, suc, ◌+◌, ◌<◌, List, [], ◌∷◌, length, get_or, refl, sym, ap, ◌∙◌, ◌⊎◌, inl, inr, arith}
use Rattle.std.proofs.lemmas.Option.{slice_get_read}
use Rattle.std.specs.Prelude.{slice_get, slice_set, Some, None}
use Rattle.xs_base.specs.declared.component.Row.{Row}
use Rattle.xs_bank.specs.declared.cpu.Cpu.{Cpu}
use Rattle.xs_bank.specs.Bank.{Bank, HasCountedNothing, set_up}
use Rattle.xs_bank.specs.SetUp.{WasSetUp}
use Rattle.xs_machine.specs.declared.proc.Proc.{Proc}
use Rattle.xs_machine.specs.Processors.{IsSetUpProc}
use Rattle.xs_model.specs.declared.script.Script.{Script}
use Rattle.xs_top.specs.Run.{AreNumbered, AreUncounted}

-- what stands at a place after an element was put at another or the same
pub set_at : {X : Type 0} (xs : List X) (i j : ℕ) (new x : X) → slice_get (slice_set xs i new) j ≡ Some x → ((j ≡ i) × (x ≡ new)) ⊎ ((j ≡ i → ⊥) × (slice_get xs j ≡ Some x))
set_at [] i j new x at = absurd (cc)
set_at (y ∷ ys) zero zero new x at = inl (refl, cc)
set_at (y ∷ ys) zero (suc j) new x at = inr (λ e. absurd (omega arith), at)
set_at (y ∷ ys) (suc i) zero new x at = inr (λ e. absurd (omega arith), at)
set_at (y ∷ ys) (suc i) (suc j) new x at = elim (set_at ys i j new x at) [
  | inl same ↦ inl (ap suc same.0, same.1)
  | inr other ↦ inr (λ e. other.0 (omega arith), other.1)
]

-- The first processors are set up, so many of them.
abbrev pub AreFirstSetUp : {B : Type 0} → (B → Bank) → Script → ℕ → List (Proc B) → Type 0
AreFirstSetUp {B = B} state script count procs = (i : ℕ) (proc : Proc B) → i < count → slice_get procs i ≡ Some proc → IsSetUpProc script.layout i proc.cpu (state proc.cpu.bank)

-- what was set up next, and what it leaves as it was
pub first_and_next : {B : Type 0} (state : B → Bank) (script : Script) (procs : List (Proc B)) (count : ℕ) (new : Proc B) → AreFirstSetUp state script count procs → IsSetUpProc script.layout count new.cpu (state new.cpu.bank) → AreFirstSetUp state script (count + 1) (slice_set procs count new)
first_and_next state script procs count new first ready = λ i proc lt at. elim (set_at procs count i new proc at) [
  | inl same ↦ rw (same.0, same.1) ready
  | inr other ↦ first i proc (omega (arith, lt, other.0)) other.1
]

pub numbers_set : {B : Type 0} (procs : List (Proc B)) (count : ℕ) (new : Proc B) → AreNumbered procs → new.cpu.number ≡ count → AreNumbered (slice_set procs count new)
numbers_set {B = B} procs count new numbers is = λ i proc at. elim (set_at procs count i new proc at) [
  | inl same ↦ ap (λ (p : Proc B). p.cpu.number) same.1 ∙ is ∙ sym same.0
  | inr other ↦ numbers i proc other.1
]

pub counts_set : {B : Type 0} (state : B → Bank) (procs : List (Proc B)) (count : ℕ) (new : Proc B) → AreUncounted state procs → HasCountedNothing (state new.cpu.bank) → AreUncounted state (slice_set procs count new)
counts_set state procs count new counts is = λ i proc at. elim (set_at procs count i new proc at) [
  | inl same ↦ rw same.1 is
  | inr other ↦ counts i proc other.1
]

-- the processor at a place
at_index : {B : Type 0} (procs : List (Proc B)) (count : ℕ) (old : Proc B) → count < length procs → old ≡ get_or procs count old → slice_get procs count ≡ Some old
at_index procs count old lt is = slice_get_read procs (length procs) count old refl lt is

-- a processor that was set up
pub next_ready : {B : Type 0} (state : B → Bank) (script : Script) (procs : List (Proc B)) (count : ℕ) (old : Proc B) (new : Cpu B) → count < length procs → old ≡ get_or procs count old → AreNumbered procs
    → new.number ≡ (get_or procs count old).cpu.number → new.layout ≡ script.layout → WasSetUp script.layout (state new.bank) new.initial → new.mark ≡ None → IsSetUpProc script.layout count new (state new.bank)
next_ready {B = B} state script procs count old new lt is numbers number layout set_up mark = record {
  number_is = number ∙ ap (λ (p : Proc B). p.cpu.number) (sym is) ∙ numbers count old (at_index procs count old lt is);
  layout = layout;
  set_up = set_up;
  unmarked = mark;
}

-- a set-up counts nothing
set_up_counts : (old : Bank) (rows : List Row) → HasCountedNothing old → HasCountedNothing (set_up old rows)
set_up_counts old rows h = record { execs = h.execs; loads = h.loads; saves = h.saves }

pub next_uncounted : {B : Type 0} (state : B → Bank) (rows : List Row) (procs : List (Proc B)) (count : ℕ) (old : Proc B) (new : Cpu B) → count < length procs → old ≡ get_or procs count old → AreUncounted state procs
    → state new.bank ≡ set_up (state (get_or procs count old).cpu.bank) rows → HasCountedNothing (state new.bank)
next_uncounted {B = B} state rows procs count old new lt is counts bank =
    let before = counts count old (at_index procs count old lt is) in
    rw (bank ∙ ap (λ (p : Proc B). set_up (state p.cpu.bank) rows) (sym is)) (set_up_counts (state old.cpu.bank) rows before)
