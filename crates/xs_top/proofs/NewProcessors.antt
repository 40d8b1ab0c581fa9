-- The processors that the program makes.
use Rattle.std.proofs.Common.{◌≡◌, ℕ, ◌+◌, ◌<◌, List, [], ◌∷◌, ◌++◌, length, get_or, refl, sym, ap, ◌∙◌, inl, inr, arith, length-append}
use Rattle.std.proofs.Math.Seq.{get_or-append_seam}
use Rattle.std.proofs.lemmas.Bool.{cases_eq}
use Rattle.std.proofs.lemmas.List.{get_or_append_left}
use Rattle.std.proofs.lemmas.Option.{slice_get_within, slice_get_read, get_or_from_slice_get}
use Rattle.std.specs.Prelude.{slice_get, Some}
use Rattle.xs_machine.specs.declared.proc.Proc.{Proc}
use Rattle.xs_bank.specs.declared.bank_of.BankOf.{BankOf}
use Rattle.xs_bank.specs.declared.choice.Changes.{Changes}

-- A processor of this number whose bank has counted nothing.
pub record IsNew (number : ℕ) (proc : Proc (BankOf Changes)) : Type 0 where
  pub number_is : proc.cpu.number ≡ number
  pub execs : proc.cpu.bank.execs ≡ record { count = 0; trail = 0 }
  pub loads : proc.cpu.bank.loads ≡ 0
  pub saves : proc.cpu.bank.saves ≡ 0

-- one more at the end
pub more_new : (procs : List (Proc (BankOf Changes))) (proc : Proc (BankOf Changes)) → ((i : ℕ) (c : Proc (BankOf Changes)) → slice_get procs i ≡ Some c → IsNew i c) → IsNew (length procs) proc → (i : ℕ) (c : Proc (BankOf Changes)) → slice_get (procs ++ proc ∷ []) i ≡ Some c → IsNew i c
more_new procs proc before last i c at = elim (cases_eq i (length procs)) [
  | inl same ↦
      let is : proc ≡ c = sym (get_or-append_seam procs proc [] c) ∙ ap (λ n. get_or (procs ++ proc ∷ []) n c) (sym same) ∙ get_or_from_slice_get (procs ++ proc ∷ []) i c c at in
      rw (same, ← is) last
  | inr other ↦
      let within = slice_get_within (procs ++ proc ∷ []) i c at in
      let lt : i < length procs = (let long : length (procs ++ proc ∷ []) ≡ length procs + 1 = simp length-append (omega arith) in omega (arith, within, long, other)) in
      before i c (slice_get_read procs (length procs) i c refl lt (sym (get_or_from_slice_get (procs ++ proc ∷ []) i c c at) ∙ get_or_append_left procs (proc ∷ []) c i lt))
]
