-- What is wrong with a command, and with what is kept of it.
use Rattle.std.proofs.Common.{◌≡◌, ℕ, true, false, not, ◌||◌, ◌==◌, List, length, Option, Some, None, MatchOption, drop, refl, sym, ap, subst, arith, inl, inr}
use Rattle.std.specs.List.{list_all}
use Rattle.std.proofs.lemmas.Bool.{and_parts, eqb-true, ne_eqb, cases_lt}
use Rattle.xs_base.specs.declared.component.Row.{Row}
use Rattle.xs_base.specs.declared.component.Place.{Place}
use Rattle.xs_base.specs.File.{is_mxcsr}
use Rattle.xs_base.specs.Register.{IsRegister}
use Rattle.xs_base.proofs.Registers.{place_length}
use Rattle.xs_model.specs.declared.script.Command.{Command}
use Rattle.xs_model.specs.declared.script.Command.TheVariants as commands
use Rattle.xs_model.specs.Script.{fits_register}
use Rattle.xs_script.specs.declared.commands.Scope.{Scope}
use Rattle.xs_script.specs.declared.refusal.Kind.{Kind}
use Rattle.xs_script.specs.Before.{Before}
use Rattle.xs_script.specs.Refusal.{register_of, name_fault, CommandFails, Misnamed}
use Rattle.xs_script.specs.ScriptLine.{kept_bytes}
use Rattle.xs_script.specs.Commands.{PassesCommand}
use Rattle.xs_script.proofs.Kept.{kept_same_bytes, kept_long}

-- nothing is wrong with a command without a register where nothing is with the block that it names
passes_named : (scope : Scope) (before : Before) (command : Command) → register_of command ≡ None → name_fault scope before command ≡ None → PassesCommand scope before command
passes_named scope before (commands.Set reg bytes) none h = absurd (cc none)
passes_named scope before (commands.Get reg) none h = absurd (cc none)
passes_named scope before other none h = h

-- a command that neither sets nor gets one has no register
pub no_register : (command : Command) → ((reg bytes : List ℕ) → command ≡ commands.Set reg bytes → ⊥) → ((reg : List ℕ) → command ≡ commands.Get reg → ⊥) → register_of command ≡ None
no_register (commands.Set reg bytes) set get = absurd (set reg bytes refl)
no_register (commands.Get reg) set get = absurd (get reg refl)
no_register other set get = refl

-- Or it fails by that block.
pub named_or_fails : (scope : Scope) (before : Before) (command : Command) (r : Option Kind) → register_of command ≡ None → r ≡ name_fault scope before command → MatchOption r (PassesCommand scope before command) (CommandFails scope before command)
named_or_fails scope before command None none is = passes_named scope before command none (sym is)
named_or_fails scope before command (Some kind) none is = Misnamed command kind (sym is)

-- bytes that fit a register are as many as it has
pub fits_length : (place : Place) (bytes : List ℕ) → fits_register place bytes ≡ true → length bytes ≡ place.len
fits_length place bytes fits =
    eqb-true (length bytes) place.len (and_parts (length bytes == place.len) (not (is_mxcsr place) || list_all (λ byte. byte == 0) (drop 2 bytes)) fits).0

-- a value is kept whole where what is kept of it fits the register
pub kept_whole : (rows : List Row) (reg bytes : List ℕ) (place : Place) → IsRegister rows reg place → fits_register place (kept_bytes bytes) ≡ true → kept_bytes bytes ≡ bytes
kept_whole rows reg bytes place here fits =
    let size = place_length reg place here.0 in
    let len = fits_length place (kept_bytes bytes) fits in
    elim (cases_lt 64 (length bytes)) [
      | inl long ↦ let none = ap length (kept_long bytes long) in absurd (omega (arith, size.0, len, none))
      | inr short ↦ kept_same_bytes bytes short
    ]

-- a value doesn't fit the register where what is kept of it doesn't
pub kept_misfit : (rows : List Row) (reg bytes : List ℕ) (place : Place) → IsRegister rows reg place → fits_register place (kept_bytes bytes) ≡ false → fits_register place bytes ≡ false
kept_misfit rows reg bytes place here wrong =
    let size = place_length reg place here.0 in
    elim (cases_lt 64 (length bytes)) [
      | inl long ↦ let other : (length bytes == place.len) ≡ false = ne_eqb (length bytes) place.len (omega (arith, size.1)) in rw other refl
      | inr short ↦ subst (λ (bs : List ℕ). fits_register place bs ≡ false) (kept_same_bytes bytes short) wrong
    ]
