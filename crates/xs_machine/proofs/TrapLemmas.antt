-- A bank traps exactly where the private task does.
use Rattle.std.proofs.Common.{◌≡◌, ℕ, Bool, true, false, not, ◌&&◌, ◌||◌, ◌==◌, List, Some, None, Option, if◌then◌else◌, refl, sym, ap, ◌∙◌}
use Rattle.xs_base.specs.declared.component.Row.{Row}
use Rattle.xs_area.specs.declared.area.Lease.{Lease}
use Rattle.xs_base.specs.Layout.{has_row}
use Rattle.xs_base.specs.Register.{place_of}
use Rattle.xs_base.specs.Sets.{has}
use Rattle.xs_base.specs.Task.{PrivateTask}
use Rattle.xs_bank.specs.declared.instruction.Trap.{Trap}
use Rattle.xs_bank.specs.Bank as banks
use Rattle.xs_bank.specs.Load.{tiles}
use Rattle.xs_model.specs.declared.script.Command.TheVariants as commands
use Rattle.xs_model.specs.Line.{traps}
use Rattle.xs_task.specs.declared.task.Task.{Task}
use Rattle.xs_task.specs.TaskArea.{has_large, is_large}
use Rattle.xs_machine.specs.Line.{IsUserOn}

-- what is armed
armed_by : (b : Bool) → has (if b then tiles else 0) 18 ≡ b
armed_by true = refl
armed_by false = refl

-- TILEDATA is armed where the machine has it and the task has no room for it
module _ (rows : List Row) (task : Task) (bank : banks.Bank) (p : PrivateTask) (on : IsUserOn rows task bank p) (loaded : task.need_load ≡ false) where
  armed_is : has bank.armed 18 ≡ (has_row p.file.rows 18 && not p.large)
  armed_is = by_lease task.lease refl
    where
      by_lease : (lease : Option Lease) → task.lease ≡ lease → has bank.armed 18 ≡ (has_row p.file.rows 18 && not p.large)
      by_lease None is = absurd (on.whole.some is)
      by_lease (Some lease) is =
          ap (λ (m : ℕ). has m 18) (on.ready loaded lease is).armed
          ∙ armed_by (has_row rows 18 && not (is_large lease.class))
          ∙ ap (λ (rs : List Row). has_row rs 18 && not (is_large lease.class)) (sym on.running.valid.file.rows_are)
          ∙ ap (λ (b : Bool). has_row p.file.rows 18 && not b) (sym (ap (λ (q : PrivateTask). q.large) on.running.form ∙ ap has_large is))

  write_none : (h x y : Bool) (t : Trap) → (if h && (x || y) then Some t else None) ≡ None → (h && (y || (true && x))) ≡ false
  write_none true true y t is = absurd (cc)
  write_none true false true t is = absurd (cc)
  write_none true false false t is = refl
  write_none false x y t is = refl

  write_some : (h x y : Bool) (t u : Trap) → (if h && (x || y) then Some t else None) ≡ Some u → (h && (y || (true && x))) ≡ true
  write_some true true true t u is = refl
  write_some true true false t u is = refl
  write_some true false true t u is = refl
  write_some true false false t u is = absurd (cc)
  write_some false x y t u is = absurd (cc)

  read_none : (h y : Bool) (t : Trap) → (if h && y then Some t else None) ≡ None → (h && (y || false)) ≡ false
  read_none true true t is = absurd (cc)
  read_none true false t is = refl
  read_none false y t is = refl

  read_some : (h y : Bool) (t u : Trap) → (if h && y then Some t else None) ≡ Some u → (h && (y || false)) ≡ true
  read_some true true t u is = refl
  read_some true false t u is = absurd (cc)
  read_some false y t u is = absurd (cc)

  pub set_free : (reg bytes : List ℕ) → banks.write_trap bank.armed (place_of reg) ≡ None → traps p (commands.Set reg bytes) ≡ false
  set_free reg bytes is =
      let place = place_of reg in
      ap (λ (b : Bool). b && ((place.comp.0 == 18) || (true && (place.comp.0 == 17)))) (sym armed_is) ∙ write_none (has bank.armed 18) (place.comp.0 == 17) (place.comp.0 == 18) _ is

  pub set_traps : (reg bytes : List ℕ) (t : Trap) → banks.write_trap bank.armed (place_of reg) ≡ Some t → traps p (commands.Set reg bytes) ≡ true
  set_traps reg bytes t is =
      let place = place_of reg in
      ap (λ (b : Bool). b && ((place.comp.0 == 18) || (true && (place.comp.0 == 17)))) (sym armed_is) ∙ write_some (has bank.armed 18) (place.comp.0 == 17) (place.comp.0 == 18) _ t is

  pub get_free : (reg : List ℕ) → banks.read_trap bank.armed (place_of reg) ≡ None → traps p (commands.Get reg) ≡ false
  get_free reg is =
      let place = place_of reg in
      ap (λ (b : Bool). b && ((place.comp.0 == 18) || false)) (sym armed_is) ∙ read_none (has bank.armed 18) (place.comp.0 == 18) _ is

  pub get_traps : (reg : List ℕ) (t : Trap) → banks.read_trap bank.armed (place_of reg) ≡ Some t → traps p (commands.Get reg) ≡ true
  get_traps reg t is =
      let place = place_of reg in
      ap (λ (b : Bool). b && ((place.comp.0 == 18) || false)) (sym armed_is) ∙ read_some (has bank.armed 18) (place.comp.0 == 18) _ t is
