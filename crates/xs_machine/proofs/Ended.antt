-- A history in which nobody lives has no further event.
use Rattle.std.proofs.Common.{◌≡◌, ℕ, zero, suc, Bool, true, false, not, ◌||◌, List, [], ◌∷◌, ◌++◌, Option, Some, None, slice_get, refl, sym, ap, ◌∙◌, subst}
use Rattle.std.specs.List.{list_any}
use Rattle.xs_base.specs.Task.{PrivateTask}
use Rattle.xs_model.specs.declared.event.Event.{Event}
use Rattle.xs_model.specs.declared.event.Event.TheVariants.{Start, Local, Outer, Grow, Kill, End}
use Rattle.xs_model.specs.declared.script.Block.{Block}
use Rattle.xs_model.specs.declared.script.Script.{Script}
use Rattle.xs_model.specs.declared.stage.Stage.{Stage}
use Rattle.xs_model.specs.declared.stage.Stage.TheVariants.{Unborn, Ready, Turn, Stopped, Waiting, Ended}
use Rattle.xs_model.specs.Due.{block_event, block_start, due, turn_event}
use Rattle.xs_model.specs.Machine.{IsLegalPast, IsStep, foreseen, machine}
use Rattle.xs_model.specs.State.{BlockState, Machine, is_ready, lives, none_lives}

-- each block has ended or isn't born
or_left : (a b : Bool) → not (a || b) ≡ true → a ≡ false
or_left true b is = absurd (cc is)
or_left false b is = refl

or_right : (a b : Bool) → not (a || b) ≡ true → not b ≡ true
or_right true b is = absurd (cc is)
or_right false b is = is

not_alive : (blocks : List BlockState) (t : ℕ) (block : BlockState) → not (list_any (λ (b : BlockState). lives b.stage) blocks) ≡ true → slice_get blocks t ≡ Some block → lives block.stage ≡ false
not_alive [] t block none at = absurd (cc at)
not_alive (first ∷ blocks) zero block none at = let same : first ≡ block = cc at in ap (λ (b : BlockState). lives b.stage) (sym same) ∙ or_left (lives first.stage) (list_any (λ (b : BlockState). lives b.stage) blocks) none
not_alive (first ∷ blocks) (suc t) block none at = not_alive blocks t block (or_right (lives first.stage) (list_any (λ (b : BlockState). lives b.stage) blocks) none) at

-- such a block is not ready, and in no turn
not_ready : (stage : Stage) → lives stage ≡ false → is_ready stage ≡ false
not_ready Unborn is = refl
not_ready Ready is = absurd (cc is)
not_ready (Turn cpu ran) is = refl
not_ready Stopped is = absurd (cc is)
not_ready (Waiting child) is = absurd (cc is)
not_ready Ended is = refl

no_turn : (m : Machine) (t : ℕ) (lines : Block) (task : PrivateTask) (stage : Stage) → lives stage ≡ false → turn_event m t lines task stage ≡ None
no_turn m t lines task Unborn is = refl
no_turn m t lines task Ready is = refl
no_turn m t lines task (Turn cpu ran) is = absurd (cc is)
no_turn m t lines task Stopped is = absurd (cc is)
no_turn m t lines task (Waiting child) is = absurd (cc is)
no_turn m t lines task Ended is = refl

-- so no event may come from it
none_due : (m : Machine) (t : ℕ) → none_lives m ≡ true → due m t ≡ None
none_due m t none = by_block (slice_get m.blocks t) (slice_get m.script.blocks t) refl
  where
    by_block : (block : Option BlockState) (lines : Option Block) → slice_get m.blocks t ≡ block → block_event m t block lines ≡ None
    by_block None lines at = refl
    by_block (Some block) None at = refl
    by_block (Some block) (Some lines) at = no_turn m t lines block.task block.stage (not_alive m.blocks t block none at)

none_starts : (m : Machine) (t cpu : ℕ) → none_lives m ≡ true → block_start m t cpu (slice_get m.blocks t) ≡ None
none_starts m t cpu none = by_block (slice_get m.blocks t) refl
  where
    by_block : (block : Option BlockState) → slice_get m.blocks t ≡ block → block_start m t cpu block ≡ None
    by_block None at = refl
    by_block (Some block) at = let off = not_ready block.stage (not_alive m.blocks t block none at) in rw off refl

none_foreseen : (m : Machine) (event : Event) → none_lives m ≡ true → foreseen m event ≡ None
none_foreseen m (Start t cpu how signal) none = none_starts m t cpu none
none_foreseen m (Local t line reply) none = none_due m t none
none_foreseen m (Outer t line reply) none = none_due m t none
none_foreseen m (Grow t) none = none_due m t none
none_foreseen m (Kill t signo why) none = none_due m t none
none_foreseen m (End t) none = none_due m t none

no_step : (m : Machine) (event : Event) → none_lives m ≡ true → IsStep m event → ⊥
no_step m event none step = let clash : None ≡ Some event = sym (none_foreseen m event none) ∙ step.is_due in absurd (cc clash)

pub nothing_follows : (script : Script) (newer past : List Event) → none_lives (machine script past) ≡ true → IsLegalPast script (newer ++ past) → newer ≡ []
nothing_follows script [] past none legal = refl
nothing_follows script (event ∷ newer) past none legal =
    let nothing = nothing_follows script newer past none legal.0 in
    absurd (no_step (machine script past) event none (subst (λ (more : List Event). IsStep (machine script (more ++ past)) event) nothing legal.1))
