-- The stage of a block after an event of its turn.
use Rattle.std.proofs.Common.{◌≡◌, ℕ, zero, suc, ◌+◌, Bool, true, false, not, List, [], ◌∷◌, map, slice_get, Option, Some, None, if◌then◌else◌, is_none, refl, ap, ◌∙◌}
use Rattle.xs_model.specs.declared.event.Event.{Event}
use Rattle.xs_model.specs.declared.event.Event.TheVariants as events
use Rattle.xs_base.specs.declared.words.Signo.{Signo}
use Rattle.xs_model.specs.declared.event.Reply.{Reply}
use Rattle.xs_model.specs.declared.event.Why.{Why}
use Rattle.xs_model.specs.declared.script.Command.{Command}
use Rattle.xs_model.specs.declared.script.Command.TheVariants as commands
use Rattle.xs_model.specs.declared.script.Script.{Script}
use Rattle.xs_model.specs.declared.stage.Stage.TheVariants.{Ready, Turn, Stopped, Waiting}
use Rattle.xs_model.specs.Counts.{ends_turn}
use Rattle.xs_model.specs.Line.{killed}
use Rattle.xs_model.specs.Machine.{machine, goes_on, own, reach, ran_line, grew, ended_with}
use Rattle.xs_model.specs.Outer.{freed, is_held, is_blocked, outer_own, stage_left}
use Rattle.xs_model.specs.Script.{block_named, command_at}
use Rattle.xs_model.specs.State.{BlockState, changed, stage_of, stage_at, turn_cpu}

-- ---- lists

pub changed_here : {A : Type 0} (i : ℕ) (f : A → A) (xs : List A) (x : A) → slice_get xs i ≡ Some x → slice_get (changed i f xs) i ≡ Some (f x)
changed_here i f [] x is = absurd (cc)
changed_here zero f (y ∷ xs) x is = let e : y ≡ x = cc in ap (λ z. Some (f z)) e
changed_here (suc i) f (y ∷ xs) x is = changed_here i f xs x is

-- the script stays
pub script_stays : (script : Script) (past : List Event) → (machine script past).script ≡ script
script_stays script [] = refl
script_stays script (event ∷ past) = script_stays script past

-- ---- a block in a turn

pub record InTurn (blocks : List BlockState) (t c ran : ℕ) : Type 0 where
  pub block : BlockState
  pub is : slice_get blocks t ≡ Some block
  pub stage : block.stage ≡ Turn c ran

pub in_turn : (blocks : List BlockState) (t c ran : ℕ) → stage_at blocks t ≡ Turn c ran → InTurn blocks t c ran
in_turn blocks t c ran is = go (slice_get blocks t) refl is
  where
    go : (o : Option BlockState) → slice_get blocks t ≡ o → stage_of o ≡ Turn c ran → InTurn blocks t c ran
    go None at is = absurd (cc)
    go (Some block) at is = record { block = block; is = at; stage = is }

module _ (script : Script) (past : List Event) (t c ran line : ℕ) (reply : Reply) (command : Command) (found : command_at script t line ≡ Some command) (turn : stage_at (machine script past).blocks t ≡ Turn c ran) where
  after_line : stage_at (machine script (events.Local t line reply ∷ past)).blocks t ≡ (if goes_on script command ran then Turn c (ran + 1) else Ready)
  after_line =
      let b = in_turn (machine script past).blocks t c ran turn in
      let here = changed_here t (ran_line (machine script past).script (command_at (machine script past).script t line)) (machine script past).blocks b.block b.is in
      ap stage_of here ∙ rw (script_stays script past, found, b.stage) (by_going (goes_on script command ran) refl b.block)
    where
      by_going : (b : Bool) → goes_on script command ran ≡ b → (block : BlockState) → (ran_line script (Some command) (record block { stage = Turn c ran })).stage ≡ (if goes_on script command ran then Turn c (ran + 1) else Ready)
      by_going true on block = rw on refl
      by_going false over block = rw over refl

  -- it's still in its turn where that goes on
  pub line_stage : goes_on script command ran ≡ true → stage_at (machine script (events.Local t line reply ∷ past)).blocks t ≡ Turn c (ran + 1)
  line_stage on = rw on at after_line

  pub line_ends : ends_turn script past (events.Local t line reply) ≡ not (goes_on script command ran)
  line_ends = ap (λ s. is_none (turn_cpu s)) after_line ∙ by_going (goes_on script command ran)
    where
      by_going : (b : Bool) → is_none (turn_cpu (if b then Turn c (ran + 1) else Ready)) ≡ not b
      by_going true = refl
      by_going false = refl

-- ---- an event that ends the turn

-- a change that leaves no block in a turn leaves none where it was made
changed_leaves : (i : ℕ) (f : BlockState → BlockState) (blocks : List BlockState) → ((block : BlockState) → turn_cpu (f block).stage ≡ None) → turn_cpu (stage_at (changed i f blocks) i) ≡ None
changed_leaves i f [] leaves = refl
changed_leaves zero f (block ∷ blocks) leaves = leaves block
changed_leaves (suc i) f (block ∷ blocks) leaves = changed_leaves i f blocks leaves

-- after the end of its body the block isn't in its turn, and neither is it after a kill or a Grow
pub end_ends : (script : Script) (past : List Event) (t : ℕ) → ends_turn script past (events.End t) ≡ true
end_ends script past t =
    ap is_none (changed_leaves t (λ (block : BlockState). ended_with block.task block) (map (freed t) (machine script past).blocks) (λ block. refl))

pub kill_ends : (script : Script) (past : List Event) (t : ℕ) (signo : Signo) (why : Why) → ends_turn script past (events.Kill t signo why) ≡ true
kill_ends script past t signo why =
    ap is_none (changed_leaves t (λ (block : BlockState). ended_with (killed why block.task) block) (map (freed t) (machine script past).blocks) (λ block. refl))

pub grow_ends : (script : Script) (past : List Event) (t : ℕ) → ends_turn script past (events.Grow t) ≡ true
grow_ends script past t = ap is_none (changed_leaves t grew (machine script past).blocks (λ block. refl))

-- nor after an outer line, which leaves it ready, stopped or waiting
held_leaves : (held : Bool) → turn_cpu (if held then Stopped else Ready) ≡ None
held_leaves true = refl
held_leaves false = refl

blocked_leaves : (blocked : Bool) (child : ℕ) → turn_cpu (if blocked then Waiting child else Ready) ≡ None
blocked_leaves true child = refl
blocked_leaves false child = refl

line_leaves : (script : Script) (command : Command) (reply : Reply) → turn_cpu (stage_left script command reply) ≡ None
line_leaves script commands.Stop reply = held_leaves (is_held reply)
line_leaves script (commands.Wait name) reply = blocked_leaves (is_blocked reply) (block_named script name)
line_leaves script other reply = refl

outer_leaves : (script : Script) (command : Option Command) (reply : Reply) (block : BlockState) → turn_cpu (outer_own script command reply block).stage ≡ None
outer_leaves script None reply block = refl
outer_leaves script (Some command) reply block = line_leaves script command reply

pub outer_ends : (script : Script) (past : List Event) (t line : ℕ) (reply : Reply) → ends_turn script past (events.Outer t line reply) ≡ true
outer_ends script past t line reply =
    let m = machine script past in
    ap is_none (changed_leaves t (own m.script (events.Outer t line reply)) (reach m.script (events.Outer t line reply) m.blocks) (outer_leaves m.script (command_at m.script t line) reply))
