-- Each step keeps the family, so that where a block lives one is ready or in a turn.
use Rattle.std.proofs.Common.{◌≡◌, ℕ, zero, suc, Bool, true, false, List, [], ◌∷◌, map, refl, sym, ap, ◌∙◌, subst, inl, inr, ◌⊎◌, ⊎_elim, arith}
use Rattle.std.proofs.lemmas.Bool.{cases_eq, both_ways, or_cases, not-false}
use Rattle.std.specs.Prelude.{Option, Some, None, if◌then◌else◌, slice_get}
use Rattle.std.specs.Option.{option_map}
use Rattle.std.specs.List.{list_any}
use Rattle.xs_base.specs.declared.words.Signo.{Signo}
use Rattle.xs_base.specs.Task.{child_of}
use Rattle.xs_model.specs.declared.script.BlockKind.{BlockKind}
use Rattle.xs_model.specs.declared.script.BlockKind.TheVariants.{Task, Child, Kthread}
use Rattle.xs_model.specs.declared.script.Command.{Command}
use Rattle.xs_model.specs.declared.script.Command.TheVariants as commands
use Rattle.xs_model.specs.declared.script.Block.{Block}
use Rattle.xs_model.specs.declared.script.Script.{Script}
use Rattle.xs_model.specs.declared.event.Reply.{Reply}
use Rattle.xs_model.specs.declared.event.Reply.TheVariants as replies
use Rattle.xs_model.specs.declared.event.Event.{Event}
use Rattle.xs_model.specs.declared.event.Event.TheVariants.{Start, Local, Outer, Grow, Kill, End}
use Rattle.xs_model.specs.declared.stage.Stage.{Stage}
use Rattle.xs_model.specs.declared.stage.Stage.TheVariants.{Unborn, Ready, Turn, Stopped, Waiting, Ended}
use Rattle.xs_model.specs.Script.{block_named, command_at}
use Rattle.xs_model.specs.Note.{is_count}
use Rattle.xs_model.specs.State.{BlockState, Machine, opening, opening_stage, opening_block, turn_cpu, turn_of, lives, is_active, stage_of, stage_at, parent_of, changed}
use Rattle.xs_model.specs.Outer.{woken, continued, freed, bear, born, signalled, buffer_of, registers_set, buffer_filled, parent_lives, outer_reply, outer_reach, stage_left, outer_own}
use Rattle.xs_model.specs.Due.{due}
use Rattle.xs_model.specs.Machine.{started, goes_on, ran_in, ran_line, own, blocks_after, IsStep, machine, IsLegalPast}
use Rattle.xs_model.proofs.EventTurns.{changed_same, changed_other}
use Rattle.xs_model.specs.Laws.{NeverStuck, FewEvents, WaitsForChild}
use Rattle.xs_model.proofs.LineNumbers.{AreLinesFound, lines_found}
use Rattle.xs_model.proofs.DueTurns.{due_turning, starting_of, block_outer}
use Rattle.xs_model.proofs.LegalTurns.{machine_script}
use Rattle.xs_model.proofs.BlockSums.{OneWaits}
use Rattle.xs_model.proofs.EventBound.{within_bound}
use Rattle.xs_model.proofs.Family.{IsFamily, Bears}
use Rattle.xs_model.proofs.Families.{family_born, one_is_active}
use Rattle.xs_model.proofs.FamilyMoves.{parent_at, is_there, Soft, SoftList, soft_same, soft_list, soft_map, soft_changed, soft_if, woken_soft, freed_soft, continued_soft, signalled_soft, set_soft, filled_soft, some_of, OwnMove, family_moved, active_move, there_of, end_move, stop_move, wait_move}

-- ---- a Start and a line

-- a Start leaves its block active
started_active : (cpu : ℕ) (signal : Option Signo) (block : BlockState) → is_active (started cpu signal block).stage ≡ true
started_active cpu None block = refl
started_active cpu (Some signo) block = refl

-- and its parent
started_parent : (cpu : ℕ) (signal : Option Signo) (block : BlockState) → (started cpu signal block).parent ≡ block.parent
started_parent cpu None block = refl
started_parent cpu (Some signo) block = refl

-- a block in a turn is active
turning_active : (s : Stage) (cpu : ℕ) → turn_cpu s ≡ Some cpu → is_active s ≡ true
turning_active Unborn cpu is = absurd (cc)
turning_active Ready cpu is = refl
turning_active (Turn c ran) cpu is = refl
turning_active Stopped cpu is = absurd (cc)
turning_active (Waiting child) cpu is = absurd (cc)
turning_active Ended cpu is = absurd (cc)

-- whichever way a test goes
either_active : (b : Bool) (x y : BlockState) → is_active x.stage ≡ true → is_active y.stage ≡ true → is_active (if b then x else y).stage ≡ true
either_active true x y on also = on
either_active false x y on also = also

-- whichever way a test goes
either_parent : (b : Bool) (x y : BlockState) (p : Option ℕ) → x.parent ≡ p → y.parent ≡ p → (if b then x else y).parent ≡ p
either_parent true x y p on also = on
either_parent false x y p on also = also

-- a local line leaves its block active
ran_active : (script : Script) (command : Command) (s : Stage) (block : BlockState) (cpu : ℕ) → block.stage ≡ s → turn_cpu s ≡ Some cpu → is_active (ran_in script command s block).stage ≡ true
ran_active script command (Turn c ran) block cpu at is = either_active (goes_on script command ran) _ _ refl refl
ran_active script command Unborn block cpu at is = absurd (cc)
ran_active script command Ready block cpu at is = ap is_active at
ran_active script command Stopped block cpu at is = absurd (cc)
ran_active script command (Waiting child) block cpu at is = absurd (cc)
ran_active script command Ended block cpu at is = absurd (cc)

-- the same by the line's number
line_active : (script : Script) (command : Option Command) (block : BlockState) (cpu : ℕ) → turn_cpu block.stage ≡ Some cpu → is_active (ran_line script command block).stage ≡ true
line_active script None block cpu is = turning_active block.stage cpu is
line_active script (Some command) block cpu is = ran_active script command block.stage block cpu refl is

-- and its parent
goes_parent : (script : Script) (command : Command) (s : Stage) (block : BlockState) → (ran_in script command s block).parent ≡ block.parent
goes_parent script command (Turn c ran) block = either_parent (goes_on script command ran) _ _ block.parent refl refl
goes_parent script command Unborn block = refl
goes_parent script command Ready block = refl
goes_parent script command Stopped block = refl
goes_parent script command (Waiting child) block = refl
goes_parent script command Ended block = refl

-- the same by the line's number
line_parent : (script : Script) (command : Option Command) (block : BlockState) → (ran_line script command block).parent ≡ block.parent
line_parent script None block = refl
line_parent script (Some command) block = goes_parent script command block.stage block

-- ---- outer commands

-- an outer command leaves the parent
outer_parent : (script : Script) (command : Option Command) (reply : Reply) (b : BlockState) → (outer_own script command reply b).parent ≡ b.parent
outer_parent script None reply b = refl
outer_parent script (Some command) reply b = refl

-- the blocks are a family
abbrev Kept : List BlockState → Type 0
Kept blocks = IsFamily (stage_at blocks) (parent_at blocks)

-- so they are after an outer command
abbrev KeptOuter : Machine → ℕ → Command → Reply → Type 0
KeptOuter m t command reply = Kept (changed t (outer_own m.script (Some command) reply) (outer_reach m.script t (Some command) reply m.blocks))

-- a command with a soft effect
soft_outer : (m : Machine) (t : ℕ) (command : Command) (reply : Reply) (mid : List BlockState) → SoftList m.blocks mid → is_there (slice_get m.blocks t) ≡ true → OwnMove m.blocks mid t (stage_left m.script command reply) → Kept m.blocks → Kept (changed t (outer_own m.script (Some command) reply) mid)
soft_outer m t command reply mid soft there move family =
    let b = some_of (slice_get mid t) (soft.there t ∙ there) in
    family_moved m.blocks mid t (outer_own m.script (Some command) reply) b.0 soft b.1 (outer_parent m.script (Some command) reply) move family

-- one after which the block is ready
ready_outer : (m : Machine) (t : ℕ) (command : Command) (reply : Reply) (mid : List BlockState) → SoftList m.blocks mid → is_there (slice_get m.blocks t) ≡ true → stage_left m.script command reply ≡ Ready → Kept m.blocks → Kept (changed t (outer_own m.script (Some command) reply) mid)
ready_outer m t command reply mid soft there ready family = soft_outer m t command reply mid soft there (active_move m.blocks mid t (stage_left m.script command reply) (ap is_active ready)) family

-- one that reaches one block, where it is accepted
one_outer : (m : Machine) (t i : ℕ) (command : Command) (reply : Reply) (f : BlockState → BlockState) → Soft f → is_there (slice_get m.blocks t) ≡ true → stage_left m.script command reply ≡ Ready → Kept m.blocks → Kept (changed t (outer_own m.script (Some command) reply) (if is_count reply then changed i f m.blocks else m.blocks))
one_outer m t i command reply f soft there ready family = ready_outer m t command reply (if is_count reply then changed i f m.blocks else m.blocks) (soft_if (is_count reply) m.blocks (changed i f m.blocks) (soft_changed i f soft m.blocks)) there ready family

-- a stop
stop_family : (m : Machine) (t : ℕ) (alive : Bool) → is_there (slice_get m.blocks t) ≡ true → Kept m.blocks → parent_lives m.blocks (parent_at m.blocks t) ≡ alive → KeptOuter m t commands.Stop (if alive then replies.Held else replies.Done)
stop_family m t true there family test = soft_outer m t commands.Stop replies.Held (map (woken t) m.blocks) (soft_map (woken t) (woken_soft t) m.blocks) there (stop_move m.blocks t (parent_at m.blocks t) refl test) family
stop_family m t false there family test = ready_outer m t commands.Stop replies.Done m.blocks (soft_same m.blocks) there refl family

-- ---- fork

-- who was born isn't born again
pub born_old : (t : ℕ) (parent : Option BlockState) (s : Stage) (block : BlockState) → block.stage ≡ s → (s ≡ Unborn → ⊥) → born t parent block ≡ block
born_old t None s block at old = refl
born_old t (Some parent) s block at old = bear_old s at old
  where
    bear_old : (s : Stage) → block.stage ≡ s → (s ≡ Unborn → ⊥) → bear t parent.task block.stage block ≡ block
    bear_old Unborn at old = absurd (old refl)
    bear_old Ready at old = ap (λ (x : Stage). bear t parent.task x block) at
    bear_old (Turn cpu ran) at old = ap (λ (x : Stage). bear t parent.task x block) at
    bear_old Stopped at old = ap (λ (x : Stage). bear t parent.task x block) at
    bear_old (Waiting child) at old = ap (λ (x : Stage). bear t parent.task x block) at
    bear_old Ended at old = ap (λ (x : Stage). bear t parent.task x block) at

-- an effect that changes nothing
unchanged_soft : (blocks : List BlockState) (c : ℕ) (f : BlockState → BlockState) → option_map f (slice_get blocks c) ≡ slice_get blocks c → SoftList blocks (changed c f blocks)
unchanged_soft blocks c f same = soft_list blocks (changed c f blocks) (λ v.
    let at : slice_get (changed c f blocks) v ≡ slice_get blocks v = ⊎_elim
    (λ (here : c ≡ v). subst (λ (x : ℕ). slice_get (changed c f blocks) x ≡ slice_get blocks x) here (changed_same c f blocks ∙ same))
    (λ (other : c ≡ v → ⊥). changed_other c v f blocks other)
    (cases_eq c v) in
    (inl (ap stage_of at), ap parent_of at, ap is_there at))

-- a fork of an unborn block
fork_new : (m : Machine) (t c : ℕ) (name : List ℕ) (reply : Reply) (parent child : BlockState) → slice_get m.blocks t ≡ Some parent → is_active parent.stage ≡ true → slice_get m.blocks c ≡ Some child → child.stage ≡ Unborn → Kept m.blocks → Kept (changed t (outer_own m.script (Some (commands.Fork name)) reply) (changed c (born t (slice_get m.blocks t)) m.blocks))
fork_new m t c name reply parent child here active there unborn family =
    let f = born t (slice_get m.blocks t) in
    let g = outer_own m.script (Some (commands.Fork name)) reply in
    let mid = changed c f m.blocks in
    let apart : t ≡ c → ⊥ = λ (same : t ≡ c).
    let both : Some parent ≡ Some child = sym here ∙ ap (slice_get m.blocks) same ∙ there in
    let one : parent ≡ child = cc in
    let bad : is_active parent.stage ≡ false = ap (λ (b : BlockState). is_active b.stage) one ∙ ap is_active unborn in
    both_ways (is_active parent.stage) bad active in
    let away : c ≡ t → ⊥ = λ (same : c ≡ t). apart (sym same) in
    let mid_t : slice_get mid t ≡ Some parent = changed_other c t f m.blocks away ∙ here in
    let mid_c : slice_get mid c ≡ Some (f child) = changed_same c f m.blocks ∙ ap (option_map f) there in
    let born_is : f child ≡ record { stage = Ready; task = child_of parent.task; parent = Some t; pending = [] } =
    ap (λ (p : Option BlockState). born t p child) here ∙ ap (λ (s : Stage). bear t parent.task s child) unborn in
    let new_c : slice_get (changed t g mid) c ≡ Some (record { stage = Ready; task = child_of parent.task; parent = Some t; pending = [] }) = changed_other t c g mid apart ∙ mid_c ∙ ap Some born_is in
    let new_t : slice_get (changed t g mid) t ≡ Some (g parent) = changed_same t g mid ∙ ap (option_map g) mid_t in
    let other : (v : ℕ) → (v ≡ t → ⊥) → (v ≡ c → ⊥) → slice_get (changed t g mid) v ≡ slice_get m.blocks v = λ v not_t not_c.
    changed_other t v g mid (λ (e : t ≡ v). not_t (sym e)) ∙ changed_other c v f m.blocks (λ (e : c ≡ v). not_c (sym e)) in
    let bears : Bears (stage_at m.blocks) (stage_at (changed t g mid)) (parent_at m.blocks) (parent_at (changed t g mid)) t c = record {
      unborn = ap stage_of there ∙ unborn;
      turning = ap (λ (b : Option BlockState). is_active (stage_of b)) here ∙ active;
      child = ap stage_of new_c;
      mother = ap stage_of new_t;
      others = λ v not_t not_c. ap stage_of (other v not_t not_c);
      parent = ap parent_of new_c;
      parents = λ v not_c. ⊎_elim
          (λ (same : t ≡ v). subst (λ (x : ℕ). parent_at (changed t g mid) x ≡ parent_at m.blocks x) same (ap parent_of new_t ∙ sym (ap parent_of here)))
          (λ (not_t : t ≡ v → ⊥). ap parent_of (other v (λ (e : v ≡ t). not_t (sym e)) not_c))
          (cases_eq t v);
    } in
    family_born (stage_at m.blocks) (stage_at (changed t g mid)) (parent_at m.blocks) (parent_at (changed t g mid)) t c family bears

-- a fork of a block that was born
fork_old : (m : Machine) (t c : ℕ) (name : List ℕ) (reply : Reply) → is_there (slice_get m.blocks t) ≡ true → option_map (born t (slice_get m.blocks t)) (slice_get m.blocks c) ≡ slice_get m.blocks c → Kept m.blocks → Kept (changed t (outer_own m.script (Some (commands.Fork name)) reply) (changed c (born t (slice_get m.blocks t)) m.blocks))
fork_old m t c name reply there same family = ready_outer m t (commands.Fork name) reply (changed c (born t (slice_get m.blocks t)) m.blocks) (unchanged_soft m.blocks c (born t (slice_get m.blocks t)) same) there refl family

-- a fork
fork_family : (m : Machine) (t c : ℕ) (name : List ℕ) (reply : Reply) (parent : BlockState) → slice_get m.blocks t ≡ Some parent → is_active parent.stage ≡ true → Kept m.blocks → (child : Option BlockState) → slice_get m.blocks c ≡ child → Kept (changed t (outer_own m.script (Some (commands.Fork name)) reply) (changed c (born t (slice_get m.blocks t)) m.blocks))
fork_family m t c name reply parent here active family None at = fork_old m t c name reply (ap is_there here) (ap (option_map (born t (slice_get m.blocks t))) at ∙ sym at) family
fork_family m t c name reply parent here active family (Some child) at = by_stage child.stage refl
  where
    old : (child.stage ≡ Unborn → ⊥) → Kept (changed t (outer_own m.script (Some (commands.Fork name)) reply) (changed c (born t (slice_get m.blocks t)) m.blocks))
    old not_unborn = fork_old m t c name reply (ap is_there here) (ap (option_map (born t (slice_get m.blocks t))) at ∙ ap Some (born_old t (slice_get m.blocks t) child.stage child refl not_unborn) ∙ sym at) family

    by_stage : (s : Stage) → child.stage ≡ s → Kept (changed t (outer_own m.script (Some (commands.Fork name)) reply) (changed c (born t (slice_get m.blocks t)) m.blocks))
    by_stage Unborn is = fork_new m t c name reply parent child here active at is family
    by_stage Ready is = old (λ (e : child.stage ≡ Unborn). let clash : Ready ≡ Unborn = sym is ∙ e in cc)
    by_stage (Turn cpu ran) is = old (λ (e : child.stage ≡ Unborn). let clash : Turn cpu ran ≡ Unborn = sym is ∙ e in cc)
    by_stage Stopped is = old (λ (e : child.stage ≡ Unborn). let clash : Stopped ≡ Unborn = sym is ∙ e in cc)
    by_stage (Waiting k) is = old (λ (e : child.stage ≡ Unborn). let clash : Waiting k ≡ Unborn = sym is ∙ e in cc)
    by_stage Ended is = old (λ (e : child.stage ≡ Unborn). let clash : Ended ≡ Unborn = sym is ∙ e in cc)

-- each command leaves a family
outer_family : (m : Machine) (t : ℕ) (command : Command) (parent : BlockState) → slice_get m.blocks t ≡ Some parent → is_active parent.stage ≡ true → Kept m.blocks → KeptOuter m t command (outer_reply m.script m.blocks t command)
outer_family m t (commands.Fork name) parent here active family = fork_family m t (block_named m.script name) name replies.Done parent here active family (slice_get m.blocks (block_named m.script name)) refl
outer_family m t (commands.Kill name signo) parent here active family =
    one_outer m t (block_named m.script name) (commands.Kill name signo) (outer_reply m.script m.blocks t (commands.Kill name signo)) (signalled signo) (signalled_soft signo) (ap is_there here) refl family
outer_family m t commands.Stop parent here active family = stop_family m t (parent_lives m.blocks (parent_at m.blocks t)) (ap is_there here) family refl
outer_family m t (commands.Wait name) parent here active family =
    let reply = outer_reply m.script m.blocks t (commands.Wait name) in
    soft_outer m t (commands.Wait name) reply m.blocks (soft_same m.blocks) (ap is_there here) (wait_move m.blocks t (block_named m.script name) (slice_get m.blocks (block_named m.script name)) refl) family
outer_family m t (commands.Getregs name set) parent here active family =
    let child = slice_get m.blocks (block_named m.script name) in
    one_outer m t t (commands.Getregs name set) (outer_reply m.script m.blocks t (commands.Getregs name set)) (buffer_filled set child) (filled_soft set child) (ap is_there here) refl family
outer_family m t (commands.Setregs name set count) parent here active family =
    let buffer = buffer_of (slice_get m.blocks t) in
    one_outer m t (block_named m.script name) (commands.Setregs name set count) (outer_reply m.script m.blocks t (commands.Setregs name set count)) (registers_set set count buffer) (set_soft set count buffer) (ap is_there here) refl family
outer_family m t (commands.Cont name) parent here active family =
    one_outer m t (block_named m.script name) (commands.Cont name) (outer_reply m.script m.blocks t (commands.Cont name)) continued continued_soft (ap is_there here) refl family
outer_family m t other parent here active family = ready_outer m t other (outer_reply m.script m.blocks t other) m.blocks (soft_same m.blocks) (ap is_there here) refl family

-- ---- each step

-- an end leaves a family
kill_family : (m : Machine) (t cpu : ℕ) (f : BlockState → BlockState) → turn_of m.blocks t ≡ Some cpu → ((b : BlockState) → (f b).stage ≡ Ended) → ((b : BlockState) → (f b).parent ≡ b.parent) → Kept m.blocks → Kept (changed t f (map (freed t) m.blocks))
kill_family m t cpu f turn ends keeps family =
    let soft = soft_map (freed t) (freed_soft t) m.blocks in
    let there = there_of (slice_get m.blocks t) cpu turn in
    let b = some_of (slice_get (map (freed t) m.blocks) t) (soft.there t ∙ there) in
    family_moved m.blocks (map (freed t) m.blocks) t f b.0 soft b.1 keeps (subst (λ (s : Stage). OwnMove m.blocks (map (freed t) m.blocks) t s) (sym (ends b.0)) (end_move m.blocks t)) family

-- so does a change of one block alone, if it is active
alone_family : (m : Machine) (t : ℕ) (f : BlockState → BlockState) (b : BlockState) → slice_get m.blocks t ≡ Some b → ((b : BlockState) → (f b).parent ≡ b.parent) → is_active (f b).stage ≡ true → Kept m.blocks → Kept (changed t f m.blocks)
alone_family m t f b at keeps active family = family_moved m.blocks m.blocks t f b (soft_same m.blocks) at keeps (active_move m.blocks m.blocks t (f b).stage active) family

-- an outer event leaves a family
outer_step : (m : Machine) (t line : ℕ) (reply : Reply) → AreLinesFound m.script → due m t ≡ Some (Outer t line reply) → Kept m.blocks → Kept (blocks_after m.script (Outer t line reply) m.blocks)
outer_step m t line reply found is family =
    let o = block_outer m t t line reply (slice_get m.blocks t) (slice_get m.script.blocks t) is in
    let at : command_at m.script t line ≡ Some o.order.command = ap (command_at m.script t) o.number ∙ found t o.block o.task o.order o.known o.here in
    let turn = due_turning m t (Outer t line reply) is in
    let b = some_of (slice_get m.blocks t) (there_of (slice_get m.blocks t) turn.0 turn.1) in
    let active : is_active b.0.stage ≡ true = turning_active b.0.stage turn.0 (ap (λ (block : Option BlockState). turn_cpu (stage_of block)) (sym b.1) ∙ turn.1) in
    let kept = outer_family m t o.order.command b.0 b.1 active family in
    let by_reply = subst (λ (r : Reply). KeptOuter m t o.order.command r) (sym o.replied) kept in
    subst (λ (c : Option Command). Kept (changed t (outer_own m.script c reply) (outer_reach m.script t c reply m.blocks))) (sym at) by_reply

-- each step leaves a family
pub family_step : (m : Machine) (event : Event) → AreLinesFound m.script → IsStep m event → Kept m.blocks → Kept (blocks_after m.script event m.blocks)
family_step m (Start t cpu how signal) found step family =
    let s = starting_of m t cpu (slice_get m.blocks t) (Start t cpu how signal) step.is_due in
    alone_family m t (started cpu signal) s.state s.here (started_parent cpu signal) (started_active cpu signal s.state) family
family_step m (Local t line reply) found step family =
    let turn = due_turning m t (Local t line reply) step.is_due in
    let b = some_of (slice_get m.blocks t) (there_of (slice_get m.blocks t) turn.0 turn.1) in
    alone_family m t (ran_line m.script (command_at m.script t line)) b.0 b.1 (line_parent m.script (command_at m.script t line))
    (line_active m.script (command_at m.script t line) b.0 turn.0 (ap (λ (block : Option BlockState). turn_cpu (stage_of block)) (sym b.1) ∙ turn.1)) family
family_step m (Outer t line reply) found step family = outer_step m t line reply found step.is_due family
family_step m (Grow t) found step family =
    let turn = due_turning m t (Grow t) step.is_due in
    let b = some_of (slice_get m.blocks t) (there_of (slice_get m.blocks t) turn.0 turn.1) in
    alone_family m t (own m.script (Grow t)) b.0 b.1 (λ b. refl) refl family
family_step m (Kill t signo why) found step family =
    let turn = due_turning m t (Kill t signo why) step.is_due in
    kill_family m t turn.0 (own m.script (Kill t signo why)) turn.1 (λ b. refl) (λ b. refl) family
family_step m (End t) found step family =
    let turn = due_turning m t (End t) step.is_due in
    kill_family m t turn.0 (own m.script (End t)) turn.1 (λ b. refl) (λ b. refl) family

-- ---- legal histories

-- a block opens unborn or ready
opening_quiet : (kind : BlockKind) → (opening_stage kind ≡ Unborn) ⊎ (opening_stage kind ≡ Ready)
opening_quiet Task = inr refl
opening_quiet Child = inl refl
opening_quiet Kthread = inr refl

-- so do all
opening_stages : (script : Script) (blocks : List Block) (v : ℕ) → (stage_at (map (opening_block script.layout) blocks) v ≡ Unborn) ⊎ (stage_at (map (opening_block script.layout) blocks) v ≡ Ready)
opening_stages script [] v = inl refl
opening_stages script (block ∷ blocks) zero = opening_quiet block.kind
opening_stages script (block ∷ blocks) (suc v) = opening_stages script blocks v

-- none has a parent
opening_parents : (script : Script) (blocks : List Block) (v : ℕ) → parent_at (map (opening_block script.layout) blocks) v ≡ None
opening_parents script [] v = refl
opening_parents script (block ∷ blocks) zero = refl
opening_parents script (block ∷ blocks) (suc v) = opening_parents script blocks v

-- another stage
not_opening : (s other : Stage) → (s ≡ Unborn) ⊎ (s ≡ Ready) → (other ≡ Unborn → ⊥) → (other ≡ Ready → ⊥) → s ≡ other → ⊥
not_opening s other quiet not_unborn not_ready is = ⊎_elim
    (λ (unborn : s ≡ Unborn). not_unborn (sym is ∙ unborn))
    (λ (ready : s ≡ Ready). not_ready (sym is ∙ ready))
    quiet

-- the blocks open as a family
opening_family : (script : Script) → Kept (opening script).blocks
opening_family script = record {
  rank = λ v. 0;
  most = 0;
  bounded = λ v. omega arith;
  parents = λ v p is. absurd (let none = opening_parents script script.blocks v in cc);
  waits = λ v c is. absurd (not_opening _ (Waiting c) (opening_stages script script.blocks v) (λ (e : Waiting c ≡ Unborn). cc) (λ (e : Waiting c ≡ Ready). cc) is);
  stops = λ v is. absurd (not_opening _ Stopped (opening_stages script script.blocks v) (λ (e : Stopped ≡ Unborn). cc) (λ (e : Stopped ≡ Ready). cc) is);
}

-- after each legal past they are one
pub legal_family : (script : Script) (past : List Event) → AreLinesFound script → IsLegalPast script past → Kept (machine script past).blocks
legal_family script [] found legal = opening_family script
legal_family script (event ∷ past) found legal =
    let m = machine script past in
    let found_here : AreLinesFound m.script = subst (λ (s : Script). AreLinesFound s) (sym (machine_script script past)) found in
    family_step m event found_here legal.1 (legal_family script past found legal.0)

-- a living block's place
living : (blocks : List BlockState) → list_any (λ (block : BlockState). lives block.stage) blocks ≡ true → (v : ℕ) × (lives (stage_at blocks v) ≡ true)
living [] some = absurd (cc)
living (block ∷ blocks) some = ⊎_elim
    (λ (here : lives block.stage ≡ true). (0, here))
    (λ (there : list_any (λ (block : BlockState). lives block.stage) blocks ≡ true). let rest = living blocks there in (suc rest.0, rest.1))
    (or_cases (lives block.stage) (list_any (λ (block : BlockState). lives block.stage) blocks) some)

-- one block at most waits for another, since it is the other's parent
family_waits : (blocks : List BlockState) → Kept blocks → (t : ℕ) → OneWaits blocks t
family_waits blocks family t v u one two =
    let mine = (family.waits v t one).0 in
    let yours = (family.waits u t two).0 in
    let same : Some v ≡ Some u = sym mine ∙ yours in
    cc

-- the bound on the events of a legal past
pub few_events : FewEvents
few_events script past valid legal = within_bound script past valid (λ older steps t. family_waits (machine script older).blocks (legal_family script older (lines_found script valid) steps) t) legal

-- where one lives one is active, after each legal past
pub never_stuck : NeverStuck
never_stuck script past valid legal some =
    let m = machine script past in
    let alive = living m.blocks (not-false (list_any (λ (block : BlockState). lives block.stage) m.blocks) some) in
    one_is_active (stage_at m.blocks) (parent_at m.blocks) (legal_family script past (lines_found script valid) legal) alive.0 alive.1

-- who is waited for is a child of the one that waits, after each legal past
pub waits_for_child : WaitsForChild
waits_for_child script past u child valid legal is = ((legal_family script past (lines_found script valid) legal).waits u child is).0
