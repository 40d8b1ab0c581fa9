-- In a legal past the turns of the blocks went on in order.
use Rattle.std.proofs.Common.{◌≡◌, ℕ, zero, suc, ◌==◌, Bool, true, false, ◌||◌, List, [], ◌∷◌, map, refl, sym, ap, ◌∙◌, subst, eq-eqb, ne_eqb, eqb-true, ⊎_elim}
use Rattle.std.proofs.lemmas.Bool.{cases_eq, both_ways}
use Rattle.std.specs.Prelude.{Option, Some, None, if◌then◌else◌, slice_get}
use Rattle.std.specs.Option.{option_map}
use Rattle.xs_base.specs.declared.words.How.{How}
use Rattle.xs_base.specs.declared.words.Signo.{Signo}
use Rattle.xs_model.specs.declared.script.BlockKind.{BlockKind}
use Rattle.xs_model.specs.declared.script.BlockKind.TheVariants.{Task, Child, Kthread}
use Rattle.xs_model.specs.declared.script.Block.{Block}
use Rattle.xs_model.specs.declared.script.Script.{Script}
use Rattle.xs_model.specs.declared.event.Reply.{Reply}
use Rattle.xs_model.specs.declared.event.Event.{Event}
use Rattle.xs_model.specs.declared.event.Event.TheVariants.{Start, Local, Outer, Grow, Kill, End}
use Rattle.xs_model.specs.declared.stage.Stage.{Stage}
use Rattle.xs_model.specs.declared.stage.Stage.TheVariants.{Unborn, Ready, Turn, Stopped, Waiting, Ended}
use Rattle.xs_model.specs.Script.{IsValid, command_at, is_user}
use Rattle.xs_model.specs.Note.{Starts, Section, Sets, Plain, is_section, set_target, is_count, set_act, task_of, act_of, note_of, notes_of, is_at, mark}
use Rattle.xs_model.specs.State.{BlockState, Machine, opening_stage, opening_block, is_ready, turn_cpu, is_on_cpu, stage_of, turn_of, has_turn}
use Rattle.xs_model.specs.Machine.{own, blocks_after, IsStep, machine, IsLegalPast}
use Rattle.xs_model.specs.Laws.{TurnsKnown, TurnsApart, TurnsMarked, TwoNumbers}
use Rattle.xs_model.proofs.TurnOrder.{note, Orderly, IsKept}
use Rattle.xs_model.proofs.KeptLaws.{kept_next, kept_first}
use Rattle.xs_model.proofs.LineNumbers.{AreLinesFound, lines_found}
use Rattle.xs_model.proofs.DueTurns.{due_turning, outer_set_none, starting_of}
use Rattle.xs_model.proofs.EventTurns.{turn_of_other, turn_of_own, turn_over_outer, turn_over_grow, turn_over_kill, turn_over_end, started_turn, ran_there}

-- ---- the turns go on in order

-- an event that no bank sees
plain_orderly : (old new : ℕ → Option ℕ) (t : ℕ) → ((v : ℕ) → (t == v) ≡ false → new v ≡ old v) → ((c : ℕ) × (old t ≡ Some c) × ((d : ℕ) → new t ≡ Some d → d ≡ c)) → Orderly old (note t Plain) new
plain_orderly old new t others going = record { others = others; starting = λ c is. absurd (cc); going = λ is. going; growing = λ is. absurd (cc); setting = λ u is. absurd (cc) }

-- a section
section_orderly : (old new : ℕ → Option ℕ) (t : ℕ) → ((v : ℕ) → (t == v) ≡ false → new v ≡ old v) → ((c : ℕ) × (old t ≡ Some c) × ((d : ℕ) → new t ≡ Some d → d ≡ c)) → Orderly old (note t Section) new
section_orderly old new t others going = record { others = others; starting = λ c is. absurd (cc); going = λ is. going; growing = λ is. absurd (cc); setting = λ u is. absurd (cc) }

-- a local line
line_orderly : (old new : ℕ → Option ℕ) (t : ℕ) (is_section : Bool) → ((v : ℕ) → (t == v) ≡ false → new v ≡ old v) → ((c : ℕ) × (old t ≡ Some c) × ((d : ℕ) → new t ≡ Some d → d ≡ c)) → Orderly old (note t (if is_section then Section else Plain)) new
line_orderly old new t true others going = section_orderly old new t others going
line_orderly old new t false others going = plain_orderly old new t others going

-- an outer line
outer_orderly : (old new : ℕ → Option ℕ) (t : ℕ) (target : Option ℕ) (accepted : Bool) → ((v : ℕ) → (t == v) ≡ false → new v ≡ old v) → ((c : ℕ) × (old t ≡ Some c) × ((d : ℕ) → new t ≡ Some d → d ≡ c)) → ((u : ℕ) → set_act target accepted ≡ Sets u → old u ≡ None) → Orderly old (note t (set_act target accepted)) new
outer_orderly old new t None accepted others going setting = plain_orderly old new t others going
outer_orderly old new t (Some w) false others going setting = plain_orderly old new t others going
outer_orderly old new t (Some w) true others going setting = record { others = others; starting = λ c is. absurd (cc); going = λ is. going; growing = λ is. absurd (cc); setting = setting }

-- a turn that is over goes on on no other processor
over_going : (old new : Option ℕ) (c : ℕ) → new ≡ None → (d : ℕ) → new ≡ Some d → d ≡ c
over_going old new c over d later = absurd (cc)

-- ---- a Start

-- a processor without a turn is that of no turn
pub none_else : (blocks : List BlockState) (cpu v : ℕ) → has_turn blocks cpu ≡ false → turn_of blocks v ≡ Some cpu → ⊥
none_else [] cpu v free at = absurd (cc)
none_else (block ∷ blocks) cpu zero free at = on (turn_cpu block.stage) at free
  where
    on : (turn : Option ℕ) → turn ≡ Some cpu → (is_on_cpu cpu turn || has_turn blocks cpu) ≡ false → ⊥
    on None at free = cc
    on (Some c) at free = let same : (c == cpu) ≡ true = eq-eqb c cpu (cc) in let not_free : (true || has_turn blocks cpu) ≡ false = rw same at free in cc
none_else (block ∷ blocks) cpu (suc v) free at = none_else blocks cpu v (rest (is_on_cpu cpu (turn_cpu block.stage)) free) at
  where
    rest : (on : Bool) → (on || has_turn blocks cpu) ≡ false → has_turn blocks cpu ≡ false
    rest true free = absurd (cc)
    rest false free = free

-- a ready block is in no turn
ready_turn : (stage : Stage) → is_ready stage ≡ true → turn_cpu stage ≡ None
ready_turn Unborn is = refl
ready_turn Ready is = refl
ready_turn (Turn cpu ran) is = absurd (cc)
ready_turn Stopped is = refl
ready_turn (Waiting child) is = refl
ready_turn Ended is = refl

-- a Start begins a turn
start_turn : (script : Script) (t cpu : ℕ) (how : How) (signal : Option Signo) (block : Option BlockState) (state : BlockState) → block ≡ Some state → turn_cpu (stage_of (option_map (own script (Start t cpu how signal)) block)) ≡ Some cpu
start_turn script t cpu how signal block state is = rw is (started_turn cpu signal state)

-- a Start that is due
start_orderly : (m : Machine) (t cpu : ℕ) (how : How) (signal : Option Signo) → IsStep m (Start t cpu how signal) → Orderly (turn_of m.blocks) (note t (Starts cpu)) (turn_of (blocks_after m.script (Start t cpu how signal) m.blocks))
start_orderly m t cpu how signal step =
    let s = starting_of m t cpu (slice_get m.blocks t) (Start t cpu how signal) step.is_due in
    record {
      others = λ v other. turn_of_other m.script (Start t cpu how signal) m.blocks v other;
      starting = λ c is.
          let same : cpu ≡ c = cc in (
            ap (λ (block : Option BlockState). turn_cpu (stage_of block)) s.here ∙ ready_turn s.state.stage s.ready,
            turn_of_own m.script (Start t cpu how signal) m.blocks ∙ start_turn m.script t cpu how signal (slice_get m.blocks t) s.state s.here ∙ ap Some same,
            λ v at. none_else m.blocks cpu v s.free (at ∙ ap Some (sym same)),
          );
      going = λ is. absurd (cc);
      growing = λ is. absurd (cc);
      setting = λ u is. absurd (cc);
    }

-- ---- a line

-- a turn that goes on stays on its processor
local_going : (m : Machine) (t line : ℕ) (reply : Reply) (c : ℕ) → turn_of m.blocks t ≡ Some c → (d : ℕ) → turn_of (blocks_after m.script (Local t line reply) m.blocks) t ≡ Some d → d ≡ c
local_going m t line reply c at d later = on (slice_get m.blocks t) at (sym (turn_of_own m.script (Local t line reply) m.blocks) ∙ later)
  where
    on : (block : Option BlockState) → turn_cpu (stage_of block) ≡ Some c → turn_cpu (stage_of (option_map (own m.script (Local t line reply)) block)) ≡ Some d → d ≡ c
    on None at later = absurd (cc)
    on (Some block) at later = ran_there m.script (command_at m.script t line) block c d at later

-- ---- each step

-- with each step the turns go on in order
pub step_orderly : (m : Machine) (event : Event) → AreLinesFound m.script → IsStep m event → Orderly (turn_of m.blocks) (note_of m.script event) (turn_of (blocks_after m.script event m.blocks))
step_orderly m (Start t cpu how signal) found step = start_orderly m t cpu how signal step
step_orderly m (Local t line reply) found step =
    let turn = due_turning m t (Local t line reply) step.is_due in
    line_orderly _ _ t (is_section (command_at m.script t line)) (λ v other. turn_of_other m.script (Local t line reply) m.blocks v other) (turn.0, turn.1, local_going m t line reply turn.0 turn.1)
step_orderly m (Outer t line reply) found step =
    let turn = due_turning m t (Outer t line reply) step.is_due in
    outer_orderly _ _ t (set_target m.script (command_at m.script t line)) (is_count reply) (λ v other. turn_of_other m.script (Outer t line reply) m.blocks v other)
    (turn.0, turn.1, over_going (turn_of m.blocks t) (turn_of (blocks_after m.script (Outer t line reply) m.blocks) t) turn.0 (turn_over_outer m.script t line reply m.blocks))
    (λ u acts. outer_set_none m t line u reply found step.is_due acts)
step_orderly m (Grow t) found step =
    let turn = due_turning m t (Grow t) step.is_due in
    record {
      others = λ v other. turn_of_other m.script (Grow t) m.blocks v other;
      starting = λ c is. absurd (cc);
      going = λ is. (turn.0, turn.1, over_going (turn_of m.blocks t) (turn_of (blocks_after m.script (Grow t) m.blocks) t) turn.0 (turn_over_grow m.script t m.blocks));
      growing = λ is. turn_over_grow m.script t m.blocks;
      setting = λ u is. absurd (cc);
    }
step_orderly m (Kill t signo why) found step =
    let turn = due_turning m t (Kill t signo why) step.is_due in
    plain_orderly _ _ t (λ v other. turn_of_other m.script (Kill t signo why) m.blocks v other) (turn.0, turn.1, over_going (turn_of m.blocks t) (turn_of (blocks_after m.script (Kill t signo why) m.blocks) t) turn.0 (turn_over_kill m.script t signo why m.blocks))
step_orderly m (End t) found step =
    let turn = due_turning m t (End t) step.is_due in
    plain_orderly _ _ t (λ v other. turn_of_other m.script (End t) m.blocks v other) (turn.0, turn.1, over_going (turn_of m.blocks t) (turn_of (blocks_after m.script (End t) m.blocks) t) turn.0 (turn_over_end m.script t m.blocks))

-- ---- legal histories

-- no block opens in a turn
no_opening_turn : (kind : BlockKind) → turn_cpu (opening_stage kind) ≡ None
no_opening_turn Task = refl
no_opening_turn Child = refl
no_opening_turn Kthread = refl

-- before the first event there is no turn
opening_turns : (script : Script) (blocks : List Block) (v : ℕ) → turn_of (map (opening_block script.layout) blocks) v ≡ None
opening_turns script [] v = refl
opening_turns script (block ∷ blocks) zero = no_opening_turn block.kind
opening_turns script (block ∷ blocks) (suc v) = opening_turns script blocks v

-- the script of the machine of a past
pub machine_script : (script : Script) (past : List Event) → (machine script past).script ≡ script
machine_script script [] = refl
machine_script script (event ∷ past) = machine_script script past

-- the past of the machine of a past
pub machine_past : (script : Script) (past : List Event) → (machine script past).past ≡ past
machine_past script [] = refl
machine_past script (event ∷ past) = ap (λ (older : List Event). event ∷ older) (machine_past script past)

-- in a legal past the turns went on in order
pub legal_kept : (script : Script) (past : List Event) → AreLinesFound script → IsLegalPast script past → IsKept (is_user script) (notes_of script past) (turn_of (machine script past).blocks)
legal_kept script [] found legal = kept_first (is_user script) _ (λ v. opening_turns script script.blocks v)
legal_kept script (event ∷ past) found legal =
    let m = machine script past in
    let same : m.script ≡ script = machine_script script past in
    let orderly : Orderly (turn_of m.blocks) (note_of script event) (turn_of (blocks_after m.script event m.blocks)) =
    subst (λ (s : Script). Orderly (turn_of m.blocks) (note_of s event) (turn_of (blocks_after m.script event m.blocks))) same (step_orderly m event (subst (λ (s : Script). AreLinesFound s) (sym same) found) legal.1) in
    kept_next (is_user script) (notes_of script past) (turn_of m.blocks) (turn_of (blocks_after m.script event m.blocks)) (task_of event) (act_of script event) (legal_kept script past found legal.0) orderly

-- in a legal past of a valid script all is kept
pub valid_kept : (script : Script) (past : List Event) → IsValid script → IsLegalPast script past → IsKept (is_user script) (notes_of script past) (turn_of (machine script past).blocks)
valid_kept script past valid legal = legal_kept script past (lines_found script valid) legal

-- the processor of a turn
pub turns_known : TurnsKnown
turns_known script past cpu task valid legal at =
    let turn = (valid_kept script past valid legal).turning task cpu at in
    (turn.cpu, turn.last)

-- a processor has one turn at most
pub turns_apart : TurnsApart
turns_apart script past cpu t u valid legal mine yours = eqb-true t u ((valid_kept script past valid legal).alone t u cpu mine yours)

-- in a user task's turn the mark is no other task
pub turns_marked : TurnsMarked
turns_marked script past cpu t u valid legal user at marked = ⊎_elim
    (λ (same : t ≡ u). sym same)
    (λ (other : t ≡ u → ⊥). absurd (both_ways (is_at (mark script past cpu) u) (((valid_kept script past valid legal).turning t cpu at).mark user u (ne_eqb t u other)) marked))
    (cases_eq t u)

-- the law of two numbers
pub two_numbers : TwoNumbers
two_numbers script past cpu task valid legal user = (valid_kept script past valid legal).law cpu task user
