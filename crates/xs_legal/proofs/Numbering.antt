-- The two numbers that a machine keeps, after a step.
use Rattle.std.proofs.Common.{◌≡◌, ℕ, ◌<◌, ◌≤◌, Bool, true, false, List, length, slice_set, get_or, Some, None, if◌then◌else◌, refl, sym, ap, ◌∙◌, subst, arith}
use Rattle.std.proofs.lemmas.Bool.{eqb-true, eq-eqb}
use Rattle.std.proofs.lemmas.List.{get_or-set_other, get_or-set_same}
use Rattle.std.specs.Prelude.{Option, ◌==◌}
use Rattle.xs_model.specs.declared.event.Event.{Event}
use Rattle.xs_model.specs.declared.event.Event.TheVariants as events
use Rattle.xs_model.specs.declared.script.Script.{Script}
use Rattle.xs_model.specs.Due.{due}
use Rattle.xs_model.specs.Laws.{TurnsKnown}
use Rattle.xs_model.specs.Machine.{foreseen, machine}
use Rattle.xs_model.specs.Note.{Act, Starts, Section, Grows, Sets, Plain, act_of, cpu_of, is_count, is_section, mark_after, notes_of, set_act, set_target, start_cpu, task_of}
use Rattle.xs_model.specs.Script.{command_at}
use Rattle.xs_model.specs.State.{BlockState, Machine, stage_of, turn_cpu, turn_of}
use Rattle.xs_legal.specs.Standing.{clears, cpu_after}
use Rattle.xs_legal.specs.Step.{IsNext, StepTurns}
use Rattle.xs_legal.specs.Wrong.{how_in}
use Rattle.xs_legal.proofs.Turning.{due_in_place}

-- ---- the turn of a step

due_turns : (m : Machine) (t : ℕ) (event : Event) → due m t ≡ Some event → (cpu : ℕ) × (turn_of m.blocks t ≡ Some cpu)
due_turns m t event is =
    let place = due_in_place m t event is in
    (place.cpu, ap (λ (b : Option BlockState). turn_cpu (stage_of b)) place.state ∙ ap turn_cpu place.stage)

foreseen_turns : (m : Machine) (event told : Event) → how_in event ≡ None → foreseen m event ≡ Some told → (cpu : ℕ) × (turn_of m.blocks (task_of event) ≡ Some cpu)
foreseen_turns m (events.Start t cpu how signal) told inside is = absurd (cc inside)
foreseen_turns m (events.Local t line reply) told inside is = due_turns m t told is
foreseen_turns m (events.Outer t line reply) told inside is = due_turns m t told is
foreseen_turns m (events.Grow t) told inside is = due_turns m t told is
foreseen_turns m (events.Kill t signo why) told inside is = due_turns m t told is
foreseen_turns m (events.End t) told inside is = due_turns m t told is

pub step_turns : StepTurns
step_turns script blocks event next inside =
    subst (λ (bs : List BlockState). (cpu : ℕ) × (turn_of bs (task_of event) ≡ Some cpu)) (sym next.blocks_are) (foreseen_turns (machine script next.past) event event inside next.step.is_due)

-- ---- the processor of a step

-- an act of a line is no Start
section_stays : (b : Bool) (older : Option ℕ) → start_cpu (if b then Section else Plain) older ≡ older
section_stays true older = refl
section_stays false older = refl

set_stays : (u : Option ℕ) (b : Bool) (older : Option ℕ) → start_cpu (set_act u b) older ≡ older
set_stays None b older = refl
set_stays (Some u) true older = refl
set_stays (Some u) false older = refl

unstarted : (script : Script) (event : Event) (older : Option ℕ) → how_in event ≡ None → start_cpu (act_of script event) older ≡ older
unstarted script (events.Start t cpu how signal) older inside = absurd (cc inside)
unstarted script (events.Local t line reply) older inside = section_stays (is_section (command_at script t line)) older
unstarted script (events.Outer t line reply) older inside = set_stays (set_target script (command_at script t line)) (is_count reply) older
unstarted script (events.Grow t) older inside = refl
unstarted script (events.Kill t signo why) older inside = refl
unstarted script (events.End t) older inside = refl

pub cpu_of_turn : (script : Script) (blocks : List BlockState) (event : Event) → StepTurns → TurnsKnown → (next : IsNext script blocks event) → how_in event ≡ None → turn_of blocks (task_of event) ≡ cpu_after script next.past event
cpu_of_turn script blocks event turns known next inside =
    let told = turns script blocks event next inside in
    let here : turn_of (machine script next.past).blocks (task_of event) ≡ Some told.0 = ap (λ (bs : List BlockState). turn_of bs (task_of event)) (sym next.blocks_are) ∙ told.1 in
    let latest : cpu_of (notes_of script next.past) (task_of event) ≡ Some told.0 = (known script next.past told.0 (task_of event) next.valid next.legal here).0 in
    told.1 ∙ sym latest ∙ sym (unstarted script event (cpu_of (notes_of script next.past) (task_of event)) inside)

-- ---- the mark

-- what an act leaves of a mark
pub mark_by : (user : Bool) (t : ℕ) (act : Act) (older : Option ℕ) → (if clears act then None else if user then Some t else older) ≡ mark_after user t act older
mark_by true t (Starts c) older = refl
mark_by true t Section older = refl
mark_by true t Grows older = refl
mark_by true t (Sets u) older = refl
mark_by true t Plain older = refl
mark_by false t (Starts c) older = refl
mark_by false t Section older = refl
mark_by false t Grows older = refl
mark_by false t (Sets u) older = refl
mark_by false t Plain older = refl

-- which act clears it
section_clears : (b : Bool) → b ≡ clears (if b then Section else Plain)
section_clears true = refl
section_clears false = refl

set_leaves : (u : Option ℕ) (b : Bool) → false ≡ clears (set_act u b)
set_leaves None b = refl
set_leaves (Some u) true = refl
set_leaves (Some u) false = refl

-- that of a line is cleared by a section
pub clears_local : (script : Script) (t line : ℕ) (b : Bool) → b ≡ is_section (command_at script t line) → b ≡ clears (if is_section (command_at script t line) then Section else Plain)
clears_local script t line b is = is ∙ section_clears (is_section (command_at script t line))

-- ---- a number that is put at a place

pub put_within : (xs : List (Option ℕ)) (p : ℕ) (n : Option ℕ) (i : ℕ) → i < length xs → get_or (slice_set xs p n) i None ≡ (if p == i then n else get_or xs i None)
put_within xs p n i within = by_place (p == i) refl
  where
    by_place : (b : Bool) → (p == i) ≡ b → get_or (slice_set xs p n) i None ≡ (if b then n else get_or xs i None)
    by_place true e = let same : p ≡ i = eqb-true p i e in ap (λ (q : ℕ). get_or (slice_set xs q n) i None) same ∙ get_or-set_same xs i n None within
    by_place false e = get_or-set_other xs p i n None (λ (same : i ≡ p). absurd (cc (eq-eqb p i (sym same), e)))

pub put_beyond : (xs : List (Option ℕ)) (p : ℕ) (n : Option ℕ) (i : ℕ) → i < length xs → length xs ≤ p → get_or xs i None ≡ (if p == i then n else get_or xs i None)
put_beyond xs p n i within past = by_place (p == i) refl
  where
    by_place : (b : Bool) → (p == i) ≡ b → get_or xs i None ≡ (if b then n else get_or xs i None)
    by_place true e = absurd (omega (arith, eqb-true p i e))
    by_place false e = refl
