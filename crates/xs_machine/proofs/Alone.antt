-- On one processor every event is its own, and the history is the replay.
use Rattle.std.proofs.Common.{◌≡◌, ℕ, zero, suc, ◌+◌, ◌-◌, ◌<◌, ◌≤◌, Bool, true, false, not, ◌&&◌, ◌==◌, nat_lt, List, [], ◌∷◌, ◌++◌, length, reverse, Option, Some, None, if◌then◌else◌, slice_get, refl, sym, ap, ◌∙◌, subst, arith}
use Rattle.std.proofs.lemmas.Bool.{ltb-true}
use Rattle.std.specs.List.{AllByRecursion}
use Rattle.xs_model.specs.declared.event.Event.{Event}
use Rattle.xs_model.specs.declared.event.Event.TheVariants.{Start, Local, Outer, Grow, Kill, End}
use Rattle.xs_model.specs.declared.script.Block.{Block}
use Rattle.xs_model.specs.declared.script.Script.{Script}
use Rattle.xs_model.specs.declared.stage.Stage.{Stage}
use Rattle.xs_model.specs.declared.stage.Stage.TheVariants as stages
use Rattle.xs_base.specs.Task.{PrivateTask}
use Rattle.xs_model.specs.Counts.{is_event_on}
use Rattle.xs_model.specs.Due.{block_event, block_start, due, turn_event}
use Rattle.xs_model.specs.Laws.{AreElsewhere, TurnsKnown}
use Rattle.xs_model.specs.Machine.{IsLegalPast, IsStep, machine}
use Rattle.xs_model.specs.Note.{act_of, cpu_of, is_count, is_section, notes_of, set_target, start_cpu, task_of}
use Rattle.xs_model.specs.Replay.{IsReplay, entries, entry, rounds, schedule_of}
use Rattle.xs_model.specs.Script.{IsValid, command_at}
use Rattle.xs_model.specs.State.{BlockState, Machine, none_lives, stage_of, turn_cpu, turn_of}
use Rattle.xs_model.proofs.Replaying.{idle_entry}
use Rattle.xs_machine.specs.Threads.{entered, IsEntered}
use Rattle.xs_machine.proofs.Histories.{outer_closes}
use Rattle.xs_machine.proofs.Stages.{script_stays}
use Rattle.xs_machine.proofs.TurnLemmas.{start_by}

-- ---- processors of events

-- a Start is on one of the script's processors
start_below : (m : Machine) (t cpu : ℕ) (event : Event) → block_start m t cpu (slice_get m.blocks t) ≡ Some event → cpu < m.script.cpus
start_below m t cpu event is = go (slice_get m.blocks t) is
  where
    by_test : (ready below free : Bool) (start : Event) → below ≡ nat_lt cpu m.script.cpus → (if ready && below && not free then Some start else None) ≡ Some event → cpu < m.script.cpus
    by_test true true free start known is = ltb-true cpu m.script.cpus (sym known)
    by_test true false free start known is = absurd (cc is)
    by_test false below free start known is = absurd (cc is)

    go : (block : Option BlockState) → block_start m t cpu block ≡ Some event → cpu < m.script.cpus
    go None is = absurd (cc is)
    go (Some block) is = by_test _ _ _ _ refl is

-- another event is of a block that is in a turn
turn_due : (m : Machine) (t : ℕ) (event : Event) → due m t ≡ Some event → (c : ℕ) × (turn_of m.blocks t ≡ Some c)
turn_due m t event is = go (slice_get m.blocks t) (slice_get m.script.blocks t) refl is
  where
    by_stage : (lines : Block) (task : PrivateTask) (stage : Stage) → turn_event m t lines task stage ≡ Some event → (c : ℕ) × (turn_cpu stage ≡ Some c)
    by_stage lines task stages.Unborn is = absurd (cc is)
    by_stage lines task stages.Ready is = absurd (cc is)
    by_stage lines task (stages.Turn c ran) is = (c, refl)
    by_stage lines task stages.Stopped is = absurd (cc is)
    by_stage lines task (stages.Waiting child) is = absurd (cc is)
    by_stage lines task stages.Ended is = absurd (cc is)

    go : (block : Option BlockState) (lines : Option Block) → slice_get m.blocks t ≡ block → block_event m t block lines ≡ Some event → (c : ℕ) × (turn_of m.blocks t ≡ Some c)
    go None lines at is = absurd (cc is)
    go (Some block) None at is = absurd (cc is)
    go (Some block) (Some lines) at is =
        let turn = by_stage lines block.task block.stage is in
        (turn.0, ap (λ (o : Option BlockState). turn_cpu (stage_of o)) at ∙ turn.1)

-- so are the processors of all turns
module _ (script : Script) where
  act_below : (past : List Event) (event : Event) (t d : ℕ) → IsStep (machine script past) event → (cpu_of (notes_of script past) t ≡ Some d → d < script.cpus) → start_cpu (act_of script event) (cpu_of (notes_of script past) t) ≡ Some d → d < script.cpus
  act_below past (Start u cpu how signal) t d step older is =
      let same : cpu ≡ d = cc is in
      rw (sym same) (subst (λ (s : Script). cpu < s.cpus) (script_stays script past) (start_below (machine script past) u cpu _ step.is_due))
  act_below past (Local u line reply) t d step older is = older (sym (start_by (is_section (command_at script u line)) (cpu_of (notes_of script past) t)) ∙ is)
  act_below past (Outer u line reply) t d step older is = older (sym ((outer_closes (set_target script (command_at script u line)) (is_count reply)).cpu (cpu_of (notes_of script past) t)) ∙ is)
  act_below past (Grow u) t d step older is = older is
  act_below past (Kill u signo why) t d step older is = older is
  act_below past (End u) t d step older is = older is

  cpus_below : (past : List Event) (t d : ℕ) → IsLegalPast script past → cpu_of (notes_of script past) t ≡ Some d → d < script.cpus
  cpus_below [] t d legal is = absurd (cc is)
  cpus_below (event ∷ past) t d legal is = by_own (cpus_below past t d legal.0) (task_of event == t) refl
    where
      by_own : (cpu_of (notes_of script past) t ≡ Some d → d < script.cpus) → (own : Bool) → (task_of event == t) ≡ own → d < script.cpus
      by_own rest true own = act_below past event t d legal.1 rest (rw own at is)
      by_own rest false own = rest (rw own at is)

-- ---- one processor

module _ (script : Script) (one : script.cpus ≡ 1) (valid : IsValid script) (known : TurnsKnown) where
  is_first : (d : ℕ) → d < script.cpus → d ≡ 0
  is_first d below = omega (arith, one)

  turn_here : (past : List Event) (t : ℕ) (event : Event) → IsLegalPast script past → due (machine script past) t ≡ Some event → cpu_of (notes_of script past) t ≡ Some 0
  turn_here past t event legal is =
      let turn = turn_due (machine script past) t event is in
      let at = (known script past turn.0 t valid legal turn.1).0 in
      at ∙ ap Some (is_first turn.0 (cpus_below script past t turn.0 legal at))

  cpu_here : (past : List Event) (event : Event) → IsLegalPast script past → IsStep (machine script past) event → start_cpu (act_of script event) (cpu_of (notes_of script past) (task_of event)) ≡ Some 0
  cpu_here past (Start t cpu how signal) legal step = ap Some (is_first cpu (subst (λ (s : Script). cpu < s.cpus) (script_stays script past) (start_below (machine script past) t cpu _ step.is_due)))
  cpu_here past (Local t line reply) legal step = start_by (is_section (command_at script t line)) (cpu_of (notes_of script past) t) ∙ turn_here past t _ legal step.is_due
  cpu_here past (Outer t line reply) legal step = (outer_closes (set_target script (command_at script t line)) (is_count reply)).cpu (cpu_of (notes_of script past) t) ∙ turn_here past t _ legal step.is_due
  cpu_here past (Grow t) legal step = turn_here past t _ legal step.is_due
  cpu_here past (Kill t signo why) legal step = turn_here past t _ legal step.is_due
  cpu_here past (End t) legal step = turn_here past t _ legal step.is_due

  -- nobody else makes events
  pub no_others : (newer past : List Event) (c : ℕ) → c < script.cpus → IsLegalPast script (newer ++ past) → AreElsewhere script newer past c → newer ≡ []
  no_others [] past c below legal off = refl
  no_others (event ∷ newer) past c below legal off =
      let here : is_event_on script (newer ++ past) event 0 ≡ true = rw (cpu_here (newer ++ past) event legal.0 legal.1) refl in
      let there : is_event_on script (newer ++ past) event 0 ≡ false = subst (λ (d : ℕ). is_event_on script (newer ++ past) event d ≡ false) (is_first c below) off.1 in
      let clash : true ≡ false = sym here ∙ there in
      absurd (cc clash)

  -- ---- the schedule

  cpus_zero : (cpus : List ℕ) → AllByRecursion (λ (cpu : ℕ). cpu < script.cpus) cpus → AllByRecursion (λ (cpu : ℕ). cpu ≡ 0) cpus
  cpus_zero [] below = tt
  cpus_zero (cpu ∷ cpus) below = (is_first cpu below.0, cpus_zero cpus below.1)

  schedule_zero : (sched : List ℕ) → AllByRecursion (λ (cpu : ℕ). cpu < script.cpus) sched → AllByRecursion (λ (cpu : ℕ). cpu ≡ 0) (schedule_of script.cpus sched) × (0 < length (schedule_of script.cpus sched))
  schedule_zero [] below = rw one ((refl, tt), omega arith)
  schedule_zero (cpu ∷ sched) below = (cpus_zero (cpu ∷ sched) below, omega arith)

  entries_zero : (cpus : List ℕ) (n : ℕ) → AllByRecursion (λ (cpu : ℕ). cpu ≡ 0) cpus → entries script (entered script n) cpus ≡ entered script (n + length cpus)
  entries_zero [] n zeros = let none : n ≡ n + 0 = omega arith in ap (entered script) none
  entries_zero (cpu ∷ cpus) n zeros =
      let more : suc n + length cpus ≡ n + suc (length cpus) = omega arith in
      ap (λ (c : ℕ). entries script (entry script (entered script n) c) cpus) zeros.0 ∙ entries_zero cpus (suc n) zeros.1 ∙ ap (entered script) more

  -- so many rounds are at least as many entries
  rounds_entered : (n : ℕ) → (k : ℕ) × (n ≤ k) × (rounds script n ≡ entered script k)
  unfolding rounds
  rounds_entered zero = (0, omega arith, refl)
  rounds_entered (suc n) =
      let before = rounds_entered n in
      let zeros = schedule_zero script.sched valid.entries in
      let sched = schedule_of script.cpus script.sched in
      (before.0 + length sched, (let least = before.1 in let some = zeros.1 in omega arith), ap (λ (past : List Event). entries script past sched) before.2 ∙ entries_zero sched before.0 zeros.0)

  -- where nobody lives further entries add nothing
  still : (n k : ℕ) → none_lives (machine script (entered script n)) ≡ true → entered script (k + n) ≡ entered script n
  still n zero none = let same : 0 + n ≡ n = omega arith in ap (entered script) same
  still n (suc k) none =
      let shift : suc k + n ≡ suc (k + n) = omega arith in
      ap (entered script) shift ∙ ap (λ (past : List Event). entry script past 0) (still n k none) ∙ idle_entry script 0 (entered script n) none

  pub is_replay : (history : List Event) → IsEntered script (reverse history) → none_lives (machine script (reverse history)) ≡ true → IsReplay script history
  is_replay history entered_is none =
      let n = (entered_is one).0 in
      let past = (entered_is one).1 in
      let over : none_lives (machine script (entered script n)) ≡ true = subst (λ (p : List Event). none_lives (machine script p) ≡ true) past none in
      let many = rounds_entered n in
      let all : entered script many.0 ≡ entered script n = (let least = many.1 in let sum : many.0 ≡ (many.0 - n) + n = omega arith in ap (entered script) sum) ∙ still n (many.0 - n) over in
      let same : rounds script n ≡ reverse history = many.2 ∙ all ∙ sym past in
      record {
        count = n;
        is = sym same;
        ended = subst (λ (p : List Event). none_lives (machine script p) ≡ true) (sym same) none;
      }

-- the past with one entry more
pub entered_more : (script : Script) (past : List Event) (c : ℕ) → c < script.cpus → IsEntered script past → IsEntered script (entry script past c)
entered_more script past c below is one =
    let first : c ≡ 0 = omega (arith, one) in
    let n = (is one).0 in
    (suc n, ap (λ (d : ℕ). entry script past d) first ∙ ap (λ (p : List Event). entry script p 0) (is one).1)
