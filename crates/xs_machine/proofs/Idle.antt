-- A round without an event.
use Rattle.std.proofs.Common.{◌≡◌, ℕ, zero, suc, ◌+◌, ◌<◌, ◌≤◌, ◌⊎◌, IsTrue, Bool, true, false, ◌||◌, List, [], ◌∷◌, length, get_or, drop, Option, Some, None, if◌then◌else◌, refl, sym, ap, subst, ◌∙◌, arith, inl, inr}
use Rattle.xs_board.specs.Board.{Board, past_of, machine_in, ready_of, turn_on, KeepsTurns}
use Rattle.xs_model.specs.declared.event.Event.{Event}
use Rattle.xs_model.specs.declared.script.Script.{Script}
use Rattle.xs_model.specs.declared.stage.Stage.{Stage}
use Rattle.xs_model.specs.declared.stage.Stage.TheVariants.{Unborn, Ready, Turn, Stopped, Waiting, Ended}
use Rattle.xs_model.specs.History.{IsLegal}
use Rattle.xs_model.specs.Script.{IsValid}
use Rattle.xs_model.specs.Laws.{NeverStuck, NobodyReady, FreeTells}
use Rattle.xs_model.specs.Replay.{entry, entries, runner, schedule_of}
use Rattle.xs_model.specs.State.{BlockState, is_active, is_on_cpu, is_ready, turn_cpu, has_turn, none_lives, stage_at}
use Rattle.xs_machine.proofs.Rounds.{split}
use Rattle.xs_machine.proofs.Schedules.{length_plain}
use Rattle.xs_machine.specs.Running.{IsIdle, IsRun, KeepsToSchedule}

-- the processor of an entry of the schedule
abbrev pub processor_at : Script → ℕ → ℕ
processor_at script at = get_or (schedule_of script.cpus script.sched) at 0

-- The entries so far made no event.
pub record AreIdle (script : Script) (n : ℕ) (board : Board) : Type 0 where
  pub free : (at : ℕ) → at < n → turn_on board (processor_at script at) ≡ None
  pub none : 0 < n → (ready_of board ≡ []) ⊎ (none_lives (machine_in board) ≡ true)

-- one entry more without an event
pub idle_more : (script : Script) (n c : ℕ) (old new : Board) → c ≡ processor_at script n → AreIdle script n old → IsIdle script c old new → AreIdle script (n + 1) new
idle_more script n c old new here idle now = subst (AreIdle script (n + 1)) (sym now.same) (record { free = free; none = λ some. now.none })
  where
    free : (at : ℕ) → at < n + 1 → turn_on old (processor_at script at) ≡ None
    free at below = split (turn_on old (processor_at script at) ≡ None) at n
        (λ (e : at ≡ n). ap (λ (m : ℕ). turn_on old (processor_at script m)) e ∙ ap (turn_on old) (sym here) ∙ now.free)
        (λ (apart : at ≡ n → ⊥). idle.free at (omega (arith, below, apart)))

-- the entries from this one on
pub entries_from : (script : Script) (past : List Event) (cs : List ℕ) (n c : ℕ) → n < length cs → c ≡ get_or cs n 0 → entries script past (drop n cs) ≡ entries script (entry script past c) (drop (suc n) cs)
entries_from script past [] n c within here = absurd (omega arith)
entries_from script past (d ∷ cs) zero c within here = rw here refl
entries_from script past (d ∷ cs) (suc n) c within here = entries_from script past cs n c (omega arith) here

-- an entry leaves processors without one
pub schedule_kept : (script : Script) (n c : ℕ) (old new : Board) → n < length (schedule_of script.cpus script.sched) → c ≡ processor_at script n → KeepsTurns c old new → KeepsToSchedule script old → KeepsToSchedule script new
schedule_kept script n c old new within here turns keeps d without =
    turns d (λ (e : d ≡ c). without n within (sym here ∙ sym e)) ∙ keeps d without

-- a processor without a runner has no turn
no_runner : (cpu i : ℕ) (blocks : List BlockState) → runner cpu i blocks ≡ None → has_turn blocks cpu ≡ false
no_runner cpu i [] none = refl
no_runner cpu i (block ∷ blocks) none = by_test (no_runner cpu (i + 1) blocks) (is_on_cpu cpu (turn_cpu block.stage)) none
  where
    by_test : (runner cpu (i + 1) blocks ≡ None → has_turn blocks cpu ≡ false) → (b : Bool) → (if b then Some i else runner cpu (i + 1) blocks) ≡ None → (b || has_turn blocks cpu) ≡ false
    by_test rest true none = absurd (cc)
    by_test rest false none = rest none

-- where no processor of the schedule has a turn, none has one
all_free : (script : Script) (board : Board) (n : ℕ) → n ≡ length (schedule_of script.cpus script.sched) → AreIdle script n board → KeepsToSchedule script board → (c : ℕ) → turn_on board c ≡ None
all_free script board n all idle keeps c = by_turn (turn_on board c) refl
  where
    by_turn : (o : Option ℕ) → turn_on board c ≡ o → turn_on board c ≡ None
    by_turn None is = is
    by_turn (Some t) is = keeps c (λ (at : ℕ) (within : at < length (schedule_of script.cpus script.sched)) (here : processor_at script at ≡ c).
        let e : Some t ≡ None = sym is ∙ ap (turn_on board) (sym here) ∙ idle.free at (omega (arith, within, all)) in absurd (cc e))

-- an active block is ready or in a turn
active_cases : (stage : Stage) → is_active stage ≡ true → is_ready stage ≡ false → (c : ℕ) × (turn_cpu stage ≡ Some c)
active_cases Unborn active unready = absurd (cc)
active_cases Ready active unready = absurd (cc)
active_cases (Turn cpu ran) active unready = (cpu, refl)
active_cases Stopped active unready = absurd (cc)
active_cases (Waiting child) active unready = absurd (cc)
active_cases Ended active unready = absurd (cc)

-- after a round without an event no block lives
pub round_over : NeverStuck → NobodyReady → FreeTells → (script : Script) (board : Board) (n : ℕ) → n ≡ length (schedule_of script.cpus script.sched) → 0 < n → IsRun script board → AreIdle script n board → KeepsToSchedule script board → none_lives (machine_in board) ≡ true
round_over stuck nobody tells script board n all some run idle keeps = by_reason (idle.none some)
  where
    by_lives : ready_of board ≡ [] → (b : Bool) → none_lives (machine_in board) ≡ b → none_lives (machine_in board) ≡ true
    by_lives empty true is = is
    by_lives empty false is =
        let legal = subst (λ (s : Script). IsLegal s board.history) (sym run.script_is) run.legal in
        let valid = subst IsValid (sym run.script_is) run.valid in
        let active = stuck board.script (past_of board) valid legal is in
        let unready = nobody board.script (past_of board) active.0 legal empty in
        let turn = active_cases (stage_at (machine_in board).blocks active.0) active.1 unready in
        absurd (tells (machine_in board).blocks turn.0 active.0 (no_runner turn.0 0 (machine_in board).blocks (all_free script board n all idle keeps turn.0)) turn.1)

    by_reason : (ready_of board ≡ []) ⊎ (none_lives (machine_in board) ≡ true) → none_lives (machine_in board) ≡ true
    by_reason (inl empty) = by_lives empty (none_lives (machine_in board)) refl
    by_reason (inr none) = none

-- an entry takes no event away
pub entry_adds : (script : Script) (c : ℕ) (old new : Board) (made : Bool) → (IsTrue made → length old.history < length new.history) → ((IsTrue made → ⊥) → IsIdle script c old new) → length old.history ≤ length new.history
entry_adds script c old new true grows idle = omega (arith, grows refl)
entry_adds script c old new false grows idle = let same = ap (λ (b : Board). length b.history) (idle (λ (e : IsTrue false). absurd (cc e))).same in omega (arith, same)

-- a schedule has an entry
pub some_entries : (cpus : ℕ) (sched : List ℕ) → 0 < cpus → 0 < length (schedule_of cpus sched)
some_entries cpus [] some = omega (arith, length_plain cpus [] refl)
some_entries cpus (c ∷ sched) some = omega arith

-- the entries that are left after one more
pub replay_more : (script : Script) (first old new : List Event) (n c : ℕ) → n < length (schedule_of script.cpus script.sched) → c ≡ processor_at script n → new ≡ entry script old c → entries script old (drop n (schedule_of script.cpus script.sched)) ≡ entries script first (schedule_of script.cpus script.sched) → entries script new (drop (n + 1) (schedule_of script.cpus script.sched)) ≡ entries script first (schedule_of script.cpus script.sched)
replay_more script first old new n c within here now before =
    let next : suc n ≡ n + 1 = omega arith in
    let step = subst (λ (m : ℕ). entries script old (drop n (schedule_of script.cpus script.sched)) ≡ entries script (entry script old c) (drop m (schedule_of script.cpus script.sched))) next (entries_from script old (schedule_of script.cpus script.sched) n c within here) in
    ap (λ (p : List Event). entries script p (drop (n + 1) (schedule_of script.cpus script.sched))) now ∙ sym step ∙ before
