-- The replay of a script: the one history that the ready list and the schedule give. At each entry of the schedule its
-- processor starts the first ready block where it has no turn, and else makes all the further events of its turn. This
-- project's own.
use Rattle.std.specs.Prelude.{◌≡◌, ℕ, zero, suc, ◌+◌, true, List, [], ◌∷◌, reverse, Option, Some, None, if◌then◌else◌}
use Rattle.std.specs.List.{range_with_len}
use Rattle.xs_model.specs.declared.script.Script.{Script}
use Rattle.xs_model.specs.declared.event.Event.{Event}
use Rattle.xs_model.specs.State.{BlockState, turn_cpu, is_on_cpu, none_lives}
use Rattle.xs_model.specs.Due.{due, start_due}
use Rattle.xs_model.specs.Machine.{machine}
use Rattle.xs_model.specs.Ready.{ready_list}

-- the past with one event more, where there is one
abbrev pub told : Option Event → List Event → List Event
told None past = past
told (Some event) past = event ∷ past

-- at most n further events of block t's turn
abbrev pub finish : Script → ℕ → ℕ → List Event → List Event
finish script zero t past = past
finish script (suc n) t past = finish script n t (told (due (machine script past) t) past)

-- the block, from number i on, that is in a turn on the processor
abbrev pub runner : ℕ → ℕ → List BlockState → Option ℕ
runner cpu i [] = None
runner cpu i (b ∷ blocks) = if is_on_cpu cpu (turn_cpu b.stage) then Some i else runner cpu (i + 1) blocks

-- the Start of the first ready block, where there is one
abbrev pub begin : Script → ℕ → List Event → List ℕ → List Event
begin script cpu past [] = past
begin script cpu past (t ∷ list) = told (start_due (machine script past) t cpu) past

-- A turn has at most as many Local events as the quantum, and one event more that ends it.
abbrev pub entry_of : Script → ℕ → List Event → Option ℕ → List Event
entry_of script cpu past None = begin script cpu past (ready_list script past)
entry_of script cpu past (Some t) = finish script (script.quantum + 1) t past

-- one entry of the schedule
abbrev pub entry : Script → List Event → ℕ → List Event
entry script past cpu = entry_of script cpu past (runner cpu 0 (machine script past).blocks)

-- a script's schedule: without one, its processors in order
abbrev pub schedule_of : ℕ → List ℕ → List ℕ
schedule_of cpus [] = range_with_len 0 cpus
schedule_of cpus (c ∷ sched) = c ∷ sched

abbrev pub entries : Script → List Event → List ℕ → List Event
entries script past [] = past
entries script past (c ∷ cs) = entries script (entry script past c) cs

-- so many rounds of the schedule
unfoldable pub rounds : Script → ℕ → List Event
rounds script zero = []
rounds script (suc n) = entries script (rounds script n) (schedule_of script.cpus script.sched)

-- The history is the script's replay: that of as many rounds as it takes until no block lives.
pub record IsReplay (script : Script) (history : List Event) : Type 0 where
  pub count : ℕ
  pub is : reverse history ≡ rounds script count
  pub ended : none_lives (machine script (rounds script count)) ≡ true
