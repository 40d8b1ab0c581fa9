-- The laws of runs, as statements: there is one replay at most, and a turn goes on within the quantum.
use Rattle.std.specs.Prelude.{◌≡◌, ℕ, ◌<◌, List, Some}
use Rattle.xs_model.specs.declared.script.Script.{Script}
use Rattle.xs_model.specs.declared.event.Event.{Event}
use Rattle.xs_model.specs.declared.stage.Stage.TheVariants.{Turn}
use Rattle.xs_model.specs.Script.{IsValid}
use Rattle.xs_model.specs.State.{stage_at, turn_of}
use Rattle.xs_model.specs.Due.{due}
use Rattle.xs_model.specs.Machine.{machine, IsLegalPast}
use Rattle.xs_model.specs.Replay.{IsReplay}

-- A script has one replay at most.
abbrev pub OneReplay : Type 0
OneReplay = (script : Script) (one other : List Event) → IsReplay script one → IsReplay script other → one ≡ other

-- ---- a turn goes on

-- While a turn lasts, its Local events are fewer than the quantum.
abbrev pub TurnsShort : Type 0
TurnsShort = (script : Script) (past : List Event) (t cpu ran : ℕ) → IsValid script
    → stage_at (machine script past).blocks t ≡ Turn cpu ran → ran < script.quantum

-- A block in a turn has a next event.
abbrev pub NeverIdle : Type 0
NeverIdle = (script : Script) (past : List Event) (t cpu : ℕ) → IsValid script → IsLegalPast script past
    → turn_of (machine script past).blocks t ≡ Some cpu → (event : Event) × (due (machine script past) t ≡ Some event)
