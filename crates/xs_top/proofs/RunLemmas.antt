-- What a run leaves, from what its parts leave.
use Rattle.std.proofs.Common.{◌≡◌, ℕ, ◌<◌, List, [], ◌∷◌, length, get_or, ◌∙◌, arith}
use Rattle.std.proofs.lemmas.Option.{slice_get_within, slice_get-get_or}
use Rattle.std.specs.Prelude.{slice_get, Some}
use Rattle.xs_bank.specs.Bank.{Bank}
use Rattle.xs_machine.specs.declared.proc.Proc.{Proc}
use Rattle.xs_machine.specs.Processors.{AreSetUp, KeepProcessors}
use Rattle.xs_model.specs.declared.script.Script.{Script}
use Rattle.xs_model.specs.declared.event.Event.{Event}
use Rattle.xs_model.specs.declared.event.Event.TheVariants as events
use Rattle.xs_text.specs.Text.{AreEvents, AreTasksKnown, IsEvent, task_of}
use Rattle.xs_top.specs.Run.{AreNumbered, HaveMachineOf}

-- the tasks of events that have spellings
known_task : (script : Script) (event : Event) → IsEvent script event → task_of event < length script.blocks
known_task script (events.Start t cpu how signal) h = h.0
known_task script (events.Local t line reply) h = h.0
known_task script (events.Outer t line reply) h = h.0
known_task script (events.Grow t) h = h
known_task script (events.Kill t signo why) h = h
known_task script (events.End t) h = h

pub known_tasks : (script : Script) (history : List Event) → AreEvents script history → AreTasksKnown script history
known_tasks script [] h = tt
known_tasks script (event ∷ later) h = (known_task script event h.0, known_tasks script later h.1)

-- the processor at a place before a run
before_run : {B : Type 0} (old new : List (Proc B)) (i : ℕ) (after : Proc B) → length new ≡ length old → slice_get new i ≡ Some after → slice_get old i ≡ Some (get_or old i after)
before_run old new i after len at = slice_get-get_or old i after (omega (arith, slice_get_within new i after at, len))

-- A run keeps the numbers, and the machine of the set-up.
pub numbers_kept : {B : Type 0} (old new : List (Proc B)) → length new ≡ length old → KeepProcessors old new → AreNumbered old → AreNumbered new
numbers_kept old new len kept numbers = λ i after at.
    let before = before_run old new i after len at in
    (kept i (get_or old i after) after before at).number ∙ numbers i (get_or old i after) before

pub machine_kept : {B : Type 0} (state : B → Bank) (script : Script) (old new : List (Proc B)) → length new ≡ length old → KeepProcessors old new → AreSetUp state script old → HaveMachineOf script new
machine_kept state script old new len kept ready = λ i after lt at.
    let before = before_run old new i after len at in
    (kept i (get_or old i after) after before at).layout ∙ (ready.set_up i (get_or old i after) lt before).layout
