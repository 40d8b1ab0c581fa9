-- Why an event is no step of the machine. An event names its kind, its block and where it acts; beside these it may tell how the
-- registers come, a signal, or a reply. Where a step differs from it in these alone, the first that is wrong is told with its right
-- value. This project's own.
use Rattle.std.specs.Prelude.{◌≡◌, Option, Some, None}
use Rattle.xs_base.specs.declared.words.How as hows
use Rattle.xs_base.specs.declared.words.Signo as signals
use Rattle.xs_model.specs.declared.event.Event.{Event}
use Rattle.xs_model.specs.declared.event.Event.TheVariants.{Start, Local, Outer, Grow, Kill, End}
use Rattle.xs_model.specs.declared.event.Reply as replies
use Rattle.xs_model.specs.State.{Machine}
use Rattle.xs_model.specs.Machine.{IsStep}
use Rattle.xs_legal.specs.declared.wrong.Wrong.{Wrong}
use Rattle.xs_legal.specs.declared.wrong.Wrong.TheVariants as wrongs

-- Both events are of one kind and have the same task, processor, line, signal number and cause, whatever their `how`, `signal` and
-- `reply`.
abbrev pub AreAlike : Event → Event → Type 0
AreAlike (Start t cpu how signal) (Start u d other_how other_signal) = (t ≡ u) × (cpu ≡ d)
AreAlike (Local t line reply) (Local u number other) = (t ≡ u) × (line ≡ number)
AreAlike (Outer t line reply) (Outer u number other) = (t ≡ u) × (line ≡ number)
AreAlike (Grow t) (Grow u) = t ≡ u
AreAlike (Kill t signo why) (Kill u other cause) = (t ≡ u) × (signo ≡ other) × (why ≡ cause)
AreAlike (End t) (End u) = t ≡ u
AreAlike event other = ⊥

-- how the registers come at an event, if it is a Start
abbrev pub how_in : Event → Option hows.How
how_in (Start t cpu how signal) = Some how
how_in other = None

-- the signal of a Start, or that it has none
abbrev pub signal_in : Event → Option (Option signals.Signo)
signal_in (Start t cpu how signal) = Some signal
signal_in other = None

-- the reply that an event tells
abbrev pub reply_in : Event → Option replies.Reply
reply_in (Local t line reply) = Some reply
reply_in (Outer t line reply) = Some reply
reply_in other = None

-- A step that is like the event.
pub record IsAlikeStep (m : Machine) (event right : Event) : Type 0 where
  pub step : IsStep m right
  pub alike : AreAlike event right

-- What is wrong with an event: no step is like it, or the first of the three values is not that of the step which is.
abbrev pub IsWrong : Machine → Event → Wrong → Type 0
IsWrong m event wrongs.NotNow = (right : Event) → IsAlikeStep m event right → ⊥
IsWrong m event (wrongs.How how) = (right : Event) × IsAlikeStep m event right × (how_in right ≡ Some how) × (how_in event ≡ Some how → ⊥)
IsWrong m event (wrongs.Signal signal) = (right : Event) × IsAlikeStep m event right × (how_in right ≡ how_in event) × (signal_in right ≡ Some signal) × (signal_in event ≡ Some signal → ⊥)
IsWrong m event (wrongs.Reply reply) = (right : Event) × IsAlikeStep m event right × (reply_in right ≡ Some reply) × (reply_in event ≡ Some reply → ⊥)
