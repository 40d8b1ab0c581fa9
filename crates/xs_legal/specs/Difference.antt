-- In what an event differs from the one that may come in its place. This project's own.
use Rattle.std.specs.Prelude.{◌≡◌, ◌<◌, Bool, true, Some}
use Rattle.xs_model.specs.declared.event.Event.{Event}
use Rattle.xs_model.specs.declared.event.Event.TheVariants.{Start}
use Rattle.xs_model.specs.Script.{is_user}
use Rattle.xs_model.specs.Held.{held}
use Rattle.xs_model.specs.State.{Machine}
use Rattle.xs_legal.specs.Wrong.{AreAlike, how_in, signal_in, reply_in}
use Rattle.xs_legal.specs.declared.wrong.Wrong.{Wrong}
use Rattle.xs_legal.specs.declared.wrong.Wrong.TheVariants as wrongs

-- The first in which an event differs from the right one: they aren't alike, or how, signal or reply is another.
abbrev pub Differs : Event → Event → Wrong → Type 0
Differs right event wrongs.NotNow = AreAlike event right → ⊥
Differs right event (wrongs.How how) = AreAlike event right × (how_in right ≡ Some how) × (how_in event ≡ Some how → ⊥)
Differs right event (wrongs.Signal signal) = AreAlike event right × (how_in right ≡ how_in event) × (signal_in right ≡ Some signal) × (signal_in event ≡ Some signal → ⊥)
Differs right event (wrongs.Reply reply) = AreAlike event right × (reply_in right ≡ Some reply) × (reply_in event ≡ Some reply → ⊥)

-- Whether the bank still holds the registers is known where that decides: at the Start of a user task on one of the script's
-- processors.
abbrev pub IsKnown : Machine → Event → Bool → Type 0
IsKnown m (Start t cpu how signal) is_held = cpu < m.script.cpus → is_user m.script t ≡ true → is_held ≡ held m.script m.past cpu t
IsKnown m other is_held = Unit {0}
