-- Events that are alike.
use Rattle.std.proofs.Common.{◌≡◌, ℕ, refl, sym, ap, ◌∙◌}
use Rattle.std.specs.Prelude.{Option, Some, None}
use Rattle.xs_base.specs.declared.words.How as hows
use Rattle.xs_base.specs.declared.words.Signo as signals
use Rattle.xs_model.specs.declared.event.Event.{Event}
use Rattle.xs_model.specs.declared.event.Event.TheVariants.{Start, Local, Outer, Grow, Kill, End}
use Rattle.xs_model.specs.Note.{task_of}
use Rattle.xs_model.specs.State.{Machine}
use Rattle.xs_model.specs.Due.{due, start_due}
use Rattle.xs_model.specs.Machine.{foreseen}
use Rattle.xs_legal.specs.Wrong.{AreAlike, how_in, signal_in, reply_in}

-- an event is like itself
pub alike_self : (event : Event) → AreAlike event event
alike_self (Start t cpu how signal) = (refl, refl)
alike_self (Local t line reply) = (refl, refl)
alike_self (Outer t line reply) = (refl, refl)
alike_self (Grow t) = refl
alike_self (Kill t signo why) = (refl, refl, refl)
alike_self (End t) = refl

-- alike events are of one block
pub alike_task : (event right : Event) → AreAlike event right → task_of right ≡ task_of event
alike_task (Start t cpu how signal) (Start u d other_how other_signal) alike = sym alike.0
alike_task (Local t line reply) (Local u number other) alike = sym alike.0
alike_task (Outer t line reply) (Outer u number other) alike = sym alike.0
alike_task (Grow t) (Grow u) alike = sym alike
alike_task (Kill t signo why) (Kill u other cause) alike = sym alike.0
alike_task (End t) (End u) alike = sym alike
alike_task event right alike = absurd alike

-- the same event may come in the place of each
pub alike_foreseen : (m : Machine) (event right : Event) → AreAlike event right → foreseen m right ≡ foreseen m event
alike_foreseen m (Start t cpu how signal) (Start u d other_how other_signal) alike = sym (ap (λ (v : ℕ). start_due m v cpu) alike.0 ∙ ap (start_due m u) alike.1)
alike_foreseen m (Local t line reply) (Local u number other) alike = sym (ap (due m) alike.0)
alike_foreseen m (Outer t line reply) (Outer u number other) alike = sym (ap (due m) alike.0)
alike_foreseen m (Grow t) (Grow u) alike = sym (ap (due m) alike)
alike_foreseen m (Kill t signo why) (Kill u other cause) alike = sym (ap (due m) alike.0)
alike_foreseen m (End t) (End u) alike = sym (ap (due m) alike)
alike_foreseen m event right alike = absurd alike

-- one with a signal, or none, tells no reply
pub start_silent : (event : Event) (signal : Option signals.Signo) → signal_in event ≡ Some signal → reply_in event ≡ None
start_silent (Start t cpu how other) signal is = refl
start_silent event signal is = absurd (cc)

-- nor does one that tells how the registers come
pub how_silent : (event : Event) (how : hows.How) → how_in event ≡ Some how → reply_in event ≡ None
how_silent (Start t cpu other signal) how is = refl
how_silent event how is = absurd (cc)

-- alike Starts with the same parts are equal
pub start_same : (event right : Event) (how : hows.How) (signal : Option signals.Signo) → AreAlike event right → how_in right ≡ Some how → signal_in right ≡ Some signal
    → how_in event ≡ Some how → signal_in event ≡ Some signal → right ≡ event
start_same (Start t cpu a b) (Start u d x y) how signal alike r s p q = let first = alike.0 in let second = alike.1 in cc
start_same (Start t cpu a b) right how signal alike r s p q = absurd alike
start_same event right how signal alike r s p q = absurd (cc)
