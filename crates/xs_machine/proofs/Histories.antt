-- What an event of a block on a processor tells of other processors, and of other blocks but for their last processors: nothing.
use Rattle.std.proofs.Common.{◌≡◌, ℕ, Bool, true, false, ◌&&◌, ◌==◌, List, [], ◌∷◌, slice_get, Option, Some, None, refl, sym, ◌∙◌}
use Rattle.std.proofs.lemmas.Bool.{ne_eqb, eq-eqb}
use Rattle.xs_model.specs.declared.event.Event.{Event}
use Rattle.xs_model.specs.declared.event.Event.TheVariants.{Grow}
use Rattle.xs_model.specs.declared.script.Script.{Script}
use Rattle.xs_model.specs.Counts as told
use Rattle.xs_model.specs.Counts.{in_section, is_event_on, is_section_act, counted_by}
use Rattle.xs_model.specs.Machine.{machine}
use Rattle.xs_model.specs.Note.{Act, Starts, Section, Grows, Sets, Plain, task_of, act_of, set_act, notes_of, is_at, start_cpu, cpu_of, mark, mark_after, last}
use Rattle.xs_model.specs.Script.{is_user}
use Rattle.xs_machine.specs.Turn.{Continues}

-- ---- tests

pub and_no : (a : Bool) → (a && false) ≡ false
and_no true = refl
and_no false = refl

pub at_self : (c : ℕ) → is_at (Some c) c ≡ true
at_self c = eq-eqb c c refl

-- ---- acts within a turn

-- An act that closes a turn: last processors aside, it is as plain as the others.
pub record IsClosing (act : Act) : Type 0 where
  pub cpu : (older : Option ℕ) → start_cpu act older ≡ older
  pub section : is_section_act act ≡ false
  pub mark_is : (user : Bool) (t : ℕ) (older : Option ℕ) → mark_after user t act older ≡ mark_after user t Plain older

pub plain_closes : IsClosing Plain
plain_closes = record { cpu = λ older. refl; section = refl; mark_is = λ user t older. refl }

grows_mark : (user : Bool) (t : ℕ) (older : Option ℕ) → mark_after user t Grows older ≡ mark_after user t Plain older
grows_mark true t older = refl
grows_mark false t older = refl

pub grows_closes : IsClosing Grows
grows_closes = record { cpu = λ older. refl; section = refl; mark_is = grows_mark }

sets_mark : (u : ℕ) (user : Bool) (t : ℕ) (older : Option ℕ) → mark_after user t (Sets u) older ≡ mark_after user t Plain older
sets_mark u true t older = refl
sets_mark u false t older = refl

-- That of an outer line is one, whatever it is and answers.
pub outer_closes : (target : Option ℕ) (accepted : Bool) → IsClosing (set_act target accepted)
outer_closes None accepted = plain_closes
outer_closes (Some u) true = record { cpu = λ older. refl; section = refl; mark_is = sets_mark u }
outer_closes (Some u) false = plain_closes

-- after a Grow a block has no last processor
pub last_grown : (script : Script) (past : List Event) (t : ℕ) → last script (Grow t ∷ past) t ≡ None
last_grown script past t = rw (eq-eqb t t refl) refl

-- ---- an event of block t that is on processor c

module _ (script : Script) (past : List Event) (event : Event) (t c : ℕ) (is : task_of event ≡ t) (at : start_cpu (act_of script event) (cpu_of (notes_of script past) t) ≡ Some c) where
  cpu_is : start_cpu (act_of script event) (cpu_of (notes_of script past) (task_of event)) ≡ Some c
  cpu_is = rw is at

  on : is_event_on script past event c ≡ true
  on = rw cpu_is (at_self c)

  other : (u : ℕ) → (u ≡ t → ⊥) → (task_of event == u) ≡ false
  other u apart = ne_eqb (task_of event) u (λ e. apart (sym e ∙ is))

  own : (task_of event == t) ≡ true
  own = eq-eqb (task_of event) t is

  -- what is told of its own processor, and of itself
  pub counts_here : told.counts_of script (event ∷ past) c ≡ counted_by script past event (told.counts_of script past c)
  counts_here = rw on refl

  pub mark_here : mark script (event ∷ past) c ≡ mark_after (is_user script t) t (act_of script event) (mark script past c)
  mark_here = rw (on, is) refl

  pub section_here : in_section script (event ∷ past) t ≡ is_section_act (act_of script event)
  section_here = rw own refl

  pub file_here : told.file_after script (event ∷ past) c t ≡ told.file_of (slice_get (machine script (event ∷ past)).blocks t)
  file_here = rw (own, on) refl

  pub one_event : Continues script t c past (event ∷ past)
  one_event = record { others = λ d u apart. rw (other u apart) refl; here = rw own at }

-- One past goes on to another, and this one to a third.
pub then_on : (script : Script) (t c : ℕ) (old past new : List Event) → Continues script t c old past → Continues script t c past new → Continues script t c old new
then_on script t c old past new a b = record { others = λ d u apart. b.others d u apart ∙ a.others d u apart; here = b.here }

-- a mark is a user task
module _ (script : Script) (past : List Event) (c u : ℕ) (event : Event) (before : mark script past c ≡ Some u → is_user script u ≡ true) where
  user_by : (user : Bool) → is_user script (task_of event) ≡ user → (act : Act) → mark_after user (task_of event) act (mark script past c) ≡ Some u → is_user script u ≡ true
  user_by true known (Starts d) is = let e : task_of event ≡ u = cc in rw (sym e) known
  user_by true known Section is = absurd (cc)
  user_by true known Grows is = let e : task_of event ≡ u = cc in rw (sym e) known
  user_by true known (Sets v) is = let e : task_of event ≡ u = cc in rw (sym e) known
  user_by true known Plain is = let e : task_of event ≡ u = cc in rw (sym e) known
  user_by false kernel (Starts d) is = before is
  user_by false kernel Section is = absurd (cc)
  user_by false kernel Grows is = before is
  user_by false kernel (Sets v) is = before is
  user_by false kernel Plain is = before is

  user_on : (b : Bool) → is_event_on script past event c ≡ b → mark script (event ∷ past) c ≡ Some u → is_user script u ≡ true
  user_on true here is = user_by (is_user script (task_of event)) refl (act_of script event) (rw here at is)
  user_on false there is = before (rw there at is)

pub mark_user : (script : Script) (past : List Event) (c u : ℕ) → mark script past c ≡ Some u → is_user script u ≡ true
mark_user script [] c u is = absurd (cc)
mark_user script (event ∷ past) c u is = user_on script past c u event (mark_user script past c u) (is_event_on script past event c) refl is
