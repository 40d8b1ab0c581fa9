-- What is wrong with an event, from how it differs from the one that may come in its place.
use Rattle.std.proofs.Common.{◌≡◌, true, false, refl, sym, ap, ◌∙◌, subst}
use Rattle.std.specs.Prelude.{Some, None, Result, Ok, Err, MatchResult}
use Rattle.xs_model.specs.declared.event.Event.{Event}
use Rattle.xs_model.specs.declared.event.Reply.{Reply}
use Rattle.xs_model.specs.Note.{task_of}
use Rattle.xs_model.specs.State.{Machine}
use Rattle.xs_model.specs.Machine.{IsStep, foreseen, may_act}
use Rattle.xs_legal.specs.declared.wrong.Wrong.{Wrong}
use Rattle.xs_legal.specs.declared.wrong.Wrong.TheVariants as wrongs
use Rattle.xs_legal.specs.Wrong.{AreAlike, how_in, signal_in, reply_in, IsAlikeStep, IsWrong}
use Rattle.xs_legal.specs.Difference.{Differs}
use Rattle.xs_legal.proofs.Alike.{alike_self, alike_task, alike_foreseen, start_silent, how_silent}

module _ (m : Machine) (event : Event) where
  -- a step that is like the event is what may come in its place
  pub step_is : (right other : Event) → foreseen m event ≡ Some right → IsAlikeStep m event other → right ≡ other
  step_is right other is step =
      let same : Some right ≡ Some other = sym is ∙ sym (alike_foreseen m event other step.alike) ∙ step.step.is_due in
      cc

  -- what may come in its place, and is like it, is a step
  pub right_step : (right : Event) → may_act m.committing (task_of event) ≡ true → foreseen m event ≡ Some right → AreAlike event right → IsAlikeStep m event right
  right_step right acts is alike = record {
    step = record {
      acts = ap (may_act m.committing) (alike_task event right alike) ∙ acts;
      is_due = alike_foreseen m event right alike ∙ is;
    };
    alike = alike;
  }

  pub same_step : (right : Event) → may_act m.committing (task_of event) ≡ true → foreseen m event ≡ Some right → right ≡ event → IsStep m event
  same_step right acts is same = record { acts = acts; is_due = is ∙ ap (λ (e : Event). Some e) same }

  pub differs_wrong : (right : Event) (wrong : Wrong) → may_act m.committing (task_of event) ≡ true → foreseen m event ≡ Some right → Differs right event wrong → IsWrong m event wrong
  differs_wrong right wrongs.NotNow acts is differs =
      λ (other : Event) (step : IsAlikeStep m event other).
      let P : Event → Type 0 = λ e. AreAlike event e in
      differs (subst P (sym (step_is right other is step)) step.alike)
  differs_wrong right (wrongs.How how) acts is differs = (right, right_step right acts is differs.0, differs.1, differs.2)
  differs_wrong right (wrongs.Signal signal) acts is differs = (right, right_step right acts is differs.0, differs.1, differs.2, differs.3)
  differs_wrong right (wrongs.Reply reply) acts is differs = (right, right_step right acts is differs.0, differs.1, differs.2)

  -- so the comparison with what may come in its place tells
  pub judged : (right : Event) (result : Result (Unit {0}) Wrong) → may_act m.committing (task_of event) ≡ true → foreseen m event ≡ Some right
      → MatchResult result (λ _. right ≡ event) (λ (wrong : Wrong). Differs right event wrong) → MatchResult result (λ _. IsStep m event) (λ (wrong : Wrong). IsWrong m event wrong)
  judged right (Ok unit) acts is same = same_step right acts is same
  judged right (Err wrong) acts is differs = differs_wrong right wrong acts is differs

  -- nothing may come in its place
  pub none_wrong : foreseen m event ≡ None → IsWrong m event wrongs.NotNow
  none_wrong none = λ (other : Event) (step : IsAlikeStep m event other).
      let clash : None ≡ Some other = sym none ∙ sym (alike_foreseen m event other step.alike) ∙ step.step.is_due in
      cc

  -- another block's commit is open
  pub closed_wrong : may_act m.committing (task_of event) ≡ false → IsWrong m event wrongs.NotNow
  closed_wrong closed = λ (other : Event) (step : IsAlikeStep m event other).
      let clash : false ≡ true = sym closed ∙ sym (ap (may_act m.committing) (alike_task event other step.alike)) ∙ step.step.acts in
      cc

  -- ---- laws

  module _ (step : IsStep m event) where
    other_same : (right : Event) → IsAlikeStep m event right → event ≡ right
    other_same right found = step_is event right step.is_due found

    pub step_right : (wrong : Wrong) → IsWrong m event wrong → ⊥
    step_right wrongs.NotNow none = none event (record { step = step; alike = alike_self event })
    step_right (wrongs.How how) is = is.3 (ap how_in (other_same is.0 is.1) ∙ is.2)
    step_right (wrongs.Signal signal) is = is.4 (ap signal_in (other_same is.0 is.1) ∙ is.3)
    step_right (wrongs.Reply reply) is = is.3 (ap reply_in (other_same is.0 is.1) ∙ is.2)

  both_same : (right other : Event) → IsAlikeStep m event right → IsAlikeStep m event other → right ≡ other
  both_same right other first second =
      step_is right other (sym (alike_foreseen m event right first.alike) ∙ first.step.is_due) second

  -- a step that tells no reply is not one with a reply
  apart : (right other : Event) (reply : Reply) → IsAlikeStep m event right → IsAlikeStep m event other → reply_in right ≡ None → reply_in other ≡ Some reply → ⊥
  apart right other reply first second silent answers =
      let clash : None ≡ Some reply = sym silent ∙ ap reply_in (both_same right other first second) ∙ answers in
      cc

  pub one_wrong : (one other : Wrong) → IsWrong m event one → IsWrong m event other → one ≡ other
  one_wrong wrongs.NotNow wrongs.NotNow a b = refl
  one_wrong wrongs.NotNow (wrongs.How how) a b = absurd (a b.0 b.1)
  one_wrong wrongs.NotNow (wrongs.Signal signal) a b = absurd (a b.0 b.1)
  one_wrong wrongs.NotNow (wrongs.Reply reply) a b = absurd (a b.0 b.1)
  one_wrong (wrongs.How how) wrongs.NotNow a b = absurd (b a.0 a.1)
  one_wrong (wrongs.How how) (wrongs.How other) a b =
      let same : Some how ≡ Some other = sym a.2 ∙ ap how_in (both_same a.0 b.0 a.1 b.1) ∙ b.2 in
      let inside : how ≡ other = cc in
      ap wrongs.How inside
  one_wrong (wrongs.How how) (wrongs.Signal signal) a b = absurd (a.3 (sym b.2 ∙ ap how_in (sym (both_same a.0 b.0 a.1 b.1)) ∙ a.2))
  one_wrong (wrongs.How how) (wrongs.Reply reply) a b = absurd (apart a.0 b.0 reply a.1 b.1 (how_silent a.0 how a.2) b.2)
  one_wrong (wrongs.Signal signal) wrongs.NotNow a b = absurd (b a.0 a.1)
  one_wrong (wrongs.Signal signal) (wrongs.How how) a b = absurd (b.3 (sym a.2 ∙ ap how_in (both_same a.0 b.0 a.1 b.1) ∙ b.2))
  one_wrong (wrongs.Signal signal) (wrongs.Signal other) a b =
      let same : Some signal ≡ Some other = sym a.3 ∙ ap signal_in (both_same a.0 b.0 a.1 b.1) ∙ b.3 in
      let inside : signal ≡ other = cc in
      ap wrongs.Signal inside
  one_wrong (wrongs.Signal signal) (wrongs.Reply reply) a b = absurd (apart a.0 b.0 reply a.1 b.1 (start_silent a.0 signal a.3) b.2)
  one_wrong (wrongs.Reply reply) wrongs.NotNow a b = absurd (b a.0 a.1)
  one_wrong (wrongs.Reply reply) (wrongs.How how) a b = absurd (apart b.0 a.0 reply b.1 a.1 (how_silent b.0 how b.2) a.2)
  one_wrong (wrongs.Reply reply) (wrongs.Signal signal) a b = absurd (apart b.0 a.0 reply b.1 a.1 (start_silent b.0 signal b.3) a.2)
  one_wrong (wrongs.Reply reply) (wrongs.Reply other) a b =
      let same : Some reply ≡ Some other = sym a.2 ∙ ap reply_in (both_same a.0 b.0 a.1 b.1) ∙ b.2 in
      let inside : reply ≡ other = cc in
      ap wrongs.Reply inside
