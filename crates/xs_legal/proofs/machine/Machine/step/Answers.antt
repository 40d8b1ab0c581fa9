-- An event is judged by what the machine keeps.
use Rattle.std.proofs.Common.{refl, sym, subst}
use Rattle.std.specs.Prelude.{MatchResult}
use Rattle.xs_model.specs.Machine.{IsStep, machine}
use Rattle.xs_model.specs.State.{Machine}
use Rattle.xs_legal.specs.Standing.{Standing, StandsAfter}
use Rattle.xs_legal.specs.Wrong.{IsWrong}
use Rattle.xs_legal.proofs.Following.{judged_by}
use Rattle.xs_legal.proofs.machine.Machine.step.Goals as goal

pub make-requires : goal.make-requires
make-requires c =
    let past = c.self.invariant.past in
    let event = c.args.event.now in
    let m : Standing = record { script = c.self.inside.script; blocks = c.self.inside.blocks.items; committing = c.self.inside.committing; marks = c.self.inside.marks.items; lasts = c.self.inside.lasts.items } in
    let judged = judged_by c.machine_known.ensures.known c.two_numbers.ensures m past event c.is_held-is_held.result _ _ _
    (λ (now : Machine). MatchResult c.judge.result (λ x. IsStep now event) (λ wrong. IsWrong now event wrong))
    c.self.invariant.valid c.self.invariant.stands c.as_slice-3.ensures.value c.as_slice.ensures.value c.as_slice-2.ensures.value c.is_held-is_held.ensures c.judge.ensures in
    (past, subst (λ (s : Standing). StandsAfter s past) c.self.view_is c.self.invariant.stands, subst (λ (s : Standing). IsStep (machine s.script past) event) c.self.view_is (rw c.in-Ok.is at judged))

pub returns-in-Ok-clause-step : goal.returns-in-Ok-clause-step
returns-in-Ok-clause-step c = λ past stands.
    let event = c.args.event.now in
    let m : Standing = record { script = c.self.inside.script; blocks = c.self.inside.blocks.items; committing = c.self.inside.committing; marks = c.self.inside.marks.items; lasts = c.self.inside.lasts.items } in
    let judged = judged_by c.machine_known.ensures.known c.two_numbers.ensures m past event c.is_held-is_held.result _ _ _
    (λ (now : Machine). MatchResult c.judge.result (λ x. IsStep now event) (λ wrong. IsWrong now event wrong))
    c.self.invariant.valid (subst (λ (s : Standing). StandsAfter s past) (sym c.self.view_is) stands) c.as_slice-3.ensures.value c.as_slice.ensures.value c.as_slice-2.ensures.value c.is_held-is_held.ensures c.judge.ensures in
    let step : IsStep (machine c.args.self.now.script past) event = subst (λ (s : Standing). IsStep (machine s.script past) event) c.self.view_is (rw c.in-Ok.is at judged) in
    (step, c.make.ensures.step past stands step)

pub returns-in-Err-clause-step : goal.returns-in-Err-clause-step
returns-in-Err-clause-step c = λ past stands.
    let event = c.args.event.now in
    let m : Standing = record { script = c.self.inside.script; blocks = c.self.inside.blocks.items; committing = c.self.inside.committing; marks = c.self.inside.marks.items; lasts = c.self.inside.lasts.items } in
    let judged = judged_by c.machine_known.ensures.known c.two_numbers.ensures m past event c.is_held-is_held.result _ _ _
    (λ (now : Machine). MatchResult c.judge.result (λ x. IsStep now event) (λ wrong. IsWrong now event wrong))
    c.self.invariant.valid (subst (λ (s : Standing). StandsAfter s past) (sym c.self.view_is) stands) c.as_slice-3.ensures.value c.as_slice.ensures.value c.as_slice-2.ensures.value c.is_held-is_held.ensures c.judge.ensures in
    (subst (λ (s : Standing). IsWrong (machine s.script past) event c.in-Err.wrong) c.self.view_is (rw c.in-Err.is at judged), refl)
