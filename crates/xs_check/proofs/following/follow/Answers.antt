-- The line that breaks a history.
use Rattle.std.proofs.Common.{◌≡◌, ℕ, ◌+◌, length, take, reverse, slice_get, Some, refl, sym, ◌∙◌, subst, arith, List}
use Rattle.std.proofs.lemmas.List.{take_all}
use Rattle.std.proofs.lemmas.Option.{slice_get_read}
use Rattle.xs_model.specs.declared.event.Event.{Event}
use Rattle.xs_model.specs.declared.script.Script.{Script}
use Rattle.xs_model.specs.Machine.{machine}
use Rattle.xs_legal.specs.Standing.{StandsAfter}
use Rattle.xs_check.specs.Verdict.{BreaksAt, NoStep, Unfinished}
use Rattle.xs_check.proofs.following.follow.Goals as goal

pub returns-in-Err : goal.returns-in-Err
returns-in-Err c =
    let events = c.args.events.now in
    let i = c.events.event-index in
    let m = c.events.machine in
    let event = c.event-item.result in
    let stands = c.events.invariant.stands in
    let here : slice_get events i ≡ Some event = slice_get_read events (length events) i event refl (omega arith) c.event-item.is in
    let wrong = (c.in-Err.ensures.step (reverse (take i events)) stands).0 in
    let broken : BreaksAt m.script events (i + 1) = NoStep i event here stands.legal (λ step. c.wrong_once.ensures.right (machine m.script (reverse (take i events))) event c.in-Err.field-0 step wrong) in
    subst (λ (script : Script). BreaksAt script events (c.events.line + 1)) c.events.invariant.script (subst (λ (n : ℕ). BreaksAt m.script events (n + 1)) (sym c.events.invariant.count) broken)

pub returns-else-whole : goal.returns-else-whole
returns-else-whole c =
    let events = c.args.events.now in
    let i = c.events.event-index in
    let m = c.events.machine in
    let end : i ≡ length events = omega arith in
    let all : take i events ≡ events = take_all i events (omega arith) in
    let stands : StandsAfter m (reverse events) = subst (λ (l : List Event). StandsAfter m (reverse l)) all c.events.invariant.stands in
    let broken : BreaksAt m.script events (length events + 1) = Unfinished stands.legal (sym (c.whole.ensures (reverse events) stands) ∙ c.if-whole.false) in
    subst (λ (script : Script). BreaksAt script events (c.events.line + 1)) c.events.invariant.script (subst (λ (n : ℕ). BreaksAt m.script events (n + 1)) (sym end ∙ sym c.events.invariant.count) broken)
