-- The machine after the event.
use Rattle.std.proofs.Common.{◌∷◌, ap, ◌∙◌, sym, subst, length}
use Rattle.xs_model.specs.Machine.{IsStep, machine}
use Rattle.xs_legal.specs.Standing.{Standing, StandsAfter}
use Rattle.xs_legal.proofs.Following.{made_stands, moved, written}
use Rattle.xs_legal.proofs.machine.Machine.make.Goals as goal

pub returns-clause-step : goal.returns-clause-step
returns-clause-step c = λ past stands step.
    let blocks = c.self.inside.blocks.items in
    let marks = c.self.inside.marks.items in
    let lasts = c.self.inside.lasts.items in
    let b = c.as_mut_slice-blocks.ensures in
    let m = c.as_mut_slice.ensures in
    let l = c.as_mut_slice-2.ensures in
    moved c.self.inside.script c.committing-self-inside.result _ c.change.new.blocks _ c.note_mark.new.marks _ c.note_last.new.lasts _
    (written blocks c.change.new.blocks c.self.inside.blocks.len (sym b.len ∙ ap length b.value) (c.change.auto.blocks ∙ ap length b.value))
    (written marks c.note_mark.new.marks c.self.inside.marks.len (sym m.len ∙ ap length m.value) (c.note_mark.auto.marks ∙ ap length m.value))
    (written lasts c.note_last.new.lasts c.self.inside.lasts.len (sym l.len ∙ ap length l.value) (c.note_last.auto.lasts ∙ ap length l.value))
    (made_stands c.machine_known.ensures.known (record { script = c.self.inside.script; blocks = blocks; committing = c.self.inside.committing; marks = marks; lasts = lasts })
    past c.args.event.now _ c.change.new.blocks _ c.note_mark.new.marks _ c.note_last.new.lasts c.committing-self-inside.result
    c.self.invariant (subst (λ (s : Standing). StandsAfter s past) (sym c.self.view_is) stands) (subst (λ (s : Standing). IsStep (machine s.script past) c.args.event.now) (sym c.self.view_is) step) b.value m.value l.value
    c.note_mark.ensures c.note_last.ensures c.change.ensures c.committing-self-inside.ensures)

pub invariant_of-self : goal.invariant_of-self
invariant_of-self c =
    let past = c.requires.0 in
    let blocks = c.self.inside.blocks.items in
    let marks = c.self.inside.marks.items in
    let lasts = c.self.inside.lasts.items in
    let b = c.as_mut_slice-blocks.ensures in
    let m = c.as_mut_slice.ensures in
    let l = c.as_mut_slice-2.ensures in
    let noted = written marks c.note_mark.new.marks c.self.inside.marks.len (sym m.len ∙ ap length m.value) (c.note_mark.auto.marks ∙ ap length m.value) in
    let kept = written lasts c.note_last.new.lasts c.self.inside.lasts.len (sym l.len ∙ ap length l.value) (c.note_last.auto.lasts ∙ ap length l.value) in
    record {
      valid = c.self.invariant.valid;
      marks = ap length noted ∙ c.note_mark.auto.marks ∙ ap length m.value ∙ c.self.invariant.marks;
      lasts = ap length kept ∙ c.note_last.auto.lasts ∙ ap length l.value ∙ c.self.invariant.lasts;
      past = c.args.event.now ∷ past;
      stands = returns-clause-step c past c.requires.1 c.requires.2;
    }
