-- The set stands in the buffer.
use Rattle.std.proofs.Common.{◌≡◌, refl, ap, ◌∙◌, sym, true}
use Rattle.std.proofs.lemmas.List.{get_or_default, with_items_is}
use Rattle.std.specs.Prelude.{None}
use Rattle.xs_base.specs.Bytes.{splice}
use Rattle.xs_base.specs.RegisterSet.{set_reply}
use Rattle.xs_model.specs.declared.event.Reply.TheVariants as replies
use Rattle.xs_board.specs.Member.{Member, absent, is_stopped_life, member_at}
use Rattle.xs_board.proofs.Tests.{when_stopped}
use Rattle.xs_board.proofs.registers.get_registers.Goals as goal

pub returns : goal.returns
returns c =
    let target = c.args.target in
    let member : c.index-members-target.result ≡ member_at c.args.members.now target = c.index-members-target.is ∙ get_or_default c.args.members.now target c.index-members-target.result absent c.requires.known.0 in
    let held : is_stopped_life (member_at c.args.members.now target).life ≡ true = sym (ap (λ (m : Member). is_stopped_life m.life) member) ∙ sym c.is_stopped.ensures ∙ c.if-not-is_stopped.false in
    let there = sym (c.index-tasks-target.is ∙ get_or_default c.args.tasks.now target c.index-tasks-target.result None c.requires.known.1) ∙ c.in-Some.is in
    when_stopped (is_stopped_life (member_at c.args.members.now target).life) _ _ held (
      c.in-Some.child,
      there,
      record {
        reply_is = λ p parked. ap replies.Count (c.get.ensures.count p parked);
        bytes = λ p parked. with_items_is c.args.task.now.buffer c.get.new.out (c.get.ensures.len ∙ c.deref_mut.ensures.len) ∙ c.get.ensures.reply p parked ∙ ap (splice 0 (set_reply p c.args.which)) c.deref_mut.ensures.value;
        rest = refl;
      },
    )
