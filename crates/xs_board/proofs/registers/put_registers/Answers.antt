-- The slot of a stopped target has its task.
use Rattle.std.proofs.Common.{◌≡◌, ℕ, take, ap, ◌∙◌, sym, subst, true}
use Rattle.std.proofs.lemmas.List.{get_or_default, length-take-le}
use Rattle.std.specs.Prelude.{Some, None, slice_set}
use Rattle.xs_board.specs.Deed.{IsReached, WasWritten}
use Rattle.xs_board.specs.Member.{Member, absent, is_stopped_life, member_at}
use Rattle.xs_board.proofs.Tests.{when_stopped}
use Rattle.xs_board.proofs.registers.put_registers.Goals as goal

held : (c : goal.After-index_mut) → is_stopped_life (member_at c.args.members.now c.args.target).life ≡ true
held c =
    let member : c.index-members-target.result ≡ member_at c.args.members.now c.args.target = c.index-members-target.is ∙ get_or_default c.args.members.now c.args.target c.index-members-target.result absent c.requires.known.0 in
    sym (ap (λ (m : Member). is_stopped_life m.life) member) ∙ sym c.is_stopped.ensures ∙ c.if-not-is_stopped.false

reached : (c : goal.After-index_mut) → IsReached c.args.layout.now c.args.tasks.now.items c.args.target
reached c = c.requires.reached (held c)

there : (c : goal.After-index_mut) → c.index_mut.result.now ≡ Some (reached c).task
there c = c.index_mut.ensures.value ∙ get_or_default c.args.tasks.now.items c.args.target c.index_mut.result.now None c.requires.known.1 ∙ (reached c).there

pub put_set-requires-clause-task : goal.put_set-requires-clause-task
put_set-requires-clause-task c = ((reached c).task, there c, (reached c).whole, (reached c).away)

pub returns : goal.returns
returns c =
    let target = c.args.target in
    let bytes = take c.args.count c.args.buffer.now in
    let member : c.index-members-target.result ≡ member_at c.args.members.now target = c.index-members-target.is ∙ get_or_default c.args.members.now target c.index-members-target.result absent c.requires.known.0 in
    let is : is_stopped_life (member_at c.args.members.now target).life ≡ true = sym (ap (λ (m : Member). is_stopped_life m.life) member) ∙ sym c.is_stopped.ensures ∙ c.if-not-is_stopped.false in
    let had = c.requires.reached is in
    let wrote = c.put_set.ensures had.task (c.index_mut.ensures.value ∙ get_or_default c.args.tasks.now.items target c.index_mut.result.now None c.requires.known.1 ∙ had.there) in
    when_stopped (is_stopped_life (member_at c.args.members.now target).life) _ _ is (
      had.task,
      wrote.0,
      had.there,
      ap (slice_set c.args.tasks.now.items target) wrote.1,
      subst (λ (n : ℕ). WasWritten c.args.layout.now c.args.which n bytes c.put_set.result had.task wrote.0) (length-take-le c.args.count c.args.buffer.now c.requires.within) wrote.2,
    )
