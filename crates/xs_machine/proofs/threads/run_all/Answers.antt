-- All processors are done, and saw the whole history.
use Rattle.std.proofs.Common.{◌≡◌, ◌<◌, rules, List, length, sym, ◌∙◌, subst, arith}
use Rattle.xs_share.specs.Passes.{name_of, opened}
use Rattle.xs_model.specs.declared.event.Event.{Event}
use Rattle.xs_machine.specs.Threads.{HasRunAll}
use Rattle.xs_machine.proofs.Ending.{all_idle, all_kept, all_numbered, all_ready, alone, banks_run, each_knows, has_run, head_of, none_run, whole}
use Rattle.xs_machine.proofs.threads.run_all.Goals as goal

pub work_all-requires-clause-ready : goal.work_all-requires-clause-ready
work_all-requires-clause-ready g c = λ _ _. all_ready (name_of c.args.shared) c.args.script.now (opened c.args.passes) c.requires.valid c.requires.script c.requires.new g.B.Bank.state c.args.procs.now c.seat.new.procs c.args.passes.list.items c.requires.many c.requires.count c.requires.set_up c.requires.passes c.seat.ensures.procs c.seat.ensures.many

pub close-requires : goal.close-requires
close-requires g c =
    let numbers = all_numbered (name_of c.args.shared) c.args.script.now (opened c.args.passes) c.requires.valid c.requires.script c.requires.new g.B.Bank.state c.args.procs.now c.seat.new.procs c.args.passes.list.items c.requires.many c.requires.count c.requires.set_up c.requires.passes c.seat.ensures.procs c.seat.ensures.many c.work_all.new.procs c.work_all.ensures.many c.work_all.ensures.kept in
    let some : 0 < length c.args.procs.now = omega (arith, c.requires.many, c.requires.valid.cpus.0) in (
      search rules,
      (
        record {
          table = c.requires.all.table;
          count = c.collect.ensures.count ∙ c.work_all.ensures.many ∙ c.seat.ensures.many ∙ c.requires.many ∙ sym c.requires.count ∙ c.requires.all.count;
        },
        all_idle (name_of c.args.shared) c.args.script.now g.B.Bank.state (head_of c.args.procs.now some) c.work_all.new.procs c.collect.new.list.items c.collect.ensures.count numbers c.work_all.ensures.done c.collect.ensures.list,
      ),
    )

pub returns : goal.returns
returns g c =
    let script = c.args.script.now in
    let state = g.B.Bank.state in
    let name = name_of c.args.shared in
    let result = c.close.result in
    let board = c.into_history.ensures.board in
    let known = c.turns_known.ensures.known in
    let unseen = c.unseen_stays.ensures in
    let worked = c.work_all.new.procs in
    let left = c.collect.new.procs in
    let numbers = all_numbered (name_of c.args.shared) c.args.script.now (opened c.args.passes) c.requires.valid c.requires.script c.requires.new g.B.Bank.state c.args.procs.now c.seat.new.procs c.args.passes.list.items c.requires.many c.requires.count c.requires.set_up c.requires.passes c.seat.ensures.procs c.seat.ensures.many worked c.work_all.ensures.many c.work_all.ensures.kept in
    let knows = each_knows name script known unseen.counts unseen.mark unseen.remains result board state worked c.collect.new.list.items c.collect.ensures.count numbers c.work_all.ensures.done c.collect.ensures.list c.close.ensures.passes in
    let some : 0 < length worked = omega (arith, c.work_all.ensures.many, c.seat.ensures.many, c.requires.many, c.requires.valid.cpus.0) in
    let first = head_of worked some in
    let zeroth = knows 0 first some in
    let all : length c.collect.new.list.items ≡ script.cpus = c.collect.ensures.count ∙ c.work_all.ensures.many ∙ c.seat.ensures.many ∙ c.requires.many in
    let ran : HasRunAll state script result.history c.args.procs.now left = record {
      whole = whole name script known unseen.counts unseen.mark unseen.remains result board 0 _ _ zeroth;
      each = banks_run state script result.history worked left c.collect.ensures.many c.collect.ensures.procs (λ i d within. has_run name script known unseen.counts unseen.mark unseen.remains result board i _ _ (knows i d within));
      beyond = λ i cpu bank above none. none_run name script (opened c.args.passes) c.requires.valid c.requires.script c.requires.new known unseen.counts unseen.mark unseen.remains result board i cpu bank above none (c.close.ensures.opened i (omega (arith, all, above)));
      alone = alone name script known unseen.counts unseen.mark unseen.remains result board 0 _ _ zeroth;
      kept = all_kept (name_of c.args.shared) c.args.script.now (opened c.args.passes) c.requires.valid c.requires.script c.requires.new g.B.Bank.state c.args.procs.now c.seat.new.procs c.args.passes.list.items c.requires.many c.requires.count c.requires.set_up c.requires.passes c.seat.ensures.procs c.seat.ensures.many worked c.work_all.ensures.many c.work_all.ensures.kept left c.collect.ensures.procs;
      many = c.collect.ensures.many ∙ c.work_all.ensures.many ∙ c.seat.ensures.many;
    } in
    subst (λ (history : List Event). HasRunAll state script history c.args.procs.now left) (sym c.into_history.ensures.events) ran
