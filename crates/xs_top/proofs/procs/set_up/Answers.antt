-- One processor more is set up.
use Rattle.std.proofs.Common.{◌<◌, length, slice_index_or, ◌∙◌, arith}
use Rattle.std.proofs.lemmas.List.{drop-set-lt}
use Rattle.xs_top.proofs.SetUpLemmas.{first_and_next, numbers_set, counts_set, next_ready, next_uncounted}
use Rattle.xs_top.proofs.procs.set_up.Goals as goal

pub each-preserved : goal.each-preserved
each-preserved g c =
    let state = g.B.Bank.state in
    let script = c.args.script.now in
    let procs = c.each.procs in
    let n = c.each.number in
    let so_far = c.each.invariant in
    let old = c.index-procs-number.result in
    let new = c.set_up.new.self in
    let now = c.set_up.ensures in
    let lt : n < length procs = omega (arith, c.each-test.true, c.requires.many, c.each.auto.procs) in
    let ready = next_ready state script procs n old new lt c.index-procs-number.is so_far.numbers now.number now.layout now.set_up now.mark in
    record {
      first = first_and_next state script procs n (record { cpu = new; pass = (slice_index_or procs n old).pass }) so_far.first ready;
      numbers = numbers_set procs n (record { cpu = new; pass = (slice_index_or procs n old).pass }) so_far.numbers ready.number_is;
      counts = counts_set state procs n (record { cpu = new; pass = (slice_index_or procs n old).pass }) so_far.counts (next_uncounted state script.layout procs n old new lt c.index-procs-number.is so_far.counts now.bank);
      others = drop-set-lt script.cpus procs n (record { cpu = new; pass = (slice_index_or procs n old).pass }) c.each-test.true ∙ so_far.others;
    }
