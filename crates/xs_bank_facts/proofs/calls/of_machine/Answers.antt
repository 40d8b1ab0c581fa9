use Rattle.std.proofs.Common.{sym, ◌∙◌}
use Rattle.std.proofs.lemmas.Bool.{and_parts}
use Rattle.xs_base.specs.Sets.{has}
use Rattle.xs_base.proofs.SetLemmas.{has_and}
use Rattle.xs_bank_facts.proofs.calls.of_machine.Goals as goal

pub returns : goal.returns
returns c n on =
    let all = c.features.result.0 in
    let set = c.args.set.0 in
    sym (c.features.ensures.has n) ∙ (and_parts (has all n) (has set n) (sym (has_and all set n) ∙ on)).0
