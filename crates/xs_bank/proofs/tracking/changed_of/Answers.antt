-- The area is the one that was loaded.
use Rattle.std.proofs.Common.{◌&&◌, not, sym, ap, ◌∙◌}
use Rattle.xs_bank.specs.Bank.{is_unmodified}
use Rattle.xs_base.specs.Sets.{has}
use Rattle.xs_bank.specs.Tracking.{shown}
use Rattle.xs_base.proofs.SetLemmas.{has_and}
use Rattle.xs_bank.proofs.ReadyLemmas.{unmodified_here, not_not}
use Rattle.xs_bank.proofs.tracking.changed_of.Goals as goal

pub returns : goal.returns
returns c n =
    let t = c.in-Some.loaded in
    has_and c.args.set.0 t.modified.0 n
    ∙ ap (λ b. has c.args.set.0 n && b) (not_not (has t.modified.0 n) ∙ ap not (sym (unmodified_here t c.args.id c.args.names n c.if-loaded-id.false c.if-loaded-names.false)) ∙ ap (λ o. not (is_unmodified (shown o) c.args.id c.args.names n)) (sym c.in-Some.is))
