-- No component is written.
use Rattle.std.proofs.Common.{sym, ap, ◌∙◌}
use Rattle.std.proofs.lemmas.Bool.{false≢true}
use Rattle.xs_base.specs.Compact.{place}
use Rattle.xs_base.specs.Sets.{has}
use Rattle.xs_base.specs.Standard.{saved_byte}
use Rattle.xs_base.proofs.SetLemmas.{has_none}
use Rattle.xs_base.proofs.StandardLemmas.{component_none}
use Rattle.xs_bank.proofs.saving.put_components.Goals as goal

pub returns-then-written-eq0-clause-each : goal.returns-then-written-eq0-clause-each
returns-then-written-eq0-clause-each c = λ k.
    let rows = c.args.file.now.rows in
    sym (component_none (saved_byte c.args.file.now) (place rows c.args.names.0) c.args.written.0 rows k _ (λ i r lt is on.
    absurd (false≢true (sym (ap (λ n. has n r.comp.0) c.if-written-eq0.true ∙ has_none r.comp.0) ∙ on))))
