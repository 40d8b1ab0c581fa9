-- What stands in the area for the file stands in it for the bank's.
use Rattle.std.proofs.Common.{◌≡◌, get_or, sym, ap, ◌∙◌}
use Rattle.std.proofs.lemmas.Bool.{true≢false}
use Rattle.xs_base.specs.Sets.{has}
use Rattle.xs_bank.proofs.laws.an_area_of_the_registers_is_ready.Goals as goal

pub returns : goal.returns
returns c bank file id mask area stands same other i r row wanted unmodified =
    let apart : r.comp.0 ≡ 9 → ⊥ = λ nine. true≢false (sym wanted ∙ ap (has mask) nine ∙ other) in
    record {
      present = λ on k small own. stands.present i r row apart on k small own ∙ sym (ap (λ l. get_or l k 0) (same.parts r.comp.0 apart));
      absent = λ off. same.parts r.comp.0 apart ∙ stands.absent i r row apart off;
      control = λ one compact. same.control ∙ stands.control;
    }
