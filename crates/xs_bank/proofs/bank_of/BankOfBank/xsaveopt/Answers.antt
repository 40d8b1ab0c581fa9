-- What is left out stands in the area.
use Rattle.std.proofs.Common.{length, ap, ◌∙◌, arith}
use Rattle.std.proofs.lemmas.List.{with_items_is}
use Rattle.xs_base.specs.Sets.{has}
use Rattle.xs_base.proofs.SizeLemmas.{end_low}
use Rattle.xs_bank.specs.Save.{StandsWithin}
use Rattle.xs_bank.proofs.WholeLemmas.{ready_stands}
use Rattle.xs_bank.proofs.bank_of.BankOfBank.xsaveopt.Goals as goal

pub standard-written-requires : goal.standard-written-requires
standard-written-requires g c =
    let low = end_low (has c.args.mask.0) c.args.self.now.registers.file.rows in
    omega (arith, ap length c.deref.ensures.value)

pub returns-clause-area : goal.returns-clause-area
returns-clause-area g c =
    let len = c.save_standard.ensures.saved.bytes.len ∙ c.deref_mut.ensures.len in
    rw (with_items_is c.args.area.now.bytes c.save_standard.new.into len) (record {
      written = c.standard-written.result.0;
      within = c.standard-written.ensures.within;
      left = rw (c.deref.ensures.value) at c.standard-written.ensures.left;
      saved = rw (c.file.ensures.file, c.deref_mut.ensures.value) at c.save_standard.ensures.saved;
    })

-- what is left out stands in the area
stands_is : (g : Rattle.xs_bank.proofs.bank_of.BankOfBank.xsaveopt.Given.Over) (c : goal.After-self-1 g) → StandsWithin c.args.mask.0 c.save_standard.new.into c.args.self.now.registers.file
stands_is g c =
    let left = rw (c.deref.ensures.value) at c.standard-written.ensures.left in
    let stands = rw (c.file.ensures.file, c.deref_mut.ensures.value) at c.save_standard.ensures.stands in
    stands c.requires.standard (λ i r row wanted used off. c.requires.ready i r row wanted (left r.comp.0 wanted used off))

pub returns-clause-stands : goal.returns-clause-stands
returns-clause-stands g c =
    let len = c.save_standard.ensures.saved.bytes.len ∙ c.deref_mut.ensures.len in
    rw (with_items_is c.args.area.now.bytes c.save_standard.new.into len) (stands_is g c)

pub returns-clause-ready : goal.returns-clause-ready
returns-clause-ready g c = λ i r row wanted unmodified.
    let len = c.save_standard.ensures.saved.bytes.len ∙ c.deref_mut.ensures.len in
    rw (with_items_is c.args.area.now.bytes c.save_standard.new.into len) (ready_stands c.args.mask.0 c.save_standard.new.into c.args.self.now.registers.file (stands_is g c) i r row wanted)
