-- What is left out stands in the area.
use Rattle.std.proofs.Common.{length, ap, ◌∙◌, arith}
use Rattle.std.proofs.lemmas.List.{with_items_is}
use Rattle.xs_base.proofs.CompactLemmas.{compact_size_low}
use Rattle.xs_bank.specs.Save.{StandsWithin}
use Rattle.xs_bank.proofs.WholeLemmas.{ready_stands}
use Rattle.xs_bank.proofs.bank_of.BankOfBank.xsaves.Goals as goal

pub compacted-written-requires : goal.compacted-written-requires
compacted-written-requires g c =
    let low = compact_size_low c.args.self.now.registers.file.rows c.args.mask.0 in
    omega (arith, ap length c.deref.ensures.value)

pub returns-clause-area : goal.returns-clause-area
returns-clause-area g c =
    let len = c.save_compacted.ensures.saved.bytes.len ∙ c.deref_mut.ensures.len in
    rw (with_items_is c.args.area.now.bytes c.save_compacted.new.into len) (record {
      written = c.compacted-written.result.0;
      within = c.compacted-written.ensures.within;
      left = rw (c.deref.ensures.value) at c.compacted-written.ensures.left;
      saved = rw (c.file.ensures.file, c.deref_mut.ensures.value) at c.save_compacted.ensures.saved;
    })

-- what is left out stands in the area
stands_is : (g : Rattle.xs_bank.proofs.bank_of.BankOfBank.xsaves.Given.Over) (c : goal.After-self-1 g) → StandsWithin c.args.mask.0 c.save_compacted.new.into c.args.self.now.registers.file
stands_is g c =
    let left = rw (c.deref.ensures.value) at c.compacted-written.ensures.left in
    let stands = rw (c.file.ensures.file, c.deref_mut.ensures.value) at c.save_compacted.ensures.stands in
    stands (λ i r row wanted saved off. let why = left r.comp.0 wanted saved off in (c.requires.ready i r row wanted why.0, why.1))

pub returns-clause-stands : goal.returns-clause-stands
returns-clause-stands g c =
    let len = c.save_compacted.ensures.saved.bytes.len ∙ c.deref_mut.ensures.len in
    rw (with_items_is c.args.area.now.bytes c.save_compacted.new.into len) (stands_is g c)

pub returns-clause-whole : goal.returns-clause-whole
returns-clause-whole g c = λ sse outside.
    let len = c.save_compacted.ensures.saved.bytes.len ∙ c.deref_mut.ensures.len in
    rw (with_items_is c.args.area.now.bytes c.save_compacted.new.into len) ((rw (c.file.ensures.file) at c.save_compacted.ensures.whole) (stands_is g c) sse outside)

pub returns-clause-loadable : goal.returns-clause-loadable
returns-clause-loadable g c = λ class save.
    let len = c.save_compacted.ensures.saved.bytes.len ∙ c.deref_mut.ensures.len in
    let loadable = rw (c.file.ensures.file, c.deref_mut.ensures.value) at c.save_compacted.ensures.loadable in
    rw (with_items_is c.args.area.now.bytes c.save_compacted.new.into len) (loadable class c.args.area.now.id save (stands_is g c))

pub returns-clause-ready : goal.returns-clause-ready
returns-clause-ready g c = λ i r row wanted unmodified.
    let len = c.save_compacted.ensures.saved.bytes.len ∙ c.deref_mut.ensures.len in
    rw (with_items_is c.args.area.now.bytes c.save_compacted.new.into len) (ready_stands c.args.mask.0 c.save_compacted.new.into c.args.self.now.registers.file (stands_is g c) i r row wanted)
