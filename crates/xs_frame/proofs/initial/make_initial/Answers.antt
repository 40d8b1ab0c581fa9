-- The initial area is accepted, and gives initial registers.
use Rattle.std.proofs.Common.{refl, ap, ◌∙◌, arith}
use Rattle.std.proofs.lemmas.Bool.{ne_eqb}
use Rattle.xs_base.specs.declared.class.Class.TheVariants.{Small}
use Rattle.xs_base.specs.Compact.{is_compacted}
use Rattle.xs_base.specs.File.{initial_file}
use Rattle.xs_base.specs.KernelArea.{class_features}
use Rattle.xs_base.specs.Task.{start_file}
use Rattle.xs_base.proofs.CompactedLemmas.{compacted_is}
use Rattle.xs_base.proofs.FileLemmas.{initial_is_file}
use Rattle.xs_base.proofs.TaskLemmas.{start_is_valid}
use Rattle.xs_frame.proofs.InitialLemmas.{never_stopped, ready_other, start_same, start_pkru_is}
use Rattle.xs_frame.proofs.initial.make_initial.Goals as goal

pub xrstors-requires-clause-header : goal.xrstors-requires-clause-header
xrstors-requires-clause-header g c = rw (c.area.ensures.bytes) (omega (arith, c.area.ensures.len))

pub xrstors-requires-clause-places : goal.xrstors-requires-clause-places
xrstors-requires-clause-places g c = λ compact. rw (c.requires.set_up.rows_are, c.area.ensures.bytes) (c.requires.set_up.initial_is.places)

pub unreachable-requires : goal.unreachable-requires
unreachable-requires g c =
    let rows = c.args.cpu.now.layout in
    let set_up = c.requires.set_up in
    let initial = set_up.initial_is in
    let loadable = initial.loadable 1 (λ e. omega (arith, e)) in
    let accepted = rw (set_up.rows_are, c.area.ensures.bytes) at c.in-Err.ensures.accepted in
    absurd (never_stopped rows 1 (g.B.Bank.state c.args.cpu.now.bank).armed c.class_features-mask.result.0 c.args.cpu.now.initial _ c.len.ensures.layout loadable (accepted Small 1 loadable (ap is_compacted initial.names ∙ compacted_is (class_features rows Small))))

pub returns-clause-file : goal.returns-clause-file
returns-clause-file g c =
    let rows = c.args.cpu.now.layout in
    let set_up = c.requires.set_up in
    let table = c.len.ensures.layout in
    let whole = rw (set_up.rows_are, c.area.ensures.bytes) at c.in-Ok.ensures.whole in
    let same = (whole (initial_file rows) (initial_is_file rows table) set_up.initial_is.stands).all (λ k there other. c.class_features-mask.ensures.has k ∙ rw (there, ne_eqb k 9 other) refl) in
    c.give_pkru.ensures.same (start_file rows) (start_is_valid rows table).is_file (start_same rows (g.B.Bank.state c.xrstors.new.self).file same) (start_pkru_is rows table)

pub returns-clause-ready : goal.returns-clause-ready
returns-clause-ready g c = λ id m area other.
    let old = g.B.Bank.state c.args.cpu.now.bank in
    let new = g.B.Bank.state c.xrstors.new.self in
    let tracked = rw (c.area.ensures.bytes, c.area.ensures.id) at c.in-Ok.ensures.tracked in
    c.give_pkru.ensures.ready id m area (ready_other new old.file.rows c.class_features-mask.result.0 id m c.args.cpu.now.initial area tracked other)
