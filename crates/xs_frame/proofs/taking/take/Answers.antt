-- The bank has the file of the frame.
use Rattle.std.proofs.Common.{◌≡◌, sym, ◌∙◌, arith, lit<, true}
use Rattle.xs_base.specs.File.{initial_file}
use Rattle.xs_base.specs.Image.{image_file}
use Rattle.xs_base.proofs.FileLemmas.{initial_is_file}
use Rattle.xs_base.proofs.ImageLemmas.{image_at, image_is_file, image_pkru}
use Rattle.xs_base.proofs.SizeLemmas.{end_most}
use Rattle.xs_frame.proofs.taking.take.Goals as goal

pub put_parts-requires-clause-places : goal.put_parts-requires-clause-places
put_parts-requires-clause-places g c =
    let area = c.requires.task.area c.in-Some.lease c.in-Some.is in
    let most = end_most (λ _. true) c.args.cpu.now.layout (rw (area.loadable.stands.rows_are) at area.loadable.is_file.layout) in
    rw (c.deref.ensures.value) (omega (arith, most, c.requires.task.frame))

pub returns-clause-ready : goal.returns-clause-ready
returns-clause-ready g c =
    λ flag other is. let same : other ≡ c.put_parts.new.lease = cc (sym is) in rw same (record {
      armed = c.give_pkru.ensures.armed ∙ c.restore.ensures.armed;
      ready = c.give_pkru.ensures.ready _ _ _ (c.restore.ensures.ready _);
    })

pub returns-clause-file : goal.returns-clause-file
returns-clause-file g c =
    let rows = c.args.cpu.now.layout in
    let base = initial_file rows in
    let frame = c.args.task.now.frame.items in
    let parts = c.args.parts.now in
    let table = rw (c.restore.ensures.machine) at c.loads.ensures.file.layout in
    let good = image_is_file base frame parts (initial_is_file rows table) (omega (arith, c.requires.small)) in
    let stands = rw (c.deref.ensures.value) at c.put_parts.ensures.stands in
    c.give_pkru.ensures.same (image_file base frame parts) good (c.restore.ensures.file (image_file base frame parts) good stands) (image_at base frame parts 9 (lit< tt) ∙ image_pkru base frame parts)
