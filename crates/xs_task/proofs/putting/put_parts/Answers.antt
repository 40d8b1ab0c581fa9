-- The area stands for the parts, and is still a task's.
use Rattle.std.proofs.Common.{◌∙◌, sym, refl, true, arith}
use Rattle.std.proofs.lemmas.Option.{slice_get_within, get_or_from_slice_get}
use Rattle.xs_base.specs.File.{IsFile, initial_file}
use Rattle.xs_base.specs.Image.{image_file}
use Rattle.xs_base.proofs.FileLemmas.{initial_is_file}
use Rattle.xs_base.proofs.ImageLemmas.{image_is_file, image_of_parts}
use Rattle.xs_base.proofs.SizeLemmas.{end_covers}
use Rattle.xs_task.proofs.CopyLemmas.{table, long, room, class_one, copied_area, named_marks}
use Rattle.xs_task.proofs.putting.put_parts.Goals as goal

pub compact_of-requires-clause-header : goal.compact_of-requires-clause-header
compact_of-requires-clause-header c = long c.args.layout.now c.args.lease.now c.requires.area

pub compact_of-requires-clause-sse : goal.compact_of-requires-clause-sse
compact_of-requires-clause-sse c =
    let rows = c.args.layout.now in
    let lease = c.args.lease.now in
    room rows lease c.requires.area 1 ∙ class_one rows lease.class (table rows lease c.requires.area)

pub compact_of-requires-clause-room : goal.compact_of-requires-clause-room
compact_of-requires-clause-room c = λ k other on. room c.args.layout.now c.args.lease.now c.requires.area k ∙ c.requires.bits k other on

pub compact_of-requires-clause-places : goal.compact_of-requires-clause-places
compact_of-requires-clause-places c = λ i r row on.
    let rows = c.args.layout.now in
    let covers = end_covers (λ _. true) rows i r (slice_get_within rows i r row) (sym (get_or_from_slice_get rows i r r row)) refl in
    omega (arith, covers, c.requires.places)

-- the file of the parts
its_file : (c : goal.After-compact_of) → IsFile (image_file (initial_file c.args.layout.now) c.args.bytes.now c.args.parts.now)
its_file c =
    let rows = c.args.layout.now in
    image_is_file (initial_file rows) c.args.bytes.now c.args.parts.now (initial_is_file rows (table rows c.args.lease.now c.requires.area)) (omega (arith, c.requires.small))

pub returns-clause-stands : goal.returns-clause-stands
returns-clause-stands c =
    let rows = c.args.layout.now in
    let parts = image_of_parts (initial_file rows) c.args.bytes.now c.args.parts.now (initial_is_file rows (table rows c.args.lease.now c.requires.area)) in
    c.compact_of.ensures.stands (image_file (initial_file rows) c.args.bytes.now c.args.parts.now) (its_file c) parts

pub returns-clause-area : goal.returns-clause-area
returns-clause-area c =
    let rows = c.args.layout.now in
    let lease = c.args.lease.now in
    let parts = c.args.parts.now in
    copied_area rows lease (record { class = lease.class; area = c.compact_of.new.area }) parts.bits.0 parts.mxcsr (image_file (initial_file rows) c.args.bytes.now parts) c.requires.area refl c.compact_of.ensures.id c.compact_of.ensures.form c.compact_of.ensures.bits (its_file c)
    (returns-clause-stands c) c.requires.small

pub returns-clause-marks : goal.returns-clause-marks
returns-clause-marks c = λ k.
    let parts = c.args.parts.now in
    let stands = returns-clause-stands c in
    named_marks c.args.layout.now c.args.lease.now c.compact_of.new.area.bytes.items parts.bits.0 parts.mxcsr k c.requires.area c.compact_of.ensures.bits (sym stands.control)
