-- The area stands for what the other one does, and is still a task's.
use Rattle.std.proofs.Common.{◌∙◌, ◌<◌, ◌^◌, sym, refl}
use Rattle.xs_base.specs.Area.{control_in}
use Rattle.xs_base.specs.Header.{xstate_bv}
use Rattle.xs_task.proofs.CopyLemmas.{long, state_places, cut_room, cut_control, copied_area, copied_marks}
use Rattle.xs_task.proofs.forking.copy_lease.Goals as goal

pub copy_area-requires-clause-from_header : goal.copy_area-requires-clause-from_header
copy_area-requires-clause-from_header c = long c.args.layout.now c.args.from.now c.requires.from

pub copy_area-requires-clause-to_header : goal.copy_area-requires-clause-to_header
copy_area-requires-clause-to_header c = long c.args.layout.now c.args.to.now c.requires.to

pub copy_area-requires-clause-places : goal.copy_area-requires-clause-places
copy_area-requires-clause-places c = state_places c.args.layout.now c.args.from.now c.requires.from

pub returns-clause-area : goal.returns-clause-area
returns-clause-area c =
    let rows = c.args.layout.now in
    let to = c.args.to.now in
    let from = c.requires.from.loadable in
    let bytes = c.args.from.now.area.bytes.items in
    let cut = c.a_file_can_be_cut.ensures rows to.area.bytes.items from.file from.is_file from.stands.rows_are in
    let small : (cut.0).mxcsr < 2 ^ 16 = rw (cut_control rows to c.requires.to from.file cut.0 cut.2) from.control in
    copied_area rows to (record { class = to.class; area = c.copy_area.new.to }) (xstate_bv bytes) (control_in bytes) cut.0 c.requires.to refl c.copy_area.ensures.id c.copy_area.ensures.form c.copy_area.ensures.bits cut.1
    (c.copy_area.ensures.stands from.file cut.0 from.is_file cut.1 from.stands cut.2) small

pub returns-clause-stands : goal.returns-clause-stands
returns-clause-stands c = λ file cut good whole stands is. c.copy_area.ensures.stands file cut good whole stands (cut_room c.args.layout.now c.args.to.now c.requires.to file cut is)

pub returns-clause-marks : goal.returns-clause-marks
returns-clause-marks c = λ k.
    let rows = c.args.layout.now in
    let to = c.args.to.now in
    let from = c.requires.from.loadable in
    let cut = c.a_file_can_be_cut.ensures rows to.area.bytes.items from.file from.is_file from.stands.rows_are in
    let stands = c.copy_area.ensures.stands from.file cut.0 from.is_file cut.1 from.stands cut.2 in
    copied_marks rows to c.copy_area.new.to.bytes.items c.args.from.now.area.bytes.items k c.requires.to c.copy_area.ensures.bits (sym stands.control ∙ cut_control rows to c.requires.to from.file cut.0 cut.2 ∙ from.stands.control)
