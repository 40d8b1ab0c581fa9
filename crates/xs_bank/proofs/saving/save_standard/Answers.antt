-- The area has room, and the header beside the components.
use Rattle.std.proofs.Common.{◌≤◌, length, arith}
use Rattle.xs_base.specs.Sets.{has}
use Rattle.xs_base.proofs.SizeLemmas.{end_low}
use Rattle.xs_bank.proofs.SaveLemmas.{standard_room, standard_saved}
use Rattle.xs_bank.proofs.StandLemmas.{standard_stands}
use Rattle.xs_bank.proofs.saving.save_standard.Goals as goal

pub xstate_bv-requires : goal.xstate_bv-requires
xstate_bv-requires c = let low = end_low (has c.args.mask.0) c.args.file.now.rows in omega arith

pub put_area-requires-clause-header : goal.put_area-requires-clause-header
put_area-requires-clause-header c = let low = end_low (has c.args.mask.0) c.args.file.now.rows in omega arith

pub put_area-requires-clause-room : goal.put_area-requires-clause-room
put_area-requires-clause-room c = standard_room c.args.file.now.rows c.args.mask.0 c.args.written.0 (length c.args.into.now) c.requires.within c.requires.room

pub put_number-requires : goal.put_number-requires
put_number-requires c =
    let low = end_low (has c.args.mask.0) c.args.file.now.rows in
    let len = c.put_area.ensures.written.len in
    omega arith

pub returns-clause-saved : goal.returns-clause-saved
returns-clause-saved c =
    let low = end_low (has c.args.mask.0) c.args.file.now.rows in
    let long : 576 ≤ length c.args.into.now = omega arith in
    let merged = rw c.xstate_bv.ensures at c.merged-bits.ensures in
    standard_saved c.args.file.now c.args.mask.0 c.args.written.0 c.merged-bits.result.0 c.in_use_of.result.0 c.has_control.result c.args.into.now c.put_area.new.into c.put_number.new.out long c.has_control.ensures c.put_area.ensures.written c.put_area.ensures.header c.put_number.ensures.written c.put_number.ensures.small merged c.in_use_of.ensures.each

pub returns-clause-stands : goal.returns-clause-stands
returns-clause-stands c = λ zero left.
    let low = end_low (has c.args.mask.0) c.args.file.now.rows in
    let long : 576 ≤ length c.args.into.now = omega arith in
    let merged = rw c.xstate_bv.ensures at c.merged-bits.ensures in
    let saved = standard_saved c.args.file.now c.args.mask.0 c.args.written.0 c.merged-bits.result.0 c.in_use_of.result.0 c.has_control.result c.args.into.now c.put_area.new.into c.put_number.new.out long c.has_control.ensures c.put_area.ensures.written c.put_area.ensures.header c.put_number.ensures.written c.put_number.ensures.small merged c.in_use_of.ensures.each in
    standard_stands c.args.file.now c.args.mask.0 c.args.written.0 c.args.into.now c.put_number.new.out c.layout.ensures.file saved zero long left
