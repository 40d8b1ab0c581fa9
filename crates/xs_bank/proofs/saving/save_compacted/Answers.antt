-- The area has room, and the header beside the components.
use Rattle.std.proofs.Common.{◌≤◌, length, arith}
use Rattle.xs_base.proofs.CompactLemmas.{compact_size_low}
use Rattle.xs_bank.specs.Save.{IsCompactedSave}
use Rattle.xs_base.proofs.CompactedLemmas.{compact_room}
use Rattle.xs_bank.proofs.SaveLemmas.{compacted_saved}
use Rattle.xs_bank.proofs.StandLemmas.{compacted_stands, stands_whole}
use Rattle.xs_base.proofs.ClassLemmas.{class_sse}
use Rattle.xs_bank.proofs.WholeLemmas.{loadable_saved}
use Rattle.xs_bank.proofs.saving.save_compacted.Goals as goal

pub put_area-requires-clause-header : goal.put_area-requires-clause-header
put_area-requires-clause-header c = let low = compact_size_low c.args.file.now.rows c.args.mask.0 in omega arith

pub put_area-requires-clause-room : goal.put_area-requires-clause-room
put_area-requires-clause-room c = compact_room c.args.file.now.rows c.args.mask.0 c.args.written.0 c.compacted-names.result.0 (length c.args.into.now) c.layout.ensures.file.layout c.compacted-names.ensures c.requires.within c.requires.room

pub put_number-requires : goal.put_number-requires
put_number-requires c =
    let low = compact_size_low c.args.file.now.rows c.args.mask.0 in
    let len = c.put_area.ensures.written.len in
    omega arith

pub put_number-requires-2 : goal.put_number-requires-2
put_number-requires-2 c =
    let low = compact_size_low c.args.file.now.rows c.args.mask.0 in
    let len = c.put_area.ensures.written.len in
    let auto = c.put_number.auto.out in
    omega arith

-- what was saved
saved_is : (c : goal.After-slice_known-4-1) → IsCompactedSave c.args.file.now c.args.mask.0 c.args.written.0 c.args.into.now c.put_number-2.new.out
saved_is c =
    let low = compact_size_low c.args.file.now.rows c.args.mask.0 in
    let long : 576 ≤ length c.args.into.now = omega arith in
    compacted_saved c.args.file.now c.args.mask.0 c.args.written.0 c.compacted-names.result.0 c.saved_bits.result.0 c.has.result c.args.into.now c.put_area.new.into c.put_number.new.out c.put_number-2.new.out long c.has.ensures c.compacted-names.ensures c.put_area.ensures.written c.put_number.ensures.written c.put_number.ensures.small c.put_number-2.ensures.written c.put_number-2.ensures.small c.saved_bits.ensures

pub returns-clause-saved : goal.returns-clause-saved
returns-clause-saved c = saved_is c

pub returns-clause-stands : goal.returns-clause-stands
returns-clause-stands c = λ left.
    let low = compact_size_low c.args.file.now.rows c.args.mask.0 in
    let long : 576 ≤ length c.args.into.now = omega arith in
    compacted_stands c.args.file.now c.args.mask.0 c.args.written.0 c.args.into.now c.put_number-2.new.out c.layout.ensures.file (saved_is c) long c.requires.machine c.requires.within left

pub returns-clause-whole : goal.returns-clause-whole
returns-clause-whole c = λ within sse outside.
    stands_whole c.args.file.now c.args.mask.0 c.args.written.0 c.args.into.now c.put_number-2.new.out c.layout.ensures.file.layout (saved_is c) within sse outside

pub returns-clause-loadable : goal.returns-clause-loadable
returns-clause-loadable c = λ class id save within.
    let low = compact_size_low c.args.file.now.rows c.args.mask.0 in
    let long : 576 ≤ length c.args.into.now = omega arith in
    let sse = class_sse c.args.file.now.rows class c.args.mask.0 c.layout.ensures.file.layout save.features in
    loadable_saved c.args.file.now c.args.mask.0 c.args.written.0 class id c.args.into.now c.put_number-2.new.out c.layout.ensures.file long (saved_is c) save (returns-clause-whole c within sse save.outside)
