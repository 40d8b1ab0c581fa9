-- Zeros but for XCOMP_BV.
use Rattle.std.proofs.Common.{◌≡◌, length, ap, ◌∙◌, arith}
use Rattle.std.specs.Int.{to_le_bytes, w64}
use Rattle.xs_base.specs.Bytes.{zeros, splice}
use Rattle.xs_base.specs.Compact.{compacted}
use Rattle.xs_base.specs.KernelArea as kernel
use Rattle.xs_base.proofs.ComponentLemmas.{length_zeros}
use Rattle.xs_base.proofs.FileLemmas.{splice_whole}
use Rattle.xs_area.proofs.KernelLemmas.{zero_is, names_are, length_is, stands_initial, loadable_initial}
use Rattle.xs_base.proofs.CompactedLemmas.{compacted_places}
use Rattle.xs_area.proofs.kernel.make_initial.Goals as goal

-- the area, and its XCOMP_BV
area_is : (c : goal.After-slice_known-3-1) → c.put_number.new.out ≡ splice 520 (to_le_bytes w64 c.compacted.result.0) (zeros (length c.args.area.now))
area_is c = c.put_number.ensures.written ∙ ap (splice 520 (to_le_bytes w64 c.compacted.result.0)) (c.clear.ensures.written ∙ splice_whole (zeros (length c.args.area.now)) c.args.area.now (length_zeros (length c.args.area.now)))

names_is : (c : goal.After-slice_known-3-1) → c.compacted.result.0 ≡ compacted (kernel.class_features c.args.layout.now c.args.class)
names_is c = c.compacted.ensures ∙ ap compacted c.class_features.ensures.bits

pub returns-clause-zero : goal.returns-clause-zero
returns-clause-zero c = zero_is c.args.layout.now c.args.class (length c.args.area.now) c.put_number.new.out c.len.ensures.layout c.compacted.result.0 (names_is c) c.put_number.ensures.small c.requires (area_is c)

pub returns-clause-len : goal.returns-clause-len
returns-clause-len c = length_is c.args.layout.now c.args.class (length c.args.area.now) c.put_number.new.out c.len.ensures.layout c.compacted.result.0 (names_is c) c.put_number.ensures.small c.requires (area_is c)

pub returns-clause-names : goal.returns-clause-names
returns-clause-names c = names_are c.args.layout.now c.args.class (length c.args.area.now) c.put_number.new.out c.len.ensures.layout c.compacted.result.0 (names_is c) c.put_number.ensures.small c.requires (area_is c)

pub returns-clause-stands : goal.returns-clause-stands
returns-clause-stands c = stands_initial c.args.layout.now c.args.class (length c.args.area.now) c.put_number.new.out c.len.ensures.layout c.compacted.result.0 (names_is c) c.put_number.ensures.small c.requires (area_is c)

pub returns-clause-loadable : goal.returns-clause-loadable
returns-clause-loadable c = loadable_initial c.args.layout.now c.args.class (length c.args.area.now) c.put_number.new.out c.len.ensures.layout c.compacted.result.0 (names_is c) c.put_number.ensures.small c.requires (area_is c)

pub returns-clause-places : goal.returns-clause-places
returns-clause-places c = λ room. compacted_places c.args.layout.now (kernel.class_features c.args.layout.now c.args.class) c.put_number.new.out c.len.ensures.layout (returns-clause-names c) (omega (arith, returns-clause-len c))
