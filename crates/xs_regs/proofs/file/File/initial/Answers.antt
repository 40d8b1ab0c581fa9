-- One part more is initial, and at the end all are.
use Rattle.std.proofs.Common.{◌≡◌, refl, arith}
use Rattle.std.proofs.lemmas.List.{map-append}
use Rattle.std.proofs.lemmas.List.FromFn.{map-range_with_len_more}
use Rattle.xs_base.specs.Component.{initial_part}
use Rattle.xs_base.proofs.FileLemmas.{initial_at, initial_is_file}
use Rattle.xs_base.specs.File.{initial_file}
use Rattle.xs_regs.proofs.InUse.{unused_all}
use Rattle.xs_regs.proofs.file.File.initial.Goals as goal

pub parts-preserved : goal.parts-preserved
parts-preserved c =
    rw (c.in_ok-push.ensures.items, map-append, c.parts.invariant, c.in_ok-make_part.ensures, map-range_with_len_more initial_part 0 c.parts.c c.parts.c (omega arith)) refl

pub invariant_of-result : goal.invariant_of-result
invariant_of-result c =
    let all : c.parts.c ≡ 19 = omega arith in
    let parts = rw all at c.parts.invariant in
    rw parts (initial_is_file c.args.layout.now c.len.ensures.layout, unused_all (initial_file c.args.layout.now) c.len.ensures.layout (initial_at c.args.layout.now))
