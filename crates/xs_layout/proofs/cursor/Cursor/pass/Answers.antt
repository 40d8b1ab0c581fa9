-- The end so far is small, and tells where the row's component stands.
use Rattle.std.proofs.Common.{◌&&◌, nat_le, if◌then◌else◌, sym, ap, ◌∙◌, arith}
use Rattle.xs_base.specs.Compact.{aligned, compact_after, is_compacted}
use Rattle.xs_layout.proofs.CursorLemmas.{end_next, end_small, offset_after}
use Rattle.xs_layout.proofs.cursor.Cursor.pass.Goals as goal

pub place_of-at-requires : goal.place_of-at-requires
place_of-at-requires c =
    let small = end_small c.args.layout.now c.row_at-row.ensures.layout c.args.self.now.names.0 c.args.i in
    let end = c.requires.before in
    omega arith

pub compact_after-self-requires : goal.compact_after-self-requires
compact_after-self-requires c =
    let small = end_small c.args.layout.now c.row_at-row.ensures.layout c.args.self.now.names.0 c.args.i in
    let end = c.requires.before in
    let ends = c.row_at-row.ensures.sound.ends in
    omega arith

pub returns-clause-place : goal.returns-clause-place
returns-clause-place c =
    let names = c.args.self.now.names.0 in
    let row = c.row_at-row.result in
    let offset = ap (aligned row) c.requires.before ∙ offset_after c.args.layout.now c.row_at-row.ensures.layout names c.args.i row c.requires.within c.row_at-row.ensures.at in
    c.place_of-at.ensures ∙ ap (λ n. if is_compacted names && nat_le 2 row.comp.0 then n else row.offset) offset

pub returns-clause-before : goal.returns-clause-before
returns-clause-before c =
    let names = c.args.self.now.names.0 in
    let row = c.row_at-row.result in
    c.compact_after-self.ensures ∙ ap (λ n. compact_after names n row) c.requires.before ∙ sym (end_next names c.args.layout.now c.args.i row c.requires.within c.row_at-row.ensures.at)
