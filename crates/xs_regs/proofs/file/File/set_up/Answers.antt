-- Every part is initial at the end.
use Rattle.std.proofs.Common.{◌≡◌, List, ℕ, map, ap, arith}
use Rattle.std.specs.List.{range_with_len}
use Rattle.xs_base.specs.Component.{component_count, initial_part}
use Rattle.xs_base.specs.File.{initial_file}
use Rattle.xs_base.proofs.FileLemmas.{initial_at, initial_is_file}
use Rattle.xs_regs.proofs.InUse.{unused_all}
use Rattle.xs_regs.proofs.Parts.{shown, shown_file}
use Rattle.xs_regs.proofs.Loads.{initial_more, initial_all}
use Rattle.xs_regs.proofs.file.File.set_up.Goals as goal

pub parts-preserved : goal.parts-preserved
parts-preserved c = initial_more c.parts.self c.reset.new.self c.parts.c c.reset.ensures.written c.reset.ensures.file (omega arith) c.parts.invariant

pub invariant_of-self : goal.invariant_of-self
invariant_of-self c =
    let inside = shown_file c.self.inside.layout c.self.inside.parts.items c.self.inside.mxcsr in
    let each = rw (← c.self.view_is) at c.parts.invariant in
    let all : shown c.self.inside.parts.items ≡ map initial_part (range_with_len 0 component_count) = initial_all inside c.self.invariant.0.count (λ n lt. each n (omega arith)) in
    rw all (initial_is_file c.args.layout.now c.len.ensures.layout, unused_all (initial_file c.args.layout.now) c.len.ensures.layout (initial_at c.args.layout.now))

pub returns : goal.returns
returns c =
    let inside = shown_file c.self.inside.layout c.self.inside.parts.items c.self.inside.mxcsr in
    let each = rw (← c.self.view_is) at c.parts.invariant in
    let all : shown c.self.inside.parts.items ≡ map initial_part (range_with_len 0 component_count) = initial_all inside c.self.invariant.0.count (λ n lt. each n (omega arith)) in
    ap (λ (parts : List (List ℕ)). record { rows = c.args.layout.now; parts = parts; mxcsr = 0x1F80 }) all
