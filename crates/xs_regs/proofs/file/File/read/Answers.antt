-- The register lies in its component.
use Rattle.std.proofs.Common.{◌≡◌, false, sym, ◌∙◌, arith}
use Rattle.xs_base.specs.File.{is_mxcsr}
use Rattle.xs_base.proofs.Registers.{place_within}
use Rattle.xs_regs.proofs.file.File.read.Goals as goal

pub split_at-requires : goal.split_at-requires
split_at-requires c =
    let apart : is_mxcsr c.args.place ≡ false = sym c.is_mxcsr.ensures ∙ c.if-is_mxcsr.false in
    let within = place_within c.requires.0 c.args.place c.requires.1.0 apart in
    omega arith

pub split_at-requires-2 : goal.split_at-requires-2
split_at-requires-2 c =
    let apart : is_mxcsr c.args.place ≡ false = sym c.is_mxcsr.ensures ∙ c.if-is_mxcsr.false in
    let within = place_within c.requires.0 c.args.place c.requires.1.0 apart in
    omega arith
