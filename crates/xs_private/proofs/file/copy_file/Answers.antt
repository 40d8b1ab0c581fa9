-- All components are those of the other file, PKRU by its value.
use Rattle.std.proofs.Common.{◌∙◌, refl, arith}
use Rattle.xs_private.proofs.FileLemmas.{file_copied}
use Rattle.xs_private.proofs.file.copy_file.Goals as goal

pub returns : goal.returns
returns c = file_copied c.args.from.now c.parts.to c.set_mxcsr.new.self c.pkru.result c.layout.ensures.file c.layout-2.ensures.file c.requires.bytes c.parts.invariant.rows
    (λ d known other. c.parts.invariant.parts d (omega (arith, known)) other) c.pkru.ensures (c.set_mxcsr.ensures ∙ rw (c.mxcsr.ensures, c.set_pkru.ensures) refl)
