-- What a return answers (Linux 6.6, arch/x86/kernel/fpu/signal.c, restore_fpregs_from_user).
use Rattle.std.specs.Prelude.{◌≡◌}
use Rattle.xs_base.specs.File.{File}
use Rattle.xs_base.specs.Frame.{Return}
use Rattle.xs_image.specs.declared.image.Restored.{Restored}
use Rattle.xs_image.specs.Restored.{restored_as}

-- The return is one with this answer.
abbrev pub is_return_answer : Restored → Return → Type 0
is_return_answer answer back = (file : File) × (back ≡ restored_as answer file)
