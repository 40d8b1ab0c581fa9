-- What a return answers (Linux 6.6, arch/x86/kernel/fpu/signal.c, restore_fpregs_from_user). The answer's form is this project's own.
use Rattle.std.specs.Prelude.{◌≡◌, Bool, true, false}
use Rattle.xs_base.specs.File.{File, initial_file}
use Rattle.xs_base.specs.Frame.{Return, Full, LegacyOnly, return_of}
use Rattle.xs_base.specs.Image.{image_file}
use Rattle.xs_base.specs.Task.{PrivateTask}
use Rattle.xs_image.specs.declared.image.Image.{Image}
use Rattle.xs_image.specs.declared.image.Restored.{Restored}
use Rattle.xs_image.specs.declared.image.Restored.TheVariants as answers

abbrev pub is_legacy : Restored → Bool
is_legacy answers.Full = false
is_legacy answers.LegacyOnly = true

-- the return with this answer and this file
abbrev pub restored_as : Restored → File → Return
restored_as answers.Full file = Full file
restored_as answers.LegacyOnly file = LegacyOnly file

-- what the task's frame has gives this return
abbrev pub IsImage : PrivateTask → Image → Type 0
IsImage task image = return_of task ≡ restored_as image.restored (image_file (initial_file task.file.rows) task.frame image.parts)
