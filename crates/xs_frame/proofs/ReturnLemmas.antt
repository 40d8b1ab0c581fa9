-- A task after a return.
use Rattle.std.proofs.Common.{◌≡◌, false, ap}
use Rattle.xs_base.specs.declared.header.HeaderError.{HeaderError}
use Rattle.xs_base.specs.File.{File}
use Rattle.xs_base.specs.Frame.{Refused, return_of, after_return, refused_file}
use Rattle.xs_base.specs.Task.{PrivateTask}
use Rattle.xs_image.specs.declared.image.Restored.{Restored}
use Rattle.xs_image.specs.declared.image.Restored.TheVariants as answers
use Rattle.xs_image.specs.Restored.{restored_as}

pub after_is : (p : PrivateTask) (r : Restored) (f : File) → return_of p ≡ restored_as r f → after_return p (return_of p) ≡ record p { file = f; handling = false; place = p.back }
after_is p answers.Full f is = ap (after_return p) is
after_is p answers.LegacyOnly f is = ap (after_return p) is

pub refused_is : (p : PrivateTask) (e : HeaderError) → return_of p ≡ Refused e → after_return p (return_of p) ≡ record p { file = refused_file p }
refused_is p e is = ap (after_return p) is
