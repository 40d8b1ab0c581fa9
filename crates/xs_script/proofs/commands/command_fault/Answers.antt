use Rattle.std.proofs.Common.{refl, sym, ◌∙◌}
use Rattle.xs_model.specs.declared.script.Command.TheVariants.{Set, Get}
use Rattle.xs_script.specs.Refusal.{Unknown, Misfit}
use Rattle.xs_script.proofs.CommandFaults.{no_register, named_or_fails}
use Rattle.xs_script.specs.Commands.{known_before}
use Rattle.xs_script.proofs.commands.command_fault.Goals as goal

pub returns-in-Some-2 : goal.returns-in-Some-2
returns-in-Some-2 c =
    let found = rw c.as_slice.ensures.bytes at c.in-Some.ensures.register in
    let wrong = sym c.fits_register.ensures ∙ c.if-fits_register.false in
    rw c.in-Set.is (Misfit c.in-Set.reg c.in-Set.bytes c.in-Some.place found wrong)

pub returns-in-None : goal.returns-in-None
returns-in-None c =
    let none = rw c.as_slice.ensures.bytes at c.in-None.ensures.register in
    rw c.in-Set.is (Unknown (Set c.in-Set.reg c.in-Set.bytes) c.in-Set.reg refl none)

pub returns-in-None-place_of_bytes : goal.returns-in-None-place_of_bytes
returns-in-None-place_of_bytes c =
    let none = rw c.as_slice-in-Get.ensures.bytes at c.in-None-place_of_bytes.ensures.register in
    rw c.in-Get.is (Unknown (Get c.in-Get.reg) c.in-Get.reg refl none)

pub returns-in_default : goal.returns-in_default
returns-in_default c =
    named_or_fails c.args.scope.now (known_before c.args.inside c.args.forked.now c.args.own.now) c.args.command.now c.name_fault.result (no_register c.args.command.now c.in_default.not-Set c.in_default.not-Get) c.name_fault.ensures
