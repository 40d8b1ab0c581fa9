-- What a signal frame has of a file: PKRU in its component's place, as XSAVE writes it (Linux 6.6, arch/x86/kernel/fpu/signal.c,
-- copy_fpregs_to_sigframe). That a machine without that component has a PKRU all the same is this project's own.
use Rattle.std.specs.Prelude.{if◌then◌else◌}
use Rattle.xs_base.specs.Component.{pkru_number}
use Rattle.xs_base.specs.File.{File, with_pkru}
use Rattle.xs_base.specs.Layout.{has_row}

-- All of it, but PKRU only where the machine has its component; without that it comes back as 0.
abbrev pub framed_file : File → File
framed_file file = if has_row file.rows pkru_number then file else with_pkru file 0
