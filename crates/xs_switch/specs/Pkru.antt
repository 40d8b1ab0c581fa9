-- PKRU at a switch: it is given apart from the other registers, and written only where the bank has another (Linux 6.6,
-- arch/x86/include/asm/pkru.h, write_pkru).
use Rattle.std.specs.Prelude.{ℕ, ◌==◌, if◌then◌else◌}
use Rattle.xs_base.specs.File.{pkru_of}
use Rattle.xs_bank.specs.Bank as banks
use Rattle.xs_bank.specs.Bank.{after_wrpkru}

-- The bank with this PKRU. Where it has that already nothing is written, and so nothing counts as changed.
abbrev pub given_pkru : banks.Bank → ℕ → banks.Bank
given_pkru bank value = if pkru_of bank.file == value then bank else after_wrpkru bank value
