-- The bytes so far are digits, or one of them is none.
use Rattle.std.proofs.Common.{◌≡◌, take}
use Rattle.std.specs.List.{list_all}
use Rattle.xs_script.specs.Parts.{is_lower_digit}
use Rattle.xs_script.proofs.words.are_lower_digits.Given as goal

abbrev pub invariant-bytes : goal.invariant-bytes
invariant-bytes l = l.well ≡ list_all is_lower_digit (take l.byte-index l.bytes)
