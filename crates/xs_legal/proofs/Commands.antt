-- What is known of the commands of a script.
use Rattle.std.proofs.Common.{◌≡◌, ℕ, true, not, ◌||◌, ◌==◌, List, length, drop}
use Rattle.std.proofs.lemmas.Bool.{and_parts, eqb-true}
use Rattle.std.specs.List.{list_all}
use Rattle.xs_base.specs.declared.component.Row.{Row}
use Rattle.xs_base.specs.declared.component.Place.{Place}
use Rattle.xs_base.specs.File.{is_mxcsr}
use Rattle.xs_base.specs.Register.{place_of}
use Rattle.xs_base.proofs.Registers.{named_place}
use Rattle.xs_model.specs.declared.script.Command.TheVariants as commands
use Rattle.xs_model.specs.Script.{IsCommand, fits_register}

fits_length : (place : Place) (bytes : List ℕ) → fits_register place bytes ≡ true → length bytes ≡ place.len
fits_length place bytes fits =
    eqb-true (length bytes) place.len (and_parts (length bytes == place.len) (not (is_mxcsr place) || list_all (λ byte. byte == 0) (drop 2 bytes)) fits).0

-- the bytes that a register is set to are as many as it has
pub set_long : (rows : List Row) (reg bytes : List ℕ) → IsCommand rows (commands.Set reg bytes) → length bytes ≡ (place_of reg).len
set_long rows reg bytes command = rw (named_place reg command.0 command.1.0) (fits_length command.0 bytes command.2)
