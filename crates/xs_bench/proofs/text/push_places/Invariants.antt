use Rattle.std.proofs.Common.{◌≡◌, ◌++◌, take}
use Rattle.std.specs.List.{flat_map}
use Rattle.std.specs.Prelude.{string_bytes}
use Rattle.xs_bench.specs.Words.{place_text, sizes_text}
use Rattle.xs_bench.proofs.text.push_places.Given as goal

abbrev pub invariant-each : goal.invariant-each
invariant-each l = string_bytes l.text ≡ string_bytes l.fn.text ++ (sizes_text l.fn.machine l.layout l.mask.0 ++ flat_map (place_text l.layout l.mask.0) (take l.i l.layout))
