-- A source and a sink in memory, by what a caller sees of them. This project's own.
use Rattle.std.specs.Prelude.{ℕ, Bool, not, ◌&&◌, ◌||◌, ◌==◌, nat_le, List, length}
use Rattle.std.specs.List.{list_any}
use Rattle.xs_io.specs.Causes.{one_more}

-- A source: the bytes that are left, the numbers of the calls that fail, counted from 1, how many calls
-- were made, and how many of them failed.
pub record Supply : Type 0 where
  pub left : List ℕ
  pub fail : List ℕ
  pub calls : ℕ
  pub faults : ℕ

-- A sink: the bytes that were written, how many it has room for in all, and its calls, as for a source.
pub record Store : Type 0 where
  pub written : List ℕ
  pub room : ℕ
  pub fail : List ℕ
  pub calls : ℕ
  pub faults : ℕ

-- The call of this number is one of those that fail.
abbrev pub is_failing : List ℕ → ℕ → Bool
is_failing fail call = list_any (λ other. other == call) fail

-- The next read fails: its number is one of those that do.
abbrev pub is_read_failing : Supply → Bool
is_read_failing s = is_failing s.fail (one_more s.calls)

-- The next write fails: its number is one of those that do, or there are bytes to write and no room for one.
abbrev pub is_write_failing : Store → List ℕ → Bool
is_write_failing s bytes =
    is_failing s.fail (one_more s.calls) || (nat_le s.room (length s.written) && not (length bytes == 0))
