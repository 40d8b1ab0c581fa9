-- What a task's frame names (Linux 6.6, arch/x86/kernel/fpu/signal.c, save_xstate_epilog).
use Rattle.std.specs.Prelude.{ℕ, Bool, true, not, ◌&&◌, ◌==◌, List, if◌then◌else◌, bit_and}
use Rattle.xs_base.specs.Component.{x87_number, sse_number, pkru_number}
use Rattle.xs_base.specs.Header.{xstate_bv}
use Rattle.xs_base.specs.Sets.{has}

-- Component c is named in a frame by the area that was saved, and PKRU by its value beside it.
abbrev pub is_framed : List ℕ → ℕ → ℕ → ℕ → Bool
is_framed area user pkru c =
    if c == x87_number then true
    else if c == sse_number then true
    else if c == pkru_number then has user pkru_number && not (pkru == 0)
    else has (bit_and (xstate_bv area) user) c
