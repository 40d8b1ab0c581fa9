-- The schedule of a script.
use Rattle.std.proofs.Common.{◌≡◌, ℕ, ◌<◌, List, [], length, get_or, sym, ◌∙◌, arith, zero-add}
use Rattle.std.proofs.lemmas.List.FromFn.{length-range_with_len, get_or-range_with_len}
use Rattle.xs_model.specs.Replay.{schedule_of}

-- without a schedule there is an entry for each processor, in order
pub length_plain : (cpus : ℕ) (sched : List ℕ) → sched ≡ [] → cpus ≡ length (schedule_of cpus sched)
length_plain cpus sched none = rw none (sym (length-range_with_len 0 cpus))

pub at_plain : (cpus : ℕ) (sched : List ℕ) (at : ℕ) → sched ≡ [] → at < length (schedule_of cpus sched) → at ≡ get_or (schedule_of cpus sched) at 0
at_plain cpus sched at none lt =
    let fewer : at < cpus = omega (arith, length_plain cpus sched none) in
    rw none (sym (get_or-range_with_len 0 cpus at 0 fewer ∙ zero-add at))
