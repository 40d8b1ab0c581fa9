-- Memories of zeros.
use Rattle.std.proofs.Common.{◌≡◌, ℕ, List, length, ◌∙◌}
use Rattle.xs_base.specs.Bytes.{splice, zeros}
use Rattle.xs_base.proofs.ComponentLemmas.{length_zeros}
use Rattle.xs_base.proofs.FileLemmas.{splice_whole}

-- what is cleared whole is zero
pub all_zero : (old new : List ℕ) → new ≡ splice 0 (zeros (length old)) old → new ≡ zeros (length old)
all_zero old new is = is ∙ splice_whole (zeros (length old)) old (length_zeros (length old))
