-- The components so far are those of the other file, but for PKRU.
use Rattle.std.proofs.Common.{◌≡◌, ℕ, ◌<◌}
use Rattle.xs_base.specs.File.{part}
use Rattle.xs_private.proofs.file.copy_file.Given as goal

abbrev pub invariant-parts : goal.invariant-parts
invariant-parts l = record {
  rows : l.to.rows ≡ l.from.rows;
  parts : (d : ℕ) → d < l.c → (d ≡ 9 → ⊥) → part l.to d ≡ part l.from d;
}
