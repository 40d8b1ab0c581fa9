-- The components so far are those of the image, but for PKRU, and the others are initial.
use Rattle.std.proofs.Common.{◌≡◌, ℕ, ◌<◌, ◌≤◌}
use Rattle.xs_base.specs.File.{part, initial_file}
use Rattle.xs_base.specs.Image.{image_part}
use Rattle.xs_private.proofs.image.take_image.Given as goal

abbrev pub invariant-parts : goal.invariant-parts
invariant-parts l = record {
  rows : l.file.rows ≡ l.fn.file.rows;
  taken : (d : ℕ) → d < l.c → (d ≡ 9 → ⊥) → part l.file d ≡ image_part (initial_file l.fn.file.rows) l.bytes l.parts d;
  left : (d : ℕ) → l.c ≤ d → part l.file d ≡ part (initial_file l.fn.file.rows) d;
}
