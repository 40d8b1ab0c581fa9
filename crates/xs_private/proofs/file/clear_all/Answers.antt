-- Zeros over all bytes.
use Rattle.std.proofs.Common.{ℕ, List, ap, ◌∙◌, arith}
use Rattle.std.proofs.lemmas.List.{with_items_is}
use Rattle.xs_base.specs.Bytes.{splice, zeros}
use Rattle.xs_private.proofs.FileLemmas.{all_zeros}
use Rattle.xs_private.proofs.file.clear_all.Goals as goal

pub returns : goal.returns
returns c = with_items_is c.args.bytes.now c.clear.new.out (omega (arith, c.clear.ensures.len, c.args.bytes.now.ok.0)) ∙ all_zeros c.args.bytes.now.items c.clear.new.out c.args.len c.requires (c.clear.ensures.written ∙ ap (λ (bytes : List ℕ). splice 0 (zeros c.args.len) bytes) c.deref_mut.ensures.value)
