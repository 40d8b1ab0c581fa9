use Rattle.std.proofs.Common.{◌≡◌, ℕ, ◌++◌, List, length, take, drop, ap, ◌∙◌, arith}
use Rattle.std.proofs.Math.Seq.{take-append_seam}
use Rattle.xs_base.specs.declared.class.Class.TheVariants.{Small}
use Rattle.xs_base.specs.KernelArea.{class_features}
use Rattle.xs_base.proofs.CompactLemmas.{compact_size_most}
use Rattle.xs_bank.proofs.initial_area.InitialArea.set_up.Goals as goal

-- a whole write is what was written
written_whole : (n : ℕ) (new old : List ℕ) → n ≡ length new → take n (new ++ drop (length new) old) ≡ new
written_whole n new old whole = ap (λ k. take k (new ++ drop (length new) old)) whole ∙ take-append_seam new (drop (length new) old)

pub returns : goal.returns
returns c =
    let most = compact_size_most c.args.layout.now c.len.ensures.layout (class_features c.args.layout.now Small) in
    let places = c.make_initial.ensures.places (omega arith) in
    let made = c.make_initial.ensures in
    rw (written_whole c.self.inside.area.bytes.len c.make_initial.new.area c.self.inside.area.bytes.items (omega arith)) (record {
      names = made.names;
      stands = made.stands;
      loadable = made.loadable;
      places = places;
    })
