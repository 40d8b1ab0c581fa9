-- A set is known by its components.
use Rattle.std.proofs.Common.{◌≡◌, ◌==◌, ◌&&◌, Bool, true, false, not, refl, sym, ap, ◌∙◌}
use Rattle.xs_base.specs.Layout.{has_row}
use Rattle.xs_base.specs.Sets.{has}
use Rattle.xs_base.proofs.SetLemmas.{put_out}
use Rattle.xs_base.proofs.ClassLemmas.{class_features_are}
use Rattle.xs_area.proofs.kernel.class_features.Goals as goal

turned : (a b d : Bool) → ((a && b) && d) ≡ (a && (d && b))
turned true true true = refl
turned true true false = refl
turned true false true = refl
turned true false false = refl
turned false b d = refl

pub returns-in-Small-clause-has : goal.returns-in-Small-clause-has
returns-in-Small-clause-has c = λ k. rw c.in-Small.is (c.with.ensures k ∙ sym (put_out (has c.default_features.result.0 k) (k == 9)) ∙ ap (λ b. b && not (k == 9)) (c.default_features.ensures.has k) ∙ turned (has_row c.args.layout.now k) (not (k == 18)) (not (k == 9)))

pub returns-in-Small-clause-bits : goal.returns-in-Small-clause-bits
returns-in-Small-clause-bits c = class_features_are c.args.layout.now c.args.class _ c.len.ensures.layout (returns-in-Small-clause-has c)

pub returns-in-Large-clause-has : goal.returns-in-Large-clause-has
returns-in-Large-clause-has c = λ k. rw c.in-Large.is (c.with-in-Large.ensures k ∙ sym (put_out (has c.features.result.0 k) (k == 9)) ∙ ap (λ b. b && not (k == 9)) (c.features.ensures.has k))

pub returns-in-Large-clause-bits : goal.returns-in-Large-clause-bits
returns-in-Large-clause-bits c = class_features_are c.args.layout.now c.args.class _ c.len.ensures.layout (returns-in-Large-clause-has c)
