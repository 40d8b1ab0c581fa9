-- A row of the table is sound.
use Rattle.std.proofs.Common.{subst, arith}
use Rattle.std.proofs.lemmas.Grind.{common_steps}
use Rattle.xs_base.specs.Layout.{IsLayout}
use Rattle.xs_base.proofs.LayoutLemmas.{sound_at}
use Rattle.xs_layout.proofs.layout.Layout.row_at.Goals as goal

pub returns-clause-sound : goal.returns-clause-sound
returns-clause-sound c =
    let layout : IsLayout c.args.self.now = subst (λ (x : _). IsLayout x) c.self.view_is c.self.invariant.layout in
    sound_at c.args.self.now layout c.args.i _ c.requires (grind (arith, common_steps))
