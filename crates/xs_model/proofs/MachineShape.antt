-- The machine of a past has as many blocks as its script.
use Rattle.std.proofs.Common.{◌≡◌, ℕ, zero, suc, List, [], ◌∷◌, length, refl, ap, ◌∙◌}
use Rattle.std.proofs.lemmas.List.{length-map}
use Rattle.xs_model.specs.declared.script.Script.{Script}
use Rattle.xs_model.specs.declared.event.Event.{Event}
use Rattle.xs_model.specs.Note.{task_of}
use Rattle.xs_model.specs.State.{BlockState, opening_block, changed}
use Rattle.xs_model.specs.Machine.{own, reach, blocks_after, machine}
use Rattle.xs_model.proofs.Touched.{Touched, alike_length, reach_touches}

-- a list with an element changed is as long
pub length_changed : {A : Type 0} (i : ℕ) (f : A → A) (xs : List A) → length (changed i f xs) ≡ length xs
length_changed i f [] = refl
length_changed zero f (x ∷ xs) = refl
length_changed (suc i) f (x ∷ xs) = ap suc (length_changed i f xs)

-- an event leaves as many blocks
pub length_after : (script : Script) (event : Event) (blocks : List BlockState) → length (blocks_after script event blocks) ≡ length blocks
length_after script event blocks =
    length_changed (task_of event) (own script event) (reach script event blocks)
    ∙ alike_length (Touched blocks) blocks (reach script event blocks) (reach_touches script event blocks)

-- so there are as many as the script has
pub many_blocks : (script : Script) (past : List Event) → length (machine script past).blocks ≡ length script.blocks
many_blocks script [] = length-map script.blocks (opening_block script.layout)
many_blocks script (event ∷ past) = length_after (machine script past).script event (machine script past).blocks ∙ many_blocks script past
