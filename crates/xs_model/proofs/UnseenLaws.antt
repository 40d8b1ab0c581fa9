-- What newer events on other processors, or of other blocks, leave as it was.
use Rattle.std.proofs.Common.{◌≡◌, ℕ, ◌==◌, Bool, true, false, ◌&&◌, List, [], ◌∷◌, ◌++◌, refl, ap, ◌∙◌}
use Rattle.std.specs.Prelude.{Option, Some, None, if◌then◌else◌}
use Rattle.xs_model.specs.declared.script.Script.{Script}
use Rattle.xs_model.specs.declared.event.Event.{Event}
use Rattle.xs_model.specs.Script.{is_user}
use Rattle.xs_model.specs.Note.{Act, Starts, Section, Grows, Sets, Plain, notes_of, task_of, act_of, cpu_of, mark, last, last_after}
use Rattle.xs_model.specs.Held.{sets_block, is_current, is_calm}
use Rattle.xs_model.specs.Counts.{file_after, remaining}
use Rattle.xs_model.specs.Laws.{AreElsewhere, AreOthers, MarkUnseen, CountsUnseen, RemainsUnseen, LastUnseen, HeldUnseen}

-- ---- a processor

-- the mark
pub mark_unseen : MarkUnseen
mark_unseen script [] past cpu off = refl
mark_unseen script (event ∷ newer) past cpu off = let is_off = off.1 in rw is_off (mark_unseen script newer past cpu off.0)

-- the counts
pub counts_unseen : CountsUnseen
counts_unseen script [] past cpu off = refl
counts_unseen script (event ∷ newer) past cpu off = let is_off = off.1 in rw is_off (counts_unseen script newer past cpu off.0)

-- a test that needs the processor
never : {A : Type 0} (b : Bool) (x y : A) → (if b && false then x else y) ≡ y
never true x y = refl
never false x y = refl

-- the file after a task's latest event there
file_unseen : (script : Script) (newer past : List Event) (cpu t : ℕ) → AreElsewhere script newer past cpu → file_after script (newer ++ past) cpu t ≡ file_after script past cpu t
file_unseen script [] past cpu t off = refl
file_unseen script (event ∷ newer) past cpu t off =
    let is_off = off.1 in
    rw is_off (never (task_of event == t) _ (file_after script (newer ++ past) cpu t) ∙ file_unseen script newer past cpu t off.0)

-- what remains for a mark
remaining_unseen : (script : Script) (newer past : List Event) (cpu : ℕ) (marked : Option ℕ) → AreElsewhere script newer past cpu → remaining script (newer ++ past) cpu marked ≡ remaining script past cpu marked
remaining_unseen script newer past cpu None off = refl
remaining_unseen script newer past cpu (Some t) off = file_unseen script newer past cpu t off

-- what remains
pub remains_unseen : RemainsUnseen
remains_unseen script newer past cpu off =
    ap (λ (marked : Option ℕ). remaining script (newer ++ past) cpu marked) (mark_unseen script newer past cpu off)
    ∙ remaining_unseen script newer past cpu (mark script past cpu) off

-- ---- a block

-- the last processor after another block's event
last_by_other : (u t : ℕ) (act : Act) (older : Option ℕ) → (u == t) ≡ false → sets_block act t ≡ false → last_after u act t older ≡ older
last_by_other u t (Starts c) older other unset = rw other refl
last_by_other u t Section older other unset = refl
last_by_other u t Grows older other unset = rw other refl
last_by_other u t (Sets w) older other unset = rw unset refl
last_by_other u t Plain older other unset = refl

-- the last processor
last_stays : (script : Script) (newer past : List Event) (t : ℕ) → AreOthers script newer t → last script (newer ++ past) t ≡ last script past t
last_stays script [] past t others = refl
last_stays script (event ∷ newer) past t others =
    last_by_other (task_of event) t (act_of script event) (last script (newer ++ past) t) others.1 others.2 ∙ last_stays script newer past t others.0

-- the processor of its latest Start
cpu_stays : (script : Script) (newer past : List Event) (t : ℕ) → AreOthers script newer t → cpu_of (notes_of script (newer ++ past)) t ≡ cpu_of (notes_of script past) t
cpu_stays script [] past t others = refl
cpu_stays script (event ∷ newer) past t others = let other = others.1 in rw other (cpu_stays script newer past t others.0)

-- both
pub last_unseen : LastUnseen
last_unseen script newer past t others = (last_stays script newer past t others, cpu_stays script newer past t others)

-- whether its state is current
current_stays : (script : Script) (newer past : List Event) (t : ℕ) → AreOthers script newer t → is_current (notes_of script (newer ++ past)) t ≡ is_current (notes_of script past) t
current_stays script [] past t others = refl
current_stays script (event ∷ newer) past t others =
    let other = others.1 in
    let unset = others.2 in
    rw (other, unset) (current_stays script newer past t others.0)

-- whether nothing came between
calm_stays : (script : Script) (newer past : List Event) (cpu t : ℕ) → AreElsewhere script newer past cpu → AreOthers script newer t → is_calm (is_user script) (notes_of script (newer ++ past)) cpu t ≡ is_calm (is_user script) (notes_of script past) cpu t
calm_stays script [] past cpu t off others = refl
calm_stays script (event ∷ newer) past cpu t off others =
    let is_off = off.1 in
    let other = others.1 in
    rw (other, is_off) (calm_stays script newer past cpu t off.0 others.0)

-- a task is held as before
pub held_unseen : HeldUnseen
held_unseen script newer past cpu t off others =
    let one = cpu_stays script newer past t others in
    let two = current_stays script newer past t others in
    let three = calm_stays script newer past cpu t off others in
    rw (one, two, three) refl
