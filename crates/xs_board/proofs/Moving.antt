-- A board whose history went on.
use Rattle.std.proofs.Common.{◌≡◌, ℕ, ◌+◌, ◌≤◌, List, [], ◌∷◌, ◌++◌, length, reverse, refl, sym, ap, ◌∙◌, subst, arith, append_assoc}
use Rattle.std.proofs.lemmas.List.{append-nil, length-reverse, reverse-append}
use Rattle.std.specs.Prelude.{None, slice_index_or}
use Rattle.xs_base.specs.Task.{PrivateTask, parked, marks_after, child_of}
use Rattle.xs_model.specs.declared.event.Event.{Event}
use Rattle.xs_model.specs.declared.script.Script.{Script}
use Rattle.xs_model.specs.Bound.{most_events}
use Rattle.xs_model.specs.Laws.{MachineKnown, FewEvents}
use Rattle.xs_model.specs.declared.stage.Stage.TheVariants.{Unborn}
use Rattle.xs_model.specs.Machine.{machine, IsLegalPast}
use Rattle.xs_model.specs.Note.{last}
use Rattle.xs_model.specs.Script.{IsValid, is_user}
use Rattle.xs_board.specs.Board.{Board, HasHome, past_of, private_in, stage_in}
use Rattle.xs_board.specs.Home.{IsHome}
use Rattle.xs_board.proofs.Events.{onto}

-- ---- histories

-- the events of a history in their order, from the latest
pub reverse_onto_past : (events history : List Event) → reverse (history ++ events) ≡ onto events (reverse history)
reverse_onto_past [] history = ap reverse (append-nil history)
reverse_onto_past (event ∷ events) history =
    ap reverse (sym (append_assoc history (event ∷ []) events))
    ∙ reverse_onto_past events (history ++ event ∷ [])
    ∙ ap (onto events) (reverse-append history (event ∷ []))

-- the past is longer by so many events
pub onto_length : (events past : List Event) → length (onto events past) ≡ length events + length past
onto_length [] past = omega arith
onto_length (event ∷ events) past = let rest = onto_length events (event ∷ past) in omega arith

-- a legal history has room
pub fits : FewEvents → (script : Script) (history events : List Event) (room : ℕ) → IsValid script → IsLegalPast script (onto events (reverse history)) → most_events script ≤ room → length history + length events ≤ room
fits few script history events room valid legal most =
    let all = few script (onto events (reverse history)) valid legal in
    let long = onto_length events (reverse history) in
    let same : length (reverse history) ≡ length history = length-reverse history in
    omega (arith, all, long, same, most)

-- the blocks are as many as before
pub as_many : MachineKnown → (script : Script) (past later : List Event) → length (machine script later).blocks ≡ length (machine script past).blocks
as_many known script past later = (known script later).2 ∙ sym (known script past).2

-- ---- the tasks

-- another block's task stays home
pub home_stays : (old new : Board) (u : ℕ) → new.script ≡ old.script → slice_index_or new.home u None ≡ slice_index_or old.home u None → private_in new u ≡ private_in old u → (stage_in new u ≡ Unborn → stage_in old u ≡ Unborn) → last new.script (past_of new) u ≡ last old.script (past_of old) u → HasHome old u → HasHome new u
home_stays old new u script slot same unborn_is last_is home =
    let is = home.2 in (
      home.0,
      slot ∙ home.1,
      record {
        name = is.name;
        stands = subst (λ (p : PrivateTask). IsHome (is_user new.script u) new.script.layout home.0 p) (sym same) (subst (λ (s : Script). IsHome (is_user s u) s.layout home.0 (private_in old u)) (sym script) is.stands);
        last = λ user. is.last (sym (ap (λ (s : Script). is_user s u) script) ∙ user) ∙ sym last_is;
        clear = λ unborn. is.clear (unborn_is unborn);
      },
    )

-- the marks after a turn don't go by the marks before
pub parked_marks : (private : PrivateTask) → marks_after (parked private) ≡ marks_after private
unfolding marks_after
parked_marks private = refl

-- a child has its parent's registers whether that is parked or not
pub parked_child : (private : PrivateTask) → child_of (parked private) ≡ child_of private
unfolding child_of
parked_child private = refl
