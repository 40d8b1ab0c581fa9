-- A board follows from itself; and from one that it follows from, where another processor made it of the board between.
use Rattle.std.proofs.Common.{◌≢◌, ℕ, List, [], ◌∷◌, ◌++◌, refl, sym, ap, ◌∙◌, subst, append_assoc}
use Rattle.xs_model.specs.declared.event.Event.{Event}
use Rattle.xs_model.specs.declared.script.Script.{Script}
use Rattle.xs_model.specs.Counts.{is_event_on}
use Rattle.xs_model.specs.Laws.{AreElsewhere}
use Rattle.xs_board.specs.Board.{Board, past_of}
use Rattle.xs_board.specs.Follows.{Follows, Next}

pub follows_same : (c : ℕ) (board : Board) → Follows c board board
follows_same c board = record {
  script = refl;
  newer = [];
  past = refl;
  elsewhere = tt;
  turn = refl;
  in_turn = λ t ran is. record { stage = is; task = refl; section = refl };
  parked = λ t is. record { last_is = is; task = refl };
}

-- newer events after some that are elsewhere too
elsewhere_both : (script : Script) (newer older past : List Event) (c : ℕ) → AreElsewhere script newer (older ++ past) c → AreElsewhere script older past c → AreElsewhere script (newer ++ older) past c
elsewhere_both script [] older past c new old = old
elsewhere_both script (event ∷ newer) older past c new old =
    (elsewhere_both script newer older past c new.0 old, ap (λ (all : List Event). is_event_on script all event c) (append_assoc newer older past) ∙ new.1)

pub follows_then : (c : ℕ) (x y z : Board) → Follows c x y → Follows c y z → Follows c x z
follows_then c x y z f g = record {
  script = g.script ∙ f.script;
  newer = g.newer ++ f.newer;
  past = g.past ∙ (ap (λ (older : List Event). g.newer ++ older) f.past ∙ sym (append_assoc g.newer f.newer (past_of x)));
  elsewhere = elsewhere_both x.script g.newer f.newer (past_of x) c (subst (λ (s : Script × List Event). AreElsewhere s.0 g.newer s.1 c) (λ i. (f.script i, f.past i)) g.elsewhere) f.elsewhere;
  turn = g.turn ∙ f.turn;
  in_turn = λ t ran is. let a = f.in_turn t ran is in let b = g.in_turn t ran a.stage in record { stage = b.stage; task = b.task ∙ a.task; section = b.section ∙ a.section };
  parked = λ t is. let b = g.parked t is in let a = f.parked t b.last_is in record { last_is = a.last_is; task = b.task ∙ a.task };
}

pub follows_next : (c d : ℕ) (x y z : Board) → Follows c x y → Next d y z → d ≢ c → Follows c x z
follows_next c d x y z f next other = follows_then c x y z f (next c other)
