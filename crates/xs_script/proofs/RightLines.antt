-- Lines with which nothing is wrong, by what the lines before them tell.
use Rattle.std.proofs.Common.{◌≡◌, ℕ, Bool, true, false, ◌&&◌, List, [], ◌∷◌, ◌++◌, refl, sym, ap, subst}
use Rattle.std.proofs.lemmas.List.{append-nil}
use Rattle.xs_model.specs.declared.script.Command.{Command}
use Rattle.xs_model.specs.declared.script.Command.TheVariants as commands
use Rattle.xs_model.specs.Names.{forked_name}
use Rattle.xs_model.specs.Script.{AreDistinct, is_outer}
use Rattle.xs_script.specs.declared.commands.Scope.{Scope}
use Rattle.xs_script.specs.declared.line.Line.{Line}
use Rattle.xs_script.specs.declared.line.Line.TheVariants as lines
use Rattle.xs_script.specs.Before.{in_handler, in_handler_after, fork_of_line, earlier_with, earlier_after, forks_child, awaits_child, Before, before_of}
use Rattle.xs_script.specs.Refusal.{is_among, is_outer_line, AreOutside, ReachesOwn, LineReachesOwn, AreReaching, IsKnown, IsKnownCommand, AreKnown}
use Rattle.xs_script.proofs.BodyLines.{all_push, distinct_push}
use Rattle.xs_script.proofs.Children.{forks_push}

-- The line is known, forks no child again, is no outer command in a handler, and reaches no child but its body's own.
pub record IsRightLine (scope : Scope) (before : Before) (l : Line) : Type 0 where
  pub known : IsKnown scope l
  pub once : AreDistinct before.forked → AreDistinct (before.forked ++ fork_of_line l)
  pub outside : (before.inside && is_outer_line l) ≡ false
  pub reaches : LineReachesOwn before.own before.awaited l

pub and_false : (b : Bool) → (b && false) ≡ false
and_false true = refl
and_false false = refl

-- what forks no child leaves those that were forked
same_names : (forked names : List (List ℕ)) → names ≡ [] → AreDistinct forked → AreDistinct (forked ++ names)
same_names forked names none d = rw none (subst AreDistinct (sym (append-nil forked)) d)

-- a line that is no outer command
pub local_right : (scope : Scope) (before : Before) (l : Line) → IsKnown scope l → fork_of_line l ≡ [] → is_outer_line l ≡ false → LineReachesOwn before.own before.awaited l → IsRightLine scope before l
local_right scope before l known none local reaches = record {
  known = known;
  once = same_names before.forked (fork_of_line l) none;
  outside = rw local (and_false before.inside);
  reaches = reaches;
}

-- an outer command that forks none, outside of handlers
pub outer_right : (scope : Scope) (before : Before) (command : Command) → IsKnownCommand scope command → forked_name command ≡ [] → before.inside ≡ false → ReachesOwn before.own before.awaited command → IsRightLine scope before (lines.Order command)
outer_right scope before command known none out reaches = record {
  known = known;
  once = same_names before.forked (forked_name command) none;
  outside = ap (λ (t : Bool). t && is_outer command) out;
  reaches = reaches;
}

-- a fork
pub fork_right : (scope : Scope) (before : Before) (name : List ℕ) → is_among name scope.children ≡ true → is_among name before.forked ≡ false → before.inside ≡ false → IsRightLine scope before (lines.Order (commands.Fork name))
fork_right scope before name child new out = record {
  known = (tt, child);
  once = λ d. distinct_push before.forked name d new;
  outside = ap (λ (t : Bool). t && true) out;
  reaches = tt;
}

-- ---- one line more

pub earlier_push : (earlier : List Command) (ls : List Line) (l : Line) → earlier_after earlier (ls ++ l ∷ []) ≡ earlier_with (earlier_after earlier ls) l
earlier_push earlier [] l = refl
earlier_push earlier (x ∷ ls) l = earlier_push (earlier_with earlier x) ls l

outside_push : (inside : Bool) (ls : List Line) (l : Line) → AreOutside inside ls → (in_handler_after inside ls && is_outer_line l) ≡ false → AreOutside inside (ls ++ l ∷ [])
outside_push inside [] l out here = (here, tt)
outside_push inside (x ∷ ls) l out here = (out.0, outside_push (in_handler inside x) ls l out.1 here)

reaching_push : (earlier : List Command) (ls : List Line) (l : Line) → AreReaching earlier ls → LineReachesOwn (forks_child (earlier_after earlier ls)) (awaits_child (earlier_after earlier ls)) l → AreReaching earlier (ls ++ l ∷ [])
reaching_push earlier [] l reaching here = (here, tt)
reaching_push earlier (x ∷ ls) l reaching here = (reaching.0, reaching_push (earlier_with earlier x) ls l reaching.1 here)

-- Lines with which nothing is wrong, and one more of them.
pub known_push : (scope : Scope) (done : List Line) (l : Line) → AreKnown scope done → IsRightLine scope (before_of done) l → AreKnown scope (done ++ l ∷ [])
known_push scope done l h right = record {
  each = all_push (IsKnown scope) done l h.each right.known;
  once = subst AreDistinct (sym (forks_push done l)) (right.once h.once);
  outside = outside_push false done l h.outside right.outside;
  reaching = reaching_push [] done l h.reaching right.reaches;
}
