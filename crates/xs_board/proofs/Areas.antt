-- The areas of the pool before and after a turn.
use Rattle.std.proofs.Common.{◌≡◌, ℕ, ◌+◌, ◌-◌, ◌<◌, ◌≤◌, ◌^◌, Bool, true, false, not, ◌&&◌, List, length, refl, sym, ap, ◌∙◌, subst, arith, inl, inr}
use Rattle.std.proofs.lemmas.List.{length-reverse}
use Rattle.std.proofs.lemmas.Bool.{cases_Bool, cases_eq, false_from_ne_true}
use Rattle.std.proofs.lemmas.Option.{same_Some}
use Rattle.std.specs.Prelude.{◌⊎◌, Option, Some, None, if◌then◌else◌}
use Rattle.xs_area.specs.declared.area.Lease.{Lease}
use Rattle.xs_base.specs.declared.class.Class.{Class}
use Rattle.xs_base.specs.declared.class.Class.TheVariants.{Small, Large}
use Rattle.xs_base.specs.Task.{PrivateTask}
use Rattle.xs_model.specs.declared.event.Why.{Why}
use Rattle.xs_model.specs.declared.script.Script.{Script}
use Rattle.xs_model.specs.declared.stage.Stage.{Stage}
use Rattle.xs_model.specs.declared.stage.Stage.TheVariants.{Unborn, Ready, Turn, Stopped, Waiting, Ended}
use Rattle.xs_model.specs.Bound.{most_events}
use Rattle.xs_model.specs.Due.{large_count}
use Rattle.xs_model.specs.Machine.{machine}
use Rattle.xs_model.specs.Ready.{one_if}
use Rattle.xs_model.specs.Script.{is_user}
use Rattle.xs_model.specs.State.{BlockState, lives, stage_at, stage_of}
use Rattle.xs_pool.specs.Pool.{Pool, leased, returned}
use Rattle.xs_board.specs.declared.turn.Entry.{Entry}
use Rattle.xs_board.specs.declared.turn.Close.{Close}
use Rattle.xs_board.specs.declared.turn.Close.TheVariants.{Quantum, Yield, Outer, Refused, Trap, End}
use Rattle.xs_board.specs.Board.{Board, IsBoard, areas, holds_area, machine_in, one, past_of, private_with, tally}
use Rattle.xs_board.specs.Laws.{Laws}
use Rattle.xs_board.specs.Putting.{ends, kills, pool_after, pool_without}
use Rattle.xs_board.specs.Trapping.{IfTrap, pool_settled}
use Rattle.xs_board.proofs.Blocks.{tally_same}
use Rattle.xs_board.proofs.Committing.{MayCommit, answer, closing, comes, later, leaves}
use Rattle.xs_board.proofs.Large.{HaveRoom, large_fewer}
use Rattle.xs_board.proofs.Leaving.{CountsLarge, CountsTrap}
use Rattle.xs_board.proofs.Left.{HasLeft}
use Rattle.xs_board.proofs.Seen.{area_tally, now}
use Rattle.xs_board.proofs.Turning.{Closes}

-- ---- areas that are out

-- there are numbers left for areas
pub few_given : Laws → (board : Board) → IsBoard board → board.pool.given < 2 ^ 64 - 1
few_given laws board is =
    let given = is.pool.given in
    let blocks = is.valid.few in
    let past = laws.few board.script (past_of board) is.valid is.legal in
    let same : length (past_of board) ≡ length board.history = length-reverse board.history in
    let bound = is.valid.events in
    by_bound (most_events board.script) bound (omega (arith, past, same)) given blocks
  where
    by_bound : (most : ℕ) → most ≤ 1048576 → length board.history ≤ most → board.pool.given ≤ length board.script.blocks + length board.history → length board.script.blocks ≤ 64 → board.pool.given < 2 ^ 64 - 1
    by_bound most bound history given blocks = omega (arith, bound, history, given, blocks)

module _ (laws : Laws) (old : Board) (t cpu : ℕ) (entries : List Entry) (close : Close) (may : MayCommit old t cpu entries close) where
  abbrev script : Script
  script = old.script

  abbrev private : PrivateTask
  private = private_with old t entries

  abbrev blocks : List BlockState
  blocks = closing laws old t cpu entries close may

  pub left : HasLeft script (past_of old) (later laws old t cpu entries close may) t cpu close (answer laws old t cpu entries close may) private blocks
  left = leaves laws old t cpu entries close may

  abbrev has_area : ℕ → Stage → Bool
  has_area u stage = is_user script u && holds_area stage

  -- a block that lives has its area
  lives_holds : (s : Stage) → lives s ≡ true → holds_area s ≡ true
  lives_holds Unborn alive = refl
  lives_holds Ready alive = refl
  lives_holds (Turn cpu ran) alive = refl
  lives_holds Stopped alive = refl
  lives_holds (Waiting child) alive = refl
  lives_holds Ended alive = absurd (cc alive)

  -- as many have one at the close as before the turn
  same_areas : tally has_area 0 blocks ≡ areas old
  same_areas =
      let many = left.count in
      let known = (laws.machine script (past_of old)).2 in
      tally_same has_area 0 (machine_in old).blocks blocks (omega (arith, many, known)) (λ u n. elim (cases_eq u t) [
        | inl same ↦
            ap (λ (v : ℕ). has_area n (stage_at blocks v)) same
            ∙ ap (λ (b : Option BlockState). has_area n (stage_of b)) left.here
            ∙ ap (has_area n) left.turn
            ∙ sym (ap (λ (v : ℕ). has_area n (stage_at (machine_in old).blocks v)) same ∙ ap (has_area n) may.turn)
        | inr other ↦ ap (λ (b : Option BlockState). has_area n (stage_of b)) (left.same u other)
      ])

  -- as many blocks have room for TILEDATA
  same_large : large_count blocks ≡ old.pool.large.out
  same_large = (comes laws old t cpu entries close may).gone.large ∙ sym may.is_board.pool.large

  -- where a user task in its turn has none, a Small area is out
  pub some_small : is_user script t ≡ true → (left.state).task.large ≡ false → old.pool.small.out ≡ 0 → ⊥
  some_small user small none =
      let fewer = large_fewer has_area 0 t t blocks left.state have_room left.here (omega arith) small (ap (has_area t) left.turn ∙ ap (λ (u : Bool). u && true) user) in
      let all = may.is_board.pool.all in
      omega (arith, fewer, all, same_areas, same_large, none)
    where
      have_room : HaveRoom has_area 0 blocks
      have_room u block at large alive =
          let known = laws.large_known script (comes laws old t cpu entries close may).mid u block may.is_board.valid (comes laws old t cpu entries close may).turning.legal at large in
          let number : 0 + u ≡ u = omega arith in
          ap (λ (n : ℕ). has_area n block.stage) number ∙ ap (λ (b : Bool). b && holds_area block.stage) known.0 ∙ lives_holds block.stage alive

  -- ---- the close

  -- its task is that of the block, where a line traps or the turn ends it
  abbrev fate : Option Why
  fate = (answer laws old t cpu entries close may).fate

  pub close_task : (ends close fate ≡ true) ⊎ (close ≡ Trap) → private ≡ (left.state).task
  close_task test =
      let come = comes laws old t cpu entries close may in
      by_close close come.closes test ∙ ap (λ (b : BlockState). b.task) (same_Some come.block left.state (sym come.turning.turn.state ∙ left.here))
    where
      by_close : (c : Close) → Closes script t (comes laws old t cpu entries close may).ran (comes laws old t cpu entries close may).lines (answer laws old t cpu entries close may) (comes laws old t cpu entries close may).event (comes laws old t cpu entries close may).block.task private c → (ends c fate ≡ true) ⊎ (c ≡ Trap) → private ≡ (comes laws old t cpu entries close may).block.task
      by_close Quantum closes (inl is) = absurd (cc is)
      by_close Quantum closes (inr is) = absurd (cc is)
      by_close Yield closes (inl is) = absurd (cc is)
      by_close Yield closes (inr is) = absurd (cc is)
      by_close (Outer line) closes (inl is) = absurd (cc is)
      by_close (Outer line) closes (inr is) = absurd (cc is)
      by_close (Refused error) closes is = closes.1
      by_close Trap closes is = closes.task_is
      by_close End closes is = closes.1

  -- a task with room has a Large area out, where it ends
  pub some_large : ends close fate ≡ true → private.large ≡ true → old.pool.large.out ≡ 0 → ⊥
  some_large is large none =
      let counted = by_close close is left.large in
      let one_more : one_if private.large ≡ 1 = ap one_if large in
      let before = may.is_board.pool.large in
      omega (arith, counted, one_more, before, none)
    where
      by_fate : (f : Option Why) → kills f ≡ true → (before after : ℕ) → CountsTrap f private.large before after → after + one_if private.large ≡ before
      by_fate None is before after counts = absurd (cc is)
      by_fate (Some why) is before after counts = counts

      by_close : (c : Close) → ends c fate ≡ true → CountsLarge c fate private.large (large_count (machine_in old).blocks) (large_count (machine script (later laws old t cpu entries close may)).blocks) → large_count (machine script (later laws old t cpu entries close may)).blocks + one_if private.large ≡ large_count (machine_in old).blocks
      by_close Quantum is counts = absurd (cc is)
      by_close Yield is counts = absurd (cc is)
      by_close (Outer line) is counts = absurd (cc is)
      by_close (Refused error) is counts = counts
      by_close Trap is counts = by_fate fate is _ _ counts
      by_close End is counts = counts

-- ---- the pool after the close

-- It has so many Large areas out, and so many in all.
pub record HasOut (pool : Pool) (large all : ℕ) : Type 0 where
  pub large_is : pool.large.out ≡ large
  pub all_is : pool.small.out + pool.large.out ≡ all

-- where a task grew
pub grew_out : (pool : Pool) (large all large_now all_now : ℕ) → HasOut pool large all → (pool.small.out ≡ 0 → ⊥) → large_now ≡ large + 1 → all_now ≡ all → HasOut (returned (leased pool Large) Small) large_now all_now
grew_out pool large all large_now all_now has some more same =
    let before = has.large_is in
    let sum = has.all_is in
    record { large_is = omega (arith, before, more); all_is = omega (arith, sum, some, same) }

-- where a task has ended, whose area comes back
pub ended_out : (user room : Bool) (lease : Option Lease) (pool : Pool) (large all large_now all_now : ℕ) → HasOut pool large all → large_now + one_if room ≡ large → all_now + one (user && true) ≡ all + one (user && false) → (lease ≡ None → user ≡ false) → (user ≡ false → room ≡ false)
    → ((l : Lease) → lease ≡ Some l → (user ≡ true) × (l.class ≡ (if room then Large else Small))) → (user ≡ true → room ≡ false → pool.small.out ≡ 0 → ⊥) → HasOut (pool_without lease pool) large_now all_now
ended_out user room None pool large all large_now all_now has fewer sum none thread some small =
    let off : user ≡ false = none refl in
    let was : one (user && true) ≡ 0 = ap (λ (u : Bool). one (u && true)) off in
    let is : one (user && false) ≡ 0 = ap (λ (u : Bool). one (u && false)) off in
    let same : one_if room ≡ 0 = ap one_if (thread off) in
    let before = has.large_is in
    let parts = has.all_is in
    record { large_is = omega (arith, before, fewer, same); all_is = omega (arith, parts, sum, was, is) }
ended_out user room (Some lease) pool large all large_now all_now has fewer sum none thread some small =
    let known = some lease refl in
    let was : one (user && true) ≡ 1 = ap (λ (u : Bool). one (u && true)) known.0 in
    let is : one (user && false) ≡ 0 = ap (λ (u : Bool). one (u && false)) known.0 in
    let before = has.large_is in
    let parts = has.all_is in
    subst (λ (class : Class). HasOut (returned pool class) large_now all_now) (sym known.1) (elim (cases_Bool room) [
      | inl on ↦
          let one_fewer : one_if room ≡ 1 = ap one_if on in
          subst (λ (r : Bool). HasOut (returned pool (if r then Large else Small)) large_now all_now) (sym on)
          (record { large_is = omega (arith, before, fewer, one_fewer); all_is = omega (arith, before, parts, sum, was, is, fewer, one_fewer) })
      | inr off ↦
          let same : one_if room ≡ 0 = ap one_if off in
          let out = small known.0 off in
          subst (λ (r : Bool). HasOut (returned pool (if r then Large else Small)) large_now all_now) (sym off)
          (record { large_is = omega (arith, before, fewer, same); all_is = omega (arith, before, parts, sum, was, is, fewer, same, out) })
    ])

-- what stays of a pool to which an area comes back
pub record Stays (before after : Pool) : Type 0 where
  pub rows : after.rows ≡ before.rows
  pub capacity : after.large.capacity ≡ before.large.capacity
  pub given : after.given ≡ before.given

returned_stays : (pool : Pool) (class : Class) → Stays pool (returned pool class)
returned_stays pool Small = record { rows = refl; capacity = refl; given = refl }
returned_stays pool Large = record { rows = refl; capacity = refl; given = refl }

pub after_stays : (end : Bool) (lease : Option Lease) (pool : Pool) → Stays pool (pool_after end lease pool)
after_stays true None pool = record { rows = refl; capacity = refl; given = refl }
after_stays true (Some lease) pool = returned_stays pool lease.class
after_stays false lease pool = record { rows = refl; capacity = refl; given = refl }

module _ (laws : Laws) (old : Board) (t cpu : ℕ) (entries : List Entry) (close : Close) (may : MayCommit old t cpu entries close) where
  -- what ends without being a user task has no room for TILEDATA
  thread_small : ends close (fate laws old t cpu entries close may) ≡ true → is_user old.script t ≡ false → (private_with old t entries).large ≡ false
  thread_small is thread =
      let state = (left laws old t cpu entries close may).state in
      let come = comes laws old t cpu entries close may in
      false_from_ne_true (private_with old t entries).large (λ (large : (private_with old t entries).large ≡ true).
      let mine : state.task.large ≡ true = sym (ap (λ (p : PrivateTask). p.large) (close_task laws old t cpu entries close may (inl is))) ∙ large in
      let user = (laws.large_known old.script come.mid t state may.is_board.valid come.turning.legal (left laws old t cpu entries close may).here mine).0 in
      cc (user, thread))

  module _ (lease : Option Lease) (pool : Pool) (settled : IfTrap close (pool ≡ pool_settled (fate laws old t cpu entries close may) old.pool) (pool ≡ old.pool)) (none : ends close (fate laws old t cpu entries close may) ≡ true → lease ≡ None → is_user old.script t ≡ false) (some : ends close (fate laws old t cpu entries close may) ≡ true → (l : Lease) → lease ≡ Some l → (is_user old.script t ≡ true) × (l.class ≡ (if (private_with old t entries).large then Large else Small))) where
    abbrev killed : Option Why
    killed = fate laws old t cpu entries close may

    abbrev user : Bool
    user = is_user old.script t

    abbrev room : Bool
    room = (private_with old t entries).large

    abbrev before_large : ℕ
    before_large = large_count (machine_in old).blocks

    abbrev now_large : ℕ
    now_large = large_count (now laws old t cpu entries close may)

    abbrev now_areas : ℕ
    now_areas = tally (has_area laws old t cpu entries close may) 0 (now laws old t cpu entries close may)

    was_out : HasOut old.pool before_large (areas old)
    was_out = record { large_is = may.is_board.pool.large; all_is = may.is_board.pool.all }

    -- the block goes on as it was
    kept_out : pool ≡ old.pool → now_large ≡ before_large → now_areas + one (user && true) ≡ areas old + one (user && true) → HasOut pool now_large now_areas
    kept_out same counts sum =
        let large = was_out.large_is in
        let all = was_out.all_is in
        subst (λ (p : Pool). HasOut p now_large now_areas) (sym same) (record { large_is = omega (arith, large, counts); all_is = omega (arith, all, sum) })

    -- it has ended
    lost_out : ends close killed ≡ true → pool ≡ old.pool → now_large + one_if room ≡ before_large → now_areas + one (user && true) ≡ areas old + one (user && false) → HasOut (pool_without lease pool) now_large now_areas
    lost_out is same counts sum =
        subst (λ (p : Pool). HasOut (pool_without lease p) now_large now_areas) (sym same)
        (ended_out user room lease old.pool before_large (areas old) now_large now_areas was_out counts sum (none is) (thread_small is) (some is)
        (λ on small. some_small laws old t cpu entries close may on (sym (ap (λ (p : PrivateTask). p.large) (close_task laws old t cpu entries close may (inl is))) ∙ small)))

    -- its line trapped
    trap_out : close ≡ Trap → (f : Option Why) → killed ≡ f → pool ≡ pool_settled f old.pool → CountsTrap f room before_large now_large → now_areas + one (user && true) ≡ areas old + one (user && not (kills f)) → HasOut (pool_after (kills f) lease pool) now_large now_areas
    trap_out trap None grows same counts sum =
        let trapped = (left laws old t cpu entries close may).trapped trap in
        let task = close_task laws old t cpu entries close may (inr trap) in
        subst (λ (p : Pool). HasOut p now_large now_areas) (sym same)
        (grew_out old.pool before_large (areas old) now_large now_areas was_out (some_small laws old t cpu entries close may trapped.0 (sym (ap (λ (p : PrivateTask). p.large) task) ∙ trapped.1)) counts (omega (arith, sum)))
    trap_out trap (Some why) kills_it same counts sum = lost_out (ap (λ (c : Close). ends c killed) trap ∙ ap kills kills_it) same counts sum

    -- the areas that are out are those that the history tells
    pub back_out : HasOut (pool_after (ends close killed) lease pool) now_large now_areas
    back_out = by_close close refl settled (left laws old t cpu entries close may).large (area_tally laws old t cpu entries close may)
      where
        by_close : (c : Close) → close ≡ c → IfTrap c (pool ≡ pool_settled killed old.pool) (pool ≡ old.pool) → CountsLarge c killed room before_large now_large → now_areas + one (user && true) ≡ areas old + one (user && not (ends c killed)) → HasOut (pool_after (ends c killed) lease pool) now_large now_areas
        by_close Quantum is same counts sum = kept_out same counts sum
        by_close Yield is same counts sum = kept_out same counts sum
        by_close (Outer line) is same counts sum = kept_out same counts sum
        by_close (Refused error) is same counts sum = lost_out (ap (λ (c : Close). ends c killed) is) same counts sum
        by_close Trap is same counts sum = trap_out is killed refl same counts sum
        by_close End is same counts sum = lost_out (ap (λ (c : Close). ends c killed) is) same counts sum
