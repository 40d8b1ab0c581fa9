-- What the code settles of a line that traps is what the private machine tells.
use Rattle.std.proofs.Common.{◌≡◌, ℕ, ◌+◌, ◌<◌, ◌≤◌, List, [], ◌∷◌, ◌++◌, length, map, refl, sym, ap, subst, arith}
use Rattle.std.specs.Prelude.{Option, None}
use Rattle.xs_base.specs.Task.{PrivateTask}
use Rattle.xs_model.specs.declared.event.Event.{Event}
use Rattle.xs_model.specs.declared.event.Event.TheVariants as events
use Rattle.xs_model.specs.declared.event.Reply.{Reply}
use Rattle.xs_model.specs.declared.event.Why.{Why}
use Rattle.xs_model.specs.declared.script.Script.{Script}
use Rattle.xs_model.specs.Script.{is_user}
use Rattle.xs_pool.specs.Pool.{Pool}
use Rattle.xs_task.specs.declared.task.Task.{Task}
use Rattle.xs_board.specs.declared.turn.Entry.{Entry}
use Rattle.xs_board.specs.declared.turn.Close.{Close}
use Rattle.xs_board.specs.declared.turn.Close.TheVariants.{Quantum, Yield, Outer, Refused, Trap, End}
use Rattle.xs_board.specs.Board.{Board, machine_in, private_after}
use Rattle.xs_board.specs.Deed.{IsDoneBy, deed_by}
use Rattle.xs_board.specs.Home.{IsHome}
use Rattle.xs_board.specs.Laws.{Laws}
use Rattle.xs_board.specs.Member.{Member, AreMembers}
use Rattle.xs_board.specs.Putting.{ends, kills}
use Rattle.xs_board.specs.Trapping.{IfTrap, WasSettled}
use Rattle.xs_board.specs.Turn.{Answer, AreLines, close_command, close_events, entry_event, trap_end, turn_events}
use Rattle.xs_board.proofs.Committing.{MayCommit, answer, turn_fits}
use Rattle.xs_board.proofs.Returning.{Settles, fate_known}

-- a turn has an event
pub some_events : (script : Script) (t : ℕ) (entries : List Entry) (close : Close) (said : Answer) (task : PrivateTask) (ran : ℕ) → AreLines script t task ran entries close → 0 < length (turn_events t entries close said)
some_events script t [] Quantum said task ran lines = absurd lines
some_events script t [] Yield said task ran lines = absurd lines
some_events script t [] (Outer line) said task ran lines = omega arith
some_events script t [] (Refused error) said task ran lines = omega arith
some_events script t [] Trap said task ran lines = omega arith
some_events script t [] End said task ran lines = omega arith
some_events script t (entry ∷ entries) close said task ran lines = omega arith

module _ (laws : Laws) (old : Board) (t cpu : ℕ) (entries : List Entry) (close : Close) (may : MayCommit old t cpu entries close) (task : Task) (home : IsHome (is_user old.script t) old.script.layout task (private_after old t entries close)) (members : List Member) (each : length members ≡ length old.script.blocks) (are_past : AreMembers (machine_in old).blocks members) (tasks : List (Option Task)) (after : Task) (done : IsDoneBy old.script.layout members t (deed_by old.script (close_command old.script t close)) (answer laws old t cpu entries close may).reply old.home tasks task after) where
  abbrev script : Script
  script = old.script

  abbrev answered : Answer
  answered = answer laws old t cpu entries close may

  module _ (fate : Option Why) (pool : Pool) (settled : Task) (was_settled : IfTrap close (WasSettled old.script.layout fate old.pool pool after settled) ((fate ≡ None) × (pool ≡ old.pool) × (settled ≡ after))) where
    -- what becomes of a task whose line traps
    fate_same : close ≡ Trap → fate ≡ answered.fate
    fate_same trap = fate_known laws old t cpu entries close may task home members each are_past tasks after done fate pool settled (of_trap close was_settled trap) trap
      where
        of_trap : (c : Close) → IfTrap c (WasSettled script.layout fate old.pool pool after settled) ((fate ≡ None) × (pool ≡ old.pool) × (settled ≡ after)) → c ≡ Trap → WasSettled script.layout fate old.pool pool after settled
        of_trap Quantum is trap = absurd (cc trap)
        of_trap Yield is trap = absurd (cc trap)
        of_trap (Outer line) is trap = absurd (cc trap)
        of_trap (Refused error) is trap = absurd (cc trap)
        of_trap Trap is trap = is
        of_trap End is trap = absurd (cc trap)

    pub settles : Settles close script.layout answered.fate old.pool pool after settled
    settles = by_close close was_settled fate_same
      where
        by_close : (c : Close) → IfTrap c (WasSettled script.layout fate old.pool pool after settled) ((fate ≡ None) × (pool ≡ old.pool) × (settled ≡ after)) → (c ≡ Trap → fate ≡ answered.fate) → Settles c script.layout answered.fate old.pool pool after settled
        by_close Quantum is same = (is.1, is.2)
        by_close Yield is same = (is.1, is.2)
        by_close (Outer line) is same = (is.1, is.2)
        by_close (Refused error) is same = (is.1, is.2)
        by_close Trap is same = subst (λ (f : Option Why). WasSettled script.layout f old.pool pool after settled) (same refl) is
        by_close End is same = (is.1, is.2)

    -- whether its turn ends it
    pub ends_is : ends close fate ≡ ends close answered.fate
    ends_is = by_close close fate_same
      where
        by_close : (c : Close) → (c ≡ Trap → fate ≡ answered.fate) → ends c fate ≡ ends c answered.fate
        by_close Quantum same = refl
        by_close Yield same = refl
        by_close (Outer line) same = refl
        by_close (Refused error) same = refl
        by_close Trap same = ap kills (same refl)
        by_close End same = refl

    -- the events of the turn
    pub events_are : (reply : Reply) → reply ≡ answered.reply → turn_events t entries close (record { reply = reply; fate = fate }) ≡ turn_events t entries close answered
    events_are reply reply_is = ap (λ (list : List Event). map (entry_event t) entries ++ list) (by_close close fate_same)
      where
        by_close : (c : Close) → (c ≡ Trap → fate ≡ answered.fate) → close_events t c (record { reply = reply; fate = fate }) ≡ close_events t c answered
        by_close Quantum same = refl
        by_close Yield same = refl
        by_close (Outer line) same = ap (λ (r : Reply). events.Outer t line r ∷ []) reply_is
        by_close (Refused error) same = refl
        by_close Trap same = ap (λ (f : Option Why). trap_end t f ∷ []) (same refl)
        by_close End same = refl

    pub events_fit : (reply : Reply) → reply ≡ answered.reply → length old.history + length (turn_events t entries close (record { reply = reply; fate = fate })) ≤ old.room
    events_fit reply reply_is = subst (λ (all : List Event). length old.history + length all ≤ old.room) (sym (events_are reply reply_is)) (turn_fits laws old t cpu entries close may)
