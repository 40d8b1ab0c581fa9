-- The board with the task again, or without it where it has ended.
use Rattle.std.proofs.Common.{◌≡◌, Bool, ℕ, ◌+◌, ◌<◌, ◌≤◌, ◌^◌, List, ◌++◌, length, reverse, refl, sym, ap, ◌∙◌, subst, arith, length-append}
use Rattle.std.specs.Prelude.{Option, IfSome, vec_capacity}
use Rattle.std.specs.VecDeque.{deque_capacity}
use Rattle.xs_model.specs.declared.event.Event.{Event}
use Rattle.xs_model.specs.declared.event.Reply.{Reply}
use Rattle.xs_model.specs.declared.stage.Stage.TheVariants as stages
use Rattle.xs_model.specs.Laws.{KeepsBlock}
use Rattle.xs_model.specs.Machine.{machine, IsLegalPast}
use Rattle.xs_model.specs.Replay.{runner}
use Rattle.xs_model.specs.Script.{is_user}
use Rattle.xs_model.specs.State.{stage_at, task_at}
use Rattle.xs_task.specs.declared.task.Task.{Task}
use Rattle.xs_board.specs.declared.deed.Deed.{Deed}
use Rattle.xs_board.specs.declared.turn.Entry.{Entry}
use Rattle.xs_board.specs.declared.turn.Close.{Close}
use Rattle.xs_board.specs.Board.{Board, answer_in, machine_in, IsBoard, IsKeptBeside, past_of, stage_in, private_in, private_after, private_closed}
use Rattle.xs_board.specs.Deed.{CanDo, IfDeed, IsDoneBy, deed_by, living_born, members_by, named_in, newborn, ready_by}
use Rattle.xs_board.specs.Home.{IsHome}
use Rattle.xs_board.specs.Laws.{Laws}
use Rattle.xs_board.specs.Member.{Member, AreMembers, member_at}
use Rattle.xs_board.specs.Putting.{AreLeft, at_outer, ends, home_after, living_after, moved_on, moves_on, pool_after, ready_after}
use Rattle.xs_board.specs.Trapping.{CanTrap, IfTrap}
use Rattle.xs_board.specs.Turn.{Answer, AreLines, body_command, close_command, stage_closed, turn_events}
use Rattle.xs_board.proofs.Again.{beside_back, board_back, done_length}
use Rattle.xs_board.proofs.Giving.{area_is_long, area_is_out, lives_then, members_length, place_then}
use Rattle.xs_board.proofs.Asked.{deed_can, deed_found, deed_named, deed_room, few_live, put_room}
use Rattle.xs_board.proofs.Committing.{MayCommit, later, leaves, turn_in_range, turn_replays}
use Rattle.xs_board.proofs.Following.{turn_next, turn_within}
use Rattle.xs_board.proofs.Kept.{performed}
use Rattle.xs_board.proofs.Moving.{reverse_onto_past}
use Rattle.xs_board.proofs.Returning.{Settles, after_is, can_trap, reply_known, settled_name, settled_place}
use Rattle.xs_board.proofs.Settling.{ends_is, events_are, events_fit, settles, some_events}
use Rattle.xs_board.proofs.Seen.{back_free, back_private, back_stage, back_turns}
use Rattle.xs_board.proofs.board.Board.commit.Goals as goal

-- What the calls of `commit` rest on.
module _ (laws : Laws) (board : Board) (task : Task) (cpu : ℕ) (entries : List Entry) (close : Close) (is_board : IsBoard board) (turn : stage_in board task.name ≡ stages.Turn cpu 0) (lines : AreLines board.script task.name (private_in board task.name) 0 entries close) (home : IsHome (is_user board.script task.name) board.script.layout task (private_after board task.name entries close)) (list : List ℕ) (capacity count : ℕ) (members : List Member) (kept : IsKeptBeside board list capacity count members) where
  abbrev t : ℕ
  t = task.name

  may : MayCommit board t cpu entries close
  may = record { is_board = is_board; turn = turn; lines = lines }

  -- the deed of the close
  abbrev deed : Option Deed
  deed = deed_by board.script (close_command board.script t close)

  -- the code finds it
  found : (code : Option Deed) → code ≡ at_outer close (deed_by board.script (body_command board.script t task.place)) → code ≡ deed
  found code is = is ∙ deed_found laws board t cpu entries close may task home members kept.member

  can : (code : Option Deed) → code ≡ deed → IfDeed code (CanDo board.script.layout board.home members task)
  can code is = subst (λ (d : Option Deed). IfDeed d (CanDo board.script.layout board.home members task)) (sym is) (deed_can laws board t cpu entries close may task home members kept.member)

  named : (code : Option Deed) → code ≡ deed → IfDeed code (λ d. IfSome (named_in d) (λ u. (u < length members) × (u < length board.home)))
  named code is = subst (λ (o : Option Deed). IfDeed o (λ d. IfSome (named_in d) (λ u. (u < length members) × (u < length board.home)))) (sym is) (deed_named laws board t cpu entries close may members kept.each)

  room : (code : Option Deed) → code ≡ deed → length list + length (ready_by t code members) ≤ capacity
  room code is = subst (λ (d : Option Deed). length list + length (ready_by t d members) ≤ capacity) (sym is) (deed_room laws board t cpu entries close may list capacity count members kept)

  few : count + 1 < 2 ^ 32
  few = few_live laws board t cpu entries close may list capacity count members kept

  own : t < length members
  own = let known = turn_in_range laws board t cpu is_board turn in let each = kept.each in omega (arith, known, each)

  -- what the machine answers
  abbrev answered : Answer
  answered = answer_in board t entries close

  module _ (code : Option Deed) (code_is : code ≡ deed) (reply : Reply) (tasks : List (Option Task)) (after : Task) (done : IsDoneBy board.script.layout members t code reply board.home tasks task after) where
    reply_is : reply ≡ answered.reply
    reply_is = reply_known laws board t cpu entries close may task home members kept.each kept.member tasks after reply (subst (λ (d : Option Deed). IsDoneBy board.script.layout members t d reply board.home tasks task after) code_is done)

    done_is : IsDoneBy board.script.layout members t deed answered.reply board.home tasks task after
    done_is =
        subst (λ (r : Reply). IsDoneBy board.script.layout members t deed r board.home tasks task after) reply_is
        (subst (λ (d : Option Deed). IsDoneBy board.script.layout members t d reply board.home tasks task after) code_is done)

    after_same : after ≡ record task { buffer = after.buffer }
    after_same = after_is laws board t cpu entries close may task home members each_is are_is tasks after done_is
      where
        each_is : length members ≡ length board.script.blocks
        each_is = kept.each

        are_is : AreMembers (machine_in board).blocks members
        are_is = kept.member

    trapping : IfTrap close (CanTrap board.script.layout board.pool after) (Unit {0})
    trapping = can_trap laws board t cpu entries close may task home members each_is are_is tasks after done_is
      where
        each_is : length members ≡ length board.script.blocks
        each_is = kept.each

        are_is : AreMembers (machine_in board).blocks members
        are_is = kept.member

    -- what is put back
    module _ (members_now : List Member) (members_are : members_now ≡ members_by t code members) where
      performed_is : members_now ≡ performed board.script t members close
      performed_is = members_are ∙ ap (λ (d : Option Deed). members_by t d members) code_is

      many_now : length members_now ≡ length members
      many_now = ap length members_are ∙ members_length t code members

      room_then : (list_now : List ℕ) → list_now ≡ list ++ ready_by t code members → length list_now + length (ready_after (ends close answered.fate) t members_now) ≤ capacity
      room_then list_now is =
          subst (λ (l : List ℕ). length l + length (ready_after (ends close answered.fate) t members_now) ≤ capacity) (sym (is ∙ ap (λ (d : Option Deed). list ++ ready_by t d members) code_is))
          (subst (λ (ms : List Member). length (list ++ ready_by t deed members) + length (ready_after (ends close answered.fate) t ms) ≤ capacity) (sym performed_is) (put_room laws board t cpu entries close may list capacity count members kept))

-- ---- as the code has it

pub find_deed-deed-requires : goal.find_deed-deed-requires
find_deed-deed-requires c =
    let board : Board = record { script = c.self.inside.script; history = c.self.inside.events.items; home = c.self.inside.tasks.items; pool = c.self.inside.pool; room = vec_capacity c.self.inside.events } in
    record {
      known = turn_in_range c.machine_laws.ensures board c.args.turn.task.name c.args.turn.cpu c.self.invariant.0 (rw (← c.self.view_is) at c.requires.turn);
      few = c.self.invariant.0.valid.few;
    }

pub perform-reply-requires : goal.perform-reply-requires
perform-reply-requires c =
    let board : Board = record { script = c.self.inside.script; history = c.self.inside.events.items; home = c.self.inside.tasks.items; pool = c.self.inside.pool; room = vec_capacity c.self.inside.events } in
    let laws = c.machine_laws.ensures in
    let turn = rw (← c.self.view_is) at c.requires.turn in
    let lines = rw (← c.self.view_is) at c.requires.lines in
    let home = rw (← c.self.view_is) at c.requires.task in
    let task = c.args.turn.task in
    let cpu = c.args.turn.cpu in
    let entries = c.args.entries.now.items in
    let close = c.args.close in
    let is_board = c.self.invariant.0 in
    let kept = c.self.invariant.1 in
    let list = c.self.inside.ready.items in
    let capacity = deque_capacity c.self.inside.ready in
    let count = c.self.inside.living in
    let members = c.self.inside.members.items in
    let code = c.find_deed-deed.result in
    let code_is = found laws board task cpu entries close is_board turn lines home list capacity count members kept code c.find_deed-deed.ensures in
    record {
      can = can laws board task cpu entries close is_board turn lines home list capacity count members kept code code_is;
      own = own laws board task cpu entries close is_board turn lines home list capacity count members kept;
      named = named laws board task cpu entries close is_board turn lines home list capacity count members kept code code_is;
      room = room laws board task cpu entries close is_board turn lines home list capacity count members kept code code_is;
      few = few laws board task cpu entries close is_board turn lines home list capacity count members kept;
    }

pub settle-fate-requires : goal.settle-fate-requires
settle-fate-requires c =
    let board : Board = record { script = c.self.inside.script; history = c.self.inside.events.items; home = c.self.inside.tasks.items; pool = c.self.inside.pool; room = vec_capacity c.self.inside.events } in
    let laws = c.machine_laws.ensures in
    let turn = rw (← c.self.view_is) at c.requires.turn in
    let lines = rw (← c.self.view_is) at c.requires.lines in
    let home = rw (← c.self.view_is) at c.requires.task in
    let task = c.args.turn.task in
    let cpu = c.args.turn.cpu in
    let entries = c.args.entries.now.items in
    let close = c.args.close in
    let is_board = c.self.invariant.0 in
    let kept = c.self.invariant.1 in
    let list = c.self.inside.ready.items in
    let capacity = deque_capacity c.self.inside.ready in
    let count = c.self.inside.living in
    let members = c.self.inside.members.items in
    let code = c.find_deed-deed.result in
    let code_is = found laws board task cpu entries close is_board turn lines home list capacity count members kept code c.find_deed-deed.ensures in
    record { can = trapping laws board task cpu entries close is_board turn lines home list capacity count members kept code code_is c.perform-reply.result c.perform-reply.new.tasks.items c.perform-reply.new.task c.perform-reply.ensures.done }

pub tell_turn-requires : goal.tell_turn-requires
tell_turn-requires c =
    let board : Board = record { script = c.self.inside.script; history = c.self.inside.events.items; home = c.self.inside.tasks.items; pool = c.self.inside.pool; room = vec_capacity c.self.inside.events } in
    let laws = c.machine_laws.ensures in
    let turn = rw (← c.self.view_is) at c.requires.turn in
    let lines = rw (← c.self.view_is) at c.requires.lines in
    let home = rw (← c.self.view_is) at c.requires.task in
    let task = c.args.turn.task in
    let cpu = c.args.turn.cpu in
    let entries = c.args.entries.now.items in
    let close = c.args.close in
    let is_board = c.self.invariant.0 in
    let kept = c.self.invariant.1 in
    let list = c.self.inside.ready.items in
    let capacity = deque_capacity c.self.inside.ready in
    let count = c.self.inside.living in
    let members = c.self.inside.members.items in
    let code = c.find_deed-deed.result in
    let code_is = found laws board task cpu entries close is_board turn lines home list capacity count members kept code c.find_deed-deed.ensures in
    let may_is = may laws board task cpu entries close is_board turn lines home list capacity count members kept in
    let reply_now = reply_is laws board task cpu entries close is_board turn lines home list capacity count members kept code code_is c.perform-reply.result c.perform-reply.new.tasks.items c.perform-reply.new.task c.perform-reply.ensures.done in
    let done_now = done_is laws board task cpu entries close is_board turn lines home list capacity count members kept code code_is c.perform-reply.result c.perform-reply.new.tasks.items c.perform-reply.new.task c.perform-reply.ensures.done in
    record { room = rw c.as_slice.ensures.value (events_fit laws board task.name cpu entries close may_is task home members kept.each kept.member c.perform-reply.new.tasks.items c.perform-reply.new.task done_now c.settle-fate.result c.settle-fate.new.pool c.settle-fate.new.task c.settle-fate.ensures c.perform-reply.result reply_now) }

pub put_back-requires : goal.put_back-requires
put_back-requires c =
    let board : Board = record { script = c.self.inside.script; history = c.self.inside.events.items; home = c.self.inside.tasks.items; pool = c.self.inside.pool; room = vec_capacity c.self.inside.events } in
    let laws = c.machine_laws.ensures in
    let turn = rw (← c.self.view_is) at c.requires.turn in
    let lines = rw (← c.self.view_is) at c.requires.lines in
    let home = rw (← c.self.view_is) at c.requires.task in
    let task = c.args.turn.task in
    let cpu = c.args.turn.cpu in
    let entries = c.args.entries.now.items in
    let close = c.args.close in
    let is_board = c.self.invariant.0 in
    let kept = c.self.invariant.1 in
    let list = c.self.inside.ready.items in
    let capacity = deque_capacity c.self.inside.ready in
    let count = c.self.inside.living in
    let members = c.self.inside.members.items in
    let code = c.find_deed-deed.result in
    let code_is = found laws board task cpu entries close is_board turn lines home list capacity count members kept code c.find_deed-deed.ensures in
    let may_is = may laws board task cpu entries close is_board turn lines home list capacity count members kept in
    let reply_now = reply_is laws board task cpu entries close is_board turn lines home list capacity count members kept code code_is c.perform-reply.result c.perform-reply.new.tasks.items c.perform-reply.new.task c.perform-reply.ensures.done in
    let done_now = done_is laws board task cpu entries close is_board turn lines home list capacity count members kept code code_is c.perform-reply.result c.perform-reply.new.tasks.items c.perform-reply.new.task c.perform-reply.ensures.done in
    let done = c.perform-reply.ensures.done in
    let after = c.perform-reply.new.task in
    let pool = c.settle-fate.new.pool in
    let settled = c.settle-fate.new.task in
    let fate = c.settle-fate.result in
    let settles_now = settles laws board task.name cpu entries close may_is task home members kept.each kept.member c.perform-reply.new.tasks.items after done_now fate pool settled c.settle-fate.ensures in
    let end_is = ends_is laws board task.name cpu entries close may_is task home members kept.each kept.member c.perform-reply.new.tasks.items after done_now fate pool settled c.settle-fate.ensures in
    let members_now = c.perform-reply.new.members.items in
    let many = many_now laws board task cpu entries close is_board turn lines home list capacity count members kept code code_is c.perform-reply.result c.perform-reply.new.tasks.items after done members_now c.perform-reply.ensures.members in
    let own_is = own laws board task cpu entries close is_board turn lines home list capacity count members kept in
    let each = kept.each in
    let few_blocks = is_board.valid.few in
    let tasks_many = done_length board.script board.script.layout members task.name (close_command board.script task.name close) (answer_in board task.name entries close).reply board.home c.perform-reply.new.tasks.items task after done_now in
    let homes = is_board.count in
    let name_is : settled.name ≡ task.name = settled_name laws board task.name cpu entries close may_is task home members kept.each kept.member c.perform-reply.new.tasks.items after done_now pool settled settles_now in
    let place_is : settled.place ≡ task.place = settled_place laws board task.name cpu entries close may_is task home members kept.each kept.member c.perform-reply.new.tasks.items after done_now pool settled settles_now in
    record {
      lives = λ end. rw c.perform-reply.ensures.living (lives_then laws board task.name cpu entries close may_is task home list capacity count members kept (newborn code));
      out = rw end_is (area_is_out laws board task.name cpu entries close may_is task home members kept.each kept.member c.perform-reply.new.tasks.items after done_now pool settled settles_now);
      len = rw end_is (area_is_long laws board task.name cpu entries close may_is task home members kept.each kept.member c.perform-reply.new.tasks.items after done_now pool settled settles_now);
      member = omega (arith, name_is, many, own_is);
      known = omega (arith, name_is, tasks_many, homes, own_is, each);
      few = omega (arith, many, each, few_blocks);
      room = rw (name_is, end_is, c.perform-reply.ensures.capacity) (room_then laws board task cpu entries close is_board turn lines home list capacity count members kept code code_is c.perform-reply.result c.perform-reply.new.tasks.items after done members_now c.perform-reply.ensures.members c.perform-reply.new.ready.items c.perform-reply.ensures.ready);
      place = rw place_is (place_then laws board task.name cpu entries close may_is task home members kept.member (member_at members_now settled.name).life);
    }

-- ---- after all

abbrev old : goal.After-put_back → Board
old c = record { script = c.self.inside.script; history = c.self.inside.events.items; home = c.self.inside.tasks.items; pool = c.self.inside.pool; room = vec_capacity c.self.inside.events }

abbrev came : goal.After-put_back → Task
came c = c.args.turn.task

abbrev ran : goal.After-put_back → List Entry
ran c = c.args.entries.now.items

abbrev history : goal.After-put_back → List Event
history c = c.tell_turn.new.events.items

home_is : (c : goal.After-put_back) → IsHome (is_user (old c).script (came c).name) (old c).script.layout (came c) (private_after (old c) (came c).name (ran c) c.args.close)
home_is c = rw (← c.self.view_is) at c.requires.task

may_be : (c : goal.After-put_back) → MayCommit (old c) (came c).name c.args.turn.cpu (ran c) c.args.close
may_be c = record { is_board = c.self.invariant.0; turn = rw (← c.self.view_is) at c.requires.turn; lines = rw (← c.self.view_is) at c.requires.lines }

-- the deed that the code found
code_found : (c : goal.After-put_back) → c.find_deed-deed.result ≡ deed_by (old c).script (close_command (old c).script (came c).name c.args.close)
code_found c = c.find_deed-deed.ensures ∙ deed_found c.machine_laws.ensures (old c) (came c).name c.args.turn.cpu (ran c) c.args.close (may_be c) (came c) (home_is c) c.self.inside.members.items c.self.invariant.1.member

-- what it answered
replied : (c : goal.After-put_back) → c.perform-reply.result ≡ (answer_in (old c) (came c).name (ran c) c.args.close).reply
replied c =
    reply_known c.machine_laws.ensures (old c) (came c).name c.args.turn.cpu (ran c) c.args.close (may_be c) (came c) (home_is c) c.self.inside.members.items c.self.invariant.1.each c.self.invariant.1.member c.perform-reply.new.tasks.items c.perform-reply.new.task c.perform-reply.result
    (subst (λ (d : Option Deed). IsDoneBy (old c).script.layout c.self.inside.members.items (came c).name d c.perform-reply.result (old c).home c.perform-reply.new.tasks.items (came c) c.perform-reply.new.task) (code_found c) c.perform-reply.ensures.done)

-- what it did
did : (c : goal.After-put_back) → IsDoneBy (old c).script.layout c.self.inside.members.items (came c).name (deed_by (old c).script (close_command (old c).script (came c).name c.args.close)) (answer_in (old c) (came c).name (ran c) c.args.close).reply (old c).home c.perform-reply.new.tasks.items (came c) c.perform-reply.new.task
did c =
    subst (λ (r : Reply). IsDoneBy (old c).script.layout c.self.inside.members.items (came c).name (deed_by (old c).script (close_command (old c).script (came c).name c.args.close)) r (old c).home c.perform-reply.new.tasks.items (came c) c.perform-reply.new.task) (replied c)
    (subst (λ (d : Option Deed). IsDoneBy (old c).script.layout c.self.inside.members.items (came c).name d c.perform-reply.result (old c).home c.perform-reply.new.tasks.items (came c) c.perform-reply.new.task) (code_found c) c.perform-reply.ensures.done)

-- what became of it, if its line trapped
settles_it : (c : goal.After-put_back) → Settles c.args.close (old c).script.layout (answer_in (old c) (came c).name (ran c) c.args.close).fate (old c).pool c.settle-fate.new.pool c.perform-reply.new.task c.settle-fate.new.task
settles_it c = settles c.machine_laws.ensures (old c) (came c).name c.args.turn.cpu (ran c) c.args.close (may_be c) (came c) (home_is c) c.self.inside.members.items c.self.invariant.1.each c.self.invariant.1.member c.perform-reply.new.tasks.items c.perform-reply.new.task (did c) c.settle-fate.result c.settle-fate.new.pool c.settle-fate.new.task c.settle-fate.ensures

ends_it : (c : goal.After-put_back) → ends c.args.close c.settle-fate.result ≡ ends c.args.close (answer_in (old c) (came c).name (ran c) c.args.close).fate
ends_it c = ends_is c.machine_laws.ensures (old c) (came c).name c.args.turn.cpu (ran c) c.args.close (may_be c) (came c) (home_is c) c.self.inside.members.items c.self.invariant.1.each c.self.invariant.1.member c.perform-reply.new.tasks.items c.perform-reply.new.task (did c) c.settle-fate.result c.settle-fate.new.pool c.settle-fate.new.task c.settle-fate.ensures

-- what joins the history
told : (c : goal.After-put_back) → history c ≡ (old c).history ++ turn_events (came c).name (ran c) c.args.close (answer_in (old c) (came c).name (ran c) c.args.close)
told c =
    c.tell_turn.ensures.told
    ∙ ap (λ (entries : List Entry). (old c).history ++ turn_events (came c).name entries c.args.close (record { reply = c.perform-reply.result; fate = c.settle-fate.result })) c.as_slice.ensures.value
    ∙ ap (λ (all : List Event). (old c).history ++ all) (events_are c.machine_laws.ensures (old c) (came c).name c.args.turn.cpu (ran c) c.args.close (may_be c) (came c) (home_is c) c.self.inside.members.items c.self.invariant.1.each c.self.invariant.1.member c.perform-reply.new.tasks.items c.perform-reply.new.task (did c) c.settle-fate.result c.settle-fate.new.pool c.settle-fate.new.task c.settle-fate.ensures c.perform-reply.result (replied c))

past_is : (c : goal.After-put_back) → reverse (history c) ≡ later c.machine_laws.ensures (old c) (came c).name c.args.turn.cpu (ran c) c.args.close (may_be c)
past_is c = ap reverse (told c) ∙ reverse_onto_past (turn_events (came c).name (ran c) c.args.close (answer_in (old c) (came c).name (ran c) c.args.close)) (old c).history

-- the members after the deed
members_then : (c : goal.After-put_back) → c.perform-reply.new.members.items ≡ performed (old c).script (came c).name c.self.inside.members.items c.args.close
members_then c = c.perform-reply.ensures.members ∙ ap (λ (d : Option Deed). members_by (came c).name d c.self.inside.members.items) (code_found c)

-- the task has its name
same_name : (c : goal.After-put_back) → c.settle-fate.new.task.name ≡ (came c).name
same_name c = settled_name c.machine_laws.ensures (old c) (came c).name c.args.turn.cpu (ran c) c.args.close (may_be c) (came c) (home_is c) c.self.inside.members.items c.self.invariant.1.each c.self.invariant.1.member c.perform-reply.new.tasks.items c.perform-reply.new.task (did c) c.settle-fate.new.pool c.settle-fate.new.task (settles_it c)

-- the same queue, capacity and count
beside_same : (board : Board) (list list' : List ℕ) (capacity capacity' count count' : ℕ) (members : List Member) → list' ≡ list → capacity' ≡ capacity → count' ≡ count → IsKeptBeside board list capacity count members → IsKeptBeside board list' capacity' count' members
beside_same board list list' capacity capacity' count count' members l p n kept = record {
  queue = l ∙ kept.queue;
  fits = subst (λ (most : ℕ). length board.script.blocks ≤ most) (sym p) kept.fits;
  alive = n ∙ kept.alive;
  each = kept.each;
  member = kept.member;
}

-- the tasks that are home then
homes : (c : goal.After-put_back) → c.put_back.new.tasks.items ≡ home_after (ends c.args.close (answer_in (old c) (came c).name (ran c) c.args.close).fate) (moved_on (moves_on c.args.close (member_at (performed (old c).script (came c).name c.self.inside.members.items c.args.close) (came c).name).life) c.settle-fate.new.task) c.perform-reply.new.tasks.items
homes c =
    c.put_back.ensures.home
    ∙ ap (λ (b : Bool). home_after b (moved_on (moves_on c.args.close (member_at c.perform-reply.new.members.items c.settle-fate.new.task.name).life) c.settle-fate.new.task) c.perform-reply.new.tasks.items) (ends_it c)
    ∙ ap (λ (n : ℕ). home_after (ends c.args.close (answer_in (old c) (came c).name (ran c) c.args.close).fate) (moved_on (moves_on c.args.close (member_at c.perform-reply.new.members.items n).life) c.settle-fate.new.task) c.perform-reply.new.tasks.items) (same_name c)
    ∙ ap (λ (ms : List Member). home_after (ends c.args.close (answer_in (old c) (came c).name (ran c) c.args.close).fate) (moved_on (moves_on c.args.close (member_at ms (came c).name).life) c.settle-fate.new.task) c.perform-reply.new.tasks.items) (members_then c)

pub invariant_of-self : goal.invariant_of-self
invariant_of-self c =
    let laws = c.machine_laws.ensures in
    let t = (came c).name in
    let cpu = c.args.turn.cpu in
    let close = c.args.close in
    let script = c.self.inside.script in
    let last = rw (← c.self.view_is) at c.requires.last in
    let room = vec_capacity c.tell_turn.new.events in
    let members = c.self.inside.members.items in
    let kept = c.self.invariant.1 in
    let tasks = c.perform-reply.new.tasks.items in
    let after = c.perform-reply.new.task in
    let pool = c.settle-fate.new.pool in
    let settled = c.settle-fate.new.task in
    let end = ends close (answer_in (old c) (came c).name (ran c) c.args.close).fate in
    let list = c.self.inside.ready.items in
    let performed_now = performed script t members close in
    let final = c.put_back.new.members.items in
    let ready_is =
    c.put_back.ensures.ready
    ∙ ap (λ (b : Bool). c.perform-reply.new.ready.items ++ ready_after b settled.name c.perform-reply.new.members.items) (ends_it c)
    ∙ ap (λ (n : ℕ). c.perform-reply.new.ready.items ++ ready_after end n c.perform-reply.new.members.items) (same_name c)
    ∙ ap (λ (ms : List Member). c.perform-reply.new.ready.items ++ ready_after end t ms) (members_then c)
    ∙ ap (λ (l : List ℕ). l ++ ready_after end t performed_now) (c.perform-reply.ensures.ready ∙ ap (λ (d : Option Deed). list ++ ready_by t d members) (code_found c)) in
    let living_is = c.put_back.ensures.living ∙ ap (λ (b : Bool). living_after b c.perform-reply.new.living) (ends_it c) ∙ ap (living_after end) (c.perform-reply.ensures.living ∙ ap (λ (d : Option Deed). living_born (newborn d) c.self.inside.living) (code_found c)) in
    let are_left : AreLeft end t performed_now final = subst (λ (ms : List Member). AreLeft end t ms final) (members_then c) (subst (λ (n : ℕ). AreLeft end n c.perform-reply.new.members.items final) (same_name c) (subst (λ (b : Bool). AreLeft b settled.name c.perform-reply.new.members.items final) (ends_it c) c.put_back.ensures.members)) in
    let events = turn_events t (ran c) close (answer_in (old c) (came c).name (ran c) c.args.close) in
    let longer : length (history c) ≡ length (old c).history + length events = ap length (told c) ∙ length-append (old c).history events in
    let some = some_events (old c).script t (ran c) close (answer_in (old c) (came c).name (ran c) c.args.close) (private_in (old c) t) 0 (may_be c).lines in
    let pool_is = c.put_back.ensures.pool ∙ ap (λ (b : Bool). pool_after b settled.lease pool) (ends_it c) in
    let many : length final ≡ length members = c.put_back.ensures.each ∙ ap length c.perform-reply.ensures.members ∙ members_length t c.find_deed-deed.result members in (
      subst (λ (home : List (Option Task)). IsBoard (record { script = script; history = history c; home = home; pool = c.put_back.new.pool; room = room })) (sym (homes c))
          (board_back laws (old c) t cpu (ran c) close (may_be c) (came c) refl (home_is c) last members kept.each kept.member tasks after (did c) pool settled (settles_it c) (history c) (past_is c) c.put_back.new.pool room pool_is c.tell_turn.ensures.capacity (omega (arith, longer, some))),
      subst (λ (home : List (Option Task)). IsKeptBeside (record { script = script; history = history c; home = home; pool = c.put_back.new.pool; room = room }) c.put_back.new.ready.items (deque_capacity c.put_back.new.ready) c.put_back.new.living final) (sym (homes c))
          (beside_same _ _ _ _ _ _ _ _ ready_is (c.put_back.ensures.capacity ∙ c.perform-reply.ensures.capacity) living_is
          (beside_back laws (old c) t cpu (ran c) close (may_be c) (came c) refl (home_is c) last members kept.each kept.member tasks after (did c) pool settled (settles_it c) (history c) (past_is c) c.put_back.new.pool room list (deque_capacity c.self.inside.ready) c.self.inside.living kept final are_left many)),
    )

pub returns-clause-history : goal.returns-clause-history
returns-clause-history c = subst (λ (b : Board). history c ≡ b.history ++ turn_events (came c).name (ran c) c.args.close (answer_in b (came c).name (ran c) c.args.close)) c.self.view_is (told c)

pub returns-clause-legal : goal.returns-clause-legal
returns-clause-legal c = subst (IsLegalPast (old c).script) (sym (past_is c)) (leaves c.machine_laws.ensures (old c) (came c).name c.args.turn.cpu (ran c) c.args.close (may_be c)).legal

pub returns-clause-replay : goal.returns-clause-replay
returns-clause-replay c = rw (← c.self.view_is) (past_is c ∙ sym (turn_replays c.machine_laws.ensures (old c) (came c).name c.args.turn.cpu (ran c) c.args.close (may_be c)))

pub returns-clause-stage : goal.returns-clause-stage
returns-clause-stage c =
    subst (λ (b : Board). stage_at (machine c.self.inside.script (reverse (history c))).blocks (came c).name ≡ stage_closed b.script (came c).name c.args.close (answer_in b (came c).name (ran c) c.args.close)) c.self.view_is
    (ap (λ (past : List Event). stage_at (machine (old c).script past).blocks (came c).name) (past_is c)
    ∙ back_stage c.machine_laws.ensures (old c) (came c).name c.args.turn.cpu (ran c) c.args.close (may_be c))

pub returns-clause-private : goal.returns-clause-private
returns-clause-private c =
    subst (λ (b : Board). task_at (machine c.self.inside.script (reverse (history c))).blocks (came c).name ≡ private_closed b (came c).name (ran c) c.args.close) c.self.view_is
    (ap (λ (past : List Event). task_at (machine (old c).script past).blocks (came c).name) (past_is c)
    ∙ back_private c.machine_laws.ensures (old c) (came c).name c.args.turn.cpu (ran c) c.args.close (may_be c))

pub returns-clause-free : goal.returns-clause-free
returns-clause-free c =
    ap (λ (past : List Event). runner c.args.turn.cpu 0 (machine (old c).script past).blocks) (past_is c)
    ∙ back_free c.machine_laws.ensures (old c) (came c).name c.args.turn.cpu (ran c) c.args.close (may_be c)

pub returns-clause-others : goal.returns-clause-others
returns-clause-others c =
    rw (← c.self.view_is) (λ u other. subst (λ (past : List Event). KeepsBlock (old c).script (past_of (old c)) past u) (sym (past_is c)) ((leaves c.machine_laws.ensures (old c) (came c).name c.args.turn.cpu (ran c) c.args.close (may_be c)).keeps u other))

pub returns-clause-turns : goal.returns-clause-turns
returns-clause-turns c =
    rw (← c.self.view_is) (λ cpu apart. ap (λ (past : List Event). runner cpu 0 (machine (old c).script past).blocks) (past_is c)
    ∙ back_turns c.machine_laws.ensures (old c) (came c).name c.args.turn.cpu (ran c) c.args.close (may_be c) cpu apart)

pub returns-clause-next : goal.returns-clause-next
returns-clause-next c =
    let laws = c.machine_laws.ensures in
    let t = (came c).name in
    let cpu = c.args.turn.cpu in
    let may = may_be c in
    let left = leaves laws (old c) t cpu (ran c) c.args.close may in
    let new : Board = record { script = c.self.inside.script; history = history c; home = c.put_back.new.tasks.items; pool = c.put_back.new.pool; room = vec_capacity c.tell_turn.new.events } in
    rw (← c.self.view_is) (turn_next laws (old c) new t cpu (turn_events t (ran c) c.args.close (answer_in (old c) t (ran c) c.args.close)) (turn_within (old c).script t (ran c) c.args.close (answer_in (old c) t (ran c) c.args.close))
    may.is_board.valid may.is_board.legal (subst (IsLegalPast (old c).script) (sym (past_is c)) left.legal) refl (past_is c) may.turn
    (λ u other. subst (λ (past : List Event). KeepsBlock (old c).script (past_of (old c)) past u) (sym (past_is c)) (left.keeps u other))
    (λ d apart. ap (λ (past : List Event). runner d 0 (machine (old c).script past).blocks) (past_is c) ∙ back_turns laws (old c) t cpu (ran c) c.args.close may d apart))
