-- What `put_back` asks for after the deed of a turn.
use Rattle.std.proofs.Common.{◌≡◌, ℕ, ◌+◌, ◌<◌, ◌^◌, Bool, true, false, List, length, refl, sym, ap, ◌∙◌, arith, inl}
use Rattle.std.proofs.lemmas.Bool.{and_parts}
use Rattle.std.proofs.lemmas.List.{length-set}
use Rattle.std.specs.Prelude.{Option, Some, None, IfSome, if◌then◌else◌, slice_set}
use Rattle.xs_area.specs.declared.area.Lease.{Lease}
use Rattle.xs_base.specs.declared.class.Class.{Class}
use Rattle.xs_base.specs.declared.class.Class.TheVariants.{Small, Large}
use Rattle.xs_base.specs.declared.component.Row.{Row}
use Rattle.xs_base.specs.KernelArea.{class_size}
use Rattle.xs_base.specs.Task.{PrivateTask}
use Rattle.xs_model.specs.declared.event.Why.{Why}
use Rattle.xs_model.specs.Script.{is_user}
use Rattle.xs_pool.specs.Pool.{Pool, stock_of}
use Rattle.xs_task.specs.declared.task.Task.{Task}
use Rattle.xs_board.specs.declared.deed.Deed.{Deed}
use Rattle.xs_board.specs.declared.deed.Deed.TheVariants as deeds
use Rattle.xs_board.specs.declared.member.Life.{Life}
use Rattle.xs_board.specs.declared.member.Life.TheVariants as lives
use Rattle.xs_board.specs.declared.turn.Entry.{Entry}
use Rattle.xs_board.specs.declared.turn.Close.{Close}
use Rattle.xs_board.specs.Board.{Board, IsKeptBeside, machine_in, private_after, private_with}
use Rattle.xs_board.specs.Deed.{IsDoneBy, blocks_at, deed_by, is_traced, living_born, members_by}
use Rattle.xs_board.specs.Home.{IsHome}
use Rattle.xs_board.specs.Laws.{Laws}
use Rattle.xs_board.specs.Member.{Member, AreMembers, born_of, is_stopped_life, member_at, received, waiter_in, with_going}
use Rattle.xs_board.specs.Putting.{Where, ends, is_outer, moves_on}
use Rattle.xs_board.specs.Turn.{close_command}
use Rattle.xs_board.proofs.Again.{ends_lease}
use Rattle.xs_board.proofs.Areas.{close_task, some_large, some_small}
use Rattle.xs_board.proofs.Returning.{Settles, after_is, ends_same}
use Rattle.xs_board.proofs.Asked.{next_place}
use Rattle.xs_board.proofs.Committing.{MayCommit, answer, for_lease, turn_lives}
use Rattle.xs_board.proofs.Woken.{going_length}

-- the members are as many after a deed
pub members_length : (t : ℕ) (deed : Option Deed) (members : List Member) → length (members_by t deed members) ≡ length members
members_length t None members = refl
members_length t (Some (deeds.Fork child)) members = length-set members child (born_of t (member_at members child))
members_length t (Some (deeds.Send target signo)) members = length-set members target (received signo (member_at members target))
members_length t (Some deeds.Stop) members = by_test (is_traced members t)
  where
    woken_now : List Member
    woken_now = with_going (waiter_in members t) members

    by_test : (b : Bool) → length (if b then slice_set woken_now t (record (member_at woken_now t) { life = lives.Stopped }) else members) ≡ length members
    by_test true = length-set woken_now t (record (member_at woken_now t) { life = lives.Stopped }) ∙ going_length (waiter_in members t) members
    by_test false = refl
members_length t (Some (deeds.Wait child)) members = by_test (blocks_at t (member_at members child))
  where
    by_test : (b : Bool) → length (if b then slice_set members t (record (member_at members t) { life = lives.Waiting child }) else members) ≡ length members
    by_test true = length-set members t (record (member_at members t) { life = lives.Waiting child })
    by_test false = refl
members_length t (Some (deeds.Get target set)) members = refl
members_length t (Some (deeds.Put target set count)) members = refl
members_length t (Some (deeds.Cont child)) members = by_test (is_stopped_life (member_at members child).life)
  where
    by_test : (b : Bool) → length (if b then slice_set members child (record (member_at members child) { life = lives.Going }) else members) ≡ length members
    by_test true = length-set members child (record (member_at members child) { life = lives.Going })
    by_test false = refl

-- a block that lives lives when one is born
born_lives : (child : Option ℕ) (living : ℕ) → 0 < living → 0 < living_born child living
born_lives None living some = some
born_lives (Some child) living some = omega (arith, some)

module _ (laws : Laws) (old : Board) (t cpu : ℕ) (entries : List Entry) (close : Close) (may : MayCommit old t cpu entries close) (task : Task) (home : IsHome (is_user old.script t) old.script.layout task (private_after old t entries close)) where
  -- some block lives
  pub lives_then : (list : List ℕ) (capacity count : ℕ) (members : List Member) → IsKeptBeside old list capacity count members → (born : Option ℕ) → 0 < living_born born count
  lives_then list capacity count members kept born = born_lives born count (turn_lives laws old t cpu may.is_board may.turn list capacity count members kept)

  -- what was settled of it
  module _ (members : List Member) (each : length members ≡ length old.script.blocks) (are_past : AreMembers (machine_in old).blocks members) (tasks : List (Option Task)) (after : Task) (done : IsDoneBy old.script.layout members t (deed_by old.script (close_command old.script t close)) (answer laws old t cpu entries close may).reply old.home tasks task after) (pool : Pool) (settled : Task) (settles : Settles close old.script.layout (answer laws old t cpu entries close may).fate old.pool pool after settled) where
    abbrev killed : Option Why
    killed = (answer laws old t cpu entries close may).fate

    -- a task that ends has the area with which it came, and the pool is as it was
    lost : ends close killed ≡ true → (pool ≡ old.pool) × (settled.lease ≡ task.lease)
    lost end =
        let same = ends_same laws old t cpu entries close may task home members each are_past tasks after done pool settled settles end in
        (same.0, ap (λ (x : Task). x.lease) (same.1 ∙ after_is laws old t cpu entries close may task home members each are_past tasks after done))

    -- its area is out of the pool
    pub area_is_out : Where (ends close killed) (IfSome settled.lease (λ lease. (stock_of pool lease.class).out ≡ 0 → ⊥))
    area_is_out end = for_lease settled.lease (λ lease. (stock_of pool lease.class).out ≡ 0 → ⊥) (λ lease there. by_room lease there (private_with old t entries).large refl)
      where
        by_room : (lease : Lease) → settled.lease ≡ Some lease → (large : Bool) → (private_with old t entries).large ≡ large → (stock_of pool lease.class).out ≡ 0 → ⊥
        by_room lease there true room none =
            let known = ends_lease laws old t cpu entries close may task home lease (sym (lost end).1 ∙ there) in
            let class : lease.class ≡ Large = known.1 ∙ ap (λ (b : Bool). if b then Large else Small) room in
            some_large laws old t cpu entries close may end room (ap (λ (p : Pool). p.large.out) (sym (lost end).0) ∙ sym (ap (λ (c : Class). (stock_of pool c).out) class) ∙ none)
        by_room lease there false room none =
            let known = ends_lease laws old t cpu entries close may task home lease (sym (lost end).1 ∙ there) in
            let class : lease.class ≡ Small = known.1 ∙ ap (λ (b : Bool). if b then Large else Small) room in
            some_small laws old t cpu entries close may known.0 (sym (ap (λ (p : PrivateTask). p.large) (close_task laws old t cpu entries close may (inl end))) ∙ room)
            (ap (λ (p : Pool). p.small.out) (sym (lost end).0) ∙ sym (ap (λ (c : Class). (stock_of pool c).out) class) ∙ none)

    -- it has the length of its class
    pub area_is_long : Where (ends close killed) (IfSome settled.lease (λ lease. length lease.area.bytes.items ≡ class_size pool.rows lease.class))
    area_is_long end = for_lease settled.lease (λ lease. length lease.area.bytes.items ≡ class_size pool.rows lease.class) long
      where
        long : (lease : Lease) → settled.lease ≡ Some lease → length lease.area.bytes.items ≡ class_size pool.rows lease.class
        long lease there =
            (ends_lease laws old t cpu entries close may task home lease (sym (lost end).1 ∙ there)).2
            ∙ ap (λ (rows : List Row). class_size rows lease.class) (sym (ap (λ (p : Pool). p.rows) (lost end).0 ∙ may.is_board.pool.rows))

  -- its place behind the line is a small number
  pub place_then : (members : List Member) (are : AreMembers (machine_in old).blocks members) (life : Life) → Where (moves_on close life) (task.place + 1 < 2 ^ 32)
  place_then members are life moves = next_place laws old t cpu entries close may task home members are (and_parts (is_outer close) _ moves).0
