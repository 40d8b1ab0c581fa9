-- A board before its first event.
use Rattle.std.proofs.Common.{◌≡◌, ℕ, zero, suc, ◌+◌, ◌*◌, ◌<◌, ◌≤◌, Bool, true, false, ◌&&◌, List, [], ◌∷◌, ◌++◌, map, length, refl, sym, ap, ◌∙◌, subst, arith, length-append}
use Rattle.std.proofs.lemmas.List.{length-map}
use Rattle.std.proofs.lemmas.Option.{slice_get-map}
use Rattle.std.specs.Option.{option_map}
use Rattle.std.specs.Prelude.{Option, Some, if◌then◌else◌, slice_get}
use Rattle.xs_base.specs.declared.component.Row.{Row}
use Rattle.xs_base.specs.Task.{PrivateTask, root_task}
use Rattle.xs_model.specs.declared.script.Block.{Block}
use Rattle.xs_model.specs.declared.script.BlockKind.{BlockKind}
use Rattle.xs_model.specs.declared.script.BlockKind.TheVariants as kinds
use Rattle.xs_model.specs.declared.script.Script.{Script}
use Rattle.xs_model.specs.declared.stage.Stage.TheVariants.{Unborn}
use Rattle.xs_model.specs.Bound.{all_kill_lines, body_lines, longest_handler, most_events}
use Rattle.xs_model.specs.Due.{large_count}
use Rattle.xs_model.specs.Ready.{ready_from}
use Rattle.xs_model.specs.Script.{is_user, is_user_block, is_user_kind, IsValid}
use Rattle.xs_model.specs.State.{is_ready, lives, opening, opening_block, opening_stage, stage_of, task_of_state}
use Rattle.xs_pool.specs.Pool.{Pool}
use Rattle.xs_task.specs.declared.task.Task.{Task}
use Rattle.xs_board.specs.Board.{Board, IsBoard, IsKeptBeside, HasHome, areas, holds_area, tally, one}
use Rattle.xs_board.specs.Home.{IsClear, IsHome}
use Rattle.xs_board.specs.Member.{Member, member_at, member_of}
use Rattle.xs_board.specs.Opening.{first_member, one_user, users_in, born_if, born_from, AreFirst}
use Rattle.xs_board.proofs.Blocks.{existing}
use Rattle.xs_board.proofs.FirstTasks.{born_few, users_few}

-- the bound of a valid script is small, and so are its parts
pub bound_small : (script : Script) → IsValid script → (body_lines script.blocks ≤ 1048576) × (all_kill_lines script.blocks * longest_handler script.blocks ≤ 1048576 * 1048576) × (length script.blocks ≤ 1048576)
bound_small script valid = by_parts (body_lines script.blocks) (all_kill_lines script.blocks * longest_handler script.blocks) (length script.blocks) valid.events
  where
    by_parts : (lines signals count : ℕ) → 4 * lines + 2 * signals + 8 * count ≤ 1048576 → (lines ≤ 1048576) × (signals ≤ 1048576 * 1048576) × (count ≤ 1048576)
    by_parts lines signals count most = (omega (arith, most), omega (arith, most), omega (arith, most))

-- the blocks that are born are ready
ready_all : (rows : List Row) (i : ℕ) (blocks : List Block) → ready_from i (map (opening_block rows) blocks) ≡ born_from i blocks
ready_all rows i [] = refl
ready_all rows i (block ∷ blocks) = by_test (is_ready (opening_stage block.kind)) (ready_from (i + 1) (map (opening_block rows) blocks)) ∙ ap (λ (list : List ℕ). born_if block.kind i ++ list) (ready_all rows (i + 1) blocks)
  where
    by_test : (test : Bool) (rest : List ℕ) → (if test then i ∷ rest else rest) ≡ (if test then i ∷ [] else []) ++ rest
    by_test true rest = refl
    by_test false rest = refl

-- and they are those that live
living_all : (rows : List Row) (i n : ℕ) (blocks : List Block) → length (born_from i blocks) ≡ tally (λ t stage. lives stage) n (map (opening_block rows) blocks)
living_all rows i n [] = refl
living_all rows i n (block ∷ blocks) =
    let long = length-append (born_if block.kind i) (born_from (i + 1) blocks) in
    let here = by_kind block.kind in
    let rest = living_all rows (i + 1) (n + 1) blocks in
    omega (arith, long, here, rest)
  where
    by_kind : (kind : BlockKind) → length (born_if kind i) ≡ one (lives (opening_stage kind))
    by_kind kinds.Task = refl
    by_kind kinds.Child = refl
    by_kind kinds.Kthread = refl

-- they are at most all
pub born_few_all : (i : ℕ) (blocks : List Block) → length (born_from i blocks) ≤ length blocks
born_few_all i [] = omega arith
born_few_all i (block ∷ blocks) =
    let long = length-append (born_if block.kind i) (born_from (i + 1) blocks) in
    let here = born_few block.kind i in
    let rest = born_few_all (i + 1) blocks in
    omega (arith, long, here, rest)

-- the user tasks, all of which have areas
tally_users : (script : Script) (rows : List Row) (i : ℕ) (blocks : List Block) → ((j : ℕ) → slice_get script.blocks (i + j) ≡ slice_get blocks j) → tally (λ t stage. is_user script t && holds_area stage) i (map (opening_block rows) blocks) ≡ users_in blocks
tally_users script rows i [] from = refl
tally_users script rows i (block ∷ blocks) from =
    let here : slice_get script.blocks i ≡ Some block = ap (slice_get script.blocks) (omega arith) ∙ from 0 in
    let one_here : one (is_user script i && holds_area (opening_stage block.kind)) ≡ one_user block.kind = ap (λ (b : Option Block). one (is_user_block b && holds_area (opening_stage block.kind))) here ∙ by_kind block.kind in
    let rest = tally_users script rows (i + 1) blocks (λ j. ap (slice_get script.blocks) (omega arith) ∙ from (suc j)) in
    omega (arith, one_here, rest)
  where
    by_kind : (kind : BlockKind) → one (is_user_kind kind && holds_area (opening_stage kind)) ≡ one_user kind
    by_kind kinds.Task = refl
    by_kind kinds.Child = refl
    by_kind kinds.Kthread = refl

-- no block has room for TILEDATA
root_small : (rows : List Row) → (root_task rows).large ≡ false
unfolding root_task
root_small rows = refl

none_large : (rows : List Row) (blocks : List Block) → large_count (map (opening_block rows) blocks) ≡ 0
none_large rows [] = refl
none_large rows (block ∷ blocks) = by_room (root_task rows).large (root_small rows) (none_large rows blocks)
  where
    by_room : (large : Bool) → large ≡ false → large_count (map (opening_block rows) blocks) ≡ 0 → (if large && lives (opening_stage block.kind) then 1 else 0) + large_count (map (opening_block rows) blocks) ≡ 0
    by_room true is rest = absurd (cc is)
    by_room false is rest = omega (arith, rest)

-- a task before its first turn has clear memories
root_clear : (rows : List Row) (task : Task) → IsHome true rows task (root_task rows) → IsClear task
unfolding root_task
root_clear rows task home = record {
  frame = sym (ap (λ (p : PrivateTask). p.frame) home.parked.form);
  buffer = sym (ap (λ (p : PrivateTask). p.buffer) home.parked.form);
}

-- so has an unborn one
first_clear : (kind : BlockKind) (rows : List Row) (task : Task) → opening_stage kind ≡ Unborn → IsHome (is_user_kind kind) rows task (root_task rows) → IsClear task
first_clear kinds.Task rows task unborn home = absurd (cc unborn)
first_clear kinds.Child rows task unborn home = root_clear rows task home
first_clear kinds.Kthread rows task unborn home = absurd (cc unborn)

-- what is kept beside them
first_members : (rows : List Row) (blocks : List Block) (t : ℕ) → member_at (map first_member blocks) t ≡ member_of (slice_get (map (opening_block rows) blocks) t)
first_members rows [] t = refl
first_members rows (block ∷ blocks) zero = refl
first_members rows (block ∷ blocks) (suc t) = first_members rows blocks t

module _ (script : Script) (home : List (Option Task)) (pool : Pool) (room : ℕ) where
  -- the board
  abbrev first_board : Board
  first_board = record { script = script; history = []; home = home; pool = pool; room = room }

  -- each task is home
  open_home : AreFirst script.layout script.blocks (length script.blocks) home → (t : ℕ) → t < length script.blocks → HasHome first_board t
  open_home first t known =
      let lines = existing script.blocks t known in
      let own = first t lines.0 known lines.1 in
      let user : is_user script t ≡ is_user_kind lines.0.kind = ap is_user_block lines.1 in
      let private : task_of_state (slice_get (opening script).blocks t) ≡ root_task script.layout = ap task_of_state (slice_get-map (opening_block script.layout) script.blocks t ∙ ap (option_map (opening_block script.layout)) lines.1) in (
        own.0,
        own.1,
        record {
          name = own.2.name_is;
          stands = subst (λ (p : PrivateTask). IsHome (is_user script t) script.layout own.0 p) (sym private) (subst (λ (u : Bool). IsHome u script.layout own.0 (root_task script.layout)) (sym user) own.2.home);
          last = λ is. own.2.last (sym user ∙ is);
          clear = λ unborn. first_clear lines.0.kind script.layout own.0 (sym (ap stage_of (slice_get-map (opening_block script.layout) script.blocks t ∙ ap (option_map (opening_block script.layout)) lines.1)) ∙ unborn) own.2.home;
        },
      )

  -- it is a board
  pub board_open : IsValid script → length home ≡ length script.blocks → AreFirst script.layout script.blocks (length script.blocks) home → pool.rows ≡ script.layout → pool.small.out ≡ users_in script.blocks → pool.large.out ≡ 0 → pool.large.capacity ≡ script.large → pool.given ≡ users_in script.blocks → most_events script ≤ room → IsBoard first_board
  board_open valid count first rows out large capacity given most =
      let few = users_few script.blocks in
      let users : areas first_board ≡ users_in script.blocks = tally_users script script.layout 0 script.blocks (λ j. ap (slice_get script.blocks) (omega arith)) in
      record {
        valid = valid;
        legal = tt;
        order = tt;
        closed = refl;
        count = count;
        home = λ t rests known. open_home first t known;
        pool = record {
          rows = rows;
          large = large ∙ sym (none_large script.layout script.blocks);
          all = omega (arith, out, large, users);
          capacity = capacity;
          given = omega (arith, given, few);
        };
        room = most;
      }

  -- what is kept beside it
  pub beside_open : (list : List ℕ) (capacity count : ℕ) (members : List Member) → list ≡ born_from 0 script.blocks → length script.blocks ≤ capacity → count ≡ length list → members ≡ map first_member script.blocks → IsKeptBeside first_board list capacity count members
  beside_open list capacity count members is fits living are = record {
    queue = is ∙ sym (ready_all script.layout 0 script.blocks);
    fits = fits;
    alive = living ∙ ap length is ∙ living_all script.layout 0 0 script.blocks;
    each = ap length are ∙ length-map script.blocks first_member;
    member = λ t. ap (λ (all : List Member). member_at all t) are ∙ first_members script.layout script.blocks t;
  }
