-- What a board has before its first event.
use Rattle.std.specs.Prelude.{◌≡◌, ℕ, ◌+◌, ◌<◌, true, List, [], ◌∷◌, ◌++◌, slice_get, slice_index_or, Option, Some, None, if◌then◌else◌}
use Rattle.xs_base.specs.declared.class.Class.TheVariants as classes
use Rattle.xs_base.specs.declared.component.Row.{Row}
use Rattle.xs_base.specs.Task.{root_task}
use Rattle.xs_model.specs.declared.script.Block.{Block}
use Rattle.xs_model.specs.declared.script.BlockKind.{BlockKind}
use Rattle.xs_model.specs.declared.script.BlockKind.TheVariants.{Task, Child, Kthread}
use Rattle.xs_model.specs.Script.{is_user_kind}
use Rattle.xs_model.specs.State.{is_ready, opening_stage}
use Rattle.xs_pool.specs.Pool.{Pool, leased}
use Rattle.xs_task.specs.declared.task.Task as tasks
use Rattle.xs_board.specs.Home.{IsHome}
use Rattle.xs_board.specs.Member.{Member, life_of}

abbrev pub one_user : BlockKind → ℕ
one_user Task = 1
one_user Child = 1
one_user Kthread = 0

-- how many of the blocks are user tasks
abbrev pub users_in : List Block → ℕ
users_in [] = 0
users_in (block ∷ blocks) = one_user block.kind + users_in blocks

-- the number of a block, if it is born before the first event: a child isn't
abbrev pub born_if : BlockKind → ℕ → List ℕ
born_if kind i = if is_ready (opening_stage kind) then i ∷ [] else []

-- the numbers of these blocks, from number i on
abbrev pub born_from : ℕ → List Block → List ℕ
born_from i [] = []
born_from i (block ∷ blocks) = born_if block.kind i ++ born_from (i + 1) blocks

-- what is kept of the block beside its task
abbrev pub first_member : Block → Member
first_member block = record { life = life_of (opening_stage block.kind); parent = None; pending = [] }

-- The task of a block of the kind and of this number, before the first event.
pub record IsFirstTask (rows : List Row) (kind : BlockKind) (name : ℕ) (task : tasks.Task) : Type 0 where
  pub name_is : task.name ≡ name
  pub home : IsHome (is_user_kind kind) rows task (root_task rows)
  pub last : is_user_kind kind ≡ true → task.last ≡ None

-- The tasks of the blocks below this number are home.
abbrev pub AreFirst : List Row → List Block → ℕ → List (Option tasks.Task) → Type 0
AreFirst rows blocks count home = (t : ℕ) (block : Block) → t < count → slice_get blocks t ≡ Some block → (task : tasks.Task) × (slice_index_or home t None ≡ Some task) × IsFirstTask rows block.kind t task

-- the pool after the area of such a block
abbrev pub pool_first : BlockKind → Pool → Pool
pool_first Task pool = leased pool classes.Small
pool_first Child pool = leased pool classes.Small
pool_first Kthread pool = pool
