-- The names of the tasks: a letter and a number.
use Rattle.std.proofs.Common.{◌≡◌, ℕ, ◌<◌, true, List, ◌++◌, codes, decimal, refl, arith}
use Rattle.std.specs.Fmt.{digits}
use Rattle.std.proofs.lemmas.Fmt.{decimal_injective}
use Rattle.xs_base.proofs.Registers.{list_all_range}
use Rattle.xs_model.specs.Script.{is_name}

-- the name of a task
abbrev pub task_name : ℕ → List ℕ
task_name j = codes "t" ++ decimal j

pub task_is_named : (j : ℕ) → j < 64 → is_name (task_name j) ≡ true
unfolding digits
task_is_named j lt = list_all_range (λ k. is_name (task_name k)) 0 64 j (omega arith) (omega arith) refl

-- No two tasks have one name.
pub task_name_injective : (j k : ℕ) → j < 64 → k < 64 → task_name j ≡ task_name k → j ≡ k
task_name_injective j k small below e =
    let same : decimal j ≡ decimal k = cc in
    decimal_injective j k (omega arith) (omega arith) same
