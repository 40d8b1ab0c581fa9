-- The script that the generator makes of a number: 64 tasks that use registers of every kind, with bytes of a linear congruential
-- generator (the multiplier and the increment are those of D. E. Knuth's MMIX; The Art of Computer Programming, volume 2, 3.3.4). All
-- else is this project's own.
use Rattle.std.specs.Prelude.{ℕ, zero, suc, ◌+◌, ◌*◌, ◌/◌, ◌%◌, ◌^◌, ◌==◌, List, [], ◌∷◌, ◌++◌, map, codes, decimal, if◌then◌else◌}
use Rattle.xs_model.specs.declared.script.Named.TheVariants as machines
use Rattle.xs_model.specs.declared.script.BlockKind.TheVariants as kinds
use Rattle.xs_model.specs.declared.script.Command.{Command}
use Rattle.xs_model.specs.declared.script.Command.TheVariants as commands
use Rattle.xs_script.specs.declared.line.Line.{Line}
use Rattle.xs_script.specs.declared.line.Line.TheVariants as lines
use Rattle.xs_script.specs.Grammar.{lines_text}

-- ---- draws

-- the state after a draw
abbrev pub next : ℕ → ℕ
next state = (state * 6364136223846793005 + 1442695040888963407) % 2 ^ 64

-- what a draw gives: the eight highest bits of the state after it
abbrev pub drawn : ℕ → ℕ
drawn state = next state / 2 ^ 56

-- the state after so many draws
unfoldable pub after : ℕ → ℕ → ℕ
after zero state = state
after (suc k) state = after k (next state)

-- what so many draws give, in order
unfoldable pub draws : ℕ → ℕ → List ℕ
draws zero state = []
draws (suc k) state = drawn state ∷ draws k (next state)

-- ---- a round of a task

-- an SSE register, by the four lowest bits of a draw
abbrev pub xmm_name : ℕ → List ℕ
xmm_name byte = codes "xmm" ++ decimal (byte % 16)

-- The third line of round r: in turn a yield, a kernel section, a write of k0 and a read of PKRU.
abbrev pub third_line : ℕ → ℕ → Command
third_line r state =
    if r % 4 == 0 then commands.Yield
    else if r % 4 == 1 then commands.Ksec (drawn state)
    else if r % 4 == 2 then commands.Set (codes "k0") (draws 8 state)
    else commands.Get (codes "pkru")

-- how many draws it takes
abbrev pub third_draws : ℕ → ℕ
third_draws r = if r % 4 == 1 then 1 else if r % 4 == 2 then 8 else 0

-- Round r: a draw names a register, which is set to sixteen more and read, and the third line follows.
abbrev pub round_lines : ℕ → ℕ → List Command
round_lines r state =
    commands.Set (xmm_name (drawn state)) (draws 16 (next state))
    ∷ commands.Get (xmm_name (drawn state))
    ∷ third_line r (after 17 state) ∷ []

-- the state after round r
abbrev pub after_round : ℕ → ℕ → ℕ
after_round r state = after (17 + third_draws r) state

-- so many rounds from round r on, and the state after them
unfoldable pub rounds : ℕ → ℕ → ℕ → List Command
rounds zero r state = []
rounds (suc n) r state = round_lines r state ++ rounds n (r + 1) (after_round r state)

unfoldable pub after_rounds : ℕ → ℕ → ℕ → ℕ
after_rounds zero r state = state
after_rounds (suc n) r state = after_rounds n (r + 1) (after_round r state)

-- ---- a task

-- a row of tiles is set and read at the end
abbrev pub tile_lines : ℕ → List Command
tile_lines state = commands.Set (codes "tmm0.0") (draws 64 state) ∷ commands.Get (codes "tmm0.0") ∷ []

-- the lines of a task: it asks for leave to use tiles, has 104 rounds, and uses a tile
abbrev pub task_lines : ℕ → List Command
task_lines state = commands.Perm 18 ∷ (rounds 104 0 state ++ tile_lines (after_rounds 104 0 state))

abbrev pub after_task : ℕ → ℕ
after_task state = after 64 (after_rounds 104 0 state)

-- task j
abbrev pub task_block : ℕ → ℕ → List Line
task_block j state = lines.Begin kinds.Task (codes "t" ++ decimal j) ∷ (map lines.Order (task_lines state) ++ lines.End ∷ [])

-- so many tasks from task j on
unfoldable pub task_blocks : ℕ → ℕ → ℕ → List Line
task_blocks zero j state = []
task_blocks (suc n) j state = task_block j state ++ task_blocks n (j + 1) (after_task state)

-- ---- the script

-- the script of a number, line by line
abbrev pub generated_lines : ℕ → List Line
generated_lines number =
    lines.Version ∷ lines.Machine machines.Amx ∷ lines.Cpus 8 ∷ lines.Quantum 8 ∷ lines.Large 64
    ∷ task_blocks 64 0 number

-- its text
abbrev pub generated_text : ℕ → List ℕ
generated_text number = lines_text (generated_lines number)
