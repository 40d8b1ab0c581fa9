-- Worked histories of several processors and of kernel threads: each script's replay, computed.
use Rattle.std.proofs.Common.{◌≡◌, ℕ, true, [], ◌∷◌, reverse, refl, lit<}
use Rattle.std.specs.Prelude.{None, codes}
use Rattle.xs_base.specs.declared.words.How.TheVariants.{Load, Skip, Kern}
use Rattle.xs_base.specs.Task.{root_task}
use Rattle.xs_base.specs.Layout.{amx_rows, has_row}
use Rattle.xs_model.specs.declared.script.BlockKind.TheVariants.{Task, Kthread}
use Rattle.xs_model.specs.declared.script.Command.{Command}
use Rattle.xs_model.specs.declared.script.Command.TheVariants as commands
use Rattle.xs_model.specs.declared.script.Script.{Script}
use Rattle.xs_model.specs.declared.event.Reply.TheVariants as replies
use Rattle.xs_model.specs.declared.event.Event.TheVariants.{Start, Local, End}
use Rattle.xs_model.proofs.RowScripts.{order, block, row_script}
use Rattle.xs_model.specs.State.{none_lives}
use Rattle.xs_model.specs.Machine.{machine}
use Rattle.xs_model.specs.Replay.{rounds}
use Rattle.xs_model.specs.Counts.{counts_of}
use Rattle.xs_base.specs.Counts.{Counts}
use Rattle.xs_base.specs.Register.{place_of, registers}
use Rattle.xs_base.specs.Bytes.{splice}
use Rattle.xs_base.specs.Component.{initial_part}

-- A section, then a move to another processor and back.
abbrev moving : Script
moving = row_script 2 1 0 (0 ∷ 0 ∷ 1 ∷ 1 ∷ []) (block Task (codes "a") (order 8 (commands.Ksec 1) (lit< tt) ∷ order 9 commands.Yield (lit< tt) ∷ []) [] ∷ [])

moving_row : reverse (rounds moving 2) ≡ Start 0 0 Load None ∷ Local 0 8 replies.Done ∷ Start 0 1 Load None ∷ Local 0 9 replies.Done ∷ Start 0 0 Load None ∷ End 0 ∷ []
unfolding rounds root_task has_row
moving_row = refl

moving_ends : none_lives (machine moving (rounds moving 2)) ≡ true
unfolding rounds root_task has_row
moving_ends = refl

-- what three counts are
abbrev pub AreCounts : Counts → ℕ → ℕ → ℕ → Type 0
AreCounts counts loads saves execs = (counts.loads ≡ loads) × (counts.saves ≡ saves) × (counts.execs ≡ execs)

moving_counts : AreCounts (counts_of moving (rounds moving 2) 0) 2 2 1 × AreCounts (counts_of moving (rounds moving 2) 1) 1 1 0
unfolding rounds root_task has_row
moving_counts = ((refl, refl, refl), (refl, refl, refl))

-- A section in the middle of a turn: the registers are loaded again before the next line.
abbrev inside : Script
inside = row_script 1 8 0 [] (block Task (codes "a") (order 7 (commands.Ksec 1) (lit< tt) ∷ order 8 commands.Yield (lit< tt) ∷ []) [] ∷ [])

inside_row : reverse (rounds inside 4) ≡ Start 0 0 Load None ∷ Local 0 7 replies.Done ∷ Local 0 8 replies.Done ∷ Start 0 0 Skip None ∷ End 0 ∷ []
unfolding rounds root_task has_row
inside_row = refl

inside_counts : AreCounts (counts_of inside (rounds inside 4) 0) 2 3 1
unfolding rounds root_task has_row
inside_counts = (refl, refl, refl)

-- A kernel thread between two turns of a task.
abbrev kernel : Command → Script
kernel command = row_script 1 8 0 [] (block Task (codes "a") (order 7 commands.Yield (lit< tt) ∷ []) [] ∷ block Kthread (codes "k") (order 10 command (lit< tt) ∷ []) [] ∷ [])

-- one that only yields leaves the task's registers
yielding_row : reverse (rounds (kernel commands.Yield) 8) ≡
    Start 0 0 Load None ∷ Local 0 7 replies.Done ∷ Start 1 0 Kern None ∷ Local 1 10 replies.Done ∷ Start 0 0 Skip None ∷ End 0 ∷ Start 1 0 Kern None ∷ End 1 ∷ []
unfolding rounds root_task has_row
yielding_row = refl

yielding_counts : AreCounts (counts_of (kernel commands.Yield) (rounds (kernel commands.Yield) 8) 0) 1 2 0
unfolding rounds root_task has_row
yielding_counts = (refl, refl, refl)

-- one with a section doesn't
section_row : reverse (rounds (kernel (commands.Ksec 0xAA)) 6) ≡
    Start 0 0 Load None ∷ Local 0 7 replies.Done ∷ Start 1 0 Kern None ∷ Local 1 10 replies.Done ∷ End 1 ∷ Start 0 0 Load None ∷ End 0 ∷ []
unfolding rounds root_task has_row
section_row = refl

section_counts : AreCounts (counts_of (kernel (commands.Ksec 0xAA)) (rounds (kernel (commands.Ksec 0xAA)) 6) 0) 2 2 1
unfolding rounds root_task has_row
section_counts = (refl, refl, refl)

-- A stale mark: at the third Start processor 0 still has the task's mark, but the task was elsewhere.
abbrev stale : Script
stale = row_script 2 1 0 (0 ∷ 0 ∷ 1 ∷ 1 ∷ 0 ∷ 0 ∷ []) (block Task (codes "a") (
    order 8 (commands.Set (codes "k0") (1 ∷ 0 ∷ 0 ∷ 0 ∷ 0 ∷ 0 ∷ 0 ∷ 0 ∷ [])) (lit< tt) ∷ order 9 (commands.Get (codes "k0")) (lit< tt) ∷ order 10 (commands.Get (codes "k0")) (lit< tt) ∷ []) [] ∷ [])

stale_row : reverse (rounds stale 2) ≡
    Start 0 0 Load None ∷ Local 0 8 replies.Done ∷ Start 0 1 Load None ∷ Local 0 9 (replies.Bytes (1 ∷ 0 ∷ 0 ∷ 0 ∷ 0 ∷ 0 ∷ 0 ∷ 0 ∷ []))
    ∷ Start 0 0 Load None ∷ Local 0 10 (replies.Bytes (1 ∷ 0 ∷ 0 ∷ 0 ∷ 0 ∷ 0 ∷ 0 ∷ 0 ∷ [])) ∷ Start 0 0 Skip None ∷ End 0 ∷ []
unfolding rounds root_task has_row amx_rows place_of registers splice initial_part
stale_row = refl
