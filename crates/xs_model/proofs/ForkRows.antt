-- Worked histories of PKRU and of forks, and worked names: each script's replay, and which names its bodies may have.
use Rattle.std.proofs.Common.{◌≡◌, true, false, [], ◌∷◌, reverse, refl, lit<, replicate}
use Rattle.std.specs.Prelude.{None, codes}
use Rattle.xs_base.specs.declared.words.How.TheVariants.{Load, Skip, Kern}
use Rattle.xs_base.specs.declared.words.Set.TheVariants.{Fx}
use Rattle.xs_base.specs.Task.{root_task, child_of}
use Rattle.xs_base.specs.Layout.{amx_rows, has_row}
use Rattle.xs_base.specs.Register.{place_of, registers}
use Rattle.xs_base.specs.Bytes.{splice, zeros}
use Rattle.xs_base.specs.Component.{initial_part, component_size, sizes}
use Rattle.xs_model.specs.declared.script.BlockKind.TheVariants.{Task, Child, Kthread}
use Rattle.xs_model.specs.declared.script.Command.TheVariants as commands
use Rattle.xs_model.specs.declared.script.Script.{Script}
use Rattle.xs_model.specs.declared.event.Reply.TheVariants as replies
use Rattle.xs_model.specs.declared.event.Event.TheVariants.{Start, Local, Outer, End}
use Rattle.xs_model.proofs.RowScripts.{order, block, row_script, user_signal}
use Rattle.xs_model.proofs.ProcessorRows.{AreCounts}
use Rattle.xs_model.specs.Names.{AreNamed, all_forked_names}
use Rattle.xs_model.specs.Script.{AreDistinct}
use Rattle.xs_model.specs.Replay.{rounds}
use Rattle.xs_model.specs.Counts.{counts_of}

-- PKRU is the task's own, though its restore is left out.
abbrev keyed : Script
keyed = row_script 1 2 0 [] (
    block Task (codes "a") (order 7 (commands.Set (codes "pkru") (12 ∷ 0 ∷ 0 ∷ 0 ∷ [])) (lit< tt) ∷ order 8 commands.Yield (lit< tt) ∷ order 9 (commands.Get (codes "pkru")) (lit< tt) ∷ []) []
    ∷ block Kthread (codes "k") (order 12 commands.Yield (lit< tt) ∷ []) [] ∷ [])

keyed_row : reverse (rounds keyed 8) ≡
    Start 0 0 Load None ∷ Local 0 7 replies.Done ∷ Local 0 8 replies.Done ∷ Start 1 0 Kern None ∷ Local 1 12 replies.Done
    ∷ Start 0 0 Skip None ∷ Local 0 9 (replies.Bytes (12 ∷ 0 ∷ 0 ∷ 0 ∷ [])) ∷ End 0 ∷ Start 1 0 Kern None ∷ End 1 ∷ []
unfolding rounds root_task has_row amx_rows place_of registers splice zeros initial_part component_size sizes
keyed_row = refl

-- no count sees it
keyed_counts : AreCounts (counts_of keyed (rounds keyed 8) 0) 1 2 0
unfolding rounds root_task has_row amx_rows place_of registers splice zeros initial_part component_size sizes
keyed_counts = (refl, refl, refl)

-- A child has the registers that its parent had at the fork.
abbrev forking : Script
forking = row_script 1 8 0 [] (
    block Task (codes "p") (order 7 (commands.Set (codes "xmm0") (replicate 16 0x33)) (lit< tt) ∷ order 8 (commands.Fork (codes "c")) (lit< tt)
    ∷ order 9 (commands.Set (codes "xmm0") (replicate 16 0x44)) (lit< tt) ∷ order 10 (commands.Get (codes "xmm0")) (lit< tt) ∷ []) []
    ∷ block Child (codes "c") (order 13 (commands.Get (codes "xmm0")) (lit< tt) ∷ order 14 (commands.Get (codes "pkru")) (lit< tt) ∷ []) [] ∷ [])

forking_row : reverse (rounds forking 6) ≡
    Start 0 0 Load None ∷ Local 0 7 replies.Done ∷ Outer 0 8 replies.Done
    ∷ Start 1 0 Load None ∷ Local 1 13 (replies.Bytes (replicate 16 0x33)) ∷ Local 1 14 (replies.Bytes (0x54 ∷ 0x55 ∷ 0x55 ∷ 0x55 ∷ [])) ∷ End 1
    ∷ Start 0 0 Load None ∷ Local 0 9 replies.Done ∷ Local 0 10 (replies.Bytes (replicate 16 0x44)) ∷ End 0 ∷ []
unfolding rounds root_task child_of has_row amx_rows place_of registers splice zeros initial_part component_size sizes
forking_row = refl

forking_counts : AreCounts (counts_of forking (rounds forking 6) 0) 3 3 4
unfolding rounds root_task child_of has_row amx_rows place_of registers splice zeros initial_part component_size sizes
forking_counts = (refl, refl, refl)

-- ---- names

-- its bodies name blocks that they may name, and each child once
forking_named : AreNamed forking.blocks (order 8 (commands.Fork (codes "c")) (lit< tt) ∷ [])
forking_named = (refl, tt)

forking_distinct : AreDistinct (all_forked_names forking.blocks)
forking_distinct = (tt, tt)

-- A root task is no child, a signal wants a handler, and a child is reached only between a wait and a `cont`.
no_child : AreNamed forking.blocks (order 8 (commands.Fork (codes "p")) (lit< tt) ∷ []) → ⊥
no_child named = let is : false ≡ true = named.0 in cc

no_handler : AreNamed forking.blocks (order 8 (commands.Kill (codes "p") user_signal) (lit< tt) ∷ []) → ⊥
no_handler named = let is : false ≡ true = named.0 in cc

not_awaited : AreNamed forking.blocks (order 8 (commands.Fork (codes "c")) (lit< tt) ∷ order 9 (commands.Wait (codes "c")) (lit< tt) ∷ order 10 (commands.Cont (codes "c")) (lit< tt) ∷ order 11 (commands.Getregs (codes "c") Fx) (lit< tt) ∷ []) → ⊥
not_awaited named = let is : false ≡ true = named.1.1.1.0.1 in cc

awaited : AreNamed forking.blocks (order 8 (commands.Fork (codes "c")) (lit< tt) ∷ order 9 (commands.Wait (codes "c")) (lit< tt) ∷ order 10 (commands.Getregs (codes "c") Fx) (lit< tt) ∷ order 11 (commands.Cont (codes "c")) (lit< tt) ∷ [])
awaited = (refl, (refl, ((refl, refl), ((refl, refl), tt))))

-- a child that two lines fork
abbrev forked_twice : Script
forked_twice = row_script 1 8 0 [] (
    block Task (codes "p") (order 7 (commands.Fork (codes "c")) (lit< tt) ∷ []) [] ∷ block Task (codes "q") (order 10 (commands.Fork (codes "c")) (lit< tt) ∷ []) []
    ∷ block Child (codes "c") [] [] ∷ [])

not_twice : AreDistinct (all_forked_names forked_twice.blocks) → ⊥
not_twice distinct = distinct.0.0 refl
