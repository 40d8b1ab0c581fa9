-- Worked histories of outer commands, signals and tiles.
use Rattle.std.proofs.Common.{◌≡◌, ℕ, List, [], ◌∷◌, reverse, refl, lit<, replicate}
use Rattle.std.specs.Prelude.{Some, None, codes}
use Rattle.xs_base.specs.declared.words.How.TheVariants.{Load, Skip}
use Rattle.xs_base.specs.declared.words.Set.TheVariants.{Xstate, Fx}
use Rattle.xs_base.specs.Task.{root_task, child_of}
use Rattle.xs_base.specs.Task as T
use Rattle.xs_base.specs.Layout.{amx_rows, has_row}
use Rattle.xs_base.specs.Layout as L
use Rattle.xs_base.specs.Register.{place_of, registers}
use Rattle.xs_base.specs.RegisterSet.{set_reply}
use Rattle.xs_base.specs.Standard as S
use Rattle.xs_base.specs.Bytes.{splice, zeros}
use Rattle.xs_base.specs.Component.{initial_part, component_size, sizes}
use Rattle.xs_base.specs.Frame as F
use Rattle.xs_base.specs.Header as H
use Rattle.xs_base.specs.HeaderCheck as HC
use Rattle.xs_base.specs.Image as I
use Rattle.xs_model.specs.declared.script.BlockKind.TheVariants.{Task, Child}
use Rattle.xs_model.specs.declared.script.Command.TheVariants as commands
use Rattle.xs_model.specs.declared.script.Script.{Script}
use Rattle.xs_model.specs.declared.event.Why.TheVariants as whys
use Rattle.xs_model.specs.declared.event.Reply.TheVariants as replies
use Rattle.xs_model.specs.declared.event.Event.TheVariants.{Start, Local, Outer, Grow, Kill, End}
use Rattle.xs_model.proofs.RowScripts.{order, block, row_script, user_signal}
use Rattle.xs_model.specs.Due.{illegal, violation}
use Rattle.xs_model.specs.Replay.{rounds}

-- Tiles run out: a task asks for them in vain, grows, finds no area, or never asked.
abbrev tiles : Script
tiles = row_script 1 8 1 [] (
    block Task (codes "a") (order 7 (commands.Perm 9) (lit< tt) ∷ order 8 (commands.Perm 19) (lit< tt) ∷ order 9 (commands.Perm 18) (lit< tt) ∷ order 10 (commands.Perm 18) (lit< tt) ∷ order 11 (commands.Get (codes "tmm0.0")) (lit< tt) ∷ []) []
    ∷ block Task (codes "b") (order 14 (commands.Perm 18) (lit< tt) ∷ order 15 (commands.Get (codes "tmm0.0")) (lit< tt) ∷ []) []
    ∷ block Task (codes "c") (order 18 (commands.Get (codes "tmm0.0")) (lit< tt) ∷ []) [] ∷ [])

tiles_row : reverse (rounds tiles 8) ≡
    Start 0 0 Load None ∷ Local 0 7 (replies.Error 95) ∷ Local 0 8 (replies.Error 22) ∷ Local 0 9 (replies.Count 0) ∷ Local 0 10 (replies.Count 0) ∷ Grow 0
    ∷ Start 1 0 Load None ∷ Local 1 14 (replies.Count 0) ∷ Kill 1 violation whys.Area ∷ Start 2 0 Load None ∷ Kill 2 illegal whys.Permission
    ∷ Start 0 0 Load None ∷ Local 0 11 (replies.Bytes (replicate 64 0)) ∷ End 0 ∷ []
unfolding rounds root_task has_row amx_rows place_of registers splice zeros initial_part component_size sizes
tiles_row = refl

-- A fork of a task with tiles: the child has their configuration and not their data.
abbrev forked : Script
forked = row_script 1 8 2 [] (
    block Task (codes "p") (order 7 (commands.Perm 18) (lit< tt) ∷ order 8 (commands.Set (codes "tilecfg") (replicate 64 1)) (lit< tt) ∷ order 9 (commands.Set (codes "tmm0.0") (replicate 64 0x5A)) (lit< tt)
    ∷ order 10 (commands.Fork (codes "c")) (lit< tt) ∷ order 11 (commands.Get (codes "tmm0.0")) (lit< tt) ∷ []) []
    ∷ block Child (codes "c") (order 14 (commands.Get (codes "tilecfg")) (lit< tt) ∷ order 15 (commands.Get (codes "tmm0.0")) (lit< tt) ∷ []) [] ∷ [])

forked_row : reverse (rounds forked 10) ≡
    Start 0 0 Load None ∷ Local 0 7 (replies.Count 0) ∷ Grow 0 ∷ Start 0 0 Load None ∷ Local 0 8 replies.Done ∷ Local 0 9 replies.Done ∷ Outer 0 10 replies.Done
    ∷ Start 1 0 Load None ∷ Local 1 14 (replies.Bytes (replicate 64 1)) ∷ Grow 1 ∷ Start 0 0 Load None ∷ Local 0 11 (replies.Bytes (replicate 64 0x5A)) ∷ End 0
    ∷ Start 1 0 Load None ∷ Local 1 15 (replies.Bytes (replicate 64 0)) ∷ End 1 ∷ []
unfolding rounds root_task child_of has_row amx_rows place_of registers splice zeros initial_part component_size sizes
forked_row = refl

-- A tracer writes a register of its stopped child.
abbrev traced : Script
traced = row_script 2 8 0 (1 ∷ 1 ∷ 0 ∷ 0 ∷ 1 ∷ 1 ∷ 1 ∷ 1 ∷ 1 ∷ 1 ∷ 1 ∷ 1 ∷ 0 ∷ 0 ∷ []) (
    block Task (codes "p") (order 8 (commands.Fork (codes "c")) (lit< tt) ∷ order 9 (commands.Wait (codes "c")) (lit< tt) ∷ order 10 (commands.Getregs (codes "c") Fx) (lit< tt)
    ∷ order 11 (commands.Bpoke 160 (0xFF ∷ [])) (lit< tt) ∷ order 12 (commands.Setregs (codes "c") Fx 512) (lit< tt) ∷ order 13 (commands.Cont (codes "c")) (lit< tt) ∷ []) []
    ∷ block Child (codes "c") (order 16 commands.Stop (lit< tt) ∷ order 17 (commands.Get (codes "xmm0")) (lit< tt) ∷ []) [] ∷ [])

traced_row : reverse (rounds traced 2) ≡
    Start 0 1 Load None ∷ Outer 0 8 replies.Done ∷ Start 1 0 Load None ∷ Outer 1 16 replies.Held ∷ Start 0 1 Skip None ∷ Outer 0 9 replies.Stopped
    ∷ Start 0 1 Skip None ∷ Outer 0 10 (replies.Count 512) ∷ Start 0 1 Skip None ∷ Local 0 11 replies.Done ∷ Outer 0 12 (replies.Count 512)
    ∷ Start 0 1 Skip None ∷ Outer 0 13 (replies.Count 0) ∷ Start 1 0 Load None ∷ Local 1 17 (replies.Bytes (0xFF ∷ replicate 15 0)) ∷ End 1
    ∷ Start 0 1 Skip None ∷ End 0 ∷ []
unfolding rounds root_task child_of has_row amx_rows place_of registers splice zeros initial_part component_size sizes set_reply H.mxcsr S.component_byte S.control_bytes
traced_row = refl

-- A signal whose frame the handler has changed.
abbrev signalled : List ℕ → ℕ → Script
signalled bytes at = row_script 1 8 0 [] (
    block Task (codes "a") (order 7 (commands.Kill (codes "a") user_signal) (lit< tt) ∷ [])
    (order 9 (commands.Poke at bytes) (lit< tt) ∷ order 10 commands.Sigreturn (lit< tt) ∷ []) ∷ [])

-- a reserved byte of its header kills
reserved_row : reverse (rounds (signalled (1 ∷ []) 528) 4) ≡
    Start 0 0 Load None ∷ Outer 0 7 (replies.Count 0) ∷ Start 0 0 Skip (Some user_signal) ∷ Local 0 9 replies.Done ∷ Kill 0 violation whys.FrameReserved ∷ []
unfolding rounds root_task has_row amx_rows place_of registers splice zeros initial_part component_size sizes H.mxcsr H.xstate_bv H.xcomp_bv S.component_byte S.control_bytes S.standard_bytes F.word F.long F.frame_bits F.with_words F.frame_bytes F.word_at F.xfeatures HC.header_error I.image_part L.row_of L.set_of L.end_of
reserved_row = refl

-- with a size above the user size x87 and SSE alone come back
legacy_row : reverse (rounds (signalled (1 ∷ []) 480) 4) ≡
    Start 0 0 Load None ∷ Outer 0 7 (replies.Count 0) ∷ Start 0 0 Skip (Some user_signal) ∷ Local 0 9 replies.Done ∷ Local 0 10 replies.Legacy ∷ End 0 ∷ []
unfolding rounds root_task has_row amx_rows place_of registers splice zeros initial_part component_size sizes H.mxcsr H.xstate_bv H.xcomp_bv S.component_byte S.control_bytes S.standard_bytes F.word F.long F.frame_bits F.with_words F.frame_bytes F.word_at F.xfeatures HC.header_error I.image_part L.row_of L.set_of L.end_of
legacy_row = refl

-- A set whose count is wrong, and one with a bit outside the user features, are refused.
abbrev refused_sets : Script
refused_sets = row_script 1 8 0 [] (
    block Task (codes "p") (order 7 (commands.Fork (codes "c")) (lit< tt) ∷ order 8 (commands.Wait (codes "c")) (lit< tt) ∷ order 9 (commands.Setregs (codes "c") Xstate 11007) (lit< tt) ∷ order 10 (commands.Getregs (codes "c") Xstate) (lit< tt)
    ∷ order 11 (commands.Bpoke 514 (4 ∷ [])) (lit< tt) ∷ order 12 (commands.Setregs (codes "c") Xstate 11008) (lit< tt) ∷ order 13 (commands.Cont (codes "c")) (lit< tt) ∷ []) []
    ∷ block Child (codes "c") (order 16 commands.Stop (lit< tt) ∷ []) [] ∷ [])

refused_sets_row : reverse (rounds refused_sets 18) ≡
    Start 0 0 Load None ∷ Outer 0 7 replies.Done ∷ Start 1 0 Load None ∷ Outer 1 16 replies.Held ∷ Start 0 0 Load None ∷ Outer 0 8 replies.Stopped
    ∷ Start 0 0 Skip None ∷ Outer 0 9 (replies.Error 14) ∷ Start 0 0 Skip None ∷ Outer 0 10 (replies.Count 11008) ∷ Start 0 0 Skip None ∷ Local 0 11 replies.Done ∷ Outer 0 12 (replies.Error 22)
    ∷ Start 0 0 Skip None ∷ Outer 0 13 (replies.Count 0) ∷ Start 1 0 Load None ∷ End 1 ∷ Start 0 0 Load None ∷ End 0 ∷ []
unfolding rounds root_task child_of has_row amx_rows place_of registers splice zeros initial_part component_size sizes set_reply H.mxcsr H.xstate_bv H.xcomp_bv S.component_byte S.control_bytes HC.header_error I.image_part L.row_of L.set_of L.end_of T.marks_after
refused_sets_row = refl

-- Marks after an accepted Xstate set are the bits given, and PKRU's; the next turn of the child ends those.
abbrev marks_shown : Script
marks_shown = row_script 1 8 0 [] (
    block Task (codes "p") (order 7 (commands.Fork (codes "c")) (lit< tt) ∷ order 8 (commands.Wait (codes "c")) (lit< tt) ∷ order 9 (commands.Getregs (codes "c") Xstate) (lit< tt)
    ∷ order 10 (commands.Bpoke 512 (4 ∷ [])) (lit< tt) ∷ order 11 (commands.Setregs (codes "c") Xstate 11008) (lit< tt) ∷ order 12 (commands.Getregs (codes "c") Xstate) (lit< tt) ∷ order 13 (commands.Bpeek 512 2) (lit< tt) ∷ order 14 (commands.Cont (codes "c")) (lit< tt)
    ∷ order 15 (commands.Wait (codes "c")) (lit< tt) ∷ order 16 (commands.Getregs (codes "c") Xstate) (lit< tt) ∷ order 17 (commands.Bpeek 512 2) (lit< tt) ∷ order 18 (commands.Cont (codes "c")) (lit< tt) ∷ []) []
    ∷ block Child (codes "c") (order 21 commands.Stop (lit< tt) ∷ order 22 commands.Stop (lit< tt) ∷ []) [] ∷ [])

marks_row : reverse (rounds marks_shown 30) ≡
    Start 0 0 Load None ∷ Outer 0 7 replies.Done ∷ Start 1 0 Load None ∷ Outer 1 21 replies.Held ∷ Start 0 0 Load None ∷ Outer 0 8 replies.Stopped
    ∷ Start 0 0 Skip None ∷ Outer 0 9 (replies.Count 11008) ∷ Start 0 0 Skip None ∷ Local 0 10 replies.Done ∷ Outer 0 11 (replies.Count 11008) ∷ Start 0 0 Skip None ∷ Outer 0 12 (replies.Count 11008)
    ∷ Start 0 0 Skip None ∷ Local 0 13 (replies.Bytes (4 ∷ 2 ∷ [])) ∷ Outer 0 14 (replies.Count 0) ∷ Start 1 0 Load None ∷ Outer 1 22 replies.Held ∷ Start 0 0 Load None ∷ Outer 0 15 replies.Stopped
    ∷ Start 0 0 Skip None ∷ Outer 0 16 (replies.Count 11008) ∷ Start 0 0 Skip None ∷ Local 0 17 (replies.Bytes (0 ∷ 2 ∷ [])) ∷ Outer 0 18 (replies.Count 0) ∷ Start 1 0 Load None ∷ End 1 ∷ Start 0 0 Load None ∷ End 0 ∷ []
unfolding rounds root_task child_of has_row amx_rows place_of registers splice zeros initial_part component_size sizes set_reply H.mxcsr H.xstate_bv H.xcomp_bv S.component_byte S.control_bytes HC.header_error I.image_part L.row_of L.set_of L.end_of T.marks_after
marks_row = refl
