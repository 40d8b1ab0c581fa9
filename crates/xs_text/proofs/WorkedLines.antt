-- Lines of events as they are written by hand, those of forms that no script has yet among them.
use Rattle.std.proofs.Common.{◌≡◌, ℕ, List, [], ◌∷◌, Some, None, codes, refl, lit≤}
use Rattle.std.specs.Prelude.{map}
use Rattle.std.specs.Fmt.{digits}
use Rattle.hex.specs.Hex.{encode_with}
use Rattle.xs_base.specs.declared.words.How.TheVariants as hows
use Rattle.xs_base.specs.declared.words.Signo.{Signo}
use Rattle.xs_base.specs.Layout.{amx_rows}
use Rattle.xs_model.specs.declared.script.Named.TheVariants.{Amx}
use Rattle.xs_model.specs.declared.script.BlockKind.{BlockKind}
use Rattle.xs_model.specs.declared.script.BlockKind.TheVariants as kinds
use Rattle.xs_model.specs.declared.script.Block.{Block}
use Rattle.xs_model.specs.declared.script.Script.{Script}
use Rattle.xs_model.specs.declared.event.Event.{Event}
use Rattle.xs_model.specs.declared.event.Event.TheVariants.{Start, Local, Outer, Grow, Kill, End}
use Rattle.xs_model.specs.declared.event.Reply.{Reply}
use Rattle.xs_model.specs.declared.event.Reply.TheVariants as replies
use Rattle.xs_model.specs.declared.event.Why.{Why}
use Rattle.xs_model.specs.declared.event.Why.TheVariants as causes
use Rattle.xs_text.specs.Text.{event_line}

abbrev block : BlockKind → List ℕ → Block
block kind name = record { kind = kind; name = name; body = []; handler = [] }

-- the tasks `a` and `b`, the kernel thread `k` and the child `p`
abbrev script : Script
script = record {
  machine = Amx;
  layout = amx_rows;
  cpus = 16;
  quantum = 32;
  large = 64;
  sched = [];
  blocks = block kinds.Task (codes "a") ∷ block kinds.Task (codes "b") ∷ block kinds.Kthread (codes "k") ∷ block kinds.Child (codes "p") ∷ [];
}

abbrev signal_10 : Signo
signal_10 = record { number = 10; in_range = (lit≤ tt, lit≤ tt) }

abbrev signal_11 : Signo
signal_11 = record { number = 11; in_range = (lit≤ tt, lit≤ tt) }

abbrev kill : Why → Event
kill why = Kill 0 signal_11 why

abbrev local : ℕ → Reply → Event
local line reply = Local 0 line reply

-- each kind of event, way of a restore and cause of a kill
turns : map (event_line script)
    (Start 0 0 hows.Load None ∷ Start 1 3 hows.Skip (Some signal_10) ∷ Start 2 15 hows.Kern None ∷ Grow 0 ∷ Outer 3 9 (replies.Error 14)
    ∷ kill causes.Permission ∷ kill causes.Area ∷ kill causes.FrameFeatures ∷ kill causes.FrameCompacted ∷ kill causes.FrameReserved
    ∷ kill causes.FrameMxcsr ∷ End 0 ∷ [])
    ≡ codes "start a 0 load -" ∷ codes "start b 3 skip 10" ∷ codes "start k 15 kern -" ∷ codes "grow a" ∷ codes "outer p 9 !14"
    ∷ codes "kill a 11 permission" ∷ codes "kill a 11 area" ∷ codes "kill a 11 frame-features" ∷ codes "kill a 11 frame-compacted"
    ∷ codes "kill a 11 frame-reserved" ∷ codes "kill a 11 frame-mxcsr" ∷ codes "end a" ∷ []
unfolding digits encode_with amx_rows
turns = refl

-- each kind of reply, and line numbers of one digit to ten
replies_told : map (event_line script)
    (local 7 (replies.Bytes (0 ∷ 255 ∷ [])) ∷ local 42 replies.Done ∷ local 999 (replies.Count 0) ∷ local 1024 (replies.Count 16384)
    ∷ local 10000 replies.Blocked ∷ local 123456 replies.Stopped ∷ local 1000000 replies.Ended ∷ local 98765432 replies.Held
    ∷ local 100000001 replies.Full ∷ local 4294967295 replies.Legacy ∷ [])
    ≡ codes "local a 7 =00ff" ∷ codes "local a 42 -" ∷ codes "local a 999 +0" ∷ codes "local a 1024 +16384"
    ∷ codes "local a 10000 blocked" ∷ codes "local a 123456 stopped" ∷ codes "local a 1000000 ended" ∷ codes "local a 98765432 held"
    ∷ codes "local a 100000001 full" ∷ codes "local a 4294967295 legacy" ∷ []
unfolding digits encode_with amx_rows
replies_told = refl
