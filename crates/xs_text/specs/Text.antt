-- The text of a history: one line for each event, in its one spelling. The text is this project's own.
use Rattle.std.specs.Prelude.{ℕ, ◌^◌, ◌<◌, ◌≤◌, length, List, [], ◌∷◌, ◌++◌, map, codes, decimal, slice_index_or, Option, Some, None}
use Rattle.std.specs.List.{flat_map, AllByRecursion}
use Rattle.hex.specs.Hex.{encode_lower}
use Rattle.xs_base.specs.declared.words.How.{How}
use Rattle.xs_base.specs.declared.words.How.TheVariants as hows
use Rattle.xs_base.specs.declared.words.Signo.{Signo}
use Rattle.xs_model.specs.declared.script.Block.{Block}
use Rattle.xs_model.specs.declared.script.Script.{Script}
use Rattle.xs_model.specs.declared.event.Event.{Event}
use Rattle.xs_model.specs.declared.event.Event.TheVariants as events
use Rattle.xs_model.specs.declared.event.Reply.{Reply}
use Rattle.xs_model.specs.declared.event.Reply.TheVariants as replies
use Rattle.xs_model.specs.declared.event.Why.{Why}
use Rattle.xs_model.specs.declared.event.Why.TheVariants as causes

abbrev pub how_word : How → List ℕ
how_word hows.Load = codes "load"
how_word hows.Skip = codes "skip"
how_word hows.Kern = codes "kern"

abbrev pub signal_word : Option Signo → List ℕ
signal_word None = codes "-"
signal_word (Some signo) = decimal signo.number

abbrev pub reply_word : Reply → List ℕ
reply_word replies.Done = codes "-"
reply_word (replies.Bytes bytes) = codes "=" ++ encode_lower bytes
reply_word (replies.Count n) = codes "+" ++ decimal n
reply_word (replies.Error n) = codes "!" ++ decimal n
reply_word replies.Blocked = codes "blocked"
reply_word replies.Stopped = codes "stopped"
reply_word replies.Ended = codes "ended"
reply_word replies.Held = codes "held"
reply_word replies.Full = codes "full"
reply_word replies.Legacy = codes "legacy"

abbrev pub cause_word : Why → List ℕ
cause_word causes.Permission = codes "permission"
cause_word causes.Area = codes "area"
cause_word causes.FrameFeatures = codes "frame-features"
cause_word causes.FrameCompacted = codes "frame-compacted"
cause_word causes.FrameReserved = codes "frame-reserved"
cause_word causes.FrameMxcsr = codes "frame-mxcsr"

-- words with one space between
abbrev pub words : List ℕ → List (List ℕ) → List ℕ
words first [] = first
words first (next ∷ more) = first ++ 32 ∷ words next more

-- the name of a task, by the number of its block
abbrev pub name_of : Script → ℕ → List ℕ
name_of script task = slice_index_or (map (λ (block : Block). block.name) script.blocks) task []

-- the number of the event's task
abbrev pub task_of : Event → ℕ
task_of (events.Start task cpu how signal) = task
task_of (events.Local task line reply) = task
task_of (events.Outer task line reply) = task
task_of (events.Grow task) = task
task_of (events.Kill task signo why) = task
task_of (events.End task) = task

-- Each event's task is a block of the script.
abbrev pub AreTasksKnown : Script → List Event → Type 0
AreTasksKnown script history = AllByRecursion (λ event. task_of event < length script.blocks) history

abbrev pub event_line : Script → Event → List ℕ
event_line script (events.Start task cpu how signal) = words (codes "start") (name_of script task ∷ decimal cpu ∷ how_word how ∷ signal_word signal ∷ [])
event_line script (events.Local task line reply) = words (codes "local") (name_of script task ∷ decimal line ∷ reply_word reply ∷ [])
event_line script (events.Outer task line reply) = words (codes "outer") (name_of script task ∷ decimal line ∷ reply_word reply ∷ [])
event_line script (events.Grow task) = words (codes "grow") (name_of script task ∷ [])
event_line script (events.Kill task signo why) = words (codes "kill") (name_of script task ∷ decimal signo.number ∷ cause_word why ∷ [])
event_line script (events.End task) = words (codes "end") (name_of script task ∷ [])

-- the line of each event, in order, each ended by one line feed
abbrev pub history_text : Script → List Event → List ℕ
history_text script history = flat_map (λ event. event_line script event ++ 10 ∷ []) history

-- A reply has a spelling: its number has 32 bits, and its bytes are 1 to 64.
abbrev pub IsReply : Reply → Type 0
IsReply replies.Done = Unit {0}
IsReply (replies.Bytes bytes) = (0 < length bytes) × (length bytes ≤ 64) × AllByRecursion (λ byte. byte < 256) bytes
IsReply (replies.Count n) = n < 2 ^ 32
IsReply (replies.Error n) = n < 2 ^ 32
IsReply replies.Blocked = Unit {0}
IsReply replies.Stopped = Unit {0}
IsReply replies.Ended = Unit {0}
IsReply replies.Held = Unit {0}
IsReply replies.Full = Unit {0}
IsReply replies.Legacy = Unit {0}

-- An event has a spelling: its task is a block of the script, and its numbers and its reply have one. Any signal has.
abbrev pub IsEvent : Script → Event → Type 0
IsEvent script (events.Start task cpu how signal) = (task < length script.blocks) × (cpu < 2 ^ 32)
IsEvent script (events.Local task line reply) = (task < length script.blocks) × (line < 2 ^ 32) × IsReply reply
IsEvent script (events.Outer task line reply) = (task < length script.blocks) × (line < 2 ^ 32) × IsReply reply
IsEvent script (events.Grow task) = task < length script.blocks
IsEvent script (events.Kill task signo why) = task < length script.blocks
IsEvent script (events.End task) = task < length script.blocks

abbrev pub AreEvents : Script → List Event → Type 0
AreEvents script history = AllByRecursion (IsEvent script) history
