-- How a call of the checker ends, by its status. This project's own.
use Rattle.std.specs.Prelude.{◌≡◌, ℕ, ⊤, List}
use Rattle.std.specs.Io.KnownBytes.{Appends}
use Rattle.xs_io.specs.Causes.{Rose}
use Rattle.xs_outside.specs.declared.status.Status.{Status}
use Rattle.xs_outside.specs.declared.status.Status.TheVariants as statuses
use Rattle.xs_outside.specs.Outside.{FailsIn, Output, Outside, ReadAndEnds, TakesAtMost, Writes, WritesNothing}
use Rattle.xs_model.specs.declared.script.Script.{Script}
use Rattle.xs_check.specs.declared.following.Finding.{Finding}
use Rattle.xs_check.specs.declared.following.Finding.TheVariants as findings
use Rattle.xs_check.specs.Verdict.{IsBroken, IsFound, IsVerdict, IsWholeText, check_limit, illegal_text, legal_text}

abbrev pub finding_text : Finding → List ℕ
finding_text (findings.Whole lines) = legal_text lines
finding_text (findings.Broken line) = illegal_text line

-- The line of the input's verdict was written whole, and the status is the verdict's.
abbrev pub Tells : List ℕ → Output → Output → Status → Type 0
Tells input before after status = (text : List ℕ) × IsVerdict input status text × Writes before after text

-- the answer to an input
abbrev pub AnswerEnds : List ℕ → Output → Output → Status → Type 0
AnswerEnds input before after statuses.Done = Tells input before after statuses.Done
AnswerEnds input before after statuses.Killed = ⊥
AnswerEnds input before after statuses.Refused = Tells input before after statuses.Refused
AnswerEnds input before after statuses.Illegal = Tells input before after statuses.Illegal
AnswerEnds input before after statuses.ReadFault = ⊥
AnswerEnds input before after statuses.WriteFault = (status : Status) × (text : List ℕ) × IsVerdict input status text × FailsIn before after text
AnswerEnds input before after statuses.NoMemory = WritesNothing before after
AnswerEnds input before after statuses.Usage = ⊥

-- the answer to the text of a history
abbrev pub TellsOf : Script → List ℕ → Output → Output → Status → Type 0
TellsOf script text before after statuses.Done = (lines : ℕ) × IsWholeText script text lines × Writes before after (legal_text lines)
TellsOf script text before after statuses.Illegal = (line : ℕ) × IsBroken script text line × Writes before after (illegal_text line)
TellsOf script text before after statuses.WriteFault = (finding : Finding) × IsFound script text finding × FailsIn before after (finding_text finding)
TellsOf script text before after statuses.NoMemory = WritesNothing before after
TellsOf script text before after other = ⊥

-- The input was read, to its end or one byte beyond the limit, and its verdict was told. Where a read failed or memory was wanting,
-- nothing was.
abbrev pub CheckEnds : Outside → Outside → Status → Type 0
CheckEnds before after statuses.ReadFault = Rose before.input.faults after.input.faults × TakesAtMost check_limit before.input after.input × WritesNothing before.output after.output
CheckEnds before after statuses.NoMemory = (after.input.faults ≡ before.input.faults) × TakesAtMost check_limit before.input after.input × WritesNothing before.output after.output
CheckEnds before after status = ReadAndEnds check_limit before after (λ input. AnswerEnds input before.output after.output status)

-- What may be answered to a known input whose verdict is this status with this line: they, a fault, or want of memory.
abbrev pub MayTell : Status → List ℕ → Output → Output → Status → Type 0
MayTell right text before after statuses.ReadFault = ⊤
MayTell right text before after statuses.WriteFault = ⊤
MayTell right text before after statuses.NoMemory = ⊤
MayTell right text before after status = (status ≡ right) × Appends before.written after.written text

-- What may be answered to a known input whose script is accepted: what is found of its history, a fault, or want of memory.
abbrev pub MayJudge : Status → Type 0
MayJudge statuses.Done = ⊤
MayJudge statuses.Killed = ⊥
MayJudge statuses.Refused = ⊥
MayJudge statuses.Illegal = ⊤
MayJudge statuses.ReadFault = ⊤
MayJudge statuses.WriteFault = ⊤
MayJudge statuses.NoMemory = ⊤
MayJudge statuses.Usage = ⊥
