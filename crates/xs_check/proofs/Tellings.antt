-- What is told of an input.
use Rattle.std.proofs.Common.{◌≡◌, ℕ, ◌-◌, ◌≤◌, List, ◌++◌, length, length-append, take, drop, Some, None, refl, sym, ap, ◌∙◌, subst, arith, inl, inr}
use Rattle.std.proofs.lemmas.Bool.{cases_lt}
use Rattle.std.proofs.lemmas.List.{append-nil, length-drop, take_all}
use Rattle.std.specs.Prelude.{Option}
use Rattle.std.specs.Io.KnownBytes.{Appends, Consumes, IsAtEnd}
use Rattle.xs_model.specs.declared.script.Script.{Script}
use Rattle.xs_outside.specs.declared.status.Status.{Status}
use Rattle.xs_outside.specs.declared.status.Status.TheVariants as statuses
use Rattle.xs_outside.specs.Outside.{Output, Writes}
use Rattle.xs_outside.specs.Statuses.{TellEnds, too_long_text}
use Rattle.xs_script.specs.Grammar.{Spells}
use Rattle.xs_script.specs.RefusalText.{refusal_text}
use Rattle.xs_check.specs.declared.following.Finding.TheVariants as findings
use Rattle.xs_check.specs.Call.{AnswerEnds, MayJudge, MayTell, Tells, TellsOf}
use Rattle.xs_check.specs.Verdict.{HasParts, IsIllegalOne, IsLegalOne, IsVerdict, LongInput, LongScript, NoScript, check_limit, illegal_text, legal_text}

-- the rest of a list up to its end
pub rest_all : (n : ℕ) (xs : List ℕ) → take (length xs - n) (drop n xs) ≡ drop n xs
rest_all n xs = take_all (length xs - n) (drop n xs) (let long = length-drop n xs in omega arith)

-- a verdict that was written
wrote : (input text : List ℕ) (status : Status) (before after : Output) → IsVerdict input status text → Writes before after text → AnswerEnds input before after status
wrote input text status before after (LongInput long) writes = (too_long_text, LongInput long, writes)
wrote input text status before after (LongScript a b short split long) writes = (too_long_text, LongScript a b short split long, writes)
wrote input text status before after (NoScript a b line kind parts refuses) writes = (refusal_text line kind, NoScript a b line kind parts refuses, writes)
wrote input text status before after (IsLegalOne a b script lines parts spelled whole) writes = (legal_text lines, IsLegalOne a b script lines parts spelled whole, writes)
wrote input text status before after (IsIllegalOne a b script line parts spelled broken) writes = (illegal_text line, IsIllegalOne a b script line parts spelled broken, writes)

-- and one that was told, or a front of it
pub tell_ends : (input text : List ℕ) (status : Status) (before after : Output) (result : Status) → IsVerdict input status text → TellEnds status text before after result → AnswerEnds input before after result
tell_ends input text status before after result verdict told = elim told [
  | inl whole ↦ subst (AnswerEnds input before after) (sym whole.0) (wrote input text status before after verdict whole.1)
  | inr front ↦ subst (AnswerEnds input before after) (sym front.0) (status, text, verdict, front.1)
]

-- the answer to the text of a history
pub history_ends : (input script_text text : List ℕ) (script : Script) (before after : Output) (result : Status) → HasParts input script_text text → Spells script_text script
    → TellsOf script text before after result → AnswerEnds input before after result
history_ends input a b script before after statuses.Done parts spelled ends = (legal_text ends.0, IsLegalOne a b script ends.0 parts spelled ends.1, ends.2)
history_ends input a b script before after statuses.Killed parts spelled ends = absurd ends
history_ends input a b script before after statuses.Refused parts spelled ends = absurd ends
history_ends input a b script before after statuses.Illegal parts spelled ends = (illegal_text ends.0, IsIllegalOne a b script ends.0 parts spelled ends.1, ends.2)
history_ends input a b script before after statuses.ReadFault parts spelled ends = absurd ends
history_ends input a b script before after statuses.WriteFault parts spelled (findings.Whole lines, found, fails) = (statuses.Done, legal_text lines, IsLegalOne a b script lines parts spelled found, fails)
history_ends input a b script before after statuses.WriteFault parts spelled (findings.Broken line, found, fails) = (statuses.Illegal, illegal_text line, IsIllegalOne a b script line parts spelled found, fails)
history_ends input a b script before after statuses.NoMemory parts spelled ends = ends
history_ends input a b script before after statuses.Usage parts spelled ends = absurd ends

-- ---- an input that is known

abbrev pub OneVerdict : Type 0
OneVerdict = (input one other : List ℕ) (status right : Status) → IsVerdict input status one → IsVerdict input right other → (status ≡ right) × (one ≡ other)

-- how what was read is a front of it: the whole of it, if it is no longer than the limit
record Known (input taken : List ℕ) : Type 0 where
  whole : length taken ≤ check_limit → taken ≡ input
  long : length taken ≤ length input

known : (input taken : List ℕ) (rest : Option (List ℕ)) → Consumes (Some input) rest taken → (length taken ≤ check_limit → IsAtEnd rest) → Known input taken
known input taken None read whole = absurd read
known input taken (Some rest) read whole = record {
  whole = λ short. sym (read ∙ ap (λ (r : List ℕ). taken ++ r) (whole short) ∙ append-nil taken);
  long = (let e : length input ≡ length (taken ++ rest) = ap length read in omega (arith, length-append taken rest));
}

-- it has the verdict of what was read
same_verdict : OneVerdict → (input taken one other : List ℕ) (status right : Status) → Known input taken → IsVerdict taken status one → IsVerdict input right other → (status ≡ right) × (one ≡ other)
same_verdict once input taken one other status right h told verdict = elim (cases_lt check_limit (length taken)) [
  | inl long ↦
      let mine = once taken one too_long_text status statuses.Refused told (LongInput long) in
      let its = once input too_long_text other statuses.Refused right (LongInput (let more = h.long in omega arith)) verdict in
      (mine.0 ∙ its.0, mine.1 ∙ its.1)
  | inr short ↦ once input one other status right (subst (λ (bytes : List ℕ). IsVerdict bytes status one) (h.whole short) told) verdict
]

told_once : OneVerdict → (input taken text : List ℕ) (status right : Status) (before after : Output) → Known input taken → IsVerdict input right text → Tells taken before after status
    → (status ≡ right) × Appends before.written after.written text
told_once once input taken text status right before after h verdict tells =
    let same = same_verdict once input taken tells.0 text status right h tells.1 verdict in
    (same.0, subst (λ (line : List ℕ). Appends before.written after.written line) same.1 tells.2.whole)

pub may_tell : OneVerdict → (input taken text : List ℕ) (right : Status) (left rest : Option (List ℕ)) (before after : Output) (result : Status) → left ≡ Some input
    → Consumes left rest taken → (length taken ≤ check_limit → IsAtEnd rest) → IsVerdict input right text → AnswerEnds taken before after result → MayTell right text before after result
may_tell once input taken text right left rest before after statuses.Done is read whole verdict ends = told_once once input taken text statuses.Done right before after (known input taken rest (rw is at read) whole) verdict ends
may_tell once input taken text right left rest before after statuses.Killed is read whole verdict ends = absurd ends
may_tell once input taken text right left rest before after statuses.Refused is read whole verdict ends = told_once once input taken text statuses.Refused right before after (known input taken rest (rw is at read) whole) verdict ends
may_tell once input taken text right left rest before after statuses.Illegal is read whole verdict ends = told_once once input taken text statuses.Illegal right before after (known input taken rest (rw is at read) whole) verdict ends
may_tell once input taken text right left rest before after statuses.ReadFault is read whole verdict ends = tt
may_tell once input taken text right left rest before after statuses.WriteFault is read whole verdict ends = tt
may_tell once input taken text right left rest before after statuses.NoMemory is read whole verdict ends = tt
may_tell once input taken text right left rest before after statuses.Usage is read whole verdict ends = absurd ends

abbrev pub NoRefusal : Type 0
NoRefusal = (input script_text text line : List ℕ) (script : Script) (status : Status) → HasParts input script_text text → Spells script_text script → IsVerdict input status line → status ≡ statuses.Refused → ⊥

pub may_judge : NoRefusal → (input taken script_text text : List ℕ) (script : Script) (left rest : Option (List ℕ)) (before after : Output) (result : Status) → left ≡ Some input
    → Consumes left rest taken → (length taken ≤ check_limit → IsAtEnd rest) → HasParts input script_text text → Spells script_text script → AnswerEnds taken before after result → MayJudge result
may_judge never input taken a b script left rest before after statuses.Done is read whole parts spelled ends = tt
may_judge never input taken a b script left rest before after statuses.Killed is read whole parts spelled ends = absurd ends
may_judge never input taken a b script left rest before after statuses.Refused is read whole parts spelled ends =
    let h = known input taken rest (rw is at read) whole in
    let short : length taken ≤ check_limit = (let most = parts.short in let long = h.long in omega arith) in
    never input a b ends.0 script statuses.Refused parts spelled (subst (λ (bytes : List ℕ). IsVerdict bytes statuses.Refused ends.0) (h.whole short) ends.1) refl
may_judge never input taken a b script left rest before after statuses.Illegal is read whole parts spelled ends = tt
may_judge never input taken a b script left rest before after statuses.ReadFault is read whole parts spelled ends = tt
may_judge never input taken a b script left rest before after statuses.WriteFault is read whole parts spelled ends = tt
may_judge never input taken a b script left rest before after statuses.NoMemory is read whole parts spelled ends = tt
may_judge never input taken a b script left rest before after statuses.Usage is read whole parts spelled ends = absurd ends
