-- A history and the text of its counts.
use Rattle.std.proofs.Common.{◌≡◌, ℕ, zero, suc, ◌+◌, ◌≤◌, ◌⊎◌, inl, inr, List, [], ◌∷◌, ◌++◌, length, reverse, take, Some, None, refl, sym, ap, ◌∙◌, subst, arith}
use Rattle.std.proofs.lemmas.List.{append-nil, take_more}
use Rattle.std.proofs.lemmas.Option.{slice_get_cases}
use Rattle.std.proofs.lemmas.Grind.{flat_map-append}
use Rattle.std.specs.List.{flat_map}
use Rattle.std.specs.Prelude.{Option, IfNone}
use Rattle.xs_bank.specs.Bank as banks
use Rattle.xs_bank.specs.Bank.{Bank}
use Rattle.xs_machine.specs.declared.proc.Proc.{Proc}
use Rattle.xs_machine.specs.Processors.{HaveRun}
use Rattle.xs_model.specs.declared.event.Event.{Event}
use Rattle.xs_model.specs.declared.script.Script.{Script}
use Rattle.xs_model.specs.Counts.{counts_of}
use Rattle.xs_script.specs.Grammar.{Spells}
use Rattle.xs_top.specs.declared.play.Play.TheVariants.{Replay}
use Rattle.xs_outside.specs.declared.status.Status.{Status}
use Rattle.xs_outside.specs.declared.status.Status.TheVariants as statuses
use Rattle.xs_outside.specs.Outside.{Output}
use Rattle.xs_outside.specs.Statuses.{TellEnds}
use Rattle.xs_top.specs.Run.{AreNumbered}
use Rattle.xs_top.specs.Answers.{AnswerEnds, AnswersRun, IsAccepted, RunsTo}
use Rattle.xs_counts.specs.Answers.{InputEnds, IsCounted, WroteCounts}
use Rattle.xs_counts.specs.Text.{counts_line, counts_text, first_lines, mark_line, processor_line, processors_text}
use Rattle.xs_counts.proofs.KnownBytes.{writes_both, fails_in_first, fails_in_second}

-- After a run the first processors tell of themselves what the history tells of them.
first_tell : {B : Type 0} (state : B → Bank) (script : Script) (history : List Event) (procs : List (Proc B)) → HaveRun state script history procs → AreNumbered procs → (count : ℕ) → count ≤ length procs → flat_map (processor_line state) (take count procs) ≡ first_lines (counts_of script (reverse history)) count
first_tell state script history procs ran numbers zero le = refl
first_tell state script history procs ran numbers (suc n) le =
    let line = processor_line state in
    let so_far = first_tell state script history procs ran numbers n (omega (arith, le)) in
    elim (slice_get_cases procs n).1 [
      | inl found ↦
          let proc = found.0 in
          let next : suc n ≡ n + 1 = omega arith in
          let cut : take (suc n) procs ≡ take n procs ++ proc ∷ [] = ap (λ k. take k procs) next ∙ take_more procs n proc found.1 ∙ ap (λ p. take n procs ++ p ∷ []) found.3 in
          let own : line proc ≡ counts_line n (counts_of script (reverse history) n) = ap (λ k. counts_line k (banks.counts_of (state proc.cpu.bank))) (numbers n proc found.2) ∙ ap (counts_line n) (ran n proc found.2).counts in
          ap (flat_map line) cut ∙ flat_map-append line (take n procs) (proc ∷ []) ∙ ap (λ (text : List ℕ). text ++ (line proc ++ [])) so_far
          ∙ ap (λ (text : List ℕ). first_lines (counts_of script (reverse history)) n ++ text) (append-nil (line proc) ∙ own)
      | inr past ↦ absurd (omega (arith, le, past.0))
    ]

-- what is said of no number
pub when_none : (found : Option ℕ) (P : Type 0) → ((count : ℕ) → found ≡ Some count → ⊥) → IfNone found P → P
when_none None P none h = h
when_none (Some count) P none h = absurd (none count refl)

-- the right output of a run
counted : {B : Type 0} (state : B → Bank) (input text : List ℕ) (old new : List (Proc B)) → (ran : RunsTo state Replay input text old new) → IsCounted input (text ++ counts_text ran.script ran.history)
counted state input text old new ran = record {
  script = ran.script;
  accepted = ran.accepted;
  history = ran.history;
  whole = ran.run.whole;
  replay = ran.run.played;
  written = ap (λ (front : List ℕ). front ++ counts_text ran.script ran.history) ran.written;
}

abbrev HasHistory : Status → Type 0
HasHistory status = (status ≡ statuses.Done) ⊎ (status ≡ statuses.Killed)

-- an answer without a history is the whole answer
pub without_history : {B : Type 0} (state : B → Bank) (input : List ℕ) (before after : Output) (old new : List (Proc B)) (status : Status) → (HasHistory status → ⊥) → AnswerEnds state Replay input before after old new status → InputEnds input before after status
without_history state input before after old new statuses.Done none ends = absurd (none (inl refl))
without_history state input before after old new statuses.Killed none ends = absurd (none (inr refl))
without_history state input before after old new statuses.Refused none ends = ends
without_history state input before after old new statuses.Illegal none ends = ends
without_history state input before after old new statuses.ReadFault none ends = ends
without_history state input before after old new statuses.WriteFault none ends = elim ends.1 [
  | inl ran ↦ (ends.0 ++ counts_text ran.script ran.history, inl (counted state input ends.0 old new ran), fails_in_first before after ends.0 (counts_text ran.script ran.history) ends.2)
  | inr refused ↦ (ends.0, inr refused.0, ends.2)
]
without_history state input before after old new statuses.NoMemory none ends = ends
without_history state input before after old new statuses.Usage none ends = ends

-- one with a history is that of its run
run_of : {B : Type 0} (state : B → Bank) (input : List ℕ) (before after : Output) (old new : List (Proc B)) (status : Status) → HasHistory status → AnswerEnds state Replay input before after old new status → AnswersRun state Replay input before after old new status
run_of state input before after old new status has ends = elim has [
  | inl done ↦ rw done (rw done at ends)
  | inr killed ↦ rw killed (rw killed at ends)
]

whole_ends : (input : List ℕ) (before after : Output) (status : Status) → HasHistory status → WroteCounts input before after status → InputEnds input before after status
whole_ends input before after status has wrote = elim has [
  | inl done ↦ rw done (rw done at wrote)
  | inr killed ↦ rw killed (rw killed at wrote)
]

-- the counts of the script's processors, once they were told behind the history
pub counts_told : {B : Type 0} (state : B → Bank) (input : List ℕ) (script : Script) (count : ℕ) (before between after : Output) (old new : List (Proc B)) (status result : Status)
    → ((text : List ℕ) (a b : Script) → Spells text a → Spells text b → a ≡ b) → IsAccepted input script → count ≡ script.cpus → count ≤ length new → AreNumbered new → HasHistory status
    → AnswerEnds state Replay input before between old new status → TellEnds status (processors_text state (take count new)) between after result → InputEnds input before after result
unfolding counted run_of
counts_told state input script count before between after old new status result one accepted is le numbers has ends told =
    let run = run_of state input before between old new status has ends in
    let ran = run.1 in
    let cpus : count ≡ ran.script.cpus = is ∙ ap (λ (s : Script). s.cpus) (one input script ran.script accepted.spelled ran.accepted.spelled) in
    let text = counts_text ran.script ran.history in
    let same : processors_text state (take count new) ≡ text =
    ap (λ (lines : List ℕ). mark_line ++ lines) (first_tell state ran.script ran.history new ran.run.banks numbers count le ∙ ap (first_lines (counts_of ran.script (reverse ran.history))) cpus) in
    let right = counted state input run.0 old new ran in
    let told' = rw same at told in
    elim told' [
      | inl wrote ↦ subst (InputEnds input before after) (sym wrote.0) (whole_ends input before after status has (run.0 ++ text, right, run.2, writes_both before between after run.0 text run.3 wrote.1))
      | inr failed ↦ subst (InputEnds input before after) (sym failed.0) (run.0 ++ text, inl right, fails_in_second before between after run.0 text run.3 failed.1)
    ]
