-- What is answered for an input that is held: it is read whole, and without a fault.
use Rattle.std.proofs.Common.{◌≡◌, ℕ, ◌+◌, ◌≤◌, ◌⊎◌, inl, inr, List, [], ◌∷◌, ◌++◌, length, length-append, None, Some, refl, sym, ap, ◌∙◌, subst, arith}
use Rattle.std.proofs.lemmas.List.{append-nil}
use Rattle.std.specs.Prelude.{Option}
use Rattle.std.specs.Io.KnownBytes.{Consumes, IsAtEnd}
use Rattle.xs_bank.specs.Bank.{Bank}
use Rattle.xs_io.specs.Causes.{Rose}
use Rattle.xs_machine.specs.declared.proc.Proc.{Proc}
use Rattle.xs_text.specs.Text.{history_text}
use Rattle.xs_top.specs.declared.play.Play.TheVariants.{Replay}
use Rattle.xs_outside.specs.declared.status.Status.{Status}
use Rattle.xs_outside.specs.declared.status.Status.TheVariants as statuses
use Rattle.xs_outside.specs.Outside.{Output, Outside, WritesNothing, script_limit}
use Rattle.xs_outside.specs.Statuses.{Unfailed}
use Rattle.xs_top.specs.Answers.{AnswerEnds, AnswersRun, IsAccepted, IsOutput, IsRefused, IsPlayCutShort}
use Rattle.xs_top.specs.Headline.{Headline, Refusal}

-- what was read of an input that is held is all of it
read_whole : (input taken : List ℕ) (left : Option (List ℕ)) → length input ≤ script_limit + 1 → Consumes (Some input) left taken → (length taken ≤ script_limit → IsAtEnd left) → taken ≡ input
read_whole input taken None short read whole = absurd read
read_whole input taken (Some []) short read whole = sym (read ∙ append-nil taken)
read_whole input taken (Some (byte ∷ rest)) short read whole =
    let e : length input ≡ length (taken ++ byte ∷ rest) = ap length read in
    let within : length taken ≤ script_limit = omega (arith, length-append taken (byte ∷ rest)) in
    absurd (cc (whole within))

-- the outside of a call that reads a held input
abbrev held : Option (List ℕ) → Output → Outside
held left output = record { input = record { left = left; faults = 0 }; output = output }

-- what a replay says of it
pub record Replayed {B : Type 0} (state : B → Bank) (input : List ℕ) (left : Option (List ℕ)) (before after : Output) (old new : List (Proc B)) (result : Status) : Type 0 where
  pub short : length input ≤ script_limit + 1
  pub no_usage : result ≡ statuses.Usage → ⊥
  pub no_verdict : result ≡ statuses.Illegal → ⊥
  pub headline : (result ≡ statuses.Done) ⊎ (result ≡ statuses.Killed) → Headline state Replay (held (Some input) before) (held left after) old new result
  pub refused : result ≡ statuses.Refused → Refusal (held (Some input) before) (held left after)
  pub read_fault : result ≡ statuses.ReadFault → Rose 0 0
  pub write_fault : result ≡ statuses.WriteFault → IsPlayCutShort state Replay (held (Some input) before) (held left after) old new
  pub no_memory : result ≡ statuses.NoMemory → WritesNothing before after
  pub unfailed : Unfailed (held (Some input) before) (held left after) result

wrote : {B : Type 0} (state : B → Bank) (input : List ℕ) (left : Option (List ℕ)) (before after : Output) (old new : List (Proc B)) (result : Status) → length input ≤ script_limit + 1 → after.faults ≡ before.faults
    → Headline state Replay (held (Some input) before) (held left after) old new result → AnswersRun state Replay input before after old new result
wrote state input left before after old new result short unfailed h =
    let whole = read_whole input h.input left short h.read (λ _. h.ended) in (
      history_text h.script h.history,
      record {
        script = h.script;
        accepted = subst (λ (bytes : List ℕ). IsAccepted bytes h.script) whole h.accepted;
        history = h.history;
        run = h.run;
        written = refl;
      },
      h.status,
      record { whole = h.text; unfailed = unfailed },
    )

pub held_ends : {B : Type 0} (state : B → Bank) (input : List ℕ) (left : Option (List ℕ)) (before after : Output) (old new : List (Proc B)) (result : Status) → Replayed state input left before after old new result → AnswerEnds state Replay input before after old new result
held_ends state input left before after old new statuses.Done h = wrote state input left before after old new statuses.Done h.short (h.unfailed.writes (λ e. cc e)) (h.headline (inl refl))
held_ends state input left before after old new statuses.Killed h = wrote state input left before after old new statuses.Killed h.short (h.unfailed.writes (λ e. cc e)) (h.headline (inr refl))
held_ends state input left before after old new statuses.Refused h =
    let refusal = h.refused refl in
    let whole = read_whole input refusal.input left h.short refusal.read.taken refusal.read.whole in
    (refusal.line, subst (λ (bytes : List ℕ). IsRefused bytes refusal.line) whole refusal.refused, record { whole = refusal.text; unfailed = h.unfailed.writes (λ e. cc e) })
held_ends state input left before after old new statuses.Illegal h = absurd (h.no_verdict refl)
held_ends state input left before after old new statuses.ReadFault h = absurd (omega (arith, h.read_fault refl))
held_ends state input left before after old new statuses.WriteFault h =
    let cut = h.write_fault refl in
    let whole = read_whole input cut.0 left h.short cut.2.taken cut.2.whole in
    (cut.1, subst (λ (bytes : List ℕ). IsOutput state Replay bytes cut.1 old new) whole cut.3, cut.4)
held_ends state input left before after old new statuses.NoMemory h = h.no_memory refl
held_ends state input left before after old new statuses.Usage h = absurd (h.no_usage refl)
