-- What is answered for an input that is known as a whole.
use Rattle.std.proofs.Common.{◌≡◌, ℕ, ◌≤◌, List, [], ◌++◌, length, length-append, Some, None, refl, sym, ap, ◌∙◌, subst, arith}
use Rattle.std.proofs.lemmas.List.{append-nil}
use Rattle.std.specs.Prelude.{Option}
use Rattle.std.specs.Io.KnownBytes.{Appends, Consumes, IsAtEnd}
use Rattle.xs_bank.specs.Bank.{Bank}
use Rattle.xs_machine.specs.declared.proc.Proc.{Proc}
use Rattle.xs_model.specs.declared.script.Script.{Script}
use Rattle.xs_top.specs.declared.play.Play.{Play}
use Rattle.xs_outside.specs.declared.status.Status.{Status}
use Rattle.xs_outside.specs.declared.status.Status.TheVariants as statuses
use Rattle.xs_script.specs.declared.refusal.Kind.{Kind}
use Rattle.xs_script.specs.Grammar.{Spells}
use Rattle.xs_script.specs.Refusal.{Refuses}
use Rattle.xs_script.specs.RefusalText.{refusal_text}
use Rattle.xs_outside.specs.Outside.{Input, Outside, IsRead, TakesAtMost, script_limit}
use Rattle.xs_top.specs.Answers.{IsAccepted, IsRefused, TooLong, ByLine, PlayEnds}
use Rattle.xs_top.specs.Headline.{MayRun, MayRefuse}

-- the reader's laws: a text has one refusal, and none where it spells a script
abbrev OneRefusal : Type 0
OneRefusal = (text : List ℕ) (m n : ℕ) (k j : Kind) → Refuses text m k → Refuses text n j → (m ≡ n) × (k ≡ j)

abbrev NotBoth : Type 0
NotBoth = (text : List ℕ) (script : Script) (n : ℕ) (k : Kind) → Spells text script → Refuses text n k → ⊥

-- How what was read is a front of a known input: the whole of it, if it is no longer than the limit.
record Known (input taken : List ℕ) : Type 0 where
  whole : length taken ≤ script_limit → taken ≡ input
  long : length taken ≤ length input

known : (input taken : List ℕ) (left' : Option (List ℕ)) → Consumes (Some input) left' taken → (length taken ≤ script_limit → IsAtEnd left') → Known input taken
known input taken None read whole = absurd read
known input taken (Some rest) read whole = record {
  whole = λ short. sym (read ∙ ap (λ (r : List ℕ). taken ++ r) (whole short) ∙ append-nil taken);
  long = (let e : length input ≡ length (taken ++ rest) = ap length read in omega (arith, length-append taken rest));
}

-- a script's text that was read is refused by no line
accepted_refused : (input taken line : List ℕ) (script : Script) → NotBoth → Known input taken → IsAccepted input script → IsRefused taken line → ⊥
accepted_refused input taken line script not_both h accepted (TooLong long) = absurd (omega (arith, h.long, accepted.short))
accepted_refused input taken line script not_both h accepted (ByLine number kind short refuses) =
    not_both input script number kind accepted.spelled (rw (h.whole short) at refuses)

-- nor is a refused input's text run
refused_accepted : (input taken line : List ℕ) (script : Script) → NotBoth → Known input taken → IsRefused input line → IsAccepted taken script → ⊥
refused_accepted input taken line script not_both h (TooLong long) accepted =
    let e : length taken ≡ length input = ap length (h.whole accepted.short) in
    absurd (omega (arith, accepted.short))
refused_accepted input taken line script not_both h (ByLine number kind short refuses) accepted =
    not_both input script number kind (rw (h.whole accepted.short) at accepted.spelled) refuses

-- An input is refused by one line.
same_line : (input taken a b : List ℕ) → OneRefusal → Known input taken → IsRefused taken a → IsRefused input b → a ≡ b
same_line input taken a b one_refusal h (TooLong x) (TooLong y) = refl
same_line input taken a b one_refusal h (TooLong x) (ByLine n k short refuses) = absurd (omega (arith, h.long))
same_line input taken a b one_refusal h (ByLine n k short refuses) (TooLong y) =
    let e : length taken ≡ length input = ap length (h.whole short) in
    absurd (omega arith)
same_line input taken a b one_refusal h (ByLine m j short refuses) (ByLine n k small other) =
    let one = one_refusal input m n j k (rw (h.whole short) at refuses) other in
    ap (λ (number : ℕ). refusal_text number j) one.0 ∙ ap (refusal_text n) one.1

-- what was read of an input that is known
known_read : (input bytes : List ℕ) (before after : Input) → before.left ≡ Some input → IsRead script_limit before after bytes → Known input bytes
known_read input bytes before after is read = known input bytes after.left (rw is at read.taken) read.whole

-- what was read of an input that is refused is no script
never_run : (input line : List ℕ) (before after : Input) (taken : List ℕ) (script : Script) → NotBoth → before.left ≡ Some input → IsRead script_limit before after taken → IsRefused input line → IsAccepted taken script → ⊥
never_run input line before after taken script not_both is read refused accepted =
    refused_accepted input taken line script not_both (known_read input taken before after is read) refused accepted

-- what a command answers for a script
pub may_run : {B : Type 0} (state : B → Bank) (play : Play) (input : List ℕ) (script : Script) (before after : Outside) (old new : List (Proc B)) (result : Status) → NotBoth → before.input.left ≡ Some input → IsAccepted input script → PlayEnds state play before after old new result → MayRun result
may_run state play input script before after old new statuses.Done not_both is accepted ends = tt
may_run state play input script before after old new statuses.Killed not_both is accepted ends = tt
may_run state play input script before after old new statuses.Refused not_both is accepted ends =
    accepted_refused input ends.input ends.ends.0 script not_both (known_read input ends.input before.input after.input is ends.read) accepted ends.ends.1
may_run state play input script before after old new statuses.Illegal not_both is accepted ends = ends
may_run state play input script before after old new statuses.ReadFault not_both is accepted ends = tt
may_run state play input script before after old new statuses.WriteFault not_both is accepted ends = tt
may_run state play input script before after old new statuses.NoMemory not_both is accepted ends = tt
may_run state play input script before after old new statuses.Usage not_both is accepted ends = ends

-- what it answers for an input that is refused
pub may_refuse : {B : Type 0} (state : B → Bank) (play : Play) (input line : List ℕ) (before after : Outside) (old new : List (Proc B)) (result : Status) → NotBoth → OneRefusal → before.input.left ≡ Some input → IsRefused input line → PlayEnds state play before after old new result → MayRefuse before.output after.output line result
may_refuse state play input line before after old new statuses.Done not_both one is refused ends =
    never_run input line before.input after.input ends.input ends.ends.1.script not_both is ends.read refused ends.ends.1.accepted
may_refuse state play input line before after old new statuses.Killed not_both one is refused ends =
    never_run input line before.input after.input ends.input ends.ends.1.script not_both is ends.read refused ends.ends.1.accepted
may_refuse state play input line before after old new statuses.Refused not_both one is refused ends =
    let told = ends.ends in
    let same = same_line input ends.input told.0 line one (known_read input ends.input before.input after.input is ends.read) told.1 refused in
    subst (λ (text : List ℕ). Appends before.output.written after.output.written text) same told.2.whole
may_refuse state play input line before after old new statuses.Illegal not_both one is refused ends = ends
may_refuse state play input line before after old new statuses.ReadFault not_both one is refused ends = tt
may_refuse state play input line before after old new statuses.WriteFault not_both one is refused ends = tt
may_refuse state play input line before after old new statuses.NoMemory not_both one is refused ends = tt
may_refuse state play input line before after old new statuses.Usage not_both one is refused ends = ends

-- nothing was taken of an input that stays
consumes_none : (left : Option (List ℕ)) → Consumes left left []
consumes_none None = tt
consumes_none (Some bytes) = refl

pub takes_nothing : (input : Input) → TakesAtMost script_limit input input
takes_nothing input = record { bytes = []; taken = consumes_none input.left; most = omega arith }
