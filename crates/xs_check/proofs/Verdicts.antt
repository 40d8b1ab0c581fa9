-- An input has one verdict.
use Rattle.std.proofs.Common.{◌≡◌, ℕ, ◌+◌, ◌<◌, List, length, take, drop, refl, sym, ap, ◌∙◌, subst, arith, inl, inr}
use Rattle.std.proofs.lemmas.Bool.{cases_order}
use Rattle.xs_model.specs.declared.event.Event.{Event}
use Rattle.xs_model.specs.declared.script.Script.{Script}
use Rattle.xs_model.specs.History.{IsWhole}
use Rattle.xs_model.specs.Script.{IsValid}
use Rattle.xs_outside.specs.declared.status.Status.{Status}
use Rattle.xs_outside.specs.declared.status.Status.TheVariants as statuses
use Rattle.xs_outside.specs.Outside.{script_limit}
use Rattle.xs_script.specs.declared.refusal.Kind.{Kind}
use Rattle.xs_script.specs.Grammar.{Spells}
use Rattle.xs_script.specs.Refusal.{Refuses}
use Rattle.xs_script.specs.RefusalText.{refusal_text}
use Rattle.xs_text.specs.Reading.{IsFirstBadLine, IsHistoryOf}
use Rattle.xs_text.specs.Text.{AreEvents, history_text}
use Rattle.xs_check.specs.Split.{Divided, IsSplit, Undivided}
use Rattle.xs_check.specs.Verdict.{Breaks, BreaksAt, HasParts, IsBroken, IsIllegalOne, IsLegalOne, IsVerdict, IsWholeText, LongInput, LongScript, Misspelled, NoScript, illegal_text, legal_text}
use Rattle.xs_check.proofs.Events.{one_break, whole_unbroken}

-- An input is split in one way.
pub one_split : (input a b c d : List ℕ) → IsSplit input a b → IsSplit input c d → (a ≡ c) × (b ≡ d)
one_split input a b c d (Divided i here none) (Divided j there before) = elim (cases_order i j) [
  | inl same ↦ (ap (λ (n : ℕ). take n input) same, ap (λ (n : ℕ). drop (n + 3) input) same)
  | inr apart ↦ elim apart [
    | inl below ↦ absurd (before i below here)
    | inr above ↦ absurd (none j above there)
  ]
]
one_split input a b c d (Divided i here none) (Undivided never) = absurd (never i here)
one_split input a b c d (Undivided never) (Divided j there before) = absurd (never j there)
one_split input a b c d (Undivided never) (Undivided other) = (refl, refl)

-- the laws of the readers
abbrev pub OneScript : Type 0
OneScript = (text : List ℕ) (a b : Script) → Spells text a → Spells text b → a ≡ b

abbrev pub OneRefusal : Type 0
OneRefusal = (text : List ℕ) (m n : ℕ) (k j : Kind) → Refuses text m k → Refuses text n j → (m ≡ n) × (k ≡ j)

abbrev pub NotBoth : Type 0
NotBoth = (text : List ℕ) (script : Script) (n : ℕ) (k : Kind) → Spells text script → Refuses text n k → ⊥

abbrev pub OneHistory : Type 0
OneHistory = (script : Script) (a b : List Event) → IsValid script → AreEvents script a → AreEvents script b → history_text script a ≡ history_text script b → a ≡ b

abbrev pub OneBadLine : Type 0
OneBadLine = (script : Script) (text : List ℕ) (m n : ℕ) → IsValid script → IsFirstBadLine script text m → IsFirstBadLine script text n → m ≡ n

abbrev pub ReadOrBad : Type 0
ReadOrBad = (script : Script) (text : List ℕ) (history : List Event) (n : ℕ) → IsValid script → IsHistoryOf script text history → IsFirstBadLine script text n → ⊥

-- ---- two readings of an input

small_long : (input a b c d : List ℕ) → HasParts input a b → IsSplit input c d → script_limit < length c → ⊥
small_long input a b c d parts split long =
    let same : length a ≡ length c = ap length (one_split input a b c d parts.split split).0 in
    let small = parts.small in
    omega arith

refused_not_read : NotBoth → (input a b c d : List ℕ) (m : ℕ) (k : Kind) (script : Script) → HasParts input a b → HasParts input c d → Refuses a m k → Spells c script → ⊥
refused_not_read not_both input a b c d m k script one other refuses spelled =
    not_both c script m k spelled (subst (λ (text : List ℕ). Refuses text m k) (one_split input a b c d one.split other.split).0 refuses)

-- an accepted script isn't refused
pub no_refusal : NotBoth → (input script_text text line : List ℕ) (script : Script) (status : Status) → HasParts input script_text text → Spells script_text script → IsVerdict input status line → status ≡ statuses.Refused → ⊥
no_refusal not_both input a b line script status parts spelled (LongInput long) is = absurd (omega (arith, parts.short))
no_refusal not_both input a b line script status parts spelled (LongScript c d short split long) is = small_long input a b c d parts split long
no_refusal not_both input a b line script status parts spelled (NoScript c d m k there refuses) is = refused_not_read not_both input c d a b m k script there parts refuses spelled
no_refusal not_both input a b line script status parts spelled (IsLegalOne c d t n there told whole) is = cc is
no_refusal not_both input a b line script status parts spelled (IsIllegalOne c d t n there told broken) is = cc is

module _ (scripts : OneScript) (refusals : OneRefusal) (not_both : NotBoth) (histories : OneHistory) (bad_lines : OneBadLine) (read_or_bad : ReadOrBad) where
  same_history : (script : Script) (text : List ℕ) (h g : List Event) → IsValid script → IsHistoryOf script text h → IsHistoryOf script text g → h ≡ g
  same_history script text h g valid one other = histories script h g valid one.events other.events (sym one.spelled ∙ other.spelled)

  -- one line breaks a text
  one_broken : (script : Script) (text : List ℕ) (m n : ℕ) → IsValid script → IsBroken script text m → IsBroken script text n → m ≡ n
  one_broken script text m n valid (Misspelled one bad) (Misspelled other worse) = bad_lines script text one other valid bad worse
  one_broken script text m n valid (Misspelled one bad) (Breaks h line is broken) = absurd (read_or_bad script text h one valid is bad)
  one_broken script text m n valid (Breaks h line is broken) (Misspelled other bad) = absurd (read_or_bad script text h other valid is bad)
  one_broken script text m n valid (Breaks h line is broken) (Breaks g other told wrong) =
      one_break script g line other (subst (λ (l : List Event). BreaksAt script l line) (same_history script text h g valid is told) broken) wrong

  -- and none that of a whole history
  whole_or_broken : (script : Script) (text : List ℕ) (lines n : ℕ) → IsValid script → IsWholeText script text lines → IsBroken script text n → ⊥
  whole_or_broken script text lines n valid whole (Misspelled line bad) = read_or_bad script text whole.0 line valid whole.1 bad
  whole_or_broken script text lines n valid whole (Breaks g line told wrong) =
      whole_unbroken script g line (subst (IsWhole script) (same_history script text whole.0 g valid whole.1 told) whole.2) wrong

  one_whole : (script : Script) (text : List ℕ) (m n : ℕ) → IsValid script → IsWholeText script text m → IsWholeText script text n → m ≡ n
  one_whole script text m n valid one other = one.3 ∙ ap length (same_history script text one.0 other.0 valid one.1 other.1) ∙ sym other.3

  -- the same of both
  abbrev Same : Status → Status → List ℕ → List ℕ → Type 0
  Same status right one other = (status ≡ right) × (one ≡ other)

  refused_once : (input a b c d : List ℕ) (m n : ℕ) (k j : Kind) → HasParts input a b → HasParts input c d → Refuses a m k → Refuses c n j → refusal_text m k ≡ refusal_text n j
  refused_once input a b c d m n k j one other refuses told =
      let same = refusals c m n k j (subst (λ (text : List ℕ). Refuses text m k) (one_split input a b c d one.split other.split).0 refuses) told in
      ap (λ (number : ℕ). refusal_text number k) same.0 ∙ ap (refusal_text n) same.1

  same_script : (input a b c d : List ℕ) (s t : Script) → HasParts input a b → HasParts input c d → Spells a s → Spells c t → s ≡ t
  same_script input a b c d s t one other spelled told = scripts c s t (subst (λ (text : List ℕ). Spells text s) (one_split input a b c d one.split other.split).0 spelled) told

  same_rest : (input a b c d : List ℕ) → HasParts input a b → HasParts input c d → b ≡ d
  same_rest input a b c d one other = (one_split input a b c d one.split other.split).1

  pub one_verdict : (input one other : List ℕ) (status right : Status) → IsVerdict input status one → IsVerdict input right other → (status ≡ right) × (one ≡ other)
  one_verdict input one other status right (LongInput long) (LongInput far) = (refl, refl)
  one_verdict input one other status right (LongInput long) (LongScript c d short split far) = (refl, refl)
  one_verdict input one other status right (LongInput long) (NoScript c d n j there told) = absurd (omega (arith, there.short))
  one_verdict input one other status right (LongInput long) (IsLegalOne c d t n there told whole) = absurd (omega (arith, there.short))
  one_verdict input one other status right (LongInput long) (IsIllegalOne c d t n there told broken) = absurd (omega (arith, there.short))
  one_verdict input one other status right (LongScript a b short split long) (LongInput far) = (refl, refl)
  one_verdict input one other status right (LongScript a b short split long) (LongScript c d small cut far) = (refl, refl)
  one_verdict input one other status right (LongScript a b short split long) (NoScript c d n j there told) = absurd (small_long input c d a b there split long)
  one_verdict input one other status right (LongScript a b short split long) (IsLegalOne c d t n there told whole) = absurd (small_long input c d a b there split long)
  one_verdict input one other status right (LongScript a b short split long) (IsIllegalOne c d t n there told broken) = absurd (small_long input c d a b there split long)
  one_verdict input one other status right (NoScript a b m k here refuses) (LongInput far) = absurd (omega (arith, here.short))
  one_verdict input one other status right (NoScript a b m k here refuses) (LongScript c d small cut far) = absurd (small_long input a b c d here cut far)
  one_verdict input one other status right (NoScript a b m k here refuses) (NoScript c d n j there told) = (refl, refused_once input a b c d m n k j here there refuses told)
  one_verdict input one other status right (NoScript a b m k here refuses) (IsLegalOne c d t n there told whole) = absurd (refused_not_read not_both input a b c d m k t here there refuses told)
  one_verdict input one other status right (NoScript a b m k here refuses) (IsIllegalOne c d t n there told broken) = absurd (refused_not_read not_both input a b c d m k t here there refuses told)
  one_verdict input one other status right (IsLegalOne a b s m here spelled whole) (LongInput far) = absurd (omega (arith, here.short))
  one_verdict input one other status right (IsLegalOne a b s m here spelled whole) (LongScript c d small cut far) = absurd (small_long input a b c d here cut far)
  one_verdict input one other status right (IsLegalOne a b s m here spelled whole) (NoScript c d n j there told) = absurd (refused_not_read not_both input c d a b n j s there here told spelled)
  one_verdict input one other status right (IsLegalOne a b s m here spelled whole) (IsLegalOne c d t n there told finished) =
      let moved = subst (λ (script : Script). IsWholeText script d m) (same_script input a b c d s t here there spelled told) (subst (λ (text : List ℕ). IsWholeText s text m) (same_rest input a b c d here there) whole) in
      (refl, ap legal_text (one_whole t d m n told.valid moved finished))
  one_verdict input one other status right (IsLegalOne a b s m here spelled whole) (IsIllegalOne c d t n there told broken) =
      let moved = subst (λ (script : Script). IsWholeText script d m) (same_script input a b c d s t here there spelled told) (subst (λ (text : List ℕ). IsWholeText s text m) (same_rest input a b c d here there) whole) in
      absurd (whole_or_broken t d m n told.valid moved broken)
  one_verdict input one other status right (IsIllegalOne a b s m here spelled broken) (LongInput far) = absurd (omega (arith, here.short))
  one_verdict input one other status right (IsIllegalOne a b s m here spelled broken) (LongScript c d small cut far) = absurd (small_long input a b c d here cut far)
  one_verdict input one other status right (IsIllegalOne a b s m here spelled broken) (NoScript c d n j there told) = absurd (refused_not_read not_both input c d a b n j s there here told spelled)
  one_verdict input one other status right (IsIllegalOne a b s m here spelled broken) (IsLegalOne c d t n there told whole) =
      let moved = subst (λ (script : Script). IsBroken script d m) (same_script input a b c d s t here there spelled told) (subst (λ (text : List ℕ). IsBroken s text m) (same_rest input a b c d here there) broken) in
      absurd (whole_or_broken t d n m told.valid whole moved)
  one_verdict input one other status right (IsIllegalOne a b s m here spelled broken) (IsIllegalOne c d t n there told wrong) =
      let moved = subst (λ (script : Script). IsBroken script d m) (same_script input a b c d s t here there spelled told) (subst (λ (text : List ℕ). IsBroken s text m) (same_rest input a b c d here there) broken) in
      (refl, ap illegal_text (one_broken t d m n told.valid moved wrong))
