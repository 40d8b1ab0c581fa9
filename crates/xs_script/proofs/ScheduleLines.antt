-- The lines of a schedule: one line more, and the blocks after them.
use Rattle.std.proofs.Common.{◌≡◌, ℕ, ◌+◌, ◌<◌, true, List, [], ◌∷◌, ◌++◌, length, Ok, Err, codes, decimal, refl, sym, ◌∙◌, ap, subst, arith, length-append}
use Rattle.std.proofs.lemmas.List.{append-nil, map-append, length-map}
use Rattle.std.proofs.lemmas.List.Concat.{flat_map-append}
use Rattle.std.specs.List.{AllByRecursion}
use Rattle.xs_script.specs.declared.line.Line.{Line}
use Rattle.xs_script.specs.declared.line.Line.TheVariants as lines
use Rattle.xs_script.specs.declared.schedule.Schedule.{Schedule}
use Rattle.xs_script.specs.declared.refusal.Kind.{Kind}
use Rattle.xs_script.specs.declared.refusal.Kind.TheVariants.{BadLine, Limit}
use Rattle.xs_script.specs.declared.refusal.LimitName.TheVariants as limits
use Rattle.xs_script.specs.declared.refusal.ScriptError.{ScriptError}
use Rattle.xs_script.specs.declared.refusal.ScriptError.TheVariants as errors
use Rattle.xs_script.specs.ScriptLine.{IsLine, line_text, entries_text}
use Rattle.xs_script.specs.Grammar.{sched_lines}
use Rattle.xs_script.specs.LineOrder.{Stand, AtSched, AtBlock, next, fits_sched}
use Rattle.xs_base.specs.Bytes.{Lacks}
use Rattle.xs_script.specs.Refusal.{LineFails, Early, Misspelled, Misplaced, Fails, Table, Here}
use Rattle.xs_script.specs.Front.{IsFront, RefusesFrom, ExplainsFrom}
use Rattle.xs_script.specs.Schedule.{NoSched, AreEntries, TakesWords, WordsFail, NoEntries, OverLimit, ExplainsWords, AreSchedLines, IsScheduleOf}
use Rattle.xs_base.proofs.Cuts.{no_cut}
use Rattle.xs_script.proofs.Cuts.{Lacks-append}
use Rattle.xs_script.proofs.CommandSpellings.{lacks_word}
use Rattle.xs_script.proofs.FirstWords.{no_sched}
use Rattle.xs_script.proofs.Readings.{other_line}
use Rattle.xs_script.proofs.Fronts.{front_none, front_push, line_explains}
use Rattle.xs_script.proofs.BlockParts.{all_join}
use Rattle.xs_script.proofs.BodyLines.{all_push}
use Rattle.xs_script.proofs.EntryTests.{joined, within_parts}

-- ---- whether a line of a schedule comes

-- a text of another first word
pub no_sched_word : (text : List ℕ) → ((rest : List ℕ) → text ≡ codes "sched " ++ rest → ⊥) → NoSched text
no_sched_word text none [] rest fits e = let some = fits.0 in omega arith
no_sched_word text none (n ∷ entries) rest fits e = none ((decimal n ++ entries_text entries) ++ 10 ∷ rest) e

-- a text without a line feed
pub no_sched_feed : (text words : List ℕ) → text ≡ codes "sched " ++ words → Lacks 10 words → NoSched text
no_sched_feed text words is lacks entries rest fits e =
    no_cut 10 (codes "sched " ++ words) (line_text (lines.Sched entries)) rest (Lacks-append 10 (codes "sched ") words (lacks_word (codes "sched ") refl) lacks) (sym is ∙ e)

-- ---- the blocks after a schedule

-- a line that leads on where a block may begin leads on after a schedule
begins_after : (cpus count : ℕ) (l : Line) (mid : Stand) → next (AtBlock []) l ≡ Ok mid → next (AtSched cpus count) l ≡ Ok mid
begins_after cpus count (lines.Begin kind name) mid h = h
begins_after cpus count l mid h = absurd (cc h)

pub front_after : (cpus count : ℕ) (text rest : List ℕ) (ls : List Line) (end : Stand) → 0 < length ls → IsFront (AtBlock []) text ls end rest → IsFront (AtSched cpus count) text ls end rest
front_after cpus count text rest [] end some front = absurd (omega arith)
front_after cpus count text rest (l ∷ ls) end some front =
    let (mid, step, more) = front.leads in
    record { lines_fit = front.lines_fit; parts = front.parts; leads = (mid, begins_after cpus count l mid step, more) }

-- a line that fails where a block may begin fails after a schedule
misplaced_after : (cpus count : ℕ) (text : List ℕ) (l : Line) (rest : List ℕ) (kind : Kind) → NoSched text → IsLine l → text ≡ line_text l ++ 10 ∷ rest → next (AtBlock []) l ≡ Err kind → LineFails (AtSched cpus count) text kind
misplaced_after cpus count text (lines.Sched entries) rest kind none fits e h = absurd (none entries rest fits e)
misplaced_after cpus count text lines.Version rest kind none fits e h = Misplaced lines.Version rest kind fits e h
misplaced_after cpus count text (lines.Machine named) rest kind none fits e h = Misplaced (lines.Machine named) rest kind fits e h
misplaced_after cpus count text (lines.Row r) rest kind none fits e h = Misplaced (lines.Row r) rest kind fits e h
misplaced_after cpus count text (lines.Cpus n) rest kind none fits e h = Misplaced (lines.Cpus n) rest kind fits e h
misplaced_after cpus count text (lines.Quantum n) rest kind none fits e h = Misplaced (lines.Quantum n) rest kind fits e h
misplaced_after cpus count text (lines.Large n) rest kind none fits e h = Misplaced (lines.Large n) rest kind fits e h
misplaced_after cpus count text (lines.Begin block name) rest kind none fits e h = Misplaced (lines.Begin block name) rest kind fits e h
misplaced_after cpus count text (lines.Order command) rest kind none fits e h = Misplaced (lines.Order command) rest kind fits e h
misplaced_after cpus count text (lines.NoSignal name number) rest kind none fits e h = Misplaced (lines.NoSignal name number) rest kind fits e h
misplaced_after cpus count text lines.Handler rest kind none fits e h = Misplaced lines.Handler rest kind fits e h
misplaced_after cpus count text lines.End rest kind none fits e h = Misplaced lines.End rest kind fits e h

line_after : (cpus count : ℕ) (text : List ℕ) (kind : Kind) → NoSched text → LineFails (AtBlock []) text kind → LineFails (AtSched cpus count) text kind
line_after cpus count text _ none (Early e early) = Early e refl
line_after cpus count text _ none (Misspelled some other) = Misspelled some other
line_after cpus count text _ none (Misplaced l rest kind fits e h) = misplaced_after cpus count text l rest kind none fits e h

fails_after : (cpus count first : ℕ) (text : List ℕ) (number : ℕ) (kind : Kind) → NoSched text → Fails (AtBlock []) first text number kind → Fails (AtSched cpus count) first text number kind
fails_after cpus count first text _ _ none (Table error fault) = absurd (cc fault)
fails_after cpus count first text _ _ none (Here kind fine why) = Here kind refl (line_after cpus count text kind none why)

-- so the refusals of the blocks are refusals after a schedule
refuses_after : (cpus count first : ℕ) (text : List ℕ) (number : ℕ) (kind : Kind) (done : List Line) (rest : List ℕ) (stand : Stand) → NoSched text → IsFront (AtBlock []) text done stand rest → Fails stand (first + length done) rest number kind → RefusesFrom (AtSched cpus count) first text number kind
refuses_after cpus count first text number kind [] rest stand none front fails =
    let here = subst (λ (s : Stand). Fails s (first + 0) rest number kind) front.leads fails in
    let other : NoSched rest = subst NoSched front.parts none in
    record {
      done = [];
      rest = rest;
      stand = AtSched cpus count;
      front = record { lines_fit = tt; parts = front.parts; leads = refl };
      fails = fails_after cpus count (first + 0) rest number kind other here;
    }
refuses_after cpus count first text number kind (l ∷ done) rest stand none front fails = record {
  done = l ∷ done;
  rest = rest;
  stand = stand;
  front = front_after cpus count text rest (l ∷ done) stand (omega arith) front;
  fails = fails;
}

pub after_explains : (cpus count first : ℕ) (text : List ℕ) (e : ScriptError) → NoSched text → ExplainsFrom (AtBlock []) first text e → ExplainsFrom (AtSched cpus count) first text e
after_explains cpus count first text (errors.Refused line kind) none r = refuses_after cpus count first text line kind r.done r.rest r.stand none r.front r.fails
after_explains cpus count first text errors.Memory none r = tt

-- ---- the lines of a schedule

-- no line yet
pub no_lines : (cpus first : ℕ) (text : List ℕ) → AreSchedLines cpus first text [] first text
no_lines cpus first text = record {
  groups = [];
  grouped = record { some = tt; joined = refl };
  front = front_none (AtSched cpus 0) text;
  below = tt;
  few = omega arith;
  next = omega arith;
}

-- a line of a schedule, by its words
sched_line : (words rest entries : List ℕ) → AreEntries words entries → codes "sched " ++ (words ++ 10 ∷ rest) ≡ line_text (lines.Sched entries) ++ 10 ∷ rest
sched_line words rest entries read = ap (λ (t : List ℕ). codes "sched" ++ (t ++ 10 ∷ rest)) read.spelled

-- where its entries are within the limits, it leads on
sched_leads : (cpus count : ℕ) (entries : List ℕ) → fits_sched cpus count entries ≡ true → next (AtSched cpus count) (lines.Sched entries) ≡ Ok (AtSched cpus (count + length entries))
sched_leads cpus count entries within = rw within refl

-- one line more
pub sched_on : (cpus first : ℕ) (text left words rest : List ℕ) (number : ℕ) (schedule after : Schedule) → schedule.cpus ≡ cpus → AreSchedLines cpus first text schedule.entries number left → left ≡ codes "sched " ++ (words ++ 10 ∷ rest) → TakesWords schedule words after → AreSchedLines cpus first text after.entries (number + 1) rest
sched_on cpus first text left words rest number schedule after same h cut taken =
    let count = length schedule.entries in
    let within : fits_sched cpus count taken.entries ≡ true = subst (λ (n : ℕ). fits_sched n count taken.entries ≡ true) same taken.within in
    let long : length after.entries ≡ count + length taken.entries = ap length taken.came ∙ length-append schedule.entries taken.entries in
    let leads : next (AtSched cpus count) (lines.Sched taken.entries) ≡ Ok (AtSched cpus (length after.entries)) = sched_leads cpus count taken.entries within ∙ ap (λ (n : ℕ). Ok (AtSched cpus n)) (sym long) in
    let pushed : sched_lines (h.groups ++ taken.entries ∷ []) ≡ sched_lines h.groups ++ lines.Sched taken.entries ∷ [] = map-append lines.Sched h.groups (taken.entries ∷ []) in
    let front = front_push (AtSched cpus 0) (AtSched cpus count) (AtSched cpus (length after.entries)) text left rest (sched_lines h.groups) (lines.Sched taken.entries) h.front taken.read.fits (cut ∙ sched_line words rest taken.entries taken.read) leads in
    let parts = within_parts cpus count taken.entries within in
    record {
      groups = h.groups ++ taken.entries ∷ [];
      grouped = record {
        some = all_push (λ group. 0 < length group) h.groups taken.entries h.grouped.some taken.read.fits.0;
        joined = taken.came ∙ ap (λ (xs : List ℕ). xs ++ taken.entries) h.grouped.joined ∙ ap (λ (xs : List ℕ). joined h.groups ++ xs) (sym (append-nil taken.entries)) ∙ sym (flat_map-append (λ group. group) h.groups (taken.entries ∷ []));
      };
      front = subst (λ (ls : List Line). IsFront (AtSched cpus 0) text ls (AtSched cpus (length after.entries)) rest) (sym pushed) front;
      below = subst (λ (xs : List ℕ). AllByRecursion (λ entry. entry < cpus) xs) (sym taken.came) (all_join (λ entry. entry < cpus) schedule.entries taken.entries h.below parts.0);
      few = omega (arith, long, parts.1);
      next = rw length-append (omega (arith, h.next));
    }

-- what its words are refused with
words_fail : (cpus count number : ℕ) (left words rest : List ℕ) (kind : Kind) → left ≡ codes "sched " ++ (words ++ 10 ∷ rest) → Lacks 10 words → WordsFail cpus count words kind → Fails (AtSched cpus count) number left number kind
words_fail cpus count number left words rest _ cut lacks (NoEntries none) =
    let other = other_line left (codes "sched " ++ words) rest (Lacks-append 10 (codes "sched ") words (lacks_word (codes "sched ") refl) lacks) cut (no_sched words (λ entries fits e. none entries (record { fits = fits; spelled = e }))) in
    Here BadLine refl (Misspelled (λ e. let t = sym cut ∙ e in cc t) other)
words_fail cpus count number left words rest _ cut lacks (OverLimit entries read over) =
    Here (Limit limits.Sched) refl (Misplaced (lines.Sched entries) rest (Limit limits.Sched) read.fits (cut ∙ sched_line words rest entries read) (rw over refl))

pub words_explain : (cpus first number : ℕ) (text left words rest : List ℕ) (schedule : Schedule) (e : ScriptError) → schedule.cpus ≡ cpus → AreSchedLines cpus first text schedule.entries number left → left ≡ codes "sched " ++ (words ++ 10 ∷ rest) → Lacks 10 words → ExplainsWords schedule number words e → ExplainsFrom (AtSched cpus 0) first text e
words_explain cpus first number text left words rest schedule (errors.Refused line kind) same h cut lacks (at, why) =
    let count = length schedule.entries in
    let fails = words_fail cpus count number left words rest kind cut lacks (subst (λ (n : ℕ). WordsFail n count words kind) same why) in
    line_explains (AtSched cpus 0) (AtSched cpus count) first number text left (sched_lines h.groups) (errors.Refused line kind) h.front (counted h.groups h.next) (subst (λ (n : ℕ). Fails (AtSched cpus count) number left n kind) (sym at) fails)
  where
    counted : (groups : List (List ℕ)) → number ≡ first + length groups → number ≡ first + length (sched_lines groups)
    counted groups is = rw length-map is
words_explain cpus first number text left words rest schedule errors.Memory same h cut lacks why = tt

-- a schedule is over where none of its lines comes next
pub sched_over : (cpus first : ℕ) (text : List ℕ) (sched : List ℕ) (number : ℕ) (rest : List ℕ) → AreSchedLines cpus first text sched number rest → NoSched rest → IsScheduleOf cpus first text sched number rest
sched_over cpus first text sched number rest h none = record {
  groups = h.groups;
  grouped = h.grouped;
  front = h.front;
  below = h.below;
  few = h.few;
  over = none;
  next = h.next;
}
