-- The words of a line of a schedule, one after another.
use Rattle.std.proofs.Common.{◌≡◌, ℕ, ◌+◌, ◌≤◌, Bool, true, false, ◌&&◌, nat_lt, List, [], ◌∷◌, ◌++◌, length, decimal, refl, sym, ◌∙◌, ap, arith, length-append}
use Rattle.std.proofs.lemmas.Bool.{and_parts}
use Rattle.std.proofs.lemmas.List.{append_assoc, append-nil}
use Rattle.std.proofs.lemmas.List.Concat.{flat_map-append}
use Rattle.xs_script.specs.declared.schedule.Schedule.{Schedule}
use Rattle.xs_script.specs.declared.refusal.Kind.TheVariants.{BadLine, Limit}
use Rattle.xs_script.specs.declared.refusal.LimitName.TheVariants as limits
use Rattle.xs_script.specs.declared.refusal.ScriptError.{ScriptError}
use Rattle.xs_script.specs.declared.refusal.ScriptError.TheVariants as errors
use Rattle.xs_script.specs.ScriptLine.{IsNumber, entries_text}
use Rattle.xs_script.specs.LineOrder.{fits_sched}
use Rattle.xs_base.specs.Bytes.{Lacks}
use Rattle.xs_script.specs.Schedule.{AreEntries, TakesWords, WordsFail, NoEntries, OverLimit, ExplainsWords, TakesEntry, ExplainsWord, TakesFront}
use Rattle.xs_base.proofs.Cuts.{one_cut, no_cut}
use Rattle.xs_script.proofs.Entries.{lacks_space, no_entries}
use Rattle.xs_script.proofs.EntryTests.{none_within, within_more}
use Rattle.xs_script.proofs.BodyLines.{all_push}

-- no word yet
pub no_words : (schedule : Schedule) (words : List ℕ) → length schedule.entries ≤ 4096 → TakesFront schedule words true schedule words
no_words schedule words few = record {
  entries = [];
  fits = tt;
  cut = refl;
  within_is = none_within schedule.cpus (length schedule.entries) few;
  came = λ _. sym (append-nil schedule.entries);
  cpus = refl;
  few = few;
}

-- the text of one entry more
entries_push : (entries : List ℕ) (n : ℕ) (rest : List ℕ) → entries_text (entries ++ n ∷ []) ++ rest ≡ entries_text entries ++ 32 ∷ (decimal n ++ rest)
entries_push entries n rest =
    ap (λ (t : List ℕ). t ++ rest) (flat_map-append (λ entry. 32 ∷ decimal entry) entries (n ∷ []))
    ∙ append_assoc (entries_text entries) ((32 ∷ decimal n) ++ []) rest
    ∙ ap (λ (t : List ℕ). entries_text entries ++ 32 ∷ (t ++ rest)) (append-nil (decimal n))

-- the test of one entry more
still_within : (within : Bool) (schedule mid : Schedule) (entries : List ℕ) (n : ℕ) → within ≡ fits_sched schedule.cpus (length schedule.entries) entries → (within ≡ true → mid.entries ≡ schedule.entries ++ entries) → mid.cpus ≡ schedule.cpus → (within && (nat_lt n mid.cpus && nat_lt (length mid.entries) 4096)) ≡ fits_sched schedule.cpus (length schedule.entries) (entries ++ n ∷ [])
still_within false schedule mid entries n is came same =
    sym (within_more schedule.cpus (length schedule.entries) entries n ∙ ap (λ (b : Bool). b && (nat_lt n schedule.cpus && nat_lt (length schedule.entries + length entries) 4096)) (sym is))
still_within true schedule mid entries n is came same =
    let long : length mid.entries ≡ length schedule.entries + length entries = ap length (came refl) ∙ length-append schedule.entries entries in
    let here : (nat_lt n mid.cpus && nat_lt (length mid.entries) 4096) ≡ (nat_lt n schedule.cpus && nat_lt (length schedule.entries + length entries) 4096) = ap (λ (m : ℕ). nat_lt n m && nat_lt (length mid.entries) 4096) same ∙ ap (λ (m : ℕ). nat_lt n schedule.cpus && nat_lt m 4096) long in
    here ∙ ap (λ (b : Bool). b && (nat_lt n schedule.cpus && nat_lt (length schedule.entries + length entries) 4096)) is ∙ sym (within_more schedule.cpus (length schedule.entries) entries n)

-- the entries with one more
entry_came : (schedule mid after : Schedule) (words left word : List ℕ) (within still : Bool) (f : TakesFront schedule words within mid left) (t : TakesEntry mid within word still after) → still ≡ true → after.entries ≡ schedule.entries ++ (f.entries ++ t.entry ∷ [])
entry_came schedule mid after words left word within still f t h =
    let before = (and_parts within (nat_lt t.entry mid.cpus && nat_lt (length mid.entries) 4096) (sym t.still_is ∙ h)).0 in
    t.came h ∙ ap (λ (xs : List ℕ). xs ++ t.entry ∷ []) (f.came before) ∙ append_assoc schedule.entries f.entries (t.entry ∷ [])

-- one word more
pub takes_more : (schedule mid after : Schedule) (words left word rest : List ℕ) (within still : Bool) → TakesFront schedule words within mid left → left ≡ word ++ 32 ∷ rest → TakesEntry mid within word still after → TakesFront schedule words still after rest
takes_more schedule mid after words left word rest within still f cut t = record {
  entries = f.entries ++ t.entry ∷ [];
  fits = all_push IsNumber f.entries t.entry f.fits t.fits;
  cut = f.cut ∙ ap (λ (xs : List ℕ). entries_text f.entries ++ 32 ∷ xs) (cut ∙ ap (λ (xs : List ℕ). xs ++ 32 ∷ rest) t.spelled) ∙ sym (entries_push f.entries t.entry (32 ∷ rest));
  within_is = t.still_is ∙ still_within within schedule mid f.entries t.entry f.within_is f.came f.cpus;
  came = entry_came schedule mid after words left word within still f t;
  cpus = t.cpus ∙ f.cpus;
  few = t.few;
}

-- the last word
last_read : (schedule mid after : Schedule) (words left : List ℕ) (within still : Bool) (f : TakesFront schedule words within mid left) (t : TakesEntry mid within left still after) → AreEntries words (f.entries ++ t.entry ∷ [])
last_read schedule mid after words left within still f t =
    let long : length (f.entries ++ t.entry ∷ []) ≡ length f.entries + 1 = length-append f.entries (t.entry ∷ []) in
    record {
      fits = (omega (arith, long), all_push IsNumber f.entries t.entry f.fits t.fits);
      spelled = f.cut ∙ ap (λ (xs : List ℕ). entries_text f.entries ++ 32 ∷ xs) (t.spelled ∙ sym (append-nil (decimal t.entry))) ∙ sym (entries_push f.entries t.entry []) ∙ append-nil (entries_text (f.entries ++ t.entry ∷ []));
    }

pub words_taken : (schedule mid after : Schedule) (words left : List ℕ) (within still : Bool) → TakesFront schedule words within mid left → TakesEntry mid within left still after → still ≡ true → TakesWords schedule words after
words_taken schedule mid after words left within still f t all = record {
  entries = f.entries ++ t.entry ∷ [];
  read = last_read schedule mid after words left within still f t;
  within = sym (t.still_is ∙ still_within within schedule mid f.entries t.entry f.within_is f.came f.cpus) ∙ all;
  came = entry_came schedule mid after words left left within still f t all;
  cpus = t.cpus ∙ f.cpus;
}

-- or one of them is beyond a limit
pub words_over : (schedule mid after : Schedule) (words left : List ℕ) (within still : Bool) → TakesFront schedule words within mid left → TakesEntry mid within left still after → still ≡ false → WordsFail schedule.cpus (length schedule.entries) words (Limit limits.Sched)
words_over schedule mid after words left within still f t beyond =
    OverLimit (f.entries ++ t.entry ∷ []) (last_read schedule mid after words left within still f t) (sym (t.still_is ∙ still_within within schedule mid f.entries t.entry f.within_is f.came f.cpus) ∙ beyond)

-- where the next word is no number, no words are entries
no_front : (schedule mid : Schedule) (words left : List ℕ) (within : Bool) → TakesFront schedule words within mid left → ((n : ℕ) (more : List ℕ) → IsNumber n → left ≡ decimal n ++ entries_text more → ⊥) → WordsFail schedule.cpus (length schedule.entries) words BadLine
no_front schedule mid words left within f none = NoEntries (λ entries read. no_entries f.entries entries left f.fits read.fits.1 none (sym f.cut ∙ read.spelled))

-- a word before a space
no_first : (left word rest : List ℕ) → left ≡ word ++ 32 ∷ rest → Lacks 32 word → ((entry : ℕ) → IsNumber entry → word ≡ decimal entry → ⊥) → (n : ℕ) (more : List ℕ) → IsNumber n → left ≡ decimal n ++ entries_text more → ⊥
no_first left word rest cut lacks none n [] fits e = no_cut 32 (decimal n) word rest (lacks_space n fits) (sym (append-nil (decimal n)) ∙ sym e ∙ cut)
no_first left word rest cut lacks none n (m ∷ more) fits e = none n fits (one_cut 32 word (decimal n) rest (decimal m ++ entries_text more) lacks (lacks_space n fits) (sym cut ∙ e)).0

-- the last word
no_last : (left : List ℕ) → Lacks 32 left → ((entry : ℕ) → IsNumber entry → left ≡ decimal entry → ⊥) → (n : ℕ) (more : List ℕ) → IsNumber n → left ≡ decimal n ++ entries_text more → ⊥
no_last left lacks none n [] fits e = none n fits (e ∙ append-nil (decimal n))
no_last left lacks none n (m ∷ more) fits e = no_cut 32 left (decimal n) (decimal m ++ entries_text more) lacks e

pub word_explains : (schedule mid : Schedule) (words left word rest : List ℕ) (within : Bool) (number : ℕ) (e : ScriptError) → TakesFront schedule words within mid left → left ≡ word ++ 32 ∷ rest → Lacks 32 word → ExplainsWord number word e → ExplainsWords schedule number words e
word_explains schedule mid words left word rest within number (errors.Refused line kind) f cut lacks (at, is, none) =
    (at, rw is (no_front schedule mid words left within f (no_first left word rest cut lacks none)))
word_explains schedule mid words left word rest within number errors.Memory f cut lacks e = tt

pub last_explains : (schedule mid : Schedule) (words left : List ℕ) (within : Bool) (number : ℕ) (e : ScriptError) → TakesFront schedule words within mid left → Lacks 32 left → ExplainsWord number left e → ExplainsWords schedule number words e
last_explains schedule mid words left within number (errors.Refused line kind) f lacks (at, is, none) =
    (at, rw is (no_front schedule mid words left within f (no_last left lacks none)))
last_explains schedule mid words left within number errors.Memory f lacks e = tt
