-- What is decided by a bounded search: whether a text has a first line that is spelled.
use Rattle.std.proofs.Common.{◌≡◌, ◌⊎◌, ℕ, zero, suc, ◌+◌, ◌<◌, ◌^◌, Bool, true, false, List, [], ◌∷◌, ◌++◌, length, inl, inr, refl, sym, ◌∙◌, ap, subst, arith, codes, decimal, length-append}
use Rattle.std.specs.Prelude.{bytes_eq}
use Rattle.std.specs.Bool.{Decides}
use Rattle.std.proofs.lemmas.Bool.{cases_eq, cases_lt}
use Rattle.std.proofs.lemmas.List.{append_cancel_left, append-nil}
use Rattle.std.proofs.lemmas.Slice.Eq.{bytes_eq-Decides}
use Rattle.hex.specs.Hex.{encode_lower}
use Rattle.xs_base.specs.declared.component.Row.{Row}
use Rattle.xs_base.specs.declared.words.Set.{Set}
use Rattle.xs_base.specs.declared.words.Set.TheVariants as sets
use Rattle.xs_base.specs.Layout.{row}
use Rattle.xs_model.specs.declared.script.Named.{Named}
use Rattle.xs_model.specs.declared.script.Named.TheVariants as machines
use Rattle.xs_model.specs.declared.script.BlockKind.TheVariants as blocks
use Rattle.xs_model.specs.declared.script.Command.TheVariants as commands
use Rattle.xs_model.specs.Script.{is_name}
use Rattle.xs_script.specs.declared.line.Line.{Line}
use Rattle.xs_script.specs.declared.line.Line.TheVariants as lines
use Rattle.xs_script.specs.ScriptLine.{IsNumber, IsLine, machine_name, row_text, kill_text, set_word, entries_text, line_text, is_register_word}
use Rattle.xs_base.specs.Bytes.{Lacks}
use Rattle.xs_script.specs.Parts.{IsValue, is_hex_text}
use Rattle.xs_script.specs.Refusal.{NoLine}
use Rattle.xs_base.proofs.Cuts.{one_cut, no_cut}
use Rattle.xs_script.proofs.Cuts.{Lacks-name, Lacks-set, Lacks-register}
use Rattle.xs_script.proofs.Entries.{lacks_space}
use Rattle.xs_script.proofs.CommandSpellings.{signal_number}
use Rattle.xs_script.proofs.HexText.{hex_text, hex_text_bytes}
use Rattle.xs_script.proofs.Readings.{length_hex, no_bytes, no_line, other_line}

-- it holds, or it doesn't
abbrev pub IsDecided : Type 0 → Type 0
IsDecided A = A ⊎ (A → ⊥)

-- what a test decides
tested : (A : Type 0) (b : Bool) → Decides b A → IsDecided A
tested A true d = inl (d.0 refl)
tested A false d = inr (λ a. let t = d.1 a in cc)

-- a test is true or not
pub is_true : (b : Bool) → IsDecided (b ≡ true)
is_true true = inl refl
is_true false = inr (λ e. cc)

-- two texts are the same or not
pub same_bytes : (a b : List ℕ) → IsDecided (a ≡ b)
same_bytes a b = tested (a ≡ b) (bytes_eq a b) (bytes_eq-Decides a b)

-- one of the numbers below a bound is such a number, or none is
pub some_below : (P : ℕ → Type 0) → ((n : ℕ) → IsDecided (P n)) → (b : ℕ) → IsDecided ((n : ℕ) × (n < b) × P n)
some_below P d zero = inr (λ h. let lt = h.1 in absurd (omega (arith, lt)))
some_below P d (suc b) = elim (d b) [
  | inl p ↦ inl (b, omega arith, p)
  | inr other ↦ elim (some_below P d b) [
    | inl h ↦ let lt = h.1 in inl (h.0, omega (arith, lt), h.2)
    | inr none ↦ inr (λ h. elim (cases_eq h.0 b) [
      | inl e ↦ other (subst P e h.2)
      | inr ne ↦ let lt = h.1 in none (h.0, omega (arith, lt), h.2)
    ])
  ]
]

-- ---- parts of a text

-- a text is cut at its first such byte, or has none
cut_at : (byte : ℕ) (text : List ℕ) → ((front : List ℕ) × (rest : List ℕ) × Lacks byte front × (text ≡ front ++ byte ∷ rest)) ⊎ Lacks byte text
cut_at byte [] = inr tt
cut_at byte (b ∷ bs) = elim (cases_eq b byte) [
  | inl here ↦ inl ([], bs, tt, ap (λ (x : ℕ). x ∷ bs) here)
  | inr other ↦ elim (cut_at byte bs) [
    | inl c ↦ inl (b ∷ c.0, c.1, (other, c.2), ap (λ (xs : List ℕ). b ∷ xs) c.3)
    | inr none ↦ inr (other, none)
  ]
]

-- a text begins with the word, or doesn't
after_word : (word text : List ℕ) → IsDecided ((rest : List ℕ) × (text ≡ word ++ rest))
after_word [] text = inl (text, refl)
after_word (w ∷ word) [] = inr (λ h. let e = h.1 in cc)
after_word (w ∷ word) (b ∷ text) = elim (cases_eq b w) [
  | inl same ↦ elim (after_word word text) [
    | inl h ↦ let e = h.1 in inl (h.0, cc)
    | inr other ↦ inr (λ h. let e = h.1 in let t : text ≡ word ++ h.0 = cc in other (h.0, t))
  ]
  | inr other ↦ inr (λ h. let e = h.1 in let t : b ≡ w = cc in other t)
]

-- The bytes are the text of a value that fits.
abbrev pub IsTextOf : (A : Type 0) → (A → Type 0) → (A → List ℕ) → List ℕ → Type 0
IsTextOf A Fits text bytes = (x : A) × Fits x × (bytes ≡ text x)

-- a word and such a text
word_and : (word : List ℕ) (A : Type 0) (Fits : A → Type 0) (text : A → List ℕ) → ((rest : List ℕ) → IsDecided (IsTextOf A Fits text rest)) → (bytes : List ℕ) → IsDecided (IsTextOf A Fits (λ x. word ++ text x) bytes)
word_and word A Fits text decide bytes = elim (after_word word bytes) [
  | inr other ↦ inr (λ h. other (text h.0, h.2))
  | inl r ↦ elim (decide r.0) [
    | inl h ↦ inl (h.0, h.1, r.1 ∙ ap (λ (xs : List ℕ). word ++ xs) h.2)
    | inr other ↦ inr (λ h. other (h.0, h.1, append_cancel_left word r.0 (text h.0) (sym r.1 ∙ h.2)))
  ]
]

-- two such texts with a space between them, the first of which has none
two_and : (A B : Type 0) (FitsA : A → Type 0) (FitsB : B → Type 0) (a : A → List ℕ) (b : B → List ℕ) → ((x : A) → FitsA x → Lacks 32 (a x)) → ((bytes : List ℕ) → IsDecided (IsTextOf A FitsA a bytes)) → ((bytes : List ℕ) → IsDecided (IsTextOf B FitsB b bytes)) → (bytes : List ℕ) → IsDecided (IsTextOf (A × B) (λ p. FitsA p.0 × FitsB p.1) (λ p. a p.0 ++ 32 ∷ b p.1) bytes)
two_and A B FitsA FitsB a b lacks first second bytes = elim (cut_at 32 bytes) [
  | inr none ↦ inr (λ h. no_cut 32 bytes (a h.0.0) (b h.0.1) none h.2)
  | inl c ↦ elim (first c.0) [
    | inr other ↦ inr (λ h. other (h.0.0, h.1.0, (one_cut 32 c.0 (a h.0.0) c.1 (b h.0.1) c.2 (lacks h.0.0 h.1.0) (sym c.3 ∙ h.2)).0))
    | inl x ↦ elim (second c.1) [
      | inr other ↦ inr (λ h. other (h.0.1, h.1.1, (one_cut 32 c.0 (a h.0.0) c.1 (b h.0.1) c.2 (lacks h.0.0 h.1.0) (sym c.3 ∙ h.2)).1))
      | inl y ↦ let ex = x.2 in let ey = y.2 in let e = c.3 in inl ((x.0, y.0), (x.1, y.1), cc)
    ]
  ]
]

-- ---- each kind of word

-- the text of a number, or of none
number_or_none : (bytes : List ℕ) → IsDecided (IsTextOf ℕ IsNumber decimal bytes)
number_or_none bytes = some_below (λ n. bytes ≡ decimal n) (λ n. same_bytes bytes (decimal n)) (2 ^ 32)

-- bytes that pass a test are their own text
passing_or_not : (test : List ℕ → Bool) (bytes : List ℕ) → IsDecided (IsTextOf (List ℕ) (λ x. test x ≡ true) (λ x. x) bytes)
passing_or_not test bytes = elim (is_true (test bytes)) [
  | inl t ↦ inl (bytes, t, refl)
  | inr other ↦ inr (λ h. other (ap test h.2 ∙ h.1))
]

-- hex text of some bytes, or of none
value_or_none : (bytes : List ℕ) → IsDecided (IsTextOf (List ℕ) IsValue encode_lower bytes)
value_or_none bytes = elim (is_true (is_hex_text bytes)) [
  | inr other ↦ inr (λ h. other (ap is_hex_text h.2 ∙ hex_text h.0 h.1.1))
  | inl t ↦
      let b = hex_text_bytes bytes t in
      let long = length_hex b.0 bytes b.2 in
      elim (cases_lt 0 (length b.0)) [
        | inl some ↦ inl (b.0, (some, b.1), b.2)
        | inr few ↦ inr (λ h. no_bytes bytes (omega (arith, long, few)) h.0 h.1 h.2)
      ]
]

-- a text that is none of the three names is no machine's
no_machine : (bytes : List ℕ) → (bytes ≡ codes "amx" → ⊥) → (bytes ≡ codes "avx" → ⊥) → (bytes ≡ codes "rows" → ⊥) → (named : Named) → bytes ≡ machine_name named → ⊥
no_machine bytes amx avx rows machines.Amx e = amx e
no_machine bytes amx avx rows machines.Avx e = avx e
no_machine bytes amx avx rows machines.Rows e = rows e

-- the name of a machine, or of none
machine_or_none : (bytes : List ℕ) → IsDecided (IsTextOf Named (λ named. Unit {0}) machine_name bytes)
machine_or_none bytes = elim (same_bytes bytes (codes "amx")) [
  | inl e ↦ inl (machines.Amx, tt, e)
  | inr amx ↦ elim (same_bytes bytes (codes "avx")) [
    | inl e ↦ inl (machines.Avx, tt, e)
    | inr avx ↦ elim (same_bytes bytes (codes "rows")) [
      | inl e ↦ inl (machines.Rows, tt, e)
      | inr rows ↦ inr (λ h. no_machine bytes amx avx rows h.0 h.2)
    ]
  ]
]

-- a text that is none of the two words is no register set's
no_set : (bytes : List ℕ) → (bytes ≡ codes "xstate" → ⊥) → (bytes ≡ codes "fx" → ⊥) → (set : Set) → bytes ≡ set_word set → ⊥
no_set bytes xstate fx sets.Xstate e = xstate e
no_set bytes xstate fx sets.Fx e = fx e

-- the word of a register set, or of none
set_or_none : (bytes : List ℕ) → IsDecided (IsTextOf Set (λ set. Unit {0}) set_word bytes)
set_or_none bytes = elim (same_bytes bytes (codes "xstate")) [
  | inl e ↦ inl (sets.Xstate, tt, e)
  | inr xstate ↦ elim (same_bytes bytes (codes "fx")) [
    | inl e ↦ inl (sets.Fx, tt, e)
    | inr fx ↦ inr (λ h. no_set bytes xstate fx h.0 h.2)
  ]
]

-- the four numbers of a row, or of none
row_or_none : (bytes : List ℕ) → IsDecided (IsTextOf Row (λ r. IsLine (lines.Row r)) row_text bytes)
row_or_none bytes =
    let two = two_and ℕ ℕ IsNumber IsNumber decimal decimal lacks_space number_or_none number_or_none in
    let three = two_and ℕ (ℕ × ℕ) IsNumber _ decimal _ lacks_space number_or_none two in
    elim (two_and ℕ (ℕ × (ℕ × ℕ)) IsNumber _ decimal _ lacks_space number_or_none three bytes) [
      | inl h ↦ inl (row h.0.0 h.0.1.0 h.0.1.1.0 h.0.1.1.1, (h.1.0, h.1.1.0, h.1.1.1.0, h.1.1.1.1), h.2)
      | inr other ↦ inr (λ h. other ((h.0.comp.0, (h.0.size, (h.0.offset, h.0.flags))), (h.1.0, (h.1.1, (h.1.2, h.1.3))), h.2))
    ]

-- ---- a line

-- the entries of a line of a schedule, each a number
abbrev AreNumbers : List ℕ → Type 0
AreNumbers entries = IsLine (lines.Sched entries)

-- the text of entries, or of none, in fewer bytes than the fuel
entries_or_none : (fuel : ℕ) (bytes : List ℕ) → length bytes < fuel → IsDecided (IsTextOf (List ℕ) AreNumbers entries_text bytes)
entries_or_none zero bytes room = absurd (omega arith)
entries_or_none (suc fuel) [] room = inr (λ h. no_entry h.0 h.1.0 h.2)
  where
    no_entry : (entries : List ℕ) → 0 < length entries → [] ≡ entries_text entries → ⊥
    no_entry [] some e = omega arith
    no_entry (n ∷ entries) some e = cc e
entries_or_none (suc fuel) (b ∷ bs) room = elim (cases_eq b 32) [
  | inr other ↦ inr (λ h. no_space h.0 h.1.0 other h.2)
  | inl space ↦ elim (cut_at 32 bs) [
    | inr none ↦ elim (number_or_none bs) [
      | inl n ↦ inl (n.0 ∷ [], (omega arith, (n.1, tt)), one_number_text b bs n.0 space n.2)
      | inr other ↦ inr (λ h. last_entry h.0 h.1 none other h.2)
    ]
    | inl c ↦ elim (number_or_none c.0) [
      | inr other ↦ inr (λ h. first_entry c.0 c.1 h.0 h.1 c.2 c.3 other h.2)
      | inl n ↦
          let long : length bs ≡ length c.0 + length (32 ∷ c.1) = ap length c.3 ∙ length-append c.0 (32 ∷ c.1) in
          elim (entries_or_none fuel (32 ∷ c.1) (omega (arith, long))) [
            | inl more ↦ inl (n.0 ∷ more.0, (omega arith, (n.1, more.1.1)), more_text c.0 c.1 n.0 more.0 space c.3 n.2 more.2)
            | inr other ↦ inr (λ h. later_entry c.0 c.1 n.0 h.0 h.1 c.2 c.3 n.1 n.2 other h.2)
          ]
    ]
  ]
]
  where
    no_space : (entries : List ℕ) → 0 < length entries → (b ≡ 32 → ⊥) → b ∷ bs ≡ entries_text entries → ⊥
    no_space [] some other e = omega arith
    no_space (n ∷ entries) some other e = let here : b ≡ 32 = cc e in other here

    one_number_text : (b : ℕ) (bs : List ℕ) (n : ℕ) → b ≡ 32 → bs ≡ decimal n → b ∷ bs ≡ entries_text (n ∷ [])
    one_number_text b bs n space is = cc (space, is ∙ sym (append-nil (decimal n)))

    tail_of : (n : ℕ) (entries : List ℕ) → b ∷ bs ≡ entries_text (n ∷ entries) → bs ≡ decimal n ++ entries_text entries
    tail_of n entries e = cc e

    last_entry : (entries : List ℕ) → AreNumbers entries → Lacks 32 bs → (IsTextOf ℕ IsNumber decimal bs → ⊥) → b ∷ bs ≡ entries_text entries → ⊥
    last_entry [] fits none other e = let some = fits.0 in omega arith
    last_entry (n ∷ []) fits none other e = other (n, fits.1.0, tail_of n [] e ∙ append-nil (decimal n))
    last_entry (n ∷ (m ∷ entries)) fits none other e = no_cut 32 bs (decimal n) (decimal m ++ entries_text entries) none (tail_of n (m ∷ entries) e)

    first_entry : (front rest entries : List ℕ) → AreNumbers entries → Lacks 32 front → bs ≡ front ++ 32 ∷ rest → (IsTextOf ℕ IsNumber decimal front → ⊥) → b ∷ bs ≡ entries_text entries → ⊥
    first_entry front rest [] fits lacks cut other e = let some = fits.0 in omega arith
    first_entry front rest (n ∷ []) fits lacks cut other e = no_cut 32 (decimal n) front rest (lacks_space n fits.1.0) (sym (append-nil (decimal n)) ∙ sym (tail_of n [] e) ∙ cut)
    first_entry front rest (n ∷ (m ∷ entries)) fits lacks cut other e =
        other (n, fits.1.0, (one_cut 32 front (decimal n) rest (decimal m ++ entries_text entries) lacks (lacks_space n fits.1.0) (sym cut ∙ tail_of n (m ∷ entries) e)).0)

    later_entry : (front rest : List ℕ) (k : ℕ) (entries : List ℕ) → AreNumbers entries → Lacks 32 front → bs ≡ front ++ 32 ∷ rest → IsNumber k → front ≡ decimal k → (IsTextOf (List ℕ) AreNumbers entries_text (32 ∷ rest) → ⊥) → b ∷ bs ≡ entries_text entries → ⊥
    later_entry front rest k [] fits lacks cut small is other e = let some = fits.0 in omega arith
    later_entry front rest k (n ∷ []) fits lacks cut small is other e = no_cut 32 (decimal n) front rest (lacks_space n fits.1.0) (sym (append-nil (decimal n)) ∙ sym (tail_of n [] e) ∙ cut)
    later_entry front rest k (n ∷ (m ∷ entries)) fits lacks cut small is other e =
        let same = (one_cut 32 front (decimal n) rest (decimal m ++ entries_text entries) lacks (lacks_space n fits.1.0) (sym cut ∙ tail_of n (m ∷ entries) e)).1 in
        other (m ∷ entries, (omega arith, fits.1.1), ap (λ (xs : List ℕ). 32 ∷ xs) same)

    more_text : (front rest : List ℕ) (n : ℕ) (more : List ℕ) → b ≡ 32 → bs ≡ front ++ 32 ∷ rest → front ≡ decimal n → 32 ∷ rest ≡ entries_text more → b ∷ bs ≡ entries_text (n ∷ more)
    more_text front rest n more space cut is text = cc (space, cut ∙ ap (λ (xs : List ℕ). xs ++ 32 ∷ rest) is ∙ ap (λ (xs : List ℕ). decimal n ++ xs) text)

-- the text of one byte, or of none
byte_or_none : (bytes : List ℕ) → IsDecided (IsTextOf ℕ (λ n. n < 256) (λ n. encode_lower (n ∷ [])) bytes)
byte_or_none bytes = some_below (λ n. bytes ≡ encode_lower (n ∷ [])) (λ n. same_bytes bytes (encode_lower (n ∷ []))) 256

-- what is decided by one thing or else by another
or_else : (A B : Type 0) → IsDecided A → (A → B) → ((A → ⊥) → IsDecided B) → IsDecided B
or_else A B (inl a) here later = inl (here a)
or_else A B (inr other) here later = later other

-- the bytes are of no form of a line
record IsOther (bytes : List ℕ) : Type 0 where
  version : bytes ≡ codes "xstate 1" → ⊥
  machine : IsTextOf Named (λ named. Unit {0}) (λ named. codes "machine " ++ machine_name named) bytes → ⊥
  row : IsTextOf Row (λ r. IsLine (lines.Row r)) (λ r. codes "row " ++ row_text r) bytes → ⊥
  cpus : IsTextOf ℕ IsNumber (λ n. codes "cpus " ++ decimal n) bytes → ⊥
  quantum : IsTextOf ℕ IsNumber (λ n. codes "quantum " ++ decimal n) bytes → ⊥
  large : IsTextOf ℕ IsNumber (λ n. codes "large " ++ decimal n) bytes → ⊥
  sched : IsTextOf (List ℕ) AreNumbers (λ x. codes "sched" ++ entries_text x) bytes → ⊥
  task : IsTextOf (List ℕ) (λ x. is_name x ≡ true) (λ x. codes "task " ++ x) bytes → ⊥
  child : IsTextOf (List ℕ) (λ x. is_name x ≡ true) (λ x. codes "child " ++ x) bytes → ⊥
  kthread : IsTextOf (List ℕ) (λ x. is_name x ≡ true) (λ x. codes "kthread " ++ x) bytes → ⊥
  set : IsTextOf (List ℕ × List ℕ) (λ p. (is_register_word p.0 ≡ true) × IsValue p.1) (λ p. codes "set " ++ (p.0 ++ 32 ∷ encode_lower p.1)) bytes → ⊥
  get : IsTextOf (List ℕ) (λ x. is_register_word x ≡ true) (λ x. codes "get " ++ x) bytes → ⊥
  ksec : IsTextOf ℕ (λ n. n < 256) (λ n. codes "ksec " ++ encode_lower (n ∷ [])) bytes → ⊥
  perm : IsTextOf ℕ IsNumber (λ n. codes "perm " ++ decimal n) bytes → ⊥
  fork : IsTextOf (List ℕ) (λ x. is_name x ≡ true) (λ x. codes "fork " ++ x) bytes → ⊥
  peek : IsTextOf (ℕ × ℕ) (λ p. IsNumber p.0 × IsNumber p.1) (λ p. codes "peek " ++ (decimal p.0 ++ 32 ∷ decimal p.1)) bytes → ⊥
  poke : IsTextOf (ℕ × List ℕ) (λ p. IsNumber p.0 × IsValue p.1) (λ p. codes "poke " ++ (decimal p.0 ++ 32 ∷ encode_lower p.1)) bytes → ⊥
  kill : IsTextOf (List ℕ × ℕ) (λ p. (is_name p.0 ≡ true) × IsNumber p.1) (λ p. codes "kill " ++ (p.0 ++ 32 ∷ decimal p.1)) bytes → ⊥
  bpeek : IsTextOf (ℕ × ℕ) (λ p. IsNumber p.0 × IsNumber p.1) (λ p. codes "bpeek " ++ (decimal p.0 ++ 32 ∷ decimal p.1)) bytes → ⊥
  bpoke : IsTextOf (ℕ × List ℕ) (λ p. IsNumber p.0 × IsValue p.1) (λ p. codes "bpoke " ++ (decimal p.0 ++ 32 ∷ encode_lower p.1)) bytes → ⊥
  wait : IsTextOf (List ℕ) (λ x. is_name x ≡ true) (λ x. codes "wait " ++ x) bytes → ⊥
  getregs : IsTextOf (List ℕ × Set) (λ p. (is_name p.0 ≡ true) × Unit {0}) (λ p. codes "getregs " ++ (p.0 ++ 32 ∷ set_word p.1)) bytes → ⊥
  setregs : IsTextOf (List ℕ × (Set × ℕ)) (λ p. (is_name p.0 ≡ true) × (Unit {0} × IsNumber p.1.1)) (λ p. codes "setregs " ++ (p.0 ++ 32 ∷ (set_word p.1.0 ++ 32 ∷ decimal p.1.1))) bytes → ⊥
  cont : IsTextOf (List ℕ) (λ x. is_name x ≡ true) (λ x. codes "cont " ++ x) bytes → ⊥
  stops : bytes ≡ codes "stop" → ⊥
  returns : bytes ≡ codes "sigreturn" → ⊥
  handler : bytes ≡ codes "handler" → ⊥
  yields : bytes ≡ codes "yield" → ⊥
  release : bytes ≡ codes "tilerelease" → ⊥
  last : bytes ≡ codes "end" → ⊥

-- so they are the text of no line
no_line_of : (bytes : List ℕ) → IsOther bytes → (l : Line) → IsLine l → bytes ≡ line_text l → ⊥
no_line_of bytes o lines.Version fits e = o.version e
no_line_of bytes o (lines.Machine named) fits e = o.machine (named, tt, e)
no_line_of bytes o (lines.Row r) fits e = o.row (r, fits, e)
no_line_of bytes o (lines.Cpus n) fits e = o.cpus (n, fits, e)
no_line_of bytes o (lines.Quantum n) fits e = o.quantum (n, fits, e)
no_line_of bytes o (lines.Large n) fits e = o.large (n, fits, e)
no_line_of bytes o (lines.Sched entries) fits e = o.sched (entries, fits, e)
no_line_of bytes o (lines.Begin blocks.Task name) fits e = o.task (name, fits, e)
no_line_of bytes o (lines.Begin blocks.Child name) fits e = o.child (name, fits, e)
no_line_of bytes o (lines.Begin blocks.Kthread name) fits e = o.kthread (name, fits, e)
no_line_of bytes o (lines.Order (commands.Set reg value)) fits e = o.set ((reg, value), (fits.0, (fits.1, fits.2)), e)
no_line_of bytes o (lines.Order (commands.Get reg)) fits e = o.get (reg, fits, e)
no_line_of bytes o (lines.Order (commands.Ksec byte)) fits e = o.ksec (byte, fits, e)
no_line_of bytes o (lines.Order commands.Tilerelease) fits e = o.release e
no_line_of bytes o (lines.Order (commands.Perm feature)) fits e = o.perm (feature, fits, e)
no_line_of bytes o (lines.Order commands.Yield) fits e = o.yields e
no_line_of bytes o (lines.Order (commands.Fork name)) fits e = o.fork (name, fits, e)
no_line_of bytes o (lines.Order (commands.Peek at len)) fits e = o.peek ((at, len), (fits.0, fits.1), e)
no_line_of bytes o (lines.Order (commands.Poke at value)) fits e = o.poke ((at, value), (fits.0, (fits.1, fits.2)), e)
no_line_of bytes o (lines.Order (commands.Bpeek at len)) fits e = o.bpeek ((at, len), (fits.0, fits.1), e)
no_line_of bytes o (lines.Order (commands.Bpoke at value)) fits e = o.bpoke ((at, value), (fits.0, (fits.1, fits.2)), e)
no_line_of bytes o (lines.Order commands.Stop) fits e = o.stops e
no_line_of bytes o (lines.Order (commands.Wait name)) fits e = o.wait (name, fits, e)
no_line_of bytes o (lines.Order (commands.Getregs name set)) fits e = o.getregs ((name, set), (fits, tt), e)
no_line_of bytes o (lines.Order (commands.Setregs name set count)) fits e = o.setregs ((name, (set, count)), (fits.0, (tt, fits.1)), e)
no_line_of bytes o (lines.Order (commands.Cont name)) fits e = o.cont (name, fits, e)
no_line_of bytes o (lines.Order commands.Sigreturn) fits e = o.returns e
no_line_of bytes o (lines.Order (commands.Kill name signo)) fits e = o.kill ((name, signo.number), (fits, signal_number signo), e)
no_line_of bytes o (lines.NoSignal name number) fits e = o.kill ((name, number), (fits.0, fits.1), e)
no_line_of bytes o lines.Handler fits e = o.handler e
no_line_of bytes o lines.End fits e = o.last e

-- the bytes are the text of a line, or of none
line_or_none : (bytes : List ℕ) → IsDecided (IsTextOf Line IsLine line_text bytes)
line_or_none bytes =
    or_else _ _ (same_bytes bytes (codes "xstate 1")) (λ e. (lines.Version, tt, e)) (λ version.
    or_else _ _ (word_and (codes "machine ") Named (λ named. Unit {0}) machine_name machine_or_none bytes) (λ h. (lines.Machine h.0, tt, h.2)) (λ machine.
    or_else _ _ (word_and (codes "row ") Row (λ r. IsLine (lines.Row r)) row_text row_or_none bytes) (λ h. (lines.Row h.0, h.1, h.2)) (λ row.
    or_else _ _ (word_and (codes "cpus ") ℕ IsNumber decimal number_or_none bytes) (λ h. (lines.Cpus h.0, h.1, h.2)) (λ cpus.
    or_else _ _ (word_and (codes "quantum ") ℕ IsNumber decimal number_or_none bytes) (λ h. (lines.Quantum h.0, h.1, h.2)) (λ quantum.
    or_else _ _ (word_and (codes "large ") ℕ IsNumber decimal number_or_none bytes) (λ h. (lines.Large h.0, h.1, h.2)) (λ large.
    or_else _ _ (word_and (codes "sched") (List ℕ) AreNumbers entries_text (λ rest. entries_or_none (suc (length rest)) rest (omega arith)) bytes) (λ h. (lines.Sched h.0, h.1, h.2)) (λ sched.
    or_else _ _ (word_and (codes "task ") (List ℕ) (λ x. is_name x ≡ true) (λ x. x) (passing_or_not is_name) bytes) (λ h. (lines.Begin blocks.Task h.0, h.1, h.2)) (λ task.
    or_else _ _ (word_and (codes "child ") (List ℕ) (λ x. is_name x ≡ true) (λ x. x) (passing_or_not is_name) bytes) (λ h. (lines.Begin blocks.Child h.0, h.1, h.2)) (λ child.
    or_else _ _ (word_and (codes "kthread ") (List ℕ) (λ x. is_name x ≡ true) (λ x. x) (passing_or_not is_name) bytes) (λ h. (lines.Begin blocks.Kthread h.0, h.1, h.2)) (λ kthread.
    or_else _ _ (word_and (codes "set ") (List ℕ × List ℕ) (λ p. (is_register_word p.0 ≡ true) × IsValue p.1) (λ p. p.0 ++ 32 ∷ encode_lower p.1) register_or_none bytes) (λ h. (lines.Order (commands.Set h.0.0 h.0.1), (h.1.0, h.1.1.0, h.1.1.1), h.2)) (λ set.
    or_else _ _ (word_and (codes "get ") (List ℕ) (λ x. is_register_word x ≡ true) (λ x. x) (passing_or_not is_register_word) bytes) (λ h. (lines.Order (commands.Get h.0), h.1, h.2)) (λ get.
    or_else _ _ (word_and (codes "ksec ") ℕ (λ n. n < 256) (λ n. encode_lower (n ∷ [])) byte_or_none bytes) (λ h. (lines.Order (commands.Ksec h.0), h.1, h.2)) (λ ksec.
    or_else _ _ (word_and (codes "perm ") ℕ IsNumber decimal number_or_none bytes) (λ h. (lines.Order (commands.Perm h.0), h.1, h.2)) (λ perm.
    or_else _ _ (word_and (codes "fork ") (List ℕ) (λ x. is_name x ≡ true) (λ x. x) (passing_or_not is_name) bytes) (λ h. (lines.Order (commands.Fork h.0), h.1, h.2)) (λ fork.
    or_else _ _ (word_and (codes "peek ") (ℕ × ℕ) (λ p. IsNumber p.0 × IsNumber p.1) (λ p. decimal p.0 ++ 32 ∷ decimal p.1) peek_or_none bytes) (λ h. (lines.Order (commands.Peek h.0.0 h.0.1), (h.1.0, h.1.1), h.2)) (λ peek.
    or_else _ _ (word_and (codes "poke ") (ℕ × List ℕ) (λ p. IsNumber p.0 × IsValue p.1) (λ p. decimal p.0 ++ 32 ∷ encode_lower p.1) poke_or_none bytes) (λ h. (lines.Order (commands.Poke h.0.0 h.0.1), (h.1.0, h.1.1.0, h.1.1.1), h.2)) (λ poke.
    or_else _ _ (word_and (codes "kill ") (List ℕ × ℕ) (λ p. (is_name p.0 ≡ true) × IsNumber p.1) (λ p. p.0 ++ 32 ∷ decimal p.1) kill_or_none bytes) (λ h. kill_line h.0.0 h.0.1 h.1.0 h.1.1 h.2) (λ kill.
    or_else _ _ (word_and (codes "bpeek ") (ℕ × ℕ) (λ p. IsNumber p.0 × IsNumber p.1) (λ p. decimal p.0 ++ 32 ∷ decimal p.1) peek_or_none bytes) (λ h. (lines.Order (commands.Bpeek h.0.0 h.0.1), (h.1.0, h.1.1), h.2)) (λ bpeek.
    or_else _ _ (word_and (codes "bpoke ") (ℕ × List ℕ) (λ p. IsNumber p.0 × IsValue p.1) (λ p. decimal p.0 ++ 32 ∷ encode_lower p.1) poke_or_none bytes) (λ h. (lines.Order (commands.Bpoke h.0.0 h.0.1), (h.1.0, h.1.1.0, h.1.1.1), h.2)) (λ bpoke.
    or_else _ _ (word_and (codes "wait ") (List ℕ) (λ x. is_name x ≡ true) (λ x. x) (passing_or_not is_name) bytes) (λ h. (lines.Order (commands.Wait h.0), h.1, h.2)) (λ wait.
    or_else _ _ (word_and (codes "getregs ") (List ℕ × Set) (λ p. (is_name p.0 ≡ true) × Unit {0}) (λ p. p.0 ++ 32 ∷ set_word p.1) getregs_or_none bytes) (λ h. (lines.Order (commands.Getregs h.0.0 h.0.1), h.1.0, h.2)) (λ getregs.
    or_else _ _ (word_and (codes "setregs ") (List ℕ × (Set × ℕ)) (λ p. (is_name p.0 ≡ true) × (Unit {0} × IsNumber p.1.1)) (λ p. p.0 ++ 32 ∷ (set_word p.1.0 ++ 32 ∷ decimal p.1.1)) setregs_or_none bytes) (λ h. (lines.Order (commands.Setregs h.0.0 h.0.1.0 h.0.1.1), (h.1.0, h.1.1.1), h.2)) (λ setregs.
    or_else _ _ (word_and (codes "cont ") (List ℕ) (λ x. is_name x ≡ true) (λ x. x) (passing_or_not is_name) bytes) (λ h. (lines.Order (commands.Cont h.0), h.1, h.2)) (λ cont.
    or_else _ _ (same_bytes bytes (codes "stop")) (λ e. (lines.Order commands.Stop, tt, e)) (λ stops.
    or_else _ _ (same_bytes bytes (codes "sigreturn")) (λ e. (lines.Order commands.Sigreturn, tt, e)) (λ returns.
    or_else _ _ (same_bytes bytes (codes "handler")) (λ e. (lines.Handler, tt, e)) (λ handler.
    or_else _ _ (same_bytes bytes (codes "yield")) (λ e. (lines.Order commands.Yield, tt, e)) (λ yields.
    or_else _ _ (same_bytes bytes (codes "tilerelease")) (λ e. (lines.Order commands.Tilerelease, tt, e)) (λ release.
    or_else _ _ (same_bytes bytes (codes "end")) (λ e. (lines.End, tt, e)) (λ last.
    inr (λ h. no_line_of bytes (record { version = version; machine = machine; row = row; cpus = cpus; quantum = quantum; large = large; sched = sched; task = task; child = child; kthread = kthread; set = set; get = get; ksec = ksec; perm = perm; fork = fork; peek = peek; poke = poke; kill = kill; bpeek = bpeek; bpoke = bpoke; wait = wait; getregs = getregs; setregs = setregs; cont = cont; stops = stops; returns = returns; handler = handler; yields = yields; release = release; last = last }) h.0 h.1 h.2)))))))))))))))))))))))))))))))
  where
    register_or_none : (rest : List ℕ) → IsDecided (IsTextOf (List ℕ × List ℕ) (λ p. (is_register_word p.0 ≡ true) × IsValue p.1) (λ p. p.0 ++ 32 ∷ encode_lower p.1) rest)
    register_or_none = two_and (List ℕ) (List ℕ) (λ x. is_register_word x ≡ true) IsValue (λ x. x) encode_lower (λ x fits. Lacks-register 32 x refl fits) (passing_or_not is_register_word) value_or_none

    peek_or_none : (rest : List ℕ) → IsDecided (IsTextOf (ℕ × ℕ) (λ p. IsNumber p.0 × IsNumber p.1) (λ p. decimal p.0 ++ 32 ∷ decimal p.1) rest)
    peek_or_none = two_and ℕ ℕ IsNumber IsNumber decimal decimal lacks_space number_or_none number_or_none

    poke_or_none : (rest : List ℕ) → IsDecided (IsTextOf (ℕ × List ℕ) (λ p. IsNumber p.0 × IsValue p.1) (λ p. decimal p.0 ++ 32 ∷ encode_lower p.1) rest)
    poke_or_none = two_and ℕ (List ℕ) IsNumber IsValue decimal encode_lower lacks_space number_or_none value_or_none

    getregs_or_none : (rest : List ℕ) → IsDecided (IsTextOf (List ℕ × Set) (λ p. (is_name p.0 ≡ true) × Unit {0}) (λ p. p.0 ++ 32 ∷ set_word p.1) rest)
    getregs_or_none = two_and (List ℕ) Set (λ x. is_name x ≡ true) (λ set. Unit {0}) (λ x. x) set_word (λ x fits. Lacks-name 32 x refl refl fits) (passing_or_not is_name) set_or_none

    setregs_or_none : (rest : List ℕ) → IsDecided (IsTextOf (List ℕ × (Set × ℕ)) (λ p. (is_name p.0 ≡ true) × (Unit {0} × IsNumber p.1.1)) (λ p. p.0 ++ 32 ∷ (set_word p.1.0 ++ 32 ∷ decimal p.1.1)) rest)
    setregs_or_none =
        let counted = two_and Set ℕ (λ set. Unit {0}) IsNumber set_word decimal (λ set fits. Lacks-set 32 set refl refl) set_or_none number_or_none in
        two_and (List ℕ) (Set × ℕ) (λ x. is_name x ≡ true) _ (λ x. x) _ (λ x fits. Lacks-name 32 x refl refl fits) (passing_or_not is_name) counted

    kill_or_none : (rest : List ℕ) → IsDecided (IsTextOf (List ℕ × ℕ) (λ p. (is_name p.0 ≡ true) × IsNumber p.1) (λ p. p.0 ++ 32 ∷ decimal p.1) rest)
    kill_or_none = two_and (List ℕ) ℕ (λ x. is_name x ≡ true) IsNumber (λ x. x) decimal (λ x fits. Lacks-name 32 x refl refl fits) (passing_or_not is_name) number_or_none

    -- a number is that of a signal, or of none
    kill_line : (name : List ℕ) (number : ℕ) → is_name name ≡ true → IsNumber number → bytes ≡ kill_text name number → IsTextOf Line IsLine line_text bytes
    kill_line name number fits small e = elim (cases_lt 31 number) [
      | inl above ↦ (lines.NoSignal name number, (fits, small, λ range. absurd (omega (arith, above, range.1))), e)
      | inr low ↦ elim (cases_lt 0 number) [
        | inl some ↦ (lines.Order (commands.Kill name (record { number = number; in_range = (omega arith, omega arith) })), fits, e)
        | inr none ↦ (lines.NoSignal name number, (fits, small, λ range. absurd (omega (arith, none, range.0))), e)
      ]
    ]

-- A text has a first line that is spelled, or it has none.
pub first_or_none : (text : List ℕ) → ((l : Line) × (rest : List ℕ) × IsLine l × (text ≡ line_text l ++ 10 ∷ rest)) ⊎ NoLine text
first_or_none text = elim (cut_at 10 text) [
  | inr none ↦ inr (no_line text none)
  | inl c ↦ elim (line_or_none c.0) [
    | inl h ↦ inl (h.0, c.1, h.1, c.3 ∙ ap (λ (xs : List ℕ). xs ++ 10 ∷ c.1) h.2)
    | inr other ↦ inr (other_line text c.0 c.1 c.2 c.3 (λ l fits e. other (l, fits, e)))
  ]
]
