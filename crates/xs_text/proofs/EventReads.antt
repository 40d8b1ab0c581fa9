-- The words of one event's line, read one after the other.
use Rattle.std.proofs.Common.{◌≡◌, ℕ, ◌<◌, List, ◌∷◌, ◌++◌, length, codes, decimal, Option, refl, sym, ap, ◌∙◌, arith}
use Rattle.std.proofs.lemmas.List.{append_assoc}
use Rattle.xs_base.specs.declared.words.How.{How}
use Rattle.xs_base.specs.declared.words.Signo.{Signo}
use Rattle.xs_model.specs.declared.script.Script.{Script}
use Rattle.xs_model.specs.declared.event.Event.{Event}
use Rattle.xs_model.specs.declared.event.Event.TheVariants as events
use Rattle.xs_model.specs.declared.event.Reply.{Reply}
use Rattle.xs_model.specs.declared.event.Why.{Why}
use Rattle.xs_text.specs.Text.{how_word, signal_word, reply_word, cause_word, name_of, event_line, IsEvent, IsReply}
use Rattle.xs_model.specs.Script.{IsValid}
use Rattle.xs_text.specs.Reading.{IsRead, Any, IsNumber, IsEventOf, NoEvent}
use Rattle.xs_text.proofs.SpacedWords.{above_decimal}
use Rattle.xs_text.proofs.EventWords.{first_byte, above_how, below_2_64}
use Rattle.xs_text.proofs.OneSpelling.{above_task, kind_letter}
use Rattle.xs_text.proofs.Cuts.{next_words}
use Rattle.xs_text.proofs.WordReads.{IsTask, signo_word}

-- a text that begins with an event's line has its first byte
letter_is : (script : Script) (event : Event) (rest : List ℕ) → first_byte (event_line script event ++ rest) ≡ kind_letter event
unfolding kind_letter
letter_is script (events.Start task cpu how signal) rest = refl
letter_is script (events.Local task line reply) rest = refl
letter_is script (events.Outer task line reply) rest = refl
letter_is script (events.Grow task) rest = refl
letter_is script (events.Kill task signo why) rest = refl
letter_is script (events.End task) rest = refl

-- ---- the words of a line as a text that goes on after it

-- two words
two_words : (a b rest : List ℕ) → (a ++ 32 ∷ b) ++ 10 ∷ rest ≡ a ++ 32 ∷ (b ++ 10 ∷ rest)
two_words a b rest = append_assoc a (32 ∷ b) (10 ∷ rest)

-- three
three_words : (a b c rest : List ℕ) → (a ++ 32 ∷ (b ++ 32 ∷ c)) ++ 10 ∷ rest ≡ a ++ 32 ∷ (b ++ 32 ∷ (c ++ 10 ∷ rest))
three_words a b c rest = two_words a (b ++ 32 ∷ c) rest ∙ ap (λ (t : List ℕ). a ++ 32 ∷ t) (two_words b c rest)

-- four
four_words : (a b c d rest : List ℕ) → (a ++ 32 ∷ (b ++ 32 ∷ (c ++ 32 ∷ d))) ++ 10 ∷ rest ≡ a ++ 32 ∷ (b ++ 32 ∷ (c ++ 32 ∷ (d ++ 10 ∷ rest)))
four_words a b c d rest = two_words a (b ++ 32 ∷ (c ++ 32 ∷ d)) rest ∙ ap (λ (t : List ℕ). a ++ 32 ∷ t) (three_words b c d rest)

module _ (script : Script) where
  -- A line that begins with `start` is that of a Start.
  pub start_only : (words : List ℕ)
      → ((task cpu : ℕ) (how : How) (signal : Option Signo) (rest : List ℕ) → IsEvent script (events.Start task cpu how signal)
      → words ≡ name_of script task ++ 32 ∷ (decimal cpu ++ 32 ∷ (how_word how ++ 32 ∷ (signal_word signal ++ 10 ∷ rest))) → ⊥)
      → NoEvent script (codes "start " ++ words)
  unfolding kind_letter
  start_only words none (events.Start task cpu how signal) rest fits e =
      let tail : words ≡ (name_of script task ++ 32 ∷ (decimal cpu ++ 32 ∷ (how_word how ++ 32 ∷ signal_word signal))) ++ 10 ∷ rest = cc in
      none task cpu how signal rest fits (tail ∙ four_words (name_of script task) (decimal cpu) (how_word how) (signal_word signal) rest)
  start_only words none other rest fits e =
      let letters : 115 ≡ kind_letter other = ap first_byte e ∙ letter_is script other (10 ∷ rest) in
      absurd (omega arith)

  -- A line that begins with `local` is that of a Local event.
  pub local_only : (words : List ℕ)
      → ((task line : ℕ) (reply : Reply) (rest : List ℕ) → IsEvent script (events.Local task line reply)
      → words ≡ name_of script task ++ 32 ∷ (decimal line ++ 32 ∷ (reply_word reply ++ 10 ∷ rest)) → ⊥)
      → NoEvent script (codes "local " ++ words)
  unfolding kind_letter
  local_only words none (events.Local task line reply) rest fits e =
      let tail : words ≡ (name_of script task ++ 32 ∷ (decimal line ++ 32 ∷ reply_word reply)) ++ 10 ∷ rest = cc in
      none task line reply rest fits (tail ∙ three_words (name_of script task) (decimal line) (reply_word reply) rest)
  local_only words none other rest fits e =
      let letters : 108 ≡ kind_letter other = ap first_byte e ∙ letter_is script other (10 ∷ rest) in
      absurd (omega arith)

  -- A line that begins with `outer` is that of an Outer event.
  pub outer_only : (words : List ℕ)
      → ((task line : ℕ) (reply : Reply) (rest : List ℕ) → IsEvent script (events.Outer task line reply)
      → words ≡ name_of script task ++ 32 ∷ (decimal line ++ 32 ∷ (reply_word reply ++ 10 ∷ rest)) → ⊥)
      → NoEvent script (codes "outer " ++ words)
  unfolding kind_letter
  outer_only words none (events.Outer task line reply) rest fits e =
      let tail : words ≡ (name_of script task ++ 32 ∷ (decimal line ++ 32 ∷ reply_word reply)) ++ 10 ∷ rest = cc in
      none task line reply rest fits (tail ∙ three_words (name_of script task) (decimal line) (reply_word reply) rest)
  outer_only words none other rest fits e =
      let letters : 111 ≡ kind_letter other = ap first_byte e ∙ letter_is script other (10 ∷ rest) in
      absurd (omega arith)

  -- A line that begins with `grow` is that of a Grow.
  pub grow_only : (words : List ℕ) → ((task : ℕ) (rest : List ℕ) → task < length script.blocks → words ≡ name_of script task ++ 10 ∷ rest → ⊥) → NoEvent script (codes "grow " ++ words)
  unfolding kind_letter
  grow_only words none (events.Grow task) rest fits e = none task rest fits cc
  grow_only words none other rest fits e =
      let letters : 103 ≡ kind_letter other = ap first_byte e ∙ letter_is script other (10 ∷ rest) in
      absurd (omega arith)

  -- A line that begins with `kill` is that of a Kill.
  pub kill_only : (words : List ℕ)
      → ((task : ℕ) (signo : Signo) (why : Why) (rest : List ℕ) → task < length script.blocks
      → words ≡ name_of script task ++ 32 ∷ (decimal signo.number ++ 32 ∷ (cause_word why ++ 10 ∷ rest)) → ⊥)
      → NoEvent script (codes "kill " ++ words)
  unfolding kind_letter
  kill_only words none (events.Kill task signo why) rest fits e =
      let tail : words ≡ (name_of script task ++ 32 ∷ (decimal signo.number ++ 32 ∷ cause_word why)) ++ 10 ∷ rest = cc in
      none task signo why rest fits (tail ∙ three_words (name_of script task) (decimal signo.number) (cause_word why) rest)
  kill_only words none other rest fits e =
      let letters : 107 ≡ kind_letter other = ap first_byte e ∙ letter_is script other (10 ∷ rest) in
      absurd (omega arith)

  -- A line that begins with `end` is that of an End.
  pub end_only : (words : List ℕ) → ((task : ℕ) (rest : List ℕ) → task < length script.blocks → words ≡ name_of script task ++ 10 ∷ rest → ⊥) → NoEvent script (codes "end " ++ words)
  unfolding kind_letter
  end_only words none (events.End task) rest fits e = none task rest fits cc
  end_only words none other rest fits e =
      let letters : 101 ≡ kind_letter other = ap first_byte e ∙ letter_is script other (10 ∷ rest) in
      absurd (omega arith)

  -- ---- the words that were read are those of the line

  pub start_read : (task cpu : ℕ) (how : How) (signal : Option Signo) (words a b c rest : List ℕ) → IsRead (name_of script) (IsTask script) 32 words task a → IsRead decimal IsNumber 32 a cpu b → IsRead how_word Any 32 b how c → IsRead signal_word Any 10 c signal rest
      → IsEventOf script (codes "start " ++ words) (events.Start task cpu how signal) rest
  start_read task cpu how signal words a b c rest first second third last = (
    (first.0, second.0),
    ap (λ (t : List ℕ). codes "start " ++ t) (first.1 ∙ ap (λ (t : List ℕ). name_of script task ++ 32 ∷ t) (second.1 ∙ ap (λ (t : List ℕ). decimal cpu ++ 32 ∷ t) (third.1 ∙ ap (λ (t : List ℕ). how_word how ++ 32 ∷ t) last.1))
        ∙ sym (four_words (name_of script task) (decimal cpu) (how_word how) (signal_word signal) rest)),
  )

  told : (task line : ℕ) (reply : Reply) (words a b rest : List ℕ) → IsRead (name_of script) (IsTask script) 32 words task a → IsRead decimal IsNumber 32 a line b → IsRead reply_word IsReply 10 b reply rest
      → words ≡ (name_of script task ++ 32 ∷ (decimal line ++ 32 ∷ reply_word reply)) ++ 10 ∷ rest
  told task line reply words a b rest first second last =
      first.1 ∙ ap (λ (t : List ℕ). name_of script task ++ 32 ∷ t) (second.1 ∙ ap (λ (t : List ℕ). decimal line ++ 32 ∷ t) last.1)
      ∙ sym (three_words (name_of script task) (decimal line) (reply_word reply) rest)

  pub local_read : (task line : ℕ) (reply : Reply) (words a b rest : List ℕ) → IsRead (name_of script) (IsTask script) 32 words task a → IsRead decimal IsNumber 32 a line b → IsRead reply_word IsReply 10 b reply rest
      → IsEventOf script (codes "local " ++ words) (events.Local task line reply) rest
  local_read task line reply words a b rest first second last =
      ((first.0, second.0, last.0), ap (λ (t : List ℕ). codes "local " ++ t) (told task line reply words a b rest first second last))

  pub outer_read : (task line : ℕ) (reply : Reply) (words a b rest : List ℕ) → IsRead (name_of script) (IsTask script) 32 words task a → IsRead decimal IsNumber 32 a line b → IsRead reply_word IsReply 10 b reply rest
      → IsEventOf script (codes "outer " ++ words) (events.Outer task line reply) rest
  outer_read task line reply words a b rest first second last =
      ((first.0, second.0, last.0), ap (λ (t : List ℕ). codes "outer " ++ t) (told task line reply words a b rest first second last))

  pub grow_read : (task : ℕ) (words rest : List ℕ) → IsRead (name_of script) (IsTask script) 10 words task rest → IsEventOf script (codes "grow " ++ words) (events.Grow task) rest
  grow_read task words rest read = (read.0, ap (λ (t : List ℕ). codes "grow " ++ t) read.1)

  pub end_read : (task : ℕ) (words rest : List ℕ) → IsRead (name_of script) (IsTask script) 10 words task rest → IsEventOf script (codes "end " ++ words) (events.End task) rest
  end_read task words rest read = (read.0, ap (λ (t : List ℕ). codes "end " ++ t) read.1)

  pub kill_read : (task : ℕ) (signo : Signo) (why : Why) (words a b rest : List ℕ) → IsRead (name_of script) (IsTask script) 32 words task a → IsRead signo_word Any 32 a signo b → IsRead cause_word Any 10 b why rest
      → IsEventOf script (codes "kill " ++ words) (events.Kill task signo why) rest
  kill_read task signo why words a b rest first second last = (
    first.0,
    ap (λ (t : List ℕ). codes "kill " ++ t) (first.1 ∙ ap (λ (t : List ℕ). name_of script task ++ 32 ∷ t) (second.1 ∙ ap (λ (t : List ℕ). decimal signo.number ++ 32 ∷ t) last.1)
        ∙ sym (three_words (name_of script task) (decimal signo.number) (cause_word why) rest)),
  )

-- ---- what comes after a word that was read

pub after_task : (script : Script) (task other : ℕ) (words rest more : List ℕ) → IsValid script → IsRead (name_of script) (IsTask script) 32 words task rest → other < length script.blocks → words ≡ name_of script other ++ 32 ∷ more → rest ≡ more
after_task script task other words rest more valid read fits e =
    (next_words 32 32 words (name_of script task) (name_of script other) rest more (omega arith) (above_task script valid task read.0) (above_task script valid other fits) read.1 e).1

pub after_number : (n other : ℕ) (words rest more : List ℕ) → IsRead decimal IsNumber 32 words n rest → IsNumber other → words ≡ decimal other ++ 32 ∷ more → rest ≡ more
after_number n other words rest more read fits e =
    let small = read.0 in
    (next_words 32 47 words (decimal n) (decimal other) rest more (omega arith) (above_decimal n (omega arith)) (above_decimal other (omega arith)) read.1 e).1

pub after_how : (how other : How) (words rest more : List ℕ) → IsRead how_word Any 32 words how rest → words ≡ how_word other ++ 32 ∷ more → rest ≡ more
after_how how other words rest more read e =
    (next_words 32 32 words (how_word how) (how_word other) rest more (omega arith) (above_how how) (above_how other) read.1 e).1

pub after_signo : (signo other : Signo) (words rest more : List ℕ) → IsRead signo_word Any 32 words signo rest → words ≡ decimal other.number ++ 32 ∷ more → rest ≡ more
after_signo signo other words rest more read e =
    (next_words 32 47 words (decimal signo.number) (decimal other.number) rest more (omega arith) (above_decimal signo.number (below_2_64 signo)) (above_decimal other.number (below_2_64 other)) read.1 e).1
