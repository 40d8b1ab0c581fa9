-- Two events of one script with the same line are the same, and so are two histories with the same text.
use Rattle.std.proofs.Common.{◌≡◌, ℕ, ◌<◌, List, [], ◌∷◌, ◌++◌, length, refl, sym, ap, subst, ◌∙◌, arith}
use Rattle.std.specs.Prelude.{codes, decimal}
use Rattle.std.proofs.lemmas.List.{append_assoc}
use Rattle.std.proofs.lemmas.Fmt.{decimal_injective}
use Rattle.xs_model.specs.declared.script.Script.{Script}
use Rattle.xs_model.specs.declared.event.Event.{Event}
use Rattle.xs_model.specs.declared.event.Event.TheVariants as events
use Rattle.xs_model.specs.Script.{IsValid}
use Rattle.xs_text.specs.Text.{words, how_word, signal_word, reply_word, cause_word, name_of, event_line, history_text, IsEvent, AreEvents}
use Rattle.xs_text.proofs.SpacedWords.{AllAbove, AreWords, cut_same, no_cut, words_same, above_words, above_literal}
use Rattle.xs_text.proofs.EventWords.{first_byte, above_name_at, same_block, above_number, above_how, same_how, above_signal, same_signal, same_signo, below_2_64, above_cause, same_cause, above_reply, same_reply}

-- the first word of a line
abbrev kind_word : Event → List ℕ
kind_word (events.Start task cpu how signal) = codes "start"
kind_word (events.Local task line reply) = codes "local"
kind_word (events.Outer task line reply) = codes "outer"
kind_word (events.Grow task) = codes "grow"
kind_word (events.Kill task signo why) = codes "kill"
kind_word (events.End task) = codes "end"

-- the bytes of a first word
above_kind : (event : Event) → AllAbove 32 (kind_word event)
above_kind (events.Start task cpu how signal) = above_literal 32 (codes "start") refl
above_kind (events.Local task line reply) = above_literal 32 (codes "local") refl
above_kind (events.Outer task line reply) = above_literal 32 (codes "outer") refl
above_kind (events.Grow task) = above_literal 32 (codes "grow") refl
above_kind (events.Kill task signo why) = above_literal 32 (codes "kill") refl
above_kind (events.End task) = above_literal 32 (codes "end") refl

-- its first byte, which no two kinds of events share
unfoldable pub kind_letter : Event → ℕ
kind_letter (events.Start task cpu how signal) = 115
kind_letter (events.Local task line reply) = 108
kind_letter (events.Outer task line reply) = 111
kind_letter (events.Grow task) = 103
kind_letter (events.Kill task signo why) = 107
kind_letter (events.End task) = 101

-- the word has that byte
kind_letter_is : (event : Event) → first_byte (kind_word event) ≡ kind_letter event
unfolding kind_letter
kind_letter_is (events.Start task cpu how signal) = refl
kind_letter_is (events.Local task line reply) = refl
kind_letter_is (events.Outer task line reply) = refl
kind_letter_is (events.Grow task) = refl
kind_letter_is (events.Kill task signo why) = refl
kind_letter_is (events.End task) = refl

-- the words after the first
abbrev more_words : Script → Event → List (List ℕ)
more_words script (events.Start task cpu how signal) = name_of script task ∷ decimal cpu ∷ how_word how ∷ signal_word signal ∷ []
more_words script (events.Local task line reply) = name_of script task ∷ decimal line ∷ reply_word reply ∷ []
more_words script (events.Outer task line reply) = name_of script task ∷ decimal line ∷ reply_word reply ∷ []
more_words script (events.Grow task) = name_of script task ∷ []
more_words script (events.Kill task signo why) = name_of script task ∷ decimal signo.number ∷ cause_word why ∷ []
more_words script (events.End task) = name_of script task ∷ []

-- a line by its first word and the others
line_is : (script : Script) (event : Event) → event_line script event ≡ words (kind_word event) (more_words script event)
line_is script (events.Start task cpu how signal) = refl
line_is script (events.Local task line reply) = refl
line_is script (events.Outer task line reply) = refl
line_is script (events.Grow task) = refl
line_is script (events.Kill task signo why) = refl
line_is script (events.End task) = refl

module _ (script : Script) (valid : IsValid script) where
  -- the name of a task
  pub above_task : (task : ℕ) → task < length script.blocks → AllAbove 32 (name_of script task)
  above_task task h = above_name_at script.blocks task valid.names h

  -- Tasks with one name are one task.
  same_task : (t u : ℕ) → t < length script.blocks → u < length script.blocks → name_of script t ≡ name_of script u → t ≡ u
  same_task t u h k e = same_block script.blocks t u valid.distinct h k e

  -- the bytes of the words after the first
  above_more : (event : Event) → IsEvent script event → AreWords (more_words script event)
  above_more (events.Start task cpu how signal) h = (above_task task h.0, (above_number cpu (omega arith), (above_how how, (above_signal signal, tt))))
  above_more (events.Local task line reply) h = (above_task task h.0, (above_number line (omega arith), (above_reply reply h.2, tt)))
  above_more (events.Outer task line reply) h = (above_task task h.0, (above_number line (omega arith), (above_reply reply h.2, tt)))
  above_more (events.Grow task) h = (above_task task h, tt)
  above_more (events.Kill task signo why) h = (above_task task h, (above_number signo.number (below_2_64 signo), (above_cause why, tt)))
  above_more (events.End task) h = (above_task task h, tt)

  -- A line has no line feed.
  pub above_line : (event : Event) → IsEvent script event → AllAbove 10 (event_line script event)
  above_line event h =
      subst (AllAbove 10) (sym (line_is script event))
      (above_words (kind_word event) (more_words script event) (above_kind event) (above_more event h))

  -- Two events with the same words are the same.
  same_words : (a b : Event) → IsEvent script a → IsEvent script b → kind_word a ≡ kind_word b → more_words script a ≡ more_words script b → a ≡ b
  unfolding kind_letter
  same_words (events.Start t c how s) (events.Start u d other r) h k first e =
      let tasks = same_task t u h.0 k.0 cc in
      let numbers = decimal_injective c d (omega arith) (omega arith) cc in
      let restores = same_how how other cc in
      let signals = same_signal s r cc in
      cc (tasks, numbers, restores, signals)
  same_words (events.Local t m a) (events.Local u n b) h k first e =
      let tasks = same_task t u h.0 k.0 cc in
      let numbers = decimal_injective m n (omega arith) (omega arith) cc in
      let replies_same = same_reply a b h.2 k.2 cc in
      cc (tasks, numbers, replies_same)
  same_words (events.Outer t m a) (events.Outer u n b) h k first e =
      let tasks = same_task t u h.0 k.0 cc in
      let numbers = decimal_injective m n (omega arith) (omega arith) cc in
      let replies_same = same_reply a b h.2 k.2 cc in
      cc (tasks, numbers, replies_same)
  same_words (events.Grow t) (events.Grow u) h k first e = ap events.Grow (same_task t u h k cc)
  same_words (events.Kill t s why) (events.Kill u r other) h k first e =
      let tasks = same_task t u h k cc in
      let signals : s ≡ r = same_signo s r (decimal_injective s.number r.number (below_2_64 s) (below_2_64 r) cc) in
      let causes_same = same_cause why other cc in
      cc (tasks, signals, causes_same)
  same_words (events.End t) (events.End u) h k first e = ap events.End (same_task t u h k cc)
  same_words a b h k first e =
      let letters : kind_letter a ≡ kind_letter b = sym (kind_letter_is a) ∙ ap first_byte first ∙ kind_letter_is b in
      absurd (omega arith)

  -- Two events with the same line are the same.
  pub same_event : (a b : Event) → IsEvent script a → IsEvent script b → event_line script a ≡ event_line script b → a ≡ b
  same_event a b h k e =
      let cut = words_same (kind_word a) (kind_word b) (more_words script a) (more_words script b)
      (above_kind a) (above_kind b) (above_more a h) (above_more b k) (sym (line_is script a) ∙ e ∙ line_is script b) in
      same_words a b h k cut.0 cut.1

  -- a history's text from its first event on
  pub text_from : (event : Event) (later : List Event) → history_text script (event ∷ later) ≡ event_line script event ++ 10 ∷ history_text script later
  text_from event later = append_assoc (event_line script event) (10 ∷ []) (history_text script later)

  -- Two histories with the same text are the same.
  pub same_history : (a b : List Event) → AreEvents script a → AreEvents script b → history_text script a ≡ history_text script b → a ≡ b
  same_history [] [] h k e = refl
  same_history [] (y ∷ ys) h k e = absurd (no_cut 10 [] (event_line script y) (history_text script ys) tt (e ∙ text_from y ys))
  same_history (x ∷ xs) [] h k e = absurd (no_cut 10 [] (event_line script x) (history_text script xs) tt (sym e ∙ text_from x xs))
  same_history (x ∷ xs) (y ∷ ys) h k e =
      let cut = cut_same 10 (event_line script x) (event_line script y) (history_text script xs) (history_text script ys)
      (above_line x h.0) (above_line y k.0) (sym (text_from x xs) ∙ e ∙ text_from y ys) in
      let first = same_event x y h.0 k.0 cut.0 in
      let rest = same_history xs ys h.1 k.1 cut.1 in
      cc (first, rest)
