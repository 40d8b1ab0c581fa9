-- Texts of lines that stand behind one another.
use Rattle.std.proofs.Common.{◌≡◌, ℕ, zero, suc, ◌+◌, ◌-◌, ◌<◌, ◌≤◌, List, [], ◌∷◌, ◌++◌, map, ap, sym, ◌∙◌, arith, refl, codes, decimal}
use Rattle.std.specs.Fmt.{digits}
use Rattle.std.proofs.lemmas.List.{append_assoc, append-nil, map-append}
use Rattle.std.proofs.lemmas.Grind.{flat_map-append}
use Rattle.xs_model.specs.declared.script.Command.{Command}
use Rattle.xs_model.specs.declared.script.Command.TheVariants as commands
use Rattle.xs_script.specs.declared.line.Line.{Line}
use Rattle.xs_script.specs.declared.line.Line.TheVariants as lines
use Rattle.xs_script.specs.Grammar.{lines_text}
use Rattle.xs_script.specs.ScriptLine.{line_text}
use Rattle.xs_gen.specs.Generated.{after, after_round, after_rounds, after_task, drawn, draws, generated_text, next, round_lines, rounds, task_block, task_blocks, third_line, tile_lines, xmm_name}
use Rattle.xs_gen.specs.Written.{order_text, orders_text}
use Rattle.xs_gen.proofs.DrawLemmas.{after_seventeen}

-- ---- lines

pub lines_text-append : (a b : List Line) → lines_text (a ++ b) ≡ lines_text a ++ lines_text b
lines_text-append a b = flat_map-append (λ (l : Line). line_text l ++ 10 ∷ []) a b

pub orders_text-append : (a b : List Command) → orders_text (a ++ b) ≡ orders_text a ++ orders_text b
orders_text-append a b = ap (λ (ls : List Line). lines_text ls) (map-append lines.Order a b) ∙ lines_text-append (map lines.Order a) (map lines.Order b)

-- What was written is followed by a piece, and all that is to come by the rest.
pub piece_more : (text more piece rest whole all : List ℕ) → more ≡ text ++ piece → whole ≡ piece ++ rest → text ++ whole ≡ all → more ++ rest ≡ all
piece_more text more piece rest whole all is parts h =
    ap (λ (t : List ℕ). t ++ rest) is ∙ append_assoc text piece rest ∙ ap (λ (t : List ℕ). text ++ t) (sym parts) ∙ h

-- ---- a round

three_pieces : (text a b c : List ℕ) → ((text ++ a) ++ b) ++ c ≡ text ++ (a ++ (b ++ (c ++ [])))
three_pieces text a b c = simp (append_assoc, append-nil)

-- the three lines of a round
pub round_text : (r s last : ℕ) (text set_text get_text name bytes : List ℕ) → name ≡ xmm_name (drawn s) → bytes ≡ draws 16 (next s) → last ≡ after 16 (next s) → set_text ≡ text ++ order_text (commands.Set name bytes) → get_text ≡ set_text ++ order_text (commands.Get name) → get_text ++ order_text (third_line r last) ≡ text ++ orders_text (round_lines r s)
round_text r s last text set_text get_text name bytes named drawn_bytes after_them set get =
    rw (get, set, named, drawn_bytes, after_them, after_seventeen s) (three_pieces text _ _ _)

-- ---- rounds

rounds_first : (n r s : ℕ) → 0 < n → rounds n r s ≡ round_lines r s ++ rounds (n - 1) (r + 1) (after_round r s)
unfolding rounds
rounds_first zero r s h = absurd (omega arith)
rounds_first (suc n) r s h = let e : n ≡ suc n - 1 = omega arith in ap (λ (k : ℕ). round_lines r s ++ rounds k (r + 1) (after_round r s)) e

after_rounds_first : (n r s : ℕ) → 0 < n → after_rounds n r s ≡ after_rounds (n - 1) (r + 1) (after_round r s)
unfolding after_rounds
after_rounds_first zero r s h = absurd (omega arith)
after_rounds_first (suc n) r s h = let e : n ≡ suc n - 1 = omega arith in ap (λ (k : ℕ). after_rounds k (r + 1) (after_round r s)) e

rounds_none : (r s : ℕ) → rounds 0 r s ≡ []
unfolding rounds
rounds_none r s = refl

after_rounds_none : (r s : ℕ) → after_rounds 0 r s ≡ s
unfolding after_rounds
after_rounds_none r s = refl

-- Of so many rounds one more is written.
pub rounds_more : (n r s : ℕ) (text more all : List ℕ) → r < n → more ≡ text ++ orders_text (round_lines r s) → text ++ orders_text (rounds (n - r) r s) ≡ all → more ++ orders_text (rounds (n - (r + 1)) (r + 1) (after_round r s)) ≡ all
rounds_more n r s text more all lt is h =
    let less : n - r - 1 ≡ n - (r + 1) = omega arith in
    let rest = rounds (n - (r + 1)) (r + 1) (after_round r s) in
    let first : rounds (n - r) r s ≡ round_lines r s ++ rest = rounds_first (n - r) r s (omega arith) ∙ ap (λ (k : ℕ). round_lines r s ++ rounds k (r + 1) (after_round r s)) less in
    piece_more text more (orders_text (round_lines r s)) (orders_text rest) (orders_text (rounds (n - r) r s)) all is (ap (λ (cs : List Command). orders_text cs) first ∙ orders_text-append (round_lines r s) rest) h

pub after_rounds_more : (n r s last : ℕ) → r < n → after_rounds (n - r) r s ≡ last → after_rounds (n - (r + 1)) (r + 1) (after_round r s) ≡ last
after_rounds_more n r s last lt h =
    let less : n - r - 1 ≡ n - (r + 1) = omega arith in
    ap (λ (k : ℕ). after_rounds k (r + 1) (after_round r s)) (sym less) ∙ sym (after_rounds_first (n - r) r s (omega arith)) ∙ h

-- All are written.
pub rounds_done : (n r s : ℕ) (text all : List ℕ) → n ≤ r → text ++ orders_text (rounds (n - r) r s) ≡ all → text ≡ all
rounds_done n r s text all ge h =
    let none : n - r ≡ 0 = omega arith in
    sym (append-nil text) ∙ ap (λ (cs : List Command). text ++ orders_text cs) (sym (ap (λ (k : ℕ). rounds k r s) none ∙ rounds_none r s)) ∙ h

pub after_rounds_done : (n r s last : ℕ) → n ≤ r → after_rounds (n - r) r s ≡ last → s ≡ last
after_rounds_done n r s last ge h =
    let none : n - r ≡ 0 = omega arith in
    sym (ap (λ (k : ℕ). after_rounds k r s) none ∙ after_rounds_none r s) ∙ h

-- ---- a task

perm_text : order_text (commands.Perm 18) ≡ codes "perm 18\n"
unfolding digits
perm_text = refl

five_pieces : (text a b c d e : List ℕ) → ((((text ++ a) ++ b) ++ c) ++ d) ++ e ≡ text ++ (a ++ (b ++ (c ++ (d ++ e))))
five_pieces text a b c d e = simp append_assoc

-- the lines of a task
pub task_text : (j s last : ℕ) (text named asked rounded tiled : List ℕ) → last ≡ after_rounds 104 0 s → named ≡ text ++ (codes "task t" ++ decimal j ++ 10 ∷ []) → asked ≡ named ++ codes "perm 18\n" → rounded ≡ asked ++ orders_text (rounds 104 0 s) → tiled ≡ rounded ++ orders_text (tile_lines last) → tiled ++ codes "end\n" ≡ text ++ lines_text (task_block j s)
task_text j s last text named asked rounded tiled is name ask round tile =
    let head = codes "task t" ++ decimal j ++ 10 ∷ [] in
    let some = orders_text (rounds 104 0 s) in
    let tiles = tile_lines (after_rounds 104 0 s) in
    let end = codes "end\n" in
    let behind : lines_text (map lines.Order (rounds 104 0 s ++ tiles) ++ lines.End ∷ []) ≡ some ++ (orders_text tiles ++ end) =
    lines_text-append (map lines.Order (rounds 104 0 s ++ tiles)) (lines.End ∷ [])
    ∙ ap (λ (t : List ℕ). t ++ end) (orders_text-append (rounds 104 0 s) tiles)
    ∙ append_assoc some (orders_text tiles) end in
    let whole : lines_text (task_block j s) ≡ head ++ (codes "perm 18\n" ++ (some ++ (orders_text tiles ++ end))) =
    ap (λ (t : List ℕ). head ++ (order_text (commands.Perm 18) ++ t)) behind
    ∙ ap (λ (t : List ℕ). head ++ (t ++ (some ++ (orders_text tiles ++ end)))) perm_text in
    rw (tile, round, ask, name, is) (five_pieces text head (codes "perm 18\n") some (orders_text tiles) end ∙ ap (λ (t : List ℕ). text ++ t) (sym whole))

-- ---- tasks

tasks_first : (n j s : ℕ) → 0 < n → task_blocks n j s ≡ task_block j s ++ task_blocks (n - 1) (j + 1) (after_task s)
unfolding task_blocks
tasks_first zero j s h = absurd (omega arith)
tasks_first (suc n) j s h = let e : n ≡ suc n - 1 = omega arith in ap (λ (k : ℕ). task_block j s ++ task_blocks k (j + 1) (after_task s)) e

tasks_none : (j s : ℕ) → task_blocks 0 j s ≡ []
unfolding task_blocks
tasks_none j s = refl

-- Of so many tasks one more is written.
pub tasks_more : (n j s : ℕ) (text more all : List ℕ) → j < n → more ≡ text ++ lines_text (task_block j s) → text ++ lines_text (task_blocks (n - j) j s) ≡ all → more ++ lines_text (task_blocks (n - (j + 1)) (j + 1) (after_task s)) ≡ all
tasks_more n j s text more all lt is h =
    let less : n - j - 1 ≡ n - (j + 1) = omega arith in
    let rest = task_blocks (n - (j + 1)) (j + 1) (after_task s) in
    let first : task_blocks (n - j) j s ≡ task_block j s ++ rest = tasks_first (n - j) j s (omega arith) ∙ ap (λ (k : ℕ). task_block j s ++ task_blocks k (j + 1) (after_task s)) less in
    piece_more text more (lines_text (task_block j s)) (lines_text rest) (lines_text (task_blocks (n - j) j s)) all is (ap (λ (ls : List Line). lines_text ls) first ∙ lines_text-append (task_block j s) rest) h

-- All are written.
pub tasks_done : (n j s : ℕ) (text all : List ℕ) → n ≤ j → text ++ lines_text (task_blocks (n - j) j s) ≡ all → text ≡ all
tasks_done n j s text all ge h =
    let none : n - j ≡ 0 = omega arith in
    sym (append-nil text) ∙ ap (λ (ls : List Line). text ++ lines_text ls) (sym (ap (λ (k : ℕ). task_blocks k j s) none ∙ tasks_none j s)) ∙ h

-- The lines before the tasks stand in front of them.
pub head_text : (number : ℕ) → codes "xstate 1\nmachine amx\ncpus 8\nquantum 8\nlarge 64\n" ++ lines_text (task_blocks 64 0 number) ≡ generated_text number
unfolding digits
head_text number = refl
