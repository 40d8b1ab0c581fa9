-- The front of a text: its lines so far, and one line more.
use Rattle.std.proofs.Common.{◌≡◌, ℕ, ◌+◌, false, List, [], ◌∷◌, ◌++◌, length, Ok, Err, inl, inr, refl, sym, ◌∙◌, ap, subst, arith, length-append}
use Rattle.std.proofs.lemmas.List.{append_assoc}
use Rattle.std.proofs.lemmas.List.Concat.{flat_map-append}
use Rattle.xs_script.specs.declared.line.Line.{Line}
use Rattle.xs_script.specs.declared.line.Line.TheVariants as lines
use Rattle.xs_script.specs.declared.refusal.Kind.{Kind}
use Rattle.xs_script.specs.declared.refusal.Kind.TheVariants.{BadLine}
use Rattle.xs_script.specs.ScriptLine.{line_text, IsLine}
use Rattle.xs_script.specs.Grammar.{lines_text}
use Rattle.xs_script.specs.LineOrder.{Stand, AtVersion, AtMachine, AtRow, AtCpus, AtQuantum, AtLarge, AtSched, AtBlock, InBlock, takes_sched, next, may_end, Leads}
use Rattle.xs_script.specs.Refusal.{NoLine, LineFails, Early, Misspelled, Misplaced, Fails}
use Rattle.xs_script.specs.declared.refusal.ScriptError.{ScriptError}
use Rattle.xs_script.specs.declared.refusal.ScriptError.TheVariants as errors
use Rattle.xs_script.specs.Parts.{NoPlainLine}
use Rattle.xs_script.proofs.Decisions.{first_or_none}
use Rattle.xs_script.proofs.BlockParts.{all_join}
use Rattle.xs_script.specs.Front.{IsFront, RefusesFrom, ExplainsFrom, ExplainsLine}

-- a text's first line, and the text after it
pub lines_more : (l : Line) (ls : List Line) (rest : List ℕ) → lines_text (l ∷ ls) ++ rest ≡ line_text l ++ 10 ∷ (lines_text ls ++ rest)
lines_more l ls rest = append_assoc (line_text l ++ 10 ∷ []) (lines_text ls) rest ∙ append_assoc (line_text l) (10 ∷ []) (lines_text ls ++ rest)

-- the text of lines and of lines after them
pub lines_join : (a b : List Line) (rest : List ℕ) → lines_text (a ++ b) ++ rest ≡ lines_text a ++ (lines_text b ++ rest)
lines_join a b rest = ap (λ (t : List ℕ). t ++ rest) (flat_map-append (λ (line : Line). line_text line ++ 10 ∷ []) a b) ∙ append_assoc (lines_text a) (lines_text b) rest

-- lines that lead on from where others led
pub leads_join : (from mid to : Stand) (a b : List Line) → Leads from a mid → Leads mid b to → Leads from (a ++ b) to
leads_join from mid to [] b h g = subst (λ (s : Stand). Leads s b to) h g
leads_join from mid to (l ∷ a) b (s, e, h) g = (s, e, leads_join s mid to a b h g)

-- nothing was read yet
pub front_none : (from : Stand) (text : List ℕ) → IsFront from text [] from text
front_none from text = record { lines_fit = tt; parts = refl; leads = refl }

-- a front of what comes after a front
pub front_join : (from mid to : Stand) (text left rest : List ℕ) (a b : List Line) → IsFront from text a mid left → IsFront mid left b to rest → IsFront from text (a ++ b) to rest
front_join from mid to text left rest a b f g = record {
  lines_fit = all_join IsLine a b f.lines_fit g.lines_fit;
  parts = f.parts ∙ ap (λ (t : List ℕ). lines_text a ++ t) g.parts ∙ sym (lines_join a b rest);
  leads = leads_join from mid to a b f.leads g.leads;
}

-- one line
pub front_line : (from to : Stand) (text rest : List ℕ) (l : Line) → IsLine l → text ≡ line_text l ++ 10 ∷ rest → next from l ≡ Ok to → IsFront from text (l ∷ []) to rest
front_line from to text rest l fits e leads = record {
  lines_fit = (fits, tt);
  parts = e ∙ sym (lines_more l [] rest);
  leads = (to, leads, refl);
}

-- one line more
pub front_push : (from mid to : Stand) (text left rest : List ℕ) (ls : List Line) (l : Line) → IsFront from text ls mid left → IsLine l → left ≡ line_text l ++ 10 ∷ rest → next mid l ≡ Ok to → IsFront from text (ls ++ l ∷ []) to rest
front_push from mid to text left rest ls l f fits e leads = front_join from mid to text left rest ls (l ∷ []) f (front_line mid to left rest l fits e leads)

-- a refusal after a front
pub front_fails : (from mid : Stand) (first : ℕ) (text left : List ℕ) (ls : List Line) (number : ℕ) (kind : Kind) → IsFront from text ls mid left → Fails mid (first + length ls) left number kind → RefusesFrom from first text number kind
front_fails from mid first text left ls number kind f fails = record { done = ls; rest = left; stand = mid; front = f; fails = fails }

-- a refusal of what comes after a front
pub front_refuses : (from mid : Stand) (first : ℕ) (text left : List ℕ) (ls : List Line) (number : ℕ) (kind : Kind) → IsFront from text ls mid left → RefusesFrom mid (first + length ls) left number kind → RefusesFrom from first text number kind
front_refuses from mid first text left ls number kind f r =
    let at : first + length ls + length r.done ≡ first + length (ls ++ r.done) = rw length-append (omega arith) in
    record {
      done = ls ++ r.done;
      rest = r.rest;
      stand = r.stand;
      front = front_join from mid r.stand text left r.rest ls r.done f r.front;
      fails = subst (λ (n : ℕ). Fails r.stand n r.rest number kind) at r.fails;
    }

-- a text that is no line fails
no_line_fails : (stand : Stand) (text : List ℕ) → (text ≡ [] → may_end stand ≡ false) → NoLine text → LineFails stand text BadLine
no_line_fails stand [] early none = Early refl (early refl)
no_line_fails stand (b ∷ bs) early none = Misspelled (λ e. cc e) none

-- where no schedule may stand, a line of one is a bad line
sched_fails : (stand : Stand) (entries : List ℕ) → takes_sched stand ≡ false → next stand (lines.Sched entries) ≡ Err BadLine
sched_fails AtVersion entries h = refl
sched_fails AtMachine entries h = refl
sched_fails (AtRow rows) entries h = refl
sched_fails AtCpus entries h = refl
sched_fails (AtQuantum cpus) entries h = refl
sched_fails (AtLarge cpus) entries h = refl
sched_fails (AtSched cpus count) entries h = cc h
sched_fails (AtBlock names) entries h = refl
sched_fails (InBlock part kind names) entries h = refl

line_misplaced : (stand : Stand) (text : List ℕ) (l : Line) (rest : List ℕ) → takes_sched stand ≡ false → NoPlainLine text → IsLine l → text ≡ line_text l ++ 10 ∷ rest → LineFails stand text BadLine
line_misplaced stand text (lines.Sched entries) rest other none fits e = Misplaced (lines.Sched entries) rest BadLine fits e (sched_fails stand entries other)
line_misplaced stand text lines.Version rest other none fits e = absurd (none lines.Version rest fits e)
line_misplaced stand text (lines.Machine named) rest other none fits e = absurd (none (lines.Machine named) rest fits e)
line_misplaced stand text (lines.Row r) rest other none fits e = absurd (none (lines.Row r) rest fits e)
line_misplaced stand text (lines.Cpus n) rest other none fits e = absurd (none (lines.Cpus n) rest fits e)
line_misplaced stand text (lines.Quantum n) rest other none fits e = absurd (none (lines.Quantum n) rest fits e)
line_misplaced stand text (lines.Large n) rest other none fits e = absurd (none (lines.Large n) rest fits e)
line_misplaced stand text (lines.Begin kind name) rest other none fits e = absurd (none (lines.Begin kind name) rest fits e)
line_misplaced stand text (lines.Order command) rest other none fits e = absurd (none (lines.Order command) rest fits e)
line_misplaced stand text (lines.NoSignal name number) rest other none fits e = absurd (none (lines.NoSignal name number) rest fits e)
line_misplaced stand text lines.Handler rest other none fits e = absurd (none lines.Handler rest fits e)
line_misplaced stand text lines.End rest other none fits e = absurd (none lines.End rest fits e)

-- a text whose first line is at most one of a schedule fails where none may stand
pub no_plain_fails : (stand : Stand) (text : List ℕ) → takes_sched stand ≡ false → (text ≡ [] → may_end stand ≡ false) → NoPlainLine text → LineFails stand text BadLine
no_plain_fails stand text other early none = elim (first_or_none text) [
  | inl h ↦ line_misplaced stand text h.0 h.1 other none h.2 h.3
  | inr neither ↦ no_line_fails stand text early neither
]

-- a refusal of the line after a front
pub line_explains : (from mid : Stand) (first number : ℕ) (text left : List ℕ) (ls : List Line) (e : ScriptError) → IsFront from text ls mid left → number ≡ first + length ls → ExplainsLine mid number left e → ExplainsFrom from first text e
line_explains from mid first number text left ls (errors.Refused line kind) f at h =
    front_fails from mid first text left ls line kind f (subst (λ (n : ℕ). Fails mid n left line kind) at h)
line_explains from mid first number text left ls errors.Memory f at h = tt

-- a refusal of what comes after a front
pub rest_explains : (from mid : Stand) (first number : ℕ) (text left : List ℕ) (ls : List Line) (e : ScriptError) → IsFront from text ls mid left → number ≡ first + length ls → ExplainsFrom mid number left e → ExplainsFrom from first text e
rest_explains from mid first number text left ls (errors.Refused line kind) f at h =
    front_refuses from mid first text left ls line kind f (subst (λ (n : ℕ). RefusesFrom mid n left line kind) at h)
rest_explains from mid first number text left ls errors.Memory f at h = tt
