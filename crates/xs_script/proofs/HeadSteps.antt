-- One line more of a head.
use Rattle.std.proofs.Common.{◌≡◌, ℕ, ◌+◌, false, List, length, None, Err, refl, sym, ◌∙◌, ap, subst, arith, length-append}
use Rattle.xs_base.specs.declared.component.Row.{Row}
use Rattle.xs_script.specs.declared.line.Line.{Line}
use Rattle.xs_script.specs.declared.head.Stage.{Stage}
use Rattle.xs_script.specs.declared.head.Stage.TheVariants as stages
use Rattle.xs_script.specs.declared.head.Head.{Head}
use Rattle.xs_script.specs.declared.refusal.Kind.{Kind}
use Rattle.xs_script.specs.LineOrder.{Stand, AtVersion, takes_sched, next, may_end}
use Rattle.xs_script.specs.Refusal.{Misplaced, table_fault, Fails, Here}
use Rattle.xs_script.specs.Front.{IsFront, IsNext}
use Rattle.xs_script.specs.Head.{stage_stand, head_stand, lines_of_head, Takes, Steps}
use Rattle.xs_script.proofs.Fronts.{front_push}
use Rattle.xs_script.proofs.KeptOrder.{kept_next, kept_of_head}

-- before the blocks the text doesn't end
pub not_ended : (stage : Stage) (rows : List Row) (cpus : ℕ) → may_end (stage_stand stage rows cpus) ≡ false
not_ended stages.Version rows cpus = refl
not_ended stages.Machine rows cpus = refl
not_ended stages.Row rows cpus = refl
not_ended stages.Cpus rows cpus = refl
not_ended stages.Quantum rows cpus = refl
not_ended stages.Large rows cpus = refl
not_ended stages.Sched rows cpus = refl

-- nor is it in a schedule
pub before_sched : (stage : Stage) (rows : List Row) (cpus : ℕ) → (stage ≡ stages.Sched → ⊥) → takes_sched (stage_stand stage rows cpus) ≡ false
before_sched stages.Version rows cpus h = refl
before_sched stages.Machine rows cpus h = refl
before_sched stages.Row rows cpus h = refl
before_sched stages.Cpus rows cpus h = refl
before_sched stages.Quantum rows cpus h = refl
before_sched stages.Large rows cpus h = refl
before_sched stages.Sched rows cpus h = absurd (h refl)

-- a line that is kept fails as the line does
pub next_fails : (stand : Stand) (number : ℕ) (text : List ℕ) (kept : Line) (rest : List ℕ) (kind : Kind) → table_fault stand text ≡ None → IsNext text kept rest → next stand kept ≡ Err kind → Fails stand number text number kind
next_fails stand number text kept rest kind none first h =
    Here kind none (Misplaced first.line rest kind first.fits first.spelled (sym (kept_next stand first.line) ∙ sym (ap (next stand) first.kept_is) ∙ h))

-- a line that is kept is taken
pub next_steps : (head : Head) (text : List ℕ) (kept : Line) (after : Head) (rest : List ℕ) → IsNext text kept rest → Takes head kept after → Steps head text after rest
next_steps head text kept after rest first taken =
    let leads = sym (kept_next (head_stand head) first.line) ∙ sym (ap (next (head_stand head)) first.kept_is) ∙ taken.leads in
    let same : kept ≡ first.line = first.kept_is ∙ kept_of_head head.stage head.rows.items head.cpus first.line (head_stand after) leads in
    record {
      line = first.line;
      fits = first.fits;
      spelled = first.spelled;
      taken = subst (λ (l : Line). Takes head l after) same taken;
    }

-- the lines so far, and one more
pub head_goes_on : (text left rest : List ℕ) (head after : Head) → IsFront AtVersion text (lines_of_head head) (head_stand head) left → Steps head left after rest → IsFront AtVersion text (lines_of_head after) (head_stand after) rest
head_goes_on text left rest head after front step =
    subst (λ (ls : List Line). IsFront AtVersion text ls (head_stand after) rest) (sym step.taken.came)
    (front_push AtVersion (head_stand head) (head_stand after) text left rest (lines_of_head head) step.line front step.fits step.spelled step.taken.leads)

pub head_counts : (number : ℕ) (left rest : List ℕ) (head after : Head) → number ≡ length (lines_of_head head) + 1 → Steps head left after rest → number + 1 ≡ length (lines_of_head after) + 1
head_counts number left rest head after at step = rw step.taken.came (rw length-append (omega arith))
