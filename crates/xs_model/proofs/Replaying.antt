-- A script has one replay.
use Rattle.std.proofs.Common.{◌≡◌, ℕ, zero, suc, ◌+◌, ◌-◌, ◌≤◌, ◌<◌, Bool, true, false, ◌||◌, List, [], ◌∷◌, reverse, refl, sym, ap, ◌∙◌, subst, ⊎_elim, arith}
use Rattle.std.proofs.lemmas.Bool.{not-true, cases_lt}
use Rattle.std.proofs.lemmas.List.{reverse-reverse}
use Rattle.std.specs.Prelude.{Option, Some, None, slice_get}
use Rattle.std.specs.List.{list_any}
use Rattle.xs_model.specs.declared.script.Script.{Script}
use Rattle.xs_model.specs.declared.event.Event.{Event}
use Rattle.xs_model.specs.declared.stage.Stage.{Stage}
use Rattle.xs_model.specs.declared.stage.Stage.TheVariants.{Unborn, Ready, Turn, Stopped, Waiting, Ended}
use Rattle.xs_model.specs.State.{BlockState, Machine, turn_cpu, is_on_cpu, is_ready, lives, none_lives}
use Rattle.xs_model.specs.Due.{block_start}
use Rattle.xs_model.specs.Machine.{machine}
use Rattle.xs_model.specs.Ready.{ready_list}
use Rattle.xs_model.specs.Replay.{told, begin, runner, entry_of, entry, entries, rounds, schedule_of, IsReplay}

abbrev AnyLives : List BlockState → Bool
AnyLives blocks = list_any (λ (block : BlockState). lives block.stage) blocks

dead_off : (cpu : ℕ) (stage : Stage) → lives stage ≡ false → is_on_cpu cpu (turn_cpu stage) ≡ false
dead_off cpu Unborn dead = refl
dead_off cpu Ready dead = absurd (cc)
dead_off cpu (Turn c ran) dead = absurd (cc)
dead_off cpu Stopped dead = absurd (cc)
dead_off cpu (Waiting child) dead = absurd (cc)
dead_off cpu Ended dead = refl

dead_unready : (stage : Stage) → lives stage ≡ false → is_ready stage ≡ false
dead_unready Unborn dead = refl
dead_unready Ready dead = absurd (cc)
dead_unready (Turn c ran) dead = absurd (cc)
dead_unready Stopped dead = absurd (cc)
dead_unready (Waiting child) dead = absurd (cc)
dead_unready Ended dead = refl

or_first : (a b : Bool) → (a || b) ≡ false → a ≡ false
or_first true b is = is
or_first false b is = refl

or_second : (a b : Bool) → (a || b) ≡ false → b ≡ false
or_second true b is = absurd (cc)
or_second false b is = is

no_runner : (cpu i : ℕ) (blocks : List BlockState) → AnyLives blocks ≡ false → runner cpu i blocks ≡ None
no_runner cpu i [] dead = refl
no_runner cpu i (block ∷ blocks) dead =
    rw (dead_off cpu block.stage (or_first (lives block.stage) (AnyLives blocks) dead)) (no_runner cpu (i + 1) blocks (or_second (lives block.stage) (AnyLives blocks) dead))

dead_at : (blocks : List BlockState) (t : ℕ) (block : BlockState) → AnyLives blocks ≡ false → slice_get blocks t ≡ Some block → lives block.stage ≡ false
dead_at [] t block dead at = absurd (cc)
dead_at (first ∷ blocks) zero block dead at = let same : first ≡ block = cc in subst (λ (b : BlockState). lives b.stage ≡ false) same (or_first (lives first.stage) (AnyLives blocks) dead)
dead_at (first ∷ blocks) (suc t) block dead at = dead_at blocks t block (or_second (lives first.stage) (AnyLives blocks) dead) at

no_start : (m : Machine) (t cpu : ℕ) (block : Option BlockState) → AnyLives m.blocks ≡ false → slice_get m.blocks t ≡ block → block_start m t cpu block ≡ None
no_start m t cpu None dead at = refl
no_start m t cpu (Some block) dead at = rw (dead_unready block.stage (dead_at m.blocks t block dead at)) refl

nothing_begins : (script : Script) (cpu : ℕ) (past : List Event) (list : List ℕ) → AnyLives (machine script past).blocks ≡ false → begin script cpu past list ≡ past
nothing_begins script cpu past [] dead = refl
nothing_begins script cpu past (t ∷ list) dead = ap (λ (event : Option Event). told event past) (no_start (machine script past) t cpu _ dead refl)

-- where nobody lives an entry does nothing
pub idle_entry : (script : Script) (cpu : ℕ) (past : List Event) → none_lives (machine script past) ≡ true → entry script past cpu ≡ past
idle_entry script cpu past none =
    let dead : AnyLives (machine script past).blocks ≡ false = not-true (AnyLives (machine script past).blocks) none in
    ap (λ (t : Option ℕ). entry_of script cpu past t) (no_runner cpu 0 (machine script past).blocks dead) ∙ nothing_begins script cpu past (ready_list script past) dead

idle_entries : (script : Script) (past : List Event) (cpus : List ℕ) → none_lives (machine script past) ≡ true → entries script past cpus ≡ past
idle_entries script past [] none = refl
idle_entries script past (c ∷ cs) none = ap (λ (later : List Event). entries script later cs) (idle_entry script c past none) ∙ idle_entries script past cs none

idle_rounds : (script : Script) (n k : ℕ) → none_lives (machine script (rounds script n)) ≡ true → rounds script (k + n) ≡ rounds script n
unfolding rounds
idle_rounds script n zero none = ap (rounds script) (omega arith)
idle_rounds script n (suc k) none =
    let shift : suc k + n ≡ suc (k + n) = omega arith in
    let before = idle_rounds script n k none in
    ap (rounds script) shift
    ∙ ap (λ (past : List Event). entries script past (schedule_of script.cpus script.sched)) before
    ∙ idle_entries script (rounds script n) (schedule_of script.cpus script.sched) none

same_rounds : (script : Script) (n k : ℕ) → n ≤ k → none_lives (machine script (rounds script n)) ≡ true → rounds script n ≡ rounds script k
same_rounds script n k below none =
    let sum : (k - n) + n ≡ k = omega arith in
    sym (idle_rounds script n (k - n) none) ∙ ap (rounds script) sum

pub one_replay : (script : Script) (history other : List Event) → IsReplay script history → IsReplay script other → history ≡ other
one_replay script history other one two =
    let same : rounds script one.count ≡ rounds script two.count = ⊎_elim
    (λ (below : one.count < two.count). same_rounds script one.count two.count (omega arith) one.ended)
    (λ (above : two.count ≤ one.count). sym (same_rounds script two.count one.count above two.ended))
    (cases_lt one.count two.count) in
    sym (reverse-reverse history) ∙ ap reverse (one.is ∙ same ∙ sym two.is) ∙ reverse-reverse other
