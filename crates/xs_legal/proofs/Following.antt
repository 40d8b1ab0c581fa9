-- The machine that follows a history, before and after a step.
use Rattle.std.proofs.Common.{◌≡◌, ℕ, ◌<◌, Bool, true, List, [], ◌∷◌, ◌++◌, length, take, drop, slice_get, get_or, Some, None, if◌then◌else◌, refl, sym, ap, ◌∙◌, subst, arith}
use Rattle.std.proofs.lemmas.List.{append-nil, drop_all, get_or-replicate, length-replicate, take_all}
use Rattle.std.proofs.lemmas.Option.{slice_get_within}
use Rattle.std.specs.Prelude.{Option, ◌&&◌, map, replicate}
use Rattle.xs_base.specs.declared.words.How.{How}
use Rattle.xs_base.specs.declared.words.Signo.{Signo}
use Rattle.xs_model.specs.declared.event.Event.{Event}
use Rattle.xs_model.specs.declared.event.Event.TheVariants as events
use Rattle.xs_model.specs.declared.script.Block.{Block}
use Rattle.xs_model.specs.declared.script.Script.{Script}
use Rattle.xs_model.specs.Held.{held}
use Rattle.xs_model.specs.Laws.{MachineKnown, TwoNumbers}
use Rattle.xs_model.specs.Machine.{IsStep, blocks_after, committing_after, machine}
use Rattle.xs_model.specs.Note.{act_of, is_at, last_after, mark, task_of}
use Rattle.xs_model.specs.Script.{IsValid, is_user, is_user_block}
use Rattle.xs_model.specs.State.{BlockState, Machine, opening_block}
use Rattle.xs_legal.specs.Difference.{IsKnown}
use Rattle.xs_legal.specs.Standing.{AreLastsAfter, AreMarksAfter, IsStanding, Standing, StandsAfter, are_both, cpu_after, mark_left}
use Rattle.xs_legal.specs.Step.{IsNext}

-- what a write to the whole of a vector leaves
pub written : {A : Type 0} (old new : List A) (n : ℕ) → n ≡ length old → length new ≡ length old → take n (new ++ drop (length new) old) ≡ new
written {A = A} old new n len same =
    let all : drop (length new) old ≡ [] = drop_all (length new) old (omega arith) in
    ap (λ (l : List A). take n (new ++ l)) all ∙ ap (take n) (append-nil new) ∙ take_all n new (omega arith)

-- a user task is a block of the script
user_within : (script : Script) (t : ℕ) → is_user script t ≡ true → t < length script.blocks
user_within script t user = by_block (slice_get script.blocks t) refl user
  where
    by_block : (there : Option Block) → slice_get script.blocks t ≡ there → is_user_block there ≡ true → t < length script.blocks
    by_block None at is = absurd (cc is)
    by_block (Some block) at is = slice_get_within script.blocks t block at

module _ (machines : MachineKnown) where
  -- the two numbers tell what is held
  pub known_by : (m : Standing) (past : List Event) (event : Event) (is_held : Bool) → TwoNumbers → IsValid m.script → StandsAfter m past
      → ((t cpu : ℕ) (how : How) (signal : Option Signo) → event ≡ events.Start t cpu how signal → is_held ≡ are_both m.marks m.lasts cpu t)
      → IsKnown (machine m.script past) event is_held
  known_by m past (events.Start t cpu how signal) is_held two valid stands told = λ low user.
      let here = machines m.script past in
      let few : cpu < 16 = (let all = valid.cpus.1 in let same : cpu < m.script.cpus = subst (λ (s : Script). cpu < s.cpus) here.0 low in omega arith) in
      let user_here : is_user m.script t ≡ true = subst (λ (s : Script). is_user s t ≡ true) here.0 user in
      told t cpu how signal refl
      ∙ ap (λ (o : Option ℕ). is_at o t && is_at (get_or m.lasts t None) cpu) (stands.marks_are cpu few)
      ∙ ap (λ (o : Option ℕ). is_at (mark m.script past cpu) t && is_at o cpu) (stands.lasts_are t (user_within m.script t user_here))
      ∙ sym (two m.script past cpu t valid stands.legal user_here)
      ∙ ap (λ (s : Script). held s past cpu t) (sym here.0) ∙ ap (λ (l : List Event). held (machine m.script past).script l cpu t) (sym here.1)
  known_by m past (events.Local t line reply) is_held two valid stands told = tt
  known_by m past (events.Outer t line reply) is_held two valid stands told = tt
  known_by m past (events.Grow t) is_held two valid stands told = tt
  known_by m past (events.Kill t signo why) is_held two valid stands told = tt
  known_by m past (events.End t) is_held two valid stands told = tt

  -- the machine after a step
  pub stands_next : (old : Standing) (blocks : List BlockState) (committing : Option ℕ) (marks lasts : List (Option ℕ)) (past : List Event) (event : Event)
      → StandsAfter old past → IsStep (machine old.script past) event → length old.marks ≡ 16 → length old.lasts ≡ length old.script.blocks
      → blocks ≡ blocks_after old.script event old.blocks → committing ≡ committing_after blocks event
      → AreMarksAfter old.script event (cpu_after old.script past event) old.marks marks
      → AreLastsAfter (task_of event) (act_of old.script event) old.lasts lasts
      → StandsAfter (record { script = old.script; blocks = blocks; committing = committing; marks = marks; lasts = lasts }) (event ∷ past)
  stands_next old blocks committing marks lasts past event stands step sixteen each blocks_are committing_is marks_are lasts_are =
      let script_is = (machines old.script past).0 in
      let made : blocks ≡ (machine old.script (event ∷ past)).blocks =
      blocks_are ∙ ap (blocks_after old.script event) stands.blocks_are ∙ ap (λ (s : Script). blocks_after s event (machine old.script past).blocks) (sym script_is) in
      record {
        legal = (stands.legal, step);
        blocks_are = made;
        committing_is = committing_is ∙ ap (λ (bs : List BlockState). committing_after bs event) made;
        marks_are = λ cpu few. marks_are cpu (omega arith) ∙ ap (λ (o : Option ℕ). if is_at (cpu_after old.script past event) cpu then mark_left old.script event o else o) (stands.marks_are cpu few);
        lasts_are = λ t few. lasts_are t (omega arith) ∙ ap (λ (o : Option ℕ). last_after (task_of event) (act_of old.script event) t o) (stands.lasts_are t few);
      }

abbrev nothing : Option ℕ
nothing = None

-- the machine before the first event
pub opening_stands : (script : Script) (blocks : List BlockState) (marks lasts : List (Option ℕ)) → blocks ≡ map (opening_block script.layout) script.blocks
    → marks ≡ replicate 16 None → lasts ≡ replicate (length script.blocks) None
    → StandsAfter (record { script = script; blocks = blocks; committing = None; marks = marks; lasts = lasts }) []
opening_stands script blocks marks lasts blocks_are none nowhere = record {
  legal = tt;
  blocks_are = blocks_are;
  committing_is = refl;
  marks_are = λ cpu few. ap (λ (l : List (Option ℕ)). get_or l cpu None) none ∙ get_or-replicate 16 cpu None None few;
  lasts_are = λ t few. ap (λ (l : List (Option ℕ)). get_or l t None) nowhere ∙ get_or-replicate (length script.blocks) t None None few;
}

pub opening_standing : (script : Script) (blocks : List BlockState) (marks lasts : List (Option ℕ)) → IsValid script → blocks ≡ map (opening_block script.layout) script.blocks
    → marks ≡ replicate 16 None → lasts ≡ replicate (length script.blocks) None
    → IsStanding (record { script = script; blocks = blocks; committing = None; marks = marks; lasts = lasts })
opening_standing script blocks marks lasts valid blocks_are none nowhere = record {
  valid = valid;
  marks = ap length none ∙ length-replicate 16 nothing;
  lasts = ap length nowhere ∙ length-replicate (length script.blocks) nothing;
  past = [];
  stands = opening_stands script blocks marks lasts blocks_are none nowhere;
}

-- ---- what a call of a step does

-- the judgement of an event by what the machine keeps
pub judged_by : MachineKnown → TwoNumbers → (m : Standing) (past : List Event) (event : Event) (is_held : Bool) (blocks : List BlockState) (marks lasts : List (Option ℕ)) (Judged : Machine → Type 0)
    → IsValid m.script → StandsAfter m past → blocks ≡ m.blocks → marks ≡ m.marks → lasts ≡ m.lasts
    → ((t cpu : ℕ) (how : How) (signal : Option Signo) → event ≡ events.Start t cpu how signal → is_held ≡ are_both marks lasts cpu t)
    → ((machine_now : Machine) → machine_now.script ≡ m.script → machine_now.blocks ≡ blocks → machine_now.committing ≡ m.committing → IsKnown machine_now event is_held → Judged machine_now)
    → Judged (machine m.script past)
judged_by machines two m past event is_held blocks marks lasts Judged valid stands blocks_is marks_is lasts_is told judged =
    let told_here : (t cpu : ℕ) (how : How) (signal : Option Signo) → event ≡ events.Start t cpu how signal → is_held ≡ are_both m.marks m.lasts cpu t =
    λ t cpu how signal is. told t cpu how signal is ∙ ap (λ (l : List (Option ℕ)). are_both l lasts cpu t) marks_is ∙ ap (λ (l : List (Option ℕ)). are_both m.marks l cpu t) lasts_is in
    judged (machine m.script past) ((machines m.script past).0) (sym stands.blocks_are ∙ sym blocks_is) (sym stands.committing_is) (known_by machines m past event is_held two valid stands told_here)

-- the machine that a step leaves
pub made_stands : MachineKnown → (m : Standing) (past : List Event) (event : Event) (blocks made : List BlockState) (marks noted lasts kept : List (Option ℕ)) (committing : Option ℕ)
    → IsStanding m → StandsAfter m past → IsStep (machine m.script past) event → blocks ≡ m.blocks → marks ≡ m.marks → lasts ≡ m.lasts
    → ((next : IsNext m.script blocks event) → AreMarksAfter m.script event (cpu_after m.script next.past event) marks noted)
    → AreLastsAfter (task_of event) (act_of m.script event) lasts kept
    → made ≡ blocks_after m.script event blocks → committing ≡ committing_after made event
    → StandsAfter (record { script = m.script; blocks = made; committing = committing; marks = noted; lasts = kept }) (event ∷ past)
made_stands machines m past event blocks made marks noted lasts kept committing standing stands step blocks_is marks_is lasts_is noted_is kept_is made_is committing_is =
    let next : IsNext m.script blocks event = record { valid = standing.valid; past = past; legal = stands.legal; blocks_are = blocks_is ∙ stands.blocks_are; step = step } in
    stands_next machines m made committing noted kept past event stands step standing.marks standing.lasts
    (made_is ∙ ap (blocks_after m.script event) blocks_is) committing_is
    (subst (λ (l : List (Option ℕ)). AreMarksAfter m.script event (cpu_after m.script past event) l noted) marks_is (noted_is next))
    (subst (λ (l : List (Option ℕ)). AreLastsAfter (task_of event) (act_of m.script event) l kept) lasts_is kept_is)

-- the same after a vector's write
pub moved : (script : Script) (committing : Option ℕ) (blocks made : List BlockState) (marks noted lasts kept : List (Option ℕ)) (past : List Event)
    → blocks ≡ made → marks ≡ noted → lasts ≡ kept
    → StandsAfter (record { script = script; blocks = made; committing = committing; marks = noted; lasts = kept }) past
    → StandsAfter (record { script = script; blocks = blocks; committing = committing; marks = marks; lasts = lasts }) past
moved script committing blocks made marks noted lasts kept past e f g stands = rw e (rw f (rw g stands))
