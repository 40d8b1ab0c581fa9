-- Whom an event makes ready, block by block, and where it changes its own block alone.
use Rattle.std.proofs.Common.{◌≡◌, ℕ, zero, suc, ◌+◌, Bool, true, false, ◌&&◌, List, [], ◌∷◌, ◌++◌, refl, ap, ◌∙◌, subst, arith, eq-eqb, ⊎_elim}
use Rattle.std.proofs.lemmas.Bool.{cases_eq}
use Rattle.std.proofs.lemmas.List.{append-nil}
use Rattle.std.specs.Prelude.{Option, Some, None, slice_get}
use Rattle.std.specs.Option.{option_map}
use Rattle.xs_model.specs.declared.script.Command.{Command}
use Rattle.xs_model.specs.declared.script.Script.{Script}
use Rattle.xs_model.specs.declared.event.Event.TheVariants.{Local, Grow}
use Rattle.xs_model.specs.declared.stage.Stage.{Stage}
use Rattle.xs_model.specs.declared.stage.Stage.TheVariants.{Unborn, Ready, Turn, Stopped, Waiting, Ended}
use Rattle.xs_model.specs.Script.{command_at}
use Rattle.xs_model.specs.State.{BlockState, is_ready, changed}
use Rattle.xs_model.specs.Machine.{goes_on, ran_line, own, machine}
use Rattle.xs_model.specs.Ready.{was_waiting, was_idle, was_in_turn, risen, risers, ready_list}
use Rattle.xs_model.specs.Effects.{StartTakes, LocalKeeps, LocalRises, GrowRises}
use Rattle.xs_model.proofs.LegalTurns.{machine_script}
use Rattle.xs_model.proofs.Touched.{Alike, alike_same, Both, alike_at}
use Rattle.xs_model.proofs.EventTurns.{changed_same, changed_other}

-- who is ready is none of these
abbrev pub Apart : (Stage → Bool) → Type 0
Apart was = (stage : Stage) → (was stage && is_ready stage) ≡ false

-- who waits
pub waiting_apart : Apart was_waiting
waiting_apart Unborn = refl
waiting_apart Ready = refl
waiting_apart (Turn cpu ran) = refl
waiting_apart Stopped = refl
waiting_apart (Waiting child) = refl
waiting_apart Ended = refl

-- who is stopped or unborn
pub idle_apart : Apart was_idle
idle_apart Unborn = refl
idle_apart Ready = refl
idle_apart (Turn cpu ran) = refl
idle_apart Stopped = refl
idle_apart (Waiting child) = refl
idle_apart Ended = refl

-- who is in a turn
pub turn_apart : Apart was_in_turn
turn_apart Unborn = refl
turn_apart Ready = refl
turn_apart (Turn cpu ran) = refl
turn_apart Stopped = refl
turn_apart (Waiting child) = refl
turn_apart Ended = refl

-- ---- block by block

-- the block was such, and is ready now
abbrev pub rises : (Stage → Bool) → Option BlockState → Option BlockState → Bool
rises was None now = false
rises was (Some b) None = false
rises was (Some b) (Some a) = was b.stage && is_ready a.stage

-- so is the one at a place
abbrev pub rises_at : (Stage → Bool) → List BlockState → List BlockState → ℕ → Bool
rises_at was before now v = rises was (slice_get before v) (slice_get now v)

-- where no block rises nobody is risen
pub risen_nobody : (was : Stage → Bool) (i : ℕ) (before now : List BlockState) → ((v : ℕ) → rises_at was before now v ≡ false) → risen was i before now ≡ []
risen_nobody was i [] now none = refl
risen_nobody was i (b ∷ before) [] none = refl
risen_nobody was i (b ∷ before) (a ∷ now) none =
    let here : (was b.stage && is_ready a.stage) ≡ false = none 0 in
    rw here (risen_nobody was (i + 1) before now (λ v. none (suc v)))

-- who isn't there now doesn't rise
none_rises : (was : Stage → Bool) (block : Option BlockState) → rises was block None ≡ false
none_rises was None = refl
none_rises was (Some b) = refl

-- where one block rises it alone is risen
pub risen_alone : (was : Stage → Bool) (i c n : ℕ) (before now : List BlockState) → rises_at was before now c ≡ true → ((v : ℕ) → (c ≡ v → ⊥) → rises_at was before now v ≡ false) → n ≡ i + c → risen was i before now ≡ n ∷ []
risen_alone was i c n [] now one others sum = absurd (cc)
risen_alone was i c n (b ∷ before) [] one others sum = let none = none_rises was (slice_get (b ∷ before) c) in absurd (cc)
risen_alone was i zero n (b ∷ before) (a ∷ now) one others sum =
    let here : (was b.stage && is_ready a.stage) ≡ true = one in
    let number : i ≡ n = omega arith in
    rw (here, number) (ap (λ (list : List ℕ). n ∷ list) (risen_nobody was (n + 1) before now (λ v. others (suc v) (λ (e : zero ≡ suc v). cc))))
risen_alone was i (suc c) n (b ∷ before) (a ∷ now) one others sum =
    let here : (was b.stage && is_ready a.stage) ≡ false = others zero (λ (e : suc c ≡ zero). cc) in
    rw here (risen_alone was (i + 1) c n before now one (λ v other. others (suc v) (λ (e : suc c ≡ suc v). other (cc))) (omega arith))

-- a test of all blocks, by one and the others
pub each_place : (t : ℕ) (test wanted : ℕ → Bool) → test t ≡ wanted t → ((v : ℕ) → (t ≡ v → ⊥) → test v ≡ wanted v) → (v : ℕ) → test v ≡ wanted v
each_place t test wanted own others v = ⊎_elim
    (λ (same : t ≡ v). subst (λ (x : ℕ). test x ≡ wanted x) same own)
    (λ (other : t ≡ v → ⊥). others v other)
    (cases_eq t v)

-- the block is in the same stage
abbrev pub SameStage : BlockState → BlockState → Type 0
SameStage old new = new.stage ≡ old.stage

-- who stays in its stage doesn't rise
pub still : (was : Stage → Bool) → Apart was → (old new : Option BlockState) → Both SameStage old new → rises was old new ≡ false
still was apart None new both = refl
still was apart (Some b) None both = refl
still was apart (Some b) (Some a) both = ap (λ (s : Stage). was b.stage && is_ready s) both ∙ apart b.stage

-- so do the others where one is changed beside
others_still : (was : Stage → Bool) → Apart was → (t : ℕ) (f : BlockState → BlockState) (blocks mid : List BlockState) → Alike SameStage blocks mid → (v : ℕ) → (t ≡ v → ⊥) → rises_at was blocks (changed t f mid) v ≡ false
others_still was apart t f blocks mid alike v other =
    ap (rises was (slice_get blocks v)) (changed_other t v f mid other) ∙ still was apart (slice_get blocks v) (slice_get mid v) (alike_at SameStage blocks mid alike v)

-- ---- the block itself

-- The block is in a turn.
pub record InTurn (blocks : List BlockState) (t : ℕ) : Type 0 where
  pub cpu : ℕ
  pub ran : ℕ
  pub block : BlockState
  pub here : slice_get blocks t ≡ Some block
  pub stage : block.stage ≡ Turn cpu ran

-- The block was in a turn, and is in this stage now.
pub record IsOver (blocks now : List BlockState) (t : ℕ) (s : Stage) : Type 0 where
  pub cpu : ℕ
  pub ran : ℕ
  pub block : BlockState
  pub after : BlockState
  pub here : slice_get blocks t ≡ Some block
  pub stage : block.stage ≡ Turn cpu ran
  pub there : slice_get now t ≡ Some after
  pub is : after.stage ≡ s

-- what leaves its block in one stage
abbrev pub Ends : (BlockState → BlockState) → Stage → Type 0
Ends f s = (b : BlockState) → (f b).stage ≡ s

-- so it is, after a change of the others
pub over_there : (t : ℕ) (s : Stage) (f : BlockState → BlockState) (blocks mid : List BlockState) → Ends f s → InTurn blocks t → (b : BlockState) → slice_get mid t ≡ Some b → IsOver blocks (changed t f mid) t s
over_there t s f blocks mid ends turn b at = record {
  cpu = turn.cpu;
  ran = turn.ran;
  block = turn.block;
  after = f b;
  here = turn.here;
  stage = turn.stage;
  there = changed_same t f mid ∙ ap (option_map f) at;
  is = ends b;
}

-- whether it rises
pub over_rises : (was : Stage → Bool) (blocks now : List BlockState) (t : ℕ) (s : Stage) (over : IsOver blocks now t s) → rises_at was blocks now t ≡ (was (Turn over.cpu over.ran) && is_ready s)
over_rises was blocks now t s over =
    ap (λ (old : Option BlockState). rises was old (slice_get now t)) over.here ∙ ap (rises was (Some over.block)) over.there
    ∙ ap (λ (old : Stage). was old && is_ready over.after.stage) over.stage ∙ ap (λ (new : Stage). was (Turn over.cpu over.ran) && is_ready new) over.is

-- it alone is made ready, where it is ready
pub over_self : (t : ℕ) (f : BlockState → BlockState) (blocks mid : List BlockState) → Alike SameStage blocks mid → IsOver blocks (changed t f mid) t Ready → risers blocks (changed t f mid) ≡ t ∷ []
over_self t f blocks mid alike over =
    let now = changed t f mid in
    let waits = risen_nobody was_waiting 0 blocks now (each_place t (rises_at was_waiting blocks now) (λ v. false) (over_rises was_waiting blocks now t Ready over) (others_still was_waiting waiting_apart t f blocks mid alike)) in
    let idles = risen_nobody was_idle 0 blocks now (each_place t (rises_at was_idle blocks now) (λ v. false) (over_rises was_idle blocks now t Ready over) (others_still was_idle idle_apart t f blocks mid alike)) in
    let turns = risen_alone was_in_turn 0 t t blocks now (over_rises was_in_turn blocks now t Ready over) (others_still was_in_turn turn_apart t f blocks mid alike) (omega arith) in
    rw (waits, idles, turns) refl

-- and nobody is, where it isn't
pub over_none : (t : ℕ) (s : Stage) (f : BlockState → BlockState) (blocks mid : List BlockState) → is_ready s ≡ false → Alike SameStage blocks mid → IsOver blocks (changed t f mid) t s → risers blocks (changed t f mid) ≡ []
over_none t s f blocks mid off alike over =
    let now = changed t f mid in
    let waits = risen_nobody was_waiting 0 blocks now (each_place t (rises_at was_waiting blocks now) (λ v. false) (over_rises was_waiting blocks now t s over) (others_still was_waiting waiting_apart t f blocks mid alike)) in
    let idles = risen_nobody was_idle 0 blocks now (each_place t (rises_at was_idle blocks now) (λ v. false) (over_rises was_idle blocks now t s over) (others_still was_idle idle_apart t f blocks mid alike)) in
    let turns = risen_nobody was_in_turn 0 blocks now (each_place t (rises_at was_in_turn blocks now) (λ v. false) (over_rises was_in_turn blocks now t s over ∙ off) (others_still was_in_turn turn_apart t f blocks mid alike)) in
    rw (waits, idles, turns) refl

-- where one block alone is changed
alone_over : (t : ℕ) (s : Stage) (f : BlockState → BlockState) (blocks : List BlockState) (block : BlockState) (cpu ran : ℕ) → slice_get blocks t ≡ Some block → block.stage ≡ Turn cpu ran → (f block).stage ≡ s → IsOver blocks (changed t f blocks) t s
alone_over t s f blocks block cpu ran here stage is = record {
  cpu = cpu;
  ran = ran;
  block = block;
  after = f block;
  here = here;
  stage = stage;
  there = changed_same t f blocks ∙ ap (option_map f) here;
  is = is;
}

-- ---- the ready list after an event

-- a Start takes the first
pub start_takes : StartTakes
start_takes script past t cpu how signal list is = rw is (rw (eq-eqb t t refl) refl)

-- a local line of a block in a turn, which goes on
line_stays : (script : Script) (command : Command) (block : BlockState) (cpu ran : ℕ) → block.stage ≡ Turn cpu ran → goes_on script command ran ≡ true → (ran_line script (Some command) block).stage ≡ Turn cpu (ran + 1)
line_stays script command block cpu ran stage goes = rw (stage, goes) refl

-- one that ends the turn
line_ends : (script : Script) (command : Command) (block : BlockState) (cpu ran : ℕ) → block.stage ≡ Turn cpu ran → goes_on script command ran ≡ false → (ran_line script (Some command) block).stage ≡ Ready
line_ends script command block cpu ran stage goes = rw (stage, goes) refl

-- nobody is made ready while the turn goes on
pub local_keeps : LocalKeeps
local_keeps script past t line cpu ran reply block lines command turn at goes =
    let m = machine script past in
    let f = own m.script (Local t line reply) in
    let same = machine_script script past in
    let found : command_at m.script t line ≡ Some command = ap (λ (s : Script). command_at s t line) same ∙ at in
    let more : goes_on m.script command ran ≡ true = ap (λ (s : Script). goes_on s command ran) same ∙ goes in
    let stays : (ran_line m.script (command_at m.script t line) block).stage ≡ Turn cpu (ran + 1) =
    ap (λ (c : Option Command). (ran_line m.script c block).stage) found ∙ line_stays m.script command block cpu ran turn.stage more in
    ap (λ (list : List ℕ). ready_list script past ++ list) (over_none t (Turn cpu (ran + 1)) f m.blocks m.blocks refl (alike_same SameStage (λ b. refl) m.blocks) (alone_over t (Turn cpu (ran + 1)) f m.blocks block cpu ran turn.state turn.stage stays))
    ∙ append-nil (ready_list script past)

-- the block itself is made ready where its turn ends
pub local_rises : LocalRises
local_rises script past t line cpu ran reply block lines command turn at goes =
    let m = machine script past in
    let f = own m.script (Local t line reply) in
    let same = machine_script script past in
    let found : command_at m.script t line ≡ Some command = ap (λ (s : Script). command_at s t line) same ∙ at in
    let more : goes_on m.script command ran ≡ false = ap (λ (s : Script). goes_on s command ran) same ∙ goes in
    let ends : (ran_line m.script (command_at m.script t line) block).stage ≡ Ready =
    ap (λ (c : Option Command). (ran_line m.script c block).stage) found ∙ line_ends m.script command block cpu ran turn.stage more in
    ap (λ (list : List ℕ). ready_list script past ++ list) (over_self t f m.blocks m.blocks (alike_same SameStage (λ b. refl) m.blocks) (alone_over t Ready f m.blocks block cpu ran turn.state turn.stage ends))

-- a Grow makes its block ready
pub grow_rises : GrowRises
grow_rises script past t cpu ran block lines turn =
    let m = machine script past in
    let f = own m.script (Grow t) in
    ap (λ (list : List ℕ). ready_list script past ++ list) (over_self t f m.blocks m.blocks (alike_same SameStage (λ b. refl) m.blocks) (alone_over t Ready f m.blocks block cpu ran turn.state turn.stage refl))
