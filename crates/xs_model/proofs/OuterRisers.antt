-- Whom an outer line makes ready, command by command; and the same of an end and a kill.
use Rattle.std.proofs.Common.{◌≡◌, ℕ, Bool, true, false, List, [], ◌∷◌, ◌++◌, map, refl, sym, ap, ◌∙◌}
use Rattle.std.specs.Prelude.{Option, Some, None, slice_get, if◌then◌else◌}
use Rattle.xs_model.specs.declared.script.Command.{Command}
use Rattle.xs_model.specs.declared.script.Command.TheVariants as commands
use Rattle.xs_model.specs.declared.script.Script.{Script}
use Rattle.xs_model.specs.declared.event.Reply.{Reply}
use Rattle.xs_model.specs.declared.event.Reply.TheVariants as replies
use Rattle.xs_model.specs.declared.event.Event.{Event}
use Rattle.xs_model.specs.declared.event.Event.TheVariants.{Outer, Kill, End}
use Rattle.xs_model.specs.declared.stage.Stage.{Stage}
use Rattle.xs_model.specs.declared.stage.Stage.TheVariants.{Unborn, Ready, Turn, Stopped, Waiting, Ended}
use Rattle.xs_model.specs.Script.{IsValid, block_named, command_at}
use Rattle.xs_model.specs.Line.{line_at}
use Rattle.xs_model.specs.Note.{is_count}
use Rattle.xs_model.specs.State.{BlockState, is_stopped, stage_at, changed}
use Rattle.xs_model.specs.Outer.{woken, let_go, continued, freed, born, signalled, buffer_of, registers_set, buffer_filled, child_reply, outer_reply, reach_of, outer_own}
use Rattle.xs_model.specs.Due.{due}
use Rattle.xs_model.specs.Machine.{own, machine, IsLegalPast}
use Rattle.xs_model.specs.Ready.{was_idle, risers, ready_list}
use Rattle.xs_model.specs.Effects.{outer_risers, freed_by, OuterRises, EndRises, KillRises}
use Rattle.xs_model.proofs.LineNumbers.{lines_found}
use Rattle.xs_model.proofs.LegalTurns.{machine_script}
use Rattle.xs_model.proofs.Touched.{Alike, alike_same, alike_changed, alike_if, alike_at, Both}
use Rattle.xs_model.proofs.EventTurns.{filled_stage}
use Rattle.xs_model.proofs.DuePlaces.{due_inverse}
use Rattle.xs_model.proofs.DueOrders.{outer_at}
use Rattle.xs_model.proofs.StepLaws.{after_outer, map_at}
use Rattle.xs_model.proofs.Family.{IsFamily}
use Rattle.xs_model.proofs.FamilyMoves.{parent_at}
use Rattle.xs_model.proofs.FamilySteps.{legal_family}
use Rattle.xs_model.proofs.Births.{fork_bears}
use Rattle.xs_model.proofs.RiserLaws.{SameStage, InTurn, Ends, over_there, over_self, over_none}
use Rattle.xs_model.proofs.RiserSteps.{stop_rises, freed_rises, two_rise}

-- ---- where the others stay in their stages

-- a block is still there
there_still : (block other : Option BlockState) (b : BlockState) → Both SameStage block other → block ≡ Some b → (a : BlockState) × (other ≡ Some a)
there_still None other b both here = absurd (cc)
there_still (Some x) None b both here = absurd both
there_still (Some x) (Some y) b both here = (y, refl)

-- the block itself is made ready
self_rises : (t : ℕ) (f : BlockState → BlockState) (blocks mid : List BlockState) → Ends f Ready → InTurn blocks t → Alike SameStage blocks mid → risers blocks (changed t f mid) ≡ t ∷ []
self_rises t f blocks mid ends turn alike =
    let b = there_still (slice_get blocks t) (slice_get mid t) turn.block (alike_at SameStage blocks mid alike t) turn.here in
    over_self t f blocks mid alike (over_there t Ready f blocks mid ends turn b.0 b.1)

-- the same blocks
all_same : (blocks : List BlockState) → Alike SameStage blocks blocks
all_same blocks = alike_same SameStage (λ b. refl) blocks

-- one is changed, and keeps its stage
one_same : (test : Bool) (c : ℕ) (g : BlockState → BlockState) (blocks : List BlockState) → ((b : BlockState) → (g b).stage ≡ b.stage) → Alike SameStage blocks (if test then changed c g blocks else blocks)
one_same test c g blocks keeps = alike_if SameStage test blocks (changed c g blocks) (alike_changed SameStage g (λ b. refl) keeps c blocks) (all_same blocks)

-- ---- command by command

-- Whom the command makes ready.
abbrev Rises : Script → List BlockState → ℕ → Command → Reply → Type 0
Rises script blocks t command reply = risers blocks (changed t (outer_own script (Some command) reply) (reach_of script t command reply blocks)) ≡ outer_risers script blocks t command reply

-- a fork of a block that isn't born
fork_rises : (script : Script) (blocks : List BlockState) (t : ℕ) (name : List ℕ) (reply : Reply) (child : BlockState) → InTurn blocks t → slice_get blocks (block_named script name) ≡ Some child → child.stage ≡ Unborn → Rises script blocks t (commands.Fork name) reply
fork_rises script blocks t name reply child turn at unborn =
    let here = turn.here in
    let ready : (born t (slice_get blocks t) child).stage ≡ Ready = rw (here, unborn) refl in
    two_rise t (block_named script name) (outer_own script (Some (commands.Fork name)) reply) (born t (slice_get blocks t)) blocks child at (ap was_idle unborn) ready (λ b. refl) turn

-- a `stop`, held or not
held_rises : (script : Script) (blocks : List BlockState) (t : ℕ) (reply : Reply) → IsFamily (stage_at blocks) (parent_at blocks) → InTurn blocks t → Rises script blocks t commands.Stop reply
held_rises script blocks t replies.Held family turn =
    let f = outer_own script (Some commands.Stop) replies.Held in
    stop_rises t f blocks family (over_there t Stopped f blocks (map (woken t) blocks) (λ b. refl) turn (woken t turn.block) (map_at (woken t) blocks t turn.block turn.here))
held_rises script blocks t reply family turn = self_rises t (outer_own script (Some commands.Stop) reply) blocks blocks (λ b. refl) turn (all_same blocks)

-- a `wait`, which blocks or not
wait_rises : (script : Script) (blocks : List BlockState) (t : ℕ) (name : List ℕ) (reply : Reply) → InTurn blocks t → Rises script blocks t (commands.Wait name) reply
wait_rises script blocks t name replies.Blocked turn =
    let f = outer_own script (Some (commands.Wait name)) replies.Blocked in
    let s = Waiting (block_named script name) in
    over_none t s f blocks blocks refl (all_same blocks) (over_there t s f blocks blocks (λ b. refl) turn turn.block turn.here)
wait_rises script blocks t name reply turn = self_rises t (outer_own script (Some (commands.Wait name)) reply) blocks blocks (λ b. refl) turn (all_same blocks)

-- who is stopped
stopped_is : (s : Stage) → is_stopped s ≡ true → s ≡ Stopped
stopped_is Unborn is = absurd (cc)
stopped_is Ready is = absurd (cc)
stopped_is (Turn cpu ran) is = absurd (cc)
stopped_is Stopped is = refl
stopped_is (Waiting child) is = absurd (cc)
stopped_is Ended is = absurd (cc)

-- a child for which a command is accepted is stopped
counted_child : (child : Option BlockState) (n : ℕ) → replies.Count n ≡ child_reply (λ task. replies.Count 0) child → (b : BlockState) × (child ≡ Some b) × (b.stage ≡ Stopped)
counted_child None n is = absurd (cc)
counted_child (Some b) n is = by_test (is_stopped b.stage) refl is
  where
    by_test : (test : Bool) → is_stopped b.stage ≡ test → replies.Count n ≡ (if test then replies.Count 0 else replies.Error 3) → (a : BlockState) × (Some b ≡ Some a) × (a.stage ≡ Stopped)
    by_test true on is = (b, refl, stopped_is b.stage on)
    by_test false off is = absurd (cc)

-- a `cont`, accepted or not
cont_rises : (script : Script) (blocks : List BlockState) (t : ℕ) (name : List ℕ) (reply : Reply) → InTurn blocks t → reply ≡ outer_reply script blocks t (commands.Cont name) → Rises script blocks t (commands.Cont name) reply
cont_rises script blocks t name (replies.Count n) turn is =
    let c = block_named script name in
    let child = counted_child (slice_get blocks c) n is in
    two_rise t c (outer_own script (Some (commands.Cont name)) (replies.Count n)) continued blocks child.0 child.1 (ap was_idle child.2) (ap (let_go true) child.2) (λ b. refl) turn
cont_rises script blocks t name reply turn is = self_rises t (outer_own script (Some (commands.Cont name)) reply) blocks blocks (λ b. refl) turn (all_same blocks)

-- The child of a fork isn't born.
abbrev IsFresh : Script → List BlockState → Command → Type 0
IsFresh script blocks command = (name : List ℕ) → command ≡ commands.Fork name → (child : BlockState) × (slice_get blocks (block_named script name) ≡ Some child) × (child.stage ≡ Unborn)

-- each command
command_rises : (script : Script) (blocks : List BlockState) (t : ℕ) (command : Command) (reply : Reply) → IsFamily (stage_at blocks) (parent_at blocks) → InTurn blocks t → IsFresh script blocks command → reply ≡ outer_reply script blocks t command → Rises script blocks t command reply
command_rises script blocks t (commands.Fork name) reply family turn fresh is = let child = fresh name refl in fork_rises script blocks t name reply child.0 turn child.1 child.2
command_rises script blocks t (commands.Kill name signo) reply family turn fresh is =
    let mid = one_same (is_count reply) (block_named script name) (signalled signo) blocks (λ b. refl) in
    self_rises t (outer_own script (Some (commands.Kill name signo)) reply) blocks _ (λ b. refl) turn mid
command_rises script blocks t commands.Stop reply family turn fresh is = held_rises script blocks t reply family turn
command_rises script blocks t (commands.Wait name) reply family turn fresh is = wait_rises script blocks t name reply turn
command_rises script blocks t (commands.Getregs name set) reply family turn fresh is =
    let child = slice_get blocks (block_named script name) in
    let mid = one_same (is_count reply) t (buffer_filled set child) blocks (filled_stage set child) in
    self_rises t (outer_own script (Some (commands.Getregs name set)) reply) blocks _ (λ b. refl) turn mid
command_rises script blocks t (commands.Setregs name set count) reply family turn fresh is =
    let mid = one_same (is_count reply) (block_named script name) (registers_set set count (buffer_of (slice_get blocks t))) blocks (λ b. refl) in
    self_rises t (outer_own script (Some (commands.Setregs name set count)) reply) blocks _ (λ b. refl) turn mid
command_rises script blocks t (commands.Cont name) reply family turn fresh is = cont_rises script blocks t name reply turn is
command_rises script blocks t other reply family turn fresh is = self_rises t (outer_own script (Some other) reply) blocks blocks (λ b. refl) turn (all_same blocks)

-- ---- the laws

-- whom an outer line makes ready
pub outer_rises : OuterRises
outer_rises script past t line reply command valid legal is =
    let m = machine script past in
    let same = machine_script script past in
    let d = due_inverse m t (Outer t line reply) legal.1.is_due in
    let o = outer_at m t d.ran t line reply d.lines d.state.task (line_at d.lines d.state.task) refl d.is in
    let known : slice_get script.blocks t ≡ Some d.lines = ap (λ (s : Script). slice_get s.blocks t) (sym same) ∙ d.known in
    let found : command_at script t line ≡ Some o.order.command = ap (command_at script t) o.number ∙ lines_found script valid t d.lines d.state.task o.order known o.here in
    let one : o.order.command ≡ command = cc in
    let replied : reply ≡ outer_reply script m.blocks t command = o.replied ∙ ap (λ (s : Script). outer_reply s m.blocks t o.order.command) same ∙ ap (outer_reply script m.blocks t) one in
    let turn : InTurn m.blocks t = record { cpu = d.cpu; ran = d.ran; block = d.state; here = d.at; stage = d.stage } in
    let fresh : IsFresh script m.blocks command = λ name fork.
    let birth = fork_bears script past t name d.state o.order valid legal.0 (record { cpu = d.cpu; ran = d.ran; lines = d.lines; turn = record { state = d.at; lines_are = known; stage = d.stage }; at = o.here; is = one ∙ fork }) in
    (birth.0, birth.1.here, birth.1.unborn) in
    ap (λ (now : List BlockState). ready_list script past ++ risers m.blocks now) (after_outer script past t line reply command is)
    ∙ ap (λ (rising : List ℕ). ready_list script past ++ rising) (command_rises script m.blocks t command reply (legal_family script past (lines_found script valid) legal.0) turn fresh replied)

-- whom an event that ends its block makes ready
over_frees : (script : Script) (past : List Event) (t : ℕ) (event : Event) (f : BlockState → BlockState) → IsValid script → IsLegalPast script past → due (machine script past) t ≡ Some event → Ends f Ended
    → risers (machine script past).blocks (changed t f (map (freed t) (machine script past).blocks)) ≡ freed_by (machine script past).blocks t
over_frees script past t event f valid legal is ends =
    let m = machine script past in
    let d = due_inverse m t event is in
    let turn : InTurn m.blocks t = record { cpu = d.cpu; ran = d.ran; block = d.state; here = d.at; stage = d.stage } in
    freed_rises t f m.blocks (legal_family script past (lines_found script valid) legal) (over_there t Ended f m.blocks (map (freed t) m.blocks) ends turn (freed t d.state) (map_at (freed t) m.blocks t d.state d.at))

-- whom an end makes ready
pub end_rises : EndRises
end_rises script past t valid legal =
    ap (λ (rising : List ℕ). ready_list script past ++ rising) (over_frees script past t (End t) (own (machine script past).script (End t)) valid legal.0 legal.1.is_due (λ b. refl))

-- whom a kill makes ready
pub kill_rises : KillRises
kill_rises script past t signo why valid legal =
    ap (λ (rising : List ℕ). ready_list script past ++ rising) (over_frees script past t (Kill t signo why) (own (machine script past).script (Kill t signo why)) valid legal.0 legal.1.is_due (λ b. refl))
