-- The events of a legal history have spellings.
use Rattle.std.proofs.Common.{◌≡◌, ℕ, zero, suc, ◌+◌, ◌-◌, ◌<◌, ◌≤◌, ◌^◌, Bool, true, false, not, ◌&&◌, nat_le, nat_lt, List, [], ◌∷◌, ◌++◌, length, get_or, take, drop, reverse, Option, Some, None, if◌then◌else◌, refl, sym, ap, subst, ◌∙◌, inl, inr, arith, length-drop}
use Rattle.std.specs.Prelude.{slice_get, slice_range}
use Rattle.std.specs.List.{AllByRecursion}
use Rattle.std.specs.Int.{to_le_bytes, w32}
use Rattle.std.proofs.lemmas.Bool.{cases_Bool, and_parts}
use Rattle.std.proofs.lemmas.Bool.Decides.{nat_tests}
use Rattle.std.proofs.lemmas.List.{length-take-le, reverse-reverse, reverse-append}
use Rattle.std.proofs.lemmas.List.FromFn.{length-map-range_with_len}
use Rattle.std.proofs.lemmas.Option.{slice_get_within}
use Rattle.xs_base.specs.declared.component.Row.{Row}
use Rattle.xs_base.specs.declared.component.Place.{Place}
use Rattle.xs_base.specs.declared.words.Errno.{Errno}
use Rattle.xs_base.specs.declared.words.Errno.TheVariants as errnos
use Rattle.xs_base.specs.declared.words.Set.{Set}
use Rattle.xs_base.specs.declared.words.Set.TheVariants.{Xstate, Fx}
use Rattle.xs_base.specs.Component.{component_count, component_size}
use Rattle.xs_base.specs.File.{File, part, is_mxcsr, read_place}
use Rattle.xs_base.specs.Frame.{Return, Full, LegacyOnly, Refused, return_of}
use Rattle.xs_base.specs.Register.{IsRegister}
use Rattle.xs_base.specs.RegisterSet.{set_reply, set_size, set_byte, set_errno, set_result}
use Rattle.xs_base.specs.Task.{PrivateTask, IsFileOf, IsPrivateTask, frame_length, buffer_length}
use Rattle.xs_base.specs.Tile.{feature_error}
use Rattle.xs_base.proofs.Registers.{named_place, place_component, place_within, place_length}
use Rattle.xs_base.proofs.SizeLemmas.{end_most}
use Rattle.xs_model.specs.declared.script.Block.{Block}
use Rattle.xs_model.specs.declared.script.Command.{Command}
use Rattle.xs_model.specs.declared.script.Command.TheVariants as commands
use Rattle.xs_model.specs.declared.script.Order.{Order}
use Rattle.xs_model.specs.declared.script.Script.{Script}
use Rattle.xs_model.specs.declared.event.Reply.{Reply}
use Rattle.xs_model.specs.declared.event.Event.{Event}
use Rattle.xs_model.specs.declared.event.Event.TheVariants as events
use Rattle.xs_model.specs.declared.event.Why.{Why}
use Rattle.xs_model.specs.declared.event.Why.TheVariants as whys
use Rattle.xs_model.specs.declared.stage.Stage.{Stage}
use Rattle.xs_model.specs.declared.stage.Stage.TheVariants as stages
use Rattle.xs_model.specs.Due.{due, block_event, turn_event, place_event, line_event, local_event, trap_event, block_start, large_count, how_of, signal_of, illegal, violation}
use Rattle.xs_model.specs.Held.{held}
use Rattle.xs_model.specs.History.{IsLegal}
use Rattle.xs_model.specs.Line.{line_at, local_reply, return_reply, count_or_error, traps, refusal}
use Rattle.xs_model.specs.Machine.{IsLegalPast, IsMachineOf, IsStep, machine}
use Rattle.xs_model.specs.Outer.{outer_reply, child_reply, get_reply, put_reply, wait_reply, stage_reply, parent_lives, buffer_of}
use Rattle.xs_model.specs.Script.{IsValid, IsBody, IsCommand, block_named, fits_memory, is_outer, is_user}
use Rattle.xs_model.specs.State.{BlockState, Machine, is_parent, is_ready, is_stopped, has_turn, lives, parent_of, stage_at}
use Rattle.xs_text.specs.Text.{IsReply, IsEvent, AreEvents}

-- ---- the bytes of a register and of a memory

-- bytes, from what is at each place
all_bytes : (bytes : List ℕ) → ((k : ℕ) → get_or bytes k 0 < 256) → AllByRecursion (λ byte. byte < 256) bytes
all_bytes [] each = tt
all_bytes (b ∷ bytes) each = (each 0, all_bytes bytes (λ k. each (suc k)))

-- what holds of each element holds of each later and of each earlier one
all_drop : {X : Type 0} (P : X → Type 0) (n : ℕ) (xs : List X) → AllByRecursion P xs → AllByRecursion P (drop n xs)
all_drop P zero xs all = all
all_drop P (suc n) [] all = tt
all_drop P (suc n) (x ∷ xs) all = all_drop P n xs all.1

all_take : {X : Type 0} (P : X → Type 0) (n : ℕ) (xs : List X) → AllByRecursion P xs → AllByRecursion P (take n xs)
all_take P zero xs all = tt
all_take P (suc n) [] all = tt
all_take P (suc n) (x ∷ xs) all = (all.0, all_take P n xs all.1)

-- a slice within a list
slice_length : (from len : ℕ) (bytes : List ℕ) → from + len ≤ length bytes → length (slice_range bytes from (from + len)) ≡ len
slice_length from len bytes within =
    length-take-le (from + len - from) (drop from bytes) (omega (arith, length-drop from bytes)) ∙ omega arith

-- A reply of these bytes has a spelling.
abbrev IsSpelled : List ℕ → Type 0
IsSpelled bytes = (0 < length bytes) × (length bytes ≤ 64) × AllByRecursion (λ byte. byte < 256) bytes

-- 1 to 64 bytes of a list of bytes
slice_spelled : (at len : ℕ) (bytes : List ℕ) → ((k : ℕ) → get_or bytes k 0 < 256) → at + len ≤ length bytes → 0 < len → len ≤ 64 → IsSpelled (slice_range bytes at (at + len))
slice_spelled at len bytes each within some few =
    let long = slice_length at len bytes within in
    let all = all_take (λ byte. byte < 256) (at + len - at) (drop at bytes) (all_drop (λ byte. byte < 256) at bytes (all_bytes bytes each)) in
    (omega (arith, long), omega (arith, long), all)

-- MXCSR as bytes
control_spelled : (n : ℕ) → IsSpelled (to_le_bytes w32 n)
control_spelled n = (omega arith, omega arith, (omega arith, (omega arith, (omega arith, (omega arith, tt)))))

-- another register
part_spelled : (rows : List Row) (file : File) (reg : List ℕ) (place : Place) → IsFileOf rows file → IsRegister rows reg place → is_mxcsr place ≡ false → IsSpelled (slice_range (part file place.comp.0) place.offset (place.offset + place.len))
part_spelled rows file reg place good register apart =
    let lt : place.comp.0 < component_count = place_component reg place register.0 in
    let size : length (part file place.comp.0) ≡ component_size place.comp.0 = good.is_file.sizes place.comp.0 lt in
    let within : place.offset + place.len ≤ component_size place.comp.0 = place_within reg place register.0 apart in
    let few = place_length reg place register.0 in
    slice_spelled place.offset place.len (part file place.comp.0) (good.bytes place.comp.0) (omega arith) few.0 few.1

register_spelled : (rows : List Row) (file : File) (reg : List ℕ) (place : Place) → IsFileOf rows file → IsRegister rows reg place → IsSpelled (read_place file place)
register_spelled rows file reg place good register = elim (cases_Bool (is_mxcsr place)) [
  | inl is ↦ rw is (control_spelled file.mxcsr)
  | inr apart ↦ rw apart (part_spelled rows file reg place good register apart)
]

-- bytes of a memory
memory_spelled : (size at len : ℕ) (bytes : List ℕ) → length bytes ≡ size → ((k : ℕ) → get_or bytes k 0 < 256) → fits_memory size at len ≡ true → IsSpelled (slice_range bytes at (at + len))
memory_spelled size at len bytes long each fits =
    let outer = and_parts (nat_le 1 len && nat_le len 64) (nat_le (at + len) size) fits in
    let inner = and_parts (nat_le 1 len) (nat_le len 64) outer.0 in
    let some : 0 < len = grind (arith, nat_tests, inner.0) in
    let few : len ≤ 64 = grind (arith, nat_tests, inner.1) in
    let within : at + len ≤ size = grind (arith, nat_tests, outer.1) in
    slice_spelled at len bytes each (omega (arith, within, long)) some few

-- ---- replies

-- a count or an error's number
count_spelled : (n : ℕ) (error : Option Errno) → n < 2 ^ 32 → IsReply (count_or_error n error)
count_spelled n None few = few
count_spelled n (Some errnos.Srch) few = omega arith
count_spelled n (Some errnos.Fault) few = omega arith
count_spelled n (Some errnos.Invalid) few = omega arith
count_spelled n (Some errnos.NotSupported) few = omega arith

-- the reply of a return
return_spelled : (back : Return) → IsReply (return_reply back)
return_spelled (Full file) = tt
return_spelled (LegacyOnly file) = tt
return_spelled (Refused error) = tt

-- what a local line answers
local_spelled : (rows : List Row) (task : PrivateTask) (command : Command) → IsPrivateTask rows task → IsCommand rows command → IsReply (local_reply task command)
local_spelled rows task (commands.Get reg) good fits =
    rw (named_place reg fits.0 fits.1.0) (register_spelled rows task.file reg fits.0 good.file fits.1)
local_spelled rows task (commands.Perm feature) good fits = count_spelled 0 (feature_error task.file.rows feature) (omega arith)
local_spelled rows task (commands.Peek at len) good fits = memory_spelled frame_length at len task.frame good.frame_size good.frame_bytes fits
local_spelled rows task (commands.Bpeek at len) good fits = memory_spelled buffer_length at len task.buffer good.buffer_size good.buffer_bytes fits
local_spelled rows task commands.Sigreturn good fits = return_spelled (return_of task)
local_spelled rows task other good fits = tt

-- one of two replies
either_spelled : (b : Bool) (one other : Reply) → IsReply one → IsReply other → IsReply (if b then one else other)
either_spelled true one other h k = h
either_spelled false one other h k = k

stage_spelled : (stage : Stage) → IsReply (stage_reply stage)
stage_spelled stages.Unborn = tt
stage_spelled stages.Ready = tt
stage_spelled (stages.Turn cpu ran) = tt
stage_spelled stages.Stopped = tt
stage_spelled (stages.Waiting child) = tt
stage_spelled stages.Ended = tt

wait_spelled : (t : ℕ) (child : Option BlockState) → IsReply (wait_reply t child)
wait_spelled t None = tt
wait_spelled t (Some child) = either_spelled (is_parent child.parent t) (stage_reply child.stage) _ (stage_spelled child.stage) tt

-- what holds of each element holds of the one at a place
at_place : {X : Type 0} (P : X → Type 0) (xs : List X) (i : ℕ) (x : X) → AllByRecursion P xs → slice_get xs i ≡ Some x → P x
at_place P [] i x all at = absurd (cc)
at_place P (y ∷ ys) zero x all at = let same : y ≡ x = cc in subst P same all.0
at_place P (y ∷ ys) (suc i) x all at = at_place P ys i x all.1 at

-- the bytes of a set are counted by 32 bits
set_few : (rows : List Row) (task : PrivateTask) (set : Set) → IsPrivateTask rows task → length (set_reply task set) < 2 ^ 32
unfolding set_reply
set_few rows task Xstate good =
    let most = end_most (λ c. true) task.file.rows good.file.is_file.layout in
    omega (arith, most, length-map-range_with_len (set_byte task Xstate) 0 (set_size task Xstate))
set_few rows task Fx good = omega (arith, length-map-range_with_len (set_byte task Fx) 0 (set_size task Fx))

-- the reply of a command for a child that stands at a place
child_spelled : (rows : List Row) (reply : PrivateTask → Reply) (child : Option BlockState) → ((block : BlockState) → child ≡ Some block → IsReply (reply block.task)) → IsReply (child_reply reply child)
child_spelled rows reply None each = omega arith
child_spelled rows reply (Some block) each = either_spelled (is_stopped block.stage) (reply block.task) _ (each block refl) (omega arith)

-- what an outer command answers
outer_spelled : (script : Script) (blocks : List BlockState) (t : ℕ) (command : Command) → AllByRecursion (λ (block : BlockState). IsPrivateTask script.layout block.task) blocks → IsCommand script.layout command → IsReply (outer_reply script blocks t command)
outer_spelled script blocks t (commands.Kill name signo) good fits = either_spelled (lives (stage_at blocks (block_named script name))) _ _ (omega arith) (omega arith)
outer_spelled script blocks t commands.Stop good fits = either_spelled (parent_lives blocks (parent_of (slice_get blocks t))) _ _ tt tt
outer_spelled script blocks t (commands.Wait name) good fits = wait_spelled t (slice_get blocks (block_named script name))
outer_spelled script blocks t (commands.Getregs name set) good fits =
    child_spelled script.layout (get_reply set) (slice_get blocks (block_named script name)) (λ block at.
    set_few script.layout block.task set (at_place (λ (b : BlockState). IsPrivateTask script.layout b.task) blocks (block_named script name) block good at))
outer_spelled script blocks t (commands.Setregs name set count) good fits =
    child_spelled script.layout (put_reply set count (buffer_of (slice_get blocks t))) (slice_get blocks (block_named script name)) (λ block at.
    count_spelled count (set_errno (set_result block.task set (take count (buffer_of (slice_get blocks t))))) (omega arith))
outer_spelled script blocks t (commands.Cont name) good fits =
    child_spelled script.layout _ (slice_get blocks (block_named script name)) (λ block at. omega arith)
outer_spelled script blocks t other good fits = tt

-- ---- the event that is due

-- The event has a spelling, where there is one.
abbrev Fits : Script → Option Event → Type 0
Fits script None = Unit {0}
Fits script (Some event) = IsEvent script event

-- one of two events, and one that comes only where a test holds
either_fits : (script : Script) (b : Bool) (one other : Option Event) → Fits script one → Fits script other → Fits script (if b then one else other)
either_fits script true one other h k = h
either_fits script false one other h k = k

guarded_fits : (script : Script) (b : Bool) (one : Option Event) → (b ≡ true → Fits script one) → Fits script (if b then one else None)
guarded_fits script true one h = h refl
guarded_fits script false one h = tt

module _ (script : Script) (valid : IsValid script) (m : Machine) (good : IsMachineOf script m) (t : ℕ) where
  -- the event of a line that traps
  trap_fits : (task : PrivateTask) → t < length script.blocks → Fits script (Some (trap_event m t task))
  trap_fits task here = choose task.permitted (nat_lt (large_count m.blocks) m.script.large)
    where
      choose : (a b : Bool) → IsEvent script (if not a then events.Kill t illegal whys.Permission else if b then events.Grow t else events.Kill t violation whys.Area)
      choose false b = here
      choose true true = here
      choose true false = here

  -- the event of a local line
  local_fits : (ran : ℕ) (task : PrivateTask) (order : Order) (why : Option Why) → t < length script.blocks → IsPrivateTask script.layout task → IsCommand script.layout order.command → Fits script (local_event m t ran task order why)
  local_fits ran task order (Some why) here own fits = here
  local_fits ran task order None here own fits =
      guarded_fits script (nat_lt ran m.script.quantum) (Some (events.Local t order.number (local_reply task order.command)))
      (λ may. (here, order.in_range, local_spelled script.layout task order.command own fits))

  -- the event of a line
  line_fits : (ran : ℕ) (task : PrivateTask) (order : Order) → t < length script.blocks → IsPrivateTask script.layout task → IsCommand script.layout order.command → Fits script (line_event m t ran task order)
  line_fits ran task order here own fits =
      either_fits script (is_outer order.command) _ _
      (here, order.in_range, rw good.script_is (outer_spelled script m.blocks t order.command good.tasks fits))
      (either_fits script (traps task order.command) _ _ (trap_fits task here) (local_fits ran task order (refusal task order.command) here own fits))

  -- the event at the task's place
  place_fits : (ran : ℕ) (task : PrivateTask) (line : Option Order) → t < length script.blocks → IsPrivateTask script.layout task → ((order : Order) → line ≡ Some order → IsCommand script.layout order.command) → Fits script (place_event m t ran task line)
  place_fits ran task None here own fits = guarded_fits script (nat_lt ran m.script.quantum && not task.handling) (Some (events.End t)) (λ may. here)
  place_fits ran task (Some order) here own fits = line_fits ran task order here own (fits order refl)

  -- the commands of a block's lines, in its body and its handler
  line_command : (lines : Block) (task : PrivateTask) → IsBody script.layout lines → (order : Order) → line_at lines task ≡ Some order → IsCommand script.layout order.command
  line_command lines task body order at = choose task.handling at
    where
      choose : (b : Bool) → slice_get (if b then lines.handler else lines.body) task.place ≡ Some order → IsCommand script.layout order.command
      choose true h = at_place (λ (o : Order). IsCommand script.layout o.command) lines.handler task.place order body.handler h
      choose false h = at_place (λ (o : Order). IsCommand script.layout o.command) lines.body task.place order body.body h

  turn_fits : (lines : Block) (task : PrivateTask) (stage : Stage) → t < length script.blocks → IsPrivateTask script.layout task → IsBody script.layout lines → Fits script (turn_event m t lines task stage)
  turn_fits lines task stages.Unborn here own body = tt
  turn_fits lines task stages.Ready here own body = tt
  turn_fits lines task (stages.Turn cpu ran) here own body = place_fits ran task (line_at lines task) here own (line_command lines task body)
  turn_fits lines task stages.Stopped here own body = tt
  turn_fits lines task (stages.Waiting child) here own body = tt
  turn_fits lines task stages.Ended here own body = tt

  -- a block's event in its turn
  block_fits : (block : Option BlockState) (lines : Option Block) → slice_get m.blocks t ≡ block → slice_get script.blocks t ≡ lines → Fits script (block_event m t block lines)
  block_fits None lines here known = tt
  block_fits (Some block) None here known = tt
  block_fits (Some block) (Some lines) here known =
      turn_fits lines block.task block.stage (slice_get_within script.blocks t lines known)
      (at_place (λ (b : BlockState). IsPrivateTask script.layout b.task) m.blocks t block good.tasks here)
      (at_place (λ (b : Block). IsBody script.layout b) script.blocks t lines valid.bodies known)

  due_fits : Fits script (due m t)
  due_fits = block_fits (slice_get m.blocks t) (slice_get m.script.blocks t) refl (ap (λ (s : Script). slice_get s.blocks t) (sym good.script_is))

  -- a Start
  start_fits : (cpu : ℕ) (block : Option BlockState) → slice_get m.blocks t ≡ block → Fits script (block_start m t cpu block)
  start_fits cpu None here = tt
  start_fits cpu (Some block) here =
      let within = slice_get_within m.blocks t block here in
      guarded_fits script (is_ready block.stage && nat_lt cpu m.script.cpus && not (has_turn m.blocks cpu)) (Some (events.Start t cpu (how_of (is_user m.script t) (held m.script m.past cpu t)) (signal_of block)))
      (λ may.
      let parts = and_parts (is_ready block.stage && nat_lt cpu m.script.cpus) (not (has_turn m.blocks cpu)) may in
      let few = and_parts (is_ready block.stage) (nat_lt cpu m.script.cpus) parts.0 in
      let lt : cpu < m.script.cpus = grind (arith, nat_tests, few.1) in
      (omega (arith, within, good.count), omega (arith, lt, valid.cpus.1, ap (λ (s : Script). s.cpus) good.script_is)))

-- ---- histories

-- the event of a step
step_fits : (script : Script) (m : Machine) (event : Event) → IsValid script → IsMachineOf script m → IsStep m event → IsEvent script event
step_fits script m (events.Start t cpu how signal) valid good step = subst (Fits script) step.is_due (start_fits script valid m good t cpu (slice_get m.blocks t) refl)
step_fits script m (events.Local t line reply) valid good step = subst (Fits script) step.is_due (due_fits script valid m good t)
step_fits script m (events.Outer t line reply) valid good step = subst (Fits script) step.is_due (due_fits script valid m good t)
step_fits script m (events.Grow t) valid good step = subst (Fits script) step.is_due (due_fits script valid m good t)
step_fits script m (events.Kill t signo why) valid good step = subst (Fits script) step.is_due (due_fits script valid m good t)
step_fits script m (events.End t) valid good step = subst (Fits script) step.is_due (due_fits script valid m good t)

-- The machine of a legal past has valid private tasks.
abbrev pub AreMachines : Type 0
AreMachines = (script : Script) (past : List Event) → IsValid script → IsLegalPast script past → IsMachineOf script (machine script past)

-- the events of a legal past
past_fits : AreMachines → (script : Script) (past : List Event) → IsValid script → IsLegalPast script past → AreEvents script past
past_fits machines script [] valid legal = tt
past_fits machines script (event ∷ past) valid legal =
    (step_fits script (machine script past) event valid (machines script past valid legal.0) legal.1, past_fits machines script past valid legal.0)

-- what holds of each element holds of them in the other order
all_append : {X : Type 0} (P : X → Type 0) (xs ys : List X) → AllByRecursion P xs → AllByRecursion P ys → AllByRecursion P (xs ++ ys)
all_append P [] ys h k = k
all_append P (x ∷ xs) ys h k = (h.0, all_append P xs ys h.1 k)

all_reverse : {X : Type 0} (P : X → Type 0) (xs : List X) → AllByRecursion P xs → AllByRecursion P (reverse xs)
all_reverse P [] h = tt
all_reverse P (x ∷ xs) h = subst (AllByRecursion P) (sym (reverse-append (x ∷ []) xs)) (all_append P (reverse xs) (x ∷ []) (all_reverse P xs h.1) (h.0, tt))

pub legal_spelled : AreMachines → (script : Script) (history : List Event) → IsValid script → IsLegal script history → AreEvents script history
legal_spelled machines script history valid legal =
    subst (AreEvents script) (reverse-reverse history) (all_reverse (IsEvent script) (reverse history) (past_fits machines script (reverse history) valid legal))
