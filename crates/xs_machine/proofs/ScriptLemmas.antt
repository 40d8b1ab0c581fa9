-- The lines of a script that is valid and built.
use Rattle.std.proofs.Common.{◌≡◌, ℕ, zero, suc, ◌+◌, ◌<◌, ◌^◌, Bool, true, false, not, ◌&&◌, ◌==◌, nat_lt, List, [], ◌∷◌, ◌++◌, length, map, Option, Some, None, if◌then◌else◌, slice_get, refl, sym, ap, ◌∙◌, subst, arith}
use Rattle.std.proofs.lemmas.Bool.{and_parts}
use Rattle.std.specs.List.{list_all, AllByRecursion}
use Rattle.xs_base.specs.Frame.{Return, Full, LegacyOnly, Refused, return_of, after_return}
use Rattle.xs_base.specs.Task.{PrivateTask}
use Rattle.xs_model.specs.declared.event.Event.{Event}
use Rattle.xs_model.specs.declared.event.Event.TheVariants as events
use Rattle.xs_model.specs.declared.script.Block.{Block}
use Rattle.xs_model.specs.declared.script.BlockKind.{BlockKind}
use Rattle.xs_model.specs.declared.script.BlockKind.TheVariants as kinds
use Rattle.xs_model.specs.declared.script.Command.{Command}
use Rattle.xs_model.specs.declared.script.Command.TheVariants as commands
use Rattle.xs_model.specs.declared.script.Order.{Order}
use Rattle.xs_model.specs.declared.script.Script.{Script}
use Rattle.xs_model.specs.declared.stage.Stage.TheVariants as stages
use Rattle.xs_model.specs.Due.{block_event, due, place_event}
use Rattle.xs_model.specs.Line.{line_at, local_after, next_line, return_cause, refusal}
use Rattle.xs_model.specs.Machine.{machine}
use Rattle.xs_model.specs.Script.{AreRising, order_numbers, IsBody, IsValid, IsCommand, fits_kind, is_handler, is_handler_from, is_kernel_command, is_outer, is_return, is_user, is_user_kind}
use Rattle.xs_model.specs.State.{BlockState, Machine, stage_at, stage_of, task_of_state}
use Rattle.xs_board.specs.Turn.{line_of, line_in}
use Rattle.xs_base.specs.Tile.{feature_error}
use Rattle.xs_machine.proofs.Commands.{asked_same}
use Rattle.xs_machine.proofs.Histories.{and_no}
use Rattle.xs_machine.proofs.Stages.{in_turn, script_stays}

-- ---- lists

pub all_at : {X : Type 0} (P : X → Type 0) (xs : List X) (i : ℕ) (x : X) → AllByRecursion P xs → slice_get xs i ≡ Some x → P x
all_at P [] i x all at = absurd (cc)
all_at P (y ∷ ys) zero x all at = let same : y ≡ x = cc in subst P same all.0
all_at P (y ∷ ys) (suc i) x all at = all_at P ys i x all.1 at

pub list_at : {X : Type 0} (test : X → Bool) (xs : List X) (i : ℕ) (x : X) → list_all test xs ≡ true → slice_get xs i ≡ Some x → test x ≡ true
list_at test [] i x all at = absurd (cc)
list_at test (y ∷ ys) zero x all at = let same : y ≡ x = cc in rw (sym same) (and_parts (test y) (list_all test ys) all).0
list_at test (y ∷ ys) (suc i) x all at = list_at test ys i x (and_parts (test y) (list_all test ys) all).1 at

pub get_within : {X : Type 0} (xs : List X) (i : ℕ) (x : X) → slice_get xs i ≡ Some x → i < length xs
get_within [] i x at = absurd (cc)
get_within (y ∷ ys) zero x at = omega arith
get_within (y ∷ ys) (suc i) x at = let rest = get_within ys i x at in omega arith

-- ---- numbers of lines

abbrev numbers : List Order → List ℕ
numbers orders = map (λ (order : Order). order.number) orders

rising_first : (last : ℕ) (xs ys : List ℕ) → AreRising last (xs ++ ys) → AreRising last xs
rising_first last [] ys rising = tt
rising_first last (x ∷ xs) ys rising = (rising.0, rising_first x xs ys rising.1)

rising_second : (last : ℕ) (xs ys : List ℕ) → AreRising last (xs ++ ys) → (l : ℕ) × AreRising l ys
rising_second last [] ys rising = (last, rising)
rising_second last (x ∷ xs) ys rising = rising_second x xs ys rising.1

block_rising : (last : ℕ) (blocks : List Block) (t : ℕ) (lines : Block) → AreRising last (order_numbers blocks) → slice_get blocks t ≡ Some lines → (l : ℕ) × AreRising l (numbers (lines.body ++ lines.handler))
block_rising last [] t lines rising at = absurd (cc)
block_rising last (first ∷ blocks) zero lines rising at =
    let same : first ≡ lines = cc in
    subst (λ (b : Block). (l : ℕ) × AreRising l (numbers (b.body ++ b.handler))) same (last, rising_first last (numbers (first.body ++ first.handler)) (order_numbers blocks) rising)
block_rising last (first ∷ blocks) (suc t) lines rising at =
    let rest = rising_second last (numbers (first.body ++ first.handler)) (order_numbers blocks) rising in
    block_rising rest.0 blocks t lines rest.1 at

-- a line's number is above its place
above : (last : ℕ) (orders : List Order) (i : ℕ) (order : Order) → AreRising last (numbers orders) → slice_get orders i ≡ Some order → last + i < order.number
above last [] i order rising at = absurd (cc)
above last (first ∷ orders) zero order rising at = let same : first ≡ order = cc in subst (λ (o : Order). last + 0 < o.number) same (omega (arith, rising.0))
above last (first ∷ orders) (suc i) order rising at = let beyond = above first.number orders i order rising.1 at in let here : last < first.number = rising.0 in omega arith

-- and so it is above its place in the handler, whose lines are behind those of the body
in_first : (orders more : List Order) (i : ℕ) (order : Order) → slice_get orders i ≡ Some order → slice_get (orders ++ more) i ≡ Some order
in_first [] more i order at = absurd (cc)
in_first (first ∷ orders) more zero order at = at
in_first (first ∷ orders) more (suc i) order at = in_first orders more i order at

behind : (last : ℕ) (orders more : List Order) → AreRising last (numbers (orders ++ more)) → (l : ℕ) × AreRising l (numbers more)
behind last [] more rising = (last, rising)
behind last (first ∷ orders) more rising = behind first.number orders more rising.1

low_place : (last : ℕ) (lines : Block) (p : PrivateTask) (order : Order) → AreRising last (numbers (lines.body ++ lines.handler)) → line_at lines p ≡ Some order → p.place < order.number
low_place last lines p order rising at = by_lines p.handling at
  where
    by_lines : (h : Bool) → slice_get (if h then lines.handler else lines.body) p.place ≡ Some order → p.place < order.number
    by_lines true at = let l = behind last lines.body lines.handler rising in let high = above l.0 lines.handler p.place order l.1 at in omega arith
    by_lines false at = let high = above last (lines.body ++ lines.handler) p.place order rising (in_first lines.body lines.handler p.place order at) in omega arith

-- ---- a block that is in a turn is one of the script's

pub turn_known : (script : Script) (past : List Event) (t c ran : ℕ) → length (machine script past).blocks ≡ length script.blocks → stage_at (machine script past).blocks t ≡ stages.Turn c ran → t < length script.blocks
turn_known script past t c ran count turn =
    let b = in_turn (machine script past).blocks t c ran turn in
    let within = get_within (machine script past).blocks t b.block b.is in
    omega (arith, count)

-- ---- the line at a task's place

pub record LineAt (script : Script) (t : ℕ) (p : PrivateTask) (order : Order) : Type 0 where
  pub lines : Block
  pub known : slice_get script.blocks t ≡ Some lines
  pub at : line_at lines p ≡ Some order

pub line_found : (script : Script) (t : ℕ) (p : PrivateTask) (order : Order) → line_of script t p ≡ Some order → LineAt script t p order
line_found script t p order is = go (slice_get script.blocks t) refl is
  where
    go : (o : Option Block) → slice_get script.blocks t ≡ o → line_in o p ≡ Some order → LineAt script t p order
    go None known at = absurd (cc)
    go (Some lines) known at = record { lines = lines; known = known; at = at }

-- ---- the lines of a handler

handler_from : (first : Order) (orders : List Order) (i : ℕ) (order : Order) → is_handler_from first orders ≡ true → slice_get (first ∷ orders) i ≡ Some order → is_return order.command ≡ false → slice_get (first ∷ orders) (suc i) ≡ None → ⊥
handler_from first [] zero order returns at stays none = let same : first ≡ order = cc in let no : true ≡ false = sym returns ∙ ap (λ (o : Order). is_return o.command) same ∙ stays in absurd (cc no)
handler_from first [] (suc i) order returns at stays none = absurd (cc)
handler_from first (next ∷ orders) zero order returns at stays none = absurd (cc)
handler_from first (next ∷ orders) (suc i) order returns at stays none = handler_from next orders i order (and_parts (not (is_outer first.command) && not (is_return first.command)) (is_handler_from next orders) returns).1 at stays none

handler_follows : (handler : List Order) (i : ℕ) (order : Order) → is_handler handler ≡ true → slice_get handler i ≡ Some order → is_return order.command ≡ false → slice_get handler (i + 1) ≡ None → ⊥
handler_follows [] i order returns at stays none = absurd (cc)
handler_follows (first ∷ orders) i order returns at stays none =
    let next : i + 1 ≡ suc i = omega arith in
    handler_from first orders i order returns at stays (subst (λ (n : ℕ). slice_get (first ∷ orders) n ≡ None) next none)

-- A line after which a handler runs is one of it, and no return.
record StaysInside (p : PrivateTask) (command : Command) : Type 0 where
  inside : p.handling ≡ true
  stays : is_return command ≡ false
  place : (local_after p command).place ≡ p.place + 1

over_return : (p : PrivateTask) (h : Bool) → p.handling ≡ h → (r : Return) → return_cause r ≡ None → (if h then after_return p r else next_line p).handling ≡ true → ⊥
over_return p true is (Full file) whole on = cc on
over_return p true is (LegacyOnly file) whole on = cc on
over_return p true is (Refused error) whole on = cc whole
over_return p false is r whole on = let no : true ≡ false = sym on ∙ is in cc no

stays_inside : (p : PrivateTask) (command : Command) → refusal p command ≡ None → (local_after p command).handling ≡ true → StaysInside p command
stays_inside p (commands.Perm feature) whole on =
    let same = asked_same (feature_error p.file.rows feature) p in
    record { inside = sym same.1 ∙ on; stays = refl; place = ap (λ (n : ℕ). n + 1) same.0 }
stays_inside p commands.Sigreturn whole on = absurd (over_return p p.handling refl (return_of p) whole on)
stays_inside p other whole on = record { inside = on; stays = refl; place = refl }

-- The handler of a block in a turn has a line at the task's place, since the block has a next event.
handler_due : (m : Machine) (t c ran : ℕ) (block : Option BlockState) (lines : Option Block) (event : Event) → block_event m t block lines ≡ Some event → stage_of block ≡ stages.Turn c ran
    → (task_of_state block).handling ≡ true → line_in lines (task_of_state block) ≡ None → ⊥
handler_due m t c ran None lines event is stage on none = cc is
handler_due m t c ran (Some block) None event is stage on none = cc is
handler_due m t c ran (Some block) (Some lines) event is stage on none =
    let placed : place_event m t ran block.task (line_at lines block.task) ≡ Some event = rw stage at is in
    let over : place_event m t ran block.task None ≡ Some event = ap (place_event m t ran block.task) (sym none) ∙ placed in
    let no : None ≡ Some event = sym (ap (λ (b : Bool). if nat_lt ran m.script.quantum && not b then Some (events.End t) else None) on ∙ ap (λ (b : Bool). if b then Some (events.End t) else None) (and_no (nat_lt ran m.script.quantum))) ∙ over in
    cc no

pub handler_stands : (script : Script) (past : List Event) (t c ran : ℕ) → ((event : Event) × (due (machine script past) t ≡ Some event)) → stage_at (machine script past).blocks t ≡ stages.Turn c ran
    → (task_of_state (slice_get (machine script past).blocks t)).handling ≡ true → line_of script t (task_of_state (slice_get (machine script past).blocks t)) ≡ None → ⊥
handler_stands script past t c ran next stage on none =
    handler_due (machine script past) t c ran (slice_get (machine script past).blocks t) (slice_get (machine script past).script.blocks t) next.0 next.1 stage on
    (ap (λ (s : Script). line_of s t (task_of_state (slice_get (machine script past).blocks t))) (script_stays script past) ∙ none)

-- ---- the line at a task's place

kernel_body : (kind : BlockKind) (body handler : List Order) → fits_kind kind body handler ≡ true → is_user_kind kind ≡ false → list_all (λ (order : Order). is_kernel_command order.command) body ≡ true
kernel_body kinds.Task body handler fits user = absurd (cc)
kernel_body kinds.Child body handler fits user = absurd (cc)
kernel_body kinds.Kthread body handler fits user = (and_parts (list_all (λ (order : Order). is_kernel_command order.command) body) (length handler == 0) fits).0

-- what holds of all lines of a block holds of the one at the task's place
line_all : (P : Order → Type 0) (lines : Block) (p : PrivateTask) (order : Order) → AllByRecursion P lines.body → AllByRecursion P lines.handler → line_at lines p ≡ Some order → P order
line_all P lines p order body handler at = by_lines p.handling at
  where
    by_lines : (h : Bool) → slice_get (if h then lines.handler else lines.body) p.place ≡ Some order → P order
    by_lines true at = all_at P lines.handler p.place order handler at
    by_lines false at = all_at P lines.body p.place order body at

module _ (script : Script) (valid : IsValid script) (t : ℕ) (p : PrivateTask) (order : Order) (is : line_of script t p ≡ Some order) where
  fits : IsBody script.layout (line_found script t p order is).lines
  fits = all_at (λ (block : Block). IsBody script.layout block) script.blocks t (line_found script t p order is).lines valid.bodies (line_found script t p order is).known

  pub known_line : IsCommand script.layout order.command
  known_line = line_all (λ (o : Order). IsCommand script.layout o.command) (line_found script t p order is).lines p order fits.body fits.handler (line_found script t p order is).at

  pub kernel_line : p.handling ≡ false → is_user script t ≡ false → is_kernel_command order.command ≡ true
  kernel_line outside kernel =
      let user : is_user_kind (line_found script t p order is).lines.kind ≡ false = rw (line_found script t p order is).known at kernel in
      let at = sym (ap (λ (h : Bool). slice_get (if h then (line_found script t p order is).lines.handler else (line_found script t p order is).lines.body) p.place) outside) ∙ (line_found script t p order is).at in
      list_at (λ (o : Order). is_kernel_command o.command) (line_found script t p order is).lines.body p.place order (kernel_body (line_found script t p order is).lines.kind (line_found script t p order is).lines.body (line_found script t p order is).lines.handler fits.kind user) at

  pub place_fits : p.place + 1 < 2 ^ 32
  place_fits =
      let rising = block_rising 0 script.blocks t (line_found script t p order is).lines valid.rising (line_found script t p order is).known in
      let high = low_place rising.0 (line_found script t p order is).lines p order rising.1 (line_found script t p order is).at in
      let small : order.number < 2 ^ 32 = order.in_range in
      omega arith

  -- While a handler runs, a line follows each of its lines but the return.
  pub line_follows : refusal p order.command ≡ None → (local_after p order.command).handling ≡ true → line_of script t (local_after p order.command) ≡ None → ⊥
  line_follows whole inside none =
      let moved = stays_inside p order.command whole inside in
      let at = sym (ap (λ (h : Bool). slice_get (if h then (line_found script t p order is).lines.handler else (line_found script t p order is).lines.body) p.place) moved.inside) ∙ (line_found script t p order is).at in
      let last : line_in (Some (line_found script t p order is).lines) (local_after p order.command) ≡ None = rw (line_found script t p order is).known at none in
      let next : slice_get (line_found script t p order is).lines.handler (local_after p order.command).place ≡ None = rw inside at last in
      handler_follows (line_found script t p order is).lines.handler p.place order fits.returns at moved.stays (ap (slice_get (line_found script t p order is).lines.handler) (sym moved.place) ∙ next)
