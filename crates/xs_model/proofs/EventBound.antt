-- No history has more events than the bound of its script, where one block at most waits for another.
use Rattle.std.proofs.Common.{◌≡◌, ℕ, zero, suc, ◌+◌, ◌*◌, ◌≤◌, Bool, true, false, not, ◌&&◌, List, [], ◌∷◌, map, length, refl, sym, ap, ◌∙◌, subst, arith}
use Rattle.std.proofs.lemmas.Bool.{and_parts, not-true, both_ways}
use Rattle.std.specs.Prelude.{Option, Some, slice_get}
use Rattle.std.specs.List.{AllByRecursion}
use Rattle.xs_base.specs.declared.component.Row.{Row}
use Rattle.xs_base.specs.declared.words.Signo.{Signo}
use Rattle.xs_base.specs.Task.{PrivateTask, root_task}
use Rattle.xs_model.specs.declared.script.BlockKind.{BlockKind}
use Rattle.xs_model.specs.declared.script.BlockKind.TheVariants.{Task, Child, Kthread}
use Rattle.xs_model.specs.declared.script.Command.{Command}
use Rattle.xs_model.specs.declared.script.Command.TheVariants as commands
use Rattle.xs_model.specs.declared.script.Block.{Block}
use Rattle.xs_model.specs.declared.script.Order.{Order}
use Rattle.xs_model.specs.declared.script.Script.{Script}
use Rattle.xs_model.specs.declared.event.Reply.{Reply}
use Rattle.xs_model.specs.declared.event.Event.{Event}
use Rattle.xs_model.specs.declared.event.Event.TheVariants.{Start, Local, Outer, Grow, Kill, End}
use Rattle.xs_model.specs.declared.stage.Stage.{Stage}
use Rattle.xs_model.specs.declared.stage.Stage.TheVariants.{Unborn, Ready, Turn, Stopped, Waiting, Ended}
use Rattle.xs_model.specs.Script.{is_outer, is_return, is_handler_from, is_handler, IsBody, IsValid, command_at}
use Rattle.xs_model.specs.Line.{line_at}
use Rattle.xs_model.specs.State.{BlockState, Machine, opening_stage, opening_block, changed}
use Rattle.xs_model.specs.Outer.{outer_reach, outer_own}
use Rattle.xs_model.specs.Due.{due}
use Rattle.xs_model.specs.Machine.{own, blocks_after, IsStep, machine, IsLegalPast}
use Rattle.xs_model.specs.Bound.{longest_handler, one_if_kill, kill_lines, all_kill_lines, body_lines, most_events}
use Rattle.xs_model.proofs.Bookkeeping.{weight, weights, running, work_by, total, budget, is_waiting, waiters, is_deed, deeds}
use Rattle.xs_model.proofs.LineNumbers.{AreLinesFound, lines_found}
use Rattle.xs_model.proofs.MachineShape.{many_blocks}
use Rattle.xs_model.proofs.DuePlaces.{due_inverse}
use Rattle.xs_model.proofs.DueOrders.{outer_at}
use Rattle.xs_model.proofs.LegalTurns.{machine_script}
use Rattle.xs_model.proofs.BlockSums.{OneWaits, fresh_most}
use Rattle.xs_model.proofs.StepCosts.{Pays, local_pays, grow_pays, end_pays, start_free}
use Rattle.xs_model.proofs.OuterCosts.{AtLine, outer_pays}
use Rattle.xs_model.proofs.FreshTurns.{starts_few}

-- ---- handlers are local

-- No line of a handler is outer.
abbrev pub AreHandlersLocal : Script → Type 0
AreHandlersLocal script = (t i : ℕ) (lines : Block) (order : Order) → slice_get script.blocks t ≡ Some lines → slice_get lines.handler i ≡ Some order → is_outer order.command ≡ false

-- a return is local
return_inner : (command : Command) → is_return command ≡ true → is_outer command ≡ false
return_inner commands.Sigreturn is = refl
return_inner other is = absurd (cc)

-- the lines of a handler from one on
handler_inner : (first : Order) (orders : List Order) → is_handler_from first orders ≡ true → (i : ℕ) (order : Order) → slice_get (first ∷ orders) i ≡ Some order → is_outer order.command ≡ false
handler_inner first [] is zero order at = let same : first ≡ order = cc in subst (λ (o : Order). is_outer o.command ≡ false) same (return_inner first.command is)
handler_inner first [] is (suc i) order at = absurd (cc)
handler_inner first (next ∷ orders) is zero order at =
    let same : first ≡ order = cc in
    let parts = and_parts (not (is_outer first.command) && not (is_return first.command)) (is_handler_from next orders) is in
    subst (λ (o : Order). is_outer o.command ≡ false) same (not-true (is_outer first.command) (and_parts (not (is_outer first.command)) (not (is_return first.command)) parts.0).0)
handler_inner first (next ∷ orders) is (suc i) order at =
    let parts = and_parts (not (is_outer first.command) && not (is_return first.command)) (is_handler_from next orders) is in
    handler_inner next orders parts.1 i order at

-- all lines of a handler
lines_inner : (handler : List Order) → is_handler handler ≡ true → (i : ℕ) (order : Order) → slice_get handler i ≡ Some order → is_outer order.command ≡ false
lines_inner [] is i order at = absurd (cc)
lines_inner (first ∷ orders) is i order at = handler_inner first orders is i order at

-- the block at a place is one of the blocks
pub body_at : (rows : List Row) (blocks : List Block) → AllByRecursion (λ (block : Block). IsBody rows block) blocks → (t : ℕ) (lines : Block) → slice_get blocks t ≡ Some lines → IsBody rows lines
body_at rows [] bodies t lines at = absurd (cc)
body_at rows (block ∷ blocks) bodies zero lines at = let same : block ≡ lines = cc in subst (λ (b : Block). IsBody rows b) same bodies.0
body_at rows (block ∷ blocks) bodies (suc t) lines at = body_at rows blocks bodies.1 t lines at

-- the handlers of a valid script are local
pub handlers_local : (script : Script) → IsValid script → AreHandlersLocal script
handlers_local script valid t i lines order known at = lines_inner lines.handler (body_at script.layout script.blocks valid.bodies t lines known).returns i order at

-- ---- each step pays

-- an outer line is one of the body
pub in_body : (lines : Block) (task : PrivateTask) (order : Order) → ((i : ℕ) → slice_get lines.handler i ≡ Some order → is_outer order.command ≡ false) → line_at lines task ≡ Some order → is_outer order.command ≡ true → (handling : Bool) → task.handling ≡ handling → (task.handling ≡ false) × (slice_get lines.body task.place ≡ Some order)
in_body lines task order inner here outer true is =
    let there : slice_get lines.handler task.place ≡ Some order = rw is at here in
    absurd (both_ways (is_outer order.command) (inner task.place there) outer)
in_body lines task order inner here outer false is =
    let there : slice_get lines.body task.place ≡ Some order = rw is at here in
    (is, there)

-- an outer event that is due
outer_step_pays : (h : ℕ) (m : Machine) (t line : ℕ) (reply : Reply) → AreLinesFound m.script → AreHandlersLocal m.script → OneWaits m.blocks t → due m t ≡ Some (Outer t line reply) → Pays h m.script.blocks m.blocks (blocks_after m.script (Outer t line reply) m.blocks)
outer_step_pays h m t line reply found inner alone is =
    let d = due_inverse m t (Outer t line reply) is in
    let o = outer_at m t d.ran t line reply d.lines d.state.task (line_at d.lines d.state.task) refl d.is in
    let command : command_at m.script t line ≡ Some o.order.command = ap (command_at m.script t) o.number ∙ found t d.lines d.state.task o.order d.known o.here in
    let a = in_body d.lines d.state.task o.order (λ i at. inner t i d.lines o.order d.known at) o.here o.outer d.state.task.handling refl in
    let at_line : AtLine m t o.order = record { state = d.state; lines = d.lines; cpu = d.cpu; ran = d.ran; at = d.at; known = d.known; stage = d.stage; outside = a.0; here = a.1 } in
    subst (λ (c : Option Command). Pays h m.script.blocks m.blocks (changed t (outer_own m.script c reply) (outer_reach m.script t c reply m.blocks))) (sym command) (outer_pays h m t o.order at_line alone o.order.command refl reply)

-- What is kept: the events besides Starts, and the work that is left, are within the budget and the waiters.
abbrev Spent : ℕ → ℕ → List Block → List BlockState → Type 0
Spent h n rest blocks = n + total h rest blocks ≤ budget h rest + waiters blocks

-- the payment of a step
pay_by : (h : ℕ) (m : Machine) (event : Event) → longest_handler m.script.blocks ≤ h → length m.blocks ≡ length m.script.blocks → AreLinesFound m.script → AreHandlersLocal m.script → ((t : ℕ) → OneWaits m.blocks t) → IsStep m event
    → (n : ℕ) → Spent h n m.script.blocks m.blocks → Spent h (is_deed event + n) m.script.blocks (blocks_after m.script event m.blocks)
pay_by h m (Start t cpu how signal) short many found inner alone step n spent = let free = start_free h m t cpu how signal short many step.is_due in let less = free.work in let same = free.waiters in omega arith
pay_by h m (Local t line reply) short many found inner alone step n spent = let pays : Pays h m.script.blocks m.blocks (blocks_after m.script (Local t line reply) m.blocks) = local_pays h m t line reply found step.is_due in omega arith
pay_by h m (Outer t line reply) short many found inner alone step n spent = let pays : Pays h m.script.blocks m.blocks (blocks_after m.script (Outer t line reply) m.blocks) = outer_step_pays h m t line reply found inner (alone t) step.is_due in omega arith
pay_by h m (Grow t) short many found inner alone step n spent = let pays : Pays h m.script.blocks m.blocks (blocks_after m.script (Grow t) m.blocks) = grow_pays h m t step.is_due in omega arith
pay_by h m (Kill t signo why) short many found inner alone step n spent = let pays : Pays h m.script.blocks m.blocks (blocks_after m.script (Kill t signo why) m.blocks) = end_pays h m t (Kill t signo why) (own m.script (Kill t signo why)) (λ b. refl) step.is_due (alone t) in omega arith
pay_by h m (End t) short many found inner alone step n spent = let pays : Pays h m.script.blocks m.blocks (blocks_after m.script (End t) m.blocks) = end_pays h m t (End t) (own m.script (End t)) (λ b. refl) step.is_due (alone t) in omega arith

-- ---- the opening

-- the work of a task that no fork has made
root_cost : (h : ℕ) (rows : List Row) (block : Block) → running h block (root_task rows) [] ≡ weights h block.body + 3
unfolding root_task
root_cost h rows block = omega arith

-- the same of a block of each kind
kind_cost : (h : ℕ) (rows : List Row) (block : Block) (kind : BlockKind) → work_by h block (root_task rows) [] (opening_stage kind) ≡ weights h block.body + 3
kind_cost h rows block Task = root_cost h rows block
kind_cost h rows block Child = refl
kind_cost h rows block Kthread = root_cost h rows block

-- the work of all blocks is the budget
opening_total : (h : ℕ) (rows : List Row) (blocks : List Block) → total h blocks (map (opening_block rows) blocks) ≡ budget h blocks
opening_total h rows [] = refl
opening_total h rows (block ∷ blocks) = let here = kind_cost h rows block block.kind in let rest = opening_total h rows blocks in omega arith

-- ---- a legal past

-- One block at most waits for another, after each legal past.
abbrev pub IsWaitedOnce : Script → Type 0
IsWaitedOnce script = (past : List Event) → IsLegalPast script past → (t : ℕ) → OneWaits (machine script past).blocks t

-- so it is after each legal past
spent : (script : Script) (past : List Event) → AreLinesFound script → AreHandlersLocal script → IsWaitedOnce script → IsLegalPast script past → Spent (longest_handler script.blocks) (deeds past) script.blocks (machine script past).blocks
spent script [] found inner alone legal = let first = opening_total (longest_handler script.blocks) script.layout script.blocks in omega arith
spent script (event ∷ past) found inner alone legal =
    let m = machine script past in
    let h = longest_handler script.blocks in
    let same : m.script ≡ script = machine_script script past in
    let more = spent script past found inner alone legal.0 in
    let step = pay_by h m event (subst (λ (s : Script). longest_handler s.blocks ≤ h) (sym same) (omega arith)) (many_blocks script past ∙ ap (λ (s : Script). length s.blocks) (sym same))
    (subst (λ (s : Script). AreLinesFound s) (sym same) found) (subst (λ (s : Script). AreHandlersLocal s) (sym same) inner) (alone past legal.0) legal.1 (deeds past)
    (subst (λ (s : Script). Spent h (deeds past) s.blocks m.blocks) (sym same) more) in
    subst (λ (s : Script). Spent h (is_deed event + deeds past) s.blocks (blocks_after m.script event m.blocks)) same step

-- a waiting block has work left
waiting_work : (h : ℕ) (lines : Block) (task : PrivateTask) (pending : List Signo) (s : Stage) → is_waiting s ≤ work_by h lines task pending s
waiting_work h lines task pending Unborn = omega arith
waiting_work h lines task pending Ready = omega arith
waiting_work h lines task pending (Turn cpu ran) = omega arith
waiting_work h lines task pending Stopped = omega arith
waiting_work h lines task pending (Waiting child) = omega arith
waiting_work h lines task pending Ended = omega arith

-- so do all that wait
waiters_work : (h : ℕ) (rest : List Block) (blocks : List BlockState) → length blocks ≡ length rest → waiters blocks ≤ total h rest blocks
waiters_work h [] [] many = omega arith
waiters_work h (lines ∷ rest) [] many = omega arith
waiters_work h [] (block ∷ blocks) many = absurd (omega arith)
waiters_work h (lines ∷ rest) (block ∷ blocks) many =
    let here = waiting_work h lines block.task block.pending block.stage in
    let tail = waiters_work h rest blocks (omega arith) in
    omega arith

-- ---- the budget is the bound's formula

-- a product of a sum
times_more : (a b h : ℕ) → (a + b) * h ≡ a * h + b * h
times_more a b h = grind arith

-- the weight of a line
weight_is : (h : ℕ) (command : Command) → weight h command ≡ 2 + one_if_kill command * h
weight_is h (commands.Kill name signo) = omega arith
weight_is h other = omega arith

-- the weights of lines
weights_are : (h : ℕ) (orders : List Order) → weights h orders ≡ 2 * length orders + kill_lines orders * h
weights_are h [] = omega arith
weights_are h (order ∷ orders) =
    let here = weight_is h order.command in
    let rest = weights_are h orders in
    let more = times_more (one_if_kill order.command) (kill_lines orders) h in
    omega arith

-- the budget of blocks
budget_is : (h : ℕ) (blocks : List Block) → budget h blocks ≡ 2 * body_lines blocks + all_kill_lines blocks * h + 3 * length blocks
budget_is h [] = omega arith
budget_is h (block ∷ blocks) =
    let here = weights_are h block.body in
    let rest = budget_is h blocks in
    let more = times_more (kill_lines block.body) (all_kill_lines blocks) h in
    omega arith

-- No legal past has more events than the bound.
pub within_bound : (script : Script) (past : List Event) → IsValid script → IsWaitedOnce script → IsLegalPast script past → length past ≤ most_events script
within_bound script past valid alone legal =
    let h = longest_handler script.blocks in
    let paid = spent script past (lines_found script valid) (handlers_local script valid) alone legal in
    let waits = waiters_work h script.blocks (machine script past).blocks (many_blocks script past) in
    let few = starts_few script past legal in
    let open_turns = fresh_most (machine script past).blocks in
    let many = many_blocks script past in
    let is = budget_is h script.blocks in
    omega arith
