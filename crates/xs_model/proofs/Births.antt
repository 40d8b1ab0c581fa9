-- A fork bears its child: each child is forked by one line, which its parent passes once.
use Rattle.std.proofs.Common.{◌≡◌, ℕ, zero, suc, ◌+◌, ◌<◌, ◌==◌, Bool, true, false, List, [], ◌∷◌, map, length, refl, sym, ap, ◌∙◌, subst, arith, ⊎_elim}
use Rattle.std.proofs.lemmas.Bool.{cases_Bool, both_ways, and_parts}
use Rattle.std.specs.Prelude.{Option, Some, None, if◌then◌else◌, slice_get}
use Rattle.std.specs.List.{list_all}
use Rattle.std.specs.Option.{option_map}
use Rattle.xs_base.specs.declared.component.Row.{Row}
use Rattle.xs_model.specs.declared.script.BlockKind.{BlockKind}
use Rattle.xs_model.specs.declared.script.BlockKind.TheVariants.{Task, Child, Kthread}
use Rattle.xs_model.specs.declared.script.Command.{Command}
use Rattle.xs_model.specs.declared.script.Command.TheVariants as commands
use Rattle.xs_model.specs.declared.script.Block.{Block}
use Rattle.xs_model.specs.declared.script.Order.{Order}
use Rattle.xs_model.specs.declared.script.Script.{Script}
use Rattle.xs_model.specs.declared.event.Reply.{Reply}
use Rattle.xs_model.specs.declared.event.Event.{Event}
use Rattle.xs_model.specs.declared.event.Event.TheVariants.{Outer}
use Rattle.xs_model.specs.declared.stage.Stage.TheVariants.{Unborn, Turn}
use Rattle.xs_model.specs.Names.{block_of, is_child_kind, is_child, NamesBlock}
use Rattle.xs_model.specs.Script.{is_outer, is_kernel_command, fits_kind, IsValid, block_named, command_at, is_user_kind, is_user_block}
use Rattle.xs_model.specs.Line.{line_at}
use Rattle.xs_model.specs.State.{BlockState, Machine, opening_stage, opening_block, stage_of, stage_at}
use Rattle.xs_model.specs.Outer.{born, outer_own}
use Rattle.xs_model.specs.Machine.{own, reach, blocks_after, IsStep, machine, IsLegalPast}
use Rattle.xs_model.specs.Laws.{ForkBears}
use Rattle.xs_model.proofs.LineNumbers.{AreLinesFound, lines_found}
use Rattle.xs_model.proofs.LegalTurns.{machine_script}
use Rattle.xs_model.proofs.MachineShape.{many_blocks}
use Rattle.xs_model.proofs.EventTurns.{changed_same}
use Rattle.xs_model.proofs.DuePlaces.{due_inverse}
use Rattle.xs_model.proofs.DueOrders.{outer_at}
use Rattle.xs_model.proofs.EventBound.{AreHandlersLocal, handlers_local, body_at, in_body}
use Rattle.xs_model.proofs.NameLaws.{block_by_name, one_name, line_named, has_fork, one_parent, body_distinct, one_line}
use Rattle.xs_model.proofs.Family.{is_born}
use Rattle.xs_model.proofs.BirthPlaces.{body_place, not_unborn, unborn_is, reach_born, step_onward}
use Rattle.xs_model.proofs.Bearing.{step_bears}

-- ---- a child that was born was forked by a line that its parent has passed

-- The line that forked block v, and its parent beyond it.
record PassedFork (script : Script) (blocks : List BlockState) (v : ℕ) : Type 0 where
  pub t : ℕ
  pub i : ℕ
  pub lines : Block
  pub order : Order
  pub name : List ℕ
  pub state : BlockState
  pub known : slice_get script.blocks t ≡ Some lines
  pub here : slice_get lines.body i ≡ Some order
  pub is : order.command ≡ commands.Fork name
  pub child : block_named script name ≡ v
  pub at : slice_get blocks t ≡ Some state
  pub born : is_born state.stage ≡ true
  pub passed : i < body_place state.task

-- So it is with all children.
abbrev AllPassed : Script → List BlockState → Type 0
AllPassed script blocks = (v : ℕ) → is_child (slice_get script.blocks v) ≡ true → is_born (stage_at blocks v) ≡ true → PassedFork script blocks v

-- a line that was passed stays so
still_passed : (m : Machine) (event : Event) (v : ℕ) → AreLinesFound m.script → IsStep m event → PassedFork m.script m.blocks v → PassedFork m.script (blocks_after m.script event m.blocks) v
still_passed m event v found step passed =
    let next = step_onward m event passed.t passed.state found step passed.at passed.born in
    let before = passed.passed in
    let further = next.2.place in
    record {
      t = passed.t;
      i = passed.i;
      lines = passed.lines;
      order = passed.order;
      name = passed.name;
      state = next.0;
      known = passed.known;
      here = passed.here;
      is = passed.is;
      child = passed.child;
      at = next.1;
      born = next.2.stage;
      passed = omega arith;
    }

-- the line of a fork is passed by it
fork_passed : (m : Machine) (t line : ℕ) (reply : Reply) (name : List ℕ) (v : ℕ) → AreLinesFound m.script → AreHandlersLocal m.script → IsStep m (Outer t line reply) → command_at m.script t line ≡ Some (commands.Fork name) → block_named m.script name ≡ v
    → PassedFork m.script (blocks_after m.script (Outer t line reply) m.blocks) v
fork_passed m t line reply name v found inner step command child =
    let d = due_inverse m t (Outer t line reply) step.is_due in
    let o = outer_at m t d.ran t line reply d.lines d.state.task (line_at d.lines d.state.task) refl d.is in
    let there : command_at m.script t line ≡ Some o.order.command = ap (command_at m.script t) o.number ∙ found t d.lines d.state.task o.order d.known o.here in
    let is : o.order.command ≡ commands.Fork name = cc in
    let body = in_body d.lines d.state.task o.order (λ i at. inner t i d.lines o.order d.known at) o.here o.outer d.state.task.handling refl in
    let mid = reach m.script (Outer t line reply) m.blocks in
    let still = reach_born m.script (Outer t line reply) m.blocks t d.state d.at (ap is_born d.stage) in
    let f = outer_own m.script (Some (commands.Fork name)) reply in
    let now : slice_get (blocks_after m.script (Outer t line reply) m.blocks) t ≡ Some (f still.0) =
    changed_same t (own m.script (Outer t line reply)) mid ∙ ap (option_map (own m.script (Outer t line reply))) still.1 ∙ ap (λ (c : Option Command). Some (outer_own m.script c reply still.0)) command in
    let outside : still.0.task.handling ≡ false = still.2.place.handling ∙ body.0 in
    let place : still.0.task.place ≡ d.state.task.place = still.2.place.place in
    let after : body_place (f still.0).task ≡ still.0.task.place + 1 = ap (λ (b : Bool). if b then still.0.task.back else still.0.task.place + 1) outside in
    record {
      t = t;
      i = d.state.task.place;
      lines = d.lines;
      order = o.order;
      name = name;
      state = f still.0;
      known = d.known;
      here = body.1;
      is = is;
      child = child;
      at = now;
      born = refl;
      passed = omega arith;
    }

-- each step keeps it
step_passed : (m : Machine) (event : Event) → AreLinesFound m.script → AreHandlersLocal m.script → IsStep m event → AllPassed m.script m.blocks → AllPassed m.script (blocks_after m.script event m.blocks)
step_passed m event found inner step all v is_child_there now = ⊎_elim
    (λ (born : is_born (stage_at m.blocks v) ≡ true). still_passed m event v found step (all v is_child_there born))
    (λ (unborn : is_born (stage_at m.blocks v) ≡ false).
    let fork = step_bears m event v step (unborn_is (stage_at m.blocks v) unborn) (not_unborn (stage_at (blocks_after m.script event m.blocks) v) now) in
    let there = fork_passed m fork.parent fork.line fork.reply fork.name v found inner (subst (λ (e : Event). IsStep m e) fork.is step) fork.command fork.child in
    subst (λ (e : Event). PassedFork m.script (blocks_after m.script e m.blocks) v) (sym fork.is) there)
    (cases_Bool (is_born (stage_at m.blocks v)))

-- a child opens unborn
child_opens : (rows : List Row) (blocks : List Block) (v : ℕ) → is_child (slice_get blocks v) ≡ true → is_born (stage_at (map (opening_block rows) blocks) v) ≡ false
child_opens rows [] v is = refl
child_opens rows (block ∷ blocks) zero is = by_kind block.kind is
  where
    by_kind : (kind : BlockKind) → is_child_kind kind ≡ true → is_born (opening_stage kind) ≡ false
    by_kind Task is = absurd (cc)
    by_kind Child is = refl
    by_kind Kthread is = absurd (cc)
child_opens rows (block ∷ blocks) (suc v) is = child_opens rows blocks v is

-- after each legal past
all_passed : (script : Script) (past : List Event) → IsValid script → IsLegalPast script past → AllPassed script (machine script past).blocks
all_passed script [] valid legal v is born = absurd (both_ways (is_born (stage_at (machine script []).blocks v)) (child_opens script.layout script.blocks v is) born)
all_passed script (event ∷ past) valid legal v is born =
    let m = machine script past in
    let same : m.script ≡ script = machine_script script past in
    let found : AreLinesFound m.script = subst AreLinesFound (sym same) (lines_found script valid) in
    let inner : AreHandlersLocal m.script = subst AreHandlersLocal (sym same) (handlers_local script valid) in
    let before : AllPassed m.script m.blocks = subst (λ (s : Script). AllPassed s m.blocks) (sym same) (all_passed script past valid legal.0) in
    let now : AllPassed script (blocks_after m.script event m.blocks) = subst (λ (s : Script). AllPassed s (blocks_after m.script event m.blocks)) same (step_passed m event found inner legal.1 before) in
    now v is born

-- ---- a fork bears

-- a block of the script has its state
state_there : (rest : List Block) (blocks : List BlockState) (t : ℕ) (lines : Block) → length blocks ≡ length rest → slice_get rest t ≡ Some lines → (state : BlockState) × (slice_get blocks t ≡ Some state)
state_there [] blocks t lines many at = absurd (cc)
state_there (l ∷ rest) [] t lines many at = absurd (omega arith)
state_there (l ∷ rest) (b ∷ blocks) zero lines many at = (b, refl)
state_there (l ∷ rest) (b ∷ blocks) (suc t) lines many at = state_there rest blocks t lines (omega arith) at

-- what all pass one passes
pub all_true : (test : Order → Bool) (orders : List Order) (i : ℕ) (order : Order) → list_all test orders ≡ true → slice_get orders i ≡ Some order → test order ≡ true
all_true test [] i order all at = absurd (cc)
all_true test (first ∷ orders) zero order all at = let same : first ≡ order = cc in ap test (sym same) ∙ (and_parts (test first) (list_all test orders) all).0
all_true test (first ∷ orders) (suc i) order all at = all_true test orders i order (and_parts (test first) (list_all test orders) all).1 at

-- a block with a line that no kernel thread has is a user task
pub user_by_line : (kind : BlockKind) (body handler : List Order) (i : ℕ) (order : Order) → fits_kind kind body handler ≡ true → slice_get body i ≡ Some order → is_kernel_command order.command ≡ false → is_user_kind kind ≡ true
user_by_line Task body handler i order fits at off = refl
user_by_line Child body handler i order fits at off = refl
user_by_line Kthread body handler i order fits at off =
    let inner = all_true (λ (order : Order). is_kernel_command order.command) body i order (and_parts (list_all (λ (order : Order). is_kernel_command order.command) body) (length handler == 0) fits).0 at in
    absurd (both_ways (is_kernel_command order.command) off inner)

-- a child is a block, and a user task
pub child_there : (block : Option Block) → is_child block ≡ true → (b : Block) × (block ≡ Some b) × (is_user_block block ≡ true)
child_there None is = absurd (cc)
child_there (Some b) is = (b, refl, by_kind b.kind is)
  where
    by_kind : (kind : BlockKind) → is_child_kind kind ≡ true → is_user_kind kind ≡ true
    by_kind Task is = absurd (cc)
    by_kind Child is = refl
    by_kind Kthread is = absurd (cc)

-- a fork names a child
fork_named : (blocks : List Block) (before : List Order) (command : Command) (name : List ℕ) → NamesBlock blocks before command → command ≡ commands.Fork name → is_child (block_of blocks name) ≡ true
fork_named blocks before command name named is = subst (λ (c : Command). NamesBlock blocks before c) is named

-- the child of a fork isn't born: the line that would have borne it is this one, and isn't passed
not_born_yet : (script : Script) (past : List Event) (t i : ℕ) (lines child : Block) (order : Order) (name : List ℕ) (block : BlockState) → IsValid script → IsLegalPast script past
    → slice_get script.blocks t ≡ Some lines → slice_get lines.body i ≡ Some order → order.command ≡ commands.Fork name → block_of script.blocks name ≡ Some child → is_child (Some child) ≡ true
    → slice_get (machine script past).blocks t ≡ Some block → body_place block.task ≡ i → is_born (stage_at (machine script past).blocks (block_named script name)) ≡ true → ⊥
not_born_yet script past t i lines child order name block valid legal known here is at kind state place born =
    let v = block_named script name in
    let there : slice_get script.blocks v ≡ Some child = sym (block_by_name script name) ∙ at in
    let p = all_passed script past valid legal v (ap is_child there ∙ kind) born in
    let names : p.name ≡ name = one_name script name p.name child at p.child in
    let second : p.order.command ≡ commands.Fork name = p.is ∙ ap commands.Fork names in
    let parents : t ≡ p.t = one_parent script.blocks t p.t lines p.lines name valid.forked known p.known (has_fork lines.body i order name here is) (has_fork p.lines.body p.i p.order name p.here second) in
    let lines_same : lines ≡ p.lines = let both : slice_get script.blocks t ≡ Some p.lines = ap (slice_get script.blocks) parents ∙ p.known in cc in
    let states : block ≡ p.state = let both : slice_get (machine script past).blocks t ≡ Some p.state = ap (slice_get (machine script past).blocks) parents ∙ p.at in cc in
    let here_too : slice_get lines.body p.i ≡ Some p.order = ap (λ (l : Block). slice_get l.body p.i) lines_same ∙ p.here in
    let places : i ≡ p.i = one_line lines.body i p.i order p.order name (body_distinct script.blocks t lines valid.forked known) here here_too is second in
    let passed : p.i < body_place block.task = subst (λ (b : BlockState). p.i < body_place b.task) (sym states) p.passed in
    omega arith

-- the law
pub fork_bears : ForkBears
fork_bears script past t name block order valid legal fork =
    let lines = fork.lines in
    let known = fork.turn.lines_are in
    let outer : is_outer order.command ≡ true = ap is_outer fork.is in
    let body = in_body lines block.task order (λ i at. handlers_local script valid t i lines order known at) fork.at outer block.task.handling refl in
    let i = block.task.place in
    let named = line_named script t i lines order valid known body.1 in
    let is_child_there = fork_named script.blocks named.0 order.command name named.1 fork.is in
    let c = child_there (block_of script.blocks name) is_child_there in
    let v = block_named script name in
    let there : slice_get script.blocks v ≡ Some c.0 = sym (block_by_name script name) ∙ c.1 in
    let s = state_there script.blocks (machine script past).blocks v c.0 (many_blocks script past) there in
    let place : body_place block.task ≡ i = ap (λ (b : Bool). if b then block.task.back else block.task.place) body.0 in
    let kind : is_child (Some c.0) ≡ true = ap is_child (sym c.1) ∙ is_child_there in
    let off : is_born s.0.stage ≡ false = ⊎_elim
    (λ (born : is_born s.0.stage ≡ true). absurd (not_born_yet script past t i lines c.0 order name block valid legal known body.1 fork.is c.1 kind fork.turn.state place (ap (λ (b : Option BlockState). is_born (stage_of b)) s.1 ∙ born)))
    (λ (unborn : is_born s.0.stage ≡ false). unborn)
    (cases_Bool (is_born s.0.stage)) in
    let unborn = unborn_is s.0.stage off in
    let turning = fork.turn.stage in
    let state = fork.turn.state in (
      s.0,
      record {
        here = s.1;
        unborn = unborn;
        apart = λ (same : t ≡ v). let both : slice_get (machine script past).blocks t ≡ Some s.0 = ap (slice_get (machine script past).blocks) same ∙ s.1 in let one : block ≡ s.0 = cc in let clash : Turn fork.cpu fork.ran ≡ Unborn = sym turning ∙ ap (λ (b : BlockState). b.stage) one ∙ unborn in cc;
        parent_user = ap is_user_block known ∙ user_by_line lines.kind lines.body lines.handler i order (body_at script.layout script.blocks valid.bodies t lines known).kind body.1 (ap is_kernel_command fork.is);
        child_user = ap is_user_block (sym (block_by_name script name)) ∙ c.2;
      },
    )
