-- Where outer lines and returns stand, and whom lines name. A kernel thread has no signal, and no handler that runs.
use Rattle.std.proofs.Common.{◌≡◌, ℕ, ◌<◌, ◌==◌, Bool, true, false, not, List, [], length, refl, sym, ap, ◌∙◌, subst, arith, ⊎_elim}
use Rattle.std.proofs.lemmas.Bool.{cases_Bool, both_ways, and_parts, not-true, ltb-true, eqb-true}
use Rattle.std.proofs.lemmas.Option.{slice_get_within}
use Rattle.std.specs.Prelude.{Option, Some, None, slice_get}
use Rattle.std.specs.List.{list_all}
use Rattle.xs_model.specs.declared.script.BlockKind.{BlockKind}
use Rattle.xs_model.specs.declared.script.BlockKind.TheVariants.{Task, Child, Kthread}
use Rattle.xs_model.specs.declared.script.Command.{Command}
use Rattle.xs_model.specs.declared.script.Command.TheVariants as commands
use Rattle.xs_model.specs.declared.script.Block.{Block}
use Rattle.xs_model.specs.declared.script.Order.{Order}
use Rattle.xs_model.specs.declared.script.Script.{Script}
use Rattle.xs_model.specs.Names.{block_of, is_child, has_handler, named_block, is_forked, NamesBlock}
use Rattle.xs_model.specs.Script.{is_outer, is_return, is_kernel_command, fits_kind, IsValid, block_named, is_user_kind, is_user_block, is_user}
use Rattle.xs_model.specs.Machine.{machine}
use Rattle.xs_model.specs.Laws.{OuterOutside, ReturnInside, OuterOfUser, NamedUser, ThreadsQuiet}
use Rattle.xs_model.proofs.MachineShape.{many_blocks}
use Rattle.xs_model.proofs.StepCosts.{lines_there}
use Rattle.xs_model.proofs.NameLaws.{block_by_name, AreChildren, line_named, forked_child}
use Rattle.xs_model.proofs.EventBound.{handlers_local, body_at, in_body}
use Rattle.xs_model.proofs.FitSteps.{fit_at, all_fit, tidy_of}
use Rattle.xs_model.proofs.Births.{all_true, user_by_line, child_there}

-- ---- where lines stand

-- an outer line stands in a body
pub outer_outside : OuterOutside
outer_outside script t lines task order valid known here outer = (in_body lines task order (λ i at. handlers_local script valid t i lines order known at) here outer task.handling refl).0

-- a return stands in a handler
pub return_inside : ReturnInside
return_inside script t lines task order valid known here returns = by_handling task.handling refl
  where
    by_handling : (b : Bool) → task.handling ≡ b → task.handling ≡ true
    by_handling true is = is
    by_handling false is =
        let there : slice_get lines.body task.place ≡ Some order = rw is at here in
        let inside = all_true (λ (o : Order). not (is_return o.command)) lines.body task.place order (body_at script.layout script.blocks valid.bodies t lines known).inside there in
        absurd (both_ways (is_return order.command) (not-true (is_return order.command) inside) returns)

-- a kernel thread has no outer line
outer_kernel : (command : Command) → is_outer command ≡ true → is_kernel_command command ≡ false
outer_kernel (commands.Ksec byte) outer = absurd (cc)
outer_kernel commands.Yield outer = absurd (cc)
outer_kernel other outer = refl

-- an outer line is of a user task
pub outer_of_user : OuterOfUser
outer_of_user script t lines task order valid known here outer =
    let body = in_body lines task order (λ i at. handlers_local script valid t i lines order known at) here outer task.handling refl in
    ap is_user_block known ∙ user_by_line lines.kind lines.body lines.handler task.place order (body_at script.layout script.blocks valid.bodies t lines known).kind body.1 (outer_kernel order.command outer)

-- ---- whom lines name

-- The name is that of a user task.
abbrev IsUserNamed : Script → List ℕ → Type 0
IsUserNamed script name = (block_named script name < length script.blocks) × (is_user script (block_named script name) ≡ true)

-- a child
child_named : (script : Script) (name : List ℕ) → is_child (block_of script.blocks name) ≡ true → IsUserNamed script name
child_named script name is =
    let c = child_there (block_of script.blocks name) is in
    let v = block_named script name in
    (slice_get_within script.blocks v c.0 (sym (block_by_name script name) ∙ c.1), ap is_user_block (sym (block_by_name script name)) ∙ c.2)

-- a kernel thread has no handler
thread_handler : (kind : BlockKind) (body handler : List Order) → fits_kind kind body handler ≡ true → is_user_kind kind ≡ false → length handler ≡ 0
thread_handler Task body handler fits thread = absurd (cc)
thread_handler Child body handler fits thread = absurd (cc)
thread_handler Kthread body handler fits thread = eqb-true (length handler) 0 (and_parts (list_all (λ (order : Order). is_kernel_command order.command) body) (length handler == 0) fits).1

-- who has a handler is a user task
handled_user : (kind : BlockKind) (body handler : List Order) → fits_kind kind body handler ≡ true → 0 < length handler → is_user_kind kind ≡ true
handled_user kind body handler fits some = ⊎_elim
    (λ (user : is_user_kind kind ≡ true). user)
    (λ (thread : is_user_kind kind ≡ false). let none = thread_handler kind body handler fits thread in absurd (omega arith))
    (cases_Bool (is_user_kind kind))

-- who has a handler is there
handled_there : (block : Option Block) → has_handler block ≡ true → (b : Block) × (block ≡ Some b) × (0 < length b.handler)
handled_there None is = absurd (cc)
handled_there (Some b) is = (b, refl, ltb-true 0 (length b.handler) is)

-- a block with a handler
handler_named : (script : Script) (name : List ℕ) → IsValid script → has_handler (block_of script.blocks name) ≡ true → IsUserNamed script name
handler_named script name valid handled =
    let other = handled_there (block_of script.blocks name) handled in
    let v = block_named script name in
    let there : slice_get script.blocks v ≡ Some other.0 = sym (block_by_name script name) ∙ other.1 in
    let user = handled_user other.0.kind other.0.body other.0.handler (body_at script.layout script.blocks valid.bodies v other.0 there).kind other.2 in
    (slice_get_within script.blocks v other.0 there, ap is_user_block there ∙ user)

-- the block that a command names
command_named : (script : Script) (before : List Order) (command : Command) (name : List ℕ) → IsValid script → NamesBlock script.blocks before command → AreChildren script.blocks before → named_block command ≡ Some name → IsUserNamed script name
command_named script before (commands.Fork child) name valid named children is = child_named script name (subst (λ (n : List ℕ). is_child (block_of script.blocks n) ≡ true) (cc) named)
command_named script before (commands.Kill other signo) name valid named children is = handler_named script name valid (subst (λ (n : List ℕ). has_handler (block_of script.blocks n) ≡ true) (cc) named)
command_named script before (commands.Wait child) name valid named children is = child_named script name (forked_child script.blocks before name children (subst (λ (n : List ℕ). is_forked before n ≡ true) (cc) named))
command_named script before (commands.Getregs child set) name valid named children is = child_named script name (forked_child script.blocks before name children (subst (λ (n : List ℕ). is_forked before n ≡ true) (cc) named.0))
command_named script before (commands.Setregs child set count) name valid named children is = child_named script name (forked_child script.blocks before name children (subst (λ (n : List ℕ). is_forked before n ≡ true) (cc) named.0))
command_named script before (commands.Cont child) name valid named children is = child_named script name (forked_child script.blocks before name children (subst (λ (n : List ℕ). is_forked before n ≡ true) (cc) named.0))
command_named script before other name valid named children is = absurd (cc)

-- a command that names a block is outer
named_outer : (command : Command) (name : List ℕ) → named_block command ≡ Some name → is_outer command ≡ true
named_outer (commands.Fork child) name is = refl
named_outer (commands.Kill other signo) name is = refl
named_outer (commands.Wait child) name is = refl
named_outer (commands.Getregs child set) name is = refl
named_outer (commands.Setregs child set count) name is = refl
named_outer (commands.Cont child) name is = refl
named_outer other name is = absurd (cc)

-- the block that a line names is a user task
pub named_user : NamedUser
named_user script t lines task order name valid known here is =
    let body = in_body lines task order (λ i at. handlers_local script valid t i lines order known at) here (named_outer order.command name is) task.handling refl in
    let named = line_named script t task.place lines order valid known body.1 in
    command_named script named.0 order.command name valid named.1 named.2 is

-- ---- kernel threads

-- a kernel thread has no signal, and no handler runs
pub threads_quiet : ThreadsQuiet
threads_quiet script past t block valid legal thread here =
    let m = machine script past in
    let l = lines_there script.blocks m.blocks t block (many_blocks script past) here in
    let fit = fit_at (slice_get script.blocks t) (slice_get m.blocks t) l.0 block l.1 here (all_fit script past (tidy_of script valid) legal t) in
    let kind : is_user_kind l.0.kind ≡ false = sym (ap is_user_block l.1) ∙ thread in
    let none = thread_handler l.0.kind l.0.body l.0.handler (body_at script.layout script.blocks valid.bodies t l.0 l.1).kind kind in (
      ⊎_elim (λ (quiet : block.pending ≡ []). quiet) (λ (some : 0 < length l.0.handler). absurd (omega arith)) fit.pending,
      ⊎_elim (λ (on : block.task.handling ≡ true). let within = fit.handler on in absurd (omega arith)) (λ (off : block.task.handling ≡ false). off) (cases_Bool block.task.handling),
    )
