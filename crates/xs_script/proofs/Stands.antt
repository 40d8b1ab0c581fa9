-- What the stands among blocks tell of the lines that lead there: whether they are in a handler, and that no command is
-- beyond its limits.
use Rattle.std.proofs.Common.{◌≡◌, ℕ, Bool, true, false, List, [], ◌∷◌, ◌++◌, length, Option, Some, None, Ok, Err, refl, sym, ◌∙◌, ap}
use Rattle.std.specs.Prelude.{bytes_eq, nat_le, if◌then◌else◌}
use Rattle.std.specs.List.{AllByRecursion, list_any}
use Rattle.xs_model.specs.declared.script.BlockKind.{BlockKind}
use Rattle.xs_model.specs.declared.script.Block.{Block}
use Rattle.xs_model.specs.declared.script.Command.{Command}
use Rattle.xs_model.specs.Script.{is_return}
use Rattle.xs_script.specs.declared.block_part.BlockPart.{BlockPart}
use Rattle.xs_script.specs.declared.block_part.BlockPart.TheVariants as places
use Rattle.xs_script.specs.declared.line.Line.{Line}
use Rattle.xs_script.specs.declared.line.Line.TheVariants as lines
use Rattle.xs_script.specs.declared.begun.Tail.{Tail}
use Rattle.xs_script.specs.declared.begun.Tail.TheVariants as tails
use Rattle.xs_script.specs.declared.begun.Begun.{Begun}
use Rattle.xs_script.specs.declared.refusal.Kind.TheVariants.{BadLine, Limit, Repeated}
use Rattle.xs_script.specs.declared.refusal.LimitName.{LimitName}
use Rattle.xs_script.specs.declared.refusal.LimitName.TheVariants as limits
use Rattle.xs_script.specs.LineOrder.{Stand, AtVersion, AtMachine, AtRow, AtCpus, AtQuantum, AtLarge, AtSched, AtBlock, InBlock, may_have, may_handle, may_close, command_limit, limit_fault, part_after, after_order, next, Leads}
use Rattle.xs_script.specs.Before.{in_handler, in_handler_after}
use Rattle.xs_script.specs.Body.{tail_part, tail_inside, begun_stand, begun_inside}
use Rattle.xs_script.proofs.WholeScripts.{IsAmongBlocks, among_step}

-- a command is within its limits
abbrev pub HasNoLimit : Line → Type 0
HasNoLimit (lines.Order command) = command_limit command ≡ None
HasNoLimit other = Unit {0}

no_limit : (may : Bool) (limit : Option LimitName) (stand mid : Stand) → after_order (if may then limit_fault limit else Some BadLine) stand ≡ Ok mid → (may ≡ true) × (limit ≡ None) × (stand ≡ mid)
no_limit true None stand mid h = (refl, refl, cc h)
no_limit true (Some name) stand mid h = absurd (cc h)
no_limit false limit stand mid h = absurd (cc h)

-- what a command that leads on tells
pub order_parts : (part : BlockPart) (kind : BlockKind) (names : List (List ℕ)) (command : Command) (mid : Stand) → next (InBlock part kind names) (lines.Order command) ≡ Ok mid → (may_have part kind command ≡ true) × (command_limit command ≡ None) × (InBlock (part_after part command) kind names ≡ mid)
order_parts part kind names command mid h = no_limit (may_have part kind command) (command_limit command) (InBlock (part_after part command) kind names) mid h

-- a line that leads on is within its limits
pub step_within : (stand mid : Stand) (l : Line) → next stand l ≡ Ok mid → HasNoLimit l
step_within AtVersion mid (lines.Order command) h = absurd (cc h)
step_within AtMachine mid (lines.Order command) h = absurd (cc h)
step_within (AtRow rows) mid (lines.Order command) h = absurd (cc h)
step_within AtCpus mid (lines.Order command) h = absurd (cc h)
step_within (AtQuantum cpus) mid (lines.Order command) h = absurd (cc h)
step_within (AtLarge cpus) mid (lines.Order command) h = absurd (cc h)
step_within (AtSched cpus count) mid (lines.Order command) h = absurd (cc h)
step_within (AtBlock names) mid (lines.Order command) h = absurd (cc h)
step_within (InBlock part kind names) mid (lines.Order command) h = (order_parts part kind names command mid h).1
step_within stand mid other h = tt

-- so are all lines that do
pub leads_within : (stand end : Stand) (ls : List Line) → Leads stand ls end → AllByRecursion HasNoLimit ls
leads_within stand end [] leads = tt
leads_within stand end (l ∷ ls) (mid, step, leads) = (step_within stand mid l step, leads_within mid end ls leads)

-- ---- in a handler

abbrev pub part_inside : BlockPart → Bool
part_inside places.Body = false
part_inside places.Handler = true
part_inside places.Returned = true

abbrev pub stand_inside : Stand → Bool
stand_inside AtVersion = false
stand_inside AtMachine = false
stand_inside (AtRow rows) = false
stand_inside AtCpus = false
stand_inside (AtQuantum cpus) = false
stand_inside (AtLarge cpus) = false
stand_inside (AtSched cpus count) = false
stand_inside (AtBlock names) = false
stand_inside (InBlock part kind names) = part_inside part

after_inside : (part : BlockPart) (command : Command) → part_inside (part_after part command) ≡ part_inside part
after_inside places.Body command = refl
after_inside places.Handler command = by_test (is_return command)
  where
    by_test : (t : Bool) → part_inside (if t then places.Returned else places.Handler) ≡ true
    by_test true = refl
    by_test false = refl
after_inside places.Returned command = refl

test_inside : (may : Bool) (stand mid : Stand) → (if may then Ok stand else Err BadLine) ≡ Ok mid → stand_inside mid ≡ stand_inside stand
test_inside true stand mid h = let is : stand ≡ mid = cc h in ap stand_inside (sym is)
test_inside false stand mid h = absurd (cc h)

begin_inside : (full repeated : Bool) (kind : BlockKind) (names : List (List ℕ)) (mid : Stand) → (if full then Err (Limit limits.Blocks) else if repeated then Err Repeated else Ok (InBlock places.Body kind names)) ≡ Ok mid → stand_inside mid ≡ false
begin_inside true repeated kind names mid h = absurd (cc h)
begin_inside false true kind names mid h = absurd (cc h)
begin_inside false false kind names mid h = let is : InBlock places.Body kind names ≡ mid = cc h in ap stand_inside (sym is)

-- A line leads into a handler, or out of one.
pub step_inside : (stand mid : Stand) (l : Line) → IsAmongBlocks stand → next stand l ≡ Ok mid → stand_inside mid ≡ in_handler (stand_inside stand) l
step_inside AtVersion mid l among h = absurd among
step_inside AtMachine mid l among h = absurd among
step_inside (AtRow rows) mid l among h = absurd among
step_inside AtCpus mid l among h = absurd among
step_inside (AtQuantum cpus) mid l among h = absurd among
step_inside (AtLarge cpus) mid l among h = absurd among
step_inside (AtSched cpus count) mid l among h = absurd among
step_inside (AtBlock names) mid (lines.Begin kind name) among h = begin_inside (nat_le 64 (length names)) (list_any (λ other. bytes_eq other name) names) kind (names ++ name ∷ []) mid h
step_inside (AtBlock names) mid l among h = absurd (cc h)
step_inside (InBlock part kind names) mid (lines.Order command) among h = ap stand_inside (sym (order_parts part kind names command mid h).2) ∙ after_inside part command
step_inside (InBlock part kind names) mid lines.Handler among h = test_inside (may_handle part kind) (InBlock places.Handler kind names) mid h
step_inside (InBlock part kind names) mid lines.End among h = test_inside (may_close part) (AtBlock names) mid h
step_inside (InBlock part kind names) mid l among h = absurd (cc h)

-- So do lines, one after another.
pub leads_inside : (stand end : Stand) (ls : List Line) → IsAmongBlocks stand → Leads stand ls end → stand_inside end ≡ in_handler_after (stand_inside stand) ls
leads_inside stand end [] among leads = ap stand_inside leads
leads_inside stand end (l ∷ ls) among (mid, step, leads) =
    leads_inside mid end ls (among_step stand mid l among step).1 leads ∙ ap (λ (t : Bool). in_handler_after t ls) (step_inside stand mid l among step)

tail_stands : (tail : Tail) → tail_inside tail ≡ part_inside (tail_part tail)
tail_stands tails.Body = refl
tail_stands (tails.Handler orders) = refl
tail_stands (tails.Returned orders) = refl

-- what a reader keeps of it
pub body_inside : (blocks : List Block) (begun : Option Begun) → begun_inside begun ≡ stand_inside (begun_stand blocks begun)
body_inside blocks None = refl
body_inside blocks (Some begun) = tail_stands begun.tail
