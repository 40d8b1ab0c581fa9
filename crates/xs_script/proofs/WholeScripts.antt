-- A script and the lines that it was read from.
use Rattle.std.specs.Prelude.{bytes_eq, if◌then◌else◌}
use Rattle.std.proofs.Common.{Bool, false, nat_le, Option, Some, None, Ok, Err, ◌≡◌, ℕ, ◌+◌, ◌<◌, true, List, [], ◌∷◌, ◌++◌, length, map, refl, sym, ◌∙◌, ap, subst, arith, length-append}
use Rattle.std.proofs.lemmas.List.{length-map}
use Rattle.std.specs.List.{AllByRecursion, flat_map, list_any}
use Rattle.std.proofs.lemmas.List.{append_assoc, append-nil}
use Rattle.xs_base.specs.declared.component.Row.{Row}
use Rattle.xs_base.specs.Layout.{amx_rows, avx_rows}
use Rattle.xs_model.specs.declared.script.Named.{Named}
use Rattle.xs_model.specs.declared.script.Named.TheVariants.{Amx, Avx, Rows}
use Rattle.xs_model.specs.declared.script.BlockKind.{BlockKind}
use Rattle.xs_model.specs.declared.script.Order.{Order}
use Rattle.xs_model.specs.declared.script.Block.{Block}
use Rattle.xs_model.specs.declared.script.Script.{Script}
use Rattle.xs_model.specs.Script.{IsTableOf, AreDistinct}
use Rattle.xs_script.specs.declared.block_part.BlockPart.{BlockPart}
use Rattle.xs_script.specs.declared.block_part.BlockPart.TheVariants as places
use Rattle.xs_script.specs.declared.commands.Scope.{Scope}
use Rattle.xs_script.specs.declared.line.Line.{Line}
use Rattle.xs_script.specs.declared.line.Line.TheVariants as lines
use Rattle.xs_script.specs.declared.head.Stage.TheVariants as stages
use Rattle.xs_script.specs.declared.head.Head.{Head}
use Rattle.xs_script.specs.declared.refusal.ScriptError.{ScriptError}
use Rattle.xs_script.specs.declared.refusal.ScriptError.TheVariants as errors
use Rattle.xs_script.specs.Grammar.{lines_text, order_lines, block_lines, row_lines, head_lines, sched_lines, script_lines}
use Rattle.xs_script.specs.declared.refusal.Kind.{Kind}
use Rattle.xs_script.specs.declared.refusal.Kind.TheVariants.{BadLine, Limit, Repeated}
use Rattle.xs_script.specs.declared.refusal.LimitName.TheVariants.{Blocks}
use Rattle.xs_script.specs.LineOrder.{Stand, AtVersion, AtMachine, AtRow, AtCpus, AtQuantum, AtLarge, AtSched, AtBlock, InBlock, order_fault, part_after, may_handle, may_close, after_order, may_end, next, Leads}
use Rattle.xs_script.specs.Before.{in_handler_after, forks_of, earlier_after, Before, told, before_of}
use Rattle.xs_script.specs.Refusal.{Passes, rows_of_line, table_of, children_of, handled_of, scope_of, IsKnown, AreOutside, AreReaching, IsScriptOf, ByLine, ByCommand, Explains, CommandFails}
use Rattle.xs_script.specs.Front.{IsFront, ExplainsFrom}
use Rattle.xs_script.specs.Head.{IsHeadOf, lines_of_head, machine_lines}
use Rattle.xs_script.specs.Body.{names_of, AreBlocksOf, ByBlockLine, ByBlockCommand, ExplainsBlocks}
use Rattle.xs_script.specs.Schedule.{IsScheduleOf}
use Rattle.xs_script.specs.Outline.{AreWholeBlocks}
use Rattle.xs_script.proofs.BlockParts.{all_join, block_join, handler_all}
use Rattle.xs_script.proofs.Fronts.{front_join, rest_explains}
use Rattle.xs_script.proofs.ScheduleLines.{front_after, after_explains}
use Rattle.xs_script.proofs.Children.{child_names, handled_names, block_scope, blocks_children, blocks_handled, no_children, no_handled, no_inside, no_forks, front_outside, front_no_names}
use Rattle.xs_script.proofs.Reaching.{no_earlier, front_reaching}
use Rattle.xs_script.proofs.OneRefusal.{one_lines}

-- ---- the head

-- the lines of a whole head are those of a script with its parts
pub whole_lines : (head : Head) (script : Script) → head.stage ≡ stages.Sched → script.machine ≡ head.machine → script.layout ≡ head.layout → script.cpus ≡ head.cpus → script.quantum ≡ head.quantum → script.large ≡ head.large → lines_of_head head ≡ head_lines script
whole_lines head script whole machine layout one quantum large =
    rw (whole, machine, layout, one, quantum, large) (
    append_assoc (machine_lines head.machine head.layout ++ lines.Cpus head.cpus ∷ []) (lines.Quantum head.quantum ∷ []) (lines.Large head.large ∷ [])
    ∙ append_assoc (machine_lines head.machine head.layout) (lines.Cpus head.cpus ∷ []) (lines.Quantum head.quantum ∷ lines.Large head.large ∷ []))

rows_of_rows : (rows : List Row) (ls : List Line) → table_of (map lines.Row rows ++ ls) ≡ rows ++ table_of ls
rows_of_rows [] ls = refl
rows_of_rows (r ∷ rows) ls = ap (λ (rs : List Row). r ∷ rs) (rows_of_rows rows ls)

-- the table of a machine's lines, and of lines without rows after them
pub table_of_head : (machine : Named) (layout : List Row) (ls : List Line) → IsTableOf machine layout → table_of ls ≡ [] → table_of (lines.Version ∷ lines.Machine machine ∷ (row_lines machine layout ++ ls)) ≡ layout
table_of_head Amx layout ls is none = rw none (append-nil amx_rows ∙ sym is)
table_of_head Avx layout ls is none = rw none (append-nil avx_rows ∙ sym is)
table_of_head Rows layout ls is none = rows_of_rows layout ls ∙ ap (λ (rs : List Row). layout ++ rs) none ∙ append-nil layout

-- lines without rows
abbrev pub HasNoRows : List Line → Type 0
HasNoRows ls = AllByRecursion (λ l. rows_of_line l ≡ []) ls

pub no_rows_table : (ls : List Line) → HasNoRows ls → table_of ls ≡ []
no_rows_table [] h = refl
no_rows_table (l ∷ ls) h = rw h.0 (no_rows_table ls h.1)

orders_no_rows : (orders : List Order) → HasNoRows (order_lines orders)
orders_no_rows [] = tt
orders_no_rows (o ∷ orders) = (refl, orders_no_rows orders)

pub blocks_no_rows : (blocks : List Block) → HasNoRows (flat_map block_lines blocks)
blocks_no_rows [] = tt
blocks_no_rows (b ∷ blocks) =
    block_join (λ l. rows_of_line l ≡ []) b (flat_map block_lines blocks)
    (record { begins = refl; body = orders_no_rows b.body; handler = handler_all (λ l. rows_of_line l ≡ []) b.handler refl (orders_no_rows b.handler); ends = refl })
    (blocks_no_rows blocks)

-- ---- what the first pass leaves

abbrev pub script_of : Head → List ℕ → List Block → Script
script_of head sched blocks = record { machine = head.machine; layout = head.layout; cpus = head.cpus; quantum = head.quantum; large = head.large; sched = sched; blocks = blocks }

-- the lines of a schedule have no rows either
pub sched_no_rows : (groups : List (List ℕ)) (ls : List Line) → HasNoRows ls → HasNoRows (sched_lines groups ++ ls)
sched_no_rows [] ls h = h
sched_no_rows (g ∷ groups) ls h = (refl, sched_no_rows groups ls h)

pub may_end_some : (blocks : List Block) → 0 < length blocks → may_end (AtBlock (names_of blocks)) ≡ true
may_end_some [] h = absurd (omega arith)
may_end_some (b ∷ blocks) h = refl

pub table_of_lines : (script : Script) (later : List Line) → IsTableOf script.machine script.layout → table_of later ≡ [] → table_of (head_lines script ++ later) ≡ script.layout
table_of_lines script later is none =
    let numbers = lines.Cpus script.cpus ∷ lines.Quantum script.quantum ∷ lines.Large script.large ∷ [] in
    ap (λ (ls : List Line). table_of (lines.Version ∷ lines.Machine script.machine ∷ ls)) (append_assoc (row_lines script.machine script.layout) numbers later)
    ∙ table_of_head script.machine script.layout (numbers ++ later) is none

-- the head, the schedule, and what comes after them
pub fronts_join : (text first rest left : List ℕ) (head : Head) (sched : List ℕ) (number later_number : ℕ) (ls : List Line) (end : Stand) → IsHeadOf text head number first → (s : IsScheduleOf head.cpus number first sched later_number rest) → IsFront (AtSched head.cpus (length sched)) rest ls end left → IsFront AtVersion text (lines_of_head head ++ (sched_lines s.groups ++ ls)) end left
fronts_join text first rest left head sched number later_number ls end h s front =
    front_join AtVersion (AtSched head.cpus 0) end text first left (lines_of_head head) (sched_lines s.groups ++ ls) h.front
    (front_join (AtSched head.cpus 0) (AtSched head.cpus (length sched)) end first rest left (sched_lines s.groups) ls s.front front)

pub some_lines : (blocks : List Block) → 0 < length blocks → 0 < length (flat_map block_lines blocks)
some_lines [] some = absurd (omega arith)
some_lines (b ∷ blocks) some = omega arith

-- ---- what nothing is wrong with

pub head_known : (scope : Scope) (script : Script) → AllByRecursion (IsKnown scope) (head_lines script)
head_known scope script =
    (tt, (tt, all_join (IsKnown scope) (row_lines script.machine script.layout) (lines.Cpus script.cpus ∷ lines.Quantum script.quantum ∷ lines.Large script.large ∷ []) (rows_known script.machine script.layout) (tt, (tt, (tt, tt)))))
  where
    all_rows : (layout : List Row) → AllByRecursion (IsKnown scope) (map lines.Row layout)
    all_rows [] = tt
    all_rows (r ∷ layout) = (tt, all_rows layout)

    rows_known : (machine : Named) (layout : List Row) → AllByRecursion (IsKnown scope) (row_lines machine layout)
    rows_known Amx layout = tt
    rows_known Avx layout = tt
    rows_known Rows layout = all_rows layout

-- the lines of a schedule have no registers
pub sched_known : (scope : Scope) (groups : List (List ℕ)) → AllByRecursion (IsKnown scope) (sched_lines groups)
sched_known scope [] = tt
sched_known scope (g ∷ groups) = (tt, sched_known scope groups)

-- what may be named by a table and names of blocks
abbrev scope_with : List Row → List (List ℕ) → List (List ℕ) → Scope
scope_with rows children handled = record { layout = rows; children = children; handled = handled }

pub same_scope : (rows table : List Row) (names children others handled : List (List ℕ)) → rows ≡ table → names ≡ children → others ≡ handled → scope_with rows names others ≡ scope_with table children handled
same_scope rows table names children others handled er en eo =
    ap (λ (rs : List Row). scope_with rs names others) er ∙ ap (λ (ns : List (List ℕ)). scope_with table ns others) en ∙ ap (λ (ns : List (List ℕ)). scope_with table children ns) eo

-- ---- what the first two passes leave

-- the lines of the script, its front and its blocks
pub parted_lines : (script : Script) (groups : List (List ℕ)) → script_lines script groups ≡ (head_lines script ++ sched_lines groups) ++ flat_map block_lines script.blocks
parted_lines script groups = sym (append_assoc (head_lines script) (sched_lines groups) (flat_map block_lines script.blocks))

-- what the commands of the script's lines may name
pub script_scope : (script : Script) (groups : List (List ℕ)) → IsTableOf script.machine script.layout → scope_of (script_lines script groups) ≡ block_scope script.layout script.blocks
script_scope script groups is =
    let bodies = flat_map block_lines script.blocks in
    let later = sched_lines groups ++ bodies in
    let before = head_lines script ++ sched_lines groups in
    let lined = script_lines script groups in
    let bare = front_no_names script groups in
    let table : table_of lined ≡ script.layout = table_of_lines script later is (no_rows_table later (sched_no_rows groups bodies (blocks_no_rows script.blocks))) in
    let children : children_of lined ≡ child_names script.blocks = ap children_of (parted_lines script groups) ∙ no_children before bodies bare ∙ blocks_children script.blocks in
    let handled : handled_of lined ≡ handled_names script.blocks = ap handled_of (parted_lines script groups) ∙ no_handled [] before bodies bare ∙ blocks_handled [] script.blocks in
    same_scope (table_of lined) script.layout (children_of lined) (child_names script.blocks) (handled_of lined) (handled_names script.blocks) table children handled

-- Where the first two passes find nothing, the text is the lines of the script.
pub read_script_of : (text first rest : List ℕ) (head : Head) (number later_number : ℕ) (sched : List ℕ) (children handled : List (List ℕ)) (blocks : List Block) → IsHeadOf text head number first → IsScheduleOf head.cpus number first sched later_number rest → AreWholeBlocks rest children handled → AreBlocksOf (record { layout = head.layout; children = children; handled = handled }) later_number rest blocks → IsScriptOf text (script_of head sched blocks)
read_script_of text first rest head number later_number sched children handled blocks h s k b =
    let script = script_of head sched blocks in
    let scope : Scope = record { layout = head.layout; children = children; handled = handled } in
    let later = flat_map block_lines blocks in
    let end = AtBlock (names_of blocks) in
    let before = head_lines script ++ sched_lines s.groups in
    let lined = script_lines script s.groups in
    let bare = front_no_names script s.groups in
    let front = front_after head.cpus (length sched) rest [] later end (some_lines blocks b.some) b.front in
    let joined = fronts_join text first rest [] head sched number later_number later end h s front in
    let lines_are : lines_of_head head ≡ head_lines script = whole_lines head script h.whole refl refl refl refl refl in
    let whole = subst (λ (ls : List Line). IsFront AtVersion text (ls ++ (sched_lines s.groups ++ later)) end []) lines_are joined in
    let one : k.lines ≡ later = one_lines k.lines later k.front.lines_fit b.front.lines_fit (sym (append-nil (lines_text k.lines)) ∙ sym k.front.parts ∙ b.front.parts ∙ append-nil (lines_text later)) in
    let names : children ≡ child_names blocks = k.children_are ∙ ap children_of one ∙ blocks_children blocks in
    let others : handled ≡ handled_names blocks = k.handled_are ∙ ap handled_of one ∙ blocks_handled [] blocks in
    let scope_is : scope ≡ scope_of lined = same_scope head.layout head.layout children (child_names blocks) handled (handled_names blocks) refl names others ∙ sym (script_scope script s.groups h.fits.machine) in
    let before_known = all_join (IsKnown scope) (head_lines script) (sched_lines s.groups) (head_known scope script) (sched_known scope s.groups) in
    let at : number ≡ length (head_lines script) + 1 = rw lines_are at h.next in
    let later_at : later_number ≡ length (head_lines script) + length s.groups + 1 = omega (arith, at, s.next) in
    record {
      groups = s.groups;
      grouped = s.grouped;
      table = h.fits.machine;
      numbered = rw later_at at b.numbered;
      passes = record { lines_fit = whole.lines_fit; spelled = whole.parts ∙ append-nil (lines_text lined); stand = end; leads = whole.leads; whole = may_end_some blocks b.some };
      known = record {
        each = subst (λ (x : Scope). AllByRecursion (IsKnown x) lined) scope_is (subst (AllByRecursion (IsKnown scope)) (sym (parted_lines script s.groups)) (all_join (IsKnown scope) before later before_known b.known.each));
        once = subst AreDistinct (sym (ap forks_of (parted_lines script s.groups) ∙ no_forks before later bare)) b.known.once;
        outside = subst (AreOutside false) (sym (parted_lines script s.groups)) (front_outside before later bare b.known.outside);
        reaching = subst (AreReaching []) (sym (parted_lines script s.groups)) (front_reaching [] before later bare b.known.reaching);
      };
    }

-- a refusal of the first pass
pub line_refuses : (text : List ℕ) (e : ScriptError) → ExplainsFrom AtVersion 1 text e → Explains text e
line_refuses text (errors.Refused line kind) r =
    let at : 1 + length r.done ≡ length r.done + 1 = omega arith in
    ByLine (record { done = r.done; rest = r.rest; stand = r.stand; lines_fit = r.front.lines_fit; parts = r.front.parts; leads = r.front.leads; fails = rw at at r.fails })
line_refuses text errors.Memory r = tt

-- a refusal of the schedule
pub sched_refuses : (text first : List ℕ) (head : Head) (number : ℕ) (e : ScriptError) → IsHeadOf text head number first → ExplainsFrom (AtSched head.cpus 0) number first e → Explains text e
sched_refuses text first head number e h r = line_refuses text e (rest_explains AtVersion (AtSched head.cpus 0) 1 number text first (lines_of_head head) e h.front (omega (arith, h.next)) r)

-- a refusal of the blocks
pub blocks_refuse : (text first rest : List ℕ) (head : Head) (number later_number : ℕ) (sched : List ℕ) (e : ScriptError) → IsHeadOf text head number first → IsScheduleOf head.cpus number first sched later_number rest → ExplainsFrom (AtBlock []) later_number rest e → Explains text e
blocks_refuse text first rest head number later_number sched e h s r =
    let long : length (sched_lines s.groups) ≡ length s.groups = length-map s.groups lines.Sched in
    sched_refuses text first head number e h
    (rest_explains (AtSched head.cpus 0) (AtSched head.cpus (length sched)) number later_number first rest (sched_lines s.groups) e s.front (omega (arith, long, s.next)) (after_explains head.cpus (length sched) later_number rest e s.over r))

-- ---- a refusal of the second pass

-- the stand is among blocks
abbrev pub IsAmongBlocks : Stand → Type 0
IsAmongBlocks AtVersion = ⊥
IsAmongBlocks AtMachine = ⊥
IsAmongBlocks (AtRow rows) = ⊥
IsAmongBlocks AtCpus = ⊥
IsAmongBlocks (AtQuantum cpus) = ⊥
IsAmongBlocks (AtLarge cpus) = ⊥
IsAmongBlocks (AtSched cpus count) = ⊥
IsAmongBlocks (AtBlock names) = Unit {0}
IsAmongBlocks (InBlock part kind names) = Unit {0}

begin_among : (full repeated : Bool) (kind : BlockKind) (names : List (List ℕ)) (mid : Stand) → (if full then Err (Limit Blocks) else if repeated then Err Repeated else Ok (InBlock places.Body kind names)) ≡ Ok mid → IsAmongBlocks mid
begin_among true repeated kind names mid h = absurd (cc h)
begin_among false true kind names mid h = absurd (cc h)
begin_among false false kind names mid h = let is : InBlock places.Body kind names ≡ mid = cc h in subst IsAmongBlocks is tt

order_among : (fault : Option Kind) (part : BlockPart) (kind : BlockKind) (names : List (List ℕ)) (mid : Stand) → after_order fault (InBlock part kind names) ≡ Ok mid → IsAmongBlocks mid
order_among None part kind names mid h = let is : InBlock part kind names ≡ mid = cc h in subst IsAmongBlocks is tt
order_among (Some why) part kind names mid h = absurd (cc h)

part_among : (may : Bool) (stand mid : Stand) → IsAmongBlocks stand → (if may then Ok stand else Err BadLine) ≡ Ok mid → IsAmongBlocks mid
part_among true stand mid among h = let is : stand ≡ mid = cc h in subst IsAmongBlocks is among
part_among false stand mid among h = absurd (cc h)

-- A line that leads on from there is no row, and leads to such a stand.
pub among_step : (stand mid : Stand) (l : Line) → IsAmongBlocks stand → next stand l ≡ Ok mid → (rows_of_line l ≡ []) × IsAmongBlocks mid
among_step AtVersion mid l among h = absurd among
among_step AtMachine mid l among h = absurd among
among_step (AtRow rows) mid l among h = absurd among
among_step AtCpus mid l among h = absurd among
among_step (AtQuantum cpus) mid l among h = absurd among
among_step (AtLarge cpus) mid l among h = absurd among
among_step (AtSched cpus count) mid l among h = absurd among
among_step (AtBlock names) mid (lines.Begin kind name) among h = (refl, begin_among (nat_le 64 (length names)) (list_any (λ other. bytes_eq other name) names) kind (names ++ name ∷ []) mid h)
among_step (AtBlock names) mid l among h = absurd (cc h)
among_step (InBlock part kind names) mid (lines.Order command) among h = (refl, order_among (order_fault part kind command) (part_after part command) kind names mid h)
among_step (InBlock part kind names) mid lines.Handler among h = (refl, part_among (may_handle part kind) (InBlock places.Handler kind names) mid tt h)
among_step (InBlock part kind names) mid lines.End among h = (refl, part_among (may_close part) (AtBlock names) mid tt h)
among_step (InBlock part kind names) mid l among h = absurd (cc h)

lead_bare : (stand end : Stand) (ls : List Line) → IsAmongBlocks stand → Leads stand ls end → HasNoRows ls
lead_bare stand end [] among h = tt
lead_bare stand end (l ∷ ls) among (mid, leads, rest) =
    let step = among_step stand mid l among leads in
    (step.0, lead_bare mid end ls step.1 rest)

-- A refusal of the blocks is one of the text.
pub outline_refuses : (text first rest : List ℕ) (head : Head) (number later_number : ℕ) (sched : List ℕ) (children handled : List (List ℕ)) (e : ScriptError) → IsHeadOf text head number first → IsScheduleOf head.cpus number first sched later_number rest → ExplainsBlocks (record { layout = head.layout; children = children; handled = handled }) later_number rest e → Explains text e
outline_refuses text first rest head number later_number sched children handled (errors.Refused line kind) h s (ByBlockLine r) = blocks_refuse text first rest head number later_number sched (errors.Refused line kind) h s r
outline_refuses text first rest head number later_number sched children handled (errors.Refused line kind) h s (ByBlockCommand ls stand front whole names others f) =
    let script = script_of head sched [] in
    let rows = head.layout in
    let scope : Scope = record { layout = rows; children = children; handled = handled } in
    let before = head_lines script ++ sched_lines s.groups in
    let all = (before ++ f.done) ++ lines.Order f.command ∷ f.later in
    let same : before ++ ls ≡ all = ap (λ (xs : List Line). before ++ xs) f.split ∙ sym (append_assoc before f.done (lines.Order f.command ∷ f.later)) in
    let lines_are : lines_of_head head ≡ head_lines script = whole_lines head script h.whole refl refl refl refl refl in
    let some : 0 < length ls = rw f.split (rw length-append (omega arith)) in
    let after = front_after head.cpus (length sched) rest [] ls stand some front in
    let parted : (lines_of_head head ++ (sched_lines s.groups ++ ls)) ≡ before ++ ls = ap (λ (xs : List Line). xs ++ (sched_lines s.groups ++ ls)) lines_are ∙ sym (append_assoc (head_lines script) (sched_lines s.groups) ls) in
    let joined = subst (λ (xs : List Line). IsFront AtVersion text xs stand []) parted (fronts_join text first rest [] head sched number later_number ls stand h s after) in
    let bare = sched_no_rows s.groups ls (lead_bare (AtBlock []) stand ls tt front.leads) in
    let table : table_of all ≡ rows =
    sym (ap table_of same) ∙ ap table_of (append_assoc (head_lines script) (sched_lines s.groups) ls)
    ∙ table_of_lines script (sched_lines s.groups ++ ls) h.fits.machine (no_rows_table (sched_lines s.groups ++ ls) bare) in
    let bare_names = front_no_names script s.groups in
    let child_lines : children_of all ≡ children = sym (ap children_of same) ∙ no_children before ls bare_names ∙ sym names in
    let handler_lines : handled_of all ≡ handled = sym (ap handled_of same) ∙ no_handled [] before ls bare_names ∙ sym others in
    let scope_is : scope_of all ≡ scope = same_scope (table_of all) rows (children_of all) children (handled_of all) handled table child_lines handler_lines in
    let inside : in_handler_after false (before ++ f.done) ≡ in_handler_after false f.done = no_inside false before f.done bare_names in
    let forks : forks_of (before ++ f.done) ≡ forks_of f.done = no_forks before f.done bare_names in
    let earlier : earlier_after [] (before ++ f.done) ≡ earlier_after [] f.done = no_earlier [] before f.done bare_names in
    let tells : before_of (before ++ f.done) ≡ before_of f.done = λ i. told (inside i) (forks i) (earlier i) in
    let before_known = all_join (IsKnown scope) (head_lines script) (sched_lines s.groups) (head_known scope script) (sched_known scope s.groups) in
    let long : length (before ++ f.done) ≡ length before + length f.done = length-append before f.done in
    let parts : length before ≡ length (head_lines script) + length (sched_lines s.groups) = length-append (head_lines script) (sched_lines s.groups) in
    let heads : length (lines_of_head head) ≡ length (head_lines script) = ap length lines_are in
    let groups : length (sched_lines s.groups) ≡ length s.groups = length-map s.groups lines.Sched in
    ByCommand (record {
      done = before ++ f.done;
      command = f.command;
      later = f.later;
      passes = subst (λ (xs : List Line). Passes text xs) same (record {
        lines_fit = joined.lines_fit;
        spelled = joined.parts ∙ append-nil (lines_text (before ++ ls));
        stand = stand;
        leads = joined.leads;
        whole = whole;
      });
      known = record {
        each = subst (λ (x : Scope). AllByRecursion (IsKnown x) (before ++ f.done)) (sym scope_is) (all_join (IsKnown scope) before f.done before_known f.known.each);
        once = subst AreDistinct (sym forks) f.known.once;
        outside = front_outside before f.done bare_names f.known.outside;
        reaching = front_reaching [] before f.done bare_names f.known.reaching;
      };
      fails =
          subst (λ (x : Scope). CommandFails x (before_of (before ++ f.done)) f.command kind) (sym scope_is)
          (subst (λ (x : Before). CommandFails scope x f.command kind) (sym tells) f.fails);
      number_is = omega (arith, h.next, s.next, f.number_is, long, parts, heads, groups);
    })
outline_refuses text first rest head number later_number sched children handled errors.Memory h s e = tt
