-- The blocks that lines are which pass.
use Rattle.std.proofs.Common.{◌≡◌, ℕ, ◌+◌, ◌^◌, ◌<◌, ◌≤◌, Bool, true, false, not, ◌==◌, nat_le, List, [], ◌∷◌, ◌++◌, length, Ok, Err, inl, inr, refl, sym, ◌∙◌, ap, subst, arith, length-append}
use Rattle.std.specs.Prelude.{bytes_eq, if◌then◌else◌}
use Rattle.std.specs.List.{AllByRecursion, flat_map, list_any, list_all}
use Rattle.std.proofs.lemmas.Bool.{and_parts, false_from_ne_true}
use Rattle.std.proofs.lemmas.Bool.Decides.{nat_tests}
use Rattle.std.proofs.lemmas.List.{append_assoc, append-nil}
use Rattle.xs_model.specs.declared.script.BlockKind.{BlockKind}
use Rattle.xs_model.specs.declared.script.BlockKind.TheVariants as kinds
use Rattle.xs_model.specs.declared.script.Command.{Command}
use Rattle.xs_model.specs.declared.script.Command.TheVariants as commands
use Rattle.xs_model.specs.declared.script.Order.{Order}
use Rattle.xs_model.specs.declared.script.Block.{Block}
use Rattle.xs_model.specs.Script.{AreDistinct, AreNumbered, AreBlocksNumbered, handler_span, fits_kind, is_kernel_command, is_user_kind, is_outer, is_return, is_handler, is_handler_from}
use Rattle.xs_script.specs.declared.block_part.BlockPart.{BlockPart}
use Rattle.xs_script.specs.declared.block_part.BlockPart.TheVariants as places
use Rattle.xs_script.specs.declared.line.Line.{Line}
use Rattle.xs_script.specs.declared.line.Line.TheVariants as lines
use Rattle.xs_script.specs.declared.refusal.Kind.TheVariants.{BadLine, Limit, Repeated}
use Rattle.xs_script.specs.declared.refusal.LimitName.TheVariants as limits
use Rattle.xs_script.specs.Grammar.{order_lines, handler_lines, block_lines}
use Rattle.xs_script.specs.LineOrder.{Stand, AtVersion, AtMachine, AtRow, AtCpus, AtQuantum, AtLarge, AtSched, AtBlock, InBlock, may_end, may_have, may_handle, Leads}
use Rattle.xs_script.specs.Refusal.{AreOutside}
use Rattle.xs_script.specs.Body.{names_of}
use Rattle.xs_script.proofs.Decisions.{is_true}
use Rattle.xs_script.proofs.BlockParts.{block_row}
use Rattle.xs_script.proofs.BodyLines.{distinct_push}
use Rattle.xs_script.proofs.KnownLines.{IsOrdered}
use Rattle.xs_script.proofs.Stands.{stand_inside, order_parts}

-- Blocks that come after those with these names, to the end of the text.
pub record AreLater (names : List (List ℕ)) (blocks : List Block) (end : Stand) : Type 0 where
  pub ordered : AllByRecursion IsOrdered blocks
  pub distinct : AreDistinct names → AreDistinct (names ++ names_of blocks)
  pub few : length names ≤ 64 → length names + length blocks ≤ 64
  pub ends : end ≡ AtBlock (names ++ names_of blocks)

-- The lines are the rest of a block from a line of its body on, and blocks.
pub record IsBodyRest (kind : BlockKind) (names : List (List ℕ)) (ls : List Line) (end : Stand) (number : ℕ) : Type 0 where
  pub orders : List Order
  pub handler : List Order
  pub blocks : List Block
  pub split : ls ≡ order_lines orders ++ (handler_lines handler ++ lines.End ∷ flat_map block_lines blocks)
  pub numbered : AreNumbered number orders
  pub handled : AreNumbered (number + length orders + 1) handler
  pub later : AreBlocksNumbered (number + length orders + handler_span handler + 1) blocks
  pub fits : fits_kind kind orders handler ≡ true
  pub inside : list_all (λ (order : Order). not (is_return order.command)) orders ≡ true
  pub returns : is_handler handler ≡ true
  pub after : AreLater names blocks end

-- the same from a line of its handler on
pub record IsHandlerRest (names : List (List ℕ)) (ls : List Line) (end : Stand) (number : ℕ) : Type 0 where
  pub order : Order
  pub orders : List Order
  pub blocks : List Block
  pub split : ls ≡ order_lines (order ∷ orders) ++ lines.End ∷ flat_map block_lines blocks
  pub numbered : AreNumbered number (order ∷ orders)
  pub later : AreBlocksNumbered (number + length (order ∷ orders) + 1) blocks
  pub returns : is_handler_from order orders ≡ true
  pub after : AreLater names blocks end

-- and from its last line on
pub record IsEndRest (names : List (List ℕ)) (ls : List Line) (end : Stand) (number : ℕ) : Type 0 where
  pub blocks : List Block
  pub split : ls ≡ lines.End ∷ flat_map block_lines blocks
  pub later : AreBlocksNumbered (number + 1) blocks
  pub after : AreLater names blocks end

abbrev pub IsRest : BlockPart → BlockKind → List (List ℕ) → List Line → Stand → ℕ → Type 0
IsRest places.Body kind names ls end number = IsBodyRest kind names ls end number
IsRest places.Handler kind names ls end number = IsHandlerRest names ls end number
IsRest places.Returned kind names ls end number = IsEndRest names ls end number

-- the lines are blocks, or the rest of one and blocks
abbrev pub AreRead : Stand → List Line → Stand → ℕ → Type 0
AreRead AtVersion ls end number = Unit {0}
AreRead AtMachine ls end number = Unit {0}
AreRead (AtRow rows) ls end number = Unit {0}
AreRead AtCpus ls end number = Unit {0}
AreRead (AtQuantum cpus) ls end number = Unit {0}
AreRead (AtLarge cpus) ls end number = Unit {0}
AreRead (AtSched cpus count) ls end number = Unit {0}
AreRead (AtBlock names) ls end number = (blocks : List Block) × (ls ≡ flat_map block_lines blocks) × AreBlocksNumbered number blocks × AreLater names blocks end
AreRead (InBlock part kind names) ls end number = IsRest part kind names ls end number

-- what the first line of a block leads to, by its two tests
begin_parts : (full repeated : Bool) (kind : BlockKind) (names : List (List ℕ)) (mid : Stand) → (if full then Err (Limit limits.Blocks) else if repeated then Err Repeated else Ok (InBlock places.Body kind names)) ≡ Ok mid → (full ≡ false) × (repeated ≡ false) × (InBlock places.Body kind names ≡ mid)
begin_parts true repeated kind names mid h = absurd (cc h)
begin_parts false true kind names mid h = absurd (cc h)
begin_parts false false kind names mid h = (refl, refl, cc h)

-- what the first line of a handler leads to, by its test
handler_parts : (may : Bool) (stand mid : Stand) → (if may then Ok stand else Err BadLine) ≡ Ok mid → (may ≡ true) × (stand ≡ mid)
handler_parts true stand mid h = (refl, cc h)
handler_parts false stand mid h = absurd (cc h)

-- one order before others, where the kind of its block may have it
first_fits : (kind : BlockKind) (order : Order) (orders handler : List Order) → may_have places.Body kind order.command ≡ true → fits_kind kind orders handler ≡ true → fits_kind kind (order ∷ orders) handler ≡ true
first_fits kinds.Task order orders handler may h = refl
first_fits kinds.Child order orders handler may h = refl
first_fits kinds.Kthread order orders handler may h =
    let parts = and_parts (list_all (λ (o : Order). is_kernel_command o.command) orders) (length handler == 0) h in
    rw (may, parts.0, parts.1) refl

kernel_stays : (command : Command) → is_kernel_command command ≡ true → not (is_return command) ≡ true
kernel_stays (commands.Ksec byte) h = refl
kernel_stays commands.Yield h = refl
kernel_stays other h = absurd (cc h)

-- what may stand in a body is no return
body_stays : (kind : BlockKind) (command : Command) → may_have places.Body kind command ≡ true → not (is_return command) ≡ true
body_stays kinds.Task command may = may
body_stays kinds.Child command may = may
body_stays kinds.Kthread command may = kernel_stays command may

-- a user block may have any lines
user_fits : (kind : BlockKind) (orders handler : List Order) → is_user_kind kind ≡ true → fits_kind kind orders handler ≡ true
user_fits kinds.Task orders handler h = refl
user_fits kinds.Child orders handler h = refl
user_fits kinds.Kthread orders handler h = absurd (cc h)

-- a block of any kind may have no lines
none_fits : (kind : BlockKind) → fits_kind kind [] [] ≡ true
none_fits kinds.Task = refl
none_fits kinds.Child = refl
none_fits kinds.Kthread = refl

below_64 : (n : ℕ) → nat_le 64 n ≡ false → n < 64
below_64 n h = grind (arith, nat_tests)

no_block : (names : List (List ℕ)) (end : Stand) → end ≡ AtBlock names → AreLater names [] end
no_block names end h = record {
  ordered = tt;
  distinct = λ d. subst AreDistinct (sym (append-nil names)) d;
  few = λ few. omega arith;
  ends = h ∙ ap AtBlock (sym (append-nil names));
}

-- one block before others
block_first : (names : List (List ℕ)) (b : Block) (blocks : List Block) (end : Stand) → length names < 64 → list_any (λ other. bytes_eq other b.name) names ≡ false → IsOrdered b → AreLater (names ++ b.name ∷ []) blocks end → AreLater names (b ∷ blocks) end
block_first names b blocks end few new ordered h =
    let same : (names ++ b.name ∷ []) ++ names_of blocks ≡ names ++ b.name ∷ names_of blocks = append_assoc names (b.name ∷ []) (names_of blocks) in
    let long : length (names ++ b.name ∷ []) ≡ length names + 1 = length-append names (b.name ∷ []) in
    record {
      ordered = (ordered, h.ordered);
      distinct = λ d. subst AreDistinct same (h.distinct (distinct_push names b.name d new));
      few = λ f. let r = h.few (omega (arith, long)) in omega (arith, long, r);
      ends = h.ends ∙ ap AtBlock same;
    }

pub not_over : (stand end : Stand) → may_end stand ≡ false → end ≡ stand → may_end end ≡ true → ⊥
not_over stand end early e whole = cc (sym early ∙ sym (ap may_end e) ∙ whole)

-- an order that isn't the last one of its handler
handler_more : (order next : Order) (orders : List Order) → is_outer order.command ≡ false → is_return order.command ≡ false → is_handler_from next orders ≡ true → is_handler_from order (next ∷ orders) ≡ true
handler_more order next orders local stays more = rw (local, stays, more) refl

pub blocks_read : (stand : Stand) (ls : List Line) (end : Stand) (number : ℕ) → number + length ls < 2 ^ 32 → Leads stand ls end → AreOutside (stand_inside stand) ls → may_end end ≡ true → AreRead stand ls end number
blocks_read AtVersion ls end number room leads out whole = tt
blocks_read AtMachine ls end number room leads out whole = tt
blocks_read (AtRow rows) ls end number room leads out whole = tt
blocks_read AtCpus ls end number room leads out whole = tt
blocks_read (AtQuantum cpus) ls end number room leads out whole = tt
blocks_read (AtLarge cpus) ls end number room leads out whole = tt
blocks_read (AtSched cpus count) ls end number room leads out whole = tt
blocks_read (AtBlock names) [] end number room leads out whole = ([], refl, tt, no_block names end leads)
blocks_read (AtBlock names) (lines.Begin kind name ∷ ls) end number room (mid, step, leads) out whole =
    let parts = begin_parts (nat_le 64 (length names)) (list_any (λ other. bytes_eq other name) names) kind (names ++ name ∷ []) mid step in
    let r = blocks_read (InBlock places.Body kind (names ++ name ∷ [])) ls end (number + 1) (omega arith) (subst (λ (s : Stand). Leads s ls end) (sym parts.2) leads) out.1 whole in
    let block : Block = record { kind = kind; name = name; body = r.orders; handler = r.handler } in
    let ordered : IsOrdered block = record { kind = r.fits; inside = r.inside; returns = r.returns } in
    let handled : number + 1 + length r.orders + 1 ≡ number + length r.orders + 2 = omega arith in
    let at : number + 1 + length r.orders + handler_span r.handler + 1 ≡ number + length r.orders + handler_span r.handler + 2 = omega arith in (
      block ∷ r.blocks,
      ap (λ (xs : List Line). lines.Begin kind name ∷ xs) r.split ∙ sym (block_row block (flat_map block_lines r.blocks)),
      (r.numbered, subst (λ (n : ℕ). AreNumbered n r.handler) handled r.handled, subst (λ (n : ℕ). AreBlocksNumbered n r.blocks) at r.later),
      block_first names block r.blocks end (below_64 (length names) parts.0) parts.1 ordered r.after,
    )
blocks_read (AtBlock names) (l ∷ ls) end number room (mid, step, leads) out whole = absurd (cc step)
blocks_read (InBlock places.Body kind names) [] end number room leads out whole = absurd (not_over (InBlock places.Body kind names) end refl leads whole)
blocks_read (InBlock places.Body kind names) (lines.Order command ∷ ls) end number room (mid, step, leads) out whole =
    let parts = order_parts places.Body kind names command mid step in
    let r = blocks_read (InBlock places.Body kind names) ls end (number + 1) (omega arith) (subst (λ (s : Stand). Leads s ls end) (sym parts.2) leads) out.1 whole in
    let order : Order = record { number = number; command = command; in_range = omega arith } in
    let handled : number + 1 + length r.orders + 1 ≡ number + length (order ∷ r.orders) + 1 = omega arith in
    let at : number + 1 + length r.orders + handler_span r.handler + 1 ≡ number + length (order ∷ r.orders) + handler_span r.handler + 1 = omega arith in
    record {
      orders = order ∷ r.orders;
      handler = r.handler;
      blocks = r.blocks;
      split = ap (λ (xs : List Line). lines.Order command ∷ xs) r.split;
      numbered = (refl, r.numbered);
      handled = subst (λ (n : ℕ). AreNumbered n r.handler) handled r.handled;
      later = subst (λ (n : ℕ). AreBlocksNumbered n r.blocks) at r.later;
      fits = first_fits kind order r.orders r.handler parts.0 r.fits;
      inside = rw (body_stays kind command parts.0, r.inside) refl;
      returns = r.returns;
      after = r.after;
    }
blocks_read (InBlock places.Body kind names) (lines.Handler ∷ ls) end number room (mid, step, leads) out whole =
    let parts = handler_parts (may_handle places.Body kind) (InBlock places.Handler kind names) mid step in
    let r = blocks_read (InBlock places.Handler kind names) ls end (number + 1) (omega arith) (subst (λ (s : Stand). Leads s ls end) (sym parts.1) leads) out.1 whole in
    let handled : number + 1 ≡ number + 0 + 1 = omega arith in
    let at : number + 1 + length (r.order ∷ r.orders) + 1 ≡ number + 0 + handler_span (r.order ∷ r.orders) + 1 = omega arith in
    record {
      orders = [];
      handler = r.order ∷ r.orders;
      blocks = r.blocks;
      split = ap (λ (xs : List Line). lines.Handler ∷ xs) r.split;
      numbered = tt;
      handled = subst (λ (n : ℕ). AreNumbered n (r.order ∷ r.orders)) handled r.numbered;
      later = subst (λ (n : ℕ). AreBlocksNumbered n r.blocks) at r.later;
      fits = user_fits kind [] (r.order ∷ r.orders) parts.0;
      inside = refl;
      returns = r.returns;
      after = r.after;
    }
blocks_read (InBlock places.Body kind names) (lines.End ∷ ls) end number room (mid, step, leads) out whole =
    let same : AtBlock names ≡ mid = cc step in
    let (blocks, is, numbered, h) = blocks_read (AtBlock names) ls end (number + 1) (omega arith) (subst (λ (s : Stand). Leads s ls end) (sym same) leads) out.1 whole in
    let at : number + 1 ≡ number + 0 + 0 + 1 = omega arith in
    record {
      orders = [];
      handler = [];
      blocks = blocks;
      split = ap (λ (xs : List Line). lines.End ∷ xs) is;
      numbered = tt;
      handled = tt;
      later = subst (λ (n : ℕ). AreBlocksNumbered n blocks) at numbered;
      fits = none_fits kind;
      inside = refl;
      returns = refl;
      after = h;
    }
blocks_read (InBlock places.Body kind names) (l ∷ ls) end number room (mid, step, leads) out whole = absurd (cc step)
blocks_read (InBlock places.Handler kind names) [] end number room leads out whole = absurd (not_over (InBlock places.Handler kind names) end refl leads whole)
blocks_read (InBlock places.Handler kind names) (lines.Order command ∷ ls) end number room (mid, step, leads) out whole =
    let parts = order_parts places.Handler kind names command mid step in
    let order : Order = record { number = number; command = command; in_range = omega arith } in
    elim (is_true (is_return command)) [
      | inl t ↦
          let same : InBlock places.Returned kind names ≡ mid = ap (λ (b : Bool). InBlock (if b then places.Returned else places.Handler) kind names) (sym t) ∙ parts.2 in
          let r = blocks_read (InBlock places.Returned kind names) ls end (number + 1) (omega arith) (subst (λ (s : Stand). Leads s ls end) (sym same) leads) out.1 whole in
          let at : number + 1 + 1 ≡ number + length (order ∷ []) + 1 = omega arith in
          record {
            order = order;
            orders = [];
            blocks = r.blocks;
            split = ap (λ (xs : List Line). lines.Order command ∷ xs) r.split;
            numbered = (refl, tt);
            later = subst (λ (n : ℕ). AreBlocksNumbered n r.blocks) at r.later;
            returns = t;
            after = r.after;
          }
      | inr other ↦
          let stays = false_from_ne_true (is_return command) other in
          let same : InBlock places.Handler kind names ≡ mid = ap (λ (b : Bool). InBlock (if b then places.Returned else places.Handler) kind names) (sym stays) ∙ parts.2 in
          let r = blocks_read (InBlock places.Handler kind names) ls end (number + 1) (omega arith) (subst (λ (s : Stand). Leads s ls end) (sym same) leads) out.1 whole in
          let at : number + 1 + length (r.order ∷ r.orders) + 1 ≡ number + length (order ∷ r.order ∷ r.orders) + 1 = omega arith in
          record {
            order = order;
            orders = r.order ∷ r.orders;
            blocks = r.blocks;
            split = ap (λ (xs : List Line). lines.Order command ∷ xs) r.split;
            numbered = (refl, r.numbered);
            later = subst (λ (n : ℕ). AreBlocksNumbered n r.blocks) at r.later;
            returns = handler_more order r.order r.orders out.0 stays r.returns;
            after = r.after;
          }
    ]
blocks_read (InBlock places.Handler kind names) (l ∷ ls) end number room (mid, step, leads) out whole = absurd (cc step)
blocks_read (InBlock places.Returned kind names) [] end number room leads out whole = absurd (not_over (InBlock places.Returned kind names) end refl leads whole)
blocks_read (InBlock places.Returned kind names) (lines.End ∷ ls) end number room (mid, step, leads) out whole =
    let same : AtBlock names ≡ mid = cc step in
    let (blocks, is, numbered, h) = blocks_read (AtBlock names) ls end (number + 1) (omega arith) (subst (λ (s : Stand). Leads s ls end) (sym same) leads) out.1 whole in
    record { blocks = blocks; split = ap (λ (xs : List Line). lines.End ∷ xs) is; later = numbered; after = h }
blocks_read (InBlock places.Returned kind names) (l ∷ ls) end number room (mid, step, leads) out whole = absurd (cc step)
