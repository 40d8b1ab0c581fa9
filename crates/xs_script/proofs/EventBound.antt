-- The bytes of a text bound the lines of its blocks.
use Rattle.std.proofs.Common.{◌≡◌, ℕ, ◌+◌, ◌*◌, ◌≤◌, List, [], ◌∷◌, ◌++◌, length, ◌∙◌, ap, arith, length-append}
use Rattle.std.proofs.lemmas.Nat.{mul-le}
use Rattle.std.proofs.lemmas.List.{append-nil}
use Rattle.std.specs.List.{flat_map}
use Rattle.xs_model.specs.declared.script.Command.{Command}
use Rattle.xs_model.specs.declared.script.Command.TheVariants as commands
use Rattle.xs_model.specs.declared.script.Order.{Order}
use Rattle.xs_model.specs.declared.script.Block.{Block}
use Rattle.xs_model.specs.Script.{handler_span}
use Rattle.xs_model.specs.Bound.{longest_handler, one_if_kill, kill_lines, all_kill_lines, body_lines}
use Rattle.xs_script.specs.declared.line.Line.{Line}
use Rattle.xs_script.specs.ScriptLine.{line_text}
use Rattle.xs_script.specs.Grammar.{lines_text, block_lines}
use Rattle.xs_script.proofs.BlockParts.{length_block}
use Rattle.xs_script.proofs.Numbering.{span_long}

-- lines are no more than the bytes of their text
pub lines_short : (ls : List Line) → length ls ≤ length (lines_text ls)
lines_short [] = omega arith
lines_short (l ∷ ls) =
    let first : length (line_text l ++ 10 ∷ []) ≡ length (line_text l) + 1 = length-append (line_text l) (10 ∷ []) in
    let both : length (lines_text (l ∷ ls)) ≡ length (line_text l ++ 10 ∷ []) + length (lines_text ls) = length-append (line_text l ++ 10 ∷ []) (lines_text ls) in
    omega (arith, first, both, lines_short ls)

-- the lines of one block more
pub lines_more : (b : Block) (blocks : List Block) → length (flat_map block_lines (b ∷ blocks)) ≡ length b.body + handler_span b.handler + 2 + length (flat_map block_lines blocks)
lines_more b blocks =
    let both : length (block_lines b ++ flat_map block_lines blocks) ≡ length (block_lines b) + length (flat_map block_lines blocks) = length-append (block_lines b) (flat_map block_lines blocks) in
    let own = length_block b in
    omega (arith, both, own)

-- those of bodies are among them
bodies_short : (blocks : List Block) → body_lines blocks ≤ length (flat_map block_lines blocks)
bodies_short [] = omega arith
bodies_short (b ∷ blocks) = let more = bodies_short blocks in let all = lines_more b blocks in omega (arith, more, all)

-- so are those of the longest handler
longest_short : (blocks : List Block) → longest_handler blocks ≤ length (flat_map block_lines blocks)
longest_short [] = omega arith
longest_short (b ∷ blocks) =
    let more = longest_short blocks in
    let all = lines_more b blocks in
    let span = span_long b.handler in
    omega (arith, more, all, span)

-- and each block has two of its own
blocks_short : (blocks : List Block) → length blocks ≤ length (flat_map block_lines blocks)
blocks_short [] = omega arith
blocks_short (b ∷ blocks) = let more = blocks_short blocks in let all = lines_more b blocks in omega (arith, more, all)

-- a signal is sent by a line of a body
one_kill : (command : Command) → one_if_kill command ≤ 1
one_kill (commands.Kill name signo) = omega arith
one_kill other = omega arith

kills_short : (orders : List Order) → kill_lines orders ≤ length orders
kills_short [] = omega arith
kills_short (o ∷ orders) = let here = one_kill o.command in let more = kills_short orders in omega (arith, here, more)

all_kills_short : (blocks : List Block) → all_kill_lines blocks ≤ body_lines blocks
all_kills_short [] = omega arith
all_kills_short (b ∷ blocks) = let here = kills_short b.body in let more = all_kills_short blocks in omega (arith, here, more)

-- Blocks whose text is within the limit have few enough lines for their bound to be counted.
pub record HasFewLines (blocks : List Block) : Type 0 where
  pub lines : body_lines blocks ≤ 1048576
  pub signals : all_kill_lines blocks * longest_handler blocks ≤ 1048576 * 1048576
  pub count : length blocks ≤ 1048576

pub few_lines : (blocks : List Block) (rest : List ℕ) → length rest ≤ 1048576 → rest ≡ lines_text (flat_map block_lines blocks) ++ [] → HasFewLines blocks
few_lines blocks rest short parts =
    let lined = flat_map block_lines blocks in
    let long : length rest ≡ length (lines_text lined) = ap length (parts ∙ append-nil (lines_text lined)) in
    let all = lines_short lined in
    let bodies = bodies_short blocks in
    let longest = longest_short blocks in
    let own = blocks_short blocks in
    let kills = all_kills_short blocks in
    record {
      lines = omega (arith, short, long, all, bodies);
      signals = mul-le (all_kill_lines blocks) (longest_handler blocks) 1048576 1048576 (omega (arith, short, long, all, bodies, kills)) (omega (arith, short, long, all, longest));
      count = omega (arith, short, long, all, own);
    }
