-- The script that a generated text spells.
use Rattle.std.proofs.Common.{◌≡◌, ℕ, ◌≤◌, List, [], ◌∷◌, length, refl, sym, ap, arith, lit<, lit≤}
use Rattle.xs_base.specs.Layout.{amx_rows}
use Rattle.xs_base.proofs.LayoutLemmas.{amx_is_layout}
use Rattle.xs_model.specs.declared.script.Named.TheVariants as machines
use Rattle.xs_model.specs.declared.script.Block.{Block}
use Rattle.xs_model.specs.declared.script.Script.{Script}
use Rattle.xs_model.specs.Bound.{most_of}
use Rattle.xs_model.specs.Script.{IsValid}
use Rattle.xs_script.specs.declared.line.Line.{Line}
use Rattle.xs_script.specs.declared.line.Line.TheVariants as lines
use Rattle.xs_script.specs.Grammar.{lines_text, Spells}
use Rattle.xs_gen.specs.Generated.{generated_text}
use Rattle.xs_gen.proofs.TaskBlocks.{blocks_from, length-blocks_from, blocks_spelled, blocks_numbered, blocks_rise, blocks_are_named, blocks_distinct, blocks_fit, blocks_have_numbers, blocks_name_blocks, blocks_fork_none, body_lines-blocks_from, blocks_kill_none}

-- the tasks, from line 6 on
abbrev tasks_of : ℕ → List Block
tasks_of number = blocks_from 64 0 6 number

abbrev pub script_of : ℕ → Script
script_of number = record { machine = machines.Amx; layout = amx_rows; cpus = 8; quantum = 8; large = 64; sched = []; blocks = tasks_of number }

few_events : (number : ℕ) → most_of (tasks_of number) ≤ 1048576
few_events number =
    rw (body_lines-blocks_from 64 0 6 number, blocks_kill_none 64 0 6 number, length-blocks_from 64 0 6 number) (omega arith)

script_is_valid : (number : ℕ) → IsValid (script_of number)
script_is_valid number =
    let many : length (tasks_of number) ≡ 64 = length-blocks_from 64 0 6 number in
    record {
      layout = amx_is_layout;
      machine = refl;
      cpus = (lit< tt, lit≤ tt);
      quantum = (lit< tt, lit≤ tt);
      large = lit≤ tt;
      entries = tt;
      schedule = lit≤ tt;
      some = omega arith;
      few = omega arith;
      names = blocks_are_named 64 0 6 number (lit≤ tt);
      distinct = blocks_distinct 64 0 6 number (lit≤ tt);
      rising = blocks_rise 64 0 6 number 0 (lit≤ tt) (lit≤ tt);
      bodies = blocks_fit 64 0 6 number;
      named = blocks_name_blocks (tasks_of number) 64 0 6 number;
      forked = rw (blocks_fork_none 64 0 6 number) tt;
      events = few_events number;
    }

pub generated_is_script : (number : ℕ) → Spells (generated_text number) (script_of number)
generated_is_script number = record {
  valid = script_is_valid number;
  numbers = blocks_have_numbers 64 0 6 number;
  groups = [];
  grouped = record { some = tt; joined = refl };
  numbered = blocks_numbered 64 0 6 number (lit≤ tt);
  spelled = ap (λ (ls : List Line). lines_text (lines.Version ∷ lines.Machine machines.Amx ∷ lines.Cpus 8 ∷ lines.Quantum 8 ∷ lines.Large 64 ∷ ls)) (sym (blocks_spelled 64 0 6 number));
}
