use Rattle.std.proofs.Common.{◌≤◌, length, arith, refl, ap, sym}
use Rattle.xs_script.specs.declared.refusal.Kind.TheVariants.{TooMuch}
use Rattle.xs_script.specs.Refusal.{ByEvents}
use Rattle.xs_script.proofs.EventBound.{few_lines}
use Rattle.xs_script.proofs.WholeScripts.{script_of, sched_refuses, blocks_refuse, outline_refuses, read_script_of}
use Rattle.xs_script.proofs.OneText.{read_spells}
use Rattle.xs_script.proofs.reader.read_script.Goals as goal

pub returns-in-Err-read_schedule-clause-refused : goal.returns-in-Err-read_schedule-clause-refused
returns-in-Err-read_schedule-clause-refused c =
    let read = c.in-Ok.read in
    sched_refuses c.args.text.now read.2.now read.0 read.1 c.in-Err-read_schedule.e c.in-Ok.ensures.head c.in-Err-read_schedule.ensures.refused

pub returns-in-Err-look_through-clause-refused : goal.returns-in-Err-look_through-clause-refused
returns-in-Err-look_through-clause-refused c =
    let read = c.in-Ok.read in
    let later = c.in-Ok-read_schedule.read in
    blocks_refuse c.args.text.now read.2.now later.2.now read.0 read.1 later.1 later.0 c.in-Err-look_through.e c.in-Ok.ensures.head c.in-Ok-read_schedule.ensures.schedule c.in-Err-look_through.ensures.refused

pub returns-in-Err-read_blocks-clause-refused : goal.returns-in-Err-read_blocks-clause-refused
returns-in-Err-read_blocks-clause-refused c =
    let read = c.in-Ok.read in
    let later = c.in-Ok-read_schedule.read in
    let names = c.in-Ok-look_through.names in
    outline_refuses c.args.text.now read.2.now later.2.now read.0 read.1 later.1 later.0 names.0 names.1 c.in-Err-read_blocks.e c.in-Ok.ensures.head c.in-Ok-read_schedule.ensures.schedule c.in-Err-read_blocks.ensures.refused

pub most_events-events-requires-clause-lines : goal.most_events-events-requires-clause-lines
most_events-events-requires-clause-lines c =
    let later = c.in-Ok-read_schedule.read in
    let short : length later.2.now ≤ 1048576 = omega (arith, c.requires, c.in-Ok.ensures.room, c.in-Ok-read_schedule.ensures.room, c.in-Ok.ensures.head.next, c.in-Ok-read_schedule.ensures.schedule.next) in
    rw c.as_slice.ensures (few_lines c.in-Ok-read_blocks.blocks later.2.now short c.in-Ok-read_blocks.ensures.blocks.front.parts).lines

pub most_events-events-requires-clause-signals : goal.most_events-events-requires-clause-signals
most_events-events-requires-clause-signals c =
    let later = c.in-Ok-read_schedule.read in
    let short : length later.2.now ≤ 1048576 = omega (arith, c.requires, c.in-Ok.ensures.room, c.in-Ok-read_schedule.ensures.room, c.in-Ok.ensures.head.next, c.in-Ok-read_schedule.ensures.schedule.next) in
    rw c.as_slice.ensures (few_lines c.in-Ok-read_blocks.blocks later.2.now short c.in-Ok-read_blocks.ensures.blocks.front.parts).signals

pub most_events-events-requires-clause-blocks : goal.most_events-events-requires-clause-blocks
most_events-events-requires-clause-blocks c =
    let later = c.in-Ok-read_schedule.read in
    let short : length later.2.now ≤ 1048576 = omega (arith, c.requires, c.in-Ok.ensures.room, c.in-Ok-read_schedule.ensures.room, c.in-Ok.ensures.head.next, c.in-Ok-read_schedule.ensures.schedule.next) in
    rw c.as_slice.ensures (few_lines c.in-Ok-read_blocks.blocks later.2.now short c.in-Ok-read_blocks.ensures.blocks.front.parts).count

pub returns-then-events-gt-MOST_EVENTS-clause-refused : goal.returns-then-events-gt-MOST_EVENTS-clause-refused
returns-then-events-gt-MOST_EVENTS-clause-refused c =
    let read = c.in-Ok.read in
    let later = c.in-Ok-read_schedule.read in
    let names = c.in-Ok-look_through.names in
    let events = rw c.as_slice.ensures at c.most_events-events.ensures in
    ByEvents (record {
      script = script_of read.0 later.0 c.in-Ok-read_blocks.blocks;
      read = read_script_of c.args.text.now read.2.now later.2.now read.0 read.1 later.1 later.0 names.0 names.1 c.in-Ok-read_blocks.blocks c.in-Ok.ensures.head c.in-Ok-read_schedule.ensures.schedule c.in-Ok-look_through.ensures.whole c.in-Ok-read_blocks.ensures.blocks;
      many = rw (sym events) (omega arith);
      number_is = refl;
      kind_is = ap TooMuch events;
    })

pub returns-clause-spelled : goal.returns-clause-spelled
returns-clause-spelled c =
    let read = c.in-Ok.read in
    let later = c.in-Ok-read_schedule.read in
    let names = c.in-Ok-look_through.names in
    let script = script_of read.0 later.0 c.in-Ok-read_blocks.blocks in
    let events = rw c.as_slice.ensures at c.most_events-events.ensures in
    let whole = read_script_of c.args.text.now read.2.now later.2.now read.0 read.1 later.1 later.0 names.0 names.1 c.in-Ok-read_blocks.blocks c.in-Ok.ensures.head c.in-Ok-read_schedule.ensures.schedule c.in-Ok-look_through.ensures.whole c.in-Ok-read_blocks.ensures.blocks in
    read_spells c.args.text.now script c.requires whole (rw (sym events) (omega arith))
