-- The laws in one.
use Rattle.xs_board.proofs.laws.machine_laws.Goals as goal

pub returns : goal.returns
returns c = record {
  found = c.lines_found.ensures;
  known = c.turns_known.ensures.known;
  apart = c.turns_known.ensures.apart;
  numbers = c.two_numbers.ensures;
  once = c.ready_once.ensures.once;
  first = c.ready_once.ensures.first;
  nobody = c.ready_once.ensures.nobody;
  stuck = c.never_stuck.ensures;
  few = c.few_events.ensures;
  machine = c.machine_known.ensures.known;
  tasks = c.machine_known.ensures.valid;
  bears = c.a_fork_bears.ensures.bears;
  unseen = c.a_fork_bears.ensures.unseen;
  start_is = c.steps_known.ensures.start;
  local_is = c.steps_known.ensures.local;
  outer_is = c.steps_known.ensures.outer;
  refused_is = c.steps_known.ensures.refused;
  trap_is = c.steps_known.ensures.trap;
  end_is = c.steps_known.ensures.end;
  started = c.blocks_known.ensures.started;
  ran = c.blocks_known.ensures.ran;
  outer_own = c.blocks_known.ensures.outer;
  outer_other = c.blocks_known.ensures.outer_others;
  grew = c.blocks_known.ensures.grew;
  ended = c.blocks_known.ensures.ended;
  killed = c.blocks_known.ensures.killed;
  start_others = c.blocks_known.ensures.start_others;
  local_others = c.blocks_known.ensures.local_others;
  grow_others = c.blocks_known.ensures.grow_others;
  end_others = c.blocks_known.ensures.end_others;
  kill_others = c.blocks_known.ensures.kill_others;
  start_ready = c.risers_known.ensures.start;
  local_keeps = c.risers_known.ensures.goes_on;
  local_rises = c.risers_known.ensures.ends;
  outer_rises = c.risers_known.ensures.outer;
  grow_rises = c.risers_known.ensures.grow;
  end_rises = c.risers_known.ensures.end;
  kill_rises = c.risers_known.ensures.kill;
  large_stays = c.large_known.ensures.stays;
  large_grows = c.large_known.ensures.grows;
  large_ends = c.large_known.ensures.ends;
  large_killed = c.large_known.ensures.killed;
  large_known = c.large_known.ensures.known;
  outside = c.named_known.ensures.outer;
  outer_user = c.named_known.ensures.user;
  trap_user = c.named_known.ensures.trap;
  named = c.named_known.ensures.named;
  waits = c.waits_known.ensures;
  threads = c.signals_known.ensures.threads;
  quiet = c.signals_known.ensures.quiet;
  others_keep = c.task_stays.ensures.keeps;
}
