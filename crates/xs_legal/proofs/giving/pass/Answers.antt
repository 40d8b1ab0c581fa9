-- The giver and the taker stand in the two parts of the blocks.
use Rattle.std.proofs.Common.{◌<◌, ◌++◌, get_or, slice_set, ap, ◌∙◌, arith}
use Rattle.std.proofs.lemmas.Option.{slice_get_within}
use Rattle.xs_model.specs.State.{BlockState}
use Rattle.xs_legal.specs.Gift.{given}
use Rattle.xs_legal.proofs.Halves.{front_at, back_at, set_front, set_back}
use Rattle.xs_legal.proofs.giving.pass.Goals as goal

pub give-requires-clause-valid : goal.give-requires-clause-valid
give-requires-clause-valid c =
    let pair = c.requires in
    let parts = c.split_at_mut-front.ensures in
    let front = c.split_at_mut-front.result.0.now in
    let back = c.split_at_mut-front.result.1.now in
    let giver = front_at c.args.blocks.now front back c.args.to parts.value parts.front_len c.args.from pair.giver c.index-front-from.result (omega arith) pair.from_is in
    let taker = back_at c.args.blocks.now front back c.args.to parts.value parts.front_len pair.taker c.index-back-0.result pair.to_is in
    (pair.rows, rw giver pair.giver_valid, rw taker pair.taker_valid)

pub give-requires-clause-can : goal.give-requires-clause-can
give-requires-clause-can c =
    let pair = c.requires in
    let parts = c.split_at_mut-front.ensures in
    let front = c.split_at_mut-front.result.0.now in
    let back = c.split_at_mut-front.result.1.now in
    let giver = front_at c.args.blocks.now front back c.args.to parts.value parts.front_len c.args.from pair.giver c.index-front-from.result (omega arith) pair.from_is in
    let taker = back_at c.args.blocks.now front back c.args.to parts.value parts.front_len pair.taker c.index-back-0.result pair.to_is in
    rw (giver, taker) pair.can

pub returns-then-from-to : goal.returns-then-from-to
returns-then-from-to c giver taker from_is to_is =
    let parts = c.split_at_mut-front.ensures in
    let front = c.split_at_mut-front.result.0.now in
    let back = c.split_at_mut-front.result.1.now in
    let first = front_at c.args.blocks.now front back c.args.to parts.value parts.front_len c.args.from giver c.index-front-from.result (omega arith) from_is in
    let second = back_at c.args.blocks.now front back c.args.to parts.value parts.front_len taker c.index-back-0.result to_is in
    ap (λ (b : BlockState). front ++ slice_set back 0 b) (c.give.ensures ∙ ap (λ (b : BlockState). given c.args.gift b (get_or back 0 c.index-back-0.result)) first ∙ ap (given c.args.gift giver) second)
    ∙ set_back c.args.blocks.now front back c.args.to parts.value parts.front_len (given c.args.gift giver taker)

-- ---- the giver behind the taker

pub split_at_mut-front-requires-else-from-to : goal.split_at_mut-front-requires-else-from-to
split_at_mut-front-requires-else-from-to c =
    let within = slice_get_within c.args.blocks.now c.args.from c.requires.giver c.requires.from_is in
    omega arith

pub bounds-back-0-else-from-to : goal.bounds-back-0-else-from-to
bounds-back-0-else-from-to c =
    let within = slice_get_within c.args.blocks.now c.args.from c.requires.giver c.requires.from_is in
    omega arith

pub give-requires-else-from-to-clause-valid : goal.give-requires-else-from-to-clause-valid
give-requires-else-from-to-clause-valid c =
    let pair = c.requires in
    let parts = c.split_at_mut-front-else-from-to.ensures in
    let front = c.split_at_mut-front-else-from-to.result.0.now in
    let back = c.split_at_mut-front-else-from-to.result.1.now in
    let giver = back_at c.args.blocks.now front back c.args.from parts.value parts.front_len pair.giver c.index-back-0-else-from-to.result pair.from_is in
    let taker = front_at c.args.blocks.now front back c.args.from parts.value parts.front_len c.args.to pair.taker c.index-front-to.result (omega arith) pair.to_is in
    (pair.rows, rw giver pair.giver_valid, rw taker pair.taker_valid)

pub give-requires-else-from-to-clause-can : goal.give-requires-else-from-to-clause-can
give-requires-else-from-to-clause-can c =
    let pair = c.requires in
    let parts = c.split_at_mut-front-else-from-to.ensures in
    let front = c.split_at_mut-front-else-from-to.result.0.now in
    let back = c.split_at_mut-front-else-from-to.result.1.now in
    let giver = back_at c.args.blocks.now front back c.args.from parts.value parts.front_len pair.giver c.index-back-0-else-from-to.result pair.from_is in
    let taker = front_at c.args.blocks.now front back c.args.from parts.value parts.front_len c.args.to pair.taker c.index-front-to.result (omega arith) pair.to_is in
    rw (giver, taker) pair.can

pub returns-else-from-to : goal.returns-else-from-to
returns-else-from-to c giver taker from_is to_is =
    let parts = c.split_at_mut-front-else-from-to.ensures in
    let front = c.split_at_mut-front-else-from-to.result.0.now in
    let back = c.split_at_mut-front-else-from-to.result.1.now in
    let apart = c.requires.apart in
    let below : c.args.to < c.args.from = omega arith in
    let first = back_at c.args.blocks.now front back c.args.from parts.value parts.front_len giver c.index-back-0-else-from-to.result from_is in
    let second = front_at c.args.blocks.now front back c.args.from parts.value parts.front_len c.args.to taker c.index-front-to.result below to_is in
    ap (λ (b : BlockState). slice_set front c.args.to b ++ back) (c.give-else-from-to.ensures ∙ ap (λ (b : BlockState). given c.args.gift b (get_or front c.args.to c.index-front-to.result)) first ∙ ap (given c.args.gift giver) second)
    ∙ set_front c.args.blocks.now front back c.args.from parts.value parts.front_len c.args.to (given c.args.gift giver taker) below
