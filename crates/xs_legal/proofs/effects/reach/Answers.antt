-- What each command reaches.
use Rattle.std.proofs.Common.{◌≡◌, true, slice_set, refl, sym, ap, ◌∙◌}
use Rattle.std.specs.Prelude.{Option}
use Rattle.xs_model.specs.Note.{is_count}
use Rattle.xs_model.specs.Outer.{born, buffer_filled, buffer_of, continued, registers_set, signalled}
use Rattle.xs_model.specs.Script.{block_named}
use Rattle.xs_model.specs.State.{BlockState}
use Rattle.xs_legal.specs.declared.giving.Gift.TheVariants as gifts
use Rattle.xs_legal.proofs.Places.{changed_read}
use Rattle.xs_legal.proofs.Reaching.{gift_changed}
use Rattle.xs_legal.proofs.effects.reach.Goals as goal

pub returns-in-Fork : goal.returns-in-Fork
returns-in-Fork c =
    let script = c.args.script.now in
    let blocks = c.args.blocks.now in
    let t = c.args.t in
    let can = rw c.in-Fork.is at c.requires.can in
    let named : c.block_named-child.result ≡ block_named script c.in-Fork.name = c.block_named-child.ensures ∙ ap (block_named script) c.as_slice.ensures.bytes in
    let pair = rw (← named) at can in
    rw (c.in-Fork.is, ← named) (gift_changed (born t) (gifts.Birth t) blocks c.pass.new.blocks t c.block_named-child.result (λ giver taker. refl) pair c.pass.ensures)

pub returns-then-is_count : goal.returns-then-is_count
returns-then-is_count c =
    let script = c.args.script.now in
    let blocks = c.args.blocks.now in
    let can = rw c.in-Kill.is at c.requires.can in
    let named : c.block_named.result ≡ block_named script c.in-Kill.name = c.block_named.ensures ∙ ap (block_named script) c.as_slice-then-is_count.ensures.bytes in
    let counted : is_count c.args.reply.now ≡ true = sym c.is_count.ensures ∙ c.if-is_count.true in
    let within = rw (← named) at (can counted) in
    rw (c.in-Kill.is, counted, ← named) (ap (slice_set blocks c.block_named.result) c.add.ensures ∙ changed_read (signalled c.in-Kill.signo) blocks c.block_named.result c.index-blocks-block_named.result within)

pub returns-then-is_count-2 : goal.returns-then-is_count-2
returns-then-is_count-2 c =
    let script = c.args.script.now in
    let blocks = c.args.blocks.now in
    let can = rw c.in-Cont.is at c.requires.can in
    let u = c.block_named-then-is_count-2.result in
    let named : u ≡ block_named script c.in-Cont.name = c.block_named-then-is_count-2.ensures ∙ ap (block_named script) c.as_slice-then-is_count-2.ensures.bytes in
    let counted : is_count c.args.reply.now ≡ true = sym c.is_count-in-Cont.ensures ∙ c.if-is_count-2.true in
    let within = rw (← named) at (can counted) in
    rw (c.in-Cont.is, counted, ← named) (ap (slice_set blocks u) c.resume.ensures ∙ changed_read continued blocks u c.index-blocks-block_named-then-is_count-2.result within)

pub returns-then-is_count-3 : goal.returns-then-is_count-3
returns-then-is_count-3 c =
    let script = c.args.script.now in
    let blocks = c.args.blocks.now in
    let t = c.args.t in
    let can = rw c.in-Getregs.is at c.requires.can in
    let u = c.block_named-child-then-is_count-3.result in
    let named : u ≡ block_named script c.in-Getregs.name = c.block_named-child-then-is_count-3.ensures ∙ ap (block_named script) c.as_slice-then-is_count-3.ensures.bytes in
    let counted : is_count c.args.reply.now ≡ true = sym c.is_count-in-Getregs.ensures ∙ c.if-is_count-3.true in
    let pair = rw (← named) at (can counted) in
    rw (c.in-Getregs.is, counted, ← named) (gift_changed (buffer_filled c.in-Getregs.set) (gifts.Registers c.in-Getregs.set) blocks c.pass-then-is_count-3.new.blocks u t (λ giver taker. refl) pair c.pass-then-is_count-3.ensures)

pub returns-then-is_count-4 : goal.returns-then-is_count-4
returns-then-is_count-4 c =
    let script = c.args.script.now in
    let blocks = c.args.blocks.now in
    let t = c.args.t in
    let set = c.in-Setregs.set in
    let count = c.in-Setregs.count in
    let can = rw c.in-Setregs.is at c.requires.can in
    let u = c.block_named-child-then-is_count-4.result in
    let named : u ≡ block_named script c.in-Setregs.name = c.block_named-child-then-is_count-4.ensures ∙ ap (block_named script) c.as_slice-then-is_count-4.ensures.bytes in
    let counted : is_count c.args.reply.now ≡ true = sym c.is_count-in-Setregs.ensures ∙ c.if-is_count-4.true in
    let pair = rw (← named) at (can counted) in
    rw (c.in-Setregs.is, counted, ← named) (gift_changed (λ (o : Option BlockState). registers_set set count (buffer_of o)) (gifts.Bytes set count) blocks c.pass-then-is_count-4.new.blocks t u (λ giver taker. refl) pair c.pass-then-is_count-4.ensures)
