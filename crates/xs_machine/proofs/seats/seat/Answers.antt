-- One pass more is at its place.
use Rattle.std.proofs.Common.{refl}
use Rattle.xs_machine.proofs.Seating.{seat_more}
use Rattle.xs_machine.proofs.seats.seat.Goals as goal

pub loop-pass-preserved-in-Some : goal.loop-pass-preserved-in-Some
loop-pass-preserved-in-Some g c = rw c.len.ensures.value (seat_more c.args.list.now.items c.loop-pass.list.items c.pop.new.self.items c.args.procs.now c.loop-pass.procs c.in-Some.pass c.loop-pass.invariant c.requires c.in-Some.ensures.items _ c.index-procs-len.result refl)

pub loop-pass-preserved : goal.loop-pass-preserved
loop-pass-preserved g c = rw c.len.ensures.value (seat_more c.args.list.now.items c.loop-pass.list.items c.pop.new.self.items c.args.procs.now c.loop-pass.procs c.in-Some.pass c.loop-pass.invariant c.requires c.in-Some.ensures.items _ c.index-procs-len.result refl)
