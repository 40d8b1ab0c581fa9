use Rattle.std.proofs.Common.{inl, inr, refl}
use Rattle.xs_outside.specs.Outside.{input_of, outside}
use Rattle.xs_top.proofs.AnswerLemmas.{headline_told}
use Rattle.xs_top.proofs.KnownInputs.{may_run, may_refuse, takes_nothing}
use Rattle.xs_top.proofs.calls.top.Goals as goal

pub returns-in-Some-Play-clause-headline : goal.returns-in-Some-Play-clause-headline
returns-in-Some-Play-clause-headline g c = λ said written. (
  c.in-Some-Play.play,
  rw c.in-Some-Play.field-0-is at c.in-Some-Play.ensures.some,
  headline_told g.B.Bank.state c.in-Some-Play.play (outside g.S.Source g.K.Sink c.args.source.now c.args.sink.now) (outside g.S.Source g.K.Sink c.play_call.new.source c.play_call.new.sink)
      c.args.procs.now c.play_call.new.procs c.play_call.result written c.play_call.ensures.ends,
)

pub returns-in-Some-Play-clause-runs : goal.returns-in-Some-Play-clause-runs
returns-in-Some-Play-clause-runs g c = λ input script is run accepted.
    may_run g.B.Bank.state c.in-Some-Play.play input script (outside g.S.Source g.K.Sink c.args.source.now c.args.sink.now) (outside g.S.Source g.K.Sink c.play_call.new.source c.play_call.new.sink)
    c.args.procs.now c.play_call.new.procs c.play_call.result c.not_both.ensures is accepted c.play_call.ensures.ends

pub returns-in-Some-Play-clause-refuses : goal.returns-in-Some-Play-clause-refuses
returns-in-Some-Play-clause-refuses g c = λ input line is run refused.
    may_refuse g.B.Bank.state c.in-Some-Play.play input line (outside g.S.Source g.K.Sink c.args.source.now c.args.sink.now) (outside g.S.Source g.K.Sink c.play_call.new.source c.play_call.new.sink)
    c.args.procs.now c.play_call.new.procs c.play_call.result c.not_both.ensures c.one_refusal.ensures is refused c.play_call.ensures.ends

pub returns-in-Some-Demo-clause-no_command : goal.returns-in-Some-Demo-clause-no_command
returns-in-Some-Demo-clause-no_command g c = λ none.
    let said = rw c.in-Some-Demo.field-0-is at c.in-Some-Demo.ensures.some in
    absurd (none (inr (inr (inl (c.in-Some-Demo.number, said.0, said.1)))))

pub returns-in-None-clause-write_fault : goal.returns-in-None-clause-write_fault
returns-in-None-clause-write_fault g c = λ failed. elim c.tell.ensures [
  | inl told ↦ absurd (cc (told.0, failed))
  | inr fails ↦ inl (c.in-None.ensures.none, refl, refl, fails.1)
]

pub returns-in-Some-Check-clause-judges : goal.returns-in-Some-Check-clause-judges
returns-in-Some-Check-clause-judges g c = λ input script_text text script is said parts spelled. c.check_call.ensures.judges input script_text text script is parts spelled

pub returns-in-Some-Gen-clause-write_fault : goal.returns-in-Some-Gen-clause-write_fault
returns-in-Some-Gen-clause-write_fault g c = λ failed.
    let said = rw c.in-Some-Gen.field-0-is at c.in-Some-Gen.ensures.some in
    inr (inr (inl (record { number = c.in-Some-Gen.number; few = said.0; words_are = said.1; unread = refl; kept = refl; ends = rw failed at c.gen_call.ensures })))

pub returns-in-Some-Gen-clause-no_memory : goal.returns-in-Some-Gen-clause-no_memory
returns-in-Some-Gen-clause-no_memory g c = λ none.
    let said = rw c.in-Some-Gen.field-0-is at c.in-Some-Gen.ensures.some in
    (inr (inl (c.in-Some-Gen.number, said.0, said.1)), (λ other. takes_nothing (input_of g.S.Source c.args.source.now)), rw none at c.gen_call.ensures)

pub returns-in-Some-Demo-clause-no_memory : goal.returns-in-Some-Demo-clause-no_memory
returns-in-Some-Demo-clause-no_memory g c = λ none.
    let said = rw c.in-Some-Demo.field-0-is at c.in-Some-Demo.ensures.some in
    let ends = rw none at c.demo_call.ensures.ends in
    (inr (inr (inl (c.in-Some-Demo.number, said.0, said.1))), (λ other. takes_nothing (input_of g.S.Source c.args.source.now)), ends.0)

pub returns-in-None-clause-read_fault : goal.returns-in-None-clause-read_fault
returns-in-None-clause-read_fault g c = λ failed. absurd (elim c.tell.ensures [
  | inl told ↦ cc (told.0, failed)
  | inr fails ↦ cc (fails.0, failed)
])

pub returns-in-None-clause-no_memory : goal.returns-in-None-clause-no_memory
returns-in-None-clause-no_memory g c = λ none. absurd (elim c.tell.ensures [
  | inl told ↦ cc (told.0, none)
  | inr fails ↦ cc (fails.0, none)
])
