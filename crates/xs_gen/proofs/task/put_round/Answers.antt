-- The draws of a round are its first, the sixteen of the register, and those of the third line.
use Rattle.std.proofs.Common.{ℕ, ◌∙◌, ap}
use Rattle.std.proofs.lemmas.Result.{IfOk-equal}
use Rattle.xs_gen.specs.Generated.{after, draws, xmm_name}
use Rattle.xs_gen.proofs.DrawLemmas.{after_round_is}
use Rattle.xs_gen.proofs.TextLemmas.{round_text}
use Rattle.xs_gen.proofs.task.put_round.Goals as goal

pub returns-clause-text : goal.returns-clause-text
returns-clause-text c =
    let named = c.xmm_name-name.ensures ∙ ap (λ (byte : ℕ). xmm_name byte) c.draw.ensures.byte in
    let bytes = c.fill.ensures.bytes ∙ ap (λ (state : ℕ). draws 16 state) c.draw.ensures.state in
    let last = c.fill.ensures.state ∙ ap (λ (state : ℕ). after 16 state) c.draw.ensures.state in
    IfOk-equal _ _ _ _ c.put_third.ensures.text
    (round_text c.args.round c.args.source.now.state _ c.args.text.now.items c.put_set.new.text.items c.put_get.new.text.items _ _ named bytes last c.in_ok-put_set.ensures c.in_ok-put_get.ensures)

pub returns-clause-state : goal.returns-clause-state
returns-clause-state c =
    let last = c.fill.ensures.state ∙ ap (λ (state : ℕ). after 16 state) c.draw.ensures.state in
    rw (after_round_is, ← last) c.put_third.ensures.state
