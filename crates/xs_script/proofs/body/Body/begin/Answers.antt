use Rattle.std.proofs.Common.{refl, arith, sym, ◌∙◌, Some}
use Rattle.xs_script.specs.declared.begun.Begun.{Begun}
use Rattle.xs_script.specs.declared.body.Body.{Body}
use Rattle.xs_script.specs.declared.begun.Tail.TheVariants as tails
use Rattle.xs_script.proofs.BodyLines.{begin_taken, begin_repeats, none_begun}
use Rattle.xs_script.proofs.body.Body.begin.Goals as goal

pub returns-then-has_name-clause-refused : goal.returns-then-has_name-clause-refused
returns-then-has_name-clause-refused c =
    let body = c.args.self.now in
    let found = rw c.as_slice.ensures at (sym c.has_name.ensures ∙ c.if-has_name.true) in
    begin_repeats body c.args.kind c.args.name (none_begun body.begun (sym c.is_some.ensures ∙ c.if-is_some.false)) (omega arith) found

pub returns-clause-taken : goal.returns-clause-taken
returns-clause-taken c number =
    let body = c.args.self.now in
    let begun : Begun = record { kind = c.args.kind; name = c.args.name; body = c.new.result; tail = tails.Body; own = c.new-2.result } in
    let after : Body = record { blocks = body.blocks; begun = Some begun; forked = body.forked } in
    let new = rw c.as_slice.ensures at (sym c.has_name.ensures ∙ c.if-has_name.false) in
    begin_taken number body after begun (none_begun body.begun (sym c.is_some.ensures ∙ c.if-is_some.false)) refl refl c.new.ensures refl c.new-2.ensures (omega arith) new
