-- The answer is that of the test of the set's bytes.
use Rattle.std.proofs.Common.{◌≡◌, ℕ, None, ap}
use Rattle.std.specs.Prelude.{Result, Ok, Err, MatchOption, MatchResult}
use Rattle.std.specs.Result.{result_err}
use Rattle.xs_base.specs.RegisterSet.{Accepted, SetResult, set_errno}
use Rattle.xs_base.specs.Task.{PrivateTask}
use Rattle.xs_image.specs.declared.checking.RegsetError.{RegsetError}
use Rattle.xs_image.specs.Answer.{refused_as}
use Rattle.xs_private.proofs.private.Private.refusal.Goals as goal

refused_by : (set : SetResult) (after : PrivateTask) (answer : Result ℕ RegsetError) → MatchResult answer (λ _. set ≡ Accepted after) (λ e. set ≡ refused_as e)
    → MatchOption (result_err answer) (set_errno set ≡ None) (λ e. set ≡ refused_as e)
refused_by set after (Ok control) accepted = ap set_errno accepted
refused_by set after (Err e) refused = refused

pub returns-in-Fx : goal.returns-in-Fx
returns-in-Fx c = rw (c.in-Fx.is, c.err-in-Fx.ensures.value) (refused_by _ _ c.read_fx.result (c.read_fx.ensures.answer c.args.self.now))
