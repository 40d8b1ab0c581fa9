-- The area stands for the initial file of the machine, which a lease leaves as it was.
use Rattle.std.proofs.Common.{◌≡◌, length, ap, ◌∙◌, arith}
use Rattle.std.proofs.lemmas.List.{with_items_is}
use Rattle.xs_pool.specs.Pool.{Pool, stock_of, one_more_out}
use Rattle.xs_pool.proofs.PoolLemmas.{rows_with_stock}
use Rattle.xs_pool.proofs.pool.AreaPool.lease.Goals as goal

rows_are : (c : goal.After-self-1) → c.self.inside.layout ≡ c.args.self.now.rows
rows_are c = ap (λ (pool : Pool). pool.rows) (c.self.view_is ∙ c.in_ok-bytes.ensures.after) ∙ rows_with_stock c.args.self.now c.args.class (one_more_out (stock_of c.args.self.now c.args.class))

whole : (c : goal.After-self-1) → length c.make_initial.new.area ≡ c.in_ok-bytes.bytes.len
whole c = omega arith

pub returns-clause-stands : goal.returns-clause-stands
returns-clause-stands c _ = rw (with_items_is c.in_ok-bytes.bytes c.make_initial.new.area (whole c), ← (rows_are c)) c.make_initial.ensures.stands

pub returns-clause-loadable : goal.returns-clause-loadable
returns-clause-loadable c = rw (with_items_is c.in_ok-bytes.bytes c.make_initial.new.area (whole c), ← (rows_are c)) (c.make_initial.ensures.loadable _ (λ none. omega arith))
