use Rattle.std.proofs.Common.{◌≡◌, ◌++◌, take, drop, map}
use Rattle.xs_script.specs.Commands.{marked}
use Rattle.xs_script.proofs.own_child.all_marked.Given as goal

abbrev pub invariant-children : goal.invariant-children
invariant-children l = l.child-items ≡ map (marked l.name l.awaited) (take l.child-index l.initial.child-items) ++ drop l.child-index l.initial.child-items
