use Rattle.std.proofs.Common.{◌≡◌, take}
use Rattle.style.specs.Cascade.{empty, all_entered}
use Rattle.style.proofs.cells.enter_all.Given as goal

abbrev pub invariant-loop-declaration : goal.invariant-loop-declaration
invariant-loop-declaration g l = l.cell ≡ all_entered empty (take l.declaration-index l.declarations)
