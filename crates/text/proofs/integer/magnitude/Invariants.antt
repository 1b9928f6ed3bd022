use Rattle.std.proofs.Common.{◌^◌, ◌<◌}
use Rattle.text.proofs.Reading.{Reads}
use Rattle.text.proofs.integer.magnitude.Given as goal

-- what is left is read on after the value so far
abbrev pub invariant-loop-b : goal.invariant-loop-b
invariant-loop-b l = (l.value < 2 ^ 64) × Reads l.text l.value l.b-index
