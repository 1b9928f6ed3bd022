use Rattle.std.proofs.Common.{◌≡◌, ◌≤◌, take}
use Rattle.text.specs.CodePoints.{first_octets}
use Rattle.text.proofs.count.count_characters.Given as goal

abbrev pub invariant-loop-b : goal.invariant-loop-b
invariant-loop-b l = (l.count ≡ first_octets (take l.b-index l.text)) × (l.count ≤ l.b-index)
