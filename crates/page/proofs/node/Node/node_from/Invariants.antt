use Rattle.std.proofs.Common.{◌≡◌}
use Rattle.dom.specs.Asking.{node_at}
use Rattle.dom.proofs.Fronts.{found}
use Rattle.page.specs.Said.{fronts_said}
use Rattle.page.proofs.node.Node.node_from.Given as goal

-- going on from here finds what is found from the start
abbrev pub invariant-loop-front : goal.invariant-loop-front
invariant-loop-front l = found l.depth (fronts_said l.front-iterator) ≡ node_at l.self.page.now l.self.spot l.depth
