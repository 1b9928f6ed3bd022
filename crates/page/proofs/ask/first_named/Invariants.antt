use Rattle.std.proofs.Common.{◌≡◌}
use Rattle.dom.specs.Fronts.{named_in}
use Rattle.page.specs.Said.{fronts_said}
use Rattle.page.proofs.ask.first_named.Given as goal

-- going on from here finds what is found from the start
abbrev pub invariant-loop-front : goal.invariant-loop-front
invariant-loop-front l = named_in l.name (fronts_said l.front-iterator) ≡ named_in l.name (fronts_said l.fn.records)
