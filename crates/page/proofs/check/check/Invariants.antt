use Rattle.std.proofs.Common.{◌≡◌, List}
use Rattle.dom.specs.Format.{Entry, order}
use Rattle.dom.specs.Reading.{entries, counted}
use Rattle.dom.proofs.Fronts.{checked, Numbered}
use Rattle.page.specs.Said.{fronts_said}
use Rattle.page.proofs.check.check.Given as goal

-- going on from here gives what the page gives
abbrev pub invariant-loop-front : goal.invariant-loop-front
invariant-loop-front l =
    (before : List Entry)
    × (order before ≡ l.order)
    × Numbered l.count (fronts_said l.front-iterator)
    × (counted l.count (checked before (fronts_said l.front-iterator)) ≡ counted 0 (entries l.page))
