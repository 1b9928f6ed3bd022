use Rattle.std.proofs.Common.{◌≡◌, ◌++◌, vec_items}
use Rattle.replay.specs.Built.{comments}
use Rattle.replay.proofs.build.add_comments.Given as goal

abbrev pub invariant-loop : goal.invariant-loop
invariant-loop l = vec_items l.page ≡ vec_items l.initial.page ++ comments l.counter
