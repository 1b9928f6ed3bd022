use Rattle.std.proofs.Common.{◌≡◌, ◌++◌, vec_items}
use Rattle.replay.specs.Built.{nest}
use Rattle.replay.proofs.build.add_nest.Given as goal

abbrev pub invariant-loop-above : goal.invariant-loop-above
invariant-loop-above l = vec_items l.page ≡ vec_items l.initial.page ++ nest l.above
