use Rattle.std.proofs.Common.{◌≡◌, take, vec_items}
use Rattle.std.specs.List.{flat_map}
use Rattle.replay.specs.Built.{built}
use Rattle.replay.proofs.build.build.Given as goal

abbrev pub invariant-loop-piece : goal.invariant-loop-piece
invariant-loop-piece l = vec_items l.page ≡ flat_map built (take l.piece-index l.pieces)
