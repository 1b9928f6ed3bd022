use Rattle.std.proofs.Common.{string_bytes}
use Rattle.page.specs.Said.{fronts_said}
use Rattle.bench.proofs.Records.{Told}
use Rattle.bench.proofs.listing.write_records.Given as goal

abbrev pub invariant-loop-front : goal.invariant-loop-front
invariant-loop-front l = Told l.page (fronts_said l.front-iterator) (string_bytes l.out) (string_bytes l.fn.out)
