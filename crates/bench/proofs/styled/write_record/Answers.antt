use Rattle.std.proofs.Common.{rules}
use Rattle.std.proofs.lemmas.Result.{on_ok_weaker}
use Rattle.bench.proofs.PlainLines.{line_printed}
use Rattle.bench.proofs.styled.write_record.Goals as goal

pub returns-in_default : goal.returns-in_default
returns-in_default g c = let h = line_printed c.args.node.page.now (g.S.StyleSource.meaning c.args.source.now) c.args.sheet.now c.args.node.spot c.args.found.depth c.args.found.record c.in_default.not-Element in search (rules, on_ok_weaker)
