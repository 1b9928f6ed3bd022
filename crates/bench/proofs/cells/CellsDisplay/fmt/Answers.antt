use Rattle.std.proofs.Common.{true, false, codes, ap, ◌∙◌, sym, append-nil, arith, rules}
use Rattle.std.proofs.Output.{has_written_append, has_written_of_eq}
use Rattle.bench.specs.Cells.{cells_text}
use Rattle.bench.proofs.Joining.{one_more, none_left}
use Rattle.bench.proofs.cells.CellsDisplay.fmt.Goals as goal
use Rattle.bench.proofs.cells.CellsDisplay.fmt.Goals.{then-any, else-any}

pub loop-cell-preserved : goal.loop-cell-preserved
loop-cell-preserved g c p =
    let i = c.loop-cell.invariant p in
    (_, has_written_append _ _ _ _ _ _ i.1 (search rules), one_more c.loop-cell.any c.all.result c.loop-cell.cell-index i.0 _ i.2 _ c.in-Some.field-0 c.if-any.comma.now (omega arith) c.in-Some.is (elim c.if-any.branch [ then-any w ↦ search rules | else-any w ↦ search rules ]))

pub returns-then-any-2-clause-writes : goal.returns-then-any-2-clause-writes
returns-then-any-2-clause-writes g c p ok =
    let i = c.loop-cell.invariant p in
    let all = none_left c.loop-cell.any c.all.result c.loop-cell.cell-index i.0 _ i.2 true c.if-any-2.true (omega arith) in
    has_written_of_eq _ _ _ _ _ (sym (append-nil i.0) ∙ all ∙ ap (cells_text false) c.all.ensures) i.1

pub returns-else-any-2-clause-writes : goal.returns-else-any-2-clause-writes
returns-else-any-2-clause-writes g c p ok =
    let i = c.loop-cell.invariant p in
    let all = none_left c.loop-cell.any c.all.result c.loop-cell.cell-index i.0 _ i.2 false c.if-any-2.false (omega arith) in
    has_written_of_eq _ _ _ _ _ (all ∙ ap (cells_text false) c.all.ensures) (has_written_append _ _ _ _ (codes "-") _ i.1 (search rules))
