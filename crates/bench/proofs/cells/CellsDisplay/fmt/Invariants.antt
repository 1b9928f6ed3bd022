use Rattle.std.proofs.Common.{◌≡◌, ℕ, false, List, ◌++◌, map, drop}
use Rattle.std.specs.Fmt.{HasWritten, IsPlainFormatter}
use Rattle.bench.specs.Cells.{cells_text}
use Rattle.bench.specs.Values.{as_cell}
use Rattle.bench.proofs.cells.CellsDisplay.fmt.Given as goal

-- what is written, and then the cells that are left, make the whole text
abbrev pub invariant-loop-cell : goal.invariant-loop-cell
invariant-loop-cell g l =
    IsPlainFormatter l.initial.f
    → (text : List ℕ)
    × HasWritten g.W.Write.write_str_gives l.initial.f text l.f
    × (text ++ cells_text l.any (map as_cell (drop l.cell-index l.cell-items)) ≡ cells_text false (map as_cell l.cell-items))
