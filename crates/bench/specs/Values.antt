-- The text of a cell's value, and a cell as the program lists it.
use Rattle.std.specs.Prelude.{ℕ, List, [], ◌∷◌}
use Rattle.std.specs.Option.{option_map, unwrap_or}
use Rattle.style.specs.Cascade.{no_weight}
use Rattle.style.specs.Printing.{display_name}
use Rattle.bench.specs.declared.cells.Cell.{Cell as Named}
use Rattle.bench.specs.declared.cells.Value.{Value}
use Rattle.bench.specs.declared.cells.Value.TheVariants.{Colour, Display, WhiteSpace, Text}
use Rattle.bench.specs.Lines.{hex, hex_or_dash}
use Rattle.bench.specs.Cells.{Cell, white_space_name}
use Rattle.bench.specs.Cells.Cell.{cell}

abbrev pub value_text : Value → List ℕ
value_text (Colour c) = hex (c.r ∷ c.g ∷ c.b ∷ [])
value_text (Display d) = display_name d
value_text (WhiteSpace w) = white_space_name w
value_text (Text t) = hex_or_dash t.now

abbrev pub as_cell : Named → Cell
as_cell c = cell c.name.now (option_map (λ d. value_text d.value) c.won) (unwrap_or (option_map (λ d. d.weight) c.won) no_weight)
