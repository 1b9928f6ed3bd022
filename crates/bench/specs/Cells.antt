-- What the program prints of a style.
use Rattle.std.specs.Prelude.{ℕ, ◌+◌, Bool, true, false, cond, ◌||◌, List, [], ◌∷◌, ◌++◌, length, take, drop, is_some, Some, None, codes, decimal, Option, nat_le}
use Rattle.std.specs.Option.{option_map}
use Rattle.style.specs.declared.cell.WithSpec.{WithSpec}
use Rattle.style.specs.declared.style.ComputedStyle.{ComputedStyle}
use Rattle.style.specs.declared.values.Colour.{Colour}
use Rattle.style.specs.declared.values.Place.{Place}
use Rattle.style.specs.declared.values.Display.{Display}
use Rattle.style.specs.declared.values.WhiteSpace.{WhiteSpace}
use Rattle.style.specs.declared.values.WhiteSpace.TheVariants.{Normal, Pre, PreWrap}
use Rattle.style.specs.declared.values.Weight.{Weight}
use Rattle.style.specs.Cascade.{weight_of, value_of}
use Rattle.style.specs.Printing.{origin_name, display_name}
use Rattle.bench.specs.Lines.{hex, hex_or_dash}

-- by the codes of a recording
abbrev pub white_space_name : WhiteSpace → List ℕ
white_space_name Normal = codes "0"
white_space_name Pre = codes "1"
white_space_name PreWrap = codes "2"

abbrev pub digit_of : Bool → ℕ
digit_of true = 1
digit_of false = 0

-- origin, importance, and the four fields of the specificity
abbrev pub weight_text : Weight → List ℕ
weight_text w =
    codes ":" ++ (origin_name w.origin ++ (codes ":" ++ (decimal (digit_of w.important) ++ (codes ":"
    ++ (decimal (digit_of w.specificity.inline) ++ (codes "." ++ (decimal w.specificity.id ++ (codes "."
    ++ (decimal w.specificity.class ++ (codes "." ++ decimal w.specificity.typ))))))))))

-- a cell with a value: its name, the value's text and its weight, behind a comma unless it is the first
abbrev pub cell_text : (any : Bool) (name : List ℕ) → Option (List ℕ) → Weight → List ℕ
cell_text any name None w = []
cell_text any name (Some v) w = cond any (codes ",") [] ++ (name ++ (codes "=" ++ (v ++ weight_text w)))

-- the part of the sheet at a place; outside it there is nothing to print
abbrev pub text_at : List ℕ → Place → List ℕ
text_at sheet p = cond (nat_le (p.start + p.len) (length sheet)) (take p.len (drop p.start sheet)) []

-- ---- the cells of a style

abbrev pub colour_text : WithSpec Colour → Option (List ℕ)
colour_text c = option_map (λ v. hex (v.r ∷ v.g ∷ v.b ∷ [])) (value_of c)

abbrev pub display_text : WithSpec Display → Option (List ℕ)
display_text c = option_map display_name (value_of c)

abbrev pub white_space_text : WithSpec WhiteSpace → Option (List ℕ)
white_space_text c = option_map white_space_name (value_of c)

abbrev pub generated_text : (sheet : List ℕ) → WithSpec Place → Option (List ℕ)
generated_text sheet c = option_map (λ p. hex_or_dash (text_at sheet p)) (value_of c)

pub data Cell : Type 0 where
  cell : (name : List ℕ) → Option (List ℕ) → Weight → Cell

abbrev pub cells_of : (sheet : List ℕ) → ComputedStyle → List Cell
cells_of sheet s =
    cell (codes "colour") (colour_text s.colour) (weight_of s.colour)
    ∷ cell (codes "bg") (colour_text s.bg_colour) (weight_of s.bg_colour)
    ∷ cell (codes "display") (display_text s.display) (weight_of s.display)
    ∷ cell (codes "ws") (white_space_text s.white_space) (weight_of s.white_space)
    ∷ cell (codes "before") (generated_text sheet s.content_before) (weight_of s.content_before)
    ∷ cell (codes "after") (generated_text sheet s.content_after) (weight_of s.content_after)
    ∷ []

-- those that have a value, or a dash where none has one
abbrev pub cells_text : (any : Bool) → List Cell → List ℕ
cells_text any [] = cond any [] (codes "-")
cells_text any (cell n v w ∷ cs) = cell_text any n v w ++ cells_text (any || is_some v) cs
