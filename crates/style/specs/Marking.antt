-- Styles by record number.
use Rattle.std.specs.Prelude.{ℕ, List, Option, ◌==◌}
use Rattle.std.specs.List.{find}
use Rattle.std.specs.Option.{option_map, unwrap_or}
use Rattle.style.specs.declared.mark.Mark.{Mark}
use Rattle.style.specs.declared.style.ComputedStyle.{ComputedStyle}
use Rattle.style.specs.Source.{Meaning}

-- the style of the first entry with that number
abbrev pub style_of : ℕ → List Mark → Option ComputedStyle
style_of n ms = option_map (λ m. m.style) (find (λ m. m.«record» == n) ms)

-- or else the other
abbrev pub first_mark : ℕ → List Mark → ComputedStyle → ComputedStyle
first_mark n ms other = unwrap_or (style_of n ms) other

abbrev pub marks_mean : List Mark → Meaning
marks_mean ms parent t e = first_mark e.number ms parent
