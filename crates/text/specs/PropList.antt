-- White_Space as PropList.txt of the Unicode Character Database lists it.
use Rattle.std.specs.Prelude.{ℕ, Bool, ◌&&◌, ◌||◌, List, ◌==◌, nat_le}
use Rattle.std.specs.List.{list_all}
use Rattle.std.specs.Str.{chars}

-- a line LOW..HIGH of the file
abbrev pub line : ℕ → ℕ → ℕ → Bool
line low high c = nat_le low c && nat_le c high

-- the code point has the property White_Space
abbrev pub white_space : ℕ → Bool
white_space c =
    line 0x0009 0x000D c
    || c == 0x0020
    || c == 0x0085
    || c == 0x00A0
    || c == 0x1680
    || line 0x2000 0x200A c
    || c == 0x2028
    || c == 0x2029
    || c == 0x202F
    || c == 0x205F
    || c == 0x3000

-- each character of the text has the property, so an empty text is blank
abbrev pub blank : List ℕ → Bool
blank bytes = list_all white_space (chars bytes)
