-- The superscripts of decimal digits, as the Unicode Character Database names them.
use Rattle.std.specs.Prelude.{ℕ, ◌+◌, ◌-◌, Bool, cond, if◌then◌else◌, ◌&&◌, List, [], ◌++◌, map, length, drop, Ok, Err, Result, ◌==◌, nat_le}
use Rattle.std.specs.List.{list_all}
use Rattle.text.specs.HtmlIntegers.{digit}
use Rattle.text.specs.Rfc3629.{encoded, encoding}
use Rattle.text.specs.declared.superscript.NotWritten.{NotWritten}
use Rattle.text.specs.declared.superscript.NotWritten.TheVariants.{NotDigits, NoRoom}

-- ASCII digits only, or nothing
abbrev pub all_digits : List ℕ → Bool
all_digits bs = list_all digit bs

-- of an ASCII digit: SUPERSCRIPT ONE, TWO and THREE are U+00B9, U+00B2 and U+00B3,
-- SUPERSCRIPT ZERO is U+2070, and SUPERSCRIPT FOUR to NINE are U+2074 to U+2079
abbrev pub superscript : ℕ → ℕ
superscript b =
    cond (b == 0x31) 0x00B9
    (cond (b == 0x32) 0x00B2
    (cond (b == 0x33) 0x00B3
    (0x2070 + (b - 0x30))))

-- the superscript of a digit as UTF-8, and nothing of another byte
abbrev pub superscript_text : ℕ → List ℕ
superscript_text b = if digit b then encoded (superscript b) else []

-- the superscripts as UTF-8
abbrev pub superscript_bytes : List ℕ → List ℕ
superscript_bytes ds = encoding (map superscript ds)

-- how many bytes are written, or why none is
abbrev pub answer : List ℕ → ℕ → Result ℕ NotWritten
answer ds room =
    cond (all_digits ds)
    (cond (nat_le (length (superscript_bytes ds)) room) (Ok (length (superscript_bytes ds))) (Err NoRoom))
    (Err NotDigits)

-- what the slice holds then: the superscripts and what stood after their place, or what it held
abbrev pub written : List ℕ → List ℕ → List ℕ
written ds held =
    cond (all_digits ds && nat_le (length (superscript_bytes ds)) (length held))
    (superscript_bytes ds ++ drop (length (superscript_bytes ds)) held)
    held
