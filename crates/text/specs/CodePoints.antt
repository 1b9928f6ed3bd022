-- How many code points a text has, told by its octets (RFC 3629).
use Rattle.std.specs.Prelude.{ℕ, Bool, not, List, count_by}
use Rattle.text.specs.Rfc3629.{utf8_tail}

-- the first octet of a code point is none of 80 to BF, and each other octet is
abbrev pub first_octet : ℕ → Bool
first_octet b = not (utf8_tail b)

-- so there are as many code points as first octets
abbrev pub first_octets : List ℕ → ℕ
first_octets bytes = count_by first_octet bytes
