-- UTF-8 as RFC 3629 has it: the encodings of section 3 and the grammar of section 4.
use Rattle.std.specs.Prelude.{◌≡◌, ℕ, ◌+◌, ◌/◌, ◌%◌, Bool, true, cond, not, ◌&&◌, ◌||◌, List, [], ◌∷◌, ◌++◌, nat_le}
use Rattle.std.specs.Str.{chars}

-- ---- section 3

-- 0 to 10FFFF, without the surrogates D800 to DFFF
abbrev pub code_point : ℕ → Bool
code_point c = nat_le c 0x10FFFF && not (nat_le 0xD800 c && nat_le c 0xDFFF)

-- 10xxxxxx, the x being the last six bits
abbrev pub trailing : ℕ → ℕ
trailing bits = 0x80 + bits % 64

-- the row of the table that holds the code point, which is its shortest form
unfoldable pub encoded : ℕ → List ℕ
encoded c =
    cond (nat_le c 0x7F) (c ∷ [])
    (cond (nat_le c 0x7FF) ((0xC0 + c / 64) ∷ trailing c ∷ [])
    (cond (nat_le c 0xFFFF) ((0xE0 + c / 4096) ∷ trailing (c / 64) ∷ trailing c ∷ [])
    ((0xF0 + c / 262144) ∷ trailing (c / 4096) ∷ trailing (c / 64) ∷ trailing c ∷ [])))

abbrev pub code_points : List ℕ → Bool
code_points [] = true
code_points (c ∷ cs) = code_point c && code_points cs

abbrev pub encoding : List ℕ → List ℕ
encoding [] = []
encoding (c ∷ cs) = encoded c ++ encoding cs

-- the bytes are the encoding of some code points
abbrev pub Encoding : List ℕ → Type 0
Encoding bs = (cs : List ℕ) × ((code_points cs ≡ true) × (encoding cs ≡ bs))

-- ---- section 4
--     UTF8-octets = *( UTF8-char )
--     UTF8-char   = UTF8-1 / UTF8-2 / UTF8-3 / UTF8-4

-- %xLO-HI
abbrev pub from : ℕ → ℕ → ℕ → Bool
from lo hi b = nat_le lo b && nat_le b hi

abbrev pub utf8_tail : ℕ → Bool
utf8_tail b = from 0x80 0xBF b

abbrev pub utf8_1 : ℕ → Bool
utf8_1 a = from 0x00 0x7F a

abbrev pub utf8_2 : ℕ → ℕ → Bool
utf8_2 a b = from 0xC2 0xDF a && utf8_tail b

abbrev pub utf8_3 : ℕ → ℕ → ℕ → Bool
utf8_3 a b c =
    (from 0xE0 0xE0 a && from 0xA0 0xBF b && utf8_tail c)
    || (from 0xE1 0xEC a && utf8_tail b && utf8_tail c)
    || (from 0xED 0xED a && from 0x80 0x9F b && utf8_tail c)
    || (from 0xEE 0xEF a && utf8_tail b && utf8_tail c)

abbrev pub utf8_4 : ℕ → ℕ → ℕ → ℕ → Bool
utf8_4 a b c d =
    (from 0xF0 0xF0 a && from 0x90 0xBF b && utf8_tail c && utf8_tail d)
    || (from 0xF1 0xF3 a && utf8_tail b && utf8_tail c && utf8_tail d)
    || (from 0xF4 0xF4 a && from 0x80 0x8F b && utf8_tail c && utf8_tail d)

unfoldable pub octets : List ℕ → Bool
octets [] = true
octets (a ∷ []) = utf8_1 a
octets (a ∷ b ∷ []) = (utf8_1 a && octets (b ∷ [])) || utf8_2 a b
octets (a ∷ b ∷ c ∷ []) = (utf8_1 a && octets (b ∷ c ∷ [])) || (utf8_2 a b && octets (c ∷ [])) || utf8_3 a b c
octets (a ∷ b ∷ c ∷ d ∷ s) =
    (utf8_1 a && octets (b ∷ c ∷ d ∷ s)) || (utf8_2 a b && octets (c ∷ d ∷ s)) || (utf8_3 a b c && octets (d ∷ s)) || (utf8_4 a b c d && octets s)

-- the grammar accepts exactly the encodings
abbrev pub GrammarIsEncoding : Type 0
GrammarIsEncoding = (bs : List ℕ) → (octets bs ≡ true → Encoding bs) × (Encoding bs → octets bs ≡ true)

-- the library's characters of a text are the code points that it encodes
abbrev pub CharactersAreCodePoints : Type 0
CharactersAreCodePoints = (cs : List ℕ) → code_points cs ≡ true → chars (encoding cs) ≡ cs
