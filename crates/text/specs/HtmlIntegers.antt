-- HTML's rules for parsing integers.
use Rattle.std.specs.Prelude.{ℕ, ◌+◌, ◌-◌, ◌*◌, ◌^◌, Bool, cond, ◌&&◌, List, [], ◌∷◌, ℤ, pos, neg_ℤ, Some, None, fold, Option, ◌==◌, int_le, int_lt, nat_le, nat_lt}
use Rattle.std.specs.Option.{option_map}
use Rattle.text.specs.Infra.{skipped}

-- an ASCII digit, U+0030 (0) to U+0039 (9)
abbrev pub digit : ℕ → Bool
digit b = nat_le 0x30 b && nat_le b 0x39

-- collect ASCII digits
abbrev pub digits : List ℕ → List ℕ
digits [] = []
digits (b ∷ bs) = cond (digit b) (b ∷ digits bs) []

-- the digits read on, after those that gave n
abbrev pub read_on : ℕ → List ℕ → ℕ
read_on n ds = fold (λ m d. m * 10 + (d - 0x30)) n ds

-- the digits as a base-ten integer; where there is none, an error
abbrev pub base_ten : List ℕ → Option ℕ
base_ten [] = None
base_ten (d ∷ ds) = Some (read_on 0 (d ∷ ds))

abbrev pub magnitude : List ℕ → Option ℕ
magnitude bs = base_ten (digits bs)

-- a U+002D (-) makes it negative, and a U+002B (+) is passed over
abbrev pub with_sign : List ℕ → Option ℤ
with_sign [] = None
with_sign (b ∷ bs) =
    cond (b == 0x2D) (option_map (λ n. neg_ℤ (pos n)) (magnitude bs))
    (cond (b == 0x2B) (option_map pos (magnitude bs))
    (option_map pos (magnitude (b ∷ bs))))

-- the integer that the text gives, or an error
abbrev pub integer : List ℕ → Option ℤ
integer bs = with_sign (skipped bs)

-- ---- ranges

-- -2^63 to 2^63 - 1
abbrev pub i64_range : ℤ → Bool
i64_range z = int_le (neg_ℤ (pos (2 ^ 63))) z && int_lt z (pos (2 ^ 63))

abbrev pub in_i64 : Option ℤ → Option ℤ
in_i64 None = None
in_i64 (Some z) = cond (i64_range z) (Some z) None

abbrev pub in_u64 : Option ℕ → Option ℕ
in_u64 None = None
in_u64 (Some n) = cond (nat_lt n (2 ^ 64)) (Some n) None
