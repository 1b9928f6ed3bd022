-- A text has as many characters as first octets. Assumes nothing.
use Rattle.std.proofs.Common.{◌≡◌, ℕ, ◌+◌, ◌/◌, ◌<◌, ◌≤◌, cond, ◌⊎◌, List, [], ◌∷◌, length, IsUtf8, sym, refl, ap, ◌∙◌, inl, inr, arith}
use lib.Utf8.{encode, encodes, next}
use Rattle.std.specs.Str.{chars}
use Rattle.std.proofs.lemmas.List.Sums.{sum_by-cons, sum_by-append}
use Rattle.std.proofs.lemmas.Bool.{cases_lt}
use Rattle.std.proofs.lemmas.Str.{chars_from_encodes}
use Rattle.std.proofs.lemmas.Bool.Decides.{nat_tests}
use Rattle.std.proofs.str.Laws.{one, two, three, four}
use Rattle.text.specs.CodePoints.{first_octet, first_octets}

abbrev unit : ℕ → ℕ
unit b = cond (first_octet b) 1 0

low : (b : ℕ) → b < 128 → unit b ≡ 1
low b h = grind (arith, nat_tests)

lead : (b : ℕ) → 192 ≤ b → unit b ≡ 1
lead b h = grind (arith, nat_tests)

tail : (b : ℕ) → 128 ≤ b → b < 192 → unit b ≡ 0
tail b h k = grind (arith, nat_tests)

last : (b : ℕ) → first_octets (b ∷ []) ≡ unit b
last b = omega (arith, sum_by-cons unit b [])

follows : (c : ℕ) → unit (next c) ≡ 0
follows c = tail (next c) (omega arith) (omega arith)

char_has_one : (c : ℕ) → first_octets (encode c) ≡ 1
char_has_one c = by (cases_lt c 128) (cases_lt c 2048) (cases_lt c 65536)
  where
    by : (c < 128) ⊎ (128 ≤ c) → (c < 2048) ⊎ (2048 ≤ c) → (c < 65536) ⊎ (65536 ≤ c) → first_octets (encode c) ≡ 1
    by (inl h) _ _ = ap first_octets (one c h) ∙ last c ∙ low c h
    by (inr l) (inl h) _ =
        ap first_octets (two c l h)
        ∙ omega (arith, sum_by-cons unit (192 + c / 64) (next c ∷ []), last (next c), lead (192 + c / 64) (omega arith), follows c)
    by (inr _) (inr l) (inl h) =
        ap first_octets (three c l h)
        ∙ omega (arith, sum_by-cons unit (224 + c / 4096) (next (c / 64) ∷ next c ∷ []), sum_by-cons unit (next (c / 64)) (next c ∷ []), last (next c), lead (224 + c / 4096) (omega arith), follows (c / 64), follows c)
    by (inr _) (inr _) (inr l) =
        ap first_octets (four c l)
        ∙ omega (arith, sum_by-cons unit (240 + c / 262144) (next (c / 4096) ∷ next (c / 64) ∷ next c ∷ []), sum_by-cons unit (next (c / 4096)) (next (c / 64) ∷ next c ∷ []), sum_by-cons unit (next (c / 64)) (next c ∷ []), last (next c), lead (240 + c / 262144) (omega arith), follows (c / 4096), follows (c / 64), follows c)

chars_have : (cs : List ℕ) → first_octets (encodes cs) ≡ length cs
chars_have [] = refl
chars_have (c ∷ cs) = omega (arith, sum_by-append unit (encode c) (encodes cs), char_has_one c, chars_have cs)

pub first_octets_are : (bs : List ℕ) → IsUtf8 bs → first_octets bs ≡ length (chars bs)
first_octets_are bs u = ap first_octets (sym u.1.1) ∙ chars_have u.0 ∙ ap length (chars_from_encodes u.0 bs u u.1.1)
