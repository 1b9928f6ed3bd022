-- The table of RFC 3629 and the library's UTF-8, the encodings of scalar values, are one. Assumes nothing.
use Rattle.std.proofs.Common.{◌≡◌, ℕ, ◌+◌, ◌-◌, ◌*◌, ◌/◌, ◌<◌, ◌≤◌, Bool, true, ◌&&◌, leb, ◌⊎◌, List, [], ◌∷◌, ◌++◌, IsUtf8, sym, refl, ap, ◌∙◌, subst, inl, inr, ⊎_elim, arith}
use lib.Utf8.{scalar, scalars, encode, encodes, next, scalar_cases, low_scalar}
use Rattle.std.proofs.lemmas.Bool.{and_parts, and_from, or_cases, or_left, or_right, leb-true, le-leb, cases_lt}
use Rattle.std.proofs.lemmas.Bool.Decides.{nat_tests}
use Rattle.std.specs.Str.{chars}
use Rattle.std.proofs.lemmas.Str.{chars-encodes, IsUtf8-append, IsUtf8-encode, IsUtf8-nil}
use Rattle.std.proofs.str.Laws.{Scalar, Follows, one, two, three, four}
use Rattle.text.specs.Rfc3629.{from, utf8_tail, utf8_1, utf8_2, utf8_3, utf8_4, octets, code_point, encoded, code_points, encoding, GrammarIsEncoding, CharactersAreCodePoints}

in_range : (lo hi b : ℕ) → from lo hi b ≡ true → (lo ≤ b) × (b ≤ hi)
in_range lo hi b e = let p = and_parts (leb lo b) (leb b hi) e in (leb-true lo b p.0, leb-true b hi p.1)

ranged : (lo hi b : ℕ) → lo ≤ b → b ≤ hi → from lo hi b ≡ true
ranged lo hi b l h = and_from (leb lo b) (leb b hi) (le-leb lo b l) (le-leb b hi h)

-- ---- what each line of the table says of numbers
abbrev Three : ℕ → ℕ → ℕ → Type 0
Three a b c = (224 ≤ a) × (a < 240) × Follows b × Follows c × (a ≡ 224 → 160 ≤ b) × (a ≡ 237 → b < 160)

abbrev Four : ℕ → ℕ → ℕ → ℕ → Type 0
Four a b c d = (240 ≤ a) × (a < 245) × Follows b × Follows c × Follows d × (a ≡ 240 → 144 ≤ b) × (a ≡ 244 → b < 144)

three_is : (a b c : ℕ) → Three a b c → utf8_3 a b c ≡ true
three_is a b c h = grind (arith, nat_tests)

four_is : (a b c d : ℕ) → Four a b c d → utf8_4 a b c d ≡ true
four_is a b c d h = grind (arith, nat_tests)

abbrev In : ℕ → ℕ → ℕ → Type 0
In lo hi b = (lo ≤ b) × (b ≤ hi)

line3 : (l h m k a b c : ℕ) → (from l h a && from m k b && utf8_tail c) ≡ true → In l h a × In m k b × In 128 191 c
line3 l h m k a b c e =
    let p = and_parts (from l h a && from m k b) (utf8_tail c) e in
    let q = and_parts (from l h a) (from m k b) p.0 in
    (in_range l h a q.0, in_range m k b q.1, in_range 128 191 c p.1)

line4 : (l h m k a b c d : ℕ) → (from l h a && from m k b && utf8_tail c && utf8_tail d) ≡ true → In l h a × In m k b × In 128 191 c × In 128 191 d
line4 l h m k a b c d e =
    let p = and_parts (from l h a && from m k b && utf8_tail c) (utf8_tail d) e in
    let q = line3 l h m k a b c p.0 in
    (q.0, q.1, q.2, in_range 128 191 d p.1)

three_says : (a b c : ℕ) → utf8_3 a b c ≡ true → Three a b c
three_says a b c e =
    ⊎_elim (λ f. ⊎_elim (λ g. ⊎_elim
    (λ h. let r = line3 224 224 160 191 a b c h in (omega arith, omega arith, (omega arith, omega arith), (omega arith, omega arith), (λ _. omega arith), (λ z. absurd (omega arith))))
    (λ h. let r = line3 225 236 128 191 a b c h in (omega arith, omega arith, (omega arith, omega arith), (omega arith, omega arith), (λ z. absurd (omega arith)), (λ z. absurd (omega arith))))
    (or_cases _ _ g))
    (λ h. let r = line3 237 237 128 159 a b c h in (omega arith, omega arith, (omega arith, omega arith), (omega arith, omega arith), (λ z. absurd (omega arith)), (λ _. omega arith)))
    (or_cases _ _ f))
    (λ h. let r = line3 238 239 128 191 a b c h in (omega arith, omega arith, (omega arith, omega arith), (omega arith, omega arith), (λ z. absurd (omega arith)), (λ z. absurd (omega arith))))
    (or_cases _ _ e)

four_says : (a b c d : ℕ) → utf8_4 a b c d ≡ true → Four a b c d
four_says a b c d e =
    ⊎_elim (λ f. ⊎_elim
    (λ h. let r = line4 240 240 144 191 a b c d h in (omega arith, omega arith, (omega arith, omega arith), (omega arith, omega arith), (omega arith, omega arith), (λ _. omega arith), (λ z. absurd (omega arith))))
    (λ h. let r = line4 241 243 128 191 a b c d h in (omega arith, omega arith, (omega arith, omega arith), (omega arith, omega arith), (omega arith, omega arith), (λ z. absurd (omega arith)), (λ z. absurd (omega arith))))
    (or_cases _ _ f))
    (λ h. let r = line4 244 244 128 143 a b c d h in (omega arith, omega arith, (omega arith, omega arith), (omega arith, omega arith), (omega arith, omega arith), (λ z. absurd (omega arith)), (λ _. omega arith)))
    (or_cases _ _ e)

-- ---- from the library's: each character's bytes are on a line of the table
step_1 : (a : ℕ) (s : List ℕ) → utf8_1 a ≡ true → octets s ≡ true → octets (a ∷ s) ≡ true
unfolding octets
step_1 a [] h r = h
step_1 a (b ∷ []) h r = or_left _ _ (and_from _ _ h r)
step_1 a (b ∷ c ∷ []) h r = or_left _ _ (or_left _ _ (and_from _ _ h r))
step_1 a (b ∷ c ∷ d ∷ s) h r = or_left _ _ (or_left _ _ (or_left _ _ (and_from _ _ h r)))

step_2 : (a b : ℕ) (s : List ℕ) → utf8_2 a b ≡ true → octets s ≡ true → octets (a ∷ b ∷ s) ≡ true
unfolding octets
step_2 a b [] h r = or_right _ _ h
step_2 a b (c ∷ []) h r = or_left _ _ (or_right _ _ (and_from _ _ h r))
step_2 a b (c ∷ d ∷ s) h r = or_left _ _ (or_left _ _ (or_right _ _ (and_from _ _ h r)))

step_3 : (a b c : ℕ) (s : List ℕ) → utf8_3 a b c ≡ true → octets s ≡ true → octets (a ∷ b ∷ c ∷ s) ≡ true
unfolding octets
step_3 a b c [] h r = or_right _ _ h
step_3 a b c (d ∷ s) h r = or_left _ _ (or_right _ _ (and_from _ _ h r))

step_4 : (a b c d : ℕ) (s : List ℕ) → utf8_4 a b c d ≡ true → octets s ≡ true → octets (a ∷ b ∷ c ∷ d ∷ s) ≡ true
unfolding octets
step_4 a b c d s h r = or_right _ _ (and_from _ _ h r)

-- a character's bytes are on a line of the table
char_in : (c : ℕ) (s : List ℕ) → Scalar c → octets s ≡ true → octets (encode c ++ s) ≡ true
char_in c s k r = by (cases_lt c 128) (cases_lt c 2048) (cases_lt c 65536)
  where
    by : (c < 128) ⊎ (128 ≤ c) → (c < 2048) ⊎ (2048 ≤ c) → (c < 65536) ⊎ (65536 ≤ c) → octets (encode c ++ s) ≡ true
    by (inl h) _ _ = ap (λ p. octets (p ++ s)) (one c h) ∙ step_1 c s (ranged 0 127 c (omega arith) (omega arith)) r
    by (inr l) (inl h) _ =
        ap (λ p. octets (p ++ s)) (two c l h)
        ∙ step_2 (192 + c / 64) (next c) s (and_from _ _ (ranged 194 223 (192 + c / 64) (omega arith) (omega arith)) (ranged 128 191 (next c) (omega arith) (omega arith))) r
    by (inr _) (inr l) (inl h) =
        let a = 224 + c / 4096 in
        let b = next (c / 64) in
        let d = next c in
        let is : c + 925824 ≡ a * 4096 + b * 64 + d = omega arith in
        let f : Follows b = (omega arith, omega arith) in
        let g : Follows d = (omega arith, omega arith) in
        let not_high : a ≡ 237 → b < 160 = λ z. ⊎_elim (λ q. omega arith) (λ q. absurd (omega arith)) k in
        ap (λ p. octets (p ++ s)) (three c l h)
        ∙ step_3 a b d s (three_is a b d (omega arith, omega arith, f, g, (λ z. omega arith), not_high)) r
    by (inr _) (inr _) (inr l) =
        let a = 240 + c / 262144 in
        let b = next (c / 4096) in
        let d = next (c / 64) in
        let e = next c in
        let top : c < 1114112 = ⊎_elim (λ q. omega arith) (λ q. q.1) k in
        let is : c + 63447168 ≡ a * 262144 + b * 4096 + d * 64 + e = omega arith in
        let f : Follows b = (omega arith, omega arith) in
        let g : Follows d = (omega arith, omega arith) in
        let j : Follows e = (omega arith, omega arith) in
        ap (λ p. octets (p ++ s)) (four c l)
        ∙ step_4 a b d e s (four_is a b d e (omega arith, omega arith, f, g, j, (λ z. omega arith), (λ z. omega arith))) r

pub to_table : (bs : List ℕ) → IsUtf8 bs → octets bs ≡ true
unfolding octets
to_table bs u = ap octets (sym u.1.1) ∙ all u.0 u.1.0
  where
    all : (cs : List ℕ) → scalars cs ≡ true → octets (encodes cs) ≡ true
    all [] h = refl
    all (c ∷ cs) h = let p = and_parts (scalar c) (scalars cs) h in char_in c (encodes cs) (scalar_cases c p.0) (all cs p.1)

-- ---- to the library's
text_1 : (a : ℕ) → utf8_1 a ≡ true → IsUtf8 (a ∷ [])
text_1 a h = let r = in_range 0 127 a h in subst IsUtf8 (one a (omega arith)) (IsUtf8-encode a (low_scalar a (omega arith)))

text_2 : (a b : ℕ) → utf8_2 a b ≡ true → IsUtf8 (a ∷ b ∷ [])
text_2 a b h =
    let t = and_parts (from 194 223 a) (utf8_tail b) h in
    let r = in_range 194 223 a t.0 in
    let f = in_range 128 191 b t.1 in
    let c = (a - 192) * 64 + (b - 128) in
    let p : a ≡ 192 + c / 64 = omega arith in
    let q : b ≡ next c = omega arith in
    subst IsUtf8 (two c (omega arith) (omega arith) ∙ (λ i. sym p i ∷ sym q i ∷ [])) (IsUtf8-encode c (low_scalar c (omega arith)))

high : (c : ℕ) → 57344 ≤ c → c < 1114112 → scalar c ≡ true
high c l h = grind (arith, nat_tests)

digits_3 : (a b d c : ℕ) → 224 ≤ a → Follows b → Follows d → c ≡ (a - 224) * 4096 + (b - 128) * 64 + (d - 128) → (a ≡ 224 + c / 4096) × (b ≡ next (c / 64)) × (d ≡ next c)
digits_3 a b d c h f g e =
    let m : c / 64 ≡ (a - 224) * 64 + (b - 128) = omega arith in
    (omega arith, subst (λ n. b ≡ next n) (sym m) (omega arith), omega arith)

digits_4 : (a b d e c : ℕ) → 240 ≤ a → Follows b → Follows d → Follows e → c ≡ (a - 240) * 262144 + (b - 128) * 4096 + (d - 128) * 64 + (e - 128) → (a ≡ 240 + c / 262144) × (b ≡ next (c / 4096)) × (d ≡ next (c / 64)) × (e ≡ next c)
digits_4 a b d e c h f g j is =
    let k : c / 4096 ≡ (a - 240) * 64 + (b - 128) = omega arith in
    let m : c / 64 ≡ (a - 240) * 4096 + (b - 128) * 64 + (d - 128) = omega arith in
    (omega arith, subst (λ n. b ≡ next n) (sym k) (omega arith), subst (λ n. d ≡ next n) (sym m) (omega arith), omega arith)

text_3 : (a b d : ℕ) → utf8_3 a b d ≡ true → IsUtf8 (a ∷ b ∷ d ∷ [])
text_3 a b d h =
    let t = three_says a b d h in
    let f = t.2 in
    let g = t.3 in
    let c = (a - 224) * 4096 + (b - 128) * 64 + (d - 128) in
    let w = digits_3 a b d c t.0 f g refl in
    let low : 2048 ≤ c = ⊎_elim (λ z. omega (arith, t.4 (let e : a ≡ 224 = omega arith in e))) (λ z. omega arith) (cases_lt a 225) in
    let gap : (c < 55296) ⊎ (57344 ≤ c) = ⊎_elim (λ z. inl (omega arith)) (λ z. ⊎_elim (λ y. inl (omega (arith, t.5 (let e : a ≡ 237 = omega arith in e)))) (λ y. inr (omega arith)) (cases_lt a 238)) (cases_lt a 237) in
    subst IsUtf8 (three c low (omega arith) ∙ (λ i. sym w.0 i ∷ sym w.1 i ∷ sym w.2 i ∷ [])) (IsUtf8-encode c (⊎_elim (low_scalar c) (λ y. high c y (omega arith)) gap))

text_4 : (a b d e : ℕ) → utf8_4 a b d e ≡ true → IsUtf8 (a ∷ b ∷ d ∷ e ∷ [])
text_4 a b d e h =
    let t = four_says a b d e h in
    let f = t.2 in
    let g = t.3 in
    let j = t.4 in
    let c = (a - 240) * 262144 + (b - 128) * 4096 + (d - 128) * 64 + (e - 128) in
    let w = digits_4 a b d e c t.0 f g j refl in
    let low : 65536 ≤ c = ⊎_elim (λ z. omega (arith, t.5 (let e' : a ≡ 240 = omega arith in e'))) (λ z. omega arith) (cases_lt a 241) in
    let top : c < 1114112 = ⊎_elim (λ z. omega arith) (λ z. omega (arith, t.6 (let e' : a ≡ 244 = omega arith in e'))) (cases_lt a 244) in
    subst IsUtf8 (four c low ∙ (λ i. sym w.0 i ∷ sym w.1 i ∷ sym w.2 i ∷ sym w.3 i ∷ [])) (IsUtf8-encode c (high c (omega arith) top))

-- a line of the table, and then more
joins : (xs ys : List ℕ) (x y : Bool) → (x && y) ≡ true → (x ≡ true → IsUtf8 xs) → (y ≡ true → IsUtf8 ys) → IsUtf8 (xs ++ ys)
joins xs ys x y e f g = let q = and_parts x y e in IsUtf8-append xs ys (f q.0) (g q.1)

pub from_table : (bs : List ℕ) → octets bs ≡ true → IsUtf8 bs
unfolding octets
from_table [] h = IsUtf8-nil
from_table (a ∷ []) h = text_1 a h
from_table (a ∷ b ∷ []) h =
    ⊎_elim (λ p. joins (a ∷ []) (b ∷ []) _ _ p (text_1 a) (from_table (b ∷ [])))
    (text_2 a b) (or_cases _ _ h)
from_table (a ∷ b ∷ c ∷ []) h =
    ⊎_elim (λ k. ⊎_elim (λ p. joins (a ∷ []) (b ∷ c ∷ []) _ _ p (text_1 a) (from_table (b ∷ c ∷ [])))
    (λ p. joins (a ∷ b ∷ []) (c ∷ []) _ _ p (text_2 a b) (from_table (c ∷ []))) (or_cases _ _ k))
    (text_3 a b c) (or_cases _ _ h)
from_table (a ∷ b ∷ c ∷ d ∷ s) h =
    ⊎_elim (λ k. ⊎_elim (λ l. ⊎_elim (λ p. joins (a ∷ []) (b ∷ c ∷ d ∷ s) _ _ p (text_1 a) (from_table (b ∷ c ∷ d ∷ s)))
    (λ p. joins (a ∷ b ∷ []) (c ∷ d ∷ s) _ _ p (text_2 a b) (from_table (c ∷ d ∷ s))) (or_cases _ _ l))
    (λ p. joins (a ∷ b ∷ c ∷ []) (d ∷ s) _ _ p (text_3 a b c) (from_table (d ∷ s))) (or_cases _ _ k))
    (λ p. joins (a ∷ b ∷ c ∷ d ∷ []) s _ _ p (text_4 a b c d) (from_table s)) (or_cases _ _ h)

-- ---- section 3 and the library's encodings are one
point_is : (c : ℕ) → code_point c ≡ scalar c
point_is c = grind (arith, nat_tests)

encoded_is : (c : ℕ) → encoded c ≡ encode c
unfolding encoded encode
encoded_is c = grind (arith, nat_tests)

points_are : (cs : List ℕ) → code_points cs ≡ scalars cs
points_are [] = refl
points_are (c ∷ cs) = rw (point_is c, points_are cs)

encoding_is : (cs : List ℕ) → encoding cs ≡ encodes cs
encoding_is [] = refl
encoding_is (c ∷ cs) = rw (encoded_is c, encoding_is cs)

pub grammar_is_encoding : GrammarIsEncoding
grammar_is_encoding bs = (
  (λ h. let u = from_table bs h in (u.0, (points_are u.0 ∙ u.1.0, encoding_is u.0 ∙ u.1.1))),
  (λ e. to_table bs (e.0, (sym (points_are e.0) ∙ e.1.0, sym (encoding_is e.0) ∙ e.1.1))),
)

pub characters_are_code_points : CharactersAreCodePoints
characters_are_code_points cs h = ap chars (encoding_is cs) ∙ chars-encodes cs (sym (points_are cs) ∙ h)
