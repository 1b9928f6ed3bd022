-- HTML's integers, digit by digit. Assumes nothing.
use Rattle.std.proofs.Common.{◌≡◌, ℕ, ◌+◌, ◌-◌, ◌*◌, ◌^◌, ◌<◌, ◌≤◌, true, false, ltb, List, [], ◌∷◌, length, get_or, drop, Some, None, Option, sym, refl, ap, ◌∙◌, arith}
use Rattle.std.proofs.lemmas.List.{at_drop_more, at_drop_all}
use Rattle.std.proofs.lemmas.Bool.{cond-true, cond-false, lt-ltb, le-ltb}
use Rattle.text.specs.HtmlIntegers.{digit, digits, read_on, base_ten, magnitude, in_u64}

-- ---- digits
digits_more : (b : ℕ) (bs : List ℕ) → digit b ≡ true → digits (b ∷ bs) ≡ b ∷ digits bs
digits_more b bs h = cond-true (digit b) (b ∷ digits bs) [] h

digits_end : (b : ℕ) (bs : List ℕ) → digit b ≡ false → digits (b ∷ bs) ≡ []
digits_end b bs h = cond-false (digit b) (b ∷ digits bs) [] h

pub magnitude_none : (s : List ℕ) → length s ≡ 0 → None ≡ in_u64 (magnitude s)
magnitude_none [] e = refl
magnitude_none (b ∷ bs) e = absurd (omega arith)

pub magnitude_other : (s : List ℕ) → 0 < length s → digit (get_or s 0 0) ≡ false → None ≡ in_u64 (magnitude s)
magnitude_other [] l h = absurd (omega arith)
magnitude_other (b ∷ bs) l h = sym (ap (λ ds. in_u64 (base_ten ds)) (digits_end b bs h))

magnitude_some : (s : List ℕ) → 0 < length s → digit (get_or s 0 0) ≡ true → magnitude s ≡ Some (read_on 0 (digits s))
magnitude_some [] l h = absurd (omega arith)
magnitude_some (b ∷ bs) l h = ap base_ten (digits_more b bs h) ∙ sym (ap {B = Option ℕ} (λ ds. Some (read_on 0 ds)) (digits_more b bs h))

-- ---- the loop: s begins with a digit, and v is the value of the digits before i
abbrev pub Reads : List ℕ → ℕ → ℕ → Type 0
Reads s v i = read_on v (digits (drop i s)) ≡ read_on 0 (digits s)

read_ge : (n : ℕ) (ds : List ℕ) → n ≤ read_on n ds
read_ge n [] = omega arith
read_ge n (d ∷ ds) = omega (arith, read_ge (n * 10 + (d - 48)) ds)

one_more : (s : List ℕ) (v i : ℕ) → i < length s → digit (get_or s i 0) ≡ true → read_on v (digits (drop i s)) ≡ read_on (v * 10 + (get_or s i 0 - 48)) (digits (drop (i + 1) s))
one_more s v i l h = at_drop_more (λ t. read_on v (digits t)) s i 0 l ∙ ap (read_on v) (digits_more (get_or s i 0) (drop (i + 1) s) h)

pub reads_more : (s : List ℕ) (v i n : ℕ) → i < length s → digit (get_or s i 0) ≡ true → n ≡ v * 10 + (get_or s i 0 - 48) → Reads s v i → Reads s n (i + 1)
reads_more s v i n l h e r = ap (λ m. read_on m (digits (drop (i + 1) s))) e ∙ sym (one_more s v i l h) ∙ r

-- a value that does not fit, though more digits follow, is none
pub reads_over : (s : List ℕ) (v i : ℕ) → 0 < length s → digit (get_or s 0 0) ≡ true → i < length s → digit (get_or s i 0) ≡ true → 2 ^ 64 ≤ v * 10 + (get_or s i 0 - 48) → Reads s v i → None ≡ in_u64 (magnitude s)
reads_over s v i p f l h big r =
    let rest = digits (drop (i + 1) s) in
    let n = v * 10 + (get_or s i 0 - 48) in
    let is : read_on 0 (digits s) ≡ read_on n rest = sym r ∙ one_more s v i l h in
    let over : 2 ^ 64 ≤ read_on 0 (digits s) = omega (arith, is, read_ge n rest) in
    sym (ap in_u64 (magnitude_some s p f) ∙ cond-false (ltb (read_on 0 (digits s)) (2 ^ 64)) (Some (read_on 0 (digits s))) None (le-ltb _ _ over))

whole : (s : List ℕ) (v : ℕ) → 0 < length s → digit (get_or s 0 0) ≡ true → v < 2 ^ 64 → v ≡ read_on 0 (digits s) → Some v ≡ in_u64 (magnitude s)
whole s v p f fits e = sym (ap in_u64 (magnitude_some s p f ∙ ap {B = Option ℕ} Some (sym e)) ∙ cond-true (ltb v (2 ^ 64)) (Some v) None (lt-ltb _ _ fits))

pub reads_stop : (s : List ℕ) (v i : ℕ) → 0 < length s → digit (get_or s 0 0) ≡ true → v < 2 ^ 64 → i < length s → digit (get_or s i 0) ≡ false → Reads s v i → Some v ≡ in_u64 (magnitude s)
reads_stop s v i p f fits l h r = whole s v p f fits (sym (at_drop_more (λ t. read_on v (digits t)) s i 0 l ∙ ap (read_on v) (digits_end (get_or s i 0) (drop (i + 1) s) h)) ∙ r)

pub reads_all : (s : List ℕ) (v i : ℕ) → 0 < length s → digit (get_or s 0 0) ≡ true → v < 2 ^ 64 → length s ≤ i → Reads s v i → Some v ≡ in_u64 (magnitude s)
reads_all s v i p f fits l r = whole s v p f fits (sym (at_drop_all (λ t. read_on v (digits t)) s i l) ∙ r)
