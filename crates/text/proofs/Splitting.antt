-- The words of a text, and its first word. Assumes nothing.
use Rattle.std.proofs.Common.{◌≡◌, ℕ, suc, ◌+◌, get_or, ◌<◌, ◌≤◌, Bool, true, false, not, cond, List, [], ◌∷◌, ◌++◌, length, take, drop, Some, None, Option, sym, refl, ap, ◌∙◌, subst, arith}
use Rattle.std.specs.Char.{is_ascii_whitespace}
use Rattle.std.specs.List.{AllByRecursion, prefix_len, position_or_len}
use Rattle.std.proofs.lemmas.Bool.Decides.{nat_tests}
use Rattle.std.proofs.lemmas.Bool.{cond-true, cond-false, cond_both}
use Rattle.std.proofs.lemmas.Str.Ascii.{trim_ascii_start_is}
use Rattle.std.specs.Str.{IsAsciiWhitespaceBelow}
use Rattle.text.proofs.Runs.{cond_not, run_is, past_run}
use Rattle.text.specs.Cuts.{IsCutBefore}
use Rattle.text.specs.Infra.{ascii_white_space, Word, Ends, Splits, led_by, cut, words, WordsAreRuns, skipped, collected, left, collects, first_word, led, FirstWordLeads}

abbrev white : ℕ → Bool
white b = ascii_white_space b

-- ---- white space in front, and other bytes
cut_white : (b : ℕ) (bs : List ℕ) → white b ≡ true → cut (b ∷ bs) ≡ ([], words bs)
cut_white b bs h = cond-true (white b) ([], words bs) (b ∷ (cut bs).0, (cut bs).1) h

cut_other : (b : ℕ) (bs : List ℕ) → white b ≡ false → cut (b ∷ bs) ≡ (b ∷ (cut bs).0, (cut bs).1)
cut_other b bs h = cond-false (white b) ([], words bs) (b ∷ (cut bs).0, (cut bs).1) h

abbrev led_by_pair : List ℕ × List (List ℕ) → List (List ℕ)
led_by_pair p = led_by p.0 p.1

pub words_white : (b : ℕ) (bs : List ℕ) → white b ≡ true → words (b ∷ bs) ≡ words bs
words_white b bs h = ap led_by_pair (cut_white b bs h)

-- ---- a word, and then an end
cut_end : (rest : List ℕ) → Ends rest → cut rest ≡ ([], words rest)
cut_end [] h = refl
cut_end (b ∷ bs) h = cut_white b bs h ∙ ap {B = List ℕ × List (List ℕ)} (λ ws. ([], ws)) (sym (words_white b bs h))

cut_word : (w rest : List ℕ) → AllByRecursion (λ b. white b ≡ false) w → Ends rest → cut (w ++ rest) ≡ (w, words rest)
cut_word [] rest h e = cut_end rest e
cut_word (b ∷ w) rest h e = cut_other b (w ++ rest) h.0 ∙ ap {B = List ℕ × List (List ℕ)} (λ p. (b ∷ p.0, p.1)) (cut_word w rest h.1 e)

pub words_word : (w rest : List ℕ) → Word w → Ends rest → words (w ++ rest) ≡ w ∷ words rest
words_word [] rest h e = absurd (omega arith)
words_word (b ∷ w) rest h e = ap led_by_pair (cut_word (b ∷ w) rest h.1 e)

-- ---- the words are the only split
only : (bs : List ℕ) (ws : List (List ℕ)) → Splits bs ws → ws ≡ words bs
only _ _ Splits.nothing = refl
only _ _ (Splits.skip b bs ws h s) = only bs ws s ∙ sym (words_white b bs h)
only _ _ (Splits.collect w rest bs ws h e is s) = ap {B = List (List ℕ)} (λ vs. w ∷ vs) (only rest ws s) ∙ sym (words_word w rest h e) ∙ ap words (sym is)

-- what is cut off has no white space, an end follows it, and what is left splits into the other words
abbrev Cuts : List ℕ → List ℕ × List (List ℕ) → Type 0
Cuts bs p = (rest : List ℕ) × (bs ≡ p.0 ++ rest) × AllByRecursion (λ b. white b ≡ false) p.0 × Ends rest × Splits rest p.1

from_cut : (bs : List ℕ) (p : List ℕ × List (List ℕ)) → Cuts bs p → Splits bs (led_by p.0 p.1)
from_cut bs p c = by p.0 c.1 c.2
  where
    by : (w : List ℕ) → bs ≡ w ++ c.0 → AllByRecursion (λ b. white b ≡ false) w → Splits bs (led_by w p.1)
    by [] e h = subst (λ l. Splits l p.1) (sym e) c.4
    by (b ∷ w) e h = Splits.collect (b ∷ w) c.0 bs p.1 (omega arith, h) c.3 e c.4

cuts : (bs : List ℕ) → Cuts bs (cut bs)
cuts [] = ([], refl, tt, tt, Splits.nothing)
cuts (b ∷ bs) =
    let c = cuts bs in
    cond_both (white b) ([], words bs) (b ∷ (cut bs).0, (cut bs).1) (Cuts (b ∷ bs))
    (λ h. (b ∷ bs, refl, tt, h, Splits.skip b bs (words bs) h (from_cut bs (cut bs) c)))
    (λ h. (c.0, ap {B = List ℕ} (λ l. b ∷ l) c.1, (h, c.2), c.3, c.4))

pub words_are_runs : WordsAreRuns
words_are_runs bs = (from_cut bs (cut bs) (cuts bs), only bs)

-- ---- the first word
words_skipped : (bs : List ℕ) → words bs ≡ words (skipped bs)
words_skipped [] = refl
words_skipped (b ∷ bs) =
    cond_both (white b) (skipped bs) (b ∷ bs) (λ s. words (b ∷ bs) ≡ words s) (λ h. words_white b bs h ∙ words_skipped bs) (λ _. refl)

collected_left : (bs : List ℕ) → bs ≡ collected bs ++ left bs
collected_left [] = refl
collected_left (b ∷ bs) =
    elim (white b) as (λ t. (b ∷ bs) ≡ cond t [] (b ∷ collected bs) ++ cond t (b ∷ bs) (left bs)) [
      | true ↦ refl
      | false ↦ ap {B = List ℕ} (λ l. b ∷ l) (collected_left bs)
    ]

collected_others : (bs : List ℕ) → AllByRecursion (λ b. white b ≡ false) (collected bs)
collected_others [] = tt
collected_others (b ∷ bs) =
    cond_both (white b) [] (b ∷ collected bs) (AllByRecursion (λ x. white x ≡ false)) (λ _. tt) (λ h. (h, collected_others bs))

left_ends : (bs : List ℕ) → Ends (left bs)
left_ends [] = tt
left_ends (b ∷ bs) = cond_both (white b) (b ∷ bs) (left bs) Ends (λ h. h) (λ _. left_ends bs)

abbrev Begins : List ℕ → Type 0
Begins [] = Unit {0}
Begins (b ∷ bs) = white b ≡ false

skipped_begins : (bs : List ℕ) → Begins (skipped bs)
skipped_begins [] = tt
skipped_begins (b ∷ bs) = cond_both (white b) (skipped bs) (b ∷ bs) Begins (λ _. skipped_begins bs) (λ h. h)

leads : (s : List ℕ) → Begins s → words s ≡ led (collects s)
leads [] h = refl
leads (b ∷ bs) h =
    let long = ap length (cond-false (white b) [] (b ∷ collected bs) h) in
    ap words (collected_left (b ∷ bs))
    ∙ words_word (collected (b ∷ bs)) (left (b ∷ bs)) (omega (arith, long), collected_others (b ∷ bs)) (left_ends (b ∷ bs))

pub first_word_leads : FirstWordLeads
first_word_leads bs = words_skipped bs ∙ leads (skipped bs) (skipped_begins bs)

pub words_from_some : (bs w rest : List ℕ) → Some (w, rest) ≡ first_word bs → words bs ≡ w ∷ words rest
words_from_some bs w rest e = first_word_leads bs ∙ ap led (sym e)

pub words_from_none : (bs : List ℕ) → None ≡ first_word bs → words bs ≡ []
words_from_none bs e = first_word_leads bs ∙ ap led (sym e)

-- ---- by the lengths that the library finds
white_is : (b : ℕ) → white b ≡ is_ascii_whitespace b
white_is b = grind (arith, nat_tests)

skipped_is : (s : List ℕ) → drop (prefix_len is_ascii_whitespace s) s ≡ skipped s
skipped_is = past_run is_ascii_whitespace skipped refl (λ b bs. ap (λ t. cond t (skipped bs) (b ∷ bs)) (white_is b))

pub trimmed : (s r : List ℕ) (n : ℕ) → r ≡ drop n s → length r + n ≡ length s → IsAsciiWhitespaceBelow s n → (n < length s → is_ascii_whitespace (get_or s n 0) ≡ false) → r ≡ skipped s
trimmed s r n cut long white other = trim_ascii_start_is s r (n, cut, long, white, other) ∙ skipped_is s

abbrev other : ℕ → Bool
other b = not (white b)

collected_is : (s : List ℕ) → take (position_or_len ascii_white_space s) s ≡ collected s
collected_is = run_is other collected refl (λ b bs. sym (cond_not (white b) (b ∷ collected bs) []))

left_is : (s : List ℕ) → drop (position_or_len ascii_white_space s) s ≡ left s
left_is = past_run other left refl (λ b bs. sym (cond_not (white b) (left bs) (b ∷ bs)))

pub cut_is : (s front back : List ℕ) → IsCutBefore ascii_white_space s front back → (front ≡ collected s) × (back ≡ left s)
cut_is s front back cut = (cut.0 ∙ collected_is s, cut.1 ∙ left_is s)

pub first_word_is : (bs s front back : List ℕ) → s ≡ skipped bs → 0 < length s → front ≡ collected s → back ≡ left s → Some (front, back) ≡ first_word bs
first_word_is bs [] front back e h f g = absurd (omega arith)
first_word_is bs (b ∷ s) front back e h f g = (λ i. Some (f i, g i)) ∙ ap collects e

-- ---- what follows the first word is shorter
left_le : (bs : List ℕ) → length (left bs) ≤ length bs
left_le [] = omega arith
left_le (b ∷ bs) = cond_both (white b) (b ∷ bs) (left bs) (λ l. length l ≤ suc (length bs)) (λ _. omega arith) (λ _. omega (arith, left_le bs))

skipped_le : (bs : List ℕ) → length (skipped bs) ≤ length bs
skipped_le [] = omega arith
skipped_le (b ∷ bs) = cond_both (white b) (skipped bs) (b ∷ bs) (λ l. length l ≤ suc (length bs)) (λ _. omega (arith, skipped_le bs)) (λ _. omega arith)

abbrev Shorter : ℕ → Option (List ℕ × List ℕ) → Type 0
Shorter n None = Unit {0}
Shorter n (Some p) = length p.1 < n

collects_shorter : (s : List ℕ) (n : ℕ) → Begins s → length s ≤ n → Shorter n (collects s)
collects_shorter [] n h l = tt
collects_shorter (b ∷ bs) n h l = subst (λ x. length x < n) (sym (cond-false (white b) (b ∷ bs) (left bs) h)) (omega (arith, left_le bs))

pub rest_shorter : (bs : List ℕ) (p : List ℕ × List ℕ) → Some p ≡ first_word bs → length p.1 < length bs
rest_shorter bs p e = subst (Shorter (length bs)) (sym e) (collects_shorter (skipped bs) (length bs) (skipped_begins bs) (skipped_le bs))
