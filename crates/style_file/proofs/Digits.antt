-- Hexadecimal, two digits at a time. Assumes nothing.
use Rattle.std.proofs.Common.{◌≡◌, ℕ, zero, suc, ◌+◌, ◌-◌, ◌*◌, ◌<◌, ◌≤◌, Bool, false, ◌&&◌, is_some, List, [], ◌∷◌, ◌++◌, length, get_or, drop, Some, None, Option, sym, refl, ap, ◌∙◌, append_assoc, arith}
use Rattle.std.proofs.lemmas.List.{at_drop_more, length-append}
use Rattle.std.specs.List.{list_all}
use Rattle.std.specs.Option.{option_map}
use Rattle.std.specs.Simd.{first_chunks}
use Rattle.style_file.specs.Files.{appended}
use Rattle.style_file.specs.Words.{then, nibble_of, is_nibble, byte_of, hex_bytes}

abbrev pub pairs_read : List (List ℕ) → Option (List ℕ)
pairs_read [] = Some []
pairs_read (p ∷ ps) = then (byte_of (get_or p 0 0) (get_or p 1 0)) (λ b. option_map (λ xs. b ∷ xs) (pairs_read ps))

pub by_pairs : (n : ℕ) (w : List ℕ) → length w ≡ n * 2 → pairs_read (first_chunks 2 n w) ≡ hex_bytes w
by_pairs zero [] l = refl
by_pairs zero (a ∷ w) l = absurd (omega arith)
by_pairs (suc n) [] l = absurd (omega arith)
by_pairs (suc n) (a ∷ []) l = absurd (omega arith)
by_pairs (suc n) (a ∷ b ∷ w) l = ap (λ o. then (byte_of a b) (λ x. option_map (λ xs. x ∷ xs) o)) (by_pairs n w (omega arith))

no_more : (o : Option ℕ) → ◌≡◌ {A = Option (List ℕ)} None (then o (λ x. option_map (λ xs. x ∷ xs) None))
no_more None = refl
no_more (Some x) = refl

pub one_over : (n : ℕ) (w : List ℕ) → length w ≡ n * 2 + 1 → None ≡ hex_bytes w
one_over n [] l = absurd (omega arith)
one_over n (a ∷ []) l = refl
one_over zero (a ∷ b ∷ w) l = absurd (omega arith)
one_over (suc n) (a ∷ b ∷ w) l = no_more (byte_of a b) ∙ ap (λ o. then (byte_of a b) (λ x. option_map (λ xs. x ∷ xs) o)) (one_over n w (omega arith))

-- a byte that is no digit
no_byte : (o p : Option ℕ) (r : Option (List ℕ)) (t : Bool) → (is_some o && (is_some p && t)) ≡ false → (t ≡ false → None ≡ r) → None ≡ then (then o (λ h. then p (λ l. Some (h * 16 + l)))) (λ x. option_map (λ xs. x ∷ xs) r)
no_byte None p r t e more = refl
no_byte (Some h) None r t e more = refl
no_byte (Some h) (Some l) r t e more = ap (option_map (λ xs. (h * 16 + l) ∷ xs)) (more e)

pub not_hex : (w : List ℕ) → list_all is_nibble w ≡ false → None ≡ hex_bytes w
not_hex [] e = grind arith
not_hex (a ∷ []) e = refl
not_hex (a ∷ b ∷ w) e = no_byte (nibble_of a) (nibble_of b) (hex_bytes w) (list_all is_nibble w) e (not_hex w)

-- what the pairs from that one on give behind the bytes so far
abbrev pub read_behind : List ℕ → List (List ℕ) → Option (List ℕ)
read_behind done ps = option_map (λ xs. done ++ xs) (pairs_read ps)

prepended : (done : List ℕ) (b : ℕ) (o : Option (List ℕ)) → option_map (λ xs. (done ++ (b ∷ [])) ++ xs) o ≡ option_map (λ xs. done ++ xs) (option_map (λ xs. b ∷ xs) o)
prepended done b None = refl
prepended done b (Some xs) = ap Some (append_assoc done (b ∷ []) xs)

pub byte_read : (ps : List (List ℕ)) (i : ℕ) (done : List ℕ) (b : ℕ) → i < length ps → Some b ≡ byte_of (get_or (get_or ps i []) 0 0) (get_or (get_or ps i []) 1 0) → read_behind (done ++ (b ∷ [])) (drop (i + 1) ps) ≡ read_behind done (drop i ps)
byte_read ps i done b l e =
    let more = drop (i + 1) ps in
    prepended done b (pairs_read more)
    ∙ ap (λ o. option_map (λ xs. done ++ xs) (then o (λ x. option_map (λ xs. x ∷ xs) (pairs_read more)))) e
    ∙ sym (at_drop_more (read_behind done) ps i [] l)

-- what stands behind the bytes is as long as they grew
pub stands_behind : (bs new : List ℕ) (o : Option (List ℕ)) → Some new ≡ option_map (λ text. bs ++ text) o → (length bs ≤ length new) × (Some (record { start = length bs; len = length new - length bs }, new) ≡ option_map (appended bs) o)
stands_behind bs new None e = grind arith
stands_behind bs new (Some text) e =
    let grown : new ≡ bs ++ text = grind arith in
    let long : length new ≡ length bs + length text = ap length grown ∙ length-append bs text in
    let rest : length new - length bs ≡ length text = omega (arith, long) in
    (omega (arith, long), λ i. Some (record { start = length bs; len = rest i }, grown i))
