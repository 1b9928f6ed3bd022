-- A word compared by its length and its bytes. Assumes nothing.
use Rattle.std.proofs.Common.{◌≡◌, ℕ, suc, Bool, true, false, ◌&&◌, eqb, List, [], ◌∷◌, length, get_or, refl, ap, ◌∙◌, sym, arith}
use Rattle.std.proofs.lemmas.Bool.Decides.{nat_tests}
use Rattle.std.specs.Str.{bytes_eq}

-- the bytes of p stand in w, from that index on
abbrev pub reads : List ℕ → ℕ → List ℕ → Bool
reads w i [] = true
reads w i (c ∷ p) = eqb (get_or w i 0) c && reads w (suc i) p

reads_behind : (x : ℕ) (w : List ℕ) (i : ℕ) (p : List ℕ) → reads (x ∷ w) (suc i) p ≡ reads w i p
reads_behind x w i [] = refl
reads_behind x w i (c ∷ p) = ap (λ t. eqb (get_or w i 0) c && t) (reads_behind x w (suc i) p)

swapped : (a b c : Bool) → (a && (b && c)) ≡ (b && (a && c))
swapped true b c = refl
swapped false true c = refl
swapped false false c = refl

pub by_reads : (w p : List ℕ) → bytes_eq w p ≡ (eqb (length w) (length p) && reads w 0 p)
by_reads [] [] = refl
by_reads [] (c ∷ p) = grind (arith, nat_tests)
by_reads (x ∷ w) [] = grind (arith, nat_tests)
by_reads (x ∷ w) (c ∷ p) =
    let longer : eqb (length w) (length p) ≡ eqb (length (x ∷ w)) (length (c ∷ p)) = grind (arith, nat_tests) in
    ap (λ t. eqb x c && t) (by_reads w p)
    ∙ swapped (eqb x c) (eqb (length w) (length p)) (reads w 0 p)
    ∙ ap (λ t. t && (eqb x c && reads w 0 p)) longer
    ∙ ap (λ t. eqb (length (x ∷ w)) (length (c ∷ p)) && (eqb x c && t)) (sym (reads_behind x w 0 p))

pub ruleset spelling = (by_reads, nat_tests)
