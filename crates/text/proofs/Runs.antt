-- The run of bytes that a list begins with. Assumes nothing.
use Rattle.std.proofs.Common.{◌≡◌, ℕ, suc, ◌+◌, Bool, true, false, not, cond, List, [], ◌∷◌, length, take, drop, Option, unwrap_or, sym, refl, ap, ◌∙◌, arith}
use Rattle.std.specs.List.{prefix_len, position_or_len, position, take_while}
use Rattle.std.proofs.lemmas.List.Recursion.{same_from_clauses}
use Rattle.std.proofs.lemmas.List.Sums.{prefix_len-le-length, take_while-cons}
use Rattle.std.proofs.lemmas.Bool.Decides.{nat_tests}

-- `position(p).unwrap_or(len)`
pub run_end_is : (p : ℕ → Bool) (s : List ℕ) (r : Option ℕ) (n : ℕ) → r ≡ position p s → n ≡ unwrap_or r (length s) → n ≡ position_or_len p s
run_end_is p s r n e is = grind (arith, nat_tests, prefix_len-le-length)

pub cond_not : {A : Type 0} (t : Bool) (x y : A) → cond (not t) x y ≡ cond t y x
cond_not t x y = elim t as (λ b. cond (not b) x y ≡ cond b y x) [ true ↦ refl | false ↦ refl ]

-- a function by recursion that gives the run
pub run_is : (p : ℕ → Bool) (F : List ℕ → List ℕ) → F [] ≡ [] → ((b : ℕ) (bs : List ℕ) → F (b ∷ bs) ≡ cond (p b) (b ∷ F bs) []) → (s : List ℕ) → take (prefix_len p s) s ≡ F s
run_is p F none step = same_from_clauses (take_while p) F (λ b rest. cond (p b) (b ∷ rest) []) (sym none) (take_while-cons p) step

-- a function by recursion that gives what follows it
pub past_run : (p : ℕ → Bool) (F : List ℕ → List ℕ) → F [] ≡ [] → ((b : ℕ) (bs : List ℕ) → F (b ∷ bs) ≡ cond (p b) (F bs) (b ∷ bs)) → (s : List ℕ) → drop (prefix_len p s) s ≡ F s
past_run p F none step [] = sym none
past_run p F none step (b ∷ bs) =
    let n = prefix_len p bs in
    let one : 1 + n ≡ suc n = omega arith in
    elim (p b) as (λ t. drop (cond t (1 + n) 0) (b ∷ bs) ≡ cond t (F bs) (b ∷ bs)) [
      | true ↦ ap (λ k. drop k (b ∷ bs)) one ∙ past_run p F none step bs
      | false ↦ refl
    ] ∙ sym (step b bs)
