-- An array of what a closure returns for each index. Assumes nothing.
use Rattle.std.proofs.Common.{◌≡◌, ℕ, zero, suc, ◌+◌, ◌<◌, List, map, get_or, refl, ◌∙◌, subst, arith, add-zero, slice_get}
use Rattle.std.proofs.lemmas.List.FromFn.{fill_by_all}
use Rattle.std.specs.Array.{IsFromFnResult, IsFromFnResultFrom}
use Rattle.std.specs.Fn.{Called}
use Rattle.std.specs.List.{range_with_len}
use Rattle.style_file.specs.Sources.{slots_from}
use denote.Param.Members.{Mut}

-- each call returns what h says, and leaves the closure as it was
abbrev pub Computes : {F B : Type 0} → Mut F (ℕ × Unit {0}) B → F → (ℕ → B) → Type 0
Computes {F} {B} g f h = (i : ℕ) (y : B) (q : F) → Called g f (i, tt) y q → (q ≡ f) × (y ≡ h i)

module _ {F B : Type 0} {g : Mut F (ℕ × Unit {0}) B} (ys : List B) (h : ℕ → B) where
  each_made : (f : F) (i n k : ℕ) (d : B) → IsFromFnResultFrom g f ys i n → k < n → Computes g f h → get_or ys (i + k) d ≡ h (i + k)
  each_made f i zero k d m l p = absurd (omega arith)
  each_made f i (suc n) zero d m l p =
      let j : i ≡ i + 0 = omega arith in
      subst (λ (k : ℕ). get_or ys k d ≡ h k) j (m.2.1 d ∙ (p i m.1 m.0 m.3).1)
  each_made f i (suc n) (suc k) d m l p =
      let rest = subst (λ (q : F). IsFromFnResultFrom g q ys (i + 1) n) (p i m.1 m.0 m.3).0 m.4 in
      let j : i + 1 + k ≡ i + suc k = omega arith in
      subst (λ (k : ℕ). get_or ys k d ≡ h k) j (each_made f (i + 1) n k d rest (omega arith) p)

  pub all_made : (f : F) (n : ℕ) (d : B) → IsFromFnResult g f ys n → Computes g f h → ys ≡ map h (range_with_len 0 n)
  all_made f n d m p = fill_by_all h ys n d m.long (λ k l. let j : 0 + k ≡ k = omega arith in subst (λ (j : ℕ). get_or ys j d ≡ h j) j (each_made f 0 n k d m.each l p))

pub eight_slots : {A : Type 0} (xs : List A) (i : ℕ) → map (λ k. slice_get xs (i + k)) (range_with_len 0 8) ≡ slots_from xs i
eight_slots xs i = rw add-zero refl
