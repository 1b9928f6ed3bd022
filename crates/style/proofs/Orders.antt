-- Specificities and weights are ordered. Assumes nothing.
use Rattle.std.proofs.Common.{◌≡◌, ℕ, ◌≤◌, Bool, true, false, refl, arith}
use Rattle.std.proofs.lemmas.Bool.Decides.{nat_tests}
use Rattle.style.specs.declared.values.Specificity.{Specificity}
use Rattle.style.specs.declared.values.Weight.{Weight}
use Rattle.style.specs.Cascade.{bit, first_of, less_specific, NoMore, SpecificityIsTotal, rank, below}

-- ---- the first numbers decide, or else what follows: what a comparison says that does not hold, how to show one, and
-- what one says that holds
pub not_first : (a b : ℕ) (r : Bool) → first_of a b r ≡ false → (b ≤ a) × (a ≡ b → r ≡ false)
not_first a b r h = (grind (arith, nat_tests), λ e. grind (arith, nat_tests))

pub is_not_first : (a b : ℕ) (r : Bool) → b ≤ a → (a ≡ b → r ≡ false) → first_of a b r ≡ false
is_not_first a b true l h = grind (arith, nat_tests)
is_not_first a b false l h = grind (arith, nat_tests)

pub is_first : (a b : ℕ) (r : Bool) → first_of a b r ≡ true → (a ≤ b) × (a ≡ b → r ≡ true)
is_first a b r h = (grind (arith, nat_tests), λ e. grind (arith, nat_tests))

-- ---- specificities and weights
reflexive : (s : Specificity) → NoMore s s
reflexive s = grind (arith, nat_tests)

transitive : (s t u : Specificity) → NoMore s t → NoMore t u → NoMore s u
transitive s t u h g = grind (arith, nat_tests)

one_way : (s t : Specificity) → less_specific s t ≡ true → NoMore s t
one_way s t h = grind (arith, nat_tests)

same_flag : (a b : Bool) → bit a ≡ bit b → a ≡ b
same_flag true true e = refl
same_flag false false e = refl
same_flag true false e = absurd (omega arith)
same_flag false true e = absurd (omega arith)

antisymmetric : (s t : Specificity) → NoMore s t → NoMore t s → s ≡ t
antisymmetric s t h g =
    let inline : s.inline ≡ t.inline = same_flag s.inline t.inline (grind (arith, nat_tests)) in
    let id : s.id ≡ t.id = grind (arith, nat_tests) in
    let class : s.class ≡ t.class = grind (arith, nat_tests) in
    let typ : s.typ ≡ t.typ = grind (arith, nat_tests) in
    λ i. record { inline = inline i; id = id i; class = class i; typ = typ i }

pub specificity_is_total : SpecificityIsTotal
specificity_is_total = (reflexive, antisymmetric, transitive, one_way)

-- two numbers before what is left: not below and not below is not below
onward : (a b c i j k : ℕ) (r s t : Bool) → (r ≡ false → s ≡ false → t ≡ false) → first_of b a (first_of j i r) ≡ false → first_of c b (first_of k j s) ≡ false → first_of c a (first_of k i t) ≡ false
onward a b c i j k r s t f h g = grind (arith, nat_tests)

pub below_onward : (a b c : Weight) → below b a ≡ false → below c b ≡ false → below c a ≡ false
below_onward a b c = onward (bit a.important) (bit b.important) (bit c.important) (rank a.important a.origin) (rank b.important b.origin) (rank c.important c.origin) _ _ _ (transitive a.specificity b.specificity c.specificity)

pub below_one_way : (a b : Weight) → below a b ≡ true → below b a ≡ false
below_one_way a b h = grind (arith, nat_tests)

pub below_itself : (a : Weight) → below a a ≡ false
below_itself a = grind (arith, nat_tests)
