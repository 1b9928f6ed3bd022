use Rattle.std.proofs.Common.{◌≡◌, ℕ, ◌+◌, ◌-◌, ◌<◌, ◌≤◌, List, [], ◌∷◌, map, length, Option, Some, None, MatchOption, Bor, ap, sym, refl, subst, rules, arith, length-append}
use borrow.Author.Tests.{tests}
use Rattle.std.specs.Iterator.{YieldsThen}
use Rattle.std.specs.List.{FoldsTo, flat_map}
use Rattle.std.specs.Option.{SomeIff}
use Rattle.std.proofs.lemmas.Iterator.{YieldsList, YieldsList-from_slice}
use Rattle.std.proofs.lemmas.Iterator.Consumers.{YieldsList-so_far, YieldsList-turn, YieldsList-end}
use Rattle.std.proofs.lemmas.List.Folds.{length-flat_map-take}
use Rattle.text.specs.Superscripts.{superscript_text}
use Rattle.text.proofs.Raised.{bytes_are}
use Rattle.text.proofs.superscript.room_left.Goals as goal

-- each turn takes the width of its digit from what is left
abbrev TakesWidths : {F : Type 0} → (F × ℕ → Bor ℕ → F × ℕ → Type 0) → Type 0
TakesWidths {F} R = (p q : F × ℕ) (x : Bor ℕ) → R p x q → q.1 + length (superscript_text x.now) ≡ p.1

all_taken : {F : Type 0} {R : F × ℕ → Bor ℕ → F × ℕ → Type 0} → TakesWidths R → (p q : F × ℕ) (xs : List (Bor ℕ)) → FoldsTo R p xs q → q.1 + length (flat_map superscript_text (map (λ x. x.now) xs)) ≡ p.1
all_taken w p q [] e = omega (arith, ap (λ t. t.1) e)
all_taken w p q (x ∷ xs) e = omega (arith, w p e.0 x e.1, all_taken w e.0 q xs e.2, length-append (superscript_text x.now) (flat_map superscript_text (map (λ y. y.now) xs)))

left_is : {S F : Type 0} {steps : S → Option (Bor ℕ) → S → Type 0} {s u : S} {ds : List ℕ} {R : F × ℕ → Bor ℕ → F × ℕ → Type 0} {Done : Type 0} {Broke : Bor ℕ → Type 0} (p q : F × ℕ) (xs : List (Bor ℕ)) (o : Option (Bor ℕ)) (r : Option ℕ) → YieldsList steps (λ y. y.now) s ds → YieldsThen steps s xs o u → FoldsTo R p xs q → MatchOption o Done Broke → TakesWidths R → (Done → r ≡ Some q.1) → ((x : Bor ℕ) → Broke x → (r ≡ None) × (q.1 < length (superscript_text x.now))) → SomeIff r (length (flat_map superscript_text ds) ≤ p.1) (p.1 - length (flat_map superscript_text ds))
left_is {ds = ds} p q xs None r road y e m w done broke =
    let taken = all_taken w p q xs e in
    let end = YieldsList-end road xs y.0 y.1 None _ refl y.2 in
    let all : q.1 + length (flat_map superscript_text ds) ≡ p.1 = omega (arith, taken, ap (λ l. length (flat_map superscript_text l)) end.0) in
    subst (λ t. SomeIff t (length (flat_map superscript_text ds) ≤ p.1) (p.1 - length (flat_map superscript_text ds))) (sym (done m)) (omega arith, omega arith)
left_is {ds = ds} p q xs (Some x) r road y e m w done broke =
    let taken = all_taken w p q xs e in
    let front = ap (λ l. length (flat_map superscript_text l)) (YieldsList-so_far road xs y.0 y.1) in
    let turn = YieldsList-turn road xs y.0 y.1 (Some x) _ x refl y.2 in
    let next = ap (λ b. length (superscript_text b)) turn.1 in
    let upto = length-flat_map-take superscript_text ds (length xs) x.now turn.0 in
    let stop = broke x m in
    subst (λ t. SomeIff t (length (flat_map superscript_text ds) ≤ p.1) (p.1 - length (flat_map superscript_text ds))) (sym stop.0) (λ l. omega arith)

pub returns : goal.returns
returns c =
    let ran = c.try_fold.ensures.ran in
    let is = bytes_are c.args.text.now c.requires in
    rw is (left_is (record {}, c.args.room) _ ran.0 ran.1 c.try_fold.result (YieldsList-from_slice c.args.text.now c.iter.ensures.rest) ran.4 ran.5 ran.6 (λ p q x k. search (rules, tests)) (λ k. k) (λ x k. (k.5, search (rules, tests))))
