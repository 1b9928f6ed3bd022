-- The last of a list, and how long it is. Assumes nothing.
use Rattle.std.proofs.Common.{◌≡◌, ℕ, ◌-◌, ◌<◌, List, [], ◌∷◌, length, get_or, set, Some, ap, ◌∙◌, arith}
use Rattle.std.specs.Option.{option_map}
use Rattle.style.specs.Styles.{with_property}
use Rattle.style.specs.declared.mark.Mark.{Mark}
use Rattle.style.specs.declared.style.ComputedStyle.{ComputedStyle}
use Rattle.style.specs.declared.style.Property.{Property}
use Rattle.style.specs.declared.values.Weight.{Weight}
use Rattle.style_file.specs.Files.{File, in_last, with_cell, cell_added}

module _ {A : Type 0} (g : A → A) where
  -- at the last index
  at_last : (xs : List A) (y x : A) → x ≡ get_or (y ∷ xs) (length xs) x → Some (set (y ∷ xs) (length xs) (g x)) ≡ in_last g (y ∷ xs)
  at_last [] y x e = ap (λ z. Some (g z ∷ [])) e
  at_last (z ∷ xs) y x e = ap (option_map (λ ys. y ∷ ys)) (at_last xs z x e)

  pub last_set : (xs : List A) (x : A) (i : ℕ) → 0 < length xs → i ≡ length xs - 1 → x ≡ get_or xs i x → Some (set xs i (g x)) ≡ in_last g xs
  last_set [] x i l n e = absurd (omega arith)
  last_set (y ∷ xs) x i l n e =
      let m : i ≡ length xs = omega arith in
      ap (λ j. Some (set (y ∷ xs) j (g x))) m ∙ at_last xs y x (e ∙ ap (λ j. get_or (y ∷ xs) j x) m)

-- a cell enters the style of the last mark
pub cell_enters : (f : File) (w : Weight) (x : Property × List ℕ) (m : Mark) (i : ℕ) (s : ComputedStyle) → 0 < length f.marks → i ≡ length f.marks - 1 → m ≡ get_or f.marks i m → s ≡ with_property m.style w x.0 → Some (record { rules = f.rules; marks = set f.marks i (record { «record» = m.record; style = s }); house = f.house; bytes = x.1 }) ≡ cell_added f w x
cell_enters f w x m i s l n e p =
    let from : List Mark → File = λ ms. record { rules = f.rules; marks = ms; house = f.house; bytes = x.1 } in
    ap (λ z. Some (from (set f.marks i (record { «record» = m.record; style = z })))) p
    ∙ ap (option_map from) (last_set (with_cell w x.0) f.marks m i l n e)
