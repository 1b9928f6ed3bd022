-- What a style file holds, and what each of its lines adds.
use Rattle.std.specs.Prelude.{ℕ, Bool, cond, List, [], ◌∷◌, ◌++◌, length, Some, None, Option, nat_le, nat_lt}
use Rattle.std.specs.Option.{option_map}
use Rattle.style.specs.declared.values.Place.{Place}
use Rattle.style.specs.declared.values.StyleOrigin.{StyleOrigin}
use Rattle.style.specs.declared.values.Weight.{Weight}
use Rattle.style.specs.declared.rule.Tag.{Tag}
use Rattle.style.specs.declared.rule.Rule.{Rule}
use Rattle.style.specs.declared.mark.Mark.{Mark}
use Rattle.style.specs.declared.style.Property.{Property}
use Rattle.style.specs.Styles.{default_style, with_property}
use Rattle.style_file.specs.Words.{then, Setting, text_of}
use Rattle.style_file.specs.Items.{Item}

-- a declaration of the house is a name and a property
pub record File : Type 0 where
  pub rules : List Rule
  pub marks : List Mark
  pub house : List (List ℕ × Property)
  pub bytes : List ℕ

abbrev pub no_items : File
no_items = record { rules = []; marks = []; house = []; bytes = [] }

-- ---- texts and words stand one after the other in the bytes
abbrev pub place_behind : List ℕ → List ℕ → Place
place_behind bs w = record { start = length bs; len = length w }

abbrev pub appended : List ℕ → List ℕ → Place × List ℕ
appended bs t = (place_behind bs t, bs ++ t)

abbrev pub text_added : List ℕ → List ℕ → Option (Place × List ℕ)
text_added bs w = option_map (appended bs) (text_of w)

abbrev pub property_added : List ℕ → Setting → Option (Property × List ℕ)
property_added bs (Setting.plain p) = Some (p, bs)
property_added bs (Setting.before w) = option_map (λ x. (Property.Before x.0, x.1)) (text_added bs w)
property_added bs (Setting.after w) = option_map (λ x. (Property.After x.0, x.1)) (text_added bs w)

-- ---- the items
abbrev pub rule_added : File → Tag → List ℕ → StyleOrigin → Bool → Property × List ℕ → File
rule_added f t w o i x =
    record f {
      rules = f.rules ++ (record { tag = t; place = place_behind x.1 w; origin = o; important = i; property = x.0 } ∷ []);
      bytes = x.1 ++ w;
    }

abbrev pub mark_added : File → ℕ → File
mark_added f n = record f { marks = f.marks ++ (record { «record» = n; style = default_style } ∷ []) }

-- the last of the list changes, if there is one
abbrev pub in_last : {A : Type 0} → (A → A) → List A → Option (List A)
in_last g [] = None
in_last g (m ∷ []) = Some (g m ∷ [])
in_last g (m ∷ n ∷ ms) = option_map (λ xs. m ∷ xs) (in_last g (n ∷ ms))

abbrev pub with_cell : Weight → Property → Mark → Mark
with_cell w p m = record m { style = with_property m.style w p }

-- a cell enters the style of the last mark
abbrev pub cell_added : File → Weight → Property × List ℕ → Option File
cell_added f w x = option_map (λ ms. record f { marks = ms; bytes = x.1 }) (in_last (with_cell w x.0) f.marks)

-- a name of at most 16 bytes, and at most 16 declarations
abbrev pub house_added : File → List ℕ → Property × List ℕ → Option File
house_added f n x =
    cond (nat_le (length n) 16)
    (cond (nat_lt (length f.house) 16) (Some (record f { house = f.house ++ ((n, x.0) ∷ []); bytes = x.1 })) None)
    None

abbrev pub added : File → Item → Option File
added f Item.nothing = Some f
added f (Item.rule t w o i s) = option_map (rule_added f t w o i) (property_added f.bytes s)
added f (Item.mark n) = Some (mark_added f n)
added f (Item.cell w s) = then (property_added f.bytes s) (cell_added f w)
added f (Item.house n s) = then (property_added f.bytes s) (house_added f n)
