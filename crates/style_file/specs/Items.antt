-- The lines of a style file, each as the list of its words.
use Rattle.std.specs.Prelude.{ℕ, Bool, false, cond, List, [], ◌∷◌, length, Some, None, codes, Option, ◌==◌, slice_index_or}
use Rattle.std.specs.Option.{option_map}
use Rattle.std.specs.Str.{bytes_eq}
use Rattle.style.specs.declared.values.StyleOrigin.{StyleOrigin}
use Rattle.style.specs.declared.values.Specificity.{Specificity}
use Rattle.style.specs.declared.values.Weight.{Weight}
use Rattle.style.specs.declared.rule.Tag.{Tag}
use Rattle.style.specs.Printing.{origin_of}
use Rattle.style_file.specs.Words.{then, Setting, tag_of, bit_of, record_of, count_of, setting_of}

pub data Item : Type 0 where
  nothing : Item
  rule : Tag → List ℕ → StyleOrigin → Bool → Setting → Item
  mark : ℕ → Item
  cell : Weight → Setting → Item
  house : List ℕ → Setting → Item

-- a comment begins with a number sign
abbrev pub is_comment : List ℕ → Bool
is_comment [] = false
is_comment (b ∷ bs) = b == 35

-- the word at that place
abbrev pub at : List (List ℕ) → ℕ → List ℕ
at ws i = slice_index_or ws i []

-- exactly so many words
abbrev pub of_length : {A : Type 0} → ℕ → List (List ℕ) → Option A → Option A
of_length n ws x = cond (length ws == n) x None

-- TAG WORD ORIGIN IMPORTANT PROPERTY VALUE
abbrev pub rule_from : (tag word origin important property value : List ℕ) → Option Item
rule_from tag word origin important property value =
    then (tag_of tag) (λ t.
    then (origin_of origin) (λ o.
    then (bit_of important) (λ i.
    option_map (Item.rule t word o i) (setting_of property value))))

abbrev pub rule_of : List (List ℕ) → Option Item
rule_of ws = of_length 6 ws (rule_from (at ws 0) (at ws 1) (at ws 2) (at ws 3) (at ws 4) (at ws 5))

-- NAME PROPERTY VALUE
abbrev pub house_from : (name property value : List ℕ) → Option Item
house_from name property value = option_map (Item.house name) (setting_of property value)

abbrev pub house_of : List (List ℕ) → Option Item
house_of ws = of_length 3 ws (house_from (at ws 0) (at ws 1) (at ws 2))

-- RECORD
abbrev pub mark_from : List ℕ → Option Item
mark_from number = option_map Item.mark (record_of number)

abbrev pub mark_of : List (List ℕ) → Option Item
mark_of ws = of_length 1 ws (mark_from (at ws 0))

-- PROPERTY VALUE ORIGIN IMPORTANT INLINE ID CLASS TYP
abbrev pub specificity_from : (inline id class typ : List ℕ) → Option Specificity
specificity_from inline id class typ =
    then (bit_of inline) (λ a.
    then (count_of id) (λ b.
    then (count_of class) (λ c.
    option_map (λ d. record { inline = a; id = b; class = c; typ = d }) (count_of typ))))

abbrev pub cell_from : (property value origin important : List ℕ) → Option Specificity → Option Item
cell_from property value origin important specificity =
    then (bit_of important) (λ i.
    then (origin_of origin) (λ o.
    then specificity (λ s.
    option_map (Item.cell (record { important = i; origin = o; specificity = s })) (setting_of property value))))

abbrev pub cell_of : List (List ℕ) → Option Item
cell_of ws = of_length 8 ws (cell_from (at ws 0) (at ws 1) (at ws 2) (at ws 3) (specificity_from (at ws 4) (at ws 5) (at ws 6) (at ws 7)))

-- the item that a line's words say
abbrev pub item_led : List ℕ → List (List ℕ) → Option Item
item_led w ws =
    cond (is_comment w) (Some Item.nothing)
    (cond (bytes_eq w (codes "rule")) (rule_of ws)
    (cond (bytes_eq w (codes "mark")) (mark_of ws)
    (cond (bytes_eq w (codes "cell")) (cell_of ws)
    (cond (bytes_eq w (codes "house")) (house_of ws) None))))

abbrev pub item_of : List (List ℕ) → Option Item
item_of [] = Some Item.nothing
item_of (w ∷ ws) = item_led w ws
