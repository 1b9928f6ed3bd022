-- Which rules match an element.
use Rattle.std.specs.Prelude.{ℕ, ◌+◌, Bool, false, cond, List, length, take, drop, Some, None, codes, fold, Option, nat_le}
use Rattle.std.specs.List.{filter_map}
use Rattle.std.specs.Option.{option_map}
use Rattle.std.specs.Str.{bytes_eq}
use Rattle.text.specs.Infra.{words, one_of}
use Rattle.dom.specs.Dom.{Element}
use Rattle.dom.specs.Asking.{first_named}
use Rattle.style.specs.declared.values.Place.{Place}
use Rattle.style.specs.declared.values.Specificity.{Specificity}
use Rattle.style.specs.declared.values.Weight.{Weight}
use Rattle.style.specs.declared.rule.Tag.{Tag}
use Rattle.style.specs.declared.rule.Tag.TheVariants.{Name, Class, Id}
use Rattle.style.specs.declared.rule.Rule.{Rule}
use Rattle.style.specs.declared.cell.Declaration.{Declaration}
use Rattle.style.specs.declared.style.ComputedStyle.{ComputedStyle}
use Rattle.style.specs.declared.style.Property.{Property}
use Rattle.style.specs.Styles.{with_declared}
use Rattle.style.specs.Source.{Meaning}

-- the part of the lent bytes at a place, if it lies within them
abbrev pub part_of : List ℕ → Place → Option (List ℕ)
part_of bs p = cond (nat_le (p.start + p.len) (length bs)) (Some (take p.len (drop p.start bs))) None

-- the value of the first attribute of that name
abbrev pub first_value : List ℕ → Element → Option (List ℕ)
first_value name e = option_map (λ v. v.value.bytes) (first_named name e.attributes)

abbrev pub value_is : List ℕ → Option (List ℕ) → Bool
value_is w None = false
value_is w (Some v) = bytes_eq v w

abbrev pub value_has : List ℕ → Option (List ℕ) → Bool
value_has w None = false
value_has w (Some v) = one_of w (words v)

-- the element's name in any namespace; a word of the first class attribute; the first id attribute's value
abbrev pub word_matches : Tag → List ℕ → Element → Bool
word_matches Name w e = bytes_eq e.name.bytes w
word_matches Class w e = value_has w (first_value (codes "class") e)
word_matches Id w e = value_is w (first_value (codes "id") e)

-- a place outside the lent bytes matches nothing
abbrev pub part_matches : Tag → Option (List ℕ) → Element → Bool
part_matches t None e = false
part_matches t (Some w) e = word_matches t w e

abbrev pub rule_matches : List ℕ → Rule → Element → Bool
rule_matches bs r e = part_matches r.tag (part_of bs r.place) e

-- one in the tag's own field
abbrev pub one_in : Tag → Specificity
one_in Name = record { inline = false; id = 0; class = 0; typ = 1 }
one_in Class = record { inline = false; id = 0; class = 1; typ = 0 }
one_in Id = record { inline = false; id = 1; class = 0; typ = 0 }

abbrev pub rule_weight : Rule → Weight
rule_weight r = record { important = r.important; origin = r.origin; specificity = one_in r.tag }

-- what a rule declares of an element: nothing unless it matches
abbrev pub rule_declared : List ℕ → Element → Rule → Option (Declaration Property)
rule_declared bs e r = cond (rule_matches bs r e) (Some (record { weight = rule_weight r; value = r.property })) None

-- matching rules enter the parent's style in their order
abbrev pub rules_entered : List ℕ → Element → ComputedStyle → List Rule → ComputedStyle
rules_entered bs e s rs = fold with_declared s (filter_map (rule_declared bs e) rs)

abbrev pub rules_mean : List ℕ → List Rule → Meaning
rules_mean bs rs parent t e = rules_entered bs e parent rs
