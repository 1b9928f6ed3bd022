-- Declarations of the house, over any source.
use Rattle.std.specs.Prelude.{false, cond, List, Some, None, fold, Option}
use Rattle.std.specs.List.{filter_map}
use Rattle.std.specs.Option.{option_and_then}
use Rattle.std.specs.Str.{bytes_eq}
use Rattle.dom.specs.Dom.{Element}
use Rattle.style.specs.declared.values.StyleOrigin.TheVariants.{User}
use Rattle.style.specs.declared.values.Weight.{Weight}
use Rattle.style.specs.declared.rule.Tag.TheVariants.{Name}
use Rattle.style.specs.declared.house.HouseRule.{HouseRule}
use Rattle.style.specs.declared.cell.Declaration.{Declaration}
use Rattle.style.specs.declared.style.ComputedStyle.{ComputedStyle}
use Rattle.style.specs.declared.style.Property.{Property}
use Rattle.style.specs.Names.{name_bytes}
use Rattle.style.specs.Styles.{with_declared}
use Rattle.style.specs.Matching.{one_in}
use Rattle.style.specs.Source.{Meaning}

-- an unimportant name rule of user origin
abbrev pub house_weight : Weight
house_weight = record { important = false; origin = User; specificity = one_in Name }

-- what a declaration of the house says of an element: nothing unless it is for the element's name
abbrev pub house_declared : Element → HouseRule → Option (Declaration Property)
house_declared e r = cond (bytes_eq e.name.bytes (name_bytes r.name)) (Some (record { weight = house_weight; value = r.property })) None

-- the same of a slot, which may be empty
abbrev pub slot_declared : Element → Option HouseRule → Option (Declaration Property)
slot_declared e r = option_and_then (house_declared e) r

abbrev pub house_entered : List (Option HouseRule) → Element → ComputedStyle → ComputedStyle
house_entered rs e s = fold with_declared s (filter_map (slot_declared e) rs)

-- the declarations enter the answer below in their order
abbrev pub house_mean : List (Option HouseRule) → Meaning → Meaning
house_mean rs below parent t e = house_entered rs e (below parent t e)
