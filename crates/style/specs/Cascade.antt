-- CSS Cascading: which of two declarations wins, and which of many.
use Rattle.std.specs.Prelude.{All, ◌≡◌, ℕ, ◌-◌, Bool, true, false, cond, ◌&&◌, ◌||◌, List, [], ◌∷◌, ◌++◌, fold, is_some, Some, None, Option, ◌==◌, nat_lt}
use Rattle.std.specs.Option.{option_map, unwrap_or}
use Rattle.style.specs.declared.values.Colour.{Colour}
use Rattle.style.specs.declared.values.StyleOrigin.{StyleOrigin}
use Rattle.style.specs.declared.values.StyleOrigin.TheVariants.{None as NoOrigin, Agent, User, Author}
use Rattle.style.specs.declared.values.Specificity.{Specificity}
use Rattle.style.specs.declared.values.Weight.{Weight}
use Rattle.style.specs.declared.cell.Declaration.{Declaration}
use Rattle.style.specs.declared.cell.WithSpec.{WithSpec}

-- ---- specificity: first whether it is inline, then identifiers, classes and types

abbrev pub bit : Bool → ℕ
bit true = 1
bit false = 0

-- the first numbers decide, or else, where they are equal, what follows
abbrev pub first_of : ℕ → ℕ → Bool → Bool
first_of a b rest = nat_lt a b || a == b && rest

abbrev pub less_specific : Specificity → Specificity → Bool
less_specific s t =
    first_of (bit s.inline) (bit t.inline)
    (first_of s.id t.id
    (first_of s.class t.class (nat_lt s.typ t.typ)))

-- at most as specific
abbrev pub NoMore : Specificity → Specificity → Type 0
NoMore s t = less_specific t s ≡ false

-- a total order
abbrev pub SpecificityIsTotal : Type 0
SpecificityIsTotal =
    ((s : Specificity) → NoMore s s)
    × ((s t : Specificity) → NoMore s t → NoMore t s → s ≡ t)
    × ((s t u : Specificity) → NoMore s t → NoMore t u → NoMore s u)
    × ((s t : Specificity) → less_specific s t ≡ true → NoMore s t)

-- ---- precedence: importance, then origin, then specificity

abbrev pub origin_rank : StyleOrigin → ℕ
origin_rank NoOrigin = 0
origin_rank Agent = 1
origin_rank User = 2
origin_rank Author = 3

-- among important declarations the order of origins is reversed
abbrev pub rank : Bool → StyleOrigin → ℕ
rank true o = 3 - origin_rank o
rank false o = origin_rank o

-- the second outranks the first
abbrev pub below : Weight → Weight → Bool
below a b =
    first_of (bit a.important) (bit b.important)
    (first_of (rank a.important a.origin) (rank b.important b.origin) (less_specific a.specificity b.specificity))

-- what an empty cell says
abbrev pub no_weight : Weight
no_weight = record { important = false; origin = NoOrigin; specificity = record { inline = false; id = 0; class = 0; typ = 0 } }

-- ---- the cascade, over declarations of one property

module _ {T : Type 0} where
  -- of all declarations, the one that none outranks and that stands last among its equals
  abbrev pub Wins : List (Declaration T) → Declaration T → Type 0
  Wins ds d =
      (earlier : List (Declaration T)) × (later : List (Declaration T))
      × (ds ≡ earlier ++ (d ∷ later))
      × All (λ e. below d.weight e.weight ≡ false) earlier
      × All (λ e. below e.weight d.weight ≡ true) later

  -- a cell without a value
  abbrev pub empty : WithSpec T
  empty = record { won = None }

  -- the cell that holds a declaration
  abbrev pub holding : Declaration T → WithSpec T
  holding d = record { won = Some d }

  abbrev pub value_of : WithSpec T → Option T
  value_of c = option_map (λ d. d.value) c.won

  abbrev pub weight_of : WithSpec T → Weight
  weight_of c = unwrap_or (option_map (λ d. d.weight) c.won) no_weight

  -- a declaration enters a cell: it replaces a value that does not outrank it
  abbrev pub entered : WithSpec T → Declaration T → WithSpec T
  entered c d = cond (is_some (value_of c) && below d.weight (weight_of c)) c (holding d)

  -- one after the other
  abbrev pub all_entered : WithSpec T → List (Declaration T) → WithSpec T
  all_entered c ds = fold entered c ds

  -- the cell holds the cascade's winner, or nothing where there is no declaration
  abbrev pub HoldsWinner : List (Declaration T) → WithSpec T → Type 0
  HoldsWinner [] c = c ≡ empty
  HoldsWinner (d ∷ ds) c = (w : Declaration T) × Wins (d ∷ ds) w × (c ≡ holding w)

-- ---- an example: blue by the agent, then red by an important declaration of the author
abbrev pub blue : Colour
blue = record { r = 0; g = 0; b = 255 }

abbrev pub red : Colour
red = record { r = 255; g = 0; b = 0 }

abbrev pub RedWins : Type 0
RedWins =
    (s : Specificity)
    → value_of (all_entered empty
    (record { weight = record { important = false; origin = Agent; specificity = s }; value = blue }
    ∷ record { weight = record { important = true; origin = Author; specificity = s }; value = red }
    ∷ []))
    ≡ Some red
