-- The names of origins and displays, printed and read.
use Rattle.std.specs.Prelude.{◌≡◌, ℕ, cond, List, Some, None, codes, Option}
use Rattle.std.specs.Str.{bytes_eq}
use Rattle.style.specs.declared.values.Display.{Display}
use Rattle.style.specs.declared.values.Display.TheVariants.{None as Hidden, Shown}
use Rattle.style.specs.declared.values.StyleOrigin.{StyleOrigin}
use Rattle.style.specs.declared.values.StyleOrigin.TheVariants.{None as NoOrigin, Agent, User, Author}

abbrev pub origin_name : StyleOrigin → List ℕ
origin_name NoOrigin = codes "none"
origin_name Agent = codes "agent"
origin_name User = codes "user"
origin_name Author = codes "author"

abbrev pub display_name : Display → List ℕ
display_name Hidden = codes "none"
display_name Shown = codes "shown"

-- ---- and back

-- the word is this one: it says x, or else what the others say
abbrev pub says : {A : Type 0} → List ℕ → List ℕ → A → Option A → Option A
says w v x other = cond (bytes_eq w v) (Some x) other

abbrev pub origin_of : List ℕ → Option StyleOrigin
origin_of w = says w (codes "none") NoOrigin (says w (codes "agent") Agent (says w (codes "user") User (says w (codes "author") Author None)))

abbrev pub display_of : List ℕ → Option Display
display_of w = says w (codes "none") Hidden (says w (codes "shown") Shown None)

-- reading a name gives the value that is printed by it
abbrev pub NamesAreRead : Type 0
NamesAreRead = ((o : StyleOrigin) → origin_of (origin_name o) ≡ Some o) × ((d : Display) → display_of (display_name d) ≡ Some d)
