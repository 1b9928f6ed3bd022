-- What a style source means.
use Rattle.std.specs.Prelude.{◌≡◌, ℕ, List}
use Rattle.parts.specs.declared.Spot.{Spot}
use Rattle.dom.specs.Format.{Entry}
use Rattle.dom.specs.Laws.{Holds}
use Rattle.dom.specs.Dom.{Dom, Element, Tree, tree}
use Rattle.dom.specs.Dom.Dom.{element}
use Rattle.dom.specs.Asking.{In, spot}
use Rattle.style.specs.declared.style.ComputedStyle.{ComputedStyle}

-- the answer is what the function says of the element that stands at the spot, in the tree of an accepted page
abbrev pub Told : {X : Type 0} → List ℕ → Spot → (Tree → Element → X) → X → Type 0
Told page s f r = (es : List Entry) → Holds page es → (e : Element) (kids after : Dom) → In (element e kids after) (tree es).nodes → spot e.number e.place ≡ s → r ≡ f (tree es) e

-- from the parent's style, the page and an element to the element's style
abbrev pub Meaning : Type 0
Meaning = ComputedStyle → Tree → Element → ComputedStyle
