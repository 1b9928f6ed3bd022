-- What is read of an element. Assumes nothing.
use Rattle.std.proofs.Common.{◌≡◌, ℕ, Bool, false, List, Some, None, Option, Result, refl, ap, ◌∙◌}
use Rattle.std.specs.Str.{bytes_eq}
use Rattle.parts.specs.declared.Namespace.{Namespace}
use Rattle.parts.specs.declared.Spot.{Spot}
use Rattle.parts.specs.declared.Refusal.{Refusal}
use Rattle.parts.specs.declared.Part.{Part}
use Rattle.parts.specs.declared.Record.{Record}
use Rattle.parts.specs.declared.Record.TheVariants.{Document, Element as AnElement, Text, Comment, Doctype, ProcessingInstruction, Attribute}
use Rattle.dom.specs.Shown.{Shown, Seen, shown}
use Rattle.dom.specs.Dom.Dom.{element}
use Rattle.dom.specs.Asking.{Valued, spot, shown_part, first_named, ReadsNode, AnswersAttribute}
use Rattle.style.specs.Source.{Told}

-- whether what was read is an element of that name
abbrev pub is_named : List ℕ → Option Shown → Bool
is_named w None = false
is_named w (Some Shown.document) = false
is_named w (Some (Shown.element n p)) = bytes_eq p.bytes w
is_named w (Some (Shown.text p)) = false
is_named w (Some Shown.comment) = false
is_named w (Some Shown.doctype) = false
is_named w (Some Shown.instruction) = false
is_named w (Some (Shown.attribute n v)) = false

-- ---- what is read at an element, and of its attributes
pub element_shown : (page : List ℕ) (s : Spot) (r : Result Seen Refusal) → ReadsNode page s.place r → Told page s (λ _ e. Some (Shown.element e.space e.name)) (shown_part r)
element_shown page s r node es h e kids after q is = node es h (element e kids after) q e.number (ap (λ x. Some (spot e.number x.place)) is)

pub attribute_told : (page : List ℕ) (s : Spot) (name : List ℕ) (r : Option Valued) → AnswersAttribute page s name r → Told page s (λ _ e. first_named name e.attributes) r
attribute_told page s name r found es h e kids after q is = found es h (element e kids after) q (ap Some is)

module _ (page : List ℕ) (s : Spot) (name w : List ℕ) (test : List ℕ → Option Valued → Bool) where
  pub attribute_tested : (r : Option Valued) → AnswersAttribute page s name r → (t : Bool) → t ≡ test w r → Told page s (λ _ e. test w (first_named name e.attributes)) t
  attribute_tested r found t is es h e kids after q at = is ∙ ap (test w) (attribute_told page s name r found es h e kids after q at)

pub name_told : (page : List ℕ) (s : Spot) (w : List ℕ) (r : Result Seen Refusal) → ReadsNode page s.place r → (t : Bool) → t ≡ is_named w (shown_part r) → Told page s (λ _ e. bytes_eq e.name.bytes w) t
name_told page s w r node t is es h e kids after q at =
    is ∙ ap (is_named w) (element_shown page s r node es h e kids after q at)

pub another : (w : List ℕ) (r : Record) → ((n : Namespace) (p : Part) → r ≡ AnElement n p → ⊥) → false ≡ is_named w (Some (shown r))
another w Document f = refl
another w (AnElement n p) f = absurd (f n p refl)
another w (Text t) f = refl
another w Comment f = refl
another w Doctype f = refl
another w ProcessingInstruction f = refl
another w (Attribute n v) f = refl
