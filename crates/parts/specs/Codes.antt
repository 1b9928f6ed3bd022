-- The numbers that stand for kinds and namespaces in a record.
use Rattle.std.specs.Prelude.{◌≡◌, ℕ, cond, Some, None, Option, Result, MatchResult, ◌==◌}
use Rattle.parts.specs.declared.Namespace.{Namespace}
use Rattle.parts.specs.declared.Namespace.TheVariants.{Other, Html, Svg}
use Rattle.parts.specs.declared.Kind.{Kind}
use Rattle.parts.specs.declared.Kind.TheVariants.{Document, Element, Text, Comment, Doctype, ProcessingInstruction, Attribute}

abbrev pub kind_number : Kind → ℕ
kind_number Document = 1
kind_number Element = 2
kind_number Text = 3
kind_number Comment = 4
kind_number Doctype = 5
kind_number ProcessingInstruction = 6
kind_number Attribute = 7

abbrev pub namespace_number : Namespace → ℕ
namespace_number Other = 0
namespace_number Html = 1
namespace_number Svg = 2

-- ---- and back

abbrev pub kind_of : ℕ → Option Kind
kind_of n =
    cond (n == 1) (Some Document)
    (cond (n == 2) (Some Element)
    (cond (n == 3) (Some Text)
    (cond (n == 4) (Some Comment)
    (cond (n == 5) (Some Doctype)
    (cond (n == 6) (Some ProcessingInstruction)
    (cond (n == 7) (Some Attribute) None))))))

abbrev pub namespace_of : ℕ → Option Namespace
namespace_of n = cond (n == 0) (Some Other) (cond (n == 1) (Some Html) (cond (n == 2) (Some Svg) None))

-- what the number stands for, or an error that tells the number
abbrev pub Decodes : {X E : Type 0} → (ℕ → Option X) → (E → ℕ) → ℕ → Result X E → Type 0
Decodes of told n r = MatchResult r (λ x. of n ≡ Some x) (λ e. (of n ≡ None) × (told e ≡ n))
