-- The names of namespaces.
use Rattle.std.specs.Prelude.{ℕ, List, codes}
use Rattle.parts.specs.declared.Namespace.{Namespace}
use Rattle.parts.specs.declared.Namespace.TheVariants.{Other, Html, Svg}

abbrev pub namespace_name : Namespace → List ℕ
namespace_name Other = codes "other"
namespace_name Html = codes "html"
namespace_name Svg = codes "svg"
