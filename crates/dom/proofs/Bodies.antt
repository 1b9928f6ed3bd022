-- A payload is read back as the body that it encodes, and a body that was read encodes as its payload. Assumes nothing.
use Rattle.std.proofs.Common.{◌≡◌, ℕ, suc, ◌+◌, ◌<◌, ◌≤◌, Bool, true, false, cond, ◌&&◌, leb, List, [], ◌∷◌, ◌++◌, length, get_or, take, drop, Some, None, Ok, Err, Option, Result, refl, ap, ◌∙◌, subst, add-one, arith, length-append, take-append-drop, length-take}
use lib.Seq.{take-append_seam, drop-append_seam}
use Rattle.std.proofs.lemmas.Option.{none-some}
use Rattle.std.proofs.lemmas.Bool.{le-leb, leb-true, and_parts, and_from}
use Rattle.std.proofs.lemmas.Bool.Decides.{nat_tests}
use Rattle.text.specs.Rfc3629.{octets}
use Rattle.parts.specs.declared.Namespace.{Namespace}
use Rattle.parts.specs.declared.Namespace.TheVariants.{Other, Html, Svg}
use Rattle.parts.specs.declared.Kind.{Kind}
use Rattle.parts.specs.declared.Kind.TheVariants.{Document, Element, Text, Comment, Doctype, ProcessingInstruction, Attribute}
use Rattle.parts.specs.declared.Refusal.{Refusal}
use Rattle.parts.specs.declared.Refusal.TheVariants.{Name as WrongName, Text as WrongText}
use Rattle.parts.specs.Codes.{namespace_number, kind_number}
use Rattle.dom.specs.Format.{Body, kind, payload, sound}
use Rattle.dom.specs.Format.Leaf.{text, comment, doctype, instruction}
use Rattle.dom.specs.Format.Body.{document, element, leaf, attribute}
use Rattle.parts.specs.Codes.{namespace_of, kind_of}
use Rattle.dom.specs.Reading.{named, name_space, name_in, value_in, has_name, body_of}
use Rattle.dom.proofs.Stepping.{never, chosen}

-- ---- numbers of kinds and namespaces
namespace_back : (s : Namespace) → namespace_of (namespace_number s) ≡ Some s
namespace_back Other = refl
namespace_back Html = refl
namespace_back Svg = refl

namespace_is : (n : ℕ) (s : Namespace) → namespace_of n ≡ Some s → namespace_number s ≡ n
namespace_is n s h = grind (arith, nat_tests)

pub kind_back : (k : Kind) → kind_of (kind_number k) ≡ Some k
kind_back Document = refl
kind_back Element = refl
kind_back Text = refl
kind_back Comment = refl
kind_back Doctype = refl
kind_back ProcessingInstruction = refl
kind_back Attribute = refl

pub kind_is : (n : ℕ) (k : Kind) → kind_of n ≡ Some k → kind_number k ≡ n
kind_is n k h = grind (arith, nat_tests)

-- ---- what was read
abbrev pub Read : List ℕ → Body → Type 0
Read p b = (payload b ≡ p) × (sound b ≡ true)

-- a test that was passed
passed : {X : Type 0} (t : Bool) (x : Option X) (s : X) → cond t x None ≡ Some s → (t ≡ true) × (x ≡ Some s)
passed true x s h = (refl, h)
passed false x s h = absurd (none-some s h)

passed_ok : (t : Bool) (x : Result Body Refusal) (e : Refusal) (b : Body) → cond t x (Err e) ≡ Ok b → (t ≡ true) × (x ≡ Ok b)
passed_ok true x e b h = (refl, h)
passed_ok false x e b h = never h

named_as : (at : ℕ) (o : Option Namespace) (n : List ℕ) (b : Body) → named at o n ≡ Ok b → (s : Namespace) × (o ≡ Some s) × (element s n ≡ b)
named_as at None n b h = never h
named_as at (Some s) n b h = (s, refl, cc)

element_read : (at : ℕ) (p : List ℕ) (b : Body) → body_of at Element p ≡ Ok b → Read p b
element_read at [] b h =
    let n = named_as at (name_space []) [] b h in
    absurd (let t = passed (leb 2 0 && octets []) (namespace_of 0) n.0 n.1 in let u = and_parts (leb 2 0) (octets []) t.0 in omega (arith, leb-true 2 0 u.0))
element_read at (x ∷ xs) b h =
    let n = named_as at (name_space (x ∷ xs)) xs b h in
    let t = passed (leb 2 (length (x ∷ xs)) && octets xs) (namespace_of x) n.0 n.1 in
    let u = and_parts (leb 2 (length (x ∷ xs))) (octets xs) t.0 in
    let l = leb-true 2 (length (x ∷ xs)) u.0 in
    subst (Read (x ∷ xs)) n.2 (ap (λ m. m ∷ xs) (namespace_is x n.0 t.1), and_from (leb 1 (length xs)) (octets xs) (le-leb 1 (length xs) (omega arith)) u.1)

attribute_read : (at : ℕ) (p : List ℕ) (b : Body) → get_or p 0 0 < 256 → body_of at Attribute p ≡ Ok b → Read p b
attribute_read at [] b byte h = absurd (let t = passed_ok (has_name []) (cond (octets (value_in [])) (Ok (attribute (name_in []) (value_in []))) (Err (WrongText at))) (WrongName at) b h in let u = and_parts (leb 1 0 && leb (0 + 1) 0) (octets (name_in [])) t.0 in let v = and_parts (leb 1 0) (leb (0 + 1) 0) u.0 in omega (arith, leb-true 1 0 v.0))
attribute_read at (x ∷ xs) b byte h =
    let p = x ∷ xs in
    let t = passed_ok (has_name p) (cond (octets (value_in p)) (Ok (attribute (name_in p) (value_in p))) (Err (WrongText at))) (WrongName at) b h in
    let w = passed_ok (octets (value_in p)) (Ok (attribute (name_in p) (value_in p))) (WrongText at) b t.1 in
    let u = and_parts (leb 1 x && leb (x + 1) (length p)) (octets (name_in p)) t.0 in
    let v = and_parts (leb 1 x) (leb (x + 1) (length p)) u.0 in
    let l = leb-true (x + 1) (length p) v.1 in
    let long : length (take x xs) ≡ x = simp length-take (omega arith) in
    let rest : value_in p ≡ drop x xs = ap (λ n. drop n p) (add-one x) in
    let one : 1 ≤ length (take x xs) = omega (arith, leb-true 1 x v.0) in
    let e : attribute (name_in p) (value_in p) ≡ b = cc in
    subst (Read p) e (
      (λ i. long i ∷ (take x xs ++ rest i)) ∙ ap (λ q. x ∷ q) (take-append-drop x xs),
      and_from _ _ (and_from _ _ (and_from _ _ (le-leb 1 (length (take x xs)) one) (le-leb (length (take x xs)) 255 (omega arith))) u.1) w.0,
    )

pub body_is_read : (at : ℕ) (k : Kind) (p : List ℕ) (b : Body) → get_or p 0 0 < 256 → body_of at k p ≡ Ok b → Read p b
body_is_read at Document p b byte h = let e : document p ≡ b = cc in subst (Read p) e (refl, refl)
body_is_read at Element p b byte h = element_read at p b h
body_is_read at Text p b byte h =
    let t = passed_ok (octets p) (Ok (leaf text p)) (WrongText at) b h in
    subst (Read p) (chosen (octets p) (leaf text p) b (WrongText at) h) (refl, t.0)
body_is_read at Comment p b byte h = let e : leaf comment p ≡ b = cc in subst (Read p) e (refl, refl)
body_is_read at Doctype p b byte h = let e : leaf doctype p ≡ b = cc in subst (Read p) e (refl, refl)
body_is_read at ProcessingInstruction p b byte h = let e : leaf instruction p ≡ b = cc in subst (Read p) e (refl, refl)
body_is_read at Attribute p b byte h = attribute_read at p b byte h

-- ---- what is encoded
element_back : (at : ℕ) (s : Namespace) (n : List ℕ) → sound (element s n) ≡ true → body_of at Element (payload (element s n)) ≡ Ok (element s n)
element_back at s n h =
    let u = and_parts (leb 1 (length n)) (octets n) h in
    let l = leb-true 1 (length n) u.0 in
    rw (le-leb 2 (suc (length n)) (omega arith), u.1, namespace_back s)

attribute_back : (at : ℕ) (n v : List ℕ) → sound (attribute n v) ≡ true → body_of at Attribute (payload (attribute n v)) ≡ Ok (attribute n v)
attribute_back at n v h =
    let t = and_parts (leb 1 (length n) && leb (length n) 255 && octets n) (octets v) h in
    let u = and_parts (leb 1 (length n) && leb (length n) 255) (octets n) t.0 in
    let w = and_parts (leb 1 (length n)) (leb (length n) 255) u.0 in
    let p = length n ∷ (n ++ v) in
    let name : take (length n) (n ++ v) ≡ n = take-append_seam n v in
    let value : drop (length n + 1) p ≡ v = ap (λ m. drop m p) (add-one (length n)) ∙ drop-append_seam n v in
    let fits : length n + 1 ≤ length p = simp length-append (omega arith) in
    rw (w.0, le-leb (length n + 1) (length p) fits, name, value, u.1, t.1)

pub body_back : (at : ℕ) (b : Body) → sound b ≡ true → body_of at (kind b) (payload b) ≡ Ok b
body_back at (document p) h = refl
body_back at (element s n) h = element_back at s n h
body_back at (leaf text p) h = ap (λ t. cond t (Ok (leaf text p)) (Err (WrongText at))) h
body_back at (leaf comment p) h = refl
body_back at (leaf doctype p) h = refl
body_back at (leaf instruction p) h = refl
body_back at (attribute n v) h = attribute_back at n v h
