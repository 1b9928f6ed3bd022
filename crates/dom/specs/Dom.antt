-- The tree of a page, with the number and place of each record and the places of names, values and texts.
use Rattle.std.specs.Prelude.{◌≡◌, ℕ, suc, ◌+◌, ◌≤◌, true, cond, List, [], ◌∷◌, ◌++◌, length, take, drop, ◌==◌, nat_lt}
use Rattle.parts.specs.declared.Namespace.{Namespace}
use Rattle.dom.specs.Format.{Leaf, Body, Entry, payload, encoded, well_formed}
use Rattle.dom.specs.Format.Entry.{entry}
use Rattle.dom.specs.Shown.{Part, part}
use Rattle.dom.specs.Laws.{Holds}

-- ---- trees

pub record Attribute : Type 0 where
  pub number : ℕ
  pub place : ℕ
  pub name : Part
  pub value : Part

pub record Element : Type 0 where
  pub number : ℕ
  pub place : ℕ
  pub space : Namespace
  pub name : Part
  pub attributes : List Attribute

-- a text, comment, doctype or processing instruction, with its payload
pub record Single : Type 0 where
  pub number : ℕ
  pub place : ℕ
  pub kind : Leaf
  pub part : Part

-- a list of siblings: an element with its children and the siblings after it, or a leaf with those
pub data Dom : Type 0 where
  end : Dom
  element : Element → Dom → Dom → Dom
  leaf : Single → Dom → Dom

-- the Document's payload, and its children
pub record Tree : Type 0 where
  pub document : Part
  pub nodes : Dom

-- ---- from records to the tree. The first of them has this number and place.

abbrev pub span : Entry → ℕ
span e = length (encoded e)

abbrev pub attribute_here : (number at : ℕ) (n v : List ℕ) → Attribute
attribute_here i at n v = record { number = i; place = at; name = part (at + 9) n; value = part (at + 9 + length n) v }

-- the attributes with which the records begin
abbrev pub leading : (number at : ℕ) → List Entry → List Attribute
leading i at [] = []
leading i at (entry d (Body.document p) ∷ es) = []
leading i at (entry d (Body.element s n) ∷ es) = []
leading i at (entry d (Body.leaf k p) ∷ es) = []
leading i at (entry d (Body.attribute n v) ∷ es) = attribute_here i at n v ∷ leading (suc i) (at + span (entry d (Body.attribute n v))) es

-- seen from depth d, a node at `depth` is the first of these siblings, or lies below an earlier one, or ends the list
abbrev pub seen_from : (d depth : ℕ) (first later : Dom) → Dom
seen_from d depth first later = cond (nat_lt d depth) later (cond (d == depth) first end)

-- the siblings at depth d with which the records go on
abbrev pub siblings : (number at : ℕ) → List Entry → (d : ℕ) → Dom
siblings i at [] d = end
siblings i at (entry depth (Body.document p) ∷ es) d = end
siblings i at (entry depth (Body.element s n) ∷ es) d =
    let next = at + span (entry depth (Body.element s n)) in
    seen_from d depth
    (element (record { number = i; place = at; space = s; name = part (at + 9) n; attributes = leading (suc i) next es }) (siblings (suc i) next es (suc d)) (siblings (suc i) next es d))
    (siblings (suc i) next es d)
siblings i at (entry depth (Body.leaf k p) ∷ es) d =
    let next = at + span (entry depth (Body.leaf k p)) in
    seen_from d depth (leaf (record { number = i; place = at; kind = k; part = part (at + 8) p }) (siblings (suc i) next es d)) (siblings (suc i) next es d)
siblings i at (entry depth (Body.attribute n v) ∷ es) d = siblings (suc i) (at + span (entry depth (Body.attribute n v))) es d

-- the tree of a page's records; the first of them is the Document
abbrev pub tree : List Entry → Tree
tree [] = record { document = part 0 []; nodes = end }
tree (entry d b ∷ es) = record { document = part 8 (payload b); nodes = siblings 1 (span (entry d b)) es 1 }

-- ---- and back

-- a record with its number and place
pub data Located : Type 0 where
  located : (number at : ℕ) → Entry → Located

abbrev pub locate : (number at : ℕ) → List Entry → List Located
locate i at [] = []
locate i at (e ∷ es) = located i at e ∷ locate (suc i) (at + span e) es

abbrev pub flat_attributes : (depth : ℕ) → List Attribute → List Located
flat_attributes d [] = []
flat_attributes d (a ∷ rest) = located a.number a.place (entry d (Body.attribute a.name.bytes a.value.bytes)) ∷ flat_attributes d rest

abbrev pub flat : (depth : ℕ) → Dom → List Located
flat d end = []
flat d (element e kids after) =
    located e.number e.place (entry d (Body.element e.space e.name.bytes)) ∷ (flat_attributes (suc d) e.attributes ++ (flat (suc d) kids ++ flat d after))
flat d (leaf l after) = located l.number l.place (entry d (Body.leaf l.kind l.part.bytes)) ∷ flat d after

abbrev pub flat_tree : Tree → List Located
flat_tree t = located 0 0 (entry 0 (Body.document t.document.bytes)) ∷ flat 1 t.nodes

-- the tree of a page holds its records, all of them and in order, with their depths, numbers and places
abbrev pub TreeIsWhole : Type 0
TreeIsWhole = (es : List Entry) → well_formed es ≡ true → flat_tree (tree es) ≡ locate 0 0 es

-- ---- places

-- the part stands in the page at its place
abbrev pub Stands : List ℕ → Part → Type 0
Stands page p = (p.start + length p.bytes ≤ length page) × (take (length p.bytes) (drop p.start page) ≡ p.bytes)

abbrev pub AttributesStand : List ℕ → List Attribute → Type 0
AttributesStand page [] = Unit {0}
AttributesStand page (a ∷ rest) = Stands page a.name × Stands page a.value × AttributesStand page rest

abbrev pub NodesStand : List ℕ → Dom → Type 0
NodesStand page end = Unit {0}
NodesStand page (element e kids after) = Stands page e.name × AttributesStand page e.attributes × NodesStand page kids × NodesStand page after
NodesStand page (leaf l after) = Stands page l.part × NodesStand page after

-- every name, value, text and payload of the tree stands in the page at its place
abbrev pub PartsStand : Type 0
PartsStand = (page : List ℕ) (es : List Entry) → Holds page es → Stands page (tree es).document × NodesStand page (tree es).nodes
