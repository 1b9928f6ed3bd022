-- The tree of a page holds all its records. Assumes nothing.
use Rattle.std.proofs.Common.{◌≡◌, ℕ, zero, suc, ◌+◌, ◌<◌, ◌≤◌, Bool, true, false, cond, ◌&&◌, leb, List, [], ◌∷◌, ◌++◌, length, Some, None, sym, refl, ap, ◌∙◌, subst, ⊎_elim, append_assoc, append-nil, arith}
use mathlib.Core.Bool.{false≢true}
use Rattle.std.proofs.lemmas.Bool.{and_parts, leb-true, eqb-true, lt-ltb, le-ltb, eq-eqb, ne_eqb, cases_lt}
use Rattle.dom.proofs.Going.{deepest_is, attribute_is}
use Rattle.dom.specs.Format.{Leaf, Body, Entry, kind, leaf_kind, order, is_start, deepest, attribute_depth, deepest_of, attributes_of, is, kind_fits, depth_fits, node_fits, fits, orderly, sound, encodings, well_formed}
use Rattle.dom.specs.Format.Leaf.{text, comment, doctype, instruction}
use Rattle.dom.specs.Format.Entry.{entry}
use Rattle.dom.specs.Shown.{part}
use Rattle.dom.specs.Dom.{Dom, Attribute, Located, span, leading, seen_from, siblings, tree, locate, flat_attributes, flat, flat_tree, TreeIsWhole}
use Rattle.dom.specs.Dom.Dom.{end, element, leaf}
use Rattle.dom.specs.Dom.Located.{located}

-- ---- the rules of depth, by what they leave to the next record: whether it may be an attribute, and the greatest depth of a node
abbrev pub Kept : Bool → ℕ → List Entry → Type 0
Kept a m [] = Unit {0}
Kept a m (entry d (Body.document p) ∷ es) = ⊥
Kept a m (entry d (Body.element s n) ∷ es) = (1 ≤ d) × (d ≤ m) × Kept true (suc d) es
Kept a m (entry d (Body.leaf k p) ∷ es) = (1 ≤ d) × (d ≤ m) × Kept false d es
Kept a m (entry d (Body.attribute n v) ∷ es) = (a ≡ true) × (d ≡ m) × Kept true m es

parted : (before : List Entry) (d : ℕ) (b : Body) → fits before (entry d b) ≡ true → (kind_fits (order before) (kind b) ≡ true) × (depth_fits (order before) (kind b) d ≡ true)
parted before d b h =
    let p = and_parts (kind_fits (order before) (kind b) && depth_fits (order before) (kind b) d) (sound b) h in
    and_parts (kind_fits (order before) (kind b)) (depth_fits (order before) (kind b) d) p.0

node_depth : (before : List Entry) (d : ℕ) → node_fits (order before) d ≡ true → (1 ≤ d) × (d ≤ deepest before)
node_depth before d h =
    let p = and_parts (leb 1 d && leb d (deepest_of (order before))) (leb d 255) h in
    let q = and_parts (leb 1 d) (leb d (deepest_of (order before))) p.0 in
    (leb-true 1 d q.0, subst (λ m. d ≤ m) (deepest_is before) (leb-true d (deepest_of (order before)) q.1))

leaf_fits : (before : List Entry) (k : Leaf) (d : ℕ) → depth_fits (order before) (leaf_kind k) d ≡ true → node_fits (order before) d ≡ true
leaf_fits before text d h = h
leaf_fits before comment d h = h
leaf_fits before doctype d h = h
leaf_fits before instruction d h = h

attribute_fits : (a : Bool) (m d : ℕ) → is (cond a (Some m) None) d ≡ true → (a ≡ true) × (d ≡ m)
attribute_fits true m d h = (refl, sym (eqb-true m d h))
attribute_fits false m d h = absurd (false≢true h)

pub kept : (a : Bool) (m : ℕ) (before es : List Entry) → is_start (order before) ≡ false → deepest before ≡ m → attribute_depth before ≡ cond a (Some m) None → orderly before es ≡ true → Kept a m es
kept a m before [] f e g h = tt
kept a m before (entry d (Body.document p) ∷ es) f e g h =
    let q = and_parts (fits before (entry d (Body.document p))) (orderly (entry d (Body.document p) ∷ before) es) h in
    let k = parted before d (Body.document p) q.0 in
    absurd (false≢true (sym f ∙ k.0))
kept a m before (entry d (Body.element s n) ∷ es) f e g h =
    let q = and_parts (fits before (entry d (Body.element s n))) (orderly (entry d (Body.element s n) ∷ before) es) h in
    let k = parted before d (Body.element s n) q.0 in
    let l = node_depth before d k.1 in
    (l.0, subst (λ x. d ≤ x) e l.1, kept true (suc d) (entry d (Body.element s n) ∷ before) es refl refl refl q.1)
kept a m before (entry d (Body.leaf t p) ∷ es) f e g h =
    let q = and_parts (fits before (entry d (Body.leaf t p))) (orderly (entry d (Body.leaf t p) ∷ before) es) h in
    let k = parted before d (Body.leaf t p) q.0 in
    let l = node_depth before d (leaf_fits before t d k.1) in
    (l.0, subst (λ x. d ≤ x) e l.1, kept false d (entry d (Body.leaf t p) ∷ before) es refl refl refl q.1)
kept a m before (entry d (Body.attribute n v) ∷ es) f e g h =
    let q = and_parts (fits before (entry d (Body.attribute n v))) (orderly (entry d (Body.attribute n v) ∷ before) es) h in
    let k = parted before d (Body.attribute n v) q.0 in
    let i = and_parts (is (attributes_of (order before)) d) (leb d 255) k.1 in
    let r = attribute_fits a m d (subst (λ o. is o d ≡ true) (attribute_is before ∙ g) i.0) in
    (r.0, r.1, kept true m (entry d (Body.attribute n v) ∷ before) es refl e (ap Some r.1) q.1)

-- ---- a node seen from each depth
seen_at : (D : ℕ) (h l : Dom) → seen_from D D h l ≡ h
seen_at D h l = rw (le-ltb D D (omega arith), eq-eqb D D refl)

pub seen_below : (D d : ℕ) (h l : Dom) → d < D → seen_from d D h l ≡ l
seen_below D d h l lt = rw (lt-ltb d D lt)

pub seen_above : (D d : ℕ) (h l : Dom) → D < d → seen_from d D h l ≡ end
seen_above D d h l lt = rw (le-ltb d D (omega arith), ne_eqb d D (λ e. omega arith))

-- the sibling lists of all depths up to m, the deepest first
abbrev stacked : (ℕ → Dom) → ℕ → List Located
stacked P zero = flat zero (P zero)
stacked P (suc m) = flat (suc m) (P (suc m)) ++ stacked P m

stacked_end : (m : ℕ) → stacked (λ d. end) m ≡ []
stacked_end zero = refl
stacked_end (suc m) = stacked_end m

stacked_same : (P Q : ℕ → Dom) (m : ℕ) → ((d : ℕ) → d ≤ m → P d ≡ Q d) → stacked P m ≡ stacked Q m
stacked_same P Q zero h = ap (flat zero) (h zero (omega arith))
stacked_same P Q (suc m) h =
    ap (λ x. flat (suc m) x ++ stacked P m) (h (suc m) (omega arith))
    ∙ ap (λ l. flat (suc m) (Q (suc m)) ++ l) (stacked_same P Q m (λ d le. h d (omega arith)))

-- a record at depth D, whose node is `first` there, stands in front of what comes later
module _ (P first : ℕ → Dom) (D : ℕ) (front : List Located) (at : flat D (first D) ≡ front ++ flat D (P D)) where
  abbrev Q : ℕ → Dom
  Q d = seen_from d D (first d) (P d)

  down : (m : ℕ) → D ≤ m → stacked Q m ≡ stacked Q D
  down zero le = let e : 0 ≡ D = omega arith in ap (stacked Q) e
  down (suc m) le =
      ⊎_elim (λ l. let e : suc m ≡ D = omega arith in ap (stacked Q) e)
      (λ l. ap (λ x. flat (suc m) x ++ stacked Q m) (seen_above D (suc m) (first (suc m)) (P (suc m)) (omega arith)) ∙ down m l)
      (cases_lt m D)

  -- at D itself
  here : (m : ℕ) → m ≡ D → stacked Q m ≡ front ++ stacked P m
  here zero e = ap (λ x. flat x (Q x)) e ∙ ap (flat D) (seen_at D (first D) (P D)) ∙ at ∙ ap (λ x. front ++ flat x (P x)) (sym e)
  here (suc m) e =
      ap (λ x. flat x (Q x) ++ stacked Q m) e
      ∙ ap (λ x. flat D x ++ stacked Q m) (seen_at D (first D) (P D))
      ∙ ap (λ l. l ++ stacked Q m) at
      ∙ ap (λ l. (front ++ flat D (P D)) ++ l) (stacked_same Q P m (λ d le. seen_below D d (first d) (P d) (omega arith)))
      ∙ append_assoc front (flat D (P D)) (stacked P m)
      ∙ ap (λ x. front ++ (flat x (P x) ++ stacked P m)) (sym e)

  in_front : (m : ℕ) → D ≤ m → stacked Q m ≡ front ++ stacked P D
  in_front m le = down m le ∙ here D refl

-- ---- all records
pub no_attributes : (i at m : ℕ) (es : List Entry) → Kept false m es → leading i at es ≡ []
no_attributes i at m [] k = refl
no_attributes i at m (entry d (Body.document p) ∷ es) k = refl
no_attributes i at m (entry d (Body.element s n) ∷ es) k = refl
no_attributes i at m (entry d (Body.leaf t p) ∷ es) k = refl
no_attributes i at m (entry d (Body.attribute n v) ∷ es) k = absurd (false≢true k.0)

restored : (i at : ℕ) (a : Bool) (m : ℕ) (es : List Entry) → Kept a m es → flat_attributes m (leading i at es) ++ stacked (siblings i at es) m ≡ locate i at es
restored i at a m [] k = stacked_end m
restored i at a m (entry d (Body.document p) ∷ es) k = absurd k
restored i at a m (entry d (Body.element s n) ∷ es) k =
    let e = entry d (Body.element s n) in
    let next = at + span e in
    let P : ℕ → Dom = siblings (suc i) next es in
    let ats : List Attribute = leading (suc i) next es in
    let first : ℕ → Dom = λ x. element (record { number = i; place = at; space = s; name = part (at + 9) n; attributes = ats }) (P (suc x)) (P x) in
    let front : List Located = located i at e ∷ (flat_attributes (suc d) ats ++ flat (suc d) (P (suc d))) in
    in_front P first d front (ap (λ l. located i at e ∷ l) (sym (append_assoc (flat_attributes (suc d) ats) (flat (suc d) (P (suc d))) (flat d (P d))))) m k.1
    ∙ ap (λ l. located i at e ∷ l) (append_assoc (flat_attributes (suc d) ats) (flat (suc d) (P (suc d))) (stacked P d) ∙ restored (suc i) next true (suc d) es k.2)
restored i at a m (entry d (Body.leaf t p) ∷ es) k =
    let e = entry d (Body.leaf t p) in
    let next = at + span e in
    let P : ℕ → Dom = siblings (suc i) next es in
    in_front P (λ x. leaf (record { number = i; place = at; kind = t; part = part (at + 8) p }) (P x)) d (located i at e ∷ []) refl m k.1
    ∙ ap (λ l. located i at e ∷ l) (ap (λ x. flat_attributes d x ++ stacked P d) (sym (no_attributes (suc i) next d es k.2)) ∙ restored (suc i) next false d es k.2)
restored i at a m (entry d (Body.attribute n v) ∷ es) k =
    let next = at + span (entry d (Body.attribute n v)) in
    ap (λ l. located i at (entry m (Body.attribute n v)) ∷ l) (restored (suc i) next true m es k.2)
    ∙ ap (λ x. located i at (entry x (Body.attribute n v)) ∷ locate (suc i) next es) (sym k.1)

-- nothing stands at depth 0
none_above : (i at : ℕ) (a : Bool) (m : ℕ) (es : List Entry) → Kept a m es → siblings i at es 0 ≡ end
none_above i at a m [] k = refl
none_above i at a m (entry d (Body.document p) ∷ es) k = refl
none_above i at a m (entry d (Body.element s n) ∷ es) k =
    let next = at + span (entry d (Body.element s n)) in
    seen_below d 0 _ (siblings (suc i) next es 0) (omega (arith, k.0)) ∙ none_above (suc i) next true (suc d) es k.2
none_above i at a m (entry d (Body.leaf t p) ∷ es) k =
    let next = at + span (entry d (Body.leaf t p)) in
    seen_below d 0 _ (siblings (suc i) next es 0) (omega (arith, k.0)) ∙ none_above (suc i) next false d es k.2
none_above i at a m (entry d (Body.attribute n v) ∷ es) k = none_above (suc i) (at + span (entry d (Body.attribute n v))) true m es k.2

-- the first record is the Document, at depth 0
pub record Headed (es : List Entry) : Type 0 where
  pub bytes : List ℕ
  pub others : List Entry
  pub is : es ≡ entry 0 (Body.document bytes) ∷ others
  pub rest : Kept false 1 others

headed : (es : List Entry) → 1 ≤ length es → orderly [] es ≡ true → Headed es
headed [] l h = absurd (omega arith)
headed (entry d b ∷ es) l h =
    let q = and_parts (fits [] (entry d b)) (orderly (entry d b ∷ []) es) h in
    by d b es (parted [] d b q.0) q.1
  where
    not_first : {T : Type 0} (k : Leaf) → kind_fits (order []) (leaf_kind k) ≡ true → T
    not_first text h = absurd (false≢true h)
    not_first comment h = absurd (false≢true h)
    not_first doctype h = absurd (false≢true h)
    not_first instruction h = absurd (false≢true h)

    by : (d : ℕ) (b : Body) (es : List Entry) → (kind_fits (order []) (kind b) ≡ true) × (depth_fits (order []) (kind b) d ≡ true) → orderly (entry d b ∷ []) es ≡ true → Headed (entry d b ∷ es)
    by d (Body.document p) es k h =
        let z = eqb-true d 0 k.1 in
        record { bytes = p; others = es; is = ap (λ x. entry x (Body.document p) ∷ es) z; rest = kept false 1 (entry d (Body.document p) ∷ []) es refl (ap suc z) refl h }
    by d (Body.element s n) es k h = absurd (false≢true k.0)
    by d (Body.leaf t p) es k h = not_first t k.0
    by d (Body.attribute n v) es k h = absurd (false≢true k.0)

pub heads : (es : List Entry) → well_formed es ≡ true → Headed es
heads es h =
    let p = and_parts (orderly [] es && leb 1 (length es) && leb (length es) 4096) (leb (length (encodings es)) 65536) h in
    let q = and_parts (orderly [] es && leb 1 (length es)) (leb (length es) 4096) p.0 in
    let r = and_parts (orderly [] es) (leb 1 (length es)) q.0 in
    headed es (leb-true 1 (length es) r.1) r.0

pub tree_is_whole : TreeIsWhole
tree_is_whole es h =
    let f = heads es h in
    let e = entry 0 (Body.document f.bytes) in
    let next = 0 + span e in
    let rs = f.others in
    subst (λ x. flat_tree (tree x) ≡ locate 0 0 x) (sym f.is)
    (ap (λ l. located 0 0 e ∷ l)
    (ap (λ x. flat 1 (siblings 1 x rs 1)) (let z : span e ≡ 0 + span e = omega arith in z)
    ∙ sym (append-nil (flat 1 (siblings 1 next rs 1)))
    ∙ ap (λ l. flat 1 (siblings 1 next rs 1) ++ flat 0 l) (sym (none_above 1 next false 1 rs f.rest))
    ∙ ap (λ x. flat_attributes 1 x ++ (flat 1 (siblings 1 next rs 1) ++ flat 0 (siblings 1 next rs 0))) (sym (no_attributes 1 next 1 rs f.rest))
    ∙ restored 1 next false 1 rs f.rest))
