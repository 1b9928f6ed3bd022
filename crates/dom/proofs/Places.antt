-- Every part of a page's tree stands in the page at its place. Assumes nothing.
use Rattle.std.proofs.Common.{◌≡◌, ℕ, suc, ◌+◌, Bool, true, false, cond, eqb, ltb, List, [], ◌∷◌, ◌++◌, length, take, drop, sym, refl, ap, ◌∙◌, append_assoc, append-nil, arith, length-append}
use lib.Seq.{take-append_seam, drop-append_seam}
use Rattle.parts.specs.Codes.{kind_number, namespace_number}
use Rattle.dom.specs.Format.{Body, Entry, payload, kind, le2, le4, encoded, encodings}
use Rattle.dom.specs.Format.Entry.{entry}
use Rattle.dom.specs.Shown.{part}
use Rattle.dom.specs.Dom.{Dom, span, leading, seen_from, siblings, Stands, AttributesStand, NodesStand, PartsStand}
use Rattle.dom.specs.Dom.Dom.{end}

stands_between : (page xs ys zs : List ℕ) (s : ℕ) → page ≡ xs ++ (ys ++ zs) → s ≡ length xs → Stands page (part s ys)
stands_between page xs ys zs s e l =
    let a : length page ≡ length xs + length (ys ++ zs) = ap length e ∙ length-append xs (ys ++ zs) in
    let b = length-append ys zs in
    (omega arith, ap (λ q. take (length ys) (drop s q)) e ∙ ap (λ n. take (length ys) (drop n (xs ++ (ys ++ zs)))) l ∙ ap (take (length ys)) (drop-append_seam xs (ys ++ zs)) ∙ take-append_seam ys zs)

-- length, kind and depth
abbrev header : ℕ → Body → List ℕ
header d b = le4 (4 + length (payload b)) ++ (le2 (kind_number (kind b)) ++ le2 d)

-- a record at a place: what stands in front of it, and what follows
module _ (page front : List ℕ) (at d : ℕ) (b : Body) (rest : List ℕ) (is : page ≡ front ++ (encoded (entry d b) ++ rest)) (long : length front ≡ at) where
  in_payload : (xs ys zs : List ℕ) (s : ℕ) → payload b ≡ xs ++ (ys ++ zs) → s ≡ at + 8 + length xs → Stands page (part s ys)
  in_payload xs ys zs s e l =
      let lead = front ++ (header d b ++ xs) in
      let whole : page ≡ lead ++ (ys ++ (zs ++ rest)) =
      is ∙ ap (λ p. front ++ (header d b ++ (p ++ rest))) e
      ∙ ap (λ p. front ++ (header d b ++ p)) (append_assoc xs (ys ++ zs) rest ∙ ap (λ p. xs ++ p) (append_assoc ys zs rest))
      ∙ sym (append_assoc front (header d b ++ xs) (ys ++ (zs ++ rest))) in
      let n = length-append front (header d b ++ xs) in
      stands_between page lead ys (zs ++ rest) s whole (omega arith)

  onward : page ≡ (front ++ encoded (entry d b)) ++ rest
  onward = is ∙ sym (append_assoc front (encoded (entry d b)) rest)

  onward_long : length (front ++ encoded (entry d b)) ≡ at + span (entry d b)
  onward_long = length-append front (encoded (entry d b)) ∙ ap (λ n. n + span (entry d b)) long

either_way : (P : Dom → Type 0) (d depth : ℕ) (first later : Dom) → P first → P later → P end → P (seen_from d depth first later)
either_way P d depth first later f l e = by (ltb d depth) (eqb d depth)
  where
    by : (t u : Bool) → P (cond t later (cond u first end))
    by true u = l
    by false true = f
    by false false = e

attributes_stand : (page front : List ℕ) (i at : ℕ) (es : List Entry) → page ≡ front ++ encodings es → length front ≡ at → AttributesStand page (leading i at es)
attributes_stand page front i at [] h l = tt
attributes_stand page front i at (entry d (Body.document p) ∷ es) h l = tt
attributes_stand page front i at (entry d (Body.element s n) ∷ es) h l = tt
attributes_stand page front i at (entry d (Body.leaf k p) ∷ es) h l = tt
attributes_stand page front i at (entry d (Body.attribute n v) ∷ es) h l =
    let b = Body.attribute n v in
    let rest = encodings es in (
      in_payload page front at d b rest h l (length n ∷ []) n v (at + 9) refl (omega arith),
      in_payload page front at d b rest h l (length n ∷ n) v [] (at + 9 + length n) (ap (λ x. length n ∷ (n ++ x)) (sym (append-nil v))) (omega arith),
      attributes_stand page (front ++ encoded (entry d b)) (suc i) (at + span (entry d b)) es (onward page front at d b rest h l) (onward_long page front at d b rest h l),
    )

nodes_stand : (page front : List ℕ) (i at : ℕ) (es : List Entry) (depth : ℕ) → page ≡ front ++ encodings es → length front ≡ at → NodesStand page (siblings i at es depth)
nodes_stand page front i at [] depth h l = tt
nodes_stand page front i at (entry d (Body.document p) ∷ es) depth h l = tt
nodes_stand page front i at (entry d (Body.element s n) ∷ es) depth h l =
    let b = Body.element s n in
    let next = front ++ encoded (entry d b) in
    let on = onward page front at d b (encodings es) h l in
    let m = onward_long page front at d b (encodings es) h l in
    let later = nodes_stand page next (suc i) (at + span (entry d b)) es depth on m in
    either_way (NodesStand page) depth d _ _ (
      in_payload page front at d b (encodings es) h l (namespace_number s ∷ []) n [] (at + 9) (ap (λ x. namespace_number s ∷ x) (sym (append-nil n))) (omega arith),
      attributes_stand page next (suc i) (at + span (entry d b)) es on m,
      nodes_stand page next (suc i) (at + span (entry d b)) es (suc depth) on m,
      later,
    )
    later tt
nodes_stand page front i at (entry d (Body.leaf k p) ∷ es) depth h l =
    let b = Body.leaf k p in
    let next = front ++ encoded (entry d b) in
    let later = nodes_stand page next (suc i) (at + span (entry d b)) es depth (onward page front at d b (encodings es) h l) (onward_long page front at d b (encodings es) h l) in
    either_way (NodesStand page) depth d _ _
    (in_payload page front at d b (encodings es) h l [] p [] (at + 8) (sym (append-nil p)) (omega arith), later)
    later tt
nodes_stand page front i at (entry d (Body.attribute n v) ∷ es) depth h l =
    let b = Body.attribute n v in
    nodes_stand page (front ++ encoded (entry d b)) (suc i) (at + span (entry d b)) es depth (onward page front at d b (encodings es) h l) (onward_long page front at d b (encodings es) h l)

pub parts_stand : PartsStand
parts_stand page [] h = (stands_between page [] [] page 0 refl refl, tt)
parts_stand page (entry d b ∷ es) h = (
  in_payload page [] 0 d b (encodings es) (sym h.1) refl [] (payload b) [] 8 (sym (append-nil (payload b))) refl,
  nodes_stand page (encoded (entry d b)) 1 (span (entry d b)) es 1 (sym h.1) refl,
)
