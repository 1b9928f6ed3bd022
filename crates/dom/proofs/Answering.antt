-- What is asked of a page is answered from its tree. Assumes nothing.
use Rattle.std.proofs.Common.{◌≡◌, ℕ, zero, suc, ◌+◌, ◌-◌, ◌^◌, ◌<◌, ◌≤◌, Bool, true, false, cond, ◌&&◌, ◌||◌, eqb, ltb, leb, ◌⊎◌, List, [], ◌∷◌, ◌++◌, length, drop, Some, None, Ok, Option, Result, sym, refl, ap, ◌∙◌, subst, inl, inr, append_assoc, arith, length-append}
use lib.Seq.{drop-append_seam}
use Rattle.std.proofs.lemmas.Option.{none-some}
use Rattle.std.proofs.lemmas.Bool.{and_parts, leb-true, cases_Bool, eqb-true}
use Rattle.std.proofs.lemmas.Bool.Decides.{nat_tests}
use Rattle.parts.specs.declared.Refusal.{Refusal}
use Rattle.parts.specs.declared.Spot.{Spot}
use Rattle.parts.specs.declared.Namespace.{Namespace}
use Rattle.parts.specs.Codes.{kind_number}
use Rattle.dom.specs.Format.{Leaf, Body, Entry, kind, leaf_kind, encoded, encodings, sound, order, kind_fits, depth_fits, fits, orderly, well_formed}
use Rattle.dom.specs.Format.Leaf.{text, comment, doctype, instruction}
use Rattle.dom.specs.Format.Entry.{entry}
use Rattle.dom.specs.Reading.{whole, le2_at, le4_at, entry_front, entry_at, next_place}
use Rattle.dom.specs.Shown.{part, Shown, Seen, seen_at, leaf_at}
use Rattle.dom.specs.Laws.{Holds}
use Rattle.dom.specs.Dom.{Dom, span, leading, seen_from, siblings, tree}
use Rattle.dom.specs.Dom.Dom.{end, element, leaf}
use Rattle.dom.specs.Asking.{spot, next_number, passed, node_from, past_of, from_past, after_by, first_spot, In, children, following, related, Answers, AnswersRoot, Valued, if_named, attribute_from, attributes_past, attribute_of, first_named, attributes, AnswersAttribute, shown_part, shows, ReadsNode}
use Rattle.dom.specs.Asking.In.{here, below, beside, behind}
use Rattle.dom.proofs.Records.{written, le2_back, long_is, whole_is, written_rest, written_some, front_back}
use Rattle.dom.proofs.Whole.{Kept, seen_above, no_attributes, Headed, heads}
use Rattle.dom.proofs.Asked.{node_here, node_passed, attribute_step}

-- numbers of a page do not reach the largest
abbrev pub Small : ℕ → List Entry → Type 0
Small i es = i + length es < 2 ^ 64 - 1

pub next_is : (i : ℕ) → i < 2 ^ 64 - 1 → next_number i ≡ suc i
next_is i h = omega arith

eqb_swap : (a b : ℕ) → eqb a b ≡ eqb b a
eqb_swap a b = grind (arith, nat_tests)

-- ---- one record, and then the others
module _ (d : ℕ) (b : Body) (es : List Entry) where
  abbrev pub bytes : List ℕ
  bytes = written d b (encodings es)

  pub size_is : le4_at bytes 0 + 4 ≡ span (entry d b)
  size_is = omega (arith, long_is d b (encodings es))

  goes_on : (i at depth : ℕ) → i < 2 ^ 64 - 1 → passed bytes depth ≡ true → node_from 0 i at bytes depth ≡ node_from 0 (suc i) (at + span (entry d b)) (encodings es) depth
  goes_on i at depth small p =
      node_passed i at depth bytes (whole_is d b (encodings es)) p
      ∙ ap (λ n. node_from 0 n (at + (le4_at bytes 0 + 4)) (drop (le4_at bytes 0 + 4) bytes) depth) (next_is i small)
      ∙ ap (λ q. node_from 0 (suc i) (at + (le4_at bytes 0 + 4)) q depth) (written_rest d b (encodings es))
      ∙ ap (λ n. node_from 0 (suc i) (at + n) (encodings es) depth) size_is

  -- a node is found, or passed over, or ends the siblings
  node_step : (i at depth : ℕ) (first later : Dom) → i < 2 ^ 64 - 1 → eqb (kind_number (kind b)) 7 ≡ false → first_spot first ≡ Some (spot i at) → node_from 0 (suc i) (at + span (entry d b)) (encodings es) depth ≡ first_spot later
      → node_from 0 i at bytes depth ≡ first_spot (seen_from depth d first later)
  node_step i at depth first later small node is rest = by (cases_Bool (ltb depth d))
    where
      passes : passed bytes depth ≡ ltb depth d
      passes = ap (λ k. eqb k 7 || ltb depth (le2_at bytes 6)) (le2_back (kind_number (kind b))) ∙ ap (λ t. t || ltb depth (le2_at bytes 6)) node ∙ ap (ltb depth) (le2_back d)

      last : (t : Bool) → cond t (Some (spot i at)) None ≡ first_spot (cond t first end)
      last true = sym is
      last false = refl

      same : eqb (le2_at bytes 6) depth ≡ eqb depth d
      same = ap (λ x. eqb x depth) (le2_back d) ∙ eqb_swap d depth

      by : (ltb depth d ≡ true) ⊎ (ltb depth d ≡ false) → node_from 0 i at bytes depth ≡ first_spot (seen_from depth d first later)
      by (inl t) = goes_on i at depth small (passes ∙ t) ∙ rest ∙ ap (λ x. first_spot (cond x later (cond (eqb depth d) first end))) (sym t)
      by (inr f) =
          node_here i at depth bytes (whole_is d b (encodings es)) (passes ∙ f)
          ∙ ap (λ x. cond x (Some (spot i at)) None) same ∙ last (eqb depth d)
          ∙ ap (λ x. first_spot (cond x later (cond (eqb depth d) first end))) (sym f)

leaf_no_attribute : (k : Leaf) → eqb (kind_number (leaf_kind k)) 7 ≡ false
leaf_no_attribute text = refl
leaf_no_attribute comment = refl
leaf_no_attribute doctype = refl
leaf_no_attribute instruction = refl

-- the node found from a record on is the first of the siblings with which the records go on
nodes_are : (i at depth : ℕ) (a : Bool) (m : ℕ) (es : List Entry) → Small i es → Kept a m es → node_from 0 i at (encodings es) depth ≡ first_spot (siblings i at es depth)
unfolding node_from
nodes_are i at depth a m [] small k = refl
nodes_are i at depth a m (entry d (Body.document p) ∷ es) small k = absurd k
nodes_are i at depth a m (entry d (Body.element s n) ∷ es) small k =
    let b = Body.element s n in
    let next = at + span (entry d b) in
    node_step d b es i at depth _ (siblings (suc i) next es depth) (omega arith) refl refl (nodes_are (suc i) next depth true (suc d) es (omega arith) k.2)
nodes_are i at depth a m (entry d (Body.leaf t p) ∷ es) small k =
    let b = Body.leaf t p in
    let next = at + span (entry d b) in
    node_step d b es i at depth _ (siblings (suc i) next es depth) (omega arith) (leaf_no_attribute t) refl (nodes_are (suc i) next depth false d es (omega arith) k.2)
nodes_are i at depth a m (entry d (Body.attribute n v) ∷ es) small k =
    let b = Body.attribute n v in
    let next = at + span (entry d b) in
    goes_on d b es i at depth (omega arith) (ap (λ x. eqb x 7 || ltb depth (le2_at (bytes d b es) 6)) (le2_back 7))
    ∙ nodes_are (suc i) next depth true m es (omega arith) k.2

-- nothing lies deeper than the records allow
none_deeper : (i at depth : ℕ) (a : Bool) (m : ℕ) (es : List Entry) → Kept a m es → m < depth → siblings i at es depth ≡ end
none_deeper i at depth a m [] k l = refl
none_deeper i at depth a m (entry d (Body.document p) ∷ es) k l = refl
none_deeper i at depth a m (entry d (Body.element s n) ∷ es) k l = seen_above d depth _ _ (omega (arith, k.1))
none_deeper i at depth a m (entry d (Body.leaf t p) ∷ es) k l = seen_above d depth _ _ (omega (arith, k.1))
none_deeper i at depth a m (entry d (Body.attribute n v) ∷ es) k l = none_deeper (suc i) _ depth true m es k.2 l

-- ---- where a node of the tree stands in the page

-- names, texts and values are sound
abbrev pub Sounds : List Entry → Type 0
Sounds [] = Unit {0}
Sounds (entry d b ∷ es) = (sound b ≡ true) × Sounds es

pub sounds : (before es : List Entry) → orderly before es ≡ true → Sounds es
sounds before [] h = tt
sounds before (entry d b ∷ es) h =
    let p = and_parts (fits before (entry d b)) (orderly (entry d b ∷ before) es) h in
    let q = and_parts (kind_fits (order before) (kind b) && depth_fits (order before) (kind b) d) (sound b) p.0 in
    (q.1, sounds (entry d b ∷ before) es p.1)

-- the rest of the page after a record in front
pub record Cut (page : List ℕ) (i at : ℕ) (es : List Entry) : Type 0 where
  pub front : List ℕ
  pub is : page ≡ front ++ encodings es
  pub long : length front ≡ at
  pub small : Small i es
  pub good : Sounds es

cut_on : (page : List ℕ) (i at d : ℕ) (b : Body) (es : List Entry) → Cut page i at (entry d b ∷ es) → Cut page (suc i) (at + span (entry d b)) es
cut_on page i at d b es c =
    record {
      front = c.front ++ encoded (entry d b);
      is = c.is ∙ sym (append_assoc c.front (encoded (entry d b)) (encodings es));
      long = length-append c.front (encoded (entry d b)) ∙ ap (λ n. n + span (entry d b)) c.long;
      small = let s = c.small in omega arith;
      good = c.good.1;
    }

-- the record after a record of the page
past_is : (page : List ℕ) (i at d : ℕ) (b : Body) (es : List Entry) → Cut page i at (entry d b ∷ es) → past_of page (spot i at) ≡ Some (record { next = spot (suc i) (at + span (entry d b)); depth = d })
past_is page i at d b es c =
    let q = bytes d b es in
    let here_bytes : drop at page ≡ q = ap (drop at) c.is ∙ ap (λ n. drop n (c.front ++ q)) (sym c.long) ∙ drop-append_seam c.front q in
    let s = c.small in
    ap (λ x. cond (whole x) (Some (record { next = spot (next_number i) (at + (le4_at x 0 + 4)); depth = le2_at x 6 })) None) here_bytes
    ∙ ap (λ t. cond t (Some (record { next = spot (next_number i) (at + (le4_at q 0 + 4)); depth = le2_at q 6 })) None) (whole_is d b (encodings es))
    ∙ (λ j. Some (record { next = spot (next_is i (omega arith) j) (at + size_is d b es j); depth = le2_back d j }))

-- what is asked after a record of the page
asked_after : (more : ℕ) (page : List ℕ) (i at d : ℕ) (b : Body) (es : List Entry) → Cut page i at (entry d b ∷ es) → after_by more page (spot i at) ≡ node_from 0 (suc i) (at + span (entry d b)) (encodings es) (d + more)
asked_after more page i at d b es c =
    let on = cut_on page i at d b es c in
    let next_bytes : drop (at + span (entry d b)) page ≡ encodings es = ap (drop (at + span (entry d b))) on.is ∙ ap (λ n. drop n (on.front ++ encodings es)) (sym on.long) ∙ drop-append_seam on.front (encodings es) in
    ap (from_past more page) (past_is page i at d b es c)
    ∙ ap (λ x. node_from 0 (suc i) (at + span (entry d b)) x (d + more)) next_bytes

-- a node of the tree, and the record that it stands for
pub data At (page : List ℕ) : Dom → Type 0 where
  an_element : (i at d : ℕ) (s : Namespace) (n : List ℕ) (es : List Entry) → Cut page i at (entry d (Body.element s n) ∷ es) → Kept true (suc d) es
      → At page (element (record { number = i; place = at; space = s; name = part (at + 9) n; attributes = leading (suc i) (at + span (entry d (Body.element s n))) es }) (siblings (suc i) (at + span (entry d (Body.element s n))) es (suc d)) (siblings (suc i) (at + span (entry d (Body.element s n))) es d))
  a_leaf : (i at d : ℕ) (k : Leaf) (p : List ℕ) (es : List Entry) → Cut page i at (entry d (Body.leaf k p) ∷ es) → Kept false d es
      → At page (leaf (record { number = i; place = at; kind = k; part = part (at + 8) p }) (siblings (suc i) (at + span (entry d (Body.leaf k p))) es d))
  at_end : At page end

either_way : (P : Dom → Type 0) (depth d : ℕ) (first later : Dom) → (depth ≡ d → P first) → P later → P end → P (seen_from depth d first later)
either_way P depth d first later f l e = by (ltb depth d) (eqb depth d) refl
  where
    by : (t u : Bool) → u ≡ eqb depth d → P (cond t later (cond u first end))
    by true u h = l
    by false true h = f (eqb-true depth d (sym h))
    by false false h = e

-- the first of some siblings is such a node
first_at : (page : List ℕ) (i at depth : ℕ) (a : Bool) (m : ℕ) (es : List Entry) → Cut page i at es → Kept a m es → At page (siblings i at es depth)
first_at page i at depth a m [] c k = at_end
first_at page i at depth a m (entry d (Body.document p) ∷ es) c k = at_end
first_at page i at depth a m (entry d (Body.element s n) ∷ es) c k =
    let b = Body.element s n in
    either_way (At page) depth d _ _
    (λ e. an_element i at depth s n es (subst (λ x. Cut page i at (entry x b ∷ es)) (sym e) c) (subst (λ x. Kept true (suc x) es) (sym e) k.2))
    (first_at page (suc i) (at + span (entry d b)) depth true (suc d) es (cut_on page i at d b es c) k.2)
    at_end
first_at page i at depth a m (entry d (Body.leaf t p) ∷ es) c k =
    let b = Body.leaf t p in
    either_way (At page) depth d _ _
    (λ e. a_leaf i at depth t p es (subst (λ x. Cut page i at (entry x b ∷ es)) (sym e) c) (subst (λ x. Kept false x es) (sym e) k.2))
    (first_at page (suc i) (at + span (entry d b)) depth false d es (cut_on page i at d b es c) k.2)
    at_end
first_at page i at depth a m (entry d (Body.attribute n v) ∷ es) c k =
    first_at page (suc i) (at + span (entry d (Body.attribute n v))) depth true m es (cut_on page i at d (Body.attribute n v) es c) k.2

in_at : (page : List ℕ) {x y : Dom} → In x y → At page y → At page x
in_at page here q = q
in_at page (below r) (an_element i at d s n es c k) =
    in_at page r (first_at page (suc i) (at + span (entry d (Body.element s n))) (suc d) true (suc d) es (cut_on page i at d (Body.element s n) es c) k)
in_at page (beside r) (an_element i at d s n es c k) =
    in_at page r (first_at page (suc i) (at + span (entry d (Body.element s n))) d true (suc d) es (cut_on page i at d (Body.element s n) es c) k)
in_at page (behind r) (a_leaf i at d t p es c k) =
    in_at page r (first_at page (suc i) (at + span (entry d (Body.leaf t p))) d false d es (cut_on page i at d (Body.leaf t p) es c) k)

-- ---- the page as a whole
pub formed : (es : List Entry) → well_formed es ≡ true → (orderly [] es ≡ true) × (length es ≤ 4096)
formed es h =
    let p = and_parts (orderly [] es && leb 1 (length es) && leb (length es) 4096) (leb (length (encodings es)) 65536) h in
    let q = and_parts (orderly [] es && leb 1 (length es)) (leb (length es) 4096) p.0 in
    let r = and_parts (orderly [] es) (leb 1 (length es)) q.0 in
    (r.0, leb-true (length es) 4096 q.1)

module _ (page : List ℕ) (es : List Entry) (h : Holds page es) where
  abbrev head : Headed es
  head = heads es h.0

  document_cut : Cut page 0 0 (entry 0 (Body.document head.bytes) ∷ head.others)
  document_cut =
      let l = ap length head.is in
      let w = formed es h.0 in
      let few = w.1 in
      record { front = []; is = sym h.1 ∙ ap encodings head.is; long = refl; small = omega arith; good = subst Sounds head.is (sounds [] es w.0) }

  nodes_cut : Cut page 1 (span (entry 0 (Body.document head.bytes))) head.others
  nodes_cut = subst (λ n. Cut page 1 n head.others) (let z : 0 + span (entry 0 (Body.document head.bytes)) ≡ span (entry 0 (Body.document head.bytes)) = omega arith in z) (cut_on page 0 0 0 (Body.document head.bytes) head.others document_cut)

  nodes_at : At page (tree es).nodes
  nodes_at = subst (λ x. At page (tree x).nodes) (sym head.is) (first_at page 1 (span (entry 0 (Body.document head.bytes))) 1 false 1 head.others nodes_cut head.rest)

  pub node_at_spot : {x : Dom} → In x (tree es).nodes → At page x
  node_at_spot r = in_at page r nodes_at

  pub document_answer : after_by 1 page (spot 0 0) ≡ first_spot (tree es).nodes
  document_answer =
      let b = Body.document head.bytes in
      let c = nodes_cut in
      asked_after 1 page 0 0 0 b head.others document_cut
      ∙ nodes_are 1 (0 + span (entry 0 b)) 1 false 1 head.others c.small head.rest
      ∙ ap (λ n. first_spot (siblings 1 n head.others 1)) (let z : 0 + span (entry 0 b) ≡ span (entry 0 b) = omega arith in z)
      ∙ ap (λ x. first_spot (tree x).nodes) (sym head.is)

module _ (page : List ℕ) (s : Spot) where
  child_of : {x : Dom} → At page x → first_spot x ≡ Some s → after_by 1 page s ≡ first_spot (children x)
  child_of (an_element i at d n_s n es c k) e =
      let b = Body.element n_s n in
      let q : s ≡ spot i at = cc in
      let z : d + 1 ≡ suc d = omega arith in
      let m = cut_on page i at d b es c in
      ap (after_by 1 page) q ∙ asked_after 1 page i at d b es c
      ∙ nodes_are (suc i) (at + span (entry d b)) (d + 1) true (suc d) es m.small k
      ∙ ap (λ y. first_spot (siblings (suc i) (at + span (entry d b)) es y)) z
  child_of (a_leaf i at d t p es c k) e =
      let b = Body.leaf t p in
      let q : s ≡ spot i at = cc in
      let m = cut_on page i at d b es c in
      ap (after_by 1 page) q ∙ asked_after 1 page i at d b es c
      ∙ nodes_are (suc i) (at + span (entry d b)) (d + 1) false d es m.small k
      ∙ ap first_spot (none_deeper (suc i) (at + span (entry d b)) (d + 1) false d es k (omega arith))
  child_of at_end e = absurd (none-some s e)

  sibling_of : {x : Dom} → At page x → first_spot x ≡ Some s → after_by 0 page s ≡ first_spot (following x)
  sibling_of (an_element i at d n_s n es c k) e =
      let b = Body.element n_s n in
      let q : s ≡ spot i at = cc in
      let z : d + 0 ≡ d = omega arith in
      let m = cut_on page i at d b es c in
      ap (after_by 0 page) q ∙ asked_after 0 page i at d b es c
      ∙ nodes_are (suc i) (at + span (entry d b)) (d + 0) true (suc d) es m.small k
      ∙ ap (λ y. first_spot (siblings (suc i) (at + span (entry d b)) es y)) z
  sibling_of (a_leaf i at d t p es c k) e =
      let b = Body.leaf t p in
      let q : s ≡ spot i at = cc in
      let z : d + 0 ≡ d = omega arith in
      let m = cut_on page i at d b es c in
      ap (after_by 0 page) q ∙ asked_after 0 page i at d b es c
      ∙ nodes_are (suc i) (at + span (entry d b)) (d + 0) false d es m.small k
      ∙ ap (λ y. first_spot (siblings (suc i) (at + span (entry d b)) es y)) z
  sibling_of at_end e = absurd (none-some s e)

  child_answers : (r : Option Spot) → r ≡ after_by 1 page s → Answers children page s r
  child_answers r e es h x q f = e ∙ child_of (node_at_spot page es h q) f

  sibling_answers : (r : Option Spot) → r ≡ after_by 0 page s → Answers following page s r
  sibling_answers r e es h x q f = e ∙ sibling_of (node_at_spot page es h q) f

  document_answers : (r : Option Spot) → r ≡ after_by 1 page s → AnswersRoot 1 page s r
  document_answers r e es h f = e ∙ ap (after_by 1 page) f ∙ document_answer page es h

-- the three clauses of `after_by`
abbrev pub After : ℕ → List ℕ → Spot → Option Spot → Type 0
After more page s r = record { answer : r ≡ after_by more page s; node : Answers (related more) page s r; document : AnswersRoot more page s r }

pub after : (more : ℕ) → more ≤ 1 → (page : List ℕ) (s : Spot) (r : Option Spot) → r ≡ after_by more page s → After more page s r
after more few page s r e = by more few e
  where
    by : (m : ℕ) → m ≤ 1 → r ≡ after_by m page s → After m page s r
    by zero few e = record { answer = e; node = sibling_answers page s r e; document = tt }
    by (suc zero) few e = record { answer = e; node = child_answers page s r e; document = document_answers page s r e }
    by (suc (suc m)) few e = absurd (omega arith)

-- ---- attributes
attributes_are : (i at : ℕ) (es : List Entry) (name : List ℕ) → Small i es → Sounds es → attribute_from 0 i at (encodings es) name ≡ first_named name (leading i at es)
unfolding attribute_from
attributes_are i at [] name small good = refl
attributes_are i at (entry d b ∷ es) name small good =
    let q = bytes d b es in
    let on = attribute_from 0 (next_number i) (at + (le4_at q 0 + 4)) (drop (le4_at q 0 + 4) q) name in
    let on_is : on ≡ first_named name (leading (suc i) (at + span (entry d b)) es) =
    ap (λ n. attribute_from 0 n (at + (le4_at q 0 + 4)) (drop (le4_at q 0 + 4) q) name) (next_is i (omega arith))
    ∙ ap (λ y. attribute_from 0 (suc i) (at + (le4_at q 0 + 4)) y name) (written_rest d b (encodings es))
    ∙ ap (λ n. attribute_from 0 (suc i) (at + n) (encodings es) name) (size_is d b es)
    ∙ attributes_are (suc i) (at + span (entry d b)) es name (omega arith) good.1 in
    attribute_step i at q name (written_some d b (encodings es))
    ∙ ap (λ x. if_named i at name x on) (front_back d b (encodings es) at good.0)
    ∙ ap (if_named i at name (Ok (entry d b))) on_is
    ∙ by b
  where
    by : (b : Body) → if_named i at name (Ok (entry d b)) (first_named name (leading (suc i) (at + span (entry d b)) es)) ≡ first_named name (leading i at (entry d b ∷ es))
    by (Body.document p) = refl
    by (Body.element s n) = refl
    by (Body.leaf k p) = refl
    by (Body.attribute n v) = refl

-- from a record of the page on
rest_is : (page : List ℕ) (i at : ℕ) (es : List Entry) → Cut page i at es → drop at page ≡ encodings es
rest_is page i at es c = ap (drop at) c.is ∙ ap (λ n. drop n (c.front ++ encodings es)) (sym c.long) ∙ drop-append_seam c.front (encodings es)

attributes_after : (page : List ℕ) (i at d : ℕ) (b : Body) (es : List Entry) (name : List ℕ) → Cut page i at (entry d b ∷ es) → attribute_of page (spot i at) name ≡ first_named name (leading (suc i) (at + span (entry d b)) es)
attributes_after page i at d b es name c =
    let on = cut_on page i at d b es c in
    ap (attributes_past page name) (past_is page i at d b es c)
    ∙ ap (λ x. attribute_from 0 (suc i) (at + span (entry d b)) x name) (rest_is page (suc i) (at + span (entry d b)) es on)
    ∙ attributes_are (suc i) (at + span (entry d b)) es name on.small on.good

entry_here : (page : List ℕ) (i at d : ℕ) (b : Body) (es : List Entry) → Cut page i at (entry d b ∷ es) → entry_at page at ≡ Ok (entry d b)
entry_here page i at d b es c = ap (entry_front at) (rest_is page i at (entry d b ∷ es) c) ∙ front_back d b (encodings es) at c.good.0

module _ (page : List ℕ) (s : Spot) (name : List ℕ) where
  attribute_at : {x : Dom} → At page x → first_spot x ≡ Some s → attribute_of page s name ≡ first_named name (attributes x)
  attribute_at (an_element i at d n_s n es c k) e =
      let q : s ≡ spot i at = cc in
      ap (λ y. attribute_of page y name) q ∙ attributes_after page i at d (Body.element n_s n) es name c
  attribute_at (a_leaf i at d t p es c k) e =
      let q : s ≡ spot i at = cc in
      let b = Body.leaf t p in
      ap (λ y. attribute_of page y name) q ∙ attributes_after page i at d b es name c ∙ ap (first_named name) (no_attributes (suc i) (at + span (entry d b)) d es k)
  attribute_at at_end e = absurd (none-some s e)

  pub attribute_answers : (r : Option Valued) → r ≡ attribute_of page s name → AnswersAttribute page s name r
  attribute_answers r e es h x q f = e ∙ attribute_at (node_at_spot page es h q) f

module _ (page : List ℕ) (place : ℕ) where
  record_here : {x : Dom} (n : ℕ) → At page x → first_spot x ≡ Some (spot n place) → shown_part (seen_at place (next_place page place) (entry_at page place)) ≡ shows x
  record_here n (an_element i at d n_s w es c k) e =
      let q : spot i at ≡ spot n place = cc in
      let p : at ≡ place = ap (λ y. y.place) q in
      subst (λ y. shown_part (seen_at y (next_place page y) (entry_at page y)) ≡ Some (Shown.element n_s (part (at + 9) w))) p
      (ap (λ y. shown_part (seen_at at (next_place page at) y)) (entry_here page i at d (Body.element n_s w) es c))
  record_here n (a_leaf i at d t w es c k) e =
      let q : spot i at ≡ spot n place = cc in
      let p : at ≡ place = ap (λ y. y.place) q in
      subst (λ y. shown_part (seen_at y (next_place page y) (entry_at page y)) ≡ Some (leaf_at at t w)) p
      (ap (λ y. shown_part (seen_at at (next_place page at) y)) (entry_here page i at d (Body.leaf t w) es c))
  record_here n at_end e = absurd (none-some (spot n place) e)

  pub record_answers : (r : Result Seen Refusal) → r ≡ seen_at place (next_place page place) (entry_at page place) → ReadsNode page place r
  record_answers r e es h x q n f = ap shown_part e ∙ record_here n (node_at_spot page es h q) f

-- the two clauses of `attribute`
pub answered : (page : List ℕ) (s : Spot) (name : List ℕ) (r : Option Valued) → r ≡ attribute_of page s name → record { answer : r ≡ attribute_of page s name; named : AnswersAttribute page s name r }
answered page s name r e = record { answer = e; named = attribute_answers page s name r e }
