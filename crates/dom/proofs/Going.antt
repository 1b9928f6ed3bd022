-- How the reading of a page goes on from record to record. Assumes nothing.
use Rattle.std.proofs.Common.{◌≡◌, ℕ, zero, suc, ◌+◌, ◌<◌, ◌≤◌, Bool, true, false, cond, eqb, leb, List, [], ◌∷◌, length, drop, Some, Ok, Err, Result, sym, refl, ap, ◌∙◌, add-zero, arith}
use Rattle.std.proofs.lemmas.List.{drop_all}
use Rattle.std.proofs.lemmas.Bool.{le-ltb}
use Rattle.parts.specs.declared.Refusal.{Refusal}
use Rattle.parts.specs.declared.Refusal.TheVariants.{Many, Cut}
use Rattle.dom.specs.declared.order.Order.{Order}
use Rattle.dom.specs.declared.order.Order.TheVariants.{After}
use Rattle.dom.specs.Format.{Body, Entry, kind, order, deepest, attribute_depth, deepest_of, attributes_of}
use Rattle.dom.specs.Format.Leaf.{text, comment, doctype, instruction}
use Rattle.dom.specs.Format.Body.{document, element, leaf, attribute}
use Rattle.dom.specs.Format.Entry.{entry}
use Rattle.parts.specs.Codes.{kind_of}
use Rattle.dom.specs.Reading.{whole, of_kind, le2_at, le4_at, payload_of, first_entry, entries, entries_from, followed, and_then, counted, after, onward}
use Rattle.dom.proofs.Stepping.{never}

-- ---- the bytes of the record before are passed over
pub skipping : {X : Type 0} (f : ℕ → ℕ → List ℕ → X) (e : X) → ((skip at : ℕ) → f skip at [] ≡ e) → ((skip at b : ℕ) (bs : List ℕ) → f (suc skip) at (b ∷ bs) ≡ f skip (at + 1) bs)
    → (skip at : ℕ) (bs : List ℕ) → f skip at bs ≡ f 0 (at + skip) (drop skip bs)
skipping f e none one zero at [] = none 0 at ∙ sym (none 0 (at + 0))
skipping f e none one zero at (b ∷ bs) = ap (λ n. f 0 n (b ∷ bs)) (sym (add-zero at))
skipping f e none one (suc skip) at [] = none (suc skip) at ∙ sym (none 0 (at + suc skip))
skipping f e none one (suc skip) at (b ∷ bs) =
    let q : at + 1 + skip ≡ at + suc skip = omega arith in
    one skip at b bs ∙ skipping f e none one skip (at + 1) bs ∙ ap (λ n. f 0 n (drop skip bs)) q

-- and of a record that begins here, which is so long
pub passing : {X : Type 0} (f : ℕ → ℕ → List ℕ → X) (e : X) → ((skip at : ℕ) → f skip at [] ≡ e) → ((skip at b : ℕ) (bs : List ℕ) → f (suc skip) at (b ∷ bs) ≡ f skip (at + 1) bs)
    → (m at b : ℕ) (bs : List ℕ) → f (m + 3) (at + 1) bs ≡ f 0 (at + (m + 4)) (drop (m + 4) (b ∷ bs))
passing f e none one m at b bs =
    let p : at + 1 + (m + 3) ≡ at + (m + 4) = omega arith in
    let q : m + 4 ≡ suc (m + 3) = omega arith in
    skipping f e none one (m + 3) (at + 1) bs
    ∙ ap (λ x. f 0 x (drop (m + 3) bs)) p
    ∙ ap (λ x. f 0 (at + (m + 4)) (drop x (b ∷ bs))) (sym q)

entries_on : (before : List Entry) (m at b : ℕ) (bs : List ℕ) → entries_from (m + 3) before (at + 1) bs ≡ entries_from 0 before (at + (m + 4)) (drop (m + 4) (b ∷ bs))
unfolding entries_from
entries_on before = passing (λ k at bs. entries_from k before at bs) (Ok []) (λ k at. refl) (λ k at b bs. refl)

pub entries_first : (before : List Entry) (at : ℕ) (bs : List ℕ) (e : Entry) → 0 < length bs → first_entry (order before) (length before) at bs ≡ Ok e → entries_from 0 before at bs ≡ followed e (entries_from 0 (e ∷ before) (at + (le4_at bs 0 + 4)) (drop (le4_at bs 0 + 4) bs))
unfolding entries_from
entries_first before at [] e l h = absurd (omega arith)
entries_first before at (b ∷ bs) e l h =
    let n = le4_at (b ∷ bs) 0 in
    ap (λ x. and_then x (λ f. entries_from (n + 3) (f ∷ before) (at + 1) bs)) h
    ∙ ap (followed e) (entries_on (e ∷ before) n at b bs)

-- ---- the order after one more record
pub deepest_is : (before : List Entry) → deepest_of (order before) ≡ deepest before
deepest_is [] = refl
deepest_is (e ∷ before) = refl

pub attribute_is : (before : List Entry) → attributes_of (order before) ≡ attribute_depth before
attribute_is [] = refl
attribute_is (e ∷ before) = refl

pub order_after : (before : List Entry) (d : ℕ) (b : Body) → order (entry d b ∷ before) ≡ after (order before) (kind b) d
order_after before d (document p) = refl
order_after before d (element s n) = refl
order_after before d (leaf text p) = refl
order_after before d (leaf comment p) = refl
order_after before d (leaf doctype p) = refl
order_after before d (leaf instruction p) = refl
order_after before d (attribute n v) = ap (λ m. After m (Some d)) (sym (deepest_is before))

-- ---- what a step that was taken says
pub first_is_whole : (o : Order) (number at : ℕ) (bs : List ℕ) (e : Entry) → first_entry o number at bs ≡ Ok e → (leb 4096 number ≡ false) × (whole bs ≡ true)
unfolding first_entry
first_is_whole o number at bs e = by (leb 4096 number) (whole bs) (of_kind o at (le2_at bs 6) (payload_of bs) (kind_of (le2_at bs 4)))
  where
    by : (m w : Bool) (x : Result Entry Refusal) → cond m (Err (Many at)) (cond w x (Err (Cut at))) ≡ Ok e → (m ≡ false) × (w ≡ true)
    by true w x h = never h
    by false false x h = never h
    by false true x h = (refl, refl)

-- the order behind a record that was taken, or its refusal
pub order_on : (o p : Order) (x : Result Entry Refusal) → Ok p ≡ onward o x → (e : Entry) × (x ≡ Ok e) × (Ok p ≡ onward o (Ok e))
order_on o p (Ok e) h = (e, refl, h)
order_on o p (Err r) h = never (sym h)

pub order_refused : (o : Order) (r : Refusal) (x : Result Entry Refusal) → Err r ≡ onward o x → x ≡ Err r
order_refused o r (Ok (entry d b)) h = never h
order_refused o r (Err f) h = cc

pub counted_more : (n : ℕ) (e : Entry) (r : Result (List Entry) Refusal) → counted n (followed e r) ≡ counted (n + 1) r
counted_more n e (Ok es) = let q : n + suc (length es) ≡ n + 1 + length es = omega arith in ap Ok q
counted_more n e (Err r) = refl

-- the page as a whole
pub from_start : (page : List ℕ) → length page ≤ 65536 → eqb (length page) 0 ≡ false → entries page ≡ entries_from 0 [] 0 page
from_start page few some = rw (le-ltb 65536 (length page) few, some)

pub at_end : (page : List ℕ) (at number : ℕ) (before : List Entry) → length page ≤ at → counted number (entries_from 0 before at (drop at page)) ≡ Ok number
unfolding entries_from
at_end page at number before past = ap (λ q. counted number (entries_from 0 before at q)) (drop_all at page past) ∙ ap Ok (add-zero number)
