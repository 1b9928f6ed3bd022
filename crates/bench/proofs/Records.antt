-- The lines of an accepted page, record after record. Assumes nothing.
use Rattle.std.proofs.Common.{◌≡◌, ℕ, suc, ◌+◌, List, [], ◌∷◌, ◌++◌, map, Ok, Err, Result, sym, refl, ap, ◌∙◌, add-one, IsOk, subst, get_or, Fits, w8, arith}
use mathlib.Core.Bool.{false≢true}
use Rattle.parts.specs.declared.Found.{Found}
use Rattle.parts.specs.declared.Refusal.{Refusal}
use Rattle.dom.specs.Format.{Body, Entry}
use Rattle.dom.specs.Format.Leaf.{text, comment, doctype, instruction}
use Rattle.dom.specs.Format.Body.{document, element, leaf, attribute}
use Rattle.dom.specs.Format.Entry.{entry}
use Rattle.dom.specs.Reading.{entry_front, entries}
use Rattle.dom.specs.Shown.{Shown, Seen, body_at, shown, seen_at}
use Rattle.dom.specs.Dom.{span, locate}
use Rattle.dom.specs.Asking.{spot}
use Rattle.dom.specs.Fronts.{Front, read_at, standing, fronts_at}
use Rattle.dom.proofs.Records.{entries_hold}
use Rattle.dom.proofs.Fronts.{records_are_read}
use Rattle.dom.proofs.Stepping.{never}
use Rattle.bench.specs.Lines.{described, line, lines}

-- a line does not depend on the place
any_place : (at : ℕ) (b : Body) → described (body_at at b) ≡ described (body_at 0 b)
any_place at (document p) = refl
any_place at (element s n) = refl
any_place at (leaf text p) = refl
any_place at (leaf comment p) = refl
any_place at (leaf doctype p) = refl
any_place at (leaf instruction p) = refl
any_place at (attribute n v) = refl

same_line : (n m d e : ℕ) (s t : Shown) → n ≡ m → d ≡ e → described s ≡ described t → line n d s ≡ line m e t
same_line n m d e s t p q r = rw (p, q, r)

-- the records from a front on are the entries from that number and place on
abbrev pub Stand : List Front → (number at : ℕ) → List Entry → Type 0
Stand fs n at es = map read_at fs ≡ map standing (locate n at es)

-- what is written, and the lines of the records that are left, are what is wanted
pub record Told (page : List ℕ) (fs : List Front) (out wanted : List ℕ) : Type 0 where
  pub left : (es : List Entry) → entries page ≡ Ok es → (n : ℕ) × (at : ℕ) × (rest : List Entry) × Stand fs n at rest × (out ++ lines n rest ≡ wanted ++ lines 0 es)

-- at the start
pub begun : (page : List ℕ) (fs : List Front) (out : List ℕ) → fs ≡ fronts_at page (spot 0 0) → ((i : ℕ) → Fits w8 (get_or page i 0)) → Told page fs out out
begun page fs out e bytes = record { left = λ es h. (0, 0, es, subst (λ x. Stand x 0 0 es) (sym e) (records_are_read page es (entries_hold page es (λ i. omega (arith, bytes i)) h)), refl) }

-- the first of them
pub record First (f : Front) (fs : List Front) (n at : ℕ) (es : List Entry) : Type 0 where
  pub depth : ℕ
  pub body : Body
  pub later : List Entry
  pub is : es ≡ entry depth body ∷ later
  pub numbered : f.spot.number ≡ n
  pub read : entry_front f.spot.place f.bytes ≡ Ok (entry depth body)
  pub others : Stand fs (suc n) (at + span (entry depth body)) later

pub first : (f : Front) (fs : List Front) (n at : ℕ) (es : List Entry) → Stand (f ∷ fs) n at es → First f fs n at es
first f fs n at [] h = absurd (let z : ◌≡◌ {A = ℕ} 0 1 = cc in omega arith)
first f fs n at (entry d b ∷ es) h =
    let q : read_at f ≡ (spot n at, Ok (entry d b)) = cc in
    record { depth = d; body = b; later = es; is = refl; numbered = ap (λ x. x.0.number) q; read = ap (λ x. x.1) q; others = cc }

-- or there is none
pub none_left : (n at : ℕ) (es : List Entry) → Stand [] n at es → es ≡ []
none_left n at [] h = refl
none_left n at (e ∷ es) h = absurd (let z : ◌≡◌ {A = ℕ} 0 1 = cc in omega arith)

pub the_entries : (r : Result (List Entry) Refusal) → IsOk r → (es : List Entry) × (r ≡ Ok es)
the_entries (Ok es) h = (es, refl)
the_entries (Err e) h = absurd (false≢true h)

module _ (f : Front) (fs : List Front) (n at next : ℕ) (es : List Entry) (h : Stand (f ∷ fs) n at es) where
  abbrev head : First f fs n at es
  head = first f fs n at es h

  -- it is read
  pub no_refusal : (r : Refusal) → ◌≡◌ {A = Result Seen Refusal} (Err r) (seen_at f.spot.place next (entry_front f.spot.place f.bytes)) → ⊥
  no_refusal r g = never (g ∙ ap (seen_at f.spot.place next) head.read)

  -- and its line comes first
  pub lined : (x : Found) → ◌≡◌ {A = Result Seen Refusal} (Ok (record { shown = shown x.record; depth = x.depth; next = x.next })) (seen_at f.spot.place next (entry_front f.spot.place f.bytes)) → lines n es ≡ line f.spot.number x.depth (shown x.record) ++ lines (suc n) head.later
  lined x g =
      let q = g ∙ ap (seen_at f.spot.place next) head.read in
      let seen : ◌≡◌ {A = Seen} (record { shown = shown x.record; depth = x.depth; next = x.next }) (record { shown = body_at f.spot.place head.body; depth = head.depth; next = next }) = cc in
      let e : described (shown x.record) ≡ described (body_at 0 head.body) = ap described (ap (λ y. y.shown) seen) ∙ any_place f.spot.place head.body in
      let deep : x.depth ≡ head.depth = ap (λ y. y.depth) seen in
      ap (lines n) head.is ∙ ap (λ l. l ++ lines (n + 1) head.later) (same_line n f.spot.number head.depth x.depth (body_at 0 head.body) (shown x.record) (sym head.numbered) (sym deep) (sym e))
      ∙ ap (λ k. line f.spot.number x.depth (shown x.record) ++ lines k head.later) (add-one n)
