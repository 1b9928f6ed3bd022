-- Records that are read one after another, from where they begin. Assumes nothing.
use Rattle.std.proofs.Common.{◌≡◌, ℕ, zero, suc, ◌+◌, ◌-◌, ◌^◌, ◌<◌, ◌≤◌, Bool, true, false, cond, eqb, List, [], ◌∷◌, length, take, drop, map, Some, None, Ok, Err, Option, Result, sym, refl, ap, ◌∙◌, subst, arith, length-take, length-drop}
use Rattle.std.proofs.lemmas.List.{take_rest}
use Rattle.std.proofs.lemmas.Bool.{leb-false}
use Rattle.parts.specs.declared.Spot.{Spot}
use Rattle.parts.specs.declared.Refusal.{Refusal}
use Rattle.dom.specs.declared.order.Order.{Order}
use Rattle.dom.specs.declared.frame.Frame.{Frame}
use Rattle.dom.specs.Format.{Entry, kind, encodings, order}
use Rattle.dom.specs.Format.Entry.{entry}
use Rattle.dom.specs.Reading.{whole, le2_at, le4_at, frame_of, first_entry, entry_front, entries, entries_from, and_then, followed, counted, after, onward}
use Rattle.dom.specs.Dom.{span, locate}
use Rattle.dom.specs.Asking.{spot, next_number, passed, node_from, Valued, if_named, node_at, attribute_from, past_of, attributes_past, attribute_of}
use Rattle.dom.specs.Fronts.{Front, fronts_from, fronts_at, named_in, read_at, standing, RecordsAreRead}
use Rattle.dom.proofs.Stepping.{front_cut, frame_cut, frame_whole}
use Rattle.dom.proofs.Records.{whole_is, written_rest, written_some, front_back}
use Rattle.dom.proofs.Answering.{Small, Sounds, sounds, bytes, size_is, next_is, formed}
use Rattle.dom.proofs.Going.{passing, from_start, first_is_whole, order_after, order_on, order_refused, counted_more}

abbrev pub front : (number at : ℕ) → List ℕ → Front
front n at bs = record { spot = spot n at; bytes = bs }

fronts_on : (n m at b : ℕ) (bs : List ℕ) → fronts_from (m + 3) n (at + 1) bs ≡ fronts_from 0 n (at + (m + 4)) (drop (m + 4) (b ∷ bs))
unfolding fronts_from
fronts_on n = passing (λ k a q. fronts_from k n a q) [] (λ k a. refl) (λ k a b q. refl)

-- those behind the first
abbrev pub fronts_past : (n at : ℕ) → List ℕ → List Front
fronts_past n at bs = fronts_from 0 (next_number n) (at + (le4_at bs 0 + 4)) (drop (le4_at bs 0 + 4) bs)

pub no_fronts : (n at : ℕ) (bs : List ℕ) → length bs ≤ 0 → fronts_from 0 n at bs ≡ []
unfolding fronts_from
no_fronts n at [] l = refl
no_fronts n at (b ∷ bs) l = absurd (omega arith)

pub fronts_step : (n at : ℕ) (bs : List ℕ) → 0 < length bs → fronts_from 0 n at bs ≡ front n at bs ∷ cond (whole bs) (fronts_past n at bs) []
unfolding fronts_from
fronts_step n at [] l = absurd (omega arith)
fronts_step n at (b ∷ bs) l = ap (λ x. front n at (b ∷ bs) ∷ cond (whole (b ∷ bs)) x []) (fronts_on (next_number n) (le4_at (b ∷ bs) 0) at b bs)

-- as the code cuts the bytes: behind a record, or at the end where it is not whole
pub fronts_cut : (n at m s : ℕ) (bs : List ℕ) → 0 < length bs → None ≡ frame_of bs → s ≡ length bs → fronts_from 0 n at bs ≡ front n at bs ∷ fronts_from 0 m (at + s) (take (length bs - s) (drop s bs))
fronts_cut n at m s bs l h e =
    fronts_step n at bs l
    ∙ ap (λ w. front n at bs ∷ cond w (fronts_past n at bs) []) (frame_cut bs h)
    ∙ ap (λ xs. front n at bs ∷ xs) (sym (no_fronts m (at + s) (take (length bs - s) (drop s bs)) (simp (length-take, length-drop) (omega arith))))

pub fronts_framed : (n at m s : ℕ) (bs : List ℕ) (f : Frame) → 0 < length bs → Some f ≡ frame_of bs → m ≡ next_number n → s ≡ f.size → fronts_from 0 n at bs ≡ front n at bs ∷ fronts_from 0 m (at + s) (take (length bs - s) (drop s bs))
fronts_framed n at m s bs f l h next e =
    let w = frame_whole bs f h in
    let size = e ∙ ap (λ x. x.size) w.1 in
    fronts_step n at bs l
    ∙ ap (λ t. front n at bs ∷ cond t (fronts_past n at bs) []) w.0
    ∙ (λ i. front n at bs ∷ fronts_from 0 (sym next i) (at + sym size i) (drop (sym size i) bs))
    ∙ ap (λ q. front n at bs ∷ fronts_from 0 m (at + s) q) (sym (take_rest bs s))

-- ---- a node at a depth
abbrev pub found : ℕ → List Front → Option Spot
found depth [] = None
found depth (f ∷ fs) = cond (whole f.bytes) (cond (passed f.bytes depth) (found depth fs) (cond (eqb (le2_at f.bytes 6) depth) (Some f.spot) None)) None

untaken : (w p : Bool) (x y z : Option Spot) → (w ≡ true → x ≡ y) → cond w (cond p x z) None ≡ cond w (cond p y z) None
untaken true p x y z e = ap (λ o. cond p o z) (e refl)
untaken false p x y z e = refl

pub nodes_found : (skip n at : ℕ) (bs : List ℕ) (depth : ℕ) → node_from skip n at bs depth ≡ found depth (fronts_from skip n at bs)
unfolding node_from fronts_from
nodes_found skip n at [] depth = refl
nodes_found zero n at (b ∷ bs) depth =
    let rest = fronts_from (le4_at (b ∷ bs) 0 + 3) (next_number n) (at + 1) bs in
    untaken (whole (b ∷ bs)) (passed (b ∷ bs) depth) _ (found depth (cond (whole (b ∷ bs)) rest [])) _
    (λ w. nodes_found (le4_at (b ∷ bs) 0 + 3) (next_number n) (at + 1) bs depth ∙ ap (λ t. found depth (cond t rest [])) (sym w))
nodes_found (suc skip) n at (b ∷ bs) depth = nodes_found skip n (at + 1) bs depth

-- from the records at that spot on
pub found_from : (depth : ℕ) (page : List ℕ) (s : Spot) (fs : List Front) → fs ≡ fronts_at page s → found depth fs ≡ node_at page s depth
found_from depth page s fs e = ap (found depth) e ∙ sym (nodes_found 0 s.number s.place (drop s.place page) depth)

-- ---- an attribute of a name
pub attributes_found : (skip n at : ℕ) (bs name : List ℕ) → attribute_from skip n at bs name ≡ named_in name (fronts_from skip n at bs)
unfolding attribute_from fronts_from
attributes_found skip n at [] name = refl
attributes_found zero n at (b ∷ bs) name = by (whole (b ∷ bs)) refl (attributes_found (le4_at (b ∷ bs) 0 + 3) (next_number n) (at + 1) bs name)
  where
    rest : List Front
    rest = fronts_from (le4_at (b ∷ bs) 0 + 3) (next_number n) (at + 1) bs

    by : (w : Bool) → w ≡ whole (b ∷ bs) → {more : Option Valued} → more ≡ named_in name rest → if_named n at name (entry_front at (b ∷ bs)) more ≡ if_named n at name (entry_front at (b ∷ bs)) (named_in name (cond w rest []))
    by true w m = ap (if_named n at name (entry_front at (b ∷ bs))) m
    by false w m = rw (front_cut at (b ∷ bs) (sym w))
attributes_found (suc skip) n at (b ∷ bs) name = attributes_found skip n (at + 1) bs name

-- from the records behind the one at that spot on
pub named_past : (page : List ℕ) (s : Spot) (name rest : List ℕ) (next : Spot) (depth : ℕ) (fs : List Front) → fs ≡ fronts_at rest next → rest ≡ page → Some (record { next = next; depth = depth }) ≡ past_of page s → named_in name fs ≡ attribute_of page s name
named_past page s name rest next depth fs e same past =
    ap (named_in name) e
    ∙ (λ i. named_in name (fronts_at (same i) next))
    ∙ sym (attributes_found 0 next.number next.place (drop next.place page) name)
    ∙ ap (attributes_past page name) past

-- ---- the check
abbrev pub checked : List Entry → List Front → Result (List Entry) Refusal
checked before [] = Ok []
checked before (f ∷ fs) = and_then (first_entry (order before) f.spot.number f.spot.place f.bytes) (λ e. checked (e ∷ before) fs)

same_then : (x : Result Entry Refusal) (f g : Entry → Result (List Entry) Refusal) → ((e : Entry) → x ≡ Ok e → f e ≡ g e) → and_then x f ≡ and_then x g
same_then (Ok e) f g h = ap (followed e) (h e refl)
same_then (Err r) f g h = refl

pub entries_checked : (skip n at : ℕ) (before : List Entry) (bs : List ℕ) → length before ≡ n → n ≤ 4096 → entries_from skip before at bs ≡ checked before (fronts_from skip n at bs)
unfolding entries_from fronts_from
entries_checked skip n at before [] l few = refl
entries_checked zero n at before (b ∷ bs) l few =
    let size = le4_at (b ∷ bs) 0 + 3 in
    let rest = fronts_from size (next_number n) (at + 1) bs in
    let on : Entry → Result (List Entry) Refusal = λ e. entries_from size (e ∷ before) (at + 1) bs in
    ap (λ m. and_then (first_entry (order before) m at (b ∷ bs)) on) l
    ∙ same_then (first_entry (order before) n at (b ∷ bs)) on (λ e. checked (e ∷ before) (cond (whole (b ∷ bs)) rest [])) (λ e h.
    let w = first_is_whole (order before) n at (b ∷ bs) e h in
    let m = leb-false 4096 n w.0 in
    entries_checked size (next_number n) (at + 1) (e ∷ before) bs (omega arith) (omega arith)
    ∙ ap (λ t. checked (e ∷ before) (cond t rest [])) (sym w.1))
entries_checked (suc skip) n at before (b ∷ bs) l few = entries_checked skip n (at + 1) before bs l few

-- the numbers go on by one
abbrev pub Numbered : ℕ → List Front → Type 0
Numbered n [] = Unit {0}
Numbered n (f ∷ fs) = (f.spot.number ≡ n) × Numbered (n + 1) fs

pub numbered : (skip n at : ℕ) (bs : List ℕ) → n + length bs < 2 ^ 64 - 1 → Numbered n (fronts_from skip n at bs)
unfolding fronts_from
numbered skip n at [] small = tt
numbered zero n at (b ∷ bs) small =
    let rest = fronts_from (le4_at (b ∷ bs) 0 + 3) (next_number n) (at + 1) bs in
    let next : next_number n ≡ n + 1 = omega arith in
    (refl, by (whole (b ∷ bs)) rest (subst (λ m. Numbered m rest) next (numbered (le4_at (b ∷ bs) 0 + 3) (next_number n) (at + 1) bs (omega arith))))
  where
    by : (w : Bool) (rest : List Front) → Numbered (n + 1) rest → Numbered (n + 1) (cond w rest [])
    by true rest h = h
    by false rest h = tt
numbered (suc skip) n at (b ∷ bs) small = numbered skip n (at + 1) bs (omega arith)

-- where the check begins
abbrev pub Started : List ℕ → List Front → Type 0
Started page fs = Numbered 0 fs × (counted 0 (checked [] fs) ≡ counted 0 (entries page))

pub started : (page : List ℕ) (fs : List Front) → length page ≤ 65536 → eqb (length page) 0 ≡ false → fs ≡ fronts_from 0 0 0 page → Started page fs
started page fs few some e =
    subst (Started page) (sym e) (numbered 0 0 0 page (omega arith), ap (counted 0) (sym (from_start page few some ∙ entries_checked 0 0 0 [] page refl (omega arith))))

-- ---- one turn of the check, behind the records before
pub record Turned (f : Front) (fs : List Front) (count : ℕ) (before : List Entry) (o : Order) : Type 0 where
  pub next : List Entry
  pub ordered : order next ≡ o
  pub few : f.spot.number < 4096
  pub same : counted (count + 1) (checked next fs) ≡ counted count (checked before (f ∷ fs))

module _ (f : Front) (fs : List Front) (count : ℕ) (before : List Entry) where
  abbrev here : Result Entry Refusal
  here = first_entry (order before) f.spot.number f.spot.place f.bytes

  pub turn : (o p : Order) → order before ≡ o → Ok p ≡ onward o (first_entry o f.spot.number f.spot.place f.bytes) → Turned f fs count before p
  turn o p same h =
      let g = h ∙ ap (λ q. onward q (first_entry q f.spot.number f.spot.place f.bytes)) (sym same) in
      let t = order_on (order before) p here g in
      let w = first_is_whole (order before) f.spot.number f.spot.place f.bytes t.0 t.1 in
      record {
        next = t.0 ∷ before;
        ordered = behind t.0 t.2;
        few = leb-false 4096 f.spot.number w.0;
        same = sym (ap (λ x. counted count (and_then x (λ e. checked (e ∷ before) fs))) t.1 ∙ counted_more count t.0 (checked (t.0 ∷ before) fs));
      }
    where
      behind : (e : Entry) → Ok p ≡ onward (order before) (Ok e) → order (e ∷ before) ≡ p
      behind (entry d b) h = let q : p ≡ after (order before) (kind b) d = cc in order_after before d b ∙ sym q

  pub turned_away : (o : Order) (r : Refusal) → order before ≡ o → Err r ≡ onward o (first_entry o f.spot.number f.spot.place f.bytes) → counted count (checked before (f ∷ fs)) ≡ Err r
  turned_away o r same h =
      let g = h ∙ ap (λ q. onward q (first_entry q f.spot.number f.spot.place f.bytes)) (sym same) in
      ap (λ x. counted count (and_then x (λ e. checked (e ∷ before) fs))) (order_refused (order before) r here g)

-- ---- the records of an accepted page
records_read : (i at : ℕ) (es : List Entry) → Small i es → Sounds es → map read_at (fronts_from 0 i at (encodings es)) ≡ map standing (locate i at es)
unfolding fronts_from
records_read i at [] small good = refl
records_read i at (entry d b ∷ es) small good =
    let q = bytes d b es in
    let size = le4_at q 0 + 4 in
    let shown = λ (r : Result Entry Refusal) (fs : List Front). (spot i at, r) ∷ map read_at fs in
    ap (map read_at) (fronts_step i at q (written_some d b (encodings es)))
    ∙ ap (λ r. shown r (cond (whole q) (fronts_past i at q) [])) (front_back d b (encodings es) at good.0)
    ∙ ap (λ t. shown (Ok (entry d b)) (cond t (fronts_past i at q) [])) (whole_is d b (encodings es))
    ∙ ap (λ n. shown (Ok (entry d b)) (fronts_from 0 n (at + size) (drop size q))) (next_is i (omega arith))
    ∙ ap (λ x. shown (Ok (entry d b)) (fronts_from 0 (suc i) (at + size) x)) (written_rest d b (encodings es))
    ∙ ap (λ n. shown (Ok (entry d b)) (fronts_from 0 (suc i) (at + n) (encodings es))) (size_is d b es)
    ∙ ap (λ xs. (spot i at, Ok (entry d b)) ∷ xs) (records_read (suc i) (at + span (entry d b)) es (omega arith) good.1)

pub records_are_read : (page : List ℕ) → RecordsAreRead page (fronts_from 0 0 0 page)
records_are_read page es h =
    let w = formed es h.0 in
    subst (λ bs. map read_at (fronts_from 0 0 0 bs) ≡ map standing (locate 0 0 es)) h.1 (records_read 0 0 es (omega (arith, w.1)) (sounds [] es w.0))
