-- The records that are read from a page are those whose encodings it is. Assumes nothing.
use Rattle.std.proofs.Common.{◌≡◌, ℕ, zero, suc, ◌+◌, ◌-◌, ◌*◌, ◌/◌, ◌%◌, ◌<◌, ◌≤◌, Bool, true, false, cond, ◌&&◌, eqb, ltb, leb, List, [], ◌∷◌, ◌++◌, length, get_or, take, drop, Some, None, Ok, Err, Option, Result, sym, refl, ap, ◌∙◌, subst, arith, length-append, length-drop, take-append-drop, length-take, get_or-drop}
use lib.Seq.{take-append_seam, drop-append_seam}
use Rattle.std.proofs.lemmas.Bool.{le-leb, leb-true, lt-leb, leb-false, ltb-false, eqb-false, ne_eqb, and_parts, and_from}
use Rattle.parts.specs.declared.Kind.{Kind}
use Rattle.parts.specs.declared.Refusal.{Refusal}
use Rattle.parts.specs.declared.Refusal.TheVariants.{Long, Cut, Kind as WrongKind, Depth as WrongDepth}
use Rattle.dom.specs.declared.order.Order.{Order}
use Rattle.parts.specs.Codes.{kind_number}
use Rattle.dom.specs.Format.{Body, Entry, kind, payload, encoded, encodings, le2, le4, kind_fits, depth_fits, order, fits, orderly, sound}
use Rattle.dom.specs.Format.Entry.{entry}
use Rattle.parts.specs.Codes.{kind_of}
use Rattle.dom.specs.Reading.{whole, le2_at, le4_at, payload_of, of_kind, tested, with_depth, body_of, first_entry, entry_front, read_as, followed, and_then, entries_from, entries, counted}
use Rattle.dom.specs.Laws.{Holds, Accepts, HeldOnce}
use Rattle.dom.proofs.Stepping.{never, body_kind, tested_both, first_whole, whole_size}
use Rattle.dom.proofs.Going.{first_is_whole, entries_first, from_start}
use Rattle.dom.proofs.Bodies.{kind_back, kind_is, body_is_read, body_back}

abbrev pub Octets : List ℕ → Type 0
Octets bs = (i : ℕ) → get_or bs i 0 < 256

pub octets_drop : (n : ℕ) (bs : List ℕ) → Octets bs → Octets (drop n bs)
octets_drop n bs oc i = subst (λ v. v < 256) (sym (get_or-drop n bs i 0)) (oc (n + i))

octets_take : (n : ℕ) (bs : List ℕ) → Octets bs → Octets (take n bs)
octets_take zero bs oc i = omega arith
octets_take (suc n) [] oc i = omega arith
octets_take (suc n) (b ∷ bs) oc zero = oc 0
octets_take (suc n) (b ∷ bs) oc (suc i) = octets_take n bs (λ j. oc (suc j)) i

-- ---- one record, read
pub record Entered (o : Order) (k : Kind) (d : ℕ) (p : List ℕ) (at : ℕ) (e : Entry) : Type 0 where
  pub body : Body
  pub is : entry d body ≡ e
  pub kinded : kind_fits o k ≡ true
  pub deep : depth_fits o k d ≡ true
  pub read : body_of at k p ≡ Ok body

tested_is : (o : Order) (at d : ℕ) (p : List ℕ) (k : Kind) (e : Entry) → tested o at d p k ≡ Ok e → Entered o k d p at e
unfolding tested
tested_is o at d p k e h = by (kind_fits o k) (depth_fits o k d) (body_of at k p) refl refl refl h
  where
    by : (f g : Bool) (b : Result Body Refusal) → f ≡ kind_fits o k → g ≡ depth_fits o k d → b ≡ body_of at k p → cond f (cond g (with_depth d b) (Err (WrongDepth at))) (Err (WrongKind at)) ≡ Ok e → Entered o k d p at e
    by true true (Ok b) f g r h = record { body = b; is = cc; kinded = sym f; deep = sym g; read = sym r }
    by true true (Err x) f g r h = never h
    by true false b f g r h = never h
    by false g' b f g r h = never h

known : (o : Order) (at d : ℕ) (p : List ℕ) (k : Option Kind) (e : Entry) → of_kind o at d p k ≡ Ok e → (x : Kind) × (k ≡ Some x) × Entered o x d p at e
known o at d p None e h = never h
known o at d p (Some k) e h = (k, refl, tested_is o at d p k e h)

low : (b q n : ℕ) → b < 256 → n ≡ b + q * 256 → n % 256 ≡ b
low b q n h e = omega arith

-- the eight bytes in front
front : (b0 b1 b2 b3 b4 b5 b6 b7 n k d : ℕ) → b0 < 256 → b1 < 256 → b2 < 256 → b3 < 256 → b4 < 256 → b5 < 256 → b6 < 256 → b7 < 256
    → n ≡ b0 + b1 * 256 + b2 * 65536 + b3 * 16777216 → k ≡ b4 + b5 * 256 → d ≡ b6 + b7 * 256
    → (p : List ℕ) → le4 n ++ (le2 k ++ (le2 d ++ p)) ≡ b0 ∷ b1 ∷ b2 ∷ b3 ∷ b4 ∷ b5 ∷ b6 ∷ b7 ∷ p
front b0 b1 b2 b3 b4 b5 b6 b7 n k d h0 h1 h2 h3 h4 h5 h6 h7 en ek ed p =
    let e0 : n % 256 ≡ b0 = omega arith in
    let q1 : n / 256 ≡ b1 + b2 * 256 + b3 * 65536 = omega arith in
    let q2 : n / 65536 ≡ b2 + b3 * 256 = omega arith in
    let e1 : n / 256 % 256 ≡ b1 = ap (λ m. m % 256) q1 ∙ low b1 (b2 + b3 * 256) (b1 + b2 * 256 + b3 * 65536) h1 (omega arith) in
    let e2 : n / 65536 % 256 ≡ b2 = ap (λ m. m % 256) q2 ∙ low b2 b3 (b2 + b3 * 256) h2 refl in
    let e3 : n / 16777216 ≡ b3 = omega arith in
    let e4 : k % 256 ≡ b4 = omega arith in
    let e5 : k / 256 ≡ b5 = omega arith in
    let e6 : d % 256 ≡ b6 = omega arith in
    let e7 : d / 256 ≡ b7 = omega arith in
    λ i. e0 i ∷ e1 i ∷ e2 i ∷ e3 i ∷ e4 i ∷ e5 i ∷ e6 i ∷ e7 i ∷ p

-- what a record that was read says of the bytes that it was read from
pub record Taken (o : Order) (bs : List ℕ) (e : Entry) : Type 0 where
  pub depth : ℕ
  pub body : Body
  pub is : entry depth body ≡ e
  pub kinded : kind_fits o (kind body) ≡ true
  pub deep : depth_fits o (kind body) depth ≡ true
  pub good : sound body ≡ true
  pub bytes : encoded (entry depth body) ≡ take (le4_at bs 0 + 4) bs

eight : (bs : List ℕ) → Octets bs → 8 ≤ le4_at bs 0 + 4 → le4_at bs 0 + 4 ≤ length bs → le4 (le4_at bs 0) ++ (le2 (le2_at bs 4) ++ (le2 (le2_at bs 6) ++ payload_of bs)) ≡ take (le4_at bs 0 + 4) bs
eight [] oc l h = absurd (omega arith)
eight (b0 ∷ []) oc l h = absurd (omega arith)
eight (b0 ∷ b1 ∷ []) oc l h = absurd (omega arith)
eight (b0 ∷ b1 ∷ b2 ∷ []) oc l h = absurd (omega arith)
eight (b0 ∷ b1 ∷ b2 ∷ b3 ∷ []) oc l h = absurd (omega arith)
eight (b0 ∷ b1 ∷ b2 ∷ b3 ∷ b4 ∷ []) oc l h = absurd (omega arith)
eight (b0 ∷ b1 ∷ b2 ∷ b3 ∷ b4 ∷ b5 ∷ []) oc l h = absurd (omega arith)
eight (b0 ∷ b1 ∷ b2 ∷ b3 ∷ b4 ∷ b5 ∷ b6 ∷ []) oc l h = absurd (omega arith)
eight (b0 ∷ b1 ∷ b2 ∷ b3 ∷ b4 ∷ b5 ∷ b6 ∷ b7 ∷ rest) oc l h =
    let bs = b0 ∷ b1 ∷ b2 ∷ b3 ∷ b4 ∷ b5 ∷ b6 ∷ b7 ∷ rest in
    let n = le4_at bs 0 in
    let e : n + 4 ≡ suc (suc (suc (suc (suc (suc (suc (suc (n - 4)))))))) = omega arith in
    front b0 b1 b2 b3 b4 b5 b6 b7 n (le2_at bs 4) (le2_at bs 6) (oc 0) (oc 1) (oc 2) (oc 3) (oc 4) (oc 5) (oc 6) (oc 7) refl refl refl (take (n - 4) rest)
    ∙ ap (λ m. take m bs) (sym e)

pub taken : (o : Order) (number at : ℕ) (bs : List ℕ) (e : Entry) → Octets bs → first_entry o number at bs ≡ Ok e → Taken o bs e
taken o number at bs e oc h =
    let wf = first_is_whole o number at bs e h in
    let z = whole_size bs wf.1 in
    let p = payload_of bs in
    let k = known o at (le2_at bs 6) p (kind_of (le2_at bs 4)) e (sym (first_whole o number at bs wf.0 wf.1) ∙ h) in
    let t = k.2 in
    let b = t.body in
    let same : kind b ≡ k.0 = body_kind at k.0 p b t.read in
    let long : length p ≡ le4_at bs 0 - 4 = simp (length-take, length-drop) (omega arith) in
    let byte : get_or p 0 0 < 256 = octets_take (le4_at bs 0 - 4) (drop 8 bs) (octets_drop 8 bs oc) 0 in
    let r = body_is_read at k.0 p b byte t.read in
    let kn : kind_number (kind b) ≡ le2_at bs 4 = ap kind_number same ∙ kind_is (le2_at bs 4) k.0 k.1 in
    let l : 4 + length (payload b) ≡ le4_at bs 0 = omega (arith, ap length r.0) in
    record {
      depth = le2_at bs 6;
      body = b;
      is = t.is;
      kinded = ap (kind_fits o) same ∙ t.kinded;
      deep = ap (λ x. depth_fits o x (le2_at bs 6)) same ∙ t.deep;
      good = r.1;
      bytes = (λ i. le4 (l i) ++ (le2 (kn i) ++ (le2 (le2_at bs 6) ++ r.0 i))) ∙ eight bs oc z.1 z.0;
    }

-- ---- all records, read
goes : (x : Result Entry Refusal) (f : Entry → Result (List Entry) Refusal) (es : List Entry) → and_then x f ≡ Ok es → (e : Entry) × (x ≡ Ok e) × ((fs : List Entry) × (f e ≡ Ok fs) × (e ∷ fs ≡ es))
goes (Ok e) f es h = (e, refl, by (f e) refl h)
  where
    by : (r : Result (List Entry) Refusal) → r ≡ f e → followed e r ≡ Ok es → (fs : List Entry) × (f e ≡ Ok fs) × (e ∷ fs ≡ es)
    by (Ok fs) r g = (fs, sym r, cc)
    by (Err x) r g = never g
goes (Err r) f es h = never h

abbrev Reads : ℕ → List Entry → List ℕ → List Entry → Type 0
Reads skip before bs es = (orderly before es ≡ true) × (encodings es ≡ drop skip bs) × (length before + length es ≤ 4096)

reads : (skip : ℕ) (before : List Entry) (at : ℕ) (bs : List ℕ) (es : List Entry) → Octets bs → length before ≤ 4096 → entries_from skip before at bs ≡ Ok es → Reads skip before bs es
unfolding entries_from
reads zero before at [] es oc few h = let e : [] ≡ es = cc in subst (Reads 0 before []) e (refl, refl, omega arith)
reads (suc skip) before at [] es oc few h = let e : [] ≡ es = cc in subst (Reads (suc skip) before []) e (refl, refl, omega arith)
reads zero before at (b ∷ bs) es oc few h =
    let n = le4_at (b ∷ bs) 0 in
    let g = goes (first_entry (order before) (length before) at (b ∷ bs)) (λ e. entries_from (n + 3) (e ∷ before) (at + 1) bs) es h in
    let e = g.0 in
    let t = taken (order before) (length before) at (b ∷ bs) e oc g.1 in
    let wf = first_is_whole (order before) (length before) at (b ∷ bs) e g.1 in
    let l = leb-false 4096 (length before) wf.0 in
    let r = reads (n + 3) (e ∷ before) (at + 1) bs g.2.0 (λ i. oc (suc i)) l g.2.1 in
    let q : n + 4 ≡ suc (n + 3) = omega arith in
    let rest : drop (n + 3) bs ≡ drop (n + 4) (b ∷ bs) = ap (λ m. drop m (b ∷ bs)) (sym q) in
    let fit : fits before e ≡ true = subst (λ x. fits before x ≡ true) t.is (and_from _ _ (and_from _ _ t.kinded t.deep) t.good) in
    let front_bytes : encoded e ≡ take (n + 4) (b ∷ bs) = subst (λ x. encoded x ≡ take (n + 4) (b ∷ bs)) t.is t.bytes in
    subst (Reads 0 before (b ∷ bs)) g.2.2 (
      and_from _ _ fit r.0,
      (λ i. front_bytes i ++ (r.1 ∙ rest) i) ∙ take-append-drop (n + 4) (b ∷ bs),
      (let m = r.2 in omega arith),
    )
reads (suc skip) before at (b ∷ bs) es oc few h = reads skip before (at + 1) bs es (λ i. oc (suc i)) few h

-- ---- one record, from its encoding
pub le2_back : (n : ℕ) → n % 256 + n / 256 * 256 ≡ n
le2_back n = omega arith

le4_back : (n : ℕ) → n % 256 + n / 256 % 256 * 256 + n / 65536 % 256 * 65536 + n / 16777216 * 16777216 ≡ n
le4_back n =
    let a = n / 256 in
    let b = n / 65536 in
    let c = n / 16777216 in
    let ab : b ≡ a / 256 = omega arith in
    let bc : c ≡ b / 256 = omega arith in
    omega (arith, le2_back n, le2_back a, le2_back b)

module _ (d : ℕ) (b : Body) (rest : List ℕ) where
  abbrev pub written : List ℕ
  written = encoded (entry d b) ++ rest

  pub long_is : le4_at written 0 ≡ 4 + length (payload b)
  long_is = le4_back (4 + length (payload b))

  pub whole_is : whole written ≡ true
  whole_is =
      let e = long_is in
      let l : length (payload b ++ rest) ≡ length (payload b) + length rest = length-append (payload b) rest in
      and_from _ _ (and_from _ _ (le-leb 4 (length written) (omega arith)) (le-leb 4 (le4_at written 0) (omega arith))) (le-leb (le4_at written 0) (length written - 4) (omega arith))

  payload_is : payload_of written ≡ payload b
  payload_is =
      let e : le4_at written 0 - 4 ≡ length (payload b) = omega (arith, long_is) in
      ap (λ m. take m (payload b ++ rest)) e ∙ take-append_seam (payload b) rest

  pub first_back : (o : Order) (number at : ℕ) → number < 4096 → kind_fits o (kind b) ≡ true → depth_fits o (kind b) d ≡ true → sound b ≡ true → first_entry o number at written ≡ Ok (entry d b)
  first_back o number at few k f s =
      first_whole o number at written (lt-leb 4096 number few) whole_is
      ∙ (λ i. of_kind o at (le2_back d i) (payload_is i) (kind_of (le2_back (kind_number (kind b)) i)))
      ∙ ap (of_kind o at d (payload b)) (kind_back (kind b))
      ∙ tested_both o at d (payload b) (kind b) k f
      ∙ ap (with_depth d) (body_back at b s)

  pub front_back : (at : ℕ) → sound b ≡ true → entry_front at written ≡ Ok (entry d b)
  unfolding entry_front
  front_back at s =
      ap (λ t. cond t (read_as at (le2_at written 6) (payload_of written) (kind_of (le2_at written 4))) (Err (Cut at))) whole_is
      ∙ (λ i. read_as at (le2_back d i) (payload_is i) (kind_of (le2_back (kind_number (kind b)) i)))
      ∙ ap (read_as at d (payload b)) (kind_back (kind b))
      ∙ ap (with_depth d) (body_back at b s)

  pub written_rest : drop (le4_at written 0 + 4) written ≡ rest
  written_rest =
      let e : le4_at written 0 + 4 ≡ suc (suc (suc (suc (suc (suc (suc (suc (length (payload b))))))))) = omega (arith, long_is) in
      ap (λ m. drop m written) e ∙ drop-append_seam (payload b) rest

  pub written_some : 0 < length written
  written_some = omega arith

-- ---- all records, from their encodings
reads_back : (before : List Entry) (at : ℕ) (es : List Entry) → orderly before es ≡ true → length before + length es ≤ 4096 → entries_from 0 before at (encodings es) ≡ Ok es
unfolding entries_from
reads_back before at [] h few = refl
reads_back before at (entry d b ∷ es) h few =
    let e = entry d b in
    let bs = written d b (encodings es) in
    let p = and_parts (fits before e) (orderly (e ∷ before) es) h in
    let q = and_parts (kind_fits (order before) (kind b) && depth_fits (order before) (kind b) d) (sound b) p.0 in
    let r = and_parts (kind_fits (order before) (kind b)) (depth_fits (order before) (kind b) d) q.0 in
    entries_first before at bs e (written_some d b (encodings es)) (first_back d b (encodings es) (order before) (length before) at (omega arith) r.0 r.1 q.1)
    ∙ ap (λ x. followed e (entries_from 0 (e ∷ before) (at + (le4_at bs 0 + 4)) x)) (written_rest d b (encodings es))
    ∙ ap (followed e) (reads_back (e ∷ before) (at + (le4_at bs 0 + 4)) es p.1 (omega arith))

-- ---- a page as a whole
not_refused : {X : Type 0} (t : Bool) (e : Refusal) (x : Result X Refusal) (v : X) → cond t (Err e) x ≡ Ok v → (t ≡ false) × (x ≡ Ok v)
not_refused true e x v h = never h
not_refused false e x v h = (refl, h)

has_some : (es : List Entry) (page : List ℕ) → encodings es ≡ page → (length page ≡ 0 → ⊥) → 1 ≤ length es
has_some [] page h n = absurd (n (sym (ap length h)))
has_some (e ∷ es) page h n = omega arith

some_bytes : (es : List Entry) → 1 ≤ length es → 0 < length (encodings es)
some_bytes [] h = absurd (omega arith)
some_bytes (entry d b ∷ es) h = written_some d b (encodings es)

pub entries_hold : (page : List ℕ) (es : List Entry) → Octets page → entries page ≡ Ok es → Holds page es
entries_hold page es oc h =
    let p = not_refused (ltb 65536 (length page)) Long (cond (eqb (length page) 0) (Err (Cut 0)) (entries_from 0 [] 0 page)) es h in
    let q = not_refused (eqb (length page) 0) (Cut 0) (entries_from 0 [] 0 page) es p.1 in
    let r = reads 0 [] 0 page es oc (omega arith) q.1 in
    let few : length (encodings es) ≤ 65536 = subst (λ bs. length bs ≤ 65536) (sym r.1) (ltb-false 65536 (length page) p.0) in
    let some = has_some es page r.1 (eqb-false (length page) 0 q.0) in (
      and_from _ _ (and_from _ _ (and_from _ _ r.0 (le-leb 1 (length es) some)) (le-leb (length es) 4096 (omega (arith, r.2)))) (le-leb (length (encodings es)) 65536 few),
      r.1,
    )

pub held_entries : (page : List ℕ) (es : List Entry) → Holds page es → entries page ≡ Ok es
held_entries page es h =
    let p = and_parts (orderly [] es && leb 1 (length es) && leb (length es) 4096) (leb (length (encodings es)) 65536) h.0 in
    let q = and_parts (orderly [] es && leb 1 (length es)) (leb (length es) 4096) p.0 in
    let r = and_parts (orderly [] es) (leb 1 (length es)) q.0 in
    let few = leb-true (length (encodings es)) 65536 p.1 in
    let some = some_bytes es (leb-true 1 (length es) r.1) in
    subst (λ bs. entries bs ≡ Ok es) h.1
    (from_start (encodings es) few (ne_eqb (length (encodings es)) 0 (λ z. omega arith)) ∙ reads_back [] 0 es r.0 (omega (arith, leb-true (length es) 4096 q.1)))

pub held_once : HeldOnce
held_once page es fs h g = let a = held_entries page es h in let b = held_entries page fs g in cc

pub accepts : (page : List ℕ) → Octets page → Accepts page (counted 0 (entries page))
accepts page oc = by (entries page) refl
  where
    by : (r : Result (List Entry) Refusal) → r ≡ entries page → Accepts page (counted 0 r)
    by (Ok es) e = (es, entries_hold page es oc (sym e), let z : length es ≡ 0 + length es = omega arith in z)
    by (Err x) e = λ es h. never (e ∙ held_entries page es h)

-- the two clauses of the check
abbrev pub Answer : List ℕ → Result ℕ Refusal → Type 0
Answer page r = record { answer : r ≡ counted 0 (entries page); accepts : Accepts page r }

pub answered : (page : List ℕ) → Octets page → (r : Result ℕ Refusal) → r ≡ counted 0 (entries page) → Answer page r
answered page oc r e = record { answer = e; accepts = subst (Accepts page) (sym e) (accepts page oc) }

-- where the answer is a refusal, whatever the numbers of the page
pub answered_no : (page : List ℕ) (r : Refusal) → Err r ≡ counted 0 (entries page) → Answer page (Err r)
answered_no page r e = record { answer = e; accepts = λ es h. never (e ∙ ap (counted 0) (held_entries page es h)) }
