-- What the tests of one record come to. Assumes nothing.
use Rattle.std.proofs.Common.{◌≡◌, ℕ, ◌+◌, ◌-◌, ◌<◌, ◌≤◌, Bool, true, false, cond, ◌&&◌, leb, List, length, take, drop, Some, None, Ok, Err, Option, Result, sym, refl, ap, ◌∙◌, arith}
use Rattle.std.proofs.lemmas.Option.{none-some, cond_some}
use Rattle.std.proofs.lemmas.Bool.{le-leb, lt-leb, and_parts, leb-true}
use Rattle.text.specs.Rfc3629.{octets}
use Rattle.parts.specs.declared.Namespace.{Namespace}
use Rattle.parts.specs.declared.Kind.{Kind}
use Rattle.parts.specs.declared.Kind.TheVariants.{Document, Element, Text, Comment, Doctype, ProcessingInstruction, Attribute}
use Rattle.parts.specs.declared.Refusal.{Refusal}
use Rattle.parts.specs.declared.Refusal.TheVariants.{Kind as WrongKind, Depth as WrongDepth, Name as WrongName, Text as WrongText, Cut, Many}
use Rattle.dom.specs.declared.order.Order.{Order}
use Rattle.dom.specs.declared.frame.Frame.{Frame}
use Rattle.dom.specs.Format.{Leaf, Body, kind, kind_fits, depth_fits}
use Rattle.dom.specs.Format.Entry.{entry}
use Rattle.parts.specs.Codes.{kind_of}
use Rattle.dom.specs.Reading.{tested, with_depth, body_of, named, name_space, name_in, value_in, has_name, first_entry, entry_front, read_as, whole, of_kind, frame_of, le2_at, le4_at, payload_of}
use Rattle.dom.specs.Shown.{Shown, Seen, body_at, shown_at, seen_at}

-- ---- the tests
module _ (o : Order) (at d : ℕ) (p : List ℕ) (k : Kind) where
  pub tested_kind : kind_fits o k ≡ false → tested o at d p k ≡ Err (WrongKind at)
  unfolding tested
  tested_kind f = rw f

  pub tested_depth : kind_fits o k ≡ true → depth_fits o k d ≡ false → tested o at d p k ≡ Err (WrongDepth at)
  unfolding tested
  tested_depth t f = rw (t, f)

  pub tested_both : kind_fits o k ≡ true → depth_fits o k d ≡ true → tested o at d p k ≡ with_depth d (body_of at k p)
  unfolding tested
  tested_both t u = rw (t, u)

module _ (o : Order) (number at : ℕ) (bs : List ℕ) where
  pub first_many : 4096 ≤ number → first_entry o number at bs ≡ Err (Many at)
  unfolding first_entry
  first_many h = rw (le-leb 4096 number h)

  pub first_cut : leb 4096 number ≡ false → whole bs ≡ false → first_entry o number at bs ≡ Err (Cut at)
  unfolding first_entry
  first_cut f g = rw (f, g)

  pub first_whole : leb 4096 number ≡ false → whole bs ≡ true → first_entry o number at bs ≡ of_kind o at (le2_at bs 6) (payload_of bs) (kind_of (le2_at bs 4))
  unfolding first_entry
  first_whole f t = rw (f, t)

-- ---- the frame
module _ (bs : List ℕ) where
  abbrev framed : Frame
  framed = record { kind = kind_of (le2_at bs 4); depth = le2_at bs 6; size = le4_at bs 0 + 4 }

  pub frame_cut : None ≡ frame_of bs → whole bs ≡ false
  frame_cut = by (whole bs)
    where
      by : (t : Bool) → None ≡ cond t (Some framed) None → t ≡ false
      by false h = refl
      by true h = absurd (none-some framed h)

  pub frame_whole : (f : Frame) → Some f ≡ frame_of bs → (whole bs ≡ true) × (f ≡ framed)
  frame_whole f h = let c = cond_some (whole bs) framed f (sym h) in (c.0, sym c.1)

pub whole_size : (bs : List ℕ) → whole bs ≡ true → (le4_at bs 0 + 4 ≤ length bs) × (8 ≤ le4_at bs 0 + 4)
whole_size bs w =
    let p = and_parts (leb 4 (length bs) && leb 4 (le4_at bs 0)) (leb (le4_at bs 0) (length bs - 4)) w in
    let q = and_parts (leb 4 (length bs)) (leb 4 (le4_at bs 0)) p.0 in
    let a = leb-true 4 (length bs) q.0 in
    let b = leb-true 4 (le4_at bs 0) q.1 in
    let c = leb-true (le4_at bs 0) (length bs - 4) p.1 in
    (omega arith, omega arith)

pub frame_size : (bs : List ℕ) (f : Frame) → Some f ≡ frame_of bs → (f.size ≡ le4_at bs 0 + 4) × (f.size ≤ length bs) × (8 ≤ f.size)
frame_size bs f h =
    let w = frame_whole bs f h in
    let z = whole_size bs w.0 in
    let e = ap (λ x. x.size) w.1 in
    (e, omega arith, omega arith)

pub first_framed : (o : Order) (number at : ℕ) (bs : List ℕ) (f : Frame) → leb 4096 number ≡ false → Some f ≡ frame_of bs → first_entry o number at bs ≡ of_kind o at f.depth (take (f.size - 8) (drop 8 bs)) f.kind
first_framed o number at bs f l h =
    let w = frame_whole bs f h in
    let e : le4_at bs 0 + 4 - 8 ≡ le4_at bs 0 - 4 = omega arith in
    rw (w.1, e) (first_whole o number at bs l w.0)

-- a record whose frame is whole and whose kind is known
pub first_known : (o : Order) (number at : ℕ) (bs : List ℕ) (f : Frame) (k : Kind) → number < 4096 → Some f ≡ frame_of bs → Some k ≡ f.kind → first_entry o number at bs ≡ tested o at f.depth (take (f.size - 8) (drop 8 bs)) k
first_known o number at bs f k few h known = first_framed o number at bs f (lt-leb 4096 number few) h ∙ ap (of_kind o at f.depth (take (f.size - 8) (drop 8 bs))) (sym known)

pub front_cut : (at : ℕ) (bs : List ℕ) → whole bs ≡ false → entry_front at bs ≡ Err (Cut at)
unfolding entry_front
front_cut at bs f = rw f

pub front_framed : (at : ℕ) (bs : List ℕ) (f : Frame) → Some f ≡ frame_of bs → entry_front at bs ≡ read_as at f.depth (take (f.size - 8) (drop 8 bs)) f.kind
unfolding entry_front
front_framed at bs f h =
    let w = frame_whole bs f h in
    let e : le4_at bs 0 + 4 - 8 ≡ le4_at bs 0 - 4 = omega arith in
    rw (w.1, e, w.0)

-- ---- a body has the kind that it was read as
pub never : {T : Type 0} {X : Type 0} {e : Refusal} {x : X} → Err e ≡ Ok x → T
never h = absurd (let z : ◌≡◌ {A = ℕ} 0 1 = cc in omega arith)

pub chosen : (t : Bool) (x b : Body) (e : Refusal) → cond t (Ok x) (Err e) ≡ Ok b → x ≡ b
chosen true x b e h = cc
chosen false x b e h = never h

pub chosen_twice : (t u : Bool) (x b : Body) (e f : Refusal) → cond t (cond u (Ok x) (Err e)) (Err f) ≡ Ok b → x ≡ b
chosen_twice true u x b e f h = chosen u x b e h
chosen_twice false u x b e f h = never h

named_kind : (at : ℕ) (s : Option Namespace) (n : List ℕ) (b : Body) → named at s n ≡ Ok b → kind b ≡ Element
named_kind at None n b h = never h
named_kind at (Some s) n b h = let e : Body.element s n ≡ b = cc in ap kind (sym e)

pub body_kind : (at : ℕ) (k : Kind) (p : List ℕ) (b : Body) → body_of at k p ≡ Ok b → kind b ≡ k
body_kind at Document p b h = let e : Body.document p ≡ b = cc in ap kind (sym e)
body_kind at Element p b h = named_kind at (name_space p) (drop 1 p) b h
body_kind at Text p b h = ap kind (sym (chosen (octets p) (Body.leaf Leaf.text p) b (WrongText at) h))
body_kind at Comment p b h = let e : Body.leaf Leaf.comment p ≡ b = cc in ap kind (sym e)
body_kind at Doctype p b h = let e : Body.leaf Leaf.doctype p ≡ b = cc in ap kind (sym e)
body_kind at ProcessingInstruction p b h = let e : Body.leaf Leaf.instruction p ≡ b = cc in ap kind (sym e)
body_kind at Attribute p b h = ap kind (sym (chosen_twice (has_name p) (octets (value_in p)) (Body.attribute (name_in p) (value_in p)) b (WrongText at) (WrongName at) h))

-- ---- what a record that was read tells of its body
pub body_refused : (at : ℕ) (b : Result Body Refusal) (e : Refusal) → Err e ≡ shown_at at b → b ≡ Err e
body_refused at (Ok b) e h = never h
body_refused at (Err f) e h = cc

pub body_read : (at : ℕ) (b : Result Body Refusal) (s : Shown) → Ok s ≡ shown_at at b → (x : Body) × (b ≡ Ok x) × (s ≡ body_at at x)
body_read at (Ok b) s h = (b, refl, cc)
body_read at (Err f) s h = never (sym h)

pub found_as : (at d m n : ℕ) (s : Shown) (b : Body) → s ≡ body_at at b → m ≡ n → ◌≡◌ {A = Result Seen Refusal} (Ok (record { shown = s; depth = d; next = at + m })) (seen_at at (at + n) (Ok (entry d b)))
found_as at d m n s b e f = rw (e, f)
