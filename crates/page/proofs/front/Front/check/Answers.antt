use Rattle.std.proofs.Common.{◌≡◌, ◌-◌, take, drop, Some, None, Err, sym, ap, rules}
use Rattle.std.proofs.lemmas.Result.{err_from_is_err_and}
use Rattle.std.proofs.lemmas.Bool.{lt-leb}
use Rattle.dom.specs.Reading.{frame_of, body_of}
use Rattle.dom.proofs.Stepping.{first_many, first_cut, first_framed, first_known, frame_cut, tested_kind, tested_depth, tested_both, body_kind, body_refused, body_read}
use Rattle.page.proofs.front.Front.check.Goals as goal

pub returns-then-self-ge-MAX_RECORDS : goal.returns-then-self-ge-MAX_RECORDS
returns-then-self-ge-MAX_RECORDS c =
    let s = c.args.self.now in
    rw (first_many c.args.order s.spot.number s.spot.place s.bytes.now c.if-self-ge-MAX_RECORDS.true)

pub returns-in_err-frame : goal.returns-in_err-frame
returns-in_err-frame c =
    let s = c.args.self.now in
    let cut : None ≡ frame_of s.bytes.now = search rules in
    rw (first_cut c.args.order s.spot.number s.spot.place s.bytes.now (lt-leb 4096 s.spot.number c.if-self-ge-MAX_RECORDS.false) (frame_cut s.bytes.now cut)) (search rules)

pub returns-in_err-kind : goal.returns-in_err-kind
returns-in_err-kind c =
    let s = c.args.self.now in
    let f = c.in_ok-frame.frame in
    let framed : Some f ≡ frame_of s.bytes.now = search rules in
    let unknown : None ≡ f.kind = search rules in
    rw (first_framed c.args.order s.spot.number s.spot.place s.bytes.now f (lt-leb 4096 s.spot.number c.if-self-ge-MAX_RECORDS.false) framed, ← unknown) (search rules)

pub returns-then-not-kind_fits : goal.returns-then-not-kind_fits
returns-then-not-kind_fits c =
    let s = c.args.self.now in
    let f = c.in_ok-frame.frame in
    let k = c.in_ok-kind.kind in
    let first = first_known c.args.order s.spot.number s.spot.place s.bytes.now f k c.if-self-ge-MAX_RECORDS.false (search rules) (search rules) in
    let p = take (f.size - 8) (drop 8 s.bytes.now) in
    rw (first, tested_kind c.args.order s.spot.place f.depth p k (sym c.if-not-kind_fits.ensures))

pub returns-then-not-depth_fits : goal.returns-then-not-depth_fits
returns-then-not-depth_fits c =
    let s = c.args.self.now in
    let f = c.in_ok-frame.frame in
    let k = c.in_ok-kind.kind in
    let first = first_known c.args.order s.spot.number s.spot.place s.bytes.now f k c.if-self-ge-MAX_RECORDS.false (search rules) (search rules) in
    let p = take (f.size - 8) (drop 8 s.bytes.now) in
    rw (first, tested_depth c.args.order s.spot.place f.depth p k (sym c.if-not-kind_fits.ensures) (sym c.if-not-depth_fits.ensures))

pub returns-in_err-body : goal.returns-in_err-body
returns-in_err-body c =
    let s = c.args.self.now in
    let f = c.in_ok-frame.frame in
    let k = c.in_ok-kind.kind in
    let q = c.payload.result in
    let first = first_known c.args.order s.spot.number s.spot.place s.bytes.now f k c.if-self-ge-MAX_RECORDS.false (search rules) (search rules) in
    let p = take (f.size - 8) (drop 8 s.bytes.now) in
    let t = tested_both c.args.order s.spot.place f.depth p k (sym c.if-not-kind_fits.ensures) (sym c.if-not-depth_fits.ensures) in
    let b = body_refused q.at (body_of q.at k q.bytes.now) c.in_err-body.field-0.0 c.in_err-body.ensures in
    let e = err_from_is_err_and c.from_residual-in_err-body.result c.from_residual-in_err-body.ensures.1 in
    rw (e.1, first, t, ← c.payload.ensures.at, ← c.payload.ensures.bytes, b) (ap Err e.2)

pub returns : goal.returns
returns c =
    let s = c.args.self.now in
    let f = c.in_ok-frame.frame in
    let k = c.in_ok-kind.kind in
    let q = c.payload.result in
    let first = first_known c.args.order s.spot.number s.spot.place s.bytes.now f k c.if-self-ge-MAX_RECORDS.false (search rules) (search rules) in
    let p = take (f.size - 8) (drop 8 s.bytes.now) in
    let t = tested_both c.args.order s.spot.place f.depth p k (sym c.if-not-kind_fits.ensures) (sym c.if-not-depth_fits.ensures) in
    let b = body_read q.at (body_of q.at k q.bytes.now) _ c.in_ok-body.ensures in
    let same = body_kind q.at k q.bytes.now b.0 b.1 in
    rw (c.after.ensures, first, t, ← c.payload.ensures.at, ← c.payload.ensures.bytes, b.1, same)
