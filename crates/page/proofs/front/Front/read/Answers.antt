use Rattle.std.proofs.Common.{◌≡◌, Some, None, Err, ap, rules}
use Rattle.std.proofs.lemmas.Result.{err_from_is_err_and}
use Rattle.dom.specs.Reading.{frame_of, body_of}
use Rattle.dom.proofs.Stepping.{front_cut, front_framed, frame_cut, frame_size, body_refused, body_read, found_as}
use Rattle.page.proofs.front.Front.read.Goals as goal

pub returns-in_err-frame : goal.returns-in_err-frame
returns-in_err-frame c =
    let cut : None ≡ frame_of c.args.self.now.bytes.now = search rules in
    rw (front_cut c.args.self.now.spot.place c.args.self.now.bytes.now (frame_cut c.args.self.now.bytes.now cut)) (search rules)

pub returns-in_err-kind : goal.returns-in_err-kind
returns-in_err-kind c =
    let f = c.in_ok-frame.frame in
    let framed : Some f ≡ frame_of c.args.self.now.bytes.now = search rules in
    let unknown : None ≡ f.kind = search rules in
    rw (front_framed c.args.self.now.spot.place c.args.self.now.bytes.now f framed, ← unknown) (search rules)

pub returns-in_err-record : goal.returns-in_err-record
returns-in_err-record c =
    let f = c.in_ok-frame.frame in
    let k = c.in_ok-kind.kind in
    let p = c.payload.result in
    let framed : Some f ≡ frame_of c.args.self.now.bytes.now = search rules in
    let known : Some k ≡ f.kind = search rules in
    let b = body_refused p.at (body_of p.at k p.bytes.now) c.in_err-record.field-0.0 c.in_err-record.ensures in
    let e = err_from_is_err_and c.from_residual-in_err-record.result c.from_residual-in_err-record.ensures.1 in
    rw (e.1, front_framed c.args.self.now.spot.place c.args.self.now.bytes.now f framed, ← known, ← c.payload.ensures.at, ← c.payload.ensures.bytes, b) (ap Err e.2)

pub returns : goal.returns
returns c =
    let f = c.in_ok-frame.frame in
    let k = c.in_ok-kind.kind in
    let p = c.payload.result in
    let framed : Some f ≡ frame_of c.args.self.now.bytes.now = search rules in
    let known : Some k ≡ f.kind = search rules in
    let z = frame_size c.args.self.now.bytes.now f framed in
    let b = body_read p.at (body_of p.at k p.bytes.now) _ c.in_ok-record.ensures in
    rw (c.from.ensures, front_framed c.args.self.now.spot.place c.args.self.now.bytes.now f framed, ← known, ← c.payload.ensures.at, ← c.payload.ensures.bytes, b.1) (found_as p.at f.depth f.size _ _ b.0 b.2 z.0)
