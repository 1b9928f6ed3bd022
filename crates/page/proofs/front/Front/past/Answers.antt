use Rattle.std.proofs.Common.{sym, ◌∙◌}
use Rattle.dom.proofs.Fronts.{fronts_cut, fronts_framed}
use Rattle.page.proofs.front.Front.past.Goals.{in-Some, in-None}
use Rattle.page.proofs.front.Front.past.Goals as goal

pub returns : goal.returns
returns c =
    let s = c.args.self.now in
    let size = c.match-frame.size in
    let next = c.saturating_add.result in
    elim c.match-frame.branch [
      | in-Some w ↦ fronts_framed s.spot.number s.spot.place next size s.bytes.now w.in-Some.frame c.requires (sym w.in-Some.is ∙ c.frame.ensures) c.saturating_add.ensures w.size-is
      | in-None w ↦ fronts_cut s.spot.number s.spot.place next size s.bytes.now c.requires (sym w.in-None.is ∙ c.frame.ensures) w.size-is
    ]
