use Rattle.std.proofs.Common.{sym, ◌∙◌, arith}
use Rattle.std.proofs.lemmas.Bool.{eqb-true}
use Rattle.dom.proofs.Fronts.{no_fronts}
use Rattle.page.proofs.fronts.FrontsIterator.next.Goals as goal

pub returns-then-is_empty-clause-steps : goal.returns-then-is_empty-clause-steps
returns-then-is_empty-clause-steps c =
    let next = c.args.self.now.next in
    let none = no_fronts next.spot.number next.spot.place next.bytes.now (omega (arith, eqb-true _ _ (sym c.is_empty.ensures ∙ c.if-is_empty.true))) in
    (none, none)
