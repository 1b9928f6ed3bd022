use Rattle.std.proofs.Common.{◌∙◌, ap, take, drop, rules, of_calls}
use Rattle.std.proofs.lemmas.Iterator.{YieldsList-from_slice}
use Rattle.std.proofs.lemmas.Iterator.Search.{position_from_yields_List}
use Rattle.text.proofs.Runs.{run_end_is}
use Rattle.text.proofs.words.cut_run.Goals as goal

pub returns : goal.returns
returns g c p answers =
    let s = c.args.text.now in
    let found = position_from_yields_List p _ _ c.position.result c.position.ensures.ran (YieldsList-from_slice s c.iter.ensures.rest) (λ x b q k. search (rules, answers, of_calls)) in
    let end = run_end_is p s c.position.result c.unwrap_or-end.result found c.unwrap_or-end.ensures in
    (c.split_at.ensures.front ∙ ap (λ n. take n s) end, c.split_at.ensures.back ∙ ap (λ n. drop n s) end)
