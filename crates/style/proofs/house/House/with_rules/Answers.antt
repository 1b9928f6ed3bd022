use Rattle.std.proofs.Common.{rules}
use Rattle.std.proofs.lemmas.Iterator.{YieldsList-from_slice}
use Rattle.std.proofs.lemmas.Iterator.Consumers.{YieldsList-from_filter_map, fold_from_yields_List}
use Rattle.style.specs.Styles.{with_declared}
use Rattle.style.specs.Housing.{slot_declared}
use Rattle.style.proofs.house.House.with_rules.Goals as goal

pub returns : goal.returns
returns g c es h e kids after q at =
    fold_from_yields_List _ with_declared c.args.below _ c.fold.ensures.ran
    (YieldsList-from_filter_map _ (slot_declared e) (YieldsList-from_slice c.args.self.now.rules cc) c.filter_map.ensures.closure (λ x r p k. search rules))
    (λ a x b p k. search rules)
