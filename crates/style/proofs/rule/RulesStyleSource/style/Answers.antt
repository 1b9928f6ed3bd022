use Rattle.std.proofs.Common.{rules}
use Rattle.std.proofs.lemmas.Iterator.{YieldsList-from_slice}
use Rattle.std.proofs.lemmas.Iterator.Consumers.{YieldsList-from_filter_map, fold_from_yields_List}
use Rattle.style.specs.Styles.{with_declared}
use Rattle.style.specs.Matching.{rule_declared}
use Rattle.style.proofs.rule.RulesStyleSource.style.Goals as goal

pub returns : goal.returns
returns c es h e kids after q at =
    fold_from_yields_List _ with_declared c.args.parent _ c.fold.ensures.ran
    (YieldsList-from_filter_map _ (rule_declared c.args.self.now.bytes.now e) (YieldsList-from_slice c.args.self.now.rules.now cc) c.filter_map.ensures.closure (λ x r p k. search rules))
    (λ a x b p k. search rules)
