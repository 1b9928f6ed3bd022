use Rattle.std.proofs.Common.{rules}
use Rattle.std.specs.Option.{option_map}
use Rattle.dom.specs.Asking.{valued}
use Rattle.dom.proofs.Answering.{attribute_answers}
use Rattle.page.proofs.node.Node.attribute.Goals as goal

pub returns-in_err-past-clause-named : goal.returns-in_err-past-clause-named
returns-in_err-past-clause-named c = attribute_answers c.args.self.now.page.now c.args.self.now.spot c.args.name.now (option_map valued c.from_residual.result) (search rules)
