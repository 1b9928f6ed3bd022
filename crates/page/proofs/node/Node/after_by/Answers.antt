use Rattle.std.proofs.Common.{rules}
use Rattle.dom.proofs.Answering.{after}
use Rattle.page.proofs.node.Node.after_by.Goals as goal

pub returns-in_err-past : goal.returns-in_err-past
returns-in_err-past c = after c.args.more c.requires c.args.self.now.page.now c.args.self.now.spot c.from_residual.result (search rules)

pub returns : goal.returns
returns c = after c.args.more c.requires c.args.self.now.page.now c.args.self.now.spot c.node_from.result (search rules)
