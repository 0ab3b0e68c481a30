use Rattle.std.proofs.Common.{◌≡◌, rules, subst}
use Rattle.hashing.specs.Words.{fed_all}
use Rattle.feed.specs.Pending.{operands_in}
use Rattle.feed.proofs.Nodes.{head-read}
use Rattle.feed.proofs.walk.Noted.feed_at.Goals as goal

pub returns : goal.returns
returns g c =
    subst (λ ws. c.feed_node.new.hasher ≡ fed_all g.H.Hasher.fed c.args.hasher.now ws)
    (head-read _ _ c.node.result c.node.ensures (operands_in c.args.self.now.operands.items c.args.i)) (search rules)
