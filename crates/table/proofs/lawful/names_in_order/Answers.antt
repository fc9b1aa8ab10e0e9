-- `lawful::names_in_order` tests each name against the one before it, in one chain.
-- Assumes nothing.
use Rattle.std.proofs.Common.{rules}
use Rattle.base.proofs.Chains.{all_neighbours}
use Rattle.rules.specs.Names.{in_order, name}
use Rattle.rules.specs.Tables.{names_in_order}
use Rattle.table.proofs.lawful.names_in_order.Goals as goal

pub returns : goal.returns
unfolding names_in_order
returns c =
    let a = c.args.table in
    all_neighbours (λ i k. in_order (name a.text.now a.starts.now i) (name a.text.now a.starts.now k)) c.args.stands c.all.ensures.ran (λ x t q k. search rules)
