-- `lawful::names_allowed` tests name after name, in one chain.
-- Assumes nothing.
use Rattle.std.proofs.Common.{rules}
use Rattle.base.proofs.Chains.{all_below}
use Rattle.rules.specs.Names.{name_allowed, name}
use Rattle.rules.specs.Tables.{names_allowed}
use Rattle.table.proofs.lawful.names_allowed.Goals as goal

pub returns : goal.returns
unfolding names_allowed
returns c =
    let a = c.args.table in
    all_below (λ i. name_allowed (name a.text.now a.starts.now i)) c.args.stands c.all.ensures.ran (λ x t q k. search rules)
