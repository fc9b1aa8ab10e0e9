-- `lawful::stands_lawful` tests stand after stand, in one chain.
-- Assumes nothing.
use Rattle.std.proofs.Common.{rules, length}
use Rattle.base.proofs.Chains.{all_below}
use Rattle.rules.specs.Tables.{stand_lawful, stands_lawful}
use Rattle.table.proofs.lawful.stands_lawful.Goals as goal

pub returns : goal.returns
unfolding stands_lawful stand_lawful
returns c =
    let a = c.args in
    all_below (stand_lawful a.east.now a.north.now a.score.now a.grid) (length a.score.now) c.all.ensures.ran (λ x t q k. search rules)
