-- `lawful::rising` tests each start against the one before it, in one chain.
-- Assumes nothing.
use Rattle.std.proofs.Common.{rules, leb, length}
use Rattle.std.specs.Prelude.{get_or}
use Rattle.base.proofs.Chains.{all_neighbours}
use Rattle.rules.specs.Tables.{rising}
use Rattle.table.proofs.lawful.rising.Goals as goal

pub returns : goal.returns
unfolding rising
returns c =
    let starts = c.args.starts.now in
    all_neighbours (λ i k. leb (get_or starts i 0) (get_or starts k 0)) (length starts) c.all.ensures.ran (λ x t q k. search rules)
