-- `node::row` meets its contract: word by word. Assumes nothing.
use Rattle.node.proofs.Gathering.{past_after}
use Rattle.node.proofs.row.Goals as goal

pub past_number-past_node-requires : goal.past_number-past_node-requires
past_number-past_node-requires c =
    let p = c.requires in
    let after = past_after _ _ c.args.columns.lawful.grows _ _ _ p.past in
    record { run = (after.0, p.within); low = p.low; long = p.on.long; some = after.1 }
