-- `words::write` meets its contract: the loop's invariant is `Writing`, whose laws are of proofs/Writes.antt. Assumes nothing.
use Rattle.words.proofs.Walks.{blank, carrying, standing, root-trail}
use Rattle.words.proofs.Writes.{writing, writing_room, writing_more}
use Rattle.words.proofs.write.Goals as goal

pub loop-cursor-init : goal.loop-cursor-init
loop-cursor-init c =
    let p = c.requires in
    let r = c.root-cursor.ensures in
    let places = c.places_of.ensures in
    writing (root-trail c.places_of.result r) r p (carrying c.args.columns.lawful r p.count places (blank _))

pub write_node-cursor-requires : goal.write_node-cursor-requires
write_node-cursor-requires c =
    let s = c.loop-cursor.invariant in
    let lt = c.loop-cursor-test.true in
    record { standing = standing s.carried lt; room = writing_room s lt }

pub loop-cursor-preserved : goal.loop-cursor-preserved
loop-cursor-preserved c = writing_more c.loop-cursor.invariant c.loop-cursor-test.true c.write_node-cursor.ensures
