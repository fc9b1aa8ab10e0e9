-- `words::rooms::put_words` meets its contract: the loop's invariant is `Filled`, word after word, by the laws of proofs/Overs.antt. Assumes nothing.
use native.Mathlib.Omega.{arith}
use lib.ListN.{drop_of_length-le}
use Rattle.words.proofs.Overs.{over-set, filled, filled_more, filled_end, word_next}
use Rattle.words.proofs.rooms.put_words.Goals as goal

pub loop-i-init : goal.loop-i-init
loop-i-init c = filled (omega arith) c.requires

pub loop-i-preserved : goal.loop-i-preserved
loop-i-preserved c = filled_more c.loop-i.invariant (word_next _ _ c.loop-i-test.true) (over-set _ _ _ (omega arith)) (omega arith)

pub returns : goal.returns
returns c = filled_end c.loop-i.invariant (drop_of_length-le _ c.loop-i-test.false)
