-- `Runs::sight` reads a stand's north where its east is: the set is one that agrees.
-- Assumes nothing.
use native.Mathlib.Omega.{arith}
use Rattle.runs.proofs.Sights.{norths_enough}
use Rattle.runs.proofs.Runs.sight.Goals as goal

pub bounds-self-s-2 : goal.bounds-self-s-2
bounds-self-s-2 c = let enough = norths_enough _ _ _ c.args.self.ready.agreed in omega arith
