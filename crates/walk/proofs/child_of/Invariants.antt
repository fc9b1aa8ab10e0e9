-- What the loop of `child_of` keeps.
use Prim.Native.Nat.{◌-◌}
use Rattle.walk.proofs.Steps.{Searching}
use Rattle.walk.proofs.child_of.Given as goal

abbrev pub invariant-loop-c : goal.invariant-loop-c
invariant-loop-c l =
    Searching l.nodes l.p l.byte l.past l.c

abbrev pub decreases-loop-c : goal.decreases-loop-c
decreases-loop-c l =
    l.past - l.c
