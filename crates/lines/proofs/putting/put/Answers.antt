-- `put` copies the bytes over the part of the room that they take.
-- Assumes nothing.
use mathlib.Core.Path.{refl, ap, ◌∙◌}
use mathlib.Core.List.{◌++◌}
use native.Mathlib.Omega.{arith}
use lib.ListN.{take}
use Rattle.std.proofs.lemmas.Slice.{take-put_mid, drop-put_mid}
use Rattle.lines.proofs.putting.put.Goals as goal

pub returns : goal.returns
returns c =
    let a = c.args in
    let same = c.copy_from_slice.ensures.after in
    record {
      next = refl;
      front = take-put_mid a.at _ a.out.now _ _ (rw same (omega arith)) (omega arith) ∙ ap (λ l. take a.at a.out.now ++ l) same;
      rest = drop-put_mid a.at _ a.out.now _ _ (omega arith) (omega arith) (rw same (omega arith));
    }
