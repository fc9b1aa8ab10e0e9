-- What a clause sees of something lent: what it held when the call was made, and what it holds when the call returns.
use Rattle.std.specs.Borrow.{Bor, MutBor}
use denote.Triple.Both.{Both}

-- lent to be read
abbrev pub Lent : Type 0 → Type 0
Lent X = Both (Bor X) (Bor X)

abbrev pub given : {X : Type 0} → Lent X → X
given x = x.entry.now

-- lent to be written
abbrev pub LentMut : Type 0 → Type 0
LentMut X = Both (MutBor X) (MutBor X)

abbrev pub given_mut : {X : Type 0} → LentMut X → X
given_mut x = x.entry.now

abbrev pub after : {X : Type 0} → LentMut X → X
after x = x.exit.now
