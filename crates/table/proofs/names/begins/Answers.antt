-- `names::begins` holds letter against letter, behind the first one by twos: the invariant is Pairing.
-- Assumes nothing.
use mathlib.Core.Path.{sym, ◌∙◌}
use borrow.Author.Rules.{rules}
use Rattle.table.proofs.Parts.{match_begins, match_ends, match_on, match_off, pair_begins, pair_on}
use Rattle.table.proofs.names.begins.Goals as goal
use Rattle.table.proofs.names.begins.Goals.{then-typed-eq0-2+else-not-same_letter-2, else-typed-eq0-2}

pub returns-then-typed-eq0 : goal.returns-then-typed-eq0
returns-then-typed-eq0 c = match_ends c.args.typed.now c.args.name.now 0 (search rules) (match_begins _ _)

pub returns-then-not-same_letter : goal.returns-then-not-same_letter
returns-then-not-same_letter c =
    match_off c.args.typed.now c.args.name.now 0 (search rules) (search rules) (match_begins _ _) (sym c.same_letter.ensures ∙ c.if-not-same_letter.true)

pub returns-then-not-same_letter-2 : goal.returns-then-not-same_letter-2
returns-then-not-same_letter-2 c =
    match_off c.args.typed.now c.args.name.now 1 (search rules) (search rules)
    (match_on _ _ 0 (search rules) (search rules) (match_begins _ _) (sym c.same_letter.ensures ∙ c.if-not-same_letter.false))
    (sym c.same_letter-then-typed-eq0-2.ensures ∙ c.if-not-same_letter-2.true)

pub loop-i-init : goal.loop-i-init
loop-i-init c =
    let first = match_on c.args.typed.now c.args.name.now 0 (search rules) (search rules) (match_begins _ _) (sym c.same_letter.ensures ∙ c.if-not-same_letter.false) in
    elim c.if-typed-eq0-2.branch [
      | then-typed-eq0-2+else-not-same_letter-2 w ↦
          pair_begins _ _ 2 _ w.i-is (search rules) (search rules) (match_on _ _ 1 (search rules) (search rules) first (sym w.same_letter-then-typed-eq0-2.ensures ∙ w.if-not-same_letter-2.false))
      | else-typed-eq0-2 w ↦ pair_begins _ _ 1 _ w.i-is (search rules) (search rules) first
    ]

pub returns-then-not-same_letter-3 : goal.returns-then-not-same_letter-3
returns-then-not-same_letter-3 c =
    match_off _ _ _ (search rules) (search rules) c.loop-i.invariant.matched (sym c.same_letter-in-loop-i.ensures ∙ c.if-not-same_letter-3.true)

pub returns-then-not-same_letter-4 : goal.returns-then-not-same_letter-4
returns-then-not-same_letter-4 c =
    match_off _ _ _ (search rules) (search rules) (match_on _ _ _ (search rules) (search rules) c.loop-i.invariant.matched (sym c.same_letter-in-loop-i.ensures ∙ c.if-not-same_letter-3.false))
    (sym c.same_letter-in-loop-i-2.ensures ∙ c.if-not-same_letter-4.true)

pub loop-i-preserved : goal.loop-i-preserved
loop-i-preserved c =
    pair_on _ _ _ (search rules)
    (match_on _ _ _ (search rules) (search rules) (match_on _ _ _ (search rules) (search rules) c.loop-i.invariant.matched (sym c.same_letter-in-loop-i.ensures ∙ c.if-not-same_letter-3.false)) (sym c.same_letter-in-loop-i-2.ensures ∙ c.if-not-same_letter-4.false))
    c.loop-i.invariant

pub returns : goal.returns
returns c = match_ends _ _ _ (search rules) c.loop-i.invariant.matched
