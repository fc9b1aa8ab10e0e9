-- `printing::put_hits` puts hit after hit: the invariant is Listing.
-- Assumes nothing.
use native.Mathlib.Omega.{arith}
use borrow.Author.Rules.{rules}
use Rattle.std.proofs.lemmas.List.{length_push}
use Rattle.std.proofs.lemmas.Slice.Zip.{zip_turn, zip_end}
use Rattle.lines.proofs.Digits.{number_room, past_number}
use Rattle.desk_answer.proofs.Listing.{none_listed, listed_more, all_listed}
use Rattle.desk_answer.proofs.printing.put_hits.Goals as goal

pub put_number-at-requires : goal.put_number-at-requires
put_number-at-requires c = number_room _ _ _ _ (search rules) (search rules)

pub loop-stand-init : goal.loop-stand-init
loop-stand-init c = none_listed _ _ _ _ _ _ _

pub put_hit-at-requires : goal.put_hit-at-requires
put_hit-at-requires c =
    let l = c.loop-stand.invariant in
    let turn = zip_turn c.args.found.now c.args.values.now c.loop-stand.yielded c.into_iter-stand-iterator.result c.loop-stand.stand-iterator c.next.new.self c.next.result (search rules) (search rules) c.loop-stand.yielded_by (c.in-Some.stand, c.in-Some.value) c.in-Some.is c.next.ensures.steps in
    let named = c.requires.names.short _ turn.0 in
    (omega (arith, past_number _ _ c.put_number-at.ensures (search rules), l.puts.next, l.short, c.requires.names.few, turn.0), rw (turn.2 0) named)

pub loop-stand-preserved : goal.loop-stand-preserved
loop-stand-preserved c =
    let turn = zip_turn c.args.found.now c.args.values.now c.loop-stand.yielded c.into_iter-stand-iterator.result c.loop-stand.stand-iterator c.next.new.self c.next.result (search rules) (search rules) c.loop-stand.yielded_by (c.in-Some.stand, c.in-Some.value) c.in-Some.is c.next.ensures.steps in
    rw length_push (listed_more _ _ _ _ turn.0 c.loop-stand.invariant (rw (turn.2 0, turn.3 0) at c.put_hit-at.ensures))

pub returns : goal.returns
returns c =
    let ended = zip_end c.args.found.now c.args.values.now c.loop-stand.yielded c.into_iter-stand-iterator.result c.loop-stand.stand-iterator c.next.new.self c.next.result (search rules) (search rules) c.loop-stand.yielded_by c.in-None.is c.next.ensures.steps in
    all_listed _ _ _ _ (omega (arith, ended)) c.put_number-at.ensures c.loop-stand.invariant
