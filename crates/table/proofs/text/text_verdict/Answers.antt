-- `text::text_verdict` tests the length, then the bytes.
-- Assumes nothing.
use Rattle.std.proofs.Common.{◌≤◌, length, arith, sym, ◌∙◌}
use borrow.Author.Tests.{lt-ltb, le-ltb}
use Rattle.base.proofs.Members.{length-each}
use Rattle.rules.specs.Names.{folded, text_refusal}
use Rattle.table.proofs.text.text_verdict.Goals as goal

pub returns-then-typed-gt-NAME_MOST : goal.returns-then-typed-gt-NAME_MOST
unfolding text_refusal
returns-then-typed-gt-NAME_MOST c = rw (length-each folded, lt-ltb _ _ c.if-typed-gt-NAME_MOST.true)

pub returns-then-not-typed_allowed : goal.returns-then-not-typed_allowed
unfolding text_refusal
returns-then-not-typed_allowed c =
    let short : length c.args.typed.now ≤ 24 = omega arith in
    rw (length-each folded, le-ltb _ _ short, sym c.typed_allowed.ensures ∙ c.if-not-typed_allowed.true)

pub returns : goal.returns
unfolding text_refusal
returns c =
    let short : length c.args.typed.now ≤ 24 = omega arith in
    rw (length-each folded, le-ltb _ _ short, sym c.typed_allowed.ensures ∙ c.if-not-typed_allowed.false)
