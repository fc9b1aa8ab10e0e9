-- `text::typed_allowed` tests every byte as it is read.
-- Assumes nothing.
use Rattle.std.proofs.Common.{rules, sym, ◌∙◌, ℕ, Bool}
use Rattle.std.proofs.lemmas.Iterator.{YieldsList-from_slice}
use Rattle.std.proofs.lemmas.Iterator.Search.{all_from_yields_List}
use Rattle.base.proofs.Scans.{all-each}
use Rattle.rules.specs.Names.{allowed, folded}
use Rattle.table.proofs.text.typed_allowed.Goals as goal

pub returns : goal.returns
returns c =
    let typed = c.args.typed.now in
    let test : ℕ → Bool = λ b. allowed (folded b) in
    all_from_yields_List test _ _ c.all.result c.all.ensures.ran (YieldsList-from_slice typed (search rules)) (λ x b q k. search rules) ∙ sym (all-each allowed folded typed)
