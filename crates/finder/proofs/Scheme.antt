-- Line 11 of the small scheme by the calls' own promises: k, i, z and a rub-out come to the session of "ki".
-- Assumes nothing.
use mathlib.Core.Path.{◌≡◌, ap, ◌∙◌}
use mathlib.Core.Bool.{true}
use mathlib.Core.List.{List, [], ◌∷◌}
use Rattle.rules.specs.declared.Refusal.{Refusal}
use Rattle.std.specs.Prelude.{Result}
use Rattle.rules.specs.Indexes.{Index, set_lawful}
use Rattle.rules.specs.Sessions.{session_of}
use Rattle.rules.specs.Scheme.{table, grid, ki}
use Rattle.rules.proofs.Scheme.{small_scheme}
use Rattle.finder.specs.Runs.{State, Deed, Done, Run, standing, fresh_state}
use Rattle.finder.proofs.Runs.{run_ends, run-set}

-- a call, and the state that it leaves
abbrev pub after : Deed → State → Done
after deed state = record { deed = deed; state = state }

abbrev pub kiz_and_back : (v₁ v₂ v₃ v₄ : Result Unit Refusal) → State → State → State → State → List Done
kiz_and_back v₁ v₂ v₃ v₄ S₁ S₂ S₃ S₄ =
    after (Deed.types 107 v₁) S₁ ∷ after (Deed.types 105 v₂) S₂ ∷ after (Deed.types 122 v₃) S₃ ∷ after (Deed.rubs v₄) S₄ ∷ []

pub line_11 : (x : Index) → set_lawful table grid x ≡ true → (v₁ v₂ v₃ v₄ : Result Unit Refusal) (S₁ S₂ S₃ S₄ : State)
    → Run (fresh_state table grid x) (kiz_and_back v₁ v₂ v₃ v₄ S₁ S₂ S₃ S₄) → S₄.session ≡ session_of table ki
line_11 x law v₁ v₂ v₃ v₄ S₁ S₂ S₃ S₄ r =
    let run : List Done = kiz_and_back v₁ v₂ v₃ v₄ S₁ S₂ S₃ S₄ in
    (run_ends table grid x law run r).session
    ∙ ap (λ (R : State). session_of R.table (standing [] run)) (run-set (fresh_state table grid x) run r)
    ∙ ap (session_of table) small_scheme.line11_letters
