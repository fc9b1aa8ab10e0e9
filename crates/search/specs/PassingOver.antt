-- When an entry is passed over, in the words of the rules. The code goes by keys; proofs/PassingOver.antt says that it is the same.
use Rattle.std.specs.Prelude.{◌≡◌, ◌⊎◌, List, ℕ, ◌-◌, ◌<◌, length, get_or}
use Rattle.rules.specs.declared.Hit.{Hit}

-- the last of k held
abbrev pub last_held : ℕ → List Hit → Hit
last_held k held = get_or held (k - 1) (record { stand = 0; value = 0 })

-- by the entry's bound and its first stand number
pub record PassedOver (k : ℕ) (held : List Hit) (bound first : ℕ) : Type 0 where
  -- k are held
  pub full : length held ≡ k
  -- the bound is below the last held value, or equal to it while the first stand number is larger than the last held one
  pub beaten : (bound < (last_held k held).value) ⊎ (((last_held k held).value ≡ bound) × ((last_held k held).stand < first))
