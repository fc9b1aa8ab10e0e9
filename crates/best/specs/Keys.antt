-- A hit as one number: a larger key is a better hit, for stand numbers below 1,024.
use Rattle.std.specs.Prelude.{Bool, ℕ, ◌+◌, ◌-◌, ◌*◌, ◌/◌, ◌%◌, ltb}
use Rattle.rules.specs.declared.Hit.{Hit}

abbrev pub key_of : Hit → ℕ
key_of h = h.value * 1024 + (1023 - h.stand)

-- what a key says of its hit
abbrev pub value_in : ℕ → ℕ
value_in key = key / 1024

abbrev pub stand_in : ℕ → ℕ
stand_in key = 1023 - key % 1024

abbrev pub hit_of_key : ℕ → Hit
hit_of_key key = record { stand = stand_in key; value = value_in key }

-- the larger key goes before
abbrev pub larger : ℕ → ℕ → Bool
larger a b = ltb b a
