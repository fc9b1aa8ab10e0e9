-- Signed numbers as the machine hands them on.
-- Assumes nothing.
use mathlib.Core.Path.{◌≡◌, ap}
use lib.IntN.{ℤ}
use mir.Syntax.{w32}
use mir.Val.{SFits, to_z, of_z}
use mir.Facts.{to_z-of_z}

-- a signed argument arrives as what its bits stand for
pub arrives : {A : Type 0} (f : ℤ → A) (x : ℤ) → SFits w32 x → f (to_z w32 (of_z w32 x)) ≡ f x
arrives f x s = ap f (to_z-of_z s)

pub both_arrive : {A : Type 0} (f : ℤ → ℤ → A) (x y : ℤ) → SFits w32 x → SFits w32 y → f (to_z w32 (of_z w32 x)) (to_z w32 (of_z w32 y)) ≡ f x y
both_arrive f x y s t = rw (to_z-of_z s, to_z-of_z t)
