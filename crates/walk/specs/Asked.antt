-- What a question promises that starts from a listing, whatever text that is the listing of.
use Rattle.std.specs.Prelude.{◌≡◌, true, List, ℕ, ℤ}
use Rattle.rules.specs.declared.Grid.{Grid}
use Rattle.rules.specs.Tables.{Table}
use Rattle.rules.specs.Promises.{Harmless}
use Rattle.rules.specs.Indexes.{index_of, set_lawful}
use Rattle.walk.specs.Listings as listings
use Rattle.walk.specs.Listings.{listing_of}

-- a lawful set has these parts, and this is its listing of the text p
pub record Listed (east north : List ℤ) (score : List ℕ) (g : Grid) (order entries : List ℕ) (at : listings.Listed) (t : Table) (p : List ℕ) : Type 0 where
  pub easts : t.east ≡ east
  pub norths : t.north ≡ north
  pub scores : t.score ≡ score
  pub nodes : List ℕ
  pub bits : List ℕ
  pub lawful : set_lawful t g (index_of order nodes entries bits) ≡ true
  pub listing : at ≡ listing_of t g p

-- Serves t p says that the question was lent the parts of a lawful set of table t, and the listing of the text p
pub record FromPromise {Item Out : Type 0} (Serves : Table → List ℕ → Type 0) (comes_to : List Item → Out) (meant : Table → List ℕ → List Item) (seven o : Out) : Type 0 where
  pub exact : (t : Table) (p : List ℕ) → Serves t p → o ≡ comes_to (meant t p)
  pub harmless : Harmless comes_to seven o
