-- What a question promises that starts from a listing is what it promises of the text, or of the session, that led there.
-- comes_to is what a refusal and a list come to, refused what a refusal does whatever the list. Assumes nothing.
use mathlib.Core.Path.{◌≡◌, refl, sym, ap, ◌∙◌}
use mathlib.Core.Bool.{true}
use mathlib.Core.List.{List}
use Prim.Native.Nat.{ℕ}
use Rattle.rules.specs.declared.Grid.{Grid}
use Rattle.rules.specs.declared.Refusal.{Refusal}
use Rattle.rules.specs.Numbers.{refusal_number, first_given}
use Rattle.rules.specs.Names.{text_refusal}
use Rattle.rules.specs.Tables.{Table}
use Rattle.rules.specs.Promises.{Kept}
use Rattle.rules.specs.Indexes.{Index, set_lawful}
use Rattle.rules.proofs.Lawful.{set_parts}
use Rattle.rules.proofs.Numbers.{refusal_some}
use Rattle.rules.proofs.Refusals.{first_given_lem}
use Rattle.rules.proofs.Outcomes.{refused-kept}
use Rattle.walk.specs.Walks.{node_in}
use Rattle.walk.specs.Nodes.{node_of}
use Rattle.walk.specs.Listings as listings
use Rattle.walk.specs.Listings.{listing_at, listing_of}
use Rattle.walk.specs.Asked.{Listed, FromPromise}
use Rattle.walk.proofs.Listed.{listing_reached, listing_found}

-- a text that is not refused
pub from_kept : {Item Out : Type 0} (Lawful : Type 0) (Serves : Table → List ℕ → Type 0) (comes_to : ℕ → List Item → Out) (meant : Table → List ℕ → List Item) (seven o : Out)
    (t : Table) (p : List ℕ) (n : ℕ) → text_refusal p ≡ 0 → (Lawful → Serves t p) → FromPromise Serves (comes_to n) meant seven o
    → Kept Lawful (comes_to (first_given (text_refusal p) n)) (meant t p) seven o
from_kept Lawful Serves comes_to meant seven o t p n fine serves w = rw fine (record { exact = λ law. w.exact t p (serves law); harmless = w.harmless })

-- a text that is
pub text_refused : {Item Out : Type 0} (Lawful : Type 0) (comes_to : ℕ → List Item → Out) (meant : List Item) (refused : ℕ → Out) (p : List ℕ) (n : ℕ)
    → ((m : ℕ) (list : List Item) → (m ≡ 0 → ⊥) → comes_to m list ≡ refused m) → (why : Refusal) → refusal_number why ≡ text_refusal p
    → Kept Lawful (comes_to (first_given (text_refusal p) n)) meant (refused 7) (refused (refusal_number why))
text_refused Lawful comes_to meant refused p n whatever why e =
    let given : first_given (text_refusal p) n ≡ refusal_number why = ap (λ (m : ℕ). first_given m n) (sym e) ∙ first_given_lem (refusal_number why) n (refusal_some why) in
    refused-kept Lawful _ meant (refused 7) (refused (refusal_number why)) (λ list. ap (λ (m : ℕ). comes_to m list) given ∙ whatever (refusal_number why) list (refusal_some why))

-- a walk along a text serves it, and so does the text's node where that is known
module _ (t : Table) (g : Grid) (x : Index) (p : List ℕ) (at : listings.Listed) where
  listed : at ≡ listing_of t g p → set_lawful t g x ≡ true → Listed t.east t.north t.score g x.order x.entries at t p
  listed same law = record { easts = refl; norths = refl; scores = refl; nodes = x.nodes; bits = x.bits; lawful = law; listing = same }

  pub text_listed : at ≡ listing_at x.nodes x.bits (node_in x.nodes p) → set_lawful t g x ≡ true → Listed t.east t.north t.score g x.order x.entries at t p
  text_listed walked law = listed (walked ∙ listing_found t g x (set_parts t g x law) p) law

  pub node-listed : at ≡ listing_at x.nodes x.bits (node_of t p) → set_lawful t g x ≡ true → Listed t.east t.north t.score g x.order x.entries at t p
  node-listed reached law = listed (reached ∙ listing_reached t g x (set_parts t g x law) p) law
