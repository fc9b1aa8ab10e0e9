-- Any sequence of calls on a set and a session: letters typed, rubbed out, and questions of every kind, refused ones among them.
-- Run holds, call by call, the very promise that the call makes; AsMeant is what the rules say, with no call in sight.
use Rattle.std.specs.Prelude.{◌≡◌, true, List, [], ◌∷◌, ℕ, suc, Result, Ok, Err}
use Rattle.rules.specs.declared.Grid.{Grid}
use Rattle.rules.specs.declared.Rect.{Rect}
use Rattle.rules.specs.declared.Ranking.{Ranking}
use Rattle.rules.specs.declared.Session.{Session}
use Rattle.rules.specs.declared.Refusal.{Refusal}
use Rattle.rules.specs.Numbers.{AnyTold, verdict_number}
use Rattle.rules.specs.Names.{folded}
use Rattle.rules.specs.Tables.{Table}
use Rattle.rules.specs.Questions.{range_list, range_refusal, ranking, ranked_refusal}
use Rattle.rules.specs.Outcomes.{Outcome, range_outcome, any_outcome, ranked_outcome}
use Rattle.rules.specs.Indexes.{Index, set_lawful}
use Rattle.rules.specs.Sessions.{session_of, fresh_session, type_refusal, letters_typed, rub_refusal, letters_rubbed}
use Rattle.rules.specs.Promises.{TypedRangePromise, TypedAnyPromise, TypedRankedPromise}
use Rattle.session.specs.Promises.{TypePromise, RubPromise}

-- what the calls are lent: a set and the one session
pub record State : Type 0 where
  pub table : Table
  pub grid : Grid
  pub index : Index
  pub session : Session

abbrev pub Lawful : State → Type 0
Lawful S = set_lawful S.table S.grid S.index ≡ true

-- the same set with another session
abbrev pub with_session : State → Session → State
with_session S s = record { table = S.table; grid = S.grid; index = S.index; session = s }

-- a call with what it was given, and what came of it
pub data Deed : Type 0 where
  types : (byte : ℕ) (v : Result Unit Refusal) → Deed
  rubs : (v : Result Unit Refusal) → Deed
  asks_range : (r : Rect) (rooms : List (List ℕ)) (o : Outcome) → Deed
  asks_any : (r : Rect) (o : AnyTold) → Deed
  asks_ranked : (q : Ranking) (rooms : List (List ℕ)) (o : Outcome) → Deed

-- and the state after it
pub record Done : Type 0 where
  pub deed : Deed
  pub state : State

-- ---- what the calls promise

-- of a call that leaves the session s'. A question is handed the session by value, and so leaves it as it was
abbrev pub Promises : State → Deed → Session → Type 0
Promises S (Deed.types b v) s' = TypePromise S.index.nodes b S.session s' v
Promises S (Deed.rubs v) s' = RubPromise S.session s' v
Promises S (Deed.asks_range r rooms o) s' = TypedRangePromise S.table S.grid S.index S.session r rooms o × (s' ≡ S.session)
Promises S (Deed.asks_any r o) s' = TypedAnyPromise S.table S.grid S.index S.session r o × (s' ≡ S.session)
Promises S (Deed.asks_ranked q rooms o) s' = TypedRankedPromise S.table S.grid S.index S.session q rooms o × (s' ≡ S.session)

-- from one state to the next. No call of these writes in the set
pub record Promised (S : State) (d : Deed) (S' : State) : Type 0 where
  pub set : S' ≡ with_session S S'.session
  pub call : Promises S d S'.session

-- of one call after the other, each on the state that the one before left
abbrev pub Run : State → List Done → Type 0
Run S [] = Unit {0}
Run S (d ∷ run) = Promised S d.deed d.state × Run d.state run

-- the state at the end
abbrev pub last_state : State → List Done → State
last_state S [] = S
last_state S (d ∷ run) = last_state d.state run

-- ---- what the rules say

-- the letters that stand after a call, if p stood before it: an accepted letter is added, a rub-out takes the last
abbrev pub letters_after : List ℕ → Deed → List ℕ
letters_after p (Deed.types b v) = letters_typed p b
letters_after p (Deed.rubs v) = letters_rubbed p
letters_after p (Deed.asks_range r rooms o) = p
letters_after p (Deed.asks_any r o) = p
letters_after p (Deed.asks_ranked q rooms o) = p

abbrev pub standing : List ℕ → List Done → List ℕ
standing p [] = p
standing p (d ∷ run) = standing (letters_after p d.deed) run

-- what comes of a call, if the letters p stand: the verdict or the outcome for them and the set as it is then
abbrev pub Meant : State → List ℕ → Deed → Type 0
Meant S p (Deed.types b v) = verdict_number v ≡ type_refusal p b
Meant S p (Deed.rubs v) = verdict_number v ≡ rub_refusal p
Meant S p (Deed.asks_range r rooms o) = o ≡ range_outcome (range_refusal p r) (range_list S.table S.grid p r) rooms
Meant S p (Deed.asks_any r o) = o ≡ any_outcome (range_refusal p r) (range_list S.table S.grid p r)
Meant S p (Deed.asks_ranked q rooms o) = o ≡ ranked_outcome (ranked_refusal S.grid p q) q.k (ranking S.table S.grid p q) rooms

-- a lawful set, and the rules' session of the letters p
pub record Stands (S : State) (p : List ℕ) : Type 0 where
  pub lawful : Lawful S
  pub session : S.session ≡ session_of S.table p

-- every call is as the rules say for the letters then standing, and the state after it is one of those that stand now
abbrev pub AsMeant : State → List ℕ → List Done → Type 0
AsMeant S p [] = Unit {0}
AsMeant S p (d ∷ run) = Meant S p d.deed × Stands d.state (letters_after p d.deed) × AsMeant d.state (letters_after p d.deed) run

-- ---- what was accepted in a run, whatever else was done between

-- the accepted letters in their order, each as it is read
abbrev pub with_letter : Deed → List ℕ → List ℕ
with_letter (Deed.types b (Ok u)) l = folded b ∷ l
with_letter (Deed.types b (Err why)) l = l
with_letter (Deed.rubs v) l = l
with_letter (Deed.asks_range r rooms o) l = l
with_letter (Deed.asks_any r o) l = l
with_letter (Deed.asks_ranked q rooms o) l = l

abbrev pub letters_in : List Done → List ℕ
letters_in [] = []
letters_in (d ∷ run) = with_letter d.deed (letters_in run)

-- how many rub-outs were accepted
abbrev pub with_rub : Deed → ℕ → ℕ
with_rub (Deed.types b v) n = n
with_rub (Deed.rubs (Ok u)) n = suc n
with_rub (Deed.rubs (Err why)) n = n
with_rub (Deed.asks_range r rooms o) n = n
with_rub (Deed.asks_any r o) n = n
with_rub (Deed.asks_ranked q rooms o) n = n

abbrev pub rubs_in : List Done → ℕ
rubs_in [] = 0
rubs_in (d ∷ run) = with_rub d.deed (rubs_in run)

-- ---- typing afresh

-- a set with the fresh session, and a text typed into it, each letter accepted
abbrev pub fresh_state : Table → Grid → Index → State
fresh_state t g x = record { table = t; grid = g; index = x; session = fresh_session }

abbrev pub typing : State → List ℕ → List ℕ → List Done
typing S p [] = []
typing S p (b ∷ l) =
    let S' : State = with_session S (session_of S.table (letters_typed p b)) in
    record { deed = Deed.types b (Ok tt); state = S' } ∷ typing S' (letters_typed p b) l
