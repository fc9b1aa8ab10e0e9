-- Demand 3: from the fresh session of a lawful set, any sequence of calls comes out as the rules say for the letters then standing.
-- By induction over the calls, each by its own promise. Assumes nothing.
use mathlib.Core.Path.{◌≡◌, refl, sym, ap, ◌∙◌, subst}
use mathlib.Core.Bool.{true}
use mathlib.Core.List.{List, [], ◌∷◌, ◌++◌, append-nil, append_assoc}
use Prim.Native.Nat.{ℕ, suc, ◌-◌}
use native.Mathlib.Omega.{arith}
use lib.ListN.{length, take, length-append, length-take}
use borrow.Author.Tests.{ne_eqb}
use lib.Seq.{take_at, take-take, take_all}
use Rattle.rules.specs.declared.Grid.{Grid}
use Rattle.rules.specs.declared.Session.{Session}
use Rattle.rules.specs.declared.Refusal.{Refusal}
use Rattle.std.specs.Prelude.{Ok, Err}
use Rattle.rules.specs.Numbers.{refusal_number}
use Rattle.rules.specs.Names.{folded, folded_text, text_refusal}
use Rattle.rules.specs.Tables.{Table}
use Rattle.rules.specs.Indexes.{Index, set_lawful, but_last}
use Rattle.rules.specs.Sessions.{session_of, letters_of, LawfulSession, type_refusal, letters_typed, rub_refusal, letters_rubbed}
use Rattle.rules.proofs.Bytes.{text_taken}
use Rattle.rules.proofs.Folds.{text_same}
use Rattle.rules.proofs.Numbers.{refusal_some}
use Rattle.session.proofs.Letters.{typed_allowed, rubbed_allowed}
use Rattle.session.proofs.Texts.{letters_of_lem, session-lawful, fresh_is}
use Rattle.finder.specs.Runs.{State, Lawful, with_session, Deed, Done, Promises, Promised, Run, last_state, letters_after, standing, Meant, Stands, AsMeant, with_letter, letters_in, with_rub, rubs_in, fresh_state}

-- ---- letters alone

standing-append : (run more : List Done) (p : List ℕ) → standing p (run ++ more) ≡ standing (standing p run) more
standing-append [] more p = refl
standing-append (d ∷ run) more p = standing-append run more (letters_after p d.deed)

pub taken_typing : (p : List ℕ) (b : ℕ) → 0 ≡ type_refusal p b → letters_typed p b ≡ p ++ (folded b ∷ [])
taken_typing p b e = rw (sym e)

-- a refused letter changes nothing, and a rub-out is refused only where there is nothing to take
refused-typing : (p : List ℕ) (b : ℕ) (why : Refusal) → refusal_number why ≡ type_refusal p b → letters_typed p b ≡ p
refused-typing p b why e = rw (ne_eqb (type_refusal p b) 0 (λ z. refusal_some why (e ∙ z)))

refused_rubbing : (p : List ℕ) (why : Refusal) → refusal_number why ≡ rub_refusal p → but_last p ≡ p
refused_rubbing [] why e = refl
refused_rubbing (a ∷ p) why e = absurd (refusal_some why e)

-- ---- one call

-- what it comes to where the letters p stand
record Came (S : State) (p : List ℕ) (d : Deed) (s' : Session) : Type 0 where
  meant : Meant S p d
  session : s' ≡ session_of S.table (letters_after p d)
  allowed : text_refusal (letters_after p d) ≡ 0

module _ (S : State) (law : Lawful S) (p : List ℕ) (fine : text_refusal p ≡ 0) where
  abbrev t : Table
  t = S.table

  abbrev here : State
  here = with_session S (session_of t p)

  -- its letters as a question reads them
  read : folded_text (letters_of (session_of t p)) ≡ p
  read = ap folded_text (letters_of_lem t p) ∙ text_same p fine

  came : (d : Deed) (s' : Session) → Promises here d s' → Came S p d s'
  came (Deed.types b v) s' promise =
      let kept = promise.lawful t (S.grid, S.index, law, refl) (session-lawful t p fine) in
      record {
        meant = kept.0 ∙ ap (λ (q : List ℕ). type_refusal q b) (letters_of_lem t p);
        session = kept.1 ∙ ap (λ (q : List ℕ). session_of t (letters_typed q b)) (letters_of_lem t p);
        allowed = typed_allowed p b fine;
      }
  came (Deed.rubs v) s' promise =
      let kept = promise.lawful t tt (session-lawful t p fine) in
      record {
        meant = kept.0 ∙ ap rub_refusal (letters_of_lem t p);
        session = kept.1 ∙ ap (λ (q : List ℕ). session_of t (letters_rubbed q)) (letters_of_lem t p);
        allowed = rubbed_allowed p fine;
      }
  came (Deed.asks_range r rooms o) s' promise =
      record {
        meant = subst (λ (q : List ℕ). Meant S q (Deed.asks_range r rooms o)) read (promise.0.exact (record { set = law; session = session-lawful t p fine }));
        session = promise.1;
        allowed = fine;
      }
  came (Deed.asks_any r o) s' promise =
      record {
        meant = subst (λ (q : List ℕ). Meant S q (Deed.asks_any r o)) read (promise.0.exact (record { set = law; session = session-lawful t p fine }));
        session = promise.1;
        allowed = fine;
      }
  came (Deed.asks_ranked q rooms o) s' promise =
      record {
        meant = subst (λ (p : List ℕ). Meant S p (Deed.asks_ranked q rooms o)) read (promise.0.exact (record { set = law; session = session-lawful t p fine }));
        session = promise.1;
        allowed = fine;
      }

-- a step of a run, from a state whose session is that of the letters p
record Steps (S : State) (p : List ℕ) (d : Deed) (S' : State) : Type 0 where
  meant : Meant S p d
  stands : Stands S' (letters_after p d)
  allowed : text_refusal (letters_after p d) ≡ 0

steps : (S : State) (p : List ℕ) → Stands S p → text_refusal p ≡ 0 → (d : Deed) (S' : State) → Promised S d S' → Steps S p d S'
steps S p w fine d S' promise =
    let same : S ≡ with_session S (session_of S.table p) = ap (with_session S) w.session in
    let c = came S w.lawful p fine d S'.session (subst (λ (R : State). Promises R d S'.session) same promise.call) in
    record {
      meant = c.meant;
      stands = record {
        lawful = subst Lawful (sym promise.set) w.lawful;
        session = c.session ∙ ap (λ (R : State). session_of R.table (letters_after p d)) (sym promise.set);
      };
      allowed = c.allowed;
    }

-- ---- any number of calls

run_from : (S : State) (p : List ℕ) → Stands S p → text_refusal p ≡ 0 → (run : List Done) → Run S run → AsMeant S p run
run_from S p w fine [] r = tt
run_from S p w fine (d ∷ run) r =
    let c = steps S p w fine d.deed d.state r.0 in
    (c.meant, c.stands, run_from d.state (letters_after p d.deed) c.stands c.allowed run r.1)

pub last_from : (S : State) (p : List ℕ) → Stands S p → (run : List Done) → AsMeant S p run → Stands (last_state S run) (standing p run)
last_from S p w [] m = w
last_from S p w (d ∷ run) m = last_from d.state (letters_after p d.deed) m.1 run m.2

module _ (t : Table) (g : Grid) (x : Index) (law : set_lawful t g x ≡ true) where
  pub fresh-stands : Stands (fresh_state t g x) []
  fresh-stands = record { lawful = law; session = fresh_is t }

  -- from the fresh session
  pub run_means : (run : List Done) → Run (fresh_state t g x) run → AsMeant (fresh_state t g x) [] run
  run_means run r = run_from (fresh_state t g x) [] fresh-stands (text_taken [] (omega arith) refl) run r

  pub run_ends : (run : List Done) → Run (fresh_state t g x) run → Stands (last_state (fresh_state t g x) run) (standing [] run)
  run_ends run r = last_from (fresh_state t g x) [] fresh-stands run (run_means run r)

-- ---- only the letters that stand count

-- with no rub-out accepted, the accepted letters stand behind those that stood
pub types_stand : (S : State) (run : List Done) → rubs_in run ≡ 0 → (p : List ℕ) → AsMeant S p run → standing p run ≡ p ++ letters_in run
types_stand S [] none p m = sym (append-nil p)
types_stand S (d ∷ run) none p m = step d.deed none m.0 (λ z. types_stand d.state run z (letters_after p d.deed) m.2)
  where
    behind : List ℕ → List ℕ
    behind q = q ++ letters_in run

    step : (e : Deed) → with_rub e (rubs_in run) ≡ 0 → Meant S p e → (rubs_in run ≡ 0 → standing (letters_after p e) run ≡ behind (letters_after p e))
        → standing (letters_after p e) run ≡ p ++ with_letter e (letters_in run)
    step (Deed.types b (Ok u)) z k below = below z ∙ ap behind (taken_typing p b k) ∙ append_assoc p (folded b ∷ []) (letters_in run)
    step (Deed.types b (Err why)) z k below = below z ∙ ap behind (refused-typing p b why k)
    step (Deed.rubs (Ok u)) z k below = absurd (omega arith)
    step (Deed.rubs (Err why)) z k below = below z ∙ ap behind (refused_rubbing p why k)
    step (Deed.asks_range r rooms o) z k below = below z
    step (Deed.asks_any r o) z k below = below z
    step (Deed.asks_ranked q rooms o) z k below = below z

-- with no letter accepted, each accepted rub-out takes one from the end
rubs_stand : (S : State) (run : List Done) → letters_in run ≡ [] → (p : List ℕ) → AsMeant S p run → standing p run ≡ take (length p - rubs_in run) p
rubs_stand S [] none p m = sym (take_all (length p - 0) p (omega arith))
rubs_stand S (d ∷ run) none p m = step d.deed none m.0 (λ z. rubs_stand d.state run z (letters_after p d.deed) m.2)
  where
    left : ℕ → List ℕ → List ℕ
    left n q = take (length q - n) q

    step : (e : Deed) → with_letter e (letters_in run) ≡ [] → Meant S p e → (letters_in run ≡ [] → standing (letters_after p e) run ≡ left (rubs_in run) (letters_after p e))
        → standing (letters_after p e) run ≡ left (with_rub e (rubs_in run)) p
    step (Deed.types b (Ok u)) z k below = absurd (omega (arith, ap length z))
    step (Deed.types b (Err why)) z k below = below z ∙ ap (left (rubs_in run)) (refused-typing p b why k)
    step (Deed.rubs (Ok u)) z k below =
        let fewer : length (but_last p) - rubs_in run ≡ length p - suc (rubs_in run) = simp length-take (omega arith) in
        below z ∙ take-take (length (but_last p) - rubs_in run) (length p - 1) p (omega (arith, fewer)) ∙ ap (λ (n : ℕ). take n p) fewer
    step (Deed.rubs (Err why)) z k below = below z ∙ ap (left (rubs_in run)) (refused_rubbing p why k)
    step (Deed.asks_range r rooms o) z k below = below z
    step (Deed.asks_any r o) z k below = below z
    step (Deed.asks_ranked q rooms o) z k below = below z

-- ---- letters and as many rub-outs

meant_parts : (S : State) (run more : List Done) (p : List ℕ) → AsMeant S p (run ++ more) → AsMeant S p run × AsMeant (last_state S run) (standing p run) more
meant_parts S [] more p m = (tt, m)
meant_parts S (d ∷ run) more p m = let k = meant_parts d.state run more (letters_after p d.deed) m.2 in ((m.0, m.1, k.0), k.1)

-- no call writes in the set
pub run-set : (S : State) (run : List Done) → Run S run → last_state S run ≡ with_session S (last_state S run).session
run-set S [] r = refl
run-set S (d ∷ run) r = run-set d.state run r.1 ∙ ap (λ (R : State). with_session R (last_state d.state run).session) r.0.set

-- accepted letters, and as many accepted rub-outs after them, bring a lawful state back, whatever was asked or refused between
pub brought_back : (S : State) → Lawful S → LawfulSession S.table S.session → (typing rubbing : List Done) → rubs_in typing ≡ 0 → letters_in rubbing ≡ []
    → rubs_in rubbing ≡ length (letters_in typing) → Run S (typing ++ rubbing) → last_state S (typing ++ rubbing) ≡ S
brought_back S law lawful typing rubbing none no_more as_many r =
    let p : List ℕ = letters_of S.session in
    let l : List ℕ = letters_in typing in
    let w : Stands S p = record { lawful = law; session = lawful.same } in
    let m = run_from S p w lawful.allowed (typing ++ rubbing) r in
    let parts = meant_parts S typing rubbing p m in
    let typed : standing p typing ≡ p ++ l = types_stand S typing none p parts.0 in
    let back : standing p (typing ++ rubbing) ≡ p =
    standing-append typing rubbing p
    ∙ rubs_stand (last_state S typing) rubbing no_more (standing p typing) parts.1
    ∙ ap (λ (q : List ℕ). take (length q - rubs_in rubbing) q) typed
    ∙ take_at p l (length (p ++ l) - rubs_in rubbing) (simp length-append (omega arith))
    in
    let set = run-set S (typing ++ rubbing) r in
    let ends = last_from S p w (typing ++ rubbing) m in
    set
    ∙ ap (with_session S) (ends.session ∙ ap (λ (R : State). session_of R.table (standing p (typing ++ rubbing))) set ∙ ap (session_of S.table) back ∙ sym lawful.same)
