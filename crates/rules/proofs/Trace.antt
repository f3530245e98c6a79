-- Lists of steps by owners. Nothing here knows what a node or a step is: a step is answered by a refusal or by the next node,
-- and what is needed of it is one record of laws (`Laws`). Then two lists of accepted steps in which each owner has the same
-- steps in the same order lead to the same node (`order-runs`). Assumes nothing.
use mathlib.Core.Bool.{Bool, true, false, cond}
use mathlib.Core.List.{List, [], ◌∷◌, ◌++◌, cons≢nil}
use mathlib.Core.Logic.{◌≢◌}
use mathlib.Core.Path.{◌≡◌, refl, sym, ◌∙◌}
use Prim.Native.Nat.{ℕ}
use native.Mathlib.Decide.{ℕ_discrete}
use borrow.Author.Tests.{eq-eqb, ne_eqb, eqb-true}
use lib.Dec.{eqb}
use Rattle.rules.specs.Answers.{Answer, done}
use Rattle.rules.specs.Traces.{owned, Runs}

module _ {N S : Type 0} (step : N → S → Answer N) where
  pub runs_append : (n m k : N) (a b : List S) → Runs step n a m → Runs step m b k → Runs step n (a ++ b) k
  runs_append n m k [] b u v = rw u v
  runs_append n m k (s ∷ a) b u v = (u.0, u.1, runs_append u.0 m k a b u.2 v)

module _ {S : Type 0} (owner : S → ℕ) where
  owned_own : (s : S) (a : List S) → owned owner (owner s) (s ∷ a) ≡ s ∷ owned owner (owner s) a
  unfolding owned
  owned_own s a = rw (eq-eqb (owner s) (owner s) refl)

  owned_other : {i : ℕ} (s : S) (a : List S) → owner s ≢ i → owned owner i (s ∷ a) ≡ owned owner i a
  unfolding owned
  owned_other {i} s a h = rw (ne_eqb (owner s) i h)

  owned_none : (i : ℕ) (s : S) (r : List S) → owned owner i [] ≡ s ∷ r → ⊥
  unfolding owned
  owned_none i s r e = cons≢nil (sym e)

  -- equal behind a same first step
  owned_tail : (s : S) (a b : List S) (i : ℕ) → owned owner i (s ∷ a) ≡ owned owner i (s ∷ b) → owned owner i a ≡ owned owner i b
  owned_tail s a b i e = go (ℕ_discrete (owner s) i)
    where
      go : Dec (owner s ≡ i) → owned owner i a ≡ owned owner i b
      go (yes p) = let h : s ∷ owned owner (owner s) a ≡ s ∷ owned owner (owner s) b = sym (owned_own s a) ∙ rw p e ∙ owned_own s b in rw (← p) (cc h)
      go (no h) = sym (owned_other s a h) ∙ e ∙ owned_other s b h

  -- equal before a same first step
  owned_cons : (s : S) (a b : List S) (i : ℕ) → owned owner i a ≡ owned owner i b → owned owner i (s ∷ a) ≡ owned owner i (s ∷ b)
  unfolding owned
  owned_cons s a b i e = rw e

  -- steps of two owners change places
  owned_swap : (s t : S) (a : List S) → owner s ≢ owner t → (i : ℕ) → owned owner i (s ∷ t ∷ a) ≡ owned owner i (t ∷ s ∷ a)
  unfolding owned
  owned_swap s t a h i = go (eqb (owner s) i) (eqb (owner t) i) refl refl
    where
      go : (x y : Bool) → eqb (owner s) i ≡ x → eqb (owner t) i ≡ y →
          cond x (s ∷ cond y (t ∷ owned owner i a) (owned owner i a)) (cond y (t ∷ owned owner i a) (owned owner i a)) ≡ cond y (t ∷ cond x (s ∷ owned owner i a) (owned owner i a))
          (cond x (s ∷ owned owner i a) (owned owner i a))
      go true true p q = absurd (h (eqb-true (owner s) i p ∙ sym (eqb-true (owner t) i q)))
      go true false p q = refl
      go false true p q = refl
      go false false p q = refl

-- What the steps must keep. Ready n s: s was decided on, and only a process that another step brings to life can still refuse it.
pub record Laws {N S : Type 0} (step : N → S → Answer N) (owner : S → ℕ) (Owner : ℕ → Type 0) (Sound : N → Type 0) (Ready : N → S → Type 0) : Type 0 where
  -- the owner of an accepted step is one of the owners
  pub owns : (n m : N) (s : S) → step n s ≡ done m → Owner (owner s)
  -- soundness is kept
  pub sound : (n m : N) (s : S) → Sound n → step n s ≡ done m → Sound m
  -- an accepted step was ready
  pub ready : (n m : N) (s : S) → Sound n → step n s ≡ done m → Ready n s
  -- and stays so behind an accepted step of another owner
  pub keeps : (n m : N) (s t : S) → Sound n → owner s ≢ owner t → Ready n s → step n t ≡ done m → Ready m s
  -- a ready step that is accepted behind another owner's can be taken in front of it
  pub swaps : (n m k : N) (s t : S) → Sound n → owner s ≢ owner t → Ready n s → step n t ≡ done m → step m s ≡ done k → (l : N) × (step n s ≡ done l) × (step l t ≡ done k)

module _ {N S : Type 0} (step : N → S → Answer N) (owner : S → ℕ) (Owner : ℕ → Type 0) (Sound : N → Type 0) (Ready : N → S → Type 0) (L : Laws step owner Owner Sound Ready) where
  -- s, the first of its owner's steps in b, can be taken first
  Pulled : N → S → List S → N → Type 0
  Pulled n s b k = (m : N) × (c : List S) × (step n s ≡ done m) × Runs step m c k × ((i : ℕ) → owned owner i b ≡ owned owner i (s ∷ c))

  pull : (n k : N) (s : S) (r b : List S) → Sound n → Ready n s → Runs step n b k → owned owner (owner s) b ≡ s ∷ r → Pulled n s b k
  unfolding Pulled
  pull n k s r [] g h w e = absurd (owned_none owner (owner s) s r e)
  pull n k s r (t ∷ b) g h w e = go (ℕ_discrete (owner s) (owner t)) (pull w.0 k s r b)
    where
      Sub : Type 0
      Sub = Sound w.0 → Ready w.0 s → Runs step w.0 b k → owned owner (owner s) b ≡ s ∷ r → Pulled w.0 s b k

      go : Dec (owner s ≡ owner t) → Sub → Pulled n s (t ∷ b) k
      go (yes p) ih =
          let f : s ∷ r ≡ t ∷ owned owner (owner t) b = sym e ∙ rw p (owned_own owner t b) in
          let q : t ≡ s = cc f in
          (w.0, b, rw (← q) w.1, w.2, λ i. rw q refl)
      go (no p) ih =
          let v : Pulled w.0 s b k = ih (L.sound n w.0 t g w.1) (L.keeps n w.0 s t g p h w.1) w.2 (sym (owned_other owner t b (λ q. p (sym q))) ∙ e) in
          let x = L.swaps n w.0 v.0 s t g p h w.1 v.2 in
          (x.0, t ∷ v.1, x.1, (v.0, x.2, v.3), λ i. owned_cons owner t b (s ∷ v.1) i (v.4 i) ∙ owned_swap owner t s v.1 (λ q. p (sym q)) i)

  pub order_runs : (n k l : N) (a b : List S) → Sound n → Runs step n a k → Runs step n b l → ((i : ℕ) → Owner i → owned owner i a ≡ owned owner i b) → k ≡ l
  unfolding Pulled
  order_runs n k l [] [] g u v e = sym u ∙ v
  order_runs n k l [] (t ∷ b) g u v e = absurd (owned_none owner (owner t) t _ (e (owner t) (L.owns n v.0 t v.1) ∙ owned_own owner t b))
  order_runs n k l (s ∷ a) b g u v e =
      let x = pull n l s (owned owner (owner s) a) b g (L.ready n u.0 s g u.1) v (sym (e (owner s) (L.owns n u.0 s u.1)) ∙ owned_own owner s a) in
      let q : x.0 ≡ u.0 = cc (x.2, u.1) in
      order_runs u.0 k l a x.1 (L.sound n u.0 s g u.1) u.2 (rw q at x.3) (λ i o. owned_tail owner s a x.1 i (e i o ∙ x.4 i))
