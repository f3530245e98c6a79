-- Laws of reading one thing after another: what is read and what is left give the answer. Assumes nothing.
--   err_told                       what a refusal that a `?` hands on stands for
--   mapped_bad mapped_good         what was mapped to a refusal, and what to a result
--   bad_on good_on                 what is made of a result, made of it otherwise
--   then_stop then_more            behind what was read, a refusal ends the reading, and else it goes on
--   made_stop made_more            the same, where something was made of what was read
--   reads                          what one thing after another is proved by
--   Turn        the invariant, where i are read, j are left, and b is what they made
--   turn_begin turn_more turn_stop turn_end   the start, the turns and the ends of such a loop
use mathlib.Core.List.{List, [], ◌∷◌, ◌++◌}
use mathlib.Core.Path.{◌≡◌, refl, sym, ap, ◌∙◌}
use Prim.Native.Nat.{ℕ, suc, ◌+◌, ◌-◌, ◌<◌}
use native.Mathlib.Omega.{arith}
use lib.ListN.{length, length-append}
use Rattle.std.specs.Prelude.{Result, Ok, Err, IsErrAnd}
use Rattle.plan.specs.declared.fault.Refused.{Refused}
use Rattle.plan.specs.Faults.{fault_number}
use Rattle.plan.specs.Plans.{more}
use Rattle.plan.specs.Reading.{Left, Read, bad, good, then_on, times}
use Rattle.plan.specs.Rests.{mapped, told}

pub err_told : {A B : Type 0} (f : A → B) (r : Result A Refused) (l : Left) (x : Refused) → IsErrAnd r (λ y. y ≡ x) → told f r l ≡ bad (fault_number x.fault) x.line
err_told f (Ok a) l x h = absurd h
err_told f (Err y) l x h = ap (λ (e : Refused). bad (fault_number e.fault) e.line) h

pub mapped_same : {A : Type 0} (r : Read A) → r ≡ mapped (λ (a : A). a) r
unfolding mapped
mapped_same (bad k n) = refl
mapped_same (good a l) = refl

-- what was mapped to a refusal, and what to a result
pub mapped_bad : {A B : Type 0} (f : A → B) (r : Read A) {k n : ℕ} → bad k n ≡ mapped f r → r ≡ bad k n
unfolding mapped
mapped_bad f (bad k n) e = cc
mapped_bad f (good a l) e = cc

pub mapped_good : {A B : Type 0} (f : A → B) (r : Read A) {b : B} {l : Left} → good b l ≡ mapped f r → (a : A) × (r ≡ good a l) × (b ≡ f a)
unfolding mapped
mapped_good f (bad k n) e = cc
mapped_good f (good a l) e = (a, cc, cc)

-- what is made of a result, made of it otherwise
module _ {A B C : Type 0} (F : A → B) (G : A → C) (r : Read A) where
  pub bad_on : {k n : ℕ} → bad k n ≡ mapped F r → bad k n ≡ mapped G r
  unfolding mapped
  bad_on q = rw (mapped_bad F r q)

  pub good_on : {b : B} {c : C} {l : Left} → good b l ≡ mapped F r → ((a : A) → b ≡ F a → c ≡ G a) → good c l ≡ mapped G r
  unfolding mapped
  good_on {l = l} q h = let was = mapped_good F r q in rw was.1 (ap (λ (y : C). good y l) (h was.0 was.2))

-- ---- one thing, and then another
module _ {A C D : Type 0} (r : Read A) (f : A → Left → Read C) (F : C → D) where
  pub then_stop : {k n : ℕ} → bad k n ≡ r → bad k n ≡ mapped F (then_on r f)
  unfolding mapped
  then_stop q = ap (λ (x : Read A). mapped F (then_on x f)) q

  pub then_more : {a : A} {l : Left} {z : Read D} → good a l ≡ r → z ≡ mapped F (f a l) → z ≡ mapped F (then_on r f)
  then_more q p = p ∙ ap (λ (x : Read A). mapped F (then_on x f)) q

  -- the same, where something is made of the first
  module _ {B : Type 0} (G : A → B) where
    pub made_stop : {k n : ℕ} → bad k n ≡ mapped G r → bad k n ≡ mapped F (then_on r f)
    made_stop q = then_stop (sym (mapped_bad G r q))

    pub made_more : {b : B} {l : Left} {z : Read D} → good b l ≡ mapped G r → ((a : A) → b ≡ G a → z ≡ mapped F (f a l)) → z ≡ mapped F (then_on r f)
    made_more q p = let was = mapped_good G r q in then_more (sym was.1) (p was.0 was.2)

-- ---- one after another
-- one of those that are left
pub left_one : (n i : ℕ) → i < n → n - i ≡ suc (n - (i + 1))
left_one n i h = omega arith

module _ {A B : Type 0} (f : List A → Left → Read A) (F : List A → B) where
  abbrev pub remains : ℕ → List A → Left → Read (List A)
  remains j xs l = times j (λ ys. more (f ys) ys) xs l

  pub record Turn (g : Read (List A)) (i j : ℕ) (l : Left) (b : B) : Type 0 where
    pub xs : List A
    pub counted : length xs ≡ i
    pub made : b ≡ F xs
    pub left : remains j xs l ≡ g

  pub turn_begin : (l : Left) (n : ℕ) {b : B} → b ≡ F [] → Turn (remains n [] l) 0 (n - 0) l b
  turn_begin l n p =
      let all : n - 0 ≡ n = omega arith in
      record { xs = []; counted = refl; made = p; left = ap (λ (j : ℕ). remains j [] l) all }

  module _ {g : Read (List A)} {i j : ℕ} {l : Left} {b : B} (t : Turn g i j l b) where
    -- what another function makes of all of them
    pub turn_end : {C : Type 0} (H : List A → C) {c : C} → j ≡ 0 → c ≡ H t.xs → good c l ≡ mapped H g
    unfolding mapped times
    turn_end {C} H e p =
        let last : good t.xs l ≡ g = rw e at t.left in
        ap (λ (y : C). good y l) p ∙ ap (mapped H) last

    -- a turn read y, or was refused
    module _ {C : Type 0} (G : A → C) {k : ℕ} (e : j ≡ suc k) where
      pub turn_stop : {D : Type 0} (H : List A → D) {m n : ℕ} → bad m n ≡ mapped G (f t.xs l) → bad m n ≡ mapped H g
      unfolding mapped times
      turn_stop H {m} {n} q =
          let last : bad m n ≡ g = rw (e, mapped_bad G _ q) at t.left in
          ap (mapped H) last

      pub turn_more : {y : C} {h : Left} {b' : B} → good y h ≡ mapped G (f t.xs l) → ((a : A) → y ≡ G a → b' ≡ F (t.xs ++ (a ∷ []))) → Turn g (i + 1) k h b'
      unfolding mapped times
      turn_more q p =
          let was = mapped_good G (f t.xs l) q in
          record {
            xs = t.xs ++ (was.0 ∷ []);
            counted = length-append t.xs (was.0 ∷ []) ∙ omega (arith, t.counted);
            made = p was.0 was.2;
            left = rw (e, was.1) at t.left;
          }

pub ruleset reads = (err_told, then_stop, then_more)
