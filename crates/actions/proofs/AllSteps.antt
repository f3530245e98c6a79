-- The possible steps: the record that stands at a turn, and their numbers. Assumes nothing.
--   step_at_lem              what the code makes of a turn is the record of the possible step there
--   Filled l k               the numbers of the steps before k stand in l
--   filled_all               all of them are the numbers of the possible steps
--   numbers_count            how many they are
--   numbers_mean number_at   the numbers stand for the possible steps, and each for the record of its step
use mathlib.Core.Bool.{Bool, true, false, cond}
use mathlib.Core.List.{List, map}
use mathlib.Core.Path.{◌≡◌, refl, sym, ◌∙◌, ap}
use Prim.Native.Nat.{ℕ, ◌+◌, ◌-◌, ◌/◌, ◌%◌, ◌≤◌, ◌<◌}
use native.Mathlib.Omega.{arith}
use borrow.Author.Tests.{eqb-true}
use lib.Dec.{eqb}
use lib.ListN.{length, get_or}
use lib.Seq.{ext_get_or}
use Rattle.node.specs.declared.Step.{Step}
use Rattle.rules.specs.Steps.{run, arrive, timeout, record_of, meaning}
use Rattle.rules.specs.Suggest.{possible, at_turn}
use Rattle.rules.proofs.All.{map_at}
use Rattle.rules.proofs.Suggest.{possible_count, turn_step, possible_at}
use Rattle.actions.specs.Numbers.{encode, decode, action_of, possible_numbers}

-- by whether the turn is a run's, and whether it is a timeout's
abbrev made : ℕ → Bool → Bool → Step
made k b c = record { kind = cond b 0 (cond c 2 1); owner = record { 0 = k / 18 + 1 }; from = record { 0 = k % 18 - 1 } }

abbrev step_at : ℕ → Step
step_at k = made k (eqb (k % 18) 0) (eqb (k % 18) 1)

of_turn : (k : ℕ) → step_at k ≡ record_of (turn_step k)
unfolding turn_step record_of
of_turn k = go (eqb (k % 18) 0) refl (eqb (k % 18) 1) refl
  where
    go : (b : Bool) → eqb (k % 18) 0 ≡ b → (c : Bool) → eqb (k % 18) 1 ≡ c → made k b c ≡ record_of (cond b (run (k / 18 + 1)) (cond c (timeout (k / 18 + 1)) (arrive (k / 18 + 1) (k % 18 - 1))))
    go true p c q = rw (eqb-true (k % 18) 0 p)
    go false p true q = rw (eqb-true (k % 18) 1 q)
    go false p false q = refl

pub step_at_lem : (k : ℕ) → k < 288 → step_at k ≡ record_of (at_turn k)
step_at_lem k h = of_turn k ∙ ap record_of (sym (possible_at k h))

-- ---- the numbers

abbrev pub Filled : List ℕ → ℕ → Type 0
Filled l k = (j : ℕ) → j < k → get_or l j 0 ≡ encode (record_of (at_turn j))

pub numbers_count : 288 ≡ length possible_numbers
unfolding possible_numbers possible
numbers_count = refl

module _ (l : List ℕ) (size : length l ≡ 288) where
  pub filled_all : (k : ℕ) → 288 ≤ k → Filled l k → l ≡ possible_numbers
  unfolding possible_numbers
  filled_all k h f =
      ext_get_or 0 l possible_numbers (size ∙ numbers_count) (λ j b.
      let small : j < 288 = rw size at b in
      f j (omega (arith, small, h)) ∙ sym (map_at (λ a. encode (record_of a)) possible j (run 0) 0 (rw possible_count small)))

-- ---- what they stand for

pub numbers_mean : map action_of possible_numbers ≡ possible
unfolding possible possible_numbers action_of decode encode meaning record_of
numbers_mean = refl

records_mean : map decode possible_numbers ≡ map record_of possible
unfolding possible possible_numbers decode encode record_of
records_mean = refl

pub number_at : (k : ℕ) → k < 288 → decode (get_or possible_numbers k 0) ≡ record_of (at_turn k)
number_at k h =
    let none = record_of (run 0) in
    sym (map_at decode possible_numbers k 0 none (rw (← numbers_count) h)) ∙ ap (λ (l : List Step). get_or l k none) records_mean ∙ map_at record_of possible k (run 0) none (rw possible_count h)
