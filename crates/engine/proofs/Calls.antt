-- What a play says of a schedule that is refused whole and of one step; and what is suggested behind a look at the possible steps. Assumes nothing.
use mathlib.Core.Bool.{Bool, true, false, not, cond}
use mathlib.Core.List.{List, [], ◌∷◌, map}
use mathlib.Core.Option.{Option, none, some}
use mathlib.Core.Path.{◌≡◌, refl, sym, ◌∙◌, ap}
use Prim.Native.Nat.{ℕ, ◌+◌, ◌≤◌, ◌<◌}
use native.Mathlib.Numerals.{add-one}
use native.Mathlib.Omega.{arith}
use borrow.Author.Tests.{lt-ltb, le-ltb}
use lib.Dec.{ltb}
use lib.ListN.{length, get_or}
use Rattle.std.specs.Prelude.{Option as Optional, Err}
use Rattle.node.specs.declared.Node.{Node}
use Rattle.node.specs.declared.Refusal.{Refusal}
use Rattle.node.specs.declared.Step.{Step}
use Rattle.node.specs.Refusals.{refusal_number, refusal_told}
use Rattle.node.proofs.Refusals.{above_zero}
use Rattle.rules.specs.Answers.{Answer, refused, done, need}
use Rattle.rules.specs.Nodes.{Sound, sound}
use Rattle.rules.specs.Steps.{Action, run, meaning, Outcome, step, rule, plays_on, played, play}
use Rattle.rules.specs.Suggest.{possible, at_turn, acceptable, first_accepted, suggest}
use Rattle.rules.proofs.Suggest.{possible_count}
use Rattle.actions.specs.Numbers.{decode, action_of, possible_numbers}
use Rattle.actions.proofs.AllSteps.{numbers_mean, number_at}
use Rattle.engine.specs.declared.Played.{Played as Answered}
use Rattle.engine.specs.Answers.{Stepped, played_of, stepped_of, stepped_by, recorded, first_of}

-- ---- 31 and 32

module _ (n : Node) (l : List Action) where
  pub play_31 : sound n ≡ false → record { accepted = 0; refusal = 31; node = n } ≡ play n l
  unfolding play
  play_31 h = rw h

  pub play_32 : Sound n → 4096 < length l → record { accepted = 0; refusal = 32; node = n } ≡ play n l
  unfolding play
  play_32 s h = rw (s, lt-ltb 4096 (length l) h)

  pub play_on : Sound n → length l ≤ 4096 → played n l ≡ play n l
  unfolding play
  play_on s h = rw (s, le-ltb 4096 (length l) h)

-- ---- one step

abbrev stepped : Node → Outcome → Stepped
stepped n r = record { refusal = r.refusal; node = r.node }

-- a schedule of one step is that step
one : (n : Node) (a : Action) → stepped n (play n (a ∷ [])) ≡ stepped_by n (step n a)
unfolding play played step
one n a = go (sound n) refl (rule n a)
  where
    go : (b : Bool) → sound n ≡ b → (x : Answer Node) → stepped n (cond (not b) (record { accepted = 0; refusal = 31; node = n }) (cond (ltb 4096 1) (record { accepted = 0; refusal = 32; node = n })
        (plays_on n (need b 31 x) (λ m. record { accepted = 0; refusal = 0; node = m })))) ≡ stepped_by n (need b 31 x)
    go true e (refused k) = refl
    go true e (done m) = refl
    go false e x = refl

-- what a step tells with a refusal tells of the node as it stood
pub stays : (n m : Node) (r : Refusal) (x : Answer Node) → record { node = m; refusal = refusal_number r } ≡ stepped_by n x → stepped_of n (Err r) ≡ stepped_by n x
stays n m r (refused k) e = ap (λ (t : Stepped). record { node = n; refusal = t.refusal }) e
stays n m r (done k) e = absurd (above_zero r (ap (λ (t : Stepped). t.refusal) e))

pub step_31 : (n : Node) (a : Action) → sound n ≡ false → record { node = n; refusal = 31 } ≡ stepped_by n (step n a)
unfolding step
step_31 n a h = rw h

-- ---- the first step of a list that is acceptable

module _ (n : Node) where
  first_in : (l : List Action) (d : Action) → first_of n l < length l → first_accepted n l ≡ some (get_or l (first_of n l) d)
  first_in [] d h = absurd (omega arith)
  first_in (a ∷ l) d h = go (acceptable n a) (first_in l d) h
    where
      go : (b : Bool) → (first_of n l < length l → first_accepted n l ≡ some (get_or l (first_of n l) d)) → cond b 0 (first_of n l + 1) < length (a ∷ l)
          → cond b (some a) (first_accepted n l) ≡ some (get_or (a ∷ l) (cond b 0 (first_of n l + 1)) d)
      go true more h = refl
      go false more h = rw (add-one (first_of n l)) (more (omega arith))

  first_out : (l : List Action) → length l ≤ first_of n l → first_accepted n l ≡ none
  first_out [] h = refl
  first_out (a ∷ l) h = go (acceptable n a) (first_out l) h
    where
      go : (b : Bool) → (length l ≤ first_of n l → first_accepted n l ≡ none) → length (a ∷ l) ≤ cond b 0 (first_of n l + 1) → cond b (some a) (first_accepted n l) ≡ none
      go true more h = absurd (omega arith)
      go false more h = more (omega arith)

  -- the loop looked at the numbers l of the possible steps, and k of them were refused before it stopped
  module _ (l : List ℕ) (all : l ≡ possible_numbers) (k : ℕ) (first : k ≡ first_of n (map action_of l)) where
    first_possible : first_of n possible ≡ k
    first_possible = ap (first_of n) (sym numbers_mean) ∙ ap (λ (z : List ℕ). first_of n (map action_of z)) (sym all) ∙ sym first

    pub offers_it : (s : Step) → k < 288 → s ≡ decode (get_or l k 0) → done (some s) ≡ recorded (done (first_accepted n possible))
    offers_it s h e =
        let it : first_accepted n possible ≡ some (at_turn k) = rw first_possible at (first_in possible (run 0) (rw (first_possible, possible_count) h)) in
        rw it (ap (λ (s : Step). done (some s)) (e ∙ ap (λ (z : List ℕ). decode (get_or z k 0)) all ∙ number_at k h))

    pub offers_none : 288 ≤ k → done none ≡ recorded (done (first_accepted n possible))
    offers_none h = rw (first_out possible (rw (first_possible, possible_count) h))

  pub offer_sound : {s : Answer (Option Step)} → Sound n → s ≡ recorded (done (first_accepted n possible)) → s ≡ recorded (suggest n)
  unfolding suggest
  offer_sound ok e = rw ok e

  pub offer_31 : sound n ≡ false → refused 31 ≡ recorded (suggest n)
  unfolding suggest
  offer_31 h = rw h

-- ---- a step as the code plays it: r is what the play of its number k alone answers

module _ (n : Node) (s : Step) (k : ℕ) (encoded : decode k ≡ s) where
  action_of_lem : action_of k ≡ meaning s
  unfolding action_of
  action_of_lem = rw encoded

  pub step_played : {o : Optional Refusal} → Sound n → (r : Answered) → played_of r ≡ played n (map action_of (k ∷ [])) → r.refusal ≡ o
      → record { node = r.node; refusal = refusal_told o } ≡ stepped_by n (step n (meaning s))
  step_played ok r h e = ap (λ (o : Optional Refusal). record { node = r.node; refusal = refusal_told o }) (sym e)
      ∙ ap (stepped n) (h ∙ play_on n (map action_of (k ∷ [])) ok (omega arith)) ∙ rw action_of_lem (one n (meaning s))
