-- Steps taken one by one. Assumes nothing.
--   Singly n xs m a i                      i of the steps xs are tried from node n on, a of them accepted, and the node is m
--   singly_first singly_more singly_kept   it holds at first, and is kept by a step that is accepted and by one that is refused
--   singly_last                            what it gives at the end
use mathlib.Core.Bool.{cond}
use mathlib.Core.List.{List, [], ◌∷◌, map}
use mathlib.Core.Path.{◌≡◌, refl, sym, ◌∙◌, ap}
use Prim.Native.Nat.{ℕ, ◌+◌, ◌≤◌, ◌<◌}
use native.Mathlib.Omega.{arith}
use borrow.Author.Tests.{eq-eqb, ne_eqb}
use lib.Dec.{eqb}
use lib.ListN.{length, get_or, drop, drop_of_length-le}
use Rattle.actions.specs.Numbers.{decode, action_of}
use Rattle.engine.specs.Answers.{Stepped, stepped_of, stepped_by}
use Rattle.text.proofs.Parts.{drop_next}
use Rattle.std.specs.Prelude.{Result, Ok, Err}
use Rattle.node.proofs.Refusals.{above_zero}
use Rattle.node.specs.declared.Node.{Node}
use Rattle.node.specs.declared.Refusal.{Refusal}
use Rattle.node.specs.declared.Step.{Step}
use Rattle.rules.specs.Steps.{Action, meaning, step}
use Rattle.bench_c.specs.Rounds.{singly}

pub record Singly (n : Node) (xs : List ℕ) (m : Node) (a i : ℕ) : Type 0 where
  pub within : i ≤ length xs
  pub fewer : a ≤ i
  pub left : a + singly m (map action_of (drop i xs)) ≡ singly n (map action_of xs)

-- one step, and the others behind it
abbrev counted : Stepped → List Action → ℕ
counted r l = cond (eqb r.refusal 0) 1 0 + singly r.node l

one : (n : Node) (k : ℕ) (l : List Action) → singly n (action_of k ∷ l) ≡ counted (stepped_by n (step n (meaning (decode k)))) l
unfolding singly action_of
one n k l = refl

module _ {n : Node} {xs : List ℕ} where
  pub singly_first : Singly n xs n 0 0
  singly_first = record { within = omega arith; fewer = omega arith; left = omega arith }

  module _ {m : Node} {a i : ℕ} (t : Singly n xs m a i) where
    module _ (h : i < length xs) {s : Step} (named : s ≡ decode (get_or xs i 0)) {r : Stepped} (stepped : r ≡ stepped_by m (step m (meaning s))) where
      abbrev rest : List Action
      rest = map action_of (drop (i + 1) xs)

      turn : singly m (map action_of (drop i xs)) ≡ counted r rest
      turn =
          let z : r ≡ stepped_by m (step m (meaning (decode (get_or xs i 0)))) = stepped ∙ ap (λ (s : Step). stepped_by m (step m (meaning s))) named in
          ap (λ (l : List ℕ). singly m (map action_of l)) (drop_next xs i 0 h) ∙ one m (get_or xs i 0) rest ∙ ap (λ (r : Stepped). counted r rest) (sym z)

      pub singly_more : r.refusal ≡ 0 → Singly n xs r.node (a + 1) (i + 1)
      singly_more e =
          let z : singly m (map action_of (drop i xs)) ≡ 1 + singly r.node rest = rw (eq-eqb r.refusal 0 e) at turn in
          record { within = omega (arith, h); fewer = omega (arith, t.fewer); left = omega (arith, z, t.left) }

      pub singly_same : (r.refusal ≡ 0 → ⊥) → Singly n xs r.node a (i + 1)
      singly_same e =
          let z : singly m (map action_of (drop i xs)) ≡ 0 + singly r.node rest = rw (ne_eqb r.refusal 0 e) at turn in
          record { within = omega (arith, h); fewer = omega (arith, t.fewer); left = omega (arith, z, t.left) }

    -- a step that is refused leaves the node
    pub singly_kept : (h : i < length xs) {s : Step} → s ≡ decode (get_or xs i 0) → (r : Result Node Refusal) → ((k : Node) → r ≡ Ok k → ⊥)
        → stepped_of m r ≡ stepped_by m (step m (meaning s)) → Singly n xs m a (i + 1)
    singly_kept h named (Ok k) none e = absurd (none k refl)
    singly_kept h named (Err k) none e = singly_same h named e (above_zero k)

    pub singly_last : length xs ≤ i → a ≡ singly n (map action_of xs)
    unfolding singly
    singly_last h =
        let z : a + singly m (map action_of []) ≡ singly n (map action_of xs) = rw (drop_of_length-le xs h) at t.left in
        omega (arith, z)
