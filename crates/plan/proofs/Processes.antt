-- Processes by the behaviours that they start with. Assumes nothing.
--   process_of b                 a process that starts with behaviour b; unborn where b is 0
--   process_none process_fresh   it is unborn, or as spawned
use mathlib.Core.Path.{◌≡◌, refl, ap, ◌∙◌}
use Prim.Native.Nat.{ℕ, zero, suc, ◌≤◌}
use native.Mathlib.Omega.{arith}
use Rattle.node.specs.declared.BehaviourNumber.{BehaviourNumber}
use Rattle.node.specs.declared.Process.{Process}
use Rattle.node.specs.Processes.{unborn, fresh}
use Rattle.node.specs.Values.{int_zero}

abbrev pub process_of : ℕ → Process
process_of zero = unborn
process_of (suc b) = fresh (record { 0 = suc b }) int_zero

pub process_none : {b : ℕ} {p : Process} → b ≡ 0 → p ≡ unborn → p ≡ process_of b
process_none e q = rw e q

pub process_fresh : (b : BehaviourNumber) {p : Process} → 1 ≤ b.0 → p ≡ fresh b int_zero → p ≡ process_of b.0
process_fresh b {p} h q = go b.0 refl h
  where
    go : (k : ℕ) → b.0 ≡ k → 1 ≤ k → p ≡ process_of k
    go zero e l = let no : ⊥ = omega arith in absurd no
    go (suc k) e l = q ∙ ap (λ (j : ℕ). fresh (record { 0 = j }) int_zero) e
