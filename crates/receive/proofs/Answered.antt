-- What a search that finds no fit answers; and a process at a recv, by its stage. Assumes nothing.
use mathlib.Core.Bool.{◌&&◌}
use mathlib.Core.List.{List, [], ◌∷◌}
use mathlib.Core.Option.{Option, none}
use mathlib.Core.Path.{◌≡◌, refl, sym, ap}
use Prim.Native.Nat.{ℕ, zero, suc}
use lib.Dec.{eqb, ltb}
use lib.ListN.{length}
use Rattle.node.specs.declared.Message.{Message}
use Rattle.node.specs.declared.Op.{Op}
use Rattle.node.specs.declared.Process.{Process}
use Rattle.node.specs.declared.Stage.{Stage}
use Rattle.node.specs.Ops.{recv_op}
use Rattle.rules.specs.Receive.{Fit, answered}
use Rattle.rules.specs.Timeout.{is_live}
use Rattle.receive.specs.Found.{fit_index}
use Rattle.receive.specs.Waiting.{awaits}
use Rattle.receive.proofs.Laws.{so_far}

-- no message leaves
pub so_far_index : (k j : ℕ) → fit_index k (so_far j) ≡ k
so_far_index k zero = refl
so_far_index k (suc j) = refl

module _ (ms : List Message) {f : Option Fit} where
  pub answered_none : f ≡ none → answered f ms ≡ so_far (length ms)
  answered_none e = rw e (go ms)
    where
      go : (ms : List Message) → answered none ms ≡ so_far (length ms)
      go [] = refl
      go (m ∷ ms) = refl

pub awaits_at : (p : Process) (len : ℕ) (o : Op) {s : Stage} → p.stage ≡ s → (is_live s && ltb p.place len && eqb o.number recv_op) ≡ awaits p len o
unfolding awaits
awaits_at p len o e = sym (ap (λ (s : Stage). is_live s && ltb p.place len && eqb o.number recv_op) e)
