-- What a sender becomes is asked for the process that a value names, and for no other. Assumes nothing.
use mathlib.Core.Path.{◌≡◌, refl}
use Prim.Native.Nat.{ℕ}
use Rattle.node.specs.declared.Process.{Process}
use Rattle.node.specs.declared.Signal.{Signal}
use Rattle.node.specs.declared.Value.{Value}
use Rattle.node.specs.declared.Value.TheVariants.{Int, Atom, Pid}
use Rattle.rules.specs.Run.{sends_to, to_other}
use Rattle.decisions.specs.Answers.{says, named_by}

asks_named : (i : ℕ) (p : Process) (v : Value) (q : ℕ → Process) (x : Signal) →
    says p 0 (λ st. to_other i st v (sends_to st v (λ j. q (named_by v)) x)) ≡ says p 0 (λ st. to_other i st v (sends_to st v q x))
asks_named i p (Int z) q x = refl
asks_named i p (Atom a) q x = refl
asks_named i p (Pid j) q x = refl

-- by an op that reads w in a register, finds that it names j, and makes next of its process
pub to_named : {v w : Value} {j : ℕ} {next : Process} (i : ℕ) (p : Process) (q : ℕ → Process) (x : Signal) → w ≡ v → j ≡ named_by w → next ≡ q j →
    says p 0 (λ st. to_other i st w (sends_to st w (λ k. next) x)) ≡ says p 0 (λ st. to_other i st v (sends_to st v q x))
to_named {v = v} i p q x read names made = rw (made, names, read, asks_named i p v q x)
