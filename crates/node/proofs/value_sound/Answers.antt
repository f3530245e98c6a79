-- `value_sound` gives `value_sound`: the types keep the limits of an integer and of an atom. Assumes nothing.
use mathlib.Core.Logic.{inl, inr}
use mathlib.Core.Path.{sym}
use borrow.Author.Tests.{le-leb}
use native.Mathlib.Omega.{arith}
use Rattle.node.proofs.Values.{int_fits}
use Rattle.node.proofs.value_sound.Goals as goal

pub returns-in-Int : goal.returns-in-Int
returns-in-Int c = elim c.in-Int.is [
  | inl h ↦ let g = rw h.1 at c.well_formed.0 in rw h.1 (sym (int_fits h.0 (record { sfits = g.1.1.1.1.0.1 })))
  | inr h ↦ let g = rw h.1 at c.well_formed.0 in rw h.1 (sym (le-leb h.0 255 (omega (arith, g.1.1.1.1.0.1))))
]
