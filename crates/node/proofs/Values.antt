-- An integer of 32 bits keeps document 01's limits. Assumes nothing.
use mathlib.Core.Bool.{true}
use mathlib.Core.Path.{◌≡◌}
use Prim.Native.Nat.{◌<◌, ◌^◌}
use native.Mathlib.Omega.{arith}
use lib.IntN.{ℤ, pos, negsuc}
use borrow.Author.Tests.{le-leb}
use mir.Syntax.{w32}
use mir.Val.{SFits}
use Rattle.node.specs.Values.{fits_int}

pub int_fits : (z : ℤ) → SFits w32 z → fits_int z ≡ true
unfolding fits_int
int_fits (pos n) f = let h : n < 2 ^ 31 = f.sfits in rw (le-leb n 2147483647 (omega arith))
int_fits (negsuc n) f = let h : n < 2 ^ 31 = f.sfits in rw (le-leb n 2147483647 (omega arith))
