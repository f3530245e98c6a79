-- `store_digits` stores a number that has room, from its last digit on. The invariant: the digits in front are left. Assumes nothing.
use Rattle.text.proofs.Stores.{Front}
use Rattle.text.proofs.store_digits.Given as goal

abbrev pub invariant-loop-k : goal.invariant-loop-k
invariant-loop-k l = Front l.initial.places l.n l.places l.k l.m
