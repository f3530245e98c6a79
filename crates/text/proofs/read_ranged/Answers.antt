-- `read_ranged` gives the number that a text is, where it is within its range. Assumes nothing.
use native.Mathlib.Omega.{arith}
use Rattle.std.proofs.lemmas.Result.{err_from_is_err_and}
use Rattle.text.proofs.Numbers.{ranged_malformed, ranged_minus, ranged_low, ranged_high, ranged_number}
use Rattle.text.proofs.read_ranged.Goals as goal

pub returns-in_err-n : goal.returns-in_err-n
returns-in_err-n c =
    let p = err_from_is_err_and c.from_residual.result c.from_residual.ensures.1 in
    rw (p.1, p.2) (ranged_malformed _ _ c.in_err-n.ensures)

pub returns-in-Plus : goal.returns-in-Plus
returns-in-Plus c = let is = rw c.in-Plus.is at c.in_ok-n.ensures in ranged_number _ _ is (omega arith) (omega arith)

pub returns-in_default : goal.returns-in_default
returns-in_default c = let is = rw c.in-Plus.is at c.in_ok-n.ensures in ranged_high _ _ is (omega arith) (omega arith)

pub returns-in_default-2 : goal.returns-in_default-2
returns-in_default-2 c = let is = rw c.in-Plus.is at c.in_ok-n.ensures in ranged_low _ _ is (omega arith)

pub returns-in_default-3 : goal.returns-in_default-3
returns-in_default-3 c = let is = rw c.in_default.is at c.in_ok-n.ensures in ranged_minus _ _ is
