-- `clause_kind` gives a clause's kind. Assumes nothing.
use mathlib.Core.Path.{refl, ◌∙◌}
use Prim.Native.Nat.{◌+◌, ◌<◌}
use native.Mathlib.Omega.{arith}
use Rattle.std.proofs.Common.{rules}
use lib.ListN.{length}
use Rattle.std.specs.Prelude.{Ok, Err}
use Rattle.text.specs.Parts.{index_of}
use Rattle.words.specs.Words.{packed}
use Rattle.plan_line.specs.Ops.{clause_words}
use Rattle.plan_line.proofs.Ops.{found_at, kind_exact, kind_found}
use Rattle.plan_line.proofs.Told.{err_fault}
use Rattle.plan_line.proofs.clause_kind.Goals as goal

pub overflow_cast-result : goal.overflow_cast-result
unfolding packed
overflow_cast-result c =
    let at = found_at (index_of c.args.s.now clause_words) (length clause_words) (c.in-Some.ensures clause_words refl refl) in
    let small : c.in-Some.k < 256 = omega arith in
    search rules

pub overflow_add-result : goal.overflow_add-result
unfolding packed
overflow_add-result c =
    let at = found_at (index_of c.args.s.now clause_words) (length clause_words) (c.in-Some.ensures clause_words refl refl) in
    let small : c.in-Some.k + 1 < 256 = omega arith in
    search rules

pub returns-in-Some : goal.returns-in-Some
unfolding packed
returns-in-Some c = kind_found c.args.s.now (c.in-Some.ensures clause_words refl refl)

pub returns-in_err-read_value-in-None : goal.returns-in_err-read_value-in-None
unfolding packed
returns-in_err-read_value-in-None c =
    err_fault _ _ _ c.from_residual.ensures.1
    ∙ kind_exact c.args.s.now (c.in-None.ensures clause_words refl refl) (Err c.in_err-read_value-in-None.field-0.0) c.in_err-read_value-in-None.ensures

pub returns-in_ok-read_value-in-None : goal.returns-in_ok-read_value-in-None
unfolding packed
returns-in_ok-read_value-in-None c =
    kind_exact c.args.s.now (c.in-None.ensures clause_words refl refl) (Ok c.in_ok-read_value-in-None.field-0) c.in_ok-read_value-in-None.ensures
