-- `code` reads a behaviour: its line `code=`, and its ops. Assumes nothing.
use mathlib.Core.List.{[]}
use mathlib.Core.Path.{◌≡◌, ap, ◌∙◌}
use Prim.Native.Nat.{ℕ, ◌+◌, ◌<◌}
use native.Mathlib.Omega.{arith}
use Rattle.std.proofs.Common.{rules}
use Rattle.node.specs.declared.Node.{Node}
use Rattle.plan_line.specs.Lines.{op_line}
use Rattle.plan.specs.Plans.{more, code_lines, with_code, with_ops}
use Rattle.plan.specs.Rests.{coded_node}
use Rattle.plan.specs.Reading.{Left, on_line, times}
use Rattle.plan.proofs.Loops.{err_told, bad_on, good_on, mapped_good, then_stop, then_more}
use Rattle.plan.proofs.Nodes.{counted_code}
use Rattle.plan.proofs.loading.Loading.code.Goals as goal

pub returns-in_err-len : goal.returns-in_err-len
unfolding code_lines
returns-in_err-len c =
    let args = c.args in
    err_told _ _ _ _ c.from_residual.ensures.1
    ∙ then_stop _ (λ (n : ℕ) (l : Left). times n (more (on_line (op_line args.count n))) [] l) (with_code (coded_node args.self.now.codes)) c.in_err-len.ensures.read

pub returns-in_err-ops : goal.returns-in_err-ops
unfolding code_lines
returns-in_err-ops c =
    let args = c.args in
    err_told _ _ _ _ c.from_residual-in_err-ops.ensures.1
    ∙ then_more _ (λ (n : ℕ) (l : Left). times n (more (on_line (op_line args.count n))) [] l) (with_code (coded_node args.self.now.codes)) c.in_ok-len.ensures.read
    (bad_on (with_ops (coded_node args.self.now.codes)) (with_code (coded_node args.self.now.codes)) _ c.in_err-ops.ensures)

pub overflow_add-self : goal.overflow_add-self
overflow_add-self c =
    let was = mapped_good (with_ops (coded_node c.args.self.now.codes)) _ c.in_ok-ops.ensures in
    let count : c.ops.new.self.codes.behaviours.count ≡ c.args.self.now.codes.behaviours.count = ap (λ (n : Node). n.count) was.2 in
    let few : c.ops.new.self.codes.behaviours.count + 1 < 256 = omega arith in
    search rules

pub returns : goal.returns
unfolding code_lines
returns c =
    let args = c.args in
    then_more _ (λ (n : ℕ) (l : Left). times n (more (on_line (op_line args.count n))) [] l) (with_code (coded_node args.self.now.codes)) c.in_ok-len.ensures.read
    (good_on (with_ops (coded_node args.self.now.codes)) (with_code (coded_node args.self.now.codes)) _ c.in_ok-ops.ensures (λ ops e. counted_code (coded_node args.self.now.codes) ops e))
