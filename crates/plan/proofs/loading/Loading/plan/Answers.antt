-- `plan` reads the lines of a plan. Assumes nothing.
use mathlib.Core.Path.{ap, ◌∙◌}
use Rattle.node.specs.declared.Node.{Node}
use Rattle.plan.specs.Plans.{plan_lines, node_of, with_code, with_each, with_start}
use Rattle.plan.specs.Rests.{coded_node}
use Rattle.plan.proofs.Loops.{err_told, then_stop, then_more, made_stop, made_more}
use Rattle.plan.proofs.Whole.{count_in, codes_in, starts_in, ends_in, ended}
use Rattle.plan.proofs.loading.Loading.plan.Goals as goal

pub returns-in_err-header : goal.returns-in_err-header
unfolding plan_lines
returns-in_err-header c = err_told _ _ _ _ c.from_residual.ensures.1 ∙ then_stop _ count_in node_of c.in_err-header.ensures

pub returns-in_err-count : goal.returns-in_err-count
unfolding plan_lines
returns-in_err-count c =
    err_told _ _ _ _ c.from_residual-in_err-count.ensures.1
    ∙ then_more _ count_in node_of c.in_ok-header.ensures
    (then_stop _ codes_in node_of c.in_err-count.ensures.read)

pub returns-in_err-codes : goal.returns-in_err-codes
unfolding plan_lines
returns-in_err-codes c =
    err_told _ _ _ _ c.from_residual-in_err-codes.ensures.1
    ∙ then_more _ count_in node_of c.in_ok-header.ensures
    (then_more _ codes_in node_of c.in_ok-count.ensures.read
    (made_stop _ (starts_in c.in_ok-count.count) node_of (with_each with_code (coded_node c.args.self.now.codes)) c.in_err-codes.ensures))

pub returns-in_err-starts : goal.returns-in_err-starts
unfolding plan_lines
returns-in_err-starts c =
    err_told _ _ _ _ c.from_residual-in_err-starts.ensures.1
    ∙ then_more _ count_in node_of c.in_ok-header.ensures
    (then_more _ codes_in node_of c.in_ok-count.ensures.read
    (made_more _ (starts_in c.in_ok-count.count) node_of (with_each with_code (coded_node c.args.self.now.codes)) c.in_ok-codes.ensures
    (λ codes e. made_stop _ (ends_in codes) node_of (with_each with_start (coded_node c.codes.new.self.codes)) c.in_err-starts.ensures)))

pub returns : goal.returns
unfolding plan_lines node_of
returns c =
    then_more _ count_in node_of c.in_ok-header.ensures
    (then_more _ codes_in node_of c.in_ok-count.ensures.read
    (made_more _ (starts_in c.in_ok-count.count) node_of (with_each with_code (coded_node c.args.self.now.codes)) c.in_ok-codes.ensures
    (λ codes e. made_more _ (ends_in codes) node_of (with_each with_start (coded_node c.codes.new.self.codes)) c.in_ok-starts.ensures
    (λ starts g. ended _ _ c.end.ensures node_of (record { codes = codes; starts = starts })
    (g ∙ ap (λ (n : Node). with_each with_start n starts) (e ∙ ap (λ (n : Node). with_each with_code n codes) c.requires))))))
