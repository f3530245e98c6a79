-- `run`: by the stage. Assumes nothing.
use mathlib.Core.Path.{◌∙◌}
use Rattle.decisions.proofs.Laws.{at_stage}
use Rattle.decisions.proofs.run.Goals as goal

pub returns-in-Unborn : goal.returns-in-Unborn
returns-in-Unborn c =
    at_stage c.args.i c.args.p c.args.len c.args.op c.in-Unborn.is

pub returns-in-Live : goal.returns-in-Live
returns-in-Live c =
    let its-run-live = c.run_live in
    its-run-live.ensures ∙ at_stage c.args.i c.args.p c.args.len c.args.op c.in-Live.is

pub returns-in-Closing : goal.returns-in-Closing
returns-in-Closing c =
    let its-close = c.close in
    its-close.ensures ∙ at_stage c.args.i c.args.p c.args.len c.args.op c.in-Closing.is

pub returns-in-Gone : goal.returns-in-Gone
returns-in-Gone c =
    at_stage c.args.i c.args.p c.args.len c.args.op c.in-Gone.is
