-- `behaviour_sound` tests op after op. The loop keeps that what is left gives the answer. Assumes nothing.
use mathlib.Core.Path.{sym, ◌∙◌}
use Rattle.behaviours.proofs.Pass.{pass_start, pass_end, op_stop, op_barred, op_more}
use Rattle.behaviours.proofs.behaviour_sound.Goals as goal

pub loop-op-init : goal.loop-op-init
loop-op-init c = pass_start c.args.count _ c.requires.least c.requires.most

pub returns-then-not-op_sound : goal.returns-then-not-op_sound
returns-then-not-op_sound c = op_stop c.args.count _ c.loop-op.invariant c.loop-op-test.true (sym c.op_sound.ensures ∙ c.if-not-op_sound.true)

pub returns-then-not-lands_free : goal.returns-then-not-lands_free
returns-then-not-lands_free c = op_barred c.args.count _ c.loop-op.invariant c.loop-op-test.true (sym c.lands_free.ensures ∙ c.if-not-lands_free.true)

pub loop-op-preserved : goal.loop-op-preserved
loop-op-preserved c =
    op_more c.args.count _ c.loop-op.invariant c.loop-op-test.true
    (sym c.op_sound.ensures ∙ c.if-not-op_sound.false) (sym c.lands_free.ensures ∙ c.if-not-lands_free.false) c.due_next-due.ensures

pub returns : goal.returns
returns c = pass_end c.args.count _ c.loop-op.invariant c.loop-op-test.false
