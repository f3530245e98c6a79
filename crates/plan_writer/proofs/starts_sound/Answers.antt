-- `starts_sound` tests the starts one by one. The invariant: those that are left decide. Assumes nothing.
use mathlib.Core.Path.{sym, ap, ◌∙◌}
use Prim.Native.Nat.{◌+◌, ◌≤◌, ◌<◌}
use native.Mathlib.Omega.{arith}
use lib.ListN.{length, drop}
use Rattle.node.specs.declared.Start.{Start}
use Rattle.node.specs.Starts.{starts_in}
use Rattle.plan_writer.specs.Answers.{start_fits, starts_rise}
use Rattle.plan_writer.proofs.Tests.{lent_count, lent_start, rise_end, rise_more, rise_stop, starts_count, starts_counted, starts_few}
use Rattle.plan_writer.proofs.starts_sound.Goals as goal

pub returns-then-not-within : goal.returns-then-not-within
returns-then-not-within c = starts_count c.args.count c.args.starts c.within.ensures c.if-not-within.true

pub shared_ref_as_front-s-items : goal.shared_ref_as_front-s-items
shared_ref_as_front-s-items c = starts_few c.args.count c.args.starts c.within.ensures c.if-not-within.false

pub loop-s-init : goal.loop-s-init
loop-s-init c = starts_counted c.args.count c.args.starts c.within.ensures c.if-not-within.false

pub returns-then-not-start_fits : goal.returns-then-not-start_fits
returns-then-not-start_fits c =
    let args = c.args in
    let few : args.starts.count ≤ length args.starts.list = omega (arith, starts_few args.count args.starts c.within.ensures c.if-not-within.false) in
    let below : c.loop-s.s-index < args.starts.count = rw (lent_count args.starts few) at c.loop-s-test.true in
    let is = c.start_fits.ensures ∙ ap (start_fits args.count c.loop-s.last) (lent_start args.starts few _ below) in
    rise_stop args.count args.starts _ _ c.loop-s.invariant below is c.if-not-start_fits.true

pub loop-s-preserved : goal.loop-s-preserved
loop-s-preserved c =
    let args = c.args in
    let few : args.starts.count ≤ length args.starts.list = omega (arith, starts_few args.count args.starts c.within.ensures c.if-not-within.false) in
    let below : c.loop-s.s-index < args.starts.count = rw (lent_count args.starts few) at c.loop-s-test.true in
    let same = lent_start args.starts few _ below in
    rise_more args.count args.starts _ _ c.loop-s.invariant below (c.start_fits.ensures ∙ ap (start_fits args.count c.loop-s.last) same) c.if-not-start_fits.false
    ∙ ap (λ (x : Start). starts_rise args.count x.process.0 (drop (c.loop-s.s-index + 1) (starts_in args.starts))) (sym same)

pub returns : goal.returns
returns c =
    let args = c.args in
    let few : args.starts.count ≤ length args.starts.list = omega (arith, starts_few args.count args.starts c.within.ensures c.if-not-within.false) in
    rise_end args.count args.starts _ _ c.loop-s.invariant (rw (lent_count args.starts few) at c.loop-s-test.false)
