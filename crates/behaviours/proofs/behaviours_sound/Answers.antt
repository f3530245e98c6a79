-- `behaviours_sound` tests behaviour after behaviour. The loop keeps that those that are left give the answer. Assumes nothing.
use mathlib.Core.Path.{sym, ◌∙◌}
use native.Mathlib.Omega.{arith}
use lib.ListN.{get_or}
use Rattle.node.proofs.Tests.{within_is}
use Rattle.behaviours.proofs.Pass.{size_stop, code_stop, code_more, codes_end}
use Rattle.behaviours.proofs.behaviours_sound.Goals as goal

pub returns-then-not-within-2 : goal.returns-then-not-within-2
returns-then-not-within-2 c =
    let a = c.args in
    rw (sym c.within.ensures ∙ c.if-not-within.false)
    (size_stop a.count a.lens a.ops c.loop-b.b c.loop-b.invariant c.loop-b-test.true (sym c.within-in-loop-b.ensures ∙ c.if-not-within-2.true))

pub returns-then-not-behaviour_sound : goal.returns-then-not-behaviour_sound
returns-then-not-behaviour_sound c =
    let a = c.args in
    let within = sym c.within.ensures ∙ c.if-not-within.false in
    let few = within_is a.count 1 8 within in
    let size = within_is (get_or a.lens c.loop-b.b 0) 1 32 (sym c.within-in-loop-b.ensures ∙ c.if-not-within-2.false) in
    rw within
    (code_stop a.count a.lens a.ops c.loop-b.b c.loop-b.invariant c.loop-b-test.true (omega (arith, few, size)) (sym c.behaviour_sound.ensures ∙ c.if-not-behaviour_sound.true))

pub loop-b-preserved : goal.loop-b-preserved
loop-b-preserved c =
    let a = c.args in
    let few = within_is a.count 1 8 (sym c.within.ensures ∙ c.if-not-within.false) in
    let size = within_is (get_or a.lens c.loop-b.b 0) 1 32 (sym c.within-in-loop-b.ensures ∙ c.if-not-within-2.false) in
    code_more a.count a.lens a.ops c.loop-b.b c.loop-b.invariant c.loop-b-test.true (omega (arith, few, size)) (sym c.behaviour_sound.ensures ∙ c.if-not-behaviour_sound.false)

pub returns : goal.returns
returns c =
    let a = c.args in
    rw (sym c.within.ensures ∙ c.if-not-within.false) (codes_end a.count a.lens a.ops c.loop-b.b c.loop-b.invariant (omega arith))
