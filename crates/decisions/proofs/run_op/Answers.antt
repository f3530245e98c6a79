-- `run_op`: each arm is the entry of the table with its number; past the table an op is stop. Assumes nothing.
use mathlib.Core.Path.{◌∙◌}
use Rattle.decisions.proofs.Laws.{past, ran_at, ran_stop}
use Rattle.node.specs.Mailboxes.{messages}
use Rattle.rules.specs.Receive.{receives}
use Rattle.decisions.proofs.run_op.Goals as goal

pub returns-in-0 : goal.returns-in-0
returns-in-0 c =
    let its-run-set = c.run_set in
    its-run-set.ensures ∙ ran_at c.args.i c.args.p c.args.op 0 c.in-0.is

pub returns-in-1 : goal.returns-in-1
returns-in-1 c =
    let its-run-copy = c.run_copy in
    its-run-copy.ensures ∙ ran_at c.args.i c.args.p c.args.op 1 c.in-1.is

pub returns-in-2 : goal.returns-in-2
returns-in-2 c =
    let its-run-self = c.run_self in
    its-run-self.ensures ∙ ran_at c.args.i c.args.p c.args.op 2 c.in-2.is

pub returns-in-3 : goal.returns-in-3
returns-in-3 c =
    let its-run-add = c.run_add in
    its-run-add.ensures ∙ ran_at c.args.i c.args.p c.args.op 3 c.in-3.is

pub returns-in-4 : goal.returns-in-4
returns-in-4 c =
    let its-run-send = c.run_send in
    its-run-send.ensures ∙ ran_at c.args.i c.args.p c.args.op 4 c.in-4.is

pub returns-in-5 : goal.returns-in-5
returns-in-5 c =
    let its-run-exit = c.run_exit in
    its-run-exit.ensures ∙ ran_at c.args.i c.args.p c.args.op 5 c.in-5.is

pub returns-in-6 : goal.returns-in-6
returns-in-6 c =
    let its-run-link = c.run_link in
    its-run-link.ensures ∙ ran_at c.args.i c.args.p c.args.op 6 c.in-6.is

pub returns-in-7 : goal.returns-in-7
returns-in-7 c =
    let its-run-unlink = c.run_unlink in
    its-run-unlink.ensures ∙ ran_at c.args.i c.args.p c.args.op 7 c.in-7.is

pub returns-in-8 : goal.returns-in-8
returns-in-8 c =
    let its-run-trap = c.run_trap in
    its-run-trap.ensures ∙ ran_at c.args.i c.args.p c.args.op 8 c.in-8.is

pub returns-in-9 : goal.returns-in-9
returns-in-9 c =
    let its-run-spawn = c.run_spawn in
    its-run-spawn.ensures c.args.i.0 ∙ ran_at c.args.i c.args.p c.args.op 9 c.in-9.is

pub returns-in-10 : goal.returns-in-10
unfolding receives messages
returns-in-10 c =
    let its-searches = c.searches in
    its-searches.ensures ∙ ran_at c.args.i c.args.p c.args.op 10 c.in-10.is

pub returns-in-11 : goal.returns-in-11
returns-in-11 c =
    let its-run-part = c.run_part in
    its-run-part.ensures ∙ ran_at c.args.i c.args.p c.args.op 11 c.in-11.is

pub returns-in-12 : goal.returns-in-12
returns-in-12 c =
    let its-run-jump = c.run_jump in
    its-run-jump.ensures ∙ ran_at c.args.i c.args.p c.args.op 12 c.in-12.is

pub returns-in-13 : goal.returns-in-13
returns-in-13 c =
    let its-run-same = c.run_same in
    its-run-same.ensures ∙ ran_at c.args.i c.args.p c.args.op 13 c.in-13.is

pub returns-in-14 : goal.returns-in-14
returns-in-14 c =
    let its-run-less = c.run_less in
    its-run-less.ensures ∙ ran_at c.args.i c.args.p c.args.op 14 c.in-14.is

pub returns-in-15 : goal.returns-in-15
returns-in-15 c =
    let its-run-stop = c.run_stop in
    its-run-stop.ensures ∙ ran_at c.args.i c.args.p c.args.op 15 c.in-15.is

pub returns-in-16 : goal.returns-in-16
returns-in-16 c =
    let its-run-monitor = c.run_monitor in
    its-run-monitor.ensures ∙ ran_at c.args.i c.args.p c.args.op 16 c.in-16.is

pub returns-in-17 : goal.returns-in-17
returns-in-17 c =
    let its-run-demonitor = c.run_demonitor in
    its-run-demonitor.ensures ∙ ran_at c.args.i c.args.p c.args.op 17 c.in-17.is

pub returns-in-18 : goal.returns-in-18
returns-in-18 c =
    let its-run-part2 = c.run_part-in-18 in
    its-run-part2.ensures ∙ ran_at c.args.i c.args.p c.args.op 18 c.in-18.is

pub returns-in_default : goal.returns-in_default
returns-in_default c =
    let its-run-stop2 = c.run_stop-in_default in
    its-run-stop2.ensures ∙ ran_stop c.args.i c.args.p c.args.op (past 19 c.args.op.number c.in_default.in_default-own.rest)
