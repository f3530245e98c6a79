-- `open_controller_write_plan` loads both texts, then writes. Assumes nothing.
use mathlib.Core.Path.{sym, ◌∙◌}
use Rattle.plan.proofs.Told.{accepted_told, refused_told}
use Rattle.plan.specs.Plans.{load_of}
use Rattle.controller_c.proofs.Answers.{first_refused, second_refused, written_back}
use Rattle.controller_c.proofs.open_controller_write_plan.Goals as goal

pub returns-then-is_some : goal.returns-then-is_some
returns-then-is_some c =
    let refused = refused_told c.load-x.result.refused (sym c.is_some.ensures ∙ c.if-is_some.true) in
    let both = first_refused (load_of c.args.behaviours.now) (load_of c.args.starts.now) c.args.out.now c.load-x.ensures refused in
    record { answer = both.0; buffer = both.1 }

pub returns-then-is_some-2 : goal.returns-then-is_some-2
returns-then-is_some-2 c =
    let accepted = accepted_told c.load-x.result.refused (sym c.is_some.ensures ∙ c.if-is_some.false) in
    let refused = refused_told c.load-y.result.refused (sym c.is_some-2.ensures ∙ c.if-is_some-2.true) in
    let both = second_refused (load_of c.args.behaviours.now) (load_of c.args.starts.now) c.args.out.now
    c.load-x.ensures accepted c.load-y.ensures refused in
    record { answer = both.0; buffer = both.1 }

pub returns : goal.returns
returns c =
    let first = accepted_told c.load-x.result.refused (sym c.is_some.ensures ∙ c.if-is_some.false) in
    let second = accepted_told c.load-y.result.refused (sym c.is_some-2.ensures ∙ c.if-is_some-2.false) in
    let both = written_back (load_of c.args.behaviours.now) (load_of c.args.starts.now) c.args.out.now
    c.load-x.ensures first c.load-y.ensures second
    c.behaviours.ensures c.starts.ensures (c.write_plan.ensures.answer, c.write_plan.ensures.buffer) c.written_number.ensures in
    record { answer = both.0; buffer = both.1 }
