-- `read_line` gives what a line is: its key decides. Assumes nothing.
use mathlib.Core.Path.{sym, ap, ◌∙◌}
use Rattle.schedule.specs.Reading.{run_key, arrive_key, timeout_key, line_of}
use Rattle.schedule.proofs.Lines.{line_run, line_arrive, line_timeout, line_other}
use Rattle.text.proofs.Parts.{strip_lem}
use Rattle.schedule.proofs.read_line.Goals as goal

pub returns-in-Some : goal.returns-in-Some
returns-in-Some c =
    let key = c.in-Some.ensures.cases in
    line_run _ (sym (strip_lem run_key c.args.line.now) ∙ key.0) (rw key.1 at c.own.ensures)

pub returns-in-Some-strip_prefix : goal.returns-in-Some-strip_prefix
returns-in-Some-strip_prefix c =
    let line = c.args.line.now in
    let key = c.in-Some-strip_prefix.ensures.cases in
    line_arrive _ (sym (strip_lem run_key line) ∙ c.in_default.ensures.cases) (sym (strip_lem arrive_key line) ∙ key.0) (rw key.1 at c.arrival.ensures)

pub returns-in_err-strip_prefix : goal.returns-in_err-strip_prefix
returns-in_err-strip_prefix c =
    let line = c.args.line.now in
    let run = sym (strip_lem run_key line) ∙ c.in_default.ensures.cases in
    let arrive = sym (strip_lem arrive_key line) ∙ c.in_default-strip_prefix.ensures.cases in
    ap line_of c.from_residual.ensures ∙ line_other _ run arrive (sym (strip_lem timeout_key line) ∙ c.in_err-strip_prefix.ensures.cases)

pub returns : goal.returns
returns c =
    let line = c.args.line.now in
    let key = c.in_ok-strip_prefix.ensures.cases in
    let run = sym (strip_lem run_key line) ∙ c.in_default.ensures.cases in
    let arrive = sym (strip_lem arrive_key line) ∙ c.in_default-strip_prefix.ensures.cases in
    line_timeout _ run arrive (sym (strip_lem timeout_key line) ∙ key.0) (rw key.1 at c.own-2.ensures)
