-- `decode` reads what the action of a number is made of. Assumes nothing.
use mathlib.Core.Path.{sym, ◌∙◌}
use native.Mathlib.Omega.{arith}
use Rattle.actions.proofs.Decoding.{decoded_run, decoded_timeout, decoded_arrival, decoded_no_owner, decoded_no_kind, decoded_no_sender}
use Rattle.actions.proofs.decode.Goals as goal
use Rattle.actions.proofs.decode.Goals.{in_default-via-in-1+else-is_number, in_default-via-in_default-1}

pub returns-then-not-is_number-clause-value : goal.returns-then-not-is_number-clause-value
returns-then-not-is_number-clause-value c =
    c.unnumbered.ensures ∙ sym (decoded_no_owner c.args.s (sym c.is_number.ensures ∙ c.if-not-is_number.true))

pub returns-in-0-clause-value : goal.returns-in-0-clause-value
returns-in-0-clause-value c =
    c.own.ensures.value ∙ sym (decoded_run c.args.s c.in-0.is (sym c.is_number.ensures ∙ c.if-not-is_number.false))

pub returns-in-1-clause-value : goal.returns-in-1-clause-value
returns-in-1-clause-value c =
    let row = c.row_index.ensures in
    let owner = sym c.is_number.ensures ∙ c.if-not-is_number.false in
    rw (c.own-in-1.ensures.value, row.value) (sym (decoded_arrival c.args.s c.in-1.is owner (sym c.if-is_number.ensures)))

pub returns-in-2-clause-value : goal.returns-in-2-clause-value
returns-in-2-clause-value c =
    c.own-in-2.ensures.value ∙ sym (decoded_timeout c.args.s c.in-2.is (sym c.is_number.ensures ∙ c.if-not-is_number.false))

pub returns-in_default-clause-value : goal.returns-in_default-clause-value
returns-in_default-clause-value c =
    c.unnumbered-in_default.ensures
    ∙ elim c.in_default.branch [
      | in_default-via-in-1+else-is_number w ↦ sym (decoded_no_sender c.args.s w.in-1.is (sym w.if-is_number.ensures))
      | in_default-via-in_default-1 w ↦ sym (decoded_no_kind c.args.s (omega arith))
    ]
