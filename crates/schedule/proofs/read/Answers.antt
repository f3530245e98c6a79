-- `read` gives the steps of a text. The invariant: the lines before the rest are steps, and those are stored. Assumes nothing.
use mathlib.Core.Path.{◌≡◌, refl, sym, ◌∙◌}
use native.Mathlib.Omega.{arith}
use borrow.Author.Tests.{lt-ltb}
use lib.Seq.{set_out}
use Rattle.std.proofs.Common.{rules, tests, set}
use Rattle.text.proofs.Ended.{piece_of}
use Rattle.schedule.specs.Reading.{schedule_of}
use Rattle.schedule.proofs.Lines.{so_none, so_room, so_refused, so_step, so_over, so_all}
use Rattle.schedule.proofs.read.Goals as goal
use Rattle.schedule.proofs.read.Goals.{then-count-lt-ROOM, else-count-lt-ROOM}

pub returns-then-text-gt-LIMIT : goal.returns-then-text-gt-LIMIT
unfolding schedule_of
returns-then-text-gt-LIMIT c = simp (lt-ltb _ _ c.if-text-gt-LIMIT.true) refl

pub loop-line-init : goal.loop-line-init
loop-line-init c = rw (c.into_iter-line-iterator.ensures.into_iter_gives, c.split_inclusive-line-items.ensures.rest) (so_none _)

pub loop-line-preserved : goal.loop-line-preserved
loop-line-preserved c =
    let piece = piece_of c.in-Some.ensures.steps (λ f a r q k. search (rules, tests)) in
    let stored : c.if-count-lt-ROOM.steps ≡ set c.loop-line.steps c.loop-line.count c.in-Some-and_then.step =
    elim c.if-count-lt-ROOM.branch [
      | then-count-lt-ROOM w ↦ w.steps-is
      | else-count-lt-ROOM w ↦ w.steps-is ∙ sym (set_out _ _ _ (omega (arith, so_room c.loop-line.invariant, w.if-count-lt-ROOM.false)))
    ] in
    so_step c.loop-line.invariant piece _ c.strip_suffix.ensures.cases c.and_then.ensures c.in-Some-and_then.is stored

pub returns-in_default : goal.returns-in_default
returns-in_default c =
    let piece = piece_of c.in-Some.ensures.steps (λ f a r q k. search (rules, tests)) in
    so_refused c.loop-line.invariant piece _ c.if-text-gt-LIMIT.false c.strip_suffix.ensures.cases c.and_then.ensures c.in_default.is refl

pub returns-then-count-gt-ROOM : goal.returns-then-count-gt-ROOM
returns-then-count-gt-ROOM c = so_over c.loop-line.invariant c.if-text-gt-LIMIT.false c.in-None.ensures.steps.0 c.if-count-gt-ROOM.true refl

pub returns : goal.returns
returns c = so_all c.loop-line.invariant c.if-text-gt-LIMIT.false c.in-None.ensures.steps.0 c.if-count-gt-ROOM.false refl
