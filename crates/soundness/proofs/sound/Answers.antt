-- `sound` gives `sound`: behaviours, then each process with its mailbox, then each row in flight. The loops keep that what is left gives the answer.
-- Assumes nothing.
use Prim.Native.Nat.{ℕ, ◌+◌, ◌≤◌}
use Rattle.node.specs.declared.Node.{Node}
use Rattle.soundness.specs.Parts.{Busy}
use Rattle.rules.specs.Nodes.{sound as sound_of}
use Rattle.soundness.proofs.Parts.{mail_blocks, process_by, row_blocks, shaped_node, sound_due, sound_not}
use Rattle.node.proofs.Good.{sized_node}
use Rattle.soundness.proofs.Walk.{Due, behind, ends, long_stop, next, own_stop, skips, stop}
use mathlib.Core.Bool.{true, false, not, ◌&&◌}
use mathlib.Core.Path.{◌≡◌, refl, sym, ◌∙◌, ap}
use Rattle.std.specs.Option.{is_some, unwrap_or}
use Rattle.std.specs.Prelude.{Option, None, Some}
use native.Mathlib.Omega.{arith}
use Rattle.soundness.proofs.sound.Goals as goal

-- what is left from the first pair with a signal in flight on gives the answer
first : (n : Node) (i k : ℕ) → Due (mail_blocks n) (behind (row_blocks n) 0 && true) (sound_of n) i → 16 ≤ i → Busy n.counts 0 k → Due (row_blocks n) true (sound_of n) k
first n i k left past from = skips (row_blocks n) 0 k from.behind (λ j. refl) from.before.none (record { gives = ends (mail_blocks n) i past left })

past : (o : Option ℕ) → is_some o ≡ false → unwrap_or o 256 ≡ 256
past None e = refl
past (Some k) e = cc

pub returns-then-not-behaviours_sound : goal.returns-then-not-behaviours_sound
returns-then-not-behaviours_sound c =
    let n = c.args.n in
    sound_not n (shaped_node n c.well_formed.0) (sym c.behaviours_sound.ensures ∙ c.if-not-behaviours_sound.true)

pub loop-i-init : goal.loop-i-init
loop-i-init c =
    let n = c.args.n in
    let codes = sym c.behaviours_sound.ensures ∙ c.if-not-behaviours_sound.false in
    sound_due n codes (shaped_node n c.well_formed.0)

pub returns-then-not-process_sound : goal.returns-then-not-process_sound
returns-then-not-process_sound c =
    let n = c.args.n in
    let l = c.loop-i in
    let own = process_by n l.i _ c.place_index.ensures c.process_sound.ensures in
    own_stop (mail_blocks n) l.i (omega arith) l.invariant (sym own ∙ c.if-not-process_sound.true)

pub returns-then-waiting-gt16 : goal.returns-then-waiting-gt16
returns-then-waiting-gt16 c =
    let n = c.args.n in
    let l = c.loop-i in
    let size = c.mail_count-waiting.ensures in
    long_stop (mail_blocks n) l.i (omega arith) l.invariant (rw (← size) c.if-waiting-gt16.true)

pub returns-then-not-mail_sound : goal.returns-then-not-mail_sound
returns-then-not-mail_sound c =
    let n = c.args.n in
    let l = c.loop-i in
    let all = sized_node n c.well_formed.0 in
    stop (mail_blocks n) l.i (omega arith) l.invariant c.mail_count-waiting.ensures c.if-waiting-gt16.false (omega (arith, all.slots)) c.mail_sound.ensures c.if-not-mail_sound.true

pub loop-i-preserved : goal.loop-i-preserved
loop-i-preserved c =
    let n = c.args.n in
    let l = c.loop-i in
    let all = sized_node n c.well_formed.0 in
    let own = process_by n l.i _ c.place_index.ensures c.process_sound.ensures in
    next (mail_blocks n) l.i (omega arith) l.invariant c.mail_count-waiting.ensures c.if-waiting-gt16.false (omega (arith, all.slots)) c.mail_sound.ensures
    (sym own ∙ c.if-not-process_sound.false) c.if-not-mail_sound.false

pub returns-then-is_none : goal.returns-then-is_none
returns-then-is_none c =
    let none = past c.busy_from-next.result (c.is_none.ensures ∙ ap not c.if-is_none.true) in
    sym (ends (row_blocks c.args.n) _ (omega (arith, none)) (first c.args.n c.loop-i.i _ c.loop-i.invariant (omega arith) c.busy_from-next.ensures.pair))

pub loop-next-init : goal.loop-next-init
loop-next-init c =
    let found = c.busy_from-next.ensures in
    record { left = first c.args.n c.loop-i.i _ c.loop-i.invariant (omega arith) found.pair; inside = found.inside }

pub returns-then-held-gt4 : goal.returns-then-held-gt4
returns-then-held-gt4 c =
    let left = rw c.in-Some.is at c.loop-next.invariant.left in
    let inside = rw c.in-Some.is at c.loop-next.invariant.inside in
    long_stop (row_blocks c.args.n) c.in-Some.k inside left c.if-held-gt4.true

pub returns-then-not-row_sound : goal.returns-then-not-row_sound
returns-then-not-row_sound c =
    let n = c.args.n in
    let all = sized_node n c.well_formed.0 in
    let left = rw c.in-Some.is at c.loop-next.invariant.left in
    let inside = rw c.in-Some.is at c.loop-next.invariant.inside in
    stop (row_blocks n) c.in-Some.k inside left refl c.if-held-gt4.false (omega (arith, all.cells, inside)) c.row_sound.ensures c.if-not-row_sound.true

pub loop-next-preserved : goal.loop-next-preserved
loop-next-preserved c =
    let n = c.args.n in
    let k = c.in-Some.k in
    let all = sized_node n c.well_formed.0 in
    let left = rw c.in-Some.is at c.loop-next.invariant.left in
    let inside = rw c.in-Some.is at c.loop-next.invariant.inside in
    let found = c.busy_from-next-in-Some.ensures in record {
      left = skips (row_blocks n) (k + 1) _ found.pair.behind (λ j. refl) found.pair.before.none
          (next (row_blocks n) k inside left refl c.if-held-gt4.false (omega (arith, all.cells, inside)) c.row_sound.ensures refl c.if-not-row_sound.false);
      inside = found.inside;
    }

pub loop-next-smaller : goal.loop-next-smaller
loop-next-smaller c =
    let here = ap (λ (o : Option ℕ). unwrap_or o 256) c.in-Some.is in
    let inside = rw c.in-Some.is at c.loop-next.invariant.inside in
    let found = c.busy_from-next-in-Some.ensures.pair.behind in
    omega (arith, here, inside, found)

pub returns : goal.returns
returns c =
    let left = rw c.in_default.is at c.loop-next.invariant.left in
    sym (ends (row_blocks c.args.n) 256 (omega arith) left)
