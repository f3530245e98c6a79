-- `put_codes` writes the behaviours one by one. The invariant: what is left to write are those from k on. Assumes nothing.
use mathlib.Core.Path.{ap}
use native.Mathlib.Omega.{arith}
use lib.ListN.{get_or}
use Rattle.text.proofs.Writing.{left_all, wrote_as}
use Rattle.plan_writer.proofs.Tests.{codes_few, codes_sound_lem, code_within}
use Rattle.plan_writer.proofs.Laws.{code_text, code_slice, left_code, codes_end}
use Rattle.plan_writer.proofs.Plan.put_codes.Goals as goal

pub bounds-self-k : goal.bounds-self-k
bounds-self-k c = let few = codes_few c.args.self.now.behaviours c.args.self.now.starts c.args.self.now.sound in omega (arith, few)

pub slice_bounds-put_code-end : goal.slice_bounds-put_code-end
slice_bounds-put_code-end c =
    let b = c.args.self.now.behaviours in
    let few = codes_few b c.args.self.now.starts c.args.self.now.sound in
    let within = code_within b.count b.lens b.ops _ (codes_sound_lem b c.args.self.now.starts c.args.self.now.sound) c.loop-k-test.true in
    omega (arith, few, within)

pub loop-k-init : goal.loop-k-init
loop-k-init c = left_all _ _ _ (omega arith) (omega arith)

pub loop-k-preserved : goal.loop-k-preserved
loop-k-preserved c =
    let b = c.args.self.now.behaviours in
    let few = codes_few b c.args.self.now.starts c.args.self.now.sound in
    let within = code_within b.count b.lens b.ops c.loop-k.k (codes_sound_lem b c.args.self.now.starts c.args.self.now.sound) c.loop-k-test.true in
    left_code _ _ _ _ c.loop-k.invariant c.loop-k-test.true
    (wrote_as (ap code_text (code_slice (get_or b.lens c.loop-k.k 0) b.ops c.loop-k.k (omega arith) (omega (arith, few, within)))) c.put_code-e.ensures)

pub shape_of-out : goal.shape_of-out
shape_of-out c = c.loop-k.invariant.same

pub returns : goal.returns
returns c = codes_end _ _ _ _ c.loop-k.invariant c.loop-k-test.false
