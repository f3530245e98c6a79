-- `add`: the sum where it is an integer, else the process ends. Assumes nothing.
use mir.Syntax.{w32}
use mir.ValLaws.{to_z-of_z}
use Rattle.decisions.proofs.Laws.{fits, fits_not}
use Rattle.decisions.proofs.add.Goals as goal

pub returns-in-Some : goal.returns-in-Some
returns-in-Some c =
    let r = c.ranges in
    let e = rw (to_z-of_z w32 c.args.x r.x, to_z-of_z w32 c.args.y r.y) at c.in-Some.ensures in
    rw (c.becomes.ensures, c.advanced.ensures, c.with_register.ensures, e.1, to_z-of_z w32 _ e.0, fits _ e.0)

pub returns-in-None : goal.returns-in-None
returns-in-None c =
    let r = c.ranges in
    let e = rw (to_z-of_z w32 c.args.x r.x, to_z-of_z w32 c.args.y r.y) at c.in-None.ensures in
    rw (c.becomes-in-None.ensures, c.ended.ensures, fits_not _ e)
