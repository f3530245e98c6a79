-- `Shape::operands` gives `kinds_in`. Assumes nothing.
use Rattle.node.specs.Ops.{kinds_in}
use Rattle.node.proofs.Shape.operands.Goals as goal

pub returns-in-Nothing : goal.returns-in-Nothing
unfolding kinds_in
returns-in-Nothing c = rw c.in-Nothing.is

pub returns-in-R : goal.returns-in-R
unfolding kinds_in
returns-in-R c = rw c.in-R.is

pub returns-in-RS : goal.returns-in-RS
unfolding kinds_in
returns-in-RS c = rw c.in-RS.is

pub returns-in-RV : goal.returns-in-RV
unfolding kinds_in
returns-in-RV c = rw c.in-RV.is

pub returns-in-F : goal.returns-in-F
unfolding kinds_in
returns-in-F c = rw c.in-F.is

pub returns-in-RBQ : goal.returns-in-RBQ
unfolding kinds_in
returns-in-RBQ c = rw c.in-RBQ.is

pub returns-in-N : goal.returns-in-N
unfolding kinds_in
returns-in-N c = rw c.in-N.is

pub returns-in-KRST : goal.returns-in-KRST
unfolding kinds_in
returns-in-KRST c = rw c.in-KRST.is

pub returns-in-T : goal.returns-in-T
unfolding kinds_in
returns-in-T c = rw c.in-T.is

pub returns-in-RVT : goal.returns-in-RVT
unfolding kinds_in
returns-in-RVT c = rw c.in-RVT.is

pub returns-in-RST : goal.returns-in-RST
unfolding kinds_in
returns-in-RST c = rw c.in-RST.is
