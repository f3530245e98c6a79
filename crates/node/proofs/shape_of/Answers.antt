-- `shape_of` reads the table of shapes: what it has at an op is of the kinds that the table of ops gives. Assumes nothing.
use mathlib.Core.List.{List, [], ◌∷◌}
use mathlib.Core.Path.{◌≡◌, ◌∙◌, sym, ap}
use borrow.Author.Rules.{rules}
use lib.ListN.{get_or, get_or-map}
use Rattle.node.specs.declared.Shape.{Shape}
use Rattle.node.specs.declared.Shape.TheVariants.{Nothing, R, RS, RV, F, RBQ, N, KRST, T, RVT, RST}
use Rattle.node.specs.Ops.{kinds_in, kinds_of}
use Rattle.node.proofs.shape_of.Goals as goal

abbrev shapes : List Shape
shapes = RV ∷ RS ∷ R ∷ RS ∷ RS ∷ RS ∷ R ∷ R ∷ F ∷ RBQ ∷ N ∷ KRST ∷ T ∷ RVT ∷ RST ∷ R ∷ R ∷ R ∷ T ∷ []

pub returns : goal.returns
unfolding kinds_in kinds_of
returns c =
    let e : c.unwrap_or.result ≡ get_or shapes c.args.op Nothing = search rules in
    ap kinds_in e ∙ sym (get_or-map kinds_in shapes c.args.op Nothing)
