-- `same_value`: two values are equal just where their kinds and their numbers are. Assumes nothing.
use mathlib.Core.Bool.{true}
use mathlib.Core.Path.{◌≡◌, refl, ◌∙◌, ap}
use lib.IntN.{ℤ, pos, negsuc}
use borrow.Author.Tests.{eqb-true, eq-eqb}
use Rattle.std.proofs.lemmas.Bool.Decides.{Decides-int_eq, same_from_decides}
use Rattle.node.specs.declared.Value.{Value}
use Rattle.node.specs.declared.Value.TheVariants.{Int, Atom, Pid}
use Rattle.node.specs.contracts.ValuePartialEq.TheImpl.{ghosts}
use Rattle.node.specs.Values.{same_int, same_value}
use Rattle.node.proofs.same_value.Goals as goal

int_same : (x y : ℤ) → same_int x y ≡ true → x ≡ y
int_same (pos a) (pos b) e = ap pos (eqb-true a b e)
int_same (pos a) (negsuc b) e = cc
int_same (negsuc a) (pos b) e = cc
int_same (negsuc a) (negsuc b) e = ap negsuc (eqb-true a b e)

int_refl : (x : ℤ) → same_int x x ≡ true
int_refl (pos n) = eq-eqb n n refl
int_refl (negsuc n) = eq-eqb n n refl

equal : (a b : Value) → ghosts.eq a b ≡ same_value a b
unfolding same_value
equal (Int x) (Int y) = same_from_decides _ (same_int x y) (Decides-int_eq x y) (int_same x y, λ e. rw e (int_refl y))
equal (Int x) (Atom y) = refl
equal (Int x) (Pid y) = refl
equal (Atom x) (Int y) = refl
equal (Atom x) (Atom y) = refl
equal (Atom x) (Pid y) = refl
equal (Pid x) (Int y) = refl
equal (Pid x) (Atom y) = refl
equal (Pid x) (Pid y) = refl

pub returns : goal.returns
returns c = c.eq.ensures ∙ equal c.args.a c.args.b
