-- What refuses a decision already is told before what would refuse it behind that. Assumes nothing.
--   told_first                of two refusals the first that is there is told
--   told_where, told_unless   a refusal that is there where a test holds, and where it does not
use mathlib.Core.Bool.{Bool, true, false, not, cond}
use mathlib.Core.Path.{◌≡◌, refl}
use borrow.Author.Tests.{ne_eqb}
use lib.Dec.{eqb}
use Rattle.std.specs.Bool.{then_some}
use Rattle.std.specs.Option.{option_or}
use Rattle.std.specs.Prelude.{Option, Some, None}
use Rattle.node.specs.declared.Refusal.{Refusal}
use Rattle.node.specs.Refusals.{refusal_number, refusal_told}
use Rattle.node.proofs.Refusals.{above_zero}

pub told_first : (o p : Option Refusal) → refusal_told (option_or o p) ≡ cond (eqb (refusal_told o) 0) (refusal_told p) (refusal_told o)
told_first None p = refl
told_first (Some r) p = rw (ne_eqb (refusal_number r) 0 (above_zero r))

pub told_where : (b : Bool) (r : Refusal) → refusal_told (then_some b r) ≡ cond b (refusal_number r) 0
told_where true r = refl
told_where false r = refl

pub told_unless : (b : Bool) (r : Refusal) → refusal_told (then_some (not b) r) ≡ cond b 0 (refusal_number r)
told_unless true r = refl
told_unless false r = refl
