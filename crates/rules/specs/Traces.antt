-- Lists of steps of any kind. Nothing here knows what a node or a step is: a step is answered by a refusal or by the next node.
--   owned f i l    those steps of a list whose owner, by f, is i
--   Runs step n l k   k is reached from n by the steps l, which are all accepted
use Rattle.std.specs.Prelude.{cond, List, [], ◌∷◌, ◌≡◌, ℕ, eqb}
use Rattle.rules.specs.Answers.{Answer, done}

-- "A process's steps are those it owns"
module _ {S : Type 0} (owner_of : S → ℕ) where
  unfoldable pub owned : ℕ → List S → List S
  owned i [] = []
  owned i (a ∷ l) = cond (eqb (owner_of a) i) (a ∷ owned i l) (owned i l)

module _ {N S : Type 0} (step : N → S → Answer N) where
  abbrev pub Runs : N → List S → N → Type 0
  Runs n [] k = n ≡ k
  Runs n (a ∷ l) k = (m : N) × (step n a ≡ done m) × Runs m l k
