-- `behind_key` gives what stands behind a key, or 11. Assumes nothing.
use mathlib.Core.Bool.{Bool, true, false}
use mathlib.Core.List.{List}
use mathlib.Core.Path.{◌≡◌, refl, sym, subst, ◌∙◌}
use Prim.Native.Nat.{ℕ, ◌+◌}
use lib.ListN.{length, drop}
use Rattle.std.specs.Borrow.{Bor}
use Rattle.std.specs.Prelude.{Option, Some, None, Result, MatchOption, MatchResult, ok_or}
use Rattle.text.specs.declared.Fault.{Fault}
use Rattle.text.specs.declared.Fault.TheVariants.{Malformed}
use Rattle.text.specs.Parts.{starts_with}
use Rattle.plan_line.proofs.Keys.{prefix_starts}
use Rattle.plan_line.proofs.behind_key.Goals as goal

stripped : (t : Bool) (tail : List ℕ) (k n : ℕ) (o : Option (Bor (List ℕ))) {same : Bool} → same ≡ t
    → MatchOption o (same ≡ false) (λ x. (same ≡ true) × (x.now ≡ tail) × (length x.now + k ≡ n))
    → MatchResult (ok_or o Malformed) (λ x. (t ≡ true) × (x.now ≡ tail)) (λ e. (t ≡ false) × (e ≡ Malformed))
stripped t tail k n None e h = (sym e ∙ h, refl)
stripped t tail k n (Some x) e h = (sym e ∙ h.0, h.1)

pub returns : goal.returns
returns c =
    let key = c.args.key.now in
    let line = c.args.line.now in
    subst
    (λ (r : Result (Bor (List ℕ)) Fault). MatchResult r (λ x. (starts_with key line ≡ true) × (x.now ≡ drop (length key) line)) (λ e. (starts_with key line ≡ false) × (e ≡ Malformed)))
    (sym c.ok_or.ensures.value) (stripped _ _ _ _ c.strip_prefix.result (prefix_starts key line) c.strip_prefix.ensures.cases)
