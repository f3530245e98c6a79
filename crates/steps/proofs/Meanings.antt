-- What a step record means, for every value of its fields: a kind that is no kind, or a number that is no process, is refused with 20. Assumes nothing.
--   meaning_run, meaning_arrive, meaning_timeout, meaning_none   the action, by the kind
--   Unnumbered s                                a number that s needs is outside 1 to 16, or its kind is none
--   step_20, play_20                            such a step is refused with 20, and a schedule that begins with it too
use mathlib.Core.Bool.{Bool, true, false, ◌&&◌}
use mathlib.Core.List.{List, [], ◌∷◌}
use mathlib.Core.Path.{◌≡◌, refl, ◌∙◌}
use Prim.Native.Nat.{◌<◌}
use native.Mathlib.Decide.{ℕ_discrete}
use native.Mathlib.Omega.{arith}
use borrow.Author.Tests.{le-ltb}
use lib.ListN.{length, get_or-eq_default}
use Rattle.node.specs.declared.Node.{Node}
use Rattle.node.specs.declared.Step.{Step}
use Rattle.rules.specs.Answers.{refused}
use Rattle.rules.specs.Nodes.{Sound}
use Rattle.rules.specs.Steps.{Action, run, arrive, timeout, meaning, numbered, step, played, play}
use Rattle.node.specs.Values.{is_number}
use Rattle.rules.proofs.Accepted.{step_rule}
use Rattle.rules.proofs.Paths.{rule_20}

module _ (s : Step) where
  pub meaning_run : s.kind ≡ 0 → meaning s ≡ run s.owner.0
  unfolding meaning
  meaning_run h = rw h

  pub meaning_arrive : s.kind ≡ 1 → meaning s ≡ arrive s.owner.0 s.from.0
  unfolding meaning
  meaning_arrive h = rw h

  pub meaning_timeout : s.kind ≡ 2 → meaning s ≡ timeout s.owner.0
  unfolding meaning
  meaning_timeout h = rw h

  pub meaning_none : 2 < s.kind → meaning s ≡ run 0
  unfolding meaning
  meaning_none h = get_or-eq_default (run s.owner.0 ∷ arrive s.owner.0 s.from.0 ∷ timeout s.owner.0 ∷ []) (run 0) h

-- a number that the step needs is none
pub data Unnumbered (s : Step) : Type 0 where
  no_kind : 2 < s.kind → Unnumbered s
  no_owner : is_number s.owner.0 ≡ false → Unnumbered s
  no_from : s.kind ≡ 1 → is_number s.from.0 ≡ false → Unnumbered s

module _ (s : Step) where
  none_unnumbered : 2 < s.kind → numbered (meaning s) ≡ false
  unfolding numbered is_number
  none_unnumbered h = rw (meaning_none s h)

  arrival_numbered : s.kind ≡ 1 → numbered (meaning s) ≡ (is_number s.owner.0 && is_number s.from.0)
  unfolding numbered
  arrival_numbered h = rw (meaning_arrive s h)

  owner_unnumbered : is_number s.owner.0 ≡ false → Dec (s.kind ≡ 0) → Dec (s.kind ≡ 1) → Dec (s.kind ≡ 2) → numbered (meaning s) ≡ false
  unfolding numbered
  owner_unnumbered h (yes k) d e = rw (meaning_run s k) h
  owner_unnumbered h (no j) (yes k) e = arrival_numbered k ∙ rw h
  owner_unnumbered h (no j) (no k) (yes e) = rw (meaning_timeout s e) h
  owner_unnumbered h (no j) (no k) (no e) = none_unnumbered (omega (arith, j, k, e))

  sender_unnumbered : (b : Bool) → is_number s.from.0 ≡ false → (b && is_number s.from.0) ≡ false
  sender_unnumbered true h = h
  sender_unnumbered false h = refl

  pub unnumbered : Unnumbered s → numbered (meaning s) ≡ false
  unnumbered (no_kind h) = none_unnumbered h
  unnumbered (no_owner h) = owner_unnumbered h (ℕ_discrete s.kind 0) (ℕ_discrete s.kind 1) (ℕ_discrete s.kind 2)
  unnumbered (no_from k h) = arrival_numbered k ∙ sender_unnumbered (is_number s.owner.0) h

module _ (n : Node) (s : Step) (sound : Sound n) (u : Unnumbered s) where
  pub step_20 : step n (meaning s) ≡ refused 20
  step_20 = step_rule n (meaning s) sound ∙ rule_20 n (meaning s) (unnumbered s u)

  pub play_20 : (l : List Action) → length l < 4096 → play n (meaning s ∷ l) ≡ record { accepted = 0; refusal = 20; node = n }
  unfolding play played
  play_20 l h = rw (sound, le-ltb 4096 (length (meaning s ∷ l)) (omega (arith, h)), step_20)
