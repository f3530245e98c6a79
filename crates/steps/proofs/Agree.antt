-- The three plays answer alike on the same steps. Assumes nothing.
--   encoded_means    the numbers of step records stand for what the records mean
--   plays_agree      the answers of `play`, `play_steps` and `play_lent`, each known by its contract alone, are one
use mathlib.Core.List.{List, [], ◌∷◌, map}
use mathlib.Core.Path.{◌≡◌, refl, sym, ◌∙◌, ap}
use Prim.Native.Nat.{ℕ, ◌<◌}
use Rattle.std.specs.Prelude.{Option}
use Rattle.node.specs.declared.Refusal.{Refusal}
use Rattle.node.specs.declared.Node.{Node}
use Rattle.node.specs.declared.Step.{Step}
use Rattle.rules.specs.Steps.{meaning, Outcome, play}
use Rattle.actions.specs.Numbers.{encode, action_of}
use Rattle.actions.proofs.Decoding.{decode_encode}
use Rattle.engine.specs.Answers.{played_of}
use Rattle.engine.specs.declared.Played.{Played as Answer}
use Rattle.engine.proofs.Refusals.{refusal_of, told_back}

-- each field of each record is a byte, as in every slice that code can hold
pub data Bytes : List Step → Type 0 where
  none : Bytes []
  more : {s : Step} {l : List Step} → s.kind < 256 → s.owner.0 < 256 → s.from.0 < 256 → Bytes l → Bytes (s ∷ l)

pub encoded_means : (l : List Step) → Bytes l → map action_of (map encode l) ≡ map meaning l
unfolding action_of
encoded_means [] none = refl
encoded_means (s ∷ l) (more a b c h) = rw (decode_encode s a b c, encoded_means l h)

-- the answer that means r
abbrev answer_of : Outcome → Answer
answer_of r = record { accepted = r.accepted; refusal = refusal_of r.refusal; node = r.node }

answer_back : (a : Answer) → answer_of (played_of a) ≡ a
answer_back a = ap (λ (o : Option Refusal). record { accepted = a.accepted; refusal = o; node = a.node }) (told_back a.refusal)

-- answers that mean one play are one
one_answer : (a b : Answer) → played_of a ≡ played_of b → a ≡ b
one_answer a b e = sym (answer_back a) ∙ ap answer_of e ∙ answer_back b

-- a is what `play` answers on numbers, b what `play_steps` answers on records, c what `play_lent` answers on the numbers
pub plays_agree : (n : Node) (numbers : List ℕ) (steps : List Step) → map action_of numbers ≡ map meaning steps → (a b c : Answer)
    → played_of a ≡ play n (map action_of numbers) → played_of b ≡ play n (map meaning steps) → played_of c ≡ play n (map action_of numbers) → (a ≡ b) × (b ≡ c)
plays_agree n numbers steps same a b c x y z =
    let p : played_of a ≡ played_of b = x ∙ rw same (sym y) in
    let q : played_of b ≡ played_of c = y ∙ rw (← same) (sym z) in
    (one_answer a b p, one_answer b c q)
