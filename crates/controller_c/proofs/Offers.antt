-- What is told of a suggestion on two texts, and what that number says. Assumes nothing.
--   offer_refused offer_reached   what is told: one of the texts is refused, and none is
--   offer_made   of accepted texts 0 is told where no step would be accepted, else the number of the first step that would be, which is neither 0 nor
--                the largest: a caller can tell the three apart
use mathlib.Core.Bool.{So, false, false≢true}
use mathlib.Core.List.{List}
use mathlib.Core.Logic.{◌⊎◌, inl, inr}
use mathlib.Core.Option.{Option, none, some}
use mathlib.Core.Path.{◌≡◌, refl, sym, ap, subst, ◌∙◌}
use Prim.Native.Nat.{ℕ, ◌<◌}
use native.Mathlib.Omega.{arith}
use borrow.Author.Tests.{eq-eqb}
use Rattle.actions.specs.Numbers.{encode}
use Rattle.controller.specs.Program.{steps}
use Rattle.engine.specs.Answers.{recorded}
use Rattle.node.specs.declared.Node.{Node}
use Rattle.node.specs.declared.Step.{Step}
use Rattle.node.specs.Values.{is_number}
use Rattle.plan.specs.Plans.{Loaded, load_of}
use Rattle.plan.proofs.Sound.{loaded_sound}
use Rattle.rules.specs.Answers.{Answer, refused, done}
use Rattle.rules.specs.Guarantees.{IsFirst}
use Rattle.rules.specs.Nodes.{Sound}
use Rattle.rules.specs.Steps.{Action, run, arrive, timeout, record_of, numbered, play}
use Rattle.rules.specs.Suggest.{acceptable, suggest, Suggests}
use Rattle.rules.proofs.All.{parts}
use Rattle.rules.proofs.Commits.{play_sound}
use Rattle.rules.proofs.Records.{number_bounds}
use Rattle.rules.proofs.Suggest.{acceptable_needs, suggests, none_on_offer, first_on_offer}
use Rattle.schedule.specs.Reading.{Schedule, schedule_of}
use Rattle.text.specs.Writing.{top}
use Rattle.controller_c.specs.Exported.{reached_by, exported_offer, offered}
use Rattle.controller_c.proofs.Reaches.{reached_refused, reached_told}

module _ (x : Loaded) (s : Schedule) where
  pub offer_refused : none ≡ reached_by x s → top ≡ offered x s
  unfolding offered
  offer_refused h = reached_refused (λ m. exported_offer (recorded (suggest m))) h

  pub offer_reached : {n : Node} → some n ≡ reached_by x s → {a : Answer (Option Step)} {k : ℕ} → a ≡ recorded (suggest n) → k ≡ exported_offer a → k ≡ offered x s
  unfolding offered
  offer_reached h e f = reached_told (λ m. exported_offer (recorded (suggest m))) h (f ∙ ap exported_offer e)

-- ---- what the number says

-- the number of a step is neither 0 nor the largest
number_apart : (a : Action) → So (numbered a) → (0 < encode (record_of a)) × (encode (record_of a) < top)
unfolding numbered encode record_of
number_apart (run i) h = let b = number_bounds i h in (omega (arith, b), omega (arith, b))
number_apart (timeout i) h = let b = number_bounds i h in (omega (arith, b), omega (arith, b))
number_apart (arrive i j) h =
    let p = parts (is_number i) (is_number j) h in
    let b = number_bounds i p.0 in
    let c = number_bounds j p.1 in
    (omega (arith, b, c), omega (arith, b, c))

module _ (n : Node) where
  -- k says what would be accepted on n first
  abbrev Says : ℕ → Type 0
  Says k = ((k ≡ 0) × ((a : Action) → acceptable n a ≡ false)) ⊎ ((a : Action) × (k ≡ encode (record_of a)) × (0 < k) × (k < top) × IsFirst n a)

  says : Sound n → Says (exported_offer (recorded (suggest n)))
  says s = go (suggest n) refl
    where
      go : (x : Answer (Option Action)) → suggest n ≡ x → Says (exported_offer (recorded x))
      go (refused k) e = let t = subst (Suggests n) e (suggests n) in absurd (false≢true (sym t.1 ∙ s))
      go (done none) e = inl (refl, (none_on_offer n s).0 e)
      go (done (some a)) e =
          let first = (first_on_offer n a).0 e in
          let apart = number_apart a (acceptable_needs n a first.0).1 in
          inr (a, refl, apart.0, apart.1, first)

pub offer_made : (p q : List ℕ) → (load_of p).number ≡ 0 → (schedule_of q).number ≡ 0 → Says (play (load_of p).node (steps (schedule_of q))).node (offered (load_of p) (schedule_of q))
unfolding offered reached_by
offer_made p q h g = rw (eq-eqb (load_of p).number 0 h, eq-eqb (schedule_of q).number 0 g) (says _ (play_sound (load_of p).node (steps (schedule_of q)) (loaded_sound p)))
