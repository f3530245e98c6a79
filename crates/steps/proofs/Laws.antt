-- The laws that carry the walk and the loop. Assumes nothing.
--   some_told none_is_told                  a refusal is told a number above 0, and where there is none 0 is told
--   answer_refused answer_accepted          a step's answer, as code has it, makes of a play what the answer does
--   ahead r l                               what play r comes to where l is left to play
--   ahead_first ahead_more ahead_last       before the first step, one step further, and at the end
--   Walked ys g k r                         k of the steps ys are behind play r, which comes to g with the others
--   walked_first -more -refused -last       the same of a walk over the steps
--   made_more made_all                      records stored for numbers: one more, and all of them
use mathlib.Core.Bool.{Bool, true, false, cond, not}
use mathlib.Core.List.{List, [], ◌∷◌, map}
use mathlib.Core.Path.{◌≡◌, refl, sym, ◌∙◌, ap}
use Prim.Native.Nat.{ℕ, ◌+◌, ◌<◌, ◌≤◌}
use native.Mathlib.Numerals.{add-one}
use native.Mathlib.Omega.{arith}
use borrow.Author.Tests.{eqb-true, ne_eqb}
use lib.Dec.{eqb, ltb}
use lib.ListN.{length, get_or, take, drop, set, length-map, drop_of_length-le}
use lib.Seq.{take-suc, take-suc-set, drop-cons}
use Rattle.std.specs.Prelude.{Option, Some, None, is_some}
use Rattle.node.proofs.Lists.{map_append}
use Rattle.node.proofs.Refusals.{above_zero}
use Rattle.node.specs.Refusals.{refusal_told}
use Rattle.node.specs.declared.Refusal.{Refusal}
use Rattle.node.specs.declared.Node.{Node}
use Rattle.node.specs.declared.Step.{Step}
use Rattle.rules.specs.Answers.{Answer, refused, done, need}
use Rattle.rules.specs.Nodes.{sound}
use Rattle.rules.specs.Steps.{Action, Outcome, meaning, rule, step, plays_on, played, play}
use Rattle.rules.proofs.Refusals.{rule_told}
use Rattle.rules.proofs.Told.{Told, Ruled}
use Rattle.actions.specs.Numbers.{decode, action_of}
use Rattle.engine.specs.Answers.{Stepped, stepped_by}
use Rattle.engine.proofs.Laws.{behind}
use Rattle.steps.specs.Walk.{begins, with_answer, goes_on}

-- what a read past the slice would give; no read is
abbrev pub no_step : Step
no_step = record { kind = 0; owner = record { 0 = 0 }; from = record { 0 = 0 } }

-- a refusal has a number
abbrev pub Numbered : ℕ → Type 0
Numbered k = k ≡ 0 → ⊥

pub step_numbered : (n : Node) (a : Action) → Told Numbered (step n a)
unfolding step
step_numbered n a = go (sound n) (rule n a) (rule_told n a)
  where
    go : (b : Bool) (x : Answer Node) → Told Ruled x → Told Numbered (need b 31 x)
    go true (refused k) h = λ e. omega (arith, h.0, e)
    go true (done m) h = tt
    go false x h = λ e. omega (arith, e)

pub some_told : (o : Option Refusal) → is_some o ≡ true → Numbered (refusal_told o)
some_told None h = cc
some_told (Some r) h = above_zero r

pub none_is_told : (o : Option Refusal) → is_some o ≡ false → refusal_told o ≡ 0
none_is_told None h = refl
none_is_told (Some r) h = cc

-- the record of a step's answer is what the answer makes of a play
module _ (r : Outcome) (x : Answer Node) {s : Stepped} (its : s ≡ stepped_by r.node x) where
  pub answer_refused : (s.refusal ≡ 0 → ⊥) → record { accepted = r.accepted; refusal = s.refusal; node = s.node } ≡ with_answer r x
  answer_refused h = go x its
    where
      go : (x : Answer Node) → s ≡ stepped_by r.node x → record { accepted = r.accepted; refusal = s.refusal; node = s.node } ≡ with_answer r x
      go (refused k) e = rw e
      go (done m) e = absurd (h (ap (λ (t : Stepped). t.refusal) e))

  pub answer_accepted : Told Numbered x → s.refusal ≡ 0 → record { accepted = r.accepted + 1; refusal = 0; node = s.node } ≡ with_answer r x
  answer_accepted t h = go x its t
    where
      go : (x : Answer Node) → s ≡ stepped_by r.node x → Told Numbered x → record { accepted = r.accepted + 1; refusal = 0; node = s.node } ≡ with_answer r x
      go (refused k) e t = absurd (t (sym (ap (λ (t : Stepped). t.refusal) e) ∙ h))
      go (done m) e t = rw e

-- ---- a play, and what is left of its steps

unfoldable pub ahead : Outcome → List Action → Outcome
ahead r l = cond (eqb r.refusal 0) (behind r.accepted (played r.node l)) r

pub ahead_last : (r : Outcome) → ahead r [] ≡ r
unfolding ahead played
ahead_last r = go (eqb r.refusal 0) refl
  where
    go : (b : Bool) → eqb r.refusal 0 ≡ b → cond b (record { accepted = r.accepted + 0; refusal = 0; node = r.node }) r ≡ r
    go true h =
        let e : r.accepted + 0 ≡ r.accepted = omega arith in
        let f : 0 ≡ r.refusal = sym (eqb-true r.refusal 0 h) in
        λ i. record { accepted = e i; refusal = f i; node = r.node }
    go false h = refl

-- a play that is refused stays, whatever is left
ahead_refused : (r : Outcome) (l : List Action) → eqb r.refusal 0 ≡ false → ahead r l ≡ r
unfolding ahead
ahead_refused r l h = rw h

pub ahead_first : (n : Node) (l : List Action) → ahead (begins n (length l)) l ≡ play n l
unfolding ahead begins play
ahead_first n l = go (sound n) (ltb 4096 (length l))
  where
    first : (k : ℕ) → Outcome
    first k = record { accepted = 0; refusal = k; node = n }

    go : (s b : Bool) → cond (eqb (cond (not s) 31 (cond b 32 0)) 0) (behind 0 (played n l)) (first (cond (not s) 31 (cond b 32 0))) ≡ cond (not s) (first 31) (cond b (first 32) (played n l))
    go true true = refl
    go true false = let p = played n l in let e : 0 + p.accepted ≡ p.accepted = omega arith in λ i. record { accepted = e i; refusal = p.refusal; node = p.node }
    go false b = refl

-- a step that is answered by x, and the others behind it
answered : (r : Outcome) (l : List Action) (x : Answer Node) → Told Numbered x → behind r.accepted (plays_on r.node x (λ m. played m l)) ≡ ahead (with_answer r x) l
unfolding ahead
answered r l (refused k) h = let e : r.accepted + 0 ≡ r.accepted = omega arith in rw (ne_eqb k 0 h) (λ i. record { accepted = e i; refusal = k; node = r.node })
answered r l (done m) h =
    let p = played m l in
    let e : r.accepted + (p.accepted + 1) ≡ r.accepted + 1 + p.accepted = omega arith in
    λ i. record { accepted = e i; refusal = p.refusal; node = p.node }

pub ahead_more : (r : Outcome) (a : Action) (l : List Action) → ahead r (a ∷ l) ≡ ahead (goes_on r a) l
unfolding ahead played goes_on
ahead_more r a l = go (eqb r.refusal 0) refl
  where
    go : (b : Bool) → eqb r.refusal 0 ≡ b → ahead r (a ∷ l) ≡ ahead (goes_on r a) l
    go true h = rw h (answered r l (step r.node a) (step_numbered r.node a))
    go false h = rw (h, h)

-- a step more is counted, or none
goes_on_counts : (r : Outcome) (a : Action) → (goes_on r a).accepted ≤ r.accepted + 1
unfolding goes_on
goes_on_counts r a = go (eqb r.refusal 0) (step r.node a)
  where
    go : (b : Bool) (x : Answer Node) → (cond b (with_answer r x) r).accepted ≤ r.accepted + 1
    go true (refused k) = omega arith
    go true (done m) = omega arith
    go false x = omega arith

-- ---- a walk over the steps: k of the steps ys are behind play r, which comes to g with the others

abbrev pub Walked : List Step → Outcome → ℕ → Outcome → Type 0
Walked ys g k r = ahead r (map meaning (drop k ys)) ≡ g

pub walked_first : (n : Node) (ys : List Step) → Walked ys (play n (map meaning ys)) 0 (begins n (length ys))
walked_first n ys = let w : length (map meaning ys) ≡ length ys = length-map ys meaning in rw w at (ahead_first n (map meaning ys))

module _ (ys : List Step) {g : Outcome} where
  pub walked_more : (k : ℕ) (p r : Outcome) → k < length ys → r ≡ goes_on p (meaning (get_or ys k no_step)) → Walked ys g k p → (r.accepted ≤ p.accepted + 1) × Walked ys g (k + 1) r
  walked_more k p r inside e v =
      let w : drop k ys ≡ get_or ys k no_step ∷ drop (k + 1) ys = drop-cons ys k no_step inside ∙ rw add-one in
      let more : Walked ys g (k + 1) (goes_on p (meaning (get_or ys k no_step))) =
      sym (ahead_more p (meaning (get_or ys k no_step)) (map meaning (drop (k + 1) ys))) ∙ (rw w at v) in
      (rw e (goes_on_counts p (meaning (get_or ys k no_step))), rw e more)

  -- a play that is refused is the whole play
  pub walked_refused : (k : ℕ) (r : Outcome) → (r.refusal ≡ 0 → ⊥) → Walked ys g k r → r ≡ g
  walked_refused k r h v = sym (ahead_refused r (map meaning (drop k ys)) (ne_eqb r.refusal 0 h)) ∙ v

  pub walked_last : (k : ℕ) (r : Outcome) → length ys ≤ k → Walked ys g k r → r ≡ g
  walked_last k r all v = sym (ahead_last r) ∙ (rw (drop_of_length-le ys {i = k} all) at v)

-- ---- records made of numbers

meant : (l : List ℕ) → map meaning (map decode l) ≡ map action_of l
unfolding action_of
meant [] = refl
meant (x ∷ l) = rw (meant l)

-- the first k records are the steps that the first k numbers stand for
abbrev pub Made : List ℕ → List Step → ℕ → Type 0
Made xs ys k = take k ys ≡ map decode (take k xs)

pub made_more : (xs : List ℕ) (ys : List Step) (k : ℕ) (y : Step) → k < length xs → k < length ys → y ≡ decode (get_or xs k 0) → Made xs ys k → Made xs (set ys k y) (k + 1)
made_more xs ys k y h g d v =
    rw (add-one, take-suc-set ys k y g, take-suc xs k 0 h, map_append decode (take k xs) (get_or xs k 0 ∷ []), v, d)

pub made_all : {r : Outcome} (n : Node) (xs : List ℕ) (ys : List Step) → take (length xs) ys ≡ map decode xs → r ≡ play n (map meaning (take (length xs) ys)) → r ≡ play n (map action_of xs)
made_all n xs ys v s = s ∙ rw (v, meant xs)
