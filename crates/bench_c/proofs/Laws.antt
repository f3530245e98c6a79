-- What the loops over the rounds keep. Assumes nothing.
--   of_texts                                   what is made of a node and steps, made of what was loaded and read
--   Turn rounds before x i y                   i of the rounds are done, and the answer is y
--   turn_first turn_next turn_last             it holds at first, is kept by a round that answers x, and gives the answer at the end
--   Said rounds b i s                          i of the rounds are done, and s of them said b
--   said_first said_more said_same said_last   it holds at first, is kept by each round, and gives the answer at the end
--   says_none_lem                                  a suggestion says that there is no step, whatever stands for a step in it
use mathlib.Core.Bool.{Bool, true, false, cond}
use mathlib.Core.List.{List}
use mathlib.Core.Option.{Option, none, some}
use mathlib.Core.Path.{◌≡◌, refl, ◌∙◌, ap}
use Prim.Native.Nat.{ℕ, ◌+◌, ◌≤◌, ◌<◌}
use native.Mathlib.Omega.{arith}
use borrow.Author.Tests.{ne_eqb}
use Rattle.controller.specs.Program.{steps}
use Rattle.engine.specs.Answers.{recorded}
use Rattle.node.specs.declared.Node.{Node}
use Rattle.plan.specs.Plans.{Loaded, load_of}
use Rattle.rules.specs.Answers.{Answer, refused, done}
use Rattle.rules.specs.Steps.{Action}
use Rattle.schedule.specs.Reading.{Schedule, schedule_of}
use Rattle.bench_c.specs.Rounds.{after, says_none}

pub of_texts : {A : Type 0} (f : Node → List Action → A) (p q : List ℕ) {l : Loaded} {s : Schedule} → l ≡ load_of p → s ≡ schedule_of q → f l.node (steps s)
    ≡ f (load_of p).node (steps (schedule_of q))
of_texts f p q loaded read = rw (loaded, read)

-- ---- the last answer

pub record Turn {A : Type 0} (rounds : ℕ) (before x : A) (i : ℕ) (y : A) : Type 0 where
  pub within : i ≤ rounds
  pub last : y ≡ after i before x

module _ {A : Type 0} {rounds : ℕ} {before x : A} where
  pub turn_first : Turn rounds before x 0 before
  unfolding after
  turn_first = record { within = omega arith; last = refl }

  module _ {i : ℕ} {y : A} (t : Turn rounds before x i y) where
    pub turn_next : {z : A} → i < rounds → z ≡ x → Turn rounds before x (i + 1) z
    unfolding after
    turn_next h e = record { within = omega (arith, h); last = rw (ne_eqb (i + 1) 0 (λ z. omega (arith, z))) e }

    pub turn_last : rounds ≤ i → y ≡ after rounds before x
    turn_last h =
        let all : i ≡ rounds = omega (arith, h, t.within) in
        t.last ∙ ap (λ (k : ℕ). after k before x) all

-- ---- how often a test held; b is whether it does

pub record Said (rounds : ℕ) (b : Bool) (i s : ℕ) : Type 0 where
  pub within : i ≤ rounds
  pub fewer : s ≤ i
  pub said : s ≡ cond b i 0

module _ {rounds : ℕ} {b : Bool} where
  pub said_first : Said rounds b 0 0
  said_first = record { within = omega arith; fewer = omega arith; said = zero b }
    where
      zero : (b : Bool) → let z : ℕ = 0 in z ≡ cond b 0 0
      zero true = refl
      zero false = refl

  module _ {i s : ℕ} (t : Said rounds b i s) {c : Bool} (is : c ≡ b) where
    pub said_more : i < rounds → c ≡ true → Said rounds b (i + 1) (s + 1)
    said_more h e =
        let z : s ≡ i = rw (← is, e) at t.said in
        record { within = omega (arith, h); fewer = omega (arith, t.fewer); said = rw (← is, e) (omega (arith, z)) }

    pub said_same : i < rounds → c ≡ false → Said rounds b (i + 1) s
    said_same h e =
        let z : s ≡ 0 = rw (← is, e) at t.said in
        record { within = omega (arith, h); fewer = omega (arith, t.fewer); said = rw (← is, e) z }

  pub said_last : {i s : ℕ} → Said rounds b i s → rounds ≤ i → s ≡ cond b rounds 0
  said_last {i} {s} t h =
      let all : i ≡ rounds = omega (arith, h, t.within) in
      t.said ∙ ap (λ (k : ℕ). cond b k 0) all

-- ---- what a suggestion says

pub says_none_lem : (x : Answer (Option Action)) → says_none (recorded x) ≡ says_none x
says_none_lem (refused k) = refl
says_none_lem (done none) = refl
says_none_lem (done (some a)) = refl
