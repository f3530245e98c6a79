-- Suggesting: the 288 possible steps in their turn, the first of a list that would be accepted, and the guarantees on both. Assumes nothing.
--   possible_count possible_at possible_all  the possible steps: how many they are; which one stands at k, `turn_step k`; a test of all of them
--   acceptable_goes acceptable_needs         a step that would be accepted is accepted; its node is sound, its numbers are 1 to 16
--   none_right                               where "none" is a right answer, every step is refused
--   suggests                                 the answer is one of those that document 01 alone asks for
--   in_turn_lem none_on_offer first_on_offer     the guarantees
--   meaning_record                           a step's record stands for it
use mathlib.Core.Bool.{Bool, true, false, So, cond, not, false≢true}
use mathlib.Core.List.{List, [], ◌∷◌, map}
use mathlib.Core.Logic.{inl, inr}
use mathlib.Core.Option.{Option, none, some}
use mathlib.Core.Path.{◌≡◌, refl, sym, ◌∙◌, ap, subst}
use Prim.Native.Nat.{ℕ, zero, suc, ◌+◌, ◌-◌, ◌*◌, ◌/◌, ◌%◌, ◌<◌}
use native.Mathlib.Decide.{ℕ_discrete}
use native.Mathlib.Nat.{not-suc-le-zero, le_of_suc-le-suc}
use native.Mathlib.Omega.{arith}
use borrow.Author.Tests.{not-true, eqb-true, eqb-false, ne_eqb}
use lib.Dec.{eqb}
use lib.ListN.{length, get_or}
use Rattle.node.proofs.Lists.{map_rising_at}
use Rattle.node.specs.declared.Node.{Node}
use Rattle.node.specs.Lists.{rising, all_of}
use Rattle.node.specs.Values.{is_number}
use Rattle.rules.specs.Answers.{Answer, refused, done, need, not_sound}
use Rattle.rules.specs.Guarantees.{among_own, Earlier, turn_of, InTurn, IsFirst, FirstOnOffer, NoneOnOffer}
use Rattle.rules.specs.Nodes.{Sound, sound}
use Rattle.rules.specs.Steps.{Action, run, arrive, timeout, owner, meaning, record_of, numbered, step}
use Rattle.rules.specs.Suggest.{possible, at_turn, is_done, acceptable, first_accepted, suggest, Suggests}
use Rattle.rules.proofs.Accepted.{need_done, step_goes}
use Rattle.rules.proofs.All.{both, parts, all_of_at}
use Rattle.rules.proofs.Commits.{number_of}
use Rattle.rules.proofs.Records.{number_bounds}

-- ---- the possible steps

pub possible_count : length possible ≡ 288
unfolding possible
possible_count = refl

-- 18 steps to an owner
unfoldable pub turn_step : ℕ → Action
turn_step k =
    let i = k / 18 + 1 in
    cond (eqb (k % 18) 0) (run i)
    (cond (eqb (k % 18) 1) (timeout i)
    (arrive i (k % 18 - 1)))

possible_made : map turn_step (rising 0 288) ≡ possible
unfolding possible turn_step
possible_made = refl

pub possible_at : (k : ℕ) → k < 288 → at_turn k ≡ turn_step k
possible_at k h =
    let e : 0 + k ≡ k = omega arith in
    ap (λ (l : List Action). get_or l k (run 0)) (sym possible_made) ∙ map_rising_at turn_step 0 288 k (run 0) h ∙ ap turn_step e

-- a is the possible step whose turn is k
record Stands (k : ℕ) (a : Action) : Type 0 where
  owner_is : owner a ≡ k / 18 + 1
  place_is : among_own a ≡ k % 18
  numbers : So (numbered a)

turn_stands : (k : ℕ) → k < 288 → Stands k (turn_step k)
unfolding turn_step numbered
turn_stands k h = go (eqb (k % 18) 0) refl (eqb (k % 18) 1) refl
  where
    own : So (is_number (k / 18 + 1))
    own = number_of (k / 18 + 1) (omega arith) (omega arith)

    go : (b : Bool) → eqb (k % 18) 0 ≡ b → (c : Bool) → eqb (k % 18) 1 ≡ c → Stands k (cond b (run (k / 18 + 1)) (cond c (timeout (k / 18 + 1)) (arrive (k / 18 + 1) (k % 18 - 1))))
    go true p c q = record { owner_is = refl; place_is = sym (eqb-true _ _ p); numbers = own }
    go false p true q = record { owner_is = refl; place_is = sym (eqb-true _ _ q); numbers = own }
    go false p false q =
        let x = eqb-false (k % 18) 0 p in
        let y = eqb-false (k % 18) 1 q in
        record { owner_is = refl; place_is = omega (arith, x, y); numbers = both own (number_of (k % 18 - 1) (omega (arith, x, y)) (omega arith)) }

at_stands : (k : ℕ) → k < 288 → Stands k (at_turn k)
at_stands k h = subst (Stands k) (sym (possible_at k h)) (turn_stands k h)

-- where the m-th of the steps of i stands, from 0 on
own_place : (i m : ℕ) → So (is_number i) → m < 18 → (18 * (i - 1) + m < 288) × ((18 * (i - 1) + m) / 18 + 1 ≡ i) × ((18 * (i - 1) + m) % 18 ≡ m)
own_place i m h g = let b = number_bounds i h in (omega arith, omega arith, omega arith)

own_turn : (a : Action) → So (numbered a) → (turn_of a < 288) × (turn_step (turn_of a) ≡ a)
unfolding turn_step numbered
own_turn (run i) h = let t = own_place i 0 h (omega arith) in (t.0, rw (t.1, t.2))
own_turn (timeout i) h = let t = own_place i 1 h (omega arith) in (t.0, rw (t.1, t.2))
own_turn (arrive i j) h =
    let g = parts (is_number i) (is_number j) h in
    let b = number_bounds j g.1 in
    let t = own_place i (1 + j) g.0 (omega arith) in
    (t.0, rw (t.1, t.2, ne_eqb (1 + j) 0 (λ q. omega arith), ne_eqb (1 + j) 1 (λ q. omega arith)) (ap (arrive i) (omega arith)))

own_found : (a : Action) → So (numbered a) → (turn_of a < 288) × (at_turn (turn_of a) ≡ a)
own_found a h = let t = own_turn a h in (t.0, possible_at (turn_of a) t.0 ∙ t.1)

own_stands : (a : Action) → So (numbered a) → Stands (turn_of a) a
own_stands a h = let t = own_found a h in subst (Stands (turn_of a)) t.1 (at_stands (turn_of a) t.0)

-- who stands first is the earlier, and the earlier stands first
module _ {j k : ℕ} {a b : Action} (s : Stands j a) (t : Stands k b) where
  stands_earlier : j < k → Earlier a b
  stands_earlier l = go (ℕ_discrete (j / 18) (k / 18))
    where
      go : Dec (j / 18 ≡ k / 18) → Earlier a b
      go (yes e) = inr (omega (arith, e, s.owner_is, t.owner_is), omega (arith, e, s.place_is, t.place_is))
      go (no e) = inl (omega (arith, e, s.owner_is, t.owner_is))

  earlier_stands : Earlier a b → j < k
  earlier_stands (inl e) = omega (arith, e, s.owner_is, t.owner_is)
  earlier_stands (inr e) = omega (arith, e.0, e.1, s.owner_is, t.owner_is, s.place_is, t.place_is)

pub in_turn_lem : InTurn
in_turn_lem = (
  possible_count,
  λ j k l h. stands_earlier (at_stands j (omega arith)) (at_stands k h) l,
  λ k h. let s = at_stands k h in (s.numbers, omega (arith, s.owner_is, s.place_is)),
  own_found,
)

-- a test of every possible step holds of each step whose numbers are 1 to 16
pub possible_all : (f : Action → Bool) → So (all_of f possible) → (a : Action) → So (numbered a) → So (f a)
possible_all f h a n = let t = own_found a n in subst (λ x. So (f x)) t.1 (all_of_at f (run 0) possible h (turn_of a) (rw possible_count t.0))

-- ---- what would be accepted

module _ (n : Node) (a : Action) where
  pub acceptable_goes : So (acceptable n a) → (m : Node) × (step n a ≡ done m)
  unfolding acceptable
  acceptable_goes h = go (step n a) refl h
    where
      go : (x : Answer Node) → step n a ≡ x → So (is_done x) → (m : Node) × (step n a ≡ done m)
      go (refused k) e g = absurd (false≢true g)
      go (done m) e g = (m, e)

  pub acceptable_needs : So (acceptable n a) → Sound n × So (numbered a)
  acceptable_needs h = let (m, e) = acceptable_goes h in let g = step_goes n a m e in (g.0, g.1.act.numbers)

  -- a step whose numbers are not 1 to 16 is refused anyway
  refused_if : (So (numbered a) → acceptable n a ≡ false) → acceptable n a ≡ false
  refused_if f = go (acceptable n a) refl
    where
      go : (b : Bool) → acceptable n a ≡ b → acceptable n a ≡ false
      go true e = f (acceptable_needs e).1
      go false e = e

pub none_right : (n : Node) → Suggests n (done none) → (a : Action) → acceptable n a ≡ false
none_right n h a = refused_if n a (λ g. not-true (acceptable n a) (possible_all (λ x. not (acceptable n x)) h.1 a g))

-- ---- the first of a list

module _ (n : Node) (d : Action) where
  -- what an answer says of a list: all are refused, or one would be accepted and those before it are refused
  abbrev First : List Action → Option Action → Type 0
  First l none = So (all_of (λ a. not (acceptable n a)) l)
  First l (some a) = (k : ℕ) × (k < length l) × (get_or l k d ≡ a) × So (acceptable n a) × ((j : ℕ) → j < k → acceptable n (get_or l j d) ≡ false)

  first_next : (a : Action) (l : List Action) (b : Bool) → acceptable n a ≡ b → (o : Option Action) → First l o → First (a ∷ l) (cond b (some a) o)
  first_next a l true e o h = (0, omega arith, refl, e, λ j g. absurd (not-suc-le-zero g))
  first_next a l false e none h = both {a = not (acceptable n a)} (rw e) h
  first_next a l false e (some x) (k, s, q, h, f) = (suc k, omega arith, q, h, before)
    where
      before : (j : ℕ) → j < suc k → acceptable n (get_or (a ∷ l) j d) ≡ false
      before zero b = e
      before (suc j) b = f j (le_of_suc-le-suc b)

  first_of : (l : List Action) → First l (first_accepted n l)
  first_of [] = refl
  first_of (a ∷ l) = first_next a l (acceptable n a) refl (first_accepted n l) (first_of l)

  first_some : (l : List Action) (a : Action) → First l (some a) → first_accepted n l ≡ some a
  first_some [] a (k, s, q, h, f) = absurd (not-suc-le-zero s)
  first_some (x ∷ l) a (zero, s, q, h, f) = rw (q, h)
  first_some (x ∷ l) a (suc k, s, q, h, f) = rw (f 0 (omega arith)) (first_some l a (k, le_of_suc-le-suc s, q, h, λ j b. f (suc j) (omega arith)))

first_none : (n : Node) (l : List Action) → ((a : Action) → acceptable n a ≡ false) → first_accepted n l ≡ none
first_none n [] f = refl
first_none n (a ∷ l) f = rw (f a) (first_none n l f)

-- ---- the answer

suggest_first : (n : Node) → Sound n → suggest n ≡ done (first_accepted n possible)
unfolding suggest
suggest_first n s = rw s

suggested : (n : Node) (o : Option Action) → suggest n ≡ done o → First n (run 0) possible o
unfolding suggest
suggested n o e =
    let q : first_accepted n possible ≡ o = cc (need_done (sound n) not_sound (done (first_accepted n possible)) e).1 in
    subst (First n (run 0) possible) q (first_of n (run 0) possible)

pub suggests : (n : Node) → Suggests n (suggest n)
unfolding suggest
suggests n = go (sound n) refl (first_accepted n possible) (first_of n (run 0) possible)
  where
    go : (b : Bool) → sound n ≡ b → (o : Option Action) → First n (run 0) possible o → Suggests n (need b not_sound (done o))
    go true e none h = (e, h)
    go true e (some a) h = h.3
    go false e o h = (refl, e)

pub none_on_offer : NoneOnOffer
none_on_offer n s = (λ e. none_right n (s, suggested n none e), λ f. suggest_first n s ∙ ap done (first_none n possible f))

pub first_on_offer : FirstOnOffer
first_on_offer n a = (to, from)
  where
    to : suggest n ≡ done (some a) → IsFirst n a
    to e =
        let (k, s, q, h, f) = suggested n (some a) e in
        let here = subst (Stands k) q (at_stands k (rw possible_count at s)) in
        (h, λ b l. refused_if n b (λ g. ap (acceptable n) (sym (own_found b g).1) ∙ f (turn_of b) (earlier_stands (own_stands b g) here l)))

    from : IsFirst n a → suggest n ≡ done (some a)
    from (h, f) =
        let (s, g) = acceptable_needs n a h in
        let (l, q) = own_found a g in
        let before : (j : ℕ) → j < turn_of a → acceptable n (at_turn j) ≡ false = λ j b. f (at_turn j) (stands_earlier (at_stands j (omega (arith, b, l))) (own_stands a g) b) in
        suggest_first n s ∙ ap done (first_some n (run 0) possible a (turn_of a, rw possible_count l, q, h, before))

-- ---- its record

pub meaning_record : (a : Action) → meaning (record_of a) ≡ a
unfolding meaning record_of
meaning_record (run i) = refl
meaning_record (arrive i j) = refl
meaning_record (timeout i) = refl
