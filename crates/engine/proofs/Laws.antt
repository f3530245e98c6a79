-- The laws that carry the play loop. Assumes nothing.
use mathlib.Core.Bool.{Bool, true, false, cond}
use mathlib.Core.List.{List, ◌∷◌, map}
use mathlib.Core.Path.{◌≡◌, refl, sym, ◌∙◌, ap}
use Prim.Native.Nat.{ℕ, ◌+◌, ◌≤◌, ◌<◌}
use native.Mathlib.Numerals.{add-one}
use native.Mathlib.Omega.{arith}
use lib.ListN.{length, get_or, drop, length-map, drop_of_length-le}
use lib.Seq.{drop-cons}
use Rattle.node.specs.declared.Node.{Node}
use Rattle.node.specs.declared.Cell.{Cell}
use Rattle.node.specs.declared.Slot.{Slot}
use Rattle.rules.specs.Answers.{Answer, refused, done}
use Rattle.rules.specs.Nodes.{Sound}
use Rattle.rules.specs.Steps.{Action, Outcome, step, rule, played}
use Rattle.rules.specs.Suggest.{is_done, acceptable}
use Rattle.rules.proofs.Accepted.{step_rule}
use Rattle.rules.proofs.All.{map_at}
use Rattle.rules.proofs.Commits.{step_sound}
use Rattle.actions.specs.Numbers.{action_of}
use Rattle.engine.specs.Answers.{first_of}

-- ---- the loop

-- i steps were accepted before what r says
abbrev pub behind : ℕ → Outcome → Outcome
behind i r = record { accepted = i + r.accepted; refusal = r.refusal; node = r.node }

-- what is left gives the goal
abbrev pub Left : Outcome → List ℕ → ℕ → Node → Type 0
Left g l i n = g ≡ behind i (played n (drop i (map action_of l)))

module _ (l : List ℕ) (i : ℕ) (n : Node) where
  next : i < length l → drop i (map action_of l) ≡ action_of (get_or l i 0) ∷ drop (i + 1) (map action_of l)
  next h =
      let k : i < length (map action_of l) = rw (length-map l action_of) h in
      drop-cons (map action_of l) i (action_of 0) k ∙ rw (map_at action_of l i 0 (action_of 0) h, add-one)

  pub stop : {g : Outcome} → (k : ℕ) → i < length l → Sound n → Left g l i n → rule n (action_of (get_or l i 0)) ≡ refused k → record { accepted = i; refusal = k; node = n } ≡ g
  unfolding played
  stop k h s v r =
      let q : step n (action_of (get_or l i 0)) ≡ refused k = step_rule n (action_of (get_or l i 0)) s ∙ r in
      let z : i ≡ i + 0 = omega arith in
      ap (λ (x : ℕ). record { accepted = x; refusal = k; node = n }) z ∙ sym (v ∙ rw (next h, q))

  pub more : {g : Outcome} → (m : Node) → i < length l → Sound n → Left g l i n → rule n (action_of (get_or l i 0)) ≡ done m
      → (i + 1 ≤ length l) × Sound m × Left g l (i + 1) m
  unfolding played
  more m h s v r =
      let q : step n (action_of (get_or l i 0)) ≡ done m = step_rule n (action_of (get_or l i 0)) s ∙ r in
      let p = played m (drop (i + 1) (map action_of l)) in
      let z : i + (p.accepted + 1) ≡ i + 1 + p.accepted = omega arith in
      (omega (arith, h), step_sound n m (action_of (get_or l i 0)) q, v ∙ rw (next h, q) (ap (λ (x : ℕ). record { accepted = x; refusal = p.refusal; node = p.node }) z))

  pub over : {g : Outcome} → length l ≤ i → Left g l i n → record { accepted = i; refusal = 0; node = n } ≡ g
  unfolding played
  over h v =
      let z : i ≡ i + 0 = omega arith in
      ap (λ (x : ℕ). record { accepted = x; refusal = 0; node = n }) z ∙ sym (v ∙ rw (drop_of_length-le (map action_of l) {i = i} (rw (length-map l action_of) h)))

-- before the first step
pub start : (l : List ℕ) (n : Node) → Left (played n (map action_of l)) l 0 n
start l n =
    let r = played n (map action_of l) in
    let z : r.accepted ≡ 0 + r.accepted = omega arith in
    ap (λ (x : ℕ). record { accepted = x; refusal = r.refusal; node = r.node }) z

-- ---- what the loop has done: i steps were played from n, or looked at, and the node is m

abbrev pub Going : Bool → Node → List ℕ → ℕ → Node → Type 0
Going false n l i m = Left (played n (map action_of l)) l i m
Going true n l i m = (m ≡ n) × (first_of n (map action_of l) ≡ i + first_of n (drop i (map action_of l)))

abbrev Looked : Node → List ℕ → ℕ → Node → Type 0
Looked n l i m = (m ≡ n) × (first_of n (map action_of l) ≡ i + first_of n (drop i (map action_of l)))

module _ (n : Node) (l : List ℕ) (i : ℕ) (m : Node) (sound : Sound m) (v : Looked n l i m) where
  abbrev a : Action
  a = action_of (get_or l i 0)

  -- whether the step is acceptable is what the rule says
  acceptable_is : (x : Answer Node) → rule m a ≡ x → acceptable n a ≡ is_done x
  unfolding acceptable
  acceptable_is x r = rw (← v.0) (ap is_done (step_rule m a sound ∙ r))

  first_is : i < length l → first_of n (drop i (map action_of l)) ≡ cond (acceptable n a) 0 (first_of n (drop (i + 1) (map action_of l)) + 1)
  first_is h = ap (first_of n) (next l i m h)

  pub look_more : (k : ℕ) → i < length l → rule m a ≡ refused k → Looked n l (i + 1) m
  look_more k h r =
      let f = first_of n (drop (i + 1) (map action_of l)) in
      let e : first_of n (drop i (map action_of l)) ≡ f + 1 = first_is h ∙ rw (acceptable_is (refused k) r) in
      (v.0, v.1 ∙ ap (λ (x : ℕ). i + x) e ∙ omega arith)

  pub look_stop : (k : Node) → i < length l → rule m a ≡ done k → i ≡ first_of n (map action_of l)
  look_stop k h r =
      let e : first_of n (drop i (map action_of l)) ≡ 0 = first_is h ∙ rw (acceptable_is (done k) r) in
      sym (v.1 ∙ ap (λ (x : ℕ). i + x) e ∙ omega arith)

  pub look_over : length l ≤ i → i ≡ first_of n (map action_of l)
  look_over h =
      let e : first_of n (drop i (map action_of l)) ≡ 0 = rw (drop_of_length-le (map action_of l) {i = i} (rw (length-map l action_of) h)) in
      sym (v.1 ∙ ap (λ (x : ℕ). i + x) e ∙ omega arith)

-- before the first step
pub going : (b : Bool) (n : Node) (l : List ℕ) → Going b n l 0 n
going false n l = start l n
going true n l = (refl, omega arith)

-- ---- a node in the middle of a turn

abbrev pub with_cells : Node → List Cell → Node
with_cells n c = record { count = n.count; lens = n.lens; ops = n.ops; processes = n.processes; waiting = n.waiting; slots = n.slots; counts = n.counts; cells = c }

abbrev pub with_slots : Node → List Slot → Node
with_slots n s = record { count = n.count; lens = n.lens; ops = n.ops; processes = n.processes; waiting = n.waiting; slots = s; counts = n.counts; cells = n.cells }
