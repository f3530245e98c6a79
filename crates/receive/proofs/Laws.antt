-- A clause's kind, one law for each answer of `fits`; a part of a list; the turns of a search: over the messages that are left, and for one message
-- over the clauses that are left; the count of what it consults, by the same turns; and its answer, by the first fit. Assumes nothing.
use mathlib.Core.Bool.{true, false}
use mathlib.Core.List.{List, [], ◌∷◌}
use mathlib.Core.Option.{Option, none, some}
use mathlib.Core.Path.{◌≡◌, refl, ◌∙◌, ap}
use Prim.Native.Nat.{ℕ, zero, suc, ◌+◌, ◌-◌, ◌<◌, ◌≤◌, min}
use native.Mathlib.Nat.{add-zero, mul-le-mul_right}
use native.Mathlib.Numerals.{add-one}
use native.Mathlib.Omega.{arith}
use borrow.Author.Tests.{ne_eqb}
use lib.Dec.{eqb}
use lib.ListN.{length, get_or, take, drop, length-drop, drop_of_length-le}
use lib.Seq.{drop-cons, take-length}
use Rattle.node.specs.declared.Message.{Message}
use Rattle.node.specs.declared.Op.{Op}
use Rattle.node.specs.Nodes.{no_op}
use Rattle.node.specs.Values.{exact_kind, any_kind, message_kind}
use Rattle.rules.specs.Consult.{one_can_take, tried, consulted}
use Rattle.rules.specs.Receive.{Fit, is_value, fits, first_clause, search, Searched, silent, unfit, fit, answered}
use Rattle.rules.proofs.Consult.{few_consulted}

-- ---- a clause's kind: one law for each answer of `fits`

module _ (c : Op) (m : Message) where
  pub fits_exact : c.small ≡ exact_kind → is_value c.value m ≡ fits c m
  unfolding fits
  fits_exact h = rw h

  pub fits_any : c.small ≡ any_kind → true ≡ fits c m
  unfolding fits
  fits_any h = rw h

  pub fits_kind : (c.small ≡ exact_kind → ⊥) → (c.small ≡ any_kind → ⊥) → eqb c.small (message_kind m) ≡ fits c m
  unfolding fits
  fits_kind h g = rw (ne_eqb c.small exact_kind h, ne_eqb c.small any_kind g)

-- ---- a part of a list

module _ {A : Type 0} where
  same_take : (n m : ℕ) (l : List A) → min n (length l) ≡ min m (length l) → take n l ≡ take m l
  same_take zero zero l e = refl
  same_take zero (suc m) [] e = refl
  same_take zero (suc m) (x ∷ l) e = absurd (omega (arith, e))
  same_take (suc n) zero [] e = refl
  same_take (suc n) zero (x ∷ l) e = absurd (omega (arith, e))
  same_take (suc n) (suc m) [] e = refl
  same_take (suc n) (suc m) (x ∷ l) e = ap (λ (t : List A). x ∷ t) (same_take n m l (omega (arith, e)))

  -- the first n elements are those that are there of them
  pub part_first : (xs : List A) (n : ℕ) {k : ℕ} → k ≡ min (length xs) n → take k xs ≡ take n (drop 0 xs)
  part_first xs n {k = k} e = same_take k n xs (omega (arith, e))

  -- the part from a to the end
  pub part_behind : (xs : List A) (a : ℕ) → take (length xs - a) (drop a xs) ≡ drop a xs
  part_behind xs a = same_take (length xs - a) (length (drop a xs)) (drop a xs) (let d = length-drop a xs in omega (arith, d)) ∙ take-length (drop a xs)

-- ---- the turns of a search for g, whose messages are ms and whose clauses are cs

module _ (ms : List Message) (cs : List Op) (i : ℕ) (d : Message) {g : Option Fit} where
  -- one message more
  pub message_turn : i < length ms → g ≡ search cs i (drop i ms) → g ≡ first_clause (drop 0 cs) i (get_or ms i d) (search cs (i + 1) (drop (i + 1) ms))
  message_turn h e = e ∙ rw (drop-cons ms i d h, add-one i)

  -- none is left
  pub message_end : length ms ≤ i → g ≡ search cs i (drop i ms) → g ≡ none
  message_end h e = e ∙ rw (drop_of_length-le ms {i = i} h)

module _ (cs : List Op) (i k : ℕ) (m : Message) (later : Option Fit) {g : Option Fit} where
  pub clause_hit : k < length cs → fits (get_or cs k no_op) m ≡ true → g ≡ first_clause (drop k cs) i m later → g ≡ some (record { index = i; message = m; clause = get_or cs k no_op })
  clause_hit h f e = e ∙ rw (drop-cons cs k no_op h, f)

  pub clause_miss : k < length cs → fits (get_or cs k no_op) m ≡ false → g ≡ first_clause (drop k cs) i m later → g ≡ first_clause (drop (k + 1) cs) i m later
  clause_miss h f e = e ∙ rw (drop-cons cs k no_op h, f, add-one k)

  pub clause_end : length cs ≤ k → g ≡ first_clause (drop k cs) i m later → g ≡ later
  clause_end h e = e ∙ rw (drop_of_length-le cs {i = k} h)

-- ---- the turns of a count g, of which n are counted

module _ (ms : List Message) (cs : List Op) (i : ℕ) (d : Message) (n : ℕ) {g : ℕ} where
  -- the clauses can take the kind of the message, or can't
  pub count_taken : i < length ms → one_can_take cs (message_kind (get_or ms i d)) ≡ true → g ≡ n + consulted cs (drop i ms)
      → g ≡ n + tried (drop 0 cs) (get_or ms i d) (consulted cs (drop (i + 1) ms))
  count_taken h t e = e ∙ rw (drop-cons ms i d h, t, add-one i)

  pub count_left_out : i < length ms → one_can_take cs (message_kind (get_or ms i d)) ≡ false → g ≡ n + consulted cs (drop i ms) → g ≡ n + consulted cs (drop (i + 1) ms)
  count_left_out h t e = e ∙ rw (drop-cons ms i d h, t, add-one i)

  pub count_over : length ms ≤ i → g ≡ n + consulted cs (drop i ms) → g ≡ n
  count_over h e = e ∙ rw (drop_of_length-le ms {i = i} h) (add-zero n)

module _ (cs : List Op) (k : ℕ) (m : Message) (later n : ℕ) {g : ℕ} where
  pub count_hit : k < length cs → fits (get_or cs k no_op) m ≡ true → g ≡ n + tried (drop k cs) m later → g ≡ n + 1
  count_hit h f e = e ∙ rw (drop-cons cs k no_op h, f)

  pub count_miss : k < length cs → fits (get_or cs k no_op) m ≡ false → g ≡ n + tried (drop k cs) m later → g ≡ n + 1 + tried (drop (k + 1) cs) m later
  count_miss h f e = e ∙ rw (drop-cons cs k no_op h, f, add-one k) (omega arith)

  pub count_end : length cs ≤ k → g ≡ n + tried (drop k cs) m later → g ≡ n + later
  count_end h e = e ∙ rw (drop_of_length-le cs {i = k} h)

-- what is counted is few
pub count_bound : (cs : List Op) (ms : List Message) → length cs ≤ 256 → length ms ≤ 256 → consulted cs ms ≤ 65536
count_bound cs ms h g =
    let few = (few_consulted cs).1 ms in
    let a = mul-le-mul_right (length cs) g in
    omega (arith, few, a, h)

-- ---- the answer of a search, by the first fit

-- k messages were looked at, and none fits
abbrev pub so_far : ℕ → Searched
so_far zero = silent
so_far (suc k) = unfit

module _ (ms : List Message) {f : Option Fit} where
  pub answered_fit : {x : Fit} → f ≡ some x → answered f ms ≡ fit x
  answered_fit e = rw e
