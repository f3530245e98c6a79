-- The behaviours of the started node are the codes of the plan. Assumes nothing.
--   behaviours_of_lem   the behaviours of a plan that keeps its limits
use mathlib.Core.Bool.{◌&&◌}
use mathlib.Core.List.{List, [], ◌∷◌, ◌++◌, map}
use mathlib.Core.Path.{◌≡◌, refl, sym, ap, ◌∙◌}
use Prim.Native.Nat.{ℕ, zero, suc, ◌+◌, ◌-◌, ◌*◌, ◌≤◌, ◌<◌}
use native.Mathlib.Omega.{arith}
use borrow.Author.Tests.{leb-true}
use lib.Dec.{leb}
use lib.ListN.{length, get_or, take, drop, set, length-append, length-set, length-map, length-drop}
use lib.Seq.{sets, sets-eq, length-sets, length-take-le, drop-append-le, drop_at, take_at, take-set-le, drop-set-add, get_or-set_same, get_or-set_other, ext_get_or}
use Rattle.node.specs.declared.Node.{Node}
use Rattle.node.specs.declared.Op.{Op}
use Rattle.node.specs.Lists.{all_of, rising}
use Rattle.node.specs.Nodes.{no_op}
use Rattle.node.proofs.Lists.{firsts_take, map_rising_at, map_rising_length}
use Rattle.rules.specs.Behaviours.{Instruction, in_range, instruction}
use Rattle.rules.specs.Nodes.{code, behaviours_of}
use Rattle.rules.proofs.All.{parts, all_of_at, map_at}
use Rattle.plan_line.specs.Lines.{Start}
use Rattle.plan.specs.Plans.{Plan, empty_node, with_code, with_start, with_each, node_of}
use Rattle.plan.proofs.Kept.{code_kept, PlanKept}
use Rattle.plan.proofs.Nodes.{codes_count}

-- ---- ops behind a place stay

sets_behind : (m a : ℕ) (l : List Op) (i : ℕ) (xs : List Op) → a + m ≤ i → take m (drop a (sets l i xs)) ≡ take m (drop a l)
sets_behind m a l i [] h = refl
sets_behind m a l i (x ∷ xs) h =
    let e : a + (i - a) ≡ i = omega arith in
    sets_behind m a (set l i x) (suc i) xs (omega arith)
    ∙ ap (λ (k : ℕ). take m (drop a (set l k x))) (sym e)
    ∙ ap (take m) (drop-set-add a l (i - a) x)
    ∙ take-set-le m (drop a l) (i - a) x (omega arith)

codes_behind : (n : Node) (codes : List (List Op)) (m a : ℕ) → a + m ≤ n.count * 32 → take m (drop a (with_each with_code n codes).ops) ≡ take m (drop a n.ops)
codes_behind n [] m a h = refl
codes_behind n (c ∷ codes) m a h = codes_behind (with_code n c) codes m a (omega arith) ∙ sets_behind m a n.ops (n.count * 32) c h

-- the ops that are put at a place
sets_there : (l : List Op) (i : ℕ) (xs : List Op) → i + length xs ≤ length l → take (length xs) (drop i (sets l i xs)) ≡ xs
sets_there l i xs h =
    let rest = drop (i + length xs) l in
    let size = length-take-le i l (omega arith) in
    ap (λ (r : List Op). take (length xs) (drop i r)) (sets-eq xs l i h)
    ∙ ap (take (length xs)) (drop-append-le i (take i l ++ xs) rest (omega (arith, size, length-append (take i l) xs)))
    ∙ ap (λ (r : List Op). take (length xs) (r ++ rest)) (drop_at (take i l) xs i size)
    ∙ take_at xs rest (length xs) refl

codes_length : (n : Node) (codes : List (List Op)) → length (with_each with_code n codes).ops ≡ length n.ops
codes_length n [] = refl
codes_length n (c ∷ codes) = codes_length (with_code n c) codes ∙ length-sets n.ops (n.count * 32) c

-- ---- code j of those that are put behind the others
codes_there : (n : Node) (codes : List (List Op)) (j : ℕ) → j < length codes → ((i : ℕ) → i < length codes → length (get_or codes i []) ≤ 32) → n.count * 32 + length codes * 32 ≤ length n.ops
    → take (length (get_or codes j [])) (drop (32 * (n.count + j)) (with_each with_code n codes).ops) ≡ get_or codes j []
codes_there n [] j h g s = absurd (omega arith)
codes_there n (c ∷ codes) zero h g s =
    let few = g 0 h in
    let e : 32 * (n.count + 0) ≡ n.count * 32 = omega arith in
    ap (λ (a : ℕ). take (length c) (drop a (with_each with_code (with_code n c) codes).ops)) e
    ∙ codes_behind (with_code n c) codes (length c) (n.count * 32) (omega arith)
    ∙ sets_there n.ops (n.count * 32) c (omega arith)
codes_there n (c ∷ codes) (suc j) h g s =
    let e : 32 * (n.count + suc j) ≡ 32 * (n.count + 1 + j) = omega arith in
    ap (λ (a : ℕ). take (length (get_or codes j [])) (drop a (with_each with_code (with_code n c) codes).ops)) e
    ∙ codes_there (with_code n c) codes j (omega arith) (λ i l. g (suc i) (omega arith)) (omega (arith, length-sets n.ops (n.count * 32) c))

-- ---- the lengths
lens_behind : (n : Node) (codes : List (List Op)) (k : ℕ) → k < n.count → get_or (with_each with_code n codes).lens k 0 ≡ get_or n.lens k 0
lens_behind n [] k h = refl
lens_behind n (c ∷ codes) k h = lens_behind (with_code n c) codes k (omega arith) ∙ get_or-set_other n.lens n.count k (length c) 0 (λ e. omega (arith, e))

lens_there : (n : Node) (codes : List (List Op)) (j : ℕ) → j < length codes → n.count + length codes ≤ length n.lens → get_or (with_each with_code n codes).lens (n.count + j) 0
    ≡ length (get_or codes j [])
lens_there n [] j h s = absurd (omega arith)
lens_there n (c ∷ codes) zero h s =
    let e : n.count + 0 ≡ n.count = omega arith in
    ap (λ (k : ℕ). get_or (with_each with_code (with_code n c) codes).lens k 0) e
    ∙ lens_behind (with_code n c) codes n.count (omega arith)
    ∙ get_or-set_same n.lens n.count (length c) 0 (omega arith)
lens_there n (c ∷ codes) (suc j) h s =
    let e : n.count + suc j ≡ n.count + 1 + j = omega arith in
    ap (λ (k : ℕ). get_or (with_each with_code (with_code n c) codes).lens k 0) e
    ∙ lens_there (with_code n c) codes j (omega arith) (omega (arith, length-set n.lens n.count (length c)))

-- ---- the behaviours

module _ (codes : List (List Op)) (few : length codes ≤ 8) (short : (i : ℕ) → i < length codes → length (get_or codes i []) ≤ 32) where
  coded : Node
  coded = with_each with_code empty_node codes

  code_there : (j : ℕ) → j < length codes → code coded (1 + j) ≡ get_or codes j []
  unfolding code coded
  code_there j h =
      let e : 1 + j - 1 ≡ j = omega arith in
      let z : 0 + j ≡ j = omega arith in
      let at = codes_there empty_node codes j h short (omega arith) in
      let len = lens_there empty_node codes j h (omega arith) in
      let room : length (get_or codes j []) ≤ length (drop (32 * j) coded.ops) =
      omega (arith, short j h, length-drop (32 * j) coded.ops, codes_length empty_node codes) in
      rw (e, rw z at len, firsts_take no_op (length (get_or codes j [])) (drop (32 * j) coded.ops) room) (rw z at at)

  pub coded_behaviours : behaviours_of (with_each with_code empty_node codes) ≡ map (map instruction) codes
  unfolding behaviours_of coded
  coded_behaviours =
      let g : ℕ → List Instruction = λ b. map instruction (code coded b) in
      let zero-count : 0 + length codes ≡ length codes = omega arith in
      let count : coded.count ≡ length codes = codes_count empty_node codes ∙ zero-count in
      let size = map_rising_length g 1 coded.count in
      ext_get_or [] (map g (rising 1 coded.count)) (map (map instruction) codes) (size ∙ count ∙ sym (length-map codes (map instruction)))
      (λ i h.
      let l : i < length codes = omega (arith, size, count) in
      map_rising_at g 1 coded.count i [] (omega (arith, count)) ∙ ap (map instruction) (code_there i l) ∙ sym (map_at (map instruction) codes i [] [] l))

starts_behaviours : (n : Node) (starts : List Start) → behaviours_of (with_each with_start n starts) ≡ behaviours_of n
unfolding behaviours_of code
starts_behaviours n [] = refl
starts_behaviours n (s ∷ starts) = starts_behaviours (with_start n s) starts

pub behaviours_of_lem : (p : Plan) → PlanKept p → behaviours_of (node_of p) ≡ map (map instruction) p.codes
unfolding node_of
behaviours_of_lem p k =
    starts_behaviours (with_each with_code empty_node p.codes) p.starts
    ∙ coded_behaviours p.codes k.most (λ i h. leb-true (length (get_or p.codes i [])) 32
    (let w = all_of_at (code_kept (length p.codes)) [] p.codes k.codes i h in
    let c = get_or p.codes i [] in
    let sizes = leb 1 (length c) && leb (length c) 32 in
    (parts (leb 1 (length c)) (leb (length c) 32) (parts sizes (all_of (λ (o : Op). in_range (length p.codes) (length c) (instruction o)) c) w).0).1))
