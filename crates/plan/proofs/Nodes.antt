-- Laws of the node that is being made: one op, one behaviour and one start more. Assumes nothing.
use mathlib.Core.List.{List, [], ◌∷◌, ◌++◌}
use mathlib.Core.Path.{◌≡◌, refl, sym, ap, ◌∙◌}
use Prim.Native.Nat.{ℕ, ◌+◌, ◌*◌, ◌-◌, ◌<◌}
use native.Mathlib.Omega.{arith}
use lib.ListN.{length, set}
use lib.Seq.{sets}
use Rattle.node.specs.declared.Node.{Node}
use Rattle.node.specs.declared.Op.{Op}
use Rattle.node.specs.declared.ProcessNumber.{ProcessNumber}
use Rattle.node.specs.declared.Process.{Process}
use Rattle.node.specs.Processes.{fresh}
use Rattle.node.specs.Values.{int_zero}
use Rattle.node.proofs.Lists.{sets_more}
use Rattle.plan_line.specs.Lines.{Start, start_line}
use Rattle.plan.specs.Reading.{Left, on_line}
use Rattle.plan.specs.Rests.{mapped}
use Rattle.plan.proofs.Loops.{mapped_same}
use Rattle.plan.specs.Plans.{before_first, last_from, remade, with_ops, with_code, with_start, with_each}

-- node n with ops of a behaviour behind the others, whose count of ops stands already
abbrev pub with_first : Node → List Op → Node
with_first n xs = remade n n.count n.lens (sets n.ops (n.count * 32) xs) n.processes

-- one op more, behind those that are there
pub first_more : (n : Node) (xs : List Op) {i : ℕ} {b : Node} {y x : Op} → b ≡ with_first n xs → y ≡ x → length xs ≡ i
    → remade b b.count b.lens (set b.ops (n.count * 32 + i) y) b.processes ≡ with_first n (xs ++ (x ∷ []))
first_more n xs {i} {b} {y} {x} q e c =
    rw (q, e, ← c) (ap (λ (l : List Op). remade n n.count n.lens l n.processes) (sets_more n.ops (n.count * 32) xs x))

-- all of them
pub first_all : (n : Node) (xs : List Op) {k : ℕ} → length xs ≡ k → with_first (remade n n.count (set n.lens n.count k) n.ops n.processes) xs ≡ with_ops n xs
first_all n xs e = rw e

pub each_more : {A : Type 0} (f : Node → A → Node) (n : Node) (xs : List A) (x : A) → f (with_each f n xs) x ≡ with_each f n (xs ++ (x ∷ []))
each_more f n [] x = refl
each_more f n (y ∷ xs) x = each_more f (f n y) xs x

pub codes_count : (n : Node) (codes : List (List Op)) → (with_each with_code n codes).count ≡ n.count + length codes
codes_count n [] = omega arith
codes_count n (code ∷ codes) = codes_count (with_code n code) codes ∙ omega arith

pub codes_small : (n : Node) (codes : List (List Op)) {b : Node} → b ≡ with_each with_code n codes → n.count + length codes < 8 → b.count < 8
codes_small n codes e h = rw (e, codes_count n codes) h

-- the count of a behaviour that is read
pub counted_code : (n : Node) (ops : List Op) {b : Node} → b ≡ with_ops n ops
    → remade b (b.count + 1) b.lens b.ops b.processes ≡ with_code n ops
counted_code n ops e = rw e

-- ---- starts
-- a node with starts, and the process of the last
abbrev pub begun : Node → List Start → Node × ProcessNumber
begun n starts = (with_each with_start n starts, last_from before_first starts)

pub last_more : (i : ProcessNumber) (starts : List Start) (s : Start) → last_from i (starts ++ (s ∷ [])) ≡ s.process
last_more i [] s = refl
last_more i (t ∷ starts) s = last_more t.process starts s

pub begun_more : (n : Node) (starts : List Start) {b b' : Node} {i : ProcessNumber} {y s : Start} → b' ≡ with_start b y → ◌≡◌ {A = Node × ProcessNumber} (b, i) (begun n starts) → y ≡ s
    → ◌≡◌ {A = Node × ProcessNumber} (b', y.process) (begun n (starts ++ (s ∷ [])))
begun_more n starts {b} {b'} {i} {y} {s} p q e =
    let node : b' ≡ with_each with_start n (starts ++ (s ∷ [])) =
    p ∙ ap (λ (a : Node × ProcessNumber). with_start a.0 y) q ∙ ap (with_start (with_each with_start n starts)) e ∙ each_more with_start n starts s in
    let last : y.process ≡ last_from before_first (starts ++ (s ∷ [])) = ap (λ (x : Start). x.process) e ∙ sym (last_more before_first starts s) in
    cc

-- a start that was read behind the last one
pub start_read : (l : Left) (c : ℕ) (n : Node) (starts : List Start) {b : Node} {i : ProcessNumber} → ◌≡◌ {A = Node × ProcessNumber} (b, i) (begun n starts)
    → on_line (start_line c i) l ≡ mapped (λ (a : Start). a) (on_line (start_line c (last_from before_first starts)) l)
start_read l c n starts e = ap (λ (a : Node × ProcessNumber). on_line (start_line c a.1) l) e ∙ mapped_same _

-- a process started
pub started : (n : Node) (s : Start) {k : ℕ} {p : Process} → k ≡ s.process.0 - 1 → p ≡ fresh s.behaviour int_zero
    → remade n n.count n.lens n.ops (set n.processes k p) ≡ with_start n s
started n s e h = rw (e, h)
