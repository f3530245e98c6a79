-- Rules 12 and 14 of all behaviours by one pass over their ops, one behaviour after the other. Assumes nothing.
--   left_from c codes t k     the rules of `codes`, but for the first t ops of the first of them, behind which k parts of a recv may stand
--   Pass c lens ops b t k g   what a loop keeps at place t of behaviour b, where k parts of a recv may stand: what is left gives g
use mathlib.Core.Bool.{Bool, true, false, ◌&&◌, and-false}
use mathlib.Core.List.{List, [], ◌∷◌}
use mathlib.Core.Path.{◌≡◌, refl, sym, ◌∙◌, ap}
use Prim.Native.Nat.{ℕ, ◌+◌, ◌*◌, ◌≤◌, ◌<◌}
use native.Mathlib.Numerals.{add-one}
use native.Mathlib.Omega.{arith}
use borrow.Author.Tests.{le-leb, lt-leb}
use lib.Dec.{leb}
use lib.ListN.{length, get_or, take, drop, drop_of_length-le}
use lib.Seq.{drop-cons}
use Rattle.node.specs.declared.Op.{Op}
use Rattle.node.specs.Lists.{all_of}
use Rattle.node.specs.Nodes.{no_op}
use Rattle.rules.specs.Behaviours.{Instruction, code_sound, due, due_next, in_range, instruction, targets_free}
use Rattle.behaviours.specs.Codes.{code_in, codes_in, placed_by}
use Rattle.behaviours.proofs.Clauses.{left, left_start, left_end, turn_barred, turn_due, turn_more, turn_stop}
use Rattle.behaviours.proofs.Codes.{code_at, code_length, codes_at, codes_length}

abbrev left_from : ℕ → List (List Instruction) → ℕ → ℕ → Bool
left_from c [] t k = true
left_from c (code ∷ l) t k = leb 1 (length code) && leb (length code) 32 && left c (length code) code t k && all_of (code_sound c) l

from_start : (c : ℕ) (l : List (List Instruction)) → all_of (code_sound c) l ≡ left_from c l 0 0
from_start c [] = refl
from_start c (code ∷ l) = ap (λ (x : Bool). x && all_of (code_sound c) l) (left_start c code)

pub record Pass (c : ℕ) (lens : List ℕ) (ops : List Op) (b t k : ℕ) (g : Bool) : Type 0 where
  pub clauses : k ≡ due 0 (take t (code_in (get_or lens b 0) ops b))
  pub gives : g ≡ left_from c (drop b (codes_in c lens ops)) t k

module _ (c : ℕ) (lens : List ℕ) (ops : List Op) where
  pub pass_start : Pass c lens ops 0 0 0 (all_of (code_sound c) (codes_in c lens ops))
  pass_start = record { clauses = refl; gives = from_start c (codes_in c lens ops) }

  pub pass_end : {b t k : ℕ} {g : Bool} → Pass c lens ops b t k g → c ≤ b → true ≡ g
  pass_end {b} p h = sym (p.gives ∙ rw (drop_of_length-le (codes_in c lens ops) {i = b} (omega (arith, codes_length c lens ops))))

  module _ (b : ℕ) (h : b < c) where
    abbrev size : ℕ
    size = get_or lens b 0

    abbrev ours : List Instruction
    ours = code_in size ops b

    -- this behaviour, and those behind it
    opened : (t k : ℕ) → left_from c (drop b (codes_in c lens ops)) t k ≡ (leb 1 size && leb size 32 && left c size ours t k && all_of (code_sound c) (drop (b + 1) (codes_in c lens ops)))
    opened t k =
        let l : b < length (codes_in c lens ops) = omega (arith, codes_length c lens ops) in
        rw (drop-cons (codes_in c lens ops) b [] l, codes_at c lens ops b h, code_length size ops b, add-one)

    module _ {t k : ℕ} {g : Bool} (p : Pass c lens ops b t k g) where
      stop : left c size ours t k ≡ false → false ≡ g
      stop e = sym (p.gives ∙ opened t k ∙ rw (e, and-false))

      -- the length is out of range
      pub size_stop : (leb 1 size && leb size 32) ≡ false → false ≡ g
      size_stop e = sym (p.gives ∙ opened t k ∙ rw e)

      -- the op at place t
      module _ (l : t < size) where
        abbrev op : Instruction
        op = instruction (get_or ops (32 * b + t) no_op)

        within_code : t < length ours
        within_code = rw (code_length size ops b) l

        pub op_stop : (in_range c size op && placed_by k op) ≡ false → false ≡ g
        op_stop e = stop (turn_stop c size ours t (instruction no_op) op k within_code (code_at size ops b t l) p.clauses e)

        pub op_barred : targets_free ours op ≡ false → false ≡ g
        op_barred e = stop (turn_barred c size ours t (instruction no_op) op k within_code (code_at size ops b t l) p.clauses e)

        pub op_more : {j : ℕ} → (in_range c size op && placed_by k op) ≡ true → targets_free ours op ≡ true → j ≡ due_next k op → Pass c lens ops b (t + 1) j g
        op_more {j} e f q = record {
          clauses = q ∙ turn_due c size ours t (instruction no_op) op k within_code (code_at size ops b t l) p.clauses;
          gives = p.gives ∙ opened t k ∙ rw (turn_more c size ours t (instruction no_op) op k within_code (code_at size ops b t l) p.clauses e f, ← q) (sym (opened (t + 1) j));
        }

      -- no op of this behaviour is left
      module _ (l : size ≤ t) where
        end_is : left c size ours t k ≡ leb k 1
        end_is = left_end c size ours t k (rw (code_length size ops b) l)

        pub due_stop : 1 < k → false ≡ g
        due_stop e = stop (end_is ∙ lt-leb k 1 e)

        pub next_code : (leb 1 size && leb size 32) ≡ true → k ≤ 1 → Pass c lens ops (b + 1) 0 0 g
        next_code s e = record { clauses = refl; gives = p.gives ∙ opened t k ∙ rw (s, end_is, le-leb k 1 e) (from_start c (drop (b + 1) (codes_in c lens ops))) }
