-- Rules 12 and 14 of a behaviour by one pass over its ops, and of all behaviours one after the other. Assumes nothing.
--   Pass c ops t k g   what a loop keeps at place t of the behaviour of ops `ops`, where k parts of a recv may stand: what is left gives g
--   free_there         whether an op leads to a part of a recv, by the op that it leads to
--   codes_stop codes_more codes_end  the loop over the behaviours
use mathlib.Core.Bool.{Bool, true, false, ◌&&◌, cond, not}
use mathlib.Core.List.{List, [], map}
use mathlib.Core.Path.{◌≡◌, refl, sym, ◌∙◌, ap}
use Prim.Native.Nat.{ℕ, ◌+◌, ◌-◌, ◌*◌, ◌≤◌, ◌<◌}
use native.Mathlib.Numerals.{add-one}
use native.Mathlib.Omega.{arith}
use Rattle.std.specs.Prelude.{None, Some}
use borrow.Author.Tests.{le-leb}
use lib.Dec.{leb}
use lib.ListN.{length, get_or, take, drop, drop_of_length-le, get_or-map, length-map, length-drop}
use lib.Seq.{drop-cons}
use Rattle.node.specs.declared.Op.{Op}
use Rattle.node.specs.Lists.{all_of}
use Rattle.node.specs.Nodes.{no_op}
use Rattle.node.specs.Ops.{is_part}
use Rattle.node.proofs.Lists.{firsts_take, get_d_in}
use Rattle.rules.specs.Behaviours.{Instruction, code_sound, due, due_next, in_range, instruction, no_instruction, targets_free}
use Rattle.behaviours.specs.Codes.{code_in, codes_in, has_target, placed_by}
use Rattle.behaviours.proofs.Clauses.{left, left_start, left_end, turn_barred, turn_due, turn_more, turn_stop}
use Rattle.behaviours.proofs.Codes.{code_length, codes_at, codes_length, free_at}

-- ---- the ops of a behaviour

module _ (c : ℕ) (ops : List Op) where
  abbrev code : List Instruction
  code = map instruction ops

  size : length code ≡ length ops
  size = length-map ops instruction

  pub record Pass (t k : ℕ) (g : Bool) : Type 0 where
    pub clauses : k ≡ due 0 (take t (map instruction ops))
    pub gives : g ≡ left c (length ops) (map instruction ops) t k

  pub pass_start : 1 ≤ length ops → length ops ≤ 32 → Pass 0 0 (code_sound c (map instruction ops))
  pass_start a b = record { clauses = refl; gives = left_start c code ∙ rw (size, le-leb 1 (length ops) a, le-leb (length ops) 32 b) }

  module _ {t k : ℕ} {g : Bool} (p : Pass t k g) where
    pub pass_end : length ops ≤ t → leb k 1 ≡ g
    pass_end h = sym (p.gives ∙ left_end c (length ops) code t k (rw size h))

    -- the op at place t
    module _ (h : t < length ops) where
      abbrev op : Instruction
      op = instruction (get_or ops t no_op)

      inside : t < length code
      inside = rw size h

      at : get_or code t (instruction no_op) ≡ op
      at = get_or-map instruction ops t no_op

      pub op_stop : (in_range c (length ops) op && placed_by k op) ≡ false → false ≡ g
      op_stop e = sym (p.gives ∙ turn_stop c (length ops) code t (instruction no_op) op k inside at p.clauses e)

      pub op_barred : targets_free (map instruction ops) op ≡ false → false ≡ g
      op_barred e = sym (p.gives ∙ turn_barred c (length ops) code t (instruction no_op) op k inside at p.clauses e)

      pub op_more : {j : ℕ} → (in_range c (length ops) op && placed_by k op) ≡ true → targets_free (map instruction ops) op ≡ true → j ≡ due_next k op → Pass (t + 1) j g
      op_more {j} e f q = record {
        clauses = q ∙ turn_due c (length ops) code t (instruction no_op) op k inside at p.clauses;
        gives = p.gives ∙ turn_more c (length ops) code t (instruction no_op) op k inside at p.clauses e f ∙ ap (left c (length ops) code (t + 1)) (sym q);
      }

-- ---- where an op leads

module _ (ops : List Op) (o : Op) (to : ℕ) (e : cond (has_target o.number) (Some o.target) None ≡ Some to) (h : to < length ops) where
  pub free_there : not (is_part (get_or ops to no_op).number) ≡ targets_free (map instruction ops) (instruction o)
  unfolding instruction
  free_there =
      let inside : to < length (map instruction ops) = rw (length-map ops instruction) h in
      sym (
      free_at (map instruction ops) o to e
      ∙ ap (λ (x : Instruction). not (is_part x.number)) (get_d_in (map instruction ops) to no_instruction (instruction no_op) inside ∙ get_or-map instruction ops to no_op)
      )

-- ---- the behaviours

module _ (c : ℕ) (lens : List ℕ) (ops : List Op) (b : ℕ) {g : Bool} (is : g ≡ all_of (code_sound c) (drop b (codes_in c lens ops))) where
  abbrev len : ℕ
  len = get_or lens b 0

  module _ (h : b < c) where
    opened : all_of (code_sound c) (drop b (codes_in c lens ops)) ≡ (code_sound c (code_in len ops b) && all_of (code_sound c) (drop (b + 1) (codes_in c lens ops)))
    opened =
        let l : b < length (codes_in c lens ops) = omega (arith, codes_length c lens ops) in
        rw (drop-cons (codes_in c lens ops) b [] l, codes_at c lens ops b h, add-one)

    -- the length is out of range
    pub size_stop : (leb 1 (get_or lens b 0) && leb (get_or lens b 0) 32) ≡ false → false ≡ g
    size_stop e = sym (is ∙ opened ∙ rw (left_start c (code_in len ops b), code_length len ops b, e))

    module _ (f : 32 * b + get_or lens b 0 ≤ length ops) where
      -- the ops of a behaviour as they are lent
      abbrev lent : List Op
      lent = take (32 * b + len - 32 * b) (drop (32 * b) ops)

      code_is : code_in len ops b ≡ map instruction lent
      unfolding code_in
      code_is =
          let same : len ≡ 32 * b + len - 32 * b = omega arith in
          ap (map instruction) (firsts_take no_op len (drop (32 * b) ops) (omega (arith, length-drop (32 * b) ops)) ∙ ap (λ (n : ℕ). take n (drop (32 * b) ops)) same)

      pub code_stop : code_sound c (map instruction lent) ≡ false → false ≡ g
      code_stop e = sym (is ∙ opened ∙ rw (code_is, e))

      pub code_more : code_sound c (map instruction lent) ≡ true → g ≡ all_of (code_sound c) (drop (b + 1) (codes_in c lens ops))
      code_more e = is ∙ opened ∙ rw (code_is, e)

  pub codes_end : c ≤ b → true ≡ g
  codes_end h = sym (is ∙ rw (drop_of_length-le (codes_in c lens ops) {i = b} (omega (arith, codes_length c lens ops))))
