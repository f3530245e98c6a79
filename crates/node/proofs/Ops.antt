-- Laws of the table of ops. Assumes nothing.
--   recv_word clause_word   the numbers of recv and clause are their places in the table
--   kinds_length            how many operands an op has
--   op_some                 a number is an op's exactly where it has operands
use mathlib.Core.Bool.{Bool, true, false}
use mathlib.Core.List.{List, [], ◌∷◌}
use mathlib.Core.Path.{◌≡◌, refl, sym, ap}
use Prim.Native.Nat.{ℕ}
use borrow.Author.Tests.{ltb-false, ltb-true}
use lib.Dec.{ltb}
use lib.ListN.{length, get_or, get_or-eq_default, get_or-map}
use Rattle.node.specs.declared.OperandKind.{OperandKind}
use Rattle.node.specs.Ops.{clause_op, kinds_of, op_count, operand_counts, op_kinds, op_words, recv_op}
use Rattle.node.specs.Texts.{bytes}
use Rattle.node.proofs.Lists.{all_from_at}

pub recv_word : get_or op_words recv_op [] ≡ bytes "recv"
recv_word = refl

pub clause_word : get_or op_words clause_op [] ≡ bytes "clause"
clause_word = refl

pub kinds_length : (n : ℕ) → length (kinds_of n) ≡ get_or operand_counts n 0
unfolding kinds_of
kinds_length n = sym (get_or-map length op_kinds n [])

abbrev pub some : List OperandKind → Bool
some [] = false
some (k ∷ ks) = true

pub op_some : (n : ℕ) → ltb n op_count ≡ some (kinds_of n)
unfolding kinds_of
op_some n = go (ltb n op_count) refl
  where
    go : (t : Bool) → ltb n op_count ≡ t → t ≡ some (get_or op_kinds n [])
    go true e = sym (all_from_at (λ (k : ℕ) (ks : List OperandKind). some ks) 0 op_kinds n [] refl (ltb-true n op_count e))
    go false e = ap some (sym (get_or-eq_default op_kinds [] {n = n} (ltb-false n op_count e)))
