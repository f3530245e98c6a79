-- Laws of the operands of an op: the words, the turns of the loop over the operands, and the answers for a word and its operands.
-- Assumes nothing.
use mathlib.Core.Bool.{Bool, true, false, So, cond, false≢true}
use mathlib.Core.List.{List, [], ◌∷◌, map}
use mathlib.Core.Path.{◌≡◌, refl, sym, ap, ◌∙◌}
use Prim.Native.Nat.{ℕ, ◌+◌, ◌≤◌, ◌<◌}
use Prim.Native.Char.{code}
use native.Mathlib.Nat.{sub-zero}
use native.Mathlib.Numerals.{add-one}
use native.Mathlib.Omega.{arith}
use borrow.Author.Tests.{eq-eqb, lt-ltb, le-ltb, ltb-true, ltb-false}
use lib.Dec.{eqb, ltb, eqb-suc-zero, eqb-zero-suc, eqb-suc-suc}
use lib.ListN.{length, get_or, take, drop, drop_of_length-le, length-map}
use lib.Seq.{drop-cons}
use Rattle.node.specs.declared.OperandKind.{OperandKind}
use Rattle.node.specs.declared.OperandKind.TheVariants.{NoOperand}
use Rattle.node.specs.Lists.{all_of}
use Rattle.node.specs.Ops.{kinds_of, op_count, operand_counts, operand_kind, op_words}
use Rattle.node.proofs.Ops.{kinds_length}
use Rattle.text.specs.Parts.{place_from, fields_of, index_of}
use Rattle.plan_line.specs.Ops.{Coded, ReadOperand, behind_field, clause_kind, clause_words, with_operand, worse, operand_of, with_joined, operands_of, bare, no_code, op_of, coded_of}
use Rattle.std.specs.Prelude.{Some, None, Result}
use Rattle.node.specs.declared.Op.{Op}
use Rattle.node.specs.declared.Value.{Value}
use Rattle.node.specs.Values.{any_kind, exact_kind, int_zero}
use Rattle.rules.specs.Answers.{refused, done}
use Rattle.text.specs.declared.Fault.{Fault}
use Rattle.text.specs.Numbers.{malformed, out_of_range}
use Rattle.text.specs.Results.{value_answer, value_told}
use Rattle.text.specs.Values.{value_of}
use Rattle.plan_line.specs.Lines.{answered, op}
use Rattle.plan_line.specs.Results.{fault_told, kind_read}
use Rattle.plan_line.proofs.Told.{answered_done, answered_refused, put_value}
use Rattle.words.specs.Words.{is_word, packed, word_number, place_of, found}
use Rattle.plan_line.proofs.Fields.{behind_first}
use Rattle.words.proofs.Words.{index_none, index_place}

-- ---- words, looked up by their numbers
module _ (w : List ℕ) (ws : List (List ℕ)) (small : So (all_of is_word ws)) {table : List ℕ} (is : table ≡ map packed ws) where
  pub place_known : {r : ℕ} → Some r ≡ word_number w → found (place_of r table) (length table) ≡ found (index_of w ws) (length ws)
  place_known x = rw (is, length-map ws packed, index_place w ws x small)

  pub place_none : None ≡ word_number w → None ≡ found (index_of w ws) (length ws)
  place_none x = rw (← index_none w ws x small, le-ltb (length ws) (length ws) (omega arith))

-- the words of the ops and of the clause kinds
ops_words : So (all_of is_word op_words)
ops_words = refl

kinds_words : So (all_of is_word clause_words)
kinds_words = refl

module _ (w : List ℕ) {r k : ℕ} (x : Some r ≡ word_number w) where
  pub op_place : k ≡ place_of r (map packed op_words) → k ≡ index_of w op_words
  op_place e = e ∙ index_place w op_words x ops_words

  pub kind_place : k ≡ place_of r (map packed clause_words) → k ≡ index_of w clause_words
  kind_place e = e ∙ index_place w clause_words x kinds_words

-- a place that was found, and one that was not
pub found_at : {k : ℕ} (i n : ℕ) → Some k ≡ found i n → (k ≡ i) × (i < n)
found_at {k} i n = go (ltb i n) refl
  where
    go : (t : Bool) → ltb i n ≡ t → Some k ≡ cond t (Some i) None → (k ≡ i) × (i < n)
    go true e h = (cc, ltb-true i n e)
    go false e h = cc

pub found_none : (i n : ℕ) → None ≡ found i n → n ≤ i
found_none i n = go (ltb i n) refl
  where
    go : (t : Bool) → ltb i n ≡ t → None ≡ cond t (Some i) None → n ≤ i
    go true e h = cc
    go false e h = ltb-false i n e

-- ---- a clause's kind
module _ (l : List ℕ) where
  pub kind_found : {k : ℕ} → Some k ≡ found (index_of l clause_words) (length clause_words)
      → done (record { refusal = 0; number = k + any_kind; value = int_zero }) ≡ answered (clause_kind l).refusal (clause_kind l)
  unfolding clause_kind
  kind_found h = let at = found_at (index_of l clause_words) (length clause_words) h in rw (lt-ltb _ _ at.1, at.0)

  pub kind_exact : None ≡ found (index_of l clause_words) (length clause_words) → (r : Result Value Fault) → value_told r ≡ value_answer (value_of l)
      → fault_told (λ (v : Value). kind_read (exact_kind, v)) r ≡ answered (clause_kind l).refusal (clause_kind l)
  unfolding clause_kind
  kind_exact h r e = rw (le-ltb _ _ (found_none (index_of l clause_words) (length clause_words) h)) (put_value (λ (x : ReadOperand). x) r (value_of l) e)

-- ---- the loop over the operands: what is left of their kinds and of the fields
module _ (c n : ℕ) where
  abbrev pub read_left : Coded → List OperandKind → List (List ℕ) → Coded
  read_left o [] [] = o
  read_left o [] (l ∷ ls) = no_code
  read_left o (k ∷ ks) [] = no_code
  read_left o (k ∷ ks) (l ∷ ls) = read_left (with_joined o k (operand_of c n k l)) ks ls

  -- as many fields as kinds, or none of them counts
  left_counted : (o : Coded) (kinds : List OperandKind) (ls : List (List ℕ))
      → cond (eqb (length ls) (length kinds)) (operands_of c n o kinds ls) no_code ≡ read_left o kinds ls
  unfolding operands_of
  left_counted o [] [] = refl
  left_counted o [] (l ∷ ls) = rw (eqb-suc-zero (length ls))
  left_counted o (k ∷ ks) [] = rw (eqb-zero-suc (length ks))
  left_counted o (k ∷ ks) (l ∷ ls) = rw (eqb-suc-suc (length ls) (length ks)) (left_counted (with_joined o k (operand_of c n k l)) ks ls)

  pub left_all : (k : ℕ) (ls : List (List ℕ)) → k < op_count → read_left (bare k) (kinds_of k) ls ≡ op_of c n k ls
  unfolding op_of
  left_all k ls h = rw (lt-ltb k op_count h, ← kinds_length k, left_counted (bare k) (kinds_of k) ls)

  kinds_at : (k i : ℕ) → i < get_or operand_counts k 0 → drop i (kinds_of k) ≡ operand_kind k i ∷ drop (i + 1) (kinds_of k)
  unfolding operand_kind
  kinds_at k i h = rw add-one (drop-cons (kinds_of k) i NoOperand (omega (arith, kinds_length k)))

  kinds_none : (k i : ℕ) → get_or operand_counts k 0 ≤ i → drop i (kinds_of k) ≡ []
  kinds_none k i h = drop_of_length-le (kinds_of k) {i = i} (omega (arith, kinds_length k))

  -- an operand more, whatever was read of it
  module _ (k i : ℕ) (o : Coded) (ls : List (List ℕ)) {g : Coded} (inv : read_left o (drop i (kinds_of k)) ls ≡ g) where
    pub operand_more : {kind : OperandKind} {field : List ℕ} {fs : List (List ℕ)} {x : ReadOperand} {p : Coded} → i < get_or operand_counts k 0
        → ls ≡ field ∷ fs → kind ≡ operand_kind k i → x ≡ operand_of c n kind field → p ≡ with_joined o kind x → read_left p (drop (i + 1) (kinds_of k)) fs ≡ g
    operand_more h el ek ex ep = rw (ep, ex, ek) (rw (kinds_at k i h, el) at inv)

  -- 11 stays, whatever follows
  left_malformed : (o : Coded) (kinds : List OperandKind) (ls : List (List ℕ)) → o.refusal ≡ malformed → (read_left o kinds ls).refusal ≡ malformed
  unfolding worse
  left_malformed o [] [] h = h
  left_malformed o [] (l ∷ ls) h = refl
  left_malformed o (k ∷ ks) [] h = refl
  left_malformed o (k ∷ ks) (l ∷ ls) h = left_malformed (with_joined o k (operand_of c n k l)) ks ls (rw h (go (eqb (operand_of c n k l).refusal malformed)))
    where
      go : (t : Bool) → cond t malformed malformed ≡ malformed
      go true = refl
      go false = refl

  -- the invariant: what is read of an op, with the kinds and the fields that are left, gives the answer; o is the op so far, and t tells that
  -- an operand was out of its range
  pub record Stands (kinds : List OperandKind) (ls : List (List ℕ)) (g : Coded) (t : Bool) (o : Op) : Type 0 where
    pub coded : Coded
    pub left : read_left coded kinds ls ≡ g
    pub refusal : coded.refusal ≡ cond t out_of_range 0
    pub op : t ≡ false → coded.op ≡ o

  pub stands_first : (k : ℕ) (ls : List (List ℕ)) {o : Op} → k < op_count → o ≡ (bare k).op → Stands (kinds_of k) ls (op_of c n k ls) false o
  stands_first k ls h e = record { coded = bare k; left = left_all k ls h; refusal = refl; op = λ f. sym e }

  module _ (k i : ℕ) {ls : List (List ℕ)} {g : Coded} {t : Bool} {o : Op} (s : Stands (drop i (kinds_of k)) ls g t o) where
    -- an operand more
    module _ (h : i < get_or operand_counts k 0) {kind : OperandKind} {field : List ℕ} {fs : List (List ℕ)} (el : ls ≡ field ∷ fs) (ek : kind ≡ operand_kind k i) where
      joined_left : read_left (with_joined s.coded kind (operand_of c n kind field)) (drop (i + 1) (kinds_of k)) fs ≡ g
      joined_left = rw ek (rw (kinds_at k i h, el) at s.left)

      pub stands_more : {more : Op} → done more ≡ answered (operand_of c n kind field).refusal (with_operand o kind (operand_of c n kind field))
          → Stands (drop (i + 1) (kinds_of k)) fs g t more
      unfolding worse
      stands_more {more} q =
          let x = operand_of c n kind field in
          let was = answered_done x.refusal (with_operand o kind x) more (sym q) in
          record {
            coded = with_joined s.coded kind x;
            left = joined_left;
            refusal = rw (was.0, s.refusal) (go t);
            op = λ f. ap (λ (p : Op). with_operand p kind x) (s.op f) ∙ was.1;
          }
        where
          go : (t : Bool) → cond (eqb (cond t out_of_range 0) 0) 0 (cond false malformed (cond t out_of_range 0)) ≡ cond t out_of_range 0
          go true = refl
          go false = refl

      pub stands_range : refused out_of_range ≡ answered (operand_of c n kind field).refusal (with_operand o kind (operand_of c n kind field))
          → Stands (drop (i + 1) (kinds_of k)) fs g true o
      unfolding worse
      stands_range q =
          let x = operand_of c n kind field in
          let was = answered_refused x.refusal (with_operand o kind x) out_of_range (sym q) in
          record { coded = with_joined s.coded kind x; left = joined_left; refusal = rw (was, s.refusal) (go t); op = λ f. absurd (false≢true (sym f)) }
        where
          go : (t : Bool) → cond (eqb (cond t out_of_range 0) 0) out_of_range (cond false malformed (cond t out_of_range 0)) ≡ out_of_range
          go true = refl
          go false = refl

      pub stands_malformed : refused malformed ≡ answered (operand_of c n kind field).refusal (with_operand o kind (operand_of c n kind field)) → refused malformed ≡ op g
      unfolding worse
      stands_malformed q =
          let x = operand_of c n kind field in
          let was = answered_refused x.refusal (with_operand o kind x) malformed (sym q) in
          let told : (read_left (with_joined s.coded kind x) (drop (i + 1) (kinds_of k)) fs).refusal ≡ malformed = left_malformed _ _ fs (rw (was, s.refusal) (go t)) in
          rw (← joined_left, told)
        where
          go : (t : Bool) → cond (eqb (cond t out_of_range 0) 0) malformed (cond true malformed (cond t out_of_range 0)) ≡ malformed
          go true = refl
          go false = refl

    pub operand_missing : {x : Coded} → i < get_or operand_counts k 0 → ls ≡ [] → x ≡ no_code → x ≡ g
    operand_missing h el e = e ∙ rw (kinds_at k i h, el) at s.left

    pub operand_surplus : {field : List ℕ} {fs : List (List ℕ)} {x : Coded} → get_or operand_counts k 0 ≤ i → ls ≡ field ∷ fs → x ≡ no_code → x ≡ g
    operand_surplus h el e = e ∙ rw (kinds_none k i h, el) at s.left

    module _ (h : get_or operand_counts k 0 ≤ i) (el : ls ≡ []) where
      last_left : s.coded ≡ g
      last_left = rw (kinds_none k i h, el) at s.left

      pub operands_range : t ≡ true → refused out_of_range ≡ op g
      operands_range e = let k : s.coded.refusal ≡ out_of_range = s.refusal ∙ rw e in rw (← last_left, k)

      pub operands_end : t ≡ false → done o ≡ op g
      operands_end e =
          let k : s.coded.refusal ≡ 0 = s.refusal ∙ rw e in
          rw (← last_left, eq-eqb s.coded.refusal 0 k, s.op e)

-- ---- a word and its operands
fields_behind : (l : List ℕ) {e : ℕ} → e ≡ place_from (code ",") 0 l → fields_of l ≡ take e l ∷ behind_field e l
fields_behind l {e} h = rw sub-zero at (behind_first l (omega arith) h)

module _ (c n : ℕ) (l : List ℕ) {e : ℕ} (h : e ≡ place_from (code ",") 0 l) where
  pub op_word : {x : Coded} → None ≡ found (index_of (take e l) op_words) (length op_words) → x ≡ no_code → x ≡ coded_of c n (fields_of l)
  unfolding coded_of op_of
  op_word q p = rw (fields_behind l h, le-ltb _ op_count (found_none (index_of (take e l) op_words) (length op_words) q)) p

  pub op_right : {k : ℕ} → Some k ≡ found (index_of (take e l) op_words) (length op_words) → op_of c n k (behind_field e l) ≡ coded_of c n (fields_of l)
  unfolding coded_of op_of
  op_right q = rw (fields_behind l h, (found_at (index_of (take e l) op_words) (length op_words) q).0)
