-- Texts without a separating byte, and the parts of a text between such bytes. Assumes nothing.
--   free c l        l has no byte c
--   split_front     a part without c, up to a c;  split_whole  with no c there is one part
--   plain l         each byte of l stands behind the comma, so that none ends a field or a line;  plain_free  l has then no such byte
--   field_front field_whole   so it is a field of a line
--   digits_plain value_plain word_plain operand_plain   numbers, values, words of ops and operands are plain
use mathlib.Core.Bool.{Bool, true, false, So, not, cond}
use mathlib.Core.List.{List, [], ◌∷◌, ◌++◌}
use mathlib.Core.Path.{◌≡◌, refl}
use Prim.Native.Nat.{ℕ, suc, ◌-◌, ◌≤◌}
use Prim.Native.Char.{code}
use native.Mathlib.Omega.{arith}
use borrow.Author.Tests.{eq-eqb, ne_eqb, lt-ltb, ltb-true, not-true}
use lib.Dec.{eqb, ltb}
use lib.IntN.{pos, negsuc}
use lib.ListN.{get_or}
use Rattle.node.specs.declared.OperandKind.{OperandKind}
use Rattle.node.specs.declared.OperandKind.TheVariants.{NoOperand, RegisterR, RegisterS, ValueV, PlaceT, BehaviourB, ProcessQ, FlagF, CountN, KindK}
use Rattle.node.specs.declared.Value.{Value}
use Rattle.node.specs.declared.Value.TheVariants.{Int, Atom, Pid}
use Rattle.node.specs.Lists.{all_of}
use Rattle.node.specs.Ops.{op_words}
use Rattle.node.specs.Values.{any_kind, exact_kind}
use Rattle.rules.specs.Behaviours.{Operand}
use Rattle.rules.proofs.All.{all_of_any, both, parts}
use Rattle.text.specs.Numbers.{is_digit}
use Rattle.text.specs.Parts.{fields_of, in_front, split}
use Rattle.text.specs.Values.{number_text, value_text}
use Rattle.text.specs.Writing.{digits, int_text}
use Rattle.plan_line.specs.Ops.{clause_words}
use Rattle.plan_writer.specs.Texts.{kind_text, operand_text}
use Rattle.round_trip.proofs.ReadNumbers.{digit_bounds, digits_written}

-- ---- parts between bytes c

abbrev pub free : ℕ → List ℕ → Bool
free c l = all_of (λ (b : ℕ). not (eqb b c)) l

module _ (c : ℕ) where
  free_apart : (b : ℕ) (l : List ℕ) → So (free c (b ∷ l)) → (eqb b c ≡ false) × So (free c l)
  free_apart b l h = let w = parts (not (eqb b c)) (free c l) h in (not-true (eqb b c) w.0, w.1)

  pub split_front : (w l : List ℕ) → So (free c w) → split c (w ++ (c ∷ l)) ≡ w ∷ split c l
  unfolding split in_front
  split_front [] l h = rw (eq-eqb c c refl)
  split_front (b ∷ w) l h = let a = free_apart b w h in rw (split_front w l a.1, a.0)

  pub split_whole : (w : List ℕ) → So (free c w) → split c w ≡ w ∷ []
  unfolding split in_front
  split_whole [] h = refl
  split_whole (b ∷ w) h = let a = free_apart b w h in rw (split_whole w a.1, a.0)

-- ---- plain texts

all_of_weaken : {A : Type 0} (f g : A → Bool) → ((x : A) → So (f x) → So (g x)) → (l : List A) → So (all_of f l) → So (all_of g l)
all_of_weaken f g h [] a = refl
all_of_weaken f g h (x ∷ l) a = let w = parts (f x) (all_of f l) a in both (h x w.0) (all_of_weaken f g h l w.1)

abbrev pub plain : List ℕ → Bool
plain l = all_of (ltb (code ",")) l

pub plain_free : (c : ℕ) → c ≤ code "," → (l : List ℕ) → So (plain l) → So (free c l)
plain_free c h =
    all_of_weaken (ltb (code ",")) (λ (b : ℕ). not (eqb b c)) (λ b p. let q = ltb-true (code ",") b p in rw (ne_eqb b c (λ e. omega (arith, q, h, e))) refl)

module _ (w : List ℕ) (h : So (plain w)) where
  pub field_front : (l : List ℕ) → fields_of (w ++ (code "," ∷ l)) ≡ w ∷ fields_of l
  unfolding fields_of
  field_front l = split_front (code ",") w l (plain_free (code ",") (omega arith) w h)

  pub field_whole : fields_of w ≡ w ∷ []
  unfolding fields_of
  field_whole = split_whole (code ",") w (plain_free (code ",") (omega arith) w h)

pub digits_plain : (n : ℕ) → So (plain (digits n))
digits_plain n =
    all_of_weaken is_digit (ltb (code ",")) (λ b p. let q = (digit_bounds b p).0 in lt-ltb (code ",") b (omega (arith, q))) (digits n) (digits_written n).digits

pub value_plain : (v : Value) → So (plain (value_text v))
unfolding value_text number_text int_text
value_plain (Int (pos n)) = digits_plain n
value_plain (Int (negsuc n)) = digits_plain (suc n)
value_plain (Atom a) = digits_plain a
value_plain (Pid i) = digits_plain i.0

pub word_plain : (k : ℕ) → So (plain (get_or op_words k []))
word_plain k = all_of_any plain [] op_words refl refl k

kind_plain : (x : Operand) → So (plain (kind_text x))
unfolding kind_text
kind_plain x = go (eqb x.number exact_kind)
  where
    go : (t : Bool) → So (plain (cond t (value_text x.value) (get_or clause_words (x.number - any_kind) [])))
    go true = value_plain x.value
    go false = all_of_any plain [] clause_words refl refl (x.number - any_kind)

pub operand_plain : (k : OperandKind) (x : Operand) → So (plain (operand_text k x))
unfolding operand_text
operand_plain NoOperand x = digits_plain x.number
operand_plain RegisterR x = digits_plain x.number
operand_plain RegisterS x = digits_plain x.number
operand_plain ValueV x = value_plain x.value
operand_plain PlaceT x = digits_plain x.number
operand_plain BehaviourB x = digits_plain x.number
operand_plain ProcessQ x = digits_plain x.number
operand_plain FlagF x = digits_plain x.number
operand_plain CountN x = digits_plain x.number
operand_plain KindK x = kind_plain x
