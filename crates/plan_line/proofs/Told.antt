-- Laws of what the code's answers stand for. Assumes nothing.
--   err_told err_fault        what an error that a `?` hands on stands for, of a line and of a part of it
--   answered_fault            a refusal beside a result is told
--   number_told               a number that was read
--   put_number put_value put_kind   what is made of an operand that is a number, a value or a clause's kind
--   answered_done answered_refused   what a result beside its refusal was, where the one or the other is told
--   put                       what an operand that is put into an op is proved by
use mathlib.Core.Bool.{Bool, true, false}
use mathlib.Core.Path.{◌≡◌, refl, sym, ap, ◌∙◌}
use Prim.Native.Nat.{ℕ}
use borrow.Author.Tests.{eqb-true, eq-eqb}
use lib.Dec.{eqb}
use Rattle.std.specs.Prelude.{Result, Ok, Err, IsErrAnd}
use Rattle.node.specs.declared.Value.{Value}
use Rattle.rules.specs.Answers.{refused, done, need}
use Rattle.text.specs.declared.Fault.{Fault}
use Rattle.text.specs.declared.Fault.TheVariants.{Malformed, OutOfRange}
use Rattle.text.specs.Numbers.{Ranged}
use Rattle.text.specs.Results.{fault_number, ranged_told, value_answer, value_told}
use Rattle.plan_line.specs.declared.fault.LineFault.{LineFault}
use Rattle.plan_line.specs.Lines.{answered, number}
use Rattle.plan_line.specs.Ops.{ReadOperand, numeric, exact}
use Rattle.text.specs.Values.{Parsed}
use Rattle.plan_line.specs.Results.{line_fault, line_told, fault_told, kind_read}

pub err_told : {A B : Type 0} (f : A → B) (r : Result A LineFault) (x : Fault) → IsErrAnd r (λ y. y ≡ line_fault x) → line_told f r ≡ refused (fault_number x)
err_told f (Ok a) x h = absurd h
err_told f (Err y) Malformed h = rw h
err_told f (Err y) OutOfRange h = rw h

pub err_fault : {A B : Type 0} (f : A → B) (r : Result A Fault) (x : Fault) → IsErrAnd r (λ y. y ≡ x) → fault_told f r ≡ refused (fault_number x)
err_fault f (Ok a) x h = absurd h
err_fault f (Err y) x h = ap (λ (x : Fault). refused (fault_number x)) h

pub answered_fault : {A : Type 0} (x : Fault) (a : A) → refused (fault_number x) ≡ answered (fault_number x) a
answered_fault Malformed a = refl
answered_fault OutOfRange a = refl

pub number_told : (r : Result ℕ Fault) {x : Ranged} → ranged_told r ≡ x → fault_told (λ (n : ℕ). n) r ≡ number x
number_told (Ok n) h = rw (← h)
number_told (Err x) h = rw (← h) (answered_fault x 0)

module _ {A : Type 0} where
  answered_by : (k : ℕ) (a b : A) (t : Bool) → eqb k 0 ≡ t → need t k (done a) ≡ done b → (k ≡ 0) × (a ≡ b)
  answered_by k a b true e h = (eqb-true k 0 e, cc)
  answered_by k a b false e h = cc

  pub answered_done : (k : ℕ) (a b : A) → answered k a ≡ done b → (k ≡ 0) × (a ≡ b)
  answered_done k a b h = answered_by k a b (eqb k 0) refl h

  refused_by : (k : ℕ) (a : A) (j : ℕ) (t : Bool) → eqb k 0 ≡ t → need t k (done a) ≡ refused j → k ≡ j
  refused_by k a j true e h = cc
  refused_by k a j false e h = cc

  pub answered_refused : (k : ℕ) (a : A) (j : ℕ) → answered k a ≡ refused j → k ≡ j
  answered_refused k a j h = refused_by k a j (eqb k 0) refl h

-- what F makes of an operand that was read
module _ {A : Type 0} (F : ReadOperand → A) where
  pub put_number : (r : Result ℕ Fault) {x : Ranged} → ranged_told r ≡ x → fault_told (λ (n : ℕ). F (numeric (record { refusal = 0; number = n }))) r ≡ answered x.refusal (F (numeric x))
  put_number (Ok n) h = rw (← h)
  put_number (Err y) h = rw (← h) (answered_fault y _)

  pub put_value : (r : Result Value Fault) (x : Parsed) → value_told r ≡ value_answer x → fault_told (λ (v : Value). F (exact (record { refusal = 0; value = v }))) r ≡ answered x.refusal (F (exact x))
  put_value (Ok v) x h = let k = answered_done x.refusal x.value v (sym h) in rw (k.0, k.1)
  put_value (Err y) x h =
      let k = answered_refused x.refusal x.value (fault_number y) (sym h) in
      answered_fault y (F (exact x)) ∙ ap (λ (j : ℕ). answered j (F (exact x))) (sym k)

  pub put_kind : (r : Result (ℕ × Value) Fault) (x : ReadOperand) → fault_told kind_read r ≡ answered x.refusal x → fault_told (λ (k : ℕ × Value). F (kind_read k)) r ≡ answered x.refusal (F x)
  put_kind (Ok k) x h = let q = answered_done x.refusal x (kind_read k) (sym h) in rw (eq-eqb x.refusal 0 q.0, q.1)
  put_kind (Err y) x h =
      let k = answered_refused x.refusal x (fault_number y) (sym h) in
      answered_fault y (F x) ∙ ap (λ (j : ℕ). answered j (F x)) (sym k)

pub ruleset put = (err_fault, put_number, put_value, put_kind)
