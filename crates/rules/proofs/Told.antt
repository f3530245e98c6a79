-- Which numbers an answer refuses with. Assumes nothing.
--   Told P x    where x is a refusal, P holds of its number
--   Common k    k is one of the numbers of the schedule writer, but neither 25 nor 29
--   Waits k     k is 25 or 29, which only a recv is refused with
--   Named R k   k is one of the numbers of the schedule writer, and where it is 25 or 29 there is R
--   Ruled k     k is one of the numbers of the schedule writer, 20 to 29
use mathlib.Core.Bool.{Bool, true, false, So, not, ◌&&◌}
use mathlib.Core.Logic.{◌⊎◌, inl, inr}
use mathlib.Core.Path.{◌≡◌, refl}
use Prim.Native.Nat.{ℕ, ◌≤◌}
use native.Mathlib.Omega.{arith}
use borrow.Author.Tests.{leb-true, not-true}
use lib.Dec.{leb, eqb}
use Rattle.rules.specs.Answers.{Answer, refused, done, need, go_on, bad_number, mailbox_empty, no_timeout, no_fit}
use Rattle.rules.proofs.All.{parts}

abbrev pub Told : {A : Type 0} → (ℕ → Type 0) → Answer A → Type 0
Told P (refused k) = P k
Told P (done a) = Unit {0}

abbrev pub Common : ℕ → Type 0
Common k = So (leb bad_number k && leb k no_timeout && not (eqb k mailbox_empty))

abbrev pub Waits : ℕ → Type 0
Waits k = (k ≡ mailbox_empty) ⊎ (k ≡ no_fit)

abbrev pub Named : Type 0 → ℕ → Type 0
Named R k = Common k ⊎ (Waits k × R)

abbrev pub Ruled : ℕ → Type 0
Ruled k = (bad_number ≤ k) × (k ≤ no_fit)

pub common_parts : (k : ℕ) → Common k → (bad_number ≤ k) × (k ≤ no_timeout) × (eqb k mailbox_empty ≡ false)
common_parts k h =
    let v = parts (leb bad_number k && leb k no_timeout) (not (eqb k mailbox_empty)) h in
    let w = parts (leb bad_number k) (leb k no_timeout) v.0 in
    (leb-true bad_number k w.0, leb-true k no_timeout w.1, not-true (eqb k mailbox_empty) v.1)

pub named_ruled : (R : Type 0) (k : ℕ) → Named R k → Ruled k
named_ruled R k (inl h) = let w = common_parts k h in (w.0, omega (arith, w.1))
named_ruled R k (inr (inl e, r)) = (omega (arith, e), omega (arith, e))
named_ruled R k (inr (inr e, r)) = (omega (arith, e), omega (arith, e))

pub named_more : (R S : Type 0) → (R → S) → (k : ℕ) → Named R k → Named S k
named_more R S f k (inl h) = inl h
named_more R S f k (inr (w, r)) = inr (w, f r)

pub told_more : {A : Type 0} (P Q : ℕ → Type 0) → ((k : ℕ) → P k → Q k) → (x : Answer A) → Told P x → Told Q x
told_more P Q f (refused k) h = f k h
told_more P Q f (done a) h = tt

pub need_told : {A : Type 0} (P : ℕ → Type 0) (b : Bool) (k : ℕ) (x : Answer A) → P k → (So b → Told P x) → Told P (need b k x)
need_told P true k x p h = h refl
need_told P false k x p h = p

pub go_on_told : {A B : Type 0} (P : ℕ → Type 0) (x : Answer A) (f : A → Answer B) → Told P x → ((a : A) → Told P (f a)) → Told P (go_on x f)
go_on_told P (refused k) f h g = h
go_on_told P (done a) f h g = g a
