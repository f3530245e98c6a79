-- Laws of one line of a text, whatever reads it. Assumes nothing.
--   fault_same     the number of a line's fault
--   line_missing   a line that is not there
--   line_read      a line that is, read by g; its refusal comes with its number
--   count_most start_most   a number, and the process of a start, that were read
use mathlib.Core.List.{List, []}
use mathlib.Core.Path.{◌≡◌, refl, sym, ◌∙◌}
use Prim.Native.Nat.{ℕ, ◌+◌, ◌≤◌}
use Rattle.std.specs.Prelude.{Result, Ok, Err, IfOk, IsErrAnd}
use Rattle.node.specs.declared.ProcessNumber.{ProcessNumber}
use Rattle.node.specs.declared.Start.{Start as NodeStart}
use Rattle.rules.specs.Answers.{Answer}
use Rattle.text.specs.Parts.{line_then}
use Rattle.plan_line.specs.declared.fault.LineFault.{LineFault}
use Rattle.plan_line.specs.declared.fault.LineFault.TheVariants.{Malformed, OutOfRange, NotRising}
use Rattle.plan_line.specs.Lines.{count_line, count_told, start_line, start_told}
use Rattle.plan_line.specs.Results.{line_number, line_told, start_read}
use Rattle.plan_line.proofs.Ranges.{count_kept, start_kept_lem}
use Rattle.plan_line.proofs.Told.{answered_done}
use Rattle.plan.specs.declared.fault.Refused.{Refused}
use Rattle.plan.specs.Faults.{fault_number, fault_of}
use Rattle.plan.specs.Reading.{Left, on_line}
use Rattle.plan.specs.Rests.{at_line, refused_at, told}
use Rattle.plan.proofs.Loops.{err_told}

fault_same : (e : LineFault) → fault_number (fault_of e) ≡ line_number e
fault_same Malformed = refl
fault_same OutOfRange = refl
fault_same NotRising = refl

module _ {B : Type 0} (g : List ℕ → Answer B) (old : Left) where
  pub line_missing : {A : Type 0} (f : A → B) (r : Result A Refused) (l : Left) {x : Refused} → IsErrAnd r (λ y. y ≡ x) → (old.text.whole ≡ []) × (x ≡ refused_at Malformed old.first)
      → told f r l ≡ on_line g old
  unfolding on_line
  line_missing f r l h e = err_told f r l _ h ∙ rw (e.1, e.0)

  pub line_read : {A : Type 0} (f : A → B) {line : List ℕ} (new : Left) (n : ℕ) (x : Result A LineFault) {r : Result A Refused} → old.text ≡ line_then line new.text → n ≡ old.first → new.first ≡ n + 1
      → r ≡ at_line n x → line_told f x ≡ g line → told f r new ≡ on_line g old
  unfolding on_line line_then
  line_read f new n (Ok a) e first next is h = rw (is, e, ← h, ← first, ← next)
  line_read f new n (Err y) e first next is h = rw (is, e, ← h, ← first, fault_same y)

-- what was read keeps its range
pub count_most : (key : List ℕ) (low high : ℕ) (line : List ℕ) (n : ℕ) (x : Result ℕ LineFault) {r : Result ℕ Refused} → r ≡ at_line n x
    → line_told (λ (k : ℕ). k) x ≡ count_line key low high line → IfOk r (λ k. k ≤ high)
unfolding count_line
count_most key low high line n (Ok k) is h =
    let was = answered_done (count_told key low high line).refusal (count_told key low high line).number k (sym h) in
    let most : k ≤ high = rw was.1 at (count_kept key low high line).most in
    rw is most
count_most key low high line n (Err y) is h = rw is tt

pub start_most : (c : ℕ) (last : ProcessNumber) (line : List ℕ) (n : ℕ) (x : Result NodeStart LineFault) {r : Result NodeStart Refused} → r ≡ at_line n x
    → line_told start_read x ≡ start_line c last line → IfOk r (λ s. s.process.0 ≤ 16)
unfolding start_line
start_most c last line n (Ok s) is h =
    let was = answered_done (start_told c last line).refusal (start_told c last line) (start_read s) (sym h) in
    let most : s.process.0 ≤ 16 = rw was.1 at (start_kept_lem c last line).process in
    rw is most
start_most c last line n (Err y) is h = rw is tt
