-- Laws of a start: its two numbers, and that it has to be above the one before. Assumes nothing.
--   risen_refused risen_above risen_not   the answer for a start behind another, by what was read of it
--   pair_malformed pair_range pair_second pair_both   the answer for two numbers, by what was read of them
--   fields_told                           the answer for two fields
--   above pairs                           what a start and its two numbers are proved by
use mathlib.Core.List.{List, []}
use mathlib.Core.Path.{◌≡◌, refl, sym, ap, ◌∙◌}
use Prim.Native.Nat.{ℕ, ◌≤◌, ◌<◌}
use borrow.Author.Tests.{lt-ltb, le-ltb, eq-eqb}
use lib.ListN.{length, get_or}
use Rattle.std.specs.Prelude.{Result, Ok, Err}
use Rattle.std.specs.Option.{unwrap_or}
use Rattle.std.specs.Result.{result_err}
use Rattle.node.specs.declared.ProcessNumber.{ProcessNumber}
use Rattle.rules.specs.Answers.{refused, done}
use Rattle.text.specs.declared.Fault.{Fault}
use Rattle.text.specs.declared.Fault.TheVariants.{Malformed, OutOfRange}
use Rattle.text.specs.Numbers.{malformed, out_of_range, Ranged, no_number, number_of, ranged_of}
use Rattle.text.specs.Parts.{fields_of}
use Rattle.text.specs.Results.{fault_number, ranged_told}
use Rattle.plan_line.specs.Lines.{Start, start, risen, not_rising, pair_of, start_of}
use Rattle.plan_line.specs.Ops.{worse}
use Rattle.plan_line.proofs.Told.{answered_done, answered_refused, err_fault}

module _ (last : ProcessNumber) (s : Start) where
  pub risen_refused : (x : Fault) → refused (fault_number x) ≡ start s → refused (fault_number x) ≡ start (risen last s)
  unfolding risen
  risen_refused x h =
      let k : s.refusal ≡ fault_number x = answered_refused s.refusal s _ (sym h) in
      h ∙ ap start (go x k)
    where
      go : (x : Fault) → s.refusal ≡ fault_number x → s ≡ risen last s
      go Malformed k = rw k
      go OutOfRange k = rw k

  pub risen_above : {t : Start} → done t ≡ start s → last.0 < t.process.0 → done t ≡ start (risen last s)
  unfolding risen
  risen_above {t} h l =
      let k = answered_done s.refusal s t (sym h) in
      let m : last.0 < s.process.0 = rw k.1 l in
      let is : risen last s ≡ s = rw (eq-eqb s.refusal 0 k.0, lt-ltb last.0 s.process.0 m) in
      h ∙ ap start (sym is)

  pub risen_not : {t : Start} → done t ≡ start s → t.process.0 ≤ last.0 → refused not_rising ≡ start (risen last s)
  unfolding risen
  risen_not {t} h l =
      let k = answered_done s.refusal s t (sym h) in
      let m : s.process.0 ≤ last.0 = rw k.1 l in
      rw (eq-eqb s.refusal 0 k.0, le-ltb last.0 s.process.0 m)

-- the process is 11, or it is 12 and the fault of the behaviour comes first where there is one
pub pair_malformed : (b : Result ℕ Fault) → refused malformed ≡ start (pair_of (no_number malformed) (ranged_told b))
unfolding worse
pair_malformed (Ok n) = refl
pair_malformed (Err Malformed) = refl
pair_malformed (Err OutOfRange) = refl

pub pair_range : (b : Result ℕ Fault) → refused (fault_number (unwrap_or (result_err b) OutOfRange)) ≡ start (pair_of (no_number out_of_range) (ranged_told b))
unfolding worse
pair_range (Ok n) = refl
pair_range (Err Malformed) = refl
pair_range (Err OutOfRange) = refl

pub pair_second : (i : ℕ) (x : Fault) → refused (fault_number x) ≡ start (pair_of (ranged_told (Ok i)) (ranged_told (Err x)))
unfolding worse
pair_second i Malformed = refl
pair_second i OutOfRange = refl

pub pair_both : (i b : ℕ) → done (record { refusal = 0; process = record { 0 = i }; behaviour = record { 0 = b } }) ≡ start (pair_of (ranged_told (Ok i)) (ranged_told (Ok b)))
unfolding worse
pair_both i b = refl

-- two fields, each read as a number
pub fields_told : (c : ℕ) (l : List ℕ) {x y : Ranged} {i j : List ℕ} → 2 ≡ length (fields_of l) → i ≡ get_or (fields_of l) 0 [] → j ≡ get_or (fields_of l) 1 []
    → x ≡ ranged_of (number_of i) 1 16 → y ≡ ranged_of (number_of j) 1 c → start (pair_of x y) ≡ start (start_of c (fields_of l))
unfolding start_of
fields_told c l e f g h k = rw (← e, ← f, ← g, h, k)

pub ruleset above = (risen_refused, risen_above, risen_not)

pub ruleset pairs = (err_fault, pair_malformed, pair_range, pair_second, pair_both, fields_told)
