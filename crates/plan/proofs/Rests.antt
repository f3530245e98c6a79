-- Laws of a text of which some lines are read: the next line, and what is read behind what was read. Assumes nothing.
--   Within                      the lines that are read and the bytes that are left are no more than a plan has bytes
--   within_all within_line      so before the first line, and behind one line more
--   line_end_lem                the next line lies within what is left
--   line_short                  numbers of lines and places are small
--   then_on_lem                 behind a result, what is read next decides
--   starts_stop starts_end      behind the starts, a refusal of them is told, and else the end of the text decides
use mathlib.Core.List.{List}
use mathlib.Core.Path.{◌≡◌, ap, ◌∙◌}
use Prim.Native.Nat.{ℕ, ◌+◌, ◌≤◌, ◌<◌}
use Prim.Native.Char.{code}
use native.Mathlib.Omega.{arith}
use lib.ListN.{length, drop, length-drop}
use Rattle.std.specs.Prelude.{Result}
use Rattle.node.specs.declared.Node.{Node}
use Rattle.node.specs.declared.Op.{Op}
use Rattle.text.specs.Parts.{place_from}
use Rattle.text.proofs.Parts.{place_inside}
use Rattle.plan.specs.declared.fault.Refused.{Refused}
use Rattle.plan.specs.declared.rest.Rest.{Rest}
use Rattle.plan.specs.Plans.{start_lines, node_of, empty_node, with_code, with_start, with_each}
use Rattle.plan.specs.Reading.{Left, Read, bad, good, then_on, end_of}
use Rattle.plan.specs.Rests.{left_of, mapped, told}
use Rattle.plan.proofs.Loops.{then_more, made_stop, made_more}
use Rattle.plan.proofs.Whole.{starts_in, ends_in, ended}

-- ---- the next line
abbrev pub Within : Rest → Type 0
Within r = r.read + length r.text.now ≤ 16384

pub within_all : (r : Rest) → length r.text.now ≤ 16384 → r.read ≡ 0 → Within r
within_all r h e = omega arith

module _ (r : Rest) {e : ℕ} (h : e ≡ place_from (code "\n") 0 r.text.now) where
  pub line_end_lem : e ≤ length r.text.now
  line_end_lem = place_inside (code "\n") r.text.now {at = 0} (omega arith) h

  module _ (w : Within r) where
    pub line_short : e < length r.text.now → ((left_of r).first < 65536) × (e < 65536)
    line_short l = (omega arith, omega arith)

    pub within_line : (s : Rest) → e < length r.text.now → s.text.now ≡ drop (e + 1) r.text.now → s.read ≡ r.read + 1 → Within s
    within_line s l t n = omega (arith, ap length t, length-drop (e + 1) r.text.now)

-- ---- one thing, and then another
module _ {A B C : Type 0} {y : A} {l : Left} {r : Read A} (q : good y l ≡ r) (f : A → Left → Read B) (F : B → C) where
  pub then_on_lem : {T : Type 0} (G : T → C) (x : Result T Refused) (h : Left) → told G x h ≡ mapped F (f y l) → told G x h ≡ mapped F (then_on r f)
  then_on_lem G x h p = then_more r f F q p

-- ---- the starts, and then the end of the text
module _ (c : ℕ) (codes : List (List Op)) (l : Left) {coded : Node} (is : coded ≡ with_each with_code empty_node codes) where
  pub starts_stop : {k n : ℕ} → bad k n ≡ mapped (with_each with_start coded) (start_lines c l) → bad k n ≡ mapped node_of (starts_in c codes l)
  starts_stop q = made_stop (start_lines c l) (ends_in codes) node_of (with_each with_start coded) q

  pub starts_end : {A : Type 0} {node : Node} (r : Result A Refused) (h : Left) → good node h ≡ mapped (with_each with_start coded) (start_lines c l)
      → told {B = ℕ} (λ x. 1) r h ≡ end_of 1 h → told (λ x. node) r h ≡ mapped node_of (starts_in c codes l)
  unfolding node_of
  starts_end r h q e =
      made_more (start_lines c l) (ends_in codes) node_of (with_each with_start coded) q
      (λ starts g. ended r h e node_of (record { codes = codes; starts = starts }) (g ∙ ap (λ (n : Node). with_each with_start n starts) is))
