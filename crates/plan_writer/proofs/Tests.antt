-- Laws of the test of a plan: a row of starts, one by one, and the whole. Assumes nothing.
--   starts_counted           at the start of the loop every start is left
--   rise_stop rise_more rise_end   a start that does not fit, one that does, and none left
--   lent_count lent_start          how many starts are lent, and which they are
--   plan_refused plan_tested       behaviours that are not sound, and the starts behind those that are
--   codes_few codes_sound_lem starts_within code_within   what a plan that passes the test gives its writers
use mathlib.Core.Bool.{Bool, true, false, So, ◌&&◌}
use mathlib.Core.List.{List, []}
use mathlib.Core.Path.{◌≡◌, sym, ap, ◌∙◌}
use Prim.Native.Nat.{ℕ, ◌+◌, ◌≤◌, ◌<◌}
use native.Mathlib.Omega.{arith}
use borrow.Author.Tests.{leb-true}
use lib.Dec.{leb}
use lib.ListN.{length, get_or, take, drop, drop_of_length-le, length-take}
use lib.Seq.{get_or-take}
use Rattle.node.specs.declared.Behaviours.{Behaviours}
use Rattle.node.specs.declared.Op.{Op}
use Rattle.node.specs.declared.Starts.{Starts}
use Rattle.node.specs.Lists.{all_of}
use Rattle.node.specs.Starts.{no_start, starts_in}
use Rattle.node.proofs.Lists.{firsts_get_d, firsts_length}
use Rattle.rules.specs.Behaviours.{code_sound}
use Rattle.rules.proofs.All.{parts, all_of_at}
use Rattle.rules.proofs.Places.{code_short}
use Rattle.behaviours.specs.Codes.{codes_in}
use Rattle.behaviours.proofs.Codes.{code_length, codes_at, codes_length}
use Rattle.text.proofs.Parts.{drop_next}
use Rattle.plan_writer.specs.Answers.{codes_of, start_fits, starts_rise, starts_sound, plan_sound}

-- ---- starts

pub starts_length : (s : Starts) → length (starts_in s) ≡ s.count
starts_length s = firsts_length no_start s.count s.list

module _ (c : ℕ) (s : Starts) where
  -- the count that code tests is that of the starts
  pub starts_count : {t : Bool} → t ≡ (leb 1 s.count && leb s.count 16) → t ≡ false → false ≡ starts_sound c (starts_in s)
  starts_count is e = rw (starts_length s, sym is ∙ e)

  module _ (last k : ℕ) where
    abbrev left : Bool
    left = starts_rise c last (drop k (starts_in s))

    rise_here : k < s.count → left ≡ (start_fits c last (get_or s.list k no_start) && starts_rise c (get_or s.list k no_start).process.0 (drop (k + 1) (starts_in s)))
    unfolding starts_rise
    rise_here h = rw (drop_next (starts_in s) k no_start (omega (arith, starts_length s)), firsts_get_d no_start s.count s.list k h)

    module _ {g : Bool} (is : g ≡ starts_rise c last (drop k (starts_in s))) {t : Bool} (h : k < s.count) (fits : t ≡ start_fits c last (get_or s.list k no_start)) where
      pub rise_stop : t ≡ false → false ≡ g
      rise_stop e = sym (is ∙ rise_here h ∙ rw (sym fits ∙ e))

      pub rise_more : t ≡ true → g ≡ starts_rise c (get_or s.list k no_start).process.0 (drop (k + 1) (starts_in s))
      rise_more e = is ∙ rise_here h ∙ rw (sym fits ∙ e)

    pub rise_end : {g : Bool} → g ≡ starts_rise c last (drop k (starts_in s)) → s.count ≤ k → true ≡ g
    unfolding starts_rise
    rise_end is h = sym (is ∙ rw (drop_of_length-le (starts_in s) {i = k} (omega (arith, starts_length s))))

  -- where the count is right, the starts decide
  module _ {t : Bool} (is : t ≡ (leb 1 s.count && leb s.count 16)) (e : t ≡ true) where
    pub starts_counted : starts_sound c (starts_in s) ≡ starts_rise c 0 (starts_in s)
    starts_counted = rw (starts_length s, sym is ∙ e)

    pub starts_few : s.count ≤ 16
    starts_few = leb-true s.count 16 (parts (leb 1 s.count) (leb s.count 16) (sym is ∙ e)).1

-- the starts as the code lends them
module _ (s : Starts) (few : s.count ≤ length s.list) where
  pub lent_count : length (take s.count s.list) ≡ s.count
  lent_count = length-take s.count s.list ∙ omega (arith, few)

  pub lent_start : (k : ℕ) → k < s.count → get_or (take s.count s.list) k no_start ≡ get_or s.list k no_start
  lent_start k h = get_or-take s.count s.list k no_start h

-- ---- behaviours and starts

module _ (b : Behaviours) (s : Starts) where
  abbrev tested : Bool
  tested = leb 1 b.count && leb b.count 8 && all_of (code_sound b.count) (codes_of b)

  plan_test : plan_sound (codes_of b) (starts_in s) ≡ (tested && starts_sound b.count (starts_in s))
  unfolding plan_sound
  plan_test = rw (codes_length b.count b.lens b.ops)

  module _ {t : Bool} (is : t ≡ tested) where
    pub plan_refused : t ≡ false → false ≡ plan_sound (codes_of b) (starts_in s)
    plan_refused e = sym (plan_test ∙ ap (λ (x : Bool). x && starts_sound b.count (starts_in s)) (sym is ∙ e))

    pub plan_tested : {r : Bool} → t ≡ true → r ≡ starts_sound b.count (starts_in s) → r ≡ plan_sound (codes_of b) (starts_in s)
    plan_tested e q = q ∙ sym (plan_test ∙ ap (λ (x : Bool). x && starts_sound b.count (starts_in s)) (sym is ∙ e))

  -- what the writers ask for
  module _ (h : So (plan_sound (codes_of b) (starts_in s))) where
    halves : So tested × So (starts_sound b.count (starts_in s))
    halves = parts tested (starts_sound b.count (starts_in s)) (sym plan_test ∙ h)

    pub codes_few : b.count ≤ 8
    codes_few =
        let sizes = parts (leb 1 b.count && leb b.count 8) (all_of (code_sound b.count) (codes_of b)) halves.0 in
        leb-true b.count 8 (parts (leb 1 b.count) (leb b.count 8) sizes.0).1

    pub codes_sound_lem : So (all_of (code_sound b.count) (codes_of b))
    codes_sound_lem = (parts (leb 1 b.count && leb b.count 8) (all_of (code_sound b.count) (codes_of b)) halves.0).1

    pub starts_within : s.count ≤ 16
    starts_within =
        let n = length (starts_in s) in
        let sizes = parts (leb 1 n && leb n 16) (starts_rise b.count 0 (starts_in s)) halves.1 in
        rw (starts_length s) at (leb-true n 16 (parts (leb 1 n) (leb n 16) sizes.0).1)

-- ---- a behaviour has at most 32 ops

pub code_within : (c : ℕ) (lens : List ℕ) (ops : List Op) (k : ℕ) → So (all_of (code_sound c) (codes_in c lens ops)) → k < c → get_or lens k 0 ≤ 32
code_within c lens ops k h l =
    let x = get_or (codes_in c lens ops) k [] in
    let is : length x ≡ get_or lens k 0 = ap length (codes_at c lens ops k l) ∙ code_length (get_or lens k 0) ops k in
    let one = all_of_at (code_sound c) [] (codes_in c lens ops) h k (omega (arith, codes_length c lens ops)) in
    rw is at (code_short c x one)
