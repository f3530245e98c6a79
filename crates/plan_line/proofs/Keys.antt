-- Laws of a line with a key: what stands behind it decides, and a wrong key is 11. Assumes nothing.
--   prefix_equal          the library's `strip_prefix` compares as `equal` does
--   key_long              a line with a key is as long as that
--   key_wrong key_right   the answer for a line, where its key is wrong and where it is right
--   keys                  what a line with a key is proved by
use mathlib.Core.Bool.{Bool, true, false}
use mathlib.Core.List.{List, [], ◌∷◌}
use mathlib.Core.Path.{◌≡◌, refl, sym, ap, ◌∙◌}
use Prim.Native.Nat.{ℕ, ◌≤◌}
use native.Mathlib.Omega.{arith}
use borrow.Author.Tests.{eq-eqb, eqb-true, eqb-false, ne_eqb}
use lib.Dec.{eqb}
use lib.ListN.{length, take, drop, length-take}
use lib.Pointwise.{pointwise}
use Rattle.text.specs.Parts.{equal, starts_with}
use Rattle.text.proofs.Parts.{starts_front}
use Rattle.plan_line.specs.Lines.{behind_key}
use Rattle.plan_line.proofs.Told.{err_told, number_told}

eqb_turned : (a b : ℕ) (t : Bool) → eqb a b ≡ t → eqb b a ≡ t
eqb_turned a b true e = eq-eqb b a (sym (eqb-true a b e))
eqb_turned a b false e = ne_eqb b a (λ q. eqb-false a b e (sym q))

prefix_equal : (k l : List ℕ) → pointwise eqb l k ≡ equal k l
unfolding equal
prefix_equal [] [] = refl
prefix_equal [] (b ∷ l) = refl
prefix_equal (a ∷ k) [] = refl
prefix_equal (a ∷ k) (b ∷ l) = rw (eqb_turned a b (eqb a b) refl, prefix_equal k l)

pub prefix_starts : (k l : List ℕ) → pointwise eqb (take (length k) l) k ≡ starts_with k l
unfolding starts_with
prefix_starts k l = prefix_equal k (take (length k) l)

module _ (key line : List ℕ) {t : Bool} (h : t ≡ starts_with key line) where
  pub key_long : t ≡ true → length key ≤ length line
  key_long e = omega (arith, ap length (starts_front key line (sym h ∙ e)), length-take (length key) line)

module _ (key line : List ℕ) {A B : Type 0} (told : A → B) (wrong : A) (f : List ℕ → A) where
  pub key_wrong : starts_with key line ≡ false → told wrong ≡ told (behind_key key wrong f line)
  key_wrong h = rw h

  pub key_right : {rest : List ℕ} {x : B} → (starts_with key line ≡ true) × (rest ≡ drop (length key) line) → x ≡ told (f rest) → x ≡ told (behind_key key wrong f line)
  key_right h e = rw (h.0, ← h.1) e

pub ruleset keys = (err_told, number_told, key_wrong, key_right)
