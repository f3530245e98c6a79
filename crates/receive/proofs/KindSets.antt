-- Laws of sets of kinds: a digit of a number with one digit more, what is noted of clauses, and that the set of all clauses takes just the messages
-- whose kind one of them can take. Assumes nothing.
--   digit_or                    a digit of a number to which one was joined
--   value_below message_below   a kind of messages is below 8
--   noted_exact -kind -past     one for each answer of `noted`;  widened_any -kept  of `widened`;  takes_at  of `takes`
--   kinds_taken left_out        the set of all clauses takes the kinds that one of them can take; where it does not, the later messages decide
--   noting_turn noting_end      the turns of a loop that notes clauses
use mathlib.Core.Bool.{Bool, true, false, cond, ◌||◌, or-true, or-false}
use mathlib.Core.List.{List, [], ◌∷◌}
use mathlib.Core.Option.{Option}
use mathlib.Core.Path.{◌≡◌, refl, sym, ◌∙◌, ap, ap₂}
use Prim.Native.Nat.{ℕ, zero, suc, ◌+◌, ◌*◌, ◌/◌, ◌%◌, ◌^◌, ◌≤◌, ◌<◌, max}
use native.Mathlib.Nat.{pow-suc}
use native.Mathlib.Numerals.{add-one}
use native.Mathlib.Omega.{arith}
use borrow.Author.Tests.{ne_eqb, lt-ltb, le-ltb, ltb-false}
use lib.Bits.{bit_or, or_step, or_zero_r}
use lib.Dec.{eqb, ltb, eqb-zero-suc, eqb-suc-zero, eqb-suc-suc}
use lib.ListN.{length, get_or, drop, drop_of_length-le}
use lib.Pow.{shr-shr, shl_exact}
use lib.Seq.{drop-cons}
use Rattle.node.specs.declared.Message.{Message}
use Rattle.node.specs.declared.Message.TheVariants.{Plain, Note, Down}
use Rattle.node.specs.declared.Op.{Op}
use Rattle.node.specs.declared.Value.{Value}
use Rattle.node.specs.declared.Value.TheVariants.{Int, Atom, Pid}
use Rattle.node.specs.Nodes.{no_op}
use Rattle.node.specs.Values.{exact_kind, any_kind, kind_of, message_kind}
use Rattle.rules.specs.Consult.{can_take, one_can_take}
use Rattle.rules.specs.Receive.{Fit, first_clause}
use Rattle.rules.proofs.Consult.{none_takes}
use Rattle.receive.specs.declared.Kinds.{Kinds}
use Rattle.receive.specs.Kinds.{in_kinds, no_kinds, with_kind, noted, noted_all, widened, takes}

-- ---- digits

half_power : (j : ℕ) → (2 ^ suc j / 2 ≡ 2 ^ j) × (2 ^ suc j % 2 ≡ 0)
half_power j = let p = pow-suc 2 j in (omega (arith, p), omega (arith, p))

next_digit : (a k : ℕ) → a / 2 ^ suc k ≡ a / 2 / 2 ^ k
next_digit a k = let one : suc k ≡ 1 + k = omega arith in ap (λ (x : ℕ). a / 2 ^ x) one ∙ sym (shr-shr a 1 k)

-- the lowest digit of `or`, and the others
lowest_or : (a b : ℕ) → bit_or a b % 2 ≡ max (a % 2) (b % 2)
lowest_or a b = let s = or_step a b in omega (arith, s)

half_or : (a b : ℕ) → bit_or a b / 2 ≡ bit_or (a / 2) (b / 2)
half_or a b = let s = or_step a b in omega (arith, s)

digit_or : (k j a : ℕ) → eqb (bit_or a (2 ^ j) / 2 ^ k % 2) 1 ≡ (eqb (a / 2 ^ k % 2) 1 || eqb j k)
digit_or zero zero a =
    let s = lowest_or a 1 in
    let x : bit_or a 1 / 1 % 2 ≡ 1 = omega (arith, s) in
    rw x (sym (or-true (eqb (a / 1 % 2) 1)))
digit_or zero (suc j) a =
    let s = lowest_or a (2 ^ suc j) in
    let p = (half_power j).1 in
    let x : bit_or a (2 ^ suc j) / 1 % 2 ≡ a / 1 % 2 = omega (arith, s, p) in
    rw (x, eqb-suc-zero j) (sym (or-false (eqb (a / 1 % 2) 1)))
digit_or (suc k) zero a =
    ap (λ (x : ℕ). eqb (x % 2) 1) (next_digit (bit_or a 1) k ∙ ap (λ (x : ℕ). x / 2 ^ k) (half_or a 1 ∙ or_zero_r (a / 2)) ∙ sym (next_digit a k))
    ∙ rw (eqb-zero-suc k) (sym (or-false (eqb (a / 2 ^ suc k % 2) 1)))
digit_or (suc k) (suc j) a =
    ap (λ (x : ℕ). eqb (x % 2) 1) (next_digit (bit_or a (2 ^ suc j)) k ∙ ap (λ (x : ℕ). x / 2 ^ k) (half_or a (2 ^ suc j) ∙ ap (bit_or (a / 2)) (half_power j).0))
    ∙ digit_or k j (a / 2)
    ∙ rw (eqb-suc-suc j k, next_digit a k)

-- ---- a kind is noted

-- the kind under which clause c is noted
abbrev noted_kind : Op → ℕ
noted_kind c = cond (eqb c.small exact_kind) (kind_of c.value) c.small

in_with : (k j : ℕ) (ks : Kinds) → k < 8 → in_kinds k (with_kind j ks) ≡ (in_kinds k ks || eqb j k)
unfolding in_kinds with_kind
in_with k j ks h = go (ltb j 8) refl
  where
    go : (b : Bool) → ltb j 8 ≡ b → eqb ((cond b (record { 0 = bit_or ks.0 (2 ^ j) }) ks).0 / 2 ^ k % 2) 1 ≡ (eqb (ks.0 / 2 ^ k % 2) 1 || eqb j k)
    go true e = digit_or k j ks.0
    go false e =
        let other : eqb j k ≡ false = let past = ltb-false j 8 e in ne_eqb j k (λ same. omega (arith, past, same, h)) in
        rw other (sym (or-false (eqb (ks.0 / 2 ^ k % 2) 1)))

-- one of the clauses is noted under kind k
abbrev one_noted : ℕ → List Op → Bool
one_noted k [] = false
one_noted k (c ∷ cs) = eqb (noted_kind c) k || one_noted k cs

or_assoc : (a b c : Bool) → (a || b || c) ≡ (a || (b || c))
or_assoc true b c = refl
or_assoc false b c = refl

in_noted_all : (k : ℕ) (cs : List Op) (ks : Kinds) → k < 8 → in_kinds k (noted_all ks cs) ≡ (in_kinds k ks || one_noted k cs)
unfolding noted
in_noted_all k [] ks h = sym (or-false (in_kinds k ks))
in_noted_all k (c ∷ cs) ks h =
    in_noted_all k cs (noted ks c) h
    ∙ ap (λ (b : Bool). b || one_noted k cs) (in_with k (noted_kind c) ks h)
    ∙ or_assoc (in_kinds k ks) (eqb (noted_kind c) k) (one_noted k cs)

-- ---- kinds of messages

value_kind_lem : (P : ℕ → Type 0) → P 2 → P 3 → P 4 → (v : Value) → P (kind_of v)
value_kind_lem P a b c (Int z) = a
value_kind_lem P a b c (Atom n) = b
value_kind_lem P a b c (Pid j) = c

message_kind_lem : (P : ℕ → Type 0) → P 2 → P 3 → P 4 → P 5 → P 6 → (m : Message) → P (message_kind m)
message_kind_lem P a b c d e (Plain v) = value_kind_lem P a b c v
message_kind_lem P a b c d e (Note j v) = d
message_kind_lem P a b c d e (Down j v) = e

-- a kind of messages has a number below 8, the empty set has it not, and the set of all five has it
record MessageKind (k : ℕ) : Type 0 where
  below : k < 8
  not_none : in_kinds k no_kinds ≡ false
  in_all : in_kinds k (record { 0 = 124 }) ≡ true

kind_known : (m : Message) → MessageKind (message_kind m)
unfolding in_kinds
kind_known =
    message_kind_lem MessageKind
    (record { below = omega arith; not_none = refl; in_all = refl })
    (record { below = omega arith; not_none = refl; in_all = refl })
    (record { below = omega arith; not_none = refl; in_all = refl })
    (record { below = omega arith; not_none = refl; in_all = refl })
    (record { below = omega arith; not_none = refl; in_all = refl })

-- ---- one for each answer of the methods

pub value_below : (v : Value) → kind_of v < 8
value_below = value_kind_lem (λ (k : ℕ). k < 8) (omega arith) (omega arith) (omega arith)

pub message_below : (m : Message) → message_kind m < 8
message_below m = (kind_known m).below

-- 1 << k
shifted : (k : ℕ) → k < 8 → 1 * 2 ^ k % 18446744073709551616 ≡ 2 ^ k
shifted k h = let one : 1 * 2 ^ k ≡ 2 ^ k = omega arith in shl_exact {a = 1} 1 k 64 (omega arith) (omega arith) ∙ one

-- x << k is joined
module _ (ks : Kinds) (c : Op) (x k : ℕ) where
  pub noted_exact : c.small ≡ exact_kind → k ≡ kind_of c.value → x ≡ 1 → record { 0 = bit_or ks.0 (x * 2 ^ k % 18446744073709551616) } ≡ noted ks c
  unfolding noted with_kind
  noted_exact h e q = let b = value_below c.value in rw (h, lt-ltb (kind_of c.value) 8 b, q, e, shifted (kind_of c.value) b)

  pub noted_kind_lem : (c.small ≡ exact_kind → ⊥) → c.small < 8 → k ≡ c.small → x ≡ 1 → record { 0 = bit_or ks.0 (x * 2 ^ k % 18446744073709551616) } ≡ noted ks c
  unfolding noted with_kind
  noted_kind_lem h g e q = rw (ne_eqb c.small exact_kind h, lt-ltb c.small 8 g, q, e, shifted c.small g)

module _ (ks : Kinds) where
  pub noted_past : (c : Op) → (c.small ≡ exact_kind → ⊥) → 8 ≤ c.small → ks ≡ noted ks c
  unfolding noted with_kind
  noted_past c h g = rw (ne_eqb c.small exact_kind h, le-ltb c.small 8 g)

  pub widened_any : {x : ℕ} → ks.0 / 2 ^ any_kind % 2 ≡ 1 → x ≡ 124 → record { 0 = x } ≡ widened ks
  unfolding widened in_kinds
  widened_any h e = rw (h, e)

  pub widened_kept : (ks.0 / 2 ^ any_kind % 2 ≡ 1 → ⊥) → ks ≡ widened ks
  unfolding widened in_kinds
  widened_kept h = rw (ne_eqb (ks.0 / 2 ^ any_kind % 2) 1 h)

  pub takes_at : (m : Message) {k : ℕ} → k ≡ message_kind m → eqb (ks.0 / 2 ^ k % 2) 1 ≡ takes ks m
  unfolding takes in_kinds
  takes_at m e = rw e

-- ---- all clauses are noted

-- a clause can take the kind under which it is noted, and all where that is `any`
can_take_lem : (c : Op) (k : ℕ) → can_take c k ≡ (eqb (noted_kind c) any_kind || eqb (noted_kind c) k)
unfolding can_take
can_take_lem c k = go (eqb c.small exact_kind)
  where
    go : (b : Bool) → cond b (eqb (kind_of c.value) k) (eqb c.small any_kind || eqb c.small k)
        ≡ (eqb (cond b (kind_of c.value) c.small) any_kind || eqb (cond b (kind_of c.value) c.small) k)
    go true = value_kind_lem (λ (j : ℕ). eqb j k ≡ (eqb j any_kind || eqb j k)) refl refl refl c.value
    go false = refl

or_swap : (a b c d : Bool) → (a || b || (c || d)) ≡ (a || c || (b || d))
or_swap true b c d = refl
or_swap false true true d = refl
or_swap false true false d = refl
or_swap false false c d = refl

one_can_take_lem : (cs : List Op) (k : ℕ) → one_can_take cs k ≡ (one_noted any_kind cs || one_noted k cs)
one_can_take_lem [] k = refl
one_can_take_lem (c ∷ cs) k =
    ap₂ (λ (a b : Bool). a || b) (can_take_lem c k) (one_can_take_lem cs k)
    ∙ or_swap (eqb (noted_kind c) any_kind) (eqb (noted_kind c) k) (one_noted any_kind cs) (one_noted k cs)

any_noted : (cs : List Op) → in_kinds any_kind (noted_all no_kinds cs) ≡ one_noted any_kind cs
unfolding in_kinds
any_noted cs = in_noted_all any_kind cs no_kinds (omega arith)

pub kinds_taken : (cs : List Op) (m : Message) → takes (widened (noted_all no_kinds cs)) m ≡ one_can_take cs (message_kind m)
unfolding takes widened
kinds_taken cs m = go (in_kinds any_kind all) refl ∙ sym (one_can_take_lem cs k)
  where
    k : ℕ
    k = message_kind m

    all : Kinds
    all = noted_all no_kinds cs

    known : MessageKind k
    known = kind_known m

    noted_here : in_kinds k all ≡ one_noted k cs
    noted_here = in_noted_all k cs no_kinds known.below ∙ rw known.not_none

    go : (b : Bool) → in_kinds any_kind all ≡ b → in_kinds k (cond b (record { 0 = 124 }) all) ≡ (one_noted any_kind cs || one_noted k cs)
    go true e = known.in_all ∙ rw (sym (any_noted cs) ∙ e)
    go false e = noted_here ∙ rw (sym (any_noted cs) ∙ e)

pub left_out : (cs : List Op) (m : Message) → takes (widened (noted_all no_kinds cs)) m ≡ false → (i : ℕ) (later : Option Fit) → first_clause cs i m later ≡ later
left_out cs m h = none_takes cs m (sym (kinds_taken cs m) ∙ h)

-- ---- the turns of a loop that notes clauses

module _ (cs : List Op) (ks : Kinds) (k : ℕ) {g : Kinds} where
  pub noting_turn : k < length cs → g ≡ noted_all ks (drop k cs) → g ≡ noted_all (noted ks (get_or cs k no_op)) (drop (k + 1) cs)
  noting_turn h e = e ∙ rw (drop-cons cs k no_op h, add-one k)

  pub noting_end : length cs ≤ k → g ≡ noted_all ks (drop k cs) → g ≡ ks
  noting_end h e = e ∙ rw (drop_of_length-le cs {i = k} h)
