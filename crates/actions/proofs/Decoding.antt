-- What a number stands for, by its kind, and that the parts which are read of it mean that. Assumes nothing.
--   Means a t     record t says what action a is, and where its owner's process and its row stand
--   meant         what is decoded of a number means the number's action
--   decoded_run decoded_timeout decoded_arrival, decoded_no_owner -no-kind -no-sender   what is decoded, by what the code tests
--   decode_encode the number of a step stands for the step
use mathlib.Core.Bool.{Bool, true, false, not, So, cond, and-false, false≢true}
use mathlib.Core.List.{◌∷◌, []}
use mathlib.Core.Path.{◌≡◌, refl, sym, ◌∙◌, ap}
use Prim.Native.Nat.{ℕ, ◌+◌, ◌-◌, ◌*◌, ◌/◌, ◌%◌, ◌≤◌, ◌<◌, min}
use native.Mathlib.Omega.{arith}
use native.Mathlib.Decide.{ℕ_discrete}
use borrow.Author.Tests.{not-false, eqb-true}
use lib.Dec.{eqb}
use lib.ListN.{get_or-eq_default}
use Rattle.node.specs.declared.ProcessNumber.{ProcessNumber}
use Rattle.node.specs.declared.Step.{Step}
use Rattle.node.specs.Nodes.{pair}
use Rattle.rules.specs.Steps.{Action, run, arrive, timeout, meaning, numbered}
use Rattle.node.specs.Values.{is_number}
use Rattle.rules.proofs.All.{parts}
use Rattle.rules.proofs.Records.{number_bounds}
use Rattle.actions.specs.declared.Decoded.{Decoded}
use Rattle.actions.specs.Numbers.{encode, decode, action_of}
use Rattle.actions.specs.Places.{process_at, row_at, decoded_of}

pub record Means (a : Action) (t : Decoded) : Type 0 where
  pub bad : t.bad ≡ not (numbered a)
  pub action : t.bad ≡ false → a ≡ cond t.arrives (arrive t.owner.0 t.from.0) (cond t.expires (timeout t.owner.0) (run t.owner.0))
  pub at : t.bad ≡ false → t.at ≡ t.owner.0 - 1
  pub apart : t.arrives ≡ true → t.expires ≡ false
  pub row : t.bad ≡ false → t.arrives ≡ true → t.row ≡ pair t.from.0 t.owner.0

-- ---- the action of a step, by its kind

module _ (kind : ℕ) (i j : ProcessNumber) where
  abbrev said : Action
  said = meaning (record { kind = min kind 255; owner = i; from = j })

  said_run : kind ≡ 0 → said ≡ run i.0
  unfolding meaning
  said_run h = rw h

  said_arrive : kind ≡ 1 → said ≡ arrive i.0 j.0
  unfolding meaning
  said_arrive h = rw h

  said_timeout : kind ≡ 2 → said ≡ timeout i.0
  unfolding meaning
  said_timeout h = rw h

  said_none : 2 < kind → said ≡ run 0
  unfolding meaning
  said_none h = let z : 3 ≤ min kind 255 = omega (arith, h) in get_or-eq_default (run i.0 ∷ arrive i.0 j.0 ∷ timeout i.0 ∷ []) (run 0) z

none_numbered : {a : Action} → a ≡ run 0 → numbered a ≡ false
unfolding numbered is_number
none_numbered e = rw e

-- ---- what is decoded

module _ (k : ℕ) where
  abbrev i : ℕ
  i = k / 256 % 256

  abbrev j : ℕ
  j = k % 256

  kind_run : k / 65536 ≡ 0 → action_of k ≡ run i
  unfolding action_of decode
  kind_run h = said_run (k / 65536) (record { 0 = i }) (record { 0 = j }) h

  kind_arrive : k / 65536 ≡ 1 → action_of k ≡ arrive i j
  unfolding action_of decode
  kind_arrive h = said_arrive (k / 65536) (record { 0 = i }) (record { 0 = j }) h

  kind_timeout : k / 65536 ≡ 2 → action_of k ≡ timeout i
  unfolding action_of decode
  kind_timeout h = said_timeout (k / 65536) (record { 0 = i }) (record { 0 = j }) h

  kind_none : 2 < k / 65536 → action_of k ≡ run 0
  unfolding action_of decode
  kind_none h = said_none (k / 65536) (record { 0 = i }) (record { 0 = j }) h

  -- what is decoded, by what the code tests
  abbrev shown : Bool → Bool → Bool → ℕ → ℕ → Decoded
  shown bad arrives expires at row = record { bad = bad; arrives = arrives; expires = expires; owner = record { 0 = i }; from = record { 0 = j }; at = at; row = row }

  -- what is decoded of a number that is no step
  abbrev pub Unnumbered : Type 0
  Unnumbered = decoded_of k ≡ shown true (eqb (k / 65536) 1) (eqb (k / 65536) 2) 0 0

  none_in : numbered (action_of k) ≡ false → Unnumbered
  unfolding decoded_of
  none_in e = rw e

  pub decoded_run : k / 65536 ≡ 0 → is_number i ≡ true → decoded_of k ≡ shown false false false (process_at i) 0
  unfolding decoded_of numbered
  decoded_run h e = rw (kind_run h, h, e)

  pub decoded_timeout : k / 65536 ≡ 2 → is_number i ≡ true → decoded_of k ≡ shown false false true (process_at i) 0
  unfolding decoded_of numbered
  decoded_timeout h e = rw (kind_timeout h, h, e)

  pub decoded_arrival : k / 65536 ≡ 1 → is_number i ≡ true → is_number j ≡ true → decoded_of k ≡ shown false true false (process_at i) (row_at j i)
  unfolding decoded_of numbered
  decoded_arrival h e f = rw (kind_arrive h, h, e, f)

  pub decoded_no_sender : k / 65536 ≡ 1 → is_number j ≡ false → Unnumbered
  unfolding numbered
  decoded_no_sender h e = none_in (rw (kind_arrive h, e) (and-false (is_number i)))

  pub decoded_no_kind : 2 < k / 65536 → Unnumbered
  decoded_no_kind h = none_in (none_numbered (kind_none h))

  pub decoded_no_owner : is_number i ≡ false → Unnumbered
  unfolding numbered
  decoded_no_owner e = go (ℕ_discrete (k / 65536) 0) (ℕ_discrete (k / 65536) 1) (ℕ_discrete (k / 65536) 2)
    where
      go : Dec (k / 65536 ≡ 0) → Dec (k / 65536 ≡ 1) → Dec (k / 65536 ≡ 2) → Unnumbered
      go (yes h) d f = none_in (rw (kind_run h) e)
      go (no g) (yes h) f = none_in (rw (kind_arrive h, e))
      go (no g) (no h) (yes f) = none_in (rw (kind_timeout f) e)
      go (no g) (no h) (no f) = decoded_no_kind (omega (arith, g, h, f))

  at_here : So (is_number i) → process_at i ≡ i - 1
  at_here h = let x = number_bounds i h in omega (arith, x)

  -- a run or a timeout
  of_owner : (x : Action) → action_of k ≡ x → numbered x ≡ is_number i → eqb (k / 65536) 1 ≡ false → x ≡ cond (eqb (k / 65536) 2) (timeout i) (run i) → Means (action_of k) (decoded_of k)
  unfolding decoded_of
  of_owner x is own a which =
      let known : not (numbered (action_of k)) ≡ false → So (is_number i) = λ ok. rw (is, own) at (not-false (numbered (action_of k)) ok) in
      record {
        bad = refl;
        action = λ ok. is ∙ which ∙ rw a;
        at = λ ok. rw (not-false (numbered (action_of k)) ok) (at_here (known ok));
        apart = λ arr. absurd (false≢true (sym a ∙ arr));
        row = λ ok arr. absurd (false≢true (sym a ∙ arr));
      }

  of_kind : Dec (k / 65536 ≡ 0) → Dec (k / 65536 ≡ 1) → Dec (k / 65536 ≡ 2) → Means (action_of k) (decoded_of k)
  unfolding decoded_of numbered
  of_kind (yes h) d f = of_owner (run i) (kind_run h) refl (rw h) (rw h)
  of_kind (no g) (yes h) f =
      let a : eqb (k / 65536) 1 ≡ true = rw h in
      let known : not (numbered (action_of k)) ≡ false → So (is_number i) × So (is_number j) = λ ok. parts (is_number i) (is_number j)
      (rw (kind_arrive h) at (not-false (numbered (action_of k)) ok)) in
      record {
        bad = refl;
        action = λ ok. kind_arrive h ∙ rw a;
        at = λ ok. rw (not-false (numbered (action_of k)) ok) (at_here (known ok).0);
        apart = λ arr. rw h;
        row = λ ok arr. let x = number_bounds i (known ok).0 in let y = number_bounds j (known ok).1 in rw (not-false (numbered (action_of k)) ok, a) (omega (arith, x, y));
      }
  of_kind (no g) (no h) (yes f) = of_owner (timeout i) (kind_timeout f) refl (rw f) (rw f)
  of_kind (no g) (no h) (no f) =
      let bad : not (numbered (action_of k)) ≡ false → ⊥ = λ ok. false≢true (sym ok ∙ ap not (none_numbered (kind_none (omega (arith, g, h, f))))) in
      record { bad = refl; action = λ ok. absurd (bad ok); at = λ ok. absurd (bad ok); apart = λ arr. let q = eqb-true (k / 65536) 1 arr in absurd (h q); row = λ ok arr. absurd (bad ok) }

  pub meant : (t : Decoded) → t ≡ decoded_of k → Means (action_of k) t
  meant t e = rw e (of_kind (ℕ_discrete (k / 65536) 0) (ℕ_discrete (k / 65536) 1) (ℕ_discrete (k / 65536) 2))

pub decode_encode : (s : Step) → s.kind < 256 → s.owner.0 < 256 → s.from.0 < 256 → decode (encode s) ≡ s
unfolding decode encode
decode_encode s a b c =
    let k = s.kind * 65536 + s.owner.0 * 256 + s.from.0 in
    let x : min (k / 65536) 255 ≡ s.kind = omega (arith, a, b, c) in
    let y : k / 256 % 256 ≡ s.owner.0 = omega (arith, a, b, c) in
    let z : k % 256 ≡ s.from.0 = omega (arith, a, b, c) in
    rw (x, y, z)
