-- Mail before clauses: what takes a message can take its kind, so a message of another kind can be left out; and how many clauses are consulted at
-- most. Assumes nothing.
--   kind_taken      a clause that takes a message can take its kind
--   none_takes      where no clause can take the kind of a message, the later messages decide
--   same_fit few_consulted   the guarantees
use mathlib.Core.Bool.{Bool, true, false, cond, ◌||◌, false≢true}
use mathlib.Core.List.{List, [], ◌∷◌}
use mathlib.Core.Option.{Option, some}
use mathlib.Core.Path.{◌≡◌, refl, sym, ◌∙◌}
use Prim.Native.Nat.{ℕ, suc, ◌+◌, ◌*◌, ◌≤◌}
use native.Mathlib.Omega.{arith}
use borrow.Author.Tests.{eqb-true, eq-eqb}
use lib.Dec.{eqb}
use lib.ListN.{length}
use Rattle.node.specs.declared.Message.{Message}
use Rattle.node.specs.declared.Message.TheVariants.{Plain, Note, Down}
use Rattle.node.specs.declared.Op.{Op}
use Rattle.node.specs.declared.Value.{Value}
use Rattle.node.specs.Values.{exact_kind, any_kind, kind_of, message_kind, number_in, same_int, same_value}
use Rattle.rules.specs.Consult.{can_take, one_can_take, tried, consulted}
use Rattle.rules.specs.Guarantees.{SameFit, FewConsulted}
use Rattle.rules.specs.Receive.{Fit, is_value, fits, first_clause, search}
use Rattle.rules.proofs.All.{parts}

-- ---- what takes a message can take its kind

value_kind_lem : (w : Value) (m : Message) → is_value w m ≡ true → eqb (kind_of w) (message_kind m) ≡ true
unfolding same_value
value_kind_lem w (Plain v) h =
    let same = eqb-true (kind_of v) (kind_of w) (parts (eqb (kind_of v) (kind_of w)) (same_int (number_in v) (number_in w)) h).0 in
    eq-eqb (kind_of w) (kind_of v) (sym same)
value_kind_lem w (Note j v) h = absurd (false≢true h)
value_kind_lem w (Down j v) h = absurd (false≢true h)

pub kind_taken : (c : Op) (m : Message) → fits c m ≡ true → can_take c (message_kind m) ≡ true
unfolding fits can_take
kind_taken c m h = go (eqb c.small exact_kind) h
  where
    go : (b : Bool) → cond b (is_value c.value m) (eqb c.small any_kind || eqb c.small (message_kind m)) ≡ true
        → cond b (eqb (kind_of c.value) (message_kind m)) (eqb c.small any_kind || eqb c.small (message_kind m)) ≡ true
    go true h = value_kind_lem c.value m h
    go false h = h

pub none_takes : (cs : List Op) (m : Message) → one_can_take cs (message_kind m) ≡ false → (i : ℕ) (later : Option Fit) → first_clause cs i m later ≡ later
none_takes [] m h i later = refl
none_takes (c ∷ cs) m h i later = go (fits c m) refl (can_take c (message_kind m)) refl h (λ rest. none_takes cs m rest i later)
  where
    go : (b : Bool) → fits c m ≡ b → (k : Bool) → can_take c (message_kind m) ≡ k → (k || one_can_take cs (message_kind m)) ≡ false
        → (one_can_take cs (message_kind m) ≡ false → first_clause cs i m later ≡ later) → cond b (some (record { index = i; message = m; clause = c })) (first_clause cs i m later) ≡ later
    go b e true f h rest = absurd (false≢true (sym h))
    go true e false f h rest = absurd (false≢true (sym f ∙ kind_taken c m e))
    go false e false f h rest = rest h

-- ---- the guarantees

pub same_fit : SameFit
same_fit cs i [] = refl
same_fit cs i (m ∷ ms) = rw (same_fit cs (i + 1) ms) (go (one_can_take cs (message_kind m)) refl)
  where
    go : (b : Bool) → one_can_take cs (message_kind m) ≡ b → cond b (first_clause cs i m (search cs (i + 1) ms)) (search cs (i + 1) ms) ≡ first_clause cs i m (search cs (i + 1) ms)
    go true e = refl
    go false e = sym (none_takes cs m e i (search cs (i + 1) ms))

tried_bound : (cs : List Op) (m : Message) (later : ℕ) → tried cs m later ≤ length cs + later
tried_bound [] m later = omega arith
tried_bound (c ∷ cs) m later = go (fits c m) (tried_bound cs m later)
  where
    go : (b : Bool) → tried cs m later ≤ length cs + later → 1 + cond b 0 (tried cs m later) ≤ suc (length cs) + later
    go true h = omega arith
    go false h = omega (arith, h)

message_bound : (cs : List Op) (m : Message) (ms : List Message) → consulted cs (m ∷ ms) ≤ length cs + consulted cs ms
message_bound cs m ms = go (one_can_take cs (message_kind m))
  where
    go : (b : Bool) → cond b (tried cs m (consulted cs ms)) (consulted cs ms) ≤ length cs + consulted cs ms
    go true = tried_bound cs m (consulted cs ms)
    go false = omega arith

mail_bound : (cs : List Op) (ms : List Message) → consulted cs ms ≤ length ms * length cs
mail_bound cs [] = omega arith
mail_bound cs (m ∷ ms) =
    let a = message_bound cs m ms in
    let b = mail_bound cs ms in
    omega (arith, a, b)

pub few_consulted : FewConsulted
few_consulted cs = (message_bound cs, mail_bound cs)
