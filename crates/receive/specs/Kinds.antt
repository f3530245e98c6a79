-- Sets of kinds of messages, each held as one number: binary digit k is 1 where kind k is in the set.
--   in_kinds k ks     kind k is in the set
--   no_kinds          the empty set
--   with_kind k ks    the set with kind k; a number above 7 is no kind
--   noted ks c       the set with the kind that clause c can take, `any` under its own number
--   noted_all ks cs   the set with those of the clauses cs
--   widened ks       all five kinds where `any` is in the set, else the set
--   takes ks m       the kind of message m is in the set
use Rattle.std.specs.Prelude.{Bool, cond, List, [], ◌∷◌, ℕ, ◌/◌, ◌%◌, ◌^◌, eqb, ltb}
use Rattle.std.specs.Int.Bits.{bit_or}
use Rattle.node.specs.declared.Message.{Message}
use Rattle.node.specs.declared.Op.{Op}
use Rattle.node.specs.Values.{exact_kind, any_kind, kind_of, message_kind}
use Rattle.receive.specs.declared.Kinds.{Kinds}

unfoldable pub in_kinds : ℕ → Kinds → Bool
in_kinds k ks = eqb (ks.0 / 2 ^ k % 2) 1

abbrev pub no_kinds : Kinds
no_kinds = record { 0 = 0 }

unfoldable pub with_kind : ℕ → Kinds → Kinds
with_kind k ks = cond (ltb k 8) (record { 0 = bit_or ks.0 (2 ^ k) }) ks

unfoldable pub noted : Kinds → Op → Kinds
noted ks c = with_kind (cond (eqb c.small exact_kind) (kind_of c.value) c.small) ks

abbrev pub noted_all : Kinds → List Op → Kinds
noted_all ks [] = ks
noted_all ks (c ∷ cs) = noted_all (noted ks c) cs

-- 124 has the digits of int, atom, pid, note and down
unfoldable pub widened : Kinds → Kinds
widened ks = cond (in_kinds any_kind ks) (record { 0 = 124 }) ks

unfoldable pub takes : Kinds → Message → Bool
takes ks m = in_kinds (message_kind m) ks
