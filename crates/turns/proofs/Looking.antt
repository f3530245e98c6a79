-- The search of a mailbox slot by slot, and for one slot clause by clause, where they stand in a node: what is left gives what it answers. Assumes nothing.
--   AtMessage k      the messages from the k-th on are left;  AtClause k c x  of message x, the k-th, the clauses from the c-th on
--   AtNoting ks k    the clauses from the k-th on are left to note, with the kinds ks noted
--   message_at       the message at a slot is looked at
--   noted_more       a clause more is noted;  noted_over  all are, and the kinds are those that the clauses can take
--   left_aside       a message of a kind that no clause can take is left out
--   search_hit       the clause fits the message: this is the answer
--   missed, passed   it does not: the clauses behind it are left, and behind the last the later messages
--   search_over      all messages were looked at and none fits: the answer is that the mailbox is empty, or that none fits
use mathlib.Core.Bool.{Bool, true, false}
use mathlib.Core.List.{List}
use mathlib.Core.Option.{Option, some}
use mathlib.Core.Path.{◌≡◌, refl, sym, ◌∙◌, ap}
use Prim.Native.Nat.{ℕ, ◌+◌, ◌-◌, ◌*◌, ◌≤◌, ◌<◌, min}
use native.Mathlib.Omega.{arith}
use lib.ListN.{length, get_or, drop}
use lib.Seq.{get_or-take, get_or-drop}
use Rattle.actions.specs.declared.Decoded.{Decoded}
use Rattle.actions.proofs.Decoding.{Means}
use Rattle.decisions.specs.Records.{Decision}
use Rattle.node.specs.declared.Message.{Message}
use Rattle.node.specs.declared.Node.{Node}
use Rattle.node.specs.declared.Op.{Op}
use Rattle.node.specs.declared.Process.{Process}
use Rattle.node.specs.declared.Slot.{Slot}
use Rattle.node.specs.Blocks.{block_of}
use Rattle.node.specs.Mailboxes.{no_message}
use Rattle.node.specs.Nodes.{no_op, mail_shelf}
use Rattle.node.proofs.Contents.{messages_at}
use Rattle.receive.specs.declared.Kinds.{Kinds}
use Rattle.receive.specs.Kinds.{no_kinds, noted, noted_all, widened, takes}
use Rattle.receive.proofs.Answered.{answered_none}
use Rattle.receive.proofs.KindSets.{left_out, noting_turn, noting_end}
use Rattle.receive.proofs.Laws.{message_turn, message_end, clause_hit, clause_miss, clause_end, so_far, answered_fit}
use Rattle.rules.specs.Nodes.{Sound}
use Rattle.rules.specs.Receive.{Fit, fits, first_clause, search, Searched, fit}
use Rattle.rules.specs.Steps.{Action}
use Rattle.turns.proofs.Changes.{searched_of}
use Rattle.turns.proofs.Turns.{place_at, clauses_of, Clauses, Says}
use Rattle.turns.proofs.Turns as turn

-- clauses stand from x + 1 on, s of them
clause_inside : (x c s : ℕ) → x + 1 ≤ c → c < min (x + 1 + s) 256 → (c - (x + 1) < s) × (x + 1 + (c - (x + 1)) ≡ c)
clause_inside x c s h g = (omega arith, omega arith)

clause_beyond : (x c s : ℕ) → x + 1 + s ≤ 256 → min (x + 1 + s) 256 ≤ c → s ≤ c - (x + 1)
clause_beyond x c s h g = omega arith

next_clause : (x c : ℕ) → x + 1 ≤ c → c - (x + 1) + 1 ≡ c + 1 - (x + 1)
next_clause x c h = omega arith

next_slot : (f s : ℕ) → f ≤ s → s - f + 1 ≡ s + 1 - f
next_slot f s h = omega arith

module _ (n : Node) (sound : Sound n) {a : Action} (t : Decoded) (m : Means a t) (e : Decision) (says : Says n sound t m e) where
  abbrev P : Process
  P = turn.P n sound t m

  abbrev O : Op
  O = turn.O n sound t m

  abbrev W : ℕ
  W = turn.W n sound t m

  abbrev M : List Message
  M = turn.M n sound t m

  abbrev S : Searched
  S = turn.S n sound t m

  abbrev top : ℕ
  top = turn.top n sound t m e says

  abbrev first_fit : Option Fit
  first_fit = search (clauses_of n P) 0 M

  -- the messages from the k-th on are left
  abbrev pub AtMessage : ℕ → Type 0
  AtMessage k = first_fit ≡ search (clauses_of n P) k (drop k M)

  -- of message x, the k-th, the clauses from the c-th on are left
  abbrev pub AtClause : ℕ → ℕ → Message → Type 0
  AtClause k c x = first_fit ≡ first_clause (drop c (clauses_of n P)) k x (search (clauses_of n P) (k + 1) (drop (k + 1) M))

  -- a slot is looked at only where the mailbox is searched
  looked : (k : ℕ) → 16 * t.at ≤ k → k < top → e.receives ≡ true
  unfolding searched_of
  looked k h g = go e.receives refl
    where
      go : (b : Bool) → e.receives ≡ b → e.receives ≡ true
      go true q = q
      go false q = let x : top ≡ 16 * t.at + 0 = rw q in absurd (omega (arith, x, h, g))

  looked_bound : (k : ℕ) → 16 * t.at ≤ k → k < top → (k - 16 * t.at < W) × (k - 16 * t.at < 16) × (16 * t.at + (k - 16 * t.at) ≡ k)
  unfolding searched_of
  looked_bound k h g =
      let x : top ≡ 16 * t.at + min W 16 = rw (looked k h g) in
      (omega (arith, x, h, g), omega (arith, x, h, g), omega (arith, h))

  pub message_at : (k : ℕ) → 16 * t.at ≤ k → k < top → AtMessage (k - 16 * t.at) → AtClause (k - 16 * t.at) 0 (get_or n.slots k no_message).message
  message_at k h g v =
      let b = looked_bound k h g in
      let box = block_of 16 t.at (mail_shelf n) in
      let j = k - 16 * t.at in
      let read : get_or M j no_message.message ≡ (get_or n.slots k no_message).message =
      messages_at box j b.0
      ∙ ap (λ (s : Slot). s.message) (get_or-take 16 (drop (16 * t.at) n.slots) j no_message b.1 ∙ get_or-drop (16 * t.at) n.slots j no_message ∙ ap (λ (i : ℕ). get_or n.slots i no_message)
      b.2) in
      rw read at (message_turn M (clauses_of n P) j no_message.message (rw (turn.mail_size_lem n sound t m) b.0) v)

  -- its clauses stand behind the op
  clauses_at : e.receives ≡ true → Clauses n P
  clauses_at q = turn.clauses n sound t m e says (turn.turn_searching n sound t m e says q) q

  clause_read : e.receives ≡ true → (c : ℕ) → place_at n P + 1 ≤ c → c < min (place_at n P + 1 + O.small) 256 → (c - (place_at n P + 1) < length (clauses_of n P))
      × (get_or n.ops c no_op ≡ get_or (clauses_of n P) (c - (place_at n P + 1)) no_op)
  clause_read q c l u =
      let w = clauses_at q in
      let inside = clause_inside (place_at n P) c O.small l u in
      let here : c - (place_at n P + 1) < length (clauses_of n P) = rw w.size inside.0 in
      (here, ap (λ (j : ℕ). get_or n.ops j no_op) (sym inside.1) ∙ w.read (c - (place_at n P + 1)) here)

  -- all of them were looked at
  clause_past : e.receives ≡ true → (c : ℕ) → min (place_at n P + 1 + O.small) 256 ≤ c → length (clauses_of n P) ≤ c - (place_at n P + 1)
  clause_past q c high = let w = clauses_at q in rw w.size (clause_beyond (place_at n P) c O.small w.within high)

  -- ---- the kinds are noted: the clauses from the k-th on are left

  abbrev pub AtNoting : Kinds → ℕ → Type 0
  AtNoting ks k = noted_all no_kinds (clauses_of n P) ≡ noted_all ks (drop k (clauses_of n P))

  -- the kinds that its clauses can take
  abbrev pub kinds_here : Kinds
  kinds_here = widened (noted_all no_kinds (clauses_of n P))

  module _ (q : e.receives ≡ true) (ks : Kinds) (c : ℕ) where
    pub noted_more : place_at n P + 1 ≤ c → c < min (place_at n P + 1 + O.small) 256 → AtNoting ks (c - (place_at n P + 1))
        → AtNoting (noted ks (get_or n.ops c no_op)) (c + 1 - (place_at n P + 1))
    noted_more low high v =
        let r = clause_read q c low high in
        rw (r.1, ← next_clause (place_at n P) c low) (noting_turn (clauses_of n P) ks (c - (place_at n P + 1)) r.0 v)

    pub noted_over : min (place_at n P + 1 + O.small) 256 ≤ c → AtNoting ks (c - (place_at n P + 1)) → widened ks ≡ kinds_here
    noted_over high v = sym (ap widened (noting_end (clauses_of n P) ks (c - (place_at n P + 1)) (clause_past q c high) v))

  -- ---- the turns of the search

  module _ (s : ℕ) (from : 16 * t.at ≤ s) where
    -- a message that no clause can take is left out
    pub left_aside : (x : Message) → takes kinds_here x ≡ false → AtClause (s - 16 * t.at) 0 x → AtMessage (s + 1 - 16 * t.at)
    left_aside x h v =
        let k = s - 16 * t.at in
        rw (next_slot (16 * t.at) s from) at (v ∙ left_out (clauses_of n P) x h k (search (clauses_of n P) (k + 1) (drop (k + 1) M)))

  module _ (s c : ℕ) (from : 16 * t.at ≤ s) (below : s < top) (low : place_at n P + 1 ≤ c) where
    abbrev msg : Message
    msg = (get_or n.slots s no_message).message

    abbrev later : Option Fit
    later = search (clauses_of n P) (s - 16 * t.at + 1) (drop (s - 16 * t.at + 1) M)

    module _ (high : c < min (place_at n P + 1 + O.small) 256) where
      fit_here : fits (get_or n.ops c no_op) msg ≡ true → AtClause (s - 16 * t.at) (c - (place_at n P + 1)) msg
          → first_fit ≡ some (record { index = s - 16 * t.at; message = msg; clause = get_or (clauses_of n P) (c - (place_at n P + 1)) no_op })
      fit_here f v = let r = clause_read (looked s from below) c low high in clause_hit (clauses_of n P) (s - 16 * t.at) (c - (place_at n P + 1)) msg later r.0 (rw r.1 at f) v

      pub search_hit : fits (get_or n.ops c no_op) msg ≡ true → AtClause (s - 16 * t.at) (c - (place_at n P + 1)) msg
          → S ≡ fit (record { index = s - 16 * t.at; message = msg; clause = get_or n.ops c no_op })
      search_hit f v =
          let r = clause_read (looked s from below) c low high in
          answered_fit M (fit_here f v) ∙ ap (λ (o : Op). fit (record { index = s - 16 * t.at; message = msg; clause = o })) (sym r.1)

      pub missed : fits (get_or n.ops c no_op) msg ≡ false → AtClause (s - 16 * t.at) (c - (place_at n P + 1)) msg → AtClause (s - 16 * t.at) (c + 1 - (place_at n P + 1)) msg
      missed f v =
          let r = clause_read (looked s from below) c low high in
          let e : c - (place_at n P + 1) + 1 ≡ c + 1 - (place_at n P + 1) = next_clause (place_at n P) c low in
          rw e at (clause_miss (clauses_of n P) (s - 16 * t.at) (c - (place_at n P + 1)) msg later r.0 (rw r.1 at f) v)

    pub passed : min (place_at n P + 1 + O.small) 256 ≤ c → AtClause (s - 16 * t.at) (c - (place_at n P + 1)) msg → AtMessage (s + 1 - 16 * t.at)
    passed high v =
        let all = clause_past (looked s from below) c high in
        let e : s - 16 * t.at + 1 ≡ s + 1 - 16 * t.at = next_slot (16 * t.at) s from in
        rw e at (clause_end (clauses_of n P) (s - 16 * t.at) (c - (place_at n P + 1)) msg later all v)

  -- all messages were looked at, and none fits
  pub search_over : (q : e.receives ≡ true) (s : ℕ) → 16 * t.at ≤ s → s ≤ top → top ≤ s → AtMessage (s - 16 * t.at) → S ≡ so_far (s - 16 * t.at)
  unfolding searched_of
  search_over q s from within above v =
      let x : top ≡ 16 * t.at + min W 16 = rw q in
      let few : W ≤ 16 = turn.waiting_bound n sound t m e says (turn.turn_searching n sound t m e says q) q in
      let all : length M ≡ s - 16 * t.at = turn.mail_size_lem n sound t m ∙ omega (arith, x, few, from, within, above) in
      answered_none M (message_end M (clauses_of n P) (s - 16 * t.at) no_message.message (omega (arith, all)) v) ∙ ap so_far all
