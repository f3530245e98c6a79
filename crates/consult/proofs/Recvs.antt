-- What the code reads of a process of a sound node is what the rules say of it: whether it is live at a recv, and there the clauses and the mailbox.
-- Assumes nothing.
--   recv_number                who is live at a recv has a number
--   awaits_is                  the test of the code is that of the rules
--   clauses_read, mail_read    what is searched are the clauses of the recv and the mailbox
--   consulted_bound            at most 128 clauses are consulted
--   told_31, told_below, told_above, told_none, told_count   what is told, by the ways of the code
use mathlib.Core.Bool.{Bool, true, false, So, cond, ◌&&◌, and-false}
use mathlib.Core.Option.{none, some}
use mathlib.Core.Path.{◌≡◌, refl, sym, ◌∙◌, ap}
use Prim.Native.Nat.{ℕ, ◌+◌, ◌-◌, ◌*◌, ◌≤◌, ◌<◌}
use native.Mathlib.Omega.{arith}
use borrow.Author.Tests.{leb-true, lt-leb, ltb-true, ltb-false}
use lib.Dec.{eqb, ltb}
use lib.ListN.{length, get_or, take, drop, length-take, get_or-eq_default}
use Rattle.actions.specs.Places.{behaviour_at}
use Rattle.decisions.proofs.Meanings.{Awaiting, awaiting}
use Rattle.node.specs.declared.Node.{Node}
use Rattle.node.specs.declared.Op.{Op}
use Rattle.node.specs.declared.Process.{Process}
use Rattle.node.specs.declared.Stage.{Stage}
use Rattle.node.specs.declared.Stage.TheVariants.{Unborn, Live, Closing, Gone}
use Rattle.node.specs.Blocks.{block_of}
use Rattle.node.specs.Nodes.{no_op, mail_shelf}
use Rattle.node.specs.Ops.{recv_op}
use Rattle.node.specs.Values.{is_number}
use Rattle.node.proofs.Contents.{messages_length}
use Rattle.receive.specs.Found.{clauses_in, mail_in}
use Rattle.receive.specs.Waiting.{awaits}
use Rattle.rules.specs.Answers.{refused, done, not_sound}
use Rattle.rules.specs.Consult.{consulted, ops_of, clauses_of, at_recv, consultation}
use Rattle.rules.specs.Nodes.{Sound, sound, behaviours_of, process, mailbox}
use Rattle.rules.specs.Timeout.{is_live}
use Rattle.rules.proofs.All.{parts}
use Rattle.rules.proofs.Commits.{Parts, parts_of}
use Rattle.rules.proofs.Consequences.{at_most_128}
use Rattle.rules.proofs.Consult.{few_consulted}
use Rattle.rules.proofs.Living.{alive}
use Rattle.rules.proofs.Paths.{recv_bounds}
use Rattle.rules.proofs.Records.{number_bounds}
use Rattle.turns.proofs.Turns.{place_at, Stands, stands_in, Clauses, clauses_in_lem, clauses_lent, mail_lent}

-- tests that are the same of a live process
live_tests : (s : Stage) (a b c : Bool) → (s ≡ Live → (a && b) ≡ c) → (is_live s && a && b) ≡ (is_live s && c)
live_tests Unborn a b c h = refl
live_tests Live a b c h = h refl
live_tests Closing a b c h = refl
live_tests Gone a b c h = refl

pub recv_number : (n : Node) (i : ℕ) → at_recv n i ≡ true → So (is_number i)
recv_number n i e =
    let here = parts (is_number i && is_live (process n i).stage) (eqb (get_or (ops_of n i) (process n i).place no_op).number recv_op) e in
    (parts (is_number i) (is_live (process n i).stage) here.0).0

pub told_31 : (n : Node) (i : ℕ) → sound n ≡ false → refused not_sound ≡ consultation n i
unfolding consultation
told_31 n i h = rw h

module _ (n : Node) (is : Sound n) (i : ℕ) where
  told : (b : Bool) → at_recv n i ≡ b → done (cond b (some (consulted (clauses_of n i) (mailbox n i))) none) ≡ consultation n i
  unfolding consultation
  told b e = rw (is, e)

  -- i is no number
  pub told_below : i < 1 → done none ≡ consultation n i
  unfolding is_number
  told_below h = told false (rw (lt-leb 1 i h))

  pub told_above : 16 < i → done none ≡ consultation n i
  unfolding is_number
  told_above h = told false (rw (lt-leb i 16 h, and-false))

  whole : Parts n
  whole = parts_of n is

  module _ (number : So (is_number i)) where
    -- the process, the op that is read at its place, the length that is read of its code, and how many messages wait
    abbrev P : Process
    P = process n i

    abbrev O : Op
    O = get_or n.ops (place_at n P) no_op

    abbrev L : ℕ
    L = get_or n.lens (behaviour_at P.behaviour.0) 0

    abbrev W : ℕ
    W = get_or n.waiting (i - 1) 0

    -- past its code a process stands at no op, which is no recv
    here : P.stage ≡ Live → (ltb P.place L && eqb O.number recv_op) ≡ eqb (get_or (ops_of n i) P.place no_op).number recv_op
    here live = go (ltb P.place L) refl
      where
        stands : Stands n P
        stands = stands_in n whole i number live

        go : (b : Bool) → ltb P.place L ≡ b → (b && eqb O.number recv_op) ≡ eqb (get_or (ops_of n i) P.place no_op).number recv_op
        go true e = ap (λ (o : Op). eqb o.number recv_op) (sym (stands.op (rw stands.size (ltb-true P.place L e))))
        go false e = ap (λ (o : Op). eqb o.number recv_op) (sym (get_or-eq_default (ops_of n i) no_op {n = P.place} (rw stands.size (ltb-false P.place L e))))

    pub awaits_is : awaits P L O ≡ at_recv n i
    unfolding awaits
    awaits_is = rw number (live_tests P.stage (ltb P.place L) (eqb O.number recv_op) (eqb (get_or (ops_of n i) P.place no_op).number recv_op) here)

    module _ (at : at_recv n i ≡ true) where
      there : Awaiting P L O
      there = awaiting P L O (awaits_is ∙ at)

      stands : Stands n P
      stands = stands_in n whole i number there.live

      inside : P.place < length (ops_of n i)
      inside = rw stands.size there.inside

      -- the op that is read is that of its code
      same : get_or (ops_of n i) P.place no_op ≡ O
      same = stands.op inside

      recv : (get_or (ops_of n i) P.place no_op).number ≡ recv_op
      recv = ap (λ (o : Op). o.number) same ∙ there.recv

      clauses : Clauses n P
      clauses = clauses_in_lem n whole i number there.live inside recv

      pub clauses_read : clauses_in n.ops (place_at n P + 1) O.small ≡ clauses_of n i
      clauses_read = clauses_lent n whole P clauses ∙ ap (λ (o : Op). take o.small (drop (P.place + 1) (ops_of n i))) (sym same)

      few_clauses : length (clauses_of n i) ≤ 8
      few_clauses =
          let t = (get_or (ops_of n i) P.place no_op).small in
          let r = recv_bounds n whole i number there.live inside recv in
          rw (length-take t (drop (P.place + 1) (ops_of n i))) (omega (arith, r.0))

      few_messages : length (mailbox n i) ≤ 16
      few_messages = leb-true (length (mailbox n i)) 16 (alive (behaviours_of n) i P (mailbox n i) there.live (whole.processes i number)).mailed.few

      pub mail_read : mail_in n.slots (16 * (i - 1)) W ≡ mailbox n i
      mail_read =
          let few : W ≤ 16 = rw (messages_length (block_of 16 (i - 1) (mail_shelf n))) at few_messages in
          let b = number_bounds i number in
          mail_lent n whole (i - 1) (omega (arith, b)) few

      pub consulted_bound : consulted (clauses_of n i) (mailbox n i) ≤ 128
      consulted_bound = at_most_128 few_consulted (clauses_of n i) (mailbox n i) few_clauses few_messages

    -- ---- what is told

    -- x is where the op is read, and w where the length is
    module _ {x w : ℕ} (there : x ≡ place_at n P) (size : w ≡ behaviour_at P.behaviour.0) {b : Bool} (tested : b ≡ awaits P (get_or n.lens w 0) (get_or n.ops x no_op)) where
      tests : at_recv n i ≡ b
      tests = sym (tested ∙ rw (there, size) awaits_is)

      pub told_none : b ≡ false → done none ≡ consultation n i
      told_none h = told false (tests ∙ h)

      pub told_count : b ≡ true → {k : ℕ} → k ≡ consulted (clauses_in n.ops (x + 1) (get_or n.ops x no_op).small) (mail_in n.slots (16 * (i - 1)) W) → done (some k) ≡ consultation n i
      told_count h c =
          let here = tests ∙ h in
          rw (c, there, clauses_read here, mail_read here) (told true here)
