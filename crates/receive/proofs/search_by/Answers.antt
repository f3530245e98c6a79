-- `search_by` answers document 01's first fit and, where it counts, counts what it consults: at a message, and at a clause, what is left gives the
-- answer, and with what is counted the count. Assumes nothing.
use mathlib.Core.Bool.{Bool, true, false, not, false≢true}
use mathlib.Core.List.{List, map}
use mathlib.Core.Path.{◌≡◌, refl, sym, ◌∙◌, ap, subst}
use Prim.Native.Nat.{ℕ, ◌+◌, ◌≤◌, ◌<◌}
use native.Mathlib.Numerals.{add-one}
use native.Mathlib.Omega.{arith}
use borrow.Author.Rules.{Fits-under}
use borrow.Author.Tests.{eq-eqb, ne_eqb}
use lib.Dec.{eqb}
use lib.ListN.{length, get_or, take, length-map, get_or-map, length-take}
use mir.Syntax.{w64}
use mir.Val.{Fits}
use Rattle.node.specs.declared.Message.{Message}
use Rattle.node.specs.declared.Op.{Op}
use Rattle.node.specs.declared.Slot.{Slot}
use Rattle.node.specs.Mailboxes.{no_message}
use Rattle.node.specs.Nodes.{no_op}
use Rattle.node.specs.Values.{message_kind}
use Rattle.std.specs.Prelude.{Ok}
use Rattle.rules.specs.Consult.{one_can_take, consulted as consulted_by}
use Rattle.rules.specs.Receive.{unfit}
use Rattle.receive.specs.declared.Kinds.{Kinds}
use Rattle.receive.specs.Found.{found_of, clauses_in, mail_in, searched_in}
use Rattle.receive.specs.Kinds.{takes}
use Rattle.receive.proofs.KindSets.{kinds_taken, left_out}
use Rattle.receive.proofs.Laws.{part_first, message_turn, clause_hit, clause_end, count_taken, count_left_out, count_end, count_bound, so_far, answered_fit}
use Rattle.receive.proofs.search_by.Invariants.{AtMessage, AtClause}
use Rattle.receive.proofs.search_by.Given.{Over}
use Rattle.receive.proofs.search_by.Goals as goal
use Rattle.receive.proofs.search_by.Goals.{After-kinds_of-kinds, Then-fits, then-takes+else-loop-k-test+then-this-ne0-2, then-takes+else-loop-k-test+else-this-ne0-2, else-takes}

-- ---- a message is looked at

module _ (counts : Bool) (cs : List Op) (mail : List Slot) (i n : ℕ) where
  abbrev M : List Message
  M = map (λ (s : Slot). s.message) mail

  abbrev msg : Message
  msg = (get_or mail i no_message).message

  module _ (below : i < length mail) (v : AtMessage counts cs M i n) where
    inside : i < length M
    inside = rw (length-map mail (λ (s : Slot). s.message)) below

    read : get_or M i no_message.message ≡ msg
    read = get_or-map (λ (s : Slot). s.message) mail i no_message

    message_at : one_can_take cs (message_kind msg) ≡ true → AtClause counts cs M i 0 msg (n + 0)
    message_at t =
        let can : one_can_take cs (message_kind (get_or M i no_message.message)) ≡ true = rw read t in
        let same : n + 0 ≡ n = omega arith in
        (rw read at (message_turn M cs i no_message.message inside v.0), λ q. rw same (rw read at (count_taken M cs i no_message.message n inside can (v.1 q))))

    left_aside : one_can_take cs (message_kind msg) ≡ false → AtMessage counts cs M (i + 1) n
    left_aside t =
        let here = get_or M i no_message.message in
        let cannot : one_can_take cs (message_kind here) ≡ false = rw read t in (
          message_turn M cs i no_message.message inside v.0 ∙ left_out cs here (kinds_taken cs here ∙ cannot) i _,
          λ q. count_left_out M cs i no_message.message n inside cannot (v.1 q),
        )

  -- all clauses were tried
  passed : (k : ℕ) → length cs ≤ k → (x : ℕ) → (counts ≡ true → x ≡ n + length cs) → k ≡ length cs → AtClause counts cs M i k msg (n + k) → AtMessage counts cs M (i + 1) x
  passed k above x e q v = (
    clause_end cs i k msg _ above v.0,
    λ h. let tried-all : n + k ≡ x = omega (arith, e h, q) in rw tried-all at (count_end cs k msg _ (n + k) above (v.1 h)),
  )

-- ---- the place where the parts are taken and the kinds are noted
module _ (g : Over) (c : After-kinds_of-kinds g) where
  -- whether it counts
  abbrev counts : Bool
  counts = not (eqb g.row.COUNTS 0)

  abbrev C : List Op
  C = take c.min-2.result c.args.ops.now

  abbrev Mail : List Slot
  Mail = take c.min.result c.args.slots.now

  clauses_is : C ≡ clauses_in c.args.ops.now 0 c.args.clauses
  clauses_is = part_first c.args.ops.now c.args.clauses c.min-2.ensures

  mail_is : M counts C Mail 0 0 ≡ mail_in c.args.slots.now 0 c.args.count
  mail_is = ap (map (λ (s : Slot). s.message)) (part_first c.args.slots.now c.args.count c.min.ensures)

  kind_told : (m : Message) → takes c.kinds_of-kinds.result m ≡ one_can_take C (message_kind m)
  kind_told m = ap (λ (k : Kinds). takes k m) c.kinds_of-kinds.ensures ∙ kinds_taken C m

  few_clauses : length C ≤ 256
  few_clauses =
      let l = length-take c.min-2.result c.args.ops.now in
      let k = c.min-2.ensures in
      let f = c.ranges.clauses.fits in
      omega (arith, l, k, f)

  few_messages : length (M counts C Mail 0 0) ≤ 256
  few_messages =
      let l = length-take c.min.result c.args.slots.now in
      let k = c.min.ensures in
      let f = c.ranges.count.fits in
      rw (length-map Mail (λ (s : Slot). s.message)) (omega (arith, l, k, f))

  -- all that is counted
  few : consulted_by C (M counts C Mail 0 0) ≤ 65536
  few = count_bound C (M counts C Mail 0 0) few_clauses few_messages

-- an index fits its type
small : {x : ℕ} → x < 100000 → Fits w64 x
small {x} h = Fits-under w64 x 100000 h tt

pub loop-k-init : goal.loop-k-init
loop-k-init g c =
    let k = (goal.at.loop-k-init g c).After-kinds_of-kinds in
    let l = c.messages in
    (refl, message_at (counts g k) (C g k) (Mail g k) l.index l.consulted c.messages-test.true l.invariant.1 (sym (kind_told g k _) ∙ sym c.takes.ensures ∙ c.if-takes.true))

pub overflow_add-consulted-then-this-ne0 : goal.overflow_add-consulted-then-this-ne0
overflow_add-consulted-then-this-ne0 g c =
    let k = (goal.at.overflow_add-consulted-then-this-ne0 g c).After-kinds_of-kinds in
    let all = few g k in
    let clauses = few_clauses g k in
    let below = c.loop-k-test.true in
    let counted = c.loop-k.invariant.1.1 (rw (ne_eqb g.row.COUNTS 0 c.if-this-ne0.true)) in
    small (omega (arith, all, clauses, below, counted))

pub overflow_add-consulted-then-this-ne0-2 : goal.overflow_add-consulted-then-this-ne0-2
overflow_add-consulted-then-this-ne0-2 g c =
    let k = (goal.at.overflow_add-consulted-then-this-ne0-2 g c).After-kinds_of-kinds in
    let all = few g k in
    let clauses = few_clauses g k in
    let counted = c.loop-k.invariant.1.1 (rw (ne_eqb g.row.COUNTS 0 c.if-this-ne0-2.true)) in
    small (omega (arith, all, clauses, counted))

pub messages-preserved : goal.messages-preserved
messages-preserved g c =
    let k = (goal.at.messages-preserved g c).After-kinds_of-kinds in
    let l = c.messages in
    let next : so_far (l.index + 1) ≡ unfit = ap so_far (add-one l.index) in
    let left : ℕ → Type 0 = AtMessage (counts g k) (C g k) (M (counts g k) (C g k) (Mail g k) 0 0) (l.index + 1) in
    elim c.if-takes.branch [
      | then-takes+else-loop-k-test+then-this-ne0-2 w ↦
          let all : w.loop-k.k ≡ length (C g k) = let e = w.loop-k.auto.k-end in let t = w.loop-k-test.false in omega (arith, e, t) in (
            ap found_of w.found-is ∙ w.loop-k.invariant.0 ∙ sym next,
            passed (counts g k) (C g k) (Mail g k) l.index w.loop-k.consulted w.loop-k.k w.loop-k-test.false c.if-takes.consulted (λ h. w.consulted-is) all w.loop-k.invariant.1,
          )
      | then-takes+else-loop-k-test+else-this-ne0-2 w ↦
          let all : w.loop-k.k ≡ length (C g k) = let e = w.loop-k.auto.k-end in let t = w.loop-k-test.false in omega (arith, e, t) in
          let silent : counts g k ≡ true → ⊥ = λ h. false≢true (sym (ap not (eq-eqb g.row.COUNTS 0 w.if-this-ne0-2.false)) ∙ h) in (
            ap found_of w.found-is ∙ w.loop-k.invariant.0 ∙ sym next,
            passed (counts g k) (C g k) (Mail g k) l.index w.loop-k.consulted w.loop-k.k w.loop-k-test.false c.if-takes.consulted (λ h. absurd (silent h)) all w.loop-k.invariant.1,
          )
      | else-takes w ↦ (
        ap found_of w.found-is ∙ sym next,
        subst left (sym w.consulted-is)
            (left_aside (counts g k) (C g k) (Mail g k) l.index l.consulted c.messages-test.true l.invariant.1 (sym (kind_told g k _) ∙ sym c.takes.ensures ∙ w.if-takes.false)),
      )
    ]

-- a clause takes the message
module _ (g : Over) (c : Then-fits g) where
  abbrev hit_by : After-kinds_of-kinds g
  hit_by = (goal.at.Then-fits g c).After-kinds_of-kinds

  taken : found_of (Ok (record { index = c.messages.index; clause = get_or (C g hit_by) c.loop-k.k no_op; message = (get_or (Mail g hit_by) c.messages.index no_message).message }))
      ≡ searched_in (clauses_in c.args.ops.now 0 c.args.clauses) (mail_in c.args.slots.now 0 c.args.count)
  taken =
      let k = hit_by in
      let l = c.loop-k in
      let hit = clause_hit (C g k) c.messages.index l.k _ _ c.loop-k-test.true (sym c.fits.ensures ∙ c.if-fits.true) l.invariant.1.0 in
      sym (answered_fit _ hit) ∙ (λ i. searched_in (clauses_is g k i) (mail_is g k i))

pub returns-then-this-ne0-clause-answer : goal.returns-then-this-ne0-clause-answer
returns-then-this-ne0-clause-answer g c = taken g (goal.at.returns-then-this-ne0-clause-answer g c).Then-fits

pub returns-else-this-ne0-clause-answer : goal.returns-else-this-ne0-clause-answer
returns-else-this-ne0-clause-answer g c = taken g (goal.at.returns-else-this-ne0-clause-answer g c).Then-fits
