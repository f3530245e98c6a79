-- The loop of the engine. What a turn knows is named once, at the places of the walk where it is learnt. Assumes nothing.
use mathlib.Core.Bool.{Bool, true, false, cond, false≢true}
use mathlib.Core.List.{List, map}
use mathlib.Core.Logic.{inl, ⊎_elim}
use mathlib.Core.Path.{◌≡◌, refl, sym, ◌∙◌, ap, subst}
use Prim.Native.Nat.{ℕ, ◌+◌, ◌-◌, ◌*◌, ◌≤◌, ◌<◌, min}
use native.Mathlib.Omega.{arith}
use lib.ListN.{length, get_or, set, take, drop}
use Rattle.actions.specs.Numbers.{action_of}
use Rattle.actions.specs.Places.{process_at, row_at, behaviour_at}
use Rattle.actions.specs.declared.Decoded.{Decoded}
use Rattle.actions.proofs.Decoding.{Means, meant}
use Rattle.decisions.specs.Records.{Decision}
use Rattle.decisions.specs.Decided.{decided_of, pair_refusal, birth_refusal}
use Rattle.decisions.specs.Told.{done_by, told_of}
use Rattle.decisions.specs.declared.Deed.{Deed}
use Rattle.receive.specs.declared.Fit.{Fit}
use Rattle.receive.specs.declared.NoFit.{NoFit}
use Rattle.receive.specs.declared.NoFit.TheVariants.{Silent, Unfit}
use Rattle.receive.specs.Found.{found_of, after_search, fit_index, clauses_in, mail_in, searched_in}
use Rattle.receive.specs.Waiting.{timeout_refusal}
use Rattle.receive.proofs.Answered.{so_far_index}
use Rattle.receive.proofs.Laws.{part_behind, so_far}
use Rattle.node.specs.declared.Message.{Message}
use Rattle.node.specs.declared.Node.{Node}
use Rattle.node.specs.declared.Op.{Op}
use Rattle.node.specs.declared.Process.{Process}
use Rattle.node.specs.declared.Cell.{Cell}
use Rattle.node.specs.declared.Slot.{Slot}
use Rattle.node.specs.Blocks.{Shelf, up}
use Rattle.node.specs.Mailboxes.{no_message, slot_of}
use Rattle.node.specs.Nodes.{no_op, no_process, mail_shelf, flight_shelf}
use Rattle.node.specs.Processes.{fresh, moved}
use Rattle.node.specs.Refusals.{refusal_number, refusal_told}
use Rattle.node.proofs.Refusals.{above_zero, none_told}
use Rattle.node.specs.Rows.{no_signal, cell_of}
use Rattle.node.specs.Values.{pid}
use Rattle.node.specs.declared.Refusal.{Refusal}
use Rattle.rules.proofs.Commits.{parts_of}
use Rattle.rules.specs.Nodes.{Sound}
use Rattle.rules.specs.Receive.{Searched, search_number, fits, fit as hit}
use Rattle.rules.specs.Answers.{refused, done}
use Rattle.rules.specs.Steps.{Action, Outcome, rule}
use Rattle.turns.proofs.Changes.{cell_at, searched_of}
use Rattle.engine.proofs.Laws.{Going, stop, more, over, look_more, look_stop, look_over, with_slots, with_cells}
use Rattle.std.specs.Prelude.{Result, Ok, Err, Some, is_ok, IfOk}
use Rattle.turns.proofs.Looking.{AtMessage, AtClause, search_hit, search_over}
use Rattle.turns.proofs.Stores.{Moved, moved_more, moved_end}
use Rattle.turns.proofs.Turns.{place_at, behind_op, P, O, C, X, W, S, Says, top, turn_searching, waiting_bound}
use Rattle.turns.proofs.Turns.{own_refused, search_is, run_searched, timeout_searched, unsought, mail_joined, mail_kept, flight_sent, flight_kept}
use Rattle.turns.proofs.Turns.{Verdict, Committed, received, made, stored_mail, stored_flight, stored_cells, stored_run, stored_birth, stored_arrival}
use Rattle.engine.proofs.core.Goals as goal
use Rattle.engine.proofs.core.Goals.{After-decide, In-Err, In-Ok, After-first_fit-found, Then-is_ok, Joined-deed, Joined-deed-2, After-ended-2}
use Rattle.engine.proofs.core.Goals.{in-Searches+then-s, in-Searches+else-s+else-is_ok, in-Sends, in-Spawns, in-Joins}
use Rattle.engine.proofs.core.Goals.{in-Joins-deed, in-Sends-deed, in-Searches-deed, then-s-2+else-loop-f-test, else-s-2}

-- ---- a turn whose step is decided
abbrev Turn : Type 0
Turn = After-decide

module _ (c : Turn) where
  abbrev numbers : List ℕ
  numbers = c.args.numbers.now

  abbrev looks : Bool
  looks = c.args.looks

  abbrev n₀ : Node
  n₀ = c.args.node.now

  abbrev count : ℕ
  count = c.loop-t.t

  abbrev action : Action
  action = action_of (get_or numbers count 0)

  abbrev N : Node
  N = c.loop-t.node

  abbrev N-sound : Sound N
  N-sound = c.loop-t.invariant.0

  abbrev T : Decoded
  T = c.decode-s.result

  in_list : count < length numbers
  in_list = c.loop-t-test.true

  abbrev T-means : Means action T
  T-means = meant (get_or numbers count 0) T c.decode-s.ensures.value

  abbrev E : Decision
  E = told_of (P N N-sound T T-means) c.decide.result

  abbrev x : ℕ
  x = c.op_index-x.result

  abbrev behind_recv : ℕ
  behind_recv = place_at N (P N N-sound T T-means) + 1

  abbrev waits : ℕ
  waits = W N N-sound T T-means

  abbrev clauses : ℕ
  clauses = (O N N-sound T T-means).small

  x_is : x ≡ place_at N (P N N-sound T T-means)
  x_is = c.op_index-x.ensures.value

  len_is : c.behaviour_index-w.result ≡ behaviour_at (P N N-sound T T-means).behaviour.0
  len_is = c.behaviour_index-w.ensures.value

  -- where the clauses of a recv end
  end_is : (r : ℕ) → r ≡ min (x + 1 + (get_or N.ops x no_op).small) 256 → r ≡ min (behind_recv + clauses) 256
  end_is r e = e ∙ ap (λ (k : ℕ). min (k + 1 + (get_or N.ops k no_op).small) 256) x_is

  -- the op that is read behind them
  behind_is : (y : ℕ) → y ≡ min (x + 1 + (get_or N.ops x no_op).small) 255 → get_or N.ops y no_op ≡ behind_op N (P N N-sound T T-means)
  behind_is y e =
      let last : y ≡ min (min (x + 1 + (get_or N.ops x no_op).small) 256) 255 = omega (arith, e) in
      ap (λ (k : ℕ). get_or N.ops k no_op) (last ∙ ap (λ (k : ℕ). min k 255) (end_is _ refl))

  E-says : Says N N-sound T T-means E
  E-says = c.decide.ensures ∙ (λ i. decided_of T (P N N-sound T T-means) (C N N-sound T T-means) (X N N-sound T T-means)
      (get_or N.lens (len_is i) 0) (get_or N.ops (x_is i) no_op) waits)

  at_bound : T.at < 16
  at_bound = c.decode-s.ensures.at_bound.0

  arrival_bound : T.row < 256
  arrival_bound = c.decode-s.ensures.at_bound.1

  x_bound : x < 256
  x_bound = c.op_index-x.ensures.upper_bound

  abbrev last_slot : ℕ
  last_slot = top N N-sound T T-means E E-says

  last_is : E.receives ≡ true → (r : ℕ) → r ≡ min waits 16 → 16 * T.at + r ≡ last_slot
  unfolding searched_of
  last_is h r e = ap (λ (k : ℕ). 16 * T.at + k) (e ∙ sym (ap (λ (b : Bool). cond b (min waits 16) 0) h))

  looked : looks ≡ true → Going true n₀ numbers count N
  looked e = subst (λ (b : Bool). Going b n₀ numbers count N) e
      c.loop-t.invariant.1

  played_on : looks ≡ false → Going false n₀ numbers count N
  played_on e = subst (λ (b : Bool). Going b n₀ numbers count N) e
      c.loop-t.invariant.1

  -- a step is refused that was only looked at
  looks_on : looks ≡ true → (k : ℕ) → rule N action ≡ refused k → Sound N × Going looks n₀ numbers (count + 1) N
  looks_on e k r =
      (N-sound, subst (λ (b : Bool). Going b n₀ numbers (count + 1) N) (sym e) (look_more n₀ numbers count N N-sound (looked e) k in_list r))

  -- a step is accepted and played
  plays_on_lem : looks ≡ false → (m k : Node) → m ≡ k → rule N action ≡ done k → Sound m × Going looks n₀ numbers (count + 1) m
  plays_on_lem e m k s r =
      let w = more numbers count N k in_list N-sound (played_on e) r in
      subst (λ (x : Node). Sound x × Going looks n₀ numbers (count + 1) x) (sym s) (subst (λ (b : Bool). Sound k × Going b n₀ numbers (count + 1) k) (sym e) (w.1, w.2))

  abbrev Told : ℕ → Process → Type 0
  Told k p = Verdict N N-sound T T-means E E-says k p

  abbrev Commits : Process → Type 0
  Commits p = Committed N N-sound T T-means E E-says p

-- ---- the step is refused by the decision
module _ (c : In-Err) where
  abbrev refused_by : Turn
  refused_by = (goal.at.In-Err c).After-decide

  early : rule (N refused_by) (action refused_by) ≡ refused (refusal_number c.in-Err.refusal)
  early =
      let t = refused_by in
      let told : (E t).refusal ≡ refusal_number c.in-Err.refusal = ap (λ r. (told_of (P (N t) (N-sound t) (T t) (T-means t)) r).refusal) c.in-Err.is in
      own_refused (N t) (N-sound t) (T t) (T-means t) (E t) (E-says t) (λ z. above_zero c.in-Err.refusal (sym told ∙ z)) ∙ ap (λ (k : ℕ). refused k) told

-- ---- the step is decided
module _ (c : In-Ok) where
  abbrev decided_by : Turn
  decided_by = (goal.at.In-Ok c).After-decide

  -- the record of the decision, where d is what it does
  deed_is : {d : Deed} → c.in-Ok.e.deed ≡ d → E decided_by ≡ done_by c.in-Ok.e.process d
  deed_is h =
      let t = decided_by in
      ap (told_of (P (N t) (N-sound t) (T t) (T-means t))) c.in-Ok.is ∙ ap (done_by c.in-Ok.e.process) h

-- ---- the mailbox is searched

-- the part behind a place of an array that has 256
whole_part : {A : Type 0} (xs : List A) → length xs ≡ 256 → (a : ℕ) → take (256 - a) (drop a xs) ≡ drop a xs
whole_part xs size a = ap (λ (k : ℕ). take (k - a) (drop a xs)) (sym size) ∙ part_behind xs a

-- what the call answers is what the search of the rules answers
search_told : (t : Turn) → (E t).receives ≡ true → (r : Searched)
    → r ≡ searched_in (clauses_in (take (256 - (x t + 1)) (drop (x t + 1) (N t).ops)) 0 (get_or (N t).ops (x t) no_op).small)
    (mail_in (take (256 - 16 * (T t).at) (drop (16 * (T t).at) (N t).slots)) 0 (waits t))
    → r ≡ S (N t) (N-sound t) (T t) (T-means t)
search_told t q r e =
    let small = (get_or (N t).ops (x t) no_op).small in
    let size = (parts_of (N t) (N-sound t)).sized in
    let ops = whole_part (N t).ops size.ops (x t + 1) in
    let slots = whole_part (N t).slots size.mail.cells (16 * (T t).at) in
    e
    ∙ (λ i. searched_in (take small (ops i)) (map (λ (s : Slot). s.message) (take (waits t) (slots i))))
    ∙ (λ i. searched_in (clauses_in (N t).ops (x_is t i + 1) (get_or (N t).ops (x_is t i) no_op).small) (mail_in (N t).slots (16 * (T t).at) (waits t)))
    ∙ search_is (N t) (N-sound t) (T t) (T-means t) (E t) (E-says t) q (at_bound t)

-- the number of the answer is a refusal where no message fits, and only there
hits : (r : Result Fit NoFit) → is_ok r ≡ true → search_number (found_of r) ≡ 0
hits (Ok f) h = refl
hits (Err e) h = absurd (false≢true h)

misses : (r : Result Fit NoFit) → is_ok r ≡ false → search_number (found_of r) ≡ 0 → ⊥
misses (Ok f) h e = absurd (false≢true (sym h))
misses (Err Silent) h e = omega (arith, e)
misses (Err Unfit) h e = omega (arith, e)

-- an answer is that of the rules, and the message that leaves is one of the mailbox
record Answers (t : Turn) (found : Result Fit NoFit) : Type 0 where
  pub is : found_of found ≡ S (N t) (N-sound t) (T t) (T-means t)
  pub within : fit_index (min (waits t) 16) (found_of found) ≤ min (waits t) 16

indexed : (r : Result Fit NoFit) (w : ℕ) → w ≤ 16 → IfOk r (λ (f : Fit). f.index < w) → fit_index (min w 16) (found_of r) ≤ min w 16
indexed (Ok f) w few h = omega (arith, few, h)
indexed (Err Silent) w few h = omega arith
indexed (Err Unfit) w few h = omega arith

-- a search that goes by slots and ops is over: no message fits, or the message at slot s fits the clause at op k
module _ (t : Turn) (sought : (E t).receives ≡ true) (count : ℕ) (count_is : count ≡ min (waits t) 16) (s : ℕ) (from : 16 * (T t).at ≤ s) (found : Result Fit NoFit) where
  abbrev message_in : Message
  message_in = (get_or (N t).slots s no_message).message

  none_fits : s ≤ 16 * (T t).at + count → 16 * (T t).at + count ≤ s → found_of found ≡ so_far (s - 16 * (T t).at)
      → AtMessage (N t) (N-sound t) (T t) (T-means t) (E t) (E-says t) (s - 16 * (T t).at) → Answers t found
  none_fits most least missed v =
      let last = last_is t sought count count_is in
      let above = subst (λ (k : ℕ). k ≤ s) last least in
      let within = subst (λ (k : ℕ). s ≤ k) last most in
      let none = ap (fit_index (min (waits t) 16)) missed ∙ so_far_index (min (waits t) 16) (s - 16 * (T t).at) in
      record {
        is = missed ∙ sym (search_over (N t) (N-sound t) (T t) (T-means t) (E t) (E-says t) sought s from within above v);
        within = omega (arith, none);
      }

  one_fits : s < 16 * (T t).at + count → (k end : ℕ) → end ≡ min (x t + 1 + (get_or (N t).ops (x t) no_op).small) 256 → behind_recv t ≤ k → k < end
      → fits (get_or (N t).ops k no_op) message_in ≡ true → AtClause (N t) (N-sound t) (T t) (T-means t) (E t) (E-says t) (s - 16 * (T t).at) (k - behind_recv t) message_in
      → found_of found ≡ hit (record { index = s - 16 * (T t).at; message = message_in; clause = get_or (N t).ops k no_op }) → Answers t found
  one_fits less k end e low lower f v answer =
      let below = subst (λ (j : ℕ). s < j) (last_is t sought count count_is) less in
      let high = subst (λ (j : ℕ). k < j) (end_is t end e) lower in
      let inside : s - 16 * (T t).at ≤ min (waits t) 16 = omega (arith, less, count_is) in
      record {
        is = answer ∙ sym (search_hit (N t) (N-sound t) (T t) (T-means t) (E t) (E-says t) s k from below low high f v);
        within = subst (λ (j : ℕ). j ≤ min (waits t) 16) (sym (ap (fit_index (min (waits t) 16)) answer)) inside;
      }

abbrev Left : Type 0
Left = After-first_fit-found

module _ (c : Left) where
  abbrev left_by : Turn
  left_by = (goal.at.After-first_fit-found c).After-decide

  sought : (E left_by).receives ≡ true
  sought = ap (λ (d : Decision). d.receives) (deed_is (goal.at.After-first_fit-found c).In-Ok c.in-Searches.is)

  answers : Answers left_by c.first_fit-found.result
  answers =
      let t = left_by in
      let few = waiting_bound (N t) (N-sound t) (T t) (T-means t) (E t) (E-says t) (turn_searching (N t) (N-sound t) (T t) (T-means t) (E t) (E-says t) sought) sought in
      record { is = search_told t sought _ c.first_fit-found.ensures.answer; within = indexed _ (waits t) few c.first_fit-found.ensures.within }

-- a message fits, and the step is a run: it is accepted
module _ (c : Then-is_ok) where
  abbrev taken_by : Turn
  taken_by = (goal.at.Then-is_ok c).After-decide

  searching_is : (E taken_by).receives ≡ true
  searching_is = sought (goal.at.Then-is_ok c).After-first_fit-found

  fit_is : found_of c.first_fit-found.result ≡ S (N taken_by) (N-sound taken_by) (T taken_by) (T-means taken_by)
  fit_is = (answers (goal.at.Then-is_ok c).After-first_fit-found).is

  takes_one : rule (N taken_by) (action taken_by)
      ≡ done (received (N taken_by) (N-sound taken_by) (T taken_by) (T-means taken_by) (E taken_by) (E-says taken_by) (S (N taken_by) (N-sound taken_by) (T taken_by) (T-means taken_by)))
  takes_one =
      let t = taken_by in
      let number : search_number (S (N t) (N-sound t) (T t) (T-means t)) ≡ 0 = ap search_number (sym fit_is) ∙ hits _ (sym c.is_ok.ensures.value ∙ c.if-is_ok.true) in
      ⊎_elim (λ w. absurd (w.0 number)) (λ w. w.1) (run_searched (N t) (N-sound t) (T t) (T-means t) (E t) (E-says t) searching_is c.if-s.false)

-- ---- no message leaves by the step

-- what is told of a decision that searches no mailbox, behind 26 and 27
abbrev judge : Turn → Decision → ℕ
judge t d =
    let owner = (T t).owner.0 in
    let paired = cond d.sends (pair_refusal d.refusal (get_or (N t).counts (row_at owner d.to.0) 0)) d.refusal in
    cond d.spawns (birth_refusal paired (get_or (N t).processes (process_at d.number.0) no_process)) paired

module _ (c : Joined-deed) where
  abbrev judged_by : Turn
  judged_by = (goal.at.Joined-deed c).After-decide

  abbrev ok : In-Ok
  ok = (goal.at.Joined-deed c).In-Ok

  abbrev next : Process
  next = c.match-deed.next

  abbrev told : ℕ
  told = refusal_told c.match-deed.refused

  -- the match that judges leaves what is done as it is
  same_deed : c.match-deed.deed ≡ ok.in-Ok.e.deed
  same_deed =
      elim c.match-deed.branch [
        | in-Searches+then-s w ↦ w.deed-is
        | in-Searches+else-s+else-is_ok w ↦ w.deed-is
        | in-Sends w ↦ w.deed-is ∙ sym w.in-Sends.is
        | in-Spawns w ↦ w.deed-is ∙ sym w.in-Spawns.is
        | in-Joins w ↦ w.deed-is
      ]

  deed_stays : {d : Deed} → c.match-deed.deed ≡ d → E judged_by ≡ done_by ok.in-Ok.e.process d
  deed_stays h = deed_is ok (sym same_deed ∙ h)

  -- what is told of refusal r and next process p is told of those that the ways meet with
  tells : {r : ℕ} {p : Process} → told ≡ r → next ≡ p → Told judged_by r p → Told judged_by told next
  tells {r} e f h = subst (λ (k : ℕ). Told judged_by k next) (sym e) (subst (λ (q : Process). Told judged_by r q) (sym f) h)

  -- so it is where d searches no mailbox
  unsearched : {d : Decision} → E judged_by ≡ d → d.receives ≡ false → next ≡ d.process → told ≡ judge judged_by d → Told judged_by told next
  unsearched e quiet f h =
      let t = judged_by in
      let looks_not : (E t).receives ≡ false = ap (λ (d : Decision). d.receives) e ∙ quiet in
      tells refl (f ∙ ap (λ (d : Decision). d.process) (sym e)) (unsought (N t) (N-sound t) (T t) (T-means t) (E t) (E-says t) looks_not told (h ∙ ap (judge t) (sym e)))

  verdict : Told judged_by told next
  verdict =
      let t = judged_by in
      let p = P (N t) (N-sound t) (T t) (T-means t) in
      let s = S (N t) (N-sound t) (T t) (T-means t) in
      let owner = (T t).owner.0 in
      elim c.match-deed.branch [
        | in-Searches+then-s w ↦
            let sought : (E t).receives ≡ true = ap (λ (d : Decision). d.receives) (deed_is ok w.in-Searches.is) in
            let searched = search_told t sought _ w.first_fit-found.ensures.answer in
            let op = behind_is t w.behind_clauses.result w.behind_clauses.ensures.value in
            let is = ap refusal_told w.refused-is ∙ w.timeout_refusal.ensures
            ∙ (λ i. timeout_refusal (searched i) p.place (get_or (N t).ops (x_is t i) no_op).small (get_or (N t).lens (len_is t i) 0) (op i)) in
            let moves : next ≡ moved p (behind_op (N t) p).target = w.next-is ∙ w.moved-next.ensures ∙ ap (λ (o : Op). moved p o.target) op in
            tells is moves (timeout_searched (N t) (N-sound t) (T t) (T-means t) (E t) (E-says t) sought w.if-s.true)
        | in-Searches+else-s+else-is_ok w ↦
            let sought : (E t).receives ≡ true = ap (λ (d : Decision). d.receives) (deed_is ok w.in-Searches.is) in
            let searched = search_told t sought _ w.first_fit-found.ensures.answer in
            let number : told ≡ search_number s = ap refusal_told w.refused-is ∙ w.search_refusal.ensures ∙ ap search_number searched in
            let none : search_number s ≡ 0 → ⊥ = λ e. misses _ (sym w.is_ok.ensures.value ∙ w.if-is_ok.false) (ap search_number searched ∙ e) in
            let said : rule (N t) (action t) ≡ refused (search_number s) = ⊎_elim (λ v. v.1) (λ v. absurd (none v.0))
            (run_searched (N t) (N-sound t) (T t) (T-means t) (E t) (E-says t) sought w.if-s.false) in
            tells number refl (inl (none, said))
        | in-Sends w ↦
            let is = ap refusal_told w.refused-is ∙ w.pair_refusal-refused.ensures in
            unsearched (deed_is ok w.in-Sends.is) refl w.next-is (is ∙ ap (λ (y : ℕ). pair_refusal 0 (get_or (N t).counts y 0)) w.row_index-row.ensures.value)
        | in-Spawns w ↦
            let is = ap refusal_told w.refused-is ∙ w.birth_refusal-refused.ensures in
            unsearched (deed_is ok w.in-Spawns.is) refl w.next-is (is ∙ ap (λ (k : ℕ). birth_refusal 0 (get_or (N t).processes k no_process)) w.process_index-child.ensures.value)
        | in-Joins w ↦
            let is = ap refusal_told w.refused-is in
            ⊎_elim (λ v. unsearched (deed_is ok v.1) refl w.next-is is) (λ v. unsearched (deed_is ok v) refl w.next-is is) w.in-Joins.is
      ]

  refuses : {r : Refusal} → c.match-deed.refused ≡ Some r → rule (N judged_by) (action judged_by) ≡ refused (refusal_number r)
  refuses {r} h =
      let is : told ≡ refusal_number r = ap refusal_told h in
      ⊎_elim (λ w. w.1) (λ w. absurd (above_zero r (sym is ∙ w.0))) verdict ∙ ap (λ (k : ℕ). refused k) is

  commits : ((r : Refusal) → c.match-deed.refused ≡ Some r → ⊥) → Commits judged_by next
  commits h = ⊎_elim (λ w. absurd (w.0 (none_told c.match-deed.refused h))) (λ w. w.1) verdict

  abbrev processes_stored : List Process
  processes_stored = set (N judged_by).processes (T judged_by).at next

-- ---- the stores

-- the signals in flight behind a sending
abbrev sent_by : Turn → Decision → Shelf Cell
sent_by t d =
    let n = N t in
    let y = row_at (T t).owner.0 d.to.0 in
    record { cells = set n.cells (cell_at y (get_or n.counts y 0)) (cell_of d.signal); counts = set n.counts y (min (get_or n.counts y 0 + 1) 255) }

-- the mail behind a joining
abbrev joined_by : Turn → Decision → Shelf Slot
joined_by t d = record {
  cells = set (N t).slots (16 * (T t).at + min (waits t) 15) (slot_of d.message);
  counts = set (N t).waiting (T t).at (min (waits t + 1) 255);
}

module _ (c : Joined-deed-2) where
  abbrev u : Turn
  u = (goal.at.Joined-deed-2 c).After-decide

  abbrev judged : Joined-deed
  judged = (goal.at.Joined-deed-2 c).Joined-deed

  abbrev mail : Shelf Slot
  mail = stored_mail (N u) (N-sound u) (T u) (T-means u) (E u) (E-says u)

  abbrev flight : Shelf Cell
  flight = stored_flight (N u) (N-sound u) (T u) (T-means u) (E u) (E-says u)

  abbrev Stores : Type 0
  Stores = (c.match-deed-2.node ≡ made (N u) (processes_stored judged) mail flight) × ((E u).spawns ≡ false)

  -- where d is what is decided
  kept_mail : {d : Decision} → E u ≡ d → d.joins ≡ false → mail ≡ mail_shelf (N u)
  kept_mail e h = mail_kept (N u) (N-sound u) (T u) (T-means u) (E u) (E-says u) (ap (λ (d : Decision). d.joins) e ∙ h)

  kept_flight : {d : Decision} → E u ≡ d → d.sends ≡ false → flight ≡ flight_shelf (N u)
  kept_flight e h = flight_kept (N u) (N-sound u) (T u) (T-means u) (E u) (E-says u) (ap (λ (d : Decision). d.sends) e ∙ h)

  unspawned : {d : Decision} → E u ≡ d → d.spawns ≡ false → (E u).spawns ≡ false
  unspawned e h = ap (λ (d : Decision). d.spawns) e ∙ h

  all_kept : {d : Decision} → E u ≡ d → d.joins ≡ false → d.sends ≡ false → d.spawns ≡ false
      → c.match-deed-2.node ≡ made (N u) (processes_stored judged) (mail_shelf (N u)) (flight_shelf (N u)) → Stores
  all_kept e j s b h = (h ∙ (λ i. made (N u) (processes_stored judged) (sym (kept_mail e j) i) (sym (kept_flight e s) i)), unspawned e b)

  stores : Stores
  stores =
      let n = N u in
      let ps = processes_stored judged in
      let by = ok judged in
      elim c.match-deed-2.branch [
        | in-Joins-deed w ↦
            let is = deed_stays judged w.in-Joins-deed.is in
            let to : mail ≡ joined_by u (E u) = mail_joined n (N-sound u) (T u) (T-means u) (E u) (E-says u) (ap (λ (d : Decision). d.joins) is) in (
              w.node-is
                  ∙ (λ i. made n ps (record {
                    cells = set n.slots (16 * (T u).at + w.up_to.ensures i) (slot_of w.in-Joins-deed.message);
                    counts = set n.waiting (T u).at (w.risen.ensures i);
                  })
                  (flight_shelf n))
                  ∙ (λ i. made n ps (sym (to ∙ ap (joined_by u) is) i) (sym (kept_flight is refl) i)),
              unspawned is refl,
            )
        | in-Sends-deed w ↦
            let is = deed_stays judged w.in-Sends-deed.is in
            let to : flight ≡ sent_by u (E u) = flight_sent n (N-sound u) (T u) (T-means u) (E u) (E-says u) (ap (λ (d : Decision). d.sends) is) in
            let row = w.row_index-row-in-Sends-deed.ensures.value in
            let cell = w.cell_index.ensures.value ∙ (λ i. cell_at (row i) (get_or n.counts (row i) 0)) in
            let more = w.risen-in-Sends-deed.ensures ∙ (λ i. min (get_or n.counts (row i) 0 + 1) 255) in (
              w.node-is
                  ∙ (λ i. made n ps (mail_shelf n) (record { cells = set n.cells (cell i) (cell_of w.in-Sends-deed.signal); counts = set n.counts (row i) (more i) }))
                  ∙ (λ i. made n ps (sym (kept_mail is refl) i) (sym (to ∙ ap (sent_by u) is) i)),
              unspawned is refl,
            )
        | in-Searches-deed w ↦ ⊎_elim (λ v. all_kept (deed_stays judged v) refl refl refl w.node-is) (λ v. all_kept (deed_stays judged v) refl refl refl w.node-is) w.in-Searches-deed.is
      ]

-- a birth, and an arrival, in a node
abbrev birth_in : Node → ℕ → Process → Node
birth_in q k p = made q (set q.processes k p) (record { cells = q.slots; counts = set q.waiting k 0 }) (flight_shelf q)

abbrev arrival_in : Node → ℕ → Cell → ℕ → Node
arrival_in q r blank k = made q q.processes (mail_shelf q) (record { cells = set q.cells (4 * r + 3) blank; counts = set q.counts r k })

pub loop-t-preserved-then-looks : goal.loop-t-preserved-then-looks
loop-t-preserved-then-looks c = looks_on (goal.at.loop-t-preserved-then-looks c).After-decide c.if-looks.true _ (early (goal.at.loop-t-preserved-then-looks c).In-Err)

pub returns-in-Err-clause-result_value : goal.returns-in-Err-clause-result_value
returns-in-Err-clause-result_value c =
    let turn = (goal.at.returns-in-Err-clause-result_value c).After-decide in
    λ q. c.ended.ensures (N turn) ∙ stop (numbers turn) (count turn) (N turn) _ (in_list turn) (N-sound turn) (played_on turn q) (early (goal.at.returns-in-Err-clause-result_value c).In-Err)

pub returns-then-looks-2-clause-accepted_value : goal.returns-then-looks-2-clause-accepted_value
returns-then-looks-2-clause-accepted_value c =
    let turn = (goal.at.returns-then-looks-2-clause-accepted_value c).After-decide in
    λ q. ap (λ (r : Outcome). r.accepted) (c.ended-then-looks-2.ensures (N turn))
    ∙ look_stop (n₀ turn) (numbers turn) (count turn) (N turn) (N-sound turn) (looked turn q) _ (in_list turn) (takes_one (goal.at.returns-then-looks-2-clause-accepted_value c).Then-is_ok)

pub loop-m-preserved : goal.loop-m-preserved
loop-m-preserved c =
    let turn = (goal.at.loop-m-preserved c).After-decide in
    let v = c.loop-m.invariant in
    let m = c.loop-m.m in
    let q = c.loop-m.node in
    let low = c.loop-m.auto.m in
    let below = c.loop-m-test.true in
    let bound = at_bound turn in
    let most = c.up_to-count.ensures in
    let size : length (N turn).slots ≡ 256 = (parts_of (N turn) (N-sound turn)).sized.mail.cells in
    let before : m - 1 + 1 ≡ m = omega (arith, low) in
    let behind : m ≡ m + 1 - 1 = omega arith in
    let more = moved_more no_message v.1 (omega (arith, before, below)) (omega (arith, bound, most, size)) in
    let slots = set q.slots (m - 1) (get_or q.slots m no_message) in
    (ap (λ (k : Node). with_slots k slots) v.0, subst (Moved _ _ _ slots) behind (rw before at more))

pub loop-t-preserved-then-is_ok : goal.loop-t-preserved-then-is_ok
loop-t-preserved-then-is_ok c =
    let turn = (goal.at.loop-t-preserved-then-is_ok c).After-decide in
    let fits = (goal.at.loop-t-preserved-then-is_ok c).Then-is_ok in
    let n = N turn in
    let v = c.loop-m.invariant in
    let low = c.loop-m.auto.m in
    let over = c.loop-m-test.false in
    let last = last_is turn (searching_is fits) c.up_to-count.result c.up_to-count.ensures in
    let next = c.after_search.ensures ∙ ap (after_search (P n (N-sound turn) (T turn) (T-means turn))) (fit_is fits) in
    let at = ap (λ (k : ℕ). 16 * (T turn).at + k) (c.fit_index.ensures ∙ (λ i. fit_index (c.up_to-count.ensures i) (fit_is fits i))) in
    let slots = moved_end v.1 (omega (arith, low, over)) ∙ (λ i. up (at i) (last i) n.slots) in
    plays_on_lem turn c.if-looks-2.false _ _
    (v.0 ∙ (λ i. made n (set n.processes (T turn).at (next i)) (record { cells = slots i; counts = set n.waiting (T turn).at (c.fallen.ensures i) })
    (flight_shelf n)))
    (takes_one fits)

pub loop-t-preserved-then-looks-3 : goal.loop-t-preserved-then-looks-3
loop-t-preserved-then-looks-3 c = looks_on (goal.at.loop-t-preserved-then-looks-3 c).After-decide c.if-looks-3.true _ (refuses (goal.at.loop-t-preserved-then-looks-3 c).Joined-deed c.in-Some.is)

pub returns-in-Some-clause-result_value : goal.returns-in-Some-clause-result_value
returns-in-Some-clause-result_value c =
    let turn = (goal.at.returns-in-Some-clause-result_value c).After-decide in
    λ q. c.ended-in-Some.ensures (N turn)
    ∙ stop (numbers turn) (count turn) (N turn) _ (in_list turn) (N-sound turn) (played_on turn q) (refuses (goal.at.returns-in-Some-clause-result_value c).Joined-deed c.in-Some.is)

pub returns-then-looks-4-clause-accepted_value : goal.returns-then-looks-4-clause-accepted_value
returns-then-looks-4-clause-accepted_value c =
    let turn = (goal.at.returns-then-looks-4-clause-accepted_value c).After-decide in
    λ q. ap (λ (r : Outcome). r.accepted) (c.ended-then-looks-4.ensures (N turn)) ∙ look_stop (n₀ turn) (numbers turn) (count turn) (N turn) (N-sound turn) (looked turn q) _ (in_list turn)
    (commits (goal.at.returns-then-looks-4-clause-accepted_value c).Joined-deed c.in_default.not-Some).answer

pub loop-t-preserved-in-Spawns-deed : goal.loop-t-preserved-in-Spawns-deed
loop-t-preserved-in-Spawns-deed c =
    let turn = (goal.at.loop-t-preserved-in-Spawns-deed c).After-decide in
    let judged = (goal.at.loop-t-preserved-in-Spawns-deed c).Joined-deed in
    let n = N turn in
    let w = commits judged c.in_default.not-Some in
    let is = deed_stays judged c.in-Spawns-deed.is in
    let mail = mail_kept n (N-sound turn) (T turn) (T-means turn) (E turn) (E-says turn) (ap (λ (d : Decision). d.joins) is) in
    let flight = flight_kept n (N-sound turn) (T turn) (T-means turn) (E turn) (E-says turn) (ap (λ (d : Decision). d.sends) is) in
    let child = c.process_index-child-in-Spawns-deed.ensures.value ∙ ap (λ (d : Decision). process_at d.number.0) (sym is) in
    let fresh_is = c.fresh.ensures ∙ ap (λ (d : Decision). fresh d.behaviour (pid (T turn).owner.0)) (sym is) in
    plays_on_lem turn c.if-looks-4.false _ _
    ((λ i. birth_in (made n (processes_stored judged) (sym mail i) (sym flight i)) (child i) (fresh_is i))
    ∙ stored_birth n (N-sound turn) (T turn) (T-means turn) (E turn) (E-says turn) w.cleared w (ap (λ (d : Decision). d.spawns) is))
    w.answer

pub loop-f-preserved : goal.loop-f-preserved
loop-f-preserved c =
    let turn = (goal.at.loop-f-preserved c).After-decide in
    let v = c.loop-f.invariant in
    let q = c.loop-f.node in
    let h = c.loop-f-test.true in
    let b = arrival_bound turn in
    let clear = (commits (goal.at.loop-f-preserved c).Joined-deed c.in_default.not-Some).cleared in
    let size : length c.match-deed-2.node.cells ≡ 1024 = ap (λ (x : Node). length x.cells) (stores (goal.at.loop-f-preserved c).Joined-deed-2).0 ∙
    stored_cells (N turn) (N-sound turn) (T turn) (T-means turn) (E turn) (E-says turn) clear in
    let room : 4 * (T turn).row + 3 + 1 ≤ length c.match-deed-2.node.cells = subst (λ (k : ℕ). 4 * (T turn).row + 3 + 1 ≤ k) (sym size) (omega (arith, b)) in
    ((λ i. with_cells (v.0 i) (set q.cells c.loop-f.f (get_or q.cells (c.loop-f.f + 1) no_signal))), moved_more no_signal v.1 (omega (arith, h)) room)

pub loop-t-preserved : goal.loop-t-preserved
loop-t-preserved c =
    let all-stored = (goal.at.loop-t-preserved c).Joined-deed-2 in
    let turn = (goal.at.loop-t-preserved c).After-decide in
    let stored = (stores all-stored).0 in
    let behind = flight all-stored in
    let w = commits (goal.at.loop-t-preserved c).Joined-deed c.in_default.not-Some in
    let shift : List Cell → List Cell = up (4 * (T turn).row) (4 * (T turn).row + 4) in
    let end : 4 * (T turn).row + 3 + 1 ≡ 4 * (T turn).row + 4 = omega arith in
    elim c.if-s-2.branch [
      | then-s-2+else-loop-f-test y ↦
          let v = y.loop-f.invariant in
          let q = y.loop-f.node in
          let h = y.loop-f-test.false in
          let cells = moved_end v.1 (omega (arith, h)) ∙ ap (λ (k : ℕ). up (4 * (T turn).row) k c.match-deed-2.node.cells) end in
          let moved : q ≡ with_cells (made (N turn) _ _ behind) (shift behind.cells) =
          v.0 ∙ ap (with_cells c.match-deed-2.node) cells ∙ ap (λ (x : Node). with_cells x (shift x.cells)) stored in
          let fewer = y.fallen-then-s-2.ensures ∙ ap (λ (x : Node). get_or x.counts (T turn).row 0 - 1) moved in
          plays_on_lem turn c.if-looks-4.false _ _
          (y.node-is ∙ (λ i. arrival_in (moved i) (T turn).row (y.blank.ensures i) (fewer i))
          ∙ stored_arrival (N turn) (N-sound turn) (T turn) (T-means turn) (E turn) (E-says turn) w.cleared w (arrival_bound turn) y.if-s-2.true (stores all-stored).1)
          w.answer
      | else-s-2 y ↦
          plays_on_lem turn c.if-looks-4.false _ _
          (y.node-is ∙ stored ∙ stored_run (N turn) (N-sound turn) (T turn) (T-means turn) (E turn) (E-says turn) w.cleared w y.if-s-2.false (stores all-stored).1)
          w.answer
    ]

-- ---- all steps were played, or looked at
module _ (c : After-ended-2) where
  abbrev list : List ℕ
  list = c.args.numbers.now

  abbrev node_then : Node
  node_then = c.loop-t.node

  over_by : length list ≤ c.loop-t.t
  over_by = c.loop-t-test.false

  all : length list ≡ c.loop-t.t
  all = let most = c.loop-t.auto.t-end in omega (arith, over_by, most)

  went : {b : Bool} → c.args.looks ≡ b → Going b c.args.node.now list c.loop-t.t node_then
  went e = subst (λ (b : Bool). Going b c.args.node.now list c.loop-t.t node_then) e c.loop-t.invariant.1

pub returns-clause-result_value : goal.returns-clause-result_value
returns-clause-result_value c =
    let end = (goal.at.returns-clause-result_value c).After-ended-2 in
    λ e. c.ended-2.ensures (node_then end) ∙ ap (λ (k : ℕ). record { accepted = k; refusal = 0; node = node_then end }) (all end) ∙ over (list end) _ _ (over_by end) (went end e)

pub returns-clause-accepted_value : goal.returns-clause-accepted_value
returns-clause-accepted_value c =
    let end = (goal.at.returns-clause-accepted_value c).After-ended-2 in
    λ e. ap (λ (r : Outcome). r.accepted) (c.ended-2.ensures (node_then end)) ∙ all end ∙ look_over _ (list end) _ (node_then end) c.loop-t.invariant.0 (went end e) (over_by end)
