-- A turn of the loop: what the decision that it takes says of the step, by the rules. Assumes nothing.
--   Ready e        20, 21 and 23 were passed, and decision e tells the rules' answer
--   Cleared e      and nothing refuses it but a search that finds no message
--   turn_refused   a refusal is the rule's;  turn_cleared, turn_searching  without one the decision is cleared
--   turn_done      a decision that searches no mailbox is committed
--   run_searched, timeout_searched   where the mailbox is searched, what the search answers decides; search_is  what the code's search answers
use mathlib.Core.Bool.{Bool, true, false, So, cond, ◌&&◌, false≢true}
use mathlib.Core.List.{List, [], ◌∷◌, map}
use mathlib.Core.Logic.{◌⊎◌, inl, inr, ⊎_elim}
use mathlib.Core.Option.{Option, none, some}
use mathlib.Core.Path.{◌≡◌, refl, sym, ◌∙◌, ap, subst}
use Prim.Native.Nat.{ℕ, ◌+◌, ◌-◌, ◌*◌, ◌%◌, ◌≤◌, ◌<◌, min}
use native.Mathlib.Decide.{ℕ_discrete}
use native.Mathlib.Nat.{add-zero}
use native.Mathlib.Omega.{arith}
use borrow.Author.Tests.{not-true, not-false, eq-eqb, ne_eqb, eqb-true, eqb-false, leb-true, leb-false, ltb-true, ltb-false, lt-ltb, le-ltb}
use lib.Dec.{eqb, leb, ltb}
use lib.ListN.{length, get_or, take, drop, set, length-take, length-drop, length-set, get_or-eq_default}
use lib.Seq.{get_or-take, get_or-drop, take-take, ext_get_or, set-get_or}
use Rattle.actions.specs.declared.Decoded.{Decoded}
use Rattle.actions.specs.Places.{process_at, row_at, behaviour_at, op_at}
use Rattle.actions.proofs.Decoding.{Means}
use Rattle.decisions.specs.Records.{Decision}
use Rattle.decisions.specs.Decided.{decided_of, pair_refusal, birth_refusal}
use Rattle.decisions.specs.Answers.{state_of, refusing, sent_of, born_of, effect_of, ran, arrived, expired, answer_of}
use Rattle.decisions.proofs.Meanings.{At, Only, run_means, run_only, arrival_means, arrival_quiet, timeout_means, timeout_only}
use Rattle.node.specs.declared.Cell.{Cell}
use Rattle.node.specs.declared.Message.{Message}
use Rattle.node.specs.declared.Node.{Node}
use Rattle.node.specs.declared.Op.{Op}
use Rattle.node.specs.declared.Process.{Process}
use Rattle.node.specs.declared.Signal.{Signal}
use Rattle.node.specs.declared.Slot.{Slot}
use Rattle.node.specs.declared.Stage.TheVariants.{Live}
use Rattle.node.specs.Blocks.{Shelf, block_of, changed, joined, up, left, popped, emptied}
use Rattle.node.specs.Mailboxes.{no_message, messages, slot_of}
use Rattle.node.specs.Nodes.{no_op, no_process, pair, mail_shelf, flight_shelf}
use Rattle.node.specs.Ops.{recv_op, after_op}
use Rattle.node.specs.Processes.{fresh, moved}
use Rattle.node.specs.Rows.{no_signal, cell_of, oldest}
use Rattle.node.specs.Values.{pid, is_number}
use Rattle.node.proofs.Contents.{messages_length, signals_length}
use Rattle.node.proofs.Lists.{firsts_take}
use Rattle.rules.specs.Answers.{Answer, refused, done, need, bad_number, owner_unborn, none_in_flight, mailbox_empty, no_fit, pair_full, not_unborn, no_timeout}
use Rattle.rules.specs.Effects.{State, unchanged, joining, leaving, Effect}
use Rattle.rules.specs.Nodes.{Sound, behaviours_of, code, process, mailbox, row}
use Rattle.rules.specs.Receive.{Fit, search, with_message, Searched, silent, unfit, fit, answered, search_number, receives_by, receives}
use Rattle.rules.specs.Run.{runs}
use Rattle.rules.specs.Steps.{Action, run, arrive, timeout, owner, is_unborn, numbered, owner_born, signal_waits, pair_has_room, number_free, incoming, decide, with_arrival, with_sending, with_mail}
use Rattle.rules.specs.Steps.{without_mail, with_birth, commit, rule}
use Rattle.rules.specs.Timeout.{behind_clauses, at_after, expires_if, expires_live, expires}
use Rattle.rules.proofs.Commute.{incoming_oldest}
use Rattle.receive.specs.Found.{after_search, fit_index, clauses_in, mail_in, searched_in}
use Rattle.receive.specs.Waiting.{timeout_refusal}
use Rattle.rules.proofs.Living.{alive}
use Rattle.rules.proofs.Keeps.{Keeps}
use Rattle.rules.proofs.Commits.{Parts, parts_of, decided_keeps, owner_number}
use Rattle.rules.proofs.Paths.{behaviour_bounds, code_length, code_bound, code_at, recv_bounds, rule_20, rule_21, rule_23, rule_undecided, rule_26, rule_27, rule_done}
use Rattle.rules.proofs.Records.{number_bounds}
use Rattle.rules.proofs.Shape.{Sized}
use Rattle.node.proofs.Blocks.{Room, whole as whole-block, changed_comm, changed_same, joined_keeps, popped_keeps, popped_joined}
use Rattle.turns.proofs.Changes.{cell_at, searched_of, waiting_next, sent_next, cell_next, slot_next}
use Rattle.turns.proofs.Recv.{AtRecv, only_recv}
use Rattle.turns.proofs.Stores.{store_joined, store_left, store_emptied, store_popped}

-- ---- a signal, and a search

-- the oldest signal of pair k stands at the first of its cells
oldest_at : (n : Node) (k : ℕ) → oldest (block_of 4 k (flight_shelf n)) ≡ (get_or n.cells (4 * k) no_signal).signal
unfolding oldest
oldest_at n k =
    ap (λ (c : Cell). c.signal) (get_or-take 4 (drop (4 * k) n.cells) 0 no_signal (omega arith) ∙ get_or-drop (4 * k) n.cells 0 no_signal ∙ ap (λ (x : ℕ). get_or n.cells x no_signal)
    (add-zero (4 * k)))

-- the cell behind the signals of a row that has room
cell_place : (y c : ℕ) → y < 256 → c < 4 → 4 * y + c ≡ cell_at y c
cell_place y c h g = omega arith

-- a count that has room is a byte
byte_more : (c : ℕ) → c < 4 → (c + 1 ≡ min (c + 1) 255) × (c < 255)
byte_more c h = (omega arith, omega arith)

-- ---- the code of a live process

module _ (n : Node) (p : Process) where
  -- where the op at the place of the process is read
  abbrev pub place_at : ℕ
  place_at = op_at p.behaviour.0 p.place

  -- the length and the op that are read are those of its code
  abbrev pub Stands : Type 0
  Stands = At (code n p.behaviour.0) (get_or n.lens (behaviour_at p.behaviour.0) 0) p.place (get_or n.ops place_at no_op)

  -- the clauses of the recv that it is at, and where they are read
  abbrev pub clauses_of : List Op
  clauses_of = take (get_or n.ops place_at no_op).small (drop (p.place + 1) (code n p.behaviour.0))

  -- the op that is read behind them
  abbrev pub behind_op : Op
  behind_op = get_or n.ops (min (min (place_at + 1 + (get_or n.ops place_at no_op).small) 256) 255) no_op

  pub record Clauses : Type 0 where
    pub size : length clauses_of ≡ (get_or n.ops place_at no_op).small
    pub within : place_at + 1 + (get_or n.ops place_at no_op).small ≤ 256
    pub read : (k : ℕ) → k < length clauses_of → get_or n.ops (place_at + 1 + k) no_op ≡ get_or clauses_of k no_op
    pub behind : p.place + 1 + (get_or n.ops place_at no_op).small < length (code n p.behaviour.0) →
        behind_op ≡ get_or (code n p.behaviour.0) (p.place + 1 + (get_or n.ops place_at no_op).small) no_op

module _ (n : Node) (whole : Parts n) (i : ℕ) (number : So (is_number i)) (live : (process n i).stage ≡ Live) where
  abbrev Q : Process
  Q = process n i

  abbrev b : ℕ
  b = Q.behaviour.0

  known : (1 ≤ b) × (b ≤ 8)
  known = behaviour_bounds n whole i number live

  short : length (code n b) ≤ 32
  short = code_bound n whole i number live

  -- the op k places behind that of the process
  op_is : (k : ℕ) → Q.place + k < length (code n b) → get_or n.ops (place_at n Q + k) no_op ≡ get_or (code n b) (Q.place + k) no_op
  op_is k h =
      let x : 32 * ((b - 1) % 8) + Q.place % 32 + k ≡ 32 * (b - 1) + (Q.place + k) = omega (arith, known, short, h) in
      rw x (sym (code_at n whole i number live (Q.place + k) h))

  pub stands_in : Stands n Q
  stands_in =
      let w : (b - 1) % 8 ≡ b - 1 = omega (arith, known) in
      let z : Q.place + 0 ≡ Q.place = add-zero Q.place in
      let y : place_at n Q + 0 ≡ place_at n Q = add-zero (place_at n Q) in
      record {
        size = rw w (code_length n whole i number live);
        op = λ h. sym (rw (y, z) at (op_is 0 (omega (arith, h))));
      }

  pub clauses_in_lem : Q.place < length (code n b) → (get_or (code n b) Q.place no_op).number ≡ recv_op → Clauses n Q
  clauses_in_lem inside recv =
      let o = get_or n.ops (place_at n Q) no_op in
      let same : get_or (code n b) Q.place no_op ≡ o = stands_in.op inside in
      let room : (o.small ≤ 8) × (Q.place + 1 + o.small ≤ length (code n b)) = rw same at (recv_bounds n whole i number live inside recv) in
      let size : length (clauses_of n Q) ≡ o.small = length-take o.small (drop (Q.place + 1) (code n b)) ∙ rw (length-drop (Q.place + 1) (code n b)) (omega (arith, room)) in
      record {
        size = size;
        within = omega (arith, known, short, room);
        read = λ k h.
            let l : k < o.small = rw size at h in
            let e : Q.place + (1 + k) ≡ Q.place + 1 + k = omega arith in
            let f : place_at n Q + (1 + k) ≡ place_at n Q + 1 + k = omega arith in
            ap (λ (x : ℕ). get_or n.ops x no_op) (sym f) ∙ op_is (1 + k) (omega (arith, l, room)) ∙ ap (λ (x : ℕ). get_or (code n b) x no_op) e
            ∙ sym (get_or-take o.small (drop (Q.place + 1) (code n b)) k no_op l ∙ get_or-drop (Q.place + 1) (code n b) k no_op);
        behind = λ h.
            let e : Q.place + (1 + o.small) ≡ Q.place + 1 + o.small = omega arith in
            let f : min (min (place_at n Q + 1 + o.small) 256) 255 ≡ place_at n Q + (1 + o.small) = omega (arith, known, short, h) in
            ap (λ (x : ℕ). get_or n.ops x no_op) f ∙ op_is (1 + o.small) (omega (arith, h)) ∙ ap (λ (x : ℕ). get_or (code n b) x no_op) e;
      }

-- the clauses of a recv and the messages of a mailbox, where they stand

module _ (n : Node) (whole : Parts n) where
  pub clauses_lent : (p : Process) → Clauses n p → clauses_in n.ops (place_at n p + 1) (get_or n.ops (place_at n p) no_op).small ≡ clauses_of n p
  clauses_lent p w =
      let x = place_at n p + 1 in
      let s = (get_or n.ops (place_at n p) no_op).small in
      let l : length (take s (drop x n.ops)) ≡ s = length-take s (drop x n.ops) ∙ rw (length-drop x n.ops, whole.sized.ops) (omega (arith, w.within)) in
      ext_get_or no_op (take s (drop x n.ops)) (clauses_of n p) (l ∙ sym w.size)
      (λ k h.
      let g : k < s = rw l at h in
      get_or-take s (drop x n.ops) k no_op g ∙ get_or-drop x n.ops k no_op ∙ w.read k (rw w.size g))

  pub mail_lent : (k : ℕ) → k < 16 → get_or n.waiting k 0 ≤ 16 → mail_in n.slots (16 * k) (get_or n.waiting k 0) ≡ messages (block_of 16 k (mail_shelf n))
  unfolding messages
  mail_lent k b few =
      let w = get_or n.waiting k 0 in
      let box = drop (16 * k) n.slots in
      let size : length (take 16 box) ≡ 16 =
      whole-block 16 k (mail_shelf n) (record { cells = rw whole.sized.mail.cells (omega (arith, b)); counts = rw whole.sized.mail.counts (omega (arith, b)) }) in
      ap (map (λ (s : Slot). s.message)) (sym (firsts_take no_message w (take 16 box) (rw size few) ∙ take-take w 16 box few))

-- without messages no fit is found
none_received : (code : List Op) (st : State) → receives code (state_of st.process []) (get_or code st.process.place no_op) ≡ refused mailbox_empty
unfolding receives
none_received code st = refl

-- a node with the plan of n, of which all else is given
abbrev pub made : Node → List Process → Shelf Slot → Shelf Cell → Node
made n ps mail flight = record {
  count = n.count;
  lens = n.lens;
  ops = n.ops;
  processes = ps;
  waiting = mail.counts;
  slots = mail.cells;
  counts = flight.counts;
  cells = flight.cells;
}

-- what is answered where the search of a mailbox answers s
abbrev pub searched : Node → Action → Process → Searched → Answer Node
searched n a p silent = refused mailbox_empty
searched n a p unfit = refused no_fit
searched n a p (fit f) = done (commit n a (record { process = moved (with_message p f.clause f.message) f.clause.target; mail = leaving f.index; sent = none; born = none }))

module _ (n : Node) (sound : Sound n) {a : Action} (t : Decoded) (m : Means a t) where
  -- ---- what is read

  abbrev pub i : ℕ
  i = t.owner.0

  abbrev j : ℕ
  j = t.from.0

  abbrev pub P : Process
  P = get_or n.processes t.at no_process

  abbrev pub B : ℕ
  B = P.behaviour.0

  -- the op at the process's place, and the length of its code
  abbrev pub O : Op
  O = get_or n.ops (op_at B P.place) no_op

  abbrev pub L : ℕ
  L = get_or n.lens (behaviour_at B) 0

  -- how many signals its row has, and the first of them
  abbrev pub C : ℕ
  C = get_or n.counts t.row 0

  abbrev pub X : Signal
  X = (get_or n.cells (4 * t.row) no_signal).signal

  -- how many messages wait, and which
  abbrev pub W : ℕ
  W = get_or n.waiting t.at 0

  abbrev pub M : List Message
  M = messages (block_of 16 t.at (mail_shelf n))

  pub mail_size_lem : length M ≡ W
  mail_size_lem = messages_length (block_of 16 t.at (mail_shelf n))

  -- what the search of its mailbox answers
  abbrev pub S : Searched
  S = answered (search (clauses_of n P) 0 M) M

  whole : Parts n
  whole = parts_of n sound

  abbrev pub code_here : List Op
  code_here = code n B

  pub record Ready (e : Decision) : Type 0 where
    pub numbers : So (numbered a)
    pub awake : So (owner_born n a)
    pub waits : So (signal_waits n a)
    pub number : So (is_number i)
    pub owned : owner a ≡ i
    pub at : t.at ≡ i - 1
    pub decided : decide n a ≡ answer_of t.expires code_here i (state_of P M) e
    pub only : e.receives ≡ true → Only e × AtRecv code_here i (state_of P []) × Stands n P
    pub births : e.spawns ≡ true → t.arrives ≡ false
    pub seeks : e.receives ≡ true → t.arrives ≡ false

  Early : Decision → Type 0
  Early e = (e.refusal ≡ 0 → ⊥) × (e.receives ≡ false) × (rule n a ≡ refused e.refusal)

  early : (e : Decision) (k : ℕ) → e ≡ refusing P k → (k ≡ 0 → ⊥) → rule n a ≡ refused k → Early e
  unfolding Early
  early e k s z r = ((λ h. z (rw s at h)), rw s, r ∙ rw s)

  -- a step of each kind is of process i
  owned_by : (b c : Bool) → owner (cond b (arrive i j) (cond c (timeout i) (run i))) ≡ i
  owned_by true c = refl
  owned_by false true = refl
  owned_by false false = refl

  -- an unborn owner
  asleep : t.bad ≡ false → is_unborn P.stage ≡ true → rule n a ≡ refused owner_unborn
  unfolding owner_born
  asleep ok u =
      let process_is : P ≡ process n (owner a) = rw (m.at ok, m.action ok, owned_by t.arrives t.expires) in
      rule_21 n a (not-false (numbered a) (sym m.bad ∙ ok)) (rw (← process_is, u))

  -- ---- 20, 21 and 23 passed

  module _ (ok : t.bad ≡ false) (born : is_unborn P.stage ≡ false) where
    numbers_ok : So (numbered a)
    numbers_ok = not-false (numbered a) (sym m.bad ∙ ok)

    owner_is_lem : owner a ≡ i
    owner_is_lem = rw (m.action ok) (owned_by t.arrives t.expires)

    at_is : t.at ≡ i - 1
    at_is = m.at ok

    process_is : P ≡ process n (owner a)
    process_is = rw (at_is, owner_is_lem)

    awake_ok : So (owner_born n a)
    unfolding owner_born
    awake_ok = rw (← process_is, born)

    number_ok : So (is_number i)
    number_ok = rw owner_is_lem at (owner_number a numbers_ok)

    -- what is known of every step that comes so far
    ready_by : (e : Decision) → So (signal_waits n a) → decide n a ≡ answer_of t.expires code_here i (state_of P M) e →
        (e.receives ≡ true → Only e × AtRecv code_here i (state_of P []) × Stands n P) → (e.spawns ≡ true → t.arrives ≡ false) → (e.receives ≡ true → t.arrives ≡ false) → Ready e
    ready_by e waits decided only births seeks = record {
      numbers = numbers_ok;
      awake = awake_ok;
      waits = waits;
      number = number_ok;
      owned = owner_is_lem;
      at = at_is;
      decided = decided;
      only = only;
      births = births;
      seeks = seeks;
    }

    none_waits : t.arrives ≡ true → eqb C 0 ≡ true → rule n a ≡ refused none_in_flight
    unfolding signal_waits
    none_waits arr q =
        let action : a ≡ arrive i j = m.action ok ∙ rw arr in
        let count : length (row n j i) ≡ 0 = signals_length (block_of 4 (pair j i) (flight_shelf n)) ∙ rw (← m.row ok arr) (eqb-true C 0 q) in
        rule_23 n a numbers_ok awake_ok (rw (action, count))

    arrival_ready : t.arrives ≡ true → eqb C 0 ≡ false → (e : Decision) → e ≡ arrived t.owner t.from P W X → Ready e
    unfolding signal_waits decide
    arrival_ready arr there e s =
        let action : a ≡ arrive i j = m.action ok ∙ rw arr in
        let row_is : t.row ≡ pair j i = m.row ok arr in
        let count : length (row n j i) ≡ C = signals_length (block_of 4 (pair j i) (flight_shelf n)) ∙ rw row_is in
        let waiting : 0 < length (row n j i) = rw count (let z = eqb-false C 0 there in omega arith) in
        let first : incoming n j i ≡ X = incoming_oldest n j i waiting ∙ rw row_is (oldest_at n (pair j i)) in
        let means : answer_of t.expires code_here i (state_of P M) e ≡ answer_of false code_here i (state_of P M) (arrived t.owner t.from P (length M) X) = rw (s, mail_size_lem, m.apart arr) in
        ready_by e (rw action (lt-ltb 0 (length (row n j i)) waiting))
        (rw (action, first, ← at_is) (sym (means ∙ arrival_means code_here t.owner t.from P M X)))
        (λ h. absurd (false≢true (sym (arrival_quiet t.owner t.from P W X).0 ∙ (rw s at h))))
        (λ h. absurd (false≢true (sym (arrival_quiet t.owner t.from P W X).1 ∙ (rw s at h))))
        (λ h. absurd (false≢true (sym (arrival_quiet t.owner t.from P W X).0 ∙ (rw s at h))))

    here : P ≡ process n i
    here = rw at_is

    -- where the process is live, its op and its length are those of its code
    stands : P.stage ≡ Live → Stands n P
    stands = subst (λ (p : Process). p.stage ≡ Live → Stands n p) (sym here) (stands_in n whole i number_ok)

    timeout_ready : t.arrives ≡ false → t.expires ≡ true → (e : Decision) → e ≡ expired t.owner P L O → Ready e
    unfolding signal_waits decide
    timeout_ready arr late e s =
        let action : a ≡ timeout i = m.action ok ∙ rw (arr, late) in
        let means = timeout_means code_here t.owner P L O M born stands in
        let answers : answer_of true code_here i (state_of P M) e ≡ expires code_here (state_of P M) = ap (answer_of true code_here i (state_of P M)) s ∙ means in
        ready_by e (rw action) (rw (action, ← at_is, late) (sym answers))
        (λ h.
        let w = timeout_only t.owner P L O (rw s at h) in
        let there = stands w.1.live in
        let inside : P.place < length code_here = rw there.size w.1.inside in
        (subst Only (sym s) w.0, record { live = w.1.live; inside = inside; recv = rw (there.op inside) w.1.recv }, there))
        (λ h. arr)
        (λ h. arr)

    run_ready : t.arrives ≡ false → t.expires ≡ false → (e : Decision) → e ≡ ran t.owner P L O → Ready e
    unfolding signal_waits decide
    run_ready arr early e s =
        let action : a ≡ run i = m.action ok ∙ rw (arr, early) in
        let answers : (b : List Message) → answer_of false code_here i (state_of P b) e ≡ runs code_here i (state_of P b) = λ b. ap (answer_of false code_here i (state_of P b)) s
        ∙ run_means code_here t.owner P L O b stands in
        ready_by e (rw action) (rw (action, ← at_is, early) (sym (answers M)))
        (λ h.
        let recv = only_recv code_here i (state_of P []) (sym (answers []) ∙ rw h (none_received code_here (state_of P []))) in
        (subst Only (sym s) (run_only t.owner P L O (rw s at h)), recv, stands recv.live))
        (λ h. arr)
        (λ h. arr)

  -- ---- the decision

  abbrev pub Says : Decision → Type 0
  Says e = e ≡ decided_of t P C X L O W

  verdict : (e : Decision) → Says e → Early e ⊎ Ready e
  unfolding decided_of
  verdict e s = bad t.bad refl
    where
      waits : (b : Bool) → (ok : t.bad ≡ false) (born : is_unborn P.stage ≡ false) (arr : t.arrives ≡ true) → eqb C 0 ≡ b → Early e ⊎ Ready e
      waits true ok born arr q =
          let says : e ≡ refusing P none_in_flight = s ∙ rw (ok, born, arr, q) in
          inl (early e none_in_flight says (λ z. omega (arith, z)) (none_waits ok born arr q))
      waits false ok born arr q = inr (arrival_ready ok born arr q e (s ∙ rw (ok, born, arr, q)))

      expires : (b : Bool) → (ok : t.bad ≡ false) (born : is_unborn P.stage ≡ false) (arr : t.arrives ≡ false) → t.expires ≡ b → Early e ⊎ Ready e
      expires true ok born arr late = inr (timeout_ready ok born arr late e (s ∙ rw (ok, born, arr, late)))
      expires false ok born arr late = inr (run_ready ok born arr late e (s ∙ rw (ok, born, arr, late)))

      arrives : (b : Bool) → (ok : t.bad ≡ false) (born : is_unborn P.stage ≡ false) → t.arrives ≡ b → Early e ⊎ Ready e
      arrives true ok born arr = waits (eqb C 0) ok born arr refl
      arrives false ok born arr = expires t.expires ok born arr refl

      unborn : (b : Bool) → t.bad ≡ false → is_unborn P.stage ≡ b → Early e ⊎ Ready e
      unborn true ok u = inl (early e owner_unborn (s ∙ rw (ok, u)) (λ z. omega (arith, z)) (asleep ok u))
      unborn false ok u = arrives t.arrives ok u refl

      bad : (b : Bool) → t.bad ≡ b → Early e ⊎ Ready e
      bad true h = inl (early e bad_number (s ∙ rw h) (λ z. omega (arith, z)) (rule_20 n a (not-true (numbered a) (sym m.bad ∙ h))))
      bad false h = unborn (is_unborn P.stage) h refl

  -- ---- what is told of it

  module _ (e : Decision) (says : Says e) where
    -- where the receiver's row and the process to be brought to life are read
    abbrev pub Y : ℕ
    Y = row_at i e.to.0

    abbrev pub Z : ℕ
    Z = process_at e.number.0

    -- refusal r behind 26, and behind 27
    abbrev pub pair_told : ℕ → ℕ
    pair_told r = cond e.sends (pair_refusal r (get_or n.counts Y 0)) r

    abbrev pub birth_told : ℕ → ℕ
    birth_told r = cond e.spawns (birth_refusal r (get_or n.processes Z no_process)) r

    abbrev pub Judges : ℕ → Type 0
    Judges k = k ≡ birth_told (pair_told e.refusal)

    is_ready : e.refusal ≡ 0 → Ready e
    unfolding Early
    is_ready z = ⊎_elim (λ w. absurd (w.0 z)) (λ w. w) (verdict e says)

    -- its own refusal
    pub own_refused : (e.refusal ≡ 0 → ⊥) → rule n a ≡ refused e.refusal
    unfolding Early
    own_refused z = ⊎_elim (λ w. w.2) (λ w. rule_undecided n a w.numbers w.awake w.waits e.refusal (w.decided ∙ go w e.receives refl)) (verdict e says)
      where
        go : Ready e → (b : Bool) → e.receives ≡ b → answer_of t.expires code_here i (state_of P M) e ≡ refused e.refusal
        go w true h = absurd (z (w.only h).0.0)
        go w false h = rw (h, ne_eqb e.refusal 0 z)

    module _ (z : e.refusal ≡ 0) where
      abbrev ready : Ready e
      ready = is_ready z

      module _ (quiet : e.receives ≡ false) where
        done_with : decide n a ≡ done (effect_of i e)
        done_with = ready.decided ∙ rw (quiet, eq-eqb e.refusal 0 z)

        keeps : Keeps (behaviours_of n) (owner a) (mailbox n (owner a)) (effect_of i e)
        keeps = decided_keeps n a (effect_of i e) whole ready.numbers ready.waits done_with

        receiver : e.sends ≡ true → So (is_number e.to.0)
        receiver h = (rw h at keeps.sent).0

        pub row_at_lem : e.sends ≡ true → Y ≡ pair i e.to.0
        row_at_lem h = let x = number_bounds i ready.number in let y = number_bounds e.to.0 (receiver h) in omega (arith, x, y)

        child : e.spawns ≡ true → So (is_number e.number.0)
        child h = (rw h at keeps.birth).number

        pub process_at_lem : e.spawns ≡ true → Z ≡ e.number.0 - 1
        process_at_lem h = let y = number_bounds e.number.0 (child h) in omega (arith, y)

    -- ---- 26 and 27

    pub record Cleared : Type 0 where
      pub refusal : e.refusal ≡ 0
      pub room : e.sends ≡ true → get_or n.counts Y 0 < 4
      pub free : e.sends ≡ false → e.spawns ≡ true → is_unborn (get_or n.processes Z no_process).stage ≡ true

    -- who searches the mailbox does nothing else
    searches : e.refusal ≡ 0 → e.receives ≡ true → Only e
    searches z h = ((is_ready z).only h).0

    quiet_sends : (z : e.refusal ≡ 0) → e.sends ≡ true → e.receives ≡ false
    quiet_sends z h = go e.receives refl
      where
        go : (b : Bool) → e.receives ≡ b → e.receives ≡ false
        go true q = absurd (false≢true (sym (searches z q).2 ∙ h))
        go false q = q

    quiet_spawns : (z : e.refusal ≡ 0) → e.spawns ≡ true → e.receives ≡ false
    quiet_spawns z h = go e.receives refl
      where
        go : (b : Bool) → e.receives ≡ b → e.receives ≡ false
        go true q = absurd (false≢true (sym (searches z q).3 ∙ h))
        go false q = q

    pair_full_lem : (z : e.refusal ≡ 0) → e.sends ≡ true → leb 4 (get_or n.counts Y 0) ≡ true → rule n a ≡ refused pair_full
    unfolding pair_has_room
    pair_full_lem z h f =
        let w = is_ready z in
        let q = quiet_sends z h in
        let full : 4 ≤ length (row n i e.to.0) = rw (signals_length (block_of 4 (pair i e.to.0) (flight_shelf n)), ← row_at_lem z q h) (leb-true 4 (get_or n.counts Y 0) f) in
        rule_26 n a w.numbers w.awake w.waits (effect_of i e) (done_with z q) (rw (h, w.owned, le-ltb (length (row n i e.to.0)) 4 full))

    number_taken : (z : e.refusal ≡ 0) → e.sends ≡ false → e.spawns ≡ true → is_unborn (get_or n.processes Z no_process).stage ≡ false → rule n a ≡ refused not_unborn
    unfolding pair_has_room number_free
    number_taken z s h f =
        let w = is_ready z in
        let q = quiet_spawns z h in
        rule_27 n a w.numbers w.awake w.waits (effect_of i e) (done_with z q) (rw s) (rw (h, ← process_at_lem z q h, f))

    abbrev Told : ℕ → Type 0
    Told k = (rule n a ≡ refused k) × (k ≡ 0 → ⊥)

    abbrev Clear : ℕ → Type 0
    Clear k = (k ≡ 0) × Cleared

    both_never : (z : e.refusal ≡ 0) → e.sends ≡ true → e.spawns ≡ true → ⊥
    both_never z s h = rw (s, h) at (keeps z (quiet_sends z s)).apart

    told_or_cleared : e.receives ≡ false → (k : ℕ) → Judges k → Told k ⊎ Clear k
    unfolding pair_refusal birth_refusal
    told_or_cleared q k g = go (ℕ_discrete e.refusal 0)
      where
        spawns : (z : e.refusal ≡ 0) → e.sends ≡ false → (b c : Bool) → e.spawns ≡ b → is_unborn (get_or n.processes Z no_process).stage ≡ c → Told k ⊎ Clear k
        spawns z s true true h u = inr (g ∙ rw (z, s, h, u), record { refusal = z; room = λ y. absurd (false≢true (sym s ∙ y)); free = λ x y. u })
        spawns z s true false h u = let l : k ≡ not_unborn = g ∙ rw (z, s, h, u) in inl (rw l (number_taken z s h u), λ y. omega (arith, l, y))
        spawns z s false c h u = inr (g ∙ rw (z, s, h), record { refusal = z; room = λ y. absurd (false≢true (sym s ∙ y)); free = λ x y. absurd (false≢true (sym h ∙ y)) })

        alone : (z : e.refusal ≡ 0) → e.sends ≡ true → e.spawns ≡ false
        alone z s = none e.spawns refl
          where
            none : (b : Bool) → e.spawns ≡ b → e.spawns ≡ false
            none true h = absurd (both_never z s h)
            none false h = h

        sends : (z : e.refusal ≡ 0) → (b c : Bool) → e.sends ≡ b → leb 4 (get_or n.counts Y 0) ≡ c → Told k ⊎ Clear k
        sends z true true s f = let l : k ≡ pair_full = g ∙ rw (z, s, f, alone z s) in inl (rw l (pair_full_lem z s f), λ y. omega (arith, l, y))
        sends z true false s f = inr (g ∙ rw (z, s, f, alone z s), record { refusal = z; room = λ y. leb-false 4 (get_or n.counts Y 0) f; free = λ x y. absurd (false≢true (sym x ∙ s)) })
        sends z false c s f = spawns z s e.spawns (is_unborn (get_or n.processes Z no_process).stage) refl refl

        own : (z : e.refusal ≡ 0 → ⊥) (b c : Bool) → e.sends ≡ b → e.spawns ≡ c → k ≡ e.refusal
        own z true true s h = g ∙ rw (s, h, ne_eqb e.refusal 0 z, ne_eqb e.refusal 0 z)
        own z true false s h = g ∙ rw (s, h, ne_eqb e.refusal 0 z)
        own z false true s h = g ∙ rw (s, h, ne_eqb e.refusal 0 z)
        own z false false s h = g ∙ rw (s, h)

        go : Dec (e.refusal ≡ 0) → Told k ⊎ Clear k
        go (yes z) = sends z e.sends (leb 4 (get_or n.counts Y 0)) refl refl
        go (no z) = let l : k ≡ e.refusal = own z e.sends e.spawns refl refl in inl (rw l (own_refused z), λ y. z (sym l ∙ y))

    pub turn_refused : e.receives ≡ false → (k : ℕ) → Judges k → (k ≡ 0 → ⊥) → rule n a ≡ refused k
    turn_refused q k g z = ⊎_elim (λ w. w.0) (λ w. absurd (z w.0)) (told_or_cleared q k g)

    pub turn_cleared : e.receives ≡ false → (k : ℕ) → Judges k → k ≡ 0 → Cleared
    turn_cleared q k g z = ⊎_elim (λ w. absurd (w.1 z)) (λ w. w.1) (told_or_cleared q k g)

    -- a decision to search the mailbox is looked at no further
    module _ (h : e.receives ≡ true) where
      only_searches : Only e
      unfolding Early
      only_searches = ⊎_elim (λ w. absurd (false≢true (sym w.1 ∙ h))) (λ w. (w.only h).0) (verdict e says)

      pub turn_searching : Cleared
      turn_searching = record { refusal = only_searches.0; room = λ y. absurd (false≢true (sym only_searches.2 ∙ y)); free = λ x y. absurd (false≢true (sym only_searches.3 ∙ y)) }

      pub told_as_it_is : (r : ℕ) → birth_told (pair_told r) ≡ r
      told_as_it_is r = rw (only_searches.2, only_searches.3)

    -- ---- what is stored

    -- behind the last slot that is searched, and the slot in which a message joins
    abbrev pub top : ℕ
    top = 16 * t.at + searched_of W e

    abbrev pub join : ℕ
    join = 16 * t.at + min W 15

    -- how many signals are in flight to the receiver, and the cell behind them
    abbrev pub sent_before : ℕ
    sent_before = get_or n.counts Y 0

    abbrev pub sent_at : ℕ
    sent_at = cell_at Y sent_before

    -- the mail, where no message leaves
    abbrev pub stored_mail : Shelf Slot
    stored_mail = record { cells = set n.slots join (slot_next (get_or n.slots join no_message) e); counts = set n.waiting t.at (waiting_next W e) }

    -- the mail where a message joins, and where none does
    pub mail_joined : e.joins ≡ true → stored_mail ≡ record { cells = set n.slots join (slot_of e.message); counts = set n.waiting t.at (min (W + 1) 255) }
    unfolding slot_next waiting_next
    mail_joined h = rw h

    pub mail_kept : e.joins ≡ false → stored_mail ≡ mail_shelf n
    unfolding slot_next waiting_next
    mail_kept h = rw (h, set-get_or n.slots join no_message, set-get_or n.waiting t.at 0)

    -- the mail, where the message in slot k leaves and those behind it move up
    abbrev pub left_mail : ℕ → Shelf Slot
    left_mail k = record { cells = up k top n.slots; counts = set n.waiting t.at (W - 1) }

    abbrev pub stored_flight : Shelf Cell
    stored_flight = record { cells = set n.cells sent_at (cell_next (get_or n.cells sent_at no_signal) e); counts = set n.counts Y (sent_next sent_before e) }

    -- the signals in flight where one is sent, and where none is
    pub flight_sent : e.sends ≡ true → stored_flight ≡ record { cells = set n.cells sent_at (cell_of e.signal); counts = set n.counts Y (min (sent_before + 1) 255) }
    unfolding cell_next sent_next
    flight_sent h = rw h

    pub flight_kept : e.sends ≡ false → stored_flight ≡ flight_shelf n
    unfolding cell_next sent_next
    flight_kept h = rw (h, set-get_or n.cells sent_at no_signal, set-get_or n.counts Y 0)

    -- the step is accepted: its owner becomes next, and no message leaves
    pub record Committed (next : Process) : Type 0 where
      pub cleared : Cleared
      pub effect : Effect
      pub answer : rule n a ≡ done (commit n a effect)
      pub process : effect.process ≡ next
      pub mail : with_mail (mail_shelf n) (owner a - 1) effect.mail ≡ stored_mail
      pub sent : effect.sent ≡ sent_of e
      pub born : effect.born ≡ born_of i e

    -- what is known of a refusal k, with a next process
    abbrev pub Verdict : ℕ → Process → Type 0
    Verdict k next = ((k ≡ 0 → ⊥) × (rule n a ≡ refused k)) ⊎ ((k ≡ 0) × Committed next)

    -- the node behind a recv whose search answers s, where that is a fit
    abbrev pub received : Searched → Node
    received s = made n (set n.processes t.at (after_search P s)) (left_mail (16 * t.at + fit_index (min W 16) s)) (flight_shelf n)

    no_join : e.joins ≡ false → (l : List Slot) → set l join (slot_next (get_or l join no_message) e) ≡ l
    unfolding slot_next
    no_join h l = rw h (set-get_or l join no_message)

    -- ---- the commit

    module _ (clear : Cleared) where
      abbrev cleared_ready : Ready e
      cleared_ready = is_ready clear.refusal

      has_room : e.receives ≡ false → (b : Bool) → e.sends ≡ b → So (pair_has_room n (owner a) (cond b (some (record { to = e.to.0; signal = e.signal })) none))
      unfolding pair_has_room
      has_room q false h = refl
      has_room q true h =
          let w = cleared_ready in
          let few : length (row n i e.to.0) < 4 = rw (signals_length (block_of 4 (pair i e.to.0) (flight_shelf n)), ← row_at_lem clear.refusal q h) (clear.room h) in
          rw w.owned (lt-ltb (length (row n i e.to.0)) 4 few)

      is_free : e.receives ≡ false → (b c : Bool) → e.sends ≡ b → e.spawns ≡ c → So (number_free n (cond c (some (record { number = e.number.0; process = fresh e.behaviour (pid i) })) none))
      unfolding number_free
      is_free q b false s h = refl
      is_free q true true s h = absurd (rw (s, h) at (keeps clear.refusal q).apart)
      is_free q false true s h = rw (← process_at_lem clear.refusal q h) (clear.free s h)

      pub turn_done : e.receives ≡ false → rule n a ≡ done (commit n a (effect_of i e))
      turn_done q =
          let w = cleared_ready in
          rule_done n a w.numbers w.awake w.waits (effect_of i e) (done_with clear.refusal q) (has_room q e.sends refl) (is_free q e.sends e.spawns refl refl)

      -- where the mailbox is searched
      module _ (h : e.receives ≡ true) where
        abbrev at_recv_lem : AtRecv code_here i (state_of P [])
        at_recv_lem = (cleared_ready.only h).1

        pub clauses : Clauses n P
        clauses =
            let same : P ≡ process n i = rw cleared_ready.at in
            let go : (p : Process) → process n i ≡ p → p.stage ≡ Live → p.place < length (code n p.behaviour.0) → (get_or (code n p.behaviour.0) p.place no_op).number ≡ recv_op
            → Clauses n p = λ p q. subst (λ (p : Process). p.stage ≡ Live → p.place < length (code n p.behaviour.0) → (get_or (code n p.behaviour.0) p.place no_op).number ≡ recv_op
            → Clauses n p) q (λ l. clauses_in_lem n whole i cleared_ready.number l) in
            go P (sym same) at_recv_lem.live at_recv_lem.inside at_recv_lem.recv

        -- the op at the place
        op_here : get_or code_here P.place no_op ≡ O
        op_here = (cleared_ready.only h).2.op at_recv_lem.inside

        pub search_decided : t.expires ≡ false → decide n a ≡ receives_by (state_of P M) S
        unfolding receives
        search_decided early = cleared_ready.decided ∙ rw (h, early, op_here)

        pub turn_searched : t.expires ≡ false → rule n a ≡ searched n a P S
        unfolding pair_has_room number_free
        turn_searched early = go S (search_decided early)
          where
            go : (s : Searched) → decide n a ≡ receives_by (state_of P M) s → rule n a ≡ searched n a P s
            go silent q = rule_undecided n a cleared_ready.numbers cleared_ready.awake cleared_ready.waits mailbox_empty q
            go unfit q = rule_undecided n a cleared_ready.numbers cleared_ready.awake cleared_ready.waits no_fit q
            go (fit f) q = rule_done n a cleared_ready.numbers cleared_ready.awake cleared_ready.waits _ q refl refl

        -- a timeout: the search gives f
        late_decided : t.expires ≡ true → (f : Option Fit) → search (clauses_of n P) 0 M ≡ f → decide n a
            ≡ need (at_after code_here P.place) no_timeout (expires_if (state_of P M) (behind_clauses code_here P.place) f)
        unfolding expires_live
        late_decided late f is = cleared_ready.decided ∙ rw (h, late, op_here, is)

        -- whether an `after` stands behind the clauses is what is read there
        after_read : at_after code_here P.place ≡ (ltb (P.place + 1 + O.small) L && eqb (behind_op n P).number after_op)
        unfolding at_after
        after_read = rw (eq-eqb (get_or code_here P.place no_op).number recv_op at_recv_lem.recv, op_here) (go (ltb (P.place + 1 + O.small) L) refl)
          where
            go : (b : Bool) → ltb (P.place + 1 + O.small) L ≡ b → eqb (get_or code_here (P.place + 1 + O.small) no_op).number after_op ≡ (b && eqb (behind_op n P).number after_op)
            go true l = ap (λ (o : Op). eqb o.number after_op) (sym (clauses.behind (rw (cleared_ready.only h).2.size (ltb-true (P.place + 1 + O.small) L l))))
            go false l =
                let past : length code_here ≤ P.place + 1 + O.small = rw (cleared_ready.only h).2.size (ltb-false (P.place + 1 + O.small) L l) in
                ap (λ (o : Op). eqb o.number after_op) (get_or-eq_default code_here no_op {n = P.place + 1 + O.small} past)

        pub late_refused : t.expires ≡ true → (f : Option Fit) → search (clauses_of n P) 0 M ≡ f →
            need (at_after code_here P.place) no_timeout (expires_if (state_of P M) (behind_clauses code_here P.place) f) ≡ refused no_timeout → rule n a ≡ refused no_timeout
        late_refused late f is r = rule_undecided n a cleared_ready.numbers cleared_ready.awake cleared_ready.waits no_timeout (late_decided late f is ∙ r)

      -- ---- the mail

      sizes : Sized n
      sizes = whole.sized

      at_bound : t.at < 16
      at_bound = let x = number_bounds i cleared_ready.number in omega (arith, x, cleared_ready.at)

      owner_at : owner a - 1 ≡ t.at
      owner_at = rw cleared_ready.owned (sym cleared_ready.at)

      ok : t.bad ≡ false
      ok = m.bad ∙ rw cleared_ready.numbers

      mail_room : Room 16 t.at (mail_shelf n)
      mail_room = record { cells = rw sizes.mail.cells (let x = at_bound in omega arith); counts = rw sizes.mail.counts at_bound }

      -- no message joins, and none leaves
      mail_same : e.joins ≡ false → mail_shelf n ≡ stored_mail
      unfolding waiting_next
      mail_same h =
          let cells = no_join h n.slots in
          let counts : set n.waiting t.at (waiting_next W e) ≡ n.waiting = rw h (set-get_or n.waiting t.at 0) in
          λ x. record { cells = sym cells x; counts = sym counts x }

      mail_quiet : e.receives ≡ false → (b : Bool) → e.joins ≡ b → with_mail (mail_shelf n) (owner a - 1) (cond b (joining e.message) unchanged) ≡ stored_mail
      unfolding waiting_next slot_next
      mail_quiet q false h = mail_same h
      mail_quiet q true h =
          let room : length (mailbox n (owner a)) < 16 = rw h at (keeps clear.refusal q).mail in
          let few : W < 16 = rw (← owner_at) (rw (messages_length (block_of 16 (owner a - 1) (mail_shelf n))) at room) in
          let place : 16 * t.at + W ≡ join = omega (arith, few) in
          let cells : set n.slots (16 * t.at + W) (slot_of e.message) ≡ set n.slots join (slot_next (get_or n.slots join no_message) e) = rw (h, place) in
          let more : W + 1 ≡ min (W + 1) 255 = omega (arith, few) in
          let counts : set n.waiting t.at (W + 1) ≡ set n.waiting t.at (waiting_next W e) = rw (h, ← more) in
          ap (λ (k : ℕ). changed 16 (joined (slot_of e.message)) k (mail_shelf n)) owner_at
          ∙ store_joined no_message 16 t.at (mail_shelf n) mail_room (slot_of e.message) few (omega (arith, few))
          ∙ (λ x. record { cells = cells x; counts = counts x })

      pub committed_quiet : e.receives ≡ false → Committed e.process
      committed_quiet q = record {
        cleared = clear;
        effect = effect_of i e;
        answer = turn_done q;
        process = refl;
        mail = mail_quiet q e.joins refl;
        sent = refl;
        born = refl;
      }

      -- where nothing arrives, the rows are as they were
      no_arrival : t.arrives ≡ false → with_arrival (flight_shelf n) a ≡ flight_shelf n
      no_arrival arr =
          let action : a ≡ cond t.expires (timeout i) (run i) = m.action ok ∙ rw arr in
          ap (with_arrival (flight_shelf n)) action ∙ go t.expires
        where
          go : (b : Bool) → with_arrival (flight_shelf n) (cond b (timeout i) (run i)) ≡ flight_shelf n
          go true = refl
          go false = refl

      -- the message that fits leaves its mailbox
      message_left : (h : e.receives ≡ true) → t.expires ≡ false → (f : Fit) → S ≡ fit f → changed 16 (left f.index) (owner a - 1) (mail_shelf n) ≡ left_mail (16 * t.at + f.index)
      unfolding searched_of
      message_left h early f found =
          let effect : Effect = record { process = moved (with_message P f.clause f.message) f.clause.target; mail = leaving f.index; sent = none; born = none } in
          let kept = decided_keeps n a effect whole cleared_ready.numbers cleared_ready.waits (search_decided h early ∙ rw found) in
          let few : W ≤ 16 = rw (← owner_at) (rw (messages_length (block_of 16 (owner a - 1) (mail_shelf n))) at kept.mail.1) in
          let here : 16 * t.at + W ≡ top = let x : top ≡ 16 * t.at + min W 16 = rw h in omega (arith, few, x) in
          ap (λ (k : ℕ). changed 16 (left f.index) k (mail_shelf n)) owner_at
          ∙ store_left no_message 16 t.at (mail_shelf n) mail_room f.index few
          ∙ (λ x. record { cells = up (16 * t.at + f.index) (here x) n.slots; counts = set n.waiting t.at (W - 1) })

      received_is : (h : e.receives ≡ true) → t.expires ≡ false → (f : Fit) → S ≡ fit f → rule n a ≡ done (received (fit f))
      unfolding commit
      received_is h early f found =
          let next = moved (with_message P f.clause f.message) f.clause.target in
          turn_searched h early ∙ rw found
          (λ x. done (made n (set n.processes (owner_at x) next) (message_left h early f found x) (no_arrival (cleared_ready.seeks h) x)))

      -- a run: it is refused, or the message that fits leaves
      early_searched : (h : e.receives ≡ true) → t.expires ≡ false → ((search_number S ≡ 0 → ⊥) × (rule n a ≡ refused (search_number S))) ⊎ ((search_number S ≡ 0) × (rule n a ≡ done (received S)))
      early_searched h early = go S refl
        where
          go : (s : Searched) → S ≡ s → ((search_number s ≡ 0 → ⊥) × (rule n a ≡ refused (search_number s))) ⊎ ((search_number s ≡ 0) × (rule n a ≡ done (received s)))
          go silent q = inl ((λ z. omega (arith, z)), turn_searched h early ∙ rw q)
          go unfit q = inl ((λ z. omega (arith, z)), turn_searched h early ∙ rw q)
          go (fit f) q = inr (refl, received_is h early f q)

      -- a timeout, where no message fits: it is refused, or the process moves to the target of the `after`
      late_missed : (h : e.receives ≡ true) → t.expires ≡ true → search (clauses_of n P) 0 M ≡ none → Verdict (timeout_refusal unfit P.place O.small L (behind_op n P)) (moved P (behind_op n P).target)
      unfolding timeout_refusal pair_has_room number_free
      late_missed h late missed = go (ltb (P.place + 1 + O.small) L) refl (eqb (behind_op n P).number after_op) refl
        where
          none_there : (ltb (P.place + 1 + O.small) L && eqb (behind_op n P).number after_op) ≡ false → rule n a ≡ refused no_timeout
          none_there q = late_refused h late none missed (rw (after_read h, q))

          go : (b : Bool) → ltb (P.place + 1 + O.small) L ≡ b → (c : Bool) → eqb (behind_op n P).number after_op ≡ c → Verdict (cond (b && c) 0 no_timeout) (moved P (behind_op n P).target)
          go false l c f = inl ((λ z. omega (arith, z)), none_there (rw l))
          go true l false f = inl ((λ z. omega (arith, z)), none_there (rw (l, f)))
          go true l true f =
              let only = searches clear.refusal h in
              let effect : Effect = record { process = moved P (behind_op n P).target; mail = unchanged; sent = none; born = none } in
              let there : behind_clauses code_here P.place ≡ behind_op n P = rw (op_here h)
              (sym ((clauses h).behind (rw (cleared_ready.only h).2.size (ltb-true (P.place + 1 + O.small) L l)))) in
              let decided : decide n a ≡ done effect = late_decided h late none missed ∙ rw (after_read h, l, f, there) in
              inr (
                refl,
                record {
                  cleared = clear;
                  effect = effect;
                  answer = rule_done n a cleared_ready.numbers cleared_ready.awake cleared_ready.waits effect decided refl refl;
                  process = refl;
                  mail = mail_same only.1;
                  sent = rw only.2;
                  born = rw only.3;
                },
              )

      -- a timeout: 28 where a message fits
      late_searched : (h : e.receives ≡ true) → t.expires ≡ true → Verdict (timeout_refusal S P.place O.small L (behind_op n P)) (moved P (behind_op n P).target)
      unfolding timeout_refusal
      late_searched h late = go (search (clauses_of n P) 0 M) refl
        where
          either : (b : Bool) → need {A = Effect} b no_timeout (refused no_timeout) ≡ refused no_timeout
          either true = refl
          either false = refl

          -- whether there was no message, or none that fits, makes no difference
          unfit_as : (ms : List Message) → timeout_refusal unfit P.place O.small L (behind_op n P) ≡ timeout_refusal (answered none ms) P.place O.small L (behind_op n P)
          unfit_as [] = refl
          unfit_as (m ∷ ms) = refl

          go : (f : Option Fit) → search (clauses_of n P) 0 M ≡ f → Verdict (timeout_refusal (answered f M) P.place O.small L (behind_op n P)) (moved P (behind_op n P).target)
          go none q = subst (λ (k : ℕ). Verdict k (moved P (behind_op n P).target)) (unfit_as M) (late_missed h late q)
          go (some f) q = inl ((λ z. omega (arith, z)), late_refused h late (some f) q (either (at_after code_here P.place)))

      -- who searches is live, and has at most 16 messages
      pub waiting_bound : e.receives ≡ true → W ≤ 16
      waiting_bound h =
          let same : P ≡ process n i = rw cleared_ready.at in
          let live : (process n i).stage ≡ Live = rw (← same) (at_recv_lem h).live in
          let here = alive (behaviours_of n) i (process n i) (mailbox n i) live (whole.processes i cleared_ready.number) in
          let few : length (mailbox n i) ≤ 16 = leb-true (length (mailbox n i)) 16 here.mailed.few in
          rw cleared_ready.at (rw (messages_length (block_of 16 (i - 1) (mail_shelf n))) at few)

      -- ---- the flight

      row_bound : Y < 256
      row_bound = omega arith

      flight_room : (k : ℕ) → k < 256 → Room 4 k (flight_shelf n)
      flight_room k h = record { cells = rw sizes.flight.cells (omega arith); counts = rw sizes.flight.counts h }

      -- what is sent stands behind the others of its row
      sent_stored : with_sending (flight_shelf n) (owner a) (sent_of e) ≡ stored_flight
      unfolding sent_next cell_next
      sent_stored = go e.sends refl
        where
          go : (b : Bool) → e.sends ≡ b → with_sending (flight_shelf n) (owner a) (cond b (some (record { to = e.to.0; signal = e.signal })) none) ≡ stored_flight
          go false h =
              let cells : stored_flight.cells ≡ n.cells = rw h (set-get_or n.cells sent_at no_signal) in
              let counts : stored_flight.counts ≡ n.counts = rw h (set-get_or n.counts Y 0) in
              λ x. record { cells = sym cells x; counts = sym counts x }
          go true h =
              let few : sent_before < 4 = clear.room h in
              let here : pair (owner a) e.to.0 ≡ Y = rw cleared_ready.owned (sym (row_at_lem clear.refusal (quiet_sends clear.refusal h) h)) in
              let place : 4 * Y + sent_before ≡ sent_at = cell_place Y sent_before row_bound few in
              let more = byte_more sent_before few in
              let cells : set n.cells (4 * Y + sent_before) (cell_of e.signal) ≡ stored_flight.cells = ap (λ (j : ℕ). set n.cells j (cell_of e.signal)) place ∙ rw h in
              let counts : set n.counts Y (sent_before + 1) ≡ stored_flight.counts = rw (h, ← more.0) in
              ap (λ (k : ℕ). changed 4 (joined (cell_of e.signal)) k (flight_shelf n)) here
              ∙ store_joined no_signal 4 Y (flight_shelf n) (flight_room Y row_bound) (cell_of e.signal) few more.1
              ∙ (λ x. record { cells = cells x; counts = counts x })

      pub stored_cells : length stored_flight.cells ≡ 1024
      stored_cells = length-set n.cells sent_at _ ∙ sizes.flight.cells

      -- ---- the node

      -- a signal leaves one row and one joins another, or the same, in any order
      leaves_joins : (r : ℕ) → r < 256 → 0 < get_or n.counts r 0 → changed 4 (popped no_signal) r (with_sending (flight_shelf n) (owner a) (sent_of e))
          ≡ with_sending (changed 4 (popped no_signal) r (flight_shelf n)) (owner a) (sent_of e)
      leaves_joins r h g = go e.sends refl
        where
          x : Cell
          x = cell_of e.signal

          to : ℕ
          to = pair (owner a) e.to.0

          go : (b : Bool) → e.sends ≡ b → changed 4 (popped no_signal) r (with_sending (flight_shelf n) (owner a) (cond b (some (record { to = e.to.0; signal = e.signal })) none))
              ≡ with_sending (changed 4 (popped no_signal) r (flight_shelf n)) (owner a) (cond b (some (record { to = e.to.0; signal = e.signal })) none)
          go false q = refl
          go true q = same (ℕ_discrete r to)
            where
              here : to ≡ Y
              here = rw cleared_ready.owned (sym (row_at_lem clear.refusal (quiet_sends clear.refusal q) q))

              same : Dec (r ≡ to) → changed 4 (popped no_signal) r (changed 4 (joined x) to (flight_shelf n)) ≡ changed 4 (joined x) to (changed 4 (popped no_signal) r (flight_shelf n))
              same (no d) = changed_comm 4 (popped no_signal) (joined x) (popped_keeps no_signal) (joined_keeps x) (flight_shelf n) r to d
              same (yes d) =
                  let few : get_or n.counts r 0 < 4 = rw (d ∙ here) (clear.room q) in
                  let room = flight_room r h in
                  let size : length (block_of 4 r (flight_shelf n)).cells ≡ 4 = whole-block 4 r (flight_shelf n) room in
                  rw (← d) (changed_same 4 (popped no_signal) (joined x) (popped_keeps no_signal) (joined_keeps x) (flight_shelf n) r room (popped_joined no_signal x (block_of 4 r (flight_shelf n)) g
                  (rw size few) (byte_more (get_or n.counts r 0) few).1))

      no_birth_lem : e.spawns ≡ false → born_of i e ≡ none
      no_birth_lem h = rw h

      birth : e.spawns ≡ true → born_of i e ≡ some (record { number = e.number.0; process = fresh e.behaviour (pid i) })
      birth h = rw h

      module _ {next : Process} (w : Committed next) where
        processes_stored : e.spawns ≡ false → set n.processes t.at next ≡ with_birth (set n.processes (owner a - 1) w.effect.process) w.effect.born
        processes_stored h = rw (w.born ∙ no_birth_lem h, w.process, owner_at)

        mail_stored : e.spawns ≡ false → stored_mail ≡ without_mail (with_mail (mail_shelf n) (owner a - 1) w.effect.mail) w.effect.born
        mail_stored h = sym (ap (without_mail (with_mail (mail_shelf n) (owner a - 1) w.effect.mail)) (w.born ∙ no_birth_lem h) ∙ w.mail)

        flight_stored : t.arrives ≡ false → stored_flight ≡ with_sending (with_arrival (flight_shelf n) a) (owner a) w.effect.sent
        flight_stored arr =
            sym (ap (λ (s : Shelf Cell). with_sending s (owner a) w.effect.sent) (no_arrival arr) ∙ ap (with_sending (flight_shelf n) (owner a)) w.sent ∙ sent_stored)

        pub stored_run : t.arrives ≡ false → e.spawns ≡ false → made n (set n.processes t.at next) stored_mail stored_flight ≡ commit n a w.effect
        unfolding commit
        stored_run arr h = λ x. made n (processes_stored h x) (mail_stored h x) (flight_stored arr x)

        pub stored_birth : e.spawns ≡ true → made n (set (set n.processes t.at next) Z (fresh e.behaviour (pid i)))
            (record { cells = stored_mail.cells; counts = set stored_mail.counts Z 0 }) stored_flight ≡ commit n a w.effect
        unfolding commit
        stored_birth h =
            let here : Z ≡ e.number.0 - 1 = process_at_lem clear.refusal (quiet_spawns clear.refusal h) h in
            let processes : set (set n.processes t.at next) Z (fresh e.behaviour (pid i)) ≡ with_birth (set n.processes (owner a - 1) w.effect.process) w.effect.born = rw
            (w.born ∙ birth h, w.process, owner_at, here) in
            let mail : record { cells = stored_mail.cells; counts = set stored_mail.counts Z 0 } ≡ without_mail (with_mail (mail_shelf n) (owner a - 1) w.effect.mail) w.effect.born =
            sym (store_emptied no_message 16 Z stored_mail) ∙ ap (λ (j : ℕ). changed 16 emptied j stored_mail) here
            ∙ sym (ap (without_mail (with_mail (mail_shelf n) (owner a - 1) w.effect.mail)) (w.born ∙ birth h) ∙ ap (changed 16 emptied (e.number.0 - 1)) w.mail) in
            λ x. made n (processes x) (mail x) (flight_stored (cleared_ready.births h) x)

        -- and the signal that arrived has left its row
        abbrev popped_flight : Shelf Cell
        popped_flight = record {
          cells = set (up (4 * t.row) (4 * t.row + 4) stored_flight.cells) (4 * t.row + 3) no_signal;
          counts = set stored_flight.counts t.row (get_or stored_flight.counts t.row 0 - 1);
        }

        pub stored_arrival : t.row < 256 → t.arrives ≡ true → e.spawns ≡ false → made n (set n.processes t.at next) stored_mail
            popped_flight ≡ commit n a w.effect
        unfolding commit signal_waits
        stored_arrival bound arr h =
            let action : a ≡ arrive i j = m.action ok ∙ rw arr in
            let row_is : t.row ≡ pair j i = m.row ok arr in
            let waits : 0 < length (row n j i) = ltb-true 0 (length (row n j i)) (rw action at cleared_ready.waits) in
            let held : 0 < get_or n.counts t.row 0 = rw row_is (rw (signals_length (block_of 4 (pair j i) (flight_shelf n))) at waits) in
            let counts : length stored_flight.counts ≡ 256 = length-set n.counts Y _ ∙ sizes.flight.counts in
            let room : Room 4 t.row stored_flight = record { cells = rw stored_cells (omega (arith, bound)); counts = rw counts bound } in
            let flight : popped_flight
            ≡ with_sending (with_arrival (flight_shelf n) a) (owner a) w.effect.sent =
            sym (store_popped no_signal 3 t.row stored_flight room)
            ∙ ap (changed 4 (popped no_signal) t.row) (sym sent_stored)
            ∙ leaves_joins t.row bound held
            ∙ ap (λ (r : ℕ). with_sending (changed 4 (popped no_signal) r (flight_shelf n)) (owner a) (sent_of e)) row_is
            ∙ ap (λ (c : Action). with_sending (with_arrival (flight_shelf n) c) (owner a) (sent_of e)) (sym action)
            ∙ ap (with_sending (with_arrival (flight_shelf n) a) (owner a)) (sym w.sent) in
            λ x. made n (processes_stored h x) (mail_stored h x) (flight x)

    -- ---- the search: its clauses and its messages, where they stand

    clauses_read : e.receives ≡ true → clauses_in n.ops (place_at n P + 1) O.small ≡ clauses_of n P
    clauses_read q = clauses_lent n whole P (clauses (turn_searching q) q)

    mail_read : e.receives ≡ true → t.at < 16 → mail_in n.slots (16 * t.at) W ≡ M
    mail_read q b = mail_lent n whole t.at b (waiting_bound (turn_searching q) q)

    -- what the search of the code answers, where `at` is the place behind the recv
    pub search_is : e.receives ≡ true → t.at < 16 → searched_in (clauses_in n.ops (place_at n P + 1) O.small) (mail_in n.slots (16 * t.at) W) ≡ S
    search_is q b = λ i. searched_in (clauses_read q i) (mail_read q b i)

    -- the search is over: what a run and a timeout do
    pub run_searched : e.receives ≡ true → t.expires ≡ false → ((search_number S ≡ 0 → ⊥) × (rule n a ≡ refused (search_number S))) ⊎ ((search_number S ≡ 0) × (rule n a ≡ done (received S)))
    run_searched q early = early_searched (turn_searching q) q early

    pub timeout_searched : e.receives ≡ true → t.expires ≡ true → Verdict (timeout_refusal S P.place O.small L (behind_op n P)) (moved P (behind_op n P).target)
    timeout_searched q late = late_searched (turn_searching q) q late

    -- nothing was looked for
    pub unsought : e.receives ≡ false → (k : ℕ) → Judges k → Verdict k e.process
    unsought q k g = go (ℕ_discrete k 0)
      where
        go : Dec (k ≡ 0) → Verdict k e.process
        go (no z) = inl (z, turn_refused q k g z)
        go (yes z) = inr (z, committed_quiet (turn_cleared q k g z) q)
