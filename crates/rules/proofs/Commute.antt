-- Steps of two owners commute: what the commit of one stores, the decision of the other does not read, and the two commits can change places.
-- Nothing here knows an op or a signal. Assumes nothing.
use mathlib.Core.Bool.{Bool, true, false, not, So, false≢true}
use mathlib.Core.List.{List, [], ◌∷◌, ◌++◌}
use mathlib.Core.Logic.{◌≢◌}
use mathlib.Core.Option.{Option, none, some}
use mathlib.Core.Path.{◌≡◌, refl, sym, ◌∙◌, ap}
use Prim.Native.Nat.{ℕ, ◌-◌, ◌<◌}
use native.Mathlib.Decide.{ℕ_discrete}
use native.Mathlib.Omega.{arith}
use borrow.Author.Tests.{lt-ltb, ltb-true}
use lib.ListN.{length, get_or, set, length-set}
use lib.Seq.{get_or-set_same, get_or-set_other, set_comm}
use Rattle.node.specs.declared.Cell.{Cell}
use Rattle.node.specs.declared.Node.{Node}
use Rattle.node.specs.declared.Process.{Process}
use Rattle.node.specs.declared.Signal.{Signal}
use Rattle.node.specs.declared.Slot.{Slot}
use Rattle.node.specs.Blocks.{Block, Shelf, block_of, changed, joined, left, popped, emptied}
use Rattle.node.specs.Mailboxes.{slot_of, messages}
use Rattle.node.specs.Nodes.{no_process, pair, mail_shelf, flight_shelf}
use Rattle.node.specs.Rows.{no_signal, cell_of, signals, oldest}
use Rattle.node.specs.Values.{is_number}
use Rattle.node.proofs.Blocks.{Keeping, block_of_here, block_of_else, changed_comm, changed_same, joined_keeps, left_keeps, popped_keeps, emptied_keeps, popped_joined}
use Rattle.node.proofs.Contents.{signals_length, signals_at}
use Rattle.rules.specs.Answers.{done}
use Rattle.rules.specs.Behaviours.{Instruction}
use Rattle.rules.specs.Effects.{MailChange, unchanged, joining, leaving, Effect, Sending, Birth}
use Rattle.rules.specs.Nodes.{behaviours_of, code, process, mailbox, row}
use Rattle.rules.specs.Run.{runs}
use Rattle.rules.specs.Steps.{Action, run, arrive, timeout, owner, is_unborn, with_arrival, with_sending}
use Rattle.rules.specs.Steps.{with_mail, without_mail, with_birth, commit, numbered, owner_born, signal_waits, pair_has_room}
use Rattle.rules.specs.Timeout.{expires}
use Rattle.rules.specs.Steps.{number_free, incoming, decide}
use Rattle.rules.proofs.Accepted.{Act}
use Rattle.rules.proofs.All.{parts}
use Rattle.rules.proofs.Keeps.{SentOk, BornOk, Keeps}
use Rattle.rules.proofs.Commits.{pair_same, pair_room, row_in, four, owner_number, arrival_few, mail_else}
use Rattle.rules.proofs.Records.{number_bounds, signals_joined}
use Rattle.rules.proofs.Shape.{SizedRows, Sized, arrival_sized}

-- ---- births

-- b brings no process to life at index k
unfoldable pub Off : Option Birth → ℕ → Type 0
Off none k = Unit {0}
Off (some b) k = k ≢ b.number - 1

unfoldable pub Apart : Option Birth → Option Birth → Type 0
Apart none c = Unit {0}
Apart (some b) c = Off c (b.number - 1)

apart_off : (b : Option Birth) (c : Birth) → Apart b (some c) → Off b (c.number - 1)
unfolding Off Apart
apart_off none c a = tt
apart_off (some b) c a = λ p. a (sym p)

-- what an owner changes at its index, and a birth at the index of the process that it brings to life, in processes and in mailboxes alike
module _ {S C : Type 0} (put : S → ℕ → C → S) (bear : S → Option Birth → S)
    (put-put : (s : S) (k l : ℕ) (x y : C) → k ≢ l → put (put s k x) l y ≡ put (put s l y) k x)
    (bear-put : (s : S) (b : Option Birth) (k : ℕ) (x : C) → Off b k → put (bear s b) k x ≡ bear (put s k x) b)
    (bear-bear : (s : S) (b c : Option Birth) → Apart b c → bear (bear s b) c ≡ bear (bear s c) b) where
  bear_swap : (s : S) (i m : ℕ) (x y : C) (b c : Option Birth) → i ≢ m → Off b m → Off c i → Apart b c → bear (put (bear (put s i x) b) m y) c ≡ bear (put (bear (put s m y) c) i x) b
  bear_swap s i m x y b c h o q a =
      ap (λ (z : S). bear z c) (bear-put (put s i x) b m y o ∙ ap (λ (z : S). bear z b) (put-put s i m x y h))
      ∙ bear-bear (put (put s m y) i x) b c a
      ∙ ap (λ (z : S). bear z b) (sym (bear-put (put s m y) c i x q))

-- of processes
process_put : (l : List Process) (k m : ℕ) (x y : Process) → k ≢ m → set (set l k x) m y ≡ set (set l m y) k x
process_put l k m x y h = set_comm l k m x y h

process_bear_put : (l : List Process) (b : Option Birth) (k : ℕ) (x : Process) → Off b k → set (with_birth l b) k x ≡ with_birth (set l k x) b
unfolding Off
process_bear_put l none k x o = refl
process_bear_put l (some b) k x o = set_comm l (b.number - 1) k b.process x (λ e. o (sym e))

process_bear_bear : (l : List Process) (b c : Option Birth) → Apart b c → with_birth (with_birth l b) c ≡ with_birth (with_birth l c) b
unfolding Off Apart
process_bear_bear l none c a = refl
process_bear_bear l (some b) none a = refl
process_bear_bear l (some b) (some c) a = set_comm l (b.number - 1) (c.number - 1) b.process c.process a

off_read : (l : List Process) (c : Option Birth) (k : ℕ) → Off c k → get_or (with_birth l c) k no_process ≡ get_or l k no_process
unfolding Off
off_read l none k o = refl
off_read l (some c) k o = get_or-set_other l (c.number - 1) k c.process no_process o

unmoved : (l : List Process) (m k : ℕ) (r : Process) (c : Option Birth) → k ≢ m → Off c k → get_or (with_birth (set l m r) c) k no_process ≡ get_or l k no_process
unmoved l m k r c h o = off_read (set l m r) c k o ∙ get_or-set_other l m k r no_process h

-- of mailboxes
mail_with : (s : Shelf Slot) (k m : ℕ) (f : Block Slot → Block Slot) → Keeping f → (y : MailChange) → k ≢ m → with_mail (changed 16 f k s) m y ≡ changed 16 f k (with_mail s m y)
mail_with s k m f kf unchanged h = refl
mail_with s k m f kf (joining y) h = changed_comm 16 (joined (slot_of y)) f (joined_keeps (slot_of y)) kf s m k (λ e. h (sym e))
mail_with s k m f kf (leaving j) h = changed_comm 16 (left j) f (left_keeps j) kf s m k (λ e. h (sym e))

mail_put : (s : Shelf Slot) (k m : ℕ) (x y : MailChange) → k ≢ m → with_mail (with_mail s k x) m y ≡ with_mail (with_mail s m y) k x
mail_put s k m unchanged y h = refl
mail_put s k m (joining x) y h = mail_with s k m (joined (slot_of x)) (joined_keeps (slot_of x)) y h
mail_put s k m (leaving i) y h = mail_with s k m (left i) (left_keeps i) y h

mail_bear_put : (s : Shelf Slot) (b : Option Birth) (k : ℕ) (x : MailChange) → Off b k → with_mail (without_mail s b) k x ≡ without_mail (with_mail s k x) b
unfolding Off
mail_bear_put s none k x o = refl
mail_bear_put s (some b) k x o = mail_with s (b.number - 1) k emptied emptied_keeps x (λ e. o (sym e))

mail_bear_bear : (s : Shelf Slot) (b c : Option Birth) → Apart b c → without_mail (without_mail s b) c ≡ without_mail (without_mail s c) b
unfolding Off Apart
mail_bear_bear s none c a = refl
mail_bear_bear s (some b) none a = refl
mail_bear_bear s (some b) (some c) a = changed_comm 16 emptied emptied emptied_keeps emptied_keeps s (c.number - 1) (b.number - 1) (λ e. a (sym e))

mail_unmoved : (s : Shelf Slot) (m k : ℕ) (x : MailChange) (c : Option Birth) → k ≢ m → Off c k → block_of 16 k (without_mail (with_mail s m x) c) ≡ block_of 16 k s
unfolding Off
mail_unmoved s m k x none h o = mail_else s m k x h
mail_unmoved s m k x (some c) h o = block_of_else 16 emptied emptied_keeps (c.number - 1) (with_mail s m x) k o ∙ mail_else s m k x h

-- ---- unborn processes

clash : (b : Bool) → So b → So (not b) → ⊥
clash true h g = false≢true g
clash false h g = false≢true h

abbrev Unborn : Process → Type 0
Unborn p = So (is_unborn p.stage)

abbrev Awake : Process → Type 0
Awake p = So (not (is_unborn p.stage))

-- who is born is not brought to life
pub free_off : (n : Node) (c : Option Birth) (k : ℕ) → So (number_free n c) → Awake (get_or n.processes k no_process) → Off c k
unfolding Off number_free
free_off n none k f a = tt
free_off n (some c) k f a = λ e. clash (is_unborn (process n c.number).stage) f (rw e at a)

-- who is unborn behind a store of a born process is another, and was unborn before
store_back : (ps : List Process) (m k : ℕ) (p : Process) → m < length ps → is_unborn p.stage ≡ false → Unborn (get_or (set ps m p) k no_process) → k ≢ m
store_back ps m k p h u t e = false≢true (sym u ∙ (rw (e, get_or-set_same ps m p no_process h) at t))

bear_back : (codes : List (List Instruction)) (ps : List Process) (c : Option Birth) (k : ℕ) → length ps ≡ 16 → BornOk codes c → Unborn (get_or (with_birth ps c) k no_process) → Off c k
unfolding Off
bear_back codes ps none k l o t = tt
bear_back codes ps (some c) k l o t = let b = number_bounds c.number o.number in store_back ps (c.number - 1) k c.process (omega arith) o.born t

was_unborn : (codes : List (List Instruction)) (ps : List Process) (m k : ℕ) (p : Process) (c : Option Birth) → length ps ≡ 16 → m < 16 → is_unborn p.stage ≡ false → BornOk codes c
    → Unborn (get_or (with_birth (set ps m p) c) k no_process) → (k ≢ m) × Off c k × Unborn (get_or ps k no_process)
was_unborn codes ps m k p c l h u o t =
    let f = bear_back codes (set ps m p) c k (length-set ps m p ∙ l) o t in
    let v = store_back ps m k p (rw l h) u (rw (off_read (set ps m p) c k f) at t) in
    (v, f, rw (unmoved ps m k p c v f) at t)

-- ---- rows: an arrival touches only rows to its owner, a sending only rows from its owner

abbrev block_in : Shelf Cell → ℕ → ℕ → Block Cell
block_in s j i = block_of 4 (pair j i) s

abbrev pop : Block Cell → Block Cell
pop = popped no_signal

abbrev push : Signal → Block Cell → Block Cell
push x = joined (cell_of x)

pop_keeps : Keeping pop
pop_keeps = popped_keeps no_signal

push_keeps : (x : Signal) → Keeping (push x)
push_keeps x = joined_keeps (cell_of x)

pairs_apart_to : (j i l m : ℕ) → So (is_number j) → So (is_number i) → So (is_number l) → So (is_number m) → i ≢ m → pair j i ≢ pair l m
pairs_apart_to j i l m a b c d h e = h (pair_same j i l m a b c d e).1

pairs_apart_from : (j i l m : ℕ) → So (is_number j) → So (is_number i) → So (is_number l) → So (is_number m) → j ≢ l → pair j i ≢ pair l m
pairs_apart_from j i l m a b c d h e = h (pair_same j i l m a b c d e).0

row_arrival : (s : Shelf Cell) (a : Action) (j i : ℕ) → So (numbered a) → So (is_number j) → So (is_number i) → i ≢ owner a → block_in (with_arrival s a) j i ≡ block_in s j i
unfolding numbered
row_arrival s (run m) j i n b c h = refl
row_arrival s (timeout m) j i n b c h = refl
row_arrival s (arrive m l) j i n b c h = let w = parts (is_number m) (is_number l) n in block_of_else 4 pop pop_keeps (pair l m) s (pair j i) (pairs_apart_to j i l m b c w.1 w.0 h)

row_sending : (s : Shelf Cell) (m : ℕ) (o : Option Sending) (j i : ℕ) → So (is_number m) → SentOk m o → So (is_number j) → So (is_number i) → j ≢ m → block_in (with_sending s m o) j i ≡ block_in s j i
row_sending s m none j i a t b c h = refl
row_sending s m (some x) j i a t b c h = block_of_else 4 (push x.signal) (push_keeps x.signal) (pair m x.to) s (pair j i) (pairs_apart_from j i m x.to b c a t.0 h)

arrival_arrival : (s : Shelf Cell) (a b : Action) → So (numbered a) → So (numbered b) → owner a ≢ owner b → with_arrival (with_arrival s a) b ≡ with_arrival (with_arrival s b) a
unfolding numbered
arrival_arrival s (run i) b n k h = refl
arrival_arrival s (timeout i) b n k h = refl
arrival_arrival s (arrive i j) (run m) n k h = refl
arrival_arrival s (arrive i j) (timeout m) n k h = refl
arrival_arrival s (arrive i j) (arrive m l) n k h =
    let w = parts (is_number i) (is_number j) n in
    let v = parts (is_number m) (is_number l) k in
    changed_comm 4 pop pop pop_keeps pop_keeps s (pair l m) (pair j i) (pairs_apart_to l m j i v.1 v.0 w.1 w.0 (λ e. h (sym e)))

sending_sending : (s : Shelf Cell) (i m : ℕ) (o q : Option Sending) → So (is_number i) → So (is_number m) → SentOk i o → SentOk m q → i ≢ m → with_sending (with_sending s i o) m q
    ≡ with_sending (with_sending s m q) i o
sending_sending s i m none q a b c d h = refl
sending_sending s i m (some x) none a b c d h = refl
sending_sending s i m (some x) (some y) a b c d h =
    changed_comm 4 (push y.signal) (push x.signal) (push_keeps y.signal) (push_keeps x.signal) s (pair m y.to) (pair i x.to) (pairs_apart_from m y.to i x.to b d.0 a c.0
    (λ e. h (sym e)))

-- a signal sent and the oldest taken can change places
popped_pushed : (b : Block Cell) (x : Signal) → length b.cells ≡ 4 → 0 < length (signals b) → length (signals b) < 4 → pop (push x b) ≡ push x (pop b)
popped_pushed b x four g h =
    let c : 0 < b.count = rw (signals_length b) at g in
    let e : b.count < 4 = rw (signals_length b) at h in
    popped_joined no_signal (cell_of x) b c (omega arith) (omega arith)

-- t has the rows to the owner of b as n has them
arrival_sending : (n : Node) (t : Shelf Cell) → SizedRows t → (i : ℕ) (o : Option Sending) (b : Action) → So (is_number i) → SentOk i o → So (numbered b)
    → ((j : ℕ) → So (is_number j) → block_in t j (owner b) ≡ block_in (flight_shelf n) j (owner b)) →
    So (signal_waits n b) → So (pair_has_room n i o) → with_arrival (with_sending t i o) b ≡ with_sending (with_arrival t b) i o
unfolding numbered signal_waits pair_has_room
arrival_sending n t z i none b a c k r g h = refl
arrival_sending n t z i (some x) (run m) a c k r g h = refl
arrival_sending n t z i (some x) (timeout m) a c k r g h = refl
arrival_sending n t z i (some x) (arrive m l) a c k r g h = go (ℕ_discrete (pair l m) (pair i x.to))
  where
    w : So (is_number m) × So (is_number l)
    w = parts (is_number m) (is_number l) k

    go : Dec (pair l m ≡ pair i x.to) → changed 4 pop (pair l m) (changed 4 (push x.signal) (pair i x.to) t) ≡ changed 4 (push x.signal) (pair i x.to) (changed 4 pop (pair l m) t)
    go (yes e) =
        let same = r l w.1 in
        let waits : 0 < length (signals (block_in t l m)) = rw same (ltb-true 0 (length (row n l m)) g) in
        let room : length (signals (block_in t l m)) < 4 = rw (same, e) (ltb-true (length (row n i x.to)) 4 h) in
        rw (← e) (changed_same 4 pop (push x.signal) pop_keeps (push_keeps x.signal) t (pair l m) (pair_room t z l m w.1 w.0)
        (popped_pushed (block_in t l m) x.signal (four t z l m w.1 w.0) waits room))
    go (no p) = changed_comm 4 pop (push x.signal) pop_keeps (push_keeps x.signal) t (pair l m) (pair i x.to) p

rows_swap : (n : Node) → Sized n → (a b : Action) (o q : Option Sending) → So (numbered a) → So (numbered b) → owner a ≢ owner b → So (signal_waits n a) → So (signal_waits n b) → SentOk (owner a) o
    → SentOk (owner b) q → So (pair_has_room n (owner a) o) →
    So (pair_has_room n (owner b) q) →
    with_sending (with_arrival (with_sending (with_arrival (flight_shelf n) a) (owner a) o) b) (owner b) q ≡ with_sending (with_arrival (with_sending (with_arrival (flight_shelf n) b) (owner b) q) a)
    (owner a) o
rows_swap n z a b o q na nb h ga gb c d ra rb =
    let s = flight_shelf n in
    let i = owner_number a na in
    let m = owner_number b nb in
    let za = arrival_sized s a z.flight in
    let zb = arrival_sized s b z.flight in
    let first = arrival_sending n (with_arrival s a) za (owner a) o b i c nb (λ j u. row_arrival s a j (owner b) na u m (λ e. h (sym e))) gb ra in
    let last = arrival_sending n (with_arrival s b) zb (owner b) q a m d na (λ j u. row_arrival s b j (owner a) nb u i h) ga rb in
    ap (λ (x : Shelf Cell). with_sending x (owner b) q) (first ∙ ap (λ (x : Shelf Cell). with_sending x (owner a) o) (arrival_arrival s a b na nb h))
    ∙ sending_sending (with_arrival (with_arrival s b) a) (owner a) (owner b) o q i m c d h
    ∙ ap (λ (x : Shelf Cell). with_sending x (owner a) o) (sym last)

-- ---- a step of another owner leaves a decision as it was

-- a row that has a signal keeps it in front
Same : List Signal → List Signal → Type 0
Same r w = (0 < length w) × (get_or w 0 no_signal.signal ≡ get_or r 0 no_signal.signal)

same_joined : (r : List Signal) (x : Signal) → 0 < length r → Same r (r ++ (x ∷ []))
unfolding Same
same_joined [] x h = absurd (omega arith)
same_joined (y ∷ r) x h = (omega arith, refl)

same_sending : (t : Shelf Cell) → SizedRows t → (m : ℕ) (o : Option Sending) (j i : ℕ) (r : List Signal) → So (is_number j) → So (is_number i) → row_in t j i ≡ r → 0 < length r
    → ((x : Sending) → o ≡ some x → length (row_in t m x.to) < 4) →
    Same r (row_in (with_sending t m o) j i)
unfolding Same
same_sending t z m none j i r b c e g v = (rw e g, rw e)
same_sending t z m (some x) j i r b c e g v = go (ℕ_discrete (pair j i) (pair m x.to))
  where
    go : Dec (pair j i ≡ pair m x.to) → Same r (row_in (with_sending t m (some x)) j i)
    go (yes p) =
        let room : length (row_in t j i) < 4 = rw p (v x refl) in
        let w : row_in (with_sending t m (some x)) j i ≡ row_in t j i ++ (x.signal ∷ []) =
        rw (← p) (ap signals (block_of_here 4 (push x.signal) (push_keeps x.signal) (pair j i) t (pair_room t z j i b c)) ∙ signals_joined (block_in t j i) (four t z j i b c) x.signal room) in
        rw (w, e) (same_joined r x.signal g)
    go (no h) =
        let w : row_in (with_sending t m (some x)) j i ≡ r = ap signals (block_of_else 4 (push x.signal) (push_keeps x.signal) (pair m x.to) t (pair j i) h) ∙ e in
        (rw w g, rw w)

-- behind an arrival a pair has the room that it had
room_arrival : (n : Node) → Sized n → (b : Action) → So (numbered b) → (i : ℕ) (o : Option Sending) → So (pair_has_room n i o) → (x : Sending) → o ≡ some x
    → length (row_in (with_arrival (flight_shelf n) b) i x.to) < 4
unfolding pair_has_room
room_arrival n z b k i none r x p = absurd (let z : ◌≡◌ {A = ℕ} 0 1 = cc p in omega arith)
room_arrival n z b k i (some y) r x p =
    let s : y ≡ x = cc p in
    let few = arrival_few (flight_shelf n) z.flight b k i y.to in
    rw (← s) (omega (arith, ltb-true (length (row n i y.to)) 4 r))

room_kept : (n : Node) → Sized n → (b : Action) → So (numbered b) → (i m : ℕ) (o q : Option Sending) → So (is_number i) → So (is_number m) → SentOk i o → SentOk m q → i ≢ m → So (pair_has_room n i o)
    → (x : Sending) → o ≡ some x →
    length (row_in (with_sending (with_arrival (flight_shelf n) b) m q) i x.to) < 4
room_kept n z b k i m o q a c d e h r x p =
    let t : SentOk i (some x) = rw p at d in
    rw (row_sending (with_arrival (flight_shelf n) b) m q i x.to c e a t.0 h) (room_arrival n z b k i o r x p)

has_room : (n : Node) (i : ℕ) (o : Option Sending) → ((x : Sending) → o ≡ some x → length (row n i x.to) < 4) → So (pair_has_room n i o)
unfolding pair_has_room
has_room n i none h = refl
has_room n i (some x) h = lt-ltb (length (row n i x.to)) 4 (h x refl)

-- the signal that arrives is the row's oldest
pub incoming_oldest : (n : Node) (j i : ℕ) → 0 < length (row n j i) → incoming n j i ≡ oldest (block_in (flight_shelf n) j i)
unfolding incoming signals oldest
incoming_oldest n j i h = signals_at (block_in (flight_shelf n) j i) 0 (rw (signals_length (block_in (flight_shelf n) j i)) at h)

-- a decision reads the code, the owner's process and mailbox, and the oldest signal of one row, and nothing else
heard : (n w : Node) (a : Action) (e : Effect) → Act n a e → ((b : ℕ) → code w b ≡ code n b) → process w (owner a) ≡ process n (owner a) → mailbox w (owner a) ≡ mailbox n (owner a)
    → ((j : ℕ) → So (is_number j) → 0 < length (row n j (owner a)) → Same (row n j (owner a)) (row w j (owner a))) → So (signal_waits w a) × (decide w a ≡ done e)
unfolding Same incoming decide signal_waits numbered
heard n w (run i) e t c p m k =
    (refl, ap (λ (q : Process). runs (code w q.behaviour.0) i (record { process = q; mail = mailbox w i })) p ∙ rw (c (process n i).behaviour.0, m) t.decided)
heard n w (timeout i) e t c p m k =
    (refl, ap (λ (q : Process). expires (code w q.behaviour.0) (record { process = q; mail = mailbox w i })) p ∙ rw (c (process n i).behaviour.0, m) t.decided)
heard n w (arrive i j) e t c p m k =
    let v = parts (is_number i) (is_number j) t.numbers in
    let g = ltb-true 0 (length (row n j i)) t.waits in
    let x = k j v.1 g in
    (lt-ltb 0 (length (row w j i)) x.0, rw (p, m, x.1) t.decided)

-- ---- two accepted decisions of two owners

module _ (n : Node) (z : Sized n) (a b : Action) (e f : Effect) (h : owner a ≢ owner b) (s : Act n a e) (t : Act n b f) (ek : Keeps (behaviours_of n) (owner a) (mailbox n (owner a)) e)
    (fk : Keeps (behaviours_of n) (owner b) (mailbox n (owner b)) f) (free : So (number_free n f.born)) where
  i : So (is_number (owner a))
  i = owner_number a s.numbers

  m : So (is_number (owner b))
  m = owner_number b t.numbers

  apart : owner a - 1 ≢ owner b - 1
  apart q =
      let x = number_bounds (owner a) i in
      let y = number_bounds (owner b) m in
      h (omega arith)

  pub off_a : Off f.born (owner a - 1)
  unfolding owner_born
  off_a = free_off n f.born (owner a - 1) free s.awake

  -- what a's owner has is as it was
  process_kept : process (commit n b f) (owner a) ≡ process n (owner a)
  unfolding commit
  process_kept = unmoved n.processes (owner b - 1) (owner a - 1) f.process f.born apart off_a

  mailbox_kept : mailbox (commit n b f) (owner a) ≡ mailbox n (owner a)
  unfolding commit
  mailbox_kept = ap messages (mail_unmoved (mail_shelf n) (owner b - 1) (owner a - 1) f.mail f.born apart off_a)

  code_kept_lem : (k : ℕ) → code (commit n b f) k ≡ code n k
  unfolding code commit
  code_kept_lem k = refl

  row_kept : (j : ℕ) → So (is_number j) → 0 < length (row n j (owner a)) → Same (row n j (owner a)) (row (commit n b f) j (owner a))
  unfolding commit
  row_kept j c d =
      same_sending (with_arrival (flight_shelf n) b) (arrival_sized (flight_shelf n) b z.flight) (owner b) f.sent j (owner a) (row n j (owner a)) c i
      (ap signals (row_arrival (flight_shelf n) b j (owner a) t.numbers c i h)) d
      (room_arrival n z b t.numbers (owner b) f.sent t.room)

  pub act_kept : Act (commit n b f) a e
  unfolding owner_born commit
  act_kept =
      let x = heard n (commit n b f) a e s code_kept_lem process_kept mailbox_kept row_kept in
      record {
        numbers = s.numbers;
        awake = rw process_kept s.awake;
        waits = x.0;
        decided = x.1;
        room = has_room (commit n b f) (owner a) e.sent (room_kept n z b t.numbers (owner a) (owner b) e.sent f.sent i m ek.sent fk.sent h s.room);
      }

  -- where a can still bring its process to life behind b
  module _ (w : So (number_free (commit n b f) e.born)) where
    pub free_back : (o : Option Birth) → So (number_free (commit n b f) o) → Off o (owner b - 1) × So (number_free n o) × Apart o f.born
    unfolding commit Off Apart number_free
    free_back none u = (tt, refl, tt)
    free_back (some c) u =
        let y = number_bounds (owner b) m in
        let x = was_unborn (behaviours_of n) n.processes (owner b - 1) (c.number - 1) f.process f.born z.processes (omega arith) fk.born fk.birth u in
        (λ p. x.0 (sym p), x.2, x.1)

    pub commits_swap : commit (commit n a e) b f ≡ commit (commit n b f) a e
    unfolding commit
    commits_swap =
        let x = free_back e.born w in
        let processes = bear_swap set with_birth process_put process_bear_put process_bear_bear n.processes (owner a - 1) (owner b - 1) e.process f.process e.born f.born apart
        x.0 off_a x.2 in
        let mail = bear_swap with_mail without_mail mail_put mail_bear_put mail_bear_bear (mail_shelf n) (owner a - 1) (owner b - 1) e.mail f.mail e.born f.born apart x.0 off_a x.2 in
        let flight = rows_swap n z a b e.sent f.sent s.numbers t.numbers h s.waits t.waits ek.sent fk.sent s.room t.room in
        λ k. record {
          count = n.count;
          lens = n.lens;
          ops = n.ops;
          processes = processes k;
          waiting = (mail k).counts;
          slots = (mail k).cells;
          counts = (flight k).counts;
          cells = (flight k).cells;
        }

    -- b can bring its process to life behind a
    pub free_on : (o : Option Birth) → So (number_free n o) → Off o (owner a - 1) → Apart e.born o → So (number_free (commit n a e) o)
    unfolding commit Off number_free
    free_on none u q c = refl
    free_on (some r) u q c = rw (unmoved n.processes (owner a - 1) (r.number - 1) e.process e.born (λ p. q (sym p)) (apart_off e.born r c)) u
