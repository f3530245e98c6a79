-- Soundness is kept by every accepted step and by play. Assumes nothing.
use mathlib.Core.Bool.{Bool, true, false, So, cond, ◌&&◌}
use mathlib.Core.List.{List, [], ◌∷◌, ◌++◌, map}
use mathlib.Core.Logic.{◌≢◌}
use mathlib.Core.Option.{Option, none, some}
use mathlib.Core.Path.{◌≡◌, refl, ◌∙◌, ap}
use Prim.Native.Nat.{ℕ, ◌+◌, ◌-◌, ◌≤◌, ◌<◌}
use native.Mathlib.Decide.{ℕ_discrete}
use native.Mathlib.Omega.{arith}
use borrow.Author.Tests.{leb-true, le-leb, ltb-true, le-ltb}
use lib.Dec.{leb, ltb}
use lib.ListN.{length, get_or, set, length-append, length-set}
use lib.Seq.{get_or-set_same, get_or-set_other}
use Rattle.node.specs.declared.Cell.{Cell}
use Rattle.node.specs.declared.Message.{Message}
use Rattle.node.specs.declared.Node.{Node}
use Rattle.node.specs.declared.Process.{Process}
use Rattle.node.specs.declared.Signal.{Signal}
use Rattle.node.specs.declared.Slot.{Slot}
use Rattle.node.specs.Blocks.{Block, Shelf, block_of, changed, joined, left, popped, emptied}
use Rattle.node.specs.Lists.{rising, all_from, all_of}
use Rattle.node.specs.Mailboxes.{slot_of, messages}
use Rattle.node.specs.Nodes.{no_process, pair, mail_shelf, flight_shelf}
use Rattle.node.specs.Rows.{no_signal, cell_of, signals, oldest}
use Rattle.node.proofs.Blocks.{Room, Keeping, whole, block_of_here, block_of_else, joined_keeps, left_keeps, popped_keeps, emptied_keeps}
use Rattle.node.proofs.Contents.{signals_length}
use Rattle.node.proofs.Lists.{map_rising_at, map_rising_length}
use Rattle.rules.specs.Answers.{Answer, refused, done, schedule_too_long}
use Rattle.rules.specs.Behaviours.{Instruction, instruction, code_sound}
use Rattle.rules.specs.Effects.{MailChange, unchanged, joining, leaving, mail_behind, Effect, Sending, Birth}
use Rattle.rules.specs.Nodes.{Sound, sound, shaped, view_sound, view, behaviours_of, code, process, mailbox, row, standing, standing_sound, signal_sound, row_sound}
use Rattle.rules.specs.Arrive.{arrives}
use Rattle.rules.specs.Run.{runs}
use Rattle.rules.specs.Steps.{Action, run, arrive, timeout, owner, with_arrival, with_sending, with_mail, without_mail, with_birth, commit, numbered, signal_waits, pair_has_room, incoming, decide}
use Rattle.rules.specs.Timeout.{expires}
use Rattle.rules.specs.Steps.{step, state, plays_on, played, play}
use Rattle.node.specs.Values.{numbers, is_number, fits_int}
use Rattle.rules.proofs.Accepted.{Act, step_goes}
use Rattle.rules.proofs.All.{both, parts, all_of_any, all_of_join, made_all, all_made}
use Rattle.rules.proofs.Arrivals.{arrives_good}
use Rattle.rules.proofs.Keeps.{SentOk, BornOk, MailOk, Keeps, Good}
use Rattle.rules.proofs.Runs.{runs_good}
use Rattle.rules.proofs.Timeouts.{expires_good}
use Rattle.rules.proofs.Records.{number_bounds, messages_joined, messages_left, messages_emptied, signals_joined, signals_popped}
use Rattle.rules.proofs.Shape.{SizedMail, SizedRows, Sized, sized_of, of_sized, mail_room, row_room, mail_sized, arrival_sized, sized_kept}

-- ---- a sound node, part by part

pub record Parts (n : Node) : Type 0 where
  pub few : So (leb 1 (length (behaviours_of n)) && leb (length (behaviours_of n)) 8)
  pub codes : So (all_of (code_sound (length (behaviours_of n))) (behaviours_of n))
  pub processes : (i : ℕ) → So (is_number i) → So (standing_sound (behaviours_of n) i (standing (process n i) (mailbox n i)))
  pub rows : (j i : ℕ) → So (is_number j) → So (is_number i) → So (row_sound j i (row n j i))
  pub sized : Sized n

pub number_of : (i : ℕ) → 1 ≤ i → i < 17 → So (is_number i)
unfolding is_number
number_of i h g = both (le-leb 1 i h) (le-leb i 16 (omega arith))

module _ (n : Node) where
  abbrev codes_sound : Bool
  codes_sound = all_of (code_sound (length (behaviours_of n))) (behaviours_of n)

  abbrev processes_sound : Bool
  processes_sound = all_from (standing_sound (behaviours_of n)) 1 (map (λ i. standing (process n i) (mailbox n i)) numbers)

  abbrev rows_sound : Bool
  rows_sound = all_from (λ j rows. all_from (row_sound j) 1 rows) 1 (map (λ j. map (row n j) numbers) numbers)

  pub parts_of : Sound n → Parts n
  unfolding sound view_sound view
  parts_of h =
      let fewer = leb 1 (length (behaviours_of n)) && leb (length (behaviours_of n)) 8 in
      let s = parts (fewer && codes_sound && processes_sound && rows_sound) (shaped n) h in
      let a = parts (fewer && codes_sound && processes_sound) rows_sound s.0 in
      let b = parts (fewer && codes_sound) processes_sound a.0 in
      let c = parts fewer codes_sound b.0 in
      record {
        few = c.0;
        codes = c.1;
        processes = λ i k. let x = number_bounds i k in made_all (λ i. standing (process n i) (mailbox n i)) (standing_sound (behaviours_of n)) 1 16 b.1 i (omega arith) (omega arith);
        rows = λ j i k l.
            let x = number_bounds j k in
            let y = number_bounds i l in
            made_all (row n j) (row_sound j) 1 16 (made_all (λ j. map (row n j) numbers) (λ j rows. all_from (row_sound j) 1 rows) 1 16 a.1 j (omega arith) (omega arith)) i (omega arith)
            (omega arith);
        sized = sized_of n s.1;
      }

  pub of_parts : Parts n → Sound n
  unfolding sound view_sound view
  of_parts p =
      both (both (both (both p.few p.codes)
      (all_made (λ i. standing (process n i) (mailbox n i)) (standing_sound (behaviours_of n)) 1 16 (λ i a b. p.processes i (number_of i a (omega arith)))))
      (all_made (λ j. map (row n j) numbers) (λ j rows. all_from (row_sound j) 1 rows) 1 16 (λ j a b.
      all_made (row n j) (row_sound j) 1 16 (λ i c d. p.rows j i (number_of j a (omega arith)) (number_of i c (omega arith))))))
      (of_sized n p.sized)

  -- the code of a behaviour that the node has
  pub code_of : (b : ℕ) → So (leb 1 b && leb b (length (behaviours_of n))) → get_or (behaviours_of n) (b - 1) [] ≡ map instruction (code n b)
  unfolding behaviours_of
  code_of b h =
      let g : ℕ → List Instruction = λ b. map instruction (code n b) in
      let w = parts (leb 1 b) (leb b (length (map g (rising 1 n.count)))) h in
      let x = leb-true 1 b w.0 in
      let y = leb-true b (length (map g (rising 1 n.count))) w.1 in
      let l = map_rising_length g 1 n.count in
      let e : 1 + (b - 1) ≡ b = omega arith in
      map_rising_at g 1 n.count (b - 1) [] (omega arith) ∙ ap g e

-- ---- rows

module _ (j i : ℕ) where
  abbrev pub RowOk : List Signal → Type 0
  RowOk r = So (row_sound j i r)

  row_parts : (r : List Signal) → RowOk r → (length r ≤ 4) × So (all_of (signal_sound j i) r)
  unfolding row_sound
  row_parts r h = let w = parts (leb (length r) 4) (all_of (signal_sound j i) r) h in (leb-true (length r) 4 w.0, w.1)

  parts_row : (r : List Signal) → length r ≤ 4 → So (all_of (signal_sound j i) r) → RowOk r
  unfolding row_sound
  parts_row r h g = both (le-leb (length r) 4 h) g

  -- its first signal leaves
  behind_ok : (x : Signal) (r : List Signal) → RowOk (x ∷ r) → RowOk r
  behind_ok x r h = let w = row_parts (x ∷ r) h in parts_row r (omega arith) (parts (signal_sound j i x) (all_of (signal_sound j i) r) w.1).1

  -- a signal joins
  joined_ok : (r : List Signal) (x : Signal) → RowOk r → So (signal_sound j i x) → length r < 4 → RowOk (r ++ (x ∷ []))
  joined_ok r x h g f =
      let w = row_parts r h in
      parts_row (r ++ (x ∷ [])) (rw (length-append r (x ∷ [])) (omega arith)) (all_of_join (signal_sound j i) r (x ∷ []) w.1 (both g refl))

-- two ordered pairs of numbers stand apart
pub pair_same : (j i l m : ℕ) → So (is_number j) → So (is_number i) → So (is_number l) → So (is_number m) → pair j i ≡ pair l m → (j ≡ l) × (i ≡ m)
pair_same j i l m a b c d e =
    let x = number_bounds j a in
    let y = number_bounds i b in
    let z = number_bounds l c in
    let w = number_bounds m d in
    (omega arith, omega arith)

pub pair_room : (s : Shelf Cell) → SizedRows s → (j i : ℕ) → So (is_number j) → So (is_number i) → Room 4 (pair j i) s
pair_room s z j i a b =
    let x = number_bounds j a in
    let y = number_bounds i b in
    row_room s z (pair j i) (omega arith)

-- the row from j to i of a shelf
abbrev pub row_in : Shelf Cell → ℕ → ℕ → List Signal
row_in s j i = signals (block_of 4 (pair j i) s)

pub four : (s : Shelf Cell) → SizedRows s → (j i : ℕ) → So (is_number j) → So (is_number i) → length (block_of 4 (pair j i) s).cells ≡ 4
four s z j i a b = whole 4 (pair j i) s (pair_room s z j i a b)

abbrev pub RowsOk : Shelf Cell → Type 0
RowsOk s = (j i : ℕ) → So (is_number j) → So (is_number i) → RowOk j i (row_in s j i)

-- one row changed where it stands
changed_ok : (f : Block Cell → Block Cell) → Keeping f → (s : Shelf Cell) → SizedRows s → (l m : ℕ) → RowsOk s → So (is_number l) → So (is_number m) → RowOk l m
    (signals (f (block_of 4 (pair l m) s))) →
    RowsOk (changed 4 f (pair l m) s)
changed_ok f keeps s z l m ok a b h j i c d = go (ℕ_discrete (pair j i) (pair l m))
  where
    go : Dec (pair j i ≡ pair l m) → RowOk j i (row_in (changed 4 f (pair l m) s) j i)
    go (yes e) =
        let w = pair_same j i l m c d a b e in
        rw (w.0, w.1, block_of_here 4 f keeps (pair l m) s (pair_room s z l m a b)) h
    go (no n) = rw (block_of_else 4 f keeps (pair l m) s (pair j i) n) (ok j i c d)

pub owner_number : (a : Action) → So (numbered a) → So (is_number (owner a))
unfolding numbered
owner_number (run i) h = h
owner_number (timeout i) h = h
owner_number (arrive i j) h = (parts (is_number i) (is_number j) h).0

arrival_ok : (n : Node) (a : Action) → Sized n → RowsOk (flight_shelf n) → So (numbered a) → So (signal_waits n a) → RowsOk (with_arrival (flight_shelf n) a)
unfolding numbered signal_waits
arrival_ok n (run i) z ok h g = ok
arrival_ok n (timeout i) z ok h g = ok
arrival_ok n (arrive i j) z ok h g =
    let w = parts (is_number i) (is_number j) h in
    let s = flight_shelf n in
    let b = block_of 4 (pair j i) s in
    let e = signals_popped b (four s z.flight j i w.1 w.0) (ltb-true 0 (length (row n j i)) g) in
    changed_ok (popped no_signal) (popped_keeps no_signal) s z.flight j i ok w.1 w.0 (behind_ok j i (oldest b) (signals (popped no_signal b)) (rw e at (ok j i w.1 w.0)))

-- an arrival makes no row longer
pub arrival_few : (s : Shelf Cell) → SizedRows s → (a : Action) → So (numbered a) → (j i : ℕ) → length (row_in (with_arrival s a) j i) ≤ length (row_in s j i)
unfolding numbered
arrival_few s z (run m) h j i = omega arith
arrival_few s z (timeout m) h j i = omega arith
arrival_few s z (arrive m l) h j i = go (ℕ_discrete (pair j i) (pair l m))
  where
    go : Dec (pair j i ≡ pair l m) → length (row_in (changed 4 (popped no_signal) (pair l m) s) j i) ≤ length (row_in s j i)
    go (yes e) =
        let w = parts (is_number m) (is_number l) h in
        let b = block_of 4 (pair l m) s in
        rw (e, block_of_here 4 (popped no_signal) (popped_keeps no_signal) (pair l m) s (pair_room s z l m w.1 w.0), signals_length (popped no_signal b), signals_length b)
        (unfold popped in (omega arith))
    go (no n) = rw (block_of_else 4 (popped no_signal) (popped_keeps no_signal) (pair l m) s (pair j i) n) (omega arith)

sending_ok : (n : Node) (a : Action) (i : ℕ) (o : Option Sending) → Sized n → So (numbered a) → RowsOk (with_arrival (flight_shelf n) a) → So (is_number i) → SentOk i o → So (pair_has_room n i o) →
    RowsOk (with_sending (with_arrival (flight_shelf n) a) i o)
unfolding pair_has_room
sending_ok n a i none z k ok m h r = ok
sending_ok n a i (some x) z k ok m h r =
    let s = with_arrival (flight_shelf n) a in
    let y = arrival_sized (flight_shelf n) a z.flight in
    let b = block_of 4 (pair i x.to) s in
    let few = arrival_few (flight_shelf n) z.flight a k i x.to in
    let room : length (row_in s i x.to) < 4 = omega (arith, ltb-true (length (row n i x.to)) 4 r) in
    let e = signals_joined b (four s y i x.to m h.0) x.signal room in
    changed_ok (joined (cell_of x.signal)) (joined_keeps (cell_of x.signal)) s y i x.to ok m h.0 (rw e (joined_ok i x.to (signals b) x.signal (ok i x.to m h.0) h.1 room))

-- ---- processes

abbrev pub mail_in : Shelf Slot → ℕ → List Message
mail_in s i = messages (block_of 16 (i - 1) s)

pub indices_apart : (i m : ℕ) → So (is_number i) → So (is_number m) → i ≢ m → i - 1 ≢ m - 1
indices_apart i m a b h e =
    let x = number_bounds i a in
    let y = number_bounds m b in
    h (omega arith)

module _ (s : Shelf Slot) (z : SizedMail s) (m : ℕ) (number : So (is_number m)) where
  own_room : Room 16 (m - 1) s
  own_room = let x = number_bounds m number in mail_room s z (m - 1) (omega arith)

  -- the owner's mailbox behind its change, and every other
  pub mail_here : (c : MailChange) → MailOk c (mail_in s m) → mail_in (with_mail s (m - 1) c) m ≡ mail_behind c (mail_in s m)
  mail_here unchanged h = refl
  mail_here (joining x) h =
      ap messages (block_of_here 16 (joined (slot_of x)) (joined_keeps (slot_of x)) (m - 1) s own_room) ∙ messages_joined (block_of 16 (m - 1) s) (whole 16 (m - 1) s own_room) x h
  mail_here (leaving k) h =
      ap messages (block_of_here 16 (left k) (left_keeps k) (m - 1) s own_room) ∙ messages_left (block_of 16 (m - 1) s) (whole 16 (m - 1) s own_room) k h.0 h.1

  pub emptied_here : mail_in (changed 16 emptied (m - 1) s) m ≡ []
  emptied_here = ap messages (block_of_here 16 emptied emptied_keeps (m - 1) s own_room) ∙ messages_emptied (block_of 16 (m - 1) s)

pub mail_else : (s : Shelf Slot) (m k : ℕ) (c : MailChange) → k ≢ m → block_of 16 k (with_mail s m c) ≡ block_of 16 k s
mail_else s m k unchanged h = refl
mail_else s m k (joining x) h = block_of_else 16 (joined (slot_of x)) (joined_keeps (slot_of x)) m s k h
mail_else s m k (leaving i) h = block_of_else 16 (left i) (left_keeps i) m s k h

module _ (codes : List (List Instruction)) where
  abbrev StandOk : ℕ → Process → List Message → Type 0
  StandOk i p m = So (standing_sound codes i (standing p m))

  abbrev StandsOk : List Process → Shelf Slot → Type 0
  StandsOk ps s = (i : ℕ) → So (is_number i) → StandOk i (get_or ps (i - 1) no_process) (mail_in s i)

  owner_ok : (ps : List Process) (s : Shelf Slot) (m : ℕ) (p : Process) (c : MailChange) → length ps ≡ 16 → SizedMail s → StandsOk ps s → So (is_number m) → MailOk c (mail_in s m)
      → StandOk m p (mail_behind c (mail_in s m)) →
      StandsOk (set ps (m - 1) p) (with_mail s (m - 1) c)
  owner_ok ps s m p c l z ok n g h i k = go (ℕ_discrete i m)
    where
      go : Dec (i ≡ m) → StandOk i (get_or (set ps (m - 1) p) (i - 1) no_process) (mail_in (with_mail s (m - 1) c) i)
      go (yes e) = let x = number_bounds m n in rw (e, get_or-set_same ps (m - 1) p no_process (omega arith), mail_here s z m n c g) h
      go (no q) =
          let d = indices_apart i m k n q in
          rw (get_or-set_other ps (m - 1) (i - 1) p no_process d, mail_else s (m - 1) (i - 1) c d) (ok i k)

  birth_ok : (ps : List Process) (s : Shelf Slot) (b : Option Birth) → length ps ≡ 16 → SizedMail s → StandsOk ps s → BornOk codes b → StandsOk (with_birth ps b) (without_mail s b)
  birth_ok ps s none l z ok h = ok
  birth_ok ps s (some b) l z ok h = λ i k. go i k (ℕ_discrete i b.number)
    where
      go : (i : ℕ) → So (is_number i) → Dec (i ≡ b.number) → StandOk i (get_or (set ps (b.number - 1) b.process) (i - 1) no_process) (mail_in (changed 16 emptied (b.number - 1) s) i)
      go i k (yes e) = let x = number_bounds b.number h.number in rw (e, get_or-set_same ps (b.number - 1) b.process no_process (omega arith), emptied_here s z b.number h.number)
          h.sound
      go i k (no q) =
          let d = indices_apart i b.number k h.number q in
          rw (get_or-set_other ps (b.number - 1) (i - 1) b.process no_process d, block_of_else 16 emptied emptied_keeps (b.number - 1) s (i - 1) d) (ok i k)

-- ---- the node

kept_of : {codes : List (List Instruction)} {i : ℕ} {m : List Message} {e : Effect} (x : Answer Effect) → Good codes i m x → x ≡ done e → Keeps codes i m e
kept_of x g q = rw q at g

-- the signal that arrives is one of a sound row, or what is read where there is none
incoming_sound : (n : Node) (j i : ℕ) → RowOk j i (row n j i) → So (signal_sound j i (incoming n j i))
unfolding incoming fits_int
incoming_sound n j i h = all_of_any (signal_sound j i) no_signal.signal (row n j i) refl (row_parts j i (row n j i) h).1 _

-- what the owner of a step decides on keeps what an effect must keep
pub decided_keeps : (n : Node) (a : Action) (e : Effect) → Parts n → So (numbered a) → So (signal_waits n a) → decide n a ≡ done e → Keeps (behaviours_of n) (owner a) (mailbox n (owner a)) e
unfolding decide numbered
decided_keeps n (run i) e p m w d =
    kept_of (runs (code n (process n i).behaviour.0) i (state n i))
    (runs_good (code n (process n i).behaviour.0) i (state n i) (behaviours_of n) m (p.processes i m) (code_of n (process n i).behaviour.0) p.codes)
    d
decided_keeps n (timeout i) e p m w d =
    kept_of (expires (code n (process n i).behaviour.0) (state n i))
    (expires_good (code n (process n i).behaviour.0) (state n i) (behaviours_of n) i (p.processes i m) (code_of n (process n i).behaviour.0) p.codes)
    d
decided_keeps n (arrive i j) e p m w d =
    let b = parts (is_number i) (is_number j) m in
    kept_of (arrives i j (state n i) (incoming n j i))
    (arrives_good i j (state n i) (behaviours_of n) b.0 (p.processes i b.0) b.1 (incoming n j i) (incoming_sound n j i (p.rows j i b.1 b.0)))
    d

pub act_keeps : (n : Node) (a : Action) (e : Effect) → Parts n → Act n a e → Keeps (behaviours_of n) (owner a) (mailbox n (owner a)) e
act_keeps n a e p t = decided_keeps n a e p t.numbers t.waits t.decided

pub commit_sound : (n : Node) (a : Action) (e : Effect) → Parts n → Act n a e → Parts (commit n a e)
unfolding commit behaviours_of code
commit_sound n a e p t =
    let k = act_keeps n a e p t in
    let z = p.sized in
    let m = owner_number a t.numbers in
    let stands = owner_ok (behaviours_of n) n.processes (mail_shelf n) (owner a) e.process e.mail z.processes z.mail p.processes m k.mail k.sound in
    let arrived = arrival_ok n a z p.rows t.numbers t.waits in
    record {
      few = p.few;
      codes = p.codes;
      processes = birth_ok (behaviours_of n) _ _ e.born (length-set n.processes (owner a - 1) e.process ∙ z.processes) (mail_sized (mail_shelf n) (owner a - 1) e.mail z.mail) stands
          k.birth;
      rows = sending_ok n a (owner a) e.sent z t.numbers arrived m k.sent t.room;
      sized = sized_kept n a e z;
    }

-- an accepted step leaves a sound node
pub step_sound : (n m : Node) (a : Action) → step n a ≡ done m → Sound m
step_sound n m a h =
    let w = step_goes n a m h in
    let g = w.1 in
    rw g.to (of_parts (commit n a g.effect) (commit_sound n a g.effect (parts_of n w.0) g.act))

-- and so does a play
pub played_sound : (n : Node) (l : List Action) → Sound n → Sound (played n l).node
unfolding played
played_sound n [] h = h
played_sound n (a ∷ l) h = go (step n a) refl (λ m. played_sound m l)
  where
    go : (x : Answer Node) → step n a ≡ x → ((m : Node) → Sound m → Sound (played m l).node) → Sound (plays_on n x (λ m. played m l)).node
    go (refused k) e f = h
    go (done m) e f = f m (step_sound n m a e)

pub play_sound : (n : Node) (l : List Action) → Sound n → Sound (play n l).node
unfolding play
play_sound n l h = rw h (go (ltb 4096 (length l)))
  where
    go : (b : Bool) → Sound (cond b (record { accepted = 0; refusal = schedule_too_long; node = n }) (played n l)).node
    go true = h
    go false = played_sound n l h

-- a play of a sound node is its steps one after another up to the first refusal
pub play_played : (n : Node) (l : List Action) → Sound n → length l ≤ 4096 → play n l ≡ played n l
unfolding play
play_played n l h g = rw (h, le-ltb 4096 (length l) g)
