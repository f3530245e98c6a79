-- The changes of blocks and sets are the list and set operations on what they hold, and soundness goes by the view and the lengths of
-- arrays alone. A mailbox has 16 slots and a row 4 cells. Assumes nothing.
use mathlib.Core.Bool.{Bool, true, false, not, ◌&&◌, ◌||◌, and-eq-true_iff}
use mathlib.Core.List.{List, [], ◌∷◌, ◌++◌, map}
use mathlib.Core.Path.{◌≡◌, refl, ◌∙◌, ap}
use Prim.Native.Nat.{ℕ, zero, suc, ◌-◌, ◌≤◌, ◌<◌}
use native.Mathlib.Decide.{ℕ_discrete}
use native.Mathlib.Omega.{arith}
use borrow.Author.Tests.{eq-eqb, ne_eqb, leb-true}
use lib.Dec.{eqb, leb}
use lib.ListN.{length, get_or, set}
use lib.Seq.{get_or-set_same, get_or-set_other}
use Rattle.node.specs.declared.Cell.{Cell}
use Rattle.node.specs.declared.Message.{Message}
use Rattle.node.specs.declared.Node.{Node}
use Rattle.node.specs.declared.Peers.{Peers}
use Rattle.node.specs.declared.Process.{Process}
use Rattle.node.specs.declared.Signal.{Signal}
use Rattle.node.specs.declared.Slot.{Slot}
use Rattle.node.specs.declared.Value.{Value}
use Rattle.node.specs.Blocks.{Block, held, joined, left, popped, emptied}
use Rattle.node.specs.Lists.{without}
use Rattle.node.specs.Mailboxes.{no_message, slot_of, messages}
use Rattle.node.specs.Processes.{ended, gone, linked, unlinked, watching, unwatching, watched, unwatched}
use Rattle.node.specs.Sets.{bits_of, has, with_peer, without_peer}
use Rattle.node.proofs.Sets.{bits_of_length, bits_of_with, bits_of_without}
use Rattle.node.specs.Rows.{no_signal, cell_of, signals, oldest}
use Rattle.node.proofs.Blocks.{held_joined, held_left, held_popped}
use Rattle.node.proofs.Contents.{messages_length, signals_length}
use Rattle.node.proofs.Lists.{map_append}
use Rattle.rules.specs.Nodes.{Equal, sound, shaped, view_sound, set_of, standing}
use Rattle.rules.specs.Nodes as nodes
use Rattle.node.specs.Values.{is_number}

-- ---- mailboxes

map_without : {A B : Type 0} (f : A → B) (k : ℕ) (l : List A) → map f (without k l) ≡ without k (map f l)
map_without f k [] = refl
map_without f zero (x ∷ l) = refl
map_without {B = B} f (suc k) (x ∷ l) = ap (λ (r : List B). f x ∷ r) (map_without f k l)

module _ (b : Block Slot) (sixteen : length b.cells ≡ 16) where
  -- a message joins behind the others
  pub messages_joined : (x : Message) → length (messages b) < 16 → messages (joined (slot_of x) b) ≡ messages b ++ (x ∷ [])
  unfolding messages
  messages_joined x h =
      let c : b.count < 16 = rw (messages_length b) at h in
      ap (map (λ (s : Slot). s.message)) (held_joined no_message b (omega arith) (slot_of x) (omega arith) (omega arith)) ∙ map_append (λ (s : Slot). s.message) (held no_message b) (slot_of x ∷ [])

  -- message k leaves, the rest keep their order
  pub messages_left : (k : ℕ) → k < length (messages b) → length (messages b) ≤ 16 → messages (left k b) ≡ without k (messages b)
  unfolding messages
  messages_left k h g =
      let c : k < b.count = rw (messages_length b) at h in
      let e : b.count ≤ 16 = rw (messages_length b) at g in
      ap (map (λ (s : Slot). s.message)) (held_left no_message b (omega arith) k c) ∙ map_without (λ (s : Slot). s.message) k (held no_message b)

pub messages_emptied : (b : Block Slot) → messages (emptied b) ≡ []
unfolding messages emptied
messages_emptied b = refl

-- ---- rows in flight

module _ (b : Block Cell) (four : length b.cells ≡ 4) where
  -- a signal is sent behind the others
  pub signals_joined : (x : Signal) → length (signals b) < 4 → signals (joined (cell_of x) b) ≡ signals b ++ (x ∷ [])
  unfolding signals
  signals_joined x h =
      let c : b.count < 4 = rw (signals_length b) at h in
      ap (map (λ (s : Cell). s.signal)) (held_joined no_signal b (omega arith) (cell_of x) (omega arith) (omega arith)) ∙ map_append (λ (s : Cell). s.signal) (held no_signal b) (cell_of x ∷ [])

  -- the oldest signal leaves; it is the first
  pub signals_popped : 0 < length (signals b) → signals b ≡ oldest b ∷ signals (popped no_signal b)
  unfolding signals oldest
  signals_popped h =
      let c : 0 < b.count = rw (signals_length b) at h in
      ap (map (λ (s : Cell). s.signal)) (held_popped no_signal b c (omega arith))

-- ---- sets of processes

pub number_bounds : (j : ℕ) → is_number j ≡ true → (1 ≤ j) × (j ≤ 16)
unfolding is_number
number_bounds j h = let b = (and-eq-true_iff (leb 1 j) (leb j 16)).0 h in (leb-true 1 j b.0, leb-true j 16 b.1)

module _ (s : Peers) (j : ℕ) (number : is_number j ≡ true) where
  -- in both cases j stands as b says, and the others as they did
  set_at : (b : Bool) → (is_number j && get_or (set (bits_of s) (j - 1) b) (j - 1) false) ≡ b
  set_at b = let h = number_bounds j number in rw (number, get_or-set_same (bits_of s) (j - 1) b false (rw (bits_of_length s) (omega arith)))

  set_else : (b : Bool) (k : ℕ) → (k ≡ j → ⊥) → (is_number k && get_or (set (bits_of s) (j - 1) b) (k - 1) false) ≡ (is_number k && get_or (bits_of s) (k - 1) false)
  set_else b k h = go (is_number k) refl
    where
      go : (t : Bool) → is_number k ≡ t → (t && get_or (set (bits_of s) (j - 1) b) (k - 1) false) ≡ (t && get_or (bits_of s) (k - 1) false)
      go false e = refl
      go true e = let a = number_bounds j number in let c = number_bounds k e in get_or-set_other (bits_of s) (j - 1) (k - 1) b false (λ q. h (omega arith))

  -- j joins the set
  pub set_with : (k : ℕ) → set_of (with_peer s j) k ≡ (eqb k j || set_of s k)
  unfolding set_of has
  set_with k = rw (bits_of_with s j) (go (ℕ_discrete k j))
    where
      go : Dec (k ≡ j) → (is_number k && get_or (set (bits_of s) (j - 1) true) (k - 1) false) ≡ (eqb k j || (is_number k && get_or (bits_of s) (k - 1) false))
      go (yes e) = rw (e, eq-eqb j j refl) (set_at true)
      go (no h) = rw (ne_eqb k j h) (set_else true k h)

  -- j leaves the set
  pub set_without : (k : ℕ) → set_of (without_peer s j) k ≡ (not (eqb k j) && set_of s k)
  unfolding set_of has
  set_without k = rw (bits_of_without s j) (go (ℕ_discrete k j))
    where
      go : Dec (k ≡ j) → (is_number k && get_or (set (bits_of s) (j - 1) false) (k - 1) false) ≡ (not (eqb k j) && (is_number k && get_or (bits_of s) (k - 1) false))
      go (yes e) = rw (e, eq-eqb j j refl) (set_at false)
      go (no h) = rw (ne_eqb k j h) (set_else false k h)

-- the methods of a process, by the sets of its view
module _ (p : Process) (j : ℕ) (number : is_number j ≡ true) (k : ℕ) where
  pub linked_joins : set_of (linked p j).links k ≡ (eqb k j || set_of p.links k)
  unfolding linked
  linked_joins = set_with p.links j number k

  pub unlinked_leaves : set_of (unlinked p j).links k ≡ (not (eqb k j) && set_of p.links k)
  unfolding unlinked
  unlinked_leaves = set_without p.links j number k

  pub watching_joins : set_of (watching p j).watches k ≡ (eqb k j || set_of p.watches k)
  unfolding watching
  watching_joins = set_with p.watches j number k

  pub unwatching_leaves : set_of (unwatching p j).watches k ≡ (not (eqb k j) && set_of p.watches k)
  unfolding unwatching
  unwatching_leaves = set_without p.watches j number k

  pub watched_joins : set_of (watched p j).watchers k ≡ (eqb k j || set_of p.watchers k)
  unfolding watched
  watched_joins = set_with p.watchers j number k

  pub unwatched_leaves : set_of (unwatched p j).watchers k ≡ (not (eqb k j) && set_of p.watchers k)
  unfolding unwatched
  unwatched_leaves = set_without p.watchers j number k

-- ---- ending

-- an ended process holds its reason, and its links and watchers, which are unchanged
pub standing_ended : (p : Process) (m : List Message) (v : Value) → standing (ended p v) m ≡ nodes.closing v (set_of p.links) (set_of p.watchers)
unfolding standing ended
standing_ended p m v = refl

pub standing_gone : (p : Process) (m : List Message) → standing (gone p) m ≡ nodes.gone
unfolding standing gone
standing_gone p m = refl

-- ---- soundness goes by the view alone, beside the lengths of arrays

pub sound_by_view : (n m : Node) → Equal n m → shaped n ≡ shaped m → sound n ≡ sound m
unfolding sound
sound_by_view n m e h = λ i. view_sound (e i) && h i
