-- The loops of a listing: processes with their messages, pairs with their signals, and the places of a mailbox or a row. Assumes nothing.
--   process_at n i pair_at n i     the texts of the process and of the pair that stand at i
--   mail_at n i row_at n i         the messages and the signals that are listed of them;  mail_size n i  how many messages
--   processes_from n i             what is left to write of the processes, before the one at i;  pairs_from n i  of the pairs
--   process_texts pair_texts       all of them are the two parts of the listing
--   mail_count_lem                 as many messages are listed as are counted
--   mail_text row_text             the texts of a mailbox and of a row are those of its first places
--   left_process                   a turn of the loop over processes;  left_processes_end  its end
--   left_pair left_no_pair         a turn of the loop over pairs, with and without signals;  left_pairs_end  its end
--   left_place left_places_end     the same for the loop over the first places of a block
use mathlib.Core.List.{List, [], ◌∷◌, ◌++◌, map, flat_map}
use mathlib.Core.Path.{◌≡◌, refl, sym, ◌∙◌, ap}
use Prim.Native.Nat.{ℕ, ◌+◌, ◌-◌, ◌*◌, ◌/◌, ◌%◌, ◌≤◌, ◌<◌}
use native.Mathlib.Nat.{zero-add}
use native.Mathlib.Omega.{arith}
use lib.ListN.{length, take, drop, get_or}
use Rattle.node.proofs.Contents.{messages_length, signals_length}
use Rattle.node.proofs.Lists.{firsts_length, firsts_get_d}
use Rattle.node.specs.declared.Stage.TheVariants.{Unborn, Live, Closing, Gone}
use Rattle.node.specs.declared.Stage.{Stage}
use Rattle.node.specs.Processes.{mail_count}
use Rattle.node.specs.declared.Cell.{Cell}
use Rattle.node.specs.declared.Message.{Message}
use Rattle.node.specs.declared.Node.{Node}
use Rattle.node.specs.declared.Process.{Process}
use Rattle.node.specs.declared.Signal.{Signal}
use Rattle.node.specs.declared.Slot.{Slot}
use Rattle.node.specs.Blocks.{Block, block_of}
use Rattle.node.specs.Lists.{firsts, rising}
use Rattle.node.specs.Mailboxes.{no_message, messages}
use Rattle.node.specs.Nodes.{no_process, mail_shelf, flight_shelf}
use Rattle.node.specs.Rows.{no_signal, signals}
use Rattle.node.specs.Values.{numbers}
use Rattle.rules.proofs.All.{rising_at}
use Rattle.rules.specs.Nodes.{view, standing, standing_in}
use Rattle.text.proofs.Writing.{Left, each_append, each_map, left_item, left_skip, left_end, ◌▸◌}
use Rattle.text.specs.Writing.{Wrote, each}
use Rattle.listing_lines.proofs.Laws.{standing_text_lem, mail_length, pair_none, pair_some}
use Rattle.listing_lines.specs.Lines.{each_from, message_line, mail_of, standing_lines, standing_text, signal_line, flight_line, pair_text}
use Rattle.listing.specs.Listing.{rows_text}

-- ---- what stands at i

module _ (n : Node) (i : ℕ) where
  abbrev pub process_of : Process
  process_of = get_or n.processes i no_process

  abbrev mail_block : Block Slot
  mail_block = block_of 16 i (mail_shelf n)

  abbrev pub mail_at : List Message
  mail_at = mail_of (standing process_of (messages mail_block))

  abbrev pub mail_size : ℕ
  mail_size = mail_count process_of.stage (get_or n.waiting i 0)

  abbrev pub process_at : List ℕ
  process_at = standing_text (i + 1) (standing process_of (messages mail_block))

  abbrev row_block : Block Cell
  row_block = block_of 4 i (flight_shelf n)

  abbrev pub row_at : List Signal
  row_at = signals row_block

  abbrev pub pair_at : List ℕ
  pair_at = pair_text (i / 16 + 1) (i % 16 + 1) row_at

-- what is left to write of the processes, before the one at i, and of the pairs
abbrev pub processes_from : Node → ℕ → List ℕ
processes_from n i = each (process_at n) (drop i (rising 0 16))

abbrev pub pairs_from : Node → ℕ → List ℕ
pairs_from n i = each (pair_at n) (drop i (rising 0 256))

-- ---- the listing

-- texts of blocks, one behind the other
each_blocks : (f : ℕ → List ℕ) (g : ℕ → List ℕ) (l : List ℕ) → each (λ (j : ℕ). each f (g j)) l ≡ each f (flat_map g l)
unfolding each flat_map
each_blocks f g [] = refl
each_blocks f g (j ∷ l) = ap (λ (t : List ℕ). each f (g j) ++ t) (each_blocks f g l) ∙ sym (each_append f (g j) (flat_map g l))

pub process_texts : (n : Node) → each_from standing_text 1 (view n).processes ≡ each (process_at n) (rising 0 16)
unfolding view each_from each
process_texts n = refl

-- sixteen blocks of sixteen are the 256 pairs: both sides compute to the same texts
pub pair_texts : (n : Node) → each_from rows_text 1 (view n).flight ≡ each (pair_at n) (rising 0 256)
unfolding view rows_text each_from each flat_map
pair_texts n = each_blocks (pair_at n) (λ (j : ℕ). rising (16 * (j - 1)) 16) numbers

-- ---- what is listed of a block is the texts of its first places
mail_text : (n : Node) (i : ℕ) → each (λ (s : Slot). message_line s.message) (firsts no_message (mail_size n i) (take 16 (drop (16 * i) n.slots))) ≡ each message_line (mail_at n i)
unfolding standing messages each
mail_text n i = go (process_of n i).stage
  where
    cells : List Slot
    cells = take 16 (drop (16 * i) n.slots)

    go : (s : Stage) → each (λ (x : Slot). message_line x.message) (firsts no_message (mail_count s (get_or n.waiting i 0)) cells)
        ≡ each message_line (mail_of (standing_in s (process_of n i) (map (λ (x : Slot). x.message) (firsts no_message (get_or n.waiting i 0) cells))))
    go Unborn = refl
    go Live = sym (each_map message_line (λ (x : Slot). x.message) (firsts no_message (get_or n.waiting i 0) cells))
    go Closing = refl
    go Gone = refl

row_text : (n : Node) (i : ℕ) → each (λ (c : Cell). signal_line c.signal) (firsts no_signal (get_or n.counts i 0) (take 4 (drop (4 * i) n.cells))) ≡ each signal_line (row_at n i)
unfolding signals
row_text n i = sym (each_map signal_line (λ (c : Cell). c.signal) (firsts no_signal (get_or n.counts i 0) (take 4 (drop (4 * i) n.cells))))

-- ---- the loops
at_first : (size i : ℕ) → i < size → get_or (rising 0 size) i 0 ≡ i
at_first size i h = rising_at 0 size i 0 h ∙ zero-add i

module _ (n : Node) (i : ℕ) where
  pub mail_count_lem : length (mail_at n i) ≡ mail_size n i
  mail_count_lem = mail_length (process_of n i) (messages (mail_block n i)) ∙ ap (mail_count (process_of n i).stage) (messages_length (mail_block n i))

  process_text : process_at n i ≡ standing_lines (i + 1) (standing (process_of n i) []) (get_or n.waiting i 0) ++ each message_line (mail_at n i)
  process_text =
      standing_text_lem (i + 1) (process_of n i) (messages (mail_block n i))
      ∙ ap (λ (k : ℕ). standing_lines (i + 1) (standing (process_of n i) []) k ++ each message_line (mail_at n i)) (messages_length (mail_block n i))

  pair_text_lem : (get_or n.counts i 0 ≡ 0 → ⊥) → pair_at n i ≡ flight_line (i / 16 + 1) (i % 16 + 1) (get_or n.counts i 0) ++ each signal_line (row_at n i)
  pair_text_lem h =
      pair_some (i / 16 + 1) (i % 16 + 1) (row_at n i) (λ e. h (sym (signals_length (row_block n i)) ∙ e))
      ∙ ap (λ (k : ℕ). flight_line (i / 16 + 1) (i % 16 + 1) k ++ each signal_line (row_at n i)) (signals_length (row_block n i))

module _ (n : Node) (i : ℕ) {o text m : List ℕ} {a e : ℕ} where
  -- process i, and then its messages
  pub left_process : {u v : List ℕ} {r s : ℕ} → Left o a text m e (processes_from n i) → i < 16
      → Wrote m e (standing_lines (i + 1) (standing (process_of n i) []) (get_or n.waiting i 0)) u r
      → Wrote u r (each (λ (x : Slot). message_line x.message) (firsts no_message (mail_size n i) (take 16 (drop (16 * i) n.slots)))) v s
      → Left o a text v s (processes_from n (i + 1))
  left_process p h q w = left_item (process_at n) (rising 0 16) i p 0 h (rw (at_first 16 i h, process_text n i, ← mail_text n i) (q ▸ w))

  pub left_processes_end : Left o a text m e (processes_from n i) → 16 ≤ i → Wrote o a text m e
  left_processes_end p h = left_end (process_at n) (rising 0 16) i p h

  -- pair i, and then its signals; a pair without signals has no text
  pub left_pair : {u v : List ℕ} {r s : ℕ} → Left o a text m e (pairs_from n i) → i < 256 → (get_or n.counts i 0 ≡ 0 → ⊥)
      → Wrote m e (flight_line (i / 16 + 1) (i % 16 + 1) (get_or n.counts i 0)) u r
      → Wrote u r (each (λ (x : Cell). signal_line x.signal) (firsts no_signal (get_or n.counts i 0) (take 4 (drop (4 * i) n.cells)))) v s
      → Left o a text v s (pairs_from n (i + 1))
  left_pair p h some q w = left_item (pair_at n) (rising 0 256) i p 0 h (rw (at_first 256 i h, pair_text_lem n i some, ← row_text n i) (q ▸ w))

  pub left_no_pair : Left o a text m e (pairs_from n i) → i < 256 → get_or n.counts i 0 ≡ 0 → Left o a text m e (pairs_from n (i + 1))
  left_no_pair p h none = left_skip (pair_at n) (rising 0 256) i p 0 h (rw (at_first 256 i h) (pair_none (i / 16 + 1) (i % 16 + 1) (row_at n i) (signals_length (row_block n i) ∙ none)))

  pub left_pairs_end : Left o a text m e (pairs_from n i) → 256 ≤ i → Wrote o a text m e
  left_pairs_end p h = left_end (pair_at n) (rising 0 256) i p h

-- ---- the loop over the first places of a block; d stands for those that it has no place for
module _ {X : Type 0} (f : X → List ℕ) (d : X) (xs : List X) (n k : ℕ) {o text m : List ℕ} {a e : ℕ} (p : Left o a text m e (each f (drop k (firsts d n xs)))) where
  pub left_place : {u : List ℕ} {r : ℕ} → k < n → Wrote m e (f (get_or xs k d)) u r → Left o a text u r (each f (drop (k + 1) (firsts d n xs)))
  left_place h q = left_item f (firsts d n xs) k p d (omega (arith, firsts_length d n xs)) (rw (firsts_get_d d n xs k h) q)

  pub left_places_end : n ≤ k → Wrote o a text m e
  left_places_end h = left_end f (firsts d n xs) k p (omega (arith, firsts_length d n xs))
