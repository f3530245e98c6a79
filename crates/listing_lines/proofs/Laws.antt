-- Laws of the lines' texts, in the form in which their writers meet them. Assumes nothing.
--   commaed                   members behind what is to stand before the next;  with_commas_lem  nothing before the first
--   left_absent left_member   a turn of the loop over a link set;  left_members_end  its end
--   flag_lem                  a bool as a number
--   lines_in                  the lines of a process by its stage
--   standing_text_lem         a process: its lines, then its messages
--   mail_length mail_at_lem   how many messages are listed, and which
--   registers_text            four registers
--   pair_none pair_some       a pair without and with signals
use mathlib.Core.Bool.{Bool, true, false}
use mathlib.Core.List.{List, [], ◌∷◌, ◌++◌, append_assoc, append-nil}
use mathlib.Core.Path.{◌≡◌, refl, sym, ap, ◌∙◌}
use Prim.Native.Nat.{ℕ, ◌+◌, ◌≤◌, ◌<◌}
use native.Mathlib.Nat.{not-suc-le-zero}
use native.Mathlib.Omega.{arith}
use borrow.Author.Tests.{le-leb}
use lib.ListN.{length, drop, get_or, drop_of_length-le}
use mir.Val.{bool_byte}
use Rattle.node.specs.Processes.{mail_count}
use Rattle.node.specs.declared.Message.{Message}
use Rattle.node.specs.declared.Peers.{Peers}
use Rattle.node.specs.declared.Process.{Process}
use Rattle.node.specs.declared.Signal.{Signal}
use Rattle.node.specs.declared.Stage.TheVariants.{Unborn, Live, Closing, Gone}
use Rattle.node.specs.declared.Stage.{Stage}
use Rattle.node.specs.declared.Value.{Value}
use Rattle.node.specs.Sets.{has}
use Rattle.node.specs.Texts.{bytes}
use Rattle.node.specs.Values.{numbers, is_number}
use Rattle.rules.proofs.All.{rising_at}
use Rattle.rules.specs.Nodes.{standing, standing_in, set_of}
use Rattle.text.proofs.Parts.{drop_next}
use Rattle.text.proofs.Writing.{Left, left_more, left_none}
use Rattle.text.specs.Writing.{Wrote, digits, digits_in, each}
use Rattle.listing_lines.specs.Lines.{comma, value_line, each_from, flag, members, with_commas, register_line, message_line, mail_of, standing_lines, standing_text, signal_line}
use Rattle.listing_lines.specs.Lines.{flight_line, pair_text}

-- ---- a loop that writes a link set: each member behind what is to stand before it, a comma behind the first
unfoldable pub commaed : List ℕ → List ℕ → List ℕ
commaed sep [] = []
commaed sep (j ∷ l) = sep ++ digits j ++ commaed comma l

commaed_each : (l : List ℕ) → commaed comma l ≡ each (λ (k : ℕ). comma ++ digits k) l
unfolding commaed each
commaed_each [] = refl
commaed_each (j ∷ l) = ap (λ (t : List ℕ). comma ++ digits j ++ t) (commaed_each l)

pub with_commas_lem : (l : List ℕ) → commaed [] l ≡ with_commas l
unfolding commaed with_commas
with_commas_lem [] = refl
with_commas_lem (j ∷ l) = ap (λ (t : List ℕ). digits j ++ t) (commaed_each l)

number_at : (k : ℕ) → k < 16 → get_or numbers k 0 ≡ k + 1
number_at k h = let e : 1 + k ≡ k + 1 = omega arith in rising_at 1 16 k 0 h ∙ e

set_at : (s : Peers) (k : ℕ) → k < 16 → set_of s (k + 1) ≡ has s (k + 1)
unfolding set_of is_number
set_at s k h = rw (le-leb 1 (k + 1) (omega arith), le-leb (k + 1) 16 (omega arith))

module _ (s : Peers) (k : ℕ) (sep : List ℕ) {o text m : List ℕ} {a e : ℕ} (w : Left o a text m e (commaed sep (members (set_of s) (drop k numbers)))) where
  -- process k + 1 is not there, or it is
  pub left_absent : k < 16 → false ≡ has s (k + 1) → Left o a text m e (commaed sep (members (set_of s) (drop (k + 1) numbers)))
  unfolding members
  left_absent h is = rw (drop_next numbers k 0 h, number_at k h, set_at s k h, ← is) at w

  pub left_member : {u : List ℕ} {r : ℕ} → k < 16 → true ≡ has s (k + 1) → Wrote m e (sep ++ digits (k + 1)) u r
      → Left o a text u r (commaed comma (members (set_of s) (drop (k + 1) numbers)))
  unfolding members commaed
  left_member h is q = left_more (rw (drop_next numbers k 0 h, number_at k h, set_at s k h, ← is) at w) q

  pub left_members_end : 16 ≤ k → Wrote o a text m e
  unfolding members commaed
  left_members_end h = left_none (rw (drop_of_length-le numbers {i = k} h) at w)

-- a bool as the code's number
pub flag_lem : (b : Bool) → bool_byte b ≡ flag b
flag_lem true = refl
flag_lem false = refl

-- ---- a process by its stage, with its messages apart; registers; pairs
module _ (i : ℕ) (p : Process) where
  pub lines_in : {s : Stage} (n : ℕ) → p.stage ≡ s → standing_lines i (standing_in s p []) n ≡ standing_lines i (standing p []) n
  unfolding standing
  lines_in n e = sym (ap (λ (s : Stage). standing_lines i (standing_in s p []) n) e)

  module _ (ms : List Message) where
    -- what is written of a process before its messages does not look at them
    lines_apart : (s : Stage) → standing_text i (standing_in s p ms) ≡ standing_lines i (standing_in s p []) (length ms) ++ each message_line (mail_of (standing_in s p ms))
    unfolding standing_text standing_lines
    lines_apart Unborn = refl
    lines_apart Live = refl
    lines_apart Closing = refl
    lines_apart Gone = refl

    pub standing_text_lem : standing_text i (standing p ms) ≡ standing_lines i (standing p []) (length ms) ++ each message_line (mail_of (standing p ms))
    unfolding standing
    standing_text_lem = lines_apart p.stage

pub mail_length : (p : Process) (ms : List Message) → length (mail_of (standing p ms)) ≡ mail_count p.stage (length ms)
unfolding standing
mail_length p ms = go p.stage
  where
    go : (s : Stage) → length (mail_of (standing_in s p ms)) ≡ mail_count s (length ms)
    go Unborn = refl
    go Live = refl
    go Closing = refl
    go Gone = refl

pub mail_at_lem : (p : Process) (ms : List Message) (k : ℕ) (d : Message) → k < mail_count p.stage (length ms) → (k < length ms) × (get_or (mail_of (standing p ms)) k d ≡ get_or ms k d)
unfolding standing
mail_at_lem p ms k d h = go p.stage h
  where
    go : (s : Stage) → k < mail_count s (length ms) → (k < length ms) × (get_or (mail_of (standing_in s p ms)) k d ≡ get_or ms k d)
    go Unborn h = absurd (not-suc-le-zero h)
    go Live h = (h, refl)
    go Closing h = absurd (not-suc-le-zero h)
    go Gone h = absurd (not-suc-le-zero h)

pub registers_text : (a b c d : Value) →
    value_line (bytes "r0=") a ++ value_line (bytes "r1=") b ++ value_line (bytes "r2=") c ++ value_line (bytes "r3=") d
    ≡ each_from register_line 0 (a ∷ b ∷ c ∷ d ∷ [])
unfolding each_from register_line digits digits_in
registers_text a b c d = simp (append_assoc, append-nil)

module _ (j i : ℕ) where
  pub pair_none : (xs : List Signal) → length xs ≡ 0 → pair_text j i xs ≡ []
  unfolding pair_text
  pair_none [] h = refl
  pair_none (x ∷ xs) h = absurd (omega arith)

  pub pair_some : (xs : List Signal) → (length xs ≡ 0 → ⊥) → pair_text j i xs ≡ flight_line j i (length xs) ++ each signal_line xs
  unfolding pair_text
  pair_some [] h = absurd (h refl)
  pair_some (x ∷ xs) h = refl
