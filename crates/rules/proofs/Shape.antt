-- The arrays of a sound node are as long as their types say, and a commit keeps them so. Assumes nothing.
use mathlib.Core.Bool.{So}
use mathlib.Core.List.{List}
use mathlib.Core.Option.{Option, none, some}
use mathlib.Core.Path.{◌≡◌, refl, ◌∙◌}
use Prim.Native.Nat.{ℕ, ◌-◌, ◌<◌}
use native.Mathlib.Omega.{arith}
use borrow.Author.Tests.{eqb-true, eq-eqb}
use lib.Dec.{eqb}
use lib.ListN.{length, set, length-set}
use Rattle.node.specs.declared.Cell.{Cell}
use Rattle.node.specs.declared.Node.{Node}
use Rattle.node.specs.declared.Process.{Process}
use Rattle.node.specs.declared.Slot.{Slot}
use Rattle.node.specs.Blocks.{Block, Shelf, changed, joined, left, popped, emptied}
use Rattle.node.specs.Mailboxes.{slot_of}
use Rattle.node.specs.Nodes.{mail_shelf, flight_shelf}
use Rattle.node.specs.Rows.{no_signal, cell_of}
use Rattle.node.proofs.Blocks.{Room, Keeping, changed_cells, changed_counts, joined_keeps, left_keeps, popped_keeps, emptied_keeps}
use Rattle.rules.specs.Effects.{MailChange, unchanged, joining, leaving, Effect, Sending, Birth}
use Rattle.rules.specs.Nodes.{shaped}
use Rattle.rules.specs.Steps.{Action, run, arrive, timeout, owner, with_arrival, with_sending, with_mail, without_mail, with_birth, commit}
use Rattle.rules.proofs.All.{both, parts}

-- a shelf of mailboxes and one of rows, as long as the types of a node say
pub record SizedMail (s : Shelf Slot) : Type 0 where
  pub cells : length s.cells ≡ 256
  pub counts : length s.counts ≡ 16

pub record SizedRows (s : Shelf Cell) : Type 0 where
  pub cells : length s.cells ≡ 1024
  pub counts : length s.counts ≡ 256

-- the test `shaped`, part by part
pub record Sized (n : Node) : Type 0 where
  pub lens : length n.lens ≡ 8
  pub ops : length n.ops ≡ 256
  pub processes : length n.processes ≡ 16
  pub mail : SizedMail (mail_shelf n)
  pub flight : SizedRows (flight_shelf n)

module _ (n : Node) where
  pub sized_of : So (shaped n) → Sized n
  unfolding shaped
  sized_of h =
      let a = parts _ (eqb (length n.cells) 1024) h in
      let b = parts _ (eqb (length n.counts) 256) a.0 in
      let c = parts _ (eqb (length n.slots) 256) b.0 in
      let d = parts _ (eqb (length n.waiting) 16) c.0 in
      let f = parts _ (eqb (length n.processes) 16) d.0 in
      let g = parts (eqb (length n.lens) 8) (eqb (length n.ops) 256) f.0 in
      record {
        lens = eqb-true _ _ g.0;
        ops = eqb-true _ _ g.1;
        processes = eqb-true _ _ f.1;
        mail = record { cells = eqb-true _ _ c.1; counts = eqb-true _ _ d.1 };
        flight = record { cells = eqb-true _ _ a.1; counts = eqb-true _ _ b.1 };
      }

  pub of_sized : Sized n → So (shaped n)
  unfolding shaped
  of_sized z =
      both (both (both (both (both (both
      (eq-eqb _ _ z.lens)
      (eq-eqb _ _ z.ops))
      (eq-eqb _ _ z.processes))
      (eq-eqb _ _ z.mail.counts))
      (eq-eqb _ _ z.mail.cells))
      (eq-eqb _ _ z.flight.counts))
      (eq-eqb _ _ z.flight.cells)

-- ---- room for each block

pub mail_room : (s : Shelf Slot) → SizedMail s → (k : ℕ) → k < 16 → Room 16 k s
mail_room s z k h = record { cells = omega (arith, z.cells); counts = omega (arith, z.counts) }

pub row_room : (s : Shelf Cell) → SizedRows s → (k : ℕ) → k < 256 → Room 4 k s
row_room s z k h = record { cells = omega (arith, z.cells); counts = omega (arith, z.counts) }

-- ---- what a commit changes

module _ (f : Block Slot → Block Slot) (keeps : Keeping f) (k : ℕ) (s : Shelf Slot) (z : SizedMail s) where
  mail_changed : SizedMail (changed 16 f k s)
  mail_changed = record { cells = changed_cells 16 f keeps k s ∙ z.cells; counts = changed_counts 16 f keeps k s ∙ z.counts }

module _ (f : Block Cell → Block Cell) (keeps : Keeping f) (k : ℕ) (s : Shelf Cell) (z : SizedRows s) where
  rows_changed : SizedRows (changed 4 f k s)
  rows_changed = record { cells = changed_cells 4 f keeps k s ∙ z.cells; counts = changed_counts 4 f keeps k s ∙ z.counts }

pub mail_sized : (s : Shelf Slot) (k : ℕ) (c : MailChange) → SizedMail s → SizedMail (with_mail s k c)
mail_sized s k unchanged z = z
mail_sized s k (joining x) z = mail_changed (joined (slot_of x)) (joined_keeps (slot_of x)) k s z
mail_sized s k (leaving i) z = mail_changed (left i) (left_keeps i) k s z

without_sized : (s : Shelf Slot) (b : Option Birth) → SizedMail s → SizedMail (without_mail s b)
without_sized s none z = z
without_sized s (some b) z = mail_changed emptied emptied_keeps (b.number - 1) s z

pub arrival_sized : (s : Shelf Cell) (a : Action) → SizedRows s → SizedRows (with_arrival s a)
arrival_sized s (run i) z = z
arrival_sized s (timeout i) z = z
arrival_sized s (arrive i j) z = rows_changed (popped no_signal) (popped_keeps no_signal) _ s z

pub sending_sized : (s : Shelf Cell) (i : ℕ) (o : Option Sending) → SizedRows s → SizedRows (with_sending s i o)
sending_sized s i none z = z
sending_sized s i (some x) z = rows_changed (joined (cell_of x.signal)) (joined_keeps (cell_of x.signal)) _ s z

pub birth_length : (l : List Process) (b : Option Birth) → length (with_birth l b) ≡ length l
birth_length l none = refl
birth_length l (some b) = length-set l (b.number - 1) b.process

pub sized_kept : (n : Node) (a : Action) (e : Effect) → Sized n → Sized (commit n a e)
unfolding commit
sized_kept n a e z = record {
  lens = z.lens;
  ops = z.ops;
  processes = birth_length (set n.processes (owner a - 1) e.process) e.born ∙ length-set n.processes (owner a - 1) e.process ∙ z.processes;
  mail = without_sized (with_mail (mail_shelf n) (owner a - 1) e.mail) e.born (mail_sized (mail_shelf n) (owner a - 1) e.mail z.mail);
  flight = sending_sized (with_arrival (flight_shelf n) a) (owner a) e.sent (arrival_sized (flight_shelf n) a z.flight);
}
