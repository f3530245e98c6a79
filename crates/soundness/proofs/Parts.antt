-- What the code reads of the arrays of a node is what `sound` reads of its view. Assumes nothing.
--   mail_blocks row_blocks   the mailboxes, each with the process that it belongs to, and the rows in flight, as blocks to be walked
--   shaped_node              a node that code holds has its arrays in full
--   sound_not sound_due      `sound`, where the behaviours are not sound, and where they are: then the blocks give it
use mathlib.Core.Bool.{Bool, true, false, So, ◌&&◌, not, cond, and-true, and-false}
use mathlib.Core.List.{List, [], ◌∷◌, map, flat_map}
use mathlib.Core.Path.{◌≡◌, refl, sym, ◌∙◌, ap}
use Prim.Native.Nat.{ℕ, zero, suc, ◌+◌, ◌-◌, ◌*◌, ◌/◌, ◌%◌, ◌≤◌, ◌<◌}
use native.Mathlib.Nat.{mod-eq_of_lt}
use native.Mathlib.Omega.{arith}
use borrow.Author.Tests.{eqb-false, eqb-true, le-leb, lt-leb, ltb-false, ltb-true}
use denote.Shadow.{shadow}
use denote.Struct.Declared.{row as row_of}
use lib.Dec.{eqb, leb, ltb}
use lib.ListN.{length, get_or}
use mir.Val.{Val}
use Rattle.node.specs.declared.Cell.{Cell}
use Rattle.node.specs.declared.Message.{Message}
use Rattle.node.specs.declared.Node.{Node}
use Rattle.node.specs.declared.Op.{Op}
use Rattle.node.specs.declared.Peers.{Peers}
use Rattle.node.specs.declared.Process.{Process}
use Rattle.node.specs.declared.Signal.{Signal}
use Rattle.node.specs.declared.Slot.{Slot}
use Rattle.node.specs.declared.Stage.{Stage}
use Rattle.node.specs.declared.Stage.TheVariants.{Unborn, Live, Closing, Gone}
use Rattle.node.specs.Blocks.{block_of}
use Rattle.node.specs.Lists.{all_from, all_of, firsts, rising}
use Rattle.node.specs.Mailboxes.{messages, no_message}
use Rattle.node.specs.Nodes.{mail_shelf, no_op, no_process}
use Rattle.node.specs.Ops.{is_part}
use Rattle.node.specs.Rows.{no_signal, signals}
use Rattle.node.specs.Processes.{links_to, watches_over, watched_by, mail_count}
use Rattle.node.specs.Sets.{has}
use Rattle.node.specs.Values.{is_number, message_sound, numbers, value_sound}
use Rattle.node.proofs.Good.{sized_node}
use Rattle.node.proofs.Lists.{all_of_append}
use Rattle.node.proofs.Tests.{within_is}
use Rattle.node.specs.contracts.Node.{the_type as node-type}
use Rattle.rules.specs.Behaviours.{Instruction, code_sound, on_part}
use Rattle.rules.specs.Nodes.{behaviours_of, code, live, row_sound, running, running_sound, set_of, shaped, signal_sound, sound, standing, standing_in, standing_sound, view, view_sound}
use Rattle.rules.proofs.All.{all_of_at, parts}
use Rattle.rules.proofs.Shape.{of_sized}
use Rattle.behaviours.specs.Codes.{code_in, codes_in}
use Rattle.behaviours.proofs.Codes.{code_length, codes_at, codes_length, on_part_at, on_part_end}
use Rattle.soundness.specs.Parts.{length_in, place_in, running_told, standing_told}
use Rattle.soundness.proofs.Walk.{Blocks, Due, behind, block_sound}

-- ---- the blocks of a node

-- the process that stands at k, by what the code looks up for it; the op at its place stands at `at`
abbrev process_with : Node → ℕ → ℕ → Bool
process_with n k at =
    let p = get_or n.processes k no_process in
    standing_told p.stage n.count (length_in n.lens p) (get_or n.ops at no_op).number (k + 1) p

abbrev process_at : Node → ℕ → Bool
process_at n k = process_with n k (place_in (get_or n.processes k no_process))

pub process_by : (n : Node) (k at : ℕ) {r : Bool} → at ≡ place_in (get_or n.processes k no_process) → r ≡ process_with n k at → r ≡ process_at n k
process_by n k at e h = h ∙ ap (process_with n k) e

abbrev pub mail_blocks : Node → Blocks Slot Message
mail_blocks n = record {
  number = 16;
  width = 16;
  cells = n.slots;
  count = λ k. mail_count (get_or n.processes k no_process).stage (get_or n.waiting k 0);
  own = process_at n;
  test = λ k. message_sound;
  read = λ s. s.message;
  blank = no_message;
}

-- the rows, by the counts and the cells that the code has taken out of the node
abbrev pub rows_in : List ℕ → List Cell → Blocks Cell Signal
rows_in counts cells = record {
  number = 256;
  width = 4;
  cells = cells;
  count = λ k. get_or counts k 0;
  own = λ k. true;
  test = λ k. signal_sound (k / 16 + 1) (k % 16 + 1);
  read = λ c. c.signal;
  blank = no_signal;
}

abbrev pub row_blocks : Node → Blocks Cell Signal
row_blocks n = rows_in n.counts n.cells

-- ---- processes

-- the messages of the first w slots of l
abbrev mail : ℕ → List Slot → List Message
mail w l = map (λ (s : Slot). s.message) (firsts no_message w l)

-- at the end of n ops, or past it
end_is : (t n : ℕ) (u : Bool) → eqb t n ≡ u → n ≤ t → leb t n ≡ eqb t n
end_is t n true e h = rw e (le-leb t n (omega (arith, eqb-true t n e)))
end_is t n false e h = rw e (lt-leb t n (let d = eqb-false t n e in omega arith))

-- the tests of `running_sound`, and then those of the sets, in the order of the code
swap : (p r l m n w v : Bool) → (p && r && l && m && n && w && v) ≡ (r && p && n && w && v && (l && m))
swap false false l m n w v = refl
swap false true l m n w v = refl
swap true false l m n w v = refl
swap true true l m n w v = go (l && m)
  where
    go : (x : Bool) → (x && n && w && v) ≡ (n && w && v && x)
    go true = sym (and-true (n && w && v))
    go false = sym (and-false (n && w && v))

set_is : (s : Peers) (i : ℕ) → is_number i ≡ true → set_of s i ≡ has s i
unfolding set_of
set_is s i h = rw h

module _ (c : ℕ) (lens : List ℕ) (ops : List Op) (few : c ≤ 8) (all : So (all_of (code_sound c) (codes_in c lens ops))) where
  abbrev codes : List (List Instruction)
  codes = codes_in c lens ops

  -- process p, whose behaviour the node has
  module _ (p : Process) (h : (leb 1 p.behaviour.0 && leb p.behaviour.0 c) ≡ true) where
    -- where its behaviour stands among all, and how long it is
    abbrev b : ℕ
    b = p.behaviour.0 - 1

    abbrev n : ℕ
    n = get_or lens b 0

    inside : b < c
    inside = let g = within_is p.behaviour.0 1 c h in omega arith

    code_is : get_or codes b [] ≡ code_in n ops b
    code_is = codes_at c lens ops b inside

    length_is : length_in lens p ≡ n
    length_is = let e : b % 8 ≡ b = mod-eq_of_lt (omega (arith, inside)) in ap (λ (k : ℕ). get_or lens k 0) e

    short : n ≤ 32
    unfolding code_sound
    short =
        let g : So (code_sound c (code_in n ops b)) = rw code_is at (all_of_at (code_sound c) [] codes all b (rw (codes_length c lens ops) inside)) in
        let k = length (code_in n ops b) in
        omega (arith, code_length n ops b, (within_is k 1 32 (parts (leb 1 k && leb k 32) _ g).0).1)

    place_is : (u : Bool) → ltb p.place n ≡ u → (leb p.place n && not (on_part (code_in n ops b) p.place)) ≡ cond u (not (is_part (get_or ops (place_in p) no_op).number)) (eqb p.place n)
    place_is true e =
        let l = ltb-true p.place n e in
        let i : place_in p ≡ 32 * b + p.place = mod-eq_of_lt (omega (arith, inside, short)) in
        rw (le-leb p.place n (omega arith), i, on_part_at n ops b p.place l)
    place_is false e =
        let l = ltb-false p.place n e in
        rw (on_part_end (code_in n ops b) p.place (rw (code_length n ops b) l), and-true) (end_is p.place n _ refl l)

  -- process p with number i, by what the code looks up for it
  module _ (i : ℕ) (number : is_number i ≡ true) (p : Process) where
    abbrev told : Stage → Bool
    told s = standing_told s c (length_in lens p) (get_or ops (place_in p) no_op).number i p

    running_told_lem : (m : List Message) (u : Bool) → (leb 1 p.behaviour.0 && leb p.behaviour.0 c) ≡ u → standing_sound codes i (live (running p m))
        ≡ (told Live && (leb (length m) 16 && all_of message_sound m))
    unfolding running_sound running_told links_to watches_over watched_by
    running_told_lem m false e = rw (codes_length c lens ops, e)
    running_told_lem m true e =
        rw (codes_length c lens ops, e, code_is p e, code_length (n p e) ops (b p e), length_is p e, place_is p e _ refl, set_is _ i number, set_is _ i number, set_is _ i number)
        (swap _ (all_of value_sound (p.r0 ∷ p.r1 ∷ p.r2 ∷ p.r3 ∷ [])) (leb (length m) 16) (all_of message_sound m) _ _ _)

    -- what its stage does not hold of the mailbox, the first w slots of l, is not looked at
    standing_told_lem : (s : Stage) (w : ℕ) (l : List Slot) → standing_sound codes i (standing_in s p (mail w l))
        ≡ (told s && (leb (length (mail (mail_count s w) l)) 16 && all_of message_sound (mail (mail_count s w) l)))
    unfolding links_to watched_by
    standing_told_lem Unborn w l = refl
    standing_told_lem Live w l = running_told_lem (mail w l) _ refl
    standing_told_lem Closing w l = rw (set_is p.links i number, set_is p.watchers i number) (sym (and-true (value_sound p.reason && not (has p.links i) && not (has p.watchers i))))
    standing_told_lem Gone w l = refl

-- ---- rows

-- tests of blocks, one behind the other
all_blocks : (f : ℕ → Bool) (g : ℕ → List ℕ) (l : List ℕ) → all_of (λ (j : ℕ). all_of f (g j)) l ≡ all_of f (flat_map g l)
unfolding flat_map
all_blocks f g [] = refl
all_blocks f g (j ∷ l) = ap (λ (b : Bool). all_of f (g j) && b) (all_blocks f g l) ∙ sym (all_of_append f (g j) (flat_map g l))

-- ---- the node

-- tests that agree on each of the numbers
rising_same : (f g : ℕ → Bool) (i n : ℕ) → ((k : ℕ) → k < i + n → f k ≡ g k) → all_of f (rising i n) ≡ all_of g (rising i n)
rising_same f g i zero h = refl
rising_same f g i (suc n) h = λ j. h i (omega arith) j && rising_same f g (i + 1) n (λ k l. h k (omega arith)) j

module _ (n : Node) where
  abbrev pub behaviours_sound : Bool
  behaviours_sound = leb 1 n.count && leb n.count 8 && all_of (code_sound n.count) (codes_in n.count n.lens n.ops)

  -- a node that code holds has its arrays in full
  pub shaped_node : {vs : List Val} → shadow ((row_of node-type).own_val n vs) → So (shaped n)
  shaped_node g =
      let z = sized_node n g in
      of_sized n (record {
        lens = z.lens;
        ops = z.ops;
        processes = z.processes;
        mail = record { cells = z.slots; counts = z.waiting };
        flight = record { cells = z.cells; counts = z.counts };
      })

  -- `sound`, part by part; a node that is shaped has nothing else to pass
  sound_is : So (shaped n) → sound n ≡ (behaviours_sound && all_from (standing_sound (behaviours_of n)) 1 (view n).processes && all_from (λ j rows. all_from (row_sound j) 1 rows) 1 (view n).flight)
  unfolding sound view_sound view behaviours_of code codes_in code_in
  sound_is h = ap (λ (s : Bool). view_sound (view n) && s) h ∙ and-true (view_sound (view n)) ∙ rw (codes_length n.count n.lens n.ops)

  -- sixteen rows to a sender are the 256 rows: both sides compute to the same tests
  rows_due : all_from (λ j rows. all_from (row_sound j) 1 rows) 1 (view n).flight ≡ behind (row_blocks n) 0
  unfolding view block_sound row_sound signals flat_map
  rows_due = all_blocks (block_sound (row_blocks n)) (λ (j : ℕ). rising (16 * (j - 1)) 16) numbers

  module _ (e : behaviours_sound ≡ true) where
    both_are : So (leb 1 n.count && leb n.count 8) × So (all_of (code_sound n.count) (codes_in n.count n.lens n.ops))
    both_are = parts _ (all_of (code_sound n.count) (codes_in n.count n.lens n.ops)) e

    process_due : (k : ℕ) → k < 16 → standing_sound (behaviours_of n) (k + 1) (standing (get_or n.processes k no_process) (messages (block_of 16 k (mail_shelf n)))) ≡ block_sound (mail_blocks n) k
    unfolding standing messages block_sound behaviours_of code codes_in code_in is_number
    process_due k h =
        let p = get_or n.processes k no_process in
        let i : is_number (k + 1) ≡ true = rw (le-leb 1 (k + 1) (omega arith), le-leb (k + 1) 16 (omega arith)) in
        standing_told_lem n.count n.lens n.ops (within_is n.count 1 8 both_are.0).1 both_are.1 (k + 1) i p p.stage _ _

    processes_due : all_from (standing_sound (behaviours_of n)) 1 (view n).processes ≡ behind (mail_blocks n) 0
    unfolding view
    processes_due = rising_same _ (block_sound (mail_blocks n)) 0 16 process_due

    pub sound_due : So (shaped n) → Due (mail_blocks n) (behind (row_blocks n) 0 && true) (sound n) 0
    sound_due h = record { gives = sound_is h ∙ rw (e, processes_due, rows_due, and-true (behind (row_blocks n) 0)) }

  pub sound_not : So (shaped n) → behaviours_sound ≡ false → false ≡ sound n
  sound_not h e = sym (sound_is h ∙ rw e)
