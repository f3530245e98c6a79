-- The ramp checks of document 01, computed on the definitions: one table, `table`, and one theorem, `ramp`, that every row of it holds.
-- P1 is a row for every sound node, P2 a row from the bytes of the sample's two texts to the bytes that are printed; the other rows are plays,
-- each against a node that is written out. Assumes nothing.
use mathlib.Core.Bool.{Bool, true, false}
use mathlib.Core.List.{List, [], ◌∷◌, ◌++◌, map}
use mathlib.Core.Path.{◌≡◌, refl, ◌∙◌, ap}
use Prim.Native.Nat.{ℕ, ◌*◌}
use lib.ListN.{length, set, replicate, drop}
use lib.Seq.{sets}
use Rattle.node.specs.declared.Message.{Message}
use Rattle.node.specs.declared.Message.TheVariants.{Plain, Note, Down as DownMessage}
use Rattle.node.specs.declared.Node.{Node}
use Rattle.node.specs.declared.Op.{Op}
use Rattle.node.specs.declared.Peers.{Peers}
use Rattle.node.specs.declared.Process.{Process}
use Rattle.node.specs.declared.Signal.{Signal}
use Rattle.node.specs.declared.Signal.TheVariants.{Msg, Exit, Link, Monitor, Down}
use Rattle.node.specs.declared.Stage.TheVariants.{Live, Closing, Gone}
use Rattle.node.specs.declared.Value.{Value}
use Rattle.node.specs.declared.Value.TheVariants.{Atom}
use Rattle.node.specs.Lists.{firsts}
use Rattle.node.specs.Blocks.{changed, joined, left, popped, emptied}
use Rattle.node.specs.Mailboxes.{no_message, messages, slot_of}
use Rattle.node.specs.Nodes.{pair}
use Rattle.node.specs.Ops.{stop_op, kinds_of}
use Rattle.node.specs.Processes.{process_of, unborn, fresh, register, with_register, moved, advanced, trapped, links_to, linked, unlinked, ended, gone, with_place}
use Rattle.node.specs.Processes.{watches_over, watching, unwatching, watched, unwatched, with_watches, with_watchers}
use Rattle.node.specs.Sets.{no_peers, bits_of, has, with_peer, without_peer, lowest_peer}
use Rattle.node.specs.Rows.{no_signal, signals, cell_of}
use Rattle.node.specs.Values.{int_zero, normal, kill, killed, badarg, badarith, noproc, pid, is_number, fits_int, exact_kind, any_kind, int_kind, atom_kind, same_value}
use Rattle.node.specs.Texts.{bytes}
use Rattle.rules.specs.Arrive.{arrives, exits, downs}
use Rattle.rules.specs.Behaviours.{operand, instruction, operand_in_range, in_range, has_clauses, targets_free, well_placed, code_sound}
use Rattle.rules.specs.Nodes.{Sound, sound, shaped, view_sound, view, behaviours_of, code, set_of, standing, running_sound, row_sound}
use Rattle.rules.specs.Consult.{can_take, consulted}
use Rattle.rules.specs.Receive.{receives, fits}
use Rattle.rules.specs.Run.{runs, runs_live, runs_op, closes}
use Rattle.rules.specs.Timeout.{at_after, expires_live, expires}
use Rattle.rules.specs.Steps.{Action, run, arrive, timeout, meaning, Outcome, play, played, step, rule, ready, commit, incoming, decide, numbered, owner_born, signal_waits, pair_has_room, number_free}
use Rattle.rules.proofs.Sample.{op_of, int, sample, started}
use Rattle.actions.specs.Numbers.{encode, decode, action_of}
use Rattle.listing.specs.Listing.{listing_of}
use Rattle.listing.proofs.Examples.{sample_listing}
use Rattle.plan.specs.Plans.{node_of, load_of}
use Rattle.plan.proofs.Examples.{op_with, start_with, sample_plan, sample as loaded-sample}
use Rattle.schedule.specs.Reading.{packed_of, own_of, arrival_of, step_of, read_lines, first_malformed, steps_of, refused_text, accepted_steps, of_lines, schedule_of}
use Rattle.text.specs.Numbers.{is_digit, unsigned_form, negative, unsigned, number_form, decimal, number_value, number_of, ranged_of}
use Rattle.text.specs.Parts.{split, in_front, line_then, last_apart, lines_of, fields_of, equal, starts_with}
use Rattle.text.specs.Writing.{digits, digits_in, number_line}
use Rattle.controller.specs.Program.{played_text, steps, after_load, program_text}

-- ---- a node to check on: processes 1 and 2 are started, the behaviours are those that the checks run

-- 1 add,0,1   2 send,0,1   3 recv,2 with the clauses atom, int   4 spawn,1,1,1   5 monitor,0   6 recv,1 with the clause atom, after,3
ramp_ops : List Op
ramp_ops =
    firsts stop_op 32 (op_of 3 0 1 0 0 int_zero ∷ [])
    ++ firsts stop_op 32 (op_of 4 0 1 0 0 int_zero ∷ [])
    ++ firsts stop_op 32 (op_of 10 0 0 0 2 int_zero ∷ op_of 11 0 1 3 atom_kind int_zero ∷ op_of 11 0 1 3 int_kind int_zero ∷ [])
    ++ firsts stop_op 32 (record { number = 9; r = 1; s = 0; target = 0; small = 0; value = int_zero; process = record { 0 = 1 }; behaviour = record { 0 = 1 } } ∷ [])
    ++ firsts stop_op 32 (op_of 16 0 0 0 0 int_zero ∷ [])
    ++ firsts stop_op 32 (op_of 10 0 0 0 1 int_zero ∷ op_of 11 0 1 3 atom_kind int_zero ∷ op_of 18 0 0 3 0 int_zero ∷ [])
    ++ replicate 64 stop_op

-- process 1, its mailbox, and the row in flight from j to i
world : Process → List Message → ℕ → ℕ → List Signal → Node
world p ms j i xs = record {
  count = 6;
  lens = 1 ∷ 1 ∷ 3 ∷ 1 ∷ 1 ∷ 3 ∷ replicate 2 0;
  ops = ramp_ops;
  processes = p ∷ fresh (record { 0 = 1 }) int_zero ∷ replicate 14 unborn;
  waiting = length ms ∷ replicate 15 0;
  slots = firsts no_message 256 (map slot_of ms);
  counts = set (replicate 256 0) (pair j i) (length xs);
  cells = sets (replicate 1024 no_signal) (4 * pair j i) (map cell_of xs);
}

-- a node with the signals xs in flight from j to i
flying : ℕ → ℕ → List Signal → Node → Node
flying j i xs n = record {
  count = n.count;
  lens = n.lens;
  ops = n.ops;
  processes = n.processes;
  waiting = n.waiting;
  slots = n.slots;
  counts = set n.counts (pair j i) (length xs);
  cells = sets n.cells (4 * pair j i) (map cell_of xs);
}

-- a node whose slot k still holds message x, which its count no longer reaches
holding : ℕ → Message → Node → Node
holding k x n = record {
  count = n.count;
  lens = n.lens;
  ops = n.ops;
  processes = n.processes;
  waiting = n.waiting;
  slots = set n.slots k (slot_of x);
  counts = n.counts;
  cells = n.cells;
}

-- process 1 in behaviour b, with r0 = v, r1 = w, the trap flag and the links
rower : ℕ → Value → Value → Bool → Peers → Process
rower b v w f links = process_of Live (record { 0 = b }) 0 f v w int_zero int_zero links no_peers no_peers int_zero

-- process 1 in behaviour 1, ended with a reason: its registers r0 and r1, its trap flag and its links
closed : Value → Value → Bool → Peers → Value → Process
closed v w f links reason = process_of Closing (record { 0 = 1 }) 0 f v w int_zero int_zero links no_peers no_peers reason

-- process 1, gone
over : Process
over = process_of Gone (record { 0 = 1 }) 0 false int_zero int_zero int_zero int_zero no_peers no_peers no_peers normal

-- ---- a row of the table

pub data Check : Type 0 where
  -- no steps, on any sound node: the same node, 0 accepted
  idle : Check
  -- a plan text and a steps text, and what is printed
  printing : (plan steps output : List ℕ) → Check
  -- a node and steps, and what a play of them answers: accepted, refusal, node
  playing : Node → List Action → ℕ → ℕ → Node → Check
  -- clauses and a mailbox, and how many clauses a search consults
  consulting : List Op → List Message → ℕ → Check

pub Holds : Check → Type 0
Holds idle = (n : Node) → Sound n → play n [] ≡ record { accepted = 0; refusal = 0; node = n }
Holds (printing plan steps output) = program_text plan steps ≡ output
Holds (playing n l k r m) = play n l ≡ record { accepted = k; refusal = r; node = m }
Holds (consulting cs ms k) = consulted cs ms ≡ k

pub All : List Check → Type 0
All [] = Unit {0}
All (c ∷ cs) = Holds c × All cs

unlinked_links : Peers
unlinked_links = record { 0 = 0 }

-- bit k stands for process k + 1
link_two : Peers
link_two = record { 0 = 2 }

link_three : Peers
link_three = record { 0 = 4 }

link_two_three : Peers
link_two_three = record { 0 = 6 }

-- process 1 of behaviour 1 with i0 in its registers: its trap flag and links
plain : Bool → Peers → Process
plain f links = rower 1 int_zero int_zero f links

-- an arrival at process 1 of one signal from j, which process 1 ends as p, with the messages ms
arrival : Process → ℕ → Signal → Process → List Message → Check
arrival p j x q ms = playing (world p [] j 1 (x ∷ [])) (arrive 1 j ∷ []) 1 0 (world q ms j 1 [])

-- one run of process 1, with nothing in its mailbox
running : Process → Process → Check
running p q = playing (world p [] 1 1 []) (run 1 ∷ []) 1 0 (world q [] 1 1 [])

-- a step that is refused with k
refusing : Node → Action → ℕ → Check
refusing n a k = playing n (a ∷ []) 0 k n

-- a clause of kind k; v is read where k is one exact value
takes : ℕ → Value → Op
takes k v = op_of 11 0 1 3 k v

fives : ℕ → List Message
fives k = replicate k (Plain (int 5))

-- process 1 sends i7 to process 2, which has k messages from it in flight already
sender : ℕ → ℕ → Node
sender place k = world (with_place (rower 2 (pid 2) (int 7) false unlinked_links) place) [] 1 2 (replicate k (Msg (int 7)))

spawner : Process
spawner = rower 4 int_zero int_zero false unlinked_links

-- process 1 of behaviour 1 that watches process 2
watcher : Process
watcher = with_watches (plain false unlinked_links) link_two

-- process 1 at `monitor,0`
monitorer : Value → Process
monitorer v = rower 5 v int_zero false unlinked_links

-- process 1 at `recv,1` with an `after`
waiter : Process
waiter = rower 6 int_zero int_zero false unlinked_links

-- ---- P2: the sample of document 01, byte by byte

sample_plan_text : List ℕ
sample_plan_text =
    bytes "plan=1\nbehaviours=2\n"
    ++ bytes "code=3\nop=set,0,p2\nop=set,1,i12\nop=send,0,1\n"
    ++ bytes "code=2\nop=recv,1\nop=clause,int,0,1,2\n"
    ++ bytes "starts=2\nstart=1,1\nstart=2,2\n"

sample_steps : List ℕ
sample_steps = bytes "run=1\nrun=1\nrun=1\narrive=2,1\nrun=2\n"

sample_output : List ℕ
sample_output =
    bytes "accepted=5\nrefused=0\n"
    ++ bytes "process=1\nstage=live\nbehaviour=1\nplace=3\nr0=p2\nr1=i12\nr2=i0\nr3=i0\ntrap=0\nlinks=\nwatches=\nwatchers=\nmail=0\n"
    ++ bytes "process=2\nstage=live\nbehaviour=2\nplace=2\nr0=i12\nr1=i0\nr2=i0\nr3=i0\ntrap=0\nlinks=\nwatches=\nwatchers=\nmail=0\n"

abbrev sample_actions : List Action
sample_actions = run 1 ∷ run 1 ∷ run 1 ∷ arrive 2 1 ∷ run 2 ∷ []

-- ---- the table

pub table : List Check
table =
    -- P1 no steps: same node, 0 accepted
    idle
    -- P2 the listing of the sample
    ∷ printing sample_plan_text sample_steps sample_output
    -- P3 exit(a0,0), trap 0: from another dropped; from itself ends with a0
    ∷ arrival (plain false unlinked_links) 2 (Exit normal false) (plain false unlinked_links) []
    ∷ arrival (plain false unlinked_links) 1 (Exit normal false) (closed int_zero int_zero false unlinked_links normal) []
    -- P4 trap 1: exit(a1,0) ends with a2; exit(a1,1) from a link gives a note
    ∷ arrival (plain true link_two) 2 (Exit kill false) (closed int_zero int_zero true link_two killed) []
    ∷ arrival (plain true link_two) 2 (Exit kill true) (plain true unlinked_links) (Note (record { 0 = 2 }) kill ∷ [])
    -- P5 trap 0: exit(a1,1) from a link ends with a1, and the sender leaves the links
    ∷ arrival (plain false link_two) 2 (Exit kill true) (closed int_zero int_zero false unlinked_links kill) []
    -- P6 exit(a9,1), no link, trap 1: dropped
    ∷ arrival (plain true unlinked_links) 2 (Exit (Atom 9) true) (plain true unlinked_links) []
    -- P7 i2147483647 plus i1: a4; plus i0 stands
    ∷ running (rower 1 (int 2147483647) (int 1) false unlinked_links) (closed (int 2147483647) (int 1) false unlinked_links badarith)
    ∷ running (rower 1 (int 2147483647) (int 0) false unlinked_links) (with_place (rower 1 (int 2147483647) (int 0) false unlinked_links) 1)
    -- P8 mailbox 15 takes a msg; at 16: 24, while link is taken
    ∷ playing (world (plain false unlinked_links) (fives 15) 2 1 (Msg (int 5) ∷ [])) (arrive 1 2 ∷ []) 1 0 (world (plain false unlinked_links) (fives 16) 2 1 [])
    ∷ refusing (world (plain false unlinked_links) (fives 16) 2 1 (Msg (int 5) ∷ [])) (arrive 1 2) 24
    ∷ playing (world (plain false unlinked_links) (fives 16) 2 1 (Link ∷ [])) (arrive 1 2 ∷ []) 1 0 (world (plain false link_two) (fives 16) 2 1 [])
    -- P9 pair with 3 takes a send; with 4: 26
    ∷ playing (sender 0 3) (run 1 ∷ []) 1 0 (sender 1 4)
    ∷ refusing (sender 0 4) (run 1) 26
    -- P10 mail i5,a7, clauses atom, int: i5 leaves
    ∷ playing (world (rower 3 int_zero int_zero false unlinked_links) (Plain (int 5) ∷ Plain (Atom 7) ∷ []) 1 1 []) (run 1 ∷ []) 1 0
    (holding 1 (Plain (Atom 7)) (world (with_place (rower 3 (int 5) int_zero false unlinked_links) 3) (Plain (Atom 7) ∷ []) 1 1 []))
    -- spawn of itself: 27
    ∷ refusing (world spawner [] 1 1 []) (run 1) 27
    -- closing without links, run twice: gone, then 22
    ∷ playing (world (closed int_zero int_zero false unlinked_links normal) [] 1 1 []) (run 1 ∷ run 1 ∷ []) 1 22 (world over [] 1 1 [])
    -- closing with the links 2 and 3: exit(a9,1) is sent to 2, and 3 stays
    ∷ playing (world (closed int_zero int_zero false link_two_three (Atom 9)) [] 1 2 []) (run 1 ∷ []) 1 0 (world (closed int_zero int_zero false link_three (Atom 9)) [] 1 2 (Exit (Atom 9) true ∷ []))
    -- trap 0: exit(a0,1) from a link is dropped and the link is gone; by exit(a0,0) the link stays
    ∷ arrival (plain false link_two) 2 (Exit normal true) (plain false unlinked_links) []
    ∷ arrival (plain false link_two) 2 (Exit normal false) (plain false link_two) []
    -- trap 0: exit(a9,1) from one of two links ends with the other only; exit(a9,0) from a link ends with the link
    ∷ arrival (plain false link_two_three) 2 (Exit (Atom 9) true) (closed int_zero int_zero false link_three (Atom 9)) []
    ∷ arrival (plain false link_two) 2 (Exit (Atom 9) false) (closed int_zero int_zero false link_two (Atom 9)) []
    -- ended by its only link, and run: gone
    ∷ playing (world (plain false link_two) [] 2 1 (Exit (Atom 9) true ∷ [])) (arrive 1 2 ∷ run 1 ∷ []) 2 0 (world (gone (closed int_zero int_zero false unlinked_links (Atom 9))) [] 1 1 [])
    -- a monitor at a live process: its sender becomes a watcher
    ∷ arrival (plain false unlinked_links) 2 Monitor (with_watchers (plain false unlinked_links) link_two) []
    -- a down from a process that is watched joins, and the watch is over; from another it is dropped
    ∷ arrival watcher 2 (Down (Atom 9)) (plain false unlinked_links) (DownMessage (record { 0 = 2 }) (Atom 9) ∷ [])
    ∷ arrival (plain false unlinked_links) 2 (Down (Atom 9)) (plain false unlinked_links) []
    -- the same at 16 messages: 24, and dropped
    ∷ refusing (world watcher (fives 16) 2 1 (Down (Atom 9) ∷ [])) (arrive 1 2) 24
    ∷ playing (world (plain false unlinked_links) (fives 16) 2 1 (Down (Atom 9) ∷ [])) (arrive 1 2 ∷ []) 1 0 (world (plain false unlinked_links) (fives 16) 2 1 [])
    -- a monitor at a gone process is answered with down(a5); with 4 signals in flight back: 26
    ∷ playing (world over [] 2 1 (Monitor ∷ [])) (arrive 1 2 ∷ []) 1 0 (world over [] 1 2 (Down noproc ∷ []))
    ∷ refusing (flying 1 2 (replicate 4 (Msg (int 7))) (world over [] 2 1 (Monitor ∷ []))) (arrive 1 2) 26
    -- closing with the link 2 and the watcher 3: exit(a0,1), then down(a0), then gone
    ∷ playing (world (with_watchers (closed int_zero int_zero false link_two normal) link_three) [] 1 1 []) (run 1 ∷ run 1 ∷ run 1 ∷ []) 3 0
    (flying 1 3 (Down normal ∷ []) (world over [] 1 2 (Exit normal true ∷ [])))
    -- monitor to itself: nothing; without a p: ends with a3
    ∷ running (monitorer (pid 1)) (with_place (monitorer (pid 1)) 1)
    ∷ running (monitorer (int 7)) (ended (monitorer (int 7)) badarg)
    -- a timeout at a recv with `after`: with empty mail, and with mail that does not fit
    ∷ playing (world waiter [] 1 1 []) (timeout 1 ∷ []) 1 0 (world (with_place waiter 3) [] 1 1 [])
    ∷ playing (world waiter (fives 16) 1 1 []) (timeout 1 ∷ []) 1 0 (world (with_place waiter 3) (fives 16) 1 1 [])
    -- with mail that fits, at a recv without `after`, of a gone process: 28
    ∷ refusing (world waiter (Plain (int 5) ∷ Plain (Atom 7) ∷ []) 1 1 []) (timeout 1) 28
    ∷ refusing (world (rower 3 int_zero int_zero false unlinked_links) [] 1 1 []) (timeout 1) 28
    ∷ refusing (world over [] 1 1 []) (timeout 1) 28
    -- a recv with no mail: 25; with a value that does not fit, 1 or 16 times, a note, a down: 29
    ∷ refusing (world waiter [] 1 1 []) (run 1) 25
    ∷ refusing (world waiter (fives 1) 1 1 []) (run 1) 29
    ∷ refusing (world waiter (fives 16) 1 1 []) (run 1) 29
    ∷ refusing (world waiter (Note (record { 0 = 2 }) kill ∷ []) 1 1 []) (run 1) 29
    ∷ refusing (world waiter (DownMessage (record { 0 = 2 }) (Atom 9) ∷ []) 1 1 []) (run 1) 29
    -- with a7, which fits, behind i5, which does not: a7 leaves
    ∷ playing (world waiter (Plain (int 5) ∷ Plain (Atom 7) ∷ []) 1 1 []) (run 1 ∷ []) 1 0
    (holding 1 (Plain (Atom 7)) (world (with_place (rower 6 (Atom 7) int_zero false unlinked_links) 3) (fives 1) 1 1 []))
    -- clauses consulted: atom, int for i5,a7 of P10; int, a3 and int, int for a7; int, any for a7
    ∷ consulting (takes atom_kind int_zero ∷ takes int_kind int_zero ∷ []) (Plain (int 5) ∷ Plain (Atom 7) ∷ []) 2
    ∷ consulting (takes int_kind int_zero ∷ takes exact_kind (Atom 3) ∷ []) (Plain (Atom 7) ∷ []) 2
    ∷ consulting (takes int_kind int_zero ∷ takes int_kind int_zero ∷ []) (Plain (Atom 7) ∷ []) 0
    ∷ consulting (takes int_kind int_zero ∷ takes any_kind int_zero ∷ []) (Plain (Atom 7) ∷ []) 2
    -- the sample plan, after run=1 three times, arrive=2,1, run=2
    ∷ playing started sample_actions 5 0
    (holding 16 (Plain (int 12)) (sample (with_place (rower 1 (pid 2) (int 12) false unlinked_links) 3) (with_place (rower 2 (int 12) int_zero false unlinked_links) 2)))
    ∷ []

-- ---- its rows hold

node_started : node_of sample_plan ≡ started
unfolding node_of sample_plan op_with start_with started sample op_of
node_started = refl

sample_loaded : load_of sample_plan_text ≡ record { number = 0; line = 0; node = started }
unfolding sample_plan_text
sample_loaded = loaded-sample ∙ ap (λ (n : Node). record { number = 0; line = 0; node = n }) node_started

sample_read : ((schedule_of sample_steps).number ≡ 0) × (steps (schedule_of sample_steps) ≡ sample_actions)
unfolding sample_steps action_of decode meaning schedule_of of_lines read_lines first_malformed steps_of refused_text accepted_steps step_of own_of arrival_of packed_of encode lines_of last_apart line_then split in_front fields_of equal starts_with number_of number_form unsigned_form unsigned negative is_digit number_value decimal ranged_of
sample_read = (refl, refl)

sample_count : ((play started sample_actions).accepted ≡ 5) × ((play started sample_actions).refusal ≡ 0)
unfolding sample started op_of play played step rule ready commit incoming decide numbered owner_born signal_waits pair_has_room number_free sound shaped view_sound view behaviours_of code set_of has bits_of standing running_sound row_sound receives fits runs runs_live runs_op arrives operand instruction operand_in_range in_range has_clauses targets_free well_placed code_sound is_number fits_int messages signals changed joined left popped register with_register moved advanced links_to kinds_of
sample_count = (refl, refl)

-- what is printed of a play whose count, refusal and listing are known
shown_as : (r : Outcome) (text : List ℕ) → r.accepted ≡ 5 → r.refusal ≡ 0 → listing_of r.node ≡ text → played_text r ≡ bytes "accepted=5\nrefused=0\n" ++ text
unfolding played_text number_line digits digits_in
shown_as r text a b c = rw (a, b, c)

sample_program : program_text sample_plan_text sample_steps ≡ sample_output
unfolding program_text after_load sample_output
sample_program =
    let read = sample_read in
    let count = sample_count in
    rw (sample_loaded, read.0, read.1) (shown_as (play started sample_actions) _ count.0 count.1 sample_listing)

no_steps : (n : Node) → Sound n → play n [] ≡ record { accepted = 0; refusal = 0; node = n }
unfolding play played
no_steps n h = rw h

pub ramp : All table
unfolding All Holds table takes can_take arrival running refusing plain rower closed over world holding fives sender spawner watcher monitorer waiter flying unlinked_links link_two link_three link_two_three sample started ramp_ops op_of play played step rule ready commit incoming decide numbered owner_born signal_waits pair_has_room number_free sound shaped view_sound view behaviours_of code set_of has bits_of standing running_sound row_sound receives fits runs runs_live runs_op closes expires expires_live at_after arrives exits downs operand instruction operand_in_range in_range has_clauses targets_free well_placed code_sound is_number fits_int same_value messages signals changed joined left popped emptied register with_register moved advanced trapped links_to linked unlinked watches_over watching unwatching watched unwatched with_peer without_peer lowest_peer ended gone kinds_of
ramp =
    let last : All (drop 35 table) = (refl, (refl, (refl, (refl, (refl, (refl, (refl, (refl, (refl, (refl, (refl, (refl, (refl, (refl, (refl, tt))))))))))))))) in
    let others : All (drop 16 table) = (refl, (refl, (refl, (refl, (refl, (refl, (refl, (refl, (refl, (refl, (refl, (refl, (refl, (refl, (refl, (refl, (refl, (refl, (refl, last))))))))))))))))))) in
    (no_steps, (sample_program, (refl, (refl, (refl, (refl, (refl, (refl, (refl, (refl, (refl, (refl, (refl, (refl, (refl, (refl, others))))))))))))))))
