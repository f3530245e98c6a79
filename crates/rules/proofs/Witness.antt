-- That the guarantees speak of something: the sample node is sound, lists of steps on it that differ and end alike, a step that is refused
-- with 25 and one with 29, what is suggested while process 1 can step and once it is gone, and a search that consults 128 clauses, computed. Assumes
-- nothing.
use mathlib.Core.Bool.{false}
use mathlib.Core.List.{List, [], ◌∷◌, map}
use mathlib.Core.Option.{some}
use mathlib.Core.Path.{◌≡◌, refl, sym, ◌∙◌, ap}
use Prim.Native.Nat.{ℕ}
use lib.ListN.{length, set, replicate}
use Rattle.node.specs.declared.Message.TheVariants.{Plain}
use Rattle.node.specs.declared.Node.{Node}
use Rattle.node.specs.declared.Process.{Process}
use Rattle.node.specs.declared.Slot.{Slot}
use Rattle.node.specs.declared.Stage.TheVariants.{Closing}
use Rattle.node.specs.declared.Value.{Value}
use Rattle.node.specs.Blocks.{changed, joined, left, popped, emptied}
use Rattle.node.specs.Mailboxes.{no_message, slot_of, messages}
use Rattle.node.specs.Ops.{kinds_of}
use Rattle.node.specs.Processes.{register, with_register, moved, advanced, trapped, links_to, linked, unlinked, ended, gone}
use Rattle.node.specs.Rows.{signals, oldest}
use Rattle.node.specs.Sets.{no_peers, bits_of, has, with_peer, without_peer, lowest_peer}
use Rattle.node.specs.Values.{exact_kind, int_zero, normal, pid, is_number, fits_int, same_value}
use Rattle.rules.specs.Answers.{refused, done, mailbox_empty, no_fit}
use Rattle.rules.specs.Arrive.{arrives, exits}
use Rattle.rules.specs.Behaviours.{operand, instruction, operand_in_range, in_range, has_clauses, targets_free, well_placed, code_sound}
use Rattle.rules.specs.Calls.{Call, single, schedule, call_node, call_steps, after, accepted}
use Rattle.rules.specs.Consult.{can_take, consulted}
use Rattle.rules.specs.Nodes.{Sound, sound, shaped, view_sound, view, behaviours_of, code, set_of, standing, running_sound, row_sound}
use Rattle.rules.specs.Receive.{receives, fits}
use Rattle.rules.specs.Run.{runs, runs_live, runs_op, closes}
use Rattle.rules.specs.Steps.{run, arrive, play, played, step, rule, ready, commit, incoming, decide, numbered, owner_born, signal_waits, pair_has_room, number_free}
use Rattle.rules.specs.Suggest.{possible, acceptable, suggest}
use Rattle.rules.specs.Timeout.{expires}
use Rattle.rules.specs.Traces.{owned}
use Rattle.rules.proofs.Sample.{op_of, int, sample, started}

pub started_sound : Sound started
unfolding started sample op_of sound shaped view_sound view behaviours_of code set_of has bits_of standing running_sound row_sound operand instruction operand_in_range in_range has_clauses targets_free well_placed code_sound is_number fits_int messages signals links_to kinds_of
started_sound = refl

-- two orders of one set of steps: process 1 ends before or after process 2 receives
pub early : List Call
early = map single (run 1 ∷ run 1 ∷ run 1 ∷ run 1 ∷ arrive 2 1 ∷ run 2 ∷ run 2 ∷ [])

pub late : List Call
late = map single (run 1 ∷ run 1 ∷ run 1 ∷ arrive 2 1 ∷ run 2 ∷ run 2 ∷ run 1 ∷ [])

-- the same with refused steps and a play: run 2 is refused with 25 while it has no mail, run 3 with 21, arrive 1 from 2 with 23;
-- the play stops at its fifth step, since process 2 has no mail, and a step of process 1 that it did not reach follows later
pub mixed : List Call
mixed = single (run 2) ∷ single (run 3) ∷ schedule (run 1 ∷ run 1 ∷ run 1 ∷ run 1 ∷ run 2 ∷ arrive 2 1 ∷ []) ∷ single (arrive 1 2) ∷ single (arrive 2 1) ∷ schedule (run 2 ∷ run 2 ∷ []) ∷ []

-- both processes have ended with a0, and are closing
stands : ℕ → ℕ → Value → Value → Process
stands b t v w = record {
  stage = Closing;
  behaviour = record { 0 = b };
  place = t;
  r0 = v;
  r1 = w;
  r2 = int_zero;
  r3 = int_zero;
  trap = false;
  links = no_peers;
  watches = no_peers;
  watchers = no_peers;
  reason = normal;
}

with_mail : Node → List ℕ → List Slot → Node
with_mail n waiting slots = record { count = n.count; lens = n.lens; ops = n.ops; processes = n.processes; waiting = waiting; slots = slots; counts = n.counts; cells = n.cells }

-- the message that was received stays behind in the slot where it stood, and is not counted
finish : Node
finish = with_mail (sample (stands 1 3 (pid 2) (int 12)) (stands 2 2 (int 12) int_zero)) (replicate 16 0) (set (replicate 256 no_message) 16 (slot_of (Plain (int 12))))

early_end : after started early ≡ finish
unfolding early late mixed finish with_mail stands after accepted call_node call_steps owned started sample op_of play played step rule ready commit incoming decide numbered owner_born signal_waits pair_has_room number_free sound shaped view_sound view behaviours_of code set_of has bits_of standing running_sound row_sound receives fits runs runs_live runs_op closes arrives exits operand instruction operand_in_range in_range has_clauses targets_free well_placed code_sound is_number fits_int messages changed joined left popped emptied signals oldest register with_register moved advanced trapped links_to linked unlinked with_peer without_peer lowest_peer ended gone kinds_of
early_end = refl

late_end : after started late ≡ finish
unfolding early late mixed finish with_mail stands after accepted call_node call_steps owned started sample op_of play played step rule ready commit incoming decide numbered owner_born signal_waits pair_has_room number_free sound shaped view_sound view behaviours_of code set_of has bits_of standing running_sound row_sound receives fits runs runs_live runs_op closes arrives exits operand instruction operand_in_range in_range has_clauses targets_free well_placed code_sound is_number fits_int messages changed joined left popped emptied signals oldest register with_register moved advanced trapped links_to linked unlinked with_peer without_peer lowest_peer ended gone kinds_of
late_end = refl

mixed_end : after started mixed ≡ finish
unfolding early late mixed finish with_mail stands after accepted call_node call_steps owned started sample op_of play played step rule ready commit incoming decide numbered owner_born signal_waits pair_has_room number_free sound shaped view_sound view behaviours_of code set_of has bits_of standing running_sound row_sound receives fits runs runs_live runs_op closes arrives exits operand instruction operand_in_range in_range has_clauses targets_free well_placed code_sound is_number fits_int messages changed joined left popped emptied signals oldest register with_register moved advanced trapped links_to linked unlinked with_peer without_peer lowest_peer ended gone kinds_of
mixed_end = refl

pub early_steps : accepted started early ≡ run 1 ∷ run 1 ∷ run 1 ∷ run 1 ∷ arrive 2 1 ∷ run 2 ∷ run 2 ∷ []
unfolding early late mixed finish with_mail stands after accepted call_node call_steps owned started sample op_of play played step rule ready commit incoming decide numbered owner_born signal_waits pair_has_room number_free sound shaped view_sound view behaviours_of code set_of has bits_of standing running_sound row_sound receives fits runs runs_live runs_op closes arrives exits operand instruction operand_in_range in_range has_clauses targets_free well_placed code_sound is_number fits_int messages changed joined left popped emptied signals oldest register with_register moved advanced trapped links_to linked unlinked with_peer without_peer lowest_peer ended gone kinds_of
early_steps = refl

pub late_steps : accepted started late ≡ run 1 ∷ run 1 ∷ run 1 ∷ arrive 2 1 ∷ run 2 ∷ run 2 ∷ run 1 ∷ []
unfolding early late mixed finish with_mail stands after accepted call_node call_steps owned started sample op_of play played step rule ready commit incoming decide numbered owner_born signal_waits pair_has_room number_free sound shaped view_sound view behaviours_of code set_of has bits_of standing running_sound row_sound receives fits runs runs_live runs_op closes arrives exits operand instruction operand_in_range in_range has_clauses targets_free well_placed code_sound is_number fits_int messages changed joined left popped emptied signals oldest register with_register moved advanced trapped links_to linked unlinked with_peer without_peer lowest_peer ended gone kinds_of
late_steps = refl

pub mixed_steps : accepted started mixed ≡ run 1 ∷ run 1 ∷ run 1 ∷ run 1 ∷ arrive 2 1 ∷ run 2 ∷ run 2 ∷ []
unfolding early late mixed finish with_mail stands after accepted call_node call_steps owned started sample op_of play played step rule ready commit incoming decide numbered owner_born signal_waits pair_has_room number_free sound shaped view_sound view behaviours_of code set_of has bits_of standing running_sound row_sound receives fits runs runs_live runs_op closes arrives exits operand instruction operand_in_range in_range has_clauses targets_free well_placed code_sound is_number fits_int messages changed joined left popped emptied signals oldest register with_register moved advanced trapped links_to linked unlinked with_peer without_peer lowest_peer ended gone kinds_of
mixed_steps = refl

-- different orders, equal ends
pub early_late : after started early ≡ after started late
early_late = early_end ∙ sym late_end

-- refused steps in one list and none in the other, and equal ends
pub early_mixed : (after started early ≡ after started mixed) × (length (accepted started mixed) ≡ 7)
early_mixed = (early_end ∙ sym mixed_end, ap length mixed_steps)

-- process 2 has no mail where it waits for an integer
pub hears_nothing : step started (run 2) ≡ refused mailbox_empty
unfolding started sample op_of step rule ready decide numbered owner_born signal_waits sound shaped view_sound view behaviours_of code set_of has bits_of standing running_sound row_sound receives fits runs runs_live runs_op operand instruction operand_in_range in_range has_clauses targets_free well_placed code_sound is_number fits_int messages signals links_to kinds_of
hears_nothing = refl

-- a process number has come to it instead
pub puzzled : Node
puzzled = with_mail started (set (replicate 16 0) 1 1) (set (replicate 256 no_message) 16 (slot_of (Plain (pid 1))))

pub hears_wrong : step puzzled (run 2) ≡ refused no_fit
unfolding puzzled with_mail started sample op_of step rule ready decide numbered owner_born signal_waits sound shaped view_sound view behaviours_of code set_of has bits_of standing running_sound row_sound receives fits runs runs_live runs_op operand instruction operand_in_range in_range has_clauses targets_free well_placed code_sound is_number fits_int messages signals links_to kinds_of
hears_wrong = refl

-- at the start process 1 runs
pub offers_first : suggest started ≡ done (some (run 1))
unfolding suggest possible acceptable started sample op_of step rule ready decide numbered owner_born signal_waits pair_has_room number_free sound shaped view_sound view behaviours_of code set_of has bits_of standing running_sound row_sound receives fits runs runs_live runs_op operand instruction operand_in_range in_range has_clauses targets_free well_placed code_sound is_number fits_int messages signals links_to kinds_of
offers_first = refl

-- behind its last op it has still to end, and comes before process 2, which has a message
pub offers_ending : suggest (play started (run 1 ∷ run 1 ∷ run 1 ∷ arrive 2 1 ∷ [])).node ≡ done (some (run 1))
unfolding suggest possible acceptable started sample op_of play played step rule ready commit incoming decide numbered owner_born signal_waits pair_has_room number_free sound shaped view_sound view behaviours_of code set_of has bits_of standing running_sound row_sound receives fits runs runs_live runs_op closes arrives exits expires operand instruction operand_in_range in_range has_clauses targets_free well_placed code_sound is_number fits_int messages changed joined left popped emptied signals oldest register with_register moved advanced trapped links_to linked unlinked with_peer without_peer lowest_peer ended gone kinds_of
offers_ending = refl

-- it has ended and is gone: of the 18 steps of process 1 none is left
pub offers_second : suggest (play started (run 1 ∷ run 1 ∷ run 1 ∷ arrive 2 1 ∷ run 1 ∷ run 1 ∷ [])).node ≡ done (some (run 2))
unfolding suggest possible acceptable started sample op_of play played step rule ready commit incoming decide numbered owner_born signal_waits pair_has_room number_free sound shaped view_sound view behaviours_of code set_of has bits_of standing running_sound row_sound receives fits runs runs_live runs_op closes arrives exits expires operand instruction operand_in_range in_range has_clauses targets_free well_placed code_sound is_number fits_int messages changed joined left popped emptied signals oldest register with_register moved advanced trapped links_to linked unlinked with_peer without_peer lowest_peer ended gone kinds_of
offers_second = refl

-- sixteen messages i1 and eight clauses i0: each clause is consulted for each message, in vain
pub consults_all : consulted (replicate 8 (op_of 11 0 1 0 exact_kind int_zero)) (replicate 16 (Plain (int 1))) ≡ 128
unfolding can_take fits op_of same_value
consults_all = refl
