-- The node: processes in their stages, signals in flight, soundness and equality (document 01, "The node").
--   code n b       the ops of behaviour b
--   process n i    process i;  mailbox n i  its messages, in order of arrival;  row n j i  the signals in flight from j to i, in order of sending
--   Standing       a process in one of the four stages, with what that stage holds
--   View           document 01's node: behaviours, processes and rows in flight, with nothing that a record only keeps room for
--   view n         what the record n holds
--   Equal n m      equal nodes
--   shaped n       the arrays of n are as long as their types say
--   sound n        "A node is sound when"; Sound n is its proposition
use Rattle.std.specs.Prelude.{Bool, true, ◌&&◌, not, List, [], ◌∷◌, map, ◌≡◌, ℕ, ◌-◌, ◌*◌, leb, eqb, length, get_or, drop}
use Rattle.std.proofs.Math.Bool.{So}
use Rattle.node.specs.declared.Message.{Message}
use Rattle.node.specs.declared.Node.{Node}
use Rattle.node.specs.declared.Op.{Op}
use Rattle.node.specs.declared.Peers.{Peers}
use Rattle.node.specs.declared.Process.{Process}
use Rattle.node.specs.declared.Signal.{Signal}
use Rattle.node.specs.declared.Signal.TheVariants.{Msg, Exit, Link, Unlink, Monitor, Demonitor, Down}
use Rattle.node.specs.declared.Stage.{Stage}
use Rattle.node.specs.declared.Stage.TheVariants.{Unborn, Live, Closing, Gone}
use Rattle.node.specs.declared.Value.{Value}
use Rattle.node.specs.Blocks.{block_of}
use Rattle.node.specs.Lists.{firsts, rising, all_from, all_of}
use Rattle.node.specs.Mailboxes.{messages}
use Rattle.node.specs.Nodes.{no_op, no_process, pair, mail_shelf, flight_shelf}
use Rattle.node.specs.Rows.{signals}
use Rattle.node.specs.Sets.{has}
use Rattle.rules.specs.Behaviours.{Instruction, instruction, on_part, code_sound}
use Rattle.node.specs.Values.{numbers, is_number, value_sound, message_sound}

-- ---- where the parts of a node stand

unfoldable pub code : Node → ℕ → List Op
code n b = firsts no_op (get_or n.lens (b - 1) 0) (drop (32 * (b - 1)) n.ops)

abbrev pub process : Node → ℕ → Process
process n i = get_or n.processes (i - 1) no_process

abbrev pub mailbox : Node → ℕ → List Message
mailbox n i = messages (block_of 16 (i - 1) (mail_shelf n))

abbrev pub row : Node → ℕ → ℕ → List Signal
row n j i = signals (block_of 4 (pair j i) (flight_shelf n))

-- ---- the node that a record holds

-- a set of processes, as the test of its members
unfoldable pub set_of : Peers → ℕ → Bool
set_of s j = is_number j && has s j

-- "live: behaviour number, place (program counter), registers r0 to r3, trap flag, link set, mailbox", and the sets of those that it watches
-- (monitors) and of its watchers
pub record Running : Type 0 where
  pub behaviour : ℕ
  pub place : ℕ
  pub registers : List Value
  pub trap : Bool
  pub links : ℕ → Bool
  pub watches : ℕ → Bool
  pub watchers : ℕ → Bool
  pub mail : List Message

-- closing (an exiting process): "reason and link set", and its watchers; unborn and gone hold nothing
pub data Standing : Type 0 where
  unborn : Standing
  live : Running → Standing
  closing : Value → (ℕ → Bool) → (ℕ → Bool) → Standing
  gone : Standing

abbrev pub running : Process → List Message → Running
running p m = record {
  behaviour = p.behaviour.0;
  place = p.place;
  registers = p.r0 ∷ p.r1 ∷ p.r2 ∷ p.r3 ∷ [];
  trap = p.trap;
  links = set_of p.links;
  watches = set_of p.watches;
  watchers = set_of p.watchers;
  mail = m;
}

abbrev pub standing_in : Stage → Process → List Message → Standing
standing_in Unborn p m = unborn
standing_in Live p m = live (running p m)
standing_in Closing p m = closing p.reason (set_of p.links) (set_of p.watchers)
standing_in Gone p m = gone

unfoldable pub standing : Process → List Message → Standing
standing p m = standing_in p.stage p m

pub record View : Type 0 where
  pub behaviours : List (List Instruction)
  pub processes : List Standing
  -- of each process, the signals that it has in flight to each process
  pub flight : List (List (List Signal))

unfoldable pub behaviours_of : Node → List (List Instruction)
behaviours_of n = map (λ b. map instruction (code n b)) (rising 1 n.count)

unfoldable pub view : Node → View
view n = record {
  behaviours = behaviours_of n;
  processes = map (λ i. standing (process n i) (mailbox n i)) numbers;
  flight = map (λ j. map (row n j) numbers) numbers;
}

-- "Equal nodes have equal behaviours, stages, contents of each stage (link sets as sets) and in-flight rows"
abbrev pub Equal : Node → Node → Type 0
Equal n m = view n ≡ view m

-- ---- soundness (well-formedness)

-- "every behaviour number is one that the node has, no place is on a clause"; the mailbox has at most 16 messages
unfoldable pub running_sound : List (List Instruction) → Running → Bool
running_sound codes r =
    leb 1 r.behaviour && leb r.behaviour (length codes)
    && leb r.place (length (get_or codes (r.behaviour - 1) []))
    && not (on_part (get_or codes (r.behaviour - 1) []) r.place)
    && all_of value_sound r.registers
    && leb (length r.mail) 16 && all_of message_sound r.mail

-- "no process links itself", and none is in either of its own sets of watches and watchers
abbrev pub standing_sound : List (List Instruction) → ℕ → Standing → Bool
standing_sound codes i unborn = true
standing_sound codes i (live r) = running_sound codes r && not (r.links i) && not (r.watches i) && not (r.watchers i)
standing_sound codes i (closing v links watchers) = value_sound v && not (links i) && not (watchers i)
standing_sound codes i gone = true

-- "no process .. has a link or unlink in flight to itself", and no monitor or demonitor
abbrev pub signal_sound : ℕ → ℕ → Signal → Bool
signal_sound j i (Msg v) = value_sound v
signal_sound j i (Exit v b) = value_sound v
signal_sound j i Link = not (eqb j i)
signal_sound j i Unlink = not (eqb j i)
signal_sound j i Monitor = not (eqb j i)
signal_sound j i Demonitor = not (eqb j i)
signal_sound j i (Down v) = value_sound v

-- "For each ordered pair (from, to), itself included, at most 4 signals are in flight"
unfoldable pub row_sound : ℕ → ℕ → List Signal → Bool
row_sound j i r = leb (length r) 4 && all_of (signal_sound j i) r

unfoldable pub view_sound : View → Bool
view_sound v =
    leb 1 (length v.behaviours) && leb (length v.behaviours) 8
    && all_of (code_sound (length v.behaviours)) v.behaviours
    && all_from (standing_sound v.behaviours) 1 v.processes
    && all_from (λ j rows. all_from (row_sound j) 1 rows) 1 v.flight

-- A record of this logic holds lists of any length, and an array of the code has as many elements as its type says: so no code tests
-- this (crate `soundness` proves it of every node that it is given), and no node of the code is not sound for it.
unfoldable pub shaped : Node → Bool
shaped n =
    eqb (length n.lens) 8
    && eqb (length n.ops) 256
    && eqb (length n.processes) 16
    && eqb (length n.waiting) 16 && eqb (length n.slots) 256
    && eqb (length n.counts) 256 && eqb (length n.cells) 1024

unfoldable pub sound : Node → Bool
sound n = view_sound (view n) && shaped n

abbrev pub Sound : Node → Type 0
Sound n = So (sound n)
