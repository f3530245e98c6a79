-- The guarantees on these rules. Each is proved in proofs/Order.antt, those of M-102, M-104, M-105 and M-106 in proofs/Expiry.antt,
-- proofs/Waiting.antt, proofs/Suggest.antt and proofs/Consult.antt, under the name beside it; proofs/Consequences.antt draws from each what a weaker
-- statement would not give.
--   Order        order         demand 3: lists in which each process has the same accepted steps in the same order end in equal nodes
--   SoundKept    sound_kept    an accepted step and a play of a sound node leave a sound node
--   PlayIsSteps  play_is_steps a play of a sound node is its steps one after another, up to the first refusal
--   Exclusive    exclusive     "then the rest, of which no two can meet"
--   Forward      forward       stages only go forward: unborn, live, closing, gone
--   Timeouts     timeouts      M-102: a timeout is accepted exactly where its owner may give up; else it is 20, 21 or 28, each exactly
--   Quiet        quiet         M-104: 25 is told exactly of a run of a live process at a recv whose mailbox is empty
--   Confused     confused      M-104: 29 is told exactly of a run of a live process at a recv whose mailbox has messages, of which none fits
--   InTurn       in_turn_lem       M-105: the possible steps are 288, each once, in the order of the request
--   FirstOnOffer first_on_offer M-105: a step is suggested exactly where it would be accepted and every earlier one refused
--   NoneOnOffer  none_on_offer M-105: none is suggested on a sound node exactly where every step would be refused
--   SameFit      same_fit      M-106: the search that leaves out messages of other kinds finds what document 01's does
--   FewConsulted few_consulted M-106: at most each clause once for each message
use Rattle.std.specs.Prelude.{Bool, true, false, not, ◌&&◌, List, [], ◌∷◌, ◌⊎◌, ◌≡◌, ℕ, ◌+◌, ◌-◌, ◌*◌, ◌≤◌, ◌<◌, eqb, length, set, take, drop}
use Rattle.std.proofs.Math.Bool.{So}
use Rattle.std.proofs.Math.Option.{none, some}
use Rattle.node.specs.declared.Message.{Message}
use Rattle.node.specs.declared.Node.{Node}
use Rattle.node.specs.declared.Op.{Op}
use Rattle.node.specs.declared.Stage.{Stage}
use Rattle.node.specs.declared.Stage.TheVariants.{Unborn, Live, Closing, Gone}
use Rattle.node.specs.Processes.{moved}
use Rattle.node.specs.Values.{is_number}
use Rattle.rules.specs.Answers.{Answer, refused, done, need, bad_number, owner_unborn, mailbox_empty, pair_full, not_unborn, no_timeout, no_fit}
use Rattle.rules.specs.Calls.{Call, after, accepted_by}
use Rattle.rules.specs.Consult.{by_kind, consulted, ops_of, clauses_of, at_recv}
use Rattle.rules.specs.Effects.{Effect}
use Rattle.rules.specs.Nodes.{Sound, code, process, mailbox}
use Rattle.rules.specs.Receive.{search}
use Rattle.rules.specs.Steps.{Action, run, arrive, timeout, owner, is_unborn, numbered, signal_waits, pair_has_room, number_free, decide, step, play}
use Rattle.rules.specs.Suggest.{possible, at_turn, acceptable, suggest}
use Rattle.rules.specs.Timeout.{behind_clauses, at_after, is_live, none_fits}
use Rattle.rules.specs.Traces.{Runs}

-- For every sound node and every two lists of calls, single steps or plays, refused steps included: where each process 1 to 16 has the same
-- accepted steps in the same order, the nodes after them are one and the same record, hence equal nodes.
abbrev pub Order : Type 0
Order =
    (n : Node) → Sound n → (a b : List Call) →
    ((i : ℕ) → 1 ≤ i → i ≤ 16 → accepted_by i n a ≡ accepted_by i n b) →
    after n a ≡ after n b

abbrev pub SoundKept : Type 0
SoundKept = ((n m : Node) (a : Action) → step n a ≡ done m → Sound m) × ((n : Node) (l : List Action) → Sound n → Sound (play n l).node)

-- the next step of a play that stopped, if there is one, is refused with the number that the play answers
abbrev pub Stopped : Node → List Action → ℕ → Type 0
Stopped n [] k = k ≡ 0
Stopped n (a ∷ l) k = step n a ≡ refused k

abbrev pub PlayIsSteps : Type 0
PlayIsSteps =
    (n : Node) (l : List Action) → Sound n → length l ≤ 4096 →
    ((play n l).accepted ≤ length l) ×
    Runs step n (take (play n l).accepted l) (play n l).node ×
    Stopped (play n l).node (drop (play n l).accepted l) (play n l).refusal

-- why a step that passes 20, 21 and 23 is refused: the decision says so (22, 24, 25, 28, 29), or 26, or 27
pub data Cause (n : Node) (a : Action) : ℕ → Type 0 where
  undecided : {k : ℕ} → decide n a ≡ refused k → Cause n a k
  full : {e : Effect} → decide n a ≡ done e → pair_has_room n (owner a) e.sent ≡ false → Cause n a pair_full
  taken : {e : Effect} → decide n a ≡ done e → number_free n e.born ≡ false → Cause n a not_unborn

abbrev pub Exclusive : Type 0
Exclusive = (n : Node) (a : Action) → Sound n → So (numbered a) → So (signal_waits n a) → (k l : ℕ) → Cause n a k → Cause n a l → k ≡ l

abbrev pub rank : Stage → ℕ
rank Unborn = 0
rank Live = 1
rank Closing = 2
rank Gone = 3

abbrev pub Forward : Type 0
Forward = (n m : Node) (a : Action) → step n a ≡ done m → (i : ℕ) → rank (process n i).stage ≤ rank (process m i).stage

-- "a live process at such a recv .. if no message fits"
abbrev pub may_expire : Node → ℕ → Bool
may_expire n i = is_live (process n i).stage && at_after (ops_of n i) (process n i).place && none_fits (clauses_of n i) (mailbox n i)

-- the place becomes the target of the `after`; "Nothing else changes"
abbrev pub expired_node : Node → ℕ → Node
expired_node n i =
    let p = process n i in
    record {
      count = n.count;
      lens = n.lens;
      ops = n.ops;
      processes = set n.processes (i - 1) (moved p (behind_clauses (code n p.behaviour.0) p.place).target);
      waiting = n.waiting;
      slots = n.slots;
      counts = n.counts;
      cells = n.cells;
    }

abbrev pub Timeouts : Type 0
Timeouts =
    (n : Node) (i : ℕ) → Sound n →
    step n (timeout i)
    ≡ need (is_number i) bad_number
    (need (not (is_unborn (process n i).stage)) owner_unborn
    (need (may_expire n i) no_timeout
    (done (expired_node n i))))

-- answer a is refusal k
abbrev pub is_refusal : ℕ → Answer Node → Bool
is_refusal k (refused m) = eqb m k
is_refusal k (done n) = false

abbrev pub is_empty : List Message → Bool
is_empty [] = true
is_empty (m ∷ ms) = false

-- "25 keeps the empty mailbox"
abbrev pub meets_silence : Node → Action → Bool
meets_silence n (run i) = at_recv n i && is_empty (mailbox n i)
meets_silence n (arrive i j) = false
meets_silence n (timeout i) = false

-- "29 .. when the mailbox has messages and none fits"
abbrev pub meets_unfit : Node → Action → Bool
meets_unfit n (run i) = at_recv n i && not (is_empty (mailbox n i)) && none_fits (clauses_of n i) (mailbox n i)
meets_unfit n (arrive i j) = false
meets_unfit n (timeout i) = false

abbrev pub Quiet : Type 0
Quiet = (n : Node) (a : Action) → Sound n → is_refusal mailbox_empty (step n a) ≡ meets_silence n a

abbrev pub Confused : Type 0
Confused = (n : Node) (a : Action) → Sound n → is_refusal no_fit (step n a) ≡ meets_unfit n a

-- where a step stands among the 18 of its owner
abbrev pub among_own : Action → ℕ
among_own (run i) = 0
among_own (timeout i) = 1
among_own (arrive i j) = 1 + j

-- "lowest owner, for one owner run, then timeout, then arrivals by rising sender"
abbrev pub Earlier : Action → Action → Type 0
Earlier a b = (owner a < owner b) ⊎ ((owner a ≡ owner b) × (among_own a < among_own b))

-- where a step stands among all: its turn, from 0 on
abbrev pub turn_of : Action → ℕ
turn_of a = 18 * (owner a - 1) + among_own a

-- those that stand earlier are earlier; what stands there is possible, and what is possible stands there, at its turn and at no other
abbrev pub InTurn : Type 0
InTurn =
    (length possible ≡ 288) ×
    ((j k : ℕ) → j < k → k < 288 → Earlier (at_turn j) (at_turn k)) ×
    ((k : ℕ) → k < 288 → So (numbered (at_turn k)) × (turn_of (at_turn k) ≡ k)) ×
    ((a : Action) → So (numbered a) → (turn_of a < 288) × (at_turn (turn_of a) ≡ a))

abbrev pub IsFirst : Node → Action → Type 0
IsFirst n a = So (acceptable n a) × ((b : Action) → Earlier b a → acceptable n b ≡ false)

abbrev pub FirstOnOffer : Type 0
FirstOnOffer = (n : Node) (a : Action) → (suggest n ≡ done (some a) → IsFirst n a) × (IsFirst n a → suggest n ≡ done (some a))

-- of all steps, not only of the possible ones
abbrev pub NoneOnOffer : Type 0
NoneOnOffer =
    (n : Node) → Sound n →
    (suggest n ≡ done none → (a : Action) → acceptable n a ≡ false) × (((a : Action) → acceptable n a ≡ false) → suggest n ≡ done none)

abbrev pub SameFit : Type 0
SameFit = (cs : List Op) (i : ℕ) (ms : List Message) → by_kind cs i ms ≡ search cs i ms

-- "else its clauses up to the first that fits, or all"
abbrev pub FewConsulted : Type 0
FewConsulted =
    (cs : List Op) →
    ((m : Message) (ms : List Message) → consulted cs (m ∷ ms) ≤ length cs + consulted cs ms)
    × ((ms : List Message) → consulted cs ms ≤ length ms * length cs)
