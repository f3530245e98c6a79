-- Arrivals: what is shown of each signal is one record (`Heard`), and what follows of an arrival. Assumes nothing.
use mathlib.Core.Bool.{Bool, true, false, So}
use mathlib.Core.List.{List, [], ◌∷◌, ◌++◌}
use mathlib.Core.Path.{refl}
use Prim.Native.Nat.{ℕ}
use borrow.Author.Tests.{not-true, ltb-true}
use lib.Dec.{eqb}
use lib.ListN.{length}
use Rattle.node.specs.declared.Message.{Message}
use Rattle.node.specs.declared.Message.TheVariants.{Plain, Note, Down as DownMessage}
use Rattle.node.specs.declared.Process.{Process}
use Rattle.node.specs.declared.Signal.{Signal}
use Rattle.node.specs.declared.Signal.TheVariants.{Msg, Exit, Link, Unlink, Monitor, Demonitor, Down}
use Rattle.node.specs.declared.Value.{Value}
use Rattle.node.specs.Processes.{linked, unlinked, watched, unwatched, unwatching, ended}
use Rattle.node.specs.Values.{killed, is_number, value_sound, message_sound}
use Rattle.rules.specs.Answers.{Answer}
use Rattle.rules.specs.Arrive.{arrives, takes, exits, joins_with, received, notes, downs}
use Rattle.rules.specs.Behaviours.{Instruction}
use Rattle.rules.specs.Effects.{State, Effect, becomes, ends}
use Rattle.rules.specs.Nodes.{standing, standing_sound, signal_sound, sound}
use Rattle.rules.proofs.All.{both}
use Rattle.rules.proofs.Cases.{joins_any, exits_any, downs_any, answers_any, arrives_any}
use Rattle.rules.proofs.Keeps.{Good, becomes_alive, ends_good}
use Rattle.rules.proofs.Living.{Alive, alive, alive_sound, live_born, joined_mailed, linked_alive, unlinked_alive, watched_alive, unwatched_alive, unwatching_alive, mailed_alive}
use Rattle.rules.proofs.Told.{Told, Common}

module _ (i j : ℕ) (st : State) where
  -- signal y from j arrives at live process i, both numbers being numbers of processes
  pub record Hears (codes : List (List Instruction)) (y : Signal) : Type 0 where
    pub number : So (is_number i)
    pub from : So (is_number j)
    pub alive : Alive codes i st.process st.mail
    pub sound : So (signal_sound j i y)

  -- of answer x to signal y: which numbers it is refused with; arrays keep their lengths; what an effect must keep is kept
  pub record Heard (y : Signal) (x : Answer Effect) : Type 0 where
    pub told : Told Common x
    pub good : (codes : List (List Instruction)) → Hears codes y → Good codes i st.mail x

  becomes_heard : (y : Signal) (q : Process) → ((codes : List (List Instruction)) → Hears codes y → Alive codes i q st.mail) → Heard y (becomes st q)
  becomes_heard y q a = record { told = tt; good = λ codes g. becomes_alive codes i st q (a codes g) }

  ends_heard : (y : Signal) (v : Value) → ((codes : List (List Instruction)) → Hears codes y → So (value_sound v)) → Heard y (ends st v)
  unfolding ended
  ends_heard y v h = record { told = tt; good = λ codes g. ends_good codes i st v (h codes g) g.alive.apart }

  joins_heard : (y : Signal) (q : Process) (x : Message) → ((codes : List (List Instruction)) → Hears codes y → Alive codes i q st.mail) →
      ((codes : List (List Instruction)) → Hears codes y → So (message_sound x)) → Heard y (joins_with st q x)
  joins_heard y q x a h = record {
    told = joins_any st (Told Common) q x refl (λ e. tt);
    good = λ codes g. joins_any st (Good codes i st.mail) q x tt (λ e.
        let m = st.mail ++ (x ∷ []) in
        let room = ltb-true (length st.mail) 16 e in
        let next = mailed_alive codes i q st.mail (a codes g) m (joined_mailed st.mail g.alive.mailed x (h codes g) room) in
        record { sound = alive_sound codes i q m next; mail = room; born = live_born codes i q m next; sent = tt; birth = tt; apart = tt });
  }

  -- ---- a row to a signal

  unlinked_heard : (codes : List (List Instruction)) (y : Signal) → Hears codes y → Alive codes i (unlinked st.process j) st.mail
  unlinked_heard codes y g = unlinked_alive codes i st.process st.mail g.alive j

  received_heard : (codes : List (List Instruction)) (v : Value) (b : Bool) → Hears codes (Exit v b) → Alive codes i (received j st.process b) st.mail
  received_heard codes v true g = unlinked_heard codes (Exit v true) g
  received_heard codes v false g = g.alive

  notes_heard : (v : Value) (b : Bool) → Heard (Exit v b) (notes j st v b)
  notes_heard v b =
      joins_heard (Exit v b) (received j st.process b) (Note (record { 0 = j }) v) (λ codes g. received_heard codes v b g) (λ codes g. both g.from g.sound)

  exits_heard : (v : Value) (b : Bool) → Heard (Exit v b) (exits i j st v b)
  exits_heard v b =
      exits_any st (Heard (Exit v b)) i j v b
      (becomes_heard (Exit v b) st.process (λ codes g. g.alive))
      (ends_heard (Exit v b) killed (λ codes g. refl))
      (notes_heard v b)
      (becomes_heard (Exit v b) (received j st.process b) (λ codes g. received_heard codes v b g))
      (record { told = tt; good = λ codes g. ends_good codes i (record { process = received j st.process b; mail = st.mail }) v g.sound (received_heard codes v b g).apart })

  downs_heard : (v : Value) → Heard (Down v) (downs j st v)
  downs_heard v =
      downs_any st (Heard (Down v)) j v (becomes_heard (Down v) st.process (λ codes g. g.alive))
      (joins_heard (Down v) (unwatching st.process j) (DownMessage (record { 0 = j }) v) (λ codes g. unwatching_alive codes i st.process st.mail g.alive j)
      (λ codes g. both g.from g.sound))

  takes_heard : (y : Signal) → Heard y (takes i j st y)
  takes_heard (Msg v) = joins_heard (Msg v) st.process (Plain v) (λ codes g. g.alive) (λ codes g. g.sound)
  takes_heard (Exit v b) = exits_heard v b
  takes_heard Link = becomes_heard Link (linked st.process j) (λ codes g. linked_alive codes i st.process st.mail g.alive j g.number g.from (not-true (eqb j i) g.sound))
  takes_heard Unlink = becomes_heard Unlink (unlinked st.process j) (λ codes g. unlinked_heard codes Unlink g)
  takes_heard Monitor = becomes_heard Monitor (watched st.process j) (λ codes g. watched_alive codes i st.process st.mail g.alive j g.number g.from (not-true (eqb j i) g.sound))
  takes_heard Demonitor = becomes_heard Demonitor (unwatched st.process j) (λ codes g. unwatched_alive codes i st.process st.mail g.alive j)
  takes_heard (Down v) = downs_heard v

  -- ---- an arrival

  pub arrives_told : (y : Signal) → Told Common (arrives i j st y)
  arrives_told y = arrives_any st (Told Common) i j y (λ q. refl) (λ q. (takes_heard y).told) (λ q. answers_any st (Told Common) j tt tt y)

  pub arrives_good : (codes : List (List Instruction)) → So (is_number i) → So (standing_sound codes i (standing st.process st.mail)) → So (is_number j) → (y : Signal) →
      So (signal_sound j i y) → Good codes i st.mail (arrives i j st y)
  arrives_good codes number sound from y h =
      arrives_any st (Good codes i st.mail) i j y (λ q. tt)
      (λ q. (takes_heard y).good codes (record { number = number; from = from; alive = alive codes i st.process st.mail q sound; sound = h }))
      (λ q.
      answers_any st (Good codes i st.mail) j (record { sound = sound; mail = tt; born = q; sent = tt; birth = tt; apart = tt })
      (record { sound = sound; mail = tt; born = q; sent = (from, refl); birth = tt; apart = tt }) y)
