-- Arriving (document 01, "Arrive").
--   joins st x          message x joins the mailbox
--   received j p b      what is left of process p once an exit signal from j is received, which was sent along a link where b is set
--   exits i j st v b    what live process i does on exit(v, b) from j: the first line that applies
--   downs j st v        what a live process does on down(v) from j
--   takes i j st x      what live process i does with signal x from j
--   answers j st x      what an ended process, closing or gone, does with it
--   arrives i j st x    what process i does with signal x from j
use Rattle.std.specs.Prelude.{Bool, true, false, cond, not, ◌&&◌, ℕ, ltb, eqb, length}
use Rattle.std.proofs.Math.Option.{none}
use Rattle.node.specs.declared.Message.{Message}
use Rattle.node.specs.declared.Message.TheVariants.{Plain, Note, Down as DownMessage}
use Rattle.node.specs.declared.Process.{Process}
use Rattle.node.specs.declared.Signal.{Signal}
use Rattle.node.specs.declared.Signal.TheVariants.{Msg, Exit, Link, Unlink, Monitor, Demonitor, Down}
use Rattle.node.specs.declared.Stage.{Stage}
use Rattle.node.specs.declared.Stage.TheVariants.{Unborn, Live, Closing, Gone}
use Rattle.node.specs.declared.Value.{Value}
use Rattle.node.specs.Processes.{ended, links_to, linked, unlinked, watches_over, unwatching, watched, unwatched}
use Rattle.node.specs.Values.{normal, kill, killed, noproc, same_value}
use Rattle.rules.specs.Answers.{Answer, refused, done, need, owner_unborn, mailbox_full}
use Rattle.rules.specs.Effects.{State, Effect, joining, becomes, ends, sends}

-- process p, and message x behind the others
abbrev pub joins_with : State → Process → Message → Answer Effect
joins_with st p x = need (ltb (length st.mail) 16) mailbox_full (done (record { process = p; mail = joining x; sent = none; born = none }))

abbrev pub joins : State → Message → Answer Effect
joins st x = joins_with st st.process x

-- "a link is gone once its exit signal has been received"
abbrev pub received : ℕ → Process → Bool → Process
received j p b = cond b (unlinked p j) p

-- "note (j,v) joins the mailbox; if b=1, j leaves the links"
abbrev pub notes : ℕ → State → Value → Bool → Answer Effect
notes j st v b = joins_with st (received j st.process b) (Note (record { 0 = j }) v)

unfoldable pub exits : ℕ → ℕ → State → Value → Bool → Answer Effect
exits i j st v b =
    let p = st.process in
    cond (b && not (links_to p j)) (becomes st p)  -- 1  linked, and j is no link: dropped
    (cond (not b && same_value v kill) (ends st killed)  -- 2  kill: ends with killed, trap or no trap
    (cond p.trap (notes j st v b)  -- 3  trapped: a note joins the mailbox
    (cond (same_value v normal && not (eqb j i)) (becomes st (received j p b))  -- 4  normal from another: dropped; "the sender now leaves the links"
    (becomes st (ended (received j p b) v)))))  -- 5  ends with v; "takes that sender out before closing"

-- "Down joins the mailbox and ends the watch only if the watch still stands; else it is dropped"
unfoldable pub downs : ℕ → State → Value → Answer Effect
downs j st v =
    let p = st.process in
    cond (watches_over p j) (joins_with st (unwatching p j) (DownMessage (record { 0 = j }) v)) (becomes st p)

abbrev pub takes : ℕ → ℕ → State → Signal → Answer Effect
takes i j st (Msg v) = joins st (Plain v)
takes i j st (Exit v b) = exits i j st v b
takes i j st Link = becomes st (linked st.process j)
takes i j st Unlink = becomes st (unlinked st.process j)
takes i j st Monitor = becomes st (watched st.process j)
takes i j st Demonitor = becomes st (unwatched st.process j)
takes i j st (Down v) = downs j st v

abbrev pub is_monitor : Signal → Bool
is_monitor (Msg v) = false
is_monitor (Exit v b) = false
is_monitor Link = false
is_monitor Unlink = false
is_monitor Monitor = true
is_monitor Demonitor = false
is_monitor (Down v) = false

-- "Closing or gone i: the signal is dropped"; but a monitor "puts down(a5), noproc, in flight back"
abbrev pub answers : ℕ → State → Signal → Answer Effect
answers j st x = cond (is_monitor x) (sends st st.process j (Down noproc)) (becomes st st.process)

abbrev pub arrives_in : Stage → ℕ → ℕ → State → Signal → Answer Effect
arrives_in Unborn i j st x = refused owner_unborn
arrives_in Live i j st x = takes i j st x
arrives_in Closing i j st x = answers j st x
arrives_in Gone i j st x = answers j st x

unfoldable pub arrives : ℕ → ℕ → State → Signal → Answer Effect
arrives i j st x = arrives_in st.process.stage i j st x
