-- The rules by cases, over any statement on an answer: what holds of each answer that a rule can give holds of the answer that it gives. So
-- what is to be shown of every op or signal is said of each case once. Assumes nothing.
use mathlib.Core.Bool.{Bool, true, false, cond, not, So, ◌&&◌}
use mathlib.Core.List.{List, [], ◌∷◌}
use mathlib.Core.Option.{Option, none, some, none-ne-some, some-injective}
use mathlib.Core.Path.{◌≡◌, refl, ap}
use Prim.Native.Nat.{ℕ, zero, suc, ◌+◌}
use native.Mathlib.Omega.{arith}
use borrow.Author.Tests.{le-leb}
use lib.Dec.{leb, ltb, eqb}
use lib.IntN.{ℤ, ◌+ℤ◌}
use lib.ListN.{length, get_or, take, drop}
use lib.Signed.{lt_z}
use Rattle.node.specs.declared.Message.{Message}
use Rattle.node.specs.declared.Message.TheVariants.{Down as DownMessage}
use Rattle.node.specs.declared.Op.{Op}
use Rattle.node.specs.declared.Peers.{Peers}
use Rattle.node.specs.declared.Process.{Process}
use Rattle.node.specs.declared.Signal.{Signal}
use Rattle.node.specs.declared.Signal.TheVariants.{Exit, Down}
use Rattle.node.specs.declared.Stage.{Stage}
use Rattle.node.specs.declared.Stage.TheVariants.{Unborn, Live, Closing, Gone}
use Rattle.node.specs.declared.Value.{Value}
use Rattle.node.specs.declared.Value.TheVariants.{Int, Atom, Pid}
use Rattle.node.specs.Nodes.{no_op}
use Rattle.node.specs.Processes.{moved, advanced, ended, links_to, unlinked, watches_over, unwatching, unwatched, gone}
use Rattle.node.specs.Sets.{lowest_peer}
use Rattle.node.specs.Values.{normal, kill, killed, badarg, badarith, noproc, pid, is_number, fits_int, same_value}
use Rattle.node.proofs.Sets.{lowest_number}
use Rattle.rules.specs.Answers.{Answer, refused, done, need, mailbox_full, mailbox_empty, no_fit, owner_unborn, owner_gone, no_timeout}
use Rattle.rules.specs.Arrive.{joins_with, received, notes, exits, downs, takes, is_monitor, answers, arrives_in, arrives}
use Rattle.rules.specs.Effects.{State, Effect, joining, becomes, ends, sends}
use Rattle.rules.specs.Receive.{Fit, search, first_fit, fit, answered, receives_by, receives}
use Rattle.rules.specs.Run.{sets_register, jumps_if, integer_in, on_integers, sets_sum, adds, compares, process_in}
use Rattle.rules.specs.Run.{to_process, sends_to, to_other, runs_op, closes_to, closes, runs_live, runs_in, runs}
use Rattle.rules.specs.Steps.{is_unborn}
use Rattle.rules.specs.Timeout.{behind_clauses, at_after, expires_if, expires_live, expires_in, expires}
use Rattle.rules.proofs.All.{both}

-- a value that names process j is its number
named : (v : Value) (j : ℕ) → process_in v ≡ some j → v ≡ pid j
named (Int z) j e = absurd (none-ne-some j e)
named (Atom a) j e = absurd (none-ne-some j e)
named (Pid k) j e = ap pid (some-injective k.0 j e)

module _ (st : State) (P : Answer Effect → Type 0) where
  -- ---- the ops

  pub jumps_any : (t : ℕ) → P (becomes st (moved st.process t)) → P (becomes st (advanced st.process)) → (b : Bool) → P (jumps_if st b t)
  jumps_any t h g true = h
  jumps_any t h g false = g

  integers_any : (v : Value) (f : ℤ → ℤ → Answer Effect) → ((x y : ℤ) → P (f x y)) → P (ends st v) → (a b : Option ℤ) → P (on_integers st v a b f)
  integers_any v f h g (some x) (some y) = h x y
  integers_any v f h g (some x) none = g
  integers_any v f h g none b = g

  pub adds_any : (r : ℕ) → ((z : ℤ) → So (fits_int z) → P (sets_register st r (Int z))) → P (ends st badarith) → (v w : Value) → P (adds st r v w)
  adds_any r h g v w = integers_any badarith (sets_sum st r) (λ x y. go (x +ℤ y) (fits_int (x +ℤ y)) refl) g (integer_in v) (integer_in w)
    where
      go : (z : ℤ) (b : Bool) → fits_int z ≡ b → P (cond b (sets_register st r (Int z)) (ends st badarith))
      go z true e = h z e
      go z false e = g

  pub compares_any : (t : ℕ) → ((b : Bool) → P (jumps_if st b t)) → P (ends st badarg) → (v w : Value) → P (compares st t v w)
  compares_any t h g v w = integers_any badarg (λ x y. jumps_if st (lt_z x y) t) (λ x y. h (lt_z x y)) g (integer_in v) (integer_in w)

  pub sends_to_any : (v : Value) (q : ℕ → Process) (x : Signal) → ((j : ℕ) → v ≡ pid j → P (sends st (advanced (q j)) j x)) → P (ends st badarg) → P (sends_to st v q x)
  sends_to_any v q x h g = go (process_in v) refl
    where
      go : (o : Option ℕ) → process_in v ≡ o → P (to_process st o (λ j. sends st (advanced (q j)) j x))
      go none e = g
      go (some j) e = h j (named v j e)

  pub to_other_any : (i : ℕ) (v : Value) (x : Answer Effect) → P (becomes st (advanced st.process)) → (same_value v (pid i) ≡ false → P x) → P (to_other i st v x)
  to_other_any i v x g h = go (same_value v (pid i)) refl
    where
      go : (b : Bool) → same_value v (pid i) ≡ b → P (cond b (becomes st (advanced st.process)) x)
      go true e = g
      go false e = h e

  pub receives_any : (code : List Op) (o : Op) → P (refused mailbox_empty) → P (refused no_fit) →
      ((f : Fit) → search (take o.small (drop (st.process.place + 1) code)) 0 st.mail ≡ some f → P (receives_by st (fit f))) →
      P (receives code st o)
  unfolding receives
  receives_any code o k l h = go (search (take o.small (drop (st.process.place + 1) code)) 0 st.mail) refl
    where
      missed : (ms : List Message) → P (receives_by st (answered none ms))
      missed [] = k
      missed (m ∷ ms) = l

      go : (f : Option Fit) → search (take o.small (drop (st.process.place + 1) code)) 0 st.mail ≡ f → P (receives_by st (answered f st.mail))
      go none e = missed st.mail
      go (some f) e = h f e

  -- ---- a run

  -- the lowest process of a set is one
  lowest_is : (s : Peers) (j : ℕ) → lowest_peer s ≡ suc j → So (is_number (suc j))
  unfolding is_number
  lowest_is s j e = let b = lowest_number s j e in both (le-leb 1 (suc j) (omega arith)) (le-leb (suc j) 16 b)

  -- gone, or the lowest link is told, or the lowest watcher
  pub closes_any : P (becomes st (gone st.process)) → ((j : ℕ) → So (is_number j) → P (sends st (unlinked st.process j) j (Exit st.process.reason true))) →
      ((j : ℕ) → So (is_number j) → P (sends st (unwatched st.process j) j (Down st.process.reason))) → P (closes st)
  unfolding closes
  closes_any g h w = go (lowest_peer st.process.links) refl (lowest_peer st.process.watchers) refl
    where
      go : (j : ℕ) → lowest_peer st.process.links ≡ j → (k : ℕ) → lowest_peer st.process.watchers ≡ k → P (closes_to st j k)
      go (suc j) e k f = h (suc j) (lowest_is st.process.links j e)
      go zero e (suc k) f = w (suc k) (lowest_is st.process.watchers k f)
      go zero e zero f = g

  pub runs_any : (code : List Op) (i : ℕ) →
      (st.process.stage ≡ Unborn → P (refused owner_unborn)) →
      (st.process.stage ≡ Live → leb (length code) st.process.place ≡ true → P (ends st normal)) →
      (st.process.stage ≡ Live → leb (length code) st.process.place ≡ false → P (runs_op code i st (get_or code st.process.place no_op))) →
      (st.process.stage ≡ Closing → P (closes st)) →
      (st.process.stage ≡ Gone → P (refused owner_gone)) →
      P (runs code i st)
  unfolding runs runs_live
  runs_any code i u e o c g = go st.process.stage refl
    where
      live : st.process.stage ≡ Live → (b : Bool) → leb (length code) st.process.place ≡ b → P (cond b (ends st normal) (runs_op code i st (get_or code st.process.place no_op)))
      live q true d = e q d
      live q false d = o q d

      go : (s : Stage) → st.process.stage ≡ s → P (runs_in s code i st)
      go Unborn q = u q
      go Live q = live q (leb (length code) st.process.place) refl
      go Closing q = c q
      go Gone q = g q

  -- ---- a timeout

  pub expires_any : (code : List Op) →
      (st.process.stage ≡ Unborn → P (refused owner_unborn)) →
      P (refused no_timeout) →
      (st.process.stage ≡ Live → at_after code st.process.place ≡ true → P (becomes st (moved st.process (behind_clauses code st.process.place).target))) →
      P (expires code st)
  unfolding expires expires_live
  expires_any code u r m = go st.process.stage refl
    where
      fit : st.process.stage ≡ Live → at_after code st.process.place ≡ true → (f : Option Fit) → P (expires_if st (behind_clauses code st.process.place) f)
      fit q h none = m q h
      fit q h (some f) = r

      late : st.process.stage ≡ Live → (b : Bool) → at_after code st.process.place ≡ b → (f : Option Fit)
          → P (need b no_timeout (expires_if st (behind_clauses code st.process.place) f))
      late q true h f = fit q h f
      late q false h f = r

      go : (s : Stage) → st.process.stage ≡ s → P (expires_in s code st)
      go Unborn q = u q
      go Live q = late q (at_after code st.process.place) refl (first_fit code st (get_or code st.process.place no_op))
      go Closing q = r
      go Gone q = r

  -- ---- an arrival

  pub joins_any : (q : Process) (x : Message) → P (refused mailbox_full) →
      (ltb (length st.mail) 16 ≡ true → P (done (record { process = q; mail = joining x; sent = none; born = none }))) → P (joins_with st q x)
  joins_any q x g h = go (ltb (length st.mail) 16) refl
    where
      go : (b : Bool) → ltb (length st.mail) 16 ≡ b → P (need b mailbox_full (done (record { process = q; mail = joining x; sent = none; born = none })))
      go true e = h e
      go false e = g

  -- the five lines: dropped (1), killed (2), noted (3), dropped once received (4), ended (5)
  pub exits_any : (i j : ℕ) (v : Value) (b : Bool) → P (becomes st st.process) → P (ends st killed) → P (notes j st v b) →
      P (becomes st (received j st.process b)) → P (becomes st (ended (received j st.process b) v)) → P (exits i j st v b)
  unfolding exits
  exits_any i j v b same kills noted dropped over = go (b && not (links_to st.process j)) (not b && same_value v kill) st.process.trap (same_value v normal && not (eqb j i))
    where
      go : (x y z w : Bool) →
          P (cond x (becomes st st.process) (cond y (ends st killed) (cond z (notes j st v b)
          (cond w (becomes st (received j st.process b)) (becomes st (ended (received j st.process b) v))))))
      go true y z w = same
      go false true z w = kills
      go false false true w = noted
      go false false false true = dropped
      go false false false false = over

  -- dropped, or the message joins and the watch is over
  pub downs_any : (j : ℕ) (v : Value) → P (becomes st st.process) → P (joins_with st (unwatching st.process j) (DownMessage (record { 0 = j }) v)) → P (downs j st v)
  unfolding downs
  downs_any j v same joined = go (watches_over st.process j)
    where
      go : (b : Bool) → P (cond b (joins_with st (unwatching st.process j) (DownMessage (record { 0 = j }) v)) (becomes st st.process))
      go true = joined
      go false = same

  -- an ended process drops a signal, or answers a monitor
  pub answers_any : (j : ℕ) → P (becomes st st.process) → P (sends st st.process j (Down noproc)) → (x : Signal) → P (answers j st x)
  answers_any j same told x = go (is_monitor x)
    where
      go : (b : Bool) → P (cond b (sends st st.process j (Down noproc)) (becomes st st.process))
      go true = told
      go false = same

  pub arrives_any : (i j : ℕ) (x : Signal) →
      (st.process.stage ≡ Unborn → P (refused owner_unborn)) →
      (st.process.stage ≡ Live → P (takes i j st x)) →
      (is_unborn st.process.stage ≡ false → P (answers j st x)) →
      P (arrives i j st x)
  unfolding arrives
  arrives_any i j x u t a = go st.process.stage refl
    where
      go : (s : Stage) → st.process.stage ≡ s → P (arrives_in s i j st x)
      go Unborn q = u q
      go Live q = t q
      go Closing q = a (ap is_unborn q)
      go Gone q = a (ap is_unborn q)
