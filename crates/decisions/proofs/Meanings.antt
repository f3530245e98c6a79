-- What a record of this crate tells is the rules' answer, whatever the messages of the mailbox are: for a run where the op and the length are those
-- of its code, and for an arrival where the count is that of its mailbox. Assumes nothing.
--   run_means, arrival_means, timeout_means   the answer that the record of a run tells is `runs`, of an arrival `arrives`, of a timeout `expires`
--   run_only, timeout_only     a run or a timeout that asks for a search of the mailbox asks for nothing else
--   arrival_quiet              an arrival asks for none, and brings nobody to life
use mathlib.Core.Bool.{Bool, true, false, cond, not, ◌&&◌, false≢true}
use mathlib.Core.List.{List, [], ◌∷◌}
use mathlib.Core.Option.{Option, none, some}
use mathlib.Core.Path.{◌≡◌, refl, sym, ◌∙◌, ap}
use Prim.Native.Nat.{ℕ, zero, suc, ◌<◌}
use native.Mathlib.Omega.{arith}
use borrow.Author.Tests.{leb-false, lt-leb, ltb-true, ltb-false, eqb-true}
use lib.Dec.{eqb, leb, ltb}
use lib.IntN.{ℤ, ◌+ℤ◌}
use lib.ListN.{length, get_or, length-replicate, get_or-eq_default}
use lib.Signed.{lt_z}
use Rattle.node.specs.declared.Message.{Message}
use Rattle.node.specs.declared.Op.{Op}
use Rattle.node.specs.declared.Process.{Process}
use Rattle.node.specs.declared.ProcessNumber.{ProcessNumber}
use Rattle.node.specs.declared.Signal.{Signal}
use Rattle.node.specs.declared.Signal.TheVariants.{Msg, Exit, Link, Unlink, Monitor, Demonitor, Down}
use Rattle.node.specs.declared.Stage.{Stage}
use Rattle.node.specs.declared.Stage.TheVariants.{Unborn, Live, Closing, Gone}
use Rattle.node.specs.declared.Value.{Value}
use Rattle.node.specs.declared.Value.TheVariants.{Int}
use Rattle.node.specs.Mailboxes.{no_message}
use Rattle.node.specs.Nodes.{no_op}
use Rattle.node.specs.Ops.{recv_op}
use Rattle.node.specs.Processes.{register, advanced, links_to, linked, unlinked, watches_over, watching, unwatching}
use Rattle.node.specs.Sets.{lowest_peer}
use Rattle.node.specs.Values.{normal, kill, badarg, badarith, pid, fits_int, same_value}
use Rattle.rules.specs.Answers.{Answer, refused, done, need, mailbox_full, mailbox_empty, no_timeout}
use Rattle.rules.specs.Arrive.{joins_with, exits, downs, takes, is_monitor, answers, arrives_in, arrives}
use Rattle.rules.specs.Effects.{State, joining, Effect, becomes, ends, sends}
use Rattle.rules.specs.Receive.{receives}
use Rattle.rules.specs.Run.{sets_register, jumps_if, integer_in, on_integers, sets_sum, adds, compares, process_in}
use Rattle.rules.specs.Run.{to_process, sends_to, to_other, stops, op_table, runs_op, closes_to, closes, runs_live}
use Rattle.rules.specs.Run.{runs_in, runs}
use Rattle.rules.specs.Steps.{is_unborn}
use Rattle.rules.specs.Timeout.{at_after, is_live, expires_live, expires_in, expires}
use Rattle.receive.specs.Waiting.{awaits}
use Rattle.decisions.proofs.Laws.{ops_length, ops_op}
use Rattle.decisions.specs.Answers.{state_of, unread, refusing, searching, decision_of, code_at, ran, arrived, expired, answer_of}
use Rattle.decisions.specs.Records.{Decision}

-- the code has len ops, and o stands at place t where t is not its end
pub record At (code : List Op) (len t : ℕ) (o : Op) : Type 0 where
  pub size : length code ≡ len
  pub op : t < length code → get_or code t no_op ≡ o

module _ (code : List Op) (i : ℕ) (p : Process) (m : List Message) where
  -- the process with its mailbox, and what is told of answer a that was given without the messages
  abbrev st : State
  st = state_of p m

  abbrev heard : ℕ → Answer Effect → Answer Effect
  heard k a = answer_of false code i st (decision_of (unread p k) a)

  heard_cond : (k : ℕ) (b : Bool) (x y : Answer Effect) {v w : Answer Effect} → heard k x ≡ v → heard k y ≡ w → heard k (cond b x y) ≡ cond b v w
  heard_cond k true x y e f = e
  heard_cond k false x y e f = f

  -- ---- a run

  abbrev bare : State
  bare = unread p 0

  abbrev Runs : Answer Effect → Answer Effect → Type 0
  Runs x y = heard 0 x ≡ y

  runs_cond : (b : Bool) (x y : Answer Effect) {v w : Answer Effect} → Runs x v → Runs y w → Runs (cond b x y) (cond b v w)
  runs_cond true x y e f = e
  runs_cond false x y e f = f

  runs_integers : (v : Value) (f : State → ℤ → ℤ → Answer Effect) → ((x y : ℤ) → Runs (f bare x y) (f st x y)) → (a b : Option ℤ) → Runs (on_integers bare v a b (f bare)) (on_integers st v a b (f st))
  runs_integers v f h (some x) (some y) = h x y
  runs_integers v f h (some x) none = refl
  runs_integers v f h none b = refl

  runs_adds : (r : ℕ) (v w : Value) → Runs (adds bare r v w) (adds st r v w)
  runs_adds r v w =
      runs_integers badarith (λ t. sets_sum t r) (λ x y. runs_cond (fits_int (x +ℤ y)) (sets_register bare r (Int (x +ℤ y))) (ends bare badarith) refl refl) (integer_in v) (integer_in w)

  runs_compares : (t : ℕ) (v w : Value) → Runs (compares bare t v w) (compares st t v w)
  runs_compares t v w = runs_integers badarg (λ s x y. jumps_if s (lt_z x y) t) (λ x y. refl) (integer_in v) (integer_in w)

  runs_to : (o : Option ℕ) (q : ℕ → Process) (x : Signal) → Runs (to_process bare o (λ j. sends bare (advanced (q j)) j x)) (to_process st o (λ j. sends st (advanced (q j)) j x))
  runs_to none q x = refl
  runs_to (some j) q x = refl

  runs_other : (v : Value) (q : ℕ → Process) (x : Signal) → Runs (to_other i bare v (sends_to bare v q x)) (to_other i st v (sends_to st v q x))
  runs_other v q x = runs_cond (same_value v (pid i)) (becomes bare (advanced p)) (sends_to bare v q x) refl (runs_to (process_in v) q x)

  -- two tables, entry by entry
  abbrev EachRuns : List (Answer Effect) → List (Answer Effect) → Type 0
  EachRuns [] [] = Unit {0}
  EachRuns [] (y ∷ r) = ⊥
  EachRuns (x ∷ l) [] = ⊥
  EachRuns (x ∷ l) (y ∷ r) = Runs x y × EachRuns l r

  runs_at : (l r : List (Answer Effect)) (d e : Answer Effect) → EachRuns l r → Runs d e → (k : ℕ) → Runs (get_or l k d) (get_or r k e)
  runs_at [] [] d e h g zero = g
  runs_at [] [] d e h g (suc k) = g
  runs_at [] (y ∷ r) d e h g k = absurd h
  runs_at (x ∷ l) [] d e h g k = absurd h
  runs_at (x ∷ l) (y ∷ r) d e h g zero = h.0
  runs_at (x ∷ l) (y ∷ r) d e h g (suc k) = runs_at l r d e h.1 g k

  module _ (ops : List Op) (o : Op) (stands : get_or code p.place no_op ≡ o) where
    abbrev r : Value
    r = register p o.r

    abbrev s : Value
    s = register p o.s

    runs_table : EachRuns (op_table ops i bare o) (op_table code i st o)
    unfolding receives
    runs_table = (
      refl,
      (
        refl,
        (
          refl,  -- set, copy, self
          (
            runs_adds o.r r s,  -- add
            (
              runs_to (process_in r) (λ j. p) (Msg s),  -- send
              (
                runs_to (process_in r) (λ j. p) (Exit s false),  -- exit
                (
                  runs_other r (linked p) Link,  -- link
                  (
                    runs_other r (unlinked p) Unlink,  -- unlink
                    (
                      refl,
                      (
                        refl,  -- trap, spawn
                        (
                          ap (receives code st) stands,  -- recv
                          (
                            refl,
                            (
                              refl,
                              (
                                refl,  -- clause, jump, same
                                (runs_compares o.target r s, (refl, (runs_other r (watching p) Monitor, (runs_other r (unwatching p) Demonitor, (refl, tt))))),
                              ),
                            ),
                          ),
                        ),
                      ),
                    ),
                  ),
                ),
              ),
            ),
          ),
        ),
      ),
    )  -- less, stop, monitor, demonitor, after

    runs_op_lem : Runs (runs_op ops i bare o) (runs_op code i st o)
    unfolding runs_op
    runs_op_lem = runs_at (op_table ops i bare o) (op_table code i st o) (stops bare o) (stops st o) runs_table refl o.number

  runs_closes : Runs (closes bare) (closes st)
  unfolding closes
  runs_closes = go (lowest_peer p.links) (lowest_peer p.watchers)
    where
      go : (j k : ℕ) → Runs (closes_to bare j k) (closes_to st j k)
      go (suc j) k = refl
      go zero (suc k) = refl
      go zero zero = refl

  module _ (len : ℕ) (o : Op) where
    abbrev ops : List Op
    ops = code_at len p.place o

    runs_live_lem : At code len p.place o → Runs (runs_live ops i bare) (runs_live code i st)
    unfolding runs_live
    runs_live_lem h = rw (ops_length p len o, h.size) (go (leb len p.place) refl)
      where
        go : (b : Bool) → leb len p.place ≡ b →
            Runs (cond b (ends bare normal) (runs_op ops i bare (get_or ops p.place no_op))) (cond b (ends st normal) (runs_op code i st (get_or code p.place no_op)))
        go true e = refl
        go false e =
            let inside : p.place < len = leb-false len p.place e in
            let here : get_or code p.place no_op ≡ o = h.op (omega (arith, inside, h.size)) in
            let t = runs_op_lem ops o here in
            rw (ops_op p len o inside) (t ∙ ap (runs_op code i st) (sym here))

    runs_in_lem : (s : Stage) → (s ≡ Live → At code len p.place o) → Runs (runs_in s ops i bare) (runs_in s code i st)
    runs_in_lem Unborn h = refl
    runs_in_lem Live h = runs_live_lem (h refl)
    runs_in_lem Closing h = runs_closes
    runs_in_lem Gone h = refl

  -- ---- an arrival

  abbrev k : ℕ
  k = length m

  abbrev counted : State
  counted = unread p k

  heard_joins : (q : Process) (x : Message) → heard k (joins_with counted q x) ≡ joins_with st q x
  heard_joins q x = rw (length-replicate k no_message.message) (go (ltb k 16))
    where
      go : (b : Bool) →
          heard k (need b mailbox_full (done (record { process = q; mail = joining x; sent = none; born = none })))
          ≡ need b mailbox_full (done (record { process = q; mail = joining x; sent = none; born = none }))
      go true = refl
      go false = refl

  module _ (j : ℕ) where
    heard_exits : (v : Value) (b : Bool) → heard k (exits i j counted v b) ≡ exits i j st v b
    unfolding exits
    heard_exits v b =
        heard_cond k (b && not (links_to p j)) _ _ refl
        (heard_cond k (not b && same_value v kill) _ _ refl
        (heard_cond k p.trap _ _ (heard_joins _ _)
        (heard_cond k (same_value v normal && not (eqb j i)) _ _ refl refl)))

    heard_downs : (v : Value) → heard k (downs j counted v) ≡ downs j st v
    unfolding downs
    heard_downs v = heard_cond k (watches_over p j) _ _ (heard_joins _ _) refl

    heard_takes : (x : Signal) → heard k (takes i j counted x) ≡ takes i j st x
    heard_takes (Msg v) = heard_joins p _
    heard_takes (Exit v b) = heard_exits v b
    heard_takes Link = refl
    heard_takes Unlink = refl
    heard_takes Monitor = refl
    heard_takes Demonitor = refl
    heard_takes (Down v) = heard_downs v

    heard_answers : (x : Signal) → heard k (answers j counted x) ≡ answers j st x
    heard_answers x = heard_cond k (is_monitor x) _ _ refl refl

    heard_arrives : (s : Stage) (x : Signal) → heard k (arrives_in s i j counted x) ≡ arrives_in s i j st x
    heard_arrives Unborn x = refl
    heard_arrives Live x = heard_takes x
    heard_arrives Closing x = heard_answers x
    heard_arrives Gone x = heard_answers x

-- a timeout of a live process, and one at no recv
expires_live_lem : (code : List Op) (st : State) → st.process.stage ≡ Live → expires code st ≡ expires_live code st
unfolding expires
expires_live_lem code st e = ap (λ (s : Stage). expires_in s code st) e

not_at : (code : List Op) (st : State) → eqb (get_or code st.process.place no_op).number recv_op ≡ false → expires_live code st ≡ refused no_timeout
unfolding expires_live at_after
not_at code st e = rw e

not_awaiting : (code : List Op) (p : Process) (len : ℕ) (o : Op) (m : List Message) → is_unborn p.stage ≡ false → (p.stage ≡ Live → At code len p.place o) → awaits p len o ≡ false →
    expires code (state_of p m) ≡ refused no_timeout
unfolding awaits expires
not_awaiting code p len o m born stands h = go p.stage born stands (ltb p.place len) refl (eqb o.number recv_op) refl h
  where
    go : (s : Stage) → is_unborn s ≡ false → (s ≡ Live → At code len p.place o) → (a : Bool) → ltb p.place len ≡ a → (b : Bool) → eqb o.number recv_op ≡ b → (is_live s && a && b) ≡ false →
        expires_in s code (state_of p m) ≡ refused no_timeout
    go Unborn u st a e b f h = absurd (false≢true (sym u))
    go Live u st true e true f h = absurd (false≢true (sym h))
    go Live u st true e false f h =
        let at : get_or code p.place no_op ≡ o = (st refl).op (rw (st refl).size (ltb-true p.place len e)) in
        not_at code (state_of p m) (rw (at, f))
    go Live u st false e b f h =
        let past : get_or code p.place no_op ≡ no_op = get_or-eq_default code no_op {n = p.place} (rw (st refl).size (ltb-false p.place len e)) in
        not_at code (state_of p m) (rw past)
    go Closing u st a e b f h = refl
    go Gone u st a e b f h = refl

-- a run whose length and op are those of its code
pub run_means : (code : List Op) (i : ProcessNumber) (p : Process) (len : ℕ) (o : Op) (m : List Message) → (p.stage ≡ Live → At code len p.place o) →
    answer_of false code i.0 (state_of p m) (ran i p len o) ≡ runs code i.0 (state_of p m)
unfolding ran runs
run_means code i p len o m stands = runs_in_lem code i.0 p m len o p.stage stands

-- an arrival at a mailbox that has as many messages as were told
pub arrival_means : (code : List Op) (i j : ProcessNumber) (p : Process) (m : List Message) (x : Signal) →
    answer_of false code i.0 (state_of p m) (arrived i j p (length m) x) ≡ arrives i.0 j.0 (state_of p m) x
unfolding arrived arrives
arrival_means code i j p m x = heard_arrives code i.0 p m j.0 p.stage x

-- a process at a recv
pub record Awaiting (p : Process) (len : ℕ) (o : Op) : Type 0 where
  pub live : p.stage ≡ Live
  pub inside : p.place < len
  pub recv : o.number ≡ recv_op

pub awaiting : (p : Process) (len : ℕ) (o : Op) → awaits p len o ≡ true → Awaiting p len o
unfolding awaits
awaiting p len o h = go p.stage refl (ltb p.place len) refl (eqb o.number recv_op) refl h
  where
    go : (s : Stage) → p.stage ≡ s → (a : Bool) → ltb p.place len ≡ a → (b : Bool) → eqb o.number recv_op ≡ b → (is_live s && a && b) ≡ true → Awaiting p len o
    go Unborn q a e b f h = absurd (false≢true h)
    go Live q true e true f h = record { live = q; inside = ltb-true p.place len e; recv = eqb-true o.number recv_op f }
    go Live q true e false f h = absurd (false≢true h)
    go Live q false e b f h = absurd (false≢true h)
    go Closing q a e b f h = absurd (false≢true h)
    go Gone q a e b f h = absurd (false≢true h)

-- its run asks for a search of the mailbox
run_searches : (i : ProcessNumber) (p : Process) (len : ℕ) (o : Op) → Awaiting p len o → ran i p len o ≡ searching p
unfolding ran runs runs_live runs_op receives
run_searches i p len o w =
    ap (λ (s : Stage). decision_of (unread p 0) (runs_in s (code_at len p.place o) i.0 (unread p 0))) w.live
    ∙ rw (ops_length p len o, lt-leb len p.place w.inside, ops_op p len o w.inside, w.recv)

-- a timeout of a born process whose length and op are those of its code
pub timeout_means : (code : List Op) (i : ProcessNumber) (p : Process) (len : ℕ) (o : Op) (m : List Message) → is_unborn p.stage ≡ false → (p.stage ≡ Live → At code len p.place o) →
    answer_of true code i.0 (state_of p m) (expired i p len o) ≡ expires code (state_of p m)
unfolding expired
timeout_means code i p len o m born stands = go (awaits p len o) refl
  where
    go : (b : Bool) → awaits p len o ≡ b → answer_of true code i.0 (state_of p m) (cond b (ran i p len o) (refusing p no_timeout)) ≡ expires code (state_of p m)
    go true e = let w = awaiting p len o e in ap (answer_of true code i.0 (state_of p m)) (run_searches i p len o w) ∙ sym (expires_live_lem code (state_of p m) w.live)
    go false e = sym (not_awaiting code p len o m born stands e)

-- ---- a decision that searches the mailbox does nothing else

abbrev pub Only : Decision → Type 0
Only e = (e.refusal ≡ 0) × (e.joins ≡ false) × (e.sends ≡ false) × (e.spawns ≡ false)

only_searching : (st : State) (a : Answer Effect) → (decision_of st a).receives ≡ true → Only (decision_of st a)
only_searching st (refused k) h = go (eqb k mailbox_empty) h
  where
    go : (b : Bool) → (cond b (searching st.process) (refusing st.process k)).receives ≡ true → Only (cond b (searching st.process) (refusing st.process k))
    go true e = (refl, refl, refl, refl)
    go false e = absurd (false≢true e)
only_searching st (done x) h = absurd (false≢true h)

pub run_only : (i : ProcessNumber) (p : Process) (len : ℕ) (o : Op) → (ran i p len o).receives ≡ true → Only (ran i p len o)
unfolding ran
run_only i p len o h = only_searching (unread p 0) (runs (code_at len p.place o) i.0 (unread p 0)) h

-- a timeout that does is of a live process at a recv
pub timeout_only : (i : ProcessNumber) (p : Process) (len : ℕ) (o : Op) → (expired i p len o).receives ≡ true → Only (expired i p len o) × Awaiting p len o
unfolding expired
timeout_only i p len o h = go (awaits p len o) refl h
  where
    go : (b : Bool) → awaits p len o ≡ b → (cond b (ran i p len o) (refusing p no_timeout)).receives ≡ true → Only (cond b (ran i p len o) (refusing p no_timeout)) × Awaiting p len o
    go true e h = (run_only i p len o h, awaiting p len o e)
    go false e h = absurd (false≢true h)

-- ---- an arrival searches no mailbox and brings nobody to life

module _ (i j : ℕ) (p : Process) (k : ℕ) where
  abbrev Quiet : Answer Effect → Type 0
  Quiet a = ((decision_of (unread p k) a).receives ≡ false) × ((decision_of (unread p k) a).spawns ≡ false)

  quiet_cond : (b : Bool) (x y : Answer Effect) → Quiet x → Quiet y → Quiet (cond b x y)
  quiet_cond true x y g h = g
  quiet_cond false x y g h = h

  quiet_joins : (q : Process) (x : Message) → Quiet (joins_with (unread p k) q x)
  quiet_joins q x = go (ltb (length (unread p k).mail) 16)
    where
      go : (b : Bool) → Quiet (need b mailbox_full (done (record { process = q; mail = joining x; sent = none; born = none })))
      go true = (refl, refl)
      go false = (refl, refl)

  quiet_takes : (x : Signal) → Quiet (takes i j (unread p k) x)
  unfolding exits downs
  quiet_takes (Msg v) = quiet_joins p _
  quiet_takes (Exit v b) =
      quiet_cond (b && not (links_to p j)) _ _ (refl, refl)
      (quiet_cond (not b && same_value v kill) _ _ (refl, refl)
      (quiet_cond p.trap _ _ (quiet_joins _ _)
      (quiet_cond (same_value v normal && not (eqb j i)) _ _ (refl, refl) (refl, refl))))
  quiet_takes Link = (refl, refl)
  quiet_takes Unlink = (refl, refl)
  quiet_takes Monitor = (refl, refl)
  quiet_takes Demonitor = (refl, refl)
  quiet_takes (Down v) = quiet_cond (watches_over p j) _ _ (quiet_joins _ _) (refl, refl)

  quiet_arrives : (s : Stage) (x : Signal) → Quiet (arrives_in s i j (unread p k) x)
  quiet_arrives Unborn x = (refl, refl)
  quiet_arrives Live x = quiet_takes x
  quiet_arrives Closing x = quiet_cond (is_monitor x) _ _ (refl, refl) (refl, refl)
  quiet_arrives Gone x = quiet_cond (is_monitor x) _ _ (refl, refl) (refl, refl)

pub arrival_quiet : (i j : ProcessNumber) (p : Process) (k : ℕ) (x : Signal) → ((arrived i j p k x).receives ≡ false) × ((arrived i j p k x).spawns ≡ false)
unfolding arrived arrives
arrival_quiet i j p k x = quiet_arrives i.0 j.0 p k p.stage x
