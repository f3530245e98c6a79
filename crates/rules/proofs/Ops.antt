-- The ops: what is shown of each is one record (`Shown`) with a row to an op (`rows`), so that one thing more to show is one field more.
--   Running     a live process of a sound node is at op o of its code
--   Shown k x   of answer x, which the op with number k gives: it is refused with 25 or 29 only, and only at a recv; what an effect must keep
--               is kept
--   op_shown    every op is shown so
-- Assumes nothing.
use mathlib.Core.Bool.{Bool, true, false, not, So, cond, ◌&&◌, ◌||◌}
use mathlib.Core.List.{List, [], ◌∷◌, map}
use mathlib.Core.Logic.{inl, inr}
use mathlib.Core.Option.{Option, none, some}
use mathlib.Core.Path.{◌≡◌, refl, sym, ◌∙◌, subst}
use Prim.Native.Nat.{ℕ, suc, ◌+◌, ◌-◌, ◌≤◌, ◌<◌, min}
use native.Mathlib.Nat.{zero-add}
use native.Mathlib.Omega.{arith}
use borrow.Author.Tests.{leb-true, le-leb, eqb-true, eqb-false, ne_eqb, not-true}
use lib.Dec.{leb, eqb}
use lib.ListN.{length, get_or, take, drop, length-map, length-take, length-drop}
use lib.Seq.{get_or-take, get_or-drop}
use Rattle.node.specs.declared.Message.{Message}
use Rattle.node.specs.declared.Message.TheVariants.{Plain, Note, Down}
use Rattle.node.specs.declared.Op.{Op}
use Rattle.node.specs.declared.OperandKind.TheVariants.{NoOperand, PlaceT}
use Rattle.node.specs.declared.Process.{Process}
use Rattle.node.specs.declared.ProcessNumber.{ProcessNumber}
use Rattle.node.specs.declared.Signal.{Signal}
use Rattle.node.specs.declared.Signal.TheVariants.{Msg, Exit, Link, Unlink, Monitor, Demonitor}
use Rattle.node.specs.declared.Value.{Value}
use Rattle.node.specs.declared.Value.TheVariants.{Int, Pid}
use Rattle.node.specs.Lists.{without, all_of}
use Rattle.node.specs.Nodes.{no_op}
use Rattle.node.specs.Ops.{kinds_of, op_count, recv_op, clause_op, after_op}
use Rattle.node.specs.Processes.{register, with_register, with_registers, moved, advanced, trapped, linked, unlinked, watching, unwatching, ended}
use Rattle.node.specs.Values.{badarg, badarith, pid, is_number, value_sound, message_sound, same_value}
use Rattle.rules.specs.Answers.{Answer}
use Rattle.rules.specs.Behaviours.{Instruction, instruction, numeric, operand, operand_in_range, on_part, is_recv, is_clause, is_after, clause_count, no_instruction, has_clauses, code_sound}
use Rattle.rules.specs.Effects.{State, Effect, becomes, ends}
use Rattle.rules.specs.Nodes.{signal_sound}
use Rattle.rules.specs.Receive.{Fit, fits, first_clause, search, with_sender, with_message, fit, receives_by, receives}
use Rattle.rules.specs.Run.{sets_register, jumps_if, sends_to, to_other, spawns, stops, op_table, runs_op}
use Rattle.rules.proofs.All.{parts, or_left, all_of_at, Each, last, ◌then◌, each_at}
use Rattle.rules.proofs.Cases.{jumps_any, adds_any, compares_any, sends_to_any, to_other_any, receives_any}
use Rattle.rules.proofs.Keeps.{Good, becomes_alive, sends_alive, ends_good}
use Rattle.rules.proofs.Living.{code_of, Valued, Mailed, Alive, alive, alive_sound, live_born, without_mailed, register_sound, with_register_keeps, moved_alive, registers_alive}
use Rattle.rules.proofs.Living.{trapped_alive, linked_alive, unlinked_alive, watching_alive, unwatching_alive, mailed_alive}
use Rattle.rules.proofs.Places.{code_short, next_off, op_at_lem, facts, in_range_lem, target_at, fresh_sound}
use Rattle.rules.proofs.Told.{Told, Waits}

-- ---- receiving

module _ (Q : Op → Type 0) where
  abbrev FitOk : Option Fit → Type 0
  FitOk none = Unit {0}
  FitOk (some f) = Q f.clause × So (message_sound f.message)

  first_clause_fit : (cs : List Op) → ((j : ℕ) → j < length cs → Q (get_or cs j no_op)) → (i : ℕ) (m : Message) → So (message_sound m) → (later : Option Fit) → FitOk later →
      FitOk (first_clause cs i m later)
  first_clause_fit [] h i m g later l = l
  first_clause_fit (c ∷ cs) h i m g later l = go (fits c m) (first_clause_fit cs (λ j b. h (suc j) (omega arith)) i m g later l)
    where
      go : (b : Bool) → FitOk (first_clause cs i m later) → FitOk (cond b (some (record { index = i; message = m; clause = c })) (first_clause cs i m later))
      go true r = (h 0 (omega arith), g)
      go false r = r

  -- a fit is one of the clauses and one of the messages
  search_fit : (cs : List Op) → ((j : ℕ) → j < length cs → Q (get_or cs j no_op)) → (i : ℕ) (ms : List Message) → So (all_of message_sound ms) → FitOk (search cs i ms)
  search_fit cs h i [] g = tt
  search_fit cs h i (m ∷ ms) g = let u = parts (message_sound m) (all_of message_sound ms) g in first_clause_fit cs h i m u.0 (search cs (i + 1) ms) (search_fit cs h (i + 1) ms u.1)

-- the index of a fit is below n
abbrev Before : ℕ → Option Fit → Type 0
Before n none = Unit {0}
Before n (some f) = f.index < n

first_clause_before : (cs : List Op) (i n : ℕ) (m : Message) (later : Option Fit) → i < n → Before n later → Before n (first_clause cs i m later)
first_clause_before [] i n m later h l = l
first_clause_before (c ∷ cs) i n m later h l = go (fits c m) (first_clause_before cs i n m later h l)
  where
    go : (b : Bool) → Before n (first_clause cs i m later) → Before n (cond b (some (record { index = i; message = m; clause = c })) (first_clause cs i m later))
    go true r = h
    go false r = r

search_before : (cs : List Op) (i : ℕ) (ms : List Message) (n : ℕ) → i + length ms ≤ n → Before n (search cs i ms)
search_before cs i [] n h = tt
search_before cs i (m ∷ ms) n h = first_clause_before cs i n m (search cs (i + 1) ms) (omega arith) (search_before cs (i + 1) ms n (omega arith))

-- ---- a process at an op

pub record Running (codes : List (List Instruction)) (i : ℕ) (ops : List Op) (st : State) (o : Op) : Type 0 where
  pub number : So (is_number i)
  pub alive : Alive codes i st.process st.mail
  pub same : code_of codes st.process.behaviour.0 ≡ map instruction ops
  pub sounds : So (all_of (code_sound (length codes)) codes)
  pub inside : st.process.place < length ops
  pub here : get_or ops st.process.place no_op ≡ o

module _ (codes : List (List Instruction)) (i : ℕ) (ops : List Op) (st : State) (o : Op) (g : Running codes i ops st o) where
  abbrev p : Process
  p = st.process

  abbrev t : ℕ
  t = st.process.place

  abbrev whole : List Instruction
  whole = map instruction ops

  code_sound_lem : (b : ℕ) → So (leb 1 b && leb b (length codes)) → So (code_sound (length codes) (code_of codes b))
  code_sound_lem b h =
      let w = parts (leb 1 b) (leb b (length codes)) h in
      let x = leb-true 1 b w.0 in
      let y = leb-true b (length codes) w.1 in
      all_of_at (code_sound (length codes)) [] codes g.sounds (b - 1) (omega arith)

  checked : So (code_sound (length codes) whole)
  checked = rw g.same at (code_sound_lem p.behaviour.0 g.alive.placed.known)

  size : length whole ≡ length ops
  size = length-map ops instruction

  size_32 : length ops ≤ 32
  size_32 = rw size at (code_short (length codes) whole checked)

  there : get_or whole t no_instruction ≡ instruction o
  there = op_at_lem (length codes) ops checked t g.inside o g.here

  -- the process stands at no part of a recv
  not_clause : is_clause (instruction o) ≡ false
  not_clause = or_left (is_clause (instruction o)) (is_after (instruction o)) (not-true _ (rw (g.same, there) at g.alive.placed.off))

  -- operand j of the op, by its kind
  operand_good : (n j : ℕ) → o.number ≡ n → j < length (kinds_of n) → So (operand_in_range (length codes) (length whole) (get_or (kinds_of n) j NoOperand)
      (operand o (get_or (kinds_of n) j NoOperand)))
  operand_good = in_range_lem (length codes) ops checked t g.inside o g.here

  register_good : (k : ℕ) → So (value_sound (register p k))
  register_good k = register_sound p g.alive.valued k

  -- an op whose number is not recv's
  other_op : (k : ℕ) → o.number ≡ k → eqb k recv_op ≡ false → is_recv (instruction o) ≡ false
  unfolding instruction
  other_op k e h = rw e h

  -- the place rises by 1 behind every op but recv
  advanced_alive : is_recv (instruction o) ≡ false → (q : Process) → Alive codes i q st.mail → q.behaviour.0 ≡ p.behaviour.0 → q.place ≡ t → Alive codes i (advanced q) st.mail
  unfolding advanced
  advanced_alive r q b eb et =
      let e : min (q.place + 1) 255 ≡ suc t = rw et (omega (arith, size_32, g.inside)) in
      let off : So (not (on_part whole (suc t))) = next_off (length codes) whole checked t (rw size g.inside) (rw there r) (rw there not_clause) in
      record {
        stage = b.stage;
        placed = record { known = b.placed.known; within = rw (eb, g.same, e, size) (le-leb (suc t) (length ops) g.inside); off = rw (eb, g.same, e) off };
        valued = b.valued;
        apart = b.apart;
        mailed = b.mailed;
      }

  -- a register changes, and the place rises
  set_alive : is_recv (instruction o) ≡ false → (k : ℕ) (v : Value) → So (value_sound v) → Alive codes i (advanced (with_register p k v)) st.mail
  set_alive r k v h =
      with_register_keeps p g.alive.valued (λ q. Alive codes i (advanced q) st.mail)
      (λ b c d e w. advanced_alive r (with_registers p b c d e) (registers_alive codes i p st.mail g.alive b c d e w) refl refl) k v h

  -- ---- recv

  abbrev OnTarget : Op → Type 0
  OnTarget c = So (leb c.target (length whole)) × So (not (on_part whole c.target))

  moved_good : (k : ℕ) → So (leb k (length whole)) → So (not (on_part whole k)) → Alive codes i (moved p k) st.mail
  moved_good k h f = moved_alive codes i p st.mail g.alive k (rw g.same h) (rw g.same f)

  -- "The next n ops are its clauses"
  clauses_follow : o.number ≡ recv_op → So (all_of is_clause (take o.small (drop (t + 1) whole)))
  unfolding has_clauses instruction kinds_of operand
  clauses_follow e =
      let w : So (not (is_recv (instruction o)) || has_clauses (clause_count (instruction o)) (drop (t + 1) whole)) = (facts (length codes) ops checked t g.inside o g.here).1.recv in
      let u : So (has_clauses o.small (drop (t + 1) whole)) =
      subst (λ (k : ℕ). So (not (eqb k recv_op) || has_clauses (get_or (map (operand o) (kinds_of k)) 0 (numeric 0)).number (drop (t + 1) whole))) e w in
      (parts (leb o.small (length (drop (t + 1) whole))) _ u).1

  clause_target : o.number ≡ recv_op → (j : ℕ) → j < length (take o.small (drop (t + 1) ops)) → OnTarget (get_or (take o.small (drop (t + 1) ops)) j no_op)
  unfolding instruction kinds_of
  clause_target e j h =
      let n = o.small in
      let b : j < min n (length ops - (t + 1)) = simp (length-take, length-drop) at h in
      let k = t + 1 + j in
      let c : k < length ops = omega arith in
      let f : get_or (take n (drop (t + 1) ops)) j no_op ≡ get_or ops k no_op = get_or-take n (drop (t + 1) ops) j no_op (omega arith) ∙ get_or-drop (t + 1) ops j no_op in
      let d : get_or (take n (drop (t + 1) whole)) j no_instruction ≡ instruction (get_or ops k no_op) =
      get_or-take n (drop (t + 1) whole) j no_instruction (omega arith) ∙ get_or-drop (t + 1) whole j no_instruction ∙ op_at_lem (length codes) ops checked k c (get_or ops k no_op) refl in
      let l : j < length (take n (drop (t + 1) whole)) = simp (length-take, length-drop, length-map) (omega arith) in
      let x : So (is_clause (instruction (get_or ops k no_op))) = rw d at (all_of_at is_clause no_instruction (take n (drop (t + 1) whole)) (clauses_follow e) j l) in
      rw f (target_at (length codes) ops checked k c (get_or ops k no_op) refl clause_op 3 (eqb-true (get_or ops k no_op).number clause_op x) (omega arith) refl)

  module _ (m : List Message) (mail : Mailed m) (k : ℕ) (within : So (leb k (length whole))) (off : So (not (on_part whole k))) where
    moved_with : (b c d e : Value) → Valued b c d e → Alive codes i (moved (with_registers p b c d e) k) m
    moved_with b c d e w =
        let q = with_registers p b c d e in
        moved_alive codes i q m (mailed_alive codes i q st.mail (registers_alive codes i p st.mail g.alive b c d e w) m mail) k (rw g.same within) (rw g.same off)

    -- a sender and its reason go to two registers
    told_alive : (c : Op) (j : ProcessNumber) (v : Value) → So (is_number j.0 && value_sound v) → Alive codes i (moved (with_sender p c j v) k) m
    told_alive c j v h =
        let w = parts (is_number j.0) (value_sound v) h in
        with_register_keeps p g.alive.valued (λ q. Alive codes i (moved (with_register q c.s v) k) m)
        (λ b d e f u. with_register_keeps (with_registers p b d e f) u (λ q. Alive codes i (moved q k) m) moved_with c.s v w.1)
        c.r (Pid j) w.0

    with_message_alive : (c : Op) (x : Message) → So (message_sound x) → Alive codes i (moved (with_message p c x) k) m
    with_message_alive c (Plain v) h = with_register_keeps p g.alive.valued (λ q. Alive codes i (moved q k) m) moved_with c.r v h
    with_message_alive c (Note j v) h = told_alive c j v h
    with_message_alive c (Down j v) h = told_alive c j v h

  fit_good : o.number ≡ recv_op → (f : Fit) → search (take o.small (drop (t + 1) ops)) 0 st.mail ≡ some f → Good codes i st.mail (receives_by st (fit f))
  fit_good e f q =
      let h : FitOk OnTarget (some f) = subst (FitOk OnTarget) q (search_fit OnTarget (take o.small (drop (t + 1) ops)) (clause_target e) 0 st.mail g.alive.mailed.sound) in
      let m = without f.index st.mail in
      let next = with_message_alive m (without_mailed st.mail g.alive.mailed f.index) f.clause.target h.0.0 h.0.1 f.clause f.message h.1 in
      let inside = subst (Before (length st.mail)) q (search_before (take o.small (drop (t + 1) ops)) 0 st.mail (length st.mail) (omega arith)) in
      record {
        sound = alive_sound codes i _ m next;
        mail = (inside, leb-true (length st.mail) 16 g.alive.mailed.few);
        born = live_born codes i _ m next;
        sent = tt;
        birth = tt;
        apart = tt;
      }

  -- ---- spawn

  spawn_good : o.number ≡ 9 → Good codes i st.mail (spawns i st o)
  unfolding kinds_of operand operand_in_range
  spawn_good e =
      let n : So (is_number o.process.0) = operand_good 9 2 e (omega arith) in
      let known : So (leb 1 o.behaviour.0 && leb o.behaviour.0 (length codes)) = operand_good 9 1 e (omega arith) in
      let next = set_alive (other_op 9 e refl) o.r (Pid o.process) n in
      record {
        sound = alive_sound codes i _ st.mail next;
        mail = tt;
        born = live_born codes i _ st.mail next;
        sent = tt;
        birth = record { number = n; sound = fresh_sound codes g.sounds o.process.0 o.behaviour (pid i) known g.number; born = refl };
        apart = tt;
      }

-- ---- what is shown of an op

-- an op with number k is refused with 25 or 29 only, and only if it is a recv
abbrev pub At : ℕ → ℕ → Type 0
At k m = Waits m × (k ≡ recv_op)

module _ (code : List Op) (i : ℕ) (st : State) (o : Op) where
  pub record Shown (k : ℕ) (x : Answer Effect) : Type 0 where
    pub told : Told (At k) x
    pub good : (codes : List (List Instruction)) → Running codes i code st o → o.number ≡ k → Good codes i st.mail x

  -- a fact that holds where a sound process is at the op with number k
  abbrev If : ℕ → (List (List Instruction) → Type 0) → Type 0
  If k F = (codes : List (List Instruction)) → Running codes i code st o → o.number ≡ k → F codes

  ends_shown : (k : ℕ) (v : Value) → If k (λ c. So (value_sound v)) → Shown k (ends st v)
  unfolding ended
  ends_shown k v h = record { told = tt; good = λ codes g e. ends_good codes i st v (h codes g e) g.alive.apart }

  stays_shown : (k : ℕ) → eqb k recv_op ≡ false → Shown k (becomes st (advanced st.process))
  unfolding advanced
  stays_shown k h = record {
    told = tt;
    good = λ codes g e. becomes_alive codes i st _ (advanced_alive codes i code st o g (other_op codes i code st o g k e h) st.process g.alive refl refl);
  }

  sets_shown : (k : ℕ) → eqb k recv_op ≡ false → (r : ℕ) (v : Value) → If k (λ c. So (value_sound v)) → Shown k (sets_register st r v)
  unfolding advanced
  sets_shown k h r v f = record {
    told = tt;
    good = λ codes g e. becomes_alive codes i st _ (set_alive codes i code st o g (other_op codes i code st o g k e h) r v (f codes g e));
  }

  traps_shown : (f : Bool) → Shown 8 (becomes st (advanced (trapped st.process f)))
  unfolding advanced trapped
  traps_shown f = record {
    told = tt;
    good = λ codes g e.
        let trapping = trapped_alive codes i st.process st.mail g.alive f in
        becomes_alive codes i st _ (advanced_alive codes i code st o g (other_op codes i code st o g 8 e refl) (trapped st.process f) trapping refl refl);
  }

  -- a target: within the code, and on no part of a recv
  abbrev Lands : List (List Instruction) → Type 0
  Lands codes = So (leb o.target (length (map instruction code))) × So (not (on_part (map instruction code) o.target))

  moves_shown : (k : ℕ) → If k Lands → Shown k (becomes st (moved st.process o.target))
  unfolding moved
  moves_shown k h = record {
    told = tt;
    good = λ codes g e. let w = h codes g e in becomes_alive codes i st _ (moved_good codes i code st o g o.target w.0 w.1);
  }

  jumps_shown : (k : ℕ) → eqb k recv_op ≡ false → If k Lands → (b : Bool) → Shown k (jumps_if st b o.target)
  jumps_shown k h l b = jumps_any st (Shown k) o.target (moves_shown k l) (stays_shown k h) b

  -- the process as q: its sets may differ, its behaviour and place do not
  abbrev Kin : Process → List (List Instruction) → Type 0
  Kin q codes = Alive codes i q st.mail × (q.behaviour.0 ≡ st.process.behaviour.0) × (q.place ≡ st.process.place)

  abbrev r : Value
  r = register st.process o.r

  abbrev s : Value
  s = register st.process o.s

  value_sound_lem : (k n : ℕ) → If k (λ c. So (value_sound (register st.process n)))
  value_sound_lem k n codes g e = register_good codes i code st o g n

  -- a process number in a register is one
  pid_sound : (k j : ℕ) → r ≡ pid j → If k (λ c. So (is_number j))
  pid_sound k j q codes g e = subst (λ (v : Value). So (value_sound v)) q (value_sound_lem k o.r codes g e)

  -- a signal to the process j that r names, from the process as q j, whose place rises
  sends_shown : (k : ℕ) → eqb k recv_op ≡ false → (q : ℕ → Process) (x : Signal) → ((j : ℕ) → r ≡ pid j → If k (λ c. So (signal_sound i j x) × Kin (q j) c)) → Shown k (sends_to st r q x)
  unfolding advanced
  sends_shown k h q x f =
      sends_to_any st (Shown k) r q x
      (λ j n. record {
        told = tt;
        good = λ codes g e.
            let w = f j n codes g e in
            let next = advanced_alive codes i code st o g (other_op codes i code st o g k e h) (q j) w.1.0 w.1.1 w.1.2 in
            sends_alive codes i st _ j x next (pid_sound k j n codes g e) w.0;
      })
      (ends_shown k badarg (λ c g e. refl))

  send_shown : (k : ℕ) → eqb k recv_op ≡ false → (x : Signal) → ((j : ℕ) → If k (λ c. So (signal_sound i j x))) → Shown k (sends_to st r (λ j. st.process) x)
  send_shown k h x f = sends_shown k h (λ j. st.process) x (λ j n c g e. (f j c g e, (g.alive, refl, refl)))

  -- link, unlink, monitor and demonitor go to another process
  others_shown : (k : ℕ) → eqb k recv_op ≡ false → (q : ℕ → Process) (x : Signal) → ((j : ℕ) → So (not (eqb i j)) → So (signal_sound i j x)) →
      ((j : ℕ) → eqb j i ≡ false → So (is_number j) → If k (Kin (q j))) → Shown k (to_other i st r (sends_to st r q x))
  unfolding same_value
  others_shown k h q x signal alive =
      to_other_any st (Shown k) i r _ (stays_shown k h) (λ d. sends_shown k h q x (λ j n c g e.
      let apart : eqb j i ≡ false = rw n at d in
      (signal j (rw (ne_eqb i j (λ m. eqb-false j i apart (sym m)))), alive j apart (pid_sound k j n c g e) c g e)))

  linked_shown : Shown 6 (to_other i st r (sends_to st r (linked st.process) Link))
  unfolding linked
  linked_shown = others_shown 6 refl (linked st.process) Link (λ j h. h) (λ j d n codes g e. (linked_alive codes i st.process st.mail g.alive j g.number n d, refl, refl))

  unlinked_shown : Shown 7 (to_other i st r (sends_to st r (unlinked st.process) Unlink))
  unfolding unlinked
  unlinked_shown = others_shown 7 refl (unlinked st.process) Unlink (λ j h. h) (λ j d n codes g e. (unlinked_alive codes i st.process st.mail g.alive j, refl, refl))

  watching_shown : Shown 16 (to_other i st r (sends_to st r (watching st.process) Monitor))
  unfolding watching
  watching_shown = others_shown 16 refl (watching st.process) Monitor (λ j h. h) (λ j d n codes g e. (watching_alive codes i st.process st.mail g.alive j g.number n d, refl, refl))

  unwatching_shown : Shown 17 (to_other i st r (sends_to st r (unwatching st.process) Demonitor))
  unfolding unwatching
  unwatching_shown = others_shown 17 refl (unwatching st.process) Demonitor (λ j h. h) (λ j d n codes g e. (unwatching_alive codes i st.process st.mail g.alive j, refl, refl))

  spawns_shown : Shown 9 (spawns i st o)
  unfolding advanced
  spawns_shown = record {
    told = tt;
    good = λ codes g e. spawn_good codes i code st o g e;
  }

  receives_shown : Shown recv_op (receives code st o)
  unfolding moved
  receives_shown = record {
    told = receives_any st (Told (At recv_op)) code o (inl refl, refl) (inr refl, refl) (λ f q. tt);
    good = λ codes g e. receives_any st (Good codes i st.mail) code o tt tt (fit_good codes i code st o g e);
  }

  -- where operand j of the op is a place, it is within the code and on no part of a recv
  lands : (k j : ℕ) → j < length (kinds_of k) → get_or (kinds_of k) j NoOperand ≡ PlaceT → If k Lands
  lands k j h p c g e = target_at (length c) code (checked c i code st o g) st.process.place g.inside o g.here k j e h p

  stops_shown : (k : ℕ) → Shown k (stops st o)
  stops_shown k = ends_shown k r (value_sound_lem k o.r)

  -- the table of what ops do has a row to an op of node's table
  rows_all : length (op_table code i st o) ≡ op_count
  rows_all = refl

  -- a row to an op
  rows : Each Shown 0 (op_table code i st o)
  unfolding kinds_of operand operand_in_range
  rows =
      sets_shown 0 refl o.r o.value (λ c g e. operand_good c i code st o g 0 1 e (omega arith))
      then sets_shown 1 refl o.r s (value_sound_lem 1 o.s)
      then sets_shown 2 refl o.r (pid i) (λ c g e. g.number)
      then adds_any st (Shown 3) o.r (λ z h. sets_shown 3 refl o.r (Int z) (λ c g e. h)) (ends_shown 3 badarith (λ c g e. refl)) r s
      then send_shown 4 refl (Msg s) (λ j. value_sound_lem 4 o.s)
      then send_shown 5 refl (Exit s false) (λ j. value_sound_lem 5 o.s)
      then linked_shown
      then unlinked_shown
      then traps_shown (eqb o.small 1)
      then spawns_shown
      then receives_shown
      then stays_shown clause_op refl
      then moves_shown 12 (lands 12 0 (omega arith) refl)
      then jumps_shown 13 refl (lands 13 2 (omega arith) refl) (same_value r o.value)
      then compares_any st (Shown 14) o.target (jumps_shown 14 refl (lands 14 2 (omega arith) refl)) (ends_shown 14 badarg (λ c g e. refl)) r s
      then stops_shown 15
      then watching_shown
      then unwatching_shown
      then stays_shown after_op refl
      then last

  pub op_shown : Shown o.number (runs_op code i st o)
  unfolding runs_op
  op_shown = rw zero-add at (each_at Shown 0 (op_table code i st o) (stops st o) rows stops_shown o.number)
