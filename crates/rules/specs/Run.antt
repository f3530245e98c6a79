-- Running (document 01, "Run, live", "Ending" and "Run, closing").
--   integer_in v          the integer that value v is, if it is one
--   process_in v          the process that value v names, if it names one
--   on_integers           what is done with two integers; the process ends where one of them is none
--   sets_register, jumps_if, sets_sum, adds, compares, spawns   what single ops do
--   to_process            what is done with the process that a value names; the process ends where it names none
--   sends_to st v q x     x is sent to the process j that v names, by a process that becomes q j
--   to_other i st v a     answer a, where v is not process i's own number; else nothing but the place changes
--   op_table, runs_op      what process i does at op o of its code, by the op's number; a row to an op of node's table
--   closes st            what a closing process does
--   runs code i st       what a run of process i does; code is that of its behaviour
use Rattle.std.specs.Prelude.{Bool, true, false, cond, List, [], ◌∷◌, ℕ, zero, suc, leb, eqb, ℤ, ◌+ℤ◌, length, get_or}
use Rattle.std.proofs.Math.Option.{Option, none, some}
use Rattle.std.specs.Int.Signed.{lt_z}
use Rattle.node.specs.declared.Op.{Op}
use Rattle.node.specs.declared.Process.{Process}
use Rattle.node.specs.declared.Signal.{Signal}
use Rattle.node.specs.declared.Signal.TheVariants.{Msg, Exit, Link, Unlink, Monitor, Demonitor, Down}
use Rattle.node.specs.declared.Stage.{Stage}
use Rattle.node.specs.declared.Stage.TheVariants.{Unborn, Live, Closing, Gone}
use Rattle.node.specs.declared.Value.{Value}
use Rattle.node.specs.declared.Value.TheVariants.{Int, Atom, Pid}
use Rattle.node.specs.Nodes.{no_op}
use Rattle.node.specs.Processes.{fresh, register, with_register, moved, advanced, trapped, linked, unlinked, watching, unwatching, unwatched, gone}
use Rattle.node.specs.Sets.{lowest_peer}
use Rattle.node.specs.Values.{normal, badarg, badarith, pid, fits_int, same_value}
use Rattle.rules.specs.Answers.{Answer, refused, done, owner_unborn, owner_gone}
use Rattle.rules.specs.Effects.{State, Effect, unchanged, becomes, ends, sends}
use Rattle.rules.specs.Receive.{receives}

-- "unless said, the place rises by 1"
abbrev pub sets_register : State → ℕ → Value → Answer Effect
sets_register st r v = becomes st (advanced (with_register st.process r v))

abbrev pub jumps_if : State → Bool → ℕ → Answer Effect
jumps_if st b t = becomes st (cond b (moved st.process t) (advanced st.process))

-- the one function that knows which values are integers
abbrev pub integer_in : Value → Option ℤ
integer_in (Int z) = some z
integer_in (Atom a) = none
integer_in (Pid j) = none

-- "not both integers": ends with v
abbrev pub on_integers : State → Value → Option ℤ → Option ℤ → (ℤ → ℤ → Answer Effect) → Answer Effect
on_integers st v (some x) (some y) f = f x y
on_integers st v (some x) none f = ends st v
on_integers st v none y f = ends st v

-- "not both integers, or sum outside i: ends with a4"
abbrev pub sets_sum : State → ℕ → ℤ → ℤ → Answer Effect
sets_sum st r x y = cond (fits_int (x +ℤ y)) (sets_register st r (Int (x +ℤ y))) (ends st badarith)

abbrev pub adds : State → ℕ → Value → Value → Answer Effect
adds st r v w = on_integers st badarith (integer_in v) (integer_in w) (sets_sum st r)

-- "not both integers: ends with a3"
abbrev pub compares : State → ℕ → Value → Value → Answer Effect
compares st t v w = on_integers st badarg (integer_in v) (integer_in w) (λ x y. jumps_if st (lt_z x y) t)

-- the one function that knows which values are process numbers
abbrev pub process_in : Value → Option ℕ
process_in (Int z) = none
process_in (Atom a) = none
process_in (Pid j) = some j.0

-- "If r of send, exit, link or unlink holds no p, the process ends with a3, before 26 is looked at"; of monitor and demonitor too
abbrev pub to_process : State → Option ℕ → (ℕ → Answer Effect) → Answer Effect
to_process st none f = ends st badarg
to_process st (some j) f = f j

abbrev pub sends_to : State → Value → (ℕ → Process) → Signal → Answer Effect
sends_to st v q x = to_process st (process_in v) (λ j. sends st (advanced (q j)) j x)

-- link, unlink, monitor and demonitor "to itself: nothing"
abbrev pub to_other : ℕ → State → Value → Answer Effect → Answer Effect
to_other i st v a = cond (same_value v (pid i)) (becomes st (advanced st.process)) a

abbrev pub spawns : ℕ → State → Op → Answer Effect
spawns i st o = done (record {
  process = advanced (with_register st.process o.r (Pid o.process));
  mail = unchanged;
  sent = none;
  born = some (record { number = o.process.0; process = fresh o.behaviour (pid i) });
})

abbrev pub stops : State → Op → Answer Effect
stops st o = ends st (register st.process o.r)

-- the ops by number
abbrev pub op_table : List Op → ℕ → State → Op → List (Answer Effect)
op_table code i st o =
    let p = st.process in
    let r = register p o.r in
    let s = register p o.s in
    sets_register st o.r o.value  -- set,r,V
    ∷ sets_register st o.r s  -- copy,r,s
    ∷ sets_register st o.r (pid i)  -- self,r
    ∷ adds st o.r r s  -- add,r,s
    ∷ sends_to st r (λ j. p) (Msg s)  -- send,r,s
    ∷ sends_to st r (λ j. p) (Exit s false)  -- exit,r,s
    ∷ to_other i st r (sends_to st r (linked p) Link)  -- link,r
    ∷ to_other i st r (sends_to st r (unlinked p) Unlink)  -- unlink,r
    ∷ becomes st (advanced (trapped p (eqb o.small 1)))  -- trap,f
    ∷ spawns i st o  -- spawn,r,b,q
    ∷ receives code st o  -- recv,n
    ∷ becomes st (advanced p)  -- clause, which no place of a sound node is on
    ∷ becomes st (moved p o.target)  -- jump,t
    ∷ jumps_if st (same_value r o.value) o.target  -- same,r,V,t
    ∷ compares st o.target r s  -- less,r,s,t
    ∷ stops st o  -- stop,r
    ∷ to_other i st r (sends_to st r (watching p) Monitor)  -- monitor,r
    ∷ to_other i st r (sends_to st r (unwatching p) Demonitor)  -- demonitor,r
    ∷ becomes st (advanced p)  -- after, which no place of a sound node is on
    ∷ []

-- a number past the table, which no op of a sound node has, is read as stop
unfoldable pub runs_op : List Op → ℕ → State → Op → Answer Effect
runs_op code i st o = get_or (op_table code i st o) o.number (stops st o)

-- "sends exit(v,1) to its lowest-numbered link and drops it from the set"; then down(v) to its watchers, "one a run, lowest first, after its
-- exit signals, and goes gone only then"
abbrev pub closes_to : State → ℕ → ℕ → Answer Effect
closes_to st (suc j) w = sends st (unlinked st.process (suc j)) (suc j) (Exit st.process.reason true)
closes_to st zero (suc j) = sends st (unwatched st.process (suc j)) (suc j) (Down st.process.reason)
closes_to st zero zero = becomes st (gone st.process)

unfoldable pub closes : State → Answer Effect
closes st = closes_to st (lowest_peer st.process.links) (lowest_peer st.process.watchers)

-- "At place N the process ends with a0. Otherwise the op decides"
unfoldable pub runs_live : List Op → ℕ → State → Answer Effect
runs_live code i st = cond (leb (length code) st.process.place) (ends st normal) (runs_op code i st (get_or code st.process.place no_op))

abbrev pub runs_in : Stage → List Op → ℕ → State → Answer Effect
runs_in Unborn code i st = refused owner_unborn
runs_in Live code i st = runs_live code i st
runs_in Closing code i st = closes st
runs_in Gone code i st = refused owner_gone

unfoldable pub runs : List Op → ℕ → State → Answer Effect
runs code i st = runs_in st.process.stage code i st
