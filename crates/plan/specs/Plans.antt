-- Plan text (document 01, "Plan, steps and listing text" and the plan writer's numbers): from the lines of a text to a plan, from a plan
-- to the started node.
--   code_lines c              a line `code=` and its ops
--   start_lines c             a line `starts=` and its starts
--   Plan                      the codes of the behaviours, and the starts
--   before_first last_from    a number below that of every process; the process of the last of some starts
--   plan_lines                the lines of a plan
--   misplaced node            14: the line of the first op that is not well placed; 0 where there is none
--   remade n ..               n with behaviours and processes anew
--   with_code with_start      a node with one more behaviour, and with one more process started
--   node_of plan              the started node
--   Loaded                    what a load tells: the number, 10 to 14 or 0; the line, from 1, or 0; and the node
--   load_of text              what a load tells
use Rattle.std.specs.Prelude.{cond, List, [], ◌∷◌, ◌++◌, ℕ, ◌+◌, ◌-◌, ◌*◌, eqb, ltb, length, set, replicate}
use Rattle.std.proofs.lemmas.List.Edits.{sets}
use Rattle.node.specs.declared.Node.{Node}
use Rattle.node.specs.declared.Op.{Op}
use Rattle.node.specs.declared.Process.{Process}
use Rattle.node.specs.declared.ProcessNumber.{ProcessNumber}
use Rattle.node.specs.Mailboxes.{no_message}
use Rattle.node.specs.Nodes.{blank_node}
use Rattle.node.specs.Ops.{stop_op}
use Rattle.node.specs.Processes.{unborn, fresh}
use Rattle.node.specs.Rows.{no_signal}
use Rattle.node.specs.Values.{int_zero}
use Rattle.rules.specs.Nodes.{behaviours_of}
use Rattle.text.specs.Parts.{lines_of}
use Rattle.placement.specs.Misplaced.{first_code, misplaced_from}
use Rattle.plan_line.specs.Lines.{Start, behaviours_key, code_key, starts_key, header_line, count_line, op_line, start_line}
use Rattle.plan.specs.Reading.{Left, Read, bad, good, on_line, then_on, times, end_of}

-- "10 text above 16,384 bytes", "14, looked for after the last line"
abbrev pub text_too_long : ℕ
text_too_long = 10

abbrev pub ill_placed : ℕ
ill_placed = 14

-- ---- the lines of a plan

-- the process of the last start, i where there is none
abbrev pub last_from : ProcessNumber → List Start → ProcessNumber
last_from i [] = i
last_from i (s ∷ ss) = last_from s.process ss

pub record Plan : Type 0 where
  pub codes : List (List Op)
  pub starts : List Start

-- f reads one more, which is put behind the others
abbrev pub more : {A : Type 0} → (Left → Read A) → List A → Left → Read (List A)
more f xs l = then_on (f l) (λ x l. good (xs ++ (x ∷ [])) l)

-- "`code=` N (1 to 32) and N lines `op=`"
unfoldable pub code_lines : ℕ → Left → Read (List Op)
code_lines c l = then_on (on_line (count_line code_key 1 32) l) (λ n l. times n (more (on_line (op_line c n))) [] l)

-- a number below that of every process, for the first start to be above
abbrev pub before_first : ProcessNumber
before_first = record { 0 = 0 }

-- "then `starts=` 1 to 16 and lines `start=process,behaviour`"
abbrev pub start_more : ℕ → List Start → Left → Read (List Start)
start_more c starts = more (on_line (start_line c (last_from before_first starts))) starts

unfoldable pub start_lines : ℕ → Left → Read (List Start)
start_lines c l = then_on (on_line (count_line starts_key 1 16) l) (λ n l. times n (start_more c) [] l)

-- "Plan: `plan=1`, `behaviours=` 1 to 8, .."
unfoldable pub plan_lines : Left → Read Plan
plan_lines l =
    then_on (on_line header_line l) (λ x l.
    then_on (on_line (count_line behaviours_key 1 8) l) (λ c l.
    then_on (times c (more (code_lines c)) [] l) (λ codes l.
    then_on (start_lines c l) (λ starts l.
    end_of (record { codes = codes; starts = starts }) l))))

-- ---- 14

unfoldable pub misplaced : Node → ℕ
misplaced n = misplaced_from first_code (behaviours_of n)

-- ---- the started node

-- no behaviours, no processes
abbrev pub empty_node : Node
empty_node = record {
  count = 0;
  lens = replicate 8 0;
  ops = replicate 256 stop_op;
  processes = replicate 16 unborn;
  waiting = replicate 16 0;
  slots = replicate 256 no_message;
  counts = replicate 256 0;
  cells = replicate 1024 no_signal;
}

-- behaviours and processes anew, mail and signals as they are
abbrev pub remade : Node → ℕ → List ℕ → List Op → List Process → Node
remade n count lens ops processes = record {
  count = count;
  lens = lens;
  ops = ops;
  processes = processes;
  waiting = n.waiting;
  slots = n.slots;
  counts = n.counts;
  cells = n.cells;
}

-- the ops behind those of the other behaviours: their N, and the ops themselves on 32 places of their own
abbrev pub with_ops : Node → List Op → Node
with_ops n code = remade n n.count (set n.lens n.count (length code)) (sets n.ops (n.count * 32) code) n.processes

abbrev pub counted : Node → Node
counted n = remade n (n.count + 1) n.lens n.ops n.processes

-- a behaviour behind the others
abbrev pub with_code : Node → List Op → Node
with_code n code = counted (with_ops n code)

-- "started processes are as spawned, r0 being i0, all others unborn, nothing in flight"
abbrev pub with_start : Node → Start → Node
with_start n s = remade n n.count n.lens n.ops (set n.processes (s.process.0 - 1) (fresh s.behaviour int_zero))

-- f takes each of xs, in their order
abbrev pub with_each : {A : Type 0} → (Node → A → Node) → Node → List A → Node
with_each f n [] = n
with_each f n (x ∷ xs) = with_each f (f n x) xs

unfoldable pub node_of : Plan → Node
node_of p = with_each with_start (with_each with_code empty_node p.codes) p.starts

-- ---- the load

pub record Loaded : Type 0 where
  pub number : ℕ
  pub line : ℕ
  pub node : Node

-- "A refused load gives a blank node"
unfoldable pub refused_load : ℕ → ℕ → Loaded
refused_load k line = record { number = k; line = line; node = blank_node }

unfoldable pub checked : Plan → Loaded
checked p =
    cond (eqb (misplaced (node_of p)) 0)
    (record { number = 0; line = 0; node = node_of p })
    (refused_load ill_placed (misplaced (node_of p)))

abbrev pub loaded_from : Read Plan → Loaded
loaded_from (bad k n) = refused_load k n
loaded_from (good p l) = checked p

unfoldable pub load_of : List ℕ → Loaded
load_of text =
    cond (ltb 16384 (length text)) (refused_load text_too_long 0)
    (loaded_from (plan_lines (record { text = lines_of text; first = 1 })))
