-- The guarantees on plans that are written (document 02, M-103). Each is proved in proofs/RoundTrips.antt under the name beside it.
--   codes_held n  starts_held n   what a writer takes of the node that a load gave
--   Holds text codes starts   plan text that is accepted, with these behaviours and these starts
--   WrittenLoads  written_loads   "Loading that text gives the same behaviours and starts"
--   LoadedWrites  loaded_writes   "writing a loaded plan gives its very bytes"
--   ToldExactly   told_exactly    "Behaviours or starts that no accepted plan text holds are turned down as 31", and no others are
--   OneText       one_text        accepted texts with the same behaviours and the same starts are one text
--   Short         short           no text that is written has more than `longest_plan` bytes, so 10 meets none
use Rattle.std.proofs.Math.Bool.{So}
use Rattle.std.specs.Prelude.{List, ◌≡◌, ℕ, ◌≤◌, length}
use Rattle.node.specs.declared.Behaviours.{Behaviours}
use Rattle.node.specs.declared.Node.{Node}
use Rattle.node.specs.declared.Start.{Start}
use Rattle.node.specs.declared.Starts.{Starts}
use Rattle.node.specs.Starts.{node_behaviours, node_starts, starts_in}
use Rattle.rules.specs.Answers.{not_sound}
use Rattle.rules.specs.Behaviours.{Instruction}
use Rattle.plan.specs.Plans.{load_of}
use Rattle.plan_writer.specs.Answers.{codes_of, plan_sound, write_told}
use Rattle.plan_writer.specs.Texts.{longest_plan, plan_text}

abbrev pub codes_held : Node → List (List Instruction)
codes_held n = codes_of (node_behaviours n)

abbrev pub starts_held : Node → List Start
starts_held n = starts_in (node_starts n)

pub record Holds (text : List ℕ) (codes : List (List Instruction)) (starts : List Start) : Type 0 where
  pub number : (load_of text).number ≡ 0
  pub line : (load_of text).line ≡ 0
  pub behaviours : codes_held (load_of text).node ≡ codes
  pub row : starts_held (load_of text).node ≡ starts

abbrev pub WrittenLoads : Type 0
WrittenLoads =
    (b : Behaviours) (s : Starts) → So (plan_sound (codes_of b) (starts_in s)) →
    Holds (plan_text (codes_of b) (starts_in s)) (codes_of b) (starts_in s)

abbrev pub LoadedWrites : Type 0
LoadedWrites =
    (text : List ℕ) → (load_of text).number ≡ 0 →
    plan_text (codes_held (load_of text).node) (starts_held (load_of text).node) ≡ text

-- for every buffer
abbrev pub ToldExactly : Type 0
ToldExactly =
    (b : Behaviours) (s : Starts) (old : List ℕ) →
    (((text : List ℕ) → Holds text (codes_of b) (starts_in s) → ⊥) → (write_told (codes_of b) (starts_in s) old).number ≡ not_sound)
    × ((write_told (codes_of b) (starts_in s) old).number ≡ not_sound → (text : List ℕ) → Holds text (codes_of b) (starts_in s) → ⊥)

abbrev pub OneText : Type 0
OneText = (s t : List ℕ) (codes : List (List Instruction)) (starts : List Start) → Holds s codes starts → Holds t codes starts → s ≡ t

abbrev pub Short : Type 0
Short = (b : Behaviours) (s : Starts) → So (plan_sound (codes_of b) (starts_in s)) → length (plan_text (codes_of b) (starts_in s)) ≤ longest_plan
