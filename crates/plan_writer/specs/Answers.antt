-- What the writer answers, and what it leaves in the lent buffer (document 02, M-103).
--   codes_of b                the behaviours that b holds, as document 01 writes them
--   start_fits c last s       a start of a plan with c behaviours, behind one of process `last`
--   starts_rise c last ss     so does each of some starts, each behind the one before
--   starts_sound c starts     1 to 16 starts that rise
--   plan_sound codes starts   the form of a plan: what some accepted plan text holds
--   write_told codes starts old    the answer of `write_plan` on the buffer `old`: 31, 30, or the length
--   write_shown codes starts old   the buffer behind it
use Rattle.std.specs.Prelude.{Bool, true, ◌&&◌, cond, List, [], ◌∷◌, ℕ, leb, ltb, length}
use Rattle.node.specs.declared.Behaviours.{Behaviours}
use Rattle.node.specs.declared.Start.{Start}
use Rattle.node.specs.Lists.{all_of}
use Rattle.rules.specs.Answers.{not_sound}
use Rattle.rules.specs.Behaviours.{Instruction, code_sound}
use Rattle.behaviours.specs.Codes.{codes_in}
use Rattle.listing.specs.Answers.{Listed, refused_with, told, shown}
use Rattle.plan_writer.specs.Texts.{plan_text}

abbrev pub codes_of : Behaviours → List (List Instruction)
codes_of b = codes_in b.count b.lens b.ops

-- "`start=process,behaviour`, the behaviour up to the plan's count"; "13 start numbers not rising"
abbrev pub start_fits : ℕ → ℕ → Start → Bool
start_fits c last s = ltb last s.process.0 && leb s.process.0 16 && (leb 1 s.behaviour.0 && leb s.behaviour.0 c)

unfoldable pub starts_rise : ℕ → ℕ → List Start → Bool
starts_rise c last [] = true
starts_rise c last (s ∷ ss) = start_fits c last s && starts_rise c s.process.0 ss

-- "`starts=` 1 to 16"
abbrev pub starts_sound : ℕ → List Start → Bool
starts_sound c starts = leb 1 (length starts) && leb (length starts) 16 && starts_rise c 0 starts

-- "`behaviours=` 1 to 8", each of which passes the plan's rules (12 and 14)
unfoldable pub plan_sound : List (List Instruction) → List Start → Bool
plan_sound codes starts =
    leb 1 (length codes) && leb (length codes) 8 && all_of (code_sound (length codes)) codes
    && starts_sound (length codes) starts

-- "turned down as 31"; "A buffer too short is 30 and stays unchanged", and one as long as the text is enough
unfoldable pub write_told : List (List Instruction) → List Start → List ℕ → Listed
write_told codes starts old = cond (plan_sound codes starts) (told old (plan_text codes starts)) (refused_with not_sound)

unfoldable pub write_shown : List (List Instruction) → List Start → List ℕ → List ℕ
write_shown codes starts old = cond (plan_sound codes starts) (shown old (plan_text codes starts)) old
