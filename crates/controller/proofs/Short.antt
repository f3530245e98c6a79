-- How long the program's answers are at most, whatever its two texts are. Assumes nothing.
--   program_short   what is printed has at most `longest_answer` bytes
--   program_told program_answered program_length   so a buffer of that length takes it: `simulate` never tells 30 there
use mathlib.Core.Bool.{Bool, true, false, cond}
use mathlib.Core.List.{List, ◌++◌}
use mathlib.Core.Path.{◌≡◌, sym, ◌∙◌, ap}
use Prim.Native.Nat.{ℕ, ◌≤◌}
use native.Mathlib.Omega.{arith}
use lib.Dec.{eqb}
use lib.ListN.{length, drop}
use Rattle.std.specs.Prelude.{Result}
use Rattle.std.specs.Result.{result_unwrap_or}
use Rattle.listing.proofs.Laws.{told_fits, told_length}
use Rattle.listing.proofs.Listings.{listing_short}
use Rattle.listing.specs.Answers.{Listed, listed_of, told, shown}
use Rattle.listing_lines.proofs.Longest.{Within, ◌⊕◌, exactly, loosely, digits_within, number_line_within}
use Rattle.node.specs.declared.Node.{Node}
use Rattle.node.specs.declared.Refusal.{Refusal}
use Rattle.node.specs.Texts.{bytes}
use Rattle.plan.proofs.Refusals.{load_told}
use Rattle.plan.proofs.Sound.{loaded_sound}
use Rattle.plan.specs.Plans.{Loaded, load_of}
use Rattle.rules.proofs.Order.{sound_kept}
use Rattle.rules.proofs.Refusals.{refusal_most, accepted_most}
use Rattle.rules.specs.Nodes.{Sound}
use Rattle.rules.specs.Steps.{Action, play}
use Rattle.schedule.proofs.Told.{Low, read_told}
use Rattle.schedule.specs.Reading.{Schedule, schedule_of}
use Rattle.controller.specs.Program.{load_key, steps_key, accepted_key, refused_key, refused_line, played_text, steps, after_load, program_text, longest_answer}

refused_within : (key : List ℕ) (k line : ℕ) → length key ≤ 6 → k ≤ 99 → line ≤ 99999 → Within (refused_line key k line) longest_answer
unfolding refused_line
refused_within key k line short h g =
    loosely longest_answer (omega arith)
    (exactly key ⊕ digits_within 1 k (omega arith) ⊕ exactly (bytes ",") ⊕ digits_within 4 line (omega arith) ⊕ exactly (bytes "\n"))

played_within : (n : Node) (l : List Action) → Sound n → Within (played_text (play n l)) longest_answer
unfolding played_text
played_within n l s =
    let r = play n l in
    loosely longest_answer (omega arith)
    (number_line_within accepted_key r.accepted (digits_within 3 r.accepted (omega (arith, accepted_most n l)))
    ⊕ number_line_within refused_key r.refusal (digits_within 1 r.refusal (omega (arith, refusal_most n l s)))
    ⊕ record { most = listing_short r.node (sound_kept.1 n l s) })

after_within : (l : Loaded) (s : Schedule) → Sound l.node → (l.number ≤ 14) × (l.line ≤ 16385) → Low s → Within (after_load l s) longest_answer
unfolding after_load
after_within l s sound h g = go (eqb l.number 0) (eqb s.number 0)
  where
    go : (a b : Bool) → Within (cond a (cond b (played_text (play l.node (steps s))) (refused_line steps_key s.number s.line)) (refused_line load_key l.number l.line)) longest_answer
    go true true = played_within l.node (steps s) sound
    go true false = refused_within steps_key s.number s.line (omega arith) (omega (arith, g.number)) (omega (arith, g.line))
    go false b = refused_within load_key l.number l.line (omega arith) (omega (arith, h.0)) (omega (arith, h.1))

module _ (plan steps : List ℕ) where
  pub program_short : length (program_text plan steps) ≤ longest_answer
  unfolding program_text
  program_short = (after_within (load_of plan) (schedule_of steps) (loaded_sound plan) (load_told plan) (read_told steps)).most

  -- a buffer of that length is never short
  pub program_told : (old : List ℕ) → longest_answer ≤ length old
      → (told old (program_text plan steps) ≡ record { number = 0; length = length (program_text plan steps) })
      × (shown old (program_text plan steps) ≡ program_text plan steps ++ drop (length (program_text plan steps)) old)
  program_told old h = told_fits old (program_text plan steps) (omega (arith, program_short))

  -- the answer of `simulate` into such a buffer: 0, the whole text and its length
  pub program_answered : (old : List ℕ) {x : Listed} {m : List ℕ} → longest_answer ≤ length old
      → (x ≡ told old (program_text plan steps)) × (m ≡ shown old (program_text plan steps))
      → (x.length ≡ length (program_text plan steps)) × (m ≡ program_text plan steps ++ drop x.length old)
  program_answered old {x} h p =
      let t = program_told old h in
      let e : x.length ≡ length (program_text plan steps) = ap (λ (y : Listed). y.length) (p.0 ∙ t.0) in
      (e, p.1 ∙ t.1 ∙ ap (λ (k : ℕ). program_text plan steps ++ drop k old) (sym e))

  -- the same of the answer itself, whose length is taken
  pub program_length : (old : List ℕ) (r : Result ℕ Refusal) {m : List ℕ} → longest_answer ≤ length old
      → (listed_of r ≡ told old (program_text plan steps)) × (m ≡ shown old (program_text plan steps))
      → (result_unwrap_or r 0 ≡ length (program_text plan steps)) × (m ≡ program_text plan steps ++ drop (result_unwrap_or r 0) old)
  program_length old r h p = rw (told_length r) (program_answered old h p)
