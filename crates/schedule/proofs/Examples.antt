-- Worked examples of steps text; each is computed. Assumes nothing.
use mathlib.Core.List.{List, [], ◌∷◌, map}
use mathlib.Core.Path.{◌≡◌, refl}
use Prim.Native.Nat.{ℕ}
use lib.ListN.{take}
use Rattle.node.specs.Texts.{bytes}
use Rattle.text.specs.Numbers.{is_digit, unsigned_form, negative, unsigned, number_form, decimal, number_value, number_of, ranged_of}
use Rattle.text.specs.Parts.{split, in_front, line_then, last_apart, lines_of, fields_of, equal, starts_with}
use Rattle.actions.specs.Numbers.{encode}
use Rattle.schedule.specs.Reading.{packed_of, own_of, arrival_of, step_of, read_lines, first_malformed, steps_of, refused_text, accepted_steps, of_lines, schedule_of}

-- run=1, arrive=2,255 and timeout=3 are the steps 256, 65536 + 512 + 255 and 131072 + 768
steps : take 4 (schedule_of (bytes "run=1\narrive=2,255\ntimeout=3\n")).steps ≡ 256 ∷ 66303 ∷ 131840 ∷ 0 ∷ []
unfolding schedule_of of_lines read_lines first_malformed steps_of refused_text accepted_steps step_of own_of arrival_of packed_of encode lines_of last_apart line_then split in_front fields_of equal starts_with number_of number_form unsigned_form unsigned negative is_digit number_value decimal ranged_of
steps = refl

-- the malformed line told: none in the empty text and in run=0; the first of run=1, run=256, run=01; a last line without byte 10;
-- arrive=1, arrive=1,2,3, timeout=1,2 and timeout=256
lines : map (λ (text : List ℕ). (schedule_of text).line) (
    []
    ∷ bytes "run=0\n"
    ∷ bytes "run=1\nrun=256\nrun=01\n"
    ∷ bytes "run=1"
    ∷ bytes "arrive=1\n"
    ∷ bytes "arrive=1,2,3\n"
    ∷ bytes "timeout=1,2\n"
    ∷ bytes "timeout=256\n"
    ∷ [])
    ≡ 0 ∷ 0 ∷ 2 ∷ 1 ∷ 1 ∷ 1 ∷ 1 ∷ 1 ∷ []
unfolding schedule_of of_lines read_lines first_malformed steps_of refused_text accepted_steps step_of own_of arrival_of packed_of encode lines_of last_apart line_then split in_front fields_of equal starts_with number_of number_form unsigned_form unsigned negative is_digit number_value decimal ranged_of
lines = refl
