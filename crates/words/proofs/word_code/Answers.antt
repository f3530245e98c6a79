-- `word_code` gives the number of a word. The invariant: the letters behind those that are left give the number so far. Assumes nothing.
use mathlib.Core.Path.{sym, ◌∙◌}
use native.Mathlib.Omega.{arith}
use Rattle.words.proofs.Words.{letter_bounds, read_none, read_letter, read_below, read_all, long_none, letter_none}
use Rattle.words.proofs.word_code.Goals as goal

pub returns-then-word-gt9 : goal.returns-then-word-gt9
returns-then-word-gt9 c = long_none _ c.if-word-gt9.true

pub loop-b-init : goal.loop-b-init
loop-b-init c = rw (c.into_iter-b-iterator.ensures.into_iter_gives, c.rev-b-items.ensures.source, c.iter.ensures.rest) (read_none _)

pub returns-then-not-is_ascii_lowercase : goal.returns-then-not-is_ascii_lowercase
returns-then-not-is_ascii_lowercase c =
    letter_none c.loop-b.invariant _ _ c.in-Some.ensures.steps (sym c.is_ascii_lowercase.ensures.value ∙ c.if-not-is_ascii_lowercase.true)

pub overflow_mul-code : goal.overflow_mul-code
overflow_mul-code c = record { fits = omega (arith, read_below c.if-word-gt9.false c.loop-b.invariant) }

pub overflow_add-code : goal.overflow_add-code
overflow_add-code c =
    let letter = letter_bounds c.in-Some.b.now (sym c.is_ascii_lowercase.ensures.value ∙ c.if-not-is_ascii_lowercase.false) in
    record { fits = omega (arith, read_below c.if-word-gt9.false c.loop-b.invariant, c.from.ensures, letter) }

pub loop-b-preserved : goal.loop-b-preserved
loop-b-preserved c =
    let letter = sym c.is_ascii_lowercase.ensures.value ∙ c.if-not-is_ascii_lowercase.false in
    read_letter c.loop-b.invariant _ _ c.in-Some.ensures.steps letter (omega (arith, c.from.ensures))

pub returns : goal.returns
returns c = read_all _ c.if-word-gt9.false c.loop-b.invariant c.in-None.ensures.steps.0
