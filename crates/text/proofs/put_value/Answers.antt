-- `put_value` writes a value: its letter, then its number. Assumes nothing.
use mathlib.Core.Path.{ap}
use borrow.Author.Rules.{rules}
use Rattle.text.specs.Values.{number_text}
use Rattle.text.proofs.Signs.{wrote_read}
use Rattle.text.proofs.Values.{wrote_value}
use Rattle.text.proofs.put_value.Goals as goal

pub returns-in-Int : goal.returns-in-Int
unfolding number_text
returns-in-Int c =
    let letter-of = c.letter_of in
    let put_byte = c.put_byte-e in
    let put-int = c.put_int in
    wrote_value _ letter-of.ensures (ap number_text c.in-Int.is) put_byte.ensures (wrote_read c.in-Int.z (search rules) put-int.ensures)

pub returns-in-Atom : goal.returns-in-Atom
unfolding number_text
returns-in-Atom c =
    let letter-of = c.letter_of in
    let put_byte = c.put_byte-e in
    let put-number = c.put_number in
    wrote_value _ letter-of.ensures (ap number_text c.in-Atom.is) put_byte.ensures put-number.ensures

pub returns-in-Pid : goal.returns-in-Pid
unfolding number_text
returns-in-Pid c =
    let letter-of = c.letter_of in
    let put_byte = c.put_byte-e in
    let put-number2 = c.put_number-in-Pid in
    wrote_value _ letter-of.ensures (ap number_text c.in-Pid.is) put_byte.ensures put-number2.ensures
