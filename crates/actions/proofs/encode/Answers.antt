-- `encode` computes the number of a step. Assumes nothing.
use borrow.Author.Rules.{rules}
use mathlib.Core.Path.{refl}
use Rattle.actions.specs.Numbers.{encode}
use Rattle.actions.proofs.Decoding.{decode_encode}
use Rattle.actions.proofs.encode.Goals as goal

pub returns : goal.returns
unfolding encode
returns c =
    record { value = refl; result_value = decode_encode c.args.s (search rules) (search rules) (search rules) }
