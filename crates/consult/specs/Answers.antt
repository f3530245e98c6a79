-- What the answers of this crate mean in the rules.
--   consulted_of x   31, how many clauses are consulted, or none where the process is not live at a recv
use Rattle.std.proofs.Math.Option.{Option, none, some}
use Rattle.std.specs.Prelude.{ℕ, Option as Optional, Some, None, Result, Ok, Err}
use Rattle.rules.specs.Answers.{Answer, refused, done, not_sound}
use Rattle.soundness.specs.declared.NotSound.{NotSound}

abbrev pub consulted_of : Result (Optional ℕ) NotSound → Answer (Option ℕ)
consulted_of (Err e) = refused not_sound
consulted_of (Ok None) = done none
consulted_of (Ok (Some k)) = done (some k)
