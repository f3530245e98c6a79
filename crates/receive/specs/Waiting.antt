-- A process that waits at a recv, and giving up on it.
--   awaits p len o               a process whose code has len ops and which is at op o is live at a recv
--   is_fit s                      the search gives a fit
--   timeout_refusal s t n len o   the refusal of a timeout at a recv with n clauses at place t of a code of len ops, where the search answers s and
--                                o is read behind the clauses: 28 unless no message fits and o is an `after` within the code
use Rattle.std.specs.Prelude.{Bool, true, false, cond, not, ◌&&◌, ℕ, ◌+◌, eqb, ltb}
use Rattle.node.specs.declared.Op.{Op}
use Rattle.node.specs.declared.Process.{Process}
use Rattle.node.specs.Ops.{recv_op, after_op}
use Rattle.rules.specs.Answers.{no_timeout}
use Rattle.rules.specs.Receive.{Searched, silent, unfit, fit}
use Rattle.rules.specs.Timeout.{is_live}

unfoldable pub awaits : Process → ℕ → Op → Bool
awaits p len o = is_live p.stage && ltb p.place len && eqb o.number recv_op

abbrev pub is_fit : Searched → Bool
is_fit silent = false
is_fit unfit = false
is_fit (fit f) = true

unfoldable pub timeout_refusal : Searched → ℕ → ℕ → ℕ → Op → ℕ
timeout_refusal s t n len o = cond (not (is_fit s) && ltb (t + 1 + n) len && eqb o.number after_op) 0 no_timeout
