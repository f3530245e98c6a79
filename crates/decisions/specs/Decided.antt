-- What the owner of a step decides, and what is then told (document 01, "The three hands").
--   decided_of t p c x len o k   the decision of the step that t says: p is its owner's process, whose code has len ops and which is at op o
--                               and has k messages; its row has c signals, of which x is the oldest
--   pair_refusal refusal c       the refusal of a decision that sends, where c signals are in flight to the receiver: its own, or 26
--   birth_refusal refusal old    of one that spawns, where the process of that number is old: its own, or 27
use Rattle.std.specs.Prelude.{cond, ℕ, eqb, leb}
use Rattle.decisions.specs.Records.{Decision}
use Rattle.decisions.specs.Answers.{refusing, ran, arrived, expired}
use Rattle.node.specs.declared.Op.{Op}
use Rattle.node.specs.declared.Process.{Process}
use Rattle.node.specs.declared.Signal.{Signal}
use Rattle.rules.specs.Answers.{bad_number, owner_unborn, none_in_flight, pair_full, not_unborn}
use Rattle.rules.specs.Steps.{is_unborn}
use Rattle.actions.specs.declared.Decoded.{Decoded}

unfoldable pub decided_of : Decoded → Process → ℕ → Signal → ℕ → Op → ℕ → Decision
decided_of t p c x len o k =
    cond t.bad (refusing p bad_number)
    (cond (is_unborn p.stage) (refusing p owner_unborn)
    (cond t.arrives
    (cond (eqb c 0) (refusing p none_in_flight) (arrived t.owner t.from p k x))
    (cond t.expires (expired t.owner p len o)
    (ran t.owner p len o))))

unfoldable pub pair_refusal : ℕ → ℕ → ℕ
pair_refusal refusal c = cond (eqb refusal 0) (cond (leb 4 c) pair_full 0) refusal

unfoldable pub birth_refusal : ℕ → Process → ℕ
birth_refusal refusal old = cond (eqb refusal 0) (cond (is_unborn old.stage) 0 not_unborn) refusal
