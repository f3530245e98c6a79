-- `put_bytes` stores a text at once, as far as it has room. Assumes nothing.
use native.Mathlib.Omega.{arith}
use Rattle.text.proofs.Stores.{stored, stored_part, stored_none}
use Rattle.text.proofs.put_bytes.Goals as goal

pub returns-then-end-out : goal.returns-then-end-out
returns-then-end-out c = stored _ _ _ (omega arith) c.saturating_add-end.ensures (omega arith) (omega arith) c.store.ensures

pub returns-then-at-out : goal.returns-then-at-out
returns-then-at-out c =
    stored_part _ _ _ (omega arith) c.saturating_add-end.ensures (omega arith) (omega arith) (omega arith) c.store-then-at-out.ensures

pub returns-else-at-out : goal.returns-else-at-out
returns-else-at-out c = stored_none _ _ _ (omega arith) c.saturating_add-end.ensures c.if-at-out.false
