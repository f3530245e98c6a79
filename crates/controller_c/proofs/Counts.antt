-- What is told of the clauses that a search consults, and what that number says. Assumes nothing.
--   count_refused count_reached   what is told: one of the texts is refused, and none is
--   count_told_lem   of accepted texts the count is told where the process is live at a recv in the node that is reached, which is at most 128, else the
--                largest number: a caller can tell the two apart
use mathlib.Core.Bool.{Bool, true, false, cond}
use mathlib.Core.List.{List}
use mathlib.Core.Logic.{◌⊎◌, inl, inr}
use mathlib.Core.Option.{Option, none, some}
use mathlib.Core.Path.{◌≡◌, refl, ap, ◌∙◌}
use Prim.Native.Nat.{ℕ, ◌≤◌}
use borrow.Author.Tests.{eq-eqb}
use Rattle.consult.proofs.Recvs.{recv_number, consulted_bound}
use Rattle.controller.specs.Program.{steps}
use Rattle.node.specs.declared.Node.{Node}
use Rattle.plan.specs.Plans.{Loaded, load_of}
use Rattle.plan.proofs.Sound.{loaded_sound}
use Rattle.rules.specs.Answers.{Answer, done}
use Rattle.rules.specs.Consult.{consulted, clauses_of, at_recv, consultation}
use Rattle.rules.specs.Nodes.{Sound, mailbox}
use Rattle.rules.specs.Steps.{play}
use Rattle.rules.proofs.Commits.{play_sound}
use Rattle.schedule.specs.Reading.{Schedule, schedule_of}
use Rattle.text.specs.Writing.{top}
use Rattle.controller_c.specs.Exported.{reached_by, exported_count, counted}
use Rattle.controller_c.proofs.Reaches.{reached_refused, reached_told}

module _ (x : Loaded) (s : Schedule) (i : ℕ) where
  pub count_refused : none ≡ reached_by x s → top ≡ counted x s i
  unfolding counted
  count_refused h = reached_refused (λ m. exported_count (consultation m i)) h

  pub count_reached : {n : Node} → some n ≡ reached_by x s → {a : Answer (Option ℕ)} {k : ℕ} → a ≡ consultation n i → k ≡ exported_count a → k ≡ counted x s i
  unfolding counted
  count_reached h e f = reached_told (λ m. exported_count (consultation m i)) h (f ∙ ap exported_count e)

-- ---- what the number says

module _ (n : Node) (i : ℕ) where
  -- k says how many clauses a search of the mailbox of process i consults
  abbrev Says : ℕ → Type 0
  Says k = ((at_recv n i ≡ true) × (k ≡ consulted (clauses_of n i) (mailbox n i)) × (k ≤ 128)) ⊎ ((at_recv n i ≡ false) × (k ≡ top))

  says : Sound n → Says (exported_count (consultation n i))
  unfolding consultation
  says s = rw s (go (at_recv n i) refl)
    where
      go : (b : Bool) → at_recv n i ≡ b → Says (exported_count (done (cond b (some (consulted (clauses_of n i) (mailbox n i))) none)))
      go true e = inl (e, refl, consulted_bound n s i (recv_number n i e) e)
      go false e = inr (e, refl)

pub count_told_lem : (p q : List ℕ) (i : ℕ) → (load_of p).number ≡ 0 → (schedule_of q).number ≡ 0
    → Says (play (load_of p).node (steps (schedule_of q))).node i (counted (load_of p) (schedule_of q) i)
unfolding counted reached_by
count_told_lem p q i h g = rw (eq-eqb (load_of p).number 0 h, eq-eqb (schedule_of q).number 0 g) (says _ i (play_sound (load_of p).node (steps (schedule_of q)) (loaded_sound p)))
