-- What the search of a mailbox answers, and what follows from its answer.
--   found_of x           what an answer of the code stands for: with the number of document 01 for each (rules Receive, `search_number`), it says of
--                       `Err Silent` 25, of `Err Unfit` 29, of `Ok` 0 with the message's index, the clause and the message
--   after_search p s     process p behind a recv whose search answers s: as it was where nothing fits
--   fit_index none s     the index of the message that leaves; `none` where none does
--   clauses_in ops at n  n clauses, from op `at` on;  mail_in slots first n  n messages, from slot `first` on; past the end of an array stand none
--   searched_in cs ms    what the search of mailbox ms by the clauses cs answers: document 01's first fit, and M-104's numbers
use Rattle.std.specs.Prelude.{List, map, ℕ, take, drop, Result, Ok, Err}
use Rattle.node.specs.declared.Message.{Message}
use Rattle.node.specs.declared.Op.{Op}
use Rattle.node.specs.declared.Process.{Process}
use Rattle.node.specs.declared.Slot.{Slot}
use Rattle.node.specs.Processes.{moved}
use Rattle.rules.specs.Receive.{Searched, silent, unfit, fit, answered, search, with_message}
use Rattle.receive.specs.declared.Fit.{Fit}
use Rattle.receive.specs.declared.NoFit.{NoFit}
use Rattle.receive.specs.declared.NoFit.TheVariants.{Silent, Unfit}

abbrev pub found_of : Result Fit NoFit → Searched
found_of (Err Silent) = silent
found_of (Err Unfit) = unfit
found_of (Ok f) = fit (record { index = f.index; message = f.message; clause = f.clause })

abbrev pub after_search : Process → Searched → Process
after_search p silent = p
after_search p unfit = p
after_search p (fit f) = moved (with_message p f.clause f.message) f.clause.target

abbrev pub fit_index : ℕ → Searched → ℕ
fit_index k silent = k
fit_index k unfit = k
fit_index k (fit f) = f.index

abbrev pub clauses_in : List Op → ℕ → ℕ → List Op
clauses_in ops at n = take n (drop at ops)

abbrev pub mail_in : List Slot → ℕ → ℕ → List Message
mail_in slots first n = map (λ (s : Slot). s.message) (take n (drop first slots))

abbrev pub searched_in : List Op → List Message → Searched
searched_in cs ms = answered (search cs 0 ms) ms
