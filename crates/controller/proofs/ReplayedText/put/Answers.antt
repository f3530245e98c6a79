-- A play's text: the count, the refusal and the listing. Assumes nothing.
use Rattle.controller.specs.Program.{played_text}
use Rattle.text.proofs.Writing.{◌▸◌}
use Rattle.controller.proofs.Laws.{told_number}
use Rattle.controller.proofs.ReplayedText.put.Goals as goal

pub returns : goal.returns
unfolding played_text
returns c =
    let e = told_number c.args.self.now.played.now.refusal c.map_or-refused.ensures in
    c.put_number_line-e.ensures ▸ (rw e at c.put_number_line-e-2.ensures) ▸ c.put.ensures
