-- A plan's text is its parts, one behind the other. Assumes nothing.
use Rattle.plan_writer.proofs.Laws.{plan_parts}
use Rattle.text.proofs.Writing.{wrote_as, ◌▸◌}
use Rattle.plan_writer.proofs.PlanText.put.Goals as goal

pub returns : goal.returns
returns c =
    wrote_as (plan_parts c.args.self.now.behaviours c.args.self.now.starts)
    (c.put_bytes-e.ensures ▸ c.put_number_line-e.ensures ▸ c.put_codes-e.ensures ▸ c.put_number_line-e-2.ensures ▸ c.put_starts.ensures)
