-- `put_operand` writes a comma and the operand by its kind. Assumes nothing.
use mathlib.Core.Path.{sym, ap}
use Rattle.plan_writer.specs.Texts.{operand_text}
use Rattle.rules.specs.Behaviours.{operand}
use Rattle.text.proofs.Writing.{◌▸◌, wrote_as}
use Rattle.plan_writer.proofs.Laws.{operand_in}
use Rattle.plan_writer.proofs.put_operand.Goals as goal

pub returns-in-NoOperand : goal.returns-in-NoOperand
unfolding operand_text operand
returns-in-NoOperand c =
    wrote_as (sym (ap (operand_in c.args.op) c.in-NoOperand.is)) (c.put_byte-e.ensures ▸ c.put_number.ensures)

pub returns-in-RegisterR : goal.returns-in-RegisterR
unfolding operand_text operand
returns-in-RegisterR c =
    wrote_as (sym (ap (operand_in c.args.op) c.in-RegisterR.is)) (c.put_byte-e.ensures ▸ c.put_number-in-RegisterR.ensures)

pub returns-in-RegisterS : goal.returns-in-RegisterS
unfolding operand_text operand
returns-in-RegisterS c =
    wrote_as (sym (ap (operand_in c.args.op) c.in-RegisterS.is)) (c.put_byte-e.ensures ▸ c.put_number-in-RegisterS.ensures)

pub returns-in-ValueV : goal.returns-in-ValueV
unfolding operand_text operand
returns-in-ValueV c =
    wrote_as (sym (ap (operand_in c.args.op) c.in-ValueV.is)) (c.put_byte-e.ensures ▸ c.put_value.ensures)

pub returns-in-PlaceT : goal.returns-in-PlaceT
unfolding operand_text operand
returns-in-PlaceT c =
    wrote_as (sym (ap (operand_in c.args.op) c.in-PlaceT.is)) (c.put_byte-e.ensures ▸ c.put_number-in-PlaceT.ensures)

pub returns-in-BehaviourB : goal.returns-in-BehaviourB
unfolding operand_text operand
returns-in-BehaviourB c =
    wrote_as (sym (ap (operand_in c.args.op) c.in-BehaviourB.is)) (c.put_byte-e.ensures ▸ c.put_number-in-BehaviourB.ensures)

pub returns-in-ProcessQ : goal.returns-in-ProcessQ
unfolding operand_text operand
returns-in-ProcessQ c =
    wrote_as (sym (ap (operand_in c.args.op) c.in-ProcessQ.is)) (c.put_byte-e.ensures ▸ c.put_number-in-ProcessQ.ensures)

pub returns-in-FlagF : goal.returns-in-FlagF
unfolding operand_text operand
returns-in-FlagF c =
    wrote_as (sym (ap (operand_in c.args.op) c.in-FlagF.is)) (c.put_byte-e.ensures ▸ c.put_number-in-FlagF.ensures)

pub returns-in-CountN : goal.returns-in-CountN
unfolding operand_text operand
returns-in-CountN c =
    wrote_as (sym (ap (operand_in c.args.op) c.in-CountN.is)) (c.put_byte-e.ensures ▸ c.put_number-in-CountN.ensures)

pub returns-in-KindK : goal.returns-in-KindK
unfolding operand_text operand
returns-in-KindK c =
    wrote_as (sym (ap (operand_in c.args.op) c.in-KindK.is)) (c.put_byte-e.ensures ▸ c.put_kind.ensures)
