-- A decision as the definitions tell it: a refusal (0 if none), and otherwise the owner's next process, and what becomes of its mailbox, what it
-- sends and whom it brings to life, each where its flag is set; where it is not, the fields beside it are blank.
use Rattle.std.specs.Prelude.{Bool, ℕ}
use Rattle.node.specs.declared.BehaviourNumber.{BehaviourNumber}
use Rattle.node.specs.declared.Message.{Message}
use Rattle.node.specs.declared.Process.{Process}
use Rattle.node.specs.declared.ProcessNumber.{ProcessNumber}
use Rattle.node.specs.declared.Signal.{Signal}

pub record Decision : Type 0 where
  pub refusal : ℕ
  pub process : Process
  -- the mailbox is searched, by the clauses behind the op: a run takes the first fit, a timeout needs that there is none
  pub receives : Bool
  pub joins : Bool
  pub message : Message
  pub sends : Bool
  pub to : ProcessNumber
  pub signal : Signal
  pub spawns : Bool
  pub number : ProcessNumber
  pub behaviour : BehaviourNumber
