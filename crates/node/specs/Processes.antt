-- Processes (document 01, "The node" and "Ending"), and what a step makes of one.
--   process_of ..       a process by its fields, in the order of their declaration
--   unborn             an unborn process
--   fresh b v          a process that starts behaviour b with v in r0
--   register p r       the content of register r
--   with_register p r v register r becomes v
--   moved p t          the place becomes t
--   advanced p         the place rises by 1
--   trapped p f        the trap flag becomes f
--   links_to p j        j is in the link set
--   linked p j         j joins the link set
--   unlinked p j       j leaves the link set
--   watches_over p j    j is in the set of those that the process watches (monitors)
--   watching p j       j joins that set
--   unwatching p j     j leaves it
--   watched_by p j      j is in the set of the process's watchers
--   watched p j        j joins that set
--   unwatched p j      j leaves it
--   ended p v          the process ends with reason v, and is closing; its links and watchers are unchanged
--   gone p             the process is gone
--   mail_count s n      how many of the n messages that its mailbox counts a process in stage s holds
-- A number that is no register is read as 3, which does not occur in a sound node.
use Rattle.std.specs.Prelude.{Bool, false, cond, ℕ, ◌+◌, min, eqb}
use Rattle.node.specs.declared.BehaviourNumber.{BehaviourNumber}
use Rattle.node.specs.declared.Peers.{Peers}
use Rattle.node.specs.declared.Process.{Process}
use Rattle.node.specs.declared.Stage.{Stage}
use Rattle.node.specs.declared.Stage.TheVariants.{Unborn, Live, Closing, Gone}
use Rattle.node.specs.declared.Value.{Value}
use Rattle.node.specs.Sets.{no_peers, has, with_peer, without_peer}
use Rattle.node.specs.Values.{int_zero}

abbrev pub process_of : Stage → BehaviourNumber → ℕ → Bool → Value → Value → Value → Value → Peers → Peers → Peers → Value → Process
process_of stage behaviour place trap r0 r1 r2 r3 links watches watchers reason = record {
  stage = stage;
  behaviour = behaviour;
  place = place;
  trap = trap;
  r0 = r0;
  r1 = r1;
  r2 = r2;
  r3 = r3;
  links = links;
  watches = watches;
  watchers = watchers;
  reason = reason;
}

abbrev pub unborn : Process
unborn = process_of Unborn (record { 0 = 0 }) 0 false int_zero int_zero int_zero int_zero no_peers no_peers no_peers int_zero

-- "place 0, its r0 the spawner's number, other registers i0, no links, trap 0", and nobody watched or watching
abbrev pub fresh : BehaviourNumber → Value → Process
fresh b v = process_of Live b 0 false v int_zero int_zero int_zero no_peers no_peers no_peers int_zero

-- one part anew, the others as they are
abbrev pub with_place : Process → ℕ → Process
with_place p t = process_of p.stage p.behaviour t p.trap p.r0 p.r1 p.r2 p.r3 p.links p.watches p.watchers p.reason

abbrev pub with_registers : Process → Value → Value → Value → Value → Process
with_registers p a b c d = process_of p.stage p.behaviour p.place p.trap a b c d p.links p.watches p.watchers p.reason

abbrev pub with_trap : Process → Bool → Process
with_trap p f = process_of p.stage p.behaviour p.place f p.r0 p.r1 p.r2 p.r3 p.links p.watches p.watchers p.reason

abbrev pub with_sets : Process → Peers → Peers → Peers → Process
with_sets p l w x = process_of p.stage p.behaviour p.place p.trap p.r0 p.r1 p.r2 p.r3 l w x p.reason

abbrev pub with_links : Process → Peers → Process
with_links p l = with_sets p l p.watches p.watchers

abbrev pub with_watches : Process → Peers → Process
with_watches p l = with_sets p p.links l p.watchers

abbrev pub with_watchers : Process → Peers → Process
with_watchers p l = with_sets p p.links p.watches l

abbrev pub with_stage : Process → Stage → Value → Process
with_stage p s v = process_of s p.behaviour p.place p.trap p.r0 p.r1 p.r2 p.r3 p.links p.watches p.watchers v

unfoldable pub register : Process → ℕ → Value
register p r = cond (eqb r 0) p.r0 (cond (eqb r 1) p.r1 (cond (eqb r 2) p.r2 p.r3))

unfoldable pub with_register : Process → ℕ → Value → Process
with_register p r v =
    cond (eqb r 0) (with_registers p v p.r1 p.r2 p.r3)
    (cond (eqb r 1) (with_registers p p.r0 v p.r2 p.r3)
    (cond (eqb r 2) (with_registers p p.r0 p.r1 v p.r3)
    (with_registers p p.r0 p.r1 p.r2 v)))

unfoldable pub moved : Process → ℕ → Process
moved p t = with_place p t

-- a place is at most 32 in a sound node; the byte that holds it does not wrap in any
unfoldable pub advanced : Process → Process
advanced p = with_place p (min (p.place + 1) 255)

unfoldable pub trapped : Process → Bool → Process
trapped p f = with_trap p f

unfoldable pub links_to : Process → ℕ → Bool
links_to p j = has p.links j

unfoldable pub linked : Process → ℕ → Process
linked p j = with_links p (with_peer p.links j)

unfoldable pub unlinked : Process → ℕ → Process
unlinked p j = with_links p (without_peer p.links j)

unfoldable pub watches_over : Process → ℕ → Bool
watches_over p j = has p.watches j

unfoldable pub watching : Process → ℕ → Process
watching p j = with_watches p (with_peer p.watches j)

unfoldable pub unwatching : Process → ℕ → Process
unwatching p j = with_watches p (without_peer p.watches j)

unfoldable pub watched_by : Process → ℕ → Bool
watched_by p j = has p.watchers j

unfoldable pub watched : Process → ℕ → Process
watched p j = with_watchers p (with_peer p.watchers j)

unfoldable pub unwatched : Process → ℕ → Process
unwatched p j = with_watchers p (without_peer p.watchers j)

unfoldable pub ended : Process → Value → Process
ended p v = with_stage p Closing v

unfoldable pub gone : Process → Process
gone p = with_stage p Gone p.reason

-- "live: .. mailbox": the other stages hold none
abbrev pub mail_count : Stage → ℕ → ℕ
mail_count Unborn n = 0
mail_count Live n = n
mail_count Closing n = 0
mail_count Gone n = 0
