-- The lines of the listing (document 01, "Plan, steps and listing text"): what a value, a process and a pair of the view read as.
--   comma                 a comma
--   value_line key v       a line with a value
--   each_from f i xs       the texts of the elements of xs with their numbers, the first having number i
--   flag b                0 or 1
--   members set l         the numbers of l that a set has
--   with_commas l          numbers with commas between them
--   set_line key set       a key and a set of processes;  set_lines  the three sets of a live process
--   register_line k v      register k
--   sender_line key j v    a sender with its reason
--   message_line m         a message
--   mail_of s              the messages of a process that are listed
--   standing_lines i s n   the lines of process i up to its messages, n of which wait
--   standing_text i s      process i; an unborn one has no text
--   signal_line x          a signal
--   flight_line j i n      that n signals are in flight from j to i
--   pair_text j i xs       the signals in flight from j to i; a pair with none has no text
use Rattle.std.specs.Prelude.{Bool, true, false, cond, List, [], ◌∷◌, ◌++◌, ℕ, ◌+◌, length}
use Rattle.node.specs.declared.Message.TheVariants.{Plain, Note, Down as DownMessage}
use Rattle.node.specs.declared.Message.{Message}
use Rattle.node.specs.declared.ProcessNumber.{ProcessNumber}
use Rattle.node.specs.declared.Signal.TheVariants.{Msg, Exit, Link, Unlink, Monitor, Demonitor, Down}
use Rattle.node.specs.declared.Signal.{Signal}
use Rattle.node.specs.declared.Value.TheVariants.{Pid}
use Rattle.node.specs.declared.Value.{Value}
use Rattle.node.specs.Texts.{bytes}
use Rattle.rules.specs.Nodes.{Standing, unborn, live, closing, gone}
use Rattle.node.specs.Values.{numbers}
use Rattle.text.specs.Values.{value_text}
use Rattle.text.specs.Writing.{digits, line_end, number_line, each}
use Rattle.listing_lines.specs.Words.{process_key, live_line, closing_line, gone_line, behaviour_key, place_key, trap_key, links_key, watches_key, watchers_key}
use Rattle.listing_lines.specs.Words.{reason_key, mail_key, message_key, note_key, down_key}
use Rattle.listing_lines.specs.Words.{flight_key, msg_key, exit_key, link_line, unlink_line, monitor_line, demonitor_line, down_signal_key}

abbrev pub comma : List ℕ
comma = bytes ","

unfoldable pub value_line : List ℕ → Value → List ℕ
value_line key v = key ++ value_text v ++ line_end

unfoldable pub each_from : {X : Type 0} → (ℕ → X → List ℕ) → ℕ → List X → List ℕ
each_from f i [] = []
each_from f i (x ∷ xs) = f i x ++ each_from f (i + 1) xs

abbrev pub flag : Bool → ℕ
flag b = cond b 1 0

abbrev pub joins_if : Bool → ℕ → List ℕ → List ℕ
joins_if true j l = j ∷ l
joins_if false j l = l

unfoldable pub members : (ℕ → Bool) → List ℕ → List ℕ
members set [] = []
members set (j ∷ l) = joins_if (set j) j (members set l)

unfoldable pub with_commas : List ℕ → List ℕ
with_commas [] = []
with_commas (j ∷ l) = digits j ++ each (λ (k : ℕ). comma ++ digits k) l

-- "links are rising numbers with commas"
unfoldable pub set_line : List ℕ → (ℕ → Bool) → List ℕ
set_line key set = key ++ with_commas (members set numbers) ++ line_end

-- "`watches=` and `watchers=` after a live process's links"
unfoldable pub set_lines : (ℕ → Bool) → (ℕ → Bool) → (ℕ → Bool) → List ℕ
set_lines links watches watchers = set_line links_key links ++ set_line watches_key watches ++ set_line watchers_key watchers

-- r0= to r3=
unfoldable pub register_line : ℕ → Value → List ℕ
register_line k v = value_line (bytes "r" ++ digits k ++ bytes "=") v

-- the sender with its letter
unfoldable pub sender_line : List ℕ → ProcessNumber → Value → List ℕ
sender_line key j v = key ++ value_text (Pid j) ++ comma ++ value_text v ++ line_end

unfoldable pub message_line : Message → List ℕ
message_line (Plain v) = value_line message_key v
message_line (Note j v) = sender_line note_key j v
message_line (DownMessage j v) = sender_line down_key j v

-- only a live process holds messages
abbrev pub mail_of : Standing → List Message
mail_of unborn = []
mail_of (live r) = r.mail
mail_of (closing v links watchers) = []
mail_of gone = []

-- "Closing has stage, reason, links; gone only stage"; behind the links "`watchers=` after a closing one's"
unfoldable pub standing_lines : ℕ → Standing → ℕ → List ℕ
standing_lines i unborn n = []
standing_lines i (live r) n =
    number_line process_key i ++ live_line
    ++ number_line behaviour_key r.behaviour ++ number_line place_key r.place
    ++ each_from register_line 0 r.registers
    ++ number_line trap_key (flag r.trap) ++ set_lines r.links r.watches r.watchers ++ number_line mail_key n
standing_lines i (closing v links watchers) n =
    number_line process_key i ++ closing_line ++ value_line reason_key v ++ set_line links_key links ++ set_line watchers_key watchers
standing_lines i gone n = number_line process_key i ++ gone_line

-- "`mail=n` is followed by n lines `message=V` or `note=p,V`", or `down=p,V`
unfoldable pub standing_text : ℕ → Standing → List ℕ
standing_text i s = standing_lines i s (length (mail_of s)) ++ each message_line (mail_of s)

-- "`signal=msg,V`, `signal=exit,V,b`, `signal=link`, `signal=unlink`", "`signal=monitor`, `signal=demonitor`, and `signal=down,V`"
unfoldable pub signal_line : Signal → List ℕ
signal_line (Msg v) = value_line msg_key v
signal_line (Exit v b) = exit_key ++ value_text v ++ comma ++ digits (flag b) ++ line_end
signal_line Link = link_line
signal_line Unlink = unlink_line
signal_line Monitor = monitor_line
signal_line Demonitor = demonitor_line
signal_line (Down v) = value_line down_signal_key v

-- "A pair: `flight=from,to,n`"
unfoldable pub flight_line : ℕ → ℕ → ℕ → List ℕ
flight_line j i n = flight_key ++ digits j ++ comma ++ digits i ++ comma ++ digits n ++ line_end

unfoldable pub pair_text : ℕ → ℕ → List Signal → List ℕ
pair_text j i [] = []
pair_text j i (x ∷ xs) = flight_line j i (length (x ∷ xs)) ++ each signal_line (x ∷ xs)
