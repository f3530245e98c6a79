-- Values and messages (document 01, "The node"): their kinds, their limits, and when two values are equal.
--   int_zero                              i0, the content of a fresh register
--   normal kill killed badarg badarith noproc   the atoms a0 to a5
--   pid i                                the value that holds process number i
--   numbers is_number i                   the process numbers, 1 to 16; i is one of them
--   least greatest fits_int z             the limits of an integer `i`; z is within them
--   value_sound v message_sound m          v keeps its limits; so do the values of a message, and the sender of a note or a down
--   exact_kind any_kind int_kind ..         the kinds of a clause, by number: one exact value, every message, then the kinds of messages
--   last_kind                             the last of them
--   kind_of v message_kind m               the kind of a value, and of a message
--   number_in v                           the number that a value holds
--   same_value v w                        v equals w in kind and number
use Rattle.std.specs.Prelude.{Bool, false, ◌&&◌, List, ℕ, leb, eqb, ℤ, pos, negsuc}
use Rattle.std.specs.Int.Signed.{le_z}
use Rattle.node.specs.declared.Message.{Message}
use Rattle.node.specs.declared.Message.TheVariants.{Plain, Note, Down}
use Rattle.node.specs.declared.Value.{Value}
use Rattle.node.specs.declared.Value.TheVariants.{Int, Atom, Pid}
use Rattle.node.specs.Lists.{rising}

abbrev pub int_zero : Value
int_zero = Int (pos 0)

abbrev pub normal : Value
normal = Atom 0

abbrev pub kill : Value
kill = Atom 1

abbrev pub killed : Value
killed = Atom 2

abbrev pub badarg : Value
badarg = Atom 3

abbrev pub badarith : Value
badarith = Atom 4

abbrev pub noproc : Value
noproc = Atom 5

abbrev pub pid : ℕ → Value
pid i = Pid (record { 0 = i })

-- ---- limits

abbrev pub numbers : List ℕ
numbers = rising 1 16

unfoldable pub is_number : ℕ → Bool
is_number i = leb 1 i && leb i 16

abbrev pub least : ℤ
least = negsuc 2147483647

abbrev pub greatest : ℤ
greatest = pos 2147483647

unfoldable pub fits_int : ℤ → Bool
fits_int z = le_z least z && le_z z greatest

abbrev pub value_sound : Value → Bool
value_sound (Int z) = fits_int z
value_sound (Atom a) = leb a 255
value_sound (Pid j) = is_number j.0

abbrev pub message_sound : Message → Bool
message_sound (Plain v) = value_sound v
message_sound (Note j v) = is_number j.0 && value_sound v
message_sound (Down j v) = is_number j.0 && value_sound v

-- ---- kinds

-- "k is any (notes too), int, atom, pid, note or one exact V", and down: the exact value has the first number, so that a new kind moves none
abbrev pub exact_kind : ℕ
exact_kind = 0

abbrev pub any_kind : ℕ
any_kind = 1

abbrev pub int_kind : ℕ
int_kind = 2

abbrev pub atom_kind : ℕ
atom_kind = 3

abbrev pub pid_kind : ℕ
pid_kind = 4

abbrev pub note_kind : ℕ
note_kind = 5

abbrev pub down_kind : ℕ
down_kind = 6

abbrev pub last_kind : ℕ
last_kind = down_kind

abbrev pub kind_of : Value → ℕ
kind_of (Int z) = int_kind
kind_of (Atom a) = atom_kind
kind_of (Pid j) = pid_kind

abbrev pub message_kind : Message → ℕ
message_kind (Plain v) = kind_of v
message_kind (Note j v) = note_kind
message_kind (Down j v) = down_kind

abbrev pub number_in : Value → ℤ
number_in (Int z) = z
number_in (Atom a) = pos a
number_in (Pid j) = pos j.0

-- ---- equality

abbrev pub same_int : ℤ → ℤ → Bool
same_int (pos a) (pos b) = eqb a b
same_int (pos a) (negsuc b) = false
same_int (negsuc a) (pos b) = false
same_int (negsuc a) (negsuc b) = eqb a b

-- "equals .. in kind and number"
unfoldable pub same_value : Value → Value → Bool
same_value v w = eqb (kind_of v) (kind_of w) && same_int (number_in v) (number_in w)
