-- What a step, and each rule that it rests on, answers (document 01, "The three hands").
--   refused k      refused, under document 01's number k
--   done a         accepted, with a
--   need b k a     refused with k where the check b fails, else a
--   go_on a f       a refusal as it is; behind an acceptance, f
-- The refusal numbers of the caller and of the schedule writer, by name.
use Rattle.std.specs.Prelude.{Bool, true, false, ℕ}

pub data Answer (A : Type 0) : Type 0 where
  refused : ℕ → Answer A
  done : A → Answer A

abbrev pub need : {A : Type 0} → Bool → ℕ → Answer A → Answer A
need true k a = a
need false k a = refused k

abbrev pub go_on : {A B : Type 0} → Answer A → (A → Answer B) → Answer B
go_on (refused k) f = refused k
go_on (done a) f = f a

-- a process number outside 1 to 16
abbrev pub bad_number : ℕ
bad_number = 20

abbrev pub owner_unborn : ℕ
owner_unborn = 21

-- run of a gone process
abbrev pub owner_gone : ℕ
owner_gone = 22

abbrev pub none_in_flight : ℕ
none_in_flight = 23

-- mailbox full where a message or note would join
abbrev pub mailbox_full : ℕ
mailbox_full = 24

-- recv with an empty mailbox
abbrev pub mailbox_empty : ℕ
mailbox_empty = 25

abbrev pub pair_full : ℕ
pair_full = 26

-- spawned number not unborn
abbrev pub not_unborn : ℕ
not_unborn = 27

-- timeout of a process that is not live at a recv with `after`, or for which a message fits
abbrev pub no_timeout : ℕ
no_timeout = 28

-- recv with messages of which none fits, in 25's place in the order
abbrev pub no_fit : ℕ
no_fit = 29

-- node not sound
abbrev pub not_sound : ℕ
not_sound = 31

-- schedule above 4,096 steps
abbrev pub schedule_too_long : ℕ
schedule_too_long = 32
