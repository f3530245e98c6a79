-- Each number of a refusal tells one refusal. Assumes nothing.
--   refusal_of k   the refusal that number k tells, if one does
--   told_back      a refusal is the one that its number tells
--   one_told       refusals of one number are one
use mathlib.Core.List.{[], ◌∷◌}
use mathlib.Core.Path.{◌≡◌, refl, sym, ◌∙◌, ap}
use Prim.Native.Nat.{ℕ, ◌-◌}
use lib.ListN.{get_or}
use Rattle.std.specs.Prelude.{Option, Some, None}
use Rattle.node.specs.Refusals.{refusal_told}
use Rattle.node.specs.declared.Refusal.{Refusal}
use Rattle.node.specs.declared.Refusal.TheVariants.{BadNumber, OwnerUnborn, OwnerGone, NoneInFlight, MailboxFull, MailboxEmpty, PairFull}
use Rattle.node.specs.declared.Refusal.TheVariants.{NotUnborn, NoTimeout, NoFit, OutputShort, NotSound, ScheduleTooLong}

abbrev pub refusal_of : ℕ → Option Refusal
refusal_of k = get_or (None ∷ Some BadNumber ∷ Some OwnerUnborn ∷ Some OwnerGone ∷ Some NoneInFlight ∷ Some MailboxFull ∷ Some MailboxEmpty ∷ Some PairFull
    ∷ Some NotUnborn ∷ Some NoTimeout ∷ Some NoFit ∷ Some OutputShort ∷ Some NotSound ∷ Some ScheduleTooLong ∷ []) (k - 19) None

pub told_back : (o : Option Refusal) → refusal_of (refusal_told o) ≡ o
told_back None = refl
told_back (Some BadNumber) = refl
told_back (Some OwnerUnborn) = refl
told_back (Some OwnerGone) = refl
told_back (Some NoneInFlight) = refl
told_back (Some MailboxFull) = refl
told_back (Some MailboxEmpty) = refl
told_back (Some PairFull) = refl
told_back (Some NotUnborn) = refl
told_back (Some NoTimeout) = refl
told_back (Some NoFit) = refl
told_back (Some OutputShort) = refl
told_back (Some NotSound) = refl
told_back (Some ScheduleTooLong) = refl

pub one_told : (o p : Option Refusal) → refusal_told o ≡ refusal_told p → o ≡ p
one_told o p e = sym (told_back o) ∙ ap refusal_of e ∙ told_back p
