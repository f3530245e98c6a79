-- One law for each return of the controller's calls. Assumes nothing.
--   as_text                                  a text is shown under another name
--   text_load text_steps text_played         what the program prints, by what is refused
--   told_number                              the number that is printed of a refusal, 0 where there is none
--   is_unsound not_unsound                   whether a refusal is 31
--   told_within                              the length that is told lies within the buffer
--   listed_unsound listed_short listed_whole a play with its listing: 31, 30, and what is told and shown
use mathlib.Core.Bool.{Bool, true, false, cond}
use mathlib.Core.List.{List, ◌++◌}
use mathlib.Core.Path.{◌≡◌, refl, sym, ◌∙◌, ap}
use Prim.Native.Nat.{ℕ, ◌≤◌}
use native.Mathlib.Omega.{arith}
use borrow.Author.Tests.{eq-eqb, ne_eqb}
use lib.Dec.{ltb}
use lib.ListN.{length, drop, length-append}
use Rattle.engine.specs.declared.Played.{Played as Answered}
use Rattle.engine.specs.Answers.{played_of}
use Rattle.engine.proofs.Refusals.{one_told}
use Rattle.listing.specs.Answers.{Listed, output_short, refused_with, told, shown, known_told, known_shown}
use Rattle.listing.proofs.Listings.{list_known}
use Rattle.listing.specs.Listing.{listing_of, longest}
use Rattle.std.specs.Prelude.{Option, Some, None, MatchOption}
use Rattle.node.specs.Refusals.{refusal_number, refusal_told}
use Rattle.node.specs.declared.Node.{Node}
use Rattle.node.specs.declared.Refusal.{Refusal}
use Rattle.node.specs.declared.Refusal.TheVariants.{BadNumber, OwnerUnborn, OwnerGone, NoneInFlight, MailboxFull, MailboxEmpty, PairFull}
use Rattle.node.specs.declared.Refusal.TheVariants.{NotUnborn, NoTimeout, NoFit, OutputShort, NotSound, ScheduleTooLong}
use Rattle.node.specs.contracts.RefusalPartialEq.TheImpl.{ghosts}
use Rattle.std.specs.Option.{option_eq}
use Rattle.plan.specs.Plans.{Loaded, load_of}
use Rattle.rules.proofs.Commits.{play_sound}
use Rattle.rules.proofs.Refusals.{told_31, not_told_31}
use Rattle.rules.specs.Nodes.{sound}
use Rattle.rules.specs.Steps.{Action, Outcome, play}
use Rattle.schedule.specs.Reading.{Schedule, schedule_of}
use Rattle.controller.specs.Calls.{unplayed, listed, played_listed, nothing_played, played_shown}
use Rattle.controller.specs.Program.{load_key, steps_key, refused_line, played_text, steps, after_load, program_text}

-- ---- the program's text

pub as_text : (o : List ℕ) {x : Listed} {m s t : List ℕ} → s ≡ t → (x ≡ told o s) × (m ≡ shown o s) → (x ≡ told o t) × (m ≡ shown o t)
as_text o e p = rw (← e) p

module _ {l : Loaded} (p q : List ℕ) (loaded : l ≡ load_of p) where
  pub text_load : {k line : ℕ} → k ≡ l.number → line ≡ l.line → (k ≡ 0 → ⊥) → refused_line load_key k line ≡ program_text p q
  unfolding program_text after_load
  text_load e f h = rw (e, f) (rw (← loaded, ne_eqb l.number 0 (λ z. h (e ∙ z))))

  module _ (good : l.number ≡ 0) {s : Schedule} (read : s ≡ schedule_of q) where
    pub text_steps : {k line : ℕ} → k ≡ s.number → line ≡ s.line → (k ≡ 0 → ⊥) → refused_line steps_key k line ≡ program_text p q
    unfolding program_text after_load
    text_steps e f h = rw (e, f) (rw (← loaded, ← read, eq-eqb l.number 0 good, ne_eqb s.number 0 (λ z. h (e ∙ z))))

    pub text_played : (r : Answered) → s.number ≡ 0 → played_of r ≡ play l.node (steps s) → played_text (played_of r) ≡ program_text p q
    unfolding program_text after_load
    text_played r h e = rw (← loaded, ← read, eq-eqb l.number 0 good, eq-eqb s.number 0 h) (ap played_text e)

-- the number that is printed of refusal o
pub told_number : (o : Option Refusal) {k : ℕ} → MatchOption o (k ≡ 0) (λ r. k ≡ refusal_number r) → k ≡ refusal_told o
told_number None h = h
told_number (Some r) h = h

-- what is told to be written lies within the buffer
pub told_within : (o t : List ℕ) {x : Listed} {m : List ℕ} → (x ≡ told o t) × (m ≡ shown o t) → x.length ≤ length m
unfolding told shown
told_within o t p = rw (p.0, p.1) (go (ltb (length o) (length t)))
  where
    go : (b : Bool) → (cond b (refused_with output_short) (record { number = 0; length = length t })).length ≤ length (cond b o (t ++ drop (length t) o))
    go true = omega arith
    go false = omega (arith, length-append t (drop (length t) o))

-- ---- whether a refusal is 31

pub is_unsound : (o : Option Refusal) → option_eq ghosts.eq o (Some NotSound) ≡ true → o ≡ Some NotSound
is_unsound None h = cc
is_unsound (Some BadNumber) h = cc
is_unsound (Some OwnerUnborn) h = cc
is_unsound (Some OwnerGone) h = cc
is_unsound (Some NoneInFlight) h = cc
is_unsound (Some MailboxFull) h = cc
is_unsound (Some MailboxEmpty) h = cc
is_unsound (Some PairFull) h = cc
is_unsound (Some NotUnborn) h = cc
is_unsound (Some NoTimeout) h = cc
is_unsound (Some NoFit) h = cc
is_unsound (Some OutputShort) h = cc
is_unsound (Some NotSound) h = refl
is_unsound (Some ScheduleTooLong) h = cc

pub not_unsound : (o : Option Refusal) → option_eq ghosts.eq o (Some NotSound) ≡ false → o ≡ Some NotSound → ⊥
not_unsound o h e = let z : true ≡ false = rw e at h in absurd (cc)

-- ---- a play with its listing; r is what the play tells

module _ (n : Node) (l : List Action) (o : List ℕ) (r : Answered) (plays : played_of r ≡ play n l) where
  refusal_is : refusal_told r.refusal ≡ (play n l).refusal
  refusal_is = ap (λ (y : Outcome). y.refusal) plays

  pub listed_unsound : r.refusal ≡ Some NotSound → (unplayed n 31 ≡ played_listed n l o) × (true ≡ nothing_played n l o) × (o ≡ played_shown n l o)
  unfolding played_listed nothing_played played_shown
  listed_unsound h = let u = told_31 n l (sym refusal_is ∙ ap refusal_told h) in (rw u, rw u, rw u)

  module _ (other : r.refusal ≡ Some NotSound → ⊥) (x : Listed) (m : List ℕ) (known : (x ≡ known_told longest o (listing_of r.node)) × (m ≡ known_shown longest o (listing_of r.node))) where
    sounds : sound n ≡ true
    sounds = not_told_31 n l (λ e. other (one_told r.refusal (Some NotSound) (refusal_is ∙ e)))

    node_is : r.node ≡ (play n l).node
    node_is = ap (λ (y : Outcome). y.node) plays

    lists : (x ≡ told o (listing_of r.node)) × (m ≡ shown o (listing_of r.node))
    lists = list_known r.node (rw node_is (play_sound n l sounds)) o known

    shown_is : m ≡ played_shown n l o
    unfolding played_shown
    shown_is = rw (sounds, ← node_is) lists.1

    split : (b : Bool) → ltb (length o) (length (listing_of r.node)) ≡ b → x ≡ cond b (refused_with output_short) (record { number = 0; length = length (listing_of r.node) })
    unfolding told
    split b h = lists.0 ∙ rw h

    pub listed_short : (x.number ≡ 0 → ⊥) → (unplayed n x.number ≡ played_listed n l o) × (true ≡ nothing_played n l o) × (m ≡ played_shown n l o)
    unfolding played_listed nothing_played
    listed_short h = let y = go (ltb (length o) (length (listing_of r.node))) refl in (y.0, y.1, shown_is)
      where
        go : (b : Bool) → ltb (length o) (length (listing_of r.node)) ≡ b → (unplayed n x.number ≡ played_listed n l o) × (true ≡ nothing_played n l o)
        go true e = let z : x.number ≡ 30 = ap (λ (y : Listed). y.number) (split true e) in (rw (z, sounds, ← node_is, e), rw (sounds, ← node_is, e))
        go false e = absurd (h (ap (λ (y : Listed). y.number) (split false e)))

    pub listed_whole : x.number ≡ 0 → (record { accepted = r.accepted; refusal = refusal_told r.refusal; length = x.length; node = r.node } ≡ played_listed n l o)
        × (false ≡ nothing_played n l o) × (m ≡ played_shown n l o)
    unfolding played_listed nothing_played
    listed_whole h = let y = go (ltb (length o) (length (listing_of r.node))) refl in (y.0, y.1, shown_is)
      where
        go : (b : Bool) → ltb (length o) (length (listing_of r.node)) ≡ b
            → (record { accepted = r.accepted; refusal = refusal_told r.refusal; length = x.length; node = r.node } ≡ played_listed n l o) × (false ≡ nothing_played n l o)
        go true e = let z : x.number ≡ 30 = ap (λ (y : Listed). y.number) (split true e) in absurd (omega (arith, z, h))
        go false e =
            let z : x.length ≡ length (listing_of r.node) = ap (λ (y : Listed). y.length) (split false e) in
            let w : ltb (length o) (length (listing_of (play n l).node)) ≡ false = rw node_is at e in
            (rw (z, sounds, w) (ap listed plays), rw (sounds, w))
