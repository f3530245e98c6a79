-- How long the texts of a sound node's parts are at most. Assumes nothing.
--   Within s k          s has at most k bytes;  _⊕_ joins two texts
--   digits_within       a number below 10 ^ (k + 1);  number_line_within  a line with a key and a number
--   each_within         the texts of a list of which each passes a test
--   made_within         the texts of a list made over i, i + 1, ..
--   longest_process      what the text of a process has at most;  standing_within  it does
--   longest_pair         what the text of a pair has at most;  pair_within  it does
use mathlib.Core.Bool.{Bool, true, false, So, ◌&&◌, not}
use mathlib.Core.List.{List, [], ◌∷◌, ◌++◌, map}
use mathlib.Core.Path.{◌≡◌, refl, subst}
use Prim.Native.Nat.{ℕ, zero, suc, ◌+◌, ◌*◌, ◌-◌, ◌^◌, ◌≤◌, ◌<◌, zero-le}
use native.Mathlib.Nat.{le_refl, suc-mul}
use native.Mathlib.Omega.{arith}
use borrow.Author.Tests.{leb-true, ltb-true}
use lib.Dec.{leb, ltb}
use lib.IntN.{pos, negsuc}
use lib.ListN.{length, get_or, length-append}
use Rattle.node.specs.declared.Message.TheVariants.{Plain, Note, Down as DownMessage}
use Rattle.node.specs.declared.Message.{Message}
use Rattle.node.specs.declared.Process.{Process}
use Rattle.node.specs.declared.ProcessNumber.{ProcessNumber}
use Rattle.node.specs.declared.Signal.TheVariants.{Msg, Exit, Link, Unlink, Monitor, Demonitor, Down}
use Rattle.node.specs.declared.Signal.{Signal}
use Rattle.node.specs.declared.Stage.TheVariants.{Unborn, Live, Closing, Gone}
use Rattle.node.specs.declared.Stage.{Stage}
use Rattle.node.specs.declared.Value.TheVariants.{Int, Atom, Pid}
use Rattle.node.specs.declared.Value.{Value}
use Rattle.node.specs.Lists.{rising, all_of}
use Rattle.node.specs.Texts.{bytes}
use Rattle.rules.proofs.All.{parts, all_of_at}
use Rattle.rules.proofs.Living.{Placed, Alive, alive}
use Rattle.rules.proofs.Places.{code_short}
use Rattle.rules.proofs.Records.{number_bounds}
use Rattle.rules.specs.Behaviours.{Instruction, code_sound}
use Rattle.rules.specs.Nodes.{live, running, set_of, standing, standing_in, standing_sound, signal_sound, row_sound}
use Rattle.node.specs.Values.{numbers, is_number, fits_int, value_sound, message_sound}
use Rattle.text.proofs.Digits.{digits_length}
use Rattle.text.specs.Values.{value_text, number_text}
use Rattle.text.specs.Writing.{digits, int_text, line_end, number_line, each}
use Rattle.listing_lines.specs.Lines.{comma, value_line, each_from, flag, joins_if, members, with_commas, set_line, set_lines, register_line, sender_line, message_line}
use Rattle.listing_lines.specs.Lines.{standing_lines, standing_text, signal_line, flight_line, pair_text}
use Rattle.listing_lines.specs.Words.{process_key, live_line, closing_line, gone_line, behaviour_key, place_key, trap_key}
use Rattle.listing_lines.specs.Words.{links_key, watches_key, watchers_key, reason_key, mail_key, message_key, note_key}
use Rattle.listing_lines.specs.Words.{down_key, flight_key, msg_key, exit_key, link_line, unlink_line, monitor_line, demonitor_line, down_signal_key}

pub record Within (s : List ℕ) (k : ℕ) : Type 0 where
  pub most : length s ≤ k

infixl 20 ◌⊕◌
pub ◌⊕◌ : {s t : List ℕ} {a b : ℕ} → Within s a → Within t b → Within (s ++ t) (a + b)
◌⊕◌ {s} {t} p q = record { most = omega (arith, length-append s t, p.most, q.most) }

pub exactly : (s : List ℕ) → Within s (length s)
exactly s = record { most = le_refl (length s) }

pub loosely : {s : List ℕ} {a : ℕ} (b : ℕ) → a ≤ b → Within s a → Within s b
loosely b h p = record { most = omega (arith, p.most) }

-- ---- numbers and values
pub digits_within : (k n : ℕ) → n < 10 ^ suc k → Within (digits n) (suc k)
digits_within k n h = record { most = digits_length k n h }

one_digit : (n : ℕ) → n < 10 → Within (digits n) 1
one_digit n h = digits_within 0 n h

two_digits : (n : ℕ) → n < 100 → Within (digits n) 2
two_digits n h = digits_within 1 n h

pid_within : (i : ProcessNumber) → So (is_number i.0) → Within (value_text (Pid i)) 3
unfolding value_text number_text
pid_within i h = let low = number_bounds i.0 h in exactly (bytes "p") ⊕ two_digits i.0 (omega arith)

pub value_within : (v : Value) → So (value_sound v) → Within (value_text v) 12
unfolding value_text number_text int_text fits_int
value_within (Int (pos n)) h = let low = leb-true n 2147483647 h in exactly (bytes "i") ⊕ loosely 11 (omega arith) (digits_within 9 n (omega arith))
value_within (Int (negsuc n)) h =
    let low = leb-true n 2147483647 (parts (leb n 2147483647) true h).0 in
    exactly (bytes "i-") ⊕ digits_within 9 (suc n) (omega arith)
value_within (Atom a) h = let low = leb-true a 255 h in exactly (bytes "a") ⊕ loosely 11 (omega arith) (digits_within 2 a (omega arith))
value_within (Pid i) h = loosely 12 (omega arith) (pid_within i h)

flag_within : (b : Bool) → Within (digits (flag b)) 1
flag_within true = one_digit 1 (omega arith)
flag_within false = one_digit 0 (omega arith)

module _ (key : List ℕ) where
  line_within : {s : List ℕ} {k : ℕ} → Within s k → Within (key ++ s ++ line_end) (length key + k + 1)
  line_within p = exactly key ⊕ p ⊕ exactly line_end

  pub number_line_within : (n : ℕ) {k : ℕ} → Within (digits n) k → Within (number_line key n) (length key + k + 1)
  unfolding number_line
  number_line_within n p = line_within p

  value_line_within : (v : Value) → So (value_sound v) → Within (value_line key v) (length key + 12 + 1)
  unfolding value_line
  value_line_within v h = line_within (value_within v h)

-- ---- lists of texts
pub each_within : {X : Type 0} (f : X → List ℕ) (ok : X → Bool) (k : ℕ) → ((x : X) → So (ok x) → Within (f x) k) → (xs : List X) → So (all_of ok xs) → Within (each f xs) (length xs * k)
unfolding each
each_within f ok k h [] g = loosely (0 * k) zero-le (exactly [])
each_within f ok k h (x ∷ xs) g =
    let t = parts (ok x) (all_of ok xs) g in
    loosely (suc (length xs) * k) (omega (arith, suc-mul (length xs) k)) (h x t.0 ⊕ each_within f ok k h xs t.1)

pub made_within : {X : Type 0} (f : ℕ → X → List ℕ) (g : ℕ → X) (k i n : ℕ) → ((j : ℕ) → i ≤ j → j < i + n → Within (f j (g j)) k) → Within (each_from f i (map g (rising i n))) (n * k)
unfolding each_from
made_within f g k i zero h = loosely (0 * k) zero-le (exactly [])
made_within f g k i (suc n) h =
    loosely (suc n * k) (omega (arith, suc-mul n k))
    (h i (le_refl i) (omega arith) ⊕ made_within f g k (i + 1) n (λ j a b. h j (omega arith) (omega arith)))

-- ---- link sets
with_comma : ℕ → List ℕ
with_comma j = comma ++ digits j

members_within : (links : ℕ → Bool) (l : List ℕ) → So (all_of (λ j. ltb j 100) l) → Within (each with_comma (members links l)) (length l * 3)
unfolding members each with_comma
members_within links [] h = exactly []
members_within links (j ∷ l) h =
    let t = parts (ltb j 100) (all_of (λ j. ltb j 100) l) h in
    loosely (suc (length l) * 3) (omega (arith, suc-mul (length l) 3)) (by_link (links j) (ltb-true j 100 t.0) (members_within links l t.1))
  where
    by_link : (b : Bool) → j < 100 → Within (each with_comma (members links l)) (length l * 3) → Within (each with_comma (joins_if b j (members links l))) (3 + length l * 3)
    by_link true low p = exactly comma ⊕ two_digits j low ⊕ p
    by_link false low p = loosely (3 + length l * 3) (omega arith) p

-- the first member has no comma
commas_within : (l : List ℕ) {k : ℕ} → Within (each with_comma l) k → Within (with_commas l) k
unfolding with_commas each with_comma
commas_within [] p = p
commas_within (j ∷ l) p = record { most = omega (arith, p.most) }

-- a set of all sixteen, behind a key
set_within : (key : List ℕ) (set : ℕ → Bool) → Within (set_line key set) (length key + 48 + 1)
unfolding set_line
set_within key set = line_within key (commas_within (members set numbers) (members_within set numbers refl))

-- ---- mailboxes
sender_within : (key : List ℕ) (j : ProcessNumber) (v : Value) → So (is_number j.0 && value_sound v) → Within (sender_line key j v) (length key + 17)
unfolding sender_line
sender_within key j v h =
    let t = parts (is_number j.0) (value_sound v) h in
    loosely (length key + 17) (omega arith) (exactly key ⊕ pid_within j t.0 ⊕ exactly comma ⊕ value_within v t.1 ⊕ exactly line_end)

message_within : (m : Message) → So (message_sound m) → Within (message_line m) 22
unfolding message_line
message_within (Plain v) h = loosely 22 (omega arith) (value_line_within message_key v h)
message_within (Note j v) h = sender_within note_key j v h
message_within (DownMessage j v) h = sender_within down_key j v h

mail_within : (ms : List Message) → length ms ≤ 16 → So (all_of message_sound ms) → Within (each message_line ms) 352
mail_within ms few h = loosely 352 (omega arith) (each_within message_line message_sound 22 message_within ms h)

-- ---- processes
-- a live process with 16 notes in its mailbox
abbrev pub longest_process : ℕ
longest_process = 644

register_within : (k : ℕ) → k < 10 → (v : Value) → So (value_sound v) → Within (register_line k v) 16
unfolding register_line value_line
register_within k low v h = exactly (bytes "r") ⊕ one_digit k low ⊕ exactly (bytes "=") ⊕ value_within v h ⊕ exactly line_end

-- the behaviours of a sound node are 8 at most, of 32 ops at most
module _ (codes : List (List Instruction)) (few : length codes ≤ 8) (checked : So (all_of (code_sound (length codes)) codes)) where
  behaviour_low : (b : ℕ) → So (leb 1 b && leb b (length codes)) → (1 ≤ b) × (b ≤ length codes)
  behaviour_low b h = let t = parts (leb 1 b) (leb b (length codes)) h in (leb-true 1 b t.0, leb-true b (length codes) t.1)

  place_low : (b t : ℕ) → Placed codes b t → t ≤ 32
  place_low b t h =
      let low = behaviour_low b h.known in
      let inside = leb-true t (length (get_or codes (b - 1) [])) h.within in
      let short = code_short (length codes) (get_or codes (b - 1) []) (all_of_at (code_sound (length codes)) [] codes checked (b - 1) (omega arith)) in
      omega arith

  module _ (i : ℕ) (low : i < 100) (p : Process) (m : List Message) where
    live_within : Alive codes i p m → Within (standing_text i (live (running p m))) longest_process
    unfolding standing_text standing_lines set_lines each_from
    live_within a =
        let b = behaviour_low p.behaviour.0 a.placed.known in
        let t = place_low p.behaviour.0 p.place a.placed in
        let v = a.valued in
        let room = leb-true (length m) 16 a.mailed.few in
        number_line_within process_key i (two_digits i low) ⊕ exactly live_line
        ⊕ number_line_within behaviour_key p.behaviour.0 (one_digit p.behaviour.0 (omega arith))
        ⊕ number_line_within place_key p.place (two_digits p.place (omega arith))
        ⊕ (register_within 0 (omega arith) p.r0 v.v0
        ⊕ (register_within 1 (omega arith) p.r1 v.v1
        ⊕ (register_within 2 (omega arith) p.r2 v.v2
        ⊕ (register_within 3 (omega arith) p.r3 v.v3 ⊕ exactly []))))
        ⊕ number_line_within trap_key (flag p.trap) (flag_within p.trap)
        ⊕ (set_within links_key (set_of p.links) ⊕ set_within watches_key (set_of p.watches) ⊕ set_within watchers_key (set_of p.watchers))
        ⊕ number_line_within mail_key (length m) (two_digits (length m) (omega arith))
        ⊕ mail_within m room a.mailed.sound

    module _ (h : So (standing_sound codes i (standing p m))) where
      stage_within : (s : Stage) → p.stage ≡ s → Within (standing_text i (standing_in s p m)) longest_process
      unfolding standing_text standing_lines standing each
      stage_within Unborn e = loosely longest_process (omega arith) (exactly [])
      stage_within Live e = live_within (alive codes i p m e h)
      stage_within Closing e =
          let g : So (standing_sound codes i (standing_in Closing p m)) = subst (λ (s : Stage). So (standing_sound codes i (standing_in s p m))) e h in
          let w = parts (value_sound p.reason && not (set_of p.links i)) (not (set_of p.watchers i)) g in
          let t = parts (value_sound p.reason) (not (set_of p.links i)) w.0 in
          loosely longest_process (omega arith)
          (number_line_within process_key i (two_digits i low) ⊕ exactly closing_line ⊕ value_line_within reason_key p.reason t.0 ⊕ set_within links_key (set_of p.links)
          ⊕ set_within watchers_key (set_of p.watchers) ⊕ exactly [])
      stage_within Gone e = loosely longest_process (omega arith) (number_line_within process_key i (two_digits i low) ⊕ exactly gone_line ⊕ exactly [])

      pub standing_within : Within (standing_text i (standing p m)) longest_process
      unfolding standing
      standing_within = stage_within p.stage refl

-- ---- pairs
-- four exit signals
abbrev pub longest_pair : ℕ
longest_pair = 123

signal_within : (j i : ℕ) (x : Signal) → So (signal_sound j i x) → Within (signal_line x) 27
unfolding signal_line
signal_within j i (Msg v) h = loosely 27 (omega arith) (value_line_within msg_key v h)
signal_within j i (Exit v b) h = exactly exit_key ⊕ value_within v h ⊕ exactly comma ⊕ flag_within b ⊕ exactly line_end
signal_within j i Link h = loosely 27 (omega arith) (exactly link_line)
signal_within j i Unlink h = loosely 27 (omega arith) (exactly unlink_line)
signal_within j i Monitor h = loosely 27 (omega arith) (exactly monitor_line)
signal_within j i Demonitor h = loosely 27 (omega arith) (exactly demonitor_line)
signal_within j i (Down v) h = loosely 27 (omega arith) (value_line_within down_signal_key v h)

pub pair_within : (j i : ℕ) → j < 100 → i < 100 → (xs : List Signal) → So (row_sound j i xs) → Within (pair_text j i xs) longest_pair
unfolding pair_text flight_line row_sound
pair_within j i g h [] s = loosely longest_pair (omega arith) (exactly [])
pair_within j i g h (x ∷ xs) s =
    let t = parts (leb (length (x ∷ xs)) 4) (all_of (signal_sound j i) (x ∷ xs)) s in
    let few = leb-true (length (x ∷ xs)) 4 t.0 in
    exactly flight_key ⊕ two_digits j g ⊕ exactly comma ⊕ two_digits i h ⊕ exactly comma ⊕ one_digit (length (x ∷ xs)) (omega arith) ⊕ exactly line_end
    ⊕ loosely 108 (omega arith) (each_within signal_line (signal_sound j i) 27 (signal_within j i) (x ∷ xs) t.1)
