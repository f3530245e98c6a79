-- A live process taken apart into what a change of it touches, its place, its registers, its sets and its mailbox (`Alive`), and what each
-- change keeps of them. Assumes nothing.
use mathlib.Core.Bool.{Bool, true, false, not, So, cond, ◌&&◌}
use mathlib.Core.List.{List, [], ◌∷◌, ◌++◌}
use mathlib.Core.Path.{◌≡◌, refl, sym, ap, subst}
use Prim.Native.Nat.{ℕ, ◌+◌, ◌-◌, ◌<◌}
use native.Mathlib.Omega.{arith}
use borrow.Author.Tests.{leb-true, le-leb, eqb-false, not-true}
use lib.Dec.{leb, eqb}
use lib.ListN.{length, get_or, length-append}
use Rattle.node.specs.declared.Message.{Message}
use Rattle.node.specs.declared.Peers.{Peers}
use Rattle.node.specs.declared.Process.{Process}
use Rattle.node.specs.declared.Stage.{Stage}
use Rattle.node.specs.declared.Stage.TheVariants.{Unborn, Live, Closing, Gone}
use Rattle.node.specs.declared.Value.{Value}
use Rattle.node.specs.Lists.{without, all_of}
use Rattle.node.specs.Processes.{register, with_register, with_registers, moved, trapped, linked, unlinked, watching, unwatching, watched, unwatched}
use Rattle.node.specs.Sets.{no_peers, has, with_peer, without_peer}
use Rattle.node.proofs.Sets.{has_none, has_with_other, has_without_false}
use Rattle.rules.specs.Behaviours.{Instruction, on_part}
use Rattle.rules.specs.Nodes.{standing_in, standing, set_of, running_sound, standing_sound}
use Rattle.rules.specs.Steps.{is_unborn}
use Rattle.node.specs.Values.{is_number, value_sound, message_sound}
use Rattle.rules.proofs.All.{both, parts, all_of_join, all_of_without, without_length}
use Rattle.rules.proofs.Records.{number_bounds}

-- ---- a live process

abbrev pub code_of : List (List Instruction) → ℕ → List Instruction
code_of codes b = get_or codes (b - 1) []

-- behaviour b, at place t
pub record Placed (codes : List (List Instruction)) (b t : ℕ) : Type 0 where
  pub known : So (leb 1 b && leb b (length codes))
  pub within : So (leb t (length (code_of codes b)))
  pub off : So (not (on_part (code_of codes b) t))

pub record Valued (a b c d : Value) : Type 0 where
  pub v0 : So (value_sound a)
  pub v1 : So (value_sound b)
  pub v2 : So (value_sound c)
  pub v3 : So (value_sound d)

-- process i is not in the set
abbrev pub Apart : ℕ → Peers → Type 0
Apart i s = So (not (set_of s i))

-- nor in any of its own three
pub record Lone (i : ℕ) (l w v : Peers) : Type 0 where
  pub links : Apart i l
  pub watches : Apart i w
  pub watchers : Apart i v

abbrev pub Alone : ℕ → Process → Type 0
Alone i p = Lone i p.links p.watches p.watchers

pub record Mailed (m : List Message) : Type 0 where
  pub few : So (leb (length m) 16)
  pub sound : So (all_of message_sound m)

pub record Alive (codes : List (List Instruction)) (i : ℕ) (p : Process) (m : List Message) : Type 0 where
  pub stage : p.stage ≡ Live
  pub placed : Placed codes p.behaviour.0 p.place
  pub valued : Valued p.r0 p.r1 p.r2 p.r3
  pub apart : Alone i p
  pub mailed : Mailed m

module _ (codes : List (List Instruction)) (i : ℕ) (p : Process) (m : List Message) where
  pub alive : p.stage ≡ Live → So (standing_sound codes i (standing p m)) → Alive codes i p m
  unfolding standing running_sound
  alive e h =
      let t : So (standing_sound codes i (standing_in Live p m)) = subst (λ (s : Stage). So (standing_sound codes i (standing_in s p m))) e h in
      let y = parts _ _ t in
      let z = parts _ _ y.0 in
      let a = parts _ _ z.0 in
      let b = parts _ _ a.0 in
      let c = parts _ _ b.0 in
      let d = parts _ _ c.0 in
      let f = parts _ _ d.0 in
      let g = parts _ _ f.0 in
      let v = parts _ _ d.1 in
      let w = parts _ _ v.1 in
      let x = parts _ _ w.1 in
      record {
        stage = e;
        placed = record { known = g.0; within = g.1; off = f.1 };
        valued = record { v0 = v.0; v1 = w.0; v2 = x.0; v3 = (parts _ _ x.1).0 };
        apart = record { links = a.1; watches = z.1; watchers = y.1 };
        mailed = record { few = c.1; sound = b.1 };
      }

  pub alive_sound : Alive codes i p m → So (standing_sound codes i (standing p m))
  unfolding standing running_sound
  alive_sound a =
      let v = a.valued in
      let x = a.placed in
      let values = both v.v0 (both v.v1 (both v.v2 (both v.v3 refl))) in
      let runs = both (both (both (both (both x.known x.within) x.off) values) a.mailed.few) a.mailed.sound in
      let t : So (standing_sound codes i (standing_in Live p m)) = both (both (both runs a.apart.links) a.apart.watches) a.apart.watchers in
      subst (λ (s : Stage). So (standing_sound codes i (standing_in s p m))) (sym a.stage) t

module _ (m : List Message) (a : Mailed m) where
  -- a message joins where there is room
  pub joined_mailed : (x : Message) → So (message_sound x) → length m < 16 → Mailed (m ++ (x ∷ []))
  joined_mailed x h g = record {
    few = rw (length-append m (x ∷ [])) (le-leb (length m + 1) 16 (omega arith));
    sound = all_of_join message_sound m (x ∷ []) a.sound (both h refl);
  }

  pub without_mailed : (k : ℕ) → Mailed (without k m)
  without_mailed k = record {
    few = le-leb (length (without k m)) 16 (omega (arith, without_length k m, leb-true (length m) 16 a.few));
    sound = all_of_without message_sound k m a.sound;
  }

pub empty_mailed : Mailed []
empty_mailed = record { few = refl; sound = refl }

-- ---- registers

module _ (p : Process) (v : Valued p.r0 p.r1 p.r2 p.r3) where
  pub register_sound : (r : ℕ) → So (value_sound (register p r))
  unfolding register
  register_sound r = go (eqb r 0) (eqb r 1) (eqb r 2)
    where
      go : (a b c : Bool) → So (value_sound (cond a p.r0 (cond b p.r1 (cond c p.r2 p.r3))))
      go true b c = v.v0
      go false true c = v.v1
      go false false true = v.v2
      go false false false = v.v3

-- what holds of a process whatever sound values stand in its registers, holds where one register changes
module _ (p : Process) (v : Valued p.r0 p.r1 p.r2 p.r3) (Q : Process → Type 0) (h : (a b c d : Value) → Valued a b c d → Q (with_registers p a b c d)) where
  pub with_register_keeps : (r : ℕ) (x : Value) → So (value_sound x) → Q (with_register p r x)
  unfolding with_register
  with_register_keeps r x g = go (eqb r 0) (eqb r 1) (eqb r 2)
    where
      go : (a b c : Bool) →
          Q (cond a (with_registers p x p.r1 p.r2 p.r3) (cond b (with_registers p p.r0 x p.r2 p.r3) (cond c (with_registers p p.r0 p.r1 x p.r3)
          (with_registers p p.r0 p.r1 p.r2 x))))
      go true b c = h x p.r1 p.r2 p.r3 (record { v0 = g; v1 = v.v1; v2 = v.v2; v3 = v.v3 })
      go false true c = h p.r0 x p.r2 p.r3 (record { v0 = v.v0; v1 = g; v2 = v.v2; v3 = v.v3 })
      go false false true = h p.r0 p.r1 x p.r3 (record { v0 = v.v0; v1 = v.v1; v2 = g; v3 = v.v3 })
      go false false false = h p.r0 p.r1 p.r2 x (record { v0 = v.v0; v1 = v.v1; v2 = v.v2; v3 = g })

-- ---- sets

module _ (i : ℕ) (s : Peers) (h : Apart i s) where
  pub without_apart : (j : ℕ) → Apart i (without_peer s j)
  unfolding set_of
  without_apart j = go (is_number i) h
    where
      go : (t : Bool) → So (not (t && has s i)) → So (not (t && has (without_peer s j) i))
      go false g = refl
      go true g = let e = has_without_false s j i (not-true (has s i) g) in rw e

  pub with_apart : (j : ℕ) → So (is_number i) → So (is_number j) → eqb j i ≡ false → Apart i (with_peer s j)
  unfolding set_of
  with_apart j a b e =
      let x = number_bounds i a in
      let y = number_bounds j b in
      let n : i - 1 ≡ j - 1 → ⊥ = λ q. eqb-false j i e (omega arith) in
      rw (has_with_other s j i n) h

pub none_apart : (i : ℕ) → Apart i no_peers
unfolding set_of
none_apart i = go (is_number i)
  where
    go : (t : Bool) → So (not (t && has no_peers i))
    go false = refl
    go true = rw (has_none i)

-- ---- changes of a live process

-- the three sets anew
abbrev with_sets : Process → Peers → Peers → Peers → Process
with_sets p l w v = record {
  stage = p.stage;
  behaviour = p.behaviour;
  place = p.place;
  r0 = p.r0;
  r1 = p.r1;
  r2 = p.r2;
  r3 = p.r3;
  trap = p.trap;
  links = l;
  watches = w;
  watchers = v;
  reason = p.reason;
}

module _ (codes : List (List Instruction)) (i : ℕ) (p : Process) (m : List Message) (a : Alive codes i p m) where
  pub live_born : is_unborn p.stage ≡ false
  live_born = ap is_unborn a.stage

  pub moved_alive : (t : ℕ) → So (leb t (length (code_of codes p.behaviour.0))) → So (not (on_part (code_of codes p.behaviour.0) t)) → Alive codes i (moved p t) m
  unfolding moved
  moved_alive t h g = record { stage = a.stage; placed = record { known = a.placed.known; within = h; off = g }; valued = a.valued; apart = a.apart; mailed = a.mailed }

  pub registers_alive : (b c d e : Value) → Valued b c d e → Alive codes i (with_registers p b c d e) m
  registers_alive b c d e v = record { stage = a.stage; placed = a.placed; valued = v; apart = a.apart; mailed = a.mailed }

  pub trapped_alive : (f : Bool) → Alive codes i (trapped p f) m
  unfolding trapped
  trapped_alive f = record { stage = a.stage; placed = a.placed; valued = a.valued; apart = a.apart; mailed = a.mailed }

  sets_alive : (l w v : Peers) → Lone i l w v → Alive codes i (with_sets p l w v) m
  sets_alive l w v h = record { stage = a.stage; placed = a.placed; valued = a.valued; apart = h; mailed = a.mailed }

  -- another process joins a set
  module _ (j : ℕ) (n : So (is_number i)) (h : So (is_number j)) (e : eqb j i ≡ false) where
    pub linked_alive : Alive codes i (linked p j) m
    unfolding linked
    linked_alive = sets_alive _ _ _ (record { links = with_apart i p.links a.apart.links j n h e; watches = a.apart.watches; watchers = a.apart.watchers })

    pub watching_alive : Alive codes i (watching p j) m
    unfolding watching
    watching_alive = sets_alive _ _ _ (record { links = a.apart.links; watches = with_apart i p.watches a.apart.watches j n h e; watchers = a.apart.watchers })

    pub watched_alive : Alive codes i (watched p j) m
    unfolding watched
    watched_alive = sets_alive _ _ _ (record { links = a.apart.links; watches = a.apart.watches; watchers = with_apart i p.watchers a.apart.watchers j n h e })

  -- a process leaves a set
  module _ (j : ℕ) where
    pub unlinked_alive : Alive codes i (unlinked p j) m
    unfolding unlinked
    unlinked_alive = sets_alive _ _ _ (record { links = without_apart i p.links a.apart.links j; watches = a.apart.watches; watchers = a.apart.watchers })

    pub unwatching_alive : Alive codes i (unwatching p j) m
    unfolding unwatching
    unwatching_alive = sets_alive _ _ _ (record { links = a.apart.links; watches = without_apart i p.watches a.apart.watches j; watchers = a.apart.watchers })

    pub unwatched_alive : Alive codes i (unwatched p j) m
    unfolding unwatched
    unwatched_alive = sets_alive _ _ _ (record { links = a.apart.links; watches = a.apart.watches; watchers = without_apart i p.watchers a.apart.watchers j })

  pub mailed_alive : (b : List Message) → Mailed b → Alive codes i p b
  mailed_alive b h = record { stage = a.stage; placed = a.placed; valued = a.valued; apart = a.apart; mailed = h }

-- ---- a mailbox emptied

-- what is sound with some mailbox is sound with an empty one
pub emptied_sound : (codes : List (List Instruction)) (i : ℕ) (p : Process) (m : List Message) → So (standing_sound codes i (standing p m)) → So (standing_sound codes i (standing p []))
unfolding standing
emptied_sound codes i p m h = go p.stage refl h
  where
    go : (s : Stage) → p.stage ≡ s → So (standing_sound codes i (standing_in s p m)) → So (standing_sound codes i (standing_in s p []))
    go Unborn e g = refl
    go Live e g =
        let a = mailed_alive codes i p m (alive codes i p m e h) [] empty_mailed in
        subst (λ (s : Stage). So (standing_sound codes i (standing_in s p []))) e (alive_sound codes i p [] a)
    go Closing e g = g
    go Gone e g = refl

-- ---- where a live process stands

-- its behaviour is one that the node has
pub live_within : (codes : List (List Instruction)) (i : ℕ) (p : Process) (m : List Message) → p.stage ≡ Live → So (standing_sound codes i (standing p m)) →
    So (leb 1 p.behaviour.0 && leb p.behaviour.0 (length codes))
live_within codes i p m e h = (alive codes i p m e h).placed.known
