-- What the walks of `play_steps` and of `lend_first` share. Assumes nothing.
--   Returned     what a caller has once a call has returned
--   hears        a call has returned v: its result r is had, with what its contract tells of r, and that v is r's machine value
--   hears_kept   the same for a call that was given tokens, which are had again
use mathlib.Core.List.{List, [], ◌∷◌}
use seplogic.Ra.Ura.{Ura}
use mir.Val.{Val}
use base.Logic.{SProp, ent}
use base.Fml.{ftrue}
use types.Logic.{Logic}
use contract.Monad.{fact}
use types.Kit.{Goal, Soaks, Item, ‵, raw, ◌⊛◌, some, later, mean, Seq, ◌$◌, move, drop, use1, split, pick, await}
use denote.RattleType.{RattleType}
use denote.Laws.{Is, shows}
use denote.Steps.{peeks, heard}

-- a call's `post` at its machine value v: some result, with the tokens, what it owns and what is said of it
abbrev pub Returned : {M : Type 1} (𝓤 : Ura M) (R : RattleType) → Item 𝓤 → (R.Denot → SProp 𝓤) → Val → Item 𝓤
Returned 𝓤 R tokens said v = later (some (λ (r : R.Denot). (tokens ⊛ ‵ (R.own_val r (v ∷ []))) ⊛ raw (said r)))

module _ {M : Type 1} {𝓤 : Ura M} {𝓛 : Logic 𝓤} {K : Type 0} {Γ : List (Item 𝓤)} {G : Goal 𝓤 𝓛.H} where
  pub hears_kept : K → Soaks G → (R : RattleType) (tokens : Item 𝓤) {said : R.Denot → SProp 𝓤} {φ : R.Denot → Type 0} → ((r : R.Denot) → ent 𝓤 (said r) (fact 𝓤 (φ r)))
      → (v : Val) {P : SProp 𝓤} → ent 𝓤 P (mean 𝓛 (Returned 𝓤 R tokens said v))
      → ((r : R.Denot) → φ r → Is R r (v ∷ []) → Seq K 𝓛 (‵ (R.own_val r (v ∷ [])) ∷ tokens ∷ Γ) G) → Seq K 𝓛 (raw P ∷ Γ) G
  hears_kept t z R tokens {said = said} {φ = φ} told v get k =
      use1 𝓛 (Returned 𝓤 R tokens said v) get $ await t z $ pick t (λ r. split t $ move t (1 ∷ []) $ use1 𝓛 (raw (fact 𝓤 (φ r))) (told r) $
      heard t (φ r) (λ e. split t $ move t (1 ∷ []) $ peeks t R (Is R) (shows 𝓛 R) r (v ∷ []) (λ is. k r e is)))

  pub hears : K → Soaks G → (R : RattleType) {said : R.Denot → SProp 𝓤} {φ : R.Denot → Type 0} → ((r : R.Denot) → ent 𝓤 (said r) (fact 𝓤 (φ r))) → (v : Val) {P : SProp 𝓤}
      → ent 𝓤 P (mean 𝓛 (Returned 𝓤 R (‵ ftrue) said v))
      → ((r : R.Denot) → φ r → Is R r (v ∷ []) → Seq K 𝓛 (‵ (R.own_val r (v ∷ [])) ∷ Γ) G) → Seq K 𝓛 (raw P ∷ Γ) G
  hears t z R {said = said} {φ = φ} told v get k = hears_kept t z R (‵ ftrue) {said = said} {φ = φ} told v get (λ r e is. move t (1 ∷ []) $ drop t $ k r e is)
