-- A state that was loaded, or none.
use Rattle.std.proofs.Common.{◌≡◌, refl, [], ◌∷◌, Some, None, Ok, ℕ, true, false}
use Rattle.vr_state.specs.declared.texts.Texts.{Texts}
use Rattle.vr_state.specs.declared.state.State.{State}
use Rattle.vr_state.specs.StateTexts.{state_decoded}
use Rattle.vr_state.specs.Fitting.{fits}
use Rattle.vr_state.specs.declared.fault.StateFault.{StateFault}
use Rattle.vr_state.specs.declared.fault.StateFault.TheVariants as fault
use Rattle.vr_state.specs.Table.{IsOrNoMemory}
use Rattle.vr_ckpt.specs.declared.found.Load.TheVariants.{Loaded}
use Rattle.vr_ckpt.specs.declared.table.PayloadTable.{PayloadTable}
use Rattle.vr_rules.specs.Replica.{Replica, version}
use Rattle.vr_rules.specs.Words.{loads, usable, with_state, with_missing}

pub usable_ok : (v : ℕ) (t : Texts) (s : State) → state_decoded t ≡ Ok s → fits v s ≡ true → Some s ≡ usable v (state_decoded t)
usable_ok v t s i e = rw (i, e) refl

pub usable_unfit : (v : ℕ) (t : Texts) (s : State) → state_decoded t ≡ Ok s → fits v s ≡ false → None ≡ usable v (state_decoded t)
usable_unfit v t s i e = rw (i, e) refl

pub usable_err : (v : ℕ) (t : Texts) (f : StateFault) → IsOrNoMemory (state_decoded t) f → (f ≡ fault.NoMemory → ⊥) → None ≡ usable v (state_decoded t)
usable_err v t fault.Torn h n = rw h refl
usable_err v t fault.NotSorted h n = rw h refl
usable_err v t fault.TooMany h n = rw h refl
usable_err v t fault.NoMemory h n = absurd (n refl)

pub loads_state : (t : Texts) (table : PayloadTable) (s : State) (r q : Replica) → Some s ≡ usable (version r) (state_decoded t) → q ≡ with_state table s r → q ≡ loads r.root (Loaded t table) r
loads_state t table s r q d e = rw (← d) e

pub loads_none : (t : Texts) (table : PayloadTable) (r q : Replica) → None ≡ usable (version r) (state_decoded t) → q ≡ with_missing (r.root ∷ []) r → q ≡ loads r.root (Loaded t table) r
loads_none t table r q d e = rw (← d) e
