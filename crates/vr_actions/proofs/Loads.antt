-- What loading a checkpoint leaves.
use Rattle.std.proofs.Common.{ℕ, ◌≡◌, ◌≤◌, refl, subst, List, [], ◌∷◌, Option, Some, None, true, false, Result, Ok}
use Rattle.std.specs.Prelude.{IfSome, nat_lt}
use Rattle.vr_state.specs.declared.state.State.{State}
use Rattle.vr_state.specs.StateTexts.{state_decoded}
use Rattle.vr_ckpt.specs.declared.found.Load.{Load}
use Rattle.vr_ckpt.specs.declared.found.Load.TheVariants.{Loaded, Missing}
use Rattle.vr_ckpt.specs.declared.table.PayloadTable.{PayloadTable}
use Rattle.vr_ckpt.specs.Loads.{loaded}
use Rattle.vr_disk.specs.DiskState.{Disk}
use Rattle.vr_ckpt.specs.declared.name.Name.{Name}
use Rattle.vr_msg.specs.declared.output.Output.{Output}
use Rattle.vr_state.specs.declared.fault.StateFault.{StateFault}
use Rattle.vr_rules.specs.Replica.{Replica, version}
use Rattle.vr_rules.specs.Sound.{IsSavable}
use Rattle.vr_rules.specs.Words.{load, loads, loaded_state, usable, with_state, with_missing, checkpoint_at}
use Rattle.vr_rules.proofs.SavesWell.{savable_alike}
use Rattle.vr_state.specs.Fitting.{Fits}
use Rattle.vr_state.proofs.Fitting.{fits_means}
use Rattle.vr_rules.proofs.Wording.{kept_loads, usable_is}
use Rattle.vr_rules.specs.Does.{Does, Finds}
use Rattle.vr_rules.proofs.Versions.{loads_stay}
use Rattle.vr_rules.proofs.Stepping.{does_by, does_quiet, does_reading, change_by}
use Rattle.vr_volatile.specs.Ready.{IsReady, MayLoad}

pub ready_opened : (r : Replica) → MayLoad r → IsReady r
unfolding MayLoad
ready_opened r h = h.ready

pub checkpoint_found : (v : ℕ) (root name : Name) (l : Load) (d d' : Option Disk) → d' ≡ d → IfSome d (λ x. l ≡ loaded x.face name) → name ≡ root → Finds v (checkpoint_at root) d d' l
checkpoint_found v root name l d d' e h n = record { same = e; value = subst (λ (x : Name). IfSome d (λ y. l ≡ loaded y.face x)) n h }

pub load_then : (l : Load) (r q : Replica) (d d' : Option Disk) (o : List Output) → nat_lt 0 r.checkpoint ≡ true → Finds (version r) (checkpoint_at r.root) d d' l → q ≡ loads r.root l r → Does load r q d d' o o (Ok tt)
unfolding load
load_then l r q d d' o t f e = does_by _ r q d d' o o (Ok tt) (rw t (does_reading (checkpoint_at r.root) _ l r q d d' d' o o (Ok tt) f (change_by (loads r.root l) r q d' o e (loads_stay r.root l r))))

pub load_none : (r : Replica) (d : Option Disk) (o : List Output) → nat_lt 0 r.checkpoint ≡ false → Does load r r d d o o (Ok tt)
unfolding load
load_none r d o t = does_by _ r r d d o o (Ok tt) (rw t (does_quiet r d o))

loaded_savable : (root : Name) (table : PayloadTable) (x : Option State) (r : Replica) → IsSavable r → IsSavable (loaded_state root table x r)
unfolding with_state
loaded_savable root table (Some s) r h = savable_alike r (with_state table s r) refl h
loaded_savable root table None r h = savable_alike r (with_missing (root ∷ []) r) refl h

loads_savable : (root : Name) (l : Load) (r : Replica) → IsSavable r → IsSavable (loads root l r)
loads_savable root (Loaded t table) r h = loaded_savable root table (usable (version r) (state_decoded t)) r h
loads_savable root (Missing names) r h = savable_alike r (with_missing names r) refl h

loaded_idle : (root : Name) (table : PayloadTable) (x : Option State) (r : Replica) → r.idle ≤ 9 → (loaded_state root table x r).idle ≤ 9
unfolding with_state
loaded_idle root table (Some s) r h = h
loaded_idle root table None r h = h

loads_idle : (root : Name) (l : Load) (r : Replica) → r.idle ≤ 9 → (loads root l r).idle ≤ 9
loads_idle root (Loaded t table) r h = loaded_idle root table (usable (version r) (state_decoded t)) r h
loads_idle root (Missing names) r h = h

loaded_version : (root : Name) (table : PayloadTable) (o : Option State) (r : Replica) → version r ≡ version (loaded_state root table o r)
unfolding with_state
loaded_version root table (Some s) r = refl
loaded_version root table None r = refl

loaded_fits : (root : Name) (table : PayloadTable) (x : Result State StateFault) (r : Replica) → Fits (version r) r.state → Fits (version r) (loaded_state root table (usable (version r) x) r).state
unfolding with_state
loaded_fits root table x r h =
    elim (usable (version r) x) as (λ o. usable (version r) x ≡ o → Fits (version r) (loaded_state root table o r).state) [
      | Some s ↦ λ e. fits_means (version r) s (usable_is (version r) x s e).1
      | None ↦ λ e. h
    ] refl

loads_fits : (root : Name) (l : Load) (r : Replica) → Fits (version r) r.state → Fits (version (loads root l r)) (loads root l r).state
unfolding with_state
loads_fits root (Loaded t table) r h = subst (λ v. Fits v (loads root (Loaded t table) r).state) (loaded_version root table (usable (version r) (state_decoded t)) r) (loaded_fits root table (state_decoded t) r h)
loads_fits root (Missing names) r h = h

pub ready_loaded : (l : Load) (r q : Replica) → MayLoad r → q ≡ loads r.root l r → IsReady q
unfolding MayLoad IsReady
ready_loaded l r q h e =
    rw e (record {
      sound = (kept_loads r.root l r h.ready.sound h.applied).sound;
      savable = loads_savable r.root l r h.ready.savable;
      idle = loads_idle r.root l r h.ready.idle;
      fits = loads_fits r.root l r h.ready.fits;
    })
