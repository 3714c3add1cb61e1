-- A member acts on a disk that tells what its slots hold.
use Rattle.std.proofs.Common.{ℕ, ◌<◌, ◌≤◌, ◌≡◌, refl, sym, ap, ◌∙◌, List, [], ◌∷◌, ◌++◌, length, Option, Some, None, subst}
use Rattle.std.specs.Prelude.{IfSome}
use Rattle.std.proofs.lemmas.Bool.{le-leb, lt-leb}
use Rattle.vr_disk.specs.DiskState as disk
use Rattle.vr_disk.specs.DiskState.{Call, Disk, Face, Fuse, Runs, runs}
use Rattle.vr_disk.proofs.Together.{after_all_append}
use Rattle.vr_super.specs.Copies.{SuperValue}
use Rattle.vr_lie.specs.Faults.{held_at}
use Rattle.vr_msg.specs.declared.output.Output.{Output}
use Rattle.vr_rings.specs.Held.{held_after_all}
use Rattle.vr_world.specs.Lying.{Lying, after_calls, hazards, lying, settled}
use Rattle.vr_rules.specs.Migrating.{migration_calls}
use Rattle.vr_rules.specs.Replica.{Replica}
use Rattle.vr_rules.specs.Sectors.{calls_by, script_calls}
use Rattle.vr_rules.specs.Steps.{Effect, Step, after_all, outputs}
use Rattle.vr_world.specs.World.{Acted, Host, halted, migrated_or_halted, migrated_with, migration_halted, went, went_or_halted}
use Rattle.vr_host_disk.specs.Told.{burnt, host_on, lying_in}
use Rattle.vr_host_disk.specs.Laws.{ActsGo, ActsHalt, MigrationsGo, MigrationsHalt, WasCut, Went}
use Rattle.vr_host_disk.proofs.Runs.{at_slot, no_calls, runs_cut, runs_went, same_rows, slots_count, with_held}

-- ---- the calls of effects

held_both : (v : ℕ) (cs ds : List Call) (f : Face) (slot : ℕ) (h : Option (List ℕ)) → held_after_all v f (cs ++ ds) slot h ≡ held_after_all v (disk.after_all f cs) ds slot (held_after_all v f cs slot h)
unfolding held_after_all
held_both v [] ds f slot h = refl
held_both v (c ∷ cs) ds f slot h = held_both v cs ds (disk.after f c) slot _

calls_both : (d : Lying) (cs ds : List Call) → after_calls (after_calls d cs) ds ≡ after_calls d (cs ++ ds)
calls_both d cs ds =
    let f = disk.after_all d.face cs in
    let rows = same_rows (λ slot. held_after_all d.version f ds slot (held_at (after_calls d cs).held slot)) (λ slot. held_after_all d.version d.face (cs ++ ds) slot (held_at d.held slot))
    (λ slot l. ap (held_after_all d.version f ds slot) (at_slot (λ slot. held_after_all d.version d.face cs slot (held_at d.held slot)) slot l) ∙ sym (held_both d.version cs ds d.face slot (held_at d.held slot))) in
    ap (with_held d.version (disk.after_all f ds)) rows ∙ ap (λ g. with_held d.version g (after_calls d (cs ++ ds)).held) (sym (after_all_append cs ds d.face))

-- effects one after the other leave what all their calls leave
pub script_leaves : (es : List Effect) (d : Lying) → length d.held ≡ 64 → after_all lying d es ≡ after_calls d (script_calls d.version es d.face)
unfolding after_all script_calls
script_leaves [] d n = no_calls d n
script_leaves (e ∷ es) d n =
    let cs = calls_by d.version e d.face in
    let one = after_calls d cs in
    script_leaves es one (slots_count (λ slot. held_after_all d.version d.face cs slot (held_at d.held slot))) ∙ calls_both d cs (script_calls d.version es one.face)

-- ---- a step

-- whether the fuse lets so many calls through
fits_burnt : (index : ℕ) (m : Host Lying) (s : Step) (o : Option Fuse) → IfSome o (λ u. length (script_calls m.disk.version s.script m.disk.face) ≤ u.calls)
    → went_or_halted hazards index m s o ≡ went hazards m s (burnt (length (script_calls m.disk.version s.script m.disk.face)) o)
fits_burnt index m s None l = refl
fits_burnt index m s (Some u) l = rw (le-leb (length (script_calls m.disk.version s.script m.disk.face)) u.calls l) refl

cut_halted : (index : ℕ) (m : Host Lying) (s : Step) (u : Fuse) → u.calls < length (script_calls m.disk.version s.script m.disk.face) → went_or_halted hazards index m s (Some u) ≡ halted hazards index m s u
cut_halted index m s u l = rw (lt-leb (length (script_calls m.disk.version s.script m.disk.face)) u.calls l) refl

abbrev pub member_left : Option Replica → Lying → Option Fuse → List Output → Acted Lying
member_left r x fuse os = record { member = record { replica = r; disk = x; fuse = fuse }; outputs = os }

pub acts_go : ActsGo
acts_go v index r d e s t h =
    let cs = script_calls v s.script d.face in
    let same : e ≡ (runs cs d).disk = let x = h.0 in cc in
    let w : Went v cs d e = subst (λ (e : Disk). Went v cs d e) (sym same) (runs_went v cs d t (sym h.1)) in
    let m = host_on v r d in
    let left : after_all lying m.disk s.script ≡ lying_in v e = script_leaves s.script m.disk t.count ∙ sym w.lying in
    record {
      acted = fits_burnt index m s d.fate.fuse w.reach
          ∙ ap (λ fuse. member_left (Some s.replica) (after_all lying m.disk s.script) fuse (outputs s.script)) (sym w.fuse)
          ∙ ap (λ x. member_left (Some s.replica) x e.fate.fuse (outputs s.script)) left;
      told = w.told;
    }

pub acts_halt : ActsHalt
acts_halt v index r d e s t h =
    let cs = script_calls v s.script d.face in
    let same : e ≡ (runs cs d).disk = let x = h.0 in cc in
    let w : WasCut v cs d e = subst (λ (e : Disk). WasCut v cs d e) (sym same) (runs_cut v cs d t (sym h.1)) in
    let m = host_on v r d in
    let u = w.fuse in
    let os = (halted hazards index m s u).outputs in
    record {
      acted = ap (λ o. went_or_halted hazards index m s o) w.armed ∙ cut_halted index m s u w.within
          ∙ ap (λ x. member_left None x None os) (sym w.lying)
          ∙ ap (λ fuse. member_left None (lying_in v e) fuse os) (sym w.spent);
      told = record { alive = refl; sure = w.sure; count = w.count; next = w.next };
    }

-- ---- a migration

migration_fits : (index : ℕ) (m : Host Lying) (v : SuperValue) (o : Option Fuse) → IfSome o (λ u. length (migration_calls v m.disk.face) ≤ u.calls)
    → migrated_or_halted hazards index m v o ≡ migrated_with hazards index m v (burnt (length (migration_calls v m.disk.face)) o)
migration_fits index m v None l = refl
migration_fits index m v (Some u) l = rw (le-leb (length (migration_calls v m.disk.face)) u.calls l) refl

migration_cut : (index : ℕ) (m : Host Lying) (v : SuperValue) (u : Fuse) → u.calls < length (migration_calls v m.disk.face) → migrated_or_halted hazards index m v (Some u) ≡ migration_halted hazards index m v u
migration_cut index m v u l = rw (lt-leb (length (migration_calls v m.disk.face)) u.calls l) refl

pub migrations_go : MigrationsGo
migrations_go n index r d e v t h =
    let cs = migration_calls v d.face in
    let same : e ≡ (runs cs d).disk = let x = h.0 in cc in
    let w : Went n cs d e = subst (λ (e : Disk). Went n cs d e) (sym same) (runs_went n cs d t (sym h.1)) in
    let m = host_on n r d in
    let os = (migrated_with hazards index m v None).outputs in
    record {
      acted = migration_fits index m v d.fate.fuse w.reach
          ∙ ap (λ fuse. member_left None (settled (after_calls m.disk cs)) fuse os) (sym w.fuse)
          ∙ ap (λ x. member_left None (settled x) e.fate.fuse os) (sym w.lying);
      told = w.told;
    }

pub migrations_halt : MigrationsHalt
migrations_halt n index r d e v t h =
    let cs = migration_calls v d.face in
    let same : e ≡ (runs cs d).disk = let x = h.0 in cc in
    let w : WasCut n cs d e = subst (λ (e : Disk). WasCut n cs d e) (sym same) (runs_cut n cs d t (sym h.1)) in
    let m = host_on n r d in
    let u = w.fuse in
    let os = (migration_halted hazards index m v u).outputs in
    record {
      acted = ap (λ o. migrated_or_halted hazards index m v o) w.armed ∙ migration_cut index m v u w.within
          ∙ ap (λ x. member_left None (settled x) None os) (sym w.lying)
          ∙ ap (λ fuse. member_left None (settled (lying_in n e)) fuse os) (sym w.spent);
      told = record { alive = refl; sure = w.sure; count = w.count; next = w.next };
    }
