-- The file of a member becomes one of version 2.
use Rattle.std.proofs.Common.{ℕ, ◌≡◌, ◌≤◌, ◌<◌, inl, inr, refl, sym, ap, ◌∙◌, true, false, is_some, List, [], ◌∷◌, length, Option, Some, None, Ok, Err, subst, arith}
use Rattle.std.specs.Option.{option_and_then, option_map_or}
use Rattle.std.specs.Prelude.{IfSome}
use Rattle.std.proofs.lemmas.Bool.{le-leb, lt-leb}
use Rattle.vr_disk.specs.DiskState.{Call, Disk, Face, Fate, Fuse, RunsFrom, runs}
use Rattle.vr_msg.specs.declared.output.Output.{Output}
use Rattle.vr_msg.specs.declared.output.Output.TheVariants as output
use Rattle.vr_disk.specs.declared.fault.Halt.{Halt}
use Rattle.vr_disk.specs.declared.fault.Halt.TheVariants.{DiskFault, NoMemory}
use Rattle.vr_rules.specs.Migrating.{migration_calls}
use Rattle.vr_opening.specs.Migration.{MigratedAny, StopsMigration}
use Rattle.vr_opening.specs.Recovering.{opens_as}
use Rattle.vr_opening.proofs.Recovers.{alone_stays, lost_stays}
use Rattle.vr_opening.specs.declared.reopen.NoValue.{NoValue}
use Rattle.vr_opening.specs.declared.reopen.NoValue.TheVariants.{Halted, Lost, OtherVersion}
use Rattle.vr_replica.specs.Running.{Running}
use Rattle.vr_rules.specs.Sectors.{sectors_by}
use Rattle.vr_opening.proofs.Opens.{opens_in}
use Rattle.vr_opening.proofs.Others.{by_version}
use Rattle.vr_super.specs.Calls.{mend_calls}
use Rattle.vr_super.specs.Copies.{SuperValue}
use Rattle.vr_super.specs.declared.recovering.CopyVerdict.{CopyVerdict}
use Rattle.vr_super.specs.Opens.{found_of, good_copies, opens}
use Rattle.vr_lie.specs.Told.{version_by}
use Rattle.vr_host_disk.specs.Disks.{lying_of, told_by}
use Rattle.vr_host_disk.specs.Laws.{WasCut, Went, revived}
use Rattle.vr_world.specs.Lying.{Lying, after_calls, cut_calls, hazards, in_edition, settled}
use Rattle.vr_host_disk.specs.Told.{IsTold, burnt, host_on, lying_in}
use Rattle.vr_world.specs.World.{Acted, Host, if_first, migrated_or_halted, migrated_with, migrates, migration_halted, movable, stays}
use Rattle.vr_host_disk.specs.declared.disk.HostDisk.{HostDisk}
use Rattle.vr_host_disk.proofs.Runs.{runs_cut, runs_went}
use Rattle.vr_host_disk.proofs.Versions.{opens_by, version_told}
use Rattle.vr_group.specs.Hosts.{HasActed, host_by, host_of}
use Rattle.vr_group.proofs.Steps.{opens_so}

-- ---- which files can be migrated

first_so : (v : SuperValue) → v.fields.version ≡ 1 → if_first v ≡ Some v
first_so v e = rw e refl

by_value : (index : ℕ) (m : Host Lying) (o : Option SuperValue) → movable hazards m ≡ o → migrates hazards index m ≡ option_map_or (λ v. migrated_or_halted hazards index m v m.fuse) o (stays m)
by_value index m o e = ap (λ o. option_map_or (λ v. migrated_or_halted hazards index m v m.fuse) o (stays m)) e

stays_so : (index : ℕ) (m : Host Lying) → movable hazards m ≡ None → HasActed (migrates hazards index m) m []
stays_so index m e = subst (λ (a : Acted Lying). HasActed a m []) (sym (by_value index m None e)) (record { member = refl; outputs = refl })

movable_so : (d : Disk) (v : SuperValue) → opens_as (Some 1) d.face ≡ Some v → movable hazards (host_on 1 None d) ≡ Some v
movable_so d v e =
    let opens = opens_so 1 d v e in
    ap (option_and_then if_first) opens ∙ first_so v (opens_by 1 d.face v opens)

-- a running member's isn't
pub runs_on : (n : ℕ) (index : ℕ) (r : Option Running) (d : Disk) → is_some r ≡ true → HasActed (migrates hazards index (host_by n r d)) (host_by n r d) []
runs_on n index None d e = absurd cc
runs_on n index (Some r) d e = record { member = refl; outputs = refl }

second_none : (o : Option SuperValue) → ((v : SuperValue) → o ≡ Some v → v.fields.version ≡ 2) → option_and_then if_first o ≡ None
second_none None h = refl
second_none (Some v) h = rw (h v refl) refl

-- nor is one of version 2
pub is_second : (n : ℕ) (index : ℕ) (d : Disk) → n ≡ 2 → HasActed (migrates hazards index (host_by n None d)) (host_by n None d) []
is_second n index d e =
    stays_so index (host_on n None d)
    (ap (λ k. option_and_then if_first ((sectors_by k).opens d.face)) e ∙ second_none ((sectors_by 2).opens d.face) (λ v s. opens_by 2 d.face v s))

-- ---- the calls of a migration

-- a fuse lets so many calls through
fits_burnt : (index : ℕ) (m : Host Lying) (v : SuperValue) (o : Option Fuse) → IfSome o (λ u. length (migration_calls v m.disk.face) ≤ u.calls)
    → migrated_or_halted hazards index m v o ≡ migrated_with hazards index m v (burnt (length (migration_calls v m.disk.face)) o)
fits_burnt index m v None l = refl
fits_burnt index m v (Some u) l = rw (le-leb (length (migration_calls v m.disk.face)) u.calls l) refl

cut_halted : (index : ℕ) (m : Host Lying) (v : SuperValue) (u : Fuse) → u.calls < length (migration_calls v m.disk.face) → migrated_or_halted hazards index m v (Some u) ≡ migration_halted hazards index m v u
cut_halted index m v u l = rw (lt-leb (length (migration_calls v m.disk.face)) u.calls l) refl

went : (cs : List Call) (d e : Disk) → IsTold 1 d → RunsFrom (λ f. cs) (Some d) (Some e) true → Went 1 cs d e
went cs d e t r =
    let same : e ≡ (runs cs d).disk = let x = r.0 in cc in
    subst (λ (e : Disk). Went 1 cs d e) (sym same) (runs_went 1 cs d t (sym r.1))

was_cut : (cs : List Call) (d e : Disk) → IsTold 1 d → RunsFrom (λ f. cs) (Some d) (Some e) false → WasCut 1 cs d e
was_cut cs d e t r =
    let same : e ≡ (runs cs d).disk = let x = r.0 in cc in
    subst (λ (e : Disk). WasCut 1 cs d e) (sym same) (runs_cut 1 cs d t (sym r.1))

revived_told : (cs : List Call) (d e : Disk) → WasCut 1 cs d e → IsTold 1 (revived e)
revived_told cs d e w = record { alive = refl; sure = w.sure; count = w.count; next = w.next }

one_two : (1 ≤ 1) × (1 ≤ 2)
one_two = (omega arith, omega arith)

abbrev member_with : Lying → Option Fuse → Host Lying
member_with x fuse = record { replica = None; disk = x; fuse = fuse }

-- ---- the file of a disk, once it was migrated

-- of the version that it had before
still : (m : HostDisk) → IsTold 1 (told_by m) → lying_of m ≡ lying_in 1 (told_by m)
still m t = ap (λ k. lying_in k (told_by m)) (version_told 1 m one_two t)

went_well : (index : ℕ) (d : Disk) (mid new : HostDisk) → IsTold 1 d → MigratedAny (Some d) (Some (told_by mid)) (Ok tt) → lying_of new ≡ settled (lying_of mid) → (told_by new).fate ≡ (told_by mid).fate
    → HasActed (migrates hazards index (host_on 1 None d)) (host_of None new) (output.Migrated index ∷ [])
went_well index d mid new t h left fate =
    let v = h.value in
    let cs = migration_calls v d.face in
    let m = host_on 1 None d in
    let w = went cs d (told_by mid) t h.ran in
    let all : migrates hazards index m ≡ migrated_with hazards index m v (burnt (length cs) d.fate.fuse) = by_value index m (Some v) (movable_so d v h.opens) ∙ fits_burnt index m v d.fate.fuse w.reach in
    let disk : lying_of new ≡ settled (after_calls (lying_in 1 d) cs) = left ∙ ap settled (still mid w.told ∙ w.lying) in
    let fuse : (told_by new).fate.fuse ≡ burnt (length cs) d.fate.fuse = ap (λ (t : Fate). t.fuse) fate ∙ w.fuse in
    subst (λ (a : Acted Lying). HasActed a (host_of None new) (output.Migrated index ∷ [])) (sym all)
    (record { member = ap (λ x. member_with x (told_by new).fate.fuse) disk ∙ ap (member_with (settled (after_calls (lying_in 1 d) cs))) fuse; outputs = refl })

was_halted : (index : ℕ) (d e : Disk) (mid new : HostDisk) → IsTold 1 d → MigratedAny (Some d) (Some e) (Err (Halted DiskFault)) → told_by mid ≡ revived e → lying_of new ≡ settled (lying_of mid) → (told_by new).fate ≡ (told_by mid).fate
    → HasActed (migrates hazards index (host_on 1 None d)) (host_of None new) (output.Halted index ∷ [])
was_halted index d e mid new t h again left fate =
    let v = h.value in
    let cs = migration_calls v d.face in
    let m = host_on 1 None d in
    let w = was_cut cs d e t h.step in
    let u = w.fuse in
    let told : IsTold 1 (told_by mid) = subst (IsTold 1) (sym again) (revived_told cs d e w) in
    let all : migrates hazards index m ≡ migration_halted hazards index m v u =
    by_value index m (Some v) (movable_so d v h.opens) ∙ (ap (migrated_or_halted hazards index m v) w.armed ∙ cut_halted index m v u w.within) in
    let disk : lying_of new ≡ settled (cut_calls u.calls u.code (lying_in 1 d) cs) = left ∙ ap settled (still mid told ∙ (ap (lying_in 1) again ∙ w.lying)) in
    let fuse : (told_by new).fate.fuse ≡ None = ap (λ (t : Fate). t.fuse) fate ∙ (ap (λ (e : Disk). e.fate.fuse) again ∙ w.spent) in
    subst (λ (a : Acted Lying). HasActed a (host_of None new) (output.Halted index ∷ [])) (sym all)
    (record { member = ap (λ x. member_with x (told_by new).fate.fuse) disk ∙ ap (member_with (settled (cut_calls u.calls u.code (lying_in 1 d) cs))) fuse; outputs = refl })

-- ---- the goals of the code

-- a file of version 1
of_first : (n : ℕ) (P : ℕ → Type 0) → n ≡ 1 → P n → P 1
of_first n P e h = subst P e h

pub migrated_told : (n : ℕ) (d : Disk) (mid : HostDisk) → n ≡ 1 → IsTold n d → MigratedAny (Some d) (Some (told_by mid)) (Ok tt) → IsTold (version_by mid.lie) (told_by mid)
migrated_told n d mid e t h =
    let w = went (migration_calls h.value d.face) d (told_by mid) (subst (λ n. IsTold n d) e t) h.ran in
    subst (λ k. IsTold k (told_by mid)) (sym (version_told 1 mid one_two w.told)) w.told

pub migrated_acted : (n : ℕ) (index : ℕ) (d : Disk) (mid new : HostDisk) → n ≡ 1 → IsTold n d → MigratedAny (Some d) (Some (told_by mid)) (Ok tt) → lying_of new ≡ settled (lying_of mid) → (told_by new).fate ≡ (told_by mid).fate
    → HasActed (migrates hazards index (host_by n None d)) (host_of None new) (output.Migrated index ∷ [])
migrated_acted n index d mid new e t h left fate =
    subst (λ k. HasActed (migrates hazards index (host_on k None d)) (host_of None new) (output.Migrated index ∷ [])) (sym e) (went_well index d mid new (subst (λ n. IsTold n d) e t) h left fate)

halted_as : (d e : Disk) (y : NoValue) (x : Halt) → y ≡ Halted x → x ≡ DiskFault → MigratedAny (Some d) (Some e) (Err y) → MigratedAny (Some d) (Some e) (Err (Halted DiskFault))
halted_as d e y x j k h = subst (λ y. MigratedAny (Some d) (Some e) (Err y)) (j ∙ ap Halted k) h

pub halted_told : (n : ℕ) (d e : Disk) (mid : HostDisk) (y : NoValue) (x : Halt) → y ≡ Halted x → x ≡ DiskFault → n ≡ 1 → IsTold n d → MigratedAny (Some d) (Some e) (Err y) → told_by mid ≡ revived e → IsTold (version_by mid.lie) (told_by mid)
halted_told n d e mid y x j k one t h again =
    let g = halted_as d e y x j k h in
    let cs = migration_calls g.value d.face in
    let told : IsTold 1 (told_by mid) = subst (IsTold 1) (sym again) (revived_told cs d e (was_cut cs d e (subst (λ n. IsTold n d) one t) g.step)) in
    subst (λ k. IsTold k (told_by mid)) (sym (version_told 1 mid one_two told)) told

pub halted_acted : (n : ℕ) (index : ℕ) (d e : Disk) (mid new : HostDisk) (y : NoValue) (x : Halt) → y ≡ Halted x → x ≡ DiskFault → n ≡ 1 → IsTold n d → MigratedAny (Some d) (Some e) (Err y) → told_by mid ≡ revived e
    → lying_of new ≡ settled (lying_of mid) → (told_by new).fate ≡ (told_by mid).fate → HasActed (migrates hazards index (host_by n None d)) (host_of None new) (output.Halted index ∷ [])
halted_acted n index d e mid new y x j k one t h again left fate =
    subst (λ k. HasActed (migrates hazards index (host_on k None d)) (host_of None new) (output.Halted index ∷ [])) (sym one)
    (was_halted index d e mid new (subst (λ n. IsTold n d) one t) (halted_as d e y x j k h) again left fate)

-- memory was wanted, before a call or after the mending
wanting : (v : SuperValue) (d e : Disk) → IsTold 1 d → StopsMigration v (Some d) (Some e) NoMemory → IsTold 1 e
wanting v d e t (inl same) = let is : e ≡ d = cc in subst (IsTold 1) (sym is) t
wanting v d e t (inr ran) = (went (mend_calls v d.face) d e t ran).told

pub wanting_told : (n : ℕ) (d : Disk) (mid : HostDisk) (y : NoValue) (x : Halt) → y ≡ Halted x → x ≡ NoMemory → n ≡ 1 → IsTold n d → MigratedAny (Some d) (Some (told_by mid)) (Err y) → IsTold (version_by mid.lie) (told_by mid)
wanting_told n d mid y x j k one t h =
    let g : MigratedAny (Some d) (Some (told_by mid)) (Err (Halted NoMemory)) = subst (λ y. MigratedAny (Some d) (Some (told_by mid)) (Err y)) (j ∙ ap Halted k) h in
    let told = wanting g.value d (told_by mid) (subst (λ n. IsTold n d) one t) g.step in
    subst (λ k. IsTold k (told_by mid)) (sym (version_told 1 mid one_two told)) told

-- the disk doesn't open
pub lost_unopened : (d e : Disk) (y : NoValue) (verdicts : List CopyVerdict) → y ≡ Lost verdicts → MigratedAny (Some d) (Some e) (Err y) → (opens_as (Some 1) d.face ≡ None) × (e ≡ d)
lost_unopened d e y verdicts k h = lost_stays (Some 1) verdicts d e (subst (λ y. MigratedAny (Some d) (Some e) (Err y)) k h)

pub other_unopened : (d e : Disk) (y : NoValue) → y ≡ OtherVersion → MigratedAny (Some d) (Some e) (Err y) → (opens_as (Some 1) d.face ≡ None) × (e ≡ d)
other_unopened d e y k h = alone_stays (Some 1) d e (subst (λ y. MigratedAny (Some d) (Some e) (Err y)) k h)

pub unopened_told : (n : ℕ) (d : Disk) (mid : HostDisk) → n ≡ 1 → IsTold n d → (opens_as (Some 1) d.face ≡ None) × (told_by mid ≡ d) → IsTold (version_by mid.lie) (told_by mid)
unopened_told n d mid one t x =
    let told : IsTold 1 (told_by mid) = subst (IsTold 1) (sym x.1) (subst (λ n. IsTold n d) one t) in
    subst (λ k. IsTold k (told_by mid)) (sym (version_told 1 mid one_two told)) told

pub unopened_acted : (n : ℕ) (index : ℕ) (d : Disk) (mid : HostDisk) (o : List Output) → n ≡ 1 → o ≡ [] → IsTold n d → (opens_as (Some 1) d.face ≡ None) × (told_by mid ≡ d)
    → HasActed (migrates hazards index (host_by n None d)) (host_of None mid) o
unopened_acted n index d mid o one none t x =
    let told : IsTold 1 (told_by mid) = subst (IsTold 1) (sym x.1) (subst (λ n. IsTold n d) one t) in
    let host : host_of None mid ≡ host_on 1 None d = ap (λ k. host_by k None (told_by mid)) (version_told 1 mid one_two told) ∙ ap (host_by 1 None) x.1 in
    let quiet : HasActed (migrates hazards index (host_on 1 None d)) (host_on 1 None d) [] = stays_so index (host_on 1 None d) (ap (option_and_then if_first) (sym (opens_in 1 d.face) ∙ x.0)) in
    subst (λ (o : List Output). HasActed (migrates hazards index (host_by n None d)) (host_of None mid) o) (sym none)
    (subst (λ (m : Host Lying). HasActed (migrates hazards index (host_by n None d)) m []) (sym host) (subst (λ k. HasActed (migrates hazards index (host_on k None d)) (host_on 1 None d) []) (sym one) quiet))

-- a stopped host, and what it put out
pub stopped_host : (a : Acted Lying) (r : Option Running) (m : HostDisk) (o : List Output) → r ≡ None → HasActed a (host_of None m) o → HasActed a (host_of r m) o
stopped_host a r m o none h = subst (λ (r : Option Running). HasActed a (host_of r m) o) (sym none) h

pub ended_acted : (a : Acted Lying) (r : Option Running) (m : HostDisk) (o os : List Output) → r ≡ None → o ≡ os → HasActed a (host_of None m) os → HasActed a (host_of r m) o
ended_acted a r m o os none e h = stopped_host a r m o none (subst (λ (o : List Output). HasActed a (host_of None m) o) (sym e) h)

-- ---- the version of a file

pub version_found : (f : Face) (n : ℕ) → option_map_or (λ x. x.version) (found_of (good_copies f)) n ≡ option_map_or (λ v. v.fields.version) (opens f) n
version_found f n = by_version (λ k. k) n f

pub version_none : (f : Face) (n : ℕ) → None ≡ found_of (good_copies f) → n ≡ option_map_or (λ v. v.fields.version) (opens f) n
version_none f n e = ap (λ o. option_map_or (λ x. x.version) o n) e ∙ version_found f n

pub settles : (old new : HostDisk) (v : ℕ) → v ≡ option_map_or (λ v. v.fields.version) (opens (told_by old).face) (version_by old.lie) → lying_of new ≡ in_edition v (lying_of old) → lying_of new ≡ settled (lying_of old)
settles old new v e h = h ∙ ap (λ k. in_edition k (lying_of old)) e
