-- What a replica does on the disk of its host.
use Rattle.std.proofs.Common.{ℕ, ◌≡◌, ◌≤◌, refl, sym, ap, ◌∙◌, true, false, is_some, map, List, [], ◌∷◌, length, Option, Some, None, Result, Ok, Err, subst}
use Rattle.std.specs.List.{range_with_len}
use Rattle.std.specs.Option.{option_map, option_map_or}
use Rattle.std.specs.Prelude.{OnOk}
use Rattle.vr_base.specs.declared.kind.Kind.{Kind}
use Rattle.vr_base.specs.declared.memory.NoMemory.{NoMemory as WantsMemory}
use Rattle.vr_base.specs.declared.table.Config.{Config}
use Rattle.vr_disk.specs.DiskState.{Call, Disk, Face, Fate, Front, runs}
use Rattle.vr_msg.specs.declared.event.Event.{Event}
use Rattle.vr_msg.specs.declared.event.Event.TheVariants as event
use Rattle.vr_msg.specs.declared.output.Output.{Output}
use Rattle.vr_msg.specs.declared.output.Output.TheVariants as output
use Rattle.vr_msg.specs.declared.output.Sent.{Sent}
use Rattle.vr_msg.specs.declared.request.RequestFields.{RequestFields}
use Rattle.vr_opening.specs.Making.{Made}
use Rattle.vr_opening.specs.Recovering.{RecoveredAny, opens_as}
use Rattle.vr_opening.proofs.Opens.{opens_in}
use Rattle.vr_opening.proofs.Recovers.{alone_stays, lost_stays}
use Rattle.vr_opening.specs.declared.reopen.NoValue.{NoValue}
use Rattle.vr_opening.specs.declared.reopen.NoValue.TheVariants.{Halted, Lost, OtherVersion}
use Rattle.vr_rules.specs.Does.{Does, LeftBy}
use Rattle.vr_disk.specs.declared.fault.Halt.{Halt}
use Rattle.vr_disk.specs.declared.fault.Halt.TheVariants.{DiskFault, NoMemory}
use Rattle.vr_super.specs.Copies.{SuperValue}
use Rattle.vr_super.specs.declared.recovering.CopyVerdict.{CopyVerdict}
use Rattle.vr_lie.specs.Told.{version_by}
use Rattle.vr_world.specs.Lying.{Lying, after_calls, blank_lying, hazards, lying}
use Rattle.vr_rules.specs.Formatting.{format_calls}
use Rattle.vr_rules.specs.Opening.{blank, fresh, opened, opening}
use Rattle.vr_rules.specs.Replica.{Replica, version}
use Rattle.vr_rules.specs.Rules.{react}
use Rattle.vr_rules.specs.Sectors.{sectors_by}
use Rattle.vr_rules.specs.Steps.{Step, Word}
use Rattle.vr_world.specs.World.{Acted, Host, acts, asks, fresh_host, fresh_world, handles, in_version, starts, stays}
use Rattle.vr_host_disk.specs.Told.{IsTold, burnt, host_on, lying_in, next_held}
use Rattle.vr_host_disk.specs.Disks.{calm, told_by}
use Rattle.vr_host_disk.specs.declared.disk.HostDisk.{HostDisk}
use Rattle.vr_host_disk.specs.Laws.{Went, revived}
use Rattle.vr_host_disk.proofs.Acting.{acts_go, acts_halt}
use Rattle.vr_host_disk.proofs.Rules.{a_react}
use Rattle.vr_host_disk.proofs.Runs.{runs_went}
use Rattle.vr_host_disk.proofs.Versions.{blank_by, one_version, opens_by, version_told}
use Rattle.vr_host_disk.proofs.Words.{a_opening}
use Rattle.vr_replica.specs.Running.{Running}
use Rattle.vr_group.specs.Hosts.{HasActed, IsHost, IsHostBy, host_by, host_of}

-- ---- a word over a disk that lies, and over its sectors, which are those of a file of a version

left_by : (n : ℕ) (w : Word Face) (r q : Replica) (d : Disk) (d' : Option Disk) (o o' : List Output) (result : Result (Unit {0}) Halt) → version r ≡ n → Does w r q (Some d) d' o o' result → LeftBy n (w (sectors_by n) r d.face) q d d' o o' result
left_by n w r q d d' o o' result one h = subst (λ n. LeftBy n (w (sectors_by n) r d.face) q d d' o o' result) one (h.told d refl)

word_goes : (n : ℕ) (index : ℕ) (p : Option Replica) (w : Word Face) (v : Step) (r q : Replica) (d e : Disk) (o : List Output) → IsTold n d → version r ≡ n → v ≡ w (sectors_by n) r d.face → Does w r q (Some d) (Some e) [] o (Ok tt)
    → HasActed (acts hazards index (host_on n p d) v) (host_on n (Some q) e) o × IsTold n e
word_goes n index p w v r q d e o t one same h =
    let s = w (sectors_by n) r d.face in
    let l = left_by n w r q d (Some e) [] o (Ok tt) one h in
    let x = acts_go n index p d e s t l.2 in
    let all = ap (acts hazards index (host_on n p d)) same ∙ x.acted in
    (record { member = ap (λ (q : Replica). host_on n (Some q) e) l.0 ∙ sym (ap (λ (a : Acted Lying). a.member) all); outputs = l.1 ∙ sym (ap (λ (a : Acted Lying). a.outputs) all) }, x.told)

word_halts : (n : ℕ) (index : ℕ) (p : Option Replica) (w : Word Face) (v : Step) (r q : Replica) (d e : Disk) (o : List Output) → IsTold n d → version r ≡ n → v ≡ w (sectors_by n) r d.face → Does w r q (Some d) (Some e) [] o (Err DiskFault)
    → HasActed (acts hazards index (host_on n p d) v) (host_on n None (revived e)) (output.Halted index ∷ []) × IsTold n (revived e)
word_halts n index p w v r q d e o t one same h =
    let x = acts_halt n index p d e (w (sectors_by n) r d.face) t (left_by n w r q d (Some e) [] o (Err DiskFault) one h) in
    let all = ap (acts hazards index (host_on n p d)) same ∙ x.acted in
    (record { member = sym (ap (λ (a : Acted Lying). a.member) all); outputs = sym (ap (λ (a : Acted Lying). a.outputs) all) }, x.told)

-- ---- a step

pub step_goes : (n : ℕ) (index : ℕ) (event : Event) (r q : Replica) (d e : Disk) (o : List Output) → IsTold n d → version r ≡ n → Does (react event) r q (Some d) (Some e) [] o (Ok tt)
    → HasActed (handles hazards event index (host_on n (Some r) d)) (host_on n (Some q) e) o × IsTold n e
step_goes n index event r q d e o t one h = word_goes n index (Some r) (react event) (react event lying r (lying_in n d)) r q d e o t one ((a_react event).each r (lying_in n d)) h

pub step_halts : (n : ℕ) (index : ℕ) (event : Event) (r q : Replica) (d e : Disk) (o : List Output) → IsTold n d → version r ≡ n → Does (react event) r q (Some d) (Some e) [] o (Err DiskFault)
    → HasActed (handles hazards event index (host_on n (Some r) d)) (host_on n None (revived e)) (output.Halted index ∷ []) × IsTold n (revived e)
step_halts n index event r q d e o t one h = word_halts n index (Some r) (react event) (react event lying r (lying_in n d)) r q d e o t one ((a_react event).each r (lying_in n d)) h

-- ---- a start

pub opens_so : (n : ℕ) (d : Disk) (v : SuperValue) → opens_as (Some n) d.face ≡ Some v → (sectors_by n).opens d.face ≡ Some v
opens_so n d v e = sym (opens_in n d.face) ∙ e

starts_by : (n : ℕ) (index : ℕ) (d : Disk) (v : SuperValue) → (sectors_by n).opens d.face ≡ Some v → starts hazards index (host_on n None d) ≡ acts hazards index (host_on n None d) (opening v lying (blank v) (lying_in n d))
unfolding opened
starts_by n index d v e = ap (λ o. option_map_or (acts hazards index (host_on n None d)) (option_map (λ (v : SuperValue). opening v lying (blank v) (lying_in n d)) o) (stays (host_on n None d))) e

pub start_none : (n : ℕ) (index : ℕ) (d : Disk) → (sectors_by n).opens d.face ≡ None → HasActed (starts hazards index (host_on n None d)) (host_on n None d) []
unfolding opened
start_none n index d e = rw e (record { member = refl; outputs = refl })

pub start_goes : (n : ℕ) (index : ℕ) (q : Replica) (d e : Disk) (o : List Output) → IsTold n d → RecoveredAny n (Some d) (Some e) [] o (Ok q)
    → HasActed (starts hazards index (host_on n None d)) (host_on n (Some q) e) o × IsTold n e
start_goes n index q d e o t h =
    let v = h.value in
    let x = word_goes n index None (opening v) (opening v lying (blank v) (lying_in n d)) (blank v) q d e o t (blank_by n v (opens_by n d.face v (opens_so n d v h.opens))) ((a_opening v).each (blank v) (lying_in n d)) h.step in
    (subst (λ (a : Acted Lying). HasActed a (host_on n (Some q) e) o) (sym (starts_by n index d v (opens_so n d v h.opens))) x.0, x.1)

pub start_halts : (n : ℕ) (index : ℕ) (d e : Disk) (o : List Output) → IsTold n d → RecoveredAny n (Some d) (Some e) [] o (Err (Halted DiskFault))
    → HasActed (starts hazards index (host_on n None d)) (host_on n None (revived e)) (output.Halted index ∷ []) × IsTold n (revived e)
start_halts n index d e o t h =
    let v = h.value in
    let x = word_halts n index None (opening v) (opening v lying (blank v) (lying_in n d)) (blank v) (blank v) d e o t (blank_by n v (opens_by n d.face v (opens_so n d v h.opens))) ((a_opening v).each (blank v) (lying_in n d)) h.step in
    (subst (λ (a : Acted Lying). HasActed a (host_on n None (revived e)) (output.Halted index ∷ [])) (sym (starts_by n index d v (opens_so n d v h.opens))) x.0, x.1)

-- the disk doesn't open
start_unopened : (n : ℕ) (index : ℕ) (d e : Disk) → opens_as (Some n) d.face ≡ None → e ≡ d → HasActed (starts hazards index (host_on n None d)) (host_on n None e) []
start_unopened n index d e none same =
    subst (λ (e : Disk). HasActed (starts hazards index (host_on n None d)) (host_on n None e) []) (sym same) (start_none n index d (sym (opens_in n d.face) ∙ none))

-- ---- a new member

fresh_version : (kind : Kind) (c : Config) → version (fresh kind c.cluster c.n c.replica) ≡ kind.version
unfolding blank
fresh_version kind c = refl

pub fresh_made : (kind : Kind) (config : Config) (r : Replica) (d e : Disk) → IsTold kind.version d → lying_in kind.version d ≡ blank_lying kind.version → d.fate ≡ calm → Made kind config (Some d) (Some e) (Ok r) → config.cluster ≡ 0
    → (host_on kind.version (Some r) e ≡ fresh_host hazards kind config.n config.replica) × IsTold kind.version e
fresh_made kind config r d e t zeros fate h none =
    let n : ℕ = kind.version in
    let cs = format_calls kind config.cluster config.n config.replica in
    let ran = h.is.2 in
    let same : e ≡ (runs cs d).disk = let x = ran.0 in cc in
    let w : Went n cs d e = subst (λ (e : Disk). Went n cs d e) (sym same) (runs_went n cs d t (sym ran.1)) in
    let disk : lying_in n e ≡ after_calls (blank_lying n) (format_calls kind 0 config.n config.replica) = w.lying ∙ ap (λ x. after_calls x cs) zeros ∙ ap (λ k. after_calls (blank_lying n) (format_calls kind k config.n config.replica)) none in
    let replica : r ≡ fresh kind 0 config.n config.replica = h.is.1 ∙ ap (λ k. fresh kind k config.n config.replica) none in
    let fuse : e.fate.fuse ≡ None = w.fuse ∙ ap (λ (t : Fate). burnt (length cs) t.fuse) fate in (
      ap (λ r. let m : Host Lying = record { replica = Some r; disk = lying_in n e; fuse = e.fate.fuse } in m) replica
          ∙ ap (λ x. let m : Host Lying = record { replica = Some (fresh kind 0 config.n config.replica); disk = x; fuse = e.fate.fuse } in m) disk
          ∙ ap (λ u. let m : Host Lying = record { replica = Some (fresh kind 0 config.n config.replica); disk = after_calls (blank_lying n) (format_calls kind 0 config.n config.replica); fuse = u } in m) fuse,
      w.told,
    )

-- ---- hosts

-- some of the calls, all of which went well
front_told : (n : ℕ) (cs : List Call) (d e : Disk) → IsTold n d → Front cs (Some d) (Some e) → IsTold n e
front_told n cs d e t h =
    let same : e ≡ (runs h.made d).disk = let x = h.ran.0 in cc in
    let w : Went n h.made d e = subst (λ (e : Disk). Went n h.made d e) (sym same) (runs_went n h.made d t (sym h.ran.1)) in
    w.told

pub host_went : (n : ℕ) (index : ℕ) (event : Event) (r q : Running) (d e : Disk) (o : List Output) → IsHostBy n (Some r) d → Does (react event) r.memory q.memory (Some d) (Some e) [] o (Ok tt) → HasActed (handles hazards event index (host_by n (Some r) d)) (host_by n (Some q) e) o
host_went n index event r q d e o t h = (step_goes n index event r.memory q.memory d e o t.told t.version h).0

-- a request is handled in the version of the file, which is the replica's
pub asked_on : (n : ℕ) (index : ℕ) (q : RequestFields) (r : Option Running) (d : Disk) → IsHostBy n r d → handles hazards (event.Request (in_version n q)) index (host_by n r d) ≡ asks hazards q index (host_by n r d)
asked_on n index q None d h = refl
asked_on n index q (Some r) d h = ap (λ k. acts hazards index (host_by n (Some r) d) (react (event.Request (in_version k q)) hazards.setting r.memory (lying_in n d))) (sym h.version)

pub host_runs : (n : ℕ) (event : Event) (r q : Running) (d e : Disk) (o : List Output) → IsHostBy n (Some r) d → Does (react event) r.memory q.memory (Some d) (Some e) [] o (Ok tt) → q.running ≡ true → IsHostBy n (Some q) e
host_runs n event r q d e o t h k = record { running = k; version = h.same refl ∙ t.version; told = (step_goes n 0 event r.memory q.memory d e o t.told t.version h).1 }

pub host_halted : (n : ℕ) (index : ℕ) (event : Event) (r q : Running) (d e : Disk) (o : List Output) (x : Halt) → x ≡ DiskFault → IsHostBy n (Some r) d → Does (react event) r.memory q.memory (Some d) (Some e) [] o (Err x)
    → HasActed (handles hazards event index (host_by n (Some r) d)) (host_by n None (revived e)) (output.Halted index ∷ []) × IsHostBy n None (revived e)
host_halted n index event r q d e o x k t h =
    let p = step_halts n index event r.memory q.memory d e o t.told t.version (subst (λ x. Does (react event) r.memory q.memory (Some d) (Some e) [] o (Err x)) k h) in
    (p.0, record { running = tt; version = tt; told = p.1 })

pub host_wanting : (n : ℕ) (event : Event) (r q : Running) (d e : Disk) (o : List Output) (x : Halt) → x ≡ NoMemory → IsHostBy n (Some r) d → Does (react event) r.memory q.memory (Some d) (Some e) [] o (Err x) → IsHostBy n None e
host_wanting n event r q d e o x k t h =
    let w : Does (react event) r.memory q.memory (Some d) (Some e) [] o (Err NoMemory) = subst (λ x. Does (react event) r.memory q.memory (Some d) (Some e) [] o (Err x)) k h in
    record { running = tt; version = tt; told = front_told n _ d e t.told (w.told d refl) }

pub host_recovered : (n : ℕ) (index : ℕ) (q : Running) (d e : Disk) (o : List Output) → IsTold n d → RecoveredAny n (Some d) (Some e) [] o (Ok q.memory) → q.running ≡ true
    → HasActed (starts hazards index (host_by n None d)) (host_by n (Some q) e) o × IsHostBy n (Some q) e
host_recovered n index q d e o t h k =
    let p = start_goes n index q.memory d e o t h in
    let version = h.step.same refl ∙ blank_by n h.value (opens_by n d.face h.value (opens_so n d h.value h.opens)) in
    (p.0, record { running = k; version = version; told = p.1 })

pub recovery_halted : (n : ℕ) (index : ℕ) (d e : Disk) (o : List Output) (y : NoValue) (x : Halt) → y ≡ Halted x → x ≡ DiskFault → IsTold n d → RecoveredAny n (Some d) (Some e) [] o (Err y)
    → HasActed (starts hazards index (host_by n None d)) (host_by n None (revived e)) (output.Halted index ∷ []) × IsHostBy n None (revived e)
recovery_halted n index d e o y x j k t h =
    let g : RecoveredAny n (Some d) (Some e) [] o (Err (Halted DiskFault)) = subst (λ y. RecoveredAny n (Some d) (Some e) [] o (Err y)) (j ∙ ap Halted k) h in
    let p = start_halts n index d e o t g in (p.0, record { running = tt; version = tt; told = p.1 })

pub recovery_wanting : (n : ℕ) (d e : Disk) (o : List Output) (y : NoValue) (x : Halt) → y ≡ Halted x → x ≡ NoMemory → IsTold n d → RecoveredAny n (Some d) (Some e) [] o (Err y) → IsHostBy n None e
recovery_wanting n d e o y x j k t h =
    let g : RecoveredAny n (Some d) (Some e) [] o (Err (Halted NoMemory)) = subst (λ y. RecoveredAny n (Some d) (Some e) [] o (Err y)) (j ∙ ap Halted k) h in
    record { running = tt; version = tt; told = front_told n _ d e t (g.step.told d refl) }

pub start_running : (n : ℕ) (index : ℕ) (r : Option Running) (d : Disk) → is_some r ≡ true → HasActed (starts hazards index (host_by n r d)) (host_by n r d) []
start_running n index None d e = absurd cc
start_running n index (Some r) d e = record { member = refl; outputs = refl }

pub none_of : (r : Option Running) → is_some r ≡ false → r ≡ None
none_of None e = refl
none_of (Some r) e = absurd cc

-- ---- a new group

pub begins : (kind : Kind) (n : ℕ) (hs : List (Host Lying)) (sent : List Sent) → hs ≡ map (fresh_host hazards kind n) (range_with_len 0 n) → sent ≡ []
    → record { n = n; members = hs; sent = sent } ≡ fresh_world hazards kind n
unfolding fresh_world
begins kind n hs sent e f = rw (e, f) refl

-- ---- the disk of a member tells its version

pub version_same : (old new : HostDisk) → Some (told_by new) ≡ Some (told_by old) → version_by new.lie ≡ version_by old.lie
version_same old new e = one_version (version_by new.lie) (version_by old.lie) new.version old.version (ap (λ (o : Option Disk). option_map_or (λ (d : Disk). d.beside.next) o (next_held 1)) e)

pub settled : (n : ℕ) (r : Option Running) (m : HostDisk) → (1 ≤ n) × (n ≤ 2) → IsHostBy n r (told_by m) → IsHost r m
settled n r m l h = subst (λ v. IsHostBy v r (told_by m)) (sym (version_told n m l h.told)) h

pub settled_acted : (n : ℕ) (r : Option Running) (m : HostDisk) (a : Acted Lying) (o : List Output) → (1 ≤ n) × (n ≤ 2) → IsTold n (told_by m) → HasActed a (host_by n r (told_by m)) o → HasActed a (host_of r m) o
settled_acted n r m a o l t h = subst (λ v. HasActed a (host_by v r (told_by m)) o) (sym (version_told n m l t)) h

-- where it is halted, or memory was wanting for that
pub halted_acted : (n : ℕ) (r : Option Running) (m : HostDisk) (a : Acted Lying) (o : List Output) (result : Result (Unit {0}) WantsMemory) → (1 ≤ n) × (n ≤ 2) → IsTold n (told_by m) → OnOk result (HasActed a (host_by n r (told_by m)) o)
    → OnOk result (HasActed a (host_of r m) o)
halted_acted n r m a o (Err x) l t h = tt
halted_acted n r m a o (Ok x) l t h = settled_acted n r m a o l t h

-- a new member, as it is on its disk
pub fresh_host_made : (kind : Kind) (config : Config) (r : Running) (d : Disk) (m : HostDisk) → (1 ≤ kind.version) × (kind.version ≤ 2) → IsTold kind.version d → lying_in kind.version d ≡ blank_lying kind.version → d.fate ≡ calm
    → Made kind config (Some d) (Some (told_by m)) (Ok r.memory) → config.cluster ≡ 0 → r.running ≡ true → (host_of (Some r) m ≡ fresh_host hazards kind config.n config.replica) × IsHost (Some r) m
fresh_host_made kind config r d m l t zeros fate h none k =
    let x = fresh_made kind config r.memory d (told_by m) t zeros fate h none in
    let version : version r.memory ≡ kind.version = ap version (h.is.1) ∙ fresh_version kind config in
    let same = version_told kind.version m l x.1 in
    (ap (λ v. host_by v (Some r) (told_by m)) same ∙ x.0, settled kind.version (Some r) m l (record { running = k; version = version; told = x.1 }))

-- ---- the goals of the code

pub lost_unopened : (n : ℕ) (d e : Disk) (o o' : List Output) (y : NoValue) (verdicts : List CopyVerdict) → y ≡ Lost verdicts → RecoveredAny n (Some d) (Some e) o o' (Err y) → (opens_as (Some n) d.face ≡ None) × (e ≡ d)
lost_unopened n d e o o' y verdicts k h = lost_stays (Some n) verdicts d e (subst (λ y. RecoveredAny n (Some d) (Some e) o o' (Err y)) k h)

pub other_unopened : (n : ℕ) (d e : Disk) (o o' : List Output) (y : NoValue) → y ≡ OtherVersion → RecoveredAny n (Some d) (Some e) o o' (Err y) → (opens_as (Some n) d.face ≡ None) × (e ≡ d)
other_unopened n d e o o' y k h = alone_stays (Some n) d e (subst (λ y. RecoveredAny n (Some d) (Some e) o o' (Err y)) k h)

pub unopened_acted : (n : ℕ) (index : ℕ) (r : Option Running) (d e : Disk) (o : List Output) → r ≡ None → o ≡ [] → (opens_as (Some n) d.face ≡ None) × (e ≡ d) → HasActed (starts hazards index (host_by n None d)) (host_by n r e) o
unopened_acted n index r d e o none z h =
    subst (λ (o : List Output). HasActed (starts hazards index (host_by n None d)) (host_by n r e) o) (sym z)
    (subst (λ (r : Option Running). HasActed (starts hazards index (host_by n None d)) (host_by n r e) []) (sym none) (start_unopened n index d e h.0 h.1))

pub unopened_told : (n : ℕ) (r : Option Running) (d e : Disk) → r ≡ None → IsTold n d → (opens_as (Some n) d.face ≡ None) × (e ≡ d) → IsHostBy n r e
unopened_told n r d e none t h =
    subst (λ (r : Option Running). IsHostBy n r e) (sym none) (record { running = tt; version = tt; told = subst (IsTold n) (sym h.1) t })

pub gone_told : (n : ℕ) (r : Option Running) (d e : Disk) → r ≡ None → d ≡ revived e → IsHostBy n None (revived e) → IsHostBy n r d
gone_told n r d e k f h = subst (λ (r : Option Running). IsHostBy n r d) (sym k) (subst (λ (d : Disk). IsHostBy n None d) (sym f) h)

pub gone_acted : (n : ℕ) (a : Acted Lying) (r : Option Running) (d e : Disk) (o os : List Output) (result : Result (Unit {0}) WantsMemory) → r ≡ None → d ≡ revived e → OnOk result (o ≡ os) → HasActed a (host_by n None (revived e)) os → OnOk result (HasActed a (host_by n r d) o)
gone_acted n a r d e o os (Err x) k f g h = tt
gone_acted n a r d e o os (Ok x) k f g h =
    subst (λ (o : List Output). HasActed a (host_by n r d) o) (sym g) (subst (λ (r : Option Running). HasActed a (host_by n r d) os) (sym k) (subst (λ (d : Disk). HasActed a (host_by n None d) os) (sym f) h))

pub some_runs : (n : ℕ) (r : Option Running) (q : Running) (d : Disk) → r ≡ Some q → IsHostBy n r d → IsHostBy n (Some q) d
some_runs n r q d e h = subst (λ (r : Option Running). IsHostBy n r d) e h

pub none_runs : (n : ℕ) (r : Option Running) (d : Disk) → r ≡ None → IsTold n d → IsHostBy n r d
none_runs n r d e t = subst (λ (r : Option Running). IsHostBy n r d) (sym e) (record { running = tt; version = tt; told = t })

pub acted_on : (n : ℕ) (f : Host Lying → Acted Lying) (r : Option Running) (q : Running) (d : Disk) (h : Host Lying) (o : List Output) → r ≡ Some q → HasActed (f (host_by n (Some q) d)) h o → HasActed (f (host_by n r d)) h o
acted_on n f r q d h o e x = subst (λ (r : Option Running). HasActed (f (host_by n r d)) h o) (sym e) x
