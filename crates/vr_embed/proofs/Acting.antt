-- What a replica does on its disk is what the member does that it is.
use Rattle.std.proofs.Common.{ℕ, ◌≡◌, refl, sym, ap, ◌∙◌, true, false, is_some, List, [], ◌∷◌, ◌++◌, Option, Some, None, Result, Ok, Err, subst}
use Rattle.std.specs.Prelude.{OnOk, replicate}
use Rattle.std.proofs.lemmas.List.{length-replicate}
use Rattle.vr_base.specs.declared.memory.NoMemory.{NoMemory as WantsMemory}
use Rattle.vr_base.specs.declared.table.Config.{Config}
use Rattle.vr_disk.specs.DiskState.{Disk, Face, Fate, Runs}
use Rattle.vr_disk.specs.Regions.{sectors}
use Rattle.vr_mem.specs.Seen.{copies, zero_cell}
use Rattle.vr_msg.specs.declared.event.Event.{Event}
use Rattle.vr_msg.specs.declared.output.Output.{Output}
use Rattle.vr_msg.specs.declared.output.Output.TheVariants as output
use Rattle.vr_host_disk.specs.Disks.{calm}
use Rattle.vr_host_disk.specs.Laws.{revived}
use Rattle.vr_world.specs.Lying.{Lying, hazards}
use Rattle.vr_host_disk.specs.Told.{IsTold}
use Rattle.vr_world.specs.World.{Acted, Host, fresh_host, fused, handles, starts}
use Rattle.vr_host_disk.proofs.Telling.{zeros_lie}
use Rattle.vr_rules.specs.Does.{Does}
use Rattle.vr_rules.specs.Formatting.{format_calls}
use Rattle.vr_disk.specs.declared.fault.Halt.{Halt}
use Rattle.vr_disk.specs.declared.fault.Halt.TheVariants.{DiskFault}
use Rattle.vr_opening.specs.Making.{Made}
use Rattle.vr_rules.specs.Opening.{blank, fresh, opening}
use Rattle.vr_opening.specs.Recovering.{RecoveredAny, opens_as}
use Rattle.vr_opening.specs.declared.reopen.NoValue.{NoValue}
use Rattle.vr_opening.specs.declared.reopen.NoValue.TheVariants.{Halted}
use Rattle.vr_rules.specs.Replica.{Replica, version}
use Rattle.vr_rules.specs.Rules.{react}
use Rattle.vr_replica.specs.Running.{Running}
use Rattle.vr_rules.specs.Sectors.{script_calls, sectors_by}
use Rattle.vr_rules.specs.Steps.{Word, outputs}
use Rattle.vr_opening.proofs.Opens.{opens_in}
use Rattle.vr_group.specs.Hosts.{HasActed, IsHostBy, host_by}
use Rattle.vr_group.proofs.Steps.{fresh_made, host_halted, host_recovered, host_runs, host_went, recovery_halted, start_none, start_running}
use Rattle.vr_embed.specs.Members.{Acts, Shows, ShowsActed, kind, with_held}
use Rattle.vr_embed.proofs.Beside.{AreAlike, runs_alike}

-- ---- a word, on the disk beside what its slots hold

record Lifted (w : Word Face) (r q : Replica) (d e : Disk) (held : List (Option (List ℕ))) (o o' : List Output) (result : Result (Unit {0}) Halt) : Type 0 where
  left : Disk
  does : Does w r q (Some (with_held d held)) (Some left) o o' result
  alike : AreAlike e left

lifted_ok : (w : Word Face) (r q : Replica) (d e : Disk) (held : List (Option (List ℕ))) (o o' : List Output) → Does w r q (Some d) (Some e) o o' (Ok tt) → Lifted w r q d e held o o' (Ok tt)
lifted_ok w r q d e held o o' h =
    let l = h.told d refl in
    let n = version r in
    let x = runs_alike (script_calls n (w (sectors_by n) r d.face).script d.face) d e (with_held d held) true (record { face = refl; fate = refl }) l.2 in record {
      left = x.left;
      does = record { untold = λ u. absurd cc; told = λ y same. let is : with_held d held ≡ y = cc in subst (λ (y : Disk). (q ≡ (w (sectors_by n) r y.face).replica) × (o' ≡ o ++ outputs (w (sectors_by n) r y.face).script) × Runs (script_calls n (w (sectors_by n) r y.face).script y.face) (Some y) (Some x.left) true) is (l.0, l.1, x.ran); same = h.same };
      alike = x.alike;
    }

lifted_cut : (w : Word Face) (r q : Replica) (d e : Disk) (held : List (Option (List ℕ))) (o o' : List Output) → Does w r q (Some d) (Some e) o o' (Err DiskFault) → Lifted w r q d e held o o' (Err DiskFault)
lifted_cut w r q d e held o o' h =
    let l = h.told d refl in
    let n = version r in
    let x = runs_alike (script_calls n (w (sectors_by n) r d.face).script d.face) d e (with_held d held) false (record { face = refl; fate = refl }) l in record {
      left = x.left;
      does = record { untold = λ u. absurd cc; told = λ y same. let is : with_held d held ≡ y = cc in subst (λ (y : Disk). Runs (script_calls n (w (sectors_by n) r y.face).script y.face) (Some y) (Some x.left) false) is x.ran; same = λ never. absurd cc };
      alike = x.alike;
    }

-- ---- a disk that is alike shows the same

shown_by : (r : Option Running) (e x : Disk) → AreAlike e x → IsHostBy 2 r x → Shows r e (host_by 2 r x)
shown_by r e x h is =
    let face : x.face ≡ e.face = sym h.face in
    let fate : x.fate ≡ e.fate = sym h.fate in record {
      held = x.beside.rows;
      is = record {
        running = is.running;
        version = is.version;
        told = record { alive = subst (λ (t : Fate). t.dead ≡ false) fate is.told.alive; sure = subst (λ (t : Fate). t.failing ≡ []) fate is.told.sure; count = is.told.count; next = refl };
      };
      host = ap (λ (f : Face). host_by 2 r (record { face = f; fate = x.fate; beside = x.beside })) face
          ∙ ap (λ (t : Fate). host_by 2 r (record { face = e.face; fate = t; beside = x.beside })) fate;
    }

revived_alike : (e x : Disk) → AreAlike e x → AreAlike (revived e) (revived x)
revived_alike e x h = record { face = h.face; fate = ap (λ (t : Fate). record t { dead = false }) h.fate }

acted_shown : (a : Acted Lying) (r : Option Running) (e x : Disk) (o : List Output) → AreAlike e x → IsHostBy 2 r x → HasActed a (host_by 2 r x) o → ShowsActed r e o a
acted_shown a r e x o h is acted = record { member = subst (Shows r e) acted.member (shown_by r e x h is); outputs = acted.outputs }

-- ---- a step

pub step_acts : (index : ℕ) (event : Event) (r q : Running) (d e : Disk) (o : List Output) → Does (react event) r.memory q.memory (Some d) (Some e) [] o (Ok tt) → q.running ≡ true → Acts (handles hazards event index) (Some r) d (Some q) e o
step_acts index event r q d e o h runs m s =
    let l = lifted_ok (react event) r.memory q.memory d e s.held [] o h in
    let x = with_held d s.held in
    let is = host_runs 2 event r q x l.left o s.is l.does runs in
    subst (λ (m : Host Lying). ShowsActed (Some q) e o (handles hazards event index m)) (sym s.host)
    (acted_shown (handles hazards event index (host_by 2 (Some r) x)) (Some q) e l.left o l.alike is (host_went 2 index event r q x l.left o s.is l.does))

pub step_halts : (index : ℕ) (event : Event) (r q : Running) (d e : Disk) (o : List Output) (k : Halt) → k ≡ DiskFault → Does (react event) r.memory q.memory (Some d) (Some e) [] o (Err k) → Acts (handles hazards event index) (Some r) d None (revived e) (output.Halted index ∷ [])
step_halts index event r q d e o k is h m s =
    let l = lifted_cut (react event) r.memory q.memory d e s.held [] o (subst (λ (k : Halt). Does (react event) r.memory q.memory (Some d) (Some e) [] o (Err k)) is h) in
    let x = with_held d s.held in
    let p = host_halted 2 index event r q x l.left o DiskFault refl s.is l.does in
    subst (λ (m : Host Lying). ShowsActed None (revived e) (output.Halted index ∷ []) (handles hazards event index m)) (sym s.host)
    (acted_shown (handles hazards event index (host_by 2 (Some r) x)) None (revived e) (revived l.left) (output.Halted index ∷ []) (revived_alike e l.left l.alike) p.1 p.0)

-- a stopped one does nothing
pub stopped_acts : (index : ℕ) (event : Event) (d : Disk) → Acts (handles hazards event index) None d None d []
stopped_acts index event d m s =
    subst (λ (m : Host Lying). ShowsActed None d [] (handles hazards event index m)) (sym s.host) (record { member = record { held = s.held; is = s.is; host = refl }; outputs = refl })

-- one that doesn't run is no member
pub never_idle : (act : Host Lying → Acted Lying) (r r' : Option Running) (q : Running) (d d' : Disk) (o : List Output) → r ≡ Some q → q.running ≡ false → Acts act r d r' d' o
never_idle act r r' q d d' o e f m s =
    let runs : q.running ≡ true = (subst (λ (r : Option Running). IsHostBy 2 r (with_held d s.held)) e s.is).running in
    absurd (let never : true ≡ false = sym runs ∙ f in cc)

-- ---- a replica that is found again

record RecoveredOn (d e : Disk) (held : List (Option (List ℕ))) (o : List Output) (result : Result Replica NoValue) : Type 0 where
  left : Disk
  recovered : RecoveredAny 2 (Some (with_held d held)) (Some left) [] o result
  alike : AreAlike e left

recovered_ok : (q : Replica) (d e : Disk) (held : List (Option (List ℕ))) (o : List Output) → RecoveredAny 2 (Some d) (Some e) [] o (Ok q) → RecoveredOn d e held o (Ok q)
recovered_ok q d e held o h =
    let l = lifted_ok (opening h.value) (blank h.value) q d e held [] o h.step in
    record { left = l.left; recovered = record { value = h.value; opens = h.opens; step = l.does }; alike = l.alike }

recovered_cut : (d e : Disk) (held : List (Option (List ℕ))) (o : List Output) → RecoveredAny 2 (Some d) (Some e) [] o (Err (Halted DiskFault)) → RecoveredOn d e held o (Err (Halted DiskFault))
recovered_cut d e held o h =
    let l = lifted_cut (opening h.value) (blank h.value) (blank h.value) d e held [] o h.step in
    record { left = l.left; recovered = record { value = h.value; opens = h.opens; step = l.does }; alike = l.alike }

pub recover_acts : (index : ℕ) (q : Running) (d e : Disk) (o : List Output) → RecoveredAny 2 (Some d) (Some e) [] o (Ok q.memory) → q.running ≡ true → Acts (starts hazards index) None d (Some q) e o
recover_acts index q d e o h runs m s =
    let l = recovered_ok q.memory d e s.held o h in
    let x = with_held d s.held in
    let p = host_recovered 2 index q x l.left o s.is.told l.recovered runs in
    subst (λ (m : Host Lying). ShowsActed (Some q) e o (starts hazards index m)) (sym s.host)
    (acted_shown (starts hazards index (host_by 2 None x)) (Some q) e l.left o l.alike p.1 p.0)

pub recover_halts : (index : ℕ) (d e : Disk) (o : List Output) (y : NoValue) (x : Halt) → y ≡ Halted x → x ≡ DiskFault → RecoveredAny 2 (Some d) (Some e) [] o (Err y) → Acts (starts hazards index) None d None (revived e) (output.Halted index ∷ [])
recover_halts index d e o y x j k h m s =
    let g : RecoveredAny 2 (Some d) (Some e) [] o (Err (Halted DiskFault)) = subst (λ (y : NoValue). RecoveredAny 2 (Some d) (Some e) [] o (Err y)) (j ∙ ap Halted k) h in
    let l = recovered_cut d e s.held o g in
    let on = with_held d s.held in
    let p = recovery_halted 2 index on l.left o (Halted DiskFault) DiskFault refl refl s.is.told l.recovered in
    subst (λ (m : Host Lying). ShowsActed None (revived e) (output.Halted index ∷ []) (starts hazards index m)) (sym s.host)
    (acted_shown (starts hazards index (host_by 2 None on)) None (revived e) (revived l.left) (output.Halted index ∷ []) (revived_alike e l.left l.alike) p.1 p.0)

-- its disk doesn't open
pub recover_loses : (index : ℕ) (d e : Disk) (o : List Output) → o ≡ [] → (opens_as (Some 2) d.face ≡ None) × (e ≡ d) → Acts (starts hazards index) None d None e o
recover_loses index d e o none h m s =
    let on = with_held d s.held in
    let quiet = start_none 2 index on (sym (opens_in 2 d.face) ∙ h.0) in
    subst (λ (m : Host Lying). ShowsActed None e o (starts hazards index m)) (sym s.host)
    (subst (λ (o : List Output). ShowsActed None e o (starts hazards index (host_by 2 None on))) (sym none)
    (subst (λ (e : Disk). ShowsActed None e [] (starts hazards index (host_by 2 None on))) (sym h.1)
    (acted_shown (starts hazards index (host_by 2 None on)) None d on [] (record { face = refl; fate = refl }) s.is quiet)))

-- one that runs isn't found again
pub running_stays : (index : ℕ) (r : Option Running) (d : Disk) → is_some r ≡ true → Acts (starts hazards index) r d r d []
running_stays index r d e m s =
    let on = with_held d s.held in
    subst (λ (m : Host Lying). ShowsActed r d [] (starts hazards index m)) (sym s.host)
    (acted_shown (starts hazards index (host_by 2 r on)) r d on [] (record { face = refl; fate = refl }) s.is (start_running 2 index r on e))

-- ---- a fuse

pub fuse_acts : (calls : ℕ) (r : Option Running) (d e : Disk) → e ≡ record d { fate = record d.fate { fuse = Some (record { calls = calls; code = 0 }) } } → Acts (fused calls 0 0) r d r e []
fuse_acts calls r d e same m s =
    let lit = record d { fate = record d.fate { fuse = Some (record { calls = calls; code = 0 }) } } in
    let t = s.is.told in
    subst (λ (e : Disk). ShowsActed r e [] (fused calls 0 0 m)) (sym same)
    (subst (λ (m : Host Lying). ShowsActed r lit [] (fused calls 0 0 m)) (sym s.host)
    (record { member = record { held = s.held; is = record { running = s.is.running; version = s.is.version; told = record { alive = t.alive; sure = t.sure; count = t.count; next = t.next } }; host = refl }; outputs = refl }))

-- ---- a new member

record MadeOn (c : Config) (r : Replica) (d e : Disk) (held : List (Option (List ℕ))) : Type 0 where
  left : Disk
  made : Made kind c (Some (with_held d held)) (Some left) (Ok r)
  alike : AreAlike e left

made_on : (c : Config) (r : Replica) (d e : Disk) (held : List (Option (List ℕ))) → Made kind c (Some d) (Some e) (Ok r) → MadeOn c r d e held
made_on c r d e held h =
    let x = runs_alike (format_calls kind c.cluster c.n c.replica) d e (with_held d held) true (record { face = refl; fate = refl }) h.is.2 in
    record { left = x.left; made = record { is = (h.is.0, h.is.1, x.ran) }; alike = x.alike }

fresh_version : (c : Config) → version (fresh kind c.cluster c.n c.replica) ≡ 2
unfolding blank
fresh_version c = refl

abbrev zeros : Face
zeros = record { cells = copies sectors zero_cell; waiting = [] }

pub fresh_shown : (c : Config) (r : Running) (d e : Disk) → d.face ≡ zeros → d.fate ≡ calm → Made kind c (Some d) (Some e) (Ok r.memory) → c.cluster ≡ 0 → r.running ≡ true → Shows (Some r) e (fresh_host hazards kind c.n c.replica)
fresh_shown c r d e blank fate made none runs =
    let held : List (Option (List ℕ)) = replicate 64 None in
    let on = with_held d held in
    let l = made_on c r.memory d e held made in
    let told : IsTold 2 on = record { alive = ap (λ (t : Fate). t.dead) fate; sure = ap (λ (t : Fate). t.failing) fate; count = length-replicate {A = Option (List ℕ)} 64 None; next = refl } in
    let z = fresh_made kind c r.memory on l.left told (zeros_lie 2 2 on held refl blank refl) fate l.made none in
    let of : version r.memory ≡ 2 = ap version l.made.is.1 ∙ fresh_version c in
    subst (Shows (Some r) e) z.0 (shown_by (Some r) e l.left l.alike (record { running = runs; version = of; told = z.1 }))

-- ---- the goals of the code

pub acts_from : (act : Host Lying → Acted Lying) (r s r' : Option Running) (d d' : Disk) (o : List Output) → r ≡ s → Acts act s d r' d' o → Acts act r d r' d' o
acts_from act r s r' d d' o e h = subst (λ (r : Option Running). Acts act r d r' d' o) (sym e) h

pub acts_to : (act : Host Lying → Acted Lying) (r r' s : Option Running) (d d' : Disk) (o : List Output) → r' ≡ s → Acts act r d s d' o → Acts act r d r' d' o
acts_to act r r' s d d' o e h = subst (λ (r' : Option Running). Acts act r d r' d' o) (sym e) h

pub acts_gone : (act : Host Lying → Acted Lying) (r r' : Option Running) (d d' e : Disk) (o os : List Output) (result : Result (Unit {0}) WantsMemory) → r' ≡ None → d' ≡ revived e → OnOk result (o ≡ os) → Acts act r d None (revived e) os → OnOk result (Acts act r d r' d' o)
acts_gone act r r' d d' e o os (Err x) k f g h = tt
acts_gone act r r' d d' e o os (Ok x) k f g h =
    subst (λ (o : List Output). Acts act r d r' d' o) (sym g) (subst (λ (r' : Option Running). Acts act r d r' d' os) (sym k) (subst (λ (d' : Disk). Acts act r d None d' os) (sym f) h))

pub acts_quiet : (act : Host Lying → Acted Lying) (r : Option Running) (d : Disk) (o : List Output) → o ≡ [] → Acts act r d r d [] → Acts act r d r d o
acts_quiet act r d o e h = subst (λ (o : List Output). Acts act r d r d o) (sym e) h
