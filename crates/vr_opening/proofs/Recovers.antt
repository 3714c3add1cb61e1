-- A replica is recovered from its disk.
use Rattle.vr_base.specs.Kinds.{strict}
use Rattle.std.proofs.Common.{ℕ, arith, ◌≡◌, ◌∙◌, refl, sym, ap, subst, cond, List, Bool, true, false, Option, Some, None, Result, Ok, Err, rules, map}
use Rattle.std.specs.Prelude.{IfSome, is_some}
use Rattle.std.specs.Option.{option_and_then}
use Rattle.vr_base.specs.declared.table.Config.{Config}
use Rattle.vr_disk.specs.Counts.{CountsFault}
use Rattle.vr_disk.specs.DiskState.{Disk, Face, Runs, RunsFrom}
use Rattle.vr_msg.specs.declared.output.Output.{Output}
use Rattle.vr_super.specs.Calls.{mend_calls}
use Rattle.vr_super.specs.Copies.{SuperValue}
use Rattle.vr_super.specs.Opens as superblock
use Rattle.vr_super.specs.Opens.{good_copies}
use Rattle.vr_super.specs.Recovers.{Finds, IsFound, copy_verdict}
use Rattle.vr_super.specs.declared.recovering.CopyVerdict.{CopyVerdict}
use Rattle.vr_super.specs.declared.recovering.FindFault.{FindFault}
use Rattle.vr_super.specs.declared.recovering.FindFault.TheVariants as fault
use Rattle.vr_super.specs.declared.recovering.FoundValue.{FoundValue}
use Rattle.vr_rules.specs.Replica.{Replica}
use Rattle.vr_rules.specs.Steps.{Word, Mend}
use Rattle.vr_rules.specs.Opening.{blank, opening, first_value}
use Rattle.vr_disk.specs.declared.fault.Halt.{Halt}
use Rattle.vr_disk.specs.declared.fault.Halt.TheVariants.{DiskFault, NoMemory}
use Rattle.vr_opening.specs.declared.reopen.NoValue.{NoValue}
use Rattle.vr_opening.specs.declared.reopen.NoValue.TheVariants as none
use Rattle.vr_opening.specs.declared.reopen.Refusal.{Refusal}
use Rattle.vr_opening.specs.declared.reopen.Refusal.TheVariants.{Halted, Lost}
use Rattle.vr_rules.specs.Does.{Does, Performs}
use Rattle.vr_opening.specs.Recovering.{after_mend, DoesTo, config_of, is_left, is_other, not_found, opens_as, runs_as, IsRefusal, LosesCopies, LeavesAlone, MendsValue, BeginsWith, StopsMending, LeavesUnmended, FindsValue, IsOther, IsAsked, StopsAsked, Recovered, RecoveredAny}
use Rattle.vr_rules.proofs.Stepping.{does_no_memory, effect_then, effect_stopped}

pub begun_wanted : (v : SuperValue) (d : Option Disk) (o : List Output) → DoesTo (after_mend v) (blank v) d d o o (Err NoMemory)
begun_wanted v d o = does_no_memory (after_mend v) (blank v) (blank v) d o o

saved_blank : (v : SuperValue) → (blank v).saved ≡ v
unfolding blank
saved_blank v = refl

-- what is left of an error doesn't depend on the replica
other : (w : Word Face) (r a b : Replica) (d d' : Option Disk) (o o' : List Output) (h : Halt) → Does w r a d d' o o' (Err h) → Does w r b d d' o o' (Err h)
other w r a b d d' o o' DiskFault k = record { untold = k.untold; told = k.told; same = λ i. cc }
other w r a b d d' o o' NoMemory k = record { untold = k.untold; told = k.told; same = λ i. cc }

pub begun_then : (v : SuperValue) (r q : Replica) (d d' : Option Disk) (o o' : List Output) → r ≡ blank v → Does (after_mend r.saved) r q d d' o o' (Ok tt) → DoesTo (after_mend v) (blank v) d d' o o' (Ok q)
begun_then v r q d d' o o' e h =
    let k : Does (after_mend (blank v).saved) (blank v) q d d' o o' (Ok tt) = rw e at h in
    subst (λ x. Does (after_mend x) (blank v) q d d' o o' (Ok tt)) (saved_blank v) k

pub begun_stopped : (v : SuperValue) (r q : Replica) (d d' : Option Disk) (o o' : List Output) (halt : Halt) → r ≡ blank v → Does (after_mend r.saved) r q d d' o o' (Err halt) → DoesTo (after_mend v) (blank v) d d' o o' (Err halt)
begun_stopped v r q d d' o o' halt e h =
    let k : Does (after_mend (blank v).saved) (blank v) q d d' o o' (Err halt) = rw e at h in
    other (after_mend v) (blank v) q (blank v) d d' o o' halt (subst (λ x. Does (after_mend x) (blank v) q d d' o o' (Err halt)) (saved_blank v) k)

-- ---- with the mending before it

mends : (v : SuperValue) (r : Replica) (d d' : Option Disk) (ok : Bool) → RunsFrom (mend_calls v) d d' ok → Performs (λ r. Mend v) r d d' ok
mends v r d d' ok h = record { silent = refl; ran = h }

pub runs_of : (wanted : Option ℕ) (v : SuperValue) (d d' : Option Disk) → MendsValue wanted v d d' → RunsFrom (mend_calls v) d d' true
runs_of wanted v None d' m = m.untold refl
runs_of wanted v (Some x) d' m = (m.told x refl).1

pub opens_of : (wanted : Option ℕ) (v : SuperValue) (d d' : Option Disk) → MendsValue wanted v d d' → IfSome d (λ x. opens_as wanted x.face ≡ Some v)
opens_of wanted v None d' m = tt
opens_of wanted v (Some x) d' m = (m.told x refl).0

mended_then : (wanted : Option ℕ) (v : SuperValue) (q : Replica) (d d1 d2 : Option Disk) (o o' : List Output) (res : Result (Unit {0}) Halt) → MendsValue wanted v d d1 → Does (after_mend v) (blank v) q d1 d2 o o' res → Does (opening v) (blank v) q d d2 o o' res
unfolding opening
mended_then wanted v q d d1 d2 o o' res m h = effect_then (λ r. Mend v) (after_mend v) (blank v) q d d1 d2 o o' res (mends v (blank v) d d1 true (runs_of wanted v d d1 m)) h

-- ---- values that are left alone

-- where it isn't, the value of the superblock opens
opens_so : (wanted : Option ℕ) (o : Option SuperValue) (v : SuperValue) → o ≡ Some v → is_left wanted v ≡ false → option_and_then (runs_as wanted) o ≡ Some v
opens_so wanted o v e n = rw (e, n) refl

-- where it is, none does
opens_not : (wanted : Option ℕ) (o : Option SuperValue) (v : SuperValue) → o ≡ Some v → is_left wanted v ≡ true → option_and_then (runs_as wanted) o ≡ None
opens_not wanted o v e n = rw (e, n) refl

-- for a version that is asked for
asked_for : (wanted : Option ℕ) (version : ℕ) → is_other wanted version ≡ true → is_some wanted ≡ true
asked_for None version e = absurd cc
asked_for (Some w) version e = refl

leaves : (wanted : Option ℕ) (v : SuperValue) (y : Disk) (d' : Option Disk) → superblock.opens y.face ≡ Some v → is_left wanted v ≡ true → d' ≡ Some y → LeavesAlone wanted (Some y) d'
leaves wanted v y d' o e s = record {
  asked = asked_for wanted v.fields.version e;
  untold = λ x. absurd cc;
  told = λ x i. let same : y ≡ x = search rules in subst (λ (z : Disk). (is_some (superblock.opens z.face) ≡ true) × (opens_as wanted z.face ≡ None) × (d' ≡ Some z)) same
      (ap is_some o, opens_not wanted (superblock.opens y.face) v o e, s);
}

untold : (wanted : Option ℕ) (version : ℕ) (d' : Option Disk) → is_other wanted version ≡ true → d' ≡ None → LeavesAlone wanted None d'
untold wanted version d' e s = record { asked = asked_for wanted version e; untold = λ x. s; told = λ x e. absurd cc }

-- where no two good copies agree, no value opens in a file of any version
pub none_as : (wanted : Option ℕ) (f : Face) → superblock.opens f ≡ None → opens_as wanted f ≡ None
none_as wanted f e = ap (option_and_then (runs_as wanted)) e

-- without a value of the version the disk stays as it is
pub lost_stays : (wanted : Option ℕ) (vs : List CopyVerdict) (d e : Disk) → LosesCopies (Some d) (Some e) vs → (opens_as wanted d.face ≡ None) × (e ≡ d)
lost_stays wanted vs d e h =
    let t = h.told d refl in
    let same : e ≡ d = let s = t.1 in cc in
    (none_as wanted d.face t.0, same)

pub alone_stays : (wanted : Option ℕ) (d e : Disk) → LeavesAlone wanted (Some d) (Some e) → (opens_as wanted d.face ≡ None) × (e ≡ d)
alone_stays wanted d e h =
    let t = h.told d refl in
    let same : e ≡ d = let s = t.2 in cc in
    (t.1, same)

-- ---- what is found of the superblock

pub left_alone : (wanted : Option ℕ) (found : FoundValue) (b : Bool) (d : Option Disk) → IfSome d (λ x. IsFound x.face found) → b ≡ is_left wanted found.value → b ≡ true → LeavesAlone wanted d d
left_alone wanted found b None h e t = untold wanted found.value.fields.version None (sym e ∙ t) refl
left_alone wanted found b (Some y) h e t = leaves wanted found.value y (Some y) h.opens (sym e ∙ t) refl

pub mended : (wanted : Option ℕ) (found : FoundValue) (v : SuperValue) (b : Bool) (d d' : Option Disk) → IfSome d (λ x. IsFound x.face found) → b ≡ is_left wanted found.value → b ≡ false → RunsFrom (mend_calls found.value) d d' true → v ≡ found.value
    → MendsValue wanted v d d'
mended wanted found v b None d' h e n r k = record { untold = λ x. r; told = λ x i. absurd cc }
mended wanted found v b (Some y) d' h e n r k =
    let o = opens_so wanted (superblock.opens y.face) found.value h.opens (sym e ∙ n) in
    record {
      untold = λ x. absurd cc;
      told = λ x i. let same : y ≡ x = search rules in subst (λ (z : Disk). (opens_as wanted z.face ≡ Some v) × Runs (mend_calls v z.face) (Some z) d' true) same (subst (λ (w : SuperValue). (opens_as wanted y.face ≡ Some w) × Runs (mend_calls w y.face) (Some y) d' true) (sym k) (o, r));
    }

any_value : SuperValue
any_value = first_value strict 0 0 0

pub mend_faulted : (wanted : Option ℕ) (found : FoundValue) (b : Bool) (d d' : Option Disk) → IfSome d (λ x. IsFound x.face found) → b ≡ is_left wanted found.value → b ≡ false → RunsFrom (mend_calls found.value) d d' false → LeavesUnmended wanted d d' DiskFault
mend_faulted wanted found b None d' h e n r = record { value = any_value; opens = tt; stops = r }
mend_faulted wanted found b (Some y) d' h e n r = record { value = found.value; opens = opens_so wanted (superblock.opens y.face) found.value h.opens (sym e ∙ n); stops = r }

lost : (vs : List CopyVerdict) (d d' : Option Disk) → IfSome d (λ x. Finds x.face (Err (fault.Lost vs))) → d' ≡ d → LosesCopies d d' vs
lost vs None d' h s = record { untold = λ x. s; told = λ x e. absurd cc }
lost vs (Some y) d' h s = record {
  untold = λ e. cc;
  told = λ x e. let same : y ≡ x = search rules in subst (λ (z : Disk). (superblock.opens z.face ≡ None) × (d' ≡ Some z) × (vs ≡ map copy_verdict (good_copies z.face))) same (h.0, s, h.1);
}

-- a value that there was no memory for is left alone by its version
left_unread : (wanted : Option ℕ) (version : ℕ) (b : Bool) (d d' : Option Disk) → IfSome d (λ x. Finds x.face (Err (fault.NoMemory version))) → d' ≡ d → b ≡ is_other wanted version → b ≡ true → LeavesAlone wanted d d'
left_unread wanted version b None d' h s e t = untold wanted version d' (sym e ∙ t) s
left_unread wanted version b (Some y) d' h s e t = leaves wanted h.value y d' h.opens (ap (is_other wanted) h.named ∙ (sym e ∙ t)) s

wanted_memory : (wanted : Option ℕ) (version : ℕ) (b : Bool) (d d' : Option Disk) → IfSome d (λ x. Finds x.face (Err (fault.NoMemory version))) → d' ≡ d → b ≡ is_other wanted version → b ≡ false → LeavesUnmended wanted d d' NoMemory
wanted_memory wanted version b None d' h s e n = record { value = any_value; opens = tt; stops = s }
wanted_memory wanted version b (Some y) d' h s e n = record { value = h.value; opens = opens_so wanted (superblock.opens y.face) h.value h.opens (ap (is_other wanted) h.named ∙ (sym e ∙ n)); stops = s }

pub refused_value : (wanted : Option ℕ) (e : FindFault) (d d' : Option Disk) → IfSome d (λ x. Finds x.face (Err e)) → d' ≡ d → FindsValue wanted d d' (Err (not_found wanted e))
unfolding not_found
refused_value wanted (fault.Lost vs) d d' h s = lost vs d d' h s
refused_value wanted (fault.NoMemory version) d d' h s =
    elim (is_other wanted version) as (λ b. b ≡ is_other wanted version → FindsValue wanted d d' (Err (cond b none.OtherVersion (none.Halted NoMemory)))) [
      | true ↦ λ e. left_unread wanted version true d d' h s e refl
      | false ↦ λ e. wanted_memory wanted version false d d' h s e refl
    ] refl

no_fault : (wanted : Option ℕ) (e : FindFault) → not_found wanted e ≡ none.Halted DiskFault → ⊥
unfolding not_found
no_fault wanted (fault.Lost vs) e = absurd cc
no_fault wanted (fault.NoMemory version) e = elim (is_other wanted version) as (λ b. cond b none.OtherVersion (none.Halted NoMemory) ≡ none.Halted DiskFault → ⊥) [ true ↦ λ e. absurd cc | false ↦ λ e. absurd cc ] e

-- without a call there is no fault
pub counts_none : {T : Type 0} (wanted : Option ℕ) (e : FindFault) (before now : ℕ) → now ≡ before → CountsFault {T = T} {E = NoValue} (none.Halted DiskFault) before now (Err (not_found wanted e))
counts_none wanted e before now s = record { later = omega arith; kept = tt; failed = λ x. absurd (no_fault wanted e x); spared = λ n. s }

-- where no version is asked for, no file is of another one
pub never_alone : (d d' : Option Disk) (x : NoValue) → FindsValue None d d' (Err x) → x ≡ none.OtherVersion → ⊥
never_alone d d' (none.Lost vs) h e = absurd cc
never_alone d d' none.OtherVersion h e = let never : false ≡ true = h.asked in absurd cc
never_alone d d' (none.Halted halt) h e = absurd cc

-- a fault of the disk is answered as one, and nothing else is
pub refused_cause : {T U : Type 0} (x : NoValue) (y : Refusal) (before now : ℕ) → IsRefusal x y → CountsFault {T = T} {E = NoValue} (none.Halted DiskFault) before now (Err x) → CountsFault {T = U} {E = Refusal} (Halted DiskFault) before now (Err y)
refused_cause (none.Lost vs) y before now e h = record {
  later = h.later;
  kept = tt;
  failed = λ i. absurd (let never : Lost vs ≡ Halted DiskFault = sym e ∙ i in cc);
  spared = λ n. h.spared (λ i. absurd cc);
}
refused_cause none.OtherVersion y before now e h = absurd e
refused_cause (none.Halted halt) y before now e h = record {
  later = h.later;
  kept = tt;
  failed = λ i. h.failed (let fault : Halted halt ≡ Halted DiskFault = sym e ∙ i in let same : halt ≡ DiskFault = cc in ap none.Halted same);
  spared = λ n. h.spared (λ i. let same : halt ≡ DiskFault = cc in n (e ∙ ap Halted same));
}

pub unfound_cause : {T U : Type 0} (x : NoValue) (before now : ℕ) → CountsFault {T = T} {E = NoValue} (none.Halted DiskFault) before now (Err x) → CountsFault {T = U} {E = NoValue} (none.Halted DiskFault) before now (Err x)
unfound_cause x before now h = record { later = h.later; kept = tt; failed = h.failed; spared = h.spared }

-- a stop in the mending is one of the whole opening
stopped_mending : (v : SuperValue) (d d' : Option Disk) (o : List Output) (halt : Halt) → StopsMending v d d' halt → DoesTo (opening v) (blank v) d d' o o (Err halt)
unfolding opening
stopped_mending v d d' o DiskFault h = effect_stopped (λ r. Mend v) (after_mend v) (blank v) (blank v) d d' o o (mends v (blank v) d d' false h)
stopped_mending v d d' o NoMemory h = rw h (does_no_memory (opening v) (blank v) (blank v) d o o)

pub recovered : (asked found : Config) (v : SuperValue) (q : Replica) (d d1 d2 : Option Disk) (o o' : List Output) → found ≡ config_of v → found ≡ asked → MendsValue None v d d1 → DoesTo (after_mend v) (blank v) d1 d2 o o' (Ok q)
    → IsAsked asked d d2 o o' q
recovered asked found v q d d1 d2 o o' e i m h = record { value = v; named = sym e ∙ i; opens = opens_of None v d d1 m; step = mended_then None v q d d1 d2 o o' (Ok tt) m h }

pub halted : (asked found : Config) (v : SuperValue) (d d1 d2 : Option Disk) (o o' : List Output) (halt : Halt) → found ≡ config_of v → found ≡ asked → MendsValue None v d d1 → DoesTo (after_mend v) (blank v) d1 d2 o o' (Err halt)
    → StopsAsked asked d d2 o o' halt
halted asked found v d d1 d2 o o' halt e i m h = record {
  value = v;
  opens = opens_of None v d d1 m;
  step = λ x. mended_then None v (blank v) d d1 d2 o o' (Err halt) m h;
  other = λ not. absurd (not (sym e ∙ i));
}

pub halted_any : (version : ℕ) (v : SuperValue) (d d1 d2 : Option Disk) (o o' : List Output) (halt : Halt) → MendsValue (Some version) v d d1 → DoesTo (after_mend v) (blank v) d1 d2 o o' (Err halt) → BeginsWith (Some version) opening d d2 o o' (Err halt)
halted_any version v d d1 d2 o o' halt m h = record { value = v; opens = opens_of (Some version) v d d1 m; step = mended_then (Some version) v (blank v) d d1 d2 o o' (Err halt) m h }

pub other_member : (asked found : Config) (v : SuperValue) (d d' : Option Disk) → found ≡ config_of v → (found ≡ asked → ⊥) → MendsValue None v d d' → IsOther asked found d d'
other_member asked found v d d' e n m = record { value = v; mended = m; named = e; other = n }

pub refused : (asked : Config) (d d' : Option Disk) (o : List Output) (x : NoValue) (y : Refusal) → IsRefusal x y → FindsValue None d d' (Err x) → Recovered asked d d' o o (Err y)
refused asked d d' o (none.Lost vs) y e h = rw e h
refused asked d d' o none.OtherVersion y e h = absurd e
refused asked d d' o (none.Halted halt) y e h =
    let stops : StopsAsked asked d d' o o halt = record { value = h.value; opens = h.opens; step = λ e. stopped_mending h.value d d' o halt h.stops; other = λ not. h.stops } in
    rw e stops

pub recovered_any : (version : ℕ) (v : SuperValue) (q : Replica) (d d1 d2 : Option Disk) (o o' : List Output) → MendsValue (Some version) v d d1 → DoesTo (after_mend v) (blank v) d1 d2 o o' (Ok q) → BeginsWith (Some version) opening d d2 o o' (Ok q)
recovered_any version v q d d1 d2 o o' m h = record { value = v; opens = opens_of (Some version) v d d1 m; step = mended_then (Some version) v q d d1 d2 o o' (Ok tt) m h }

pub refused_any : (version : ℕ) (d d' : Option Disk) (o : List Output) (x : NoValue) → FindsValue (Some version) d d' (Err x) → RecoveredAny version d d' o o (Err x)
refused_any version d d' o (none.Lost vs) h = h
refused_any version d d' o none.OtherVersion h = h
refused_any version d d' o (none.Halted halt) h = record { value = h.value; opens = h.opens; step = stopped_mending h.value d d' o halt h.stops }
