-- What code leaves that follows a word, and then another.
use Rattle.std.proofs.Common.{ℕ, zero, suc, ◌+◌, ◌-◌, ◌<◌, ◌≤◌, arith, ◌≡◌, refl, sym, ap, ◌∙◌, List, [], ◌∷◌, ◌++◌, map, Option, Some, None, Result, Ok, Err, true, false, append_assoc, append-nil, subst, rules, length, drop, get_or, add-one, drop-cons}
use Rattle.std.proofs.lemmas.List.{drop_all}
use Rattle.std.specs.Prelude.{IfSome}
use Rattle.vr_disk.specs.DiskState as disk
use Rattle.vr_disk.specs.DiskState.{Disk, Face, Call, Runs, runs, Front}
use Rattle.vr_disk.proofs.Running.{Runs_then, Runs_stopped, after_is, front_more, front_then}
use Rattle.vr_msg.specs.declared.output.Output.{Output}
use Rattle.vr_rules.specs.Replica.{Replica, version}
use Rattle.vr_rules.specs.Steps.{Effect, Say, Setting, Step, Word, ◌⨾◌, quiet, change, does, says, by, naming, reading, output_of, outputs, after_all, times, each}
use Rattle.vr_rules.specs.Sectors.{sectors_by, calls_by, script_calls}
use Rattle.vr_base.specs.Bytes.{name_of}
use Rattle.vr_header.specs.declared.header.Header.{Header}
use Rattle.vr_header.specs.declared.part.Part.{Part}
use Rattle.vr_header.specs.declared.part.Part.TheVariants.{Here}
use Rattle.vr_header.specs.Made.{Whole}
use Rattle.vr_rules.specs.Words.{entry_of, or_lost, with_entry, lost}
use Rattle.vr_disk.specs.declared.fault.Halt.{Halt}
use Rattle.vr_disk.specs.declared.fault.Halt.TheVariants.{DiskFault, NoMemory}
use Rattle.vr_rules.proofs.Versions.{lost_stays, stored_stays, saved_stays, checkpoint_stays}
use Rattle.vr_rules.specs.Does.{LeftBy, Does, Performs, PerformsTo, Finds, Looping, Going}

-- ---- scripts

pub calls_append : (v : ℕ) (a b : List Effect) (f : Face) → script_calls v (a ++ b) f ≡ script_calls v a f ++ script_calls v b (after_all (sectors_by v) f a)
unfolding script_calls after_all
calls_append v [] b f = refl
calls_append v (e ∷ es) b f =
    let g = disk.after_all f (calls_by v e f) in
    ap (λ x. calls_by v e f ++ x) (calls_append v es b g) ∙ sym (append_assoc (calls_by v e f) (script_calls v es g) (script_calls v b (after_all (sectors_by v) g es)))

pub after_append : (cs ds : List Call) (f : Face) → disk.after_all f (cs ++ ds) ≡ disk.after_all (disk.after_all f cs) ds
after_append [] ds f = refl
after_append (c ∷ cs) ds f = after_append cs ds _

pub face_is : (v : ℕ) (es : List Effect) (f : Face) → after_all (sectors_by v) f es ≡ disk.after_all f (script_calls v es f)
unfolding script_calls after_all
face_is v [] f = refl
face_is v (e ∷ es) f =
    let g = disk.after_all f (calls_by v e f) in
    face_is v es g ∙ sym (after_append (calls_by v e f) (script_calls v es g) f)

pub outputs_append : (a b : List Effect) → outputs (a ++ b) ≡ outputs a ++ outputs b
unfolding outputs
outputs_append [] b = refl
outputs_append (e ∷ es) b = ap (λ x. output_of e ++ x) (outputs_append es b) ∙ sym (append_assoc (output_of e) (outputs es) (outputs b))

pub outputs_said : (os : List Output) → outputs (map Say os) ≡ os
unfolding outputs
outputs_said [] = refl
outputs_said (o ∷ os) = ap (λ x. o ∷ x) (outputs_said os)

pub calls_said : (v : ℕ) (os : List Output) (f : Face) → script_calls v (map Say os) f ≡ []
unfolding script_calls
calls_said v [] f = refl
calls_said v (o ∷ os) f = calls_said v os f

-- ---- words

-- one step's script, and another's
both_front : (v : ℕ) (a b : List Effect) (f : Face) (x : Option Disk) (d : Option Disk) → Front (script_calls v a f) x d → Front (script_calls v (a ++ b) f) x d
both_front v a b f x d h = rw (calls_append v a b f) (front_more (script_calls v a f) (script_calls v b (after_all (sectors_by v) f a)) x d h)

both_stopped : (v : ℕ) (a b : List Effect) (f : Face) (x d : Option Disk) → Runs (script_calls v a f) x d false → Runs (script_calls v (a ++ b) f) x d false
both_stopped v a b f x d h = rw (calls_append v a b f) (Runs_stopped (script_calls v a f) (script_calls v b (after_all (sectors_by v) f a)) x d h)

-- the disk that a word has left
middle : (v : ℕ) (es : List Effect) (x : Disk) (d : Option Disk) → Runs (script_calls v es x.face) (Some x) d true → (y : Disk) × (d ≡ Some y) × (y.face ≡ after_all (sectors_by v) x.face es)
middle v es x d h = ((runs (script_calls v es x.face) x).disk, h.0, after_is (script_calls v es x.face) x (sym h.1) ∙ sym (face_is v es x.face))

-- what the second word's leaving is worth after the first
left_then : (v : ℕ) (a b : Step) (x y : Disk) (r : Replica) (d : Option Disk) (o o' o'' : List Output) (result : Result (Unit {0}) Halt)
    → Runs (script_calls v a.script x.face) (Some x) (Some y) true → o' ≡ o ++ outputs a.script → y.face ≡ after_all (sectors_by v) x.face a.script
    → LeftBy v b r y d o' o'' result → LeftBy v (record { replica = b.replica; script = a.script ++ b.script }) r x d o o'' result
left_then v a b x y r d o o' o'' (Ok t) ran said face k = (
  k.0,
  k.1 ∙ ap (λ z. z ++ outputs b.script) said ∙ append_assoc o (outputs a.script) (outputs b.script) ∙ ap (λ z. o ++ z) (sym (outputs_append a.script b.script)),
  rw (calls_append v a.script b.script x.face, ← face) (Runs_then (script_calls v a.script x.face) (script_calls v b.script y.face) (Some x) (Some y) d true ran k.2),
)
left_then v a b x y r d o o' o'' (Err DiskFault) ran said face k =
    rw (calls_append v a.script b.script x.face, ← face) (Runs_then (script_calls v a.script x.face) (script_calls v b.script y.face) (Some x) (Some y) d false ran k)
left_then v a b x y r d o o' o'' (Err NoMemory) ran said face k =
    rw (calls_append v a.script b.script x.face, ← face) (front_then (script_calls v a.script x.face) (script_calls v b.script y.face) (Some x) (Some y) d ran k)

-- the version stays
stays_then : (result : Result (Unit {0}) Halt) (r r' r'' : Replica) → version r' ≡ version r → (result ≡ Ok tt → version r'' ≡ version r') → result ≡ Ok tt → version r'' ≡ version r
stays_then result r r' r'' a b e = b e ∙ a

pub does_then : (v w : Word Face) (r r' r'' : Replica) (d d' d'' : Option Disk) (o o' o'' : List Output) (result : Result (Unit {0}) Halt)
    → Does v r r' d d' o o' (Ok tt) → Does w r' r'' d' d'' o' o'' result → Does (v ⨾ w) r r'' d d'' o o'' result
unfolding ◌⨾◌
does_then v w r r' r'' d d' d'' o o' o'' result h k =
    record {
      untold = λ e. k.untold (h.untold e);
      told = λ x e.
          let ed = version r in
          let l = h.told x e in
          let m = middle ed (v (sectors_by ed) r x.face).script x d' l.2 in
          let a = v (sectors_by ed) r x.face in
          let p : LeftBy ed (w (sectors_by ed) r' m.0.face) r'' m.0 d'' o' o'' result =
          subst (λ n. LeftBy n (w (sectors_by n) r' m.0.face) r'' m.0 d'' o' o'' result) (h.same refl) (k.told m.0 m.1) in
          let q : LeftBy ed (w (sectors_by ed) a.replica (after_all (sectors_by ed) x.face a.script)) r'' m.0 d'' o' o'' result = rw (← l.0, ← m.2) p in
          let ran : Runs (script_calls ed a.script x.face) (Some x) (Some m.0) true = rw (← m.1) l.2 in
          left_then ed a (w (sectors_by ed) a.replica (after_all (sectors_by ed) x.face a.script)) x m.0 r'' d'' o o' o'' result ran l.1 m.2 q;
      same = stays_then result r r' r'' (h.same refl) k.same;
    }

pub does_stopped : (v w : Word Face) (r r' r'' : Replica) (d d' : Option Disk) (o o' o'' : List Output) (e : Halt)
    → Does v r r' d d' o o' (Err e) → Does (v ⨾ w) r r'' d d' o o'' (Err e)
unfolding ◌⨾◌
does_stopped v w r r' r'' d d' o o' o'' DiskFault h =
    record {
      untold = h.untold;
      told = λ x e. let s = sectors_by (version r) in let a = v s r x.face in both_stopped (version r) a.script (w s a.replica (after_all s x.face a.script)).script x.face (Some x) d' (h.told x e);
      same = λ i. cc;
    }
does_stopped v w r r' r'' d d' o o' o'' NoMemory h =
    record {
      untold = h.untold;
      told = λ x e. let s = sectors_by (version r) in let a = v s r x.face in both_front (version r) a.script (w s a.replica (after_all s x.face a.script)).script x.face (Some x) d' (h.told x e);
      same = λ i. cc;
    }

pub does_by : (w : Replica → Word Face) (r r' : Replica) (d d' : Option Disk) (o o' : List Output) (result : Result (Unit {0}) Halt)
    → Does (w r) r r' d d' o o' result → Does (by w) r r' d d' o o' result
unfolding by
does_by w r r' d d' o o' result h = record { untold = h.untold; told = h.told; same = h.same }

pub does_quiet : (r : Replica) (d : Option Disk) (o : List Output) → Does quiet r r d d o o (Ok tt)
unfolding quiet script_calls outputs
does_quiet r d o = record { untold = λ e. e; told = λ x e. (refl, sym (append-nil o), (e, refl)); same = λ i. refl }

pub does_change : (g : Replica → Replica) (r : Replica) (d : Option Disk) (o : List Output) → version (g r) ≡ version r → Does (change g) r (g r) d d o o (Ok tt)
unfolding change script_calls outputs
does_change g r d o k = record { untold = λ e. e; told = λ x e. (refl, sym (append-nil o), (e, refl)); same = λ i. k }

pub does_change_then : (g : Replica → Replica) (w : Word Face) (r r'' : Replica) (d d'' : Option Disk) (o o'' : List Output) (result : Result (Unit {0}) Halt)
    → version (g r) ≡ version r → Does w (g r) r'' d d'' o o'' result → Does (change g ⨾ w) r r'' d d'' o o'' result
does_change_then g w r r'' d d'' o o'' result k h = does_then (change g) w r (g r) r'' d d d'' o o o'' result (does_change g r d o k) h

-- want of memory before anything else
pub does_no_memory : (w : Word Face) (r r' : Replica) (d : Option Disk) (o o' : List Output) → Does w r r' d d o o' (Err NoMemory)
does_no_memory w r r' d o o' =
    record { untold = λ e. e; told = λ x e. record { made = []; left = script_calls (version r) (w (sectors_by (version r)) r x.face).script x.face; whole = refl; ran = (e, refl) }; same = λ i. cc }

pub does_says : (os : Replica → List Output) (r : Replica) (d : Option Disk) (o : List Output) → Does (says os) r r d d o (o ++ os r) (Ok tt)
unfolding says
does_says os r d o =
    record { untold = λ e. e; told = λ x e. (refl, ap (λ z. o ++ z) (sym (outputs_said (os r))), rw (calls_said (version r) (os r) x.face) (e, refl)); same = λ i. refl }

pub does_says_then : (os : Replica → List Output) (w : Word Face) (r r'' : Replica) (d d'' : Option Disk) (o o'' : List Output) (result : Result (Unit {0}) Halt)
    → Does w r r'' d d'' (o ++ os r) o'' result → Does (says os ⨾ w) r r'' d d'' o o'' result
does_says_then os w r r'' d d'' o o'' result h = does_then (says os) w r r r'' d d d'' o (o ++ os r) o'' result (does_says os r d o) h

-- an effect on the disk
pub does_effect : (e : Replica → Effect) (r : Replica) (d d' : Option Disk) (o : List Output) → Performs e r d d' true → Does (does e) r r d d' o o (Ok tt)
unfolding does script_calls outputs
does_effect e r None d' o h = record { untold = λ e. h.ran; told = λ x e. cc; same = λ i. refl }
does_effect e r (Some y) d' o h =
    record {
      untold = λ e. cc;
      told = λ x i.
          let j : x ≡ y = search rules in
          (refl, rw h.silent (sym (append-nil o)), rw (append-nil (calls_by (version r) (e r) x.face), j) h.ran);
      same = λ i. refl;
    }

pub does_effect_stopped : (e : Replica → Effect) (r r' : Replica) (d d' : Option Disk) (o o' : List Output) → Performs e r d d' false → Does (does e) r r' d d' o o' (Err DiskFault)
unfolding does script_calls outputs
does_effect_stopped e r r' None d' o o' h = record { untold = λ e. h.ran; told = λ x e. cc; same = λ i. cc }
does_effect_stopped e r r' (Some y) d' o o' h =
    record {
      untold = λ e. cc;
      told = λ x i.
          let j : x ≡ y = search rules in
          rw (append-nil (calls_by (version r) (e r) x.face), j) h.ran;
      same = λ i. cc;
    }

pub effect_then : (e : Replica → Effect) (w : Word Face) (r r'' : Replica) (d d' d'' : Option Disk) (o o'' : List Output) (result : Result (Unit {0}) Halt)
    → Performs e r d d' true → Does w r r'' d' d'' o o'' result → Does (does e ⨾ w) r r'' d d'' o o'' result
effect_then e w r r'' d d' d'' o o'' result p h = does_then (does e) w r r r'' d d' d'' o o o'' result (does_effect e r d d' o p) h

pub effect_stopped : (e : Replica → Effect) (w : Word Face) (r r'' : Replica) (d d' : Option Disk) (o o'' : List Output)
    → Performs e r d d' false → Does (does e ⨾ w) r r'' d d' o o'' (Err DiskFault)
effect_stopped e w r r'' d d' o o'' p = does_stopped (does e) w r r'' r'' d d' o o'' o'' DiskFault (does_effect_stopped e r r'' d d' o o'' p)

reads_told : {X : Type 0} (s : Setting Face) (g : Setting Face → Face → X) (d : Option Disk) (x : Disk) (v : X) → IfSome d (λ y. v ≡ g s y.face) → d ≡ Some x → v ≡ g s x.face
reads_told s g None x v h e = cc
reads_told s g (Some y) x v h e = let j : y ≡ x = search rules in h ∙ ap (λ (z : Disk). g s z.face) j

pub does_reading : {X : Type 0} (g : Setting Face → Face → X) (w : X → Word Face) (v : X) (r r' : Replica) (d d' d'' : Option Disk) (o o' : List Output) (result : Result (Unit {0}) Halt)
    → Finds (version r) g d d' v → Does (w v) r r' d' d'' o o' result → Does (reading g w) r r' d d'' o o' result
unfolding reading
does_reading g w v r r' d d' d'' o o' result found h =
    let s = sectors_by (version r) in
    record {
      untold = λ e. h.untold (found.same ∙ e);
      told = λ x e. subst (λ z. LeftBy (version r) (w z s r x.face) r' x d'' o o' result) (reads_told s g d x v found.value e) (h.told x (found.same ∙ e));
      same = h.same;
    }

-- ---- a word over and over, in the middle of its loop

pub times_none : (w : Word Face) (n : ℕ) (r : Replica) (d : Option Disk) (o : List Output) → Does (times (n - n) w) r r d d o o (Ok tt)
unfolding times
times_none w n r d o = let e : n - n ≡ zero = omega arith in rw e (does_quiet r d o)

pub times_zero : (w : Word Face) (r : Replica) (d : Option Disk) (o : List Output) → Does (times zero w) r r d d o o (Ok tt)
unfolding times
times_zero w r d o = does_quiet r d o

pub times_more : (w : Word Face) (n i : ℕ) (r r' r'' : Replica) (d d' d'' : Option Disk) (o o' o'' : List Output) (result : Result (Unit {0}) Halt)
    → i < n → Does w r r' d d' o o' (Ok tt) → Does (times (n - (i + 1)) w) r' r'' d' d'' o' o'' result → Does (times (n - i) w) r r'' d d'' o o'' result
unfolding times
times_more w n i r r' r'' d d' d'' o o' o'' result l h k =
    let e : n - i ≡ suc (n - (i + 1)) = omega arith in
    rw e (does_then w (times (n - (i + 1)) w) r r' r'' d d' d'' o o' o'' result h k)

pub times_stopped : (w : Word Face) (n i : ℕ) (r r' r'' : Replica) (d d' : Option Disk) (o o' o'' : List Output) (e : Halt)
    → i < n → Does w r r' d d' o o' (Err e) → Does (times (n - i) w) r r'' d d' o o'' (Err e)
unfolding times
times_stopped w n i r r' r'' d d' o o' o'' e l h =
    let q : n - i ≡ suc (n - (i + 1)) = omega arith in
    rw q (does_stopped w (times (n - (i + 1)) w) r r' r'' d d' o o' o'' e h)

pub looping_begins : (w : Word Face) (n : ℕ) (r : Replica) (d : Option Disk) (o : List Output) → Looping w n 0 r r d d o o
looping_begins w n r d o = let e : n - 0 ≡ n = omega arith in record { rest = λ r'' d'' o'' result h. rw e at h }

pub looping_goes : (w : Word Face) (n i : ℕ) (r r' r'' : Replica) (d d' d'' : Option Disk) (o o' o'' : List Output)
    → i < n → Looping w n i r r' d d' o o' → Does w r' r'' d' d'' o' o'' (Ok tt) → Looping w n (i + 1) r r'' d d'' o o''
looping_goes w n i r r' r'' d d' d'' o o' o'' l h k =
    record { rest = λ a b c result m. h.rest a b c result (times_more w n i r' r'' a d' d'' b o' o'' c result l k m) }

pub looping_ends : (w : Word Face) (n i : ℕ) (r r' : Replica) (d d' : Option Disk) (o o' : List Output) → n ≤ i → Looping w n i r r' d d' o o' → Does (times n w) r r' d d' o o' (Ok tt)
looping_ends w n i r r' d d' o o' l h = let e : n - i ≡ zero = omega arith in h.rest r' d' o' (Ok tt) (rw e (times_zero w r' d' o'))

pub looping_stops : (w : Word Face) (n i : ℕ) (r r' r'' s : Replica) (d d' d'' : Option Disk) (o o' o'' p : List Output) (e : Halt)
    → i < n → Looping w n i r r' d d' o o' → Does w r' r'' d' d'' o' o'' (Err e) → Does (times n w) r s d d'' o p (Err e)
looping_stops w n i r r' r'' s d d' d'' o o' o'' p e l h k = h.rest s d'' p (Err e) (times_stopped w n i r' r'' s d' d'' o' o'' p e l k)

pub ruleset loops = (looping_begins, looping_goes, looping_ends, looping_stops, does_by)

-- ---- a word for each of a list

pub going_begins : {X : Type 0} (w : X → Word Face) (xs : List X) (r : Replica) (d : Option Disk) (o : List Output) → Going w xs 0 r r d d o o
going_begins w xs r d o = record { rest = λ r'' d'' o'' result h. h }

each_at : {X : Type 0} (w : X → Word Face) (xs : List X) (i : ℕ) (b : X) → i < length xs → each w (drop i xs) ≡ w (get_or xs i b) ⨾ each w (drop (i + 1) xs)
unfolding each
each_at w xs i b l = rw (add-one, drop-cons xs i b) refl

pub going_goes : {X : Type 0} (w : X → Word Face) (xs : List X) (i : ℕ) (b : X) (r r' r'' : Replica) (d d' d'' : Option Disk) (o o' o'' : List Output)
    → i < length xs → Going w xs i r r' d d' o o' → Does (w (get_or xs i b)) r' r'' d' d'' o' o'' (Ok tt) → Going w xs (i + 1) r r'' d d'' o o''
going_goes w xs i b r r' r'' d d' d'' o o' o'' l h k =
    record { rest = λ a c p result m. h.rest a c p result (rw (each_at w xs i b l) (does_then (w (get_or xs i b)) (each w (drop (i + 1) xs)) r' r'' a d' d'' c o' o'' p result k m)) }

pub going_stops : {X : Type 0} (w : X → Word Face) (xs : List X) (i : ℕ) (b : X) (r r' r'' s : Replica) (d d' d'' : Option Disk) (o o' o'' p : List Output) (e : Halt)
    → i < length xs → Going w xs i r r' d d' o o' → Does (w (get_or xs i b)) r' r'' d' d'' o' o'' (Err e) → Does (each w xs) r s d d'' o p (Err e)
going_stops w xs i b r r' r'' s d d' d'' o o' o'' p e l h k =
    h.rest s d'' p (Err e) (rw (each_at w xs i b l) (does_stopped (w (get_or xs i b)) (each w (drop (i + 1) xs)) r' r'' s d' d'' o' o'' p e k))

pub going_ends : {X : Type 0} (w : X → Word Face) (xs : List X) (i : ℕ) (r r' : Replica) (d d' : Option Disk) (o o' : List Output) → length xs ≤ i → Going w xs i r r' d d' o o' → Does (each w xs) r r' d d' o o' (Ok tt)
unfolding each
going_ends w xs i r r' d d' o o' l h = h.rest r' d' o' (Ok tt) (rw (drop_all i xs l) (does_quiet r' d' o'))

pub ruleset eaches = (going_begins, going_goes, going_stops, going_ends)

-- the same, by equations
pub says_by : (os : Replica → List Output) (r : Replica) (d : Option Disk) (o o' : List Output) → o' ≡ o ++ os r → Does (says os) r r d d o o' (Ok tt)
says_by os r d o o' e = rw e (does_says os r d o)

pub says_by_then : (os : Replica → List Output) (w : Word Face) (r r'' : Replica) (d d'' : Option Disk) (o o' o'' : List Output) (result : Result (Unit {0}) Halt)
    → o' ≡ o ++ os r → Does w r r'' d d'' o' o'' result → Does (says os ⨾ w) r r'' d d'' o o'' result
says_by_then os w r r'' d d'' o o' o'' result e h = does_says_then os w r r'' d d'' o o'' result (rw e at h)

pub change_by : (g : Replica → Replica) (r r' : Replica) (d : Option Disk) (o : List Output) → r' ≡ g r → version (g r) ≡ version r → Does (change g) r r' d d o o (Ok tt)
change_by g r r' d o e k = rw e (does_change g r d o k)

pub change_by_then : (g : Replica → Replica) (w : Word Face) (r r' r'' : Replica) (d d'' : Option Disk) (o o'' : List Output) (result : Result (Unit {0}) Halt)
    → r' ≡ g r → version (g r) ≡ version r → Does w r' r'' d d'' o o'' result → Does (change g ⨾ w) r r'' d d'' o o'' result
change_by_then g w r r' r'' d d'' o o'' result e k h = does_change_then g w r r'' d d'' o o'' result k (rw e at h)

-- an effect, and the replica changed by it
pub effect_change : (e : Replica → Effect) (g : Replica → Replica) (r r' : Replica) (d d' : Option Disk) (o : List Output) → Performs e r d d' true → r' ≡ g r → version (g r) ≡ version r → Does (does e ⨾ change g) r r' d d' o o (Ok tt)
effect_change e g r r' d d' o p q k = effect_then e (change g) r r' d d' d' o o (Ok tt) p (change_by g r r' d' o q k)

-- an effect whose function may also want memory
fault_of : (e : Replica → Effect) (r r' : Replica) (d d' : Option Disk) (o o' : List Output) → PerformsTo e r d d' (Err DiskFault) → Does (does e) r r' d d' o o' (Err DiskFault)
unfolding does script_calls
fault_of e r r' d d' o o' h = record { untold = h.untold; told = λ x i. rw (append-nil (calls_by (version r) (e r) x.face)) (h.told x i); same = λ i. cc }

want_of : (e : Replica → Effect) (r r' : Replica) (d d' : Option Disk) (o o' : List Output) → PerformsTo e r d d' (Err NoMemory) → Does (does e) r r' d d' o o' (Err NoMemory)
unfolding does script_calls
want_of e r r' d d' o o' h = record { untold = h.untold; told = λ x i. rw (append-nil (calls_by (version r) (e r) x.face)) (h.told x i); same = λ i. cc }

pub performed : (e : Replica → Effect) (r r' : Replica) (d d' : Option Disk) (o : List Output) → PerformsTo e r d d' (Ok tt) → Does (does e) r r d d' o o (Ok tt)
unfolding does script_calls outputs
performed e r r' d d' o h =
    record { untold = h.untold; told = λ x i. (refl, rw h.silent (sym (append-nil o)), rw (append-nil (calls_by (version r) (e r) x.face)) (h.told x i)); same = λ i. refl }

pub performs_change : (e : Replica → Effect) (g : Replica → Replica) (r r' : Replica) (d d' : Option Disk) (o : List Output) → PerformsTo e r d d' (Ok tt) → r' ≡ g r → version (g r) ≡ version r → Does (does e ⨾ change g) r r' d d' o o (Ok tt)
performs_change e g r r' d d' o p q k = does_then (does e) (change g) r r r' d d' d' o o o (Ok tt) (performed e r r d d' o p) (change_by g r r' d' o q k)

pub performs_halted : (e : Replica → Effect) (w : Word Face) (r r' : Replica) (d d' : Option Disk) (o o' : List Output) (h : Halt) → PerformsTo e r d d' (Err h) → Does (does e ⨾ w) r r' d d' o o' (Err h)
performs_halted e w r r' d d' o o' DiskFault p = does_stopped (does e) w r r' r' d d' o o' o' DiskFault (fault_of e r r' d d' o o' p)
performs_halted e w r r' d d' o o' NoMemory p = does_stopped (does e) w r r' r' d d' o o' o' NoMemory (want_of e r r' d d' o o' p)

-- within such a function
pub performs_want : (e : Replica → Effect) (r : Replica) (d : Option Disk) → output_of (e r) ≡ [] → PerformsTo e r d d (Err NoMemory)
performs_want e r d s = record { silent = s; untold = λ i. i; told = λ x i. record { made = []; left = calls_by (version r) (e r) x.face; whole = refl; ran = (i, refl) } }

pub performs_ok : (e : Replica → Effect) (r : Replica) (d d' : Option Disk) → Performs e r d d' true → PerformsTo e r d d' (Ok tt)
performs_ok e r None d' h = record { silent = h.silent; untold = λ i. h.ran; told = λ x i. cc }
performs_ok e r (Some y) d' h = record { silent = h.silent; untold = λ i. cc; told = λ x i. let j : x ≡ y = search rules in rw j h.ran }

pub performs_fault : (e : Replica → Effect) (r : Replica) (d d' : Option Disk) → Performs e r d d' false → PerformsTo e r d d' (Err DiskFault)
performs_fault e r None d' h = record { silent = h.silent; untold = λ i. h.ran; told = λ x i. cc }
performs_fault e r (Some y) d' h = record { silent = h.silent; untold = λ i. cc; told = λ x i. let j : x ≡ y = search rules in rw j h.ran }

pub does_naming : (w : (List ℕ → List ℕ) → Word Face) (r r' : Replica) (d d' : Option Disk) (o o' : List Output) (result : Result (Unit {0}) Halt)
    → Does (w name_of) r r' d d' o o' result → Does (naming w) r r' d d' o o' result
unfolding naming
does_naming w r r' d d' o o' result h = record { untold = h.untold; told = h.told; same = h.same }

-- ---- an entry is read, or lost

pub found_then : (h : Header) (w : Whole → Word Face) (e : Whole) (r r' : Replica) (d d' d'' : Option Disk) (o o' : List Output) (result : Result (Unit {0}) Halt)
    → Finds (version r) (entry_of h) d d' (Some e) → Does (w e) r r' d' d'' o o' result → Does (reading (entry_of h) (or_lost h w)) r r' d d'' o o' result
found_then h w e r r' d d' d'' o o' result f k = does_reading (entry_of h) (or_lost h w) (Some e) r r' d d' d'' o o' result f k

pub found_lost : (h : Header) (w : Whole → Word Face) (r q : Replica) (d d' : Option Disk) (o : List Output) → Finds (version r) (entry_of h) d d' None → q ≡ lost h r
    → Does (reading (entry_of h) (or_lost h w)) r q d d' o o (Ok tt)
found_lost h w r q d d' o f e = does_reading (entry_of h) (or_lost h w) None r q d d' d' o o (Ok tt) f (change_by (lost h) r q d' o e (lost_stays h r))

pub here_then : (h : Header) (w : Whole → Word Face) (p : Part) (r r' : Replica) (d d' : Option Disk) (o o' : List Output) (result : Result (Unit {0}) Halt)
    → p ≡ Here h → Does (reading (entry_of h) (or_lost h w)) r r' d d' o o' result → Does (with_entry w p) r r' d d' o o' result
here_then h w p r r' d d' o o' result e k = rw e k

pub ruleset readings = (found_then, found_lost)

pub ruleset kinds = (here_then, does_quiet)

pub ruleset halts = (performs_change, performs_halted, checkpoint_stays)

pub ruleset effects = (effect_change, effect_stopped, stored_stays, saved_stays)

pub ruleset wants = (does_no_memory)

pub ruleset choices = (does_quiet)

pub ruleset steps = (does_then, does_stopped, does_by, does_naming, does_quiet, does_change_then, does_no_memory, effect_then, effect_stopped, does_reading, says_by, says_by_then, change_by, change_by_then)
