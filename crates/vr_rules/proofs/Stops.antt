-- What a word leaves, and what stops at its calls leave.
use Rattle.std.proofs.Common.{ℕ, ◌<◌, ◌≤◌, ◌≡◌, ◌∙◌, inl, inr, refl, sym, ap, Bool, true, false, true≢false, List, [], ◌∷◌, ◌++◌, length, take, Option, Some, Result, Ok, Err}
use Rattle.vr_disk.specs.DiskState as disk
use Rattle.vr_disk.specs.DiskState.{Call, Face, Disk, Fuse, Front, Runs, cut, runs}
use Rattle.vr_disk.specs.Stops.{Stops}
use Rattle.vr_disk.proofs.Running.{after_is}
use Rattle.vr_disk.proofs.Stopping.{stops_are}
use Rattle.vr_disk.proofs.Fuses.{armed_goes_off}
use Rattle.vr_msg.specs.declared.output.Output.{Output}
use Rattle.vr_rules.specs.Replica.{Replica, version}
use Rattle.vr_rules.specs.Steps.{Step, Word, outputs, after_all}
use Rattle.vr_disk.specs.declared.fault.Halt.{Halt}
use Rattle.vr_disk.specs.declared.fault.Halt.TheVariants.{DiskFault, NoMemory}
use Rattle.vr_rules.specs.Does.{Does}
use Rattle.vr_rules.specs.Stopping.{step_of, calls_in, Well, WellIsDone, Stopped, FaultIsStop, Wanting, WantIsFront, Cut, Armed, FuseIsCut, FuseIsLater}
use Rattle.vr_rules.proofs.Stepping.{face_is}

take_front : (xs ys : List Call) → take (length xs) (xs ++ ys) ≡ xs
take_front [] ys = refl
take_front (x ∷ xs) ys = ap (λ zs. x ∷ zs) (take_front xs ys)

pub well_done : WellIsDone
well_done w r r' d d' o o' h =
    let l = h.told d refl in
    let cs = calls_in w r d in
    record {
      replica = l.0;
      said = l.1;
      left = (runs cs d).disk;
      is = l.2.0;
      face = after_is cs d (sym l.2.1) ∙ sym (face_is (version r) (step_of w r d).script d.face);
    }

pub fault_stops : FaultIsStop
fault_stops w r r' d d' o o' h =
    let l = h.told d refl in
    let cs = calls_in w r d in
    record { left = (runs cs d).disk; is = l.0; stop = stops_are cs d (sym l.1) }

pub want_front : WantIsFront
want_front w r r' d d' o o' h =
    let l = h.told d refl in
    record {
      left = (runs l.made d).disk;
      is = l.ran.0;
      count = length l.made;
      face = after_is l.made d (sym l.ran.1) ∙ ap (λ (cs : List Call). disk.after_all d.face cs) (sym (ap (λ (cs : List Call). take (length l.made) cs) l.whole ∙ take_front l.made l.left));
    }

pub fuse_cuts : FuseIsCut
fuse_cuts w r r' d d' o o' (Ok x) fuse a l h =
    let off = ((armed_goes_off (calls_in w r d) d fuse a.alive a.none a.armed).0 l).1 in
    absurd (true≢false ((h.told d refl).2.1 ∙ off.stopped))
fuse_cuts w r r' d d' o o' (Err DiskFault) fuse a l h =
    let off = ((armed_goes_off (calls_in w r d) d fuse a.alive a.none a.armed).0 l).1 in
    inr (refl, record { left = (runs (calls_in w r d) d).disk; is = (h.told d refl).0; face = off.left })
fuse_cuts w r r' d d' o o' (Err NoMemory) fuse a l h = inl refl

pub fuse_later : FuseIsLater
fuse_later w r r' d d' o o' fuse a l h = true≢false (sym ((armed_goes_off (calls_in w r d) d fuse a.alive a.none a.armed).1 l) ∙ sym (h.told d refl).1)
