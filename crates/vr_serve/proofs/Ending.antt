-- Causes of an early end, one call after another.
use Rattle.std.proofs.Common.{ℕ, ◌≡◌, ◌≢◌, ◌∙◌, List, [], ◌∷◌, Option, Result, Ok, Err, arith, ap, refl, subst}
use Rattle.vr_base.specs.Causes.{one_more}
use Rattle.vr_disk.specs.Counts.{Caused}
use Rattle.vr_disk.specs.declared.fault.Halt.{Halt}
use Rattle.vr_disk.specs.declared.fault.Halt.TheVariants as halt
use Rattle.vr_edge.specs.Datagrams.{Arrival, Failed}
use Rattle.vr_edge.specs.Told.{Grows}
use Rattle.vr_mail.specs.Letters.{Gives, ReceiveCause}
use Rattle.vr_mail.specs.declared.receiving.ReceiveFault.{ReceiveFault}
use Rattle.vr_mail.specs.declared.receiving.ReceiveFault.TheVariants as received
use Rattle.vr_serve.specs.Causes.{Counts, HasCauses, counts, disk_after, links_after, received_stop, stop_of, writes_after}
use Rattle.vr_serve.specs.declared.stop.Stop.{Stop}
use Rattle.vr_serve.specs.declared.stop.Stop.TheVariants as stop

abbrev stop_in : {T : Type 0} → Result T Stop → Stop
stop_in (Ok t) = stop.Link
stop_in (Err s) = s

pub same_stop : {T : Type 0} (s t : Stop) → ◌≡◌ {A = Result T Stop} (Err s) (Err t) → s ≡ t
same_stop s t e = ap stop_in e

pub causes_none : {T : Type 0} (d w l : ℕ) (t : T) → HasCauses (counts d w l) (counts d w l) (Ok t)
causes_none d w l t = record { disk = refl; write = refl; link = refl; later = omega arith }

-- memory was wanting, and nothing else
pub causes_wanted : {T : Type 0} (d w l : ℕ) → HasCauses {T = T} (counts d w l) (counts d w l) (Err stop.NoMemory)
causes_wanted d w l = record { disk = refl; write = refl; link = refl; later = omega arith }

-- another value is given
pub causes_ok : {S T : Type 0} {b n : Counts} (s : S) (t : T) → HasCauses b n (Ok s) → HasCauses b n (Ok t)
causes_ok s t c = record { disk = c.disk; write = c.write; link = c.link; later = c.later }

-- an error is handed on
pub causes_err : {S T : Type 0} {b n : Counts} (why : Stop) → HasCauses {T = S} b n (Err why) → HasCauses {T = T} b n (Err why)
causes_err stop.Disk c = record { disk = c.disk; write = c.write; link = c.link; later = c.later }
causes_err stop.Link c = record { disk = c.disk; write = c.write; link = c.link; later = c.later }
causes_err stop.Write c = record { disk = c.disk; write = c.write; link = c.link; later = c.later }
causes_err stop.NoMemory c = record { disk = c.disk; write = c.write; link = c.link; later = c.later }

-- what a later call's causes are from the beginning on
pub causes_later : {T : Type 0} (d d' d'' w w' w'' l l' l'' : ℕ) (r : Result T Stop) → d' ≡ d → w' ≡ w → l' ≡ l
    → HasCauses (counts d' w' l') (counts d'' w'' l'') r → HasCauses (counts d w l) (counts d'' w'' l'') r
causes_later d d' d'' w w' w'' l l' l'' r x y z c = record {
  disk = c.disk ∙ ap (disk_after r) x;
  write = c.write ∙ ap (writes_after r) y;
  link = c.link ∙ ap (links_after r) z;
  later = omega (arith, z, c.later);
}

-- what was put out after a step: no disk is called
pub causes_put : {T : Type 0} (d d' w w' l l' : ℕ) (r : Result T Stop) → d' ≡ d
    → HasCauses (counts 0 w l) (counts 0 w' l') r → HasCauses (counts d w l) (counts d' w' l') r
causes_put d d' w w' l l' (Ok t) x c = record { disk = x; write = c.write; link = c.link; later = c.later }
causes_put d d' w w' l l' (Err stop.Disk) x c = absurd (let no : 0 ≡ one_more 0 = c.disk in omega (arith, no))
causes_put d d' w w' l l' (Err stop.Link) x c = record { disk = x; write = c.write; link = c.link; later = c.later }
causes_put d d' w w' l l' (Err stop.Write) x c = record { disk = x; write = c.write; link = c.link; later = c.later }
causes_put d d' w w' l l' (Err stop.NoMemory) x c = record { disk = x; write = c.write; link = c.link; later = c.later }

-- a step that stopped
pub causes_halted : {S T : Type 0} (d d' w l : ℕ) (h : Halt) → Caused {T = S} d d' (Err h) → HasCauses {T = T} (counts d w l) (counts d' w l) (Err (stop_of h))
causes_halted d d' w l halt.DiskFault c = record { disk = c.failed refl; write = refl; link = refl; later = omega arith }
causes_halted d d' w l halt.NoMemory c = record { disk = c.wanted refl; write = refl; link = refl; later = omega arith }

-- a receive that failed
pub causes_received : {S T : Type 0} (d w l l' : ℕ) (f : ReceiveFault) → ReceiveCause {T = S} l l' (Err f) → HasCauses {T = T} (counts d w l) (counts d w l') (Err (received_stop f))
causes_received d w l l' received.Link c = record { disk = refl; write = refl; link = c.failed refl; later = c.later }
causes_received d w l l' received.NoMemory c = record { disk = refl; write = refl; link = c.wanted refl; later = c.later }

-- what is put out after a step makes no call of the disk, so it ends for none
pub put_spares : {T : Type 0} (w w' l l' : ℕ) (r : Result T Stop) (s : Stop) → r ≡ Err s → HasCauses (counts 0 w l) (counts 0 w' l') r → s ≢ stop.Disk
put_spares w w' l l' r s is c e = let no : 0 ≡ one_more 0 = subst (λ x. 0 ≡ disk_after x 0) (is ∙ ap (λ x. Err x) e) c.disk in omega (arith, no)

-- neither does a step call the link
pub halt_unlinked : {T : Type 0} (h : Halt) → ◌≢◌ {A = Result T Stop} (Err (stop_of h)) (Err stop.Link)
halt_unlinked halt.DiskFault e = let clash : stop.Disk ≡ stop.Link = same_stop stop.Disk stop.Link e in cc
halt_unlinked halt.NoMemory e = let clash : stop.NoMemory ≡ stop.Link = same_stop stop.NoMemory stop.Link e in cc

-- a receive that failed is told as such
pub link_failed : (version cluster : ℕ) (f : ReceiveFault) (old new : Option (List Arrival)) (arrival : Arrival) → Grows old new (arrival ∷ [])
    → Gives version cluster arrival (Err f) → received_stop f ≡ stop.Link → Grows old new (Failed ∷ [])
link_failed version cluster received.Link old new arrival grows gives is = subst (λ a. Grows old new (a ∷ [])) gives grows
link_failed version cluster received.NoMemory old new arrival grows gives is = absurd (let clash : stop.NoMemory ≡ stop.Link = is in cc)
