-- Where a message tells its group.
use Rattle.std.proofs.Common.{ℕ, ◌≡◌, ◌≤◌, ◌∙◌, Bool, true, false, eqb, List, length, refl, ap, sym}
use Rattle.std.specs.Prelude.{◌==◌, ◌&&◌}
use Rattle.std.proofs.lemmas.Bool.{both_ways, eq-eqb, eqb-true}
use Rattle.std.specs.Int.{w64}
use Rattle.vr_base.specs.Bytes.{number}
use Rattle.vr_codec.proofs.Decided.{whole_of}
use Rattle.vr_codec.proofs.Fitting.{both, long_of, no_fault_in}
use Rattle.vr_header.specs.Spelling.{decoded_header}
use Rattle.vr_mail.specs.Letters.{IsOfGroup, IsRefused, cluster_of}
use Rattle.vr_msg.specs.Spelling.{Spells, frame_header, version_of}
use Rattle.vr_msg.specs.declared.frame.Frame.{Frame}
use Rattle.vr_msg.specs.declared.frame.Frame.TheVariants as frame

cluster_of_frame : (m : Frame) → (frame_header m).cluster ≡ cluster_of m
cluster_of_frame (frame.Request q) = refl
cluster_of_frame (frame.Reply r) = refl
cluster_of_frame (frame.Prepare p) = refl
cluster_of_frame (frame.PrepareOk p) = refl
cluster_of_frame (frame.Commit c) = refl
cluster_of_frame (frame.StartViewChange s) = refl
cluster_of_frame (frame.DoViewChange d) = refl
cluster_of_frame (frame.StartView v) = refl
cluster_of_frame (frame.GetView g) = refl
cluster_of_frame (frame.GetPrepare g) = refl
cluster_of_frame (frame.GivePrepare g) = refl
cluster_of_frame (frame.GetBlock g) = refl
cluster_of_frame (frame.GiveBlock g) = refl
cluster_of_frame (frame.GetSync g) = refl
cluster_of_frame (frame.SyncView v) = refl

told_by_header : (b : List ℕ) → number w64 64 b ≡ (decoded_header b).cluster
unfolding decoded_header
told_by_header b = refl

-- the eight bytes are the group of the message that the bytes spell
pub cluster_there : (m : Frame) (b : List ℕ) → Spells m b → number w64 64 b ≡ cluster_of m
cluster_there m b s =
    told_by_header b ∙ (ap (λ h. h.cluster) (no_fault_in b (frame_header m) (whole_of m b s).0).1 ∙ cluster_of_frame m)

-- and they are there
pub cluster_long : (m : Frame) (b : List ℕ) → Spells m b → 128 ≤ length b
cluster_long m b s = long_of b (frame_header m) (whole_of m b s).0

is_one : (n : ℕ) → eqb n n ≡ true
is_one n = eq-eqb n n refl

-- bytes that don't tell this version and group are no message of them
pub not_told : (version cluster : ℕ) (b : List ℕ) (told : Bool) → ((m : Frame) → Spells m b → told ≡ ((version_of m == version) && (cluster_of m == cluster))) → told ≡ false
    → IsRefused version cluster b
not_told version cluster b told tells is m g =
    let e : told ≡ true = tells m g.spelled ∙ rw (g.of_version, g.group, is_one version, is_one cluster) refl in
    both_ways told is e

-- and a message of bytes that do is
pub is_told : (version cluster : ℕ) (b : List ℕ) (told : Bool) → ((m : Frame) → Spells m b → told ≡ ((version_of m == version) && (cluster_of m == cluster))) → told ≡ true
    → (m : Frame) → Spells m b → IsOfGroup version cluster b m
is_told version cluster b told tells is m s =
    let e = both (version_of m == version) (cluster_of m == cluster) (sym (tells m s) ∙ is) in
    record { spelled = s; of_version = eqb-true _ _ e.0; group = eqb-true _ _ e.1 }
