-- Where a message tells its version.
use Rattle.std.proofs.Common.{ℕ, ◌≡◌, refl, ap, ◌∙◌, arith, List, get_or}
use Rattle.std.specs.Prelude.{Some, slice_get}
use Rattle.std.proofs.lemmas.Option.{slice_get-get_or}
use Rattle.vr_header.specs.Spelling.{decoded_header}
use Rattle.vr_msg.specs.declared.frame.Frame.{Frame}
use Rattle.vr_msg.specs.declared.frame.Frame.TheVariants as frame
use Rattle.vr_msg.specs.Spelling.{Spells, frame_header, version_of}
use Rattle.vr_codec.proofs.Decided.{whole_of}
use Rattle.vr_codec.proofs.Fitting.{long_of, no_fault_in}

version_of_frame : (m : Frame) → (frame_header m).version ≡ version_of m
version_of_frame (frame.Request q) = refl
version_of_frame (frame.Reply r) = refl
version_of_frame (frame.Prepare p) = refl
version_of_frame (frame.PrepareOk p) = refl
version_of_frame (frame.Commit c) = refl
version_of_frame (frame.StartViewChange s) = refl
version_of_frame (frame.DoViewChange d) = refl
version_of_frame (frame.StartView v) = refl
version_of_frame (frame.GetView g) = refl
version_of_frame (frame.GetPrepare g) = refl
version_of_frame (frame.GivePrepare g) = refl
version_of_frame (frame.GetBlock g) = refl
version_of_frame (frame.GiveBlock g) = refl
version_of_frame (frame.GetSync g) = refl
version_of_frame (frame.SyncView v) = refl

told_by_header : (b : List ℕ) → get_or b 110 0 ≡ (decoded_header b).version
unfolding decoded_header
told_by_header b = refl

-- the byte is the version of the message that the bytes spell
pub version_there : (m : Frame) (b : List ℕ) → Spells m b → slice_get b 110 ≡ Some (version_of m)
version_there m b s =
    let read = (whole_of m b s).0 in
    let long = long_of b (frame_header m) read in
    let told : get_or b 110 0 ≡ version_of m = told_by_header b ∙ (ap (λ h. h.version) (no_fault_in b (frame_header m) read).1 ∙ version_of_frame m) in
    slice_get-get_or b 110 0 (omega (arith, long)) ∙ ap Some told
