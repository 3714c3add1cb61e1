-- As whom a message speaks.
use Rattle.std.proofs.Common.{ℕ, ◌≡◌, ◌∙◌, List, Option, Some, None, Result, Ok, Err, refl, ap, sym}
use Rattle.vr_codec.proofs.Decided.{whole_of}
use Rattle.vr_header.specs.Spelling.{decoded}
use Rattle.vr_header.specs.declared.header.Header.{Header}
use Rattle.vr_header.specs.declared.header.HeaderFault.{HeaderFault}
use Rattle.vr_msg.specs.Spelling.{Spells, frame_header}
use Rattle.vr_msg.specs.declared.frame.Frame.{Frame}
use Rattle.vr_msg.specs.declared.frame.Frame.TheVariants as frame
use Rattle.vr_stream.specs.Speaking.{speaker, spoken}

by_header : (m : Frame) → spoken (frame_header m).command (frame_header m).replica ≡ speaker m
by_header (frame.Request x) = refl
by_header (frame.Reply x) = refl
by_header (frame.Prepare x) = refl
by_header (frame.PrepareOk x) = refl
by_header (frame.Commit x) = refl
by_header (frame.StartViewChange x) = refl
by_header (frame.DoViewChange x) = refl
by_header (frame.StartView x) = refl
by_header (frame.GetView x) = refl
by_header (frame.GetPrepare x) = refl
by_header (frame.GivePrepare x) = refl
by_header (frame.GetBlock x) = refl
by_header (frame.GiveBlock x) = refl
by_header (frame.GetSync x) = refl
by_header (frame.SyncView x) = refl

pub told : (m : Frame) (b : List ℕ) (h : Header) → Spells m b → decoded b ≡ Ok h → spoken h.command h.replica ≡ speaker m
told m b h s e = let is : h ≡ frame_header m = (let both : Ok h ≡ Ok (frame_header m) = sym e ∙ (whole_of m b s).0 in cc) in rw is (by_header m)

pub untold : (m : Frame) (b : List ℕ) (f : HeaderFault) → Spells m b → decoded b ≡ Err f → None ≡ speaker m
untold m b f s e = absurd (let clash : Err f ≡ Ok (frame_header m) = sym e ∙ (whole_of m b s).0 in cc)
