-- What may be said stays so, while the replica reads, learns, applies and moves its checkpoint.
use Rattle.std.proofs.Common.{ℕ, ◌%◌, ◌≤◌, ◌≡◌, ◌∙◌, inl, inr, arith, false, List, Option, Some}
use Rattle.vr_header.specs.declared.header.Header.{Header}
use Rattle.vr_msg.specs.declared.frame.Frame.{Frame}
use Rattle.vr_msg.specs.declared.frame.Frame.TheVariants as frame
use Rattle.vr_msg.specs.declared.output.Output.{Output}
use Rattle.vr_msg.specs.declared.output.Output.TheVariants as output
use Rattle.law_1_machine.specs.Group.{Held}
use Rattle.law_1_machine.specs.Members.{Memory, Message}
use Rattle.law_1_machine.specs.Parts.{header, denied}
use Rattle.law_2_chains.specs.Chains.{Setup, Every, MayVouch, MayStart, MayBeSent, MayBeSaid, AsksNothingFrame, AsksNothing}
use Rattle.law_2_chains.proofs.Scripts.{every_map}

-- m' comes after m in one step, once the last view, log and entry are there
pub record Later (m m' : Memory Header) (slots slots' : ℕ → Option Header) : Type 0 where
  pub view : m'.view ≡ m.view
  pub log_view : m'.log_view ≡ m.log_view
  pub checkpoint : m.checkpoint ≤ m'.checkpoint
  pub commit : m.commit ≤ m'.commit
  pub reach : m'.head ≡ m.head
  pub known : (k : ℕ) (h : Header) → header (m.parts k) ≡ Some h → header (m'.parts k) ≡ Some h
  pub undenied : (k : ℕ) → denied (m.parts k) ≡ false → denied (m'.parts k) ≡ false
  pub slot : (s : ℕ) → slots' s ≡ slots s

held_later : (m m' : Memory Header) (slots slots' : ℕ → Option Header) (k : ℕ) (h : Header) → Later m m' slots slots' → Held slots m.parts m.checkpoint k h → Held slots' m'.parts m'.checkpoint k h
held_later m m' slots slots' k h f (inl low) = let c = f.checkpoint in inl (omega arith)
held_later m m' slots slots' k h f (inr p) = inr (f.slot (k % 64) ∙ p.0, f.undenied k p.1)

vouch_later : (m m' : Memory Header) (slots slots' : ℕ → Option Header) (v k : ℕ) (h : Header) → Later m m' slots slots' → MayVouch m slots v k h → MayVouch m' slots' v k h
vouch_later m m' slots slots' v k h f x = record {
  in_view = f.view ∙ x.in_view;
  of_log = f.log_view ∙ x.of_log;
  known = f.known k h x.known;
  held = held_later m m' slots slots' k h f x.held;
}

start_later : (m m' : Memory Header) (slots slots' : ℕ → Option Header) (v lo top c : ℕ) (hs : ℕ → Option Header) → Later m m' slots slots' → MayStart m v lo top c hs → MayStart m' v lo top c hs
start_later m m' slots slots' v lo top c hs f x =
    let up = f.commit in
    let backed = x.backed in
    record {
      in_view = f.view ∙ x.in_view;
      of_log = f.log_view ∙ x.of_log;
      reach = f.reach ∙ x.reach;
      backed = omega arith;
      known = λ k h e. let y = x.known k h e in (y.0, y.1, f.known k h y.2);
      whole = x.whole;
    }

module _ (u : Setup) (sent : List (Message Header)) (i : ℕ) (m m' : Memory Header) (slots slots' : ℕ → Option Header) (f : Later m m' slots slots') where
  sent_later : (x : Frame) → MayBeSent u i m slots x → MayBeSent u i m' slots' x
  sent_later (frame.Request q) h = tt
  sent_later (frame.Reply a) h = tt
  sent_later (frame.Prepare p) h = let up = f.commit in let c = h.3 in (h.0, h.1, vouch_later m m' slots slots' p.view p.entry.header.op p.entry.header f h.2, omega arith)
  sent_later (frame.PrepareOk a) h = let y = h.1 in (h.0, (y.0, y.1, vouch_later m m' slots slots' a.view a.op y.0 f y.2))
  sent_later (frame.Commit c) h = let up = f.commit in let b = h.3 in (h.0, f.view ∙ h.1, f.log_view ∙ h.2, omega arith)
  sent_later (frame.StartViewChange c) h = tt
  sent_later (frame.DoViewChange d) h = absurd h
  sent_later (frame.StartView v) h = (h.0, start_later m m' slots slots' _ _ _ _ _ f h.1)
  sent_later (frame.GetView g) h = tt
  sent_later (frame.GetPrepare g) h = tt
  sent_later (frame.GivePrepare g) h = tt
  sent_later (frame.GetBlock g) h = tt
  sent_later (frame.GiveBlock g) h = tt
  sent_later (frame.GetSync g) h = tt
  sent_later (frame.SyncView v) h = absurd h

  said_later : (o : Output) → MayBeSaid u sent i m slots o → MayBeSaid u sent i m' slots' o
  said_later (output.Send s) h = sent_later s.message h
  said_later (output.Commit c) h = h
  said_later (output.Reply a) h = tt
  said_later (output.Choose l) h = tt
  said_later (output.Wait w) h = tt
  said_later (output.Start s) h = tt
  said_later (output.Halted r) h = tt
  said_later (output.Migrated r) h = tt
  said_later output.Done h = tt
  said_later output.KeptOut h = tt

  pub ready_later : (os : List Output) → Every (MayBeSaid u sent i m slots) os → Every (MayBeSaid u sent i m' slots') os
  ready_later os h = every_map (MayBeSaid u sent i m slots) (MayBeSaid u sent i m' slots') os said_later h

-- what asks nothing may be said in any case
module _ (u : Setup) (sent : List (Message Header)) (i : ℕ) (m : Memory Header) (slots : ℕ → Option Header) where
  free_sent : (x : Frame) → AsksNothingFrame x → MayBeSent u i m slots x
  free_sent (frame.Request q) h = tt
  free_sent (frame.Reply a) h = tt
  free_sent (frame.Prepare p) h = absurd h
  free_sent (frame.PrepareOk a) h = absurd h
  free_sent (frame.Commit c) h = absurd h
  free_sent (frame.StartViewChange c) h = tt
  free_sent (frame.DoViewChange d) h = absurd h
  free_sent (frame.StartView v) h = absurd h
  free_sent (frame.GetView g) h = tt
  free_sent (frame.GetPrepare g) h = tt
  free_sent (frame.GivePrepare g) h = tt
  free_sent (frame.GetBlock g) h = tt
  free_sent (frame.GiveBlock g) h = tt
  free_sent (frame.GetSync g) h = tt
  free_sent (frame.SyncView v) h = absurd h

  pub free_said : (o : Output) → AsksNothing o → MayBeSaid u sent i m slots o
  free_said (output.Send s) h = free_sent s.message h
  free_said (output.Commit c) h = absurd h
  free_said (output.Reply a) h = tt
  free_said (output.Choose l) h = tt
  free_said (output.Wait w) h = tt
  free_said (output.Start s) h = tt
  free_said (output.Halted r) h = tt
  free_said (output.Migrated r) h = tt
  free_said output.Done h = tt
  free_said output.KeptOut h = tt

  pub free_ready : (os : List Output) → Every AsksNothing os → Every (MayBeSaid u sent i m slots) os
  free_ready os h = every_map AsksNothing (MayBeSaid u sent i m slots) os free_said h
