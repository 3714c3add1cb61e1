-- What is so by some messages is so by more; and what counts before an output of a move counts before each later one.
use Rattle.std.proofs.Common.{ℕ, ◌≤◌, inl, inr, List}
use Rattle.vr_header.specs.declared.header.Header.{Header}
use Rattle.vr_msg.specs.declared.frame.Frame.{Frame}
use Rattle.vr_msg.specs.declared.frame.Frame.TheVariants as frame
use Rattle.vr_msg.specs.declared.output.Output.{Output}
use Rattle.vr_msg.specs.declared.output.Output.TheVariants as output
use Rattle.vr_world.specs.Group.{Played}
use Rattle.law_1_machine.specs.Basics.{In}
use Rattle.law_1_machine.specs.Group.{Group}
use Rattle.law_1_machine.specs.Members.{Message}
use Rattle.law_2_chains.specs.Chains.{AsksNothing, AsksNothingFrame, Setup}
use Rattle.law_2_chains.specs.Finished.{AreBacked, IsNumbered, IsTrue}
use Rattle.law_2_chains.specs.Reflecting.{entries_by}
use Rattle.law_2_chains.proofs.Finishing.{committed_more}
use Rattle.law_3_outputs.specs.Followed.{by_then, own_vouches, stored_until}
use Rattle.law_3_outputs.proofs.Sets.{in_left, in_right}
use Rattle.law_3_outputs.proofs.Stored.{own_more, until_later}
use Rattle.law_3_outputs.proofs.Traces.{in_either}

-- ---- by more

module _ (u : Setup) (a b : List (Message Header)) (f : (m : Message Header) → In m a → In m b) where
  pub backed_more : (view commit : ℕ) → AreBacked u a view commit → AreBacked u b view commit
  backed_more view commit h k z l =
      let y = h k z l in
      (y.0, (y.1.0, y.1.1, committed_more u.quorums (entries_by u.hash u.cluster) a b f y.1.0 k y.0 y.1.2))

  numbered_more : (m : Frame) → IsNumbered u a m → IsNumbered u b m
  numbered_more (frame.Prepare p) h = backed_more p.view p.commit h
  numbered_more (frame.Commit c) h = backed_more c.view c.commit h
  numbered_more (frame.StartView v) h = backed_more v.view v.commit h
  numbered_more (frame.SyncView v) h = backed_more v.view v.commit h
  numbered_more (frame.Request q) h = tt
  numbered_more (frame.Reply r) h = tt
  numbered_more (frame.PrepareOk p) h = tt
  numbered_more (frame.StartViewChange c) h = tt
  numbered_more (frame.DoViewChange d) h = tt
  numbered_more (frame.GetView g) h = tt
  numbered_more (frame.GetPrepare g) h = tt
  numbered_more (frame.GivePrepare g) h = tt
  numbered_more (frame.GetBlock g) h = tt
  numbered_more (frame.GiveBlock g) h = tt
  numbered_more (frame.GetSync g) h = tt

  pub true_by_more : (sent : List (Message Header)) (o : Output) → IsTrue u a sent o → IsTrue u b sent o
  true_by_more sent (output.Send s) h = (h.0, numbered_more s.message h.1)
  true_by_more sent (output.Commit c) h =
      let y = h.is in
      record { view = h.view; number = h.number; is = (y.0, y.1, committed_more u.quorums (entries_by u.hash u.cluster) a b f y.0 h.number c.entry.header y.2) }
  true_by_more sent (output.Reply r) h = tt
  true_by_more sent (output.Choose l) h = tt
  true_by_more sent (output.Wait w) h = tt
  true_by_more sent (output.Start s) h = tt
  true_by_more sent (output.Halted r) h = tt
  true_by_more sent (output.Migrated r) h = tt
  true_by_more sent output.Done h = tt
  true_by_more sent output.KeptOut h = tt

-- what asks nothing is so by whatever counts
numbered_free : (u : Setup) (before : List (Message Header)) (m : Frame) → AsksNothingFrame m → IsNumbered u before m
numbered_free u before (frame.Prepare p) h = absurd h
numbered_free u before (frame.Commit c) h = absurd h
numbered_free u before (frame.StartView v) h = absurd h
numbered_free u before (frame.SyncView v) h = absurd h
numbered_free u before (frame.Request q) h = tt
numbered_free u before (frame.Reply r) h = tt
numbered_free u before (frame.PrepareOk p) h = tt
numbered_free u before (frame.StartViewChange c) h = tt
numbered_free u before (frame.DoViewChange d) h = tt
numbered_free u before (frame.GetView g) h = tt
numbered_free u before (frame.GetPrepare g) h = tt
numbered_free u before (frame.GivePrepare g) h = tt
numbered_free u before (frame.GetBlock g) h = tt
numbered_free u before (frame.GiveBlock g) h = tt
numbered_free u before (frame.GetSync g) h = tt

pub true_free : (u : Setup) (a b sent : List (Message Header)) (o : Output) → AsksNothing o → IsTrue u a sent o → IsTrue u b sent o
true_free u a b sent (output.Send s) free h = (h.0, numbered_free u b s.message free)
true_free u a b sent (output.Commit c) free h = absurd free
true_free u a b sent (output.Reply r) free h = tt
true_free u a b sent (output.Choose l) free h = tt
true_free u a b sent (output.Wait w) free h = tt
true_free u a b sent (output.Start s) free h = tt
true_free u a b sent (output.Halted r) free h = tt
true_free u a b sent (output.Migrated r) free h = tt
true_free u a b sent output.Done free h = tt
true_free u a b sent output.KeptOut free h = tt

-- what counts before an output counts before each later one
pub then_more : (u : Setup) (s : Group Header) (p : Played) (number more : ℕ) → number ≤ more → (m : Message Header) → In m (by_then u s p number) → In m (by_then u s p more)
then_more u s p number more l m h =
    elim (in_either s.sent (own_vouches u (stored_until p number)) m h) [
      | inl old ↦ in_left s.sent (own_vouches u (stored_until p more)) m old
      | inr new ↦ in_right s.sent (own_vouches u (stored_until p more)) m (own_more u (stored_until p number) (stored_until p more) (until_later p number more l) m new)
    ]
