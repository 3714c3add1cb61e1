-- A run that the machine follows is safe.
use Rattle.std.proofs.Common.{◌≡◌, refl, ℕ, suc, List}
use Rattle.vr_header.specs.Names.{root_header}
use Rattle.vr_header.specs.NoCollision.{NoCollision}
use Rattle.vr_msg.specs.declared.output.Output.{Output}
use Rattle.vr_msg.specs.declared.output.Output.TheVariants as output
use Rattle.vr_world.specs.Group.{Played}
use Rattle.vr_world.specs.Safe.{IsBacked, IsHashed, IsOutput, Safe}
use Rattle.law_2_chains.specs.Chains.{Setup}
use Rattle.law_3_outputs.specs.Followed.{IsFollowed, IsSo, by_then}
use Rattle.law_3_outputs.specs.Replied.{IsReplied}
use Rattle.law_3_outputs.proofs.Sets.{get_in}
use Rattle.law_3_outputs.proofs.Log.{is_log, the_log}
use Rattle.law_3_outputs.proofs.Backed.{backed_frame, backed_line, kept_is, one_is}
use Rattle.law_3_outputs.proofs.Justified.{justified}
use Rattle.law_3_outputs.proofs.Replies.{true_reply}

module _ (cluster n : ℕ) (u : Setup) (run : List Played) (x : IsFollowed cluster n u run) (y : IsReplied cluster n u run x) where
  backed_is : (move number : ℕ) (p : Played) (o : Output) → NoCollision (IsHashed run (root_header cluster)) → IsOutput run move number p o → IsSo cluster u run (by_then u (x.group move) p number) (x.group (suc move)) p o → IsBacked cluster n (the_log cluster n u run x) run move number p o
  backed_is move number p (output.Send s) never i so = backed_frame cluster n u run x move number p i.at s.message so.numbered (λ v e. y.offers never (the_log cluster n u run x) (is_log cluster n u run x) move number p s v i.at i.is e)
  backed_is move number p (output.Commit c) never i so = backed_line cluster n u run x move number p i.at never c (get_in p.moved.outputs number (output.Commit c) i.is) so
  backed_is move number p (output.Reply a) never i so = true_reply cluster n u run x y never move number a p i.at i.is
  backed_is move number p (output.Choose l) never i so = justified cluster n u run x move p i.at l so
  backed_is move number p (output.Wait w) never i so = tt
  backed_is move number p (output.Start s) never i so = tt
  backed_is move number p (output.Halted r) never i so = tt
  backed_is move number p (output.Migrated r) never i so = tt
  backed_is move number p output.Done never i so = tt
  backed_is move number p output.KeptOut never i so = tt

  pub safe : Safe cluster n run
  safe = record {
    log = the_log cluster n u run x;
    one = λ view c fits never above h. one_is cluster n u run x view c fits never above h;
    backed = λ move number p o never i. backed_is move number p o never i ((x.carried move p i.at).said number o i.is);
    kept = λ view c fits never above h. kept_is cluster n u run x view c fits never above h;
  }

  -- its log is that of the greatest view that has begun
  pub safe_of_log : (s : Safe cluster n run) × (s.log ≡ the_log cluster n u run x)
  unfolding safe
  safe_of_log = (safe, refl)
