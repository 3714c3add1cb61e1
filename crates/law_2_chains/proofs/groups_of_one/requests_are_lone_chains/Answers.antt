use Rattle.law_2_chains.proofs.LoneRequests.{lone_request}
use Rattle.vr_msg.specs.declared.event.Event.TheVariants as event
use Rattle.law_2_chains.proofs.Tallies.{tallies_of}
use Rattle.law_2_chains.proofs.groups_of_one.requests_are_lone_chains.Goals as goal

pub returns : goal.returns
returns g _ = λ u start i t r f l q quorum x tables hash group names last top free m. lone_request u quorum start i (event.Request q) q t r f l x (tallies_of u start i r tables) hash group names last top free m
