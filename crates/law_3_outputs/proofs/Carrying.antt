-- What is asked of the messages and choose lines of a move, from what a step puts out.
use Rattle.std.proofs.Common.{ℕ, ◌≡◌, ◌∙◌, sym, ap, subst, List, Some}
use Rattle.std.specs.Prelude.{All}
use Rattle.vr_header.specs.declared.header.Header.{Header}
use Rattle.vr_msg.specs.declared.frame.Frame.{Frame}
use Rattle.vr_msg.specs.declared.frame.Frame.TheVariants as frame
use Rattle.vr_msg.specs.declared.output.Chosen.{Chosen}
use Rattle.vr_base.specs.Groups.{quorums_of}
use Rattle.vr_msg.specs.declared.event.Event.{Event}
use Rattle.vr_msg.specs.Logs.{IsStatement}
use Rattle.law_1_machine.specs.Members as machine
use Rattle.vr_world.specs.Group.{Played}
use Rattle.law_3_outputs.specs.Picked.{IsChosenBy}
use Rattle.vr_rules.specs.Laws.{IsEvent, IsPresentFrame}
use Rattle.vr_rules.specs.Replica.{Replica, version}
use Rattle.law_2_chains.specs.Chains.{Setup}
use Rattle.law_2_chains.specs.Choices.{IsMadeFrom}
use Rattle.vr_world.specs.Safe.{actor, all_heard, event_of}
use Rattle.law_3_outputs.specs.Followed.{IsChoiceLine, IsFrom}

pub from_is : (MayAsk : ℕ → Type 0) (old new : Replica) (from : ℕ) (m : Frame) → from ≡ new.index → IsPresentFrame MayAsk old new m → IsFrom from m
from_is MayAsk old new from (frame.Prepare p) e h = e ∙ sym h.0
from_is MayAsk old new from (frame.PrepareOk a) e h = e ∙ sym h.0.replica
from_is MayAsk old new from (frame.Request q) e h = tt
from_is MayAsk old new from (frame.Reply a) e h = tt
from_is MayAsk old new from (frame.Commit c) e h = tt
from_is MayAsk old new from (frame.StartViewChange c) e h = tt
from_is MayAsk old new from (frame.DoViewChange d) e h = tt
from_is MayAsk old new from (frame.StartView v) e h = tt
from_is MayAsk old new from (frame.GetView g) e h = tt
from_is MayAsk old new from (frame.GetPrepare g) e h = tt
from_is MayAsk old new from (frame.GivePrepare g) e h = tt
from_is MayAsk old new from (frame.GetBlock g) e h = tt
from_is MayAsk old new from (frame.GiveBlock g) e h = tt
from_is MayAsk old new from (frame.GetSync g) e h = tt
from_is MayAsk old new from (frame.SyncView v) e h = tt

-- ---- choose lines: the rules' half is a law of every step (steps_choose); the machine's half is asked for

pub choice_line : (u : Setup) (chosen : List (machine.Choice Header)) (p : Played) (e : Event) (r : Replica) (l : Chosen) → actor p l.replica ≡ Some r → event_of p.move ≡ Some e → r.n ≡ u.quorums.n → r.cluster ≡ u.cluster → IsEvent e
    → IsChosenBy e r l → IsMadeFrom chosen e r l → IsChoiceLine u chosen p l
choice_line u chosen p e r l is_of by_event size group came c m = record {
  replica = r;
  is_of = is_of;
  event = e;
  by_event = by_event;
  statements = subst (λ k. All (IsStatement (version r) k) (all_heard l.view e r)) group (c.statements came);
  sizes = c.sizes;
  sizes_are = ap quorums_of (sym size) ∙ c.sizes_are;
  headers = c.headers;
  ends = c.ends;
  log_view = c.log_view;
  commit = c.commit;
  reach = c.reach;
  made = m.made;
  is_made = m.is_made;
  of_view = m.of_view;
  of_log_view = m.of_log_view;
  of_head = m.of_head;
  of_heard = m.of_heard;
  of_log = m.of_log;
}
