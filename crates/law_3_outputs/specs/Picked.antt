-- A choose line of a step is of the choice of the rules from what its replica has heard.
use Rattle.std.specs.Prelude.{◌≡◌, List, All, Some}
use Rattle.vr_base.specs.Groups.{quorums_of}
use Rattle.vr_base.specs.declared.table.Quorums.{Quorums}
use Rattle.vr_header.specs.declared.header.Header.{Header}
use Rattle.vr_msg.specs.declared.choice.Choice.TheVariants.{Ends}
use Rattle.vr_msg.specs.declared.event.Event.{Event}
use Rattle.vr_msg.specs.declared.output.Chosen.{Chosen}
use Rattle.vr_msg.specs.Choice.{choice, top_commit, top_view}
use Rattle.vr_msg.specs.Logs.{IsStatement}
use Rattle.vr_rules.specs.Laws.{IsEvent}
use Rattle.vr_rules.specs.Replica.{Replica, version}
use Rattle.vr_rules.specs.Words.{log_end}
use Rattle.vr_world.specs.Safe.{all_heard}

-- of a replica before a step, and its event
pub record IsChosenBy (e : Event) (r : Replica) (l : Chosen) : Type 0 where
  pub place : l.replica ≡ r.index
  -- all that was heard is of logs of the group, of entries that its file takes
  pub statements : IsEvent e → All (IsStatement (version r) r.cluster) (all_heard l.view e r)
  pub sizes : Quorums
  pub sizes_are : quorums_of r.n ≡ Some sizes
  pub headers : List Header
  pub ends : choice sizes (all_heard l.view e r) ≡ Ends headers
  pub log_view : l.log_view ≡ top_view (all_heard l.view e r)
  pub commit : l.commit ≡ top_commit (all_heard l.view e r)
  pub reach : l.head ≡ log_end (top_commit (all_heard l.view e r)) headers
