-- What the replica of a group of one has stored above its checkpoint, and in which view: that is what it has for the acknowledgements of
-- others. What is up to the checkpoint is committed already.
use Rattle.std.specs.Prelude.{ℕ, suc, zero, ◌+◌, ◌==◌, ◌&&◌, Bool, false, nat_lt, List, [], ◌∷◌, ◌++◌, map, filter, filter_map, take, slice_get, Option, Some, None, if◌then◌else◌}
use Rattle.std.specs.Option.{option_map_or}
use Rattle.vr_header.specs.declared.header.Header.{Header}
use Rattle.vr_header.specs.declared.part.Part.{Part}
use Rattle.vr_header.specs.declared.part.Part.TheVariants.{Here}
use Rattle.vr_header.specs.Same.{same_header}
use Rattle.vr_super.specs.Copies.{SuperValue}
use Rattle.vr_rules.specs.Opening.{listed}
use Rattle.vr_rules.specs.Replica.{Replica, parts_from}
use Rattle.vr_rules.specs.Steps.{Effect, Save, Say, Write}
use Rattle.vr_world.specs.Commitment.{Stored}
use Rattle.vr_world.specs.Group.{Cuts, Group, Member, Move, MigratesCut, Played, RecoversCut}

abbrev pub here_header : Part → Option Header
here_header (Here h) = Some h
here_header _ = None

-- what it knows to be stored above its checkpoint
abbrev pub here_in : Replica → List Header
here_in r = filter_map here_header (parts_from r (r.checkpoint + 1))

-- a value names this header above its checkpoint
abbrev pub names : SuperValue → Header → Bool
names v h = nat_lt v.fields.checkpoint h.op && option_map_or (same_header h) (listed v h.op) false

-- what is stored counts for the view of the value that was saved last, where the log is that view's
abbrev pub in_view : SuperValue → List Header → List Stored
in_view v hs = if v.fields.view == v.fields.log_view then map (λ h. record { view = v.fields.view; header = h }) hs else []

-- With this value saved last, and these stored: what comes to count by effects that were finished. A Write does when it is; and when a value
-- is saved, what is stored of what it names: not what was above the end of the log that was taken over with it.
unfoldable pub stored_by : SuperValue → List Header → List Effect → List Stored
stored_by v hs [] = []
stored_by v hs (Write again e ∷ es) = in_view v (e.header ∷ []) ++ stored_by v (e.header ∷ hs) es
stored_by v hs (Save old new ∷ es) = in_view new (filter (names new) hs) ++ stored_by new (filter (names new) hs) es
stored_by v hs (_ ∷ es) = stored_by v hs es

-- a member, by the effects that it then finished: what counts from the beginning on, and what comes to; nothing of a stopped one
abbrev pub stored_at : Member → List Effect → List Stored
stored_at m es = option_map_or (λ (r : Replica). in_view m.last (here_in r) ++ stored_by m.last (here_in r) es) m.replica []

-- the only member of a group
abbrev pub stored_from : Group → List Effect → List Stored
stored_from g es = option_map_or (λ (m : Member). stored_at m es) (slice_get g.members 0) []

-- the effects of a move that were finished
abbrev pub done_in : Move → List Effect → List Effect
done_in (Cuts at arrival e disk effects) es = take effects es
done_in (RecoversCut at value disk effects) es = take effects es
done_in (MigratesCut at value effects) es = take effects es
done_in _ es = es

-- those before the output of this number
unfoldable pub until_said : ℕ → List Effect → List Effect
until_said number [] = []
until_said zero (Say o ∷ es) = []
until_said (suc number) (Say o ∷ es) = Say o ∷ until_said number es
until_said number (e ∷ es) = e ∷ until_said number es

abbrev pub stored_of : Played → List Stored
stored_of p = stored_from p.before (done_in p.move p.moved.script)

-- all of a run
unfoldable pub run_stored : List Played → List Stored
run_stored [] = []
run_stored (p ∷ ps) = stored_of p ++ run_stored ps
