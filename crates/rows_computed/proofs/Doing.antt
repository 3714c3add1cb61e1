-- What rules do where a rule's words are easily read otherwise: the order of effects and lines, what is read, and what isn't done.
use Rattle.std.proofs.Common.{ℕ, ◌==◌, ◌≡◌, true, false, List, [], ◌∷◌, ◌++◌, length, map, drop, flat_map, replicate, slice_index_or, is_some, count_by, sum_by, Some, None, codes, refl, if◌then◌else◌}
use Rattle.std.specs.Option.{option_map_or}
use Rattle.vr_base.specs.Replicas.{no_replicas, with_replica, size}
use Rattle.vr_header.specs.declared.header.Header.{Header}
use Rattle.vr_header.specs.declared.operation.Operation.TheVariants.{Register}
use Rattle.vr_header.specs.declared.part.Part.{Part}
use Rattle.vr_header.specs.declared.part.Part.TheVariants.{Here, Lost, Wanted, Unknown, Nothing}
use Rattle.vr_header.specs.Made.{Whole}
use Rattle.vr_header.specs.Names.{no_name}
use Rattle.vr_msg.specs.declared.event.Event.{Event}
use Rattle.vr_msg.specs.declared.event.Event.TheVariants.{Deliver, Tick}
use Rattle.vr_msg.specs.declared.frame.Frame.TheVariants as frame
use Rattle.vr_msg.specs.declared.statement.Statement.{Statement}
use Rattle.vr_text.specs.Text.{letters_of}
use Rattle.vr_rules.specs.Replica.{Replica, last_view}
use Rattle.vr_rules.specs.Steps.{Effect, Write, Rewrite, Save, Mend, Checkpoint, PutBlock, Say, Step, after_all, outputs}
use Rattle.vr_rules.specs.Rules.{react}
use Rattle.rows_computed.proofs.Acting.{header, name, h1, h2, h3, g2, with_parts, in_view, two, primary, backup, changing, settled, at_checkpoint, disk, ask, get, prepare, commit}
use Rattle.rows_computed.proofs.ActingOn.{start_view_change, start_view, get_prepare, give_prepare}
use Rattle.rows_computed.proofs.Plain.{Plain, after_fresh, lines, plain, bare_at, root_name}

-- ---- what is looked at

abbrev pub entry : Header → Whole
entry h = record { header = h; operation = if h.op == 1 then Register else get }

-- a disk with these entries
abbrev pub storing : List Header → Plain
storing hs = after_all plain disk (map (λ h. Write false (entry h)) hs)

abbrev pub both : Plain
both = storing (h1 ∷ h2 ∷ [])

abbrev pub step : Plain → Replica → Event → Step
step f r e = react e plain r f

abbrev pub said : Plain → Replica → Event → List (List ℕ)
said f r e = lines 0 (outputs (step f r e).script)

-- a letter for each effect: an entry is stored or stored again, a header is rewritten, a value is saved or mended, a checkpoint, a
-- block, an output
abbrev pub effect_letter : Effect → List ℕ
effect_letter (Write false e) = codes "w"
effect_letter (Write true e) = codes "a"
effect_letter (Rewrite h) = codes "r"
effect_letter (Save old new) = codes "S"
effect_letter (Mend v) = codes "M"
effect_letter (Checkpoint cluster texts op old) = codes "C"
effect_letter (PutBlock name block) = codes "B"
effect_letter (Say output) = codes "s"

abbrev pub script : Plain → Replica → Event → List ℕ
script f r e = flat_map effect_letter (step f r e).script

abbrev pub letters : Plain → Replica → Event → List ℕ
letters f r e = letters_of (step f r e).replica.parts

-- the lines with the script, or with the letters of the Parts
abbrev pub both_of : Plain → Replica → Event → List (List ℕ) × List ℕ
both_of f r e = (said f r e, script f r e)

abbrev pub parts_of : Plain → Replica → Event → List (List ℕ) × List ℕ
parts_of f r e = (said f r e, letters f r e)

-- ---- idle: what comes from the primary of the view sets it to 0, also where nothing else is done

abbrev idle_after : Replica → Event → ℕ
idle_after r e = (step both (record r { idle = 3 }) e).replica.idle

rested : map (idle_after backup) (prepare 0 0 h2 ∷ prepare 0 0 h3 ∷ prepare 0 0 (header 0 0 4 no_name) ∷ prepare 0 0 g2 ∷ commit 0 0 0 ∷ []) ≡ replicate 5 0
unfolding after_fresh
rested = refl

rested_outside : map (idle_after (at_checkpoint 32 [] 1)) (prepare 0 0 (header 0 0 5 no_name) ∷ prepare 0 0 (header 0 0 97 no_name) ∷ []) ≡ 0 ∷ 0 ∷ []
unfolding after_fresh
rested_outside = refl

not_rested : map (idle_after (in_view 2 2 backup)) (prepare 0 0 h3 ∷ prepare 0 3 h3 ∷ commit 0 0 0 ∷ commit 0 0 3 ∷ []) ≡ replicate 4 3
unfolding after_fresh
not_rested = refl

-- ---- writing: what may be stored already is written again, header first; what is stored isn't

writing : map (λ p. script both (with_parts (Here h1 ∷ p ∷ []) backup) (prepare 0 0 h2)) (Here h2 ∷ Lost h2 ∷ Wanted h2 ∷ Unknown ∷ Nothing ∷ [])
    ≡ codes "s" ∷ codes "as" ∷ codes "ws" ∷ codes "as" ∷ codes "ws" ∷ []
unfolding after_fresh
writing = refl

-- the entry is stored before it is sent or acknowledged
making : script both settled (ask 7 2 get) ≡ codes "wss"
unfolding after_fresh
making = refl

-- ---- the log is asked for before what is committed is applied

abbrev committing : ℕ → Header → Event
committing c h = Deliver (frame.Prepare (record { version = 1; replica = 0; view = 0; commit = c; entry = entry h }))

abbrev heads : ℕ → ℕ → Event
heads h c = Deliver (frame.Commit (record { version = 1; cluster = 0; replica = 0; view = 0; head = h; commit = c }))

asks_first : map (said both backup) (committing 9 (header 0 0 4 no_name) ∷ heads 5 9 ∷ heads 2 9 ∷ heads 2 1 ∷ [])
    ≡ (codes "send 0 1 0 get_view view 0" ∷ codes "commit 1 op 2 view 0 client 7 request 1 get a" ∷ [])
    ∷ (codes "send 0 1 0 get_view view 0" ∷ codes "commit 1 op 2 view 0 client 7 request 1 get a" ∷ [])
    ∷ (codes "commit 1 op 2 view 0 client 7 request 1 get a" ∷ [])
    ∷ []
    ∷ []
unfolding after_fresh
asks_first = refl

-- an entry from below the window tells what is committed
past_tells : said (storing (header 0 0 33 no_name ∷ [])) (with_parts (Here (header 0 0 33 no_name) ∷ []) (at_checkpoint 32 [] 1)) (committing 33 (header 0 0 5 no_name))
    ≡ codes "commit 1 op 33 view 0 client 7 request 32 get a" ∷ []
unfolding after_fresh
past_tells = refl

-- nothing is applied while a block is missing, though the commit number rises
waits_for_blocks : (λ (s : Step). s.replica.commit ∷ s.replica.applied ∷ length s.script ∷ []) (step (storing (header 0 0 33 no_name ∷ [])) (record (with_parts (Here (header 0 0 33 no_name) ∷ []) (at_checkpoint 32 [] 1)) { missing = root_name (bare_at 32) ∷ [] }) (committing 33 (header 0 0 5 no_name)))
    ≡ 33 ∷ 32 ∷ 0 ∷ []
unfolding after_fresh
waits_for_blocks = refl

-- ---- a view is entered and told of, and then what was stated

enters : both_of both backup (start_view_change 0 0 2)
    ≡ (
      codes "send 0 1 0 start_view_change view 2"
          ∷ codes "send 1 1 2 start_view_change view 2"
          ∷ codes "send 2 1 2 do_view_change view 2 log 0 commit 1 head 2 parts h"
          ∷ [],
      codes "Ssss",
    )
unfolding after_fresh
enters = refl

-- a statement of replica 0 for view 2
abbrev states : Statement → Event
states s = Deliver (frame.DoViewChange (record { version = 1; cluster = 0; replica = 0; view = 2; statement = s }))

abbrev stating : ℕ → ℕ → List Part → Statement
stating c h parts = record { log_view = 0; commit = c; head = h; body = record { first = 1; parts = parts } }

-- The choice is told before the log is taken over and saved. Op 1 is committed; of the others those that are stored and read are
-- sent. Replica 2 has lost op 2, which replica 0 has.
begins : both_of (storing (h1 ∷ h3 ∷ [])) (with_parts (Here h1 ∷ Lost h2 ∷ Here h3 ∷ []) (two 2)) (states (stating 2 3 (Here h1 ∷ Here h2 ∷ Here h3 ∷ [])))
    ≡ (
      codes "send 0 2 0 start_view_change view 2"
          ∷ codes "send 1 2 1 start_view_change view 2"
          ∷ codes "choose 2 view 2 log 0 commit 2 head 3 own lh"
          ∷ codes "send 2 2 0 start_view view 2 op 3 commit 2"
          ∷ codes "send 3 2 1 start_view view 2 op 3 commit 2"
          ∷ codes "send 4 2 0 prepare view 2 op 3 made 0 commit 2"
          ∷ codes "send 5 2 1 prepare view 2 op 3 made 0 commit 2"
          ∷ [],
      codes "SsssSssss",
    )
unfolding after_fresh
begins = refl

-- The log that is chosen has to reach down to the own commit number, too: else the choice waits with its end.
cannot_take : said both (two 2) (states (record { log_view = 1; commit = 4; head = 5; body = record { first = 4; parts = Here (header 0 0 4 no_name) ∷ Here (header 0 0 5 (name (header 0 0 4 no_name))) ∷ [] } }))
    ≡ codes "send 0 2 0 start_view_change view 2"
    ∷ codes "send 1 2 1 start_view_change view 2"
    ∷ codes "wait 2 view 2 op 5"
    ∷ []
unfolding after_fresh
cannot_take = refl

-- ---- an entry that is stored and can't be read is lost, and in the same tick it is asked for

unread : parts_of (storing (h1 ∷ [])) backup (get_prepare 0 2 2 (name h2)) ≡ ([], codes "hl")
unfolding after_fresh
unread = refl

unread_at_tick : parts_of (storing (h1 ∷ [])) primary Tick
    ≡ (
      codes "send 0 0 1 commit view 0 op 2 commit 1"
          ∷ codes "send 1 0 2 commit view 0 op 2 commit 1"
          ∷ codes "send 2 0 1 get_prepare op 2 made 0"
          ∷ [],
      codes "hl",
    )
unfolding after_fresh
unread_at_tick = refl

read_at_tick : said both primary Tick
    ≡ codes "send 0 0 1 commit view 0 op 2 commit 1"
    ∷ codes "send 1 0 2 commit view 0 op 2 commit 1"
    ∷ codes "send 2 0 1 prepare view 0 op 2 made 0 commit 1"
    ∷ codes "send 3 0 2 prepare view 0 op 2 made 0 commit 1"
    ∷ []
unfolding after_fresh
read_at_tick = refl

-- the peer that is asked changes where one is asked, and only there
turns : map (λ f. (step f primary Tick).replica.turn) (storing (h1 ∷ []) ∷ both ∷ []) ≡ 1 ∷ 0 ∷ []
unfolding after_fresh
turns = refl

-- each of the others in its turn
peers : map (λ t. said (storing (h1 ∷ [])) (record (with_parts (Here h1 ∷ Lost h2 ∷ []) (two 2)) { turn = t }) Tick) (0 ∷ 1 ∷ [])
    ≡ (codes "send 0 2 0 get_prepare op 2 made 0" ∷ []) ∷ (codes "send 0 2 1 get_prepare op 2 made 0" ∷ []) ∷ []
unfolding after_fresh
peers = refl

turns_back : map (λ t. (step (storing (h1 ∷ [])) (record (with_parts (Here h1 ∷ Lost h2 ∷ []) (two 2)) { turn = t }) Tick).replica.turn) (0 ∷ 1 ∷ []) ≡ 1 ∷ 0 ∷ []
unfolding after_fresh
turns_back = refl

-- ---- a replica alone asks nobody, whatever it lacks

abbrev alone : Replica
alone = with_parts (Here h1 ∷ Lost h2 ∷ []) (record primary { n = 1 })

lacks_alone : map (λ r. said (storing (h1 ∷ [])) r Tick) (alone ∷ record alone { missing = root_name (bare_at 32) ∷ [] } ∷ []) ≡ [] ∷ [] ∷ []
unfolding after_fresh
lacks_alone = refl

-- in a view that isn't started it begins that with what it has stored, all of which is committed then; the choice waits with what it has lost
begins_alone : map (λ p. said both (record (in_view 1 0 (with_parts (Here h1 ∷ p ∷ []) primary)) { n = 1; heard = with_replica no_replicas 0 }) Tick) (Here h2 ∷ Lost h2 ∷ [])
    ≡ (
    codes "choose 0 view 1 log 0 commit 1 head 2 own h"
    ∷ codes "commit 0 op 2 view 0 client 7 request 1 get a"
    ∷ codes "reply 0 client 7 request 1 op 2 absent"
    ∷ []
    )
    ∷ (codes "wait 0 view 1 op 2" ∷ [])
    ∷ []
unfolding after_fresh
begins_alone = refl

-- ---- an entry that comes late is told of, and makes no commit in its step, though a quorum has it

abbrev lacking : Replica → Replica
lacking r = with_parts (Here h1 ∷ Lost h2 ∷ []) r

abbrev acked : Replica → Replica
acked r = record r { ackers = no_replicas ∷ with_replica no_replicas 1 ∷ replicate 62 no_replicas }

late : map (λ r. said (storing (h1 ∷ [])) r (give_prepare 2 h2)) (acked (lacking primary) ∷ lacking backup ∷ lacking changing ∷ [])
    ≡ (codes "send 0 0 1 prepare view 0 op 2 made 0 commit 1" ∷ codes "send 1 0 2 prepare view 0 op 2 made 0 commit 1" ∷ [])
    ∷ (codes "send 0 1 0 prepare_ok view 0 op 2 made 0" ∷ [])
    ∷ []
    ∷ []
unfolding after_fresh
late = refl

-- a primary counts itself only where it has the entry; and it applies no entry that it lacks
abbrev acknowledges : ℕ → Event
acknowledges sender = Deliver (frame.PrepareOk (record { version = 1; cluster = 0; replica = sender; view = 0; op = 2; name = name h2; made = 0 }))

abbrev progress : Replica → ℕ × ℕ
progress r = (r.commit, r.applied)

counts : map (λ (r : Replica). progress (step both r (acknowledges 2)).replica) (primary ∷ lacking primary ∷ acked (lacking primary) ∷ []) ≡ (2, 2) ∷ (1, 1) ∷ (2, 1) ∷ []
unfolding after_fresh
counts = refl

-- ---- taking over a log, Part by Part: what is known to be the same stays, what may have been it is lost, all else is wanted; past
-- the end of a later view's log nothing is known

abbrev e2 : Header
e2 = header 0 1 2 (name h1)

takes : map (λ p. letters both (with_parts (Here h1 ∷ p ∷ Here h3 ∷ []) changing) (start_view 2 2 2 1 (e2 ∷ []))) (Here e2 ∷ Lost e2 ∷ Wanted e2 ∷ Here h2 ∷ Lost h2 ∷ Wanted h2 ∷ Unknown ∷ Nothing ∷ [])
    ≡ codes "hh" ∷ codes "hl" ∷ codes "hw" ∷ codes "hw" ∷ codes "hw" ∷ codes "hw" ∷ codes "hl" ∷ codes "hw" ∷ []
unfolding after_fresh
takes = refl

abbrev k1 : Header
k1 = header 0 0 1 no_name

-- every op above the checkpoint is looked at, also one that is committed; what the log doesn't reach down to stays
takes_all : map (λ lo. letters both (in_view 2 0 backup) (start_view 2 2 2 lo (drop lo (k1 ∷ header 0 0 2 (name k1) ∷ [])))) (0 ∷ 1 ∷ []) ≡ codes "ww" ∷ codes "hw" ∷ []
unfolding after_fresh
takes_all = refl

-- in a view that is started they stay
takes_longer : letters both (with_parts (Here h1 ∷ Nothing ∷ Unknown ∷ Here (header 0 2 4 no_name) ∷ []) (in_view 2 2 backup)) (start_view 2 2 2 1 (h2 ∷ [])) ≡ codes "hwuh"
unfolding after_fresh
takes_longer = refl

-- stored entries above the commit number are acknowledged after the log is saved, and aren't read
acknowledges_stored : both_of disk backup (start_view 2 2 3 0 (h1 ∷ h2 ∷ h3 ∷ [])) ≡ (codes "send 0 1 2 prepare_ok view 2 op 2 made 0" ∷ [], codes "Ss")
unfolding after_fresh
acknowledges_stored = refl

-- ---- ticks: with the fifth a backup enters the next view, and with the tenth who is in a view that isn't started; no view comes
-- after the last

abbrev at_tick : ℕ → Replica → ℕ × ℕ
at_tick idle r = let s = (step both (record r { idle = idle }) Tick).replica in (s.view, s.idle)

enters_next : map (λ i. at_tick i backup) (3 ∷ 4 ∷ []) ++ map (λ i. at_tick i changing) (4 ∷ 8 ∷ 9 ∷ [])
    ++ at_tick 4 (in_view last_view last_view backup) ∷ at_tick 9 (in_view last_view 0 backup) ∷ []
    ≡ (0, 4) ∷ (1, 0) ∷ (2, 5) ∷ (2, 9) ∷ (3, 0) ∷ (last_view, 0) ∷ (last_view, 0) ∷ []
unfolding after_fresh
enters_next = refl

last_is_quiet : script both (record (in_view last_view 0 backup) { idle = 9 }) Tick ≡ []
unfolding after_fresh
last_is_quiet = refl

changing_tick : said both (lacking changing) Tick
    ≡ codes "send 0 1 0 start_view_change view 2"
    ∷ codes "send 1 1 2 start_view_change view 2"
    ∷ codes "send 2 1 2 do_view_change view 2 log 0 commit 1 head 2 parts l"
    ∷ codes "send 3 1 2 get_prepare op 2 made 0"
    ∷ []
unfolding after_fresh
changing_tick = refl

-- ---- what a view change empties: who has acknowledged what, what was stated, who was heard

abbrev counted : Replica → List ℕ
counted r = sum_by size r.ackers ∷ count_by is_some r.statements ∷ size r.heard ∷ []

abbrev busy : Replica → Replica
busy r =
    record (acked r) {
      statements = replicate 3 (Some (stating 0 0 []));
      heard = with_replica (with_replica (with_replica no_replicas 0) 1) 2;
      idle = 9;
    }

abbrev counts_after : Replica → Event → List ℕ
counts_after r e = counted (step both (busy r) e).replica

empties : counts_after backup Tick ∷ counts_after changing Tick ∷ counts_after backup (start_view_change 0 2 1) ∷ counts_after changing (start_view_change 0 2 3) ∷ counts_after backup (start_view 2 2 2 0 (h1 ∷ h2 ∷ [])) ∷ []
    ≡ (0 ∷ 0 ∷ 1 ∷ []) ∷ (0 ∷ 0 ∷ 1 ∷ []) ∷ (0 ∷ 0 ∷ 2 ∷ []) ∷ (0 ∷ 0 ∷ 2 ∷ []) ∷ (0 ∷ 0 ∷ 0 ∷ []) ∷ []
unfolding after_fresh
empties = refl

-- a statement for a later view, with which the choice waits, is kept after the emptying; one that begins the view empties all
keeps_statement : counts_after (in_view 3 3 (lacking (two 2))) (Deliver (frame.DoViewChange (record { version = 1; cluster = 0; replica = 0; view = 5; statement = stating 0 0 (Unknown ∷ []) })))
    ≡ 0 ∷ 1 ∷ 1 ∷ []
unfolding after_fresh
keeps_statement = refl

begins_empty : counts_after (two 2) (states (stating 1 2 (Here h1 ∷ Here h2 ∷ []))) ≡ 0 ∷ 0 ∷ 0 ∷ []
unfolding after_fresh
begins_empty = refl

-- a later statement takes the place of an earlier one of the same replica
abbrev stated_by_0 : Replica → ℕ
stated_by_0 r = option_map_or (λ (s : Statement). s.head) (slice_index_or r.statements 0 None) 0

replaces : stated_by_0 (step both (record (two 2) { view = 2; statements = Some (stating 0 1 (Here h1 ∷ [])) ∷ None ∷ None ∷ []; parts = Here h1 ∷ Unknown ∷ replicate 62 Nothing }) (states (stating 0 2 (Here h1 ∷ Lost h2 ∷ [])))).replica ≡ 2
unfolding after_fresh
replaces = refl
