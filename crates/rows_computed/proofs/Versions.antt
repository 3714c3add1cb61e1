-- Rows by version: a replica hears what has its file's version, what it puts out has that too, and it finds what its file takes.
use Rattle.std.proofs.Common.{ℕ, ◌+◌, ◌≡◌, List, [], ◌∷◌, ◌++◌, map, replicate, Some, codes, refl}
use Rattle.std.specs.List.{flat_map, range_with_len}
use Rattle.vr_base.specs.Bytes.{bytes16, bytes32, bytes64}
use Rattle.vr_header.specs.declared.operation.Operation.TheVariants.{Register}
use Rattle.vr_header.specs.declared.part.Part.TheVariants.{Here, Lost}
use Rattle.vr_msg.specs.declared.event.Event.{Event}
use Rattle.vr_msg.specs.declared.event.Event.TheVariants.{Request, Deliver, Tick}
use Rattle.vr_msg.specs.declared.frame.Frame.{Frame}
use Rattle.vr_msg.specs.declared.frame.Frame.TheVariants as frame
use Rattle.vr_msg.specs.Spelling.{version_of}
use Rattle.vr_rules.specs.Deciding.{number_of}
use Rattle.vr_rules.specs.Outputs.{messages}
use Rattle.vr_rules.specs.Replica.{Replica}
use Rattle.vr_rules.specs.Rules.{rule_for}
use Rattle.vr_rules.specs.Steps.{Effect, Write, outputs}
use Rattle.rows_computed.proofs.Acting.{name, h1, h2, h3, with_parts, in_view, primary, backup, changing, candidate, settled, ask, get, prepare, prepare_ok, commit}
use Rattle.rows_computed.proofs.ActingOn.{start_view_change, do_view_change, start_view, get_view, holder, get_sync, sync_view, logs_end, get_prepare, give_prepare, root, keeping, get_block, give_block}
use Rattle.rows_computed.proofs.Doing.{both, step}
use Rattle.rows_computed.proofs.Opened.{value, having, slots_of, found, with_texts, missing}
use Rattle.rows_computed.proofs.Plain.{Plain, after_fresh, plain, bare_at, root_block}

-- the replica, on a file of this version
abbrev on_file : ℕ → Replica → Replica
on_file v r = record r { saved = record r.saved { fields = record r.saved.fields { version = v } } }

-- the frame, of this version
abbrev framed : ℕ → Frame → Frame
framed v (frame.Request q) = frame.Request (record q { version = v })
framed v (frame.Reply r) = frame.Reply (record r { version = v })
framed v (frame.Prepare p) = frame.Prepare (record p { version = v })
framed v (frame.PrepareOk p) = frame.PrepareOk (record p { version = v })
framed v (frame.Commit c) = frame.Commit (record c { version = v })
framed v (frame.StartViewChange s) = frame.StartViewChange (record s { version = v })
framed v (frame.DoViewChange d) = frame.DoViewChange (record d { version = v })
framed v (frame.StartView s) = frame.StartView (record s { version = v })
framed v (frame.GetView g) = frame.GetView (record g { version = v })
framed v (frame.GetPrepare g) = frame.GetPrepare (record g { version = v })
framed v (frame.GivePrepare g) = frame.GivePrepare (record g { version = v })
framed v (frame.GetBlock g) = frame.GetBlock (record g { version = v })
framed v (frame.GiveBlock g) = frame.GiveBlock (record g { version = v })
framed v (frame.GetSync g) = frame.GetSync (record g { version = v })
framed v (frame.SyncView s) = frame.SyncView (record s { version = v })

-- the event, of this version
abbrev of_version : ℕ → Event → Event
of_version v (Request q) = Request (record q { version = v })
of_version v (Deliver m) = Deliver (framed v m)
of_version v Tick = Tick

-- ---- what is heard

-- which rules apply of events of each kind and of version v, at replicas on files of version f
abbrev rule_at : (f v : ℕ) → Replica → Event → ℕ
rule_at f v r e = number_of (rule_for plain keeping (on_file f r) (of_version v e))

abbrev heard : (f v : ℕ) → List ℕ
heard f v =
    rule_at f v primary (ask 8 0 Register)
    ∷ rule_at f v backup (prepare 0 0 h3)
    ∷ rule_at f v primary (prepare_ok 0 1 0 2 (name h2))
    ∷ rule_at f v backup (commit 0 0 0)
    ∷ rule_at f v backup (start_view_change 0 0 1)
    ∷ rule_at f v candidate (do_view_change 0 0 2)
    ∷ rule_at f v backup (start_view 2 2 2 0 (h1 ∷ h2 ∷ []))
    ∷ rule_at f v (in_view 3 3 primary) (get_view 0 1 2)
    ∷ rule_at f v (in_view 3 3 (holder 0)) (get_sync 0 1 3)
    ∷ rule_at f v backup (sync_view 2 2 logs_end)
    ∷ rule_at f v changing (get_prepare 0 2 2 (name h2))
    ∷ rule_at f v (with_parts (Here h1 ∷ Lost h2 ∷ []) changing) (give_prepare 2 h2)
    ∷ rule_at f v changing (get_block 0 2 64 root.sum)
    ∷ rule_at f v (record changing { missing = root ∷ [] }) (give_block 0 2 64 (root_block (bare_at 32)))
    ∷ []

same_version : heard 1 1 ∷ heard 2 2 ∷ [] ≡ replicate 2 (6 ∷ 12 ∷ 15 ∷ 18 ∷ 20 ∷ 25 ∷ 26 ∷ 27 ∷ 36 ∷ 37 ∷ 28 ∷ 29 ∷ 30 ∷ 31 ∷ [])
unfolding after_fresh
same_version = refl

other_version : heard 1 2 ∷ heard 2 1 ∷ [] ≡ replicate 2 (replicate 14 0)
unfolding after_fresh
other_version = refl

-- ---- what is put out: an entry is made of its request's version, and its prepares have that of the file

abbrev written : Effect → List ℕ
written (Write again e) = e.header.version ∷ []
written _ = []

abbrev made_on : ℕ → List ℕ × List ℕ
made_on v = let script = (step both (on_file v settled) (of_version v (ask 7 2 get))).script in
    (flat_map written script, map (λ s. version_of s.message) (messages (outputs script)))

puts_out : map made_on (1 ∷ 2 ∷ []) ≡ (1 ∷ [], 1 ∷ 1 ∷ []) ∷ (2 ∷ [], 2 ∷ 2 ∷ []) ∷ []
unfolding after_fresh
puts_out = refl

-- ---- what is found

abbrev in_file : ℕ → Plain → Plain
in_file v f = record f { value = record f.value { fields = record f.value.fields { version = v } } }

-- op 1 of an entry of version e, in a file of version f
abbrev slots_found : (f e : ℕ) → List (List ℕ × List ℕ)
slots_found f e = map found (slots_of 1 (record h1 { version = e }) (in_file f (having (value 0 0 0 0 []))))

abbrev fit : List (List ℕ × List ℕ)
fit = (codes "h", codes "Ms") ∷ (codes "h", codes "Mrs") ∷ (codes "h", codes "Mrs") ∷ (codes "l", codes "Ms") ∷ ([], codes "Ms") ∷ (codes "u", codes "Ms") ∷ []

-- an entry of a later version reads as any other valid header, and isn't taken
abbrev unfit : List (List ℕ × List ℕ)
unfit = ([], codes "Ms") ∷ ([], codes "Ms") ∷ (codes "u", codes "Ms") ∷ ([], codes "Ms") ∷ ([], codes "Ms") ∷ (codes "u", codes "Ms") ∷ []

entries_taken : slots_found 1 1 ∷ slots_found 2 1 ∷ slots_found 2 2 ∷ slots_found 1 2 ∷ [] ≡ fit ∷ fit ∷ fit ∷ unfit ∷ []
unfolding after_fresh
entries_taken = refl

-- the text of so many sessions that have only registered, and which of the checkpoint's blocks are missing in a file of version f
abbrev registered : ℕ → List ℕ
registered n = bytes16 n ++ flat_map (λ k. bytes64 (k + 1) ++ (bytes32 0 ++ (bytes64 (k + 1) ++ 1 ∷ []))) (range_with_len 0 n)

states_loaded : missing (in_file 1 (with_texts (registered 32))) ∷ missing (in_file 1 (with_texts (registered 33))) ∷ missing (in_file 2 (with_texts (registered 33))) ∷ []
    ≡ Some [] ∷ Some (64 ∷ []) ∷ Some [] ∷ []
unfolding after_fresh
states_loaded = refl
