-- What a replica finds when it is opened, and what it does then.
use Rattle.vr_base.specs.Kinds.{strict}
use Rattle.std.proofs.Common.{ℕ, ◌+◌, ◌-◌, ◌^◌, ◌%◌, ◌≡◌, List, [], ◌∷◌, ◌++◌, map, flat_map, slice_set, Option, Some, None, codes, refl}
use Rattle.std.specs.Option.{option_map_or}
use Rattle.vr_header.specs.declared.header.Header.{Header}
use Rattle.vr_header.specs.Made.{Whole}
use Rattle.vr_header.specs.Names.{no_name}
use Rattle.vr_super.specs.Copies.{SuperValue}
use Rattle.vr_text.specs.Text.{letters_of}
use Rattle.vr_rules.specs.Replica.{last_view, header_at}
use Rattle.vr_rules.specs.Steps.{Step, outputs}
use Rattle.vr_rules.specs.Opening.{opened}
use Rattle.rows_computed.proofs.Acting.{header, name, h1}
use Rattle.rows_computed.proofs.Doing.{entry, effect_letter}
use Rattle.rows_computed.proofs.Plain.{Kept, Plain, after_fresh, formatted, lines, plain, reserved, root_name}

-- ---- disks of replica 1 of three

-- the superblock's numbers, and the headers that it names
abbrev pub value : (view log_view commit head : ℕ) → List Header → SuperValue
value view log_view commit head headers = let first = (formatted strict 0 3 1).value in
    record { fields = record first.fields { view = view; log_view = log_view; commit = commit; head = head }; headers = headers }

abbrev pub having : SuperValue → Plain
having v = record (formatted strict 0 3 1) { value = v }

abbrev with_slot : ℕ → Option Header → Option Whole → Plain → Plain
with_slot op h e f = record f { headers = slice_set f.headers (op % 64) h; entries = slice_set f.entries (op % 64) e }

-- the letters of the Parts with those of the script, and the lines
abbrev pub found : Plain → List ℕ × List ℕ
found f = option_map_or (λ (s : Step). (letters_of s.replica.parts, flat_map effect_letter s.script)) (opened plain f) ([], [])

abbrev said : Plain → List (List ℕ)
said f = option_map_or (λ (s : Step). lines 0 (outputs s.script)) (opened plain f) []

abbrev both : Plain → List (List ℕ) × List ℕ
both f = (said f, option_map_or (λ (s : Step). flat_map effect_letter s.script) (opened plain f) [])

-- ---- one slot: its header sector has the entry's header, another valid one, or none; its prepare is the entry, or it isn't

abbrev pub slots_of : ℕ → Header → Plain → List Plain
slots_of op h f =
    with_slot op (Some h) (Some (entry h)) f
    ∷ with_slot op (Some (reserved op)) (Some (entry h)) f
    ∷ with_slot op None (Some (entry h)) f
    ∷ with_slot op (Some h) None f
    ∷ with_slot op (Some (reserved op)) None f
    ∷ with_slot op None None f
    ∷ []

-- an op that the superblock names, and one that it doesn't
named_op : map found (slots_of 1 h1 (having (value 0 0 0 1 (h1 ∷ []))))
    ≡ (codes "h", codes "Ms") ∷ (codes "h", codes "Mrs") ∷ (codes "h", codes "Mrs") ∷ (codes "l", codes "Ms") ∷ (codes "w", codes "Ms") ∷ (codes "l", codes "Ms") ∷ []
unfolding after_fresh
named_op = refl

unnamed_op : map found (slots_of 1 h1 (having (value 0 0 0 0 [])))
    ≡ (codes "h", codes "Ms") ∷ (codes "h", codes "Mrs") ∷ (codes "h", codes "Mrs") ∷ (codes "l", codes "Ms") ∷ ([], codes "Ms") ∷ (codes "u", codes "Ms") ∷ []
unfolding after_fresh
unnamed_op = refl

-- An entry doesn't fit where another one is named, where its op isn't named and it was made in another view than the last log view,
-- or where it is of another op: then it reads as any other valid header.
other_op : map found (
    slots_of 1 (header 0 1 1 no_name) (having (value 0 0 0 1 (h1 ∷ [])))
    ++ slots_of 1 h1 (having (value 2 2 0 0 [])) ++ with_slot 1 (Some (header 0 0 65 no_name)) (Some (entry (header 0 0 65 no_name))) (having (value 0 0 0 0 [])) ∷ [])
    ≡ (codes "w", codes "Ms") ∷ (codes "w", codes "Ms") ∷ (codes "l", codes "Ms") ∷ (codes "w", codes "Ms") ∷ (codes "w", codes "Ms") ∷ (codes "l", codes "Ms")
    ∷ ([], codes "Ms") ∷ ([], codes "Ms") ∷ (codes "u", codes "Ms") ∷ ([], codes "Ms") ∷ ([], codes "Ms") ∷ (codes "u", codes "Ms")
    ∷ ([], codes "Ms")
    ∷ []
unfolding after_fresh
other_op = refl

-- where header sector and prepare would both fit and differ, the header counts and the entry is lost
abbrev k1 : Header
k1 = header 0 0 1 no_name

abbrev part_found : ℕ → Plain → Option Header
part_found k f = option_map_or (λ (s : Step). header_at s.replica k) (opened plain f) None

abbrev differing : Plain
differing = with_slot 1 (Some k1) (Some (entry h1)) (having (value 0 0 0 0 []))

header_counts : map found (differing ∷ []) ≡ (codes "l", codes "Ms") ∷ []
unfolding after_fresh
header_counts = refl

header_of_it : part_found 1 differing ≡ Some k1
unfolding after_fresh
header_of_it = refl

-- the header of a named op that is lost or wanted is the one named
named_counts : map (part_found 1) (slots_of 1 h1 (having (value 0 0 0 1 (k1 ∷ [])))) ≡ Some k1 ∷ Some k1 ∷ Some k1 ∷ Some k1 ∷ Some k1 ∷ Some k1 ∷ []
unfolding after_fresh
named_counts = refl

-- ---- above the superblock's head, nothing is denied of an op below one that was stored

clouds : map found (
    with_slot 3 (Some (header 0 0 3 no_name)) None (having (value 0 0 0 1 (h1 ∷ [])))
    ∷ with_slot 3 None (Some (entry (header 0 0 3 no_name))) (having (value 0 0 0 1 (h1 ∷ [])))
    ∷ with_slot 3 None None (having (value 0 0 0 1 (h1 ∷ [])))
    ∷ [])
    ≡ (codes "wul", codes "Ms") ∷ (codes "wuh", codes "Mrs") ∷ (codes "wnu", codes "Ms") ∷ []
unfolding after_fresh
clouds = refl

-- ---- a checkpoint: the named ops up to it are stored or lost, by what their prepares read as, and nothing is written for them

abbrev h31 : Header
h31 = header 0 0 31 no_name

abbrev h32 : Header
h32 = header 0 0 32 (name h31)

abbrev kept_of : List ℕ → Kept
kept_of sessions = record { op = 32; texts = record { sessions = sessions; keys = 0 ∷ 0 ∷ [] } }

-- the superblock names it; the disk may not have it
abbrev at_32 : List ℕ → Plain
at_32 sessions = let v = value 0 0 32 32 (h31 ∷ h32 ∷ []) in
    having (record v { fields = record v.fields { checkpoint = 32; root_address = 64; root_name = (root_name (kept_of sessions)).sum } })

abbrev pub with_texts : List ℕ → Plain
with_texts sessions = record (at_32 sessions) { kept = Some (kept_of sessions) }

old_ops : map found (
    with_texts (0 ∷ 0 ∷ [])
    ∷ with_slot 31 (Some (reserved 31)) (Some (entry h31)) (with_slot 32 (Some h32) (Some (entry h31)) (with_texts (0 ∷ 0 ∷ [])))
    ∷ [])
    ≡ (codes "ll", codes "Ms") ∷ (codes "hl", codes "Ms") ∷ []
unfolding after_fresh
old_ops = refl

-- no block; the block; a block whose state doesn't decode
abbrev pub missing : Plain → Option (List ℕ)
missing f = option_map_or (λ (s : Step). Some (map (λ m. m.address) s.replica.missing)) (opened plain f) None

loads : map missing (at_32 (0 ∷ 0 ∷ []) ∷ with_texts (0 ∷ 0 ∷ []) ∷ with_texts (0 ∷ []) ∷ having (value 0 0 0 0 []) ∷ []) ≡ Some (64 ∷ []) ∷ Some [] ∷ Some (64 ∷ []) ∷ Some [] ∷ []
unfolding after_fresh
loads = refl

-- ---- what is done then: replica 1 leads views 1, 4 ..

abbrev one : (view log_view : ℕ) → Plain
one view log_view = with_slot 1 (Some h1) (Some (entry h1)) (having (value view log_view 1 1 (h1 ∷ [])))

-- a backup applies what is committed
opens_backup : both (one 0 0) ≡ (codes "start 1 view 0 log_view 0 commit 1" ∷ codes "commit 1 op 1 view 0 client 7 request 0 register" ∷ [], codes "Mss")
unfolding after_fresh
opens_backup = refl

-- a primary leaves its view, saves that before the start line, and tells it after what it applies; it replies to no one
opens_primary : both (one 4 4)
    ≡ (
      codes "start 1 view 5 log_view 4 commit 1"
          ∷ codes "commit 1 op 1 view 0 client 7 request 0 register"
          ∷ codes "send 0 1 0 start_view_change view 5"
          ∷ codes "send 1 1 2 start_view_change view 5"
          ∷ [],
      codes "MSssss",
    )
unfolding after_fresh
opens_primary = refl

-- in a view that isn't started it saves nothing
opens_changing : both (one 4 3)
    ≡ (
      codes "start 1 view 4 log_view 3 commit 1"
          ∷ codes "commit 1 op 1 view 0 client 7 request 0 register"
          ∷ codes "send 0 1 0 start_view_change view 4"
          ∷ codes "send 1 1 2 start_view_change view 4"
          ∷ [],
      codes "Mssss",
    )
unfolding after_fresh
opens_changing = refl

-- ---- at the ends: a replica past the last view sends nothing, and one without sequence numbers mends, finds its Parts and starts

-- as replica 2, which leads the last view
abbrev as_2 : Plain → Plain
as_2 f = record f { value = record f.value { fields = record f.value.fields { replica = 2 } } }

opens_last : map both (as_2 (one last_view last_view) ∷ one (last_view + 1) last_view ∷ [])
    ≡ (codes "start 2 view 4294967295 log_view 4294967294 commit 1" ∷ codes "commit 2 op 1 view 0 client 7 request 0 register" ∷ [], codes "MSss")
    ∷ (codes "start 1 view 4294967295 log_view 4294967294 commit 1" ∷ codes "commit 1 op 1 view 0 client 7 request 0 register" ∷ [], codes "Mss")
    ∷ []
unfolding after_fresh
opens_last = refl

abbrev with_sequence : ℕ → Plain → Plain
with_sequence sequence f = record f { value = record f.value { fields = record f.value.fields { sequence = sequence } } }

opens_spent : map both (with_slot 1 None (Some (entry h1)) (with_sequence (2 ^ 64 - 255) (one 4 4)) ∷ with_sequence (2 ^ 64 - 255) (one 4 3) ∷ [])
    ≡ (codes "start 1 view 4 log_view 4 commit 1" ∷ [], codes "Mrs")
    ∷ (codes "start 1 view 4 log_view 3 commit 1" ∷ [], codes "Ms")
    ∷ []
unfolding after_fresh
opens_spent = refl

-- what is judged is the value that is opened: a primary with the last number that isn't past the end saves its next view, and goes on
opens_at_the_end : both (with_sequence (2 ^ 64 - 256) (one 4 4))
    ≡ (
      codes "start 1 view 5 log_view 4 commit 1"
          ∷ codes "commit 1 op 1 view 0 client 7 request 0 register"
          ∷ codes "send 0 1 0 start_view_change view 5"
          ∷ codes "send 1 1 2 start_view_change view 5"
          ∷ [],
      codes "MSssss",
    )
unfolding after_fresh
opens_at_the_end = refl
