-- A plain disk, on which worked rows are computed: it has values and no bytes. Names are made by a cheap checksum.
use Rattle.vr_base.specs.Kinds.{strict}
use Rattle.vr_base.specs.declared.kind.Kind.{Kind}
use Rattle.std.proofs.Common.{ℕ, ◌+◌, ◌-◌, ◌*◌, ◌/◌, ◌%◌, ◌^◌, ◌==◌, ◌&&◌, ◌||◌, nat_lt, nat_le, Bool, true, false, not, List, [], ◌∷◌, ◌++◌, length, map, replicate, take, drop, slice_get, slice_set, slice_index_or, Option, Some, None, fold, if◌then◌else◌}
use Rattle.std.specs.List.{range_with_len}
use Rattle.std.specs.Option.{option_and_then, option_map, option_map_or}
use Rattle.std.specs.Fmt.{digits}
use Rattle.vr_base.specs.Bytes.{bytes16, bytes32, bytes64}
use Rattle.vr_header.specs.declared.command.Command.TheVariants as command
use Rattle.vr_header.specs.declared.header.Header.{Header}
use Rattle.vr_header.specs.declared.operation.Operation.{Operation}
use Rattle.vr_header.specs.Bodies.{operation_bytes, outcome_bytes}
use Rattle.vr_header.specs.Made.{Whole}
use Rattle.vr_header.specs.Names.{no_name}
use Rattle.vr_header.specs.Same.{same_header}
use Rattle.vr_header.specs.Spelling.{named_bytes}
use Rattle.vr_header.specs.Text.{is_text}
use Rattle.vr_msg.specs.declared.output.Output.{Output}
use Rattle.vr_msg.specs.Choice.{choice, named_by, row_end, log_headers}
use Rattle.vr_msg.specs.Normal.{same_sum}
use Rattle.vr_state.specs.Folds as state
use Rattle.vr_state.specs.declared.texts.Texts.{Texts}
use Rattle.vr_state.specs.Front.{byte_from, number_from, piece_from}
use Rattle.vr_state.specs.Table.{table_text, count_from, read_on, decoded}
use Rattle.vr_state.specs.Sessions as sess
use Rattle.vr_state.specs.SessionTexts.{session_text, value_from, outcome_of, outcome_from, numbers_from, session_from}
use Rattle.vr_state.specs.Kv as kv
use Rattle.vr_state.specs.Pairs.{pair_text, pieces_from, pair_from}
use Rattle.vr_state.specs.Fitting.{sessions_fit, keys_fit}
use Rattle.vr_super.specs.Copies.{SuperValue}
use Rattle.vr_lie.specs.declared.fault.Fault.{Fault}
use Rattle.vr_lie.specs.declared.fault.Fault.TheVariants as fault
use Rattle.vr_ckpt.specs.declared.name.Name.{Name}
use Rattle.vr_ckpt.specs.Places as places
use Rattle.vr_ckpt.specs.declared.found.Load.{Load}
use Rattle.vr_ckpt.specs.declared.found.Load.TheVariants.{Loaded, Missing}
use Rattle.vr_text.specs.Text.{numbered, viewed, letters_of, statement_text, prepare_text, prepare_ok_text, commit_text, do_view_change_text, start_view_text, sync_view_text, get_prepare_text, give_prepare_text, sent_text, committed_text, reply_text, chosen_text, waiting_text, started_text, output_text}
use Rattle.vr_rules.specs.Replica.{Replica, part_at, head, run, statement_of, forgetting, with_part}
use Rattle.vr_rules.specs.Steps.{Effect, Write, Rewrite, Save, Mend, Checkpoint, PutBlock, Say, Setting, outputs, after_all, ◌⨾◌, quiet, change, does, says, by, naming, reading, times, each}
use Rattle.vr_rules.specs.Outputs.{send_to_all}
use Rattle.vr_rules.specs.Words.{value_of, save, entered, enter, write, accept, with_entry_at, with_checkpoint, make_checkpoint, apply_entry, apply_next, apply, advanced, advance, learn, is_chain_from, may_take, taken_part, taken, take as take_over, prepare_again, stated, begin_view, try_log, try, speak, resend, ask_peer, ask, with_state, load, jump, jumped, jumped_part, visit, visit_block, visit_place, visit_slot}
use Rattle.vr_rules.specs.Deciding.{first_of, is_in_flight}
use Rattle.vr_rules.specs.Rules.{next_entry, make, on_request, on_prepare, on_prepare_ok, on_commit, on_start_view_change, on_do_view_change, acknowledge_stored, on_start_view, on_get_view, on_get_prepare, on_give_prepare, on_get_block, put_block, on_give_block, on_get_sync, on_sync_view, on_tick, react, rule_for}
use Rattle.vr_rules.specs.Opening.{blank, first_value, recover_op, recover_old, clouded, recover_parts, opening, opened}
use Rattle.vr_rules.specs.Migrating.{migrated}
use Rattle.vr_world.specs.World.{Hazards, Happened, Happening, Asks, at_member, fresh_world, happen}
use Rattle.vr_rules.specs.Outputs.{message_of, messages}

-- ---- names

-- a checksum of one number
unfoldable pub cheap : List ℕ → List ℕ
cheap bytes = fold (λ a b. (a * 31 + b) % 1000003) 7 bytes ∷ []

-- ---- the disk

-- a checkpoint: its op, and the texts of its state
pub record Kept : Type 0 where
  pub op : ℕ
  pub texts : Texts

-- what the superblock opens as, and what reads at each of the 64 slots; a checkpoint, whose root may have gone bad
pub record Plain : Type 0 where
  pub value : SuperValue
  pub headers : List (Option Header)
  pub entries : List (Option Whole)
  pub kept : Option Kept
  pub is_bad : Bool

-- the header of a slot that has no entry yet
abbrev pub reserved : ℕ → Header
reserved slot = record {
  body = no_name;
  parent = no_name;
  request_name = no_name;
  cluster = 0;
  client = 0;
  request = 0;
  view = 0;
  op = slot;
  commit = 0;
  size = 128;
  command = command.Reserved;
  replica = 0;
  version = 1;
  kind = 0;
  aux = 0;
}

unfoldable pub formatted : Kind → ℕ → ℕ → ℕ → Plain
formatted kind cluster n index = record {
  value = first_value kind cluster n index;
  headers = map (λ slot. Some (reserved slot)) (range_with_len 0 64);
  entries = replicate 64 None;
  kept = None;
  is_bad = false;
}

-- ---- a checkpoint is one block, which has its op and its texts

abbrev pub root_block : Kept → List ℕ
root_block k = k.op ∷ length k.texts.sessions ∷ (k.texts.sessions ++ k.texts.keys)

-- a checkpoint without texts
abbrev pub bare_at : ℕ → Kept
bare_at op = record { op = op; texts = record { sessions = []; keys = [] } }

abbrev pub kept_in : List ℕ → Option Kept
kept_in (op ∷ n ∷ bytes) = Some (record { op = op; texts = record { sessions = take n bytes; keys = drop n bytes } })
kept_in _ = None

abbrev pub root_name : Kept → Name
root_name k = record { address = places.root_place k.op; sum = record { 0 = cheap (root_block k) } }

abbrev pub is_block : Name → List ℕ → Bool
is_block name block = same_sum (record { 0 = cheap block }) name.sum

abbrev pub is_root : Plain → Name → Kept → Bool
is_root f name k = not f.is_bad && ((name.address == places.root_place k.op) && is_block name (root_block k))

abbrev pub kept_under : Plain → Name → Option Kept
kept_under f name = option_map_or (λ k. if is_root f name k then Some k else None) f.kept None

abbrev pub loaded : Plain → Name → Load
loaded f name = option_map_or (λ k. Loaded k.texts places.empty) (kept_under f name) (Missing (name ∷ []))

-- ---- what effects leave

abbrev pub with_header : Header → Plain → Plain
with_header h f = record f { headers = slice_set f.headers (h.op % 64) (Some h) }

abbrev pub with_entry : Whole → Plain → Plain
with_entry e f = record f { entries = slice_set f.entries (e.header.op % 64) (Some e) }

abbrev pub after : Plain → Effect → Plain
after f (Write again e) = with_entry e (with_header e.header f)
after f (Rewrite h) = with_header h f
after f (Save old new) = record f { value = new }
after f (Mend v) = record f { value = v }
after f (Checkpoint cluster texts op old) = record f { kept = Some (record { op = op; texts = texts }); is_bad = false }
after f (PutBlock name block) = record f { kept = kept_in block; is_bad = false }
after f (Say output) = f

abbrev pub plain : Setting Plain
plain = record {
  hash = cheap;
  opens = λ f. Some f.value;
  header = λ f slot. slice_index_or f.headers slot None;
  entry = λ f slot. slice_index_or f.entries slot None;
  is_blank = λ f slot. false;
  block = λ f name. option_map_or (λ k. Some (root_block k)) (kept_under f name) None;
  is_block = is_block;
  loaded = loaded;
  save_state = λ cluster texts op old. record { root = root_name (record { op = op; texts = texts }); table = places.empty };
  after = after;
}

-- ---- faults: a damaged sector makes a header, an entry or a root unreadable; no other fault is put in

abbrev pub damaged : ℕ → Plain → Plain
damaged sector f =
    if nat_lt sector 144 then record f { headers = slice_set f.headers (sector - 80) None }
    else (if nat_lt sector 400 then record f { entries = slice_set f.entries ((sector - 144) / 4) None }
    else record f { is_bad = true })

abbrev pub faulted : Plain → Fault → Option Plain
faulted f (fault.Damage sector) = if nat_lt sector 80 then None else Some (damaged sector f)
faulted f _ = None

-- ---- stops: an entry is four sectors and a sync, and a header and a sync; a value is four copies of twenty sectors and a sync.
-- Stops in a checkpoint or a block aren't told apart.

abbrev pub calls : Effect → ℕ
calls (Write again e) = 7
calls (Rewrite h) = 2
calls (Save old new) = 84
calls _ = 0

-- by the code's lowest digit the header is the old one, the new one, or damaged
abbrev pub cut_header : ℕ → Header → Plain → Plain
cut_header code h f =
    if code % 3 == 0 then f
    else (if code % 3 == 1 then with_header h f else record f { headers = slice_set f.headers (h.op % 64) None })

-- a prepare is the old one, the new one where all four sectors are, or torn
abbrev pub cut_prepare : ℕ → ℕ → Whole → Plain → Plain
cut_prepare call code e f =
    if code == 0 then f
    else (if nat_le 3 call && (code % 81 == 40) then with_entry e f
    else record f { entries = slice_set f.entries (e.header.op % 64) None })

-- two copies are enough for the new value; twenty new sectors are the digits of this code
abbrev pub cut_value : ℕ → ℕ → SuperValue → Plain → Plain
cut_value call code new f =
    if nat_le 42 call || ((call == 41) && (code % 3 ^ 20 == 1743392200)) then record f { value = new } else f

abbrev pub cut_effect : ℕ → ℕ → Plain → Effect → Plain
cut_effect call code f (Write false e) =
    if nat_lt call 5 then cut_prepare call code e f else cut_header code e.header (with_entry e f)
cut_effect call code f (Write true e) =
    if nat_lt call 2 then cut_header code e.header f else cut_prepare (call - 2) code e (with_header e.header f)
cut_effect call code f (Rewrite h) = cut_header code h f
cut_effect call code f (Save old new) = cut_value call code new f
cut_effect call code f _ = f

unfoldable pub cut : ℕ → ℕ → Plain → List Effect → Plain
cut call code f [] = f
cut call code f (e ∷ es) = if nat_lt call (calls e) then cut_effect call code f e else cut (call - calls e) code (after f e) es

unfoldable pub count : List Effect → ℕ
count [] = 0
count (e ∷ es) = calls e + count es

-- ---- migrations: each slot's prepare is written in eight sectors at its new place, and all are synced; then the new value is saved

abbrev pub moves : ℕ
moves = 64 * 8 + 1

abbrev pub cut_migration : ℕ → ℕ → SuperValue → Plain → Plain
cut_migration call code v f = if nat_lt call moves then f else cut_value (call - moves) code (migrated v) f

abbrev pub hazards : Hazards Plain
hazards = record {
  setting = plain;
  formatted = formatted;
  count = λ f script. count script;
  cut = cut;
  migration = λ v f. moves + 84;
  migrated = λ v f. record f { value = migrated v };
  migration_cut = cut_migration;
  faulted = faulted;
}

-- ---- rows

abbrev pub asks : ℕ → ℕ → ℕ → Operation → Happening
asks replica client request operation = Asks replica (record { version = 1; cluster = 0; client = client; request = request; operation = operation })

-- the lines of outputs, the messages numbered from m on
unfoldable pub lines : ℕ → List Output → List (List ℕ)
lines m [] = []
lines m (o ∷ os) = output_text m o ∷ lines (m + length (message_of o)) os

-- What happens to a fresh group of n. Whoever computes something of it names this definition, which lists all that is computed with.
unfoldable pub after_fresh : ℕ → List Happening → Happened Plain
unfolding cheap formatted count cut lines digits bytes16 bytes32 bytes64 operation_bytes outcome_bytes is_text byte_from number_from piece_from table_text count_from read_on decoded session_text value_from outcome_of outcome_from numbers_from session_from pair_text pieces_from pair_from same_header named_bytes choice named_by row_end log_headers state.applied state.answered state.executed sess.checked sess.applied sess.oldest sess.without_oldest kv.applied kv.putting kv.getting kv.deleting sessions_fit keys_fit numbered viewed letters_of statement_text prepare_text prepare_ok_text commit_text do_view_change_text start_view_text sync_view_text get_prepare_text give_prepare_text sent_text committed_text reply_text chosen_text waiting_text started_text part_at head run statement_of forgetting with_part outputs after_all ◌⨾◌ quiet change does says by naming reading times each send_to_all value_of save entered enter write accept with_entry_at with_checkpoint make_checkpoint apply_entry apply_next apply advanced advance learn is_chain_from may_take taken_part taken take_over prepare_again stated begin_view try_log try speak resend ask_peer ask with_state load jump jumped jumped_part visit visit_block visit_place visit_slot first_of is_in_flight next_entry make on_request on_prepare on_prepare_ok on_commit on_start_view_change on_do_view_change acknowledge_stored on_start_view on_get_view on_get_prepare on_give_prepare on_get_block put_block on_give_block on_get_sync on_sync_view on_tick react rule_for blank recover_op recover_old clouded recover_parts opening opened messages at_member fresh_world happen
after_fresh n xs = happen hazards (fresh_world hazards strict n) xs

-- its lines
unfoldable pub replayed : ℕ → List Happening → List (List ℕ)
unfolding after_fresh
replayed n xs = lines 0 (after_fresh n xs).outputs

-- something of a replica's disk after it
unfoldable pub stored_there : {X : Type 0} → (Plain → X) → ℕ → ℕ → List Happening → Option X
unfolding after_fresh
stored_there look r n xs = option_map (λ m. look m.disk) (slice_get (after_fresh n xs).world.members r)

-- something of a replica after it; None where that one is stopped
unfoldable pub seen : {X : Type 0} → (Replica → X) → ℕ → ℕ → List Happening → Option X
unfolding after_fresh
seen look r n xs = option_and_then (λ m. option_map look m.replica) (slice_get (after_fresh n xs).world.members r)
