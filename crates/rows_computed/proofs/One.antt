-- A group of one on a file of version 2: its entries, its steps, and that the names of what it hashes don't collide.
use Rattle.std.proofs.Common.{ℕ, ◌≡◌, inl, inr, arith, refl, sym, ap, ◌∙◌, subst, cond, eqb, get_or, List, [], ◌∷◌, ◌++◌, codes, drop, replicate, Some, true, false}
use Rattle.std.specs.List.{AllByRecursion}
use Rattle.sha2.specs.Sha256.{sha256, first_words, schedule, rounds, compress, hash_after, digest_bytes}
use Rattle.vr_base.specs.Bytes.{IsBytes, bytes16, bytes32, bytes64, name_of}
use Rattle.vr_base.proofs.AreBytes.{IsBytes-name_of}
use Rattle.vr_base.specs.declared.kind.Kind.{Kind}
use Rattle.vr_base.specs.declared.mode.Mode.TheVariants.{Strict}
use Rattle.vr_header.specs.Bodies.{operation_bytes}
use Rattle.vr_header.specs.Made.{Whole}
use Rattle.vr_header.specs.Names.{request_header, root_header}
use Rattle.vr_header.specs.NoCollision.{NoCollision}
use Rattle.vr_header.specs.Same.{same_header}
use Rattle.vr_header.specs.Spelling.{named_bytes}
use Rattle.vr_header.specs.Text.{is_text}
use Rattle.vr_header.specs.declared.command.Command.TheVariants as command
use Rattle.vr_header.specs.declared.header.Header.{Header}
use Rattle.vr_header.specs.declared.operation.Operation.TheVariants.{Register, Put}
use Rattle.vr_header.specs.declared.part.Part.TheVariants.{Here, Nothing}
use Rattle.vr_msg.specs.declared.event.Event.TheVariants as event
use Rattle.vr_state.specs.Folds as state
use Rattle.vr_state.specs.Kv as kv
use Rattle.vr_state.specs.Sessions as sess
use Rattle.vr_rules.specs.Deciding.{first_of, is_in_flight}
use Rattle.vr_rules.specs.Opening.{IsKind, blank, fresh}
use Rattle.vr_rules.specs.Outputs.{messages, send_to_all}
use Rattle.vr_rules.specs.Replica.{Replica, forgetting, head, part_at, version, with_part}
use Rattle.vr_rules.specs.Rules as rules
use Rattle.vr_rules.specs.Rules.{react}
use Rattle.vr_rules.specs.Steps.{Effect, Step, Write, ◌⨾◌, after_all, by, change, does, naming, outputs, quiet, says, times}
use Rattle.vr_rules.specs.Words as words
use Rattle.vr_world.specs.Lying.{Lying, hazards, lying}
use Rattle.vr_world.specs.World.{AsksInVersion, Happening, Host, World, at_member, fresh_world, happens, in_version}
use Rattle.law_4_disks.specs.Worlds.{stepping}
use Rattle.law_6_one_log.specs.Schedules.{IsHashed, IsHashedOf}
use Rattle.rows_computed.proofs.Disks.{IsOfIn, IsTakenIn, PlainIn, entry_in, plain_all_in}
use Rattle.rows_computed.proofs.Entries.{put_name, put_named, register_name, register_named, root_name, root_named}
use Rattle.rows_computed.proofs.Happenings.{one_alone, puts_in_2, registers_in_2}
use Rattle.rows_computed.proofs.Lines.{Hashes, HashesAt, IsText, header, host, line_in, none_left, operation, plain_in_group, root, then_lines}
use Rattle.rows_computed.proofs.Path.{asks_of}
use Rattle.rows_computed.proofs.Steps.{answers, applies}

abbrev pub later_kind : Kind
later_kind = record { mode = Strict; version = 2 }

pub is_later : IsKind later_kind
is_later = (omega arith, omega arith)

-- ---- its entries

abbrev asks_register : List ℕ
asks_register = 159 ∷ 210 ∷ 120 ∷ 110 ∷ 151 ∷ 87 ∷ 163 ∷ 164 ∷ 246 ∷ 95 ∷ 253 ∷ 27 ∷ 148 ∷ 192 ∷ 68 ∷ 206 ∷ []

abbrev first_name : List ℕ
first_name = 62 ∷ 9 ∷ 52 ∷ 204 ∷ 153 ∷ 174 ∷ 28 ∷ 71 ∷ 203 ∷ 102 ∷ 55 ∷ 0 ∷ 198 ∷ 255 ∷ 78 ∷ 143 ∷ []

abbrev asks_put : List ℕ
asks_put = 248 ∷ 50 ∷ 155 ∷ 97 ∷ 132 ∷ 85 ∷ 126 ∷ 34 ∷ 109 ∷ 92 ∷ 30 ∷ 135 ∷ 151 ∷ 101 ∷ 103 ∷ 26 ∷ []

abbrev second_name : List ℕ
second_name = 230 ∷ 238 ∷ 228 ∷ 143 ∷ 223 ∷ 43 ∷ 103 ∷ 85 ∷ 194 ∷ 112 ∷ 55 ∷ 29 ∷ 2 ∷ 220 ∷ 167 ∷ 142 ∷ []

abbrev first_header : Header
first_header = record {
  body = record { 0 = register_name };
  parent = record { 0 = root_name };
  request_name = record { 0 = asks_register };
  cluster = 0;
  client = 7;
  request = 0;
  view = 0;
  op = 1;
  commit = 0;
  size = 129;
  command = command.Entry;
  replica = 0;
  version = 2;
  kind = 0;
  aux = 0;
}

abbrev second_header : Header
second_header = record {
  body = record { 0 = put_name };
  parent = record { 0 = first_name };
  request_name = record { 0 = asks_put };
  cluster = 0;
  client = 7;
  request = 1;
  view = 0;
  op = 2;
  commit = 0;
  size = 134;
  command = command.Entry;
  replica = 0;
  version = 2;
  kind = 0;
  aux = 0;
}

abbrev pub first : Whole
first = record { header = first_header; operation = Register }

abbrev pub second : Whole
second = record { header = second_header; operation = Put (codes "a") (codes "b") }

abbrev pub both : List Whole
both = first ∷ second ∷ []

first_named : name_of (named_bytes first_header) ≡ first_name
unfolding operation_bytes named_bytes bytes16 bytes32 bytes64 name_of sha256 first_words schedule rounds compress hash_after digest_bytes
first_named = refl

asks_register_named : name_of (named_bytes (request_header 2 0 7 0 Register)) ≡ asks_register
unfolding operation_bytes named_bytes bytes16 bytes32 bytes64 name_of sha256 first_words schedule rounds compress hash_after digest_bytes
asks_register_named = refl

asks_put_named : name_of (named_bytes (request_header 2 0 7 1 (Put (codes "a") (codes "b")))) ≡ asks_put
unfolding operation_bytes named_bytes bytes16 bytes32 bytes64 name_of sha256 first_words schedule rounds compress hash_after digest_bytes
asks_put_named = refl

second_named : name_of (named_bytes second_header) ≡ second_name
unfolding operation_bytes named_bytes bytes16 bytes32 bytes64 name_of sha256 first_words schedule rounds compress hash_after digest_bytes
second_named = refl

first_taken : IsTakenIn 2 first
unfolding operation_bytes
first_taken = record {
  whole = record {
    entry = record {
      header = record { command = refl; size = (omega arith, omega arith); view = omega arith; op = (omega arith, omega arith); commit = refl; replica = refl; kind = refl; aux = refl };
      body = record { name = sym register_named; size = refl; first = (λ e. refl, λ e. refl); fits = tt };
    };
    header = record {
      body = refl;
      body_bytes = subst IsBytes register_named (IsBytes-name_of _);
      parent = refl;
      parent_bytes = subst IsBytes root_named (IsBytes-name_of _);
      request_name = refl;
      request_name_bytes = subst IsBytes asks_register_named (IsBytes-name_of _);
      cluster = omega arith;
      client = omega arith;
      request = omega arith;
      view = omega arith;
      op = omega arith;
      commit = omega arith;
      size = (omega arith, omega arith);
      replica = omega arith;
      version = (omega arith, omega arith);
      kind = omega arith;
      aux = omega arith;
    };
  };
  takes = record { most = omega arith; taken = omega arith };
}

second_taken : IsTakenIn 2 second
unfolding operation_bytes is_text bytes16
second_taken = record {
  whole = record {
    entry = record {
      header = record { command = refl; size = (omega arith, omega arith); view = omega arith; op = (omega arith, omega arith); commit = refl; replica = refl; kind = refl; aux = refl };
      body = record { name = sym put_named; size = refl; first = (λ e. absurd cc, λ e. absurd (omega (arith, e))); fits = (refl, refl) };
    };
    header = record {
      body = refl;
      body_bytes = subst IsBytes put_named (IsBytes-name_of _);
      parent = refl;
      parent_bytes = subst IsBytes first_named (IsBytes-name_of _);
      request_name = refl;
      request_name_bytes = subst IsBytes asks_put_named (IsBytes-name_of _);
      cluster = omega arith;
      client = omega arith;
      request = omega arith;
      view = omega arith;
      op = omega arith;
      commit = omega arith;
      size = (omega arith, omega arith);
      replica = omega arith;
      version = (omega arith, omega arith);
      kind = omega arith;
      aux = omega arith;
    };
  };
  takes = record { most = omega arith; taken = omega arith };
}

-- ---- its steps: an entry is stored, committed, applied and answered at once

abbrev pub o0 : Replica
o0 = fresh later_kind 0 1 0

abbrev o1 : Replica
o1 = record o0 { parts = Here first_header ∷ replicate 63 Nothing; commit = 1 }

abbrev pub o2 : Replica
o2 = record o1 { applied = 1; state = (state.applied state.empty first).state }

abbrev o3 : Replica
o3 = record o2 { parts = Here first_header ∷ Here second_header ∷ replicate 62 Nothing; commit = 2 }

abbrev pub o4 : Replica
o4 = record o3 { applied = 2; state = (state.applied (state.applied state.empty first).state second).state }

abbrev pub does_first : List Effect
does_first = Write false first ∷ answers first o1

abbrev pub does_second : List Effect
does_second = Write false second ∷ answers second o3

same_first : same_header first_header first_header ≡ true
unfolding same_header named_bytes bytes16 bytes32 bytes64
same_first = refl

same_second : same_header second_header second_header ≡ true
unfolding same_header named_bytes bytes16 bytes32 bytes64
same_second = refl

applied_first : (d : Lying) → words.apply_entry first lying o1 d ≡ record { replica = o2; script = answers first o1 }
unfolding words.apply_entry ◌⨾◌ quiet change does says by blank after_all state.applied state.answered state.executed sess.checked sess.applied kv.applied
applied_first d = refl

applied_second : (d : Lying) → words.apply_entry second lying o3 d ≡ record { replica = o4; script = answers second o3 }
unfolding words.apply_entry ◌⨾◌ quiet change does says by blank after_all state.applied state.answered state.executed sess.checked sess.applied kv.applied
applied_second d = refl

pub step_first : (d : Lying) → lying.entry (lying.after d (Write false first)) 1 ≡ Some first → react (event.Request registers_in_2) lying o0 d ≡ record { replica = o2; script = does_first }
unfolding rules.react rules.on_request rules.make rules.next_entry is_in_flight sess.checked by first_of blank says send_to_all ◌⨾◌ change quiet does naming words.write forgetting with_part part_at head words.advance words.advanced words.apply times after_all operation_bytes named_bytes bytes16 bytes32 bytes64 name_of sha256 first_words schedule rounds compress hash_after digest_bytes
step_first d reads =
    ap (λ (a : Step). record { replica = a.replica; script = Write false first ∷ (a.script ++ []) })
    (applies lying o1 (lying.after d (Write false first)) first_header first refl refl reads same_first ∙ applied_first (lying.after d (Write false first)))

pub step_second : (d : Lying) → lying.entry (lying.after d (Write false second)) 2 ≡ Some second → react (event.Request puts_in_2) lying o2 d ≡ record { replica = o4; script = does_second }
unfolding rules.react rules.on_request rules.make rules.next_entry is_in_flight sess.checked by first_of blank says send_to_all ◌⨾◌ change quiet does naming words.write forgetting with_part part_at head words.advance words.advanced words.apply times after_all state.applied state.answered state.executed sess.applied kv.applied operation_bytes named_bytes bytes16 bytes32 bytes64 name_of sha256 first_words schedule rounds compress hash_after digest_bytes
step_second d reads =
    ap (λ (a : Step). record { replica = a.replica; script = Write false second ∷ (a.script ++ []) })
    (applies lying o3 (lying.after d (Write false second)) second_header second refl refl reads same_second ∙ applied_second (lying.after d (Write false second)))

-- ---- the worlds

abbrev pub alone : Host Lying → World Lying
alone m = record { n = 1; members = m ∷ []; sent = [] }

abbrev pub d0 : Lying
d0 = hazards.formatted later_kind 0 1 0

pub begins : fresh_world hazards later_kind 1 ≡ alone (host o0 d0)
unfolding fresh_world
begins = refl

goes_first : (d : Lying) → lying.entry (lying.after d (Write false first)) 1 ≡ Some first → (happens hazards (alone (host o0 d)) (AsksInVersion 0 registers_in_2)).world ≡ alone (host o2 (after_all lying d does_first))
unfolding at_member outputs messages blank
goes_first d reads = ap (λ (s : Step). record { n = 1; members = host s.replica (after_all lying d s.script) ∷ []; sent = messages (outputs s.script) }) (step_first d reads)

asks_first : (d : Lying) → Some (stepping (event.Request (in_version (version o0) registers_in_2)) (host o0 d) o0) ≡ Some (stepping (event.Request registers_in_2) (host o0 d) o0)
unfolding blank
asks_first d = asks_of registers_in_2 o0 d refl

asks_second : (d : Lying) → Some (stepping (event.Request (in_version (version o2) puts_in_2)) (host o2 d) o2) ≡ Some (stepping (event.Request puts_in_2) (host o2 d) o2)
unfolding blank
asks_second d = asks_of puts_in_2 o2 d refl

-- ---- what is hashed

abbrev Of : List Effect → Type 0
Of es = AllByRecursion (IsOfIn 2 both) es

pub does_first_of : Of does_first
unfolding blank state.applied state.answered state.executed sess.checked
does_first_of = ((inl refl, first_taken), (tt, (tt, tt)))

pub does_second_of : Of does_second
unfolding blank state.applied state.answered state.executed sess.checked
does_second_of = ((inr (inl refl), second_taken), (tt, (tt, tt)))

pub plain_0 : PlainIn 2 both d0
unfolding fresh_world
plain_0 = plain_in_group later_kind 1 is_later (omega arith) (omega arith) both 0 refl

abbrev pub d1 : Lying
d1 = after_all lying d0 does_first

pub plain_1 : PlainIn 2 both d1
plain_1 = plain_all_in 2 both does_first d0 does_first_of plain_0

pub reads_first : lying.entry (lying.after d0 (Write false first)) 1 ≡ Some first
reads_first = entry_in 2 both false first d0 plain_0 first_taken

pub reads_second : lying.entry (lying.after d1 (Write false second)) 2 ≡ Some second
reads_second = entry_in 2 both false second d1 plain_1 second_taken

line_first : (b : List ℕ) → HashesAt (alone (host o0 d0)) (AsksInVersion 0 registers_in_2) b → IsText both b
line_first b = line_in 2 both (alone (host o0 d0)) (AsksInVersion 0 registers_in_2) (host o0 d0) (react (event.Request registers_in_2) lying o0 d0).script refl (asks_first d0) plain_0 (subst (λ (s : Step). Of s.script) (sym (step_first d0 reads_first)) does_first_of) b

line_second : (b : List ℕ) → HashesAt (alone (host o2 d1)) (AsksInVersion 0 puts_in_2) b → IsText both b
line_second b = line_in 2 both (alone (host o2 d1)) (AsksInVersion 0 puts_in_2) (host o2 d1) (react (event.Request puts_in_2) lying o2 d1).script refl (asks_second d1) plain_1 (subst (λ (s : Step). Of s.script) (sym (step_second d1 reads_second)) does_second_of) b

hashed : Hashes (IsText both) (fresh_world hazards later_kind 1) one_alone
hashed =
    let w0 = alone (host o0 d0) in
    let w1 = alone (host o2 d1) in
    let w2 = (happens hazards w1 (AsksInVersion 0 puts_in_2)).world in
    let h1 : Hashes (IsText both) w1 (drop 1 one_alone) = then_lines (IsText both) w1 w2 (AsksInVersion 0 puts_in_2) [] refl line_second (none_left (IsText both) w2 root) in
    let h0 : Hashes (IsText both) w0 one_alone = then_lines (IsText both) w0 w1 (AsksInVersion 0 registers_in_2) (drop 1 one_alone) (goes_first d0 reads_first) line_first h1 in
    subst (λ (w : World Lying). Hashes (IsText both) w one_alone) (sym begins) h0

-- ---- the names differ in their first byte

abbrev text_by : ℕ → List ℕ
text_by k =
    cond (eqb k 138) (named_bytes (root_header 0))
    (cond (eqb k 62) (named_bytes first_header)
    (cond (eqb k 75) (operation_bytes Register)
    (cond (eqb k 230) (named_bytes second_header)
    (operation_bytes (Put (codes "a") (codes "b"))))))

abbrev by_name : List ℕ → List ℕ
by_name name = text_by (get_or name 0 0)

pub known : (b : List ℕ) → IsText both b → by_name (name_of b) ≡ b
known _ root = ap by_name root_named
known _ (header e (inl i)) = subst (λ (x : Whole). by_name (name_of (named_bytes x.header)) ≡ named_bytes x.header) (sym i) (ap by_name first_named)
known _ (header e (inr (inl i))) = subst (λ (x : Whole). by_name (name_of (named_bytes x.header)) ≡ named_bytes x.header) (sym i) (ap by_name second_named)
known _ (header e (inr (inr i))) = absurd i
known _ (operation e (inl i)) = subst (λ (x : Whole). by_name (name_of (operation_bytes x.operation)) ≡ operation_bytes x.operation) (sym i) (ap by_name register_named)
known _ (operation e (inr (inl i))) = subst (λ (x : Whole). by_name (name_of (operation_bytes x.operation)) ≡ operation_bytes x.operation) (sym i) (ap by_name put_named)
known _ (operation e (inr (inr i))) = absurd i

pub never_of : (w : World Lying) (xs : List Happening) → Hashes (IsText both) w xs → NoCollision (IsHashedOf 0 w xs)
never_of w xs is a b p q same = sym (known a (is a p)) ∙ (ap by_name same ∙ known b (is b q))

pub alone_never : NoCollision (IsHashed (fresh_world hazards later_kind 1) one_alone)
alone_never = never_of (fresh_world hazards later_kind 1) one_alone hashed
