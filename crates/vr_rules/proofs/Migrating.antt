-- The value with which a file becomes one of version 2.
use Rattle.std.proofs.Common.{ℕ, ◌+◌, ◌-◌, ◌^◌, ◌≤◌, ◌≡◌, arith, refl, List, [], ◌∷◌, length, Bool, true}
use Rattle.std.specs.Prelude.{min, nat_le, nat_lt, ◌&&◌, ◌==◌}
use Rattle.std.proofs.lemmas.Bool.{and_from, and_parts, le-leb, leb-true}
use Rattle.vr_base.specs.Groups.{is_size}
use Rattle.vr_base.proofs.Members.{is_sized, least_of, sized}
use Rattle.vr_header.specs.declared.header.Header.{Header}
use Rattle.vr_header.specs.Made.{is_entry_header}
use Rattle.vr_super.specs.declared.fields.Fields.{Fields}
use Rattle.vr_super.specs.Copies.{SuperValue, IsGood, are_listed, first_op, good_count, good_fields, good_root, good_window, is_listed}
use Rattle.vr_rules.specs.Migrating.{migrated}
use Rattle.vr_rules.specs.Own.{IsOwnValue}

-- the numbers of a value, in a file of version 2
abbrev moved_to : ℕ → Fields → Fields
moved_to sequence f = record f { version = 2; sequence = sequence }

-- what is of the file's version or of an earlier one stays so
listed_so : (sequence : ℕ) (f : Fields) (op : ℕ) (h : Header) → f.version ≤ 2 → is_listed f op h ≡ true → is_listed (moved_to sequence f) op h ≡ true
unfolding is_listed
listed_so sequence f op h few e =
    let in_view : Bool = nat_le h.view f.log_view in
    let entry = and_parts (is_entry_header h) ((h.op == op) && ((h.cluster == f.cluster) && (in_view && nat_le h.version f.version))) e in
    let at_op = and_parts (h.op == op) ((h.cluster == f.cluster) && (in_view && nat_le h.version f.version)) entry.1 in
    let of_group = and_parts (h.cluster == f.cluster) (in_view && nat_le h.version f.version) at_op.1 in
    let last = and_parts in_view (nat_le h.version f.version) of_group.1 in
    let earlier = leb-true h.version f.version last.1 in
    and_from (is_entry_header h) _ entry.0 (and_from (h.op == op) _ at_op.0 (and_from (h.cluster == f.cluster) _ of_group.0 (and_from in_view _ last.0 (le-leb h.version 2 (omega (arith, earlier, few))))))

all_listed : (sequence : ℕ) (f : Fields) (op : ℕ) (hs : List Header) → f.version ≤ 2 → are_listed f op hs ≡ true → are_listed (moved_to sequence f) op hs ≡ true
unfolding are_listed
all_listed sequence f op [] few e = refl
all_listed sequence f op (h ∷ hs) few e =
    let p = and_parts (is_listed f op h) (are_listed f (op + 1) hs) e in
    and_from (is_listed (moved_to sequence f) op h) (are_listed (moved_to sequence f) (op + 1) hs) (listed_so sequence f op h few p.0) (all_listed sequence f (op + 1) hs few p.1)

-- a group of a file of any version has few enough members, and not too few, for one of version 2
size_so : (version n : ℕ) → is_size version n ≡ true → is_size 2 n ≡ true
size_so version n e = let s = sized version n e in let l = least_of version in is_sized 2 n (omega (arith, s.0, l.0)) s.1

fields_so : (sequence : ℕ) (f : Fields) (count : ℕ) → good_fields f count ≡ true → good_fields (moved_to sequence f) count ≡ true
unfolding good_fields
fields_so sequence f count e =
    let place : Bool = nat_lt f.replica f.n && (nat_le f.log_view f.view && nat_lt f.log_view (2 ^ 32 - 1)) in
    let rest : Bool = good_window f && (good_root f && good_count f count) in
    let whole = and_parts (is_size f.version f.n && place) rest e in
    let member = and_parts (is_size f.version f.n) place whole.0 in
    and_from (is_size 2 f.n && place) rest (and_from (is_size 2 f.n) place (size_so f.version f.n member.0) member.1) whole.1

-- it makes a good copy
pub migrated_good : (v : SuperValue) → IsGood v → IsGood (migrated v)
migrated_good v h =
    let f = v.fields in
    let n = h.numbers in
    let sequence : ℕ = min (f.sequence + 1) (2 ^ 64 - 1) in
    record {
      numbers = record {
        sequence = omega arith;
        cluster = n.cluster;
        view = n.view;
        log_view = n.log_view;
        checkpoint = n.checkpoint;
        root_address = n.root_address;
        root_name = n.root_name;
        root_name_bytes = n.root_name_bytes;
        commit = n.commit;
        head = n.head;
        replica = n.replica;
        n = n.n;
        version = (omega arith, omega arith);
      };
      fields = fields_so sequence f (length v.headers) h.fields;
      each = h.each;
      listed = all_listed sequence f (first_op f (length v.headers)) v.headers n.version.1 h.listed;
    }

-- and is this replica's
pub migrated_own : (cluster n index : ℕ) (v : SuperValue) → IsOwnValue cluster n index v.fields.version v → IsOwnValue cluster n index 2 (migrated v)
migrated_own cluster n index v h = record { cluster = h.cluster; n = h.n; index = h.index; version = refl }
