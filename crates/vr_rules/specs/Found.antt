-- What is known of a replica while it is recovered: the Parts that were found so far.
use Rattle.std.specs.Prelude.{ℕ, ◌+◌, ◌-◌, ◌<◌, ◌≤◌, ◌≡◌, true, List, length, slice_get, Some}
use Rattle.vr_header.specs.declared.header.Header.{Header}
use Rattle.vr_header.specs.Made.{Whole}
use Rattle.vr_header.specs.Spelling.{IsHeader}
use Rattle.vr_header.specs.Parts.{header_of}
use Rattle.vr_msg.specs.Logs.{IsEntryAt}
use Rattle.vr_super.specs.Copies.{SuperValue}
use Rattle.vr_rules.specs.Opening.{Slot, blank, first_listed}
use Rattle.vr_rules.specs.Replica.{Replica, knows, part_at}

-- of an op's header: it is that of an entry for it, of the value's last log view at most
abbrev pub IsOf : SuperValue → ℕ → Header → Type 0
IsOf v k h = IsHeader h × IsEntryAt v.fields.version v.fields.cluster v.fields.log_view k h

-- what reads in a slot has the values that a header has
pub record Reads (x : Slot) : Type 0 where
  pub header : (h : Header) → x.header ≡ Some h → IsHeader h
  pub entry : (e : Whole) → x.entry ≡ Some e → IsHeader e.header

-- its Parts are found up to an op
pub record Partly (v : SuperValue) (reached : ℕ) (r : Replica) : Type 0 where
  pub is : r ≡ record (blank v) { parts = r.parts }
  pub size : length r.parts ≡ v.fields.checkpoint + 65 - first_listed v
  pub entries : (k : ℕ) (h : Header) → header_of (part_at r k) ≡ Some h → IsOf v k h
  pub known : (k : ℕ) → v.fields.checkpoint < k → k ≤ reached → k ≤ v.fields.head → knows r k ≡ true

-- a header of the list has this op
abbrev pub Lists : ℕ → List Header → Type 0
Lists c hs = (i : ℕ) × (h : Header) × (slice_get hs i ≡ Some h) × (h.op ≡ c)
