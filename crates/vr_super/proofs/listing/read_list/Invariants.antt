use Rattle.std.proofs.Common.{◌≡◌, ℕ, List, Some}
use Rattle.vr_header.specs.declared.header.Header.{Header}
use Rattle.vr_super.specs.declared.fields.Fields.{Fields}
use Rattle.vr_super.specs.Copies.{list_at}
use Rattle.vr_super.proofs.Heads.{Listing}
use Rattle.vr_super.proofs.listing.read_list.Given as goal

abbrev pub invariant-loop-i : goal.invariant-loop-i
invariant-loop-i l = (f : Fields) (op : ℕ) (all : List Header) → list_at f op l.count l.bytes ≡ Some all → Listing f op l.count l.i l.bytes l.headers all
