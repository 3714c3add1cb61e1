use Rattle.std.proofs.Common.{◌≡◌, ℕ, List, Option, None, Some, arith, ap, ◌∙◌}
use Rattle.std.specs.Prelude.{IfSome}
use Rattle.vr_base.specs.Bytes.{IsBytes}
use Rattle.vr_header.specs.Made.{IsEntry, Whole, entry_bytes, entry_of}
use Rattle.vr_header.specs.Spelling.{IsHeader}
use Rattle.vr_header.proofs.EntryLaws.{IsSpelled, entry_again, entry_found}
use Rattle.vr_header.proofs.entry.Entry.header_in.Goals as goal

found : (b : List ℕ) → IsBytes b → IfSome (entry_of b) (λ e. (b ≡ entry_bytes e) × IsEntry e × IsHeader e.header)
found b are =
    let drops : (o : Option Whole) → IfSome o (IsSpelled b) → IfSome o (λ e. (b ≡ entry_bytes e) × IsEntry e × IsHeader e.header) =
    elim [ None ↦ λ h. tt | Some e ↦ λ h. (h.0, h.1, h.2) ] in
    drops (entry_of b) (entry_found b are)

only : (b : List ℕ) (x : Whole) → IsEntry x → IsHeader x.header → b ≡ entry_bytes x → entry_of b ≡ Some x
only b x entry header e = ap entry_of e ∙ entry_again x entry header

pub returns-in-Some-clause-found : goal.returns-in-Some-clause-found
returns-in-Some-clause-found c = found c.args.bytes.now (λ i. omega (arith, c.type_inv.bytes i))

pub returns-in-None-clause-found : goal.returns-in-None-clause-found
returns-in-None-clause-found c = found c.args.bytes.now (λ i. omega (arith, c.type_inv.bytes i))

pub returns-in-Some-clause-only : goal.returns-in-Some-clause-only
returns-in-Some-clause-only c = only c.args.bytes.now

pub returns-in-None-clause-only : goal.returns-in-None-clause-only
returns-in-None-clause-only c = only c.args.bytes.now
