-- What is read of a slot is what a word reads there.
use Rattle.std.proofs.Common.{◌≡◌, ◌≤◌, ◌++◌, ap, arith, ℕ, List, Option, Some, None, Result, Ok, false, sym}
use Rattle.vr_disk.specs.DiskState.{Disk, Face}
use Rattle.vr_header.specs.declared.header.Header.{Header}
use Rattle.vr_header.specs.declared.part.Part.{Part}
use Rattle.vr_header.specs.declared.part.Part.TheVariants.{Here, Lost, Wanted, Unknown, Nothing}
use Rattle.vr_header.specs.Made.{Whole}
use Rattle.vr_volatile.specs.Ready.{IsReady}
use Rattle.vr_header.specs.Parts.{header_of}
use Rattle.vr_msg.specs.declared.output.Output.{Output}
use Rattle.vr_actions.specs.Reads.{Reads}
use Rattle.vr_rules.specs.Replica.{Replica, is_here, part_at, version}
use Rattle.vr_rules.specs.Outputs.{prepare, send_to_all}
use Rattle.vr_rules.specs.Steps.{Word, says}
use Rattle.vr_rules.specs.Words.{entry_of, lost, prepare_again, with_entry, with_entry_at}
use Rattle.vr_disk.specs.declared.fault.Halt.{Halt}
use Rattle.vr_rules.specs.Does.{Does, Finds}
use Rattle.vr_rules.proofs.Stepping.{does_by, does_quiet, found_then, found_lost, says_by}

-- ---- the entry of an op

at_part : (op : ℕ) (p : Part) (w : Whole → Word Face) (r r' : Replica) (d d' : Option Disk) (o o' : List Output) (result : Result (Unit {0}) Halt)
    → p ≡ part_at r op → Does (with_entry w p) r r' d d' o o' result → Does (with_entry_at op w) r r' d d' o o' result
unfolding with_entry_at
at_part op p w r r' d d' o o' result e h = does_by _ r r' d d' o o' result (rw e at h)

module _ (h : Header) (r q : Replica) (d d' : Option Disk) (found shown : Option Whole) (here : part_at r h.op ≡ Here h) (read : Finds (version r) (entry_of h) d d' found) where
  pub here_read : (e : Whole) → found ≡ Some e → shown ≡ Some e → q ≡ r → Reads h.op r q d d' shown
  here_read e is say same =
      record {
        some = λ w x r' d'' o o' result i k.
            let one : e ≡ x = cc in
            let g : Finds (version r) (entry_of h) d d' (Some x) = rw (is, one) at read in
            let j : Does (w x) r r' d' d'' o o' result = rw same at k in
            at_part h.op (Here h) w r r' d d'' o o' result (sym here) (found_then h w x r r' d d' d'' o o' result g j);
        none = λ w o i. absurd cc;
      }

  pub here_lost : found ≡ None → shown ≡ None → q ≡ lost h r → Reads h.op r q d d' shown
  here_lost is say e =
      let f : Finds (version r) (entry_of h) d d' None = rw is at read in
      record {
        some = λ w x r' d'' o o' result i k. absurd cc;
        none = λ w o i. at_part h.op (Here h) w r q d d' o o (Ok tt) (sym here) (found_lost h w r q d d' o f e);
      }

quiet_at : (p : Part) → is_here p ≡ false → (w : Whole → Word Face) (r : Replica) (d : Option Disk) (o : List Output) → Does (with_entry w p) r r d d o o (Ok tt)
quiet_at (Here h) n w r d o = absurd cc
quiet_at (Lost h) n w r d o = does_quiet r d o
quiet_at (Wanted h) n w r d o = does_quiet r d o
quiet_at Unknown n w r d o = does_quiet r d o
quiet_at Nothing n w r d o = does_quiet r d o

pub not_here : (op : ℕ) (p : Part) (r : Replica) (d d' : Option Disk) (shown : Option Whole) → p ≡ part_at r op → is_here p ≡ false → shown ≡ None → d' ≡ d → Reads op r r d d' shown
not_here op p r d d' shown e n say same =
    record {
      some = λ w x r' d'' o o' result i k. absurd cc;
      none = λ w o i. rw same (at_part op p w r r d d o o (Ok tt) e (quiet_at p n w r d o));
    }

-- an entry that is stored was made in no later view
pub here_made : (h : Header) (r : Replica) → IsReady r → part_at r h.op ≡ Here h → h.view ≤ r.view
unfolding IsReady
here_made h r ready e =
    let made = (ready.sound.entries.each h.op h (ap header_of e)).1.made in
    let views = ready.sound.order.views in
    omega arith

-- and is one that the file takes
pub here_taken : (h : Header) (r : Replica) → IsReady r → part_at r h.op ≡ Here h → h.version ≤ version r
unfolding IsReady
here_taken h r ready e = (ready.sound.entries.each h.op h (ap header_of e)).1.of_version

-- ---- and told of again

module _ (op : ℕ) (r q : Replica) (d d' : Option Disk) (found : Option Whole) (reads : Reads op r q d d' found) where
  pub prepared_again : (e : Whole) (o o' : List Output) → found ≡ Some e → o' ≡ o ++ send_to_all (prepare e) q → Does (prepare_again op) r q d d' o o' (Ok tt)
  unfolding prepare_again
  prepared_again e o o' is said = reads.some (λ x. says (send_to_all (prepare x))) e q d' o o' (Ok tt) is (says_by (send_to_all (prepare e)) q d' o o' said)

  pub not_prepared : (o : List Output) → found ≡ None → Does (prepare_again op) r q d d' o o (Ok tt)
  unfolding prepare_again
  not_prepared o is = reads.none (λ x. says (send_to_all (prepare x))) o is
