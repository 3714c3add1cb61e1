-- Lists of headers and of Parts: what is spelled is read, and what is read is spelled so.
use Rattle.std.proofs.Common.{◌≡◌, ℕ, zero, suc, ◌+◌, ◌≤◌, Bool, true, false, cond, eqb, leb, List, [], ◌∷◌, ◌++◌, length, drop, refl, sym, ap, ◌∙◌, arith, subst, Result, Ok, Err}
use Rattle.std.specs.Prelude.{IfOk, not}
use Rattle.std.proofs.lemmas.Bool.{eq-eqb, eqb-true, leb-true, le-leb}
use Rattle.std.proofs.lemmas.List.{drop_at, take_at, take-append-drop, get_or-drop}
use Rattle.vr_base.specs.Bytes.{IsBytes}
use Rattle.vr_header.specs.declared.header.Header.{Header}
use Rattle.vr_header.specs.declared.header.HeaderFault.{HeaderFault}
use Rattle.vr_header.specs.Made.{is_entry_header}
use Rattle.vr_header.specs.Spelling.{IsHeader, Spells, decoded, decoded_header, header_bytes}
use Rattle.vr_header.proofs.EntryLaws.{entry_header_of, is_entry_header_of}
use Rattle.vr_header.proofs.HeaderLaws.{decoded_again, decoded_found, length-header_bytes}
use Rattle.vr_msg.specs.Logs.{FromOp, IsEntryAt}
use Rattle.vr_codec.specs.Reading.{headers_at}
use Rattle.vr_codec.specs.Shapes.{begins_entry, headers_fit, is_at, is_ok_entry_at}
use Rattle.vr_msg.specs.Spelling.{AreHeaders, headers_bytes}
use Rattle.vr_codec.proofs.Fitting.{both, no_fault_in}

-- a header at the front of bytes
pub decoded_front : (h : Header) (r : List ℕ) → IsHeader h → decoded (header_bytes h ++ r) ≡ Ok h
decoded_front h r i = decoded_again h (header_bytes h ++ r) i (take_at (header_bytes h) r 128 (length-header_bytes h i))

pub header_front : (h : Header) (r : List ℕ) → IsHeader h → decoded_header (header_bytes h ++ r) ≡ h
header_front h r i = (no_fault_in (header_bytes h ++ r) h (decoded_front h r i)).1

pub rest_front : (h : Header) (r : List ℕ) → IsHeader h → drop 128 (header_bytes h ++ r) ≡ r
rest_front h r i = drop_at (header_bytes h) r 128 (length-header_bytes h i)

-- what stands at the front of bytes that can be read
pub record FrontFound (h : Header) (b : List ℕ) : Type 0 where
  pub spelled : b ≡ header_bytes h ++ drop 128 b
  pub header : IsHeader h
  pub there : decoded_header b ≡ h

pub front_found : (b : List ℕ) (h : Header) → IsBytes b → decoded b ≡ Ok h → FrontFound h b
front_found b h i e =
    let P : Result Header HeaderFault → Type 0 = λ r. IfOk r (λ h. Spells h b × IsHeader h) in
    let f : Spells h b × IsHeader h = subst P e (decoded_found b i) in
    record {
      spelled = sym (take-append-drop 128 b) ∙ ap (λ x. x ++ drop 128 b) f.0;
      header = f.1;
      there = (no_fault_in b h e).1;
    }

pub IsBytes-drop : (n : ℕ) (b : List ℕ) → IsBytes b → IsBytes (drop n b)
IsBytes-drop n b i k = rw (get_or-drop n b k 0) (i (n + k))

-- ---- the tests of one header

pub at_true : (version cluster last op : ℕ) (h : Header) → h.version ≤ version → h.cluster ≡ cluster → h.op ≡ op → h.view ≤ last → is_at version cluster last op h ≡ true
unfolding is_at
at_true version cluster last op h n c o v = rw (le-leb h.version version n, eq-eqb h.cluster cluster c, eq-eqb h.op op o, le-leb h.view last v) refl

passed : (t x : Bool) → cond (not t) false x ≡ true → (t ≡ true) × (x ≡ true)
passed true x e = (refl, e)
passed false x e = absurd cc

pub at_found : (version cluster last op : ℕ) (h : Header) → is_at version cluster last op h ≡ true → (h.version ≤ version) × (h.cluster ≡ cluster) × (h.op ≡ op) × (h.view ≤ last)
unfolding is_at
at_found version cluster last op h e =
    let n = passed (leb h.version version) _ e in
    let c = passed (eqb h.cluster cluster) _ n.1 in
    let o = passed (eqb h.op op) _ c.1 in
    (leb-true h.version version n.0, eqb-true h.cluster cluster c.0, eqb-true h.op op o.0, leb-true h.view last o.1)

pub begins_true : (version cluster last op : ℕ) (h : Header) (r : List ℕ) → IsHeader h → IsEntryAt version cluster last op h → begins_entry version cluster last op (header_bytes h ++ r) ≡ true
unfolding begins_entry
begins_true version cluster last op h r i e = rw (decoded_front h r i, is_entry_header_of h e.entry, at_true version cluster last op h e.of_version e.of_group e.at_op e.made) refl

pub record BeginsFound (version cluster last op : ℕ) (b : List ℕ) : Type 0 where
  pub front : FrontFound (decoded_header b) b
  pub entry : IsEntryAt version cluster last op (decoded_header b)

pub begins_found : (version cluster last op : ℕ) (b : List ℕ) → IsBytes b → begins_entry version cluster last op b ≡ true → BeginsFound version cluster last op b
unfolding begins_entry
begins_found version cluster last op b i e =
    let cases : (r : Result Header HeaderFault) → decoded b ≡ r → is_ok_entry_at version cluster last op r ≡ true → BeginsFound version cluster last op b =
    elim [
      | Ok h ↦ λ d t.
          let there = (no_fault_in b h d).1 in
          let entry = passed (is_entry_header h) _ t in
          let place = at_found version cluster last op h entry.1 in
          let found : IsEntryAt version cluster last op h = record { entry = entry_header_of h entry.0; of_version = place.0; of_group = place.1; at_op = place.2; made = place.3 } in
          record {
            front = subst (λ x. FrontFound x b) (sym there) (front_found b h i d);
            entry = subst (IsEntryAt version cluster last op) (sym there) found;
          }
      | Err f ↦ λ d t. absurd cc
    ] in
    cases (decoded b) refl e

-- ---- a list of headers

pub headers_again : (hs : List Header) → AreHeaders hs → headers_at (length hs) (headers_bytes hs) ≡ hs
unfolding headers_at
headers_again [] a = refl
headers_again (h ∷ hs) a = rw (header_front h (headers_bytes hs) a.0, rest_front h (headers_bytes hs) a.0) (ap (λ x. h ∷ x) (headers_again hs a.1))

pub headers_true : (version cluster last op : ℕ) (hs : List Header) → AreHeaders hs → FromOp (IsEntryAt version cluster last) op hs → headers_fit version cluster last (length hs) op (headers_bytes hs) ≡ true
unfolding headers_fit
headers_true version cluster last op [] a f = refl
headers_true version cluster last op (h ∷ hs) a f =
    rw (begins_true version cluster last op h (headers_bytes hs) a.0 f.0, rest_front h (headers_bytes hs) a.0) (headers_true version cluster last (op + 1) hs a.1 f.1)

pub record HeadersFound (version cluster last op n : ℕ) (b : List ℕ) : Type 0 where
  pub spelled : headers_bytes (headers_at n b) ≡ b
  pub values : AreHeaders (headers_at n b)
  pub entries : FromOp (IsEntryAt version cluster last) op (headers_at n b)
  pub count : length (headers_at n b) ≡ n

pub nothing : (b : List ℕ) → eqb (length b) 0 ≡ true → [] ≡ b
nothing [] e = refl
nothing (x ∷ b) e = absurd (omega (arith, eqb-true (length (x ∷ b)) 0 e))

pub headers_found : (version cluster last op n : ℕ) (b : List ℕ) → IsBytes b → headers_fit version cluster last n op b ≡ true → HeadersFound version cluster last op n b
unfolding headers_fit headers_at
headers_found version cluster last op zero b i e = record { spelled = nothing b e; values = tt; entries = tt; count = refl }
headers_found version cluster last op (suc n) b i e =
    let p = both _ _ e in
    let first = begins_found version cluster last op b i p.0 in
    let rest = headers_found version cluster last (op + 1) n (drop 128 b) (IsBytes-drop 128 b i) p.1 in
    record {
      spelled = ap (λ x. header_bytes (decoded_header b) ++ x) rest.spelled ∙ sym first.front.spelled;
      values = (first.front.header, rest.values);
      entries = (first.entry, rest.entries);
      count = ap suc rest.count;
    }
