-- An entry that is read is spelled so, and what is spelled so is read.
use Rattle.std.proofs.Common.{◌≡◌, ℕ, ◌-◌, ◌^◌, Bool, true, false, cond, eqb, not, List, ◌++◌, length, take, drop, ◌+◌, refl, sym, ap, subst, ◌∙◌, arith, Option, Some, None, Ok, Err, append_assoc, length-append, length-drop}
use Rattle.std.specs.Option.{option_map}
use Rattle.std.specs.Prelude.{◌↔◌, ◌≤◌, IfSome, IfOk, Result, is_ok, is_some, nat_le, nat_lt, nat_eq}
use Rattle.std.specs.Cmp.Lexicographic.{pointwise}
use Rattle.std.proofs.lemmas.Bool.{le-leb, lt-ltb, leb-true, ltb-true, eq-eqb, eqb-true}
use Rattle.std.proofs.lemmas.List.{take_at, drop_at, take-append-drop}
use Rattle.std.proofs.lemmas.Slice.Eq.{bytes_eq-Decides}
use Rattle.vr_base.specs.Bytes.{IsBytes, name_of, piece}
use Rattle.vr_base.specs.declared.sum.Sum.{Sum}
use Rattle.vr_base.proofs.FieldLaws.{IsBytes-drop, length-name_of}
use Rattle.vr_header.specs.declared.command.Command.{Command}
use Rattle.vr_header.specs.declared.command.Command.TheVariants.{Entry}
use Rattle.vr_header.specs.declared.header.Header.{Header}
use Rattle.vr_header.specs.declared.header.HeaderFault.{HeaderFault}
use Rattle.vr_header.specs.declared.operation.Operation.{Operation}
use Rattle.vr_header.specs.declared.operation.Operation.TheVariants.{Register, Put, Get, Delete}
use Rattle.vr_header.specs.Bodies.{IsOperation, operation_bytes, operation_of}
use Rattle.vr_header.specs.Made.{IsBodyOf, IsEntry, IsEntryHeader, Whole, entry_bytes, entry_of, is_bare, is_entry_header, is_register, is_whole, with_body, with_header}
use Rattle.vr_header.specs.Names.{header_name}
use Rattle.vr_header.specs.Spelling.{IsHeader, Spells, code_of, decoded, header_bytes, named_bytes}
use Rattle.vr_header.proofs.BodyLaws.{operation_again, operation_found, through}
use Rattle.vr_header.proofs.HeaderLaws.{decoded_again, decoded_found, length-header_bytes}
use Rattle.vr_header.specs.declared.view.OperationView.{OperationView}
use Rattle.vr_header.specs.Views.{operation_seen}
use Rattle.vr_header.proofs.Faults.{no_fault_of_ok}
use Rattle.vr_base.specs.Versions.{body_limit}
use Rattle.vr_header.proofs.Truths.{both}

-- what an entry that is read is
abbrev pub IsSpelled : List ℕ → Whole → Type 0
IsSpelled b e = (b ≡ entry_bytes e) × IsEntry e × IsHeader e.header × IsOperation e.header.version e.operation

entry_code : (c : Command) → eqb (code_of c) 3 ≡ true → c ≡ Entry
entry_code Entry e = refl
entry_code _ e = absurd cc

pub is_entry_header_of : (h : Header) → IsEntryHeader h → is_entry_header h ≡ true
is_entry_header_of h i =
    rw (i.command, lt-ltb 128 h.size i.size.0, le-leb h.size (128 + body_limit h.version) i.size.1, lt-ltb h.view (2 ^ 32 - 1) i.view, le-leb 1 h.op i.op.0, le-leb h.op (2 ^ 62) i.op.1, i.commit, i.replica, i.kind, i.aux) refl

pub entry_header_of : (h : Header) → is_entry_header h ≡ true → IsEntryHeader h
entry_header_of h e =
    let s6 = both _ (is_bare h) e in
    let s5 = both _ (nat_le h.op (2 ^ 62)) s6.0 in
    let s4 = both _ (nat_le 1 h.op) s5.0 in
    let s3 = both _ (nat_lt h.view (2 ^ 32 - 1)) s4.0 in
    let s2 = both _ (nat_le h.size (128 + body_limit h.version)) s3.0 in
    let s1 = both (eqb (code_of h.command) 3) (nat_lt 128 h.size) s2.0 in
    let b3 = both _ (eqb h.aux 0) s6.1 in
    let b2 = both _ (eqb h.kind 0) b3.0 in
    let b1 = both (eqb h.commit 0) (eqb h.replica 0) b2.0 in
    record {
      command = entry_code h.command s1.0;
      size = (ltb-true 128 h.size s1.1, leb-true h.size (128 + body_limit h.version) s2.1);
      view = ltb-true h.view (2 ^ 32 - 1) s3.1;
      op = (leb-true 1 h.op s4.1, leb-true h.op (2 ^ 62) s5.1);
      commit = eqb-true h.commit 0 b1.0;
      replica = eqb-true h.replica 0 b1.1;
      kind = eqb-true h.kind 0 b2.1;
      aux = eqb-true h.aux 0 b3.1;
    }

-- the test on request number 0
abbrev first_test : Header → Operation → Bool
first_test h o = cond (is_register o) (eqb h.request 0) (not (eqb h.request 0))

not_zero : (n : ℕ) → (n ≡ 0 → ⊥) → not (eqb n 0) ≡ true
not_zero n f = elim (eqb n 0) as (λ t. eqb n 0 ≡ t → not t ≡ true) [ true ↦ λ e. absurd (f (eqb-true n 0 e)) | false ↦ λ e. refl ] refl

never : (t : Bool) → not t ≡ true → t ≡ true → ⊥
never true e f = cc
never false e f = cc

first_true : (h : Header) (o : Operation) → ((o ≡ Register) ↔ (h.request ≡ 0)) → first_test h o ≡ true
first_true h Register f = eq-eqb h.request 0 (f.0 refl)
first_true h (Put key value) f = not_zero h.request (λ z. let e = f.1 z in cc)
first_true h (Get key) f = not_zero h.request (λ z. let e = f.1 z in cc)
first_true h (Delete key) f = not_zero h.request (λ z. let e = f.1 z in cc)

first_of_test : (h : Header) (o : Operation) → first_test h o ≡ true → (o ≡ Register) ↔ (h.request ≡ 0)
first_of_test h Register e = (λ r. eqb-true h.request 0 e, λ z. refl)
first_of_test h (Put key value) e = (λ r. absurd cc, λ z. absurd (never (eqb h.request 0) e (eq-eqb h.request 0 z)))
first_of_test h (Get key) e = (λ r. absurd cc, λ z. absurd (never (eqb h.request 0) e (eq-eqb h.request 0 z)))
first_of_test h (Delete key) e = (λ r. absurd cc, λ z. absurd (never (eqb h.request 0) e (eq-eqb h.request 0 z)))

-- what is spelled so is read
pub entry_again : (e : Whole) → IsEntry e → IsHeader e.header → entry_of (entry_bytes e) ≡ Some e
unfolding entry_of entry_bytes
entry_again e i f =
    let h = e.header in
    let o = e.operation in
    let b = header_bytes h ++ operation_bytes o in
    let l = length-header_bytes h f in
    let front : take 128 b ≡ header_bytes h = take_at (header_bytes h) (operation_bytes o) 128 l in
    let back : drop 128 b ≡ operation_bytes o = drop_at (header_bytes h) (operation_bytes o) 128 l in
    let size : h.size ≡ length b = omega (arith, i.body.size, l, length-append (header_bytes h) (operation_bytes o)) in
    let name : pointwise nat_eq h.body.0 (name_of (operation_bytes o)) ≡ true = (bytes_eq-Decides h.body.0 (name_of (operation_bytes o))).1 i.body.name in
    rw (decoded_again h b f front, is_entry_header_of h i.header, eq-eqb h.size (length b) size, back, name, operation_again h.version o i.body.fits, first_true h o i.body.first) refl

with_body_found : (b : List ℕ) (h : Header) (read : Option Operation) → IfSome read (λ o. (drop 128 b ≡ operation_bytes o) × IsOperation h.version o)
    → Spells h b → IsHeader h → is_whole h b ≡ true → IfSome (with_body h read) (IsSpelled b)
unfolding entry_bytes
with_body_found b h None r s f w = tt
with_body_found b h (Some o) r s f w =
    through (IsSpelled b) (first_test h o) _ (λ t.
    let named = both _ (pointwise nat_eq h.body.0 (name_of (drop 128 b))) w in
    let sized = both (is_entry_header h) (eqb h.size (length b)) named.0 in
    let header = entry_header_of h sized.0 in
    let size = eqb-true h.size (length b) sized.1 in
    let name = (bytes_eq-Decides h.body.0 (name_of (drop 128 b))).0 named.1 in
    let all : b ≡ header_bytes h ++ operation_bytes o = sym (take-append-drop 128 b) ∙ (ap (λ x. x ++ drop 128 b) s ∙ ap (λ x. header_bytes h ++ x) r.0) in
    let body : IsBodyOf h o = record {
      name = name ∙ ap name_of r.0;
      size = (let e = ap length r.0 in let d = length-drop 128 b in let m = header.size.0 in omega arith);
      first = first_of_test h o t;
      fits = r.1;
    } in
    (all, record { header = header; body = body }, f, r.1))

-- what is read is spelled so
pub entry_found : (b : List ℕ) → IsBytes b → IfSome (entry_of b) (IsSpelled b)
unfolding entry_of
entry_found b f =
    elim (decoded b) as (λ r. IfOk r (λ h. Spells h b × IsHeader h) → IfSome (with_header b r) (IsSpelled b)) [
      | Ok h ↦ λ s. through (IsSpelled b) (is_whole h b) _ (λ w. with_body_found b h (operation_of h.version (drop 128 b)) (operation_found h.version (drop 128 b) (IsBytes-drop 128 b f)) s.0 s.1 w)
      | Err x ↦ λ s. tt
    ] (decoded_found b f)

body_stands : (h : Header) (o : Option Operation) (e : Whole) → with_body h o ≡ Some e → (h ≡ e.header) × (o ≡ Some e.operation)
body_stands h None e p = absurd cc
body_stands h (Some o) e p =
    let w : Whole = record { header = h; operation = o } in
    let cases : (t : Bool) → cond t (Some w) None ≡ Some e → (h ≡ e.header) × (Some o ≡ Some e.operation) =
    elim [
      | true ↦ λ q. (let same : w ≡ e = cc in (ap (λ (x : Whole). x.header) same, ap (λ (x : Whole). Some x.operation) same))
      | false ↦ λ q. absurd cc
    ] in
    cases (first_test h o) p

abbrev pub Stands : List ℕ → Whole → Result Header HeaderFault → Type 0
Stands b e r = (r ≡ Ok e.header) × (operation_of e.header.version (drop 128 b) ≡ Some e.operation)

header_stands : (b : List ℕ) (e : Whole) (r : Result Header HeaderFault) → with_header b r ≡ Some e → Stands b e r
header_stands b e (Err f) p = absurd cc
header_stands b e (Ok h) p =
    let cases : (t : Bool) → cond t (with_body h (operation_of h.version (drop 128 b))) None ≡ Some e → Stands b e (Ok h) =
    elim [
      | true ↦ λ q. (let found = body_stands h (operation_of h.version (drop 128 b)) e q in (ap (λ (x : Header). Ok x) found.0, ap (λ (x : Header). operation_of x.version (drop 128 b)) (sym found.0) ∙ found.1))
      | false ↦ λ q. absurd cc
    ] in
    cases (is_whole h b) p

-- an entry's header and operation stand in its bytes
pub entry_stands : (b : List ℕ) (e : Whole) → entry_of b ≡ Some e → Stands b e (decoded b)
unfolding entry_of
entry_stands b e p = header_stands b e (decoded b) p

pub some_entry : (b : List ℕ) → is_some (entry_of b) ≡ true → (e : Whole) × (entry_of b ≡ Some e)
some_entry b p =
    let cases : (o : Option Whole) → entry_of b ≡ o → is_some o ≡ true → (e : Whole) × (entry_of b ≡ Some e) =
    elim [
      | None ↦ λ o q. absurd cc
      | Some e ↦ λ o q. (e, o)
    ] in
    cases (entry_of b) refl p

pub entry_ok : (b : List ℕ) → is_some (entry_of b) ≡ true → is_ok (decoded b) ≡ true
entry_ok b p = let some = some_entry b p in rw ((entry_stands b some.0 some.1).0) refl

pub entry_long : (b : List ℕ) → is_some (entry_of b) ≡ true → 128 ≤ length b
entry_long b p = (no_fault_of_ok b (entry_ok b p)).0

pub entry_operation : (b : List ℕ) (h : Header) → is_some (entry_of b) ≡ true → decoded b ≡ Ok h → is_some (operation_of h.version (drop 128 b)) ≡ true
entry_operation b h p d =
    let some = some_entry b p in
    let stands = entry_stands b some.0 some.1 in
    let same : h ≡ some.0.header = (let r = sym d ∙ stands.0 in cc) in
    rw (same, stands.1) refl

pub entry_made : (b : List ℕ) (h : Header) (o : Operation) → is_some (entry_of b) ≡ true → decoded b ≡ Ok h → operation_of h.version (drop 128 b) ≡ Some o
    → entry_of b ≡ Some (record { header = h; operation = o })
entry_made b h o p d q =
    let some = some_entry b p in
    let e = some.0 in
    let stands = entry_stands b e some.1 in
    let header : h ≡ e.header = (let r = sym d ∙ stands.0 in cc) in
    let operation : o ≡ e.operation = (let r = sym q ∙ (ap (λ (x : Header). operation_of x.version (drop 128 b)) header ∙ stands.1) in cc) in
    rw (header, operation) some.1

pub some_seen : (v : Option OperationView) → is_some (option_map operation_seen v) ≡ true → is_some v ≡ true
some_seen None e = absurd cc
some_seen (Some v) e = refl

pub entry_known : (b : List ℕ) (e : Whole) → IsBytes b → entry_of b ≡ Some e → IsSpelled b e
entry_known b e f p = let P : Option Whole → Type 0 = λ o. IfSome o (IsSpelled b) in subst P p (entry_found b f)

-- the name of an entry's header stands in front
pub spelled_long : (b : List ℕ) (e : Whole) → IsSpelled b e → 16 ≤ length b
unfolding entry_bytes
spelled_long b e s =
    let l = length-header_bytes e.header s.2 in
    let n = length-append (header_bytes e.header) (operation_bytes e.operation) in
    let same = ap length s.0 in
    omega (arith, l, n, same)

pub spelled_name : (b : List ℕ) (e : Whole) (name : Sum) → IsSpelled b e → name.0 ≡ piece 0 16 b → name ≡ header_name e.header
unfolding entry_bytes header_bytes piece
spelled_name b e name s p =
    let h = e.header in
    let n = name_of (named_bytes h) in
    let rest = named_bytes h ++ operation_bytes e.operation in
    let all : b ≡ n ++ rest = s.0 ∙ append_assoc n (named_bytes h) (operation_bytes e.operation) in
    let front : take 16 (n ++ rest) ≡ n = take_at n rest 16 (length-name_of (named_bytes h)) in
    let made : List ℕ → Sum = λ x. record { 0 = x } in
    ap made (p ∙ (ap (take 16) all ∙ front))
