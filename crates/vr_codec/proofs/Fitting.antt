-- What tests that pass say of lengths, and steps of loops over headers.
use Rattle.std.proofs.Common.{◌≡◌, ℕ, zero, suc, ◌+◌, ◌-◌, ◌≤◌, ◌<◌, ◌^◌, Bool, true, false, cond, eqb, leb, ltb, subst, List, take, [], ◌∷◌, ◌++◌, append_assoc, length-append, length, drop, get_or, drop-cons, refl, sym, ap, ◌∙◌, arith, Result, Ok, Err, Option, Some, None}
use Rattle.std.specs.Prelude.{◌&&◌, ◌||◌, ◌==◌, ◌↔◌, IfSome, is_ok, is_some, not}
use Rattle.std.specs.List.{prefix_len}
use Rattle.std.specs.Option.{option_map, option_map_or}
use Rattle.std.proofs.lemmas.Bool.{eq-eqb, eqb-true, leb-false, leb-true, ltb-false, ltb-true}
use Rattle.std.proofs.lemmas.List.{drop_all}
use Rattle.vr_header.specs.declared.command.Command.TheVariants as command
use Rattle.vr_header.specs.declared.header.Header.{Header}
use Rattle.vr_header.specs.Names.{header_name, request_header}
use Rattle.vr_base.specs.declared.sum.Sum.{Sum}
use Rattle.vr_header.specs.declared.header.HeaderFault.{HeaderFault}
use Rattle.vr_header.specs.Spelling.{decoded, fault_of, decoded_header}
use Rattle.vr_header.specs.declared.outcome.Outcome.{Outcome}
use Rattle.vr_header.specs.declared.part.Part.{Part}
use Rattle.vr_header.proofs.Faults.{no_fault}
use Rattle.std.specs.Int.{w16, w64}
use Rattle.vr_base.specs.Bytes.{bytes16, number}
use Rattle.vr_header.specs.declared.operation.Operation.{Operation}
use Rattle.vr_header.specs.declared.operation.Operation.TheVariants.{Register, Put, Get, Delete}
use Rattle.vr_header.specs.Bodies.{IsOperation, operation_bytes, operation_of, outcome_of}
use Rattle.vr_msg.specs.declared.reply.ReplyKind.{ReplyKind}
use Rattle.vr_msg.specs.declared.reply.ReplyKind.TheVariants as reply
use Rattle.vr_msg.specs.Asking.{AreNames, IsReplyKind}
use Rattle.vr_msg.specs.Spelling.{header_before}
use Rattle.vr_codec.specs.Reading.{IsAsking, are_headers, kind_at, are_parts, headers_at, part_of_tag, parts_at, rest_at}
use Rattle.vr_header.specs.Made.{Whole, entry_of}
use Rattle.vr_codec.specs.Shapes.{after_tag, begins_entry, entry_fits, is_at, headers_fit, is_asked, is_ok_entry_at, is_view, knows, log_fits, numbers_fit, parts_fit, statement_fits, sync_fits, tags_fit, tags_run}

pub both : (a b : Bool) → (a && b) ≡ true → (a ≡ true) × (b ≡ true)
both true b e = (refl, e)
both false b e = absurd cc

-- what was decoded is at its places, and there was no fault
pub no_fault_in : (b : List ℕ) (h : Header) → decoded b ≡ Ok h → (fault_of b ≡ None) × (decoded_header b ≡ h)
no_fault_in b h e =
    let cases : (o : Option HeaderFault) → fault_of b ≡ o → (fault_of b ≡ None) × (decoded_header b ≡ h) =
    elim [
      | None ↦ λ o. (o, (let r = rw o at e in cc))
      | Some f ↦ λ o. absurd (let r = rw o at e in cc)
    ] in
    cases (fault_of b) refl

pub long_of : (b : List ℕ) (h : Header) → decoded b ≡ Ok h → 128 ≤ length b
long_of b h e = (no_fault b (no_fault_in b h e).0).0

pub begins_long : (version cluster last op : ℕ) (b : List ℕ) → begins_entry version cluster last op b ≡ true → 128 ≤ length b
unfolding begins_entry
begins_long version cluster last op b e =
    let cases : (r : Result Header HeaderFault) → decoded b ≡ r → is_ok_entry_at version cluster last op r ≡ true → 128 ≤ length b =
    elim [
      | Ok h ↦ λ o t. long_of b h o
      | Err f ↦ λ o t. absurd cc
    ] in
    cases (decoded b) refl e

pub headers_more : (version cluster last count i op : ℕ) (rest : List ℕ) → i < count
    → headers_fit version cluster last (count - i) (op + i) rest ≡ (begins_entry version cluster last (op + i) rest && headers_fit version cluster last (count - (i + 1)) (op + (i + 1)) (drop 128 rest))
unfolding headers_fit
headers_more version cluster last count i op rest l =
    let n : count - i ≡ suc (count - (i + 1)) = omega arith in
    let o : (op + i) + 1 ≡ op + (i + 1) = omega arith in
    rw (n, o) refl

pub ruleset headers_fitting = (headers_more, begins_long)

pub tags_more : (version cluster last op i : ℕ) (tags bytes : List ℕ) → i < length tags
    → tags_fit version cluster last (drop i tags) op bytes ≡ option_map_or (λ rest. tags_fit version cluster last (drop (i + 1) tags) (op + 1) rest) (after_tag version cluster last op (get_or tags i 0) bytes) false
unfolding tags_fit
tags_more version cluster last op i tags bytes l = let e : i + 1 ≡ suc i = omega arith in rw (e, drop-cons tags i 0) refl

pub tags_none : (version cluster last op i : ℕ) (tags bytes : List ℕ) → length tags ≤ i → tags_fit version cluster last (drop i tags) op bytes ≡ (length bytes == 0)
unfolding tags_fit
tags_none version cluster last op i tags bytes l = rw (drop_all i tags l) refl

pub ruleset tags_fitting = (tags_more, tags_none)

pub run_more : (i : ℕ) (tags : List ℕ) → i < length tags → prefix_len knows (drop i tags) ≡ cond (knows (get_or tags i 0)) (1 + prefix_len knows (drop (i + 1) tags)) 0
run_more i tags l = let e : i + 1 ≡ suc i = omega arith in rw (e, drop-cons tags i 0) refl

pub run_none : (i : ℕ) (tags : List ℕ) → length tags ≤ i → prefix_len knows (drop i tags) ≡ 0
run_none i tags l = rw (drop_all i tags l) refl

pub ruleset running = (run_more, run_none)

pub numbers : (h : Header) → numbers_fit h ≡ true → (h.op ≤ 2 ^ 62) × (h.commit ≤ 2 ^ 62)
unfolding numbers_fit
numbers h e = let a = both _ _ e in let b = both _ _ a.1 in (leb-true _ _ b.0, leb-true _ _ b.1)

pub header_of_ok : (b : List ℕ) (h : Header) → decoded b ≡ Ok h → h ≡ decoded_header b
header_of_ok b h e = sym (no_fault_in b h e).1

pub long_of_ok : (b : List ℕ) → is_ok (decoded b) ≡ true → 128 ≤ length b
long_of_ok b e =
    let cases : (r : Result Header HeaderFault) → decoded b ≡ r → is_ok r ≡ true → 128 ≤ length b =
    elim [
      | Ok h ↦ λ o t. long_of b h o
      | Err f ↦ λ o t. absurd cc
    ] in
    cases (decoded b) refl e

pub headers_at_more : (count i : ℕ) (rest : List ℕ) → i < count → headers_at (count - i) rest ≡ decoded_header rest ∷ headers_at (count - (i + 1)) (drop 128 rest)
unfolding headers_at
headers_at_more count i rest l = let n : count - i ≡ suc (count - (i + 1)) = omega arith in rw n refl

pub headers_at_none : (count i : ℕ) (rest : List ℕ) → count ≤ i → headers_at (count - i) rest ≡ []
unfolding headers_at
headers_at_none count i rest l = let n : count - i ≡ 0 = omega arith in rw n refl

pub are_headers_more : (count i : ℕ) (rest : List ℕ) → i < count → are_headers (count - i) rest ≡ (is_ok (decoded rest) && are_headers (count - (i + 1)) (drop 128 rest))
unfolding are_headers
are_headers_more count i rest l = let n : count - i ≡ suc (count - (i + 1)) = omega arith in rw n refl

pub ruleset reading_headers = (headers_at_more, headers_at_none, are_headers_more, long_of_ok)

pub parts_at_more : (i : ℕ) (tags bytes : List ℕ) → i < length tags
    → parts_at (drop i tags) bytes ≡ part_of_tag (get_or tags i 0) bytes ∷ parts_at (drop (i + 1) tags) (rest_at (get_or tags i 0) bytes)
unfolding parts_at
parts_at_more i tags bytes l = let e : i + 1 ≡ suc i = omega arith in rw (e, drop-cons tags i 0) refl

pub parts_at_none : (i : ℕ) (tags bytes : List ℕ) → length tags ≤ i → parts_at (drop i tags) bytes ≡ []
unfolding parts_at
parts_at_none i tags bytes l = rw (drop_all i tags l) refl

pub are_parts_more : (i : ℕ) (tags bytes : List ℕ) → i < length tags
    → are_parts (drop i tags) bytes ≡ ((not (knows (get_or tags i 0)) || is_ok (decoded bytes)) && are_parts (drop (i + 1) tags) (rest_at (get_or tags i 0) bytes))
unfolding are_parts
are_parts_more i tags bytes l = let e : i + 1 ≡ suc i = omega arith in rw (e, drop-cons tags i 0) refl

pub ruleset reading_parts = (parts_at_more, parts_at_none, are_parts_more, long_of_ok)

pub headers_next : (count i : ℕ) (rest : List ℕ) → i < count → are_headers (count - i) rest ≡ true → are_headers (count - (i + 1)) (drop 128 rest) ≡ true
headers_next count i rest l e = (both _ _ (sym (are_headers_more count i rest l) ∙ e)).1

pub headers_read : (count i : ℕ) (rest : List ℕ) (before all : List Header) → i < count → before ++ headers_at (count - i) rest ≡ all
    → (before ++ decoded_header rest ∷ []) ++ headers_at (count - (i + 1)) (drop 128 rest) ≡ all
headers_read count i rest before all l e =
    append_assoc before (decoded_header rest ∷ []) (headers_at (count - (i + 1)) (drop 128 rest)) ∙ (ap (λ hs. before ++ hs) (sym (headers_at_more count i rest l)) ∙ e)

pub parts_next : (tags : List ℕ) (i : ℕ) (rest : List ℕ) → i < length tags → are_parts (drop i tags) rest ≡ true
    → ((not (knows (get_or tags i 0)) || is_ok (decoded rest)) ≡ true) × (are_parts (drop (i + 1) tags) (rest_at (get_or tags i 0) rest) ≡ true)
parts_next tags i rest l e = both _ _ (sym (are_parts_more i tags rest l) ∙ e)

pub parts_read : (tags : List ℕ) (i : ℕ) (rest : List ℕ) (before all : List Part) → i < length tags → before ++ parts_at (drop i tags) rest ≡ all
    → (before ++ part_of_tag (get_or tags i 0) rest ∷ []) ++ parts_at (drop (i + 1) tags) (rest_at (get_or tags i 0) rest) ≡ all
parts_read tags i rest before all l e =
    let part = part_of_tag (get_or tags i 0) rest in
    append_assoc before (part ∷ []) (parts_at (drop (i + 1) tags) (rest_at (get_or tags i 0) rest)) ∙ (ap (λ ps. before ++ ps) (sym (parts_at_more i tags rest l)) ∙ e)

pub one_byte : (version : ℕ) (o : Operation) → IsOperation version o → (o ≡ Register) ↔ (length (operation_bytes o) ≡ 1)
unfolding operation_bytes
one_byte version Register i = (λ e. refl, λ e. refl)
one_byte version (Put key value) i = (λ e. absurd cc, λ e. absurd (omega (arith, length-append (2 ∷ length key ∷ bytes16 (length value)) (key ++ value), e)))
one_byte version (Get key) i = (λ e. absurd cc, λ e. absurd (omega (arith, e)))
one_byte version (Delete key) i = (λ e. absurd cc, λ e. absurd (omega (arith, e)))

chosen : (b c : Bool) → cond b c (not c) ≡ true → b ≡ c
chosen true c e = sym e
chosen false true e = absurd cc
chosen false false e = refl

-- a test of the bytes that an operation was read from
pub asked_form : (version request : ℕ) (body : List ℕ) (o : Operation) → is_asked version request body ≡ true → operation_of version body ≡ Some o → body ≡ operation_bytes o
    → IsOperation version o → (o ≡ Register) ↔ (request ≡ 0)
unfolding is_asked
asked_form version request body o a r b i =
    let test = rw r at a in
    let same : eqb (length body) 1 ≡ eqb request 0 = chosen (eqb (length body) 1) (eqb request 0) test in
    let one = one_byte version o i in
    let n : length body ≡ length (operation_bytes o) = ap length b in
    (λ e. eqb-true request 0 (sym same ∙ eq-eqb (length body) 1 (n ∙ one.0 e)), λ e. one.1 (sym n ∙ eqb-true (length body) 1 (same ∙ eq-eqb request 0 e)))

-- a request's header and its name tell the names that it keeps
pub asked_names : (h : Header) (body : List ℕ) (o : Operation) (name : Sum) → IsAsking h body → body ≡ operation_bytes o → name ≡ header_name h
    → AreNames (record { version = h.version; cluster = h.cluster; client = h.client; request = h.request; operation = o }) (record { body = h.body; header = name })
asked_names h body o name a b n =
    let same : h ≡ request_header h.version h.cluster h.client h.request o =
    a ∙ ap (λ (x : List ℕ). record (header_before h.version x command.Request) { cluster = h.cluster; client = h.client; request = h.request }) b in
    record { body = ap (λ (x : Header). x.body.0) same; header = n ∙ ap header_name same }

kinds : (a b c d f g : Bool) (o : Option ReplyKind) → IfSome o IsReplyKind
    → IfSome (cond a o (cond b (Some reply.Old) (cond c (Some reply.Gap) (cond d (Some reply.Evicted) (cond f (Some reply.Busy) (cond g (Some reply.Redirect) None)))))) IsReplyKind
kinds true b c d f g o h = h
kinds false true c d f g o h = tt
kinds false false true d f g o h = tt
kinds false false false true f g o h = tt
kinds false false false false true g o h = tt
kinds false false false false false true o h = tt
kinds false false false false false false o h = tt

outcome_form : (op : ℕ) → op ≤ 2 ^ 62 → (o : Option Outcome) → IfSome (option_map (λ (o : Outcome). reply.Outcome (record { op = op; outcome = o })) o) IsReplyKind
outcome_form op l None = tt
outcome_form op l (Some o) = l

kinds_form : (version kind op : ℕ) (body : List ℕ) → op ≤ 2 ^ 62 → IfSome (kind_at version kind op body) IsReplyKind
unfolding kind_at
kinds_form version kind op body l = kinds (eqb kind 1) (eqb kind 2) (eqb kind 3) (eqb kind 4) (eqb kind 5) (eqb kind 6) _ (outcome_form op l (outcome_of version body))

pub reply_form : (version kind op : ℕ) (body : List ℕ) (k : ReplyKind) → kind_at version kind op body ≡ Some k → op ≤ 2 ^ 62 → IsReplyKind k
reply_form version kind op body k e l = let P : Option ReplyKind → Type 0 = λ o. IfSome o IsReplyKind in subst P e (kinds_form version kind op body l)

-- ---- tests that pass, and headers that can be read

pub begins_ok : (version cluster last op : ℕ) (b : List ℕ) → begins_entry version cluster last op b ≡ true → is_ok (decoded b) ≡ true
unfolding begins_entry
begins_ok version cluster last op b e =
    let cases : (r : Result Header HeaderFault) → is_ok_entry_at version cluster last op r ≡ true → is_ok r ≡ true =
    elim [
      | Ok h ↦ λ t. refl
      | Err f ↦ λ t. absurd cc
    ] in
    cases (decoded b) e

both_true : (a b : Bool) → a ≡ true → b ≡ true → (a && b) ≡ true
both_true a b p q = rw (p, q) refl

pub headers_are : (version cluster last n op : ℕ) (b : List ℕ) → headers_fit version cluster last n op b ≡ true → are_headers n b ≡ true
unfolding headers_fit are_headers
headers_are version cluster last zero op b e = refl
headers_are version cluster last (suc n) op b e =
    let p = both _ _ e in
    both_true _ _ (begins_ok version cluster last op b p.0) (headers_are version cluster last n (op + 1) (drop 128 b) p.1)

-- by the test of the tag
tag_cases : (version cluster last op t : ℕ) (ts b : List ℕ) (k f h : Bool) → (f ≡ true → is_ok (decoded b) ≡ true)
    → ((x : List ℕ) → tags_fit version cluster last ts (op + 1) x ≡ true → are_parts ts x ≡ true)
    → option_map_or (λ rest. tags_fit version cluster last ts (op + 1) rest) (cond k (cond f (Some (drop 128 b)) None) (cond h None (Some b))) false ≡ true
    → ((not k || is_ok (decoded b)) && are_parts ts (cond k (drop 128 b) b)) ≡ true
tag_cases version cluster last op t ts b true true h begins more e = both_true _ _ (begins refl) (more (drop 128 b) e)
tag_cases version cluster last op t ts b true false h begins more e = absurd cc
tag_cases version cluster last op t ts b false f true begins more e = absurd cc
tag_cases version cluster last op t ts b false f false begins more e = more b e

pub tags_are : (version cluster last : ℕ) (tags : List ℕ) (op : ℕ) (b : List ℕ) → tags_fit version cluster last tags op b ≡ true → are_parts tags b ≡ true
unfolding tags_fit are_parts after_tag rest_at
tags_are version cluster last [] op b e = refl
tags_are version cluster last (t ∷ ts) op b e =
    tag_cases version cluster last op t ts b (knows t) (begins_entry version cluster last op b) (ltb 4 t) (begins_ok version cluster last op b) (λ x. tags_are version cluster last ts (op + 1) x) e

-- a test that an `if` asks for before another
passed : (t x : Bool) → cond t false x ≡ true → (t ≡ false) × (x ≡ true)
passed true x e = absurd cc
passed false x e = (refl, e)

pub log_found : (h : Header) (body : List ℕ) → log_fits h body ≡ true → (h.aux ≤ h.op) × (are_headers (h.op - h.aux) body ≡ true)
unfolding log_fits
log_found h body e =
    let commit = passed _ _ e in
    let lo = passed _ _ commit.1 in
    let short = passed _ _ lo.1 in
    (ltb-false _ _ lo.0, headers_are _ _ _ _ _ _ short.1)

-- what the tests of a statement found
pub record StatementFound (h : Header) (first : ℕ) (tags bytes : List ℕ) : Type 0 where
  pub one : 1 ≤ first
  pub reach : first ≤ h.commit + 1
  pub commit : h.commit ≤ h.op
  pub log_view : h.aux < h.view
  pub run : tags_run h.op first tags ≡ true
  pub known : tags_fit h.version h.cluster h.aux tags first bytes ≡ true

not_zero : (n : ℕ) → eqb n 0 ≡ false → 1 ≤ n
not_zero zero e = absurd cc
not_zero (suc n) e = omega arith

pub statement_found : (h : Header) (first : ℕ) (tags bytes : List ℕ) → statement_fits h first tags bytes ≡ true → StatementFound h first tags bytes
unfolding statement_fits
statement_found h first tags bytes e =
    let one = passed (eqb first 0) _ e in
    let below = passed (ltb (h.commit + 1) first) _ one.1 in
    let commit = passed (ltb h.op h.commit) _ below.1 in
    let view = passed (leb h.view h.aux) _ commit.1 in
    let rest = both (tags_run h.op first tags) (tags_fit h.version h.cluster h.aux tags first bytes) view.1 in
    record {
      one = not_zero first one.0;
      reach = ltb-false (h.commit + 1) first below.0;
      commit = ltb-false h.op h.commit commit.0;
      log_view = leb-false h.view h.aux view.0;
      run = rest.0;
      known = rest.1;
    }

-- what the tests of a list of Parts found
pub record PartsFound (h : Header) (body : List ℕ) : Type 0 where
  pub count : number w16 8 body ≤ 128
  pub long : 10 + number w16 8 body ≤ length body
  pub statement : StatementFound h (number w64 0 body) (take (number w16 8 body) (drop 10 body)) (drop (10 + number w16 8 body) body)

pub parts_found : (h : Header) (body : List ℕ) → parts_fit h body ≡ true → PartsFound h body
unfolding parts_fit
parts_found h body e =
    let ten = passed (ltb (length body) 10) _ e in
    let count = passed (ltb 128 (number w16 8 body)) _ ten.1 in
    let long = passed (ltb (length body) (10 + number w16 8 body)) _ count.1 in
    record {
      count = ltb-false 128 (number w16 8 body) count.0;
      long = ltb-false (length body) (10 + number w16 8 body) long.0;
      statement = statement_found h (number w64 0 body) (take (number w16 8 body) (drop 10 body)) (drop (10 + number w16 8 body) body) long.1;
    }

pub parts_readable : (h : Header) (body : List ℕ) → parts_fit h body ≡ true
    → (h.aux < h.view) × (10 + number w16 8 body ≤ length body) × (are_parts (take (number w16 8 body) (drop 10 body)) (drop (10 + number w16 8 body) body) ≡ true)
parts_readable h body e =
    let p = parts_found h body e in
    (p.statement.log_view, p.long, tags_are _ _ _ _ _ _ p.statement.known)

pub views : (h : Header) → numbers_fit h ≡ true → h.view < 2 ^ 32 - 1
unfolding numbers_fit
views h e = ltb-true h.view (2 ^ 32 - 1) (both _ _ e).0

pub view_of : (n : ℕ) (b : Bool) → (is_view n && b) ≡ true → n < 2 ^ 32 - 1
view_of n b e = ltb-true n (2 ^ 32 - 1) (both _ _ e).0

pub entry_there : (version cluster last op : ℕ) (body : List ℕ) → entry_fits version cluster last op body ≡ true → is_some (entry_of body) ≡ true
unfolding entry_fits
entry_there version cluster last op body e =
    let cases : (o : Option Whole) → option_map_or (is_at version cluster last op) (option_map (λ (x : Whole). x.header) o) false ≡ true → is_some o ≡ true =
    elim [
      | None ↦ λ t. absurd cc
      | Some x ↦ λ t. refl
    ] in
    cases (entry_of body) e

sync_log : (n : ℕ) (x y : Bool) → cond (ltb n 32) false (cond (not x) false y) ≡ true → (32 ≤ n) × (y ≡ true)
sync_log n x y e =
    let long = passed (ltb n 32) _ e in
    (ltb-false n 32 long.0, second x y long.1)
  where
    second : (x y : Bool) → cond (not x) false y ≡ true → y ≡ true
    second true y e = e
    second false y e = absurd cc

pub sync_readable : (h : Header) (body : List ℕ) → sync_fits h body ≡ true → (32 ≤ length body) × (h.aux ≤ h.op) × (are_headers (h.op - h.aux) (drop 32 body) ≡ true)
unfolding sync_fits
sync_readable h body e =
    let s = sync_log (length body) _ _ e in
    let l = log_found h (drop 32 body) s.1 in
    (s.0, l.0, l.1)

pub ruleset readable = (parts_readable, log_found, sync_readable, numbers, views, view_of, entry_there)
