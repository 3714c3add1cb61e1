-- Bytes that pass the tests are a message's.
use Rattle.std.proofs.Common.{◌≡◌, ℕ, zero, suc, ◌+◌, ◌-◌, ◌^◌, ◌≤◌, ◌<◌, Bool, true, false, cond, eqb, ltb, List, [], ◌++◌, length, take, drop, refl, sym, ap, ◌∙◌, arith, subst, length-take, Option, Some, None}
use Rattle.std.specs.Prelude.{◌&&◌, ◌||◌, IfSome, is_some, nat_eq, not, replicate}
use Rattle.std.specs.Int.{w16, w64}
use Rattle.std.specs.List.{prefix_len}
use Rattle.std.specs.Option.{option_map, option_map_or}
use Rattle.std.specs.Cmp.Lexicographic.{pointwise}
use Rattle.std.proofs.lemmas.Bool.{eqb-true, ltb-false, ltb-true}
use Rattle.std.proofs.lemmas.Slice.Eq.{bytes_eq-Decides}
use Rattle.vr_base.specs.declared.sum.Sum.{Sum}
use Rattle.vr_base.specs.Bytes.{IsBytes, bytes64, name_of, number, piece}
use Rattle.vr_base.proofs.FieldLaws.{IsBytes-piece, length-piece}
use Rattle.vr_header.specs.declared.command.Command.{Command}
use Rattle.vr_header.specs.declared.command.Command.TheVariants as command
use Rattle.vr_header.specs.declared.header.Header.{Header}
use Rattle.vr_header.specs.declared.operation.Operation.{Operation}
use Rattle.vr_header.specs.declared.outcome.Outcome.{Outcome}
use Rattle.vr_header.specs.Bodies.{IsOperation, IsOutcome, operation_bytes, operation_of, outcome_bytes, outcome_of}
use Rattle.vr_header.specs.Made.{IsEntry, Whole, entry_bytes, entry_of}
use Rattle.vr_header.specs.Names.{no_name}
use Rattle.vr_header.specs.Spelling.{IsHeader}
use Rattle.vr_header.proofs.BodyLaws.{operation_found, outcome_found}
use Rattle.vr_header.proofs.EntryLaws.{IsSpelled, entry_found}
use Rattle.vr_msg.specs.declared.frame.Frame.{Frame}
use Rattle.vr_msg.specs.declared.frame.Frame.TheVariants as frame
use Rattle.vr_msg.specs.declared.frame.SyncView.{SyncView}
use Rattle.vr_msg.specs.declared.reply.ReplyKind.{ReplyKind}
use Rattle.vr_msg.specs.declared.reply.ReplyKind.TheVariants as reply
use Rattle.vr_msg.specs.declared.statement.DvcBody.{DvcBody}
use Rattle.vr_msg.specs.declared.statement.Statement.{Statement}
use Rattle.vr_msg.specs.Asking.{IsKindValue, IsReplyKind}
use Rattle.vr_msg.specs.Forms.{IsFrame}
use Rattle.vr_msg.specs.Logs.{IsStatement}
use Rattle.vr_header.specs.Parts.{has_header}
use Rattle.vr_codec.specs.Reading.{body_at, frame_for, headers_at, kind_at, parts_at}
use Rattle.vr_codec.specs.Shapes.{body_fits, entry_fits, has_shape, is_asked, is_at, is_body, is_no_name, is_view, kind_fits, knows, log_fits, numbers_fit, parts_fit, sync_fits, tags_run, unused_names_are_zero, unused_numbers_are_zero, uses_aux, uses_client, uses_commit, uses_op, uses_parent, uses_replica, uses_request_name, uses_view}
use Rattle.vr_msg.specs.Spelling.{AreHeaders, IsBodyValue, body_bytes, frame_header, headers_bytes, kind_bytes, kind_number, kind_op, known, parts_bytes, sync_bytes}
use Rattle.vr_codec.proofs.Fitting.{PartsFound, asked_form, both, numbers, parts_found, views}
use Rattle.vr_codec.proofs.Lists.{HeadersFound, IsBytes-drop, at_found, headers_found, nothing}
use Rattle.vr_codec.proofs.Syncs.{sync_found, sync_spelled}
use Rattle.vr_msg.proofs.Short.{length-tags}
use Rattle.vr_codec.proofs.Parts.{PartsRead, body_spelled, last_found, last_says, parts_read, run_tags}

-- ---- the fields that the command has no use for

pub record Zeroed (c : Command) (h : Header) : Type 0 where
  pub parent : uses_parent c ≡ false → no_name ≡ h.parent
  pub request_name : uses_request_name c ≡ false → no_name ≡ h.request_name
  pub kind : uses_request_name c ≡ false → 0 ≡ h.kind
  pub client : uses_client c ≡ false → 0 ≡ h.client
  pub request : uses_client c ≡ false → 0 ≡ h.request
  pub view : uses_view c ≡ false → 0 ≡ h.view
  pub op : uses_op c ≡ false → 0 ≡ h.op
  pub commit : uses_commit c ≡ false → 0 ≡ h.commit
  pub replica : uses_replica c ≡ false → 0 ≡ h.replica
  pub aux : uses_aux c ≡ false → 0 ≡ h.aux

unused : (u z : Bool) → (u || z) ≡ true → u ≡ false → z ≡ true
unused true z e f = absurd cc
unused false z e f = e

no_number : (u : Bool) (n : ℕ) → (u || eqb n 0) ≡ true → u ≡ false → 0 ≡ n
no_number u n e f = sym (eqb-true n 0 (unused u (eqb n 0) e f))

no_sum : (u : Bool) (s : Sum) → (u || is_no_name s) ≡ true → u ≡ false → no_name ≡ s
no_sum u s e f =
    let bytes = (bytes_eq-Decides s.0 (replicate 16 0)).0 (unused u (is_no_name s) e f) in
    ap (λ (b : List ℕ). let x : Sum = record { 0 = b } in x) (sym bytes)

next : (t x : Bool) → cond (not t) false x ≡ true → (t ≡ true) × (x ≡ true)
next true x e = (refl, e)
next false x e = absurd cc

zeroed : (h : Header) → unused_names_are_zero h ≡ true → unused_numbers_are_zero h ≡ true → Zeroed h.command h
unfolding unused_names_are_zero unused_numbers_are_zero
zeroed h e f =
    let parent = next (uses_parent h.command || is_no_name h.parent) _ e in
    let request_name = next (uses_request_name h.command || is_no_name h.request_name) _ parent.1 in
    let kind = next (uses_request_name h.command || eqb h.kind 0) _ request_name.1 in
    let client = next (uses_client h.command || eqb h.client 0) _ kind.1 in
    let view = next (uses_view h.command || eqb h.view 0) _ f in
    let op = next (uses_op h.command || eqb h.op 0) _ view.1 in
    let commit = next (uses_commit h.command || eqb h.commit 0) _ op.1 in
    let replica = next (uses_replica h.command || eqb h.replica 0) _ commit.1 in
    record {
      parent = no_sum (uses_parent h.command) h.parent parent.0;
      request_name = no_sum (uses_request_name h.command) h.request_name request_name.0;
      kind = no_number (uses_request_name h.command) h.kind kind.0;
      client = no_number (uses_client h.command) h.client client.0;
      request = no_number (uses_client h.command) h.request client.1;
      view = no_number (uses_view h.command) h.view view.0;
      op = no_number (uses_op h.command) h.op op.0;
      commit = no_number (uses_commit h.command) h.commit commit.0;
      replica = no_number (uses_replica h.command) h.replica replica.0;
      aux = no_number (uses_aux h.command) h.aux replica.1;
    }

-- ---- what all commands share

pub record Base (c : Command) (h : Header) (body : List ℕ) : Type 0 where
  pub command : c ≡ h.command
  pub zero : Zeroed c h
  pub name : name_of body ≡ h.body.0
  pub size : 128 + length body ≡ h.size
  pub view : h.view < 2 ^ 32 - 1
  pub op : h.op ≤ 2 ^ 62
  pub commit : h.commit ≤ 2 ^ 62
  pub bytes : IsBytes body

-- the message of a header and its body
pub record Found (c : Command) (h : Header) (body : List ℕ) : Type 0 where
  pub message : Frame
  pub read : frame_for c h body ≡ Some message
  pub header : frame_header message ≡ h
  pub form : IsFrame message
  pub values : IsBodyValue message
  pub spelled : body_bytes message ≡ body

abbrev pub header_with : List ℕ → ℕ → Sum → Sum → ℕ → ℕ → ℕ → ℕ → ℕ → ℕ → Command → ℕ → ℕ → ℕ → Header
header_with t version parent request_name cluster client request view op commit c replica kind aux = record {
  body = record { 0 = name_of t };
  parent = parent;
  request_name = request_name;
  cluster = cluster;
  client = client;
  request = request;
  view = view;
  op = op;
  commit = commit;
  size = 128 + length t;
  command = c;
  replica = replica;
  version = version;
  kind = kind;
  aux = aux;
}

header_is : (c : Command) (h : Header) (body t : List ℕ) (parent request_name : Sum) (cluster client request view op commit replica kind aux : ℕ) → Base c h body → t ≡ body
    → parent ≡ h.parent → request_name ≡ h.request_name → cluster ≡ h.cluster → client ≡ h.client → request ≡ h.request → view ≡ h.view → op ≡ h.op → commit ≡ h.commit
    → replica ≡ h.replica → kind ≡ h.kind → aux ≡ h.aux → header_with t h.version parent request_name cluster client request view op commit c replica kind aux ≡ h
header_is c h body t parent request_name cluster client request view op commit replica kind aux b e p r cl ci re vi o co rp k a =
    let name : name_of t ≡ h.body.0 = ap name_of e ∙ b.name in
    let size : 128 + length t ≡ h.size = ap (λ x. 128 + length x) e ∙ b.size in
    let command = b.command in
    rw (name, size, p, r, cl, ci, re, vi, o, co, command, rp, k, a) refl

-- ---- kind by kind

no_operation : (version request : ℕ) (body : List ℕ) → is_asked version request body ≡ true → operation_of version body ≡ None → ⊥
unfolding is_asked
no_operation version request body a r = let e = rw r at a in cc

operation_there : (version : ℕ) (body : List ℕ) (o : Operation) → IsBytes body → operation_of version body ≡ Some o → (body ≡ operation_bytes o) × IsOperation version o
operation_there version body o i r = let P : Option Operation → Type 0 = λ x. IfSome x (λ o. (body ≡ operation_bytes o) × IsOperation version o) in subst P r (operation_found version body i)

request_found : (h : Header) (body : List ℕ) → Base command.Request h body → is_asked h.version h.request body ≡ true → Found command.Request h body
request_found h body b a =
    let cases : (o : Option Operation) → operation_of h.version body ≡ o → Found command.Request h body =
    elim [
      | None ↦ λ r. absurd (no_operation h.version h.request body a r)
      | Some o ↦ λ r.
          let z = b.zero in
          let s = operation_there h.version body o b.bytes r in
          record {
            message = frame.Request (record { version = h.version; cluster = h.cluster; client = h.client; request = h.request; operation = o });
            read = rw r refl;
            header = header_is command.Request h body (operation_bytes o) no_name no_name h.cluster h.client h.request 0 0 0 0 0 0 b (sym s.0) (z.parent refl) (z.request_name refl) refl refl refl
                (z.view refl) (z.op refl) (z.commit refl) (z.replica refl) (z.kind refl) (z.aux refl);
            form = record { first = asked_form h.version h.request body o a r s.0 s.1; fits = s.1 };
            values = tt;
            spelled = sym s.0;
          }
    ] in
    cases (operation_of h.version body) refl

-- the kind of a reply
record KindFound (version kind op : ℕ) (body : List ℕ) : Type 0 where
  it : ReplyKind
  read : kind_at version kind op body ≡ Some it
  number : kind_number it ≡ kind
  at_op : kind_op it ≡ op
  form : IsReplyKind it
  values : IsKindValue version it
  spelled : kind_bytes it ≡ body

outcome_there : (version : ℕ) (body : List ℕ) (o : Outcome) → IsBytes body → outcome_of version body ≡ Some o → (body ≡ outcome_bytes o) × IsOutcome version o
outcome_there version body o i r = let P : Option Outcome → Type 0 = λ x. IfSome x (λ o. (body ≡ outcome_bytes o) × IsOutcome version o) in subst P r (outcome_found version body i)

outcome_kind : (version op : ℕ) (body : List ℕ) → IsBytes body → op ≤ 2 ^ 62 → kind_fits version 1 op body ≡ true → KindFound version 1 op body
unfolding kind_fits kind_at
outcome_kind version op body i l e =
    let cases : (o : Option Outcome) → outcome_of version body ≡ o → is_some o ≡ true → KindFound version 1 op body =
    elim [
      | None ↦ λ r t. absurd cc
      | Some o ↦ λ r t.
          let s = outcome_there version body o i r in
          record {
            it = reply.Outcome (record { op = op; outcome = o });
            read = rw r refl;
            number = refl;
            at_op = refl;
            form = l;
            values = s.1;
            spelled = sym s.0;
          }
    ] in
    cases (outcome_of version body) refl e

bare_kind : (op : ℕ) (body : List ℕ) → (eqb op 0 && eqb (length body) 0) ≡ true → (0 ≡ op) × ([] ≡ body)
bare_kind op body e = let p = both (eqb op 0) (eqb (length body) 0) e in (sym (eqb-true op 0 p.0), nothing body p.1)

kind_range : (kind : ℕ) (x : Bool) → cond (eqb kind 0) false (cond (ltb 6 kind) false x) ≡ true → (1 ≤ kind) × (kind ≤ 6)
kind_range kind x e =
    let cases : (t u : Bool) → eqb kind 0 ≡ t → ltb 6 kind ≡ u → cond t false (cond u false x) ≡ true → (1 ≤ kind) × (kind ≤ 6) =
    elim [
      | true ↦ λ u p q f. absurd cc
      | false ↦ elim [
        | true ↦ λ p q f. absurd cc
        | false ↦ λ p q f. (some_kind kind p, ltb-false 6 kind q)
      ]
    ] in
    cases (eqb kind 0) (ltb 6 kind) refl refl e
  where
    some_kind : (n : ℕ) → eqb n 0 ≡ false → 1 ≤ n
    some_kind zero p = absurd cc
    some_kind (suc n) p = omega arith

at_most_six : (version kind op : ℕ) (body : List ℕ) → kind_fits version kind op body ≡ true → (1 ≤ kind) × (kind ≤ 6)
unfolding kind_fits
at_most_six version kind op body e =
    let one : (t : Bool) (x : Bool) → eqb kind 1 ≡ t → cond t x (cond (eqb kind 0) false (cond (ltb 6 kind) false (eqb op 0 && eqb (length body) 0))) ≡ true → (1 ≤ kind) × (kind ≤ 6) =
    elim [
      | true ↦ λ x t f. let k = eqb-true kind 1 t in (omega arith, omega arith)
      | false ↦ λ x t f. (kind_range kind (eqb op 0 && eqb (length body) 0) f)
    ] in
    one (eqb kind 1) (is_some (outcome_of version body)) refl e

old_kind : (version op : ℕ) (body : List ℕ) → kind_fits version 2 op body ≡ true → KindFound version 2 op body
unfolding kind_fits kind_at
old_kind version op body e = let p = bare_kind op body e in record { it = reply.Old; read = refl; number = refl; at_op = p.0; form = tt; values = tt; spelled = p.1 }

gap_kind : (version op : ℕ) (body : List ℕ) → kind_fits version 3 op body ≡ true → KindFound version 3 op body
unfolding kind_fits kind_at
gap_kind version op body e = let p = bare_kind op body e in record { it = reply.Gap; read = refl; number = refl; at_op = p.0; form = tt; values = tt; spelled = p.1 }

evicted_kind : (version op : ℕ) (body : List ℕ) → kind_fits version 4 op body ≡ true → KindFound version 4 op body
unfolding kind_fits kind_at
evicted_kind version op body e = let p = bare_kind op body e in record { it = reply.Evicted; read = refl; number = refl; at_op = p.0; form = tt; values = tt; spelled = p.1 }

busy_kind : (version op : ℕ) (body : List ℕ) → kind_fits version 5 op body ≡ true → KindFound version 5 op body
unfolding kind_fits kind_at
busy_kind version op body e = let p = bare_kind op body e in record { it = reply.Busy; read = refl; number = refl; at_op = p.0; form = tt; values = tt; spelled = p.1 }

redirect_kind : (version op : ℕ) (body : List ℕ) → kind_fits version 6 op body ≡ true → KindFound version 6 op body
unfolding kind_fits kind_at
redirect_kind version op body e = let p = bare_kind op body e in record { it = reply.Redirect; read = refl; number = refl; at_op = p.0; form = tt; values = tt; spelled = p.1 }

by_number : (version kind op : ℕ) (body : List ℕ) → IsBytes body → op ≤ 2 ^ 62 → kind_fits version kind op body ≡ true → 1 ≤ kind → kind ≤ 6 → KindFound version kind op body
by_number version zero op body i l e g k = absurd (omega arith)
by_number version (suc zero) op body i l e g k = outcome_kind version op body i l e
by_number version (suc (suc zero)) op body i l e g k = old_kind version op body e
by_number version (suc (suc (suc zero))) op body i l e g k = gap_kind version op body e
by_number version (suc (suc (suc (suc zero)))) op body i l e g k = evicted_kind version op body e
by_number version (suc (suc (suc (suc (suc zero))))) op body i l e g k = busy_kind version op body e
by_number version (suc (suc (suc (suc (suc (suc zero)))))) op body i l e g k = redirect_kind version op body e
by_number version (suc (suc (suc (suc (suc (suc (suc n))))))) op body i l e g k = absurd (omega arith)

kind_found : (version kind op : ℕ) (body : List ℕ) → IsBytes body → op ≤ 2 ^ 62 → kind_fits version kind op body ≡ true → KindFound version kind op body
kind_found version kind op body i l e =
    let range = at_most_six version kind op body e in
    by_number version kind op body i l e range.0 range.1

reply_found : (h : Header) (body : List ℕ) → Base command.Reply h body → kind_fits h.version h.kind h.op body ≡ true → Found command.Reply h body
reply_found h body b e =
    let k = kind_found h.version h.kind h.op body b.bytes b.op e in
    let z = b.zero in
    record {
      message = frame.Reply (record {
        version = h.version;
        cluster = h.cluster;
        replica = h.replica;
        view = h.view;
        client = h.client;
        request = h.request;
        request_name = h.request_name;
        kind = k.it;
      });
      read = rw k.read refl;
      header = header_is command.Reply h body (kind_bytes k.it) no_name h.request_name h.cluster h.client h.request h.view (kind_op k.it) 0 h.replica (kind_number k.it) 0 b k.spelled
          (z.parent refl) refl refl refl refl refl k.at_op (z.commit refl) refl k.number (z.aux refl);
      form = record { view = b.view; kind = k.form; fits = k.values };
      values = tt;
      spelled = k.spelled;
    }

-- an entry of the frame's version or an earlier one, and of its group and op
record EntryFound (version cluster last op : ℕ) (body : List ℕ) : Type 0 where
  it : Whole
  read : entry_of body ≡ Some it
  spelled : body ≡ entry_bytes it
  form : IsEntry it
  values : IsHeader it.header
  of_version : it.header.version ≤ version
  of_group : it.header.cluster ≡ cluster
  at_op : it.header.op ≡ op
  made : it.header.view ≤ last

entry_there : (version cluster last op : ℕ) (body : List ℕ) → IsBytes body → entry_fits version cluster last op body ≡ true → EntryFound version cluster last op body
unfolding entry_fits
entry_there version cluster last op body i e =
    let cases : (o : Option Whole) → entry_of body ≡ o → IfSome o (IsSpelled body) → option_map_or (is_at version cluster last op) (option_map (λ (e : Whole). e.header) o) false ≡ true
    → EntryFound version cluster last op body =
    elim [
      | None ↦ λ r s t. absurd cc
      | Some x ↦ λ r s t.
          let place = at_found version cluster last op x.header t in
          record { it = x; read = r; spelled = s.0; form = s.1; values = s.2; of_version = place.0; of_group = place.1; at_op = place.2; made = place.3 }
    ] in
    cases (entry_of body) refl (entry_found body i) e

prepare_found : (h : Header) (body : List ℕ) → Base command.Prepare h body → entry_fits h.version h.cluster h.view h.op body ≡ true → Found command.Prepare h body
prepare_found h body b e =
    let x = entry_there h.version h.cluster h.view h.op body b.bytes e in
    let z = b.zero in
    record {
      message = frame.Prepare (record { version = h.version; replica = h.replica; view = h.view; commit = h.commit; entry = x.it });
      read = rw x.read refl;
      header = header_is command.Prepare h body (entry_bytes x.it) no_name no_name x.it.header.cluster 0 0 h.view x.it.header.op h.commit h.replica 0 0 b (sym x.spelled)
          (z.parent refl) (z.request_name refl) x.of_group (z.client refl) (z.request refl) refl x.at_op refl refl (z.kind refl) (z.aux refl);
      form = record { view = b.view; commit = b.commit; entry = x.form; made = x.made; of_version = x.of_version };
      values = x.values;
      spelled = sym x.spelled;
    }

give_prepare_found : (h : Header) (body : List ℕ) → Base command.GivePrepare h body → entry_fits h.version h.cluster (2 ^ 32 - 2) h.op body ≡ true → Found command.GivePrepare h body
give_prepare_found h body b e =
    let x = entry_there h.version h.cluster (2 ^ 32 - 2) h.op body b.bytes e in
    let z = b.zero in
    record {
      message = frame.GivePrepare (record { version = h.version; replica = h.replica; entry = x.it });
      read = rw x.read refl;
      header = header_is command.GivePrepare h body (entry_bytes x.it) no_name no_name x.it.header.cluster 0 0 0 x.it.header.op 0 h.replica 0 0 b (sym x.spelled)
          (z.parent refl) (z.request_name refl) x.of_group (z.client refl) (z.request refl) (z.view refl) x.at_op (z.commit refl) refl (z.kind refl) (z.aux refl);
      form = record { entry = x.form; of_version = x.of_version };
      values = x.values;
      spelled = sym x.spelled;
    }

-- ---- kinds without a body

view_found : (n : ℕ) (body : List ℕ) → (is_view n && eqb (length body) 0) ≡ true → (n < 2 ^ 32 - 1) × ([] ≡ body)
view_found n body e = let p = both (is_view n) (eqb (length body) 0) e in (ltb-true n (2 ^ 32 - 1) p.0, nothing body p.1)

prepare_ok_found : (h : Header) (body : List ℕ) → Base command.PrepareOk h body → (is_view h.aux && eqb (length body) 0) ≡ true → Found command.PrepareOk h body
prepare_ok_found h body b e =
    let p = view_found h.aux body e in
    let z = b.zero in
    record {
      message = frame.PrepareOk (record { version = h.version; cluster = h.cluster; replica = h.replica; view = h.view; op = h.op; name = h.parent; made = h.aux });
      read = refl;
      header = header_is command.PrepareOk h body [] h.parent no_name h.cluster 0 0 h.view h.op 0 h.replica 0 h.aux b p.1
          refl (z.request_name refl) refl (z.client refl) (z.request refl) refl refl (z.commit refl) refl (z.kind refl) refl;
      form = record { view = b.view; op = b.op; made = p.0 };
      values = tt;
      spelled = p.1;
    }

commit_found : (h : Header) (body : List ℕ) → Base command.Commit h body → eqb (length body) 0 ≡ true → Found command.Commit h body
commit_found h body b e =
    let z = b.zero in
    record {
      message = frame.Commit (record { version = h.version; cluster = h.cluster; replica = h.replica; view = h.view; head = h.op; commit = h.commit });
      read = refl;
      header = header_is command.Commit h body [] no_name no_name h.cluster 0 0 h.view h.op h.commit h.replica 0 0 b (nothing body e)
          (z.parent refl) (z.request_name refl) refl (z.client refl) (z.request refl) refl refl refl refl (z.kind refl) (z.aux refl);
      form = record { view = b.view; head = b.op; commit = b.commit };
      values = tt;
      spelled = nothing body e;
    }

start_view_change_found : (h : Header) (body : List ℕ) → Base command.StartViewChange h body → eqb (length body) 0 ≡ true → Found command.StartViewChange h body
start_view_change_found h body b e =
    let z = b.zero in
    record {
      message = frame.StartViewChange (record { version = h.version; cluster = h.cluster; replica = h.replica; view = h.view });
      read = refl;
      header = header_is command.StartViewChange h body [] no_name no_name h.cluster 0 0 h.view 0 0 h.replica 0 0 b (nothing body e)
          (z.parent refl) (z.request_name refl) refl (z.client refl) (z.request refl) refl (z.op refl) (z.commit refl) refl (z.kind refl) (z.aux refl);
      form = b.view;
      values = tt;
      spelled = nothing body e;
    }

get_view_found : (h : Header) (body : List ℕ) → Base command.GetView h body → eqb (length body) 0 ≡ true → Found command.GetView h body
get_view_found h body b e =
    let z = b.zero in
    record {
      message = frame.GetView (record { version = h.version; cluster = h.cluster; replica = h.replica; view = h.view });
      read = refl;
      header = header_is command.GetView h body [] no_name no_name h.cluster 0 0 h.view 0 0 h.replica 0 0 b (nothing body e)
          (z.parent refl) (z.request_name refl) refl (z.client refl) (z.request refl) refl (z.op refl) (z.commit refl) refl (z.kind refl) (z.aux refl);
      form = b.view;
      values = tt;
      spelled = nothing body e;
    }

get_prepare_found : (h : Header) (body : List ℕ) → Base command.GetPrepare h body → (is_view h.aux && eqb (length body) 0) ≡ true → Found command.GetPrepare h body
get_prepare_found h body b e =
    let p = view_found h.aux body e in
    let z = b.zero in
    record {
      message = frame.GetPrepare (record { version = h.version; cluster = h.cluster; replica = h.replica; op = h.op; name = h.parent; made = h.aux });
      read = refl;
      header = header_is command.GetPrepare h body [] h.parent no_name h.cluster 0 0 0 h.op 0 h.replica 0 h.aux b p.1
          refl (z.request_name refl) refl (z.client refl) (z.request refl) (z.view refl) refl (z.commit refl) refl (z.kind refl) refl;
      form = record { op = b.op; made = p.0 };
      values = tt;
      spelled = p.1;
    }

get_block_found : (h : Header) (body : List ℕ) → Base command.GetBlock h body → eqb (length body) 0 ≡ true → Found command.GetBlock h body
get_block_found h body b e =
    let z = b.zero in
    record {
      message = frame.GetBlock (record { version = h.version; cluster = h.cluster; replica = h.replica; address = h.aux; name = h.parent });
      read = refl;
      header = header_is command.GetBlock h body [] h.parent no_name h.cluster 0 0 0 0 0 h.replica 0 h.aux b (nothing body e)
          refl (z.request_name refl) refl (z.client refl) (z.request refl) (z.view refl) (z.op refl) (z.commit refl) refl (z.kind refl) refl;
      form = tt;
      values = tt;
      spelled = nothing body e;
    }

-- ---- blocks and logs

give_block_found : (h : Header) (body : List ℕ) → Base command.GiveBlock h body → eqb (length body) 4096 ≡ true → Found command.GiveBlock h body
give_block_found h body b e =
    let z = b.zero in
    record {
      message = frame.GiveBlock (record { version = h.version; cluster = h.cluster; replica = h.replica; address = h.aux; block = body });
      read = refl;
      header = header_is command.GiveBlock h body body no_name no_name h.cluster 0 0 0 0 0 h.replica 0 h.aux b refl
          (z.parent refl) (z.request_name refl) refl (z.client refl) (z.request refl) (z.view refl) (z.op refl) (z.commit refl) refl (z.kind refl) refl;
      form = eqb-true (length body) 4096 e;
      values = tt;
      spelled = refl;
    }

before : (t x : Bool) → cond t false x ≡ true → (t ≡ false) × (x ≡ true)
before true x e = absurd cc
before false x e = (refl, e)

-- the tests of a log
record LogFound (h : Header) (body : List ℕ) : Type 0 where
  commit : h.commit ≤ h.op
  lo : h.aux ≤ h.op
  short : h.op - h.aux ≤ 64
  headers : HeadersFound h.version h.cluster h.view (h.aux + 1) (h.op - h.aux) body

log_there : (h : Header) (body : List ℕ) → IsBytes body → log_fits h body ≡ true → LogFound h body
unfolding log_fits
log_there h body i e =
    let commit = before (ltb h.op h.commit) _ e in
    let lo = before (ltb h.op h.aux) _ commit.1 in
    let short = before (ltb 64 (h.op - h.aux)) _ lo.1 in
    record {
      commit = ltb-false h.op h.commit commit.0;
      lo = ltb-false h.op h.aux lo.0;
      short = ltb-false 64 (h.op - h.aux) short.0;
      headers = headers_found h.version h.cluster h.view (h.aux + 1) (h.op - h.aux) body i short.1;
    }

start_view_found : (h : Header) (body : List ℕ) → Base command.StartView h body → log_fits h body ≡ true → Found command.StartView h body
start_view_found h body b e =
    let l = log_there h body b.bytes e in
    let hs = headers_at (h.op - h.aux) body in
    let n : length hs ≡ h.op - h.aux = l.headers.count in
    let lo = l.lo in
    let short = l.short in
    let z = b.zero in
    record {
      message = frame.StartView (record {
        version = h.version;
        cluster = h.cluster;
        replica = h.replica;
        view = h.view;
        head = h.op;
        commit = h.commit;
        body = record { lo = h.aux; headers = hs };
      });
      read = refl;
      header = header_is command.StartView h body (headers_bytes hs) no_name no_name h.cluster 0 0 h.view h.op h.commit h.replica 0 h.aux b l.headers.spelled
          (z.parent refl) (z.request_name refl) refl (z.client refl) (z.request refl) refl refl refl refl (z.kind refl) refl;
      form = record { view = b.view; head = b.op; commit = l.commit; count = omega arith; short = omega arith; headers = l.headers.entries };
      values = l.headers.values;
      spelled = l.headers.spelled;
    }

get_sync_found : (h : Header) (body : List ℕ) → Base command.GetSync h body → eqb (length body) 0 ≡ true → Found command.GetSync h body
get_sync_found h body b e =
    let z = b.zero in
    record {
      message = frame.GetSync (record { version = h.version; cluster = h.cluster; replica = h.replica; view = h.view });
      read = refl;
      header = header_is command.GetSync h body [] no_name no_name h.cluster 0 0 h.view 0 0 h.replica 0 0 b (nothing body e)
          (z.parent refl) (z.request_name refl) refl (z.client refl) (z.request refl) refl (z.op refl) (z.commit refl) refl (z.kind refl) (z.aux refl);
      form = b.view;
      values = tt;
      spelled = nothing body e;
    }

-- a log after a checkpoint
sync_view_found : (h : Header) (body : List ℕ) → Base command.SyncView h body → sync_fits h body ≡ true → Found command.SyncView h body
sync_view_found h body b e =
    let s = sync_found h body e in
    let rest = drop 32 body in
    let l = log_there h rest (IsBytes-drop 32 body b.bytes) s.log in
    let hs = headers_at (h.op - h.aux) rest in
    let n : length hs ≡ h.op - h.aux = l.headers.count in
    let lo = l.lo in
    let short = l.short in
    let z = b.zero in
    let v : SyncView = record {
      version = h.version;
      cluster = h.cluster;
      replica = h.replica;
      view = h.view;
      head = h.op;
      commit = h.commit;
      checkpoint = number w64 0 body;
      root_address = number w64 8 body;
      root_name = record { 0 = piece 16 16 body };
      body = record { lo = h.aux; headers = hs };
    } in
    let spelled : sync_bytes v ≡ body =
    ap (λ x. bytes64 (number w64 0 body) ++ (bytes64 (number w64 8 body) ++ (piece 16 16 body ++ x))) l.headers.spelled ∙ sync_spelled body b.bytes s.long in
    record {
      message = frame.SyncView v;
      read = refl;
      header = header_is command.SyncView h body (sync_bytes v) no_name no_name h.cluster 0 0 h.view h.op h.commit h.replica 0 h.aux b spelled
          (z.parent refl) (z.request_name refl) refl (z.client refl) (z.request refl) refl refl refl refl (z.kind refl) refl;
      form = record {
        view = b.view;
        head = b.op;
        order = (s.above, s.committed, l.commit);
        every = s.every;
        address = s.address;
        count = omega arith;
        short = omega arith;
        headers = l.headers.entries;
      };
      values = ((length-piece 16 16 body s.long, IsBytes-piece 16 16 body b.bytes), l.headers.values);
      spelled = spelled;
    }

-- the tests of a statement
record RunFound (head first : ℕ) (ts : List ℕ) : Type 0 where
  run : first + prefix_len knows ts ≡ head + 1
  short : prefix_len knows ts ≤ 64
  says : last_says ts ≡ true

run_there : (head first : ℕ) (ts : List ℕ) → tags_run head first ts ≡ true → RunFound head first ts
unfolding tags_run
run_there head first ts e =
    let short = before (ltb 64 (prefix_len knows ts)) _ e in
    let run = next (eqb (first + prefix_len knows ts) (head + 1)) _ short.1 in
    record { run = eqb-true (first + prefix_len knows ts) (head + 1) run.0; short = ltb-false 64 (prefix_len knows ts) short.0; says = run.1 }

-- the statement that is read is one
statement_form : (h : Header) (body : List ℕ) (d : DvcBody) → h.op ≤ 2 ^ 62 → PartsFound h body → body_at body ≡ d
    → PartsRead h.version h.cluster h.aux (number w64 0 body) (take (number w16 8 body) (drop 10 body)) (drop (10 + number w16 8 body) body)
    → (let s : Statement = record { log_view = h.aux; commit = h.commit; head = h.op; body = d } in IsStatement h.version h.cluster s)
unfolding body_at
statement_form h body d l p e r =
    let first = number w64 0 body in
    let ts = take (number w16 8 body) (drop 10 body) in
    let ps = parts_at ts (drop (10 + number w16 8 body) body) in
    let run = run_there h.op first ts p.statement.run in
    let same : prefix_len has_header ps ≡ prefix_len knows ts = sym (run_tags ps) ∙ ap (prefix_len knows) r.tags in
    let count : length ps ≤ 128 =
    (let a : length ts ≡ length ps = ap length (sym r.tags) ∙ length-tags ps in let c = p.count in let t = length-take (number w16 8 body) (drop 10 body) in omega arith) in
    let s : Statement = record { log_view = h.aux; commit = h.commit; head = h.op; body = record { first = first; parts = ps } } in
    let form : IsStatement h.version h.cluster s = record {
      commit = p.statement.commit;
      head = l;
      first = (p.statement.one, p.statement.reach);
      run = ap (λ n. first + n) same ∙ run.run;
      short = (let a = run.short in omega arith);
      count = count;
      last = last_found ps (ap last_says r.tags ∙ run.says);
      parts = r.parts;
    } in
    subst (λ (x : DvcBody). let s : Statement = record { log_view = h.aux; commit = h.commit; head = h.op; body = x } in IsStatement h.version h.cluster s) e form

statement_values : (body : List ℕ) (d : DvcBody) → body_at body ≡ d
    → AreHeaders (known (parts_at (take (number w16 8 body) (drop 10 body)) (drop (10 + number w16 8 body) body))) → AreHeaders (known d.parts)
unfolding body_at
statement_values body d e a = subst (λ (x : DvcBody). AreHeaders (known x.parts)) e a

do_view_change_found : (h : Header) (body : List ℕ) → Base command.DoViewChange h body → parts_fit h body ≡ true → Found command.DoViewChange h body
do_view_change_found h body b e =
    let p = parts_found h body e in
    let count = number w16 8 body in
    let rest = drop (10 + count) body in
    let r = parts_read h.version h.cluster h.aux (number w64 0 body) (take count (drop 10 body)) rest (IsBytes-drop (10 + count) body b.bytes) p.statement.known in
    let spelled = body_spelled h.version h.cluster h.aux body b.bytes p.long r in
    let z = b.zero in
    record {
      message = frame.DoViewChange (record {
        version = h.version;
        cluster = h.cluster;
        replica = h.replica;
        view = h.view;
        statement = record { log_view = h.aux; commit = h.commit; head = h.op; body = body_at body };
      });
      read = refl;
      header = header_is command.DoViewChange h body (parts_bytes (body_at body)) no_name no_name h.cluster 0 0 h.view h.op h.commit h.replica 0 h.aux b spelled
          (z.parent refl) (z.request_name refl) refl (z.client refl) (z.request refl) refl refl refl refl (z.kind refl) refl;
      form = record { view = b.view; log_view = p.statement.log_view; statement = statement_form h body (body_at body) b.op p refl r };
      values = statement_values body (body_at body) refl r.values;
      spelled = spelled;
    }

-- ---- all kinds

kind_by_kind : (c : Command) (h : Header) (body : List ℕ) → Base c h body → body_fits c h body ≡ true → Found c h body
kind_by_kind command.Reserved h body b e = absurd cc
kind_by_kind command.Root h body b e = absurd cc
kind_by_kind command.Entry h body b e = absurd cc
kind_by_kind command.Request h body b e = request_found h body b e
kind_by_kind command.Reply h body b e = reply_found h body b e
kind_by_kind command.Prepare h body b e = prepare_found h body b e
kind_by_kind command.PrepareOk h body b e = prepare_ok_found h body b e
kind_by_kind command.Commit h body b e = commit_found h body b e
kind_by_kind command.StartViewChange h body b e = start_view_change_found h body b e
kind_by_kind command.DoViewChange h body b e = do_view_change_found h body b e
kind_by_kind command.StartView h body b e = start_view_found h body b e
kind_by_kind command.GetView h body b e = get_view_found h body b e
kind_by_kind command.GetPrepare h body b e = get_prepare_found h body b e
kind_by_kind command.GivePrepare h body b e = give_prepare_found h body b e
kind_by_kind command.GetBlock h body b e = get_block_found h body b e
kind_by_kind command.GiveBlock h body b e = give_block_found h body b e
kind_by_kind command.Block h body b e = absurd cc
kind_by_kind command.GetSync h body b e = get_sync_found h body b e
kind_by_kind command.SyncView h body b e = sync_view_found h body b e

pub record ShapeFound (h : Header) (body : List ℕ) : Type 0 where
  pub numbers : numbers_fit h ≡ true
  pub fits : body_fits h.command h body ≡ true
  pub zero : Zeroed h.command h

pub shape_found : (h : Header) (body : List ℕ) → has_shape h body ≡ true → ShapeFound h body
unfolding has_shape
shape_found h body e =
    let names = next (unused_names_are_zero h) _ e in
    let unused = next (unused_numbers_are_zero h) _ names.1 in
    let numbers = next (numbers_fit h) _ unused.1 in
    record { numbers = numbers.0; fits = numbers.1; zero = zeroed h names.0 unused.0 }

pub body_found : (h : Header) (body : List ℕ) → is_body h body ≡ true → (128 + length body ≡ h.size) × (name_of body ≡ h.body.0)
unfolding is_body
body_found h body e =
    let p = both (eqb h.size (128 + length body)) (pointwise nat_eq h.body.0 (name_of body)) e in
    (sym (eqb-true h.size (128 + length body) p.0), sym ((bytes_eq-Decides h.body.0 (name_of body)).0 p.1))

pub found : (h : Header) (body : List ℕ) → IsBytes body → is_body h body ≡ true → has_shape h body ≡ true → Found h.command h body
found h body i n e =
    let s = shape_found h body e in
    let b = body_found h body n in
    let o = numbers h s.numbers in
    kind_by_kind h.command h body (record { command = refl; zero = s.zero; name = b.1; size = b.0; view = views h s.numbers; op = o.0; commit = o.1; bytes = i }) s.fits
