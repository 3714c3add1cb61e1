-- What a member put out in a reply to a client's request is what the log says to it.
use Rattle.std.proofs.Common.{ℕ, ◌+◌, ◌-◌, ◌^◌, ◌<◌, ◌≤◌, ◌≡◌, ◌∙◌, arith, sym, ap, subst, List, Some}
use Rattle.std.specs.Prelude.{slice_get, take}
use Rattle.vr_base.specs.declared.kind.Kind.{Kind}
use Rattle.vr_client.specs.declared.answer.Answer.{Answer}
use Rattle.vr_client.specs.declared.answer.Answer.TheVariants as answer
use Rattle.vr_header.specs.Made.{Whole}
use Rattle.vr_header.specs.Names.{header_name}
use Rattle.vr_header.specs.NoCollision.{NoCollision}
use Rattle.vr_header.specs.Spelling.{IsHeader}
use Rattle.vr_header.specs.declared.header.Header.{Header}
use Rattle.vr_header.proofs.NameLaws.{one_header}
use Rattle.vr_msg.specs.declared.output.Committed.{Committed}
use Rattle.vr_msg.specs.declared.output.Output.{Output}
use Rattle.vr_msg.specs.declared.output.Output.TheVariants as output
use Rattle.vr_msg.specs.declared.output.Sent.{Sent}
use Rattle.vr_msg.specs.declared.reply.ReplyFields.{ReplyFields}
use Rattle.vr_msg.specs.declared.reply.ReplyKind.{ReplyKind}
use Rattle.vr_msg.specs.declared.request.RequestFields.{RequestFields}
use Rattle.vr_rules.specs.Fit.{IsAsked}
use Rattle.vr_world.specs.Commitment.{IsReplyOf, lines_by}
use Rattle.vr_world.specs.Group.{Asked, Played}
use Rattle.vr_world.specs.Lying.{Lying}
use Rattle.vr_rules.specs.Opening.{AreKinds}
use Rattle.vr_world.specs.World.{Host}
use Rattle.vr_world.specs.Safe.{IsTrueReply, applied_then, run_outputs}
use Rattle.vr_rules.proofs.FitMessages.{asked_may_come}
use Rattle.law_1_machine.specs.Basics.{In}
use Rattle.law_3_outputs.specs.Followed.{IsFitRun}
use Rattle.law_2_chains.proofs.StoredLists.{in_contains}
use Rattle.law_3_outputs.proofs.Sets.{in_get}
use Rattle.law_6_one_log.specs.Outputs.{IsTrueAnswer, RestsOn}
use Rattle.law_6_one_log.proofs.Traces.{said_in}
use Rattle.law_7_members.specs.Files.{ActBy, act_by, Handles}
use Rattle.law_7_members.specs.Whole.{KeepOneLog, all_said, world_of}
use Rattle.law_9_answers.specs.Heard.{HasReached, IsNamed, IsOfLog, Says, Heard, as_entry, itself, kind_of}
use Rattle.law_9_answers.specs.Heard as named
use Rattle.law_9_asked.specs.Asked.{asked_by, header_of}
use Rattle.law_9_asked.proofs.Executing.{executed}
use Rattle.law_9_answers.proofs.Making.{IsOfRequest, lines_asked}
use Rattle.law_9_answers.proofs.Coming.{ComesFrom, comes_from}
use Rattle.law_9_answers.proofs.Coming as coming
use Rattle.law_9_answers.proofs.Hearing.{IsGiven}

-- ---- what the log says

says_of : (log : List Whole) (lines m : ℕ) (r : ReplyFields) (q : RequestFields) (a : Answer) → r.client ≡ q.client → r.request ≡ q.request → IsReplyOf log lines m r (kind_of a) → Says log q a
says_of log lines m r q (answer.Outcome x) client number h = executed log lines r q x client number h
says_of log lines m r q answer.Old client number h = (m, rw (← client, ← number) h)
says_of log lines m r q answer.Gap client number h = (m, rw (← client, ← number) h)
says_of log lines m r q answer.Evicted client number h = (m, rw (← client, ← number) h)

says_true : (cluster n : ℕ) (log : List Whole) (run : List Played) (move place : ℕ) (p : Played) (r : ReplyFields) → IsTrueReply cluster n log run move place p r → (q : RequestFields) (a : Answer) → r.client ≡ q.client → r.request ≡ q.request
    → r.kind ≡ kind_of a → Says log q a
says_true cluster n log run move place p r so q a client number kind =
    let lines : ℕ = so.replica.applied + lines_by r.replica (take place p.moved.outputs) in
    let m : ℕ = applied_then r.replica so.replica (take place p.moved.outputs) in
    says_of log lines m r q a client number (subst (λ (x : ReplyKind). IsReplyOf log lines m r x) kind so.said)

-- ---- headers of requests

request_is_header : (q : RequestFields) → IsAsked q → q.cluster < 2 ^ 64 → IsHeader (header_of q)
request_is_header q asked range = (asked_may_come q asked range).header

-- of which an entry was made
entry_is_header : (h : Header) (q : RequestFields) → IsHeader h → IsHeader (header_of q) → IsHeader (asked_by h)
entry_is_header h q f z = record {
  body = f.body;
  body_bytes = f.body_bytes;
  parent = z.parent;
  parent_bytes = z.parent_bytes;
  request_name = z.request_name;
  request_name_bytes = z.request_name_bytes;
  cluster = f.cluster;
  client = f.client;
  request = f.request;
  view = omega arith;
  op = omega arith;
  commit = f.commit;
  size = f.size;
  replica = f.replica;
  version = f.version;
  kind = f.kind;
  aux = f.aux;
}

-- ---- a reply to a request

-- by whom it was asked
pub record IsMet (xs : List ActBy) (log : List Whole) (q : RequestFields) (r : ReplyFields) : Type 0 where
  pub client : r.client ≡ q.client
  pub number : r.request ≡ q.request
  pub reached : HasReached xs log q

module _ (kinds : ℕ → Kind) (cluster n : ℕ) (first : ℕ → Host Lying) (xs : List ActBy) (are : AreKinds kinds n) (number : cluster < 2 ^ 64) (few : 1 ≤ n) (many : n ≤ 6) (k : KeepOneLog kinds cluster n first xs) (own : List RequestFields) (never : NoCollision (IsNamed xs own)) where
  abbrev log : List Whole
  log = k.log.safe.log

  abbrev run : List Played
  run = k.log.matched.run

  fit : IsFitRun cluster n run
  fit = record { number = number; some = few; many = many; moves = k.log.matched.reads; files = k.log.matched.files; kinds = kinds; are_kinds = are; of_run = k.log.matched.is }

  rests_at : (place : ℕ) (o : Output) → slice_get (all_said xs) place ≡ Some o → RestsOn cluster n log run (take place (all_said xs)) o
  rests_at place o is =
      subst (λ (os : List Output). RestsOn cluster n log run (take place os) o) k.work.said
      (k.log.rests place o (subst (λ (os : List Output). slice_get os place ≡ Some o) (sym k.work.said) is))

  line_asked : (c : Committed) → In (output.Commit c) (all_said xs) → IsOfRequest c.entry.header × IsHeader c.entry.header
  line_asked c i = lines_asked cluster n run fit c (said_in k.work.left.outputs (run_outputs run) k.log.matched.said (output.Commit c) (λ z. z) (subst (λ (os : List Output). In (output.Commit c) os) (sym k.work.said) i))

  pub reply_met : (q : RequestFields) → IsAsked q → q.cluster < 2 ^ 64 → In q own → (r : ReplyFields) → r.request_name ≡ header_name (header_of q) → ComesFrom xs r → IsMet xs log q r
  reply_met q asked range mine r name (coming.of_request at did p i p_asked p_range to) =
      let names : header_name (header_of p) ≡ header_name (header_of q) = sym to.name ∙ name in
      let there = in_contains (act_by at (Handles (Asked p) did)) xs i in
      let same : header_of p ≡ header_of q = one_header (IsNamed xs own) never (header_of p) (header_of q) (request_is_header p p_asked p_range) (request_is_header q asked range) (named.IsNamed.reached at did p there) (named.IsNamed.asked q (in_contains q own mine)) names in
      record { client = to.client ∙ ap (λ (h : Header). h.client) same; number = to.request ∙ ap (λ (h : Header). h.request) same; reached = itself at did p there same }
  reply_met q asked range mine r name (coming.of_line c i to) =
      let a = line_asked c i in
      let g = in_get (all_said xs) (output.Commit c) i in
      let line = rests_at g.0 (output.Commit c) g.1 in
      let names : header_name (asked_by c.entry.header) ≡ header_name (header_of q) = sym a.0 ∙ (sym to.name ∙ name) in
      let q_is = request_is_header q asked range in
      let same : asked_by c.entry.header ≡ header_of q = one_header (IsNamed xs own) never (asked_by c.entry.header) (header_of q) (entry_is_header c.entry.header q a.1 q_is) q_is (named.IsNamed.entered c (in_contains (output.Commit c) (all_said xs) i)) (named.IsNamed.asked q (in_contains q own mine)) names in
      record { client = to.client ∙ ap (λ (h : Header). h.client) same; number = to.request ∙ ap (λ (h : Header). h.request) same; reached = as_entry (c.entry.header.op - 1) c.entry line.so.at same }

  pub nobody : (s : Sent) → In s (world_of first n).sent → ⊥
  unfolding world_of
  nobody s i = i

  pub is_of_log : (t : Heard) → IsAsked t.request → t.request.cluster < 2 ^ 64 → In t.request own → IsGiven xs (header_name (header_of t.request)) t.answer → IsOfLog cluster n xs log run t
  is_of_log t asked range mine g =
      let at = in_get (all_said xs) (output.Reply g.fields) g.put_out in
      let from : ComesFrom xs g.fields = comes_from cluster (world_of first n) xs k.work.left k.work.work (λ s i. absurd (nobody s i)) g.fields g.put_out in
      let met = reply_met t.request asked range mine g.fields g.name_is from in
      let rests : IsTrueAnswer cluster n log run (take at.0 (all_said xs)) g.fields = rests_at at.0 (output.Reply g.fields) at.1 in
      record {
        reply = g.fields;
        place = at.0;
        put_out = at.1;
        name = g.name_is;
        client = met.client;
        number = met.number;
        answer = g.kind;
        rests = rests;
        says = says_true cluster n log run rests.at.move rests.at.number rests.at.moved g.fields rests.so t.request t.answer met.client met.number g.kind;
        reached = met.reached;
      }
