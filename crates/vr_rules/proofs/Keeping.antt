-- Changes of single fields keep a replica sound.
use Rattle.vr_super.specs.Copies.{SuperValue}
use Rattle.vr_base.specs.Kinds.{strict}
use Rattle.std.proofs.Common.{ℕ, ◌+◌, ◌-◌, ◌%◌, ◌≤◌, ◌<◌, ◌≡◌, ◌≢◌, ◌∙◌, arith, sym, ap, true, List, [], length, get_or, drop, Option, Some, None}
use Rattle.std.proofs.lemmas.List.{length-drop}
use Rattle.vr_base.specs.declared.replicas.Replicas.{Replicas}
use Rattle.vr_base.specs.Groups.{is_size}
use Rattle.vr_base.specs.Replicas.{no_replicas}
use Rattle.vr_header.specs.Names.{no_name}
use Rattle.vr_msg.specs.declared.statement.Statement.{Statement}
use Rattle.vr_state.specs.declared.state.State.{State}
use Rattle.vr_state.specs.Sessions.{HaveNumbers}
use Rattle.vr_ckpt.specs.Places as places
use Rattle.vr_ckpt.specs.declared.name.Name.{Name}
use Rattle.vr_rules.specs.Replica.{Replica, part_at, head, forgetting, version}
use Rattle.vr_rules.specs.Opening.{first_value}
use Rattle.vr_rules.specs.Sound.{IsOrdered, KnowsEntries, IsStated, KnowsStatements, IsSound}
use Rattle.vr_rules.specs.Laws.{Rises}
use Rattle.vr_rules.proofs.Heads.{Spans, gone, forgetting_spans, forgetting_known, forgetting_head, forgetting_first}

-- ---- what a step leaves

pub record Kept (r q : Replica) : Type 0 where
  pub sound : IsSound q
  pub rises : Rises r q

pub rises_same : (r : Replica) → Rises r r
rises_same r = record { view = omega arith; log_view = omega arith; commit = omega arith; applied = omega arith; checkpoint = omega arith }

pub rises_then : (a b c : Replica) → Rises a b → Rises b c → Rises a c
rises_then a b c h k =
    let hv = h.view in
    let kv = k.view in
    let hl = h.log_view in
    let kl = k.log_view in
    let hc = h.commit in
    let kc = k.commit in
    let ha = h.applied in
    let ka = k.applied in
    let hp = h.checkpoint in
    let kp = k.checkpoint in
    record { view = omega arith; log_view = omega arith; commit = omega arith; applied = omega arith; checkpoint = omega arith }

pub kept_same : (r : Replica) → IsSound r → Kept r r
kept_same r h = record { sound = h; rises = rises_same r }

pub kept_more : (a b c : Replica) → Kept a b → Kept b c → Kept a c
kept_more a b c h k = record { sound = k.sound; rises = rises_then a b c h.rises k.rises }

pub spans_of : (r : Replica) → IsSound r → Spans r
spans_of r h = record { reach = h.lists.reach; parts = h.lists.parts }

-- ---- fields that soundness doesn't ask for

-- a value of which nothing matters but its version
abbrev pub of_version : ℕ → SuperValue
of_version v = record { fields = record (first_value strict 0 0 0).fields { version = v }; headers = [] }

abbrev pub core : Replica → Replica
core r = record r {
  idle = 0;
  turn = 0;
  cursor = 0;
  worn = [];
  heard = no_replicas;
  saved = of_version (version r);
  root = record { address = 0; sum = no_name };
  table = places.empty;
}

into_core : (r : Replica) → IsSound r → IsSound (core r)
unfolding head part_at
into_core r h =
    let o = h.order in
    let l = h.lists in
    record {
      size = h.size;
      member = h.member;
      order = record { applied = o.applied; commit = o.commit; known = o.known; window = o.window; views = o.views; number = o.number };
      lists = record { first = l.first; reach = l.reach; parts = l.parts; ackers = l.ackers; statements = l.statements; few = l.few };
      entries = record { each = h.entries.each };
      stated = record { each = h.stated.each };
      checkpoint = h.checkpoint;
      near = h.near;
      waits = h.waits;
      numbers = h.numbers;
    }

from_core : (r : Replica) → IsSound (core r) → IsSound r
unfolding head part_at
from_core r h =
    let o = h.order in
    let l = h.lists in
    record {
      size = h.size;
      member = h.member;
      order = record { applied = o.applied; commit = o.commit; known = o.known; window = o.window; views = o.views; number = o.number };
      lists = record { first = l.first; reach = l.reach; parts = l.parts; ackers = l.ackers; statements = l.statements; few = l.few };
      entries = record { each = h.entries.each };
      stated = record { each = h.stated.each };
      checkpoint = h.checkpoint;
      near = h.near;
      waits = h.waits;
      numbers = h.numbers;
    }

pub sound_alike : (r q : Replica) → core q ≡ core r → IsSound r → IsSound q
sound_alike r q e h = from_core q (rw e (into_core r h))

-- ---- one field

pub sound_commit : (r : Replica) (c : ℕ) → r.commit ≤ c → c ≤ head r → IsSound r → IsSound (record r { commit = c })
unfolding head part_at
sound_commit r c a b h =
    let o = h.order in
    let l = h.lists in
    let below = o.commit in
    record {
      size = h.size;
      member = h.member;
      order = record { applied = o.applied; commit = omega arith; known = b; window = o.window; views = o.views; number = o.number };
      lists = record { first = l.first; reach = l.reach; parts = l.parts; ackers = l.ackers; statements = l.statements; few = l.few };
      entries = record { each = h.entries.each };
      stated = record { each = h.stated.each };
      checkpoint = h.checkpoint;
      near = h.near;
      waits = h.waits;
      numbers = h.numbers;
    }

pub sound_state : (r : Replica) (t : State) → HaveNumbers t.sessions → IsSound r → IsSound (record r { state = t })
unfolding head part_at
sound_state r t n h =
    let o = h.order in
    let l = h.lists in
    record {
      size = h.size;
      member = h.member;
      order = record { applied = o.applied; commit = o.commit; known = o.known; window = o.window; views = o.views; number = o.number };
      lists = record { first = l.first; reach = l.reach; parts = l.parts; ackers = l.ackers; statements = l.statements; few = l.few };
      entries = record { each = h.entries.each };
      stated = record { each = h.stated.each };
      checkpoint = h.checkpoint;
      near = h.near;
      waits = h.waits;
      numbers = n;
    }

pub sound_ackers : (r : Replica) (acks : List Replicas) → length acks ≡ length r.ackers → IsSound r → IsSound (record r { ackers = acks })
unfolding head part_at
sound_ackers r acks e h =
    let o = h.order in
    let l = h.lists in
    record {
      size = h.size;
      member = h.member;
      order = record { applied = o.applied; commit = o.commit; known = o.known; window = o.window; views = o.views; number = o.number };
      lists = record { first = l.first; reach = l.reach; parts = l.parts; ackers = e ∙ l.ackers; statements = l.statements; few = l.few };
      entries = record { each = h.entries.each };
      stated = record { each = h.stated.each };
      checkpoint = h.checkpoint;
      near = h.near;
      waits = h.waits;
      numbers = h.numbers;
    }

pub sound_missing : (r : Replica) (names : List Name) → (names ≢ [] → r.applied ≡ r.checkpoint) → IsSound r → IsSound (record r { missing = names })
unfolding head part_at
sound_missing r names w h =
    let o = h.order in
    let l = h.lists in
    record {
      size = h.size;
      member = h.member;
      order = record { applied = o.applied; commit = o.commit; known = o.known; window = o.window; views = o.views; number = o.number };
      lists = record { first = l.first; reach = l.reach; parts = l.parts; ackers = l.ackers; statements = l.statements; few = l.few };
      entries = record { each = h.entries.each };
      stated = record { each = h.stated.each };
      checkpoint = h.checkpoint;
      near = h.near;
      waits = w;
      numbers = h.numbers;
    }

-- a greater view, and what is stated for it
pub sound_view : (r : Replica) (v : ℕ) (ss : List (Option Statement)) → r.view ≤ v → length ss ≡ r.n
    → ((i : ℕ) (s : Statement) → get_or ss i None ≡ Some s → IsStated (version r) r.cluster v s) → IsSound r → IsSound (record r { view = v; statements = ss })
unfolding head part_at
sound_view r v ss a n each h =
    let o = h.order in
    let l = h.lists in
    let below = o.views in
    record {
      size = h.size;
      member = h.member;
      order = record { applied = o.applied; commit = o.commit; known = o.known; window = o.window; views = omega arith; number = o.number };
      lists = record { first = l.first; reach = l.reach; parts = l.parts; ackers = l.ackers; statements = n; few = l.few };
      entries = record { each = h.entries.each };
      stated = record { each = each };
      checkpoint = h.checkpoint;
      near = h.near;
      waits = h.waits;
      numbers = h.numbers;
    }

pub sound_applied : (r : Replica) → r.applied < r.commit → r.missing ≡ [] → r.applied + 1 < r.checkpoint + 32 → IsSound r → IsSound (record r { applied = r.applied + 1 })
unfolding head part_at
sound_applied r a m b h =
    let o = h.order in
    let l = h.lists in
    let below = o.applied in
    record {
      size = h.size;
      member = h.member;
      order = record { applied = omega arith; commit = omega arith; known = o.known; window = o.window; views = o.views; number = o.number };
      lists = record { first = l.first; reach = l.reach; parts = l.parts; ackers = l.ackers; statements = l.statements; few = l.few };
      entries = record { each = h.entries.each };
      stated = record { each = h.stated.each };
      checkpoint = h.checkpoint;
      near = b;
      waits = λ n. absurd (n m);
      numbers = h.numbers;
    }

-- ---- sound but for ops that should be forgotten

pub record Roomy (r : Replica) : Type 0 where
  pub size : is_size (version r) r.n ≡ true
  pub member : r.index < r.n
  pub order : IsOrdered r
  pub first : 1 ≤ r.first
  pub spans : Spans r
  pub ackers : length r.ackers ≡ length r.parts
  pub statements : length r.statements ≡ r.n
  pub entries : KnowsEntries r
  pub stated : KnowsStatements r
  pub checkpoint : r.checkpoint % 32 ≡ 0
  pub near : r.applied < r.checkpoint + 32
  pub waits : r.missing ≢ [] → r.applied ≡ r.checkpoint
  pub numbers : HaveNumbers r.state.sessions

pub sound_few : (r : Replica) → Roomy r → head r < r.first + 64 → IsSound r
sound_few r h few = record {
  size = h.size;
  member = h.member;
  order = h.order;
  lists = record { first = h.first; reach = h.spans.reach; parts = h.spans.parts; ackers = h.ackers; statements = h.statements; few = few };
  entries = h.entries;
  stated = h.stated;
  checkpoint = h.checkpoint;
  near = h.near;
  waits = h.waits;
  numbers = h.numbers;
}

roomy_forgetting : (r : Replica) → Roomy r → Roomy (forgetting r)
unfolding forgetting
roomy_forgetting r h =
    let o = h.order in
    let same : head (record r { first = r.first + gone r; parts = drop (gone r) r.parts; ackers = drop (gone r) r.ackers }) ≡ head r = forgetting_head r h.spans in
    let first = h.first in
    let known = o.known in
    let window = o.window in
    record {
      size = h.size;
      member = h.member;
      order = record { applied = o.applied; commit = o.commit; known = omega arith; window = omega arith; views = o.views; number = o.number };
      first = omega arith;
      spans = forgetting_spans r h.spans;
      ackers = length-drop (gone r) r.ackers ∙ ap (λ n. n - gone r) h.ackers ∙ sym (length-drop (gone r) r.parts);
      statements = h.statements;
      entries = record { each = λ k g e. h.entries.each k g (forgetting_known r k g e) };
      stated = record { each = h.stated.each };
      checkpoint = h.checkpoint;
      near = h.near;
      waits = h.waits;
      numbers = h.numbers;
    }

few_forgetting : (r : Replica) → Spans r → head (forgetting r) < (forgetting r).first + 64
few_forgetting r s =
    let same = forgetting_head r s in
    let first : (forgetting r).first ≡ r.first + gone r = forgetting_first r in
    omega (arith, same, first)

pub sound_forgetting : (r : Replica) → Roomy r → IsSound (forgetting r)
sound_forgetting r h = sound_few (forgetting r) (roomy_forgetting r h) (few_forgetting r h.spans)

pub rises_forgetting : (r q : Replica) → Rises r q → Rises r (forgetting q)
unfolding forgetting
rises_forgetting r q h = record { view = h.view; log_view = h.log_view; commit = h.commit; applied = h.applied; checkpoint = h.checkpoint }
