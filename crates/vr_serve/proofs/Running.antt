-- Runs one after another.
use Rattle.std.proofs.Common.{◌≡◌, ◌∙◌, ℕ, List, [], ◌∷◌, ◌++◌, Option, map, refl, ap, ap₂, sym, subst}
use Rattle.std.specs.Io.KnownBytes.{Appends}
use Rattle.std.proofs.KnownBytes.{Appends-nil, Appends-trans}
use Rattle.vr_disk.specs.DiskState.{Disk}
use Rattle.vr_edge.specs.declared.datagram.Datagram.{Datagram}
use Rattle.vr_mail.proofs.Growing.{append_nil, assoc}
use Rattle.vr_mail.proofs.Sent.{sends_nil, sends_trans}
use Rattle.vr_mail.specs.Sends.{Sends}
use Rattle.vr_msg.specs.declared.output.Output.{Output}
use Rattle.vr_serve.specs.Events.{Come}
use Rattle.vr_serve.specs.Outputs.{datagrams_for, heard, numbers_after, text_from}
use Rattle.vr_serve.specs.Runs.{At, Did, Doing, IsRun, Passed, at, clients_of, numbers_of, sends_of, texts_of}
use Rattle.vr_serve.specs.declared.clients.Client.{Client}

pub map_append : {X Y : Type 0} (f : X → Y) (xs ys : List X) → map f (xs ++ ys) ≡ map f xs ++ map f ys
map_append f [] ys = refl
map_append f (x ∷ xs) ys = ap (λ l. f x ∷ l) (map_append f xs ys)

is_run_append : {S : Type 0} (does : Doing S) (from mid to : S) (d d' d'' : Option Disk) (xs ys : List (Did S))
    → IsRun does from d xs mid d' → IsRun does mid d' ys to d'' → IsRun does from d (xs ++ ys) to d''
is_run_append does from mid to d d' d'' [] ys a b = rw (sym a.0, sym a.1) b
is_run_append does from mid to d d' d'' (x ∷ xs) ys a b = (a.0, is_run_append does x.after mid to x.disk d' d'' xs ys a.1 b)

numbers_append : {S : Type 0} (m : ℕ) (xs ys : List (Did S)) → numbers_of m (xs ++ ys) ≡ numbers_of (numbers_of m xs) ys
numbers_append m [] ys = refl
numbers_append m (x ∷ xs) ys = numbers_append (numbers_after m x.outputs) xs ys

clients_append : {S : Type 0} (cs : List Client) (xs ys : List (Did S)) → clients_of cs (xs ++ ys) ≡ clients_of (clients_of cs xs) ys
clients_append cs [] ys = refl
clients_append cs (x ∷ xs) ys = clients_append (heard x.come cs) xs ys

texts_append : {S : Type 0} (m : ℕ) (xs ys : List (Did S)) → texts_of m (xs ++ ys) ≡ texts_of m xs ++ texts_of (numbers_of m xs) ys
texts_append m [] ys = refl
texts_append m (x ∷ xs) ys =
    ap (λ l. text_from m x.outputs ++ l) (texts_append (numbers_after m x.outputs) xs ys)
    ∙ sym (assoc (text_from m x.outputs) (texts_of (numbers_after m x.outputs) xs) (texts_of (numbers_of (numbers_after m x.outputs) xs) ys))

sends_append : {S : Type 0} (cs : List Client) (xs ys : List (Did S)) → sends_of cs (xs ++ ys) ≡ sends_of cs xs ++ sends_of (clients_of cs xs) ys
sends_append cs [] ys = refl
sends_append cs (x ∷ xs) ys =
    ap (λ l. datagrams_for (heard x.come cs) x.outputs ++ l) (sends_append (heard x.come cs) xs ys)
    ∙ sym (assoc (datagrams_for (heard x.come cs) x.outputs) (sends_of (heard x.come cs) xs) (sends_of (clients_of (heard x.come cs) xs) ys))

-- nothing happened
pub passed_none : {S : Type 0} (does : Doing S) (a : At S) (number : ℕ) (clients : List Client) → number ≡ a.number → clients ≡ a.clients
    → Passed does a (at a.member a.disk number clients a.taken a.sent) []
passed_none does a number clients same heard_ = record {
  dids = [];
  run = (refl, refl);
  events = refl;
  number = same;
  clients = heard_;
  taken = Appends-nil a.taken;
  sent = sends_nil a.sent;
}

-- one event happened
pub passed_one : {S : Type 0} (does : Doing S) (a : At S) (member : S) (disk : Option Disk) (number : ℕ) (clients : List Client)
    (t : Option (List ℕ)) (u : Option (List (Option Datagram))) (come : Come) (outputs : List Output)
    → does a.member a.disk come.event outputs member disk → Appends a.taken t (text_from a.number outputs)
    → Sends (datagrams_for (heard come a.clients) outputs) a.sent u → number ≡ numbers_after a.number outputs → clients ≡ heard come a.clients
    → Passed does a (at member disk number clients t u) (come ∷ [])
passed_one does a member disk number clients t u come outputs did taken sent numbered known = record {
  dids = record { come = come; outputs = outputs; after = member; disk = disk } ∷ [];
  run = (did, (refl, refl));
  events = refl;
  number = numbered;
  clients = known;
  taken = rw (append_nil (text_from a.number outputs)) taken;
  sent = rw (append_nil (datagrams_for (heard come a.clients) outputs)) sent;
}

-- one after the other
pub passed_trans : {S : Type 0} (does : Doing S) (a b c : At S) (xs ys : List Come)
    → Passed does a b xs → Passed does b c ys → Passed does a c (xs ++ ys)
passed_trans does a b c xs ys p q = record {
  dids = p.dids ++ q.dids;
  run = is_run_append does a.member b.member c.member a.disk b.disk c.disk p.dids q.dids p.run q.run;
  events = map_append (λ x. x.come) p.dids q.dids ∙ ap₂ (λ x y. x ++ y) p.events q.events;
  number = q.number ∙ (ap (λ m. numbers_of m q.dids) p.number ∙ sym (numbers_append a.number p.dids q.dids));
  clients = q.clients ∙ (ap (λ cs. clients_of cs q.dids) p.clients ∙ sym (clients_append a.clients p.dids q.dids));
  taken = rw (texts_append a.number p.dids q.dids) (Appends-trans a.taken b.taken c.taken (texts_of a.number p.dids) (texts_of (numbers_of a.number p.dids) q.dids)
      p.taken (subst (λ m. Appends b.taken c.taken (texts_of m q.dids)) p.number q.taken));
  sent = rw (sends_append a.clients p.dids q.dids) (sends_trans a.sent b.sent c.sent (sends_of a.clients p.dids) (sends_of (clients_of a.clients p.dids) q.dids)
      p.sent (subst (λ cs. Sends (sends_of cs q.dids) b.sent c.sent) p.clients q.sent));
}
