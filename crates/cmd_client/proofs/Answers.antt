-- One ask, and what becomes of its answer.
use Rattle.std.proofs.Common.{◌≡◌, ◌⊎◌, ℕ, List, [], Option, Result, Ok, Err, refl, inl, inr, subst, sym, arith}
use Rattle.std.specs.Io.KnownBytes.{Appends}
use Rattle.std.proofs.KnownBytes.{Appends-nil}
use Rattle.cmd_client.specs.Asking.{Answers, Client, CountsLinks, CountsWrites, EndsWith, Exchanges, Faults, KeepsSession, PutsAnswer, Stand, WritesAnswer, request_of, status_of}
use Rattle.cmd_client.specs.Text.{answer_text}
use Rattle.vr_base.specs.Causes.{one_more}
use Rattle.vr_client.specs.Asking.{AskCause, IsAsked, IsUnasked, ask_of}
use Rattle.vr_client.specs.declared.answer.Answer.{Answer}
use Rattle.vr_client.specs.declared.answer.AskFault.{AskFault}
use Rattle.vr_client.specs.declared.answer.AskFault.TheVariants as fault
use Rattle.vr_edge.specs.Told.{AppendsFront}
use Rattle.vr_header.specs.declared.operation.Operation.{Operation}
use Rattle.vr_base.proofs.Counting.{links_kept}
use Rattle.vr_base.specs.Counts.{links_after, writes_after}
use Rattle.vr_base.specs.declared.status.Status.{Status}
use Rattle.vr_base.specs.declared.status.Status.TheVariants as status

pub front_none : (t : Option (List ℕ)) (bytes : List ℕ) → AppendsFront t t bytes
front_none t bytes = ([], bytes, Appends-nil t, refl)

-- a written answer keeps or loses the session
pub put_kept : (a : Answer) (t t' : Option (List ℕ)) (before now : ℕ) (r : Result (Unit {0}) Status)
    → Appends t t' (answer_text a) → KeepsSession a r → PutsAnswer a t t' before now r
put_kept a t t' before now (Ok x) w k = (k, w)
put_kept a t t' before now (Err s) w k = subst (λ x. PutsAnswer a t t' before now (Err x)) (sym k.0) (k.1, w)

pub put_unwritten : (a : Answer) (t t' : Option (List ℕ)) (before now : ℕ) (s : Status)
    → WritesAnswer a t t' before now (Err s) → PutsAnswer a t t' before now (Err s)
put_unwritten a t t' before now status.WriteFault w = w
put_unwritten a t t' before now status.NoMemory w = w
put_unwritten a t t' before now status.Done w = absurd w
put_unwritten a t t' before now status.Usage w = absurd w
put_unwritten a t t' before now (status.Refused k) w = absurd w
put_unwritten a t t' before now status.SessionLost w = absurd w
put_unwritten a t t' before now status.ReadFault w = absurd w
put_unwritten a t t' before now status.DiskFault w = absurd w
put_unwritten a t t' before now status.LinkFault w = absurd w
put_unwritten a t t' before now status.SuperLost w = absurd w
put_unwritten a t t' before now (status.OtherMember x y) w = absurd w
put_unwritten a t t' before now status.Occupied w = absurd w
put_unwritten a t t' before now status.NoAnswer w = absurd w
put_unwritten a t t' before now status.SpawnFault w = absurd w

-- whether the session is kept is no matter of the sink
pub kept_counts : (a : Answer) (before now : ℕ) (r : Result (Unit {0}) Status) → now ≡ before → KeepsSession a r → CountsWrites before now r
kept_counts a before now (Ok x) e k = e
kept_counts a before now (Err s) e k = subst (λ x. CountsWrites {T = Unit {0}} before now (Err x)) (sym k.0) e

-- nor is an ask without an answer
pub unanswered_counts : (f : AskFault) (before now : ℕ) → now ≡ before → now ≡ writes_after (status_of f) before
unanswered_counts fault.NoAnswer before now e = e
unanswered_counts fault.Link before now e = e
unanswered_counts fault.NoMemory before now e = e

-- nor is an answer that came one of the link
lost_links : (a : Answer) (t t' : Option (List ℕ)) (b n : ℕ) (s : Status) → PutsAnswer a t t' b n (Err s) → s ≡ status.LinkFault → ⊥
lost_links a t t' b n s put is = subst (λ x. PutsAnswer a t t' b n (Err x)) is put

pub put_links : (a : Answer) (t t' : Option (List ℕ)) (b n before now : ℕ) (r : Result (Unit {0}) Status)
    → now ≡ before → PutsAnswer a t t' b n r → CountsLinks before now r
put_links a t t' b n before now (Ok x) e put = e
put_links a t t' b n before now (Err s) e put = links_kept s before now e (lost_links a t t' b n s put)

-- an ask without one has the count that it left
pub unanswered_links : (f : AskFault) (before now : ℕ) → AskCause {T = Answer} before now (Err f) → now ≡ links_after (status_of f) before
unanswered_links fault.NoAnswer before now c = c.counted
unanswered_links fault.Link before now c = c.counted
unanswered_links fault.NoMemory before now c = c.counted

-- an answer that came
abbrev pub Came : Client → ℕ → Operation → Stand → Stand → Result Answer AskFault → Type 0
Came c number operation s s' r =
    IsAsked (ask_of c.n (request_of c number operation) c.turns) s.port s'.port s.sent s'.sent s.got s'.got r
    ⊎ IsUnasked s.port s'.port s.sent s'.sent s.got s'.got r

answered : (c : Client) (number : ℕ) (operation : Operation) (s s' : Stand) (a : Answer) → Came c number operation s s' (Ok a) → Answers c number operation s s' a
answered c number operation s s' a (inl x) = x
answered c number operation s s' a (inr u) = absurd (cc u.memory)

pub exchanged : (c : Client) (number : ℕ) (operation : Operation) (s s' : Stand) (b n : Faults) (a : Answer) (r : Result (Unit {0}) Status)
    → Came c number operation s s' (Ok a) → PutsAnswer a s.taken s'.taken b.write n.write r → Exchanges c number operation s s' b n r
exchanged c number operation s s' b n a (Ok x) came put =
    (put.0.0, record { asked = subst (λ y. Answers c number operation s s' y) put.0.1 (answered c number operation s s' a came); written = subst (λ y. Appends s.taken s'.taken (answer_text y)) put.0.1 put.1 })
exchanged c number operation s s' b n a (Err status.SessionLost) came put = (a, put.0, record { asked = answered c number operation s s' a came; written = put.1 })
exchanged c number operation s s' b n a (Err status.WriteFault) came put = (put.0, record { answer = a; asked = answered c number operation s s' a came; front = put.1 })
exchanged c number operation s s' b n a (Err status.NoMemory) came put = inr (record { answer = a; asked = answered c number operation s s' a came; front = put })
exchanged c number operation s s' b n a (Err status.Done) came put = absurd put
exchanged c number operation s s' b n a (Err status.Usage) came put = absurd put
exchanged c number operation s s' b n a (Err (status.Refused k)) came put = absurd put
exchanged c number operation s s' b n a (Err status.ReadFault) came put = absurd put
exchanged c number operation s s' b n a (Err status.DiskFault) came put = absurd put
exchanged c number operation s s' b n a (Err status.LinkFault) came put = absurd put
exchanged c number operation s s' b n a (Err status.SuperLost) came put = absurd put
exchanged c number operation s s' b n a (Err (status.OtherMember x y)) came put = absurd put
exchanged c number operation s s' b n a (Err status.Occupied) came put = absurd put
exchanged c number operation s s' b n a (Err status.NoAnswer) came put = absurd put
exchanged c number operation s s' b n a (Err status.SpawnFault) came put = absurd put

-- an ask without an answer
pub unanswered : (c : Client) (number : ℕ) (operation : Operation) (s s' : Stand) (b n : Faults) (f : AskFault)
    → Came c number operation s s' (Err f) → AskCause {T = Answer} b.link n.link (Err f) → s'.taken ≡ s.taken → EndsWith c number operation s s' b n (status_of f)
unanswered c number operation s s' b n fault.NoAnswer (inl x) cause same = record { asked = x; unwritten = same }
unanswered c number operation s s' b n fault.NoAnswer (inr u) cause same = absurd (cc u.memory)
unanswered c number operation s s' b n fault.Link (inl x) cause same = (let one : n.link ≡ one_more b.link = cause.counted in omega (arith, one), record { asked = x; unwritten = same })
unanswered c number operation s s' b n fault.Link (inr u) cause same = absurd (cc u.memory)
unanswered c number operation s s' b n fault.NoMemory (inl x) cause same = inl (inl (record { asked = x; unwritten = same }))
unanswered c number operation s s' b n fault.NoMemory (inr u) cause same = inl (inr (record { port = u.at; sent = u.unsent; got = u.unheard; taken = same }))
