-- What an ask heard was put out by a member, in a reply to the ask's request.
use Rattle.std.proofs.Common.{ℕ, ◌≡◌, refl, ap, subst, Bool, true, false, cond, List, [], ◌∷◌, ◌++◌, Option, Some, None}
use Rattle.std.specs.Prelude.{Ok}
use Rattle.std.specs.List.{AllByRecursion}
use Rattle.std.proofs.lemmas.Slice.Eq.{bytes_eq-Decides}
use Rattle.cmd_client.specs.Asking.{Answers, Client, Stand, request_of}
use Rattle.vr_base.specs.declared.sum.Sum.{Sum}
use Rattle.vr_client.specs.Asking.{EndsBy, ask_of}
use Rattle.vr_client.specs.Heeding.{heed, heed_kind, heed_message}
use Rattle.vr_client.specs.declared.answer.Answer.{Answer}
use Rattle.vr_client.specs.declared.answer.Answer.TheVariants as answer
use Rattle.vr_client.specs.declared.answer.Heed.TheVariants.{Ignored, Answered}
use Rattle.vr_edge.specs.Datagrams.{Arrival, Came, Failed, Nothing}
use Rattle.vr_header.specs.Names.{header_name}
use Rattle.vr_header.specs.declared.operation.Operation.{Operation}
use Rattle.vr_mail.specs.Letters.{Brings, IsOfGroup}
use Rattle.vr_mail.specs.declared.receiving.Letter.{Letter}
use Rattle.vr_msg.specs.Normal.{same_sum}
use Rattle.vr_msg.specs.declared.frame.Frame.{Frame}
use Rattle.vr_msg.specs.declared.frame.Frame.TheVariants as frame
use Rattle.vr_msg.specs.declared.output.Output.TheVariants as output
use Rattle.vr_msg.specs.declared.reply.ReplyFields.{ReplyFields}
use Rattle.vr_msg.specs.declared.reply.ReplyKind.{ReplyKind}
use Rattle.vr_msg.specs.declared.reply.ReplyKind.TheVariants as reply
use Rattle.law_1_machine.specs.Basics.{In}
use Rattle.law_2_chains.proofs.StoredLists.{contains_in}
use Rattle.law_7_members.specs.Files.{ActBy}
use Rattle.law_7_members.specs.Whole.{all_said}
use Rattle.law_9_answers.specs.Heard.{IsPutOut, kind_of, heard}
use Rattle.law_9_asked.specs.Asked.{header_of}

same_sum_is : (a b : Sum) → same_sum a b ≡ true → a ≡ b
same_sum_is a b h = let bytes = (bytes_eq-Decides a.0 b.0).0 h in λ i. record { 0 = bytes i }

-- the reply by which an answer is heeded
record IsHeeded (name : Sum) (m : Frame) (a : Answer) : Type 0 where
  fields : ReplyFields
  is : m ≡ frame.Reply fields
  name_is : fields.request_name ≡ name
  kind : fields.kind ≡ kind_of a

kind_heeded : (n view : ℕ) (k : ReplyKind) (a : Answer) → heed_kind n view k ≡ Answered a → k ≡ kind_of a
kind_heeded n view (reply.Outcome x) a e = ap kind_of (let same : answer.Outcome x ≡ a = cc in same)
kind_heeded n view reply.Old a e = ap kind_of (let same : answer.Old ≡ a = cc in same)
kind_heeded n view reply.Gap a e = ap kind_of (let same : answer.Gap ≡ a = cc in same)
kind_heeded n view reply.Evicted a e = ap kind_of (let same : answer.Evicted ≡ a = cc in same)
kind_heeded n view reply.Busy a e = absurd cc
kind_heeded n view reply.Redirect a e = absurd cc

reply_heeded : (n : ℕ) (name : Sum) (r : ReplyFields) (a : Answer) (b : Bool) → same_sum r.request_name name ≡ b → cond b (heed_kind n r.view r.kind) Ignored ≡ Answered a → IsHeeded name (frame.Reply r) a
reply_heeded n name r a true same e = record { fields = r; is = refl; name_is = same_sum_is r.request_name name same; kind = kind_heeded n r.view r.kind a e }
reply_heeded n name r a false same e = absurd cc

message_heeded : (n : ℕ) (name : Sum) (m : Frame) (a : Answer) → heed_message n name m ≡ Answered a → IsHeeded name m a
message_heeded n name (frame.Reply r) a e = reply_heeded n name r a (same_sum r.request_name name) refl e
message_heeded n name (frame.Request q) a e = absurd cc
message_heeded n name (frame.Prepare p) a e = absurd cc
message_heeded n name (frame.PrepareOk p) a e = absurd cc
message_heeded n name (frame.Commit c) a e = absurd cc
message_heeded n name (frame.StartViewChange s) a e = absurd cc
message_heeded n name (frame.DoViewChange d) a e = absurd cc
message_heeded n name (frame.StartView v) a e = absurd cc
message_heeded n name (frame.GetView g) a e = absurd cc
message_heeded n name (frame.GetPrepare g) a e = absurd cc
message_heeded n name (frame.GivePrepare g) a e = absurd cc
message_heeded n name (frame.GetBlock g) a e = absurd cc
message_heeded n name (frame.GiveBlock g) a e = absurd cc
message_heeded n name (frame.GetSync g) a e = absurd cc
message_heeded n name (frame.SyncView v) a e = absurd cc

-- a reply that a member put out
pub record IsGiven (xs : List ActBy) (name : Sum) (a : Answer) : Type 0 where
  pub fields : ReplyFields
  pub put_out : In (output.Reply fields) (all_said xs)
  pub name_is : fields.request_name ≡ name
  pub kind : fields.kind ≡ kind_of a

arrival_given : (xs : List ActBy) (version cluster n : ℕ) (name : Sum) (a : Answer) (arrival : Arrival) (letter : Option Letter) → IsPutOut xs version cluster arrival → Brings version cluster arrival letter → heed n name letter ≡ Answered a
    → IsGiven xs name a
arrival_given xs version cluster n name a arrival None put brings e = absurd cc
arrival_given xs version cluster n name a Failed (Some l) put brings e = absurd brings
arrival_given xs version cluster n name a Nothing (Some l) put brings e = absurd (let no : Some l ≡ None = brings in cc)
arrival_given xs version cluster n name a (Came d) (Some l) put brings e =
    let h = message_heeded n name l.message a e in
    let of_group : IsOfGroup version cluster d.bytes (frame.Reply h.fields) = subst (IsOfGroup version cluster d.bytes) h.is brings.1 in
    record { fields = h.fields; put_out = contains_in (output.Reply h.fields) (all_said xs) (put h.fields of_group); name_is = h.name_is; kind = h.kind }

all_right : {X : Type 0} (P : X → Type 0) (xs : List X) (x : X) → AllByRecursion P (xs ++ (x ∷ [])) → P x
all_right P [] x h = h.0
all_right P (y ∷ xs) x h = all_right P xs x h.1

-- of an ask
pub ask_given : (xs : List ActBy) (c : Client) (number : ℕ) (operation : Operation) (s s' : Stand) (a : Answer) (h : Answers c number operation s s' a)
    → AllByRecursion (IsPutOut xs c.version c.cluster) (heard c number operation s s' a h).received → IsGiven xs (header_name (header_of (request_of c number operation))) a
ask_given xs c number operation s s' a h put =
    let ends : EndsBy (ask_of c.n (request_of c number operation) c.turns) h.letters h.last (Ok a) = h.ends in
    let all : AllByRecursion (IsPutOut xs c.version c.cluster) (h.arrivals ++ (ends.0 ∷ [])) = subst (λ (l : List Arrival). AllByRecursion (IsPutOut xs c.version c.cluster) (h.arrivals ++ l)) ends.2 put in
    arrival_given xs c.version c.cluster c.n (header_name (header_of (request_of c number operation))) a ends.0 ends.1 (all_right (IsPutOut xs c.version c.cluster) h.arrivals ends.0 all) ends.3 ends.4
