-- The deeds of a run, however it ended.
use Rattle.std.proofs.Common.{ℕ, ◌≡◌, ◌⊎◌, inl, inr, refl, sym, ap, ◌∙◌, subst, List, [], ◌∷◌, ◌++◌, Option}
use Rattle.std.specs.Io.KnownBytes.{Appends}
use Rattle.std.proofs.KnownBytes.{Appends-nil, Appends-trans}
use Rattle.std.proofs.lemmas.List.{append-nil, append_assoc}
use Rattle.vr_base.specs.declared.kind.Kind.{Kind}
use Rattle.vr_base.specs.declared.table.Config.{Config}
use Rattle.vr_disk.specs.DiskState.{Disk}
use Rattle.vr_edge.specs.Told.{AppendsFront}
use Rattle.vr_edge.specs.declared.datagram.Datagram.{Datagram}
use Rattle.vr_msg.specs.declared.output.Output.{Output}
use Rattle.vr_serve.specs.Causes.{Counts}
use Rattle.vr_serve.specs.Events.{Come}
use Rattle.vr_serve.specs.Outputs.{numbers_after, text_from}
use Rattle.vr_serve.specs.Runs.{At, Begun, Did, End, IsRun, Passed, PutsFront, begun_at, numbers_of, texts_of}
use Rattle.vr_node.specs.Running.{IsCut, Outside, Ran, ServeEnds, end_in, on_disk}
use Rattle.vr_node.specs.Steps.{steps, stops}
use Rattle.vr_node.specs.declared.node.Node.{Node}
use Rattle.vr_serve.specs.declared.stop.Stop.{Stop}
use Rattle.vr_serve.specs.declared.stop.Stop.TheVariants as stop
use Rattle.law_7_members.specs.Runs.{HasDeeds, Stopped}
use Rattle.vr_base.specs.declared.status.Status.{Status}
use Rattle.vr_base.specs.declared.status.Status.TheVariants as status

-- ---- fronts

front_more : (t u : Option (List ℕ)) (a b : List ℕ) → AppendsFront t u a → AppendsFront t u (a ++ b)
front_more t u a b f = (f.0, f.1 ++ b, f.2, sym (append_assoc f.0 f.1 b) ∙ ap (λ (x : List ℕ). x ++ b) f.3)

front_then : (t u v : Option (List ℕ)) (a b : List ℕ) → Appends t u a → AppendsFront u v b → AppendsFront t v (a ++ b)
front_then t u v a b x f = (a ++ f.0, f.1, Appends-trans t u v a f.0 x f.2, append_assoc a f.0 f.1 ∙ ap (λ (y : List ℕ). a ++ y) f.3)

front_all : (t u : Option (List ℕ)) (a : List ℕ) → Appends t u a → AppendsFront t u a
front_all t u a x = (a, [], x, append-nil a)

front_none : (t : Option (List ℕ)) (a : List ℕ) → AppendsFront t t a
front_none t a = ([], a, Appends-nil t, refl)

puts_front : (text : List ℕ) (ds : List Datagram) (t u : Option (List ℕ)) (x y : Option (List (Option Datagram))) → PutsFront text ds t u x y → AppendsFront t u text
puts_front text ds t u x y (inl h) = h.0
puts_front text ds t u x y (inr h) = front_all t u text h.0

-- ---- one deed more

run_one : (n m k : Node) (d e f : Option Disk) (xs : List (Did Node)) (x : Did Node) → IsRun steps n d xs m e → steps m e x.come.event x.outputs k f → x.after ≡ k → x.disk ≡ f
    → IsRun steps n d (xs ++ (x ∷ [])) k f
run_one n m k d e f [] x r s a b =
    let first : steps n d x.come.event x.outputs x.after x.disk =
    subst (λ (z : Node). steps z d x.come.event x.outputs x.after x.disk) r.0 (subst (λ (z : Option Disk). steps m z x.come.event x.outputs x.after x.disk) r.1
    (subst (λ (z : Node). steps m e x.come.event x.outputs z x.disk) (sym a) (subst (λ (z : Option Disk). steps m e x.come.event x.outputs k z) (sym b) s))) in
    (first, (sym a, sym b))
run_one n m k d e f (y ∷ ys) x r s a b = (r.0, run_one y.after m k y.disk e f ys x r.1 s a b)

texts_one : (i : ℕ) (xs : List (Did Node)) (x : Did Node) → texts_of i (xs ++ (x ∷ [])) ≡ texts_of i xs ++ text_from (numbers_of i xs) x.outputs
texts_one i [] x = append-nil (text_from i x.outputs)
texts_one i (y ∷ ys) x =
    ap (λ (l : List ℕ). text_from i y.outputs ++ l) (texts_one (numbers_after i y.outputs) ys x)
    ∙ sym (append_assoc (text_from i y.outputs) (texts_of (numbers_after i y.outputs) ys) (text_from (numbers_of (numbers_after i y.outputs) ys) x.outputs))

-- ---- how it ended

-- the disk at the end is d
module _ (first : List Output) (node : Node) (disk : Option Disk) (t u : Option (List ℕ)) (d : Option Disk) where
  record Has : Type 0 where
    dids : List (Did Node)
    last : Node
    left : Option Disk
    run : IsRun steps node disk dids last left
    ends : (d ≡ left) ⊎ Stopped last left d
    taken : AppendsFront t u (text_from 0 first ++ texts_of (numbers_after 0 first) dids)

  has_none : d ≡ disk → AppendsFront t u (text_from 0 first) → Has
  has_none same f = record { dids = []; last = node; left = disk; run = (refl, refl); ends = inl same; taken = front_more t u (text_from 0 first) [] f }

  has_all : (mid : Option (List ℕ)) (dids : List (Did Node)) (last : Node) (left : Option Disk) → (d ≡ left) ⊎ Stopped last left d → Appends t mid (text_from 0 first)
      → IsRun steps node disk dids last left → AppendsFront mid u (texts_of (numbers_after 0 first) dids) → Has
  has_all mid dids last left ends a r f =
      record { dids = dids; last = last; left = left; run = r; ends = ends; taken = front_then t mid u (text_from 0 first) (texts_of (numbers_after 0 first) dids) a f }

  -- nothing was put out of the event that was begun
  has_done : (mid : Option (List ℕ)) (sent : Option (List (Option Datagram))) (done : List Come) (m : At Node) → (d ≡ m.disk) ⊎ Stopped m.member m.disk d → u ≡ m.taken
      → Appends t mid (text_from 0 first) → Passed steps (begun_at node disk first mid sent) m done → Has
  has_done mid sent done m ends same a p =
      has_all mid p.dids m.member m.disk ends a p.run
      (front_all mid u (texts_of (numbers_after 0 first) p.dids) (subst (λ (z : Option (List ℕ)). Appends mid z (texts_of (numbers_after 0 first) p.dids)) (sym same) p.taken))

  -- a front was
  has_one : (mid : Option (List ℕ)) (sent : Option (List (Option Datagram))) (done : List Come) (come : Come) (outputs : List Output) (after : Node) (m : At Node)
      → steps m.member m.disk come.event outputs after d → AppendsFront m.taken u (text_from m.number outputs) → Appends t mid (text_from 0 first)
      → Passed steps (begun_at node disk first mid sent) m done → Has
  has_one mid sent done come outputs after m did puts a p =
      let i : ℕ = numbers_after 0 first in
      let x : Did Node = record { come = come; outputs = outputs; after = after; disk = d } in
      let text : AppendsFront m.taken u (text_from (numbers_of i p.dids) outputs) = subst (λ (j : ℕ). AppendsFront m.taken u (text_from j outputs)) p.number puts in
      let whole : AppendsFront mid u (texts_of i p.dids ++ text_from (numbers_of i p.dids) outputs) = front_then mid m.taken u (texts_of i p.dids) (text_from (numbers_of i p.dids) outputs) p.taken text in
      has_all mid (p.dids ++ (x ∷ [])) after d (inl refl) a (run_one node m.member after disk m.disk d p.dids x p.run did refl refl)
      (subst (λ (l : List ℕ). AppendsFront mid u l) (sym (texts_one i p.dids x)) whole)

-- of an event that was begun
has_begun : (first : List Output) (node : Node) (disk : Option Disk) (t mid : Option (List ℕ)) (sent : Option (List (Option Datagram))) (done begun : List Come) (m : At Node) (end : End)
    → Appends t mid (text_from 0 first) → Passed steps (begun_at node disk first mid sent) m done → Begun steps stops m begun end → Has first node disk t end.taken end.disk
has_begun first node disk t mid sent done [] m end a p b = has_done first node disk t end.taken end.disk mid sent done m (inl b.disk) b.taken a p
has_begun first node disk t mid sent done (c ∷ cs) m end a p b = elim b.1 [
  | inl h ↦ has_done first node disk t end.taken end.disk mid sent done m (inr (record { event = c.event; halt = h.halt; after = h.after; left = h.disk })) h.taken a p
  | inr s ↦ has_one first node disk t end.taken end.disk mid sent done c s.outputs s.after m s.disk
      (puts_front (text_from m.number s.outputs) _ m.taken end.taken m.sent end.sent s.front) a p
]

has_cut : (turns : ℕ) (first : List Output) (node : Node) (o o' : Outside) (why : Stop) → IsCut turns first node o o' why → Has first node o.disk o.taken o'.taken o'.disk
has_cut turns first node o o' why (inl h) = has_none first node o.disk o.taken o'.taken o'.disk h.disk (puts_front (text_from 0 first) _ o.taken o'.taken o.sent o'.sent h.front)
has_cut turns first node o o' why (inr h) = has_begun first node o.disk o.taken h.taken h.sent _ h.cut.begun h.cut.mid (end_in why o') h.puts.taken h.cut.passed h.cut.front

has_served : (turns : ℕ) (first : List Output) (node : Node) (o o' : Outside) (before now : Counts) (s : Status) → ServeEnds turns first node o o' before now s → Has first node o.disk o.taken o'.taken o'.disk
has_served turns first node o o' b n status.Done e =
    let x = e.1 in
    has_all first node o.disk o.taken o'.taken o'.disk x.taken x.passed.dids e.0 o'.disk (inl refl) x.puts.taken x.passed.run (front_all x.taken o'.taken (texts_of (numbers_after 0 first) x.passed.dids) x.passed.taken)
has_served turns first node o o' b n status.DiskFault e = has_cut turns first node o o' stop.Disk e.1
has_served turns first node o o' b n status.LinkFault e = has_cut turns first node o o' stop.Link e.2
has_served turns first node o o' b n status.WriteFault e = has_cut turns first node o o' stop.Write e.1
has_served turns first node o o' b n status.NoMemory e = has_cut turns first node o o' stop.NoMemory e
has_served turns first node o o' b n status.Usage e = absurd e
has_served turns first node o o' b n (status.Refused line) e = absurd e
has_served turns first node o o' b n status.SessionLost e = absurd e
has_served turns first node o o' b n status.ReadFault e = absurd e
has_served turns first node o o' b n status.SuperLost e = absurd e
has_served turns first node o o' b n (status.OtherMember found asked) e = absurd e
has_served turns first node o o' b n status.Occupied e = absurd e
has_served turns first node o o' b n status.NoAnswer e = absurd e
has_served turns first node o o' b n status.SpawnFault e = absurd e

pub runs_deeds : (fresh : Option Kind) (c : Config) (peers : List (List ℕ)) (turns : ℕ) (o o' : Outside) (before now : Counts) (s : Status) → Ran fresh c peers turns o o' before now s → HasDeeds fresh c o o'
runs_deeds fresh c peers turns o o' before now s r =
    let has : Has r.first r.node r.disk o.taken o'.taken o'.disk =
    elim r.ends [
      | inl h ↦ has_none r.first r.node r.disk o.taken o'.taken o'.disk (ap (λ (z : Outside). z.disk) h.same) (subst (λ (z : Outside). AppendsFront o.taken z.taken (text_from 0 r.first)) (sym h.same) (front_none o.taken (text_from 0 r.first)))
      | inr h ↦ has_served turns r.first r.node (on_disk r.disk o) o' before now s h.1
    ] in
    record { disk = r.disk; first = r.first; node = r.node; opens = r.opens; dids = has.dids; last = has.last; left = has.left; run = has.run; ends = has.ends; taken = has.taken }
