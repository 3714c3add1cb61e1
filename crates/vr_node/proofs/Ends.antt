-- How a member ends.
use Rattle.std.proofs.Common.{◌≡◌, ◌≢◌, ◌≤◌, ◌<◌, ℕ, true, false, List, [], ◌∷◌, length, get_or, Option, Some, None, Result, Err, refl, sym, subst, inl, inr, arith}
use Rattle.std.proofs.lemmas.List.{get_or-map}
use Rattle.std.specs.Global.{Global}
use Rattle.std.specs.Prelude.{String, string_bytes}
use Rattle.vr_base.specs.Causes.{one_more}
use Rattle.vr_base.specs.declared.kind.Kind.{Kind}
use Rattle.vr_base.specs.declared.table.Config.{Config}
use Rattle.vr_disk.specs.DiskState.{Attaches, Disk}
use Rattle.vr_edge.specs.Attaching.{attach_of, texts_of}
use Rattle.vr_edge.specs.Datagrams.{Arrival}
use Rattle.vr_edge.specs.Failing.{EndsFailed, LinkFailure}
use Rattle.vr_edge.specs.Told.{Grows}
use Rattle.vr_edge.specs.declared.attach.Attach.{Attach}
use Rattle.vr_edge.specs.declared.datagram.Datagram.{Datagram}
use Rattle.vr_msg.specs.declared.output.Output.{Output}
use Rattle.vr_node.specs.Opening.{Opens, OpensNone}
use Rattle.vr_node.specs.Running.{EndsAttached, GroupEnds, IsCut, NodeEnds, Outside, ServeEnds, on_disk, outside}
use Rattle.vr_node.specs.Steps.{steps}
use Rattle.vr_node.specs.Stops.{disk_after, status_of}
use Rattle.vr_node.specs.declared.node.Node.{Node}
use Rattle.vr_rules.specs.Replica.{version}
use Rattle.vr_serve.specs.Causes.{Counts, HasCauses, counts}
use Rattle.vr_serve.specs.Causes as serve
use Rattle.vr_serve.specs.Runs.{IsServed}
use Rattle.vr_serve.specs.declared.stop.Stop.{Stop}
use Rattle.vr_serve.specs.declared.stop.Stop.TheVariants as stop
use Rattle.vr_base.proofs.Counting.{links_kept}
use Rattle.vr_base.specs.Counts.{links_after, writes_after}
use Rattle.vr_base.specs.declared.status.Status.{Status}
use Rattle.vr_base.specs.declared.status.Status.TheVariants as status

-- ---- serving

pub served : (turns : ℕ) (first : List Output) (node node' : Node) (o o' : Outside) (b n : Counts)
    → IsServed steps (version node.replica.memory) node.replica.memory.cluster turns first node node' o.disk o'.disk o.left o'.left o.got o'.got o.taken o'.taken o.sent o'.sent
    → ServeEnds turns first node o o' b n status.Done
served turns first node node' o o' b n s = (node', s)

pub cut_off : (turns : ℕ) (first : List Output) (node : Node) (o o' : Outside) (b n : Counts) (s : Stop)
    → HasCauses {T = Unit {0}} b n (Err s) → (◌≡◌ {A = Result (Unit {0}) Stop} (Err s) (Err stop.Link) → EndsFailed o.got o'.got) → IsCut turns first node o o' s
    → ServeEnds turns first node o o' b n (status_of s)
cut_off turns first node o o' b n stop.Disk h l c = (let d = h.disk in omega (arith, d), c)
cut_off turns first node o o' b n stop.Link h l c = (let k = h.link in omega (arith, k), l refl, c)
cut_off turns first node o o' b n stop.Write h l c = (let w = h.write in omega (arith, w), c)
cut_off turns first node o o' b n stop.NoMemory h l c = c

-- ---- the link

-- the address of a member
pub own_address : (peers : List (String Global)) (member : ℕ) (d : String Global) → member < length peers → string_bytes (get_or peers member d) ≡ get_or (texts_of peers) member []
own_address peers member d h = sym (get_or-map string_bytes peers member d [] h)

-- with the count of the disk from before the opening on, and with the link as it was before it was attached
serve_later : (turns : ℕ) (first : List Output) (node : Node) (disk : Option Disk) (left : Option (List ℕ)) (got : Option (List Arrival)) (taken : Option (List ℕ))
    (sent : Option (List (Option Datagram))) (a a' : Option (List Attach)) (o' : Outside) (d d' w l : ℕ) (n : Counts) (s : Status)
    → d ≤ d' → ServeEnds turns first node (outside disk left got taken sent a') o' (counts d' w l) n s → ServeEnds turns first node (outside disk left got taken sent a) o' (counts d w l) n s
serve_later turns first node disk left got taken sent a a' o' d d' w l n status.Done h e = e
serve_later turns first node disk left got taken sent a a' o' d d' w l n status.DiskFault h e = (omega (arith, h, e.0), e.1)
serve_later turns first node disk left got taken sent a a' o' d d' w l n status.LinkFault h e = e
serve_later turns first node disk left got taken sent a a' o' d d' w l n status.WriteFault h e = e
serve_later turns first node disk left got taken sent a a' o' d d' w l n status.NoMemory h e = e
serve_later turns first node disk left got taken sent a a' o' d d' w l n status.Usage h e = absurd e
serve_later turns first node disk left got taken sent a a' o' d d' w l n (status.Refused k) h e = absurd e
serve_later turns first node disk left got taken sent a a' o' d d' w l n status.SessionLost h e = absurd e
serve_later turns first node disk left got taken sent a a' o' d d' w l n status.ReadFault h e = absurd e
serve_later turns first node disk left got taken sent a a' o' d d' w l n status.SuperLost h e = absurd e
serve_later turns first node disk left got taken sent a a' o' d d' w l n (status.OtherMember x y) h e = absurd e
serve_later turns first node disk left got taken sent a a' o' d d' w l n status.Occupied h e = absurd e
serve_later turns first node disk left got taken sent a a' o' d d' w l n status.NoAnswer h e = absurd e
serve_later turns first node disk left got taken sent a a' o' d d' w l n status.SpawnFault h e = absurd e

-- after the link was attached all else is as it was
pub linked : (peers : List (List ℕ)) (member turns : ℕ) (first : List Output) (node : Node) (disk : Option Disk) (left : Option (List ℕ)) (got got' : Option (List Arrival))
    (taken : Option (List ℕ)) (sent sent' : Option (List (Option Datagram))) (a a' : Option (List Attach)) (d w l l' : ℕ) (o' : Outside) (n : Counts) (s : Status)
    → got' ≡ got → sent' ≡ sent → l' ≡ l → Grows a a' (attach_of (get_or peers member []) peers true ∷ []) → o'.attached ≡ a'
    → ServeEnds turns first node (outside disk left got' taken sent' a') o' (counts d w l') n s
    → GroupEnds peers member turns first node (outside disk left got taken sent a) o' (counts d w l) n s
linked peers member turns first node disk left got got' taken sent sent' a a' d w l l' o' n s i j k grown kept e = inr (
  subst (λ x. Grows a x (attach_of (get_or peers member []) peers true ∷ [])) (sym kept) grown,
  serve_later turns first node disk left got taken sent a a' o' d d w l n s (omega arith)
      (subst (λ g. ServeEnds turns first node (outside disk left g taken sent a') o' (counts d w l) n s) i
      (subst (λ u. ServeEnds turns first node (outside disk left got' taken u a') o' (counts d w l) n s) j
      (subst (λ x. ServeEnds turns first node (outside disk left got' taken sent' a') o' (counts d w x) n s) k e))),
)

pub unlinked : (peers : List (List ℕ)) (member turns : ℕ) (first : List Output) (node : Node) (disk : Option Disk) (left : Option (List ℕ)) (got got' : Option (List Arrival))
    (taken : Option (List ℕ)) (sent sent' : Option (List (Option Datagram))) (a a' : Option (List Attach)) (d w l l' : ℕ)
    → got' ≡ got → sent' ≡ sent → l' ≡ one_more l → Grows a a' (attach_of (get_or peers member []) peers false ∷ [])
    → GroupEnds peers member turns first node (outside disk left got taken sent a) (outside disk left got' taken sent' a') (counts d w l) (counts d w l') status.LinkFault
unlinked peers member turns first node disk left got got' taken sent sent' a a' d w l l' i j k grown =
    inl (record { is = refl; rose = omega (arith, k); attached = grown; same = rw (i, j) refl })

-- ---- the member

group_later : (peers : List (List ℕ)) (member turns : ℕ) (first : List Output) (node : Node) (disk : Option Disk) (left : Option (List ℕ)) (got : Option (List Arrival))
    (taken : Option (List ℕ)) (sent : Option (List (Option Datagram))) (a : Option (List Attach)) (o' : Outside) (d d' w l : ℕ) (n : Counts) (s : Status) → d ≤ d'
    → GroupEnds peers member turns first node (outside disk left got taken sent a) o' (counts d' w l) n s
    → GroupEnds peers member turns first node (outside disk left got taken sent a) o' (counts d w l) n s
group_later peers member turns first node disk left got taken sent a o' d d' w l n s h (inl x) =
    inl (record { is = x.is; rose = x.rose; attached = x.attached; same = x.same })
group_later peers member turns first node disk left got taken sent a o' d d' w l n s h (inr x) =
    inr (x.0, serve_later turns first node disk left got taken sent a a o' d d' w l n s h x.1)

pub opened : (fresh : Option Kind) (c : Config) (peers : List (List ℕ)) (turns : ℕ) (first : List Output) (node : Node) (disk disk' : Option Disk) (left : Option (List ℕ))
    (got : Option (List Arrival)) (taken : Option (List ℕ)) (sent : Option (List (Option Datagram))) (a : Option (List Attach)) (d d' w l : ℕ) (o' : Outside) (n : Counts) (s : Status)
    → Opens fresh c disk disk' first node.replica.memory → node.replica.running ≡ true → d ≤ d'
    → GroupEnds peers c.replica turns first node (outside disk' left got taken sent a) o' (counts d' w l) n s
    → EndsAttached fresh c peers turns (outside disk left got taken sent a) o' (counts d w l) n s
opened fresh c peers turns first node disk disk' left got taken sent a d d' w l o' n s opens runs h e =
    inr (record {
      disk = disk';
      first = first;
      node = node;
      opens = opens;
      runs = runs;
      ends = group_later peers c.replica turns first node disk' left got taken sent a o' d d' w l n s h e;
    })

pub unopened : (fresh : Option Kind) (c : Config) (peers : List (List ℕ)) (turns : ℕ) (disk disk' : Option Disk) (left : Option (List ℕ)) (got : Option (List Arrival))
    (taken : Option (List ℕ)) (sent : Option (List (Option Datagram))) (a : Option (List Attach)) (d d' w l : ℕ) (s : Status)
    → OpensNone fresh c disk disk' s → (s ≡ status.DiskFault → d' ≡ one_more d)
    → EndsAttached fresh c peers turns (outside disk left got taken sent a) (outside disk' left got taken sent a) (counts d w l) (counts d' w l) s
unopened fresh c peers turns disk disk' left got taken sent a d d' w l s none rose = inl (record { why = none; rose = λ e. omega (arith, rose e); same = refl })

-- ---- the disk

pub attached : (fresh : Option Kind) (c : Config) (file : List ℕ) (peers : List (List ℕ)) (turns : ℕ) (disk disk' : Option Disk) (left : Option (List ℕ)) (got : Option (List Arrival))
    (taken : Option (List ℕ)) (sent : Option (List (Option Datagram))) (a : Option (List Attach)) (d d' k l : ℕ) (o' : Outside) (n : Counts) (s : Status)
    → Attaches file disk disk' true → d' ≡ d → EndsAttached fresh c peers turns (outside disk' left got taken sent a) o' (counts d' k l) n s
    → NodeEnds fresh c file peers turns (outside disk left got taken sent a) o' (counts d k l) n s
attached fresh c file peers turns disk disk' left got taken sent a d d' k l o' n s went same e =
    inr (disk', went, subst (λ x. EndsAttached fresh c peers turns (outside disk' left got taken sent a) o' (counts x k l) n s) same e)

pub unattached : (fresh : Option Kind) (c : Config) (file : List ℕ) (peers : List (List ℕ)) (turns : ℕ) (disk disk' : Option Disk) (left : Option (List ℕ)) (got : Option (List Arrival))
    (taken : Option (List ℕ)) (sent : Option (List (Option Datagram))) (a : Option (List Attach)) (d d' k l : ℕ)
    → Attaches file disk disk' false → d' ≡ one_more d
    → NodeEnds fresh c file peers turns (outside disk left got taken sent a) (outside disk' left got taken sent a) (counts d k l) (counts d' k l) status.DiskFault
unattached fresh c file peers turns disk disk' left got taken sent a d d' k l went rose = inl (record { is = refl; failed = went; rose = omega (arith, rose); same = refl })

-- ---- no fault without its count

group_link : (peers : List (List ℕ)) (member turns : ℕ) (first : List Output) (node : Node) (o o' : Outside) (b n : Counts)
    → GroupEnds peers member turns first node o o' b n status.LinkFault → LinkFailure b.link n.link o.attached o'.attached o.got o'.got
group_link peers member turns first node o o' b n (inl x) = record { rose = x.rose; last = inl ([], get_or peers member [], peers, x.attached) }
group_link peers member turns first node o o' b n (inr x) = record { rose = x.1.0; last = inr x.1.1 }

attached_link : (fresh : Option Kind) (c : Config) (peers : List (List ℕ)) (turns : ℕ) (o o' : Outside) (b n : Counts)
    → EndsAttached fresh c peers turns o o' b n status.LinkFault → LinkFailure b.link n.link o.attached o'.attached o.got o'.got
attached_link (Some kind) c peers turns o o' b n (inl x) = absurd x.why
attached_link None c peers turns o o' b n (inl x) = absurd x.why
attached_link fresh c peers turns o o' b n (inr x) = group_link peers c.replica turns x.first x.node (on_disk x.disk o) o' b n x.ends

pub ends_at_link : (fresh : Option Kind) (c : Config) (peers : List (List ℕ)) (turns : ℕ) (o o' : Outside) (b n : Counts) (s : Status)
    → EndsAttached fresh c peers turns o o' b n s → s ≡ status.LinkFault → LinkFailure b.link n.link o.attached o'.attached o.got o'.got
ends_at_link fresh c peers turns o o' b n s e is = attached_link fresh c peers turns o o' b n (subst (λ x. EndsAttached fresh c peers turns o o' b n x) is e)

-- ---- counts

pub stop_disk : (s : Stop) (b n : ℕ) → n ≡ serve.disk_after {T = Unit {0}} (Err s) b → n ≡ disk_after (status_of s) b
stop_disk stop.Disk b n e = e
stop_disk stop.Link b n e = e
stop_disk stop.Write b n e = e
stop_disk stop.NoMemory b n e = e

pub stop_writes : (s : Stop) (b n : ℕ) → n ≡ serve.writes_after {T = Unit {0}} (Err s) b → n ≡ writes_after (status_of s) b
stop_writes stop.Disk b n e = e
stop_writes stop.Link b n e = e
stop_writes stop.Write b n e = e
stop_writes stop.NoMemory b n e = e

pub stop_links : (s : Stop) (b n : ℕ) → n ≡ serve.links_after {T = Unit {0}} (Err s) b → n ≡ links_after (status_of s) b
stop_links stop.Disk b n e = e
stop_links stop.Link b n e = e
stop_links stop.Write b n e = e
stop_links stop.NoMemory b n e = e

-- an opening that fails counts no fault but the disk's
pub unopened_disk : (s : Status) (b n : ℕ) → (s ≡ status.DiskFault → n ≡ one_more b) → (s ≢ status.DiskFault → n ≡ b) → n ≡ disk_after s b
unopened_disk status.Done b n f g = g (λ e. let no : status.Done ≡ status.DiskFault = e in cc)
unopened_disk status.Usage b n f g = g (λ e. let no : status.Usage ≡ status.DiskFault = e in cc)
unopened_disk (status.Refused k) b n f g = g (λ e. let no : status.Refused k ≡ status.DiskFault = e in cc)
unopened_disk status.SessionLost b n f g = g (λ e. let no : status.SessionLost ≡ status.DiskFault = e in cc)
unopened_disk status.ReadFault b n f g = g (λ e. let no : status.ReadFault ≡ status.DiskFault = e in cc)
unopened_disk status.WriteFault b n f g = g (λ e. let no : status.WriteFault ≡ status.DiskFault = e in cc)
unopened_disk status.DiskFault b n f g = f refl
unopened_disk status.LinkFault b n f g = g (λ e. let no : status.LinkFault ≡ status.DiskFault = e in cc)
unopened_disk status.SuperLost b n f g = g (λ e. let no : status.SuperLost ≡ status.DiskFault = e in cc)
unopened_disk (status.OtherMember x y) b n f g = g (λ e. let no : status.OtherMember x y ≡ status.DiskFault = e in cc)
unopened_disk status.NoMemory b n f g = g (λ e. let no : status.NoMemory ≡ status.DiskFault = e in cc)
unopened_disk status.Occupied b n f g = g (λ e. let no : status.Occupied ≡ status.DiskFault = e in cc)
unopened_disk status.NoAnswer b n f g = g (λ e. let no : status.NoAnswer ≡ status.DiskFault = e in cc)
unopened_disk status.SpawnFault b n f g = g (λ e. let no : status.SpawnFault ≡ status.DiskFault = e in cc)

pub unopened_writes : (fresh : Option Kind) (c : Config) (d d' : Option Disk) (s : Status) (n : ℕ) → OpensNone fresh c d d' s → n ≡ writes_after s n
unopened_writes (Some kind) c d d' status.Done n h = refl
unopened_writes (Some kind) c d d' status.Usage n h = refl
unopened_writes (Some kind) c d d' (status.Refused k) n h = refl
unopened_writes (Some kind) c d d' status.SessionLost n h = refl
unopened_writes (Some kind) c d d' status.ReadFault n h = refl
unopened_writes (Some kind) c d d' status.WriteFault n h = absurd h
unopened_writes (Some kind) c d d' status.DiskFault n h = refl
unopened_writes (Some kind) c d d' status.LinkFault n h = refl
unopened_writes (Some kind) c d d' status.SuperLost n h = refl
unopened_writes (Some kind) c d d' (status.OtherMember x y) n h = refl
unopened_writes (Some kind) c d d' status.NoMemory n h = refl
unopened_writes (Some kind) c d d' status.Occupied n h = refl
unopened_writes (Some kind) c d d' status.NoAnswer n h = refl
unopened_writes (Some kind) c d d' status.SpawnFault n h = refl
unopened_writes None c d d' status.Done n h = refl
unopened_writes None c d d' status.Usage n h = refl
unopened_writes None c d d' (status.Refused k) n h = refl
unopened_writes None c d d' status.SessionLost n h = refl
unopened_writes None c d d' status.ReadFault n h = refl
unopened_writes None c d d' status.WriteFault n h = absurd h
unopened_writes None c d d' status.DiskFault n h = refl
unopened_writes None c d d' status.LinkFault n h = refl
unopened_writes None c d d' status.SuperLost n h = refl
unopened_writes None c d d' (status.OtherMember x y) n h = refl
unopened_writes None c d d' status.NoMemory n h = refl
unopened_writes None c d d' status.Occupied n h = refl
unopened_writes None c d d' status.NoAnswer n h = refl
unopened_writes None c d d' status.SpawnFault n h = refl

none_of_link : (fresh : Option Kind) (c : Config) (d d' : Option Disk) → OpensNone fresh c d d' status.LinkFault → ⊥
none_of_link (Some kind) c d d' h = h
none_of_link None c d d' h = h

pub unopened_links : (fresh : Option Kind) (c : Config) (d d' : Option Disk) (s : Status) (n : ℕ) → OpensNone fresh c d d' s → n ≡ links_after s n
unopened_links fresh c d d' s n h = links_kept s n n refl (λ is. none_of_link fresh c d d' (subst (λ x. OpensNone fresh c d d' x) is h))
