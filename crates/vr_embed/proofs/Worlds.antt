-- What happens to a group of the host's, as a world.
use Rattle.std.proofs.Common.{ℕ, zero, suc, ◌+◌, ◌-◌, ◌%◌, ◌<◌, ◌≤◌, ◌≡◌, arith, refl, sym, ap, ◌∙◌, map, List, [], ◌∷◌, ◌++◌, length, get_or, append_assoc, Option, Some, None, Result, Ok, Err, subst}
use Rattle.std.specs.Prelude.{OnOk, slice_get, slice_set}
use Rattle.std.specs.List.{range_with_len}
use Rattle.std.specs.Option.{option_map_or}
use Rattle.std.proofs.lemmas.List.{append-nil}
use Rattle.std.proofs.lemmas.List.FromFn.{map-range_with_len_more}
use Rattle.std.proofs.lemmas.Option.{slice_get_within}
use Rattle.std.proofs.Math.Nat.{mod-eq_of_lt}
use Rattle.vr_base.specs.declared.memory.NoMemory.{NoMemory}
use Rattle.vr_msg.specs.declared.event.Event.TheVariants as event
use Rattle.vr_msg.specs.declared.output.Output.{Output}
use Rattle.vr_msg.specs.declared.output.Sent.{Sent}
use Rattle.vr_world.specs.Lying.{Lying, hazards}
use Rattle.vr_world.specs.World.{Acted, Arrives, Happened, Happening, Host, Ticks, World, at_member, delivered, fresh_host, fresh_world, handles, happen, happens, nothing, with_member}
use Rattle.vr_rules.specs.Outputs.{messages}
use Rattle.vr_group.proofs.Goings.{happen_append, happen_one}
use Rattle.vr_embed.specs.Groups.{ActsAt, Goes, HasHappened, ShowActed, ShowAll, ShowsWorld, letters, told_lines}
use Rattle.vr_embed.specs.Members.{Acts, Shows, kind}
use Rattle.vr_embed.specs.Told.{told_by}
use Rattle.vr_embed.specs.declared.group.Group.{Group}
use Rattle.vr_embed.specs.declared.link.Link.{Link}
use Rattle.vr_embed.specs.declared.member.Member.{Member}
use Rattle.vr_embed.proofs.Telling.{told_append}

abbrev Act : Type 0
Act = ℕ → Host Lying → Acted Lying

-- ---- members

record ShownAt (m : Member) (hs : List (Host Lying)) (index : ℕ) : Type 0 where
  host : Host Lying
  there : slice_get hs index ≡ Some host
  shows : Shows m.replica (told_by m.disk) host

shown_at : (ms : List Member) (hs : List (Host Lying)) (index : ℕ) (m : Member) → index < length ms → m ≡ get_or ms index m → ShowAll ms hs → ShownAt m hs index
shown_at [] hs index m l e s = absurd (omega arith)
shown_at (x ∷ ms) [] index m l e s = absurd s
shown_at (x ∷ ms) (h ∷ hs) zero m l e s = record { host = h; there = refl; shows = subst (λ (m : Member). Shows m.replica (told_by m.disk) h) (sym e) s.0 }
shown_at (x ∷ ms) (h ∷ hs) (suc index) m l e s =
    let rest = shown_at ms hs index m (omega arith) e s.1 in
    record { host = rest.host; there = rest.there; shows = rest.shows }

shown_past : (ms : List Member) (hs : List (Host Lying)) (index : ℕ) → length ms ≤ index → ShowAll ms hs → slice_get hs index ≡ None
shown_past [] [] index l s = refl
shown_past [] (h ∷ hs) index l s = absurd s
shown_past (x ∷ ms) [] index l s = absurd s
shown_past (x ∷ ms) (h ∷ hs) zero l s = absurd (omega arith)
shown_past (x ∷ ms) (h ∷ hs) (suc index) l s = shown_past ms hs index (omega arith) s.1

shown_set : (ms : List Member) (hs : List (Host Lying)) (index : ℕ) (m : Member) (h : Host Lying) → ShowAll ms hs → Shows m.replica (told_by m.disk) h → ShowAll (slice_set ms index m) (slice_set hs index h)
shown_set [] [] index m h s x = tt
shown_set [] (y ∷ hs) index m h s x = absurd s
shown_set (y ∷ ms) [] index m h s x = absurd s
shown_set (y ∷ ms) (z ∷ hs) zero m h s x = (x, s.1)
shown_set (y ∷ ms) (z ∷ hs) (suc index) m h s x = (s.0, shown_set ms hs index m h s.1 x)

shown_push : (ms : List Member) (hs : List (Host Lying)) (m : Member) (h : Host Lying) → ShowAll ms hs → Shows m.replica (told_by m.disk) h → ShowAll (ms ++ m ∷ []) (hs ++ h ∷ [])
shown_push [] [] m h s x = (x, tt)
shown_push [] (y ∷ hs) m h s x = absurd s
shown_push (y ∷ ms) [] m h s x = absurd s
shown_push (y ∷ ms) (z ∷ hs) m h s x = (s.0, shown_push ms hs m h s.1 x)

pub shown_more : (k : ℕ) (ms : List Member) (m : Member) → ShowAll ms (map (fresh_host hazards kind 3) (range_with_len 0 k)) → Shows m.replica (told_by m.disk) (fresh_host hazards kind 3 k) → ShowAll (ms ++ m ∷ []) (map (fresh_host hazards kind 3) (range_with_len 0 (k + 1)))
shown_more k ms m s x =
    subst (ShowAll (ms ++ m ∷ [])) (sym (map-range_with_len_more (fresh_host hazards kind 3) 0 k k (omega arith))) (shown_push ms (map (fresh_host hazards kind 3) (range_with_len 0 k)) m (fresh_host hazards kind 3 k) s x)

pub group_made : (g : Group) → ShowAll g.members.items (map (fresh_host hazards kind 3) (range_with_len 0 3)) → g.link.letters ≡ [] → ShowsWorld g (fresh_world hazards kind 3)
unfolding fresh_world
group_made g s e = record { n = refl; members = s; sent = e }

-- ---- one of them acts

there_is : (act : Act) (w : World Lying) (index : ℕ) (h : Host Lying) → slice_get w.members index ≡ Some h → at_member w index act ≡ with_member w index (act index h)
unfolding at_member
there_is act w index h e = ap (λ o. option_map_or (λ (h : Host Lying). with_member w index (act index h)) o (nothing w)) e

none_is : (act : Act) (w : World Lying) (index : ℕ) → slice_get w.members index ≡ None → at_member w index act ≡ nothing w
unfolding at_member
none_is act w index e = ap (λ o. option_map_or (λ (h : Host Lying). with_member w index (act index h)) o (nothing w)) e

pub acts_there : (act : Act) (ms : List Member) (index : ℕ) (old new : Member) (out : List Output) → index < length ms → old ≡ get_or ms index old → Acts (act index) old.replica (told_by old.disk) new.replica (told_by new.disk) out
    → ActsAt act index ms (slice_set ms index new) out
acts_there act ms index old new out l e acts w s =
    let x = shown_at ms w.members index old l e s in
    let a = acts x.host x.shows in
    subst (λ (h : Happened Lying). ShowActed h (slice_set ms index new) out) (sym (there_is act w index x.host x.there))
    (record { members = shown_set ms w.members index new (act index x.host).member s a.member; outputs = a.outputs })

pub acts_past : (act : Act) (ms : List Member) (index : ℕ) (out : List Output) → length ms ≤ index → out ≡ [] → ActsAt act index ms ms out
acts_past act ms index out l none w s =
    subst (λ (h : Happened Lying). ShowActed h ms out) (sym (none_is act w index (shown_past ms w.members index l s))) (record { members = s; outputs = none })

pub acts_ok : (act : Act) (ms : List Member) (index : ℕ) (old new : Member) (out : List Output) (result : Result (Unit {0}) NoMemory) → index < length ms → old ≡ get_or ms index old
    → OnOk result (Acts (act index) old.replica (told_by old.disk) new.replica (told_by new.disk) out) → OnOk result (ActsAt act index ms (slice_set ms index new) out)
acts_ok act ms index old new out (Ok x) l e h = acts_there act ms index old new out l e h
acts_ok act ms index old new out (Err x) l e h = tt

-- ---- in a group

-- what is sent is kept, and the group keeps its size
record Grows (w : World Lying) (h : Happened Lying) : Type 0 where
  size : h.world.n ≡ w.n
  sent : h.world.sent ≡ w.sent ++ messages h.outputs

grows_by : (w : World Lying) (index : ℕ) (act : Act) (o : Option (Host Lying)) → Grows w (option_map_or (λ (h : Host Lying). with_member w index (act index h)) o (nothing w))
unfolding messages
grows_by w index act None = record { size = refl; sent = sym (append-nil w.sent) }
grows_by w index act (Some h) = record { size = refl; sent = refl }

grows_at : (w : World Lying) (index : ℕ) (act : Act) → Grows w (at_member w index act)
unfolding at_member
grows_at w index act = grows_by w index act (slice_get w.members index)

pub happened_as : (act : Act) (index : ℕ) (old new : Group) (out : List Output) → ActsAt act index old.members.items new.members.items out → new.link.letters ≡ old.link.letters ++ messages out → new.text ≡ old.text ++ told_lines out
    → (w : World Lying) → ShowsWorld old w → HasHappened (at_member w index act) old new
happened_as act index old new out acts sent text w s =
    let a = acts w s.members in
    let g = grows_at w index act in
    record {
      world = record { n = g.size ∙ s.n; members = a.members; sent = sent ∙ ap (λ ls. ls ++ messages out) s.sent ∙ ap (λ os. w.sent ++ messages os) a.outputs ∙ sym g.sent };
      text = text ∙ ap (λ os. old.text ++ told_lines os) a.outputs;
    }

-- nothing was put out
pub happened_quietly : (act : Act) (index : ℕ) (old new : Group) → ActsAt act index old.members.items new.members.items [] → new.link ≡ old.link → new.text ≡ old.text
    → (w : World Lying) → ShowsWorld old w → HasHappened (at_member w index act) old new
unfolding messages told_lines
happened_quietly act index old new acts link text =
    happened_as act index old new [] acts (ap (λ (l : Link). l.letters) link ∙ sym (append-nil old.link.letters)) (text ∙ sym (append-nil old.text))

-- ---- one thing after the other

pub goes_one : (x : Happening) (old new : Group) → ((w : World Lying) → ShowsWorld old w → HasHappened (happens hazards w x) old new) → Goes (x ∷ []) old new
goes_one x old new h w s = subst (λ (y : Happened Lying). HasHappened y old new) (sym (happen_one w x)) (h w s)

pub goes_one_ok : (x : Happening) (old new : Group) (result : Result (Unit {0}) NoMemory) → OnOk result ((w : World Lying) → ShowsWorld old w → HasHappened (happens hazards w x) old new) → OnOk result (Goes (x ∷ []) old new)
goes_one_ok x old new (Ok r) h = goes_one x old new h
goes_one_ok x old new (Err r) h = tt

pub goes_nowhere : (g : Group) → Goes [] g g
unfolding happen told_lines
goes_nowhere g w s = record { world = s; text = sym (append-nil g.text) }

pub goes_then : (xs ys : List Happening) (a b c : Group) → Goes xs a b → Goes ys b c → Goes (xs ++ ys) a c
goes_then xs ys a b c h k w s =
    let x = h w s in
    let mid = happen hazards w xs in
    let end = happen hazards mid.world ys in
    let y = k mid.world x.world in
    let f = happen_append w xs ys in
    record {
      world = subst (ShowsWorld c) (sym f.world) y.world;
      text = y.text ∙ ap (λ t. t ++ told_lines end.outputs) x.text ∙ append_assoc a.text (told_lines mid.outputs) (told_lines end.outputs) ∙ ap (λ t. a.text ++ t) (sym (told_append mid.outputs end.outputs)) ∙ ap (λ os. a.text ++ told_lines os) (sym f.outputs);
    }

-- the link has passed over a letter
pub goes_lost : (old new : Group) → new.members.items ≡ old.members.items → new.link.letters ≡ old.link.letters → new.text ≡ old.text → Goes [] old new
unfolding happen told_lines
goes_lost old new members same text w s =
    record { world = record { n = s.n; members = subst (λ (ms : List Member). ShowAll ms w.members) (sym members) s.members; sent = same ∙ s.sent }; text = text ∙ sym (append-nil old.text) }

-- ---- letters

pub no_letters : (n : ℕ) → letters n n ≡ []
no_letters n = let e : n - n ≡ 0 = omega arith in ap (λ k. map Arrives (range_with_len n k)) e

letters_more : (a b : ℕ) → a ≤ b → letters a (b + 1) ≡ letters a b ++ Arrives b ∷ []
letters_more a b l =
    let e : b + 1 - a ≡ (b - a) + 1 = omega (arith, l) in
    ap (λ k. map Arrives (range_with_len a k)) e ∙ map-range_with_len_more Arrives a (b - a) b (omega (arith, l))

letters_far : (a b k : ℕ) → a ≤ b → letters a b ++ letters b (b + k) ≡ letters a (b + k)
letters_far a b zero l =
    let e : b ≡ b + 0 = omega arith in
    subst (λ c. letters a b ++ letters b c ≡ letters a c) e (ap (λ x. letters a b ++ x) (no_letters b) ∙ append-nil (letters a b))
letters_far a b (suc k) l =
    let e : b + k + 1 ≡ b + suc k = omega arith in
    let c = b + k in
    subst (λ d. letters a b ++ letters b d ≡ letters a d) e
    (ap (λ x. letters a b ++ x) (letters_more b c (omega arith)) ∙ sym (append_assoc (letters a b) (letters b c) (Arrives c ∷ [])) ∙ ap (λ x. x ++ Arrives c ∷ []) (letters_far a b k l) ∙ sym (letters_more a c (omega (arith, l))))

letters_both : (a b c : ℕ) → a ≤ b → b ≤ c → letters a b ++ letters b c ≡ letters a c
letters_both a b c l m =
    let e : b + (c - b) ≡ c = omega (arith, m) in
    subst (λ c. letters a b ++ letters b c ≡ letters a c) e (letters_far a b (c - b) l)

-- those that were delivered, and then more
pub goes_on : (a b c : ℕ) (f g h : Group) → a ≤ b → b ≤ c → Goes (letters a b) f g → Goes (letters b c) g h → Goes (letters a c) f h
goes_on a b c f g h l m x y = subst (λ xs. Goes xs f h) (letters_both a b c l m) (goes_then (letters a b) (letters b c) f g h x y)

-- none was delivered
pub goes_still : (old new : Group) → new.link.next ≡ old.link.next → Goes [] old new → Goes (letters old.link.next new.link.next) old new
goes_still old new e h = subst (λ xs. Goes xs old new) (sym (ap (letters old.link.next) e ∙ no_letters old.link.next)) h

pub goes_start : (g : Group) → Goes (letters g.link.next g.link.next) g g
goes_start g = subst (λ xs. Goes xs g g) (sym (no_letters g.link.next)) (goes_nowhere g)

arrives : (w : World Lying) (n : ℕ) (s : Sent) (old new : Group) → slice_get w.sent n ≡ Some s → HasHappened (at_member w s.to (handles hazards (event.Deliver s.message))) old new → HasHappened (happens hazards w (Arrives n)) old new
arrives w n s old new there h =
    let at : n % length w.sent ≡ n = mod-eq_of_lt (slice_get_within w.sent n s there) in
    subst (λ o. HasHappened (delivered hazards w o) old new) (sym (ap (slice_get w.sent) at ∙ there)) h

-- a letter that was taken from the link
pub goes_letter : (old new : Group) (link : Link) (s : Sent) → Some s ≡ slice_get old.link.letters old.link.next → link.letters ≡ old.link.letters → new.link.next ≡ old.link.next + 1
    → ((w : World Lying) → ShowsWorld (record { members = old.members; link = link; text = old.text }) w → HasHappened (at_member w s.to (handles hazards (event.Deliver s.message))) (record { members = old.members; link = link; text = old.text }) new)
    → Goes (letters old.link.next new.link.next) old new
goes_letter old new link s there same next h =
    let n = old.link.next in
    let one : letters n new.link.next ≡ Arrives n ∷ [] = ap (letters n) next ∙ letters_more n n (omega arith) ∙ ap (λ xs. xs ++ Arrives n ∷ []) (no_letters n) in
    subst (λ xs. Goes xs old new) (sym one)
    (goes_one (Arrives n) old new (λ w shown.
    let x = h w (record { n = shown.n; members = shown.members; sent = same ∙ shown.sent }) in
    arrives w n s old new (ap (λ (ls : List Sent). slice_get ls n) (sym shown.sent) ∙ sym there) (record { world = x.world; text = x.text })))

-- ---- ticks

pub goes_ticks : (k : ℕ) (f g h : Group) → Goes (map Ticks (range_with_len 0 k)) f g → ((w : World Lying) → ShowsWorld g w → HasHappened (at_member w k (handles hazards event.Tick)) g h) → Goes (map Ticks (range_with_len 0 (k + 1))) f h
goes_ticks k f g h x y =
    subst (λ xs. Goes xs f h) (sym (map-range_with_len_more Ticks 0 k k (omega arith))) (goes_then (map Ticks (range_with_len 0 k)) (Ticks k ∷ []) f g h x (goes_one (Ticks k) g h y))
