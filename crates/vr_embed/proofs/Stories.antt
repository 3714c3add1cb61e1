-- The story is as it is told, and of what happens in it there is one log.
use Rattle.std.proofs.Common.{ℕ, zero, suc, ◌+◌, ◌-◌, ◌^◌, ◌<◌, ◌≤◌, ◌≡◌, arith, refl, sym, ap, ◌∙◌, true, false, map, List, [], ◌∷◌, ◌++◌, length, length-append, append_assoc, subst, Result, Ok, Err}
use Rattle.std.specs.Prelude.{IsTrue, OnOk}
use Rattle.std.specs.List.{AllByRecursion, range_with_len}
use Rattle.std.proofs.lemmas.List.FromFn.{length-map-range_with_len}
use Rattle.vr_base.specs.Groups.{least_members}
use Rattle.vr_base.specs.declared.memory.NoMemory.{NoMemory}
use Rattle.vr_header.specs.NoCollision.{NoCollision}
use Rattle.vr_header.specs.Text.{is_text}
use Rattle.vr_header.specs.declared.operation.Operation.{Operation}
use Rattle.vr_header.specs.declared.operation.Operation.TheVariants.{Get, Put, Register}
use Rattle.vr_msg.specs.Asking.{IsRequest}
use Rattle.vr_msg.specs.declared.output.Sent.{Sent}
use Rattle.vr_msg.specs.declared.request.RequestFields.{RequestFields}
use Rattle.vr_world.specs.Lying.{hazards}
use Rattle.vr_world.specs.World.{Arrives, Asks, Fuses, Happening, Starts, fresh_world, happen}
use Rattle.vr_rules.specs.Opening.{IsKind}
use Rattle.law_4_disks.specs.Worlds.{IsLine}
use Rattle.law_6_one_log.specs.Laws.{KeepsOneLog}
use Rattle.law_6_one_log.specs.Schedules.{IsHashed}
use Rattle.law_6_one_log.proofs.Fresh.{schedules_are_runs}
use Rattle.law_6_one_log.proofs.Known.{one_log}
use Rattle.law_6_one_log.proofs.Traces.{keeps}
use Rattle.vr_embed.specs.Groups.{Goes, GoesOn, GoesOnBehind, ShowsWorld, letters, ticks, told_lines}
use Rattle.vr_embed.specs.Members.{kind}
use Rattle.vr_embed.specs.Story.{AreAll, Ends, IsAll, IsTold, asked, asks, color, green, is_due, passed, round, shape, story, to_cut, to_found, to_put, to_read, to_second, to_session, to_tick}
use Rattle.vr_embed.specs.declared.clock.Clock.{Clock}
use Rattle.vr_embed.specs.declared.group.Group.{Group}
use Rattle.vr_embed.proofs.Worlds.{goes_then}

-- ---- what is asked

pub color_text : IsTrue (is_text 64 color)
unfolding is_text
color_text = refl

pub green_text : IsTrue (is_text 3000 green)
unfolding is_text
green_text = refl

pub shape_text : IsTrue (is_text 64 shape)
unfolding is_text
shape_text = refl

pub round_text : IsTrue (is_text 3000 round)
unfolding is_text
round_text = refl

pub register_is : IsRequest (asked 0 Register)
register_is = record { first = (λ e. refl, λ e. refl); fits = tt }

pub put_is : (k : ℕ) (key value : List ℕ) → 0 < k → IsTrue (is_text 64 key) → IsTrue (is_text 3000 value) → IsRequest (asked k (Put key value))
put_is k key value l t u = record { first = (λ e. absurd cc, λ (e : k ≡ 0). absurd (omega (arith, e, l))); fits = (t, u) }

pub get_is : (k : ℕ) (key : List ℕ) → 0 < k → IsTrue (is_text 64 key) → IsRequest (asked k (Get key))
get_is k key l t = record { first = (λ e. absurd cc, λ (e : k ≡ 0). absurd (omega (arith, e, l))); fits = t }

pub color_asked : (op : Operation) → op ≡ Put color green → IsRequest (asked 1 op)
color_asked op e = subst (λ (op : Operation). IsRequest (asked 1 op)) (sym e) (put_is 1 color green (omega arith) color_text green_text)

pub shape_asked : (op : Operation) → op ≡ Put shape round → IsRequest (asked 2 op)
shape_asked op e = subst (λ (op : Operation). IsRequest (asked 2 op)) (sym e) (put_is 2 shape round (omega arith) shape_text round_text)

pub key_asked : (key : List ℕ) → key ≡ shape → IsRequest (asked 3 (Get key))
key_asked key e = subst (λ (key : List ℕ). IsRequest (asked 3 (Get key))) (sym e) (get_is 3 shape (omega arith) shape_text)

-- ---- a list of happenings that may be, not longer than this

record AreFew (n : ℕ) (xs : List Happening) : Type 0 where
  lines : AllByRecursion IsLine xs
  count : length xs ≤ n

lines_both : (xs ys : List Happening) → AllByRecursion IsLine xs → AllByRecursion IsLine ys → AllByRecursion IsLine (xs ++ ys)
lines_both [] ys h k = k
lines_both (x ∷ xs) ys h k = (h.0, lines_both xs ys h.1 k)

few_both : (n m : ℕ) (xs ys : List Happening) → AreFew n xs → AreFew m ys → AreFew (n + m) (xs ++ ys)
few_both n m xs ys h k =
    let a = h.count in
    let b = k.count in
    let c = length-append xs ys in
    record { lines = lines_both xs ys h.lines k.lines; count = omega (arith, a, b, c) }

lines_of : (from n : ℕ) → AllByRecursion IsLine (map Arrives (range_with_len from n))
lines_of from zero = tt
lines_of from (suc n) = (tt, lines_of (from + 1) n)

few_letters : (from to : ℕ) → to ≤ from + 1000 → AreFew 1000 (letters from to)
few_letters from to l =
    let c = length-map-range_with_len Arrives from (to - from) in
    record { lines = lines_of from (to - from); count = omega (arith, l, c) }

few_ticks : AreFew 3 ticks
few_ticks = record { lines = (tt, (tt, (tt, tt))); count = omega arith }

few_asked : (k : ℕ) (op : Operation) → k < 2 ^ 32 → IsRequest (asked k op) → AreFew 1 (asks k op ∷ [])
few_asked k op l is = record {
  lines = ((record { form = is; client = omega arith; request = l; version = (omega arith, omega arith) }, omega arith), tt);
  count = omega arith;
}

few_quiet : (x : Happening) → IsLine x → AreFew 1 (x ∷ [])
few_quiet x h = record { lines = (h, tt); count = omega arith }

record AreShort (e : Ends) : Type 0 where
  session : e.session ≤ 0 + 1000
  put : e.put ≤ e.kept + 1000
  tick : e.tick ≤ e.put + 1000
  cut : e.cut ≤ e.tick + 1000
  found : e.found ≤ e.cut + 1000
  second : e.second ≤ e.found + 1000
  read : e.read ≤ e.second + 1000
  last : e.last ≤ e.read + 1000

part : (n : ℕ) (xs : List Happening) (from to : ℕ) → AreFew n xs → to ≤ from + 1000 → AreFew (n + 1000) (xs ++ letters from to)
part n xs from to h l = few_both n 1000 xs (letters from to) h (few_letters from to l)

few_all : (e : Ends) → AreShort e → AreFew 8015 (story e)
few_all e h =
    let a = part 1 (asks 0 Register ∷ []) 0 e.session (few_asked 0 Register (omega arith) register_is) h.session in
    let b = part 1 (asks 1 (Put color green) ∷ []) e.kept e.put (few_asked 1 (Put color green) (omega arith) (put_is 1 color green (omega arith) color_text green_text)) h.put in
    let c = part 3 ticks e.put e.tick few_ticks h.tick in
    let d = part 2 (Fuses 1 2 0 ∷ asks 2 (Put shape round) ∷ []) e.tick e.cut
    (few_both 1 1 (Fuses 1 2 0 ∷ []) (asks 2 (Put shape round) ∷ []) (few_quiet (Fuses 1 2 0) tt) (few_asked 2 (Put shape round) (omega arith) (put_is 2 shape round (omega arith) shape_text round_text))) h.cut in
    let f = part 1 (Starts 1 ∷ []) e.cut e.found (few_quiet (Starts 1) tt) h.found in
    let g = part 3 ticks e.found e.second few_ticks h.second in
    let i = part 1 (asks 3 (Get shape) ∷ []) e.second e.read (few_asked 3 (Get shape) (omega arith) (get_is 3 shape (omega arith) shape_text)) h.read in
    let j = part 3 ticks e.read e.last few_ticks h.last in
    few_both 7012 1003 _ _ (few_both 6011 1001 _ _ (few_both 5008 1003 _ _ (few_both 4007 1001 _ _ (few_both 3005 1002 _ _ (few_both 2002 1003 _ _ (few_both 1001 1001 _ _ a b) c) d) f) g) i) j

-- so there is one log
one_log_of : (xs : List Happening) → AreFew 8015 xs → NoCollision (IsHashed (fresh_world hazards kind 3) xs) → KeepsOneLog kind 3 (happen hazards (fresh_world hazards kind 3) xs)
unfolding happen
one_log_of xs h names =
    let is : IsKind kind = (omega arith, omega arith) in
    let least : least_members kind.version ≤ 3 = (let l : 1 ≤ 3 = omega arith in l) in
    let count = h.count in
    let m = schedules_are_runs kind 3 xs is least (omega arith) (omega (arith, count)) (record { lines = h.lines; names = names }) in
    keeps kind 3 is least (omega arith) (one_log 0 3) (happen hazards (fresh_world hazards kind 3) xs) m.0 m.1

-- ---- parts of the story

-- this happened, and letters were delivered, from this number on
pub went_on : (xs : List Happening) (kept : ℕ) (old mid new : Group) → Goes xs old mid → Goes (letters kept new.link.next) mid new → kept ≤ new.link.next → new.link.next ≤ kept + 1000 → (new.link.next < kept + 1000 → length new.link.letters ≤ new.link.next) → GoesOn xs kept old new
went_on xs kept old mid new h k l m z = record { goes = goes_then xs (letters kept new.link.next) old mid new h k; least = l; most = m; all = z }

-- from where the link stood before and after it
pub went_on_ok : (xs : List Happening) (old mid new : Group) (result : Result (Unit {0}) NoMemory) → Goes xs old mid → mid.link.next ≡ old.link.next → OnOk result (Goes (letters mid.link.next new.link.next) mid new) → mid.link.next ≤ new.link.next → new.link.next ≤ mid.link.next + 1000
    → OnOk result (new.link.next < mid.link.next + 1000 → length new.link.letters ≤ new.link.next) → OnOk result (GoesOn xs old.link.next old new)
went_on_ok xs old mid new (Ok r) h e k l m z = subst (λ n. GoesOn xs n old new) e (went_on xs mid.link.next old mid new h k l m z)
went_on_ok xs old mid new (Err r) h e k l m z = tt

-- after a letter that is lost
pub went_behind_ok : (xs : List Happening) (old mid lost new : Group) (result : Result (Unit {0}) NoMemory) → Goes xs old mid → mid.link.next ≡ old.link.next → Goes [] mid lost → mid.link.next ≤ lost.link.next → lost.link.next ≤ mid.link.next + 1 → OnOk result (Goes (letters lost.link.next new.link.next) lost new)
    → lost.link.next ≤ new.link.next → new.link.next ≤ lost.link.next + 1000 → OnOk result (new.link.next < lost.link.next + 1000 → length new.link.letters ≤ new.link.next) → OnOk result (GoesOnBehind xs old new)
went_behind_ok xs old mid lost new (Ok r) h e k b l g m o z =
    record { kept = lost.link.next; least = omega (arith, e, b); lost = omega (arith, e, l); goes = went_on xs lost.link.next old mid new h (goes_then [] (letters lost.link.next new.link.next) mid lost new k g) m o z }
went_behind_ok xs old mid lost new (Err r) h e k b l g m o z = tt

-- first this, whereby the link stands as it stood, and then that
pub went_first_ok : (xs ys : List Happening) (old mid new : Group) (result : Result (Unit {0}) NoMemory) → Goes xs old mid → mid.link.next ≡ old.link.next → OnOk result (GoesOn ys mid.link.next mid new) → OnOk result (GoesOn (xs ++ ys) old.link.next old new)
went_first_ok xs ys old mid new (Ok r) h e k =
    subst (λ n. GoesOn (xs ++ ys) n old new) e
    (record { goes = subst (λ zs. Goes zs old new) (sym (append_assoc xs ys (letters mid.link.next new.link.next))) (goes_then xs (ys ++ letters mid.link.next new.link.next) old mid new h k.goes); least = k.least; most = k.most; all = k.all })
went_first_ok xs ys old mid new (Err r) h e k = tt

-- the same, of another request that is the same
pub asked_ok : (q r : RequestFields) (old new : Group) (result : Result (Unit {0}) NoMemory) → q ≡ r → OnOk result (GoesOn (Asks 0 q ∷ []) old.link.next old new) → OnOk result (GoesOn (Asks 0 r ∷ []) old.link.next old new)
asked_ok q r old new result e h = subst (λ (q : RequestFields). OnOk result (GoesOn (Asks 0 q ∷ []) old.link.next old new)) e h

pub asked_behind_ok : (q r : RequestFields) (old new : Group) (result : Result (Unit {0}) NoMemory) → q ≡ r → OnOk result (GoesOnBehind (Asks 0 q ∷ []) old new) → OnOk result (GoesOnBehind (Asks 0 r ∷ []) old new)
asked_behind_ok q r old new result e h = subst (λ (q : RequestFields). OnOk result (GoesOnBehind (Asks 0 q ∷ []) old new)) e h

pub asked_cut_ok : (q r : RequestFields) (old new : Group) (result : Result (Unit {0}) NoMemory) → q ≡ r → OnOk result (GoesOn (Fuses 1 2 0 ∷ Asks 0 q ∷ []) old.link.next old new) → OnOk result (GoesOn (Fuses 1 2 0 ∷ Asks 0 r ∷ []) old.link.next old new)
asked_cut_ok q r old new result e h = subst (λ (q : RequestFields). OnOk result (GoesOn (Fuses 1 2 0 ∷ Asks 0 q ∷ []) old.link.next old new)) e h

-- where nothing has happened before
pub ticks_from : (a b c : Group) → b ≡ a → GoesOn ticks b.link.next b c → GoesOn ticks a.link.next a c
ticks_from a b c e h = subst (λ (g : Group). GoesOn ticks g.link.next g c) e h

-- ---- the whole story

-- none was left in the group, so none in its world
all_at : (xs ys : List Happening) (from : ℕ) (a b g : Group) → Goes xs a g → ShowsWorld a (fresh_world hazards kind 3) → GoesOn ys from b g → IsAll xs from g.link.next
all_at xs ys from a b g h shows o = record { least = o.least; most = o.most; all = λ l. subst (λ (s : List Sent). length s ≤ g.link.next) (h (fresh_world hazards kind 3) shows).world.sent (o.all l) }

pub whole : (a b c d e f g h i : Group) → ShowsWorld a (fresh_world hazards kind 3) → a.link.next ≡ 0 → a.text ≡ [] → GoesOn (asks 0 Register ∷ []) a.link.next a b → GoesOnBehind (asks 1 (Put color green) ∷ []) b c → GoesOn ticks c.link.next c d
    → GoesOn (Fuses 1 2 0 ∷ asks 2 (Put shape round) ∷ []) d.link.next d e → GoesOn (Starts 1 ∷ []) e.link.next e f → GoesOn ticks f.link.next f g → GoesOn (asks 3 (Get shape) ∷ []) g.link.next g h → GoesOn ticks h.link.next h i → IsTold i.text
whole a b c d e f g h i shows first none session put tick cut found second read last =
    let from : GoesOn (asks 0 Register ∷ []) 0 a b = subst (λ n. GoesOn (asks 0 Register ∷ []) n a b) first session in
    let kept = put.kept in
    let bound : kept ≤ b.link.next + 1 = put.lost in
    let ends : Ends = record { session = b.link.next; kept = kept; put = c.link.next; tick = d.link.next; cut = e.link.next; found = f.link.next; second = g.link.next; read = h.link.next; last = i.link.next; least = put.least; lost = bound } in
    let short : AreShort ends = record { session = from.most; put = put.goes.most; tick = tick.most; cut = cut.most; found = found.most; second = second.most; read = read.most; last = last.most } in
    let one : Goes (asks 0 Register ∷ letters 0 b.link.next) a b = from.goes in
    let two : Goes (asks 1 (Put color green) ∷ letters kept c.link.next) b c = put.goes.goes in
    let four : Goes (Fuses 1 2 0 ∷ asks 2 (Put shape round) ∷ letters d.link.next e.link.next) d e = cut.goes in
    let five : Goes (Starts 1 ∷ letters e.link.next f.link.next) e f = found.goes in
    let seven : Goes (asks 3 (Get shape) ∷ letters g.link.next h.link.next) g h = read.goes in
    let to_c : Goes (to_put ends) a c = goes_then _ _ a b c one two in
    let to_d : Goes (to_tick ends) a d = goes_then _ _ a c d to_c tick.goes in
    let to_e : Goes (to_cut ends) a e = goes_then _ _ a d e to_d four in
    let to_f : Goes (to_found ends) a f = goes_then _ _ a e f to_e five in
    let to_g : Goes (to_second ends) a g = goes_then _ _ a f g to_f second.goes in
    let to_h : Goes (to_read ends) a h = goes_then _ _ a g h to_g seven in
    let all : Goes (story ends) a i = goes_then _ _ a h i to_h last.goes in
    let w = fresh_world hazards kind 3 in
    let told = (all w shows).text in
    let each : AreAll ends = record {
      session = all_at (to_session ends) _ 0 a a b one shows from;
      put = all_at (to_put ends) _ kept a b c to_c shows put.goes;
      tick = all_at (to_tick ends) _ c.link.next a c d to_d shows tick;
      cut = all_at (to_cut ends) _ d.link.next a d e to_e shows cut;
      found = all_at (to_found ends) _ e.link.next a e f to_f shows found;
      second = all_at (to_second ends) _ f.link.next a f g to_g shows second;
      read = all_at (to_read ends) _ g.link.next a g h to_h shows read;
      last = all_at (story ends) _ h.link.next a h i all shows last;
    } in
    record { ends = ends; all = each; told = told ∙ ap (λ t. t ++ told_lines (happen hazards w (story ends)).outputs) none; one_log = one_log_of (story ends) (few_all ends short) }

-- ---- the clock of the story

-- it ticks at 120, 220 and 320 milliseconds
pub quiet_first : (c : Clock) → c ≡ record { time = 0; ticked = 0 } → is_due c 60 ≡ false
quiet_first c e = ap (λ (c : Clock). is_due c 60) e

pub due_second : (c d : Clock) → c ≡ record { time = 0; ticked = 0 } → d ≡ passed c 60 → is_due d 60 ≡ true
due_second c d e f = ap (λ (d : Clock). is_due d 60) (f ∙ ap (λ (c : Clock). passed c 60) e)

pub due_third : (c d x : Clock) → c ≡ record { time = 0; ticked = 0 } → d ≡ passed c 60 → x ≡ passed d 60 → is_due x 100 ≡ true
due_third c d x e f g = ap (λ (x : Clock). is_due x 100) (g ∙ ap (λ (d : Clock). passed d 60) (f ∙ ap (λ (c : Clock). passed c 60) e))

pub due_last : (c d x y : Clock) → c ≡ record { time = 0; ticked = 0 } → d ≡ passed c 60 → x ≡ passed d 60 → y ≡ passed x 100 → is_due y 100 ≡ true
due_last c d x y e f g h = ap (λ (y : Clock). is_due y 100) (h ∙ ap (λ (x : Clock). passed x 100) (g ∙ ap (λ (d : Clock). passed d 60) (f ∙ ap (λ (c : Clock). passed c 60) e)))
