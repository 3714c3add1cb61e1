-- Lines one after the other.
use Rattle.std.proofs.Common.{ℕ, zero, suc, ◌+◌, ◌<◌, ◌≤◌, ◌≡◌, refl, sym, ap, ◌∙◌, arith, List, [], ◌∷◌, ◌++◌, length, take, take_all, get_or, Option, Some, None, append_assoc, length-append, subst}
use Rattle.std.specs.Prelude.{slice_get}
use Rattle.std.specs.List.{AllByRecursion}
use Rattle.std.specs.Option.{option_map_or}
use Rattle.std.proofs.lemmas.List.{append-nil, map-append, take_more}
use Rattle.vr_lines.specs.Fits.{IsLineOf}
use Rattle.vr_lines.specs.declared.line.Line.{Line}
use Rattle.vr_lines.specs.declared.line.Line.TheVariants as line
use Rattle.vr_msg.specs.declared.output.Output.{Output}
use Rattle.vr_msg.specs.declared.output.Sent.{Sent}
use Rattle.vr_world.specs.Lying.{Lying, hazards}
use Rattle.vr_world.specs.World.{Acted, Happened, Happening, Host, World, at_member, delivered, happen, happens, nothing, with_member}
use Rattle.vr_rules.specs.Outputs.{message_of, messages}
use Rattle.vr_group.specs.Group.{HasHappened, HaveHappened}
use Rattle.vr_group.specs.Lines.{AreLinesOf, happening, happenings}
use Rattle.vr_group.specs.Outputs.{numbered, puts_of, with_number, with_outputs}
use Rattle.vr_group.specs.declared.outputs.Outputs.{Outputs}
use Rattle.vr_group.proofs.Numbering.{outputs_append, outputs_none, put_behind}

-- first these, then those
pub record Follows (w : World Lying) (xs ys : List Happening) : Type 0 where
  pub world : (happen hazards w (xs ++ ys)).world ≡ (happen hazards (happen hazards w xs).world ys).world
  pub outputs : (happen hazards w (xs ++ ys)).outputs ≡ (happen hazards w xs).outputs ++ (happen hazards (happen hazards w xs).world ys).outputs

pub happen_append : (w : World Lying) (xs ys : List Happening) → Follows w xs ys
unfolding happen
happen_append w [] ys = record { world = refl; outputs = refl }
happen_append w (x ∷ xs) ys =
    let h = happens hazards w x in
    let later = happen_append h.world xs ys in
    record {
      world = later.world;
      outputs = ap (λ os. h.outputs ++ os) later.outputs ∙ sym (append_assoc h.outputs (happen hazards h.world xs).outputs (happen hazards (happen hazards h.world xs).world ys).outputs);
    }

pub messages_append : (a b : List Output) → messages (a ++ b) ≡ messages a ++ messages b
unfolding messages
messages_append [] b = refl
messages_append (o ∷ a) b = ap (λ x. message_of o ++ x) (messages_append a b) ∙ sym (append_assoc (message_of o) (messages a) (messages b))

pub numbered_append : (m : ℕ) (a b : List Output) → numbered m (a ++ b) ≡ numbered m a ++ numbered (m + length (messages a)) b
unfolding numbered messages
numbered_append m [] b = let e : m + 0 ≡ m = omega arith in rw e refl
numbered_append m (o ∷ a) b =
    let e : m + length (message_of o ++ messages a) ≡ (m + length (message_of o)) + length (messages a) = omega (arith, length-append (message_of o) (messages a)) in
    rw e (ap (λ x. with_number m o ∷ x) (numbered_append (m + length (message_of o)) a b))

-- ---- a line of a group

-- what is sent is kept, and the group keeps its size
pub record Grows (w : World Lying) (h : Happened Lying) : Type 0 where
  pub size : h.world.n ≡ w.n
  pub sent : h.world.sent ≡ w.sent ++ messages h.outputs

grows_nothing : (w : World Lying) → Grows w (nothing w)
unfolding messages
grows_nothing w = record { size = refl; sent = sym (append-nil w.sent) }

grows_by : (w : World Lying) (index : ℕ) (act : ℕ → Host Lying → Acted Lying) (o : Option (Host Lying)) → Grows w (option_map_or (λ (m : Host Lying). with_member w index (act index m)) o (nothing w))
grows_by w index act None = grows_nothing w
grows_by w index act (Some m) = record { size = refl; sent = refl }

grows_at : (w : World Lying) (index : ℕ) (act : ℕ → Host Lying → Acted Lying) → Grows w (at_member w index act)
unfolding at_member
grows_at w index act = grows_by w index act (slice_get w.members index)

grows_delivered : (w : World Lying) (o : Option Sent) → Grows w (delivered hazards w o)
grows_delivered w None = grows_nothing w
grows_delivered w (Some s) = grows_at w s.to _

pub grows_one : (version : ℕ) (w : World Lying) (l : Line) → 0 < w.n → IsLineOf version w.n l → Grows w (happens hazards w (happening l))
grows_one version w (line.Cluster n kind) g of = absurd (let z : w.n ≡ 0 = of.0 in omega arith)
grows_one version w (line.Request replica request) g of = grows_at w replica _
grows_one version w (line.Deliver number) g of = grows_delivered w _
grows_one version w (line.Tick replica) g of = grows_at w replica _
grows_one version w (line.Stop replica) g of = grows_at w replica _
grows_one version w (line.Start replica) g of = grows_at w replica _
grows_one version w (line.Migrate replica) g of = grows_at w replica _
grows_one version w (line.Fuse replica call code) g of = grows_at w replica _
grows_one version w (line.Damage replica sector) g of = grows_at w replica _
grows_one version w (line.Stale replica sector) g of = grows_at w replica _
grows_one version w (line.Unread replica sector) g of = grows_at w replica _
grows_one version w (line.Misdirect replica sector other) g of = grows_at w replica _

pub happen_one : (w : World Lying) (x : Happening) → happen hazards w (x ∷ []) ≡ happens hazards w x
unfolding happen
happen_one w x = let h = happens hazards w x in ap (λ (os : List Output). let y : Happened Lying = record { world = h.world; outputs = os } in y) (append-nil h.outputs)

-- the messages that it sends stand after the others
pub sent_more : (version : ℕ) (w new : World Lying) (l : Line) (out : List Output) (before now : List ℕ) → 0 < w.n → IsLineOf version w.n l → HasHappened (happens hazards w (happening l)) w new out before now
    → length w.sent + length (messages out) ≡ length new.sent
sent_more version w new l out before now some fits h =
    let grows = grows_one version w l some fits in
    let all : length new.sent ≡ length (w.sent ++ messages out) = ap (λ (x : World Lying). length x.sent) h.world ∙ ap length grows.sent ∙ ap (λ os. length (w.sent ++ messages os)) (sym h.outputs) in
    sym (all ∙ length-append w.sent (messages out))

-- and it is put out, with its text, after others
pub put_more : (w new : World Lying) (x : Happening) (out : List Output) (before now : Outputs) → HasHappened (happens hazards w x) w new out before.text now.text → now.puts ≡ before.puts ++ puts_of (length w.sent) out
    → HaveHappened (happens hazards w x) w new before now
put_more w new x out before now h puts = record {
  world = h.world;
  outputs = put_behind before now (length w.sent) (happens hazards w x).outputs (puts ∙ ap (λ os. before.puts ++ puts_of (length w.sent) os) h.outputs) h.text;
}

-- ---- in the midst of lines, so many of which have happened

pub record Going (i : ℕ) (lines : List Line) (first now : World Lying) (before to : Outputs) : Type 0 where
  pub world : now ≡ (happen hazards first (happenings (take i lines))).world
  pub outputs : to ≡ with_outputs before (numbered (length first.sent) (happen hazards first (happenings (take i lines))).outputs)
  pub size : now.n ≡ first.n
  pub sent : length now.sent ≡ length first.sent + length (messages (happen hazards first (happenings (take i lines))).outputs)

pub going_begins : (lines : List Line) (w : World Lying) (to : Outputs) → Going 0 lines w w to to
unfolding happen happenings numbered messages
going_begins lines w to = record { world = refl; outputs = sym (outputs_none to); size = refl; sent = (let e : length w.sent ≡ length w.sent + 0 = omega arith in e) }

all_at : {X : Type 0} (P : X → Type 0) (xs : List X) (i : ℕ) (d : X) → AllByRecursion P xs → i < length xs → P (get_or xs i d)
all_at P [] i d a l = absurd (omega arith)
all_at P (x ∷ xs) zero d a l = a.0
all_at P (x ∷ xs) (suc i) d a l = all_at P xs i d a.1 (omega arith)

-- the next is a line of the group
pub going_fits : (version : ℕ) (lines : List Line) (i : ℕ) (l : Line) (first now : World Lying) (before to : Outputs) → AreLinesOf version first.n lines → Going i lines first now before to → i < length lines → l ≡ get_or lines i l → IsLineOf version now.n l
unfolding AreLinesOf
going_fits version lines i l first now before to a g m is = subst (λ (n : ℕ). IsLineOf version n l) (sym g.size) (subst (IsLineOf version first.n) (sym is) (all_at (IsLineOf version first.n) lines i l a m))

happenings_next : (lines : List Line) (i : ℕ) (d : Line) → i < length lines → happenings (take (i + 1) lines) ≡ happenings (take i lines) ++ happening (get_or lines i d) ∷ []
unfolding happenings
happenings_next lines i d h = rw (take_more lines i d h) (map-append happening (take i lines) (get_or lines i d ∷ []))

pub going_more : (version : ℕ) (lines : List Line) (i : ℕ) (l : Line) (first now next : World Lying) (before to to_next : Outputs) → 0 < first.n → AreLinesOf version first.n lines → i < length lines → l ≡ get_or lines i l
    → Going i lines first now before to → HaveHappened (happens hazards now (happening l)) now next to to_next → Going (i + 1) lines first next before to_next
going_more version lines i l first now next before to to_next group a m is g h =
    let xs = happenings (take i lines) in
    let ys = happening l ∷ [] in
    let x = happen hazards first xs in
    let y = happens hazards now (happening l) in
    let all = happen_append first xs ys in
    let one : happen hazards x.world ys ≡ y = ap (λ (w : World Lying). happen hazards w ys) (sym g.world) ∙ happen_one now (happening l) in
    let next_is : xs ++ ys ≡ happenings (take (i + 1) lines) = ap (λ z. xs ++ happening z ∷ []) is ∙ sym (happenings_next lines i l m) in
    let outs : (happen hazards first (xs ++ ys)).outputs ≡ x.outputs ++ y.outputs = all.outputs ∙ ap (λ (h : Happened Lying). x.outputs ++ h.outputs) one in
    let size = g.size in
    let grows = grows_one version now l (omega (arith, size, group)) (going_fits version lines i l first now before to a g m is) in
    let put : numbered (length first.sent) (x.outputs ++ y.outputs) ≡ numbered (length first.sent) x.outputs ++ numbered (length now.sent) y.outputs =
    numbered_append (length first.sent) x.outputs y.outputs ∙ ap (λ k. numbered (length first.sent) x.outputs ++ numbered k y.outputs) (sym g.sent) in
    let sent : length next.sent ≡ length first.sent + length (messages (x.outputs ++ y.outputs)) =
    ap (λ (w : World Lying). length w.sent) h.world ∙ ap length grows.sent ∙ length-append now.sent (messages y.outputs) ∙ ap (λ k. k + length (messages y.outputs)) g.sent
    ∙ (let e = length-append (messages x.outputs) (messages y.outputs) in let f : length first.sent + length (messages x.outputs) + length (messages y.outputs) ≡ length first.sent + length (messages x.outputs ++ messages y.outputs) = omega (arith, e) in f)
    ∙ ap (λ ms. length first.sent + length ms) (sym (messages_append x.outputs y.outputs)) in
    record {
      world = h.world ∙ ap (λ (h : Happened Lying). h.world) (sym one) ∙ sym all.world ∙ ap (λ zs. (happen hazards first zs).world) next_is;
      outputs = h.outputs ∙ ap (λ os. with_outputs os (numbered (length now.sent) y.outputs)) g.outputs ∙ outputs_append before (numbered (length first.sent) x.outputs) (numbered (length now.sent) y.outputs)
          ∙ ap (λ os. with_outputs before os) (sym put) ∙ ap (λ os. with_outputs before (numbered (length first.sent) os)) (sym outs) ∙ ap (λ zs. with_outputs before (numbered (length first.sent) (happen hazards first zs).outputs)) next_is;
      size = ap (λ (w : World Lying). w.n) h.world ∙ grows.size ∙ g.size;
      sent = sent ∙ ap (λ os. length first.sent + length (messages os)) (sym outs) ∙ ap (λ zs. length first.sent + length (messages (happen hazards first zs).outputs)) next_is;
    }

pub going_ends : (lines : List Line) (i : ℕ) (first now : World Lying) (before to : Outputs) → length lines ≤ i → Going i lines first now before to → HaveHappened (happen hazards first (happenings lines)) first now before to
going_ends lines i first now before to h g =
    let all : take i lines ≡ lines = take_all i lines h in
    record {
      world = g.world ∙ ap (λ ls. (happen hazards first (happenings ls)).world) all;
      outputs = g.outputs ∙ ap (λ ls. with_outputs before (numbered (length first.sent) (happen hazards first (happenings ls)).outputs)) all;
    }

pub ruleset goings = (going_begins, going_fits, going_more, going_ends)
