-- Lines that are played one after another, and what the whole schedule says of them.
use Rattle.std.proofs.Common.{◌≡◌, ◌<◌, ℕ, ◌+◌, List, [], ◌∷◌, ◌++◌, length, Bool, true, false, cond, ltb, refl, ap, sym, subst, ◌∙◌, arith, append_assoc, length-append, Option, Some, None}
use Rattle.std.specs.Option.{option_map_or}
use Rattle.std.proofs.lemmas.List.{append-nil}
use Rattle.vr_base.specs.declared.kind.Kind.{Kind}
use Rattle.vr_base.proofs.Members.{least_of}
use Rattle.vr_base.proofs.Versions.{between}
use Rattle.vr_lines.specs.Fits.{IsLineOf}
use Rattle.vr_lines.specs.Grammar.{parse}
use Rattle.vr_lines.specs.declared.line.Line.{Line}
use Rattle.vr_lines.specs.declared.line.Line.TheVariants as line
use Rattle.vr_lines.proofs.Fitting.{long_parse, parsed_fits}
use Rattle.vr_rules.specs.Outputs.{messages}
use Rattle.vr_world.specs.Lying.{Lying, hazards}
use Rattle.vr_world.specs.World.{Happened, World, fresh_world, happen, happens}
use Rattle.vr_group.specs.Outputs.{Numbered, numbered}
use Rattle.vr_group.specs.Lines.{happening, happenings}
use Rattle.vr_group.proofs.Goings.{Grows, grows_one, numbered_append}
use Rattle.cmd_replay.specs.Schedule.{Accepted, Schedule, accepted, begun, limit, line_at, no_group, of_group, put_out, refuses, so_far, with_line}
use Rattle.cmd_replay.specs.Playing.{Played, comes, judged, taken, behind, and_then, plays, Scene, no_scene, longest_line}

pub behind_behind : (a b : List Numbered) (t : Played) → behind a (behind b t) ≡ behind (a ++ b) t
behind_behind a b t = ap (λ (x : List Numbered). let y : Played = record { scene = t.scene; number = t.number; refused = t.refused; outputs = x } in y) (sym (append_assoc a b t.outputs))

behind_and_then : (a : List Numbered) (t later : Played) (o : Option ℕ) → behind a (and_then o t later) ≡ and_then o (behind a t) later
behind_and_then a t later (Some k) = refl
behind_and_then a t later None = behind_behind a t.outputs later

and_then_then : (t x : Played) (f : Scene → ℕ → Played) (o : Option ℕ) → t.refused ≡ o → and_then o t (and_then x.refused x (f x.scene x.number)) ≡ and_then (and_then o t x).refused (and_then o t x) (f (and_then o t x).scene (and_then o t x).number)
and_then_then t x f (Some k) e = rw e refl
and_then_then t x f None e = behind_and_then t.outputs x (f x.scene x.number) x.refused

pub plays_append : (w : Scene) (number : ℕ) (xs ys : List (List ℕ)) → plays w number (xs ++ ys) ≡ and_then (plays w number xs).refused (plays w number xs) (plays (plays w number xs).scene (plays w number xs).number ys)
unfolding plays
plays_append w number [] ys = refl
plays_append w number (x ∷ xs) ys =
    let t = taken w number x in
    ap (and_then t.refused t) (plays_append t.scene t.number xs ys) ∙ and_then_then t (plays t.scene t.number xs) (λ u k. plays u k ys) t.refused refl

pub plays_line : (w : Scene) (number : ℕ) (x : List ℕ) (xs : List (List ℕ)) → plays w number (x ∷ xs) ≡ and_then (taken w number x).refused (taken w number x) (plays (taken w number x).scene (taken w number x).number xs)
unfolding plays
plays_line w number x xs = refl

pub plays_none : (w : Scene) (number : ℕ) → plays w number [] ≡ record { scene = w; number = number; refused = None; outputs = [] }
unfolding plays
plays_none w number = refl

-- a refusal ends it
pub and_then_refused : (t later : Played) (k : ℕ) (o : Option ℕ) → o ≡ Some k → and_then o t later ≡ t
and_then_refused t later k (Some j) e = refl
and_then_refused t later k None e = absurd (cc)

pub and_then_none : (t later : Played) (o : Option ℕ) → o ≡ None → and_then o t later ≡ behind t.outputs later
and_then_none t later (Some j) e = absurd (cc)
and_then_none t later None e = refl

-- the text only grows
pub record Extends (old new : List Numbered) : Type 0 where
  pub more : List Numbered
  pub is : new ≡ old ++ more

pub extends_refl : (a : List Numbered) → Extends a a
extends_refl a = record { more = []; is = sym (append-nil a) }

pub and_then_extends : (t later : Played) (o : Option ℕ) → Extends t.outputs (and_then o t later).outputs
and_then_extends t later (Some k) = extends_refl t.outputs
and_then_extends t later None = record { more = later.outputs; is = refl }

-- a line that is too long, whatever comes after it
none_by : (a : Bool) (o : Option Line) → o ≡ None → cond a o None ≡ None
none_by true o e = e
none_by false o e = refl

pub too_long : (w : Scene) (number : ℕ) (text : List ℕ) → longest_line < length text → taken w number text ≡ judged w number None
unfolding taken
too_long w number text h =
    let most = between w.version 1135 3111 (omega arith) in
    ap (judged w number) (none_by (ltb number limit) (parse w.version w.world.n text) (long_parse w.version w.world.n text (omega (arith, most.1, h))))

-- a line that is taken speaks of the group
pub line_at_fits : (version n number : ℕ) (text : List ℕ) (l : Line) → line_at version n number text ≡ Some l → IsLineOf version n l
line_at_fits version n number text l e =
    let cases : (b : Bool) → cond b (parse version n text) None ≡ Some l → parse version n text ≡ Some l = elim [ true ↦ λ h. h | false ↦ λ h. absurd (cc) ] in
    parsed_fits version n text l (cases (ltb number limit) e)

-- what a schedule says of lines after its first
record Follow (p : Played) (w : Scene) (a : Accepted) : Type 0 where
  refused : p.refused ≡ a.refused
  outputs : p.outputs ≡ numbered (length w.world.sent) (happen hazards w.world (happenings a.lines)).outputs

happenings_more : (w : World Lying) (l : Line) (ls : List Line) → (happen hazards w (happenings (l ∷ ls))).outputs ≡ (happens hazards w (happening l)).outputs ++ (happen hazards (happens hazards w (happening l)).world (happenings ls)).outputs
unfolding happen happenings
happenings_more w l ls = refl

sent_after : (w : World Lying) (h : Happened Lying) → Grows w h → length h.world.sent ≡ length w.sent + length (messages h.outputs)
sent_after w h g = ap length g.sent ∙ length-append w.sent (messages h.outputs)

numbered_line : (w : Scene) (l : Line) (ls : List Line) → 0 < w.world.n → IsLineOf w.version w.world.n l
    → numbered (length w.world.sent) (happen hazards w.world (happenings (l ∷ ls))).outputs ≡ (comes w l).outputs ++ numbered (length (comes w l).scene.world.sent) (happen hazards (comes w l).scene.world (happenings ls)).outputs
unfolding comes
numbered_line w l ls some of =
    let first = happens hazards w.world (happening l) in
    let later = happen hazards first.world (happenings ls) in
    ap (numbered (length w.world.sent)) (happenings_more w.world l ls)
    ∙ numbered_append (length w.world.sent) first.outputs later.outputs
    ∙ ap (λ m. numbered (length w.world.sent) first.outputs ++ numbered m later.outputs) (sym (sent_after w.world first (grows_one w.version w.world l some of)))

size_after : (w : Scene) (l : Line) → 0 < w.world.n → IsLineOf w.version w.world.n l → (comes w l).scene.world.n ≡ w.world.n
unfolding comes
size_after w l some of = (grows_one w.version w.world l some of).size

-- lines of a group are of its version
version_after : (w : Scene) (l : Line) → 0 < w.world.n → IsLineOf w.version w.world.n l → (comes w l).scene.version ≡ w.version
unfolding comes
version_after w (line.Cluster n kind) some of = absurd (let z : w.world.n ≡ 0 = of.0 in omega (arith, some, z))
version_after w (line.Request replica request) some of = refl
version_after w (line.Deliver number) some of = refl
version_after w (line.Tick replica) some of = refl
version_after w (line.Stop replica) some of = refl
version_after w (line.Start replica) some of = refl
version_after w (line.Migrate replica) some of = refl
version_after w (line.Fuse replica call code) some of = refl
version_after w (line.Damage replica sector) some of = refl
version_after w (line.Stale replica sector) some of = refl
version_after w (line.Unread replica sector) some of = refl
version_after w (line.Misdirect replica sector other) some of = refl

follow_line : (w : Scene) (number : ℕ) (l : Line) (texts : List (List ℕ)) → 0 < w.world.n → IsLineOf w.version w.world.n l
    → Follow (plays (comes w l).scene (number + 1) texts) (comes w l).scene (accepted (comes w l).scene.version (comes w l).scene.world.n (number + 1) texts)
    → Follow (behind (comes w l).outputs (plays (comes w l).scene (number + 1) texts)) w (with_line l (accepted w.version w.world.n (number + 1) texts))
follow_line w number l texts some of f =
    let p = plays (comes w l).scene (number + 1) texts in
    let size = size_after w l some of in
    let version = version_after w l some of in
    let h : Follow p (comes w l).scene (accepted w.version w.world.n (number + 1) texts) =
    subst (λ v. Follow p (comes w l).scene (accepted v w.world.n (number + 1) texts)) version (subst (λ n. Follow p (comes w l).scene (accepted (comes w l).scene.version n (number + 1) texts)) size f) in
    record {
      refused = h.refused;
      outputs = ap (λ x. (comes w l).outputs ++ x) h.outputs ∙ sym (numbered_line w l (accepted w.version w.world.n (number + 1) texts).lines some of);
    }

plays_follow : (w : Scene) (number : ℕ) (texts : List (List ℕ)) → 0 < w.world.n → Follow (plays w number texts) w (accepted w.version w.world.n number texts)
unfolding plays taken accepted happen happenings numbered
plays_follow w number [] some = record { refused = refl; outputs = refl }
plays_follow w number (text ∷ texts) some =
    let cases : (o : Option Line) → line_at w.version w.world.n number text ≡ o → Follow (and_then (judged w number o).refused (judged w number o) (plays (judged w number o).scene (judged w number o).number texts)) w (option_map_or (λ l. with_line l (accepted w.version w.world.n (number + 1) texts)) o (refuses (number + 1))) =
    elim [
      | None ↦ λ e. record { refused = refl; outputs = refl }
      | Some l ↦ λ e.
          let of = line_at_fits w.version w.world.n number text l e in
          let n = size_after w l some of in
          follow_line w number l texts some of (plays_follow (comes w l).scene (number + 1) texts (rw n some))
    ] in
    cases (line_at w.version w.world.n number text) refl

-- what a whole schedule says of its lines
pub record Shows (p : Played) (s : Schedule) : Type 0 where
  pub refused : p.refused ≡ s.refused
  pub outputs : p.outputs ≡ put_out s

fresh_size : (kind : Kind) (n : ℕ) → (fresh_world hazards kind n).n ≡ n
unfolding fresh_world
fresh_size kind n = refl

positive : (kind : Kind) (n : ℕ) → 0 < n → 0 < (fresh_world hazards kind n).n
unfolding fresh_world
positive kind n h = h

fresh_sent : (kind : Kind) (n : ℕ) → length (fresh_world hazards kind n).sent ≡ 0
unfolding fresh_world
fresh_sent kind n = refl

-- the group of the first line, and of the schedule
numbered_fresh : (kind : Kind) (n : ℕ) (texts : List (List ℕ))
    → numbered (length (fresh_world hazards kind n).sent) (happen hazards (fresh_world hazards kind n) (happenings (accepted kind.version (fresh_world hazards kind n).n 1 texts).lines)).outputs ≡ put_out (of_group kind n (accepted kind.version n 1 texts))
numbered_fresh kind n texts =
    let w = fresh_world hazards kind n in
    ap (λ m. numbered m (happen hazards w (happenings (accepted kind.version w.n 1 texts).lines)).outputs) (fresh_sent kind n)
    ∙ ap (λ m. numbered 0 (happen hazards w (happenings (accepted kind.version m 1 texts).lines)).outputs) (fresh_size kind n)

show_first : (text : List ℕ) (texts : List (List ℕ)) (l : Line) → IsLineOf 1 0 l → Shows (behind (comes no_scene l).outputs (plays (comes no_scene l).scene 1 texts)) (begun texts l)
unfolding comes numbered
show_first text texts (line.Cluster n kind) h =
    let least = h.1 in
    let some = (least_of kind.version).0 in
    let f = plays_follow (record { world = fresh_world hazards kind n; version = kind.version }) 1 texts (positive kind n (omega (arith, least, some))) in
    record {
      refused = f.refused ∙ ap (λ m. (accepted kind.version m 1 texts).refused) (fresh_size kind n);
      outputs = f.outputs ∙ numbered_fresh kind n texts;
    }
show_first text texts (line.Request replica request) h = absurd (omega (arith, h))
show_first text texts (line.Deliver number) h = absurd (omega (arith, h))
show_first text texts (line.Tick replica) h = absurd (omega (arith, h))
show_first text texts (line.Stop replica) h = absurd (omega (arith, h))
show_first text texts (line.Start replica) h = absurd (omega (arith, h))
show_first text texts (line.Migrate replica) h = absurd (omega (arith, h))
show_first text texts (line.Fuse replica call code) h = absurd (let z = h.0 in omega (arith, z))
show_first text texts (line.Damage replica sector) h = absurd (let z = h.0 in omega (arith, z))
show_first text texts (line.Stale replica sector) h = absurd (let z = h.0 in omega (arith, z))
show_first text texts (line.Unread replica sector) h = absurd (let z = h.0 in omega (arith, z))
show_first text texts (line.Misdirect replica sector other) h = absurd (let z = h.0 in omega (arith, z))

pub plays_show : (texts : List (List ℕ)) → Shows (plays no_scene 0 texts) (so_far texts)
unfolding plays taken happen happenings numbered
plays_show [] = record { refused = refl; outputs = refl }
plays_show (text ∷ texts) =
    let cases : (o : Option Line) → line_at 1 0 0 text ≡ o → Shows (and_then (judged no_scene 0 o).refused (judged no_scene 0 o) (plays (judged no_scene 0 o).scene (judged no_scene 0 o).number texts)) (option_map_or (begun texts) o (no_group (Some 1))) =
    elim [
      | None ↦ λ e. record { refused = refl; outputs = refl }
      | Some l ↦ λ e. show_first text texts l (line_at_fits 1 0 0 text l e)
    ] in
    cases (line_at 1 0 0 text) refl
