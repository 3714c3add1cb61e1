-- What has come of the source, line by line.
use Rattle.std.proofs.Common.{◌≡◌, ◌<◌, ◌≤◌, ℕ, ◌+◌, List, [], ◌∷◌, ◌++◌, length, true, false, eqb, inl, inr, refl, ap, sym, subst, ◌∙◌, arith, append_assoc, length-append, Option, Some, None, Result, Ok, Err}
use Rattle.std.specs.Io.KnownBytes.{Appends}
use Rattle.std.specs.Prelude.{OnOk, IfErr}
use Rattle.std.proofs.lemmas.List.{append-nil}
use Rattle.std.proofs.lemmas.Bool.{lt-ltb}
use Rattle.std.proofs.lemmas.Bool.Decides.{nat_tests}
use Rattle.vr_base.specs.Causes.{one_more}
use Rattle.vr_edge.specs.Told.{AppendsFront}
use Rattle.vr_edge.proofs.Told.{appends_nil, appends_trans}
use Rattle.vr_lines.specs.Cuts.{Cut, cut, whole_lines}
use Rattle.vr_lines.specs.Held.{Held, IsGiven}
use Rattle.vr_lines.proofs.Cutting.{Begins, cut_line, cut_part}
use Rattle.vr_group.specs.Outputs.{Numbered, text_of}
use Rattle.cmd_replay.specs.declared.playing.Replay.{Replay}
use Rattle.cmd_replay.specs.declared.stop.Stop.{Stop}
use Rattle.cmd_replay.specs.declared.stop.Stop.TheVariants as stop
use Rattle.cmd_replay.specs.Playing.{Played, judged, taken, behind, and_then, plays, heard, hears, hears_lines, if_too_long, ends, IsReplay, HearsAll, Hears, Scene, scene_of, longest_line}
use Rattle.cmd_replay.specs.Schedule.{limit}
use Rattle.cmd_replay.specs.Stops.{HasStopped, Stopped, Tells}
use Rattle.cmd_replay.proofs.Heard.{heard_line, heard_part}
use Rattle.vr_group.proofs.Numbering.{text_append, text_none}
use Rattle.cmd_replay.proofs.Plays.{behind_behind, plays_append, plays_line, plays_none, and_then_refused, and_then_none, Extends, extends_refl, and_then_extends, too_long}

-- where nothing stands of the next line
pub sound_at_first : (s : Replay) → s.group.live ≡ true → s.number ≡ 0 → s.lines.bytes ≡ [] → IsReplay s
unfolding cut
sound_at_first s live number bytes = record {
  live = live;
  part = rw bytes refl;
  short = rw bytes (omega arith);
  few = rw number (omega arith);
}

-- ---- what lines come to, and with more lines after them: after a refusal nothing more

pub record Follows (t u : Played) : Type 0 where
  pub same : (k : ℕ) → t.refused ≡ Some k → u ≡ t
  pub grows : Extends t.outputs u.outputs

pub follows_refl : (t : Played) → Follows t t
follows_refl t = record { same = λ k e. refl; grows = extends_refl t.outputs }

follows_and_then : (t later : Played) → Follows t (and_then t.refused t later)
follows_and_then t later = record { same = λ k e. and_then_refused t later k t.refused e; grows = and_then_extends t later t.refused }

-- with more lines after the same ones
follows_behind : (a : List Numbered) (t u : Played) → Follows t u → Follows (behind a t) (behind a u)
follows_behind a t u f = record {
  same = λ k e. ap (behind a) (f.same k e);
  grows = record { more = f.grows.more; is = ap (λ ys. a ++ ys) f.grows.is ∙ sym (append_assoc a t.outputs f.grows.more) };
}

follows_by : (p t u : Played) (o : Option ℕ) → Follows t u → Follows (and_then o p t) (and_then o p u)
follows_by p t u (Some k) f = follows_refl p
follows_by p t u None f = follows_behind p.outputs t u f

pub follows_lines : (w : Scene) (number : ℕ) (a b c : List (List ℕ)) → ((u : Scene) (k : ℕ) → Follows (plays u k b) (plays u k c)) → Follows (plays w number (a ++ b)) (plays w number (a ++ c))
follows_lines w number a b c f =
    rw (plays_append w number a b, plays_append w number a c)
    (follows_by (plays w number a) _ _ (plays w number a).refused (f (plays w number a).scene (plays w number a).number))

pub follows_none : (w : Scene) (number : ℕ) (texts : List (List ℕ)) → Follows (plays w number []) (plays w number texts)
unfolding plays
follows_none w number texts = record { same = λ k e. absurd (cc); grows = record { more = (plays w number texts).outputs; is = refl } }

-- what has not ended and is too long, and whatever comes after it
pub follows_long : (w : Scene) (number : ℕ) (p : List ℕ) (texts : List (List ℕ)) → longest_line < length p → Begins p texts → Follows (plays w number (p ∷ [])) (plays w number texts)
follows_long w number p texts long b =
    let longer : longest_line < length (p ++ b.rest) = grind (arith, length-append p b.rest) in
    let one = plays_line w number p [] ∙ ap (λ (t : Played). and_then t.refused t (plays t.scene t.number [])) (too_long w number p long) in
    let other = ap (plays w number) b.is ∙ plays_line w number (p ++ b.rest) b.later ∙ ap (λ (t : Played). and_then t.refused t (plays t.scene t.number b.later)) (too_long w number (p ++ b.rest) longer) in
    rw (one, other) (follows_refl (judged w number None))

pub is_long : (bytes : List ℕ) → longest_line < length bytes → if_too_long bytes ≡ bytes ∷ []
is_long bytes h = rw (lt-ltb longest_line (length bytes) h) refl

pub not_long : (bytes : List ℕ) → length bytes ≤ longest_line → if_too_long bytes ≡ []
not_long bytes h = grind (arith, nat_tests)

-- ---- a stop after other lines, and before others

pub front_then : (a b c : Option (List ℕ)) (xs ys all more : List ℕ) → Appends a b xs → AppendsFront b c ys → all ≡ (xs ++ ys) ++ more → AppendsFront a c all
front_then a b c xs ys all more h k e = (
  xs ++ k.0,
  k.1 ++ more,
  appends_trans a b c xs k.0 h k.2,
  append_assoc xs k.0 (k.1 ++ more) ∙ ap (λ x. xs ++ x) (sym (append_assoc k.0 k.1 more) ∙ ap (λ x. x ++ more) k.3) ∙ sym (append_assoc xs ys more) ∙ sym e,
)

text_within : (outputs : List Numbered) (t u all : Played) → all ≡ behind outputs u → (e : Extends t.outputs u.outputs) → text_of all.outputs ≡ (text_of outputs ++ text_of t.outputs) ++ text_of e.more
text_within outputs t u all is e =
    ap (λ (p : Played). text_of p.outputs) is
    ∙ ap (λ ys. text_of (outputs ++ ys)) e.is
    ∙ text_append outputs (t.outputs ++ e.more)
    ∙ ap (λ ys. text_of outputs ++ ys) (text_append t.outputs e.more)
    ∙ sym (append_assoc (text_of outputs) (text_of t.outputs) (text_of e.more))

front_within : (a b c : Option (List ℕ)) (outputs : List Numbered) (t u all : Played) → all ≡ behind outputs u → Extends t.outputs u.outputs → Appends a b (text_of outputs) → AppendsFront b c (text_of t.outputs) → AppendsFront a c (text_of all.outputs)
front_within a b c outputs t u all is e h k =
    front_then a b c (text_of outputs) (text_of t.outputs) _ (text_of e.more) h k (text_within outputs t u all is e)

pub stopped_within : (first before now : ℕ) (a b c : Option (List ℕ)) (outputs : List Numbered) (t u all : Played) (why : Stop) → before ≡ first → all ≡ behind outputs u → Follows t u → Appends a b (text_of outputs) → Stopped before now b c t why → Stopped first now a c all why
stopped_within first before now a b c outputs t u all (stop.Refused k) kept is f h s =
    let same = is ∙ ap (behind outputs) (f.same k s.1) in (
      s.0 ∙ kept,
      ap (λ (p : Played). p.refused) same ∙ s.1,
      rw (same, text_append outputs t.outputs) (appends_trans a b c (text_of outputs) (text_of t.outputs) h s.2),
    )
stopped_within first before now a b c outputs t u all stop.WriteFault kept is f h s =
    (s.0 ∙ ap one_more kept, front_within a b c outputs t u all is f.grows h s.1)
stopped_within first before now a b c outputs t u all stop.NoMemory kept is f h s =
    (s.0 ∙ kept, front_within a b c outputs t u all is f.grows h s.1)

-- ---- the lines that have ended

-- in the midst of them
pub record Taking (first now : Replay) (taken_first taken_now : Option (List ℕ)) : Type 0 where
  pub outputs : List Numbered
  pub played : hears_lines first ≡ behind outputs (hears_lines now)
  pub last : (cut first.lines.bytes).last ≡ (cut now.lines.bytes).last
  pub text : Appends taken_first taken_now (text_of outputs)

pub taking_start : (s : Replay) (t : Option (List ℕ)) → Taking s s t t
taking_start s t = record { outputs = []; played = refl; last = refl; text = rw text_none (appends_nil t) }

-- one line more
hears_line : (w : Scene) (number : ℕ) (bytes line rest : List ℕ) → whole_lines line ≡ [] → bytes ≡ line ++ 10 ∷ rest → plays w number (heard bytes) ≡ and_then (taken w number line).refused (taken w number line) (plays (taken w number line).scene (taken w number line).number (heard rest))
hears_line w number bytes line rest part whole =
    ap (λ x. plays w number (heard x)) whole
    ∙ ap (plays w number) (heard_line line rest part)
    ∙ plays_line w number line (heard rest)

pub taking_more : (first s s' : Replay) (line : List ℕ) (t0 t t' : Option (List ℕ)) → Taking first s t0 t → whole_lines line ≡ [] → s.lines.bytes ≡ line ++ 10 ∷ s'.lines.bytes → scene_of s'.group ≡ (taken (scene_of s.group) s.number line).scene → s'.number ≡ (taken (scene_of s.group) s.number line).number → (taken (scene_of s.group) s.number line).refused ≡ None → Appends t t' (text_of (taken (scene_of s.group) s.number line).outputs) → Taking first s' t0 t'
taking_more first s s' line t0 t t' m part whole scene number accepted text =
    let line_played = taken (scene_of s.group) s.number line in
    let rest = s'.lines.bytes in
    let next = hears_line (scene_of s.group) s.number s.lines.bytes line rest part whole ∙ and_then_none line_played _ line_played.refused accepted in
    let same : plays line_played.scene line_played.number (heard rest) ≡ hears_lines s' = rw (scene, number) refl in
    record {
      outputs = m.outputs ++ line_played.outputs;
      played = m.played ∙ ap (behind m.outputs) (next ∙ ap (behind line_played.outputs) same) ∙ behind_behind m.outputs line_played.outputs (hears_lines s');
      last = m.last ∙ ap (λ x. (cut x).last) whole ∙ ap (λ (c : Cut). c.last) (cut_line line rest part);
      text = rw (text_append m.outputs line_played.outputs) (appends_trans t0 t t' _ _ m.text text);
    }

pub taking_stopped : (before after now : ℕ) (a b c : Option (List ℕ)) (first s : Replay) (line rest : List ℕ) (why : Stop) → after ≡ before → Taking first s a b → whole_lines line ≡ [] → s.lines.bytes ≡ line ++ 10 ∷ rest → Stopped after now b c (taken (scene_of s.group) s.number line) why → Stopped before now a c (hears_lines first) why
taking_stopped before after now a b c first s line rest why kept m part whole h =
    let t = taken (scene_of s.group) s.number line in
    stopped_within before after now a b c m.outputs t _ (hears_lines first) why kept
    (m.played ∙ ap (behind m.outputs) (hears_line (scene_of s.group) s.number s.lines.bytes line rest part whole)) (follows_and_then t (plays t.scene t.number (heard rest))) m.text h

-- no line more has ended
none_heard : (w : Scene) (number : ℕ) (bytes : List ℕ) → whole_lines bytes ≡ [] → length bytes ≤ longest_line → plays w number (heard bytes) ≡ record { scene = w; number = number; refused = None; outputs = [] }
none_heard w number bytes part short =
    ap (plays w number) (heard_part bytes part ∙ not_long bytes short) ∙ plays_none w number

pub taking_done : (first s s' : Replay) (a b : Option (List ℕ)) → Taking first s a b → s.group.live ≡ true → s.number ≤ limit → whole_lines s.lines.bytes ≡ [] → length s.lines.bytes ≤ longest_line → s'.group ≡ s.group → s'.number ≡ s.number → s'.lines.bytes ≡ s.lines.bytes → HearsAll first s' first.lines.bytes a b
taking_done first s s' a b m live few part short group number bytes =
    let all = m.played ∙ ap (behind m.outputs) (none_heard (scene_of s.group) s.number s.lines.bytes part short) in
    record {
      scene = ap scene_of group ∙ sym (ap (λ (p : Played). p.scene) all);
      number = number ∙ sym (ap (λ (p : Played). p.number) all);
      accepted = ap (λ (p : Played). p.refused) all;
      partial = bytes ∙ sym (ap (λ (c : Cut). c.last) (cut_part s.lines.bytes part)) ∙ sym m.last;
      sound = record {
        live = rw group live;
        part = rw bytes part;
        short = rw bytes short;
        few = rw number few;
      };
      text = rw (ap (λ (p : Played). text_of p.outputs) all, append-nil m.outputs) m.text;
    }

-- the next one is too long
pub taking_refused : (before now : ℕ) (first s : Replay) (a b : Option (List ℕ)) → now ≡ before → Taking first s a b → whole_lines s.lines.bytes ≡ [] → longest_line < length s.lines.bytes → Stopped before now a b (hears_lines first) (stop.Refused (s.number + 1))
taking_refused before now first s a b kept m part long =
    let bytes = s.lines.bytes in
    let w = scene_of s.group in
    let all = m.played ∙ ap (behind m.outputs) (ap (plays w s.number) (heard_part bytes part ∙ is_long bytes long) ∙ plays_line w s.number bytes [] ∙ ap (λ (p : Played). and_then p.refused p (plays p.scene p.number [])) (too_long w s.number bytes long)) in (
      kept,
      ap (λ (p : Played). p.refused) all,
      rw (ap (λ (p : Played). text_of p.outputs) all, append-nil m.outputs) m.text,
    )

-- ---- the same of a text, which nothing is written of yet

pub taking_has : (a b c : List ℕ) (first s : Replay) (line rest : List ℕ) (why : Stop) → Taking first s (Some a) (Some b) → whole_lines line ≡ [] → s.lines.bytes ≡ line ++ 10 ∷ rest → HasStopped b c (taken (scene_of s.group) s.number line) why → HasStopped a c (hears_lines first) why
taking_has a b c first s line rest (stop.Refused k) m part whole h =
    let r = taking_stopped 0 0 0 (Some a) (Some b) (Some c) first s line rest (stop.Refused k) refl m part whole (refl, h.0, h.1) in
    (r.1, r.2)
taking_has a b c first s line rest stop.WriteFault m part whole h = h
taking_has a b c first s line rest stop.NoMemory m part whole h =
    (taking_stopped 0 0 0 (Some a) (Some b) (Some c) first s line rest stop.NoMemory refl m part whole (refl, h)).1

pub taking_has_refused : (a b : List ℕ) (first s : Replay) → Taking first s (Some a) (Some b) → whole_lines s.lines.bytes ≡ [] → longest_line < length s.lines.bytes → HasStopped a b (hears_lines first) (stop.Refused (s.number + 1))
taking_has_refused a b first s m part long =
    let r = taking_refused 0 0 first s (Some a) (Some b) refl m part long in
    (r.1, r.2)

-- what was heard is a front of what the lines come to
pub tells_front : (heard : Result (Unit {0}) Stop) (text : List ℕ) (t : Played) → Tells heard text t → (more : List ℕ) × (text ++ more ≡ text_of t.outputs)
tells_front (Ok u) text t h = ([], append-nil text ∙ h)
tells_front (Err (stop.Refused k)) text t h = ([], append-nil text ∙ h.1)
tells_front (Err stop.WriteFault) text t h = absurd h
tells_front (Err stop.NoMemory) text t h = (h.1, ap (λ x. x ++ h.1) h.2 ∙ h.3)

-- of which a front was written
pub front_heard : (a b : Option (List ℕ)) (heard : Result (Unit {0}) Stop) (text : List ℕ) (t : Played) → Tells heard text t → AppendsFront a b text → AppendsFront a b (text_of t.outputs)
front_heard a b heard text t h k =
    let f = tells_front heard text t h in
    (k.0, k.1 ++ f.0, k.2, sym (append_assoc k.0 k.1 f.0) ∙ ap (λ x. x ++ f.0) k.3 ∙ f.1)

-- and of which all was written
pub stopped_heard : (before now : ℕ) (a b : Option (List ℕ)) (text : List ℕ) (t : Played) (why : Stop) → now ≡ before → Appends a b text → HasStopped [] text t why → Stopped before now a b t why
stopped_heard before now a b text t (stop.Refused k) kept all h = (kept, h.0, rw (← h.1) all)
stopped_heard before now a b text t stop.WriteFault kept all h = absurd h
stopped_heard before now a b text t stop.NoMemory kept all h =
    let f = tells_front (Err stop.NoMemory) text t h in
    (kept, (text, f.0, all, f.1))

pub written_all : (a b : Option (List ℕ)) (heard : Result (Unit {0}) Stop) (text : List ℕ) (t : Played) → Tells heard text t → Appends a b text → OnOk heard (Appends a b (text_of t.outputs))
written_all a b (Ok u) text t h all = rw (← h) all
written_all a b (Err why) text t h all = tt

pub stopped_all : (before now : ℕ) (a b : Option (List ℕ)) (heard : Result (Unit {0}) Stop) (text : List ℕ) (t : Played) → now ≡ before → Tells heard text t → Appends a b text → IfErr heard (Stopped before now a b t)
stopped_all before now a b (Ok u) text t kept h all = tt
stopped_all before now a b (Err why) text t kept h all = stopped_heard before now a b text t why kept all h

-- what a call says of its text
pub tells_by : (heard : Result (Unit {0}) Stop) (text : List ℕ) (t : Played) → OnOk heard (text ≡ text_of t.outputs) → IfErr heard (HasStopped [] text t) → Tells heard text t
tells_by (Ok u) text t ok err = ok
tells_by (Err why) text t ok err = err

pub tells_lines : (heard : Result (Unit {0}) Stop) (s s' : Replay) (text : List ℕ) → OnOk heard (HearsAll s s' s.lines.bytes (Some []) (Some text)) → IfErr heard (HasStopped [] text (hears_lines s)) → Tells heard text (hears_lines s)
tells_lines (Ok u) s s' text ok err = ok.text
tells_lines (Err why) s s' text ok err = err

-- where it was written too
written_too : (heard result : Result (Unit {0}) Stop) (s s' : Replay) (text : List ℕ) (a b : Option (List ℕ)) → OnOk result (heard ≡ result) → OnOk heard (HearsAll s s' s.lines.bytes (Some []) (Some text)) → OnOk result (Appends a b (text_of (hears_lines s).outputs)) → OnOk result (HearsAll s s' s.lines.bytes a b)
written_too heard (Ok u) s s' text a b same ok written =
    let h = subst (λ (r : Result (Unit {0}) Stop). OnOk r (HearsAll s s' s.lines.bytes (Some []) (Some text))) same ok in
    record { scene = h.scene; number = h.number; accepted = h.accepted; partial = h.partial; sound = h.sound; text = written }
written_too heard (Err why) s s' text a b same ok written = tt

pub hears_written : (heard result : Result (Unit {0}) Stop) (s s' : Replay) (none to text : List ℕ) (a b : Option (List ℕ)) → none ≡ [] → text ≡ to → OnOk result (heard ≡ result) → OnOk heard (HearsAll s s' s.lines.bytes (Some none) (Some to)) → IfErr heard (HasStopped none to (hears_lines s)) → ((t : Played) → Tells heard text t → OnOk result (Appends a b (text_of t.outputs))) → OnOk result (HearsAll s s' s.lines.bytes a b)
hears_written heard result s s' none to text a b e f same ok err written =
    let ok' = subst (λ x. OnOk heard (HearsAll s s' s.lines.bytes (Some x) (Some text))) e (subst (λ y. OnOk heard (HearsAll s s' s.lines.bytes (Some none) (Some y))) (sym f) ok) in
    let err' = subst (λ x. IfErr heard (HasStopped x text (hears_lines s))) e (subst (λ y. IfErr heard (HasStopped none y (hears_lines s))) (sym f) err) in
    written_too heard result s s' text a b same ok' (written (hears_lines s) (tells_lines heard s s' text ok' err'))

-- ---- a piece of the source

pub heard_short : (bytes : List ℕ) → length (cut bytes).last ≤ longest_line → whole_lines bytes ≡ heard bytes
unfolding heard
heard_short bytes h = sym (append-nil (whole_lines bytes)) ∙ ap (λ x. whole_lines bytes ++ x) (sym (not_long (cut bytes).last h))

-- a piece of the source after what stood
pub record Filled (s joined : Replay) (piece : List ℕ) : Type 0 where
  pub group : joined.group ≡ s.group
  pub number : joined.number ≡ s.number
  pub behind : joined.lines.bytes ≡ s.lines.bytes ++ piece

pub filled_lines : (s joined : Replay) (piece : List ℕ) → Filled s joined piece → hears_lines joined ≡ hears s piece
filled_lines s joined piece f =
    ap (λ g. plays (scene_of g) joined.number (heard joined.lines.bytes)) f.group
    ∙ ap (λ k. plays (scene_of s.group) k (heard joined.lines.bytes)) f.number
    ∙ ap (λ x. plays (scene_of s.group) s.number (heard x)) f.behind

pub filled_heard : (s joined s' : Replay) (piece : List ℕ) (a b : Option (List ℕ)) → Filled s joined piece → HearsAll joined s' joined.lines.bytes a b → Hears s s' piece a b
filled_heard s joined s' piece a b f h =
    let same = filled_lines s joined piece f in
    record {
      scene = h.scene ∙ ap (λ (p : Played). p.scene) same;
      number = h.number ∙ ap (λ (p : Played). p.number) same;
      accepted = sym (ap (λ (p : Played). p.refused) same) ∙ h.accepted;
      partial = h.partial ∙ ap (λ x. (cut x).last) f.behind;
      sound = h.sound;
      text = rw (← same) h.text;
    }

-- nothing came after what stood
pub filled_none : (s joined : Replay) → IsReplay s → Filled s joined [] → IsReplay joined
filled_none s joined sound f =
    let bytes : joined.lines.bytes ≡ s.lines.bytes = f.behind ∙ append-nil s.lines.bytes in
    record {
      live = rw f.group sound.live;
      part = rw bytes sound.part;
      short = rw bytes sound.short;
      few = rw f.number sound.few;
    }

pub filled_ends : (s joined : Replay) → Filled s joined [] → ends joined ≡ ends s
unfolding ends
filled_ends s joined f =
    let bytes : joined.lines.bytes ≡ s.lines.bytes = f.behind ∙ append-nil s.lines.bytes in
    rw (f.group, f.number, bytes) refl

-- ---- the end of the source

ends_taken : (s : Replay) → 0 < length s.lines.bytes → ends s ≡ taken (scene_of s.group) s.number s.lines.bytes
unfolding ends
ends_taken s some =
    let e : eqb (length s.lines.bytes) 0 ≡ false = grind (arith, nat_tests, some) in
    rw e refl

-- what is given is all that stands
pub last_taken : (s : Replay) (new : Held) → IsReplay s → IsGiven true s.lines.bytes new → ends s ≡ taken (scene_of s.group) s.number new.line
last_taken s new sound (inl h) =
    let e : new.line ∷ (cut new.bytes).lines ≡ [] = sym (ap (λ (c : Cut). c.lines) (cut_line new.line new.bytes h.0)) ∙ ap (λ x. whole_lines x) (sym h.1) ∙ sound.part in
    absurd (cc)
last_taken s new sound (inr h) = ends_taken s h.1 ∙ ap (taken (scene_of s.group) s.number) (sym h.3)

-- ---- what is given

-- a line that has ended, where the source isn't at its end
pub given_line : (old : List ℕ) (new : Held) → IsGiven false old new → (whole_lines new.line ≡ []) × (old ≡ new.line ++ 10 ∷ new.bytes)
given_line old new (inl h) = h
given_line old new (inr h) = let z = h.0 in absurd (cc)
