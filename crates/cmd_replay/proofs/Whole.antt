-- A replay seen from its whole schedule.
use Rattle.std.proofs.Common.{suc, ◌≡◌, ◌<◌, ◌≤◌, ℕ, ◌+◌, List, [], ◌∷◌, ◌++◌, length, Bool, true, false, cond, eqb, ltb, refl, ap, sym, ◌∙◌, arith, length-append, Option, Some, None, inl, inr}
use Rattle.std.specs.Option.{IfSome}
use Rattle.std.specs.Io.KnownBytes.{Appends, Consumes, Keeps, IsAtEnd}
use Rattle.std.proofs.lemmas.List.{append-nil}
use Rattle.std.proofs.lemmas.Bool.Decides.{nat_tests}
use Rattle.vr_base.specs.Causes.{one_more}
use Rattle.vr_edge.specs.Told.{AppendsFront}
use Rattle.vr_edge.proofs.Told.{appends_nil, appends_trans, consumes_nil, consumes_trans, consumes_kept, consumes_whole}
use Rattle.vr_lines.specs.Cuts.{Cut, cut, whole_lines, if_any, lines_of}
use Rattle.vr_lines.specs.declared.line.Line.{Line}
use Rattle.vr_lines.proofs.Cutting.{begins, cut_append, extended, last_append, last_part, lines_append}
use Rattle.vr_world.specs.World.{fresh_world, happen}
use Rattle.vr_group.specs.Outputs.{Numbered, numbered, text_of}
use Rattle.vr_group.specs.Lines.{happenings}
use Rattle.cmd_replay.specs.declared.playing.Replay.{Replay}
use Rattle.cmd_replay.specs.declared.stop.Stop.{Stop}
use Rattle.cmd_replay.specs.declared.stop.Stop.TheVariants as stop
use Rattle.cmd_replay.specs.Playing.{Played, judged, taken, behind, and_then, plays, heard, hears, if_too_long, none_left, ends, Hears, IsReplay, Scene, no_scene, scene_of, longest_line}
use Rattle.cmd_replay.specs.Run.{text_for, text_so_far, refused_in, IsDone, IsCutShort, IsPartial, Ends}
use Rattle.cmd_replay.specs.Schedule.{line_at, schedule, so_far, put_out}
use Rattle.cmd_replay.specs.Stops.{Stopped, status_of}
use Rattle.cmd_replay.proofs.Heard.{heard_append}
use Rattle.vr_group.proofs.Numbering.{text_append, text_none}
use Rattle.cmd_replay.proofs.Plays.{plays_append, plays_line, plays_none, too_long, plays_show}
use Rattle.cmd_replay.proofs.Streams.{Follows, follows_refl, follows_lines, follows_long, follows_none, front_then, heard_short, stopped_within}

-- the whole schedule, by its lines played one after another
text_by_lines : (texts : List (List ℕ)) → text_of (put_out (schedule texts)) ≡ text_of (plays no_scene 0 texts).outputs
unfolding plays numbered happen happenings fresh_world
text_by_lines [] = refl
text_by_lines (text ∷ texts) = sym (ap text_of (plays_show (text ∷ texts)).outputs)

text_whole : (bytes : List ℕ) → text_for bytes ≡ text_of (plays no_scene 0 (lines_of bytes)).outputs
text_whole bytes = text_by_lines (lines_of bytes)

refused_by_lines : (texts : List (List ℕ)) (k : ℕ) → (plays no_scene 0 texts).refused ≡ Some k → (schedule texts).refused ≡ Some k
unfolding plays
refused_by_lines [] k e = absurd (cc)
refused_by_lines (text ∷ texts) k e = sym (plays_show (text ∷ texts)).refused ∙ e

refused_same : (texts : List (List ℕ)) → 0 < length texts → (schedule texts).refused ≡ (plays no_scene 0 texts).refused
refused_same [] some = absurd (omega arith)
refused_same (text ∷ texts) some = sym (plays_show (text ∷ texts)).refused

-- what has not ended, and whatever comes after it
follows_part : (w : Scene) (number : ℕ) (p rest : List ℕ) → whole_lines p ≡ [] → Follows (plays w number (if_too_long p)) (plays w number (lines_of (p ++ rest)))
follows_part w number p rest part =
    let cases : (b : Bool) → ltb longest_line (length p) ≡ b → Follows (plays w number (cond b (p ∷ []) [])) (plays w number (lines_of (p ++ rest))) =
    elim [
      | true ↦ λ e. let long : longest_line < length p = grind (arith, nat_tests) in follows_long w number p (lines_of (p ++ rest)) long (begins p rest (omega arith) part)
      | false ↦ λ e. follows_none w number (lines_of (p ++ rest))
    ] in
    cases (ltb longest_line (length p)) refl

follows_heard : (bytes rest : List ℕ) → Follows (plays no_scene 0 (heard bytes)) (plays no_scene 0 (lines_of (bytes ++ rest)))
unfolding heard
follows_heard bytes rest =
    rw (lines_append bytes rest)
    (follows_lines no_scene 0 (whole_lines bytes) (if_too_long (cut bytes).last) (lines_of ((cut bytes).last ++ rest)) (λ u k. follows_part u k (cut bytes).last rest (last_part bytes)))

-- in the midst of a replay
pub record Midst (left_first left_now taken_first taken_now : Option (List ℕ)) (s : Replay) : Type 0 where
  pub read : List ℕ
  pub outputs : List Numbered
  pub consumed : Consumes left_first left_now read
  pub played : plays no_scene 0 (whole_lines read) ≡ record { scene = scene_of s.group; number = s.number; refused = None; outputs = outputs }
  pub partial : s.lines.bytes ≡ (cut read).last
  pub text : Appends taken_first taken_now (text_of outputs)

pub midst_start : (l t : Option (List ℕ)) (s : Replay) → scene_of s.group ≡ no_scene → s.number ≡ 0 → s.lines.bytes ≡ [] → Midst l l t t s
unfolding cut
midst_start l t s scene number partial = record {
  read = [];
  outputs = [];
  consumed = consumes_nil l;
  played = rw (scene, number) (plays_none no_scene 0);
  partial = partial;
  text = rw text_none (appends_nil t);
}

lines_extended : (c : Cut) (ys : List ℕ) → (extended c ys).lines ≡ c.lines ++ whole_lines (c.last ++ ys)
unfolding extended
lines_extended c ys = refl

-- further lines after those that were played
plays_on : (lo l to t : Option (List ℕ)) (s : Replay) (m : Midst lo l to t s) (texts : List (List ℕ)) → plays no_scene 0 (whole_lines m.read ++ texts) ≡ behind m.outputs (plays (scene_of s.group) s.number texts)
plays_on lo l to t s m texts =
    plays_append no_scene 0 (whole_lines m.read) texts
    ∙ ap (λ (p : Played). and_then p.refused p (plays p.scene p.number texts)) m.played

lines_on : (read piece : List ℕ) → whole_lines (read ++ piece) ≡ whole_lines read ++ whole_lines ((cut read).last ++ piece)
lines_on read piece = ap (λ (c : Cut). c.lines) (cut_append read piece) ∙ lines_extended (cut read) piece

pub midst_more : (lo l ln to t tn : Option (List ℕ)) (s s' : Replay) (piece : List ℕ) → Midst lo l to t s → Consumes l ln piece → Hears s s' piece t tn → Midst lo ln to tn s'
midst_more lo l ln to t tn s s' piece m more h =
    let short : length (cut (s.lines.bytes ++ piece)).last ≤ longest_line = rw (← h.partial) h.sound.short in
    let texts : whole_lines (m.read ++ piece) ≡ whole_lines m.read ++ heard (s.lines.bytes ++ piece) =
    lines_on m.read piece ∙ ap (λ p. whole_lines m.read ++ whole_lines (p ++ piece)) (sym m.partial) ∙ ap (λ x. whole_lines m.read ++ x) (heard_short (s.lines.bytes ++ piece) short) in
    let all = ap (plays no_scene 0) texts ∙ plays_on lo l to t s m (heard (s.lines.bytes ++ piece)) in
    record {
      read = m.read ++ piece;
      outputs = m.outputs ++ (hears s piece).outputs;
      consumed = consumes_trans lo l ln m.read piece m.consumed more;
      played = all ∙ ap (behind m.outputs) (sym (rw (h.scene, h.number) (ap (λ o. let p = hears s piece in let y : Played = record { scene = p.scene; number = p.number; refused = o; outputs = p.outputs } in y) (sym h.accepted))));
      partial = h.partial ∙ ap (λ p. (cut (p ++ piece)).last) m.partial ∙ sym (last_append m.read piece);
      text = rw (text_append m.outputs (hears s piece).outputs) (appends_trans to t tn _ _ m.text h.text);
    }

-- bytes of a source that has more
some_read : (a b : Option (List ℕ)) (read : List ℕ) (P : List ℕ → Type 0) → Consumes a b read → ((rest : List ℕ) → P (read ++ rest)) → IfSome a P
some_read None b read P h p = tt
some_read (Some xs) None read P h p = absurd h
some_read (Some xs) (Some ys) read P h p = rw h (p ys)

-- the end of a piece puts out nothing: a line that is too long is refused
silent : (o : Option ℕ) (t later : Played) → later.outputs ≡ [] → (and_then o t later).outputs ≡ t.outputs
silent (Some k) t later e = refl
silent None t later e = ap (λ x. t.outputs ++ x) e ∙ append-nil t.outputs

long_silent : (w : Scene) (number : ℕ) (p : List ℕ) → (plays w number (if_too_long p)).outputs ≡ []
long_silent w number p =
    let cases : (b : Bool) → ltb longest_line (length p) ≡ b → (plays w number (cond b (p ∷ []) [])).outputs ≡ [] = elim [
      | true ↦ λ e.
          let long : longest_line < length p = grind (arith, nat_tests) in
          ap (λ (t : Played). t.outputs) (plays_line w number p [] ∙ ap (λ (t : Played). and_then t.refused t (plays t.scene t.number [])) (too_long w number p long))
      | false ↦ λ e. ap (λ (t : Played). t.outputs) (plays_none w number)
    ] in
    cases (ltb longest_line (length p)) refl

text_heard : (read : List ℕ) → text_of (plays no_scene 0 (heard read)).outputs ≡ text_so_far read
unfolding heard
text_heard read =
    let whole = plays no_scene 0 (whole_lines read) in
    let last = plays whole.scene whole.number (if_too_long (cut read).last) in
    ap text_of
    (ap (λ (p : Played). p.outputs) (plays_append no_scene 0 (whole_lines read) (if_too_long (cut read).last))
    ∙ silent whole.refused whole last (long_silent whole.scene whole.number (cut read).last)
    ∙ (plays_show (whole_lines read)).outputs)

partial_front : (lo ln to tn : Option (List ℕ)) (read : List ℕ) → Consumes lo ln read → AppendsFront to tn (text_of (plays no_scene 0 (heard read)).outputs) → IsPartial lo ln to tn
partial_front lo ln to tn read all h = record { read = read; consumed = all; text = inl (rw text_heard at h) }

-- no line is refused in the midst of a replay
accepted_so_far : (lo l to t : Option (List ℕ)) (s : Replay) (m : Midst lo l to t s) → IsReplay s → (so_far (heard m.read)).refused ≡ None
accepted_so_far lo l to t s m sound =
    let short : length (cut m.read).last ≤ longest_line = rw (← m.partial) sound.short in
    sym (plays_show (heard m.read)).refused
    ∙ ap (λ x. (plays no_scene 0 x).refused) (sym (heard_short m.read short))
    ∙ ap (λ (p : Played). p.refused) m.played

whole_stopped : (s0 s1 k0 k1 : ℕ) (lo ln to tn : Option (List ℕ)) (read piece : List ℕ) → s1 ≡ s0 → (so_far (heard read)).refused ≡ None → length ((cut read).last ++ piece) ≤ 3112 → Consumes lo ln (read ++ piece) → (why : Stop) → Stopped k0 k1 to tn (plays no_scene 0 (heard (read ++ piece))) why → Ends s0 s1 k0 k1 lo ln to tn (status_of why)
whole_stopped s0 s1 k0 k1 lo ln to tn read piece counts accepted size all (stop.Refused line) h = (
  counts,
  h.0,
  record {
    read = read;
    piece = piece;
    consumed = all;
    size = size;
    accepted = accepted;
    line = some_read lo ln (read ++ piece) (λ bytes. refused_in bytes ≡ Some line) all (λ rest. refused_by_lines (lines_of ((read ++ piece) ++ rest)) line (ap (λ (p : Played). p.refused) ((follows_heard (read ++ piece) rest).same line h.1) ∙ h.1));
    text = some_read lo ln (read ++ piece) (λ bytes. Appends to tn (text_for bytes)) all (λ rest. rw (text_whole ((read ++ piece) ++ rest), (follows_heard (read ++ piece) rest).same line h.1) h.2);
  },
)
whole_stopped s0 s1 k0 k1 lo ln to tn read piece counts accepted size all stop.WriteFault h = (counts, h.0, partial_front lo ln to tn (read ++ piece) all h.1)
whole_stopped s0 s1 k0 k1 lo ln to tn read piece counts accepted size all stop.NoMemory h = (counts, h.0, partial_front lo ln to tn (read ++ piece) all h.1)

pub stopped_in_piece : (s0 s1 k0 k k1 : ℕ) (lo l ln to t tn : Option (List ℕ)) (s : Replay) (piece : List ℕ) → Midst lo l to t s → IsReplay s → s1 ≡ s0 → Consumes l ln piece → length (s.lines.bytes ++ piece) ≤ 3112 → k ≡ k0 → (why : Stop) → Stopped k k1 t tn (hears s piece) why → Ends s0 s1 k0 k1 lo ln to tn (status_of why)
stopped_in_piece s0 s1 k0 k k1 lo l ln to t tn s piece m sound counts more size kept why h =
    let texts = heard_append m.read piece ∙ ap (λ p. whole_lines m.read ++ heard (p ++ piece)) (sym m.partial) in
    let all = ap (plays no_scene 0) texts ∙ plays_on lo l to t s m (heard (s.lines.bytes ++ piece)) in
    let fits = rw m.partial at size in
    whole_stopped s0 s1 k0 k1 lo ln to tn m.read piece counts (accepted_so_far lo l to t s m sound) fits (consumes_trans lo l ln m.read piece m.consumed more) why
    (stopped_within k0 k k1 to t tn m.outputs (hears s piece) (hears s piece) _ why kept all (follows_refl (hears s piece)) m.text h)

-- a read that failed
pub cut_short : (lo l ln to t : Option (List ℕ)) (s : Replay) → Midst lo l to t s → IsReplay s → Keeps l ln → IsCutShort lo ln to t
cut_short lo l ln to t s m sound kept =
    let shows = plays_show (whole_lines m.read) in
    record {
      read = m.read;
      consumed = consumes_kept lo l ln m.read m.consumed kept;
      accepted = accepted_so_far lo l to t s m sound;
      text = rw (← shows.outputs, m.played) m.text;
    }

-- as many lines were taken as there are
count_line : (w : Scene) (number : ℕ) (text : List ℕ) → (taken w number text).refused ≡ None → (taken w number text).number ≡ number + 1
unfolding taken
count_line w number text e =
    let cases : (o : Option Line) → (judged w number o).refused ≡ None → (judged w number o).number ≡ number + 1 = elim [ None ↦ λ h. absurd (cc) | Some l ↦ λ h. refl ] in
    cases (line_at w.version w.world.n number text) e

count_by_line : (t later : Played) (n : ℕ) (o : Option ℕ) → o ≡ t.refused → (and_then o t later).refused ≡ None → (t.refused ≡ None → later.refused ≡ None → later.number ≡ n) → (and_then o t later).number ≡ n
count_by_line t later n (Some k) is e h = absurd (let z : Some k ≡ None = is ∙ e in cc)
count_by_line t later n None is e h = h (sym is) e

count_lines : (w : Scene) (number : ℕ) (texts : List (List ℕ)) → (plays w number texts).refused ≡ None → (plays w number texts).number ≡ number + length texts
unfolding plays
count_lines w number [] e = omega arith
count_lines w number (text ∷ texts) e =
    let t = taken w number text in
    count_by_line t (plays t.scene t.number texts) (number + length (text ∷ texts)) t.refused refl e
    (λ h k. let c = count_lines t.scene t.number texts k in let l = count_line w number text h in omega (arith, c, l))

-- the end of the source
record EndsWith (read : List ℕ) (outputs : List Numbered) (p : Played) : Type 0 where
  refused : refused_in read ≡ p.refused
  text : text_for read ≡ text_of outputs ++ text_of p.outputs

last_line : (t u : Played) (n : ℕ) → cond (eqb (suc n) 0) t u ≡ u
last_line t u n = let e : eqb (suc n) 0 ≡ false = grind (arith, nat_tests) in rw e refl

ends_none : (s : Replay) → s.lines.bytes ≡ [] → ends s ≡ none_left (scene_of s.group) s.number
unfolding ends
ends_none s e = rw e refl

ends_some : (s : Replay) (b : ℕ) (p : List ℕ) → s.lines.bytes ≡ b ∷ p → ends s ≡ taken (scene_of s.group) s.number (b ∷ p)
unfolding ends
ends_some s b p e = rw e (last_line (none_left (scene_of s.group) s.number) (taken (scene_of s.group) s.number (b ∷ p)) (length p))

none_refused : (texts : List (List ℕ)) (number : ℕ) → number ≡ length texts → (plays no_scene 0 texts).refused ≡ None → (schedule texts).refused ≡ cond (eqb number 0) (Some 1) None
none_refused [] number n e = rw n refl
none_refused (text ∷ texts) number n e =
    let z : eqb (suc (length texts)) 0 ≡ false = grind (arith, nat_tests) in
    rw (n, z) (refused_same (text ∷ texts) (omega arith) ∙ e)

and_nothing_refused : (t : Played) (w : Scene) (number : ℕ) (o : Option ℕ) → o ≡ t.refused → (and_then o t (plays w number [])).refused ≡ t.refused
unfolding plays
and_nothing_refused t w number (Some k) e = refl
and_nothing_refused t w number None e = e

and_nothing_outputs : (t : Played) (w : Scene) (number : ℕ) (o : Option ℕ) → (and_then o t (plays w number [])).outputs ≡ t.outputs
unfolding plays
and_nothing_outputs t w number (Some k) = refl
and_nothing_outputs t w number None = append-nil t.outputs

ends_with : (lo l to t : Option (List ℕ)) (s : Replay) (m : Midst lo l to t s) (p : List ℕ) → s.lines.bytes ≡ p → EndsWith m.read m.outputs (ends s)
ends_with lo l to t s m [] e =
    let texts : lines_of m.read ≡ whole_lines m.read = ap (λ x. whole_lines m.read ++ if_any x) (sym m.partial ∙ e) ∙ append-nil (whole_lines m.read) in
    let all : plays no_scene 0 (lines_of m.read) ≡ record { scene = scene_of s.group; number = s.number; refused = None; outputs = m.outputs } = ap (plays no_scene 0) texts ∙ m.played in
    let accepted : (plays no_scene 0 (lines_of m.read)).refused ≡ None = ap (λ (p : Played). p.refused) all in
    let count : s.number ≡ length (lines_of m.read) = sym (ap (λ (p : Played). p.number) all) ∙ count_lines no_scene 0 (lines_of m.read) accepted ∙ omega arith in
    rw (ends_none s e) (record {
      refused = none_refused (lines_of m.read) s.number count accepted;
      text = text_whole m.read ∙ ap (λ (p : Played). text_of p.outputs) all ∙ sym (append-nil (text_of m.outputs)) ∙ ap (λ x. text_of m.outputs ++ x) (sym text_none);
    })
ends_with lo l to t s m (b ∷ p) e =
    let last = taken (scene_of s.group) s.number (b ∷ p) in
    let texts : lines_of m.read ≡ whole_lines m.read ++ (b ∷ p) ∷ [] = ap (λ x. whole_lines m.read ++ if_any x) (sym m.partial ∙ e) in
    let all = ap (plays no_scene 0) texts ∙ plays_on lo l to t s m ((b ∷ p) ∷ []) ∙ ap (behind m.outputs) (plays_line (scene_of s.group) s.number (b ∷ p) []) in
    let some : 0 < length (lines_of m.read) = rw texts (omega (arith, length-append (whole_lines m.read) ((b ∷ p) ∷ []))) in
    rw (ends_some s b p e) (record {
      refused = refused_same (lines_of m.read) some ∙ ap (λ (x : Played). x.refused) all ∙ and_nothing_refused last last.scene last.number last.refused refl;
      text = text_whole m.read ∙ ap (λ (x : Played). text_of x.outputs) all ∙ ap (λ x. text_of (m.outputs ++ x)) (and_nothing_outputs last last.scene last.number last.refused) ∙ text_append m.outputs last.outputs;
    })

ended : (lo l to t : Option (List ℕ)) (s : Replay) (m : Midst lo l to t s) → EndsWith m.read m.outputs (ends s)
ended lo l to t s m = ends_with lo l to t s m s.lines.bytes refl

pub done_at_end : (lo l ln to t tn : Option (List ℕ)) (s : Replay) → Midst lo l to t s → Consumes l ln [] → IsAtEnd ln → (ends s).refused ≡ None → Appends t tn (text_of (ends s).outputs) → IsDone lo ln to tn
done_at_end lo l ln to t tn s m last e accepted text =
    let all = rw append-nil at (consumes_trans lo l ln m.read [] m.consumed last) in
    let whole = ended lo l to t s m in
    record {
      at_end = e;
      accepted = consumes_whole lo ln m.read (λ bytes. refused_in bytes ≡ None) all e (whole.refused ∙ accepted);
      text = consumes_whole lo ln m.read (λ bytes. Appends to tn (text_for bytes)) all e (rw whole.text (appends_trans to t tn _ _ m.text text));
    }

front_at_end : (lo l ln to t tn : Option (List ℕ)) (s : Replay) → Midst lo l to t s → Consumes l ln [] → IsAtEnd ln → AppendsFront t tn (text_of (ends s).outputs) → IsPartial lo ln to tn
front_at_end lo l ln to t tn s m last e h =
    let whole = ended lo l to t s m in
    record {
      read = m.read;
      consumed = rw append-nil at (consumes_trans lo l ln m.read [] m.consumed last);
      text = inr (e, front_then to t tn (text_of m.outputs) (text_of (ends s).outputs) _ [] m.text h (whole.text ∙ sym (append-nil _)));
    }

-- a stop at the end of the source
pub stopped_at_end : (s0 s1 k0 k k1 : ℕ) (lo l ln to t tn : Option (List ℕ)) (s : Replay) → Midst lo l to t s → IsReplay s → s1 ≡ s0 → Consumes l ln [] → IsAtEnd ln → k ≡ k0 → (why : Stop) → Stopped k k1 t tn (ends s) why → Ends s0 s1 k0 k1 lo ln to tn (status_of why)
stopped_at_end s0 s1 k0 k k1 lo l ln to t tn s m sound counts last e kept (stop.Refused line) h =
    let joined = consumes_trans lo l ln m.read [] m.consumed last in
    let all = rw append-nil at joined in
    let whole = ended lo l to t s m in (
      counts,
      h.0 ∙ kept,
      record {
        read = m.read;
        piece = [];
        consumed = joined;
        size = rw (append-nil (cut m.read).last, ← m.partial) (let short = sound.short in omega arith);
        accepted = accepted_so_far lo l to t s m sound;
        line = consumes_whole lo ln m.read (λ bytes. refused_in bytes ≡ Some line) all e (whole.refused ∙ h.1);
        text = consumes_whole lo ln m.read (λ bytes. Appends to tn (text_for bytes)) all e (rw whole.text (appends_trans to t tn _ _ m.text h.2));
      },
    )
stopped_at_end s0 s1 k0 k k1 lo l ln to t tn s m sound counts last e kept stop.WriteFault h = (counts, h.0 ∙ ap one_more kept, front_at_end lo l ln to t tn s m last e h.1)
stopped_at_end s0 s1 k0 k k1 lo l ln to t tn s m sound counts last e kept stop.NoMemory h = (counts, h.0 ∙ kept, front_at_end lo l ln to t tn s m last e h.1)

-- a stop between two reads
pub midst_partial : (lo l to t : Option (List ℕ)) (s : Replay) → Midst lo l to t s → IsPartial lo l to t
midst_partial lo l to t s m =
    let text : text_of m.outputs ≡ text_so_far m.read = ap text_of (sym (ap (λ (p : Played). p.outputs) m.played) ∙ (plays_show (whole_lines m.read)).outputs) in
    record { read = m.read; consumed = m.consumed; text = inl (text_of m.outputs, [], m.text, append-nil (text_of m.outputs) ∙ text) }
