-- One more line is drawn, and happens.
use Rattle.std.proofs.Common.{suc, ◌≡◌, ◌+◌, ◌<◌, ℕ, Bool, refl, ap, sym, ◌∙◌, arith, List, [], ◌∷◌, ◌++◌, length, length-append, subst}
use Rattle.std.specs.Prelude.{count_by}
use Rattle.std.proofs.lemmas.List.{map-append}
use Rattle.sha2.specs.Hashers.{Holds256}
use Rattle.vr_base.specs.Bytes.{name_of}
use Rattle.vr_base.specs.Kinds.{strict}
use Rattle.vr_draws.specs.Asking.{next_requests}
use Rattle.vr_draws.specs.Draws.{Drawn}
use Rattle.vr_draws.specs.Drawn.{drawn_line}
use Rattle.vr_lines.specs.Fits.{IsLineOf}
use Rattle.vr_lines.specs.declared.line.Line.{Line}
use Rattle.vr_world.specs.Lying.{Lying, hazards}
use Rattle.vr_world.specs.World.{Happened, World, fresh_world, happen, happens}
use Rattle.vr_rules.specs.Outputs.{messages}
use Rattle.vr_group.specs.Lines.{happening, happenings}
use Rattle.vr_group.specs.Outputs.{numbered, plain, text_of}
use Rattle.vr_group.proofs.Goings.{grows_one, happen_append, happen_one, messages_append, numbered_append}
use Rattle.vr_group.specs.Views.{top_view}
use Rattle.cmd_soak.specs.declared.soaking.Soaking.{Soaking}
use Rattle.cmd_soak.specs.Heard.{HasHeard, Hears}
use Rattle.cmd_soak.specs.Made.{Made, come_to, line_after, made, with_line}
use Rattle.cmd_soak.specs.declared.summary.Summary.{Summary}
use Rattle.cmd_soak.specs.Soaking.{IsSoaking}
use Rattle.cmd_soak.specs.Summing.{is_commit, is_done, is_kept_out, summary_of}
use Rattle.vr_msg.specs.declared.output.Output.{Output}
use Rattle.cmd_soak.proofs.Hearing.{plain_numbered}

happenings_more : (lines : List Line) (l : Line) → happenings (lines ++ l ∷ []) ≡ happenings lines ++ happening l ∷ []
unfolding happenings
happenings_more lines l = map-append happening lines (l ∷ [])

-- what a line more comes to
record Comes (n : ℕ) (lines : List Line) (l : Line) : Type 0 where
  world : (come_to n (lines ++ l ∷ [])).world ≡ (happens hazards (come_to n lines).world (happening l)).world
  outputs : (come_to n (lines ++ l ∷ [])).outputs ≡ (come_to n lines).outputs ++ (happens hazards (come_to n lines).world (happening l)).outputs

comes : (n : ℕ) (lines : List Line) (l : Line) → Comes n lines l
comes n lines l =
    let w = fresh_world hazards strict n in
    let e = happenings_more lines l in
    let all = happen_append w (happenings lines) (happening l ∷ []) in
    let one = happen_one (come_to n lines).world (happening l) in
    record {
      world = ap (λ xs. (happen hazards w xs).world) e ∙ all.world ∙ ap (λ (h : Happened Lying). h.world) one;
      outputs = ap (λ xs. (happen hazards w xs).outputs) e ∙ all.outputs ∙ ap (λ (h : Happened Lying). (come_to n lines).outputs ++ h.outputs) one;
    }

made_more : (n number k : ℕ) → made n number (k + 1) ≡ with_line (made n number k) (line_after n (made n number k).number (come_to n (made n number k).lines))
unfolding made
made_more n number k = let e : k + 1 ≡ suc k = omega arith in rw e refl

none_made : (n number : ℕ) → (made n number 0).lines ≡ []
unfolding made
none_made n number = refl

number_first : (n number : ℕ) → (made n number 0).number ≡ number
unfolding made
number_first n number = refl

none_happened : (n : ℕ) → come_to n [] ≡ record { world = fresh_world hazards strict n; outputs = [] }
unfolding happen happenings
none_happened n = refl

pub fresh_size : (n : ℕ) → (fresh_world hazards strict n).n ≡ n
unfolding fresh_world
fresh_size n = refl

fresh_sent : (n : ℕ) → (fresh_world hazards strict n).sent ≡ []
unfolding fresh_world
fresh_sent n = refl

no_messages : messages [] ≡ []
unfolding messages
no_messages = refl

no_numbered : numbered 0 [] ≡ []
unfolding numbered
no_numbered = refl

-- a group that was just made
pub soaking_first : (n number : ℕ) (s : Soaking) → s.group.world ≡ fresh_world hazards strict n → s.generator.number ≡ number → HasHeard s.heard [] → IsSoaking n number 0 s
soaking_first n number s w d h =
    let e : come_to n (made n number 0).lines ≡ record { world = fresh_world hazards strict n; outputs = [] } = ap (come_to n) (none_made n number) ∙ none_happened n in
    record {
      size = ap (λ (w : World Lying). w.n) w ∙ fresh_size n;
      drawn = d ∙ sym (number_first n number);
      world = w ∙ sym (ap (λ (h : Happened Lying). h.world) e);
      sent = ap (λ (w : World Lying). length w.sent) w ∙ ap length (fresh_sent n) ∙ sym (ap (λ (h : Happened Lying). length (messages h.outputs)) e ∙ ap length no_messages);
      heard = subst (HasHeard s.heard) (sym (ap (λ (h : Happened Lying). numbered 0 h.outputs) e ∙ no_numbered)) h;
    }

-- the line that is drawn by what is seen is that of the definition
drawn_same : (n number k : ℕ) (s : Soaking) → IsSoaking n number k s
    → drawn_line s.group.world.n (length s.group.world.sent) s.heard.requests s.generator.number ≡ line_after n (made n number k).number (come_to n (made n number k).lines)
drawn_same n number k s i =
    let h = come_to n (made n number k).lines in
    ap (λ a. drawn_line a (length s.group.world.sent) s.heard.requests s.generator.number) i.size
    ∙ ap (λ (a : World Lying). drawn_line n (length a.sent) s.heard.requests s.generator.number) i.world
    ∙ ap (λ a. drawn_line n (length h.world.sent) a s.generator.number) (i.heard.counts.requests ∙ ap next_requests (plain_numbered 0 h.outputs))
    ∙ ap (λ a. drawn_line n (length h.world.sent) (next_requests h.outputs) a) i.drawn

-- a line more, by what it comes to
record Steps (n number k : ℕ) (s : Soaking) (l : Line) : Type 0 where
  lines : (made n number (k + 1)).lines ≡ (made n number k).lines ++ l ∷ []
  world : (come_to n (made n number (k + 1)).lines).world ≡ (happens hazards s.group.world (happening l)).world
  outputs : (come_to n (made n number (k + 1)).lines).outputs ≡ (come_to n (made n number k).lines).outputs ++ (happens hazards s.group.world (happening l)).outputs

steps : (n number k : ℕ) (s : Soaking) (l : Line) → IsSoaking n number k s
    → l ≡ (drawn_line s.group.world.n (length s.group.world.sent) s.heard.requests s.generator.number).value → Steps n number k s l
steps n number k s l i is =
    let m = made n number k in
    let h = come_to n m.lines in
    let e : (made n number (k + 1)).lines ≡ m.lines ++ l ∷ [] = ap (λ (x : Made). x.lines) (made_more n number k) ∙ ap (λ (x : Line). m.lines ++ x ∷ []) (sym (is ∙ ap (λ (d : Drawn Line). d.value) (drawn_same n number k s i))) in
    let c = comes n m.lines l in
    record {
      lines = e;
      world = ap (λ x. (come_to n x).world) e ∙ c.world ∙ ap (λ (w : World Lying). (happens hazards w (happening l)).world) (sym i.world);
      outputs = ap (λ x. (come_to n x).outputs) e ∙ c.outputs ∙ ap (λ (w : World Lying). h.outputs ++ (happens hazards w (happening l)).outputs) (sym i.world);
    }

pub soaking_more : (n number k : ℕ) (s t : Soaking) (l : Line) (outputs : List Output) (text : List ℕ) → 0 < s.group.world.n
    → l ≡ (drawn_line s.group.world.n (length s.group.world.sent) s.heard.requests s.generator.number).value
    → t.generator.number ≡ (drawn_line s.group.world.n (length s.group.world.sent) s.heard.requests s.generator.number).number
    → IsLineOf 1 s.group.world.n l
    → t.group.world ≡ (happens hazards s.group.world (happening l)).world
    → outputs ≡ (happens hazards s.group.world (happening l)).outputs
    → text ≡ text_of (numbered (length s.group.world.sent) (happens hazards s.group.world (happening l)).outputs)
    → Hears s.heard t.heard outputs text
    → IsSoaking n number k s → IsSoaking n number (k + 1) t
soaking_more n number k s t l outputs text some is next fits world out written heard i =
    let m = made n number k in
    let h = come_to n m.lines in
    let y = happens hazards s.group.world (happening l) in
    let x = steps n number k s l i is in
    let g = grows_one 1 s.group.world l some fits in
    let sent : length t.group.world.sent ≡ length s.group.world.sent + length (messages y.outputs) = ap (λ (w : World Lying). length w.sent) world ∙ ap length g.sent ∙ length-append s.group.world.sent (messages y.outputs) in
    let all : length (messages (h.outputs ++ y.outputs)) ≡ length (messages h.outputs) + length (messages y.outputs) = ap length (messages_append h.outputs y.outputs) ∙ length-append (messages h.outputs) (messages y.outputs) in
    let before = i.sent in
    let count : length t.group.world.sent ≡ length (messages (h.outputs ++ y.outputs)) = omega (arith, sent, all, before) in
    let place : 0 + length (messages h.outputs) ≡ length s.group.world.sent = omega (arith, before) in
    let now = numbered (length s.group.world.sent) y.outputs in
    let hears = subst (λ (os : List Output). Hears s.heard t.heard os text) out heard in
    let all_put : numbered 0 (h.outputs ++ y.outputs) ≡ numbered 0 h.outputs ++ now = numbered_append 0 h.outputs y.outputs ∙ ap (λ p. numbered 0 h.outputs ++ numbered p y.outputs) place in
    record {
      size = ap (λ (w : World Lying). w.n) world ∙ g.size ∙ i.size;
      drawn = next ∙ ap (λ (d : Drawn Line). d.number) (drawn_same n number k s i) ∙ sym (ap (λ (a : Made). a.number) (made_more n number k));
      world = world ∙ sym x.world;
      sent = count ∙ ap (λ os. length (messages os)) (sym x.outputs);
      heard = subst (HasHeard t.heard) (sym (ap (numbered 0) x.outputs ∙ all_put)) (hears (length s.group.world.sent) written (numbered 0 h.outputs) i.heard);
    }

pub size_kept : (s t : World Lying) (l : Line) → 0 < s.n → IsLineOf 1 s.n l → t ≡ (happens hazards s (happening l)).world → t.n ≡ s.n
size_kept s t l some fits e = ap (λ (w : World Lying). w.n) e ∙ (grows_one 1 s l some fits).size

-- ---- what is summed up

abbrev pub summary_with : (events messages commits view done kept_out : ℕ) (sum : List ℕ) → Summary
summary_with events messages commits view done kept_out sum =
    record { events = events; messages = messages; commits = commits; view = view; faults = record { done = done; kept_out = kept_out }; sum = record { 0 = sum } }

pub summed : (n number k : ℕ) (s : Soaking) (sum : List ℕ) → IsSoaking n number k s → ((bytes : List ℕ) → Holds256 s.heard.hasher bytes → sum ≡ name_of bytes)
    → summary_with k (length s.group.world.sent) s.heard.commits (top_view s.group.world) s.heard.faults.done s.heard.faults.kept_out sum ≡ summary_of k (come_to n (made n number k).lines)
unfolding summary_of
summed n number k s sum i name =
    let h = come_to n (made n number k).lines in
    let counts : (f : Output → Bool) → count_by f (plain (numbered 0 h.outputs)) ≡ count_by f h.outputs = (λ f. ap (count_by f) (plain_numbered 0 h.outputs)) in
    ap (λ (w : World Lying). summary_with k (length w.sent) s.heard.commits (top_view w) s.heard.faults.done s.heard.faults.kept_out sum) i.world
    ∙ ap (λ c. summary_with k (length h.world.sent) c (top_view h.world) s.heard.faults.done s.heard.faults.kept_out sum) (i.heard.counts.commits ∙ counts is_commit)
    ∙ ap (λ c. summary_with k (length h.world.sent) (count_by is_commit h.outputs) (top_view h.world) c s.heard.faults.kept_out sum) (i.heard.counts.done ∙ counts is_done)
    ∙ ap (λ c. summary_with k (length h.world.sent) (count_by is_commit h.outputs) (top_view h.world) (count_by is_done h.outputs) c sum) (i.heard.counts.kept_out ∙ counts is_kept_out)
    ∙ ap (summary_with k (length h.world.sent) (count_by is_commit h.outputs) (top_view h.world) (count_by is_done h.outputs) (count_by is_kept_out h.outputs)) (name (text_of (numbered 0 h.outputs)) i.heard.text)
