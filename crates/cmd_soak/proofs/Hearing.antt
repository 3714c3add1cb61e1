-- One more output is heard, and more of them.
use Rattle.std.proofs.Common.{◌≡◌, ◌+◌, ◌<◌, ◌≤◌, ℕ, Bool, refl, ap, sym, ◌∙◌, arith, List, [], ◌∷◌, ◌++◌, length, take, take_all, get_or, append_assoc, subst}
use Rattle.std.specs.Prelude.{count_by}
use Rattle.std.proofs.lemmas.List.{append-nil, map-append, take_more}
use Rattle.std.proofs.lemmas.List.Sums.{sum_by_push}
use Rattle.sha2.specs.Hashers.{Holds256}
use Rattle.vr_draws.proofs.Answered.{request_more}
use Rattle.vr_draws.specs.Asking.{next_requests}
use Rattle.vr_msg.specs.declared.output.Output.{Output}
use Rattle.vr_msg.specs.declared.output.Output.TheVariants as output
use Rattle.vr_msg.specs.declared.output.Sent.{Sent}
use Rattle.vr_group.proofs.Numbering.{text_append}
use Rattle.vr_group.specs.Outputs.{Numbered, numbered, plain, text_of}
use Rattle.vr_rules.specs.Outputs.{message_of}
use Rattle.cmd_soak.specs.declared.heard.Heard.{Heard}
use Rattle.cmd_soak.specs.declared.summary.Faults.{Faults}
use Rattle.cmd_soak.specs.Heard.{Counts, CountsOn, HasCounted, Hears, one_if}
use Rattle.cmd_soak.specs.Summing.{is_commit, is_done, is_kept_out}

pub plain_numbered : (m : ℕ) (os : List Output) → plain (numbered m os) ≡ os
unfolding numbered
plain_numbered m [] = refl
plain_numbered m (o ∷ os) = ap (λ x. o ∷ x) (plain_numbered (m + length (message_of o)) os)

count_more : (f : Output → Bool) (os : List Output) (o : Output) → count_by f (os ++ o ∷ []) ≡ count_by f os + one_if (f o)
count_more f os o = sum_by_push (λ (x : Output). one_if (f x)) os o

-- ---- one output more

requests_kept : (before : List Output) (s : Sent) → next_requests (before ++ output.Send s ∷ []) ≡ next_requests before
requests_kept before s =
    rw (request_more before 1 (output.Send s), request_more before 2 (output.Send s), request_more before 3 (output.Send s), request_more before 4 (output.Send s)) refl

count_kept : (f : Output → Bool) (before : List Output) (o : Output) (k : ℕ) → one_if (f o) ≡ 0 → k ≡ count_by f before → k ≡ count_by f (before ++ o ∷ [])
count_kept f before o k none e = let more = count_more f before o in omega (arith, more, none, e)

-- of a message nothing is counted
message_counts : (h : Heard) (s : Sent) (before : List Output) → Counts h before → Counts h (before ++ output.Send s ∷ [])
message_counts h s before c = record {
  requests = c.requests ∙ sym (requests_kept before s);
  commits = count_kept is_commit before (output.Send s) h.commits refl c.commits;
  done = count_kept is_done before (output.Send s) h.faults.done refl c.done;
  kept_out = count_kept is_kept_out before (output.Send s) h.faults.kept_out refl c.kept_out;
}

pub hears_message : (h : Heard) (o : Output) (s : Sent) → o ≡ output.Send s → CountsOn h h (o ∷ [])
hears_message h o s is before c = rw is (message_counts h s before c)

-- any other is counted, and then the requests hear it
pub hears_other : (old a new : Heard) (o : Output)
    → HasCounted old a o → a.requests ≡ old.requests
    → ((os : List Output) → a.requests ≡ next_requests os → new.requests ≡ next_requests (os ++ o ∷ []))
    → new.commits ≡ a.commits → new.faults ≡ a.faults → CountsOn old new (o ∷ [])
hears_other old a new o counted ra requests cn fn before c = record {
  requests = requests before (ra ∙ c.requests);
  commits = cn ∙ counted.commits ∙ ap (λ k. k + one_if (is_commit o)) c.commits ∙ sym (count_more is_commit before o);
  done = ap (λ (f : Faults). f.done) fn ∙ counted.done ∙ ap (λ k. k + one_if (is_done o)) c.done ∙ sym (count_more is_done before o);
  kept_out = ap (λ (f : Faults). f.kept_out) fn ∙ counted.kept_out ∙ ap (λ k. k + one_if (is_kept_out o)) c.kept_out ∙ sym (count_more is_kept_out before o);
}

-- ---- in the midst of outputs

pub record Hearing (old new : Heard) (i : ℕ) (outputs : List Output) : Type 0 where
  pub all : CountsOn old new (take i outputs)

pub hearing_none : (h : Heard) (outputs : List Output) → Hearing h h 0 outputs
hearing_none h outputs = record { all = λ before c. subst (Counts h) (sym (append-nil before)) c }

pub hearing_more : (old mid new : Heard) (i : ℕ) (outputs : List Output) (o : Output) → i < length outputs → o ≡ get_or outputs i o → Hearing old mid i outputs → CountsOn mid new (o ∷ []) → Hearing old new (i + 1) outputs
hearing_more old mid new i outputs o within is h one = record {
  all = λ before c.
      let more : take (i + 1) outputs ≡ take i outputs ++ o ∷ [] = take_more outputs i o within ∙ ap (λ (x : Output). take i outputs ++ x ∷ []) (sym is) in
      subst (Counts new) (append_assoc before (take i outputs) (o ∷ []) ∙ ap (λ os. before ++ os) (sym more)) (one (before ++ take i outputs) (h.all before c));
}

pub hearing_all : (old new : Heard) (i : ℕ) (outputs : List Output) → length outputs ≤ i → Hearing old new i outputs → CountsOn old new outputs
hearing_all old new i outputs past h before c = subst (λ (os : List Output). Counts new (before ++ os)) (take_all i outputs past) (h.all before c)

-- outputs are counted, and then their text is taken
pub heard_all : (old mid new : Heard) (outputs : List Output) (text : List ℕ) → CountsOn old mid outputs → mid.hasher ≡ old.hasher
    → new.requests ≡ mid.requests → new.commits ≡ mid.commits → new.faults ≡ mid.faults
    → ((bytes : List ℕ) → Holds256 mid.hasher bytes → Holds256 new.hasher (bytes ++ text)) → Hears old new outputs text
heard_all old mid new outputs text counts same r c f taken m e before h =
    let counted = counts (plain before) h.counts in
    let split : plain (before ++ numbered m outputs) ≡ plain before ++ outputs = map-append (λ (o : Numbered). o.output) before (numbered m outputs) ∙ ap (λ os. plain before ++ os) (plain_numbered m outputs) in
    let written : text_of before ++ text ≡ text_of (before ++ numbered m outputs) = ap (λ t. text_of before ++ t) e ∙ sym (text_append before (numbered m outputs)) in
    record {
      counts = subst (Counts new) (sym split) (record {
        requests = r ∙ counted.requests;
        commits = c ∙ counted.commits;
        done = ap (λ (f : Faults). f.done) f ∙ counted.done;
        kept_out = ap (λ (f : Faults). f.kept_out) f ∙ counted.kept_out;
      });
      text = subst (Holds256 new.hasher) written (taken (text_of before) (subst (λ x. Holds256 x (text_of before)) (sym same) h.text));
    }
