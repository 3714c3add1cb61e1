-- What a link over streams tells of its receives.
use Rattle.std.proofs.Common.{subst, ◌≡◌, ◌∙◌, Bool, true, false, ℕ, List, [], ◌∷◌, ◌++◌, length, replicate, slice_get, Option, Some, None, Result, refl, ap, sym, inl, inr}
use Rattle.std.specs.Option.{option_map}
use Rattle.std.proofs.lemmas.List.{append_assoc, length-set}
use Rattle.vr_edge.specs.Datagrams.{Arrival, received_by}
use Rattle.vr_edge.specs.Told.{Grows}
use Rattle.vr_edge.specs.declared.link.Received.{Received}
use Rattle.vr_edge.specs.declared.streams.StreamCall.{StreamCall}
use Rattle.vr_edge.specs.declared.streams.StreamCall.TheVariants as call
use Rattle.vr_edge.specs.declared.streams.Write.{Write}
use Rattle.vr_stream.proofs.Received.{AfterPoll, AreCloses, after_poll, alone, closes_bring, first_told, given_front, given_some, heard_append, shut_adds, with_more}
use Rattle.vr_stream.proofs.Tells.{gives_stand, over_stands}
use Rattle.vr_stream.specs.Framing.{Framing, Gave, Gives, Happen, calls_in, ended, over_at}
use Rattle.vr_stream.specs.Heard.{AgreesTold, Fits, Heard, IsTold, IsUnasked, arrivals_told, came_at, given, heard, received_told, standing, told_if}
use Rattle.vr_stream.specs.Lines.{fresh_line}
use Rattle.vr_stream.specs.Receiving.{IsGiven, IsReceived}
use Rattle.vr_stream.specs.Sending.{Leaves, Sends}
use Rattle.vr_stream.specs.declared.line.Incoming.{Incoming}

-- by closes nothing came
same_arrivals : (ports : ℕ) (calls : Option (List StreamCall)) (more : List StreamCall) → AreCloses more
    → arrivals_told ports (with_more calls more) ≡ arrivals_told ports calls
same_arrivals ports None more a = refl
same_arrivals ports (Some cs) more a =
    let first : Heard = record { left = λ port. fresh_line; arrivals = [] } in
    ap (λ (h : Heard). Some h.arrivals) (heard_append ports first cs more) ∙ ap Some (closes_bring ports (heard ports cs) more a)

grown_arrivals : (ports : ℕ) (old new : Option (List StreamCall)) (more ds : List StreamCall) → AreCloses more → Grows old new more → new ≡ Some ds
    → arrivals_told ports old ≡ arrivals_told ports new
grown_arrivals ports None new more ds a g e = absurd (let clash : Some ds ≡ None = sym e ∙ g in cc)
grown_arrivals ports (Some cs) None more ds a g e = absurd (let clash : None ≡ Some ds = e in cc)
grown_arrivals ports (Some cs) (Some es) more ds a g e = sym (same_arrivals ports (Some cs) more a) ∙ ap (λ xs. arrivals_told ports (Some xs)) (sym g)

-- who tells now told before
told_before : (old new : Option (List StreamCall)) (more ds : List StreamCall) → Grows old new more → new ≡ Some ds → (cs : List StreamCall) × (old ≡ Some cs)
told_before None new more ds g e = absurd (let clash : Some ds ≡ None = sym e ∙ g in cc)
told_before (Some cs) new more ds g e = (cs, refl)

fits_of : (f : Framing) (calls : Option (List StreamCall)) (all : List Arrival) → AgreesTold f calls → arrivals_told (length f.lines) calls ≡ Some all → Fits f all
fits_of f None all a e = absurd (let clash : None ≡ Some all = e in cc)
fits_of f (Some cs) all a e =
    let same : (heard (length f.lines) cs).arrivals ≡ all = (let o : Some (heard (length f.lines) cs).arrivals ≡ Some all = e in cc) in
    subst (Fits f) same (a cs refl).fits

received_same : (f : Framing) (a b : Option (List StreamCall)) → arrivals_told (length f.lines) a ≡ arrivals_told (length f.lines) b → received_told f a ≡ received_told f b
received_same f a b e = ap (λ o. option_map (λ all. given all (standing f)) o) e

-- where lines and what stands ready are as many, so is what was received
received_as : (f g : Framing) (last : Option (List StreamCall)) → length g.lines ≡ length f.lines → standing g ≡ standing f → received_told g last ≡ received_told f last
received_as f g last n s =
    ap (λ ports. option_map (λ all. given all (standing g)) (arrivals_told ports last)) n
    ∙ ap (λ ready. option_map (λ all. given all ready) (arrivals_told (length f.lines) last)) s

-- ---- a send

ended_count : (f : Framing) (at : ℕ) → length (ended at f).lines ≡ length f.lines
ended_count f at =
    let cases : (o : Option Incoming) → length (over_at at o f).lines ≡ length f.lines =
    elim [
      | None ↦ refl
      | Some line ↦ length-set f.lines at (record line { over = true })
    ] in
    cases (slice_get f.lines at)

ended_stands : (f : Framing) (at : ℕ) → standing (ended at f) ≡ standing f
ended_stands f at =
    let cases : (o : Option Incoming) → slice_get f.lines at ≡ o → standing (over_at at o f) ≡ standing f =
    elim [
      | None ↦ λ e. refl
      | Some line ↦ λ e. over_stands f at line e
    ] in
    cases (slice_get f.lines at) refl

shut_count : (f g : Framing) (at : ℕ) → g ≡ ended at f → length g.lines ≡ length f.lines
shut_count f g at e = ap (λ (x : Framing). length x.lines) e ∙ ended_count f at

shut_stands : (f g : Framing) (at : ℕ) → g ≡ ended at f → standing g ≡ standing f
shut_stands f g at e = ap (λ (x : Framing). standing x) e ∙ ended_stands f at

-- what was told by the arrivals alone is so where lines and what stands ready are the same
fits_as : (f g : Framing) (last : Option (List StreamCall)) (all : List Arrival) → length g.lines ≡ length f.lines → standing g ≡ standing f
    → ((xs : List Arrival) → arrivals_told (length f.lines) last ≡ Some xs → Fits f xs) → arrivals_told (length g.lines) last ≡ Some all → Fits g all
fits_as f g last all n s fits e = ap (λ ready. given all ready ++ ready) s ∙ fits all (ap (λ ports. arrivals_told ports last) (sym n) ∙ e)

-- a stream is closed
shut_told : (f g : Framing) (old new last : Option (List StreamCall)) (at : ℕ) → IsTold f old last → g ≡ ended at f → Grows old new (call.Closed at ∷ []) → IsTold g new last
shut_told f g old new last at t e grows =
    let n = shut_count f g at e in
    record {
      agrees = (shut_adds f g old new at e grows t.agrees).0;
      behind = λ ds d.
          let was = told_before old new (call.Closed at ∷ []) ds grows d in
          ap (λ ports. arrivals_told ports last) n
          ∙ (t.behind was.0 was.1
          ∙ (grown_arrivals (length f.lines) old new (call.Closed at ∷ []) ds tt grows d ∙ ap (λ ports. arrivals_told ports new) (sym n)));
      fits = λ all a. fits_as f g last all n (shut_stands f g at e) t.fits a;
    }

pub told_still : (b : Bool) (f g : Framing) (old new last last' : Option (List StreamCall)) → (b ≡ true → IsTold f old last) → g ≡ f → new ≡ old → last' ≡ last
    → b ≡ true → IsTold g new last'
told_still b f g old new last last' t e s l o =
    subst (λ x. IsTold x new last') (sym e) (subst (λ x. IsTold f x last') (sym s) (subst (λ x. IsTold f old x) (sym l) (t o)))

pub received_still : (b : Bool) (f g : Framing) (last last' : Option (List StreamCall)) → g ≡ f → last' ≡ last → told_if b g last' ≡ told_if b f last
received_still b f g last last' e l = ap (λ x. told_if b x last') e ∙ ap (told_if b f) l

sent_told_so : (f g : Framing) (old new last : Option (List StreamCall)) (a b : Option (List Write)) (to : ℕ) (bytes : List ℕ) → IsTold f old last
    → Sends to bytes f old a g new b → IsTold g new last × (received_told g last ≡ received_told f last)
sent_told_so f g old new last a b to bytes t s =
    let still : (g ≡ f) → (new ≡ old) → IsTold g new last × (received_told g last ≡ received_told f last) =
    λ e c. (subst (λ x. IsTold x new last) (sym e) (subst (λ x. IsTold f x last) (sym c) t), ap (λ (x : Framing). received_told x last) e) in
    let cases : (taken : Option ℕ) → Leaves to bytes f old g new taken → IsTold g new last × (received_told g last ≡ received_told f last) =
    elim [
      | None ↦ λ l. still l.0 l.1
      | Some count ↦ λ l.
          let either : Leaves to bytes f old g new (Some count) → IsTold g new last × (received_told g last ≡ received_told f last) =
          elim [
            | inl (w, e, c) ↦ still e c
            | inr (w, e, grows) ↦ (shut_told f g old new last to t e grows, received_as f g last (shut_count f g to e) (shut_stands f g to e))
          ] in
          either l
    ] in
    cases s.taken s.leaves

pub told_sent : (b : Bool) (f g : Framing) (old new last last' : Option (List StreamCall)) (w w' : Option (List Write)) (to : ℕ) (bytes : List ℕ)
    → (b ≡ true → IsTold f old last) → Sends to bytes f old w g new w' → last' ≡ last → b ≡ true → IsTold g new last'
told_sent b f g old new last last' w w' to bytes t s l o = subst (λ x. IsTold g new x) (sym l) (sent_told_so f g old new last w w' to bytes (t o) s).0

pub received_sent : (b : Bool) (f g : Framing) (old new last last' : Option (List StreamCall)) (w w' : Option (List Write)) (to : ℕ) (bytes : List ℕ)
    → (b ≡ true → IsTold f old last) → Sends to bytes f old w g new w' → last' ≡ last → told_if b g last' ≡ told_if b f last
received_sent false f g old new last last' w w' to bytes t s l = refl
received_sent true f g old new last last' w w' to bytes t s l = ap (received_told g) l ∙ (sent_told_so f g old new last w w' to bytes (t refl) s).1

-- ---- a receive

-- of all arrivals one more is given
next_fits : (f g : Framing) (a : Arrival) (all : List Arrival) → standing f ≡ a ∷ standing g → Fits f all
    → (given all (standing g) ≡ given all (standing f) ++ a ∷ []) × Fits g all
next_fits f g a all stands fits =
    let before = given all (standing f) in
    let whole : (before ++ a ∷ []) ++ standing g ≡ all = append_assoc before (a ∷ []) (standing g) ∙ (ap (λ s. before ++ s) (sym stands) ∙ fits) in
    let front : given all (standing g) ≡ before ++ a ∷ [] = given_front (before ++ a ∷ []) (standing g) all whole in
    (front, ap (λ z. z ++ standing g) front ∙ whole)

next_received : (f g : Framing) (a : Arrival) (o : Option (List Arrival)) → standing f ≡ a ∷ standing g → ((all : List Arrival) → o ≡ Some all → Fits f all)
    → Grows (option_map (λ all. given all (standing f)) o) (option_map (λ all. given all (standing g)) o) (a ∷ [])
next_received f g a None stands fits = refl
next_received f g a (Some all) stands fits = (next_fits f g a all stands (fits all refl)).0

-- a message that stood ready is given
message_told : (f g : Framing) (old new last : Option (List StreamCall)) (to : List ℕ) (port : ℕ) → IsTold f old last → IsGiven f old g new to (Some port)
    → IsTold g new last × Grows (received_told f last) (received_told g last) (came_at port to ∷ [])
message_told f g old new last to port t x =
    let gives : Gives port to f g = alone f g (Gave port to) (subst (λ hs. Happen f hs g) x.by x.happen) in
    let grows : Grows old new [] = subst (λ hs. Grows old new (calls_in hs)) x.by x.told in
    let stands = gives_stand f g port to gives in
    let n : length g.lines ≡ length f.lines = ap (λ (y : Framing). length y.lines) gives.gone ∙ length-set f.lines port (record gives.line { deframer = gives.rest }) in (
      record {
        agrees = ((given_some f g old new x.happened to port x.happen x.told x.by).0 t.agrees).0;
        behind = λ ds d.
            let was = told_before old new [] ds grows d in
            ap (λ ports. arrivals_told ports last) n
            ∙ (t.behind was.0 was.1 ∙ (grown_arrivals (length f.lines) old new [] ds tt grows d ∙ ap (λ ports. arrivals_told ports new) (sym n)));
        fits = λ all e. (next_fits f g (came_at port to) all stands (t.fits all (ap (λ ports. arrivals_told ports last) (sym n) ∙ e))).1;
      },
      subst (λ ports. Grows (received_told f last) (option_map (λ all. given all (standing g)) (arrivals_told ports last)) (came_at port to ∷ [])) (sym n)
          (next_received f g (came_at port to) (arrivals_told (length f.lines) last) stands t.fits),
    )

grows_none : {X : Type 0} (a : Option (List X)) (more : List X) → Grows a None more
grows_none None more = refl
grows_none (Some xs) more = tt

poll_told : (f g : Framing) (old new was last : Option (List StreamCall)) (a : Arrival) → IsTold f old was → AfterPoll f g old last new a
    → IsTold g new last × Grows (received_told f was) (received_told g last) (a ∷ [])
poll_told f g old new was last a t p =
    let whole = p.whole t.agrees in
    let same = same_arrivals (length g.lines) last p.more p.closes in
    let told : IsTold g new last =
    record {
      agrees = (p.told t.agrees).0;
      behind = λ ds d. grown_arrivals (length g.lines) last new p.more ds p.closes p.grown d;
      fits = λ all e. fits_of g (with_more last p.more) all whole.0 (same ∙ e);
    } in
    let grown : Grows (received_told f old) (received_told g last) (a ∷ []) =
    subst (λ o. Grows (received_told f old) o (a ∷ [])) (received_same g (with_more last p.more) last same) whole.1 in
    let cases : (o : Option (List StreamCall)) → old ≡ o → Grows (received_told f was) (received_told g last) (a ∷ []) =
    elim [
      | None ↦ λ e. subst (λ o. Grows (received_told f was) (received_told g o) (a ∷ [])) (sym (p.none e)) (grows_none (received_told f was) (a ∷ []))
      | Some cs ↦ λ e. subst (λ o. Grows o (received_told g last) (a ∷ [])) (sym (received_same f was old (t.behind cs e))) grown
    ] in
    (told, cases old refl)

receives_told : {E : Type 0} (f g : Framing) (old new was last : Option (List StreamCall)) (to : List ℕ) (result : Result Received E) → IsTold f old was
    → IsReceived f old was g new last to result → IsTold g new last × Grows (received_told f was) (received_told g last) (received_by result to ∷ [])
receives_told {E} f g old new was last to result t (inl (port, e, x, l)) =
    subst (λ (r : Result Received E). IsTold g new last × Grows (received_told f was) (received_told g last) (received_by r to ∷ [])) (sym e)
    (subst (λ o. IsTold g new o × Grows (received_told f was) (received_told g o) (came_at port to ∷ [])) (sym l) (message_told f g old new was to port t x))
receives_told f g old new was last to result t (inr p) = poll_told f g old new was last (received_by result to) t (after_poll f g old new last to result p)

pub told_more : {E : Type 0} (f g : Framing) (old new was last : Option (List StreamCall)) (to : List ℕ) (result : Result Received E) → IsTold f old was
    → IsReceived f old was g new last to result → IsTold g new last
told_more f g old new was last to result t x = (receives_told f g old new was last to result t x).0

pub received_more : {E : Type 0} (b : Bool) (f g : Framing) (old new was last : Option (List StreamCall)) (to : List ℕ) (result : Result Received E)
    → (b ≡ true → IsTold f old was) → IsReceived f old was g new last to result → Grows (told_if b f was) (told_if b g last) (received_by result to ∷ [])
received_more false f g old new was last to result t x = refl
received_more true f g old new was last to result t x = (receives_told f g old new was last to result (t refl) x).1

-- ---- a link that is made

-- one that doesn't tell
pub not_told : (f : Framing) (calls last : Option (List StreamCall)) → false ≡ true → IsTold f calls last
not_told f calls last e = absurd (let clash : false ≡ true = e in cc)

pub made_told : (ports : ℕ) (f : Framing) (calls last : Option (List StreamCall)) → f.lines ≡ replicate ports fresh_line → f.ready ≡ None → IsUnasked calls last
    → IsTold f calls last
made_told ports f calls last e n u =
    let agrees = first_told ports f calls e n u.0 in
    record {
      agrees = agrees;
      behind = λ cs c. ap (arrivals_told (length f.lines)) u.1;
      fits = λ all a. fits_of f calls all agrees (sym (ap (arrivals_told (length f.lines)) u.1) ∙ a);
    }
