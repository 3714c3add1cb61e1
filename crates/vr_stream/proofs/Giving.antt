-- What is given of streams, and what is taken of a poll.
use Rattle.std.proofs.Common.{subst, ◌≡◌, ◌∙◌, ℕ, List, [], ◌∷◌, ◌++◌, Bool, true, false, slice_get, slice_set, Option, Some, None, Ok, Err, refl, ap, sym, inl, inr, arith}
use Rattle.std.proofs.lemmas.List.{get_or-set_same, length-set}
use Rattle.std.proofs.lemmas.Option.{slice_get-get_or, slice_get_within}
use Rattle.vr_edge.specs.Told.{Grows}
use Rattle.vr_edge.specs.declared.link.Received.{Received}
use Rattle.vr_edge.specs.declared.link.Received.TheVariants as received
use Rattle.vr_edge.specs.declared.streams.StreamCall.{StreamCall}
use Rattle.vr_edge.specs.declared.streams.StreamCall.TheVariants as call
use Rattle.vr_stream.specs.Framers.{IsDamaged, TakesAt}
use Rattle.vr_stream.specs.Framing.{Call, Framing, Gave, Gives, Settled, Settles, IsSettled, ended, over_at, with_line}
use Rattle.vr_stream.specs.Receiving.{IsGiven, IsHeard, IsReceived}
use Rattle.vr_stream.specs.declared.line.Incoming.{Incoming}

nil_behind : {X : Type 0} (xs : List X) → xs ++ [] ≡ xs
nil_behind [] = refl
nil_behind (x ∷ xs) = ap (λ ys. x ∷ ys) (nil_behind xs)

pub told_none : {X : Type 0} (a : Option (List X)) → Grows a a []
told_none None = refl
told_none (Some xs) = sym (nil_behind xs)

pub given_message : (f g : Framing) (old : Option (List StreamCall)) (to : List ℕ) (port : ℕ) → Gives port to f g → IsGiven f old g old to (Some port)
given_message f g old to port x = record { happened = Gave port to ∷ []; happen = (g, x, refl); told = told_none old; by = refl }

pub settled_ready : (f g : Framing) → Settles f g → g.ready ≡ None
settled_ready f g x = ap (λ (y : Framing). y.ready) x.gone

pub given_nothing : (f g : Framing) (old : Option (List StreamCall)) (to : List ℕ) → Settles f g → IsGiven f old g old to None
given_nothing f g old to x = record { happened = Settled ∷ []; happen = (g, x, refl); told = told_none old; by = (settled_ready f g x, inl refl) }

-- the item that was put at a place
pub set_there : (xs : List Incoming) (port : ℕ) (x y : Incoming) → slice_get xs port ≡ Some y → slice_get (slice_set xs port x) port ≡ Some x
set_there xs port x y e =
    let within = slice_get_within xs port y e in
    slice_get-get_or (slice_set xs port x) port x (omega (arith, within, length-set xs port x)) ∙ ap Some (get_or-set_same xs port x x within)

damage_over : (f : Framing) (port : ℕ) (d : IsDamaged port f) → ended port f ≡ with_line port (record d.line { over = true }) f
damage_over f port d = ap (λ o. over_at port o f) d.stands

damage_settles : (f mid g : Framing) (port : ℕ) → IsDamaged port f → mid ≡ record f { ready = None } → g ≡ ended port mid → Settles (ended port f) g
damage_settles f mid g port d m e =
    let over : ended port f ≡ with_line port (record d.line { over = true }) f = damage_over f port d in
    let gone : g ≡ record (ended port f) { ready = None } =
    e ∙ ap (ended port) m ∙ ap (λ o. over_at port o (record f { ready = None })) d.stands ∙ sym (ap (λ (x : Framing). record x { ready = None }) over) in
    let there : slice_get (ended port f).lines port ≡ Some (record d.line { over = true }) =
    ap (λ (x : Framing). slice_get x.lines port) over ∙ set_there f.lines port (record d.line { over = true }) d.line d.stands in
    let at : (ended port f).ready ≡ Some port = ap (λ (x : Framing). x.ready) over ∙ d.ready in
    record {
      settled = λ p line r s.
          let same : port ≡ p = (let o : Some port ≡ Some p = sym at ∙ r in cc) in
          let found : slice_get (ended port f).lines port ≡ Some line = ap (λ q. slice_get (ended port f).lines q) same ∙ s in
          let same_line : record d.line { over = true } ≡ line = (let o : Some (record d.line { over = true }) ≡ Some line = sym there ∙ found in cc) in
          subst IsSettled same_line (inr (refl, d.fault, d.broken));
      gone = gone;
    }

pub given_damage : (f mid g : Framing) (old new : Option (List StreamCall)) (to : List ℕ) (port : ℕ) → IsDamaged port f → mid ≡ record f { ready = None }
    → g ≡ ended port mid → Grows old new (call.Closed port ∷ []) → IsGiven f old g new to None
given_damage f mid g old new to port d m e told =
    let s = damage_settles f mid g port d m e in
    record {
      happened = Call (call.Closed port) ∷ Settled ∷ [];
      happen = (ended port f, refl, (g, s, refl));
      told = told;
      by = (settled_ready (ended port f) g s, inr (port, d, refl));
    }

pub heard_nowhere : (f mid g : Framing) (old new : Option (List StreamCall)) (to bytes : List ℕ) (port : ℕ) (taken : Bool) → f.ready ≡ None → taken ≡ false → TakesAt port bytes f mid taken
    → g ≡ ended port mid → Grows old new (call.Closed port ∷ []) → IsHeard f (call.Came (record { port = port; bytes = bytes })) old g new to received.Part
heard_nowhere f mid g old new to bytes port taken n refused t e told = record {
  mid = mid;
  call = (n, t.comes);
  happened = Call (call.Closed port) ∷ [];
  happen = (g, e, refl);
  told = told;
  by = inr (t.refused refused, refl);
}

pub heard_message : (f mid g : Framing) (old new : Option (List StreamCall)) (to bytes : List ℕ) (port at : ℕ) → f.ready ≡ None → TakesAt port bytes f mid true
    → IsGiven mid old g new to (Some at) → IsHeard f (call.Came (record { port = port; bytes = bytes })) old g new to (received.Datagram at)
heard_message f mid g old new to bytes port at n t x =
    record { mid = mid; call = (n, t.comes); happened = x.happened; happen = x.happen; told = x.told; by = x.by }

pub heard_part : (f mid g : Framing) (old new : Option (List StreamCall)) (to bytes : List ℕ) (port : ℕ) → f.ready ≡ None → TakesAt port bytes f mid true
    → IsGiven mid old g new to None → IsHeard f (call.Came (record { port = port; bytes = bytes })) old g new to received.Part
heard_part f mid g old new to bytes port n t x =
    record { mid = mid; call = (n, t.comes); happened = x.happened; happen = x.happen; told = x.told; by = inl x.by }

pub heard_end : (f g : Framing) (old : Option (List StreamCall)) (to : List ℕ) (port : ℕ) → f.ready ≡ None → g ≡ ended port f
    → IsHeard f (call.Ended port) old g old to received.Part
heard_end f g old to port n e = record { mid = g; call = (n, e); happened = []; happen = refl; told = told_none old; by = refl }

pub heard_quiet : (f : Framing) (old : Option (List StreamCall)) (to : List ℕ) → f.ready ≡ None → IsHeard f call.Quiet old f old to received.Quiet
heard_quiet f old to n = record { mid = f; call = (n, refl); happened = []; happen = refl; told = told_none old; by = refl }

pub received_ready : {E : Type 0} (f g : Framing) (old new last last' : Option (List StreamCall)) (to : List ℕ) (port : ℕ) → IsGiven f old g new to (Some port)
    → last' ≡ last → IsReceived {E = E} f old last g new last' to (Ok (received.Datagram port))
received_ready f g old new last last' to port x e = inl (port, refl, x, e)

pub received_failed : {E : Type 0} (f g : Framing) (old settled last last' new : Option (List StreamCall)) (held to : List ℕ) (e : E) → IsGiven f old g settled held None
    → Grows settled new (call.Failed ∷ []) → last' ≡ new → IsReceived f old last g new last' to (Err e)
received_failed f g old settled last last' new held to e x told same =
    inr (record {
      mid = g;
      settled = settled;
      held = held;
      nothing = x;
      call = call.Failed;
      told = subst (λ n. Grows settled n (call.Failed ∷ [])) (sym same) told;
      by = (refl, refl, sym same);
    })

pub received_heard : {E : Type 0} (f mid g : Framing) (old last last' settled polled new : Option (List StreamCall)) (held to : List ℕ) (c : StreamCall) (r : Received)
    → IsGiven f old mid settled held None → Grows settled polled (c ∷ []) → IsHeard mid c polled g new to r → last' ≡ polled
    → IsReceived {E = E} f old last g new last' to (Ok r)
received_heard f mid g old last last' settled polled new held to c r x told h same =
    inr (record {
      mid = mid;
      settled = settled;
      held = held;
      nothing = x;
      call = c;
      told = subst (λ n. Grows settled n (c ∷ [])) (sym same) told;
      by = subst (λ n. IsHeard mid c n g new to r) (sym same) h;
    })
