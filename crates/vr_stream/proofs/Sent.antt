-- What a link over streams has sent, one write after another.
use Rattle.std.proofs.Common.{inl, inr, subst, ◌≡◌, ◌∙◌, ℕ, List, [], ◌∷◌, true, false, length, map, nat_eq, Option, Some, None, refl, ap}
use Rattle.std.specs.Option.{option_map}
use Rattle.std.proofs.lemmas.List.{map-append}
use Rattle.vr_edge.specs.Told.{Grows}
use Rattle.vr_edge.specs.Sending.{datagram_at}
use Rattle.vr_edge.specs.declared.datagram.Datagram.{Datagram}
use Rattle.vr_edge.specs.declared.streams.Write.{Write}
use Rattle.vr_edge.specs.declared.streams.StreamCall.{StreamCall}
use Rattle.vr_edge.specs.declared.streams.StreamCall.TheVariants as call
use Rattle.vr_stream.specs.Framing.{Framing, ended}
use Rattle.vr_stream.specs.Sending.{Sends, sent_by_write, sent_told}

grows_map : {X Y : Type 0} (f : X → Y) (a b : Option (List X)) (more : List X) → Grows a b more → Grows (option_map (map f) a) (option_map (map f) b) (map f more)
grows_map f None None more g = refl
grows_map f None (Some ys) more g = absurd (let clash : Some ys ≡ None = g in cc)
grows_map f (Some xs) None more g = tt
grows_map f (Some xs) (Some ys) more g = ap (map f) g ∙ map-append f xs more

sent_so : (a b : Option (List Write)) (w : Write) (o : Option Datagram) → sent_by_write w ≡ o → Grows a b (w ∷ []) → Grows (sent_told a) (sent_told b) (o ∷ [])
sent_so a b w o e g = subst (λ x. Grows (sent_told a) (sent_told b) (x ∷ [])) e (grows_map sent_by_write a b (w ∷ []) g)

-- a write that took the bytes whole
pub sent_whole : (a b : Option (List Write)) (port count : ℕ) (bytes : List ℕ) → nat_eq count (length bytes) ≡ true
    → Grows a b (record { port = port; bytes = bytes; taken = Some count } ∷ []) → Grows (sent_told a) (sent_told b) (Some (datagram_at port bytes) ∷ [])
sent_whole a b port count bytes e g = sent_so a b (record { port = port; bytes = bytes; taken = Some count }) (Some (datagram_at port bytes)) (rw e refl) g

-- a write that took less
pub sent_cut : (a b : Option (List Write)) (port count : ℕ) (bytes : List ℕ) → nat_eq count (length bytes) ≡ false
    → Grows a b (record { port = port; bytes = bytes; taken = Some count } ∷ []) → Grows (sent_told a) (sent_told b) (None ∷ [])
sent_cut a b port count bytes e g = sent_so a b (record { port = port; bytes = bytes; taken = Some count }) None (rw e refl) g

-- a write that failed
pub sent_not : (a b : Option (List Write)) (port : ℕ) (bytes : List ℕ)
    → Grows a b (record { port = port; bytes = bytes; taken = None } ∷ []) → Grows (sent_told a) (sent_told b) (None ∷ [])
sent_not a b port bytes g = sent_so a b (record { port = port; bytes = bytes; taken = None }) None refl g

pub sends_whole : (f : Framing) (old : Option (List StreamCall)) (a b : Option (List Write)) (to count : ℕ) (bytes : List ℕ) → nat_eq count (length bytes) ≡ true
    → Grows a b (record { port = to; bytes = bytes; taken = Some count } ∷ []) → Sends to bytes f old a f old b
sends_whole f old a b to count bytes e w = record { taken = Some count; wrote = w; leaves = inl (e, refl, refl) }

pub sends_cut : (f g : Framing) (old new : Option (List StreamCall)) (a b : Option (List Write)) (to count : ℕ) (bytes : List ℕ) → nat_eq count (length bytes) ≡ false
    → Grows a b (record { port = to; bytes = bytes; taken = Some count } ∷ []) → g ≡ ended to f → Grows old new (call.Closed to ∷ []) → Sends to bytes f old a g new b
sends_cut f g old new a b to count bytes e w o t = record { taken = Some count; wrote = w; leaves = inr (e, o, t) }

pub sends_not : (f : Framing) (old : Option (List StreamCall)) (a b : Option (List Write)) (to : ℕ) (bytes : List ℕ)
    → Grows a b (record { port = to; bytes = bytes; taken = None } ∷ []) → Sends to bytes f old a f old b
sends_not f old a b to bytes w = record { taken = None; wrote = w; leaves = (refl, refl) }
