-- What stands ready at a port.
use Rattle.std.proofs.Common.{subst, ◌≡◌, ◌∙◌, ◌<◌, ℕ, List, false, length, slice_get, slice_set, slice_index_or, Some, None, refl, ap, sym}
use Rattle.std.proofs.lemmas.List.{set-get_or}
use Rattle.std.proofs.lemmas.Option.{slice_get-get_or}
use Rattle.vr_codec.specs.declared.fault.MsgFault.{MsgFault}
use Rattle.vr_stream.specs.Cutting.{IsBroken}
use Rattle.vr_stream.specs.Framers.{IsDamaged}
use Rattle.vr_stream.specs.Framing.{Framing, IsSettled, Settles}
use Rattle.vr_stream.specs.declared.line.Incoming.{Incoming}

stood : (xs : List Incoming) (port : ℕ) (x : Incoming) → port < length xs → x ≡ slice_index_or xs port x → slice_get xs port ≡ Some x
stood xs port x below e = slice_get-get_or xs port x below ∙ ap Some (sym e)

-- a line that is put back as it was
put_back : (xs : List Incoming) (port : ℕ) (x : Incoming) (held : List ℕ) → x ≡ slice_index_or xs port x → held ≡ x.deframer
    → slice_set xs port (record { deframer = held; over = x.over }) ≡ xs
put_back xs port x held e h =
    ap (λ (d : List ℕ). slice_set xs port (record { deframer = d; over = x.over })) h ∙ ap (slice_set xs port) e ∙ set-get_or xs port x

pub settles_at : (f : Framing) (port : ℕ) (x : Incoming) (held : List ℕ) → f.ready ≡ Some port → port < length f.lines → x ≡ slice_index_or f.lines port x
    → held ≡ x.deframer → IsSettled x → Settles f (record { lines = slice_set f.lines port (record { deframer = held; over = x.over }); ready = None })
settles_at f port x held r below e h s = record {
  settled = λ p line ready there.
      let at : port ≡ p = (let o : Some port ≡ Some p = sym r ∙ ready in cc) in
      let found : slice_get f.lines port ≡ Some line = ap (slice_get f.lines) at ∙ there in
      let same : x ≡ line = (let o : Some x ≡ Some line = sym (stood f.lines port x below e) ∙ found in cc) in
      subst IsSettled same s;
  gone = ap (λ (ls : List Incoming). record { lines = ls; ready = None }) (put_back f.lines port x held e h);
}

-- nothing stands ready where there is no such port
pub settles_past : (f : Framing) (port : ℕ) → f.ready ≡ Some port → slice_get f.lines port ≡ None → Settles f (record f { ready = None })
settles_past f port r none = record {
  settled = λ p line ready there.
      let at : port ≡ p = (let o : Some port ≡ Some p = sym r ∙ ready in cc) in
      absurd (let clash : Some line ≡ None = sym there ∙ (ap (slice_get f.lines) (sym at) ∙ none) in cc);
  gone = refl;
}

pub damaged_at : (f : Framing) (port : ℕ) (x : Incoming) (held : List ℕ) (fault : MsgFault) → f.ready ≡ Some port → port < length f.lines → x ≡ slice_index_or f.lines port x
    → held ≡ x.deframer → x.over ≡ false → IsBroken x.deframer fault
    → IsDamaged port f × (record { lines = slice_set f.lines port (record { deframer = held; over = x.over }); ready = None } ≡ record f { ready = None })
damaged_at f port x held fault r below e h o b = (
  record { ready = r; line = x; stands = stood f.lines port x below e; goes_on = o; fault = fault; broken = b },
  ap (λ (ls : List Incoming). record { lines = ls; ready = None }) (put_back f.lines port x held e h),
)
