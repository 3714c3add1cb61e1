-- Room that is used for one text and then for others.
use Rattle.std.proofs.Common.{◌≡◌, ◌+◌, ◌≤◌, ◌<◌, ℕ, List, [], ◌∷◌, length, get_or, arith, suc, refl, ap}
use Rattle.std.proofs.lemmas.List.{get_or-map}
use Rattle.std.specs.Global.{Global}
use Rattle.std.specs.Prelude.{String, string_bytes}
use Rattle.vr_edge.specs.Attaching.{texts_of}
use Rattle.vr_edge.specs.Stocks.{Fits, FitsOne, Took}
use Rattle.vr_edge.specs.declared.stock.TextStock.{TextStock}

pub fits_first : (text : List ℕ) (texts : List (List ℕ)) (s : TextStock) → Fits (text ∷ texts) s → FitsOne (length text) s
fits_first text texts s h = let n = h.texts in record { text = omega (arith, n); bytes = h.bytes 0 [] (omega arith) }

pub fits_rest : (text : List ℕ) (texts : List (List ℕ)) (s t : TextStock) → Fits (text ∷ texts) s → Took 1 0 s t → Fits texts t
fits_rest text texts s t h k =
    let n = h.texts in let i = h.items in let l = h.list in
    let kt = k.texts in let kl = k.lists in let ki = k.items in let kb = k.bytes in record {
      texts = omega (arith, n, kt);
      bytes = λ j d b. (let one = h.bytes (suc j) d (omega (arith, b)) in omega (arith, one, kb));
      list = omega (arith, l, kl);
      items = omega (arith, i, ki);
    }

pub took_both : (n m : ℕ) (s t u : TextStock) → Took 1 0 s t → Took n m t u → Took (n + 1) m s u
took_both n m s t u a b =
    let at = a.texts in let al = a.lists in let ai = a.items in let ab = a.bytes in
    let bt = b.texts in let bl = b.lists in let bi = b.items in let bb = b.bytes in record {
      texts = omega (arith, at, bt);
      lists = omega (arith, al, bl);
      bytes = omega (arith, ab, bb);
      items = omega (arith, ai, bi);
    }

pub texts_count : (words : List (String Global)) → length (texts_of words) ≡ length words
texts_count [] = refl
texts_count (word ∷ words) = ap suc (texts_count words)

-- one of them, after those before it
pub fits_at : (words : List (String Global)) (s t : TextStock) (i : ℕ) (d : String Global) (text : List ℕ) → Fits (texts_of words) s → Took i 1 s t
    → i < length words → text ≡ string_bytes (get_or words i d) → FitsOne (length text) t
fits_at words s t i d text h k l is =
    let n = h.texts in let kt = k.texts in let kb = k.bytes in
    let count : length (texts_of words) ≡ length words = texts_count words in
    let one : length (get_or (texts_of words) i []) ≤ s.texts.most = h.bytes i [] (omega (arith, count, l)) in
    let same : length (string_bytes (get_or words i d)) ≤ s.texts.most = rw (get_or-map string_bytes words i d [] l) at one in
    record { text = omega (arith, n, kt, count, l); bytes = rw is (omega (arith, same, kb)) }

pub took_more : (i : ℕ) (s t u : TextStock) → Took i 1 s t → Took 1 0 t u → Took (i + 1) 1 s u
took_more i s t u a b =
    let at = a.texts in let al = a.lists in let ai = a.items in let ab = a.bytes in
    let bt = b.texts in let bl = b.lists in let bi = b.items in let bb = b.bytes in record {
      texts = omega (arith, at, bt);
      lists = omega (arith, al, bl);
      bytes = omega (arith, ab, bb);
      items = omega (arith, ai, bi);
    }
