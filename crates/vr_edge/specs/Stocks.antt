-- What a stock of room for texts has left.
use Rattle.std.specs.List.{All}
use Rattle.std.specs.Prelude.{ℕ, ◌+◌, ◌≡◌, ◌≤◌, ◌<◌, List, length, vec_len}
use Rattle.vr_edge.specs.declared.stock.LogRoom.{LogRoom}
use Rattle.vr_edge.specs.declared.stock.TextStock.{TextStock}

-- a stock of this room of which nothing was used
pub record IsStock (room : LogRoom) (s : TextStock) : Type 0 where
  pub texts : vec_len s.texts.spare ≡ room.texts
  pub bytes : s.texts.most ≡ room.bytes
  pub lists : vec_len s.lists.spare ≡ room.entries
  pub items : s.lists.most ≡ room.texts

-- there is room for one more text, of this length
pub record FitsOne (len : ℕ) (s : TextStock) : Type 0 where
  pub text : 0 < vec_len s.texts.spare
  pub bytes : len ≤ s.texts.most

-- there is room for these texts, and for a list of them
pub record Fits (these : List (List ℕ)) (s : TextStock) : Type 0 where
  pub texts : length these ≤ vec_len s.texts.spare
  pub bytes : All (λ (text : List ℕ). length text ≤ s.texts.most) these
  pub list : 0 < vec_len s.lists.spare
  pub items : length these ≤ s.lists.most

-- room for so many texts and so many lists was used
pub record Took (n m : ℕ) (old new : TextStock) : Type 0 where
  pub texts : vec_len new.texts.spare + n ≡ vec_len old.texts.spare
  pub lists : vec_len new.lists.spare + m ≡ vec_len old.lists.spare
  pub bytes : new.texts.most ≡ old.texts.most
  pub items : new.lists.most ≡ old.lists.most

-- room for one text was used at most
pub record TookOne (old new : TextStock) : Type 0 where
  pub texts : vec_len old.texts.spare ≤ vec_len new.texts.spare + 1
  pub lists : vec_len new.lists.spare ≡ vec_len old.lists.spare
  pub bytes : new.texts.most ≡ old.texts.most
  pub items : new.lists.most ≡ old.lists.most
