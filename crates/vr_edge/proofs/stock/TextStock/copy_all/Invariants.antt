use Rattle.std.proofs.Common.{◌≡◌, ◌≤◌, map, take, vec_len, vec_capacity}
use Rattle.std.specs.Prelude.{string_bytes}
use Rattle.vr_edge.specs.Attaching.{texts_of}
use Rattle.vr_edge.specs.Stocks.{Fits, Took}
use Rattle.vr_edge.proofs.stock.TextStock.copy_all.Given as goal

abbrev pub invariant-loop-word : goal.invariant-loop-word
invariant-loop-word l = record {
  copies : l.copies.items ≡ map string_bytes (take l.word-index l.words.items);
  kept : Fits (texts_of l.words.items) l.fn.self → (l.fn.self.lists.most ≤ vec_capacity l.copies) × (vec_len l.copies ≡ l.word-index) × Took l.word-index 1 l.fn.self l.self;
}
