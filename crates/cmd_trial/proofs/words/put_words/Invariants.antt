use Rattle.std.proofs.Common.{◌≡◌, ◌++◌, map, take}
use Rattle.std.specs.Prelude.{string_bytes}
use Rattle.vr_edge.specs.Attaching.{texts_of}
use Rattle.cmd_trial.proofs.words.put_words.Given as goal

abbrev pub invariant-loop-word : goal.invariant-loop-word
invariant-loop-word l = texts_of l.words.items ≡ texts_of l.initial.words.items ++ map string_bytes (take l.word-index l.more.items)
