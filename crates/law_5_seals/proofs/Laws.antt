-- The laws.
use Rattle.vr_super.specs.Copies.{copy_bytes}
use Rattle.vr_super.specs.Calls.{mend_calls, save_from}
use Rattle.std.proofs.Common.{arith}
use Rattle.law_5_seals.specs.Seals.{IsSealed}
use Rattle.law_5_seals.specs.Laws.{SealsLast, SlotsAreSealed, ValuesAreSealed}
use Rattle.law_5_seals.proofs.Contents.{has_after_all, has_cut, has_fault}
use Rattle.law_5_seals.proofs.Sectors.{again_sealed, header_calls_sealed, mend_sealed, new_sealed, saves_sealed, seals_append}
use Rattle.law_5_seals.proofs.Turning.{turned_sealed}

pub seals_last : SealsLast
seals_last cluster made f s = record {
  done = λ cs a. has_after_all (IsSealed cluster made) cs f s a;
  stopped = λ cs j code a. has_cut (IsSealed cluster made) (turned_sealed cluster made) cs f j code s a;
  lied = λ x l. has_fault (IsSealed cluster made) (turned_sealed cluster made) f x l s;
}

pub slots_are_sealed : SlotsAreSealed
slots_are_sealed version cluster made e w c are size m = record { new = new_sealed cluster made version e w c are size m; again = again_sealed cluster made version e w c are size m; header = header_calls_sealed cluster made e.header w.header c (λ _ _. m) }

pub values_are_sealed : ValuesAreSealed
values_are_sealed cluster made old new f a b c d m n = seals_append cluster made (mend_calls old f) (save_from 0 4 (copy_bytes new)) (mend_sealed cluster made old a c m f) (saves_sealed cluster made new b d n 4 0 (omega arith))
