-- What save writes is a saved layout: of specs/Saving, the theorem that rests on the order. Assumes nothing.
use Rattle.std.specs.Prelude.{◌≡◌, List, ◌++◌, map, ℕ, ◌*◌, ℤ, length, drop}
use Rattle.std.proofs.Common.{sym, ap, ◌∙◌}
use Rattle.std.proofs.lemmas.List.{length-map}
use Rattle.table.specs.Words.{records_of}
use Rattle.table.specs.Sound.{SizeRight}
use Rattle.table.specs.Forms.{Forms}
use Rattle.layout.specs.Bytes.{file_bytes, SAVED}
use Rattle.layout.specs.Order.{Saves}
use Rattle.sorting.specs.Sorting.{Sorts}
use Rattle.sorting.specs.Keys.{record_of}
use Rattle.layout.specs.Keys.{keys_to}
use Rattle.layout.specs.Saving.{saved_by}
use Rattle.layout.proofs.Keys.{sorted_lists}

-- ---- save: the keys of all solids are ks, sorted

module _ (t : List ℤ) (f : Forms t) (z : SizeRight t) (ks : List ℕ) (s : Sorts (keys_to t (records_of t)) ks) where
  pub saves : (out out' : List ℕ) (r : ℕ) → r ≡ SAVED * length ks → out' ≡ file_bytes (saved_by t ks) ++ drop (SAVED * length ks) out → Saves t out out' r
  saves out out' r e w = record {
    solids = map record_of ks;
    lists = sorted_lists t f z ks s;
    number = e ∙ ap (λ n. SAVED * n) (sym (length-map ks record_of));
    writes = w ∙ ap (λ n. file_bytes (saved_by t ks) ++ drop n out) (sym e);
  }
