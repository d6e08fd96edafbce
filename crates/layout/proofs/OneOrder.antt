-- A sound table has an order of its solids: of specs/OneOrder, the theorem that rests on the keys. Assumes nothing.
use Rattle.std.specs.Prelude.{List, map, ℕ, ℤ}
use Rattle.table.specs.Words.{records_of}
use Rattle.table.specs.Sound.{SizeRight, SolidIn}
use Rattle.table.specs.Forms.{Forms}
use Rattle.seek.specs.Meaning.{Lists}
use Rattle.sorting.specs.Sorting.{sorted, sorted_sorts}
use Rattle.sorting.specs.Keys.{record_of}
use Rattle.layout.specs.Order.{Comes}
use Rattle.layout.specs.Keys.{keys_to}
use Rattle.layout.proofs.Keys.{sorted_lists}

pub some_order : (t : List ℤ) → Forms t → SizeRight t → (ks : List ℕ) × Lists (SolidIn t) (Comes t) ks
some_order t f z =
    let keys = keys_to t (records_of t) in
    (map record_of (sorted keys), sorted_lists t f z (sorted keys) (sorted_sorts keys))
