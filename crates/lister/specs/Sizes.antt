-- The lister's sizes, as 01 has them ("Saved layouts"): at most 8,020 bytes are read, into a table of 1,616 records. Assumes nothing.
use Rattle.std.specs.Prelude.{◌≡◌, refl, List, ℕ, ◌+◌, ◌*◌, ◌≤◌, ℤ, length, take}
use Rattle.table.specs.Words.{WIDTH}
use Rattle.table.specs.Sound.{capacity}
use Rattle.std.specs.declared.result.Result.{Result}
use Rattle.std.specs.declared.result.Result.TheVariants.{Ok, Err}
use Rattle.layout.specs.Bytes.{SAVED}

-- the most bytes that are read
abbrev pub BYTES : ℕ
BYTES = 8020

-- the records of the table
abbrev pub RECORDS : ℕ
RECORDS = 1616

-- the room for one line of the text
abbrev pub LINE : ℕ
LINE = 80

-- What the listing is lent: the table, a saved layout, a list with an entry for each record, and the room for a line each.
pub record Sized (table : List ℤ) (layout : List ℕ) (list : List ℤ) (text : List ℕ) : Type 0 where
  pub words : length table ≡ WIDTH * RECORDS
  pub most : length layout ≤ BYTES
  pub entries : length list ≡ RECORDS
  pub room : length text ≡ LINE * RECORDS

-- the table takes 400 solids
pub takes_400 : capacity RECORDS ≡ 400
takes_400 = refl

-- one saved solid more than the table takes is read, so that a layout of too many is refused and not cut
pub reads_401 : BYTES ≡ SAVED * (capacity RECORDS + 1)
reads_401 = refl

-- what is read of the input lies at the start of the lent bytes
abbrev pub Within : {E : Type 0} → Result ℕ E → List ℕ → Type 0
Within (Ok n) bytes = n ≤ length bytes
Within (Err e) bytes = Unit {0}

-- where what the input has left is known: its bytes, as many as are read at most
abbrev pub Reads : {E : Type 0} → Result ℕ E → List ℕ → List ℕ → Type 0
Reads (Ok n) bytes left = take n bytes ≡ take BYTES left
Reads (Err e) bytes left = Unit {0}
