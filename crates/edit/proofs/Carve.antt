-- A table of which a solid tile can be cut has a free record: of specs/Carve, what rests on `room`. Assumes nothing.
use Rattle.std.specs.Prelude.{List, ℕ, ℤ}
use Rattle.edit.specs.Steps.{FreeIn}
use Rattle.edit.specs.Tidy.{room}
use Rattle.edit.specs.Carve.{Cuttable}

pub cut_room : (t : List ℤ) (a : ℕ) → Cuttable t a → (j : ℕ) × FreeIn t j
cut_room t a c = room t c.tidy c.least c.few
