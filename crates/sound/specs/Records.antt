-- What the check asks of each record by itself, in the form of its tests: flat records of facts about numbers. Assumes nothing.
use Rattle.std.specs.Prelude.{◌≡◌, ◌≢◌, List, ℕ, ◌≤◌, ◌<◌, ℤ}
use Rattle.std.proofs.Common.{◌∙◌, arith}
use Rattle.geometry.specs.Picture.{ZERO, FREE, SPACE, SOLID, Has}
use Rattle.geometry.specs.Plane.{Formed}
use Rattle.table.specs.Words.{LEFT, RIGHT, KIND, LABEL, num, records_of, tile_of}
use Rattle.table.specs.Sound.{Zeros}
use Rattle.table.specs.Forms.{plane_in}
use Rattle.table.specs.Reading.{Reads}
use Rattle.table.specs.declared.Record.{Record}

-- kind 1 with label 0, or kind 2 with a label of 1 or more
pub record KindRight (t : List ℤ) (i : ℕ) : Type 0 where
  pub least : SPACE ≤ num t i KIND
  pub most : num t i KIND ≤ SOLID
  pub space : num t i KIND ≡ SPACE → num t i LABEL ≡ ZERO
  pub solid : num t i KIND ≡ SOLID → ZERO < num t i LABEL

pub record Well (t : List ℤ) (i : ℕ) : Type 0 where
  pub blank : num t i KIND ≡ FREE → Zeros t i
  pub formed : num t i KIND ≢ FREE → Formed (plane_in t) i
  pub kind : num t i KIND ≢ FREE → KindRight t i

pub read_formed : (t : List ℤ) (k : ℕ) (v : Record) → Reads t k v → v.kind ≢ FREE → Well t k → Formed (plane_in t) k
read_formed t k v h n w = w.formed (λ e. n (h.kind ∙ e))

abbrev pub AllWell : List ℤ → Type 0
AllWell t = (i : ℕ) → i < records_of t → Well t i

-- a record that holds a cell is used: a free one is zeros
pub has_used : (t : List ℤ) (i x y : ℕ) → AllWell t → i < records_of t → Has (tile_of t i) x y → num t i KIND ≢ FREE
has_used t i x y w h k e = let z = (w i h).blank e in omega (arith, z LEFT (omega arith), z RIGHT (omega arith))
