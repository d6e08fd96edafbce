-- The form of a sound table that proofs use, and that it is the same as the definition. Assumes nothing.
use Rattle.std.specs.Prelude.{◌≡◌, ◌↔◌, List, ℕ, ◌+◌, ◌-◌, ◌*◌, ◌≤◌, ◌<◌, ℤ}
use Rattle.std.proofs.Common.{arith}
use Rattle.ruler.specs.Ruler.{bits}
use Rattle.geometry.specs.Picture.{ZERO, FREE, SOLID, Has, Solids, In, Touch, Joined}
use Rattle.geometry.specs.Plane.{Plane, Is, Holds}
use Rattle.geometry.specs.Tiling
use Rattle.geometry.specs.Tiling.{plane_of, solids_of, Widest, bound, eq→eqb, kind_solid}
use Rattle.geometry.specs.Stitches.{Stitches, Good}
use Rattle.table.specs.Words.{TR, RT, BL, LB, KIND, LABEL, records_of, num, tile_of}
use Rattle.table.specs.Sound.{capacity, UsedIn, NONE, Zeros, SolidIn, solids_in}

abbrev pub plane_in : List ℤ → Plane
plane_in t = plane_of (records_of t) (tile_of t)

-- A stitch word as a tile's number: its bits, read without a sign. So a record number is itself, -1 is `none`, and every other word is past the
-- records and not `none`. The last term is 0 for every i32; it makes that true of any list, so that a table of the proofs' form is sound with no
-- word on how large its words are. One expression, so that `omega` sees through it.
abbrev pub none : ℕ
none = 4294967295

abbrev pub link : ℕ → ℕ
link w = bits w + (w - none) * 4294967296

abbrev pub stitches_in : List ℤ → Stitches
stitches_in t =
    record {
      none = none;
      tr = λ i. link (num t i TR);
      rt = λ i. link (num t i RT);
      bl = λ i. link (num t i BL);
      lb = λ i. link (num t i LB);
    }

pub record Forms (t : List ℤ) : Type 0 where
  pub zeros : (i : ℕ) → i < records_of t → num t i KIND ≡ FREE → Zeros t i
  pub widest : Widest (records_of t) (tile_of t)
  pub good : Good (plane_in t) (stitches_in t)
  pub few : solids_in t ≤ capacity (records_of t)

-- The solids among the records. A sound table has the form, and those of its solids that touch have one label; an edit asks for the form alone, since between
-- two of its steps different labels may touch.
abbrev pub solid_set : List ℤ → Solids
solid_set t = solids_of (records_of t) (tile_of t)

-- ---- stitch words as numbers

-- what is read of a word, of 32 bits
pub link_bits : (w : ℕ) → w < 4294967296 → bits w ≡ link w
link_bits w f = omega arith

pub record Recorded (w : ℕ) : Type 0 where
  pub from : ZERO ≤ w
  pub number : w - ZERO ≡ link w

pub link_below : (w : ℕ) → link w < ZERO → Recorded w
link_below w h = omega arith

pub none_link : (w : ℕ) → link w ≡ none → w ≡ NONE
none_link w e = omega arith

-- ---- used records and the cells that they hold

pub used_is : (t : List ℤ) (i : ℕ) → UsedIn t i → Is (plane_in t) i
used_is t i u = Tiling.used_is (records_of t) (tile_of t) i u

pub is_used : (t : List ℤ) (i : ℕ) → Is (plane_in t) i → UsedIn t i
is_used t i u = Tiling.is_used (records_of t) (tile_of t) i u

pub has_holds : (t : List ℤ) (i x y : ℕ) → UsedIn t i → Has (tile_of t i) x y → Holds (plane_in t) i x y
has_holds t i x y u h = Tiling.has_holds (records_of t) (tile_of t) i x y u h

pub holds_has : (t : List ℤ) (i x y : ℕ) → Holds (plane_in t) i x y → UsedIn t i × Has (tile_of t i) x y
holds_has t i x y h = (is_used t i h.is, Tiling.holds_has (records_of t) (tile_of t) i x y h)

-- ---- a solid of the table as one of its solids, and what touches, record by record

pub in_solid : (t : List ℤ) (i : ℕ) → In (solid_set t) i → SolidIn t i
in_solid t i h = record { below = h.below; kind = kind_solid (records_of t) (tile_of t) i h.is }

pub solid_in : (t : List ℤ) (i : ℕ) → SolidIn t i → In (solid_set t) i
solid_in t i s = record { below = s.below; is = eq→eqb (num t i KIND) SOLID s.kind }

abbrev pub JoinedIn : List ℤ → Type 0
JoinedIn t = (i j : ℕ) → SolidIn t i → SolidIn t j → Touch (tile_of t i) (tile_of t j) → num t i LABEL ≡ num t j LABEL

pub joined_in : (t : List ℤ) → Joined (solid_set t) ↔ JoinedIn t
joined_in t = ((λ f i j u v. f i j (solid_in t i u) (solid_in t j v)), (λ f i j u v. f i j (in_solid t i u) (in_solid t j v)))
