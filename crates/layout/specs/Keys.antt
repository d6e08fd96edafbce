-- The keys by which save sorts: rising keys are the order of a saved layout. Assumes nothing.
use Rattle.std.specs.Prelude.{◌≡◌, List, ℕ, ◌+◌, ◌-◌, ◌*◌, ◌<◌, ℤ, length, get_or}
use Rattle.std.proofs.Common.{arith, eqb→eq}
use Rattle.geometry.specs.Picture.{LOW, HIGH, SOLID}
use Rattle.geometry.specs.Plane.{Is, Formed}
use Rattle.table.specs.Words.{LEFT, TOP, KIND, records_of, num}
use Rattle.table.specs.Sound.{SizeRight, solid_at, SolidIn}
use Rattle.table.specs.Forms.{Forms, plane_in, used_is}
use Rattle.sorting.specs.Sorting.{Sorts}
use Rattle.sorting.specs.Keys.{RECORDS, record_of, keys_of, Collects, key_at}

-- top down first, then left, then the record's number
unfoldable pub key : List ℤ → ℕ → ℕ
key t i = ((HIGH - num t i TOP) * 33554432 + (num t i LEFT - LOW)) * RECORDS + i

pub record_key : (t : List ℤ) (i : ℕ) → i < RECORDS → record_of (key t i) ≡ i
unfolding key
record_key t i h = omega arith

-- ---- solids as tiles of the plane

pub solid_is : (t : List ℤ) (i : ℕ) → SolidIn t i → Is (plane_in t) i
solid_is t i s = let k = s.kind in used_is t i (record { below = s.below; used = λ e. omega arith })

pub solid_formed : (t : List ℤ) → Forms t → (i : ℕ) → SolidIn t i → Formed (plane_in t) i
solid_formed t f i s = f.widest.strips.formed i (solid_is t i s)

-- two solids with the same top and left are one
pub one_corner : (t : List ℤ) → Forms t → (i j : ℕ) → SolidIn t i → SolidIn t j → num t i TOP ≡ num t j TOP → num t i LEFT ≡ num t j LEFT → i ≡ j
one_corner t f i j si sj et el =
    let fi = solid_formed t f i si in
    let fj = solid_formed t f j sj in
    f.widest.strips.disjoint i j (num t i LEFT) (num t i TOP - 1)
    (record { is = solid_is t i si; at = omega arith }) (record { is = solid_is t j sj; at = omega arith })

-- ---- the keys of the solids below n, and of all of them

abbrev pub keys_to : List ℤ → ℕ → List ℕ
keys_to t = keys_of (solid_at t) (key t)

abbrev pub CollectsKeys : List ℤ → List ℕ → ℕ → Type 0
CollectsKeys t = Collects (solid_at t) (key t) (records_of t)

-- ---- sorted keys list the solids in order

module _ (t : List ℤ) (f : Forms t) (z : SizeRight t) (ks : List ℕ) (s : Sorts (keys_to t (records_of t)) ks) where
  pub own : (i : ℕ) → i < records_of t → record_of (key t i) ≡ i
  own i h = record_key t i (omega (arith, z.most))

  pub record_at : (n : ℕ) → n < length ks → SolidIn t (record_of (get_or ks n 0))
  record_at n h =
      let (below, w, e) = key_at (solid_at t) (key t) (records_of t) own ks s n h in
      record { below = below; kind = eqb→eq (num t (record_of (get_or ks n 0)) KIND) SOLID w }
