-- The neighbours of a tile as the tiles that stand on it, with the plane seen from the side: so there is one list of them, and it is what the walk meets. Assumes nothing.
use Rattle.std.specs.Prelude.{◌≡◌, List, ℕ, ◌≤◌, ℤ}
use Rattle.std.proofs.Common.{arith}
use Rattle.geometry.specs.Plane.{Plane, Is, Formed}
use Rattle.geometry.specs.Stitches.{Stitches, Good}
use Rattle.geometry.specs.Turns.{seen, seen_stitches, good_seen}
use Rattle.geometry.specs.Walk.{Stands}
use Rattle.geometry.specs.Listed.{Listed, entry, listed_some, listed_one}
use Rattle.geometry.specs.Picture.{Side, top, right, bottom, left}
use Rattle.table.specs.Words.{tile_of}
use Rattle.table.specs.Sound.{UsedIn}
use Rattle.table.specs.Forms.{plane_in, stitches_in, Forms, used_is, is_used}
use Rattle.seek.specs.Find.{IsIn}
use Rattle.seek.specs.Neighbours.{Touches, Before, Neighbour, Neighbours}

module _ (t : List ℤ) (f : Forms t) where
  sees : (s : Side) (k : ℕ) → IsIn t k → Is (seen s (plane_in t)) k
  sees top k u = record { below = u.below; used = u.used }
  sees right k u = record { below = u.below; used = u.used }
  sees bottom k u = record { below = u.below; used = u.used }
  sees left k u = record { below = u.below; used = u.used }

  seen_is : (s : Side) (k : ℕ) → Is (seen s (plane_in t)) k → IsIn t k
  seen_is top k u = record { below = u.below; used = u.used }
  seen_is right k u = record { below = u.below; used = u.used }
  seen_is bottom k u = record { below = u.below; used = u.used }
  seen_is left k u = record { below = u.below; used = u.used }

  stands : (s : Side) (i k : ℕ) → IsIn t i → IsIn t k → Touches s (tile_of t i) (tile_of t k) → Stands (seen s (plane_in t)) i k
  stands s i k u v h = go s h
    where
      w : Formed (plane_in t) i
      w = f.good.formed i u

      z : Formed (plane_in t) k
      z = f.good.formed k v

      go : (s : Side) → Touches s (tile_of t i) (tile_of t k) → Stands (seen s (plane_in t)) i k
      go top h = record { is = sees top k v; bottom = omega arith; left = omega arith; right = omega arith }
      go right h = record { is = sees right k v; bottom = omega arith; left = omega arith; right = omega arith }
      go bottom h = record { is = sees bottom k v; bottom = omega (arith, w, z); left = omega (arith, w, z); right = omega (arith, w, z) }
      go left h = record { is = sees left k v; bottom = omega (arith, w, z); left = omega (arith, w, z); right = omega (arith, w, z) }

  touches : (s : Side) (i k : ℕ) → IsIn t i → Stands (seen s (plane_in t)) i k → Touches s (tile_of t i) (tile_of t k)
  touches s i k u h = go s h (f.good.formed k (seen_is s k h.is))
    where
      w : Formed (plane_in t) i
      w = f.good.formed i u

      go : (s : Side) → Stands (seen s (plane_in t)) i k → Formed (plane_in t) k → Touches s (tile_of t i) (tile_of t k)
      go top h z = record { line = omega arith; one = omega arith; other = omega arith }
      go right h z = record { line = omega arith; one = omega arith; other = omega arith }
      go bottom h z = record { line = omega (arith, w, h.bottom); one = omega (arith, w, h.left); other = omega (arith, w, h.right) }
      go left h z = record { line = omega (arith, w, h.bottom); one = omega (arith, w, h.left); other = omega (arith, w, h.right) }

  -- k is the earlier one
  after : (s : Side) (k m : ℕ) → IsIn t k → IsIn t m → Before s (tile_of t k) (tile_of t m) → (seen s (plane_in t)).r m ≤ (seen s (plane_in t)).l k
  after top k m u v h = h
  after right k m u v h = h
  after bottom k m u v h = omega arith
  after left k m u v h = omega arith

  before : (s : Side) (k m : ℕ) → IsIn t k → IsIn t m → (seen s (plane_in t)).r m ≤ (seen s (plane_in t)).l k → Before s (tile_of t k) (tile_of t m)
  before top k m u v h = h
  before right k m u v h = h
  before bottom k m u v h = let w = f.good.formed k u in let z = f.good.formed m v in omega arith
  before left k m u v h = let w = f.good.formed k u in let z = f.good.formed m v in omega arith

  module _ (s : Side) (i : ℕ) (u : UsedIn t i) where
    abbrev Q : Plane
    Q = seen s (plane_in t)

    abbrev Z : Stitches
    Z = seen_stitches s (stitches_in t)

    pub good : Good Q Z
    good = good_seen s (plane_in t) (stitches_in t) f.good

    pub sees_is : Is Q i
    sees_is = sees s i (used_is t i u)

    neighbour_stands : (k : ℕ) → Neighbour t s i k → Stands Q i k
    neighbour_stands k h = stands s i k (used_is t i u) (used_is t k h.used) h.touches

    stands_neighbour : (k : ℕ) → Stands Q i k → Neighbour t s i k
    stands_neighbour k h = record { used = is_used t k (seen_is s k h.is); touches = touches s i k (used_is t i u) h }

    pub neighbours_listed : (L : List ℕ) → Neighbours t s i L → Listed Q i L
    neighbours_listed L l = record {
      each = λ n h. neighbour_stands (entry L n) (l.each n h);
      all = λ k h. let (n, o, e) = l.all k (stands_neighbour k h) in record { place = n; below = o; is = e };
      order = λ m n h o. after s (entry L m) (entry L n) (used_is t _ (l.each m (omega arith)).used) (used_is t _ (l.each n o).used) (l.order m n h o);
    }

    listed_neighbours : (L : List ℕ) → Listed Q i L → Neighbours t s i L
    listed_neighbours L l = record {
      each = λ n h. stands_neighbour (entry L n) (l.each n h);
      all = λ k h. let e = l.all k (neighbour_stands k h) in (e.place, e.below, e.is);
      order = λ m n h o. before s (entry L m) (entry L n) (seen_is s _ (l.each m (omega arith)).is) (seen_is s _ (l.each n o).is) (l.order m n h o);
    }

    -- a tile has one list of neighbours on a side
    pub neighbours_some : (L : List ℕ) × Neighbours t s i L
    neighbours_some = let (L, l) = listed_some Q Z good i sees_is in (L, listed_neighbours L l)

    pub neighbours_one : (L M : List ℕ) → Neighbours t s i L → Neighbours t s i M → L ≡ M
    neighbours_one L M l m = listed_one Q Z good i sees_is L M (neighbours_listed L l) (neighbours_listed M m)
