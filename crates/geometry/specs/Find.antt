-- The steps of a search for a cell: up or down to its row, then across a tile's left or right side. Each step moves strictly, and none passes the cell. Assumes nothing.
use Rattle.std.specs.Prelude.{◌≡◌, ℕ, ◌≤◌, ◌<◌}
use Rattle.std.proofs.Common.{arith}
use Rattle.geometry.specs.Plane.{Plane, Is, hi}
use Rattle.geometry.specs.Stitches.{Stitches, HoldsUp, HoldsDown, Good, on_top, on_left}
use Rattle.geometry.specs.Turns.{swap, swap_is, good_swap}

-- ---- to the row y

-- tile n is higher than k, and does not begin over the row
pub record Higher (P : Plane) (k n y : ℕ) : Type 0 where
  pub is : Is P n
  pub higher : P.t k < P.t n
  pub bottom : P.b n ≤ y

pub record Lower (P : Plane) (k n y : ℕ) : Type 0 where
  pub is : Is P n
  pub lower : P.b n < P.b k
  pub top : y < P.t n

-- ---- along the side of a tile a, to the row y that a has

-- tile n ends at the left side of a, and begins neither over the row nor wholly under a
pub record AtLeft (P : Plane) (a n y : ℕ) : Type 0 where
  pub is : Is P n
  pub ends : P.r n ≡ P.l a
  pub bottom : P.b n ≤ y
  pub beside : P.b a < P.t n

-- tile n begins at the right side of a, and ends neither under the row nor wholly over a
pub record AtRight (P : Plane) (a n y : ℕ) : Type 0 where
  pub is : Is P n
  pub begins : P.l n ≡ P.r a
  pub top : y < P.t n
  pub beside : P.b n < P.t a

-- tile a has the row
pub record InRow (P : Plane) (a y : ℕ) : Type 0 where
  pub is : Is P a
  pub bottom : P.b a ≤ y
  pub top : y < P.t a

-- tile k has the row, begins where the tile that was left ends, and reaches past it
pub record Crossed (P : Plane) (k y : ℕ) (Meets Beyond : Type 0) : Type 0 where
  pub row : InRow P k y
  pub meets : Meets
  pub beyond : Beyond

module _ (P : Plane) (Z : Stitches) (g : Good P Z) where
  pub climb : (k y : ℕ) → Is P k → P.t k ≤ y → y < hi P → Higher P k (Z.rt k) y
  climb k y u h in-y =
      let w = g.formed k u in
      let v = (g.rt k u).inside (omega arith) (omega arith) in
      record { is = v.is; higher = v.at.top; bottom = omega arith }

  pub sink : (k y : ℕ) → Is P k → y < P.b k → P.lo ≤ y → Lower P k (Z.lb k) y
  sink k y u h in-y =
      let w = g.formed k u in
      let v = (g.lb k u).inside (omega arith) (omega arith) in
      record { is = v.is; lower = v.at.bottom; top = omega arith }

  -- ---- leftwards: bl, then rt

  pub left_first : (a y : ℕ) → InRow P a y → P.lo < P.l a → AtLeft P a (Z.bl a) y
  left_first a y u h =
      let w = g.formed a u.is in
      let v = (g.bl a u.is).inside h (omega arith) in
      let e = on_left P g.formed g.disjoint a (Z.bl a) (P.b a) u.is v (omega arith) (omega arith) in
      record { is = v.is; ends = e; bottom = omega arith; beside = omega arith }

  pub left_next : (a k y : ℕ) → InRow P a y → AtLeft P a k y → P.t k ≤ y → AtLeft P a (Z.rt k) y × (P.t k < P.t (Z.rt k))
  left_next a k y u s h =
      let w = g.formed a u.is in
      let z = g.formed k s.is in
      let v = (g.rt k s.is).inside (omega arith) (omega arith) in
      let v' : HoldsUp P (Z.rt k) (P.l a) (P.t k) = record { is = v.is; at = omega arith } in
      let e = on_left P g.formed g.disjoint a (Z.rt k) (P.t k) u.is v' (omega arith) (omega arith) in
      (record { is = v.is; ends = e; bottom = omega arith; beside = omega arith }, v.at.top)

  -- the row is reached
  pub left_ends : (a k y : ℕ) → AtLeft P a k y → y < P.t k → Crossed P k y (P.r k ≡ P.l a) (P.l k < P.l a)
  left_ends a k y s h =
      let z = g.formed k s.is in
      record { row = record { is = s.is; bottom = s.bottom; top = h }; meets = s.ends; beyond = omega arith }

  -- ---- rightwards: tr, then lb

  -- a tile down and right of a point of a's right side begins there
  on_right : (a k y : ℕ) → Is P a → HoldsDown P k (P.r a) y → P.b a < y → y ≤ P.t a → P.l k ≡ P.r a
  on_right a k y u v h q =
      let s = good_swap P Z g in
      on_top (swap P) s.formed s.disjoint a k y (swap_is P a u) (record { is = swap_is P k v.is; at = omega arith }) h q

  pub right_first : (a y : ℕ) → InRow P a y → P.r a < hi P → AtRight P a (Z.tr a) y
  right_first a y u h =
      let w = g.formed a u.is in
      let v = (g.tr a u.is).inside h (omega arith) in
      let e = on_right a (Z.tr a) (P.t a) u.is v (omega arith) (omega arith) in
      record { is = v.is; begins = e; top = omega arith; beside = omega arith }

  pub right_next : (a k y : ℕ) → InRow P a y → AtRight P a k y → y < P.b k → AtRight P a (Z.lb k) y × (P.b (Z.lb k) < P.b k)
  right_next a k y u s h =
      let w = g.formed a u.is in
      let z = g.formed k s.is in
      let v = (g.lb k s.is).inside (omega arith) (omega arith) in
      let v' : HoldsDown P (Z.lb k) (P.r a) (P.b k) = record { is = v.is; at = omega arith } in
      let e = on_right a (Z.lb k) (P.b k) u.is v' (omega arith) (omega arith) in
      (record { is = v.is; begins = e; top = omega arith; beside = omega arith }, v.at.bottom)

  pub right_ends : (a k y : ℕ) → AtRight P a k y → P.b k ≤ y → Crossed P k y (P.l k ≡ P.r a) (P.r a < P.r k)
  right_ends a k y s h =
      let z = g.formed k s.is in
      record { row = record { is = s.is; bottom = h; top = s.top }; meets = s.begins; beyond = omega arith }
