-- Corner stitches over numbered tiles: what they name, and where tiles of an exact cover lie that share a corner or a line. Assumes nothing.
use Rattle.std.specs.Prelude.{◌≡◌, ℕ, ◌-◌, ◌≤◌, ◌<◌}
use Rattle.std.proofs.Common.{ap, arith}
use Rattle.geometry.specs.Cases.{lt_cases}
use Rattle.geometry.specs.Plane.{Plane, Is, At, WellFormed, Covered, Disjoint, hi}

-- A stitch is a tile's number, or `none`, which is no tile's. At a tile's upper right corner it has `rt`, the tile up and left of the corner,
-- and `tr`, the tile down and right of it; at its lower left corner `bl`, up and left, and `lb`, down and right.
pub record Stitches : Type 0 where
  pub none : ℕ
  pub tr : ℕ → ℕ
  pub rt : ℕ → ℕ
  pub bl : ℕ → ℕ
  pub lb : ℕ → ℕ

-- tile n's rectangle has the cell up and left of the point (x, y); the cell down and right of it: numbers alone
pub record UpAt (P : Plane) (n x y : ℕ) : Type 0 where
  pub left : P.l n < x
  pub right : x ≤ P.r n
  pub bottom : P.b n ≤ y
  pub top : y < P.t n

pub record DownAt (P : Plane) (n x y : ℕ) : Type 0 where
  pub left : P.l n ≤ x
  pub right : x < P.r n
  pub bottom : P.b n < y
  pub top : y ≤ P.t n

pub record HoldsUp (P : Plane) (n x y : ℕ) : Type 0 where
  pub is : Is P n
  pub at : UpAt P n x y

pub record HoldsDown (P : Plane) (n x y : ℕ) : Type 0 where
  pub is : Is P n
  pub at : DownAt P n x y

-- n names the tile up and left of (x, y), and is `none` where that cell is outside the plane
pub record Up (P : Plane) (none n x y : ℕ) : Type 0 where
  pub inside : P.lo < x → y < hi P → HoldsUp P n x y
  pub left : x ≤ P.lo → n ≡ none
  pub over : hi P ≤ y → n ≡ none

pub record Down (P : Plane) (none n x y : ℕ) : Type 0 where
  pub inside : x < hi P → P.lo < y → HoldsDown P n x y
  pub right : hi P ≤ x → n ≡ none
  pub under : y ≤ P.lo → n ≡ none

-- the tiles cover the plane exactly, and every stitch is right
pub record Good (P : Plane) (Z : Stitches) : Type 0 where
  pub formed : WellFormed P
  pub covered : Covered P
  pub disjoint : Disjoint P
  pub none : P.R ≤ Z.none
  pub rt : (i : ℕ) → Is P i → Up P Z.none (Z.rt i) (P.r i) (P.t i)
  pub bl : (i : ℕ) → Is P i → Up P Z.none (Z.bl i) (P.l i) (P.b i)
  pub tr : (i : ℕ) → Is P i → Down P Z.none (Z.tr i) (P.r i) (P.t i)
  pub lb : (i : ℕ) → Is P i → Down P Z.none (Z.lb i) (P.l i) (P.b i)

-- ---- geometry of an exact cover

pub record Same (P : Plane) (i j : ℕ) : Type 0 where
  pub number : i ≡ j
  pub l : P.l i ≡ P.l j
  pub b : P.b i ≡ P.b j
  pub r : P.r i ≡ P.r j
  pub t : P.t i ≡ P.t j

pub same_tile : (P : Plane) (i j : ℕ) → i ≡ j → Same P i j
same_tile P i j e = record { number = e; l = ap P.l e; b = ap P.b e; r = ap P.r e; t = ap P.t e }

module _ (P : Plane) (f : WellFormed P) (d : Disjoint P) where
  -- two tiles with a cell in common are one
  pub same : (i j x y : ℕ) → Is P i → Is P j → At P i x y → At P j x y → Same P i j
  same i j x y u v h k = same_tile P i j (d i j x y (record { is = u; at = h }) (record { is = v; at = k }))

  pub up_one : (i j x y : ℕ) → HoldsUp P i x y → HoldsUp P j x y → i ≡ j
  up_one i j x y h k = (same i j (x - 1) y h.is k.is (omega arith) (omega arith)).number

  pub down_one : (i j x y : ℕ) → HoldsDown P i x y → HoldsDown P j x y → i ≡ j
  down_one i j x y h k = (same i j x (y - 1) h.is k.is (omega arith) (omega arith)).number

  -- a tile up and left of a point of T's top side stands on that side
  pub on_top : (i k p : ℕ) → Is P i → HoldsUp P k p (P.t i) → P.l i < p → p ≤ P.r i → P.b k ≡ P.t i
  on_top i k p u v h g =
      let w = f i u in
      lt_cases (P.b k) (P.t i) (λ q. omega (arith, same i k (p - 1) (P.t i - 1) u v.is (omega arith) (omega arith))) (λ q. omega arith)

  -- a tile up and left of a point of i's left side ends there
  pub on_left : (i k y : ℕ) → Is P i → HoldsUp P k (P.l i) y → P.b i ≤ y → y < P.t i → P.r k ≡ P.l i
  on_left i k y u v h g =
      let w = f i u in
      lt_cases (P.l i) (P.r k) (λ q. omega (arith, same i k (P.l i) y u v.is (omega arith) (omega arith))) (λ q. omega arith)

  -- two tiles that stand on one line are apart, or one
  pub apart : {C : Type 0} (i k : ℕ) → Is P i → Is P k → P.b i ≡ P.b k → (P.r i ≤ P.l k → C) → (i ≡ k → C) → (P.r k ≤ P.l i → C) → C
  apart i k u v e before one after =
      let w = f i u in
      let z = f k v in
      lt_cases (P.l k) (P.r i)
      (λ g. lt_cases (P.l i) (P.r k)
      (λ h. lt_cases (P.l i) (P.l k)
      (λ q. one (same i k (P.l k) (P.b k) u v (omega arith) (omega arith)).number)
      (λ q. one (same i k (P.l i) (P.b k) u v (omega arith) (omega arith)).number))
      (λ h. after h))
      (λ g. before g)
