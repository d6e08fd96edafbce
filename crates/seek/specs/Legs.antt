-- The two legs of a search for a cell: up along rt, or down along lb, until a tile is met that ends over the row, or does not begin over it.
-- What holds at a leg's start and is kept by each step holds at its end. Assumes nothing.
use Rattle.std.specs.Prelude.{◌≡◌, List, ℕ, ◌≤◌, ◌<◌, ℤ}
use Rattle.std.proofs.Common.{sym, subst}
use Rattle.geometry.specs.Picture.{LOW, HIGH}
use Rattle.geometry.specs.Find.{AtLeft, AtRight, left_ends, right_ends}
use Rattle.table.specs.Words.{num, LEFT, BOTTOM, RIGHT, TOP, TR, RT, BL, LB}
use Rattle.table.specs.Forms.{plane_in, stitches_in, link, Forms}
use Rattle.seek.specs.Find.{IsIn, Row, Under, CrossedLeft, CrossedRight, sinks, starts_left, goes_up, starts_right, goes_down}

-- tile k is met on the way up, or down, from another
pub data Upward (t : List ℤ) (from y : ℕ) : ℕ → Type 0 where
  here : {k : ℕ} → k ≡ from → Upward t from y k
  up : {k : ℕ} (j : ℕ) → Upward t from y j → num t j TOP ≤ y → k ≡ link (num t j RT) → Upward t from y k

pub data Downward (t : List ℤ) (from y : ℕ) : ℕ → Type 0 where
  here : {k : ℕ} → k ≡ from → Downward t from y k
  down : {k : ℕ} (j : ℕ) → Downward t from y j → y < num t j BOTTOM → k ≡ link (num t j LB) → Downward t from y k

-- the way's end
pub record Climbed (t : List ℤ) (from y k : ℕ) : Type 0 where
  pub is : IsIn t k
  pub way : Upward t from y k
  pub top : y < num t k TOP

pub record Descended (t : List ℤ) (from y k : ℕ) : Type 0 where
  pub is : IsIn t k
  pub way : Downward t from y k
  pub bottom : num t k BOTTOM ≤ y

module _ (t : List ℤ) (from y : ℕ) (P : ℕ → Type 0) (start : P from) where
  pub upward_keeps : ((j : ℕ) → P j → num t j TOP ≤ y → P (link (num t j RT))) → (k : ℕ) → Upward t from y k → P k
  upward_keeps step k (here e) = subst P (sym e) start
  upward_keeps step k (up j w h e) = subst P (sym e) (step j (upward_keeps step j w) h)

  pub downward_keeps : ((j : ℕ) → P j → y < num t j BOTTOM → P (link (num t j LB))) → (k : ℕ) → Downward t from y k → P k
  downward_keeps step k (here e) = subst P (sym e) start
  downward_keeps step k (down j w h e) = subst P (sym e) (step j (downward_keeps step j w) h)

module _ (t : List ℤ) (f : Forms t) (y : ℕ) where
  -- up and then down leads to a tile that has the row
  pub row_reached : (from k r : ℕ) → LOW ≤ y → Climbed t from y k → Descended t k y r → Row t r y
  row_reached from k r l c d =
      let u = downward_keeps t k y (λ j. Under t j y) (record { is = c.is; top = c.top }) (λ j u o. let s = sinks t f j y u.is o l in record { is = s.is; top = s.top }) r d.way in
      record { is = u.is; bottom = d.bottom; top = u.top }

  -- across a side of tile a, which has the row: the first tile there is named by a stitch, and each that is met lies at that side
  module _ (a : ℕ) (u : Row t a y) where
    pub crossed_left : (k : ℕ) → LOW < num t a LEFT → Climbed t (link (num t a BL)) y k → CrossedLeft t a k y
    crossed_left k h c = left_ends (plane_in t) (stitches_in t) f.good a k y
        (upward_keeps t (link (num t a BL)) y (λ j. AtLeft (plane_in t) a j y) (starts_left t f a y u h) (λ j s o. (goes_up t f a j y u s o).0) k c.way) c.top

    pub crossed_right : (k : ℕ) → num t a RIGHT < HIGH → Descended t (link (num t a TR)) y k → CrossedRight t a k y
    crossed_right k h d = right_ends (plane_in t) (stitches_in t) f.good a k y
        (downward_keeps t (link (num t a TR)) y (λ j. AtRight (plane_in t) a j y) (starts_right t f a y u h) (λ j s o. (goes_down t f a j y u s o).0) k d.way)
        d.bottom
