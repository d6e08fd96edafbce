-- The plane seen from its four sides. `swap` exchanges x and y, and `turn` is half a turn: what is proved of a tile's top side holds by
-- `swap` of its right side, by `turn` of its bottom side, and by both of its left side. Assumes nothing.
use Rattle.std.specs.Prelude.{ℕ, ◌+◌, ◌-◌, ◌≤◌, ◌<◌}
use Rattle.std.proofs.Common.{arith}
use Rattle.geometry.specs.Plane.{Plane, Cell, Is, Holds, WellFormed}
use Rattle.geometry.specs.Stitches.{Stitches, Up, Down, Good}
use Rattle.geometry.specs.Picture.{Side, top, right, bottom, left}

abbrev pub swap : Plane → Plane
swap P = record { R = P.R; lo = P.lo; W = P.W; used = P.used; l = P.b; b = P.l; r = P.t; t = P.r }

abbrev pub swap_stitches : Stitches → Stitches
swap_stitches Z = record { none = Z.none; tr = Z.rt; rt = Z.tr; bl = Z.lb; lb = Z.bl }

pub swap_is : (P : Plane) (i : ℕ) → Is P i → Is (swap P) i
swap_is P i u = record { below = u.below; used = u.used }

pub is_swap : (P : Plane) (i : ℕ) → Is (swap P) i → Is P i
is_swap P i u = record { below = u.below; used = u.used }

pub swap_holds : (P : Plane) (i x y : ℕ) → Holds P i x y → Holds (swap P) i y x
swap_holds P i x y h = record { is = swap_is P i h.is; at = omega arith }

pub holds_swap : (P : Plane) (i x y : ℕ) → Holds (swap P) i x y → Holds P i y x
holds_swap P i x y h = record { is = is_swap P i h.is; at = omega arith }

pub swap_up : (P : Plane) (none n x y : ℕ) → Up P none n x y → Down (swap P) none n y x
swap_up P none n x y s = record {
  inside = λ h k. let v = s.inside k h in record { is = swap_is P n v.is; at = omega arith };
  right = s.over;
  under = s.left;
}

pub swap_down : (P : Plane) (none n x y : ℕ) → Down P none n x y → Up (swap P) none n y x
swap_down P none n x y s = record {
  inside = λ h k. let v = s.inside k h in record { is = swap_is P n v.is; at = omega arith };
  left = s.under;
  over = s.right;
}

-- and back, since swapping twice is nothing: `good_swap (swap P) (swap_stitches Z)`
pub good_swap : (P : Plane) (Z : Stitches) → Good P Z → Good (swap P) (swap_stitches Z)
good_swap P Z g = record {
  formed = λ i u. let w = g.formed i (is_swap P i u) in omega arith;
  covered = λ x y c. let (i, h) = g.covered y x (omega arith) in (i, swap_holds P i y x h);
  disjoint = λ i j x y h k. g.disjoint i j y x (holds_swap P i x y h) (holds_swap P j x y k);
  none = g.none;
  rt = λ i u. swap_down P Z.none (Z.tr i) (P.r i) (P.t i) (g.tr i (is_swap P i u));
  bl = λ i u. swap_down P Z.none (Z.lb i) (P.l i) (P.b i) (g.lb i (is_swap P i u));
  tr = λ i u. swap_up P Z.none (Z.rt i) (P.r i) (P.t i) (g.rt i (is_swap P i u));
  lb = λ i u. swap_up P Z.none (Z.bl i) (P.l i) (P.b i) (g.bl i (is_swap P i u));
}

pub swap_good : (P : Plane) (Z : Stitches) → Good (swap P) (swap_stitches Z) → Good P Z
swap_good P Z = good_swap (swap P) (swap_stitches Z)

-- ---- half a turn: x becomes lo + hi - x, so that the plane is the same

abbrev pub opp : Plane → ℕ → ℕ
opp P x = P.lo + P.lo + P.W - x

-- to read a number seen from the other side: one `-` at a time, since `omega` stops at more than six
pub opp_lt : (P : Plane) (x y : ℕ) → opp P x < opp P y → y < x
opp_lt P x y h = omega arith

abbrev pub turn : Plane → Plane
turn P = record {
  R = P.R;
  lo = P.lo;
  W = P.W;
  used = P.used;
  l = λ i. opp P (P.r i);
  b = λ i. opp P (P.t i);
  r = λ i. opp P (P.l i);
  t = λ i. opp P (P.b i);
}

abbrev pub turn_stitches : Stitches → Stitches
turn_stitches Z = record { none = Z.none; tr = Z.bl; rt = Z.lb; bl = Z.tr; lb = Z.rt }

pub turn_is : (P : Plane) (i : ℕ) → Is P i → Is (turn P) i
turn_is P i u = record { below = u.below; used = u.used }

pub is_turn : (P : Plane) (i : ℕ) → Is (turn P) i → Is P i
is_turn P i u = record { below = u.below; used = u.used }

-- a point of the plane, its edge too
pub record Point (P : Plane) (x y : ℕ) : Type 0 where
  pub x_hi : x ≤ P.lo + P.W
  pub y_hi : y ≤ P.lo + P.W

module _ (P : Plane) (f : WellFormed P) where
  turn_holds : (i x y : ℕ) → Cell P x y → Holds P i (opp P x - 1) (opp P y - 1) → Holds (turn P) i x y
  turn_holds i x y c h = let w = f i h.is in record { is = turn_is P i h.is; at = omega arith }

  holds_turn : (i x y : ℕ) → Holds (turn P) i x y → Holds P i (opp P x - 1) (opp P y - 1)
  holds_turn i x y h = let u = is_turn P i h.is in let w = f i u in record { is = u; at = omega arith }

  pub turn_up : (none n x y : ℕ) → Point P x y → Up P none n x y → Down (turn P) none n (opp P x) (opp P y)
  turn_up none n x y p s = record {
    inside = λ h k. let v = s.inside (omega arith) (omega arith) in let w = f n v.is in record { is = turn_is P n v.is; at = omega arith };
    right = λ h. s.left (omega arith);
    under = λ h. s.over (omega arith);
  }

  pub turn_down : (none n x y : ℕ) → Point P x y → Down P none n x y → Up (turn P) none n (opp P x) (opp P y)
  turn_down none n x y p s = record {
    inside = λ h k. let v = s.inside (omega arith) (omega arith) in let w = f n v.is in record { is = turn_is P n v.is; at = omega arith };
    left = λ h. s.right (omega arith);
    over = λ h. s.under (omega arith);
  }

  -- and back
  pub up_turn : (none n x y : ℕ) → Point P x y → Up (turn P) none n (opp P x) (opp P y) → Down P none n x y
  up_turn none n x y p s = record {
    inside = λ h k.
        let v = s.inside (omega arith) (omega arith) in
        let u = is_turn P n v.is in
        let w = f n u in
        record { is = u; at = omega arith };
    right = λ h. s.left (omega arith);
    under = λ h. s.over (omega arith);
  }

pub good_turn : (P : Plane) (Z : Stitches) → Good P Z → Good (turn P) (turn_stitches Z)
good_turn P Z g = record {
  formed = λ i u. let w = g.formed i (is_turn P i u) in omega arith;
  covered = λ x y c. let (i, h) = g.covered (opp P x - 1) (opp P y - 1) (omega arith) in (i, turn_holds P g.formed i x y (omega arith) h);
  disjoint = λ i j x y h k.
      g.disjoint i j (opp P x - 1) (opp P y - 1) (holds_turn P g.formed i x y h) (holds_turn P g.formed j x y k);
  none = g.none;
  rt = λ i u. let v = is_turn P i u in let w = g.formed i v in
      turn_down P g.formed Z.none (Z.lb i) (P.l i) (P.b i) (omega arith) (g.lb i v);
  bl = λ i u. let v = is_turn P i u in let w = g.formed i v in
      turn_down P g.formed Z.none (Z.tr i) (P.r i) (P.t i) (omega arith) (g.tr i v);
  tr = λ i u. let v = is_turn P i u in let w = g.formed i v in
      turn_up P g.formed Z.none (Z.bl i) (P.l i) (P.b i) (omega arith) (g.bl i v);
  lb = λ i u. let v = is_turn P i u in let w = g.formed i v in
      turn_up P g.formed Z.none (Z.rt i) (P.r i) (P.t i) (omega arith) (g.rt i v);
}

-- ---- the four sides

abbrev pub seen : Side → Plane → Plane
seen top P = P
seen right P = swap P
seen bottom P = turn P
seen left P = turn (swap P)

abbrev pub seen_stitches : Side → Stitches → Stitches
seen_stitches top Z = Z
seen_stitches right Z = swap_stitches Z
seen_stitches bottom Z = turn_stitches Z
seen_stitches left Z = turn_stitches (swap_stitches Z)

pub good_seen : (s : Side) (P : Plane) (Z : Stitches) → Good P Z → Good (seen s P) (seen_stitches s Z)
good_seen top P Z g = g
good_seen right P Z g = good_swap P Z g
good_seen bottom P Z g = good_turn P Z g
good_seen left P Z g = good_turn (swap P) (swap_stitches Z) (good_swap P Z g)
