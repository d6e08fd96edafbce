-- Rectangular tiles over a square plane of cells: when they cover it exactly. Assumes nothing.
use Rattle.std.specs.Prelude.{◌≡◌, Bool, true, false, ℕ, zero, suc, ◌+◌, ◌-◌, ◌*◌, ◌≤◌, ◌<◌, T}
use Rattle.std.proofs.Common.{sym, ap₂, ◌∙◌, subst, subst₂, le_refl, mul-zero, mul-one, mul-le-mul, add-sub_of_le, add-zero, arith}
use Rattle.geometry.specs.Cases.{lt_cases, only_T, only_le, T_only}
use Rattle.geometry.specs.Sums.{sum_ext, sum_mono, sum_const, sum_mul, sum_mul_right, sum_swap, sum_tight, sum_one, sum_le_one, sum_inb, inb, sum_prefix}
use Rattle.geometry.specs.Counting.{only, sum_to}

-- R tiles over the cells (x, y) with lo ≤ x < lo + W and lo ≤ y < lo + W
pub record Plane : Type 0 where
  pub R : ℕ
  pub lo : ℕ
  pub W : ℕ
  pub used : ℕ → Bool
  pub l : ℕ → ℕ
  pub b : ℕ → ℕ
  pub r : ℕ → ℕ
  pub t : ℕ → ℕ

abbrev pub hi : Plane → ℕ
hi P = P.lo + P.W

pub record Cell (P : Plane) (x y : ℕ) : Type 0 where
  pub x_lo : P.lo ≤ x
  pub x_hi : x < P.lo + P.W
  pub y_lo : P.lo ≤ y
  pub y_hi : y < P.lo + P.W

-- tile i is one of the R tiles, and used
pub record Is (P : Plane) (i : ℕ) : Type 0 where
  pub below : i < P.R
  pub used : T (P.used i)

-- the cell (x, y) lies in tile i's rectangle: numbers alone, so that `omega` proves it
pub record At (P : Plane) (i x y : ℕ) : Type 0 where
  pub left : P.l i ≤ x
  pub right : x < P.r i
  pub bottom : P.b i ≤ y
  pub top : y < P.t i

pub record Holds (P : Plane) (i x y : ℕ) : Type 0 where
  pub is : Is P i
  pub at : At P i x y

pub record Formed (P : Plane) (i : ℕ) : Type 0 where
  pub x_lo : P.lo ≤ P.l i
  pub wide : P.l i < P.r i
  pub x_hi : P.r i ≤ P.lo + P.W
  pub y_lo : P.lo ≤ P.b i
  pub high : P.b i < P.t i
  pub y_hi : P.t i ≤ P.lo + P.W

abbrev pub WellFormed : Plane → Type 0
WellFormed P = (i : ℕ) → Is P i → Formed P i

abbrev pub Held : Plane → ℕ → ℕ → Type 0
Held P x y = (i : ℕ) × Holds P i x y

abbrev pub Covered : Plane → Type 0
Covered P = (x y : ℕ) → Cell P x y → Held P x y

abbrev pub Disjoint : Plane → Type 0
Disjoint P = (i j x y : ℕ) → Holds P i x y → Holds P j x y → i ≡ j

-- the cells that the used tiles take, each tile by itself
unfoldable pub area : Plane → ℕ
area P = sum_to P.R (λ i. only (P.used i) ((P.r i - P.l i) * (P.t i - P.b i)))

pos_left : (m n : ℕ) → 1 ≤ m * n → 1 ≤ m
pos_left zero n h = omega arith
pos_left (suc m) n h = omega arith

-- a positive sum has a positive term
some_term : (n : ℕ) (f : ℕ → ℕ) → 1 ≤ sum_to n f → (i : ℕ) × (i < n) × (1 ≤ f i)
unfolding sum_to
some_term zero f h = absurd (omega arith)
some_term (suc n) f h =
    lt_cases 0 (f n) (λ k. (n, le_refl (suc n), k)) (λ k. let (i, l, p) = some_term n f (omega arith) in (i, omega arith, p))

module _ (P : Plane) where
  -- 1 where tile i holds the cell, and otherwise 0
  abbrev hold : ℕ → ℕ → ℕ → ℕ
  hold i x y = only (P.used i) (inb (P.l i) (P.r i) x * inb (P.b i) (P.t i) y)

  holds_hold : (i x y : ℕ) → Holds P i x y → hold i x y ≡ 1
  holds_hold i x y h =
      let e : inb (P.l i) (P.r i) x ≡ 1 = omega arith in
      let d : inb (P.b i) (P.t i) y ≡ 1 = omega arith in
      only_T (P.used i) h.is.used ∙ ap₂ ◌*◌ e d

  -- tile i's cells, counted in the plane
  hold_area : (i : ℕ) → (Is P i → Formed P i) → i < P.R
      → sum_to P.W (λ y. sum_to P.W (λ x. hold i (P.lo + x) (P.lo + y))) ≡ only (P.used i) ((P.r i - P.l i) * (P.t i - P.b i))
  hold_area i f h = go (P.used i) (λ u. f (record { below = h; used = u }))
    where
      go : (u : Bool) → (T u → Formed P i)
          → sum_to P.W (λ y. sum_to P.W (λ x. only u (inb (P.l i) (P.r i) (P.lo + x) * inb (P.b i) (P.t i) (P.lo + y))))
          ≡ only u ((P.r i - P.l i) * (P.t i - P.b i))
      go false f = sum_ext P.W (λ y k. sum_const P.W 0) ∙ sum_const P.W (P.W * 0) ∙ rw (mul-zero, mul-zero)
      go true f =
          let w = f tt in
          sum_ext P.W (λ y k. sum_mul_right P.W (inb (P.b i) (P.t i) (P.lo + y)) (λ x. inb (P.l i) (P.r i) (P.lo + x)))
          ∙ sum_mul P.W (sum_to P.W (λ x. inb (P.l i) (P.r i) (P.lo + x))) (λ y. inb (P.b i) (P.t i) (P.lo + y))
          ∙ ap₂ ◌*◌ (sum_inb P.W P.lo (P.l i) (P.r i) (omega arith) (omega arith) (omega arith))
          (sum_inb P.W P.lo (P.b i) (P.t i) (omega arith) (omega arith) (omega arith))

  abbrev holders : ℕ → ℕ → ℕ
  holders x y = sum_to P.R (λ i. hold i x y)

  holders_area : WellFormed P → sum_to P.W (λ y. sum_to P.W (λ x. holders (P.lo + x) (P.lo + y))) ≡ area P
  unfolding area
  holders_area f =
      sum_ext P.W (λ y k. sum_swap P.W P.R (λ x i. hold i (P.lo + x) (P.lo + y)))
      ∙ sum_swap P.W P.R (λ y i. sum_to P.W (λ x. hold i (P.lo + x) (P.lo + y)))
      ∙ sum_ext P.R (λ i h. hold_area i (f i) h)

  held_holders : (x y : ℕ) → Held P x y → 1 ≤ holders x y
  held_holders x y (i, h) = omega (arith, sum_prefix (λ j. hold j x y) i P.R h.is.below, holds_hold i x y h)

  -- a cell that a well-formed tile holds is of the plane
  pub in_plane : WellFormed P → (i x y : ℕ) → Holds P i x y → Cell P x y
  in_plane f i x y h = let w = f i h.is in omega arith

  once : WellFormed P → Covered P → area P ≤ P.W * P.W → (x y : ℕ) → x < P.W → y < P.W → holders (P.lo + x) (P.lo + y) ≤ 1
  once f c a x y hx hy =
      let some : (x y : ℕ) → x < P.W → y < P.W → 1 ≤ holders (P.lo + x) (P.lo + y) =
      λ x y hx hy. held_holders (P.lo + x) (P.lo + y) (c (P.lo + x) (P.lo + y) (omega arith)) in
      let row : (y : ℕ) → y < P.W → P.W ≤ sum_to P.W (λ x. holders (P.lo + x) (P.lo + y)) =
      λ y hy. omega (arith, sum_const P.W 1, sum_mono P.W (λ x hx. some x y hx hy)) in
      let full : sum_to P.W (λ x. holders (P.lo + x) (P.lo + y)) ≤ P.W =
      sum_tight P.W row (omega (arith, holders_area f, a, sum_const P.W P.W)) y hy in
      sum_tight P.W (λ x hx. some x y hx hy) (omega (arith, full, sum_const P.W 1)) x hx

  -- tiles that cover the plane, and have no more cells than the plane, are disjoint
  pub exact_cover : WellFormed P → Covered P → area P ≤ P.W * P.W → Disjoint P
  exact_cover f c a i j x y h k =
      let p = in_plane f i x y h in
      let ex : P.lo + (x - P.lo) ≡ x = add-sub_of_le p.x_lo in
      let ey : P.lo + (y - P.lo) ≡ y = add-sub_of_le p.y_lo in
      let o : holders x y ≤ 1 = subst₂ (λ x y. holders x y ≤ 1) ex ey (once f c a (x - P.lo) (y - P.lo) (omega arith) (omega arith)) in
      sum_one P.R (λ n. hold n x y) o h.is.below k.is.below (omega (arith, holds_hold i x y h)) (omega (arith, holds_hold j x y k))

  hold_holds : (i x y : ℕ) → i < P.R → 1 ≤ hold i x y → Holds P i x y
  hold_holds i x y h k =
      let u = T_only (P.used i) (inb (P.l i) (P.r i) x * inb (P.b i) (P.t i) y) k in
      let m : 1 ≤ inb (P.l i) (P.r i) x * inb (P.b i) (P.t i) y = omega (arith, only_T (P.used i) {n = inb (P.l i) (P.r i) x * inb (P.b i) (P.t i) y} u) in
      let ml = pos_left (inb (P.l i) (P.r i) x) (inb (P.b i) (P.t i) y) m in
      let mr = pos_left (inb (P.b i) (P.t i) y) (inb (P.l i) (P.r i) x) (omega arith) in
      record { is = record { below = h; used = u }; at = record { left = omega arith; right = omega arith; bottom = omega arith; top = omega arith } }

  hold_le : (i x y : ℕ) → hold i x y ≤ 1
  hold_le i x y =
      omega (
        arith,
        only_le (P.used i) (inb (P.l i) (P.r i) x * inb (P.b i) (P.t i) y),
        mul-le-mul {n₁ = inb (P.l i) (P.r i) x} {m₁ = inb (P.b i) (P.t i) y} {n₂ = 1} {m₂ = 1} (omega arith) (omega arith),
      )

  few_holders : Disjoint P → (x y : ℕ) → holders x y ≤ 1
  few_holders d x y =
      sum_le_one P.R (λ i. hold i x y) (λ i h. hold_le i x y) (λ i j h k u v. d i j x y (hold_holds i x y h u) (hold_holds j x y k v))

  -- and the other way: the area of tiles that cover the plane and are disjoint
  pub exact_area : WellFormed P → Covered P → Disjoint P → area P ≡ P.W * P.W
  exact_area f c d =
      sym (holders_area f) ∙ sum_ext P.W (λ y hy. sum_ext P.W (λ x hx. one (P.lo + x) (P.lo + y) (omega arith)) ∙ sum_const P.W 1)
      ∙ sum_const P.W (P.W * 1) ∙ rw mul-one
    where
      one : (x y : ℕ) → Cell P x y → holders x y ≡ 1
      one x y p = omega (arith, held_holders x y (c x y p), few_holders d x y)

  full : WellFormed P → Disjoint P → area P ≡ P.W * P.W → (x y : ℕ) → x < P.W → y < P.W → 1 ≤ holders (P.lo + x) (P.lo + y)
  full f d a x y hx hy =
      let few : (y x : ℕ) → x < P.W → holders (P.lo + x) (P.lo + y) ≤ 1 = λ y x hx. few_holders d (P.lo + x) (P.lo + y) in
      let row : (y : ℕ) → y < P.W → sum_to P.W (λ x. holders (P.lo + x) (P.lo + y)) ≤ P.W =
      λ y hy. omega (arith, sum_const P.W 1, sum_mono P.W (few y)) in
      let whole : P.W ≤ sum_to P.W (λ x. holders (P.lo + x) (P.lo + y)) =
      sum_tight P.W row (omega (arith, holders_area f, a, sum_const P.W P.W)) y hy in
      sum_tight P.W (few y) (omega (arith, whole, sum_const P.W 1)) x hx

  -- tiles that are disjoint, and have as many cells as the plane, cover it
  pub cover_from_area : WellFormed P → Disjoint P → area P ≡ P.W * P.W → Covered P
  cover_from_area f d a x y p =
      let ex : P.lo + (x - P.lo) ≡ x = add-sub_of_le p.x_lo in
      let ey : P.lo + (y - P.lo) ≡ y = add-sub_of_le p.y_lo in
      let o : 1 ≤ holders x y = subst₂ (λ x y. 1 ≤ holders x y) ex ey (full f d a (x - P.lo) (y - P.lo) (omega arith) (omega arith)) in
      let (i, h, k) = some_term P.R (λ n. hold n x y) o in
      (i, hold_holds i x y h k)

  -- the plane is covered if its left column is, and beside each tile's right side
  pub cover_from_sides : ((y : ℕ) → P.lo ≤ y → y < hi P → Held P P.lo y)
      → ((i y : ℕ) → Is P i → P.r i < hi P → P.b i ≤ y → y < P.t i → Held P (P.r i) y) → Covered P
  cover_from_sides left side x y p =
      subst (λ x. Held P x y) (add-sub_of_le p.x_lo) (row (x - P.lo) (omega arith))
    where
      next : (k : ℕ) → P.lo + suc k < hi P → Held P (P.lo + k) y → Held P (P.lo + suc k) y
      next k h (i, v) =
          lt_cases (P.lo + suc k) (P.r i)
          (λ q. (i, record { is = v.is; at = omega arith }))
          (λ q. let e : P.r i ≡ P.lo + suc k = omega arith in
          subst (λ x. Held P x y) e (side i y v.is (omega arith) v.at.bottom v.at.top))

      row : (k : ℕ) → P.lo + k < hi P → Held P (P.lo + k) y
      row zero h = rw add-zero (left y p.y_lo p.y_hi)
      row (suc k) h = next k h (row k (omega arith))
