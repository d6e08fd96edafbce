-- Ousterhout's bound: over n solid tiles there are at most 3 n + 1 space tiles, where the tiles cover the plane exactly, no space tile
-- stands directly beside another, and no two of one span directly above each other. Assumes nothing.
use Rattle.std.specs.Prelude.{◌≡◌, Bool, not, ◌&&◌, ◌⊎◌, ℕ, zero, suc, ◌+◌, ◌-◌, ◌*◌, ◌≤◌, ◌<◌, T}
use Rattle.std.proofs.Common.{sym, ap, T_not}
use Rattle.std.proofs.Math.Logic.{inl, inr}
use native.Mathlib.Omega.{arith}
use Rattle.geometry.specs.Cases.{lt_cases, eq_cases, only_T, T_and, and_l, and_r, T_of, T_cases}
use Rattle.geometry.specs.Sums.{sum_head}
use Rattle.geometry.specs.Count.{sum_weight, rooms}
use Rattle.geometry.specs.Plane.{Plane, Is, At, Holds, WellFormed, Covered, Disjoint, hi}
use Rattle.geometry.specs.Counting.{only, count}

pub record Space (P : Plane) (solid : ℕ → Bool) (i : ℕ) : Type 0 where
  pub is : Is P i
  pub space : T (not (solid i))

-- what the strips have to be
pub record Strips (P : Plane) (solid : ℕ → Bool) : Type 0 where
  pub formed : WellFormed P
  pub covered : Covered P
  pub disjoint : Disjoint P
  pub beside : (i j y : ℕ) → Space P solid i → P.b i ≤ y → y < P.t i → Holds P j (P.r i) y → T (solid j)
  pub merged : (i j : ℕ) → Space P solid i → Space P solid j → P.l i ≡ P.l j → P.r i ≡ P.r j → P.t i ≡ P.b j → ⊥

abbrev pub solids : (P : Plane) (solid : ℕ → Bool) → ℕ → Bool
solids P solid i = P.used i && solid i

abbrev pub spaces : (P : Plane) (solid : ℕ → Bool) → ℕ → Bool
spaces P solid i = P.used i && not (solid i)

-- The cells that name space tiles: the plane's upper left one; and of a solid s the one right of its upper right corner, the one left of
-- its upper left, and the one below its lower left.
abbrev Spot : Plane → ℕ → ℕ → ℕ → Type 0
Spot P i zero k = Holds P i P.lo (hi P - 1)
Spot P i (suc s) zero = Holds P i (P.r s) (P.t s - 1)
Spot P i (suc s) (suc zero) = Holds P i (P.l s - 1) (P.t s - 1)
Spot P i (suc s) (suc (suc k)) = Holds P i (P.l s) (P.b s - 1)

abbrev room : Plane → (ℕ → Bool) → ℕ → ℕ
room P solid zero = 1
room P solid (suc s) = only (solids P solid s) 3

record Same (P : Plane) (i j : ℕ) : Type 0 where
  l : P.l i ≡ P.l j
  b : P.b i ≡ P.b j
  r : P.r i ≡ P.r j
  t : P.t i ≡ P.t j

module _ (P : Plane) (solid : ℕ → Bool) (S : Strips P solid) where
  abbrev Code : ℕ → Type 0
  Code i = (s k : ℕ) × (s < suc P.R) × (k < room P solid s) × Spot P i s k

  -- two tiles with a cell in common are one
  same : (i j x y : ℕ) → Is P i → Is P j → At P i x y → At P j x y → Same P i j
  same i j x y u v h k =
      let e = S.disjoint i j x y (record { is = u; at = h }) (record { is = v; at = k }) in
      record { l = ap P.l e; b = ap P.b e; r = ap P.r e; t = ap P.t e }

  -- the tile left of a space tile ends where that begins, and is solid
  pub left_side : (i s y : ℕ) → Space P solid i → P.lo < P.l i → P.b i ≤ y → y < P.t i → Holds P s (P.l i - 1) y → (P.r s ≡ P.l i) × T (solid s)
  left_side i s y u g h k v =
      let w = S.formed i u.is in
      let e : P.r s ≡ P.l i =
      lt_cases (P.l i) (P.r s) (λ q. omega (arith, same i s (P.l i) y u.is v.is (omega arith) (omega arith))) (λ q. omega arith) in (
        e,
        T_of (solid s) (λ n. T_not (solid i) u.space
            (S.beside s i y (record { is = v.is; space = n }) (omega arith) (omega arith) (record { is = u.is; at = omega arith }))),
      )

  -- the tile right of a tile begins where that ends
  pub right_side : (i s y : ℕ) → Is P i → P.b i ≤ y → y < P.t i → Holds P s (P.r i) y → P.l s ≡ P.r i
  right_side i s y u h k v =
      let w = S.formed i u in
      lt_cases (P.l s) (P.r i) (λ q. omega (arith, same i s (P.r i - 1) y u v.is (omega arith) (omega arith))) (λ q. omega arith)

  -- a tile above tile i begins where that ends
  pub above : (i s x : ℕ) → Is P i → P.l i ≤ x → x < P.r i → Holds P s x (P.t i) → P.b s ≡ P.t i
  above i s x u h k v =
      let w = S.formed i u in
      lt_cases (P.b s) (P.t i) (λ q. omega (arith, same i s x (P.t i - 1) u v.is (omega arith) (omega arith))) (λ q. omega arith)

  named : (i s k : ℕ) → Is P s → T (solid s) → k < 3 → Spot P i (suc s) k → Code i
  named i s k u t h v = (suc s, k, omega (arith, u.below), omega (arith, only_T (solids P solid s) {n = 3} (T_and (P.used s) (solid s) u.used t)), v)

  -- the tile beside an end of i's top row goes on above it, unless i is named by that end
  LeftOn : ℕ → Type 0
  LeftOn i = P.lo < P.l i → (s : ℕ) × Holds P s (P.l i - 1) (P.t i) × (P.r s ≡ P.l i)

  RightOn : ℕ → Type 0
  RightOn i = P.r i < hi P → (s : ℕ) × Holds P s (P.r i) (P.t i) × (P.l s ≡ P.r i)

  by_left : (i : ℕ) → Space P solid i → Code i ⊎ LeftOn i
  unfolding LeftOn
  by_left i u =
      let w = S.formed i u.is in
      lt_cases P.lo (P.l i)
      (λ g.
      let (s, v) = S.covered (P.l i - 1) (P.t i - 1) (omega arith) in
      let (e, o) = left_side i s (P.t i - 1) u g (omega arith) (omega arith) v in
      eq_cases (P.t s) (P.t i)
      (λ q. inl (named i s 0 v.is o (omega arith) (record { is = u.is; at = omega arith })))
      (λ q. inr (λ g. (s, record { is = v.is; at = omega arith }, e))))
      (λ g. inr (λ g'. absurd (omega arith)))

  by_right : (i : ℕ) → Space P solid i → Code i ⊎ RightOn i
  unfolding RightOn
  by_right i u =
      let w = S.formed i u.is in
      lt_cases (P.r i) (hi P)
      (λ g.
      let (s, v) = S.covered (P.r i) (P.t i - 1) (omega arith) in
      let e = right_side i s (P.t i - 1) u.is (omega arith) (omega arith) v in
      let o = S.beside i s (P.t i - 1) u (omega arith) (omega arith) v in
      eq_cases (P.t s) (P.t i)
      (λ q. inl (named i s 1 v.is o (omega arith) (record { is = u.is; at = omega arith })))
      (λ q. inr (λ g. (s, record { is = v.is; at = omega arith }, e))))
      (λ g. inr (λ g'. absurd (omega arith)))

  -- where the neighbours go on above i, the tile above i's first cell starts with i, and if it is a space tile ends before i
  first_left : (i a : ℕ) → Space P solid i → LeftOn i → Holds P a (P.l i) (P.t i) → P.l a ≡ P.l i
  unfolding LeftOn
  first_left i a u on v =
      let w = S.formed a v.is in
      lt_cases (P.l a) (P.l i)
      (λ q. let (s, k, e) = on (omega arith) in omega (arith, same a s (P.l i - 1) (P.t i) v.is k.is (omega arith) k.at))
      (λ q. omega arith)

  first_right : (i a : ℕ) → Space P solid i → RightOn i → Space P solid a → P.l a ≡ P.l i → P.b a ≡ P.t i → P.t i < hi P → P.r a < P.r i
  unfolding RightOn
  first_right i a u on v la ba g =
      let w = S.formed i u.is in
      let z = S.formed a v.is in
      lt_cases (P.r a) (P.r i) (λ q. q)
      (λ q. lt_cases (P.r i) (P.r a)
      (λ q'. let (s, k, e) = on (omega arith) in omega (arith, same a s (P.r i) (P.t i) v.is k.is (omega arith) k.at))
      (λ q'. absurd (S.merged i a u v (sym la) (omega arith) (sym ba))))

  -- and a solid that begins above i, at i's first cell or right of that tile, names i
  second : (i a : ℕ) → Space P solid i → Space P solid a → P.l a ≡ P.l i → P.b a ≡ P.t i → P.t i < hi P → P.r a < P.r i → Code i
  second i a u v la ba g ra =
      let w = S.formed i u.is in
      let z = S.formed a v.is in
      let (s, k) = S.covered (P.r a) (P.t i) (omega arith) in
      let e : P.l s ≡ P.r a = right_side a s (P.t i) v.is (omega arith) (omega arith) k in
      let d : P.b s ≡ P.t i = above i s (P.r a) u.is (omega arith) (omega arith) k in
      named i s 2 k.is (S.beside a s (P.t i) v (omega arith) (omega arith) k) (omega arith) (record { is = u.is; at = omega arith })

  by_above : (i : ℕ) → Space P solid i → LeftOn i → RightOn i → P.t i < hi P → Code i
  by_above i u lon ron g =
      let w = S.formed i u.is in
      let (a, v) = S.covered (P.l i) (P.t i) (omega arith) in
      let ba : P.b a ≡ P.t i = above i a (P.l i) u.is (omega arith) (omega arith) v in
      let la : P.l a ≡ P.l i = first_left i a u lon v in
      T_cases (solid a)
      (λ o. named i a 2 v.is o (omega arith) (record { is = u.is; at = omega arith }))
      (λ n. let z : Space P solid a = record { is = v.is; space = n } in second i a u z la ba g (first_right i a u ron z la ba g))

  code : (i : ℕ) → Space P solid i → Code i
  unfolding LeftOn RightOn
  code i u = go (by_left i u) (by_right i u)
    where
      go : Code i ⊎ LeftOn i → Code i ⊎ RightOn i → Code i
      go (inl c) q = c
      go (inr p) (inl c) = c
      go (inr p) (inr q) =
          let w = S.formed i u.is in
          lt_cases (P.t i) (hi P) (by_above i u p q)
          (λ g. lt_cases P.lo (P.l i)
          (λ k. let (s, v, e) = p k in absurd (omega (arith, S.formed s v.is, v.at)))
          (λ k. (0, 0, omega arith, omega arith, record { is = u.is; at = omega arith })))

  spot_one : (i j s k : ℕ) → Spot P i s k → Spot P j s k → i ≡ j
  spot_one i j zero k = S.disjoint i j _ _
  spot_one i j (suc s) zero = S.disjoint i j _ _
  spot_one i j (suc s) (suc zero) = S.disjoint i j _ _
  spot_one i j (suc s) (suc (suc k)) = S.disjoint i j _ _

  pub three_n_plus_one : count P.R (spaces P solid) ≤ 3 * count P.R (solids P solid) + 1
  three_n_plus_one =
      omega (
        arith,
        sum_weight P.R 3 (solids P solid),
        sum_head P.R (room P solid),
        rooms P.R (suc P.R) (spaces P solid) (room P solid) (Spot P)
            (λ i h t. code i (record { is = record { below = h; used = and_l (P.used i) (not (solid i)) t }; space = and_r (P.used i) (not (solid i)) t }))
            spot_one,
      )
