-- What the last pass looks at for each tile, over numbered tiles of an exact cover with right stitches: where every look passes, solids that touch have one
-- label, and the other way. No widest strips are needed. Assumes nothing.
use Rattle.std.specs.Prelude.{◌≡◌, ◌↔◌, not, ℕ, ◌-◌, ◌≤◌, ◌<◌, max, T}
use Rattle.std.proofs.Common.{sym, ap, ◌∙◌, subst, subst₂, arith}
use Rattle.geometry.specs.Cases.{lt_cases, T_cases}
use Rattle.geometry.specs.Picture.{Tile, Solids, In, Touch, Joined, Used}
use Rattle.geometry.specs.Plane.{Plane, Is, Holds, hi}
use Rattle.geometry.specs.Stitches.{Stitches, HoldsUp, HoldsDown, Up, Down, Good, Same, same, up_one, down_one, on_top}
use Rattle.geometry.specs.Tiling.{plane_of, solids_of, solid_used, used_is, is_used}
use Rattle.geometry.specs.Touch.{touch_sym}
use Rattle.geometry.specs.Turns.{swap, swap_stitches, swap_is, is_swap, good_swap}

-- tiles i and j have one label, where both are solids of S
abbrev pub Agree : Solids → ℕ → ℕ → Type 0
Agree S i j = In S i → In S j → (S.at i).paint.label ≡ (S.at j).paint.label

agree_sym : (S : Solids) (i j : ℕ) → Agree S i j → Agree S j i
agree_sym S i j a u v = sym (a v u)

-- the tile over k's last column is space, and ends where k ends, before the plane's end
pub record Notch (P : Plane) (Z : Stitches) (S : Solids) (k : ℕ) : Type 0 where
  pub is : Is P (Z.rt k)
  pub space : T (not (S.is (Z.rt k)))
  pub ends : P.r (Z.rt k) ≡ P.r k
  pub before : P.r k < hi P

-- The looks of tile k. The first is for k of any kind: it compares what meets at k's lower left corner.
pub record Looks (P : Plane) (Z : Stitches) (S : Solids) (k : ℕ) : Type 0 where
  pub back : Agree S (Z.bl k) (Z.lb k)
  pub right : Agree S k (Z.tr k)
  pub over : Agree S k (Z.rt k)
  pub corner : Notch P Z S k → (m : ℕ) → Holds P m (P.r k) (P.t k) → Agree S k m

-- ---- a tile u that touches i from the right, the lower right corner included, and one at the upper right corner

record RightOf (P : Plane) (i u : ℕ) : Type 0 where
  begins : P.l u ≡ P.r i
  over : P.b i ≤ P.t u
  under : P.b u < P.t i

record CornerOf (P : Plane) (i u : ℕ) : Type 0 where
  begins : P.l u ≡ P.r i
  stands : P.b u ≡ P.t i

-- the tile v at the upper left corner of u, where u ends under i's top: its look back compares i and u
record Above (P : Plane) (Z : Stitches) (i u v : ℕ) : Type 0 where
  is : Is P v
  bl : Z.bl v ≡ i
  lb : Z.lb v ≡ u

module _ (P : Plane) (Z : Stitches) (g : Good P Z) where
  same_at : (i j x y : ℕ) → Holds P i x y → Holds P j x y → Same P i j
  same_at i j x y h k = same P g.formed g.disjoint i j x y h.is k.is h.at k.at

  -- a stitch that is a tile's number is not `none`
  pub up_holds : (n x y : ℕ) → n < P.R → Up P Z.none n x y → HoldsUp P n x y
  up_holds n x y u s =
      lt_cases P.lo x
      (λ h. lt_cases y (hi P) (λ k. s.inside h k) (λ k. absurd (omega (arith, s.over k, u, g.none))))
      (λ h. absurd (omega (arith, s.left h, u, g.none)))

  down_holds : (n x y : ℕ) → n < P.R → Down P Z.none n x y → HoldsDown P n x y
  down_holds n x y u s =
      lt_cases x (hi P)
      (λ h. lt_cases P.lo y (λ k. s.inside h k) (λ k. absurd (omega (arith, s.under k, u, g.none))))
      (λ h. absurd (omega (arith, s.right h, u, g.none)))

  right_high : (i u : ℕ) → Is P i → Is P u → RightOf P i u → P.t i ≤ P.t u → Z.tr i ≡ u
  right_high i u p q a h =
      let f = g.formed i p in
      let e = g.formed u q in
      let n = (g.tr i p).inside (omega arith) (omega arith) in
      down_one P g.formed g.disjoint (Z.tr i) u (P.r i) (P.t i) n (record { is = q; at = omega arith })

  right_low : (i u : ℕ) → Is P i → Is P u → RightOf P i u → P.t u < P.t i → (v : ℕ) × Above P Z i u v
  right_low i u p q a h =
      let f = g.formed i p in
      let e = g.formed u q in
      let (v, k) = g.covered (P.l u) (P.t u) (omega arith) in
      let w = g.formed v k.is in
      let l : P.l v ≡ P.l u = lt_cases (P.l v) (P.l u)
      (λ c. absurd (omega (arith, k.at, same_at v i (P.l u - 1) (P.t u) (record { is = k.is; at = omega arith }) (record { is = p; at = omega arith }))))
      (λ c. omega arith) in
      let b : P.b v ≡ P.t u = lt_cases (P.b v) (P.t u)
      (λ c. absurd (omega (arith, k.at, same_at v u (P.l u) (P.t u - 1) (record { is = k.is; at = omega arith }) (record { is = q; at = omega arith }))))
      (λ c. omega arith) in
      (v, above v k.is l b)
    where
      above : (v : ℕ) → Is P v → P.l v ≡ P.l u → P.b v ≡ P.t u → Above P Z i u v
      above v k l b =
          let f = g.formed i p in
          let e = g.formed u q in
          let w = g.formed v k in
          record {
            is = k;
            bl = up_one P g.formed g.disjoint (Z.bl v) i (P.l v) (P.b v) ((g.bl v k).inside (omega arith) (omega arith)) (record { is = p; at = omega arith });
            lb = down_one P g.formed g.disjoint (Z.lb v) u (P.l v) (P.b v) ((g.lb v k).inside (omega arith) (omega arith)) (record { is = q; at = omega arith });
          }

  -- by two of the looks, solids at the right have i's label
  right_agree : (S : Solids) → ((k : ℕ) → Is P k → Agree S (Z.bl k) (Z.lb k)) → ((k : ℕ) → Is P k → Agree S k (Z.tr k))
      → (i u : ℕ) → Is P i → Is P u → RightOf P i u → Agree S i u
  right_agree S back right i u p q a =
      lt_cases (P.t u) (P.t i)
      (λ h. let (v, o) = right_low i u p q a h in subst₂ (Agree S) o.bl o.lb (back v o.is))
      (λ h. subst (Agree S i) (right_high i u p q a h) (right i p))

module _ (R : ℕ) (tile : ℕ → Tile) (Z : Stitches) (g : Good (plane_of R tile) Z) where
  abbrev P : Plane
  P = plane_of R tile

  abbrev S : Solids
  S = solids_of R tile

  is : (k : ℕ) → In S k → Is P k
  is k h = used_is R tile k (solid_used R tile k h.below h.is)

  module _ (looks : (k : ℕ) → Is P k → Looks P Z S k) where
    at_right : (i u : ℕ) → RightOf P i u → Agree S i u
    at_right i u a p q = right_agree P Z g S (λ k v. (looks k v).back) (λ k v. (looks k v).right) i u (is i p) (is u q) a p q

    -- the same with x and y exchanged: what touches from the top, the upper left corner included
    at_top : (i u : ℕ) → RightOf (swap P) i u → Agree S i u
    at_top i u a p q =
        right_agree (swap P) (swap_stitches Z) (good_swap P Z g) S
        (λ k v. agree_sym S (Z.bl k) (Z.lb k) (looks k (is_swap P k v)).back) (λ k v. (looks k (is_swap P k v)).over)
        i u (swap_is P i (is i p)) (swap_is P u (is u q)) a p q

    -- the tile over i's last column is u, or has i's label and u at its right, or is space that ends where i ends
    at_corner : (i u : ℕ) → CornerOf P i u → Agree S i u
    at_corner i u a p q =
        let f = g.formed i (is i p) in
        let e = g.formed u (is u q) in
        let v = (g.rt i (is i p)).inside (omega arith) (omega arith) in
        let b = on_top P g.formed g.disjoint i (Z.rt i) (P.r i) (is i p) v (omega arith) (omega arith) in
        let w = g.formed (Z.rt i) v.is in
        lt_cases (P.r i) (P.r (Z.rt i))
        (λ h.
        let c = same P g.formed g.disjoint (Z.rt i) u (P.r i) (P.t i) v.is (is u q) (omega arith) (omega arith) in
        subst (Agree S i) c.number (looks i (is i p)).over p q)
        (λ h. T_cases (S.is (Z.rt i))
        (λ s.
        let m : In S (Z.rt i) = record { below = v.is.below; is = s } in
        (looks i (is i p)).over p m ∙ at_right (Z.rt i) u (omega arith) m q)
        (λ s. (looks i (is i p)).corner (record { is = v.is; space = s; ends = omega arith; before = omega arith })
        u (record { is = is u q; at = omega arith }) p q))

    -- j touches i, and begins at or after i's right
    beyond : (i j : ℕ) → Touch (tile i) (tile j) → P.r i ≤ P.l j → Agree S i j
    beyond i j t h = lt_cases (P.b j) (P.t i) (λ c. at_right i j (omega arith)) (λ c. at_corner i j (omega arith))

    above : (i j : ℕ) → Touch (tile i) (tile j) → P.t i ≤ P.b j → Agree S i j
    above i j t h = lt_cases (P.l j) (P.r i) (λ c. at_top i j (omega arith)) (λ c. at_corner i j (omega arith))

    -- two tiles that touch share a cell, or one lies beyond or above the other
    looks_joined : Joined S
    looks_joined i j p q t =
        lt_cases (P.l j) (P.r i)
        (λ a. lt_cases (P.l i) (P.r j)
        (λ b. lt_cases (P.b j) (P.t i)
        (λ c. lt_cases (P.b i) (P.t j)
        (λ d. ap (λ k. (tile k).paint.label) (meet a b c d))
        (λ d. sym (above j i (touch_sym (tile i) (tile j) t) d q p)))
        (λ c. above i j t c p q))
        (λ b. sym (beyond j i (touch_sym (tile i) (tile j) t) b q p)))
        (λ a. beyond i j t a p q)
      where
        meet : P.l j < P.r i → P.l i < P.r j → P.b j < P.t i → P.b i < P.t j → i ≡ j
        meet a b c d =
            let f = g.formed i (is i p) in
            let e = g.formed j (is j q) in
            (same_at P Z g i j (max (P.l i) (P.l j)) (max (P.b i) (P.b j)) (record { is = is i p; at = omega arith }) (record { is = is j q; at = omega arith })).number

  -- each look compares tiles that touch
  joined_looks : Joined S → (k : ℕ) → Is P k → Looks P Z S k
  joined_looks n k u =
      let f = g.formed k u in
      record {
        back = λ p q.
            let a = up_holds P Z g (Z.bl k) (P.l k) (P.b k) p.below (g.bl k u) in
            let c = down_holds P Z g (Z.lb k) (P.l k) (P.b k) q.below (g.lb k u) in
            n (Z.bl k) (Z.lb k) p q (omega arith);
        right = λ p q. let a = down_holds P Z g (Z.tr k) (P.r k) (P.t k) q.below (g.tr k u) in n k (Z.tr k) p q (omega arith);
        over = λ p q. let a = up_holds P Z g (Z.rt k) (P.r k) (P.t k) q.below (g.rt k u) in n k (Z.rt k) p q (omega arith);
        corner = λ c m h p q. n k m p q (omega arith);
      }

  -- Solids that touch have one label exactly where the looks of every tile pass.
  pub looks_exact : ((k : ℕ) → Used R tile k → Looks P Z S k) ↔ Joined S
  looks_exact = ((λ l. looks_joined (λ k u. l k (is_used R tile k u))), (λ n k u. joined_looks n k (used_is R tile k u)))
