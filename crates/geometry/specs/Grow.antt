-- A solid rectangle put into a space tile: the tile is painted, and what lies round the rectangle is cut off, made space again and mended.
-- Here the right and the left side of what is left, through each of these steps. Assumes nothing.
use Rattle.std.specs.Prelude.{◌≡◌, Bool, ◌≢◌, ℕ, ◌≤◌, ◌<◌, T}
use Rattle.std.proofs.Common.{sym, subst, arith, T_not}
use Rattle.geometry.specs.Cases.{eq_cases}
use Rattle.geometry.specs.Plane.{Plane, Is, Holds, Disjoint}
use Rattle.geometry.specs.Strips.{Space}
use Rattle.geometry.specs.Stitches.{same_tile}
use Rattle.geometry.specs.Cut.{Cut, SameBox, not_fresh, is_after, holds_after}
use Rattle.geometry.specs.Tidy.{Neat, Loose, OnlyAt, Parts, RightSolid, LeftSolid, still, space_old, solid_new, not_solid}

-- a is solid, and could be space as far as its right side and its left side go
pub record Sided (P : Plane) (sol : ℕ → Bool) (a : ℕ) : Type 0 where
  pub left : LeftSolid P sol a
  pub right : RightSolid P sol a

pub sided : (P : Plane) (old new : ℕ → Bool) (a : ℕ) → Neat P old → Space P old a → OnlyAt old new a → T (new a) → Sided P new a
sided P old new a n s o t = record {
  left = λ k y u h q v.
      T_not (old a) s.space (n.beside k a y (space_old P old new a k o u (not_solid P new k a u t)) h q v);
  right = λ k y h q v. eq_cases k a (λ e. subst (λ k. T (new k)) (sym e) t) (λ m. solid_new old new a k o m (n.beside a k y s h q v));
}

-- ---- the sides of the parts

module _ (P Q : Plane) (old new : ℕ → Bool) (a j : ℕ) (s : Parts P Q a j) (o : OnlyAt old new j) (ta : T (old a)) (tj : T (new j)) where
  pub left_cut : a ≢ j → LeftSolid P old a → LeftSolid Q new a × LeftSolid Q new j
  left_cut d l = (
    λ k y u h q v. let w = still P Q old new a j s o ta tj k u in
        l k y w.space (omega (arith, w.box)) (omega (arith, w.box)) (subst (λ x. Holds P a x y) w.box.r (s.holds a (Q.r k) y v d)),
    λ k y u h q v. let w = still P Q old new a j s o ta tj k u in
        l k y w.space (omega (arith, w.box)) (omega (arith, w.box)) (subst (λ x. Holds P a x y) w.box.r (s.made (Q.r k) y v)),
  )

  pub right_cut : (p : ℕ) → Q.r p ≡ P.r a → P.b a ≤ Q.b p → Q.t p ≤ P.t a → RightSolid P old a → RightSolid Q new p
  right_cut p e b t r k y h q v = eq_cases k j (λ c. subst (λ k. T (new k)) (sym c) tj)
      (λ m. solid_new old new j k o m (r k y (omega arith) (omega arith) (subst (λ x. Holds P k x y) e (s.holds k (Q.r p) y v m))))

-- a tile whose right neighbour is q alone
pub right_one : (Q : Plane) (sol : ℕ → Bool) (p q : ℕ) → Disjoint Q → Is Q q → T (sol q) → Q.l q ≡ Q.r p → Q.b q ≤ Q.b p → Q.t p ≤ Q.t q → Q.l q < Q.r q
    → RightSolid Q sol p
right_one Q sol p q d u t l b h w k y low high v =
    subst (λ k. T (sol k)) (d q k (Q.r p) y (record { is = u; at = omega arith }) v) t

-- ---- when p is made space: the sides of q

module _ (P : Plane) (old new : ℕ → Bool) (p q : ℕ) (o : OnlyAt old new p) where
  pub left_unpaint : P.r q ≤ P.r p → LeftSolid P old q → LeftSolid P new q
  left_unpaint h l k y u b t v =
      l k y (space_old P old new p k o u (λ e. omega (arith, v.at, same_tile P k p e))) b t v

  pub right_unpaint : P.r p ≤ P.r q → RightSolid P old q → RightSolid P new q
  right_unpaint h r k y b t v = solid_new old new p k o (λ e. omega (arith, v.at, same_tile P k p e)) (r k y b t v)

-- ---- when Q's x and z, both space, are joined: the sides of q, which is solid

module _ (P Q : Plane) (sol : ℕ → Bool) (x z c q : ℕ) (s : Cut P Q x z c) (sx : Space Q sol x) (u : Is P q) (tq : T (sol q)) where
  q_box : SameBox P Q q
  q_box = s.same q (λ e. not_solid Q sol x q sx tq (sym e)) (not_fresh P Q x z c s q u)

  q_holds : (x' y : ℕ) → Holds P q x' y → Holds Q q x' y
  q_holds x' y v = holds_after P Q x z c s q x' y v (λ e. absurd (not_solid Q sol x q sx tq (sym e)))

  pub left_join : Q.r q ≤ Q.r x → LeftSolid Q sol q → LeftSolid P sol q
  left_join h l k y w b t v =
      let e = q_box in
      let bx = s.box in
      let n : k ≢ x = λ d. omega (arith, v.at, same_tile P k x d) in
      let e' = s.same k n (not_fresh P Q x z c s k w.is) in
      l k y (record { is = is_after P Q x z c s k w.is; space = w.space }) (omega arith) (omega arith)
      (subst (λ x. Holds Q q x y) (sym e'.r) (q_holds (P.r k) y v))

  pub right_join : Q.r x ≤ Q.r q → RightSolid Q sol q → RightSolid P sol q
  right_join h r k y b t v =
      let e = q_box in
      let bx = s.box in
      let n : k ≢ x = λ d. omega (arith, v.at, same_tile P k x d) in
      r k y (omega arith) (omega arith)
      (subst (λ x. Holds Q k x y) (sym e.r) (holds_after P Q x z c s k (P.r q) y v (λ d. absurd (n d))))

-- ---- a piece p that is cut off a solid tile and made space

pub record Carved (Q : Plane) (new : ℕ → Bool) (p : ℕ) : Type 0 where
  pub loose : Loose Q new p
  pub space : Space Q new p
