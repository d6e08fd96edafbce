-- The strips under edits: a tile painted, cut, made space again, and mended with the tile above and the tile below. Assumes nothing.
use Rattle.std.specs.Prelude.{◌≡◌, Bool, not, ◌≢◌, ℕ, ◌≤◌, ◌<◌, T}
use Rattle.std.proofs.Common.{sym, subst, arith, T_not}
use Rattle.geometry.specs.Cases.{lt_cases, eq_cases}
use Rattle.geometry.specs.Plane.{Plane, Is, Holds, WellFormed}
use Rattle.geometry.specs.Strips.{Strips, Space}
use Rattle.geometry.specs.Stitches.{Stitches, Good, same_tile, up_one, down_one}
use Rattle.geometry.specs.Turns.{swap, swap_is, is_swap, swap_holds, holds_swap}
use Rattle.geometry.specs.Cut.{Cut, SameBox, not_fresh, is_after, is_before, which_before, holds_after, holds_made, holds_before, holds_joined}

-- two space tiles of one span, k directly above i
pub record Stacked (P : Plane) (sol : ℕ → Bool) (i k : ℕ) : Type 0 where
  pub lower : Space P sol i
  pub upper : Space P sol k
  pub l : P.l i ≡ P.l k
  pub r : P.r i ≡ P.r k
  pub t : P.t i ≡ P.b k

abbrev pub Besides : Plane → (ℕ → Bool) → Type 0
Besides P sol = (i k y : ℕ) → Space P sol i → P.b i ≤ y → y < P.t i → Holds P k (P.r i) y → T (sol k)

pub record Neat (P : Plane) (sol : ℕ → Bool) : Type 0 where
  pub beside : Besides P sol
  pub merged : (i k : ℕ) → Stacked P sol i k → ⊥

-- the same, but for p, which may be stacked
pub record Loose (P : Plane) (sol : ℕ → Bool) (p : ℕ) : Type 0 where
  pub beside : Besides P sol
  pub merged : (i k : ℕ) → Stacked P sol i k → i ≢ p → k ≢ p → ⊥

pub neat_strips : (P : Plane) (Z : Stitches) (sol : ℕ → Bool) → Good P Z → Neat P sol → Strips P sol
neat_strips P Z sol g n = record {
  formed = g.formed;
  covered = g.covered;
  disjoint = g.disjoint;
  beside = n.beside;
  merged = λ i k u v l r t. n.merged i k (record { lower = u; upper = v; l = l; r = r; t = t });
}

pub strips_neat : (P : Plane) (sol : ℕ → Bool) → Strips P sol → Neat P sol
strips_neat P sol s = record { beside = s.beside; merged = λ i k d. s.merged i k d.lower d.upper d.l d.r d.t }

pub loose_neat : (P : Plane) (sol : ℕ → Bool) (p : ℕ) → Loose P sol p → ((k : ℕ) → Stacked P sol p k → ⊥) → ((k : ℕ) → Stacked P sol k p → ⊥) → Neat P sol
loose_neat P sol p o over under = record {
  beside = o.beside;
  merged = λ i k d.
      eq_cases i p (λ e. over k (subst (λ i. Stacked P sol i k) e d))
      (λ n. eq_cases k p (λ e. under i (subst (λ k. Stacked P sol i k) e d)) (λ m. o.merged i k d n m));
}

-- ---- flags

abbrev pub OnlyAt : (ℕ → Bool) → (ℕ → Bool) → ℕ → Type 0
OnlyAt old new p = (k : ℕ) → k ≢ p → new k ≡ old k

pub space_old : (P : Plane) (old new : ℕ → Bool) (p i : ℕ) → OnlyAt old new p → Space P new i → i ≢ p → Space P old i
space_old P old new p i o s n = record { is = s.is; space = subst (λ b. T (not b)) (o i n) s.space }

pub solid_new : (old new : ℕ → Bool) (p k : ℕ) → OnlyAt old new p → k ≢ p → T (old k) → T (new k)
solid_new old new p k o n t = subst T (sym (o k n)) t

pub not_solid : (P : Plane) (sol : ℕ → Bool) (i k : ℕ) → Space P sol i → T (sol k) → i ≢ k
not_solid P sol i k s t e = T_not (sol i) s.space (subst (λ k. T (sol k)) (sym e) t)

-- ---- paint p solid

pub paint : (P : Plane) (old new : ℕ → Bool) (p : ℕ) → Neat P old → OnlyAt old new p → T (new p) → Neat P new
paint P old new p n o t =
    let still : (i : ℕ) → Space P new i → Space P old i = λ i s. space_old P old new p i o s (not_solid P new i p s t) in
    record {
      beside = λ i k y s h q v. eq_cases k p (λ e. subst (λ k. T (new k)) (sym e) t)
          (λ m. solid_new old new p k o m (n.beside i k y (still i s) h q v));
      merged = λ i k d. n.merged i k (record { lower = still i d.lower; upper = still k d.upper; l = d.l; r = d.r; t = d.t });
    }

-- ---- cut a solid tile a, at a row or at a column: both parts solid

pub record Parts (P Q : Plane) (a j : ℕ) : Type 0 where
  pub is : (i : ℕ) → Is Q i → i ≢ j → Is P i
  pub box : (i : ℕ) → i ≢ a → i ≢ j → SameBox P Q i
  pub holds : (i x y : ℕ) → Holds Q i x y → i ≢ j → Holds P i x y
  pub made : (x y : ℕ) → Holds Q j x y → Holds P a x y

pub row_parts : (P Q : Plane) (a j c : ℕ) → Cut P Q a j c → Parts P Q a j
row_parts P Q a j c s = record {
  is = is_before P Q a j c s;
  box = s.same;
  holds = λ i x y h n. holds_before P Q a j c s i x y h n;
  made = λ x y h. holds_joined P Q a j c s x y h;
}

pub column_parts : (P Q : Plane) (a j c : ℕ) → Cut (swap P) (swap Q) a j c → Parts P Q a j
column_parts P Q a j c s = record {
  is = λ i u n. is_swap P i (is_before (swap P) (swap Q) a j c s i (swap_is Q i u) n);
  box = λ i n m. let e = s.same i n m in record { l = e.b; b = e.l; r = e.t; t = e.r };
  holds = λ i x y h n. holds_swap P i y x (holds_before (swap P) (swap Q) a j c s i y x (swap_holds Q i x y h) n);
  made = λ x y h. holds_swap P a y x (holds_joined (swap P) (swap Q) a j c s y x (swap_holds Q j x y h));
}

module _ (P Q : Plane) (old new : ℕ → Bool) (a j : ℕ) (s : Parts P Q a j) (o : OnlyAt old new j) (ta : T (old a)) (tj : T (new j)) where
  -- a space tile of Q is one of P, with the same rectangle
  pub record Still (i : ℕ) : Type 0 where
    pub space : Space P old i
    pub box : SameBox P Q i

  pub still : (i : ℕ) → Space Q new i → Still i
  still i u =
      let n = not_solid Q new i j u tj in
      let w : Space P old i = record { is = s.is i u.is n; space = subst (λ b. T (not b)) (o i n) u.space } in
      record { space = w; box = s.box i (not_solid P old i a w ta) n }

  pub cut_neat : Neat P old → Neat Q new
  cut_neat n = record {
    beside = λ i k y u h q v. let w = still i u in eq_cases k j (λ e. subst (λ k. T (new k)) (sym e) tj)
        (λ m. solid_new old new j k o m (n.beside i k y w.space (omega (arith, w.box)) (omega (arith, w.box))
        (subst (λ x. Holds P k x y) w.box.r (s.holds k (Q.r i) y v m))));
    merged = λ i k d.
        let w = still i d.lower in
        let z = still k d.upper in
        let e = w.box in
        let e' = z.box in
        n.merged i k (record { lower = w.space; upper = z.space; l = omega arith; r = omega arith; t = omega arith });
  }

-- ---- make the solid tile p space: its sides stand beside solid tiles, and only p may be stacked

-- no space tile would stand beside a, were it space: at its right, and at its left
abbrev pub RightSolid : Plane → (ℕ → Bool) → ℕ → Type 0
RightSolid P sol a = (k y : ℕ) → P.b a ≤ y → y < P.t a → Holds P k (P.r a) y → T (sol k)

abbrev pub LeftSolid : Plane → (ℕ → Bool) → ℕ → Type 0
LeftSolid P sol a = (k y : ℕ) → Space P sol k → P.b k ≤ y → y < P.t k → Holds P a (P.r k) y → ⊥

pub unpaint : (P : Plane) (old new : ℕ → Bool) (p : ℕ) → Neat P old → OnlyAt old new p → RightSolid P old p → LeftSolid P old p → Loose P new p
unpaint P old new p n o right left = record {
  beside = λ i k y s h q v. eq_cases i p
      (λ e.
      let z = same_tile P i p e in
      let v' : Holds P k (P.r p) y = subst (λ x. Holds P k x y) z.r v in
      solid_new old new p k o (λ d. omega (arith, same_tile P k p d, v'.at)) (right k y (omega arith) (omega arith) v'))
      (λ m.
      let w = space_old P old new p i o s m in
      eq_cases k p
      (λ e. absurd (left i y w h q (subst (λ k. Holds P k (P.r i) y) e v)))
      (λ d. solid_new old new p k o d (n.beside i k y w h q v)));
  merged = λ i k d m m'.
      n.merged i k (record { lower = space_old P old new p i o d.lower m; upper = space_old P old new p k o d.upper m'; l = d.l; r = d.r; t = d.t });
}

-- ---- mend: which tile to join with

module _ (P : Plane) (Z : Stitches) (g : Good P Z) (sol : ℕ → Bool) where
  pub stacked_rt : (p k : ℕ) → Stacked P sol p k → k ≡ Z.rt p
  stacked_rt p k d =
      let w = g.formed p d.lower.is in
      let z = g.formed k d.upper.is in
      let v = (g.rt p d.lower.is).inside (omega arith) (omega arith) in
      up_one P g.formed g.disjoint k (Z.rt p) (P.r p) (P.t p) (record { is = d.upper.is; at = omega arith }) v

  pub stacked_lb : (k p : ℕ) → Stacked P sol k p → k ≡ Z.lb p
  stacked_lb k p d =
      let w = g.formed p d.upper.is in
      let z = g.formed k d.lower.is in
      let v = (g.lb p d.upper.is).inside (omega arith) (omega arith) in
      down_one P g.formed g.disjoint k (Z.lb p) (P.l p) (P.b p) (record { is = d.lower.is; at = omega arith }) v

-- ---- join: Q's a and j, both space, become P's a

module _ (P Q : Plane) (sol : ℕ → Bool) (a j c : ℕ) (f : WellFormed Q) (s : Cut P Q a j c) (sa : Space Q sol a) (sj : Space Q sol j) where
  space_joined : (i : ℕ) → Space P sol i → Space Q sol i
  space_joined i u = record { is = is_after P Q a j c s i u.is; space = u.space }

  -- the tile of Q whose cell it was is not solid, if it was a or j
  solid_joined : (k x y : ℕ) → Holds P k x y → ((k : ℕ) → Holds Q k x y → T (sol k)) → T (sol k)
  solid_joined k x y v t =
      eq_cases k a
      (λ e. lt_cases y c (λ q. t k (holds_after P Q a j c s k x y v (λ _. q)))
      (λ q. absurd (T_not (sol j) sj.space (t j (holds_made P Q a j c s x y (subst (λ k. Holds P k x y) e v) q)))))
      (λ n. t k (holds_after P Q a j c s k x y v (λ e. absurd (n e))))

  pub join_beside : Besides Q sol → Besides P sol
  join_beside n i k y u h q v =
      let b = s.box in
      solid_joined k (P.r i) y v (λ k v. which_before P Q a j c s
      {C = λ i. Space P sol i → P.b i ≤ y → y < P.t i → Holds Q k (P.r i) y → T (sol k)}
      (λ u h q v. lt_cases y c
      (λ z. n a k y sa (omega arith) (omega arith) (subst (λ x. Holds Q k x y) (sym b.a_r) v))
      (λ z. n j k y sj (omega arith) (omega arith) (subst (λ x. Holds Q k x y) (sym b.j_r) v)))
      (λ i w m e u h q v. n i k y (space_joined i u) (omega arith) (omega arith) (subst (λ x. Holds Q k x y) (sym e.r) v))
      i u.is u h q v)

  -- a pair of P, neither of which is a, was a pair of Q, of which neither was a or j
  join_stacked : (i k : ℕ) → Stacked P sol i k → i ≢ a → k ≢ a → Stacked Q sol i k
  join_stacked i k d n m =
      let e = s.same i n (not_fresh P Q a j c s i d.lower.is) in
      let e' = s.same k m (not_fresh P Q a j c s k d.upper.is) in
      record { lower = space_joined i d.lower; upper = space_joined k d.upper; l = omega arith; r = omega arith; t = omega arith }

  -- a pair above the joined tile was above j; a pair below it was below a
  join_over : (k : ℕ) → Stacked P sol a k → k ≢ a → Stacked Q sol j k
  join_over k d m =
      let b = s.box in
      let e = s.same k m (not_fresh P Q a j c s k d.upper.is) in
      record { lower = sj; upper = space_joined k d.upper; l = omega arith; r = omega arith; t = omega arith }

  join_under : (i : ℕ) → Stacked P sol i a → i ≢ a → Stacked Q sol i a
  join_under i d n =
      let b = s.box in
      let e = s.same i n (not_fresh P Q a j c s i d.lower.is) in
      record { lower = space_joined i d.lower; upper = sa; l = omega arith; r = omega arith; t = omega arith }

  -- not stacked on itself
  self : (i k : ℕ) → Stacked P sol i k → i ≢ k
  self i k d e = omega (arith, formed, d, same_tile P i k e)
    where
      formed : P.b i < P.t i
      formed =
          let b = s.box in
          let w = f a sa.is in
          let z = f j sj.is in
          which_before P Q a j c s {C = λ i. P.b i < P.t i} (omega arith)
          (λ i u n e. let x = f i (is_after P Q a j c s i u) in omega arith) i d.lower.is

  j_not_a : j ≢ a
  j_not_a e = not_fresh P Q a j c s a s.is (sym e)

  -- p = a joined with the tile above it: still loose, and nothing is stacked on it
  pub mend_over : Loose Q sol a → Loose P sol a × ((k : ℕ) → Stacked P sol a k → ⊥)
  mend_over o = (
    record { beside = join_beside o.beside; merged = λ i k d n m. o.merged i k (join_stacked i k d n m) n m },
    λ k d.
        let m : k ≢ a = λ e. self a k d (sym e) in
        o.merged j k (join_over k d m) j_not_a m,
  )

  -- p = j, on which nothing is stacked, joined with the tile below it: nothing is loose
  pub mend_under : Loose Q sol j → ((k : ℕ) → Stacked Q sol j k → ⊥) → Neat P sol
  mend_under o over = record {
    beside = join_beside o.beside;
    merged = λ i k d. eq_cases i a
        (λ e.
        let d' = subst (λ i. Stacked P sol i k) e d in
        over k (join_over k d' (λ e'. self a k d' (sym e'))))
        (λ n. eq_cases k a
        (λ e.
        let d' = subst (λ k. Stacked P sol i k) e d in
        o.merged i a (join_under i d' n) (not_fresh P Q a j c s i d.lower.is) (λ e. j_not_a (sym e)))
        (λ m. o.merged i k (join_stacked i k d n m) (not_fresh P Q a j c s i d.lower.is) (not_fresh P Q a j c s k d.upper.is)));
  }

-- the test on one tile decides
module _ (P : Plane) (Z : Stitches) (g : Good P Z) (sol : ℕ → Bool) (p : ℕ) where
  pub none_over : (Stacked P sol p (Z.rt p) → ⊥) → (k : ℕ) → Stacked P sol p k → ⊥
  none_over n k d = n (subst (λ k. Stacked P sol p k) (stacked_rt P Z g sol p k d) d)

  pub none_under : (Stacked P sol (Z.lb p) p → ⊥) → (k : ℕ) → Stacked P sol k p → ⊥
  none_under n k d = n (subst (λ k. Stacked P sol k p) (stacked_lb P Z g sol k p d) d)
