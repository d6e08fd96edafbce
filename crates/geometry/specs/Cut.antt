-- One tile cut in two across, or two joined: the tiles' rectangles. Assumes nothing.
use Rattle.std.specs.Prelude.{◌≡◌, refl, not, ◌≢◌, ℕ, ◌≤◌, ◌<◌, T}
use Rattle.std.proofs.Common.{sym, ap, ◌∙◌, subst, arith, T_not}
use Rattle.geometry.specs.Cases.{lt_cases, eq_cases}
use Rattle.geometry.specs.Plane.{Plane, Is, Holds, Formed, WellFormed, Covered, Disjoint}
use Rattle.geometry.specs.Stitches.{UpAt, DownAt, HoldsUp, HoldsDown}

-- tile i's rectangle in Q is tile i's in P
pub record SameBox (P Q : Plane) (i : ℕ) : Type 0 where
  pub l : Q.l i ≡ P.l i
  pub b : Q.b i ≡ P.b i
  pub r : Q.r i ≡ P.r i
  pub t : Q.t i ≡ P.t i

-- the numbers of a cut at row c: Q's a is the lower part of P's a, and Q's j the upper
pub record CutBox (P Q : Plane) (a j c : ℕ) : Type 0 where
  pub R : Q.R ≡ P.R
  pub lo : Q.lo ≡ P.lo
  pub W : Q.W ≡ P.W
  pub below : j < P.R
  pub a_l : Q.l a ≡ P.l a
  pub a_b : Q.b a ≡ P.b a
  pub a_r : Q.r a ≡ P.r a
  pub a_t : Q.t a ≡ c
  pub j_l : Q.l j ≡ P.l a
  pub j_b : Q.b j ≡ c
  pub j_r : Q.r j ≡ P.r a
  pub j_t : Q.t j ≡ P.t a
  pub low : P.b a < c
  pub high : c < P.t a

-- Q is P with tile a cut at row c, and its upper part numbered j, which is not used in P. So P is Q with a and j joined.
pub record Cut (P Q : Plane) (a j c : ℕ) : Type 0 where
  pub box : CutBox P Q a j c
  pub is : Is P a
  pub fresh : T (not (P.used j))
  pub made : T (Q.used j)
  pub used : (i : ℕ) → i ≢ j → Q.used i ≡ P.used i
  pub same : (i : ℕ) → i ≢ a → i ≢ j → SameBox P Q i

module _ (P Q : Plane) (a j c : ℕ) (s : Cut P Q a j c) where
  -- a used tile of P is not j
  pub not_fresh : (i : ℕ) → Is P i → i ≢ j
  not_fresh i u e = T_not (P.used j) s.fresh (subst (λ i. T (P.used i)) e u.used)

  pub is_after : (i : ℕ) → Is P i → Is Q i
  is_after i u = record { below = omega (arith, u.below, s.box.R); used = subst T (sym (s.used i (not_fresh i u))) u.used }

  pub is_before : (i : ℕ) → Is Q i → i ≢ j → Is P i
  is_before i u n = record { below = omega (arith, u.below, s.box.R); used = subst T (s.used i n) u.used }

  pub is_made : Is Q j
  is_made = record { below = omega (arith, s.box.R, s.box.below); used = s.made }

  -- a tile of Q is j, or a, or another, whose rectangle is what it was
  pub which : {C : ℕ → Type 0} → C j → C a → ((i : ℕ) → Is P i → i ≢ a → SameBox P Q i → C i) → (i : ℕ) → Is Q i → C i
  which {C} cj ca other i u =
      eq_cases i j (λ e. subst C (sym e) cj)
      (λ n. eq_cases i a (λ e. subst C (sym e) ca) (λ m. other i (is_before i u n) m (s.same i m n)))

  -- the same for a tile of P
  pub which_before : {C : ℕ → Type 0} → C a → ((i : ℕ) → Is P i → i ≢ a → SameBox P Q i → C i) → (i : ℕ) → Is P i → C i
  which_before {C} ca other i u =
      eq_cases i a (λ e. subst C (sym e) ca) (λ m. other i u m (s.same i m (not_fresh i u)))

  -- ---- the cells

  pub up_after : (i x y : ℕ) → HoldsUp P i x y → (i ≡ a → y < c) → HoldsUp Q i x y
  up_after i x y h k =
      let b = s.box in
      which_before {C = λ i. HoldsUp P i x y → (i ≡ a → y < c) → HoldsUp Q i x y}
      (λ h k. let q = k refl in record { is = is_after a h.is; at = omega arith })
      (λ i u n e h k. record { is = is_after i u; at = omega arith }) i h.is h k

  pub up_made : (x y : ℕ) → UpAt P a x y → c ≤ y → HoldsUp Q j x y
  up_made x y h k = let b = s.box in record { is = is_made; at = omega arith }

  pub up_before : (i x y : ℕ) → HoldsUp Q i x y → i ≢ j → HoldsUp P i x y
  up_before i x y h n =
      let b = s.box in
      which_before {C = λ i. HoldsUp Q i x y → HoldsUp P i x y}
      (λ h. record { is = s.is; at = omega arith })
      (λ i u n e h. record { is = u; at = omega arith }) i (is_before i h.is n) h

  pub up_joined : (x y : ℕ) → UpAt Q j x y → HoldsUp P a x y
  up_joined x y h = let b = s.box in record { is = s.is; at = omega arith }

  pub down_after : (i x y : ℕ) → HoldsDown P i x y → (i ≡ a → y ≤ c) → HoldsDown Q i x y
  down_after i x y h k =
      let b = s.box in
      which_before {C = λ i. HoldsDown P i x y → (i ≡ a → y ≤ c) → HoldsDown Q i x y}
      (λ h k. let q = k refl in record { is = is_after a h.is; at = omega arith })
      (λ i u n e h k. record { is = is_after i u; at = omega arith }) i h.is h k

  pub down_made : (x y : ℕ) → DownAt P a x y → c < y → HoldsDown Q j x y
  down_made x y h k = let b = s.box in record { is = is_made; at = omega arith }

  pub down_before : (i x y : ℕ) → HoldsDown Q i x y → i ≢ j → HoldsDown P i x y
  down_before i x y h n =
      let b = s.box in
      which_before {C = λ i. HoldsDown Q i x y → HoldsDown P i x y}
      (λ h. record { is = s.is; at = omega arith })
      (λ i u n e h. record { is = u; at = omega arith }) i (is_before i h.is n) h

  pub down_joined : (x y : ℕ) → DownAt Q j x y → HoldsDown P a x y
  down_joined x y h = let b = s.box in record { is = s.is; at = omega arith }

  -- a cell's tile in Q, from its tile in P; and back
  pub holds_after : (i x y : ℕ) → Holds P i x y → (i ≡ a → y < c) → Holds Q i x y
  holds_after i x y h k =
      let b = s.box in
      which_before {C = λ i. Holds P i x y → (i ≡ a → y < c) → Holds Q i x y}
      (λ h k. let q = k refl in record { is = is_after a h.is; at = omega arith })
      (λ i u n e h k. record { is = is_after i u; at = omega arith }) i h.is h k

  pub holds_made : (x y : ℕ) → Holds P a x y → c ≤ y → Holds Q j x y
  holds_made x y h k = let b = s.box in record { is = is_made; at = omega arith }

  pub holds_before : (i x y : ℕ) → Holds Q i x y → i ≢ j → Holds P i x y
  holds_before i x y h n =
      let b = s.box in
      which_before {C = λ i. Holds Q i x y → Holds P i x y}
      (λ h. record { is = s.is; at = omega arith })
      (λ i u n e h. record { is = u; at = omega arith }) i (is_before i h.is n) h

  pub holds_joined : (x y : ℕ) → Holds Q j x y → Holds P a x y
  holds_joined x y h = let b = s.box in record { is = s.is; at = omega arith }

  -- ---- exact cover, after the cut

  pub formed_after : WellFormed P → WellFormed Q
  formed_after f i u =
      let b = s.box in
      let w = f a s.is in
      which {C = λ i. Formed Q i} (omega arith) (omega arith) (λ i v n e. let z = f i v in omega arith) i u

  pub covered_after : Covered P → Covered Q
  covered_after cov x y p =
      let b = s.box in
      let (i, h) = cov x y (omega arith) in
      eq_cases i a
      (λ e. lt_cases y c (λ q. (i, holds_after i x y h (λ e. q))) (λ q. (j, holds_made x y (subst (λ i. Holds P i x y) e h) q)))
      (λ n. (i, holds_after i x y h (λ e. absurd (n e))))

  pub disjoint_after : Disjoint P → Disjoint Q
  disjoint_after d i k x y h g =
      let b = s.box in
      eq_cases i j
      (λ e. eq_cases k j (λ e'. e ∙ sym e')
      (λ n'. absurd (clash k (subst (λ i. Holds Q i x y) e h) g n')))
      (λ n. eq_cases k j
      (λ e'. absurd (clash i (subst (λ i. Holds Q i x y) e' g) h n))
      (λ n'. d i k x y (holds_before i x y h n) (holds_before k x y g n')))
    where
      clash : (k : ℕ) → Holds Q j x y → Holds Q k x y → k ≢ j → ⊥
      clash k h g n =
          let b = s.box in
          let e = d k a x y (holds_before k x y g n) (holds_joined x y h) in
          let q : Q.t k ≡ Q.t a = ap Q.t e in
          omega arith

  -- ---- and after the join

  pub formed_before : WellFormed Q → WellFormed P
  formed_before f i u =
      let b = s.box in
      let w = f a (is_after a s.is) in
      let z = f j is_made in
      which_before {C = λ i. Formed P i} (omega arith) (λ i v n e. let y = f i (is_after i v) in omega arith) i u

  pub covered_before : Covered Q → Covered P
  covered_before cov x y p =
      let b = s.box in
      let (i, h) = cov x y (omega arith) in
      eq_cases i j
      (λ e. (a, holds_joined x y (subst (λ i. Holds Q i x y) e h)))
      (λ n. (i, holds_before i x y h n))

  pub disjoint_before : Disjoint Q → Disjoint P
  disjoint_before d i k x y h g =
      lt_cases y c
      (λ q. d i k x y (holds_after i x y h (λ e. q)) (holds_after k x y g (λ e. q)))
      (λ q. eq_cases i a
      (λ e. eq_cases k a (λ e'. e ∙ sym e')
      (λ n'. absurd (not_fresh k g.is (d k j x y (holds_after k x y g (λ e. absurd (n' e))) (holds_made x y (subst (λ i. Holds P i x y) e h) q)))))
      (λ n. eq_cases k a
      (λ e'. absurd (not_fresh i h.is (d i j x y (holds_after i x y h (λ e. absurd (n e))) (holds_made x y (subst (λ i. Holds P i x y) e' g) q))))
      (λ n'. d i k x y (holds_after i x y h (λ e. absurd (n e))) (holds_after k x y g (λ e. absurd (n' e))))))
