-- The stitches after a tile is cut in two across. Assumes nothing.
use Rattle.std.specs.Prelude.{◌≡◌, refl, ◌≢◌, ℕ, ◌≤◌, ◌<◌}
use Rattle.std.proofs.Common.{sym, ◌∙◌, subst, subst₂, arith}
use Rattle.geometry.specs.Cases.{lt_cases, eq_cases}
use Rattle.geometry.specs.Plane.{Plane, Is}
use Rattle.geometry.specs.Stitches.{Stitches, UpAt, DownAt, HoldsUp, HoldsDown, Up, Down, Good, same_tile, on_top}
use Rattle.geometry.specs.Walk.{over_lb}
use Rattle.geometry.specs.Cut.{Cut, is_after, is_made, which, up_after, up_made, down_after, down_made, formed_after, covered_after, disjoint_after}

-- what an edit does with a stitch that is not of the tiles it makes: n becomes n'
pub record SplitStitches (P : Plane) (Z Y : Stitches) (a j c : ℕ) : Type 0 where
  pub none : Y.none ≡ Z.none
  -- the two parts
  pub a_rt : Y.rt a ≡ j
  pub a_tr : Down P Z.none (Y.tr a) (P.r a) c
  pub a_bl : Y.bl a ≡ Z.bl a
  pub a_lb : Y.lb a ≡ Z.lb a
  pub j_rt : Y.rt j ≡ Z.rt a
  pub j_tr : Y.tr j ≡ Z.tr a
  pub j_bl : Up P Z.none (Y.bl j) (P.l a) c
  pub j_lb : Y.lb j ≡ a
  -- the others: a stitch that named a, and whose cell now lies in j
  pub rt : (i : ℕ) → Is P i → i ≢ a → Y.rt i ≡ Z.rt i
  pub lb_new : (i : ℕ) → Is P i → i ≢ a → Z.lb i ≡ a → Y.lb i ≡ j
  pub lb_old : (i : ℕ) → Is P i → i ≢ a → Z.lb i ≢ a → Y.lb i ≡ Z.lb i
  pub bl_new : (i : ℕ) → Is P i → i ≢ a → Z.bl i ≡ a → c ≤ P.b i → Y.bl i ≡ j
  pub bl_old : (i : ℕ) → Is P i → i ≢ a → (Z.bl i ≡ a → P.b i < c) → Y.bl i ≡ Z.bl i
  pub tr_new : (i : ℕ) → Is P i → i ≢ a → Z.tr i ≡ a → c < P.t i → Y.tr i ≡ j
  pub tr_old : (i : ℕ) → Is P i → i ≢ a → (Z.tr i ≡ a → P.t i ≤ c) → Y.tr i ≡ Z.tr i

module _ (P Q : Plane) (Z Y : Stitches) (a j c : ℕ) (g : Good P Z) (s : Cut P Q a j c) (y : SplitStitches P Z Y a j c) where
  not_none : (n : ℕ) → n ≡ Z.none → n ≢ a
  not_none n e d = omega (arith, e, d, g.none, s.is.below)

  -- n, the tile at a point, becomes m
  up_split : (n m x z : ℕ) → Up P Z.none n x z → (HoldsUp P n x z → n ≡ a → c ≤ z → m ≡ j) → ((n ≡ a → z < c) → m ≡ n) → Up Q Y.none m x z
  up_split n m x z u new old =
      let b = s.box in
      record {
        inside = λ h k.
            let v = u.inside (omega arith) (omega arith) in
            eq_cases n a
            (λ e. lt_cases z c
            (λ q. subst (λ n. HoldsUp Q n x z) (sym (old (λ _. q))) (up_after P Q a j c s n x z v (λ _. q)))
            (λ q. subst (λ n. HoldsUp Q n x z) (sym (new v e q)) (up_made P Q a j c s x z (subst (λ n. UpAt P n x z) e v.at) q)))
            (λ d. subst (λ n. HoldsUp Q n x z) (sym (old (λ e. absurd (d e)))) (up_after P Q a j c s n x z v (λ e. absurd (d e))));
        left = λ h. let e = u.left (omega arith) in old (λ d. absurd (not_none n e d)) ∙ e ∙ sym y.none;
        over = λ h. let e = u.over (omega arith) in old (λ d. absurd (not_none n e d)) ∙ e ∙ sym y.none;
      }

  down_split : (n m x z : ℕ) → Down P Z.none n x z → (HoldsDown P n x z → n ≡ a → c < z → m ≡ j) → ((n ≡ a → z ≤ c) → m ≡ n) → Down Q Y.none m x z
  down_split n m x z u new old =
      let b = s.box in
      record {
        inside = λ h k.
            let v = u.inside (omega arith) (omega arith) in
            eq_cases n a
            (λ e. lt_cases c z
            (λ q. subst (λ n. HoldsDown Q n x z) (sym (new v e q)) (down_made P Q a j c s x z (subst (λ n. DownAt P n x z) e v.at) q))
            (λ q. subst (λ n. HoldsDown Q n x z) (sym (old (λ _. q))) (down_after P Q a j c s n x z v (λ _. q))))
            (λ d. subst (λ n. HoldsDown Q n x z) (sym (old (λ e. absurd (d e)))) (down_after P Q a j c s n x z v (λ e. absurd (d e))));
        right = λ h. let e = u.right (omega arith) in old (λ d. absurd (not_none n e d)) ∙ e ∙ sym y.none;
        under = λ h. let e = u.under (omega arith) in old (λ d. absurd (not_none n e d)) ∙ e ∙ sym y.none;
      }

  -- the same with Q's points
  up_at : (n m x z x' z' : ℕ) → x' ≡ x → z' ≡ z → Up P Z.none n x z → (HoldsUp P n x z → n ≡ a → c ≤ z → m ≡ j) → ((n ≡ a → z < c) → m ≡ n)
      → Up Q Y.none m x' z'
  up_at n m x z x' z' e d u new old = subst₂ (λ x z. Up Q Y.none m x z) (sym e) (sym d) (up_split n m x z u new old)

  down_at : (n m x z x' z' : ℕ) → x' ≡ x → z' ≡ z → Down P Z.none n x z → (HoldsDown P n x z → n ≡ a → c < z → m ≡ j) → ((n ≡ a → z ≤ c) → m ≡ n)
      → Down Q Y.none m x' z'
  down_at n m x z x' z' e d u new old = subst₂ (λ x z. Down Q Y.none m x z) (sym e) (sym d) (down_split n m x z u new old)

  -- a tile at its own corner is another
  rt_self : (n : ℕ) → HoldsUp P n (P.r a) (P.t a) → n ≢ a
  rt_self n v e = omega (arith, v.at, same_tile P n a e)

  rt_split : (i : ℕ) → Is Q i → Up Q Y.none (Y.rt i) (Q.r i) (Q.t i)
  rt_split =
      let b = s.box in
      let w = g.formed a s.is in
      which P Q a j c s {C = λ i. Up Q Y.none (Y.rt i) (Q.r i) (Q.t i)}
      (up_at (Z.rt a) (Y.rt j) (P.r a) (P.t a) (Q.r j) (Q.t j) b.j_r b.j_t (g.rt a s.is)
      (λ v e q. absurd (rt_self (Z.rt a) v e)) (λ _. y.j_rt))
      (subst (λ n. Up Q Y.none n (Q.r a) (Q.t a)) (sym y.a_rt)
      (record {
        inside = λ h k. record { is = is_made P Q a j c s; at = omega arith };
        left = λ h. absurd (omega arith);
        over = λ h. absurd (omega arith);
      }))
      (λ i u n e. up_at (Z.rt i) (Y.rt i) (P.r i) (P.t i) (Q.r i) (Q.t i) e.r e.t (g.rt i u)
      (λ v d q. absurd (omega (
        arith,
        same_tile P (Z.rt i) a d,
        g.formed i u,
        on_top P g.formed g.disjoint i (Z.rt i) (P.r i) u v (omega (arith, g.formed i u)) (omega arith),
      ))) (λ _. y.rt i u n))

  bl_split : (i : ℕ) → Is Q i → Up Q Y.none (Y.bl i) (Q.l i) (Q.b i)
  bl_split =
      let b = s.box in
      which P Q a j c s {C = λ i. Up Q Y.none (Y.bl i) (Q.l i) (Q.b i)}
      (up_at (Y.bl j) (Y.bl j) (P.l a) c (Q.l j) (Q.b j) b.j_l b.j_b y.j_bl
      (λ v e q. absurd (omega (arith, v.at, same_tile P (Y.bl j) a e))) (λ _. refl))
      (up_at (Z.bl a) (Y.bl a) (P.l a) (P.b a) (Q.l a) (Q.b a) b.a_l b.a_b (g.bl a s.is)
      (λ v e q. absurd (omega arith)) (λ _. y.a_bl))
      (λ i u n e. up_at (Z.bl i) (Y.bl i) (P.l i) (P.b i) (Q.l i) (Q.b i) e.l e.b (g.bl i u)
      (λ v d q. y.bl_new i u n d q) (λ q. y.bl_old i u n q))

  tr_split : (i : ℕ) → Is Q i → Down Q Y.none (Y.tr i) (Q.r i) (Q.t i)
  tr_split =
      let b = s.box in
      which P Q a j c s {C = λ i. Down Q Y.none (Y.tr i) (Q.r i) (Q.t i)}
      (down_at (Z.tr a) (Y.tr j) (P.r a) (P.t a) (Q.r j) (Q.t j) b.j_r b.j_t (g.tr a s.is)
      (λ v e q. absurd (omega (arith, v.at, same_tile P (Z.tr a) a e))) (λ _. y.j_tr))
      (down_at (Y.tr a) (Y.tr a) (P.r a) c (Q.r a) (Q.t a) b.a_r b.a_t y.a_tr
      (λ v e q. absurd (omega arith)) (λ _. refl))
      (λ i u n e. down_at (Z.tr i) (Y.tr i) (P.r i) (P.t i) (Q.r i) (Q.t i) e.r e.t (g.tr i u)
      (λ v d q. y.tr_new i u n d q) (λ q. y.tr_old i u n q))

  lb_split : (i : ℕ) → Is Q i → Down Q Y.none (Y.lb i) (Q.l i) (Q.b i)
  lb_split =
      let b = s.box in
      let w = g.formed a s.is in
      which P Q a j c s {C = λ i. Down Q Y.none (Y.lb i) (Q.l i) (Q.b i)}
      (subst (λ n. Down Q Y.none n (Q.l j) (Q.b j)) (sym y.j_lb)
      (record {
        inside = λ h k. record { is = is_after P Q a j c s a s.is; at = omega arith };
        right = λ h. absurd (omega arith);
        under = λ h. absurd (omega arith);
      }))
      (down_at (Z.lb a) (Y.lb a) (P.l a) (P.b a) (Q.l a) (Q.b a) b.a_l b.a_b (g.lb a s.is)
      (λ v e q. absurd (omega arith)) (λ _. y.a_lb))
      (λ i u n e. down_at (Z.lb i) (Y.lb i) (P.l i) (P.b i) (Q.l i) (Q.b i) e.l e.b (g.lb i u)
      (λ v d q. y.lb_new i u n d) (λ q. y.lb_old i u n (λ d. omega (arith, q d, over_lb P Z g a i s.is u d))))

  pub split : Good Q Y
  split = record {
    formed = formed_after P Q a j c s g.formed;
    covered = covered_after P Q a j c s g.covered;
    disjoint = disjoint_after P Q a j c s g.disjoint;
    none = omega (arith, g.none, y.none, s.box.R);
    rt = rt_split;
    bl = bl_split;
    tr = tr_split;
    lb = lb_split;
  }
