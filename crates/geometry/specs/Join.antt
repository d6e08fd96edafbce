-- The stitches after two tiles of one span, one directly above the other, are joined. Assumes nothing.
use Rattle.std.specs.Prelude.{◌≡◌, ◌≢◌, ℕ, ◌-◌}
use Rattle.std.proofs.Common.{sym, ◌∙◌, subst, subst₂, arith}
use Rattle.geometry.specs.Cases.{eq_cases}
use Rattle.geometry.specs.Plane.{Plane, Is}
use Rattle.geometry.specs.Stitches.{Stitches, UpAt, DownAt, HoldsUp, HoldsDown, Up, Down, Good, same_tile, same, on_top}
use Rattle.geometry.specs.Cut.{Cut, SameBox, is_after, is_made, which_before, up_before, up_joined, down_before, down_joined, formed_before, covered_before, disjoint_before}

-- Q's tiles a and j become P's a: a stitch that named j names a
pub record JoinStitches (P : Plane) (Y Z : Stitches) (a j : ℕ) : Type 0 where
  pub none : Z.none ≡ Y.none
  pub a_rt : Z.rt a ≡ Y.rt j
  pub a_tr : Z.tr a ≡ Y.tr j
  pub a_bl : Z.bl a ≡ Y.bl a
  pub a_lb : Z.lb a ≡ Y.lb a
  pub rt : (i : ℕ) → Is P i → i ≢ a → Z.rt i ≡ Y.rt i
  pub lb_new : (i : ℕ) → Is P i → i ≢ a → Y.lb i ≡ j → Z.lb i ≡ a
  pub lb_old : (i : ℕ) → Is P i → i ≢ a → Y.lb i ≢ j → Z.lb i ≡ Y.lb i
  pub bl_new : (i : ℕ) → Is P i → i ≢ a → Y.bl i ≡ j → Z.bl i ≡ a
  pub bl_old : (i : ℕ) → Is P i → i ≢ a → Y.bl i ≢ j → Z.bl i ≡ Y.bl i
  pub tr_new : (i : ℕ) → Is P i → i ≢ a → Y.tr i ≡ j → Z.tr i ≡ a
  pub tr_old : (i : ℕ) → Is P i → i ≢ a → Y.tr i ≢ j → Z.tr i ≡ Y.tr i

module _ (P Q : Plane) (Z Y : Stitches) (a j c : ℕ) (g : Good Q Y) (s : Cut P Q a j c) (y : JoinStitches P Y Z a j) where
  not_none : (n : ℕ) → n ≡ Y.none → n ≢ j
  not_none n e d = omega (arith, e, d, g.none, s.box)

  up_join : (n m x z x' z' : ℕ) → x ≡ x' → z ≡ z' → Up Q Y.none n x z → (HoldsUp Q n x z → n ≡ j → m ≡ a) → (n ≢ j → m ≡ n) → Up P Z.none m x' z'
  up_join n m x z x' z' ex ez u new old =
      let b = s.box in
      subst₂ (λ x z. Up P Z.none m x z) ex ez (record {
        inside = λ h k.
            let v = u.inside (omega arith) (omega arith) in
            eq_cases n j
            (λ e. subst (λ n. HoldsUp P n x z) (sym (new v e)) (up_joined P Q a j c s x z (subst (λ n. UpAt Q n x z) e v.at)))
            (λ d. subst (λ n. HoldsUp P n x z) (sym (old d)) (up_before P Q a j c s n x z v d));
        left = λ h. let e = u.left (omega arith) in old (not_none n e) ∙ e ∙ sym y.none;
        over = λ h. let e = u.over (omega arith) in old (not_none n e) ∙ e ∙ sym y.none;
      })

  down_join : (n m x z x' z' : ℕ) → x ≡ x' → z ≡ z' → Down Q Y.none n x z → (HoldsDown Q n x z → n ≡ j → m ≡ a) → (n ≢ j → m ≡ n) → Down P Z.none m x' z'
  down_join n m x z x' z' ex ez u new old =
      let b = s.box in
      subst₂ (λ x z. Down P Z.none m x z) ex ez (record {
        inside = λ h k.
            let v = u.inside (omega arith) (omega arith) in
            eq_cases n j
            (λ e. subst (λ n. HoldsDown P n x z) (sym (new v e)) (down_joined P Q a j c s x z (subst (λ n. DownAt Q n x z) e v.at)))
            (λ d. subst (λ n. HoldsDown P n x z) (sym (old d)) (down_before P Q a j c s n x z v d));
        right = λ h. let e = u.right (omega arith) in old (not_none n e) ∙ e ∙ sym y.none;
        under = λ h. let e = u.under (omega arith) in old (not_none n e) ∙ e ∙ sym y.none;
      })

  made : Is Q j
  made = is_made P Q a j c s

  -- only a has j on its top side
  rt_only : (i : ℕ) → Is P i → i ≢ a → SameBox P Q i → HoldsUp Q (Y.rt i) (Q.r i) (Q.t i) → Y.rt i ≢ j
  rt_only i u n e v d =
      let b = s.box in
      let u' = is_after P Q a j c s i u in
      let w = g.formed i u' in
      let x = g.formed a (is_after P Q a j c s a s.is) in
      let k = same_tile Q (Y.rt i) j d in
      let o = on_top Q g.formed g.disjoint i (Y.rt i) (Q.r i) u' v (omega arith) (omega arith) in
      n (same Q g.formed g.disjoint i a (Q.r i - 1) (c - 1) u' (is_after P Q a j c s a s.is) (omega arith) (omega arith)).number

  -- j is at no corner of a
  bl_self : (n : ℕ) → HoldsUp Q n (Q.l a) (Q.b a) → n ≢ j
  bl_self n v d = omega (arith, v.at, same_tile Q n j d, s.box)

  lb_self : (n : ℕ) → HoldsDown Q n (Q.l a) (Q.b a) → n ≢ j
  lb_self n v d = omega (arith, v.at, same_tile Q n j d, s.box)

  rt_join : (i : ℕ) → Is P i → Up P Z.none (Z.rt i) (P.r i) (P.t i)
  rt_join =
      let b = s.box in
      which_before P Q a j c s {C = λ i. Up P Z.none (Z.rt i) (P.r i) (P.t i)}
      (up_join (Y.rt j) (Z.rt a) (Q.r j) (Q.t j) (P.r a) (P.t a) b.j_r b.j_t (g.rt j made)
      (λ v d. absurd (omega (arith, v.at, same_tile Q (Y.rt j) j d))) (λ _. y.a_rt))
      (λ i u n e. up_join (Y.rt i) (Z.rt i) (Q.r i) (Q.t i) (P.r i) (P.t i) e.r e.t (g.rt i (is_after P Q a j c s i u))
      (λ v d. absurd (rt_only i u n e v d)) (λ _. y.rt i u n))

  tr_join : (i : ℕ) → Is P i → Down P Z.none (Z.tr i) (P.r i) (P.t i)
  tr_join =
      let b = s.box in
      which_before P Q a j c s {C = λ i. Down P Z.none (Z.tr i) (P.r i) (P.t i)}
      (down_join (Y.tr j) (Z.tr a) (Q.r j) (Q.t j) (P.r a) (P.t a) b.j_r b.j_t (g.tr j made)
      (λ v d. absurd (omega (arith, v.at, same_tile Q (Y.tr j) j d))) (λ _. y.a_tr))
      (λ i u n e. down_join (Y.tr i) (Z.tr i) (Q.r i) (Q.t i) (P.r i) (P.t i) e.r e.t (g.tr i (is_after P Q a j c s i u))
      (λ v d. y.tr_new i u n d) (y.tr_old i u n))

  bl_join : (i : ℕ) → Is P i → Up P Z.none (Z.bl i) (P.l i) (P.b i)
  bl_join =
      let b = s.box in
      which_before P Q a j c s {C = λ i. Up P Z.none (Z.bl i) (P.l i) (P.b i)}
      (up_join (Y.bl a) (Z.bl a) (Q.l a) (Q.b a) (P.l a) (P.b a) b.a_l b.a_b (g.bl a (is_after P Q a j c s a s.is))
      (λ v d. absurd (bl_self (Y.bl a) v d)) (λ _. y.a_bl))
      (λ i u n e. up_join (Y.bl i) (Z.bl i) (Q.l i) (Q.b i) (P.l i) (P.b i) e.l e.b (g.bl i (is_after P Q a j c s i u))
      (λ v d. y.bl_new i u n d) (y.bl_old i u n))

  lb_join : (i : ℕ) → Is P i → Down P Z.none (Z.lb i) (P.l i) (P.b i)
  lb_join =
      let b = s.box in
      which_before P Q a j c s {C = λ i. Down P Z.none (Z.lb i) (P.l i) (P.b i)}
      (down_join (Y.lb a) (Z.lb a) (Q.l a) (Q.b a) (P.l a) (P.b a) b.a_l b.a_b (g.lb a (is_after P Q a j c s a s.is))
      (λ v d. absurd (lb_self (Y.lb a) v d)) (λ _. y.a_lb))
      (λ i u n e. down_join (Y.lb i) (Z.lb i) (Q.l i) (Q.b i) (P.l i) (P.b i) e.l e.b (g.lb i (is_after P Q a j c s i u))
      (λ v d. y.lb_new i u n d) (y.lb_old i u n))

  pub join : Good P Z
  join = record {
    formed = formed_before P Q a j c s g.formed;
    covered = covered_before P Q a j c s g.covered;
    disjoint = disjoint_before P Q a j c s g.disjoint;
    none = omega (arith, g.none, y.none, s.box.R);
    rt = rt_join;
    bl = bl_join;
    tr = tr_join;
    lb = lb_join;
  }
