-- The loops of a split along the top, the right and the left side of a tile, in the plane's own numbers. Assumes nothing.
use Rattle.std.specs.Prelude.{◌≡◌, ◌≢◌, ℕ, ◌<◌}
use Rattle.std.proofs.Common.{sym, ◌∙◌, subst, arith}
use Rattle.geometry.specs.Cases.{eq_cases}
use Rattle.geometry.specs.Plane.{Plane, Is}
use Rattle.geometry.specs.Stitches.{Stitches, Up, Down, Good}
use Rattle.geometry.specs.Turns.{swap, swap_stitches, turn, turn_stitches, opp, swap_is, is_swap, turn_is, is_turn, swap_up, swap_down, up_turn, good_swap, good_turn}
use Rattle.geometry.specs.Walk.{Front, Repointed, over_lb}
use Rattle.geometry.specs.Split.{SplitStitches}

module _ (P : Plane) (Z : Stitches) (g : Good P Z) where
  -- ---- the plane seen from the left side

  abbrev pub L : Plane
  L = turn (swap P)

  abbrev pub LZ : Stitches
  LZ = turn_stitches (swap_stitches Z)

  pub gl : Good L LZ
  gl = good_turn (swap P) (swap_stitches Z) (good_swap P Z g)

  pub is_left : (i : ℕ) → Is P i → Is L i
  is_left i u = turn_is (swap P) i (swap_is P i u)

  pub left_is : (i : ℕ) → Is L i → Is P i
  left_is i u = is_swap P i (is_turn (swap P) i u)

  -- ---- the loops of a split at row c
  -- top side: `lb` that named a, to j. right side, from the top down to c: `bl`; it stops at kr. left side, from the bottom up to kl, over c: `tr`.

  pub record SplitLoops (Y : Stitches) (a j c kr kl : ℕ) (lb bl tr : ℕ → ℕ) : Type 0 where
    pub over : Repointed P a j (P.l a) (P.r a) Z.lb lb
    pub right : Repointed (swap P) a j c (P.t a) Z.bl bl
    pub at_right : Front (swap P) (swap_stitches Z) (good_swap P Z g) a kr c
    pub at_left : Front L LZ gl a kl (opp P c)
    pub left : Repointed L a j (opp P (P.t a)) (opp P c) Z.tr tr
    pub none : Y.none ≡ Z.none
    pub lb_is : (i : ℕ) → i ≢ j → Y.lb i ≡ lb i
    pub bl_is : (i : ℕ) → i ≢ j → Y.bl i ≡ bl i
    pub tr_is : (i : ℕ) → i ≢ j → i ≢ a → Y.tr i ≡ tr i
    pub rt_is : (i : ℕ) → Is P i → i ≢ a → Y.rt i ≡ Z.rt i
    pub a_tr : Y.tr a ≡ kr
    pub a_rt : Y.rt a ≡ j
    pub j_rt : Y.rt j ≡ Z.rt a
    pub j_tr : Y.tr j ≡ Z.tr a
    pub j_bl : Y.bl j ≡ kl
    pub j_lb : Y.lb j ≡ a

  pub loops_split : (Y : Stitches) (a j c kr kl : ℕ) (lb bl tr : ℕ → ℕ) → Is P a → ((i : ℕ) → Is P i → i ≢ j) → P.b a < c → c < P.t a
      → SplitLoops Y a j c kr kl lb bl tr → SplitStitches P Z Y a j c
  loops_split Y a j c kr kl lb bl tr u fresh h q s =
      let w = g.formed a u in
      let na = fresh a u in
      record {
        none = s.none;
        a_rt = s.a_rt;
        a_tr = subst (λ n. Down P Z.none n (P.r a) c) (sym s.a_tr) (swap_up (swap P) Z.none kr c (P.r a) s.at_right.up);
        a_bl = s.bl_is a na ∙ s.right.ahead a (swap_is P a u) h;
        a_lb = s.lb_is a na ∙ s.over.other a u (λ e. omega (arith, over_lb P Z g a a u u e));
        j_rt = s.j_rt;
        j_tr = s.j_tr;
        j_bl = subst (λ n. Up P Z.none n (P.l a) c) (sym s.j_bl)
            (swap_down (swap P) Z.none kl c (P.l a)
            (up_turn (swap P) (good_swap P Z g).formed Z.none kl c (P.l a) (omega arith) s.at_left.up));
        j_lb = s.j_lb;
        rt = s.rt_is;
        lb_new = λ i v n e. let o = over_lb P Z g a i u v e in s.lb_is i (fresh i v) ∙ s.over.changed i v e o.left o.right;
        lb_old = λ i v n d. s.lb_is i (fresh i v) ∙ s.over.other i v d;
        bl_new = λ i v n e k.
            let o = over_lb (swap P) (swap_stitches Z) (good_swap P Z g) a i (swap_is P a u) (swap_is P i v) e in
            s.bl_is i (fresh i v) ∙ s.right.changed i (swap_is P i v) e k o.right;
        bl_old = λ i v n k. s.bl_is i (fresh i v) ∙ eq_cases (Z.bl i) a
            (λ e. s.right.ahead i (swap_is P i v) (k e)) (λ d. s.right.other i (swap_is P i v) d);
        tr_new = λ i v n e k.
            let x = g.formed i v in
            let o = over_lb L LZ gl a i (is_left a u) (is_left i v) e in
            s.tr_is i (fresh i v) n ∙ s.left.changed i (is_left i v) e o.left (omega arith);
        tr_old = λ i v n k.
            let x = g.formed i v in
            s.tr_is i (fresh i v) n ∙ eq_cases (Z.tr i) a
            (λ e. let k' = k e in s.left.before i (is_left i v) (omega arith)) (λ d. s.left.other i (is_left i v) d);
      }
