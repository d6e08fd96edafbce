-- The walk along a tile's top side, from right to left: which tiles it meets, and the stitches that name the tile.
-- The other three sides are the same, seen by `swap` and `turn`. Assumes nothing.
use Rattle.std.specs.Prelude.{◌≡◌, ◌≢◌, ℕ, ◌≤◌, ◌<◌}
use Rattle.std.proofs.Common.{ap, ◌∙◌, subst, arith}
use Rattle.geometry.specs.Cases.{lt_cases, eq_cases}
use Rattle.geometry.specs.Plane.{Plane, Is, At, hi}
use Rattle.geometry.specs.Stitches.{Stitches, HoldsUp, Up, Good, Same, same_tile, same, down_one, on_top, on_left, apart}

-- tile k stands on the top side of a
pub record Stands (P : Plane) (a k : ℕ) : Type 0 where
  pub is : Is P k
  pub bottom : P.b k ≡ P.t a
  pub left : P.l a < P.r k
  pub right : P.l k < P.r a

-- what comes after k on the walk
pub record Next (P : Plane) (a k n : ℕ) : Type 0 where
  pub stands : Stands P a n
  pub ends : P.r n ≡ P.l k

module _ (P : Plane) (Z : Stitches) (g : Good P Z) where
  same' : (i j x y : ℕ) → Is P i → Is P j → At P i x y → At P j x y → Same P i j
  same' = same P g.formed g.disjoint

  -- ---- the walk along a side

  pub walk_start : (a : ℕ) → Is P a → P.t a < hi P → Stands P a (Z.rt a) × (P.r a ≤ P.r (Z.rt a))
  walk_start a u h =
      let w = g.formed a u in
      let v = (g.rt a u).inside (omega arith) h in
      let e = on_top P g.formed g.disjoint a (Z.rt a) (P.r a) u v (omega arith) (omega arith) in
      (record { is = v.is; bottom = e; left = omega arith; right = omega arith }, omega arith)

  pub walk_next : (a k : ℕ) → Is P a → Stands P a k → P.l a < P.l k → Next P a k (Z.bl k)
  walk_next a k u s h =
      let w = g.formed a u in
      let z = g.formed k s.is in
      let v = (g.bl k s.is).inside (omega arith) (omega arith) in
      let x = g.formed (Z.bl k) v.is in
      let e : P.r (Z.bl k) ≡ P.l k = on_left P g.formed g.disjoint k (Z.bl k) (P.b k) s.is v (omega arith) (omega arith) in
      let v' : HoldsUp P (Z.bl k) (P.l k) (P.t a) = record { is = v.is; at = omega arith } in
      let d : P.b (Z.bl k) ≡ P.t a = on_top P g.formed g.disjoint a (Z.bl k) (P.l k) u v' (omega arith) (omega arith) in
      record { stands = record { is = v.is; bottom = d; left = omega arith; right = omega arith }; ends = e }

  -- two tiles that stand on one side
  among : {C : Type 0} (a k m : ℕ) → Stands P a k → Stands P a m → (P.r m ≤ P.l k → C) → (m ≡ k → C) → (P.r k ≤ P.l m → C) → C
  among a k m s q before one after = apart P g.formed g.disjoint m k q.is s.is (omega arith) before one after

  -- each that stands there is the first, or left of it; and each that is left of k is the one after k, or left of that
  pub meets_start : {C : Type 0} (a m : ℕ) → Is P a → P.t a < hi P → Stands P a m → (m ≡ Z.rt a → C) → (P.r m ≤ P.l (Z.rt a) → C) → C
  meets_start a m u h q one before =
      let (s, e) = walk_start a u h in
      among a (Z.rt a) m s q before one (λ o. absurd (omega arith))

  pub meets_next : {C : Type 0} (a k m : ℕ) → Is P a → Stands P a k → Stands P a m → P.r m ≤ P.l k → (m ≡ Z.bl k → C) → (P.r m ≤ P.l (Z.bl k) → C) → C
  meets_next a k m u s q h one before =
      let n = walk_next a k u s (omega arith) in
      let z = g.formed m q.is in
      among a (Z.bl k) m n.stands q before one (λ o. absurd (omega arith))

  -- ---- the tiles whose `lb` names a

  pub record Over (a m : ℕ) : Type 0 where
    pub bottom : P.b m ≡ P.t a
    pub left : P.l a ≤ P.l m
    pub right : P.l m < P.r a

  pub over_lb : (a m : ℕ) → Is P a → Is P m → Z.lb m ≡ a → Over a m
  over_lb a m u v e =
      let w = g.formed a u in
      let z = g.formed m v in
      lt_cases P.lo (P.b m)
      (λ h.
      let d = ((g.lb m v).inside (omega arith) h).at in
      let k = same_tile P (Z.lb m) a e in
      lt_cases (P.b m) (P.t a)
      (λ q. absurd (omega (arith, same' a m (P.l m) (P.b m) u v (omega arith) (omega arith))))
      (λ q. omega arith))
      (λ h. absurd (omega (arith, (g.lb m v).under h, g.none, u.below)))

  pub lb_over : (a m : ℕ) → Is P a → Is P m → Over a m → Z.lb m ≡ a
  lb_over a m u v o =
      let w = g.formed a u in
      let z = g.formed m v in
      let d = (g.lb m v).inside (omega arith) (omega arith) in
      down_one P g.formed g.disjoint (Z.lb m) a (P.l m) (P.b m) d (record { is = u; at = omega arith })

  -- k names the tile up and left of the point p of a's top side
  pub record Front (a k p : ℕ) : Type 0 where
    pub up : Up P Z.none k p (P.t a)
    pub from : P.l a ≤ p
    pub to : p ≤ P.r a

  pub front_start : (a : ℕ) → Is P a → Front a (Z.rt a) (P.r a)
  front_start a u = let w = g.formed a u in record { up = g.rt a u; from = omega arith; to = omega arith }

  -- where k is a tile
  pub front_holds : (a k p : ℕ) → Front a k p → k ≢ Z.none → HoldsUp P k p (P.t a)
  front_holds a k p f n =
      lt_cases P.lo p
      (λ h. lt_cases (P.t a) (hi P) (λ q. f.up.inside h q) (λ q. absurd (n (f.up.over q))))
      (λ h. absurd (n (f.up.left h)))

  pub front_next : (a k p : ℕ) → Is P a → Front a k p → k ≢ Z.none → Z.lb k ≡ a → Front a (Z.bl k) (P.l k) × (P.l k < p)
  front_next a k p u f n e =
      let v = front_holds a k p f n in
      let o = over_lb a k u v.is e in
      (record { up = subst (λ y. Up P Z.none (Z.bl k) (P.l k) y) o.bottom (g.bl k v.is); from = omega arith; to = omega arith }, omega arith)

  -- k is up and left of q as well, if it begins left of q: so a walk finds the tile at a point
  pub front_at : (a k p q : ℕ) → Front a k p → (k ≢ Z.none → P.l k < q) → P.l a ≤ q → q ≤ p → Front a k q
  front_at a k p q f h from le = record {
    up = record {
      inside = λ i j.
          let v = f.up.inside (omega arith) j in
          record { is = v.is; at = omega (arith, h (λ e. omega (arith, e, v.is.below, g.none))) };
      left = left;
      over = f.up.over;
    };
    from = from;
    to = omega arith;
  }
    where
      left : q ≤ P.lo → k ≡ Z.none
      left i = lt_cases P.lo p
          (λ j. eq_cases k Z.none (λ e. e) (λ n. let v = front_holds a k p f n in absurd (omega (arith, h n, g.formed k v.is))))
          (λ j. f.up.left j)

  -- of the tiles over a that begin left of p, k is one, or none is
  pub front_last : (a k p m : ℕ) → Is P a → Front a k p → Is P m → Z.lb m ≡ a → P.l m < p → (k ≢ Z.none) × (Z.lb k ≡ a) × (m ≢ k → P.l m < P.l k)
  front_last a k p m u f v e h =
      let w = g.formed m v in
      let o = over_lb a m u v e in
      let y = g.formed a u in
      let s = f.up.inside (omega arith) (omega arith) in
      let z = g.formed k s.is in
      let d : P.b k ≡ P.t a = on_top P g.formed g.disjoint a k p u s (omega arith) f.to in
      apart P g.formed g.disjoint m k v s.is (omega arith)
      (λ q. (λ n. omega (arith, n, s.is.below, g.none), lb_over a k u s.is (omega arith), λ n. omega arith))
      (λ c. (λ n. omega (arith, n, s.is.below, g.none), subst (λ i. Z.lb i ≡ a) c e, λ n. absurd (n c)))
      (λ q. absurd (omega arith))

-- ---- the loop `while k ≠ none and lb k = a and q ≤ l k { lb k := j; k = bl k }`, begun at the point p₀ and come to the point p

pub record Repointed (P : Plane) (a j p p₀ : ℕ) (old new : ℕ → ℕ) : Type 0 where
  pub changed : (m : ℕ) → Is P m → old m ≡ a → p ≤ P.l m → P.l m < p₀ → new m ≡ j
  pub other : (m : ℕ) → Is P m → old m ≢ a → new m ≡ old m
  pub ahead : (m : ℕ) → Is P m → P.l m < p → new m ≡ old m
  pub before : (m : ℕ) → Is P m → p₀ ≤ P.l m → new m ≡ old m

module _ (P : Plane) (Z : Stitches) (g : Good P Z) where
  -- the loop's test reads what was there before
  pub repoint_reads : (a j k p p₀ : ℕ) (new : ℕ → ℕ) → Front P Z g a k p → k ≢ Z.none → Repointed P a j p p₀ Z.lb new → new k ≡ Z.lb k
  repoint_reads a j k p p₀ new f n s = let v = front_holds P Z g a k p f n in s.ahead k v.is (omega arith)

  pub repoint_next : (a j k p p₀ : ℕ) (new newer : ℕ → ℕ) → Is P a → Front P Z g a k p → p ≤ p₀ → k ≢ Z.none → Z.lb k ≡ a
      → Repointed P a j p p₀ Z.lb new → newer k ≡ j → ((m : ℕ) → m ≢ k → newer m ≡ new m)
      → Repointed P a j (P.l k) p₀ Z.lb newer
  repoint_next a j k p p₀ new newer u f b n e s at off =
      let v = front_holds P Z g a k p f n in
      record {
        changed = λ m w d h i. eq_cases m k (λ c. ap newer c ∙ at)
            (λ c. off m c ∙ lt_cases (P.l m) p
            (λ q. absurd (omega (arith, (front_last P Z g a k p m u f w d q).2 c)))
            (λ q. s.changed m w d q i));
        other = λ m w d. eq_cases m k (λ c. absurd (d (ap Z.lb c ∙ e))) (λ c. off m c ∙ s.other m w d);
        ahead = λ m w h. off m (λ c. omega (arith, ap P.l c)) ∙ s.ahead m w (omega arith);
        before = λ m w h. off m (λ c. omega (arith, ap P.l c, v.at)) ∙ s.before m w h;
      }

  -- the loop has changed each one from q on, when it stops
  pub repoint_ends : (a j k p p₀ q : ℕ) (new : ℕ → ℕ) → Is P a → Front P Z g a k p → Repointed P a j p p₀ Z.lb new
      → (k ≢ Z.none → Z.lb k ≡ a → P.l k < q) → q ≤ p → Repointed P a j q p₀ Z.lb new
  repoint_ends a j k p p₀ q new u f s stop le = record {
    changed = λ m w d h i. lt_cases (P.l m) p
        (λ o.
        let (n, e, rest) = front_last P Z g a k p m u f w d o in
        eq_cases m k (λ c. absurd (omega (arith, ap P.l c, stop n e))) (λ c. absurd (omega (arith, rest c, stop n e))))
        (λ o. s.changed m w d o i);
    other = s.other;
    ahead = λ m w h. s.ahead m w (omega arith);
    before = s.before;
  }
