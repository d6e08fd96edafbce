-- What touching says of cells, and of sets of solids: 02's #103. Assumes nothing.
use Rattle.std.specs.Prelude.{◌≡◌, refl, ◌↔◌, ℕ, suc, ◌-◌, ◌≤◌, ◌<◌, max}
use Rattle.std.proofs.Common.{sym, ap, ◌∙◌, subst₂, arith}
use Rattle.geometry.specs.Cases.{lt_cases}
use Rattle.geometry.specs.Picture.{SOLID, Tile, Has, Limits, Solids, In, Apart, Touch, Joined, Drawn, TileOf, solid, space}
use Rattle.geometry.specs.Tiling.{solids_of, solid_used, kind_solid, eq→eqb}

pub touch_sym : (v w : Tile) → Touch v w → Touch w v
touch_sym v w t = omega arith

-- ---- by cells

-- two cells that are one, or beside or diagonal to each other
pub record Near (x y x' y' : ℕ) : Type 0 where
  pub left : x ≤ suc x'
  pub right : x' ≤ suc x
  pub bottom : y ≤ suc y'
  pub top : y' ≤ suc y

-- a cell of v and one of w that are near
pub record NearCells (v w : Tile) : Type 0 where
  pub x : ℕ
  pub y : ℕ
  pub x' : ℕ
  pub y' : ℕ
  pub has : Has v x y
  pub has' : Has w x' y'
  pub near : Near x y x' y'

-- two numbers at most one apart, in two intervals that meet or abut
record NearIn (a b c d : ℕ) : Type 0 where
  p : ℕ
  q : ℕ
  from : a ≤ p
  to : p < b
  from' : c ≤ q
  to' : q < d
  under : p ≤ suc q
  over : q ≤ suc p

near_in : (a b c d : ℕ) → a < b → c < d → a ≤ d → c ≤ b → NearIn a b c d
near_in a b c d ab cd ad cb =
    lt_cases a d
    (λ h. lt_cases c b (λ k. both h k)
    (λ k. record { p = b - 1; q = c; from = omega arith; to = omega arith; from' = omega arith; to' = cd; under = omega arith; over = omega arith }))
    (λ h. record { p = a; q = d - 1; from = omega arith; to = ab; from' = omega arith; to' = omega arith; under = omega arith; over = omega arith })
  where
    both : a < d → c < b → NearIn a b c d
    both h k = record {
      p = max a c;
      q = max a c;
      from = omega arith;
      to = omega arith;
      from' = omega arith;
      to' = omega arith;
      under = omega arith;
      over = omega arith;
    }

touch_near : (v w : Tile) → Limits v → Limits w → Touch v w → NearCells v w
touch_near v w p q t =
    let x = near_in v.left v.right w.left w.right p.wide q.wide t.left t.right in
    let y = near_in v.bottom v.top w.bottom w.top p.high q.high t.bottom t.top in
    record {
      x = x.p;
      y = y.p;
      x' = x.q;
      y' = y.q;
      has = record { left = x.from; right = x.to; bottom = y.from; top = y.to };
      has' = record { left = x.from'; right = x.to'; bottom = y.from'; top = y.to' };
      near = record { left = x.under; right = x.over; bottom = y.under; top = y.over };
    }

near_touch : (v w : Tile) → NearCells v w → Touch v w
near_touch v w n = omega arith

-- Solids touch exactly where some cell of one is a cell of the other, or beside it, or diagonal to it.
pub touch_cells : (v w : Tile) → Limits v → Limits w → Touch v w ↔ NearCells v w
touch_cells v w p q = (touch_near v w p q, near_touch v w)

-- ---- the solids of a table are those of its picture, so one may be said for the other

module _ (R : ℕ) (tile : ℕ → Tile) (S : Solids) (a : Apart S) (d : Drawn R tile S) where
  record Same (i k : ℕ) : Type 0 where
    drawn : In S k
    found : In (solids_of R tile) i
    same : tile i ≡ S.at k

  recorded : (k : ℕ) → In S k → (i : ℕ) × Same i k
  recorded k h =
      let (i, u, e) = d.all (S.at k) (solid k h refl) in
      (i, record { drawn = h; found = record { below = u.below; is = eq→eqb (tile i).paint.kind SOLID (ap (λ v. v.paint.kind) e ∙ a.kind k h) }; same = e })

  drawn_of : (i : ℕ) → In (solids_of R tile) i → (k : ℕ) × Same i k
  drawn_of i h = go (d.each i (solid_used R tile i h.below h.is))
    where
      go : TileOf S (tile i) → (k : ℕ) × Same i k
      go (solid k u e) = (k, record { drawn = u; found = h; same = e })
      go (space p s) = absurd (omega (arith, p.kind, kind_solid R tile i h.is))

  pub drawn_joined : Joined S ↔ Joined (solids_of R tile)
  drawn_joined = (to, from)
    where
      to : Joined S → Joined (solids_of R tile)
      to f i j u v t =
          let (k, p) = drawn_of i u in
          let (l, q) = drawn_of j v in
          ap (λ v. v.paint.label) p.same ∙ f k l p.drawn q.drawn (subst₂ Touch p.same q.same t) ∙ sym (ap (λ v. v.paint.label) q.same)

      from : Joined (solids_of R tile) → Joined S
      from f k l u v t =
          let (i, p) = recorded k u in
          let (j, q) = recorded l v in
          sym (ap (λ v. v.paint.label) p.same) ∙ f i j p.found q.found (subst₂ Touch (sym p.same) (sym q.same) t) ∙ ap (λ v. v.paint.label) q.same
