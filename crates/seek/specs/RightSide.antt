-- The walk along the right side of tile p, down to the area's lowest row: how far it has come, and which of the tiles that it meets hang under p.
-- Assumes nothing.
use Rattle.std.specs.Prelude.{◌≡◌, refl, ◌↔◌, ◌⊎◌, Option, Some, None, List, ℕ, ◌+◌, ◌-◌, ◌≤◌, ◌<◌, max, ℤ, length, get_or}
use Rattle.std.proofs.Common.{sym, ap, ◌∙◌, subst, inl, inr, arith}
use Rattle.std.proofs.lemmas.Option.{same_Some, none-some}
use Rattle.geometry.specs.Cases.{lt_cases}
use Rattle.geometry.specs.Picture.{LOW, HIGH, right}
use Rattle.table.specs.Words.{LEFT, BOTTOM, RIGHT, TOP, records_of, num}
use Rattle.table.specs.Forms.{Forms, is_used}
use Rattle.seek.specs.Meaning.{Area, Over, Meets, Hangs}
use Rattle.seek.specs.Neighbours.{Neighbour, Neighbours}
use Rattle.seek.specs.Walk.{Place, Begins, Steps, Goes}
use Rattle.seek.specs.Search.{one_tile}
use Rattle.seek.specs.Sides.{neighbours_some}
use Rattle.seek.specs.Hanging.{formed, same_numbers, hangs_beside}
use Rattle.seek.specs.declared.side.Walk.{Walk}

abbrev pub MetOf : List ℕ → ℕ → ℕ → Type 0
MetOf L n k = (j : ℕ) × (j < n) × (get_or L j 0 ≡ k)

-- the walk has met the first tiles of p's right side; while it goes on, all that it has met begin over the area's lowest row
pub record Walking (t : List ℤ) (A : Area) (p : ℕ) (w : Walk) : Type 0 where
  pub tiles : List ℕ
  pub are : Neighbours t right p tiles
  pub met : ℕ
  pub place : (at : ℕ) → w.at ≡ Some at → Place t right p tiles met w
  pub above : (at : ℕ) → w.at ≡ Some at → (j : ℕ) → j < met → A.bottom < num t (get_or tiles j 0) BOTTOM
  pub done : w.at ≡ None → (k : ℕ) → Hangs t A p k → MetOf tiles met k

-- the tiles that it has met
abbrev pub Met : {t : List ℤ} {A : Area} {p : ℕ} {w : Walk} → Walking t A p w → ℕ → Type 0
Met g = MetOf g.tiles g.met

-- a walk that has met nothing yet
pub record Started (t : List ℤ) (A : Area) (p : ℕ) (w : Walk) : Type 0 where
  pub walk : Walking t A p w
  pub none : (k : ℕ) → Met walk k → ⊥

-- the walk one tile further than the tile `at`
pub record Onward {t : List ℤ} {A : Area} {p : ℕ} {w : Walk} (g : Walking t A p w) (at : ℕ) (w' : Walk) : Type 0 where
  pub walk : Walking t A p w'
  pub grows : (k : ℕ) → Met g k → Met walk k
  pub here : Met walk at
  pub no_other : (k : ℕ) → Met walk k → Met g k ⊎ (k ≡ at)

-- what comes after a walk's tile: the next one, or the end where all that follow lie under the area
pub data Follows (t : List ℤ) (bottom : ℕ) (w w' : Walk) : Type 0 where
  stops : (k : ℕ) → w.at ≡ Some k → num t k BOTTOM ≤ bottom → w'.at ≡ None → Follows t bottom w w'
  steps : (k : ℕ) → w.at ≡ Some k → bottom < num t k BOTTOM → Steps t w w' → Follows t bottom w w'

pub goes_below : (t : List ℤ) (w : Walk) (g : Goes t w) → g.at < records_of t
goes_below t w g = let h = g.place.here g.at g.stands in omega (arith, h.is, (g.are.each g.count h.below).used.below)

-- a number that falls as a walk along a right side goes on
abbrev pub left_at : List ℤ → Option ℕ → ℕ
left_at t None = 0
left_at t (Some k) = 1 + num t k BOTTOM

abbrev pub left_of_walk : List ℤ → Walk → ℕ
left_of_walk t w = left_at t w.at

one_more : (t : List ℤ) (w : Walk) (k : ℕ) → w.at ≡ Some k → left_of_walk t w ≡ 1 + num t k BOTTOM
one_more t w k e = ap (left_at t) e

no_more : (t : List ℤ) (w : Walk) → w.at ≡ None → left_of_walk t w ≡ 0
no_more t w e = ap (left_at t) e

-- the plane's rows n from the floor up are those that p reaches down to, where a row under the area stands for the area's lowest
abbrev pub Floor : List ℤ → ℕ → ℕ → ℕ → Type 0
Floor t p bottom floor = (n : ℕ) → LOW ≤ n → (floor ≤ n) ↔ (num t p BOTTOM ≤ max n bottom)

module _ (t : List ℤ) (f : Forms t) (A : Area) (p : ℕ) (m : Meets t A p) where
  hangs_neighbour : (k : ℕ) → Hangs t A p k → Neighbour t right p k
  hangs_neighbour k h =
      let b = hangs_beside t f A p k h in
      record { used = h.meets.used; touches = record { line = sym b.ends; one = b.lower; other = b.higher } }

  hangs_floor : (floor k : ℕ) → Floor t p A.bottom floor → Hangs t A p k → floor ≤ num t k BOTTOM
  hangs_floor floor k l h = (l (num t k BOTTOM) (formed t f k h.meets.used).y_lo).1 h.has.bottom

  -- in each of its rows p has a neighbour at its right, if the plane goes on there
  neighbour_in : (y : ℕ) → num t p BOTTOM ≤ y → y < num t p TOP → num t p RIGHT < HIGH
      → (k : ℕ) × Neighbour t right p k × (num t k BOTTOM ≤ y) × (y < num t k TOP)
  neighbour_in y b c r =
      let z = formed t f p m.used in
      let (k, o) = f.good.covered (num t p RIGHT) y (omega (arith, z)) in
      let u = is_used t k o.is in
      let e : num t k LEFT ≡ num t p RIGHT =
      lt_cases (num t k LEFT) (num t p RIGHT)
      (λ l. absurd (omega (arith, o.at, same_numbers t p k (one_tile t f p k (num t p RIGHT - 1) y m.used u (omega (arith, z)) (omega (arith, o.at))))))
      (λ l. omega (arith, o.at)) in
      (k, record { used = u; touches = record { line = e; one = omega (arith, o.at); other = omega (arith, o.at) } }, omega (arith, o.at), omega (arith, o.at))

  pub walking_starts : (w : Walk) → Begins t right p w → Started t A p w
  unfolding Begins
  walking_starts w b =
      let (L, l) = neighbours_some t f right p m.used in
      record {
        walk = record {
          tiles = L;
          are = l;
          met = 0;
          place = λ _ _. b L l;
          above = λ _ _ j h. omega arith;
          done = λ e k h. let (j, o, i) = l.all k (hangs_neighbour k h) in (j, omega (arith, (b L l).done e), i);
        };
        none = λ k q. omega (arith, q.1);
      }

  -- the walk stands at a tile
  module _ (w : Walk) (g : Walking t A p w) (at : ℕ) (e : w.at ≡ Some at) where
    pub walking_goes : Goes t w
    walking_goes = record { side = right; of = p; list = g.tiles; count = g.met; used = m.used; are = g.are; place = g.place at e; at = at; stands = e }

    here : get_or g.tiles g.met 0 ≡ at
    here = sym ((g.place at e).here at e).is

    pub walking_at : Neighbour t right p at
    walking_at = subst (Neighbour t right p) here (g.are.each g.met ((g.place at e).here at e).below)

    -- the tiles that are not met yet do not lie higher
    not_higher : (j : ℕ) → g.met ≤ j → j < length g.tiles → let k = get_or g.tiles j 0 in (num t k BOTTOM ≤ num t at BOTTOM) × (num t k TOP ≤ num t at TOP)
    not_higher j q h =
        let x = formed t f at walking_at.used in
        let z = formed t f (get_or g.tiles j 0) (g.are.each j h).used in
        lt_cases g.met j
        (λ o. omega (arith, g.are.order g.met j o h, same_numbers t _ _ here))
        (λ o. let d : j ≡ g.met = omega arith in omega (arith, same_numbers t _ _ (ap (λ j. get_or g.tiles j 0) d ∙ here)))

    -- the tile does not lie under the area: else the walk would have met the neighbour that has the area's lowest row
    not_below : num t at TOP ≤ A.bottom → (k : ℕ) → Neighbour t right p k → num t k BOTTOM ≤ A.bottom → A.bottom < num t k TOP → ⊥
    not_below o k n b c =
        let (j, h, i) = g.are.all k n in
        let s = same_numbers t (get_or g.tiles j 0) k i in
        lt_cases j g.met (λ q. omega (arith, g.above at e j q)) (λ q. omega (arith, not_higher j q h))

    walking_above : A.bottom < num t at TOP
    walking_above = lt_cases A.bottom (num t at TOP) (λ o. o)
        (λ o.
        let s = walking_at.touches in
        let z = formed t f at walking_at.used in
        let (k, n, b, c) = neighbour_in A.bottom (omega (arith, s)) m.top (omega (arith, s, z)) in
        absurd (not_below o k n b c))

    -- it hangs under p, where it begins at the floor or over it and under the area's top, and where p ends in the area
    pub walking_hangs : (floor : ℕ) → Floor t p A.bottom floor → num t p RIGHT < A.right → floor ≤ num t at BOTTOM → num t at BOTTOM < A.top
        → Hangs t A p at
    walking_hangs floor l r h b =
        let n = walking_at in
        let z = formed t f at n.used in
        let y = formed t f p m.used in
        let s = n.touches in
        record {
          meets = record { used = n.used; left = omega (arith, s); right = omega (arith, s, m.right); bottom = b; top = walking_above };
          further = omega (arith, s, m.right);
          used = m.used;
          has = record { left = omega (arith, s); right = omega (arith, s); bottom = (l (num t at BOTTOM) z.y_lo).0 h; top = omega (arith, s, m.top) };
        }

    -- the same from the numbers that were read: p's right edge and the tile's lowest row
    pub walking_read : (floor rim low : ℕ) → Floor t p A.bottom floor → rim ≡ num t p RIGHT → rim < A.right → low ≡ num t at BOTTOM
        → floor ≤ low → low < A.top → Hangs t A p at
    walking_read floor rim low l re r le h b = walking_hangs floor l (omega arith) (omega arith) (omega arith)

    -- and otherwise it does not
    pub walking_hangs_not : (floor : ℕ) → Floor t p A.bottom floor → Hangs t A p at → (floor ≤ num t at BOTTOM) × (num t at BOTTOM < A.top)
    walking_hangs_not floor l h = (hangs_floor floor at l h, h.meets.bottom)

    -- where the tile begins under the floor, no other is left that hangs under p
    pub walking_last : (floor : ℕ) → Floor t p A.bottom floor → num t at BOTTOM < floor → (k : ℕ) → Hangs t A p k → Met g k
    walking_last floor l o k h =
        let (j, b, i) = g.are.all k (hangs_neighbour k h) in
        lt_cases j g.met (λ q. (j, q, i)) (λ q. absurd (omega (arith, not_higher j q b, hangs_floor floor k l h, same_numbers t _ _ i)))

    -- what was met lies over it
    pub walking_after : (k : ℕ) → Met g k → Over t k at
    walking_after k (i, h, d) =
        let o = g.are.order i g.met h ((g.place at e).here at e).below in
        omega (arith, o, same_numbers t _ _ d, same_numbers t _ _ here)

    -- which tile it stands at, is told once
    same_at : (k : ℕ) → w.at ≡ Some k → k ≡ at
    same_at k d = same_Some k at (sym d ∙ e)

    module _ (w' : Walk) (s : Follows t A.bottom w w') where
      next : (k : ℕ) → w'.at ≡ Some k → Place t right p g.tiles (g.met + 1) w'
      unfolding Steps
      next k d = go s
        where
          go : Follows t A.bottom w w' → Place t right p g.tiles (g.met + 1) w'
          go (stops j a l c) = absurd (none-some k (sym c ∙ d))
          go (steps j a b s) = s right p g.tiles g.met m.used g.are (g.place at e)

      higher : (k : ℕ) → w'.at ≡ Some k → (j : ℕ) → j < g.met + 1 → A.bottom < num t (get_or g.tiles j 0) BOTTOM
      higher k d j h = go s
        where
          go : Follows t A.bottom w w' → A.bottom < num t (get_or g.tiles j 0) BOTTOM
          go (stops i a l c) = absurd (none-some k (sym c ∙ d))
          go (steps i a b s) = lt_cases j g.met (g.above at e j)
              (λ o.
              let q : j ≡ g.met = omega arith in
              omega (arith, same_numbers t _ _ (ap (λ j. get_or g.tiles j 0) q ∙ here), same_numbers t _ _ (same_at i a)))

      -- of the tiles that hang under p none is left
      none_left : w'.at ≡ None → (k : ℕ) → Hangs t A p k → MetOf g.tiles (g.met + 1) k
      unfolding Steps
      none_left d k h = go s
        where
          go : Follows t A.bottom w w' → MetOf g.tiles (g.met + 1) k
          go (stops x a l c) =
              let (j, o, i) = g.are.all k (hangs_neighbour k h) in
              lt_cases j (g.met + 1) (λ q. (j, q, i))
              (λ q.
              let r = g.are.order g.met j (omega arith) o in
              absurd (omega (arith, r, h.meets.top, same_numbers t _ _ i, same_numbers t _ _ here, same_numbers t _ _ (same_at x a))))
          go (steps x a b s) =
              let (j, o, i) = g.are.all k (hangs_neighbour k h) in
              (j, omega (arith, (s right p g.tiles g.met m.used g.are (g.place at e)).done d), i)

      pub walking_on : Onward g at w'
      walking_on = record {
        walk = record { tiles = g.tiles; are = g.are; met = g.met + 1; place = next; above = higher; done = none_left };
        grows = λ k (i, h, d). (i, omega arith, d);
        here = (g.met, omega arith, here);
        no_other = λ k (i, h, d).
            lt_cases i g.met (λ o. inl (i, o, d))
            (λ o. let q : i ≡ g.met = omega arith in inr (sym d ∙ ap (λ i. get_or g.tiles i 0) q ∙ here));
      }

      -- the walk comes to its end
      pub walking_falls : left_of_walk t w' < left_of_walk t w
      walking_falls = falls w'.at refl
        where
          falls : (b : Option ℕ) → w'.at ≡ b → left_of_walk t w' < left_of_walk t w
          falls (Some k) d =
              let n = (next k d).here k d in
              let o = g.are.order g.met (g.met + 1) (omega arith) n.below in
              let u = formed t f _ (g.are.each (g.met + 1) n.below).used in
              omega (arith, one_more t w at e, one_more t w' k d, o, u, same_numbers t _ _ here, same_numbers t _ _ (sym n.is))
          falls None d = omega (arith, one_more t w at e, no_more t w' d)
