-- The tree of the directed order: a tile hangs under one tile, which ends where it begins; so no tile is listed twice. Assumes nothing.
use Rattle.std.specs.Prelude.{◌≡◌, refl, List, ℕ, ◌≤◌, ◌<◌, max, ℤ}
use Rattle.std.proofs.Common.{sym, ap, ◌∙◌, subst, arith}
use Rattle.geometry.specs.Cases.{lt_cases}
use Rattle.geometry.specs.Plane.{Formed}
use Rattle.table.specs.Words.{LEFT, BOTTOM, RIGHT, TOP, num}
use Rattle.table.specs.Sound.{UsedIn}
use Rattle.table.specs.Forms.{plane_in, Forms, used_is}
use Rattle.seek.specs.Meaning.{Area, Over, Root, Hangs}
use Rattle.seek.specs.Search.{one_tile}

-- the numbers of a tile that is in use
pub formed : (t : List ℤ) → Forms t → (k : ℕ) → UsedIn t k → Formed (plane_in t) k
formed t f k u = f.good.formed k (used_is t k u)

-- what two numbers of one tile say
pub record Same (t : List ℤ) (j k : ℕ) : Type 0 where
  pub left : num t j LEFT ≡ num t k LEFT
  pub bottom : num t j BOTTOM ≡ num t k BOTTOM
  pub right : num t j RIGHT ≡ num t k RIGHT
  pub top : num t j TOP ≡ num t k TOP

pub same_numbers : (t : List ℤ) (j k : ℕ) → j ≡ k → Same t j k
same_numbers t j k e = record {
  left = ap (λ k. num t k LEFT) e;
  bottom = ap (λ k. num t k BOTTOM) e;
  right = ap (λ k. num t k RIGHT) e;
  top = ap (λ k. num t k TOP) e;
}

-- ---- a tile and the tile that it hangs under

pub record Beside (t : List ℤ) (A : Area) (p k : ℕ) : Type 0 where
  pub ends : num t p RIGHT ≡ num t k LEFT
  pub begins : num t p LEFT < num t k LEFT
  pub lower : num t p BOTTOM < num t k TOP
  pub higher : num t k BOTTOM < num t p TOP

module _ (t : List ℤ) (f : Forms t) (A : Area) where
  pub hangs_beside : (p k : ℕ) → Hangs t A p k → Beside t A p k
  hangs_beside p k h =
      let w = formed t f k h.meets.used in
      let m = h.meets in
      let e : num t p RIGHT ≡ num t k LEFT =
      lt_cases (num t k LEFT) (num t p RIGHT)
      (λ o.
      let c = one_tile t f p k (num t k LEFT) (max (num t k BOTTOM) A.bottom) h.used m.used (omega (arith, h.has, h.further)) (omega (arith, m)) in
      absurd (omega (arith, h.has, h.further, same_numbers t p k c)))
      (λ o. omega (arith, h.has, h.further)) in
      record { ends = e; begins = omega (arith, h.has, h.further); lower = omega (arith, h.has, m); higher = omega (arith, h.has) }

  -- it is one
  pub parent_one : (p q k : ℕ) → Hangs t A p k → Hangs t A q k → p ≡ q
  parent_one p q k h g = one_tile t f p q _ _ h.used g.used h.has g.has

  -- no two tiles lie over each other
  pub not_both_over : (j k : ℕ) → UsedIn t j → UsedIn t k → Over t j k → Over t k j → ⊥
  not_both_over j k u v h g = let w = formed t f j u in let z = formed t f k v in omega arith

-- ---- all that hangs under a tile, itself included

pub data Under (t : List ℤ) (A : Area) (p : ℕ) : ℕ → Type 0 where
  self : {k : ℕ} → k ≡ p → Under t A p k
  below : {q k : ℕ} → Under t A p q → Hangs t A q k → Under t A p k

pub under_from : (t : List ℤ) (A : Area) (p c k : ℕ) → Hangs t A p c → Under t A c k → Under t A p k
under_from t A p c k h (self e) = below (self refl) (subst (Hangs t A p) (sym e) h)
under_from t A p c k h (below {q} u g) = below (under_from t A p c q h u) g

pub under_used : (t : List ℤ) (A : Area) (p k : ℕ) → UsedIn t p → Under t A p k → UsedIn t k
under_used t A p k u (self e) = subst (UsedIn t) (sym e) u
under_used t A p k u (below h g) = g.meets.used

module _ (t : List ℤ) (f : Forms t) (A : Area) where
  pub under_right : (p k : ℕ) → Under t A p k → num t p LEFT ≤ num t k LEFT
  under_right p k (self e) = omega (arith, same_numbers t k p e)
  under_right p k (below {q} u h) = omega (arith, under_right p q u, hangs_beside t f A q k h)

  -- Tiles of one level: none hangs, near or far, under another.
  pub record Level (Q : ℕ → Type 0) : Type 0 where
    pub used : (k : ℕ) → Q k → UsedIn t k
    pub level : (j k q : ℕ) → Q j → Q k → Under t A j q → Hangs t A q k → ⊥

  pub roots_level : Level (Root t A)
  roots_level = record { used = λ k r. r.meets.used; level = λ j k q r s u h. omega (arith, s.first, h.further) }

  pub hangs_level : (p : ℕ) → Level (Hangs t A p)
  hangs_level p = record {
    used = λ k h. h.meets.used;
    level = λ j k q h g u i. omega (arith, hangs_beside t f A p j h, hangs_beside t f A p k g, under_right j q u, hangs_beside t f A q k i);
  }

  -- a tile hangs under one tile of a level
  pub under_one : (Q : ℕ → Type 0) → Level Q → (j k m : ℕ) → Q j → Q k → Under t A j m → Under t A k m → j ≡ k
  under_one Q l j k m q r (self e) (self d) = sym e ∙ d
  under_one Q l j k m q r (self e) (below {q = i} v h) = absurd (l.level k j i r q v (subst (Hangs t A i) e h))
  under_one Q l j k m q r (below {q = i} u h) (self d) = absurd (l.level j k i q r u (subst (Hangs t A i) d h))
  under_one Q l j k m q r (below {q = i} u h) (below {q = i'} v g) =
      under_one Q l j k i q r u (subst (Under t A k) (sym (parent_one t f A i i' m h g)) v)
