-- The list of the tiles that stand on a tile's top side, from right to left: that there is one, and that the walk follows it. Assumes nothing.
use Rattle.std.specs.Prelude.{◌≡◌, List, [], ◌∷◌, ◌⊎◌, ℕ, zero, suc, ◌+◌, ◌≤◌, ◌<◌, length, get_or}
use Rattle.std.proofs.Common.{sym, ap, ◌∙◌, subst, inl, inr, ⊎_elim, le_refl, add-one, arith, ext_get_or}
use Rattle.geometry.specs.Cases.{lt_cases, eq_cases}
use Rattle.geometry.specs.Plane.{Plane, Is, Formed, hi}
use Rattle.geometry.specs.Stitches.{Stitches, Good}
use Rattle.geometry.specs.Walk.{Stands, walk_start, walk_next, meets_start, meets_next}

abbrev pub entry : List ℕ → ℕ → ℕ
entry L n = get_or L n 0

pub record Entry (L : List ℕ) (k : ℕ) : Type 0 where
  pub place : ℕ
  pub below : place < length L
  pub is : entry L place ≡ k

-- the tiles that stand on a and do not end right of p, each once and in order
pub record ListedTo (P : Plane) (a p : ℕ) (L : List ℕ) : Type 0 where
  pub each : (n : ℕ) → n < length L → Stands P a (entry L n)
  pub to : (n : ℕ) → n < length L → P.r (entry L n) ≤ p
  pub all : (k : ℕ) → Stands P a k → P.r k ≤ p → Entry L k
  pub order : (m n : ℕ) → m < n → n < length L → P.r (entry L n) ≤ P.l (entry L m)

pub record Listed (P : Plane) (a : ℕ) (L : List ℕ) : Type 0 where
  pub each : (n : ℕ) → n < length L → Stands P a (entry L n)
  pub all : (k : ℕ) → Stands P a k → Entry L k
  pub order : (m n : ℕ) → m < n → n < length L → P.r (entry L n) ≤ P.l (entry L m)

-- ---- there is such a list

none_listed : (P : Plane) (a p : ℕ) → ((k : ℕ) → Stands P a k → P.r k ≤ p → ⊥) → ListedTo P a p []
none_listed P a p none = record {
  each = λ n h. absurd (omega arith);
  to = λ n h. absurd (omega arith);
  all = λ k s h. absurd (none k s h);
  order = λ m n h q. absurd (omega arith);
}

later : (L : List ℕ) (j k : ℕ) → Entry L k → Entry (j ∷ L) k
later L j k e = record { place = suc e.place; below = omega (arith, e.below); is = e.is }

module _ (P : Plane) (a p k : ℕ) (L : List ℕ) (s : Stands P a k) (q : P.r k ≤ p) (w : Formed P k)
    (rest : (m : ℕ) → Stands P a m → P.r m ≤ p → (m ≡ k) ⊎ (P.r m ≤ P.l k)) (l : ListedTo P a (P.l k) L) where
  each : (n : ℕ) → n < length (k ∷ L) → Stands P a (entry (k ∷ L) n)
  each zero h = s
  each (suc n) h = l.each n (omega arith)

  to : (n : ℕ) → n < length (k ∷ L) → P.r (entry (k ∷ L) n) ≤ p
  to zero h = q
  to (suc n) h = omega (arith, l.to n (omega arith))

  order : (m n : ℕ) → m < n → n < length (k ∷ L) → P.r (entry (k ∷ L) n) ≤ P.l (entry (k ∷ L) m)
  order m zero h i = absurd (omega arith)
  order zero (suc n) h i = l.to n (omega arith)
  order (suc m) (suc n) h i = l.order m n (omega arith) (omega arith)

  one_more : ListedTo P a p (k ∷ L)
  one_more = record {
    each = each;
    to = to;
    all = λ m z h. ⊎_elim
        (λ e. record { place = 0; below = omega arith; is = sym e })
        (λ o. later L k m (l.all m z o))
        (rest m z h);
    order = order;
  }

module _ (P : Plane) (Z : Stitches) (g : Good P Z) (a : ℕ) (u : Is P a) where
  -- the tiles left of k
  build : (n k : ℕ) → P.l k ≤ n → Stands P a k → (L : List ℕ) × ListedTo P a (P.l k) L
  build zero k h s = ([], none_listed P a (P.l k) (λ m z q. omega (arith, z.left)))
  build (suc n) k h s = lt_cases (P.l a) (P.l k)
      (λ o.
      let d = walk_next P Z g a k u s o in
      let z = g.formed (Z.bl k) d.stands.is in
      let (L, l) = build n (Z.bl k) (omega arith) d.stands in
      (Z.bl k ∷ L, one_more P a (P.l k) (Z.bl k) L d.stands (omega arith) z (λ m y q. meets_next P Z g a k m u s y q inl inr) l))
      (λ o. ([], none_listed P a (P.l k) (λ m z q. omega (arith, z.left))))

  whole : (L : List ℕ) → ListedTo P a (hi P) L → Listed P a L
  whole L l = record { each = l.each; all = λ k s. l.all k s (g.formed k s.is).x_hi; order = l.order }

  pub listed_some : (L : List ℕ) × Listed P a L
  listed_some = lt_cases (P.t a) (hi P)
      (λ h.
      let (s, e) = walk_start P Z g a u h in
      let z = g.formed (Z.rt a) s.is in
      let (L, l) = build (P.l (Z.rt a)) (Z.rt a) (le_refl _) s in
      let M = Z.rt a ∷ L in
      (M, whole M (one_more P a (hi P) (Z.rt a) L s (omega arith) z (λ m y q. meets_start P Z g a m u h y inl inr) l)))
      (λ h. ([], whole [] (none_listed P a (hi P) (λ m z q. let w = g.formed m z.is in omega (arith, z.bottom)))))

  -- ---- the walk follows every such list

  module _ (L : List ℕ) (l : Listed P a L) where
    -- where the walk begins
    pub listed_none : hi P ≤ P.t a → length L ≡ 0
    listed_none h = lt_cases 0 (length L)
        (λ o. let s = l.each 0 o in let w = g.formed (entry L 0) s.is in absurd (omega arith))
        (λ o. omega arith)

    pub listed_first : P.t a < hi P → (0 < length L) × (entry L 0 ≡ Z.rt a)
    listed_first h =
        let (s, e) = walk_start P Z g a u h in
        let p = l.all (Z.rt a) s in
        lt_cases 0 p.place
        (λ o. absurd (omega (arith, ap P.r p.is, l.order 0 p.place o p.below, l.each 0 (omega (arith, p.below)))))
        (λ o. let c : p.place ≡ 0 = omega arith in (omega (arith, p.below), subst (λ n. entry L n ≡ Z.rt a) c p.is))

    -- where it goes on, and where it ends
    pub listed_last : (n : ℕ) → n < length L → P.l (entry L n) ≤ P.l a → n + 1 ≡ length L
    listed_last n h q = lt_cases (n + 1) (length L)
        (λ o. absurd (omega (arith, l.order n (n + 1) (omega arith) o, l.each (n + 1) o)))
        (λ o. omega arith)

    pub listed_next : (n : ℕ) → n < length L → P.l a < P.l (entry L n) → (n + 1 < length L) × (entry L (n + 1) ≡ Z.bl (entry L n))
    listed_next n h q =
        let k = entry L n in
        let s = l.each n h in
        let z = g.formed k s.is in
        let d = walk_next P Z g a k u s q in
        let y = g.formed (Z.bl k) d.stands.is in
        let p = l.all (Z.bl k) d.stands in
        lt_cases p.place (n + 1)
        (λ o. absurd (eq_cases p.place n
        (λ c. omega (arith, ap (λ n. P.r (entry L n)) c, ap P.r p.is, d.ends))
        (λ c. omega (arith, l.order p.place n (omega arith) h, ap P.l p.is, d.ends))))
        (λ o. lt_cases (n + 1) p.place
        (λ c.
        let x = g.formed (entry L (n + 1)) (l.each (n + 1) (omega (arith, p.below))).is in
        absurd (omega (arith, l.order n (n + 1) (omega arith) (omega (arith, p.below)), l.order (n + 1) p.place c p.below, ap P.r p.is, d.ends)))
        (λ c. let e : p.place ≡ n + 1 = omega arith in (omega (arith, p.below), subst (λ n. entry L n ≡ Z.bl k) e p.is)))

    -- a list is no longer than the side
    pub listed_short : (n : ℕ) → n < length L → n + P.l (entry L n) < hi P
    listed_short zero h = let w = g.formed (entry L 0) (l.each 0 h).is in omega arith
    listed_short (suc n) h =
        let w = g.formed (entry L (suc n)) (l.each (suc n) h).is in
        omega (arith, listed_short n (omega arith), l.order n (suc n) (omega arith) h)

  -- ---- there is only one

  agree : (L M : List ℕ) → Listed P a L → Listed P a M → (n : ℕ) → n < length L → (n < length M) × (entry L n ≡ entry M n)
  agree L M l m zero h = lt_cases (P.t a) (hi P)
      (λ o. let (p, e) = listed_first L l o in let (q, d) = listed_first M m o in (q, e ∙ sym d))
      (λ o. absurd (omega (arith, listed_none L l o)))
  agree L M l m (suc n) h =
      let (q, e) = agree L M l m n (omega arith) in
      lt_cases (P.l a) (P.l (entry L n))
      (λ o.
      let (i, x) = listed_next L l n (omega arith) o in
      let (j, y) = listed_next M m n q (omega (arith, ap P.l e)) in
      subst (λ k. (k < length M) × (entry L k ≡ entry M k)) (add-one n) (j, x ∙ ap Z.bl e ∙ sym y))
      (λ o. absurd (omega (arith, listed_last L l n (omega arith) o)))

  not_shorter : (L M : List ℕ) → Listed P a L → Listed P a M → length L ≤ length M
  not_shorter L M l m = lt_cases (length M) (length L) (λ o. absurd (omega (arith, (agree L M l m (length M) o).0))) (λ o. o)

  pub listed_one : (L M : List ℕ) → Listed P a L → Listed P a M → L ≡ M
  listed_one L M l m =
      ext_get_or 0 L M (omega (arith, not_shorter L M l m, not_shorter M L m l)) (λ n h. (agree L M l m n h).1)
