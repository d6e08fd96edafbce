-- The directed order is determined, and lists exactly the tiles that share a cell with the area. Assumes nothing.
use Rattle.std.specs.Prelude.{◌≡◌, refl, ◌↔◌, List, [], ◌∷◌, ◌++◌, ℕ, zero, suc, ◌-◌, ◌≤◌, ◌<◌, max, ℤ, length, get_or}
use Rattle.std.proofs.Common.{sym, ap, ap₂, ◌∙◌, subst, arith}
use Rattle.geometry.specs.Cases.{lt_cases, eq_cases}
use Rattle.geometry.specs.Picture.{Has}
use Rattle.table.specs.Words.{LEFT, BOTTOM, num, tile_of}
use Rattle.table.specs.Sound.{UsedIn}
use Rattle.table.specs.Forms.{Forms, is_used}
use Rattle.seek.specs.Meaning.{Area, RectRight, Lists, Over, Meets, Root, Hangs, Tree, tree, Trees, none, more, Directed}
use Rattle.seek.specs.Lists.{lists_one}
use Rattle.seek.specs.Hanging.{formed, Under, self, below, roots_level, hangs_level}
use Rattle.seek.specs.Once.{times, times_append, times_here, times_other, times_none, trees_induction, not_both, trees_hung}

-- ---- a tree taken apart

record Branches (t : List ℤ) (A : Area) (p : ℕ) (w : List ℕ) : Type 0 where
  ks : List ℕ
  under : List ℕ
  is : w ≡ p ∷ under
  lists : Lists (Hangs t A p) (Over t) ks
  trees : Trees t A ks under

branches : {t : List ℤ} {A : Area} {p : ℕ} {w : List ℕ} → Tree t A p w → Branches t A p w
branches (tree ks {under} l ts) = record { ks = ks; under = under; is = refl; lists = l; trees = ts }

record Parts (t : List ℤ) (A : Area) (k : ℕ) (ks w : List ℕ) : Type 0 where
  of : List ℕ
  rest : List ℕ
  is : w ≡ of ++ rest
  first : Tree t A k of
  others : Trees t A ks rest

parts : {t : List ℤ} {A : Area} {k : ℕ} {ks w : List ℕ} → Trees t A (k ∷ ks) w → Parts t A k ks w
parts (more {of = of} {rest = rest} x xs) = record { of = of; rest = rest; is = refl; first = x; others = xs }

no_parts : {t : List ℤ} {A : Area} {w : List ℕ} → Trees t A [] w → w ≡ []
no_parts none = refl

-- ---- there is only one order

module _ (t : List ℤ) (f : Forms t) (A : Area) where
  abbrev One : ℕ → List ℕ → Type 0
  One p w = (w' : List ℕ) → Tree t A p w' → w ≡ w'

  abbrev One_each : List ℕ → List ℕ → Type 0
  One_each ks w = (w' : List ℕ) → Trees t A ks w' → w ≡ w'

  one_tree : (p : ℕ) (ks under : List ℕ) → Lists (Hangs t A p) (Over t) ks → Trees t A ks under → One_each ks under → One p (p ∷ under)
  one_tree p ks under l ts q w' x =
      let b = branches x in
      let e = lists_one (Hangs t A p) (Over t) (not_both t f A (Hangs t A p) (hangs_level t f A p)) b.ks ks b.lists l in
      ap (λ u. p ∷ u) (q b.under (subst (λ ks. Trees t A ks b.under) e b.trees)) ∙ sym b.is

  one_none : One_each [] []
  one_none w' x = sym (no_parts x)

  one_more : (k : ℕ) (ks of rest : List ℕ) → Tree t A k of → Trees t A ks rest → One k of → One_each ks rest → One_each (k ∷ ks) (of ++ rest)
  one_more k ks of rest x xs first others w' y = let p = parts y in ap₂ ◌++◌ (first p.of p.first) (others p.rest p.others) ∙ sym p.is

  trees_one : (ks w w' : List ℕ) → Trees t A ks w → Trees t A ks w' → w ≡ w'
  trees_one ks w w' x = trees_induction t A One One_each one_tree one_none one_more ks w x w'

  pub directed_one : (w w' : List ℕ) → Directed t A w → Directed t A w' → w ≡ w'
  directed_one w w' d g =
      let e = lists_one (Root t A) (Over t) (not_both t f A (Root t A) (roots_level t f A)) g.roots d.roots g.are d.are in
      trees_one d.roots w w' d.trees (subst (λ ks. Trees t A ks w') e g.trees)

-- ---- it lists exactly the tiles of the area

module _ (t : List ℤ) (A : Area) where
  -- what is listed, with all that hangs under it
  record Whole (w : List ℕ) : Type 0 where
    hung : (q k : ℕ) → 1 ≤ times q w → Hangs t A q k → 1 ≤ times k w

  record Full (p : ℕ) (w : List ℕ) : Type 0 where
    head : 1 ≤ times p w
    whole : Whole w

  record Full_each (ks w : List ℕ) : Type 0 where
    heads : (n : ℕ) → n < length ks → 1 ≤ times (get_or ks n 0) w
    whole : Whole w

  full_tree : (p : ℕ) (ks under : List ℕ) → Lists (Hangs t A p) (Over t) ks → Trees t A ks under → Full_each ks under → Full p (p ∷ under)
  full_tree p ks under l ts q = record { head = omega (arith, times_here p p under refl); whole = record { hung = hung } }
    where
      grow : (k : ℕ) → 1 ≤ times k under → 1 ≤ times k (p ∷ under)
      grow k h = eq_cases p k (λ e. omega (arith, times_here k p under e)) (λ d. omega (arith, times_other k p under d))

      hung : (j k : ℕ) → 1 ≤ times j (p ∷ under) → Hangs t A j k → 1 ≤ times k (p ∷ under)
      hung j k h g =
          grow k (eq_cases p j
          (λ e. let (n, o, d) = l.all k (subst (λ j. Hangs t A j k) (sym e) g) in subst (λ k. 1 ≤ times k under) d (q.heads n o))
          (λ d. q.whole.hung j k (omega (arith, times_other j p under d)) g))

  full_none : Full_each [] []
  full_none = record { heads = λ n h. absurd (omega arith); whole = record { hung = λ j k h g. absurd (omega (arith, times_none j)) } }

  full_more : (c : ℕ) (ks of rest : List ℕ) → Tree t A c of → Trees t A ks rest → Full c of → Full_each ks rest → Full_each (c ∷ ks) (of ++ rest)
  full_more c ks of rest x xs first others = record { heads = heads; whole = record { hung = hung } }
    where
      heads : (n : ℕ) → n < length (c ∷ ks) → 1 ≤ times (get_or (c ∷ ks) n 0) (of ++ rest)
      heads zero h = omega (arith, times_append c of rest, first.head)
      heads (suc n) h = omega (arith, times_append (get_or ks n 0) of rest, others.heads n (omega arith))

      hung : (j k : ℕ) → 1 ≤ times j (of ++ rest) → Hangs t A j k → 1 ≤ times k (of ++ rest)
      hung j k h g =
          let a = times_append k of rest in
          lt_cases 0 (times j of)
          (λ o. omega (arith, first.whole.hung j k o g))
          (λ o. omega (arith, others.whole.hung j k (omega (arith, times_append j of rest)) g))

  trees_full : (ks w : List ℕ) → Trees t A ks w → Full_each ks w
  trees_full = trees_induction t A Full Full_each full_tree full_none full_more

module _ (t : List ℤ) (f : Forms t) (A : Area) (a : RectRight A) where
  -- the tile that a tile hangs under is of the area too
  pub parent : (k : ℕ) → Meets t A k → A.left < num t k LEFT → (p : ℕ) × Meets t A p × Hangs t A p k × (num t p LEFT < num t k LEFT)
  parent k m h =
      let w = formed t f k m.used in
      let (p, o) = f.good.covered (num t k LEFT - 1) (max (num t k BOTTOM) A.bottom) (omega (arith, w, a, m)) in
      let u : UsedIn t p = is_used t p o.is in
      let v : Has (tile_of t p) (num t k LEFT - 1) (max (num t k BOTTOM) A.bottom) = omega (arith, o.at) in
      let i : Meets t A p = record { used = u; left = omega (arith, v, m); right = omega (arith, v); bottom = omega (arith, v, m, a); top = omega (arith, v) } in
      (p, i, record { meets = m; further = h; used = u; has = v }, omega (arith, v))

  module _ (list : List ℕ) (d : Directed t A list) where
    full : Full_each t A d.roots list
    full = trees_full t A d.roots list d.trees

    root_listed : (k : ℕ) → Root t A k → 1 ≤ times k list
    root_listed k r = let (n, l, e) = d.are.all k r in subst (λ k. 1 ≤ times k list) e (full.heads n l)

    listed : (n k : ℕ) → num t k LEFT ≤ n → Meets t A k → 1 ≤ times k list
    listed zero k h m = root_listed k (record { meets = m; first = omega arith })
    listed (suc n) k h m =
        lt_cases A.left (num t k LEFT)
        (λ o. let (p, i, g, l) = parent k m o in full.whole.hung p k (listed n p (omega arith) i) g)
        (λ o. root_listed k (record { meets = m; first = o }))

    under_meets : (p k : ℕ) → Meets t A p → Under t A p k → Meets t A k
    under_meets p k m (self e) = subst (Meets t A) (sym e) m
    under_meets p k m (below u h) = h.meets

    pub directed_lists : (k : ℕ) → (1 ≤ times k list) ↔ Meets t A k
    directed_lists k = (
      λ h. let (n, l, u) = trees_hung t A d.roots list d.trees k h in under_meets _ k (d.are.each n l).meets u,
      λ m. listed (num t k LEFT) k (omega arith) m,
    )
