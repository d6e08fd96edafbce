-- What the reading calls list on one table they list on every table with the same picture, record for record by its tile. Assumes nothing.
use Rattle.std.specs.Prelude.{◌≡◌, refl, List, [], ◌∷◌, ◌++◌, map, ℕ, zero, suc, ◌<◌, ℤ, length, get_or}
use Rattle.std.proofs.Common.{sym, ap, ap₂, ◌∙◌, subst, subst₂, not-suc-le-zero, le_of_suc-le-suc, arith}
use Rattle.std.proofs.lemmas.List.{map-append, length-map}
use Rattle.table.specs.Words.{LEFT, BOTTOM, RIGHT, TOP, num, tile_of}
use Rattle.table.specs.Sound.{UsedIn}
use Rattle.seek.specs.Meaning.{Area, Lists, Over, Meets, Root, Hangs, Tree, tree, Trees, none, more, Directed}
use Rattle.seek.specs.Neighbours
use Rattle.seek.specs.Neighbours.{Touches, Neighbour, Neighbours}
use Rattle.seek.specs.Once.{trees_induction}
use Rattle.ushanderi.specs.Promises.{Fit}
use Rattle.claims.specs.Pictures.{twins_back, renamed, renamed_twin, renamed_from}
use Rattle.claims.specs.Terms.{SamePicture, Twins}
use Rattle.geometry.specs.Picture.{Side}

-- the sides of twins, number by number
record SameNumbers (t u : List ℤ) (i j : ℕ) : Type 0 where
  left : num u j LEFT ≡ num t i LEFT
  bottom : num u j BOTTOM ≡ num t i BOTTOM
  right : num u j RIGHT ≡ num t i RIGHT
  top : num u j TOP ≡ num t i TOP

module _ (t u : List ℤ) where
  same_numbers : (i j : ℕ) → Twins t u i j → SameNumbers t u i j
  same_numbers i j w = record {
    left = ap (λ v. v.left) w.same;
    bottom = ap (λ v. v.bottom) w.same;
    right = ap (λ v. v.right) w.same;
    top = ap (λ v. v.top) w.same;
  }

  neighbour_by : (s : Side) (i j k l : ℕ) → Twins t u i j → Twins t u k l → Neighbour t s i k → Neighbour u s j l
  neighbour_by s i j k l v w n = record { used = w.twin; touches = subst₂ (Touches s) (sym v.same) (sym w.same) n.touches }

  over_by : (i j k l : ℕ) → Twins t u i j → Twins t u k l → Over t i k → Over u j l
  over_by i j k l v w o = omega (arith, same_numbers i j v, same_numbers k l w)

  meets_by : (A : Area) (k l : ℕ) → Twins t u k l → Meets t A k → Meets u A l
  meets_by A k l w m =
      let e = same_numbers k l w in
      record { used = w.twin; left = omega (arith, e, m); right = omega (arith, e, m); bottom = omega (arith, e, m); top = omega (arith, e, m) }

  root_by : (A : Area) (k l : ℕ) → Twins t u k l → Root t A k → Root u A l
  root_by A k l w r = record { meets = meets_by A k l w r.meets; first = omega (arith, same_numbers k l w, r.first) }

  hangs_by : (A : Area) (i j k l : ℕ) → Twins t u i j → Twins t u k l → Hangs t A i k → Hangs u A j l
  hangs_by A i j k l v w h =
      let e = same_numbers i j v in
      let d = same_numbers k l w in
      record {
        meets = meets_by A k l w h.meets;
        further = omega (arith, d, h.further);
        used = v.twin;
        has = omega (arith, e, d, h.has);
      }

-- ---- lists

module _ (t u : List ℤ) (f : Fit t) (g : Fit u) (e : SamePicture t u) where
  abbrev ρ : ℕ → ℕ
  ρ = renamed t u f g e

  twin_of : (i : ℕ) → UsedIn t i → Twins t u i (ρ i)
  twin_of = renamed_twin t u f g e

  renamed_at : (ks : List ℕ) (n : ℕ) → n < length ks → get_or (map ρ ks) n 0 ≡ ρ (get_or ks n 0)
  renamed_at [] n h = absurd (not-suc-le-zero h)
  renamed_at (k ∷ ks) zero h = refl
  renamed_at (k ∷ ks) (suc n) h = renamed_at ks n (le_of_suc-le-suc h)

  module _ (Q Q' : ℕ → Type 0) (P P' : ℕ → ℕ → Type 0) (used : (i : ℕ) → Q i → UsedIn t i) (used' : (j : ℕ) → Q' j → UsedIn u j)
      (there : (i j : ℕ) → Twins t u i j → Q i → Q' j) (back : (i j : ℕ) → Twins u t j i → Q' j → Q i)
      (order : (i j k l : ℕ) → Twins t u i j → Twins t u k l → P i k → P' j l) where
    pub lists_renamed : (ks : List ℕ) → Lists Q P ks → Lists Q' P' (map ρ ks)
    lists_renamed ks l = record {
      each = λ n h. let b = below n h in subst Q' (sym (renamed_at ks n b)) (there _ _ (twin_of _ (used _ (l.each n b))) (l.each n b));
      all = λ j q.
          let (i, v, d) = renamed_from t u f g e j (used' j q) in
          let (n, h, o) = l.all i (back i j (subst (λ j. Twins u t j i) d (twins_back t u i (ρ i) (twin_of i v))) q) in
          (n, omega (arith, length-map ks ρ), renamed_at ks n h ∙ ap ρ o ∙ d);
      order = λ m n h b.
          let c = below n b in
          let a : m < length ks = omega arith in
          subst₂ P' (sym (renamed_at ks m a)) (sym (renamed_at ks n c))
          (order _ _ _ _ (twin_of _ (used _ (l.each m a))) (twin_of _ (used _ (l.each n c))) (l.order m n h c));
    }
      where
        below : (n : ℕ) → n < length (map ρ ks) → n < length ks
        below n h = omega (arith, length-map ks ρ)

  -- the tiles that a list of records names
  pub tiles_renamed : (ks : List ℕ) → ((n : ℕ) → n < length ks → UsedIn t (get_or ks n 0)) → map (tile_of u) (map ρ ks) ≡ map (tile_of t) ks
  tiles_renamed [] h = refl
  tiles_renamed (k ∷ ks) h = ap₂ ◌∷◌ (twin_of k (h 0 (omega arith))).same (tiles_renamed ks (λ n l. h (suc n) (omega arith)))

  -- ---- neighbours

  pub neighbours_renamed : (s : Side) (i : ℕ) (ks : List ℕ) → UsedIn t i → Neighbours t s i ks → Neighbours u s (ρ i) (map ρ ks)
  neighbours_renamed s i ks v n =
      let o = twin_of i v in
      let l = lists_renamed (Neighbour t s i) (Neighbour u s (ρ i)) (λ j k. Neighbours.Before s (tile_of t j) (tile_of t k)) (λ j k. Neighbours.Before s (tile_of u j) (tile_of u k))
      (λ k q. q.used) (λ k q. q.used) (λ k l w. neighbour_by t u s i (ρ i) k l o w) (λ k l w. neighbour_by u t s (ρ i) i l k (twins_back t u i (ρ i) o) w)
      (λ j k l m v w b. subst₂ (Neighbours.Before s) (sym v.same) (sym w.same) b)
      ks (record { each = n.each; all = n.all; order = n.order }) in
      record { each = l.each; all = l.all; order = l.order }

  -- ---- the directed order

  abbrev InTable : List ℕ → Type 0
  InTable ks = (n : ℕ) → n < length ks → UsedIn t (get_or ks n 0)

  module _ (A : Area) where
    abbrev Moved : ℕ → List ℕ → Type 0
    Moved p w = UsedIn t p → Tree u A (ρ p) (map ρ w)

    abbrev Moved_each : List ℕ → List ℕ → Type 0
    Moved_each ks w = InTable ks → Trees u A (map ρ ks) (map ρ w)

    hangs_renamed : (p : ℕ) (ks : List ℕ) → UsedIn t p → Lists (Hangs t A p) (Over t) ks → Lists (Hangs u A (ρ p)) (Over u) (map ρ ks)
    hangs_renamed p ks v =
        let o = twin_of p v in
        lists_renamed (Hangs t A p) (Hangs u A (ρ p)) (Over t) (Over u) (λ k h. h.meets.used) (λ k h. h.meets.used)
        (λ k l w. hangs_by t u A p (ρ p) k l o w) (λ k l w. hangs_by u t A (ρ p) p l k (twins_back t u p (ρ p) o) w) (over_by t u) ks

    moved_tree : (p : ℕ) (ks under : List ℕ) → Lists (Hangs t A p) (Over t) ks → Trees t A ks under → Moved_each ks under → Moved p (p ∷ under)
    moved_tree p ks under l ts q v = tree (map ρ ks) (hangs_renamed p ks v l) (q (λ n h. (l.each n h).meets.used))

    moved_none : Moved_each [] []
    moved_none h = none

    moved_more : (k : ℕ) (ks of rest : List ℕ) → Tree t A k of → Trees t A ks rest → Moved k of → Moved_each ks rest → Moved_each (k ∷ ks) (of ++ rest)
    moved_more k ks of rest x xs first others h =
        subst (Trees u A (ρ k ∷ map ρ ks)) (sym (map-append ρ of rest)) (more (first (h 0 (omega arith))) (others (λ n l. h (suc n) (omega arith))))

    pub directed_renamed : (ks : List ℕ) → Directed t A ks → Directed u A (map ρ ks)
    directed_renamed ks d = record {
      roots = map ρ d.roots;
      are = lists_renamed (Root t A) (Root u A) (Over t) (Over u) (λ k r. r.meets.used) (λ k r. r.meets.used)
          (root_by t u A) (λ k l w. root_by u t A l k w) (over_by t u) d.roots d.are;
      trees = trees_induction t A Moved Moved_each moved_tree moved_none moved_more d.roots ks d.trees (λ n h. (d.are.each n h).meets.used);
    }
