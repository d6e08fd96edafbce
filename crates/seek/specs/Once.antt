-- The directed order lists each tile of the area once: there is only one such list, and it is no longer than the table has records. Assumes nothing.
use Rattle.std.specs.Prelude.{◌≡◌, refl, ◌≢◌, Bool, true, false, List, [], ◌∷◌, ◌++◌, ℕ, suc, ◌+◌, ◌≤◌, ◌<◌, ℤ, length, get_or, T, eqb}
use Rattle.std.proofs.Common.{sym, ap, subst, arith, eqb→eq}
use Rattle.std.proofs.Math.Dec.{eqb_refl}
use Rattle.geometry.specs.Cases.{lt_cases, eq_cases, only_T}
use Rattle.geometry.specs.Sums.{sum_mono, sum_const, sum_add, sum_set}
use Rattle.geometry.specs.Counting.{only, sum_to}
use Rattle.table.specs.Words.{records_of}
use Rattle.table.specs.Sound.{UsedIn}
use Rattle.table.specs.Forms.{Forms}
use Rattle.seek.specs.Meaning.{Area, Lists, Over, Root, Hangs, Tree, tree, Trees, none, more, Directed}
use Rattle.seek.specs.Hanging.{same_numbers, hangs_beside, not_both_over, Under, self, under_from, under_used, under_right, Level, roots_level, hangs_level, under_one}

-- ---- how often a number stands in a list

unfoldable pub times : ℕ → List ℕ → ℕ
times k [] = 0
times k (x ∷ w) = only (eqb x k) 1 + times k w

pub one_if : (x k : ℕ) → x ≡ k → only (eqb x k) 1 ≡ 1
one_if x k e = only_T (eqb x k) (subst (λ k. T (eqb x k)) e (eqb_refl x))

pub none_unless : (x k : ℕ) → x ≢ k → only (eqb x k) 1 ≡ 0
none_unless x k d = go (eqb x k) (λ t. d (eqb→eq x k t))
  where
    go : (b : Bool) → (T b → ⊥) → only b 1 ≡ 0
    go false n = refl
    go true n = absurd (n tt)

pub times_append : (k : ℕ) (v w : List ℕ) → times k (v ++ w) ≡ times k v + times k w
unfolding times
times_append k [] w = omega arith
times_append k (x ∷ v) w = omega (arith, times_append k v w)

pub times_here : (k x : ℕ) (w : List ℕ) → x ≡ k → times k (x ∷ w) ≡ 1 + times k w
unfolding times
times_here k x w e = omega (arith, one_if x k e)

pub times_other : (k x : ℕ) (w : List ℕ) → x ≢ k → times k (x ∷ w) ≡ times k w
unfolding times
times_other k x w d = omega (arith, none_unless x k d)

pub times_none : (k : ℕ) → times k [] ≡ 0
unfolding times
times_none k = refl

-- all entries are below R
length_sum : (R : ℕ) (w : List ℕ) → ((k : ℕ) → 1 ≤ times k w → k < R) → length w ≡ sum_to R (λ k. times k w)
unfolding times
length_sum R [] h = omega (arith, sum_const R 0)
length_sum R (x ∷ w) h =
    let a : sum_to R (λ k. only (eqb x k) 1) + 0 ≡ sum_to R (λ k. 0) + only (eqb x x) 1 =
    sum_set R (λ k. only (eqb x k) 1) (λ k. 0) x (h x (omega (arith, one_if x x refl))) (λ k l d. none_unless x k (λ e. d (sym e))) in
    omega (
      arith,
      a,
      one_if x x refl,
      sum_const R 0,
      sum_add R (λ k. only (eqb x k) 1) (λ k. times k w),
      length_sum R w (λ k l. h k (omega arith)),
    )

pub short : (R : ℕ) (w : List ℕ) → ((k : ℕ) → 1 ≤ times k w → k < R) → ((k : ℕ) → times k w ≤ 1) → length w ≤ R
short R w h one = omega (arith, length_sum R w h, sum_const R 1, sum_mono R {f = λ k. times k w} {g = λ k. 1} (λ k l. one k))

-- ---- what is listed under a tile hangs under it

abbrev Above : List ℤ → Area → List ℕ → ℕ → Type 0
Above t A ks k = (n : ℕ) × (n < length ks) × Under t A (get_or ks n 0) k

later : (t : List ℤ) (A : Area) (c : ℕ) (ks : List ℕ) (k : ℕ) → Above t A ks k → Above t A (c ∷ ks) k
later t A c ks k (n, h, u) = (suc n, omega arith, u)

-- induction over a tree and over a row of trees, at once
module _ (t : List ℤ) (A : Area) (P : ℕ → List ℕ → Type 0) (Q : List ℕ → List ℕ → Type 0)
    (on_tree : (p : ℕ) (ks under : List ℕ) → Lists (Hangs t A p) (Over t) ks → Trees t A ks under → Q ks under → P p (p ∷ under))
    (on_none : Q [] [])
    (on_more : (k : ℕ) (ks of rest : List ℕ) → Tree t A k of → Trees t A ks rest → P k of → Q ks rest → Q (k ∷ ks) (of ++ rest)) where
  pub tree_induction : (p : ℕ) (w : List ℕ) → Tree t A p w → P p w
  tree_induction p w x = elim x as (λ p w x. P p w) (λ ks w x. Q ks w) [
    | tree {p} ks {under} l (ts → q) ↦ on_tree p ks under l ts q
    | none ↦ on_none
    | more {k} {ks} {of} {rest} (y → r) (ys → q) ↦ on_more k ks of rest y ys r q
  ]

  pub trees_induction : (ks w : List ℕ) → Trees t A ks w → Q ks w
  trees_induction ks w x = elim x as (λ p w x. P p w) (λ ks w x. Q ks w) [
    | tree {p} ks {under} l (ts → q) ↦ on_tree p ks under l ts q
    | none ↦ on_none
    | more {k} {ks} {of} {rest} (y → r) (ys → q) ↦ on_more k ks of rest y ys r q
  ]

-- ---- what is listed under a tile hangs under it

module _ (t : List ℤ) (A : Area) where
  abbrev Hung : ℕ → List ℕ → Type 0
  Hung p w = (k : ℕ) → 1 ≤ times k w → Under t A p k

  abbrev Hung_each : List ℕ → List ℕ → Type 0
  Hung_each ks w = (k : ℕ) → 1 ≤ times k w → Above t A ks k

  hung_tree : (p : ℕ) (ks under : List ℕ) → Lists (Hangs t A p) (Over t) ks → Trees t A ks under → Hung_each ks under → Hung p (p ∷ under)
  hung_tree p ks under l ts q k h =
      eq_cases p k (λ e. self (sym e))
      (λ d. let (n, o, u) = q k (omega (arith, times_other k p under d)) in under_from t A p (get_or ks n 0) k (l.each n o) u)

  hung_none : Hung_each [] []
  hung_none k h = absurd (omega (arith, times_none k))

  hung_more : (c : ℕ) (ks of rest : List ℕ) → Tree t A c of → Trees t A ks rest → Hung c of → Hung_each ks rest → Hung_each (c ∷ ks) (of ++ rest)
  hung_more c ks of rest x xs first others k h =
      lt_cases 0 (times k of) (λ o. (0, omega arith, first k o)) (λ o. later t A c ks k (others k (omega (arith, times_append k of rest))))

  pub tree_hung : (p : ℕ) (w : List ℕ) → Tree t A p w → Hung p w
  tree_hung = tree_induction t A Hung Hung_each hung_tree hung_none hung_more

  pub trees_hung : (ks w : List ℕ) → Trees t A ks w → Hung_each ks w
  trees_hung = trees_induction t A Hung Hung_each hung_tree hung_none hung_more

-- ---- and is listed once

abbrev Separate : List ℤ → Area → List ℕ → Type 0
Separate t A ks = (i j k : ℕ) → i < length ks → j < length ks → Under t A (get_or ks i 0) k → Under t A (get_or ks j 0) k → i ≡ j

separate_rest : (t : List ℤ) (A : Area) (c : ℕ) (ks : List ℕ) → Separate t A (c ∷ ks) → Separate t A ks
separate_rest t A c ks s i j k h g u v = let e = s (suc i) (suc j) k (omega arith) (omega arith) u v in omega arith

module _ (t : List ℤ) (f : Forms t) (A : Area) where
  module _ (Q : ℕ → Type 0) (l : Level t f A Q) where
    pub not_both : (j k : ℕ) → Q j → Q k → Over t j k → Over t k j → ⊥
    not_both j k q r = not_both_over t f A j k (l.used j q) (l.used k r)

    -- entries that are one tile are one entry
    entry_one : (ks : List ℕ) → Lists Q (Over t) ks → (i j : ℕ) → i < j → j < length ks → get_or ks i 0 ≡ get_or ks j 0 → ⊥
    entry_one ks o i j c g e =
        let s = same_numbers t (get_or ks i 0) (get_or ks j 0) e in
        let b = o.order i j c g in
        not_both _ _ (o.each i (omega arith)) (o.each j g) b (omega arith)

    lists_separate : (ks : List ℕ) → Lists Q (Over t) ks → Separate t A ks
    lists_separate ks o i j k h g u v =
        let e = under_one t f A Q l (get_or ks i 0) (get_or ks j 0) k (o.each i h) (o.each j g) u v in
        lt_cases i j (λ c. absurd (entry_one ks o i j c g e))
        (λ c. lt_cases j i (λ d. absurd (entry_one ks o j i d h (sym e))) (λ d. omega arith))

  abbrev Once : ℕ → List ℕ → Type 0
  Once p w = (k : ℕ) → times k w ≤ 1

  abbrev Once_each : List ℕ → List ℕ → Type 0
  Once_each ks w = Separate t A ks → (k : ℕ) → times k w ≤ 1

  -- a tile is not listed among those under it
  not_under : (p : ℕ) (ks under : List ℕ) → Lists (Hangs t A p) (Over t) ks → Trees t A ks under → times p under ≡ 0
  not_under p ks under l ts =
      lt_cases 0 (times p under)
      (λ h.
      let (n, o, u) = trees_hung t A ks under ts p h in
      absurd (omega (arith, hangs_beside t f A p (get_or ks n 0) (l.each n o), under_right t f A (get_or ks n 0) p u)))
      (λ h. omega arith)

  once_tree : (p : ℕ) (ks under : List ℕ) → Lists (Hangs t A p) (Over t) ks → Trees t A ks under → Once_each ks under → Once p (p ∷ under)
  once_tree p ks under l ts q k =
      eq_cases p k
      (λ e. omega (arith, times_here k p under e, not_under p ks under l ts, ap (λ k. times k under) e))
      (λ d. omega (arith, times_other k p under d, q (lists_separate (Hangs t A p) (hangs_level t f A p) ks l) k))

  once_none : Once_each [] []
  once_none s k = omega (arith, times_none k)

  once_more : (c : ℕ) (ks of rest : List ℕ) → Tree t A c of → Trees t A ks rest → Once c of → Once_each ks rest → Once_each (c ∷ ks) (of ++ rest)
  once_more c ks of rest x xs first others s k =
      let a = times_append k of rest in
      let b = others (separate_rest t A c ks s) k in
      let d = first k in
      lt_cases 0 (times k of)
      (λ o. lt_cases 0 (times k rest)
      (λ o'.
      let (n, h, u) = trees_hung t A ks rest xs k o' in
      let e = s 0 (suc n) k (omega arith) (omega arith) (tree_hung t A c of x k o) u in
      absurd (omega arith))
      (λ o'. omega arith))
      (λ o. omega arith)

  tree_once : (p : ℕ) (w : List ℕ) → Tree t A p w → Once p w
  tree_once = tree_induction t A Once Once_each once_tree once_none once_more

  trees_once : (ks w : List ℕ) → Trees t A ks w → Once_each ks w
  trees_once = trees_induction t A Once Once_each once_tree once_none once_more

  pub directed_once : (w : List ℕ) → Directed t A w → (k : ℕ) → times k w ≤ 1
  directed_once w d = trees_once d.roots w d.trees (lists_separate (Root t A) (roots_level t f A) d.roots d.are)

  -- ---- so the list is short

  pub tree_short : (p : ℕ) (w : List ℕ) → UsedIn t p → Tree t A p w → length w ≤ records_of t
  tree_short p w u x = short (records_of t) w (λ k h. (under_used t A p k u (tree_hung t A p w x k h)).below) (tree_once p w x)

  pub trees_short : (Q : ℕ → Type 0) → Level t f A Q → (ks w : List ℕ) → Lists Q (Over t) ks → Trees t A ks w → length w ≤ records_of t
  trees_short Q l ks w o xs =
      short (records_of t) w
      (λ k h. let (n, i, u) = trees_hung t A ks w xs k h in (under_used t A (get_or ks n 0) k (l.used _ (o.each n i)) u).below)
      (trees_once ks w xs (lists_separate Q l ks o))

  pub directed_short : (w : List ℕ) → Directed t A w → length w ≤ records_of t
  directed_short w d = trees_short (Root t A) (roots_level t f A) d.roots w d.are d.trees
