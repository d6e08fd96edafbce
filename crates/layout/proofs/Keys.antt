-- Rising keys are the order of a saved layout: the theorems of specs/Keys that end in the order. Assumes nothing.
use Rattle.std.specs.Prelude.{◌≡◌, List, map, ℕ, ◌<◌, ℤ, length, get_or}
use Rattle.std.proofs.Common.{sym, ◌∙◌, subst, subst₂, arith}
use Rattle.std.proofs.lemmas.List.{length-map}
use Rattle.std.proofs.Math.ListN.{get_or-map}
use Rattle.geometry.specs.Cases.{lt_cases}
use Rattle.geometry.specs.Picture.{SOLID}
use Rattle.geometry.specs.Tiling.{eq→eqb}
use Rattle.table.specs.Words.{LEFT, TOP, KIND, records_of, num}
use Rattle.table.specs.Sound.{SizeRight, solid_at, SolidIn}
use Rattle.table.specs.Forms.{Forms}
use Rattle.seek.specs.Meaning.{Lists}
use Rattle.layout.specs.Order.{Comes}
use Rattle.sorting.specs.Sorting.{Sorts}
use Rattle.sorting.specs.Keys.{RECORDS, record_of, key_at, key_before, key_of}
use Rattle.layout.specs.Keys.{key, solid_formed, one_corner, keys_to, own, record_at}

-- ---- rising keys are the order

pub key_comes : (t : List ℤ) → Forms t → (i j : ℕ) → SolidIn t i → SolidIn t j → i < RECORDS → j < RECORDS → key t i < key t j → Comes t i j
unfolding key
key_comes t f i j si sj hi hj h =
    let fi = solid_formed t f i si in
    let fj = solid_formed t f j sj in
    lt_cases (num t j TOP) (num t i TOP) (λ l. Comes.higher l)
    (λ l. lt_cases (num t i TOP) (num t j TOP) (λ m. absurd (omega arith))
    (λ m. lt_cases (num t i LEFT) (num t j LEFT) (λ n. Comes.level (omega arith) n)
    (λ n. lt_cases (num t j LEFT) (num t i LEFT) (λ o. absurd (omega arith))
    (λ o. let e = one_corner t f i j si sj (omega arith) (omega arith) in absurd (omega arith)))))

-- ---- sorted keys list the solids in order

module _ (t : List ℤ) (f : Forms t) (z : SizeRight t) (ks : List ℕ) (s : Sorts (keys_to t (records_of t)) ks) where
  record_before : (m n : ℕ) → m < n → n < length ks → Comes t (record_of (get_or ks m 0)) (record_of (get_or ks n 0))
  record_before m n h k =
      let si = record_at t f z ks s m (omega arith) in
      let sj = record_at t f z ks s n k in
      let ei = (key_at (solid_at t) (key t) (records_of t) (own t f z ks s) ks s m (omega arith)).2 in
      let ej = (key_at (solid_at t) (key t) (records_of t) (own t f z ks s) ks s n k).2 in
      key_comes t f (record_of (get_or ks m 0)) (record_of (get_or ks n 0)) si sj (omega (arith, si.below, z.most)) (omega (arith, sj.below, z.most))
      (omega (arith, key_before (solid_at t) (key t) (records_of t) (own t f z ks s) ks s m n h k, ei, ej))

  pub sorted_lists : Lists (SolidIn t) (Comes t) (map record_of ks)
  sorted_lists = record {
    each = λ n h. subst (SolidIn t) (sym (at n)) (record_at t f z ks s n (omega (arith, long)));
    all = λ k w.
        let (n, b, e) = key_of (solid_at t) (key t) (records_of t) (own t f z ks s) ks s k w.below (eq→eqb (num t k KIND) SOLID w.kind) in
        (n, omega (arith, long), at n ∙ e);
    order = λ m n h k. subst₂ (Comes t) (sym (at m)) (sym (at n)) (record_before m n h (omega (arith, long)));
  }
    where
      long : length (map record_of ks) ≡ length ks
      long = length-map ks record_of

      at : (n : ℕ) → get_or (map record_of ks) n 0 ≡ record_of (get_or ks n 0)
      at n = get_or-map record_of ks n 0
