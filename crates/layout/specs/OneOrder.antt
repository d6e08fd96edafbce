-- A sound table has an order of its solids, and only one, so what save writes is settled by the table. Assumes nothing.
use Rattle.std.specs.Prelude.{◌≡◌, refl, true, List, ◌++◌, map, ℕ, ◌*◌, ◌<◌, T, ℤ, length, get_or, drop}
use Rattle.std.proofs.Common.{sym, ap, ap₂, ◌∙◌, subst, arith, eqb→eq}
use Rattle.geometry.specs.Cases.{lt_cases}
use Rattle.geometry.specs.Sums.{sum_const}
use Rattle.geometry.specs.Count.{inject, pigeonhole}
use Rattle.geometry.specs.Picture.{SOLID}
use Rattle.geometry.specs.Tiling.{eq→eqb}
use Rattle.geometry.specs.Counting.{count}
use Rattle.table.specs.Words.{KIND, records_of, num}
use Rattle.table.specs.Sound.{solid_at, solids_in, SolidIn}
use Rattle.seek.specs.Meaning.{Lists}
use Rattle.seek.specs.Lists.{lists_one}
use Rattle.layout.specs.Bytes.{file_bytes, SAVED}
use Rattle.layout.specs.Order.{Comes, higher, level, saved_of, Saves}

-- ---- the order of a saved layout

pub comes_asym : (t : List ℤ) (j k : ℕ) → Comes t j k → Comes t k j → ⊥
comes_asym t j k (higher a) (higher b) = omega arith
comes_asym t j k (higher a) (level b c) = omega arith
comes_asym t j k (level a b) (higher c) = omega arith
comes_asym t j k (level a b) (level c d) = omega arith

pub one_order : (t : List ℤ) (ks ls : List ℕ) → Lists (SolidIn t) (Comes t) ks → Lists (SolidIn t) (Comes t) ls → ks ≡ ls
one_order t = lists_one (SolidIn t) (Comes t) (λ j k u v. comes_asym t j k)

-- as many as there are solids
pub order_length : (t : List ℤ) (ks : List ℕ) → Lists (SolidIn t) (Comes t) ks → length ks ≡ solids_in t
unfolding count
order_length t ks l =
    let least = pigeonhole (records_of t) (length ks) (solid_at t) (λ i s. get_or ks s 0 ≡ i) (λ i h w. l.all i (solid i h w)) (λ i j s a b. sym a ∙ b) in
    let most = inject (length ks) (records_of t) (λ k. true) (solid_at t) (λ n s. (n < length ks) × (get_or ks n 0 ≡ s))
    (λ n h w. let q = l.each n h in (get_or ks n 0, q.below, eq→eqb (num t (get_or ks n 0) KIND) SOLID q.kind, (h, refl)))
    (λ m n s a b. one m n a.0 b.0 (a.1 ∙ sym b.1)) in
    omega (arith, sum_const (length ks) 1)
  where
    solid : (i : ℕ) → i < records_of t → T (solid_at t i) → SolidIn t i
    solid i h w = record { below = h; kind = eqb→eq (num t i KIND) SOLID w }

    before : (m n : ℕ) → m < n → n < length ks → get_or ks m 0 ≡ get_or ks n 0 → ⊥
    before m n h k e =
        let c = subst (λ z. Comes t z (get_or ks n 0)) e (l.order m n h k) in
        comes_asym t (get_or ks n 0) (get_or ks n 0) c c

    one : (m n : ℕ) → m < length ks → n < length ks → get_or ks m 0 ≡ get_or ks n 0 → m ≡ n
    one m n h k e = lt_cases m n (λ a. absurd (before m n a k e)) (λ a. lt_cases n m (λ b. absurd (before n m b h (sym e))) (λ b. omega arith))

-- ---- what save writes

pub saves_bytes : (t : List ℤ) (out out' : List ℕ) (r : ℕ) → Saves t out out' r → r ≡ SAVED * solids_in t
saves_bytes t out out' r s = s.number ∙ ap (λ n. SAVED * n) (order_length t s.solids s.lists)

pub saves_agree : (t : List ℤ) (out out₁ out₂ : List ℕ) (r₁ r₂ : ℕ) → Saves t out out₁ r₁ → Saves t out out₂ r₂ → (out₁ ≡ out₂) × (r₁ ≡ r₂)
saves_agree t out out₁ out₂ r₁ r₂ a b =
    let e = one_order t a.solids b.solids a.lists b.lists in
    let r : r₁ ≡ r₂ = a.number ∙ ap (λ ks. SAVED * length ks) e ∙ sym b.number in
    (a.writes ∙ ap₂ (λ ks n. file_bytes (map (saved_of t) ks) ++ drop n out) e r ∙ sym b.writes, r)
