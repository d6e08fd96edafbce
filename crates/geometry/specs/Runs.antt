-- Free runs and space strips of a set of solids: two with a common cell are one, and they depend on the solids alone. Assumes nothing.
use Rattle.std.specs.Prelude.{◌≡◌, ℕ, ◌-◌, ◌≤◌, ◌<◌}
use Rattle.std.proofs.Common.{sym, subst, subst₂, arith}
use Rattle.geometry.specs.Cases.{lt_cases}
use Rattle.geometry.specs.Picture.{Has, Solids, In, Free, Run, Strip}

-- ---- two with a common cell

pub record SameSpan (l r l' r' : ℕ) : Type 0 where
  pub left : l ≡ l'
  pub right : r ≡ r'

pub run_one : (S : Solids) (x y l r l' r' : ℕ) → Run S y l r → Run S y l' r' → l ≤ x → x < r → l' ≤ x → x < r' → SameSpan l r l' r'
run_one S x y l r l' r' p q a b a' b' = record {
  left = lt_cases l l'
      (λ h. absurd (q.no_longer_left (omega arith) (p.free (l' - 1) (omega arith) (omega arith))))
      (λ h. lt_cases l' l (λ k. absurd (p.no_longer_left (omega arith) (q.free (l - 1) (omega arith) (omega arith)))) (λ k. omega arith));
  right = lt_cases r r'
      (λ h. absurd (p.no_longer_right (omega arith) (q.free r (omega arith) (omega arith))))
      (λ h. lt_cases r' r (λ k. absurd (q.no_longer_right (omega arith) (p.free r' (omega arith) (omega arith)))) (λ k. omega arith));
}

pub run_span : (S : Solids) (y l r l' r' : ℕ) → SameSpan l r l' r' → Run S y l r → Run S y l' r'
run_span S y l r l' r' e p = subst₂ (λ l r. Run S y l r) e.left e.right p

-- the cell (x, y) lies between the four sides
pub record Within (l b r t x y : ℕ) : Type 0 where
  pub left : l ≤ x
  pub right : x < r
  pub bottom : b ≤ y
  pub top : y < t

pub record SameSides (l b r t l' b' r' t' : ℕ) : Type 0 where
  pub left : l ≡ l'
  pub bottom : b ≡ b'
  pub right : r ≡ r'
  pub top : t ≡ t'

pub strip_one : (S : Solids) (l b r t l' b' r' t' x y : ℕ) → Strip S l b r t → Strip S l' b' r' t'
    → Within l b r t x y → Within l' b' r' t' x y → SameSides l b r t l' b' r' t'
strip_one S l b r t l' b' r' t' x y p q a a' =
    let e : SameSpan l r l' r' =
    run_one S x y l r l' r' (p.rows y a.bottom a.top) (q.rows y a'.bottom a'.top) a.left a.right a'.left a'.right in
    let d : SameSpan l' r' l r = record { left = sym e.left; right = sym e.right } in
    record {
      left = e.left;
      right = e.right;
      bottom = lt_cases b b'
          (λ h. absurd (q.no_lower (run_span S (b' - 1) l r l' r' e (p.rows (b' - 1) (omega arith) (omega arith)))))
          (λ h. lt_cases b' b
          (λ k. absurd (p.no_lower (run_span S (b - 1) l' r' l r d (q.rows (b - 1) (omega arith) (omega arith)))))
          (λ k. omega arith));
      top = lt_cases t t'
          (λ h. absurd (p.no_higher (run_span S t l' r' l r d (q.rows t (omega arith) (omega arith)))))
          (λ h. lt_cases t' t
          (λ k. absurd (q.no_higher (run_span S t' l r l' r' e (p.rows t' (omega arith) (omega arith)))))
          (λ k. omega arith));
    }

-- ---- the same solids have the same strips

-- each solid of one stands in the other, the same tile
pub record SameSolids (S S' : Solids) : Type 0 where
  pub there : (k : ℕ) → In S k → (j : ℕ) × In S' j × (S'.at j ≡ S.at k)
  pub back : (j : ℕ) → In S' j → (k : ℕ) × In S k × (S.at k ≡ S'.at j)

pub same_turned : (S S' : Solids) → SameSolids S S' → SameSolids S' S
same_turned S S' e = record { there = e.back; back = e.there }

same_free : (S S' : Solids) → SameSolids S S' → (x y : ℕ) → Free S x y → Free S' x y
same_free S S' e x y f j u a = let (k, v, d) = e.back j u in f k v (subst (λ v. Has v x y) (sym d) a)

same_run : (S S' : Solids) → SameSolids S S' → (y l r : ℕ) → Run S y l r → Run S' y l r
same_run S S' e y l r p = record {
  y_low = p.y_low;
  y_high = p.y_high;
  from = p.from;
  some = p.some;
  to = p.to;
  free = λ x h k. same_free S S' e x y (p.free x h k);
  no_longer_left = λ h f. p.no_longer_left h (same_free S' S (same_turned S S' e) (l - 1) y f);
  no_longer_right = λ h f. p.no_longer_right h (same_free S' S (same_turned S S' e) r y f);
}

pub same_strips : (S S' : Solids) → SameSolids S S' → (l b r t : ℕ) → Strip S l b r t → Strip S' l b r t
same_strips S S' e l b r t p = record {
  some = p.some;
  rows = λ y h k. same_run S S' e y l r (p.rows y h k);
  no_lower = λ q. p.no_lower (same_run S' S (same_turned S S' e) (b - 1) l r q);
  no_higher = λ q. p.no_higher (same_run S' S (same_turned S S' e) t l r q);
}
