-- The roots of an area, along its left edge from the top down: how far the descent has come, and what is written. Assumes nothing.
use Rattle.std.specs.Prelude.{◌≡◌, ◌⊎◌, List, [], ◌++◌, ℕ, ◌+◌, ◌-◌, ◌≤◌, ◌<◌, min, max, ℤ, length, take, drop}
use Rattle.std.proofs.Common.{sym, inl, inr, arith}
use Rattle.geometry.specs.Cases.{lt_cases}
use Rattle.table.specs.Words.{BOTTOM, TOP, records_of, num}
use Rattle.table.specs.Sound.{UsedIn}
use Rattle.table.specs.Forms.{Forms}
use Rattle.seek.specs.Meaning.{Area, RectRight, Over, Root}
use Rattle.seek.specs.Find.{Finds}
use Rattle.seek.specs.Search.{one_tile}
use Rattle.seek.specs.Lists.{Passed, lists_same}
use Rattle.seek.specs.Hanging.{formed, same_numbers, roots_level}
use Rattle.seek.specs.Writing.{over_none}
use Rattle.seek.specs.Enumerate.{WritesTree, WritesArea}
use Rattle.seek.specs.Trees.{Written, written_short, written_more, written_none}

-- a root that holds a cell of the edge in the row y or a higher one
abbrev pub RootMet : List ℤ → Area → ℕ → ℕ → Type 0
RootMet t A y k = y ≤ max (num t k BOTTOM) A.bottom

pub record Descending (t : List ℤ) (A : Area) (start out : List ℤ) (n k y : ℕ) : Type 0 where
  pub used : UsedIn t k
  pub to : y ≤ A.top
  pub written : Written t A (Root t A) (RootMet t A y) [] start out n

module _ (t : List ℤ) (f : Forms t) (A : Area) (a : RectRight A) where
  pub descending_starts : (start : List ℤ) (k : ℕ) → UsedIn t k → Descending t A start start 0 k A.top
  descending_starts start k u = record {
    used = u;
    to = omega arith;
    written = written_none t A (Root t A) (RootMet t A A.top) [] start (λ j r h. omega (arith, r.meets.bottom, a.high));
  }

  pub descending_ends : (start out : List ℤ) (n k y : ℕ) → Descending t A start out n k y → y ≤ A.bottom → WritesArea t A start out n
  descending_ends start out n k y d h =
      let r = d.written in
      record {
        list = r.list;
        is = record {
          roots = r.tops;
          are = lists_same (Passed (Root t A) (RootMet t A y)) (Root t A) (Over t) r.tops (λ j q. q.is) (λ j q. record { is = q; met = omega arith }) r.are;
          trees = r.trees;
        };
        count = r.count;
        content = r.content start (sym (over_none start));
      }

  pub descending_short : (start out : List ℤ) (n k y : ℕ) → Descending t A start out n k y → n ≤ records_of t
  descending_short start out n k y d =
      omega (arith, written_short t f A (Root t A) (roots_level t f A) (RootMet t A y) [] start out n d.written)

  -- the next root: the tile that holds the left edge's cell in the row under y
  module _ (y k : ℕ) (h : A.bottom < y) (to : y ≤ A.top) (v : Finds t A.left (y - 1) k) where
    pub next_root : Root t A k
    next_root = record {
      meets = record { used = v.used; left = omega (arith, v.has, a.wide); right = omega (arith, v.has); bottom = omega (arith, v.has); top = omega (arith, v.has) };
      first = omega (arith, v.has);
    }

    -- a root that has a row of the tile is the tile
    same_root : (j x : ℕ) → Root t A j → num t j BOTTOM ≤ x → x < num t j TOP → num t k BOTTOM ≤ x → x < num t k TOP → j ≡ k
    same_root j x r b c d e =
        one_tile t f j k A.left x r.meets.used v.used (omega (arith, r.first, r.meets.right)) (omega (arith, v.has))

    pub no_other_root : (j : ℕ) → Root t A j → RootMet t A (num t k BOTTOM) j → RootMet t A y j ⊎ (j ≡ k)
    no_other_root j r q =
        let w = formed t f j r.meets.used in
        lt_cases (max (num t j BOTTOM) A.bottom) y
        (λ o. inr (same_root j (max (num t j BOTTOM) A.bottom) r (omega arith) (omega (arith, r.meets.top)) q (omega (arith, v.has))))
        (λ o. inl o)

    after_root : (j : ℕ) → Root t A j → RootMet t A y j → Over t j k
    after_root j r q =
        let w = formed t f j r.meets.used in
        lt_cases (num t j BOTTOM) (num t k TOP)
        (λ o. absurd (omega (arith, v.has, same_numbers t j k (same_root j (num t j BOTTOM) r (omega arith) (omega arith) (omega (arith, v.has)) o))))
        (λ o. o)

    pub descending_on : (start out : List ℤ) (n k₀ : ℕ) → Descending t A start out n k₀ y → (at c : ℕ) (ys : List ℤ) → at ≡ min n (length out)
        → WritesTree t A k (take (length out - at) (drop at out)) ys c
        → Descending t A start (take at out ++ (ys ++ drop (length out - at) (drop at out))) (n + c) k (num t k BOTTOM)
    descending_on start out n k₀ d at c ys ea w = record {
      used = v.used;
      to = omega (arith, v.has);
      written = written_more t f A (Root t A) (roots_level t f A) (RootMet t A y) [] start out n d.written
          (RootMet t A (num t k BOTTOM)) k (λ j q. omega (arith, v.has)) no_other_root next_root (omega arith) after_root at c ys ea w;
    }
