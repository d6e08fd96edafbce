-- The tree of one tile p: how far the walk along p's right side has come, and what is written. Assumes nothing.
use Rattle.std.specs.Prelude.{◌≡◌, refl, Some, List, [], ◌∷◌, ◌++◌, ℕ, ◌+◌, ◌-◌, ◌≤◌, min, ℤ, length, take, drop}
use Rattle.std.proofs.Common.{sym, subst₂, arith}
use Rattle.geometry.specs.Picture.{right}
use Rattle.table.specs.Words.{RIGHT, records_of, num}
use Rattle.table.specs.Forms.{Forms}
use Rattle.seek.specs.Meaning.{Area, Over, Meets, Hangs, tree, none}
use Rattle.seek.specs.Walk.{Begins}
use Rattle.seek.specs.Lists.{Passed, lists_none, lists_same}
use Rattle.seek.specs.Hanging.{hangs_beside, hangs_level}
use Rattle.seek.specs.Writing.{words, over}
use Rattle.seek.specs.declared.side.Walk.{Walk}
use Rattle.seek.specs.Enumerate.{WritesTree}
use Rattle.seek.specs.Trees.{Written, written_short, written_pass, written_more, written_none}
use Rattle.seek.specs.RightSide.{Walking, Met, Onward, walking_starts, walking_after}

-- the trees of those tiles that the walk has met and that hang under p are written
pub record Going (t : List ℤ) (A : Area) (p : ℕ) (start out : List ℤ) (n : ℕ) (w : Walk) : Type 0 where
  pub walk : Walking t A p w
  pub written : Written t A (Hangs t A p) (Met walk) (p ∷ []) start out n

module _ (t : List ℤ) (f : Forms t) (A : Area) (p : ℕ) (m : Meets t A p) where
  -- nothing hangs under a tile that ends at the area's right or past it
  pub writes_alone : (old new : List ℤ) → A.right ≤ num t p RIGHT → new ≡ over (words (p ∷ [])) old → WritesTree t A p old new 1
  writes_alone old new h e = record {
    list = p ∷ [];
    is = tree [] (lists_none (Hangs t A p) (Over t) (λ k g. omega (arith, hangs_beside t f A p k g, g.meets.left))) none;
    count = refl;
    content = e;
  }

  pub going_starts : (start : List ℤ) (w : Walk) → Begins t right p w → Going t A p start start 1 w
  going_starts start w b =
      let s = walking_starts t f A p m w b in
      record { walk = s.walk; written = written_none t A (Hangs t A p) (Met s.walk) (p ∷ []) start (λ k h. s.none k) }

  -- all that hangs under p is met
  pub going_ends : (start out old : List ℤ) (n : ℕ) (w : Walk) (g : Going t A p start out n w) → ((k : ℕ) → Hangs t A p k → Met g.walk k)
      → start ≡ over (words (p ∷ [])) old → WritesTree t A p old out n
  going_ends start out old n w g all d =
      let r = g.written in
      record {
        list = p ∷ r.list;
        is = tree r.tops
            (lists_same (Passed (Hangs t A p) (Met g.walk)) (Hangs t A p) (Over t) r.tops (λ k q. q.is)
            (λ k q. record { is = q; met = all k q }) r.are)
            r.trees;
        count = r.count;
        content = r.content old d;
      }

  -- the walk stands at a tile
  module _ (start out : List ℤ) (n : ℕ) (w : Walk) (g : Going t A p start out n w) (k : ℕ) (e : w.at ≡ Some k) where
    pub going_short : n ≤ 1 + records_of t
    going_short = written_short t f A (Hangs t A p) (hangs_level t f A p) (Met g.walk) (p ∷ []) start out n g.written

    module _ (w' : Walk) (o : Onward g.walk k w') where
      -- the tile is passed by, or its tree is written to the rest of the list
      pub going_pass : (out' : List ℤ) (n' : ℕ) → (Hangs t A p k → ⊥) → out' ≡ out → n' ≡ n → Going t A p start out' n' w'
      going_pass out' n' not eo en = subst₂ (λ out n. Going t A p start out n w') (sym eo) (sym en) (record {
        walk = o.walk;
        written = written_pass t f A (Hangs t A p) (hangs_level t f A p) (Met g.walk) (p ∷ []) start out n g.written
            (Met o.walk) k o.grows (λ j q. o.no_other j) not;
      })

      pub going_more : (out' : List ℤ) (n' at c : ℕ) (ys : List ℤ) → Hangs t A p k → at ≡ min n (length out)
          → WritesTree t A k (take (length out - at) (drop at out)) ys c
          → out' ≡ take at out ++ (ys ++ drop (length out - at) (drop at out)) → n' ≡ n + c → Going t A p start out' n' w'
      going_more out' n' at c ys h ea v eo en = subst₂ (λ out n. Going t A p start out n w') (sym eo) (sym en) (record {
        walk = o.walk;
        written = written_more t f A (Hangs t A p) (hangs_level t f A p) (Met g.walk) (p ∷ []) start out n g.written
            (Met o.walk) k o.grows (λ j q. o.no_other j) h o.here (λ j q. walking_after t f A p m w g.walk k e j) at c ys ea v;
      })
