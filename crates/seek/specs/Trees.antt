-- A row of trees, written one after the other to a lent list. Assumes nothing.
use Rattle.std.specs.Prelude.{◌≡◌, refl, ◌⊎◌, List, [], ◌∷◌, ◌++◌, ℕ, ◌+◌, ◌-◌, ◌≤◌, min, ℤ, length, take, drop}
use Rattle.std.proofs.Common.{sym, ap, ◌∙◌, subst, inl, inr, append-nil, append_assoc, arith, length-append}
use Rattle.table.specs.Words.{records_of}
use Rattle.table.specs.Forms.{Forms}
use Rattle.seek.specs.Meaning.{Area, Lists, Over, Tree, Trees, none, more}
use Rattle.seek.specs.Lists.{Passed, lists_none, lists_same, lists_more}
use Rattle.seek.specs.Hanging.{Level}
use Rattle.seek.specs.Once.{trees_short}
use Rattle.seek.specs.Writing.{words, over, over_length, back_length, over_rest, words_append, words_length}
use Rattle.seek.specs.Enumerate.{WritesTree}

-- the trees of those tiles with Q that are met; `head` stands before them, and was written where the list was `start`
pub record Written (t : List ℤ) (A : Area) (Q Met : ℕ → Type 0) (head : List ℕ) (start out : List ℤ) (n : ℕ) : Type 0 where
  pub tops : List ℕ
  pub list : List ℕ
  pub are : Lists (Passed Q Met) (Over t) tops
  pub trees : Trees t A tops list
  pub count : n ≡ length (head ++ list)
  pub long : length out ≡ length start
  pub content : (old : List ℤ) → start ≡ over (words head) old → out ≡ over (words (head ++ list)) old

trees_more : (t : List ℤ) (A : Area) (ks w : List ℕ) (k : ℕ) (v : List ℕ) → Trees t A ks w → Tree t A k v → Trees t A (ks ++ k ∷ []) (w ++ v)
trees_more t A ks w k v none y = subst (Trees t A (k ∷ [])) (append-nil v) (more y none)
trees_more t A ks w k v (more {of = of} {rest = rest} x xs) y =
    subst (Trees t A _) (sym (append_assoc of rest v)) (more x (trees_more t A _ rest k v xs y))

module _ (t : List ℤ) (f : Forms t) (A : Area) (Q : ℕ → Type 0) (l : Level t f A Q) where
  passed_level : (Met : ℕ → Type 0) → Level t f A (Passed Q Met)
  passed_level Met = record { used = λ k q. l.used k q.is; level = λ j k q a b u h. l.level j k q a.is b.is u h }

  module _ (Met : ℕ → Type 0) (head : List ℕ) (start out : List ℤ) (n : ℕ) (w : Written t A Q Met head start out n) where
    pub written_short : n ≤ length head + records_of t
    written_short =
        omega (arith, w.count, length-append head w.list, trees_short t f A (Passed Q Met) (passed_level Met) w.tops w.list w.are w.trees)

    -- a tile is passed by
    module _ (Met' : ℕ → Type 0) (k : ℕ) (grows : (j : ℕ) → Met j → Met' j) (no_other : (j : ℕ) → Q j → Met' j → Met j ⊎ (j ≡ k)) where
      pub written_pass : (Q k → ⊥) → Written t A Q Met' head start out n
      written_pass not = record {
        tops = w.tops;
        list = w.list;
        are = lists_same (Passed Q Met) (Passed Q Met') (Over t) w.tops
            (λ j p. record { is = p.is; met = grows j p.met })
            (λ j p. record { is = p.is; met = keep j p.is (no_other j p.is p.met) })
            w.are;
        trees = w.trees;
        count = w.count;
        long = w.long;
        content = w.content;
      }
        where
          keep : (j : ℕ) → Q j → Met j ⊎ (j ≡ k) → Met j
          keep j q (inl m) = m
          keep j q (inr e) = absurd (not (subst Q e q))

      -- or its tree is written to the rest of the list
      pub written_more : Q k → Met' k → ((j : ℕ) → Q j → Met j → Over t j k) → (at m : ℕ) (ys : List ℤ) → at ≡ min n (length out)
          → WritesTree t A k (take (length out - at) (drop at out)) ys m
          → Written t A Q Met' head start (take at out ++ (ys ++ drop (length out - at) (drop at out))) (n + m)
      written_more q met after at m ys ea v = record {
        tops = w.tops ++ k ∷ [];
        list = w.list ++ v.list;
        are = lists_more (Passed Q Met) (Passed Q Met') (Over t) w.tops k w.are
            (λ j p. record { is = p.is; met = grows j p.met })
            (record { is = q; met = met })
            (λ j p. split j p.is (no_other j p.is p.met))
            (λ j p. after j p.is p.met);
        trees = trees_more t A w.tops w.list k v.list w.trees v.is;
        count = omega (arith, w.count, v.count, length-append head w.list, length-append head (w.list ++ v.list), length-append w.list v.list);
        long = back_length out ys at (ap length v.content ∙ over_length (words v.list) (take (length out - at) (drop at out))) ∙ w.long;
        content = λ old e.
            over_rest (words (head ++ w.list)) (words v.list) old out ys n at (w.count ∙ sym (words_length (head ++ w.list))) (w.content old e) ea v.content
            ∙ ap (λ l. over l old) (sym (words_append (head ++ w.list) v.list) ∙ ap words (append_assoc head w.list v.list));
      }
        where
          split : (j : ℕ) → Q j → Met j ⊎ (j ≡ k) → Passed Q Met j ⊎ (j ≡ k)
          split j q (inl m) = inl (record { is = q; met = m })
          split j q (inr e) = inr e

pub written_none : (t : List ℤ) (A : Area) (Q Met : ℕ → Type 0) (head : List ℕ) (start : List ℤ) → ((k : ℕ) → Q k → Met k → ⊥)
    → Written t A Q Met head start start (length head)
written_none t A Q Met head start empty = record {
  tops = [];
  list = [];
  are = lists_none (Passed Q Met) (Over t) (λ k p. empty k p.is p.met);
  trees = none;
  count = ap length (sym (append-nil head));
  long = refl;
  content = λ old e. e ∙ ap (λ l. over (words l) old) (sym (append-nil head));
}
